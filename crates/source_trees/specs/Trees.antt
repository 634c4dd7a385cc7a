-- The trees of texts (docs/LANGUAGE.md, "Grammar").
use Rattle.std.specs.Prelude.{◌≡◌, ℕ, List, [], ◌∷◌, Ok, map, None}
use Rattle.spark_base.specs.declared.limits.TheConstants.{TOKENS}
use Rattle.ada_lexer.specs.Tokens.{Cut}
use Rattle.token_reading.specs.Spelled.{Spelled, told_as}
use Rattle.ada_tree.specs.declared.unit.SourceUnit.{SourceUnit}
use Rattle.ada_tree.specs.Refusals.{IsTreeOf}
use Rattle.name_events.specs.Faults.{name_fault}
use Rattle.source_trees.specs.Cuts.{all_tokens}

-- What a token is to the grammar.
abbrev pub told_cut : Cut → Spelled
told_cut cut = told_as cut.kind cut.pos cut.text

-- For each file the units that its tokens spell, in order. There is one such list of units for each
-- file, and no token exceeds a limit.
abbrev pub AreTreesOf : List (List Cut) → List (List SourceUnit) → Type 0
AreTreesOf [] [] = Unit {0}
AreTreesOf [] (units ∷ trees) = ⊥
AreTreesOf (cuts ∷ files) [] = ⊥
AreTreesOf (cuts ∷ files) (units ∷ trees) = IsTreeOf (map told_cut cuts) units × AreTreesOf files trees

-- The texts have tokens, and these are the trees of their files.
pub record AreRead (texts : List (List ℕ)) (trees : List (List SourceUnit)) : Type 0 where
  pub cuts : List (List Cut)
  pub cut : all_tokens 0 TOKENS texts ≡ Ok cuts
  pub parsed : AreTreesOf cuts trees

-- The trees of some texts, which break no rule of names.
pub record AreNamed (trees : List (List SourceUnit)) : Type 0 where
  pub texts : List (List ℕ)
  pub read : AreRead texts trees
  pub named : name_fault trees ≡ None
