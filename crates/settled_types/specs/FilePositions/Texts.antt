-- Files that are parsed from texts.
use Rattle.std.specs.Prelude.{◌≡◌, ℕ, suc, List, [], ◌∷◌, map}
use Rattle.machine.specs.spark_base.Lists.{Has}
use Rattle.machine.specs.spark_base.Positions.{Precedes}
use Rattle.ada_lexer.specs.Tokens.{Cut}
use Rattle.token_reading.specs.Spelled.{Spelled, told_as}
use Rattle.ada_tree.specs.declared.unit.SourceUnit.{SourceUnit}
use Rattle.ada_tree.specs.Refusals.{IsSpelledBy}

-- What a token is to the grammar.
abbrev pub told_cut : Cut → Spelled
told_cut cut = told_as cut.kind cut.pos cut.text

-- Each token stands before those after it.
abbrev pub AreInOrder : List Cut → Type 0
AreInOrder [] = Unit {0}
AreInOrder (cut ∷ rest) = ((x : Cut) → Has rest x → Precedes cut.pos x.pos) × AreInOrder rest

-- The tokens of a text with this number: they stand in the order of the text, all in this file.
pub record IsText (file : ℕ) (cuts : List Cut) : Type 0 where
  pub ordered : AreInOrder cuts
  pub in_file : (x : Cut) → Has cuts x → x.pos.file ≡ file

-- The tokens of texts, numbered from here on, spell the trees of these files.
abbrev pub AreParsed : ℕ → List (List Cut) → List (List SourceUnit) → Type 0
AreParsed file [] [] = Unit {0}
AreParsed file (cuts ∷ texts) (units ∷ files) =
    IsText file cuts × IsSpelledBy (map told_cut cuts) units × AreParsed (suc file) texts files
AreParsed file _ _ = ⊥
