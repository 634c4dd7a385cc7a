-- Where the grammar refuses the first file that isn't that of a source (docs/LANGUAGE.md, "Grammar").
use Rattle.std.specs.Prelude.{◌≡◌, List, ◌∷◌, ◌++◌, map, All}
use Rattle.spark_base.specs.declared.position.Pos.{Pos}
use Rattle.ada_lexer.specs.Tokens.{Cut}
use Rattle.ada_tree.specs.declared.unit.SourceUnit.{SourceUnit}
use Rattle.ada_tree.specs.Refusals.{Code, IsRefused, IsTreeOf}
use Rattle.source_trees.specs.Trees.{told_cut}

-- The tokens of a file spell a source, and none of them exceeds a limit.
abbrev pub IsParsed : List Cut → Type 0
IsParsed cuts = (units : List SourceUnit) × IsTreeOf (map told_cut cuts) units

-- A token of the file is refused with the code, at its position.
pub record IsRefusedAt (code : Code) (at : Pos) (cuts : List Cut) : Type 0 where
  pub before : List Cut
  pub token : Cut
  pub behind : List Cut
  pub splits : cuts ≡ before ++ (token ∷ behind)
  pub position : token.pos ≡ at
  pub refused : IsRefused code (map told_cut before) (told_cut token)

-- The files before are those of sources, and the next one is refused with the code, at the
-- position.
pub record FirstRefused (code : Code) (at : Pos) (files : List (List Cut)) : Type 0 where
  pub before : List (List Cut)
  pub file : List Cut
  pub behind : List (List Cut)
  pub splits : files ≡ before ++ (file ∷ behind)
  pub parsed : All IsParsed before
  pub refused : IsRefusedAt code at file
