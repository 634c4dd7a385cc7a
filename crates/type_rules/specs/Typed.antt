-- The typed program of files that break no sentence on types (docs/LANGUAGE.md, "Typed programs").
use Rattle.std.specs.Prelude.{◌≡◌, List, None}
use Rattle.ada_tree.specs.declared.unit.SourceUnit.{SourceUnit}
use Rattle.type_definitions.specs.Types.{Table}
use Rattle.type_definitions.specs.Whole.{known_of, type_fault}
use Rattle.typing_steps.specs.Programs.{program_of}
use Rattle.typed_tree.specs.Programs.{typed_program}
use Rattle.typed_programs.specs.declared.parts.ProgramParts.{ProgramParts}
use Rattle.typed_programs.specs.Parts.{HoldsProgram}

-- The files break no sentence on types, these are their types, and the parts are their typed
-- program.
pub record IsTyped (files : List (List SourceUnit)) (table : Table) (parts : ProgramParts) : Type 0 where
  pub no_fault : type_fault (program_of files) ≡ None
  pub types : table ≡ (known_of (program_of files)).table
  pub program : HoldsProgram parts (typed_program (known_of (program_of files)) (program_of files).units)
