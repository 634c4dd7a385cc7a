-- Typed programs as they are kept.
use Rattle.std.specs.Prelude.{◌≡◌, ◌<◌, map, length}
use Rattle.std.specs.List.{All as Each}
use Rattle.typed_tree.specs.Programs.{TypedProgram}
use Rattle.typed_statements.specs.Bodies.{sub_at}
use Rattle.typed_programs.specs.declared.parts.ProgramParts.{ProgramParts}

-- The program that the parts stand for.
abbrev pub program_of : ProgramParts → TypedProgram
program_of parts = record {
  objects = parts.objects;
  scopes = parts.scopes;
  subs = map (sub_at parts.rows) parts.subs;
  main = parts.main;
}

-- The code of all subprograms is there, and the parts stand for this program.
abbrev pub HoldsProgram : ProgramParts → TypedProgram → Type 0
HoldsProgram parts p = Each (λ b. b.body < length parts.rows.1) parts.subs × (program_of parts ≡ p)
