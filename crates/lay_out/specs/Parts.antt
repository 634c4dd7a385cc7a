-- The parts of a typed program.
use Rattle.typed_programs.specs.declared.parts.ProgramParts.{ProgramParts}
use Rattle.type_rules.specs.declared.typed.Typed.{Typed}

abbrev pub parts_of : Typed → ProgramParts
parts_of typed = record {
  rows = typed.rows;
  objects = typed.objects;
  scopes = typed.scopes;
  subs = typed.subs;
  main = typed.main;
}
