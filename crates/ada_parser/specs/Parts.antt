-- The parts that a function reads, as the readers give them.
use Rattle.std.specs.Prelude.{List, Option}
use Rattle.spark_base.specs.declared.position.Pos.{Pos}
use Rattle.ada_tree.specs.declared.identifier.Identifier.{Identifier}
use Rattle.ada_tree.specs.declared.subprogram.Decl.{Decl}
use Rattle.ada_tree.specs.declared.unit.PrivatePart.{PrivatePart}
use Rattle.ada_tree.specs.declared.unit.BodyPart.{BodyPart}
use Rattle.ada_tree.specs.declared.unit.SourceUnit.{SourceUnit}
use Rattle.ada_tree.specs.declared.trees.Trees.{Trees}
use Rattle.ada_grammar.specs.Units.{ClosingParts, SubprogramParts, DeclParts, PackageBodyEnd}
use Rattle.ada_parser.specs.declared.parts.Closing.{Closing}
use Rattle.ada_parser.specs.declared.parts.Body.{Body}
use Rattle.ada_parser.specs.declared.parts.Decls.{Decls}
use Rattle.ada_parser.specs.declared.parts.BodyParts.{BodyParts}

abbrev pub closing_parts : Closing → ClosingParts
closing_parts x = (x.end, (x.name, x.semicolon))

abbrev pub subprogram_parts : Body → SubprogramParts
subprogram_parts x = (x.items, (x.begin, (x.stmts, closing_parts x.closing)))

abbrev pub decl_parts : Decls → DeclParts
decl_parts x = (x.visible, (x.private, closing_parts x.closing))

abbrev pub body_end_parts : BodyParts → PackageBodyEnd
body_end_parts x = (x.parts, closing_parts x.closing)

abbrev pub units_of : Trees → List SourceUnit
units_of x = x.units
