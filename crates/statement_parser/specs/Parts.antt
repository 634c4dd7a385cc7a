-- The parts that a function reads, as the readers give them.
use Rattle.std.specs.Prelude.{Option, Some, None}
use Rattle.spark_base.specs.declared.position.Pos.{Pos}
use Rattle.ada_grammar.specs.Items as items
use Rattle.ada_grammar.specs.Statements as statements
use Rattle.expression_parser.specs.declared.parts.Constraint.{Constraint}
use Rattle.expression_parser.specs.Parts.{constraint_parts}
use Rattle.statement_parser.specs.declared.parts.Element.{Element}
use Rattle.statement_parser.specs.declared.parts.Literals.{Literals}
use Rattle.statement_parser.specs.declared.parts.Actuals.{Actuals}
use Rattle.statement_parser.specs.declared.parts.Ending.{Ending}
use Rattle.statement_parser.specs.declared.parts.LoopBody.{LoopBody}

abbrev pub element_parts : Element → items.ElementParts
element_parts x = (x.right_paren, (x.of, (x.mark, x.semicolon)))

abbrev pub literal_parts : Literals → items.LiteralParts
literal_parts x = (x.first, (x.rest, (x.right_paren, x.semicolon)))

abbrev pub actual_parts : Actuals → items.ActualParts
actual_parts x = (x.first, (x.rest, (x.right_paren, x.semicolon)))

abbrev pub subtype_end : Option Constraint × Pos → items.SubtypeEnd
subtype_end (None, semicolon) = (None, semicolon)
subtype_end (Some x, semicolon) = (Some (constraint_parts x), semicolon)

abbrev pub ending_parts : Ending → statements.Ending
ending_parts x = (x.end, (x.word, x.semicolon))

abbrev pub loop_parts : LoopBody → statements.LoopBody
loop_parts x = (x.loop_word, (x.stmts, ending_parts x.ending))
