use Rattle.std.proofs.Common.{◌≡◌, length}
use Rattle.token_reading.specs.Reading.{at, many}
use Rattle.token_reading.proofs.Loop.{with_front}
use Rattle.ada_grammar.specs.Units.{body_part, decl_first}
use Rattle.ada_parser.proofs.package.body_parts.Given as goal

abbrev pub invariant-turns : goal.invariant-turns
invariant-turns l = with_front l.all (at (many decl_first body_part) l.tokens) ≡ at (many decl_first body_part) l.initial.tokens

abbrev pub decreases-turns : goal.decreases-turns
decreases-turns l = length l.tokens.tokens
