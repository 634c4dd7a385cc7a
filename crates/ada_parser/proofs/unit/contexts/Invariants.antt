use Rattle.std.proofs.Common.{◌≡◌, length}
use Rattle.token_reading.specs.Reading.{at, many}
use Rattle.token_reading.proofs.Loop.{with_front}
use Rattle.ada_grammar.specs.Units.{context, context_first}
use Rattle.ada_parser.proofs.unit.contexts.Given as goal

abbrev pub invariant-turns : goal.invariant-turns
invariant-turns l = with_front l.all (at (many context_first context) l.tokens) ≡ at (many context_first context) l.initial.tokens

abbrev pub decreases-turns : goal.decreases-turns
decreases-turns l = length l.tokens.tokens
