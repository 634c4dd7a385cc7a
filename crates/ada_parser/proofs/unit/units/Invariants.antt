use Rattle.std.proofs.Common.{◌≡◌, length}
use Rattle.token_reading.specs.Reading.{at, many}
use Rattle.token_reading.proofs.Loop.{with_front}
use Rattle.ada_grammar.specs.Units.{unit, unit_first, source}
use Rattle.ada_parser.proofs.unit.units.Given as goal

abbrev pub invariant-turns : goal.invariant-turns
invariant-turns l = with_front l.all (at (many unit_first unit) l.tokens) ≡ at source l.fn.tokens

abbrev pub decreases-turns : goal.decreases-turns
decreases-turns l = length l.tokens.tokens
