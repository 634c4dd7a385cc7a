use Rattle.std.proofs.Common.{◌≡◌, suc, length}
use Rattle.token_reading.specs.Reading.{at, many}
use Rattle.token_reading.proofs.Loop.{with_front}
use Rattle.ada_grammar.specs.Expressions.{multiplying_first, next_factor_in, expr}
use Rattle.expression_parser.proofs.parser.ExpressionParser.next_factors.Given as goal

abbrev pub invariant-turns : goal.invariant-turns
invariant-turns g l =
    with_front l.all (at (many multiplying_first (next_factor_in l.self.depth (expr (suc l.self.depth)))) l.tokens)
    ≡ at (many multiplying_first (next_factor_in l.self.depth (expr (suc l.self.depth)))) l.initial.tokens

abbrev pub decreases-turns : goal.decreases-turns
decreases-turns g l = length l.tokens.tokens
