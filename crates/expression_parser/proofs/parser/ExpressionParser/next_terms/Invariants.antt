use Rattle.std.proofs.Common.{◌≡◌, suc, length}
use Rattle.token_reading.specs.Reading.{at, many}
use Rattle.token_reading.proofs.Loop.{with_front}
use Rattle.ada_grammar.specs.Expressions.{adding_first, next_term_in, expr}
use Rattle.expression_parser.proofs.parser.ExpressionParser.next_terms.Given as goal

abbrev pub invariant-turns : goal.invariant-turns
invariant-turns g l =
    with_front l.all (at (many adding_first (next_term_in l.self.depth (expr (suc l.self.depth)))) l.tokens)
    ≡ at (many adding_first (next_term_in l.self.depth (expr (suc l.self.depth)))) l.initial.tokens

abbrev pub decreases-turns : goal.decreases-turns
decreases-turns g l = length l.tokens.tokens
