use Rattle.std.proofs.Common.{◌≡◌, suc, length}
use Rattle.token_reading.specs.Reading.{at, many}
use Rattle.token_reading.proofs.Loop.{with_front}
use Rattle.ada_grammar.specs.Expressions.{suffix_first, suffix_in, expr}
use Rattle.expression_parser.proofs.parser.ExpressionParser.suffixes.Given as goal

abbrev pub invariant-turns : goal.invariant-turns
invariant-turns g l =
    with_front l.all (at (many suffix_first (suffix_in l.side l.self.depth (expr (suc l.self.depth)))) l.tokens)
    ≡ at (many suffix_first (suffix_in l.side l.self.depth (expr (suc l.self.depth)))) l.initial.tokens

abbrev pub decreases-turns : goal.decreases-turns
decreases-turns g l = length l.tokens.tokens
