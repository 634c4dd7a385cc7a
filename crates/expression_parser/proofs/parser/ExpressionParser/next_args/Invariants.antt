use Rattle.std.proofs.Common.{◌≡◌, suc, [], ◌∷◌, length}
use Rattle.ada_lexer.specs.declared.token.Symbol.TheVariants as s
use Rattle.token_reading.specs.Reading.{at, many, of_symbol}
use Rattle.token_reading.proofs.Loop.{with_front}
use Rattle.ada_grammar.specs.Expressions.{next_arg_in, expr}
use Rattle.expression_parser.proofs.parser.ExpressionParser.next_args.Given as goal

abbrev pub invariant-turns : goal.invariant-turns
invariant-turns g l =
    with_front l.all (at (many (of_symbol s.Comma ∷ []) (next_arg_in l.side (expr (suc l.self.depth)))) l.tokens)
    ≡ at (many (of_symbol s.Comma ∷ []) (next_arg_in l.side (expr (suc l.self.depth)))) l.initial.tokens

abbrev pub decreases-turns : goal.decreases-turns
decreases-turns g l = length l.tokens.tokens
