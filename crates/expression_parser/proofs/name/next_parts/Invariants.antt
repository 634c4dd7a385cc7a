use Rattle.std.proofs.Common.{◌≡◌, [], ◌∷◌, length}
use Rattle.ada_lexer.specs.declared.token.Symbol.TheVariants as s
use Rattle.token_reading.specs.Reading.{at, many, of_symbol}
use Rattle.token_reading.proofs.Loop.{with_front}
use Rattle.ada_grammar.specs.Expressions.{next_part}
use Rattle.expression_parser.proofs.name.next_parts.Given as goal

abbrev pub invariant-turns : goal.invariant-turns
invariant-turns l =
    with_front l.all (at (many (of_symbol s.Dot ∷ []) (next_part l.side)) l.tokens)
    ≡ at (many (of_symbol s.Dot ∷ []) (next_part l.side)) l.initial.tokens

abbrev pub decreases-turns : goal.decreases-turns
decreases-turns l = length l.tokens.tokens
