use Rattle.std.proofs.Common.{◌≡◌, [], ◌∷◌, length}
use Rattle.ada_lexer.specs.declared.token.Symbol.TheVariants as s
use Rattle.token_reading.specs.Reading.{at, many, of_symbol}
use Rattle.token_reading.proofs.Loop.{with_front}
use Rattle.ada_grammar.specs.Expressions.{next_dotted}
use Rattle.expression_parser.proofs.name.next_dotteds.Given as goal

abbrev pub invariant-turns : goal.invariant-turns
invariant-turns l =
    with_front l.all (at (many (of_symbol s.Comma ∷ []) next_dotted) l.tokens)
    ≡ at (many (of_symbol s.Comma ∷ []) next_dotted) l.initial.tokens

abbrev pub decreases-turns : goal.decreases-turns
decreases-turns l = length l.tokens.tokens
