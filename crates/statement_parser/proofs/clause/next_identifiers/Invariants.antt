use Rattle.std.proofs.Common.{◌≡◌, [], ◌∷◌, length}
use Rattle.ada_lexer.specs.declared.token.Symbol.TheVariants.{Comma}
use Rattle.token_reading.specs.Reading.{at, many, of_symbol}
use Rattle.ada_grammar.specs.Items.{next_identifier}
use Rattle.token_reading.proofs.Loop.{with_front}
use Rattle.statement_parser.proofs.clause.next_identifiers.Given as goal

abbrev pub invariant-turns : goal.invariant-turns
invariant-turns l = with_front l.all (at (many (of_symbol Comma ∷ []) next_identifier) l.tokens)
    ≡ at (many (of_symbol Comma ∷ []) next_identifier) l.initial.tokens

abbrev pub decreases-turns : goal.decreases-turns
decreases-turns l = length l.tokens.tokens
