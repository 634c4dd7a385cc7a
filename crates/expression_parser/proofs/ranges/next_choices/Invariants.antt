use Rattle.std.proofs.Common.{◌≡◌, [], ◌∷◌, length}
use Rattle.ada_lexer.specs.declared.token.Symbol.TheVariants.{Bar}
use Rattle.token_reading.specs.Reading.{at, many, of_symbol}
use Rattle.ada_grammar.specs.Items.{next_choice}
use Rattle.token_reading.proofs.Loop.{with_front}
use Rattle.expression_parser.proofs.ranges.next_choices.Given as goal

abbrev pub invariant-turns : goal.invariant-turns
invariant-turns l = with_front l.all (at (many (of_symbol Bar ∷ []) (next_choice l.fn.depth)) l.tokens)
    ≡ at (many (of_symbol Bar ∷ []) (next_choice l.fn.depth)) l.initial.tokens

abbrev pub decreases-turns : goal.decreases-turns
decreases-turns l = length l.tokens.tokens
