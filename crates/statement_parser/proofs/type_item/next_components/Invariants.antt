use Rattle.std.proofs.Common.{◌≡◌, [], ◌∷◌, length}
use Rattle.token_reading.specs.Reading.{at, many, of_ident}
use Rattle.ada_grammar.specs.Items.{component}
use Rattle.token_reading.proofs.Loop.{with_front}
use Rattle.statement_parser.proofs.type_item.next_components.Given as goal

abbrev pub invariant-turns : goal.invariant-turns
invariant-turns l = with_front l.all (at (many (of_ident ∷ []) component) l.tokens)
    ≡ at (many (of_ident ∷ []) component) l.initial.tokens

abbrev pub decreases-turns : goal.decreases-turns
decreases-turns l = length l.tokens.tokens
