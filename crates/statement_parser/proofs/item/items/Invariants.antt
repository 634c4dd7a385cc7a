use Rattle.std.proofs.Common.{◌≡◌, length}
use Rattle.token_reading.specs.Reading.{at, many}
use Rattle.ada_grammar.specs.Items.{item, item_first}
use Rattle.token_reading.proofs.Loop.{with_front}
use Rattle.statement_parser.proofs.item.items.Given as goal

abbrev pub invariant-turns : goal.invariant-turns
invariant-turns l = with_front l.all (at (many item_first (item l.fn.depth)) l.tokens)
    ≡ at (many item_first (item l.fn.depth)) l.initial.tokens

abbrev pub decreases-turns : goal.decreases-turns
decreases-turns l = length l.tokens.tokens
