use Rattle.std.proofs.Common.{◌≡◌, ◌+◌, ◌*◌, ◌<◌, ◌≤◌, length, max}
use Rattle.code_rows.specs.Values.{fill_at}
use Rattle.slot_memory.specs.Memory.{elsewhere}
use Rattle.slot_values.specs.Fillings.{Fillable}
use Rattle.slot_values.proofs.Nested.{Follows}
use Rattle.slot_values.proofs.fills.+list.Given as goal

abbrev pub decreases-part : goal.decreases-part
decreases-part g l = 4 * l.n + 1

abbrev pub decreases-list : goal.decreases-list
decreases-list g l = 4 * l.n + 2

abbrev pub decreases-nested : goal.decreases-nested
decreases-nested g l = 4 * l.n + 3

abbrev pub decreases-new : goal.decreases-new
decreases-new g l = 4 * l.value + 4

abbrev pub decreases-repeated : goal.decreases-repeated
decreases-repeated g l = 4 * l.value + 4

abbrev pub decreases-both : goal.decreases-both
decreases-both g l = 4 * (max l.first l.second) + 4

abbrev pub invariant-list-values : goal.invariant-list-values
invariant-list-values g l = record {
  there : l.rest < length l.fills;
  below : l.rest ≤ l.n;
  same : Follows g.R.Store.Means l.fn.memory l.table (fill_at l.nodes l.fills l.n) l.fn.hand (fill_at l.nodes l.fills l.rest) l.memory l.hand;
  whole : Fillable g.R.Store.Means l.memory l.table (fill_at l.nodes l.fills l.rest);
  elsewhere : elsewhere l.memory ≡ elsewhere l.fn.memory;
}

abbrev pub decreases-list-values : goal.decreases-list-values
decreases-list-values g l = l.rest
