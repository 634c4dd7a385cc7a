use Rattle.std.proofs.Common.{ℕ, ◌+◌, ◌<◌, get_or}
use Rattle.alias_rules.proofs.order.ascends.Given as goal

abbrev pub invariant-list : goal.invariant-list
invariant-list l = (k : ℕ) → k + 1 < l.i → get_or l.list k 0 < get_or l.list (k + 1) 0
