use Rattle.std.proofs.Common.{◌≡◌, ◌≤◌, ◌-◌, None}
use Rattle.slot_running.specs.Runs.{AreKept, LeadsTo}
use Rattle.slot_running.proofs.turns.turns.Given as goal

abbrev pub invariant-steps : goal.invariant-steps
invariant-steps g l =
    LeadsTo g.R.Store.Means l.codes l.table l.limit l.made None l.initial.parts l.parts
    × AreKept g.R.Store.Means None l.parts
    × (l.parts.memory.heap.lent ≡ l.initial.parts.memory.heap.lent)
    × (l.made ≤ l.limit)

abbrev pub decreases-steps : goal.decreases-steps
decreases-steps g l = l.limit - l.made
