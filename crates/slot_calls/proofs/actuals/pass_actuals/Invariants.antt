use Rattle.std.proofs.Common.{◌≡◌, length, map, drop}
use Rattle.code_rows.specs.Points.{actual_of}
use Rattle.slot_memory.specs.Memory.{elsewhere}
use Rattle.slot_calls.specs.Calls.{passed_of, AreWithin, PassableAll}
use Rattle.slot_calls.proofs.Passing.{Follows}
use Rattle.slot_calls.proofs.actuals.pass_actuals.Given as goal

abbrev pub invariant-actuals : goal.invariant-actuals
invariant-actuals g l =
    Follows g.R.Store.Means l.initial.memory l.table (map (actual_of l.rows) l.actuals) (map (passed_of l.hand) l.passes.items) (map (actual_of l.rows) (drop l.i l.actuals)) l.memory
    × PassableAll g.R.Store.Means l.memory l.table (map (actual_of l.rows) (drop l.i l.actuals))
    × AreWithin (length l.hand) l.passes.items
    × (elsewhere l.memory ≡ elsewhere l.initial.memory)
