use Rattle.std.proofs.Common.{◌-◌, ◌≤◌, length}
use Rattle.expression_lowering.specs.NumberIndexes.{BeginsBehind, EndsBefore}
use Rattle.expression_lowering.proofs.number_index.number_between.Given as goal

abbrev pub invariant-halves : goal.invariant-halves
invariant-halves l =
    (l.high ≤ length l.all)
    × (EndsBefore l.all l.fn.from l.pos → EndsBefore l.all l.low l.pos)
    × (BeginsBehind l.all l.fn.to l.pos → BeginsBehind l.all l.high l.pos)

abbrev pub decreases-halves : goal.decreases-halves
decreases-halves l = l.high - l.low
