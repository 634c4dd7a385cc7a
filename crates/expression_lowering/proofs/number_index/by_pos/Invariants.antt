use Rattle.std.proofs.Common.{◌≤◌, drop, length}
use Rattle.expression_lowering.specs.NumberIndexes.{Finds}
use Rattle.expression_lowering.proofs.number_index.by_pos.Given as goal

abbrev pub invariant-turns : goal.invariant-turns
invariant-turns l = (l.left ≤ length l.all) × Finds l.made.entries (drop l.left l.all)

abbrev pub decreases-turns : goal.decreases-turns
decreases-turns l = l.left
