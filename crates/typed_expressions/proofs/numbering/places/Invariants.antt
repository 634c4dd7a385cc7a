use Rattle.std.proofs.Common.{◌≤◌, ◌+◌, drop, length}
use Rattle.typed_expressions.specs.Numbers.{Counts}
use Rattle.typed_expressions.proofs.numbering.places.Given as goal

abbrev pub invariant-turns : goal.invariant-turns
invariant-turns l = (l.left ≤ length l.order) × Counts l.made.entries (l.left + 1) (drop l.left l.order)

abbrev pub decreases-turns : goal.decreases-turns
decreases-turns l = l.left
