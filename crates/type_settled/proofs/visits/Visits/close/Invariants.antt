use Rattle.std.proofs.Common.{length}
use Rattle.type_settled.specs.Measures.{marked}
use Rattle.type_settled.specs.Orders.{IsOrdered}
use Rattle.type_settled.proofs.visits.Visits.close.Given as goal

abbrev pub invariant-types : goal.invariant-types
invariant-types l = IsOrdered (marked l.unsound) l.table l.order

abbrev pub decreases-types : goal.decreases-types
decreases-types l = length l.self.stack.items
