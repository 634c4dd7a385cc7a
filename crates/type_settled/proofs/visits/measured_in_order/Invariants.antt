use Rattle.type_settled.specs.Measures.{marked}
use Rattle.type_settled.specs.Orders.{IsOrdered}
use Rattle.type_settled.proofs.visits.measured_in_order.Given as goal

abbrev pub invariant-types : goal.invariant-types
invariant-types l = IsOrdered (marked l.unsound) l.table l.order
