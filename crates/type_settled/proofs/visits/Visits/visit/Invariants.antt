use Rattle.type_settled.specs.Measures.{marked}
use Rattle.type_settled.specs.Orders.{IsOrdered}
use Rattle.type_settled.proofs.visits.Visits.visit.Given as goal

abbrev pub invariant-opened : goal.invariant-opened
invariant-opened l = IsOrdered (marked l.unsound) l.table l.order
