use Rattle.type_settled.specs.Rings.{AreInRings}
use Rattle.type_settled.proofs.rings.in_both.Given as goal

abbrev pub invariant-types : goal.invariant-types
invariant-types l = AreInRings l.table l.made.items
