use Rattle.type_settled.specs.Rings.{AreInRoots}
use Rattle.type_settled.proofs.downward.downward.Given as goal

abbrev pub invariant-steps : goal.invariant-steps
invariant-steps l = AreInRoots l.table l.roots l.search.made.items
