use Rattle.std.proofs.Common.{take}
use Rattle.state_trees.specs.Concerns.{AreIndexed}
use Rattle.state_trees.proofs.index.by_object.Given as goal

abbrev pub invariant-facts : goal.invariant-facts
invariant-facts l = AreIndexed l.made.entries (take l.i l.facts)
