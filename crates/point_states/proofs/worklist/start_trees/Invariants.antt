use Rattle.point_states.specs.Carries.{IsStarted}
use Rattle.point_states.proofs.worklist.start_trees.Given as goal

abbrev pub invariant-points : goal.invariant-points
invariant-points l = IsStarted l._point l.facts l.trees.items
