use Rattle.std.proofs.Common.{sym, subst, ◌+◌}
use Rattle.point_states.specs.Carries.{IsStarted}
use Rattle.point_states.proofs.Started.{started_more}
use Rattle.point_states.proofs.worklist.start_trees.Goals as goal

pub points-preserved : goal.points-preserved
points-preserved c = subst (IsStarted (c.points._point + 1) c.args.facts.now) (sym c.in_ok-push-2.ensures.items)
    (started_more c.points._point c.args.facts.now c.points.trees.items c.points.invariant)
