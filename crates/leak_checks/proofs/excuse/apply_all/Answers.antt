use Rattle.point_states.proofs.Moves.{along_next, along_done}
use Rattle.leak_checks.proofs.excuse.apply_all.Goals as goal

pub acts-preserved : goal.acts-preserved
acts-preserved c =
    along_next _ c.acts.placed-index c.placed-item.result c.placed-item.result _ _ _ c.acts-test.true c.placed-item.is c.in_ok-apply.ensures.ok c.acts.invariant

pub returns : goal.returns
returns c = along_done _ c.acts.placed-index _ _ c.acts-test.false c.acts.invariant
