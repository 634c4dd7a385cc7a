use Rattle.flow_paths.specs.Printing.{printed_name}
use Rattle.point_states.proofs.Moves.{along_next}
use Rattle.path_reports.proofs.Putting.{acts_next}
use Rattle.path_reports.proofs.reports.put_acts.Goals as goal

pub acts-preserved : goal.acts-preserved
acts-preserved c = (
  along_next _ c.acts.placed-index c.placed-item.result c.placed-item.result _ _ _ c.acts-test.true c.placed-item.is c.in_ok-apply.ensures.ok c.acts.invariant.0,
  acts_next (printed_name c.args.table.now c.args.objects.now) c.args.acts.now c.acts.placed-index c.placed-item.result c.placed-item.result
      c.acts.tree c.apply.new.self c.acts.set c.put_act.new.set _ c.acts-test.true c.placed-item.is c.in_ok-apply.ensures.ok c.in_ok-put_act.ensures
      c.acts.invariant.1,
)
