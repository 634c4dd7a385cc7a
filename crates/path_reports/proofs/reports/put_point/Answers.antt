use Rattle.flow_paths.specs.Printing.{printed_name}
use Rattle.path_reports.proofs.Putting.{point_put}
use Rattle.path_reports.proofs.reports.put_point.Goals as goal

pub returns-clause-set : goal.returns-clause-set
returns-clause-set c =
    point_put (printed_name c.args.table.now c.args.objects.now) c.args.objects.now c.args.effects.now c.args.point.now c.as_slice.result.now
    c.args.tree c.put_acts.new.tree c.args.set.now c.put_acts.new.set c.put_called.new.set c.as_slice.ensures
    c.in_ok-put_acts.ensures.tree c.in_ok-put_acts.ensures.set c.in_ok-put_called.ensures
