use Rattle.flow_paths.specs.Printing.{printed_name}
use Rattle.path_reports.proofs.CalledPaths.{all_gained}
use Rattle.path_reports.proofs.reports.path_reports.Goals as goal

pub returns-clause-reports : goal.returns-clause-reports
returns-clause-reports g c =
    all_gained (printed_name c.args.table.now c.args.objects.now) c.args.objects.now c.args.effects.now c.args.points.now c.args.facts.now
    c.in_ok-trees.trees.items c.args.set.now c.put_points.new.set c.in_ok-trees.ensures.exact c.in_ok-put_points.ensures.kept c.requires.listed
    c.in_ok-put_points.ensures.set
