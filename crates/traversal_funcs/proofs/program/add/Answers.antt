use Rattle.std.proofs.Common.{map}
use Rattle.flow_paths.specs.Reports.{report_of}
use Rattle.laid_program.specs.Programs.{program_of}
use Rattle.traversal_funcs.proofs.Added.{adds}
use Rattle.traversal_funcs.proofs.program.add.Goals as goal

pub returns : goal.returns
returns c =
    adds (program_of c.args.laid.now) c.args.effects.now c.args.laid.now.rows c.args.sub.now c.in_ok-views.views c.as_slice.result.now
    c.as_slice-2.result.now c.as_slice-3.result.now (map report_of c.args.to.now.items) (map report_of c.points.new.to.items)
    c.as_slice.ensures c.as_slice-2.ensures c.as_slice-3.ensures c.in_ok-views.ensures c.in_ok-points.ensures
