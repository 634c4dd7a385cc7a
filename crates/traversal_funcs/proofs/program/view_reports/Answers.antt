use Rattle.std.proofs.Common.{map}
use Rattle.flow_paths.specs.Reports.{report_of}
use Rattle.laid_program.specs.Programs.{program_of}
use Rattle.traversal_funcs.proofs.Added.{added}
use Rattle.traversal_funcs.proofs.program.view_reports.Goals as goal

pub subs-preserved : goal.subs-preserved
subs-preserved c =
    added (program_of c.args.laid.now) c.args.effects.now c.args.laid.now.rows c.as_slice-sub-items.result.now c.args.laid.now.subs c.subs.sub-index
    c.sub-item.result c.sub-item.result
    (map report_of c.subs.made.items) (map report_of c.add.new.to.items) c.as_slice-sub-items.ensures c.subs-test.true c.sub-item.is c.subs.invariant c.in_ok-add.ensures
