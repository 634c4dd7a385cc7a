use Rattle.std.proofs.Common.{map, take}
use Rattle.flow_paths.specs.Reports.{report_of}
use Rattle.flow_paths.specs.Stands.{flow_sub_of}
use Rattle.laid_program.specs.Programs.{program_of}
use Rattle.traversal_funcs.specs.ViewReports.{AreReportsOf}
use Rattle.traversal_funcs.proofs.program.view_reports.Given as goal

abbrev pub invariant-subs : goal.invariant-subs
invariant-subs l =
    AreReportsOf (program_of l.laid) l.effects (map (flow_sub_of l.laid.rows) (take l.sub-index l.laid.subs)) (map report_of l.made.items)
