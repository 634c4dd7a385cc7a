use Rattle.std.proofs.Common.{subst}
use Rattle.flow_paths.specs.Reports.{AreReports}
use Rattle.laid_program.specs.Programs.{program_of}
use Rattle.path_check.specs.Told.{reports_in}
use Rattle.path_check.proofs.check.check_paths.Goals as goal

pub new-requires-clause-accepted : goal.new-requires-clause-accepted
new-requires-clause-accepted g c =
    subst (λ l. AreReports (program_of c.args.laid) c.args.effects (reports_in l)) (c.is_empty.ensures.0 c.if-is_empty.true)
    c.in_ok-reports.ensures.reports
