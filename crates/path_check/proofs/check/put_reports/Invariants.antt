use Rattle.std.proofs.Common.{◌≡◌, drop}
use Rattle.report_lists.specs.Gains.{put_told}
use Rattle.flow_paths.specs.Printing.{printed_name}
use Rattle.path_check.specs.Told.{reports_in}
use Rattle.path_check.proofs.check.put_reports.Given as goal

abbrev pub invariant-reports : goal.invariant-reports
invariant-reports l =
    put_told (printed_name l.table l.objects) l.set (reports_in (drop l.report-index l.reports))
    ≡ put_told (printed_name l.table l.objects) l.initial.set (reports_in l.reports)
