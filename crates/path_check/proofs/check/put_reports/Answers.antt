use Rattle.std.proofs.Common.{◌∙◌, ap}
use Rattle.std.specs.BTreeSet.{insert_key}
use Rattle.report_lists.specs.PrintedReports.{printed_cmp}
use Rattle.flow_paths.specs.Printing.{printed_name}
use Rattle.path_check.proofs.Putting.{report_next, reports_done}
use Rattle.path_check.proofs.check.put_reports.Goals as goal

pub reports-preserved : goal.reports-preserved
reports-preserved c =
    report_next (printed_name c.args.table.now c.args.objects.now) c.args.reports.now c.reports.report-index c.report-item.result c.report-item.result
    c.reports.set c.insert.new.self _ c.reports-test.true c.report-item.is
    (c.in_ok-insert.ensures.ok ∙ ap (insert_key printed_cmp c.reports.set) c.in_ok-printed_report.ensures) c.reports.invariant

pub returns : goal.returns
returns c =
    reports_done (printed_name c.args.table.now c.args.objects.now) c.args.reports.now c.reports.report-index _ _ c.reports-test.false c.reports.invariant
