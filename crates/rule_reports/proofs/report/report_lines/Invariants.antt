use Rattle.std.proofs.Common.{◌≡◌, map, take, string_bytes}
use Rattle.flow_paths.specs.Printing.{printed_name}
use Rattle.flow_paths.specs.Reports.{report_of}
use Rattle.rule_reports.specs.Lines as spec
use Rattle.rule_reports.proofs.report.report_lines.Given as goal

abbrev pub invariant-reports : goal.invariant-reports
invariant-reports l =
    l.lines.items
    ≡ spec.report_lines (map string_bytes l.files) (printed_name l.table l.objects) (map report_of (take l.report-index l.reports))
