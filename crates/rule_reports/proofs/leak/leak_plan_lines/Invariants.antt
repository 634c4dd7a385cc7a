use Rattle.std.proofs.Common.{◌≡◌, map, take, string_bytes}
use Rattle.flow_paths.specs.Printing.{printed_name}
use Rattle.rule_reports.specs.Lines as spec
use Rattle.rule_reports.proofs.leak.leak_plan_lines.Given as goal

abbrev pub invariant-checks : goal.invariant-checks
invariant-checks l =
    l.lines.items
    ≡ spec.leak_plan_lines (map string_bytes l.files) (printed_name l.table l.objects) (take l.check-index l.checks)
