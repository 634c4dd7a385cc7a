use Rattle.std.proofs.Common.{◌≡◌, ◌++◌, map, drop}
use Rattle.flow_paths.specs.Laid.{flow_typing}
use Rattle.flow_paths.specs.Aliases.{overlap_reports}
use Rattle.flow_paths.specs.Reports.{report_of}
use Rattle.laid_program.specs.Programs.{program_of}
use Rattle.alias_rules.specs.Told.{passed_of}
use Rattle.alias_rules.proofs.rules.overlaps.Given as goal

abbrev pub invariant-actuals : goal.invariant-actuals
invariant-actuals l =
    map report_of l.reports ++ overlap_reports (flow_typing (program_of l.laid)) (map passed_of (drop l.i l.actuals))
    ≡ map report_of l.initial.reports ++ overlap_reports (flow_typing (program_of l.laid)) (map passed_of l.actuals)
