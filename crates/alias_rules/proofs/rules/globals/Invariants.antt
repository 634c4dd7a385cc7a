use Rattle.std.proofs.Common.{map, flat_map, take}
use Rattle.flow_paths.specs.Laid.{flow_typing}
use Rattle.flow_paths.specs.Aliases.{global_reports}
use Rattle.laid_program.specs.Programs.{program_of}
use Rattle.alias_rules.specs.Told.{passed_of, Adds}
use Rattle.alias_rules.proofs.rules.globals.Given as goal

abbrev pub invariant-actuals : goal.invariant-actuals
invariant-actuals l = Adds l.initial.reports l.reports
    (flat_map (global_reports (flow_typing (program_of l.laid)) l.effects l.callee) (map passed_of (take l.a-index l.actuals)))
