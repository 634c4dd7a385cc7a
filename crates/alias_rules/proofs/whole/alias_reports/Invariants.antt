use Rattle.std.proofs.Common.{[], flat_map, take}
use Rattle.flow_paths.specs.Laid.{flow_typing}
use Rattle.laid_program.specs.Programs.{program_of}
use Rattle.alias_rules.specs.Told.{Adds, sub_reports}
use Rattle.alias_rules.proofs.whole.alias_reports.Given as goal

abbrev pub invariant-subs : goal.invariant-subs
invariant-subs l = Adds [] l.reports
    (flat_map (sub_reports (flow_typing (program_of l.laid)) l.effects l.laid.rows) (take l.sub-index l.laid.subs))
