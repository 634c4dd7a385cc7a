use Rattle.std.proofs.Common.{map, flat_map, take}
use Rattle.flow_paths.specs.Laid.{flow_typing}
use Rattle.flow_paths.specs.Aliases.{pair_reports}
use Rattle.laid_program.specs.Programs.{program_of}
use Rattle.alias_rules.specs.Told.{passed_of, Adds}
use Rattle.alias_rules.proofs.rules.overlaps_with.Given as goal

abbrev pub invariant-behind : goal.invariant-behind
invariant-behind l = Adds l.initial.reports l.reports
    (flat_map (pair_reports (flow_typing (program_of l.laid)) (passed_of l.a)) (map passed_of (take l.b-index l.behind)))
