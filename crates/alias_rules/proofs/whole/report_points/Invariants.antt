use Rattle.std.proofs.Common.{flat_map, take}
use Rattle.flow_paths.specs.Laid.{flow_typing}
use Rattle.laid_program.specs.Programs.{program_of}
use Rattle.alias_rules.specs.Told.{Adds, point_reports}
use Rattle.alias_rules.proofs.whole.report_points.Given as goal

abbrev pub invariant-points : goal.invariant-points
invariant-points l = Adds l.initial.reports l.reports
    (flat_map (point_reports (flow_typing (program_of l.laid)) l.effects l.laid.rows) (take l.point-index l.points))
