use Rattle.std.proofs.Common.{◌≡◌, ◌++◌, map, take}
use Rattle.flow_paths.specs.Reports.{report_of}
use Rattle.flow_paths.specs.Stands.{flow_point_of}
use Rattle.traversal_funcs.specs.Lists.{points_reports}
use Rattle.traversal_funcs.proofs.views.Views.points.Given as goal

abbrev pub invariant-points : goal.invariant-points
invariant-points l =
    map report_of l.to.items ≡ map report_of l.initial.to.items
    ++ points_reports l.self l.effects (map (flow_point_of l.self.rows.now) (take l.point-index l.points))
