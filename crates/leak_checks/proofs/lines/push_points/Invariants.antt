use Rattle.std.proofs.Common.{◌≡◌, ◌++◌, ℕ, ◌<◌, drop}
use Rattle.point_states.specs.PointTrees.{tree_at}
use Rattle.path_reports.specs.Told.{IsKeptWhere}
use Rattle.leak_checks.specs.Lines.{lines_along}
use Rattle.leak_checks.proofs.lines.push_points.Given as goal

abbrev pub invariant-points : goal.invariant-points
invariant-points l =
    ((q : ℕ) → q < l.p → IsKeptWhere (tree_at l.trees q))
    × (l.lines.items ++ lines_along (drop l.p l.points) (drop l.p l.trees) ≡ l.initial.lines.items ++ lines_along l.points l.trees)
