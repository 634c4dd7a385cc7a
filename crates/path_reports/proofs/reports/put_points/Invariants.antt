use Rattle.std.proofs.Common.{◌≡◌, ℕ, ◌<◌, drop, length, vec_len}
use Rattle.report_lists.specs.Gains.{put_told}
use Rattle.flow_paths.specs.Printing.{printed_name}
use Rattle.point_states.specs.PointTrees.{tree_at}
use Rattle.path_reports.specs.Told.{IsKeptWhere}
use Rattle.path_reports.specs.Uses.{all_told}
use Rattle.path_reports.proofs.reports.put_points.Given as goal

abbrev pub invariant-points : goal.invariant-points
invariant-points l =
    (vec_len l.trees ≡ length l.points)
    × (drop l.p l.trees.items ≡ drop l.p l.initial.trees.items)
    × ((q : ℕ) → q < l.p → IsKeptWhere (tree_at l.initial.trees.items q))
    × (put_told (printed_name l.table l.objects) l.set (all_told l.objects l.effects (drop l.p l.points) (drop l.p l.initial.trees.items))
    ≡ put_told (printed_name l.table l.objects) l.initial.set (all_told l.objects l.effects l.points l.initial.trees.items))
