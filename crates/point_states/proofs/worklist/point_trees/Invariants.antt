use Rattle.std.proofs.Common.{◌≡◌, ◌+◌, ◌<◌, ◌≤◌, ◌*◌, ℕ, length, vec_len}
use Rattle.spark_base.specs.Lists.{Has}
use Rattle.point_states.specs.PointTrees.{path_points_of, successors}
use Rattle.point_states.specs.Labels.{SearchedOn}
use Rattle.point_states.specs.Carries.{AreOver}
use Rattle.point_states.specs.Debts.{most, costs_of, debt, owed}
use Rattle.point_states.proofs.Debt.{ones}
use Rattle.point_states.proofs.worklist.point_trees.Given as goal

abbrev pub invariant-turns : goal.invariant-turns
invariant-turns g l =
    SearchedOn (path_points_of l.points) l.facts l.trees.items l.work.keys
    × AreOver l.facts l.trees.items
    × (vec_len l.trees ≡ length l.points)
    × ((a : ℕ) → Has l.work.keys a → a < length l.points)
    × (l.steps + debt (most (length l.facts)) (costs_of (path_points_of l.points)) l.trees.items + owed (costs_of (path_points_of l.points)) l.work.keys
    ≤ l.initial.steps + successors (path_points_of l.points) * most (length l.facts))

-- the changes that are still to come, and the work
abbrev pub decreases-turns : goal.decreases-turns
decreases-turns g l = debt (most (length l.facts)) (ones l.points) l.trees.items + owed (ones l.points) l.work.keys
