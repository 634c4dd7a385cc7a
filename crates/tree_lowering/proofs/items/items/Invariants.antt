use Rattle.std.proofs.Common.{◌≤◌, drop, length}
use Rattle.resolved_tree.specs.Nodes.{Grew, HoldsCode}
use Rattle.tree_lowering.specs.Lowered.{before_all, item_before}
use Rattle.tree_lowering.proofs.items.items.Given as goal

abbrev pub invariant-turns : goal.invariant-turns
invariant-turns l =
    (l.left ≤ length l.trees) × Grew l.fn.rows l.rows
    × HoldsCode l.rows l.made (before_all (item_before l.numbers) (drop l.left l.trees))

abbrev pub decreases-turns : goal.decreases-turns
decreases-turns l = l.left
