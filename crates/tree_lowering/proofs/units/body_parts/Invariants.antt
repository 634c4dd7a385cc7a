use Rattle.std.proofs.Common.{◌≤◌, drop, length}
use Rattle.resolved_tree.specs.Nodes.{Grew, HoldsCode}
use Rattle.tree_lowering.specs.Lowered.{before_all, part_before}
use Rattle.tree_lowering.proofs.units.body_parts.Given as goal

abbrev pub invariant-turns : goal.invariant-turns
invariant-turns l =
    (l.left ≤ length l.trees) × Grew l.fn.rows l.rows
    × HoldsCode l.rows l.made (before_all (part_before l.numbers) (drop l.left l.trees))

abbrev pub decreases-turns : goal.decreases-turns
decreases-turns l = l.left
