use Rattle.std.proofs.Common.{◌≤◌, drop, length, map}
use Rattle.resolved_tree.specs.Trees.{code_list}
use Rattle.resolved_tree.specs.Nodes.{Grew, HoldsCode}
use Rattle.tree_lowering.specs.Lowered.{declared_next}
use Rattle.tree_lowering.proofs.identifiers.next_declared.Given as goal

abbrev pub invariant-turns : goal.invariant-turns
invariant-turns l =
    (l.left ≤ length l.trees) × Grew l.fn.rows l.rows
    × HoldsCode l.rows l.made (code_list (map (declared_next l.numbers) (drop l.left l.trees)))

abbrev pub decreases-turns : goal.decreases-turns
decreases-turns l = l.left
