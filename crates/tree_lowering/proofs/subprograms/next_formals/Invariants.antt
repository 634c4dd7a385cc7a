use Rattle.std.proofs.Common.{◌≤◌, drop, length, map}
use Rattle.resolved_tree.specs.Trees.{code_list}
use Rattle.resolved_tree.specs.Nodes.{Grew, HoldsCode}
use Rattle.tree_lowering.specs.Lowered.{lowered_next_formal}
use Rattle.tree_lowering.proofs.subprograms.next_formals.Given as goal

abbrev pub invariant-turns : goal.invariant-turns
invariant-turns l =
    (l.left ≤ length l.trees) × Grew l.fn.rows l.rows
    × HoldsCode l.rows l.made (code_list (map (lowered_next_formal l.numbers) (drop l.left l.trees)))

abbrev pub decreases-turns : goal.decreases-turns
decreases-turns l = l.left
