use Rattle.std.proofs.Common.{◌≤◌, drop, length, map}
use Rattle.resolved_tree.specs.Trees.{code_list}
use Rattle.resolved_tree.specs.Nodes.{Grew, HoldsCode}
use Rattle.expression_lowering.specs.LoweredExpressions.{lowered_next_choice}
use Rattle.expression_lowering.proofs.ranges.next_choices.Given as goal

abbrev pub invariant-turns : goal.invariant-turns
invariant-turns l =
    (l.left ≤ length l.trees) × Grew l.fn.rows l.rows
    × HoldsCode l.rows l.made (code_list (map (lowered_next_choice l.numbers) (drop l.left l.trees)))

abbrev pub decreases-turns : goal.decreases-turns
decreases-turns l = l.left
