use Rattle.std.proofs.Common.{◌≤◌, drop, length, map}
use Rattle.resolved_tree.specs.Trees.{code_list}
use Rattle.resolved_tree.specs.Nodes.{Grew, HoldsCode}
use Rattle.tree_lowering.specs.Lowered.{lowered_elsif, lowered_stmt, lowered_when}
use Rattle.tree_lowering.proofs.statements.+statement.Given as goal

abbrev pub invariant-next_stmts-turns : goal.invariant-next_stmts-turns
invariant-next_stmts-turns l =
    (l.left ≤ length l.trees) × Grew l.fn.rows l.rows
    × HoldsCode l.rows l.made (code_list (map (lowered_stmt l.numbers) (drop l.left l.trees)))

abbrev pub decreases-next_stmts-turns : goal.decreases-next_stmts-turns
decreases-next_stmts-turns l = l.left

abbrev pub invariant-elsifs-turns : goal.invariant-elsifs-turns
invariant-elsifs-turns l =
    (l.left ≤ length l.trees) × Grew l.fn.rows l.rows
    × HoldsCode l.rows l.made (code_list (map (lowered_elsif l.numbers) (drop l.left l.trees)))

abbrev pub decreases-elsifs-turns : goal.decreases-elsifs-turns
decreases-elsifs-turns l = l.left

abbrev pub invariant-whens-turns : goal.invariant-whens-turns
invariant-whens-turns l =
    (l.left ≤ length l.trees) × Grew l.fn.rows l.rows
    × HoldsCode l.rows l.made (code_list (map (lowered_when l.numbers) (drop l.left l.trees)))

abbrev pub decreases-whens-turns : goal.decreases-whens-turns
decreases-whens-turns l = l.left
