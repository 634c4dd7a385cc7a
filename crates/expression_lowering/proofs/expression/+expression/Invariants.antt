use Rattle.std.proofs.Common.{◌≡◌, ◌<◌, ◌≤◌, ◌-◌, drop, length, map}
use Rattle.resolved_tree.specs.Trees.{list_of}
use Rattle.resolved_tree.specs.Nodes.{tree_at, Grew, Holds}
use Rattle.expression_lowering.specs.LoweredExpressions.{chained, further_args, lowered_next_factor, lowered_next_term, lowered_operand, lowered_short_operand, lowered_suffix}
use Rattle.expression_lowering.proofs.expression.+expression.Given as goal

abbrev pub invariant-suffixes-turns : goal.invariant-suffixes-turns
invariant-suffixes-turns l =
    (l.used ≤ l.left) × (l.left ≤ length l.trees) × Grew l.fn.rows l.rows
    × Holds l.rows l.made (list_of (drop l.left (map (lowered_suffix l.numbers) l.trees)))

abbrev pub decreases-suffixes-turns : goal.decreases-suffixes-turns
decreases-suffixes-turns l = l.left - l.used

abbrev pub invariant-next_args-turns : goal.invariant-next_args-turns
invariant-next_args-turns l =
    (l.left ≤ length l.trees) × Grew l.fn.rows l.rows × Holds l.rows l.made (further_args l.numbers (drop l.left l.trees))

abbrev pub decreases-next_args-turns : goal.decreases-next_args-turns
decreases-next_args-turns l = l.left

abbrev pub invariant-operands-turns : goal.invariant-operands-turns
invariant-operands-turns l =
    (l.made < length l.rows.0) × Grew l.initial.rows l.rows
    × (chained l.pos (tree_at l.rows l.made) (map (lowered_operand l.numbers l.operator) (drop l.tree-index l.trees))
    ≡ chained l.pos (tree_at l.initial.rows l.left) (map (lowered_operand l.numbers l.operator) l.trees))

abbrev pub invariant-short_operands-turns : goal.invariant-short_operands-turns
invariant-short_operands-turns l =
    (l.made < length l.rows.0) × Grew l.initial.rows l.rows
    × (chained l.pos (tree_at l.rows l.made) (map (lowered_short_operand l.numbers l.operator) (drop l.tree-index l.trees))
    ≡ chained l.pos (tree_at l.initial.rows l.left) (map (lowered_short_operand l.numbers l.operator) l.trees))

abbrev pub invariant-next_terms-turns : goal.invariant-next_terms-turns
invariant-next_terms-turns l =
    (l.made < length l.rows.0) × Grew l.initial.rows l.rows
    × (chained l.pos (tree_at l.rows l.made) (map (lowered_next_term l.numbers) (drop l.tree-index l.trees))
    ≡ chained l.pos (tree_at l.initial.rows l.left) (map (lowered_next_term l.numbers) l.trees))

abbrev pub invariant-next_factors-turns : goal.invariant-next_factors-turns
invariant-next_factors-turns l =
    (l.made < length l.rows.0) × Grew l.initial.rows l.rows
    × (chained l.pos (tree_at l.rows l.made) (map (lowered_next_factor l.numbers) (drop l.tree-index l.trees))
    ≡ chained l.pos (tree_at l.initial.rows l.left) (map (lowered_next_factor l.numbers) l.trees))
