use Rattle.std.proofs.Common.{◌≡◌, ap, ◌∙◌, subst, IfOk}
use Rattle.resolved_tree.specs.Trees.{Aggregate}
use Rattle.resolved_tree.specs.Nodes.{tree_at, Holds}
use Rattle.resolved_tree.proofs.Grown.{kept}
use Rattle.expression_lowering.specs.LoweredExpressions.{lowered_aggregate, lowered_rel}
use Rattle.expression_lowering.proofs.Chains.{logical_made, short_made}
use Rattle.expression_lowering.proofs.ExpressionLevels.{aggregate-Several}
use Rattle.expression_lowering.proofs.expression.+expression.Goals as goal

pub expr-returns-in_ok-left-in-And-2-clause-tree : goal.expr-returns-in_ok-left-in-And-2-clause-tree
expr-returns-in_ok-left-in-And-2-clause-tree t c =
    let numbers = c.args.numbers.now in
    let s = c.in-And in
    let left = c.in_ok-left-in-And in
    let right = c.in_ok-right-in-And in
    let whole = c.in_ok-left-in-And-2 in
    let there = c.rel-in-And-2.new.rows in
    let e = logical_made numbers c.args.tree.now s.pos s.first s.second s.rest c.as_slice-in-And.result.now c.chain_operator-operator-in-And.result
    (tree_at c.binary-in-And.new.rows whole.left) (tree_at there left.left) (tree_at there right.right) s.is c.chain_operator-operator-in-And.ensures whole.ensures.tree.1
    (kept c.rel-in-And.new.rows there left.left right.ensures.grew left.ensures.tree.0 ∙ left.ensures.tree.1 ∙ ap (lowered_rel numbers) c.get-in-And.ensures)
    (right.ensures.tree.1 ∙ ap (lowered_rel numbers) c.get-in-And-2.ensures) c.as_slice-in-And.ensures in
    subst (λ u. IfOk c.operands.result (λ n. Holds c.operands.new.rows n u)) e c.operands.ensures.tree

pub expr-returns-in_ok-left-in-AndThen-2-clause-tree : goal.expr-returns-in_ok-left-in-AndThen-2-clause-tree
expr-returns-in_ok-left-in-AndThen-2-clause-tree t c =
    let numbers = c.args.numbers.now in
    let s = c.in-AndThen in
    let left = c.in_ok-left-in-AndThen in
    let right = c.in_ok-right-in-AndThen in
    let whole = c.in_ok-left-in-AndThen-2 in
    let there = c.rel-in-AndThen-2.new.rows in
    let e = short_made numbers c.args.tree.now s.pos s.first s.second s.rest c.as_slice.result.now c.chain_operator-operator.result
    (tree_at c.binary.new.rows whole.left) (tree_at there left.left) (tree_at there right.right) s.is c.chain_operator-operator.ensures whole.ensures.tree.1
    (kept c.rel-in-AndThen.new.rows there left.left right.ensures.grew left.ensures.tree.0 ∙ left.ensures.tree.1 ∙ ap (lowered_rel numbers) c.get-in-AndThen.ensures)
    (right.ensures.tree.1 ∙ ap (lowered_rel numbers) c.get-in-AndThen-2.ensures) c.as_slice.ensures in
    subst (λ u. IfOk c.short_operands.result (λ n. Holds c.short_operands.new.rows n u)) e c.short_operands.ensures.tree

pub aggregate-returns-in_ok-args-in-Several-clause-tree : goal.aggregate-returns-in_ok-args-in-Several-clause-tree
aggregate-returns-in_ok-args-in-Several-clause-tree t c =
    let s = c.in-Several in
    let level = ap (lowered_aggregate c.args.numbers.now) s.is ∙ aggregate-Several c.args.numbers.now s.pos s.first s.comma s.second s.rest s.right_paren in
    let e : Aggregate s.pos (tree_at c.arg-in-Several.new.rows c.in_ok-args-in-Several.args) ≡ lowered_aggregate c.args.numbers.now c.args.tree.now =
    cc (c.in_ok-rest-in-Several.ensures.tree.1, c.in_ok-rest-in-Several-2.ensures.tree.1, c.in_ok-args-in-Several.ensures.tree.1) in
    subst (λ u. IfOk c.push.result (λ n. Holds c.push.new.self n u)) e c.push.ensures.tree
