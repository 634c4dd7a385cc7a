use Rattle.std.proofs.Common.{◌∙◌, subst, IfOk}
use Rattle.resolved_tree.specs.Nodes.{code_at, tree_at, HoldsCode}
use Rattle.resolved_tree.proofs.Grown.{grew_on, kept_code}
use Rattle.tree_lowering.proofs.StatementsMade.{if_made, if_else_made, case_made, when_made}
use Rattle.tree_lowering.proofs.statements.+statement.Goals as goal

pub stmt-returns-in_ok-otherwise-in-If-clause-code : goal.stmt-returns-in_ok-otherwise-in-If-clause-code
stmt-returns-in_ok-otherwise-in-If-clause-code t c =
    let s = c.in-If in
    let rest = c.in_ok-rest-in-If in
    let branches = c.in_ok-branches-in-If in
    let otherwise = c.in_ok-otherwise-in-If in
    let there = c.push_code.new.self in
    let e = if_made c.args.numbers.now c.args.tree.now s.pos s.condition c.get-in-If.result.now s.then s.body c.get.result.now
    s.others c.as_slice.result.now s.end s.end_if s.semicolon
    (code_at there branches.branches) (code_at there otherwise.otherwise) (code_at c.elsifs.new.rows rest.rest) s.is
    (kept_code c.conditional.new.rows there branches.branches otherwise.ensures.grew branches.ensures.code.0 ∙ branches.ensures.code.1)
    rest.ensures.code.1 otherwise.ensures.code.1 c.get-in-If.ensures c.get.ensures c.as_slice.ensures in
    subst (λ u. IfOk c.push_code-in-If.result (λ n. HoldsCode c.push_code-in-If.new.self n u)) e c.push_code-in-If.ensures.code

pub stmt-returns-in_ok-otherwise-in-IfElse-clause-code : goal.stmt-returns-in_ok-otherwise-in-IfElse-clause-code
stmt-returns-in_ok-otherwise-in-IfElse-clause-code t c =
    let s = c.in-IfElse in
    let rest = c.in_ok-rest-in-IfElse in
    let branches = c.in_ok-branches-in-IfElse in
    let otherwise = c.in_ok-otherwise-in-IfElse in
    let there = c.stmts.new.rows in
    let e = if_else_made c.args.numbers.now c.args.tree.now s.pos s.condition c.get-in-IfElse-2.result.now s.then s.body
    c.get-in-IfElse.result.now s.others c.as_slice-in-IfElse.result.now s.otherwise s.otherwise_stmts c.get-in-IfElse-3.result.now
    s.end s.end_if s.semicolon
    (code_at there branches.branches) (code_at there otherwise.otherwise) (code_at c.elsifs-in-IfElse.new.rows rest.rest) s.is
    (kept_code c.conditional-in-IfElse.new.rows there branches.branches otherwise.ensures.grew branches.ensures.code.0 ∙ branches.ensures.code.1)
    rest.ensures.code.1 otherwise.ensures.code.1 c.get-in-IfElse-2.ensures c.get-in-IfElse.ensures c.as_slice-in-IfElse.ensures
    c.get-in-IfElse-3.ensures in
    subst (λ u. IfOk c.push_code-in-IfElse.result (λ n. HoldsCode c.push_code-in-IfElse.new.self n u)) e c.push_code-in-IfElse.ensures.code

pub stmt-returns-in_ok-selector-in-Case-clause-code : goal.stmt-returns-in_ok-selector-in-Case-clause-code
stmt-returns-in_ok-selector-in-Case-clause-code t c =
    let s = c.in-Case in
    let rest = c.in_ok-rest-in-Case in
    let alternatives = c.in_ok-alternatives-in-Case in
    let selector = c.in_ok-selector-in-Case in
    let there = c.expr.new.rows in
    let e = case_made c.args.numbers.now c.args.tree.now s.pos s.part c.get-in-Case-2.result.now s.is' s.first c.get-in-Case.result.now
    s.rest c.as_slice-in-Case.result.now s.end s.end_case s.semicolon
    (tree_at there selector.selector) (code_at there alternatives.alternatives) (code_at c.whens.new.rows rest.rest) s.is
    selector.ensures.tree.1
    (kept_code c.when.new.rows there alternatives.alternatives selector.ensures.grew alternatives.ensures.code.0 ∙ alternatives.ensures.code.1)
    rest.ensures.code.1 c.get-in-Case-2.ensures c.get-in-Case.ensures c.as_slice-in-Case.ensures in
    subst (λ u. IfOk c.push_code-in-Case.result (λ n. HoldsCode c.push_code-in-Case.new.self n u)) e c.push_code-in-Case.ensures.code

pub when-returns-clause-code : goal.when-returns-clause-code
when-returns-clause-code t c =
    let parts = c.when_parts.result in
    let choices = c.in_ok-choices in
    let stmts = c.in_ok-stmts in
    let first = c.in_ok-first in
    let before = c.args.rows.now in
    let there = c.stmts.new.rows in
    let now = c.push_code.new.self in
    let grew = grew_on before c.choices.new.rows there choices.ensures.grew stmts.ensures.grew in
    let e = when_made c.args.numbers.now c.args.tree.now parts.0 parts.1.now parts.2.now parts.3 parts.4.now
    (code_at now first.first) (code_at there choices.choices) (code_at there stmts.stmts) (code_at now c.args.rest) (code_at before c.args.rest)
    c.when_parts.ensures first.ensures.code.1
    (kept_code c.choices.new.rows there choices.choices stmts.ensures.grew choices.ensures.code.0 ∙ choices.ensures.code.1)
    stmts.ensures.code.1 (kept_code before now c.args.rest (grew_on before there now grew first.ensures.grew) c.requires) in
    subst (λ u. IfOk c.push_code-2.result (λ n. HoldsCode c.push_code-2.new.self n u)) e c.push_code-2.ensures.code
