use Rattle.std.proofs.Common.{ap, ◌∙◌, arith}
use Rattle.resolved_tree.specs.Nodes.{code_at, code_of, tree_at}
use Rattle.typed_tree.specs.Trees.{typed_code_list}
use Rattle.typed_tree.specs.Statements.{statements, typed_range}
use Rattle.typed_tree.proofs.Grown.{grew_on}
use Rattle.typed_expressions.specs.Sites.{site}
use Rattle.typed_statements.proofs.Forms.{code_is, for_made, for_one, more_below}
use Rattle.typed_statements.proofs.Lists.{count_step, walk_step}
use Rattle.typed_statements.proofs.walk.+walk.Goals as goal

pub statements-parts-preserved : goal.statements-parts-preserved
statements-parts-preserved t c =
    let rows = c.args.writer.now.reader.rows.now in
    let lt = more_below _ _ _ _ _ c.in-More.is c.code.ensures.below in
    let is = c.code.ensures.code ∙ ap (code_of (tree_at rows) (code_at rows)) c.in-More.is in (
      omega (arith, lt, c.parts.invariant.0),
      omega (arith, lt, c.parts.invariant.1),
      grew_on _ _ _ c.parts.invariant.2 c.item.ensures.grew,
      c.in_ok-item.ensures.code.0,
      count_step _ _ _ _ _ _ is c.in_ok-item.ensures.next c.parts.invariant.4,
      walk_step (site c.args.writer.now) _ _ _ _ _ _ _ _ is c.in_ok-item.ensures.next c.parts.invariant.5 c.in_ok-item.ensures.code.1,
    )

pub for_loop-returns-clause-code : goal.for_loop-returns-clause-code
for_loop-returns-clause-code t c =
    let rows = c.args.writer.now.reader.rows.now in
    let s = site c.args.writer.now in
    let ends = c.in_ok-ends.ensures.ends in
    let kept = c.list.ensures.grew.same_trees in
    code_is _ _ _ _
    (for_made s c.args.pos (code_at rows c.args.parameter) c.args.reverse (typed_range s (code_at rows c.args.bounds)) _ _ _ _ _ _
    c.declared_number.ensures c.object_number.ensures (kept _ ends.0.0 ∙ ends.0.1) (kept _ ends.1.0 ∙ ends.1.1)
    (c.in_ok-stmts.ensures.code.1 ∙ ap (λ n. typed_code_list (statements s n (code_at rows c.args.stmts))) c.in_ok-inner.ensures))
    c.push_code.ensures.code

pub compound-returns-in-For-clause-code : goal.compound-returns-in-For-clause-code
compound-returns-in-For-clause-code t c =
    let rows = c.args.writer.now.reader.rows.now in
    for_one _ _ (site c.args.writer.now) _ _ _ _ _ _ _ (c.code.ensures.code ∙ ap (code_of (tree_at rows) (code_at rows)) c.in-For.is)
    c.for_loop.ensures.code
