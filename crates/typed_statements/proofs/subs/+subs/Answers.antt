use Rattle.std.proofs.Common.{ap, ◌∙◌, arith}
use Rattle.resolved_tree.specs.Nodes.{code_at, code_of, tree_at}
use Rattle.typed_tree.proofs.Grown.{grew_on}
use Rattle.typed_expressions.specs.Sites.{site}
use Rattle.typed_statements.proofs.Bodies.{put_body, subs_step}
use Rattle.typed_statements.proofs.Forms.{more_below}
use Rattle.typed_statements.proofs.Lists.{count_step}
use Rattle.typed_statements.proofs.subs.+subs.Goals as goal

pub subs-parts-preserved : goal.subs-parts-preserved
subs-parts-preserved t c =
    let rows = c.args.writer.now.reader.rows.now in
    let lt = more_below _ _ _ _ _ c.in-More.is c.code.ensures.below in
    let is = c.code.ensures.code ∙ ap (code_of (tree_at rows) (code_at rows)) c.in-More.is in (
      omega (arith, lt, c.parts.invariant.0),
      omega (arith, lt, c.parts.invariant.1),
      grew_on _ _ _ c.parts.invariant.2 c.subs_of_one.ensures.grew,
      c.in_ok-subs_of_one.ensures.subs.0,
      count_step _ _ _ _ _ _ is c.in_ok-subs_of_one.ensures.next c.parts.invariant.4,
      subs_step (site c.args.writer.now) _ _ _ _ _ _ _ _ is c.in_ok-subs_of_one.ensures.next c.parts.invariant.5
          c.in_ok-subs_of_one.ensures.subs.1,
    )

pub subs_of_one-returns-in_ok-push-in-SubBody-clause-subs : goal.subs_of_one-returns-in_ok-push-in-SubBody-clause-subs
subs_of_one-returns-in_ok-push-in-SubBody-clause-subs t c =
    let rows = c.args.writer.now.reader.rows.now in
    put_body _ _ _ _ _ (site c.args.writer.now) _ _ _ _ _ _ c.in_ok-push-in-SubBody.ensures.items
    (c.code.ensures.code ∙ ap (code_of (tree_at rows) (code_at rows)) c.in-SubBody.is) c.sub.ensures.grew c.requires.found
    c.in_ok-made-in-SubBody.ensures.sub
