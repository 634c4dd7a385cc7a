use Rattle.std.proofs.Common.{ap, ◌∙◌, arith}
use Rattle.resolved_tree.specs.Nodes.{code_at, code_of, tree_at}
use Rattle.expression_types.specs.Here.{here}
use Rattle.typed_tree.specs.Statements.{typed_choice}
use Rattle.typed_tree.proofs.Grown.{grew_on}
use Rattle.typed_statements.proofs.Forms.{more_below}
use Rattle.typed_statements.proofs.Lists.{next_item}
use Rattle.typed_statements.proofs.choices.choices.Goals as goal

pub choices-preserved : goal.choices-preserved
choices-preserved c =
    let rows = c.args.writer.now.reader.rows.now in
    let lt = more_below _ _ _ _ _ c.in-More.is c.code.ensures.below in
    let is = c.code.ensures.code ∙ ap (code_of (tree_at rows) (code_at rows)) c.in-More.is in
    let put = next_item (typed_choice (here c.args.writer.now.reader)) _ _ _ _ _ _ _ _ _ is c.in_ok-push.ensures.items
    c.choice.ensures.grew c.choices.invariant.2 c.choices.invariant.3 c.in_ok-number.ensures.code in (
      omega (arith, lt, c.choices.invariant.0),
      grew_on _ _ _ c.choices.invariant.1 c.choice.ensures.grew,
      put.0,
      put.1,
    )
