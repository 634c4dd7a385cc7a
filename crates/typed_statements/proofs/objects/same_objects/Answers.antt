use Rattle.std.proofs.Common.{ap, ◌∙◌, arith}
use Rattle.resolved_tree.specs.Nodes.{code_at, code_of, tree_at}
use Rattle.typed_tree.specs.Nodes.{typed_at}
use Rattle.typed_tree.specs.Statements.{typed_object}
use Rattle.typed_tree.proofs.Grown.{grew_on}
use Rattle.typed_expressions.specs.Sites.{site}
use Rattle.typed_statements.proofs.Forms.{more_below, object_same}
use Rattle.typed_statements.proofs.Lists.{next_item}
use Rattle.typed_statements.proofs.objects.same_objects.Goals as goal

pub names-preserved : goal.names-preserved
names-preserved c =
    let rows = c.args.writer.now.reader.rows.now in
    let s = site c.args.writer.now in
    let lt = more_below _ _ _ _ _ c.in-More.is c.code.ensures.below in
    let is = c.code.ensures.code ∙ ap (code_of (tree_at rows) (code_at rows)) c.in-More.is in
    let one = object_same c.object.new.to c.in_ok-number.number s (typed_at c.names.to c.args.value) (typed_at c.args.to.now c.args.value)
    (code_at rows c.in-More.first) (c.names.invariant.1.same_trees _ c.requires.value) c.in_ok-number.ensures.code in
    let put = next_item (typed_object s (typed_at c.args.to.now c.args.value)) _ _ _ _ _ _ _ _ _ is c.in_ok-push.ensures.items
    c.object.ensures.grew c.names.invariant.2 c.names.invariant.3 one in (
      omega (arith, lt, c.names.invariant.0),
      grew_on _ _ _ c.names.invariant.1 c.object.ensures.grew,
      put.0,
      put.1,
    )
