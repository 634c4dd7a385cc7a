use Rattle.std.proofs.Common.{◌+◌, refl, subst, IfOk, arith}
use Rattle.typed_tree.specs.Nodes.{Holds}
use Rattle.typed_tree.proofs.Grown.{grew_on}
use Rattle.typed_expressions.specs.Sites.{site}
use Rattle.typed_expressions.proofs.ArgumentOrder.{actuals_Applied, imaged_Applied, values_on}
use Rattle.typed_expressions.proofs.writer.Writer.+expression.Goals as goal

pub actuals-returns-in-Applied-clause-tree : goal.actuals-returns-in-Applied-clause-tree
actuals-returns-in-Applied-clause-tree t c =
    let tree = rw c.in-More.is at c.node.ensures.tree in
    let applied = rw c.in-Applied.is at c.node-in-More.ensures.tree in
    subst (λ u. IfOk c.arguments.result (λ n. Holds c.arguments.new.to n u))
    (actuals_Applied (site c.args.self.now) c.args.f _ _ _ _ tree applied) c.arguments.ensures.tree

pub imaged-returns-in-Applied-clause-tree : goal.imaged-returns-in-Applied-clause-tree
imaged-returns-in-Applied-clause-tree t c =
    let tree = rw c.in-More.is at c.node.ensures.tree in
    let behind = rw c.in-More-node.is at c.node-in-More.ensures.tree in
    let applied = rw c.in-Applied.is at c.node-in-More-node.ensures.tree in
    subst (λ u. IfOk c.first.result (λ n. Holds c.first.new.to n u))
    (imaged_Applied (site c.args.self.now) _ _ _ _ _ _ tree behind applied) c.first.ensures.tree

pub values-arguments-preserved : goal.values-arguments-preserved
values-arguments-preserved t c =
    let tree = rw c.in-Argument.is at c.node.ensures.tree in
    let below = rw c.in-Argument.is at c.node.ensures.below in
    let on = values_on (site c.args.self.now) c.args.role c.arguments.to c.expression.new.to c.arguments.made.items c.push.new.self.items
    c.in_ok-number.number c.arguments.n (c.arguments.n + 1) c.matched_type-want.result c.in-Argument.name _ _ _ _ c.expression.ensures.grew
    c.arguments.invariant.3 c.arguments.invariant.4 tree refl c.matched_type-want.ensures c.in_ok-number.ensures.tree c.in_ok-push.ensures.items in (
      grind (arith, below, c.arguments.invariant.0, c.arguments.invariant.1),
      grind (arith, below, c.arguments.invariant.0, c.arguments.invariant.1),
      grew_on _ _ _ c.arguments.invariant.2 c.expression.ensures.grew,
      on.0,
      on.1,
    )
