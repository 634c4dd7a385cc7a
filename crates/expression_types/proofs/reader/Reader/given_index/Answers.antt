use Rattle.std.proofs.Common.{◌+◌, refl, ap, arith}
use Rattle.resolved_tree.specs.Nodes.{tree_at}
use Rattle.type_definitions.specs.Expressions.{given_names}
use Rattle.expression_types.proofs.Occurrences.{given_step}
use Rattle.expression_types.proofs.reader.Reader.given_index.Goals as goal

pub arguments-preserved : goal.arguments-preserved
arguments-preserved c =
    let tree = rw c.in-Argument.is at c.node.ensures.tree in
    let below = rw c.in-Argument.is at c.node.ensures.below in (
      grind (arith, below, c.arguments.invariant.0, c.arguments.invariant.1),
      grind (arith, below, c.arguments.invariant.0, c.arguments.invariant.1),
      λ w. given_step c.arguments.made c.add_given.new.self c.in-Argument.name c.arguments.n (c.arguments.n + 1) _
          (given_names (tree_at c.args.self.now.rows.now c.in-Argument.rest)) _ w (c.in_ok-add_given.ensures w) refl (ap given_names tree)
          (c.arguments.invariant.2 w),
    )
