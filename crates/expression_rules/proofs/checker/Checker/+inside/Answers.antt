use Rattle.std.proofs.Common.{◌∙◌, arith}
use Rattle.expression_rules.specs.Around.{context}
use Rattle.expression_rules.proofs.Steps.{arguments_step}
use Rattle.expression_rules.proofs.checker.Checker.+inside.Goals as goal

pub arguments-arguments-preserved : goal.arguments-arguments-preserved
arguments-arguments-preserved t c =
    let tree = rw c.in-Argument.is at c.node.ensures.tree in
    let below = rw c.in-Argument.is at c.node.ensures.below in (
      grind (arith, below, c.arguments.invariant),
      grind (arith, below, c.arguments.invariant),
      arguments_step (context c.args.self.now) c.args.role c.arguments.n _ _ _ _ _ _ tree c.matched_argument-found.ensures
          ∙ c.arguments.invariant.2,
    )
