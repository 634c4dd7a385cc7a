use Rattle.std.proofs.Common.{ap, ◌∙◌, arith}
use Rattle.resolved_tree.specs.Nodes.{code_at, code_of, tree_at}
use Rattle.statement_rules.proofs.Taken.{takes_alternative, takes_last}
use Rattle.statement_rules.proofs.case_choices.Choices.add_alternatives.Goals as goal

pub alternatives-preserved : goal.alternatives-preserved
alternatives-preserved c =
    let below = rw c.in-More.is at c.code.ensures.below in
    let rows = c.args.checker.now.rows.now in (
      grind (arith, below, c.alternatives.invariant.0),
      λ after others. c.alternatives.invariant.1 after
          (takes_alternative _ _ _ _ _ _ _ _ (c.code.ensures.code ∙ ap (code_of (tree_at rows) (code_at rows)) c.in-More.is) c.in_ok-add_alternative.ensures others),
    )

pub returns : goal.returns
returns c = c.alternatives.invariant.1 c.alternatives.self (takes_last _ _ _ _ _ _ _ c.code.ensures.code c.in_default.not-More)
