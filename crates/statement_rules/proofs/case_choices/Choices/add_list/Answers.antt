use Rattle.std.proofs.Common.{ap, ◌∙◌, arith}
use Rattle.resolved_tree.specs.Nodes.{code_at, code_of, tree_at}
use Rattle.statement_rules.proofs.Taken.{takes_first, takes_end}
use Rattle.statement_rules.proofs.case_choices.Choices.add_list.Goals as goal

pub choices-preserved : goal.choices-preserved
choices-preserved c =
    let below = rw c.in-More.is at c.code.ensures.below in
    let rows = c.args.checker.now.rows.now in (
      grind (arith, below, c.choices.invariant.0),
      λ after others. c.choices.invariant.1 after
          (takes_first _ _ _ _ _ _ _ _ (c.code.ensures.code ∙ ap (code_of (tree_at rows) (code_at rows)) c.in-More.is) c.in_ok-add.ensures.covers c.in_ok-add.ensures.others c.in_ok-add.ensures.sound others),
    )

pub returns : goal.returns
returns c = c.choices.invariant.1 c.choices.self (takes_end _ _ _ _ _ _ _ c.code.ensures.code c.in_default.not-More)
