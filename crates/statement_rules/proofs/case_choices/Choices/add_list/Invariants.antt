use Rattle.std.proofs.Common.{◌<◌, length}
use Rattle.resolved_tree.specs.Nodes.{code_at}
use Rattle.resolved_tree.specs.Trees.{code_items}
use Rattle.expression_rules.specs.Around.{context}
use Rattle.statement_rules.specs.declared.case_choices.Choices.{Choices}
use Rattle.statement_rules.specs.Taken.{Takes}
use Rattle.statement_rules.proofs.case_choices.Choices.add_list.Given as goal

abbrev pub invariant-choices : goal.invariant-choices
invariant-choices l =
    (l.i < length l.checker.rows.now.1)
    × ((after : Choices) → Takes (context l.checker) l.of (code_items (code_at l.checker.rows.now l.i)) l.self after
    → Takes (context l.checker) l.of (code_items (code_at l.checker.rows.now l.list)) l.initial.self after)

abbrev pub decreases-choices : goal.decreases-choices
decreases-choices l = l.i
