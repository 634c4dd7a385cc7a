use Rattle.std.proofs.Common.{◌<◌, length}
use Rattle.resolved_tree.specs.Nodes.{code_at}
use Rattle.type_definitions.specs.Declarations.{choices_of}
use Rattle.expression_rules.specs.Around.{context}
use Rattle.statement_rules.specs.declared.case_choices.Choices.{Choices}
use Rattle.statement_rules.specs.Taken.{Takes}
use Rattle.statement_rules.proofs.case_choices.Choices.add_alternatives.Given as goal

abbrev pub invariant-alternatives : goal.invariant-alternatives
invariant-alternatives l =
    (l.i < length l.checker.rows.now.1)
    × ((after : Choices) → Takes (context l.checker) l.of (choices_of (code_at l.checker.rows.now l.i)) l.self after
    → Takes (context l.checker) l.of (choices_of (code_at l.checker.rows.now l.list)) l.initial.self after)

abbrev pub decreases-alternatives : goal.decreases-alternatives
decreases-alternatives l = l.i
