use Rattle.std.proofs.Common.{◌≡◌, ◌<◌, length}
use Rattle.resolved_tree.specs.Nodes.{tree_at}
use Rattle.type_definitions.specs.Faults.{noted}
use Rattle.type_definitions.specs.Declarations.{actual_marks}
use Rattle.expression_rules.specs.Around.{context}
use Rattle.declaration_rules.proofs.instances.actual_marks.Given as goal

abbrev pub invariant-actuals : goal.invariant-actuals
invariant-actuals l =
    (l.i < length l.checker.rows.now.0)
    × (noted l.found (actual_marks (context l.checker).known (tree_at l.checker.rows.now l.i)) ≡ noted l.initial.found (actual_marks (context l.checker).known (tree_at l.checker.rows.now l.args)))

abbrev pub decreases-actuals : goal.decreases-actuals
decreases-actuals l = l.i
