use Rattle.std.proofs.Common.{◌≡◌, ◌<◌, length}
use Rattle.resolved_tree.specs.Nodes.{code_at}
use Rattle.type_definitions.specs.Faults.{noted}
use Rattle.type_definitions.specs.Declarations.{choices_faults}
use Rattle.expression_rules.specs.Around.{context}
use Rattle.declaration_rules.proofs.code.choices_faults.Given as goal

abbrev pub invariant-choices : goal.invariant-choices
invariant-choices l =
    (l.i < length l.checker.rows.now.1)
    × (noted l.found (choices_faults (context l.checker) l.of l.alone (code_at l.checker.rows.now l.i)) ≡ noted l.initial.found (choices_faults (context l.checker) l.of l.alone (code_at l.checker.rows.now l.choices)))

abbrev pub decreases-choices : goal.decreases-choices
decreases-choices l = l.i
