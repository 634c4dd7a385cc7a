use Rattle.std.proofs.Common.{◌≡◌, ◌<◌, length}
use Rattle.resolved_tree.specs.Nodes.{code_at}
use Rattle.type_definitions.specs.Faults.{noted}
use Rattle.type_definitions.specs.Declarations.{record_faults}
use Rattle.expression_rules.specs.Around.{context}
use Rattle.declaration_rules.proofs.types.record_faults.Given as goal

abbrev pub invariant-groups : goal.invariant-groups
invariant-groups l =
    (l.i < length l.checker.rows.now.1)
    × (noted l.found (record_faults (context l.checker).known (code_at l.checker.rows.now l.i)) ≡ noted l.initial.found (record_faults (context l.checker).known (code_at l.checker.rows.now l.list)))

abbrev pub decreases-groups : goal.decreases-groups
decreases-groups l = l.i
