use Rattle.std.proofs.Common.{◌≡◌, ◌<◌, length, is_some}
use Rattle.resolved_tree.specs.Nodes.{code_at}
use Rattle.type_definitions.specs.Faults.{noted}
use Rattle.type_definitions.specs.Declarations.{group_faults}
use Rattle.expression_rules.specs.Around.{context}
use Rattle.declaration_rules.proofs.profiles.group_faults.Given as goal

abbrev pub invariant-names : goal.invariant-names
invariant-names l =
    (l.i < length l.checker.rows.now.1)
    × (noted l.found (group_faults (context l.checker) (is_some l.result_of) l.result_of l.traversed l.mode (code_at l.checker.rows.now l.of) (code_at l.checker.rows.now l.i))
    ≡ noted l.initial.found (group_faults (context l.checker) (is_some l.result_of) l.result_of l.initial.traversed l.mode (code_at l.checker.rows.now l.of) (code_at l.checker.rows.now l.names)))

abbrev pub decreases-names : goal.decreases-names
decreases-names l = l.i
