use Rattle.std.proofs.Common.{◌≡◌, ◌<◌, length, is_some}
use Rattle.resolved_tree.specs.Nodes.{code_at}
use Rattle.type_definitions.specs.Faults.{noted}
use Rattle.type_definitions.specs.Declarations.{formals_faults}
use Rattle.expression_rules.specs.Around.{context}
use Rattle.declaration_rules.proofs.profiles.formals_faults.Given as goal

abbrev pub invariant-groups : goal.invariant-groups
invariant-groups l =
    (l.i < length l.checker.rows.now.1)
    × (noted l.found (formals_faults (context l.checker) (is_some l.result_of) l.result_of l.traversed (code_at l.checker.rows.now l.i))
    ≡ noted l.initial.found (formals_faults (context l.checker) (is_some l.result_of) l.result_of l.initial.traversed (code_at l.checker.rows.now l.formals)))

abbrev pub decreases-groups : goal.decreases-groups
decreases-groups l = l.i
