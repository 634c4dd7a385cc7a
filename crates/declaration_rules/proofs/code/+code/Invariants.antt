use Rattle.std.proofs.Common.{◌≡◌, ◌<◌, ◌≤◌, ◌+◌, ◌*◌, max, length}
use Rattle.resolved_tree.specs.Nodes.{code_at}
use Rattle.type_definitions.specs.Faults.{noted}
use Rattle.type_definitions.specs.Declarations.{alternatives_faults, code_faults}
use Rattle.expression_rules.specs.Around.{context}
use Rattle.declaration_rules.proofs.code.+code.Given as goal

abbrev pub decreases-code_faults : goal.decreases-code_faults
decreases-code_faults l = 4 * l.code + 3

abbrev pub decreases-item_faults : goal.decreases-item_faults
decreases-item_faults l = 4 * l.code + 2

abbrev pub decreases-both_faults : goal.decreases-both_faults
decreases-both_faults l = 4 * max l.first l.second + 4

abbrev pub decreases-package_faults : goal.decreases-package_faults
decreases-package_faults l = 4 * max l.visible l.hidden + 4

abbrev pub decreases-case_faults : goal.decreases-case_faults
decreases-case_faults l = 4 * l.alternatives + 4

abbrev pub decreases-alternatives_faults : goal.decreases-alternatives_faults
decreases-alternatives_faults l = 4 * l.alternatives + 3

abbrev pub decreases-alternative_faults : goal.decreases-alternative_faults
decreases-alternative_faults l = 4 * l.alternative + 2

abbrev pub invariant-code_faults-items : goal.invariant-code_faults-items
invariant-code_faults-items l =
    (l.i < length l.checker.rows.now.1) × (l.i ≤ l.code)
    × (noted l.found (code_faults (context l.checker) (code_at l.checker.rows.now l.i)) ≡ noted l.initial.found (code_faults (context l.checker) (code_at l.checker.rows.now l.code)))

abbrev pub decreases-code_faults-items : goal.decreases-code_faults-items
decreases-code_faults-items l = l.i

abbrev pub invariant-alternatives_faults-alternatives : goal.invariant-alternatives_faults-alternatives
invariant-alternatives_faults-alternatives l =
    (l.i < length l.checker.rows.now.1) × (l.i ≤ l.alternatives)
    × (noted l.found (alternatives_faults (context l.checker) l.of (code_at l.checker.rows.now l.i)) ≡ noted l.initial.found (alternatives_faults (context l.checker) l.of (code_at l.checker.rows.now l.alternatives)))

abbrev pub decreases-alternatives_faults-alternatives : goal.decreases-alternatives_faults-alternatives
decreases-alternatives_faults-alternatives l = l.i
