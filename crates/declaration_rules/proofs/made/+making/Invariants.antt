use Rattle.std.proofs.Common.{◌≡◌, ◌<◌, ◌≤◌, ◌+◌, ◌*◌, ◌++◌, max, length}
use Rattle.resolved_tree.specs.Nodes.{code_at}
use Rattle.type_definitions.specs.Whole.{made}
use Rattle.expression_rules.specs.Around.{context}
use Rattle.declaration_rules.proofs.made.+making.Given as goal

abbrev pub decreases-add_made : goal.decreases-add_made
decreases-add_made l = 4 * l.code + 3

abbrev pub decreases-add_item : goal.decreases-add_item
decreases-add_item l = 4 * l.code + 2

abbrev pub decreases-add_both : goal.decreases-add_both
decreases-add_both l = 4 * max l.first l.second + 4

abbrev pub decreases-add_package : goal.decreases-add_package
decreases-add_package l = 4 * max l.visible l.hidden + 4

abbrev pub invariant-add_made-items : goal.invariant-add_made-items
invariant-add_made-items l =
    (l.i < length l.checker.rows.now.1) × (l.i ≤ l.code)
    × (l.types ++ made (context l.checker) (code_at l.checker.rows.now l.i) ≡ l.initial.types ++ made (context l.checker) (code_at l.checker.rows.now l.code))

abbrev pub decreases-add_made-items : goal.decreases-add_made-items
decreases-add_made-items l = l.i
