use Rattle.std.proofs.Common.{◌≡◌, ◌<◌, ◌≤◌, ◌+◌, ◌*◌, length}
use Rattle.resolved_tree.specs.Nodes.{tree_at}
use Rattle.type_definitions.specs.Faults.{noted}
use Rattle.type_definitions.specs.Expressions.{arguments, behind}
use Rattle.expression_rules.specs.Around.{context}
use Rattle.expression_rules.proofs.checker.Checker.+inside.Given as goal

abbrev pub decreases-inside : goal.decreases-inside
decreases-inside l = 3 * l.e

abbrev pub decreases-argument : goal.decreases-argument
decreases-argument l = 3 * l.e + 1

abbrev pub decreases-matched_argument : goal.decreases-matched_argument
decreases-matched_argument l = 3 * l.e + 2

abbrev pub decreases-arguments : goal.decreases-arguments
decreases-arguments l = 3 * l.list

abbrev pub decreases-behind : goal.decreases-behind
decreases-behind l = 3 * l.suffixes

abbrev pub decreases-within_suffix : goal.decreases-within_suffix
decreases-within_suffix l = 3 * l.suffix

abbrev pub invariant-arguments-arguments : goal.invariant-arguments-arguments
invariant-arguments-arguments l =
    (l.i < length l.self.rows.now.0) × (l.n + l.i ≤ l.list)
    × (noted l.found (arguments (context l.self) l.role l.n (tree_at l.self.rows.now l.i))
    ≡ noted l.initial.found (arguments (context l.self) l.role 0 (tree_at l.self.rows.now l.list)))

abbrev pub decreases-arguments-arguments : goal.decreases-arguments-arguments
decreases-arguments-arguments l = l.i

abbrev pub invariant-behind-suffixes : goal.invariant-behind-suffixes
invariant-behind-suffixes l =
    (l.i < length l.self.rows.now.0) × (l.i ≤ l.suffixes)
    × (noted l.found (behind (context l.self) l.way (tree_at l.self.rows.now l.i))
    ≡ noted l.initial.found (behind (context l.self) l.initial.way (tree_at l.self.rows.now l.suffixes)))

abbrev pub decreases-behind-suffixes : goal.decreases-behind-suffixes
decreases-behind-suffixes l = l.i
