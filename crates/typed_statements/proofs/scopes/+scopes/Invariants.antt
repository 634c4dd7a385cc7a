use Rattle.std.proofs.Common.{◌≡◌, ◌<◌, ◌≤◌, ◌+◌, ◌*◌, max, length}
use Rattle.resolved_tree.specs.Nodes.{code_at}
use Rattle.typed_tree.specs.Statements.{scope_count}
use Rattle.typed_statements.proofs.scopes.+scopes.Given as goal

abbrev pub decreases-behind : goal.decreases-behind
decreases-behind l = 3 * l.code + 1

abbrev pub decreases-behind_one : goal.decreases-behind_one
decreases-behind_one l = 3 * l.code

abbrev pub decreases-behind_both : goal.decreases-behind_both
decreases-behind_both l = 3 * max l.first l.second + 2

abbrev pub invariant-behind-parts : goal.invariant-behind-parts
invariant-behind-parts l =
    (l.i < length l.rows.1) × (l.i ≤ l.code)
    × (l.next + scope_count (code_at l.rows l.i) ≡ l.from + scope_count (code_at l.rows l.code))

abbrev pub decreases-behind-parts : goal.decreases-behind-parts
decreases-behind-parts l = l.i
