use Rattle.std.proofs.Common.{◌≡◌, ◌<◌, ◌≤◌, ◌+◌, ◌*◌, ◌++◌, max, length}
use Rattle.resolved_tree.specs.Nodes.{code_at}
use Rattle.typed_tree.specs.Statements.{scope_count}
use Rattle.typed_tree.specs.Programs.{scopes_in}
use Rattle.typed_objects.proofs.scope.+walk.Given as goal

-- A call goes down by four for each step into a node, and within one from `within` to `one`, and
-- from there to a form.
abbrev pub decreases-within : goal.decreases-within
decreases-within l = 4 * l.code + 2

abbrev pub decreases-one : goal.decreases-one
decreases-one l = 4 * l.code + 1

abbrev pub decreases-both : goal.decreases-both
decreases-both l = 4 * max l.first l.second + 3

abbrev pub decreases-region : goal.decreases-region
decreases-region l = 4 * max l.items l.stmts + 4

abbrev pub decreases-for_loop : goal.decreases-for_loop
decreases-for_loop l = 4 * l.stmts + 3

abbrev pub invariant-within-parts : goal.invariant-within-parts
invariant-within-parts l =
    (l.i < length l.rows.1)
    × (l.i ≤ l.code)
    × (l.found.items ++ scopes_in l.around (length l.found.items) (code_at l.rows l.i)
    ≡ l.initial.found.items ++ scopes_in l.around (length l.initial.found.items) (code_at l.rows l.code))
    × (length l.found.items + scope_count (code_at l.rows l.i)
    ≡ length l.initial.found.items + scope_count (code_at l.rows l.code))

abbrev pub decreases-within-parts : goal.decreases-within-parts
decreases-within-parts l = l.i
