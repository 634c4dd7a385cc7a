use Rattle.std.proofs.Common.{◌≡◌, ◌<◌, ◌≤◌, ◌+◌, ◌*◌, ◌++◌, max, length, map}
use Rattle.resolved_tree.specs.Nodes.{code_at}
use Rattle.typed_tree.specs.Statements.{scope_count}
use Rattle.typed_objects.specs.Walks.{declared_in}
use Rattle.typed_objects.proofs.walk.Walk.+walk.Given as goal

-- A call goes down by five for each step into a node, and within one from `within` to `one`, and
-- from there to a form.
abbrev pub decreases-within : goal.decreases-within
decreases-within l = 5 * l.code + 2

abbrev pub decreases-one : goal.decreases-one
decreases-one l = 5 * l.code + 1

abbrev pub decreases-both : goal.decreases-both
decreases-both l = 5 * max l.first l.second + 3

abbrev pub decreases-body : goal.decreases-body
decreases-body l = 5 * max l.items l.stmts + 4

abbrev pub decreases-for_loop : goal.decreases-for_loop
decreases-for_loop l = 5 * l.stmts + 3

abbrev pub decreases-block : goal.decreases-block
decreases-block l = 5 * max l.items l.stmts + 4

abbrev pub decreases-package : goal.decreases-package
decreases-package l = 5 * max l.visible l.hidden + 4

abbrev pub decreases-package_body : goal.decreases-package_body
decreases-package_body l = 5 * l.parts + 3

abbrev pub invariant-within-parts : goal.invariant-within-parts
invariant-within-parts l =
    (l.i < length l.self.rows.now.1)
    × (l.i ≤ l.code)
    × (l.found.objects ++ map (λ o. o.object) (declared_in l.self l.home l.scope l.next l.i)
    ≡ l.initial.found.objects ++ map (λ o. o.object) (declared_in l.self l.home l.scope l.initial.next l.code))
    × (l.found.numbers ++ map (λ o. o.number) (declared_in l.self l.home l.scope l.next l.i)
    ≡ l.initial.found.numbers ++ map (λ o. o.number) (declared_in l.self l.home l.scope l.initial.next l.code))
    × (l.next + scope_count (code_at l.self.rows.now l.i) ≡ l.initial.next + scope_count (code_at l.self.rows.now l.code))

abbrev pub decreases-within-parts : goal.decreases-within-parts
decreases-within-parts l = l.i
