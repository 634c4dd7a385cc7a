use Rattle.std.proofs.Common.{◌≡◌, ◌<◌, ◌≤◌, ◌+◌, ◌*◌, max, length}
use Rattle.resolved_tree.specs.Nodes.{code_at}
use Rattle.type_definitions.specs.Gathered.{gather}
use Rattle.type_gather.specs.Gathering.{context}
use Rattle.type_gather.proofs.gathering.Gathering.+walk.Given as goal

-- A call goes down by five for each step into a node, and within one from `gather` to `one`, from
-- there to a group of code, and from there to a form.
abbrev pub decreases-gather : goal.decreases-gather
decreases-gather l = 5 * l.code + 4

abbrev pub decreases-one : goal.decreases-one
decreases-one l = 5 * l.code + 3

abbrev pub decreases-unit : goal.decreases-unit
decreases-unit l = 5 * l.code + 2

abbrev pub decreases-statement : goal.decreases-statement
decreases-statement l = 5 * l.code + 2

abbrev pub decreases-body : goal.decreases-body
decreases-body l = 5 * max l.items l.stmts + 5

abbrev pub decreases-package : goal.decreases-package
decreases-package l = 5 * max l.visible l.hidden + 6

abbrev pub decreases-hidden : goal.decreases-hidden
decreases-hidden l = 5 * l.parts + 5

abbrev pub decreases-for_loop : goal.decreases-for_loop
decreases-for_loop l = 5 * l.stmts + 5

abbrev pub decreases-both : goal.decreases-both
decreases-both l = 5 * max l.first l.second + 5

abbrev pub invariant-gather-parts : goal.invariant-gather-parts
invariant-gather-parts l =
    (l.i < length l.rows.1)
    × (l.i ≤ l.code)
    × (gather (code_at l.rows l.i) (context l.self) ≡ gather (code_at l.rows l.code) (context l.initial.self))

abbrev pub decreases-gather-parts : goal.decreases-gather-parts
decreases-gather-parts l = l.i
