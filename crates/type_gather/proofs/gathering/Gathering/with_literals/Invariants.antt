use Rattle.std.proofs.Common.{◌≡◌, ◌<◌, length}
use Rattle.resolved_tree.specs.Nodes.{code_at}
use Rattle.type_definitions.specs.Gathered.{with_literals}
use Rattle.type_gather.specs.Gathering.{context}
use Rattle.type_gather.proofs.gathering.Gathering.with_literals.Given as goal

abbrev pub invariant-literals : goal.invariant-literals
invariant-literals l =
    (l.i < length l.rows.1)
    × (with_literals l.of l.position (code_at l.rows l.i) (context l.self)
    ≡ with_literals l.of 0 (code_at l.rows l.literals) (context l.initial.self))

abbrev pub decreases-literals : goal.decreases-literals
decreases-literals l = l.i
