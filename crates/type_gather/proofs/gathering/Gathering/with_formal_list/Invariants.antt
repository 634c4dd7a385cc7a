use Rattle.std.proofs.Common.{◌≡◌, ◌<◌, length}
use Rattle.resolved_tree.specs.Nodes.{code_at}
use Rattle.type_definitions.specs.Gathered.{each, with_formal_group}
use Rattle.type_gather.specs.Gathering.{context}
use Rattle.type_gather.proofs.gathering.Gathering.with_formal_list.Given as goal

abbrev pub invariant-groups : goal.invariant-groups
invariant-groups l =
    (l.i < length l.rows.1)
    × (each with_formal_group (code_at l.rows l.i) (context l.self)
    ≡ each with_formal_group (code_at l.rows l.formals) (context l.initial.self))

abbrev pub decreases-groups : goal.decreases-groups
decreases-groups l = l.i
