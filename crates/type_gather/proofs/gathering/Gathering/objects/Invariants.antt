use Rattle.std.proofs.Common.{◌≡◌, ◌<◌, length}
use Rattle.resolved_tree.specs.Nodes.{code_at}
use Rattle.type_definitions.specs.Gathered.{each, with_object}
use Rattle.type_gather.specs.Gathering.{context}
use Rattle.type_gather.proofs.gathering.Gathering.objects.Given as goal

abbrev pub invariant-names : goal.invariant-names
invariant-names l =
    (l.i < length l.rows.1)
    × (each (with_object l.constant (code_at l.rows l.of) l.shared) (code_at l.rows l.i) (context l.self)
    ≡ each (with_object l.constant (code_at l.rows l.of) l.shared) (code_at l.rows l.names) (context l.initial.self))

abbrev pub decreases-names : goal.decreases-names
decreases-names l = l.i
