use Rattle.std.proofs.Common.{◌≡◌, ◌<◌, ◌++◌, length}
use Rattle.resolved_tree.specs.Nodes.{code_at}
use Rattle.type_definitions.specs.Gathered.{formal_group}
use Rattle.type_gather.proofs.gathering.Gathering.formal_group.Given as goal

abbrev pub invariant-names : goal.invariant-names
invariant-names l =
    (l.i < length l.rows.1)
    × (l.found ++ formal_group l.self.known l.traversed l.mode (code_at l.rows l.of) (code_at l.rows l.i)
    ≡ l.initial.found ++ formal_group l.self.known l.first l.mode (code_at l.rows l.of) (code_at l.rows l.names))

abbrev pub decreases-names : goal.decreases-names
decreases-names l = l.i
