use Rattle.std.proofs.Common.{◌≡◌, ◌<◌, ◌++◌, length}
use Rattle.resolved_tree.specs.Nodes.{code_at}
use Rattle.type_definitions.specs.Gathered.{formal_infos}
use Rattle.type_gather.proofs.gathering.Gathering.formal_infos.Given as goal

abbrev pub invariant-groups : goal.invariant-groups
invariant-groups l =
    (l.i < length l.rows.1)
    × (l.found ++ formal_infos l.self.known l.traversed (code_at l.rows l.i)
    ≡ formal_infos l.self.known l.first (code_at l.rows l.formals))

abbrev pub decreases-groups : goal.decreases-groups
decreases-groups l = l.i
