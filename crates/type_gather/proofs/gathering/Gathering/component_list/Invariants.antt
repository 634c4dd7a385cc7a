use Rattle.std.proofs.Common.{◌≡◌, ◌<◌, ◌++◌, length}
use Rattle.resolved_tree.specs.Nodes.{code_at}
use Rattle.type_definitions.specs.Gathered.{component_list}
use Rattle.type_gather.proofs.gathering.Gathering.component_list.Given as goal

abbrev pub invariant-groups : goal.invariant-groups
invariant-groups l =
    (l.i < length l.rows.1)
    × (l.found ++ component_list l.self.known (code_at l.rows l.i)
    ≡ component_list l.self.known (code_at l.rows l.components))

abbrev pub decreases-groups : goal.decreases-groups
decreases-groups l = l.i
