use Rattle.std.proofs.Common.{◌≡◌, ◌<◌, ◌++◌, length}
use Rattle.resolved_tree.specs.Nodes.{code_at}
use Rattle.type_definitions.specs.Gathered.{component_group}
use Rattle.type_gather.proofs.types.component_group.Given as goal

abbrev pub invariant-names : goal.invariant-names
invariant-names l =
    (l.i < length l.rows.1)
    × (l.found ++ component_group l.of (code_at l.rows l.i)
    ≡ l.initial.found ++ component_group l.of (code_at l.rows l.names))

abbrev pub decreases-names : goal.decreases-names
decreases-names l = l.i
