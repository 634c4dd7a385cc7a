use Rattle.std.proofs.Common.{◌≡◌, ◌<◌, ◌++◌, length}
use Rattle.resolved_tree.specs.Nodes.{code_at}
use Rattle.type_definitions.specs.Gathered.{texts}
use Rattle.type_gather.proofs.declared.texts.Given as goal

abbrev pub invariant-names : goal.invariant-names
invariant-names l =
    (l.i < length l.rows.1)
    × (l.found ++ texts (code_at l.rows l.i) ≡ texts (code_at l.rows l.names))

abbrev pub decreases-names : goal.decreases-names
decreases-names l = l.i
