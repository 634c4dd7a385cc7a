use Rattle.std.proofs.Common.{◌≡◌, ◌<◌, ◌++◌, List, false, length}
use Rattle.resolved_tree.specs.Nodes.{code_at}
use Rattle.type_definitions.specs.declared.table.FormalInfo.{FormalInfo}
use Rattle.type_definitions.specs.Declarations.{same_formals}
use Rattle.type_definitions.specs.Gathered.{formal_group}
use Rattle.expression_types.specs.Here.{here}
use Rattle.declaration_rules.proofs.same_profile.same_group.Given as goal

abbrev pub invariant-names : goal.invariant-names
invariant-names l =
    (l.i < length l.reader.rows.now.1)
    × ((rest : List FormalInfo) → same_formals (here l.reader).known.table l.left
    (formal_group (here l.reader).known false l.mode (code_at l.reader.rows.now l.of) (code_at l.reader.rows.now l.i) ++ rest)
    ≡ same_formals (here l.reader).known.table l.formals
    (formal_group (here l.reader).known false l.mode (code_at l.reader.rows.now l.of) (code_at l.reader.rows.now l.names) ++ rest))

abbrev pub decreases-names : goal.decreases-names
decreases-names l = l.i
