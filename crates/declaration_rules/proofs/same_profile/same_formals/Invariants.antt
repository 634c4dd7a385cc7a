use Rattle.std.proofs.Common.{◌≡◌, ◌<◌, false, length}
use Rattle.resolved_tree.specs.Nodes.{code_at}
use Rattle.type_definitions.specs.Declarations.{same_formals}
use Rattle.type_definitions.specs.Gathered.{formal_infos}
use Rattle.expression_types.specs.Here.{here}
use Rattle.declaration_rules.proofs.same_profile.same_formals.Given as goal

abbrev pub invariant-items : goal.invariant-items
invariant-items l =
    (l.i < length l.reader.rows.now.1)
    × (same_formals (here l.reader).known.table l.left (formal_infos (here l.reader).known false (code_at l.reader.rows.now l.i))
    ≡ same_formals (here l.reader).known.table l.formals (formal_infos (here l.reader).known false (code_at l.reader.rows.now l.list)))

abbrev pub decreases-items : goal.decreases-items
decreases-items l = l.i
