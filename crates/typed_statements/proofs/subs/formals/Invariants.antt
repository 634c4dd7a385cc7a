use Rattle.std.proofs.Common.{◌≡◌, ◌<◌, ◌++◌, flat_map, length}
use Rattle.resolved_tree.specs.Nodes.{code_at}
use Rattle.resolved_tree.specs.Trees.{code_items}
use Rattle.typed_tree.specs.Programs.{formal_numbers, front_formals}
use Rattle.typed_expressions.specs.Sites.{site}
use Rattle.typed_statements.proofs.subs.formals.Given as goal

abbrev pub invariant-groups : goal.invariant-groups
invariant-groups l =
    (l.i < length l.writer.reader.rows.now.1)
    × (l.found ++ flat_map (formal_numbers (site l.writer)) (code_items (code_at l.writer.reader.rows.now l.i))
    ≡ flat_map (formal_numbers (site l.writer)) (front_formals (code_at l.writer.reader.rows.now l.front)))

abbrev pub decreases-groups : goal.decreases-groups
decreases-groups l = l.i
