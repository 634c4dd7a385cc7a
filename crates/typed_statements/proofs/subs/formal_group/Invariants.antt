use Rattle.std.proofs.Common.{◌≡◌, ◌<◌, ◌++◌, length, map}
use Rattle.resolved_tree.specs.Nodes.{code_at}
use Rattle.resolved_tree.specs.Trees.{code_items}
use Rattle.type_definitions.specs.Gathered.{declared_number}
use Rattle.typed_tree.specs.Expressions.{object_number}
use Rattle.typed_tree.specs.Programs.{formal_numbers}
use Rattle.typed_expressions.specs.Sites.{site}
use Rattle.typed_statements.proofs.subs.formal_group.Given as goal

abbrev pub invariant-names : goal.invariant-names
invariant-names l =
    (l.i < length l.writer.reader.rows.now.1)
    × (l.found ++ map (λ d. object_number (site l.writer) (declared_number d)) (code_items (code_at l.writer.reader.rows.now l.i))
    ≡ l.initial.found ++ formal_numbers (site l.writer) (code_at l.writer.reader.rows.now l.group))

abbrev pub decreases-names : goal.decreases-names
decreases-names l = l.i
