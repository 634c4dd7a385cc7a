use Rattle.std.proofs.Common.{◌≡◌, ◌<◌, ◌++◌, length, map}
use Rattle.std.specs.List.{All}
use Rattle.resolved_tree.specs.Nodes.{code_at}
use Rattle.resolved_tree.specs.Trees.{code_items}
use Rattle.typed_tree.specs.Nodes.{typed_at, typed_code_at, Grew}
use Rattle.typed_tree.specs.Statements.{typed_object, typed_objects}
use Rattle.typed_expressions.specs.Sites.{site}
use Rattle.typed_statements.proofs.objects.same_objects.Given as goal

abbrev pub invariant-names : goal.invariant-names
invariant-names l =
    (l.i < length l.writer.reader.rows.now.1) × Grew l.initial.to l.to
    × All (λ k. k < length l.to.1) l.made.items
    × (map (typed_code_at l.to) l.made.items
    ++ map (typed_object (site l.writer) (typed_at l.initial.to l.value)) (code_items (code_at l.writer.reader.rows.now l.i))
    ≡ map (typed_code_at l.initial.to) l.initial.made.items
    ++ typed_objects (site l.writer) (code_at l.writer.reader.rows.now l.names) (typed_at l.initial.to l.value))

abbrev pub decreases-names : goal.decreases-names
decreases-names l = l.i
