use Rattle.std.proofs.Common.{◌≡◌, ◌<◌, ◌++◌, length, map}
use Rattle.std.specs.List.{All}
use Rattle.resolved_tree.specs.Nodes.{code_at}
use Rattle.resolved_tree.specs.Trees.{code_items}
use Rattle.expression_types.specs.Here.{here}
use Rattle.typed_tree.specs.Nodes.{typed_code_at, Grew}
use Rattle.typed_tree.specs.Statements.{typed_choice}
use Rattle.typed_statements.proofs.choices.choices.Given as goal

abbrev pub invariant-choices : goal.invariant-choices
invariant-choices l =
    (l.i < length l.writer.reader.rows.now.1) × Grew l.initial.to l.to
    × All (λ k. k < length l.to.1) l.made.items
    × (map (typed_code_at l.to) l.made.items
    ++ map (typed_choice (here l.writer.reader)) (code_items (code_at l.writer.reader.rows.now l.i))
    ≡ map (typed_choice (here l.writer.reader)) (code_items (code_at l.writer.reader.rows.now l.choices)))

abbrev pub decreases-choices : goal.decreases-choices
decreases-choices l = l.i
