use Rattle.std.proofs.Common.{◌≡◌, ◌<◌, ◌++◌, drop, length, map}
use Rattle.std.specs.List.{All}
use Rattle.resolved_tree.specs.Nodes.{code_at}
use Rattle.typed_tree.specs.Nodes.{typed_code_at, Grew}
use Rattle.typed_tree.specs.Programs.{elaborated, over_units}
use Rattle.typed_expressions.specs.Sites.{site}
use Rattle.typed_statements.proofs.program.elaboration.Given as goal

abbrev pub invariant-units : goal.invariant-units
invariant-units l =
    Grew l.initial.to l.to × All (λ k. k < length l.to.1) l.made.items
    × (map (typed_code_at l.to) l.made.items
    ++ over_units (elaborated (site l.writer)) l.next (map (code_at l.writer.reader.rows.now) (drop l.unit-index l.units))
    ≡ over_units (elaborated (site l.writer)) 1 (map (code_at l.writer.reader.rows.now) l.units))
