use Rattle.std.proofs.Common.{◌≡◌, ◌<◌, ◌++◌, drop, length, map}
use Rattle.std.specs.List.{All}
use Rattle.resolved_tree.specs.Nodes.{code_at}
use Rattle.typed_tree.specs.Nodes.{Grew}
use Rattle.typed_tree.specs.Programs.{over_units, subs_in}
use Rattle.typed_expressions.specs.Sites.{site}
use Rattle.typed_statements.specs.Bodies.{sub_at}
use Rattle.typed_statements.proofs.program.sub_bodies.Given as goal

abbrev pub invariant-units : goal.invariant-units
invariant-units l =
    Grew l.initial.to l.to × All (λ b. b.body < length l.to.1) l.found.items
    × (map (sub_at l.to) l.found.items
    ++ over_units (subs_in (site l.writer)) l.next (map (code_at l.writer.reader.rows.now) (drop l.unit-index l.units))
    ≡ map (sub_at l.initial.to) l.initial.found.items ++ over_units (subs_in (site l.writer)) 1 (map (code_at l.writer.reader.rows.now) l.units))
