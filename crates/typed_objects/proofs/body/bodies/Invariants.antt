use Rattle.std.proofs.Common.{◌≡◌, ◌++◌, drop, map}
use Rattle.std.specs.Prelude.{flat_map}
use Rattle.resolved_tree.specs.Nodes.{code_at}
use Rattle.typed_tree.specs.Programs.{bodies_in}
use Rattle.typed_objects.proofs.body.bodies.Given as goal

abbrev pub invariant-units : goal.invariant-units
invariant-units l =
    l.found.items ++ flat_map bodies_in (map (code_at l.rows) (drop l.unit-index l.units))
    ≡ flat_map bodies_in (map (code_at l.rows) l.units)
