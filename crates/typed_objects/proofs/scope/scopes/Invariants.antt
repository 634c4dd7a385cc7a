use Rattle.std.proofs.Common.{◌≡◌, ◌∷◌, ◌++◌, drop, length, map}
use Rattle.resolved_tree.specs.Nodes.{code_at}
use Rattle.typed_tree.specs.Programs.{over_units, scopes_in}
use Rattle.typed_objects.proofs.scope.scopes.Given as goal

abbrev pub invariant-units : goal.invariant-units
invariant-units l =
    l.found.items ++ over_units (scopes_in 0) (length l.found.items) (map (code_at l.rows) (drop l.unit-index l.units))
    ≡ 0 ∷ over_units (scopes_in 0) 1 (map (code_at l.rows) l.units)
