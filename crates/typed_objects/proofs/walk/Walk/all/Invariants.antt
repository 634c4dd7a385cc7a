use Rattle.std.proofs.Common.{◌≡◌, ◌++◌, drop, map, None}
use Rattle.resolved_tree.specs.Nodes.{code_at}
use Rattle.typed_tree.specs.Programs.{objects_in, over_units}
use Rattle.typed_objects.specs.Walks.{home_of, units_of}
use Rattle.typed_objects.proofs.walk.Walk.all.Given as goal

abbrev pub invariant-units : goal.invariant-units
invariant-units l =
    (l.found.objects ++ map (λ o. o.object) (over_units (objects_in (units_of l.self) (home_of l.self None) 0) l.next (map (code_at l.self.rows.now) (drop l.unit-index l.self.units.now)))
    ≡ l.initial.found.objects ++ map (λ o. o.object) (over_units (objects_in (units_of l.self) (home_of l.self None) 0) 1 (units_of l.self)))
    × (l.found.numbers ++ map (λ o. o.number) (over_units (objects_in (units_of l.self) (home_of l.self None) 0) l.next (map (code_at l.self.rows.now) (drop l.unit-index l.self.units.now)))
    ≡ l.initial.found.numbers ++ map (λ o. o.number) (over_units (objects_in (units_of l.self) (home_of l.self None) 0) 1 (units_of l.self)))
