use Rattle.std.proofs.Common.{List, ℕ, take, ◌++◌}
use Rattle.name_resolve.specs.Stands.{AreRegionsOf}
use Rattle.name_resolve.proofs.region_sets.add_regions.Given as goal

abbrev pub invariant-turns : goal.invariant-turns
invariant-turns l =
    (front before : List ℕ) → AreRegionsOf l.all before (front ++ l.initial.set.keys)
    → AreRegionsOf l.all (before ++ take l.number-index l.packages) (front ++ l.set.keys)
