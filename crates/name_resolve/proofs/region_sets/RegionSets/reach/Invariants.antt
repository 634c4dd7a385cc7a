use Rattle.std.proofs.Common.{◌≡◌, ℕ, length, map, ◌+◌, ◌-◌}
use Rattle.name_resolve.specs.Tables.{listed_at}
use Rattle.name_resolve.proofs.region_sets.RegionSets.reach.Given as goal

abbrev pub invariant-turns : goal.invariant-turns
invariant-turns l =
    (r : ℕ) → listed_at (map (λ set. set.keys) l.self-inside.sets.items) r
    ≡ listed_at (map (λ set. set.keys) l.initial.self-inside.sets.items) r

abbrev pub decreases-turns : goal.decreases-turns
decreases-turns l = l.inner + 1 - length l.self-inside.sets.items
