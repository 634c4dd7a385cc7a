use Rattle.std.proofs.Common.{◌≡◌, ℕ, length, map, ◌+◌, ◌-◌}
use Rattle.name_resolve.specs.Tables.{listed_at}
use Rattle.name_resolve.proofs.number_lists.NumberLists.reach.Given as goal

abbrev pub invariant-turns : goal.invariant-turns
invariant-turns l =
    (r : ℕ) → listed_at (map (λ list. list.items) l.self-inside.lists.items) r
    ≡ listed_at (map (λ list. list.items) l.initial.self-inside.lists.items) r

abbrev pub decreases-turns : goal.decreases-turns
decreases-turns l = l.index + 1 - length l.self-inside.lists.items
