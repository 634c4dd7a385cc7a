use Rattle.std.proofs.Common.{◌≡◌, ◌<◌, ◌≤◌, ◌-◌, ℕ, get_or, length}
use Rattle.type_settled.specs.Measures.{nothing}
use Rattle.type_settled.proofs.rounds.are_same.Given as goal

abbrev pub invariant-types : goal.invariant-types
invariant-types l =
    (l.i ≤ length l.values) × (length l.values ≡ length l.others)
    × ((k : ℕ) → k < l.i → get_or l.values k nothing ≡ get_or l.others k nothing)

abbrev pub decreases-types : goal.decreases-types
decreases-types l = length l.values - l.i
