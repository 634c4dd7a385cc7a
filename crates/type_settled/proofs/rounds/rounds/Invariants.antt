use Rattle.std.proofs.Common.{◌≡◌, ℕ, get_or}
use Rattle.type_settled.specs.Measures.{nothing, measured, marked}
use Rattle.type_settled.proofs.rounds.rounds.Given as goal

abbrev pub invariant-rounds : goal.invariant-rounds
invariant-rounds l =
    (t : ℕ) → get_or l.values.items t nothing ≡ measured (marked l.unsound) l._round l.table t
