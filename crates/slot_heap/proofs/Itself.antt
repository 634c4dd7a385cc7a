-- Words that are the values themselves.
use Rattle.std.proofs.Common.{◌≡◌, ℕ, ◌+◌, Option, IsSomeAnd, List, refl, sym, subst, arith}
use Rattle.run_values.specs.declared.value.Value.{Value}
use Rattle.slot_heap.specs.Runs.{Stand, StandsAt}
use Rattle.slot_heap.specs.Stores.{IsItself}

pub stand_itself : (ws : List Value) → Stand IsItself ws 0 ws
stand_itself ws i v is =
    let P : Option Value → Type 0 = λ o. IsSomeAnd o (λ w. IsItself w v) in
    let there : StandsAt IsItself ws i v = subst P (sym is) refl in
    let start : 0 + i ≡ i = omega arith in
    let Q : ℕ → Type 0 = λ j. StandsAt IsItself ws j v in
    subst Q (sym start) there
