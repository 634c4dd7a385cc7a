use Rattle.std.proofs.Common.{◌≡◌, ◌<◌, ℕ, false, true}
use Rattle.type_settled.specs.Measures.{marked}
use Rattle.type_settled.specs.Orders.{is_done}
use Rattle.type_settled.proofs.measures.are_marked.Given as goal

abbrev pub invariant-types : goal.invariant-types
invariant-types l =
    (k : ℕ) → k < l.t → is_done l.done k ≡ false → marked l.unsound k ≡ false → marked l.made k ≡ true
