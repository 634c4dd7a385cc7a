use Rattle.std.proofs.Common.{◌≡◌, ◌<◌, ℕ, false}
use Rattle.type_definitions.specs.Types.{info}
use Rattle.type_settled.specs.Measures.{marked}
use Rattle.type_settled.specs.Reach.{holds, is_in}
use Rattle.type_settled.proofs.reach.is_closed.Given as goal

abbrev pub invariant-types : goal.invariant-types
invariant-types l =
    (k : ℕ) → k < l.t → marked l.made k ≡ false → holds l.parents (is_in l.marks l.made) (info l.table k) ≡ false
