-- Places in a list, counted from some number on.
use Rattle.std.proofs.Common.{◌≡◌, ℕ, suc, ◌+◌, ◌<◌, Some, if◌then◌else◌, List, [], ◌∷◌, drop, length, refl, arith, get_or, nat_eq}
use Rattle.std.specs.Prelude.{unwrap_or}
use Rattle.std.specs.List.{position_or_len}
use Rattle.std.proofs.Math.Seq.{drop-cons}
use Rattle.std.proofs.lemmas.Grind.{common_steps}
use Rattle.typed_expressions.specs.Numbers.{place_from}

pub place_step : (order : List ℕ) (i j x n m d : ℕ) → i < length order → j ≡ i + 1 → m ≡ n + 1
    → place_from n (drop i order) d ≡ (if nat_eq d (get_or order i x) then Some n else place_from m (drop j order) d)
place_step order i j x n m d lt e f =
    let e : j ≡ suc i = omega (arith, e) in
    rw (drop-cons order i x lt) (rw e (rw f refl))

pub place_is : (n : ℕ) (order : List ℕ) (d : ℕ)
    → unwrap_or (place_from n order d) (n + length order) ≡ n + position_or_len (nat_eq d) order
place_is n [] d = refl
place_is n (x ∷ rest) d = grind (arith, common_steps, place_is (n + 1) rest d)
