-- An index within the bounds of its array has fewer elements before it than the array has.
use Rattle.std.proofs.Common.{◌≡◌, refl, ap, ◌+◌, ◌<◌, Bool, true, false, ◌&&◌, ℤ, ◌-ℤ◌, int_le, unsigned_abs, arith, if◌then◌else◌}
use Rattle.std.proofs.lemmas.Int.{ints}
use Rattle.std.proofs.lemmas.Bool.{false≢true}
use Rattle.machine.specs.type_definitions.Types.{span}
use Rattle.soundness.specs.TypedLaws.Needed.{IndexLaw}

both_true : (a b : Bool) → a && b ≡ true → (a ≡ true) × (b ≡ true)
both_true true b e = (refl, e)
both_true false b e = absurd (false≢true e)

less : (low high v : ℤ) → int_le low v ≡ true → int_le v high ≡ true → unsigned_abs (v -ℤ low) < unsigned_abs (high -ℤ low) + 1
less low high v a b = grind (arith, ints)

between : (low high v : ℤ) → int_le low v ≡ true → int_le v high ≡ true → int_le low high ≡ true
between low high v a b = grind (arith, ints)

pub index_law : IndexLaw
index_law low high v e =
    let both = both_true (int_le low v) (int_le v high) e in
    let is : span low high ≡ unsigned_abs (high -ℤ low) + 1 =
    ap (λ b. if b then unsigned_abs (high -ℤ low) + 1 else 0) (between low high v both.0 both.1) in
    let lt = less low high v both.0 both.1 in
    omega (arith, is, lt)
