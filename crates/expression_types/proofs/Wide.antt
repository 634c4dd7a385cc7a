-- Operations on numbers of 32 bits, done in 64.
use Rattle.std.proofs.Common.{◌≡◌, ◌∙◌, ℕ, zero, suc, ◌+◌, ◌/◌, ◌≤◌, ℤ, pos, negsuc, ◌*ℤ◌, neg_ℤ, refl, arith, Option}
use Rattle.std.specs.Int.RustNames.{int_div, int_rem, unsigned_abs}
use Rattle.std.proofs.lemmas.Int.{to_z-of_z, fits_signed_mul, quot_is, rem_is}
use native.Mathlib.Nat.{div-le_self}
use mir.Syntax.{w32, w64}
use mir.Val.{SFits, of_z, to_z}
use lib.Signed.{mag}
use Rattle.type_definitions.specs.Statics.{nonzero}

pub wider : (a : ℤ) → SFits w32 a → SFits w64 a
wider a fits = record { sfits = omega (arith, fits.sfits) }

-- What is widened is as it was.
pub widened : (a x : ℤ) → SFits w32 a → x ≡ to_z w32 (of_z w32 a) → x ≡ a
widened a x fits is = is ∙ to_z-of_z w32 a fits

abs_at_most : (a : ℤ) → SFits w32 a → unsigned_abs a ≤ 2147483648
abs_at_most (pos n) fits = omega (arith, fits.sfits)
abs_at_most (negsuc n) fits = omega (arith, fits.sfits)

product_wide : (a b : ℤ) → SFits w32 a → SFits w32 b → SFits w64 (a *ℤ b)
product_wide a b fa fb = fits_signed_mul w64 a b 2147483648 2147483648 (abs_at_most a fa) (abs_at_most b fb) (omega arith)

pub product_is : (a b : ℤ) → SFits w32 a → SFits w32 b
    → to_z w64 (of_z w64 (to_z w64 (of_z w64 a) *ℤ to_z w64 (of_z w64 b))) ≡ a *ℤ b
product_is a b fa fb =
    rw (to_z-of_z w64 a (wider a fa)) (rw (to_z-of_z w64 b (wider b fb)) (to_z-of_z w64 (a *ℤ b) (product_wide a b fa fb)))

mag_neg : (n : ℕ) → mag (neg_ℤ (pos n)) ≤ n
mag_neg zero = omega arith
mag_neg (suc n) = omega arith

quotient_small : (a b : ℤ) → mag (int_div a b) ≤ mag a + 1
quotient_small (pos a) (pos b) = omega (arith, div-le_self a b)
quotient_small (pos a) (negsuc b) = omega (arith, mag_neg (a / suc b), div-le_self a (suc b))
quotient_small (negsuc a) (pos b) = omega (arith, mag_neg (suc a / b), div-le_self (suc a) b)
quotient_small (negsuc a) (negsuc b) = omega (arith, div-le_self (suc a) (suc b))

pub quotient_is : (a b : ℤ) → SFits w32 a → SFits w32 b
    → to_z w64 (of_z w64 (int_div (to_z w64 (of_z w64 a)) (to_z w64 (of_z w64 b)))) ≡ int_div a b
quotient_is a b fa fb = quot_is w64 a b (wider a fa) (wider b fb) (record { sfits = omega (arith, quotient_small a b, fa.sfits) })

pub remainder_is : (a b : ℤ) → SFits w32 a → SFits w32 b
    → to_z w64 (of_z w64 (int_rem (to_z w64 (of_z w64 a)) (to_z w64 (of_z w64 b)))) ≡ int_rem a b
remainder_is a b fa fb = rem_is w64 a b (wider a fa) (wider b fb)

pub nonzero_is : (b : ℤ) (v : Option ℤ) → (of_z w32 b ≡ 0 → ⊥) → nonzero b v ≡ v
nonzero_is (pos zero) v is = absurd (is refl)
nonzero_is (pos (suc n)) v is = grind arith
nonzero_is (negsuc n) v is = refl
