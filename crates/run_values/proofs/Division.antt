-- The laws of division hold of what `/`, `rem` and `mod` give.
use Rattle.std.proofs.Common.{◌≡◌, refl, sym, ap, ◌∙◌, subst, ℕ, zero, suc, ◌<◌, ◌%◌, Bool, true, false, Option, Some, None, inl, inr, ◌⊎◌, ℤ, pos, negsuc, neg_ℤ, ◌+ℤ◌, ◌*ℤ◌, ◌≤ℤ◌, MatchOption, arith}
use Rattle.std.specs.Int.RustNames.{int_div, int_rem, unsigned_abs}
use Rattle.std.specs.Prelude.{if◌then◌else◌}
use lib.IntN.{pred_ℤ, pred_ℤ-*ℤ}
use mir.Syntax.{w32}
use mir.Val.{SFits, of_z}
use Rattle.std.proofs.lemmas.Int.{ints, quot-rem, rem_below}
use Rattle.std.proofs.Math.Nat.{mod-le}
use Rattle.run_values.specs.Arithmetic.{is_integer, fits, nonzero, has_other_sign, int_mod, quotient, modulus}
use Rattle.run_values.specs.Division.{HasSignOf, Divides, IsQuotient, IsModulus, IsOutside}

-- ---- what goes with a divisor that isn't zero

pub not_zero : (b : ℤ) → (of_z w32 b ≡ 0 → ⊥) → 0 < unsigned_abs b
not_zero (pos zero) is = absurd (is refl)
not_zero (pos (suc n)) is = omega arith
not_zero (negsuc n) is = omega arith

nonzero_is : (b : ℤ) (v : Option ℤ) → 0 < unsigned_abs b → nonzero b v ≡ v
nonzero_is (pos zero) v h = absurd (omega arith)
nonzero_is (pos (suc n)) v h = grind arith
nonzero_is (negsuc n) v h = refl

-- ---- quotient and remainder

negated : (n : ℕ) → neg_ℤ (pos n) ≤ℤ pos 0
negated zero = omega (arith, ints)
negated (suc n) = omega (arith, ints)

rem-signed : (a b : ℤ) → HasSignOf (int_rem a b) a
rem-signed (pos n) b =
    let less = mod-le n (unsigned_abs b) in
    record { above = λ up. omega (arith, ints); below = λ down. omega (arith, ints) }
rem-signed (negsuc n) b =
    let size = suc n % unsigned_abs b in
    record { above = λ up. absurd (omega (arith, ints)); below = λ down. negated size }

pub divides : (a b : ℤ) → 0 < unsigned_abs b → Divides a b (int_div a b) (int_rem a b)
divides a b h =
    record { whole = sym (quot-rem a b); signed = rem-signed a b; small = rem_below a b h }

-- ---- `/`

-- what `/` owes of a result
abbrev Law : ℤ → ℤ → Option ℤ → Type 0
Law a b o = MatchOption o ((b ≡ pos 0) ⊎ IsOutside (IsQuotient a b)) (IsQuotient a b)

fits_or_outside : (a b v : ℤ) (t : Bool) → is_integer v ≡ t → IsQuotient a b v
    → Law a b (if t then Some v else None)
fits_or_outside a b v true e is = is
fits_or_outside a b v false e is = inr (v, (is, ap (λ t. if t then Some v else None) e))

by_nonzero : (a b : ℤ) → 0 < unsigned_abs b → Law a b (quotient a b)
by_nonzero a b h =
    let v = int_div a b in
    let law = fits_or_outside a b v (is_integer v) refl (int_rem a b, divides a b h) in
    subst (Law a b) (sym (nonzero_is b (fits v) h)) law

quotient-law : (a b : ℤ) → Law a b (quotient a b)
quotient-law a (pos zero) = inl refl
quotient-law a (pos (suc n)) = by_nonzero a (pos (suc n)) (omega arith)
quotient-law a (negsuc n) = by_nonzero a (negsuc n) (omega arith)

pub quotient_law : (a b : ℤ) (o : Option ℤ) → o ≡ quotient a b
    → MatchOption o ((b ≡ pos 0) ⊎ IsOutside (IsQuotient a b)) (IsQuotient a b)
quotient_law a b o is = subst (Law a b) (sym is) (quotient-law a b)

-- ---- `mod`

moved_whole : (a b q r : ℤ) → a ≡ q *ℤ b +ℤ r → a ≡ pred_ℤ q *ℤ b +ℤ (r +ℤ b)
moved_whole a b q r e = let less = pred_ℤ-*ℤ q b in omega (arith, ints)

moved_small : (r b : ℤ) → has_other_sign r b ≡ true → unsigned_abs r < unsigned_abs b
    → unsigned_abs (r +ℤ b) < unsigned_abs b
moved_small r b t h = grind (arith, ints)

moved_signed : (r b : ℤ) → has_other_sign r b ≡ true → unsigned_abs r < unsigned_abs b
    → HasSignOf (r +ℤ b) b
moved_signed r b t h =
    record { above = λ up. grind (arith, ints); below = λ down. grind (arith, ints) }

kept_signed : (r b : ℤ) → has_other_sign r b ≡ false → unsigned_abs r < unsigned_abs b
    → HasSignOf r b
kept_signed r b t h =
    record { above = λ up. grind (arith, ints); below = λ down. grind (arith, ints) }

mod_by : (a b r : ℤ) (t : Bool) → has_other_sign r b ≡ t → Divides a b (int_div a b) r
    → IsModulus a b (if t then r +ℤ b else r)
mod_by a b r true e d =
    let q = int_div a b in
    record {
      whole = (pred_ℤ q, moved_whole a b q r d.whole);
      signed = moved_signed r b e d.small;
      small = moved_small r b e d.small;
    }
mod_by a b r false e d =
    record { whole = (int_div a b, d.whole); signed = kept_signed r b e d.small; small = d.small }

pub mod-law : (a b : ℤ) → 0 < unsigned_abs b → IsModulus a b (int_mod a b)
mod-law a b h = let r = int_rem a b in mod_by a b r (has_other_sign r b) refl (divides a b h)

-- what is smaller than a value of Integer is one
fits_small : (v b : ℤ) → SFits w32 b → unsigned_abs v < unsigned_abs b → fits v ≡ Some v
fits_small v b f h = let s = f.sfits in grind (arith, ints)

pub modulus_is : (a b : ℤ) → SFits w32 b → 0 < unsigned_abs b → modulus a b ≡ Some (int_mod a b)
modulus_is a b f h =
    let m = int_mod a b in
    let law = mod-law a b h in
    nonzero_is b (fits m) h ∙ fits_small m b f law.small
