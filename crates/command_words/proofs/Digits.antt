-- What std reads as a number is the value of some digits.
use Rattle.std.proofs.Common.{◌≡◌, refl, sym, ap, subst, ◌∙◌, ℕ, suc, ◌<◌, ◌≤◌, ◌^◌, Bool, true, false, List, [], ◌∷◌, length, Option, Some, None, Result, Ok, Err, arith, nat_lt, cond, drop}
use Rattle.std.specs.Prelude.{if◌then◌else◌, ◌&&◌, ◌==◌}
use Rattle.std.specs.Char.{is_ascii_digit}
use Rattle.std.specs.List.{list_all}
use Rattle.std.specs.Str.{all_ascii_digits}
use Rattle.std.specs.Str.Parse.{ParsesUnsigned, IsNumeral, digits_value, without_leading_plus}
use Rattle.std.specs.Result.{result_ok}
use Rattle.std.proofs.lemmas.Str.Parse.{IsNumeralModel, numerals_by_value, tells_all_ascii_digits, digits_value_short}
use Rattle.command_words.specs.Words.{number_in}

model : IsNumeralModel (λ ds. all_ascii_digits ds ≡ true) (digits_value 10)
model = numerals_by_value (λ ds. all_ascii_digits ds ≡ true) tells_all_ascii_digits

all_digits : (ds : List ℕ) → list_all is_ascii_digit ds ≡ all_ascii_digits ds
all_digits [] = refl
all_digits (d ∷ ds) = ap (λ b. is_ascii_digit d && b) (all_digits ds)

-- no sign stands before digits
first_digit : (a b : Bool) → (a && b) ≡ true → a ≡ true
first_digit true b is = refl
first_digit false b is = is

not_plus : (c : ℕ) → is_ascii_digit c ≡ true → (c == 43) ≡ false
not_plus c is = grind arith

no_plus : (ds : List ℕ) → list_all is_ascii_digit ds ≡ true → without_leading_plus ds ≡ ds
no_plus [] is = refl
no_plus (d ∷ ds) is = ap (λ b. drop (cond b 1 0) (d ∷ ds)) (not_plus d (first_digit (is_ascii_digit d) (list_all is_ascii_digit ds) is))

-- ten digits at most are below all bounds of a u64
small : (ds : List ℕ) → list_all is_ascii_digit ds ≡ true → length ds ≤ 10 → digits_value 10 ds < 2 ^ 64
small ds is few = less (digits_value 10 ds) (digits_value_short model ds 10 (sym (all_digits ds) ∙ is) few)
  where
    less : (v : ℕ) → v < 10 ^ 10 → v < 2 ^ 64
    less v low = omega (arith, low)

some : (ds : List ℕ) (d : ℕ) → list_all is_ascii_digit (d ∷ ds) ≡ true → IsNumeral 10 (d ∷ ds)
some ds d is = (above (length ds), model.to (d ∷ ds) (sym (all_digits (d ∷ ds)) ∙ is))
  where
    above : (n : ℕ) → 0 < suc n
    above n = omega arith

found : (ds : List ℕ) (d : ℕ) → list_all is_ascii_digit (d ∷ ds) ≡ true → number_in (d ∷ ds) ≡ Some (digits_value 10 (d ∷ ds))
found ds d is = ap (λ b. if nat_lt 0 (length (d ∷ ds)) && b then Some (digits_value 10 (d ∷ ds)) else None) is ∙ ap (λ b. if b && true then Some (digits_value 10 (d ∷ ds)) else None) (above (length ds))
  where
    above : (n : ℕ) → nat_lt 0 (suc n) ≡ true
    above n = grind arith

parsed : {E : Type 0} (ds : List ℕ) (r : Result ℕ E) → list_all is_ascii_digit ds ≡ true → length ds ≤ 10 → ParsesUnsigned 64 10 ds r → result_ok r ≡ number_in ds
parsed [] (Ok v) is few p = absurd (none (length (without_leading_plus [])) refl p.0.0.0)
  where
    none : (n : ℕ) → n ≡ 0 → 0 < n → ⊥
    none n is low = omega (arith, is, low)
parsed [] (Err e) is few p = refl
parsed (d ∷ ds) (Ok v) is few p = ap Some (p.1 ∙ ap (digits_value 10) (no_plus (d ∷ ds) is)) ∙ sym (found ds d is)
parsed (d ∷ ds) (Err e) is few p =
    absurd (p (subst (λ l. IsNumeral 10 l × (digits_value 10 l < 2 ^ 64)) (sym (no_plus (d ∷ ds) is)) (some ds d is, small (d ∷ ds) is few)))

pub number_from : {E : Type 0} (ds : List ℕ) (r : Result ℕ E) (o : Option ℕ) → list_all is_ascii_digit ds ≡ true → length ds ≤ 10 → ParsesUnsigned 64 10 ds r → o ≡ result_ok r → o ≡ number_in ds
number_from ds r o is few p same = same ∙ parsed ds r is few p
