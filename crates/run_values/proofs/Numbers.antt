-- What std reads as a number is what an item's bytes write.
use Rattle.std.proofs.Common.{◌≡◌, refl, sym, ap, ◌∙◌, ℕ, Bool, true, false, List, [], ◌∷◌, length, Option, Some, None, Result, Ok, Err, ℤ, pos, negsuc, arith, nat_lt, inl, inr, cond, drop}
use Rattle.std.specs.Prelude.{if◌then◌else◌, ◌&&◌, ◌==◌}
use mir.Syntax.{w32}
use mir.Val.{SFits}
use Rattle.std.specs.Str.{IsUtf8, IsAscii, all_ascii_digits}
use Rattle.std.specs.Str.Parse.{ParsesSigned, IsNumeral, AllDigits, digits_value, without_leading_sign, signed_digits_value}
use Rattle.std.specs.Result.{result_ok}
use Rattle.std.proofs.lemmas.Str.Parse.{IsNumeralModel, numerals_by_value, tells_all_ascii_digits}
use Rattle.std.proofs.lemmas.Fmt.{IsAscii-from_digits}
use Rattle.std.proofs.lemmas.Str.Ascii.{IsAscii-cons, IsAscii-nil}
use Rattle.std.proofs.lemmas.Str.{IsUtf8-from_ascii}
use Rattle.std.proofs.lemmas.Bool.{cases_lt, lt-ltb, ltb-true, eqb-true}
use Rattle.run_values.specs.Arithmetic.{fits}
use Rattle.run_values.specs.Items.{number}

model : IsNumeralModel (λ ds. all_ascii_digits ds ≡ true) (digits_value 10)
model = numerals_by_value (λ ds. all_ascii_digits ds ≡ true) tells_all_ascii_digits

-- ---- values of Integer

fits_is : (v : ℤ) → SFits w32 v → fits v ≡ Some v
fits_is (pos n) f = let s = f.sfits in grind arith
fits_is (negsuc n) f = let s = f.sfits in grind arith

fits_not : (v : ℤ) → (SFits w32 v → ⊥) → fits v ≡ None
fits_not (pos n) not = elim (cases_lt n 2147483648) [
  | inl small ↦ absurd (not (record { sfits = small }))
  | inr large ↦ grind arith
]
fits_not (negsuc n) not = elim (cases_lt n 2147483648) [
  | inl small ↦ absurd (not (record { sfits = small }))
  | inr large ↦ grind arith
]

-- ---- a text that is a number of Integer, and one that isn't

abbrev number_by : Bool → Bool → ℤ → Option ℤ
number_by some digits v = if some && digits then fits v else None

accepted : (ds : List ℕ) (v : ℤ) → IsNumeral 10 ds → SFits w32 v
    → number_by (nat_lt 0 (length ds)) (all_ascii_digits ds) v ≡ Some v
accepted ds v numeral f = rw (lt-ltb 0 (length ds) numeral.0, model.from ds numeral.1) (fits_is v f)

refused_by : (ds : List ℕ) (v : ℤ) (some digits : Bool) → nat_lt 0 (length ds) ≡ some
    → all_ascii_digits ds ≡ digits → (IsNumeral 10 ds × SFits w32 v → ⊥)
    → number_by some digits v ≡ None
refused_by ds v true true s d not =
    let numeral : IsNumeral 10 ds = (ltb-true 0 (length ds) s, model.to ds d) in
    fits_not v (λ f. not (numeral, f))
refused_by ds v true false s d not = refl
refused_by ds v false digits s d not = refl

refused : (ds : List ℕ) (v : ℤ) → (IsNumeral 10 ds × SFits w32 v → ⊥)
    → number_by (nat_lt 0 (length ds)) (all_ascii_digits ds) v ≡ None
refused ds v not = refused_by ds v (nat_lt 0 (length ds)) (all_ascii_digits ds) refl refl not

number_parsed : {E : Type 0} (text : List ℕ) (r : Result ℤ E) → ParsesSigned w32 10 text r
    → result_ok r ≡ number text
number_parsed text (Ok x) p =
    let digits = without_leading_sign text in
    ap Some p.1 ∙ sym (accepted digits (signed_digits_value 10 text) p.0.0 p.0.1)
number_parsed text (Err e) p =
    let digits = without_leading_sign text in sym (refused digits (signed_digits_value 10 text) p)

pub number_from : {E : Type 0} (bytes text : List ℕ) (r : Result ℤ E) (o : Option ℤ) → text ≡ bytes
    → ParsesSigned w32 10 text r → o ≡ result_ok r → o ≡ number bytes
number_from bytes text r o same p is = is ∙ number_parsed text r p ∙ ap number same

-- ---- a text that isn't UTF-8 is no number

ascii_by : (b : ℕ) (rest : List ℕ) (minus plus : Bool) → (b == 45) ≡ minus → (b == 43) ≡ plus
    → AllDigits 10 (cond minus rest (drop (cond plus 1 0) (b ∷ rest))) → IsAscii (b ∷ rest)
ascii_by b rest true plus m p h =
    let is = eqb-true b 45 m in IsAscii-cons b rest (omega arith) (IsAscii-from_digits rest h)
ascii_by b rest false true m p h =
    let is = eqb-true b 43 p in IsAscii-cons b rest (omega arith) (IsAscii-from_digits rest h)
ascii_by b rest false false m p h = IsAscii-from_digits (b ∷ rest) h

ascii_number : (bytes : List ℕ) → AllDigits 10 (without_leading_sign bytes) → IsAscii bytes
ascii_number [] h = IsAscii-nil
ascii_number (b ∷ rest) h = ascii_by b rest (b == 45) (b == 43) refl refl h

pub number_no_text : (bytes : List ℕ) → (IsUtf8 bytes → ⊥) → number bytes ≡ None
number_no_text bytes not =
    let digits = without_leading_sign bytes in
    refused digits (signed_digits_value 10 bytes)
    (λ h. not (IsUtf8-from_ascii bytes (ascii_number bytes h.0.1)))
