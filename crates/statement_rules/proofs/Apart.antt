-- Choices that are apart: none has a value of one before it.
use Rattle.std.proofs.Common.{◌≡◌, refl, ap, ◌∙◌, ℕ, ◌+◌, ◌≤◌, Bool, true, false, not, ◌||◌, List, [], ◌∷◌, ◌++◌, ℤ, pos, ◌+ℤ◌, int_le, if◌then◌else◌, arith, IsPermutation}
use Rattle.std.specs.List.{sum_by}
use Rattle.std.proofs.Math.Seq.{append_snoc}
use Rattle.std.proofs.lemmas.Int.{ints}
use Rattle.std.proofs.lemmas.List.Sorted.{sum_by-IsPermutation}
use Rattle.std.proofs.lemmas.List.Sums.{sum_by-cons, sum_by-append}
use Rattle.type_definitions.specs.declared.judgement.Cover.{Cover}
use Rattle.type_definitions.specs.Statements.{covers, meets, any_meets, doubled}
use Rattle.statement_rules.specs.Sweep.{has_values, overlap}

-- How many of the choices cover a value.
abbrev one : Bool → ℕ
one true = 1
one false = 0

abbrev count : ℤ → List Cover → ℕ
count v xs = sum_by (λ k. one (covers v k)) xs

count_first : (v : ℤ) (k : Cover) (rest : List Cover) → count v (k ∷ rest) ≡ one (covers v k) + count v rest
count_first v k rest = sum_by-cons (λ k. one (covers v k)) k rest

-- ---- choices in order

abbrev Thin : ℤ → List Cover → ℤ → Type 0
Thin from xs v = (count v xs ≤ 1) × (int_le from v ≡ false → count v xs ≡ 0)

at_empty : (v : ℤ) (k : Cover) → has_values k ≡ false → covers v k ≡ false
at_empty v k is = grind (arith, ints)

at_lower : (v from : ℤ) (k : Cover) → int_le from k.low ≡ true → int_le from v ≡ false → covers v k ≡ false
at_lower v from k begins before = grind (arith, ints)

at_behind : (v from : ℤ) (k : Cover) → has_values k ≡ true → int_le from k.low ≡ true → int_le from v ≡ false → int_le (k.high +ℤ pos 1) v ≡ false
at_behind v from k is begins before = grind (arith, ints)

at_end : (v : ℤ) (k : Cover) → covers v k ≡ true → int_le (k.high +ℤ pos 1) v ≡ false
at_end v k is = grind (arith, ints)

thin_at : (v : ℤ) (k : Cover) (rest : List Cover) (b : Bool) → covers v k ≡ b → Thin (k.high +ℤ pos 1) rest v → one b + count v rest ≤ 1
thin_at v k rest true is thin = let none = thin.1 (at_end v k is) in omega (arith, none)
thin_at v k rest false is thin = omega (arith, thin.0)

thin_before : (v from : ℤ) (k : Cover) (rest : List Cover) → has_values k ≡ true → int_le from k.low ≡ true → Thin (k.high +ℤ pos 1) rest v
    → int_le from v ≡ false → count v (k ∷ rest) ≡ 0
thin_before v from k rest is begins thin before =
    let none = at_lower v from k begins before in
    let rest_none = thin.1 (at_behind v from k is begins before) in
    let o = ap one none in
    omega (arith, count_first v k rest, o, rest_none)

first_begins : (a b : Bool) → (not a || b) ≡ false → (a ≡ true) × (b ≡ false)
first_begins true b is = (refl, is)
first_begins false b is = cc

thin_by : (v from : ℤ) (k : Cover) (rest : List Cover) (b : Bool) → has_values k ≡ b
    → (if b then not (int_le from k.low) || overlap (k.high +ℤ pos 1) rest else overlap from rest) ≡ false
    → (overlap (k.high +ℤ pos 1) rest ≡ false → Thin (k.high +ℤ pos 1) rest v) → (overlap from rest ≡ false → Thin from rest v)
    → Thin from (k ∷ rest) v
thin_by v from k rest true is none on over =
    let both = first_begins (int_le from k.low) (overlap (k.high +ℤ pos 1) rest) none in
    let thin = on both.1 in
    let bound = thin_at v k rest _ refl thin in
    (omega (arith, count_first v k rest, bound), thin_before v from k rest is both.0 thin)
thin_by v from k rest false is none on over =
    let away = at_empty v k is in
    let o = ap one away in
    let same : count v (k ∷ rest) ≡ count v rest = omega (arith, count_first v k rest, o) in
    let thin = over none in
    (omega (arith, same, thin.0), λ before. same ∙ thin.1 before)

thin : (v from : ℤ) (xs : List Cover) → overlap from xs ≡ false → Thin from xs v
thin v from [] none = (omega arith, λ before. refl)
thin v from (k ∷ rest) none =
    thin_by v from k rest _ refl none (λ on. thin v (k.high +ℤ pos 1) rest on) (λ over. thin v from rest over)

-- ---- choices in the order of the text

meets_low : (k m : Cover) → meets k m ≡ true → int_le k.low m.low ≡ true → (covers m.low k ≡ true) × (covers m.low m ≡ true)
meets_low k m is low = (grind (arith, ints), grind (arith, ints))

meets_high : (k m : Cover) → meets k m ≡ true → int_le k.low m.low ≡ false → (covers k.low k ≡ true) × (covers k.low m ≡ true)
meets_high k m is low = (grind (arith, ints), grind (arith, ints))

two_at : (v : ℤ) (k m : Cover) (n : ℕ) → covers v k ≡ true → covers v m ≡ true → one (covers v m) + n + one (covers v k) ≤ 1 → ⊥
two_at v k m n first second bound =
    let f = ap one first in let s = ap one second in omega (arith, f, s, bound)

abbrev Beside : Cover → List Cover → Type 0
Beside k xs = (v : ℤ) → count v xs + one (covers v k) ≤ 1

beside_first : (k m : Cover) (rest : List Cover) → Beside k (m ∷ rest) → (v : ℤ) → one (covers v m) + count v rest + one (covers v k) ≤ 1
beside_first k m rest beside v = let b = beside v in omega (arith, count_first v m rest, b)

beside_rest : (k m : Cover) (rest : List Cover) → Beside k (m ∷ rest) → Beside k rest
beside_rest k m rest beside v = let b = beside v in omega (arith, count_first v m rest, b)

no_meeting_low : (k m : Cover) (rest : List Cover) (b : Bool) → int_le k.low m.low ≡ b → Beside k (m ∷ rest) → meets k m ≡ true → ⊥
no_meeting_low k m rest true low beside is =
    let v = meets_low k m is low in two_at m.low k m (count m.low rest) v.0 v.1 (beside_first k m rest beside m.low)
no_meeting_low k m rest false low beside is =
    let v = meets_high k m is low in two_at k.low k m (count k.low rest) v.0 v.1 (beside_first k m rest beside k.low)

no_meeting : (k m : Cover) (rest : List Cover) (b : Bool) → Beside k (m ∷ rest) → meets k m ≡ b → b ≡ false
no_meeting k m rest true beside is = absurd (no_meeting_low k m rest _ refl beside is)
no_meeting k m rest false beside is = refl

none_meets : (k : Cover) (xs : List Cover) → Beside k xs → any_meets k xs ≡ false
none_meets k [] beside = refl
none_meets k (m ∷ rest) beside =
    let here = no_meeting k m rest _ beside refl in rw here (none_meets k rest (beside_rest k m rest beside))

beside_before : (before : List Cover) (k : Cover) (rest : List Cover) → ((v : ℤ) → count v (before ++ k ∷ rest) ≤ 1) → Beside k before
beside_before before k rest once v =
    let o = once v in
    let parts : count v (before ++ k ∷ rest) ≡ count v before + count v (k ∷ rest) = sum_by-append (λ k. one (covers v k)) before (k ∷ rest) in
    omega (arith, o, parts, count_first v k rest)

none_doubled : (before xs : List Cover) → ((v : ℤ) → count v (before ++ xs) ≤ 1) → doubled before xs ≡ []
none_doubled before [] once = refl
none_doubled before (k ∷ rest) once =
    let none = none_meets k before (beside_before before k rest once) in
    rw none (none_doubled (before ++ k ∷ []) rest (λ v. rw (append_snoc before k rest) (once v)))

once_of : (all xs : List Cover) (from : ℤ) → IsPermutation all xs → overlap from xs ≡ false → (v : ℤ) → count v all ≤ 1
once_of all xs from moved none v =
    let same = sum_by-IsPermutation (λ k. one (covers v k)) all xs moved in
    let t = thin v from xs none in
    omega (arith, same, t.0)

pub apart : (all xs : List Cover) (from : ℤ) → IsPermutation all xs → overlap from xs ≡ false → doubled [] all ≡ []
apart all xs from moved none = none_doubled [] all (once_of all xs from moved none)
