-- Where a case leaves no gap, each value is covered.
use Rattle.std.proofs.Common.{◌≡◌, refl, sym, ap, ◌∙◌, ℕ, zero, suc, Bool, true, false, ◌||◌, List, [], ◌∷◌, ℤ, pos, ◌+ℤ◌, ◌-ℤ◌, int_le, arith}
use Rattle.std.specs.Prelude.{unsigned_abs}
use Rattle.std.proofs.lemmas.Int.{ints}
use Rattle.type_definitions.specs.declared.judgement.Cover.{Cover}
use Rattle.type_definitions.specs.Statements.{covers, any_covers, gap_at, gap_behind, has_gap}

or_true : (a b : Bool) → b ≡ true → (a || b) ≡ true
or_true true b e = refl
or_true false b e = e

or_first : (a b : Bool) → (a || b) ≡ false → a ≡ false
or_first true b e = e
or_first false b e = refl

or_second : (a b : Bool) → (a || b) ≡ false → b ≡ false
or_second true b e = cc
or_second false b e = e

-- A choice that covers a number and not the next one ends there.
ends : (k : Cover) (w : ℤ) → covers w k ≡ true → covers (w +ℤ pos 1) k ≡ false → k.high +ℤ pos 1 ≡ w +ℤ pos 1
ends k w holds none = grind (arith, ints)

-- A gap at a number after one that is covered is a gap after a choice.
behind_by : (low high w : ℤ) (all : List Cover) (k : Cover) (ks : List Cover) (b : Bool) → covers w k ≡ b → gap_at low high all (w +ℤ pos 1) ≡ true
    → (b || any_covers ks w) ≡ true → covers (w +ℤ pos 1) k ≡ false → any_covers ks (w +ℤ pos 1) ≡ false
    → (any_covers ks w ≡ true → gap_behind low high all ks ≡ true) → gap_behind low high all (k ∷ ks) ≡ true
behind_by low high w all k ks true is gap holds none rest on =
    ap (λ v. gap_at low high all v || gap_behind low high all ks) (ends k w is none) ∙ ap (λ b. b || gap_behind low high all ks) gap
behind_by low high w all k ks false is gap holds none rest on = or_true (gap_at low high all (k.high +ℤ pos 1)) (gap_behind low high all ks) (on holds)

behind_covered : (low high w : ℤ) (all ks : List Cover) → gap_at low high all (w +ℤ pos 1) ≡ true → any_covers ks w ≡ true
    → any_covers ks (w +ℤ pos 1) ≡ false → gap_behind low high all ks ≡ true
behind_covered low high w all [] gap holds none = cc
behind_covered low high w all (k ∷ ks) gap holds none =
    behind_by low high w all k ks (covers w k) refl gap holds
    (or_first (covers (w +ℤ pos 1) k) (any_covers ks (w +ℤ pos 1)) none)
    (or_second (covers (w +ℤ pos 1) k) (any_covers ks (w +ℤ pos 1)) none)
    (λ more. behind_covered low high w all ks gap more (or_second (covers (w +ℤ pos 1) k) (any_covers ks (w +ℤ pos 1)) none))

gap_true : (low high v : ℤ) (all : List Cover) → int_le low v ≡ true → int_le v high ≡ true → any_covers all v ≡ false → gap_at low high all v ≡ true
gap_true low high v all above below none = rw above (rw below (rw none refl))

-- Some gap is found, where nothing covers a number between the bounds.
found_by : (n : ℕ) (low high : ℤ) (all : List Cover) (b : Bool) → any_covers all (low +ℤ pos n) ≡ b → int_le (low +ℤ pos (suc n)) high ≡ true
    → any_covers all (low +ℤ pos (suc n)) ≡ false → (int_le (low +ℤ pos n) high ≡ true → any_covers all (low +ℤ pos n) ≡ false → has_gap low high all ≡ true)
    → has_gap low high all ≡ true
unfolding has_gap
found_by n low high all true is within none on =
    let next : (low +ℤ pos n) +ℤ pos 1 ≡ low +ℤ pos (suc n) = omega (arith, ints) in
    let above : int_le low (low +ℤ pos (suc n)) ≡ true = grind (arith, ints) in
    or_true (gap_at low high all low) (gap_behind low high all all)
    (behind_covered low high (low +ℤ pos n) all all
    (ap (λ v. gap_at low high all v) next ∙ gap_true low high (low +ℤ pos (suc n)) all above within none) is
    (ap (λ v. any_covers all v) next ∙ none))
found_by n low high all false is within none on = on (grind (arith, ints)) is

found_below : (n : ℕ) (low high : ℤ) (all : List Cover) → int_le (low +ℤ pos n) high ≡ true → any_covers all (low +ℤ pos n) ≡ false
    → has_gap low high all ≡ true
unfolding has_gap
found_below zero low high all within none =
    let same : low +ℤ pos 0 ≡ low = omega (arith, ints) in
    let above : int_le low low ≡ true = grind (arith, ints) in
    ap (λ b. b || gap_behind low high all all)
    (gap_true low high low all above (ap (λ v. int_le v high) (sym same) ∙ within) (ap (λ v. any_covers all v) (sym same) ∙ none))
found_below (suc n) low high all within none =
    found_by n low high all (any_covers all (low +ℤ pos n)) refl within none (λ lower free. found_below n low high all lower free)

covered_by : (low high v : ℤ) (all : List Cover) (b : Bool) → any_covers all v ≡ b → has_gap low high all ≡ false → int_le low v ≡ true
    → int_le v high ≡ true → any_covers all v ≡ true
covered_by low high v all true is none above below = is
covered_by low high v all false is none above below =
    let n : ℕ = unsigned_abs (v -ℤ low) in
    let at : low +ℤ pos n ≡ v = grind (arith, ints) in
    let gap : has_gap low high all ≡ true =
    found_below n low high all (ap (λ w. int_le w high) at ∙ below) (ap (λ w. any_covers all w) at ∙ is) in
    cc

pub all_covered : (low high v : ℤ) (all : List Cover) → has_gap low high all ≡ false → int_le low v ≡ true → int_le v high ≡ true → any_covers all v ≡ true
all_covered low high v all none above below = covered_by low high v all (any_covers all v) refl none above below
