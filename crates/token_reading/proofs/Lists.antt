-- Marked spellings in a row, and lists that end alike.
use Rattle.std.proofs.Common.{◌≡◌, refl, ap, ◌∙◌, ℕ, List, [], ◌∷◌, ◌++◌, Bool, true, false}
use Rattle.std.specs.Prelude.{if◌then◌else◌}
use Rattle.std.specs.List.{flat_map}
use Rattle.std.proofs.lemmas.List.{append_assoc, append_cancel_right}
use Rattle.token_reading.specs.Spelled.{Spelled}
use Rattle.token_reading.specs.Weights.{WeighedToken, bare, after, WithinLimits, row_spelling}

pub bare-append : (ms ns : List WeighedToken) → bare (ms ++ ns) ≡ bare ms ++ bare ns
bare-append [] ns = refl
bare-append (m ∷ ms) ns = ap (λ ts. m.token ∷ ts) (bare-append ms ns)

-- Two spellings before some tokens.
pub bare_both : (ms ns : List WeighedToken) (rest : List Spelled) → bare (ms ++ ns) ++ rest ≡ bare ms ++ (bare ns ++ rest)
bare_both ms ns rest = ap (λ ts. ts ++ rest) (bare-append ms ns) ∙ append_assoc (bare ms) (bare ns) rest

pub after-append : (k : ℕ) (ms ns : List WeighedToken) → after k (ms ++ ns) ≡ after (after k ms) ns
after-append k [] ns = refl
after-append k (m ∷ ms) ns = after-append (m.weight.step k) ms ns

pub within_limits-append : (k : ℕ) (ms ns : List WeighedToken) → WithinLimits k ms → WithinLimits (after k ms) ns → WithinLimits k (ms ++ ns)
within_limits-append k [] ns l more = more
within_limits-append k (m ∷ ms) ns l more = (l.0, within_limits-append (m.weight.step k) ms ns l.1 more)

pub row_spelling_flat : {A : Type 0} (s : A → List WeighedToken) (xs : List A) → row_spelling s xs ≡ flat_map s xs
row_spelling_flat s [] = refl
row_spelling_flat s (x ∷ xs) = ap (λ ms. s x ++ ms) (row_spelling_flat s xs)

-- Nothing stands before a list that is the whole.
pub nothing_before : (u w : List Spelled) → u ++ w ≡ w → u ≡ []
nothing_before u w e = append_cancel_right u [] w e

-- A list is longer with a token before it.
pub not_longer : (t : Spelled) (u w : List Spelled) → (t ∷ u) ++ w ≡ w → ⊥
not_longer t u w e = let none : t ∷ u ≡ [] = nothing_before (t ∷ u) w e in cc

pub if_true : {A : Type 0} (r : Bool) (a b : A) → r ≡ true → (if r then a else b) ≡ a
if_true true a b e = refl
if_true false a b e = absurd (cc)

pub if_false : {A : Type 0} (r : Bool) (a b : A) → r ≡ false → (if r then a else b) ≡ b
if_false true a b e = absurd (cc)
if_false false a b e = refl
