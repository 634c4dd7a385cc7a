-- Lists with one element put, and numbers that are compared.
use Rattle.std.proofs.Common.{◌≡◌, ◌⊎◌, inl, inr, ℕ, zero, suc, ◌<◌, ◌≤◌, List, [], ◌∷◌, ◌++◌, length, set, get_or, refl, ap, arith, Some, None}
use Rattle.std.specs.Prelude.{slice_get, is_some}
use Rattle.std.proofs.lemmas.Bool.{true≢false}

-- ---- lists

pub entry_put : {A : Type 0} (Q : ℕ → A → Type 0) (xs : List A) (d t : ℕ) (x fallback : A) → Q d x → Q t (get_or xs t fallback) → Q t (get_or (set xs d x) t fallback)
entry_put Q [] d t x fallback new old = old
entry_put Q (y ∷ xs) zero zero x fallback new old = new
entry_put Q (y ∷ xs) zero (suc t) x fallback new old = old
entry_put Q (y ∷ xs) (suc d) zero x fallback new old = old
entry_put Q (y ∷ xs) (suc d) (suc t) x fallback new old = entry_put (λ n. Q (suc n)) xs d t x fallback new old

pub entry_there : {A : Type 0} (xs : List A) (d : ℕ) (x fallback : A) → d < length xs → get_or (set xs d x) d fallback ≡ x
entry_there [] d x fallback less = absurd (omega (arith, less))
entry_there (y ∷ xs) zero x fallback less = refl
entry_there (y ∷ xs) (suc d) x fallback less = entry_there xs d x fallback (omega (arith, less))

pub entry_other : {A : Type 0} (xs : List A) (d t : ℕ) (x fallback : A) → (t ≡ d → ⊥) → get_or (set xs d x) t fallback ≡ get_or xs t fallback
entry_other [] d t x fallback other = refl
entry_other (y ∷ xs) zero zero x fallback other = absurd (other refl)
entry_other (y ∷ xs) zero (suc t) x fallback other = refl
entry_other (y ∷ xs) (suc d) zero x fallback other = refl
entry_other (y ∷ xs) (suc d) (suc t) x fallback other = entry_other xs d t x fallback (λ same. other (ap suc same))

pub set_long : {A : Type 0} (xs : List A) (d : ℕ) (x : A) → length (set xs d x) ≡ length xs
set_long [] d x = refl
set_long (y ∷ xs) zero x = refl
set_long (y ∷ xs) (suc d) x = ap suc (set_long xs d x)

pub row_other : {A : Type 0} (table : List A) (d t : ℕ) (i : A) → (t ≡ d → ⊥) → slice_get (set table d i) t ≡ slice_get table t
row_other [] d t i other = refl
row_other (y ∷ rest) zero zero i other = absurd (other refl)
row_other (y ∷ rest) zero (suc t) i other = refl
row_other (y ∷ rest) (suc d) zero i other = refl
row_other (y ∷ rest) (suc d) (suc t) i other = row_other rest d t i (λ same. other (ap suc same))

-- the row that is put
pub row_there : {A : Type 0} (table : List A) (d : ℕ) (i : A) → (slice_get (set table d i) d ≡ Some i) ⊎ (slice_get (set table d i) d ≡ None)
row_there [] d i = inr refl
row_there (y ∷ rest) zero i = inl refl
row_there (y ∷ rest) (suc d) i = row_there rest d i

pub row_within : {A : Type 0} (table : List A) (d : ℕ) → d < length table → slice_get table d ≡ None → ⊥
row_within [] d less none = omega (arith, less)
row_within (y ∷ rest) zero less none = true≢false (ap is_some none)
row_within (y ∷ rest) (suc d) less none = row_within rest d (omega (arith, less)) none

pub append_nothing : {A : Type 0} (xs : List A) → xs ++ [] ≡ xs
append_nothing [] = refl
append_nothing (x ∷ xs) = ap (λ ys. x ∷ ys) (append_nothing xs)

-- ---- numbers

pub at_most : (n d : ℕ) → n ≤ d → (n ≡ d) ⊎ (n < d)
at_most zero zero le = inl refl
at_most zero (suc d) le = inr (omega arith)
at_most (suc n) zero le = absurd (omega (arith, le))
at_most (suc n) (suc d) le = elim (at_most n d (omega (arith, le))) [
  | inl same ↦ inl (ap suc same)
  | inr less ↦ inr (omega (arith, less))
]

pub below_or : (k n : ℕ) → (n < k) ⊎ (k ≤ n)
below_or zero n = inr (omega arith)
below_or (suc k) zero = inl (omega arith)
below_or (suc k) (suc n) = elim (below_or k n) [ inl less ↦ inl (omega (arith, less)) | inr more ↦ inr (omega (arith, more)) ]
