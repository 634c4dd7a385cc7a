-- What an ascending list has is found by halves.
use Rattle.std.proofs.Common.{◌≡◌, inl, inr, refl, sym, subst, ℕ, zero, suc, ◌<◌, ◌≤◌, List, [], ◌∷◌, length, get_or, ◌==◌, Result, Ok, Err, eqb-true, eq-eqb, arith}
use Rattle.std.specs.Bool.{Decides}
use Rattle.std.specs.List.Sorted.{IsBinarySearchResult}
use Rattle.std.specs.Ordering.{nat_cmp}
use Rattle.std.specs.Result.{MatchResult, is_ok}
use Rattle.std.proofs.lemmas.Bool.{cases_lt}
use Rattle.std.proofs.lemmas.Bool.Decides.{same_from_decides}
use Rattle.std.proofs.lemmas.List.Sorted.{searched}
use Rattle.spark_base.specs.Lists.{Has}
use Rattle.spark_base.proofs.Lists.{list_any-decides}
use Rattle.flow_paths.specs.Effects.{Ascends, is_in}

is_in-decides : (g : ℕ) (xs : List ℕ) → Decides (is_in g xs) (Has xs g)
is_in-decides g xs = list_any-decides (λ y. g == y) g (λ y. (λ e. sym (eqb-true g y e), λ e. eq-eqb g y (sym e))) xs

place_has : (xs : List ℕ) (i : ℕ) → i < length xs → Has xs (get_or xs i 0)
place_has [] i h = absurd (omega arith)
place_has (x ∷ xs) zero h = inl refl
place_has (x ∷ xs) (suc i) h = inr (place_has xs i (omega arith))

-- each number of a list has a place
record IsPlaced (xs : List ℕ) (x i : ℕ) : Type 0 where
  pub within : i < length xs
  pub is : get_or xs i 0 ≡ x

has_place : (xs : List ℕ) (x : ℕ) → Has xs x → (i : ℕ) × IsPlaced xs x i
has_place [] x h = absurd h
has_place (y ∷ xs) x h = elim h [
  | inl e ↦ (0, record { within = omega arith; is = e })
  | inr later ↦ (let n = has_place xs x later in let within = n.1.within in (suc n.0, record { within = omega arith; is = n.1.is }))
]

rises : (xs : List ℕ) → Ascends xs → (i j : ℕ) → i ≤ j → j < length xs → get_or xs i 0 ≤ get_or xs j 0
rises [] up i j h k = absurd (omega arith)
rises (x ∷ xs) up zero zero h k = omega arith
rises (x ∷ xs) up zero (suc j) h k = (let less = up.0 (get_or xs j 0) (place_has xs j (omega arith)) in omega arith)
rises (x ∷ xs) up (suc i) zero h k = absurd (omega arith)
rises (x ∷ xs) up (suc i) (suc j) h k = rises xs up.1 i j (omega arith) (omega arith)

-- what a search says of the numbers before a place and from it on
abbrev IsSearched : List ℕ → ℕ → Result ℕ ℕ → Type 0
IsSearched xs x r = MatchResult r (λ i. (i < length xs) × (get_or xs i 0 ≡ x))
    (λ i. (i ≤ length xs) × ((k : ℕ) → k < i → get_or xs k 0 < x) × ((k : ℕ) → i ≤ k → k < length xs → x < get_or xs k 0))

searched-decides : (xs : List ℕ) (x : ℕ) (r : Result ℕ ℕ) → IsSearched xs x r → Decides (is_ok r) (Has xs x)
searched-decides xs x (Ok i) found = (λ e. subst (Has xs) found.1 (place_has xs i found.0), λ h. refl)
searched-decides xs x (Err i) none = (
  λ e. cc,
  λ h.
      let n = has_place xs x h in
      let within = n.1.within in
      let is = n.1.is in
      elim (cases_lt n.0 i) [
        | inl before ↦ (let less = none.1 n.0 before in absurd (omega arith))
        | inr behind ↦ (let more = none.2 n.0 behind within in absurd (omega arith))
      ],
)

pub in_by_halves : (xs : List ℕ) (x : ℕ) (r : Result ℕ ℕ) → Ascends xs → IsBinarySearchResult (λ y. nat_cmp y x) xs r → is_ok r ≡ is_in x xs
in_by_halves xs x r up found =
    same_from_decides (is_ok r) (is_in x xs) (searched-decides xs x r (searched xs x r found (rises xs up))) (is_in-decides x xs)
