-- Lists of indexes by number.
use Rattle.std.proofs.Common.{◌≡◌, ◌≢◌, ◌⊎◌, inl, inr, ℕ, zero, suc, pred, suc-ne-zero, set, List, [], ◌∷◌, ◌++◌, slice_get, Option, Some, None, refl, sym, ap, ◌∙◌}
use Rattle.std.proofs.lemmas.Option.{none-some, same_Some}
use Rattle.expression_types.specs.Occurrences.{Entries}
use Rattle.expression_types.specs.IndexLists.{HasNoNew, OnlyHas}

-- Nothing is new where a number without an index is added.
none_behind : {A : Type 0} (all : List (Option A)) (n : ℕ) (x : A) → slice_get (all ++ None ∷ []) n ≡ Some (Some x) → slice_get all n ≡ Some (Some x)
none_behind [] zero x is = absurd (none-some x (same_Some None (Some x) is))
none_behind [] (suc n) x is = is
none_behind (a ∷ all) zero x is = is
none_behind (a ∷ all) (suc n) x is = none_behind all n x is

pub room_added : (first all next : List (Option Entries)) → next ≡ all ++ None ∷ [] → HasNoNew first all → HasNoNew first next
room_added first all next is kept n index there = kept n index (none_behind all n index (ap (λ l. slice_get l n) (sym is) ∙ there))

-- An element of a list that has another one at an index.
set_cases : {A : Type 0} (all : List A) (t n : ℕ) (a x : A) → slice_get (set all t a) n ≡ Some x
    → ((n ≡ t) × (a ≡ x)) ⊎ ((n ≢ t) × (slice_get all n ≡ Some x))
set_cases [] t n a x is = absurd (none-some _ is)
set_cases (b ∷ all) zero zero a x is = inl (refl, same_Some a x is)
set_cases (b ∷ all) zero (suc n) a x is = inr (suc-ne-zero n, is)
set_cases (b ∷ all) (suc t) zero a x is = inr ((λ e. suc-ne-zero t (sym e)), is)
set_cases (b ∷ all) (suc t) (suc n) a x is = by (set_cases all t n a x is)
  where
    by : ((n ≡ t) × (a ≡ x)) ⊎ ((n ≢ t) × (slice_get all n ≡ Some x))
        → ((suc n ≡ suc t) × (a ≡ x)) ⊎ ((suc n ≢ suc t) × (slice_get all n ≡ Some x))
    by (inl (e, i)) = inl (ap suc e, i)
    by (inr (ne, i)) = inr ((λ e. ne (ap pred e)), i)

pub index_put : (first all next : List (Option Entries)) (number : ℕ) (own : Option Entries)
    → HasNoNew first all → next ≡ set all number own → OnlyHas number own first next
index_put first all next number own kept is n index there = by (set_cases all number n own (Some index) (ap (λ l. slice_get l n) (sym is) ∙ there))
  where
    by : ((n ≡ number) × (own ≡ Some index)) ⊎ ((n ≢ number) × (slice_get all n ≡ Some (Some index)))
        → ((n ≡ number) × (own ≡ Some index)) ⊎ ((n ≢ number) × (slice_get first n ≡ Some (Some index)))
    by (inl own_is) = inl own_is
    by (inr (ne, at)) = inr (ne, kept n index at)
