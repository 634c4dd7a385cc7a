-- What stands at a place of a list, after changes.
use Rattle.std.proofs.Common.{◌≡◌, ℕ, zero, suc, ◌+◌, ◌<◌, ◌≤◌, None, Some, Option, IsSomeAnd, List, [], ◌∷◌, ◌++◌, length, set, slice_get, refl, ap, ◌∙◌, arith, option_and_then, length-set}
use Rattle.std.proofs.lemmas.List.Edits.{sets}

pub get-set_same : {A : Type 0} (xs : List A) (i : ℕ) (x : A) → i < length xs → slice_get (set xs i x) i ≡ Some x
get-set_same [] i x within = absurd (omega (arith, within))
get-set_same (y ∷ xs) zero x within = refl
get-set_same (y ∷ xs) (suc i) x within = get-set_same xs i x (omega (arith, within))

pub get-set_other : {A : Type 0} (xs : List A) (i j : ℕ) (x : A) → (j ≡ i → ⊥) → slice_get (set xs i x) j ≡ slice_get xs j
get-set_other [] i j x other = refl
get-set_other (y ∷ xs) zero zero x other = absurd (other refl)
get-set_other (y ∷ xs) zero (suc j) x other = refl
get-set_other (y ∷ xs) (suc i) zero x other = refl
get-set_other (y ∷ xs) (suc i) (suc j) x other = get-set_other xs i j x (λ e. other (ap suc e))

pub get-append : {A : Type 0} (xs ys : List A) (i : ℕ) → i < length xs → slice_get (xs ++ ys) i ≡ slice_get xs i
get-append [] ys i within = absurd (omega (arith, within))
get-append (x ∷ xs) ys zero within = refl
get-append (x ∷ xs) ys (suc i) within = get-append xs ys i (omega (arith, within))

pub get-append_right : {A : Type 0} (xs ys : List A) (i : ℕ) → slice_get (xs ++ ys) (length xs + i) ≡ slice_get ys i
get-append_right [] ys i = ap (slice_get ys) (omega arith)
get-append_right (x ∷ xs) ys i =
    let e : length (x ∷ xs) + i ≡ suc (length xs + i) = omega arith in
    rw e (get-append_right xs ys i)

-- A place where something stands is within its list.
pub stands_within : {A : Type 0} (xs : List A) (i : ℕ) (P : A → Type 0) → IsSomeAnd (slice_get xs i) P → i < length xs
stands_within [] i P holds = absurd holds
stands_within (x ∷ xs) zero P holds = omega arith
stands_within (x ∷ xs) (suc i) P holds = omega (arith, stands_within xs i P holds)

pub is_within : {A : Type 0} (xs : List A) (i : ℕ) (x : A) → slice_get xs i ≡ Some x → i < length xs
is_within xs i x is =
    let stands : IsSomeAnd (slice_get xs i) (λ y. y ≡ y) = rw is refl in
    stands_within xs i (λ y. y ≡ y) stands

-- What is there, of an option that has something.
pub some_split : {A : Type 0} (o : Option A) (P : A → Type 0) → IsSomeAnd o P → (x : A) × (o ≡ Some x) × P x
some_split None P holds = absurd holds
some_split (Some x) P holds = (x, refl, holds)

pub and_then_split : {A B : Type 0} (f : A → Option B) (o : Option A) (P : B → Type 0) → IsSomeAnd (option_and_then f o) P → (x : A) × (o ≡ Some x) × IsSomeAnd (f x) P
and_then_split f None P holds = absurd holds
and_then_split f (Some x) P holds = (x, refl, holds)

-- Of one list written into another from a place on: what stands outside, and inside.
pub get-sets_before : {A : Type 0} (ys xs : List A) (at j : ℕ) → j < at → slice_get (sets xs at ys) j ≡ slice_get xs j
get-sets_before [] xs at j before = refl
get-sets_before (y ∷ ys) xs at j before =
    get-sets_before ys (set xs at y) (suc at) j (omega (arith, before)) ∙ get-set_other xs at j y (λ e. omega (arith, e, before))

pub get-sets_after : {A : Type 0} (ys xs : List A) (at j : ℕ) → at + length ys ≤ j → slice_get (sets xs at ys) j ≡ slice_get xs j
get-sets_after [] xs at j beyond = refl
get-sets_after (y ∷ ys) xs at j beyond =
    get-sets_after ys (set xs at y) (suc at) j (omega (arith, beyond)) ∙ get-set_other xs at j y (λ e. omega (arith, e, beyond))

pub get-sets_inside : {A : Type 0} (ys xs : List A) (at i : ℕ) → at + length ys ≤ length xs → i < length ys → slice_get (sets xs at ys) (at + i) ≡ slice_get ys i
get-sets_inside [] xs at i fits within = absurd (omega (arith, within))
get-sets_inside (y ∷ ys) xs at zero fits within =
    let here : at + 0 ≡ at = omega arith in
    rw here (get-sets_before ys (set xs at y) (suc at) at (omega arith) ∙ get-set_same xs at y (omega (arith, fits)))
get-sets_inside (y ∷ ys) xs at (suc i) fits within =
    let next : at + suc i ≡ suc at + i = omega arith in
    let size = length-set xs at y in
    rw next (get-sets_inside ys (set xs at y) (suc at) i (omega (arith, fits, size)) (omega (arith, within)))

pub length-sets : {A : Type 0} (ys xs : List A) (at : ℕ) → length (sets xs at ys) ≡ length xs
length-sets [] xs at = refl
length-sets (y ∷ ys) xs at = length-sets ys (set xs at y) (suc at) ∙ length-set xs at y
