-- Lists that agree item by item.
use Rattle.std.proofs.Common.{◌≡◌, refl, ap, subst, ℕ, zero, suc, Bool, true, false, cond, List, [], ◌∷◌, ◌++◌, map, filter, take, drop, length, get_or}
use Rattle.machine.specs.Memory.{at_number}
use Rattle.recycled_runs.specs.ViewedFacts.NullPlaces.Agrees.{Pairwise}

pub pair_itself : {A : Type 0} (R : A → A → Type 0) → ((x : A) → R x x) → (xs : List A) → Pairwise R xs xs
pair_itself R one [] = tt
pair_itself R one (x ∷ xs) = (one x, pair_itself R one xs)

pub pair_length : {A : Type 0} (R : A → A → Type 0) (xs ys : List A) → Pairwise R xs ys → length xs ≡ length ys
pair_length R [] [] p = refl
pair_length R (x ∷ xs) (y ∷ ys) p = ap suc (pair_length R xs ys p.1)
pair_length R [] (y ∷ ys) p = absurd p
pair_length R (x ∷ xs) [] p = absurd p

pub pair_append : {A : Type 0} (R : A → A → Type 0) (xs ys us vs : List A) → Pairwise R xs ys → Pairwise R us vs → Pairwise R (xs ++ us) (ys ++ vs)
pair_append R [] [] us vs p q = q
pair_append R (x ∷ xs) (y ∷ ys) us vs p q = (p.0, pair_append R xs ys us vs p.1 q)
pair_append R [] (y ∷ ys) us vs p q = absurd p
pair_append R (x ∷ xs) [] us vs p q = absurd p

pub pair_take : {A : Type 0} (R : A → A → Type 0) (n : ℕ) (xs ys : List A) → Pairwise R xs ys → Pairwise R (take n xs) (take n ys)
pair_take R zero [] [] p = tt
pair_take R zero (x ∷ xs) (y ∷ ys) p = tt
pair_take R (suc n) [] [] p = tt
pair_take R (suc n) (x ∷ xs) (y ∷ ys) p = (p.0, pair_take R n xs ys p.1)
pair_take R n [] (y ∷ ys) p = absurd p
pair_take R n (x ∷ xs) [] p = absurd p

pub pair_drop : {A : Type 0} (R : A → A → Type 0) (n : ℕ) (xs ys : List A) → Pairwise R xs ys → Pairwise R (drop n xs) (drop n ys)
pair_drop R zero [] [] p = tt
pair_drop R zero (x ∷ xs) (y ∷ ys) p = p
pair_drop R (suc n) [] [] p = tt
pair_drop R (suc n) (x ∷ xs) (y ∷ ys) p = pair_drop R n xs ys p.1
pair_drop R n [] (y ∷ ys) p = absurd p
pair_drop R n (x ∷ xs) [] p = absurd p

pub pair_get : {A : Type 0} (R : A → A → Type 0) (d : A) → R d d → (n : ℕ) (xs ys : List A) → Pairwise R xs ys → R (get_or xs n d) (get_or ys n d)
pair_get R d own n [] [] p = own
pair_get R d own zero (x ∷ xs) (y ∷ ys) p = p.0
pair_get R d own (suc n) (x ∷ xs) (y ∷ ys) p = pair_get R d own n xs ys p.1
pair_get R d own n [] (y ∷ ys) p = absurd p
pair_get R d own n (x ∷ xs) [] p = absurd p

pub pair_at : {A : Type 0} (R : A → A → Type 0) (f g : A → A) → ((x y : A) → R x y → R (f x) (g y)) → (n : ℕ) (xs ys : List A) → Pairwise R xs ys
    → Pairwise R (at_number n f xs) (at_number n g ys)
pair_at R f g one n [] [] p = tt
pair_at R f g one zero (x ∷ xs) (y ∷ ys) p = (one x y p.0, p.1)
pair_at R f g one (suc n) (x ∷ xs) (y ∷ ys) p = (p.0, pair_at R f g one n xs ys p.1)
pair_at R f g one n [] (y ∷ ys) p = absurd p
pair_at R f g one n (x ∷ xs) [] p = absurd p

-- what each item gives is the same
pub pair_same : {A B : Type 0} (R : A → A → Type 0) (f : A → B) → ((x y : A) → R x y → f x ≡ f y) → (xs ys : List A) → Pairwise R xs ys
    → map f xs ≡ map f ys
pair_same R f one [] [] p = refl
pair_same R f one (x ∷ xs) (y ∷ ys) p = (λ j. one x y p.0 j ∷ pair_same R f one xs ys p.1 j)
pair_same R f one [] (y ∷ ys) p = absurd p
pair_same R f one (x ∷ xs) [] p = absurd p

pub pair_filter : {A : Type 0} (R : A → A → Type 0) (f : A → Bool) → ((x y : A) → R x y → f x ≡ f y) → (xs ys : List A) → Pairwise R xs ys
    → Pairwise R (filter f xs) (filter f ys)
pair_filter R f same [] [] p = tt
pair_filter R f same (x ∷ xs) (y ∷ ys) p =
    subst (λ b. Pairwise R (filter f (x ∷ xs)) (cond b (y ∷ filter f ys) (filter f ys))) (same x y p.0) (by_test (f x) (pair_filter R f same xs ys p.1))
  where
    by_test : (b : Bool) → Pairwise R (filter f xs) (filter f ys) → Pairwise R (cond b (x ∷ filter f xs) (filter f xs)) (cond b (y ∷ filter f ys) (filter f ys))
    by_test true rest = (p.0, rest)
    by_test false rest = rest
pair_filter R f same [] (y ∷ ys) p = absurd p
pair_filter R f same (x ∷ xs) [] p = absurd p
