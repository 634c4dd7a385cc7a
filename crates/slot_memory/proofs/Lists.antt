-- Lists of which some elements are replaced.
use Rattle.std.proofs.Common.{◌≡◌, ℕ, zero, suc, ◌+◌, ◌<◌, ◌≤◌, List, [], ◌∷◌, ◌++◌, map, length, take, drop, set, refl, sym, ap, ◌∙◌, arith, append_assoc, ℤ, pos}
use Rattle.std.proofs.lemmas.List.{take-append-drop, drop-drop, length-take-le}
use Rattle.machine.specs.Memory.{at_number}
use Rattle.run_codes.specs.Flat.{spliced}
use Rattle.handled_runs.specs.Changes.{all_null}

-- All numbers lie below a bound.
abbrev pub AreBelow : ℕ → List ℕ → Type 0
AreBelow n [] = Unit {0}
AreBelow n (o ∷ rest) = (o < n) × AreBelow n rest

-- Elements are changed at some numbers, one after the other.
abbrev pub each_at : {A : Type 0} → (A → A) → List ℕ → List A → List A
each_at g [] xs = xs
each_at g (o ∷ rest) xs = each_at g rest (at_number o g xs)

abbrev pub from : ℕ → List ℕ → List ℕ
from at os = map (λ o. at + o) os

pub number_long : {A : Type 0} (o : ℕ) (g : A → A) (xs : List A) → length (at_number o g xs) ≡ length xs
number_long o g [] = refl
number_long zero g (x ∷ xs) = refl
number_long (suc o) g (x ∷ xs) = ap suc (number_long o g xs)

pub each_long : {A : Type 0} (g : A → A) (os : List ℕ) (xs : List A) → length (each_at g os xs) ≡ length xs
each_long g [] xs = refl
each_long g (o ∷ rest) xs = each_long g rest (at_number o g xs) ∙ number_long o g xs

-- What comes before and what comes after them stays.
number_take : {A : Type 0} (g : A → A) (n o k : ℕ) (xs : List A) → k ≡ n + o → take n (at_number k g xs) ≡ take n xs
number_take g zero o k xs is = refl
number_take g (suc n) o zero xs is = absurd (omega (arith, is))
number_take g (suc n) o (suc k) [] is = refl
number_take g (suc n) o (suc k) (x ∷ xs) is = ap (λ l. x ∷ l) (number_take g n o k xs (omega (arith, is)))

pub number_drop : {A : Type 0} (g : A → A) (n o k : ℕ) (xs : List A) → k ≡ n + o → drop n (at_number k g xs) ≡ at_number o g (drop n xs)
number_drop g zero o k xs is = ap (λ j. at_number j g xs) (is ∙ none o)
  where
    none : (o : ℕ) → 0 + o ≡ o
    none o = omega arith
number_drop g (suc n) o zero xs is = absurd (omega (arith, is))
number_drop g (suc n) o (suc k) [] is = refl
number_drop g (suc n) o (suc k) (x ∷ xs) is = number_drop g n o k xs (omega (arith, is))

number_front : {A : Type 0} (g : A → A) (n o : ℕ) (xs : List A) → o < n → take n (at_number o g xs) ≡ at_number o g (take n xs)
number_front g zero o xs lt = absurd (omega (arith, lt))
number_front g (suc n) o [] lt = refl
number_front g (suc n) zero (x ∷ xs) lt = refl
number_front g (suc n) (suc o) (x ∷ xs) lt = ap (λ l. x ∷ l) (number_front g n o xs (omega (arith, lt)))

number_back : {A : Type 0} (g : A → A) (n o : ℕ) (xs : List A) → o < n → drop n (at_number o g xs) ≡ drop n xs
number_back g zero o xs lt = absurd (omega (arith, lt))
number_back g (suc n) o [] lt = refl
number_back g (suc n) zero (x ∷ xs) lt = refl
number_back g (suc n) (suc o) (x ∷ xs) lt = number_back g n o xs (omega (arith, lt))

each_shift : {A : Type 0} (g : A → A) (n : ℕ) (os : List ℕ) (xs : List A) → each_at g (from n os) xs ≡ take n xs ++ each_at g os (drop n xs)
each_shift g n [] xs = sym (take-append-drop n xs)
each_shift g n (o ∷ rest) xs =
    each_shift g n rest (at_number (n + o) g xs)
    ∙ ap (λ l. l ++ each_at g rest (drop n (at_number (n + o) g xs))) (number_take g n o (n + o) xs refl)
    ∙ ap (λ l. take n xs ++ each_at g rest l) (number_drop g n o (n + o) xs refl)

each_front : {A : Type 0} (g : A → A) (n : ℕ) (os : List ℕ) (xs : List A) → AreBelow n os → each_at g os xs ≡ each_at g os (take n xs) ++ drop n xs
each_front g n [] xs all = sym (take-append-drop n xs)
each_front g n (o ∷ rest) xs all =
    each_front g n rest (at_number o g xs) all.1
    ∙ ap (λ l. each_at g rest l ++ drop n (at_number o g xs)) (number_front g n o xs all.0)
    ∙ ap (λ l. each_at g rest (at_number o g (take n xs)) ++ l) (number_back g n o xs all.0)

-- Those from an offset on are changed, or a list of them stands in their place.
pub each_spliced : {A : Type 0} (g : A → A) (at n : ℕ) (os : List ℕ) (xs : List A) → AreBelow n os → n ≤ length (drop at xs)
    → each_at g (from at os) xs ≡ spliced at (each_at g os (take n (drop at xs))) xs
each_spliced g at n os xs all room =
    let new = each_at g os (take n (drop at xs)) in
    let long : length new ≡ n = each_long g os (take n (drop at xs)) ∙ length-take-le n (drop at xs) room in
    each_shift g at os xs
    ∙ ap (λ l. take at xs ++ l) (each_front g n os (drop at xs) all)
    ∙ ap (λ l. take at xs ++ (new ++ l)) (drop-drop n at xs)
    ∙ sym (append_assoc (take at xs) new (drop (at + n) xs))
    ∙ ap (λ k. (take at xs ++ new) ++ drop (at + k) xs) (sym long)

-- ---- null in their places

abbrev pub to_null : ℤ → ℤ
to_null z = pos 0

pub all_null_is : (os : List ℕ) (zs : List ℤ) → all_null os zs ≡ each_at to_null os zs
all_null_is [] zs = refl
all_null_is (o ∷ rest) zs = all_null_is rest (at_number o to_null zs)

pub null_set : (o : ℕ) (zs : List ℤ) → at_number o to_null zs ≡ set zs o (pos 0)
null_set o [] = refl
null_set zero (z ∷ zs) = refl
null_set (suc o) (z ∷ zs) = ap (λ l. z ∷ l) (null_set o zs)
