-- Lists in general.
use Rattle.std.proofs.Common.{◌≡◌, refl, ap, sym, ◌∙◌, subst, ℕ, zero, suc, ◌+◌, Bool, true, false, true≢false, if◌then◌else◌, List, [], ◌∷◌, ◌++◌, take, reverse, length, filter, map, nat_eq, slice_set, cond, get_or, ◌<◌, ◌≤◌, arith}
use Rattle.std.proofs.lemmas.List.Elements.{filter_more}
use Rattle.std.proofs.lemmas.List.{append_assoc, append-nil}
use Rattle.std.proofs.lemmas.Bool.{eqb-true}
use Rattle.std.proofs.Math.Dec.{eqb-suc-zero, eqb-zero-suc, eqb-suc-suc}
use Rattle.std.specs.List.{list_any}
use Rattle.std.specs.Prelude.{◌||◌}
use Rattle.name_resolve.specs.Tables.{listed_at}

pub filtered_next : {A : Type 0} (test : A → Bool) (before xs : List A) (i : ℕ) (x : A) → i < length xs → x ≡ get_or xs i x
    → (before ++ filter test (take i xs)) ++ filter test (x ∷ []) ≡ before ++ filter test (take (i + 1) xs)
filtered_next test before xs i x within is =
    append_assoc before (filter test (take i xs)) (filter test (x ∷ []))
    ∙ ap (λ ys. before ++ ys)
    ((λ j. filter test (take i xs) ++ filter test (is j ∷ [])) ∙ (λ j. filter test (take i xs) ++ filtered_one test (get_or xs i x) j)
    ∙ sym (filter_more test xs i x within))
  where
    filtered_one : {A : Type 0} (test : A → Bool) (y : A) → filter test (y ∷ []) ≡ cond (test y) (y ∷ []) []
    filtered_one test y = refl

-- A list that is empty answers as if it weren't there.
pub listed_pushed : (lists : List (List ℕ)) (r : ℕ) → listed_at (lists ++ [] ∷ []) r ≡ listed_at lists r
listed_pushed [] zero = refl
listed_pushed [] (suc r) = refl
listed_pushed (x ∷ rest) zero = refl
listed_pushed (x ∷ rest) (suc r) = listed_pushed rest r

pub listed_set : {X : Type 0} (f : X → List ℕ) (lists : List X) (i : ℕ) (x : X) (r : ℕ) → i < length lists
    → listed_at (map f (slice_set lists i x)) r ≡ (if nat_eq r i then f x else listed_at (map f lists) r)
listed_set f [] i x r within = absurd (omega (arith, within))
listed_set f (m ∷ lists) zero x zero within = refl
listed_set f (m ∷ lists) zero x (suc r) within = rw (eqb-suc-zero r) refl
listed_set f (m ∷ lists) (suc i) x zero within = rw (eqb-zero-suc i) refl
listed_set f (m ∷ lists) (suc i) x (suc r) within = rw (eqb-suc-suc r i) (listed_set f lists i x r (omega (arith, within)))

pub listed_is : {X : Type 0} (f : X → List ℕ) (lists : List X) (i : ℕ) (m : X) → i < length lists → m ≡ get_or lists i m
    → listed_at (map f lists) i ≡ f m
listed_is f [] i m within is = absurd (omega (arith, within))
listed_is f (x ∷ lists) zero m within is = ap f (sym is)
listed_is f (x ∷ lists) (suc i) m within is = listed_is f lists i m (omega (arith, within)) is

-- One of the lists is another one, by what it was.
pub listed_changed : {X : Type 0} (f : X → List ℕ) (lists : List X) (i : ℕ) (x m : X) (change : List ℕ → List ℕ) (r : ℕ)
    → i < length lists → m ≡ get_or lists i m → f x ≡ change (f m)
    → listed_at (map f (slice_set lists i x)) r ≡ (if nat_eq r i then change (listed_at (map f lists) r) else listed_at (map f lists) r)
listed_changed f lists i x m change r within is new =
    listed_set f lists i x r within
    ∙ by (nat_eq r i) refl (λ h. eqb-true r i h) (listed_is f lists i m within is)
  where
    by : (b : Bool) → b ≡ nat_eq r i → (b ≡ true → r ≡ i) → listed_at (map f lists) i ≡ f m
        → (if b then f x else listed_at (map f lists) r)
        ≡ (if b then change (listed_at (map f lists) r) else listed_at (map f lists) r)
    by true is at here = new ∙ ap change (sym here ∙ ap (listed_at (map f lists)) (sym (at refl)))
    by false is at here = refl

pub any_push : {A : Type 0} (test : A → Bool) (xs : List A) (x : A) → list_any test (xs ++ x ∷ []) ≡ (list_any test xs || test x)
any_push test [] x = by (test x)
  where
    by : (b : Bool) → (b || false) ≡ b
    by true = refl
    by false = refl
any_push test (y ∷ xs) x = by (test y) (any_push test xs x)
  where
    by : (b : Bool) → list_any test (xs ++ x ∷ []) ≡ (list_any test xs || test x)
        → (b || list_any test (xs ++ x ∷ [])) ≡ ((b || list_any test xs) || test x)
    by true h = refl
    by false h = h

pub map_push : {A B : Type 0} (f : A → B) (xs : List A) (x : A) → map f (xs ++ x ∷ []) ≡ map f xs ++ f x ∷ []
map_push f [] x = refl
map_push f (y ∷ xs) x = ap (λ ys. f y ∷ ys) (map_push f xs x)

pub lone_pushed : {A : Type 0} (new old : List A) (x : A) → new ≡ old ++ x ∷ [] → old ≡ [] → reverse new ≡ x ∷ []
lone_pushed new old x is empty = ap reverse (is ∙ ap (λ xs. xs ++ x ∷ []) empty)

pub nat_eq-refl : (n : ℕ) → nat_eq n n ≡ true
nat_eq-refl zero = refl
nat_eq-refl (suc n) = eqb-suc-suc n n ∙ nat_eq-refl n

-- What holds after the elements that pass a test, where the next one passes it.
pub passes_one : {A : Type 0} (P : List A → Type 0) (before : List A) (b : Bool) (x : A) → b ≡ true → P (before ++ x ∷ []) → P (before ++ cond b (x ∷ []) [])
passes_one P before true x is p = p
passes_one P before false x is p = absurd (true≢false (sym is))

pub fails_one : {A : Type 0} (P : List A → Type 0) (before : List A) (b : Bool) (x : A) → b ≡ false → P before → P (before ++ cond b (x ∷ []) [])
fails_one P before false x is p = subst P (sym (append-nil before)) p
fails_one P before true x is p = absurd (true≢false is)

pub take_whole : {A : Type 0} (xs : List A) (i : ℕ) → length xs ≤ i → take i xs ≡ xs
take_whole [] zero h = refl
take_whole [] (suc i) h = refl
take_whole (x ∷ xs) zero h = absurd (omega (arith, h))
take_whole (x ∷ xs) (suc i) h = ap (λ ys. x ∷ ys) (take_whole xs i (omega (arith, h)))

pub taken_next : {A : Type 0} (before xs : List A) (i : ℕ) (x : A) → i < length xs → x ≡ get_or xs i x
    → (before ++ take i xs) ++ x ∷ [] ≡ before ++ take (i + 1) xs
taken_next before xs i x within is = append_assoc before (take i xs) (x ∷ []) ∙ ap (λ ys. before ++ ys) (by xs i within is)
  where
    by : {A : Type 0} {x : A} (xs : List A) (i : ℕ) → i < length xs → x ≡ get_or xs i x → take i xs ++ x ∷ [] ≡ take (i + 1) xs
    by [] i within is = absurd (omega (arith, within))
    by (y ∷ xs) zero within is = ap (λ z. z ∷ []) is
    by {x = x} (y ∷ xs) (suc i) within is =
        ap (λ ys. y ∷ ys) (by xs i (omega (arith, within)) is)
        ∙ (let more : suc (i + 1) ≡ suc i + 1 = omega arith in ap (λ n. take n (y ∷ xs)) more)
