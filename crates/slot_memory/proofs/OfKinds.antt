-- Words of some kinds, one after the other.
use Rattle.std.proofs.Common.{◌≡◌, ℕ, zero, suc, ◌+◌, ◌<◌, ◌≤◌, Bool, true, false, ◌&&◌, List, [], ◌∷◌, ◌++◌, length, take, drop, get_or, refl, sym, ap, subst, ◌∙◌, arith, ℤ, Some, Option, slice_get, IsSomeAnd, append_assoc, append-nil, if◌then◌else◌}
use Rattle.std.proofs.lemmas.List.{drop-drop, drop_more, drop_all}
use Rattle.run_values.specs.declared.value.Value.{Value}
use Rattle.run_values.specs.declared.value.Kind.{Kind}
use Rattle.run_values.specs.declared.value.Kind.TheVariants as sort
use Rattle.run_values.specs.Values.{kind}
use Rattle.run_codes.specs.Flat.{Got, Given, Stops, Broken, and_then, is_broken, same_kind, have_kinds, is_pointer}
use Rattle.handled_runs.specs.Slots.{front}
use Rattle.handled_runs.specs.Changes.{slot_value, slot_values}

pub never : true ≡ false → ⊥
never is = cc

pub and_first : (a b : Bool) → a && b ≡ true → a ≡ true
and_first a b is = grind arith

pub and_second : (a b : Bool) → a && b ≡ true → b ≡ true
and_second a b is = grind arith

-- A test that isn't broken.
pub tested : {A : Type 0} (b : Bool) (g : Got A) → is_broken (if b then g else Broken) ≡ false
    → (b ≡ true) × (is_broken g ≡ false) × ((if b then g else Broken) ≡ g)
tested true g is = (refl, is, refl)
tested false g is = absurd (never is)

-- ---- kinds

-- A word of a kind stands at an index.
abbrev pub StandsAt : List Value → ℕ → Kind → Type 0
StandsAt ws o k = IsSomeAnd (slice_get ws o) (λ v. kind v ≡ k)

pub kind_is : (j k : Kind) → same_kind j k ≡ true → j ≡ k
kind_is sort.Int sort.Int is = refl
kind_is sort.Enum sort.Enum is = refl
kind_is sort.Access sort.Access is = refl
kind_is sort.Int sort.Enum is = cc
kind_is sort.Int sort.Access is = cc
kind_is sort.Enum sort.Int is = cc
kind_is sort.Enum sort.Access is = cc
kind_is sort.Access sort.Int is = cc
kind_is sort.Access sort.Enum is = cc

kinds_at : (ks : List Kind) (vs : List Value) (i : ℕ) (d : Kind) → have_kinds ks vs ≡ true → i < length ks → StandsAt vs i (get_or ks i d)
kinds_at [] vs i d is lt = absurd (omega (arith, lt))
kinds_at (k ∷ ks) [] i d is lt = cc
kinds_at (k ∷ ks) (v ∷ vs) zero d is lt = kind_is (kind v) k (and_first (same_kind (kind v) k) (have_kinds ks vs) is)
kinds_at (k ∷ ks) (v ∷ vs) (suc i) d is lt = kinds_at ks vs i d (and_second (same_kind (kind v) k) (have_kinds ks vs) is) (omega (arith, lt))

slice_dropped : {A : Type 0} (n i k : ℕ) (xs : List A) → k ≡ n + i → slice_get (drop n xs) i ≡ slice_get xs k
slice_dropped zero i k xs is = ap (λ j. slice_get xs j) (sym (is ∙ none i))
  where
    none : (i : ℕ) → 0 + i ≡ i
    none i = omega arith
slice_dropped (suc n) i zero xs is = absurd (omega (arith, is))
slice_dropped (suc n) i (suc k) [] is = refl
slice_dropped (suc n) i (suc k) (x ∷ xs) is = slice_dropped n i k xs (omega (arith, is))

pub stands_at : (ks : List Kind) (ws : List Value) (o i : ℕ) (d : Kind) → have_kinds ks (drop o ws) ≡ true → i < length ks → StandsAt ws (o + i) (get_or ks i d)
stands_at ks ws o i d is lt =
    subst (λ (x : Option Value). IsSomeAnd x (λ v. kind v ≡ get_or ks i d)) (slice_dropped o i (o + i) ws refl) (kinds_at ks (drop o ws) i d is lt)

pub stands_below : (ws : List Value) (o : ℕ) (k : Kind) → StandsAt ws o k → o < length ws
stands_below [] o k is = absurd is
stands_below (w ∷ ws) zero k is = omega arith
stands_below (w ∷ ws) (suc o) k is = omega (arith, stands_below ws o k is)

first_kind : (k : Kind) (ks : List Kind) (vs : List Value) → have_kinds (k ∷ ks) vs ≡ true → have_kinds ks (drop 1 vs) ≡ true
first_kind k ks [] is = cc
first_kind k ks (v ∷ vs) is = and_second (same_kind (kind v) k) (have_kinds ks vs) is

-- Kinds that are left of some.
pub kinds_next : (ks : List Kind) (ws : List Value) (i at : ℕ) → i < length ks → have_kinds (drop i ks) (drop (at + i) ws) ≡ true
    → have_kinds (drop (i + 1) ks) (drop (at + (i + 1)) ws) ≡ true
kinds_next ks ws i at lt is =
    let first : have_kinds (get_or ks i sort.Int ∷ drop (i + 1) ks) (drop (at + i) ws) ≡ true =
    subst (λ l. have_kinds l (drop (at + i) ws) ≡ true) (drop_more ks i sort.Int lt) is in
    subst (λ l. have_kinds (drop (i + 1) ks) l ≡ true) (drop-drop 1 (at + i) ws ∙ ap (λ n. drop n ws) (next at i))
    (first_kind (get_or ks i sort.Int) (drop (i + 1) ks) (drop (at + i) ws) first)
  where
    next : (a i : ℕ) → a + i + 1 ≡ a + (i + 1)
    next a i = omega arith

first_stands : (k : Kind) (ks : List Kind) (vs : List Value) → have_kinds (k ∷ ks) vs ≡ true → StandsAt vs 0 k
first_stands k ks [] is = cc
first_stands k ks (v ∷ vs) is = kind_is (kind v) k (and_first (same_kind (kind v) k) (have_kinds ks vs) is)

pub stands_first : (ks : List Kind) (ws : List Value) (i o : ℕ) (d : Kind) → i < length ks → have_kinds (drop i ks) (drop o ws) ≡ true
    → StandsAt ws o (get_or ks i d)
stands_first ks ws i o d lt is =
    let first : have_kinds (get_or ks i d ∷ drop (i + 1) ks) (drop o ws) ≡ true = subst (λ l. have_kinds l (drop o ws) ≡ true) (drop_more ks i d lt) is in
    subst (λ (x : Option Value). IsSomeAnd x (λ v. kind v ≡ get_or ks i d)) (slice_dropped o 0 o ws (none o))
    (first_stands (get_or ks i d) (drop (i + 1) ks) (drop o ws) first)
  where
    none : (o : ℕ) → o ≡ o + 0
    none o = omega arith

pub kinds_within : (ks : List Kind) (vs : List Value) → have_kinds ks vs ≡ true → length ks ≤ length vs
kinds_within [] vs is = omega arith
kinds_within (k ∷ ks) [] is = cc
kinds_within (k ∷ ks) (v ∷ vs) is = omega (arith, kinds_within ks vs (and_second (same_kind (kind v) k) (have_kinds ks vs) is))

-- One kind, where a word of it stands.
pub one_kind : (ws : List Value) (o : ℕ) (k : Kind) → have_kinds (k ∷ []) (drop o ws) ≡ true → StandsAt ws o k
one_kind ws o k is = stands_first (k ∷ []) ws 0 o sort.Int (omega arith) is

-- ---- what is appended

pub drop_first : {A : Type 0} (o : ℕ) (xs : List A) (x : A) → slice_get xs o ≡ Some x → drop o xs ≡ x ∷ drop (suc o) xs
drop_first o [] x is = cc
drop_first zero (y ∷ xs) x is = ap (λ z. z ∷ xs) (same y x is)
  where
    same : {A : Type 0} (y x : A) → Some y ≡ Some x → y ≡ x
    same y x is = cc
drop_first (suc o) (y ∷ xs) x is = drop_first o xs x is

pub push_next : (ks : List Kind) (zs old : List ℤ) (at i : ℕ) (z : ℤ) → i < length ks → slice_get zs (at + i) ≡ Some z
    → (old ++ z ∷ []) ++ take (length (drop (i + 1) ks)) (drop (at + (i + 1)) zs) ≡ old ++ take (length (drop i ks)) (drop (at + i) zs)
push_next ks zs old at i z lt is =
    let long : length (drop i ks) ≡ suc (length (drop (i + 1) ks)) = ap length (drop_more ks i sort.Int lt) in
    let rest : drop (at + i) zs ≡ z ∷ drop (at + (i + 1)) zs = drop_first (at + i) zs z is ∙ ap (λ n. z ∷ drop n zs) (next at i) in
    append_assoc old (z ∷ []) (take (length (drop (i + 1) ks)) (drop (at + (i + 1)) zs))
    ∙ ap (λ l. old ++ l) (sym (ap (λ n. take n (drop (at + i) zs)) long ∙ ap (λ l. take (suc (length (drop (i + 1) ks))) l) rest))
  where
    next : (a i : ℕ) → suc (a + i) ≡ a + (i + 1)
    next a i = omega arith

pub push_end : (ks : List Kind) (zs old : List ℤ) (i : ℕ) → length ks ≤ i → old ++ take (length (drop i ks)) zs ≡ old
push_end ks zs old i le = ap (λ l. old ++ take (length l) zs) (drop_all i ks le) ∙ append-nil old

-- ---- what is stored

pub values_on : (ks : List Kind) (zs : List ℤ) (i : ℕ) (k : Kind) (z : ℤ) → i < length ks → i < length zs
    → slot_values (drop i ks) (drop i zs) ≡ slot_value (get_or ks i k) (get_or zs i z) ∷ slot_values (drop (i + 1) ks) (drop (i + 1) zs)
values_on ks zs i k z lk lz =
    ap (λ l. slot_values l (drop i zs)) (drop_more ks i k lk) ∙ ap (λ l. slot_values (get_or ks i k ∷ drop (i + 1) ks) l) (drop_more zs i z lz)

-- ---- offsets of access values

pub pointer_at : (ks : List Kind) (o : ℕ) → is_pointer (slice_get ks o) ≡ true → (slice_get ks o ≡ Some sort.Access) × (o < length ks)
pointer_at [] o is = cc
pointer_at (sort.Access ∷ ks) zero is = (refl, omega arith)
pointer_at (sort.Int ∷ ks) zero is = cc
pointer_at (sort.Enum ∷ ks) zero is = cc
pointer_at (k ∷ ks) (suc o) is = let more = pointer_at ks o is in (more.0, omega (arith, more.1))

pub access_at : (ks : List Kind) (o : ℕ) (d : Kind) → is_pointer (slice_get ks o) ≡ true → get_or ks o d ≡ sort.Access
access_at [] o d is = cc
access_at (sort.Access ∷ ks) zero d is = refl
access_at (sort.Int ∷ ks) zero d is = cc
access_at (sort.Enum ∷ ks) zero d is = cc
access_at (k ∷ ks) (suc o) d is = access_at ks o d is

-- ---- words at the front

front_whole : (g : Got (List ℤ)) (z : ℤ) → is_broken (and_then g (λ more. Given (z ∷ more))) ≡ false → is_broken g ≡ false
front_whole (Given a) z is = refl
front_whole (Stops s) z is = refl
front_whole Broken z is = is

pub front_given : (ks : List Kind) (zs : List ℤ) → is_broken (front ks zs) ≡ false → front ks zs ≡ Given (take (length ks) zs)
front_given [] zs is = refl
front_given (k ∷ ks) [] is = absurd (never is)
front_given (k ∷ ks) (z ∷ zs) is = ap (λ g. and_then g (λ more. Given (z ∷ more))) (front_given ks zs (front_whole (front ks zs) z is))

pub front_within : (ks : List Kind) (zs : List ℤ) → is_broken (front ks zs) ≡ false → length ks ≤ length zs
front_within [] zs is = omega arith
front_within (k ∷ ks) [] is = absurd (never is)
front_within (k ∷ ks) (z ∷ zs) is = omega (arith, front_within ks zs (front_whole (front ks zs) z is))

-- As many as there are are given.
pub front_there : (ks : List Kind) (zs : List ℤ) → length ks ≤ length zs → front ks zs ≡ Given (take (length ks) zs)
front_there [] zs le = refl
front_there (k ∷ ks) [] le = absurd (omega (arith, le))
front_there (k ∷ ks) (z ∷ zs) le = ap (λ g. and_then g (λ more. Given (z ∷ more))) (front_there ks zs (omega (arith, le)))
