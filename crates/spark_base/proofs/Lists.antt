-- Membership, and the last element of a list.
use Rattle.std.proofs.Common.{◌≡◌, ◌⊎◌, inl, inr, Bool, true, false, cond, ◌||◌, List, [], ◌∷◌, ◌++◌, map, refl, sym, ap, ◌∙◌, subst}
use Rattle.std.specs.Bool.{Decides}
use Rattle.std.specs.List.{filter, list_any, All, Contains}
use Rattle.std.proofs.lemmas.List.Elements.{All-nil, All-cons, All-head, All-tail, All-contains_itself}
use Rattle.spark_base.specs.Lists.{Has}

pub Has-append_left : {A : Type 0} (xs ys : List A) (x : A) → Has xs x → Has (xs ++ ys) x
Has-append_left [] ys x h = absurd h
Has-append_left (y ∷ xs) ys x h = elim h [ inl e ↦ inl e | inr h ↦ inr (Has-append_left xs ys x h) ]

pub Has-append_right : {A : Type 0} (xs ys : List A) (x : A) → Has ys x → Has (xs ++ ys) x
Has-append_right [] ys x h = h
Has-append_right (y ∷ xs) ys x h = inr (Has-append_right xs ys x h)

pub Has-append_cases : {A : Type 0} (xs ys : List A) (x : A) → Has (xs ++ ys) x → Has xs x ⊎ Has ys x
Has-append_cases [] ys x h = inr h
Has-append_cases (y ∷ xs) ys x h = elim h [
  | inl e ↦ inl (inl e)
  | inr h ↦ elim (Has-append_cases xs ys x h) [ inl k ↦ inl (inr k) | inr k ↦ inr k ]
]

-- what a filter keeps was there and passes
filter_step : {A : Type 0} (p : A → Bool) (y x : A) (kept xs : List A) → (Has kept x → Has xs x × (p x ≡ true))
    → (b : Bool) → p y ≡ b → Has (cond b (y ∷ kept) kept) x → Has (y ∷ xs) x × (p x ≡ true)
filter_step p y x kept xs rest true e h = elim h [
  | inl same ↦ (inl same, ap p (sym same) ∙ e)
  | inr h ↦ (inr (rest h).0, (rest h).1)
]
filter_step p y x kept xs rest false e h = (inr (rest h).0, (rest h).1)

pub Has-filter : {A : Type 0} (p : A → Bool) (xs : List A) (x : A) → Has (filter p xs) x → Has xs x × (p x ≡ true)
Has-filter p [] x h = absurd h
Has-filter p (y ∷ xs) x h = filter_step p y x (filter p xs) xs (Has-filter p xs x) (p y) refl h

-- what was there and passes is kept
passes_step : {A : Type 0} (y x : A) (kept : List A) → Has kept x → (b : Bool) → Has (cond b (y ∷ kept) kept) x
passes_step y x kept h true = inr h
passes_step y x kept h false = h

pub Has-filter_passes : {A : Type 0} (p : A → Bool) (xs : List A) (x : A) → Has xs x → p x ≡ true → Has (filter p xs) x
Has-filter_passes p [] x h e = absurd h
Has-filter_passes p (y ∷ xs) x h e = elim h [
  | inl same ↦ subst (λ b. Has (cond b (y ∷ filter p xs) (filter p xs)) x) (sym (ap p same ∙ e)) (inl same)
  | inr h ↦ passes_step y x (filter p xs) (Has-filter_passes p xs x h e) (p y)
]

pub Has-map : {A B : Type 0} (f : A → B) (xs : List A) (x : A) → Has xs x → Has (map f xs) (f x)
Has-map f [] x h = absurd h
Has-map f (y ∷ xs) x h = elim h [ inl e ↦ inl (ap f e) | inr h ↦ inr (Has-map f xs x h) ]

pub Has-map_from : {A B : Type 0} (f : A → B) (xs : List A) (y : B) → Has (map f xs) y → (x : A) × Has xs x × (f x ≡ y)
Has-map_from f [] y h = absurd h
Has-map_from f (x ∷ xs) y h = elim h [
  | inl e ↦ (x, inl refl, e)
  | inr h ↦ (let found = Has-map_from f xs y h in (found.0, inr found.1, found.2))
]

-- a list is empty or has a last element
pub ends : {A : Type 0} (xs : List A) → (xs ≡ []) ⊎ ((ys : List A) × (y : A) × (xs ≡ ys ++ y ∷ []))
ends [] = inl refl
ends (x ∷ xs) = elim (ends xs) [
  | inl e ↦ inr ([], x, ap (λ t. x ∷ t) e)
  | inr h ↦ inr (x ∷ h.0, h.1, ap (λ t. x ∷ t) h.2)
]

not_empty : {A : Type 0} (xs : List A) (x : A) → [] ≡ xs ++ x ∷ [] → ⊥
not_empty [] x e = cc
not_empty (y ∷ xs) x e = cc

pub last_same : {A : Type 0} (xs ys : List A) (x y : A) → xs ++ x ∷ [] ≡ ys ++ y ∷ [] → (xs ≡ ys) × (x ≡ y)
last_same [] [] x y e = (refl, cc)
last_same [] (z ∷ ys) x y e = absurd (not_empty ys y (cc))
last_same (z ∷ xs) [] x y e = absurd (not_empty xs x (cc))
last_same (z ∷ xs) (w ∷ ys) x y e =
    let rest : xs ++ x ∷ [] ≡ ys ++ y ∷ [] = cc in
    let first : z ≡ w = cc in
    let same = last_same xs ys x y rest in
    (λ i. first i ∷ same.0 i, same.1)

-- `All` goes by index
pub All-has : {A : Type 0} (P : A → Type 0) (xs : List A) (x : A) → All P xs → Has xs x → P x
All-has P [] x all h = absurd h
All-has P (y ∷ xs) x all h = elim h [
  | inl e ↦ subst P e (All-head P y xs all)
  | inr h ↦ All-has P xs x (All-tail P y xs all) h
]

pub All-from_has : {A : Type 0} (P : A → Type 0) (xs : List A) → ((x : A) → Has xs x → P x) → All P xs
All-from_has P [] f = All-nil P
All-from_has P (x ∷ xs) f = All-cons P x xs (f x (inl refl)) (All-from_has P xs (λ y h. f y (inr h)))

pub All-has_itself : {A : Type 0} (xs : List A) → All (Has xs) xs
All-has_itself xs = All-from_has (Has xs) xs (λ x h. h)

-- a search for an element, by a test that decides whether it is that element
pub list_any-decides : {A : Type 0} (test : A → Bool) (x : A) → ((y : A) → Decides (test y) (y ≡ x))
    → (xs : List A) → Decides (list_any test xs) (Has xs x)
list_any-decides test x same [] = (λ e. cc, λ h. absurd h)
list_any-decides test x same (y ∷ xs) = (
  from (test y) (list_any test xs) (same y) (list_any-decides test x same xs),
  λ h. elim h [
    | inl e ↦ to (test y) (list_any test xs) (inl ((same y).1 e))
    | inr h ↦ to (test y) (list_any test xs) (inr ((list_any-decides test x same xs).1 h))
  ],
)
  where
    from : {P Q : Type 0} (b c : Bool) → Decides b P → Decides c Q → (b || c) ≡ true → P ⊎ Q
    from true c p q e = inl (p.0 refl)
    from false c p q e = inr (q.0 e)

    to : (b c : Bool) → (b ≡ true) ⊎ (c ≡ true) → (b || c) ≡ true
    to true c e = refl
    to false c e = elim e [ inl e ↦ cc | inr e ↦ e ]

-- std's word goes by index
pub Has-contained : {A : Type 0} (xs : List A) (x : A) → Contains xs x → Has xs x
Has-contained xs x c = subst (Has xs) c.2 (All-has_itself xs c.0 x c.1)

pub Contains-has : {A : Type 0} (xs : List A) (x : A) → Has xs x → Contains xs x
Contains-has xs x h = All-has (Contains xs) xs x (All-contains_itself xs) h
