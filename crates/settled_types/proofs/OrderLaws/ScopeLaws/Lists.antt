-- Lists of points of which something holds, and lists of objects.
use Rattle.std.proofs.Common.{◌≡◌, refl, sym, ap, subst, ◌⊎◌, inl, inr, ℕ, Bool, true, false, not, ◌&&◌, ◌||◌, ◌==◌, eqb-true, List, [], ◌∷◌, ◌++◌, if◌then◌else◌}
use Rattle.std.specs.Prelude.{reverse}
use Rattle.std.specs.List.{AllByRecursion}
use Rattle.std.proofs.lemmas.List.{reverse-append}
use Rattle.std.proofs.lemmas.Bool.{false≢true}
use Rattle.machine.specs.spark_base.Lists.{Has}
use Rattle.spark_base.proofs.Lists.{Has-append_left, Has-append_right, Has-append_cases}
use Rattle.machine.specs.flow_paths.Scopes.{is_within}
use Rattle.settled_types.specs.OrderLaws.ScopeLaws.Code.{Once}

-- ---- tests

pub and_first : (a b : Bool) → (a && b) ≡ true → a ≡ true
and_first true b p = refl
and_first false b p = absurd (false≢true p)

pub and_second : (a b : Bool) → (a && b) ≡ true → b ≡ true
and_second true b p = p
and_second false b p = absurd (false≢true p)

pub both_true : (a b : Bool) → a ≡ true → b ≡ true → (a && b) ≡ true
both_true true b e f = f
both_true false b e f = absurd (false≢true e)

pub bool_cases : (b : Bool) → (b ≡ true) ⊎ (b ≡ false)
bool_cases true = inl refl
bool_cases false = inr refl

-- ---- lists

pub all_both : {A : Type 0} (P : A → Type 0) (xs ys : List A) → AllByRecursion P xs → AllByRecursion P ys → AllByRecursion P (xs ++ ys)
all_both P [] ys h g = g
all_both P (x ∷ xs) ys h g = (h.0, all_both P xs ys h.1 g)

pub all_one : {A : Type 0} (P : A → Type 0) (xs : List A) (x : A) → AllByRecursion P xs → P x → AllByRecursion P (xs ++ x ∷ [])
all_one P xs x h p = all_both P xs (x ∷ []) h (p, tt)

pub all_has : {A : Type 0} (P : A → Type 0) (xs : List A) (x : A) → AllByRecursion P xs → Has xs x → P x
all_has P [] x all has = absurd has
all_has P (y ∷ xs) x all (inl e) = subst P e all.0
all_has P (y ∷ xs) x all (inr has) = all_has P xs x all.1 has

pub all_if : {A : Type 0} (P : A → Type 0) (b : Bool) (xs ys : List A) → AllByRecursion P xs → AllByRecursion P ys → AllByRecursion P (if b then xs else ys)
all_if P true xs ys h g = h
all_if P false xs ys h g = g

pub has_reverse : {A : Type 0} (xs : List A) (x : A) → Has (reverse xs) x → Has xs x
has_reverse [] x has = has
has_reverse (y ∷ xs) x has = elim (Has-append_cases (reverse xs) (y ∷ []) x (subst (λ z. Has z x) (reverse-append (y ∷ []) xs) has)) [
  | inl before ↦ inr (has_reverse xs x before)
  | inr here ↦ elim here [ inl e ↦ inl e | inr none ↦ absurd none ]
]

-- ---- objects

any_either : (a b : Bool) → a || b ≡ true → (a ≡ true) ⊎ (b ≡ true)
any_either true b e = inl refl
any_either false b e = inr e

pub within_has : (x : ℕ) (scope : List ℕ) → is_within x scope ≡ true → Has scope x
within_has x [] e = absurd (none e)
  where
    none : is_within x [] ≡ true → ⊥
    none e = false≢true e
within_has x (y ∷ scope) e = elim (any_either (x == y) (is_within x scope) e) [
  | inl here ↦ inl (sym (eqb-true x y here))
  | inr later ↦ inr (within_has x scope later)
]

pub outside : (x : ℕ) (scope : List ℕ) → (Has scope x → ⊥) → not (is_within x scope) ≡ true
outside x scope none = elim (bool_cases (is_within x scope)) [
  | inl e ↦ absurd (none (within_has x scope e))
  | inr e ↦ ap not e
]

pub once_left : (xs ys : List ℕ) → Once (xs ++ ys) → Once xs
once_left [] ys h = tt
once_left (x ∷ xs) ys h = (λ has. h.0 (Has-append_left xs ys x has), once_left xs ys h.1)

pub once_right : (xs ys : List ℕ) → Once (xs ++ ys) → Once ys
once_right [] ys h = h
once_right (x ∷ xs) ys h = once_right xs ys h.1

pub once_apart : (xs ys : List ℕ) (x : ℕ) → Once (xs ++ ys) → Has xs x → Has ys x → ⊥
once_apart [] ys x h left right = left
once_apart (y ∷ xs) ys x h (inl e) right = h.0 (Has-append_right xs ys y (subst (Has ys) (sym e) right))
once_apart (y ∷ xs) ys x h (inr left) right = once_apart xs ys x h.1 left right
