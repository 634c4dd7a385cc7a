-- The objects and the scopes of a program have the numbers of their places in the text.
use Rattle.std.proofs.Common.{◌≡◌, refl, sym, ap, ◌∙◌, subst, inl, inr, ℕ, suc, nat_eq, List, [], ◌∷◌, ◌++◌, map, length, get_or, arith, append_assoc, length-append}
use Rattle.std.specs.List.{position_or_len}
use Rattle.machine.specs.spark_base.Lists.{Has}
use Rattle.machine.specs.typed_tree.declared.object.Object.{Object}
use Rattle.machine.specs.typed_tree.Expressions.{Site, object_number}
use Rattle.machine.specs.typed_tree.Programs.{DeclaredObject, text_io}
use Rattle.machine.specs.flow_paths.Objects.{Typing, object_at}
use Rattle.settled_types.specs.OrderLaws.ScopeLaws.Code.{Once}
use Rattle.settled_types.proofs.OrderLaws.Parts.{either, same_number, number_here, number_later}
use Rattle.accepted_runs.specs.ViewedFiles.Places.{AreAt, AreAround}

-- ---- lists

get_there : {A : Type 0} (xs ys : List A) (x d : A) → get_or (xs ++ x ∷ ys) (length xs) d ≡ x
get_there [] ys x d = refl
get_there (z ∷ xs) ys x d = get_there xs ys x d

once_apart : (xs ys : List ℕ) (d : ℕ) → Once (xs ++ d ∷ ys) → Has xs d → ⊥
once_apart [] ys d once has = has
once_apart (x ∷ xs) ys d once (inl same) = once.0 (subst (λ z. Has (xs ++ d ∷ ys) z) (sym same) (last xs))
  where
    last : (xs : List ℕ) → Has (xs ++ d ∷ ys) d
    last [] = inl refl
    last (z ∷ xs) = inr (last xs)
once_apart (x ∷ xs) ys d once (inr has) = once_apart xs ys d once.1 has

place_there : (xs ys : List ℕ) (d : ℕ) → (Has xs d → ⊥) → position_or_len (nat_eq d) (xs ++ d ∷ ys) ≡ length xs
place_there [] ys d apart = number_here d d ys (grind (arith))
place_there (x ∷ xs) ys d apart = elim (either (nat_eq d x)) [
  | inl here ↦ absurd (apart (inl (sym (same_number d x here))))
  | inr other ↦ (let later = number_later d x (xs ++ d ∷ ys) other in let rest = place_there xs ys d (λ has. apart (inr has)) in omega (arith, later, rest))
]

more_of : (os us : List DeclaredObject) → map (λ (o : DeclaredObject). o.number) (os ++ us) ≡ map (λ (o : DeclaredObject). o.number) os ++ map (λ (o : DeclaredObject). o.number) us
more_of [] us = refl
more_of (o ∷ os) us = ap (λ xs. o.number ∷ xs) (more_of os us)

objects_of : (os us : List DeclaredObject) → map (λ (o : DeclaredObject). o.object) (os ++ us) ≡ map (λ (o : DeclaredObject). o.object) os ++ map (λ (o : DeclaredObject). o.object) us
objects_of [] us = refl
objects_of (o ∷ os) us = ap (λ xs. o.object ∷ xs) (objects_of os us)

numbers_long : (os : List DeclaredObject) → length (map (λ (o : DeclaredObject). o.number) os) ≡ length os
numbers_long [] = refl
numbers_long (o ∷ os) = ap suc (numbers_long os)

objects_long : (os : List DeclaredObject) → length (map (λ (o : DeclaredObject). o.object) os) ≡ length os
objects_long [] = refl
objects_long (o ∷ os) = ap suc (objects_long os)

-- ---- objects

module _ (s : Site) (own : Typing) (all : List DeclaredObject) (numbered : s.objects ≡ map (λ (o : DeclaredObject). o.number) all)
    (objects : own.objects ≡ text_io ∷ map (λ (o : DeclaredObject). o.object) all) (once : Once (map (λ (o : DeclaredObject). o.number) all)) where
  number_is : (before os : List DeclaredObject) (o : DeclaredObject) → before ++ o ∷ os ≡ all → object_number s o.number ≡ suc (length before)
  number_is before os o e =
      let xs : List ℕ = map (λ (u : DeclaredObject). u.number) before in
      let ys : List ℕ = map (λ (u : DeclaredObject). u.number) os in
      let is : map (λ (u : DeclaredObject). u.number) all ≡ xs ++ o.number ∷ ys = ap (map (λ (u : DeclaredObject). u.number)) (sym e) ∙ more_of before (o ∷ os) in
      let apart : Has xs o.number → ⊥ = once_apart xs ys o.number (subst Once is once) in
      let there : position_or_len (nat_eq o.number) s.objects ≡ length before
      = ap (position_or_len (nat_eq o.number)) (numbered ∙ is) ∙ place_there xs ys o.number apart ∙ numbers_long before in
      omega (arith, there)

  object_is : (before os : List DeclaredObject) (o : DeclaredObject) → before ++ o ∷ os ≡ all → object_at own (suc (length before)) ≡ o.object
  object_is before os o e =
      let xs : List Object = map (λ (u : DeclaredObject). u.object) before in
      let ys : List Object = map (λ (u : DeclaredObject). u.object) os in
      let is : map (λ (u : DeclaredObject). u.object) all ≡ xs ++ o.object ∷ ys = ap (map (λ (u : DeclaredObject). u.object)) (sym e) ∙ objects_of before (o ∷ os) in
      ap (λ us. get_or us (suc (length before)) text_io) objects ∙ ap (λ us. get_or us (length before) text_io) is
      ∙ ap (λ n. get_or (xs ++ o.object ∷ ys) n text_io) (sym (objects_long before)) ∙ get_there xs ys o.object text_io

  from_here : (before os : List DeclaredObject) → before ++ os ≡ all → AreAt s own (suc (length before)) os
  from_here before [] e = tt
  from_here before (o ∷ os) e = (
    number_is before os o e,
    object_is before os o e,
    subst (λ n. AreAt s own n os) (long before) (from_here (before ++ o ∷ []) os (append_assoc before (o ∷ []) os ∙ e)),
  )
    where
      long : (before : List DeclaredObject) → suc (length (before ++ o ∷ [])) ≡ suc (suc (length before))
      long before = (let is = length-append before (o ∷ []) in omega (arith, is))

  pub all_at : AreAt s own 1 all
  all_at = from_here [] all refl

-- ---- scopes

module _ (scopes : List ℕ) where
  around_here : (before bs : List ℕ) → before ++ bs ≡ scopes → AreAround scopes (length before) bs
  around_here before [] e = tt
  around_here before (b ∷ bs) e = (
    ap (λ xs. get_or xs (length before) (length before)) (sym e) ∙ get_there before bs b (length before),
    subst (λ n. AreAround scopes n bs) (long before) (around_here (before ++ b ∷ []) bs (append_assoc before (b ∷ []) bs ∙ e)),
  )
    where
      long : (before : List ℕ) → length (before ++ b ∷ []) ≡ suc (length before)
      long before = (let is = length-append before (b ∷ []) in omega (arith, is))

  pub all_around : (bs : List ℕ) → 0 ∷ bs ≡ scopes → AreAround scopes 1 bs
  all_around bs e = around_here (0 ∷ []) bs e
