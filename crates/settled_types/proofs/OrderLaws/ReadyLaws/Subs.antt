-- The subprograms of the layout are those of the typed program, by their numbers.
use Rattle.std.proofs.Common.{◌≡◌, refl, sym, ap, ◌∙◌, subst, ◌⊎◌, inl, inr, ℕ, suc, ◌+◌, ◌≤◌, List, [], ◌∷◌, ◌++◌, length, arith}
use Rattle.std.specs.Prelude.{flat_map}
use Rattle.machine.specs.spark_base.Lists.{Has}
use Rattle.spark_base.proofs.Lists.{Has-append_left, Has-append_right}
use Rattle.machine.specs.typed_tree.Programs.{TypedSub}
use Rattle.machine.specs.flow_paths.Objects.{Typing}
use Rattle.machine.specs.flow_paths.Prep.{Setting}
use Rattle.machine.specs.flow_paths.Laid.{NamedSub, numbers_from, sub_temporaries, named_sub, named_subs, elaborated, all_named}
use Rattle.soundness.specs.Sound.{IsNamedSub}
use Rattle.settled_types.specs.OrderLaws.ScopeLaws.Code.{Once, objects_of}
use Rattle.settled_types.proofs.OrderLaws.ScopeLaws.Lists.{once_right, once_apart}
use Rattle.settled_types.specs.OrderLaws.ReadyLaws.InOrder.{IsSub}

-- The temporaries of a subprogram, from a number on.
abbrev pub setting_from : Typing → ℕ → TypedSub → Setting
setting_from s n sub = record { typing = s; temporary = numbers_from n (sub_temporaries s sub) }

-- A subprogram of the layout is that of a body; its temporaries have numbers after all objects.
abbrev pub IsOfBody : Typing → List TypedSub → NamedSub → Type 0
IsOfBody s subs named =
    (sub : TypedSub) × Has subs sub × (n : ℕ) × (length s.objects ≤ n) × (named_sub s n (sub_temporaries s sub) sub ≡ named)

pub subs_of : (s : Typing) (n : ℕ) (subs : List TypedSub) (named : NamedSub) → length s.objects ≤ n → Has (named_subs s n subs) named → IsOfBody s subs named
subs_of s n [] named above has = absurd has
subs_of s n (sub ∷ rest) named above (inl e) = (sub, inl refl, n, above, e)
subs_of s n (sub ∷ rest) named above (inr has) =
    let found = subs_of s (n + length (sub_temporaries s sub)) rest named (omega (arith, above)) has in
    (found.0, inr found.1, found.2, found.3, found.4)

-- Each is that of the package objects, or that of a body.
pub named_cases : (s : Typing) (first : TypedSub) (rest : List TypedSub) (named : NamedSub) → Has (all_named s (first ∷ rest)) named
    → (elaborated s first ≡ named) ⊎ IsOfBody s rest named
named_cases s first rest named (inl e) = inl e
named_cases s first rest named (inr has) = inr (subs_of s (length s.objects) rest named (omega arith) has)

-- ---- by number

named_at : (s : Typing) (n : ℕ) (subs front : List TypedSub) (sub : TypedSub) (rest : List TypedSub) → subs ≡ front ++ sub ∷ rest
    → (m : ℕ) × IsNamedSub (named_subs s n subs) (length front) (named_sub s m (sub_temporaries s sub) sub)
named_at s n [] [] sub rest is = cc
named_at s n [] (x ∷ front) sub rest is = cc
named_at s n (y ∷ subs) [] sub rest is =
    let same : y ≡ sub = cc in (
      n,
      subst (λ z. IsNamedSub (named_subs s n (z ∷ subs)) 0 (named_sub s n (sub_temporaries s sub) sub)) (sym same)
          ([], named_subs s (n + length (sub_temporaries s sub)) subs, refl, refl),
    )
named_at s n (y ∷ subs) (x ∷ front) sub rest is =
    let more : subs ≡ front ++ sub ∷ rest = cc in
    let found = named_at s (n + length (sub_temporaries s y)) subs front sub rest more in
    let at = found.1 in
    (found.0, (named_sub s n (sub_temporaries s y) y ∷ at.0, at.1, ap (λ z. named_sub s n (sub_temporaries s y) y ∷ z) at.2, ap suc at.3))

-- A body has its number in the layout.
pub body_at : (s : Typing) (first : TypedSub) (rest : List TypedSub) (n : ℕ) (sub : TypedSub) → IsSub rest n sub
    → (m : ℕ) × IsNamedSub (all_named s (first ∷ rest)) (suc n) (named_sub s m (sub_temporaries s sub) sub)
body_at s first rest n sub (front, more, is, long) =
    let found = named_at s (length s.objects) rest front sub more is in
    let at = found.1 in
    (found.0, (elaborated s first ∷ at.0, at.1, ap (λ z. elaborated s first ∷ z) at.2, ap suc (at.3 ∙ long)))

-- One number has one subprogram.
pub one_named : (subs : List NamedSub) (n : ℕ) (a b : NamedSub) → IsNamedSub subs n a → IsNamedSub subs n b → a ≡ b
one_named subs n a b (front, rest, is, long) (front', rest', is', long') = aligned front front' (sym is ∙ is') (long ∙ sym long')
  where
    aligned : (front front' : List NamedSub) → front ++ a ∷ rest ≡ front' ++ b ∷ rest' → length front ≡ length front' → a ≡ b
    aligned [] [] e long = cc
    aligned [] (x ∷ front') e long = cc
    aligned (x ∷ front) [] e long = cc
    aligned (x ∷ front) (y ∷ front') e long =
        (let tails : front ++ a ∷ rest ≡ front' ++ b ∷ rest' = cc in aligned front front' tails (omega (arith, long)))

-- ---- by objects

flat_has : {A B : Type 0} (f : A → List B) (xs : List A) (x : A) (y : B) → Has xs x → Has (f x) y → Has (flat_map f xs) y
flat_has f [] x y has there = absurd has
flat_has f (z ∷ xs) x y (inl same) there = Has-append_left (f z) (flat_map f xs) y (subst (λ w. Has (f w) y) (sym same) there)
flat_has f (z ∷ xs) x y (inr has) there = Has-append_right (f z) (flat_map f xs) y (flat_has f xs x y has there)

named_objects : (s : Typing) (n : ℕ) (subs : List TypedSub) → flat_map (λ (z : NamedSub). objects_of z.sub) (named_subs s n subs) ≡ flat_map objects_of subs
named_objects s n [] = refl
named_objects s n (sub ∷ rest) = ap (λ xs. objects_of sub ++ xs) (named_objects s (n + length (sub_temporaries s sub)) rest)

-- If no object is one of two subprograms, one object has one subprogram.
pub object_named : (s : Typing) (n : ℕ) (subs : List TypedSub) → Once (flat_map objects_of subs) → (a b : NamedSub) → Has (named_subs s n subs) a
    → Has (named_subs s n subs) b → (x : ℕ) → Has (objects_of a.sub) x → Has (objects_of b.sub) x → a ≡ b
object_named s n subs once a b in_a in_b x one other = by (named_subs s n subs) (subst Once (sym (named_objects s n subs)) once) in_a in_b
  where
    objects : NamedSub → List ℕ
    objects z = objects_of z.sub

    by : (all : List NamedSub) → Once (flat_map objects all) → Has all a → Has all b → a ≡ b
    by [] once in_a in_b = absurd in_a
    by (c ∷ all) once (inl same) (inl alike) = sym same ∙ alike
    by (c ∷ all) once (inl same) (inr in_b) =
        absurd (once_apart (objects c) (flat_map objects all) x once (subst (λ z. Has (objects z) x) (sym same) one) (flat_has objects all b x in_b other))
    by (c ∷ all) once (inr in_a) (inl alike) =
        absurd (once_apart (objects c) (flat_map objects all) x once (subst (λ z. Has (objects z) x) (sym alike) other) (flat_has objects all a x in_a one))
    by (c ∷ all) once (inr in_a) (inr in_b) = by all (once_right (objects c) (flat_map objects all) once) in_a in_b
