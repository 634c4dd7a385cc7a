-- A formal belongs to one subprogram alone. So nothing is changed through a formal of a function that lends nothing.
use Rattle.std.specs.List.{list_any}
use Rattle.std.proofs.Common.{◌≡◌, refl, sym, ap, ◌∙◌, subst, ◌⊎◌, inl, inr, ℕ, zero, suc, ◌+◌, Bool, true, false, not, ◌&&◌, ◌||◌, ◌==◌, List, [], ◌∷◌, ◌++◌, map, flat_map, append_assoc, get_or, Option, Some, None, is_some}
use Rattle.std.proofs.lemmas.Bool.{eqb-true, false≢true}
use Rattle.machine.specs.spark_base.Lists.{Has}
use Rattle.soundness.proofs.Lists.{Has-append_left, Has-append_right, Has-map_from}
use Rattle.machine.specs.resolved_tree.Trees.{Code, SubBody, PackageBody, More, Program}
use Rattle.machine.specs.type_definitions.Gathered.{declared_number, in_hidden}
use Rattle.machine.specs.type_definitions.Types.{Table}
use Rattle.machine.specs.type_definitions.Whole.{known_of}
use Rattle.machine.specs.typed_tree.Expressions.{Site, object_number}
use Rattle.machine.specs.typed_tree.Statements.{scope_count}
use Rattle.machine.specs.typed_tree.Programs.{TypedSub, DeclaredObject, Home, formals_of, front_formals, local, in_package, package_text, objects_in, program_objects, placed, subs_in, over_units, site_of, typed_program}
use Rattle.machine.specs.flow_paths.Objects.{Typing, Signature, sub_at, is_named_access, view_of}
use Rattle.machine.specs.flow_paths.Laid.{FlowProgram, signature, flow_typing, flow_program}
use Rattle.soundness.proofs.Typings.{Agree, flow_agrees}
use Rattle.soundness.specs.ViewedSoundness.Holds.{is_of_procedure, is_exclusive}
use Rattle.settled_types.specs.OrderLaws.ScopeLaws.Code.{Once}
use Rattle.settled_types.specs.OrderLaws.Orderly.{typed_of, typing_in, bodies_of}
use Rattle.settled_types.proofs.OrderLaws.Numbers.{numbers, formals_same}
use Rattle.settled_types.proofs.OrderLaws.Parts.{IsPart, part_whole, part_none, part_both, part_left, part_numbers_once}

-- ---- lists

once_apart : (xs ys : List ℕ) (x : ℕ) → Once (xs ++ ys) → Has xs x → Has ys x → ⊥
once_apart [] ys x once has other = absurd has
once_apart (y ∷ xs) ys x once (inl same) other = once.0 (subst (Has (xs ++ ys)) (sym same) (Has-append_right xs ys x other))
once_apart (y ∷ xs) ys x once (inr has) other = once_apart xs ys x once.1 has other

once_after : (xs ys : List ℕ) → Once (xs ++ ys) → Once ys
once_after [] ys once = once
once_after (x ∷ xs) ys once = once_after xs ys once.1

once_before : (xs ys : List ℕ) → Once (xs ++ ys) → Once xs
once_before [] ys once = tt
once_before (x ∷ xs) ys once = ((λ has. once.0 (Has-append_left xs ys x has)), once_before xs ys once.1)

abbrev formals_in : List TypedSub → List ℕ
formals_in subs = flat_map (λ (z : TypedSub). z.formals) subs

formals_there : (subs : List TypedSub) (sub : TypedSub) (x : ℕ) → Has subs sub → Has sub.formals x → Has (formals_in subs) x
formals_there [] sub x among has = absurd among
formals_there (z ∷ subs) sub x (inl same) has = Has-append_left z.formals (formals_in subs) x (subst (λ (k : TypedSub). Has k.formals x) (sym same) has)
formals_there (z ∷ subs) sub x (inr among) has = Has-append_right z.formals (formals_in subs) x (formals_there subs sub x among has)

-- a formal of two of them
one_sub : (subs : List TypedSub) (a b : TypedSub) (x : ℕ) → Once (formals_in subs) → Has subs a → Has subs b → Has a.formals x → Has b.formals x → a ≡ b
one_sub [] a b x once here there has other = absurd here
one_sub (z ∷ subs) a b x once (inl same) (inl alike) has other = sym same ∙ alike
one_sub (z ∷ subs) a b x once (inl same) (inr there) has other =
    absurd (once_apart z.formals (formals_in subs) x once (subst (λ (k : TypedSub). Has k.formals x) (sym same) has) (formals_there subs b x there other))
one_sub (z ∷ subs) a b x once (inr here) (inl alike) has other =
    absurd (once_apart z.formals (formals_in subs) x once (subst (λ (k : TypedSub). Has k.formals x) (sym alike) other) (formals_there subs a x here has))
one_sub (z ∷ subs) a b x once (inr here) (inr there) has other = one_sub subs a b x (once_after z.formals (formals_in subs) once) here there has other

once_of : (subs : List TypedSub) (sub : TypedSub) → Has subs sub → Once (formals_in subs) → Once sub.formals
once_of [] sub has once = absurd has
once_of (z ∷ subs) sub (inl same) once = subst (λ (k : TypedSub). Once k.formals) same (once_before z.formals (formals_in subs) once)
once_of (z ∷ subs) sub (inr has) once = once_of subs sub has (once_after z.formals (formals_in subs) once)

formals_both : (xs ys : List TypedSub) → formals_in (xs ++ ys) ≡ formals_in xs ++ formals_in ys
formals_both [] ys = refl
formals_both (x ∷ xs) ys = ap (λ ns. x.formals ++ ns) (formals_both xs ys) ∙ sym (append_assoc x.formals (formals_in xs) (formals_in ys))

nothing_after : (xs : List ℕ) → xs ++ [] ≡ xs
nothing_after [] = refl
nothing_after (x ∷ xs) = ap (λ ys. x ∷ ys) (nothing_after xs)

-- ---- the formals of bodies are a part of the objects

abbrev ArePart : Site → List TypedSub → List DeclaredObject → Type 0
ArePart s subs all = (os : List DeclaredObject) × (formals_in subs ≡ numbers s os) × IsPart os all

numbers_both : (s : Site) (os us : List DeclaredObject) → numbers s (os ++ us) ≡ numbers s os ++ numbers s us
numbers_both s [] us = refl
numbers_both s (o ∷ os) us = ap (λ xs. object_number s o.number ∷ xs) (numbers_both s os us)

both_part : (s : Site) (xs ys : List TypedSub) (all more : List DeclaredObject) → ArePart s xs all → ArePart s ys more → ArePart s (xs ++ ys) (all ++ more)
both_part s xs ys all more h g = (
  h.0 ++ g.0,
  formals_both xs ys ∙ ap (λ ns. ns ++ formals_in ys) h.1 ∙ ap (λ ns. numbers s h.0 ++ ns) g.1 ∙ sym (numbers_both s h.0 g.0),
  part_both h.0 all g.0 more h.2 g.2,
)

code_part : (units : List Code) (h : Home) (a n : ℕ) (s : Site) (u : Code) → ArePart s (subs_in s n u) (objects_in units h a n u)
unfolding subs_in objects_in
code_part units h a n s (SubBody front items stmts end) =
    let formals : List DeclaredObject = flat_map (formals_of (local h) n) (front_formals front) in
    let inner : List DeclaredObject = objects_in units (local h) n (n + 1) items in
    let later : List DeclaredObject = objects_in units (local h) n (n + 1 + scope_count items) stmts in (
      formals,
      nothing_after _ ∙ formals_same s units (local h) n (front_formals front),
      part_left formals (formals ++ inner) later (part_left formals formals inner (part_whole formals)),
    )
code_part units h a n s (PackageBody d parts) =
    code_part units (in_package (package_text units (declared_number d)) h) a n (placed (in_hidden (declared_number d)) s) parts
code_part units h a n s (More b rest) =
    both_part s (subs_in s n b) (subs_in s (n + scope_count b) rest) (objects_in units h a n b) (objects_in units h a (n + scope_count b) rest)
    (code_part units h a n s b) (code_part units h a (n + scope_count b) s rest)
code_part units h a n s u = ([], refl, part_none (objects_in units h a n u))

units_part : (all : List Code) (h : Home) (a n : ℕ) (s : Site) (units : List Code)
    → ArePart s (over_units (subs_in s) n units) (over_units (objects_in all h a) n units)
units_part all h a n s [] = ([], refl, refl)
units_part all h a n s (u ∷ rest) =
    both_part s (subs_in s n u) (over_units (subs_in s) (n + scope_count u) rest) (objects_in all h a n u) (over_units (objects_in all h a) (n + scope_count u) rest)
    (code_part all h a n s u) (units_part all h a (n + scope_count u) s rest)

-- ---- tests

pub any_from : {A : Type 0} (test : A → Bool) (xs : List A) → list_any test xs ≡ true → (x : A) × Has xs x × (test x ≡ true)
any_from test [] is = (let no : false ≡ true = is in absurd (false≢true no))
any_from {A = A} test (y ∷ xs) is = by (test y) refl is (λ h. any_from test xs h)
  where
    by : (b : Bool) → test y ≡ b → b || list_any test xs ≡ true → (list_any test xs ≡ true → (x : A) × Has xs x × (test x ≡ true)) → (x : A) × Has (y ∷ xs) x × (test x ≡ true)
    by true e h later = (y, inl refl, e)
    by false e h later = (let found = later h in (found.0, inr found.1, found.2))

and_first : (a b : Bool) → a && b ≡ true → a ≡ true
and_first true b e = refl
and_first false b e = e

and_second : (a b : Bool) → a && b ≡ true → b ≡ true
and_second true b e = e
and_second false b e = absurd (false≢true e)

none_of : (a b : Bool) → (b ≡ true → ⊥) → a && b ≡ false
none_of true true none = absurd (none refl)
none_of true false none = refl
none_of false b none = refl

listed : (xs : List ℕ) (x : ℕ) → list_any (λ y. y == x) xs ≡ true → Has xs x
listed xs x is = (let found = any_from (λ y. y == x) xs is in subst (Has xs) (eqb-true found.0 x found.2) found.1)

no_result : (r : Option ℕ) (t : ℕ) → not (is_some r) ≡ true → r ≡ Some t → ⊥
no_result None t none is = cc
no_result (Some u) t none is = false≢true none

-- ---- the program

module _ (p : Program) (once : Once (map (λ (o : DeclaredObject). o.number) (program_objects (known_of p) p.units))) where
  abbrev table : Table
  table = (known_of p).table

  abbrev flow : FlowProgram
  flow = flow_program table (typed_of p)

  abbrev wide : Typing
  wide = flow_typing flow

  abbrev own : Typing
  own = typing_in p

  alike : Agree wide own
  alike = flow_agrees table (typed_of p)

  formals_once : Once (formals_in (bodies_of p))
  formals_once =
      let part = units_part p.units (record { known = known_of p; identifier = None }) 0 1 (site_of (known_of p) p.units) p.units in
      subst Once (sym part.1) (part_numbers_once (site_of (known_of p) p.units) (program_objects (known_of p) p.units) refl once part.0 part.2)

  -- of two signatures that have it, both are of one body
  body_with : (g : Signature) (x : ℕ) → Has wide.subs g → Has g.formals x → (sub : TypedSub) × Has (bodies_of p) sub × (g ≡ signature sub)
  unfolding typed_program
  body_with g x there has =
      let found = Has-map_from signature (typed_of p).subs g (subst (λ gs. Has gs g) alike.subs there) in
      elim found.1 [
        | inl first ↦ absurd (subst (λ (z : TypedSub). Has z.formals x) (sym first) (subst (λ (z : Signature). Has z.formals x) (sym found.2) has))
        | inr body ↦ (found.0, body, sym found.2)
      ]

  one_signature : (a b : Signature) (x : ℕ) → Has wide.subs a → Has wide.subs b → Has a.formals x → Has b.formals x → a ≡ b
  one_signature a b x here there has other =
      let left = body_with a x here has in
      let right = body_with b x there other in
      left.2
      ∙ ap signature (one_sub (bodies_of p) left.0 right.0 x formals_once left.1 right.1 (subst (λ (z : Signature). Has z.formals x) left.2 has)
      (subst (λ (z : Signature). Has z.formals x) right.2 other))
      ∙ sym right.2

  abbrev no_formals : Signature
  no_formals = record { formals = []; result = None }

  got : (gs : List Signature) (n : ℕ) → (get_or gs n no_formals ≡ no_formals) ⊎ Has gs (get_or gs n no_formals)
  got [] n = inl refl
  got (g ∷ gs) zero = inr (inl refl)
  got (g ∷ gs) (suc n) = elim (got gs n) [ inl none ↦ inl none | inr found ↦ inr (inr found) ]

  -- Nothing is changed through a formal of a function.
  pub functions_see : (n t x : ℕ) → (sub_at wide n).result ≡ Some t → Has (sub_at wide n).formals x → is_exclusive wide x ≡ false
  functions_see n t x is has =
      none_of (is_named_access (view_of wide x)) (list_any (is_of_procedure x) wide.subs)
      (λ any. (let found = any_from (is_of_procedure x) wide.subs any in
      let none = and_first (not (is_some (found.0).result)) (list_any (λ y. y == x) (found.0).formals) found.2 in
      let listed_there = listed (found.0).formals x (and_second (not (is_some (found.0).result)) (list_any (λ y. y == x) (found.0).formals) found.2) in
      no_result (found.0).result t none (ap (λ (z : Signature). z.result) (sym (same found.0 found.1 listed_there)) ∙ is)))
    where
      mine : Has wide.subs (sub_at wide n)
      mine = elim (got wide.subs n) [
        | inl none ↦ absurd (subst (λ (z : Signature). Has z.formals x) none has)
        | inr there ↦ there
      ]

      same : (g : Signature) → Has wide.subs g → Has g.formals x → sub_at wide n ≡ g
      same g there other = one_signature (sub_at wide n) g x mine there has other

  -- The formals of a subprogram differ.
  pub formals_differ : (n : ℕ) → Once (sub_at wide n).formals
  unfolding typed_program
  formals_differ n = elim (got wide.subs n) [
    | inl none ↦ subst (λ (g : Signature). Once g.formals) (sym none) tt
    | inr there ↦ (
        let found = Has-map_from signature (typed_of p).subs (sub_at wide n) (subst (λ gs. Has gs (sub_at wide n)) alike.subs there) in
        subst (λ (g : Signature). Once g.formals) found.2 (by found.0 found.1))
  ]
    where
      by : (sub : TypedSub) → Has (typed_of p).subs sub → Once sub.formals
      by sub (inl first) = subst (λ (z : TypedSub). Once z.formals) first tt
      by sub (inr body) = once_of (bodies_of p) sub body formals_once
