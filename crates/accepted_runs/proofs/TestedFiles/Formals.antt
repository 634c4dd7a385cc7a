-- The formals of each subprogram ascend: objects have the numbers of their places in the text.
use Rattle.std.proofs.Common.{◌≡◌, refl, sym, ap, ◌∙◌, subst, inl, inr, ℕ, suc, ◌+◌, ◌≤◌, Bool, true, false, nat_eq, nat_le, List, [], ◌∷◌, ◌++◌, map, arith, None}
use Rattle.std.specs.List.{position_or_len}
use Rattle.std.proofs.lemmas.Bool.{and_from, and_parts}
use Rattle.machine.specs.spark_base.Lists.{Has}
use Rattle.soundness.proofs.Lists.{Has-map}
use Rattle.machine.specs.resolved_tree.Trees.{Code}
use Rattle.machine.specs.type_definitions.declared.table.Known.{Known}
use Rattle.machine.specs.typed_tree.Expressions.{Site, object_number}
use Rattle.machine.specs.typed_tree.Programs.{TypedSub, DeclaredObject, program_objects, site_of, subs_in, over_units, typed_program}
use Rattle.machine.specs.flow_paths.Laid.{declared_within}
use Rattle.settled_types.specs.OrderLaws.ScopeLaws.Code.{Once}
use Rattle.settled_types.specs.OrderLaws.Written.{is_unit}
use Rattle.settled_types.proofs.OrderLaws.Numbers.{numbers}
use Rattle.settled_types.proofs.OrderLaws.Parts.{number_of, number_here, number_later, IsPart}
use Rattle.settled_types.proofs.OrderLaws.Units.{IsBodyOf, units_of, body_objects}
use Rattle.run_ready.specs.Tests.{ascend}

ascend_left : (low : ℕ) (xs ys : List ℕ) → ascend low (xs ++ ys) ≡ true → ascend low xs ≡ true
ascend_left low [] ys up = refl
ascend_left low (x ∷ xs) ys up =
    let parts = and_parts (nat_le low x) (ascend (suc x) (xs ++ ys)) up in
    and_from (nat_le low x) (ascend (suc x) xs) parts.0 (ascend_left (suc x) xs ys parts.1)

same_map : {A : Type 0} (f g : A → ℕ) (xs : List A) → ((x : A) → Has xs x → f x ≡ g x) → map f xs ≡ map g xs
same_map f g [] same = refl
same_map f g (x ∷ xs) same =
    ap (λ n. n ∷ map f xs) (same x (inl refl)) ∙ ap (λ ns. g x ∷ ns) (same_map f g xs (λ y has. same y (inr has)))

-- ---- places in a list of objects

-- the place of an object, where the first one has the number n
abbrev place : ℕ → List DeclaredObject → DeclaredObject → ℕ
place n all u = n + position_or_len (nat_eq u.number) (map number_of all)

place_first : (n : ℕ) (o : DeclaredObject) (all : List DeclaredObject) → place n (o ∷ all) o ≡ n
place_first n o all = (let is = number_here o.number o.number (map number_of all) (itself o.number) in omega (arith, is))
  where
    itself : (d : ℕ) → nat_eq d d ≡ true
    itself d = grind arith

place_later : (n : ℕ) (o : DeclaredObject) (all : List DeclaredObject) → (Has (map number_of all) o.number → ⊥) → (u : DeclaredObject) → Has all u
    → place n (o ∷ all) u ≡ place (suc n) all u
place_later n o all apart u has = (let is = number_later u.number o.number (map number_of all) (other (nat_eq u.number o.number) refl) in omega (arith, is))
  where
    same : (d e : ℕ) → nat_eq d e ≡ true → d ≡ e
    same d e is = grind (arith, is)

    other : (b : Bool) → nat_eq u.number o.number ≡ b → nat_eq u.number o.number ≡ false
    other false is = is
    other true is = absurd (apart (subst (Has (map number_of all)) (same u.number o.number is) (Has-map number_of all u has)))

part_of : (some all : List DeclaredObject) → IsPart some all → (u : DeclaredObject) → Has some u → Has all u
part_of some [] part u has = subst (λ xs. Has xs u) part has
part_of some (o ∷ all) (inl h) u has = elim (subst (λ xs. Has xs u) h.1 has) [ inl now ↦ inl now | inr later ↦ inr (part_of h.0 all h.2 u later) ]
part_of some (o ∷ all) (inr h) u has = inr (part_of some all h u has)

-- The places of the objects of a part ascend.
places_ascend : (all some : List DeclaredObject) (n low : ℕ) → low ≤ n → IsPart some all → Once (map number_of all) → ascend low (map (place n all) some) ≡ true
places_ascend [] some n low le part once = subst (λ xs. ascend low (map (place n []) xs) ≡ true) (sym part) refl
places_ascend (o ∷ all) some n low le (inr part) once =
    subst (λ xs. ascend low xs ≡ true)
    (sym (same_map (place n (o ∷ all)) (place (suc n) all) some (λ u has. place_later n o all once.0 u (part_of some all part u has))))
    (places_ascend all some (suc n) low (omega (arith, le)) part once.1)
places_ascend (o ∷ all) some n low le (inl h) once =
    subst (λ xs. ascend low (map (place n (o ∷ all)) xs) ≡ true) (sym h.1)
    (subst (λ x. ascend low (x ∷ map (place n (o ∷ all)) h.0) ≡ true) (sym (place_first n o all))
    (subst (λ xs. ascend low (n ∷ xs) ≡ true)
    (sym (same_map (place n (o ∷ all)) (place (suc n) all) h.0 (λ u has. place_later n o all once.0 u (part_of h.0 all h.2 u has))))
    (and_from (nat_le low n) (ascend (suc n) (map (place (suc n) all) h.0)) (few low n le)
    (places_ascend all h.0 (suc n) (suc n) (omega arith) h.2 once.1))))
  where
    few : (a b : ℕ) → a ≤ b → nat_le a b ≡ true
    few a b le = grind (arith, le)

numbers_ascend : (s : Site) (all some : List DeclaredObject) → s.objects ≡ map number_of all → Once (map number_of all) → IsPart some all
    → ascend 0 (numbers s some) ≡ true
numbers_ascend s all some is once part =
    subst (λ xs. ascend 0 xs ≡ true) (same_map (place 1 all) (λ (u : DeclaredObject). object_number s u.number) some (λ u has. same u))
    (places_ascend all some 1 0 (omega arith) part once)
  where
    one_on : (k : ℕ) → 1 + k ≡ k + 1
    one_on k = omega arith

    same : (u : DeclaredObject) → place 1 all u ≡ object_number s u.number
    same u = one_on (position_or_len (nat_eq u.number) (map number_of all)) ∙ ap (λ xs. position_or_len (nat_eq u.number) xs + 1) (sym is)

-- ---- programs

module _ (known : Known) (units : List Code) (written : (u : Code) → Has units u → is_unit u ≡ true) (once : Once (map number_of (program_objects known units))) where
  abbrev site : Site
  site = site_of known units

  abbrev all : List DeclaredObject
  all = program_objects known units

  body_ascends : (sub : TypedSub) → Has (over_units (subs_in site) 1 units) sub → ascend 0 sub.formals ≡ true
  body_ascends sub has =
      let body : IsBodyOf units site all sub = units_of units site (record { known = known; identifier = None }) 1 1 units written sub has in
      let os = body_objects units site all sub body in
      ascend_left 0 sub.formals (declared_within sub.body)
      (subst (λ xs. ascend 0 xs ≡ true) (sym os.1) (numbers_ascend site all os.0 refl once os.2))

  -- what declares the package objects has no formals
  pub formals_ascend : (sub : TypedSub) → Has (typed_program known units).subs sub → ascend 0 sub.formals ≡ true
  unfolding typed_program
  formals_ascend sub (inl first) = subst (λ (s : TypedSub). ascend 0 s.formals ≡ true) first refl
  formals_ascend sub (inr later) = body_ascends sub later
