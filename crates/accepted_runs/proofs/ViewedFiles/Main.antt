-- Borrowers and observers of a program are in order, where typing finds no fault and no formal is of an anonymous
-- access type.
use Rattle.std.proofs.Common.{◌≡◌, refl, sym, ap, ◌∙◌, subst, ◌⊎◌, inl, inr, ℕ, zero, suc, ◌+◌, ◌≤◌, ◌<◌, Bool, true, false, not, ◌&&◌, ◌||◌, ◌==◌, nat_eq, List, [], ◌∷◌, ◌++◌, map, length, get_or, arith, None, is_some}
use Rattle.std.proofs.lemmas.Bool.{false≢true, true≢false}
use Rattle.std.specs.Prelude.{reverse, flat_map}
use Rattle.std.specs.List.{AllByRecursion, position_or_len}
use Rattle.machine.specs.spark_base.Lists.{Has}
use Rattle.machine.specs.place_names.declared.act.Mode.{Mode}
use Rattle.machine.specs.place_names.declared.act.Mode.TheVariants as mode
use Rattle.machine.specs.resolved_tree.Trees.{Code, Formals, Program, code_items}
use Rattle.machine.specs.type_definitions.declared.table.Known.{Known}
use Rattle.machine.specs.type_definitions.Types.{Table, full}
use Rattle.machine.specs.type_definitions.Entries.{integer}
use Rattle.machine.specs.type_definitions.Gathered.{in_subprogram}
use Rattle.machine.specs.type_definitions.Declarations.{code_faults}
use Rattle.machine.specs.type_definitions.Whole.{outside, known_of}
use Rattle.machine.specs.typed_tree.declared.object.Object.{Object}
use Rattle.machine.specs.typed_tree.declared.object.ObjectKind.{ObjectKind}
use Rattle.machine.specs.typed_tree.declared.object.ObjectKind.TheVariants as object_kind
use Rattle.machine.specs.typed_tree.Trees.{TypedCode, typed_code_list}
use Rattle.machine.specs.typed_tree.Trees as typed
use Rattle.machine.specs.typed_tree.Expressions.{Site}
use Rattle.machine.specs.typed_tree.Statements.{scope_count, typed_body}
use Rattle.machine.specs.typed_tree.Programs.{TypedSub, DeclaredObject, Home, object_of, objects_in, scopes_in, formals_of, front_formals, local, placed, elaboration, elaborated, over_units, program_objects, site_of, text_io, typed_program}
use Rattle.machine.specs.Owners.{is_in, is_in_formal}
use Rattle.machine.specs.flow_paths.Objects.{Typing, object_at, is_variable, is_formal_kind, is_formal, is_observer, is_observing, is_anonymous, is_package_object, is_state, view_of}
use Rattle.machine.specs.flow_paths.Laid.{declared_within}
use Rattle.machine.specs.flow_paths.Layout.{declared}
use Rattle.machine.specs.flow_paths.Scopes.{is_within}
use Rattle.machine.specs.flow_paths.Views.{encloses, scope_of}
use Rattle.settled_types.specs.OrderLaws.ScopeLaws.Code.{Once, roots, are_seen, is_seen, body_seen}
use Rattle.settled_types.proofs.OrderLaws.ScopeLaws.Lists.{and_first, and_second, both_true, all_both, all_has, has_reverse, within_has}
use Rattle.soundness.specs.TypedLaws.Fine.{Laws}
use Rattle.soundness.specs.TypedLaws.TypedPoints.Meant.{AreMeantUnits}
use Rattle.settled_types.specs.OrderLaws.ScopeLaws.LayeredScopes.Layered.{is_older, are_of_scope, are_apart, is_layered, is_body_layered}
use Rattle.settled_types.specs.OrderLaws.Orderly.{typed_of, typing_in, bodies_of}
use Rattle.settled_types.specs.OrderLaws.Written.{is_unit}
use Rattle.settled_types.proofs.OrderLaws.Bodies.{IsDeclare}
use Rattle.settled_types.proofs.OrderLaws.First.{units_declare}
use Rattle.settled_types.proofs.OrderLaws.Numbers.{numbers, body_same, formals_same}
use Rattle.sound_files.specs.MeantFiles.Denoted.{AreDenoted}
use Rattle.sound_files.specs.MeantFiles.Typed.{AreTyped}
use Rattle.sound_files.specs.SeenFiles.Fits.{AllFit}
use Rattle.accepted_runs.specs.ViewedFiles.ViewLaws.InOrder.{no_views, names_no_view, fits, AreViewsInOrder}
use Rattle.accepted_runs.proofs.ViewedFiles.ViewLaws.Enclosing.{itself}
use Rattle.accepted_runs.proofs.ViewedFiles.ViewLaws.Inner.{scopes_inner}
use Rattle.accepted_runs.specs.ViewedFiles.Places.{AreAt, AreAround}
use Rattle.accepted_runs.specs.ViewedFiles.Laid.{IsLaidBody}
use Rattle.accepted_runs.specs.ViewedFiles.Sources.{has_source, all_fit}
use Rattle.accepted_runs.proofs.ViewedFiles.Joined.{nothing_asked, joined}
use Rattle.accepted_runs.proofs.ViewedFiles.Layers.{at_left, at_right, body_goes}
use Rattle.accepted_runs.proofs.ViewedFiles.Placed.{all_at, all_around}
use Rattle.accepted_runs.proofs.ViewedFiles.Bodies.{IsKnown, units_laid}
use Rattle.accepted_runs.proofs.ViewedFiles.Sources as source
use Rattle.accepted_runs.proofs.ViewedFiles.Sources.{IsLocalView, DeclaresPlain, counts_plain}
use Rattle.accepted_runs.proofs.ViewedFiles.Units.{units_went}
use Rattle.accepted_runs.proofs.ViewedFiles.Roots.{roots_formal}
use Rattle.soundness.proofs.Parted.{by_either}

-- ---- lists of objects

at_site : (s z : Site) (own : Typing) (k : ℕ) (os : List DeclaredObject) → z.objects ≡ s.objects → AreAt s own k os → AreAt z own k os
at_site s z own k [] same at = tt
at_site s z own k (o ∷ os) same at = (ap (λ xs. position_or_len (nat_eq o.number) xs + 1) same ∙ at.0, at.1, at_site s z own (suc k) os same at.2)

high : (s : Site) (own : Typing) (k : ℕ) (os : List DeclaredObject) → AreAt s own k os → (x : ℕ) → Has (numbers s os) x → k ≤ x
high s own k [] at x has = absurd has
high s own k (o ∷ os) at x (inl same) = (let is = at.0 in omega (arith, is, same))
high s own k (o ∷ os) at x (inr has) = (let more = high s own (suc k) os at.2 x has in omega (arith, more))

-- The formals of a body have the numbers before its objects, and its scope.
formals_below : (s : Site) (own : Typing) (k n : ℕ) (os : List DeclaredObject) → AreAt s own k os → AllByRecursion (λ (o : DeclaredObject). o.object.scope ≡ n) os
    → (x : ℕ) → Has (numbers s os) x → (x < k + length os) × (scope_of own x ≡ n)
formals_below s own k n [] at all x has = absurd has
formals_below s own k n (o ∷ os) at all x (inl same) =
    (let is = at.0 in omega (arith, is, same), ap (λ m. (object_at own m).scope) (sym same ∙ at.0) ∙ ap (λ z. z.scope) at.1 ∙ all.0)
formals_below s own k n (o ∷ os) at all x (inr has) =
    (let more = formals_below s own (suc k) n os at.2 all.1 x has in (let less = more.0 in omega (arith, less), more.1))

each_scope : (h : Home) (n : ℕ) (m : Mode) (ids : List Code) → AllByRecursion (λ (o : DeclaredObject). o.object.scope ≡ n) (map (object_of h n m) ids)
each_scope h n m [] = tt
each_scope h n m (d ∷ ids) = (refl, each_scope h n m ids)

group_scope : (h : Home) (n : ℕ) (g : Code) → AllByRecursion (λ (o : DeclaredObject). o.object.scope ≡ n) (formals_of h n g)
group_scope h n (Formals ids m of) = each_scope h n m (code_items ids)
group_scope h n g = tt

formals_scope : (h : Home) (n : ℕ) (groups : List Code) → AllByRecursion (λ (o : DeclaredObject). o.object.scope ≡ n) (flat_map (formals_of h n) groups)
formals_scope h n [] = tt
formals_scope h n (g ∷ groups) =
    all_both (λ (o : DeclaredObject). o.object.scope ≡ n) (formals_of h n g) (flat_map (formals_of h n) groups) (group_scope h n g) (formals_scope h n groups)

by_formals_apart : (k : ObjectKind) (a b : Bool) → is_formal_kind k ≡ true → not ((is_variable k && a) && b) ≡ true
by_formals_apart object_kind.Formal a b e = refl
by_formals_apart k a b e = absurd (false≢true e)

-- No formal is an observer.
formals_apart : (own : Typing) (n : ℕ) (xs : List ℕ) → ((x : ℕ) → Has xs x → is_formal own x ≡ true) → are_apart own n xs ≡ true
formals_apart own n [] formal = refl
formals_apart own n (x ∷ xs) formal =
    both_true (not (is_observer own x && (scope_of own x == n))) (are_apart own n xs) (by_formals_apart (object_at own x).kind (is_observing (view_of own x)) (scope_of own x == n) (formal x (inl refl)))
    (formals_apart own n xs (λ z has. formal z (inr has)))

true_false : (b : Bool) → b ≡ true → b ≡ false → ⊥
true_false true e f = absurd (true≢false f)
true_false false e f = absurd (false≢true e)

-- ---- the package objects

either : (a b : Bool) → a || b ≡ true → (a ≡ true) ⊎ (b ≡ true)
either true b e = inl refl
either false b e = inr e

not_anonymous : (b : Bool) → b ≡ false → not b ≡ true
not_anonymous true e = sym e
not_anonymous false e = refl

module _ (own : Typing) (outer : ℕ → Bool) (shared : (x : ℕ) → outer x ≡ true → is_anonymous (view_of own x) ≡ false) where
  abbrev ArePlain : List ℕ → Type 0
  ArePlain sc = (x : ℕ) → Has sc x → is_anonymous (view_of own x) ≡ false

  values_plain : (sc xs : List ℕ) → ArePlain sc → are_seen outer sc xs ≡ true → no_views own xs ≡ true
  values_plain sc [] plain seen = refl
  values_plain sc (x ∷ xs) plain seen =
      both_true (not (is_anonymous (view_of own x))) (no_views own xs)
      (not_anonymous (is_anonymous (view_of own x)) (by (either (is_within x sc) (outer x) (and_first (is_within x sc || outer x) (are_seen outer sc xs) seen))))
      (values_plain sc xs plain (and_second (is_within x sc || outer x) (are_seen outer sc xs) seen))
    where
      by : (is_within x sc ≡ true) ⊎ (outer x ≡ true) → is_anonymous (view_of own x) ≡ false
      by (inl within) = plain x (within_has x sc within)
      by (inr out) = shared x out

  declarations_plain : (cs : List TypedCode) (sc : List ℕ) → AllByRecursion IsDeclare cs → AllByRecursion (DeclaresPlain own) cs → ArePlain sc
      → is_seen outer sc (typed_code_list cs) ≡ true → names_no_view own (typed_code_list cs) ≡ true
  unfolding names_no_view is_seen declared
  declarations_plain [] sc declare all plain seen = refl
  declarations_plain (typed.Declare p x v ∷ cs) sc declare all plain seen =
      both_true (not (is_anonymous (view_of own x)) && no_views own (roots v)) (names_no_view own (typed_code_list cs))
      (both_true (not (is_anonymous (view_of own x))) (no_views own (roots v)) (not_anonymous (is_anonymous (view_of own x)) all.0)
      (values_plain sc (roots v) plain (and_first (are_seen outer sc (roots v)) (is_seen outer (x ∷ sc) (typed_code_list cs)) seen)))
      (declarations_plain cs (x ∷ sc) declare.1 all.1 more (and_second (are_seen outer sc (roots v)) (is_seen outer (x ∷ sc) (typed_code_list cs)) seen))
    where
      more : ArePlain (x ∷ sc)
      more z (inl same) = ap (λ n. is_anonymous (view_of own n)) (sym same) ∙ all.0
      more z (inr has) = plain z has
  declarations_plain (_ ∷ cs) sc declare all plain seen = absurd (false≢true declare.0)

-- ---- which objects are views

abbrev IsLocalObject : Table → Object → Type 0
IsLocalObject table o =
    is_anonymous (full table o.of) ≡ true
    → ((is_formal_kind o.kind ≡ true) × (o.mode ≡ mode.In)) ⊎ ((is_variable o.kind ≡ true) × (is_some o.«package» && not (is_state o.kind) ≡ false))

by_never : (b : Bool) → b ≡ true → b ≡ false → ⊥
by_never true e f = absurd (true≢false f)
by_never false e f = absurd (false≢true e)

module _ (table : Table) (whole : is_anonymous (full table integer) ≡ false) where
  never : is_anonymous (full table integer) ≡ true → ⊥
  never view = by_never (is_anonymous (full table integer)) view whole

  objects_local : (os : List DeclaredObject) → AllByRecursion (IsLocalView table) os → (x : ℕ) → IsLocalObject table (get_or (map (λ (o : DeclaredObject). o.object) os) x text_io)
  objects_local [] all x view = absurd (never view)
  objects_local (o ∷ os) all zero view = elim (all.0 view) [
    | inl formal ↦ inl formal
    | inr here ↦ inr (here.0, ap (λ z. is_some z && not (is_state o.object.kind)) here.1)
  ]
  objects_local (o ∷ os) all (suc x) view = objects_local os all.1 x view

  pub all_local : (os : List DeclaredObject) → AllByRecursion (IsLocalView table) os → (x : ℕ) → IsLocalObject table (get_or (text_io ∷ map (λ (o : DeclaredObject). o.object) os) x text_io)
  all_local os all zero view = absurd (never view)
  all_local os all (suc x) view = objects_local os all x view

-- ---- programs

module _ (p : Program) (made : ℕ → Type 0) (laws : Laws (known_of p) made) (object : ℕ → Type 0) where
  abbrev known : Known
  known = known_of p

  abbrev table : Table
  table = known.table

  abbrev own : Typing
  own = typing_in p

  abbrev s : Site
  s = site_of known p.units

  abbrev all : List DeclaredObject
  all = program_objects known p.units

  abbrev scopes : List ℕ
  scopes = (typed_of p).scopes

  abbrev home : Home
  home = record { known = known; identifier = None }

  -- What is asked: marks denote types with names, and formals are of such types; the text is meant and without a fault;
  -- and what names denote is in scope.
  pub record IsGiven : Type 0 where
    pub marks : source.AreMarksPlain s own.objects own.subs made laws
    pub formals : (sub : TypedSub) → Has (bodies_of p) sub → (x : ℕ) → Has sub.formals x → is_formal own x ≡ true
    pub written : (u : Code) → Has p.units u → is_unit u ≡ true
    pub once : Once (map (λ (o : DeclaredObject). o.number) all)
    pub meant : AreMeantUnits known made p.units
    pub typed : (u : Code) → Has p.units u → AreTyped made (outside known) u
    pub none : (u : Code) → Has p.units u → code_faults (outside known) u ≡ []
    pub names : IsKnown s object
    pub fits : AllFit object [] p.units
    pub values : body_seen (is_package_object own) (elaboration s p.units) ≡ true
    pub declared : (sub : TypedSub) → Has (typed_of p).subs sub → (x : ℕ) → Has (declared_within sub.body) x → is_formal own x ≡ false
    pub apart : (x : ℕ) → is_formal own x ≡ true → is_package_object own x ≡ false

  module _ (given : IsGiven) where
    objects_are : own.objects ≡ text_io ∷ map (λ (o : DeclaredObject). o.object) all
    unfolding typed_program
    objects_are = refl

    scopes_are : 0 ∷ over_units (scopes_in 0) 1 p.units ≡ scopes
    unfolding typed_program
    scopes_are = refl

    inner : (b : ℕ) → get_or scopes b b ≤ b
    inner b = scopes_inner known p.units b

    at : AreAt s own 1 all
    at = all_at s own all refl objects_are given.once

    rooted : (u : Code) → Has p.units u → AreDenoted (source.IsRootFormal s own.objects own.subs made laws) u
    rooted = roots_formal s own p.units home object given.names at given.fits

    went : AllByRecursion (λ (sub : TypedSub). all_fit (has_source own) sub.body ≡ true) (bodies_of p) × AllByRecursion (IsLocalView table) all
        × AllByRecursion (DeclaresPlain own) (over_units (elaborated s) 1 p.units)
    went = units_went known p.units own.objects own.subs made laws given.marks home refl 1 1 p.units given.written rooted given.meant given.typed given.none

    pub local_views : (x : ℕ) → is_anonymous (view_of own x) ≡ true
        → ((is_variable (object_at own x).kind ≡ true) ⊎ (is_in_formal own x ≡ true)) × (is_package_object own x ≡ false)
    local_views x view = by_either (subst (λ os. IsLocalObject table (get_or os x text_io)) (sym objects_are) (all_local table (counts_plain _ laws.whole) all went.1 x) view)
        (λ (formal, of_in). (inr (ap (λ b. b && is_in (object_at own x).mode) formal ∙ ap is_in of_in), given.apart x formal))
        (λ here. (inl here.0, here.1))

    shared_plain : (x : ℕ) → is_package_object own x ≡ true → is_anonymous (view_of own x) ≡ false
    shared_plain x shared = by (is_anonymous (view_of own x)) refl
      where
        by : (b : Bool) → is_anonymous (view_of own x) ≡ b → is_anonymous (view_of own x) ≡ false
        by true view = absurd (by_never (is_package_object own x) shared (local_views x view).1)
        by false plain = plain

    pub package_values : names_no_view own (elaboration s p.units).body ≡ true
    package_values =
        declarations_plain own (is_package_object own) shared_plain (over_units (elaborated s) 1 p.units) [] (units_declare s 1 p.units given.written) went.2 (λ x has. absurd has) given.values

    laid : (sub : TypedSub) → Has (bodies_of p) sub → IsLaidBody p.units s own scopes sub
    laid sub has =
        units_laid p.units s own scopes object given.names home 1 1 p.units [] given.written
        at (all_around scopes (over_units (scopes_in 0) 1 p.units) scopes_are) (λ d none. absurd none) given.fits sub has

    body_layered : (sub : TypedSub) → Has (bodies_of p) sub → (n : ℕ) × (is_body_layered own (is_older own scopes) (fits own) n sub ≡ true)
    unfolding objects_in scopes_in
    body_layered sub has =
        let b = laid sub has in
        let n : ℕ = b.level in
        let z : Site = placed (in_subprogram b.front) b.site in
        let h : Home = local b.home in
        let fs : List DeclaredObject = flat_map (formals_of h n) (front_formals b.front) in
        let first : List DeclaredObject = objects_in p.units h n (n + 1) b.items in
        let second : List DeclaredObject = objects_in p.units h n (n + 1 + scope_count b.items) b.stmts in
        let k : ℕ = b.first + length fs in
        let body : TypedCode = typed_body z (n + 1) b.items b.stmts in
        let sc : List ℕ = reverse sub.formals in
        let grouped : AreAt s own b.first (fs ++ (first ++ second)) = regrouped s b.first fs first second b.objects in
        let here : AreAt z own k (first ++ second) = at_site s z own k (first ++ second) b.same (at_right s own b.first fs (first ++ second) grouped) in
        let before : AreAt z own b.first fs = at_site s z own b.first fs b.same (at_left s own b.first fs (first ++ second) grouped) in
        let around : AreAround scopes (n + 1) (scopes_in n (n + 1) b.items ++ scopes_in n (n + 1 + scope_count b.items) b.stmts)
        = next_around (suc n) (n + 1) (scopes_in n (n + 1) b.items ++ scopes_in n (n + 1 + scope_count b.items) b.stmts) (omega arith) b.inner.1 in
        let formals_are : sub.formals ≡ numbers z fs = sym (ap (λ (t : TypedSub). t.formals) b.is) ∙ formals_same z p.units h n (front_formals b.front) in
        let below : (y : ℕ) → Has sc y → (y < k) × (encloses scopes (scope_of own y) n ≡ true)
        = λ y there. (let one = formals_below z own b.first n fs before (formals_scope h n (front_formals b.front)) y (subst (λ xs. Has xs y) formals_are (has_reverse sub.formals y there))
        in (one.0, subst (λ m. encloses scopes m n ≡ true) (sym one.1) (itself scopes n))) in
        let goes = body_goes own scopes inner z p.units h k n sc b.items b.stmts b.declarations b.statements here around below in
        let body_is : body ≡ sub.body = ap (λ (t : TypedSub). t.body) b.is in
        let loose : is_layered own (is_older own scopes) nothing_asked sc sub.body ≡ true = subst (λ c. is_layered own (is_older own scopes) nothing_asked sc c ≡ true) body_is goes.1 in
        let up : (x : ℕ) → Has (declared_within sub.body) x → b.first ≤ x
        = λ x there. (let more = high z own k (first ++ second) here x (subst (λ xs. Has xs x) (ap declared_within (sym body_is) ∙ body_same z p.units h n (n + 1) (n + 1) b.items b.stmts b.declarations b.statements) there)
        in omega (arith, more)) in
        let whole = joined own scopes b.first sub.body sc loose b.seen (all_has (λ (t : TypedSub). all_fit (has_source own) t.body ≡ true) (bodies_of p) sub went.0 has) up in (
          n,
          both_true (are_of_scope own n (declared sub.body)) (are_apart own n sc && is_layered own (is_older own scopes) (fits own) sc sub.body)
              (subst (λ c. are_of_scope own n (declared c) ≡ true) body_is goes.0)
              (both_true (are_apart own n sc) (is_layered own (is_older own scopes) (fits own) sc sub.body)
              (formals_apart own n sc (λ x there. given.formals sub has x (has_reverse sub.formals x there))) whole),
        )
      where
        next_around : (m j : ℕ) (bs : List ℕ) → m ≡ j → AreAround scopes m bs → AreAround scopes j bs
        next_around m j bs e h = subst (λ i. AreAround scopes i bs) e h

        regrouped : (t : Site) (j : ℕ) (fs os us : List DeclaredObject) → AreAt t own j ((fs ++ os) ++ us) → AreAt t own j (fs ++ (os ++ us))
        regrouped t j [] os us h = h
        regrouped t j (f ∷ fs) os us h = (h.0, h.1, regrouped t (suc j) fs os us h.2)

    -- The views of the program are in order.
    pub views_in_order : AreViewsInOrder table (typed_of p) (elaboration s p.units) (bodies_of p)
    views_in_order = record { values = package_values; seen = given.values; declared = given.declared; apart = given.apart; inner = inner; layered = body_layered; local = local_views }
