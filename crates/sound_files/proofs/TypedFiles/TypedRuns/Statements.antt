-- Declarations of objects, and statements without statements in them but calls.
use Rattle.std.proofs.Common.{◌≡◌, refl, sym, ap, ◌∙◌, subst, inl, ℕ, Bool, true, false, not, ◌&&◌, ◌||◌, List, [], ◌++◌, map, Option, Some, None, if◌then◌else◌}
use Rattle.std.specs.Prelude.{is_none, is_some}
use Rattle.std.specs.List.{AllByRecursion}
use Rattle.std.proofs.lemmas.Bool.{false≢true}
use Rattle.machine.specs.spark_base.declared.position.Pos.{Pos}
use Rattle.machine.specs.resolved_tree.declared.node.Mark.{Mark}
use Rattle.machine.specs.resolved_tree.Trees.{Tree, Named, NoMore, More, position, Code, Plain, Anonymous, code_items}
use Rattle.machine.specs.type_definitions.declared.table.Entry.{Entry}
use Rattle.machine.specs.type_definitions.declared.table.Known.{Known}
use Rattle.machine.specs.type_definitions.declared.judgement.Reading.{Reading}
use Rattle.machine.specs.type_definitions.declared.judgement.Reading.TheVariants as reading
use Rattle.machine.specs.type_definitions.declared.judgement.Where.TheVariants as stands
use Rattle.machine.specs.type_definitions.Types.{Table, full, view_of, is_owning, is_scalar}
use Rattle.machine.specs.type_definitions.Entries.{entry_of, integer, boolean, marked, denotes_type, is_complete}
use Rattle.machine.specs.type_definitions.Faults.{demand, K2, K3}
use Rattle.machine.specs.type_definitions.Names.{Context, reading_of, is_end}
use Rattle.machine.specs.type_definitions.Expressions.{faults, inside, behind, way_of, reading_faults, given_names, call_arguments, is_variable, own_type, mark_faults, is_anonymous, profile_of, result_type, scalar_own}
use Rattle.machine.specs.type_definitions.Statements.{is_object_entry, return_source, returned, sub_profile, condition, target_faults, assign_faults, formal_source, source_faults, is_formal, target_reading}
use Rattle.machine.specs.type_definitions.Gathered.{indicated, is_anonymous_indication, declared_number}
use Rattle.machine.specs.type_definitions.Declarations.{indication_faults, is_single, first_pos, first_number, in_package, starting, has_one, initial_faults, objects_faults, object_faults, bound_faults, selector_faults}
use Rattle.machine.specs.typed_tree.Trees.{TypedTree, TypedCode}
use Rattle.machine.specs.typed_tree.Trees as typed
use Rattle.machine.specs.typed_tree.declared.object.Object.{Object}
use Rattle.machine.specs.typed_tree.Expressions.{Site, typed_expression, typed_optional}
use Rattle.machine.specs.typed_tree.Statements.{type_read, typed_object, returned_type}
use Rattle.machine.specs.flow_paths.Objects.{Typing, Signature}
use Rattle.machine.specs.flow_paths.Objects as flow
use Rattle.settled_types.proofs.Cases.{items_end, on_more}
use Rattle.soundness.specs.TypedLaws.Fine.{Has, Laws, IsMeant}
use Rattle.soundness.proofs.TypedLaws.Agreeing.{holds, and_left, nil_left, nil_right, is_free}
use Rattle.soundness.proofs.TypedLaws.Assigns as assigns
use Rattle.soundness.specs.TypedLaws.TypedPoints.Meant.{IsMeantOptional, AreDeclared, AreNumbers}
use Rattle.soundness.proofs.TypedLaws.TypedPoints.Flags.{flagged, at_flags, typed_same, meant_same, reading_same}
use Rattle.soundness.proofs.TypedLaws.TypedPoints.Values.{seen_full, scalar_at}
use Rattle.soundness.proofs.TypedLaws.TypedPoints.Statements.{result_given, marked_made}
use Rattle.soundness.specs.TypedLaws.TypedSteps.Steps.{FirstHas, FirstTaken, IsPlaceOf, Returned, Taken}
use Rattle.sound_files.specs.TypedFiles.TypedRuns.Code.{IsTypedCode, Within, WithinSource, FirstWithin, AssignedWithin, ReturnedWithin, IsViewSource}
use Rattle.sound_files.specs.TypedFiles.TypedRuns.Formals.{AreProfiled}
use Rattle.sound_files.proofs.TypedFiles.TypedRuns.Within.{view_plain, plain_within}
use Rattle.sound_files.proofs.TypedFiles.TypedRuns.Sources.{inner, had, plain_source, viewed_source, returned_source, returned_form, formal_given, target_inside}
use Rattle.sound_files.proofs.TypedFiles.TypedRuns.Actuals.{place}

-- A value, and what stands within it.
abbrev pub TakenWithin : Typing → ℕ → TypedTree → Type 0
TakenWithin y t v = FirstTaken y t v × FirstWithin y t v

-- One value.
one_value : (y : Typing) (t : ℕ) (e : TypedTree) → Taken y t e → WithinSource y t e → TakenWithin y t (typed.More e typed.NoMore)
unfolding Within
one_value y t e h g = ((refl, h), (g, tt))

module _ (s : Site) (objects : List Object) (subs : List Signature) (made : ℕ → Type 0) (laws : Laws s.context.known made)
    (profiled : AreProfiled s.context.known s.bodies (record { table = s.context.known.table; objects = objects; subs = subs }) made) where
  abbrev y : Typing
  y = record { table = s.context.known.table; objects = objects; subs = subs }

  abbrev known : Known
  known = s.context.known

  abbrev table : Table
  table = s.context.known.table

  mark_made : (m : Mark) → mark_faults known m ≡ [] → made (marked known m)
  mark_made m none = marked_made s objects subs made laws m
      (and_left (denotes_type known m.decl) _ (holds 1 m.pos (denotes_type known m.decl && is_complete known (marked known m) m.pos) (nil_left _ _ none)))

  -- ---- objects

  module _ (result : Option ℕ) where
    abbrev pub AreTyped : List TypedCode → Type 0
    AreTyped cs = AllByRecursion (IsTypedCode y result) cs

    each_typed : (ids i : Code) (v : TypedTree) (t : ℕ) → AreDeclared s y made i ids → ((d : ℕ) → indicated known d i ≡ t) → TakenWithin y t v
        → AreTyped (map (typed_object s v) (code_items ids))
    unfolding IsTypedCode
    each_typed = on_more (λ ids. (i : Code) → (v : TypedTree) → (t : ℕ) → AreDeclared s y made i ids → ((d : ℕ) → indicated known d i ≡ t) → TakenWithin y t v → AreTyped (map (typed_object s v) (code_items ids)))
        (λ d rest next i v t h is source.
        ((subst (λ x. FirstTaken y x v) (sym (h.0 ∙ is (declared_number d))) source.0, subst (λ x. FirstWithin y x v) (sym (h.0 ∙ is (declared_number d))) source.1), next i v t h.2 is source))
        (λ ids other i v t h is source. rw (items_end ids other) (tt))

    one_typed : (ids i : Code) (v : TypedTree) → is_single ids ≡ true → AreDeclared s y made i ids → TakenWithin y (indicated known (first_number ids) i) v
        → AreTyped (map (typed_object s v) (code_items ids))
    unfolding IsTypedCode
    one_typed (More d NoMore) i v single h source = ((subst (λ x. FirstTaken y x v) (sym h.0) source.0, subst (λ x. FirstWithin y x v) (sym h.0) source.1), tt)
    one_typed ids i v single h source = absurd (false≢true single)

    numbers_typed : (ids : Code) (v : TypedTree) → AreNumbers s y ids → TakenWithin y integer v → AreTyped (map (typed_object s v) (code_items ids))
    unfolding IsTypedCode
    numbers_typed = on_more (λ ids. (v : TypedTree) → AreNumbers s y ids → TakenWithin y integer v → AreTyped (map (typed_object s v) (code_items ids)))
        (λ d rest next v h source.
        ((subst (λ x. FirstTaken y x v) (sym h.0) source.0, subst (λ x. FirstWithin y x v) (sym h.0) source.1), next v h.1 source))
        (λ ids other v h source. rw (items_end ids other) (tt))

  module _ (looped starts : Bool) where
    abbrev c : Context
    c = flagged looped starts s.context

    abbrev z : Site
    z = at_flags looped starts s

    -- ---- declarations

    first_given : (v : Tree) (t : ℕ) → IsMeantOptional s y v → made t → initial_faults (starting c) false t v ≡ [] → TakenWithin y t (typed_optional s t v)
    unfolding Within
    first_given (More e rest) t meant m none =
        let found = plain_source s objects subs made laws profiled looped (in_package s.context) e t meant m none in
        one_value y t (typed_expression s t e) found.0 found.1
    first_given NoMore t meant m none = (tt, tt)
    first_given v t meant m none = absurd meant

    first_viewed : (v : Tree) (t : ℕ) → IsMeantOptional s y v → made t → is_anonymous (full table t) ≡ true → initial_faults (starting c) true t v ≡ []
        → TakenWithin y t (typed_optional s t v)
    unfolding Within
    first_viewed (More e rest) t meant m anonymous none =
        let found = viewed_source s objects subs made laws profiled looped (in_package s.context) e t meant m anonymous none in
        one_value y t (typed_expression s t e) found.0 found.1
    first_viewed NoMore t meant m anonymous none = (tt, tt)
    first_viewed v t meant m anonymous none = absurd meant

    single : (a b d : Bool) → not true || (a && (not b && d)) ≡ true → a ≡ true
    single true b d e = refl
    single false b d e = absurd (false≢true e)

    initial : (ids i : Code) (constant : Bool) (v : Tree) (t : ℕ) → objects_faults c ids constant i v t ≡ [] → initial_faults (starting c) (is_anonymous_indication i) t v ≡ []
    initial ids i constant v t none =
        nil_right (demand 5 (first_pos ids) (not (constant && is_owning known.table t))) _
        (nil_right (demand 6 (first_pos ids) (not (is_anonymous_indication i) || (is_single ids && (not (in_package c) && (not constant && has_one v))))) _
        (nil_right (indication_faults known i) _ none))

    pub objects_typed : (result : Option ℕ) (ids i : Code) (constant : Bool) (v : Tree) → AreDeclared s y made i ids → IsMeantOptional s y v → object_faults c ids constant i v ≡ []
        → AreTyped result (map (typed_object s (typed_optional s (indicated known (first_number ids) i) v)) (code_items ids))
    objects_typed result ids (Plain m) constant v h meant none =
        each_typed result ids (Plain m) (typed_optional s (marked known m) v) (marked known m) h (λ d. refl)
        (first_given v (marked known m) meant (mark_made m (nil_left (mark_faults known m) _ none)) (initial ids (Plain m) constant v (marked known m) none))
    objects_typed result ids (Anonymous p k m) constant v h meant none =
        let t = first_number ids in
        let one = single (is_single ids) (in_package c) (not constant && has_one v)
        (holds 6 (first_pos ids) (not true || (is_single ids && (not (in_package c) && (not constant && has_one v))))
        (nil_left _ _ (nil_right (indication_faults known (Anonymous p k m)) _ none))) in
        let own = type_of ids h one in
        one_typed result ids (Anonymous p k m) (typed_optional s t v) one h
        (first_viewed v t meant own.0 own.1 (initial ids (Anonymous p k m) constant v t none))
      where
        type_of : (ids : Code) → AreDeclared s y made (Anonymous p k m) ids → is_single ids ≡ true → made (first_number ids) × (is_anonymous (full table (first_number ids)) ≡ true)
        type_of (More d rest) h one = (h.1.0, ap (λ x. is_anonymous (view_of x)) h.1.2)
        type_of ids h one = absurd (false≢true one)
    objects_typed result ids i constant v h meant none =
        each_typed result ids i (typed_optional s integer v) integer h (λ d. refl) (first_given v integer meant laws.integers (initial ids i constant v integer none))

    pub named_numbers_typed : (result : Option ℕ) (ids : Code) (e : Tree) → AreNumbers s y ids → IsMeant s y e → bound_faults (starting c) integer e ≡ []
        → AreTyped result (map (typed_object s (typed.More (typed_expression s integer e) typed.NoMore)) (code_items ids))
    named_numbers_typed result ids e h meant none =
        let found = had s objects subs made laws profiled looped (in_package s.context) e stands.Elsewhere integer meant laws.integers (nil_left (faults (starting c) stands.Elsewhere integer e) _ none) in
        numbers_typed result ids (typed.More (typed_expression s integer e) typed.NoMore) h (one_value y integer (typed_expression s integer e) (inl found.0) (plain_within y integer (typed_expression s integer e) found.1))

    -- ---- conditions

    pub first_condition : (v : Tree) → IsMeantOptional s y v → condition c v ≡ [] → FirstHas y boolean (typed_optional s boolean v) × Within y (typed_optional s boolean v)
    unfolding Within
    first_condition (More e rest) meant none =
        let found = had s objects subs made laws profiled looped starts e stands.Elsewhere boolean meant laws.booleans none in ((refl, found.0), (found.1, tt))
    first_condition NoMore meant none = (tt, tt)
    first_condition v meant none = absurd meant

    pub selector_typed : (e : Tree) → IsMeant s y e → selector_faults c e ≡ []
        → ((t : ℕ) × (is_scalar (full table t) ≡ true) × Has y t (typed_expression s integer e)) × Within y (typed_expression s integer e)
    selector_typed e meant none =
        let own = holds 1 (position e) (scalar_own c (own_type c e)) (nil_left (demand 1 (position e) (scalar_own c (own_type c e))) _ none) in
        let into = nil_right (demand 1 (position e) (scalar_own c (own_type c e))) _ none in
        let found = scalar_at s objects subs made laws looped starts e integer meant own into in (
          (found.0, seen_full s objects subs made laws c found.0 refl found.3, found.4),
          inner s objects subs made laws profiled looped starts e integer meant laws.integers into,
        )

    -- ---- return

    value_returned : (p : Pos) (e : Tree) (r : Option ℕ) → IsMeant s y e → ((t : ℕ) → r ≡ Some t → made t)
        → (if is_none r then K3 (position e) ++ inside c true integer e
        else if is_some r && is_anonymous (full table (result_type r)) then return_source c (result_type r) e
        else faults c stands.Stored (result_type r) e) ≡ []
        → Returned y r (typed.More (typed_expression s (result_type r) e) typed.NoMore) × ReturnedWithin y r (typed.More (typed_expression s (result_type r) e) typed.NoMore)
    unfolding Within
    value_returned p e None meant types none = absurd (false≢true (ap is_free none))
    value_returned p e (Some t) meant types none =
        let found = by (is_anonymous (full table t)) refl none in ((typed_expression s t e, refl, found.0), ((found.1, tt), found.2))
      where
        by : (b : Bool) → is_anonymous (full table t) ≡ b → (if b then return_source c t e else faults c stands.Stored t e) ≡ []
            → Taken y t (typed_expression s t e) × WithinSource y t (typed_expression s t e) × (flow.is_anonymous (full table t) ≡ true → IsViewSource y (typed_expression s t e))
        by true is h =
            let found = returned_source s objects subs made laws profiled looped starts e t meant (types t refl) is h in
            (found.0, found.1, λ view. returned_form s objects subs made laws profiled looped starts e t meant h)
        by false is h =
            let found = plain_source s objects subs made laws profiled looped starts e t meant (types t refl) h in
            (found.0, found.1, λ view. absurd (false≢true (sym (view_plain (full table t) is) ∙ view)))

    none_returned : (p : Pos) (r : Option ℕ) → demand 3 p (is_none r) ≡ [] → Returned y r typed.NoMore × ReturnedWithin y r typed.NoMore
    unfolding Within
    none_returned p None none = (refl, tt)
    none_returned p (Some t) none = absurd (false≢true (ap is_free none))

    pub return_typed : (p : Pos) (v : Tree) (sub : Option ℕ) → IsMeantOptional s y v → returned c p (sub_profile known sub) v ≡ []
        → Returned y (result_given (sub_profile known sub)) (typed_optional s (returned_type s.context sub) v) × ReturnedWithin y (result_given (sub_profile known sub)) (typed_optional s (returned_type s.context sub) v)
    return_typed p v None meant none = absurd (false≢true (ap is_free none))
    return_typed p (More e rest) (Some f) meant none = value_returned p e (profile_of (entry_of known f)).result meant (λ t is. laws.result f t is) none
    return_typed p NoMore (Some f) meant none = none_returned p (profile_of (entry_of known f)).result none
    return_typed p v (Some f) meant none = absurd meant

    -- ---- assignments

    -- A target is read as a place.
    target_read : (p : Pos) (d : ℕ) (rest : Tree) → target_faults c (Named p d rest) ≡ [] → (t : ℕ) × (reading_of c d rest ≡ reading.Place t)
    unfolding inside
    target_read p d rest none = by (is_object_entry (entry_of s.context.known d)) (reading_of c d rest) refl none
      where
        by : (b : Bool) (r : Reading) → reading_of c d rest ≡ r
            → (if b then demand 2 p (is_variable (entry_of s.context.known d) r) ++ (reading_faults c p d false (given_names (call_arguments rest)) r ++ behind c (way_of s.context.known d (entry_of s.context.known d)) rest)
            else K2 p ++ behind c (way_of s.context.known d (entry_of s.context.known d)) rest) ≡ []
            → (t : ℕ) × (reading_of c d rest ≡ reading.Place t)
        by true (reading.Place t) is h = (t, is)
        by true r is h = absurd (false≢true (ap is_free h))
        by false r is h = absurd (false≢true (ap is_free h))

    source_assigned : (whole_target : Bool) (root : Entry) (e : Tree) (t : ℕ) → IsMeant s y e → made t
        → (if not (whole_target && is_anonymous (full table t)) then faults c stands.Stored t e else if is_formal root then formal_source c t e else source_faults c t e) ≡ []
        → Taken y t (typed_expression s t e) × WithinSource y t (typed_expression s t e)
    source_assigned true root e t meant m none = by (is_anonymous (full table t)) refl none
      where
        by : (b : Bool) → is_anonymous (full table t) ≡ b → (if not b then faults c stands.Stored t e else if is_formal root then formal_source c t e else source_faults c t e) ≡ []
            → Taken y t (typed_expression s t e) × WithinSource y t (typed_expression s t e)
        by false is h = plain_source s objects subs made laws profiled looped starts e t meant m h
        by true is h = under (is_formal root) h
          where
            under : (f : Bool) → (if f then formal_source c t e else source_faults c t e) ≡ [] → Taken y t (typed_expression s t e) × WithinSource y t (typed_expression s t e)
            under true g = formal_given s objects subs made laws profiled looped starts e t meant m is g
            under false g = viewed_source s objects subs made laws profiled looped starts e t meant m is g
    source_assigned false root e t meant m none = plain_source s objects subs made laws profiled looped starts e t meant m none

    assigned_at : (target : TypedTree) (t : ℕ) (e : TypedTree) → IsPlaceOf y t target → WithinSource y t e → AssignedWithin y target e
    assigned_at (typed.Name p x path u) t e there within = subst (λ k. WithinSource y k e) (sym there.1) within
    assigned_at target t e there within = absurd there

    abbrev pub IsAssigned : Tree → Tree → Type 0
    IsAssigned target e =
        ((t : ℕ) × IsPlaceOf y t (typed_expression s integer target) × Taken y t (typed_expression s (type_read (target_reading s.context target)) e))
        × AssignedWithin y (typed_expression s integer target) (typed_expression s (type_read (target_reading s.context target)) e) × Within y (typed_expression s integer target)

    pub assigned_typed : (target e : Tree) → IsMeant s y target → IsMeant s y e → target_faults c target ≡ [] → assign_faults c target e ≡ [] → IsAssigned target e
    assigned_typed (Named p d rest) e meant value none source =
        let read = target_read p d rest none in
        let t = read.0 in
        let here : reading_of s.context d rest ≡ reading.Place t = sym (reading_same looped starts s.context d rest) ∙ read.1 in
        let at = assigns.target_placed z objects subs made laws p d t rest (meant_same looped starts s y (Named p d rest) meant) none read.1 in
        let takes = source_assigned (is_end rest) (entry_of s.context.known d) e t value at.0 (rw read.1 at source) in
        let into = target_inside (is_object_entry (entry_of s.context.known d)) (demand 2 p (is_variable (entry_of s.context.known d) (reading_of c d rest)))
        (inside c false integer (Named p d rest)) (K2 p ++ behind c (way_of s.context.known d (entry_of s.context.known d)) rest) none (λ e f. false≢true (ap is_free f)) in
        let there = subst (λ x. IsPlaceOf y t x) (typed_same looped starts s integer (Named p d rest)) (place z objects subs made laws (typed_expression z integer (Named p d rest)) t at.1) in (
          (
            t,
            there,
            subst (λ r. Taken y t (typed_expression s (type_read r) e)) (sym here) takes.0,
          ),
          assigned_at (typed_expression s integer (Named p d rest)) t (typed_expression s (type_read (reading_of s.context d rest)) e) there
              (subst (λ r. WithinSource y t (typed_expression s (type_read r) e)) (sym here) takes.1),
          inner s objects subs made laws profiled looped starts (Named p d rest) integer meant laws.integers into,
        )
    assigned_typed target e meant value none source = absurd (false≢true (ap is_free none))
