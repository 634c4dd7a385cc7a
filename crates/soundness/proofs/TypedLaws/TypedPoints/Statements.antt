-- Declarations of objects, and statements without statements in them but calls.
use Rattle.std.proofs.Common.{◌≡◌, refl, sym, ap, ◌∙◌, subst, inl, inr, ℕ, Bool, true, false, not, ◌&&◌, ◌||◌, List, [], ◌++◌, map, Option, Some, None, if◌then◌else◌}
use Rattle.std.specs.Prelude.{is_none, is_some}
use Rattle.std.specs.List.{AllByRecursion}
use Rattle.std.proofs.lemmas.Bool.{false≢true}
use Rattle.machine.specs.spark_base.declared.position.Pos.{Pos}
use Rattle.machine.specs.resolved_tree.declared.node.Mark.{Mark}
use Rattle.machine.specs.resolved_tree.Trees.{Tree, Named, NoMore, More, position, Code, Plain, Anonymous, Bounds, Marked, Constrained, RangeOf, code_items}
use Rattle.machine.specs.type_definitions.declared.table.Known.{Known}
use Rattle.machine.specs.type_definitions.declared.table.Profile.{Profile}
use Rattle.machine.specs.type_definitions.declared.judgement.View.{View}
use Rattle.machine.specs.type_definitions.declared.judgement.View.TheVariants as view
use Rattle.machine.specs.type_definitions.declared.judgement.Where.TheVariants as stands
use Rattle.machine.specs.type_definitions.Types.{Table, full, shape_of, view_of, base, is_owning, is_scalar}
use Rattle.machine.specs.type_definitions.Entries.{entry_of, integer, marked, denotes_type, is_complete}
use Rattle.machine.specs.type_definitions.Faults.{demand, K3}
use Rattle.machine.specs.type_definitions.Names.{Context, seen, reading_of}
use Rattle.machine.specs.type_definitions.Expressions.{faults, inside, own_type, mark_faults, is_anonymous, profile_of, result_type, scalar_own}
use Rattle.machine.specs.type_definitions.Statements.{return_source, returned, sub_profile, range_faults, scalar_mark, type_or_integer}
use Rattle.machine.specs.type_definitions.Gathered.{indicated, is_anonymous_indication, parameter_type, declared_number}
use Rattle.machine.specs.type_definitions.Declarations.{indication_faults, is_single, first_pos, first_number, in_package, starting, has_one, initial_faults, objects_faults, object_faults, bound_faults, selector_faults}
use Rattle.machine.specs.typed_tree.Trees.{TypedTree, TypedCode}
use Rattle.machine.specs.typed_tree.Trees as typed
use Rattle.machine.specs.typed_tree.declared.object.Object.{Object}
use Rattle.machine.specs.typed_tree.Expressions.{Site, typed_expression, typed_optional}
use Rattle.machine.specs.typed_tree.Statements.{typed_object, returned_type, typed_range, range_of, bounds_seen, array_seen}
use Rattle.machine.specs.flow_paths.Objects.{Typing, Signature}
use Rattle.soundness.specs.TypedLaws.Fine.{Laws, IsMeant}
use Rattle.soundness.specs.TypedLaws.Needed.{Stays, FirstSource, Source, Returns}
use Rattle.soundness.proofs.TypedLaws.Agreeing.{holds, and_left, nil_left, nil_right, either_right, agree_lists, is_free}
use Rattle.soundness.proofs.TypedLaws.Readings.{seen_scalar}
use Rattle.soundness.proofs.TypedLaws.Cases.{mark_denotes, marked_is, shape_view}
use Rattle.soundness.specs.TypedLaws.TypedPoints.Code.{IsFineCode}
use Rattle.soundness.specs.TypedLaws.TypedPoints.Meant.{IsMeantOptional, AreDeclared, AreNumbers, IsMeantRange}
use Rattle.soundness.proofs.TypedLaws.TypedPoints.Flags.{flagged, own_same}
use Rattle.soundness.proofs.TypedLaws.TypedPoints.Values.{seen_full, numbers, has_at, given, scalar_at, scalar_stays, bound_stays, source_at}
use Rattle.soundness.proofs.TypedLaws.TypedPoints.Sources.{one_anonymous, source_viewed, return_viewed}

-- The result of the subprogram around.
abbrev pub result_given : Option Profile → Option ℕ
result_given None = None
result_given (Some p) = p.result

abbrev pub result_in : Context → Option ℕ
result_in c = result_given (sub_profile c.known c.sub)

module _ (s : Site) (objects : List Object) (subs : List Signature) (made : ℕ → Type 0) (laws : Laws s.context.known made) where
  abbrev y : Typing
  y = record { table = s.context.known.table; objects = objects; subs = subs }

  abbrev known : Known
  known = s.context.known

  abbrev table : Table
  table = s.context.known.table

  pub marked_made : (m : Mark) → denotes_type known m.decl ≡ true → made (marked known m)
  marked_made m denotes =
      let meant = mark_denotes known m.decl denotes in
      subst made (sym (marked_is known m.decl meant.0 meant.1 meant.2)) (laws.typed meant.0 meant.2)

  mark_made : (m : Mark) → mark_faults known m ≡ [] → made (marked known m)
  mark_made m none = marked_made m
      (and_left (denotes_type known m.decl) _ (holds 1 m.pos (denotes_type known m.decl && is_complete known (marked known m) m.pos) (nil_left _ _ none)))

  -- ---- objects

  module _ (result : Option ℕ) where
    abbrev pub Fine : List TypedCode → Type 0
    Fine cs = AllByRecursion (IsFineCode y result) cs

    each_fine : (ids i : Code) (v : TypedTree) (t : ℕ) → AreDeclared s y made i ids → ((d : ℕ) → indicated known d i ≡ t) → FirstSource y t v
        → Fine (map (typed_object s v) (code_items ids))
    unfolding IsFineCode
    each_fine (More d rest) i v t h is source =
        (subst (λ x. FirstSource y x v) (sym (h.0 ∙ is (declared_number d))) source, each_fine rest i v t h.2 is source)
    each_fine ids i v t h is source = tt

    one_fine : (ids i : Code) (v : TypedTree) → is_single ids ≡ true → AreDeclared s y made i ids → FirstSource y (indicated known (first_number ids) i) v
        → Fine (map (typed_object s v) (code_items ids))
    unfolding IsFineCode
    one_fine (More d NoMore) i v single h source = (subst (λ x. FirstSource y x v) (sym h.0) source, tt)
    one_fine ids i v single h source = absurd (false≢true single)

    numbers_fine : (ids : Code) (v : TypedTree) → AreNumbers s y ids → FirstSource y integer v → Fine (map (typed_object s v) (code_items ids))
    unfolding IsFineCode
    numbers_fine (More d rest) v h source = (subst (λ x. FirstSource y x v) (sym h.0) source, numbers_fine rest v h.1 source)
    numbers_fine ids v h source = tt

  module _ (looped starts : Bool) where
    abbrev c : Context
    c = flagged looped starts s.context

    first_given : (v : Tree) (t : ℕ) → IsMeantOptional s y v → made t → initial_faults (starting c) false t v ≡ [] → FirstSource y t (typed_optional s t v)
    first_given (More e rest) t meant m none = (refl, source_at s objects subs made laws looped (in_package s.context) e t meant m none)
    first_given NoMore t meant m none = tt
    first_given v t meant m none = absurd meant

    first_viewed : (v : Tree) (t : ℕ) → IsMeantOptional s y v → made t → is_anonymous (full table t) ≡ true → initial_faults (starting c) true t v ≡ []
        → FirstSource y t (typed_optional s t v)
    first_viewed (More e rest) t meant m anonymous none =
        (refl, inl (one_anonymous (full table t) anonymous, source_viewed s objects subs made laws looped (in_package s.context) e t meant m anonymous none))
    first_viewed NoMore t meant m anonymous none = tt
    first_viewed v t meant m anonymous none = absurd meant

    single : (a b d : Bool) → not true || (a && (not b && d)) ≡ true → a ≡ true
    single true b d e = refl
    single false b d e = absurd (false≢true e)

    initial : (ids i : Code) (constant : Bool) (v : Tree) (t : ℕ) → objects_faults c ids constant i v t ≡ [] → initial_faults (starting c) (is_anonymous_indication i) t v ≡ []
    initial ids i constant v t none =
        nil_right (demand 5 (first_pos ids) (not (constant && is_owning known.table t))) _
        (nil_right (demand 6 (first_pos ids) (not (is_anonymous_indication i) || (is_single ids && (not (in_package c) && (not constant && has_one v))))) _
        (nil_right (indication_faults known i) _ none))

    pub objects_fine : (result : Option ℕ) (ids i : Code) (constant : Bool) (v : Tree) → AreDeclared s y made i ids → IsMeantOptional s y v → object_faults c ids constant i v ≡ []
        → Fine result (map (typed_object s (typed_optional s (indicated known (first_number ids) i) v)) (code_items ids))
    objects_fine result ids (Plain m) constant v h meant none =
        each_fine result ids (Plain m) (typed_optional s (marked known m) v) (marked known m) h (λ d. refl)
        (first_given v (marked known m) meant (mark_made m (nil_left (mark_faults known m) _ none)) (initial ids (Plain m) constant v (marked known m) none))
    objects_fine result ids (Anonymous p k m) constant v h meant none =
        let t = first_number ids in
        let one = single (is_single ids) (in_package c) (not constant && has_one v)
        (holds 6 (first_pos ids) (not true || (is_single ids && (not (in_package c) && (not constant && has_one v))))
        (nil_left _ _ (nil_right (indication_faults known (Anonymous p k m)) _ none))) in
        let own = type_of ids h one in
        one_fine result ids (Anonymous p k m) (typed_optional s t v) one h
        (first_viewed v t meant own.0 own.1 (initial ids (Anonymous p k m) constant v t none))
      where
        type_of : (ids : Code) → AreDeclared s y made (Anonymous p k m) ids → is_single ids ≡ true → made (first_number ids) × (is_anonymous (full table (first_number ids)) ≡ true)
        type_of (More d rest) h one = (h.1.0, ap (λ x. is_anonymous (view_of x)) h.1.2)
        type_of ids h one = absurd (false≢true one)
    objects_fine result ids i constant v h meant none =
        each_fine result ids i (typed_optional s integer v) integer h (λ d. refl) (first_given v integer meant laws.integers (initial ids i constant v integer none))

    pub named_numbers_fine : (result : Option ℕ) (ids : Code) (e : Tree) → AreNumbers s y ids → IsMeant s y e → bound_faults (starting c) integer e ≡ []
        → Fine result (map (typed_object s (typed.More (typed_expression s integer e) typed.NoMore)) (code_items ids))
    named_numbers_fine result ids e h meant none =
        numbers_fine result ids (typed.More (typed_expression s integer e) typed.NoMore) h (
          refl,
          inr (given s objects subs made laws (typed_expression s integer e) integer
              (has_at s objects subs made laws looped (in_package s.context) e stands.Elsewhere integer meant laws.integers
              (nil_left (faults (starting c) stands.Elsewhere integer e) _ none))),
        )

    -- ---- return

    value_returned : (p : Pos) (e : Tree) (r : Option ℕ) → IsMeant s y e → ((t : ℕ) → r ≡ Some t → made t)
        → (if is_none r then K3 (position e) ++ inside c true integer e
        else if is_some r && is_anonymous (full table (result_type r)) then return_source c (result_type r) e
        else faults c stands.Stored (result_type r) e) ≡ []
        → Returns y r (typed.More (typed_expression s (result_type r) e) typed.NoMore)
    value_returned p e None meant types none = absurd (false≢true (ap is_free none))
    value_returned p e (Some t) meant types none = (typed_expression s t e, refl, by (is_anonymous (full table t)) refl none)
      where
        by : (b : Bool) → is_anonymous (full table t) ≡ b → (if b then return_source c t e else faults c stands.Stored t e) ≡ [] → Source y t (typed_expression s t e)
        by true is h = inl (one_anonymous (full table t) is, return_viewed s objects subs made laws looped starts e t meant (types t refl) is h)
        by false is h = source_at s objects subs made laws looped starts e t meant (types t refl) h

    none_returned : (p : Pos) (r : Option ℕ) → demand 3 p (is_none r) ≡ [] → Returns y r typed.NoMore
    none_returned p None none = refl
    none_returned p (Some t) none = absurd (false≢true (ap is_free none))

    pub return_fine : (p : Pos) (v : Tree) (sub : Option ℕ) → IsMeantOptional s y v → returned c p (sub_profile known sub) v ≡ []
        → Returns y (result_given (sub_profile known sub)) (typed_optional s (returned_type s.context sub) v)
    return_fine p v None meant none = absurd (false≢true (ap is_free none))
    return_fine p (More e rest) (Some f) meant none = value_returned p e (profile_of (entry_of known f)).result meant (λ t is. laws.result f t is) none
    return_fine p NoMore (Some f) meant none = none_returned p (profile_of (entry_of known f)).result none
    return_fine p v (Some f) meant none = absurd meant

    -- ---- ranges

    split : (a b d : Bool) → a && b && d ≡ true → (a ≡ true) × (d ≡ true)
    split true true true e = (refl, refl)
    split true true false e = absurd (false≢true e)
    split true false d e = absurd (false≢true e)
    split false b d e = absurd (false≢true e)

    mark_scalar : (m : Mark) → scalar_mark c m ≡ [] → made (marked known m) × (is_scalar (seen c (marked known m)) ≡ true)
    mark_scalar m none =
        let both = split (denotes_type known m.decl) (is_complete known (marked known m) m.pos) (is_scalar (seen c (marked known m)))
        (holds 1 m.pos (denotes_type known m.decl && is_complete known (marked known m) m.pos && is_scalar (seen c (marked known m))) none) in
        (marked_made m both.0, both.1)

    pub based_scalar : (t : ℕ) → made t → is_scalar (seen c t) ≡ true → is_scalar (full table (base table t)) ≡ true
    based_scalar t m scalar = elim (seen_scalar c t scalar) [
      | inl h ↦ subst (λ x. is_scalar (full table x) ≡ true) (sym (laws.numeric t m h)) (numbers s objects subs made laws)
      | inr h ↦ shape_view (shape_of table (base table t))
          (either_right _ _ (agree_lists table t (base table t) (laws.same t (base table t) m (laws.based t m) (sym (laws.base_of t m))) h))
    ]

    -- The parameter of a loop is scalar.
    abbrev IsScalarRange : Code → Type 0
    IsScalarRange range = is_scalar (full table (parameter_type s.context range)) ≡ true

    pub parameter_scalar : (range : Code) → IsMeantRange s y range → range_faults c range ≡ [] → IsScalarRange range
    unfolding range_faults
    parameter_scalar (Bounds low high) meant none =
        let own = holds 1 (position low) (scalar_own c (own_type c low)) (nil_left _ _ none) in
        let within = nil_left (inside c false integer low) _ (nil_right (demand 1 (position low) (scalar_own c (own_type c low))) _ none) in
        let found = scalar_at s objects subs made laws looped starts low integer meant.0 own within in
        subst (λ x. is_scalar (full table (base table (type_or_integer x))) ≡ true) (sym (sym (own_same looped starts s.context low) ∙ found.1))
        (based_scalar found.0 found.2 found.3)
    parameter_scalar (Marked m) meant none = let is = mark_scalar m none in seen_full s objects subs made laws c (marked known m) refl is.1
    parameter_scalar (Constrained m low high) meant none =
        let is = mark_scalar m (nil_left (scalar_mark c m) _ none) in seen_full s objects subs made laws c (marked known m) refl is.1
    parameter_scalar range meant none = numbers s objects subs made laws

    bounds_stay : (w : View) → Stays y (bounds_seen w).0 × Stays y (bounds_seen w).1
    unfolding Stays
    bounds_stay (view.Whole low high) = (tt, tt)
    bounds_stay (view.Listed low high) = (tt, tt)
    bounds_stay (view.Elements low high of) = (tt, tt)
    bounds_stay w = (tt, tt)

    array_stays : (e : Tree) → Stays y (range_of s.context e).0 × Stays y (range_of s.context e).1
    array_stays (Named p d rest) = bounds_stay (array_seen s.context d (reading_of s.context d rest))
    array_stays e = bounds_stay view.Hidden

    pub range_stays : (range : Code) → IsMeantRange s y range → range_faults c range ≡ [] → Stays y (typed_range s range).0 × Stays y (typed_range s range).1
    unfolding range_faults
    range_stays (Bounds low high) meant none =
        let own = holds 1 (position low) (scalar_own c (own_type c low)) (nil_left _ _ none) in
        let more = nil_right (demand 1 (position low) (scalar_own c (own_type c low))) _ none in
        let within = nil_left (inside c false integer low) _ more in
        let found = scalar_at s objects subs made laws looped starts low integer meant.0 own within in
        let behind : faults c stands.Elsewhere found.0 high ≡ [] =
        subst (λ x. faults c stands.Elsewhere (type_or_integer x) high ≡ []) found.1 (nil_right (inside c false integer low) _ more) in (
          scalar_stays s objects subs made laws looped starts low integer meant.0 own within,
          bound_stays s objects subs made laws looped starts high integer found.0 meant.1 found.2 (seen_full s objects subs made laws c found.0 refl found.3) behind,
        )
    range_stays (Marked m) meant none = bounds_stay (full table (marked known m))
    range_stays (Constrained m low high) meant none =
        let is = mark_scalar m (nil_left (scalar_mark c m) _ none) in
        let t = marked known m in
        let scalar = seen_full s objects subs made laws c t refl is.1 in
        let more = nil_right (scalar_mark c m) _ none in (
          bound_stays s objects subs made laws looped starts low integer t meant.0 is.0 scalar (nil_left (faults c stands.Elsewhere t low) _ more),
          bound_stays s objects subs made laws looped starts high integer t meant.1 is.0 scalar (nil_right (faults c stands.Elsewhere t low) _ more),
        )
    range_stays (RangeOf e) meant none = array_stays e
    range_stays range meant none = bounds_stay view.Hidden

    pub selector_stays : (e : Tree) → IsMeant s y e → selector_faults c e ≡ [] → Stays y (typed_expression s integer e)
    selector_stays e meant none =
        scalar_stays s objects subs made laws looped starts e integer meant
        (holds 1 (position e) (scalar_own c (own_type c e)) (nil_left (demand 1 (position e) (scalar_own c (own_type c e))) _ none))
        (nil_right (demand 1 (position e) (scalar_own c (own_type c e))) _ none)
