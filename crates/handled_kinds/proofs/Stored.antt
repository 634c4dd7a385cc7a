-- Points that store a value look at words of the kinds of its type.
use Rattle.std.proofs.Common.{◌≡◌, refl, sym, ap, subst, ℕ, zero, suc, ◌+◌, arith, Bool, true, false, ◌&&◌, ◌==◌, List, [], ◌∷◌, map, drop, slice_get, Option, Some, None, ℤ, pos, if◌then◌else◌}
use Rattle.std.specs.Prelude.{option_and_then}
use Rattle.spark_base.specs.declared.position.Pos.{Pos}
use Rattle.typed_tree.specs.Trees.{TypedTree, Name, Call, Parens, Aggregate, Alike, New, NoMore, More}
use Rattle.typed_tree.specs.Trees as typed
use Rattle.flow_paths.specs.Objects.{sub_at}
use Rattle.flow_paths.specs.Names.{waiting}
use Rattle.type_definitions.specs.declared.table.Shape.{Shape}
use Rattle.type_definitions.specs.declared.table.Shape.TheVariants as shape
use Rattle.type_definitions.specs.Types.{Table, shape_of}
use Rattle.run_values.specs.declared.value.Kind.{Kind}
use Rattle.run_values.specs.declared.value.Kind.TheVariants as sort
use Rattle.machine.specs.Words.{element_type, element_count}
use Rattle.machine.specs.Evaluate.{Use, AsValue, part_type}
use Rattle.machine.specs.Typed.{Whole, Position, sorts, is_pointer, points_to, field_count, is_array, tree_count}
use Rattle.run_codes.specs.Codes.{Code, Number, Waiting, Place, InFrame, InPackages, Behind, Fill, Checked, Pointer as LookedAt, MovedPointer, Copied, Moved, Waited, Default, Repeated, Both, Empty, Does, Put, Store, Assign, Point}
use Rattle.run_codes.specs.Codes as codes
use Rattle.run_codes.specs.Flat.{Flat, kind_of, kinds, word}
use Rattle.run_codes.specs.Lowered.{Site, words_before_value, Placed, Lowered, option_map, load, is_taken, lowered, place, Scalar, scalar_of, same_scalar, scalar, one_type, is_access, place_value, waited_value, are_composite, value, parts, first_value}
use Rattle.run_codes.specs.Programs.{Program, kind_at, put_at, stored_at}
use Rattle.run_codes.specs.Points.{Frame}
use Rattle.run_codes.specs.Points as points
use Rattle.run_codes.specs.Related.{IsTable}
use Rattle.run_codes.proofs.Expressions.{and_then_some, map_some}
use Rattle.run_codes.proofs.Places.{impossible, if_some, some_same}
use Rattle.handled_runs.specs.Looks.{IsFront}
use Rattle.handled_runs.specs.Alike.{LooksThere, LooksFill}
use Rattle.handled_steps.specs.Looks.{LooksDoes, turn_of}
use Rattle.handled_kinds.specs.Kinds.{HasKinds}
use Rattle.handled_kinds.specs.Turns.{LeaksThere}
use Rattle.handled_kinds.proofs.Places.{looks_there}
use Rattle.handled_kinds.proofs.Filled.{Fine, AtPlace, by_shape, waits_by, both_some, taken_is}

-- ---- a value within bounds is of a scalar type

abbrev pub IsScalar : Shape → Type 0
IsScalar (shape.Whole low high) = Unit {0}
IsScalar (shape.Listed literals low high) = Unit {0}
IsScalar _ = ⊥

abbrev pub WhereChecked : Fill → Shape → Type 0
WhereChecked (Checked c low high) sh = IsScalar sh
WhereChecked _ sh = Unit {0}

module _ (c : Site) (laws : IsTable c.typing.table) (here taken : List Kind) (base : ℕ) (has : HasKinds c base here taken) where
  abbrev table : Table
  table = c.typing.table

  abbrev pub Checks : Fill → ℕ → Type 0
  Checks v want = WhereChecked v (shape_of table want)

  place_checks : (p : Placed) (sh : Shape) (b : Bool) (v : Fill) → by_shape c laws here taken base has p sh b ≡ Some v → WhereChecked v sh
  place_checks p (shape.Whole low high) true v e = impossible v e
  place_checks p (shape.Whole low high) false v e = subst (λ x. WhereChecked x (shape.Whole low high)) (some_same (Checked (load sort.Int p.place) low high) v e) tt
  place_checks p (shape.Listed literals low high) true v e = impossible v e
  place_checks p (shape.Listed literals low high) false v e =
      subst (λ x. WhereChecked x (shape.Listed literals low high)) (some_same (Checked (load sort.Enum p.place) (pos low) (pos high)) v e) tt
  place_checks p (shape.Access d constant named) true v e =
      let sure = if_some (is_access (shape_of table p.of)) (Some (MovedPointer p.place)) v e in subst (λ x. WhereChecked x (shape.Access d constant named)) (some_same (MovedPointer p.place) v sure.1) tt
  place_checks p (shape.Access d constant named) false v e = subst (λ x. WhereChecked x (shape.Access d constant named)) (some_same (LookedAt (load sort.Access p.place)) v e) tt
  place_checks p (shape.Fields cs) true v e = subst (λ x. WhereChecked x (shape.Fields cs)) (some_same (Moved p.place p.of) v e) tt
  place_checks p (shape.Fields cs) false v e = subst (λ x. WhereChecked x (shape.Fields cs)) (some_same (Copied p.place p.of) v e) tt
  place_checks p (shape.Elements low high element) true v e = subst (λ x. WhereChecked x (shape.Elements low high element)) (some_same (Moved p.place p.of) v e) tt
  place_checks p (shape.Elements low high element) false v e = subst (λ x. WhereChecked x (shape.Elements low high element)) (some_same (Copied p.place p.of) v e) tt
  place_checks p (shape.Same of) true v e = subst (λ x. WhereChecked x (shape.Same of)) (some_same (Moved p.place p.of) v e) tt
  place_checks p (shape.Same of) false v e = subst (λ x. WhereChecked x (shape.Same of)) (some_same (Copied p.place p.of) v e) tt

  wait_checks : (at t : ℕ) (sh : Shape) → WhereChecked (waits_by c laws here taken base has t sh at) sh
  wait_checks at t (shape.Whole low high) = tt
  wait_checks at t (shape.Listed literals low high) = tt
  wait_checks at t (shape.Access d constant named) = tt
  wait_checks at t (shape.Fields cs) = tt
  wait_checks at t (shape.Elements low high element) = tt
  wait_checks at t (shape.Same of) = tt

  waited_checks : (k want t : ℕ) (v : Fill) → waited_value c k want t ≡ Some v → Checks v want
  waited_checks k want t v is = by (slice_get c.takes k) is
    where
      by : (x : Option ℕ) → (if taken_is t x && one_type table t want then Some (waits_by c laws here taken base has t (shape_of table want) (words_before_value c k)) else None) ≡ Some v → Checks v want
      by x e =
          let sure = if_some (taken_is t x && one_type table t want) (Some (waits_by c laws here taken base has t (shape_of table want) (words_before_value c k))) v e in
          subst (λ y. Checks y want) (some_same (waits_by c laws here taken base has t (shape_of table want) (words_before_value c k)) v sure.1) (wait_checks (words_before_value c k) t (shape_of table want))

  scalar_checks : (want : ℕ) (l : Lowered) (v : Fill) → scalar table want l ≡ Some v → Checks v want
  scalar_checks want l v e = by (shape_of table want) e
    where
      some : (s : Scalar) (sh : Shape) → IsScalar sh → (if same_scalar s.sort l.sort then Some (Checked l.code s.low s.high) else None) ≡ Some v → WhereChecked v sh
      some s sh is f =
          let sure = if_some (same_scalar s.sort l.sort) (Some (Checked l.code s.low s.high)) v f in subst (λ x. WhereChecked x sh) (some_same (Checked l.code s.low s.high) v sure.1) is

      by : (sh : Shape) → option_and_then (λ (s : Scalar). if same_scalar s.sort l.sort then Some (Checked l.code s.low s.high) else None) (scalar_of sh) ≡ Some v → WhereChecked v sh
      by (shape.Whole low high) f = some (record { sort = Whole; low = low; high = high }) (shape.Whole low high) tt f
      by (shape.Listed literals low high) f = some (record { sort = Position; low = pos low; high = pos high }) (shape.Listed literals low high) tt f
      by (shape.Access d constant named) f = impossible v f
      by (shape.Fields cs) f = impossible v f
      by (shape.Elements low high element) f = impossible v f
      by (shape.Same of) f = impossible v f

  none_checked : (v w : Fill) (sh : Shape) → WhereChecked v sh → v ≡ w → WhereChecked w sh
  none_checked v w sh is e = subst (λ x. WhereChecked x sh) e is

  parts_checks : (es : TypedTree) (k t i : ℕ) (v : Fill) (sh : Shape) → parts c k t i es ≡ Some v → WhereChecked v sh
  unfolding parts
  parts_checks (More e rest) k t i v sh is =
      let two = both_some (value c k AsValue (part_type (shape_of table t) i) e) (parts c (k + waiting e) t (suc i) rest) v is in none_checked (Both two.0 two.1) v sh tt two.4
  parts_checks NoMore k t i v sh is = none_checked Empty v sh tt (some_same Empty v is)
  parts_checks _ k t i v sh is = impossible v is

  pub value_checks : (e : TypedTree) (k : ℕ) (u : Use) (want : ℕ) (v : Fill) → value c k u want e ≡ Some v → Checks v want
  unfolding value
  value_checks typed.Null k u want v is =
      let sure = if_some (is_pointer (sorts table want)) (Some (LookedAt (Number (pos 0)))) v is in none_checked (LookedAt (Number (pos 0))) v (shape_of table want) tt (some_same (LookedAt (Number (pos 0))) v sure.1)
  value_checks (Name p x steps t) k u want v is =
      let q = and_then_some (place_value table u want) (place c k (Name p x steps t)) v is in
      let sure = if_some (one_type table q.0.of want) (by_shape c laws here taken base has q.0 (shape_of table want) (is_taken table u q.0.of)) v q.2 in
      place_checks q.0 (shape_of table want) (is_taken table u q.0.of) v sure.1
  value_checks (Call p sub actuals) k u want v is = let t = and_then_some (waited_value c k want) (sub_at c.typing sub).result v is in waited_checks k want t.0 v t.2
  value_checks (Parens e) k u want v is = value_checks e k AsValue want v is
  value_checks (Aggregate t es) k u want v is =
      let sure = if_some (are_composite table want t && (one_type table t want && (tree_count es == field_count (shape_of table t)))) (parts c k t 0 es) v is in parts_checks es k t 0 v (shape_of table want) sure.1
  value_checks (Alike t e) k u want v is =
      let sure = if_some (are_composite table want t && (one_type table t want && is_array (shape_of table t))) (option_map (λ w. Repeated w (element_count table t)) (value c k AsValue (element_type table t) e)) v is in
      let on = map_some (λ w. Repeated w (element_count table t)) (value c k AsValue (element_type table t) e) v sure.1 in
      none_checked (Repeated on.0 (element_count table t)) v (shape_of table want) tt on.2
  value_checks (New t e) k u want v is =
      let sure = if_some (points_to table t (sorts table want)) (option_map (λ a. codes.New a t) (first_value c k t e)) v is in
      let on = map_some (λ a. codes.New a t) (first_value c k t e) v sure.1 in
      none_checked (codes.New on.0 t) v (shape_of table want) tt on.2
  value_checks e k u want v is = let l = and_then_some (scalar table want) (lowered c k u e) v is in scalar_checks want l.0 v l.2

  -- ---- the kind of a scalar

  scalar_kind : (t : ℕ) (sh : Shape) → shape_of table t ≡ sh → IsScalar sh → kinds table t ≡ kind_at sh ∷ []
  scalar_kind t (shape.Whole low high) is scalar = ap (map kind_of) (laws.whole t low high is)
  scalar_kind t (shape.Listed literals low high) is scalar = ap (map kind_of) (laws.listed t low high literals is)
  scalar_kind t (shape.Access d constant named) is scalar = absurd scalar
  scalar_kind t (shape.Fields cs) is scalar = absurd scalar
  scalar_kind t (shape.Elements low high element) is scalar = absurd scalar
  scalar_kind t (shape.Same of) is scalar = absurd scalar

  -- ---- the law

  module _ (program : Program) (input : List ℕ) (s : points.State) (f : Frame) (outer : List Frame) (p : Point) (frame : f.base ≡ base) where
    abbrev t : points.Turn
    t = turn_of table program input s f outer p

    -- what is told of leak checks
    abbrev Fits : Does → Type 0
    Fits d = LeaksThere t d → LooksDoes t here taken d

    -- an object of the frame
    frame_front : (of at : ℕ) → AtPlace c laws here taken base has (record { place = InFrame at (Number (pos 0)); of = of }) → IsFront (kinds table of) (drop (base + at) here)
    unfolding word
    frame_front of at is =
        let i : Flat = record (points.start t) { base = base } in
        let same : base + at + 0 ≡ base + at = omega arith in
        subst (λ n. IsFront (kinds table of) (drop n here)) same ((is i refl).1 (pos 0) refl)

    put_looks : (of at : ℕ) (v : Fill) (n : Option ℕ) → AtPlace c laws here taken base has (record { place = InFrame at (Number (pos 0)); of = of }) → Fine c laws here taken base has v (kinds table of) → Fits (Put at v n)
    put_looks of at v n is fine there =
        subst (λ b. (ks : List Kind) × LooksFill table b here taken v ks × IsFront ks (drop (b + at) here)) (sym frame) (kinds table of, fine, frame_front of at is)

    store_looks : (q : Placed) (v : Fill) (n : Option ℕ) → AtPlace c laws here taken base has q → Fine c laws here taken base has v (kinds table q.of) → IsScalar (shape_of table q.of) → Fits (Store q.place v (kind_at (shape_of table q.of)) n)
    store_looks q v n is fine scalar there =
        let one : kinds table q.of ≡ kind_at (shape_of table q.of) ∷ [] = scalar_kind q.of (shape_of table q.of) refl scalar in
        subst (λ b. LooksFill table b here taken v (kind_at (shape_of table q.of) ∷ []) × LooksThere b here taken q.place (kind_at (shape_of table q.of) ∷ [])) (sym frame) (
          subst (LooksFill table base here taken v) one fine,
          subst (LooksThere base here taken q.place) one (looks_there table base here taken q.place q.of is),
        )

    assign_looks : (q : Placed) (v : Fill) (checks : Option Pos) (n : Option ℕ) → AtPlace c laws here taken base has q → Fine c laws here taken base has v (kinds table q.of) → Fits (Assign q.place v q.of checks n)
    assign_looks q v checks n is fine there = (
      subst (λ b. LooksFill table b here taken v (kinds table q.of)) (sym frame) fine,
      λ zs i e. (subst (λ b. LooksThere b here taken q.place (kinds table q.of)) (sym frame) (looks_there table base here taken q.place q.of is), there zs i e),
    )

    -- one word within bounds
    checked_looks : (q : Placed) (e : Code) (low high : ℤ) (n : Option ℕ) (checks : Option Pos) → AtPlace c laws here taken base has q → Fine c laws here taken base has (Checked e low high) (kinds table q.of)
        → IsScalar (shape_of table q.of) → Fits (put_at (shape_of table q.of) q (Checked e low high) checks n)
    checked_looks q e low high n checks is fine scalar = by q.place is
      where
        by : (place : Place) → AtPlace c laws here taken base has (record { place = place; of = q.of }) → Fits (put_at (shape_of table q.of) (record { place = place; of = q.of }) (Checked e low high) checks n)
        by (InFrame at (Number (pos zero))) at_place = put_looks q.of at (Checked e low high) n at_place fine
        by (InFrame at i) at_place = store_looks (record { place = InFrame at i; of = q.of }) (Checked e low high) n at_place fine scalar
        by (InPackages at i) at_place = store_looks (record { place = InPackages at i; of = q.of }) (Checked e low high) n at_place fine scalar
        by (Behind a at i) at_place = store_looks (record { place = Behind a at i; of = q.of }) (Checked e low high) n at_place fine scalar

    looked_looks : (q : Placed) (e : Code) (n : Option ℕ) (checks : Option Pos) → AtPlace c laws here taken base has q → Fine c laws here taken base has (LookedAt e) (kinds table q.of)
        → Fits (put_at (shape_of table q.of) q (LookedAt e) checks n)
    looked_looks q e n (Some x) is fine = assign_looks q (LookedAt e) (Some x) n is fine
    looked_looks q e n None is fine = by q.place is
      where
        by : (place : Place) → AtPlace c laws here taken base has (record { place = place; of = q.of }) → Fits (put_at (shape_of table q.of) (record { place = place; of = q.of }) (LookedAt e) None n)
        by (InFrame at (Number (pos zero))) at_place = put_looks q.of at (LookedAt e) n at_place fine
        by (InFrame at i) at_place = assign_looks (record { place = InFrame at i; of = q.of }) (LookedAt e) None n at_place fine
        by (InPackages at i) at_place = assign_looks (record { place = InPackages at i; of = q.of }) (LookedAt e) None n at_place fine
        by (Behind a at i) at_place = assign_looks (record { place = Behind a at i; of = q.of }) (LookedAt e) None n at_place fine

    -- A value that a point stores at a place of its type.
    pub stored_looks : (q : Placed) (v : Fill) (checks : Option Pos) (n : Option ℕ) → AtPlace c laws here taken base has q → Fine c laws here taken base has v (kinds table q.of) → Checks v q.of
        → Fits (stored_at table q v checks n)
    stored_looks q (Checked e low high) checks n is fine scalar = checked_looks q e low high n checks is fine scalar
    stored_looks q (LookedAt e) checks n is fine scalar = looked_looks q e n checks is fine
    stored_looks q (MovedPointer a) checks n is fine scalar = assign_looks q (MovedPointer a) checks n is fine
    stored_looks q (Copied a of) checks n is fine scalar = assign_looks q (Copied a of) checks n is fine
    stored_looks q (Moved a of) checks n is fine scalar = assign_looks q (Moved a of) checks n is fine
    stored_looks q (Waited at k) checks n is fine scalar = assign_looks q (Waited at k) checks n is fine
    stored_looks q (codes.New a of) checks n is fine scalar = assign_looks q (codes.New a of) checks n is fine
    stored_looks q (Default of) checks n is fine scalar = assign_looks q (Default of) checks n is fine
    stored_looks q (Repeated a k) checks n is fine scalar = assign_looks q (Repeated a k) checks n is fine
    stored_looks q (Both a b) checks n is fine scalar = assign_looks q (Both a b) checks n is fine
    stored_looks q Empty checks n is fine scalar = assign_looks q Empty checks n is fine
