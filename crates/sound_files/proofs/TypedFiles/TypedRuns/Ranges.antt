-- Ranges of loops.
use Rattle.std.proofs.Common.{◌≡◌, refl, sym, ap, ◌∙◌, subst, inl, inr, ℕ, ℤ, Bool, true, false, not, ◌&&◌, ◌||◌, List, []}
use Rattle.std.proofs.lemmas.Bool.{false≢true}
use Rattle.machine.specs.resolved_tree.declared.node.Mark.{Mark}
use Rattle.machine.specs.resolved_tree.Trees.{Tree, Named, position, Code, Bounds, Marked, Constrained, RangeOf}
use Rattle.machine.specs.type_definitions.declared.table.Entry.{Entry}
use Rattle.machine.specs.type_definitions.declared.table.Entry.TheVariants as entry
use Rattle.machine.specs.type_definitions.declared.table.Known.{Known}
use Rattle.machine.specs.type_definitions.declared.table.Shape.{Shape}
use Rattle.machine.specs.type_definitions.declared.table.Shape.TheVariants as shape
use Rattle.machine.specs.type_definitions.declared.judgement.View.{View}
use Rattle.machine.specs.type_definitions.declared.judgement.View.TheVariants as view
use Rattle.machine.specs.type_definitions.declared.judgement.Reading.{Reading}
use Rattle.machine.specs.type_definitions.declared.judgement.Reading.TheVariants as reading
use Rattle.machine.specs.type_definitions.declared.judgement.Where.TheVariants as stands
use Rattle.machine.specs.type_definitions.Types.{Table, base, full, shape_of, view_of, is_scalar, is_untyped}
use Rattle.machine.specs.type_definitions.Entries.{entry_of, integer, marked, denotes_type, is_complete, is_type}
use Rattle.machine.specs.type_definitions.Faults.{demand}
use Rattle.machine.specs.type_definitions.Names.{Context, seen, reading_of}
use Rattle.machine.specs.type_definitions.Expressions.{faults, inside, own_type, scalar_own, behind, way_of}
use Rattle.machine.specs.type_definitions.Statements.{range_faults, range_of_faults, ranged, no_suffix, is_array, scalar_mark, type_or_integer}
use Rattle.machine.specs.type_definitions.Gathered.{declared_number}
use Rattle.machine.specs.typed_tree.Trees.{TypedTree}
use Rattle.machine.specs.typed_tree.Trees as typed
use Rattle.machine.specs.typed_tree.declared.object.Object.{Object}
use Rattle.machine.specs.typed_tree.Expressions.{Site, object_number}
use Rattle.machine.specs.typed_tree.Statements.{typed_range, range_of, bounds_seen, array_seen}
use Rattle.machine.specs.flow_paths.Objects.{Typing, Signature, object_at}
use Rattle.soundness.specs.TypedLaws.Fine.{Agree, Has, Laws, counts, lists}
use Rattle.machine.specs.Typed.{same_kind}
use Rattle.soundness.proofs.TypedLaws.Agreeing.{of_known, holds, and_left, nil_left, nil_right, one_shape, retyped, is_free}
use Rattle.soundness.proofs.TypedLaws.Steps.{seen_elements}
use Rattle.soundness.specs.TypedLaws.TypedPoints.Meant.{IsParameter, IsMeantRange}
use Rattle.soundness.proofs.TypedLaws.TypedPoints.Flags.{flagged, reading_same, own_same}
use Rattle.soundness.proofs.TypedLaws.TypedPoints.Values.{seen_full, numbers, scalar_at}
use Rattle.soundness.proofs.TypedLaws.TypedPoints.Statements.{marked_made}
use Rattle.sound_files.specs.TypedFiles.TypedRuns.Code.{Within}
use Rattle.sound_files.specs.TypedFiles.TypedRuns.Formals.{AreProfiled}
use Rattle.sound_files.specs.TypedFiles.TypedRuns.Bounds.{HaveBounds}
use Rattle.sound_files.proofs.TypedFiles.TypedRuns.Sources.{inner, bound_had}

elements_view : (v : View) → is_array v ≡ true → (low : ℤ) × (high : ℤ) × (of : ℕ) × (v ≡ view.Elements low high of)
elements_view (view.Elements low high of) e = (low, high, of, refl)
elements_view v e = absurd (false≢true e)

number_within : (y : Typing) (v : ℤ) → Within y (typed.Number v)
unfolding Within
number_within y v = tt

literal_within : (y : Typing) (n : ℕ) → Within y (typed.Literal n)
unfolding Within
literal_within y n = tt

module _ (s : Site) (objects : List Object) (subs : List Signature) (made : ℕ → Type 0) (laws : Laws s.context.known made)
    (profiled : AreProfiled s.context.known s.bodies (record { table = s.context.known.table; objects = objects; subs = subs }) made) (bounds : HaveBounds s.context.known.table) where
  abbrev y : Typing
  y = record { table = s.context.known.table; objects = objects; subs = subs }

  abbrev known : Known
  known = s.context.known

  abbrev table : Table
  table = s.context.known.table

  -- Both bounds of a loop have a type, which is scalar.
  abbrev pub AreBounds : ℕ → TypedTree × TypedTree → Type 0
  AreBounds t b = (is_scalar (full table t) ≡ true) × Has y t b.0 × Has y t b.1 × Within y b.0 × Within y b.1

  agree_scalar : (t u : ℕ) → Agree table t u → is_scalar (full table t) ≡ true → is_scalar (full table u) ≡ true
  agree_scalar t u (inl e) h = subst (λ z. is_scalar (view_of z) ≡ true) (one_shape table t u e) h
  agree_scalar t u (inr e) h = kind_scalar (shape_of table t) (shape_of table u) e
    where
      kind_scalar : (a b : Shape) → same_kind a b ≡ true → is_scalar (view_of b) ≡ true
      kind_scalar (shape.Whole u v) (shape.Whole w x) k = refl
      kind_scalar (shape.Listed m u v) (shape.Listed l w x) k = refl
      kind_scalar (shape.Whole u v) b k = absurd (false≢true k)
      kind_scalar (shape.Listed m u v) b k = absurd (false≢true k)
      kind_scalar a b k = absurd (false≢true k)

  agreed : (t u : ℕ) (b : TypedTree × TypedTree) → Agree table t u → AreBounds t b → AreBounds u b
  agreed t u b agree h = (agree_scalar t u agree h.0, retyped y laws.owns b.0 t u agree h.1, retyped y laws.owns b.1 t u agree h.2, h.3, h.4)

  -- the first and the last value of a scalar type
  type_bounds : (t : ℕ) → is_scalar (full table t) ≡ true → AreBounds t (bounds_seen (full table t))
  unfolding Has
  type_bounds t scalar = by (shape_of table t) refl scalar
    where
      by : (z : Shape) → shape_of table t ≡ z → is_scalar (view_of z) ≡ true → AreBounds t (bounds_seen (view_of z))
      by (shape.Whole low high) is h =
          let within_both = bounds.whole t low high is in
          let counted : counts (shape_of table t) ≡ true = ap counts is in
          (scalar, (counted, within_both.0), (counted, within_both.1), number_within y low, number_within y high)
      by (shape.Listed names low high) is h =
          let named : lists (shape_of table t) ≡ true = ap lists is in
          (scalar, named, named, literal_within y low, literal_within y high)
      by z is h = absurd (false≢true h)

  -- those of an array's index
  array_bounds : (v : View) (t : ℕ) → seen s.context t ≡ v → is_array v ≡ true → AreBounds integer (bounds_seen v)
  unfolding Has
  array_bounds v t is array =
      let found = elements_view v array in
      let shaped = seen_elements s.context t found.0 found.1 found.2 (is ∙ found.3) in
      let within_both = bounds.elements t found.2 found.0 found.1 shaped in
      subst (λ w. AreBounds integer (bounds_seen w)) (sym found.3)
      (numbers s objects subs made laws, (laws.whole, within_both.0), (laws.whole, within_both.1), number_within y found.0, number_within y found.1)

  module _ (looped starts : Bool) where
    abbrev c : Context
    c = flagged looped starts s.context

    split : (a b d : Bool) → a && b && d ≡ true → (a ≡ true) × (d ≡ true)
    split true true true e = (refl, refl)
    split true true false e = absurd (false≢true e)
    split true false d e = absurd (false≢true e)
    split false b d e = absurd (false≢true e)

    mark_scalar : (m : Mark) → scalar_mark c m ≡ [] → made (marked known m) × (is_scalar (full table (marked known m)) ≡ true)
    mark_scalar m none =
        let both = split (denotes_type known m.decl) (is_complete known (marked known m) m.pos) (is_scalar (seen c (marked known m)))
        (holds 1 m.pos (denotes_type known m.decl && is_complete known (marked known m) m.pos && is_scalar (seen c (marked known m))) none) in
        (marked_made s objects subs made laws m both.0, seen_full s objects subs made laws c (marked known m) refl both.1)

    -- The array of A'Range: an object or a type.
    array_read : (e : Entry) (d : ℕ) (r : Reading) → ranged s.context e d r ≡ true → (t : ℕ) × (array_seen s.context d r ≡ seen s.context t) × (is_array (seen s.context t) ≡ true)
    array_read entry.Type d reading.Off h = (d, refl, h)
    array_read e d (reading.Place t) h = (t, refl, of_known (is_untyped table t) (is_array (seen s.context t)) (bounds.certain t) h)
    array_read e d r h = absurd (false≢true h)

    range_of_bounds : (e : Tree) → range_of_faults c e ≡ [] → AreBounds integer (range_of s.context e)
    unfolding seen
    range_of_bounds (Named p d rest) none =
        let all = holds 1 p (ranged c (entry_of known d) d (reading_of c d rest) && is_complete known d p && (not (is_type (entry_of known d)) || no_suffix rest))
        (nil_left _ (behind c (way_of known d (entry_of known d)) rest) none) in
        let one : ranged s.context (entry_of known d) d (reading_of s.context d rest) ≡ true =
        subst (λ r. ranged s.context (entry_of known d) d r ≡ true) (reading_same looped starts s.context d rest) (unflagged (entry_of known d) d (reading_of c d rest)
        (and_left (ranged c (entry_of known d) d (reading_of c d rest)) (is_complete known d p) (and_left (ranged c (entry_of known d) d (reading_of c d rest) && is_complete known d p) (not (is_type (entry_of known d)) || no_suffix rest) all))) in
        let found = array_read (entry_of known d) d (reading_of s.context d rest) one in
        subst (λ w. AreBounds integer (bounds_seen w)) (sym found.1) (array_bounds (seen s.context found.0) found.0 refl found.2)
      where
        unflagged : (e : Entry) (d : ℕ) (r : Reading) → ranged c e d r ≡ true → ranged s.context e d r ≡ true
        unflagged entry.Type d reading.Off h = h
        unflagged e d (reading.Place t) h = h
        unflagged e d r h = absurd (false≢true h)
    range_of_bounds e none = absurd (false≢true (ap is_free none))

    -- A type is one with that which it is based on.
    based_agree : (t : ℕ) → made t → Agree table t (base table t)
    based_agree t is = laws.same t (base table t) is (laws.based t is) (sym (laws.base_of t is))

    -- The bounds of a loop have the type of its parameter.
    pub range_typed : (d range : Code) → IsMeantRange s y range → IsParameter s y d range → range_faults c range ≡ []
        → AreBounds (object_at y (object_number s (declared_number d))).of (typed_range s range)
    unfolding range_faults
    range_typed d (Bounds low high) meant is none =
        let own = holds 1 (position low) (scalar_own c (own_type c low)) (nil_left _ _ none) in
        let more = nil_right (demand 1 (position low) (scalar_own c (own_type c low))) _ none in
        let into = nil_left (inside c false integer low) _ more in
        let found = scalar_at s objects subs made laws looped starts low integer meant.0 own into in
        let behind_low : faults c stands.Elsewhere found.0 high ≡ [] =
        subst (λ x. faults c stands.Elsewhere (type_or_integer x) high ≡ []) found.1 (nil_right (inside c false integer low) _ more) in
        let scalar = seen_full s objects subs made laws c found.0 refl found.3 in
        let last = bound_had s objects subs made laws profiled looped starts high found.0 meant.1 found.2 scalar behind_low in
        let of_low : (object_at y (object_number s (declared_number d))).of ≡ base table found.0
        = is ∙ ap (λ o. base table (type_or_integer o)) (sym (own_same looped starts s.context low) ∙ found.1) in
        agreed found.0 (object_at y (object_number s (declared_number d))).of (typed_range s (Bounds low high))
        (subst (Agree table found.0) (sym of_low) (based_agree found.0 found.2))
        (scalar, found.4, last.0, inner s objects subs made laws profiled looped starts low integer meant.0 laws.integers into, last.1)
    range_typed d (Marked m) meant is none =
        let scalar = (mark_scalar m none).1 in
        subst (λ t. AreBounds t (bounds_seen (full table (marked known m)))) (sym is) (type_bounds (marked known m) scalar)
    range_typed d (Constrained m low high) meant is none =
        let found = mark_scalar m (nil_left (scalar_mark c m) _ none) in
        let t = marked known m in
        let more = nil_right (scalar_mark c m) _ none in
        let first = bound_had s objects subs made laws profiled looped starts low t meant.0 found.0 found.1 (nil_left (faults c stands.Elsewhere t low) _ more) in
        let last = bound_had s objects subs made laws profiled looped starts high t meant.1 found.0 found.1 (nil_right (faults c stands.Elsewhere t low) _ more) in
        subst (λ u. AreBounds u (typed_range s (Constrained m low high))) (sym is) (found.1, first.0, last.0, first.1, last.1)
    range_typed d (RangeOf e) meant is none = subst (λ t. AreBounds t (range_of s.context e)) (sym is) (range_of_bounds e none)
    range_typed d range meant is none = absurd meant
