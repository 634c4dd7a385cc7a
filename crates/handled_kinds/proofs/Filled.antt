-- The law: values that are lowered have words of the kinds of their types.
use Rattle.std.proofs.Common.{◌≡◌, refl, sym, ap, ◌∙◌, subst, ℕ, zero, suc, ◌+◌, ◌≤◌, arith, Bool, true, false, ◌&&◌, ◌==◌, List, [], ◌∷◌, ◌++◌, map, take, drop, length, get_or, slice_get, Option, Some, None, ℤ, pos, if◌then◌else◌}
use Rattle.std.specs.Prelude.{option_and_then}
use Rattle.std.proofs.lemmas.Bool.Decides.{nat_tests}
use Rattle.std.proofs.lemmas.List.{map-append, length-map}
use Rattle.typed_tree.specs.Trees.{TypedTree, Name, Component as IntoComponent, Designated, Element, Call, EndOfFile, Parens, Aggregate, Alike, New, NoMore, More}
use Rattle.typed_tree.specs.Trees as typed
use Rattle.flow_paths.specs.Objects.{sub_at}
use Rattle.flow_paths.specs.Names.{waiting}
use Rattle.type_definitions.specs.declared.table.Component.{Component}
use Rattle.type_definitions.specs.declared.table.Shape.{Shape}
use Rattle.type_definitions.specs.declared.table.Shape.TheVariants as shape
use Rattle.type_definitions.specs.Types.{Table, shape_of, span, words}
use Rattle.type_definitions.specs.Entries.{integer}
use Rattle.run_values.specs.declared.value.Kind.{Kind}
use Rattle.run_values.specs.declared.value.Kind.TheVariants as sort
use Rattle.machine.specs.Words.{element_type, element_count}
use Rattle.machine.specs.Words as machine
use Rattle.machine.specs.Evaluate.{Use, AsValue, part_type}
use Rattle.machine.specs.Typed.{Sort, Whole, Position, Pointer, sorts, repeated_sorts, same_sort, same_sorts, is_pointer, points_to, field_count, is_array, tree_count}
use Rattle.run_codes.specs.Codes.{Code, Number, Waiting, Fill, Checked, Pointer as LookedAt, MovedPointer, Copied, Moved, Waited, Default, Repeated, Both, Empty}
use Rattle.run_codes.specs.Codes as codes
use Rattle.run_codes.specs.Flat.{Flat, kind_of, kinds}
use Rattle.run_codes.specs.Lowered.{Site, words_before_value, Placed, Lowered, option_map, object_place, load, is_taken, lowered, led, place, Scalar, scalar_of, same_scalar, scalar, one_type, is_access, is_composite, place_value, waited_value, are_composite, both, value, parts, first_value}
use Rattle.run_codes.specs.Related.{IsTable}
use Rattle.run_codes.proofs.Parts.{all_sorts, many}
use Rattle.run_codes.proofs.Expressions.{and_then_some, map_some}
use Rattle.run_codes.proofs.Places.{impossible, if_some, some_same}
use Rattle.handled_runs.specs.Looks.{IsData, Looks, IsFront}
use Rattle.handled_runs.specs.Alike.{Wherever, LooksThere, LooksFill, kinds_repeated}
use Rattle.handled_steps.proofs.Tables.{defaults_numbers}
use Rattle.handled_kinds.specs.Kinds.{PlaceKinds, HasKinds}
use Rattle.handled_kinds.proofs.Parts.{front_first}
use Rattle.handled_kinds.proofs.Steps.{load_reads}
use Rattle.handled_kinds.proofs.Places.{looks_there}
use Rattle.handled_kinds.proofs.Lowered.{lowered_reads, led_at, object_at_place}

-- ---- kinds of types that are alike

both_true : (a b : Bool) → a && b ≡ true → (a ≡ true) × (b ≡ true)
both_true true b e = (refl, e)
both_true false b e = cc

sort_same : (table : Table) (a b : Sort) → same_sort table a b ≡ true → kind_of a ≡ kind_of b
sort_same table Whole Whole e = refl
sort_same table Position Position e = refl
sort_same table (Pointer a) (Pointer b) e = refl
sort_same table Whole Position e = cc
sort_same table Whole (Pointer b) e = cc
sort_same table Position Whole e = cc
sort_same table Position (Pointer b) e = cc
sort_same table (Pointer a) Whole e = cc
sort_same table (Pointer a) Position e = cc

sorts_same : (table : Table) (a b : List Sort) → same_sorts table a b ≡ true → map kind_of a ≡ map kind_of b
sorts_same table [] [] e = refl
sorts_same table [] (y ∷ b) e = cc
sorts_same table (x ∷ a) [] e = cc
sorts_same table (x ∷ a) (y ∷ b) e =
    let two = both_true (same_sort table x y) (same_sorts table a b) e in
    ap (λ k. k ∷ map kind_of a) (sort_same table x y two.0) ∙ ap (λ ks. kind_of y ∷ ks) (sorts_same table a b two.1)

pub one_kinds : (table : Table) (t u : ℕ) → one_type table t u ≡ true → kinds table t ≡ kinds table u
one_kinds table t u e = sorts_same table (sorts table t) (sorts table u) e

pointer_kinds : (l : List Sort) → is_pointer l ≡ true → map kind_of l ≡ sort.Access ∷ []
pointer_kinds [] e = cc
pointer_kinds (Whole ∷ []) e = cc
pointer_kinds (Position ∷ []) e = cc
pointer_kinds (Pointer d ∷ []) e = refl
pointer_kinds (Whole ∷ y ∷ l) e = cc
pointer_kinds (Position ∷ y ∷ l) e = cc
pointer_kinds (Pointer d ∷ y ∷ l) e = cc

points_kinds : (table : Table) (t : ℕ) (l : List Sort) → points_to table t l ≡ true → map kind_of l ≡ sort.Access ∷ []
points_kinds table t [] e = cc
points_kinds table t (Whole ∷ []) e = cc
points_kinds table t (Position ∷ []) e = cc
points_kinds table t (Pointer d ∷ []) e = refl
points_kinds table t (Whole ∷ y ∷ l) e = cc
points_kinds table t (Position ∷ y ∷ l) e = cc
points_kinds table t (Pointer d ∷ y ∷ l) e = cc

-- ---- parts of aggregates

abbrev rest_sorts : Table → Shape → ℕ → TypedTree → List Sort
rest_sorts table sh i (More e rest) = sorts table (part_type sh i) ++ rest_sorts table sh (suc i) rest
rest_sorts table sh i _ = []

drop_next : (cs : List Component) (i : ℕ) (d : Component) → i ≤ length cs → (i ≡ length cs → ⊥) → drop i cs ≡ get_or cs i d ∷ drop (suc i) cs
drop_next [] zero d less other = absurd (other refl)
drop_next [] (suc i) d less other = absurd (omega (arith, less))
drop_next (c ∷ cs) zero d less other = refl
drop_next (c ∷ cs) (suc i) d less other = drop_next cs i d (omega (arith, less)) (λ e. other (ap suc e))

drop_whole : (cs : List Component) (i : ℕ) → i ≡ length cs → drop i cs ≡ []
drop_whole [] zero e = refl
drop_whole [] (suc i) e = cc
drop_whole (c ∷ cs) zero e = cc
drop_whole (c ∷ cs) (suc i) e = drop_whole cs i (let same : i ≡ length cs = omega (arith, e) in same)

module _ (table : Table) (cs : List Component) where
  end_sorts : (i : ℕ) → i + 0 ≡ length cs → [] ≡ all_sorts table (drop i cs)
  end_sorts i e = ap (all_sorts table) (sym (drop_whole cs i (omega (arith, e))))

  record_sorts : (es : TypedTree) (i : ℕ) → i + tree_count es ≡ length cs → rest_sorts table (shape.Fields cs) i es ≡ all_sorts table (drop i cs)
  record_sorts (More e rest) i count =
      let next : suc i + tree_count rest ≡ length cs = omega (arith, count) in
      ap (λ l. sorts table (part_type (shape.Fields cs) i) ++ l) (record_sorts rest (suc i) next)
      ∙ ap (all_sorts table) (sym (drop_next cs i (record { name = []; of = integer }) (omega (arith, count)) (λ same. absurd (omega (arith, count, same)))))
  record_sorts _ i count = end_sorts i count

array_sorts : (table : Table) (low high : ℤ) (element : ℕ) (es : TypedTree) (i : ℕ) → rest_sorts table (shape.Elements low high element) i es ≡ repeated_sorts (tree_count es) (sorts table element)
array_sorts table low high element (More e rest) i = ap (λ l. sorts table element ++ l) (array_sorts table low high element rest (suc i))
array_sorts table low high element _ i = refl

repeated_kinds : (n : ℕ) (l : List Sort) → map kind_of (repeated_sorts n l) ≡ kinds_repeated n (map kind_of l)
repeated_kinds zero l = refl
repeated_kinds (suc n) l = map-append kind_of l (repeated_sorts n l) ∙ ap (λ ks. map kind_of l ++ ks) (repeated_kinds n l)

pub both_some : (x y : Option Fill) (v : Fill) → both x y ≡ Some v → (a : Fill) × (b : Fill) × (x ≡ Some a) × (y ≡ Some b) × (Both a b ≡ v)
both_some (Some a) (Some b) v e = (a, b, refl, refl, some_same (Both a b) v e)
both_some (Some a) None v e = impossible v e
both_some None y v e = impossible v e

front_take : (ks js : List Kind) → IsFront ks js → take (length ks) js ≡ ks
front_take [] js is = refl
front_take (k ∷ ks) [] is = absurd is
front_take (k ∷ ks) (j ∷ js) is = ap (λ q. q ∷ take (length ks) js) (sym is.0) ∙ ap (λ rest. k ∷ rest) (front_take ks js is.1)

abbrev pub taken_is : ℕ → Option ℕ → Bool
taken_is t None = false
taken_is t (Some u) = u == t

module _ (c : Site) (laws : IsTable c.typing.table) (here taken : List Kind) (base : ℕ) (has : HasKinds c base here taken) where
  abbrev table : Table
  table = c.typing.table

  abbrev pub Fine : Fill → List Kind → Type 0
  Fine v ks = LooksFill table base here taken v ks

  has_at : (m : Flat) → m.base ≡ base → HasKinds c m.base here taken
  has_at m e = subst (λ b. HasKinds c b here taken) (sym e) has

  checked_fine : (code : Code) (low high : ℤ) (k : Kind) (ks : List Kind) → ks ≡ k ∷ [] → IsData k → ((m : Flat) → m.base ≡ base → Looks m here taken code k) → Fine (Checked code low high) ks
  unfolding LooksFill
  checked_fine code low high k ks is data_kind reads = (k, is, data_kind, reads)

  looked_fine : (code : Code) (ks : List Kind) → ks ≡ sort.Access ∷ [] → ((m : Flat) → m.base ≡ base → Looks m here taken code sort.Access) → Fine (LookedAt code) ks
  unfolding LooksFill
  looked_fine code ks is reads = (is, reads)

  -- ---- what a place has

  abbrev pub AtPlace : Placed → Type 0
  AtPlace p = Wherever base (λ m. PlaceKinds table m here taken p.place p.of)

  moved_pointer_fine : (p : Placed) (want : ℕ) → kinds table p.of ≡ kinds table want → kinds table want ≡ sort.Access ∷ [] → AtPlace p → Fine (MovedPointer p.place) (kinds table want)
  unfolding LooksFill
  moved_pointer_fine p want same is at =
      let one : kinds table p.of ≡ sort.Access ∷ [] = same ∙ is in (is, subst (LooksThere base here taken p.place) one (looks_there table base here taken p.place p.of at))

  copied_fine : (p : Placed) (want : ℕ) → kinds table p.of ≡ kinds table want → AtPlace p → Fine (Copied p.place p.of) (kinds table want)
  unfolding LooksFill
  copied_fine p want same at = (sym same, looks_there table base here taken p.place p.of at)

  moved_fine : (p : Placed) (want : ℕ) → kinds table p.of ≡ kinds table want → AtPlace p → Fine (Moved p.place p.of) (kinds table want)
  unfolding LooksFill
  moved_fine p want same at = (sym same, looks_there table base here taken p.place p.of at)

  abbrev pub by_shape : Placed → Shape → Bool → Option Fill
  by_shape p (shape.Whole low high) true = None
  by_shape p (shape.Whole low high) false = Some (Checked (load sort.Int p.place) low high)
  by_shape p (shape.Listed literals low high) true = None
  by_shape p (shape.Listed literals low high) false = Some (Checked (load sort.Enum p.place) (pos low) (pos high))
  by_shape p (shape.Access designated constant named) true = if is_access (shape_of table p.of) then Some (MovedPointer p.place) else None
  by_shape p (shape.Access designated constant named) false = Some (LookedAt (load sort.Access p.place))
  by_shape p _ true = Some (Moved p.place p.of)
  by_shape p _ false = Some (Copied p.place p.of)

  place_fine : (p : Placed) (want : ℕ) (sh : Shape) (b : Bool) (v : Fill) → shape_of table want ≡ sh → kinds table p.of ≡ kinds table want → AtPlace p → by_shape p sh b ≡ Some v → Fine v (kinds table want)
  place_fine p want (shape.Whole low high) true v is same at e = impossible v e
  place_fine p want (shape.Whole low high) false v is same at e =
      let one : kinds table want ≡ sort.Int ∷ [] = ap (map kind_of) (laws.whole want low high is) in
      subst (λ x. Fine x (kinds table want)) (some_same (Checked (load sort.Int p.place) low high) v e)
      (checked_fine (load sort.Int p.place) low high sort.Int (kinds table want) one tt (λ m f. load_reads table laws m here taken p.place p.of sort.Int (same ∙ one) (at m f)))
  place_fine p want (shape.Listed literals low high) true v is same at e = impossible v e
  place_fine p want (shape.Listed literals low high) false v is same at e =
      let one : kinds table want ≡ sort.Enum ∷ [] = ap (map kind_of) (laws.listed want low high literals is) in
      subst (λ x. Fine x (kinds table want)) (some_same (Checked (load sort.Enum p.place) (pos low) (pos high)) v e)
      (checked_fine (load sort.Enum p.place) (pos low) (pos high) sort.Enum (kinds table want) one tt (λ m f. load_reads table laws m here taken p.place p.of sort.Enum (same ∙ one) (at m f)))
  place_fine p want (shape.Access d constant named) true v is same at e =
      let one : kinds table want ≡ sort.Access ∷ [] = ap (map kind_of) (laws.access want d constant named is) in
      let sure = if_some (is_access (shape_of table p.of)) (Some (MovedPointer p.place)) v e in
      subst (λ x. Fine x (kinds table want)) (some_same (MovedPointer p.place) v sure.1) (moved_pointer_fine p want same one at)
  place_fine p want (shape.Access d constant named) false v is same at e =
      let one : kinds table want ≡ sort.Access ∷ [] = ap (map kind_of) (laws.access want d constant named is) in
      subst (λ x. Fine x (kinds table want)) (some_same (LookedAt (load sort.Access p.place)) v e)
      (looked_fine (load sort.Access p.place) (kinds table want) one (λ m f. load_reads table laws m here taken p.place p.of sort.Access (same ∙ one) (at m f)))
  place_fine p want (shape.Fields cs) true v is same at e = subst (λ x. Fine x (kinds table want)) (some_same (Moved p.place p.of) v e) (moved_fine p want same at)
  place_fine p want (shape.Fields cs) false v is same at e = subst (λ x. Fine x (kinds table want)) (some_same (Copied p.place p.of) v e) (copied_fine p want same at)
  place_fine p want (shape.Elements low high element) true v is same at e = subst (λ x. Fine x (kinds table want)) (some_same (Moved p.place p.of) v e) (moved_fine p want same at)
  place_fine p want (shape.Elements low high element) false v is same at e = subst (λ x. Fine x (kinds table want)) (some_same (Copied p.place p.of) v e) (copied_fine p want same at)
  place_fine p want (shape.Same of) true v is same at e = subst (λ x. Fine x (kinds table want)) (some_same (Moved p.place p.of) v e) (moved_fine p want same at)
  place_fine p want (shape.Same of) false v is same at e = subst (λ x. Fine x (kinds table want)) (some_same (Copied p.place p.of) v e) (copied_fine p want same at)

  value_at_place : (u : Use) (want : ℕ) (p : Placed) (v : Fill) → AtPlace p → place_value table u want p ≡ Some v → Fine v (kinds table want)
  value_at_place u want p v at e =
      let sure = if_some (one_type table p.of want) (by_shape p (shape_of table want) (is_taken table u p.of)) v e in
      place_fine p want (shape_of table want) (is_taken table u p.of) v refl (one_kinds table p.of want sure.0) at sure.1

  -- The place of a name.
  pub named_at : (k : ℕ) (x t : ℕ) (steps : TypedTree) (q : Placed)
      → option_and_then (λ q. if q.of == t then Some q else None) (option_and_then (λ q. led c k q steps) (object_place c x)) ≡ Some q → AtPlace q
  named_at k x t steps q e m f =
      let by : Placed → Option Placed = λ q. if q.of == t then Some q else None in
      let on = and_then_some by (option_and_then (λ q. led c k q steps) (object_place c x)) q e in
      let from = and_then_some (λ q. led c k q steps) (object_place c x) on.0 on.1 in
      let sure = if_some (on.0.of == t) (Some on.0) q on.2 in
      subst (λ (r : Placed). PlaceKinds table m here taken r.place r.of) (some_same on.0 q sure.1)
      (led_at c laws m here taken (has_at m f) steps k from.0 on.0 from.2 (object_at_place c laws m here taken (has_at m f) x from.0 from.1))

  -- ---- scalars

  scalar_fine : (want : ℕ) (l : Lowered) (v : Fill) → ((m : Flat) → m.base ≡ base → Looks m here taken l.code (kind_of l.sort)) → scalar table want l ≡ Some v → Fine v (kinds table want)
  scalar_fine want l v reads e =
      let by : Scalar → Option Fill = λ s. if same_scalar s.sort l.sort then Some (Checked l.code s.low s.high) else None in
      let s = and_then_some by (scalar_of (shape_of table want)) v e in
      let sure = if_some (same_scalar s.0.sort l.sort) (Some (Checked l.code s.0.low s.0.high)) v s.2 in
      let data_of = sort_is s.0.sort l.sort sure.0 in
      subst (λ x. Fine x (kinds table want)) (some_same (Checked l.code s.0.low s.0.high) v sure.1)
      (checked_fine l.code s.0.low s.0.high (kind_of l.sort) (kinds table want) (kinds_is (shape_of table want) refl s.0 s.1 ∙ ap (λ k. k ∷ []) data_of.0) data_of.1 reads)
    where
      sort_is : (a b : Sort) → same_scalar a b ≡ true → (kind_of a ≡ kind_of b) × IsData (kind_of b)
      sort_is Whole Whole f = (refl, tt)
      sort_is Position Position f = (refl, tt)
      sort_is Whole Position f = cc
      sort_is Whole (Pointer d) f = cc
      sort_is Position Whole f = cc
      sort_is Position (Pointer d) f = cc
      sort_is (Pointer d) b f = cc

      kinds_is : (sh : Shape) → shape_of table want ≡ sh → (s : Scalar) → scalar_of sh ≡ Some s → kinds table want ≡ kind_of s.sort ∷ []
      kinds_is (shape.Whole low high) is s f = ap (map kind_of) (laws.whole want low high is) ∙ ap (λ (x : Scalar). kind_of x.sort ∷ []) (some_same (record { sort = Whole; low = low; high = high }) s f)
      kinds_is (shape.Listed literals low high) is s f =
          ap (map kind_of) (laws.listed want low high literals is) ∙ ap (λ (x : Scalar). kind_of x.sort ∷ []) (some_same (record { sort = Position; low = pos low; high = pos high }) s f)
      kinds_is (shape.Access d constant named) is s f = impossible s f
      kinds_is (shape.Fields cs) is s f = impossible s f
      kinds_is (shape.Elements low high element) is s f = impossible s f
      kinds_is (shape.Same of) is s f = impossible s f

  lowered_fine : (want : ℕ) (k : ℕ) (u : Use) (tree : TypedTree) (v : Fill) → option_and_then (scalar table want) (lowered c k u tree) ≡ Some v → Fine v (kinds table want)
  lowered_fine want k u tree v e =
      let l = and_then_some (scalar table want) (lowered c k u tree) v e in
      scalar_fine want l.0 v (λ m f. lowered_reads c laws m here taken (has_at m f) tree k u l.0 l.1) l.2

  -- ---- values that wait

  abbrev pub waits_by : ℕ → Shape → ℕ → Fill
  waits_by t (shape.Whole low high) at = Checked (Waiting at) low high
  waits_by t (shape.Listed literals low high) at = Checked (Waiting at) (pos low) (pos high)
  waits_by t (shape.Access designated constant named) at = LookedAt (Waiting at)
  waits_by t _ at = Waited at (words table t)

  waiting_reads : (at : ℕ) (k : Kind) → IsFront (k ∷ []) (drop at taken) → (m : Flat) → Looks m here taken (Waiting at) k
  unfolding Looks
  waiting_reads at k front m = front_first taken at k front

  all_waits_fine : (at t want : ℕ) → kinds table t ≡ kinds table want → IsFront (kinds table t) (drop at taken) → Fine (Waited at (words table t)) (kinds table want)
  unfolding LooksFill
  all_waits_fine at t want same front =
      let long : length (kinds table t) ≡ words table t = length-map (sorts table t) kind_of ∙ many table t in
      (sym same ∙ (sym (front_take (kinds table t) (drop at taken) front) ∙ ap (λ n. take n (drop at taken)) long), ap length (sym same) ∙ long)

  waits_fine : (at t want : ℕ) (sh : Shape) → shape_of table want ≡ sh → kinds table t ≡ kinds table want → IsFront (kinds table t) (drop at taken) → Fine (waits_by t sh at) (kinds table want)
  waits_fine at t want (shape.Whole low high) is same front =
      let one : kinds table want ≡ sort.Int ∷ [] = ap (map kind_of) (laws.whole want low high is) in
      checked_fine (Waiting at) low high sort.Int (kinds table want) one tt (λ m f. waiting_reads at sort.Int (subst (λ ks. IsFront ks (drop at taken)) (same ∙ one) front) m)
  waits_fine at t want (shape.Listed literals low high) is same front =
      let one : kinds table want ≡ sort.Enum ∷ [] = ap (map kind_of) (laws.listed want low high literals is) in
      checked_fine (Waiting at) (pos low) (pos high) sort.Enum (kinds table want) one tt (λ m f. waiting_reads at sort.Enum (subst (λ ks. IsFront ks (drop at taken)) (same ∙ one) front) m)
  waits_fine at t want (shape.Access d constant named) is same front =
      let one : kinds table want ≡ sort.Access ∷ [] = ap (map kind_of) (laws.access want d constant named is) in
      looked_fine (Waiting at) (kinds table want) one (λ m f. waiting_reads at sort.Access (subst (λ ks. IsFront ks (drop at taken)) (same ∙ one) front) m)
  waits_fine at t want (shape.Fields cs) is same front = all_waits_fine at t want same front
  waits_fine at t want (shape.Elements low high element) is same front = all_waits_fine at t want same front
  waits_fine at t want (shape.Same of) is same front = all_waits_fine at t want same front

  same_number : (a b : ℕ) → (a == b) ≡ true → a ≡ b
  same_number a b e = grind (arith, nat_tests)

  waited_fine : (k want t : ℕ) (v : Fill) → waited_value c k want t ≡ Some v → Fine v (kinds table want)
  waited_fine k want t v is = by (slice_get c.takes k) refl is
    where
      by : (x : Option ℕ) → slice_get c.takes k ≡ x → (if taken_is t x && one_type table t want then Some (waits_by t (shape_of table want) (words_before_value c k)) else None) ≡ Some v → Fine v (kinds table want)
      by None found e = impossible v e
      by (Some w) found e =
          let sure = if_some ((w == t) && one_type table t want) (Some (waits_by t (shape_of table want) (words_before_value c k))) v e in
          let two = both_true (w == t) (one_type table t want) sure.0 in
          subst (λ x. Fine x (kinds table want)) (some_same (waits_by t (shape_of table want) (words_before_value c k)) v sure.1)
          (waits_fine (words_before_value c k) t want (shape_of table want) refl (one_kinds table t want two.1)
          (subst (λ n. IsFront (kinds table n) (drop (words_before_value c k) taken)) (same_number w t two.0) (has.waits k w found)))

  -- ---- the law

  null_reads : (m : Flat) → Looks m here taken (Number (pos 0)) sort.Access
  unfolding Looks
  null_reads m = refl

  null_fine : (want : ℕ) (v : Fill) → (if is_pointer (sorts table want) then Some (LookedAt (Number (pos 0))) else None) ≡ Some v → Fine v (kinds table want)
  null_fine want v e =
      let sure = if_some (is_pointer (sorts table want)) (Some (LookedAt (Number (pos 0)))) v e in
      subst (λ x. Fine x (kinds table want)) (some_same (LookedAt (Number (pos 0))) v sure.1) (looked_fine (Number (pos 0)) (kinds table want) (pointer_kinds (sorts table want) sure.0) (λ m f. null_reads m))

  both_fine : (a b : Fill) (is js ks : List Kind) → ks ≡ is ++ js → Fine a is → Fine b js → Fine (Both a b) ks
  unfolding LooksFill
  both_fine a b is js ks same first second = (is, js, same, first, second)

  empty_fine : Fine Empty []
  unfolding LooksFill
  empty_fine = refl

  new_fine : (a : Fill) (t want : ℕ) → kinds table want ≡ sort.Access ∷ [] → Fine a (kinds table t) → Fine (codes.New a t) (kinds table want)
  unfolding LooksFill
  new_fine a t want is fine = (is, fine)

  pub default_fine : (t : ℕ) → Fine (Default t) (kinds table t)
  unfolding LooksFill
  default_fine t = defaults_numbers table t

  repeated_fine : (v : Fill) (n : ℕ) (js ks : List Kind) → ks ≡ kinds_repeated n js → Fine v js → Fine (Repeated v n) ks
  unfolding LooksFill
  repeated_fine v n js ks is fine = (js, is, fine)

  aggregate_kinds : (t : ℕ) (es : TypedTree) → is_composite (shape_of table t) ≡ true → (tree_count es == field_count (shape_of table t)) ≡ true → map kind_of (rest_sorts table (shape_of table t) 0 es) ≡ kinds table t
  aggregate_kinds t es composite count = by (shape_of table t) refl composite (same_number (tree_count es) (field_count (shape_of table t)) count)
    where
      by : (sh : Shape) → shape_of table t ≡ sh → is_composite sh ≡ true → tree_count es ≡ field_count sh → map kind_of (rest_sorts table sh 0 es) ≡ kinds table t
      by (shape.Fields cs) is f e =
          let all : 0 + tree_count es ≡ length cs = omega (arith, e) in
          ap (map kind_of) (record_sorts table cs es 0 all ∙ sym (laws.fields t cs is))
      by (shape.Elements low high element) is f e =
          ap (map kind_of) (array_sorts table low high element es 0 ∙ (ap (λ n. repeated_sorts n (sorts table element)) e ∙ sym (laws.elements t element low high is)))
      by (shape.Whole low high) is f e = cc
      by (shape.Listed literals low high) is f e = cc
      by (shape.Access d constant named) is f e = cc
      by (shape.Same of) is f e = cc

  array_kinds : (t : ℕ) → is_array (shape_of table t) ≡ true → kinds table t ≡ kinds_repeated (element_count table t) (kinds table (element_type table t))
  array_kinds t is = by (shape_of table t) refl is
    where
      by : (sh : Shape) → shape_of table t ≡ sh → is_array sh ≡ true → kinds table t ≡ kinds_repeated (machine.count_of sh) (kinds table (machine.element_of sh))
      by (shape.Elements low high element) shape_is f = ap (map kind_of) (laws.elements t element low high shape_is) ∙ repeated_kinds (span low high) (sorts table element)
      by (shape.Whole low high) shape_is f = cc
      by (shape.Listed literals low high) shape_is f = cc
      by (shape.Access d constant named) shape_is f = cc
      by (shape.Fields cs) shape_is f = cc
      by (shape.Same of) shape_is f = cc

  mutual
    unfolding value parts first_value

    pub value_fine : (e : TypedTree) (k : ℕ) (u : Use) (want : ℕ) (v : Fill) → value c k u want e ≡ Some v → Fine v (kinds table want)
    value_fine typed.Null k u want v is = null_fine want v is
    value_fine (Name p x steps t) k u want v is =
        let q = and_then_some (place_value table u want) (place c k (Name p x steps t)) v is in value_at_place u want q.0 v (named_at k x t steps q.0 q.1) q.2
    value_fine (Call p sub actuals) k u want v is = let t = and_then_some (waited_value c k want) (sub_at c.typing sub).result v is in waited_fine k want t.0 v t.2
    value_fine (Parens e) k u want v is = value_fine e k AsValue want v is
    value_fine (Aggregate t es) k u want v is =
        let sure = if_some (are_composite table want t && (one_type table t want && (tree_count es == field_count (shape_of table t)))) (parts c k t 0 es) v is in
        let first = both_true (are_composite table want t) (one_type table t want && (tree_count es == field_count (shape_of table t))) sure.0 in
        let composite = both_true (is_composite (shape_of table want)) (is_composite (shape_of table t)) first.0 in
        let second = both_true (one_type table t want) (tree_count es == field_count (shape_of table t)) first.1 in
        subst (Fine v) (aggregate_kinds t es composite.1 second.1 ∙ one_kinds table t want second.0) (parts_fine es k t 0 v sure.1)
    value_fine (Alike t e) k u want v is =
        let sure = if_some (are_composite table want t && (one_type table t want && is_array (shape_of table t))) (option_map (λ w. Repeated w (element_count table t)) (value c k AsValue (element_type table t) e)) v is in
        let first = both_true (are_composite table want t) (one_type table t want && is_array (shape_of table t)) sure.0 in
        let second = both_true (one_type table t want) (is_array (shape_of table t)) first.1 in
        let on = map_some (λ w. Repeated w (element_count table t)) (value c k AsValue (element_type table t) e) v sure.1 in
        subst (λ x. Fine x (kinds table want)) on.2
        (repeated_fine on.0 (element_count table t) (kinds table (element_type table t)) (kinds table want) (sym (one_kinds table t want second.0) ∙ array_kinds t second.1) (value_fine e k AsValue (element_type table t) on.0 on.1))
    value_fine (New t e) k u want v is =
        let sure = if_some (points_to table t (sorts table want)) (option_map (λ a. codes.New a t) (first_value c k t e)) v is in
        let on = map_some (λ a. codes.New a t) (first_value c k t e) v sure.1 in
        subst (λ x. Fine x (kinds table want)) on.2 (new_fine on.0 t want (points_kinds table t (sorts table want) sure.0) (first_fine e k t on.0 on.1))
    value_fine e k u want v is = lowered_fine want k u e v is

    pub parts_fine : (es : TypedTree) (k t i : ℕ) (v : Fill) → parts c k t i es ≡ Some v → Fine v (map kind_of (rest_sorts table (shape_of table t) i es))
    parts_fine (More e rest) k t i v is =
        let two = both_some (value c k AsValue (part_type (shape_of table t) i) e) (parts c (k + waiting e) t (suc i) rest) v is in
        subst (λ x. Fine x (map kind_of (sorts table (part_type (shape_of table t) i) ++ rest_sorts table (shape_of table t) (suc i) rest))) two.4
        (both_fine two.0 two.1 (kinds table (part_type (shape_of table t) i)) (map kind_of (rest_sorts table (shape_of table t) (suc i) rest))
        (map kind_of (sorts table (part_type (shape_of table t) i) ++ rest_sorts table (shape_of table t) (suc i) rest))
        (map-append kind_of (sorts table (part_type (shape_of table t) i)) (rest_sorts table (shape_of table t) (suc i) rest))
        (value_fine e k AsValue (part_type (shape_of table t) i) two.0 two.2) (parts_fine rest (k + waiting e) t (suc i) two.1 two.3))
    parts_fine NoMore k t i v is = subst (λ x. Fine x []) (some_same Empty v is) empty_fine
    parts_fine _ k t i v is = impossible v is

    pub first_fine : (es : TypedTree) (k t : ℕ) (v : Fill) → first_value c k t es ≡ Some v → Fine v (kinds table t)
    first_fine (More e NoMore) k t v is = value_fine e k AsValue t v is
    first_fine NoMore k t v is = subst (λ x. Fine x (kinds table t)) (some_same (Default t) v is) (default_fine t)
    first_fine _ k t v is = impossible v is
