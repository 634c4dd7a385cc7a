-- A value that is lowered as a scalar within bounds goes to a place of a scalar type.
use Rattle.std.proofs.Common.{◌≡◌, ℕ, suc, ◌+◌, true, false, Bool, ◌&&◌, [], ◌∷◌, map, refl, sym, ap, ◌∙◌, Option, Some, None, pos, if◌then◌else◌}
use Rattle.std.specs.Prelude.{◌==◌}
use Rattle.run_values.specs.declared.value.Kind.TheVariants as sort
use Rattle.type_definitions.specs.declared.table.Shape.{Shape}
use Rattle.type_definitions.specs.declared.table.Shape.TheVariants as shape
use Rattle.type_definitions.specs.Types.{Table, shape_of, words}
use Rattle.typed_tree.specs.Trees.{TypedTree, Name, Call, Parens, Aggregate, Alike, New, NoMore, More}
use Rattle.typed_tree.specs.Trees as typed
use Rattle.flow_paths.specs.Objects.{sub_at}
use Rattle.flow_paths.specs.Names.{waiting}
use Rattle.machine.specs.Words.{access_offsets, element_type, element_count}
use Rattle.machine.specs.Typed.{Whole, Position, Pointer, sorts, is_pointer, points_to, is_array, field_count, tree_count}
use Rattle.machine.specs.Evaluate.{Use, AsValue, part_type}
use Rattle.run_codes.specs.Codes.{Code, Number, Waiting, Fill, Checked, Pointer as LookedAt, MovedPointer, Copied, Moved, Waited, Repeated, Both, Empty}
use Rattle.run_codes.specs.Codes as codes
use Rattle.run_codes.specs.Flat.{kinds, kind_of}
use Rattle.run_codes.specs.Lowered.{Site, Placed, load, lowered, place, place_value, waited_value, scalar, scalar_of, same_scalar, Scalar, one_type, is_nth, is_taken, is_access, are_composite, words_before_value, option_map, both, value, parts, first_value}
use Rattle.run_codes.specs.Programs.{is_scalar_shape, kind_at}
use Rattle.run_codes.specs.Related.{IsTable}
use Rattle.run_codes.proofs.Places.{impossible, some_same, if_some}
use Rattle.run_codes.proofs.Expressions.{and_then_some, map_some}
use Rattle.run_points.proofs.Owning.{not_access}

-- ---- which values are so

abbrev pub is_checked : Fill → Bool
is_checked (Checked c low high) = true
is_checked _ = false

never : {A : Type 0} → false ≡ true → A
never is = absurd (no_way is)
  where
    no_way : false ≡ true → ⊥
    no_way is = cc

-- Another value isn't.
other : {A : Type 0} (v w : Fill) → is_checked v ≡ false → is_checked w ≡ true → Some v ≡ Some w → A
other v w lacks has same = never (sym lacks ∙ ap is_checked (some_same v w same) ∙ has)

place_scalar : (table : Table) (u : Use) (want : ℕ) (p : Placed) (w : Fill) → is_checked w ≡ true → place_value table u want p ≡ Some w → is_scalar_shape (shape_of table want) ≡ true
place_scalar table u want p w has is =
    let sure = if_some (one_type table p.of want) (by_shape (shape_of table want) (is_taken table u p.of)) w is in
    by (shape_of table want) (is_taken table u p.of) sure.1
  where
    by_shape : Shape → Bool → Option Fill
    by_shape (shape.Whole low high) true = None
    by_shape (shape.Whole low high) false = Some (Checked (load sort.Int p.place) low high)
    by_shape (shape.Listed literals low high) true = None
    by_shape (shape.Listed literals low high) false = Some (Checked (load sort.Enum p.place) (pos low) (pos high))
    by_shape (shape.Access designated constant named) true = if is_access (shape_of table p.of) then Some (MovedPointer p.place) else None
    by_shape (shape.Access designated constant named) false = Some (LookedAt (load sort.Access p.place))
    by_shape _ true = Some (Moved p.place p.of)
    by_shape _ false = Some (Copied p.place p.of)

    by : (sh : Shape) (b : Bool) → by_shape sh b ≡ Some w → is_scalar_shape sh ≡ true
    by (shape.Whole low high) b is = refl
    by (shape.Listed literals low high) b is = refl
    by (shape.Access d constant named) true is = other (MovedPointer p.place) w refl has (if_some (is_access (shape_of table p.of)) (Some (MovedPointer p.place)) w is).1
    by (shape.Access d constant named) false is = other (LookedAt (load sort.Access p.place)) w refl has is
    by (shape.Fields components) true is = other (Moved p.place p.of) w refl has is
    by (shape.Fields components) false is = other (Copied p.place p.of) w refl has is
    by (shape.Elements low high element) true is = other (Moved p.place p.of) w refl has is
    by (shape.Elements low high element) false is = other (Copied p.place p.of) w refl has is
    by (shape.Same of) true is = other (Moved p.place p.of) w refl has is
    by (shape.Same of) false is = other (Copied p.place p.of) w refl has is

waited_scalar : (c : Site) (k want t : ℕ) (w : Fill) → is_checked w ≡ true → waited_value c k want t ≡ Some w → is_scalar_shape (shape_of c.typing.table want) ≡ true
waited_scalar c k want t w has is =
    let sure = if_some (is_nth c k t && one_type c.typing.table t want) (Some (by_shape (shape_of c.typing.table want) (words_before_value c k))) w is in
    by (shape_of c.typing.table want) sure.1
  where
    by_shape : Shape → ℕ → Fill
    by_shape (shape.Whole low high) at = Checked (Waiting at) low high
    by_shape (shape.Listed literals low high) at = Checked (Waiting at) (pos low) (pos high)
    by_shape (shape.Access designated constant named) at = LookedAt (Waiting at)
    by_shape _ at = Waited at (words c.typing.table t)

    by : (sh : Shape) → Some (by_shape sh (words_before_value c k)) ≡ Some w → is_scalar_shape sh ≡ true
    by (shape.Whole low high) is = refl
    by (shape.Listed literals low high) is = refl
    by (shape.Access d constant named) is = other (LookedAt (Waiting (words_before_value c k))) w refl has is
    by (shape.Fields components) is = other (Waited (words_before_value c k) (words c.typing.table t)) w refl has is
    by (shape.Elements low high element) is = other (Waited (words_before_value c k) (words c.typing.table t)) w refl has is
    by (shape.Same of) is = other (Waited (words_before_value c k) (words c.typing.table t)) w refl has is

both_scalar : {A : Type 0} (a b : Option Fill) (w : Fill) → is_checked w ≡ true → both a b ≡ Some w → A
both_scalar (Some x) (Some y) w has is = other (Both x y) w refl has is
both_scalar (Some x) None w has is = impossible w is
both_scalar None b w has is = impossible w is

parts_scalar : {A : Type 0} (c : Site) (k t i : ℕ) (e : TypedTree) (w : Fill) → is_checked w ≡ true → parts c k t i e ≡ Some w → A
unfolding parts
parts_scalar c k t i (More e rest) w has is = both_scalar (value c k AsValue (part_type (shape_of c.typing.table t) i) e) (parts c (k + waiting e) t (suc i) rest) w has is
parts_scalar c k t i NoMore w has is = other Empty w refl has is
parts_scalar c k t i _ w has is = impossible w is

pub value_scalar : (c : Site) (k : ℕ) (u : Use) (want : ℕ) (e : TypedTree) (w : Fill) → is_checked w ≡ true → value c k u want e ≡ Some w → is_scalar_shape (shape_of c.typing.table want) ≡ true
unfolding value
value_scalar c k u want typed.Null w has is = other (LookedAt (Number (pos 0))) w refl has (if_some (is_pointer (sorts c.typing.table want)) (Some (LookedAt (Number (pos 0)))) w is).1
value_scalar c k u want (Name p x steps t) w has is =
    let q = and_then_some (place_value c.typing.table u want) (place c k (Name p x steps t)) w is in
    place_scalar c.typing.table u want q.0 w has q.2
value_scalar c k u want (Call p sub actuals) w has is =
    let t = and_then_some (waited_value c k want) (sub_at c.typing sub).result w is in
    waited_scalar c k want t.0 w has t.2
value_scalar c k u want (Parens e) w has is = value_scalar c k AsValue want e w has is
value_scalar c k u want (Aggregate t es) w has is =
    parts_scalar c k t 0 es w has
    (if_some (are_composite c.typing.table want t && (one_type c.typing.table t want && (tree_count es == field_count (shape_of c.typing.table t)))) (parts c k t 0 es) w is).1
value_scalar c k u want (Alike t e) w has is =
    let sure = if_some (are_composite c.typing.table want t && (one_type c.typing.table t want && is_array (shape_of c.typing.table t)))
    (option_map (λ v. Repeated v (element_count c.typing.table t)) (value c k AsValue (element_type c.typing.table t) e)) w is in
    let v = map_some (λ v. Repeated v (element_count c.typing.table t)) (value c k AsValue (element_type c.typing.table t) e) w sure.1 in
    other (Repeated v.0 (element_count c.typing.table t)) w refl has (ap (λ x. Some x) v.2)
value_scalar c k u want (New t v) w has is =
    let sure = if_some (points_to c.typing.table t (sorts c.typing.table want)) (option_map (λ a. codes.New a t) (first_value c k t v)) w is in
    let a = map_some (λ a. codes.New a t) (first_value c k t v) w sure.1 in
    other (codes.New a.0 t) w refl has (ap (λ x. Some x) a.2)
value_scalar c k u want e w has is =
    let l = and_then_some (scalar c.typing.table want) (lowered c k u e) w is in
    let s = and_then_some (λ (s : Scalar). if same_scalar s.sort l.0.sort then Some (Checked l.0.code s.low s.high) else None) (scalar_of (shape_of c.typing.table want)) w l.2 in
    ap (λ o. is_there o) s.1
  where
    is_there : Option Scalar → Bool
    is_there None = false
    is_there (Some s) = true

-- ---- types of one scalar word

pub record IsScalar (table : Table) (t : ℕ) : Type 0 where
  pub kinds : kind_at (shape_of table t) ∷ [] ≡ kinds table t
  pub unowned : access_offsets table t ≡ []

pub scalar_type : (table : Table) → IsTable table → (t : ℕ) → is_scalar_shape (shape_of table t) ≡ true → IsScalar table t
scalar_type table laws t is = by (shape_of table t) refl is
  where
    whole_other : (d : ℕ) → Whole ≡ Pointer d → ⊥
    whole_other d is = cc

    position_other : (d : ℕ) → Position ≡ Pointer d → ⊥
    position_other d is = cc

    by : (sh : Shape) → shape_of table t ≡ sh → is_scalar_shape sh ≡ true → IsScalar table t
    by (shape.Whole low high) is sure =
        let one = laws.whole t low high is in
        record { kinds = ap (λ s. kind_at s ∷ []) is ∙ sym (ap (λ l. map kind_of l) one); unowned = not_access table t Whole laws one whole_other }
    by (shape.Listed literals low high) is sure =
        let one = laws.listed t low high literals is in
        record { kinds = ap (λ s. kind_at s ∷ []) is ∙ sym (ap (λ l. map kind_of l) one); unowned = not_access table t Position laws one position_other }
    by (shape.Access d constant named) is sure = never sure
    by (shape.Fields components) is sure = never sure
    by (shape.Elements low high element) is sure = never sure
    by (shape.Same of) is sure = never sure
