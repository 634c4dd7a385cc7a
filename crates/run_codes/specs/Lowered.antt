-- From typed expressions to codes. What isn't typed has none.
use Rattle.std.specs.Prelude.{ℕ, suc, zero, ◌+◌, Bool, true, false, ◌&&◌, ◌||◌, ◌==◌, List, [], ◌∷◌, map, sum, take, slice_get, nat_lt, nat_le, Option, Some, None, is_some, option_and_then, ℤ, pos, if◌then◌else◌}
use Rattle.machine.specs.resolved_tree.declared.operator.Operator.{Operator}
use Rattle.machine.specs.resolved_tree.declared.operator.UnaryOperator.{UnaryOperator}
use Rattle.machine.specs.typed_tree.declared.node.ShortCircuit.{ShortCircuit}
use Rattle.kept_cells.specs.run_values.declared.value.Kind.{Kind}
use Rattle.kept_cells.specs.run_values.declared.value.Kind.TheVariants as sort
use Rattle.kept_cells.specs.run_values.Arithmetic.{is_integer}
use Rattle.machine.specs.type_definitions.declared.table.Shape.{Shape}
use Rattle.machine.specs.type_definitions.declared.table.Shape.TheVariants as shape
use Rattle.machine.specs.type_definitions.Types.{Table, shape_of, words, is_owning}
use Rattle.machine.specs.type_definitions.Entries.{boolean}
use Rattle.machine.specs.typed_tree.Trees.{TypedTree, Name, Component as IntoComponent, Designated, Element, Call, EndOfFile, Parens, Aggregate, Alike, New, NoMore, More}
use Rattle.machine.specs.typed_tree.Trees as typed
use Rattle.machine.specs.flow_paths.Objects.{Typing, object_at, sub_at, is_package_object}
use Rattle.machine.specs.flow_paths.Names.{has_call, waiting}
use Rattle.machine.specs.Words.{component_type, words_before, element_type, element_count}
use Rattle.machine.specs.Typed.{Sort, Whole, Position, Pointer, sorts, same_sorts, is_pointer, points_to, takes_whole, takes_truth, compares_words, is_not, field_count, is_record, is_array, has_bounds, designates, tree_count}
use Rattle.machine.specs.Evaluate.{Use, AsValue, AsView, part_type}
use Rattle.run_codes.specs.Codes.{Code, Number, Local, Global, Via, Scaled, Plus, Unary, Binary, Short, IsNull, Waiting, Place, InFrame, InPackages, Behind, Fill, Checked, Pointer as LookedAt, MovedPointer, Copied, Moved, Waited, Default, Repeated, Both, Empty}
use Rattle.run_codes.specs.Codes as codes
use Rattle.run_codes.specs.Flat.{kind_of}

-- ---- where objects lie

-- An object that has room in a frame, and whether it is the parameter of a loop.
pub record Kept : Type 0 where
  pub object : ℕ
  pub loops : Bool

-- The words of a loop, which lie after its parameter: its bounds, and whether its first turn is to come.
abbrev pub loop_words : ℕ
loop_words = 3

abbrev pub kept_words : Typing → Kept → ℕ
kept_words s k = words s.table (object_at s k.object).of + (if k.loops then loop_words else 0)

-- The offset of an object.
abbrev pub offset_from : Typing → ℕ → List Kept → ℕ → Option ℕ
offset_from s at [] x = None
offset_from s at (k ∷ rest) x = if k.object == x then Some at else offset_from s (at + kept_words s k) rest x

-- What expressions of a subprogram are lowered by: the objects of its frame, and those of packages, in the
-- order of their offsets; and the types of the values that the point takes.
pub record Site : Type 0 where
  pub typing : Typing
  pub own : List Kept
  pub package_objects : List Kept
  pub takes : List ℕ

abbrev pub offset_of : Site → ℕ → Option ℕ
offset_of c x = offset_from c.typing 0 c.own x

abbrev pub package_offset : Site → ℕ → Option ℕ
package_offset c x = offset_from c.typing 0 c.package_objects x

abbrev pub no_index : Code
no_index = Number (pos 0)

-- A place, and the type of what stands there.
pub record Placed : Type 0 where
  pub place : Place
  pub of : ℕ

abbrev pub in_frame : ℕ → ℕ → Placed
in_frame of at = record { place = InFrame at no_index; of = of }

abbrev pub in_packages : ℕ → ℕ → Placed
in_packages of at = record { place = InPackages at no_index; of = of }

abbrev pub option_map : {A B : Type 0} → (A → B) → Option A → Option B
option_map f None = None
option_map f (Some a) = Some (f a)

-- The whole of an object.
abbrev pub object_place : Site → ℕ → Option Placed
object_place c x =
    if is_package_object c.typing x then option_map (in_packages (object_at c.typing x).of) (package_offset c x)
    else option_map (in_frame (object_at c.typing x).of) (offset_of c x)

-- ---- places

-- The word of a kind at a place.
abbrev pub load : Kind → Place → Code
load k (InFrame at i) = Local at i
load k (InPackages at i) = Global at i
load k (Behind p at i) = Via p at i k

abbrev pub moved_by : ℕ → Place → Place
moved_by n (InFrame at i) = InFrame (at + n) i
moved_by n (InPackages at i) = InPackages (at + n) i
moved_by n (Behind p at i) = Behind p (at + n) i

-- Both offsets.
abbrev pub joined : Code → Code → Code
joined (Number (pos zero)) b = b
joined a b = Plus a b

abbrev pub indexed_by : Code → Place → Place
indexed_by j (InFrame at i) = InFrame at (joined i j)
indexed_by j (InPackages at i) = InPackages at (joined i j)
indexed_by j (Behind p at i) = Behind p at (joined i j)

-- A component, an element, and what is designated.
abbrev pub component_of : Table → ℕ → Placed → Option Placed
component_of table i p =
    if is_record (shape_of table p.of) && nat_lt i (field_count (shape_of table p.of))
    then Some (record { place = moved_by (words_before table p.of i) p.place; of = component_type table p.of i }) else None

abbrev pub element_of : Table → Code → ℤ → ℤ → Placed → Option Placed
element_of table i low high p =
    if has_bounds low high (shape_of table p.of)
    then Some (record {
      place = indexed_by (Scaled i low high (words table (element_type table p.of))) p.place;
      of = element_type table p.of;
    }) else None

abbrev pub designated_of : Table → Placed → Option Placed
designated_of table p =
    option_map (λ d. record { place = Behind (load sort.Access p.place) 0 no_index; of = d }) (designates (shape_of table p.of))

-- ---- words

-- A code, and the sort of its word.
pub record Lowered : Type 0 where
  pub code : Code
  pub sort : Sort

abbrev pub of_sort : Code → Sort → Option Lowered
of_sort c s = Some (record { code = c; sort = s })

abbrev pub sort_of : Shape → Option Sort
sort_of (shape.Whole low high) = Some Whole
sort_of (shape.Listed literals low high) = Some Position
sort_of (shape.Access designated constant named) = Some (Pointer designated)
sort_of _ = None

abbrev pub whole_code : Lowered → Option Code
whole_code l = of_whole l.code l.sort
  where
    of_whole : Code → Sort → Option Code
    of_whole c Whole = Some c
    of_whole c _ = None

-- A place is used: what is of an owning type is taken away.
abbrev pub is_taken : Table → Use → ℕ → Bool
is_taken table AsView of = false
is_taken table AsValue of = is_owning table of

-- What is taken away is no code.
abbrev pub loaded : Place → Option Sort → Option Lowered
loaded p None = None
loaded p (Some s) = of_sort (load (kind_of s) p) s

abbrev pub named : Table → Use → Placed → Option Lowered
named table u p = if is_taken table u p.of then None else loaded p.place (sort_of (shape_of table p.of))

-- The k-th value that the point takes is of a type.
abbrev pub is_nth : Site → ℕ → ℕ → Bool
is_nth c k t = is_that (slice_get c.takes k)
  where
    is_that : Option ℕ → Bool
    is_that None = false
    is_that (Some u) = u == t

abbrev pub words_before_value : Site → ℕ → ℕ
words_before_value c k = sum (map (words c.typing.table) (take k c.takes))

abbrev pub waited : Site → ℕ → ℕ → Option Lowered
waited c k t =
    if is_nth c k t then option_map (λ s. record { code = Waiting (words_before_value c k); sort = s }) (sort_of (shape_of c.typing.table t))
    else None

abbrev pub unary : UnaryOperator → Lowered → Option Lowered
unary op a = by_sort a.sort
  where
    by_sort : Sort → Option Lowered
    by_sort Whole = if is_not op then None else of_sort (Unary op a.code) Whole
    by_sort Position = if is_not op then of_sort (Unary op a.code) Position else None
    by_sort (Pointer d) = None

abbrev pub binary : Operator → Lowered → Lowered → Option Lowered
binary op a b = by_sorts a.sort b.sort
  where
    by_sorts : Sort → Sort → Option Lowered
    by_sorts Whole Whole =
        if takes_whole op then of_sort (Binary op a.code b.code) Whole
        else (if compares_words op then of_sort (Binary op a.code b.code) Position else None)
    by_sorts Position Position =
        if takes_truth op then of_sort (Binary op a.code b.code) Position
        else (if compares_words op then of_sort (Binary op a.code b.code) Position else None)
    by_sorts _ _ = None

abbrev pub short_circuit : ShortCircuit → Lowered → Lowered → Option Lowered
short_circuit op a b = by_sorts a.sort b.sort
  where
    by_sorts : Sort → Sort → Option Lowered
    by_sorts Position Position = of_sort (Short op a.code b.code) Position
    by_sorts _ _ = None

abbrev pub null_test : Bool → Lowered → Option Lowered
null_test equal a = by_sort a.sort
  where
    by_sort : Sort → Option Lowered
    by_sort (Pointer d) = of_sort (IsNull equal a.code) Position
    by_sort _ = None

-- Positions are in the range of values of Integer.
abbrev pub max_position : ℕ
max_position = 2147483647

-- A name, an expression: k values that the point takes are taken before.
unfoldable mutual
  pub lowered : Site → ℕ → Use → TypedTree → Option Lowered
  lowered c k u (typed.Number v) = if is_integer v then of_sort (Number v) Whole else None
  lowered c k u (typed.Literal n) = if nat_le n max_position then of_sort (Number (pos n)) Position else None
  lowered c k u (Name p x steps t) =
      option_and_then (λ q. if q.of == t then named c.typing.table u q else None)
      (option_and_then (λ q. led c k q steps) (object_place c x))
  lowered c k u (Call p sub actuals) = option_and_then (waited c k) (sub_at c.typing sub).result
  lowered c k u EndOfFile = of_sort codes.EndOfFile Position
  lowered c k u (Parens e) = lowered c k AsValue e
  lowered c k u (typed.Unary op e) = option_and_then (unary op) (lowered c k AsValue e)
  lowered c k u (typed.Binary op a b) =
      option_and_then (λ l. option_and_then (binary op l) (lowered c (k + waiting a) AsValue b)) (lowered c k AsValue a)
  lowered c k u (typed.Short op p a q b) =
      if has_call b then waited c k boolean
      else option_and_then (λ l. option_and_then (short_circuit op l) (lowered c (k + waiting a) AsValue b)) (lowered c k AsValue a)
  lowered c k u (typed.IsNull equal e) = option_and_then (null_test equal) (lowered c k AsView e)
  lowered c k u _ = None

  -- where the steps of a name lead
  pub led : Site → ℕ → Placed → TypedTree → Option Placed
  led c k p (IntoComponent i rest) = option_and_then (λ q. led c k q rest) (component_of c.typing.table i p)
  led c k p (Element index low high rest) =
      option_and_then (λ i. option_and_then (λ q. led c (k + waiting index) q rest) (element_of c.typing.table i low high p))
      (option_and_then whole_code (lowered c k AsValue index))
  led c k p (Designated rest) = option_and_then (λ q. led c k q rest) (designated_of c.typing.table p)
  led c k p NoMore = Some p
  led c k p _ = None

-- The place of a name. The type that is kept of it is the one that its steps reach.
abbrev pub place : Site → ℕ → TypedTree → Option Placed
place c k (Name p x steps t) =
    option_and_then (λ q. if q.of == t then Some q else None) (option_and_then (λ q. led c k q steps) (object_place c x))
place c k _ = None

-- ---- values

-- The bounds of a scalar type, and the sort of its word.
pub record Scalar : Type 0 where
  pub sort : Sort
  pub low : ℤ
  pub high : ℤ

abbrev pub scalar_of : Shape → Option Scalar
scalar_of (shape.Whole low high) = Some (record { sort = Whole; low = low; high = high })
scalar_of (shape.Listed literals low high) = Some (record { sort = Position; low = pos low; high = pos high })
scalar_of _ = None

abbrev pub same_scalar : Sort → Sort → Bool
same_scalar Whole Whole = true
same_scalar Position Position = true
same_scalar _ _ = false

-- A scalar value, within the bounds of the type that takes it.
abbrev pub scalar : Table → ℕ → Lowered → Option Fill
scalar table want l =
    option_and_then (λ (s : Scalar). if same_scalar s.sort l.sort then Some (Checked l.code s.low s.high) else None) (scalar_of (shape_of table want))

abbrev pub one_type : Table → ℕ → ℕ → Bool
one_type table t u = same_sorts table (sorts table t) (sorts table u)

abbrev pub is_access : Shape → Bool
is_access s = is_some (designates s)

-- A type of which there are aggregates.
abbrev pub is_composite : Shape → Bool
is_composite s = is_record s || is_array s

-- What a place has, as a value that a place of a type takes.
abbrev pub place_value : Table → Use → ℕ → Placed → Option Fill
place_value table u want p =
    if one_type table p.of want then by_shape (shape_of table want) (is_taken table u p.of) else None
  where
    by_shape : Shape → Bool → Option Fill
    by_shape (shape.Whole low high) true = None
    by_shape (shape.Whole low high) false = Some (Checked (load sort.Int p.place) low high)
    by_shape (shape.Listed literals low high) true = None
    by_shape (shape.Listed literals low high) false = Some (Checked (load sort.Enum p.place) (pos low) (pos high))
    by_shape (shape.Access designated constant named) true = if is_access (shape_of table p.of) then Some (MovedPointer p.place) else None
    by_shape (shape.Access designated constant named) false = Some (LookedAt (load sort.Access p.place))
    by_shape _ true = Some (Moved p.place p.of)
    by_shape _ false = Some (Copied p.place p.of)

-- The value that waits.
abbrev pub waited_value : Site → ℕ → ℕ → ℕ → Option Fill
waited_value c k want t =
    if is_nth c k t && one_type c.typing.table t want then Some (by_shape (shape_of c.typing.table want) (words_before_value c k)) else None
  where
    by_shape : Shape → ℕ → Fill
    by_shape (shape.Whole low high) at = Checked (Waiting at) low high
    by_shape (shape.Listed literals low high) at = Checked (Waiting at) (pos low) (pos high)
    by_shape (shape.Access designated constant named) at = LookedAt (Waiting at)
    by_shape _ at = Waited at (words c.typing.table t)

abbrev pub are_composite : Table → ℕ → ℕ → Bool
are_composite table want t = is_composite (shape_of table want) && is_composite (shape_of table t)

abbrev pub both : Option Fill → Option Fill → Option Fill
both (Some a) (Some b) = Some (Both a b)
both _ _ = None

unfoldable mutual
  -- A value that a place of a type takes, within its bounds where it is scalar.
  pub value : Site → ℕ → Use → ℕ → TypedTree → Option Fill
  value c k u want typed.Null = if is_pointer (sorts c.typing.table want) then Some (LookedAt (Number (pos 0))) else None
  value c k u want (Name p x steps t) = option_and_then (place_value c.typing.table u want) (place c k (Name p x steps t))
  value c k u want (Call p sub actuals) = option_and_then (waited_value c k want) (sub_at c.typing sub).result
  value c k u want (Parens e) = value c k AsValue want e
  value c k u want (Aggregate t es) =
      if are_composite c.typing.table want t && (one_type c.typing.table t want && (tree_count es == field_count (shape_of c.typing.table t)))
      then parts c k t 0 es else None
  value c k u want (Alike t e) =
      if are_composite c.typing.table want t && (one_type c.typing.table t want && is_array (shape_of c.typing.table t))
      then option_map (λ v. Repeated v (element_count c.typing.table t)) (value c k AsValue (element_type c.typing.table t) e) else None
  value c k u want (New t v) =
      if points_to c.typing.table t (sorts c.typing.table want) then option_map (λ a. codes.New a t) (first_value c k t v) else None
  value c k u want e = option_and_then (scalar c.typing.table want) (lowered c k u e)

  -- components or elements from the i-th on
  pub parts : Site → ℕ → ℕ → ℕ → TypedTree → Option Fill
  parts c k t i (More e rest) =
      both (value c k AsValue (part_type (shape_of c.typing.table t) i) e) (parts c (k + waiting e) t (suc i) rest)
  parts c k t i NoMore = Some Empty
  parts c k t i _ = None

  -- an initial value, or what an object without one has
  pub first_value : Site → ℕ → ℕ → TypedTree → Option Fill
  first_value c k t (More e NoMore) = value c k AsValue t e
  first_value c k t NoMore = Some (Default t)
  first_value c k t _ = None
