-- What the declarations of a program are, gathered in the order of the text: each needs those
-- before it, and the full types of those that are completed later (docs/LANGUAGE.md, "Types"; Ada
-- 2012, 3 and 6.1). A full type takes the place of the incomplete or private type that it
-- completes.
use Rattle.std.specs.Prelude.{ℕ, ◌+◌, ◌-◌, Bool, true, false, not, ◌&&◌, ◌||◌, List, [], ◌∷◌, ◌++◌, length, set, nat_eq, Option, Some, None, is_none, ℤ, pos, negsuc, if◌then◌else◌}
use Rattle.resolved_tree.specs.spark_base.declared.position.Pos.{Pos}
use Rattle.resolved_tree.specs.place_names.declared.act.Mode.{Mode}
use Rattle.resolved_tree.specs.Trees.{Tree, Named, Argument, NoMore, More, nowhere, Code, Declared, Plain, Anonymous, Bounds, Marked, Constrained, Enumeration, Record, Components, Array, Access, Incomplete, Private, TypeDecl, Subtype, ConstrainedSubtype, Objects, Numbers, Instance, Formals, Front, SubDecl, SubBody, Package, PackageBody, If, Branch, Case, When, Loop, While, For, Block}
use Rattle.type_definitions.specs.declared.table.Component.{Component}
use Rattle.type_definitions.specs.declared.table.Shape.{Shape}
use Rattle.type_definitions.specs.declared.table.Shape.TheVariants as shape
use Rattle.type_definitions.specs.declared.table.Info.{Info}
use Rattle.type_definitions.specs.declared.table.InitialValue.{InitialValue}
use Rattle.type_definitions.specs.declared.table.Kind.{Kind}
use Rattle.type_definitions.specs.declared.table.Kind.TheVariants as kind
use Rattle.type_definitions.specs.declared.table.ObjectInfo.{ObjectInfo}
use Rattle.type_definitions.specs.declared.table.FormalInfo.{FormalInfo}
use Rattle.type_definitions.specs.declared.table.Profile.{Profile}
use Rattle.type_definitions.specs.declared.table.Entry.{Entry}
use Rattle.type_definitions.specs.declared.table.Entry.TheVariants as entry
use Rattle.type_definitions.specs.declared.table.Known.{Known}
use Rattle.type_definitions.specs.declared.judgement.View.{View}
use Rattle.type_definitions.specs.declared.judgement.View.TheVariants as view
use Rattle.type_definitions.specs.Types.{info, full, base, is_scalar, is_bounded, is_untyped, untyped}
use Rattle.type_definitions.specs.Entries.{entry_of, integer, marked, denotes_type, same_word}
use Rattle.type_definitions.specs.Names.{Context}
use Rattle.type_definitions.specs.Statics.{is_static, value, is_sound, value_as}
use Rattle.type_definitions.specs.Expressions.{Given, own_type}
use Rattle.type_definitions.specs.Statements.{known_value, type_or_integer, name_name}

-- ---- identifiers that are declared

abbrev pub declared_pos : Code → Pos
declared_pos (Declared p n w) = p
declared_pos _ = nowhere

abbrev pub declared_number : Code → ℕ
declared_number (Declared p n w) = n
declared_number _ = 0

abbrev pub declared_text : Code → List ℕ
declared_text (Declared p n w) = w
declared_text _ = []

abbrev pub texts : Code → List (List ℕ)
texts (More d rest) = declared_text d ∷ texts rest
texts _ = []

-- What each of a list does to what is known, one after the other.
abbrev pub each : (Code → Context → Context) → Code → Context → Context
each f (More a rest) c = each f rest (f a c)
each f _ c = c

-- ---- entries

abbrev pub with_entry : ℕ → Entry → Context → Context
with_entry d e c = record c { known = record c.known { entries = set c.known.entries d e } }

abbrev pub with_info : ℕ → Info → Context → Context
with_info d i c = record c { known = record c.known { table = set c.known.table d i } }

abbrev pub with_type : ℕ → Info → Context → Context
with_type d i c = with_entry d entry.Type (with_info d i c)

abbrev pub own_info : Shape → ℕ → Info
own_info s d = record { shape = s; base = d; parent = None; seen_in = None; completed = None; bounded = true }

-- The type of an object or a result: that of its mark, or the anonymous one of its own declaration.
abbrev pub indicated : Known → ℕ → Code → ℕ
indicated known d (Plain m) = marked known m
indicated known d (Anonymous p constant m) = d
indicated known d _ = integer

abbrev pub with_indication : ℕ → Code → Context → Context
with_indication d (Anonymous p constant m) c = with_info d (own_info (shape.Access (marked c.known m) constant false) d) c
with_indication d _ c = c

-- An indication's mark denotes a type.
abbrev pub indicates_type : Known → Code → Bool
indicates_type known (Plain m) = denotes_type known m.decl
indicates_type known (Anonymous p constant m) = denotes_type known m.decl
indicates_type known _ = true

-- ---- types

-- A type whose full type is declared later has the shape that the table has.
abbrev pub awaited_info : Context → ℕ → Info
awaited_info c d = own_info (info c.known.table d).shape d

-- Whether a bound of a range is static, and of the type that is demanded.
abbrev pub is_bound : Context → ℕ → Tree → Bool
is_bound c b e = is_static c e && is_sound b (value c e)

abbrev pub are_static_bounds : Context → ℕ → Tree → Tree → Bool
are_static_bounds c b low high = is_bound c b low && is_bound c b high

-- The bounds of a range of a type. Where they break K1 or K7, the range has one value.
abbrev pub bound_pair : Context → ℕ → Tree → Tree → ℤ × ℤ
bound_pair c b low high =
    if are_static_bounds c b low high
    then (known_value (value c low), known_value (value c high)) else (pos 1, pos 1)

abbrev pub whole_bounds : View → ℤ × ℤ
whole_bounds (view.Whole low high) = (low, high)
whole_bounds _ = (pos 1, pos 1)

abbrev pub array_bounds : Context → Code → ℤ × ℤ
array_bounds c (Bounds low high) = bound_pair c integer low high
array_bounds c (Constrained m low high) = bound_pair c integer low high
array_bounds c (Marked m) = whole_bounds (full c.known.table (marked c.known m))
array_bounds c _ = (pos 1, pos 1)

abbrev pub is_whole : View → Bool
is_whole (view.Whole low high) = true
is_whole _ = false

-- Whether the bounds of an array are known: they break neither K1 nor K7, nor do those of the subtype
-- in a mark.
abbrev pub is_bounded_range : Context → Code → Bool
is_bounded_range c (Bounds low high) = are_static_bounds c integer low high
is_bounded_range c (Constrained m low high) = are_static_bounds c integer low high
is_bounded_range c (Marked m) = is_whole (full c.known.table (marked c.known m)) && is_bounded c.known.table (marked c.known m)
is_bounded_range c _ = false

-- The components of a list of identifiers with one mark.
abbrev pub component_group : ℕ → Code → List Component
component_group t (More d rest) = record { name = declared_text d; of = t } ∷ component_group t rest
component_group t _ = []

abbrev pub component_groups : Known → Code → List Component
component_groups known (Components names m) = component_group (marked known m) names
component_groups known _ = []

abbrev pub component_list : Known → Code → List Component
component_list known (More group rest) = component_groups known group ++ component_list known rest
component_list known _ = []

abbrev pub defined : Context → Code → Shape
defined c (Enumeration literals) = shape.Listed (texts literals) 0 (length (texts literals) - 1)
defined c (Record components) = shape.Fields (component_list c.known components)
defined c (Array range m) = shape.Elements (array_bounds c range).0 (array_bounds c range).1 (marked c.known m)
defined c (Access m) = shape.Access (marked c.known m) false true
defined c _ = shape.Fields []

-- Whether it is asked which fault is told. Else the bounds of each range count as known.
abbrev pub is_asked : Context → Bool
is_asked c = is_untyped c.known.table untyped

abbrev pub has_bounds : Context → Code → Bool
has_bounds c (Array range m) = not (is_asked c) || is_bounded_range c range
has_bounds c _ = true

abbrev pub with_literals : ℕ → ℕ → Code → Context → Context
with_literals t n (More d rest) c = with_literals t (n + 1) rest (with_entry (declared_number d) (entry.Literal t n) c)
with_literals t n _ c = c

abbrev pub with_definition : ℕ → Code → Context → Context
with_definition t (Enumeration literals) c = with_literals t 0 literals c
with_definition t _ c = c

-- Where a type ends that was declared as an incomplete one.
abbrev pub completion : Option Pos → Pos → Option Pos
completion None end = None
completion (Some p) end = Some end

-- A full type: it is seen where its private type is.
abbrev pub full_info : Context → ℕ → Code → Pos → Info
full_info c d def end = record {
  shape = defined c def;
  base = d;
  parent = None;
  seen_in = (info c.known.table d).seen_in;
  completed = completion (info c.known.table d).completed end;
  bounded = has_bounds c def;
}

abbrev pub natural_of : ℤ → ℕ
natural_of (pos n) = n
natural_of (negsuc n) = 0

-- A subtype with bounds of its own.
abbrev pub constrained_shape : View → ℤ × ℤ → Shape
constrained_shape (view.Whole low high) b = shape.Whole b.0 b.1
constrained_shape (view.Listed low high) b = shape.Listed [] (natural_of b.0) (natural_of b.1)
constrained_shape _ b = shape.Whole b.0 b.1

abbrev pub subtype_info : Known → ℕ → Shape → Bool → Info
subtype_info known parent s bounded = record {
  shape = s;
  base = base known.table parent;
  parent = Some parent;
  seen_in = None;
  completed = None;
  bounded = bounded;
}

-- What a subtype without a constraint is the same as.
abbrev pub meant_by : Shape → ℕ → ℕ
meant_by (shape.Same of) t = of
meant_by _ t = t

-- ---- subprograms

-- A formal without `in` and `out` is `in`. The first formal of a traversal function is traversed.
abbrev pub formal_group : Known → Bool → Mode → Code → Code → List FormalInfo
formal_group known first m of (More d rest) =
    record {
      name = declared_text d;
      mode = m;
      of = indicated known (declared_number d) of;
      typed = indicates_type known of;
      traversed = first;
    } ∷ formal_group known false m of rest
formal_group known first m of _ = []

abbrev pub formal_groups : Known → Bool → Code → List FormalInfo
formal_groups known first (Formals names m of) = formal_group known first m of names
formal_groups known first _ = []

abbrev pub formal_infos : Known → Bool → Code → List FormalInfo
formal_infos known first (More group rest) = formal_groups known first group ++ formal_infos known false rest
formal_infos known first _ = []

abbrev pub is_anonymous_indication : Code → Bool
is_anonymous_indication (Anonymous p constant m) = true
is_anonymous_indication _ = false

-- A traversal function has an anonymous access result.
abbrev pub anonymous_result : Code → Bool
anonymous_result (More i rest) = is_anonymous_indication i
anonymous_result _ = false

abbrev pub result_indicated : Known → ℕ → Code → Option ℕ
result_indicated known d (More i rest) = Some (indicated known d i)
result_indicated known d _ = None

abbrev pub profile_from : Known → ℕ → Code → Code → Profile
profile_from known d formals result = record {
  formals = formal_infos known (anonymous_result result) formals;
  result = result_indicated known d result;
}

abbrev pub profile : Known → Code → Profile
profile known (Front d formals result) = profile_from known (declared_number d) formals result
profile known _ = record { formals = []; result = None }

abbrev pub plain_object : ℕ → Kind → ObjectInfo
plain_object t k = record { of = t; kind = k; in_package = false; is_static = false; value = None }

abbrev pub with_formal : Code → Code → Context → Context
with_formal of d c =
    with_entry (declared_number d) (entry.Object (plain_object (indicated c.known (declared_number d) of) kind.Formal))
    (with_indication (declared_number d) of c)

abbrev pub with_formal_group : Code → Context → Context
with_formal_group (Formals names m of) c = each (with_formal of) names c
with_formal_group _ c = c

abbrev pub with_formals : Code → Context → Context
with_formals (Front d formals result) c = each with_formal_group formals c
with_formals _ c = c

abbrev pub with_result : ℕ → Code → Context → Context
with_result d (More i rest) c = with_indication d i c
with_result d _ c = c

abbrev pub with_profile : ℕ → Code → Context → Context
with_profile d front c = with_entry d (entry.Subprogram (profile c.known front)) c

-- A subprogram and its formals.
abbrev pub with_front : Code → Context → Context
with_front (Front d formals result) c =
    with_profile (declared_number d) (Front d formals result)
    (each with_formal_group formals (with_result (declared_number d) result c))
with_front _ c = c

abbrev pub front_number : Code → ℕ
front_number (Front d formals result) = declared_number d
front_number _ = 0

abbrev pub is_subprogram : Entry → Bool
is_subprogram (entry.Subprogram p) = true
is_subprogram _ = false

-- A body whose declaration stands apart has formals of its own.
abbrev pub with_body_front : Code → Context → Context
with_body_front front c =
    if is_subprogram (entry_of c.known (front_number front)) then with_formals front c else with_front front c

-- ---- objects

-- The initial value of a list is looked at once, before the list: what that declares is known from
-- its end on (Ada 2012, 3.3.1 and 8.3).
abbrev pub initial_value : Context → Tree → InitialValue
initial_value c e = record { is_static = is_static c e; value = value c e }

-- That of a variable isn't looked at.
abbrev pub constant_value : Context → Bool → Tree → InitialValue
constant_value c true (More e rest) = initial_value c e
constant_value c _ _ = record { is_static = false; value = None }

abbrev pub object_kind : Bool → Kind
object_kind true = kind.Constant
object_kind false = kind.Variable

-- A constant of a scalar type is static where its initial value is (Ada 2012, 4.9).
abbrev pub object_info : Context → Bool → ℕ → InitialValue → ObjectInfo
object_info c constant t v = record {
  of = t;
  kind = object_kind constant;
  in_package = is_none c.sub;
  is_static = is_scalar (full c.known.table t) && v.is_static;
  value = if is_scalar (full c.known.table t) then value_as (base c.known.table t) v.value else None;
}

abbrev pub with_object : Bool → Code → InitialValue → Code → Context → Context
with_object constant i v d c =
    with_entry (declared_number d) (entry.Object (object_info c constant (indicated c.known (declared_number d) i) v))
    (with_indication (declared_number d) i c)

abbrev pub number_info : Context → InitialValue → ObjectInfo
number_info c v = record {
  of = integer;
  kind = kind.Constant;
  in_package = is_none c.sub;
  is_static = v.is_static;
  value = value_as integer v.value;
}

abbrev pub with_number : InitialValue → Code → Context → Context
with_number v d c = with_entry (declared_number d) (entry.Object (number_info c v)) c

-- The type of the parameter of a `for` loop (Ada 2012, 5.5): the mark of its range, where one stands
-- there, else the whole type of its bounds.
abbrev pub parameter_type : Context → Code → ℕ
parameter_type c (Bounds low high) = base c.known.table (type_or_integer (own_type c low))
parameter_type c (Marked m) = marked c.known m
parameter_type c (Constrained m low high) = marked c.known m
parameter_type c _ = integer

-- The access type of an instance: its second actual, or the one called Name.
abbrev pub actual_type : Tree → ℕ
actual_type (Named p d NoMore) = d
actual_type _ = integer

abbrev pub is_for_name : ℕ → Given → Bool
is_for_name i None = nat_eq i 1
is_for_name i (Some w) = same_word w name_name

abbrev pub instance_actual : ℕ → Tree → ℕ
instance_actual i (Argument w e rest) = if is_for_name i w then actual_type e else instance_actual (i + 1) rest
instance_actual i _ = integer

abbrev pub instance_type : Tree → ℕ
instance_type args = instance_actual 0 args

-- ---- all of the code

abbrev pub in_subprogram : Code → Context → Context
in_subprogram front c = record c { sub = Some (front_number front) }

abbrev pub in_visible : ℕ → Context → Context
in_visible p c = record c { home = Some p }

abbrev pub in_hidden : ℕ → Context → Context
in_hidden p c = record c { home = Some p; within = Some p }

abbrev pub in_no_package : Context → Context
in_no_package c = record c { home = None; within = None }

unfoldable pub gather : Code → Context → Context
gather (Incomplete d) c =
    with_type (declared_number d)
    (record (awaited_info c (declared_number d)) { completed = Some (declared_pos d) }) c
gather (Private d) c =
    with_type (declared_number d) (record (awaited_info c (declared_number d)) { seen_in = c.home }) c
gather (TypeDecl d def end) c =
    with_definition (declared_number d) def (with_type (declared_number d) (full_info c (declared_number d) def end) c)
gather (Subtype d m) c =
    with_type (declared_number d)
    (subtype_info c.known (marked c.known m)
    (shape.Same (meant_by (info c.known.table (marked c.known m)).shape (marked c.known m))) true) c
gather (ConstrainedSubtype d m low high) c =
    with_type (declared_number d)
    (subtype_info c.known (marked c.known m)
    (constrained_shape (full c.known.table (marked c.known m)) (bound_pair c (base c.known.table (marked c.known m)) low high))
    (not (is_asked c) || are_static_bounds c (base c.known.table (marked c.known m)) low high)) c
gather (Objects ids constant i v) c = each (with_object constant i (constant_value c constant v)) ids c
gather (Numbers ids e) c = each (with_number (initial_value c e)) ids c
gather (Instance d m args) c = with_entry (declared_number d) (entry.Instance (instance_type args)) c
gather (SubDecl front) c = with_front front c
gather (SubBody front items stmts end) c =
    record (gather stmts (gather items (in_subprogram front (with_body_front front c)))) { sub = c.sub }
gather (Package d visible hidden) c =
    in_no_package (gather hidden (in_hidden (declared_number d)
    (gather visible (in_visible (declared_number d) (with_entry (declared_number d) entry.Package c)))))
gather (PackageBody d parts) c = in_no_package (gather parts (in_hidden (declared_number d) c))
gather (If p branches otherwise) c = gather otherwise (gather branches c)
gather (Branch p e stmts) c = gather stmts c
gather (Case p e whens) c = gather whens c
gather (When choices stmts) c = gather stmts c
gather (Loop p stmts) c = gather stmts c
gather (While p e stmts) c = gather stmts c
gather (For p d reversed range stmts) c =
    gather stmts
    (with_entry (declared_number d) (entry.Object (plain_object (parameter_type c range) kind.Parameter)) c)
gather (Block p items stmts end) c = gather stmts (gather items c)
gather (More a rest) c = gather rest (gather a c)
gather _ c = c
