-- The sentences on declarations, and on the code of a program as a whole (docs/LANGUAGE.md,
-- "Types"; Ada 2012, 3 and 6).
use Rattle.std.specs.Prelude.{ℕ, zero, suc, ◌+◌, Bool, true, false, not, ◌&&◌, ◌||◌, List, [], ◌∷◌, ◌++◌, length, nat_eq, slice_get, Option, Some, None, is_none, is_some, int_lt, int_le, if◌then◌else◌}
use Rattle.resolved_tree.specs.spark_base.declared.position.Pos.{Pos}
use Rattle.resolved_tree.specs.place_names.declared.act.Mode.{Mode}
use Rattle.resolved_tree.specs.place_names.declared.act.Mode.TheVariants as mode
use Rattle.resolved_tree.specs.declared.node.Mark.{Mark}
use Rattle.resolved_tree.specs.Trees.{Tree, Named, Argument, NoMore, More, position, nowhere, Code, Plain, Anonymous, Bounds, Marked, Constrained, RangeOf, Enumeration, Record, Components, Array, Access, TypeDecl, Subtype, ConstrainedSubtype, Objects, Numbers, Instance, Formals, Front, SubDecl, SubBody, Package, PackageBody, Assign, Call, Exit, Return, If, Branch, Case, When, Loop, While, For, Block, code_items}
use Rattle.type_definitions.specs.declared.table.Component.{Component}
use Rattle.type_definitions.specs.declared.table.Shape.{Shape}
use Rattle.type_definitions.specs.declared.table.Shape.TheVariants as shape
use Rattle.type_definitions.specs.declared.table.Predefined.TheVariants as predefined
use Rattle.type_definitions.specs.declared.table.FormalInfo.{FormalInfo}
use Rattle.type_definitions.specs.declared.table.Profile.{Profile}
use Rattle.type_definitions.specs.declared.table.Known.{Known}
use Rattle.type_definitions.specs.declared.table.Entry.{Entry}
use Rattle.type_definitions.specs.declared.table.Entry.TheVariants as entry
use Rattle.type_definitions.specs.declared.judgement.Fault.{Fault}
use Rattle.type_definitions.specs.declared.judgement.View.{View}
use Rattle.type_definitions.specs.declared.judgement.View.TheVariants as view
use Rattle.type_definitions.specs.declared.judgement.Where.TheVariants as stands
use Rattle.type_definitions.specs.Types.{Table, full, info, shape_found, base, is_nil, is_owning, is_same, has_value}
use Rattle.type_definitions.specs.Faults.{demand, K7}
use Rattle.type_definitions.specs.Entries.{entry_of, integer, boolean, denotes_type, marked, is_complete, is_type, same_word}
use Rattle.type_definitions.specs.Names.{Context, seen}
use Rattle.type_definitions.specs.Statics.{value}
use Rattle.type_definitions.specs.Expressions.{Given, faults, inside, own_type, mark_faults, is_access, is_anonymous, to_constant, designated, is_traversal, profile_of, result_type, associates, given_names, scalar_own, is_in}
use Rattle.type_definitions.specs.Statements.{source_faults, static_faults, scalar_mark, range_faults, range_of_faults, target_faults, assign_faults, call_faults, condition, returned, sub_profile, choice_faults, is_one_choice, coverage, type_or_integer, bounds_of, known_value, name_object, name_name}
use Rattle.type_definitions.specs.Gathered.{indicated, indicates_type, profile_from, formal_infos, anonymous_result, front_number, is_anonymous_indication, instance_type, actual_type, declared_pos, declared_number, in_subprogram, in_visible, in_hidden}

-- ---- marks and indications

-- The mark of an access type: it may be incomplete.
abbrev pub access_mark : Known → Mark → List Fault
access_mark known m =
    demand 1 m.pos (denotes_type known m.decl)
    ++ demand 7 m.pos (not (denotes_type known m.decl) || has_value (full known.table (marked known m)))

abbrev pub indication_faults : Known → Code → List Fault
indication_faults known (Plain m) = mark_faults known m
indication_faults known (Anonymous p constant m) = access_mark known m
indication_faults known _ = []

-- ---- types

-- A type has another one in itself where that is the parent, a component or an element of it, at any depth.
abbrev pub any_of : (ℕ → Bool) → List Component → Bool
any_of has [] = false
any_of has (c ∷ rest) = has c.of || any_of has rest

abbrev pub holds_shape : (ℕ → Bool) → Shape → Bool
holds_shape has (shape.Fields cs) = any_of has cs
holds_shape has (shape.Elements low high t) = has t
holds_shape has (shape.Same t) = has t
holds_shape has _ = false

abbrev pub holds_parent : (ℕ → Bool) → Option ℕ → Bool
holds_parent has None = false
holds_parent has (Some t) = has t

-- Some type within, at a depth of at most n, is as asked.
abbrev pub some_within : ℕ → (ℕ → Bool) → Table → ℕ → Bool
some_within zero is table t = false
some_within (suc n) is table t =
    is t || holds_shape (some_within n is table) (shape_found (slice_get table t)) || holds_parent (some_within n is table) (info table t).parent

-- Some type below t is as asked.
unfoldable pub some_part : (ℕ → Bool) → Table → ℕ → Bool
some_part is table t =
    holds_shape (some_within (length table) is table) (shape_found (slice_get table t)) || holds_parent (some_within (length table) is table) (info table t).parent

abbrev pub bound_faults : Context → ℕ → Tree → List Fault
bound_faults c t e = faults c stands.Elsewhere t e ++ static_faults c e

abbrev pub integer_mark : Context → Mark → List Fault
integer_mark c m = demand 1 m.pos (not (denotes_type c.known m.decl) || nat_eq (base c.known.table (marked c.known m)) integer)

abbrev pub index_range : Context → Code → List Fault
index_range c (Bounds low high) = bound_faults c integer low ++ bound_faults c integer high
index_range c (Marked m) = scalar_mark c m ++ integer_mark c m
index_range c (Constrained m low high) =
    demand 1 m.pos (denotes_type c.known m.decl && is_complete c.known (marked c.known m) m.pos)
    ++ (integer_mark c m ++ (bound_faults c integer low ++ bound_faults c integer high))
index_range c (RangeOf e) = range_of_faults c e ++ K7 (position e)
index_range c _ = []

abbrev pub components_faults : Known → Code → List Fault
components_faults known (Components names m) = mark_faults known m
components_faults known _ = []

abbrev pub record_faults : Known → Code → List Fault
record_faults known (More group rest) = components_faults known group ++ record_faults known rest
record_faults known _ = []

abbrev pub definition_faults : Context → Code → List Fault
definition_faults c (Enumeration literals) = []
definition_faults c (Record components) = record_faults c.known components
definition_faults c (Array range m) = index_range c range ++ mark_faults c.known m
definition_faults c (Access m) = access_mark c.known m
definition_faults c _ = []

-- The full type of a private type doesn't have that type in itself.
abbrev pub holds_itself : Table → ℕ → Bool
holds_itself table d = some_part (λ t. nat_eq (base table t) d) table d

abbrev pub type_faults : Context → Code → Code → List Fault
type_faults c d def =
    definition_faults c def
    ++ demand 1 (declared_pos d)
    (is_none (info c.known.table (declared_number d)).seen_in || not (holds_itself c.known.table (declared_number d)))

-- The bounds of a subtype lie within those of its parent, unless the low one is above the high one.
abbrev pub lies_within : Context → ℕ → Tree → Bool
lies_within c parent e =
    int_le (bounds_of (full c.known.table parent)).0 (known_value (value c e)) && int_le (known_value (value c e)) (bounds_of (full c.known.table parent)).1

abbrev pub are_bounds : Context → ℕ → Tree → Tree → Bool
are_bounds c parent low high = is_nil (bound_faults c parent low) && is_nil (bound_faults c parent high)

abbrev pub constraint_faults : Context → ℕ → Tree → Tree → List Fault
constraint_faults c parent low high =
    if not (are_bounds c parent low high) || int_lt (known_value (value c high)) (known_value (value c low)) then []
    else demand 7 (position low) (lies_within c parent low) ++ demand 7 (position high) (lies_within c parent high)

abbrev pub subtype_faults : Context → Mark → Tree → Tree → List Fault
subtype_faults c m low high =
    scalar_mark c m ++ (bound_faults c (marked c.known m) low ++ (bound_faults c (marked c.known m) high
    ++ constraint_faults c (marked c.known m) low high))

-- ---- objects

-- A list of one.
abbrev pub is_single : Code → Bool
is_single (More d NoMore) = true
is_single _ = false

abbrev pub first_pos : Code → Pos
first_pos (More d rest) = declared_pos d
first_pos _ = nowhere

abbrev pub first_number : Code → ℕ
first_number (More d rest) = declared_number d
first_number _ = 0

abbrev pub in_package : Context → Bool
in_package c = is_none c.sub

-- The initial value of a package object.
abbrev pub starting : Context → Context
starting c = record c { starts = in_package c }

abbrev pub has_one : Tree → Bool
has_one (More v rest) = true
has_one _ = false

abbrev pub initial_faults : Context → Bool → ℕ → Tree → List Fault
initial_faults c true t (More v rest) = source_faults c t v
initial_faults c false t (More v rest) = faults c stands.Stored t v
initial_faults c anonymous t _ = []

abbrev pub objects_faults : Context → Code → Bool → Code → Tree → ℕ → List Fault
objects_faults c ids constant i v t =
    indication_faults c.known i
    ++ (demand 6 (first_pos ids) (not (is_anonymous_indication i)
    || (is_single ids && (not (in_package c) && (not constant && has_one v))))
    ++ (demand 5 (first_pos ids) (not (constant && is_owning c.known.table t))
    ++ initial_faults (starting c) (is_anonymous_indication i) t v))

-- One initial value stands for all of them.
abbrev pub object_faults : Context → Code → Bool → Code → Tree → List Fault
object_faults c ids constant i v = objects_faults c ids constant i v (indicated c.known (first_number ids) i)

-- ---- instances

abbrev pub is_deallocation : Entry → Bool
is_deallocation (entry.Predefined predefined.Deallocation) = true
is_deallocation _ = false

abbrev pub denotes_deallocation : Known → Option ℕ → Bool
denotes_deallocation known None = false
denotes_deallocation known (Some d) = is_deallocation (entry_of known d)

abbrev pub names_type : Known → Tree → Bool
names_type known (Named p d NoMore) = is_type (entry_of known d)
names_type known _ = false

abbrev pub actual_mark : Known → Tree → List Fault
actual_mark known (Named p d rest) = demand 1 p (names_type known (Named p d rest) && is_complete known d p)
actual_mark known e = []

abbrev pub all_types : Known → Tree → Bool
all_types known (Argument w e rest) = names_type known e && all_types known rest
all_types known _ = true

abbrev pub actual_marks : Known → Tree → List Fault
actual_marks known (Argument w e rest) = actual_mark known e ++ actual_marks known rest
actual_marks known _ = []

-- The type that stands for Object: the first actual, or the one called so.
abbrev pub is_for_object : ℕ → Given → Bool
is_for_object i None = nat_eq i 0
is_for_object i (Some w) = same_word w name_object

abbrev pub object_actual : ℕ → Tree → ℕ
object_actual i (Argument w e rest) = if is_for_object i w then actual_type e else object_actual (i + 1) rest
object_actual i _ = integer

abbrev pub is_named_access : View → Bool
is_named_access (view.Access t constant named) = named
is_named_access _ = false

abbrev pub matches : Context → Tree → Bool
matches c args =
    is_named_access (seen c (instance_type args))
    && is_same c.known.table (object_actual 0 args) (designated (full c.known.table (instance_type args)))

abbrev pub instance_faults : Context → Code → Mark → Tree → List Fault
instance_faults c d m args =
    demand 3 m.pos (denotes_deallocation c.known m.decl)
    ++ (demand 3 (declared_pos d)
    (associates (name_object ∷ name_name ∷ []) (given_names args) && (all_types c.known args && matches c args))
    ++ actual_marks c.known args)

-- ---- subprograms

-- What the first formal of a traversal function has to be.
abbrev pub is_traversable : Context → Option ℕ → Mode → ℕ → Bool
is_traversable c result m t =
    is_in m && (is_access (seen c t)
    && (not (to_constant (full c.known.table t)) || to_constant (full c.known.table (result_type result))))

abbrev pub formal_faults : Context → Bool → Option ℕ → Bool → Mode → Code → Code → List Fault
formal_faults c is_function result traversed m of d =
    demand 3 (declared_pos d) (not is_function || is_in m)
    ++ (demand 6 (declared_pos d) (not (is_anonymous_indication of) || traversed)
    ++ demand 6 (declared_pos d) (not (traversed && indicates_type c.known of)
    || is_traversable c result m (indicated c.known (declared_number d) of)))

abbrev pub group_faults : Context → Bool → Option ℕ → Bool → Mode → Code → Code → List Fault
group_faults c is_function result traversed m of (More d rest) =
    formal_faults c is_function result traversed m of d ++ group_faults c is_function result false m of rest
group_faults c is_function result traversed m of _ = []

abbrev pub formals_group : Context → Bool → Option ℕ → Bool → Code → List Fault
formals_group c is_function result traversed (Formals names m of) =
    indication_faults c.known of ++ group_faults c is_function result traversed m of names
formals_group c is_function result traversed _ = []

abbrev pub formals_faults : Context → Bool → Option ℕ → Bool → Code → List Fault
formals_faults c is_function result traversed (More group rest) =
    formals_group c is_function result traversed group ++ formals_faults c is_function result false rest
formals_faults c is_function result traversed _ = []

abbrev pub result_faults : Known → Code → List Fault
result_faults known (More i rest) = indication_faults known i
result_faults known _ = []

abbrev pub has_none : Code → Bool
has_none (More a rest) = false
has_none _ = true

abbrev pub profile_faults : Context → Code → Code → Code → Profile → List Fault
profile_faults c d formals result p =
    result_faults c.known result
    ++ (formals_faults c (is_some p.result) p.result (is_traversal c.known p) formals
    ++ demand 6 (declared_pos d) (not (is_traversal c.known p && has_none formals)))

abbrev pub front_faults : Context → Code → List Fault
front_faults c (Front d formals result) =
    profile_faults c d formals result (profile_from c.known (declared_number d) formals result)
front_faults c _ = []

abbrev pub same_mode : Mode → Mode → Bool
same_mode mode.In mode.In = true
same_mode mode.Out mode.Out = true
same_mode mode.InOut mode.InOut = true
same_mode _ _ = false

-- Two types of profiles: one type with the same bounds, or two anonymous access types with such designated types.
abbrev pub same_indicated : Table → ℕ → ℕ → Bool
same_indicated table s t =
    if is_anonymous (full table s) && is_anonymous (full table t)
    then (if to_constant (full table s) then to_constant (full table t) else not (to_constant (full table t)))
    && is_same table (designated (full table s)) (designated (full table t))
    else is_same table s t

-- The types of a formal of the declaration and of the body. A mark of the body that denotes no type
-- breaks K1 later.
abbrev pub same_formal : Table → FormalInfo → FormalInfo → Bool
same_formal table f g =
    same_word f.name g.name && (same_mode f.mode g.mode && (not g.typed || same_indicated table f.of g.of))

abbrev pub same_formals : Table → List FormalInfo → List FormalInfo → Bool
same_formals table [] [] = true
same_formals table (f ∷ fs) (g ∷ gs) = same_formal table f g && same_formals table fs gs
same_formals table _ _ = false

-- The type of the declaration's result and what that of the body is of. The anonymous type of a body
-- isn't kept: it belongs to the declaration.
abbrev pub same_access : Table → ℕ → Bool → ℕ → Bool
same_access table t constant designated_here =
    is_anonymous (full table t)
    && ((if constant then to_constant (full table t) else not (to_constant (full table t)))
    && is_same table (designated (full table t)) designated_here)

abbrev pub result_is : Known → ℕ → Code → Bool
result_is known t (Plain m) = not (denotes_type known m.decl) || (not (is_anonymous (full known.table t)) && is_same known.table t (marked known m))
result_is known t (Anonymous p constant m) = not (denotes_type known m.decl) || same_access known.table t constant (marked known m)
result_is known t _ = true

abbrev pub same_result : Known → Option ℕ → Code → Bool
same_result known None (More i rest) = false
same_result known None _ = true
same_result known (Some t) (More i rest) = result_is known t i
same_result known (Some t) _ = false

-- The profile of a body is that of its declaration.
abbrev pub front_pos : Code → Pos
front_pos (Front d formals result) = declared_pos d
front_pos _ = nowhere

abbrev pub agrees_with : Known → Profile → Code → Bool
agrees_with known p (Front d formals result) =
    same_formals known.table p.formals (formal_infos known (anonymous_result result) formals) && same_result known p.result result
agrees_with known p _ = true

abbrev pub agrees : Known → Code → Bool
agrees known front = agrees_with known (profile_of (entry_of known (front_number front))) front

abbrev pub body_faults : Context → Code → List Fault
body_faults c front = front_faults c front ++ demand 3 (front_pos front) (agrees c.known front)

-- ---- all of the code

abbrev pub in_loop : Context → Context
in_loop c = record c { in_loop = true }

-- In a body: no loop is around it.
abbrev pub in_body : Code → Context → Context
in_body front c = record (in_subprogram front c) { in_loop = false }

abbrev pub choices_faults : Context → ℕ → Bool → Code → List Fault
choices_faults c t alone (More k rest) = choice_faults c t alone k ++ choices_faults c t alone rest
choices_faults c t alone _ = []

-- All choices of the alternatives of a case, in order.
abbrev pub alternative_choices : Code → List Code
alternative_choices (When choices stmts) = code_items choices
alternative_choices _ = []

abbrev pub choices_of : Code → List Code
choices_of (More alternative rest) = alternative_choices alternative ++ choices_of rest
choices_of _ = []

abbrev pub selector_faults : Context → Tree → List Fault
selector_faults c x = demand 1 (position x) (scalar_own c (own_type c x)) ++ inside c false integer x

abbrev pub is_last : Code → Bool
is_last NoMore = true
is_last _ = false

-- A subtype without a constraint.
abbrev pub renamed_faults : Context → Mark → List Fault
renamed_faults c m =
    demand 1 m.pos (denotes_type c.known m.decl && is_complete c.known (marked c.known m) m.pos)

-- A declaration that holds no other code.
abbrev pub declaration_faults : Context → Code → List Fault
declaration_faults c (TypeDecl d def end) = type_faults c d def
declaration_faults c (Subtype d m) = renamed_faults c m
declaration_faults c (ConstrainedSubtype d m low high) = subtype_faults c m low high
declaration_faults c (Objects ids constant i v) = object_faults c ids constant i v
declaration_faults c (Numbers ids x) = bound_faults (starting c) integer x
declaration_faults c (Instance d m args) = instance_faults c d m args
declaration_faults c (SubDecl front) = front_faults c front
declaration_faults c _ = []

-- A statement that holds no other code, or such a declaration.
abbrev pub plain_faults : Context → Code → List Fault
plain_faults c (Assign target x) = target_faults c target ++ assign_faults c target x
plain_faults c (Call name) = call_faults c name
plain_faults c (Exit p when) = demand 3 p c.in_loop ++ condition c when
plain_faults c (Return p v) = returned c p (sub_profile c.known c.sub) v
plain_faults c code = declaration_faults c code

unfoldable mutual
  pub code_faults : Context → Code → List Fault
  code_faults c (SubBody front items stmts end) =
      body_faults c front ++ (code_faults (in_body front c) items ++ code_faults (in_body front c) stmts)
  code_faults c (Package d visible hidden) =
      code_faults (in_visible (declared_number d) c) visible ++ code_faults (in_hidden (declared_number d) c) hidden
  code_faults c (PackageBody d parts) = code_faults (in_hidden (declared_number d) c) parts
  code_faults c (If p branches otherwise) = code_faults c branches ++ code_faults c otherwise
  code_faults c (Branch p x stmts) = faults c stands.Elsewhere boolean x ++ code_faults c stmts
  code_faults c (Case p x whens) =
      selector_faults c x
      ++ (coverage c p x (choices_of whens) ++ alternatives_faults c (type_or_integer (own_type c x)) whens)
  code_faults c (Loop p stmts) = code_faults (in_loop c) stmts
  code_faults c (While p x stmts) = faults c stands.Elsewhere boolean x ++ code_faults (in_loop c) stmts
  code_faults c (For p d reversed range stmts) = range_faults c range ++ code_faults (in_loop c) stmts
  code_faults c (Block p items stmts end) = code_faults c items ++ code_faults c stmts
  code_faults c (More a rest) = code_faults c a ++ code_faults c rest
  code_faults c code = plain_faults c code

  -- the alternatives of a case whose expression has this type; `others` is last and alone
  pub alternatives_faults : Context → ℕ → Code → List Fault
  alternatives_faults c t (More alternative rest) =
      alternative_faults c t (is_last rest) alternative ++ alternatives_faults c t rest
  alternatives_faults c t _ = []

  pub alternative_faults : Context → ℕ → Bool → Code → List Fault
  alternative_faults c t last (When choices stmts) =
      choices_faults c t (is_one_choice (code_items choices) && last) choices ++ code_faults c stmts
  alternative_faults c t last _ = []
