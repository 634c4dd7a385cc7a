-- The sentences on statements (docs/LANGUAGE.md, "Types"; Ada 2012, 5 and 6.5).
use Rattle.std.specs.Prelude.{ℕ, Bool, true, false, not, ◌&&◌, ◌||◌, List, [], ◌∷◌, ◌++◌, flat_map, map, codes, Option, Some, None, is_none, is_some, ℤ, pos, ◌+ℤ◌, int_le, if◌then◌else◌}
use Rattle.resolved_tree.specs.spark_base.declared.position.Pos.{Pos}
use Rattle.resolved_tree.specs.declared.node.Mark.{Mark}
use Rattle.resolved_tree.specs.Trees.{Tree, Null, Named, Parens, New, Applied, Argument, NoMore, More, position, Code, Bounds, Marked, Constrained, RangeOf, Value, Interval, OthersChoice}
use Rattle.type_definitions.specs.declared.table.Kind.{Kind}
use Rattle.type_definitions.specs.declared.table.Kind.TheVariants as kind
use Rattle.type_definitions.specs.declared.table.Predefined.{Predefined}
use Rattle.type_definitions.specs.declared.table.Predefined.TheVariants as predefined
use Rattle.type_definitions.specs.declared.table.Known.{Known}
use Rattle.type_definitions.specs.declared.table.Profile.{Profile}
use Rattle.type_definitions.specs.declared.table.Static.{Static}
use Rattle.type_definitions.specs.declared.table.Entry.{Entry}
use Rattle.type_definitions.specs.declared.table.Entry.TheVariants as entry
use Rattle.type_definitions.specs.declared.judgement.Cover.{Cover}
use Rattle.type_definitions.specs.declared.judgement.Fault.{Fault}
use Rattle.type_definitions.specs.declared.judgement.View.{View}
use Rattle.type_definitions.specs.declared.judgement.View.TheVariants as view
use Rattle.type_definitions.specs.declared.judgement.Reading.{Reading}
use Rattle.type_definitions.specs.declared.judgement.Reading.TheVariants as reading
use Rattle.type_definitions.specs.declared.judgement.Own.{Own}
use Rattle.type_definitions.specs.declared.judgement.Own.TheVariants as own
use Rattle.type_definitions.specs.declared.judgement.Where.TheVariants as stands
use Rattle.type_definitions.specs.declared.judgement.Role.TheVariants as role
use Rattle.type_definitions.specs.Types.{full, base, is_scalar, is_same, is_untyped, is_nil}
use Rattle.type_definitions.specs.Faults.{demand, K1, K2, K3, K6}
use Rattle.type_definitions.specs.Entries.{entry_of, integer, boolean, denotes_type, marked, is_complete, is_type}
use Rattle.type_definitions.specs.Names.{Context, seen, reading_of, is_end}
use Rattle.type_definitions.specs.Statics.{is_static, value}
use Rattle.type_definitions.specs.Expressions.{Given, is_unknown, own_type, own_of, around_variable, around_string, inside, arguments, behind, way_of, faults, name_faults, loose_faults, is_access, scalar_own, is_demanding, is_variable, is_anonymous, to_constant, designated, allocates, is_traversal_call, is_traversal, profile_of, result_type, associates, given_names}

-- ---- sources of anonymous access objects

-- A type by itself isn't known, or is an access type with the designated type that is demanded.
abbrev pub designates : Context → ℕ → Own → Bool
designates c want own.Unknown = true
designates c want (own.Of t) =
    is_untyped c.known.table t
    || (is_access (seen c t) && is_same c.known.table (designated (full c.known.table t)) (designated (full c.known.table want)))
designates c want _ = false

-- What is assigned to an object of an anonymous access type, or returned as one, has this type. `null` and an allocator have the
-- type that their place demands.
abbrev pub source_fits : Context → ℕ → Tree → Bool
source_fits c want (Null p) = true
source_fits c want (New p m v) = allocates c want m
source_fits c want (Parens p e) = source_fits c want e
source_fits c want e = designates c want (own_type c e)

-- A borrower or observer names an object, or calls a traversal function; what it is of is no access-to-constant type where the
-- place is access-to-variable.
abbrev pub is_source : Known → Reading → Bool
is_source known (reading.Place t) = true
is_source known r = is_traversal_call known r

abbrev pub keeps_constant : Known → ℕ → Own → Bool
keeps_constant known want (own.Of t) = to_constant (full known.table want) || not (to_constant (full known.table t))
keeps_constant known want _ = true

abbrev pub source_name : Context → ℕ → Pos → Reading → List Fault
source_name c want p reading.Off = []
source_name c want p r =
    demand 1 p (designates c want (own_of c.known r))
    ++ demand 6 p (is_source c.known r && keeps_constant c.known want (own_of c.known r))

abbrev pub other_source : Context → ℕ → Tree → List Fault
other_source c want e = demand 1 (position e) (source_fits c want e) ++ (K6 (position e) ++ inside c false want e)

abbrev pub source_faults : Context → ℕ → Tree → List Fault
source_faults c want (Named p d rest) = source_name c want p (reading_of c d rest) ++ loose_faults c (Named p d rest)
source_faults c want e = other_source c want e

abbrev pub return_source : Context → ℕ → Tree → List Fault
return_source c want (Null p) = []
return_source c want e = source_faults c want e

abbrev pub is_name : Tree → Bool
is_name (Named p d rest) = true
is_name _ = false

-- A formal of an anonymous access type is no borrower or observer. A traversal call may stand here.
abbrev pub formal_source : Context → ℕ → Tree → List Fault
formal_source c want e = demand 1 (position e) (source_fits c want e) ++ inside c (is_name e) want e

-- ---- assignments

abbrev pub is_object_entry : Entry → Bool
is_object_entry (entry.Object o) = true
is_object_entry _ = false

abbrev pub is_formal_kind : Kind → Bool
is_formal_kind kind.Formal = true
is_formal_kind _ = false

abbrev pub is_formal : Entry → Bool
is_formal (entry.Object o) = is_formal_kind o.kind
is_formal _ = false

-- The target is a name of an object whose root is a variable.
abbrev pub target_faults : Context → Tree → List Fault
target_faults c (Named p d rest) =
    if is_object_entry (entry_of c.known d)
    then demand 2 p (is_variable (entry_of c.known d) (reading_of c d rest)) ++ name_faults c (Named p d rest)
    else K2 p ++ behind c (way_of c.known d (entry_of c.known d)) rest
target_faults c e = K2 (position e)

-- The source for a place of a type. `whole` says that the target is an object and not a part of one.
abbrev pub assigned : Context → Bool → Entry → Tree → Reading → List Fault
assigned c whole root e (reading.Place t) =
    if not (whole && is_anonymous (full c.known.table t)) then faults c stands.Stored t e
    else if is_formal root then formal_source c t e
    else source_faults c t e
assigned c whole root e _ = []

abbrev pub assign_faults : Context → Tree → Tree → List Fault
assign_faults c (Named p d rest) e = assigned c (is_end rest) (entry_of c.known d) e (reading_of c d rest)
assign_faults c target e = []

abbrev pub target_reading : Context → Tree → Reading
target_reading c (Named p d rest) = reading_of c d rest
target_reading c _ = reading.Off

-- ---- calls

-- The formals of an instance of Unchecked_Deallocation, and those of the generic itself (Ada 2012,
-- 13.11.2).
abbrev pub name_x : List ℕ
name_x = codes "X"

abbrev pub name_object : List ℕ
name_object = codes "Object"

abbrev pub name_name : List ℕ
name_name = codes "Name"

-- The actuals of a call statement, where its name is an identifier or has actuals alone after that.
abbrev pub actuals_of : Tree → Option Tree
actuals_of NoMore = Some NoMore
actuals_of (More (Applied args) NoMore) = Some args
actuals_of _ = None

abbrev pub variable_argument : Context → ℕ → Tree → List Fault
variable_argument c t (Argument w e rest) = around_variable c t e ++ inside c false t e
variable_argument c t _ = []

abbrev pub text_argument : Context → Tree → List Fault
text_argument c (Argument w e rest) = around_string c e ++ inside c false integer e
text_argument c _ = []

abbrev pub is_one : List Given → Bool
is_one (None ∷ []) = true
is_one _ = false

abbrev pub is_no : List Given → Bool
is_no [] = true
is_no _ = false

abbrev pub predefined_call : Context → Pos → Predefined → Tree → List Fault
predefined_call c p predefined.Put args = demand 3 p (is_one (given_names args)) ++ text_argument c args
predefined_call c p predefined.PutLine args = demand 3 p (is_one (given_names args)) ++ text_argument c args
predefined_call c p predefined.NewLine args = demand 3 p (is_no (given_names args))
predefined_call c p predefined.Get args = demand 3 p (is_one (given_names args)) ++ variable_argument c integer args
predefined_call c p predefined.EndOfFile args = K3 p
predefined_call c p predefined.Deallocation args = K3 p

abbrev pub procedure_call : Context → Pos → ℕ → Profile → Tree → List Fault
procedure_call c p d profile args =
    demand 3 p (is_none profile.result && associates (map (λ f. f.name) profile.formals) (given_names args))
    ++ arguments c (role.Actuals d) 0 args

abbrev pub called : Context → Pos → ℕ → Entry → Option Tree → List Fault
called c p d e None = K3 p
called c p d (entry.Subprogram profile) (Some args) = procedure_call c p d profile args
called c p d (entry.Instance t) (Some args) = demand 3 p (associates (name_x ∷ []) (given_names args)) ++ variable_argument c t args
called c p d (entry.Predefined which) (Some args) = predefined_call c p which args
called c p d _ (Some args) = K3 p

abbrev pub call_faults : Context → Tree → List Fault
call_faults c (Named p d rest) = called c p d (entry_of c.known d) (actuals_of rest)
call_faults c e = K3 (position e)

-- ---- return

abbrev pub returned : Context → Pos → Option Profile → Tree → List Fault
returned c p None v = K3 p
returned c p (Some profile) NoMore = demand 3 p (is_none profile.result)
returned c p (Some profile) (More e rest) =
    if is_none profile.result then K3 (position e) ++ inside c true integer e
    else if is_traversal c.known profile then return_source c (result_type profile.result) e
    else faults c stands.Stored (result_type profile.result) e
returned c p (Some profile) _ = []

abbrev pub sub_profile : Known → Option ℕ → Option Profile
sub_profile known None = None
sub_profile known (Some s) = Some (profile_of (entry_of known s))

abbrev pub condition : Context → Tree → List Fault
condition c (More e rest) = faults c stands.Elsewhere boolean e
condition c _ = []

-- ---- ranges

abbrev pub static_faults : Context → Tree → List Fault
static_faults c e = demand 7 (position e) (is_static c e && is_some (value c e))

-- The array of A'Range: its name without the attribute stands for an object or an array type.
abbrev pub is_array : View → Bool
is_array (view.Elements low high e) = true
is_array _ = false

abbrev pub ranged : Context → Entry → ℕ → Reading → Bool
ranged c entry.Type d reading.Off = is_array (seen c d)
ranged c _ d (reading.Place t) = is_untyped c.known.table t || is_array (seen c t)
ranged c _ d _ = false

abbrev pub no_suffix : Tree → Bool
no_suffix NoMore = true
no_suffix _ = false

abbrev pub range_of_faults : Context → Tree → List Fault
range_of_faults c (Named p d rest) =
    demand 1 p (ranged c (entry_of c.known d) d (reading_of c d rest) && is_complete c.known d p
    && (not (is_type (entry_of c.known d)) || no_suffix rest))
    ++ behind c (way_of c.known d (entry_of c.known d)) rest
range_of_faults c e = K1 (position e)

-- A mark in front of a range: a type, complete, and scalar.
abbrev pub scalar_mark : Context → Mark → List Fault
scalar_mark c m =
    demand 1 m.pos (denotes_type c.known m.decl && is_complete c.known (marked c.known m) m.pos
    && is_scalar (seen c (marked c.known m)))

abbrev pub type_or_integer : Own → ℕ
type_or_integer (own.Of t) = t
type_or_integer _ = integer

-- The range of a `for` loop.
unfoldable pub range_faults : Context → Code → List Fault
range_faults c (Bounds low high) =
    demand 1 (position low) (scalar_own c (own_type c low))
    ++ (inside c false integer low ++ faults c stands.Elsewhere (type_or_integer (own_type c low)) high)
range_faults c (Marked m) = scalar_mark c m
range_faults c (Constrained m low high) =
    scalar_mark c m ++ (faults c stands.Elsewhere (marked c.known m) low ++ faults c stands.Elsewhere (marked c.known m) high)
range_faults c (RangeOf e) = range_of_faults c e
range_faults c _ = []

-- ---- case

-- A choice covers the values from its low end to its high end.
abbrev pub covers : ℤ → Cover → Bool
covers v k = int_le k.low v && int_le v k.high

abbrev pub any_covers : List Cover → ℤ → Bool
any_covers [] v = false
any_covers (k ∷ rest) v = covers v k || any_covers rest v

abbrev pub meets : Cover → Cover → Bool
meets k m = int_le k.low k.high && int_le m.low m.high && int_le k.low m.high && int_le m.low k.high

abbrev pub any_meets : Cover → List Cover → Bool
any_meets k [] = false
any_meets k (m ∷ rest) = meets k m || any_meets k rest

-- No value stands twice: a choice that meets one before it is a fault.
abbrev pub doubled : List Cover → List Cover → List Fault
doubled before [] = []
doubled before (k ∷ rest) = demand 4 k.at (not (any_meets k before)) ++ doubled (before ++ k ∷ []) rest

-- A gap begins at the low bound or right after a choice.
abbrev pub gap_at : ℤ → ℤ → List Cover → ℤ → Bool
gap_at low high all v = int_le low v && int_le v high && not (any_covers all v)

abbrev pub gap_behind : ℤ → ℤ → List Cover → List Cover → Bool
gap_behind low high all [] = false
gap_behind low high all (k ∷ rest) = gap_at low high all (k.high +ℤ pos 1) || gap_behind low high all rest

unfoldable pub has_gap : ℤ → ℤ → List Cover → Bool
has_gap low high all = gap_at low high all low || gap_behind low high all all

abbrev pub bounds_of : View → ℤ × ℤ
bounds_of (view.Whole low high) = (low, high)
bounds_of (view.Listed low high) = (pos low, pos high)
bounds_of _ = (pos 1, pos 0)

abbrev pub known_value : Option Static → ℤ
known_value (Some v) = v.value
known_value None = pos 0

abbrev pub choice_value : Context → Tree → ℤ
choice_value c e = known_value (value c e)

abbrev pub choice_expression : Context → ℕ → Tree → List Fault
choice_expression c t e = faults c stands.Elsewhere t e ++ demand 4 (position e) (is_static c e && is_some (value c e))

-- `others` is last and alone.
abbrev pub choice_faults : Context → ℕ → Bool → Code → List Fault
choice_faults c t alone (Value e) = choice_expression c t e
choice_faults c t alone (Interval a b) = choice_expression c t a ++ choice_expression c t b
choice_faults c t alone (OthersChoice p) = demand 4 p alone
choice_faults c t alone _ = []

abbrev pub is_others : Code → Bool
is_others (OthersChoice p) = true
is_others _ = false

abbrev pub any_others : List Code → Bool
any_others [] = false
any_others (k ∷ rest) = is_others k || any_others rest

-- The values of a choice, where it breaks no sentence by itself.
abbrev pub cover_of : Context → ℕ → Code → List Cover
cover_of c t (Value e) =
    if is_nil (choice_expression c t e) then record { at = position e; low = choice_value c e; high = choice_value c e } ∷ [] else []
cover_of c t (Interval a b) =
    if is_nil (choice_expression c t a ++ choice_expression c t b)
    then record { at = position a; low = choice_value c a; high = choice_value c b } ∷ [] else []
cover_of c t _ = []

abbrev pub all_sound : Context → ℕ → List Code → Bool
all_sound c t [] = true
all_sound c t (k ∷ rest) = is_nil (choice_faults c t true k) && all_sound c t rest

-- The values that the choices have to cover: of the subtype of an object's name or a call, else of the whole type.
abbrev pub reading_subtype : Reading → Bool
reading_subtype (reading.Place t) = true
reading_subtype (reading.Call f) = true
reading_subtype reading.EndOfFile = true
reading_subtype _ = false

abbrev pub has_subtype : Context → Tree → Bool
has_subtype c (Named p d rest) = reading_subtype (reading_of c d rest)
has_subtype c _ = false

abbrev pub chosen_type : Context → Tree → ℕ
chosen_type c e = if has_subtype c e then type_or_integer (own_type c e) else base c.known.table (type_or_integer (own_type c e))

abbrev pub is_one_choice : List Code → Bool
is_one_choice (k ∷ []) = true
is_one_choice _ = false

-- The sentences on all choices of a case. Where the expression or a choice breaks a sentence of its own, nothing is said of gaps.
abbrev pub leaves_gap : Context → Tree → List Code → Bool
leaves_gap c e choices =
    let bounds = bounds_of (full c.known.table (chosen_type c e)) in
    has_gap bounds.0 bounds.1 (flat_map (cover_of c (type_or_integer (own_type c e))) choices)

abbrev pub coverage : Context → Pos → Tree → List Code → List Fault
coverage c p e choices =
    if is_unknown c.known (own_type c e) || is_demanding (own_type c e) || not (scalar_own c (own_type c e)) then []
    else doubled [] (flat_map (cover_of c (type_or_integer (own_type c e))) choices)
    ++ demand 4 p (any_others choices || not (all_sound c (type_or_integer (own_type c e)) choices) || not (leaves_gap c e choices))
