-- The low bounds of the types of a program are values of Integer.
use Rattle.std.proofs.Common.{◌≡◌, refl, sym, subst, ◌∙◌, ℕ, zero, suc, ◌-◌, ◌+◌, Bool, true, false, List, [], ◌∷◌, ◌++◌, set, get_or, replicate, ℤ, pos, negsuc, Option, Some, None, if◌then◌else◌}
use Rattle.std.specs.Prelude.{slice_get, not, ◌||◌}
use Rattle.machine.specs.resolved_tree.Trees.{More, Code, Tree, Enumeration, Record, Array, Access, Incomplete, Private, TypeDecl, Subtype, ConstrainedSubtype, Objects, Numbers, Instance, Front, SubDecl, SubBody, Package, PackageBody, If, Branch, Case, When, Loop, While, For, Block, Program}
use Rattle.kept_cells.specs.run_values.Arithmetic.{is_integer}
use Rattle.machine.specs.type_definitions.declared.table.Info.{Info}
use Rattle.machine.specs.type_definitions.declared.table.InitialValue.{InitialValue}
use Rattle.machine.specs.type_definitions.declared.table.Shape.{Shape}
use Rattle.machine.specs.type_definitions.declared.table.Shape.TheVariants as shape
use Rattle.machine.specs.type_definitions.declared.table.Entry.{Entry}
use Rattle.machine.specs.type_definitions.declared.table.Entry.TheVariants as entry
use Rattle.machine.specs.type_definitions.declared.table.Known.{Known}
use Rattle.machine.specs.type_definitions.declared.table.Kind.TheVariants as kind
use Rattle.machine.specs.type_definitions.declared.judgement.View.{View}
use Rattle.machine.specs.type_definitions.declared.judgement.View.TheVariants as view
use Rattle.machine.specs.type_definitions.Types.{Table, info, info_found, shape_found, base, full, is_scalar, no_type}
use Rattle.machine.specs.type_definitions.Entries.{entry_of, marked, integer}
use Rattle.machine.specs.type_definitions.Names.{Context}
use Rattle.machine.specs.type_definitions.Statics.{value, value_as}
use Rattle.machine.specs.type_definitions.Statements.{known_value}
use Rattle.machine.specs.type_definitions.Whole.{predefined_types, predefined_entries, at_first, outside, gather_units, known_from, known_of}
use Rattle.machine.specs.type_definitions.Gathered.{gather, each, declared_number, declared_pos, with_entry, with_info, with_type, own_info, indicated, with_indication, awaited_info, defined, is_asked, are_static_bounds, bound_pair, with_literals, with_definition, full_info, natural_of, constrained_shape, subtype_info, meant_by, with_object, object_info, constant_value, with_number, number_info, initial_value, plain_object, with_formal, with_formal_group, with_formals, with_result, with_front, with_body_front, profile, is_subprogram, front_number, parameter_type, in_subprogram, in_visible, in_hidden, instance_type}
use Rattle.settled_types.proofs.Cases.{definition_end, each_end, formals_end, front_end, group_end, indication_end, on_access, on_enumeration, on_front, on_group, on_more, result_end}
use Rattle.settled_types.specs.TableLaws.Bounds.{HasBounds}
use Rattle.settled_types.proofs.TableLaws.Statics.{IsWhole, IsWholeEntry, value_whole, known_whole, as_whole}

-- ---- lists

row_after : {A : Type 0} (xs : List A) (d t : ℕ) (x : A) (Q : Option A → Type 0) → Q (Some x) → Q (slice_get xs t) → Q (slice_get (set xs d x) t)
row_after [] d t x Q new old = old
row_after (y ∷ xs) zero zero x Q new old = new
row_after (y ∷ xs) zero (suc t) x Q new old = old
row_after (y ∷ xs) (suc d) zero x Q new old = old
row_after (y ∷ xs) (suc d) (suc t) x Q new old = row_after xs d t x Q new old

entry_after : {A : Type 0} (xs : List A) (d t : ℕ) (x fallback : A) (Q : A → Type 0) → Q x → Q (get_or xs t fallback) → Q (get_or (set xs d x) t fallback)
entry_after [] d t x fallback Q new old = old
entry_after (y ∷ xs) zero zero x fallback Q new old = new
entry_after (y ∷ xs) zero (suc t) x fallback Q new old = old
entry_after (y ∷ xs) (suc d) zero x fallback Q new old = old
entry_after (y ∷ xs) (suc d) (suc t) x fallback Q new old = entry_after xs d t x fallback Q new old

-- ---- what is kept

abbrev HasLow : Shape → Type 0
HasLow (shape.Whole low high) = is_integer low ≡ true
HasLow (shape.Listed literals low high) = is_integer (pos low) ≡ true
HasLow s = Unit {0}

record AreBounded (known : Known) : Type 0 where
  rows : (t : ℕ) → HasLow (info known.table t).shape
  entries : (d : ℕ) → IsWholeEntry (entry_of known d)

abbrev Good : Context → Type 0
Good c = AreBounded c.known

entry_kept : (c : Context) (d : ℕ) (e : Entry) → IsWholeEntry e → Good c → Good (with_entry d e c)
entry_kept c d e new are = record { rows = are.rows; entries = λ v. entry_after c.known.entries d v e entry.Nothing IsWholeEntry new (are.entries v) }

row_kept : (c : Context) (d : ℕ) (i : Info) → HasLow i.shape → Good c → Good (with_info d i c)
row_kept c d i new are = record { rows = λ t. row_after c.known.table d t i (λ o. HasLow (info_found o).shape) new (are.rows t); entries = are.entries }

type_kept : (c : Context) (d : ℕ) (i : Info) → HasLow i.shape → Good c → Good (with_type d i c)
type_kept c d i new are = entry_kept (with_info d i c) d entry.Type tt (row_kept c d i new are)

-- ---- types

defined_low : (c : Context) (def : Code) → HasLow (defined c def)
defined_low c (Enumeration literals) = refl
defined_low c (Record components) = tt
defined_low c (Array range m) = tt
defined_low c (Access m) = tt
defined_low c def = tt

pair_low : (c : Context) (b : ℕ) (low high : Tree) → Good c → is_integer (bound_pair c b low high).0 ≡ true
pair_low c b low high are = by (are_static_bounds c b low high)
  where
    pair : Bool → ℤ × ℤ
    pair k = if k then (known_value (value c low), known_value (value c high)) else (pos 1, pos 1)

    by : (k : Bool) → is_integer (pair k).0 ≡ true
    by true = known_whole (value c low) (value_whole c are.entries low)
    by false = refl

natural_low : (v : ℤ) → is_integer v ≡ true → is_integer (pos (natural_of v)) ≡ true
natural_low (pos n) is = is
natural_low (negsuc n) is = refl

constrained_low : (w : View) (b : ℤ × ℤ) → is_integer b.0 ≡ true → HasLow (constrained_shape w b)
constrained_low (view.Whole low high) b is = is
constrained_low (view.Listed low high) b is = natural_low b.0 is
constrained_low w b is = is

literals_kept : (t n : ℕ) (ids : Code) (c : Context) → Good c → Good (with_literals t n ids c)
literals_kept t n (More d rest) c are = literals_kept t (n + 1) rest (with_entry (declared_number d) (entry.Literal t n) c) (entry_kept c (declared_number d) (entry.Literal t n) tt are)
literals_kept t n ids c are = are

definition_kept : (t : ℕ) (def : Code) (c : Context) → Good c → Good (with_definition t def c)
definition_kept t = on_enumeration (λ def. (c : Context) → Good c → Good (with_definition t def c))
    (λ literals c are.
    literals_kept t 0 literals c are)
    (λ def other c are. rw (definition_end t def c other) (are))

-- ---- objects

indication_kept : (d : ℕ) (i : Code) (c : Context) → Good c → Good (with_indication d i c)
indication_kept d = on_access (λ i. (c : Context) → Good c → Good (with_indication d i c))
    (λ p constant m c are.
    row_kept c d (own_info (shape.Access (marked c.known m) constant false) d) tt are)
    (λ i other c are. rw (indication_end d i c other) (are))

each_kept : (f : Code → Context → Context) (ids : Code) → ((d : Code) (c : Context) → Good c → Good (f d c)) → (c : Context) → Good c → Good (each f ids c)
each_kept f = on_more (λ ids. ((d : Code) (c : Context) → Good c → Good (f d c)) → (c : Context) → Good c → Good (each f ids c))
    (λ a rest next kept c are.
    next kept (f a c) (kept a c are))
    (λ ids other kept c are. rw (each_end f ids c other) (are))

constant_whole : (c : Context) (constant : Bool) (v : Tree) → Good c → IsWhole (constant_value c constant v).value
constant_whole c true (More e rest) are = value_whole c are.entries e
constant_whole c constant v are = tt

object_whole : (c : Context) (constant : Bool) (t : ℕ) (v : InitialValue) → IsWhole v.value → IsWhole (object_info c constant t v).value
object_whole c constant t v is = by (is_scalar (full c.known.table t))
  where
    by : (k : Bool) → IsWhole (if k then value_as (base c.known.table t) v.value else None)
    by true = as_whole (base c.known.table t) v.value is
    by false = tt

object_kept : (constant : Bool) (i : Code) (v : InitialValue) → IsWhole v.value → (d : Code) (c : Context) → Good c → Good (with_object constant i v d c)
object_kept constant i v is d c are =
    entry_kept (with_indication (declared_number d) i c) (declared_number d) (entry.Object (object_info c constant (indicated c.known (declared_number d) i) v))
    (object_whole c constant (indicated c.known (declared_number d) i) v is) (indication_kept (declared_number d) i c are)

formal_kept : (of d : Code) (c : Context) → Good c → Good (with_formal of d c)
formal_kept of d c are =
    entry_kept (with_indication (declared_number d) of c) (declared_number d) (entry.Object (plain_object (indicated c.known (declared_number d) of) kind.Formal)) tt (indication_kept (declared_number d) of c are)

group_kept : (group : Code) (c : Context) → Good c → Good (with_formal_group group c)
group_kept = on_group (λ group. (c : Context) → Good c → Good (with_formal_group group c))
    (λ names m of c are.
    each_kept (with_formal of) names (λ d c. formal_kept of d c) c are)
    (λ group other c are. rw (group_end group c other) (are))

result_kept : (d : ℕ) (result : Code) (c : Context) → Good c → Good (with_result d result c)
result_kept d = on_more (λ result. (c : Context) → Good c → Good (with_result d result c))
    (λ i rest _ c are.
    indication_kept d i c are)
    (λ result other c are. rw (result_end d result c other) (are))

front_kept : (front : Code) (c : Context) → Good c → Good (with_front front c)
front_kept = on_front (λ front. (c : Context) → Good c → Good (with_front front c))
    (λ d formals result c are.
    let n = declared_number d in
    let inner = each with_formal_group formals (with_result n result c) in
    entry_kept inner n (entry.Subprogram (profile inner.known (Front d formals result))) tt (each_kept with_formal_group formals group_kept (with_result n result c) (result_kept n result c are)))
    (λ front other c are. rw (front_end front c other) (are))

formals_kept : (front : Code) (c : Context) → Good c → Good (with_formals front c)
formals_kept = on_front (λ front. (c : Context) → Good c → Good (with_formals front c))
    (λ d formals result c are.
    each_kept with_formal_group formals group_kept c are)
    (λ front other c are. rw (formals_end front c other) (are))

body_kept : (front : Code) (c : Context) → Good c → Good (with_body_front front c)
body_kept front c are = by (is_subprogram (entry_of c.known (front_number front)))
  where
    by : (b : Bool) → Good (if b then with_formals front c else with_front front c)
    by true = formals_kept front c are
    by false = front_kept front c are

-- ---- all of the code

gathered : (code : Code) (c : Context) → Good c → Good (gather code c)
unfolding gather
gathered (Incomplete d) c are =
    type_kept c (declared_number d) (record (awaited_info c (declared_number d)) { completed = Some (declared_pos d) }) (are.rows (declared_number d)) are
gathered (Private d) c are = type_kept c (declared_number d) (record (awaited_info c (declared_number d)) { seen_in = c.home }) (are.rows (declared_number d)) are
gathered (TypeDecl d def end) c are =
    let n = declared_number d in
    definition_kept n def (with_type n (full_info c n def end) c) (type_kept c n (full_info c n def end) (defined_low c def) are)
gathered (Subtype d m) c are =
    let t = marked c.known m in
    type_kept c (declared_number d) (subtype_info c.known t (shape.Same (meant_by (info c.known.table t).shape t)) true) tt are
gathered (ConstrainedSubtype d m low high) c are =
    let t = marked c.known m in
    let pair = bound_pair c (base c.known.table t) low high in
    type_kept c (declared_number d) (subtype_info c.known t (constrained_shape (full c.known.table t) pair) (not (is_asked c) || are_static_bounds c (base c.known.table t) low high))
    (constrained_low (full c.known.table t) pair (pair_low c (base c.known.table t) low high are)) are
gathered (Objects ids constant i v) c are =
    each_kept (with_object constant i (constant_value c constant v)) ids (object_kept constant i (constant_value c constant v) (constant_whole c constant v are)) c are
gathered (Numbers ids e) c are =
    each_kept (with_number (initial_value c e)) ids
    (λ d k good. entry_kept k (declared_number d) (entry.Object (number_info k (initial_value c e))) (as_whole integer (value c e) (value_whole c are.entries e)) good) c are
gathered (Instance d m args) c are = entry_kept c (declared_number d) (entry.Instance (instance_type args)) tt are
gathered (SubDecl front) c are = front_kept front c are
gathered (SubBody front items stmts end) c are =
    gathered stmts (gather items (in_subprogram front (with_body_front front c))) (gathered items (in_subprogram front (with_body_front front c)) (body_kept front c are))
gathered (Package d visible hidden) c are =
    let n = declared_number d in
    let start = in_visible n (with_entry n entry.Package c) in
    gathered hidden (in_hidden n (gather visible start)) (gathered visible start (entry_kept c n entry.Package tt are))
gathered (PackageBody d parts) c are = gathered parts (in_hidden (declared_number d) c) are
gathered (If p branches otherwise) c are = gathered otherwise (gather branches c) (gathered branches c are)
gathered (Branch p e stmts) c are = gathered stmts c are
gathered (Case p e whens) c are = gathered whens c are
gathered (When choices stmts) c are = gathered stmts c are
gathered (Loop p stmts) c are = gathered stmts c are
gathered (While p e stmts) c are = gathered stmts c are
gathered (For p d reversed range stmts) c are =
    gathered stmts (with_entry (declared_number d) (entry.Object (plain_object (parameter_type c range) kind.Parameter)) c)
    (entry_kept c (declared_number d) (entry.Object (plain_object (parameter_type c range) kind.Parameter)) tt are)
gathered (Block p items stmts end) c are = gathered stmts (gather items c) (gathered items c are)
gathered (More a rest) c are = gathered rest (gather a c) (gathered a c are)
gathered code c are = are

-- ---- at first

no_row : (n t : ℕ) → HasLow (info (replicate n no_type) t).shape
no_row zero t = tt
no_row (suc n) zero = tt
no_row (suc n) (suc t) = no_row n t

first_rows : (n t : ℕ) → HasLow (info (predefined_types false ++ replicate n no_type) t).shape
first_rows n zero = refl
first_rows n (suc zero) = refl
first_rows n (suc (suc zero)) = refl
first_rows n (suc (suc (suc zero))) = refl
first_rows n (suc (suc (suc (suc zero)))) = tt
first_rows n (suc (suc (suc (suc (suc t))))) = no_row n t

no_entry : (n d : ℕ) → IsWholeEntry (get_or (replicate n entry.Nothing) d entry.Nothing)
no_entry zero d = tt
no_entry (suc n) zero = tt
no_entry (suc n) (suc d) = no_entry n d

-- None of some entries is an object.
abbrev AreNone : List Entry → Type 0
AreNone [] = Unit {0}
AreNone (e ∷ es) = IsWholeEntry e × AreNone es

none_before : (es more : List Entry) → AreNone es → ((d : ℕ) → IsWholeEntry (get_or more d entry.Nothing)) → (d : ℕ) → IsWholeEntry (get_or (es ++ more) d entry.Nothing)
none_before [] more are rest d = rest d
none_before (e ∷ es) more are rest zero = are.0
none_before (e ∷ es) more are rest (suc d) = none_before es more are.1 rest d

first_none : AreNone predefined_entries
first_none = (tt, (tt, (tt, (tt, (tt, (tt, (tt, (tt, (tt, (tt, (tt, (tt, (tt, (tt, (tt, tt)))))))))))))))

first_bounded : (count : ℕ) → AreBounded (at_first false count)
first_bounded count = record {
  rows = first_rows (count - 5);
  entries = none_before predefined_entries (replicate (count - 15) entry.Nothing) first_none (no_entry (count - 15));
}

-- ---- both turns

units_gathered : (units : List Code) (c : Context) → Good c → Good (gather_units units c)
units_gathered [] c are = are
units_gathered (u ∷ rest) c are = units_gathered rest (gather u c) (gathered u c are)

turn : (p : Program) (table : Table) → AreBounded (record (at_first false p.count) { table = table }) → AreBounded (known_from p table)
turn p table are = units_gathered p.units (outside (record (at_first false p.count) { table = table })) are

all_bounded : (p : Program) → AreBounded (known_of p)
unfolding known_of
all_bounded p =
    let start = first_bounded p.count in
    let once = turn p (at_first false p.count).table start in
    turn p (known_from p (at_first false p.count).table).table (record { rows = once.rows; entries = start.entries })

same_shape : (o : Option Info) → shape_found o ≡ (info_found o).shape
same_shape None = refl
same_shape (Some i) = refl

pub has_bounds : (p : Program) → HasBounds (known_of p).table
has_bounds p =
    let are = all_bounded p in
    record {
      whole = λ t low high is. subst HasLow (sym (same_shape (slice_get (known_of p).table t)) ∙ is) (are.rows t);
      listed = λ t low high literals is. subst HasLow (sym (same_shape (slice_get (known_of p).table t)) ∙ is) (are.rows t);
    }
