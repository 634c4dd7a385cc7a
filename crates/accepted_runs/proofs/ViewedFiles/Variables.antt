-- Access types with names are of variables.
use Rattle.std.proofs.Common.{◌≡◌, refl, subst, ℕ, ◌+◌, ◌-◌, zero, suc, Bool, true, false, not, ◌||◌, List, [], ◌∷◌, ◌++◌, replicate, ℤ, Option, Some, None, if◌then◌else◌}
use Rattle.std.specs.Prelude.{slice_get}
use Rattle.machine.specs.resolved_tree.Trees.{More, Code, Anonymous, Enumeration, Record, Array, Access, Incomplete, Private, TypeDecl, Subtype, ConstrainedSubtype, Objects, Numbers, Instance, Formals, Front, SubDecl, SubBody, Package, PackageBody, If, Branch, Case, When, Loop, While, For, Block, Program}
use Rattle.machine.specs.type_definitions.declared.table.Info.{Info}
use Rattle.machine.specs.type_definitions.declared.table.InitialValue.{InitialValue}
use Rattle.machine.specs.type_definitions.declared.table.Shape.{Shape}
use Rattle.machine.specs.type_definitions.declared.table.Shape.TheVariants as shape
use Rattle.machine.specs.type_definitions.declared.table.Entry.TheVariants as entry
use Rattle.machine.specs.type_definitions.declared.table.Kind.TheVariants as kind
use Rattle.machine.specs.type_definitions.declared.judgement.View.{View}
use Rattle.machine.specs.type_definitions.declared.judgement.View.TheVariants as view
use Rattle.machine.specs.type_definitions.Types.{Table, info, info_found, base, full, shape_of, shape_found, meant_type, no_type}
use Rattle.machine.specs.type_definitions.Entries.{entry_of, marked}
use Rattle.machine.specs.type_definitions.Names.{Context}
use Rattle.machine.specs.type_definitions.Whole.{predefined_types, at_first, outside, gather_units, known_from, known_of}
use Rattle.machine.specs.type_definitions.Gathered.{gather, each, declared_number, declared_pos, with_entry, with_info, with_type, own_info, with_indication, awaited_info, defined, is_asked, are_static_bounds, bound_pair, with_literals, with_definition, full_info, constrained_shape, subtype_info, meant_by, with_object, constant_value, with_number, initial_value, plain_object, with_formal, with_formal_group, with_formals, with_result, with_front, with_body_front, is_subprogram, front_number, parameter_type, in_subprogram, in_visible, in_hidden}
use Rattle.settled_types.proofs.GatheredLaws.Gathered.{row_after}

abbrev IsVariable : Shape → Type 0
IsVariable (shape.Access d constant named) = named ≡ true → constant ≡ false
IsVariable s = Unit {0}

abbrev AreVariable : Context → Type 0
AreVariable c = (t : ℕ) → IsVariable (info c.known.table t).shape

defined_variable : (c : Context) (def : Code) → IsVariable (defined c def)
defined_variable c (Enumeration literals) = tt
defined_variable c (Record components) = tt
defined_variable c (Array range m) = tt
defined_variable c (Access m) = λ named. refl
defined_variable c def = tt

constrained_variable : (w : View) (b : ℤ × ℤ) → IsVariable (constrained_shape w b)
constrained_variable (view.Whole p q) b = tt
constrained_variable (view.Listed p q) b = tt
constrained_variable w b = tt

-- ---- one more row

row_put : (c : Context) (d : ℕ) (i : Info) → IsVariable i.shape → AreVariable c → AreVariable (with_info d i c)
row_put c d i new are t = row_after c.known.table d t i (λ o. IsVariable (info_found o).shape) (λ same. new) (are t)

literals_put : (t n : ℕ) (ids : Code) (c : Context) → AreVariable c → AreVariable (with_literals t n ids c)
literals_put t n (More d rest) c are = literals_put t (n + 1) rest (with_entry (declared_number d) (entry.Literal t n) c) are
literals_put t n ids c are = are

definition_put : (t : ℕ) (def : Code) (c : Context) → AreVariable c → AreVariable (with_definition t def c)
definition_put t (Enumeration literals) c are = literals_put t 0 literals c are
definition_put t def c are = are

indication_put : (d : ℕ) (i : Code) (c : Context) → AreVariable c → AreVariable (with_indication d i c)
indication_put d (Anonymous p constant m) c are = row_put c d (own_info (shape.Access (marked c.known m) constant false) d) (λ named. cc) are
indication_put d i c are = are

objects_put : (constant : Bool) (i : Code) (v : InitialValue) (ids : Code) (c : Context) → AreVariable c → AreVariable (each (with_object constant i v) ids c)
objects_put constant i v (More d rest) c are = objects_put constant i v rest (with_object constant i v d c) (indication_put (declared_number d) i c are)
objects_put constant i v ids c are = are

numbers_put : (v : InitialValue) (ids : Code) (c : Context) → AreVariable c → AreVariable (each (with_number v) ids c)
numbers_put v (More d rest) c are = numbers_put v rest (with_number v d c) are
numbers_put v ids c are = are

names_put : (of ids : Code) (c : Context) → AreVariable c → AreVariable (each (with_formal of) ids c)
names_put of (More d rest) c are = names_put of rest (with_formal of d c) (indication_put (declared_number d) of c are)
names_put of ids c are = are

group_put : (group : Code) (c : Context) → AreVariable c → AreVariable (with_formal_group group c)
group_put (Formals names m of) c are = names_put of names c are
group_put group c are = are

groups_put : (formals : Code) (c : Context) → AreVariable c → AreVariable (each with_formal_group formals c)
groups_put (More group rest) c are = groups_put rest (with_formal_group group c) (group_put group c are)
groups_put formals c are = are

result_put : (d : ℕ) (result : Code) (c : Context) → AreVariable c → AreVariable (with_result d result c)
result_put d (More i rest) c are = indication_put d i c are
result_put d result c are = are

front_put : (front : Code) (c : Context) → AreVariable c → AreVariable (with_front front c)
front_put (Front d formals result) c are = groups_put formals (with_result (declared_number d) result c) (result_put (declared_number d) result c are)
front_put front c are = are

formals_put : (front : Code) (c : Context) → AreVariable c → AreVariable (with_formals front c)
formals_put (Front d formals result) c are = groups_put formals c are
formals_put front c are = are

body_put : (front : Code) (c : Context) → AreVariable c → AreVariable (with_body_front front c)
body_put front c are = by (is_subprogram (entry_of c.known (front_number front)))
  where
    by : (b : Bool) → AreVariable (if b then with_formals front c else with_front front c)
    by true = formals_put front c are
    by false = front_put front c are

-- ---- all of the code

code_put : (code : Code) (c : Context) → AreVariable c → AreVariable (gather code c)
unfolding gather
code_put (Incomplete d) c are =
    let n : ℕ = declared_number d in row_put c n (record (awaited_info c n) { completed = Some (declared_pos d) }) (are n) are
code_put (Private d) c are = let n : ℕ = declared_number d in row_put c n (record (awaited_info c n) { seen_in = c.home }) (are n) are
code_put (TypeDecl d def end) c are =
    let n : ℕ = declared_number d in
    definition_put n def (with_type n (full_info c n def end) c) (row_put c n (full_info c n def end) (defined_variable c def) are)
code_put (Subtype d m) c are =
    let t : ℕ = marked c.known m in
    row_put c (declared_number d) (subtype_info c.known t (shape.Same (meant_by (info c.known.table t).shape t)) true) tt are
code_put (ConstrainedSubtype d m low high) c are =
    let t : ℕ = marked c.known m in
    let bounds : ℤ × ℤ = bound_pair c (base c.known.table t) low high in
    row_put c (declared_number d)
    (subtype_info c.known t (constrained_shape (full c.known.table t) bounds) (not (is_asked c) || are_static_bounds c (base c.known.table t) low high))
    (constrained_variable (full c.known.table t) bounds) are
code_put (Objects ids constant i v) c are = objects_put constant i (constant_value c constant v) ids c are
code_put (Numbers ids e) c are = numbers_put (initial_value c e) ids c are
code_put (Instance d m args) c are = are
code_put (SubDecl front) c are = front_put front c are
code_put (SubBody front items stmts end) c are =
    let inner : Context = in_subprogram front (with_body_front front c) in code_put stmts (gather items inner) (code_put items inner (body_put front c are))
code_put (Package d visible hidden) c are =
    let n : ℕ = declared_number d in
    let start : Context = in_visible n (with_entry n entry.Package c) in
    code_put hidden (in_hidden n (gather visible start)) (code_put visible start are)
code_put (PackageBody d parts) c are = code_put parts (in_hidden (declared_number d) c) are
code_put (If p x y) c are = code_put y (gather x c) (code_put x c are)
code_put (Branch p e x) c are = code_put x c are
code_put (Case p e x) c are = code_put x c are
code_put (When choices x) c are = code_put x c are
code_put (Loop p x) c are = code_put x c are
code_put (While p e x) c are = code_put x c are
code_put (For p d reversed range x) c are =
    code_put x (with_entry (declared_number d) (entry.Object (plain_object (parameter_type c range) kind.Parameter)) c) are
code_put (Block p x y end) c are = code_put y (gather x c) (code_put x c are)
code_put (More x y) c are = code_put y (gather x c) (code_put x c are)
code_put code c are = are

units_put : (units : List Code) (c : Context) → AreVariable c → AreVariable (gather_units units c)
units_put [] c are = are
units_put (u ∷ rest) c are = units_put rest (gather u c) (code_put u c are)

-- ---- both turns

none_row : (n t : ℕ) → IsVariable (info (replicate n no_type) t).shape
none_row zero t = tt
none_row (suc n) zero = tt
none_row (suc n) (suc t) = none_row n t

first_rows : (n t : ℕ) → IsVariable (info (predefined_types false ++ replicate n no_type) t).shape
first_rows n zero = tt
first_rows n (suc zero) = tt
first_rows n (suc (suc zero)) = tt
first_rows n (suc (suc (suc zero))) = tt
first_rows n (suc (suc (suc (suc zero)))) = tt
first_rows n (suc (suc (suc (suc (suc t))))) = none_row n t

turn : (p : Program) (table : Table) → ((t : ℕ) → IsVariable (info table t).shape) → (t : ℕ) → IsVariable (info (known_from p table).table t).shape
turn p table rows = units_put p.units (outside (record (at_first false p.count) { table = table })) rows

all_rows : (p : Program) (t : ℕ) → IsVariable (info (known_of p).table t).shape
unfolding known_of
all_rows p = turn p (known_from p (at_first false p.count).table).table (turn p (at_first false p.count).table (first_rows (p.count - 5)))

pub named_variable : (p : Program) (t d : ℕ) (c n : Bool) → shape_of (known_of p).table t ≡ shape.Access d c n → n ≡ true → c ≡ false
named_variable p t d c n is =
    subst IsVariable is (found (slice_get (known_of p).table (meant_type (known_of p).table t)) (all_rows p (meant_type (known_of p).table t)))
  where
    found : (o : Option Info) → IsVariable (info_found o).shape → IsVariable (shape_found o)
    found None rows = rows
    found (Some i) rows = rows
