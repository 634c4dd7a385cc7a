-- Integer owns nothing in the table of a program that declares in order: its row is that of a predefined
-- type, or of an anonymous access type.
use Rattle.std.proofs.Common.{◌≡◌, refl, sym, subst, ℕ, zero, suc, ◌+◌, ◌≤◌, Bool, true, false, not, ◌||◌, List, [], ◌∷◌, set, length, arith, Some, if◌then◌else◌}
use Rattle.std.specs.Prelude.{slice_get}
use Rattle.machine.specs.resolved_tree.Trees.{More, Code, Incomplete, Private, TypeDecl, Subtype, ConstrainedSubtype, Objects, Numbers, Instance, SubDecl, SubBody, Package, PackageBody, If, Branch, Case, When, Loop, While, For, Block, Program}
use Rattle.machine.specs.type_definitions.declared.table.Info.{Info}
use Rattle.machine.specs.type_definitions.declared.table.Shape.TheVariants as shape
use Rattle.machine.specs.type_definitions.declared.table.Entry.TheVariants as entry
use Rattle.machine.specs.type_definitions.declared.table.Kind.TheVariants as kind
use Rattle.machine.specs.type_definitions.Types.{Table, info, base, full, shape_found, owns_of, owns_within, is_owning}
use Rattle.machine.specs.type_definitions.Entries.{entry_of, integer, marked}
use Rattle.machine.specs.type_definitions.Names.{Context}
use Rattle.machine.specs.type_definitions.Gathered.{gather, each, own_info, awaited_info, full_info, subtype_info, meant_by, constrained_shape, bound_pair, is_asked, are_static_bounds, with_entry, with_type, with_indication, with_object, constant_value, with_number, initial_value, with_formal, with_formal_group, with_formals, with_result, with_front, with_body_front, with_literals, with_definition, is_subprogram, front_number, in_subprogram, in_visible, in_hidden, declared_number, declared_pos, plain_object, parameter_type}
use Rattle.machine.specs.type_definitions.Whole.{at_first, outside, gather_units, known_from, known_of}
use Rattle.settled_types.proofs.Cases.{definition_end, each_end, formals_end, front_end, group_end, indication_end, on_access, on_enumeration, on_front, on_group, on_more, result_end}
use Rattle.settled_types.specs.Orderly.{Past, at_start, past_after, within, Orderly, AllOrderly, IsOrderly}

-- The row of Integer owns nothing, whatever owns.
abbrev IsBare : Table → Type 0
IsBare table = (owns : ℕ → Bool) → owns_of owns (shape_found (slice_get table integer)) ≡ false

-- ---- rows

other_row : (table : Table) (d : ℕ) (i : Info) → 15 ≤ d → slice_get (set table d i) 0 ≡ slice_get table 0
other_row [] d i low = refl
other_row (x ∷ rest) zero i low = absurd (omega (arith, low))
other_row (x ∷ rest) (suc d) i low = refl

bare_row : (table : Table) (d : ℕ) (i : Info) → ((owns : ℕ → Bool) → owns_of owns i.shape ≡ false) → IsBare table → IsBare (set table d i)
bare_row [] d i nothing bare = bare
bare_row (x ∷ rest) zero i nothing bare = nothing
bare_row (x ∷ rest) (suc d) i nothing bare = bare

type_bare : (d : ℕ) (i : Info) (c : Context) → 15 ≤ d → IsBare c.known.table → IsBare (with_type d i c).known.table
type_bare d i c low bare = λ owns.
    subst (λ row. owns_of owns (shape_found row) ≡ false) (sym (other_row c.known.table d i low)) (bare owns)

-- ---- declarations

each_bare : (f : Code → Context → Context) → ((d : Code) (c : Context) → IsBare c.known.table → IsBare (f d c).known.table) → (ids : Code) (c : Context)
    → IsBare c.known.table → IsBare (each f ids c).known.table
each_bare f keeps = on_more (λ ids. (c : Context) → IsBare c.known.table → IsBare (each f ids c).known.table)
    (λ a rest next c bare.
    next (f a c) (keeps a c bare))
    (λ ids other c bare. rw (each_end f ids c other) (bare))

indication_bare : (d : ℕ) (i : Code) (c : Context) → IsBare c.known.table → IsBare (with_indication d i c).known.table
indication_bare d = on_access (λ i. (c : Context) → IsBare c.known.table → IsBare (with_indication d i c).known.table)
    (λ p constant m c bare.
    bare_row c.known.table d (own_info (shape.Access (marked c.known m) constant false) d) (λ owns. refl) bare)
    (λ i other c bare. rw (indication_end d i c other) (bare))

group_bare : (group : Code) (c : Context) → IsBare c.known.table → IsBare (with_formal_group group c).known.table
group_bare = on_group (λ group. (c : Context) → IsBare c.known.table → IsBare (with_formal_group group c).known.table)
    (λ names m of c bare.
    each_bare (with_formal of) (λ d c bare. indication_bare (declared_number d) of c bare) names c bare)
    (λ group other c bare. rw (group_end group c other) (bare))

result_bare : (d : ℕ) (result : Code) (c : Context) → IsBare c.known.table → IsBare (with_result d result c).known.table
result_bare d = on_more (λ result. (c : Context) → IsBare c.known.table → IsBare (with_result d result c).known.table)
    (λ i rest _ c bare.
    indication_bare d i c bare)
    (λ result other c bare. rw (result_end d result c other) (bare))

front_bare : (front : Code) (c : Context) → IsBare c.known.table → IsBare (with_front front c).known.table
front_bare = on_front (λ front. (c : Context) → IsBare c.known.table → IsBare (with_front front c).known.table)
    (λ d formals result c bare.
    each_bare with_formal_group group_bare formals (with_result (declared_number d) result c) (result_bare (declared_number d) result c bare))
    (λ front other c bare. rw (front_end front c other) (bare))

formals_bare : (front : Code) (c : Context) → IsBare c.known.table → IsBare (with_formals front c).known.table
formals_bare = on_front (λ front. (c : Context) → IsBare c.known.table → IsBare (with_formals front c).known.table)
    (λ d formals result c bare.
    each_bare with_formal_group group_bare formals c bare)
    (λ front other c bare. rw (formals_end front c other) (bare))

body_bare : (front : Code) (c : Context) → IsBare c.known.table → IsBare (with_body_front front c).known.table
body_bare front c bare = by (is_subprogram (entry_of c.known (front_number front)))
  where
    by : (declared : Bool) → IsBare (if declared then with_formals front c else with_front front c).known.table
    by true = formals_bare front c bare
    by false = front_bare front c bare

literals_bare : (t n : ℕ) (ids : Code) (c : Context) → IsBare c.known.table → IsBare (with_literals t n ids c).known.table
literals_bare t n (More d rest) c bare = literals_bare t (n + 1) rest (with_entry (declared_number d) (entry.Literal t n) c) bare
literals_bare t n _ c bare = bare

definition_bare : (t : ℕ) (def : Code) (c : Context) → IsBare c.known.table → IsBare (with_definition t def c).known.table
definition_bare t = on_enumeration (λ def. (c : Context) → IsBare c.known.table → IsBare (with_definition t def c).known.table)
    (λ literals c bare.
    literals_bare t 0 literals c bare)
    (λ def other c bare. rw (definition_end t def c other) (bare))

-- ---- all of the code

module _ (count : ℕ) where
  gathered_bare : (code : Code) (past : Past) (c : Context) → Orderly count past code → IsBare c.known.table → IsBare (gather code c).known.table
  unfolding gather Orderly past_after
  gathered_bare (Incomplete d) past c are bare =
      type_bare (declared_number d) (record (awaited_info c (declared_number d)) { completed = Some (declared_pos d) }) c are.0 bare
  gathered_bare (Private d) past c are bare =
      type_bare (declared_number d) (record (awaited_info c (declared_number d)) { seen_in = c.home }) c are.0 bare
  gathered_bare (TypeDecl d def end) past c are bare =
      let n : ℕ = declared_number d in
      definition_bare n def (with_type n (full_info c n def end) c) (type_bare n (full_info c n def end) c are.0.0 bare)
  gathered_bare (Subtype d m) past c are bare =
      let t : ℕ = marked c.known m in
      type_bare (declared_number d) (subtype_info c.known t (shape.Same (meant_by (info c.known.table t).shape t)) true) c are.0 bare
  gathered_bare (ConstrainedSubtype d m low high) past c are bare =
      let t : ℕ = marked c.known m in
      type_bare (declared_number d)
      (subtype_info c.known t (constrained_shape (full c.known.table t) (bound_pair c (base c.known.table t) low high))
      (not (is_asked c) || are_static_bounds c (base c.known.table t) low high)) c are.0 bare
  gathered_bare (Objects ids constant i v) past c are bare =
      each_bare (with_object constant i (constant_value c constant v)) (λ d c bare. indication_bare (declared_number d) i c bare) ids c bare
  gathered_bare (Numbers ids e) past c are bare = each_bare (with_number (initial_value c e)) (λ d c bare. bare) ids c bare
  gathered_bare (Instance d m args) past c are bare = bare
  gathered_bare (SubDecl front) past c are bare = front_bare front c bare
  gathered_bare (SubBody front items stmts end) past c are bare =
      let inner : Context = in_subprogram front (with_body_front front c) in
      gathered_bare stmts (past_after items past) (gather items inner) are.1.1 (gathered_bare items past inner are.1.0 (body_bare front c bare))
  gathered_bare (Package d visible hidden) past c are bare =
      let n : ℕ = declared_number d in
      let inner : Context = in_visible n (with_entry n entry.Package c) in
      gathered_bare hidden (within true (past_after visible (within true past))) (in_hidden n (gather visible inner)) are.1.1
      (gathered_bare visible (within true past) inner are.1.0 bare)
  gathered_bare (PackageBody d parts) past c are bare = gathered_bare parts (within true past) (in_hidden (declared_number d) c) are bare
  gathered_bare (If p branches otherwise) past c are bare =
      gathered_bare otherwise (past_after branches past) (gather branches c) are.1 (gathered_bare branches past c are.0 bare)
  gathered_bare (Branch p e stmts) past c are bare = gathered_bare stmts past c are bare
  gathered_bare (Case p e whens) past c are bare = gathered_bare whens past c are bare
  gathered_bare (When choices stmts) past c are bare = gathered_bare stmts past c are bare
  gathered_bare (Loop p stmts) past c are bare = gathered_bare stmts past c are bare
  gathered_bare (While p e stmts) past c are bare = gathered_bare stmts past c are bare
  gathered_bare (For p d reversed range stmts) past c are bare =
      gathered_bare stmts past (with_entry (declared_number d) (entry.Object (plain_object (parameter_type c range) kind.Parameter)) c) are.1 bare
  gathered_bare (Block p items stmts end) past c are bare =
      gathered_bare stmts (past_after items past) (gather items c) are.1 (gathered_bare items past c are.0 bare)
  gathered_bare (More a rest) past c are bare =
      gathered_bare rest (past_after a past) (gather a c) are.1 (gathered_bare a past c are.0 bare)
  gathered_bare _ past c are bare = bare

  units_bare : (units : List Code) (past : Past) (c : Context) → AllOrderly count past units → IsBare c.known.table → IsBare (gather_units units c).known.table
  units_bare [] past c are bare = bare
  units_bare (u ∷ rest) past c are bare = units_bare rest (past_after u past) (gather u c) are.1 (gathered_bare u past c are.0 bare)

-- A turn that begins with such a table ends with one.
turn_bare : (p : Program) (table : Table) → IsOrderly p → IsBare table → IsBare (known_from p table).table
turn_bare p table are bare = units_bare p.count p.units at_start (outside (record (at_first false p.count) { table = table })) are bare

bare_within : (table : Table) → IsBare table → (n : ℕ) → owns_within n table integer ≡ false
unfolding owns_within
bare_within table bare zero = refl
bare_within table bare (suc n) = bare (owns_within n table)

pub whole : (p : Program) → IsOrderly p → is_owning (known_of p).table integer ≡ false
unfolding known_of is_owning
whole p are =
    let first : Table = (known_from p (at_first false p.count).table).table in
    let once : IsBare first = turn_bare p (at_first false p.count).table are (λ owns. refl) in
    bare_within (known_of p).table (turn_bare p first are once) (length (known_of p).table)
