-- The bounds of the types of a program are values of Integer, and positions of literals are few where literals are.
use Rattle.std.proofs.Common.{◌≡◌, ◌≤◌, inl, inr, refl, sym, subst, arith, ℕ, zero, suc, ◌-◌, ◌+◌, Bool, true, false, List, [], ◌∷◌, ◌++◌, length, set, get_or, replicate, ℤ, pos, negsuc, Option, Some, None, if◌then◌else◌}
use Rattle.std.specs.Prelude.{slice_get, not, ◌||◌}
use Rattle.std.proofs.lemmas.Bool.{leb-true}
use Rattle.machine.specs.spark_base.Lists.{Has}
use Rattle.machine.specs.resolved_tree.Trees.{More, Code, Tree, Bounds, Marked, Constrained, Enumeration, Record, Array, Access, Incomplete, Private, TypeDecl, Subtype, ConstrainedSubtype, Objects, Numbers, Instance, Front, SubDecl, SubBody, Package, PackageBody, If, Branch, Case, When, Loop, While, For, Block, Program}
use Rattle.soundness.specs.run_values.Arithmetic.{is_integer}
use Rattle.machine.specs.type_definitions.declared.table.Info.{Info}
use Rattle.machine.specs.type_definitions.declared.table.InitialValue.{InitialValue}
use Rattle.machine.specs.type_definitions.declared.table.Shape.{Shape}
use Rattle.machine.specs.type_definitions.declared.table.Shape.TheVariants as shape
use Rattle.machine.specs.type_definitions.declared.table.Entry.{Entry}
use Rattle.machine.specs.type_definitions.declared.table.Entry.TheVariants as entry
use Rattle.machine.specs.type_definitions.declared.table.Known.{Known}
use Rattle.machine.specs.type_definitions.declared.table.Kind.TheVariants as kind
use Rattle.machine.specs.type_definitions.declared.judgement.View.{View}
use Rattle.machine.specs.type_definitions.declared.judgement.View.TheVariants as view
use Rattle.machine.specs.type_definitions.Types.{Table, info, info_found, shape_found, shape_of, meant_type, view_of, base, full, is_scalar, is_untyped, no_type}
use Rattle.machine.specs.type_definitions.Entries.{entry_of, marked, integer}
use Rattle.machine.specs.type_definitions.Names.{Context}
use Rattle.machine.specs.type_definitions.Statics.{value, value_as}
use Rattle.machine.specs.type_definitions.Statements.{known_value}
use Rattle.machine.specs.type_definitions.Whole.{predefined_types, predefined_entries, at_first, outside, gather_units, known_from, known_of}
use Rattle.machine.specs.type_definitions.Gathered.{gather, each, declared_number, declared_pos, with_entry, with_info, with_type, own_info, texts, natural_of, indicated, with_indication, awaited_info, defined, is_asked, are_static_bounds, bound_pair, whole_bounds, array_bounds, with_literals, with_definition, full_info, constrained_shape, subtype_info, meant_by, with_object, object_info, constant_value, with_number, number_info, initial_value, plain_object, with_formal, with_formal_group, with_formals, with_result, with_front, with_body_front, profile, is_subprogram, front_number, parameter_type, in_subprogram, in_visible, in_hidden, instance_type}
use Rattle.settled_types.proofs.Cases.{definition_end, each_end, formals_end, front_end, group_end, indication_end, on_access, on_enumeration, on_front, on_group, on_more, result_end}
use Rattle.settled_types.proofs.TableLaws.Statics.{IsWhole, IsWholeEntry, value_whole, known_whole, as_whole}
use Rattle.sound_files.specs.TypedFiles.TypedRuns.Bounds.{HaveBounds}
use Rattle.sound_files.specs.TypedFiles.TypedTexts.Literals.{id_count, defined_count, literal_count}

pub at_most : (n : ℕ) → is_integer (pos n) ≡ true → n ≤ 2147483647
at_most n is = leb-true n 2147483647 is

-- ---- lists

row_after : {A : Type 0} (xs : List A) (d t : ℕ) (x : A) (Q : Option A → Type 0) → Q (Some x) → Q (slice_get xs t) → Q (slice_get (set xs d x) t)
row_after [] d t x Q new old = old
row_after (y ∷ xs) zero zero x Q new old = new
row_after (y ∷ xs) zero (suc t) x Q new old = old
row_after (y ∷ xs) (suc d) zero x Q new old = old
row_after (y ∷ xs) (suc d) (suc t) x Q new old = row_after xs d t x Q new old

entry_after : {A : Type 0} (xs : List A) (d t : ℕ) (x fallback : A) (Q : A → Type 0) → Q x → Q (get_or xs t fallback) → Q (get_or (set xs d x) t fallback)
entry_after [] d t x fallback Q new old = old
entry_after (y ∷ xs) zero zero x fallback Q new old = new
entry_after (y ∷ xs) zero (suc t) x fallback Q new old = old
entry_after (y ∷ xs) (suc d) zero x fallback Q new old = old
entry_after (y ∷ xs) (suc d) (suc t) x fallback Q new old = entry_after xs d t x fallback Q new old

-- So many literals are few enough, and so are all values of Integer that aren't negative.
module _ (P : ℕ → Type 0) (less : (m n : ℕ) → m ≤ n → P n → P m) (integers : P 2147483648) where
  -- Of each unit.
  abbrev pub AreFew : List Code → Type 0
  AreFew units = (u : Code) → Has units u → P (literal_count u)

  -- ---- what is kept

  abbrev pub AreWhole : ℤ × ℤ → Type 0
  AreWhole b = (is_integer b.0 ≡ true) × (is_integer b.1 ≡ true)

  abbrev pub HasBoth : Shape → Type 0
  HasBoth (shape.Whole low high) = AreWhole (low, high)
  HasBoth (shape.Elements low high of) = AreWhole (low, high)
  HasBoth (shape.Listed literals low high) = P (suc low) × P (suc high)
  HasBoth s = Unit {0}

  abbrev pub IsPosition : Entry → Type 0
  IsPosition (entry.Literal t n) = P (suc n)
  IsPosition e = Unit {0}

  abbrev IsKept : Entry → Type 0
  IsKept e = IsWholeEntry e × IsPosition e

  record AreBounded (known : Known) : Type 0 where
    rows : (t : ℕ) → HasBoth (info known.table t).shape
    entries : (d : ℕ) → IsKept (entry_of known d)

  abbrev Good : Context → Type 0
  Good c = AreBounded c.known

  entry_kept : (c : Context) (d : ℕ) (e : Entry) → IsKept e → Good c → Good (with_entry d e c)
  entry_kept c d e new are = record { rows = are.rows; entries = λ v. entry_after c.known.entries d v e entry.Nothing IsKept new (are.entries v) }

  row_kept : (c : Context) (d : ℕ) (i : Info) → HasBoth i.shape → Good c → Good (with_info d i c)
  row_kept c d i new are = record { rows = λ t. row_after c.known.table d t i (λ o. HasBoth (info_found o).shape) new (are.rows t); entries = are.entries }

  type_kept : (c : Context) (d : ℕ) (i : Info) → HasBoth i.shape → Good c → Good (with_type d i c)
  type_kept c d i new are = entry_kept (with_info d i c) d entry.Type (tt, tt) (row_kept c d i new are)

  -- ---- types

  whole : (c : Context) → Good c → (d : ℕ) → IsWholeEntry (entry_of c.known d)
  whole c are d = (are.entries d).0

  pair_whole : (c : Context) (b : ℕ) (low high : Tree) → Good c → AreWhole (bound_pair c b low high)
  pair_whole c b low high are = by (are_static_bounds c b low high)
    where
      pair : Bool → ℤ × ℤ
      pair k = if k then (known_value (value c low), known_value (value c high)) else (pos 1, pos 1)

      by : (k : Bool) → AreWhole (pair k)
      by true = (known_whole (value c low) (value_whole c (whole c are) low), known_whole (value c high) (value_whole c (whole c are) high))
      by false = (refl, refl)

  same_shape : (o : Option Info) → (info_found o).shape ≡ shape_found o
  same_shape None = refl
  same_shape (Some i) = refl

  shape_both : (c : Context) (t : ℕ) → Good c → HasBoth (shape_of c.known.table t)
  shape_both c t are = subst HasBoth (same_shape (slice_get c.known.table (meant_type c.known.table t))) (are.rows (meant_type c.known.table t))

  whole_whole : (z : Shape) → HasBoth z → AreWhole (whole_bounds (view_of z))
  whole_whole (shape.Whole low high) is = is
  whole_whole z is = (refl, refl)

  array_whole : (c : Context) (range : Code) → Good c → AreWhole (array_bounds c range)
  array_whole c (Bounds low high) are = pair_whole c integer low high are
  array_whole c (Constrained m low high) are = pair_whole c integer low high are
  array_whole c (Marked m) are = whole_whole (shape_of c.known.table (marked c.known m)) (shape_both c (marked c.known m) are)
  array_whole c range are = (refl, refl)

  one_more : (n : ℕ) → P n → P (suc (n - 1))
  one_more zero is = less (suc zero) 2147483648 (omega arith) integers
  one_more (suc n) is = less (suc (suc n - 1)) (suc n) (omega arith) is

  texts_counted : (ids : Code) → length (texts ids) ≡ id_count ids
  texts_counted (More d rest) = let more = texts_counted rest in omega (arith, more)
  texts_counted ids = refl

  defined_whole : (c : Context) (def : Code) → P (defined_count def) → Good c → HasBoth (defined c def)
  defined_whole c (Enumeration literals) few are =
      (less (suc zero) 2147483648 (omega arith) integers, subst (λ n. P (suc (n - 1))) (sym (texts_counted literals)) (one_more (id_count literals) few))
  defined_whole c (Record components) few are = tt
  defined_whole c (Array range m) few are = array_whole c range are
  defined_whole c (Access m) few are = tt
  defined_whole c def few are = tt

  -- a value of Integer that isn't negative
  position_of : (v : ℤ) → is_integer v ≡ true → P (suc (natural_of v))
  position_of (pos n) is = let small = at_most n is in less (suc n) 2147483648 (omega (arith, small)) integers
  position_of (negsuc n) is = less (suc zero) 2147483648 (omega arith) integers

  constrained_whole : (w : View) (b : ℤ × ℤ) → AreWhole b → HasBoth (constrained_shape w b)
  constrained_whole (view.Whole low high) b is = is
  constrained_whole (view.Listed low high) b is = (position_of b.0 is.0, position_of b.1 is.1)
  constrained_whole w b is = is

  literals_kept : (t n : ℕ) (ids : Code) (c : Context) → P (n + id_count ids) → Good c → Good (with_literals t n ids c)
  literals_kept t n (More d rest) c few are =
      literals_kept t (n + 1) rest (with_entry (declared_number d) (entry.Literal t n) c) (less ((n + 1) + id_count rest) (n + (1 + id_count rest)) (omega arith) few)
      (entry_kept c (declared_number d) (entry.Literal t n) (tt, less (suc n) (n + (1 + id_count rest)) (omega arith) few) are)
  literals_kept t n ids c few are = are

  definition_kept : (t : ℕ) (def : Code) (c : Context) → P (defined_count def) → Good c → Good (with_definition t def c)
  definition_kept t = on_enumeration (λ def. (c : Context) → P (defined_count def) → Good c → Good (with_definition t def c))
      (λ literals c few are.
      literals_kept t 0 literals c (less (0 + id_count literals) (id_count literals) (omega arith) few) are)
      (λ def other c few are. rw (definition_end t def c other) (are))

  -- ---- objects

  indication_kept : (d : ℕ) (i : Code) (c : Context) → Good c → Good (with_indication d i c)
  indication_kept d = on_access (λ i. (c : Context) → Good c → Good (with_indication d i c))
      (λ p constant m c are.
      row_kept c d (own_info (shape.Access (marked c.known m) constant false) d) tt are)
      (λ i other c are. rw (indication_end d i c other) (are))

  each_kept : (f : Code → Context → Context) (ids : Code) → ((d : Code) (c : Context) → Good c → Good (f d c)) → (c : Context) → Good c → Good (each f ids c)
  each_kept f = on_more (λ ids. ((d : Code) (c : Context) → Good c → Good (f d c)) → (c : Context) → Good c → Good (each f ids c))
      (λ a rest next kept c are.
      next kept (f a c) (kept a c are))
      (λ ids other kept c are. rw (each_end f ids c other) (are))

  constant_whole : (c : Context) (constant : Bool) (v : Tree) → Good c → IsWhole (constant_value c constant v).value
  constant_whole c true (More e rest) are = value_whole c (whole c are) e
  constant_whole c constant v are = tt

  object_whole : (c : Context) (constant : Bool) (t : ℕ) (v : InitialValue) → IsWhole v.value → IsWhole (object_info c constant t v).value
  object_whole c constant t v is = by (is_scalar (full c.known.table t))
    where
      by : (k : Bool) → IsWhole (if k then value_as (base c.known.table t) v.value else None)
      by true = as_whole (base c.known.table t) v.value is
      by false = tt

  object_kept : (constant : Bool) (i : Code) (v : InitialValue) → IsWhole v.value → (d : Code) (c : Context) → Good c → Good (with_object constant i v d c)
  object_kept constant i v is d c are =
      entry_kept (with_indication (declared_number d) i c) (declared_number d) (entry.Object (object_info c constant (indicated c.known (declared_number d) i) v))
      (object_whole c constant (indicated c.known (declared_number d) i) v is, tt) (indication_kept (declared_number d) i c are)

  formal_kept : (of d : Code) (c : Context) → Good c → Good (with_formal of d c)
  formal_kept of d c are =
      entry_kept (with_indication (declared_number d) of c) (declared_number d) (entry.Object (plain_object (indicated c.known (declared_number d) of) kind.Formal)) (tt, tt) (indication_kept (declared_number d) of c are)

  group_kept : (group : Code) (c : Context) → Good c → Good (with_formal_group group c)
  group_kept = on_group (λ group. (c : Context) → Good c → Good (with_formal_group group c))
      (λ names m of c are.
      each_kept (with_formal of) names (λ d c. formal_kept of d c) c are)
      (λ group other c are. rw (group_end group c other) (are))

  result_kept : (d : ℕ) (result : Code) (c : Context) → Good c → Good (with_result d result c)
  result_kept d = on_more (λ result. (c : Context) → Good c → Good (with_result d result c))
      (λ i rest _ c are.
      indication_kept d i c are)
      (λ result other c are. rw (result_end d result c other) (are))

  front_kept : (front : Code) (c : Context) → Good c → Good (with_front front c)
  front_kept = on_front (λ front. (c : Context) → Good c → Good (with_front front c))
      (λ d formals result c are.
      let n = declared_number d in
      let inner = each with_formal_group formals (with_result n result c) in
      entry_kept inner n (entry.Subprogram (profile inner.known (Front d formals result))) (tt, tt) (each_kept with_formal_group formals group_kept (with_result n result c) (result_kept n result c are)))
      (λ front other c are. rw (front_end front c other) (are))

  formals_kept : (front : Code) (c : Context) → Good c → Good (with_formals front c)
  formals_kept = on_front (λ front. (c : Context) → Good c → Good (with_formals front c))
      (λ d formals result c are.
      each_kept with_formal_group formals group_kept c are)
      (λ front other c are. rw (formals_end front c other) (are))

  body_kept : (front : Code) (c : Context) → Good c → Good (with_body_front front c)
  body_kept front c are = by (is_subprogram (entry_of c.known (front_number front)))
    where
      by : (b : Bool) → Good (if b then with_formals front c else with_front front c)
      by true = formals_kept front c are
      by false = front_kept front c are

  -- ---- all of the code

  first_few : (a b : Code) → P (literal_count a + literal_count b) → P (literal_count a)
  first_few a b few = less (literal_count a) (literal_count a + literal_count b) (omega arith) few

  second_few : (a b : Code) → P (literal_count a + literal_count b) → P (literal_count b)
  second_few a b few = less (literal_count b) (literal_count a + literal_count b) (omega arith) few

  gathered : (code : Code) (c : Context) → P (literal_count code) → Good c → Good (gather code c)
  unfolding gather literal_count
  gathered (Incomplete d) c few are =
      type_kept c (declared_number d) (record (awaited_info c (declared_number d)) { completed = Some (declared_pos d) }) (are.rows (declared_number d)) are
  gathered (Private d) c few are = type_kept c (declared_number d) (record (awaited_info c (declared_number d)) { seen_in = c.home }) (are.rows (declared_number d)) are
  gathered (TypeDecl d def end) c few are =
      let n = declared_number d in
      definition_kept n def (with_type n (full_info c n def end) c) few (type_kept c n (full_info c n def end) (defined_whole c def few are) are)
  gathered (Subtype d m) c few are =
      let t = marked c.known m in
      type_kept c (declared_number d) (subtype_info c.known t (shape.Same (meant_by (info c.known.table t).shape t)) true) tt are
  gathered (ConstrainedSubtype d m low high) c few are =
      let t = marked c.known m in
      let pair = bound_pair c (base c.known.table t) low high in
      type_kept c (declared_number d) (subtype_info c.known t (constrained_shape (full c.known.table t) pair) (not (is_asked c) || are_static_bounds c (base c.known.table t) low high))
      (constrained_whole (full c.known.table t) pair (pair_whole c (base c.known.table t) low high are)) are
  gathered (Objects ids constant i v) c few are =
      each_kept (with_object constant i (constant_value c constant v)) ids (object_kept constant i (constant_value c constant v) (constant_whole c constant v are)) c are
  gathered (Numbers ids e) c few are =
      each_kept (with_number (initial_value c e)) ids
      (λ d k good. entry_kept k (declared_number d) (entry.Object (number_info k (initial_value c e))) (as_whole integer (value c e) (value_whole c (whole c are) e), tt) good) c are
  gathered (Instance d m args) c few are = entry_kept c (declared_number d) (entry.Instance (instance_type args)) (tt, tt) are
  gathered (SubDecl front) c few are = front_kept front c are
  gathered (SubBody front items stmts end) c few are =
      let inner = in_subprogram front (with_body_front front c) in
      gathered stmts (gather items inner) (second_few items stmts few) (gathered items inner (first_few items stmts few) (body_kept front c are))
  gathered (Package d visible hidden) c few are =
      let n = declared_number d in
      let start = in_visible n (with_entry n entry.Package c) in
      gathered hidden (in_hidden n (gather visible start)) (second_few visible hidden few)
      (gathered visible start (first_few visible hidden few) (entry_kept c n entry.Package (tt, tt) are))
  gathered (PackageBody d parts) c few are = gathered parts (in_hidden (declared_number d) c) few are
  gathered (If p branches otherwise) c few are =
      gathered otherwise (gather branches c) (second_few branches otherwise few) (gathered branches c (first_few branches otherwise few) are)
  gathered (Branch p e stmts) c few are = gathered stmts c few are
  gathered (Case p e whens) c few are = gathered whens c few are
  gathered (When choices stmts) c few are = gathered stmts c few are
  gathered (Loop p stmts) c few are = gathered stmts c few are
  gathered (While p e stmts) c few are = gathered stmts c few are
  gathered (For p d reversed range stmts) c few are =
      gathered stmts (with_entry (declared_number d) (entry.Object (plain_object (parameter_type c range) kind.Parameter)) c) few
      (entry_kept c (declared_number d) (entry.Object (plain_object (parameter_type c range) kind.Parameter)) (tt, tt) are)
  gathered (Block p items stmts end) c few are = gathered stmts (gather items c) (second_few items stmts few) (gathered items c (first_few items stmts few) are)
  gathered (More a rest) c few are = gathered rest (gather a c) (second_few a rest few) (gathered a c (first_few a rest few) are)
  gathered code c few are = are

  -- ---- at first

  no_row : (n t : ℕ) → HasBoth (info (replicate n no_type) t).shape
  no_row zero t = tt
  no_row (suc n) zero = tt
  no_row (suc n) (suc t) = no_row n t

  first_rows : (n t : ℕ) → HasBoth (info (predefined_types false ++ replicate n no_type) t).shape
  first_rows n zero = (refl, refl)
  first_rows n (suc zero) = (refl, refl)
  first_rows n (suc (suc zero)) = (refl, refl)
  first_rows n (suc (suc (suc zero))) = (less (suc zero) 2147483648 (omega arith) integers, less (suc (suc zero)) 2147483648 (omega arith) integers)
  first_rows n (suc (suc (suc (suc zero)))) = tt
  first_rows n (suc (suc (suc (suc (suc t))))) = no_row n t

  no_entry : (n d : ℕ) → IsKept (get_or (replicate n entry.Nothing) d entry.Nothing)
  no_entry zero d = (tt, tt)
  no_entry (suc n) zero = (tt, tt)
  no_entry (suc n) (suc d) = no_entry n d

  abbrev AreKept : List Entry → Type 0
  AreKept [] = Unit {0}
  AreKept (e ∷ es) = IsKept e × AreKept es

  kept_before : (es more : List Entry) → AreKept es → ((d : ℕ) → IsKept (get_or more d entry.Nothing)) → (d : ℕ) → IsKept (get_or (es ++ more) d entry.Nothing)
  kept_before [] more are rest d = rest d
  kept_before (e ∷ es) more are rest zero = are.0
  kept_before (e ∷ es) more are rest (suc d) = kept_before es more are.1 rest d

  abbrev Plain : Type 0
  Plain = Unit {0} × Unit {0}

  plain : Plain
  plain = (tt, tt)

  first_kept : AreKept predefined_entries
  first_kept =
      let first : P (suc zero) = less (suc zero) 2147483648 (omega arith) integers in
      let second : P (suc (suc zero)) = less (suc (suc zero)) 2147483648 (omega arith) integers in
      (plain, (plain, (plain, (plain, ((tt, first), ((tt, second), (plain, (plain, (plain, (plain, (plain, (plain, (plain, (plain, (plain, tt)))))))))))))))

  first_bounded : (count : ℕ) → AreBounded (at_first false count)
  first_bounded count = record {
    rows = first_rows (count - 5);
    entries = kept_before predefined_entries (replicate (count - 15) entry.Nothing) first_kept (no_entry (count - 15));
  }

  -- ---- both turns

  units_gathered : (units : List Code) (c : Context) → AreFew units → Good c → Good (gather_units units c)
  units_gathered [] c few are = are
  units_gathered (u ∷ rest) c few are = units_gathered rest (gather u c) (λ v has. few v (inr has)) (gathered u c (few u (inl refl)) are)

  turn : (p : Program) (table : Table) → AreFew p.units → AreBounded (record (at_first false p.count) { table = table }) → AreBounded (known_from p table)
  turn p table few are = units_gathered p.units (outside (record (at_first false p.count) { table = table })) few are

  all_bounded : (p : Program) → AreFew p.units → AreBounded (known_of p)
  unfolding known_of
  all_bounded p few =
      let start = first_bounded p.count in
      let once = turn p (at_first false p.count).table few start in
      turn p (known_from p (at_first false p.count).table).table few (record { rows = once.rows; entries = start.entries })

  -- Of all types, and of what is known of all declarations.
  pub bounds_kept : (p : Program) → AreFew p.units → (t : ℕ) → HasBoth (shape_of (known_of p).table t)
  bounds_kept p few t = shape_both (outside (known_of p)) t (all_bounded p few)

  pub positions_kept : (p : Program) → AreFew p.units → (d : ℕ) → IsPosition (entry_of (known_of p) d)
  positions_kept p few d = ((all_bounded p few).entries d).1

-- ---- the bounds of types

module _ (p : Program) where
  abbrev table : Table
  table = (known_of p).table

  abbrev Any : ℕ → Type 0
  Any n = Unit {0}

  both : (t : ℕ) → HasBoth Any (λ m n le is. tt) tt (shape_of table t)
  both t = bounds_kept Any (λ m n le is. tt) tt p (λ u has. tt) t

  pub have_bounds : ((t : ℕ) → is_untyped table t ≡ false) → HaveBounds table
  have_bounds certain = record {
    whole = λ t low high is. subst (HasBoth Any (λ m n le is. tt) tt) is (both t);
    elements = λ t of low high is. subst (HasBoth Any (λ m n le is. tt) tt) is (both t);
    certain = certain;
  }
