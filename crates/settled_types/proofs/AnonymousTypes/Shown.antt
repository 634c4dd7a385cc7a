-- A turn over the text: profiles are those of its fronts, and numbers without a name have rows of anonymous access
-- types, or none.
use Rattle.std.proofs.Common.{◌≡◌, inl, inr, ℕ, ◌+◌, ◌-◌, ◌<◌, Bool, true, false, not, ◌||◌, List, [], ◌∷◌, ◌++◌, flat_map, arith, zero, suc, replicate, get_or, refl, sym, ◌∙◌, subst, Option, Some, None, true≢false, if◌then◌else◌}
use Rattle.std.specs.Prelude.{slice_get}
use Rattle.machine.specs.spark_base.Lists.{Has}
use Rattle.spark_base.proofs.Lists.{Has-append_left, Has-append_right}
use Rattle.machine.specs.resolved_tree.declared.node.Mark.{Mark}
use Rattle.machine.specs.resolved_tree.Trees.{More, Code, Anonymous, Incomplete, Private, TypeDecl, Subtype, ConstrainedSubtype, Objects, Numbers, Instance, Front, SubDecl, SubBody, Package, PackageBody, If, Branch, Case, When, Loop, While, For, Block, Program}
use Rattle.machine.specs.type_definitions.declared.table.Info.{Info}
use Rattle.machine.specs.type_definitions.declared.table.InitialValue.{InitialValue}
use Rattle.machine.specs.type_definitions.declared.table.Shape.TheVariants as shape
use Rattle.machine.specs.type_definitions.declared.table.Entry.{Entry}
use Rattle.machine.specs.type_definitions.declared.table.Entry.TheVariants as entry
use Rattle.machine.specs.type_definitions.declared.table.Known.{Known}
use Rattle.machine.specs.type_definitions.declared.table.Kind.TheVariants as kind
use Rattle.machine.specs.type_definitions.Types.{Table, info, base, full, shape_found, no_type}
use Rattle.machine.specs.type_definitions.Entries.{entry_of, is_type, type_of_entry, type_of_mark, marked}
use Rattle.machine.specs.type_definitions.Names.{Context}
use Rattle.machine.specs.type_definitions.Whole.{predefined_types, predefined_entries, at_first, outside, gather_units, known_from, known_of}
use Rattle.machine.specs.type_definitions.Gathered.{gather, each, declared_number, declared_pos, with_entry, with_info, with_type, own_info, with_indication, awaited_info, is_asked, are_static_bounds, bound_pair, with_literals, with_definition, full_info, constrained_shape, subtype_info, meant_by, indicated, with_object, object_info, constant_value, with_number, number_info, initial_value, plain_object, with_formal, with_formal_group, with_formals, with_result, with_front, with_body_front, profile, is_subprogram, front_number, parameter_type, in_subprogram, in_visible, in_hidden, instance_type}
use Rattle.settled_types.proofs.Cases.{definition_end, each_end, formals_end, front_end, group_end, on_enumeration, on_front, on_group, on_more, result_end}
use Rattle.settled_types.proofs.Main.{first_types}
use Rattle.settled_types.specs.GatheredLaws.Views.{named_numbers}
use Rattle.settled_types.proofs.GatheredLaws.Gathered.{row_after, entry_after}
use Rattle.settled_types.specs.AnonymousTypes.Fronts.{AllFronts}
use Rattle.settled_types.specs.AnonymousTypes.Shown.{IsProfileEntry, IsUnnamed, AreShown}

module _ (named : ℕ → Type 0) (front_is body_is : Code → Type 0) (as_front : (front : Code) → body_is front → front_is front) (low : (t : ℕ) → t < 5 → named t) where
  abbrev Shown : Known → Type 0
  Shown = AreShown named front_is

  abbrev All : Code → Type 0
  All = AllFronts front_is body_is

  abbrev AllNamed : List ℕ → Type 0
  AllNamed ns = (d : ℕ) → Has ns d → named d

  left : (xs ys : List ℕ) → AllNamed (xs ++ ys) → AllNamed xs
  left xs ys all d has = all d (Has-append_left xs ys d has)

  right : (xs ys : List ℕ) → AllNamed (xs ++ ys) → AllNamed ys
  right xs ys all d has = all d (Has-append_right xs ys d has)

  -- Marks denote types with names.
  pub marked_named : (known : Known) (m : Mark) → Shown known → named (marked known m)
  marked_named known m are = of_mark m.decl
    where
      of_entry : (d : ℕ) (e : Entry) → entry_of known d ≡ e → named (type_of_entry d e)
      of_entry d entry.Type is = are.types d (subst (λ x. is_type x ≡ true) (sym is) refl)
      of_entry d e is = low 4 (omega arith)

      of_mark : (o : Option ℕ) → named (type_of_mark known o)
      of_mark None = low 4 (omega arith)
      of_mark (Some d) = of_entry d (entry_of known d) refl

  -- ---- one more entry or row

  entry_put : (c : Context) (d : ℕ) (e : Entry) → (is_type e ≡ true → named d) → IsProfileEntry named front_is d e → Shown c.known → Shown (with_entry d e c).known
  entry_put c d e new told are = record {
    types = λ v. entry_after c.known.entries d v e entry.Nothing (λ x. is_type x ≡ true → named v) (λ same h. subst named (sym same) (new h)) (are.types v);
    profiles = λ v. entry_after c.known.entries d v e entry.Nothing (IsProfileEntry named front_is v) (λ same. subst (λ n. IsProfileEntry named front_is n e) (sym same) told) (are.profiles v);
    rows = are.rows;
  }

  -- neither a type nor a subprogram
  other_put : (c : Context) (d : ℕ) (e : Entry) → is_type e ≡ false → IsProfileEntry named front_is d e → Shown c.known → Shown (with_entry d e c).known
  other_put c d e other told are = entry_put c d e (λ is. absurd (true≢false (sym is ∙ other))) told are

  type_put : (c : Context) (d : ℕ) (i : Info) → named d → Shown c.known → Shown (with_type d i c).known
  type_put c d i name are =
      entry_put (with_info d i c) d entry.Type (λ is. name) tt (record {
        types = are.types;
        profiles = are.profiles;
        rows = λ t other. row_after c.known.table d t i (IsUnnamed t) (λ same. absurd (other (subst named (sym same) name))) (are.rows t other);
      })

  indication_put : (d : ℕ) (i : Code) (c : Context) → Shown c.known → Shown (with_indication d i c).known
  indication_put d (Anonymous p constant m) c are = record {
    types = are.types;
    profiles = are.profiles;
    rows = λ t other. row_after c.known.table d t (own_info (shape.Access (marked c.known m) constant false) d) (IsUnnamed t)
        (λ same. inr (sym same, marked c.known m, constant, refl)) (are.rows t other);
  }
  indication_put d i c are = are

  literals_put : (t n : ℕ) (ids : Code) (c : Context) → Shown c.known → Shown (with_literals t n ids c).known
  literals_put t n (More d rest) c are =
      literals_put t (n + 1) rest (with_entry (declared_number d) (entry.Literal t n) c) (other_put c (declared_number d) (entry.Literal t n) refl tt are)
  literals_put t n ids c are = are

  definition_put : (t : ℕ) (def : Code) (c : Context) → Shown c.known → Shown (with_definition t def c).known
  definition_put t = on_enumeration (λ def. (c : Context) → Shown c.known → Shown (with_definition t def c).known)
      (λ literals c are.
      literals_put t 0 literals c are)
      (λ def other c are. rw (definition_end t def c other) (are))

  objects_put : (constant : Bool) (i : Code) (v : InitialValue) (ids : Code) (c : Context) → Shown c.known → Shown (each (with_object constant i v) ids c).known
  objects_put constant i v = on_more (λ ids. (c : Context) → Shown c.known → Shown (each (with_object constant i v) ids c).known)
      (λ d rest next c are.
      let n : ℕ = declared_number d in
      next (with_object constant i v d c)
      (other_put (with_indication n i c) n (entry.Object (object_info c constant (indicated c.known n i) v)) refl tt (indication_put n i c are)))
      (λ ids other c are. rw (each_end (with_object constant i v) ids c other) (are))

  numbers_put : (v : InitialValue) (ids : Code) (c : Context) → Shown c.known → Shown (each (with_number v) ids c).known
  numbers_put v = on_more (λ ids. (c : Context) → Shown c.known → Shown (each (with_number v) ids c).known)
      (λ d rest next c are.
      next (with_number v d c) (other_put c (declared_number d) (entry.Object (number_info c v)) refl tt are))
      (λ ids other c are. rw (each_end (with_number v) ids c other) (are))

  names_put : (of ids : Code) (c : Context) → Shown c.known → Shown (each (with_formal of) ids c).known
  names_put of = on_more (λ ids. (c : Context) → Shown c.known → Shown (each (with_formal of) ids c).known)
      (λ d rest next c are.
      let n : ℕ = declared_number d in
      next (with_formal of d c)
      (other_put (with_indication n of c) n (entry.Object (plain_object (indicated c.known n of) kind.Formal)) refl tt (indication_put n of c are)))
      (λ ids other c are. rw (each_end (with_formal of) ids c other) (are))

  group_put : (group : Code) (c : Context) → Shown c.known → Shown (with_formal_group group c).known
  group_put = on_group (λ group. (c : Context) → Shown c.known → Shown (with_formal_group group c).known)
      (λ names m of c are.
      names_put of names c are)
      (λ group other c are. rw (group_end group c other) (are))

  groups_put : (formals : Code) (c : Context) → Shown c.known → Shown (each with_formal_group formals c).known
  groups_put = on_more (λ formals. (c : Context) → Shown c.known → Shown (each with_formal_group formals c).known)
      (λ group rest next c are.
      next (with_formal_group group c) (group_put group c are))
      (λ formals other c are. rw (each_end with_formal_group formals c other) (are))

  result_put : (d : ℕ) (result : Code) (c : Context) → Shown c.known → Shown (with_result d result c).known
  result_put d = on_more (λ result. (c : Context) → Shown c.known → Shown (with_result d result c).known)
      (λ i rest _ c are.
      indication_put d i c are)
      (λ result other c are. rw (result_end d result c other) (are))

  front_put : (front : Code) (c : Context) → front_is front → Shown c.known → Shown (with_front front c).known
  front_put = on_front (λ front. (c : Context) → front_is front → Shown c.known → Shown (with_front front c).known)
      (λ d formals result c told are.
      let n : ℕ = declared_number d in
      let inner : Context = each with_formal_group formals (with_result n result c) in
      let next : Shown inner.known = groups_put formals (with_result n result c) (result_put n result c are) in
      other_put inner n (entry.Subprogram (profile inner.known (Front d formals result))) refl
      (record { known = inner.known; code = Front d formals result; told = told; number = refl; marks = λ m. marked_named inner.known m next; same = refl }) next)
      (λ front other c told are. rw (front_end front c other) (are))

  formals_put : (front : Code) (c : Context) → Shown c.known → Shown (with_formals front c).known
  formals_put = on_front (λ front. (c : Context) → Shown c.known → Shown (with_formals front c).known)
      (λ d formals result c are.
      groups_put formals c are)
      (λ front other c are. rw (formals_end front c other) (are))

  body_put : (front : Code) (c : Context) → body_is front → Shown c.known → Shown (with_body_front front c).known
  body_put front c told are = by (is_subprogram (entry_of c.known (front_number front)))
    where
      by : (b : Bool) → Shown (if b then with_formals front c else with_front front c).known
      by true = formals_put front c are
      by false = front_put front c (as_front front told) are

  -- ---- all of the code

  code_put : (code : Code) (c : Context) → AllNamed (named_numbers code) → All code → Shown c.known → Shown (gather code c).known
  unfolding gather named_numbers AllFronts
  code_put (Incomplete d) c all told are =
      let n : ℕ = declared_number d in
      type_put c n (record (awaited_info c n) { completed = Some (declared_pos d) }) (all n (inl refl)) are
  code_put (Private d) c all told are =
      let n : ℕ = declared_number d in
      type_put c n (record (awaited_info c n) { seen_in = c.home }) (all n (inl refl)) are
  code_put (TypeDecl d def end) c all told are =
      let n : ℕ = declared_number d in
      definition_put n def (with_type n (full_info c n def end) c) (type_put c n (full_info c n def end) (all n (inl refl)) are)
  code_put (Subtype d m) c all told are =
      let t : ℕ = marked c.known m in
      type_put c (declared_number d) (subtype_info c.known t (shape.Same (meant_by (info c.known.table t).shape t)) true) (all (declared_number d) (inl refl)) are
  code_put (ConstrainedSubtype d m low_bound high_bound) c all told are =
      let t : ℕ = marked c.known m in
      type_put c (declared_number d)
      (subtype_info c.known t (constrained_shape (full c.known.table t) (bound_pair c (base c.known.table t) low_bound high_bound))
      (not (is_asked c) || are_static_bounds c (base c.known.table t) low_bound high_bound)) (all (declared_number d) (inl refl)) are
  code_put (Objects ids constant i v) c all told are = objects_put constant i (constant_value c constant v) ids c are
  code_put (Numbers ids e) c all told are = numbers_put (initial_value c e) ids c are
  code_put (Instance d m args) c all told are = other_put c (declared_number d) (entry.Instance (instance_type args)) refl tt are
  code_put (SubDecl front) c all told are = front_put front c told are
  code_put (SubBody front items stmts end) c all told are =
      let inner : Context = in_subprogram front (with_body_front front c) in
      code_put stmts (gather items inner) (right (named_numbers items) (named_numbers stmts) all) told.2
      (code_put items inner (left (named_numbers items) (named_numbers stmts) all) told.1 (body_put front c told.0 are))
  code_put (Package d visible hidden) c all told are =
      let n : ℕ = declared_number d in
      let start : Context = in_visible n (with_entry n entry.Package c) in
      code_put hidden (in_hidden n (gather visible start)) (right (named_numbers visible) (named_numbers hidden) all) told.1
      (code_put visible start (left (named_numbers visible) (named_numbers hidden) all) told.0 (other_put c n entry.Package refl tt are))
  code_put (PackageBody d parts) c all told are = code_put parts (in_hidden (declared_number d) c) all told are
  code_put (If p x y) c all told are =
      code_put y (gather x c) (right (named_numbers x) (named_numbers y) all) told.1 (code_put x c (left (named_numbers x) (named_numbers y) all) told.0 are)
  code_put (Branch p e x) c all told are = code_put x c all told are
  code_put (Case p e x) c all told are = code_put x c all told are
  code_put (When choices x) c all told are = code_put x c all told are
  code_put (Loop p x) c all told are = code_put x c all told are
  code_put (While p e x) c all told are = code_put x c all told are
  code_put (For p d reversed range x) c all told are =
      let o : Entry = entry.Object (plain_object (parameter_type c range) kind.Parameter) in
      code_put x (with_entry (declared_number d) o c) all told (other_put c (declared_number d) o refl tt are)
  code_put (Block p x y end) c all told are =
      code_put y (gather x c) (right (named_numbers x) (named_numbers y) all) told.1 (code_put x c (left (named_numbers x) (named_numbers y) all) told.0 are)
  code_put (More x y) c all told are =
      code_put y (gather x c) (right (named_numbers x) (named_numbers y) all) told.1 (code_put x c (left (named_numbers x) (named_numbers y) all) told.0 are)
  code_put code c all told are = are

  units_put : (units : List Code) (c : Context) → AllNamed (flat_map named_numbers units) → ((u : Code) → Has units u → All u) → Shown c.known
      → Shown (gather_units units c).known
  units_put [] c all told are = are
  units_put (u ∷ rest) c all told are =
      units_put rest (gather u c) (right (named_numbers u) (flat_map named_numbers rest) all) (λ v has. told v (inr has))
      (code_put u c (left (named_numbers u) (flat_map named_numbers rest) all) (told u (inl refl)) are)

  -- ---- both turns

  none_row : (n t : ℕ) → shape_found (slice_get (replicate n no_type) t) ≡ shape.Fields []
  none_row zero t = refl
  none_row (suc n) zero = refl
  none_row (suc n) (suc t) = none_row n t

  first_rows : (n t : ℕ) → (named t → ⊥) → IsUnnamed t (slice_get (predefined_types false ++ replicate n no_type) t)
  first_rows n zero other = absurd (other (low 0 (omega arith)))
  first_rows n (suc zero) other = absurd (other (low 1 (omega arith)))
  first_rows n (suc (suc zero)) other = absurd (other (low 2 (omega arith)))
  first_rows n (suc (suc (suc zero))) other = absurd (other (low 3 (omega arith)))
  first_rows n (suc (suc (suc (suc zero)))) other = absurd (other (low 4 (omega arith)))
  first_rows n (suc (suc (suc (suc (suc t))))) other = inl (none_row n t)

  none_profile : (n d v : ℕ) → IsProfileEntry named front_is v (get_or (replicate n entry.Nothing) d entry.Nothing)
  none_profile zero d v = tt
  none_profile (suc n) zero v = tt
  none_profile (suc n) (suc d) v = none_profile n d v

  abbrev AreNone : List Entry → Type 0
  AreNone [] = Unit {0}
  AreNone (e ∷ es) = ((v : ℕ) → IsProfileEntry named front_is v e) × AreNone es

  before_none : (es more : List Entry) → AreNone es → ((d v : ℕ) → IsProfileEntry named front_is v (get_or more d entry.Nothing))
      → (d v : ℕ) → IsProfileEntry named front_is v (get_or (es ++ more) d entry.Nothing)
  before_none [] more none on d v = on d v
  before_none (e ∷ es) more none on zero v = none.0 v
  before_none (e ∷ es) more none on (suc d) v = before_none es more none.1 on d v

  predefined_none : AreNone predefined_entries
  predefined_none = (λ v. tt, (λ v. tt, (λ v. tt, (λ v. tt, (λ v. tt, (λ v. tt, (λ v. tt, (λ v. tt, (λ v. tt, (λ v. tt, (λ v. tt, (λ v. tt, (λ v. tt, (λ v. tt, (λ v. tt, tt)))))))))))))))

  turn : (p : Program) (table : Table) → AllNamed (flat_map named_numbers p.units) → ((u : Code) → Has p.units u → All u)
      → ((t : ℕ) → (named t → ⊥) → IsUnnamed t (slice_get table t)) → Shown (known_from p table)
  turn p table all told rows =
      units_put p.units (outside (record (at_first false p.count) { table = table })) all told (record {
        types = λ d is. low d (first_types p.count d is);
        profiles = λ d. before_none predefined_entries (replicate (p.count - 15) entry.Nothing) predefined_none (λ d v. none_profile (p.count - 15) d v) d d;
        rows = rows;
      })

  pub all_shown : (p : Program) → AllNamed (flat_map named_numbers p.units) → ((u : Code) → Has p.units u → All u) → Shown (known_of p)
  unfolding known_of
  all_shown p all told =
      turn p (known_from p (at_first false p.count).table).table all told
      (turn p (at_first false p.count).table all told (λ t other. first_rows (p.count - 5) t other)).rows
