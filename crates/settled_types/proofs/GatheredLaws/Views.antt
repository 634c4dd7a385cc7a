-- After a turn the types of objects and formals, and of the results of declarations, are there, where they are
-- anonymous access types.
use Rattle.std.proofs.Common.{◌≡◌, ◌⊎◌, inl, inr, ℕ, ◌+◌, ◌<◌, Bool, true, false, List, [], ◌∷◌, ◌++◌, flat_map, set, length, refl, sym, ap, ◌∙◌, arith, subst, Option, Some, not, ◌||◌, if◌then◌else◌}
use Rattle.std.specs.Prelude.{slice_get}
use Rattle.std.proofs.lemmas.Bool.{cases_eq}
use Rattle.std.proofs.lemmas.List.{length-set}
use Rattle.machine.specs.spark_base.Lists.{Has}
use Rattle.spark_base.proofs.Lists.{Has-append_cases, Has-append_left, Has-append_right}
use Rattle.machine.specs.resolved_tree.Trees.{More, Code, Anonymous, Enumeration, Incomplete, Private, TypeDecl, Subtype, ConstrainedSubtype, Objects, Numbers, Instance, Formals, Front, SubDecl, SubBody, Package, PackageBody, If, Branch, Case, When, Loop, While, For, Block, code_items}
use Rattle.machine.specs.type_definitions.declared.table.InitialValue.{InitialValue}
use Rattle.machine.specs.type_definitions.declared.table.Info.{Info}
use Rattle.machine.specs.type_definitions.declared.table.Shape.TheVariants as shape
use Rattle.machine.specs.type_definitions.declared.table.Entry.TheVariants as entry
use Rattle.machine.specs.type_definitions.declared.table.Kind.TheVariants as kind
use Rattle.machine.specs.type_definitions.Types.{Table, info, base, base_found, full, shape_found}
use Rattle.machine.specs.type_definitions.Entries.{entry_of, marked}
use Rattle.machine.specs.type_definitions.Names.{Context}
use Rattle.machine.specs.type_definitions.Gathered.{gather, each, declared_number, declared_pos, with_entry, with_info, with_type, own_info, with_indication, awaited_info, is_asked, are_static_bounds, bound_pair, with_literals, with_definition, full_info, constrained_shape, subtype_info, meant_by, with_object, constant_value, with_number, initial_value, plain_object, with_formal, with_formal_group, with_formals, with_result, with_front, with_body_front, is_subprogram, front_number, parameter_type, in_subprogram, in_visible, in_hidden}
use Rattle.machine.specs.type_definitions.Whole.{gather_units}
use Rattle.settled_types.proofs.Rows.{slice_in}
use Rattle.settled_types.specs.GatheredLaws.Made.{indicated_numbers, all_numbers, group_numbers, result_numbers, front_numbers}
use Rattle.settled_types.specs.GatheredLaws.Views.{named_numbers, formal_numbers, own_numbers, IsViewRow}
use Rattle.settled_types.proofs.GatheredLaws.Put.{slice_off}

module _ (t : ℕ) where
  abbrev Row : Option Info → Type 0
  Row o = (i : Info) × (o ≡ Some i) × (i.base ≡ t) × (to : ℕ) × (constant : Bool) × (i.shape ≡ shape.Access to constant false)

  -- The row is there, or something else holds: `N` says that the type is declared later.
  abbrev State : Type 0 → Context → Type 0
  State N c = (t < length c.known.table) × (N ⊎ Row (slice_get c.known.table t))

  change : (N M : Type 0) (c : Context) → (N → M) → State N c → State M c
  change N M c to s = (s.0, elim s.1 [ inl n ↦ inl (to n) | inr row ↦ inr row ])

  none : (N M : Type 0) (c : Context) → (N → ⊥) → State (N ⊎ M) c → State M c
  none N M c never s = change (N ⊎ M) M c (λ x. elim x [ inl n ↦ absurd (never n) | inr m ↦ m ]) s

  put : (d : ℕ) (i : Info) (c : Context) (N : Type 0) → (d ≡ t → ⊥) → State N c → State N (with_info d i c)
  put d i c N other s =
      let less = s.0 in
      let long = length-set c.known.table d i in (
        omega (arith, less, long),
        elim s.1 [
          | inl n ↦ inl n
          | inr row ↦ inr (subst Row (sym (slice_off c.known.table d t i (λ same. other (sym same)))) row)
        ],
      )

  put_view : (d to : ℕ) (constant : Bool) (c : Context) (N : Type 0) → State (Has (d ∷ []) t ⊎ N) c → State N (with_info d (own_info (shape.Access to constant false) d) c)
  put_view d to constant c N s =
      let less = s.0 in
      let i : Info = own_info (shape.Access to constant false) d in
      let long = length-set c.known.table d i in (
        omega (arith, less, long),
        elim (cases_eq t d) [
          | inl same ↦
              inr (
                i,
                subst (λ x. slice_get (set c.known.table d i) x ≡ Some i) (sym same) (slice_in c.known.table d i (subst (λ x. x < length c.known.table) same less)),
                sym same,
                to,
                constant,
                refl,
              )
          | inr other ↦ elim s.1 [
            | inl n ↦ elim n [
              | inl has ↦ elim has [ inl same ↦ absurd (other (sym same)) | inr never ↦ absurd never ]
              | inr n ↦ inl n
            ]
            | inr row ↦ inr (subst Row (sym (slice_off c.known.table d t i other)) row)
          ]
        ],
      )

  -- ---- declarations

  indicated : (d : ℕ) (i : Code) (c : Context) (N : Type 0) → State (Has (indicated_numbers i (d ∷ [])) t ⊎ N) c → State N (with_indication d i c)
  indicated d (Anonymous p constant m) c N s = put_view d (marked c.known m) constant c N s
  indicated d i c N s = none (Has (indicated_numbers i (d ∷ [])) t) N c (λ has. has) s

  split : (i : Code) (n : ℕ) (ns : List ℕ) → Has (indicated_numbers i (n ∷ ns)) t → Has (indicated_numbers i (n ∷ [])) t ⊎ Has (indicated_numbers i ns) t
  split (Anonymous p constant m) n ns (inl same) = inl (inl same)
  split (Anonymous p constant m) n ns (inr has) = inr has
  split i n ns has = absurd has

  empty : (i : Code) → Has (indicated_numbers i []) t → ⊥
  empty (Anonymous p constant m) has = has
  empty i has = has

  more : (i : Code) (n : ℕ) (ns : List ℕ) (N : Type 0) → Has (indicated_numbers i (n ∷ ns)) t ⊎ N
      → Has (indicated_numbers i (n ∷ [])) t ⊎ (Has (indicated_numbers i ns) t ⊎ N)
  more i n ns N (inl has) = elim (split i n ns has) [ inl here ↦ inl here | inr later ↦ inr (inl later) ]
  more i n ns N (inr n') = inr (inr n')

  one : (i : Code) (n : ℕ) (ns : List ℕ) (c : Context) (N : Type 0) → State (Has (indicated_numbers i (n ∷ ns)) t ⊎ N) c
      → State (Has (indicated_numbers i ns) t ⊎ N) (with_indication n i c)
  one i n ns c N s =
      indicated n i c (Has (indicated_numbers i ns) t ⊎ N)
      (change (Has (indicated_numbers i (n ∷ ns)) t ⊎ N) (Has (indicated_numbers i (n ∷ [])) t ⊎ (Has (indicated_numbers i ns) t ⊎ N)) c (more i n ns N) s)

  objects_put : (constant : Bool) (i : Code) (v : InitialValue) (ids : Code) (c : Context) (N : Type 0) → State (Has (indicated_numbers i (all_numbers ids)) t ⊎ N) c
      → State N (each (with_object constant i v) ids c)
  objects_put constant i v (More d rest) c N s = objects_put constant i v rest (with_object constant i v d c) N (one i (declared_number d) (all_numbers rest) c N s)
  objects_put constant i v ids c N s = none (Has (indicated_numbers i []) t) N c (empty i) s

  names_put : (of ids : Code) (c : Context) (N : Type 0) → State (Has (indicated_numbers of (all_numbers ids)) t ⊎ N) c → State N (each (with_formal of) ids c)
  names_put of (More d rest) c N s = names_put of rest (with_formal of d c) N (one of (declared_number d) (all_numbers rest) c N s)
  names_put of ids c N s = none (Has (indicated_numbers of []) t) N c (empty of) s

  numbers_put : (v : InitialValue) (ids : Code) (c : Context) (N : Type 0) → State N c → State N (each (with_number v) ids c)
  numbers_put v (More d rest) c N s = numbers_put v rest (with_number v d c) N s
  numbers_put v ids c N s = s

  literals_put : (n i : ℕ) (ids : Code) (c : Context) (N : Type 0) → State N c → State N (with_literals n i ids c)
  literals_put n i (More d rest) c N s = literals_put n (i + 1) rest (with_entry (declared_number d) (entry.Literal n i) c) N s
  literals_put n i ids c N s = s

  definition_put : (n : ℕ) (def : Code) (c : Context) (N : Type 0) → State N c → State N (with_definition n def c)
  definition_put n (Enumeration literals) c N s = literals_put n 0 literals c N s
  definition_put n def c N s = s

  -- what is declared in a list, and later
  two : (xs ys : List ℕ) (N : Type 0) → Has (xs ++ ys) t ⊎ N → Has xs t ⊎ (Has ys t ⊎ N)
  two xs ys N (inl has) = elim (Has-append_cases xs ys t has) [ inl here ↦ inl here | inr later ↦ inr (inl later) ]
  two xs ys N (inr n) = inr (inr n)

  both : (xs ys : List ℕ) (c : Context) (N : Type 0) → State (Has (xs ++ ys) t ⊎ N) c → State (Has xs t ⊎ (Has ys t ⊎ N)) c
  both xs ys c N s = change (Has (xs ++ ys) t ⊎ N) (Has xs t ⊎ (Has ys t ⊎ N)) c (two xs ys N) s

  group_put : (group : Code) (c : Context) (N : Type 0) → State (Has (group_numbers group) t ⊎ N) c → State N (with_formal_group group c)
  group_put (Formals names m of) c N s = names_put of names c N s
  group_put group c N s = none ⊥ N c (λ never. never) s

  groups_put : (formals : Code) (c : Context) (N : Type 0) → State (Has (flat_map group_numbers (code_items formals)) t ⊎ N) c → State N (each with_formal_group formals c)
  groups_put (More group rest) c N s =
      groups_put rest (with_formal_group group c) N
      (group_put group c (Has (flat_map group_numbers (code_items rest)) t ⊎ N) (both (group_numbers group) (flat_map group_numbers (code_items rest)) c N s))
  groups_put formals c N s = none ⊥ N c (λ never. never) s

  result_put : (d : ℕ) (result : Code) (c : Context) (N : Type 0) → State (Has (result_numbers d result) t ⊎ N) c → State N (with_result d result c)
  result_put d (More i rest) c N s = indicated d i c N s
  result_put d result c N s = none ⊥ N c (λ never. never) s

  front_put : (front : Code) (c : Context) (N : Type 0) → State (Has (front_numbers front) t ⊎ N) c → State N (with_front front c)
  front_put (Front d formals result) c N s =
      let n : ℕ = declared_number d in
      let fs : List ℕ = flat_map group_numbers (code_items formals) in
      groups_put formals (with_result n result c) N (result_put n result c (Has fs t ⊎ N) (both (result_numbers n result) fs c N s))
  front_put front c N s = none ⊥ N c (λ never. never) s

  formals_put : (front : Code) (c : Context) (N : Type 0) → State (Has (formal_numbers front) t ⊎ N) c → State N (with_formals front c)
  formals_put (Front d formals result) c N s = groups_put formals c N s
  formals_put front c N s = none ⊥ N c (λ never. never) s

  -- the front of a body, of which the formals are told
  whole_put : (front : Code) (c : Context) (N : Type 0) → State (Has (formal_numbers front) t ⊎ N) c → State N (with_front front c)
  whole_put (Front d formals result) c N s =
      let n : ℕ = declared_number d in
      let fs : List ℕ = flat_map group_numbers (code_items formals) in
      groups_put formals (with_result n result c) N
      (result_put n result c (Has fs t ⊎ N) (change (Has fs t ⊎ N) (Has (result_numbers n result) t ⊎ (Has fs t ⊎ N)) c (λ x. inr x) s))
  whole_put front c N s = none ⊥ N c (λ never. never) s

  body_put : (front : Code) (c : Context) (N : Type 0) → State (Has (formal_numbers front) t ⊎ N) c → State N (with_body_front front c)
  body_put front c N s = by (is_subprogram (entry_of c.known (front_number front)))
    where
      by : (b : Bool) → State N (if b then with_formals front c else with_front front c)
      by true = formals_put front c N s
      by false = whole_put front c N s

  -- ---- all of the code

  abbrev Other : List ℕ → Type 0
  Other ns = Has ns t → ⊥

  other_one : (d : ℕ) → Other (d ∷ []) → d ≡ t → ⊥
  other_one d never same = never (inl same)

  other_left : (xs ys : List ℕ) → Other (xs ++ ys) → Other xs
  other_left xs ys never has = never (Has-append_left xs ys t has)

  other_right : (xs ys : List ℕ) → Other (xs ++ ys) → Other ys
  other_right xs ys never has = never (Has-append_right xs ys t has)

  code_put : (code : Code) (c : Context) (N : Type 0) → Other (named_numbers code) → State (Has (own_numbers code) t ⊎ N) c → State N (gather code c)
  unfolding gather named_numbers own_numbers
  code_put (Incomplete d) c N other s =
      put (declared_number d) (record (awaited_info c (declared_number d)) { completed = Some (declared_pos d) }) c N (other_one (declared_number d) other) (none ⊥ N c (λ never. never) s)
  code_put (Private d) c N other s =
      put (declared_number d) (record (awaited_info c (declared_number d)) { seen_in = c.home }) c N (other_one (declared_number d) other) (none ⊥ N c (λ never. never) s)
  code_put (TypeDecl d def end) c N other s =
      let n : ℕ = declared_number d in
      definition_put n def (with_type n (full_info c n def end) c) N (put n (full_info c n def end) c N (other_one n other) (none ⊥ N c (λ never. never) s))
  code_put (Subtype d m) c N other s =
      let u : ℕ = marked c.known m in
      put (declared_number d) (subtype_info c.known u (shape.Same (meant_by (info c.known.table u).shape u)) true) c N (other_one (declared_number d) other) (none ⊥ N c (λ never. never) s)
  code_put (ConstrainedSubtype d m low high) c N other s =
      let u : ℕ = marked c.known m in
      put (declared_number d)
      (subtype_info c.known u (constrained_shape (full c.known.table u) (bound_pair c (base c.known.table u) low high))
      (not (is_asked c) || are_static_bounds c (base c.known.table u) low high)) c N (other_one (declared_number d) other) (none ⊥ N c (λ never. never) s)
  code_put (Objects ids constant i v) c N other s = objects_put constant i (constant_value c constant v) ids c N s
  code_put (Numbers ids e) c N other s = numbers_put (initial_value c e) ids c N (none ⊥ N c (λ never. never) s)
  code_put (Instance d m args) c N other s = none ⊥ N c (λ never. never) s
  code_put (SubDecl front) c N other s = front_put front c N s
  code_put (SubBody front items stmts end) c N other s =
      let inner : Context = in_subprogram front (with_body_front front c) in
      let M : Type 0 = Has (own_numbers stmts) t ⊎ N in
      code_put stmts (gather items inner) N (other_right (named_numbers items) (named_numbers stmts) other)
      (code_put items inner M (other_left (named_numbers items) (named_numbers stmts) other)
      (both (own_numbers items) (own_numbers stmts) inner N
      (body_put front c (Has (own_numbers items ++ own_numbers stmts) t ⊎ N) (both (formal_numbers front) (own_numbers items ++ own_numbers stmts) c N s))))
  code_put (Package d visible hidden) c N other s =
      let n : ℕ = declared_number d in
      let start : Context = in_visible n (with_entry n entry.Package c) in
      code_put hidden (in_hidden n (gather visible start)) N (other_right (named_numbers visible) (named_numbers hidden) other)
      (code_put visible start (Has (own_numbers hidden) t ⊎ N) (other_left (named_numbers visible) (named_numbers hidden) other) (both (own_numbers visible) (own_numbers hidden) start N s))
  code_put (PackageBody d parts) c N other s = code_put parts (in_hidden (declared_number d) c) N other s
  code_put (If at x y) c N other s =
      code_put y (gather x c) N (other_right (named_numbers x) (named_numbers y) other)
      (code_put x c (Has (own_numbers y) t ⊎ N) (other_left (named_numbers x) (named_numbers y) other) (both (own_numbers x) (own_numbers y) c N s))
  code_put (Branch at e x) c N other s = code_put x c N other s
  code_put (Case at e x) c N other s = code_put x c N other s
  code_put (When choices x) c N other s = code_put x c N other s
  code_put (Loop at x) c N other s = code_put x c N other s
  code_put (While at e x) c N other s = code_put x c N other s
  code_put (For at d reversed range x) c N other s =
      code_put x (with_entry (declared_number d) (entry.Object (plain_object (parameter_type c range) kind.Parameter)) c) N other s
  code_put (Block at x y end) c N other s =
      code_put y (gather x c) N (other_right (named_numbers x) (named_numbers y) other)
      (code_put x c (Has (own_numbers y) t ⊎ N) (other_left (named_numbers x) (named_numbers y) other) (both (own_numbers x) (own_numbers y) c N s))
  code_put (More x y) c N other s =
      code_put y (gather x c) N (other_right (named_numbers x) (named_numbers y) other)
      (code_put x c (Has (own_numbers y) t ⊎ N) (other_left (named_numbers x) (named_numbers y) other) (both (own_numbers x) (own_numbers y) c N s))
  code_put code c N other s = none ⊥ N c (λ never. never) s

  units_put : (units : List Code) (c : Context) (N : Type 0) → Other (flat_map named_numbers units) → State (Has (flat_map own_numbers units) t ⊎ N) c
      → State N (gather_units units c)
  units_put [] c N other s = none ⊥ N c (λ never. never) s
  units_put (u ∷ rest) c N other s =
      units_put rest (gather u c) N (other_right (named_numbers u) (flat_map named_numbers rest) other)
      (code_put u c (Has (flat_map own_numbers rest) t ⊎ N) (other_left (named_numbers u) (flat_map named_numbers rest) other)
      (both (own_numbers u) (flat_map own_numbers rest) c N s))

  row_view : (table : Table) → Row (slice_get table t) → IsViewRow table t
  row_view table row = (ap base_found row.1 ∙ row.2, row.3, row.4, ap shape_found row.1 ∙ row.5)

  -- After these units the row is there.
  pub view_row : (units : List Code) (c : Context) → t < length c.known.table → Other (flat_map named_numbers units) → Has (flat_map own_numbers units) t
      → IsViewRow (gather_units units c).known.table t
  view_row units c less other has =
      row_view (gather_units units c).known.table (last (units_put units c ⊥ other (less, inl (inl has))))
    where
      last : State ⊥ (gather_units units c) → Row (slice_get (gather_units units c).known.table t)
      last s = elim s.1 [ inl never ↦ absurd never | inr row ↦ row ]
