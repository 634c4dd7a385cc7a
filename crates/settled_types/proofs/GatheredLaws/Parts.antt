-- Types are made of types with names: no component, no element and nothing designated is of an anonymous access type.
use Rattle.std.proofs.Common.{◌≡◌, inl, refl, sym, ap, ◌∙◌, subst, ℕ, ◌+◌, ◌-◌, ◌<◌, Bool, true, false, not, ◌||◌, List, [], ◌∷◌, ◌++◌, flat_map, get_or, arith, zero, suc, replicate, ℤ, Option, Some, None, true≢false, if◌then◌else◌, IsTrue}
use Rattle.std.specs.Prelude.{slice_get}
use Rattle.std.specs.List.{AllByRecursion}
use Rattle.machine.specs.spark_base.Lists.{Has}
use Rattle.spark_base.proofs.Lists.{Has-append_left, Has-append_right}
use Rattle.machine.specs.resolved_tree.declared.node.Mark.{Mark}
use Rattle.machine.specs.resolved_tree.Trees.{More, Code, Enumeration, Record, Components, Array, Access, Incomplete, Private, TypeDecl, Subtype, ConstrainedSubtype, Objects, Numbers, Instance, Front, SubDecl, SubBody, Package, PackageBody, If, Branch, Case, When, Loop, While, For, Block, Program}
use Rattle.machine.specs.type_definitions.declared.table.Component.{Component}
use Rattle.machine.specs.type_definitions.declared.table.Info.{Info}
use Rattle.machine.specs.type_definitions.declared.table.InitialValue.{InitialValue}
use Rattle.machine.specs.type_definitions.declared.table.Shape.{Shape}
use Rattle.machine.specs.type_definitions.declared.table.Shape.TheVariants as shape
use Rattle.machine.specs.type_definitions.declared.table.Entry.{Entry}
use Rattle.machine.specs.type_definitions.declared.table.Entry.TheVariants as entry
use Rattle.machine.specs.type_definitions.declared.table.Known.{Known}
use Rattle.machine.specs.type_definitions.declared.table.Kind.TheVariants as kind
use Rattle.machine.specs.type_definitions.declared.judgement.View.{View}
use Rattle.machine.specs.type_definitions.declared.judgement.View.TheVariants as view
use Rattle.machine.specs.type_definitions.Types.{Table, info, info_found, base, full, shape_of, shape_found, meant_type, components_of, no_type}
use Rattle.machine.specs.type_definitions.Entries.{entry_of, is_type, type_of_entry, type_of_mark, marked}
use Rattle.machine.specs.type_definitions.Names.{Context}
use Rattle.machine.specs.type_definitions.Whole.{predefined_types, at_first, outside, gather_units, known_from, known_of, type_fault}
use Rattle.machine.specs.type_definitions.Gathered.{gather, each, declared_number, declared_pos, with_entry, with_info, with_type, own_info, with_indication, awaited_info, component_group, component_list, component_groups, defined, is_asked, are_static_bounds, bound_pair, with_literals, with_definition, full_info, constrained_shape, subtype_info, meant_by, indicated, with_object, object_info, constant_value, with_number, number_info, initial_value, plain_object, with_formal, with_formal_group, with_formals, with_result, with_front, with_body_front, profile, is_subprogram, front_number, parameter_type, in_subprogram, in_visible, in_hidden, instance_type}
use Rattle.type_sizes.specs.Formed.{all_formed}
use Rattle.settled_types.specs.Orderly.{at_start, IsOrderly}
use Rattle.settled_types.specs.Stamped.{AllOpen}
use Rattle.settled_types.proofs.Faultless.{program_open}
use Rattle.settled_types.proofs.Main.{first_types}
use Rattle.machine.specs.Words.{component_type, no_component}
use Rattle.settled_types.proofs.Cases.{definition_end, each_end, formals_end, front_end, group_end, indication_end, on_access, on_enumeration, on_front, on_group, on_more, result_end}
use Rattle.settled_types.specs.GatheredLaws.Made.{IsMadeOf}
use Rattle.settled_types.specs.GatheredLaws.Views.{named_numbers, AreViews}
use Rattle.settled_types.specs.GatheredLaws.Faultless.{IsFaultless}
use Rattle.settled_types.proofs.GatheredLaws.Gathered.{row_after, entry_after}
use Rattle.settled_types.proofs.GatheredLaws.Declared.{units_declare}
use Rattle.settled_types.proofs.GatheredLaws.Faultless.{program_faultless}
use Rattle.settled_types.proofs.GatheredLaws.Sentences as sentences

module _ (named : ℕ → Type 0) (low : (t : ℕ) → t < 5 → named t) where
  record AreParts (c : Context) : Type 0 where
    pub parts : (t : ℕ) → IsMadeOf named (info c.known.table t).shape
    pub types : (d : ℕ) → is_type (entry_of c.known d) ≡ true → named d

  abbrev AllNamed : List ℕ → Type 0
  AllNamed ns = (d : ℕ) → Has ns d → named d

  left : (xs ys : List ℕ) → AllNamed (xs ++ ys) → AllNamed xs
  left xs ys all d has = all d (Has-append_left xs ys d has)

  right : (xs ys : List ℕ) → AllNamed (xs ++ ys) → AllNamed ys
  right xs ys all d has = all d (Has-append_right xs ys d has)

  -- ---- marks and definitions

  marked_named : (c : Context) (m : Mark) → AreParts c → named (marked c.known m)
  marked_named c m are = of_mark m.decl
    where
      of_entry : (d : ℕ) (e : Entry) → entry_of c.known d ≡ e → named (type_of_entry d e)
      of_entry d entry.Type is = are.types d (ap is_type is)
      of_entry d e is = low 4 (omega arith)

      of_mark : (o : Option ℕ) → named (type_of_mark c.known o)
      of_mark None = low 4 (omega arith)
      of_mark (Some d) = of_entry d (entry_of c.known d) refl

  abbrev AllOf : List Component → Type 0
  AllOf cs = AllByRecursion (λ (k : Component). named k.of) cs

  group_parts : (t : ℕ) (names : Code) → named t → AllOf (component_group t names)
  group_parts t (More d rest) h = (h, group_parts t rest h)
  group_parts t names h = tt

  both : (xs ys : List Component) → AllOf xs → AllOf ys → AllOf (xs ++ ys)
  both [] ys h g = g
  both (x ∷ xs) ys h g = (h.0, both xs ys h.1 g)

  groups_parts : (c : Context) (group : Code) → AreParts c → AllOf (component_groups c.known group)
  groups_parts c (Components names m) are = group_parts (marked c.known m) names (marked_named c m are)
  groups_parts c group are = tt

  list_parts : (c : Context) (groups : Code) → AreParts c → AllOf (component_list c.known groups)
  list_parts c (More group rest) are = both (component_groups c.known group) (component_list c.known rest) (groups_parts c group are) (list_parts c rest are)
  list_parts c groups are = tt

  defined_parts : (c : Context) (def : Code) → AreParts c → IsMadeOf named (defined c def)
  defined_parts c (Enumeration literals) are = tt
  defined_parts c (Record components) are = list_parts c components are
  defined_parts c (Array range m) are = marked_named c m are
  defined_parts c (Access m) are = marked_named c m are
  defined_parts c def are = tt

  meant_parts : (s : Shape) (t : ℕ) → IsMadeOf named s → named t → named (meant_by s t)
  meant_parts (shape.Same of) t h m = h
  meant_parts s t h m = m

  constrained_parts : (w : View) (b : ℤ × ℤ) → IsMadeOf named (constrained_shape w b)
  constrained_parts (view.Whole p q) b = tt
  constrained_parts (view.Listed p q) b = tt
  constrained_parts w b = tt

  -- ---- one more entry or row

  entry_put : (c : Context) (d : ℕ) (e : Entry) → (is_type e ≡ true → named d) → AreParts c → AreParts (with_entry d e c)
  entry_put c d e new are = record {
    parts = are.parts;
    types = λ v. entry_after c.known.entries d v e entry.Nothing (λ x. is_type x ≡ true → named v) (λ same h. subst named (sym same) (new h)) (are.types v);
  }

  other_put : (c : Context) (d : ℕ) (e : Entry) → is_type e ≡ false → AreParts c → AreParts (with_entry d e c)
  other_put c d e other are = entry_put c d e (λ is. absurd (true≢false (sym is ∙ other))) are

  row_put : (c : Context) (d : ℕ) (i : Info) → IsMadeOf named i.shape → AreParts c → AreParts (with_info d i c)
  row_put c d i new are = record {
    parts = λ t. row_after c.known.table d t i (λ o. IsMadeOf named (info_found o).shape) (λ same. new) (are.parts t);
    types = are.types;
  }

  type_put : (c : Context) (d : ℕ) (i : Info) → named d → IsMadeOf named i.shape → AreParts c → AreParts (with_type d i c)
  type_put c d i name new are = entry_put (with_info d i c) d entry.Type (λ is. name) (row_put c d i new are)

  literals_put : (t n : ℕ) (ids : Code) (c : Context) → AreParts c → AreParts (with_literals t n ids c)
  literals_put t n (More d rest) c are =
      literals_put t (n + 1) rest (with_entry (declared_number d) (entry.Literal t n) c) (other_put c (declared_number d) (entry.Literal t n) refl are)
  literals_put t n ids c are = are

  definition_put : (t : ℕ) (def : Code) (c : Context) → AreParts c → AreParts (with_definition t def c)
  definition_put t = on_enumeration (λ def. (c : Context) → AreParts c → AreParts (with_definition t def c))
      (λ literals c are.
      literals_put t 0 literals c are)
      (λ def other c are. rw (definition_end t def c other) (are))

  indication_put : (d : ℕ) (i : Code) (c : Context) → AreParts c → AreParts (with_indication d i c)
  indication_put d = on_access (λ i. (c : Context) → AreParts c → AreParts (with_indication d i c))
      (λ p constant m c are.
      row_put c d (own_info (shape.Access (marked c.known m) constant false) d) (marked_named c m are) are)
      (λ i other c are. rw (indication_end d i c other) (are))

  objects_put : (constant : Bool) (i : Code) (v : InitialValue) (ids : Code) (c : Context) → AreParts c → AreParts (each (with_object constant i v) ids c)
  objects_put constant i v = on_more (λ ids. (c : Context) → AreParts c → AreParts (each (with_object constant i v) ids c))
      (λ d rest next c are.
      let n : ℕ = declared_number d in
      next (with_object constant i v d c)
      (other_put (with_indication n i c) n (entry.Object (object_info c constant (indicated c.known n i) v)) refl (indication_put n i c are)))
      (λ ids other c are. rw (each_end (with_object constant i v) ids c other) (are))

  numbers_put : (v : InitialValue) (ids : Code) (c : Context) → AreParts c → AreParts (each (with_number v) ids c)
  numbers_put v = on_more (λ ids. (c : Context) → AreParts c → AreParts (each (with_number v) ids c))
      (λ d rest next c are.
      next (with_number v d c) (other_put c (declared_number d) (entry.Object (number_info c v)) refl are))
      (λ ids other c are. rw (each_end (with_number v) ids c other) (are))

  names_put : (of ids : Code) (c : Context) → AreParts c → AreParts (each (with_formal of) ids c)
  names_put of = on_more (λ ids. (c : Context) → AreParts c → AreParts (each (with_formal of) ids c))
      (λ d rest next c are.
      let n : ℕ = declared_number d in
      next (with_formal of d c)
      (other_put (with_indication n of c) n (entry.Object (plain_object (indicated c.known n of) kind.Formal)) refl (indication_put n of c are)))
      (λ ids other c are. rw (each_end (with_formal of) ids c other) (are))

  group_put : (group : Code) (c : Context) → AreParts c → AreParts (with_formal_group group c)
  group_put = on_group (λ group. (c : Context) → AreParts c → AreParts (with_formal_group group c))
      (λ names m of c are.
      names_put of names c are)
      (λ group other c are. rw (group_end group c other) (are))

  groups_put : (formals : Code) (c : Context) → AreParts c → AreParts (each with_formal_group formals c)
  groups_put = on_more (λ formals. (c : Context) → AreParts c → AreParts (each with_formal_group formals c))
      (λ group rest next c are.
      next (with_formal_group group c) (group_put group c are))
      (λ formals other c are. rw (each_end with_formal_group formals c other) (are))

  result_put : (d : ℕ) (result : Code) (c : Context) → AreParts c → AreParts (with_result d result c)
  result_put d = on_more (λ result. (c : Context) → AreParts c → AreParts (with_result d result c))
      (λ i rest _ c are.
      indication_put d i c are)
      (λ result other c are. rw (result_end d result c other) (are))

  front_put : (front : Code) (c : Context) → AreParts c → AreParts (with_front front c)
  front_put = on_front (λ front. (c : Context) → AreParts c → AreParts (with_front front c))
      (λ d formals result c are.
      let n : ℕ = declared_number d in
      let inner : Context = each with_formal_group formals (with_result n result c) in
      other_put inner n (entry.Subprogram (profile inner.known (Front d formals result))) refl (groups_put formals (with_result n result c) (result_put n result c are)))
      (λ front other c are. rw (front_end front c other) (are))

  formals_put : (front : Code) (c : Context) → AreParts c → AreParts (with_formals front c)
  formals_put = on_front (λ front. (c : Context) → AreParts c → AreParts (with_formals front c))
      (λ d formals result c are.
      groups_put formals c are)
      (λ front other c are. rw (formals_end front c other) (are))

  body_put : (front : Code) (c : Context) → AreParts c → AreParts (with_body_front front c)
  body_put front c are = by (is_subprogram (entry_of c.known (front_number front)))
    where
      by : (b : Bool) → AreParts (if b then with_formals front c else with_front front c)
      by true = formals_put front c are
      by false = front_put front c are

  -- a context of its own knows the same
  within : (c e : Context) → c.known ≡ e.known → AreParts c → AreParts e
  within c e same are = record {
    parts = subst (λ (k : Known). (t : ℕ) → IsMadeOf named (info k.table t).shape) same are.parts;
    types = subst (λ (k : Known). (d : ℕ) → is_type (entry_of k d) ≡ true → named d) same are.types;
  }

  -- ---- all of the code

  code_put : (code : Code) (c : Context) → AllNamed (named_numbers code) → AreParts c → AreParts (gather code c)
  unfolding gather named_numbers
  code_put (Incomplete d) c all are =
      let n : ℕ = declared_number d in
      type_put c n (record (awaited_info c n) { completed = Some (declared_pos d) }) (all n (inl refl)) (are.parts n) are
  code_put (Private d) c all are =
      let n : ℕ = declared_number d in
      type_put c n (record (awaited_info c n) { seen_in = c.home }) (all n (inl refl)) (are.parts n) are
  code_put (TypeDecl d def end) c all are =
      let n : ℕ = declared_number d in
      definition_put n def (with_type n (full_info c n def end) c) (type_put c n (full_info c n def end) (all n (inl refl)) (defined_parts c def are) are)
  code_put (Subtype d m) c all are =
      let t : ℕ = marked c.known m in
      type_put c (declared_number d) (subtype_info c.known t (shape.Same (meant_by (info c.known.table t).shape t)) true) (all (declared_number d) (inl refl))
      (meant_parts (info c.known.table t).shape t (are.parts t) (marked_named c m are)) are
  code_put (ConstrainedSubtype d m low_bound high_bound) c all are =
      let t : ℕ = marked c.known m in
      type_put c (declared_number d)
      (subtype_info c.known t (constrained_shape (full c.known.table t) (bound_pair c (base c.known.table t) low_bound high_bound))
      (not (is_asked c) || are_static_bounds c (base c.known.table t) low_bound high_bound)) (all (declared_number d) (inl refl))
      (constrained_parts (full c.known.table t) (bound_pair c (base c.known.table t) low_bound high_bound)) are
  code_put (Objects ids constant i v) c all are = objects_put constant i (constant_value c constant v) ids c are
  code_put (Numbers ids e) c all are = numbers_put (initial_value c e) ids c are
  code_put (Instance d m args) c all are = other_put c (declared_number d) (entry.Instance (instance_type args)) refl are
  code_put (SubDecl front) c all are = front_put front c are
  code_put (SubBody front items stmts end) c all are =
      let first : Context = with_body_front front c in
      let inner : Context = in_subprogram front first in
      within (gather stmts (gather items inner)) (gather (SubBody front items stmts end) c) refl
      (code_put stmts (gather items inner) (right (named_numbers items) (named_numbers stmts) all)
      (code_put items inner (left (named_numbers items) (named_numbers stmts) all) (within first inner refl (body_put front c are))))
  code_put (Package d visible hidden) c all are =
      let n : ℕ = declared_number d in
      let opened : Context = with_entry n entry.Package c in
      let start : Context = in_visible n opened in
      let second : Context = in_hidden n (gather visible start) in
      within (gather hidden second) (gather (Package d visible hidden) c) refl
      (code_put hidden second (right (named_numbers visible) (named_numbers hidden) all)
      (within (gather visible start) second refl
      (code_put visible start (left (named_numbers visible) (named_numbers hidden) all) (within opened start refl (other_put c n entry.Package refl are)))))
  code_put (PackageBody d parts) c all are =
      let inner : Context = in_hidden (declared_number d) c in
      within (gather parts inner) (gather (PackageBody d parts) c) refl (code_put parts inner all (within c inner refl are))
  code_put (If p x y) c all are =
      code_put y (gather x c) (right (named_numbers x) (named_numbers y) all) (code_put x c (left (named_numbers x) (named_numbers y) all) are)
  code_put (Branch p e x) c all are = code_put x c all are
  code_put (Case p e x) c all are = code_put x c all are
  code_put (When choices x) c all are = code_put x c all are
  code_put (Loop p x) c all are = code_put x c all are
  code_put (While p e x) c all are = code_put x c all are
  code_put (For p d reversed range x) c all are =
      let o : Entry = entry.Object (plain_object (parameter_type c range) kind.Parameter) in
      code_put x (with_entry (declared_number d) o c) all (other_put c (declared_number d) o refl are)
  code_put (Block p x y end) c all are =
      code_put y (gather x c) (right (named_numbers x) (named_numbers y) all) (code_put x c (left (named_numbers x) (named_numbers y) all) are)
  code_put (More x y) c all are =
      code_put y (gather x c) (right (named_numbers x) (named_numbers y) all) (code_put x c (left (named_numbers x) (named_numbers y) all) are)
  code_put code c all are = are

  units_put : (units : List Code) (c : Context) → AllNamed (flat_map named_numbers units) → AreParts c → AreParts (gather_units units c)
  units_put [] c all are = are
  units_put (u ∷ rest) c all are =
      units_put rest (gather u c) (right (named_numbers u) (flat_map named_numbers rest) all) (code_put u c (left (named_numbers u) (flat_map named_numbers rest) all) are)

  -- ---- both turns

  none_row : (n t : ℕ) → IsMadeOf named (info (replicate n no_type) t).shape
  none_row zero t = tt
  none_row (suc n) zero = tt
  none_row (suc n) (suc t) = none_row n t

  first_parts : (n t : ℕ) → IsMadeOf named (info (predefined_types false ++ replicate n no_type) t).shape
  first_parts n zero = tt
  first_parts n (suc zero) = tt
  first_parts n (suc (suc zero)) = tt
  first_parts n (suc (suc (suc zero))) = tt
  first_parts n (suc (suc (suc (suc zero)))) = low 0 (omega arith)
  first_parts n (suc (suc (suc (suc (suc t))))) = none_row n t

  turn : (p : Program) (table : Table) → AllNamed (flat_map named_numbers p.units) → ((t : ℕ) → IsMadeOf named (info table t).shape)
      → (t : ℕ) → IsMadeOf named (info (known_from p table).table t).shape
  turn p table all parts =
      (units_put p.units (outside (record (at_first false p.count) { table = table })) all (record { parts = parts; types = λ d is. low d (first_types p.count d is) })).parts

  pub all_parts : (p : Program) → AllNamed (flat_map named_numbers p.units) → (t : ℕ) → IsMadeOf named (info (known_of p).table t).shape
  unfolding known_of
  all_parts p all = turn p (known_from p (at_first false p.count).table).table all (turn p (at_first false p.count).table all (first_parts (p.count - 5)))

-- ---- the law

module _ (p : Program) (formed : IsTrue (all_formed p.units)) (are : IsOrderly p) (none : type_fault p ≡ None) (views : AreViews p.units (known_of p).table) where
  abbrev table : Table
  table = (known_of p).table

  -- An access type that isn't anonymous.
  abbrev pub IsNamedType : ℕ → Type 0
  IsNamedType u = (d : ℕ) (c n : Bool) → shape_of table u ≡ shape.Access d c n → n ≡ true

  opens : AllOpen (known_of p) p.units
  opens = program_open p formed none

  faultless : (u : Code) → Has p.units u → IsFaultless (known_of p) u
  faultless = program_faultless p formed none

  low_named : (t : ℕ) → t < 5 → IsNamedType t
  low_named t less d c n is = sentences.named_type p are opens views faultless t d c n (inl less) is

  has_named : (t : ℕ) → Has (flat_map named_numbers p.units) t → IsNamedType t
  has_named t has d c n is = sentences.named_type p are opens views faultless t d c n (units_declare p.units at_start t has) is

  found : (o : Option Info) → IsMadeOf IsNamedType (info_found o).shape → IsMadeOf IsNamedType (shape_found o)
  found None h = h
  found (Some i) h = h

  made : (t : ℕ) → IsMadeOf IsNamedType (shape_of table t)
  made t = found (slice_get table (meant_type table t)) (all_parts IsNamedType low_named p has_named (meant_type table t))

  listed : (cs : List Component) (i : ℕ) → AllByRecursion (λ (k : Component). IsNamedType k.of) cs → IsNamedType (get_or cs i no_component).of
  listed [] i all = low_named 0 (omega arith)
  listed (k ∷ cs) zero all = all.0
  listed (k ∷ cs) (suc i) all = listed cs i all.1

  pub component_named : (t i : ℕ) → IsNamedType (component_type table t i)
  component_named t i = by (shape_of table t) (made t)
    where
      by : (z : Shape) → IsMadeOf IsNamedType z → IsNamedType (get_or (components_of z) i no_component).of
      by (shape.Fields cs) all = listed cs i all
      by z all = low_named 0 (omega arith)

  pub target_named : (t d : ℕ) (c n : Bool) → shape_of table t ≡ shape.Access d c n → IsNamedType d
  target_named t d c n is = subst (IsMadeOf IsNamedType) is (made t)

  pub array_named : (t of : ℕ) (a b : ℤ) → shape_of table t ≡ shape.Elements a b of → IsNamedType of
  array_named t of a b is = subst (IsMadeOf IsNamedType) is (made t)
