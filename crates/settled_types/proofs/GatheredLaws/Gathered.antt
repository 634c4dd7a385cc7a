-- What gathering adds speaks of types alone.
use Rattle.std.proofs.Common.{◌≡◌, inl, inr, refl, sym, ap, subst, ℕ, zero, suc, ◌+◌, ◌<◌, ◌≤◌, Bool, true, false, not, ◌||◌, List, [], ◌∷◌, ◌++◌, flat_map, set, get_or, nat_eq, arith, ℤ, Option, Some, None, if◌then◌else◌}
use Rattle.std.specs.Prelude.{slice_get, is_some}
use Rattle.std.specs.List.{AllByRecursion}
use Rattle.std.proofs.lemmas.Bool.{eqb-true, false≢true}
use Rattle.machine.specs.spark_base.declared.position.Pos.{Pos}
use Rattle.machine.specs.spark_base.Lists.{Has}
use Rattle.spark_base.proofs.Lists.{Has-append_left, Has-append_right, Has-map}
use Rattle.machine.specs.resolved_tree.declared.node.Mark.{Mark}
use Rattle.machine.specs.resolved_tree.Trees.{More, Code, Plain, Anonymous, Bounds, Marked, Constrained, Enumeration, Record, Components, Array, Access, Incomplete, Private, TypeDecl, Subtype, ConstrainedSubtype, Objects, Numbers, Instance, Formals, Front, SubDecl, SubBody, Package, PackageBody, If, Branch, Case, When, Loop, While, For, Block, code_items}
use Rattle.machine.specs.type_definitions.declared.table.Component.{Component}
use Rattle.machine.specs.type_definitions.declared.table.Info.{Info}
use Rattle.machine.specs.type_definitions.declared.table.InitialValue.{InitialValue}
use Rattle.machine.specs.type_definitions.declared.table.Shape.{Shape}
use Rattle.machine.specs.type_definitions.declared.table.Shape.TheVariants as shape
use Rattle.machine.specs.place_names.declared.act.Mode.{Mode}
use Rattle.machine.specs.type_definitions.declared.table.FormalInfo.{FormalInfo}
use Rattle.machine.specs.type_definitions.declared.table.Entry.{Entry}
use Rattle.machine.specs.type_definitions.declared.table.Entry.TheVariants as entry
use Rattle.machine.specs.type_definitions.declared.table.Known.{Known}
use Rattle.machine.specs.type_definitions.declared.table.Kind.TheVariants as kind
use Rattle.machine.specs.type_definitions.declared.judgement.View.{View}
use Rattle.machine.specs.type_definitions.declared.judgement.View.TheVariants as view
use Rattle.machine.specs.type_definitions.Types.{info, info_found, base, base_found, full}
use Rattle.machine.specs.type_definitions.Entries.{entry_of, type_of_entry, type_of_mark, marked}
use Rattle.machine.specs.type_definitions.Names.{Context}
use Rattle.machine.specs.type_definitions.Expressions.{own_type}
use Rattle.machine.specs.type_definitions.Statements.{type_or_integer}
use Rattle.machine.specs.type_definitions.Whole.{predefined_types}
use Rattle.machine.specs.type_definitions.Gathered.{gather, each, declared_number, declared_pos, with_entry, with_info, with_type, own_info, indicated, with_indication, awaited_info, component_group, component_list, component_groups, defined, is_asked, is_bounded_range, are_static_bounds, bound_pair, has_bounds, with_literals, with_definition, full_info, constrained_shape, subtype_info, meant_by, with_object, object_info, constant_value, with_number, number_info, initial_value, plain_object, with_formal, with_formal_group, with_formals, with_result, with_front, with_body_front, profile, formal_group, formal_groups, formal_infos, anonymous_result, result_indicated, is_subprogram, front_number, parameter_type, in_subprogram, in_visible, in_hidden, instance_type}
use Rattle.settled_types.proofs.Cases.{definition_end, each_end, formals_end, front_end, group_end, indication_end, on_access, on_enumeration, on_front, on_group, on_more, result_end}
use Rattle.settled_types.specs.GatheredLaws.Made.{indicated_numbers, all_numbers, group_numbers, result_numbers, front_numbers, type_numbers, IsMadeOf, SpeaksOf, AreTypes}

-- ---- lists

pub row_after : {A : Type 0} (xs : List A) (d t : ℕ) (x : A) (Q : Option A → Type 0) → (t ≡ d → Q (Some x)) → Q (slice_get xs t) → Q (slice_get (set xs d x) t)
row_after [] d t x Q new old = old
row_after (y ∷ xs) zero zero x Q new old = new refl
row_after (y ∷ xs) zero (suc t) x Q new old = old
row_after (y ∷ xs) (suc d) zero x Q new old = old
row_after (y ∷ xs) (suc d) (suc t) x Q new old = row_after xs d t x Q (λ e. new (ap suc e)) old

pub entry_after : {A : Type 0} (xs : List A) (d t : ℕ) (x fallback : A) (Q : A → Type 0) → (t ≡ d → Q x) → Q (get_or xs t fallback) → Q (get_or (set xs d x) t fallback)
entry_after [] d t x fallback Q new old = old
entry_after (y ∷ xs) zero zero x fallback Q new old = new refl
entry_after (y ∷ xs) zero (suc t) x fallback Q new old = old
entry_after (y ∷ xs) (suc d) zero x fallback Q new old = old
entry_after (y ∷ xs) (suc d) (suc t) x fallback Q new old = entry_after xs d t x fallback Q (λ e. new (ap suc e)) old

module _ (is : ℕ → Type 0) (low : (t : ℕ) → t < 5 → is t) where
  abbrev IsNew : ℕ → Type 0
  IsNew d = is d × (5 ≤ d)

  abbrev AllNew : List ℕ → Type 0
  AllNew numbers = (d : ℕ) → Has numbers d → IsNew d

  abbrev pub Good : Context → Type 0
  Good c = AreTypes is c.known

  first_new : (xs ys : List ℕ) → AllNew (xs ++ ys) → AllNew xs
  first_new xs ys new d has = new d (Has-append_left xs ys d has)

  rest_new : (xs ys : List ℕ) → AllNew (xs ++ ys) → AllNew ys
  rest_new xs ys new d has = new d (Has-append_right xs ys d has)

  whole : is 0
  whole = low 0 (omega arith)

  -- ---- marks

  typed : (d : ℕ) (e : Entry) → SpeaksOf is d e → is (type_of_entry d e)
  typed d entry.Type h = h
  typed d e h = low 4 (omega arith)

  denoted : (known : Known) (o : Option ℕ) → AreTypes is known → is (type_of_mark known o)
  denoted known None are = low 4 (omega arith)
  denoted known (Some d) are = typed d (entry_of known d) (are.entries d)

  pub mark_made : (known : Known) (m : Mark) → AreTypes is known → is (marked known m)
  mark_made known m are = denoted known m.decl are

  -- ---- one more entry or row

  pub entry_kept : (c : Context) (d : ℕ) (e : Entry) → SpeaksOf is d e → Good c → Good (with_entry d e c)
  entry_kept c d e speaks are = record {
    parts = are.parts;
    bases = are.bases;
    certain = are.certain;
    bounded = are.bounded;
    predefined = are.predefined;
    entries = λ v. entry_after c.known.entries d v e entry.Nothing (SpeaksOf is v) (λ same. subst (λ x. SpeaksOf is x e) (sym same) speaks) (are.entries v);
  }

  pub record IsRow (i : Info) : Type 0 where
    pub part : IsMadeOf is i.shape
    pub base_made : is i.base
    pub known : i.base ≡ 4 → ⊥
    pub bounds : i.bounded ≡ true

  pub row_kept : (c : Context) (d : ℕ) (i : Info) → 5 ≤ d → IsRow i → Good c → Good (with_info d i c)
  row_kept c d i more row are = record {
    parts = λ t. row_after c.known.table d t i (λ o. IsMadeOf is (info_found o).shape) (λ e. row.part) (are.parts t);
    bases = λ t. row_after c.known.table d t i (λ o. is (base_found o)) (λ e. row.base_made) (are.bases t);
    certain = λ t. row_after c.known.table d t i (λ o. base_found o ≡ 4 → ⊥) (λ e. row.known) (are.certain t);
    bounded = λ t. row_after c.known.table d t i (λ o. (info_found o).bounded ≡ true) (λ e. row.bounds) (are.bounded t);
    predefined = λ t less. row_after c.known.table d t i (λ o. o ≡ slice_get (predefined_types false) t) (λ e. absurd (omega (arith, more, less, e))) (are.predefined t less);
    entries = are.entries;
  }

  other : (d : ℕ) → 5 ≤ d → d ≡ 4 → ⊥
  other d more e = omega (arith, more, e)

  own_row : (s : Shape) (d : ℕ) → IsNew d → IsMadeOf is s → IsRow (own_info s d)
  own_row s d new h = record { part = h; base_made = new.0; known = other d new.1; bounds = refl }

  type_kept : (c : Context) (d : ℕ) (i : Info) → IsNew d → IsRow i → Good c → Good (with_type d i c)
  type_kept c d i new row are = entry_kept (with_info d i c) d entry.Type new.0 (row_kept c d i new.1 row are)

  -- ---- types

  asked : (c : Context) (b : Bool) → Good c → not (is_asked c) || b ≡ true
  asked c b are = by (nat_eq (base c.known.table 4) 4) refl
    where
      by : (q : Bool) → nat_eq (base c.known.table 4) 4 ≡ q → not q || b ≡ true
      by true e = absurd (are.certain 4 (eqb-true (base c.known.table 4) 4 e))
      by false e = refl

  group_made : (t : ℕ) (names : Code) → is t → AllByRecursion (λ (k : Component). is k.of) (component_group t names)
  group_made t (More d rest) h = (h, group_made t rest h)
  group_made t names h = tt

  both : (xs ys : List Component) → AllByRecursion (λ (k : Component). is k.of) xs → AllByRecursion (λ (k : Component). is k.of) ys → AllByRecursion (λ (k : Component). is k.of) (xs ++ ys)
  both [] ys h g = g
  both (x ∷ xs) ys h g = (h.0, both xs ys h.1 g)

  groups_made : (known : Known) (group : Code) → AreTypes is known → AllByRecursion (λ (k : Component). is k.of) (component_groups known group)
  groups_made known (Components names m) are = group_made (marked known m) names (mark_made known m are)
  groups_made known group are = tt

  list_made : (known : Known) (groups : Code) → AreTypes is known → AllByRecursion (λ (k : Component). is k.of) (component_list known groups)
  list_made known (More group rest) are = both (component_groups known group) (component_list known rest) (groups_made known group are) (list_made known rest are)
  list_made known groups are = tt

  defined_made : (c : Context) (def : Code) → Good c → IsMadeOf is (defined c def)
  defined_made c (Enumeration literals) are = tt
  defined_made c (Record components) are = list_made c.known components are
  defined_made c (Array range m) are = mark_made c.known m are
  defined_made c (Access m) are = mark_made c.known m are
  defined_made c def are = tt

  bounds_known : (c : Context) (def : Code) → Good c → has_bounds c def ≡ true
  bounds_known c (Array range m) are = asked c (is_bounded_range c range) are
  bounds_known c def are = refl

  full_row : (c : Context) (d : ℕ) (def : Code) (end : Pos) → IsNew d → Good c → IsRow (full_info c d def end)
  full_row c d def end new are = record { part = defined_made c def are; base_made = new.0; known = other d new.1; bounds = bounds_known c def are }

  meant_made : (s : Shape) (t : ℕ) → IsMadeOf is s → is t → is (meant_by s t)
  meant_made (shape.Same of) t h m = h
  meant_made s t h m = m

  constrained_made : (w : View) (b : ℤ × ℤ) → IsMadeOf is (constrained_shape w b)
  constrained_made (view.Whole p q) b = tt
  constrained_made (view.Listed p q) b = tt
  constrained_made w b = tt

  subtype_row : (c : Context) (m : Mark) (s : Shape) (b : Bool) → Good c → IsMadeOf is s → b ≡ true → IsRow (subtype_info c.known (marked c.known m) s b)
  subtype_row c m s b are h bounds = record { part = h; base_made = are.bases (marked c.known m); known = are.certain (marked c.known m); bounds = bounds }

  literals_kept : (t n : ℕ) (ids : Code) (c : Context) → is t → Good c → Good (with_literals t n ids c)
  literals_kept t n (More d rest) c h are =
      literals_kept t (n + 1) rest (with_entry (declared_number d) (entry.Literal t n) c) h (entry_kept c (declared_number d) (entry.Literal t n) h are)
  literals_kept t n ids c h are = are

  definition_kept : (t : ℕ) (def : Code) (c : Context) → is t → Good c → Good (with_definition t def c)
  definition_kept t = on_enumeration (λ def. (c : Context) → is t → Good c → Good (with_definition t def c))
      (λ literals c h are.
      literals_kept t 0 literals c h are)
      (λ def other c h are. rw (definition_end t def c other) (are))

  -- ---- objects

  indicated_made : (known : Known) (d : ℕ) (i : Code) → AllNew (indicated_numbers i (d ∷ [])) → AreTypes is known → is (indicated known d i)
  indicated_made known d (Plain m) new are = mark_made known m are
  indicated_made known d (Anonymous p constant m) new are = (new d (inl refl)).0
  indicated_made known d i new are = whole

  indication_kept : (d : ℕ) (i : Code) (c : Context) → AllNew (indicated_numbers i (d ∷ [])) → Good c → Good (with_indication d i c)
  indication_kept d = on_access (λ i. (c : Context) → AllNew (indicated_numbers i (d ∷ [])) → Good c → Good (with_indication d i c))
      (λ p constant m c new are.
      let at = new d (inl refl) in
      row_kept c d (own_info (shape.Access (marked c.known m) constant false) d) at.1
      (own_row (shape.Access (marked c.known m) constant false) d at (mark_made c.known m are)) are)
      (λ i other c new are. rw (indication_end d i c other) (are))

  each_kept : (f : Code → Context → Context) (ids : Code) → ((d : Code) → Has (code_items ids) d → (c : Context) → Good c → Good (f d c))
      → (c : Context) → Good c → Good (each f ids c)
  each_kept f = on_more (λ ids. ((d : Code) → Has (code_items ids) d → (c : Context) → Good c → Good (f d c)) → (c : Context) → Good c → Good (each f ids c))
      (λ a rest next kept c are.
      next (λ d has. kept d (inr has)) (f a c) (kept a (inl refl) c are))
      (λ ids other kept c are. rw (each_end f ids c other) (are))

  one_new : (i ids d : Code) → AllNew (indicated_numbers i (all_numbers ids)) → Has (code_items ids) d → AllNew (indicated_numbers i (declared_number d ∷ []))
  one_new (Anonymous p constant m) ids d new has n here = elim here [
    | inl same ↦ new n (subst (Has (all_numbers ids)) same (Has-map declared_number (code_items ids) d has))
    | inr none ↦ absurd none
  ]
  one_new i ids d new has n here = absurd here

  object_kept : (constant : Bool) (i : Code) (v : InitialValue) (d : Code) → AllNew (indicated_numbers i (declared_number d ∷ [])) → (c : Context) → Good c → Good (with_object constant i v d c)
  object_kept constant i v d new c are =
      entry_kept (with_indication (declared_number d) i c) (declared_number d) (entry.Object (object_info c constant (indicated c.known (declared_number d) i) v))
      (indicated_made c.known (declared_number d) i new are) (indication_kept (declared_number d) i c new are)

  formal_kept : (of d : Code) → AllNew (indicated_numbers of (declared_number d ∷ [])) → (c : Context) → Good c → Good (with_formal of d c)
  formal_kept of d new c are =
      entry_kept (with_indication (declared_number d) of c) (declared_number d) (entry.Object (plain_object (indicated c.known (declared_number d) of) kind.Formal))
      (indicated_made c.known (declared_number d) of new are) (indication_kept (declared_number d) of c new are)

  group_kept : (group : Code) → AllNew (group_numbers group) → (c : Context) → Good c → Good (with_formal_group group c)
  group_kept = on_group (λ group. AllNew (group_numbers group) → (c : Context) → Good c → Good (with_formal_group group c))
      (λ names m of new c are.
      each_kept (with_formal of) names (λ d has. formal_kept of d (one_new of names d new has)) c are)
      (λ group other new c are. rw (group_end group c other) (are))

  groups_kept : (formals : Code) → AllNew (flat_map group_numbers (code_items formals)) → (c : Context) → Good c → Good (each with_formal_group formals c)
  groups_kept = on_more (λ formals. AllNew (flat_map group_numbers (code_items formals)) → (c : Context) → Good c → Good (each with_formal_group formals c))
      (λ group rest next new c are.
      next (rest_new (group_numbers group) _ new) (with_formal_group group c) (group_kept group (first_new (group_numbers group) _ new) c are))
      (λ formals other new c are. rw (each_end with_formal_group formals c other) (are))

  result_kept : (d : ℕ) (result : Code) → AllNew (result_numbers d result) → (c : Context) → Good c → Good (with_result d result c)
  result_kept d = on_more (λ result. AllNew (result_numbers d result) → (c : Context) → Good c → Good (with_result d result c))
      (λ i rest _ new c are.
      indication_kept d i c new are)
      (λ result other new c are. rw (result_end d result c other) (are))

  result_made : (known : Known) (d : ℕ) (result : Code) → AllNew (result_numbers d result) → AreTypes is known → (t : ℕ) → result_indicated known d result ≡ Some t → is t
  result_made known d (More i rest) new are t e = let same : indicated known d i ≡ t = cc in subst is same (indicated_made known d i new are)
  result_made known d result new are t e = absurd (false≢true (ap is_some e))

  -- the formals of a profile
  formals_both : (xs ys : List FormalInfo) → AllByRecursion (λ (f : FormalInfo). is f.of) xs → AllByRecursion (λ (f : FormalInfo). is f.of) ys
      → AllByRecursion (λ (f : FormalInfo). is f.of) (xs ++ ys)
  formals_both [] ys h g = g
  formals_both (x ∷ xs) ys h g = (h.0, formals_both xs ys h.1 g)

  other_new : (i : Code) (n : ℕ) (ns : List ℕ) → AllNew (indicated_numbers i (n ∷ ns)) → AllNew (indicated_numbers i ns)
  other_new (Anonymous p constant m) n ns new d has = new d (inr has)
  other_new i n ns new d has = absurd has

  infos_made : (known : Known) (first : Bool) (m : Mode) (of ids : Code) → AllNew (indicated_numbers of (all_numbers ids)) → AreTypes is known
      → AllByRecursion (λ (f : FormalInfo). is f.of) (formal_group known first m of ids)
  infos_made known first m of (More d rest) new are = (
    indicated_made known (declared_number d) of (one_new of (More d rest) d new (inl refl)) are,
    infos_made known false m of rest (other_new of (declared_number d) (all_numbers rest) new) are,
  )
  infos_made known first m of ids new are = tt

  group_infos_made : (known : Known) (first : Bool) (group : Code) → AllNew (group_numbers group) → AreTypes is known
      → AllByRecursion (λ (f : FormalInfo). is f.of) (formal_groups known first group)
  group_infos_made known first (Formals names m of) new are = infos_made known first m of names new are
  group_infos_made known first group new are = tt

  formals_made : (known : Known) (first : Bool) (formals : Code) → AllNew (flat_map group_numbers (code_items formals)) → AreTypes is known
      → AllByRecursion (λ (f : FormalInfo). is f.of) (formal_infos known first formals)
  formals_made known first (More group rest) new are =
      formals_both (formal_groups known first group) (formal_infos known false rest)
      (group_infos_made known first group (first_new (group_numbers group) (flat_map group_numbers (code_items rest)) new) are)
      (formals_made known false rest (rest_new (group_numbers group) (flat_map group_numbers (code_items rest)) new) are)
  formals_made known first formals new are = tt

  front_kept : (front : Code) → AllNew (front_numbers front) → (c : Context) → Good c → Good (with_front front c)
  front_kept = on_front (λ front. AllNew (front_numbers front) → (c : Context) → Good c → Good (with_front front c))
      (λ d formals result new c are.
      let n = declared_number d in
      let results = first_new (result_numbers n result) _ new in
      let inner = each with_formal_group formals (with_result n result c) in
      let good = groups_kept formals (rest_new (result_numbers n result) _ new) (with_result n result c) (result_kept n result results c are) in
      entry_kept inner n (entry.Subprogram (profile inner.known (Front d formals result)))
      (result_made inner.known n result results good, formals_made inner.known (anonymous_result result) formals (rest_new (result_numbers n result) _ new) good) good)
      (λ front other new c are. rw (front_end front c other) (are))

  formals_kept : (front : Code) → AllNew (front_numbers front) → (c : Context) → Good c → Good (with_formals front c)
  formals_kept = on_front (λ front. AllNew (front_numbers front) → (c : Context) → Good c → Good (with_formals front c))
      (λ d formals result new c are.
      groups_kept formals (rest_new (result_numbers (declared_number d) result) _ new) c are)
      (λ front other new c are. rw (formals_end front c other) (are))

  body_kept : (front : Code) → AllNew (front_numbers front) → (c : Context) → Good c → Good (with_body_front front c)
  body_kept front new c are = by (is_subprogram (entry_of c.known (front_number front)))
    where
      by : (b : Bool) → Good (if b then with_formals front c else with_front front c)
      by true = formals_kept front new c are
      by false = front_kept front new c are

  parameter_made : (c : Context) (range : Code) → Good c → is (parameter_type c range)
  parameter_made c (Bounds a b) are = are.bases (type_or_integer (own_type c a))
  parameter_made c (Marked m) are = mark_made c.known m are
  parameter_made c (Constrained m a b) are = mark_made c.known m are
  parameter_made c range are = whole

  -- ---- all of the code

  pub gathered : (code : Code) → AllNew (type_numbers code) → (c : Context) → Good c → Good (gather code c)
  unfolding gather type_numbers
  gathered (Incomplete d) new c are =
      let n = declared_number d in
      let at = new n (inl refl) in
      type_kept c n (record (awaited_info c n) { completed = Some (declared_pos d) }) at
      (record { part = are.parts n; base_made = at.0; known = other n at.1; bounds = refl }) are
  gathered (Private d) new c are =
      let n = declared_number d in
      let at = new n (inl refl) in
      type_kept c n (record (awaited_info c n) { seen_in = c.home }) at
      (record { part = are.parts n; base_made = at.0; known = other n at.1; bounds = refl }) are
  gathered (TypeDecl d def end) new c are =
      let n = declared_number d in
      let at = new n (inl refl) in
      definition_kept n def (with_type n (full_info c n def end) c) at.0 (type_kept c n (full_info c n def end) at (full_row c n def end at are) are)
  gathered (Subtype d m) new c are =
      let n = declared_number d in
      let t = marked c.known m in
      let s = shape.Same (meant_by (info c.known.table t).shape t) in
      type_kept c n (subtype_info c.known t s true) (new n (inl refl))
      (subtype_row c m s true are (meant_made (info c.known.table t).shape t (are.parts t) (mark_made c.known m are)) refl) are
  gathered (ConstrainedSubtype d m low high) new c are =
      let n = declared_number d in
      let t = marked c.known m in
      let s = constrained_shape (full c.known.table t) (bound_pair c (base c.known.table t) low high) in
      let b = not (is_asked c) || are_static_bounds c (base c.known.table t) low high in
      type_kept c n (subtype_info c.known t s b) (new n (inl refl))
      (subtype_row c m s b are (constrained_made (full c.known.table t) (bound_pair c (base c.known.table t) low high))
      (asked c (are_static_bounds c (base c.known.table t) low high) are)) are
  gathered (Objects ids constant i v) new c are =
      each_kept (with_object constant i (constant_value c constant v)) ids (λ d has. object_kept constant i (constant_value c constant v) d (one_new i ids d new has)) c are
  gathered (Numbers ids e) new c are =
      each_kept (with_number (initial_value c e)) ids
      (λ d has k good. entry_kept k (declared_number d) (entry.Object (number_info k (initial_value c e))) whole good) c are
  gathered (Instance d m args) new c are = entry_kept c (declared_number d) (entry.Instance (instance_type args)) tt are
  gathered (SubDecl front) new c are = front_kept front new c are
  gathered (SubBody front items stmts end) new c are =
      let inner = type_numbers items ++ type_numbers stmts in
      let bodies = rest_new (front_numbers front) inner new in
      gathered stmts (rest_new (type_numbers items) (type_numbers stmts) bodies) (gather items (in_subprogram front (with_body_front front c)))
      (gathered items (first_new (type_numbers items) (type_numbers stmts) bodies) (in_subprogram front (with_body_front front c))
      (body_kept front (first_new (front_numbers front) inner new) c are))
  gathered (Package d visible hidden) new c are =
      let n = declared_number d in
      let start = in_visible n (with_entry n entry.Package c) in
      gathered hidden (rest_new (type_numbers visible) (type_numbers hidden) new) (in_hidden n (gather visible start))
      (gathered visible (first_new (type_numbers visible) (type_numbers hidden) new) start (entry_kept c n entry.Package tt are))
  gathered (PackageBody d parts) new c are = gathered parts new (in_hidden (declared_number d) c) are
  gathered (If p branches otherwise) new c are =
      gathered otherwise (rest_new (type_numbers branches) (type_numbers otherwise) new) (gather branches c)
      (gathered branches (first_new (type_numbers branches) (type_numbers otherwise) new) c are)
  gathered (Branch p e stmts) new c are = gathered stmts new c are
  gathered (Case p e whens) new c are = gathered whens new c are
  gathered (When choices stmts) new c are = gathered stmts new c are
  gathered (Loop p stmts) new c are = gathered stmts new c are
  gathered (While p e stmts) new c are = gathered stmts new c are
  gathered (For p d reversed range stmts) new c are =
      gathered stmts new (with_entry (declared_number d) (entry.Object (plain_object (parameter_type c range) kind.Parameter)) c)
      (entry_kept c (declared_number d) (entry.Object (plain_object (parameter_type c range) kind.Parameter)) (parameter_made c range are) are)
  gathered (Block p items stmts end) new c are =
      gathered stmts (rest_new (type_numbers items) (type_numbers stmts) new) (gather items c)
      (gathered items (first_new (type_numbers items) (type_numbers stmts) new) c are)
  gathered (More a rest) new c are =
      gathered rest (rest_new (type_numbers a) (type_numbers rest) new) (gather a c) (gathered a (first_new (type_numbers a) (type_numbers rest) new) c are)
  gathered code new c are = are
