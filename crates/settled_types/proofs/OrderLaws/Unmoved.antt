-- What the package objects are declared with names no object of an owning type.
use Rattle.std.proofs.Common.{◌≡◌, refl, sym, ap, ◌∙◌, subst, ◌⊎◌, inl, inr, ℕ, ◌+◌, Bool, true, false, not, ◌&&◌, ◌||◌, nat_eq, List, [], ◌∷◌, ◌++◌, map, get_or, None}
use Rattle.std.specs.Prelude.{flat_map, is_none}
use Rattle.std.specs.List.{AllByRecursion, position_or_len}
use Rattle.std.proofs.lemmas.Bool.{false≢true}
use Rattle.machine.specs.spark_base.Lists.{Has}
use Rattle.machine.specs.place_names.declared.act.Mode.{Mode}
use Rattle.machine.specs.place_names.declared.act.Mode.TheVariants as mode
use Rattle.machine.specs.resolved_tree.Trees.{Tree, Code, Incomplete, Private, TypeDecl, Subtype, ConstrainedSubtype, Objects, Numbers, Instance, Formals, SubDecl, SubBody, Package, PackageBody, If, Branch, Case, When, Loop, While, For, Block, NoMore, More, code_items}
use Rattle.machine.specs.resolved_tree.Trees as resolved
use Rattle.machine.specs.type_definitions.declared.judgement.Fault.{Fault}
use Rattle.machine.specs.type_definitions.declared.judgement.Where.TheVariants as stands
use Rattle.machine.specs.type_definitions.declared.table.Entry.{Entry}
use Rattle.machine.specs.type_definitions.declared.table.Entry.TheVariants as entry
use Rattle.machine.specs.type_definitions.declared.table.Known.{Known}
use Rattle.machine.specs.type_definitions.Types.{is_owning}
use Rattle.machine.specs.type_definitions.Faults.{demand}
use Rattle.machine.specs.type_definitions.Entries.{entry_of, integer}
use Rattle.machine.specs.type_definitions.Expressions.{root_owning, around, inside}
use Rattle.machine.specs.type_definitions.Statements.{static_faults}
use Rattle.machine.specs.type_definitions.Declarations.{code_faults, starting, in_package as is_in_package, first_pos, is_single, has_one, initial_faults, objects_faults, indication_faults}
use Rattle.machine.specs.type_definitions.Gathered.{is_anonymous_indication, in_visible, in_hidden, declared_number, declared_text}
use Rattle.machine.specs.type_definitions.Whole.{outside}
use Rattle.machine.specs.typed_tree.Trees.{TypedTree, TypedCode, typed_code_list}
use Rattle.machine.specs.typed_tree.Trees as typed
use Rattle.machine.specs.typed_tree.Expressions.{Site, object_type, object_number, typed_expression, typed_optional}
use Rattle.machine.specs.typed_tree.Statements.{scope_count, statements, typed_object}
use Rattle.machine.specs.typed_tree.Programs.{DeclaredObject, Home, objects_in, object_of, formals_of, front_formals, local, in_package, package_text, program_objects, text_io, site_of, placed, elaborated, elaboration, over_units, typed_program}
use Rattle.machine.specs.flow_paths.Objects.{Typing, object_at}
use Rattle.machine.specs.flow_paths.Laid.{typing_of}
use Rattle.settled_types.specs.OrderLaws.ScopeLaws.Code.{roots}
use Rattle.settled_types.proofs.OrderLaws.ScopeLaws.Lists.{and_first, and_second, both_true, all_both}
use Rattle.settled_types.specs.OrderLaws.ReadyLaws.InOrder.{own_nothing, names_no_owner}
use Rattle.settled_types.specs.OrderLaws.Written.{is_declaration, are_declarations, is_body, are_parts, is_unit}
use Rattle.settled_types.proofs.OrderLaws.Mains.{nothing_left, nothing_right, demanded}
use Rattle.settled_types.proofs.OrderLaws.Parts.{either, one_on, one_more, same_number, number_here, number_later}
use Rattle.settled_types.proofs.OrderLaws.Starting.{expression_none}

nothing_more : (xs : List ℕ) → xs ++ [] ≡ xs
nothing_more [] = refl
nothing_more (x ∷ xs) = ap (λ ys. x ∷ ys) (nothing_more xs)

named_indication : (a x y z : Bool) → y ≡ true → not a || (x && (not y && z)) ≡ true → a ≡ false
named_indication false x y z e h = refl
named_indication true true true z e h = absurd (false≢true h)
named_indication true true false z e h = absurd (false≢true e)
named_indication true false y z e h = absurd (false≢true h)

-- ---- the types of objects are those of their declarations

module _ (known : Known) (units : List Code) where
  abbrev IsOf : DeclaredObject → Type 0
  IsOf o = o.object.of ≡ object_type (entry_of known o.number)

  each_of : (h : Home) (a : ℕ) (m : Mode) (ids : List Code) → h.known ≡ known → AllByRecursion IsOf (map (object_of h a m) ids)
  each_of h a m [] e = tt
  each_of h a m (d ∷ ids) e = (ap (λ k. object_type (entry_of k (declared_number d))) e, each_of h a m ids e)

  group_of : (h : Home) (a : ℕ) (g : Code) → h.known ≡ known → AllByRecursion IsOf (formals_of h a g)
  group_of h a (Formals ids m of) e = each_of h a m (code_items ids) e
  group_of h a _ e = tt

  formals_are : (h : Home) (a : ℕ) (groups : List Code) → h.known ≡ known → AllByRecursion IsOf (flat_map (formals_of h a) groups)
  formals_are h a [] e = tt
  formals_are h a (g ∷ groups) e = all_both IsOf (formals_of h a g) (flat_map (formals_of h a) groups) (group_of h a g e) (formals_are h a groups e)

  code_of : (h : Home) (a n : ℕ) (c : Code) → h.known ≡ known → AllByRecursion IsOf (objects_in units h a n c)
  unfolding objects_in
  code_of h a n (Objects ids constant i v) e = each_of h a mode.In (code_items ids) e
  code_of h a n (Numbers ids v) e = each_of h a mode.In (code_items ids) e
  code_of h a n (SubBody front items stmts end) e =
      let formals : List DeclaredObject = flat_map (formals_of (local h) n) (front_formals front) in
      let first : List DeclaredObject = objects_in units (local h) n (n + 1) items in
      all_both IsOf (formals ++ first) (objects_in units (local h) n (n + 1 + scope_count items) stmts)
      (all_both IsOf formals first (formals_are (local h) n (front_formals front) e) (code_of (local h) n (n + 1) items e))
      (code_of (local h) n (n + 1 + scope_count items) stmts e)
  code_of h a n (Package d visible hidden) e =
      all_both IsOf (objects_in units (in_package (declared_text d) h) a n visible) _ (code_of (in_package (declared_text d) h) a n visible e)
      (code_of (in_package (declared_text d) h) a (n + scope_count visible) hidden e)
  code_of h a n (PackageBody d parts) e = code_of (in_package (package_text units (declared_number d)) h) a n parts e
  code_of h a n (If p branches otherwise) e =
      all_both IsOf (objects_in units h a n branches) _ (code_of h a n branches e) (code_of h a (n + scope_count branches) otherwise e)
  code_of h a n (Branch p v stmts) e = code_of h a n stmts e
  code_of h a n (Case p v whens) e = code_of h a n whens e
  code_of h a n (When choices stmts) e = code_of h a n stmts e
  code_of h a n (Loop p stmts) e = code_of h a n stmts e
  code_of h a n (While p v stmts) e = code_of h a n stmts e
  code_of h a n (For p d reversed range stmts) e = (ap (λ k. object_type (entry_of k (declared_number d))) e, code_of h n (n + 1) stmts e)
  code_of h a n (Block p items stmts end) e =
      all_both IsOf (objects_in units h n (n + 1) items) _ (code_of h n (n + 1) items e) (code_of h n (n + 1 + scope_count items) stmts e)
  code_of h a n (More first rest) e = all_both IsOf (objects_in units h a n first) _ (code_of h a n first e) (code_of h a (n + scope_count first) rest e)
  code_of h a n _ e = tt

  units_are : (h : Home) (n : ℕ) (us : List Code) → h.known ≡ known → AllByRecursion IsOf (over_units (objects_in units h 0) n us)
  units_are h n [] e = tt
  units_are h n (u ∷ us) e = all_both IsOf (objects_in units h 0 n u) _ (code_of h 0 n u e) (units_are h (n + scope_count u) us e)

  -- An object by the number of a declaration has its type, or that of no object.
  type_there : (os : List DeclaredObject) → AllByRecursion IsOf os → (d : ℕ)
      → ((get_or (map (λ (o : DeclaredObject). o.object) os) (position_or_len (nat_eq d) (map (λ (o : DeclaredObject). o.number) os)) text_io).of ≡ object_type (entry_of known d))
      ⊎ ((get_or (map (λ (o : DeclaredObject). o.object) os) (position_or_len (nat_eq d) (map (λ (o : DeclaredObject). o.number) os)) text_io).of ≡ integer)
  type_there [] h d = inr refl
  type_there (o ∷ os) h d = elim (either (nat_eq d o.number)) [
    | inl here ↦ inl (ap (λ k. (get_or (map (λ (u : DeclaredObject). u.object) (o ∷ os)) k text_io).of) (number_here d o.number (map (λ (u : DeclaredObject). u.number) os) here)
        ∙ h.0 ∙ ap (λ z. object_type (entry_of known z)) (sym (same_number d o.number here)))
    | inr other ↦ subst (λ k. ((get_or (map (λ (u : DeclaredObject). u.object) (o ∷ os)) k text_io).of ≡ object_type (entry_of known d))
        ⊎ ((get_or (map (λ (u : DeclaredObject). u.object) (o ∷ os)) k text_io).of ≡ integer))
        (sym (number_later d o.number (map (λ (u : DeclaredObject). u.number) os) other))
        (later (position_or_len (nat_eq d) (map (λ (u : DeclaredObject). u.number) os)) (type_there os h.1 d))
  ]
    where
      later : (k : ℕ) → ((get_or (map (λ (u : DeclaredObject). u.object) os) k text_io).of ≡ object_type (entry_of known d))
          ⊎ ((get_or (map (λ (u : DeclaredObject). u.object) os) k text_io).of ≡ integer)
          → ((get_or (map (λ (u : DeclaredObject). u.object) (o ∷ os)) (1 + k) text_io).of ≡ object_type (entry_of known d))
          ⊎ ((get_or (map (λ (u : DeclaredObject). u.object) (o ∷ os)) (1 + k) text_io).of ≡ integer)
      later k (inl e) = inl (ap (λ z. z.of) (one_on o.object (map (λ (u : DeclaredObject). u.object) os) k text_io) ∙ e)
      later k (inr e) = inr (ap (λ z. z.of) (one_on o.object (map (λ (u : DeclaredObject). u.object) os) k text_io) ∙ e)

  module _ (whole : is_owning known.table integer ≡ false) where
    abbrev own : Typing
    own = typing_of known.table (typed_program known units)

    by_entry : (e : Entry) → root_owning known e ≡ false → is_owning known.table (object_type e) ≡ false
    by_entry (entry.Object o) h = h
    by_entry (entry.Subprogram p) h = whole
    by_entry (entry.Literal t n) h = whole
    by_entry entry.Type h = whole
    by_entry (entry.Predefined p) h = whole
    by_entry entry.Nothing h = whole
    by_entry entry.Package h = whole
    by_entry (entry.Instance t) h = whole

    plain : (d : ℕ) → root_owning known (entry_of known d) ≡ false → is_owning own.table (object_at own (object_number (site_of known units) d)).of ≡ false
    unfolding typed_program
    plain d h =
        ap (λ z. is_owning known.table z.of)
        (one_more text_io (map (λ (o : DeclaredObject). o.object) (program_objects known units))
        (position_or_len (nat_eq d) (map (λ (o : DeclaredObject). o.number) (program_objects known units))) text_io)
        ∙ elim (type_there (program_objects known units) (units_are (record { known = known; identifier = None }) 1 units refl) d) [
          | inl e ↦ ap (is_owning known.table) e ∙ by_entry (entry_of known d) h
          | inr e ↦ ap (is_owning known.table) e ∙ whole
        ]

    -- ---- declarations

    abbrev NamesNone : TypedCode → Type 0
    NamesNone c = names_no_owner own c ≡ true

    list_names : (cs : List TypedCode) → AllByRecursion NamesNone cs → NamesNone (typed_code_list cs)
    unfolding names_no_owner
    list_names [] h = refl
    list_names (c ∷ cs) h = both_true (names_no_owner own c) (names_no_owner own (typed_code_list cs)) h.0 (list_names cs h.1)

    each_names : (s : Site) (v : TypedTree) → own_nothing own (roots v) ≡ true → (ids : List Code) → AllByRecursion NamesNone (map (typed_object s v) ids)
    unfolding names_no_owner
    each_names s v h [] = tt
    each_names s v h (d ∷ ids) = (h, each_names s v h ids)

    -- code of a package
    module _ (s : Site) (same : s.context.known ≡ known) (objects : s.objects ≡ (site_of known units).objects) (packaged : s.context.sub ≡ None) where
      started : is_in_package s.context ≡ true
      started = ap is_none packaged

      plain_here : (d : ℕ) → root_owning s.context.known (entry_of s.context.known d) ≡ false → is_owning own.table (object_at own (object_number s d)).of ≡ false
      plain_here d h =
          ap (λ xs. is_owning own.table (object_at own (position_or_len (nat_eq d) xs + 1)).of) objects
          ∙ plain d (sym (ap (λ k. root_owning k (entry_of k d)) same) ∙ h)

      none_there : (e : Tree) (want : ℕ) → inside (starting s.context) false want e ≡ [] → (given : ℕ) → own_nothing own (roots (typed_expression s given e)) ≡ true
      none_there e want faults given = expression_none own s (is_in_package s.context) started plain_here e given want false faults

      one_none : (e : TypedTree) → own_nothing own (roots e) ≡ true → own_nothing own (roots (typed.More e typed.NoMore)) ≡ true
      unfolding roots
      one_none e h = ap (own_nothing own) (nothing_more (roots e)) ∙ h

      optional_none : (v : Tree) (want given : ℕ) → initial_faults (starting s.context) false want v ≡ [] → own_nothing own (roots (typed_optional s given v)) ≡ true
      unfolding roots
      optional_none (resolved.More e rest) want given faults =
          one_none (typed_expression s given e)
          (none_there e want (nothing_right (around (starting s.context) stands.Stored want e) (inside (starting s.context) false want e) faults) given)
      optional_none _ want given faults = refl

      objects_none : (ids : Code) (constant : Bool) (i : Code) (v : Tree) (want given : ℕ) → objects_faults s.context ids constant i v want ≡ []
          → own_nothing own (roots (typed_optional s given v)) ≡ true
      objects_none ids constant i v want given faults =
          let test : Bool = not (is_anonymous_indication i) || (is_single ids && (not (is_in_package s.context) && (not constant && has_one v))) in
          let last : List Fault = initial_faults (starting s.context) (is_anonymous_indication i) want v in
          let five : List Fault = demand 5 (first_pos ids) (not (constant && is_owning s.context.known.table want)) in
          let six = nothing_right (indication_faults s.context.known i) (demand 6 (first_pos ids) test ++ (five ++ last)) faults in
          let named = named_indication (is_anonymous_indication i) (is_single ids) (is_in_package s.context) (not constant && has_one v) started
          (demanded 6 (first_pos ids) test (nothing_left (demand 6 (first_pos ids) test) (five ++ last) six)) in
          optional_none v want given
          (sym (ap (λ z. initial_faults (starting s.context) z want v) named) ∙ nothing_right five last (nothing_right (demand 6 (first_pos ids) test) (five ++ last) six))

      declaration_none : (n : ℕ) (c : Code) → is_declaration c ≡ true → code_faults s.context c ≡ [] → AllByRecursion NamesNone (statements s n c)
      unfolding statements code_faults
      declaration_none n (Objects ids constant i v) e faults = each_names s _ (objects_none ids constant i v _ _ faults) (code_items ids)
      declaration_none n (Numbers ids v) e faults =
          each_names s _ (one_none (typed_expression s integer v)
          (none_there v integer (nothing_right (around (starting s.context) stands.Elsewhere integer v) (inside (starting s.context) false integer v)
          (nothing_left (around (starting s.context) stands.Elsewhere integer v ++ inside (starting s.context) false integer v) (static_faults (starting s.context) v) faults)) integer))
          (code_items ids)
      declaration_none n (Incomplete d) e faults = tt
      declaration_none n (Private d) e faults = tt
      declaration_none n (TypeDecl d def end) e faults = tt
      declaration_none n (Subtype d m) e faults = tt
      declaration_none n (ConstrainedSubtype d m low high) e faults = tt
      declaration_none n (Instance d m args) e faults = tt
      declaration_none n (SubDecl front) e faults = tt
      declaration_none n NoMore e faults = tt
      declaration_none n _ e faults = absurd (false≢true e)

      declarations_none : (n : ℕ) (c : Code) → are_declarations c ≡ true → code_faults s.context c ≡ [] → AllByRecursion NamesNone (statements s n c)
      unfolding statements code_faults are_declarations
      declarations_none n (More a rest) e faults =
          all_both NamesNone (statements s n a) (statements s (n + scope_count a) rest)
          (declaration_none n a (and_first (is_declaration a) (are_declarations rest) e) (nothing_left (code_faults s.context a) (code_faults s.context rest) faults))
          (declarations_none (n + scope_count a) rest (and_second (is_declaration a) (are_declarations rest) e)
          (nothing_right (code_faults s.context a) (code_faults s.context rest) faults))
      declarations_none n NoMore e faults = tt
      declarations_none n _ e faults = absurd (false≢true e)

      part_none : (n : ℕ) (c : Code) → is_declaration c || is_body c ≡ true → code_faults s.context c ≡ [] → AllByRecursion NamesNone (statements s n c)
      unfolding statements
      part_none n (SubBody front items stmts end) e faults = tt
      part_none n (Objects ids constant i v) e faults = declaration_none n (Objects ids constant i v) refl faults
      part_none n (Numbers ids v) e faults = declaration_none n (Numbers ids v) refl faults
      part_none n (Incomplete d) e faults = tt
      part_none n (Private d) e faults = tt
      part_none n (TypeDecl d def end) e faults = tt
      part_none n (Subtype d m) e faults = tt
      part_none n (ConstrainedSubtype d m low high) e faults = tt
      part_none n (Instance d m args) e faults = tt
      part_none n (SubDecl front) e faults = tt
      part_none n NoMore e faults = tt
      part_none n _ e faults = absurd (false≢true e)

      parts_none : (n : ℕ) (c : Code) → are_parts c ≡ true → code_faults s.context c ≡ [] → AllByRecursion NamesNone (statements s n c)
      unfolding statements code_faults are_parts
      parts_none n (More a rest) e faults =
          all_both NamesNone (statements s n a) (statements s (n + scope_count a) rest)
          (part_none n a (and_first (is_declaration a || is_body a) (are_parts rest) e) (nothing_left (code_faults s.context a) (code_faults s.context rest) faults))
          (parts_none (n + scope_count a) rest (and_second (is_declaration a || is_body a) (are_parts rest) e)
          (nothing_right (code_faults s.context a) (code_faults s.context rest) faults))
      parts_none n NoMore e faults = tt
      parts_none n _ e faults = absurd (false≢true e)

    -- ---- units

    unit_none : (n : ℕ) (u : Code) → is_unit u ≡ true → code_faults (outside known) u ≡ [] → AllByRecursion NamesNone (elaborated (site_of known units) n u)
    unfolding code_faults
    unit_none n (Package d visible hidden) e faults =
        let first : Site = placed (in_visible (declared_number d)) (site_of known units) in
        let second : Site = placed (in_hidden (declared_number d)) (site_of known units) in
        all_both NamesNone (statements first n visible) (statements second (n + scope_count visible) hidden)
        (declarations_none first refl refl refl n visible (and_first (are_declarations visible) (are_declarations hidden) e)
        (nothing_left (code_faults first.context visible) (code_faults second.context hidden) faults))
        (declarations_none second refl refl refl (n + scope_count visible) hidden (and_second (are_declarations visible) (are_declarations hidden) e)
        (nothing_right (code_faults first.context visible) (code_faults second.context hidden) faults))
    unit_none n (PackageBody d parts) e faults = parts_none (placed (in_hidden (declared_number d)) (site_of known units)) refl refl refl n parts e faults
    unit_none n _ e faults = tt

    units_none : (n : ℕ) (us : List Code) → ((u : Code) → Has us u → is_unit u ≡ true) → ((u : Code) → Has us u → code_faults (outside known) u ≡ [])
        → AllByRecursion NamesNone (over_units (elaborated (site_of known units)) n us)
    units_none n [] written faults = tt
    units_none n (u ∷ us) written faults =
        all_both NamesNone (elaborated (site_of known units) n u) (over_units (elaborated (site_of known units)) (n + scope_count u) us)
        (unit_none n u (written u (inl refl)) (faults u (inl refl)))
        (units_none (n + scope_count u) us (λ v has. written v (inr has)) (λ v has. faults v (inr has)))

    -- No initial value of a package object names an object of an owning type.
    pub package_values : ((u : Code) → Has units u → is_unit u ≡ true) → ((u : Code) → Has units u → code_faults (outside known) u ≡ [])
        → names_no_owner own (elaboration (site_of known units) units).body ≡ true
    package_values written faults = list_names (over_units (elaborated (site_of known units)) 1 units) (units_none 1 units written faults)
