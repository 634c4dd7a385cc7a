-- The objects of packages are those that the first subprogram declares.
use Rattle.std.proofs.Common.{◌≡◌, refl, sym, ap, ◌∙◌, subst, ◌⊎◌, inl, inr, ℕ, zero, suc, ◌+◌, Bool, true, false, not, ◌&&◌, ◌||◌, nat_eq, List, [], ◌∷◌, ◌++◌, map, get_or, arith, Some, None}
use Rattle.std.specs.Prelude.{flat_map, is_some}
use Rattle.std.specs.List.{AllByRecursion, position_or_len}
use Rattle.std.proofs.lemmas.Bool.{eq-eqb, false≢true}
use Rattle.machine.specs.spark_base.declared.position.Pos.{Pos}
use Rattle.machine.specs.spark_base.Lists.{Has}
use Rattle.soundness.proofs.Lists.{Has-append_left, Has-append_right, Has-append_cases, Has-map}
use Rattle.machine.specs.place_names.declared.act.Mode.{Mode}
use Rattle.machine.specs.place_names.declared.act.Mode.TheVariants as mode
use Rattle.machine.specs.resolved_tree.Trees.{Code, Incomplete, Private, TypeDecl, Subtype, ConstrainedSubtype, Objects, Numbers, Instance, SubDecl, SubBody, Package, PackageBody, NoMore, More, code_items}
use Rattle.machine.specs.type_definitions.declared.table.Kind.{Kind}
use Rattle.machine.specs.type_definitions.declared.table.Kind.TheVariants as kind
use Rattle.machine.specs.type_definitions.declared.table.Entry.{Entry}
use Rattle.machine.specs.type_definitions.declared.table.Entry.TheVariants as entry
use Rattle.machine.specs.type_definitions.Entries.{entry_of}
use Rattle.machine.specs.type_definitions.Gathered.{in_visible, in_hidden, declared_number, declared_text}
use Rattle.machine.specs.typed_tree.declared.object.Object.{Object}
use Rattle.machine.specs.typed_tree.Trees.{TypedCode}
use Rattle.machine.specs.typed_tree.Expressions.{Site, object_number}
use Rattle.machine.specs.typed_tree.Statements.{scope_count, statements}
use Rattle.machine.specs.typed_tree.Programs.{DeclaredObject, Home, objects_in, object_of, formals_of, front_formals, local, in_package, package_text, kind_of, entry_kind, placed, elaborated, over_units, text_io}
use Rattle.machine.specs.flow_paths.Objects.{is_state}
use Rattle.machine.specs.flow_paths.Laid.{declared_within}
use Rattle.settled_types.specs.OrderLaws.ScopeLaws.Code.{Once}
use Rattle.settled_types.proofs.OrderLaws.ScopeLaws.Lists.{and_first, and_second, all_both, all_has}
use Rattle.settled_types.specs.OrderLaws.Written.{is_declaration, are_declarations, are_statements, is_procedure, is_body, are_parts, is_unit}
use Rattle.settled_types.proofs.OrderLaws.Numbers.{numbers, declared_in, two, one_declaration}
use Rattle.settled_types.proofs.OrderLaws.Parts.{IsPart, part_whole, part_none, part_both, part_object, number_here, number_later, number_of, same_number}
use Rattle.settled_types.proofs.OrderLaws.Parts as parts
use Rattle.settled_types.proofs.OrderLaws.Units.{IsLocal, declarations_local, statements_local, formals_local}

-- ---- objects of packages, and others

abbrev pub is_packaged : Object → Bool
is_packaged o = is_some o.«package» && not (is_state o.kind)

abbrev IsPackaged : DeclaredObject → Type 0
IsPackaged o = is_packaged o.object ≡ true

entry_plain : (e : Entry) → is_state (entry_kind e) ≡ false
entry_plain (entry.Object o) = by_kind o.kind
  where
    by_kind : (k : Kind) → is_state (kind_of k) ≡ false
    by_kind kind.Variable = refl
    by_kind kind.Constant = refl
    by_kind kind.Formal = refl
    by_kind kind.Parameter = refl
entry_plain e = refl

module _ (h : Home) (text : List ℕ) (is : h.identifier ≡ Some text) where
  one_packaged : (a : ℕ) (m : Mode) (d : Code) → IsPackaged (object_of h a m d)
  one_packaged a m d = ap (λ o. is_some o && not (is_state (entry_kind (entry_of h.known (declared_number d))))) is ∙ ap not (entry_plain (entry_of h.known (declared_number d)))

  each_packaged : (a : ℕ) (m : Mode) (ids : List Code) → AllByRecursion IsPackaged (map (object_of h a m) ids)
  each_packaged a m [] = tt
  each_packaged a m (d ∷ ids) = (one_packaged a m d, each_packaged a m ids)

or_first : (x y : Bool) → x ≡ true → x || y ≡ true
or_first true y e = refl
or_first false y e = absurd (false≢true e)

module _ (units : List Code) where
  abbrev AllLocal : List DeclaredObject → Type 0
  AllLocal os = AllByRecursion IsLocal os

  -- ---- the objects of some code, and those that it declares itself

  abbrev IsSplit : Site → List TypedCode → List DeclaredObject → Type 0
  IsSplit s cs all =
      (os : List DeclaredObject) × (declared_in s cs ≡ numbers s os) × IsPart os all × AllByRecursion IsPackaged os × ((o : DeclaredObject) → Has all o → Has os o ⊎ IsLocal o)

  split_both : (s : Site) (cs ds : List TypedCode) (all more : List DeclaredObject) → IsSplit s cs all → IsSplit s ds more → IsSplit s (cs ++ ds) (all ++ more)
  split_both s cs ds all more h g = (
    h.0 ++ g.0,
    two s cs ds h.0 g.0 h.1 g.1,
    part_both h.0 all g.0 more h.2 g.2,
    all_both IsPackaged h.0 g.0 h.3 g.3,
    λ o has. elim (Has-append_cases all more o has) [
      | inl here ↦ elim (h.4 o here) [ inl is ↦ inl (Has-append_left h.0 g.0 o is) | inr is ↦ inr is ]
      | inr later ↦ elim (g.4 o later) [ inl is ↦ inl (Has-append_right h.0 g.0 o is) | inr is ↦ inr is ]
    ],
  )

  -- nothing is declared, and all is within a subprogram
  split_none : (s : Site) (all : List DeclaredObject) → AllLocal all → IsSplit s [] all
  unfolding declared_within
  split_none s all locals = ([], refl, part_none all, tt, λ o has. inr (all_has IsLocal all o locals has))

  split_whole : (s : Site) (cs : List TypedCode) (all : List DeclaredObject) → declared_in s cs ≡ numbers s all → AllByRecursion IsPackaged all → IsSplit s cs all
  split_whole s cs all same packaged = (all, same, part_whole all, packaged, λ o has. inl has)

  body_local : (h : Home) (a n : ℕ) (front items stmts : Code) (end : Pos) → are_declarations items && are_statements false stmts ≡ true
      → AllLocal (objects_in units h a n (SubBody front items stmts end))
  unfolding objects_in
  body_local h a n front items stmts end e =
      let inner : Home = local h in
      let formals : List DeclaredObject = flat_map (formals_of inner n) (front_formals front) in
      let first : List DeclaredObject = objects_in units inner n (n + 1) items in
      let second : List DeclaredObject = objects_in units inner n (n + 1 + scope_count items) stmts in
      all_both IsLocal (formals ++ first) second
      (all_both IsLocal formals first (formals_local units inner refl n (front_formals front))
      (declarations_local units inner refl n (n + 1) items (and_first (are_declarations items) (are_statements false stmts) e)))
      (statements_local units inner refl n (n + 1 + scope_count items) false stmts (and_second (are_declarations items) (are_statements false stmts) e))

  part_split : (site : Site) (h : Home) (text : List ℕ) (a n m : ℕ) (c : Code) → h.identifier ≡ Some text → is_declaration c || is_body c ≡ true
      → IsSplit site (statements site n c) (objects_in units h a m c)
  unfolding statements objects_in declared_within
  part_split site h text a n m (SubBody front items stmts end) is e = split_none site (objects_in units h a m (SubBody front items stmts end)) (body_local h a m front items stmts end e)
  part_split site h text a n m (Objects ids constant i v) is e =
      split_whole site (statements site n (Objects ids constant i v)) (objects_in units h a m (Objects ids constant i v)) (one_declaration site units h a n m (Objects ids constant i v) refl)
      (each_packaged h text is a mode.In (code_items ids))
  part_split site h text a n m (Numbers ids v) is e =
      split_whole site (statements site n (Numbers ids v)) (objects_in units h a m (Numbers ids v)) (one_declaration site units h a n m (Numbers ids v) refl)
      (each_packaged h text is a mode.In (code_items ids))
  part_split site h text a n m (Incomplete d) is e = split_none site [] tt
  part_split site h text a n m (Private d) is e = split_none site [] tt
  part_split site h text a n m (TypeDecl d def end) is e = split_none site [] tt
  part_split site h text a n m (Subtype d mark) is e = split_none site [] tt
  part_split site h text a n m (ConstrainedSubtype d mark low high) is e = split_none site [] tt
  part_split site h text a n m (Instance d mark args) is e = split_none site [] tt
  part_split site h text a n m (SubDecl front) is e = split_none site [] tt
  part_split site h text a n m NoMore is e = split_none site [] tt
  part_split site h text a n m c is e = absurd (false≢true e)

  parts_split : (site : Site) (h : Home) (text : List ℕ) (a n m : ℕ) (c : Code) → h.identifier ≡ Some text → are_parts c ≡ true
      → IsSplit site (statements site n c) (objects_in units h a m c)
  unfolding statements objects_in are_parts
  parts_split site h text a n m (More c rest) is e =
      split_both site (statements site n c) (statements site (n + scope_count c) rest) (objects_in units h a m c) (objects_in units h a (m + scope_count c) rest)
      (part_split site h text a n m c is (and_first (is_declaration c || is_body c) (are_parts rest) e))
      (parts_split site h text a (n + scope_count c) (m + scope_count c) rest is (and_second (is_declaration c || is_body c) (are_parts rest) e))
  parts_split site h text a n m NoMore is e = split_none site [] tt
  parts_split site h text a n m c is e = absurd (false≢true e)

  list_split : (site : Site) (h : Home) (text : List ℕ) (a n m : ℕ) (c : Code) → h.identifier ≡ Some text → are_declarations c ≡ true
      → IsSplit site (statements site n c) (objects_in units h a m c)
  unfolding statements objects_in are_declarations
  list_split site h text a n m (More c rest) is e =
      split_both site (statements site n c) (statements site (n + scope_count c) rest) (objects_in units h a m c) (objects_in units h a (m + scope_count c) rest)
      (part_split site h text a n m c is (or_first (is_declaration c) (is_body c) (and_first (is_declaration c) (are_declarations rest) e)))
      (list_split site h text a (n + scope_count c) (m + scope_count c) rest is (and_second (is_declaration c) (are_declarations rest) e))
  list_split site h text a n m NoMore is e = split_none site [] tt
  list_split site h text a n m c is e = absurd (false≢true e)

  unit_split : (s : Site) (h : Home) (a n : ℕ) (u : Code) → is_unit u ≡ true → IsSplit s (elaborated s n u) (objects_in units h a n u)
  unfolding objects_in
  unit_split s h a n (Package d visible hidden) e =
      split_both s (statements (placed (in_visible (declared_number d)) s) n visible) (statements (placed (in_hidden (declared_number d)) s) (n + scope_count visible) hidden)
      (objects_in units (in_package (declared_text d) h) a n visible) (objects_in units (in_package (declared_text d) h) a (n + scope_count visible) hidden)
      (list_split (placed (in_visible (declared_number d)) s) (in_package (declared_text d) h) (declared_text d) a n n visible refl (and_first (are_declarations visible) (are_declarations hidden) e))
      (list_split (placed (in_hidden (declared_number d)) s) (in_package (declared_text d) h) (declared_text d) a (n + scope_count visible) (n + scope_count visible) hidden refl
      (and_second (are_declarations visible) (are_declarations hidden) e))
  unit_split s h a n (PackageBody d body) e =
      parts_split (placed (in_hidden (declared_number d)) s) (in_package (package_text units (declared_number d)) h) (package_text units (declared_number d)) a n n body refl e
  unit_split s h a n (SubBody front items stmts end) e =
      split_none s (objects_in units h a n (SubBody front items stmts end)) (body_local h a n front items stmts end (and_second (is_procedure front) (are_declarations items && are_statements false stmts) e))
  unit_split s h a n u e = absurd (false≢true e)

  pub units_split : (s : Site) (h : Home) (n : ℕ) (us : List Code) → ((u : Code) → Has us u → is_unit u ≡ true)
      → IsSplit s (over_units (elaborated s) n us) (over_units (objects_in units h 0) n us)
  units_split s h n [] written = split_none s [] tt
  units_split s h n (u ∷ us) written =
      split_both s (elaborated s n u) (over_units (elaborated s) (n + scope_count u) us) (objects_in units h 0 n u) (over_units (objects_in units h 0) (n + scope_count u) us)
      (unit_split s h 0 n u (written u (inl refl))) (units_split s h (n + scope_count u) us (λ v has. written v (inr has)))

-- ---- objects by their numbers

itself : (n : ℕ) → nat_eq n n ≡ true
itself n = eq-eqb n n refl

-- What has the k-th number is one of the objects.
at_number : (all : List DeclaredObject) → Once (map number_of all) → (k : ℕ) → is_packaged (get_or (map parts.object_of all) k text_io) ≡ true
    → (o : DeclaredObject) × Has all o × (get_or (map parts.object_of all) k text_io ≡ o.object) × (position_or_len (nat_eq o.number) (map number_of all) ≡ k)
at_number [] once k is = absurd (false≢true is)
at_number (o ∷ all) once zero is = (o, inl refl, refl, number_here o.number o.number (map number_of all) (itself o.number))
at_number (o ∷ all) once (suc k) is =
    let more = at_number all once.1 k is in (
      more.0,
      inr more.1,
      more.2,
      number_later (more.0).number o.number (map number_of all) (other (more.0).number (Has-map number_of all more.0 more.1)) ∙ one_more (position_or_len (nat_eq (more.0).number) (map number_of all)) k more.3,
    )
  where
    one_more : (a k : ℕ) → a ≡ k → 1 + a ≡ suc k
    one_more a k e = omega (arith, e)

    differs : (b : Bool) → (b ≡ true → ⊥) → b ≡ false
    differs true never = absurd (never refl)
    differs false never = refl

    other : (d : ℕ) → Has (map number_of all) d → nat_eq d o.number ≡ false
    other d has = differs (nat_eq d o.number) (λ same. once.0 (subst (λ z. Has (map number_of all) z) (same_number d o.number same) has))

refused : false ≡ true → ⊥
refused e = absurd (false≢true e)

module _ (units : List Code) (s : Site) (all : List DeclaredObject) (same : s.objects ≡ map number_of all) (once : Once (map number_of all)) where
  -- what the code declares, of which all is split
  module _ (cs : List TypedCode) (split : IsSplit units s cs all) where
    pub declared_package : (x : ℕ) → is_packaged (get_or (text_io ∷ map parts.object_of all) x text_io) ≡ true → Has (declared_in s cs) x
    declared_package zero is = absurd (false≢true is)
    declared_package (suc k) is =
        let found = at_number all once k is in
        let number : object_number s (found.0).number ≡ suc k =
        ap (λ xs. position_or_len (nat_eq (found.0).number) xs + 1) same ∙ ap (λ n. n + 1) found.3 ∙ more k in
        elim (split.4 found.0 found.1) [
          | inl here ↦ subst (λ z. Has (declared_in s cs) z) number
              (subst (λ xs. Has xs (object_number s (found.0).number)) (sym split.1) (Has-map (λ (o : DeclaredObject). object_number s o.number) split.0 found.0 here))
          | inr outside ↦ absurd (never (found.0).object outside (sym (ap is_packaged found.2) ∙ is))
        ]
      where
        more : (n : ℕ) → n + 1 ≡ suc n
        more n = omega arith

        never : (o : Object) → o.«package» ≡ None → is_packaged o ≡ true → ⊥
        never o none is = refused (sym (ap (λ z. is_some z && not (is_state o.kind)) none) ∙ is)

    pub package_declared : (x : ℕ) → Has (declared_in s cs) x → is_packaged (get_or (text_io ∷ map parts.object_of all) x text_io) ≡ true
    package_declared x has =
        let found = part_object s all same once split.0 split.2 x (subst (λ xs. Has xs x) split.1 has) in
        ap is_packaged found.2 ∙ all_has IsPackaged split.0 found.0 split.3 found.1
