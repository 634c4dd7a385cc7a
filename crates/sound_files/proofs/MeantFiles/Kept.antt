-- The table after a turn says of anonymous access types what they are where they are declared.
use Rattle.std.proofs.Common.{◌≡◌, ◌⊎◌, inl, inr, ℕ, suc, ◌<◌, ◌≤◌, Bool, true, false, List, [], ◌∷◌, ◌++◌, flat_map, set, length, refl, sym, ap, ◌∙◌, arith, subst, Some, None, if◌then◌else◌}
use Rattle.std.specs.Prelude.{slice_get}
use Rattle.machine.specs.spark_base.Lists.{Has}
use Rattle.soundness.proofs.Lists.{Has-append_cases}
use Rattle.machine.specs.resolved_tree.Trees.{More, Code, Anonymous, Objects, Formals, Front, SubDecl, SubBody, Package, PackageBody, If, Branch, Case, When, Loop, While, For, Block}
use Rattle.name_events.specs.declared.declaration.DeclarationForm.{DeclarationForm}
use Rattle.name_events.specs.declared.declaration.DeclarationForm.TheVariants as form
use Rattle.name_events.specs.declared.declaration.DeclKind.{DeclKind}
use Rattle.name_events.specs.Denotes.{kind_of}
use Rattle.machine.specs.type_definitions.declared.table.InitialValue.{InitialValue}
use Rattle.machine.specs.type_definitions.declared.table.Info.{Info}
use Rattle.machine.specs.type_definitions.declared.table.Shape.TheVariants as shape
use Rattle.machine.specs.type_definitions.declared.table.Kind.TheVariants as kind
use Rattle.machine.specs.type_definitions.declared.table.Entry.{Entry}
use Rattle.machine.specs.type_definitions.declared.table.Entry.TheVariants as entry
use Rattle.machine.specs.type_definitions.Types.{Table}
use Rattle.machine.specs.type_definitions.Entries.{entry_of, marked}
use Rattle.machine.specs.type_definitions.Names.{Context}
use Rattle.machine.specs.type_definitions.Gathered.{gather, each, with_entry, with_indication, own_info, with_object, constant_value, with_formal, with_formal_group, with_formals, with_result, with_front, with_body_front, is_subprogram, front_number, plain_object, parameter_type, in_subprogram, in_visible, in_hidden, declared_number}
use Rattle.machine.specs.type_definitions.Whole.{gather_units}
use Rattle.settled_types.specs.SteadyTypes.Alike.{outlined}
use Rattle.settled_types.specs.SteadyTypes.Kept.{IsKeptAt, AreKeptAt, AreKeptNames, IsKeptGroup, AreKeptGroups, IsKeptResult, IsKeptFront, AreKeptFormals, IsKeptBodyAs, IsKeptBody, IsKept, AreKept}
use Rattle.sound_files.specs.MeantFiles.Declarations.{Declarations, each_as, group_declarations, formal_declarations, front_declarations, body_form, declarations}
use Rattle.sound_files.proofs.MeantFiles.Lists.{row_there, row_within, append_nothing}
use Rattle.sound_files.proofs.MeantFiles.Given.{counts_grow, kind_class, Given, Goes, goes_both, first_placed, all_given, body_class, body_given}
use Rattle.sound_files.proofs.MeantFiles.Stays.{Without}
use Rattle.sound_files.proofs.MeantFiles.Rows.{objects_stay, names_stay, groups_stay, row_kept, row_stays}
use Rattle.sound_files.proofs.MeantFiles.Types.{other_kind, calm, alone, object_form, more_given}

module _ (kind_at : ℕ → DeclKind) (limit : ℕ) (T : Table) (long : limit ≤ length T) where
  -- Objects have anonymous access types, and so have functions.
  abbrev HasView : ℕ → Type 0
  HasView n = (kind_class (kind_at n) ≡ 1) ⊎ (kind_class (kind_at n) ≡ 2)

  -- Their rows up to here are those of the table.
  abbrev Rows : ℕ → Context → Type 0
  Rows j c = (n : ℕ) → 15 ≤ n → n < j → HasView n → slice_get T n ≡ slice_get c.known.table n

  rows_before : (y : Code) (c : Context) (m j : ℕ) → Goes kind_at limit m (declarations y) j → Given kind_at limit c.known.entries m → Rows j (gather y c) → Rows m c
  rows_before y c m j goes given rows n high less view =
      rows n high (let a = counts_grow m (declarations y) j goes.0 in omega (arith, a, less)) view ∙ elim view [
        | inl object ↦ row_stays n y c (alone kind_at limit m (declarations y) j n goes less object)
        | inr sub ↦
            row_kept n (entry_of c.known n) y c
            (calm kind_at limit m (declarations y) j n (entry_of c.known n) goes less (other_kind kind_at limit (kind_at n) 1 sub) (given.right n high) (given.covered n high less)) refl
      ]

  kept_at : (i : Code) (n : ℕ) (c : Context) → n < length T → slice_get T n ≡ slice_get (with_indication n i c).known.table n → IsKeptAt T n i c
  kept_at (Anonymous p constant m) n c less same = by (row_there c.known.table n row)
    where
      row : Info
      row = own_info (shape.Access (marked c.known m) constant false) n

      by : (slice_get (set c.known.table n row) n ≡ Some row) ⊎ (slice_get (set c.known.table n row) n ≡ None)
          → outlined (slice_get T n) ≡ Some (shape.Access (marked c.known m) constant false, n, None)
      by (inl there) = ap outlined (same ∙ there)
      by (inr none) = absurd (row_within T n less (same ∙ none))
  kept_at i n c less same = tt

  objects_kept : (constant : Bool) (i : Code) (v : InitialValue) (ids : Code) (c : Context) (k j : ℕ) → Goes kind_at limit k (each_as form.Object ids) j
      → Rows j (each (with_object constant i v) ids c) → AreKeptAt T constant i v ids c
  objects_kept constant i v (More d rest) c k j goes rows =
      let n : ℕ = declared_number d in
      let L : Declarations = each_as form.Object rest in
      let next : Context = with_object constant i v d c in
      let f = object_form kind_at limit k n L j form.Object refl goes in
      let at = f.0 in
      let grows = f.3 in
      let within = goes.3 in
      let high = goes.2 in
      let object : kind_class (kind_at n) ≡ 1 = ap kind_class (sym f.2) in
      let stay = objects_stay n constant i v rest next (alone kind_at limit (suc k) L j n f.1 (omega (arith, at)) object) in (
        kept_at i n c (omega (arith, at, grows, within, long)) (rows n (omega (arith, at, high)) (omega (arith, at, grows)) (inl object) ∙ stay),
        objects_kept constant i v rest next (suc k) j f.1 rows,
      )
  objects_kept constant i v ids c k j goes rows = tt

  -- ---- fronts

  names_kept : (of names : Code) (c : Context) (k j : ℕ) → Goes kind_at limit k (each_as form.Formal names) j → Rows j (each (with_formal of) names c) → AreKeptNames T of names c
  names_kept of (More d rest) c k j goes rows =
      let n : ℕ = declared_number d in
      let L : Declarations = each_as form.Formal rest in
      let next : Context = with_formal of d c in
      let f = object_form kind_at limit k n L j form.Formal refl goes in
      let at = f.0 in
      let grows = f.3 in
      let within = goes.3 in
      let high = goes.2 in
      let object : kind_class (kind_at n) ≡ 1 = ap kind_class (sym f.2) in
      let stay = names_stay n of rest next (alone kind_at limit (suc k) L j n f.1 (omega (arith, at)) object) in (
        kept_at of n c (omega (arith, at, grows, within, long)) (rows n (omega (arith, at, high)) (omega (arith, at, grows)) (inl object) ∙ stay),
        names_kept of rest next (suc k) j f.1 rows,
      )
  names_kept of names c k j goes rows = tt

  group_kept : (group : Code) (c : Context) (k j : ℕ) → Goes kind_at limit k (group_declarations group) j → Rows j (with_formal_group group c) → IsKeptGroup T group c
  group_kept (Formals names m of) c k j goes rows = names_kept of names c k j goes rows
  group_kept group c k j goes rows = tt

  -- formals are declared as formals
  each_form : (new : DeclarationForm) (ids : Code) (made : DeclarationForm) (n : ℕ) → Has (each_as new ids) (made, n) → made ≡ new
  each_form new (More d rest) made n (inl same) = ap (λ (x : DeclarationForm × ℕ). x.0) (sym same)
  each_form new (More d rest) made n (inr has) = each_form new rest made n has
  each_form new ids made n has = absurd has

  group_form : (group : Code) (made : DeclarationForm) (n : ℕ) → Has (group_declarations group) (made, n) → made ≡ form.Formal
  group_form (Formals names m of) made n has = each_form form.Formal names made n has
  group_form group made n has = absurd has

  formal_form : (formals : Code) (made : DeclarationForm) (n : ℕ) → Has (formal_declarations formals) (made, n) → made ≡ form.Formal
  formal_form (More group rest) made n has = elim (Has-append_cases (group_declarations group) (formal_declarations rest) (made, n) has) [
    | inl here ↦ group_form group made n here
    | inr more ↦ formal_form rest made n more
  ]
  formal_form formals made n has = absurd has

  no_formal : (formals : Code) (k j n : ℕ) → Goes kind_at limit k (formal_declarations formals) j → kind_class (kind_at n) ≡ 2 → Without n (formal_declarations formals)
  no_formal formals k j n goes sub new has =
      let one : kind_class (kind_of new) ≡ 1 = ap (λ x. kind_class (kind_of x)) (formal_form formals new n has) in
      let two : kind_class (kind_of new) ≡ 2 = ap kind_class (goes.1 new n has) ∙ sub in
      absurd (omega (arith, one, two))

  groups_kept : (formals : Code) (c : Context) (k j : ℕ) → Goes kind_at limit k (formal_declarations formals) j → Rows j (each with_formal_group formals c) → AreKeptGroups T formals c
  groups_kept (More group rest) c k j goes rows =
      let next : Context = with_formal_group group c in
      let s = goes_both kind_at limit k (group_declarations group) (formal_declarations rest) j goes in
      let grows = counts_grow s.0 (formal_declarations rest) j s.2.0 in
      let here : Rows s.0 next = λ n high less view. rows n high (omega (arith, less, grows)) view ∙ groups_stay n rest next (elim view [
        | inl object ↦ alone kind_at limit s.0 (formal_declarations rest) j n s.2 less object
        | inr sub ↦ no_formal rest s.0 j n s.2 sub
      ]) in
      (group_kept group c k s.0 s.1 here, groups_kept rest next s.0 j s.2 rows)
  groups_kept formals c k j goes rows = tt

  result_kept : (n : ℕ) (result : Code) (c : Context) → n < length T → slice_get T n ≡ slice_get (with_result n result c).known.table n → IsKeptResult T n result c
  result_kept n (More i rest) c less same = kept_at i n c less same
  result_kept n result c less same = tt

  front_kept : (new : DeclarationForm) (front : Code) (c : Context) (k j : ℕ) → kind_class (kind_of new) ≡ 2
      → Goes kind_at limit k ((new, front_number front) ∷ front_declarations front) j → Rows j (with_front front c) → IsKeptFront T front c
  front_kept new (Front d formals result) c k j class goes rows =
      let n : ℕ = declared_number d in
      let inner : Context = with_result n result c in
      let f = first_placed kind_at limit k new n (formal_declarations formals) j goes in
      let high = goes.2 in
      let within = goes.3 in
      let grows = counts_grow f.0 (formal_declarations formals) j f.2.0 in
      let sub : kind_class (kind_at n) ≡ 2 = ap kind_class (sym f.3) ∙ class in
      let low : 15 ≤ n = elim f.1 [ inl next ↦ (let a = next.0 in omega (arith, a, high)) | inr old ↦ old.0 ] in
      let less : n < f.0 = elim f.1 [
        | inl next ↦ (let a = next.0 in let b = next.1 in omega (arith, a, b))
        | inr old ↦ (let a = old.1 in let b = old.2 in omega (arith, a, b))
      ] in (
        result_kept n result c (omega (arith, less, grows, within, long))
            (rows n low (omega (arith, less, grows)) (inr sub) ∙ groups_stay n formals inner (no_formal formals f.0 j n f.2 sub)),
        groups_kept formals inner f.0 j f.2 rows,
      )
  front_kept new front c k j class goes rows = tt

  formals_kept : (new : DeclarationForm) (front : Code) (c : Context) (k j : ℕ) → Goes kind_at limit k ((new, front_number front) ∷ front_declarations front) j
      → Rows j (with_formals front c) → AreKeptFormals T front c
  formals_kept new (Front d formals result) c k j goes rows =
      let f = first_placed kind_at limit k new (declared_number d) (formal_declarations formals) j goes in
      groups_kept formals c f.0 j f.2 rows
  formals_kept new front c k j goes rows = tt

  body_kept : (front : Code) (c : Context) (k j : ℕ) → Goes kind_at limit k ((body_form front, front_number front) ∷ front_declarations front) j
      → Rows j (with_body_front front c) → IsKeptBody T front c
  body_kept front c k j goes rows = by (is_subprogram (entry_of c.known (front_number front))) rows
    where
      by : (b : Bool) → Rows j (if b then with_formals front c else with_front front c) → IsKeptBodyAs b T front c
      by true rows = formals_kept (body_form front) front c k j goes rows
      by false rows = front_kept (body_form front) front c k j (body_class kind_at limit front) goes rows

  -- what a body's front leaves to its declarations and statements
  front_left : (front : Code) (c : Context) (k j : ℕ) → Goes kind_at limit k ((body_form front, front_number front) ∷ front_declarations front) j
      → Given kind_at limit c.known.entries k → Given kind_at limit (with_body_front front c).known.entries j
  front_left front c k j goes given =
      let g = body_given kind_at limit front c k [] j
      (subst (λ L. Goes kind_at limit k ((body_form front, front_number front) ∷ L) j) (sym (append_nothing (front_declarations front))) goes) given in
      subst (λ m. Given kind_at limit (with_body_front front c).known.entries m) g.1.0 g.2

  code_kept : (code : Code) (c : Context) (k j : ℕ) → Goes kind_at limit k (declarations code) j → Given kind_at limit c.known.entries k → Rows j (gather code c) → IsKept T code c
  unfolding gather IsKept
  code_kept (Objects ids constant i v) c k j goes given rows = objects_kept constant i (constant_value c constant v) ids c k j goes rows
  code_kept (SubDecl front) c k j goes given rows = front_kept form.SubprogramDeclaration front c k j refl goes rows
  code_kept (SubBody front items stmts end) c k j goes given rows =
      let F : Declarations = (body_form front, front_number front) ∷ front_declarations front in
      let I : Declarations = declarations items in
      let S : Declarations = declarations stmts in
      let inner : Context = in_subprogram front (with_body_front front c) in
      let f = goes_both kind_at limit k F (I ++ S) j goes in
      let now : Given kind_at limit inner.known.entries f.0 = front_left front c k f.0 f.1 given in
      let s = goes_both kind_at limit f.0 I S j f.2 in
      let middle = all_given kind_at limit items inner f.0 s.0 s.1 now in
      let late : Rows s.0 (gather items inner) = rows_before stmts (gather items inner) s.0 j s.2 middle rows in (
        body_kept front c k f.0 f.1 (rows_before items inner f.0 s.0 s.1 now late),
        code_kept items inner f.0 s.0 s.1 now late,
        code_kept stmts (gather items inner) s.0 j s.2 middle rows,
      )
  code_kept (Package d visible hidden) c k j goes given rows =
      let n : ℕ = declared_number d in
      let start : Context = in_visible n (with_entry n entry.Package c) in
      let second : Context = in_hidden n (gather visible start) in
      let L : Declarations = declarations visible ++ declarations hidden in
      let f = object_form kind_at limit k n L j form.Package refl goes in
      let now = more_given kind_at limit form.Package n k j L entry.Package c.known.entries goes refl refl refl given in
      let s = goes_both kind_at limit (suc k) (declarations visible) (declarations hidden) j f.1 in
      let middle = all_given kind_at limit visible start (suc k) s.0 s.1 now in (
        code_kept visible start (suc k) s.0 s.1 now (rows_before hidden second s.0 j s.2 middle rows),
        code_kept hidden second s.0 j s.2 middle rows,
      )
  code_kept (PackageBody d parts) c k j goes given rows = code_kept parts (in_hidden (declared_number d) c) k j goes given rows
  code_kept (If p x y) c k j goes given rows =
      let s = goes_both kind_at limit k (declarations x) (declarations y) j goes in
      let middle = all_given kind_at limit x c k s.0 s.1 given in
      (code_kept x c k s.0 s.1 given (rows_before y (gather x c) s.0 j s.2 middle rows), code_kept y (gather x c) s.0 j s.2 middle rows)
  code_kept (Branch p e x) c k j goes given rows = code_kept x c k j goes given rows
  code_kept (Case p e x) c k j goes given rows = code_kept x c k j goes given rows
  code_kept (When choices x) c k j goes given rows = code_kept x c k j goes given rows
  code_kept (Loop p x) c k j goes given rows = code_kept x c k j goes given rows
  code_kept (While p e x) c k j goes given rows = code_kept x c k j goes given rows
  code_kept (For p d reversed range x) c k j goes given rows =
      let n : ℕ = declared_number d in
      let o : Entry = entry.Object (plain_object (parameter_type c range) kind.Parameter) in
      let f = object_form kind_at limit k n (declarations x) j form.LoopParameter refl goes in
      code_kept x (with_entry n o c) (suc k) j f.1 (more_given kind_at limit form.LoopParameter n k j (declarations x) o c.known.entries goes refl refl refl given) rows
  code_kept (Block p x y end) c k j goes given rows =
      let s = goes_both kind_at limit k (declarations x) (declarations y) j goes in
      let middle = all_given kind_at limit x c k s.0 s.1 given in
      (code_kept x c k s.0 s.1 given (rows_before y (gather x c) s.0 j s.2 middle rows), code_kept y (gather x c) s.0 j s.2 middle rows)
  code_kept (More x y) c k j goes given rows =
      let s = goes_both kind_at limit k (declarations x) (declarations y) j goes in
      let middle = all_given kind_at limit x c k s.0 s.1 given in
      (code_kept x c k s.0 s.1 given (rows_before y (gather x c) s.0 j s.2 middle rows), code_kept y (gather x c) s.0 j s.2 middle rows)
  code_kept code c k j goes given rows = tt

  units_before : (units : List Code) (c : Context) (m j : ℕ) → Goes kind_at limit m (flat_map declarations units) j → Given kind_at limit c.known.entries m
      → Rows j (gather_units units c) → Rows m c
  units_before [] c m j goes given rows n high less view = rows n high (let a = goes.0 in omega (arith, a, less)) view
  units_before (u ∷ rest) c m j goes given rows n high less view =
      let s = goes_both kind_at limit m (declarations u) (flat_map declarations rest) j goes in
      rows_before u c m s.0 s.1 given (units_before rest (gather u c) s.0 j s.2 (all_given kind_at limit u c m s.0 s.1 given) rows) n high less view

  pub units_kept : (units : List Code) (c : Context) (k j : ℕ) → Goes kind_at limit k (flat_map declarations units) j → Given kind_at limit c.known.entries k
      → Rows j (gather_units units c) → AreKept T units c
  units_kept [] c k j goes given rows = tt
  units_kept (u ∷ rest) c k j goes given rows =
      let s = goes_both kind_at limit k (declarations u) (flat_map declarations rest) j goes in
      let middle = all_given kind_at limit u c k s.0 s.1 given in
      (code_kept u c k s.0 s.1 given (units_before rest (gather u c) s.0 j s.2 middle rows), units_kept rest (gather u c) s.0 j s.2 middle rows)
