-- The code of items is in order.
use Rattle.std.proofs.Common.{◌≡◌, ◌⊎◌, inl, inr, ℕ, ◌<◌, Bool, true, false, List, [], ◌∷◌, ◌++◌, map, refl, sym, ap, ◌∙◌, Option, Some, None, is_some, true≢false, subst, if◌then◌else◌}
use Rattle.std.specs.List.{flat_map}
use Rattle.machine.specs.spark_base.declared.position.Pos.{Pos}
use Rattle.machine.specs.spark_base.Lists.{Has}
use Rattle.ada_tree.specs.declared.identifier.Identifier.{Identifier}
use Rattle.ada_tree.specs.declared.identifier.NextIdentifier.{NextIdentifier}
use Rattle.ada_tree.specs.declared.identifier.NextIdentifier.TheVariants as next_id
use Rattle.ada_tree.specs.declared.declaration.Component.{Component}
use Rattle.ada_tree.specs.declared.declaration.Component.TheVariants as component
use Rattle.ada_tree.specs.declared.declaration.Indication.{Indication}
use Rattle.ada_tree.specs.declared.declaration.Indication.TheVariants as indication
use Rattle.ada_tree.specs.declared.declaration.Item.{Item}
use Rattle.ada_tree.specs.declared.declaration.Item.TheVariants as item
use Rattle.machine.specs.resolved_tree.Trees.{Code, code_list}
use Rattle.machine.specs.resolved_tree.Trees as t
use Rattle.name_events.specs.declared.event.Event.{Event}
use Rattle.name_events.specs.declared.event.Event.TheVariants as e
use Rattle.name_events.specs.declared.event.Clause.TheVariants as clause
use Rattle.name_events.specs.declared.event.FoldedIdentifier.{FoldedIdentifier}
use Rattle.name_events.specs.declared.declaration.DeclarationForm.{DeclarationForm}
use Rattle.name_events.specs.declared.declaration.DeclarationForm.TheVariants as form
use Rattle.name_events.specs.declared.declaration.RegionPart.TheVariants as part
use Rattle.name_events.specs.declared.declaration.Declaration.{Declaration}
use Rattle.name_events.specs.ExpressionOutline.{folded_identifier, next_name, declares, declares_all, mention, arg_events, next_arg_events, expr_events, range_events}
use Rattle.name_events.specs.Outline.{indication_events, component_events, item_events, type_events, subtype_events}
use Rattle.name_events.specs.Known.{Known, here, part_here}
use Rattle.name_events.specs.Completions.{completed_by}
use Rattle.name_events.specs.KnownBehind.{known_behind, known_behind_all, behind_declaration}
use Rattle.name_events.specs.Identified.{number_declared, completed_or_next}
use Rattle.expression_lowering.specs.LoweredExpressions.{Numbers, number_of, mark_of, lowered_expr, lowered_range, lowered_args}
use Rattle.tree_lowering.specs.Lowered.{declared, declared_next, declared_all, lowered_component, lowered_indication, lowered_subtype, lowered_type, lowered_declaration}
use Rattle.settled_types.specs.Orderly.{Past, with_incomplete, with_private, with_defined, definition_marks, past_after, IsNew, AllNew, NewLiterals, Completes, Orderly}
use Rattle.settled_types.specs.OrderlyFiles.Regions.{AreRegions, AreTypes, HasPrivates}
use Rattle.settled_types.specs.OrderlyFiles.Numbered.{AreNumbered, are_mild, AreNewAt}
use Rattle.settled_types.specs.OrderlyFiles.Ended.{IsLast, AreEnded}
use Rattle.settled_types.proofs.OrderlyFiles.Steps.{completes_nothing, regions_behind, types_later, privates_later}
use Rattle.settled_types.proofs.OrderlyFiles.Declares.{IsAware, next_number, next_new, awaited_types, awaited_privates, defined_types, defined_privates, completed_types, completed_privates, completes_now, quiet_all, new_all, new_both, flat_all}
use Rattle.settled_types.proofs.OrderlyFiles.Mentions.{mild_both, mild_quiet, mild_flat, mild_each, expr_mild, range_mild, arg_mild, next_arg_mild}

-- ---- one declaration of a type

-- What it does to what is known, where it has this number.
abbrev Leaves : Known → Past → Known → Past → Type 0
Leaves now past after past_then =
    AreTypes after past_then
    × ((region : ℕ) → (past.in_package ≡ true) ⊎ ((here now ≡ region → ⊥) ⊎ (part_here now ≡ part.Visible → ⊥)) → HasPrivates now past region
    → HasPrivates after past_then region)

module _ (count : ℕ) (now : Known) (past : Past) (id : FoldedIdentifier) (regions : AreRegions now) (are : AreTypes now past) where
  -- a declaration that completes none
  fresh : (new : DeclarationForm) (P : ℕ → Known → Type 0) → completed_by now new id.name ≡ None
      → (next_number now < count → P (next_number now) (behind_declaration now new id None)) → number_declared now new id.name < count
      → P (number_declared now new id.name) (behind_declaration now new id (completed_by now new id.name))
  fresh new P none holds less =
      subst (λ o. completed_or_next now o < count → P (completed_or_next now o) (behind_declaration now new id o)) (sym none) holds less

  pub incomplete_leaves : number_declared now form.IncompleteType id.name < count
      → IsNew count (number_declared now form.IncompleteType id.name) past
      × Leaves now past (known_behind now (e.Declares form.IncompleteType id)) (with_incomplete (number_declared now form.IncompleteType id.name) past)
  unfolding known_behind
  incomplete_leaves less =
      fresh form.IncompleteType (λ d after. IsNew count d past × Leaves now past after (with_incomplete d past))
      (completes_nothing now form.IncompleteType id.name refl) (λ less. (
        next_new count now past regions are less,
        (
          awaited_types now past form.IncompleteType id regions are refl past.private (next_number now ∷ past.incomplete) (λ d is. inr is)
              (λ same. inl refl),
          λ region ok has.
              awaited_privates now past form.IncompleteType id regions are refl past.private (next_number now ∷ past.incomplete) region (λ d is. is)
              (λ same. absurd (other same)) has,
        ),
      )) less
    where
      other : form.IncompleteType ≡ form.PrivateType → ⊥
      other same = cc

  private_now : (in_package : Bool) (region : ℕ) → (in_package ≡ true) ⊎ ((here now ≡ region → ⊥) ⊎ (part_here now ≡ part.Visible → ⊥))
      → Has (if in_package then next_number now ∷ past.private else past.private) (next_number now)
      ⊎ ((here now ≡ region → ⊥) ⊎ (part_here now ≡ part.Visible → ⊥))
  private_now true region ok = inl (inl refl)
  private_now false region (inl is) = absurd (true≢false (sym is))
  private_now false region (inr other) = inr other

  private_more : (in_package : Bool) (d : ℕ) → Has past.private d → Has (if in_package then next_number now ∷ past.private else past.private) d
  private_more true d is = inr is
  private_more false d is = is

  pub private_leaves : number_declared now form.PrivateType id.name < count
      → IsNew count (number_declared now form.PrivateType id.name) past
      × Leaves now past (known_behind now (e.Declares form.PrivateType id)) (with_private (number_declared now form.PrivateType id.name) past)
  unfolding known_behind
  private_leaves less =
      let privates : List ℕ = if past.in_package then next_number now ∷ past.private else past.private in
      fresh form.PrivateType (λ d after. IsNew count d past × Leaves now past after (with_private d past))
      (completes_nothing now form.PrivateType id.name refl) (λ less. (
        next_new count now past regions are less,
        (
          awaited_types now past form.PrivateType id regions are refl privates past.incomplete (λ d is. is) (λ same. absurd (other same)),
          λ region ok has.
              awaited_privates now past form.PrivateType id regions are refl privates past.incomplete region (private_more past.in_package)
              (λ same. private_now past.in_package region ok) has,
        ),
      )) less
    where
      other : form.PrivateType ≡ form.IncompleteType → ⊥
      other same = cc

  pub subtype_leaves : (marks : List Pos) → number_declared now form.Subtype id.name < count
      → IsNew count (number_declared now form.Subtype id.name) past
      × Leaves now past (known_behind now (e.Declares form.Subtype id)) (with_defined (number_declared now form.Subtype id.name) marks past)
  unfolding known_behind
  subtype_leaves marks less =
      fresh form.Subtype (λ d after. IsNew count d past × Leaves now past after (with_defined d marks past))
      (completes_nothing now form.Subtype id.name refl) (λ less. (
        next_new count now past regions are less,
        (
          defined_types now past form.Subtype id regions are refl marks (λ same. incomplete same),
          λ region ok has. defined_privates now past form.Subtype id regions are refl marks region (λ same. private same) has,
        ),
      )) less
    where
      incomplete : form.Subtype ≡ form.IncompleteType → ⊥
      incomplete same = cc

      private : form.Subtype ≡ form.PrivateType → ⊥
      private same = cc

  pub full_leaves : (end : Pos) (marks : List Pos) → IsAware now past → IsLast end marks → number_declared now form.FullType id.name < count
      → Completes count end marks (number_declared now form.FullType id.name) past
      × Leaves now past (known_behind now (e.Declares form.FullType id)) (with_defined (number_declared now form.FullType id.name) marks past)
  unfolding known_behind
  full_leaves end marks aware last less = by (completed_by now form.FullType id.name) refl less
    where
      incomplete : form.FullType ≡ form.IncompleteType → ⊥
      incomplete same = cc

      private : form.FullType ≡ form.PrivateType → ⊥
      private same = cc

      by : (o : Option Declaration) → completed_by now form.FullType id.name ≡ o → completed_or_next now o < count
          → Completes count end marks (completed_or_next now o) past
          × Leaves now past (behind_declaration now form.FullType id o) (with_defined (completed_or_next now o) marks past)
      by None at less =
          let new = next_new count now past regions are less in (
            (new.0, new.1, inl new),
            (
              defined_types now past form.FullType id regions are refl marks (λ same. incomplete same),
              λ region ok has. defined_privates now past form.FullType id regions are refl marks region (λ same. private same) has,
            ),
          )
      by (Some d) at less = (
        completes_now now past id d regions are at count end marks less aware last,
        (
          completed_types now past id d regions are at marks,
          λ region ok has. completed_privates now past id d regions are at marks region has,
        ),
      )

-- ---- results

pub record IsResult (count : ℕ) (now : Known) (past : Past) (code : Code) (events : List Event) : Type 0 where
  pub orderly : Orderly count past code
  pub regions : AreRegions (known_behind_all now events)
  pub types : AreTypes (known_behind_all now events) (past_after code past)
  pub around : (known_behind_all now events).open_regions ≡ now.open_regions
  pub privates : (region : ℕ) → (past.in_package ≡ true) ⊎ ((here now ≡ region → ⊥) ⊎ (part_here now ≡ part.Visible → ⊥)) → HasPrivates now past region
      → HasPrivates (known_behind_all now events) (past_after code past) region
  pub same_package : (past_after code past).in_package ≡ past.in_package

-- A clause or a pragma.
abbrev pub is_clause : Item → Bool
is_clause (item.Use pos c) = true
is_clause (item.Pragma pos c) = true
is_clause _ = false

module _ (count : ℕ) (numbers : Numbers) where
  -- What changes nothing in the past.
  quiet_result : (now : Known) (past : Past) (code : Code) (events : List Event) → are_mild events ≡ true → past ≡ past_after code past
      → (AreNewAt count numbers past events → Orderly count past code) → AreRegions now → AreTypes now past → AreNumbered count numbers now events
      → IsResult count now past code events
  quiet_result now past code events mild same orderly regions are numbered =
      let quiet = mild_quiet events mild in
      let q = quiet_all events now quiet regions in
      let after : Known = known_behind_all now events in record {
        orderly = orderly (new_all count numbers events now past quiet regions are numbered);
        regions = q.0;
        types = subst (AreTypes after) same (types_later now after past q.1 are);
        around = flat_all events now (mild_flat events mild);
        privates = λ region ok has. subst (λ p. HasPrivates after p region) same (privates_later now after past region q.1 has);
        same_package = ap (λ p. p.in_package) (sym same);
      }

  -- One that declares a type, and then declares no other one.
  type_result : (now : Known) (past : Past) (code : Code) (event : Event) (events : List Event) → AreRegions (known_behind now event)
      → Leaves now past (known_behind now event) (past_after code past) → (past_after code past).in_package ≡ past.in_package
      → (known_behind now event).open_regions ≡ now.open_regions → are_mild events ≡ true
      → (AreNewAt count numbers (past_after code past) events → Orderly count past code) → AreNumbered count numbers (known_behind now event) events
      → IsResult count now past code (event ∷ events)
  type_result now past code event events regions leaves same flat mild orderly numbered =
      let middle : Known = known_behind now event in
      let quiet = mild_quiet events mild in
      let q = quiet_all events middle quiet regions in
      let after : Known = known_behind_all middle events in record {
        orderly = orderly (new_all count numbers events middle (past_after code past) quiet regions leaves.0 numbered);
        regions = q.0;
        types = types_later middle after (past_after code past) q.1 leaves.0;
        around = flat_all events middle (mild_flat events mild) ∙ flat;
        privates = λ region ok has. privates_later middle after (past_after code past) region q.1 (leaves.1 region ok has);
        same_package = same;
      }

  -- ---- lists of identifiers

  pub new_names : (past : Past) (new : DeclarationForm) (first : Identifier) (rest : List NextIdentifier)
      → AreNewAt count numbers past (declares_all new first rest) → AllNew count (declared_all numbers first rest) past
  unfolding next_name declared_next
  new_names past new first rest are = (are.0, more rest are.1)
    where
      more : (rest : List NextIdentifier) → AreNewAt count numbers past (map (declares new) (map next_name rest))
          → AllNew count (code_list (map (declared_next numbers) rest)) past
      more [] are = tt
      more (next_id.FurtherIdentifier pos id ∷ rest) are = (are.0, more rest are.1)

  pub names_mild : (new : DeclarationForm) (first : Identifier) (rest : List NextIdentifier) → ((id : FoldedIdentifier) → are_mild (e.Declares new id ∷ []) ≡ true)
      → are_mild (declares_all new first rest) ≡ true
  names_mild new first rest one = each (first ∷ map next_name rest)
    where
      each : (ids : List Identifier) → are_mild (map (declares new) ids) ≡ true
      each [] = refl
      each (id ∷ rest) = mild_both (declares new id ∷ []) (map (declares new) rest) (one (folded_identifier id)) (each rest)

  pub indication_mild : (i : Indication) → are_mild (indication_events i) ≡ true
  unfolding indication_events
  indication_mild (indication.Mark pos mark) = refl
  indication_mild (indication.Anonymous pos access_constant designated) = refl

  component_mild : (c : Component) → are_mild (component_events c) ≡ true
  unfolding component_events
  component_mild (component.Fields pos first rest colon mark semicolon) =
      mild_both (map (λ id. e.DeclaresComponent (folded_identifier id)) (first ∷ map next_name rest)) (mention clause.Elsewhere mark ∷ [])
      (each (first ∷ map next_name rest)) refl
    where
      each : (ids : List Identifier) → are_mild (map (λ id. e.DeclaresComponent (folded_identifier id)) ids) ≡ true
      each [] = refl
      each (id ∷ rest) = each rest

  -- ---- items

  -- The number of an identifier that is declared is the one at its position.
  numbered_first : (P : ℕ → Type 0) (now : Known) (new : DeclarationForm) (id : Identifier)
      → (number_of numbers id ≡ number_declared now new (folded_identifier id).name) × (number_declared now new (folded_identifier id).name < count)
      → (number_declared now new (folded_identifier id).name < count → P (number_declared now new (folded_identifier id).name)) → P (number_of numbers id)
  numbered_first P now new id at holds = subst P (sym at.0) (holds at.1)

  subtype_result : (i : Item) (now : Known) (past : Past) → AreRegions now → AreTypes now past → AreNumbered count numbers now (subtype_events i)
      → AreEnded past (lowered_subtype numbers i) → IsResult count now past (lowered_subtype numbers i) (subtype_events i)
  unfolding lowered_subtype subtype_events Orderly past_after known_behind
  subtype_result (item.Subtype pos id is mark semicolon) now past regions are numbered ended =
      let event : Event = declares form.Subtype id in
      let marks : List Pos = (mark_of numbers mark).pos ∷ past.marks in
      let l = numbered_first (λ d. IsNew count d past × Leaves now past (known_behind now event) (with_defined d marks past)) now form.Subtype id numbered.0
      (subtype_leaves count now past (folded_identifier id) regions are marks) in
      type_result now past (t.Subtype (declared numbers id) (mark_of numbers mark)) event (mention clause.Elsewhere mark ∷ (e.DeclarationsEnd ∷ []))
      (regions_behind now event refl regions) l.1 refl (flat now id) refl (λ new. l.0) numbered.1
    where
      flat : (now : Known) (id : Identifier) → (known_behind now (declares form.Subtype id)).open_regions ≡ now.open_regions
      flat now id = flat_all (declares form.Subtype id ∷ []) now refl
  subtype_result (item.ConstrainedSubtype pos id is mark of_range low dots high semicolon) now past regions are numbered ended =
      let event : Event = declares form.Subtype id in
      let marks : List Pos = (mark_of numbers mark).pos ∷ past.marks in
      let l = numbered_first (λ d. IsNew count d past × Leaves now past (known_behind now event) (with_defined d marks past)) now form.Subtype id numbered.0
      (subtype_leaves count now past (folded_identifier id) regions are marks) in
      type_result now past (t.ConstrainedSubtype (declared numbers id) (mark_of numbers mark) (lowered_expr numbers low) (lowered_expr numbers high)) event
      (mention clause.Elsewhere mark ∷ (expr_events low ++ (expr_events high ++ e.DeclarationsEnd ∷ []))) (regions_behind now event refl regions) l.1
      refl (flat_all (declares form.Subtype id ∷ []) now refl)
      (mild_both (expr_events low) (expr_events high ++ e.DeclarationsEnd ∷ []) (expr_mild low)
      (mild_both (expr_events high) (e.DeclarationsEnd ∷ []) (expr_mild high) refl)) (λ new. l.0) numbered.1
  subtype_result _ now past regions are numbered ended = quiet_result now past t.NoMore [] refl refl (λ new. tt) regions are numbered

  full_result : (id : Identifier) (def : Code) (semicolon : Pos) (events : List Event) (now : Known) (past : Past) → AreRegions now → AreTypes now past
      → IsAware now past → AreNumbered count numbers now (declares form.FullType id ∷ events)
      → AreEnded past (t.TypeDecl (declared numbers id) def semicolon) → are_mild events ≡ true
      → ((p : Past) → AreNewAt count numbers p events → NewLiterals count def p)
      → IsResult count now past (t.TypeDecl (declared numbers id) def semicolon) (declares form.FullType id ∷ events)
  unfolding AreEnded Orderly past_after
  full_result id def semicolon events now past regions are aware numbered ended mild literals =
      let event : Event = declares form.FullType id in
      let marks : List Pos = definition_marks def past.marks in
      let l = numbered_first (λ d. Completes count semicolon marks d past × Leaves now past (known_behind now event) (with_defined d marks past)) now
      form.FullType id numbered.0 (full_leaves count now past (folded_identifier id) regions are semicolon marks aware ended) in
      type_result now past (t.TypeDecl (declared numbers id) def semicolon) event events (regions_behind now event refl regions) l.1 refl
      (flat_all (event ∷ []) now refl) mild (λ new. (l.0, literals (with_defined (number_of numbers id) marks past) new)) numbered.1

  type_item_result : (i : Item) (now : Known) (past : Past) → AreRegions now → AreTypes now past → IsAware now past
      → AreNumbered count numbers now (type_events i) → AreEnded past (lowered_type numbers i)
      → IsResult count now past (lowered_type numbers i) (type_events i)
  unfolding lowered_type type_events Orderly past_after
  type_item_result (item.IncompleteType pos id semicolon) now past regions are aware numbered ended =
      let event : Event = declares form.IncompleteType id in
      let l = numbered_first (λ d. IsNew count d past × Leaves now past (known_behind now event) (with_incomplete d past)) now form.IncompleteType id
      numbered.0 (incomplete_leaves count now past (folded_identifier id) regions are) in
      type_result now past (t.Incomplete (declared numbers id)) event (e.DeclarationsEnd ∷ []) (regions_behind now event refl regions) l.1 refl
      (flat_all (event ∷ []) now refl) refl (λ new. l.0) numbered.1
  type_item_result (item.PrivateType pos id is private semicolon) now past regions are aware numbered ended =
      let event : Event = declares form.PrivateType id in
      let l = numbered_first (λ d. IsNew count d past × Leaves now past (known_behind now event) (with_private d past)) now form.PrivateType id numbered.0
      (private_leaves count now past (folded_identifier id) regions are) in
      type_result now past (t.Private (declared numbers id)) event (e.DeclarationsEnd ∷ []) (regions_behind now event refl regions) l.1 refl
      (flat_all (event ∷ []) now refl) refl (λ new. l.0) numbered.1
  type_item_result (item.EnumerationType pos id is left_paren first rest right_paren semicolon) now past regions are aware numbered ended =
      full_result id (t.Enumeration (declared_all numbers first rest)) semicolon (declares_all form.Literal first rest ++ e.DeclarationsEnd ∷ []) now past
      regions are aware numbered ended (mild_both (declares_all form.Literal first rest) (e.DeclarationsEnd ∷ []) (names_mild form.Literal first rest (λ id. refl)) refl)
      (λ p new. new_names p form.Literal first rest (new_both count numbers p (declares_all form.Literal first rest) (e.DeclarationsEnd ∷ []) new).0)
  type_item_result (item.RecordType pos id is record_word first rest end end_record semicolon) now past regions are aware numbered ended =
      full_result id (t.Record (t.More (lowered_component numbers first) (code_list (map (lowered_component numbers) rest)))) semicolon
      (e.RecordBegins ∷ (flat_map component_events (first ∷ rest) ++ e.DeclarationsEnd ∷ [])) now past regions are aware numbered ended
      (mild_both (flat_map component_events (first ∷ rest)) (e.DeclarationsEnd ∷ []) (mild_each component_events component_mild (first ∷ rest)) refl)
      (λ p new. tt)
  type_item_result (item.ArrayType pos id is array left_paren index right_paren of element semicolon) now past regions are aware numbered ended =
      full_result id (t.Array (lowered_range numbers index) (mark_of numbers element)) semicolon
      (range_events index ++ (mention clause.Elsewhere element ∷ (e.DeclarationsEnd ∷ []))) now past regions are aware numbered ended
      (mild_both (range_events index) (mention clause.Elsewhere element ∷ (e.DeclarationsEnd ∷ [])) (range_mild index) refl) (λ p new. tt)
  type_item_result (item.AccessType pos id is access designated semicolon) now past regions are aware numbered ended =
      full_result id (t.Access (mark_of numbers designated)) semicolon (mention clause.Elsewhere designated ∷ (e.DeclarationsEnd ∷ [])) now past regions are
      aware numbered ended refl (λ p new. tt)
  type_item_result other now past regions are aware numbered ended = subtype_result other now past regions are numbered ended

  object_mild : (first : Identifier) (rest : List NextIdentifier) (more : List Event) → are_mild more ≡ true
      → are_mild (declares_all form.Object first rest ++ more) ≡ true
  object_mild first rest more e =
      mild_both (declares_all form.Object first rest) more (names_mild form.Object first rest (λ id. refl)) e

  object_new : (past : Past) (first : Identifier) (rest : List NextIdentifier) (more : List Event)
      → AreNewAt count numbers past (declares_all form.Object first rest ++ more) → AllNew count (declared_all numbers first rest) past
  object_new past first rest more new =
      new_names past form.Object first rest (new_both count numbers past (declares_all form.Object first rest) more new).0

  pub item_result : (i : Item) (now : Known) (past : Past) → AreRegions now → AreTypes now past → IsAware now past
      → AreNumbered count numbers now (item_events i) → is_clause i ≡ false → AreEnded past (lowered_declaration numbers i)
      → IsResult count now past (lowered_declaration numbers i) (item_events i)
  unfolding lowered_declaration item_events Orderly past_after
  item_result (item.Objects pos first rest colon is_constant of semicolon) now past regions are aware numbered plain ended =
      let more : List Event = indication_events of ++ e.DeclarationsEnd ∷ [] in
      quiet_result now past (t.Objects (declared_all numbers first rest) (is_some is_constant) (lowered_indication numbers of) t.NoMore)
      (declares_all form.Object first rest ++ more)
      (object_mild first rest more (mild_both (indication_events of) (e.DeclarationsEnd ∷ []) (indication_mild of) refl)) refl
      (object_new past first rest more) regions are numbered
  item_result (item.InitializedObjects pos first rest colon is_constant of becomes value semicolon) now past regions are aware numbered plain ended =
      let more : List Event = indication_events of ++ (expr_events value ++ e.DeclarationsEnd ∷ []) in
      quiet_result now past
      (t.Objects (declared_all numbers first rest) (is_some is_constant) (lowered_indication numbers of) (t.More (lowered_expr numbers value) t.NoMore))
      (declares_all form.Object first rest ++ more)
      (object_mild first rest more (mild_both (indication_events of) (expr_events value ++ e.DeclarationsEnd ∷ []) (indication_mild of)
      (mild_both (expr_events value) (e.DeclarationsEnd ∷ []) (expr_mild value) refl))) refl (object_new past first rest more) regions are numbered
  item_result (item.Numbers pos first rest colon is_constant becomes value semicolon) now past regions are aware numbered plain ended =
      let more : List Event = expr_events value ++ e.DeclarationsEnd ∷ [] in
      quiet_result now past (t.Numbers (declared_all numbers first rest) (lowered_expr numbers value)) (declares_all form.Object first rest ++ more)
      (object_mild first rest more (mild_both (expr_events value) (e.DeclarationsEnd ∷ []) (expr_mild value) refl)) refl
      (object_new past first rest more) regions are numbered
  item_result (item.Instance pos id is new generic left_paren first rest right_paren semicolon) now past regions are aware numbered plain ended =
      let more : List Event = flat_map next_arg_events rest ++ e.DeclarationsEnd ∷ [] in
      quiet_result now past (t.Instance (declared numbers id) (mark_of numbers generic) (lowered_args numbers first rest))
      (declares form.Instance id ∷ (mention clause.Elsewhere generic ∷ (arg_events first ++ more)))
      (mild_both (arg_events first) more (arg_mild first)
      (mild_both (flat_map next_arg_events rest) (e.DeclarationsEnd ∷ []) (mild_each next_arg_events next_arg_mild rest) refl)) refl (λ new. new.0) regions
      are numbered
  item_result (item.Use pos c) now past regions are aware numbered plain ended = absurd (true≢false plain)
  item_result (item.Pragma pos c) now past regions are aware numbered plain ended = absurd (true≢false plain)
  item_result other now past regions are aware numbered plain ended = type_item_result other now past regions are aware numbered ended
