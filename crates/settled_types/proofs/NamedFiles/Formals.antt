-- The formals of each subprogram in files that break no rule of names have names of their own; fronts are as the grammar
-- has them.
use Rattle.std.proofs.Common.{◌≡◌, inl, inr, ℕ, Bool, true, false, not, ◌&&◌, ◌||◌, List, [], ◌∷◌, ◌++◌, map, refl, sym, ap, ◌∙◌, subst, Option, Some, None, is_some, nat_eq, true≢false, if◌then◌else◌}
use Rattle.std.specs.List.{flat_map}
use Rattle.machine.specs.spark_base.Lists.{Has}
use Rattle.spark_base.proofs.Lists.{Has-append_cases, Has-map}
use Rattle.ada_tree.specs.declared.identifier.Identifier.{Identifier}
use Rattle.ada_tree.specs.declared.identifier.NextIdentifier.{NextIdentifier}
use Rattle.ada_tree.specs.declared.identifier.NextIdentifier.TheVariants as next_id
use Rattle.ada_tree.specs.declared.declaration.Indication.{Indication}
use Rattle.ada_tree.specs.declared.declaration.Indication.TheVariants as indication
use Rattle.ada_tree.specs.declared.declaration.Item.{Item}
use Rattle.ada_tree.specs.declared.declaration.Item.TheVariants as item
use Rattle.ada_tree.specs.declared.subprogram.Decl.{Decl}
use Rattle.ada_tree.specs.declared.subprogram.Decl.TheVariants as decl
use Rattle.ada_tree.specs.declared.subprogram.Formal.{Formal}
use Rattle.ada_tree.specs.declared.subprogram.Formal.TheVariants as formal
use Rattle.ada_tree.specs.declared.subprogram.NextFormal.{NextFormal}
use Rattle.ada_tree.specs.declared.subprogram.NextFormal.TheVariants as next_formal
use Rattle.ada_tree.specs.declared.subprogram.Formals.{Formals}
use Rattle.ada_tree.specs.declared.subprogram.Subspec.{Subspec}
use Rattle.ada_tree.specs.declared.subprogram.Subspec.TheVariants as subspec
use Rattle.ada_tree.specs.declared.unit.SourceUnit.{SourceUnit}
use Rattle.ada_tree.specs.declared.unit.SourceUnit.TheVariants as unit
use Rattle.ada_tree.specs.declared.unit.Package.{Package}
use Rattle.ada_tree.specs.declared.unit.PrivatePart.{PrivatePart}
use Rattle.ada_tree.specs.declared.unit.PackageBody.{PackageBody}
use Rattle.ada_tree.specs.declared.unit.BodyPart.{BodyPart}
use Rattle.ada_tree.specs.declared.unit.BodyPart.TheVariants as part
use Rattle.ada_tree.specs.declared.unit.SubprogramBody.{SubprogramBody}
use Rattle.name_events.specs.declared.event.Event.{Event}
use Rattle.name_events.specs.declared.event.Event.TheVariants as e
use Rattle.name_events.specs.declared.event.Clause.TheVariants as clause
use Rattle.name_events.specs.declared.declaration.Declaration.{Declaration}
use Rattle.name_events.specs.declared.declaration.DeclarationForm.{DeclarationForm}
use Rattle.name_events.specs.declared.declaration.DeclarationForm.TheVariants as form
use Rattle.name_events.specs.declared.declaration.NameRule.TheVariants.{Twice, NoBody}
use Rattle.name_events.specs.Declarations.{Name, Entry, same, declared_in}
use Rattle.name_events.specs.Laws.{IsOf, IsNowhereIn}
use Rattle.name_events.specs.ExpressionOutline.{folded, folded_identifier, declares, declares_all, mention, next_name, each_of}
use Rattle.name_events.specs.Outline.{item_events, indication_events, formal_events, next_formal_events, formals_events, stmts_events, subspec_events, body_form, subspec_name, closing_events, subprogram_events, decl_events, body_part_events, private_events, package_events, package_body_events, unit_front, unit_events, source_events}
use Rattle.name_events.specs.Known.{Known, here}
use Rattle.name_events.specs.Completions.{completed_by}
use Rattle.name_events.specs.KnownBehind.{new_entry, declare, behind_declaration, known_behind, known_behind_all, known_at_first}
use Rattle.name_events.specs.Faults.{Fault, is_second_unit, is_second, is_incomplete, fault, name_fault}
use Rattle.name_events.specs.Denotes.{Files, known_of}
use Rattle.name_events.proofs.Searches.{same_is, declared_nowhere}
use Rattle.machine.specs.resolved_tree.Trees.{NoMore, More, Code, code_list}
use Rattle.machine.specs.type_definitions.Entries.{same_word}
use Rattle.machine.specs.type_definitions.Gathered.{texts}
use Rattle.expression_lowering.specs.LoweredExpressions.{Numbers}
use Rattle.tree_lowering.specs.Lowered.{declared_next, declared_all, lowered_indication, lowered_subtype, lowered_type, lowered_declaration, item_before, before_all, lowered_formal, lowered_next_formal, lowered_formals, lowered_subspec, lowered_subprogram, decl_before, part_before, lowered_decls, lowered_private, lowered_package, lowered_package_body, lowered_unit, lowered_files}
use Rattle.settled_types.specs.GatheredLaws.Components.{AreWordsApart}
use Rattle.settled_types.proofs.OrderlyFiles.Steps.{completes_nothing}
use Rattle.settled_types.specs.NamedFiles.Formals.{group_texts, formal_texts, HasFirst, IsResult, IsFrontApart, AreFormalsApart}
use Rattle.settled_types.proofs.NamedFiles.Faults.{BreaksNone, one_none, rest_none, first_none, second_none}
use Rattle.settled_types.proofs.NamedFiles.Words.{lower}

-- ---- names that are declared in one region

-- Each of these names is new there after those before it.
abbrev AreNew : List Entry → ℕ → List Name → Type 0
AreNew ds r [] = Unit {0}
AreNew ds r (w ∷ rest) = IsNowhereIn ds r w × (d : Declaration) × (d.region ≡ r) × AreNew (ds ++ (w, d) ∷ []) r rest

nowhere_front : (ds es : List Entry) (r : ℕ) (w : Name) → IsNowhereIn (ds ++ es) r w → IsNowhereIn ds r w
nowhere_front [] es r w none = tt
nowhere_front (d ∷ ds) es r w none = (none.0, nowhere_front ds es r w none.1)

nowhere_last : (ds : List Entry) (x : Entry) (r : ℕ) (w : Name) → IsNowhereIn (ds ++ x ∷ []) r w → IsOf r w x → ⊥
nowhere_last [] x r w none is = none.0 is
nowhere_last (d ∷ ds) x r w none is = nowhere_last ds x r w none.1 is

each_new : (ds : List Entry) (r : ℕ) (ws : List Name) (v : Name) → AreNew ds r ws → Has ws v → IsNowhereIn ds r v
each_new ds r [] v new has = absurd has
each_new ds r (w ∷ rest) v new (inl is) = subst (IsNowhereIn ds r) is new.0
each_new ds r (w ∷ rest) v new (inr has) =
    nowhere_front ds ((w, new.1) ∷ []) r v (each_new (ds ++ (w, new.1) ∷ []) r rest v new.3 has)

abbrev lowers : List (List ℕ) → List Name
lowers ws = map lower ws

new_apart : (ds : List Entry) (r : ℕ) (ws : List (List ℕ)) → AreNew ds r (lowers ws) → AreWordsApart ws
new_apart ds r [] new = tt
new_apart ds r (w ∷ rest) new = (
  (λ v has. apart v (each_new (ds ++ (lower w, new.1) ∷ []) r (lowers rest) (lower v) new.3 (Has-map lower rest v has))),
  new_apart (ds ++ (lower w, new.1) ∷ []) r rest new.3,
)
  where
    apart : (v : List ℕ) → IsNowhereIn (ds ++ (lower w, new.1) ∷ []) r (lower v) → same_word w v ≡ false
    apart v none = by (same (lower w) (lower v)) refl
      where
        by : (b : Bool) → same (lower w) (lower v) ≡ b → b ≡ false
        by true one = absurd (nowhere_last ds (lower w, new.1) r (lower v) none (new.2, same_is (lower w) (lower v) one))
        by false one = refl

-- ---- events that declare formals

abbrev IsCalm : Event → Type 0
IsCalm (e.Declares form.Formal id) = Unit {0}
IsCalm (e.Mentions c name) = Unit {0}
IsCalm e.DeclarationsEnd = Unit {0}
IsCalm event = ⊥

abbrev AreCalm : List Event → Type 0
AreCalm [] = Unit {0}
AreCalm (event ∷ rest) = IsCalm event × AreCalm rest

abbrev declared_names : List Event → List Name
declared_names [] = []
declared_names (e.Declares new id ∷ rest) = id.name ∷ declared_names rest
declared_names (event ∷ rest) = declared_names rest

first_test : (x y : Fault) (b c : Bool) → (if b then Some x else if c then Some y else None) ≡ None → b ≡ false
first_test x y true c none = absurd (true≢false (ap is_some none))
first_test x y false c none = refl

none_there : (o : Option Declaration) (z : Bool) → is_some o || z ≡ false → o ≡ None
none_there None z e = refl
none_there (Some d) z e = absurd (true≢false e)

module _ (whole : Known) where
  free : (now : Known) (w : Name) (o : Option Declaration) → o ≡ None → (z : Bool) → not (is_some o) && (is_some (declared_in now.declared (here now) w) || z) ≡ false
      → declared_in now.declared (here now) w ≡ None
  free now w None nothing z second = none_there (declared_in now.declared (here now) w) z second
  free now w (Some d) nothing z second = cc

  events_new : (events : List Event) (now : Known) → AreCalm events → BreaksNone whole now events → AreNew now.declared (here now) (declared_names events)
  unfolding fault known_behind
  events_new [] now calm none = tt
  events_new (e.Declares form.Formal id ∷ rest) now calm none =
      let nothing : completed_by now form.Formal id.name ≡ None = completes_nothing now form.Formal id.name refl in
      let second
      = first_test (Twice, id.pos) (NoBody, id.pos) (is_second now form.Formal id.name) (is_incomplete whole now form.Formal)
      (one_none whole (e.Declares form.Formal id) rest now none) in
      let new : Entry = new_entry now form.Formal id in
      let more : BreaksNone whole (declare now new) rest
      = subst (λ o. BreaksNone whole (behind_declaration now form.Formal id o) rest) nothing (rest_none whole (e.Declares form.Formal id) rest now none) in (
        declared_nowhere now.declared (here now) id.name (free now id.name (completed_by now form.Formal id.name) nothing (nat_eq 0 (here now) && is_second_unit now form.Formal id.name) second),
        new.1,
        refl,
        events_new rest (declare now new) calm.1 more,
      )
  events_new (e.Mentions c name ∷ rest) now calm none =
      events_new rest (known_behind now (e.Mentions c name)) calm.1 (rest_none whole (e.Mentions c name) rest now none)
  events_new (e.DeclarationsEnd ∷ rest) now calm none =
      events_new rest (known_behind now e.DeclarationsEnd) calm.1 (rest_none whole e.DeclarationsEnd rest now none)
  events_new (event ∷ rest) now calm none = absurd calm.0

  -- ---- formals

  calm_both : (xs ys : List Event) → AreCalm xs → AreCalm ys → AreCalm (xs ++ ys)
  calm_both [] ys a b = b
  calm_both (x ∷ xs) ys a b = (a.0, calm_both xs ys a.1 b)

  ids_calm : (ids : List Identifier) → AreCalm (map (declares form.Formal) ids)
  ids_calm [] = tt
  ids_calm (id ∷ rest) = (tt, ids_calm rest)

  group_calm : (f : Formal) → AreCalm (formal_events f)
  unfolding formal_events
  group_calm (formal.Moded pos first rest colon in_word out_word mark) =
      calm_both (declares_all form.Formal first rest) (mention clause.Elsewhere mark ∷ (e.DeclarationsEnd ∷ [])) (ids_calm (first ∷ map next_name rest)) (tt, (tt, tt))
  group_calm (formal.Anonymous pos first rest colon access access_constant designated) =
      calm_both (declares_all form.Formal first rest) (mention clause.Elsewhere designated ∷ (e.DeclarationsEnd ∷ [])) (ids_calm (first ∷ map next_name rest)) (tt, (tt, tt))

  next_calm : (f : NextFormal) → AreCalm (next_formal_events f)
  unfolding next_formal_events
  next_calm (next_formal.Semicolon pos part) = group_calm part

  rest_calm : (fs : List NextFormal) → AreCalm (flat_map next_formal_events fs)
  rest_calm [] = tt
  rest_calm (f ∷ rest) = calm_both (next_formal_events f) (flat_map next_formal_events rest) (next_calm f) (rest_calm rest)

  all_calm : (o : Option Formals) → AreCalm (each_of formals_events o)
  all_calm None = tt
  all_calm (Some f) = calm_both (formal_events f.first) (flat_map next_formal_events f.rest) (group_calm f.first) (rest_calm f.rest)

  names_both : (xs ys : List Event) → declared_names (xs ++ ys) ≡ declared_names xs ++ declared_names ys
  names_both [] ys = refl
  names_both (e.Declares new id ∷ xs) ys = ap (λ ws. id.name ∷ ws) (names_both xs ys)
  names_both (event ∷ xs) ys = names_both xs ys

  module _ (numbers : Numbers) where
    ids_names : (ids : List Identifier) (ys : List Event) → declared_names (map (declares form.Formal) ids ++ ys) ≡ map folded ids ++ declared_names ys
    ids_names [] ys = refl
    ids_names (id ∷ rest) ys = ap (λ ws. folded id ∷ ws) (ids_names rest ys)

    next_texts : (rest : List NextIdentifier) → lowers (texts (code_list (map (declared_next numbers) rest))) ≡ map folded (map next_name rest)
    unfolding declared_next next_name
    next_texts [] = refl
    next_texts (next_id.FurtherIdentifier pos id ∷ rest) = ap (λ ws. folded id ∷ ws) (next_texts rest)

    nothing_more : (ws : List Name) → ws ++ [] ≡ ws
    nothing_more [] = refl
    nothing_more (w ∷ ws) = ap (λ vs. w ∷ vs) (nothing_more ws)

    ids_same : (first : Identifier) (rest : List NextIdentifier) (ys : List Event) → declared_names ys ≡ []
        → declared_names (declares_all form.Formal first rest ++ ys) ≡ lowers (texts (declared_all numbers first rest))
    ids_same first rest ys silent =
        ids_names (first ∷ map next_name rest) ys ∙ ap (λ ws. map folded (first ∷ map next_name rest) ++ ws) silent
        ∙ nothing_more (map folded (first ∷ map next_name rest)) ∙ ap (λ ws. folded first ∷ ws) (sym (next_texts rest))

    group_same : (f : Formal) → declared_names (formal_events f) ≡ lowers (group_texts (lowered_formal numbers f))
    unfolding formal_events lowered_formal
    group_same (formal.Moded pos first rest colon in_word out_word mark) = ids_same first rest (mention clause.Elsewhere mark ∷ (e.DeclarationsEnd ∷ [])) refl
    group_same (formal.Anonymous pos first rest colon access access_constant designated) =
        ids_same first rest (mention clause.Elsewhere designated ∷ (e.DeclarationsEnd ∷ [])) refl

    two_same : (xs ys : List Event) (vs ws : List (List ℕ)) → declared_names xs ≡ lowers vs → declared_names ys ≡ lowers ws → declared_names (xs ++ ys) ≡ lowers (vs ++ ws)
    two_same xs ys vs ws a b =
        names_both xs ys ∙ ap (λ z. z ++ declared_names ys) a ∙ ap (λ z. lowers vs ++ z) b ∙ sym (lowers_both vs ws)
      where
        lowers_both : (vs ws : List (List ℕ)) → lowers (vs ++ ws) ≡ lowers vs ++ lowers ws
        lowers_both [] ws = refl
        lowers_both (v ∷ vs) ws = ap (λ z. lower v ∷ z) (lowers_both vs ws)

    next_same : (f : NextFormal) → declared_names (next_formal_events f) ≡ lowers (group_texts (lowered_next_formal numbers f))
    unfolding next_formal_events lowered_next_formal
    next_same (next_formal.Semicolon pos part) = group_same part

    rest_same : (fs : List NextFormal) → declared_names (flat_map next_formal_events fs) ≡ lowers (formal_texts (code_list (map (lowered_next_formal numbers) fs)))
    rest_same [] = refl
    rest_same (f ∷ rest) =
        two_same (next_formal_events f) (flat_map next_formal_events rest) (group_texts (lowered_next_formal numbers f)) (formal_texts (code_list (map (lowered_next_formal numbers) rest)))
        (next_same f) (rest_same rest)

    all_same : (o : Option Formals) → declared_names (each_of formals_events o) ≡ lowers (formal_texts (lowered_formals numbers o))
    all_same None = refl
    all_same (Some f) =
        two_same (formal_events f.first) (flat_map next_formal_events f.rest) (group_texts (lowered_formal numbers f.first)) (formal_texts (code_list (map (lowered_next_formal numbers) f.rest)))
        (group_same f.first) (rest_same f.rest)

    formals_apart : (o : Option Formals) (now : Known) → BreaksNone whole now (each_of formals_events o) → AreWordsApart (formal_texts (lowered_formals numbers o))
    formals_apart o now none =
        new_apart now.declared (here now) (formal_texts (lowered_formals numbers o))
        (subst (AreNew now.declared (here now)) (all_same o) (events_new (each_of formals_events o) now (all_calm o) none))

    first_formal : (f : Formal) (rest : Code) → HasFirst (More (lowered_formal numbers f) rest)
    unfolding lowered_formal
    first_formal (formal.Moded pos first others colon in_word out_word mark) rest = tt
    first_formal (formal.Anonymous pos first others colon access access_constant designated) rest = tt

    first_there : (o : Option Formals) → HasFirst (lowered_formals numbers o)
    first_there None = tt
    first_there (Some f) = first_formal f.first (code_list (map (lowered_next_formal numbers) f.rest))

    result_is : (i : Indication) (rest : Code) → IsResult (More (lowered_indication numbers i) rest)
    unfolding lowered_indication
    result_is (indication.Mark pos mark) rest = tt
    result_is (indication.Anonymous access is_constant designated) rest = tt

    front_apart : (new : DeclarationForm) (spec : Subspec) (now : Known) → BreaksNone whole now (subspec_events new spec) → IsFrontApart (lowered_subspec numbers spec)
    unfolding subspec_events lowered_subspec
    front_apart new (subspec.Procedure pos id formals) now none =
        let one : Known = known_behind now (declares new id) in
        let more : List Event = each_of formals_events formals ++ e.OuterDeclarationsEnd ∷ [] in (
          formals_apart formals (known_behind one e.RegionOpens)
              (first_none whole (each_of formals_events formals) (e.OuterDeclarationsEnd ∷ []) (known_behind one e.RegionOpens)
              (rest_none whole e.RegionOpens more one (rest_none whole (declares new id) (e.RegionOpens ∷ more) now none))),
          first_there formals,
          tt,
        )
    front_apart new (subspec.Function pos id formals return_word result) now none =
        let one : Known = known_behind now (declares new id) in
        let last : List Event = indication_events result ++ e.OuterDeclarationsEnd ∷ [] in
        let more : List Event = each_of formals_events formals ++ last in (
          formals_apart formals (known_behind one e.RegionOpens)
              (first_none whole (each_of formals_events formals) last (known_behind one e.RegionOpens)
              (rest_none whole e.RegionOpens more one (rest_none whole (declares new id) (e.RegionOpens ∷ more) now none))),
          first_there formals,
          result_is result NoMore,
        )

    -- ---- units

    subtype_apart : (i : Item) → AreFormalsApart (lowered_subtype numbers i)
    unfolding lowered_subtype AreFormalsApart
    subtype_apart (item.Subtype pos id is mark semicolon) = tt
    subtype_apart (item.ConstrainedSubtype pos id is mark of_range low dots high semicolon) = tt
    subtype_apart _ = tt

    type_apart : (i : Item) → AreFormalsApart (lowered_type numbers i)
    unfolding lowered_type AreFormalsApart
    type_apart (item.IncompleteType pos id semicolon) = tt
    type_apart (item.PrivateType pos id is private semicolon) = tt
    type_apart (item.EnumerationType pos id is left_paren first rest right_paren semicolon) = tt
    type_apart (item.RecordType pos id is record_word first rest end end_record semicolon) = tt
    type_apart (item.ArrayType pos id is array left_paren index right_paren of element semicolon) = tt
    type_apart (item.AccessType pos id is access designated semicolon) = tt
    type_apart other = subtype_apart other

    declaration_apart : (i : Item) → AreFormalsApart (lowered_declaration numbers i)
    unfolding lowered_declaration AreFormalsApart
    declaration_apart (item.Objects pos first rest colon is_constant of semicolon) = tt
    declaration_apart (item.InitializedObjects pos first rest colon is_constant of becomes value semicolon) = tt
    declaration_apart (item.Numbers pos first rest colon is_constant becomes value semicolon) = tt
    declaration_apart (item.Instance pos id is new generic left_paren first rest right_paren semicolon) = tt
    declaration_apart other = type_apart other

    item_apart : (others : Code) (i : Item) → AreFormalsApart others → AreFormalsApart (item_before numbers others i)
    unfolding item_before AreFormalsApart
    item_apart others (item.Use pos c) rest = rest
    item_apart others (item.Pragma pos c) rest = rest
    item_apart others i rest = (declaration_apart i, rest)

    subprogram_apart : (b : SubprogramBody) (now : Known) → BreaksNone whole now (subprogram_events b) → AreFormalsApart (lowered_subprogram numbers b)
    unfolding AreFormalsApart lowered_subprogram subprogram_events
    subprogram_apart b now none =
        front_apart (body_form b.spec) b.spec now
        (first_none whole (subspec_events (body_form b.spec) b.spec)
        (flat_map item_events b.items ++ (stmts_events b.stmts ++ (e.RegionCloses ∷ closing_events (subspec_name b.spec) b.closing))) now none)

    decl_apart : (d : Decl) (others : Code) (now : Known) → BreaksNone whole now (decl_events d) → AreFormalsApart others → AreFormalsApart (decl_before numbers others d)
    unfolding AreFormalsApart decl_before decl_events
    decl_apart (decl.OfItem pos declared) others now none rest = item_apart others declared rest
    decl_apart (decl.Subprogram pos spec mode semicolon) others now none rest =
        (front_apart form.SubprogramDeclaration spec now (first_none whole (subspec_events form.SubprogramDeclaration spec) (e.RegionCloses ∷ []) now none), rest)

    decls_apart : (ds : List Decl) (now : Known) → BreaksNone whole now (flat_map decl_events ds) → AreFormalsApart (lowered_decls numbers ds)
    unfolding AreFormalsApart
    decls_apart [] now none = tt
    decls_apart (d ∷ rest) now none =
        decl_apart d (lowered_decls numbers rest) now (first_none whole (decl_events d) (flat_map decl_events rest) now none)
        (decls_apart rest (known_behind_all now (decl_events d)) (second_none whole (decl_events d) (flat_map decl_events rest) now none))

    body_part : (x : BodyPart) (others : Code) (now : Known) → BreaksNone whole now (body_part_events x) → AreFormalsApart others → AreFormalsApart (part_before numbers others x)
    unfolding AreFormalsApart part_before body_part_events
    body_part (part.Declared pos declared) others now none rest = decl_apart declared others now none rest
    body_part (part.Completed pos body) others now none rest = (subprogram_apart body now none, rest)

    parts_apart : (xs : List BodyPart) (now : Known) → BreaksNone whole now (flat_map body_part_events xs) → AreFormalsApart (before_all (part_before numbers) xs)
    unfolding AreFormalsApart
    parts_apart [] now none = tt
    parts_apart (x ∷ rest) now none =
        body_part x (before_all (part_before numbers) rest) now (first_none whole (body_part_events x) (flat_map body_part_events rest) now none)
        (parts_apart rest (known_behind_all now (body_part_events x)) (second_none whole (body_part_events x) (flat_map body_part_events rest) now none))

    private_apart : (o : Option PrivatePart) (now : Known) → BreaksNone whole now (each_of private_events o) → AreFormalsApart (lowered_private numbers o)
    unfolding AreFormalsApart
    private_apart None now none = tt
    private_apart (Some p) now none = decls_apart p.decls (known_behind now e.PrivatePartBegins) (rest_none whole e.PrivatePartBegins (flat_map decl_events p.decls) now none)

    package_apart : (p : Package) (now : Known) → BreaksNone whole now (package_events p) → AreFormalsApart (lowered_package numbers p)
    unfolding AreFormalsApart lowered_package
    package_apart p now none =
        let visible : List Event = flat_map decl_events p.visible in
        let hidden : List Event = each_of private_events p.private in
        let last : List Event = e.RegionCloses ∷ closing_events p.name p.closing in
        let more : List Event = visible ++ (hidden ++ last) in
        let one : Known = known_behind now (declares form.Package p.name) in
        let two : Known = known_behind one e.DeclarationsEnd in
        let inner : Known = known_behind two e.RegionOpens in
        let parts : BreaksNone whole inner more
        = rest_none whole e.RegionOpens more two (rest_none whole e.DeclarationsEnd (e.RegionOpens ∷ more) one
        (rest_none whole (declares form.Package p.name) (e.DeclarationsEnd ∷ (e.RegionOpens ∷ more)) now none)) in
        let middle : Known = known_behind_all inner visible in (
          decls_apart p.visible inner (first_none whole visible (hidden ++ last) inner parts),
          private_apart p.private middle (first_none whole hidden last middle (second_none whole visible (hidden ++ last) inner parts)),
        )

    package_body_apart : (b : PackageBody) (now : Known) → BreaksNone whole now (package_body_events b) → AreFormalsApart (lowered_package_body numbers b)
    unfolding AreFormalsApart lowered_package_body
    package_body_apart b now none =
        let declared : List Event = flat_map body_part_events b.parts in
        let last : List Event = e.RegionCloses ∷ closing_events b.name b.closing in
        let begins : Event = e.PackageBodyOpens (folded_identifier b.name) in
        parts_apart b.parts (known_behind now begins)
        (first_none whole declared last (known_behind now begins) (rest_none whole begins (declared ++ last) now none))

    unit_apart : (u : SourceUnit) (now : Known) → BreaksNone whole now (unit_events u) → AreFormalsApart (lowered_unit numbers u)
    unfolding lowered_unit unit_events
    unit_apart (unit.OfPackage pos clauses p) now none =
        package_apart p (known_behind_all now (unit_front None clauses)) (second_none whole (unit_front None clauses) (package_events p) now none)
    unit_apart (unit.OfBody pos clauses body) now none =
        package_body_apart body (known_behind_all now (unit_front (Some (folded body.name)) clauses))
        (second_none whole (unit_front (Some (folded body.name)) clauses) (package_body_events body) now none)
    unit_apart (unit.OfSubprogram pos clauses body) now none =
        subprogram_apart body (known_behind_all now (unit_front None clauses)) (second_none whole (unit_front None clauses) (subprogram_events body) now none)

    units_apart : (us : List SourceUnit) (now : Known) → BreaksNone whole now (flat_map unit_events us) → (u : Code) → Has (map (lowered_unit numbers) us) u → AreFormalsApart u
    units_apart [] now none u has = absurd has
    units_apart (v ∷ rest) now none u has = elim has [
      | inl same ↦ subst AreFormalsApart same (unit_apart v now (first_none whole (unit_events v) (flat_map unit_events rest) now none))
      | inr more ↦ units_apart rest (known_behind_all now (unit_events v)) (second_none whole (unit_events v) (flat_map unit_events rest) now none) u more
    ]

    files_apart : (files : List (List SourceUnit)) (now : Known) → BreaksNone whole now (source_events files) → (u : Code) → Has (lowered_files numbers files) u → AreFormalsApart u
    unfolding source_events lowered_files
    files_apart [] now none u has = absurd has
    files_apart (us ∷ rest) now none u has = elim (Has-append_cases (map (lowered_unit numbers) us) (flat_map (map (lowered_unit numbers)) rest) u has) [
      | inl here ↦ units_apart us now (first_none whole (flat_map unit_events us) (flat_map (flat_map unit_events) rest) now none) u here
      | inr more ↦ files_apart rest (known_behind_all now (flat_map unit_events us)) (second_none whole (flat_map unit_events us) (flat_map (flat_map unit_events) rest) now none) u more
    ]

-- The code of files that break no rule of names.
pub formals_are_apart : (numbers : Numbers) (files : Files) → name_fault files ≡ None → (u : Code) → Has (lowered_files numbers files) u → AreFormalsApart u
unfolding name_fault
formals_are_apart numbers files none = files_apart (known_of files) numbers files known_at_first none
