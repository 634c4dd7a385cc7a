-- The code of subprograms, packages and files is in order.
use Rattle.std.proofs.Common.{◌≡◌, inl, ℕ, ◌<◌, Bool, true, false, ◌&&◌, List, [], ◌∷◌, ◌++◌, drop, map, refl, sym, ap, ◌∙◌, arith, Option, Some, None, true≢false, subst, append_assoc}
use Rattle.std.specs.List.{flat_map}
use Rattle.ada_tree.specs.declared.identifier.Identifier.{Identifier}
use Rattle.ada_tree.specs.declared.identifier.Dotted.{Dotted}
use Rattle.ada_tree.specs.declared.declaration.Item.{Item}
use Rattle.ada_tree.specs.declared.declaration.Item.TheVariants as item
use Rattle.ada_tree.specs.declared.subprogram.Subspec.{Subspec}
use Rattle.ada_tree.specs.declared.subprogram.Subspec.TheVariants as subspec
use Rattle.ada_tree.specs.declared.subprogram.Formals.{Formals}
use Rattle.ada_tree.specs.declared.subprogram.NextFormal.{NextFormal}
use Rattle.ada_tree.specs.declared.subprogram.NextFormal.TheVariants as next_formal
use Rattle.ada_tree.specs.declared.subprogram.Formal.{Formal}
use Rattle.ada_tree.specs.declared.subprogram.Formal.TheVariants as formal
use Rattle.ada_tree.specs.declared.subprogram.Decl.{Decl}
use Rattle.ada_tree.specs.declared.subprogram.Decl.TheVariants as decl
use Rattle.ada_tree.specs.declared.unit.SourceUnit.{SourceUnit}
use Rattle.ada_tree.specs.declared.unit.SourceUnit.TheVariants as unit
use Rattle.ada_tree.specs.declared.unit.Context.{Context}
use Rattle.ada_tree.specs.declared.unit.Context.TheVariants as context
use Rattle.ada_tree.specs.declared.unit.Package.{Package}
use Rattle.ada_tree.specs.declared.unit.PrivatePart.{PrivatePart}
use Rattle.ada_tree.specs.declared.unit.PackageBody.{PackageBody}
use Rattle.ada_tree.specs.declared.unit.BodyPart.{BodyPart}
use Rattle.ada_tree.specs.declared.unit.BodyPart.TheVariants as body_part
use Rattle.ada_tree.specs.declared.unit.SubprogramBody.{SubprogramBody}
use Rattle.machine.specs.resolved_tree.Trees.{Code, code_list}
use Rattle.name_events.specs.declared.event.Event.{Event}
use Rattle.name_events.specs.declared.event.Event.TheVariants as e
use Rattle.name_events.specs.declared.event.Clause.TheVariants as clause
use Rattle.name_events.specs.declared.event.FoldedIdentifier.{FoldedIdentifier}
use Rattle.name_events.specs.declared.declaration.DeclarationForm.{DeclarationForm}
use Rattle.name_events.specs.declared.declaration.DeclarationForm.TheVariants as form
use Rattle.name_events.specs.declared.declaration.RegionPart.TheVariants as part
use Rattle.name_events.specs.declared.declaration.Declaration.{Declaration}
use Rattle.name_events.specs.declared.declaration.OpenRegion.{OpenRegion}
use Rattle.name_events.specs.ExpressionOutline.{folded, folded_identifier, declares, declares_all, mention, each_of, next_dotted_name}
use Rattle.name_events.specs.Outline.{indication_events, item_events, formal_events, next_formal_events, formals_events, subspec_events, body_form, subspec_name, closing_events, subprogram_events, stmts_events, decl_events, body_part_events, private_events, package_events, package_body_events, has_with, with_events, context_events, unit_front, unit_events, source_events}
use Rattle.name_events.specs.Known.{Known, here, region_of, part_of, source_package}
use Rattle.name_events.specs.KnownBehind.{known_behind, known_behind_all, open_body, turned_private}
use Rattle.expression_lowering.specs.LoweredExpressions.{Numbers, number_of}
use Rattle.tree_lowering.specs.Lowered.{lowered_declaration, item_before, lowered_items, lowered_stmts, lowered_formal, lowered_next_formal, lowered_formals, lowered_subspec, lowered_subprogram, decl_before, part_before, before_all, lowered_decls, lowered_private, lowered_package, lowered_package_body, lowered_unit, lowered_files}
use Rattle.settled_types.specs.Orderly.{Past, within, past_after, IsNew, NewGroup, NewFormals, NewFront, Orderly, AllOrderly}
use Rattle.settled_types.specs.OrderlyFiles.Regions.{AreRegions, AreTypes, HasPrivates}
use Rattle.settled_types.specs.OrderlyFiles.Numbered.{AreNumbered, is_quiet, all_quiet, are_mild, AreNewAt}
use Rattle.settled_types.specs.OrderlyFiles.Ended.{AreEnded, AllEnded}
use Rattle.settled_types.proofs.OrderlyFiles.Steps.{regions_behind, quiet_behind, types_later, privates_later, package_begun, package_regions, package_open, package_quiet, package_new}
use Rattle.settled_types.proofs.OrderlyFiles.Declares.{quiet_all, new_all, new_both, numbered_both, behind_both, flat_all, other_number}
use Rattle.settled_types.proofs.OrderlyFiles.Mentions.{mild_both, mild_quiet, mild_flat, mild_each}
use Rattle.settled_types.proofs.OrderlyFiles.Items.{is_clause, item_result, new_names, names_mild, indication_mild}
use Rattle.settled_types.proofs.OrderlyFiles.Statements.{IsShown, IsRun, use_mild, Goes, goes_then, goes_so, goes_mild, goes_after, goes_regions, item_goes, items_go, stmts_go}

quiet_both : (xs ys : List Event) → all_quiet xs ≡ true → all_quiet ys ≡ true → all_quiet (xs ++ ys) ≡ true
quiet_both [] ys a b = b
quiet_both (x ∷ rest) ys a b = by (λ a. quiet_both rest ys a b) (is_quiet x) a
  where
    by : (all_quiet rest ≡ true → all_quiet (rest ++ ys) ≡ true) → (q : Bool) → q && all_quiet rest ≡ true → q && all_quiet (rest ++ ys) ≡ true
    by later true a = later a
    by later false a = absurd (true≢false (sym a))

-- ---- formals

formal_mild : (f : Formal) → are_mild (formal_events f) ≡ true
unfolding formal_events
formal_mild (formal.Moded pos first rest colon in_word out_word mark) =
    mild_both (declares_all form.Formal first rest) (mention clause.Elsewhere mark ∷ (e.DeclarationsEnd ∷ [])) (names_mild 0 [] form.Formal first rest (λ id. refl)) refl
formal_mild (formal.Anonymous pos first rest colon access access_constant designated) =
    mild_both (declares_all form.Formal first rest) (mention clause.Elsewhere designated ∷ (e.DeclarationsEnd ∷ []))
    (names_mild 0 [] form.Formal first rest (λ id. refl)) refl

next_formal_mild : (f : NextFormal) → are_mild (next_formal_events f) ≡ true
unfolding next_formal_events
next_formal_mild (next_formal.Semicolon pos f) = formal_mild f

formals_mild : (o : Option Formals) → are_mild (each_of formals_events o) ≡ true
formals_mild None = refl
formals_mild (Some f) =
    mild_both (formal_events f.first) (flat_map next_formal_events f.rest) (formal_mild f.first) (mild_each next_formal_events next_formal_mild f.rest)

-- What follows the identifier of a subprogram.
abbrev spec_rest : Subspec → List Event
spec_rest (subspec.Procedure pos id formals) = each_of formals_events formals ++ e.OuterDeclarationsEnd ∷ []
spec_rest (subspec.Function pos id formals return_word result) =
    each_of formals_events formals ++ (indication_events result ++ e.OuterDeclarationsEnd ∷ [])

abbrev spec_id : Subspec → Identifier
spec_id (subspec.Procedure pos id formals) = id
spec_id (subspec.Function pos id formals return_word result) = id

spec_is : (new : DeclarationForm) (spec : Subspec) → subspec_events new spec ≡ declares new (spec_id spec) ∷ (e.RegionOpens ∷ spec_rest spec)
unfolding subspec_events
spec_is new (subspec.Procedure pos id formals) = refl
spec_is new (subspec.Function pos id formals return_word result) = refl

spec_mild : (spec : Subspec) → are_mild (spec_rest spec) ≡ true
spec_mild (subspec.Procedure pos id formals) = mild_both (each_of formals_events formals) (e.OuterDeclarationsEnd ∷ []) (formals_mild formals) refl
spec_mild (subspec.Function pos id formals return_word result) =
    mild_both (each_of formals_events formals) (indication_events result ++ e.OuterDeclarationsEnd ∷ []) (formals_mild formals)
    (mild_both (indication_events result) (e.OuterDeclarationsEnd ∷ []) (indication_mild 0 [] result) refl)

module _ (count : ℕ) (numbers : Numbers) where
  formal_new : (past : Past) (f : Formal) → AreNewAt count numbers past (formal_events f) → NewGroup count (lowered_formal numbers f) past
  unfolding formal_events lowered_formal
  formal_new past (formal.Moded pos first rest colon in_word out_word mark) new =
      new_names count numbers past form.Formal first rest
      (new_both count numbers past (declares_all form.Formal first rest) (mention clause.Elsewhere mark ∷ (e.DeclarationsEnd ∷ [])) new).0
  formal_new past (formal.Anonymous pos first rest colon access access_constant designated) new =
      new_names count numbers past form.Formal first rest
      (new_both count numbers past (declares_all form.Formal first rest) (mention clause.Elsewhere designated ∷ (e.DeclarationsEnd ∷ [])) new).0

  next_formals_new : (past : Past) (fs : List NextFormal) → AreNewAt count numbers past (flat_map next_formal_events fs)
      → NewFormals count (code_list (map (lowered_next_formal numbers) fs)) past
  unfolding next_formal_events lowered_next_formal
  next_formals_new past [] new = tt
  next_formals_new past (next_formal.Semicolon pos f ∷ rest) new =
      let n = new_both count numbers past (formal_events f) (flat_map next_formal_events rest) new in
      (formal_new past f n.0, next_formals_new past rest n.1)

  formals_new : (past : Past) (o : Option Formals) → AreNewAt count numbers past (each_of formals_events o) → NewFormals count (lowered_formals numbers o) past
  formals_new past None new = tt
  formals_new past (Some f) new =
      let n = new_both count numbers past (formal_events f.first) (flat_map next_formal_events f.rest) new in
      (formal_new past f.first n.0, next_formals_new past f.rest n.1)

  spec_new : (new : DeclarationForm) (past : Past) (spec : Subspec)
      → AreNewAt count numbers past (declares new (spec_id spec) ∷ (e.RegionOpens ∷ spec_rest spec)) → NewFront count (lowered_subspec numbers spec) past
  unfolding lowered_subspec
  spec_new new past (subspec.Procedure pos id formals) at =
      (at.0, formals_new past formals (new_both count numbers past (each_of formals_events formals) (e.OuterDeclarationsEnd ∷ []) at.1.1).0)
  spec_new new past (subspec.Function pos id formals return_word result) at = (
    at.0,
    formals_new past formals
        (new_both count numbers past (each_of formals_events formals) (indication_events result ++ e.OuterDeclarationsEnd ∷ []) at.1.1).0,
  )

  -- ---- subprograms

  -- A subprogram's region opens, and closes after this.
  spec_goes : (new : DeclarationForm) (spec : Subspec) (one : Type 0) (p q : Past) (xs : List Event) → ((id : FoldedIdentifier) → are_mild (e.Declares new id ∷ []) ≡ true)
      → Goes count numbers one p q xs
      → Goes count numbers (NewFront count (lowered_subspec numbers spec) p × one) p q
      (declares new (spec_id spec) ∷ (e.RegionOpens ∷ (spec_rest spec ++ (xs ++ e.RegionCloses ∷ []))))
  spec_goes new spec one p q xs mild goes =
      let rest : List Event = spec_rest spec in
      let front : Type 0 = IsNew count (number_of numbers (spec_id spec)) p in
      let formals : Type 0 = AreNewAt count numbers p rest in
      goes_so count numbers (front × (formals × one)) (NewFront count (lowered_subspec numbers spec) p × one) p q
      (declares new (spec_id spec) ∷ (e.RegionOpens ∷ (rest ++ (xs ++ e.RegionCloses ∷ []))))
      (λ o. (spec_new new p spec (o.0, (tt, o.1.0)), o.1.1))
      (goes_then count numbers front (formals × one) p p q (declares new (spec_id spec) ∷ []) (e.RegionOpens ∷ (rest ++ (xs ++ e.RegionCloses ∷ [])))
      (goes_mild count numbers front p (declares new (spec_id spec) ∷ []) (mild (folded_identifier (spec_id spec))) (λ new. new.0))
      (goes_regions count numbers formals one p p q rest xs (goes_mild count numbers formals p rest (spec_mild spec) (λ new. new)) goes))

  arranged : (rest xs ys closing : List Event) → (rest ++ ((xs ++ ys) ++ e.RegionCloses ∷ [])) ++ closing ≡ rest ++ (xs ++ (ys ++ (e.RegionCloses ∷ closing)))
  arranged rest xs ys closing =
      append_assoc rest ((xs ++ ys) ++ e.RegionCloses ∷ []) closing
      ∙ ap (λ zs. rest ++ zs) (append_assoc (xs ++ ys) (e.RegionCloses ∷ []) closing ∙ append_assoc xs ys (e.RegionCloses ∷ closing))

  closing_mild : (of : Identifier) (o : Option Identifier) → are_mild (closing_events of o) ≡ true
  closing_mild of None = refl
  closing_mild of (Some id) = refl

  body_mild : (spec : Subspec) (id : FoldedIdentifier) → are_mild (e.Declares (body_form spec) id ∷ []) ≡ true
  unfolding body_form
  body_mild (subspec.Procedure pos id formals) w = refl
  body_mild (subspec.Function pos id formals return_word result) w = refl

  subprogram_goes : (body : SubprogramBody) (past : Past) → AreEnded past (lowered_subprogram numbers body)
      → Goes count numbers (Orderly count past (lowered_subprogram numbers body)) past (past_after (lowered_subprogram numbers body) past) (subprogram_events body)
  unfolding lowered_subprogram subprogram_events Orderly past_after AreEnded
  subprogram_goes body past ended =
      let a : Code = lowered_items numbers body.items in
      let b : Code = lowered_stmts numbers body.stmts in
      let q : Past = past_after a past in
      let r : Past = past_after b q in
      let xs : List Event = flat_map item_events body.items in
      let ys : List Event = stmts_events body.stmts in
      let closing : List Event = closing_events (subspec_name body.spec) body.closing in
      let head : Event = declares (body_form body.spec) (spec_id body.spec) in
      let rest : List Event = spec_rest body.spec in
      let two : Type 0 = Orderly count past a × Orderly count q b in
      let all : Type 0 = NewFront count (lowered_subspec numbers body.spec) past × two in
      let inner = goes_then count numbers (Orderly count past a) (Orderly count q b) past q r xs ys (items_go count numbers body.items past ended.0)
      (stmts_go count numbers body.stmts q ended.1) in
      let whole = spec_goes (body_form body.spec) body.spec two past r (xs ++ ys) (body_mild body.spec) inner in
      let closed = goes_so count numbers (all × Unit {0}) all past r ((head ∷ (e.RegionOpens ∷ (rest ++ ((xs ++ ys) ++ e.RegionCloses ∷ [])))) ++ closing)
      (λ o. o.0)
      (goes_then count numbers all (Unit {0}) past r r (head ∷ (e.RegionOpens ∷ (rest ++ ((xs ++ ys) ++ e.RegionCloses ∷ [])))) closing whole
      (goes_mild count numbers (Unit {0}) r closing (closing_mild (subspec_name body.spec) body.closing) (λ new. tt))) in
      subst (λ zs. Goes count numbers all past r (zs ++ (xs ++ (ys ++ (e.RegionCloses ∷ closing))))) (sym (spec_is (body_form body.spec) body.spec))
      (subst (λ zs. Goes count numbers all past r (head ∷ (e.RegionOpens ∷ zs))) (arranged rest xs ys closing) closed)

  -- ---- declarations in packages

  -- In the specification of a package, its private types are known.
  record IsSeen (one : Type 0) (now after : Known) (q : Past) : Type 0 where
    run : IsRun one now after q
    privates : HasPrivates after q (here now)
    inside : q.in_package ≡ true

  abbrev Sees : Type 0 → Past → Past → List Event → Type 0
  Sees one p q events =
      (now : Known) → AreRegions now → AreTypes now p → HasPrivates now p (here now) → p.in_package ≡ true → AreNumbered count numbers now events
      → IsSeen one now (known_behind_all now events) q

  sees_then : (one two : Type 0) (p q r : Past) (xs ys : List Event) → Sees one p q xs → Sees two q r ys → Sees (one × two) p r (xs ++ ys)
  sees_then one two p q r xs ys first second now regions are has inside numbered =
      let n = numbered_both count numbers xs ys now numbered in
      let middle : Known = known_behind_all now xs in
      let a = first now regions are has inside n.0 in
      let same : here middle ≡ here now = ap region_of a.run.around in
      let b = second middle a.run.regions a.run.types (subst (HasPrivates middle q) (sym same) a.privates) a.inside n.1 in
      subst (λ after. IsSeen (one × two) now after r) (sym (behind_both xs ys now))
      (record {
        run = record { is = (a.run.is, b.run.is); regions = b.run.regions; types = b.run.types; around = b.run.around ∙ a.run.around };
        privates = subst (HasPrivates (known_behind_all middle ys) r) same b.privates;
        inside = b.inside;
      })

  -- What declares no type.
  sees_quiet : (one : Type 0) (p : Past) (xs : List Event) → all_quiet xs ≡ true → ((now : Known) → (known_behind_all now xs).open_regions ≡ now.open_regions)
      → (AreNewAt count numbers p xs → one) → Sees one p p xs
  sees_quiet one p xs quiet around new now regions are has inside numbered =
      let q = quiet_all xs now quiet regions in
      let after : Known = known_behind_all now xs in
      record {
        run = record {
          is = new (new_all count numbers xs now p quiet regions are numbered);
          regions = q.0;
          types = types_later now after p q.1 are;
          around = around now;
        };
        privates = privates_later now after p (here now) q.1 has;
        inside = inside;
      }

  sees_mild : (p : Past) (xs : List Event) → are_mild xs ≡ true → Sees (Unit {0}) p p xs
  sees_mild p xs mild = sees_quiet (Unit {0}) p xs (mild_quiet xs mild) (λ now. flat_all xs now (mild_flat xs mild)) (λ new. tt)

  sees_so : (one two : Type 0) (p q : Past) (xs : List Event) → (one → two) → Sees one p q xs → Sees two p q xs
  sees_so one two p q xs f sees now regions are has inside numbered =
      let a = sees now regions are has inside numbered in
      record {
        run = record { is = f a.run.is; regions = a.run.regions; types = a.run.types; around = a.run.around };
        privates = a.privates;
        inside = a.inside;
      }

  item_sees : (i : Item) (p : Past) → is_clause i ≡ false → AreEnded p (lowered_declaration numbers i)
      → Sees (Orderly count p (lowered_declaration numbers i)) p (past_after (lowered_declaration numbers i) p) (item_events i)
  item_sees i p plain ended now regions are has inside numbered =
      let r = item_result count numbers i now p regions are (λ hidden. has) numbered plain ended in
      record {
        run = record { is = r.orderly; regions = r.regions; types = r.types; around = r.around };
        privates = r.privates (here now) (inl inside) has;
        inside = r.same_package ∙ inside;
      }

  spec_around : (spec : Subspec) (now : Known)
      → (known_behind_all now (declares form.SubprogramDeclaration (spec_id spec) ∷ (e.RegionOpens ∷ (spec_rest spec ++ e.RegionCloses ∷ [])))).open_regions
      ≡ now.open_regions
  unfolding known_behind
  spec_around spec now =
      let event : Event = declares form.SubprogramDeclaration (spec_id spec) in
      let first : Known = known_behind now event in
      let inner : Known = known_behind first e.RegionOpens in
      let rest : List Event = spec_rest spec in
      ap (λ (k : Known). k.open_regions) (behind_both rest (e.RegionCloses ∷ []) inner)
      ∙ ap (drop 1) (flat_all rest inner (mild_flat rest (spec_mild spec))) ∙ flat_all (event ∷ []) now refl

  spec_sees : (spec : Subspec) (p : Past)
      → Sees (NewFront count (lowered_subspec numbers spec) p) p p (subspec_events form.SubprogramDeclaration spec ++ e.RegionCloses ∷ [])
  spec_sees spec p =
      let rest : List Event = spec_rest spec in
      let event : Event = declares form.SubprogramDeclaration (spec_id spec) in
      subst (λ zs. Sees (NewFront count (lowered_subspec numbers spec) p) p p (zs ++ e.RegionCloses ∷ [])) (sym (spec_is form.SubprogramDeclaration spec))
      (sees_quiet (NewFront count (lowered_subspec numbers spec) p) p (event ∷ (e.RegionOpens ∷ (rest ++ e.RegionCloses ∷ [])))
      (quiet_both rest (e.RegionCloses ∷ []) (mild_quiet rest (spec_mild spec)) refl) (spec_around spec) (λ new.
      spec_new form.SubprogramDeclaration p spec (new.0, (tt, (new_both count numbers p rest (e.RegionCloses ∷ []) new.1.1).0))))

  clause_mild : (i : Item) → is_clause i ≡ true → are_mild (item_events i) ≡ true
  unfolding item_events
  clause_mild (item.Use pos c) is = use_mild c
  clause_mild (item.Pragma pos c) is = refl
  clause_mild _ is = absurd (true≢false (sym is))

  decls_see : (ds : List Decl) (p : Past) → AreEnded p (lowered_decls numbers ds)
      → Sees (Orderly count p (lowered_decls numbers ds)) p (past_after (lowered_decls numbers ds) p) (flat_map decl_events ds)
  unfolding decl_before decl_events item_before Orderly past_after AreEnded
  decls_see [] p ended = sees_mild p [] refl
  decls_see (decl.OfItem pos (item.Use at c) ∷ rest) p ended =
      let code : Code = lowered_decls numbers rest in
      let i : Item = item.Use at c in
      sees_so (Unit {0} × Orderly count p code) (Orderly count p code) p (past_after code p) (item_events i ++ flat_map decl_events rest) (λ o. o.1)
      (sees_then (Unit {0}) (Orderly count p code) p p (past_after code p) (item_events i) (flat_map decl_events rest)
      (sees_mild p (item_events i) (clause_mild i refl)) (decls_see rest p ended))
  decls_see (decl.OfItem pos (item.Pragma at c) ∷ rest) p ended =
      let code : Code = lowered_decls numbers rest in
      let i : Item = item.Pragma at c in
      sees_so (Unit {0} × Orderly count p code) (Orderly count p code) p (past_after code p) (item_events i ++ flat_map decl_events rest) (λ o. o.1)
      (sees_then (Unit {0}) (Orderly count p code) p p (past_after code p) (item_events i) (flat_map decl_events rest)
      (sees_mild p (item_events i) (clause_mild i refl)) (decls_see rest p ended))
  decls_see (decl.OfItem pos i ∷ rest) p ended =
      let one : Code = lowered_declaration numbers i in
      let q : Past = past_after one p in
      let code : Code = lowered_decls numbers rest in
      sees_then (Orderly count p one) (Orderly count q code) p q (past_after code q) (item_events i) (flat_map decl_events rest) (item_sees i p refl ended.0)
      (decls_see rest q ended.1)
  decls_see (decl.Subprogram pos spec mode semicolon ∷ rest) p ended =
      let code : Code = lowered_decls numbers rest in
      sees_then (NewFront count (lowered_subspec numbers spec) p) (Orderly count p code) p p (past_after code p)
      (subspec_events form.SubprogramDeclaration spec ++ e.RegionCloses ∷ []) (flat_map decl_events rest) (spec_sees spec p) (decls_see rest p ended.1)

  -- ---- units

  -- What these events do, wherever they stand.
  record IsEnd (one : Type 0) (after : Known) (q : Past) : Type 0 where
    is : one
    regions : AreRegions after
    types : AreTypes after q

  abbrev Ends : Type 0 → Past → Past → List Event → Type 0
  Ends one p q events =
      (now : Known) → AreRegions now → AreTypes now p → AreNumbered count numbers now events → IsEnd one (known_behind_all now events) q

  types_within : (b : Bool) (now : Known) (p : Past) → AreTypes now p → AreTypes now (within b p)
  types_within b now p are = record { awaited = are.awaited; defined = are.defined; incomplete = are.incomplete }

  private_ends : (o : Option PrivatePart) (p : Past) (now : Known) → AreEnded p (lowered_private numbers o) → AreRegions now → AreTypes now p
      → HasPrivates now p (here now) → p.in_package ≡ true → AreNumbered count numbers now (each_of private_events o)
      → IsEnd (Orderly count p (lowered_private numbers o)) (known_behind_all now (each_of private_events o)) (past_after (lowered_private numbers o) p)
  unfolding known_behind Orderly past_after
  private_ends None p now ended regions are has inside numbered = record { is = tt; regions = regions; types = are }
  private_ends (Some part_of_package) p now ended regions are has inside numbered =
      let middle : Known = known_behind now e.PrivatePartBegins in
      let same : here middle ≡ here now = turned_same now.open_regions in
      let a = decls_see part_of_package.decls p ended middle (regions_behind now e.PrivatePartBegins refl regions)
      (types_later now middle p (quiet_behind now e.PrivatePartBegins refl) are)
      (subst (HasPrivates middle p) (sym same) (privates_later now middle p (here now) (quiet_behind now e.PrivatePartBegins refl) has)) inside numbered.1 in
      record { is = a.run.is; regions = a.run.regions; types = a.run.types }
    where
      turned_same : (rs : List OpenRegion) → region_of (turned_private rs) ≡ region_of rs
      turned_same [] = refl
      turned_same (r ∷ rest) = refl

  package_ends : (whole : Package) (p : Past) → AreEnded p (lowered_package numbers whole)
      → Ends (Orderly count p (lowered_package numbers whole)) p (past_after (lowered_package numbers whole) p) (package_events whole)
  unfolding lowered_package Orderly past_after AreEnded
  package_ends whole p ended now regions are numbered =
      let id : FoldedIdentifier = folded_identifier whole.name in
      let first : Known = package_begun now id in
      let p1 : Past = within true p in
      let visible : Code = lowered_decls numbers whole.visible in
      let hidden : Code = lowered_private numbers whole.private in
      let xs : List Event = flat_map decl_events whole.visible in
      let ys : List Event = each_of private_events whole.private in
      let closing : List Event = e.RegionCloses ∷ closing_events whole.name whole.closing in
      let q : Past = past_after visible p1 in
      let new : IsNew count (number_of numbers whole.name) p = subst (λ d. IsNew count d p) (sym numbered.0.0)
      (other_number count now p form.Package (folded whole.name) refl regions are numbered.0.1) in
      let first_regions : AreRegions first = package_regions now id regions in
      let first_types : AreTypes first p1 = types_within true first p (types_later now first p (package_quiet now id) are) in
      let here_first : here first ≡ now.region_count = ap region_of (package_open now id) in
      let none : HasPrivates first p1 (here first) = λ d x is what where_is shown waits.
      absurd (not_there x.1.region now.region_count (package_new now id regions d x is) (where_is ∙ here_first)) in
      let n = numbered_both count numbers xs (ys ++ closing) first numbered.1.1.1 in
      let a = decls_see whole.visible p1 ended.0 first first_regions first_types none refl n.0 in
      let second : Known = known_behind_all first xs in
      let same : here second ≡ here first = ap region_of a.run.around in
      let m = numbered_both count numbers ys closing second n.1 in
      let b = private_ends whole.private (within true q) second ended.1 a.run.regions (types_within true second q a.run.types)
      (subst (HasPrivates second (within true q)) (sym same) a.privates) refl m.0 in
      let third : Known = known_behind_all second ys in
      let quiet : all_quiet closing ≡ true = mild_quiet (closing_events whole.name whole.closing) (closing_mild whole.name whole.closing) in
      let c = quiet_all closing third quiet b.regions in
      let r : Past = past_after hidden (within true q) in
      let after : Known = known_behind_all third closing in
      let last : known_behind_all first (xs ++ (ys ++ closing)) ≡ after = behind_both xs (ys ++ closing) first ∙ behind_both ys closing second in
      subst (λ k. IsEnd (IsNew count (number_of numbers whole.name) p × (Orderly count p1 visible × Orderly count (within true q) hidden)) k (within false r)) (sym last)
      (record {
        is = (new, (a.run.is, b.is));
        regions = c.0;
        types = types_within false after r (types_later third after r c.1 b.types);
      })
    where
      not_there : (a b : ℕ) → a < b → a ≡ b → ⊥
      not_there a b less same = omega (arith, less, same)

  -- ---- bodies of packages

  decl_goes : (d : Decl) (others : Code) (p q : Past) (ys : List Event) → AreEnded p (decl_before numbers others d)
      → ((p : Past) → AreEnded p others → Goes count numbers (Orderly count p others) p (past_after others p) ys)
      → Goes count numbers (Orderly count p (decl_before numbers others d)) p (past_after (decl_before numbers others d) p) (decl_events d ++ ys)
  unfolding decl_before decl_events item_before Orderly past_after AreEnded
  decl_goes (decl.OfItem pos (item.Use at c)) others p q ys ended rest =
      let i : Item = item.Use at c in
      goes_after count numbers (Orderly count p others) p (past_after others p) (item_events i) ys (clause_mild i refl) (rest p ended)
  decl_goes (decl.OfItem pos (item.Pragma at c)) others p q ys ended rest =
      let i : Item = item.Pragma at c in
      goes_after count numbers (Orderly count p others) p (past_after others p) (item_events i) ys (clause_mild i refl) (rest p ended)
  decl_goes (decl.OfItem pos i) others p q ys ended rest =
      let one : Code = lowered_declaration numbers i in
      let r : Past = past_after one p in
      goes_then count numbers (Orderly count p one) (Orderly count r others) p r (past_after others r) (item_events i) ys (item_goes count numbers i p refl ended.0)
      (rest r ended.1)
  decl_goes (decl.Subprogram pos spec mode semicolon) others p q ys ended rest =
      let front : Type 0 = NewFront count (lowered_subspec numbers spec) p in
      let xs : List Event = subspec_events form.SubprogramDeclaration spec ++ e.RegionCloses ∷ [] in
      let whole = goes_so count numbers (front × Unit {0}) front p p
      (declares form.SubprogramDeclaration (spec_id spec) ∷ (e.RegionOpens ∷ (spec_rest spec ++ e.RegionCloses ∷ []))) (λ o. o.0)
      (spec_goes form.SubprogramDeclaration spec (Unit {0}) p p [] (λ id. refl) (goes_mild count numbers (Unit {0}) p [] refl (λ new. tt))) in
      goes_then count numbers front (Orderly count p others) p p (past_after others p) xs ys
      (subst (λ zs. Goes count numbers front p p (zs ++ e.RegionCloses ∷ [])) (sym (spec_is form.SubprogramDeclaration spec)) whole) (rest p ended.1)

  parts_go : (parts : List BodyPart) (p : Past) → AreEnded p (before_all (part_before numbers) parts)
      → Goes count numbers (Orderly count p (before_all (part_before numbers) parts)) p (past_after (before_all (part_before numbers) parts) p)
      (flat_map body_part_events parts)
  unfolding part_before body_part_events Orderly past_after AreEnded
  parts_go [] p ended = goes_mild count numbers (Unit {0}) p [] refl (λ new. tt)
  parts_go (body_part.Declared pos d ∷ rest) p ended =
      decl_goes d (before_all (part_before numbers) rest) p p (flat_map body_part_events rest) ended (parts_go rest)
  parts_go (body_part.Completed pos body ∷ rest) p ended =
      let one : Code = lowered_subprogram numbers body in
      let q : Past = past_after one p in
      let code : Code = before_all (part_before numbers) rest in
      goes_then count numbers (Orderly count p one) (Orderly count q code) p q (past_after code q) (subprogram_events body) (flat_map body_part_events rest)
      (subprogram_goes body p ended.0) (parts_go rest q ended.1)

  body_shown : (now : Known) (id : FoldedIdentifier) → IsShown (known_behind now (e.PackageBodyOpens id))
  unfolding known_behind
  body_shown now id = by (source_package now.ended id.name)
    where
      hidden : part.Body ≡ part.Private → ⊥
      hidden same = cc

      by : (o : Option Declaration) → IsShown (open_body now id o)
      by None = hidden
      by (Some d) = hidden

  package_body_ends : (body : PackageBody) (p : Past) → AreEnded p (lowered_package_body numbers body)
      → Ends (Orderly count p (lowered_package_body numbers body)) p (past_after (lowered_package_body numbers body) p) (package_body_events body)
  unfolding lowered_package_body Orderly past_after AreEnded
  package_body_ends body p ended now regions are numbered =
      let event : Event = e.PackageBodyOpens (folded_identifier body.name) in
      let first : Known = known_behind now event in
      let p1 : Past = within true p in
      let code : Code = before_all (part_before numbers) body.parts in
      let xs : List Event = flat_map body_part_events body.parts in
      let closing : List Event = e.RegionCloses ∷ closing_events body.name body.closing in
      let n = numbered_both count numbers xs closing first numbered.1 in
      let a = parts_go body.parts p1 ended first (regions_behind now event refl regions)
      (types_within true first p (types_later now first p (quiet_behind now event refl) are)) (body_shown now (folded_identifier body.name)) n.0 in
      let second : Known = known_behind_all first xs in
      let quiet : all_quiet closing ≡ true = mild_quiet (closing_events body.name body.closing) (closing_mild body.name body.closing) in
      let c = quiet_all closing second quiet a.regions in
      let r : Past = past_after code p1 in
      let after : Known = known_behind_all second closing in
      subst (λ k. IsEnd (Orderly count p1 code) k (within false r)) (sym (behind_both xs closing first))
      (record { is = a.is; regions = c.0; types = types_within false after r (types_later second after r c.1 a.types) })

  -- ---- what stands before a unit

  with_mild : (c : Context) → are_mild (with_events c) ≡ true
  unfolding with_events
  with_mild (context.With pos first rest semicolon) = each (first ∷ map next_dotted_name rest)
    where
      each : (ds : List Dotted) → are_mild (map has_with ds) ≡ true
      each [] = refl
      each (d ∷ rest) = each rest
  with_mild _ = refl

  context_mild : (c : Context) → are_mild (context_events c) ≡ true
  unfolding context_events
  context_mild (context.With pos first rest semicolon) = each (first ∷ map next_dotted_name rest)
    where
      each : (ds : List Dotted) → are_mild (map (mention clause.With) ds) ≡ true
      each [] = refl
      each (d ∷ rest) = each rest
  context_mild (context.Use pos c) = use_mild c
  context_mild (context.Pragma pos c) = refl

  front_quiet : (of : Option (List ℕ)) (clauses : List Context) → all_quiet (unit_front of clauses) ≡ true
  front_quiet of clauses =
      mild_quiet (flat_map with_events clauses ++ flat_map context_events clauses)
      (mild_both (flat_map with_events clauses) (flat_map context_events clauses) (mild_each with_events with_mild clauses)
      (mild_each context_events context_mild clauses))

  front_shown : (of : Option (List ℕ)) (clauses : List Context) (now : Known) → IsShown (known_behind_all now (unit_front of clauses))
  unfolding known_behind
  front_shown of clauses now hidden =
      let first : Known = known_behind now (e.UnitBegins of) in
      let xs : List Event = flat_map with_events clauses ++ flat_map context_events clauses in
      let mild : are_mild xs ≡ true =
      mild_both (flat_map with_events clauses) (flat_map context_events clauses) (mild_each with_events with_mild clauses)
      (mild_each context_events context_mild clauses) in
      visible (sym (ap part_of (flat_all xs first (mild_flat xs mild))) ∙ hidden)
    where
      visible : part.Visible ≡ part.Private → ⊥
      visible same = cc

  front_ends : (one : Type 0) (p q : Past) (of : Option (List ℕ)) (clauses : List Context) (ys : List Event)
      → ((now : Known) → IsShown now → AreRegions now → AreTypes now p → AreNumbered count numbers now ys → IsEnd one (known_behind_all now ys) q)
      → Ends one p q (unit_front of clauses ++ ys)
  front_ends one p q of clauses ys ends now regions are numbered =
      let xs : List Event = unit_front of clauses in
      let n = numbered_both count numbers xs ys now numbered in
      let f = quiet_all xs now (front_quiet of clauses) regions in
      let middle : Known = known_behind_all now xs in
      subst (λ k. IsEnd one k q) (sym (behind_both xs ys now)) (ends middle (front_shown of clauses now) f.0 (types_later now middle p f.1 are) n.1)

  unit_ends : (u : SourceUnit) (p : Past) → AreEnded p (lowered_unit numbers u)
      → Ends (Orderly count p (lowered_unit numbers u)) p (past_after (lowered_unit numbers u) p) (unit_events u)
  unfolding lowered_unit unit_events
  unit_ends (unit.OfPackage pos clauses whole) p ended =
      let code : Code = lowered_package numbers whole in
      front_ends (Orderly count p code) p (past_after code p) None clauses (package_events whole) (λ now shown. package_ends whole p ended now)
  unit_ends (unit.OfBody pos clauses body) p ended =
      let code : Code = lowered_package_body numbers body in
      front_ends (Orderly count p code) p (past_after code p) (Some (folded body.name)) clauses (package_body_events body)
      (λ now shown. package_body_ends body p ended now)
  unit_ends (unit.OfSubprogram pos clauses body) p ended =
      let code : Code = lowered_subprogram numbers body in
      front_ends (Orderly count p code) p (past_after code p) None clauses (subprogram_events body) (λ now shown regions are numbered.
      let a = subprogram_goes body p ended now regions are shown numbered in record { is = a.is; regions = a.regions; types = a.types })

  -- ---- files

  file_orderly : (units : List SourceUnit) (more : List Code) (zs : List Event) (p : Past) (now : Known) → AreRegions now → AreTypes now p
      → AreNumbered count numbers now (flat_map unit_events units ++ zs) → AllEnded p (map (lowered_unit numbers) units ++ more)
      → ((q : Past) (after : Known) → AreRegions after → AreTypes after q → AreNumbered count numbers after zs → AllEnded q more → AllOrderly count q more)
      → AllOrderly count p (map (lowered_unit numbers) units ++ more)
  file_orderly [] more zs p now regions are numbered ended rest = rest p now regions are numbered ended
  file_orderly (u ∷ units) more zs p now regions are numbered ended rest =
      let xs : List Event = unit_events u in
      let ys : List Event = flat_map unit_events units ++ zs in
      let n = numbered_both count numbers xs ys now (subst (AreNumbered count numbers now) (append_assoc xs (flat_map unit_events units) zs) numbered) in
      let a = unit_ends u p ended.0 now regions are n.0 in
      (a.is, file_orderly units more zs (past_after (lowered_unit numbers u) p) (known_behind_all now xs) a.regions a.types n.1 ended.1 rest)

  pub files_orderly : (files : List (List SourceUnit)) (p : Past) (now : Known) → AreRegions now → AreTypes now p
      → AreNumbered count numbers now (source_events files) → AllEnded p (lowered_files numbers files) → AllOrderly count p (lowered_files numbers files)
  unfolding source_events lowered_files
  files_orderly [] p now regions are numbered ended = tt
  files_orderly (units ∷ rest) p now regions are numbered ended =
      file_orderly units (flat_map (map (lowered_unit numbers)) rest) (flat_map (flat_map unit_events) rest) p now regions are numbered ended
      (λ q after regions are numbered ended. files_orderly rest q after regions are numbered ended)
