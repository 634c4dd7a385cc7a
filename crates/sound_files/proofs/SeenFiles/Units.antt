-- In subprograms and units what names denote of objects is in scope.
use Rattle.std.proofs.Common.{◌≡◌, inl, inr, ℕ, true, List, [], ◌∷◌, ◌++◌, map, refl, sym, ap, ◌∙◌, subst, append_assoc, Option, Some, None}
use Rattle.std.specs.List.{flat_map}
use Rattle.machine.specs.spark_base.Lists.{Has}
use Rattle.soundness.proofs.Lists.{Has-append_cases, Has-append_left, Has-append_right}
use Rattle.ada_tree.specs.declared.identifier.Identifier.{Identifier}
use Rattle.ada_tree.specs.declared.declaration.Indication.{Indication}
use Rattle.ada_tree.specs.declared.subprogram.Subspec.{Subspec}
use Rattle.ada_tree.specs.declared.subprogram.Subspec.TheVariants as subspec
use Rattle.ada_tree.specs.declared.subprogram.Formals.{Formals}
use Rattle.ada_tree.specs.declared.subprogram.NextFormal.{NextFormal}
use Rattle.ada_tree.specs.declared.subprogram.NextFormal.TheVariants as next_formal
use Rattle.ada_tree.specs.declared.subprogram.Formal.{Formal}
use Rattle.ada_tree.specs.declared.subprogram.Formal.TheVariants as formal
use Rattle.ada_tree.specs.declared.subprogram.Decl.{Decl}
use Rattle.ada_tree.specs.declared.subprogram.Decl.TheVariants as decl
use Rattle.ada_tree.specs.declared.unit.BodyPart.{BodyPart}
use Rattle.ada_tree.specs.declared.unit.BodyPart.TheVariants as part
use Rattle.ada_tree.specs.declared.unit.SubprogramBody.{SubprogramBody}
use Rattle.name_events.specs.declared.event.Event.{Event}
use Rattle.name_events.specs.declared.event.Event.TheVariants as e
use Rattle.name_events.specs.declared.event.Clause.TheVariants as clause
use Rattle.name_events.specs.declared.declaration.DeclarationForm.{DeclarationForm}
use Rattle.name_events.specs.declared.declaration.DeclarationForm.TheVariants as form
use Rattle.name_events.specs.ExpressionOutline.{declares, declares_all, mention, each_of}
use Rattle.name_events.specs.Outline.{indication_events, item_events, stmts_events, formal_events, next_formal_events, formals_events, subspec_events, body_form, subspec_name, closing_events, subprogram_events, decl_events, body_part_events}
use Rattle.name_events.specs.Known.{Known, here}
use Rattle.machine.specs.resolved_tree.Trees.{Code, code_list}
use Rattle.expression_lowering.specs.LoweredExpressions.{Numbers}
use Rattle.tree_lowering.specs.Lowered.{declared_all, lowered_items, before_all, lowered_stmts, lowered_formal, lowered_next_formal, lowered_formals, lowered_subspec, lowered_subprogram, decl_before, part_before, lowered_decls}
use Rattle.sound_files.specs.SeenFiles.Fits.{all_numbers, group_numbers, formal_numbers, front_numbers, scope_after, AreObjects, Fits}
use Rattle.sound_files.specs.SeenFiles.Reached.{IsObjectIn}
use Rattle.sound_files.proofs.SeenFiles.Runs.{all_calm, mention_calm, calm_both, Goes, goes_then, goes_so, goes_more, goes_nothing, goes_first, goes_second, goes_calm, goes_region}
use Rattle.sound_files.proofs.SeenFiles.Statements.{Fit, indication_speaks, objects_go, Follows, nothing_follows, item_then, items_fit, stmts_fit}

-- ---- lists of numbers

regroup_numbers : (ns ms os : List ℕ) (n : ℕ) → Has (ms ++ (ns ++ os)) n → Has ((ns ++ ms) ++ os) n
regroup_numbers ns ms os n has = elim (Has-append_cases ms (ns ++ os) n has) [
  | inl middle ↦ Has-append_left (ns ++ ms) os n (Has-append_right ns ms n middle)
  | inr rest ↦ elim (Has-append_cases ns os n rest) [
    | inl first ↦ Has-append_left (ns ++ ms) os n (Has-append_left ns ms n first)
    | inr last ↦ Has-append_right (ns ++ ms) os n last
  ]
]

pub closing_calm : (of : Identifier) (o : Option Identifier) → all_calm (closing_events of o) ≡ true
closing_calm of None = refl
closing_calm of (Some id) = refl

front_calm : (s : Subspec) → all_calm (declares (body_form s) (subspec_name s) ∷ []) ≡ true
unfolding body_form subspec_name
front_calm (subspec.Procedure pos id formals) = refl
front_calm (subspec.Function pos id formals return_word result) = refl

-- What a subprogram has in its region before its items.
abbrev profile_events : Subspec → List Event
profile_events (subspec.Procedure pos id formals) = each_of formals_events formals ++ e.OuterDeclarationsEnd ∷ []
profile_events (subspec.Function pos id formals return_word result) =
    each_of formals_events formals ++ (indication_events result ++ e.OuterDeclarationsEnd ∷ [])

subspec_is : (new : DeclarationForm) (s : Subspec) → subspec_events new s ≡ declares new (subspec_name s) ∷ (e.RegionOpens ∷ profile_events s)
unfolding subspec_events subspec_name
subspec_is new (subspec.Procedure pos id formals) = refl
subspec_is new (subspec.Function pos id formals return_word result) = refl

module _ (numbers : Numbers) (whole : Known) where
  abbrev Objects : List ℕ → Type 0
  Objects ns = AreObjects (IsObjectIn whole) ns

  objects_both : (ns ms : List ℕ) → Objects ns → Objects ms → Objects (ns ++ ms)
  objects_both ns ms one two n has = elim (Has-append_cases ns ms n has) [ inl here ↦ one n here | inr later ↦ two n later ]

  -- ---- formals

  -- These are declared, and in scope after it.
  abbrev Declares : List ℕ → List Event → Type 0
  Declares ns xs = (s : List ℕ) → Goes numbers whole (Objects ns) s [] (ns ++ s) [] xs

  declares_none : Declares [] []
  declares_none s = goes_so numbers whole (Unit {0}) (Objects []) s [] s [] [] (λ u n has. absurd has) (goes_nothing numbers whole s [])

  declares_both : (ns ms : List ℕ) (xs ys : List Event) → Declares ns xs → Declares ms ys → Declares (ns ++ ms) (xs ++ ys)
  declares_both ns ms xs ys one two s =
      goes_more numbers whole (Objects (ns ++ ms)) s [] (ms ++ (ns ++ s)) [] ((ns ++ ms) ++ s) [] (xs ++ ys) (λ n has. regroup_numbers ns ms s n has) (λ n has. has)
      (goes_so numbers whole (Objects ns × Objects ms) (Objects (ns ++ ms)) s [] (ms ++ (ns ++ s)) [] (xs ++ ys) (λ p. objects_both ns ms p.0 p.1)
      (goes_then numbers whole (Objects ns) (Objects ms) s [] (ns ++ s) [] (ms ++ (ns ++ s)) [] xs ys (one s) (two (ns ++ s))))

  declares_calm : (ns : List ℕ) (xs ys : List Event) → Declares ns xs → all_calm ys ≡ true → Declares ns (xs ++ ys)
  declares_calm ns xs ys one calm s =
      goes_first numbers whole (Objects ns) s [] (ns ++ s) [] (ns ++ s) [] xs ys (one s) (goes_calm numbers whole (ns ++ s) ys calm)

  formal_declares : (f : Formal) → Declares (group_numbers (lowered_formal numbers f)) (formal_events f)
  unfolding formal_events lowered_formal
  formal_declares (formal.Moded pos first rest colon in_word out_word mark) s =
      let ns : List ℕ = all_numbers (declared_all numbers first rest) in
      let xs : List Event = declares_all form.Formal first rest ++ (mention clause.Elsewhere mark ∷ (e.DeclarationsEnd ∷ [])) in
      goes_so numbers whole (Objects ns × Unit {0}) (Objects ns) s [] (ns ++ s) [] xs (λ p. p.0)
      (objects_go numbers whole (Unit {0}) form.Formal refl first rest s (mention clause.Elsewhere mark ∷ []) (refl, λ a. tt))
  formal_declares (formal.Anonymous pos first rest colon access access_constant designated) s =
      let ns : List ℕ = all_numbers (declared_all numbers first rest) in
      let xs : List Event = declares_all form.Formal first rest ++ (mention clause.Elsewhere designated ∷ (e.DeclarationsEnd ∷ [])) in
      goes_so numbers whole (Objects ns × Unit {0}) (Objects ns) s [] (ns ++ s) [] xs (λ p. p.0)
      (objects_go numbers whole (Unit {0}) form.Formal refl first rest s (mention clause.Elsewhere designated ∷ []) (refl, λ a. tt))

  more_declare : (rest : List NextFormal) → Declares (formal_numbers (code_list (map (lowered_next_formal numbers) rest))) (flat_map next_formal_events rest)
  unfolding next_formal_events lowered_next_formal
  more_declare [] = declares_none
  more_declare (next_formal.Semicolon pos part ∷ rest) =
      declares_both (group_numbers (lowered_formal numbers part)) (formal_numbers (code_list (map (lowered_next_formal numbers) rest))) (formal_events part)
      (flat_map next_formal_events rest) (formal_declares part) (more_declare rest)

  formals_declare : (f : Option Formals) → Declares (formal_numbers (lowered_formals numbers f)) (each_of formals_events f)
  formals_declare None = declares_none
  formals_declare (Some f) =
      declares_both (group_numbers (lowered_formal numbers f.first)) (formal_numbers (code_list (map (lowered_next_formal numbers) f.rest)))
      (formal_events f.first) (flat_map next_formal_events f.rest) (formal_declares f.first) (more_declare f.rest)

  profile_declares : (spec : Subspec) → Declares (front_numbers (lowered_subspec numbers spec)) (profile_events spec)
  unfolding lowered_subspec
  profile_declares (subspec.Procedure pos id formals) =
      declares_calm (formal_numbers (lowered_formals numbers formals)) (each_of formals_events formals) (e.OuterDeclarationsEnd ∷ []) (formals_declare formals) refl
  profile_declares (subspec.Function pos id formals return_word result) =
      declares_calm (formal_numbers (lowered_formals numbers formals)) (each_of formals_events formals) (indication_events result ++ e.OuterDeclarationsEnd ∷ [])
      (formals_declare formals) (calm_both (indication_events result) (e.OuterDeclarationsEnd ∷ []) (mention_all result) refl)
    where
      mention_all : (i : Indication) → all_calm (indication_events i) ≡ true
      mention_all i = mention_calm (indication_events i) (indication_speaks numbers whole [] i).0

  -- ---- subprograms

  abbrev inner_events : SubprogramBody → List Event
  inner_events b = profile_events b.spec ++ (flat_map item_events b.items ++ stmts_events b.stmts)

  abbrev region_events : List Event → List Event
  region_events xs = e.RegionOpens ∷ (xs ++ e.RegionCloses ∷ [])

  body_is : (b : SubprogramBody)
      → subprogram_events b ≡ (declares (body_form b.spec) (subspec_name b.spec) ∷ []) ++ (region_events (inner_events b) ++ closing_events (subspec_name b.spec) b.closing)
  unfolding subprogram_events
  body_is b =
      let front : Event = declares (body_form b.spec) (subspec_name b.spec) in
      let xs : List Event = profile_events b.spec in
      let ys : List Event = flat_map item_events b.items in
      let zs : List Event = stmts_events b.stmts in
      let last : List Event = closing_events (subspec_name b.spec) b.closing in
      let rest : List Event = ys ++ (zs ++ (e.RegionCloses ∷ last)) in
      ap (λ ws. ws ++ rest) (subspec_is (body_form b.spec) b.spec)
      ∙ ap (λ ws. front ∷ (e.RegionOpens ∷ ws))
      (sym (append_assoc (xs ++ (ys ++ zs)) (e.RegionCloses ∷ []) last ∙ append_assoc xs (ys ++ zs) (e.RegionCloses ∷ last)
      ∙ ap (λ ws. xs ++ ws) (append_assoc ys zs (e.RegionCloses ∷ last))))

  pub subprogram_fits : (b : SubprogramBody) (s : List ℕ) → Goes numbers whole (Fit numbers whole s (lowered_subprogram numbers b)) s [] s [] (subprogram_events b)
  unfolding lowered_subprogram Fits
  subprogram_fits b s =
      let front : List Event = declares (body_form b.spec) (subspec_name b.spec) ∷ [] in
      let ns : List ℕ = front_numbers (lowered_subspec numbers b.spec) in
      let items : Code = lowered_items numbers b.items in
      let stmts : Code = lowered_stmts numbers b.stmts in
      let v : List ℕ = scope_after items (ns ++ s) in
      let one : Type 0 = Objects ns × (Fit numbers whole (ns ++ s) items × Fit numbers whole v stmts) in
      let closing : List Event = closing_events (subspec_name b.spec) b.closing in
      subst (λ xs. Goes numbers whole one s [] s [] xs) (sym (body_is b))
      (goes_second numbers whole one s [] s [] s [] front (region_events (inner_events b) ++ closing) (goes_calm numbers whole s front (front_calm b.spec))
      (goes_first numbers whole one s [] s [] s [] (region_events (inner_events b)) closing
      (goes_region numbers whole one s v (inner_events b)
      (goes_then numbers whole (Objects ns) (Fit numbers whole (ns ++ s) items × Fit numbers whole v stmts) s [] (ns ++ s) [] v [] (profile_events b.spec)
      (flat_map item_events b.items ++ stmts_events b.stmts) (profile_declares b.spec s)
      (goes_then numbers whole (Fit numbers whole (ns ++ s) items) (Fit numbers whole v stmts) (ns ++ s) [] v [] v [] (flat_map item_events b.items)
      (stmts_events b.stmts) (items_fit numbers whole b.items (ns ++ s)) (stmts_fit numbers whole b.stmts v))))
      (goes_calm numbers whole s closing (closing_calm (subspec_name b.spec) b.closing))))

  declared_fits : (spec : Subspec) (s : List ℕ)
      → Goes numbers whole (Objects (front_numbers (lowered_subspec numbers spec))) s [] s [] (subspec_events form.SubprogramDeclaration spec ++ e.RegionCloses ∷ [])
  declared_fits spec s =
      let front : List Event = declares form.SubprogramDeclaration (subspec_name spec) ∷ [] in
      let ns : List ℕ = front_numbers (lowered_subspec numbers spec) in
      subst (λ xs. Goes numbers whole (Objects ns) s [] s [] (xs ++ e.RegionCloses ∷ [])) (sym (subspec_is form.SubprogramDeclaration spec))
      (goes_second numbers whole (Objects ns) s [] s [] s [] front (region_events (profile_events spec)) (goes_calm numbers whole s front refl)
      (goes_region numbers whole (Objects ns) s (ns ++ s) (profile_events spec) (profile_declares spec s)))

  decl_then : (xs : List Event) (others : Code) (d : Decl) → Follows numbers whole xs others → Follows numbers whole (decl_events d ++ xs) (decl_before numbers others d)
  unfolding decl_events decl_before Fits scope_after
  decl_then xs others (decl.OfItem pos declaration) follows s = item_then numbers whole xs others declaration follows s
  decl_then xs others (decl.Subprogram pos spec mode semicolon) follows s =
      let ns : List ℕ = front_numbers (lowered_subspec numbers spec) in
      goes_then numbers whole (Objects ns) (Fit numbers whole s others) s [] s [] (scope_after others s) []
      (subspec_events form.SubprogramDeclaration spec ++ e.RegionCloses ∷ []) xs (declared_fits spec s) (follows s)

  part_then : (xs : List Event) (others : Code) (p : BodyPart) → Follows numbers whole xs others
      → Follows numbers whole (body_part_events p ++ xs) (part_before numbers others p)
  unfolding body_part_events part_before lowered_subprogram Fits scope_after
  part_then xs others (part.Declared pos declaration) follows s = decl_then xs others declaration follows s
  part_then xs others (part.Completed pos body) follows s =
      let one : Type 0 = Fit numbers whole s (lowered_subprogram numbers body) in
      subst (λ v. Goes numbers whole (one × Fit numbers whole v others) s [] (scope_after others v) [] (subprogram_events body ++ xs)) (sym (body_scope body s))
      (goes_then numbers whole one (Fit numbers whole s others) s [] s [] (scope_after others s) [] (subprogram_events body) xs (subprogram_fits body s) (follows s))
    where
      body_scope : (b : SubprogramBody) (s : List ℕ) → scope_after (lowered_subprogram numbers b) s ≡ s
      body_scope b s = refl

  pub decls_follow : (decls : List Decl) → Follows numbers whole (flat_map decl_events decls) (lowered_decls numbers decls)
  decls_follow [] = nothing_follows numbers whole
  decls_follow (d ∷ rest) = decl_then (flat_map decl_events rest) (lowered_decls numbers rest) d (decls_follow rest)

  pub parts_follow : (parts : List BodyPart) → Follows numbers whole (flat_map body_part_events parts) (before_all (part_before numbers) parts)
  parts_follow [] = nothing_follows numbers whole
  parts_follow (p ∷ rest) = part_then (flat_map body_part_events rest) (before_all (part_before numbers) rest) p (parts_follow rest)
