-- Files that break no rule of names have no library function: it would be a second declaration in the region of
-- library units.
use Rattle.std.proofs.Common.{◌≡◌, inl, inr, ℕ, zero, suc, ◌≤◌, Bool, true, false, not, ◌&&◌, ◌||◌, List, [], ◌∷◌, ◌++◌, map, nat_eq, refl, sym, ap, ◌∙◌, subst, arith, Option, Some, None, is_some, true≢false, append_assoc, if◌then◌else◌}
use Rattle.std.specs.List.{flat_map, AllByRecursion}
use Rattle.std.specs.Prelude.{option_map}
use Rattle.std.proofs.lemmas.Bool.{eqb-true}
use Rattle.machine.specs.spark_base.Lists.{Has}
use Rattle.ada_tree.specs.declared.identifier.Identifier.{Identifier}
use Rattle.ada_tree.specs.declared.identifier.Dotted.{Dotted}
use Rattle.ada_tree.specs.declared.declaration.UseClause.{UseClause}
use Rattle.ada_tree.specs.declared.subprogram.Subspec.{Subspec}
use Rattle.ada_tree.specs.declared.subprogram.Subspec.TheVariants as subspec
use Rattle.ada_tree.specs.declared.subprogram.Decl.{Decl}
use Rattle.ada_tree.specs.declared.subprogram.Decl.TheVariants as decl
use Rattle.ada_tree.specs.declared.unit.SourceUnit.{SourceUnit}
use Rattle.ada_tree.specs.declared.unit.SourceUnit.TheVariants as unit
use Rattle.ada_tree.specs.declared.unit.Context.{Context}
use Rattle.ada_tree.specs.declared.unit.Context.TheVariants as context
use Rattle.ada_tree.specs.declared.unit.Package.{Package}
use Rattle.ada_tree.specs.declared.unit.PrivatePart.{PrivatePart}
use Rattle.ada_tree.specs.declared.unit.PackageBody.{PackageBody}
use Rattle.ada_tree.specs.declared.unit.BodyPart.{BodyPart}
use Rattle.ada_tree.specs.declared.unit.BodyPart.TheVariants as part
use Rattle.ada_tree.specs.declared.unit.SubprogramBody.{SubprogramBody}
use Rattle.name_events.specs.declared.event.Event.{Event}
use Rattle.name_events.specs.declared.event.Event.TheVariants as e
use Rattle.name_events.specs.declared.event.Clause.{Clause}
use Rattle.name_events.specs.declared.event.Clause.TheVariants as clause
use Rattle.name_events.specs.declared.event.FoldedIdentifier.{FoldedIdentifier}
use Rattle.name_events.specs.declared.declaration.Declaration.{Declaration}
use Rattle.name_events.specs.declared.declaration.DeclarationForm.{DeclarationForm}
use Rattle.name_events.specs.declared.declaration.DeclarationForm.TheVariants as form
use Rattle.name_events.specs.declared.declaration.RegionPart.{RegionPart}
use Rattle.name_events.specs.declared.declaration.NameRule.TheVariants.{Twice, NoBody}
use Rattle.name_events.specs.Declarations.{Entry, Name, is_package, first_where, is_named, declared_in, has_number, same}
use Rattle.name_events.specs.Predefined.{predefined_entries}
use Rattle.name_events.specs.ExpressionOutline.{folded, folded_identifier, declares, mention, mentions, next_dotted_name, each_of}
use Rattle.name_events.specs.Outline.{item_events, stmts_events, use_events, clause_of, subspec_events, body_form, subspec_name, closing_events, subprogram_events, decl_events, body_part_events, private_events, package_events, package_body_events, has_with, with_events, context_events, unit_front, unit_events, source_events}
use Rattle.name_events.specs.Known.{Known, here, part_here, region_of}
use Rattle.name_events.specs.Completions.{awaits, completes_form, may_complete, if_completes, completed_by}
use Rattle.name_events.specs.KnownBehind.{known_behind, known_behind_all, known_at_first}
use Rattle.name_events.specs.Faults.{Fault, fault, is_second, is_incomplete, declaration_fault, name_fault}
use Rattle.name_events.specs.Denotes.{Files, known_of}
use Rattle.settled_types.proofs.OrderlyFiles.Declares.{behind_both}
use Rattle.settled_types.proofs.OrderlyFiles.Steps.{found_in}
use Rattle.settled_types.specs.NamedFiles.Library.{is_procedure_spec, is_no_function, AreProcedures}
use Rattle.settled_types.proofs.NamedFiles.Faults.{BreaksNone, one_none, first_none, second_none}
use Rattle.settled_types.proofs.NamedFiles.Regions.{Keeps, Steady, end_keeps, declares_keeps, package_body_keeps, steady_none, steady_both, steady_flat, region_keeps, steady_region, steady_private, steady_each, all_bare, all_bare_keeps, bare_both, begins_keeps}
use Rattle.settled_types.proofs.NamedFiles.Steady.{item_steady, items_steady, profile_events, profile_steady, stmts_steady}

-- ---- subprograms, declarations and parts of bodies, within a region

closing_bare : (of : Identifier) (o : Option Identifier) → all_bare (closing_events of o) ≡ true
closing_bare of None = refl
closing_bare of (Some id) = refl

closing_steady : (of : Identifier) (o : Option Identifier) → Steady (closing_events of o)
closing_steady of None = steady_none
closing_steady of (Some id) = steady_flat (e.EndsWithName (folded_identifier id) (folded of) ∷ []) refl

-- a region, and what stands after it
closed_steady : (xs ys : List Event) → Steady xs → Steady ys → Steady (e.RegionOpens ∷ (xs ++ (e.RegionCloses ∷ ys)))
closed_steady xs ys one two =
    subst (λ zs. Steady (e.RegionOpens ∷ zs)) (append_assoc xs (e.RegionCloses ∷ []) ys)
    (steady_both (e.RegionOpens ∷ (xs ++ e.RegionCloses ∷ [])) ys (steady_region xs one) two)

-- what a subprogram has in its region
inner_steady : (b : SubprogramBody) → Steady (profile_events b.spec ++ (flat_map item_events b.items ++ stmts_events b.stmts))
inner_steady b =
    steady_both (profile_events b.spec) (flat_map item_events b.items ++ stmts_events b.stmts) (profile_steady b.spec)
    (steady_both (flat_map item_events b.items) (stmts_events b.stmts) (items_steady b.items) (stmts_steady b.stmts))

regrouped : (xs ys zs last : List Event) → (xs ++ (ys ++ zs)) ++ last ≡ xs ++ (ys ++ (zs ++ last))
regrouped xs ys zs last = append_assoc xs (ys ++ zs) last ∙ ap (λ ws. xs ++ ws) (append_assoc ys zs last)

abbrev last_events : SubprogramBody → List Event
last_events b = e.RegionCloses ∷ closing_events (subspec_name b.spec) b.closing

subspec_is : (items stmts : List Event) (closing : Option Identifier) (s : Subspec)
    → subspec_events (body_form s) s ++ (items ++ (stmts ++ (e.RegionCloses ∷ closing_events (subspec_name s) closing)))
    ≡ declares (body_form s) (subspec_name s)
    ∷ (e.RegionOpens ∷ ((profile_events s ++ (items ++ stmts)) ++ (e.RegionCloses ∷ closing_events (subspec_name s) closing)))
unfolding subspec_events body_form subspec_name
subspec_is items stmts closing (subspec.Procedure pos id formals) =
    ap (λ ws. declares form.ProcedureBody id ∷ (e.RegionOpens ∷ ws))
    (sym (regrouped (profile_events (subspec.Procedure pos id formals)) items stmts (e.RegionCloses ∷ closing_events id closing)))
subspec_is items stmts closing (subspec.Function pos id formals return_word result) =
    ap (λ ws. declares form.FunctionBody id ∷ (e.RegionOpens ∷ ws))
    (sym (regrouped (profile_events (subspec.Function pos id formals return_word result)) items stmts (e.RegionCloses ∷ closing_events id closing)))

subprogram_is : (b : SubprogramBody)
    → subprogram_events b ≡ declares (body_form b.spec) (subspec_name b.spec) ∷ (e.RegionOpens ∷ ((profile_events b.spec ++ (flat_map item_events b.items ++ stmts_events b.stmts)) ++ last_events b))
unfolding subprogram_events
subprogram_is b = subspec_is (flat_map item_events b.items) (stmts_events b.stmts) b.closing b.spec

subprogram_steady : (b : SubprogramBody) → Steady (subprogram_events b)
subprogram_steady b =
    let inner : List Event = profile_events b.spec ++ (flat_map item_events b.items ++ stmts_events b.stmts) in
    let front : Event = declares (body_form b.spec) (subspec_name b.spec) in
    let closing : List Event = closing_events (subspec_name b.spec) b.closing in
    subst Steady (sym (subprogram_is b))
    (steady_both (front ∷ []) (e.RegionOpens ∷ (inner ++ (e.RegionCloses ∷ closing))) (steady_flat (front ∷ []) refl)
    (closed_steady inner closing (inner_steady b) (closing_steady (subspec_name b.spec) b.closing)))

declared_steady : (s : Subspec) → Steady (subspec_events form.SubprogramDeclaration s ++ e.RegionCloses ∷ [])
unfolding subspec_events
declared_steady (subspec.Procedure pos id formals) =
    let front : Event = declares form.SubprogramDeclaration id in
    let inner : List Event = profile_events (subspec.Procedure pos id formals) in
    steady_both (front ∷ []) (e.RegionOpens ∷ (inner ++ e.RegionCloses ∷ [])) (steady_flat (front ∷ []) refl)
    (steady_region inner (profile_steady (subspec.Procedure pos id formals)))
declared_steady (subspec.Function pos id formals return_word result) =
    let front : Event = declares form.SubprogramDeclaration id in
    let inner : List Event = profile_events (subspec.Function pos id formals return_word result) in
    steady_both (front ∷ []) (e.RegionOpens ∷ (inner ++ e.RegionCloses ∷ [])) (steady_flat (front ∷ []) refl)
    (steady_region inner (profile_steady (subspec.Function pos id formals return_word result)))

decl_steady : (d : Decl) → Steady (decl_events d)
unfolding decl_events
decl_steady (decl.OfItem pos declared) = item_steady declared
decl_steady (decl.Subprogram pos spec mode semicolon) = declared_steady spec

part_steady : (x : BodyPart) → Steady (body_part_events x)
unfolding body_part_events
part_steady (part.Declared pos declared) = decl_steady declared
part_steady (part.Completed pos body) = subprogram_steady body

private_steady : (o : Option PrivatePart) → Steady (each_of private_events o)
private_steady None = steady_none
private_steady (Some p) =
    steady_both (e.PrivatePartBegins ∷ []) (flat_map decl_events p.decls) steady_private (steady_each decl_events decl_steady p.decls)

-- ---- units

mentions_bare : (c : Clause) (ds : List Dotted) → all_bare (map (mention c) ds) ≡ true
mentions_bare c [] = refl
mentions_bare c (d ∷ rest) = mentions_bare c rest

withs_bare : (ds : List Dotted) → all_bare (map has_with ds) ≡ true
withs_bare [] = refl
withs_bare (d ∷ rest) = withs_bare rest

use_bare : (c : UseClause) → all_bare (use_events c) ≡ true
use_bare c =
    bare_both (mentions (clause_of c.type_word) c.first c.rest) (e.UseClauseEnds ∷ []) (mentions_bare (clause_of c.type_word) (c.first ∷ map next_dotted_name c.rest)) refl

context_bare : (c : Context) → all_bare (context_events c) ≡ true
unfolding context_events
context_bare (context.With pos first rest semicolon) = mentions_bare clause.With (first ∷ map next_dotted_name rest)
context_bare (context.Use pos c) = use_bare c
context_bare (context.Pragma pos c) = refl

has_bare : (c : Context) → all_bare (with_events c) ≡ true
unfolding with_events
has_bare (context.With pos first rest semicolon) = withs_bare (first ∷ map next_dotted_name rest)
has_bare (context.Use pos c) = refl
has_bare (context.Pragma pos c) = refl

each_bare : {A : Type 0} (f : A → List Event) → ((x : A) → all_bare (f x) ≡ true) → (xs : List A) → all_bare (flat_map f xs) ≡ true
each_bare f one [] = refl
each_bare f one (x ∷ rest) = bare_both (f x) (flat_map f rest) (one x) (each_bare f one rest)

-- the beginning of a unit
front_keeps : (body_of : Option (List ℕ)) (clauses : List Context) (now : Known) → Keeps now
    → Keeps (known_behind_all now (unit_front body_of clauses)) × (here (known_behind_all now (unit_front body_of clauses)) ≡ 0)
front_keeps body_of clauses now keeps =
    let begun = begins_keeps now body_of keeps in
    let first : Known = known_behind now (e.UnitBegins body_of) in
    let clauses_bare = bare_both (flat_map with_events clauses) (flat_map context_events clauses) (each_bare with_events has_bare clauses) (each_bare context_events context_bare clauses) in
    let a = all_bare_keeps (flat_map with_events clauses ++ flat_map context_events clauses) first clauses_bare begun.0 in
    (a.0, ap region_of a.1 ∙ begun.1)

-- a region from any place, and what stands after it
closed_keeps : (xs ys : List Event) (now : Known) → Steady xs → all_bare ys ≡ true → Keeps now
    → Keeps (known_behind_all now (e.RegionOpens ∷ (xs ++ (e.RegionCloses ∷ ys))))
closed_keeps xs ys now one bare keeps =
    let opened : List Event = e.RegionOpens ∷ (xs ++ e.RegionCloses ∷ []) in
    let a = region_keeps xs one now keeps in
    let b = all_bare_keeps ys (known_behind_all now opened) bare a.0 in
    subst (λ zs. Keeps (known_behind_all now (e.RegionOpens ∷ zs))) (append_assoc xs (e.RegionCloses ∷ []) ys)
    (subst Keeps (sym (behind_both opened ys now)) b.0)

package_keeps : (p : Package) (now : Known) → Keeps now → Keeps (known_behind_all now (package_events p))
unfolding known_behind
package_keeps p now keeps =
    let visible : List Event = flat_map decl_events p.visible in
    let hidden : List Event = each_of private_events p.private in
    let closing : List Event = closing_events p.name p.closing in
    let one : Known = known_behind now (declares form.Package p.name) in
    let first : Keeps one = declares_keeps now form.Package (folded_identifier p.name) (λ is. cc) keeps in
    let two : Known = known_behind one e.DeclarationsEnd in
    let next : Keeps two = end_keeps (here one) one first in
    subst (λ zs. Keeps (known_behind_all two (e.RegionOpens ∷ zs))) (append_assoc visible hidden (e.RegionCloses ∷ closing))
    (closed_keeps (visible ++ hidden) closing two
    (steady_both visible hidden (steady_each decl_events decl_steady p.visible) (private_steady p.private)) (closing_bare p.name p.closing) next)

closed_one : (k : Known) → Keeps k → Keeps (known_behind k e.RegionCloses)
unfolding known_behind
closed_one k keeps = record { begun = keeps.begun; none = keeps.none; pending = keeps.pending; ended = keeps.ended }

body_keeps : (b : PackageBody) (now : Known) → Keeps now → Keeps (known_behind_all now (package_body_events b))
unfolding known_behind
body_keeps b now keeps =
    let parts : List Event = flat_map body_part_events b.parts in
    let closing : List Event = closing_events b.name b.closing in
    let opened = package_body_keeps now (folded_identifier b.name) keeps in
    let inner : Known = known_behind now (e.PackageBodyOpens (folded_identifier b.name)) in
    let a = steady_each body_part_events part_steady b.parts inner opened.0 opened.1 in
    let last = all_bare_keeps closing (known_behind (known_behind_all inner parts) e.RegionCloses) (closing_bare b.name b.closing) (closed_one (known_behind_all inner parts) a.0) in
    subst Keeps (sym (behind_both parts (e.RegionCloses ∷ closing) inner)) last.0

form_other : (s : Subspec) → body_form s ≡ form.SubprogramDeclaration → ⊥
unfolding body_form
form_other (subspec.Procedure pos id formals) is = cc
form_other (subspec.Function pos id formals return_word result) is = cc

subprogram_keeps : (b : SubprogramBody) (now : Known) → Keeps now → Keeps (known_behind_all now (subprogram_events b))
subprogram_keeps b now keeps =
    let inner : List Event = profile_events b.spec ++ (flat_map item_events b.items ++ stmts_events b.stmts) in
    let front : Event = declares (body_form b.spec) (subspec_name b.spec) in
    subst (λ zs. Keeps (known_behind_all now zs)) (sym (subprogram_is b))
    (closed_keeps inner (closing_events (subspec_name b.spec) b.closing) (known_behind now front) (inner_steady b) (closing_bare (subspec_name b.spec) b.closing)
    (declares_keeps now (body_form b.spec) (folded_identifier (subspec_name b.spec)) (form_other b.spec) keeps))

unit_keeps : (u : SourceUnit) (now : Known) → Keeps now → Keeps (known_behind_all now (unit_events u))
unfolding unit_events
unit_keeps (unit.OfPackage pos clauses p) now keeps =
    let front : List Event = unit_front None clauses in
    subst Keeps (sym (behind_both front (package_events p) now)) (package_keeps p (known_behind_all now front) (front_keeps None clauses now keeps).0)
unit_keeps (unit.OfBody pos clauses body) now keeps =
    let front : List Event = unit_front (Some (folded body.name)) clauses in
    subst Keeps (sym (behind_both front (package_body_events body) now)) (body_keeps body (known_behind_all now front) (front_keeps (Some (folded body.name)) clauses now keeps).0)
unit_keeps (unit.OfSubprogram pos clauses body) now keeps =
    let front : List Event = unit_front None clauses in
    subst Keeps (sym (behind_both front (subprogram_events body) now)) (subprogram_keeps body (known_behind_all now front) (front_keeps None clauses now keeps).0)

-- ---- a function in the region of library units

completed_form : (old : DeclarationForm) (a b : RegionPart) → completes_form old a form.FunctionBody b ≡ true → old ≡ form.SubprogramDeclaration
completed_form form.SubprogramDeclaration a b is = refl
completed_form old a b is = absurd (true≢false (sym is))

abbrev is_awaited : Known → Name → Entry → Bool
is_awaited now w entry = is_named (here now) w entry && awaits entry.1.form

first_of : (a b : Bool) → a && b ≡ true → a ≡ true
first_of true b e = refl
first_of false b e = absurd (true≢false (sym e))

middle_of : (a b c : Bool) → a && (b && c) ≡ true → b ≡ true
middle_of true true c e = refl
middle_of true false c e = absurd (true≢false (sym e))
middle_of false b c e = absurd (true≢false (sym e))

some_only : (q : Bool) (d : Declaration) → is_some (if q then Some d else None) ≡ true → q ≡ true
some_only true d is = refl
some_only false d is = absurd (true≢false (sym is))

none_completed : (now : Known) (w : Name) → Keeps now → here now ≡ 0 → is_some (completed_by now form.FunctionBody w) ≡ true → ⊥
none_completed now w keeps at is = by (first_where (is_awaited now w) now.declared) refl is
  where
    by : (o : Option Entry) → first_where (is_awaited now w) now.declared ≡ o
        → is_some (if_completes now form.FunctionBody (option_map (λ (entry : Entry). entry.1) o)) ≡ true → ⊥
    by None found is = true≢false (sym is)
    by (Some x) found is =
        let d : Declaration = x.1 in
        let f = found_in (is_awaited now w) now.declared x found in
        let named : is_named (here now) w x ≡ true = first_of (is_named (here now) w x) (awaits d.form) f.1 in
        let region : here now ≡ d.region = eqb-true (here now) d.region (first_of (nat_eq (here now) d.region) (same w x.0) named) in
        let waiting : Bool = not (has_number d.number now.completed) in
        let completes : Bool = completes_form d.form d.part form.FunctionBody (part_here now) in
        let whole : may_complete now && (completes && waiting) ≡ true = some_only (may_complete now && (completes && waiting)) d is in
        keeps.none x f.0 (completed_form d.form d.part (part_here now) (middle_of (may_complete now) completes waiting whole)) (sym region ∙ at)

function_second : (now : Known) (w : Name) → Keeps now → here now ≡ 0 → is_second now form.FunctionBody w ≡ true
function_second now w keeps at = by (is_some (completed_by now form.FunctionBody w)) refl
  where
    library : nat_eq 0 (here now) ≡ true
    library = subst (λ n. nat_eq 0 n ≡ true) (sym at) refl

    or_true : (a b : Bool) → b ≡ true → a || b ≡ true
    or_true true b e = refl
    or_true false b e = e

    by : (q : Bool) → is_some (completed_by now form.FunctionBody w) ≡ q
        → not q && (is_some (declared_in now.declared (here now) w) || (nat_eq 0 (here now) && true)) ≡ true
    by true is = absurd (none_completed now w keeps at is)
    by false is = or_true (is_some (declared_in now.declared (here now) w)) (nat_eq 0 (here now) && true) (rw library refl)

module _ (whole : Known) where
  function_faulty : (now : Known) (id : FoldedIdentifier) → Keeps now → here now ≡ 0 → declaration_fault whole now form.FunctionBody id ≡ None → ⊥
  function_faulty now id keeps at none =
      let second : Fault = (Twice, id.pos) in
      let open_one : Fault = (NoBody, id.pos) in
      by second open_one (is_second now form.FunctionBody id.name) (is_incomplete whole now form.FunctionBody) (function_second now id.name keeps at) none
    where
      by : (x y : Fault) (q r : Bool) → q ≡ true → (if q then Some x else if r then Some y else None) ≡ None → ⊥
      by x y true r is none = cc
      by x y false r is none = true≢false (sym is)

  spec_procedure : (now : Known) (s : Subspec) → Keeps now → here now ≡ 0 → fault whole now (declares (body_form s) (subspec_name s)) ≡ None → is_procedure_spec s ≡ true
  unfolding fault body_form subspec_name
  spec_procedure now (subspec.Procedure pos id formals) keeps at none = refl
  spec_procedure now (subspec.Function pos id formals return_word result) keeps at none = absurd (function_faulty now (folded_identifier id) keeps at none)

  procedure_only : (b : SubprogramBody) (now : Known) → Keeps now → here now ≡ 0 → BreaksNone whole now (subprogram_events b) → is_procedure_spec b.spec ≡ true
  procedure_only b now keeps at none =
      spec_procedure now b.spec keeps at (one_none whole (declares (body_form b.spec) (subspec_name b.spec))
      (e.RegionOpens ∷ ((profile_events b.spec ++ (flat_map item_events b.items ++ stmts_events b.stmts)) ++ last_events b)) now
      (subst (BreaksNone whole now) (subprogram_is b) none))

  unit_procedure : (u : SourceUnit) (now : Known) → Keeps now → BreaksNone whole now (unit_events u) → is_no_function u ≡ true
  unfolding unit_events
  unit_procedure (unit.OfPackage pos clauses p) now keeps none = refl
  unit_procedure (unit.OfBody pos clauses body) now keeps none = refl
  unit_procedure (unit.OfSubprogram pos clauses body) now keeps none =
      let front : List Event = unit_front None clauses in
      let a = front_keeps None clauses now keeps in
      procedure_only body (known_behind_all now front) a.0 a.1 (second_none whole front (subprogram_events body) now none)

  units_procedures : (us : List SourceUnit) (now : Known) → Keeps now → BreaksNone whole now (flat_map unit_events us)
      → AllByRecursion (λ (u : SourceUnit). is_no_function u ≡ true) us × Keeps (known_behind_all now (flat_map unit_events us))
  units_procedures [] now keeps none = (tt, keeps)
  units_procedures (u ∷ rest) now keeps none =
      let more = units_procedures rest (known_behind_all now (unit_events u)) (unit_keeps u now keeps) (second_none whole (unit_events u) (flat_map unit_events rest) now none) in (
        (unit_procedure u now keeps (first_none whole (unit_events u) (flat_map unit_events rest) now none), more.0),
        subst Keeps (sym (behind_both (unit_events u) (flat_map unit_events rest) now)) more.1,
      )

  files_procedures : (files : List (List SourceUnit)) (now : Known) → Keeps now → BreaksNone whole now (source_events files) → AreProcedures files
  unfolding source_events
  files_procedures [] now keeps none = tt
  files_procedures (us ∷ rest) now keeps none =
      let first = units_procedures us now keeps (first_none whole (flat_map unit_events us) (flat_map (flat_map unit_events) rest) now none) in
      (first.0, files_procedures rest (known_behind_all now (flat_map unit_events us)) first.1 (second_none whole (flat_map unit_events us) (flat_map (flat_map unit_events) rest) now none))

-- ---- at first

abbrev are_first : List Entry → Bool
are_first [] = true
are_first (x ∷ rest) = (not (awaits x.1.form) && (not (is_package x.1) || not (nat_eq x.1.own_region 0))) && are_first rest

first_facts : (xs : List Entry) → are_first xs ≡ true → (x : Entry) → Has xs x → (awaits x.1.form ≡ false) × (is_package x.1 ≡ true → 1 ≤ x.1.own_region)
first_facts [] all x has = absurd has
first_facts (y ∷ rest) all x has = elim has [
  | inl same ↦ subst (λ (x : Entry). (awaits x.1.form ≡ false) × (is_package x.1 ≡ true → 1 ≤ x.1.own_region)) same
      (here_facts (awaits y.1.form) (is_package y.1) y.1.own_region (are_first rest) all)
  | inr more ↦ first_facts rest (second (not (awaits y.1.form) && (not (is_package y.1) || not (nat_eq y.1.own_region 0))) (are_first rest) all) x more
]
  where
    second : (a b : Bool) → a && b ≡ true → b ≡ true
    second true b e = e
    second false b e = absurd (true≢false (sym e))

    here_facts : (a k : Bool) (n : ℕ) (b : Bool) → (not a && (not k || not (nat_eq n 0))) && b ≡ true → (a ≡ false) × (k ≡ true → 1 ≤ n)
    here_facts true k n b e = absurd (true≢false (sym e))
    here_facts false false n b e = (refl, λ is. absurd (true≢false (sym is)))
    here_facts false true n b e = (refl, λ is. positive n b e)
      where
        positive : (n : ℕ) (b : Bool) → not (nat_eq n 0) && b ≡ true → 1 ≤ n
        positive zero b e = absurd (true≢false (sym e))
        positive (suc n) b e = omega arith

first_keeps : Keeps known_at_first
first_keeps = record {
  begun = omega arith;
  none = λ x has is at. true≢false (sym (ap awaits is) ∙ (first_facts predefined_entries refl x has).0);
  pending = λ x has. absurd has;
  ended = λ x has. (first_facts predefined_entries refl x has).1;
}

-- Library subprograms are procedures, in files that break no rule of names.
pub procedures : (files : Files) → name_fault files ≡ None → AreProcedures files
unfolding name_fault
procedures files none = files_procedures (known_of files) files known_at_first first_keeps none
