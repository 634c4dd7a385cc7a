-- In the code of files that break no rule of names, and whose identifiers stand in the order of the text, what names
-- denote of objects is in scope.
use Rattle.std.proofs.Common.{◌≡◌, ◌⊎◌, inl, inr, ℕ, ◌+◌, ◌<◌, Bool, true, false, not, ◌&&◌, List, [], ◌∷◌, ◌++◌, map, filter, drop, nat_eq, refl, sym, ap, ◌∙◌, subst, arith, append_assoc, Option, Some, None, true≢false, if◌then◌else◌}
use Rattle.std.specs.List.{flat_map}
use Rattle.std.specs.Prelude.{nat_le, option_map, unwrap_or, is_some}
use Rattle.machine.specs.spark_base.Lists.{Has}
use Rattle.soundness.proofs.Lists.{Has-append_cases, Has-filter}
use Rattle.ada_tree.specs.declared.identifier.Identifier.{Identifier}
use Rattle.ada_tree.specs.declared.identifier.Dotted.{Dotted}
use Rattle.ada_tree.specs.declared.unit.Context.{Context}
use Rattle.ada_tree.specs.declared.unit.Context.TheVariants as context
use Rattle.ada_tree.specs.declared.unit.SourceUnit.{SourceUnit}
use Rattle.ada_tree.specs.declared.unit.SourceUnit.TheVariants as unit
use Rattle.ada_tree.specs.declared.unit.Package.{Package}
use Rattle.ada_tree.specs.declared.unit.PrivatePart.{PrivatePart}
use Rattle.ada_tree.specs.declared.unit.PackageBody.{PackageBody}
use Rattle.ada_tree.specs.declared.unit.SubprogramBody.{SubprogramBody}
use Rattle.name_events.specs.declared.event.Event.{Event}
use Rattle.name_events.specs.declared.event.Event.TheVariants as e
use Rattle.name_events.specs.declared.event.Clause.TheVariants as clause
use Rattle.name_events.specs.declared.event.FoldedIdentifier.{FoldedIdentifier}
use Rattle.name_events.specs.declared.declaration.Declaration.{Declaration}
use Rattle.name_events.specs.declared.declaration.DeclarationForm.{DeclarationForm}
use Rattle.name_events.specs.declared.declaration.DeclarationForm.TheVariants as form
use Rattle.name_events.specs.declared.declaration.RegionPart.{RegionPart}
use Rattle.name_events.specs.declared.declaration.OpenRegion.{OpenRegion}
use Rattle.name_events.specs.Declarations.{Name, Entry, has_number, is_package, first_where, is_named}
use Rattle.name_events.specs.ExpressionOutline.{folded, folded_identifier, declares, mention, next_dotted_name, each_of}
use Rattle.name_events.specs.Outline.{closing_events, subprogram_events, decl_events, body_part_events, private_events, package_events, package_body_events, has_with, with_events, context_events, unit_front, unit_events, source_events}
use Rattle.name_events.specs.Predefined.{predefined_count}
use Rattle.name_events.specs.Known.{Known, here, part_here, source_package}
use Rattle.name_events.specs.Completions.{completed_by, completes_form, may_complete, if_completes, awaiting}
use Rattle.name_events.specs.KnownBehind.{known_behind, known_behind_all, behind_declaration, new_entry, end_in, open_region, open_body, turned_private, begin_unit, package_named}
use Rattle.machine.specs.resolved_tree.Trees.{Code}
use Rattle.expression_lowering.specs.LoweredExpressions.{Numbers}
use Rattle.tree_lowering.specs.Lowered.{before_all, lowered_subprogram, part_before, lowered_decls, lowered_private, lowered_package, lowered_package_body, lowered_unit, lowered_files}
use Rattle.sound_files.specs.SeenFiles.Fits.{scope_after, unit_scope, Fits, UnitFits, AllFit}
use Rattle.sound_files.specs.SeenFiles.Reached.{is_object, IsObjectIn, IsReached, IsAt, AreTold}
use Rattle.sound_files.proofs.SeenFiles.Runs.{all_calm, calm_both, calm_each, behind_both, told_both, Goes, goes_calm}
use Rattle.sound_files.proofs.SeenFiles.Statements.{use_calm, Fit}
use Rattle.sound_files.proofs.SeenFiles.Units.{closing_calm, decls_follow, parts_follow, subprogram_fits}
use Rattle.sound_files.proofs.SeenFiles.Held.{IsHeld}
use Rattle.sound_files.proofs.SeenFiles.Told.{told_from}
use Rattle.settled_types.specs.FilePositions.Order.{Ascends, event_positions}
use Rattle.std.specs.Prelude.{slice_get, nat_lt}
use Rattle.std.proofs.Common.{suc, ◌||◌}
use Rattle.std.specs.List.{list_all}
use Rattle.std.proofs.lemmas.Bool.{false≢true}
use Rattle.name_events.specs.Predefined.{predefined_entries}
use Rattle.name_events.specs.KnownBehind.{known_at_first}
use Rattle.name_events.specs.Denotes.{Files, known_of}
use Rattle.name_events.specs.Identified.{identified}
use Rattle.name_events.specs.Faults.{name_fault}

-- ---- the beginning of a unit

begins_at : (now : Known) (spec : Option Declaration) (s : List ℕ) → IsAt now s [] → IsAt (begin_unit now spec) s []
begins_at now spec s at = record {
  some = at.some;
  around = λ o has. elim has [
    | inl same ↦ (let a = ap (λ (o : OpenRegion). o.region) (sym same) in let b = at.some in omega (arith, a, b))
    | inr never ↦ absurd never
  ];
  packages = at.packages;
  low = at.low;
  seen = λ x has is reached. at.seen x has is (was x.1.region reached);
  waits = λ x has is. absurd (at.waits x has is).0;
  still = at.still;
}
  where
    was : (r : ℕ) → IsReached (begin_unit now spec) r → IsReached now r
    was r (inl zero_is) = inl zero_is
    was r (inr (inl (o, (inl same), at_region))) = inl (sym at_region ∙ ap (λ (o : OpenRegion). o.region) (sym same))
    was r (inr (inl (o, (inr never), at_region))) = absurd never
    was r (inr (inr of)) = inr (inr of)

unit_begins : (now : Known) (body_of : Option Name) (s : List ℕ) → IsAt now s [] → IsAt (known_behind now (e.UnitBegins body_of)) s []
unfolding known_behind
unit_begins now body_of s at = begins_at now (package_named now body_of) s at

-- ---- the beginning of a package

package_completes_nothing : (now : Known) (w : Name) → completed_by now form.Package w ≡ None
package_completes_nothing now w = by (awaiting now.declared (here now) w)
  where
    not_so : (a b c : Bool) → b ≡ false → a && (b && c) ≡ false
    not_so a b c e = grind (arith, e)

    never : (old : DeclarationForm) (a b : RegionPart) → completes_form old a form.Package b ≡ false
    never form.IncompleteType a b = refl
    never form.PrivateType a b = refl
    never form.SubprogramDeclaration a b = refl
    never _ a b = refl

    by : (found : Option Declaration) → if_completes now form.Package found ≡ None
    by None = refl
    by (Some d) =
        ap (λ b. if b then Some d else None)
        (not_so (may_complete now) (completes_form d.form d.part form.Package (part_here now)) (not (has_number d.number now.completed))
        (never d.form d.part (part_here now)))

package_known : Known → FoldedIdentifier → Option Declaration → Known
package_known now id o = let k = behind_declaration now form.Package id o in open_region (end_in (here k) k)

package_at : (now : Known) (id : FoldedIdentifier) (s : List ℕ) → IsAt now s [] → IsAt (package_known now id None) s []
unfolding package_known
package_at now id s at = record {
  some = omega arith;
  around = λ o has. elim has [
    | inl same ↦ (let a = ap (λ (o : OpenRegion). o.region) (sym same) in omega (arith, a))
    | inr old ↦ (let a = at.around o old in omega (arith, a))
  ];
  packages = λ h has is. elim (ended h has) [
    | inl old ↦ (let a = at.packages h old is in omega (arith, a))
    | inr (inl pending) ↦ absurd (at.still h pending is)
    | inr (inr new) ↦ (let a = ap (λ (h : Entry). h.1.own_region) (sym new) in omega (arith, a))
  ];
  low = λ x has is. let a = at.low x (was x has is) is in omega (arith, a);
  seen = λ x has is reached. at.seen x (was x has is) is (reached_before x has is reached);
  waits = λ x has is. elim (Has-append_cases now.pending (new_entry now form.Package id ∷ []) x
      (Has-filter (λ (entry : Entry). not (nat_eq (here now) entry.1.region)) (now.pending ++ new_entry now form.Package id ∷ []) x has).0) [
        | inl old ↦ absurd (at.waits x old is).0
        | inr (inl same) ↦ absurd (true≢false (sym is ∙ ap is_object (sym same)))
        | inr (inr never) ↦ absurd never
      ];
  still = λ x has is.
      let f = Has-filter (λ (entry : Entry). not (nat_eq (here now) entry.1.region)) (now.pending ++ new_entry now form.Package id ∷ []) x has in
      elim (Has-append_cases now.pending (new_entry now form.Package id ∷ []) x f.0) [
        | inl old ↦ at.still x old is
        | inr (inl same) ↦ apart (here now) x.1.region (ap (λ (y : Entry). y.1.region) same) f.1
        | inr (inr never) ↦ never
      ];
}
  where
    apart : (a b : ℕ) → a ≡ b → not (nat_eq a b) ≡ true → ⊥
    apart a b same e = grind (arith, same, e)

    ended : (x : Entry)
        → Has (now.ended ++ filter (λ (entry : Entry). nat_eq (here now) entry.1.region) (now.pending ++ new_entry now form.Package id ∷ [])) x
        → Has now.ended x ⊎ (Has now.pending x ⊎ (new_entry now form.Package id ≡ x))
    ended x has =
        elim (Has-append_cases now.ended (filter (λ (entry : Entry). nat_eq (here now) entry.1.region) (now.pending ++ new_entry now form.Package id ∷ [])) x has) [
          | inl old ↦ inl old
          | inr new ↦ elim (Has-append_cases now.pending (new_entry now form.Package id ∷ []) x
              (Has-filter (λ (entry : Entry). nat_eq (here now) entry.1.region) (now.pending ++ new_entry now form.Package id ∷ []) x new).0) [
                | inl pending ↦ inr (inl pending)
                | inr (inl same) ↦ inr (inr same)
                | inr (inr never) ↦ absurd never
              ]
        ]

    was : (x : Entry)
        → Has (now.ended ++ filter (λ (entry : Entry). nat_eq (here now) entry.1.region) (now.pending ++ new_entry now form.Package id ∷ [])) x
        → is_object x ≡ true → Has now.ended x
    was x has is = elim (ended x has) [
      | inl old ↦ old
      | inr (inl pending) ↦ absurd (at.waits x pending is).0
      | inr (inr new) ↦ absurd (true≢false (sym is ∙ ap is_object (sym new)))
    ]

    reached_before : (x : Entry)
        → Has (now.ended ++ filter (λ (entry : Entry). nat_eq (here now) entry.1.region) (now.pending ++ new_entry now form.Package id ∷ [])) x
        → is_object x ≡ true → IsReached (package_known now id None) x.1.region → IsReached now x.1.region
    reached_before x has is (inl zero_is) = inl zero_is
    reached_before x has is (inr (inl (o, (inl same), at_region))) =
        let a = at.low x (was x has is) is in let b = ap (λ (o : OpenRegion). o.region) (sym same) in absurd (omega (arith, a, b, at_region))
    reached_before x has is (inr (inl (o, (inr old), at_region))) = inr (inl (o, old, at_region))
    reached_before x has is (inr (inr (h, stands, is_one, own))) = elim (ended h stands) [
      | inl old ↦ inr (inr (h, old, is_one, own))
      | inr (inl pending) ↦ absurd (at.still h pending is_one)
      | inr (inr new) ↦
          (let a = at.low x (was x has is) is in let b = ap (λ (h : Entry). h.1.own_region) (sym new) in absurd (omega (arith, a, b, own)))
    ]

package_begins : (now : Known) (id : FoldedIdentifier) (s : List ℕ) → IsAt now s []
    → IsAt (known_behind_all now (e.Declares form.Package id ∷ (e.DeclarationsEnd ∷ (e.RegionOpens ∷ [])))) s []
unfolding known_behind package_known
package_begins now id s at = subst (λ o. IsAt (package_known now id o) s []) (sym (package_completes_nothing now id.name)) (package_at now id s at)

-- ---- the beginning of the body of a package

abbrev is_source : Name → Entry → Bool
is_source w x = is_named 0 w x && (is_package x.1 && nat_le predefined_count x.1.number)

source_found : (now : Known) (w : Name) (d : Declaration) → source_package now.ended w ≡ Some d
    → (h : Entry) × Has now.ended h × (is_package h.1 ≡ true) × (h.1 ≡ d)
source_found now w d is = from now.ended is
  where
    and_right : (a b : Bool) → a && b ≡ true → b ≡ true
    and_right true b e = e
    and_right false b e = absurd (true≢false (sym e))

    and_left : (a b : Bool) → a && b ≡ true → a ≡ true
    and_left true b e = refl
    and_left false b e = absurd (true≢false (sym e))

    from : (xs : List Entry) → option_map (λ (x : Entry). x.1) (first_where (is_source w) xs) ≡ Some d
        → (h : Entry) × Has xs h × (is_package h.1 ≡ true) × (h.1 ≡ d)
    from [] is = absurd (false≢true (ap is_some is))
    from (x ∷ rest) is = by (is_source w x) refl is (λ is. from rest is)
      where
        unsome : (a b : Declaration) → Some a ≡ Some b → a ≡ b
        unsome a b e = ap (λ o. unwrap_or o a) e

        by : (b : Bool) → is_source w x ≡ b → option_map (λ (x : Entry). x.1) (if b then Some x else first_where (is_source w) rest) ≡ Some d
            → (option_map (λ (x : Entry). x.1) (first_where (is_source w) rest) ≡ Some d → (h : Entry) × Has rest h × (is_package h.1 ≡ true) × (h.1 ≡ d))
            → (h : Entry) × Has (x ∷ rest) h × (is_package h.1 ≡ true) × (h.1 ≡ d)
        by true so is on = (
          x,
          inl refl,
          and_left (is_package x.1) (nat_le predefined_count x.1.number) (and_right (is_named 0 w x) (is_package x.1 && nat_le predefined_count x.1.number) so),
          unsome x.1 d is,
        )
        by false so is on = let f = on is in (f.0, inr f.1, f.2, f.3)

body_at : (now : Known) (id : FoldedIdentifier) (o : Option Declaration) (s : List ℕ)
    → ((d : Declaration) → o ≡ Some d → (h : Entry) × Has now.ended h × (is_package h.1 ≡ true) × (h.1 ≡ d)) → IsAt now s []
    → IsAt (open_body now id o) s []
body_at now id (Some d) s found at =
    let h = found d refl in
    let own : h.0.1.own_region ≡ d.own_region = ap (λ (d : Declaration). d.own_region) h.3 in
    record {
      some = at.some;
      around = λ o has. elim has [
        | inl same ↦
            (let a = ap (λ (o : OpenRegion). o.region) (sym same) in let b = at.packages h.0 h.1 h.2 in omega (arith, a, b, own))
        | inr old ↦ at.around o old
      ];
      packages = at.packages;
      low = at.low;
      seen = λ x has is reached. at.seen x has is (was own x.1.region reached);
      waits = λ x has is. absurd (at.waits x has is).0;
      still = at.still;
    }
  where
    was : (found d refl).0.1.own_region ≡ d.own_region → (r : ℕ) → IsReached (open_body now id (Some d)) r → IsReached now r
    was own r (inl zero_is) = inl zero_is
    was own r (inr (inl (o, (inl same), at_region))) =
        inr (inr ((found d refl).0, (found d refl).1, (found d refl).2, own ∙ ap (λ (o : OpenRegion). o.region) same ∙ at_region))
    was own r (inr (inl (o, (inr old), at_region))) = inr (inl (o, old, at_region))
    was own r (inr (inr of)) = inr (inr of)
body_at now id None s found at = record {
  some = omega arith;
  around = λ o has. elim has [
    | inl same ↦ (let a = ap (λ (o : OpenRegion). o.region) (sym same) in omega (arith, a))
    | inr old ↦ (let a = at.around o old in omega (arith, a))
  ];
  packages = λ h has is. let a = at.packages h has is in omega (arith, a);
  low = λ x has is. let a = at.low x has is in omega (arith, a);
  seen = λ x has is reached. at.seen x has is (was x has is reached);
  waits = λ x has is. absurd (at.waits x has is).0;
  still = at.still;
}
  where
    was : (x : Entry) → Has now.ended x → is_object x ≡ true → IsReached (open_body now id None) x.1.region → IsReached now x.1.region
    was x has is (inl zero_is) = inl zero_is
    was x has is (inr (inl (o, (inl same), at_region))) =
        let a = at.low x has is in let b = ap (λ (o : OpenRegion). o.region) (sym same) in absurd (omega (arith, a, b, at_region))
    was x has is (inr (inl (o, (inr old), at_region))) = inr (inl (o, old, at_region))
    was x has is (inr (inr of)) = inr (inr of)

body_begins : (now : Known) (id : FoldedIdentifier) (s : List ℕ) → IsAt now s [] → IsAt (known_behind now (e.PackageBodyOpens id)) s []
unfolding known_behind
body_begins now id s at = body_at now id (source_package now.ended id.name) s (λ d is. source_found now id.name d is) at

-- ---- the private part, and the end

private_begins : (now : Known) (s : List ℕ) → IsAt now s [] → IsAt (known_behind now e.PrivatePartBegins) s []
unfolding known_behind
private_begins now s at = record {
  some = at.some;
  around = λ o has. let t = turned now.open_regions o has in let a = at.around t.0 t.1 in let b = t.2 in omega (arith, a, b);
  packages = at.packages;
  low = at.low;
  seen = λ x has is reached. at.seen x has is (was x.1.region reached);
  waits = λ x has is. absurd (at.waits x has is).0;
  still = at.still;
}
  where
    turned : (os : List OpenRegion) (o : OpenRegion) → Has (turned_private os) o → (p : OpenRegion) × Has os p × (p.region ≡ o.region)
    turned [] o has = absurd has
    turned (p ∷ rest) o (inl same) = (p, inl refl, ap (λ (o : OpenRegion). o.region) same)
    turned (p ∷ rest) o (inr has) = (o, inr has, refl)

    was : (r : ℕ) → IsReached (record now { open_regions = turned_private now.open_regions }) r → IsReached now r
    was r (inl zero_is) = inl zero_is
    was r (inr (inl (o, has, at_region))) = let t = turned now.open_regions o has in inr (inl (t.0, t.1, t.2 ∙ at_region))
    was r (inr (inr of)) = inr (inr of)

unit_closes : (now : Known) (s : List ℕ) → IsAt now s [] → IsAt (known_behind now e.RegionCloses) s []
unfolding known_behind
unit_closes now s at = record {
  some = at.some;
  around = λ o has. at.around o (dropped now.open_regions o has);
  packages = at.packages;
  low = at.low;
  seen = λ x has is reached. at.seen x has is (was x.1.region reached);
  waits = λ x has is. absurd (at.waits x has is).0;
  still = at.still;
}
  where
    dropped : (os : List OpenRegion) (o : OpenRegion) → Has (drop 1 os) o → Has os o
    dropped [] o has = has
    dropped (x ∷ rest) o has = inr has

    was : (r : ℕ) → IsReached (record now { open_regions = drop 1 now.open_regions }) r → IsReached now r
    was r (inl zero_is) = inl zero_is
    was r (inr (inl (o, has, at_region))) = inr (inl (o, dropped now.open_regions o has, at_region))
    was r (inr (inr of)) = inr (inr of)

-- ---- contexts

with_calm : (c : Context) → all_calm (with_events c) ≡ true
unfolding with_events
with_calm (context.With pos first rest semicolon) = each (first ∷ map next_dotted_name rest)
  where
    each : (ds : List Dotted) → all_calm (map has_with ds) ≡ true
    each [] = refl
    each (d ∷ rest) = each rest
with_calm (context.Use pos c) = refl
with_calm (context.Pragma pos c) = refl

context_calm : (c : Context) → all_calm (context_events c) ≡ true
unfolding context_events
context_calm (context.With pos first rest semicolon) = each (first ∷ map next_dotted_name rest)
  where
    each : (ds : List Dotted) → all_calm (map (mention clause.With) ds) ≡ true
    each [] = refl
    each (d ∷ rest) = each rest
context_calm (context.Use pos c) = use_calm c
context_calm (context.Pragma pos c) = refl

contexts_calm : (clauses : List Context) → all_calm (flat_map with_events clauses ++ flat_map context_events clauses) ≡ true
contexts_calm clauses =
    calm_both (flat_map with_events clauses) (flat_map context_events clauses) (calm_each with_events with_calm clauses)
    (calm_each context_events context_calm clauses)

-- ---- units

module _ (numbers : Numbers) (whole : Known) where
  -- What the events of units do: nothing waits between them.
  abbrev Comes : Type 0 → List ℕ → List ℕ → List Event → Type 0
  Comes one s v xs = (now : Known) → IsAt now s [] → AreTold numbers whole now xs → one × IsAt (known_behind_all now xs) v []

  comes_of : (one : Type 0) (s v : List ℕ) (xs : List Event) → Goes numbers whole one s [] v [] xs → Comes one s v xs
  comes_of one s v xs goes now at told = let r = goes now at told in (r.is, r.at)

  comes_then : (one two : Type 0) (s v u : List ℕ) (xs ys : List Event) → Comes one s v xs → Comes two v u ys → Comes (one × two) s u (xs ++ ys)
  comes_then one two s v u xs ys first second now at told =
      let n = told_both numbers whole xs ys now told in
      let middle : Known = known_behind_all now xs in
      let a = first now at n.0 in
      let b = second middle a.1 n.1 in
      ((a.0, b.0), subst (λ k. IsAt k u []) (sym (behind_both xs ys now)) b.1)

  comes_so : (one two : Type 0) (s v : List ℕ) (xs : List Event) → (one → two) → Comes one s v xs → Comes two s v xs
  comes_so one two s v xs f comes now at told = let r = comes now at told in (f r.0, r.1)

  -- Events that leave what is in scope, before others or after them.
  abbrev Passes : List ℕ → List Event → Type 0
  Passes s xs = Comes (Unit {0}) s s xs

  comes_after : (one : Type 0) (s v : List ℕ) (xs ys : List Event) → Passes s xs → Comes one s v ys → Comes one s v (xs ++ ys)
  comes_after one s v xs ys first second =
      comes_so (Unit {0} × one) one s v (xs ++ ys) (λ p. p.1) (comes_then (Unit {0}) one s s v xs ys first second)

  comes_before : (one : Type 0) (s v : List ℕ) (xs ys : List Event) → Comes one s v xs → Passes v ys → Comes one s v (xs ++ ys)
  comes_before one s v xs ys first second =
      comes_so (one × Unit {0}) one s v (xs ++ ys) (λ p. p.0) (comes_then one (Unit {0}) s v v xs ys first second)

  calm_passes : (s : List ℕ) (xs : List Event) → all_calm xs ≡ true → Passes s xs
  calm_passes s xs calm = comes_of (Unit {0}) s s xs (goes_calm numbers whole s xs calm)

  front_passes : (s : List ℕ) (body_of : Option Name) (clauses : List Context) → Passes s (unit_front body_of clauses)
  front_passes s body_of clauses now at told =
      calm_passes s (flat_map with_events clauses ++ flat_map context_events clauses) (contexts_calm clauses) (known_behind now (e.UnitBegins body_of))
      (unit_begins now body_of s at) told.1

  closing_passes : (s : List ℕ) (of : Identifier) (closing : Option Identifier) → Passes s (e.RegionCloses ∷ closing_events of closing)
  closing_passes s of closing now at told =
      calm_passes s (closing_events of closing) (closing_calm of closing) (known_behind now e.RegionCloses) (unit_closes now s at) told.1

  package_front : (s : List ℕ) (id : Identifier) → Passes s (declares form.Package id ∷ (e.DeclarationsEnd ∷ (e.RegionOpens ∷ [])))
  package_front s id now at told = (tt, package_begins now (folded_identifier id) s at)

  private_comes : (p : Option PrivatePart) (s : List ℕ)
      → Comes (Fit numbers whole s (lowered_private numbers p)) s (scope_after (lowered_private numbers p) s) (each_of private_events p)
  unfolding Fits scope_after
  private_comes None s now at told = (tt, at)
  private_comes (Some p) s now at told =
      let code : Code = lowered_decls numbers p.decls in
      comes_of (Fit numbers whole s code) s (scope_after code s) (flat_map decl_events p.decls) (decls_follow numbers whole p.decls s)
      (known_behind now e.PrivatePartBegins) (private_begins now s at) told.1

  package_comes : (p : Package) (s : List ℕ)
      → Comes (UnitFits (IsObjectIn whole) s (lowered_package numbers p)) s (unit_scope (lowered_package numbers p) s) (package_events p)
  unfolding lowered_package UnitFits unit_scope
  package_comes p s =
      let visible : Code = lowered_decls numbers p.visible in
      let v : List ℕ = scope_after visible s in
      let hidden : Code = lowered_private numbers p.private in
      let u : List ℕ = scope_after hidden v in
      let xs : List Event = flat_map decl_events p.visible in
      let ys : List Event = each_of private_events p.private in
      let last : List Event = e.RegionCloses ∷ closing_events p.name p.closing in
      comes_after (Fit numbers whole s visible × Fit numbers whole v hidden) s u (declares form.Package p.name ∷ (e.DeclarationsEnd ∷ (e.RegionOpens ∷ [])))
      (xs ++ (ys ++ last)) (package_front s p.name)
      (comes_then (Fit numbers whole s visible) (Fit numbers whole v hidden) s v u xs (ys ++ last)
      (comes_of (Fit numbers whole s visible) s v xs (decls_follow numbers whole p.visible s))
      (comes_before (Fit numbers whole v hidden) v u ys last (private_comes p.private v) (closing_passes u p.name p.closing)))

  package_body_comes : (b : PackageBody) (s : List ℕ)
      → Comes (UnitFits (IsObjectIn whole) s (lowered_package_body numbers b)) s (unit_scope (lowered_package_body numbers b) s) (package_body_events b)
  unfolding lowered_package_body UnitFits unit_scope
  package_body_comes b s now at told =
      let parts : Code = before_all (part_before numbers) b.parts in
      let v : List ℕ = scope_after parts s in
      let xs : List Event = flat_map body_part_events b.parts in
      let last : List Event = e.RegionCloses ∷ closing_events b.name b.closing in
      comes_before (Fit numbers whole s parts) s v xs last (comes_of (Fit numbers whole s parts) s v xs (parts_follow numbers whole b.parts s))
      (closing_passes v b.name b.closing) (known_behind now (e.PackageBodyOpens (folded_identifier b.name))) (body_begins now (folded_identifier b.name) s at) told.1

  unit_comes : (u : SourceUnit) (s : List ℕ)
      → Comes (UnitFits (IsObjectIn whole) s (lowered_unit numbers u)) s (unit_scope (lowered_unit numbers u) s) (unit_events u)
  unfolding unit_events lowered_unit lowered_subprogram UnitFits unit_scope
  unit_comes (unit.OfPackage pos clauses p) s =
      comes_after (UnitFits (IsObjectIn whole) s (lowered_package numbers p)) s (unit_scope (lowered_package numbers p) s) (unit_front None clauses) (package_events p)
      (front_passes s None clauses) (package_comes p s)
  unit_comes (unit.OfBody pos clauses b) s =
      comes_after (UnitFits (IsObjectIn whole) s (lowered_package_body numbers b)) s (unit_scope (lowered_package_body numbers b) s)
      (unit_front (Some (folded b.name)) clauses) (package_body_events b) (front_passes s (Some (folded b.name)) clauses) (package_body_comes b s)
  unit_comes (unit.OfSubprogram pos clauses b) s =
      let code : Code = lowered_subprogram numbers b in
      comes_after (Fit numbers whole s code) s (unit_scope code s) (unit_front None clauses) (subprogram_events b) (front_passes s None clauses)
      (comes_of (Fit numbers whole s code) s (unit_scope code s) (subprogram_events b)
      (subst (λ v. Goes numbers whole (Fit numbers whole s code) s [] v [] (subprogram_events b)) (sym (body_scope b s)) (subprogram_fits numbers whole b s)))
    where
      body_scope : (b : SubprogramBody) (s : List ℕ) → unit_scope (lowered_subprogram numbers b) s ≡ s
      body_scope b s = refl

  -- ---- files

  file_fits : (units : List SourceUnit) (more : List Code) (zs : List Event) (s : List ℕ) (now : Known) → IsAt now s []
      → AreTold numbers whole now (flat_map unit_events units ++ zs)
      → ((v : List ℕ) (after : Known) → IsAt after v [] → AreTold numbers whole after zs → AllFit (IsObjectIn whole) v more)
      → AllFit (IsObjectIn whole) s (map (lowered_unit numbers) units ++ more)
  file_fits [] more zs s now at told rest = rest s now at told
  file_fits (u ∷ units) more zs s now at told rest =
      let xs : List Event = unit_events u in
      let ys : List Event = flat_map unit_events units ++ zs in
      let n = told_both numbers whole xs ys now (subst (AreTold numbers whole now) (append_assoc xs (flat_map unit_events units) zs) told) in
      let a = unit_comes u s now at n.0 in
      (a.0, file_fits units more zs (unit_scope (lowered_unit numbers u) s) (known_behind_all now xs) a.1 n.1 rest)

  all_fit : (files : List (List SourceUnit)) (s : List ℕ) (now : Known) → IsAt now s [] → AreTold numbers whole now (source_events files)
      → AllFit (IsObjectIn whole) s (lowered_files numbers files)
  unfolding source_events lowered_files
  all_fit [] s now at told = tt
  all_fit (units ∷ rest) s now at told =
      file_fits units (flat_map (map (lowered_unit numbers)) rest) (flat_map (flat_map unit_events) rest) s now at told
      (λ v after at told. all_fit rest v after at told)

-- ---- at first

-- Of the predefined declarations none is one of an object, and packages have regions that have begun.
abbrev is_first : Entry → Bool
is_first x = not (is_object x) && (not (is_package x.1) || nat_lt x.1.own_region 4)

all_first : (xs : List Entry) → list_all is_first xs ≡ true → (x : Entry) → Has xs x → is_first x ≡ true
all_first [] all x has = absurd has
all_first (y ∷ rest) all x has = by (is_first y) refl all (λ more has. all_first rest more x has) has
  where
    by : (b : Bool) → is_first y ≡ b → b && list_all is_first rest ≡ true → (list_all is_first rest ≡ true → Has rest x → is_first x ≡ true)
        → Has (y ∷ rest) x → is_first x ≡ true
    by true is all on (inl same) = ap is_first (sym same) ∙ is
    by true is all on (inr has) = on all has
    by false is all on has = absurd (true≢false (sym all))

first_is : (x : Entry) → Has predefined_entries x → is_first x ≡ true
first_is x has = all_first predefined_entries refl x has

no_object : (x : Entry) → Has predefined_entries x → is_object x ≡ true → ⊥
no_object x has is = by (is_object x) (not (is_package x.1) || nat_lt x.1.own_region 4) is (first_is x has)
  where
    by : (a b : Bool) → a ≡ true → not a && b ≡ true → ⊥
    by true b is all = true≢false (sym all)
    by false b is all = true≢false (sym is)

package_low : (x : Entry) → Has predefined_entries x → is_package x.1 ≡ true → x.1.own_region < 4
package_low x has is = less x.1.own_region 4 (by (is_object x) (is_package x.1) (nat_lt x.1.own_region 4) is (first_is x has))
  where
    by : (a b c : Bool) → b ≡ true → not a && (not b || c) ≡ true → c ≡ true
    by true b c is all = absurd (true≢false (sym all))
    by false true c is all = all
    by false false c is all = absurd (true≢false (sym is))

    less : (a b : ℕ) → nat_lt a b ≡ true → a < b
    less a b e = grind (arith, e)

first_at : IsAt known_at_first [] []
first_at = record {
  some = omega arith;
  around = λ o has. absurd has;
  packages = λ h has is. package_low h has is;
  low = λ x has is. absurd (no_object x has is);
  seen = λ x has is reached. absurd (no_object x has is);
  waits = λ x has is. absurd has;
  still = λ x has is. absurd has;
}

-- The i-th has the number i.
abbrev AreCounted : ℕ → List Entry → Type 0
AreCounted n [] = Unit {0}
AreCounted n (x ∷ rest) = (x.1.number ≡ n) × AreCounted (n + 1) rest

counted : (n : ℕ) (xs : List Entry) → AreCounted n xs → (x : Entry) → Has xs x → (i : ℕ) × (x.1.number ≡ n + i) × (slice_get xs i ≡ Some x)
counted n [] are x has = absurd has
counted n (y ∷ rest) are x (inl same) = (
  0,
  (let a = are.0 in let b = ap (λ (y : Entry). y.1.number) (sym same) in omega (arith, a, b)),
  ap (λ (y : Entry). Some y) same,
)
counted n (y ∷ rest) are x (inr has) =
    let c = counted (n + 1) rest are.1 x has in
    let a = c.1 in
    (c.0 + 1, omega (arith, a), subst (λ i. slice_get (y ∷ rest) i ≡ Some x) (after c.0) c.2)
  where
    after : (i : ℕ) → suc i ≡ i + 1
    after i = omega arith

pub first_held : IsHeld known_at_first
first_held = record {
  ended = λ x has. stands x has;
  pending = λ x has. absurd has;
  uses = λ r n has. absurd has;
  using = λ n has. absurd has;
  contexts = λ c has n used. absurd has;
}
  where
    are : AreCounted 0 predefined_entries
    are = (refl, (refl, (refl, (refl, (refl, (refl, (refl, (refl, (refl, (refl, (refl, (refl, (refl, (refl, (refl, tt)))))))))))))))

    stands : (x : Entry) → Has predefined_entries x → slice_get predefined_entries x.1.number ≡ Some x
    stands x has =
        let c = counted 0 predefined_entries are x has in
        let a = c.1 in
        let at : c.0 ≡ x.1.number = omega (arith, a) in
        subst (λ i. slice_get predefined_entries i ≡ Some x) at c.2

-- What is told of these files.
pub files_told : (files : Files) → Ascends (event_positions (source_events files)) → name_fault files ≡ None
    → AreTold (identified files) (known_of files) known_at_first (source_events files)
unfolding known_of identified name_fault
files_told files up none =
    told_from (known_of files) (identified files) (source_events files) known_at_first [] first_held refl refl (λ x has p is. absurd has) up none

-- In these files each name of an object denotes one that is in scope where it stands.
pub files_fit : (files : Files) → Ascends (event_positions (source_events files)) → name_fault files ≡ None
    → AllFit (IsObjectIn (known_of files)) [] (lowered_files (identified files) files)
files_fit files up none =
    all_fit (identified files) (known_of files) files [] known_at_first first_at (files_told files up none)
