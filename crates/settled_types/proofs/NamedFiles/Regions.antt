-- No declaration of a subprogram stands in the region of library units.
use Rattle.std.proofs.Common.{◌≡◌, inl, inr, ℕ, ◌≤◌, Bool, true, false, not, ◌&&◌, List, [], ◌∷◌, ◌++◌, map, filter, drop, nat_eq, refl, sym, ap, ◌∙◌, subst, arith, Option, Some, None, true≢false}
use Rattle.std.specs.List.{flat_map}
use Rattle.std.specs.Prelude.{nat_le, option_map, is_some}
use Rattle.std.proofs.lemmas.Bool.{false≢true}
use Rattle.machine.specs.spark_base.Lists.{Has}
use Rattle.spark_base.proofs.Lists.{Has-append_cases, Has-filter}
use Rattle.name_events.specs.declared.event.Event.{Event}
use Rattle.name_events.specs.declared.event.Event.TheVariants as e
use Rattle.name_events.specs.declared.event.FoldedIdentifier.{FoldedIdentifier}
use Rattle.name_events.specs.declared.declaration.Declaration.{Declaration}
use Rattle.name_events.specs.declared.declaration.DeclarationForm.{DeclarationForm}
use Rattle.name_events.specs.declared.declaration.DeclarationForm.TheVariants as form
use Rattle.name_events.specs.declared.declaration.OpenRegion.{OpenRegion}
use Rattle.name_events.specs.Declarations.{Entry, is_package, first_where, is_named}
use Rattle.name_events.specs.Predefined.{predefined_count}
use Rattle.name_events.specs.Known.{Known, here, region_of, source_package}
use Rattle.name_events.specs.Completions.{completed_by}
use Rattle.name_events.specs.KnownBehind.{new_entry, behind_declaration, end_in, open_region, open_body, turned_private, known_behind, known_behind_all, begin_unit, package_named}
use Rattle.settled_types.specs.OrderlyFiles.Numbered.{is_flat, all_flat}
use Rattle.settled_types.proofs.OrderlyFiles.Declares.{behind_both, flat_all}
use Rattle.settled_types.proofs.OrderlyFiles.Steps.{found_in, unsome}

-- Regions have begun, and each package has one of its own.
pub record Keeps (now : Known) : Type 0 where
  pub begun : 1 ≤ now.region_count
  pub none : (x : Entry) → Has now.declared x → x.1.form ≡ form.SubprogramDeclaration → x.1.region ≡ 0 → ⊥
  pub pending : (x : Entry) → Has now.pending x → is_package x.1 ≡ true → 1 ≤ x.1.own_region
  pub ended : (x : Entry) → Has now.ended x → is_package x.1 ≡ true → 1 ≤ x.1.own_region

-- It is within a region of its own.
abbrev pub IsDeep : Known → Type 0
IsDeep now = here now ≡ 0 → ⊥

-- ---- one event

-- Where nothing is declared and no region opens.
same_lists : (now after : Known) → after.region_count ≡ now.region_count → after.declared ≡ now.declared → after.pending ≡ now.pending → after.ended ≡ now.ended
    → Keeps now → Keeps after
same_lists now after count declared pending ended keeps = record {
  begun = subst (λ n. 1 ≤ n) (sym count) keeps.begun;
  none = λ x has. keeps.none x (subst (λ xs. Has xs x) declared has);
  pending = λ x has. keeps.pending x (subst (λ xs. Has xs x) pending has);
  ended = λ x has. keeps.ended x (subst (λ xs. Has xs x) ended has);
}

pub end_keeps : (region : ℕ) (now : Known) → Keeps now → Keeps (end_in region now)
end_keeps region now keeps = record {
  begun = keeps.begun;
  none = keeps.none;
  pending = λ x has. keeps.pending x (Has-filter (λ (entry : Entry). not (nat_eq region entry.1.region)) now.pending x has).0;
  ended = λ x has. elim (Has-append_cases now.ended (filter (λ (entry : Entry). nat_eq region entry.1.region) now.pending) x has) [
    | inl was ↦ keeps.ended x was
    | inr new ↦ keeps.pending x (Has-filter (λ (entry : Entry). nat_eq region entry.1.region) now.pending x new).0
  ];
}

-- A declaration may be one of a subprogram within a region of its own.
abbrev Fits : Known → DeclarationForm → Type 0
Fits now new = new ≡ form.SubprogramDeclaration → here now ≡ 0 → ⊥

declared_keeps : (now after : Known) (new : DeclarationForm) (id : FoldedIdentifier) → Fits now new → after.region_count ≡ now.region_count
    → after.declared ≡ now.declared ++ new_entry now new id ∷ [] → after.pending ≡ now.pending ++ new_entry now new id ∷ [] → after.ended ≡ now.ended
    → Keeps now → Keeps after
declared_keeps now after new id fits count declared pending ended keeps = record {
  begun = subst (λ n. 1 ≤ n) (sym count) keeps.begun;
  none = λ x has is at. elim (Has-append_cases now.declared (new_entry now new id ∷ []) x (subst (λ xs. Has xs x) declared has)) [
    | inl was ↦ keeps.none x was is at
    | inr last ↦ elim last [
      | inl same ↦ fits (ap (λ (y : Entry). y.1.form) same ∙ is) (ap (λ (y : Entry). y.1.region) same ∙ at)
      | inr never ↦ never
    ]
  ];
  pending = λ x has pack. elim (Has-append_cases now.pending (new_entry now new id ∷ []) x (subst (λ xs. Has xs x) pending has)) [
    | inl was ↦ keeps.pending x was pack
    | inr last ↦ elim last [
      | inl same ↦ subst (λ n. 1 ≤ n) (ap (λ (y : Entry). y.1.own_region) same) keeps.begun
      | inr never ↦ absurd never
    ]
  ];
  ended = λ x has. keeps.ended x (subst (λ xs. Has xs x) ended has);
}

declaration_keeps : (now : Known) (new : DeclarationForm) (id : FoldedIdentifier) (o : Option Declaration) → Fits now new → Keeps now
    → Keeps (behind_declaration now new id o)
declaration_keeps now new id (Some d) fits keeps = same_lists now (behind_declaration now new id (Some d)) refl refl refl refl keeps
declaration_keeps now form.Package id None fits keeps =
    declared_keeps now (behind_declaration now form.Package id None) form.Package id fits refl refl refl refl keeps
declaration_keeps now new id None fits keeps = declared_keeps now (behind_declaration now new id None) new id fits refl refl refl refl keeps

pub event_keeps : (now : Known) (event : Event) → is_flat event ≡ true → IsDeep now → Keeps now → Keeps (known_behind now event)
unfolding known_behind
event_keeps now (e.UnitBegins body_of) flat deep keeps = absurd (true≢false (sym flat))
event_keeps now e.RegionOpens flat deep keeps = absurd (true≢false (sym flat))
event_keeps now (e.PackageBodyOpens id) flat deep keeps = absurd (true≢false (sym flat))
event_keeps now e.PrivatePartBegins flat deep keeps = absurd (true≢false (sym flat))
event_keeps now e.RegionCloses flat deep keeps = absurd (true≢false (sym flat))
event_keeps now (e.Declares new id) flat deep keeps = declaration_keeps now new id (completed_by now new id.name) (λ is at. deep at) keeps
event_keeps now e.DeclarationsEnd flat deep keeps = end_keeps (here now) now keeps
event_keeps now e.OuterDeclarationsEnd flat deep keeps = end_keeps (region_of (drop 1 now.open_regions)) now keeps
event_keeps now event flat deep keeps = same_lists now (known_behind now event) refl refl refl refl keeps

pub declares_keeps : (now : Known) (new : DeclarationForm) (id : FoldedIdentifier) → (new ≡ form.SubprogramDeclaration → ⊥) → Keeps now
    → Keeps (known_behind now (e.Declares new id))
unfolding known_behind
declares_keeps now new id other keeps = declaration_keeps now new id (completed_by now new id.name) (λ is at. other is) keeps

pub opens_keeps : (now : Known) → Keeps now → Keeps (open_region now) × IsDeep (open_region now)
opens_keeps now keeps =
    let begun = keeps.begun in (
      record { begun = omega arith; none = keeps.none; pending = keeps.pending; ended = keeps.ended },
      λ at. let e : now.region_count ≡ 0 = at in omega (arith, e, begun),
    )

both_left : (a b : Bool) → a && b ≡ true → a ≡ true
both_left true b e = refl
both_left false b e = absurd (true≢false (sym e))

both_right : (a b : Bool) → a && b ≡ true → b ≡ true
both_right true b e = e
both_right false b e = absurd (true≢false (sym e))

abbrev is_source : List ℕ → Entry → Bool
is_source w entry = is_named 0 w entry && (is_package entry.1 && nat_le predefined_count entry.1.number)

package_found : (now : Known) (w : List ℕ) (d : Declaration) → Keeps now → source_package now.ended w ≡ Some d → 1 ≤ d.own_region
package_found now w d keeps is = by (first_where (is_source w) now.ended) refl is
  where
    by : (o : Option Entry) → first_where (is_source w) now.ended ≡ o → option_map (λ (entry : Entry). entry.1) o ≡ Some d → 1 ≤ d.own_region
    by None at is = absurd (false≢true (ap is_some is))
    by (Some x) at is =
        let f = found_in (is_source w) now.ended x at in
        let is_one : is_package x.1 ≡ true
        = both_left (is_package x.1) (nat_le predefined_count x.1.number) (both_right (is_named 0 w x) (is_package x.1 && nat_le predefined_count x.1.number) f.1) in
        subst (λ (y : Declaration). 1 ≤ y.own_region) (unsome is) (keeps.ended x f.0 is_one)

body_keeps : (now : Known) (id : FoldedIdentifier) (o : Option Declaration) → ((d : Declaration) → o ≡ Some d → 1 ≤ d.own_region) → Keeps now
    → Keeps (open_body now id o) × IsDeep (open_body now id o)
body_keeps now id None own keeps =
    let begun = keeps.begun in (
      record { begun = omega arith; none = keeps.none; pending = keeps.pending; ended = keeps.ended },
      λ at. let e : now.region_count ≡ 0 = at in omega (arith, e, begun),
    )
body_keeps now id (Some d) own keeps =
    let high = own d refl in (
      record { begun = keeps.begun; none = keeps.none; pending = keeps.pending; ended = keeps.ended },
      λ at. let e : d.own_region ≡ 0 = at in omega (arith, e, high),
    )

-- The body of a package begins.
pub package_body_keeps : (now : Known) (id : FoldedIdentifier) → Keeps now → Keeps (known_behind now (e.PackageBodyOpens id)) × IsDeep (known_behind now (e.PackageBodyOpens id))
unfolding known_behind
package_body_keeps now id keeps = body_keeps now id (source_package now.ended id.name) (λ d is. package_found now id.name d keeps is) keeps

-- ---- lists of events

-- the numbers of the open regions
abbrev pub regions : Known → List ℕ
regions now = map (λ (r : OpenRegion). r.region) now.open_regions

-- What keeps this, within a region, and leaves the same regions open.
abbrev pub Steady : List Event → Type 0
Steady xs = (now : Known) → Keeps now → IsDeep now → Keeps (known_behind_all now xs) × (regions (known_behind_all now xs) ≡ regions now)

abbrev first_number : List ℕ → ℕ
first_number [] = 0
first_number (n ∷ rest) = n

here_first : (rs : List OpenRegion) → region_of rs ≡ first_number (map (λ (r : OpenRegion). r.region) rs)
here_first [] = refl
here_first (r ∷ rest) = refl

dropped : (rs : List OpenRegion) → map (λ (r : OpenRegion). r.region) (drop 1 rs) ≡ drop 1 (map (λ (r : OpenRegion). r.region) rs)
dropped [] = refl
dropped (r ∷ rest) = refl

still_deep : (now after : Known) → regions after ≡ regions now → IsDeep now → IsDeep after
still_deep now after same deep at = deep (here_first now.open_regions ∙ ap first_number (sym same) ∙ sym (here_first after.open_regions) ∙ at)

pub steady_none : Steady []
steady_none now keeps deep = (keeps, refl)

pub steady_both : (xs ys : List Event) → Steady xs → Steady ys → Steady (xs ++ ys)
steady_both xs ys one two now keeps deep =
    let middle : Known = known_behind_all now xs in
    let a = one now keeps deep in
    let b = two middle a.0 (still_deep now middle a.1 deep) in
    let same = behind_both xs ys now in
    (subst Keeps (sym same) b.0, ap regions same ∙ b.1 ∙ a.1)

flat_keeps : (xs : List Event) (now : Known) → all_flat xs ≡ true → IsDeep now → Keeps now → Keeps (known_behind_all now xs)
flat_keeps [] now flat deep keeps = keeps
flat_keeps (x ∷ rest) now flat deep keeps =
    let here_flat = both_left (is_flat x) (all_flat rest) flat in
    let rest_flat = both_right (is_flat x) (all_flat rest) flat in
    let same : regions (known_behind now x) ≡ regions now
    = ap (λ rs. map (λ (r : OpenRegion). r.region) rs) (flat_all (x ∷ []) now (rw here_flat refl)) in
    flat_keeps rest (known_behind now x) rest_flat (still_deep now (known_behind now x) same deep) (event_keeps now x here_flat deep keeps)

pub steady_flat : (xs : List Event) → all_flat xs ≡ true → Steady xs
steady_flat xs flat now keeps deep =
    (flat_keeps xs now flat deep keeps, ap (λ rs. map (λ (r : OpenRegion). r.region) rs) (flat_all xs now flat))

-- A region within, from any place.
pub region_keeps : (xs : List Event) → Steady xs → (now : Known) → Keeps now
    → Keeps (known_behind_all now (e.RegionOpens ∷ (xs ++ e.RegionCloses ∷ [])))
    × (regions (known_behind_all now (e.RegionOpens ∷ (xs ++ e.RegionCloses ∷ []))) ≡ regions now)
unfolding known_behind
region_keeps xs one now keeps =
    let inner : Known = open_region now in
    let opened = opens_keeps now keeps in
    let a = one inner opened.0 opened.1 in
    let middle : Known = known_behind_all inner xs in
    let after : Known = record middle { open_regions = drop 1 middle.open_regions } in
    let same = behind_both xs (e.RegionCloses ∷ []) inner in
    let closed : Keeps after = same_lists middle after refl refl refl refl a.0 in
    (subst Keeps (sym same) closed, ap regions same ∙ dropped middle.open_regions ∙ ap (drop 1) a.1)

pub steady_region : (xs : List Event) → Steady xs → Steady (e.RegionOpens ∷ (xs ++ e.RegionCloses ∷ []))
steady_region xs one now keeps deep = region_keeps xs one now keeps

-- what a private part begins with
pub steady_private : Steady (e.PrivatePartBegins ∷ [])
unfolding known_behind
steady_private now keeps deep = (same_lists now (known_behind now e.PrivatePartBegins) refl refl refl refl keeps, turned now.open_regions)
  where
    turned : (rs : List OpenRegion) → map (λ (r : OpenRegion). r.region) (turned_private rs) ≡ map (λ (r : OpenRegion). r.region) rs
    turned [] = refl
    turned (r ∷ rest) = refl

pub steady_each : {A : Type 0} (f : A → List Event) → ((x : A) → Steady (f x)) → (xs : List A) → Steady (flat_map f xs)
steady_each f one [] = steady_none
steady_each f one (x ∷ rest) = steady_both (f x) (flat_map f rest) (one x) (steady_each f one rest)

-- ---- from any place

-- What declares nothing, and leaves the open regions.
abbrev pub is_bare : Event → Bool
is_bare (e.Mentions c name) = true
is_bare (e.UnitHasWith name) = true
is_bare e.UseClauseEnds = true
is_bare (e.EndsWithName id expected) = true
is_bare _ = false

abbrev pub all_bare : List Event → Bool
all_bare [] = true
all_bare (x ∷ rest) = is_bare x && all_bare rest

bare_keeps : (now : Known) (x : Event) → is_bare x ≡ true → Keeps now → Keeps (known_behind now x) × ((known_behind now x).open_regions ≡ now.open_regions)
unfolding known_behind
bare_keeps now (e.Mentions c name) bare keeps = (same_lists now (known_behind now (e.Mentions c name)) refl refl refl refl keeps, refl)
bare_keeps now (e.UnitHasWith name) bare keeps = (same_lists now (known_behind now (e.UnitHasWith name)) refl refl refl refl keeps, refl)
bare_keeps now e.UseClauseEnds bare keeps = (same_lists now (known_behind now e.UseClauseEnds) refl refl refl refl keeps, refl)
bare_keeps now (e.EndsWithName id expected) bare keeps = (keeps, refl)
bare_keeps now x bare keeps = absurd (true≢false (sym bare))

pub all_bare_keeps : (xs : List Event) (now : Known) → all_bare xs ≡ true → Keeps now
    → Keeps (known_behind_all now xs) × ((known_behind_all now xs).open_regions ≡ now.open_regions)
all_bare_keeps [] now bare keeps = (keeps, refl)
all_bare_keeps (x ∷ rest) now bare keeps =
    let a = bare_keeps now x (both_left (is_bare x) (all_bare rest) bare) keeps in
    let b = all_bare_keeps rest (known_behind now x) (both_right (is_bare x) (all_bare rest) bare) a.0 in
    (b.0, b.1 ∙ a.1)

pub bare_both : (xs ys : List Event) → all_bare xs ≡ true → all_bare ys ≡ true → all_bare (xs ++ ys) ≡ true
bare_both [] ys a b = b
bare_both (x ∷ xs) ys a b = by (λ a. bare_both xs ys a b) (is_bare x) a
  where
    by : (all_bare xs ≡ true → all_bare (xs ++ ys) ≡ true) → (f : Bool) → f && all_bare xs ≡ true → f && all_bare (xs ++ ys) ≡ true
    by on true a = on a
    by on false a = a

-- A unit begins in the region of library units.
pub begins_keeps : (now : Known) (body_of : Option (List ℕ)) → Keeps now
    → Keeps (known_behind now (e.UnitBegins body_of)) × (here (known_behind now (e.UnitBegins body_of)) ≡ 0)
unfolding known_behind
begins_keeps now body_of keeps = (same_lists now (begin_unit now (package_named now body_of)) refl refl refl refl keeps, refl)
