-- Names looked for in the regions that have them, and in the packages in use.
use Rattle.std.proofs.Common.{◌≡◌, refl, ap, sym, ◌∙◌, true≢false, ℕ, Bool, true, false, if◌then◌else◌, nat_eq, List, [], ◌∷◌, ◌++◌, Option, None, Some, is_some, map, option_to_list, slice_get}
use Rattle.std.specs.Prelude.{◌||◌}
use Rattle.std.specs.Option.{option_map, option_map_or}
use Rattle.std.specs.List.{flat_map}
use Rattle.std.proofs.lemmas.Bool.{eqb-true}
use Rattle.std.proofs.lemmas.List.Folds.{list_any-append}
use Rattle.std.proofs.lemmas.Option.{slice_get-map}
use Rattle.name_events.specs.declared.declaration.Declaration.{Declaration}
use Rattle.name_events.specs.declared.declaration.OpenRegion.{OpenRegion}
use Rattle.name_events.specs.Declarations.{Name, Entry, declared_in, has_number, is_visible}
use Rattle.name_events.specs.Known.{Known, if_visible, packages_in_use, used_in, visible_member, visible_members}
use Rattle.name_resolve.specs.declared.declarations.Declarations.{Declarations}
use Rattle.name_resolve.specs.declared.sighting.Sighting.{Sighting}
use Rattle.name_resolve.specs.declared.sighting.Sighting.TheVariants.{Nothing, One, Several}
use Rattle.name_resolve.specs.declared.used.Used.{Used}
use Rattle.name_resolve.specs.declared.used.Holder.{Holder}
use Rattle.name_resolve.specs.declared.used.Holder.TheVariants as holder
use Rattle.name_resolve.specs.Sightings.{sighted_all, OnlyUsed}
use Rattle.name_resolve.specs.Tables.{entry_at, in_use_at, is_used, listed_at, own_region_of, symbol_of}
use Rattle.name_resolve.specs.Stands.{all_of, given_regions, DeclarationsStand, UsedStands}
use Rattle.name_resolve.proofs.Lists.{nat_eq-refl}
use Rattle.name_resolve.proofs.Seeing.{members-append, sighted-append}

-- ---- which regions are in use

has_pushed : (regions : List ℕ) (one region : ℕ) → has_number region (regions ++ one ∷ []) ≡ (has_number region regions || nat_eq region one)
has_pushed regions one region =
    list_any-append (nat_eq region) regions (one ∷ []) ∙ ap (λ b. has_number region regions || b) (last (nat_eq region one))
  where
    last : (b : Bool) → (b || false) ≡ b
    last true = refl
    last false = refl

-- A region of the longer list is one of the shorter, or the last.
pushed_cases : (C : Type 0) (regions : List ℕ) (one region : ℕ) → has_number region (regions ++ one ∷ []) ≡ true
    → (has_number region regions ≡ true → C) → (region ≡ one → C) → C
pushed_cases C regions one region has front last =
    by (has_number region regions) (nat_eq region one) refl (λ h. eqb-true region one h) (sym (has_pushed regions one region) ∙ has)
  where
    by : (a b : Bool) → a ≡ has_number region regions → (b ≡ true → region ≡ one) → (a || b) ≡ true → C
    by true b is at h = front (sym is)
    by false true is at h = last (at refl)
    by false false is at h = absurd (true≢false (sym h))

pub first_one : (used : ℕ → Bool) (regions : List ℕ) (one : ℕ) → used one ≡ true → OnlyUsed used regions holder.Nowhere
    → OnlyUsed used (regions ++ one ∷ []) (holder.Only one)
first_one used regions one in_use none = (
  in_use,
  λ region has is. pushed_cases (region ≡ one) regions one region has
      (λ there. absurd (true≢false (sym is ∙ none region there))) (λ at. at),
)

pub same_one : (used : ℕ → Bool) (regions : List ℕ) (one next : ℕ) → one ≡ next → OnlyUsed used regions (holder.Only one)
    → OnlyUsed used (regions ++ next ∷ []) (holder.Only one)
same_one used regions one next same only = (
  only.0,
  λ region has is. pushed_cases (region ≡ one) regions next region has
      (λ there. only.1 region there is) (λ at. at ∙ sym same),
)

-- One that isn't in use changes nothing.
pub one_unused : (used : ℕ → Bool) (regions : List ℕ) (next : ℕ) (so_far : Holder) → used next ≡ false → OnlyUsed used regions so_far
    → OnlyUsed used (regions ++ next ∷ []) so_far
one_unused used regions next holder.Nowhere unused none = λ region has.
    pushed_cases (used region ≡ false) regions next region has (λ there. none region there) (λ at. ap used at ∙ unused)
one_unused used regions next (holder.Only one) unused only = (
  only.0,
  λ region has is. pushed_cases (region ≡ one) regions next region has
      (λ there. only.1 region there is)
      (λ at. absurd (true≢false (sym is ∙ ap used at ∙ unused))),
)
one_unused used regions next holder.Several unused s = tt

-- ---- what is seen in the regions in use

-- What is found in one region, if that is in use.
abbrev pub held : Option Declaration → Bool → Sighting
held found in_use = if in_use then sighted_all Nothing (option_to_list found) else Nothing

held_next : (found : Option Declaration) (before here : Bool)
    → sighted_all (held found before) (option_to_list (if here then found else None)) ≡ held found (before || here)
held_next None true true = refl
held_next (Some d) true true = λ j. if nat_eq-refl d.number j then One d else Several
held_next found true false = refl
held_next found false true = refl
held_next found false false = refl

abbrev pub member_in : Known → Name → ℕ → Option Declaration
member_in now w region = if_visible (declared_in now.ended region w)

-- A package has the members of its region.
member_is : (now : Known) (w : Name) (n region : ℕ) → own_region_of (all_of now) n ≡ Some region
    → visible_member now (slice_get now.declared n) w ≡ member_in now w region
member_is now w n region is =
    by (slice_get now.declared n) (sym (ap (option_map (λ d. d.own_region)) (slice_get-map (λ (entry : Entry). entry.1) now.declared n)) ∙ is)
  where
    by : (o : Option Entry) → option_map (λ d. d.own_region) (option_map (λ entry. entry.1) o) ≡ Some region
        → visible_member now o w ≡ member_in now w region
    by (Some entry) is = let same : entry.1.own_region ≡ region = cc is in ap (member_in now w) same
    by None is = absurd (true≢false (sym (ap is_some is)))

or_assoc : (a b c : Bool) → ((a || b) || c) ≡ (a || (b || c))
or_assoc true b c = refl
or_assoc false b c = refl

or_true : (a b : Bool) → b ≡ true → (a || b) ≡ true
or_true true b h = refl
or_true false b h = h

-- In the packages with these regions a name is found where the region is the one that has it.
packages_held : (now : Known) (w : Name) (one : ℕ) (found : Option Declaration) (before : Bool) (packages regions : List ℕ)
    → map (own_region_of (all_of now)) packages ≡ map Some regions
    → ((region : ℕ) → has_number region regions ≡ true → member_in now w region ≡ (if nat_eq one region then found else None))
    → sighted_all (held found before) (visible_members now packages w) ≡ held found (before || has_number one regions)
packages_held now w one found before [] [] listed only = ap (held found) (sym (by before))
  where
    by : (b : Bool) → (b || false) ≡ b
    by true = refl
    by false = refl
packages_held now w one found before [] (region ∷ regions) listed only = absurd (cc listed)
packages_held now w one found before (n ∷ packages) [] listed only = absurd (cc listed)
packages_held now w one found before (n ∷ packages) (region ∷ regions) listed only =
    let at : own_region_of (all_of now) n ≡ Some region = cc listed in
    let rest : map (own_region_of (all_of now)) packages ≡ map Some regions = cc listed in
    let here : visible_member now (slice_get now.declared n) w ≡ (if nat_eq one region then found else None) =
    member_is now w n region at ∙ only region (ap (λ b. b || has_number region regions) (nat_eq-refl region)) in
    sighted-append (held found before) (option_to_list (visible_member now (slice_get now.declared n) w)) (visible_members now packages w)
    ∙ ap (λ s. sighted_all s (visible_members now packages w))
    (ap (λ o. sighted_all (held found before) (option_to_list o)) here ∙ held_next found before (nat_eq one region))
    ∙ packages_held now w one found (before || nat_eq one region) packages regions rest
    (λ r has. only r (or_true (nat_eq r region) (has_number r regions) has))
    ∙ ap (held found) (or_assoc before (nat_eq one region) (has_number one regions))

-- In the regions around.
around_held : (now : Known) (w : Name) (k : Used) (clauses : List (ℕ × ℕ)) (one : ℕ) (found : Option Declaration) (before : Bool) (around : List OpenRegion)
    → UsedStands k (all_of now) clauses
    → ((region : ℕ) → is_used (given_regions k.given) k.own around region ≡ true → member_in now w region ≡ (if nat_eq one region then found else None))
    → sighted_all (held found before) (visible_members now (flat_map (λ inner. used_in clauses inner.region) around) w)
    ≡ held found (before || is_used (given_regions k.given) k.own around one)
around_held now w k clauses one found before [] s only = ap (held found) (sym (by before))
  where
    by : (b : Bool) → (b || false) ≡ b
    by true = refl
    by false = refl
around_held now w k clauses one found before (inner ∷ around) s only =
    let is = s inner.region in
    let here = has_number one (in_use_at (given_regions k.given) k.own inner.region) in
    ap (sighted_all (held found before)) (members-append now w (used_in clauses inner.region) (flat_map (λ i. used_in clauses i.region) around))
    ∙ sighted-append (held found before) (visible_members now (used_in clauses inner.region) w) (visible_members now (flat_map (λ i. used_in clauses i.region) around) w)
    ∙ ap (λ so_far. sighted_all so_far (visible_members now (flat_map (λ i. used_in clauses i.region) around) w))
    (packages_held now w one found before (used_in clauses inner.region) is.regions is.listed
    (λ r has. only r (ap (λ b. b || is_used (given_regions k.given) k.own around r) (is.has r ∙ has)))
    ∙ ap (λ b. held found (before || b)) (sym (is.has one)))
    ∙ around_held now w k clauses one found (before || here) around s
    (λ r used. only r (or_true (has_number r (in_use_at (given_regions k.given) k.own inner.region)) _ used))
    ∙ ap (held found) (or_assoc before here (is_used (given_regions k.given) k.own around one))

-- ---- a name is found only where it is held

-- The list of the regions that hold a name.
abbrev pub holders_at : Declarations → Name → List ℕ
holders_at k w = option_map_or (listed_at k.holders) (symbol_of k.words w) []

held_there : (k : Declarations) (now : Known) (w : Name) (region : ℕ) (d : Declaration) → DeclarationsStand k now
    → declared_in now.ended region w ≡ Some d → is_visible d ≡ true → has_number region (holders_at k w) ≡ true
held_there k now w region d s is visible = by (symbol_of k.words w) (s.ended.last region w ∙ is)
  where
    by : (symbol : Option ℕ) → option_map_or (entry_at k.ended.last region) symbol None ≡ Some d
        → has_number region (option_map_or (listed_at k.holders) symbol []) ≡ true
    by None h = absurd (true≢false (sym (ap is_some h)))
    by (Some symbol) h = s.holders region symbol d h visible

-- Where no holder is in use, no region in use has the name.
unheld : (k : Declarations) (now : Known) (w : Name) (region : ℕ) → DeclarationsStand k now
    → (has_number region (holders_at k w) ≡ true → ⊥) → member_in now w region ≡ None
unheld k now w region s out = by (declared_in now.ended region w) refl
  where
    visible_by : (d : Declaration) (b : Bool) → b ≡ is_visible d → declared_in now.ended region w ≡ Some d → (if b then Some d else None) ≡ None
    visible_by d true is at = absurd (out (held_there k now w region d s at (sym is)))
    visible_by d false is at = refl

    by : (o : Option Declaration) → declared_in now.ended region w ≡ o → if_visible o ≡ None
    by None is = refl
    by (Some d) is = visible_by d (is_visible d) refl is

pub seen_nowhere : (k : Declarations) (used : Used) (now : Known) (w : Name) (around : List OpenRegion) → DeclarationsStand k now
    → UsedStands used (all_of now) now.uses → around ≡ now.open_regions
    → OnlyUsed (is_used (given_regions used.given) used.own around) (holders_at k w) holder.Nowhere
    → Nothing ≡ sighted_all Nothing (visible_members now (packages_in_use now) w)
seen_nowhere k used now w around s us at only =
    sym (ap (λ fs. sighted_all Nothing (visible_members now (flat_map (λ inner. used_in now.uses inner.region) fs) w)) (sym at)
    ∙ around_held now w used now.uses 0 None false around us
    (λ region in_use. unheld k now w region s (λ has. true≢false (sym in_use ∙ only region has)) ∙ none None (nat_eq 0 region))
    ∙ either (is_used (given_regions used.given) used.own around 0))
  where
    none : (found : Option Declaration) (b : Bool) → found ≡ (if b then found else found)
    none found true = refl
    none found false = refl

    either : (b : Bool) → held None b ≡ Nothing
    either true = refl
    either false = refl

pub seen_in_one : (k : Declarations) (used : Used) (now : Known) (w : Name) (around : List OpenRegion) (one : ℕ) → DeclarationsStand k now
    → UsedStands used (all_of now) now.uses → around ≡ now.open_regions
    → OnlyUsed (is_used (given_regions used.given) used.own around) (holders_at k w) (holder.Only one)
    → sighted_all Nothing (option_to_list (member_in now w one)) ≡ sighted_all Nothing (visible_members now (packages_in_use now) w)
seen_in_one k used now w around one s us at only =
    sym (ap (λ fs. sighted_all Nothing (visible_members now (flat_map (λ inner. used_in now.uses inner.region) fs) w)) (sym at)
    ∙ around_held now w used now.uses one (member_in now w one) false around us
    (λ region in_use. by region in_use (nat_eq one region) refl)
    ∙ ap (held (member_in now w one)) only.0)
  where
    by : (region : ℕ) → is_used (given_regions used.given) used.own around region ≡ true → (b : Bool) → nat_eq one region ≡ b
        → member_in now w region ≡ (if b then member_in now w one else None)
    by region in_use true is = ap (member_in now w) (sym (eqb-true one region is))
    by region in_use false is =
        unheld k now w region s
        (λ has. true≢false (sym (ap (nat_eq one) (only.1 region has in_use) ∙ nat_eq-refl one) ∙ is))
