-- Sets of the regions of packages, where packages and declarations come.
use Rattle.std.proofs.Common.{◌≡◌, refl, ap, sym, ◌∙◌, subst, true≢false, ℕ, zero, suc, ◌<◌, length, get_or, slice_set, Bool, true, false, if◌then◌else◌, not, nat_eq, List, [], ◌∷◌, ◌++◌, Some, is_some, map, filter}
use Rattle.std.specs.Prelude.{◌||◌}
use Rattle.std.proofs.lemmas.List.{append_assoc, append-nil, map-append}
use Rattle.std.proofs.lemmas.List.Folds.{list_any-append}
use Rattle.name_events.specs.declared.declaration.Declaration.{Declaration}
use Rattle.name_events.specs.Declarations.{has_number, added_number}
use Rattle.name_events.specs.Known.{Context, used_in}
use Rattle.name_resolve.specs.declared.contexts.Contexts.{Contexts}
use Rattle.name_resolve.specs.declared.used.Used.{Used}
use Rattle.name_resolve.specs.Tables.{in_use_at, listed_at, own_region_of}
use Rattle.name_resolve.specs.Stands.{AreRegionsOf, ContextsStand, UsedStands}
use Rattle.std.proofs.lemmas.Bool.{eqb-true}
use Rattle.name_resolve.proofs.Given.{has_added}
use Rattle.name_resolve.proofs.Lists.{listed_is, listed_set}
use Rattle.name_resolve.proofs.UsesInRegions.{used_in-added, used_in-begun}

-- ---- one more declaration

get_grown : (all more : List Declaration) (n region : ℕ) → own_region_of all n ≡ Some region → own_region_of (all ++ more) n ≡ Some region
get_grown [] more n region is = absurd (true≢false (sym (ap is_some is)))
get_grown (d ∷ all) more zero region is = is
get_grown (d ∷ all) more (suc n) region is = get_grown all more n region is

listed_grown : (all more : List Declaration) (packages regions : List ℕ) → map (own_region_of all) packages ≡ map Some regions
    → map (own_region_of (all ++ more)) packages ≡ map Some regions
listed_grown all more [] [] is = refl
listed_grown all more [] (region ∷ regions) is = absurd (cc is)
listed_grown all more (n ∷ packages) [] is = absurd (cc is)
listed_grown all more (n ∷ packages) (region ∷ regions) is =
    let first : own_region_of all n ≡ Some region = cc is in
    let rest : map (own_region_of all) packages ≡ map Some regions = cc is in
    λ j. get_grown all more n region first j ∷ listed_grown all more packages regions rest j

regions_grown : (all more : List Declaration) (packages found : List ℕ) → AreRegionsOf all packages found → AreRegionsOf (all ++ more) packages found
regions_grown all more packages found s = record { regions = s.regions; listed = listed_grown all more packages s.regions s.listed; has = s.has }

pub used_grown : (k : Used) (all more : List Declaration) (clauses : List (ℕ × ℕ)) → UsedStands k all clauses → UsedStands k (all ++ more) clauses
used_grown k all more clauses s region = regions_grown all more _ _ (s region)

pub contexts_grown : (k : Contexts) (all more : List Declaration) (contexts : List Context) → ContextsStand all k contexts → ContextsStand (all ++ more) k contexts
contexts_grown k all more contexts s = record {
  given = λ n. let g = s.given n in
      record { listed = g.listed; has = g.has; uses = g.uses; regions = regions_grown all more _ _ g.regions };
}

-- ---- packages

pub none_are : (all : List Declaration) → AreRegionsOf all [] []
none_are all = record { regions = []; listed = refl; has = λ region. refl }

-- One more package.
pub region_added : (all : List Declaration) (front keys new before : List ℕ) (n region : ℕ) → own_region_of all n ≡ Some region
    → new ≡ added_number keys region
    → AreRegionsOf all before (front ++ keys) → AreRegionsOf all (before ++ n ∷ []) (front ++ new)
region_added all front keys new before n region at is s = record {
  regions = s.regions ++ region ∷ [];
  listed = map-append (own_region_of all) before (n ∷ []) ∙ (λ j. s.listed j ++ at j ∷ []) ∙ sym (map-append Some s.regions (region ∷ []));
  has = λ r. ap (λ xs. has_number r (front ++ xs)) is ∙ list_any-append (nat_eq r) front (added_number keys region)
      ∙ ap (λ b. has_number r front || b) (has_added keys keys region r (λ k. refl))
      ∙ sym (list_any-append (nat_eq r) front (keys ++ region ∷ []))
      ∙ ap (has_number r) (sym (append_assoc front keys (region ∷ [])))
      ∙ list_any-append (nat_eq r) (front ++ keys) (region ∷ [])
      ∙ ap (λ b. b || has_number r (region ∷ [])) (s.has r)
      ∙ sym (list_any-append (nat_eq r) s.regions (region ∷ []));
}

-- ---- clauses

pub set_added : {X : Type 0} (f : X → List ℕ) (all : List Declaration) (sets : List X) (i : ℕ) (x m : X) (packages : List ℕ) (n : ℕ) (front before : List ℕ)
    → i < length sets → m ≡ get_or sets i m
    → (AreRegionsOf all before (front ++ f m) → AreRegionsOf all (before ++ packages) (front ++ f x))
    → AreRegionsOf all before (front ++ listed_at (map f sets) n)
    → AreRegionsOf all (if nat_eq n i then before ++ packages else before) (front ++ listed_at (map f (slice_set sets i x)) n)
set_added f all sets i x m packages n front before within is adds s =
    subst (λ xs. AreRegionsOf all (if nat_eq n i then before ++ packages else before) (front ++ xs)) (sym (listed_set f sets i x n within))
    (by (nat_eq n i) refl)
  where
    by : (b : Bool) → b ≡ nat_eq n i → AreRegionsOf all (if b then before ++ packages else before) (front ++ (if b then f x else listed_at (map f sets) n))
    by true at =
        adds (subst (λ xs. AreRegionsOf all before (front ++ xs)) (ap (listed_at (map f sets)) (eqb-true n i (sym at)) ∙ listed_is f sets i m within is) s)
    by false at = s

pub used_ended : (given : List ℕ) (old new : List (List ℕ)) (all : List Declaration) (clauses : List (ℕ × ℕ)) (here : ℕ) (packages : List ℕ)
    → ((n : ℕ) (front before : List ℕ) → AreRegionsOf all before (front ++ listed_at old n)
    → AreRegionsOf all (if nat_eq n here then before ++ packages else before) (front ++ listed_at new n))
    → ((region : ℕ) → AreRegionsOf all (used_in clauses region) (in_use_at given old region))
    → (region : ℕ) → AreRegionsOf all (used_in (clauses ++ map (λ p. (here, p)) packages) region) (in_use_at given new region)
used_ended given old new all clauses here packages adds s region =
    subst (λ ns. AreRegionsOf all ns (in_use_at given new region)) (sym (used_in-added clauses here packages region))
    (adds region (if nat_eq region 0 then given else []) (used_in clauses region) (s region))

pub used_begun : (before given : List ℕ) (old new : List (List ℕ)) (all : List Declaration) (clauses : List (ℕ × ℕ)) (packages : List ℕ)
    → ((n : ℕ) → listed_at new n ≡ (if nat_eq n 0 then [] else listed_at old n))
    → AreRegionsOf all packages given
    → ((region : ℕ) → AreRegionsOf all (used_in clauses region) (in_use_at before old region))
    → (region : ℕ) → AreRegionsOf all (used_in (filter (λ u. not (nat_eq 0 u.0)) clauses ++ map (λ p. (0, p)) packages) region) (in_use_at given new region)
used_begun before given old new all clauses packages clears gives s region =
    subst (λ ns. AreRegionsOf all ns (in_use_at given new region)) (sym (used_in-begun clauses packages region))
    (subst (λ xs. AreRegionsOf all (if nat_eq region 0 then packages else used_in clauses region) ((if nat_eq region 0 then given else []) ++ xs))
    (sym (clears region))
    (by (nat_eq region 0) (s region)))
  where
    by : (b : Bool) → AreRegionsOf all (used_in clauses region) ((if b then before else []) ++ listed_at old region)
        → AreRegionsOf all (if b then packages else used_in clauses region) ((if b then given else []) ++ (if b then [] else listed_at old region))
    by true s = subst (AreRegionsOf all packages) (sym (append-nil given)) gives
    by false s = s
