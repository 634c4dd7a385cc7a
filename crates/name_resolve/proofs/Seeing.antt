-- What is seen in the packages in use.
use Rattle.std.proofs.Common.{◌≡◌, refl, ap, sym, ◌∙◌, ℕ, Bool, true, false, ◌&&◌, if◌then◌else◌, nat_eq, List, [], ◌∷◌, ◌++◌, None, Some, option_to_list, reverse, slice_get}
use Rattle.std.specs.List.{flat_map, list_all}
use Rattle.std.proofs.lemmas.List.{append_assoc, reverse-append}
use Rattle.name_events.specs.declared.declaration.Declaration.{Declaration}
use Rattle.name_events.specs.declared.declaration.OpenRegion.{OpenRegion}
use Rattle.name_events.specs.Declarations.{Name}
use Rattle.name_events.specs.Known.{Known, only_one, used_in, visible_member, visible_members}
use Rattle.name_events.specs.Denotes.{is_there}
use Rattle.name_resolve.specs.declared.sighting.Sighting.{Sighting}
use Rattle.name_resolve.specs.declared.sighting.Sighting.TheVariants.{Nothing, One, Several}
use Rattle.name_resolve.specs.Sightings.{sighted, sighted_all, the_one, is_any}

several_stay : (ds : List Declaration) → sighted_all Several ds ≡ Several
several_stay [] = refl
several_stay (d ∷ ds) = several_stay ds

one_stays : (first : Declaration) (ds : List Declaration)
    → sighted_all (One first) ds ≡ (if list_all (λ other. nat_eq other.number first.number) ds then One first else Several)
one_stays first [] = refl
one_stays first (d ∷ ds) = by (nat_eq d.number first.number) (one_stays first ds)
  where
    by : (b : Bool)
        → sighted_all (One first) ds ≡ (if list_all (λ other. nat_eq other.number first.number) ds then One first else Several)
        → sighted_all (if b then One first else Several) ds
        ≡ (if b && list_all (λ other. nat_eq other.number first.number) ds then One first else Several)
    by true h = h
    by false h = several_stay ds

-- What is seen of all of them tells whether they are one declaration, and whether there is one.
pub one_seen : (ds : List Declaration) → only_one ds ≡ the_one (sighted_all Nothing ds)
one_seen [] = refl
one_seen (d ∷ ds) = by (list_all (λ other. nat_eq other.number d.number) ds) ∙ sym (ap the_one (one_stays d ds))
  where
    by : (b : Bool) → (if b then Some d else None) ≡ the_one (if b then One d else Several)
    by true = refl
    by false = refl

pub any_seen : (ds : List Declaration) → is_there ds ≡ is_any (sighted_all Nothing ds)
any_seen [] = refl
any_seen (d ∷ ds) = by (list_all (λ other. nat_eq other.number d.number) ds) ∙ sym (ap is_any (one_stays d ds))
  where
    by : (b : Bool) → true ≡ is_any (if b then One d else Several)
    by true = refl
    by false = refl

pub sighted-append : (so_far : Sighting) (xs ys : List Declaration) → sighted_all so_far (xs ++ ys) ≡ sighted_all (sighted_all so_far xs) ys
sighted-append so_far [] ys = refl
sighted-append so_far (x ∷ xs) ys = sighted-append (sighted so_far x) xs ys

pub members-append : (now : Known) (w : Name) (ms ns : List ℕ) → visible_members now (ms ++ ns) w ≡ visible_members now ms w ++ visible_members now ns w
members-append now w [] ns = refl
members-append now w (m ∷ ms) ns =
    ap (λ ds. option_to_list (visible_member now (slice_get now.declared m) w) ++ ds) (members-append now w ms ns)
    ∙ sym (append_assoc (option_to_list (visible_member now (slice_get now.declared m) w)) (visible_members now ms w) (visible_members now ns w))

-- One more package.
pub package_next : (now : Known) (w : Name) (so_far next : Sighting) (n : ℕ) (rest : List ℕ)
    → next ≡ sighted_all so_far (option_to_list (visible_member now (slice_get now.declared n) w))
    → sighted_all so_far (visible_members now (n ∷ rest) w) ≡ sighted_all next (visible_members now rest w)
package_next now w so_far next n rest is =
    sighted-append so_far (option_to_list (visible_member now (slice_get now.declared n) w)) (visible_members now rest w)
    ∙ ap (λ s. sighted_all s (visible_members now rest w)) (sym is)

-- The packages in use in one more region.
pub region_next : (now : Known) (w : Name) (clauses : List (ℕ × ℕ)) (so_far next result : Sighting) (around outer : List OpenRegion) (inner : OpenRegion) (numbers : List ℕ)
    → around ≡ outer ++ inner ∷ []
    → numbers ≡ used_in clauses inner.region
    → next ≡ sighted_all so_far (visible_members now numbers w)
    → result ≡ sighted_all next (visible_members now (flat_map (λ f. used_in clauses f.region) (reverse outer)) w)
    → result ≡ sighted_all so_far (visible_members now (flat_map (λ f. used_in clauses f.region) (reverse around)) w)
region_next now w clauses so_far next result around outer inner numbers is listed first rest =
    rest
    ∙ ap (λ s. sighted_all s (visible_members now (flat_map (λ f. used_in clauses f.region) (reverse outer)) w))
    (first ∙ ap (λ ns. sighted_all so_far (visible_members now ns w)) listed)
    ∙ sym (sighted-append so_far (visible_members now (used_in clauses inner.region) w) (visible_members now (flat_map (λ f. used_in clauses f.region) (reverse outer)) w))
    ∙ ap (sighted_all so_far) (sym (members-append now w (used_in clauses inner.region) (flat_map (λ f. used_in clauses f.region) (reverse outer))))
    ∙ ap (λ fs. sighted_all so_far (visible_members now (flat_map (λ f. used_in clauses f.region) fs) w)) (sym (ap reverse is ∙ reverse-append outer (inner ∷ [])))
