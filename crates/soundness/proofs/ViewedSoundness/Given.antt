-- What a formal that owns nothing sees: what its actual designates, in a frame of its own. Nothing that
-- was moved meets its way, and it is foreign there.
use Rattle.std.proofs.Common.{◌≡◌, refl, sym, ap, ◌∙◌, subst, ◌⊎◌, inl, inr, ℕ, suc, ◌<◌, Bool, true, false, List, Some, arith, if◌then◌else◌}
use Rattle.machine.specs.place_names.declared.fact.Fact.{Fact}
use Rattle.machine.specs.flow_paths.Objects.{Typing, is_package_object}
use Rattle.soundness.specs.OwnedWays.Ways.{Step, OfVariable, OfRoot, Way, All, View, Under, Past, Named, base_of, number_of, name_of}
use Rattle.soundness.proofs.OwnedWays.Dropped.{named_base}
use Rattle.soundness.proofs.OwnedWays.Locations.{under_itself}
use Rattle.soundness.specs.Seen.{IsNear, home}
use Rattle.soundness.proofs.Around.{package_named}
use Rattle.soundness.specs.OwnedLoans.Views.{on, Around, Views, expand, ExcusedBy, IsForeign, Viewed, Lifted, InPart}
use Rattle.soundness.proofs.OwnedLoans.Ways.{Meet, meets_front, beginnings, under_on, on_under, lifted_way, next_of, in_part_way}
use Rattle.soundness.proofs.OwnedLoans.Meeting.{next, no_part}
use Rattle.machine.specs.place_names.Names.{overlaps}
use Rattle.place_names.proofs.Names.{overlaps-sym}
use Rattle.soundness.proofs.OwnedLoans.Safe.{Unlent, Unborrowed, designated_over, unlent_below, unborrowed_below, unmoved_below, over_below, apart_names, off_parts, off_view}
use Rattle.soundness.proofs.OwnedLoans.Allowed.{Cleared, cleared_whole}
use Rattle.soundness.proofs.OwnedLoans.Others.{off_kept, above_away, clean_away, seen_above_away, seen_away_below, part_above_away, part_away_below}
use Rattle.soundness.proofs.OwnedLoans.Moves.{IsPlace}
use Rattle.soundness.proofs.ViewedSoundness.Spared.{gone_off}
use Rattle.soundness.proofs.ViewedSoundness.Viewing.{expand_down}

module _ (s : Typing) (sees : ℕ → Bool) (frame : ℕ) (other : Around (home s frame)) (v : Views) (view : View) (facts : List Fact)
    (viewed : Viewed (home s frame) sees other v view facts) (alone : (w : Way) → IsNear frame w → other.gone w → ⊥) where
  -- One of two ways begins the other.
  abbrev Meets : Way → Way → Type 0
  Meets z w = Under z w ⊎ Under w z

  -- by a name of an owner or a borrower
  pub owner_whole : (u : Way) → Named (home s frame) u → sees (number_of u) ≡ false → IsPlace v u → Cleared facts u
      → (z : Way) → ExcusedBy (home s frame) v other facts z → Meets z (expand v (All u)) → ⊥
  owner_whole u named plain place clear z excused meets =
      by_case excused (subst (Meets z) (expand_down v u place (inr (no_part (home s frame) sees v view facts viewed.views u plain))) meets)
    where
      by_case : ExcusedBy (home s frame) v other facts z → Meets z (All (expand v u)) → ⊥
      by_case (inr gone) met = gone_off s sees frame other v view facts viewed alone u z named plain (meets_front (expand v u) (All (expand v u)) z (inr (under_itself (expand v u))) met) gone
      by_case (inl away) (inr below) =
          clean_away (home s frame) sees other v view facts viewed u z (named, plain) clear.0 clear.1
          (under_on (expand v u) (All (expand v u)) z (inr (under_itself (expand v u))) below) away
      by_case (inl away) (inl (inl same)) =
          clean_away (home s frame) sees other v view facts viewed u z (named, plain) clear.0 clear.1
          (subst (Under (expand v u)) (sym same) (inr (under_itself (expand v u)))) away
      by_case (inl away) (inl (inr above)) =
          above_away (home s frame) sees other v view facts viewed u z (named, plain) (cleared_whole facts u clear) above away

  -- by the way of what is designated, of a formal itself, too
  pub lent_whole : (u : Way) → Named (home s frame) u → sees (number_of u) ≡ false → Cleared facts u
      → (z : Way) → ExcusedBy (home s frame) v other facts z → Meets z (expand v (All u)) → ⊥
  lent_whole u named plain clear z excused meets = by_case excused meets
    where
      clear_below : Cleared facts (All u)
      clear_below = (unborrowed_below facts u clear.0, unmoved_below facts u clear.1)

      by_case : ExcusedBy (home s frame) v other facts z → Meets z (expand v (All u)) → ⊥
      by_case (inr gone) met = gone_off s sees frame other v view facts viewed alone (All u) z named plain met gone
      by_case (inl away) (inr below) =
          clean_away (home s frame) sees other v view facts viewed (All u) z (named, plain) clear_below.0 clear_below.1 below away
      by_case (inl away) (inl above) =
          above_away (home s frame) sees other v view facts viewed (All u) z (named, plain) (cleared_whole facts (All u) clear_below) above away

  -- through an observer or another formal
  pub seen_whole : (u : Way) → Named (home s frame) u → (l : Lifted v (All u)) → sees l.object ≡ true
      → (z : Way) → ExcusedBy (home s frame) v other facts z → Meets z (expand v (All u)) → ⊥
  seen_whole u named l sight z (inl away) (inl above) =
      seen_above_away (home s frame) sees other v view facts viewed (All u) z l named sight above away
  seen_whole u named l sight z (inl away) (inr below) =
      seen_away_below (home s frame) sees other v view facts viewed (All u) z l named sight below away
  seen_whole u named l sight z (inr gone) meets = elim (viewed.views.0 l.object l.way l.has) [
    | inl own ↦ (
        let on = next (home s frame) sees v view facts viewed.views (All u) l own named in
        gone_off s sees frame other v view facts viewed alone (next_of v (All u) l) z on.plain.0 on.plain.1 (subst (Meets z) (sym on.same) meets) gone)
    | inr passed ↦ viewed.whole l.object l.way z l.has (inr passed.given) gone (nearer (subst (Meets z) (lifted_way v (All u) l) meets))
  ]
    where
      nearer : Meets z (on l.way l.rest) → Meets z l.way
      nearer (inl above) = beginnings z l.way (on l.way l.rest) above (on_under l.way l.rest)
      nearer (inr below) = inr (under_on l.way (on l.way l.rest) z (on_under l.way l.rest) below)

  -- through a part of a formal
  pub part_whole : (u : Way) → (l : InPart v u) → (z : Way) → ExcusedBy (home s frame) v other facts z → Meets z (expand v u) → ⊥
  part_whole u l z (inl away) (inl above) = part_above_away (home s frame) sees other v view facts viewed u z l above away
  part_whole u l z (inl away) (inr below) = part_away_below (home s frame) sees other v view facts viewed u z l below away
  part_whole u l z (inr gone) meets = viewed.whole_parts l.object l.steps l.way z l.has gone (nearer (subst (Meets z) (in_part_way v u l) meets))
    where
      nearer : Meets z (on l.way l.rest) → Meets z l.way
      nearer (inl above) = beginnings z l.way (on l.way l.rest) above (on_under l.way l.rest)
      nearer (inr below) = inr (under_on l.way (on l.way l.rest) z (on_under l.way l.rest) below)

-- What a formal changes: nothing of it is lent, so no view of the frame goes past it, and none of others; and
-- what names designate that don't overlap doesn't meet.
module _ (s : Typing) (sees : ℕ → Bool) (frame : ℕ) (other : Around (home s frame)) (v : Views) (view : View) (facts : List Fact)
    (viewed : Viewed (home s frame) sees other v view facts) where
  pub lent_past : (u : Way) → Named (home s frame) u → sees (number_of u) ≡ false → Unlent facts u
      → (x : ℕ) (w : Way) → v.way x ≡ Some w → Past (expand v (All u)) w → ⊥
  lent_past u named plain unlent x w has past =
      off_view (home s frame) sees other v view facts viewed (All u) x w (named, plain) (unlent_below facts u unlent) has past

  pub lent_past_part : (u : Way) → Named (home s frame) u → sees (number_of u) ≡ false → Unlent facts u
      → (x : ℕ) (p : List Step) (w : Way) → v.part_way x p ≡ Some w → Past (expand v (All u)) w → ⊥
  lent_past_part u named plain unlent x p w has past =
      off_parts (home s frame) sees other v view facts viewed (All u) x p w (named, plain) (unlent_below facts u unlent) has past

  pub lent_far : (u : Way) → Named (home s frame) u → sees (number_of u) ≡ false → Unlent facts u
      → (w : Way) (n : ℕ) → other.kept w n → Past (expand v (All u)) w → ⊥
  lent_far u named plain unlent w n keeps past =
      off_kept (home s frame) sees other v view facts viewed (All u) w n (named, plain) (unlent_below facts u unlent) keeps past

  pub lent_apart : (u y : Way) → Named (home s frame) u → Named (home s frame) y → sees (number_of u) ≡ false → sees (number_of y) ≡ false
      → Unborrowed facts u → Unborrowed facts y → (overlaps (name_of u) (name_of y) ≡ true → ⊥) → Meet (expand v (All u)) (expand v (All y)) → ⊥
  lent_apart u y named named_y plain plain_y free free_y apart meets =
      apart_names (home s frame) sees other v view facts viewed (All u) (All y) (named, plain) (named_y, plain_y)
      (unborrowed_below facts u free) (unborrowed_below facts y free_y) (λ over. apart (over_below u y over)) meets

  -- nor what a name designates and another place
  pub lent_beside : (u y : Way) → Named (home s frame) u → Named (home s frame) y → sees (number_of u) ≡ false → sees (number_of y) ≡ false
      → Unborrowed facts u → Unborrowed facts y → (overlaps (name_of u) (name_of y) ≡ true → ⊥) → Meet (expand v (All u)) (expand v y) → ⊥
  lent_beside u y named named_y plain plain_y free free_y apart meets =
      apart_names (home s frame) sees other v view facts viewed (All u) y (named, plain) (named_y, plain_y) (unborrowed_below facts u free) free_y
      (λ over. apart (overlaps-sym (name_of u) (name_of y) ∙ designated_over (name_of y) u (overlaps-sym (name_of y) (name_of (All u)) ∙ over))) meets

-- A way of a frame, or one that is foreign there and begins below the next frame.
abbrev pub IsLow : Typing → ℕ → Way → Type 0
IsLow s frame w = Named (home s frame) w ⊎ ((foreign : IsForeign (home s frame) w) × (foreign.0 < suc frame) × (0 < foreign.0))

-- A way that is foreign and begins below a frame, or one that begins at a package object.
abbrev pub IsThere : Typing → ℕ → Way → Type 0
IsThere s frame w =
    ((foreign : IsForeign (home s frame) w) × (foreign.0 < frame) × (0 < foreign.0)) ⊎ (Named (home s frame) w × (is_package_object s (number_of w) ≡ true))

-- it begins at a variable
pub low_begins : (s : Typing) (frame : ℕ) (w : Way) → IsLow s frame w → (f : ℕ) × (y : ℕ) × (base_of w ≡ OfRoot (OfVariable f y))
low_begins s frame w (inl named) = (home s frame (number_of w), number_of w, named_base (home s frame) w named)
low_begins s frame w (inr (foreign, low, some)) = (foreign.0, foreign.1, foreign.2)

-- so it is in the next frame
pub low_there : (s : Typing) (frame : ℕ) (w : Way) → 0 < frame → IsLow s frame w → IsThere s (suc frame) w
low_there s frame w deep (inl named) = by_kind (is_package_object s (number_of w)) refl
  where
    by_kind : (b : Bool) → is_package_object s (number_of w) ≡ b → IsThere s (suc frame) w
    by_kind true shared = inr (package_named s frame (suc frame) w shared named, shared)
    by_kind false own =
        let here : home s frame (number_of w) ≡ frame = ap (λ b. if b then 0 else frame) own in
        let there : home s (suc frame) (number_of w) ≡ suc frame = ap (λ b. if b then 0 else suc frame) own in inl (
          (home s frame (number_of w), number_of w, named_base (home s frame) w named, λ e. (omega (arith, e, here, there))),
          (omega (arith, here)),
          (omega (arith, here, deep)),
        )
low_there s frame w deep (inr (foreign, low, some)) =
    inl ((foreign.0, foreign.1, foreign.2, λ e. by_kind (is_package_object s foreign.1) refl e), low, some)
  where
    by_kind : (b : Bool) → is_package_object s foreign.1 ≡ b → foreign.0 ≡ home s (suc frame) foreign.1 → ⊥
    by_kind true shared e =
        foreign.3 (e ∙ ap (λ b. if b then 0 else suc frame) shared ∙ sym (ap (λ b. if b then 0 else frame) shared))
    by_kind false own e =
        (let there : home s (suc frame) foreign.1 ≡ suc frame = ap (λ b. if b then 0 else suc frame) own in omega (arith, low, e, there))
