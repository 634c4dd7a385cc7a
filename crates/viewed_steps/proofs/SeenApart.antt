-- What a name designates of which nothing is lent meets nothing that an observer sees.
use Rattle.std.proofs.Common.{◌≡◌, sym, ap, ◌∙◌, subst, inl, inr, ℕ, true, false, List, ◌++◌, Some, Bool}
use Rattle.machine.specs.place_names.declared.rule.Loan.TheVariants.{Borrowed, Observed}
use Rattle.machine.specs.place_names.declared.fact.Fact.{Fact}
use Rattle.machine.specs.place_names.Names.{Name as PlaceName, overlaps}
use Rattle.soundness.proofs.PlaceNames.{overlaps-sym}
use Rattle.machine.specs.flow_paths.Objects.{Typing}
use Rattle.soundness.specs.OwnedWays.Ways.{Step, Way, View, Under, Named, name_of, number_of}
use Rattle.soundness.proofs.OwnedWays.Named.{longer}
use Rattle.soundness.specs.OwnedLoans.Views.{Around, Views, expand, HasLoan, Viewed}
use Rattle.soundness.proofs.OwnedLoans.Clear.{overlaps_whole}
use Rattle.soundness.proofs.OwnedLoans.Meeting.{off_seen, off_part}
use Rattle.soundness.proofs.OwnedLoans.Safe.{Unlent, Unborrowed, unviewed, lent_fact, only_itself, apart_names}
use Rattle.soundness.proofs.OwnedLoans.Ways.{Meet, flip, meets_on, meet_overlaps, lifted_way, in_part_way, on_under}
use Rattle.soundness.specs.Seen.{home}
use Rattle.soundness.proofs.Contents.{bool_cases}
use Rattle.soundness.proofs.OwnedWays.Dropped.{named_base}
use Rattle.viewed_steps.proofs.Views.{base_named}
use Rattle.soundness.specs.ViewedSoundness.Holds.{is_view, is_bundle, GoesBy}

-- what overlaps a name overlaps what begins it
over_front : (t w : Way) → Under t w → (n : PlaceName) → overlaps n (name_of w) ≡ true → overlaps n (name_of t) ≡ true
over_front t w under n over =
    let l = longer t w under in
    let goes_on : name_of w ≡ record { root = number_of t; sels = (name_of t).sels ++ l.rest } = (λ j. record { root = l.root j; sels = l.sels j }) in
    overlaps_whole (name_of t) n l.rest (subst (λ (z : PlaceName). overlaps z n ≡ true) goes_on (overlaps-sym (name_of w) n ∙ over))

module _ (s : Typing) (sees : ℕ → Bool) (frame : ℕ) (other : Around (home s frame)) (v : Views) (view : View) (facts : List Fact)
    (viewed : Viewed (home s frame) sees other v view facts) where
  -- an observer, or another formal that sees
  observed_off : (u : Way) → Named (home s frame) u → sees (number_of u) ≡ false → Unlent facts u
      → (x : ℕ) (k : Way) → v.way x ≡ Some k → sees x ≡ true → Meet (expand v u) k → ⊥
  observed_off u named plain unlent x k has sight meets = elim (viewed.views.0 x k has) [
    | inl is ↦ (
        let loan = subst (λ z. HasLoan sees z x facts (name_of (v.loan x))) sight is.lent in
        apart_names (home s frame) sees other v view facts viewed u (v.up x) (named, plain) (is.named, is.plain)
        (λ h n there over. unlent Borrowed h n there over)
        (λ h n there over. viewed.clear.seen h loan.0 n (name_of (v.loan x)) there loan.1 (over_front (v.loan x) (v.up x) is.begins n over))
        (λ over. unlent Observed loan.0 (name_of (v.loan x)) loan.1
        (overlaps-sym (name_of (v.loan x)) (name_of u) ∙ over_front (v.loan x) (v.up x) is.begins (name_of u) over))
        (subst (Meet (expand v u)) (sym is.leads) meets))
    | inr passed ↦ (
        let (loan, changed, c) = off_seen (home s frame) sees v view facts viewed.views other.lent
        (unviewed (home s frame) sees other v view facts viewed) viewed.shown u (named, plain) x k has passed sight meets in
        unlent loan (number_of c.place) (name_of c.place) (lent_fact (home s frame) sees other v view facts viewed loan c.place c.lent_it)
        (meet_overlaps c.place u (flip u c.place (only_itself (home s frame) sees other v view facts viewed loan c.place u c.lent_it c.meets))))
  ]

  -- a part of a formal
  part_off : (u : Way) → Named (home s frame) u → sees (number_of u) ≡ false → Unlent facts u
      → (x : ℕ) (p : List Step) (k : Way) → v.part_way x p ≡ Some k → Meet (expand v u) k → ⊥
  part_off u named plain unlent x p k has meets =
      let (loan, c) = off_part (home s frame) sees v view facts viewed.views other.lent
      (unviewed (home s frame) sees other v view facts viewed) viewed.shown u (named, plain) x p k has meets in
      unlent loan (number_of c.place) (name_of c.place) (lent_fact (home s frame) sees other v view facts viewed loan c.place c.lent_it)
      (meet_overlaps c.place u (flip u c.place (only_itself (home s frame) sees other v view facts viewed loan c.place u c.lent_it c.meets)))

  -- what begins with a name that isn't moved or borrowed, or goes on from what sees, meets nothing that a name stands for of which
  -- nothing is lent and that doesn't overlap it
  pub seen_apart : (u : Way) → Named (home s frame) u → sees (number_of u) ≡ false → Unlent facts u
      → ((x : ℕ) → sees x ≡ true → is_view s x ≡ true)
      → (from there : Way) → Named (home s frame) from → Under from there → GoesBy s v (number_of from) there
      → (sees (number_of from) ≡ false → Unborrowed facts from) → (overlaps (name_of u) (name_of from) ≡ true → ⊥)
      → Meet (expand v u) (expand v there) → ⊥
  seen_apart u named plain unlent views from there named_from begins goes free apart meets = elim (bool_cases (sees (number_of from))) [
    | inr plain_there ↦
        apart_names (home s frame) sees other v view facts viewed u there (named, plain) (named_there, ap sees (longer from there begins).root ∙ plain_there)
        (λ h n has over. unlent Borrowed h n has over) (λ h n has over. free plain_there h n has (over_front from there begins n over))
        (λ over. apart (over_front from there begins (name_of u) over)) meets
    | inl sight ↦ elim (bool_cases (is_bundle s (number_of from))) [
      | inl bundle ↦ (
          let l = goes.1 bundle in
          part_off u named plain unlent l.object l.steps l.way l.has (front l.way (subst (Under l.way) (sym (in_part_way v there l)) (on_under l.way l.rest))))
      | inr bare ↦ (
          let l = goes.0 bare (views (number_of from) sight) in
          observed_off u named plain unlent l.0.object l.0.way l.0.has (ap sees l.1 ∙ sight)
          (front l.0.way (subst (Under l.0.way) (sym (lifted_way v there l.0)) (on_under l.0.way l.0.rest))))
    ]
  ]
    where
      named_there : Named (home s frame) there
      named_there = base_named (home s frame) there (number_of from) ((longer from there begins).base ∙ named_base (home s frame) from named_from)

      front : (k : Way) → Under k (expand v there) → Meet (expand v u) k
      front k under = flip k (expand v u) (meets_on k (expand v there) (expand v u) under (flip (expand v u) (expand v there) meets))
