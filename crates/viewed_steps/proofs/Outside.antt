-- What is taken from places of a frame meets nothing that the frames around keep: of package objects, they
-- keep nothing of those that it begins at.
use Rattle.std.proofs.Common.{◌≡◌, sym, ap, ◌∙◌, inl, inr, ℕ, true, false, List, ◌⊎◌, Some, ◌++◌, Bool}
use Rattle.machine.specs.spark_base.Lists.{Has}
use Rattle.machine.specs.type_definitions.Types.{Table}
use Rattle.machine.specs.typed_tree.Programs.{TypedProgram}
use Rattle.machine.specs.place_names.declared.fact.Fact.TheVariants.{Moved}
use Rattle.machine.specs.place_names.declared.rule.Loan.{Loan}
use Rattle.machine.specs.place_names.declared.rule.Loan.TheVariants.{Borrowed}
use Rattle.machine.specs.place_names.Names.{Name}
use Rattle.machine.specs.flow_paths.declared.report.Effects.{Effects}
use Rattle.machine.specs.flow_paths.Objects.{Typing, is_package_object}
use Rattle.machine.specs.flow_paths.Laid.{FlowProgram, flow_program, flow_typing}
use Rattle.machine.specs.States.{State}
use Rattle.soundness.specs.OwnedWays.Ways.{Step, OfVariable, OfRoot, Way, Loc, along, base_of, name_of, number_of, Past, Under, Named, View}
use Rattle.soundness.proofs.OwnedWays.Dropped.{named_base}
use Rattle.soundness.specs.Seen.{home}
use Rattle.soundness.specs.Sound.{Stage, facts_of}
use Rattle.soundness.proofs.Near.{named_near}
use Rattle.soundness.specs.ViewedSoundness.Holds.{is_view}
use Rattle.viewed_steps.specs.Sound.{ViewStage, GoneElsewhere, KeptBy}
use Rattle.viewed_steps.proofs.Views.{base_named}
use Rattle.viewed_steps.proofs.Between.{base_under, same_variable}
use Rattle.viewed_steps.proofs.Waiting.{StandsBetween, LentElsewhere, KeptElsewhere, BareElsewhere, IsLentFor, begins_elsewhere, near_lent, along_both}
use Rattle.soundness.proofs.OwnedWays.Locations.{past_under}
use Rattle.soundness.proofs.OwnedLoans.Others.{under_past}
use Rattle.soundness.proofs.OwnedLoans.Ways.{under_on, beginnings}
use Rattle.soundness.specs.OwnedLoans.Views.{Views, expand, AreViews, IsOuter}
use Rattle.soundness.proofs.OwnedLoans.Meeting.{stands}
use Rattle.machine.specs.place_names.declared.fact.Fact.{Fact}
use Rattle.viewed_steps.proofs.Roots.{FromGiven}
use Rattle.viewed_steps.specs.Seeing.{sees_in}
use Rattle.soundness.proofs.Parted.{by_either}

module _ (table : Table) (typed : TypedProgram) (effects : Effects)
    (unmoved : (e : Stage) → e.frame.sub ≡ 0 → (name : Name) → Has (facts_of (flow_program table typed) effects e) (Moved name) → ⊥)
    (local : (x : ℕ) → is_view (flow_typing (flow_program table typed)) x ≡ true
    → is_package_object (flow_typing (flow_program table typed)) x ≡ false) (state : State) (depth : ℕ) (older : List ViewStage)
    (between : (g : ViewStage) → Has older g → StandsBetween table typed effects unmoved local state depth older g) where
  abbrev sees : ℕ → Bool
  sees = sees_in (flow_program table typed)

  abbrev program : FlowProgram
  program = flow_program table typed

  abbrev s : Typing
  s = flow_typing (flow_program table typed)

  -- They keep nothing of this object.
  abbrev pub IsSpared : ℕ → Type 0
  IsSpared y = (l : Loan) (n : Name) → LentElsewhere table typed effects unmoved local older l n → n.root ≡ y → ⊥

  -- What a view of the frame sees that belongs to others: none of those around goes past it, and nothing that is gone for
  -- them meets it.
  pub record IsSeenAlone (to : Way) : Type 0 where
    pub way : Way
    pub under : Under way to
    pub past : (k : Way) (n : ℕ) → KeptBy older k n → Past way k → ⊥
    pub unmet : (z : Way) → GoneElsewhere program effects older z → Under z way ⊎ Under way z → ⊥

  -- A way of the frame begins at a variable of its own, or at a package object of which they keep nothing; or it goes on
  -- from what a view sees.
  abbrev pub IsFree : Way → Type 0
  IsFree to = ((y : ℕ) × (base_of to ≡ OfRoot (OfVariable (home s depth y) y)) × IsSpared y) ⊎ IsSeenAlone to

  module _ (to : Way) (y : ℕ) (base : base_of to ≡ OfRoot (OfVariable (home s depth y) y)) (spared : IsSpared y) where
    lent_clear : (w : Way) → base_of w ≡ base_of to → (l : Loan) → IsLentFor table typed effects unmoved local state depth older between l w → ⊥
    lent_clear w same l these =
        let (k, named, under, lent) = these in
        spared l (name_of k) lent
        (same_variable (home s depth (number_of k)) (number_of k) (home s depth y) y
        (sym (named_base (home s depth) k named) ∙ sym (base_under k w under) ∙ same ∙ base)).1

    other_home : (w : Way) → base_of w ≡ base_of to → (f x : ℕ) → base_of w ≡ OfRoot (OfVariable f x) → (f ≡ home s depth x → ⊥) → ⊥
    other_home w same f x based away =
        let is = same_variable f x (home s depth y) y (sym based ∙ same ∙ base) in away (is.0 ∙ ap (home s depth) (sym is.1))

    own_kept : (w : Way) (n : ℕ) → KeptElsewhere table typed effects unmoved local older w n → base_of w ≡ base_of to → ⊥
    own_kept w n kept same =
        let b = begins_elsewhere table typed effects unmoved local state depth older between w n kept in
        elim b.3 [
          | inl away ↦ other_home w same b.0 b.1 b.2 away
          | inr lent ↦ lent_clear w same lent.0 lent.1
        ]

    own_gone : (w : Way) → GoneElsewhere program effects older w → base_of w ≡ base_of to → ⊥
    own_gone w gone same =
        lent_clear w same Borrowed
        (near_lent table typed effects unmoved local state depth older between w (named_near s depth w (base_named (home s depth) w y (same ∙ base))) gone)

  pub kept_clear : (to : Way) → IsFree to → (w : Way) (n : ℕ) → KeptElsewhere table typed effects unmoved local older w n → Past to w → ⊥
  kept_clear to (inl (y, base, spared)) w n kept past = own_kept to y base spared w n kept (base_under to w (past_under to w past))
  kept_clear to (inr seen) w n kept past = seen.past w n kept (under_past seen.way to w seen.under past)

  pub gone_clear : (to : Way) → IsFree to → (w : Way) → GoneElsewhere program effects older w → Under to w ⊎ Under w to → ⊥
  gone_clear to (inl (y, base, spared)) w gone (inl below) = own_gone to y base spared w gone (base_under to w below)
  gone_clear to (inl (y, base, spared)) w gone (inr above) = own_gone to y base spared w gone (sym (base_under w to above))
  gone_clear to (inr seen) w gone (inl below) = seen.unmet w gone (inr (under_on seen.way to w seen.under below))
  gone_clear to (inr seen) w gone (inr above) = elim (beginnings seen.way w to seen.under above) [
    | inl a ↦ seen.unmet w gone (inr a)
    | inr b ↦ seen.unmet w gone (inl b)
  ]

  -- what is bare for them is gone for them
  pub bare_clear : (to : Way) → IsFree to → (w : Way) (l : Loc) (p q : List Step) → BareElsewhere table typed effects unmoved local older w l p → Under to (along w (q ++ p)) → ⊥
  bare_clear to free w l p q these below =
      let (g, has, bare) = these in
      gone_clear to free (along w (q ++ p)) (g, has, inr (along w p, bare.0, q, along_both w q p)) (inl below)

  -- a name of the frame stands for such a way
  pub free_name : (views : Views) (view : View) (facts : List Fact) (are : AreViews (home s depth) sees views view facts)
      → ((x : ℕ) (w : Way) → views.way x ≡ Some w → (Named (home s depth) (views.up x) → ⊥) → sees x ≡ false → (k : Way) (n : ℕ) → KeptBy older k n → Past w k → ⊥)
      → ((x : ℕ) (w z : Way) → views.way x ≡ Some w → IsOuter (home s depth) views x w → GoneElsewhere program effects older z → Under z w ⊎ Under w z → ⊥)
      → (name : Way) → Named (home s depth) name → sees (number_of name) ≡ false
      → ((y : ℕ) → base_of (expand views name) ≡ OfRoot (OfVariable (home s depth y) y) → IsSpared y ⊎ FromGiven (home s depth) sees views view facts are (expand views name)) → IsFree (expand views name)
  free_name views view facts are past unmet name named plain spared = by_either (stands (home s depth) sees views view facts are name (named, plain))
      (λ own. (
      let base = named_base (home s depth) (expand views name) own.named in
      by_either (spared (number_of (expand views name)) base)
      (λ none. (inl (number_of (expand views name), base, none)))
      (λ (x, w, has, given, sight, under). (inr (record { way = w; under = under; past = past x w has given sight; unmet = λ z gone meets. unmet x w z has (inr given) gone meets })))))
      (λ held. (inr (record {
        way = held.way;
        under = held.under;
        past = past held.object held.way held.has held.passed.given held.plain;
        unmet = λ z gone meets. unmet held.object held.way z held.has (inr held.passed.given) gone meets;
      })))
