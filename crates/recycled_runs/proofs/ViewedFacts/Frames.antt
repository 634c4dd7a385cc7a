-- Facts of all frames, as the innermost one has them: its own, those of the frames around on package
-- objects beside them, and what those frames have moved of their own.
use Rattle.soundness.specs.ViewedSoundness.Holds.{is_view}
use Rattle.std.proofs.Common.{◌≡◌, ◌⊎◌, inl, inr, ℕ, true, false, List, ◌++◌, Some}
use Rattle.machine.specs.place_names.declared.rule.Loan.TheVariants.{Borrowed}
use Rattle.machine.specs.spark_base.Lists.{Has}
use Rattle.soundness.proofs.Lists.{Has-append_cases}
use Rattle.machine.specs.place_names.declared.fact.Fact.{Fact}
use Rattle.machine.specs.place_names.declared.fact.Fact.TheVariants.{Moved}
use Rattle.machine.specs.place_names.Names.{Name as PlaceName}
use Rattle.machine.specs.type_definitions.Types.{Table}
use Rattle.machine.specs.typed_tree.Programs.{TypedProgram}
use Rattle.machine.specs.flow_paths.declared.report.Effects.{Effects}
use Rattle.machine.specs.flow_paths.Objects.{Typing, is_package_object}
use Rattle.machine.specs.flow_paths.Laid.{FlowProgram, flow_typing, flow_program}
use Rattle.machine.specs.States.{State}
use Rattle.soundness.specs.OwnedWays.Ways.{Way, View, Told, name_of}
use Rattle.soundness.specs.Seen.{home}
use Rattle.soundness.specs.Sound.{Stage, facts_of}
use Rattle.soundness.proofs.Around.{near_or_far, IsFar}
use Rattle.soundness.specs.OwnedLoans.Views.{Views}
use Rattle.viewed_steps.specs.Sound.{ViewStage, GoneElsewhere}
use Rattle.viewed_steps.proofs.Waiting.{StandsBetween, handed, none_moved, gone_low, near_lent, IsLentFor}
use Rattle.recycled_runs.proofs.ViewedFacts.Steps.{based_variable}
use Rattle.recycled_runs.specs.ViewedFacts.Exact.{IsDefiniteBy, IsDefinite, IsDefiniteOf}

-- ---- the frames

module _ (table : Table) (typed : TypedProgram) (effects : Effects)
    (unmoved : (e : Stage) → e.frame.sub ≡ 0 → (name : PlaceName) → Has (facts_of (flow_program table typed) effects e) (Moved name) → ⊥)
    (local : (x : ℕ) → is_view (flow_typing (flow_program table typed)) x ≡ true → is_package_object (flow_typing (flow_program table typed)) x ≡ false) where
  abbrev program : FlowProgram
  program = flow_program table typed

  abbrev s : Typing
  s = flow_typing (flow_program table typed)

  -- A fact without an element of the innermost frame, or of one around, calls it moved.
  abbrev pub IsDefiniteHere : ℕ → Views → List Fact → List ViewStage → Way → Type 0
  IsDefiniteHere depth v own older w =
      IsDefiniteBy (home (flow_typing (flow_program table typed)) depth) v own w ⊎ IsDefiniteOf (flow_program table typed) effects older w

  module _ (state : State) (depth : ℕ) (older : List ViewStage) (between : (g : ViewStage) → Has older g → StandsBetween table typed effects unmoved local state depth older g)
      (v : Views) (own_views : (x : ℕ) (w : Way) → v.way x ≡ Some w → is_package_object s x ≡ false) where
    -- what they have moved of their own, or through a place of a package object that they have borrowed
    abbrev pub elsewhere : Way → Type 0
    elsewhere w =
        IsFar depth (IsDefiniteOf (flow_program table typed) effects older) w
        ⊎ (IsLentFor table typed effects unmoved local state depth older between Borrowed w × IsDefiniteOf (flow_program table typed) effects older w)

    abbrev around : List Fact
    around = handed table typed effects unmoved local state depth older between

    -- what they moved is gone for them
    pub definite_gone : (w : Way) → IsDefiniteOf (flow_program table typed) effects older w → GoneElsewhere program effects older w
    definite_gone w (g, has, d) = (g, has, inl (d.0, d.1, d.3))

    -- with their loans on package objects beside its own facts
    pub beside_told : (view : View) (own : List Fact) → Told view (IsDefiniteHere depth v own older)
        → Told view (IsDefinite (home s depth) v elsewhere (own ++ around))
    beside_told view own told w l is r = told w l (by is) r
      where
        by : IsDefinite (home s depth) v elsewhere (own ++ around) w → IsDefiniteHere depth v own older w
        by (inr (begins_there, inl (far, d))) = inr d
        by (inr (begins_there, inr (lent, d))) = inr d
        by (inl (u, (named, has), plain, leads)) = elim (Has-append_cases own around (Moved (name_of u)) has) [
          | inl mine ↦ inl (u, (named, mine), plain, leads)
          | inr there ↦ absurd (none_moved table typed effects unmoved local state depth older between (name_of u) there)
        ]

    -- and without them
    pub apart_told : (view : View) (all own : List Fact) → ((f : Fact) → Has own f → Has all f)
        → Told view (IsDefinite (home s depth) v elsewhere all) → Told view (IsDefiniteHere depth v own older)
    apart_told view all own mine told w l is r = told w l (by is) r
      where
        by : IsDefiniteHere depth v own older w → IsDefinite (home s depth) v elsewhere all w
        by (inl (u, (named, has), plain, leads)) = inl (u, (named, mine (Moved (name_of u)) has), plain, leads)
        by (inr d) =
            let base = gone_low table typed effects unmoved local state depth older between w (definite_gone w d) in
            inr (
              based_variable w base.0 base.1 base.2,
              elim (near_or_far depth w) [
                | inr far ↦ inl (far, d)
                | inl near ↦ inr (near_lent table typed effects unmoved local state depth older between w near (definite_gone w d), d)
              ],
            )
