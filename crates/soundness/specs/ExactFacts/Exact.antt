-- When no leak check of a step fails that is excused, and so of a run.
use Rattle.std.specs.Prelude.{◌≡◌, ◌⊎◌, ℕ, suc, false, List, [], ◌∷◌, ◌++◌, get_or}
use Rattle.machine.specs.spark_base.Lists.{Has}
use Rattle.machine.specs.spark_base.declared.position.Pos.{Pos}
use Rattle.machine.specs.place_names.declared.selector.Sel.{Sel}
use Rattle.machine.specs.place_names.declared.fact.Fact.{Fact}
use Rattle.machine.specs.place_names.declared.fact.Fact.TheVariants.{Moved}
use Rattle.machine.specs.place_names.Names.{Name, extend, has_elem}
use Rattle.machine.specs.flow_paths.declared.report.Effects.{Effects}
use Rattle.machine.specs.flow_paths.declared.point.LeakSpot.{LeakSpot}
use Rattle.machine.specs.flow_paths.Acts.{spot}
use Rattle.machine.specs.flow_paths.Laid.{FlowProgram}
use Rattle.machine.specs.flow_paths.Effects.{path_points}
use Rattle.machine.specs.flow_paths.LeakPlan.{IsExcused}
use Rattle.machine.specs.States.{Frame, Leak, Outcome, Goes, Ends, sub_of}
use Rattle.machine.specs.Run.{no_point, main_of, run_of, moment}
use Rattle.soundness.specs.OwnedWays.Ways.{OfVariable, OfHand, Way, Object, Lost, Into, All}

-- A way that begins at a variable.
abbrev pub IsOfVariable : Way → Type 0
IsOfVariable (Object (OfVariable f x)) = Unit {0}
IsOfVariable (Object (OfHand h)) = ⊥
IsOfVariable (Lost n) = ⊥
IsOfVariable (Into w i) = IsOfVariable w
IsOfVariable (All w) = IsOfVariable w

-- Of the leak checks of a step, none fails that is excused. The checks stand beside the spots of
-- their point, in order; a step that comes to no leak check has none.
abbrev pub NoneFails : (LeakSpot → Type 0) → List LeakSpot → List (List Leak) → Type 0
NoneFails Excused [] checks = Unit {0}
NoneFails Excused (spot ∷ spots) [] = Unit {0}
NoneFails Excused (spot ∷ spots) (failed ∷ checks) = (Excused spot → failed ≡ []) × NoneFails Excused spots checks

-- A spot of a name is excused only where facts say that just its place was moved.
abbrev pub Knows : (LeakSpot → Type 0) → Pos → Name → ℕ → List Fact → List (List Sel) → Type 0
Knows Excused pos name before facts parts =
    (q : List Sel) → Has parts q → Excused (spot pos name before q)
    → (has_elem (name.sels ++ q) ≡ false) × Has facts (Moved (extend name q))

-- ---- the law

abbrev pub checks_of : Outcome → List (List Leak)
checks_of (Goes state) = state.checks
checks_of (Ends e state) = state.checks

-- ---- runs

-- Of the leak checks of a step, none fails that the leak plan excuses. These are the frames before the step.
abbrev pub StepHolds : FlowProgram → Effects → List Frame → List (List Leak) → Type 0
StepHolds program effects [] checks = Unit {0}
StepHolds program effects (f ∷ outer) checks =
    NoneFails (IsExcused (path_points program effects (sub_of program f.sub)) f.next) (get_or (sub_of program f.sub).points f.next no_point).leaks checks

-- So it is at each step of the run: with each budget the run has ended, so that one step more changes
-- nothing, or it takes one step more, and that step's checks are such.
abbrev pub RunHolds : FlowProgram → Effects → List ℕ → Type 0
RunHolds program effects input =
    (n : ℕ)
    → (run_of program (main_of program.main) input (suc n) ≡ run_of program (main_of program.main) input n)
    ⊎ StepHolds program effects (moment program input n).frames (moment program input (suc n)).checks
