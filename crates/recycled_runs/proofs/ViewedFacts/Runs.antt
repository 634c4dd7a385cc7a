-- At no step of the run of a program with borrowers and observers that is ready a leak check fails that is excused.
use Rattle.std.proofs.Common.{◌≡◌, subst, ℕ, List, [], ◌∷◌, map, get_or}
use Rattle.machine.specs.spark_base.Lists.{Has}
use Rattle.machine.specs.place_names.declared.fact.Fact.TheVariants.{Moved}
use Rattle.machine.specs.type_definitions.Types.{Table}
use Rattle.machine.specs.typed_tree.Programs.{TypedProgram}
use Rattle.machine.specs.flow_paths.declared.report.Effects.{Effects}
use Rattle.machine.specs.flow_paths.Paths.{facts_before}
use Rattle.machine.specs.flow_paths.Effects.{path_points}
use Rattle.machine.specs.flow_paths.LeakPlan.{IsExcused}
use Rattle.machine.specs.flow_paths.Laid.{FlowProgram, flow_program}
use Rattle.machine.specs.States.{Frame, Leak, State, Outcome, Goes, Ends, sub_of}
use Rattle.machine.specs.Run.{state_at_start, no_point, step}
use Rattle.soundness.specs.OwnedWays.Ways.{Way, name_of}
use Rattle.soundness.specs.Sound.{Stage, AreStages}
use Rattle.viewed_steps.specs.Sound.{ViewStage}
use Rattle.viewed_steps.specs.Ready.{IsReady}
use Rattle.viewed_steps.proofs.Main.{fresh_start}
use Rattle.soundness.specs.ExactFacts.Exact.{NoneFails, checks_of, StepHolds, RunHolds}
use Rattle.soundness.proofs.ExactFacts.Budgets.{LeadsBy, steps_hold}
use Rattle.recycled_runs.specs.ViewedFacts.Exact.{IsDefiniteOf, IsExactly, LeadsExactly}
use Rattle.recycled_runs.proofs.ViewedFacts.Main.{excused_hold}
use Rattle.recycled_runs.proofs.ViewedFacts.Going.{exactly_step}

module _ (table : Table) (typed : TypedProgram) (effects : Effects) (ready : IsReady table typed effects) (input : List ℕ) where
  abbrev program : FlowProgram
  program = flow_program table typed

  -- where nothing is executed, nothing was moved
  none_moved : (stages : List ViewStage) → ((g : ViewStage) → Has stages g → g.stage.before ≡ []) → (w : Way) → IsDefiniteOf program effects stages w → ⊥
  none_moved stages fresh w (g, has, definite) =
      subst (λ z. Has (facts_before (path_points program effects (sub_of program g.stage.frame.sub)) z) (Moved (name_of definite.0))) (fresh g has) definite.1.1

  exactly_start : IsExactly table typed effects (state_at_start program)
  exactly_start =
      let start = fresh_start table typed effects input ready in
      (start.0, λ w l definite reaches. absurd (none_moved (record { stage = (start.0).top; views = (start.0).views; cells = [] } ∷ (start.0).older) start.1 w definite))

  by_frames : (top : Stage) (older : List Stage) (fs : List Frame) (checks : List (List Leak)) → AreStages (top ∷ older) fs
      → NoneFails (IsExcused (path_points program effects (sub_of program top.frame.sub)) top.frame.next) (get_or (sub_of program top.frame.sub).points top.frame.next no_point).leaks checks
      → StepHolds program effects fs checks
  by_frames top older [] checks stages holds = tt
  by_frames top older (f ∷ outer) checks stages holds = subst (λ (g : Frame).
      NoneFails (IsExcused (path_points program effects (sub_of program g.sub)) g.next) (get_or (sub_of program g.sub).points g.next no_point).leaks checks) stages.0 holds

  step_holds : (state : State) → IsExactly table typed effects state → StepHolds program effects state.frames (checks_of (step program input state))
  step_holds state exactly =
      by_frames exactly.0.top (map (λ (g : ViewStage). g.stage) exactly.0.older) state.frames (checks_of (step program input state)) exactly.0.stages
      (excused_hold table typed effects input ready state exactly.0 exactly.1)

  leads_there : (outcome : Outcome) → LeadsExactly table typed effects outcome → LeadsBy (IsExactly table typed effects) outcome
  leads_there (Goes state) leads = leads
  leads_there (Ends e state) leads = leads

  pub run_holds : RunHolds (flow_program table typed) effects input
  run_holds =
      steps_hold program effects input (IsExactly table typed effects) exactly_start
      (λ state exactly. leads_there (step program input state) (exactly_step table typed effects input ready state exactly)) step_holds
