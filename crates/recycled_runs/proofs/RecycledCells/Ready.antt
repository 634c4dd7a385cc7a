-- The law for programs that are ready.
use Rattle.std.proofs.Common.{◌≡◌, refl, sym, ap, ◌∙◌, ℕ, List, [], ◌∷◌, Some}
use Rattle.machine.specs.type_definitions.Types.{Table}
use Rattle.machine.specs.typed_tree.Programs.{TypedProgram}
use Rattle.machine.specs.flow_paths.declared.report.Effects.{Effects}
use Rattle.machine.specs.flow_paths.Laid.{FlowProgram, flow_typing, flow_program}
use Rattle.machine.specs.States.{Frame, State, Trapped, Outcome, Goes, Ends, sub_of}
use Rattle.machine.specs.Run.{step, ended, run, run_of, main_of, moment}
use Rattle.viewed_steps.specs.Ready.{IsReady}
use Rattle.soundness.specs.Sound.{ending_of, AreStages}
use Rattle.viewed_steps.specs.Sound.{ViewStage, stages_of, IsRunning, IsSound, LeadsOn}
use Rattle.viewed_steps.proofs.Stepping.{sound_step}
use Rattle.viewed_steps.proofs.Main.{sound_start, ready_sound}
use Rattle.recycled_runs.specs.ViewedFacts.NullPlaces.Compares.{AreCompared}
use Rattle.recycled_runs.proofs.ViewedFacts.NullPlaces.Runs.{GoesOn}
use Rattle.recycled_runs.proofs.ViewedFacts.ViewedNulls.Steps.{step_same}
use Rattle.run_codes.specs.Points.{is_declaring}
use Rattle.run_codes.specs.Programs.{Program}
use Rattle.run_points.specs.Turns.{IsLowered, HasTypes}
use Rattle.run_points.specs.Frames.{HasFrames}
use Rattle.handled_steps.specs.States as handled
use Rattle.handled_steps.specs.Runs.{NeverTraps, RunOf}
use Rattle.recycled_runs.proofs.Checks.{leaks_live}
use Rattle.recycled_runs.proofs.Owns.{owns_names}
use Rattle.recycled_runs.specs.RecycledCells.Cells.{LeavesCells}
use Rattle.recycled_runs.proofs.RecycledCells.Ended.{CopiesNone}
use Rattle.recycled_runs.proofs.RecycledCells.Runs.{leaves}

module _ (table : Table) (typed : TypedProgram) (effects : Effects) (input : List ℕ) (ready : IsReady table typed effects)
    (compared : AreCompared (flow_program table typed)) where
  abbrev program : FlowProgram
  program = flow_program table typed

  leads : (o : Outcome) → LeadsOn table typed effects o → GoesOn (λ state. IsSound table typed effects state) o
  leads (Goes state) on = on
  leads (Ends e state) on = tt

  never_traps : (n : ℕ) → NeverTraps (run program input n).ending
  unfolding run
  never_traps n x at is = by (run_of program (main_of program.main) input n) refl is
    where
      by : (o : Outcome) → run_of program (main_of program.main) input n ≡ o → (ended o).ending ≡ Trapped x at → ⊥
      by (Goes state) found is = cc
      by (Ends e state) found is = (ready_sound table typed effects input ready).no_trap n (Trapped x at) (ap ending_of found ∙ ap Some is) tt

  -- The main procedure has no formals to copy back.
  copies_none : (state : State) → IsSound table typed effects state → CopiesNone state.frames
  copies_none state sound = by sound.older state.frames sound.stages sound.running
    where
      by : (older : List ViewStage) (fs : List Frame) → AreStages (sound.top ∷ stages_of older) fs
          → IsRunning table typed effects state (record { stage = sound.top; views = sound.views; cells = [] }) older → CopiesNone fs
      by older [] stages running = tt
      by older (f ∷ []) stages running = tt
      by [] (f ∷ g ∷ []) stages running = absurd stages.2
      by (e ∷ []) (f ∷ g ∷ []) stages running = ap (λ (x : Frame). x.returns) (sym stages.0) ∙ running.2.1
      by (e ∷ h ∷ more) (f ∷ g ∷ []) stages running = absurd stages.2.2
      by older (f ∷ g ∷ h ∷ rest) stages running = tt

  -- As it is lowered, its run over a heap that uses its slots again leaves the cells of the machine's last state.
  pub ready_leaves : (p : Program) → HasTypes program → IsLowered program p → HasFrames program → (main n : ℕ) → program.main ≡ Some main → (r : handled.Outcome)
      → RunOf (flow_typing program).table p (is_declaring program) (sub_of program main).pos main input n r → LeavesCells (moment program input n) r
  ready_leaves p has lowered frames main n is r so =
      leaves program p input has ready.accepted.settled lowered frames (λ state. IsSound table typed effects state) (sound_start table typed effects input ready)
      (λ state sound. leads (step program input state) (sound_step table typed effects input ready state sound))
      (step_same table typed effects input ready compared)
      (leaks_live program p input lowered has ready.accepted.settled (λ state. IsSound table typed effects state) (λ state sound. sound.viewed.owned) (λ state sound. sound.kept) (owns_names table typed effects ready))
      copies_none main n is r so (never_traps n)
