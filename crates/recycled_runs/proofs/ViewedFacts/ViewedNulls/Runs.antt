-- A run with null in moved places gives the same, in a program with borrowers and observers that is
-- ready.
use Rattle.std.proofs.Common.{ℕ, List}
use Rattle.machine.specs.type_definitions.Types.{Table}
use Rattle.machine.specs.typed_tree.Programs.{TypedProgram}
use Rattle.machine.specs.flow_paths.declared.report.Effects.{Effects}
use Rattle.machine.specs.flow_paths.Laid.{flow_program}
use Rattle.machine.specs.States.{Outcome, Goes, Ends}
use Rattle.machine.specs.Run.{step}
use Rattle.viewed_steps.specs.Sound.{IsSound, LeadsOn}
use Rattle.viewed_steps.specs.Ready.{IsReady}
use Rattle.viewed_steps.proofs.Stepping.{sound_step}
use Rattle.viewed_steps.proofs.Main.{sound_start}
use Rattle.recycled_runs.specs.ViewedFacts.NullPlaces.Cleared.{RunsWithNull}
use Rattle.recycled_runs.specs.ViewedFacts.NullPlaces.Compares.{AreCompared}
use Rattle.recycled_runs.proofs.ViewedFacts.NullPlaces.Runs.{GoesOn, sound_runs}
use Rattle.recycled_runs.proofs.ViewedFacts.ViewedNulls.Steps.{step_same}

module _ (table : Table) (typed : TypedProgram) (effects : Effects) (input : List ℕ) (ready : IsReady table typed effects)
    (compared : AreCompared (flow_program table typed)) where
  leads : (o : Outcome) → LeadsOn table typed effects o → GoesOn (λ state. IsSound table typed effects state) o
  leads (Goes state) on = on
  leads (Ends e state) on = tt

  -- With each budget the run with null in moved places gives what the run gives.
  pub viewed_runs : RunsWithNull (flow_program table typed) input
  viewed_runs =
      sound_runs (flow_program table typed) input (λ state. IsSound table typed effects state) (sound_start table typed effects input ready)
      (λ state sound. leads (step (flow_program table typed) input state) (sound_step table typed effects input ready state sound))
      (step_same table typed effects input ready compared)
