-- What is said of the runs of programs of which nothing is reported.
use Rattle.std.specs.Prelude.{◌≡◌, ℕ, List, Some}
use Rattle.machine.specs.flow_paths.declared.report.Effects.{Effects}
use Rattle.machine.specs.flow_paths.Effects.{AreEffects}
use Rattle.machine.specs.flow_paths.Laid.{FlowProgram, flow_typing}
use Rattle.machine.specs.States.{Ending}
use Rattle.machine.specs.Owners.{WellOwned}
use Rattle.machine.specs.Run.{moment, run_of, main_of}
use Rattle.soundness.specs.Sound.{IsTrap, ending_of}
use Rattle.soundness.specs.ExactFacts.Exact.{RunHolds}

-- No freed cell is touched, and none is freed twice: no moment is a trap. Every cell is freed, has one owner, or was
-- named by a leak check that failed: each moment is well owned. At no step a leak check fails that the leak plan
-- excuses.
pub record IsSoundRun (program : FlowProgram) (input : List ℕ) : Type 0 where
  pub no_trap : (n : ℕ) (e : Ending) → ending_of (run_of program (main_of program.main) input n) ≡ Some e → IsTrap e → ⊥
  pub owned : (n : ℕ) → WellOwned (flow_typing program) (moment program input n)
  pub effects : Effects
  pub are_effects : AreEffects program effects
  pub excused : RunHolds program effects input
