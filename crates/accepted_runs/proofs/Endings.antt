-- A run that is sound doesn't end in a trap.
use Rattle.std.proofs.Common.{◌≡◌, ℕ, List, refl, ap}
use Rattle.machine.specs.flow_paths.Laid.{FlowProgram}
use Rattle.machine.specs.States.{Outcome, Goes, Ends}
use Rattle.machine.specs.Run.{run, run_of, main_of, ended}
use Rattle.soundness.specs.Sound.{IsTrap, ending_of}
use Rattle.accepted_runs.specs.Headline.{IsSoundRun}

untrapped_outcome : (program : FlowProgram) (input : List ℕ) (n : ℕ) → IsSoundRun program input → (o : Outcome)
    → run_of program (main_of program.main) input n ≡ o → IsTrap (ended o).ending → ⊥
untrapped_outcome program input n sound (Goes s) is trap = trap
untrapped_outcome program input n sound (Ends e s) is trap = sound.no_trap n e (ap ending_of is) trap

pub sound_untrapped : (program : FlowProgram) (input : List ℕ) (n : ℕ) → IsSoundRun program input → IsTrap (run program input n).ending → ⊥
unfolding run
sound_untrapped program input n sound = untrapped_outcome program input n sound (run_of program (main_of program.main) input n) refl
