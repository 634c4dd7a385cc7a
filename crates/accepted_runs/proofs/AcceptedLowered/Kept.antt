-- An accepted program can be run, by what its type keeps.
use Rattle.std.proofs.Math.Logic.{∥∥₁_map}
use Rattle.laid_program.specs.Programs.{program_of}
use Rattle.path_check.specs.declared.accepted.AcceptedProgram.{AcceptedProgram}
use Rattle.accepted_runs.specs.Passed.{IsPassed}
use Rattle.accepted_runs.proofs.Kept.{accepted_passed}
use Rattle.accepted_runs.specs.AcceptedLowered.Runs.{IsRunnable}
use Rattle.accepted_runs.proofs.AcceptedLowered.Runnable.{passed_runnable}

kept_runnable : (a : AcceptedProgram) → IsPassed (program_of a.laid) a.effects → IsRunnable a.laid
kept_runnable a p = passed_runnable p.texts p.trees a.effects p.passes a.laid p.is

pub accepted_runnable : (a : AcceptedProgram) → ∥ IsRunnable a.laid ∥₁
accepted_runnable a = ∥∥₁_map (accepted_passed a) (kept_runnable a)
