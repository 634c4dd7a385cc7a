-- The runs of an accepted program over such a heap, by what its type keeps.
use Rattle.std.proofs.Common.{subst, IsSome}
use Rattle.std.proofs.Math.Logic.{∥∥₁_map}
use Rattle.laid_program.specs.Programs.{program_of}
use Rattle.path_check.specs.declared.accepted.AcceptedProgram.{AcceptedProgram}
use Rattle.accepted_runs.specs.Passed.{IsPassed}
use Rattle.accepted_runs.proofs.Kept.{accepted_passed, has_main}
use Rattle.accepted_runs.specs.AcceptedRecycled.Runs.{RunsAreRecycled}
use Rattle.accepted_runs.proofs.AcceptedRecycled.Main.{passed_recycled}

kept_recycled : (a : AcceptedProgram) → IsSome a.laid.main → IsPassed (program_of a.laid) a.effects → RunsAreRecycled (program_of a.laid)
kept_recycled a some p =
    subst RunsAreRecycled p.is
    (passed_recycled p.texts p.trees a.effects p.passes (has_main (program_of a.laid) p.trees p.is some) a.laid p.is)

-- They give what the machine's runs give.
pub accepted_same : (a : AcceptedProgram) → IsSome a.laid.main → ∥ RunsAreRecycled (program_of a.laid) ∥₁
accepted_same a some = ∥∥₁_map (accepted_passed a) (kept_recycled a some)
