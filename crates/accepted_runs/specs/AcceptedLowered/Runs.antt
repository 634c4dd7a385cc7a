-- What a run rests on.
use Rattle.std.specs.Prelude.{◌≡◌, None}
use Rattle.laid_program.specs.declared.laid.Laid.{Laid}
use Rattle.laid_program.specs.Programs.{program_of}
use Rattle.run_codes.specs.Programs.{lowered_program}
use Rattle.run_ready.specs.Tests.{IsReady}

-- The program that is laid out in rows is lowered, and passes the tests before a run.
pub record IsRunnable (laid : Laid) : Type 0 where
  pub lowered : lowered_program (program_of laid) ≡ None → ⊥
  pub tested : IsReady laid
