-- What the tests before a run say of a program.
use Rattle.std.specs.Prelude.{◌≡◌, ◌<◌, ℕ, true, length, Some}
use Rattle.machine.specs.flow_paths.Laid.{FlowProgram}
use Rattle.machine.specs.States.{sub_of}
use Rattle.run_points.specs.Frames.{IsCallable}
use Rattle.run_ready.specs.Tests.{ascend}
use Rattle.accepted_runs.specs.TestedFiles.RunTables.Calls.{CallsStand}

-- All subprograms but the first one may be called, and the formals of each ascend.
pub record IsTested (program : FlowProgram) : Type 0 where
  pub calls : CallsStand program
  pub first : ascend 0 (sub_of program 0).formals ≡ true
  pub ascends : (n : ℕ) → 0 < n → n < length program.subs → ascend 0 (sub_of program n).formals ≡ true
  pub callable : (n : ℕ) → 0 < n → n < length program.subs → IsCallable program n
  pub main : (n : ℕ) → program.main ≡ Some n → (0 < n) × (n < length program.subs)
