-- What a program gives as it is lowered and run, the machine's run gives.
use Rattle.std.proofs.Common.{◌≡◌, ℕ, List, refl, sym, ap, subst, Option, Some, None}
use Rattle.std.specs.Prelude.{option_and_then}
use Rattle.flow_paths.specs.Laid.{FlowProgram}
use Rattle.machine.specs.States.{sub_of}
use Rattle.machine.specs.Run.{main_of}
use Rattle.machine.specs.Run as machine_run
use Rattle.run_codes.specs.Programs.{Program, lowered_program}
use Rattle.run_codes.specs.Points.{Ran, run_of, run_given, is_declaring, lowered_run}
use Rattle.run_points.specs.Outcomes.{GivesAlike}
use Rattle.run_points.specs.Turns.{HasTypes}
use Rattle.run_points.specs.Frames.{HasFrames}
use Rattle.run_points.proofs.Steps.{run_gives}
use Rattle.run_points.proofs.Lowering.{is_lowered}

-- Where it isn't lowered, nothing is said.
pub lowered_gives : (program : FlowProgram) (input : List ℕ) (n : ℕ) → HasTypes program → HasFrames program → (main : ℕ) → program.main ≡ Some main
    → GivesAlike (machine_run.run program input n) (lowered_run program input n)
unfolding lowered_run machine_run.run
lowered_gives program input n has frames main is =
    subst (λ k. GivesAlike (machine_run.ended (machine_run.run_of program k input n)) (option_and_then (given k) (lowered_program program))) (sym (ap main_of is))
    (by (lowered_program program) refl)
  where
    given : ℕ → Program → Option Ran
    given k p = run_given (run_of program.table p (is_declaring program) (sub_of program k).pos k input n)

    by : (o : Option Program) → lowered_program program ≡ o → GivesAlike (machine_run.ended (machine_run.run_of program main input n)) (option_and_then (given main) o)
    by None none = tt
    by (Some p) lowers = run_gives program p input has (is_lowered program p lowers) frames main n is
