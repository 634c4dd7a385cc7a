-- A longer run of a program has the output and the failed leak checks of a shorter one, and perhaps more.
use Rattle.std.proofs.Common.{ℕ, zero, suc, ◌≤◌, Bool, true, false, List, [], ◌∷◌, nat_le, if◌then◌else◌, arith}
use Rattle.flow_paths.specs.Laid.{FlowProgram}
use Rattle.machine.specs.Evaluate.{StorageError}
use Rattle.machine.specs.States.{State, Raised, Outcome, Goes, Ends, state_of, sub_of, frame_words, stack_words, frame_at_start}
use Rattle.machine.specs.Run.{step, then_on, within, state_at_start, run_of, run, ended, main_of}
use Rattle.longer_runs.specs.Later.{BeginsWith, IsLater}
use Rattle.longer_runs.proofs.Steps.{same_later, later_on, step_later}

-- A run from a state.
within_later : (n : ℕ) (program : FlowProgram) (input : List ℕ) (s : State) → IsLater s (state_of (within n program input s))
unfolding within
within_later zero program input s = same_later s
within_later (suc n) program input s = by (step program input s) (step_later program input s) (within_later n program input)
  where
    by : (out : Outcome) → IsLater s (state_of out) → ((t : State) → IsLater t (state_of (within n program input t)))
        → IsLater s (state_of (then_on out (within n program input)))
    by (Goes t) is on = later_on s t (state_of (within n program input t)) is (on t)
    by (Ends e t) is on = is

-- A longer run from a state.
longer_later : (m n : ℕ) (program : FlowProgram) (input : List ℕ) (s : State) → m ≤ n
    → IsLater (state_of (within m program input s)) (state_of (within n program input s))
unfolding within
longer_later zero n program input s le = within_later n program input s
longer_later (suc m) zero program input s le = absurd (omega (arith, le))
longer_later (suc m) (suc n) program input s le = by (step program input s) (λ t. longer_later m n program input t (omega (arith, le)))
  where
    by : (out : Outcome) → ((t : State) → IsLater (state_of (within m program input t)) (state_of (within n program input t)))
        → IsLater (state_of (then_on out (within m program input))) (state_of (then_on out (within n program input)))
    by (Goes t) on = on t
    by (Ends e t) on = same_later t

-- Whole runs.
outcome_later : (m n : ℕ) (program : FlowProgram) (main : ℕ) (input : List ℕ) → m ≤ n
    → IsLater (state_of (run_of program main input m)) (state_of (run_of program main input n))
outcome_later m n program main input le = by (nat_le (frame_words program (frame_at_start main [] ∷ frame_at_start 0 [] ∷ [])) stack_words)
  where
    too_large : Outcome
    too_large = Ends (Raised StorageError (sub_of program main).pos) (state_at_start program)

    by : (fits : Bool) → IsLater (state_of (if fits then within m program input (state_at_start program) else too_large))
        (state_of (if fits then within n program input (state_at_start program) else too_large))
    by true = longer_later m n program input (state_at_start program) le
    by false = same_later (state_at_start program)

ended_begins : (a b : Outcome) → IsLater (state_of a) (state_of b)
    → BeginsWith (ended b).output (ended a).output × BeginsWith (ended b).leaks (ended a).leaks
ended_begins (Goes s) (Goes t) is = (is.output, is.leaks)
ended_begins (Goes s) (Ends k t) is = (is.output, is.leaks)
ended_begins (Ends e s) (Goes t) is = (is.output, is.leaks)
ended_begins (Ends e s) (Ends k t) is = (is.output, is.leaks)

pub run_begins : (program : FlowProgram) (input : List ℕ) (m n : ℕ) → m ≤ n
    → BeginsWith (run program input n).output (run program input m).output × BeginsWith (run program input n).leaks (run program input m).leaks
unfolding run
run_begins program input m n le =
    ended_begins (run_of program (main_of program.main) input m) (run_of program (main_of program.main) input n)
    (outcome_later m n program (main_of program.main) input le)
