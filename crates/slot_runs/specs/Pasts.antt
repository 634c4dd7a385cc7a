-- States whose output and leaks were taken from time to time, and those of a run that keeps all of them.
use Rattle.std.specs.Prelude.{ℕ, suc, List, [], ◌++◌}
use Rattle.machine.specs.States.{Leak}
use Rattle.handled_runs.specs.Slots.{Slots}
use Rattle.handled_steps.specs.States.{State, Outcome, Goes, Ends, Wants, Fails}

-- What was there before: the output and the leaks that were taken, and the steps.
pub record Past : Type 0 where
  pub output : List ℕ
  pub leaks : List Leak
  pub steps : ℕ

-- What a step leaves in the memory of how its point was evaluated says nothing: the next step puts its own
-- there.
abbrev pub plain_memory : Slots → Slots
plain_memory m = record m { base = 0; waits = []; rest = []; moves = [] }

abbrev pub plain : State → State
plain s = record s { memory = plain_memory s.memory }

-- The plain state with what was there before.
abbrev pub since : Past → State → State
since p s = record s {
  memory = plain_memory s.memory;
  output = p.output ++ s.output;
  leaks = p.leaks ++ s.leaks;
  steps = p.steps;
}

-- A step is counted.
abbrev pub stepped : Past → Past
stepped p = record p { steps = suc p.steps }

-- What is done to the states of outcomes.
abbrev pub mapped : (State → State) → Outcome → Outcome
mapped f (Goes s) = Goes (f s)
mapped f (Ends e s) = Ends e (f s)
mapped f Wants = Wants
mapped f Fails = Fails
