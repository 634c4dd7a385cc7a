-- Where a run stands after some steps.
use Rattle.std.specs.Prelude.{◌≡◌, ℕ, ◌+◌, List}
use Rattle.handled_steps.specs.States.{State, Outcome}
use Rattle.slot_runs.specs.Pasts.{Past, plain, since}
use Rattle.slot_runs.specs.Turns.{Setting, Untold, Inside, state_of, IsRunning, SomeSteps}
use Rattle.slot_runs.specs.Tellings.{Sinks, IsTold}

-- So many steps were made since a first state, and what may come within each further number of them goes on from
-- there. The state is one for which the run at hand stands, with what was there before.
pub record IsUnderway
    (files : List (List ℕ)) (c : Setting) (start now : Sinks) (lines : List ℕ) (leaked : ℕ)
    (first : State) (steps : ℕ) (u : Untold) (Stands : Inside → Type 0) : Type 0 where
  pub past : Past
  pub state : State
  pub inside : Inside
  pub stands : Stands inside
  pub told : IsTold files start now lines leaked past
  pub counted : past.steps ≡ steps
  pub same : plain state ≡ since past (state_of u inside)
  pub running : IsRunning inside
  pub rest : (more : ℕ) (r : Outcome) → SomeSteps more c state r → SomeSteps (steps + more) c first r
