-- Steps of which nothing is told.
use Rattle.std.specs.Prelude.{ℕ, ◌+◌, List}
use Rattle.handled_steps.specs.States.{State}
use Rattle.run_results.specs.Results.{ending_of}
use Rattle.slot_runs.specs.declared.stepping.Turn.{Turn}
use Rattle.slot_runs.specs.declared.stepping.Turn.TheVariants as turn
use Rattle.slot_runs.specs.Turns.{Setting, Untold, Inside, SomeSteps, NeverFails}
use Rattle.slot_runs.specs.Tellings.{Sinks}
use Rattle.slot_runs.specs.Underway.{IsUnderway}
use Rattle.slot_runs.specs.Answers.{IsOver}

-- Some run stands there, and no outcome of it fails within so many steps more.
pub record IsGoing (c : Setting) (limit : ℕ) (u : Untold) (Stands : Inside → Type 0) : Type 0 where
  pub files : List (List ℕ)
  pub start : Sinks
  pub now : Sinks
  pub lines : List ℕ
  pub leaked : ℕ
  pub first : State
  pub steps : ℕ
  pub under : IsUnderway files c start now lines leaked first steps u Stands
  pub there : NeverFails (SomeSteps (steps + limit) c first)

-- Where a run stands after some steps, or that it is over, if it has so many steps.
abbrev pub Comes : (turn : Turn) (files : List (List ℕ)) (c : Setting) (start now : Sinks) (lines : List ℕ) (leaked : ℕ) (first : State) (most steps : ℕ) (v : Untold) (Stands : Inside → Type 0) → Type 0
Comes turn.On files c start now lines leaked first most steps v Stands = IsUnderway files c start now lines leaked first steps v Stands
Comes (turn.Ends e) files c start now lines leaked first most steps v Stands = IsOver files c start now lines leaked first most (ending_of e) steps v Stands

-- Each run that stands there stands elsewhere so many steps later, or is over, where no outcome fails.
abbrev pub LeadsOn : Setting → (limit : ℕ) → Untold → (Inside → Type 0) → (made : ℕ) → Turn → Untold → (Inside → Type 0) → Type 0
LeadsOn c limit u Old made turn v New =
    (files : List (List ℕ)) (start now : Sinks) (lines : List ℕ) (leaked : ℕ) (first : State) (steps : ℕ)
    → NeverFails (SomeSteps (steps + limit) c first) → IsUnderway files c start now lines leaked first steps u Old
    → Comes turn files c start now lines leaked first (steps + limit) (steps + made) v New
