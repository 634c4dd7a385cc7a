-- What is answered of a run.
use Rattle.std.specs.Prelude.{◌≡◌, ◌≤◌, ℕ, List, Some}
use Rattle.std.specs.Io.KnownBytes.{Appends}
use Rattle.machine.specs.States.{Ending}
use Rattle.run_codes.specs.Points as points
use Rattle.handled_runs.specs.slot_heap.Heaps.{Heap}
use Rattle.handled_steps.specs.States.{State, Outcome, Ends}
use Rattle.handled_steps.specs.Runs.{given, ran_with}
use Rattle.run_results.specs.declared.ran.Ran.{Ran}
use Rattle.run_results.specs.Results.{IsRun}
use Rattle.run_results.specs.Lines.{leak_lines}
use Rattle.slot_runs.specs.Pasts.{Past, since}
use Rattle.slot_runs.specs.Turns.{Setting, Untold, Inside, state_of, IsRunning, SomeSteps, NeverFails}
use Rattle.slot_runs.specs.Tellings.{Sinks, IsTold, HaveFronts}

-- The run ends, and this is its heap then.
abbrev pub EndsWith : Heap → Outcome → Type 0
EndsWith heap (Ends e s) = s.memory.heap ≡ heap
EndsWith heap _ = ⊥

-- Within so many steps from a first state an outcome may come that is this ending after so many steps, with a state of
-- which some was told.
pub record IsOver
    (files : List (List ℕ)) (c : Setting) (start now : Sinks) (lines : List ℕ) (leaked : ℕ)
    (first : State) (most : ℕ) (e : Ending) (steps : ℕ) (u : Untold) (Stands : Inside → Type 0) : Type 0 where
  pub past : Past
  pub told : IsTold files start now lines leaked past
  pub counted : past.steps ≡ steps
  pub outcome : Outcome
  pub comes : SomeSteps most c first outcome
  pub inside : Inside
  pub stands : Stands inside
  pub gives : given outcome ≡ Some (ran_with e (since past (state_of u inside)))
  pub heap : EndsWith inside.memory.heap outcome

-- An outcome may come that is this run; one sink got its output, and the other one its leak lines. What is left of it
-- stands for an inside with the heap of the outcome.
pub record IsWritten (files : List (List ℕ)) (Whole : Outcome → Type 0) (Left : Inside → Type 0) (ran : Ran) (old new : Sinks) : Type 0 where
  pub outcome : Outcome
  pub comes : Whole outcome
  pub run : points.Ran
  pub gives : given outcome ≡ Some run
  pub is : IsRun run ran
  pub output : Appends old.output new.output run.output
  pub lines : Appends old.lines new.lines (leak_lines files run.leaks)
  pub inside : Inside
  pub left : Left inside
  pub heap : EndsWith inside.memory.heap outcome

-- No answer is given. The sinks have fronts of the output and of the leak lines that the run may have within some
-- budget up to the limit.
pub record IsCut (files : List (List ℕ)) (Moments : ℕ → Outcome → Type 0) (limit : ℕ) (old new : Sinks) : Type 0 where
  pub steps : ℕ
  pub few : steps ≤ limit
  pub outcome : Outcome
  pub comes : Moments steps outcome
  pub run : points.Ran
  pub gives : given outcome ≡ Some run
  pub fronts : HaveFronts files old new run.output run.leaks

-- ---- from where a run starts

-- It can make so many steps from this state: some frame runs, and no outcome fails.
pub record CanRun (limit : ℕ) (c : Setting) (u : Untold) (Stands : Inside → Type 0) (x : Inside) : Type 0 where
  pub stands : Stands x
  pub running : IsRunning x
  pub there : NeverFails (SomeSteps limit c (state_of u x))

-- It can from some state for which it stands.
abbrev pub CanStart : (limit : ℕ) (c : Setting) (u : Untold) (Stands : Inside → Type 0) → Type 0
CanStart limit c u Stands = (x : Inside) × CanRun limit c u Stands x

-- The run was written that may come from each state from which it can be made.
abbrev pub Writes : (files : List (List ℕ)) (limit : ℕ) (c : Setting) (u : Untold) (Stands Left : Inside → Type 0) (ran : Ran) (old new : Sinks) → Type 0
Writes files limit c u Stands Left ran old new = (x : Inside) → CanRun limit c u Stands x → IsWritten files (SomeSteps limit c (state_of u x)) Left ran old new

-- A front of it was.
abbrev pub Cuts : (files : List (List ℕ)) (limit : ℕ) (c : Setting) (u : Untold) (Stands : Inside → Type 0) (old new : Sinks) → Type 0
Cuts files limit c u Stands old new = (x : Inside) → CanRun limit c u Stands x → IsCut files (λ n. SomeSteps n c (state_of u x)) limit old new
