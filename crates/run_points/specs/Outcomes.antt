-- When what the executor's steps and runs come to is what the machine's come to.
use Rattle.std.specs.Prelude.{◌≡◌, length, filter, map, Option, Some, None}
use Rattle.machine.specs.Memory.{HeapCell, cell_words}
use Rattle.machine.specs.States.{Ending}
use Rattle.machine.specs.States as machine
use Rattle.machine.specs.Run.{Run}
use Rattle.kept_cells.specs.Cells.{Cell}
use Rattle.run_codes.specs.Points.{State, Outcome, Goes, Ends, Wants, Fails, Ran, ran_of}

-- The output, the leaks, the counts and the sizes of cells of a state are the machine's.
pub record IsSeenAlike (s : machine.State) (g : State) : Type 0 where
  pub output : g.output ≡ s.output
  pub leaks : g.leaks ≡ s.leaks
  pub steps : g.steps ≡ s.steps
  pub made : length g.memory.cells ≡ length s.memory.cells
  pub freed : g.memory.freed ≡ length (filter (λ (c : HeapCell). c.freed) s.memory.cells)
  pub sizes : map (λ (c : Cell). length c.words) g.memory.cells ≡ map cell_words s.memory.cells

abbrev pub GoesAlike : (machine.State → State → Type 0) → machine.Outcome → State → Type 0
GoesAlike R (machine.Goes s) g = R s g
GoesAlike R (machine.Ends e s) g = ⊥

abbrev pub EndsAlike : machine.Outcome → Ending → State → Type 0
EndsAlike (machine.Goes s) k g = ⊥
EndsAlike (machine.Ends e s) k g = (k ≡ e) × IsSeenAlike s g

-- Both go on, with states that stand for each other, or both end alike. Where the executor wants memory,
-- nothing is said.
abbrev pub IsAlike : (machine.State → State → Type 0) → machine.Outcome → Outcome → Type 0
IsAlike R out (Goes g) = GoesAlike R out g
IsAlike R out (Ends k g) = EndsAlike out k g
IsAlike R out Wants = Unit {0}
IsAlike R out Fails = ⊥

-- What a run gives is what the machine's run gives, but where memory is wanted.
abbrev pub GivesAlike : Run → Option Ran → Type 0
GivesAlike r None = Unit {0}
GivesAlike r (Some a) = a ≡ ran_of r
