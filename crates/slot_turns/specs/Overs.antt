-- How a run ends.
use Rattle.std.specs.Prelude.{◌≡◌, ℕ, ◌+◌, ◌-◌, Option, Some, None}
use Rattle.spark_base.specs.declared.position.Pos.{Pos}
use Rattle.slot_heap.specs.Heaps.{Heap}
use Rattle.code_rows.specs.declared.stop.Stop.{Stop}
use Rattle.code_rows.specs.declared.stop.Stop.TheVariants as stop
use Rattle.run_results.specs.declared.ran.Ending.{Ending}
use Rattle.run_results.specs.declared.ran.Ending.TheVariants as ending
use Rattle.run_results.specs.Results.{ending_of}
use Rattle.handled_steps.specs.States.{State, Outcome, Ends}
use Rattle.slot_turns.specs.declared.halt.Halt.{Halt}
use Rattle.slot_turns.specs.declared.overs.Over.{Over}
use Rattle.slot_turns.specs.Betweens.{Between}
use Rattle.slot_turns.specs.Steps.{GoesOn}

-- The ending of a run whose point there stops.
abbrev pub EndsBy : Stop → Pos → Ending → Type 0
EndsBy (stop.Raises e) p end = end ≡ ending.Raised e p
EndsBy _ p end = ⊥

-- There were so many cells before the step, of which so many were freed. Those that it made count as freed.
pub record IsCounted (h : Halt) (p : Pos) (cells gone : ℕ) (over : Over) : Type 0 where
  pub ending : EndsBy h.stop p over.ending
  pub made : over.made ≡ h.made
  pub freed : over.freed ≡ gone + (h.made - cells)

-- The run may end so, with so many cells made and freed, and that is what wasn't told of it. Its store means the heap.
pub record IsOver {R : Type 0} (Means : R → Heap → Type 0) (May : Outcome → Type 0) (over : Over) (new : Between R) : Type 0 where
  pub state : State
  pub comes : May (Ends (ending_of over.ending) state)
  pub output : state.output ≡ new.output
  pub leaks : state.leaks ≡ new.leaks
  pub made : state.memory.made ≡ over.made
  pub freed : state.memory.freed ≡ over.freed
  pub means : Means new.kept.heap.store state.memory.heap

-- The run goes on, or is over.
abbrev pub TurnsTo : {R : Type 0} → (R → Heap → Type 0) → (Outcome → Type 0) → Option Over → Between R → Type 0
TurnsTo Means May None new = GoesOn Means May new
TurnsTo Means May (Some over) new = IsOver Means May over new
