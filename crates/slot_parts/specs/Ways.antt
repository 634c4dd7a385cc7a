-- Ways in which a point may be done.
use Rattle.std.specs.Prelude.{◌≡◌, ℕ, List, [], Option}
use Rattle.machine.specs.States.{Leak}
use Rattle.slot_heap.specs.Heaps.{Heap}
use Rattle.code_rows.specs.Stops.{stop_of}
use Rattle.handled_runs.specs.Slots.{Slots}
use Rattle.handled_steps.specs.States.{Outcome, Turn, goes, leaking_goes, halted}
use Rattle.made_cells.specs.Since.{Since}
use Rattle.slot_memory.specs.Memory.{Kept, Shows}
use Rattle.slot_turns.specs.declared.halt.Halt.{Halt}

-- The run may go on with slots that the memory stands for, and nothing is moved.
pub record MayGo {R : Type 0} (Means : R → Heap → Type 0) (t : Turn) (May : Outcome → Type 0) (m : Kept R) (next : Option ℕ) : Type 0 where
  pub after : Slots
  pub shows : Shows Means m after
  pub settled : after.moves ≡ []
  pub comes : May (goes t after next)

-- So it may with some leaks.
pub record MayTell {R : Type 0} (Means : R → Heap → Type 0) (t : Turn) (May : Outcome → Type 0) (m : Kept R) (next : Option ℕ) (leaks : List Leak) : Type 0 where
  pub after : Slots
  pub shows : Shows Means m after
  pub settled : after.moves ≡ []
  pub comes : May (leaking_goes t leaks after next)

-- The point may stop, with so many cells made and slots that the memory stands for, which have the cells of before.
pub record MayHalt {R : Type 0} (Means : R → Heap → Type 0) (t : Turn) (May : Outcome → Type 0) (m : Kept R) (h : Halt) : Type 0 where
  pub after : Slots
  pub comes : May (halted t (stop_of h.stop) after)
  pub made : after.made ≡ h.made
  pub shows : Shows Means m after
  pub since : Since t.state.memory after
