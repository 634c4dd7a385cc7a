-- What a run leaves in the heap of its store.
use Rattle.std.specs.Prelude.{ℕ, List}
use Rattle.flow_paths.specs.Laid.{FlowProgram}
use Rattle.machine.specs.Run.{run, moment}
use Rattle.recycled_runs.specs.RecycledCells.Cells.{HasCells}
use Rattle.slot_heap.specs.Heaps.{Heap}
use Rattle.slot_executor.specs.Executes.{HasSlots}

-- There are as many slots of each size as cells of this size were live at once. The live handles stand one to one for the
-- cells that were made and not freed, and have their words.
pub record LeavesHeap (program : FlowProgram) (input : List ℕ) (steps : ℕ) (m : Heap) : Type 0 where
  pub slots : HasSlots (run program input steps) m.slots
  pub cells : ∥ HasCells (moment program input steps).memory.cells m ∥₁
