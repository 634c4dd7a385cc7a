-- What a run leaves in a heap that uses its slots again.
use Rattle.std.specs.Prelude.{◌≡◌, ℕ, zero, suc, false, List, map, slice_get, Some, if◌then◌else◌}
use Rattle.kept_cells.specs.run_values.declared.value.Value.{Value}
use Rattle.kept_cells.specs.run_values.declared.value.Value.TheVariants as value
use Rattle.numbered_cells.specs.slot_heap.Heaps.{Heap, words_at}
use Rattle.machine.specs.flow_paths.Laid.{FlowProgram, flow_typing}
use Rattle.machine.specs.Words.{Word, Int, Enumerated, Null, Cell}
use Rattle.machine.specs.Memory.{Slot, HeapCell}
use Rattle.machine.specs.States.{sub_of}
use Rattle.machine.specs.States as machine
use Rattle.machine.specs.Run.{moment}
use Rattle.run_codes.specs.Points.{is_declaring}
use Rattle.run_codes.specs.Programs.{Program, lowered_program}
use Rattle.handled_steps.specs.States.{Outcome, Goes, Ends, Wants, Fails}
use Rattle.handled_steps.specs.Runs.{RunOf}

-- ---- words

-- A word of the machine, where each cell has a handle, the first one that of 0. Cells have the numbers from 1 on.
abbrev pub handled_word : (ℕ → ℕ) → Word → Value
handled_word handle (Int v) = value.Int v
handled_word handle (Enumerated n) = value.Enum n
handled_word handle Null = value.Null
handled_word handle (Cell zero) = value.Null
handled_word handle (Cell (suc n)) = value.Cell (handle n)

-- Null stands where it is gone.
abbrev pub handled_slot : (ℕ → ℕ) → Slot → Value
handled_slot handle x = if x.gone then value.Null else handled_word handle x.word

-- ---- cells

-- The cell was made, and isn't freed.
abbrev pub IsThere : List HeapCell → ℕ → HeapCell → Type 0
IsThere cells n c = (slice_get cells n ≡ Some c) × (c.freed ≡ false)

-- A handle is that of such a cell.
pub record IsBack (handle : ℕ → ℕ) (cells : List HeapCell) (h : ℕ) : Type 0 where
  pub index : ℕ
  pub cell : HeapCell
  pub there : IsThere cells index cell
  pub same : handle index ≡ h

-- The live handles stand one to one for the cells that were made and not freed, and have their words.
pub record HasCells (cells : List HeapCell) (m : Heap) : Type 0 where
  pub handle : ℕ → ℕ
  pub live : (n : ℕ) (c : HeapCell) → IsThere cells n c → words_at m.cells (handle n) ≡ Some (map (handled_slot handle) c.slots)
  pub once : (n k : ℕ) (c d : HeapCell) → IsThere cells n c → IsThere cells k d → handle n ≡ handle k → n ≡ k
  pub back : (h : ℕ) (vs : List Value) → words_at m.cells h ≡ Some vs → IsBack handle cells h

-- ---- runs

-- As a run ends, the heap has the cells of the machine's last state.
abbrev pub LeavesCells : machine.State → Outcome → Type 0
LeavesCells s (Goes b) = Unit {0}
LeavesCells s (Ends e b) = HasCells s.memory.cells b.memory.heap
LeavesCells s Wants = Unit {0}
LeavesCells s Fails = Unit {0}

-- So it is of all runs of the program as it is lowered, whichever handles the heap chooses.
abbrev pub RunsLeaveCells : FlowProgram → Type 0
RunsLeaveCells program =
    (p : Program) → lowered_program program ≡ Some p → (main : ℕ) → program.main ≡ Some main → (input : List ℕ) (n : ℕ) (r : Outcome)
    → RunOf (flow_typing program).table p (is_declaring program) (sub_of program main).pos main input n r → LeavesCells (moment program input n) r
