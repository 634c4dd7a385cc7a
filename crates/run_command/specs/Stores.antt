-- What a command leaves in the store that it is handed.
use Rattle.std.specs.Prelude.{◌≡◌, ℕ, List, length, nat_le, Option, None, Some, if◌then◌else◌}
use Rattle.spark_base.specs.declared.limits.TheConstants.{INPUT_BYTES}
use Rattle.flow_paths.specs.Laid.{FlowProgram}
use Rattle.slot_heap.specs.Heaps.{Heap, no_heap}
use Rattle.slot_execute.specs.Left.{LeavesHeap}

-- A run: of a program with a main procedure, on an input, in so many steps at most.
pub record Running : Type 0 where
  pub program : FlowProgram
  pub input : List ℕ
  pub budget : ℕ

-- The one on all of an input, where it isn't too large.
abbrev pub run_made : FlowProgram → List ℕ → ℕ → Option Running
run_made program input budget =
    if nat_le (length input) INPUT_BYTES then Some (record { program = program; input = input; budget = budget }) else None

-- The slots and the cells that a run leaves; without a run there are none.
abbrev pub IsLeftBy : Option Running → Heap → Type 0
IsLeftBy None m = m ≡ no_heap
IsLeftBy (Some r) m = LeavesHeap r.program r.input r.budget m
