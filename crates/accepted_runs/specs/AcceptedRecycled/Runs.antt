-- What is said of runs over a heap that uses its slots again.
use Rattle.std.specs.Prelude.{◌≡◌, ◌⊎◌, ℕ, List, Some}
use Rattle.machine.specs.flow_paths.Laid.{FlowProgram, flow_typing}
use Rattle.machine.specs.States.{sub_of}
use Rattle.machine.specs.Run.{Run, run}
use Rattle.numbered_cells.specs.slot_heap.Heaps.{slot_count}
use Rattle.numbered_cells.specs.Peaks.{peak_of}
use Rattle.run_codes.specs.Points.{is_declaring, ran_of}
use Rattle.run_codes.specs.Programs.{Program, lowered_program}
use Rattle.handled_steps.specs.States.{Outcome, Ends, Wants}
use Rattle.handled_steps.specs.Runs.{RunOf, given}

-- As a run ends, there are as many slots of each size as cells of this size were live at once in the machine's run.
abbrev pub HasSlots : Run → Outcome → Type 0
HasSlots x (Ends e b) = (size : ℕ) → slot_count size b.memory.heap.slots ≡ peak_of size x.peaks
HasSlots x o = Unit {0}

-- The output, the leak checks that failed, the ending, the steps, and how many cells were made, freed and leaked are
-- those of the machine's run, and there are no more slots than it needs; or memory is out.
abbrev pub IsRunOf : Run → Outcome → Type 0
IsRunOf x r = ((given r ≡ Some (ran_of x)) × HasSlots x r) ⊎ (r ≡ Wants)

-- So it is of all runs of the program as it is lowered, whichever handles the heap chooses.
abbrev pub RunsAreRecycled : FlowProgram → Type 0
RunsAreRecycled program =
    (p : Program) → lowered_program program ≡ Some p → (main : ℕ) → program.main ≡ Some main → (input : List ℕ) (n : ℕ) (r : Outcome)
    → RunOf (flow_typing program).table p (is_declaring program) (sub_of program main).pos main input n r → IsRunOf (run program input n) r
