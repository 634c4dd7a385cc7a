-- The slots of a run number the greatest counts of live cells.
use Rattle.std.specs.Prelude.{◌≤◌, ℕ}
use Rattle.handled_runs.specs.slot_heap.Heaps.{Heap, live_count, slot_count}
use Rattle.handled_runs.specs.numbered_cells.Peaks.{ArePeaks}
use Rattle.handled_runs.specs.Slots.{Slots}
use Rattle.handled_steps.specs.States.{Outcome, Goes, Ends, Wants, Fails}

-- Each live cell has a slot.
abbrev pub IsEnough : Heap → Type 0
IsEnough m = (n : ℕ) → live_count n m.cells ≤ slot_count n m.slots

-- Of each size there are as many slots as cells were live at once, counted after each that was made.
abbrev pub HasPeaks : Slots → Type 0
HasPeaks s = ArePeaks s.peaks s.heap

abbrev pub KeepsPeaks : Slots → Type 0
KeepsPeaks s = IsEnough s.heap × HasPeaks s

-- After a step, and as a run ends.
abbrev pub EndsWithPeaks : Outcome → Type 0
EndsWithPeaks (Goes s) = KeepsPeaks s.memory
EndsWithPeaks (Ends e s) = HasPeaks s.memory
EndsWithPeaks Wants = Unit {0}
EndsWithPeaks Fails = Unit {0}
