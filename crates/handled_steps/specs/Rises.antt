-- The greatest counts after a step, by what was there before it.
use Rattle.std.specs.Prelude.{◌≡◌, ◌≤◌, ℕ, ◌+◌, List, drop, length, nat_le, if◌then◌else◌}
use Rattle.handled_runs.specs.slot_heap.Heaps.{live_count, slot_count}
use Rattle.handled_runs.specs.numbered_cells.Peaks.{peak_of}
use Rattle.handled_runs.specs.Slots.{Slots}
use Rattle.handled_steps.specs.States.{Outcome, Goes, Ends, Wants, Fails}

abbrev pub top : ℕ → ℕ → ℕ
top a b = if nat_le a b then b else a

-- No count is greater now than it was.
abbrev pub AreUnder : Slots → Type 0
AreUnder s = (n : ℕ) → live_count n s.heap.cells ≤ peak_of n s.peaks

-- How many cells of a size there would be if none that was made since was freed.
abbrev pub count_with : Slots → List ℕ → ℕ → ℕ
count_with before sizes n = live_count n before.heap.cells + slot_count n (drop (length before.sizes) sizes)

-- As the step goes on, the greatest count of each size is what it was, or the count after the step; as the run ends, the
-- count with all cells that the step made.
abbrev pub RisesTo : Slots → Outcome → Type 0
RisesTo before (Goes s) = (n : ℕ) → peak_of n s.memory.peaks ≡ top (peak_of n before.peaks) (live_count n s.memory.heap.cells)
RisesTo before (Ends e s) = (n : ℕ) → peak_of n s.memory.peaks ≡ top (peak_of n before.peaks) (count_with before s.memory.sizes n)
RisesTo before Wants = Unit {0}
RisesTo before Fails = Unit {0}
