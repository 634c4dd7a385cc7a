-- The greatest counts of live cells, by size, and the slots of a heap.
use Rattle.std.specs.Prelude.{◌≡◌, ℕ, List, [], ◌∷◌, ◌==◌, if◌then◌else◌}
use Rattle.machine.specs.Memory.{Peak}
use Rattle.slot_heap.specs.Heaps.{Heap, slot_count}

-- That of a size.
abbrev pub peak_of : ℕ → List Peak → ℕ
peak_of n [] = 0
peak_of n (p ∷ rest) = if p.size == n then p.count else peak_of n rest

-- There are as many slots of each size.
abbrev pub ArePeaks : List Peak → Heap → Type 0
ArePeaks peaks m = (n : ℕ) → slot_count n m.slots ≡ peak_of n peaks
