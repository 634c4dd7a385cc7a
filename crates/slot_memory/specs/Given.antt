-- The cells of a step that stops are freed.
use Rattle.std.specs.Prelude.{◌≡◌, ◌<◌, ℕ}
use Rattle.slot_heap.specs.Heaps.{Heap, IsLive}
use Rattle.made_cells.specs.Since.{cells_to}
use Rattle.slot_memory.specs.Cells.{Cells, Keep}

-- What has a greater number is live.
abbrev pub AreLive : ℕ → Heap → (ℕ → ℕ) → Type 0
AreLive n heap numbers = (h : ℕ) → n < numbers h → IsLive heap h

-- So it is for some heap that the cells are kept for.
pub record CanGive {R : Type 0} (Means : R → Heap → Type 0) (c : Cells R) (n : ℕ) : Type 0 where
  pub heap : Heap
  pub numbers : ℕ → ℕ
  pub keep : Keep Means c heap numbers
  pub live : AreLive n heap numbers

-- Those with numbers up to one are left.
pub record IsGivenUp {R : Type 0} (Means : R → Heap → Type 0) (old : Cells R) (n : ℕ) (new : Cells R) : Type 0 where
  pub keep : (heap : Heap) (numbers : ℕ → ℕ) → Keep Means old heap numbers → AreLive n heap numbers → Keep Means new (record heap { cells = cells_to n numbers heap.cells }) numbers
  pub made : new.made ≡ old.made
  pub lent : new.lent ≡ old.lent
