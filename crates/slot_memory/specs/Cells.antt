-- The cells of a run, with what is kept beside the store.
use Rattle.std.specs.Prelude.{◌≡◌, ◌<◌, ◌≤◌, ℕ, suc, ◌+◌, ◌-◌, ◌^◌, ◌==◌, true, List, [], ◌∷◌, length, drop, get_or, slice_get, Option, Some, None, IsSomeAnd, if◌then◌else◌}
use Rattle.run_values.specs.declared.value.Value.{Value}
use Rattle.run_values.specs.declared.value.Kind.{Kind}
use Rattle.machine.specs.Evaluate.{heap_words}
use Rattle.run_codes.specs.Flat.{most_cells, have_kinds}
use Rattle.slot_heap.specs.Heaps.{Cell, Heap, words_at, allocated, released}
use Rattle.slot_heap.specs.Runs.{IsOnce}
use Rattle.handled_runs.specs.Changes.{row_with}

-- A store, and the reference by which it was lent; how many words the cell of each handle has, and its number from 1;
-- how many cells were made and freed; and how many words the others have.
pub record Cells (R : Type 0) : Type 0 where
  pub store : R
  pub lent : ℕ
  pub lengths : List ℕ
  pub numbers : List ℕ
  pub made : ℕ
  pub freed : ℕ
  pub live : ℕ

-- How many words the cell of a live handle has.
abbrev pub size_at : List Cell → ℕ → Option ℕ
size_at [] h = None
size_at (c ∷ cells) h = if c.handle == h then Some (length c.words) else size_at cells h

-- What is kept of a live cell with so many words is right.
pub record IsSized (lengths : List ℕ) (h n : ℕ) : Type 0 where
  pub small : h < 2 ^ 62
  pub size : slice_get lengths h ≡ Some n
  pub few : n ≤ heap_words

-- They are kept for a heap whose handles have these numbers.
pub record Keep {R : Type 0} (Means : R → Heap → Type 0) (c : Cells R) (heap : Heap) (numbers : ℕ → ℕ) : Type 0 where
  pub means : Means c.store heap
  pub once : IsOnce heap.cells
  pub sized : (h n : ℕ) → size_at heap.cells h ≡ Some n → IsSized c.lengths h n
  pub numbered : (h : ℕ) → numbers h ≡ get_or c.numbers h 0
  pub counted : c.freed + length heap.cells ≤ c.made
  pub within : (h : ℕ) → numbers h ≤ c.made
  pub slots : length heap.slots ≤ c.made
  pub few : c.made ≤ most_cells

-- They are kept for some heap of which a fact is true.
abbrev pub KnowsCells : {R : Type 0} → (R → Heap → Type 0) → Cells R → (Heap → Type 0) → Type 0
KnowsCells Means c P = (heap : Heap) × ((numbers : ℕ → ℕ) × (Keep Means c heap numbers × P heap))

-- Words of these kinds stand from an offset on in a live cell.
abbrev pub Have : Heap → ℕ → ℕ → List Kind → Type 0
Have m h at ks = IsSomeAnd (words_at m.cells h) (λ ws. have_kinds ks (drop at ws) ≡ true)

-- A cell is made, whose handle no cell has had.
pub record IsMadeAs {R : Type 0} (Means : R → Heap → Type 0) (old : Cells R) (h : ℕ) (vs : List Value) (new : Cells R) : Type 0 where
  pub small : h < 2 ^ 62
  pub made : new.made ≡ suc old.made
  pub freed : new.freed ≡ old.freed
  pub live : new.live ≡ old.live + length vs
  pub unused : (heap : Heap) (numbers : ℕ → ℕ) → Keep Means old heap numbers → words_at heap.cells h ≡ None
  pub keep : (heap : Heap) (numbers : ℕ → ℕ) → Keep Means old heap numbers → Keep Means new (allocated heap h vs) (row_with numbers h (suc old.made))

-- A cell is freed.
pub record IsFreed {R : Type 0} (Means : R → Heap → Type 0) (old : Cells R) (h : ℕ) (new : Cells R) : Type 0 where
  pub made : new.made ≡ old.made
  pub freed : new.freed ≡ suc old.freed
  pub live :
      (heap : Heap) (numbers : ℕ → ℕ) (ws : List Value) → Keep Means old heap numbers → words_at heap.cells h ≡ Some ws → new.live ≡ old.live - length ws
  pub keep :
      (heap : Heap) (numbers : ℕ → ℕ) (ws : List Value) → Keep Means old heap numbers → words_at heap.cells h ≡ Some ws
      → Keep Means new (released heap h) numbers
