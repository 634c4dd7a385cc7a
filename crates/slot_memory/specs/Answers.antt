-- What calls answer that stand for definitions over slots.
use Rattle.std.specs.Prelude.{◌≡◌, ◌≢◌, ◌<◌, ◌≤◌, ℕ, suc, ◌+◌, ◌^◌, ℤ, pos, negsuc, zero, List, [], ◌∷◌, ◌++◌, Option, None, Some, Result, Ok, Err, length}
use Rattle.run_values.specs.declared.value.Value.{Value}
use Rattle.machine.specs.Evaluate.{StorageError, heap_words}
use Rattle.slot_heap.specs.Heaps.{Heap, words_at, allocated}
use Rattle.run_codes.specs.Flat as flat
use Rattle.run_codes.specs.Flat.{Got, Given, Stops, and_then, most_cells}
use Rattle.handled_runs.specs.Slots.{Slots}
use Rattle.handled_runs.specs.Changes.{row_with, with_peak, without_cell}
use Rattle.code_rows.specs.declared.stop.Stop.{Stop}
use Rattle.code_rows.specs.declared.stop.Stop.TheVariants as stop
use Rattle.code_rows.specs.Stops.{stop_of}
use Rattle.slot_memory.specs.Memory.{Kept, Shows}

-- The words that are got are appended to others, but where there is too little memory.
abbrev pub Appends : {U : Type 0} → Got (List ℤ) → Result U Stop → List ℤ → List ℤ → Type 0
Appends got (Ok u) old new = and_then got (λ zs. Given (old ++ zs)) ≡ Given new
Appends got (Err s) old new = s ≢ stop.Memory → got ≡ Stops (stop_of s)

-- The number of the cell that an access value designates.
abbrev pub number_of : (ℕ → ℕ) → ℤ → Option ℕ
number_of numbers (pos (suc h)) = Some (numbers h)
number_of numbers (pos zero) = None
number_of numbers (negsuc n) = None

-- A new cell with these values.
abbrev pub with_cell : Slots → ℕ → List Value → Slots
with_cell s h vs =
    let heap : Heap = allocated s.heap h vs in
    record s {
      heap = heap;
      numbers = row_with s.numbers h (suc s.made);
      live = s.live + length vs;
      made = suc s.made;
      peaks = with_peak heap vs s.peaks;
      sizes = s.sizes ++ length vs ∷ [];
    }

-- It is made, and its name is answered.
pub record IsMade {R : Type 0} (Means : R → Heap → Type 0) (s : Slots) (vs : List Value) (w : ℤ) (m : Kept R) : Type 0 where
  pub handle : ℕ
  pub new : words_at s.heap.cells handle ≡ None
  pub small : handle < 2 ^ 62
  pub name : w ≡ pos (suc handle)
  pub shows : Shows Means m (with_cell s handle vs)
  pub few : s.made < most_cells
  pub room : s.live + length vs ≤ heap_words

-- There is no room for it.
pub record IsRefused {R : Type 0} (Means : R → Heap → Type 0) (s : Slots) (vs : List Value) (x : Stop) (m : Kept R) : Type 0 where
  pub raises : stop_of x ≡ flat.Raises StorageError
  pub full : heap_words < s.live + length vs
  pub shows : Shows Means m s

abbrev pub Allocates : {R : Type 0} → (R → Heap → Type 0) → Slots → List Value → Result ℤ Stop → Kept R → Type 0
Allocates Means s vs (Ok w) m = IsMade Means s vs w m
Allocates Means s vs (Err x) m = x ≢ stop.Memory → IsRefused Means s vs x m

-- A live cell is freed.
abbrev pub Frees : {R : Type 0} → (R → Heap → Type 0) → Slots → ℕ → Kept R → Type 0
Frees Means s h m = (ws : List Value) → words_at s.heap.cells h ≡ Some ws → Shows Means m (without_cell s h (length ws))

-- The store is the one that was lent by the same reference, but where there is too little memory.
abbrev pub LentOn : {R U : Type 0} → Result U Stop → Kept R → Kept R → Type 0
LentOn (Ok u) old new = new.heap.lent ≡ old.heap.lent
LentOn (Err x) old new = x ≢ stop.Memory → new.heap.lent ≡ old.heap.lent
