-- What changes in words over a heap that uses its slots again.
use Rattle.std.specs.Prelude.{ℕ, suc, ◌+◌, ◌-◌, ◌==◌, ◌&&◌, List, [], ◌∷◌, ◌++◌, drop, length, nat_le, Option, Some, None, ℤ, pos, if◌then◌else◌}
use Rattle.numbered_cells.specs.run_values.declared.value.Value.{Value}
use Rattle.numbered_cells.specs.run_values.declared.value.Value.TheVariants as value
use Rattle.numbered_cells.specs.run_values.declared.value.Kind.{Kind}
use Rattle.numbered_cells.specs.machine.Memory.{Peak, at_number, greatest}
use Rattle.numbered_cells.specs.slot_heap.Heaps.{Heap, words_at, live_count, allocated, written, released}
pub use Rattle.numbered_cells.specs.slot_heap.Words.{cell_named, slot_value, slot_values}
use Rattle.numbered_cells.specs.run_codes.Flat.{Got, Given, Broken, and_then, spliced, have_kinds, are_pointers, Spot, InStack, InCell}
use Rattle.handled_runs.specs.Fits.{are_slot_words}
use Rattle.handled_runs.specs.Slots.{Move, Slots, front}

abbrev pub with_stack : Slots → List ℤ → Slots
with_stack s stack = record s { stack = stack }

abbrev pub with_heap : Slots → Heap → Slots
with_heap s heap = record s { heap = heap }

-- ---- stores

-- One word after the other.
abbrev pub written_all : Heap → ℕ → ℕ → List Value → Heap
written_all m h o [] = m
written_all m h o (v ∷ vs) = written_all (written m h o v) h (suc o) vs

-- Words of these kinds are stored where such words stand.
abbrev pub cell_stored : Slots → ℕ → ℕ → List Kind → List ℤ → Option (List Value) → Got Slots
cell_stored s h o ks zs None = Broken
cell_stored s h o ks zs (Some ws) =
    if are_slot_words ks zs && have_kinds ks (drop o ws) then Given (with_heap s (written_all s.heap h o (slot_values ks zs))) else Broken

abbrev pub stored : Slots → Spot → List Kind → List ℤ → Got Slots
stored s (InStack n) ks zs = if nat_le (n + length zs) (length s.stack) then Given (with_stack s (spliced n zs s.stack)) else Broken
stored s (InCell h o) ks zs = cell_stored s h o ks zs (words_at s.heap.cells h)

-- ---- what is moved

-- Null stands at these offsets.
abbrev pub all_null : List ℕ → List ℤ → List ℤ
all_null [] zs = zs
all_null (o ∷ rest) zs = all_null rest (at_number o (λ z. pos 0) zs)

abbrev pub nulled : Heap → ℕ → ℕ → List ℕ → Heap
nulled m h o [] = m
nulled m h o (g ∷ gone) = nulled (written m h (o + g) value.Null) h o gone

abbrev pub cell_emptied : Slots → ℕ → ℕ → List Kind → List ℕ → Option (List Value) → Got Slots
cell_emptied s h o ks gone None = Broken
cell_emptied s h o ks gone (Some ws) =
    if are_pointers ks gone && have_kinds ks (drop o ws) then Given (with_heap s (nulled s.heap h o gone)) else Broken

-- The access values at some offsets from a spot, where words of these kinds stand, are null.
abbrev pub emptied : Slots → Spot → List Kind → List ℕ → Got Slots
emptied s (InStack n) ks gone =
    if are_pointers ks gone then and_then (front ks (drop n s.stack)) (λ zs. Given (with_stack s (spliced n (all_null gone zs) s.stack))) else Broken
emptied s (InCell h o) ks gone = cell_emptied s h o ks gone (words_at s.heap.cells h)

-- It is noted first.
abbrev pub moving : Slots → Spot → List Kind → List ℕ → Slots
moving s q ks gone = record s { moves = s.moves ++ record { at = q; kinds = ks; offsets = gone } ∷ [] }

abbrev pub all_emptied : List Move → Slots → Got Slots
all_emptied [] s = Given s
all_emptied (q ∷ rest) s = and_then (emptied s q.at q.kinds q.offsets) (all_emptied rest)

-- What is noted is done.
abbrev pub settled : Slots → Got Slots
settled s = all_emptied s.moves (record s { moves = [] })

-- ---- cells that are made and freed

-- A row of numbers in which one handle has another number.
abbrev pub row_with : (ℕ → ℕ) → ℕ → ℕ → ℕ → ℕ
row_with numbers h i x = if x == h then i else numbers x

-- How many cells are there that have as many words as a new one, and the greatest such counts.
abbrev pub with_peak : Heap → List Value → List Peak → List Peak
with_peak heap ws peaks = greatest (length ws) (live_count (length ws) heap.cells) peaks

-- The new cell has a handle that no cell has, and the next number.
abbrev pub made : Slots → ℕ → List Kind → List ℤ → Slots
made s h ks zs =
    let heap : Heap = allocated s.heap h (slot_values ks zs) in
    record s {
      heap = heap;
      numbers = row_with s.numbers h (suc s.made);
      live = s.live + length zs;
      made = suc s.made;
      peaks = with_peak heap (slot_values ks zs) s.peaks;
      sizes = s.sizes ++ length (slot_values ks zs) ∷ [];
    }

abbrev pub without_cell : Slots → ℕ → ℕ → Slots
without_cell s h size = record s {
  heap = released s.heap h;
  live = s.live - size;
  freed = suc s.freed;
}
