-- What the memory of a run keeps, and which words over slots it stands for.
use Rattle.std.specs.Prelude.{◌≡◌, ℕ, ◌+◌, List, map, flat_map, drop, ℤ}
use Rattle.machine.specs.Memory.{Peak}
use Rattle.slot_heap.specs.Heaps.{Heap}
use Rattle.run_codes.specs.Flat.{Got, Given, Spot, InStack, InCell}
use Rattle.handled_runs.specs.Slots.{Move, Slots}
use Rattle.slot_memory.specs.Cells.{Cells, Keep}

-- The words of all frames, and where the one that runs begins; those of the values that wait in all frames, and where
-- those begin that the point takes; the cells; where the access values stand that the point moves; the input, and where
-- the rest of it begins.
pub record Kept (R : Type 0) : Type 0 where
  pub stack : List ℤ
  pub base : ℕ
  pub waits : List ℤ
  pub taken : ℕ
  pub heap : Cells R
  pub moves : List Spot
  pub input : List ℕ
  pub read : ℕ

-- What no code keeps: the heap that the store means, the number of each handle, what is moved by spots with some kinds,
-- the greatest counts by size, and the sizes of all cells.
pub record Ghosts : Type 0 where
  pub heap : Heap
  pub numbers : ℕ → ℕ
  pub moves : List Move
  pub peaks : List Peak
  pub sizes : List ℕ

abbrev pub slots : {R : Type 0} → Kept R → Ghosts → Slots
slots m g = record {
  stack = m.stack;
  base = m.base;
  heap = g.heap;
  numbers = g.numbers;
  live = m.heap.live;
  made = m.heap.made;
  freed = m.heap.freed;
  peaks = g.peaks;
  sizes = g.sizes;
  waits = drop m.taken m.waits;
  rest = drop m.read m.input;
  moves = g.moves;
}

-- ---- what is moved

abbrev pub beyond : Spot → ℕ → Spot
beyond (InStack n) o = InStack (n + o)
beyond (InCell h at) o = InCell h (at + o)

abbrev pub spots_of : Move → List Spot
spots_of m = map (beyond m.at) m.offsets

-- Each access value alone.
abbrev pub single : List Move → List Spot
single moves = flat_map spots_of moves

-- ---- what a memory stands for

pub record Stands {R : Type 0} (Means : R → Heap → Type 0) (m : Kept R) (g : Ghosts) : Type 0 where
  pub cells : Keep Means m.heap g.heap g.numbers
  pub moves : m.moves ≡ single g.moves

-- It stands for some slots.
abbrev pub IsKnown : {R : Type 0} → (R → Heap → Type 0) → Kept R → Type 0
IsKnown Means m = (g : Ghosts) × Stands Means m g

-- It stands for some slots of which a fact is true.
abbrev pub Knows : {R : Type 0} → (R → Heap → Type 0) → Kept R → (Slots → Type 0) → Type 0
Knows Means m P = (g : Ghosts) × (Stands Means m g × P (slots m g))

-- Whatever slots it stands for, a fact is true of them.
abbrev pub Always : {R : Type 0} → (R → Heap → Type 0) → Kept R → (Slots → Type 0) → Type 0
Always Means m P = (g : Ghosts) → Stands Means m g → P (slots m g)

abbrev pub ghosts_of : Slots → Ghosts
ghosts_of s = record { heap = s.heap; numbers = s.numbers; moves = s.moves; peaks = s.peaks; sizes = s.sizes }

-- It stands for these slots.
abbrev pub Shows : {R : Type 0} → (R → Heap → Type 0) → Kept R → Slots → Type 0
Shows Means m s = Stands Means m (ghosts_of s) × (slots m (ghosts_of s) ≡ s)

-- Whatever slots it stood for, it stands for the changed ones now, where the change is given.
abbrev pub Changes : {R : Type 0} → (R → Heap → Type 0) → Kept R → (Slots → Got Slots) → Kept R → Type 0
Changes Means before change now = (g : Ghosts) → Stands Means before g → (t : Slots) → change (slots before g) ≡ Given t → Shows Means now t

-- What a point doesn't change while it is evaluated.
pub record Elsewhere : Type 0 where
  pub lent : ℕ
  pub base : ℕ
  pub waits : List ℤ
  pub taken : ℕ
  pub input : List ℕ
  pub read : ℕ

abbrev pub elsewhere : {R : Type 0} → Kept R → Elsewhere
elsewhere m = record { lent = m.heap.lent; base = m.base; waits = m.waits; taken = m.taken; input = m.input; read = m.read }
