-- Heaps, as stores mean them: the live handles with their words, and the slots that were made.
use Rattle.std.specs.Prelude.{◌≡◌, ℕ, suc, Option, None, Some, IsSomeAnd, option_and_then, List, [], ◌∷◌, length, slice_get, slice_set, ◌==◌, if◌then◌else◌}
use Rattle.run_values.specs.declared.value.Value.{Value}
use Rattle.run_values.specs.declared.value.Kind.{Kind}
use Rattle.run_values.specs.Values.{kind}

-- A live handle, and its words.
pub record Cell : Type 0 where
  pub handle : ℕ
  pub words : List Value

-- The live cells, the newest first. Each slot is told by its size in words, the newest first: it has
-- a cell of that size, or it is free.
pub record Heap : Type 0 where
  pub cells : List Cell
  pub slots : List ℕ

abbrev pub no_heap : Heap
no_heap = record { cells = []; slots = [] }

-- The words of a handle, where it is live.
abbrev pub words_at : List Cell → ℕ → Option (List Value)
words_at [] h = None
words_at (c ∷ cells) h = if c.handle == h then Some c.words else words_at cells h

-- The word at a place of a live cell, where the place is within it.
abbrev pub word_at : Heap → ℕ → ℕ → Option Value
word_at m h at = option_and_then (λ ws. slice_get ws at) (words_at m.cells h)

abbrev pub IsLive : Heap → ℕ → Type 0
IsLive m h = IsSomeAnd (words_at m.cells h) (λ ws. ws ≡ ws)

-- The handle is live, and its cell has so many words.
abbrev pub IsOfSize : Heap → ℕ → ℕ → Type 0
IsOfSize m h n = IsSomeAnd (words_at m.cells h) (λ ws. length ws ≡ n)

-- The handle is live, the place is within its cell, and this word stands there.
abbrev pub HasWord : Heap → ℕ → ℕ → Value → Type 0
HasWord m h at v = word_at m h at ≡ Some v

-- The same, of some word of this kind.
abbrev pub Holds : Heap → ℕ → ℕ → Kind → Type 0
Holds m h at k = IsSomeAnd (word_at m h at) (λ v. kind v ≡ k)

-- How many live cells have this size, and how many slots.
abbrev pub live_count : ℕ → List Cell → ℕ
live_count n [] = 0
live_count n (c ∷ cells) = if length c.words == n then suc (live_count n cells) else live_count n cells

abbrev pub slot_count : ℕ → List ℕ → ℕ
slot_count n [] = 0
slot_count n (k ∷ slots) = if k == n then suc (slot_count n slots) else slot_count n slots

-- ---- what calls do

-- A slot of a size is made exactly where all of that size are live.
abbrev pub with_slot : ℕ → Heap → List ℕ
with_slot n m = if live_count n m.cells == slot_count n m.slots then n ∷ m.slots else m.slots

abbrev pub allocated : Heap → ℕ → List Value → Heap
allocated m h ws = record {
  cells = record { handle = h; words = ws } ∷ m.cells;
  slots = with_slot (length ws) m;
}

abbrev pub changed : (List Value → List Value) → List Cell → ℕ → List Cell
changed f [] h = []
changed f (c ∷ cells) h =
    if c.handle == h then record c { words = f c.words } ∷ cells else c ∷ changed f cells h

-- One word of one cell is another.
abbrev pub written : Heap → ℕ → ℕ → Value → Heap
written m h at v = record m { cells = changed (λ ws. slice_set ws at v) m.cells h }

abbrev pub without : List Cell → ℕ → List Cell
without [] h = []
without (c ∷ cells) h = if c.handle == h then cells else c ∷ without cells h

-- The handle isn't live any longer. Its slot stays.
abbrev pub released : Heap → ℕ → Heap
released m h = record m { cells = without m.cells h }

-- ---- what a store means

-- It means some heap of which a fact is true.
abbrev pub Knows : {S : Type 0} → (S → Heap → Type 0) → S → (Heap → Type 0) → Type 0
Knows Means s P = (m : Heap) × (Means s m × P m)

-- Whatever heap it means, a fact is true of it.
abbrev pub Always : {S : Type 0} → (S → Heap → Type 0) → S → (Heap → Type 0) → Type 0
Always Means s P = (m : Heap) → Means s m → P m

-- Whatever heap it meant, it means the changed one now.
abbrev pub Becomes : {S : Type 0} → (S → Heap → Type 0) → S → S → (Heap → Heap) → Type 0
Becomes Means before now change = (m : Heap) → Means before m → Means now (change m)
