-- Words without tags over a heap that uses its slots again, and what codes give over them.
--
-- A word is a value of Integer, a position, or an access value: 0 for null, and else the handle of a cell and 1. A
-- place that an access value was moved from holds null. What a point moves is noted until its last check is made: so
-- it reads what stood there before, and one that stops has nothing to put back.
use Rattle.std.specs.Prelude.{ℕ, zero, suc, ◌+◌, not, List, [], ◌∷◌, drop, length, map, slice_get, nat_lt, nat_le, Option, Some, None, ℤ, pos, unsigned_abs, if◌then◌else◌}
use Rattle.numbered_cells.specs.run_values.declared.value.Value.{Value}
use Rattle.numbered_cells.specs.run_values.declared.value.Kind.{Kind}
use Rattle.numbered_cells.specs.run_values.Values.{kind}
use Rattle.numbered_cells.specs.run_values.Items.{at_end}
use Rattle.numbered_cells.specs.machine.Memory.{Peak}
use Rattle.numbered_cells.specs.slot_heap.Heaps.{Heap, word_at, words_at}
pub use Rattle.numbered_cells.specs.slot_heap.Words.{slot_word}
use Rattle.numbered_cells.specs.run_codes.Codes.{Code, Number, Local, Global, Via, Scaled, Plus, Unary, Binary, Short, IsNull, Waiting, EndOfFile, Nothing, Place, InFrame, InPackages, Behind}
use Rattle.numbered_cells.specs.run_codes.Flat.{Got, Given, Stops, Broken, and_then, found, same_kind, have_kinds, most_offsets, constraint, truth, is_zero, operated, operated_alone, decides, offset, scaled, Spot, InStack, InCell}

-- Words of these kinds stand at a spot, and the access values at some offsets are moved from there.
pub record Move : Type 0 where
  pub at : Spot
  pub kinds : List Kind
  pub offsets : List ℕ

-- The words of all frames, and where the one that runs begins; the heap, which number the cell of a handle has, and how
-- many words all cells have; how many were made and freed, the greatest counts by size, and the sizes of all that were
-- made, the first one first; the words of the values that the point takes; the rest of the input; and what the point
-- moves, the first one first.
pub record Slots : Type 0 where
  pub stack : List ℤ
  pub base : ℕ
  pub heap : Heap
  pub numbers : ℕ → ℕ
  pub live : ℕ
  pub made : ℕ
  pub freed : ℕ
  pub peaks : List Peak
  pub sizes : List ℕ
  pub waits : List ℤ
  pub rest : List ℕ
  pub moves : List Move

-- ---- words of cells

abbrev pub of_kind : Kind → Option Value → Got ℤ
of_kind k None = Broken
of_kind k (Some v) = if same_kind (kind v) k then Given (slot_word v) else Broken

abbrev pub behind_at : Slots → ℕ → Kind → ℕ → Got ℤ
behind_at s o k zero = Stops constraint
behind_at s o k (suc h) = of_kind k (word_at s.heap h o)

-- The word of a kind at an offset in the cell that an access value designates.
abbrev pub behind : Slots → ℕ → Kind → ℤ → Got ℤ
behind s o k w = behind_at s o k (unsigned_abs w)

-- ---- expressions

unfoldable mutual
  pub word : Slots → Code → Got ℤ
  word s (Number v) = Given v
  word s (Local at i) = and_then (word s i) (λ o. found (slice_get s.stack (s.base + at + unsigned_abs o)))
  word s (Global at i) = and_then (word s i) (λ o. found (slice_get s.stack (at + unsigned_abs o)))
  word s (Via p at i k) =
      and_then (indexes s p) (λ x. and_then (word s i) (λ o. and_then (word s p) (behind s (at + unsigned_abs o) k)))
  word s (Scaled i low high size) = and_then (word s i) (scaled low high size)
  word s (Plus a b) = and_then (word s a) (λ x. and_then (word s b) (λ y. offset (unsigned_abs x + unsigned_abs y)))
  word s (Unary op a) = and_then (word s a) (operated_alone op)
  word s (Binary op a b) = and_then (word s a) (λ x. and_then (word s b) (operated op x))
  word s (Short op a b) = and_then (word s a) (λ x. if decides op x then Given x else word s b)
  word s (IsNull equal p) = and_then (word s p) (λ w. Given (truth (if is_zero w then equal else not equal)))
  word s (Waiting at) = found (slice_get s.waits at)
  word s EndOfFile = Given (truth (at_end s.rest))
  word s Nothing = Broken

  -- The indexes of a name alone: its last one.
  pub indexes : Slots → Code → Got ℤ
  indexes s (Local at i) = word s i
  indexes s (Global at i) = word s i
  indexes s (Via p at i k) = and_then (indexes s p) (λ x. word s i)
  indexes s _ = Given (pos 0)

-- ---- places

abbrev pub live_spot : Option (List Value) → ℕ → ℕ → Got Spot
live_spot None h o = Broken
live_spot (Some ws) h o = Given (InCell h o)

-- A cell is named by its handle.
abbrev pub cell_spot : Slots → ℕ → ℕ → Got Spot
cell_spot s o zero = Stops constraint
cell_spot s o (suc h) = if nat_lt o most_offsets then live_spot (words_at s.heap.cells h) h o else Broken

abbrev pub stack_spot : Slots → ℕ → Got Spot
stack_spot s n = if nat_le n (length s.stack) then Given (InStack n) else Broken

abbrev pub spot : Slots → Place → Got Spot
spot s (InFrame at i) = and_then (word s i) (λ o. stack_spot s (s.base + at + unsigned_abs o))
spot s (InPackages at i) = and_then (word s i) (λ o. stack_spot s (at + unsigned_abs o))
spot s (Behind p at i) =
    and_then (indexes s p) (λ x. and_then (word s i) (λ o. and_then (word s p) (λ w. cell_spot s (at + unsigned_abs o) (unsigned_abs w))))

-- ---- what stands at a place

-- As many words as there are kinds.
abbrev pub front : List Kind → List ℤ → Got (List ℤ)
front [] zs = Given []
front (k ∷ ks) [] = Broken
front (k ∷ ks) (z ∷ zs) = and_then (front ks zs) (λ more. Given (z ∷ more))

abbrev pub cell_words : List Kind → ℕ → Option (List Value) → Got (List ℤ)
cell_words ks o None = Broken
cell_words ks o (Some ws) = if have_kinds ks (drop o ws) then front ks (drop o (map slot_word ws)) else Broken

-- The words of these kinds at a spot.
abbrev pub held : Slots → Spot → List Kind → Got (List ℤ)
held s (InStack n) ks = front ks (drop n s.stack)
held s (InCell h o) ks = cell_words ks o (words_at s.heap.cells h)
