-- Where the words of a heap stand: in runs of one list. The first word of a free run is an access
-- value that designates the next free run of its size, and a table has the first one of each size.
use Rattle.std.specs.Prelude.{◌≡◌, ℕ, ◌+◌, ◌<◌, ◌≤◌, ⊤, ◌⊎◌, Some, None, IsSomeAnd, List, [], ◌∷◌, length, slice_get}
use Rattle.run_values.specs.declared.value.Value.{Value}
use Rattle.run_values.specs.declared.value.Value.TheVariants as value
use Rattle.slot_heap.specs.Heaps.{Cell, Heap, words_at, live_count, slot_count}

-- A run, by its start and its size. Each word is marked with the run that it belongs to, so that no
-- two runs have a word in common.
pub record IsRun (marks : ℕ → ℕ × ℕ) (end a n : ℕ) : Type 0 where
  pub some : 0 < n
  pub within : a + n ≤ end
  pub marked : (i : ℕ) → a ≤ i → i < a + n → marks i ≡ (a, n)

-- The code of a value stands at a place.
abbrev pub StandsAt : {W : Type 0} → (W → Value → Type 0) → List W → ℕ → Value → Type 0
StandsAt IsCode words i v = IsSomeAnd (slice_get words i) (λ w. IsCode w v)

-- The codes of some values stand from a place on.
abbrev pub Stand : {W : Type 0} → (W → Value → Type 0) → List W → ℕ → List Value → Type 0
Stand IsCode words a ws = (i : ℕ) (v : Value) → slice_get ws i ≡ Some v → StandsAt IsCode words (a + i) v

-- What designates the first of some free runs.
abbrev pub link : List ℕ → Value
link [] = value.Null
link (a ∷ rest) = value.Cell a

-- Each free run designates the next one.
abbrev pub Chain : {W : Type 0} → (W → Value → Type 0) → List W → List ℕ → Type 0
Chain IsCode words [] = ⊤
Chain IsCode words (a ∷ rest) = StandsAt IsCode words a (link rest) × Chain IsCode words rest

abbrev pub Has : List ℕ → ℕ → Type 0
Has [] a = ⊥
Has (b ∷ rest) a = (b ≡ a) ⊎ Has rest a

-- No number stands twice.
abbrev pub AreOnce : List ℕ → Type 0
AreOnce [] = ⊤
AreOnce (a ∷ rest) = (Has rest a → ⊥) × AreOnce rest

-- No handle stands twice.
abbrev pub IsOnce : List Cell → Type 0
IsOnce [] = ⊤
IsOnce (c ∷ cells) = (words_at cells c.handle ≡ None) × IsOnce cells

-- A live cell has a run, whose size is in the table.
pub record IsCell {W : Type 0} (IsCode : W → Value → Type 0) (words heads : List W) (marks : ℕ → ℕ × ℕ) (h : ℕ) (ws : List Value) : Type 0 where
  pub run : IsRun marks (length words) h (length ws)
  pub sized : length ws < length heads
  pub stand : Stand IsCode words h ws

-- A free run isn't a live one.
pub record IsFree {W : Type 0} (words : List W) (marks : ℕ → ℕ × ℕ) (m : Heap) (n a : ℕ) : Type 0 where
  pub run : IsRun marks (length words) a n
  pub dead : words_at m.cells a ≡ None

-- These words and this table keep a heap.
pub record Kept {W : Type 0} (IsCode : W → Value → Type 0) (words heads : List W) (m : Heap) : Type 0 where
  pub marks : ℕ → ℕ × ℕ
  pub frees : ℕ → List ℕ
  pub once : IsOnce m.cells
  pub cells : (h : ℕ) (ws : List Value) → words_at m.cells h ≡ Some ws → IsCell IsCode words heads marks h ws
  pub free : (n a : ℕ) → Has (frees n) a → IsFree words marks m n a
  pub free_once : (n : ℕ) → AreOnce (frees n)
  pub chains : (n : ℕ) → Chain IsCode words (frees n)
  pub first : (n : ℕ) → StandsAt IsCode heads n (link (frees n)) ⊎ ((length heads ≤ n) × (frees n ≡ []))
  pub counts : (n : ℕ) → slot_count n m.slots ≡ live_count n m.cells + length (frees n)
