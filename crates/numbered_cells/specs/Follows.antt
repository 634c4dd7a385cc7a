-- Cells by numbers that are never used again, beside a heap whose handles are used again.
use Rattle.std.specs.Prelude.{◌≡◌, ℕ, ◌+◌, ◌<◌, ⊤, true, false, Some, List, [], ◌∷◌, map, length, get_or, slice_get, nat_lt, ◌==◌, if◌then◌else◌}
use Rattle.run_values.specs.declared.value.Value.{Value}
use Rattle.run_values.specs.declared.value.Value.TheVariants as value
use Rattle.kept_cells.specs.Cells.{Cell}
use Rattle.run_codes.specs.Flat.{gone_from}
use Rattle.slot_heap.specs.Heaps.{Heap, words_at, live_count}
use Rattle.slot_heap.specs.Runs.{IsOnce}

-- A word with the handle in place of the number, and with null in place of what is gone.
abbrev pub handled : List ℕ → Value → Value
handled handles (value.Int i) = value.Int i
handled handles (value.Enum n) = value.Enum n
handled handles value.Null = value.Null
handled handles (value.Cell n) = if nat_lt n gone_from then value.Cell (get_or handles n 0) else value.Null

-- The cell has this number and these words, and isn't freed.
abbrev pub IsThere : List Cell → ℕ → List Value → Type 0
IsThere cells n ws = slice_get cells n ≡ Some (record { words = ws; freed = false })

-- What a word names is below a bound.
abbrev pub Names : ℕ → Value → Type 0
Names bound (value.Int i) = ⊤
Names bound (value.Enum n) = ⊤
Names bound value.Null = ⊤
Names bound (value.Cell n) = nat_lt n gone_from ≡ true → n < bound

abbrev pub AllName : ℕ → List Value → Type 0
AllName bound [] = ⊤
AllName bound (v ∷ vs) = Names bound v × AllName bound vs

-- How many cells of a size aren't freed.
abbrev pub one_there : ℕ → Cell → ℕ
one_there n c = if c.freed then 0 else (if length c.words == n then 1 else 0)

abbrev pub there_count : ℕ → List Cell → ℕ
there_count n [] = 0
there_count n (c ∷ cells) = one_there n c + there_count n cells

-- A handle is that of a number whose cell is there.
pub record Back (handles : List ℕ) (cells : List Cell) (h : ℕ) : Type 0 where
  pub number : ℕ
  pub words : List Value
  pub there : IsThere cells number words
  pub same : get_or handles number 0 ≡ h

-- Each number has the handle that its cell got. Where the cell is there, the handle is live, it is
-- that of no other such cell, and its words are those of the cell, with handles for numbers. The
-- handle of a freed number says nothing: another number may have it by now. Each live handle is that
-- of a cell that is there, and there are as many of each size.
pub record Follows (handles : List ℕ) (cells : List Cell) (m : Heap) : Type 0 where
  pub len : length handles ≡ length cells
  pub live : (n : ℕ) (ws : List Value) → IsThere cells n ws → words_at m.cells (get_or handles n 0) ≡ Some (map (handled handles) ws)
  pub once : (n k : ℕ) (us ws : List Value) → IsThere cells n us → IsThere cells k ws → get_or handles n 0 ≡ get_or handles k 0 → n ≡ k
  pub names : (n : ℕ) (ws : List Value) → IsThere cells n ws → AllName (length handles) ws
  pub alone : IsOnce m.cells
  pub back : (h : ℕ) (us : List Value) → words_at m.cells h ≡ Some us → Back handles cells h
  pub counts : (n : ℕ) → live_count n m.cells ≡ there_count n cells
