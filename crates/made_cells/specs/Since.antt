-- The cells that a step has made so far.
use Rattle.std.specs.Prelude.{◌≡◌, ◌<◌, ◌≤◌, ℕ, List, [], ◌∷◌, ◌++◌, nat_le, Some, if◌then◌else◌}
use Rattle.handled_runs.specs.run_values.declared.value.Value.{Value}
use Rattle.handled_runs.specs.slot_heap.Heaps.{Cell, words_at}
use Rattle.handled_runs.specs.Slots.{Slots}
use Rattle.handled_runs.specs.Values as values
use Rattle.handled_steps.specs.Steps.{Passing, Passes, Stopping, Failing}

-- So it is of the number of each cell.
abbrev pub AreNumbered : (ℕ → Type 0) → (ℕ → ℕ) → List Cell → Type 0
AreNumbered P numbers [] = Unit {0}
AreNumbered P numbers (c ∷ cells) = P (numbers c.handle) × AreNumbered P numbers cells

-- No handle has a number that is greater than how many were made.
abbrev pub IsNumbered : Slots → Type 0
IsNumbered s = (h : ℕ) → s.numbers h ≤ s.made

-- One of the cells has this handle.
abbrev pub Has : List Cell → ℕ → Type 0
Has cells h = (ws : List Value) × (words_at cells h ≡ Some ws)

-- The cells that were made since stand before those that were there, and have greater numbers, as no other handle has.
pub record Since (before s : Slots) : Type 0 where
  pub made : List Cell
  pub cells : s.heap.cells ≡ made ++ before.heap.cells
  pub newer : AreNumbered (λ n. before.made < n) s.numbers made
  pub older : AreNumbered (λ n. n ≤ before.made) s.numbers before.heap.cells
  pub only : (h : ℕ) → before.made < s.numbers h → Has made h
  pub more : before.made ≤ s.made

-- So it is where a value is done or stops, and where actuals are passed.
abbrev pub FilledSince : Slots → values.Outcome → Type 0
FilledSince before (values.Gives zs s) = Since before s
FilledSince before (values.Ends x s) = Since before s
FilledSince before values.Fails = Unit {0}

abbrev pub PassedSince : Slots → Passing → Type 0
PassedSince before (Passes passed s) = Since before s
PassedSince before (Stopping x s) = Since before s
PassedSince before Failing = Unit {0}

-- The cells with numbers up to one.
abbrev pub cells_to : ℕ → (ℕ → ℕ) → List Cell → List Cell
cells_to n numbers [] = []
cells_to n numbers (c ∷ cells) = if nat_le (numbers c.handle) n then c ∷ cells_to n numbers cells else cells_to n numbers cells
