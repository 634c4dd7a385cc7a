-- Cells, as a heap that uses none again keeps them: a list, in the order of their allocation. A
-- handle with the number h designates the cell h of the list, from 0.
use Rattle.std.specs.Prelude.{◌≡◌, ℕ, zero, suc, Bool, true, false, IsTrue, Option, None, Some, IsSomeAnd, option_and_then, List, [], ◌∷◌, ◌++◌, slice_get, slice_set}
use Rattle.run_values.specs.declared.value.Value.{Value}
use Rattle.run_values.specs.declared.value.Kind.{Kind}
use Rattle.run_values.specs.Values.{kind}

-- The words that a cell has, and whether it was freed.
pub record Cell : Type 0 where
  pub words : List Value
  pub freed : Bool

-- The word at a place of a cell, where there is one, freed or not.
abbrev pub word_at : List Cell → ℕ → ℕ → Option Value
word_at cells h at = option_and_then (λ c. slice_get c.words at) (slice_get cells h)

-- This word stands there.
abbrev pub HasWord : List Cell → ℕ → ℕ → Value → Type 0
HasWord cells h at v = word_at cells h at ≡ Some v

-- Some word of this kind stands there: the cell was allocated, and the place is within it. A freed
-- cell holds its words too.
abbrev pub Holds : List Cell → ℕ → ℕ → Kind → Type 0
Holds cells h at k = IsSomeAnd (word_at cells h at) (λ v. kind v ≡ k)

-- The cell was allocated, and freed.
abbrev pub IsFreed : List Cell → ℕ → Type 0
IsFreed cells h = IsSomeAnd (slice_get cells h) (λ c. IsTrue c.freed)

abbrev pub is_freed : Option Cell → Bool
is_freed None = false
is_freed (Some c) = c.freed

-- One cell is changed, and all others stay.
abbrev pub changed : (Cell → Cell) → List Cell → ℕ → List Cell
changed change [] h = []
changed change (c ∷ cells) zero = change c ∷ cells
changed change (c ∷ cells) (suc h) = c ∷ changed change cells h

-- A new cell is the last. It isn't freed.
abbrev pub allocated : List Cell → List Value → List Cell
allocated cells words = cells ++ record { words = words; freed = false } ∷ []

-- One word of one cell is another.
abbrev pub written : List Cell → ℕ → ℕ → Value → List Cell
written cells h at v = changed (λ c. record c { words = slice_set c.words at v }) cells h

-- One cell is freed, with its words as they are.
abbrev pub released : List Cell → ℕ → List Cell
released cells h = changed (λ c. record c { freed = true }) cells h
