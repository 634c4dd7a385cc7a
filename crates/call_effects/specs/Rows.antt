-- Rows of numbers, and what is put into them for one subprogram after the other.
use Rattle.std.specs.Prelude.{◌≡◌, ◌<◌, ◌⊎◌, ℕ, Bool, true, List, [], length, get_or}
use Rattle.spark_base.specs.Lists.{Has}

-- A row; past the end, an empty one.
abbrev pub row : List (List ℕ) → ℕ → List ℕ
row rows a = get_or rows a []

-- There are n rows, all empty.
pub record AreEmpty (n : ℕ) (rows : List (List ℕ)) : Type 0 where
  pub count : length rows ≡ n
  pub none : (a : ℕ) → row rows a ≡ []

-- p was put into the rows that are marked, where it may have been, and nothing else happened.
pub record IsFiled (p : ℕ) (marked : ℕ → Bool) (old new : List (List ℕ)) : Type 0 where
  pub count : length new ≡ length old
  pub keeps : (a b : ℕ) → Has (row old a) b → Has (row new a) b
  pub comes : (a : ℕ) → a < length old → marked a ≡ true → Has (row new a) p
  pub only : (a b : ℕ) → Has (row new a) b → Has (row old a) b ⊎ ((b ≡ p) × (marked a ≡ true))

-- The rows have, of the numbers below a count, exactly those by which they are marked.
pub record AreMarked (size count : ℕ) (marked : ℕ → ℕ → Bool) (rows : List (List ℕ)) : Type 0 where
  pub sized : length rows ≡ size
  pub comes : (p a : ℕ) → p < count → a < size → marked p a ≡ true → Has (row rows a) p
  pub only : (p a : ℕ) → Has (row rows a) p → (p < count) × (marked p a ≡ true)
