-- What is asked of a memory where words are read, and what is answered.
--
-- A memory stands for many slots, which differ in what no code keeps. What is read is asked to be there in one of them,
-- and what is answered is so in each of them where it is there.
use Rattle.std.specs.Prelude.{◌≡◌, ℕ, false, Result, ℤ, unsigned_abs}
use Rattle.run_values.specs.declared.value.Kind.{Kind}
use Rattle.slot_heap.specs.Heaps.{Heap}
use Rattle.run_codes.specs.Codes.{Code, Place}
use Rattle.run_codes.specs.Flat.{is_broken}
use Rattle.code_rows.specs.declared.stop.Stop.{Stop}
use Rattle.code_rows.specs.Stops.{shown}
use Rattle.handled_runs.specs.Slots.{word, indexes, behind, cell_spot, spot}
use Rattle.slot_memory.specs.declared.spot.Spot.{Spot}
use Rattle.slot_memory.specs.Spots.{shown_spot}
use Rattle.slot_memory.specs.Memory.{Kept, Ghosts, slots, Stands}

-- The word of an expression.
pub record Reads {R : Type 0} (Means : R → Heap → Type 0) (m : Kept R) (c : Code) : Type 0 where
  pub ghosts : Ghosts
  pub stands : Stands Means m ghosts
  pub whole : is_broken (word (slots m ghosts) c) ≡ false

pub record Gives {R : Type 0} (Means : R → Heap → Type 0) (m : Kept R) (c : Code) (r : Result ℤ Stop) : Type 0 where
  pub gives : (g : Ghosts) → Stands Means m g → is_broken (word (slots m g) c) ≡ false → word (slots m g) c ≡ shown r

-- The indexes of a name.
pub record ReadsNames {R : Type 0} (Means : R → Heap → Type 0) (m : Kept R) (c : Code) : Type 0 where
  pub ghosts : Ghosts
  pub stands : Stands Means m ghosts
  pub whole : is_broken (indexes (slots m ghosts) c) ≡ false

pub record GivesNames {R : Type 0} (Means : R → Heap → Type 0) (m : Kept R) (c : Code) (r : Result ℤ Stop) : Type 0 where
  pub gives : (g : Ghosts) → Stands Means m g → is_broken (indexes (slots m g) c) ≡ false → indexes (slots m g) c ≡ shown r

-- A word in the cell that an access value designates.
pub record ReadsBehind {R : Type 0} (Means : R → Heap → Type 0) (m : Kept R) (at : ℕ) (k : Kind) (w : ℤ) : Type 0 where
  pub ghosts : Ghosts
  pub stands : Stands Means m ghosts
  pub whole : is_broken (behind (slots m ghosts) at k w) ≡ false

pub record GivesBehind {R : Type 0} (Means : R → Heap → Type 0) (m : Kept R) (at : ℕ) (k : Kind) (w : ℤ) (r : Result ℤ Stop) : Type 0 where
  pub gives : (g : Ghosts) → Stands Means m g → is_broken (behind (slots m g) at k w) ≡ false → behind (slots m g) at k w ≡ shown r

-- A place in such a cell.
pub record ReadsCell {R : Type 0} (Means : R → Heap → Type 0) (m : Kept R) (at : ℕ) (w : ℤ) : Type 0 where
  pub ghosts : Ghosts
  pub stands : Stands Means m ghosts
  pub whole : is_broken (cell_spot (slots m ghosts) at (unsigned_abs w)) ≡ false

pub record GivesCell {R : Type 0} (Means : R → Heap → Type 0) (m : Kept R) (at : ℕ) (w : ℤ) (r : Result Spot Stop) : Type 0 where
  pub gives : (g : Ghosts) → Stands Means m g → is_broken (cell_spot (slots m g) at (unsigned_abs w)) ≡ false → cell_spot (slots m g) at (unsigned_abs w) ≡ shown_spot r

-- Where a place is.
pub record ReadsSpot {R : Type 0} (Means : R → Heap → Type 0) (m : Kept R) (p : Place) : Type 0 where
  pub ghosts : Ghosts
  pub stands : Stands Means m ghosts
  pub whole : is_broken (spot (slots m ghosts) p) ≡ false

pub record GivesSpot {R : Type 0} (Means : R → Heap → Type 0) (m : Kept R) (p : Place) (r : Result Spot Stop) : Type 0 where
  pub gives : (g : Ghosts) → Stands Means m g → is_broken (spot (slots m g) p) ≡ false → spot (slots m g) p ≡ shown_spot r
