-- Words of the stack at an index.
use Rattle.std.proofs.Common.{◌≡◌, sym, subst, ℕ, ◌+◌, false, ℤ, unsigned_abs, Ok, Err, slice_get}
use Rattle.slot_heap.specs.Heaps.{Heap}
use Rattle.run_codes.specs.Codes.{Code, Local, Global}
use Rattle.run_codes.specs.Flat.{Given, found, is_broken}
use Rattle.code_rows.specs.declared.stop.Stop.{Stop}
use Rattle.code_rows.specs.Stops.{stop_of}
use Rattle.handled_runs.specs.Slots.{word}
use Rattle.slot_memory.specs.Memory.{Kept, slots}
use Rattle.slot_words.specs.Reading.{Reads, Gives}
use Rattle.slot_words.proofs.Wholes.{first_whole, next_whole, first_stops, next_gives}

-- ---- a word of the frame

module _ {R : Type 0} (Means : R → Heap → Type 0) (m : Kept R) (at : ℕ) (i : Code) where
  pub local_index : Reads Means m (Local at i) → Reads Means m i
  unfolding word
  local_index is = record { ghosts = is.ghosts; stands = is.stands; whole = first_whole (word (slots m is.ghosts) i) _ is.whole }

  pub local_stops : (s : Stop) → Gives Means m i (Err s) → Gives Means m (Local at i) (Err s)
  unfolding word
  local_stops s is = record { gives = λ g stands whole. first_stops (word (slots m g) i) _ (stop_of s) (is.gives g stands) whole }

  pub local_there : (x : ℤ) → Reads Means m (Local at i) → Gives Means m i (Ok x) → is_broken (found (slice_get m.stack (m.base + at + unsigned_abs x))) ≡ false
  unfolding word
  local_there x is given = next_whole (word (slots m is.ghosts) i) (λ o. found (slice_get m.stack (m.base + at + unsigned_abs o))) x (given.gives is.ghosts is.stands) is.whole

  pub local_gives : (x y : ℤ) → Gives Means m i (Ok x) → found (slice_get m.stack (m.base + at + unsigned_abs x)) ≡ Given y → Gives Means m (Local at i) (Ok y)
  unfolding word
  local_gives x y given e = record {
    gives = λ g stands whole.
        next_gives (word (slots m g) i) (λ o. found (slice_get m.stack (m.base + at + unsigned_abs o))) x (Given y) (given.gives g stands) (λ there. e) whole;
  }

module _ {R : Type 0} (Means : R → Heap → Type 0) (m : Kept R) (at : ℕ) (i : Code) where
  pub local_at : (x u : ℤ) → Reads Means m (Local at i) → Gives Means m i (Ok x) → u ≡ x → is_broken (found (slice_get m.stack (m.base + at + unsigned_abs u))) ≡ false
  local_at x u is given e = subst (λ j. is_broken (found (slice_get m.stack (m.base + at + unsigned_abs j))) ≡ false) (sym e) (local_there Means m at i x is given)

pub ruleset local_rules = (local_index, local_stops, local_there, local_gives)

-- ---- a word of the package objects

module _ {R : Type 0} (Means : R → Heap → Type 0) (m : Kept R) (at : ℕ) (i : Code) where
  pub global_index : Reads Means m (Global at i) → Reads Means m i
  unfolding word
  global_index is = record { ghosts = is.ghosts; stands = is.stands; whole = first_whole (word (slots m is.ghosts) i) _ is.whole }

  pub global_stops : (s : Stop) → Gives Means m i (Err s) → Gives Means m (Global at i) (Err s)
  unfolding word
  global_stops s is = record { gives = λ g stands whole. first_stops (word (slots m g) i) _ (stop_of s) (is.gives g stands) whole }

  pub global_there : (x : ℤ) → Reads Means m (Global at i) → Gives Means m i (Ok x) → is_broken (found (slice_get m.stack (at + unsigned_abs x))) ≡ false
  unfolding word
  global_there x is given = next_whole (word (slots m is.ghosts) i) (λ o. found (slice_get m.stack (at + unsigned_abs o))) x (given.gives is.ghosts is.stands) is.whole

  pub global_gives : (x y : ℤ) → Gives Means m i (Ok x) → found (slice_get m.stack (at + unsigned_abs x)) ≡ Given y → Gives Means m (Global at i) (Ok y)
  unfolding word
  global_gives x y given e = record {
    gives = λ g stands whole.
        next_gives (word (slots m g) i) (λ o. found (slice_get m.stack (at + unsigned_abs o))) x (Given y) (given.gives g stands) (λ there. e) whole;
  }

module _ {R : Type 0} (Means : R → Heap → Type 0) (m : Kept R) (at : ℕ) (i : Code) where
  pub global_at : (x u : ℤ) → Reads Means m (Global at i) → Gives Means m i (Ok x) → u ≡ x → is_broken (found (slice_get m.stack (at + unsigned_abs u))) ≡ false
  global_at x u is given e = subst (λ j. is_broken (found (slice_get m.stack (at + unsigned_abs j))) ≡ false) (sym e) (global_there Means m at i x is given)

pub ruleset global_rules = (global_index, global_stops, global_there, global_gives)
