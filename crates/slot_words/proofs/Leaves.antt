-- Expressions without parts, and those whose index is 0.
use Rattle.std.proofs.Common.{◌≡◌, refl, sym, ap, ◌∙◌, subst, arith, ℕ, ◌+◌, false, ℤ, Ok, drop, slice_get}
use Rattle.slot_heap.specs.Heaps.{Heap}
use Rattle.run_values.specs.Items.{at_end}
use Rattle.run_codes.specs.Codes.{Number, Local, Global, Waiting, EndOfFile}
use Rattle.run_codes.specs.Lowered.{no_index}
use Rattle.run_codes.specs.Flat.{Given, found, is_broken, truth}
use Rattle.handled_runs.specs.Slots.{word}
use Rattle.slot_memory.specs.Memory.{Kept}
use Rattle.slot_words.specs.Reading.{Reads, Gives}

pub plus_zero : (n : ℕ) → n + 0 ≡ n
plus_zero n = omega arith

module _ {R : Type 0} (Means : R → Heap → Type 0) (m : Kept R) where
  pub number_gives : (v : ℤ) → Gives Means m (Number v) (Ok v)
  unfolding word
  number_gives v = record { gives = λ g stands whole. refl }

  pub number_as : (v w : ℤ) → w ≡ v → Gives Means m (Number v) (Ok w)
  unfolding word
  number_as v w e = record { gives = λ g stands whole. ap Given (sym e) }

  pub local_stands : (at : ℕ) → Reads Means m (Local at no_index) → is_broken (found (slice_get m.stack (m.base + at))) ≡ false
  unfolding word
  local_stands at is = subst (λ n. is_broken (found (slice_get m.stack n)) ≡ false) (plus_zero (m.base + at)) is.whole

  pub local_given : (at : ℕ) (w : ℤ) → found (slice_get m.stack (m.base + at)) ≡ Given w → Gives Means m (Local at no_index) (Ok w)
  unfolding word
  local_given at w e = record { gives = λ g stands whole. ap (λ n. found (slice_get m.stack n)) (plus_zero (m.base + at)) ∙ e }

  pub global_stands : (at : ℕ) → Reads Means m (Global at no_index) → is_broken (found (slice_get m.stack at)) ≡ false
  unfolding word
  global_stands at is = subst (λ n. is_broken (found (slice_get m.stack n)) ≡ false) (plus_zero at) is.whole

  pub global_given : (at : ℕ) (w : ℤ) → found (slice_get m.stack at) ≡ Given w → Gives Means m (Global at no_index) (Ok w)
  unfolding word
  global_given at w e = record { gives = λ g stands whole. ap (λ n. found (slice_get m.stack n)) (plus_zero at) ∙ e }

  pub waiting_stands : (at : ℕ) → Reads Means m (Waiting at) → is_broken (found (slice_get (drop m.taken m.waits) at)) ≡ false
  unfolding word
  waiting_stands at is = is.whole

  pub waiting_given : (at : ℕ) (w : ℤ) → found (slice_get (drop m.taken m.waits) at) ≡ Given w → Gives Means m (Waiting at) (Ok w)
  unfolding word
  waiting_given at w e = record { gives = λ g stands whole. e }

  pub end_given : (w : ℤ) → w ≡ truth (at_end (drop m.read m.input)) → Gives Means m EndOfFile (Ok w)
  unfolding word
  end_given w e = record { gives = λ g stands whole. ap Given (sym e) }
