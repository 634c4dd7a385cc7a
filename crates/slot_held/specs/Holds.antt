-- What there is where the result of a function waits in the frame of its caller.
use Rattle.std.specs.Prelude.{◌≡◌, ◌≢◌, ℕ, ◌-◌, List, [], ◌∷◌, ◌++◌, length, take, false, Result, Ok, Err, ℤ, nat_lt, if◌then◌else◌}
use Rattle.type_definitions.specs.Types.{Table}
use Rattle.slot_heap.specs.Heaps.{Heap}
use Rattle.run_codes.specs.Codes.{Fill}
use Rattle.run_codes.specs.Flat.{Given, is_broken}
use Rattle.code_rows.specs.declared.stop.Stop.{Stop}
use Rattle.code_rows.specs.declared.stop.Stop.TheVariants as stop
use Rattle.handled_runs.specs.Slots.{Slots}
use Rattle.handled_runs.specs.Changes.{settled}
use Rattle.handled_runs.specs.Values.{Gives, Fails, Fills}
use Rattle.slot_memory.specs.Memory.{Kept, Ghosts, Stands, Shows, slots, elsewhere}
use Rattle.slot_frames.specs.declared.rows.Wait.{Wait}
use Rattle.slot_frames.specs.Stacks.{Stacked}
use Rattle.slot_frames.specs.Frames.{word_at}
use Rattle.slot_hand.specs.Outcomes.{IsEnded}

-- ---- rows

-- Where the words of the values from the number k on begin.
abbrev pub first_taken : {R : Type 0} → Stacked → ℕ → Kept R → ℕ
first_taken frames k m = word_at frames.waits k (length m.waits)

-- The memory without the values that wait from the number k on, where some words wait after the others.
abbrev pub with_words : {R : Type 0} → Stacked → ℕ → Kept R → List ℤ → Kept R
with_words frames k m words = record m { waits = take (first_taken frames k m) m.waits ++ words; taken = first_taken frames k m }

-- The values that wait then.
abbrev pub all_waits : {R : Type 0} → Stacked → ℕ → Kept R → ℕ → List Wait
all_waits frames k m of = take k frames.waits ++ record { of = of; first = length (take (first_taken frames k m) m.waits) } ∷ []

-- All of them are those of frames that wait, and the point n is the next one.
abbrev pub with_value : {R : Type 0} → Stacked → ℕ → Kept R → ℕ → ℕ → Stacked
with_value frames k m of n = record frames {
  frame = record frames.frame { waits = length (all_waits frames k m of); next = n };
  waits = all_waits frames k m of;
}

-- A value of a type waits for the caller, and no other one waits in the frame that runs.
pub record Waits {R : Type 0} (m : Kept R) (frames : Stacked) (k of : ℕ) (words : List ℤ) (n : ℕ) (kept : Kept R) (stacked : Stacked) : Type 0 where
  pub none : frames.frame.waits ≡ k
  pub kept_is : kept ≡ with_words frames k m words
  pub stacked_is : stacked ≡ with_value frames k m of n

-- ---- what is made

-- The value doesn't fail, and what it moves is there.
pub record Holdable {R : Type 0} (Means : R → Heap → Type 0) (m : Kept R) (table : Table) (v : Fill) : Type 0 where
  pub ghosts : Ghosts
  pub stands : Stands Means m ghosts
  pub fills : Fills table v (slots m ghosts) Fails → ⊥
  pub settles : (zs : List ℤ) (t : Slots) → Fills table v (slots m ghosts) (Gives zs t) → is_broken (settled t) ≡ false

-- The value is made, what it moves is gone, and it waits.
pub record IsHeld {R : Type 0} (Means : R → Heap → Type 0) (s : Slots) (before : Kept R) (table : Table) (v : Fill) (frames : Stacked) (k of n : ℕ) (now : Kept R) (stacked : Stacked) : Type 0 where
  pub words : List ℤ
  pub made : Slots
  pub may : Fills table v s (Gives words made)
  pub after : Slots
  pub settles : settled made ≡ Given after
  pub kept : Kept R
  pub shows : Shows Means kept after
  pub same : elsewhere kept ≡ elsewhere before
  pub waits : Waits kept frames k of words n now stacked

-- Nothing is told where there is too little memory.
abbrev pub Holds : {R U : Type 0} → (R → Heap → Type 0) → Slots → Kept R → Table → Fill → Result U Stop → Stacked → ℕ → ℕ → ℕ → Kept R → Stacked → Type 0
Holds Means s before table v (Ok u) frames k of n now stacked = IsHeld Means s before table v frames k of n now stacked
Holds Means s before table v (Err x) frames k of n now stacked = x ≢ stop.Memory → IsEnded Means (Fills table v s) x now

pub record Holding {R U : Type 0} (Means : R → Heap → Type 0) (before : Kept R) (table : Table) (v : Fill) (r : Result U Stop) (frames : Stacked) (k of n : ℕ) (now : Kept R) (stacked : Stacked) : Type 0 where
  pub holds :
      (g : Ghosts) → Stands Means before g → (Fills table v (slots before g) Fails → ⊥)
      → ((zs : List ℤ) (t : Slots) → Fills table v (slots before g) (Gives zs t) → is_broken (settled t) ≡ false)
      → Holds Means (slots before g) before table v r frames k of n now stacked

-- ---- short circuits

-- The number of the value before the one with the number k, where that is one of the frame that runs, whose values
-- begin at a number.
abbrev pub number_before : ℕ → ℕ → ℕ
number_before waits k = if nat_lt waits k then k - 1 else k
