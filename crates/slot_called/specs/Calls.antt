-- What a call asks for, and what it comes to.
--
-- A memory stands for many slots, which differ in what no code keeps. Over one of them the call doesn't fail, and what is
-- answered comes about over each of them over which it doesn't.
use Rattle.std.specs.Prelude.{◌≡◌, ◌≢◌, ◌+◌, ℕ, Bool, List, ◌++◌, map, length, nat_le, Result, Ok, Err, ℤ, if◌then◌else◌}
use Rattle.type_definitions.specs.Types.{Table}
use Rattle.machine.specs.Evaluate.{StorageError}
use Rattle.machine.specs.States.{Leak, stack_words}
use Rattle.slot_heap.specs.Heaps.{Heap}
use Rattle.run_codes.specs.Codes.{Sub, Actual}
use Rattle.run_codes.specs.Flat.{Given, Raises}
use Rattle.run_codes.specs.Points.{Passed}
use Rattle.code_rows.specs.declared.stop.Stop.{Stop}
use Rattle.code_rows.specs.declared.stop.Stop.TheVariants as stop
use Rattle.handled_runs.specs.Slots.{Slots}
use Rattle.handled_steps.specs.Steps.{Passing, Passes, Stopping, Failing, PassesAll}
use Rattle.slot_memory.specs.Memory.{Kept, Ghosts, Stands, Shows, slots, elsewhere}
use Rattle.slot_frames.specs.Stacks.{Stacked}
use Rattle.slot_formals.specs.slot_calls.declared.actuals.Pass.{Pass}
use Rattle.slot_formals.specs.slot_calls.Calls.{passed_of, IsStopped, AnswersAll}
use Rattle.slot_entries.specs.Entries.{entered_kept, entered_stacked}
use Rattle.slot_formals.specs.Formals.{Begun, framed, returned}

-- ---- actuals

-- There is room for the words of a frame beside so many.
abbrev pub has_room : Sub → ℕ → Bool
has_room sub words = nat_le (sub.words + words) stack_words

abbrev pub tested : Sub → ℕ → List Passed → Slots → Passing
tested sub words passed s = if has_room sub words then Passes passed s else Stopping (Raises StorageError) s

abbrev pub on_passes : Passing → (List Passed → Slots → Passing) → Passing
on_passes (Passes passed s) f = f passed s
on_passes (Stopping x s) f = Stopping x s
on_passes Failing f = Failing

-- The actuals are passed, and there is room for the frame.
abbrev pub PassesTested : Table → Sub → ℕ → List Actual → Slots → Passing → Type 0
PassesTested table sub words actuals s r = (g : Passing) × PassesAll table actuals s g × (r ≡ on_passes g (tested sub words))

pub record PassedTested {R U : Type 0} (Means : R → Heap → Type 0) (before : Kept R) (table : Table) (sub : Sub) (words : ℕ) (actuals : List Actual) (r : Result U Stop) (ps : List Passed) (now : Kept R)
    : Type 0 where
  pub passed :
      (g : Ghosts) → Stands Means before g → (PassesTested table sub words actuals (slots before g) Failing → ⊥)
      → AnswersAll Means (PassesTested table sub words actuals (slots before g)) r ps now

-- ---- calls

-- The actuals don't fail, and with what they pass the frame begins.
pub record CanCall (table : Table) (sub : Sub) (words : ℕ) (actuals : List Actual) (s : Slots) : Type 0 where
  pub passes : PassesTested table sub words actuals s Failing → ⊥
  pub begins : (passed : List Passed) (here : Slots) → PassesTested table sub words actuals s (Passes passed here) → (b : Begun) × (framed table sub passed here ≡ Given b)

pub record Callable {R : Type 0} (Means : R → Heap → Type 0) (m : Kept R) (table : Table) (sub : Sub) (words : ℕ) (actuals : List Actual) : Type 0 where
  pub ghosts : Ghosts
  pub stands : Stands Means m ghosts
  pub can : CanCall table sub words actuals (slots m ghosts)

-- What is passed, and the memory above which the frame begins; the memory with the values of the formals; and what is
-- kept where the frame runs, and the frame that ran goes on at the point n then. The values that wait from the number k
-- on are gone.
pub record IsCalled {R : Type 0} (Means : R → Heap → Type 0) (s : Slots) (before : Kept R) (table : Table) (sub : Sub) (words : ℕ) (actuals : List Actual) (frames : Stacked) (k n : ℕ)
    (found all : List Leak) (now : Kept R) (stacked : Stacked)
    : Type 0 where
  pub hand : List ℤ
  pub passes : List Pass
  pub here : Slots
  pub may : PassesTested table sub words actuals s (Passes (map (passed_of hand) passes) here)
  pub above : Kept R
  pub stands : Shows Means above here
  pub begun : Begun
  pub is : framed table sub (map (passed_of hand) passes) here ≡ Given begun
  pub kept : Kept R
  pub shows : Shows Means kept begun.memory
  pub same : elsewhere kept ≡ elsewhere before
  pub told : all ≡ found ++ begun.leaks
  pub now_is : now ≡ entered_kept frames k (length above.stack) kept
  pub stacked_is : stacked ≡ entered_stacked frames sub k n (length above.stack) (returned table 0 sub.formals passes)

-- Nothing is told where there is too little memory.
abbrev pub Calls : {R U : Type 0} → (R → Heap → Type 0) → Slots → Kept R → Table → Sub → ℕ → List Actual → Result U Stop → Stacked → ℕ → ℕ → List Leak → List Leak → Kept R → Stacked → Type 0
Calls Means s before table sub words actuals (Ok u) frames k n found all now stacked = IsCalled Means s before table sub words actuals frames k n found all now stacked
Calls Means s before table sub words actuals (Err x) frames k n found all now stacked = x ≢ stop.Memory → IsStopped Means (PassesTested table sub words actuals s) x now

pub record Calling {R U : Type 0} (Means : R → Heap → Type 0) (before : Kept R) (table : Table) (sub : Sub) (words : ℕ) (actuals : List Actual) (r : Result U Stop) (frames : Stacked) (k n : ℕ)
    (found all : List Leak) (now : Kept R) (stacked : Stacked)
    : Type 0 where
  pub calls : (g : Ghosts) → Stands Means before g → CanCall table sub words actuals (slots before g) → Calls Means (slots before g) before table sub words actuals r frames k n found all now stacked
