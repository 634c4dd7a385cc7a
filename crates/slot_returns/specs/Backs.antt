-- What is copied back when a call ends, and what is answered.
use Rattle.std.specs.Prelude.{◌≡◌, ◌≢◌, ◌≤◌, ℕ, ◌+◌, false, List, [], ◌∷◌, drop, length, Result, Ok, Err, ℤ, if◌then◌else◌}
use Rattle.type_definitions.specs.Types.{Table}
use Rattle.slot_heap.specs.Heaps.{Heap}
use Rattle.run_codes.specs.Flat.{Got, Given, Stops, Broken, Stop, Spot, InStack, InCell, and_then, is_broken, constraint, kinds}
use Rattle.run_codes.specs.Points.{Return, fits}
use Rattle.code_rows.specs.declared.stop.Stop.{Stop as Cause}
use Rattle.code_rows.specs.declared.stop.Stop.TheVariants as cause
use Rattle.code_rows.specs.Stops.{stop_of}
use Rattle.handled_runs.specs.Slots.{Slots, front, held}
use Rattle.handled_runs.specs.Changes.{stored}
use Rattle.handled_steps.specs.States.{given_up}
use Rattle.handled_steps.specs.Steps.{in_stack}
use Rattle.slot_memory.specs.Memory.{Kept, Ghosts, Stands, Shows, slots}

-- ---- one formal

-- What it holds is stored, if it fits.
abbrev pub copied : Table → Return → Slots → Got Slots
copied table r s =
    and_then (held s (in_stack s r.at) (kinds table r.from)) (λ zs. if fits table r.of zs then stored s r.to (kinds table r.of) zs else Stops constraint)

-- What it holds in a frame that begins at an index of the stack, if it fits.
abbrev pub fitting : Table → Return → ℕ → List ℤ → Got (List ℤ)
fitting table r base stack =
    and_then (front (kinds table r.from) (drop (base + r.at) stack)) (λ zs. if fits table r.of zs then Given zs else Stops constraint)

-- It is at hand, or why it isn't.
abbrev pub Takes : {U : Type 0} → Got (List ℤ) → Result U Cause → List ℤ → Type 0
Takes got (Ok u) hand = got ≡ Given hand
Takes got (Err x) hand = x ≢ cause.Memory → got ≡ Stops (stop_of x)

-- So many words at a spot lie below an index of the stack, or in a cell.
abbrev pub IsBelow : Spot → ℕ → ℕ → Type 0
IsBelow (InStack n) count base = n + count ≤ base
IsBelow (InCell h o) count base = Unit {0}

-- It fits, and is copied back to a place out of its frame.
pub record IsFit (table : Table) (r : Return) (base : ℕ) (stack : List ℤ) : Type 0 where
  pub words : List ℤ
  pub held : fitting table r base stack ≡ Given words
  pub below : IsBelow r.to (length words) base

abbrev pub Checks : {U : Type 0} → Table → Return → ℕ → List ℤ → Result U Cause → Type 0
Checks table r base stack (Ok u) = IsFit table r base stack
Checks table r base stack (Err x) = x ≢ cause.Memory → fitting table r base stack ≡ Stops (stop_of x)

-- It is stored, and the memory stands for the slots then.
pub record IsStored {R : Type 0} (Means : R → Heap → Type 0) (x : Got Slots) (now : Kept R) : Type 0 where
  pub after : Slots
  pub is : x ≡ Given after
  pub shows : Shows Means now after

pub record IsCopied {R : Type 0} (Means : R → Heap → Type 0) (before : Kept R) (change : Slots → Got Slots) (now : Kept R) : Type 0 where
  pub stored : (g : Ghosts) → Stands Means before g → is_broken (change (slots before g)) ≡ false → IsStored Means (change (slots before g)) now

-- It stops, and nothing is changed.
pub record IsStopped {R : Type 0} (Means : R → Heap → Type 0) (before : Kept R) (change : Slots → Got Slots) (x : Cause) (now : Kept R) : Type 0 where
  pub stops : (g : Ghosts) → Stands Means before g → is_broken (change (slots before g)) ≡ false → change (slots before g) ≡ Stops (stop_of x)
  pub same : now ≡ before

-- There is the changed memory, but where there is too little memory.
abbrev pub Copies : {R U : Type 0} → (R → Heap → Type 0) → Kept R → (Slots → Got Slots) → Result U Cause → Kept R → Type 0
Copies Means before change (Ok u) now = IsCopied Means before change now
Copies Means before change (Err x) now = x ≢ cause.Memory → IsStopped Means before change x now

-- ---- all formals

-- The memory after them, or where one of them stops.
pub data Copying : Type 0 where
  Copied : Slots → Copying
  Stopped : Stop → Slots → Copying
  Missing : Copying

abbrev pub on_copied : Slots → Got Slots → (Slots → Copying) → Copying
on_copied s (Given n) f = f n
on_copied s (Stops x) f = Stopped x s
on_copied s Broken f = Missing

abbrev pub all_copied : Table → List Return → Slots → Copying
all_copied table [] s = Copied s
all_copied table (r ∷ rest) s = on_copied s (copied table r s) (all_copied table rest)

-- Nothing that is asked for is missing.
pub record CanCopy {R : Type 0} (Means : R → Heap → Type 0) (m : Kept R) (table : Table) (returns : List Return) : Type 0 where
  pub ghosts : Ghosts
  pub stands : Stands Means m ghosts
  pub whole : all_copied table returns (slots m ghosts) ≢ Missing

-- All of them fit.
pub record CanStore {R : Type 0} (Means : R → Heap → Type 0) (m : Kept R) (table : Table) (returns : List Return) : Type 0 where
  pub ghosts : Ghosts
  pub stands : Stands Means m ghosts
  pub after : Slots
  pub is : all_copied table returns (slots m ghosts) ≡ Copied after

-- It comes to this, and the memory stands for the slots then.
pub record ComesTo {R : Type 0} (Means : R → Heap → Type 0) (x : Copying) (f : Slots → Copying) (now : Kept R) : Type 0 where
  pub after : Slots
  pub is : x ≡ f after
  pub shows : Shows Means now after

-- All of them are stored.
pub record StoresAll {R : Type 0} (Means : R → Heap → Type 0) (before : Kept R) (table : Table) (returns : List Return) (now : Kept R) : Type 0 where
  pub stored : (g : Ghosts) → Stands Means before g → all_copied table returns (slots before g) ≢ Missing → ComesTo Means (all_copied table returns (slots before g)) Copied now

-- One of them stops it. What a step that ends leaves is the same as if none were stored.
pub record StopsAt (x : Copying) (stop : Stop) (before : Slots) : Type 0 where
  pub after : Slots
  pub is : x ≡ Stopped stop after
  pub left : (s : Slots) → given_up s after ≡ given_up s before

-- Whatever no code keeps, all of them fit, or one stops it.
abbrev pub ChecksAll : {R U : Type 0} → Kept R → Table → List Return → Result U Cause → Type 0
ChecksAll m table returns (Ok u) = (g : Ghosts) → all_copied table returns (slots m g) ≢ Missing → (after : Slots) × (all_copied table returns (slots m g) ≡ Copied after)
ChecksAll m table returns (Err x) = x ≢ cause.Memory → (g : Ghosts) → all_copied table returns (slots m g) ≢ Missing → StopsAt (all_copied table returns (slots m g)) (stop_of x) (slots m g)

-- One stops it, and none is stored.
pub record IsHalted {R : Type 0} (before : Kept R) (table : Table) (returns : List Return) (g : Ghosts) (x : Cause) (now : Kept R) : Type 0 where
  pub stops : StopsAt (all_copied table returns (slots before g)) (stop_of x) (slots before g)
  pub same : now ≡ before

-- All of them are stored or none is, but where there is too little memory.
abbrev pub Comes : {R U : Type 0} → (R → Heap → Type 0) → Kept R → Table → List Return → Ghosts → Result U Cause → Kept R → Type 0
Comes Means before table returns g (Ok u) now = ComesTo Means (all_copied table returns (slots before g)) Copied now
Comes Means before table returns g (Err x) now = x ≢ cause.Memory → IsHalted before table returns g x now

pub record CopiesAll {R U : Type 0} (Means : R → Heap → Type 0) (before : Kept R) (table : Table) (returns : List Return) (r : Result U Cause) (now : Kept R) : Type 0 where
  pub comes : (g : Ghosts) → Stands Means before g → all_copied table returns (slots before g) ≢ Missing → Comes Means before table returns g r now
