-- What is asked where points change a memory or read it, and what is answered.
--
-- A memory stands for many slots, which differ in what no code keeps. In one of them nothing is broken, and what is
-- answered is so in each of them in which nothing is. Nothing is told where there is too little memory.
use Rattle.std.specs.Prelude.{◌≡◌, ◌≢◌, ◌++◌, ℕ, List, false, Result, Ok, Err}
use Rattle.slot_heap.specs.Heaps.{Heap}
use Rattle.run_codes.specs.Flat.{Got, Given, Stops, and_then, is_broken}
use Rattle.code_rows.specs.declared.stop.Stop.{Stop}
use Rattle.code_rows.specs.declared.stop.Stop.TheVariants as stop
use Rattle.code_rows.specs.Stops.{stop_of, shown}
use Rattle.handled_runs.specs.Slots.{Slots}
use Rattle.slot_memory.specs.Memory.{Kept, Ghosts, Stands, Shows, slots}

pub record Whole {R A : Type 0} (Means : R → Heap → Type 0) (m : Kept R) (f : Slots → Got A) : Type 0 where
  pub ghosts : Ghosts
  pub stands : Stands Means m ghosts
  pub whole : is_broken (f (slots m ghosts)) ≡ false

-- What is read.
pub record Found {R A : Type 0} (Means : R → Heap → Type 0) (m : Kept R) (f : Slots → Got A) (r : Result A Stop) : Type 0 where
  pub found : (g : Ghosts) → Stands Means m g → is_broken (f (slots m g)) ≡ false → f (slots m g) ≡ shown r

-- The memory stands for other slots, and this is answered.
pub record With (A : Type 0) : Type 0 where
  pub memory : Slots
  pub answer : A

pub record IsDone {R A : Type 0} (Means : R → Heap → Type 0) (got : Got (With A)) (a : A) (m : Kept R) : Type 0 where
  pub after : Slots
  pub is : got ≡ Given (record { memory = after; answer = a })
  pub shows : Shows Means m after

-- It stops, and nothing is changed.
pub record IsStopped {R A : Type 0} (got : Got A) (x : Stop) (before now : Kept R) : Type 0 where
  pub stops : got ≡ Stops (stop_of x)
  pub same : now ≡ before

abbrev pub Does : {R A : Type 0} → (R → Heap → Type 0) → Kept R → Got (With A) → Result A Stop → Kept R → Type 0
Does Means before got (Ok a) now = IsDone Means got a now
Does Means before got (Err x) now = x ≢ stop.Memory → IsStopped got x before now

pub record Done {R A : Type 0} (Means : R → Heap → Type 0) (before : Kept R) (f : Slots → Got (With A)) (r : Result A Stop) (now : Kept R) : Type 0 where
  pub done : (g : Ghosts) → Stands Means before g → is_broken (f (slots before g)) ≡ false → Does Means before (f (slots before g)) r now

-- Bytes that are got come after others, but where there is too little memory.
abbrev pub Adds : {U : Type 0} → Got (List ℕ) → Result U Stop → List ℕ → List ℕ → Type 0
Adds got (Ok u) old new = and_then got (λ more. Given (old ++ more)) ≡ Given new
Adds got (Err x) old new = x ≢ stop.Memory → got ≡ Stops (stop_of x)

pub record Added {R U : Type 0} (Means : R → Heap → Type 0) (m : Kept R) (f : Slots → Got (List ℕ)) (r : Result U Stop) (old new : List ℕ) : Type 0 where
  pub added : (g : Ghosts) → Stands Means m g → is_broken (f (slots m g)) ≡ false → Adds (f (slots m g)) r old new
