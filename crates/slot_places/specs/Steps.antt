-- What points do to values of any type and to cells, and the leak checks that fail: the parts of a step that need no
-- state beside them.
--
-- A memory stands for many slots, which differ in what no code keeps. In one of them nothing is broken, and what is
-- answered is so in each of them in which nothing is.
use Rattle.std.specs.Prelude.{◌≡◌, ◌≢◌, ◌⊎◌, ℕ, List, ◌++◌, false, Option, Result, Ok, Err, ℤ}
use Rattle.spark_base.specs.declared.position.Pos.{Pos}
use Rattle.type_definitions.specs.Types.{Table}
use Rattle.machine.specs.States.{Leak}
use Rattle.slot_heap.specs.Heaps.{Heap}
use Rattle.run_codes.specs.Codes.{Place, Fill}
use Rattle.run_codes.specs.Flat.{Got, Given, Stops, Spot, and_then, is_broken, kinds, default_words}
use Rattle.code_rows.specs.declared.stop.Stop.{Stop}
use Rattle.code_rows.specs.declared.stop.Stop.TheVariants as stop
use Rattle.code_rows.specs.Stops.{stop_of}
use Rattle.handled_runs.specs.Slots.{Slots}
use Rattle.handled_runs.specs.Changes.{stored, settled}
use Rattle.handled_runs.specs.Leaks.{leaks_at}
use Rattle.handled_runs.specs.Values.{Gives, Ends, Fails, Fills}
use Rattle.handled_runs.specs.Assigned.{Left, checked_at, assigned}
use Rattle.handled_runs.specs.Released.{named}
use Rattle.handled_steps.specs.Steps.{in_stack, put_words}
use Rattle.slot_memory.specs.Memory.{Kept, Ghosts, Stands, Shows, slots}

-- ---- a memory with leak checks

-- The leaks that are found come after others, and the memory stands for the slots then.
pub record IsLeft {R : Type 0} (Means : R → Heap → Type 0) (got : Got (Left Slots)) (old new : List Leak) (m : Kept R) : Type 0 where
  pub left : Left Slots
  pub is : got ≡ Given left
  pub appended : new ≡ old ++ left.leaks
  pub shows : Shows Means m left.memory

-- It stops, and nothing is changed.
pub record IsStopped {R : Type 0} (got : Got (Left Slots)) (x : Stop) (before now : Kept R) : Type 0 where
  pub stops : got ≡ Stops (stop_of x)
  pub same : now ≡ before

-- Nothing is told where there is too little memory.
abbrev pub Leaves : {R U : Type 0} → (R → Heap → Type 0) → Kept R → Got (Left Slots) → Result U Stop → List Leak → List Leak → Kept R → Type 0
Leaves Means before got (Ok u) old new now = IsLeft Means got old new now
Leaves Means before got (Err x) old new now = x ≢ stop.Memory → IsStopped got x before now

pub record Leavable {R : Type 0} (Means : R → Heap → Type 0) (m : Kept R) (f : Slots → Got (Left Slots)) : Type 0 where
  pub ghosts : Ghosts
  pub stands : Stands Means m ghosts
  pub whole : is_broken (f (slots m ghosts)) ≡ false

pub record Leaving {R U : Type 0} (Means : R → Heap → Type 0) (before : Kept R) (f : Slots → Got (Left Slots)) (r : Result U Stop) (old new : List Leak) (now : Kept R) : Type 0 where
  pub leaves : (g : Ghosts) → Stands Means before g → is_broken (f (slots before g)) ≡ false → Leaves Means before (f (slots before g)) r old new now

-- ---- the ends of scopes

-- Leak checks of an object in the frame, which then is without a value.
abbrev pub ended_scope : Table → ℕ → ℕ → Pos → Slots → Got (Left Slots)
ended_scope table at of p s =
    and_then (leaks_at table s (in_stack s at) of p)
    (λ leaks. and_then (put_words s at (default_words table of)) (λ t. Given (record { leaks = leaks; memory = t })))

-- ---- assignments

-- What was moved is gone; leak checks of a spot, where there are any; then a store of words of a type.
abbrev pub stored_leaking : Table → ℕ → List ℤ → Slots → Spot → List Leak → Got (Left Slots)
stored_leaking table of zs k q leaks = and_then (stored k q (kinds table of) zs) (λ t. Given (record { leaks = leaks; memory = t }))

abbrev pub stored_checked : Table → Spot → ℕ → Option Pos → List ℤ → Slots → Got (Left Slots)
stored_checked table q of checks zs k = and_then (checked_at table k q of checks) (stored_leaking table of zs k q)

abbrev pub stored_settled : Table → Spot → ℕ → Option Pos → List ℤ → Slots → Got (Left Slots)
stored_settled table q of checks zs s = and_then (settled s) (stored_checked table q of checks zs)

-- A value is made, and its words go to a place.
pub record Assignable {R : Type 0} (Means : R → Heap → Type 0) (m : Kept R) (table : Table) (p : Place) (v : Fill) (of : ℕ) (checks : Option Pos) : Type 0 where
  pub ghosts : Ghosts
  pub stands : Stands Means m ghosts
  pub fills : Fills table v (slots m ghosts) Fails → ⊥
  pub assigns : (zs : List ℤ) (t : Slots) → Fills table v (slots m ghosts) (Gives zs t) → is_broken (assigned table p of checks zs t) ≡ false

pub record IsAssigned {R : Type 0} (Means : R → Heap → Type 0) (s : Slots) (table : Table) (p : Place) (v : Fill) (of : ℕ) (checks : Option Pos) (old new : List Leak) (m : Kept R) : Type 0 where
  pub words : List ℤ
  pub after : Slots
  pub may : Fills table v s (Gives words after)
  pub left : IsLeft Means (assigned table p of checks words after) old new m

-- The value isn't made, or there is no place.
pub record IsRefused {R : Type 0} (Means : R → Heap → Type 0) (s : Slots) (table : Table) (p : Place) (v : Fill) (of : ℕ) (checks : Option Pos) (x : Stop) (m : Kept R) : Type 0 where
  pub after : Slots
  pub shows : Shows Means m after
  pub stops :
      Fills table v s (Ends (stop_of x) after) ⊎ ((words : List ℤ) × Fills table v s (Gives words after) × (assigned table p of checks words after ≡ Stops (stop_of x)))

abbrev pub Assigns : {R U : Type 0} → (R → Heap → Type 0) → Slots → Table → Place → Fill → ℕ → Option Pos → Result U Stop → List Leak → List Leak → Kept R → Type 0
Assigns Means s table p v of checks (Ok u) old new m = IsAssigned Means s table p v of checks old new m
Assigns Means s table p v of checks (Err x) old new m = x ≢ stop.Memory → IsRefused Means s table p v of checks x m

pub record Assigning {R U : Type 0} (Means : R → Heap → Type 0) (before : Kept R) (table : Table) (p : Place) (v : Fill) (of : ℕ) (checks : Option Pos) (r : Result U Stop) (old new : List Leak) (now : Kept R) : Type 0 where
  pub assigns :
      (g : Ghosts) → Stands Means before g → (Fills table v (slots before g) Fails → ⊥)
      → ((zs : List ℤ) (t : Slots) → Fills table v (slots before g) (Gives zs t) → is_broken (assigned table p of checks zs t) ≡ false)
      → Assigns Means (slots before g) table p v of checks r old new now

-- ---- release

-- The cell of a handle is freed after its leak checks, and its name becomes null.
abbrev pub named_at : Table → ℕ → Pos → Spot → ℕ → Slots → Got (Left Slots)
named_at table of at q n s = named table of at q s n
