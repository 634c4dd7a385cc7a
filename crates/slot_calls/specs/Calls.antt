-- What actuals ask of a memory, and what is answered.
--
-- A memory stands for many slots, which differ in what no code keeps. Over one of them it doesn't fail, and what is
-- answered comes about over each of them over which it doesn't.
use Rattle.std.specs.Prelude.{◌≡◌, ◌≢◌, ◌≤◌, ◌-◌, ℕ, true, false, ℤ, List, [], ◌∷◌, length, take, drop, Result, Ok, Err, if◌then◌else◌}
use Rattle.type_definitions.specs.Types.{Table}
use Rattle.run_values.specs.declared.value.Kind.{Kind}
use Rattle.slot_heap.specs.Heaps.{Heap}
use Rattle.run_codes.specs.Codes.{Actual}
use Rattle.run_codes.specs.Flat.{Got, Given, Stops, Spot, and_then, is_broken, constraint}
use Rattle.run_codes.specs.Points.{Passed, Value, FromSpot, ToSpot, fits}
use Rattle.code_rows.specs.declared.stop.Stop.{Stop}
use Rattle.code_rows.specs.declared.stop.Stop.TheVariants as stop
use Rattle.code_rows.specs.Stops.{stop_of}
use Rattle.handled_runs.specs.Slots.{Slots, held}
use Rattle.handled_steps.specs.Steps.{Passing, Passes, Stopping, Failing, PassesOne, PassesAll}
use Rattle.slot_memory.specs.Spots.{spot_of}
use Rattle.slot_memory.specs.Memory.{Kept, Ghosts, Stands, Shows, slots}
use Rattle.slot_calls.specs.declared.actuals.Pass.{Pass}
use Rattle.slot_calls.specs.declared.actuals.Pass.TheVariants as pass

-- What is passed, where these words are at hand.
abbrev pub passed_of : List ℤ → Pass → Passed
passed_of zs (pass.Value first end) = Value (take (end - first) (drop first zs))
passed_of zs (pass.From s of) = FromSpot (spot_of s) of
passed_of zs (pass.To s of pos) = ToSpot (spot_of s) of pos

-- The words of a value are among so many at hand.
abbrev pub IsWithin : ℕ → Pass → Type 0
IsWithin n (pass.Value first end) = end ≤ n
IsWithin n p = 0 ≤ n

abbrev pub AreWithin : ℕ → List Pass → Type 0
AreWithin n [] = Unit {0}
AreWithin n (p ∷ ps) = IsWithin n p × AreWithin n ps

-- One is passed: its words come after those at hand.
pub record IsPassed {R : Type 0} (Means : R → Heap → Type 0) (P : Passing → Type 0) (p : Pass) (old new : List ℤ) (m : Kept R) : Type 0 where
  pub after : Slots
  pub may : P (Passes (passed_of new p ∷ []) after)
  pub kept : take (length old) new ≡ old
  pub within : IsWithin (length new) p
  pub shows : Shows Means m after

-- All are passed.
pub record ArePassed {R : Type 0} (Means : R → Heap → Type 0) (P : Passing → Type 0) (ps : List Passed) (m : Kept R) : Type 0 where
  pub after : Slots
  pub may : P (Passes ps after)
  pub shows : Shows Means m after

-- It stops.
pub record IsStopped {R : Type 0} (Means : R → Heap → Type 0) (P : Passing → Type 0) (x : Stop) (m : Kept R) : Type 0 where
  pub after : Slots
  pub may : P (Stopping (stop_of x) after)
  pub shows : Shows Means m after

-- Nothing is told where there is too little memory.
abbrev pub AnswersOne : {R : Type 0} → (R → Heap → Type 0) → (Passing → Type 0) → Result Pass Stop → List ℤ → List ℤ → Kept R → Type 0
AnswersOne Means P (Ok p) old new m = IsPassed Means P p old new m
AnswersOne Means P (Err x) old new m = x ≢ stop.Memory → IsStopped Means P x m

abbrev pub AnswersAll : {R U : Type 0} → (R → Heap → Type 0) → (Passing → Type 0) → Result U Stop → List Passed → Kept R → Type 0
AnswersAll Means P (Ok u) ps m = ArePassed Means P ps m
AnswersAll Means P (Err x) ps m = x ≢ stop.Memory → IsStopped Means P x m

pub record Passable {R : Type 0} (Means : R → Heap → Type 0) (m : Kept R) (table : Table) (a : Actual) : Type 0 where
  pub ghosts : Ghosts
  pub stands : Stands Means m ghosts
  pub whole : PassesOne table a (slots m ghosts) Failing → ⊥

pub record PassedOne {R : Type 0} (Means : R → Heap → Type 0) (before : Kept R) (table : Table) (a : Actual) (r : Result Pass Stop) (old new : List ℤ) (now : Kept R)
    : Type 0 where
  pub passed :
      (g : Ghosts) → Stands Means before g → (PassesOne table a (slots before g) Failing → ⊥) → AnswersOne Means (PassesOne table a (slots before g)) r old new now

pub record PassableAll {R : Type 0} (Means : R → Heap → Type 0) (m : Kept R) (table : Table) (all : List Actual) : Type 0 where
  pub ghosts : Ghosts
  pub stands : Stands Means m ghosts
  pub whole : PassesAll table all (slots m ghosts) Failing → ⊥

pub record PassedAll {R U : Type 0} (Means : R → Heap → Type 0) (before : Kept R) (table : Table) (all : List Actual) (r : Result U Stop) (ps : List Passed) (now : Kept R)
    : Type 0 where
  pub passed :
      (g : Ghosts) → Stands Means before g → (PassesAll table all (slots before g) Failing → ⊥) → AnswersAll Means (PassesAll table all (slots before g)) r ps now

-- Words that are held fit a type.
abbrev pub tested : Table → ℕ → Got (List ℤ) → Got (List ℤ)
tested table formal got = and_then got (λ zs. if fits table formal zs then Given zs else Stops constraint)

-- They are tested, but where there is too little memory.
abbrev pub IsTested : {U : Type 0} → Table → ℕ → Got (List ℤ) → Result U Stop → Type 0
IsTested table formal got (Ok u) = (zs : List ℤ) × (got ≡ Given zs) × (fits table formal zs ≡ true)
IsTested table formal got (Err s) = s ≢ stop.Memory → tested table formal got ≡ Stops (stop_of s)

pub record Testable {R : Type 0} (Means : R → Heap → Type 0) (m : Kept R) (q : Spot) (ks : List Kind) : Type 0 where
  pub ghosts : Ghosts
  pub stands : Stands Means m ghosts
  pub whole : is_broken (held (slots m ghosts) q ks) ≡ false

pub record Tests {R U : Type 0} (Means : R → Heap → Type 0) (m : Kept R) (table : Table) (formal : ℕ) (q : Spot) (ks : List Kind) (r : Result U Stop) : Type 0 where
  pub tests : (g : Ghosts) → Stands Means m g → is_broken (held (slots m g) q ks) ≡ false → IsTested table formal (held (slots m g) q ks) r
