-- What is asked where cells are made, and what is answered.
--
-- A memory stands for many slots, which differ in what no code keeps. In one of them it doesn't fail, and what is answered
-- comes about in each of them in which it doesn't.
use Rattle.std.specs.Prelude.{◌≡◌, ◌≢◌, ℤ, List, ◌++◌, Result, Ok, Err}
use Rattle.run_values.specs.declared.value.Kind.{Kind}
use Rattle.slot_heap.specs.Heaps.{Heap}
use Rattle.code_rows.specs.declared.stop.Stop.{Stop}
use Rattle.code_rows.specs.declared.stop.Stop.TheVariants as stop
use Rattle.code_rows.specs.Stops.{stop_of}
use Rattle.handled_runs.specs.Slots.{Slots}
use Rattle.handled_runs.specs.Values.{Outcome, Gives, Ends, Fails, Makes}
use Rattle.slot_memory.specs.Memory.{Kept, Ghosts, Stands, Shows, slots}

-- Words are given and come after others, and the memory stands for the slots then.
pub record IsGiven {R : Type 0} (Means : R → Heap → Type 0) (P : Outcome → Type 0) (old new : List ℤ) (m : Kept R) : Type 0 where
  pub words : List ℤ
  pub after : Slots
  pub may : P (Gives words after)
  pub appended : new ≡ old ++ words
  pub shows : Shows Means m after

-- It stops.
pub record IsEnded {R : Type 0} (Means : R → Heap → Type 0) (P : Outcome → Type 0) (x : Stop) (m : Kept R) : Type 0 where
  pub after : Slots
  pub may : P (Ends (stop_of x) after)
  pub shows : Shows Means m after

-- One of these outcomes comes about. Nothing is told where there is too little memory.
abbrev pub Answers : {R U : Type 0} → (R → Heap → Type 0) → (Outcome → Type 0) → Result U Stop → List ℤ → List ℤ → Kept R → Type 0
Answers Means P (Ok u) old new m = IsGiven Means P old new m
Answers Means P (Err x) old new m = x ≢ stop.Memory → IsEnded Means P x m

-- ---- cells that are made of words

pub record Makeable {R : Type 0} (Means : R → Heap → Type 0) (m : Kept R) (ks : List Kind) (zs : List ℤ) : Type 0 where
  pub ghosts : Ghosts
  pub stands : Stands Means m ghosts
  pub whole : Makes (slots m ghosts) ks zs Fails → ⊥

pub record Made {R U : Type 0} (Means : R → Heap → Type 0) (before : Kept R) (ks : List Kind) (zs : List ℤ) (r : Result U Stop) (old new : List ℤ) (now : Kept R) : Type 0 where
  pub made :
      (g : Ghosts) → Stands Means before g → (Makes (slots before g) ks zs Fails → ⊥) → Answers Means (Makes (slots before g) ks zs) r old new now
