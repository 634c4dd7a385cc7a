-- What is asked where values are made, and what is answered.
use Rattle.std.specs.Prelude.{ℤ, List, Result}
use Rattle.type_definitions.specs.Types.{Table}
use Rattle.slot_heap.specs.Heaps.{Heap}
use Rattle.run_codes.specs.Codes.{Fill}
use Rattle.code_rows.specs.declared.stop.Stop.{Stop}
use Rattle.handled_runs.specs.Values.{Fails, Fills}
use Rattle.slot_memory.specs.Memory.{Kept, Ghosts, Stands, slots}
use Rattle.slot_hand.specs.Outcomes.{Answers}

-- A value doesn't fail.
pub record Fillable {R : Type 0} (Means : R → Heap → Type 0) (m : Kept R) (table : Table) (v : Fill) : Type 0 where
  pub ghosts : Ghosts
  pub stands : Stands Means m ghosts
  pub whole : Fills table v (slots m ghosts) Fails → ⊥

pub record Filled {R U : Type 0} (Means : R → Heap → Type 0) (before : Kept R) (table : Table) (v : Fill) (r : Result U Stop) (old new : List ℤ) (now : Kept R) : Type 0 where
  pub filled :
      (g : Ghosts) → Stands Means before g → (Fills table v (slots before g) Fails → ⊥) → Answers Means (Fills table v (slots before g)) r old new now
