-- What a memory comes to.
--
-- A memory stands for many slots, which differ in what no code keeps. For some of them something is given, and for all for
-- which it is, the memory then stands for what is given.
use Rattle.std.specs.Prelude.{◌≡◌}
use Rattle.slot_heap.specs.Heaps.{Heap}
use Rattle.run_codes.specs.Flat.{Got, Given}
use Rattle.handled_runs.specs.Slots.{Slots}
use Rattle.slot_memory.specs.Memory.{Kept, Ghosts, Stands, Shows, slots}

pub record Gives {R A : Type 0} (Means : R → Heap → Type 0) (m : Kept R) (f : Slots → Got A) : Type 0 where
  pub ghosts : Ghosts
  pub stands : Stands Means m ghosts
  pub after : A
  pub is : f (slots m ghosts) ≡ Given after

-- What is given of one memory is still to come of another one.
pub record Leads {R A : Type 0} (Means : R → Heap → Type 0) (m : Kept R) (f : Slots → Got A) (n : Kept R) (h : Slots → Got A) : Type 0 where
  pub on : (g : Ghosts) → Stands Means m g → (t : A) → f (slots m g) ≡ Given t → (u : Slots) × Shows Means n u × (h u ≡ Given t)
