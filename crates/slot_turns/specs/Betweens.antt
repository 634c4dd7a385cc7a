-- What is kept of a run between two steps, and the stages that it may be.
use Rattle.std.specs.Prelude.{◌≡◌, ◌≤◌, ℕ, List, [], length}
use Rattle.machine.specs.States.{Leak}
use Rattle.slot_heap.specs.Heaps.{Heap}
use Rattle.slot_memory.specs.Memory.{Kept, Ghosts, Stands}
use Rattle.slot_frames.specs.Stacks.{Stacked}
use Rattle.slot_frames.specs.Frames.{word_at, IsStacked}
use Rattle.slot_runs.specs.Turns.{Untold}
use Rattle.slot_stages.specs.Stages.{Stage}

-- The memory, the frames, and the output and the leaks that weren't told yet.
pub record Between (R : Type 0) : Type 0 where
  pub kept : Kept R
  pub stacked : Stacked
  pub output : List ℕ
  pub leaks : List Leak

-- With what no code keeps.
abbrev pub stage_of : {R : Type 0} → Between R → Ghosts → Stage R
stage_of b g = record { kept = b.kept; ghosts = g; stacked = b.stacked; output = b.output; leaks = b.leaks }

abbrev pub untold_of : {R : Type 0} → Between R → Untold
untold_of b = record { output = b.output; leaks = b.leaks }

-- The values that wait are those of the frames, the frame that runs is that of the memory, and the input was read up to
-- some place in it.
pub record IsBetween {R : Type 0} (b : Between R) : Type 0 where
  pub stacked : IsStacked b.stacked b.kept.waits
  pub base : b.kept.base ≡ b.stacked.frame.base
  pub read : b.kept.read ≤ length b.kept.input

-- The memory stands for slots in which nothing is noted as moved.
pub record StandAt {R : Type 0} (Means : R → Heap → Type 0) (b : Between R) (g : Ghosts) : Type 0 where
  pub memory : Stands Means b.kept g
  pub settled : g.moves ≡ []

-- The point takes the values that wait from the number k on.
abbrev pub taking : {R : Type 0} → Between R → ℕ → Between R
taking b k = record b { kept = record b.kept { taken = word_at b.stacked.waits k (length b.kept.waits) } }
