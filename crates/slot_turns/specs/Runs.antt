-- What a run stands for.
use Rattle.std.specs.Prelude.{◌≡◌, ℕ, List, [], Option, Some, None}
use Rattle.slot_heap.specs.Heaps.{Heap}
use Rattle.slot_memory.specs.Memory.{Ghosts}
use Rattle.slot_runs.specs.Turns.{Inside}
use Rattle.slot_runs.specs.declared.stepping.Turn.{Turn}
use Rattle.slot_runs.specs.declared.stepping.Turn.TheVariants as turn
use Rattle.slot_stages.proofs.Turns.{inside_of}
use Rattle.slot_turns.specs.declared.overs.Over.{Over}
use Rattle.slot_turns.specs.Betweens.{Between, stage_of, IsBetween, StandAt}

-- The inside of a stage with some slots that the memory stands for.
pub record IsInside {R : Type 0} (Means : R → Heap → Type 0) (b : Between R) (input : List ℕ) (x : Inside) : Type 0 where
  pub ghosts : Ghosts
  pub between : IsBetween b
  pub stands : StandAt Means b ghosts
  pub bytes : b.kept.input ≡ input
  pub is : x ≡ inside_of (stage_of b ghosts)

-- Where a run is over, its counts and its heap are left.
pub record IsCountedAs {R : Type 0} (Means : R → Heap → Type 0) (over : Over) (b : Between R) (x : Inside) : Type 0 where
  pub frames : x.frames ≡ []
  pub made : x.memory.made ≡ over.made
  pub freed : x.memory.freed ≡ over.freed
  pub means : Means b.kept.heap.store x.memory.heap

abbrev pub StandsWith : {R : Type 0} → (R → Heap → Type 0) → Option Over → List ℕ → Between R → Inside → Type 0
StandsWith Means None input b x = IsInside Means b input x
StandsWith Means (Some over) input b x = IsCountedAs Means over b x

-- What a run is told as.
abbrev pub turned : Option Over → Turn
turned None = turn.On
turned (Some over) = turn.Ends over.ending
