-- Where a run begins.
use Rattle.std.specs.Prelude.{◌≡◌, ℕ, Bool, List, []}
use Rattle.type_definitions.specs.Types.{Table}
use Rattle.run_codes.specs.Programs.{Program}
use Rattle.slot_heap.specs.Heaps.{Heap}
use Rattle.handled_steps.specs.Runs.{state_at_start}
use Rattle.slot_memory.specs.Memory.{Ghosts}
use Rattle.slot_stages.specs.Stages.{state_of}
use Rattle.slot_entries.specs.Entries.{stacked_words}
use Rattle.slot_turns.specs.Betweens.{stage_of, IsBetween, StandAt}
use Rattle.slot_parts.specs.declared.parts.Parts.{Parts}
use Rattle.slot_parts.specs.Stages.{between_of}

-- Nothing was told yet.
pub record AreSilent {R : Type 0} (p : Parts R) : Type 0 where
  pub output : p.output.items ≡ []
  pub leaks : p.leaks.items ≡ []

-- What is kept is that of the state at the start.
pub record IsBegun {R : Type 0} (Means : R → Heap → Type 0) (table : Table) (program : Program) (reference : ℕ) (bytes : List ℕ) (declares : Bool) (p : Parts R) : Type 0 where
  pub ghosts : Ghosts
  pub between : IsBetween (between_of p)
  pub stands : StandAt Means (between_of p) ghosts
  pub input : p.memory.input ≡ bytes
  pub lent : p.memory.heap.lent ≡ reference
  pub words : p.words ≡ stacked_words p.frames
  pub state : state_of (stage_of (between_of p) ghosts) ≡ state_at_start table program declares
