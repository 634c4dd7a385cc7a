-- What the step of a point comes to as a turn.
use Rattle.std.specs.Prelude.{◌≡◌, ℕ, Option, Some, None}
use Rattle.spark_base.specs.declared.position.Pos.{Pos}
use Rattle.type_definitions.specs.Types.{Table}
use Rattle.slot_heap.specs.Heaps.{Heap}
use Rattle.code_rows.specs.declared.point.Point.{Point}
use Rattle.code_rows.specs.declared.codes.Codes.{Codes}
use Rattle.code_rows.specs.Points.{point_of}
use Rattle.slot_memory.specs.Memory.{Ghosts, IsKnown}
use Rattle.slot_memory.specs.Given.{IsGivenUp}
use Rattle.slot_runs.specs.Turns.{NeverFails}
use Rattle.slot_goings.specs.declared.groups.Group.{Group}
use Rattle.slot_goings.specs.Groups.{group_of}
use Rattle.slot_turns.specs.declared.halt.Halt.{Halt}
use Rattle.slot_turns.specs.declared.overs.Over.{Over}
use Rattle.slot_turns.specs.Betweens.{StandAt}
use Rattle.slot_turns.specs.Steps.{DoneAt}
use Rattle.slot_turns.specs.Overs.{TurnsTo, IsCounted}
use Rattle.slot_steps.specs.slot_parts.declared.parts.Parts.{Parts}
use Rattle.slot_steps.specs.slot_parts.Stages.{between_of, setting_of}
use Rattle.slot_steps.specs.slot_parts.Steps.{AreLeft}

-- A point that takes no values, of a group.
abbrev pub IsFree : Group → Point → Type 0
IsFree g p = (p.takes.count ≡ 0) × (group_of p.does ≡ g)

-- What is kept where the run goes on.
abbrev pub KeptBy : {R : Type 0} → (R → Heap → Type 0) → Option Over → Parts R → Parts R → Type 0
KeptBy Means None old new = AreLeft old new × IsKnown Means new.memory
KeptBy Means (Some over) old new = Unit

-- It comes to this from whatever slots the memory stood for, if no outcome of the point fails.
pub record IsPointTurn {R : Type 0} (Means : R → Heap → Type 0) (codes : Codes) (table : Table) (point : Point) (over : Option Over) (old new : Parts R) : Type 0 where
  pub turns :
      (g : Ghosts) → StandAt Means (between_of old) g
      → NeverFails (DoneAt (setting_of codes table old.memory.input) (point_of codes point) (between_of old) g)
      → TurnsTo Means (DoneAt (setting_of codes table old.memory.input) (point_of codes point) (between_of old) g) over (between_of new)
  pub kept : KeptBy Means over old new
  pub lent : new.memory.heap.lent ≡ old.memory.heap.lent

-- The run is over with its counts where a point stops, and the cells that it made are given up.
pub record IsHalted {R : Type 0} (Means : R → Heap → Type 0) (h : Halt) (pos : Pos) (made freed : ℕ) (over : Over) (old new : Parts R) : Type 0 where
  pub counted : IsCounted h pos made freed over
  pub given : IsGivenUp Means old.memory.heap made new.memory.heap
  pub rest : new ≡ record old { memory = record old.memory { heap = new.memory.heap } }
