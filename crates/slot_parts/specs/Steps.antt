-- What a step comes to.
use Rattle.std.specs.Prelude.{◌≡◌, Bool, true, Result, Ok, Err}
use Rattle.type_definitions.specs.Types.{Table}
use Rattle.slot_heap.specs.Heaps.{Heap}
use Rattle.code_rows.specs.declared.point.Point.{Point}
use Rattle.code_rows.specs.declared.codes.Codes.{Codes}
use Rattle.code_rows.specs.Points.{point_of}
use Rattle.slot_entries.specs.Entries.{stacked_words}
use Rattle.slot_turns.specs.declared.halt.Halt.{Halt}
use Rattle.slot_turns.specs.Betweens.{IsBetween}
use Rattle.slot_turns.specs.Steps.{Steps}
use Rattle.slot_parts.specs.declared.parts.Parts.{Parts}
use Rattle.slot_parts.specs.Stages.{between_of, setting_of}

-- What is kept where the run goes on.
pub record AreLeft {R : Type 0} (old new : Parts R) : Type 0 where
  pub between : IsBetween (between_of new)
  pub words : new.words ≡ stacked_words new.frames
  pub input : new.memory.input ≡ old.memory.input

abbrev pub LeftBy : {R : Type 0} → Result Bool Halt → Parts R → Parts R → Type 0
LeftBy (Ok true) old new = AreLeft old new
LeftBy _ old new = Unit

-- A step comes to this from whatever slots the memory stood for, if no outcome of the point fails.
pub record StepsOf {R : Type 0} (Means : R → Heap → Type 0) (codes : Codes) (table : Table) (point : Point) (r : Result Bool Halt) (old new : Parts R) : Type 0 where
  pub steps : Steps Means (setting_of codes table old.memory.input) (point_of codes point) r (between_of old) (between_of new)
  pub left : LeftBy r old new

-- The run goes on, if it doesn't stop.
abbrev pub as_going : {U : Type 0} → Result U Halt → Result Bool Halt
as_going (Ok u) = Ok true
as_going (Err h) = Err h

abbrev pub Leads : {R U : Type 0} → (R → Heap → Type 0) → Codes → Table → Point → Result U Halt → Parts R → Parts R → Type 0
Leads Means codes table point r old new = StepsOf Means codes table point (as_going r) old new
