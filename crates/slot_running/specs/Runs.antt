-- A run between two steps: what it stands for, and what a turn of it comes to.
use Rattle.std.specs.Prelude.{◌≡◌, ◌<◌, ◌≤◌, ℕ, Bool, List, Option, Some, None}
use Rattle.type_definitions.specs.Types.{Table}
use Rattle.code_rows.specs.declared.codes.Codes.{Codes}
use Rattle.run_codes.specs.Programs.{Program}
use Rattle.slot_heap.specs.Heaps.{Heap}
use Rattle.handled_steps.specs.Runs.{state_at_start}
use Rattle.slot_memory.specs.Memory.{IsKnown}
use Rattle.slot_runs.specs.Turns.{Setting, Untold, Inside, CanStep, Turns, state_of}
use Rattle.slot_runs.specs.Goings.{IsGoing, LeadsOn}
use Rattle.slot_entries.specs.Entries.{stacked_words}
use Rattle.slot_turns.specs.declared.overs.Over.{Over}
use Rattle.slot_turns.specs.Betweens.{Between, untold_of}
use Rattle.slot_turns.specs.Runs.{IsInside, StandsWith, turned}
use Rattle.slot_steps.specs.slot_parts.declared.parts.Parts.{Parts}
use Rattle.slot_steps.specs.slot_parts.Stages.{between_of, setting_of}

-- What is run, what is kept of it, and where it is over.
pub record Running (R : Type 0) : Type 0 where
  pub codes : Codes
  pub table : Table
  pub input : List ℕ
  pub between : Between R
  pub over : Option Over

abbrev pub running_setting : {R : Type 0} → Running R → Setting
running_setting r = setting_of r.codes r.table r.input

abbrev pub running_untold : {R : Type 0} → Running R → Untold
running_untold r = untold_of r.between

-- The reference by which its store was lent.
abbrev pub running_lent : {R : Type 0} → Running R → ℕ
running_lent r = r.between.kept.heap.lent

-- What the run stands for.
abbrev pub RunStands : {R : Type 0} → (R → Heap → Type 0) → Running R → Inside → Type 0
RunStands Means r x = StandsWith Means r.over r.input r.between x

-- What is kept of a run that isn't over: the memory stands for some slots, and the words of all frames are counted.
abbrev pub AreKept : {R : Type 0} → (R → Heap → Type 0) → Option Over → Parts R → Type 0
AreKept Means None p = IsKnown Means p.memory × (p.words ≡ stacked_words p.frames)
AreKept Means (Some over) p = Unit

-- The run stands before the first step of a program.
pub record IsAtStart {R : Type 0} (Means : R → Heap → Type 0) (table : Table) (program : Program) (reference : ℕ) (input : List ℕ) (declares : Bool) (r : Running R) : Type 0 where
  pub setting : running_setting r ≡ record { table = table; program = program; input = input }
  pub inside : Inside
  pub stands : RunStands Means r inside
  pub start : state_of (running_untold r) inside ≡ state_at_start table program declares
  pub lent : running_lent r ≡ reference

-- ---- turns

-- From some slots that the memory stands for a step can be made.
abbrev pub CanTurn : {R : Type 0} → (R → Heap → Type 0) → Codes → Table → Parts R → Type 0
CanTurn Means codes table p =
    CanStep (setting_of codes table p.memory.input) (untold_of (between_of p)) (IsInside Means (between_of p) p.memory.input)

-- The run goes on, or is over.
pub record IsTurn {R : Type 0} (Means : R → Heap → Type 0) (codes : Codes) (table : Table) (over : Option Over) (old new : Parts R) : Type 0 where
  pub turns :
      Turns (setting_of codes table old.memory.input) (untold_of (between_of old)) (IsInside Means (between_of old) old.memory.input)
      (turned over) (untold_of (between_of new)) (StandsWith Means over old.memory.input (between_of new))
  pub kept : AreKept Means over new
  pub lent : new.memory.heap.lent ≡ old.memory.heap.lent

-- ---- turns one after the other

-- No outcome fails within so many steps.
abbrev pub CanTurns : {R : Type 0} → (R → Heap → Type 0) → Codes → Table → (limit : ℕ) → Parts R → Type 0
CanTurns Means codes table limit p =
    IsGoing (setting_of codes table p.memory.input) limit (untold_of (between_of p)) (IsInside Means (between_of p) p.memory.input)

-- So many steps lead from some parts to others, where the run goes on or is over.
abbrev pub LeadsTo : {R : Type 0} → (R → Heap → Type 0) → Codes → Table → (limit made : ℕ) → Option Over → (old new : Parts R) → Type 0
LeadsTo Means codes table limit made over old new =
    LeadsOn (setting_of codes table old.memory.input) limit (untold_of (between_of old)) (IsInside Means (between_of old) old.memory.input)
    made (turned over) (untold_of (between_of new)) (StandsWith Means over old.memory.input (between_of new))

-- At least one is made.
pub record AreTurns {R : Type 0} (Means : R → Heap → Type 0) (codes : Codes) (table : Table) (limit made : ℕ) (over : Option Over) (old new : Parts R) : Type 0 where
  pub some : 0 < made
  pub few : made ≤ limit
  pub led : LeadsTo Means codes table limit made over old new
  pub kept : AreKept Means over new
  pub lent : new.memory.heap.lent ≡ old.memory.heap.lent
