-- Where a run starts.
use Rattle.std.specs.Prelude.{◌≡◌, ℕ, Bool, List, []}
use Rattle.type_definitions.specs.Types.{Table}
use Rattle.run_codes.specs.Programs.{Program}
use Rattle.run_codes.specs.Points.{sub_at, template}
use Rattle.code_rows.specs.declared.point.Sub.{Sub}
use Rattle.slot_heap.specs.Heaps.{Heap}
use Rattle.handled_steps.specs.Runs.{state_at_start}
use Rattle.slot_memory.specs.Cells.{Cells}
use Rattle.slot_memory.specs.Memory.{Kept, Ghosts}
use Rattle.slot_frames.specs.Stacks.{Stacked}
use Rattle.slot_stages.specs.Stages.{state_of}
use Rattle.slot_entries.specs.Entries.{stacked_words}
use Rattle.slot_turns.specs.Betweens.{Between, stage_of, IsBetween, StandAt}

-- The frame of a subprogram is the only one, without words.
abbrev pub only_frame : ℕ → ℕ → Stacked
only_frame first words = record { frame = record { base = 0; next = first; words = words; waits = 0; returns = 0 }; outer = []; waits = []; returns = [] }

-- There are no cells. The store was lent by a reference.
abbrev pub no_cells : {R : Type 0} → R → ℕ → Cells R
no_cells r lent = record { store = r; lent = lent; lengths = []; numbers = []; made = 0; freed = 0; live = 0 }

pub record IsFirst {R : Type 0} (store : R) (lent : ℕ) (sub : Sub) (bytes : List ℕ) (m : Kept R) (s : Stacked) (all : ℕ) : Type 0 where
  pub stack : m.stack ≡ []
  pub base : m.base ≡ 0
  pub waits : m.waits ≡ []
  pub heap : m.heap ≡ no_cells store lent
  pub moves : m.moves ≡ []
  pub input : m.input ≡ bytes
  pub read : m.read ≡ 0
  pub frames : s ≡ only_frame sub.first sub.words
  pub words : all ≡ sub.words

-- The frame of the package objects is the only one.
pub record HasPackages {R : Type 0} (table : Table) (program : Program) (store : R) (lent : ℕ) (bytes : List ℕ) (m : Kept R) (s : Stacked) (all : ℕ) : Type 0 where
  pub stack : m.stack ≡ template table (sub_at program 0)
  pub base : m.base ≡ 0
  pub waits : m.waits ≡ []
  pub heap : m.heap ≡ no_cells store lent
  pub moves : m.moves ≡ []
  pub input : m.input ≡ bytes
  pub read : m.read ≡ 0
  pub frames : s ≡ only_frame (sub_at program 0).first (sub_at program 0).words
  pub words : all ≡ (sub_at program 0).words

-- Nothing was told yet.
abbrev pub silent : {R : Type 0} → Kept R → Stacked → Between R
silent m s = record { kept = m; stacked = s; output = []; leaks = [] }

-- What is kept is that of the state at the start.
pub record IsStarted {R : Type 0}
    (Means : R → Heap → Type 0) (table : Table) (program : Program) (reference : ℕ) (bytes : List ℕ) (declares : Bool) (m : Kept R) (s : Stacked) (all : ℕ) : Type 0 where
  pub ghosts : Ghosts
  pub between : IsBetween (silent m s)
  pub stands : StandAt Means (silent m s) ghosts
  pub input : m.input ≡ bytes
  pub lent : m.heap.lent ≡ reference
  pub words : all ≡ stacked_words s
  pub state : state_of (stage_of (silent m s) ghosts) ≡ state_at_start table program declares
