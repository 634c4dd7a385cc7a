-- What the end of a call comes to.
use Rattle.std.specs.Prelude.{◌≡◌, Bool, List, Result, Ok, Err}
use Rattle.type_definitions.specs.Types.{Table}
use Rattle.slot_heap.specs.Heaps.{Heap}
use Rattle.run_codes.specs.Points.{Return}
use Rattle.code_rows.specs.declared.stop.Stop.{Stop}
use Rattle.slot_memory.specs.Memory.{Kept, elsewhere}
use Rattle.slot_frames.specs.Stacks.{Stacked}
use Rattle.slot_entries.specs.Entries.{IsLeft}
use Rattle.slot_returns.specs.Backs.{CopiesAll}

-- The formals are copied back, and then a frame that waited runs. Whether others wait.
pub record IsFinished {R : Type 0} (Means : R → Heap → Type 0) (before : Kept R) (table : Table) (returns : List Return) (others : Bool) (frames : Stacked) (now : Kept R) (stacked : Stacked) : Type 0 where
  pub kept : Kept R
  pub copied : CopiesAll Means before table returns (Ok (tt {0})) kept
  pub same : elsewhere kept ≡ elsewhere before
  pub left : IsLeft others kept now frames stacked

-- What stops is a formal that doesn't fit, and nothing is changed then.
abbrev pub Finishes : {R : Type 0} → (R → Heap → Type 0) → Kept R → Table → List Return → Result Bool Stop → Stacked → Kept R → Stacked → Type 0
Finishes Means before table returns (Ok others) frames now stacked = IsFinished Means before table returns others frames now stacked
Finishes Means before table returns (Err x) frames now stacked = CopiesAll {U = Unit {0}} Means before table returns (Err x) now
