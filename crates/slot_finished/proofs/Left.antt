-- The frame that waited runs, after the formals are copied back.
use Rattle.std.proofs.Common.{◌≡◌, ap, ◌∙◌, Bool, List, Result, Ok, Err}
use Rattle.type_definitions.specs.Types.{Table}
use Rattle.slot_heap.specs.Heaps.{Heap}
use Rattle.run_codes.specs.Points.{Return}
use Rattle.code_rows.specs.declared.stop.Stop.{Stop}
use Rattle.slot_memory.specs.Answers.{LentOn}
use Rattle.slot_memory.specs.Memory.{Kept, Elsewhere, elsewhere}
use Rattle.slot_frames.specs.Stacks.{Stacked}
use Rattle.slot_entries.specs.Entries.{Leaves}
use Rattle.slot_returns.specs.Backs.{CopiesAll}
use Rattle.slot_finished.specs.Ends.{Finishes}

pub finish_done : {R U : Type 0} (Means : R → Heap → Type 0) (before : Kept R) (table : Table) (returns : List Return) (u : U) (kept now : Kept R) (frames stacked : Stacked) (r : Result Bool Stop)
    → CopiesAll Means before table returns (Ok u) kept → elsewhere kept ≡ elsewhere before → Leaves r kept now frames stacked → Finishes Means before table returns r frames now stacked
finish_done Means before table returns u kept now frames stacked (Ok others) copied same left =
    record { kept = kept; copied = record { comes = copied.comes }; same = same; left = left }
finish_done Means before table returns u kept now frames stacked (Err x) copied same memory = record { comes = λ g stands whole other. absurd (other memory) }

-- The store is lent by the same reference.
pub stopped_lent : {R : Type 0} (before now : Kept R) (x : Stop) → elsewhere now ≡ elsewhere before → LentOn {U = Bool} (Err x) before now
stopped_lent before now x same = λ other. ap (λ (e : Elsewhere). e.lent) same

pub finish_lent : {R : Type 0} (before kept now : Kept R) (frames stacked : Stacked) (r : Result Bool Stop) → elsewhere kept ≡ elsewhere before → Leaves r kept now frames stacked → LentOn r before now
finish_lent before kept now frames stacked (Ok others) same left = ap (λ (m : Kept _). m.heap.lent) left.memory ∙ ap (λ (e : Elsewhere). e.lent) same
finish_lent before kept now frames stacked (Err x) same memory = λ other. absurd (other memory)
