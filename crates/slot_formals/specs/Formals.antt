-- What the formals of a call get, what is moved for them, and what is copied back to.
use Rattle.std.specs.Prelude.{◌≡◌, ℕ, ◌+◌, List, [], ◌∷◌, ◌++◌, length}
use Rattle.type_definitions.specs.Types.{Table}
use Rattle.machine.specs.Words.{access_offsets}
use Rattle.machine.specs.States.{Leak}
use Rattle.run_codes.specs.Codes.{Sub}
use Rattle.run_codes.specs.Flat.{Got, Given, and_then, kinds, InStack}
use Rattle.run_codes.specs.Points.{Passed, Value, FromSpot, ToSpot}
use Rattle.handled_runs.specs.Slots.{Slots, held}
use Rattle.handled_runs.specs.Changes.{stored, moving, settled}
use Rattle.handled_steps.specs.States.{with_frame}
use Rattle.slot_heap.specs.Heaps.{Heap}
use Rattle.slot_memory.specs.Memory.{Kept, Ghosts, Stands, Shows, slots}
use Rattle.handled_steps.specs.Steps.{out_leaks}
use Rattle.slot_calls.specs.declared.actuals.Pass.{Pass}
use Rattle.slot_calls.specs.declared.actuals.Pass.TheVariants as pass
use Rattle.slot_frames.specs.declared.rows.Return.{Return}

-- A formal at an index of the stack gets what is passed. It isn't moved yet.
abbrev pub placed_one : Table → ℕ → Passed → Slots → Got Slots
placed_one table at (Value zs) s = stored s (InStack at) [] zs
placed_one table at (FromSpot q of) s = and_then (held s q (kinds table of)) (λ zs. stored s (InStack at) [] zs)
placed_one table at (ToSpot q of p) s = Given s

abbrev pub placed : Table → ℕ → List ℕ → List Passed → Slots → Got Slots
placed table at (f ∷ formals) (a ∷ passed) s = and_then (placed_one table at a s) (placed table (at + length (kinds table f)) formals passed)
placed table at _ _ s = Given s

-- What is passed by its place is moved.
abbrev pub moved_one : Table → Passed → Slots → Slots
moved_one table (Value zs) s = s
moved_one table (FromSpot q of) s = moving s q (kinds table of) (access_offsets table of)
moved_one table (ToSpot q of p) s = moving s q (kinds table of) (access_offsets table of)

abbrev pub all_moved : Table → List ℕ → List Passed → Slots → Slots
all_moved table (f ∷ formals) (a ∷ passed) s = all_moved table formals passed (moved_one table a s)
all_moved table _ _ s = s

-- A frame that is to run, and the leak checks that failed.
pub record Begun : Type 0 where
  pub memory : Slots
  pub leaks : List Leak

-- The formals of a new frame get their values; what was moved before is gone; leaks are checked; and what the actuals
-- move is gone, too.
abbrev pub gone_then : List Leak → Slots → Got Begun
gone_then leaks s = and_then (settled s) (λ m. Given (record { memory = m; leaks = leaks }))

abbrev pub checked_then : Table → List ℕ → List Passed → Slots → Got Begun
checked_then table formals passed s = and_then (out_leaks table s passed) (λ leaks. gone_then leaks (all_moved table formals passed s))

abbrev pub placed_in : Table → Sub → List Passed → Slots → Got Slots
placed_in table sub passed s = placed table (length s.stack) sub.formals passed (with_frame table sub s)

abbrev pub framed : Table → Sub → List Passed → Slots → Got Begun
framed table sub passed s =
    and_then (placed_in table sub passed s) (λ n. and_then (settled n) (checked_then table sub.formals passed))

-- The leaks of `out` actuals are told.
pub record Tells {R : Type 0} (Means : R → Heap → Type 0) (m : Kept R) (table : Table) (passed : List Passed) (before after : List Leak) : Type 0 where
  pub told : (g : Ghosts) → Stands Means m g → (t : List Leak) → out_leaks table (slots m g) passed ≡ Given t → after ≡ before ++ t

-- A frame is to run.
pub record Begins {R : Type 0} (Means : R → Heap → Type 0) (m : Kept R) (table : Table) (sub : Sub) (passed : List Passed) (before after : List Leak) (n : Kept R) : Type 0 where
  pub begun : (g : Ghosts) → Stands Means m g → (t : Begun) → framed table sub passed (slots m g) ≡ Given t → Shows Means n t.memory × (after ≡ before ++ t.leaks)

-- ---- what is copied back

-- The rows of what is copied back, where a formal at an offset was passed this.
abbrev pub rows_of : ℕ → ℕ → Pass → List Return
rows_of at formal (pass.Value first end) = []
rows_of at formal (pass.From s of) = record { at = at; from = formal; to = s; of = of } ∷ []
rows_of at formal (pass.To s of pos) = record { at = at; from = formal; to = s; of = of } ∷ []

abbrev pub returned : Table → ℕ → List ℕ → List Pass → List Return
returned table at (f ∷ formals) (p ∷ ps) = rows_of at f p ++ returned table (at + length (kinds table f)) formals ps
returned table at _ _ = []
