-- What a step comes to.
use Rattle.std.specs.Prelude.{◌≡◌, ◌≢◌, Bool, true, false, Result, Ok, Err}
use Rattle.machine.specs.States.{Normal}
use Rattle.run_codes.specs.Codes.{Point}
use Rattle.slot_heap.specs.Heaps.{Heap}
use Rattle.code_rows.specs.declared.stop.Stop.TheVariants as stop
use Rattle.code_rows.specs.Stops.{stop_of}
use Rattle.handled_runs.specs.Slots.{Slots}
use Rattle.handled_steps.specs.States.{State, Outcome, Goes, Ends, Turn, halted}
use Rattle.handled_steps.specs.Steps.{Done}
use Rattle.made_cells.specs.Since.{Since}
use Rattle.slot_memory.specs.Memory.{Ghosts, Stands, ghosts_of}
use Rattle.slot_runs.specs.Turns.{Setting, NeverFails, bare}
use Rattle.slot_stages.specs.Stages.{state_of, turn_of}
use Rattle.slot_turns.specs.declared.halt.Halt.{Halt}
use Rattle.slot_turns.specs.Betweens.{Between, stage_of, StandAt}

-- A step from there, at a point, and which outcomes it may have.
abbrev pub turn_at : {R : Type 0} → Setting → Point → Between R → Ghosts → Turn
turn_at c p b g = turn_of c.table c.program p (stage_of b g)

abbrev pub DoneAt : {R : Type 0} → Setting → Point → Between R → Ghosts → Outcome → Type 0
DoneAt c p b g = Done (turn_at c p b g) p.does

-- It may go on with a state, for which what is kept then stands.
pub record GoesOn {R : Type 0} (Means : R → Heap → Type 0) (May : Outcome → Type 0) (new : Between R) : Type 0 where
  pub state : State
  pub comes : May (Goes state)
  pub ghosts : Ghosts
  pub stands : StandAt Means new ghosts
  pub same : bare state ≡ state_of (stage_of new ghosts)

-- The main procedure may end, and that is what is seen of the state then.
pub record IsEnded {R : Type 0} (Means : R → Heap → Type 0) (May : Outcome → Type 0) (new : Between R) : Type 0 where
  pub state : State
  pub comes : May (Ends Normal state)
  pub ghosts : Ghosts
  pub stands : StandAt Means new ghosts
  pub output : state.output ≡ new.output
  pub leaks : state.leaks ≡ new.leaks
  pub made : state.memory.made ≡ new.kept.heap.made
  pub freed : state.memory.freed ≡ new.kept.heap.freed
  pub heap : state.memory.heap ≡ ghosts.heap

-- It may stop, with so many cells made. What wasn't told before stays, and the cells of before are there, beside those
-- that were made since.
pub record Halts {R : Type 0} (Means : R → Heap → Type 0) (t : Turn) (May : Outcome → Type 0) (h : Halt) (old new : Between R) : Type 0 where
  pub memory : Slots
  pub comes : May (halted t (stop_of h.stop) memory)
  pub made : memory.made ≡ h.made
  pub output : new.output ≡ old.output
  pub leaks : new.leaks ≡ old.leaks
  pub stands : Stands Means new.kept (ghosts_of memory)
  pub since : Since t.state.memory memory

-- The run goes on, or ends. Nothing is said where there is too little memory.
abbrev pub ComesTo : {R : Type 0} → (R → Heap → Type 0) → Turn → (Outcome → Type 0) → Result Bool Halt → Between R → Between R → Type 0
ComesTo Means t May (Ok true) old new = GoesOn Means May new
ComesTo Means t May (Ok false) old new = IsEnded Means May new
ComesTo Means t May (Err h) old new = h.stop ≢ stop.Memory → Halts Means t May h old new

-- The store is the one that was lent by the same reference, but where there is too little memory.
abbrev pub LentBy : {R : Type 0} → Result Bool Halt → Between R → Between R → Type 0
LentBy (Ok on) old new = new.kept.heap.lent ≡ old.kept.heap.lent
LentBy (Err h) old new = h.stop ≢ stop.Memory → new.kept.heap.lent ≡ old.kept.heap.lent

-- So it comes to from whatever slots the memory stood for, if no outcome fails.
pub record Steps {R : Type 0} (Means : R → Heap → Type 0) (c : Setting) (p : Point) (r : Result Bool Halt) (old new : Between R) : Type 0 where
  pub steps : (g : Ghosts) → StandAt Means old g → NeverFails (DoneAt c p old g) → ComesTo Means (turn_at c p old g) (DoneAt c p old g) r old new
  pub lent : LentBy r old new

-- From some slots no outcome fails.
pub record CanDo {R : Type 0} (Means : R → Heap → Type 0) (c : Setting) (p : Point) (b : Between R) : Type 0 where
  pub ghosts : Ghosts
  pub stands : StandAt Means b ghosts
  pub fine : NeverFails (DoneAt c p b ghosts)
