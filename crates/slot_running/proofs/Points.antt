-- The step of a point as a turn of a run.
use Rattle.std.proofs.Common.{◌≡◌, ◌≢◌, ◌-◌, ◌+◌, ◌∙◌, ℕ, ap, true, false, Ok, Err, Some, None, refl}
use Rattle.type_definitions.specs.Types.{Table}
use Rattle.slot_heap.specs.Heaps.{Heap}
use Rattle.code_rows.specs.declared.point.Point.{Point as PointRow}
use Rattle.code_rows.specs.declared.codes.Codes.{Codes}
use Rattle.code_rows.specs.Points.{point_of}
use Rattle.code_rows.specs.declared.stop.Stop.TheVariants as stop
use Rattle.run_codes.specs.Codes.{Point}
use Rattle.run_results.specs.declared.ran.Ending.TheVariants as ending
use Rattle.slot_memory.specs.Memory.{IsKnown}
use Rattle.slot_memory.specs.Given.{CanGive}
use Rattle.slot_runs.specs.Turns.{Setting}
use Rattle.slot_turns.specs.declared.halt.Halt.{Halt}
use Rattle.slot_turns.specs.declared.overs.Over.{Over}
use Rattle.slot_turns.specs.Steps.{turn_at, DoneAt}
use Rattle.slot_turns.proofs.Ended.{ended_over, can_give, halts_over, counted_freed, not_memory}
use Rattle.slot_steps.specs.slot_parts.declared.parts.Parts.{Parts}
use Rattle.slot_steps.specs.slot_parts.Stages.{between_of, setting_of, IsAt}
use Rattle.slot_steps.specs.slot_parts.Steps.{StepsOf}
use Rattle.slot_running.specs.Points.{IsHalted, IsPointTurn}

module _ {R : Type 0} (Means : R → Heap → Type 0) (codes : Codes) (table : Table) (point : PointRow) (k : ℕ) (old new : Parts R) (at : IsAt Means codes table point k old) where
  abbrev c : Setting
  c = setting_of codes table old.memory.input

  abbrev p : Point
  p = point_of codes point

  pub known_at : IsKnown Means old.memory
  known_at = (at.can.ghosts, at.can.stands.memory)

  -- The run goes on.
  pub on_turn : StepsOf Means codes table point (Ok true) old new → IsPointTurn Means codes table point None old new
  on_turn is =
      let x = is.steps.steps at.can.ghosts at.can.stands at.can.fine in
      record { turns = is.steps.steps; kept = (is.left, (x.ghosts, x.stands.memory)); lent = is.steps.lent }

  -- It is over after the end of the main procedure.
  pub end_known : StepsOf Means codes table point (Ok false) old new → IsKnown Means new.memory
  end_known is =
      let x = is.steps.steps at.can.ghosts at.can.stands at.can.fine in (x.ghosts, x.stands.memory)

  pub end_turn : (over : Over) → StepsOf Means codes table point (Ok false) old new → over.ending ≡ ending.Normal → over.made ≡ new.memory.heap.made
      → over.freed ≡ new.memory.heap.freed → IsPointTurn Means codes table point (Some over) old new
  end_turn over is normal made freed = record {
    turns = λ g stands fine. ended_over Means (DoneAt c p (between_of old) g) (between_of new) over (is.steps.steps g stands fine) normal made freed;
    kept = tt;
    lent = is.steps.lent;
  }

  -- It is over where the point raises, and the cells that it made are given up.
  pub halt_gives : (h : Halt) (made : ℕ) → StepsOf Means codes table point (Err h) old new → made ≡ old.memory.heap.made → h.stop ≢ stop.Memory → CanGive Means new.memory.heap made
  halt_gives h made is same other =
      let g = at.can.ghosts in
      can_give Means (turn_at c p (between_of old) g) (DoneAt c p (between_of old) g) h (between_of old) (between_of new) made same
      (is.steps.steps g at.can.stands at.can.fine other)

  pub halt_turn : (h : Halt) (made freed : ℕ) (over : Over) (last : Parts R) → StepsOf Means codes table point (Err h) old new → made ≡ old.memory.heap.made
      → freed ≡ old.memory.heap.freed + (old.memory.heap.made - made) → IsHalted Means h point.pos made freed over new last
      → IsPointTurn Means codes table point (Some over) old last
  halt_turn h made freed over last is made_is freed_is halted = record {
    turns = λ g stands fine.
        halts_over Means c p point.pos (between_of old) (between_of new) (between_of last) g h made freed over refl (is.steps.steps g stands fine) halted.given
        (ap (λ (q : Parts R). (between_of q).output) halted.rest) (ap (λ (q : Parts R). (between_of q).leaks) halted.rest) made_is
        (counted_freed old.memory.heap.freed old.memory.heap.made made freed made_is freed_is) halted.counted;
    kept = tt;
    lent = halted.given.lent ∙ is.steps.lent (not_memory h.stop point.pos over.ending halted.counted.ending);
  }
