-- The step at the end of a function that has no result.
use Rattle.std.proofs.Common.{◌≡◌, ℕ, refl, sym, ap, subst}
use Rattle.type_definitions.specs.Types.{Table}
use Rattle.machine.specs.Evaluate.{ProgramError}
use Rattle.slot_heap.specs.Heaps.{Heap}
use Rattle.code_rows.specs.declared.point.Point.{Point as PointRow}
use Rattle.code_rows.specs.declared.point.Does.TheVariants as does
use Rattle.code_rows.specs.declared.codes.Codes.{Codes}
use Rattle.code_rows.specs.declared.stop.Stop.TheVariants as stop
use Rattle.code_rows.specs.declared.stop.Exception.TheVariants as exception
use Rattle.code_rows.specs.Points.{point_of, does_of}
use Rattle.run_codes.specs.Codes.{Point}
use Rattle.run_codes.specs.Flat.{Raises}
use Rattle.handled_steps.specs.States.{Turn, halted}
use Rattle.handled_steps.specs.Steps.{Done}
use Rattle.slot_memory.specs.Memory.{Ghosts, slots}
use Rattle.slot_runs.specs.Turns.{Setting}
use Rattle.slot_turns.specs.Betweens.{StandAt}
use Rattle.slot_turns.specs.Steps.{turn_at, DoneAt}
use Rattle.slot_turns.proofs.Made.{none_here}
use Rattle.slot_tells.specs.slot_parts.declared.parts.Parts.{Parts}
use Rattle.slot_tells.specs.slot_parts.Stages.{between_of, setting_of, IsAt}
use Rattle.slot_tells.specs.slot_parts.Ways.{MayHalt}
use Rattle.slot_tells.proofs.slot_parts.Sights.{start_now}

module _ {R : Type 0} (Means : R → Heap → Type 0) (codes : Codes) (table : Table) (point : PointRow) (k : ℕ) (old : Parts R) (at : IsAt Means codes table point k old)
    (is : point.does ≡ does.Fall) (g : Ghosts) (stands : StandAt Means (between_of old) g) where
  abbrev c : Setting
  c = setting_of codes table old.memory.input

  abbrev p : Point
  p = point_of codes point

  abbrev t : Turn
  t = turn_at c p (between_of old) g

  comes : DoneAt c p (between_of old) g (halted t (Raises ProgramError) (slots old.memory g))
  comes =
      subst (λ d. Done t (does_of codes.rows d) (halted t (Raises ProgramError) (slots old.memory g))) (sym is)
      (ap (halted t (Raises ProgramError)) (sym (start_now Means codes table point k old at g stands)))

  pub fall_halts : (made : ℕ) → made ≡ old.memory.heap.made
      → MayHalt Means t (DoneAt c p (between_of old) g) old.memory (record { stop = stop.Raises exception.ProgramError; made = made })
  fall_halts made counted = record {
    after = slots old.memory g;
    comes = comes;
    made = sym counted;
    shows = (stands.memory, refl);
    since = none_here Means c p (between_of old) g stands;
  }
