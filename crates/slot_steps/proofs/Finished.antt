-- The step at the end of a call: what is asked for, and what it comes to.
use Rattle.std.proofs.Common.{◌≡◌, ◌≢◌, ℕ, Bool, true, false, ap, Ok, Err}
use Rattle.type_definitions.specs.Types.{Table}
use Rattle.slot_heap.specs.Heaps.{Heap}
use Rattle.code_rows.specs.declared.point.Point.{Point as PointRow}
use Rattle.code_rows.specs.declared.point.Does.TheVariants as row
use Rattle.code_rows.specs.declared.codes.Codes.{Codes}
use Rattle.code_rows.specs.declared.stop.Stop.TheVariants as stop
use Rattle.code_rows.specs.Points.{point_of, does_of}
use Rattle.run_codes.specs.Codes.{Point, Finish}
use Rattle.run_results.specs.Results.{leaks_of}
use Rattle.slot_frames.specs.Parts.{own_returns}
use Rattle.slot_entries.specs.Entries.{stacked_words}
use Rattle.slot_returns.specs.Backs.{CanCopy, CopiesAll}
use Rattle.slot_runs.specs.Turns.{Setting}
use Rattle.slot_finished.specs.Ends.{IsFinished}
use Rattle.slot_finished.proofs.Steps.{can_finish, finish_on, finish_left, finish_off}
use Rattle.slot_turns.specs.declared.halt.Halt.{Halt}
use Rattle.slot_tells.specs.slot_parts.declared.parts.Parts.{Parts}
use Rattle.slot_tells.specs.slot_parts.Stages.{between_of, setting_of, IsAt}
use Rattle.slot_tells.specs.slot_parts.Steps.{AreLeft, LeftBy, StepsOf}

module _ {R : Type 0} (Means : R → Heap → Type 0) (codes : Codes) (table : Table) (point : PointRow) (k : ℕ) (old : Parts R) (at : IsAt Means codes table point k old)
    (does : point.does ≡ row.Finish) where
  abbrev c : Setting
  c = setting_of codes table old.memory.input

  abbrev p : Point
  p = point_of codes point

  ends : p.does ≡ Finish
  ends = ap (does_of codes.rows) does

  pub finish_can : CanCopy Means old.memory table (own_returns old.frames)
  finish_can = can_finish Means c p k (between_of old) ends at.between at.latest at.taken at.can

  left_by : (others : Bool) (new : Parts R) → AreLeft old new → LeftBy (Ok others) old new
  left_by true new left = left
  left_by false new left = tt

  -- A frame that waited runs, or the main procedure ends.
  pub finish_goes : (others : Bool) (new : Parts R) → IsFinished Means old.memory table (own_returns old.frames) others old.frames new.memory new.frames → new.words ≡ stacked_words new.frames
      → new.memory.heap.lent ≡ old.memory.heap.lent → new.output.items ≡ old.output.items → new.leaks.items ≡ old.leaks.items → StepsOf Means codes table point (Ok others) old new
  finish_goes others new is words lent output leaks =
      let left = finish_left Means c p k (between_of old) ends at.between at.latest at.taken at.can others (between_of new) is in
      record {
        steps = finish_on Means c p k (between_of old) ends at.between at.latest at.taken others (between_of new) is lent output (ap leaks_of leaks);
        left = left_by others new (record { between = left.0; words = words; input = left.1 });
      }

  -- It stops.
  pub finish_halts : (h : Halt) (new : Parts R) → CopiesAll {U = Unit {0}} Means old.memory table (own_returns old.frames) (Err h.stop) new.memory → h.made ≡ new.memory.heap.made
      → (h.stop ≢ stop.Memory → new.memory.heap.lent ≡ old.memory.heap.lent) → new.output.items ≡ old.output.items → new.leaks.items ≡ old.leaks.items → StepsOf Means codes table point (Err h) old new
  finish_halts h new is made lent output leaks = record {
    steps = finish_off Means c p k (between_of old) ends at.between at.latest at.taken h (between_of new) is made lent output (ap leaks_of leaks);
    left = tt;
  }
