-- Actuals that are passed, and room for the frame.
use Rattle.std.proofs.Common.{◌≡◌, ◌+◌, ◌-◌, ℕ, Bool, true, false, List, take, drop, slice_range, refl, sym, ap, subst, ◌∙◌, arith, IsTrue, Ok, Err, if◌then◌else◌}
use Rattle.std.specs.List.{list_all}
use Rattle.type_definitions.specs.Types.{Table}
use Rattle.machine.specs.Evaluate.{StorageError}
use Rattle.slot_heap.specs.Heaps.{Heap}
use Rattle.run_codes.specs.Codes.{Sub, Actual}
use Rattle.run_codes.specs.Flat.{Raises}
use Rattle.run_codes.specs.Points.{Passed}
use Rattle.code_rows.specs.declared.range.Range.{Range}
use Rattle.code_rows.specs.declared.rows.Rows.{Rows}
use Rattle.code_rows.specs.declared.stop.Stop.{Stop}
use Rattle.code_rows.specs.Stops.{stop_of}
use Rattle.code_rows.specs.declared.codes.Codes.{Codes}
use Rattle.code_rows.specs.Points.{some, is_actual_there, are_sound, are_all_there, AreSound, IsWhole}
use Rattle.code_rows.proofs.Grown.{and_first}
use Rattle.code_rows.proofs.Kept.{all_some, all_actuals, rows_none}
use Rattle.handled_runs.specs.Slots.{Slots}
use Rattle.handled_steps.specs.Steps.{Passes, Stopping, Failing, PassesAll}
use Rattle.slot_memory.specs.Memory.{Kept, slots}
use Rattle.slot_formals.specs.slot_calls.Calls.{PassableAll, PassedAll}
use Rattle.slot_called.specs.Calls.{has_room, PassesTested, PassedTested, Callable}

-- ---- rows

range_is : {A : Type 0} (xs : List A) (r : Range) → slice_range xs r.first (r.first + r.count) ≡ some xs r
range_is xs r = ap (λ n. take n (drop r.first xs)) (less r.first r.count)
  where
    less : (a b : ℕ) → a + b - a ≡ b
    less a b = omega arith

-- Rows of a program that is whole are sound.
pub sound_rows : (codes : Codes) → IsWhole codes → AreSound codes.rows
sound_rows codes whole = and_first (are_sound codes.rows) (are_all_there codes) whole

pub sound_actuals : (rows : Rows) (r : Range) → AreSound rows → IsTrue (list_all (is_actual_there rows) (slice_range rows.actuals.items r.first (r.first + r.count)))
sound_actuals rows r sound =
    subst (λ rest. IsTrue (list_all (is_actual_there rows) rest)) (sym (range_is rows.actuals.items r))
    (all_some (is_actual_there rows) rows.actuals.items r (all_actuals rows rows (rows_none rows) sound))

-- ---- room

module _ {R : Type 0} (Means : R → Heap → Type 0) (m : Kept R) (table : Table) (sub : Sub) (words : ℕ) (actuals : List Actual) where
  all_safe : (s : Slots) → (PassesTested table sub words actuals s Failing → ⊥) → PassesAll table actuals s Failing → ⊥
  all_safe s safe fails = safe (Failing, fails, refl)

  pub can_pass : Callable Means m table sub words actuals → PassableAll Means m table actuals
  can_pass is = record { ghosts = is.ghosts; stands = is.stands; whole = all_safe (slots m is.ghosts) is.can.passes }

  pub tested_stops : {U V : Type 0} (x : Stop) (ps qs : List Passed) (n : Kept R) → PassedAll {U = U} Means m table actuals (Err x) ps n
      → PassedTested {U = V} Means m table sub words actuals (Err x) qs n
  tested_stops x ps qs n is = record {
    passed = λ g stands safe other.
        let stopped = is.passed g stands (all_safe (slots m g) safe) other in
        record { after = stopped.after; may = (Stopping (stop_of x) stopped.after, stopped.may, refl); shows = stopped.shows };
  }

  pub tested_passes : {U V : Type 0} (u : U) (v : V) (ps : List Passed) (n : Kept R) → has_room sub words ≡ true → PassedAll Means m table actuals (Ok u) ps n
      → PassedTested Means m table sub words actuals (Ok v) ps n
  tested_passes u v ps n room is = record {
    passed = λ g stands safe.
        let given = is.passed g stands (all_safe (slots m g) safe) in
        record {
          after = given.after;
          may = (
            Passes ps given.after,
            given.may,
            sym (ap (λ (b : Bool). if b then Passes ps given.after else Stopping (Raises StorageError) given.after) room),
          );
          shows = given.shows;
        };
  }

  pub tested_full : {U V : Type 0} (u : U) (x : Stop) (ps qs : List Passed) (n : Kept R) → has_room sub words ≡ false → stop_of x ≡ Raises StorageError
      → PassedAll Means m table actuals (Ok u) ps n → PassedTested {U = V} Means m table sub words actuals (Err x) qs n
  tested_full u x ps qs n room raises is = record {
    passed = λ g stands safe other.
        let given = is.passed g stands (all_safe (slots m g) safe) in
        record {
          after = given.after;
          may = (
            Passes ps given.after,
            given.may,
            ap (λ y. Stopping y given.after) raises
                ∙ sym (ap (λ (b : Bool). if b then Passes ps given.after else Stopping (Raises StorageError) given.after) room),
          );
          shows = given.shows;
        };
  }

pub ruleset tested_rules = (can_pass, tested_stops, tested_passes, tested_full)
