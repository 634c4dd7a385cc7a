-- The next step as a turn of a run.
use Rattle.std.proofs.Common.{◌≡◌, ◌<◌, ℕ, [], length, refl, sym, subst, Option, Some, None}
use Rattle.std.specs.Prelude.{slice_get, IsTrue}
use Rattle.type_definitions.specs.Types.{Table}
use Rattle.slot_heap.specs.Heaps.{Heap}
use Rattle.code_rows.specs.declared.point.Point.{Point as PointRow}
use Rattle.code_rows.specs.declared.codes.Codes.{Codes}
use Rattle.code_rows.specs.Points.{some, point_of, program_of, is_point_there, is_does_there, is_range, IsWhole}
use Rattle.code_rows.proofs.Grown.{and_second}
use Rattle.run_codes.specs.Codes.{Point}
use Rattle.run_results.specs.Results.{ending_of}
use Rattle.handled_steps.specs.States.{Ends}
use Rattle.slot_memory.specs.Memory.{Kept, Ghosts, slots}
use Rattle.slot_frames.specs.Frames.{word_at, AreLatest}
use Rattle.slot_runs.specs.Turns.{Setting, Inside, OneStep, NeverFails, Turns}
use Rattle.slot_runs.specs.Turns as runs
use Rattle.slot_entries.specs.Entries.{stacked_words}
use Rattle.slot_stages.specs.Stages.{state_of}
use Rattle.slot_stages.proofs.Turns.{step_is, done_fine}
use Rattle.slot_turns.specs.declared.overs.Over.{Over}
use Rattle.slot_turns.specs.Betweens.{Between, stage_of, untold_of, StandAt, taking}
use Rattle.slot_turns.specs.Steps.{DoneAt}
use Rattle.slot_turns.specs.Overs.{IsOver}
use Rattle.slot_turns.specs.Runs.{IsInside, IsCountedAs, turned}
use Rattle.slot_turns.proofs.Turned.{point_there, taking_stands, taking_between, can_do, turns_to}
use Rattle.slot_steps.specs.slot_parts.declared.parts.Parts.{Parts}
use Rattle.slot_steps.specs.slot_parts.Stages.{between_of, setting_of, IsAt}
use Rattle.slot_running.specs.Runs.{CanTurn, IsTurn}
use Rattle.slot_running.specs.Points.{IsPointTurn}

-- ---- a run that is over after a step

module _ {R : Type 0} (Means : R → Heap → Type 0) (c : Setting) (p : Point) (k : ℕ) (old : Between R)
    (there : slice_get c.program.points old.stacked.frame.next ≡ Some p) (latest : AreLatest old.stacked p.takes k) where
  pub turns_over : (over : Over) (new : Between R)
      → ((g : Ghosts) → StandAt Means (taking old k) g → NeverFails (DoneAt c p (taking old k) g) → IsOver Means (DoneAt c p (taking old k) g) over new)
      → Turns c (untold_of old) (IsInside Means old c.input) (turned (Some over)) (untold_of new) (IsCountedAs Means over new)
  turns_over over new comes x at runs_on fine =
      let r = stage_of old at.ghosts in
      let P : Inside → Type 0 = λ y. runs.IsTurned (OneStep c (runs.state_of (untold_of old) y)) (turned (Some over)) (untold_of new) (IsCountedAs Means over new) in
      let here : NeverFails (OneStep c (state_of r)) = subst (λ y. NeverFails (OneStep c (runs.state_of (untold_of old) y))) at.is fine in
      let done : NeverFails (DoneAt c p (taking old k) at.ghosts) = done_fine c r p k there at.bytes latest here in
      let is = comes at.ghosts (taking_stands Means old k at.ghosts at.stands) done in
      let m = record (slots old.kept at.ghosts) { heap = is.state.memory.heap; made = over.made; freed = over.freed } in
      subst P (sym at.is) (record {
        state = is.state;
        comes = step_is c r p k (Ends (ending_of over.ending) is.state) there at.bytes latest is.comes;
        inside = record { memory = m; frames = []; at = 0 };
        stands = record { frames = refl; made = refl; freed = refl; means = is.means };
        seen = record { output = is.output; leaks = is.leaks; made = is.made; freed = is.freed; heap = refl };
      })

-- ---- the next point

module _ {R : Type 0} (Means : R → Heap → Type 0) (codes : Codes) (table : Table) (old : Parts R) (can : CanTurn Means codes table old) where
  abbrev c : Setting
  c = setting_of codes table old.memory.input

  fine_here : NeverFails (OneStep c (state_of (stage_of (between_of old) can.stands.ghosts)))
  fine_here = subst (λ y. NeverFails (OneStep c (runs.state_of (untold_of (between_of old)) y))) can.stands.is can.there

  pub point_here : old.frames.frame.next < length codes.points.items
  point_here = point_there c (stage_of (between_of old) can.stands.ghosts) (point_of codes) codes.points.items refl fine_here

  module _ (whole : IsWhole codes) (words : old.words ≡ stacked_words old.frames) (point : PointRow)
      (there : slice_get (program_of codes).points old.frames.frame.next ≡ Some (point_of codes point)) (sound : IsTrue (is_point_there codes point)) where
    pub takes_here : IsTrue (is_range codes.types.items point.takes)
    takes_here = and_second (is_does_there codes.rows point.does) (is_range codes.types.items point.takes) sound

    module _ (k : ℕ) (latest : AreLatest old.frames (some codes.types.items point.takes) k) where
      abbrev taken : Kept R
      taken = record old.memory { taken = word_at old.frames.waits k (length old.memory.waits) }

      -- The frame is at the point.
      pub at_point : (m : Kept R) → m ≡ taken → IsAt Means codes table point k (record old { memory = m })
      at_point m is = subst (λ m. IsAt Means codes table point k (record old { memory = m })) (sym is) (record {
        whole = whole;
        there = sound;
        between = taking_between (between_of old) k can.stands.between;
        words = words;
        latest = latest;
        taken = refl;
        can = can_do Means c (point_of codes point) k (between_of old) there latest can.inside can.stands can.there;
      })

      -- What it comes to is a turn of the run.
      turn_here : (new : Parts R) (over : Option Over) → IsPointTurn Means codes table point over (record old { memory = taken }) new
          → IsTurn Means codes table over old new
      turn_here new None is = record {
        turns = turns_to Means c (point_of codes point) k (between_of old) there latest None (between_of new) is.kept.0.between is.kept.0.input is.turns;
        kept = (is.kept.1, is.kept.0.words);
        lent = is.lent;
      }
      turn_here new (Some over) is = record {
        turns = turns_over Means c (point_of codes point) k (between_of old) there latest over (between_of new) is.turns;
        kept = tt;
        lent = is.lent;
      }

      pub turn_is : (m : Kept R) (new : Parts R) (over : Option Over) → m ≡ taken → IsPointTurn Means codes table point over (record old { memory = m }) new
          → IsTurn Means codes table over old new
      turn_is m new over same is = turn_here new over (subst (λ m. IsPointTurn Means codes table point over (record old { memory = m }) new) same is)
