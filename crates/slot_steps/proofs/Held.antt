-- The result of a function waits in the frame of its caller: what is asked for, and what the step comes to.
use Rattle.std.proofs.Common.{◌≡◌, ◌≢◌, ◌≤◌, sym, ap, subst, ◌∙◌, ℕ, true, List, length, Ok, Err}
use Rattle.std.specs.Prelude.{IsTrue}
use Rattle.type_definitions.specs.Types.{Table}
use Rattle.slot_heap.specs.Heaps.{Heap}
use Rattle.code_rows.specs.declared.point.Point.{Point as PointRow}
use Rattle.code_rows.specs.declared.point.Does.TheVariants as row
use Rattle.code_rows.specs.declared.codes.Codes.{Codes}
use Rattle.code_rows.specs.declared.stop.Stop.TheVariants as stop
use Rattle.code_rows.specs.Values.{fill_at}
use Rattle.code_rows.specs.Points.{point_of, program_of, next_of, does_of, is_value, is_does_there}
use Rattle.run_codes.specs.Codes.{Point, Fill}
use Rattle.handled_runs.specs.Slots.{Slots}
use Rattle.code_rows.specs.Stops.{stop_of}
use Rattle.run_results.specs.Results.{leaks_of}
use Rattle.handled_steps.specs.States.{State, Outcome, Goes, Turn, halted}
use Rattle.handled_steps.specs.Steps as steps
use Rattle.handled_steps.specs.Steps.{Done}
use Rattle.slot_memory.specs.Memory.{Kept, Ghosts, Stands, Shows, Elsewhere, slots}
use Rattle.slot_runs.specs.Turns.{Setting, NeverFails, bare}
use Rattle.slot_stages.specs.Stages.{Stage, IsStage, state_of}
use Rattle.slot_entries.specs.Entries.{stacked_words}
use Rattle.slot_called.specs.slot_held.Holds.{Holdable, Holding, IsHeld}
use Rattle.slot_called.proofs.slot_held.Laws as held
use Rattle.slot_turns.specs.declared.halt.Halt.{Halt}
use Rattle.slot_turns.specs.Betweens.{stage_of, StandAt}
use Rattle.slot_turns.specs.Steps.{turn_at, DoneAt}
use Rattle.slot_tells.specs.slot_parts.declared.parts.Parts.{Parts}
use Rattle.slot_tells.specs.slot_parts.Stages.{between_of, setting_of, IsAt}
use Rattle.slot_tells.specs.slot_parts.Steps.{AreLeft, StepsOf}
use Rattle.slot_tells.proofs.slot_parts.Sights.{does_at, stage_at}
use Rattle.slot_tells.proofs.slot_parts.Leads.{halts_by}

-- What the memory stands for has as many cells made.
pub shown_made : {R : Type 0} (Means : R → Heap → Type 0) (m : Kept R) (s : Slots) → Shows Means m s → s.made ≡ m.heap.made
shown_made Means m s is = sym (ap (λ (x : Slots). x.made) is.1)

module _ {R : Type 0} (Means : R → Heap → Type 0) (codes : Codes) (table : Table) (point : PointRow) (k : ℕ) (old : Parts R) (at : IsAt Means codes table point k old)
    (value of next : ℕ) (does : point.does ≡ row.Hold value of next) where
  abbrev c : Setting
  c = setting_of codes table old.memory.input

  abbrev p : Point
  p = point_of codes point

  abbrev v : Fill
  v = fill_at codes.rows.nodes codes.rows.fills value

  abbrev here : Ghosts → Turn
  here g = turn_at c p (between_of old) g

  abbrev stage : Ghosts → Stage R
  stage g = stage_of (between_of old) g

  may : (g : Ghosts) (o : Outcome) → steps.Holds (here g) v of (next_of next) o → DoneAt c p (between_of old) g o
  may g o is = subst (λ d. Done (here g) (does_of codes.rows d) o) (sym does) is

  fine_at : (g : Ghosts) → NeverFails (DoneAt c p (between_of old) g) → NeverFails (steps.Holds (here g) v of (next_of next))
  fine_at g fine o is = fine o (may g o is)

  -- The memory is the one that the point is evaluated by.
  same_memory : (g : Ghosts) → held.taking (stage g) k ≡ old.memory
  same_memory g = ap (λ n. record old.memory { taken = n }) (sym at.taken)

  stands_at : (g : Ghosts) → StandAt Means (between_of old) g → Stands Means (held.taking (stage g) k) g
  stands_at g stands = record { cells = stands.memory.cells; moves = stands.memory.moves }

  -- ---- what is asked for

  pub hold_there : IsTrue (is_value codes.rows value)
  hold_there = subst (λ d. IsTrue (is_does_there codes.rows d)) does (does_at Means codes table point k old at)

  pub hold_can : Holdable Means old.memory table v
  hold_can =
      let g : Ghosts = at.can.ghosts in
      subst (λ m. Holdable Means m table v) (same_memory g)
      (held.can_hold Means table (program_of codes) p (stage g) k of next v (stage_at Means codes table point k old at g at.can.stands) at.latest (stands_at g at.can.stands)
      (fine_at g at.can.fine))

  -- ---- what it comes to

  goes_at : {U : Type 0} (u : U) (new : Parts R) → Holding Means old.memory table v (Ok u) old.frames k of next new.memory new.frames → (g : Ghosts)
      → StandAt Means (between_of old) g → NeverFails (DoneAt c p (between_of old) g)
      → (s : State) × (h : Ghosts) × steps.Holds (here g) v of (next_of next) (Goes s)
      × (bare s ≡ state_of (held.stage new.memory h new.frames old.output.items (leaks_of old.leaks.items)))
      × IsStage (held.stage new.memory h new.frames old.output.items (leaks_of old.leaks.items)) × Stands Means new.memory h
  goes_at {U} u new holds g stands fine =
      held.held_goes Means table (program_of codes) p (stage g) k of next v (stage_at Means codes table point k old at g stands) at.latest (stands_at g stands) (fine_at g fine)
      u new.memory new.frames
      (subst (λ m. Holding {U = U} Means m table v (Ok u) old.frames k of next new.memory new.frames) (sym (same_memory g)) holds)

  -- Where the input is read, and which words count, doesn't change.
  left_by : {U : Type 0} (u : U) (new : Parts R) → Holding Means old.memory table v (Ok u) old.frames k of next new.memory new.frames → new.words ≡ old.words → AreLeft old new
  left_by u new holds words =
      let can : Holdable Means old.memory table v = hold_can in
      let h : IsHeld Means (slots old.memory can.ghosts) old.memory table v old.frames k of next new.memory new.frames
      = holds.holds can.ghosts can.stands can.fills can.settles in
      let is = (goes_at u new holds at.can.ghosts at.can.stands at.can.fine).4 in
      let input : new.memory.input ≡ old.memory.input = ap (λ (m : Kept R). m.input) h.waits.kept_is ∙ ap (λ (e : Elsewhere). e.input) h.same in
      let read : new.memory.read ≡ old.memory.read = ap (λ (m : Kept R). m.read) h.waits.kept_is ∙ ap (λ (e : Elsewhere). e.read) h.same in
      record {
        between = record {
          stacked = is.stacked;
          base = is.base;
          read = subst (λ (bytes : List ℕ). new.memory.read ≤ length bytes) (sym input) (subst (λ n. n ≤ length old.memory.input) (sym read) at.between.read);
        };
        words = words ∙ (at.words ∙ sym (ap stacked_words h.waits.stacked_is));
        input = input;
      }

  -- It goes on.
  pub hold_goes : {U : Type 0} (u : U) (new : Parts R) → Holding Means old.memory table v (Ok u) old.frames k of next new.memory new.frames → new.words ≡ old.words → new.memory.heap.lent ≡ old.memory.heap.lent
      → new.output.items ≡ old.output.items → new.leaks.items ≡ old.leaks.items → StepsOf Means codes table point (Ok true) old new
  hold_goes u new holds words lent output leaks = record {
    steps = record {
      steps = λ g stands fine.
          let x = goes_at u new holds g stands fine in
          record {
            state = x.0;
            comes = may g (Goes x.0) x.2;
            ghosts = x.1;
            stands = record { memory = x.5; settled = x.4.settled };
            same =
                x.3 ∙ ap (λ os. state_of (held.stage new.memory x.1 new.frames os (leaks_of old.leaks.items))) (sym output)
                ∙ ap (λ ls. state_of (held.stage new.memory x.1 new.frames new.output.items ls)) (sym (ap leaks_of leaks));
          };
      lent = lent;
    };
    left = left_by u new holds words;
  }

  -- It stops, with so many cells made.
  pub hold_halts : {U : Type 0} (h : Halt) (new : Parts R) → Holding {U = U} Means old.memory table v (Err h.stop) old.frames k of next new.memory new.frames → (h.stop ≢ stop.Memory → new.memory.heap.lent ≡ old.memory.heap.lent) → new.output.items ≡ old.output.items
      → new.leaks.items ≡ old.leaks.items → h.made ≡ new.memory.heap.made → StepsOf Means codes table point (Err h) old new
  hold_halts {U} h new holds lent output leaks made =
      halts_by Means codes table point k old at h new lent output leaks
      (λ other g stands fine.
      let x = held.held_halts Means table (program_of codes) p (stage g) k of next v (stage_at Means codes table point k old at g stands) at.latest (stands_at g stands)
      (fine_at g fine) h.stop new.memory new.frames other
      (subst (λ m. Holding {U = U} Means m table v (Err h.stop) old.frames k of next new.memory new.frames) (sym (same_memory g)) holds) in
      record { after = x.0; comes = may g (halted (here g) (stop_of h.stop) x.0) x.1; made = shown_made Means new.memory x.0 x.2 ∙ sym made; shows = x.2; since = x.3 })
