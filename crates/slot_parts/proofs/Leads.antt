-- What a step comes to, by what its point may come to from each of the slots that the memory stands for.
use Rattle.std.proofs.Common.{◌≡◌, ◌≢◌, ℕ, true, List, [], ◌++◌, refl, sym, ap, subst, ◌∙◌, Option, Some, None, Result, Ok, Err}
use Rattle.std.specs.Prelude.{OnOk, IfErr}
use Rattle.type_definitions.specs.Types.{Table}
use Rattle.machine.specs.States.{Leak}
use Rattle.slot_heap.specs.Heaps.{Heap}
use Rattle.code_rows.specs.declared.point.Point.{Point as PointRow}
use Rattle.code_rows.specs.declared.codes.Codes.{Codes}
use Rattle.code_rows.specs.declared.stop.Stop.TheVariants as stop
use Rattle.code_rows.specs.Points.{point_of, program_of}
use Rattle.run_codes.specs.Codes.{Point}
use Rattle.run_codes.specs.Programs.{Program}
use Rattle.run_results.specs.Results.{leaks_of}
use Rattle.handled_runs.specs.Slots.{Slots}
use Rattle.handled_steps.specs.States.{Outcome, Turn, goes, leaking_goes}
use Rattle.slot_memory.specs.Memory.{Kept, Ghosts, Shows, Elsewhere, ghosts_of, elsewhere}
use Rattle.slot_frames.specs.Stacks.{Stacked}
use Rattle.slot_runs.specs.Turns.{Setting, NeverFails}
use Rattle.slot_stages.specs.Leads.{LeadsTo}
use Rattle.slot_entries.specs.Entries.{stacked_words}
use Rattle.slot_leads.proofs.Led.{led_bytes, led_between, led_goes, led_telling}
use Rattle.slot_turns.specs.declared.halt.Halt.{Halt}
use Rattle.slot_turns.specs.Betweens.{StandAt}
use Rattle.slot_turns.specs.Steps.{turn_at, DoneAt}
use Rattle.slot_parts.specs.declared.parts.Parts.{Parts}
use Rattle.slot_parts.specs.Stages.{between_of, setting_of, IsAt}
use Rattle.slot_parts.specs.Steps.{AreLeft, StepsOf, as_going}
use Rattle.slot_parts.specs.Ways.{MayGo, MayTell, MayHalt}

-- What the memory shows.
shown_made : {R : Type 0} (Means : R → Heap → Type 0) (m : Kept R) (s : Slots) → Shows Means m s → s.made ≡ m.heap.made
shown_made Means m s is = sym (ap (λ (x : Slots). x.made) is.1)

-- Where the run goes on changes nothing of the store.
pub led_lent : {R : Type 0} (table : Table) (program : Program) (k : ℕ) (next : Option ℕ) (m q : Kept R) (s t : Stacked) → LeadsTo table program k next m s q t → q.heap.lent ≡ m.heap.lent
led_lent table program k (Some n) m q s t to = ap (λ (x : Kept _). x.heap.lent) to.0
led_lent table program k None m q s t to = ap (λ (x : Kept _). x.heap.lent) to.memory

module _ {R : Type 0} (Means : R → Heap → Type 0) (codes : Codes) (table : Table) (point : PointRow) (k : ℕ) (old : Parts R) (at : IsAt Means codes table point k old) where
  abbrev c : Setting
  c = setting_of codes table old.memory.input

  abbrev p : Point
  p = point_of codes point

  abbrev here : Ghosts → Turn
  here g = turn_at c p (between_of old) g

  abbrev May : Ghosts → Outcome → Type 0
  May g = DoneAt c p (between_of old) g

  -- ---- it goes on

  module _ (m : Kept R) (same : elsewhere m ≡ elsewhere old.memory) (next : Option ℕ) (new : Parts R)
      (to : LeadsTo table (program_of codes) k next m old.frames new.memory new.frames) (words : new.words ≡ stacked_words new.frames) (output : new.output.items ≡ old.output.items) where
    left_by : (g : Ghosts) → StandAt Means (between_of old) g → (s : Slots) → Shows Means m s → s.moves ≡ [] → AreLeft old new
    left_by g stands s shows settled = record {
      between = led_between Means c p k (between_of old) g at.between stands at.latest m (ghosts_of s) shows.0 settled same next (between_of new) to;
      words = words;
      input = led_bytes Means c p k (between_of old) g at.between stands at.latest m (ghosts_of s) shows.0 settled same next (between_of new) to;
    }

    lent_by : new.memory.heap.lent ≡ old.memory.heap.lent
    lent_by = led_lent table (program_of codes) k next m new.memory old.frames new.frames to ∙ ap (λ (e : Elsewhere). e.lent) same

    pub goes_by : new.leaks.items ≡ old.leaks.items → ((g : Ghosts) → StandAt Means (between_of old) g → NeverFails (May g) → MayGo Means (here g) (May g) m next)
        → StepsOf Means codes table point (Ok true) old new
    goes_by leaks goes_on =
        let first = goes_on at.can.ghosts at.can.stands at.can.fine in
        record {
          steps = record {
            steps = λ g stands fine.
                let x = goes_on g stands fine in
                led_goes Means c p k (between_of old) g at.between stands at.latest m (ghosts_of x.after) x.shows.0 x.settled same next (between_of new) to
                output (ap leaks_of leaks) (subst (λ s. May g (goes (here g) s next)) (sym x.shows.1) x.comes);
            lent = lent_by;
          };
          left = left_by at.can.ghosts at.can.stands first.after first.shows first.settled;
        }

    pub tells_by : (leaks : List Leak) → leaks_of new.leaks.items ≡ leaks_of old.leaks.items ++ leaks
        → ((g : Ghosts) → StandAt Means (between_of old) g → NeverFails (May g) → MayTell Means (here g) (May g) m next leaks)
        → StepsOf Means codes table point (Ok true) old new
    tells_by leaks told goes_on =
        let first = goes_on at.can.ghosts at.can.stands at.can.fine in
        record {
          steps = record {
            steps = λ g stands fine.
                let x = goes_on g stands fine in
                led_telling Means c p k (between_of old) g at.between stands at.latest m (ghosts_of x.after) x.shows.0 x.settled same next (between_of new) to
                leaks output told (subst (λ s. May g (leaking_goes (here g) leaks s next)) (sym x.shows.1) x.comes);
            lent = lent_by;
          };
          left = left_by at.can.ghosts at.can.stands first.after first.shows first.settled;
        }

  -- ---- it stops

  pub halts_by : (h : Halt) (new : Parts R) → (h.stop ≢ stop.Memory → new.memory.heap.lent ≡ old.memory.heap.lent) → new.output.items ≡ old.output.items → new.leaks.items ≡ old.leaks.items
      → (h.stop ≢ stop.Memory → (g : Ghosts) → StandAt Means (between_of old) g → NeverFails (May g) → MayHalt Means (here g) (May g) new.memory h)
      → StepsOf Means codes table point (Err h) old new
  halts_by h new lent output leaks halts = record {
    steps = record {
      steps = λ g stands fine other.
          let x = halts other g stands fine in
          record { memory = x.after; comes = x.comes; made = x.made; output = output; leaks = ap leaks_of leaks; stands = x.shows.0; since = x.since };
      lent = lent;
    };
    left = tt;
  }

  -- Nothing is told where there is too little memory.
  pub memory_by : (h : Halt) (new : Parts R) → h.stop ≡ stop.Memory → StepsOf Means codes table point (Err h) old new
  memory_by h new memory = record { steps = record { steps = λ g stands fine other. absurd (other memory); lent = λ other. absurd (other memory) }; left = tt }

  -- By what is known where it goes on.
  pub leads_by : {U : Type 0} (r : Result U Halt) (new : Parts R) (Led : Type 0) → OnOk r Led → IfErr r (λ h. h.stop ≡ stop.Memory)
      → (Led → StepsOf Means codes table point (Ok true) old new) → StepsOf Means codes table point (as_going r) old new
  leads_by (Ok u) new Led led memory goes_on = goes_on led
  leads_by (Err h) new Led led memory goes_on = memory_by h new memory
