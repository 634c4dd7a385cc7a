-- Points that read.
use Rattle.std.proofs.Common.{◌≡◌, ◌≤◌, ℕ, true, false, List, [], length, refl, sym, ap, subst, ◌∙◌, ℤ, Option, Some, None, Ok, Err}
use Rattle.std.specs.Prelude.{IsTrue}
use Rattle.type_definitions.specs.Types.{Table}
use Rattle.slot_heap.specs.Heaps.{Heap}
use Rattle.code_rows.specs.declared.point.Point.{Point as PointRow}
use Rattle.code_rows.specs.declared.point.Does.TheVariants as does
use Rattle.code_rows.specs.declared.place.Place.{Place as PlaceRow}
use Rattle.code_rows.specs.declared.codes.Codes.{Codes}
use Rattle.code_rows.specs.declared.stop.Stop.{Stop}
use Rattle.code_rows.specs.Stops.{stop_of}
use Rattle.code_rows.specs.Rows.{code_at, place_of, is_place_below}
use Rattle.code_rows.specs.Points.{next_of, point_of, program_of, does_of, is_does_there}
use Rattle.run_codes.specs.Codes.{Place, Point}
use Rattle.run_codes.specs.Flat.{Got, is_broken}
use Rattle.run_codes.specs.Programs.{Program}
use Rattle.run_results.specs.Results.{leaks_of}
use Rattle.handled_runs.specs.Slots.{Slots}
use Rattle.handled_steps.specs.States.{State, Outcome, Goes, Turn, waiting, after, halted, on_got}
use Rattle.handled_steps.specs.Steps as defined
use Rattle.handled_steps.specs.Steps.{reading, input}
use Rattle.slot_memory.specs.Memory.{Kept, Ghosts, Stands, Elsewhere, slots, ghosts_of, elsewhere}
use Rattle.slot_frames.specs.Stacks.{Stacked}
use Rattle.slot_runs.specs.Turns.{Setting, NeverFails}
use Rattle.slot_stages.specs.Stages.{Stage, state_of}
use Rattle.slot_stages.specs.Leads.{LeadsTo}
use Rattle.slot_stages.proofs.Leads.{IsLed as IsLedStage, led_stage, led_on}
use Rattle.slot_turns.specs.Betweens.{Between, stage_of, StandAt}
use Rattle.slot_turns.specs.Steps.{turn_at, DoneAt, GoesOn}
use Rattle.slot_turns.proofs.Made.{none_here}
use Rattle.slot_parts.proofs.slot_leads.Led.{led_stands, led_between, led_bytes}
use Rattle.slot_points.specs.Changing.{Whole, With, IsDone, Done}
use Rattle.slot_points.specs.Steps.{item_read}
use Rattle.slot_points.proofs.Points.{read_to, input_is}
use Rattle.slot_points.proofs.Reading.{read_within, read_moves}
use Rattle.slot_parts.specs.declared.parts.Parts.{Parts}
use Rattle.slot_parts.specs.Stages.{between_of, setting_of, IsAt}
use Rattle.slot_parts.specs.Steps.{AreLeft, StepsOf}
use Rattle.slot_parts.specs.Goes.{IsLed}
use Rattle.slot_parts.proofs.Sights.{does_at, stage_at, start_now}
use Rattle.slot_parts.proofs.Leads.{led_lent}
use Rattle.slot_tells.proofs.Told.{got_fine}

-- Where a run goes on doesn't depend on how far the input is read.
unread : {R : Type 0} (table : Table) (program : Program) (k : ℕ) (next : Option ℕ) (m q : Kept R) (s t : Stacked) (end : ℕ)
    → LeadsTo table program k next (record m { read = end }) s q t → LeadsTo table program k next m s (record q { read = m.read }) t
unread {R} table program k (Some n) m q s t end to = (ap (λ (x : Kept R). record x { read = m.read }) to.0, to.1)
unread {R} table program k None m q s t end to = record {
  main = to.main;
  has = to.has;
  alone = to.alone;
  memory = ap (λ (x : Kept R). record x { read = m.read }) to.memory;
  frames = to.frames;
}

led_read : {R : Type 0} (table : Table) (program : Program) (k : ℕ) (next : Option ℕ) (m q : Kept R) (s t : Stacked) → LeadsTo table program k next m s q t → q.read ≡ m.read
led_read {R} table program k (Some n) m q s t to = ap (λ (x : Kept R). x.read) to.0
led_read {R} table program k None m q s t to = ap (λ (x : Kept R). x.read) to.memory

module _ {R : Type 0} (Means : R → Heap → Type 0) (codes : Codes) (table : Table) (point : PointRow) (k : ℕ) (old : Parts R) (at : IsAt Means codes table point k old)
    (place : PlaceRow) (low high : ℤ) (n : ℕ) (is : point.does ≡ does.Input place low high n) where
  abbrev c : Setting
  c = setting_of codes table old.memory.input

  abbrev p : Point
  p = point_of codes point

  abbrev here : Ghosts → Turn
  here g = turn_at c p (between_of old) g

  abbrev May : Ghosts → Outcome → Type 0
  May g = DoneAt c p (between_of old) g

  abbrev at_place : Place
  at_place = place_of (code_at codes.rows.nodes) place

  abbrev item : Slots → Got (With ℕ)
  item s = item_read at_place old.memory.input old.memory.read low high s

  abbrev reads : Ghosts → With ℕ → Outcome
  reads g = read_to (here g) (next_of n)

  input_out : (g : Ghosts) → StandAt Means (between_of old) g → input (here g) at_place low high (next_of n) ≡ on_got (here g) (slots old.memory g) (item (slots old.memory g)) (reads g)
  input_out g stands =
      input_is (here g) at_place low high (next_of n)
      ∙ ap (λ s. on_got (here g) s (item s) (reads g)) (start_now Means codes table point k old at g stands)

  may_come : (g : Ghosts) → StandAt Means (between_of old) g → (r : Outcome) → r ≡ on_got (here g) (slots old.memory g) (item (slots old.memory g)) (reads g) → May g r
  may_come g stands r same = subst (λ d. defined.Done (here g) (does_of codes.rows d) r) (sym is) (same ∙ sym (input_out g stands))

  item_fine : (g : Ghosts) → StandAt Means (between_of old) g → NeverFails (May g) → is_broken (item (slots old.memory g)) ≡ false
  item_fine g stands fine =
      let s : Slots = slots old.memory g in
      got_fine (here g) s (item s) (reads g) (fine (on_got (here g) s (item s) (reads g)) (may_come g stands (on_got (here g) s (item s) (reads g)) refl))

  pub input_place : IsTrue (is_place_below (length codes.rows.nodes) place)
  input_place = subst (λ d. IsTrue (is_does_there codes.rows d)) is (does_at Means codes table point k old at)

  pub input_whole : Whole Means old.memory (item_read at_place old.memory.input old.memory.read low high)
  input_whole = record { ghosts = at.can.ghosts; stands = at.can.stands.memory; whole = item_fine at.can.ghosts at.can.stands at.can.fine }

  -- It goes on.
  module _ (m : Kept R) (end : ℕ) (done : Done Means old.memory (item_read at_place old.memory.input old.memory.read low high) (Ok end) m) where
    stored : (g : Ghosts) → StandAt Means (between_of old) g → NeverFails (May g) → IsDone Means (item (slots old.memory g)) end m
    stored g stands fine = done.done g stands.memory (item_fine g stands fine)

    pub input_within : end ≤ length old.memory.input
    input_within =
        let g : Ghosts = at.can.ghosts in
        let d = stored g at.can.stands at.can.fine in
        read_within (slots old.memory g) at_place old.memory.input old.memory.read low high (record { memory = d.after; answer = end }) at.between.read d.is

    unmoved : (g : Ghosts) → (stands : StandAt Means (between_of old) g) → (fine : NeverFails (May g)) → (stored g stands fine).after.moves ≡ []
    unmoved g stands fine =
        let d = stored g stands fine in
        read_moves (slots old.memory g) at_place old.memory.input old.memory.read low high (record { memory = d.after; answer = end }) d.is ∙ stands.settled

    module _ (same : elsewhere m ≡ elsewhere old.memory) (mid new : Parts R) (memory : mid.memory ≡ record m { read = end }) (frames : mid.frames ≡ old.frames)
        (output : mid.output.items ≡ old.output.items) (leaks : mid.leaks.items ≡ old.leaks.items) (led : IsLed table (program_of codes) k (next_of n) mid new) where
      to : LeadsTo table (program_of codes) k (next_of n) (record m { read = end }) old.frames new.memory new.frames
      to =
          subst (λ m. LeadsTo table (program_of codes) k (next_of n) m old.frames new.memory new.frames) memory
          (subst (λ f. LeadsTo table (program_of codes) k (next_of n) mid.memory f new.memory new.frames) frames led.to)

      last : new.memory.read ≡ end
      last = led_read table (program_of codes) k (next_of n) (record m { read = end }) new.memory old.frames new.frames to

      -- The same with the input as far as it was read.
      abbrev before : Between R
      before = record (between_of new) { kept = record new.memory { read = m.read } }

      to_before : LeadsTo table (program_of codes) k (next_of n) m old.frames (record new.memory { read = m.read }) new.frames
      to_before = unread table (program_of codes) k (next_of n) m new.memory old.frames new.frames end to

      on_before : (g : Ghosts) → StandAt Means (between_of old) g → (h : Ghosts) → h.moves ≡ []
          → IsLedStage table (program_of codes) p (stage_of (between_of old) g) (next_of n) m h (record new.memory { read = m.read }) new.frames
      on_before g stands h settled =
          led_on table (program_of codes) p (stage_of (between_of old) g) k m h (stage_at Means codes table point k old at g stands) at.latest
          (ap (λ (e : Elsewhere). e.waits) same) (ap (λ (e : Elsewhere). e.read) same) (ap (λ (e : Elsewhere). e.base) same) settled
          (next_of n) (record new.memory { read = m.read }) new.frames to_before

      left : (g : Ghosts) → (stands : StandAt Means (between_of old) g) → NeverFails (May g) → AreLeft old new
      left g stands fine =
          let d = stored g stands fine in
          let h : Ghosts = ghosts_of d.after in
          let settled : h.moves ≡ [] = unmoved g stands fine in
          let was = led_between Means c p k (between_of old) g at.between stands at.latest m h d.shows.0 settled same (next_of n) before to_before in
          let bytes : new.memory.input ≡ old.memory.input = led_bytes Means c p k (between_of old) g at.between stands at.latest m h d.shows.0 settled same (next_of n) before to_before in
          record {
            between = record {
              stacked = was.stacked;
              base = was.base;
              read = subst (λ e. e ≤ length new.memory.input) (sym last) (subst (λ (is : List ℕ). end ≤ length is) (sym bytes) input_within);
            };
            words = led.words;
            input = bytes;
          }

      goes_on : (g : Ghosts) → (stands : StandAt Means (between_of old) g) → (fine : NeverFails (May g)) → GoesOn Means (May g) (between_of new)
      goes_on g stands fine =
          let d = stored g stands fine in
          let h : Ghosts = ghosts_of d.after in
          let settled : h.moves ≡ [] = unmoved g stands fine in
          let r : Stage R = led_stage (stage_of (between_of old) g) new.memory h new.frames in
          let ahead : Slots → State = λ s. reading end (after (here g) (waiting (here g)) s (next_of n)) in
          let comes : May g (Goes (ahead d.after)) = may_come g stands (Goes (ahead d.after)) (sym (ap (λ x. on_got (here g) (slots old.memory g) x (reads g)) d.is)) in
          record {
            state = ahead (slots m h);
            comes = subst (λ s. May g (Goes (ahead s))) (sym d.shows.1) comes;
            ghosts = h;
            stands = record {
              memory = led_stands Means table (program_of codes) k (record m { read = end }) old.frames h (record { cells = d.shows.0.cells; moves = d.shows.0.moves }) (next_of n) new.memory new.frames to;
              settled = settled;
            };
            same = ap (reading end) (on_before g stands h settled).0
                ∙ ap (λ e. state_of (record r { kept = record new.memory { read = e } })) (sym last)
                ∙ ap (λ os. state_of (record r { output = os })) (sym (led.output ∙ output))
                ∙ ap (λ ls. state_of (record r { output = new.output.items; leaks = ls })) (sym (ap leaks_of (led.leaks ∙ leaks)));
          }

      pub input_goes : StepsOf Means codes table point (Ok true) old new
      input_goes = record {
        steps = record {
          steps = goes_on;
          lent = led_lent table (program_of codes) k (next_of n) (record m { read = end }) new.memory old.frames new.frames to ∙ ap (λ (e : Elsewhere). e.lent) same;
        };
        left = left at.can.ghosts at.can.stands at.can.fine;
      }

  -- It stops.
  pub input_halts : (x : Stop) (made : ℕ) (m : Kept R) (new : Parts R) → Done Means old.memory (item_read at_place old.memory.input old.memory.read low high) (Err x) m
      → made ≡ old.memory.heap.made → new.memory ≡ m → new.output.items ≡ old.output.items → new.leaks.items ≡ old.leaks.items → StepsOf Means codes table point (Err (record { stop = x; made = made })) old new
  input_halts x made m new done counted memory output leaks = record {
    steps = record {
      steps = λ g stands fine other.
          let s : Slots = slots old.memory g in
          let d = done.done g stands.memory (item_fine g stands fine) other in
          let stops = d.stops in
          record {
            memory = s;
            comes = may_come g stands (halted (here g) (stop_of x) s) (sym (ap (λ y. on_got (here g) s y (reads g)) stops));
            made = sym counted;
            output = output;
            leaks = ap leaks_of leaks;
            stands = subst (λ m. Stands Means m g) (sym (memory ∙ d.same)) stands.memory;
            since = none_here Means c p (between_of old) g stands;
          };
      lent = λ other. ap (λ (x : Kept R). x.heap.lent) (memory ∙ (done.done at.can.ghosts at.can.stands.memory (item_fine at.can.ghosts at.can.stands at.can.fine) other).same);
    };
    left = tt;
  }
