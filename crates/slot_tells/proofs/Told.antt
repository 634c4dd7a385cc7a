-- Points that write.
use Rattle.std.proofs.Common.{◌≡◌, ℕ, Bool, true, false, List, ◌++◌, refl, sym, ap, subst, ◌∙◌, Ok, Err}
use Rattle.std.specs.Prelude.{IsTrue}
use Rattle.type_definitions.specs.Types.{Table}
use Rattle.slot_heap.specs.Heaps.{Heap}
use Rattle.code_rows.specs.declared.point.Point.{Point as PointRow}
use Rattle.code_rows.specs.declared.point.Does.TheVariants as does
use Rattle.code_rows.specs.declared.range.Range.{Range}
use Rattle.code_rows.specs.declared.codes.Codes.{Codes}
use Rattle.code_rows.specs.declared.stop.Stop.{Stop}
use Rattle.code_rows.specs.Stops.{stop_of}
use Rattle.code_rows.specs.Points.{next_of, point_of, program_of, does_of, is_does_there, is_range, texts_of}
use Rattle.run_codes.specs.Codes.{Piece, Point}
use Rattle.run_codes.specs.Flat.{Got, Given, Stops, Broken, and_then, is_broken}
use Rattle.run_results.specs.Results.{leaks_of}
use Rattle.handled_runs.specs.Slots.{Slots}
use Rattle.handled_steps.specs.States.{State, Outcome, Goes, Fails, Turn, waiting, after, halted, on_got}
use Rattle.handled_steps.specs.Steps.{Done, writing, output}
use Rattle.slot_memory.specs.Memory.{Kept, Ghosts, Stands, slots}
use Rattle.slot_runs.specs.Turns.{Setting, NeverFails, is_failing}
use Rattle.slot_stages.specs.Stages.{Stage, state_of}
use Rattle.slot_stages.specs.Leads.{LeadsTo}
use Rattle.slot_stages.proofs.Leads.{led_stage, led_on, writing_on}
use Rattle.slot_turns.specs.Betweens.{stage_of, StandAt}
use Rattle.slot_turns.specs.Steps.{turn_at, DoneAt}
use Rattle.slot_turns.proofs.Made.{none_here}
use Rattle.slot_parts.proofs.slot_leads.Led.{led_stands, led_between, led_bytes}
use Rattle.slot_points.specs.Changing.{Whole, Added}
use Rattle.slot_points.specs.Steps.{line_end, text_in, written}
use Rattle.slot_points.proofs.Points.{output_is}
use Rattle.slot_parts.specs.declared.parts.Parts.{Parts}
use Rattle.slot_parts.specs.Stages.{between_of, setting_of, IsAt}
use Rattle.slot_parts.specs.Steps.{StepsOf}
use Rattle.slot_parts.specs.Goes.{IsLed}
use Rattle.slot_parts.proofs.Sights.{does_at, stage_at, start_now}
use Rattle.slot_parts.proofs.Leads.{led_lent}

fails_never : {A : Type 0} → is_failing Fails ≡ false → A
fails_never is = absurd (never is)
  where
    never : true ≡ false → ⊥
    never is = cc

-- Where an outcome doesn't fail, what it rests on isn't broken.
pub got_fine : {A : Type 0} (t : Turn) (s : Slots) (g : Got A) (f : A → Outcome) → is_failing (on_got t s g f) ≡ false → is_broken g ≡ false
got_fine t s (Given a) f is = refl
got_fine t s (Stops x) f is = refl
got_fine t s Broken f is = fails_never is

got_bytes : (g : Got (List ℕ)) (before now : List ℕ) → and_then g (λ more. Given (before ++ more)) ≡ Given now
    → (more : List ℕ) × (g ≡ Given more) × (before ++ more ≡ now)
got_bytes (Given more) before now is = (more, refl, let e : ◌≡◌ {A = Got (List ℕ)} (Given (before ++ more)) (Given now) = is in cc)
got_bytes (Stops s) before now is = absurd (let e : ◌≡◌ {A = Got (List ℕ)} (Stops s) (Given now) = is in cc)
got_bytes Broken before now is = absurd (let e : ◌≡◌ {A = Got (List ℕ)} Broken (Given now) = is in cc)

text_fine : (line : Bool) (g : Got (List ℕ)) → is_broken (and_then g (λ bytes. Given (bytes ++ line_end line))) ≡ false → is_broken g ≡ false
text_fine line (Given a) fine = refl
text_fine line (Stops s) fine = refl
text_fine line Broken fine = fine

module _ {R : Type 0} (Means : R → Heap → Type 0) (codes : Codes) (table : Table) (point : PointRow) (k : ℕ) (old : Parts R) (at : IsAt Means codes table point k old)
    (texts : Range) (line : Bool) (n : ℕ) (is : point.does ≡ does.Output texts line n) where
  abbrev c : Setting
  c = setting_of codes table old.memory.input

  abbrev p : Point
  p = point_of codes point

  abbrev here : Ghosts → Turn
  here g = turn_at c p (between_of old) g

  abbrev May : Ghosts → Outcome → Type 0
  May g = DoneAt c p (between_of old) g

  abbrev pieces : List Piece
  pieces = texts_of codes.rows texts

  abbrev bytes : Slots → Got (List ℕ)
  bytes s = written table pieces line s

  abbrev ahead : Ghosts → Slots → State
  ahead g s = after (here g) (waiting (here g)) s (next_of n)

  abbrev writes : Ghosts → Slots → List ℕ → Outcome
  writes g s more = Goes (writing more (ahead g s))

  output_out : (g : Ghosts) → StandAt Means (between_of old) g
      → output (here g) pieces line (next_of n) ≡ on_got (here g) (slots old.memory g) (bytes (slots old.memory g)) (writes g (slots old.memory g))
  output_out g stands =
      output_is (here g) pieces line (next_of n)
      ∙ ap (λ s. on_got (here g) s (bytes s) (writes g s)) (start_now Means codes table point k old at g stands)

  may_come : (g : Ghosts) → StandAt Means (between_of old) g → (r : Outcome)
      → r ≡ on_got (here g) (slots old.memory g) (bytes (slots old.memory g)) (writes g (slots old.memory g)) → May g r
  may_come g stands r same =
      subst (λ d. Done (here g) (does_of codes.rows d) r) (sym is) (same ∙ sym (output_out g stands))

  bytes_fine : (g : Ghosts) → StandAt Means (between_of old) g → NeverFails (May g) → is_broken (bytes (slots old.memory g)) ≡ false
  bytes_fine g stands fine =
      let s : Slots = slots old.memory g in
      got_fine (here g) s (bytes s) (writes g s) (fine (on_got (here g) s (bytes s) (writes g s)) (may_come g stands (on_got (here g) s (bytes s) (writes g s)) refl))

  pub output_range : IsTrue (is_range codes.rows.texts.items texts)
  output_range = subst (λ d. IsTrue (is_does_there codes.rows d)) is (does_at Means codes table point k old at)

  pub output_whole : Whole Means old.memory (text_in table pieces)
  output_whole = record {
    ghosts = at.can.ghosts;
    stands = at.can.stands.memory;
    whole = text_fine line (text_in table pieces (slots old.memory at.can.ghosts)) (bytes_fine at.can.ghosts at.can.stands at.can.fine);
  }

  module _ (mid new : Parts R) (memory : mid.memory ≡ old.memory) (frames : mid.frames ≡ old.frames) (leaks : mid.leaks.items ≡ old.leaks.items)
      (led : IsLed table (program_of codes) k (next_of n) mid new) where
    to : LeadsTo table (program_of codes) k (next_of n) old.memory old.frames new.memory new.frames
    to =
        subst (λ m. LeadsTo table (program_of codes) k (next_of n) m old.frames new.memory new.frames) memory
        (subst (λ f. LeadsTo table (program_of codes) k (next_of n) mid.memory f new.memory new.frames) frames led.to)

    pub output_goes : {U : Type 0} (u : U) → Added Means old.memory (written table pieces line) (Ok u) old.output.items mid.output.items → StepsOf Means codes table point (Ok true) old new
    output_goes u added = record {
      steps = record {
        steps = λ g stands fine.
            let s : Slots = slots old.memory g in
            let r : Stage R = led_stage (stage_of (between_of old) g) new.memory g new.frames in
            let found = got_bytes (bytes s) old.output.items mid.output.items (added.added g stands.memory (bytes_fine g stands fine)) in
            let on = led_on table (program_of codes) p (stage_of (between_of old) g) k old.memory g (stage_at Means codes table point k old at g stands) at.latest refl refl refl stands.settled
            (next_of n) new.memory new.frames to in
            record {
              state = writing found.0 (ahead g s);
              comes = may_come g stands (Goes (writing found.0 (ahead g s))) (sym (ap (λ x. on_got (here g) s x (writes g s)) found.1));
              ghosts = g;
              stands = record {
                memory = led_stands Means table (program_of codes) k old.memory old.frames g stands.memory (next_of n) new.memory new.frames to;
                settled = stands.settled;
              };
              same = writing_on r (ahead g s) found.0 on.0
                  ∙ ap (λ os. state_of (record r { output = os })) (found.2 ∙ sym led.output)
                  ∙ ap (λ ls. state_of (record r { output = new.output.items; leaks = ls })) (sym (ap leaks_of (led.leaks ∙ leaks)));
            };
        lent = led_lent table (program_of codes) k (next_of n) old.memory new.memory old.frames new.frames to;
      };
      left =
          let g : Ghosts = at.can.ghosts in
          let stands : StandAt Means (between_of old) g = at.can.stands in
          record {
            between = led_between Means c p k (between_of old) g at.between stands at.latest old.memory g stands.memory stands.settled refl (next_of n) (between_of new) to;
            words = led.words;
            input = led_bytes Means c p k (between_of old) g at.between stands at.latest old.memory g stands.memory stands.settled refl (next_of n) (between_of new) to;
          };
    }

  pub output_halts : {U : Type 0} (x : Stop) (made : ℕ) (new : Parts R) → Added {U = U} Means old.memory (written table pieces line) (Err x) old.output.items new.output.items
      → made ≡ old.memory.heap.made → new.memory ≡ old.memory → new.output.items ≡ old.output.items → new.leaks.items ≡ old.leaks.items → StepsOf Means codes table point (Err (record { stop = x; made = made })) old new
  output_halts x made new added counted same output leaks = record {
    steps = record {
      steps = λ g stands fine other.
          let s : Slots = slots old.memory g in
          record {
            memory = s;
            comes = may_come g stands (halted (here g) (stop_of x) s) (sym (ap (λ y. on_got (here g) s y (writes g s)) (added.added g stands.memory (bytes_fine g stands fine) other)));
            made = sym counted;
            output = output;
            leaks = ap leaks_of leaks;
            stands = subst (λ m. Stands Means m g) (sym same) stands.memory;
            since = none_here Means c p (between_of old) g stands;
          };
      lent = λ other. ap (λ (m : Kept R). m.heap.lent) same;
    };
    left = tt;
  }
