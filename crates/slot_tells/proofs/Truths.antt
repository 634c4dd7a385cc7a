-- Operands whose values wait.
use Rattle.std.proofs.Common.{◌≡◌, ◌≤◌, ℕ, Bool, true, false, List, [], ◌∷◌, length, drop, refl, sym, ap, subst, ◌∙◌, ℤ, Some, Ok, Err}
use Rattle.std.specs.Prelude.{IsTrue}
use Rattle.type_definitions.specs.Types.{Table}
use Rattle.type_definitions.specs.Entries.{boolean}
use Rattle.slot_heap.specs.Heaps.{Heap}
use Rattle.code_rows.specs.declared.point.Point.{Point as PointRow}
use Rattle.code_rows.specs.declared.point.Does.TheVariants as does
use Rattle.code_rows.specs.declared.codes.Codes.{Codes}
use Rattle.code_rows.specs.declared.stop.Stop.{Stop}
use Rattle.code_rows.specs.Stops.{stop_of}
use Rattle.code_rows.specs.Rows.{code_at}
use Rattle.code_rows.specs.Points.{some, next_of, point_of, program_of, does_of, is_does_there, is_node}
use Rattle.run_codes.specs.Codes.{Code, Point}
use Rattle.run_codes.specs.Flat.{is_broken}
use Rattle.run_codes.specs.Points.{Held, truth_held}
use Rattle.run_results.specs.Results.{leaks_of}
use Rattle.handled_runs.specs.Slots.{Slots, word}
use Rattle.handled_steps.specs.States.{Outcome, Goes, Turn, waiting, after, halted, on_got}
use Rattle.handled_steps.specs.Steps.{Done, evaluate_left, evaluate_right}
use Rattle.slot_memory.specs.Memory.{Kept, Ghosts, Stands, slots}
use Rattle.slot_frames.specs.Stacks.{Stacked}
use Rattle.slot_words.specs.Reading.{Reads, Gives}
use Rattle.slot_runs.specs.Turns.{Setting, NeverFails, bare}
use Rattle.slot_stages.specs.Stages.{Stage, state_of, IsStage, without, at_point, with_wait}
use Rattle.slot_stages.proofs.Goes.{cut_is, at_is}
use Rattle.slot_stages.proofs.Waits.{waits_on, wait_is}
use Rattle.slot_held.specs.Holds.{number_before}
use Rattle.slot_held.proofs.Rights.{right_on, right_is}
use Rattle.slot_turns.specs.Betweens.{stage_of, StandAt}
use Rattle.slot_turns.specs.Steps.{turn_at, DoneAt, GoesOn}
use Rattle.slot_turns.proofs.Made.{none_here}
use Rattle.slot_points.specs.Steps.{decided_by}
use Rattle.slot_points.proofs.Points.{evaluate_left_is}
use Rattle.slot_parts.specs.declared.parts.Parts.{Parts}
use Rattle.slot_parts.specs.Stages.{between_of, setting_of, IsAt}
use Rattle.slot_parts.specs.Steps.{AreLeft, StepsOf}
use Rattle.slot_parts.proofs.Sights.{does_at, stage_at, start_now}
use Rattle.slot_tells.specs.Truths.{waiting_at, WaitsTruth}
use Rattle.slot_tells.proofs.Told.{got_fine}

module _ {R : Type 0} (Means : R → Heap → Type 0) (codes : Codes) (table : Table) (point : PointRow) (k : ℕ) (old : Parts R) (at : IsAt Means codes table point k old) where
  abbrev c : Setting
  c = setting_of codes table old.memory.input

  abbrev p : Point
  p = point_of codes point

  abbrev here : Ghosts → Turn
  here g = turn_at c p (between_of old) g

  abbrev May : Ghosts → Outcome → Type 0
  May g = DoneAt c p (between_of old) g

  -- The stage in which a truth waits after the values before the number j.
  abbrev waited : Ghosts → ℕ → ℤ → ℕ → Stage R
  waited g j truth n = at_point (with_wait (without (stage_of (between_of old) g) j old.memory g) boolean (truth ∷ [])) n

  -- The state after it, and what is kept then.
  record IsWaited (g : Ghosts) (j : ℕ) (truth : ℤ) (n : ℕ) (rest : List Held) : Type 0 where
    state : bare (after (here g) (truth_held truth ∷ rest) (slots old.memory g) (Some n)) ≡ state_of (waited g j truth n)
    stage : IsStage (waited g j truth n)

  module _ (j : ℕ) (truth : ℤ) (n : ℕ) (new : Parts R) (to : WaitsTruth j truth n old new) where
    abbrev then_at : Ghosts → Kept R → Stacked → Stage R
    then_at g m s = record (stage_of (between_of old) g) { kept = m; stacked = s }

    truth_goes : (g : Ghosts) → StandAt Means (between_of old) g → (rest : List Held) → IsWaited g j truth n rest
        → May g (Goes (after (here g) (truth_held truth ∷ rest) (slots old.memory g) (next_of n))) → GoesOn Means (May g) (between_of new)
    truth_goes g stands rest law may =
        let r : Stage R = then_at g new.memory new.frames in
        let P : Kept R → Type 0 = λ m. Stands Means m g in
        record {
          state = after (here g) (truth_held truth ∷ rest) (slots old.memory g) (Some n);
          comes = subst (λ o. May g (Goes (after (here g) (truth_held truth ∷ rest) (slots old.memory g) o))) to.next may;
          ghosts = g;
          stands = record { memory = subst P (sym to.memory) (record { cells = stands.memory.cells; moves = stands.memory.moves }); settled = stands.settled };
          same = law.state
              ∙ ap (λ m. state_of (then_at g m (waiting_at old.frames j old.memory boolean n))) (sym to.memory)
              ∙ ap (λ s. state_of (then_at g new.memory s)) (sym to.frames)
              ∙ ap (λ os. state_of (record r { output = os })) (sym to.output)
              ∙ ap (λ ls. state_of (record r { output = new.output.items; leaks = ls })) (sym (ap leaks_of to.leaks));
        }

    truth_left : (g : Ghosts) (rest : List Held) → IsWaited g j truth n rest → AreLeft old new
    truth_left g rest law =
        let r : Stage R = then_at g new.memory new.frames in
        let stage : IsStage r =
        subst (λ s. IsStage (then_at g new.memory s)) (sym to.frames)
        (subst (λ m. IsStage (then_at g m (waiting_at old.frames j old.memory boolean n))) (sym to.memory) law.stage) in
        let bytes : new.memory.input ≡ old.memory.input = ap (λ (m : Kept R). m.input) to.memory in
        let far : new.memory.read ≡ old.memory.read = ap (λ (m : Kept R). m.read) to.memory in
        record {
          between = record {
            stacked = stage.stacked;
            base = stage.base;
            read = subst (λ n. n ≤ length new.memory.input) (sym far) (subst (λ (is : List ℕ). old.memory.read ≤ length is) (sym bytes) at.between.read);
          };
          words = to.words;
          input = bytes;
        }

  -- ---- the left operand

  module _ (operand : ℕ) (or_else : Bool) (next other : ℕ) (is : point.does ≡ does.EvaluateLeft operand or_else next other) where
    abbrev left_code : Code
    left_code = code_at codes.rows.nodes operand

    abbrev left_next : ℤ → ℕ
    left_next w = decided_by w or_else next other

    abbrev lefts : Ghosts → Slots → ℤ → Outcome
    lefts g s w = Goes (after (here g) (truth_held w ∷ waiting (here g)) s (next_of (left_next w)))

    left_out : (g : Ghosts) → StandAt Means (between_of old) g
        → evaluate_left (here g) left_code or_else (next_of next) (next_of other) ≡ on_got (here g) (slots old.memory g) (word (slots old.memory g) left_code) (lefts g (slots old.memory g))
    left_out g stands =
        evaluate_left_is (here g) left_code or_else next other
        ∙ ap (λ s. on_got (here g) s (word s left_code) (lefts g s)) (start_now Means codes table point k old at g stands)

    left_may : (g : Ghosts) → StandAt Means (between_of old) g → (r : Outcome)
        → r ≡ on_got (here g) (slots old.memory g) (word (slots old.memory g) left_code) (lefts g (slots old.memory g)) → May g r
    left_may g stands r same = subst (λ d. Done (here g) (does_of codes.rows d) r) (sym is) (same ∙ sym (left_out g stands))

    left_word : (g : Ghosts) → StandAt Means (between_of old) g → NeverFails (May g) → is_broken (word (slots old.memory g) left_code) ≡ false
    left_word g stands fine =
        let s : Slots = slots old.memory g in
        let r : Outcome = on_got (here g) s (word s left_code) (lefts g s) in
        got_fine (here g) s (word s left_code) (lefts g s) (fine r (left_may g stands r refl))

    pub left_there : IsTrue (is_node codes.rows operand)
    left_there = subst (λ d. IsTrue (is_does_there codes.rows d)) is (does_at Means codes table point k old at)

    pub left_reads : Reads Means old.memory left_code
    left_reads = record { ghosts = at.can.ghosts; stands = at.can.stands.memory; whole = left_word at.can.ghosts at.can.stands at.can.fine }

    pub left_goes : (truth : ℤ) (new : Parts R) → Gives Means old.memory left_code (Ok truth) → WaitsTruth k truth (left_next truth) old new
        → StepsOf Means codes table point (Ok true) old new
    left_goes truth new gives to =
        let n : ℕ = left_next truth in
        let waited_on : (g : Ghosts) → StandAt Means (between_of old) g → IsWaited g k truth n (waiting (here g)) = (λ g stands.
        let r : Stage R = stage_of (between_of old) g in
        let stage = stage_at Means codes table point k old at g stands in
        let types : List ℕ = some codes.types.items point.takes in
        record {
          state = waits_on table (program_of codes) p r types k n boolean (truth ∷ []) old.memory g stage at.latest refl refl refl stands.settled;
          stage = at_is (with_wait (without r k old.memory g) boolean (truth ∷ [])) n
              (wait_is (without r k old.memory g) boolean (truth ∷ []) (cut_is r types k old.memory g stage at.latest refl refl stands.settled));
        }) in
        record {
          steps = record {
            steps = λ g stands fine.
                let s : Slots = slots old.memory g in
                let got = gives.gives g stands.memory (left_word g stands fine) in
                truth_goes k truth n new to g stands (waiting (here g)) (waited_on g stands)
                (left_may g stands (lefts g s truth) (sym (ap (λ x. on_got (here g) s x (lefts g s)) got)));
            lent = ap (λ (m : Kept R). m.heap.lent) to.memory;
          };
          left = truth_left k truth n new to at.can.ghosts (waiting (here at.can.ghosts)) (waited_on at.can.ghosts at.can.stands);
        }

    pub left_halts : (x : Stop) (made : ℕ) (new : Parts R) → Gives Means old.memory left_code (Err x) → made ≡ old.memory.heap.made
        → new.memory ≡ old.memory → new.output.items ≡ old.output.items → new.leaks.items ≡ old.leaks.items → StepsOf Means codes table point (Err (record { stop = x; made = made })) old new
    left_halts x made new gives counted same output leaks = record {
      steps = record {
        steps = λ g stands fine other.
            let s : Slots = slots old.memory g in
            let stops = gives.gives g stands.memory (left_word g stands fine) in
            record {
              memory = s;
              comes = left_may g stands (halted (here g) (stop_of x) s) (sym (ap (λ y. on_got (here g) s y (lefts g s)) stops));
              made = sym counted;
              output = output;
              leaks = ap leaks_of leaks;
              stands = subst (λ m. Stands Means m g) (sym same) stands.memory;
              since = none_here Means c p (between_of old) g stands;
            };
        lent = λ other. ap (λ (m : Kept R). m.heap.lent) same;
      };
      left = tt;
    }

  -- ---- the right operand

  module _ (operand next : ℕ) (is : point.does ≡ does.EvaluateRight operand next) where
    abbrev right_code : Code
    right_code = code_at codes.rows.nodes operand

    abbrev rights : Ghosts → Slots → ℤ → Outcome
    rights g s w = Goes (after (here g) (truth_held w ∷ drop 1 (waiting (here g))) s (next_of next))

    right_out : (g : Ghosts) → StandAt Means (between_of old) g
        → evaluate_right (here g) right_code (next_of next) ≡ on_got (here g) (slots old.memory g) (word (slots old.memory g) right_code) (rights g (slots old.memory g))
    right_out g stands = ap (λ s. on_got (here g) s (word s right_code) (rights g s)) (start_now Means codes table point k old at g stands)

    right_may : (g : Ghosts) → StandAt Means (between_of old) g → (r : Outcome)
        → r ≡ on_got (here g) (slots old.memory g) (word (slots old.memory g) right_code) (rights g (slots old.memory g)) → May g r
    right_may g stands r same = subst (λ d. Done (here g) (does_of codes.rows d) r) (sym is) (same ∙ sym (right_out g stands))

    right_word : (g : Ghosts) → StandAt Means (between_of old) g → NeverFails (May g) → is_broken (word (slots old.memory g) right_code) ≡ false
    right_word g stands fine =
        let s : Slots = slots old.memory g in
        let r : Outcome = on_got (here g) s (word s right_code) (rights g s) in
        got_fine (here g) s (word s right_code) (rights g s) (fine r (right_may g stands r refl))

    pub right_there : IsTrue (is_node codes.rows operand)
    right_there = subst (λ d. IsTrue (is_does_there codes.rows d)) is (does_at Means codes table point k old at)

    pub right_reads : Reads Means old.memory right_code
    right_reads = record { ghosts = at.can.ghosts; stands = at.can.stands.memory; whole = right_word at.can.ghosts at.can.stands at.can.fine }

    pub right_goes : (j : ℕ) (truth : ℤ) (new : Parts R) → j ≡ number_before old.frames.frame.waits k → Gives Means old.memory right_code (Ok truth) → WaitsTruth j truth next old new
        → StepsOf Means codes table point (Ok true) old new
    right_goes j truth new number gives to =
        let waited_on : (g : Ghosts) → StandAt Means (between_of old) g → IsWaited g j truth next (drop 1 (waiting (here g))) = (λ g stands.
        let r : Stage R = stage_of (between_of old) g in
        let stage = stage_at Means codes table point k old at g stands in
        record {
          state = right_on table (program_of codes) p r k j old.memory g stage at.latest number refl refl stands.settled truth next refl;
          stage = right_is table (program_of codes) p r k j old.memory g stage at.latest number refl refl stands.settled truth next;
        }) in
        record {
          steps = record {
            steps = λ g stands fine.
                let s : Slots = slots old.memory g in
                let got = gives.gives g stands.memory (right_word g stands fine) in
                truth_goes j truth next new to g stands (drop 1 (waiting (here g))) (waited_on g stands)
                (right_may g stands (rights g s truth) (sym (ap (λ x. on_got (here g) s x (rights g s)) got)));
            lent = ap (λ (m : Kept R). m.heap.lent) to.memory;
          };
          left = truth_left j truth next new to at.can.ghosts (drop 1 (waiting (here at.can.ghosts))) (waited_on at.can.ghosts at.can.stands);
        }

    pub right_halts : (x : Stop) (made : ℕ) (new : Parts R) → Gives Means old.memory right_code (Err x) → made ≡ old.memory.heap.made
        → new.memory ≡ old.memory → new.output.items ≡ old.output.items → new.leaks.items ≡ old.leaks.items → StepsOf Means codes table point (Err (record { stop = x; made = made })) old new
    right_halts x made new gives counted same output leaks = record {
      steps = record {
        steps = λ g stands fine other.
            let s : Slots = slots old.memory g in
            let stops = gives.gives g stands.memory (right_word g stands fine) in
            record {
              memory = s;
              comes = right_may g stands (halted (here g) (stop_of x) s) (sym (ap (λ y. on_got (here g) s y (rights g s)) stops));
              made = sym counted;
              output = output;
              leaks = ap leaks_of leaks;
              stands = subst (λ m. Stands Means m g) (sym same) stands.memory;
              since = none_here Means c p (between_of old) g stands;
            };
        lent = λ other. ap (λ (m : Kept R). m.heap.lent) same;
      };
      left = tt;
    }
