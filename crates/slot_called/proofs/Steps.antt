-- The step of a call is one that its definition allows.
use Rattle.std.proofs.Common.{◌≡◌, ◌≢◌, ◌≤◌, ℕ, true, false, List, [], ◌∷◌, ◌++◌, map, length, refl, sym, ap, subst, ◌∙◌, Option, Some, Result, Ok, Err}
use Rattle.machine.specs.States.{Leak}
use Rattle.slot_heap.specs.Heaps.{Heap}
use Rattle.run_codes.specs.Codes.{Point, Sub, Actual, Call, Does}
use Rattle.run_codes.specs.Points.{Passed, frames_words, returns_of, sub_at}
use Rattle.code_rows.specs.declared.stop.Stop.{Stop}
use Rattle.code_rows.specs.declared.stop.Stop.TheVariants as stop
use Rattle.code_rows.specs.Stops.{stop_of}
use Rattle.handled_runs.specs.Slots.{Slots}
use Rattle.handled_steps.specs.States.{State, Outcome, Goes, Fails, Turn, start, halted}
use Rattle.handled_steps.specs.Steps.{Passes, Stopping, Failing, CallsSub, Done, begins, entered}
use Rattle.slot_memory.specs.Memory.{Kept, Ghosts, Stands, Elsewhere, slots, ghosts_of}
use Rattle.slot_frames.specs.Stacks.{Stacked}
use Rattle.slot_frames.specs.Frames.{word_at, IsStacked, AreLatest}
use Rattle.slot_runs.specs.Turns.{Setting, NeverFails, bare}
use Rattle.slot_stages.specs.Stages.{Stage, state_of, IsStage, without, at_point}
use Rattle.slot_stages.proofs.Sights.{start_is}
use Rattle.slot_stages.proofs.Goes.{cut_is, at_is}
use Rattle.slot_stages.proofs.Frames.{enters}
use Rattle.slot_stages.proofs.Calls.{called, called_on}
use Rattle.slot_entries.specs.Entries.{stacked_words}
use Rattle.slot_formals.specs.slot_calls.Calls.{passed_of, IsStopped}
use Rattle.slot_formals.specs.Formals.{Begun, returned}
use Rattle.slot_formals.proofs.Leading.{same_given}
use Rattle.slot_held.proofs.Laws.{settled_moves}
use Rattle.slot_turns.specs.declared.halt.Halt.{Halt}
use Rattle.slot_turns.specs.Betweens.{Between, stage_of, IsBetween, StandAt}
use Rattle.slot_turns.specs.Steps.{turn_at, DoneAt, GoesOn, Halts, Steps, CanDo}
use Rattle.slot_turns.proofs.Made.{since_here, none_yet}
use Rattle.slot_called.specs.Calls.{PassesTested, CanCall, Callable, IsCalled, Calling}
use Rattle.slot_called.proofs.Parts.{words_right, rows_right, Entered, entered_framed, enters_by, enters_to, passed_with, stops_with, fails_with, enters_with, tested_since}

module _ {R : Type 0} (Means : R → Heap → Type 0) (c : Setting) (p : Point) (k : ℕ) (old : Between R) (sub : ℕ) (actuals : List Actual) (n : Option ℕ)
    (does : p.does ≡ Call sub actuals n) (between : IsBetween old) (latest : AreLatest old.stacked p.takes k) (taken : old.kept.taken ≡ word_at old.stacked.waits k (length old.kept.waits))
    (words : ℕ) (counted : words ≡ stacked_words old.stacked) where
  abbrev row : Sub
  row = sub_at c.program sub

  abbrev here : Ghosts → Turn
  here g = turn_at c p old g

  abbrev May : Ghosts → Outcome → Type 0
  May g = DoneAt c p old g

  may_call : (g : Ghosts) (r : Outcome) → CallsSub (here g) sub actuals n r → May g r
  may_call g r is = subst (λ (d : Does). Done (here g) d r) (sym does) is

  stage_at : (g : Ghosts) → StandAt Means old g → IsStage (stage_of old g)
  stage_at g stands = record { stacked = between.stacked; base = between.base; settled = stands.settled }

  -- The memory is the one that the point is evaluated by.
  starts : (g : Ghosts) → StandAt Means old g → start (here g) ≡ slots old.kept g
  starts g stands = start_is c.table c.program p (stage_of old g) k (stage_at g stands) latest ∙ ap (λ w. slots (record old.kept { taken = w }) g) (sym taken)

  count : (g : Ghosts) → frames_words ((here g).frame ∷ (here g).outer) ≡ words
  count g = words_right (stage_of old g) ∙ sym counted

  -- ---- what it asks for

  module _ (g : Ghosts) (stands : StandAt Means old g) (fine : NeverFails (May g)) where
    there : (ps : List Passed) (s : Slots) → PassesTested c.table row words actuals (slots old.kept g) (Passes ps s) → PassesTested c.table row words actuals (start (here g)) (Passes ps s)
    there ps s is = subst (λ x. PassesTested c.table row words actuals x (Passes ps s)) (sym (starts g stands)) is

    entered_at : (ps : List Passed) (s : Slots) → PassesTested c.table row words actuals (slots old.kept g) (Passes ps s) → Entered c.table row ps s
    entered_at ps s is =
        let may = there ps s is in
        let room = (passed_with c.table row words actuals (start (here g)) ps s may).1 in
        enters_by (here g) row n ps s words (count g) room
        (fine (entered (here g) row n ps s) (may_call g (entered (here g) row n ps s) (enters_with (here g) sub n actuals words (count g) ps s may)))

    call_at : CanCall c.table row words actuals (slots old.kept g)
    call_at = record {
      passes = λ fails.
          let is = fine Fails (may_call g Fails (fails_with (here g) sub n actuals words (count g)
          (subst (λ x. PassesTested c.table row words actuals x Failing) (sym (starts g stands)) fails))) in
          absurd (let never : true ≡ false = is in cc);
      begins = λ ps s is. (
          let e = entered_at ps s is in
          (record { memory = e.memory; leaks = e.leaks }, entered_framed c.table row ps s e));
    }

    -- ---- it goes on

    module _ (next : ℕ) (goes : n ≡ Some next) (found : List Leak) (new : Between R)
        (is : IsCalled Means (slots old.kept g) old.kept c.table row words actuals old.stacked k next [] found new.kept new.stacked) where
      abbrev passed : List Passed
      passed = map (passed_of is.hand) is.passes

      entry : Entered c.table row passed is.here
      entry = entered_at passed is.here is.may

      begun_is : record { memory = entry.memory; leaks = entry.leaks } ≡ is.begun
      begun_is = same_given (record { memory = entry.memory; leaks = entry.leaks }) is.begun (sym (entered_framed c.table row passed is.here entry) ∙ is.is)

      abbrev begun : State
      begun = begins (here g) row passed is.here n is.begun.leaks is.begun.memory

      goes_at : May g (Goes begun)
      goes_at =
          let may = there passed is.here is.may in
          let room = (passed_with c.table row words actuals (start (here g)) passed is.here may).1 in
          let same : entered (here g) row n passed is.here ≡ Goes begun =
          enters_to (here g) row n passed is.here words (count g) room entry ∙ ap (λ (b : Begun). Goes (begins (here g) row passed is.here n b.leaks b.memory)) begun_is in
          may_call g (Goes begun) (subst (CallsSub (here g) sub actuals n) same (enters_with (here g) sub n actuals words (count g) passed is.here may))

      abbrev ghosts : Ghosts
      ghosts = ghosts_of is.begun.memory

      none_moved : ghosts.moves ≡ []
      none_moved = sym (ap (λ (b : Begun). b.memory.moves) begun_is) ∙ settled_moves entry.filled entry.memory entry.last

      abbrev stage : Stage R
      stage = called (stage_of old g) k next is.above is.kept ghosts row (returned c.table 0 row.formals is.passes) is.begun.leaks

      waits_same : is.kept.waits ≡ old.kept.waits
      waits_same = ap (λ (e : Elsewhere). e.waits) is.same

      base_same : is.kept.base ≡ old.kept.base
      base_same = ap (λ (e : Elsewhere). e.base) is.same

      read_same : is.kept.read ≡ old.kept.read
      read_same = ap (λ (e : Elsewhere). e.read) is.same

      stage_is : new.output ≡ old.output → new.leaks ≡ old.leaks ++ found → stage ≡ stage_of new ghosts
      stage_is output leaks =
          ap (λ m. record stage { kept = m }) (sym is.now_is)
          ∙ ap (λ s. record stage { kept = new.kept; stacked = s }) (sym is.stacked_is)
          ∙ ap (λ o. record stage { kept = new.kept; stacked = new.stacked; output = o }) (sym output)
          ∙ ap (λ l. record stage { kept = new.kept; stacked = new.stacked; output = new.output; leaks = old.leaks ++ l }) (sym is.told)
          ∙ ap (λ l. record stage { kept = new.kept; stacked = new.stacked; output = new.output; leaks = l }) (sym leaks)

      state_is : bare begun ≡ state_of stage
      state_is =
          ap (λ s. bare (begins (here g) row passed s n is.begun.leaks is.begun.memory)) (sym is.stands.1)
          ∙ ap (λ s. bare (begins (here g) row passed (slots is.above (ghosts_of is.here)) n is.begun.leaks s)) (sym is.shows.1)
          ∙ ap (λ m. bare (begins (here g) row passed (slots is.above (ghosts_of is.here)) m is.begun.leaks (slots is.kept ghosts))) goes
          ∙ called_on c.table c.program p (stage_of old g) k next is.above is.kept (ghosts_of is.here) ghosts row (returned c.table 0 row.formals is.passes) is.begun.leaks
          (returns_of c.table 0 row.formals passed) (stage_at g stands) latest waits_same read_same base_same none_moved (rows_right c.table 0 row.formals is.passes is.hand)

      stands_on : StandAt Means new ghosts
      stands_on = record {
        memory = subst (λ m. Stands Means m ghosts) (sym is.now_is) (record { cells = is.shows.0.cells; moves = is.shows.0.moves });
        settled = none_moved;
      }

      pub call_goes : new.output ≡ old.output → new.leaks ≡ old.leaks ++ found → GoesOn Means (May g) new
      call_goes output leaks = record {
        state = begun;
        comes = goes_at;
        ghosts = ghosts;
        stands = stands_on;
        same = state_is ∙ ap state_of (stage_is output leaks);
      }

      -- What is kept.
      pub call_bytes : new.kept.input ≡ old.kept.input
      call_bytes = ap (λ (m : Kept R). m.input) is.now_is ∙ ap (λ (e : Elsewhere). e.input) is.same

      pub call_between : IsBetween new
      call_between =
          let s : Stage R = at_point (without (stage_of old g) k is.kept ghosts) next in
          let cut = cut_is (stage_of old g) p.takes k is.kept ghosts (stage_at g stands) latest waits_same base_same none_moved in
          let e = (enters s stage.stacked.frame (returned c.table 0 row.formals is.passes) (at_is (without (stage_of old g) k is.kept ghosts) next cut) refl refl).1 in
          let read : new.kept.read ≡ old.kept.read = ap (λ (m : Kept R). m.read) is.now_is ∙ read_same in
          let far : old.kept.read ≤ length new.kept.input = subst (λ (l : List ℕ). old.kept.read ≤ length l) (sym call_bytes) between.read in
          record {
            stacked = subst (λ x. IsStacked x new.kept.waits) (sym is.stacked_is) (subst (λ (m : Kept R). IsStacked stage.stacked m.waits) (sym is.now_is) e.stacked);
            base = ap (λ (m : Kept R). m.base) is.now_is ∙ sym (ap (λ (x : Stacked). x.frame.base) is.stacked_is);
            read = subst (λ w. w ≤ length new.kept.input) (sym read) far;
          }

    -- ---- it stops

    pub call_halts : (h : Halt) (new : Between R) → h.stop ≢ stop.Memory → h.made ≡ new.kept.heap.made → new.output ≡ old.output → new.leaks ≡ old.leaks
        → (is : IsStopped Means (PassesTested c.table row words actuals (slots old.kept g)) h.stop new.kept) → Halts Means (here g) (May g) h old new
    call_halts h new other made output leaks is = record {
      memory = is.after;
      comes = may_call g (halted (here g) (stop_of h.stop) is.after) (stops_with (here g) sub n actuals words (count g) (stop_of h.stop) is.after
          (subst (λ x. PassesTested c.table row words actuals x (Stopping (stop_of h.stop) is.after)) (sym (starts g stands)) is.may));
      made = sym (ap (λ (x : Slots). x.made) is.shows.1) ∙ sym made;
      output = output;
      leaks = leaks;
      stands = is.shows.0;
      since = since_here Means c p old g is.after (tested_since c.table row words actuals (slots old.kept g) (stop_of h.stop) is.after (none_yet Means c p old g stands) is.may);
    }

  -- ---- the step

  abbrev CallsTo : {U : Type 0} → Result U Stop → ℕ → List Leak → Between R → Type 0
  CallsTo r next found new = Calling Means old.kept c.table row words actuals r old.stacked k next [] found new.kept new.stacked

  pub can_call : CanDo Means c p old → Callable Means old.kept c.table row words actuals
  can_call can = record { ghosts = can.ghosts; stands = can.stands.memory; can = call_at can.ghosts can.stands can.fine }

  pub call_on : {U : Type 0} (u : U) (next : ℕ) → n ≡ Some next → (found : List Leak) (new : Between R) → CallsTo (Ok u) next found new
      → new.kept.heap.lent ≡ old.kept.heap.lent → new.output ≡ old.output → new.leaks ≡ old.leaks ++ found → Steps Means c p (Ok true) old new
  call_on u next goes found new is lent output leaks = record {
    steps = λ g stands fine. call_goes g stands fine next goes found new (is.calls g stands.memory (call_at g stands fine)) output leaks;
    lent = lent;
  }

  -- What is kept then.
  pub call_left : CanDo Means c p old → {U : Type 0} (u : U) (next : ℕ) → n ≡ Some next → (found : List Leak) (new : Between R) → CallsTo (Ok u) next found new
      → IsBetween new × (new.kept.input ≡ old.kept.input)
  call_left can u next goes found new is =
      let called_is = is.calls can.ghosts can.stands.memory (call_at can.ghosts can.stands can.fine) in (
        call_between can.ghosts can.stands can.fine next goes found new called_is,
        call_bytes can.ghosts can.stands can.fine next goes found new called_is,
      )

  pub call_off : {U : Type 0} (h : Halt) (next : ℕ) (found : List Leak) (new : Between R) → CallsTo {U = U} (Err h.stop) next found new → h.made ≡ new.kept.heap.made
      → (h.stop ≢ stop.Memory → new.kept.heap.lent ≡ old.kept.heap.lent) → new.output ≡ old.output → new.leaks ≡ old.leaks → Steps Means c p (Err h) old new
  call_off h next found new is made lent output leaks = record {
    steps = λ g stands fine other. call_halts g stands fine h new other made output leaks (is.calls g stands.memory (call_at g stands fine) other);
    lent = lent;
  }
