-- The step at the end of a subprogram is the one of its definition.
use Rattle.std.proofs.Common.{◌≡◌, ◌≢◌, ◌≤◌, ◌<◌, ◌+◌, ℕ, Bool, true, false, ◌&&◌, nat_le, List, [], ◌∷◌, ◌++◌, length, take, drop, refl, sym, ap, subst, ◌∙◌, arith, IsTrue, Option, Some, None, ℤ, Ok, Err, if◌then◌else◌}
use Rattle.type_definitions.specs.Types.{Table}
use Rattle.machine.specs.States.{Raised, Trapped}
use Rattle.run_values.specs.declared.value.Value.{Value}
use Rattle.run_values.specs.declared.value.Kind.{Kind}
use Rattle.slot_heap.specs.Heaps.{Heap, words_at}
use Rattle.run_codes.specs.Codes.{Point, Does, Finish}
use Rattle.run_codes.specs.Flat.{Got, Given, Stops, Broken, Stop, Raises, Traps, Memory, Spot, InStack, InCell, and_then, constraint, kinds, have_kinds, spliced}
use Rattle.run_codes.specs.Points.{Return, fits}
use Rattle.code_rows.specs.declared.stop.Stop.TheVariants as stop
use Rattle.code_rows.specs.Stops.{stop_of}
use Rattle.handled_runs.specs.Fits.{are_slot_words}
use Rattle.handled_runs.specs.Slots.{Slots, held}
use Rattle.handled_runs.specs.Changes.{with_stack, with_heap, written_all, slot_values, cell_stored, stored}
use Rattle.handled_steps.specs.States.{Outcome, Goes, Ends, Fails, Turn, start, counted, given_up, halted}
use Rattle.handled_steps.specs.Steps.{Done, in_stack, copied_back, returned, finish}
use Rattle.slot_memory.specs.Memory.{Kept, Ghosts, Stands, Elsewhere, slots, ghosts_of}
use Rattle.slot_frames.specs.declared.rows.Frame.{Frame}
use Rattle.slot_frames.specs.Stacks.{Stacked}
use Rattle.slot_frames.specs.Frames.{word_at, IsStacked, AreLatest}
use Rattle.slot_frames.specs.Parts.{own_returns}
use Rattle.slot_runs.specs.Turns.{Setting, NeverFails}
use Rattle.slot_stages.specs.Stages.{Stage, state_of, IsStage, without_frame}
use Rattle.slot_stages.proofs.Sights.{start_is}
use Rattle.slot_stages.proofs.Frames.{leaves}
use Rattle.slot_stages.proofs.Calls.{cut_kept, finishes_on}
use Rattle.slot_stages.proofs.Mains.{ended, finishes_main}
use Rattle.slot_returns.specs.Backs.{copied, Copying, Copied, Stopped, Missing, on_copied, all_copied, CanCopy, ComesTo, IsHalted, CopiesAll}
use Rattle.slot_returns.proofs.Turns.{on_copying, copied_back_is}
use Rattle.slot_turns.specs.declared.halt.Halt.{Halt}
use Rattle.slot_turns.specs.Betweens.{Between, stage_of, IsBetween, StandAt}
use Rattle.slot_turns.specs.Steps.{turn_at, DoneAt, GoesOn, IsEnded, Halts, Steps, CanDo}
use Rattle.slot_turns.proofs.Made.{none_here}
use Rattle.slot_finished.specs.Ends.{IsFinished}

-- ---- lists

-- A list that has something has a last one.
last_apart : {A : Type 0} (xs : List A) → 0 < length xs → (ys : List A) × (x : A) × (xs ≡ ys ++ x ∷ [])
last_apart [] some = absurd (omega (arith, some))
last_apart (x ∷ []) some = ([], x, refl)
last_apart (x ∷ y ∷ xs) some =
    let (ys, z, is) = last_apart (y ∷ xs) (omega arith) in
    (x ∷ ys, z, ap (λ l. x ∷ l) is)

none_left : {A : Type 0} (xs : List A) → (0 < length xs → IsTrue false) → xs ≡ []
none_left [] none = refl
none_left (x ∷ xs) none = absurd (let never : IsTrue false = none (omega arith) in cc)

never_true : IsTrue false → ⊥
never_true is = cc

-- ---- what is copied back moves nothing

same_given : {A : Type 0} (a b : A) → Given a ≡ Given b → a ≡ b
same_given a b is = cc

stored_moves : (s t : Slots) (q : Spot) (ks : List Kind) (zs : List ℤ) → stored s q ks zs ≡ Given t → t.moves ≡ s.moves
stored_moves s t (InStack n) ks zs is = by (nat_le (n + length zs) (length s.stack)) is
  where
    by : (b : Bool) → (if b then Given (with_stack s (spliced n zs s.stack)) else Broken) ≡ Given t → t.moves ≡ s.moves
    by true is = ap (λ (x : Slots). x.moves) (sym (same_given (with_stack s (spliced n zs s.stack)) t is))
    by false is = absurd (let never : ◌≡◌ {A = Got Slots} Broken (Given t) = is in cc)
stored_moves s t (InCell h o) ks zs is = cell (words_at s.heap.cells h) is
  where
    by : (b : Bool) → (if b then Given (with_heap s (written_all s.heap h o (slot_values ks zs))) else Broken) ≡ Given t → t.moves ≡ s.moves
    by true is = ap (λ (x : Slots). x.moves) (sym (same_given (with_heap s (written_all s.heap h o (slot_values ks zs))) t is))
    by false is = absurd (let never : ◌≡◌ {A = Got Slots} Broken (Given t) = is in cc)

    cell : (x : Option (List Value)) → cell_stored s h o ks zs x ≡ Given t → t.moves ≡ s.moves
    cell None is = absurd (let never : ◌≡◌ {A = Got Slots} Broken (Given t) = is in cc)
    cell (Some ws) is = by (are_slot_words ks zs && have_kinds ks (drop o ws)) is

copied_moves : (table : Table) (r : Return) (s t : Slots) → copied table r s ≡ Given t → t.moves ≡ s.moves
copied_moves table r s t is = got (held s (in_stack s r.at) (kinds table r.from)) is
  where
    by : (zs : List ℤ) (b : Bool) → (if b then stored s r.to (kinds table r.of) zs else Stops constraint) ≡ Given t → t.moves ≡ s.moves
    by zs true is = stored_moves s t r.to (kinds table r.of) zs is
    by zs false is = absurd (let never : ◌≡◌ {A = Got Slots} (Stops constraint) (Given t) = is in cc)

    got : (x : Got (List ℤ)) → and_then x (λ zs. if fits table r.of zs then stored s r.to (kinds table r.of) zs else Stops constraint) ≡ Given t → t.moves ≡ s.moves
    got (Given zs) is = by zs (fits table r.of zs) is
    got (Stops x) is = absurd (let never : ◌≡◌ {A = Got Slots} (Stops x) (Given t) = is in cc)
    got Broken is = absurd (let never : ◌≡◌ {A = Got Slots} Broken (Given t) = is in cc)

all_moves : (table : Table) (returns : List Return) (s t : Slots) → all_copied table returns s ≡ Copied t → t.moves ≡ s.moves
all_moves table [] s t is = ap (λ (x : Slots). x.moves) (sym (same is))
  where
    same : Copied s ≡ Copied t → s ≡ t
    same is = cc
all_moves table (r ∷ rest) s t is = by (λ u more. all_moves table rest u t more) (copied table r s) refl is
  where
    by : ((u : Slots) → all_copied table rest u ≡ Copied t → t.moves ≡ u.moves) → (x : Got Slots) → copied table r s ≡ x → on_copied s x (all_copied table rest) ≡ Copied t → t.moves ≡ s.moves
    by on (Given u) first is = on u is ∙ copied_moves table r s u first
    by on (Stops x) first is = absurd (let never : Stopped x s ≡ Copied t = is in cc)
    by on Broken first is = absurd (let never : Missing ≡ Copied t = is in cc)

-- A step that ends leaves the same.
halts_alike : (t : Turn) (x : Stop) (a b : Slots) → ((s : Slots) → given_up s a ≡ given_up s b) → halted t x a ≡ halted t x b
halts_alike t (Raises e) a b same = ap (λ m. Ends (Raised e t.point.pos) (counted (record t.state { memory = m }))) (same t.state.memory)
halts_alike t (Traps e) a b same = ap (λ m. Ends (Trapped e t.point.pos) (counted (record t.state { memory = m }))) (same t.state.memory)
halts_alike t Memory a b same = refl

-- ---- the step

module _ {R : Type 0} (Means : R → Heap → Type 0) (c : Setting) (p : Point) (k : ℕ) (old : Between R) (does : p.does ≡ Finish)
    (between : IsBetween old) (latest : AreLatest old.stacked p.takes k) (taken : old.kept.taken ≡ word_at old.stacked.waits k (length old.kept.waits)) where
  abbrev here : Ghosts → Turn
  here g = turn_at c p old g

  abbrev May : Ghosts → Outcome → Type 0
  May g = DoneAt c p old g

  abbrev returns : List Return
  returns = own_returns old.stacked

  may_finish : (g : Ghosts) (r : Outcome) → finish (here g) ≡ r → May g r
  may_finish g r is = subst (λ (d : Does). Done (here g) d r) (sym does) (sym is)

  stage_at : (g : Ghosts) → StandAt Means old g → IsStage (stage_of old g)
  stage_at g stands = record { stacked = between.stacked; base = between.base; settled = stands.settled }

  -- The memory is the one that the point is evaluated by.
  starts : (g : Ghosts) → StandAt Means old g → start (here g) ≡ slots old.kept g
  starts g stands = start_is c.table c.program p (stage_of old g) k (stage_at g stands) latest ∙ ap (λ w. slots (record old.kept { taken = w }) g) (sym taken)

  abbrev parts : Ghosts → Copying
  parts g = all_copied c.table returns (slots old.kept g)

  copying : (g : Ghosts) → StandAt Means old g → (f : Slots → Outcome) → copied_back (here g) returns (start (here g)) f ≡ on_copying (here g) (parts g) f
  copying g stands f =
      copied_back_is (here g) returns (start (here g)) f ∙ ap (λ s. on_copying (here g) (all_copied c.table returns s) f) (starts g stands)

  abbrev ends : Ghosts → Slots → Outcome
  ends g f = returned (here g) (here g).outer (with_stack f (take old.stacked.frame.base f.stack))

  module _ (g : Ghosts) (stands : StandAt Means old g) (fine : NeverFails (May g)) where
    finish_whole : parts g ≢ Missing
    finish_whole missing =
        let is = fine Fails (may_finish g Fails (copying g stands (ends g) ∙ ap (λ x. on_copying (here g) x (ends g)) missing)) in
        absurd (let never : true ≡ false = is in cc)

    module _ (others : Bool) (new : Between R) (is : IsFinished Means old.kept c.table returns others old.stacked new.kept new.stacked) where
      done : ComesTo Means (parts g) Copied is.kept
      done = is.copied.comes g stands.memory finish_whole

      abbrev ghosts : Ghosts
      ghosts = ghosts_of done.after

      copied_to : (f : Slots → Outcome) → copied_back (here g) returns (start (here g)) f ≡ f (slots is.kept ghosts)
      copied_to f = copying g stands f ∙ ap (λ x. on_copying (here g) x f) done.is ∙ ap f (sym done.shows.1)

      none_moved : ghosts.moves ≡ []
      none_moved = all_moves c.table returns (slots old.kept g) done.after done.is ∙ stands.settled

      waits_same : is.kept.waits ≡ old.kept.waits
      waits_same = ap (λ (e : Elsewhere). e.waits) is.same

      read_same : is.kept.read ≡ old.kept.read
      read_same = ap (λ (e : Elsewhere). e.read) is.same

      abbrev stage_with : List Frame → Stage R
      stage_with outer = without_frame (stage_of old g) is.left.frame outer (cut_kept old.stacked.frame.base is.kept) ghosts

      abbrev stage : Stage R
      stage = stage_with is.left.outer

      stage_is : new.output ≡ old.output → new.leaks ≡ old.leaks → stage ≡ stage_of new ghosts
      stage_is output leaks =
          ap (λ m. record stage { kept = m }) (sym is.left.memory)
          ∙ ap (λ s. record stage { kept = new.kept; stacked = s }) (sym is.left.frames)
          ∙ ap (λ o. record stage { kept = new.kept; stacked = new.stacked; output = o }) (sym output)
          ∙ ap (λ l. record stage { kept = new.kept; stacked = new.stacked; output = new.output; leaks = l }) (sym leaks)

      stands_on : StandAt Means new ghosts
      stands_on = record {
        memory = subst (λ m. Stands Means m ghosts) (sym is.left.memory) (record { cells = done.shows.0.cells; moves = done.shows.0.moves });
        settled = none_moved;
      }

      -- What is kept.
      finish_bytes : new.kept.input ≡ old.kept.input
      finish_bytes = ap (λ (m : Kept R). m.input) is.left.memory ∙ ap (λ (e : Elsewhere). e.input) is.same

      finish_between : IsBetween new
      finish_between =
          let e = (leaves (stage_of old g) is.left.frame is.left.outer (cut_kept old.stacked.frame.base is.kept) ghosts (stage_at g stands) is.left.waited waits_same none_moved).1 in
          let read : new.kept.read ≡ old.kept.read = ap (λ (m : Kept R). m.read) is.left.memory ∙ read_same in
          let far : old.kept.read ≤ length new.kept.input = subst (λ (l : List ℕ). old.kept.read ≤ length l) (sym finish_bytes) between.read in
          record {
            stacked = subst (λ x. IsStacked x new.kept.waits) (sym is.left.frames) (subst (λ (m : Kept R). IsStacked stage.stacked m.waits) (sym is.left.memory) e.stacked);
            base = ap (λ (m : Kept R). m.base) is.left.memory ∙ sym (ap (λ (x : Stacked). x.frame.base) is.left.frames);
            read = subst (λ w. w ≤ length new.kept.input) (sym read) far;
          }

      -- It goes on in another frame.
      finish_goes : IsTrue others → new.output ≡ old.output → new.leaks ≡ old.leaks → GoesOn Means (May g) new
      finish_goes more output leaks =
          let (rest, f, last) = last_apart is.left.outer (is.left.rest.0 more) in
          let outer = is.left.waited ∙ ap (λ l. l ++ is.left.frame ∷ []) last in
          let (state, comes, same) = finishes_on c.table c.program p (stage_of old g) is.kept ghosts is.left.frame f rest (stage_at g stands) outer waits_same read_same none_moved copied_to in
          record {
            state = state;
            comes = may_finish g (Goes state) comes;
            ghosts = ghosts;
            stands = stands_on;
            same = same ∙ ap (λ fs. state_of (stage_with fs)) (sym last) ∙ ap state_of (stage_is output leaks);
          }

      -- The main procedure ends.
      finish_ends : (IsTrue others → ⊥) → new.output ≡ old.output → new.leaks ≡ old.leaks → IsEnded Means (May g) new
      finish_ends no_more output leaks =
          let none : is.left.outer ≡ [] = none_left is.left.outer (λ some. absurd (no_more (is.left.rest.1 some))) in
          let outer = is.left.waited ∙ ap (λ l. l ++ is.left.frame ∷ []) none in
          record {
            state = ended (stage_of old g) is.left.frame is.kept ghosts;
            comes = may_finish g _ (finishes_main c.table c.program p (stage_of old g) is.kept ghosts is.left.frame (stage_at g stands) outer waits_same none_moved copied_to);
            ghosts = ghosts;
            stands = stands_on;
            output = sym output;
            leaks = sym leaks;
            made = sym (ap (λ (m : Kept R). m.heap.made) is.left.memory);
            freed = sym (ap (λ (m : Kept R). m.heap.freed) is.left.memory);
            heap = refl;
          }

    -- It stops, and nothing was copied back.
    finish_halts : (h : Halt) (new : Between R) → h.made ≡ new.kept.heap.made → new.output ≡ old.output → new.leaks ≡ old.leaks
        → IsHalted old.kept c.table returns g h.stop new.kept → Halts Means (here g) (May g) h old new
    finish_halts h new made output leaks is = record {
      memory = slots old.kept g;
      comes =
          may_finish g (halted (here g) (stop_of h.stop) (slots old.kept g))
          (copying g stands (ends g) ∙ ap (λ x. on_copying (here g) x (ends g)) is.stops.is
          ∙ halts_alike (here g) (stop_of h.stop) is.stops.after (slots old.kept g) is.stops.left);
      made = ap (λ (m : Kept R). m.heap.made) (sym is.same) ∙ sym made;
      output = output;
      leaks = leaks;
      stands = subst (λ m. Stands Means m g) (sym is.same) stands.memory;
      since = none_here Means c p old g stands;
    }

  -- ---- the step

  pub can_finish : CanDo Means c p old → CanCopy Means old.kept c.table returns
  can_finish can = record { ghosts = can.ghosts; stands = can.stands.memory; whole = finish_whole can.ghosts can.stands can.fine }

  pub finish_on : (others : Bool) (new : Between R) → IsFinished Means old.kept c.table returns others old.stacked new.kept new.stacked
      → new.kept.heap.lent ≡ old.kept.heap.lent → new.output ≡ old.output → new.leaks ≡ old.leaks → Steps Means c p (Ok others) old new
  finish_on true new is lent output leaks = record { steps = λ g stands fine. finish_goes g stands fine true new is refl output leaks; lent = lent }
  finish_on false new is lent output leaks = record { steps = λ g stands fine. finish_ends g stands fine false new is never_true output leaks; lent = lent }

  -- What is kept then.
  pub finish_left : CanDo Means c p old → (others : Bool) (new : Between R) → IsFinished Means old.kept c.table returns others old.stacked new.kept new.stacked
      → IsBetween new × (new.kept.input ≡ old.kept.input)
  finish_left can others new is = (
    finish_between can.ghosts can.stands can.fine others new is,
    finish_bytes can.ghosts can.stands can.fine others new is,
  )

  pub finish_off : (h : Halt) (new : Between R) → CopiesAll {U = Unit {0}} Means old.kept c.table returns (Err h.stop) new.kept → h.made ≡ new.kept.heap.made
      → (h.stop ≢ stop.Memory → new.kept.heap.lent ≡ old.kept.heap.lent) → new.output ≡ old.output → new.leaks ≡ old.leaks → Steps Means c p (Err h) old new
  finish_off h new is made lent output leaks = record {
    steps = λ g stands fine other. finish_halts g stands fine h new made output leaks (is.comes g stands.memory (finish_whole g stands fine) other);
    lent = lent;
  }
