-- The laws: steps and runs are alike over both heaps.
use Rattle.std.proofs.Common.{◌≡◌, refl, sym, subst, ℕ, zero, suc, Bool, true, false, List, [], ◌∷◌, ◌++◌, append_assoc, append-nil, slice_get, Option, Some, None, if◌then◌else◌}
use Rattle.handled_runs.specs.type_definitions.Types.{Table}
use Rattle.handled_runs.specs.run_values.declared.value.Kind.{Kind}
use Rattle.handled_runs.specs.machine.States.{Ending, Normal, Raised, Spent, Trapped}
use Rattle.handled_runs.specs.run_codes.Codes.{Does, Go, Put, Store, Assign, Call, Output, Input, Release, Test, Choose, Start, Next, EvaluateLeft, EvaluateRight, Hold, EndPointer, EndScope, Finish, Fall, Point}
use Rattle.handled_runs.specs.run_codes.Points.{Frame}
use Rattle.handled_runs.specs.run_codes.Points as points
use Rattle.handled_runs.specs.run_codes.Programs.{Program}
use Rattle.handled_steps.specs.States.{State, Outcome, Goes, Ends, Wants, Fails, Turn, are_taken}
use Rattle.handled_steps.specs.Steps.{Done, Turned, SteppedAt, Stepped, Then, Within}
use Rattle.handled_steps.specs.Alike.{Paired, FrameAlike, StatesAlike, EndsAlike, OutcomesAlike, kinds_after}
use Rattle.handled_steps.specs.Looks.{HavePointers, LooksDoes, LooksTurn, LooksPoint, LooksStep, taken_kinds, turn_of, point_kinds, step_kinds}
use Rattle.handled_steps.specs.Backs.{LookBack}
use Rattle.handled_steps.specs.Clear.{cleared, clear_within, LooksRun}
use Rattle.handled_steps.proofs.Cleared.{cleared_alike}
use Rattle.handled_steps.proofs.Turns.{Both, flat_turn, slot_turn, taken_same, wants_alike}
use Rattle.handled_steps.proofs.Stores.{put_alike, store_alike, assign_alike}
use Rattle.handled_steps.proofs.Choices.{go_alike, fall_alike, test_alike, choose_alike, left_alike, right_alike}
use Rattle.handled_steps.proofs.Scopes.{release_alike, pointer_alike, scope_alike}
use Rattle.handled_steps.proofs.Loops.{start_alike, next_alike}
use Rattle.handled_steps.proofs.Texts.{output_alike, input_alike}
use Rattle.handled_steps.proofs.Holds.{hold_alike}
use Rattle.handled_steps.proofs.Calls.{call_alike}
use Rattle.handled_steps.proofs.Finishes.{finish_alike}

-- ---- one point

module _ (handles : List ℕ) (here : List Kind) (z : Both handles here) (pointers : HavePointers z.table) where
  abbrev t : points.Turn
  t = flat_turn handles here z

  abbrev u : Turn
  u = slot_turn handles here z

  abbrev Same : Does → Outcome → Type 0
  Same d r = OutcomesAlike z.table handles (kinds_after t here d) (points.done t d) r

  pub done_alike : (d : Does) (r : Outcome) → LooksDoes t here (taken_kinds t) d → Done u d r → Same d r
  done_alike (Go n) r looks so = subst (Same (Go n)) (sym so) (go_alike handles here z n)
  done_alike (Put at v n) r looks so = put_alike handles here z at v n looks.0 r looks.1 looks.2 so
  done_alike (Store p v k n) r looks so = store_alike handles here z p v k n r looks.0 looks.1 so
  done_alike (Assign p v of checks n) r looks so = assign_alike handles here z pointers p v of checks n r looks.0 looks.1 so
  done_alike (Call sub actuals n) r looks so = call_alike handles here z pointers sub actuals n r looks.0 looks.1 so
  done_alike (Output pieces line n) r looks so = subst (Same (Output pieces line n)) (sym so) (output_alike handles here z pieces line n looks)
  done_alike (Input p low high n) r looks so = subst (Same (Input p low high n)) (sym so) (input_alike handles here z p low high n looks)
  done_alike (Release p of at n) r looks so = subst (Same (Release p of at n)) (sym so) (release_alike handles here z pointers p of at n looks)
  done_alike (Test c holds fails) r looks so = subst (Same (Test c holds fails)) (sym so) (test_alike handles here z c holds fails looks)
  done_alike (Choose c choices) r looks so = subst (Same (Choose c choices)) (sym so) (choose_alike handles here z c choices looks)
  done_alike (Start at counter low high first last n) r looks so =
      subst (Same (Start at counter low high first last n)) (sym so) (start_alike handles here z at counter low high first last n looks.0 looks.1 looks.2 looks.3)
  done_alike (Next at counter reversed default turn leave) r looks so =
      subst (Same (Next at counter reversed default turn leave)) (sym so) (next_alike handles here z at counter reversed default turn leave looks.0 looks.1)
  done_alike (EvaluateLeft c or_else n decided) r looks so =
      subst (Same (EvaluateLeft c or_else n decided)) (sym so) (left_alike handles here z c or_else n decided looks.0 looks.1)
  done_alike (EvaluateRight c n) r looks so = subst (Same (EvaluateRight c n)) (sym so) (right_alike handles here z c n looks.0 looks.1)
  done_alike (Hold v of n) r looks so = hold_alike handles here z v of n r looks so
  done_alike (EndPointer at n) r looks so = subst (Same (EndPointer at n)) (sym so) (pointer_alike handles here z at n looks.0 looks.1)
  done_alike (EndScope at of n) r looks so = subst (Same (EndScope at of n)) (sym so) (scope_alike handles here z pointers at of n looks)
  done_alike Finish r looks so = subst (Same Finish) (sym so) (finish_alike handles here z)
  done_alike Fall r looks so = subst (Same Fall) (sym so) (fall_alike handles here z)

  turned_alike : (r : Outcome) → LooksTurn t here → Turned (are_taken u) u r → OutcomesAlike z.table handles (kinds_after t here z.point.does) (points.turned t) r
  turned_alike r looks so = by (points.are_taken t) refl (subst (λ b. Turned b u r) (taken_same handles here z) so)
    where
      by : (b : Bool) → points.are_taken t ≡ b → Turned b u r → OutcomesAlike z.table handles (kinds_after t here z.point.does) (if b then points.done t z.point.does else points.Wants) r
      by true e so = done_alike z.point.does r (looks.1 e) so
      by false e so = so

-- ---- a step

module _ (table : Table) (pointers : HavePointers table) (program : Program) (input : List ℕ) where
  states_end : (handles : List ℕ) (here : List Kind) (a : points.State) (b : State) → StatesAlike table handles here a b → StatesAlike table (handles ++ []) here a b
  states_end handles here a b is = subst (λ hs. StatesAlike table hs here a b) (sym (append-nil handles)) is

  module _ (handles : List ℕ) (here : List Kind) (a : points.State) (b : State) (states : StatesAlike table handles here a b) where
    abbrev flat_point : Frame → List Frame → Option Point → points.Outcome
    flat_point f fs None = points.Fails
    flat_point f fs (Some p) = points.turned (turn_of table program input a f fs p)

    point_alike : (f : Frame) (fs : List Frame) (g : Frame) (gs : List Frame) → FrameAlike table handles f g → Paired (FrameAlike table handles) fs gs → LookBack table here (f ∷ fs) → (x : Option Point) (r : Outcome)
        → LooksPoint table program input a here f fs x → SteppedAt table program input b g gs x r → OutcomesAlike table handles (point_kinds table program input a here f fs x) (flat_point f fs x) r
    point_alike f fs g gs frame outer back None r looks so = tt
    point_alike f fs g gs frame outer back (Some p) r looks so =
        turned_alike handles here
        (record { table = table; program = program; input = input; point = p; a = a; f = f; fs = fs; b = b; g = g; gs = gs; states = states; frame = frame; outer = outer; back = back; clear = looks.0 }) pointers r looks so

    stepped_alike : (fs gs : List Frame) (r : Outcome) → Paired (FrameAlike table handles) fs gs → LookBack table here fs → LooksStep table program input a here fs → Stepped table program input b gs r
        → OutcomesAlike table handles (step_kinds table program input a here fs) (points.stepped table program input a fs) r
    stepped_alike [] [] r frames back looks so = subst (OutcomesAlike table handles here (points.Ends Spent a)) (sym so) (refl, (here, ([], states_end handles here a b states)))
    stepped_alike [] (g ∷ gs) r frames back looks so = absurd frames
    stepped_alike (f ∷ fs) [] r frames back looks so = absurd frames
    stepped_alike (f ∷ fs) (g ∷ gs) r frames back looks so =
        point_alike f fs g gs frames.0 frames.1 back (slice_get program.points f.next) r looks (subst (λ i. SteppedAt table program input b g gs (slice_get program.points i) r) frames.0.next so)

    pub step_alike : (r : Outcome) → LookBack table here a.frames → LooksStep table program input a here a.frames → Stepped table program input b b.frames r
        → OutcomesAlike table handles (step_kinds table program input a here a.frames) (points.step table program input a) r
    step_alike r back looks so = stepped_alike a.frames b.frames r states.frames back looks so

  -- ---- runs

  later_on : (handles more : List ℕ) (ks : List Kind) (a : points.State) (b : State)
      → ((added : List ℕ) × StatesAlike table (handles ++ more ++ added) ks a b × LookBack table ks a.frames) → (all : List ℕ) × StatesAlike table (handles ++ all) ks a b × LookBack table ks a.frames
  later_on handles more ks a b (added, is, back) = (more ++ added, subst (λ hs. StatesAlike table hs ks a b) (append_assoc handles more added) is, back)

  end_on : (handles more : List ℕ) (ks : List Kind) (a : points.State) (b : State)
      → ((added : List ℕ) × StatesAlike table (handles ++ more ++ added) ks a b) → (all : List ℕ) × StatesAlike table (handles ++ all) ks a b
  end_on handles more ks a b (added, is) = (more ++ added, subst (λ hs. StatesAlike table hs ks a b) (append_assoc handles more added) is)

  ends_on : (handles more : List ℕ) (e : Ending) (a : points.State) (r : Outcome) → EndsAlike table (handles ++ more) e a r → EndsAlike table handles e a r
  ends_on handles more e a (Goes b) is = is
  ends_on handles more e a (Ends d b) is = (is.0, (is.1.0, end_on handles more is.1.0 a b is.1.1))
  ends_on handles more e a Wants is = tt
  ends_on handles more e a Fails is = is

  outcomes_on : (handles more : List ℕ) (ks : List Kind) (x : points.Outcome) (r : Outcome) → OutcomesAlike table (handles ++ more) ks x r → OutcomesAlike table handles ks x r
  outcomes_on handles more ks (points.Goes a) (Goes b) is = later_on handles more ks a b is
  outcomes_on handles more ks (points.Goes a) (Ends e b) is = is
  outcomes_on handles more ks (points.Goes a) Wants is = tt
  outcomes_on handles more ks (points.Goes a) Fails is = is
  outcomes_on handles more ks (points.Ends Normal a) r is = ends_on handles more Normal a r is
  outcomes_on handles more ks (points.Ends (Raised x p) a) r is = ends_on handles more (Raised x p) a r is
  outcomes_on handles more ks (points.Ends Spent a) r is = ends_on handles more Spent a r is
  outcomes_on handles more ks (points.Ends (Trapped x p) a) r is = tt
  outcomes_on handles more ks points.Wants r is = is
  outcomes_on handles more ks points.Fails r is = tt

  ends_then : (handles : List ℕ) (e : Ending) (a : points.State) (g r : Outcome) (P : State → Outcome → Type 0) → EndsAlike table handles e a g → Then P g r → EndsAlike table handles e a r
  ends_then handles e a (Goes b) r P is so = absurd is
  ends_then handles e a (Ends d b) r P is so = subst (EndsAlike table handles e a) (sym so) is
  ends_then handles e a Wants r P is so = subst (EndsAlike table handles e a) (sym so) tt
  ends_then handles e a Fails r P is so = absurd is

  -- The law on runs. As a run of n steps ends, the kinds that are told where it would go on are any.
  pub within_alike : (n : ℕ) (handles : List ℕ) (here ks : List Kind) (a : points.State) (b : State) (r : Outcome) → StatesAlike table handles here a b → LookBack table here a.frames → LooksRun n table program input a here
      → Within n table program input b r → OutcomesAlike table handles ks (clear_within n table program input a here) r
  unfolding LooksRun Within clear_within
  within_alike zero handles here ks a b r states back looks so =
      subst (OutcomesAlike table handles ks (points.Ends Spent a)) (sym so) (refl, (here, ([], states_end handles here a b states)))
  within_alike (suc n) handles here ks a b r states back looks (g, stepped, so) =
      let now : List Kind = step_kinds table program input a here a.frames in
      by now (points.step table program input a) g refl (step_alike handles here a b states g back looks.0 stepped) so
      (λ next hs t q e near further run. within_alike n hs now ks (cleared now next) t q (cleared_alike table hs now next t near) further (looks.1 next e) run)
    where
      by : (now : List Kind) (x : points.Outcome) (g : Outcome) → points.step table program input a ≡ x → OutcomesAlike table handles now x g → Then (Within n table program input) g r
          → ((next : points.State) (hs : List ℕ) (t : State) (q : Outcome) → points.step table program input a ≡ points.Goes next
          → StatesAlike table hs now next t → LookBack table now next.frames → Within n table program input t q → OutcomesAlike table hs ks (clear_within n table program input (cleared now next) now) q)
          → OutcomesAlike table handles ks (points.then_on x (λ next. clear_within n table program input (cleared now next) now)) r
      by now (points.Goes next) (Goes t) e is so on = outcomes_on handles is.0 ks (clear_within n table program input (cleared now next) now) r (on next (handles ++ is.0) t r e is.1 is.2 so)
      by now (points.Goes next) (Ends d t) e is so on = absurd is
      by now (points.Goes next) Wants e is so on =
          subst (OutcomesAlike table handles ks (clear_within n table program input (cleared now next) now)) (sym so) (wants_alike table handles ks (clear_within n table program input (cleared now next) now))
      by now (points.Goes next) Fails e is so on = absurd is
      by now (points.Ends Normal x) g e is so on = ends_then handles Normal x g r (Within n table program input) is so
      by now (points.Ends (Raised d p) x) g e is so on = ends_then handles (Raised d p) x g r (Within n table program input) is so
      by now (points.Ends Spent x) g e is so on = ends_then handles Spent x g r (Within n table program input) is so
      by now (points.Ends (Trapped d p) x) g e is so on = tt
      by now points.Wants g e is so on = subst (λ x. Then (Within n table program input) x r) is so
      by now points.Fails g e is so on = tt
