-- The laws: whole runs are alike over both heaps, and what they give is the same.
use Rattle.std.proofs.Common.{◌≡◌, refl, sym, ap, ◌∙◌, subst, ℕ, ◌+◌, arith, Bool, true, false, nat_le, List, [], ◌∷◌, ◌++◌, length, Option, Some, None, if◌then◌else◌}
use mathlib.Core.Logic.{◌⊎◌, inl, inr}
use Rattle.handled_runs.specs.spark_base.declared.position.Pos.{Pos}
use Rattle.handled_runs.specs.type_definitions.Types.{Table}
use Rattle.handled_runs.specs.run_values.declared.value.Kind.{Kind}
use Rattle.handled_runs.specs.machine.Evaluate.{StorageError}
use Rattle.handled_runs.specs.machine.States.{Ending, Normal, Raised, Spent, Trapped, stack_words}
use Rattle.handled_runs.specs.run_codes.Flat.{Flat}
use Rattle.handled_runs.specs.run_codes.Points.{Frame, Ran, sub_at, run_with, run_of, run_given, is_declaring, lowered_run}
use Rattle.handled_runs.specs.run_codes.Points as points
use Rattle.handled_runs.specs.run_codes.Programs.{Program}
use Rattle.handled_runs.proofs.slot_heap.Greatest.{enough-none}
use Rattle.handled_runs.proofs.numbered_cells.Numbering.{follows-none}
use Rattle.handled_runs.proofs.numbered_cells.Peaks.{peaks-none}
use Rattle.handled_runs.specs.Slots.{Slots}
use Rattle.handled_runs.specs.Beside.{Beside}
use Rattle.handled_runs.proofs.Places.{as_long}
use Rattle.handled_steps.specs.States.{State, Outcome, Goes, Ends, Wants, Fails, frame_of, with_frame}
use Rattle.handled_steps.specs.Alike.{FrameAlike, Paired, StatesAlike, EndsAlike, OutcomesAlike, frame_kinds}
use Rattle.handled_steps.specs.Looks.{HavePointers}
use Rattle.handled_steps.specs.Backs.{LookBack}
use Rattle.handled_steps.specs.Clear.{clear_within, clear_run_of, LooksRun}
use Rattle.handled_steps.specs.Greatest.{KeepsPeaks, EndsWithPeaks}
use Rattle.handled_steps.specs.Runs.{NeverTraps, no_memory, state_of, main_begun, state_at_start, RunsWithin, RunOf, ran_with, given, main_kinds, first_kinds}
use Rattle.handled_steps.proofs.Frames.{frame_pushed}
use Rattle.handled_steps.proofs.Steps.{within_alike}
use Rattle.handled_steps.proofs.PeakSteps.{within_keeps}

-- ---- the start

none_beside : Beside [] [] [] points.no_memory no_memory
none_beside = record {
  stack = refl;
  known = refl;
  waits = refl;
  base = refl;
  live = refl;
  made = (refl, refl);
  freed = refl;
  rest = refl;
  cells = follows-none;
  numbered = λ n ws there. cc;
  small = λ n. omega arith;
  names = tt;
  waiting_names = tt;
}

module _ (table : Table) (program : Program) where
  abbrev flat_first : Flat
  flat_first = points.with_frame table (sub_at program 0) points.no_memory

  abbrev slots_first : Slots
  slots_first = with_frame table (sub_at program 0) no_memory

  first_beside : Beside [] (frame_kinds table (sub_at program 0)) [] flat_first slots_first
  first_beside = frame_pushed [] [] [] points.no_memory no_memory none_beside table (sub_at program 0)

  abbrev flat_frame : Frame
  flat_frame = points.frame_of points.no_memory (sub_at program 0) []

  abbrev slots_frame : Frame
  slots_frame = frame_of no_memory (sub_at program 0) []

  frame_alike : FrameAlike table [] flat_frame slots_frame
  frame_alike = record { base = refl; next = refl; words = refl; waits = tt; returns = tt }

  at_start : (ks : List Kind) (m : Flat) (s : Slots) (fs gs : List Frame) → Beside [] ks [] m s → Paired (FrameAlike table []) fs gs
      → StatesAlike table [] ks (record { memory = m; frames = fs; at = 0; output = []; leaks = []; steps = 0 }) (state_of s gs)
  at_start ks m s fs gs beside frames = record { taken = []; memory = beside; frames = frames; at = refl; output = refl; leaks = refl; steps = refl }

  abbrev flat_main : Option ℕ → points.State
  flat_main None = record { memory = flat_first; frames = flat_frame ∷ []; at = 0; output = []; leaks = []; steps = 0 }
  flat_main (Some main) = record {
    memory = points.with_frame table (sub_at program main) flat_first;
    frames = points.frame_of flat_first (sub_at program main) [] ∷ flat_frame ∷ [];
    at = 0;
    output = [];
    leaks = [];
    steps = 0;
  }

  main_alike : (main : Option ℕ) → StatesAlike table [] (main_kinds table program (frame_kinds table (sub_at program 0)) main) (flat_main main) (main_begun table program slots_first slots_frame main)
  main_alike None = at_start (frame_kinds table (sub_at program 0)) flat_first slots_first (flat_frame ∷ []) (slots_frame ∷ []) first_beside (frame_alike, tt)
  main_alike (Some main) =
      at_start (frame_kinds table (sub_at program 0) ++ frame_kinds table (sub_at program main)) (points.with_frame table (sub_at program main) flat_first) (with_frame table (sub_at program main) slots_first)
      (points.frame_of flat_first (sub_at program main) [] ∷ flat_frame ∷ []) (frame_of slots_first (sub_at program main) [] ∷ slots_frame ∷ [])
      (frame_pushed [] (frame_kinds table (sub_at program 0)) [] flat_first slots_first first_beside table (sub_at program main))
      (record { base = as_long [] (frame_kinds table (sub_at program 0)) [] flat_first slots_first first_beside; next = refl; words = refl; waits = tt; returns = tt }, (frame_alike, tt))

  pub start_alike : (declares : Bool) → StatesAlike table [] (first_kinds table program declares) (points.state_at_start table program declares) (state_at_start table program declares)
  start_alike true = at_start (frame_kinds table (sub_at program 0)) flat_first slots_first (flat_frame ∷ []) (slots_frame ∷ []) first_beside (frame_alike, tt)
  start_alike false = main_alike program.main

  -- Nothing is copied back yet.
  main_back : (main : Option ℕ) → LookBack table (main_kinds table program (frame_kinds table (sub_at program 0)) main) (flat_main main).frames
  main_back None = (tt, tt)
  main_back (Some main) = (tt, (tt, tt))

  pub start_back : (declares : Bool) → LookBack table (first_kinds table program declares) (points.state_at_start table program declares).frames
  start_back true = (tt, tt)
  start_back false = main_back program.main

  -- ---- whole runs

  pub run_alike : HavePointers table → (declares : Bool) (at : Pos) (main : ℕ) (input : List ℕ) (n : ℕ) (ks : List Kind) (r : Outcome)
      → LooksRun n table program input (points.state_at_start table program declares) (first_kinds table program declares) → RunOf table program declares at main input n r
      → OutcomesAlike table [] ks (clear_run_of table program declares at main input n) r
  run_alike pointers declares at main input n ks r looks so = by (nat_le ((sub_at program main).words + (sub_at program 0).words) stack_words) so
    where
      by : (b : Bool) → RunsWithin b table program declares at input n r
          → OutcomesAlike table [] ks
          (if b then clear_within n table program input (points.state_at_start table program declares) (first_kinds table program declares) else points.Ends (Raised StorageError at) (points.state_at_start table program declares)) r
      by true so =
          within_alike table pointers program input n [] (first_kinds table program declares) ks (points.state_at_start table program declares) (state_at_start table program declares) r (start_alike declares) (start_back declares) looks so
      by false so =
          subst (OutcomesAlike table [] ks (points.Ends (Raised StorageError at) (points.state_at_start table program declares))) (sym so)
          (refl, (first_kinds table program declares, ([], start_alike declares)))

-- ---- what they give

pub ran_same : (table : Table) (handles : List ℕ) (ks : List Kind) (e : Ending) (a : points.State) (b : State) → StatesAlike table handles ks a b → ran_with e b ≡ run_with e a
ran_same table handles ks e a b is =
    ap (λ x. record { output = x; leaks = b.leaks; ending = e; steps = b.steps; made = b.memory.made; freed = b.memory.freed; leaked = length b.leaks }) is.output
    ∙ (ap (λ x. record { output = a.output; leaks = x; ending = e; steps = b.steps; made = b.memory.made; freed = b.memory.freed; leaked = length x }) is.leaks
    ∙ (ap (λ x. record { output = a.output; leaks = a.leaks; ending = e; steps = x; made = b.memory.made; freed = b.memory.freed; leaked = length a.leaks }) is.steps
    ∙ (ap (λ x. record { output = a.output; leaks = a.leaks; ending = e; steps = a.steps; made = x; freed = b.memory.freed; leaked = length a.leaks }) is.memory.made.0
    ∙ ap (λ x. record { output = a.output; leaks = a.leaks; ending = e; steps = a.steps; made = length a.memory.cells; freed = x; leaked = length a.leaks }) is.memory.freed)))

ends_same : (table : Table) (handles : List ℕ) (e : Ending) (a : points.State) (r : Outcome) (q : Ran) → EndsAlike table handles e a r → Some (run_with e a) ≡ Some q → (given r ≡ Some q) ⊎ (r ≡ Wants)
ends_same table handles e a (Goes b) q is f = absurd is
ends_same table handles e a (Ends d b) q is f = inl (ap (λ x. Some (ran_with x b)) is.0 ∙ (ap Some (ran_same table (handles ++ is.1.1.0) is.1.0 e a b is.1.1.1) ∙ f))
ends_same table handles e a Wants q is f = inr refl
ends_same table handles e a Fails q is f = absurd is

-- Where both have memory, and no freed cell is touched or freed again, they give the same.
pub given_same : (table : Table) (handles : List ℕ) (ks : List Kind) (x : points.Outcome) (r : Outcome) (q : Ran) → OutcomesAlike table handles ks x r → NeverTraps q.ending → points.run_given x ≡ Some q
    → (given r ≡ Some q) ⊎ (r ≡ Wants)
given_same table handles ks (points.Goes a) (Goes b) q is never e = inl (ap Some (ran_same table (handles ++ is.0) ks Spent a b is.1) ∙ e)
given_same table handles ks (points.Goes a) (Ends d b) q is never e = absurd is
given_same table handles ks (points.Goes a) Wants q is never e = inr refl
given_same table handles ks (points.Goes a) Fails q is never e = absurd is
given_same table handles ks (points.Ends Normal a) r q is never e = ends_same table handles Normal a r q is e
given_same table handles ks (points.Ends (Raised x p) a) r q is never e = ends_same table handles (Raised x p) a r q is e
given_same table handles ks (points.Ends Spent a) r q is never e = ends_same table handles Spent a r q is e
given_same table handles ks (points.Ends (Trapped x p) a) r q is never e = absurd (never x p (let same : run_with (Trapped x p) a ≡ q = cc in sym (ap (λ (y : Ran). y.ending) same)))
given_same table handles ks points.Wants r q is never e = cc
given_same table handles ks points.Fails r q is never e = cc

-- As a run ends, its slots number the greatest counts of live cells.
pub run_keeps : (table : Table) (program : Program) (declares : Bool) (at : Pos) (main : ℕ) (input : List ℕ) (n : ℕ) (r : Outcome) → RunOf table program declares at main input n r → EndsWithPeaks r
run_keeps table program declares at main input n r so = by (nat_le ((sub_at program main).words + (sub_at program 0).words) stack_words) so
  where
    main_keeps : (x : Option ℕ) → KeepsPeaks (main_begun table program (with_frame table (sub_at program 0) no_memory) (frame_of no_memory (sub_at program 0) []) x).memory
    main_keeps None = (enough-none, peaks-none)
    main_keeps (Some x) = (enough-none, peaks-none)

    start_keeps : (b : Bool) → KeepsPeaks (state_at_start table program b).memory
    start_keeps true = (enough-none, peaks-none)
    start_keeps false = main_keeps program.main

    by : (b : Bool) → RunsWithin b table program declares at input n r → EndsWithPeaks r
    by true so = within_keeps table program input n (state_at_start table program declares) r (start_keeps declares) so
    by false so = subst EndsWithPeaks (sym so) (start_keeps declares).1
