-- Runs of programs that are lowered.
use Rattle.std.proofs.Common.{◌≡◌, ℕ, Bool, true, false, List, [], ◌∷◌, ◌++◌, length, refl, sym, ap, subst, ◌∙◌, Option, Some, None}
use Rattle.std.specs.Io.KnownBytes.{Appends}
use Rattle.flow_paths.specs.Laid.{FlowProgram, flow_typing}
use Rattle.machine.specs.Evaluate.{StorageError}
use Rattle.machine.specs.States.{Raised, sub_of}
use Rattle.machine.specs.Run.{Run, run}
use Rattle.laid_program.specs.declared.laid.Laid.{Laid}
use Rattle.laid_program.specs.Programs.{program_of}
use Rattle.type_definitions.specs.Types.{Table}
use Rattle.slot_heap.specs.Heaps.{Heap, no_heap}
use Rattle.spark_base.specs.declared.position.Pos.{Pos}
use Rattle.run_codes.specs.Programs.{Program, lowered_program}
use Rattle.run_codes.specs.Points.{Frame, Ran, ran_of, is_declaring}
use Rattle.handled_steps.specs.States.{State, Outcome, Goes, Ends, Wants, Fails}
use Rattle.handled_steps.specs.Steps.{Within}
use Rattle.handled_steps.specs.Runs.{RunsWithin, RunOf, ran_with, state_at_start}
use Rattle.run_results.specs.declared.ran.Ran.{Ran as RanRow}
use Rattle.run_results.specs.Results.{ending_of, IsRun}
use Rattle.run_results.specs.Lines.{leak_lines}
use Rattle.slot_runs.specs.Turns.{Setting, Untold, Inside, state_of, IsRunning, SomeSteps, NeverFails}
use Rattle.slot_runs.specs.Tellings.{Sinks, HaveFronts}
use Rattle.slot_runs.specs.Answers.{EndsWith, IsWritten, IsCut, CanRun, CanStart, Writes, Cuts}
use Rattle.slot_runs.proofs.Owed.{had_more}
use Rattle.longer_runs.proofs.Runs.{run_begins}
use Rattle.slot_executor.specs.Executes.{HasSlots, IsExecuted, MayEnd, IsLeft, IsSame, AreSame, fits, setting_of, start_of, IsUnfit, IsStarted}

-- ---- the state at the start

-- What it has, whatever is declared first.
record StartsWith (s : State) : Type 0 where
  steps : s.steps ≡ 0
  output : s.output ≡ []
  leaks : s.leaks ≡ []
  heap : s.memory.heap ≡ no_heap
  made : s.memory.made ≡ 0
  freed : s.memory.freed ≡ 0

-- Some frame of it runs.
abbrev HasFrame : State → Type 0
HasFrame s = (f : Frame) × (outer : List Frame) × (s.frames ≡ f ∷ outer)

has_frame : (table : Table) (p : Program) (declares : Bool) → HasFrame (state_at_start table p declares)
has_frame table p true = (_, [], refl)
has_frame table p false = by p.main
  where
    by : (main : Option ℕ) → HasFrame (state_at_start table (record p { main = main }) false)
    by None = (_, [], refl)
    by (Some n) = (_, _, refl)

starts : (table : Table) (p : Program) (declares : Bool) → StartsWith (state_at_start table p declares)
starts table p true = record { steps = refl; output = refl; leaks = refl; heap = refl; made = refl; freed = refl }
starts table p false = by p.main
  where
    by : (main : Option ℕ) → StartsWith (state_at_start table (record p { main = main }) false)
    by None = record { steps = refl; output = refl; leaks = refl; heap = refl; made = refl; freed = refl }
    by (Some n) = record { steps = refl; output = refl; leaks = refl; heap = refl; made = refl; freed = refl }

-- ---- runs within a stack

within_fits : (fit : Bool) (table : Table) (p : Program) (declares : Bool) (at : Pos) (input : List ℕ) (n : ℕ) (r : Outcome) → fit ≡ true
    → Within n table p input (state_at_start table p declares) r → RunsWithin fit table p declares at input n r
within_fits fit table p declares at input n r is within = subst (λ b. RunsWithin b table p declares at input n r) (sym is) within

none_fits : (fit : Bool) (table : Table) (p : Program) (declares : Bool) (at : Pos) (input : List ℕ) (n : ℕ) → fit ≡ false
    → RunsWithin fit table p declares at input n (Ends (Raised StorageError at) (state_at_start table p declares))
none_fits fit table p declares at input n is =
    subst (λ b. RunsWithin b table p declares at input n (Ends (Raised StorageError at) (state_at_start table p declares))) (sym is) refl

-- ---- the slots at the end

slots_at : (x : Run) (r : Outcome) (heap : Heap) → IsSame x r → EndsWith heap r → HasSlots x heap.slots
slots_at x (Ends e s) heap same ends = subst (λ (h : Heap). HasSlots x h.slots) ends same.slots
slots_at x (Goes s) heap same ends = absurd ends
slots_at x Wants heap same ends = absurd ends
slots_at x Fails heap same ends = absurd ends

-- The heap has the slots that the machine's run needs.
pub end_slots : (program : FlowProgram) (input : List ℕ) (n : ℕ) (heap : Heap) → AreSame program input → MayEnd program input n heap → HasSlots (run program input n) heap.slots
end_slots program input n heap same is =
    slots_at (run program input n) is.outcome heap (same is.points is.lowered is.main is.has n is.outcome is.comes) is.heap

-- ---- first frames that fit

module _ (program : FlowProgram) (input : List ℕ) (same : AreSame program input) (p : Program) (lowered : lowered_program program ≡ Some p)
    (main : ℕ) (has : program.main ≡ Some main) (fit : fits p main ≡ true) (n : ℕ) where
  abbrev Moments : ℕ → Outcome → Type 0
  Moments k r = SomeSteps k (setting_of program p input) (start_of program p) r

  is_same : (k : ℕ) (r : Outcome) → Moments k r → IsSame (run program input k) r
  is_same k r comes =
      same p lowered main has k r
      (within_fits (fits p main) (flow_typing program).table p (is_declaring program) (sub_of program main).pos input k r fit comes)

  steps_there : NeverFails (Moments n)
  steps_there r comes = (is_same n r comes).there

  -- What is written is the run of the machine.
  run_executed : (files : List (List ℕ)) (ran : RanRow) (old new : Sinks) (Left : Inside → Type 0) → IsWritten files (Moments n) Left ran old new
      → IsExecuted files (run program input n) ran old new
  run_executed files ran old new Left is =
      let one : is.run ≡ ran_of (run program input n) = (is_same n is.outcome is.comes).gives is.run is.gives in
      record {
        is = subst (λ r. IsRun r ran) one is.is;
        output = subst (λ (r : Ran). Appends old.output new.output r.output) one is.output;
        lines = subst (λ (r : Ran). Appends old.lines new.lines (leak_lines files r.leaks)) one is.lines;
      }

  -- What is left has the heap of an outcome.
  run_left : (files : List (List ℕ)) (ran : RanRow) (old new : Sinks) (Left : Inside → Type 0) → IsWritten files (Moments n) Left ran old new
      → IsLeft program input n Left
  run_left files ran old new Left is = record {
    inside = is.inside;
    left = is.left;
    ends = record {
      points = p;
      lowered = lowered;
      main = main;
      has = has;
      outcome = is.outcome;
      comes = within_fits (fits p main) (flow_typing program).table p (is_declaring program) (sub_of program main).pos input n is.outcome fit is.comes;
      heap = is.heap;
    };
  }

  -- A run that is cut off has fronts of what the machine's has.
  run_cut : (files : List (List ℕ)) (old new : Sinks) → IsCut files Moments n old new → HaveFronts files old new (run program input n).output (run program input n).leaks
  run_cut files old new is =
      let one : is.run ≡ ran_of (run program input is.steps) = (is_same is.steps is.outcome is.comes).gives is.run is.gives in
      let begins = run_begins program input is.steps n is.few in
      let shorter : Run = run program input is.steps in
      let longer : Run = run program input n in
      subst (λ bytes. HaveFronts files old new bytes longer.leaks) (sym begins.0.1)
      (subst (λ leaks. HaveFronts files old new (shorter.output ++ begins.0.0) leaks) (sym begins.1.1)
      (had_more files old new shorter.output begins.0.0 shorter.leaks begins.1.0
      (subst (λ (r : Ran). HaveFronts files old new r.output r.leaks) one is.fronts)))

-- ---- runs at hand

module _ (laid : Laid) (c : Setting) (u : Untold) (Stands : Inside → Type 0) (is : IsStarted laid c u Stands) (same : AreSame (program_of laid) c.input) (n : ℕ) where
  abbrev program : FlowProgram
  program = program_of laid

  runs : IsRunning is.inside
  runs = subst HasFrame (sym is.start) (has_frame (flow_typing program).table is.points (is_declaring program))

  there : NeverFails (SomeSteps n c (state_of u is.inside))
  there =
      subst (λ d. NeverFails (SomeSteps n d (state_of u is.inside))) (sym is.setting)
      (subst (λ s. NeverFails (SomeSteps n (setting_of program is.points c.input) s)) (sym is.start)
      (steps_there program c.input same is.points is.lowered is.main is.has is.fit n))

  can_run : CanRun n c u Stands is.inside
  can_run = record { stands = is.stands; running = runs; there = there }

  pub can_start : CanStart n c u Stands
  can_start = (is.inside, can_run)

  written : (files : List (List ℕ)) (ran : RanRow) (old new : Sinks) (Left : Inside → Type 0) → Writes files n c u Stands Left ran old new
      → IsWritten files (SomeSteps n (setting_of program is.points c.input) (start_of program is.points)) Left ran old new
  written files ran old new Left writes =
      subst (λ s. IsWritten files (SomeSteps n (setting_of program is.points c.input) s) Left ran old new) is.start
      (subst (λ d. IsWritten files (SomeSteps n d (state_of u is.inside)) Left ran old new) is.setting (writes is.inside can_run))

  pub writes_executed : (files : List (List ℕ)) (ran : RanRow) (old new : Sinks) (Left : Inside → Type 0) → Writes files n c u Stands Left ran old new
      → IsExecuted files (run program c.input n) ran old new
  writes_executed files ran old new Left writes =
      run_executed program c.input same is.points is.lowered is.main is.has is.fit n files ran old new Left (written files ran old new Left writes)

  pub writes_left : (files : List (List ℕ)) (ran : RanRow) (old new : Sinks) (Left : Inside → Type 0) → Writes files n c u Stands Left ran old new
      → IsLeft program c.input n Left
  writes_left files ran old new Left writes =
      run_left program c.input same is.points is.lowered is.main is.has is.fit n files ran old new Left (written files ran old new Left writes)

  pub cuts_fronts : (files : List (List ℕ)) (old new : Sinks) → Cuts files n c u Stands old new
      → HaveFronts files old new (run program c.input n).output (run program c.input n).leaks
  cuts_fronts files old new cuts =
      run_cut program c.input same is.points is.lowered is.main is.has is.fit n files old new
      (subst (λ s. IsCut files (λ k. SomeSteps k (setting_of program is.points c.input) s) n old new) is.start
      (subst (λ d. IsCut files (λ k. SomeSteps k d (state_of u is.inside)) n old new) is.setting (cuts is.inside can_run)))

-- ---- first frames that don't fit

module _ (laid : Laid) (main : ℕ) (is : IsUnfit laid main) (input : List ℕ) (same : AreSame (program_of laid) input) (n : ℕ) where
  abbrev begun : State
  begun = start_of (program_of laid) is.points

  begins : StartsWith begun
  begins = starts (flow_typing (program_of laid)).table is.points (is_declaring (program_of laid))

  abbrev raised : Ran
  raised = ran_with (Raised StorageError (sub_of (program_of laid) main).pos) begun

  comes : RunOf (flow_typing (program_of laid)).table is.points (is_declaring (program_of laid)) (sub_of (program_of laid) main).pos main input n
      (Ends (Raised StorageError (sub_of (program_of laid) main).pos) begun)
  comes =
      none_fits (fits is.points main) (flow_typing (program_of laid)).table is.points (is_declaring (program_of laid)) (sub_of (program_of laid) main).pos input n is.unfit

  ends_same : IsSame (run (program_of laid) input n) (Ends (Raised StorageError (sub_of (program_of laid) main).pos) begun)
  ends_same = same is.points is.lowered main is.has n (Ends (Raised StorageError (sub_of (program_of laid) main).pos) begun) comes

  no_run : raised ≡ ran_of (run (program_of laid) input n)
  no_run = ends_same.gives raised refl

  pub unfit_ends : MayEnd (program_of laid) input n no_heap
  unfit_ends = record {
    points = is.points;
    lowered = is.lowered;
    main = main;
    has = is.has;
    outcome = Ends (Raised StorageError (sub_of (program_of laid) main).pos) begun;
    comes = comes;
    heap = begins.heap;
  }

  pub unfit_ran : (ran : RanRow) → ending_of ran.ending ≡ Raised StorageError (sub_of (program_of laid) main).pos → ran.steps ≡ 0 → ran.made ≡ 0 → ran.freed ≡ 0 → ran.leaked ≡ 0
      → IsRun (ran_of (run (program_of laid) input n)) ran
  unfit_ran ran ending steps made freed leaked = subst (λ r. IsRun r ran) no_run (record {
    ending = sym ending;
    steps = begins.steps ∙ sym steps;
    made = begins.made ∙ sym made;
    freed = begins.freed ∙ sym freed;
    leaked = ap length begins.leaks ∙ sym leaked;
  })

  pub unfit_output : (run (program_of laid) input n).output ≡ []
  unfit_output = ap (λ (r : Ran). r.output) (sym no_run) ∙ begins.output

  pub unfit_leaks : (run (program_of laid) input n).leaks ≡ []
  unfit_leaks = ap (λ (r : Ran). r.leaks) (sym no_run) ∙ begins.leaks
