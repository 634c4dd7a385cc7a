-- Where the runs of a program start.
use Rattle.std.proofs.Common.{◌≡◌, ℕ, List, Bool, true, false, Option, Some, None, Result, Ok, Err, sym, ap, subst, ◌∙◌}
use Rattle.std.specs.Prelude.{IfOk, OnOk}
use Rattle.flow_paths.specs.Laid.{FlowProgram, flow_typing}
use Rattle.machine.specs.Run.{main_of}
use Rattle.laid_program.specs.declared.laid.Laid.{Laid}
use Rattle.laid_program.specs.Programs as laid_programs
use Rattle.run_codes.specs.Points.{is_declaring}
use Rattle.code_rows.specs.declared.codes.Codes.{Codes}
use Rattle.code_rows.specs.Points.{program_of}
use Rattle.slot_heap.specs.Heaps.{Heap, Knows}
use Rattle.handled_steps.specs.Runs.{state_at_start}
use Rattle.slot_executor.specs.Executes.{MayEnd, IsLeft, IsStarted, IsUnfit, fits, setting_of}
use Rattle.slot_runs.specs.Turns.{Setting, Inside}
use Rattle.slot_turns.specs.declared.overs.Over.{Over}
use Rattle.slot_turns.specs.Runs.{StandsWith}
use Rattle.slot_running.specs.Runs.{Running, IsAtStart, RunStands, running_lent, running_setting, running_untold}
use Rattle.slot_execute.specs.Executes.{IsReady}

-- The store of a run means the heap of what it stands for.
left_means : {R : Type 0} (Means : R → Heap → Type 0) (r : Running R) (x : Inside) → RunStands Means r x → Means r.between.kept.heap.store x.memory.heap
left_means {R} Means r x = by r.over
  where
    by : (over : Option Over) → StandsWith Means over r.input r.between x → Means r.between.kept.heap.store x.memory.heap
    by None is = subst (λ (y : Inside). Means r.between.kept.heap.store y.memory.heap) (sym is.is) is.stands.memory.cells.means
    by (Some over) is = is.means

-- So that is a heap with which a run may end.
left_heap : {R : Type 0} (Means : R → Heap → Type 0) (program : FlowProgram) (input : List ℕ) (n : ℕ) (r : Running R) (store : R) → store ≡ r.between.kept.heap.store
    → IsLeft program input n (RunStands Means r) → Knows Means store (MayEnd program input n)
left_heap Means program input n r store same is =
    subst (λ s. Knows Means s (MayEnd program input n)) (sym same) (is.inside.memory.heap, (left_means Means r is.inside is.left, is.ends))

-- What is left of a run, and the store that it gives back, where that was lent by the same reference.
pub fitting_left : {R A E : Type 0} (Means : R → Heap → Type 0) (program : FlowProgram) (input : List ℕ) (n : ℕ) (old new : Running R) (reference : ℕ) (store : R) (r : Result A E)
    → (running_lent new ≡ reference → store ≡ new.between.kept.heap.store) → running_lent old ≡ reference → old.input ≡ input
    → IfOk r (λ a. IsLeft program old.input n (RunStands Means new)) → OnOk r (running_lent new ≡ running_lent old)
    → IfOk r (λ a. Knows Means store (MayEnd program input n))
fitting_left Means program input n old new reference store (Ok a) same first is left lent =
    left_heap Means program input n new store (same (lent ∙ first)) (subst (λ bytes. IsLeft program bytes n (RunStands Means new)) is left)
fitting_left Means program input n old new reference store (Err e) same first is left lent = tt

module _ (laid : Laid) (codes : Codes) (ready : IsReady laid codes) where
  -- The first frames fit, and a run is made.
  pub started : {R : Type 0} (Means : R → Heap → Type 0) (lent : ℕ) (input : List ℕ) (declares : Bool) (r : Running R) → fits (program_of codes) (main_of laid.main) ≡ true
      → declares ≡ is_declaring (laid_programs.program_of laid) → IsAtStart Means laid.table (program_of codes) lent input declares r
      → IsStarted laid (running_setting r) (running_untold r) (RunStands Means r)
  started Means lent input declares r fit first is = record {
    points = program_of codes;
    lowered = ready.lowered;
    main = ready.main;
    has = ready.has;
    fit = ap (λ (o : Option ℕ). fits (program_of codes) (main_of o)) (sym ready.has) ∙ fit;
    setting = is.setting ∙ ap (setting_of (laid_programs.program_of laid) (program_of codes)) (sym (ap (λ (c : Setting). c.input) is.setting));
    inside = is.inside;
    stands = is.stands;
    start = is.start ∙ ap (state_at_start (flow_typing (laid_programs.program_of laid)).table (program_of codes)) first;
  }

  -- They don't.
  pub unfit : (main : ℕ) → laid.main ≡ Some main → fits (program_of codes) main ≡ false → IsUnfit laid main
  unfit main has none = record { points = program_of codes; lowered = ready.lowered; has = has; unfit = none }
