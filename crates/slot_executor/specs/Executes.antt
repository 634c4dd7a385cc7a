-- What a run of a program answers over a heap that uses its slots again.
use Rattle.std.specs.Prelude.{◌≡◌, ℕ, ◌+◌, Bool, true, false, List, nat_le, Some}
use Rattle.std.specs.Io.KnownBytes.{Appends}
use Rattle.flow_paths.specs.Laid.{FlowProgram, flow_typing}
use Rattle.machine.specs.States.{sub_of, stack_words}
use Rattle.machine.specs.Run.{Run, run}
use Rattle.laid_program.specs.declared.laid.Laid.{Laid}
use Rattle.laid_program.specs.Programs.{program_of}
use Rattle.run_codes.specs.Programs.{Program, lowered_program}
use Rattle.run_codes.specs.Points.{sub_at, is_declaring, ran_of}
use Rattle.run_codes.specs.Points as points
use Rattle.numbered_cells.specs.Peaks.{peak_of}
use Rattle.slot_heap.specs.Heaps.{Heap, slot_count}
use Rattle.handled_steps.specs.States.{State, Outcome, Ends}
use Rattle.handled_steps.specs.Runs.{RunOf, given, state_at_start}
use Rattle.run_results.specs.declared.ran.Ran.{Ran}
use Rattle.run_results.specs.Results.{IsRun}
use Rattle.run_results.specs.Lines.{leak_lines}
use Rattle.slot_runs.specs.Turns.{Setting, Untold, Inside, state_of, is_failing}
use Rattle.slot_runs.specs.Tellings.{Sinks}
use Rattle.slot_runs.specs.Answers.{EndsWith}

-- The run has this ending and these counts; one sink got its output, and the other one its leak lines.
pub record IsExecuted (files : List (List ℕ)) (run : Run) (ran : Ran) (old new : Sinks) : Type 0 where
  pub is : IsRun (ran_of run) ran
  pub output : Appends old.output new.output run.output
  pub lines : Appends old.lines new.lines (leak_lines files run.leaks)

-- ---- what may come of a run

-- There are as many slots of each size as cells of this size were live at once.
abbrev pub HasSlots : Run → List ℕ → Type 0
HasSlots x slots = (size : ℕ) → slot_count size slots ≡ peak_of size x.peaks

abbrev pub EndsWithSlots : Run → Outcome → Type 0
EndsWithSlots x (Ends e s) = HasSlots x s.memory.heap.slots
EndsWithSlots x _ = Unit {0}

-- It doesn't fail, and what it gives is what a run of the machine gives. Where memory is wanted, it gives nothing. Its
-- heap has the slots that the machine's run needs.
pub record IsSame (x : Run) (r : Outcome) : Type 0 where
  pub there : is_failing r ≡ false
  pub gives : (ran : points.Ran) → given r ≡ Some ran → ran ≡ ran_of x
  pub slots : EndsWithSlots x r

-- So does whatever may come of the runs of a program on an input, as it is lowered.
abbrev pub AreSame : FlowProgram → List ℕ → Type 0
AreSame program input =
    (p : Program) → lowered_program program ≡ Some p → (main : ℕ) → program.main ≡ Some main → (n : ℕ) (r : Outcome)
    → RunOf (flow_typing program).table p (is_declaring program) (sub_of program main).pos main input n r → IsSame (run program input n) r

-- ---- what is run

-- Whether the first frames fit into the stack.
abbrev pub fits : Program → ℕ → Bool
fits p main = nat_le ((sub_at p main).words + (sub_at p 0).words) stack_words

-- A program is lowered with its table of types, and runs on this input.
abbrev pub setting_of : FlowProgram → Program → List ℕ → Setting
setting_of program p input = record { table = (flow_typing program).table; program = p; input = input }

-- The state before the first step.
abbrev pub start_of : FlowProgram → Program → State
start_of program p = state_at_start (flow_typing program).table p (is_declaring program)

-- A program with a main procedure is lowered, and its first frames don't fit.
pub record IsUnfit (laid : Laid) (main : ℕ) : Type 0 where
  pub points : Program
  pub lowered : lowered_program (program_of laid) ≡ Some points
  pub has : laid.main ≡ Some main
  pub unfit : fits points main ≡ false

-- They fit, and a run at hand stands before its first step.
pub record IsStarted (laid : Laid) (c : Setting) (u : Untold) (Stands : Inside → Type 0) : Type 0 where
  pub points : Program
  pub lowered : lowered_program (program_of laid) ≡ Some points
  pub main : ℕ
  pub has : laid.main ≡ Some main
  pub fit : fits points main ≡ true
  pub setting : c ≡ setting_of (program_of laid) points c.input
  pub inside : Inside
  pub stands : Stands inside
  pub start : state_of u inside ≡ start_of (program_of laid) points

-- ---- what is left

-- The run of a program, as it is lowered, may end with this heap.
pub record MayEnd (program : FlowProgram) (input : List ℕ) (n : ℕ) (end : Heap) : Type 0 where
  pub points : Program
  pub lowered : lowered_program program ≡ Some points
  pub main : ℕ
  pub has : program.main ≡ Some main
  pub outcome : Outcome
  pub comes : RunOf (flow_typing program).table points (is_declaring program) (sub_of program main).pos main input n outcome
  pub heap : EndsWith end outcome

-- What is left stands for an inside with such a heap.
pub record IsLeft (program : FlowProgram) (input : List ℕ) (n : ℕ) (Left : Inside → Type 0) : Type 0 where
  pub inside : Inside
  pub left : Left inside
  pub ends : MayEnd program input n inside.memory.heap
