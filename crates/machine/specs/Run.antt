-- A whole run (docs/RUN.md, "Runs").
use Rattle.std.specs.Prelude.{ℕ, zero, suc, List, [], ◌∷◌, ◌++◌, length, filter, get_or, nat_le, Option, Some, None, if◌then◌else◌}
use Rattle.flow_paths.specs.Instructions.{Fall}
use Rattle.flow_paths.specs.Points.{FlowPoint}
use Rattle.flow_paths.specs.Laid.{FlowProgram}
use Rattle.machine.specs.Memory.{Memory, HeapCell, Peak}
use Rattle.machine.specs.Evaluate.{StorageError}
use Rattle.machine.specs.States.{Frame, Leak, State, Ending, Raised, Spent, Outcome, Goes, Ends, state_of, no_sub, sub_of, frame_words, stack_words, frame_at_start}
use Rattle.machine.specs.Step.{turn, main_frame}

abbrev pub no_point : FlowPoint
no_point = record { pos = no_sub.pos; acts = []; leaks = []; instr = Fall; next = [] }

-- The next point of the innermost frame.
abbrev pub stepped : FlowProgram → List ℕ → State → List Frame → Outcome
stepped program input s [] = Ends Spent s
stepped program input s (f ∷ outer) =
    let p : FlowPoint = get_or (sub_of program f.sub).points f.next no_point in
    turn (record { program = program; input = input; point = p; state = s; frame = f; outer = outer }) p.instr

abbrev pub step : FlowProgram → List ℕ → State → Outcome
step program input s = stepped program input s s.frames

-- ---- the start

abbrev pub empty_memory : Memory
empty_memory = record { variables = []; cells = []; peaks = [] }

-- The package objects are declared first; without any, the main procedure begins at once.
abbrev pub frames_at_start : FlowProgram → List FlowPoint → List Frame
frames_at_start program [] = main_frame program ++ frame_at_start 0 [] ∷ []
frames_at_start program (p ∷ rest) = frame_at_start 0 [] ∷ []

abbrev pub state_at_start : FlowProgram → State
state_at_start program = record {
  frames = frames_at_start program (sub_of program 0).points;
  memory = empty_memory;
  at = 0;
  output = [];
  leaks = [];
  checks = [];
  steps = 0;
}

-- ---- the run

abbrev pub then_on : Outcome → (State → Outcome) → Outcome
then_on (Goes s) on = on s
then_on (Ends e s) on = Ends e s

unfoldable pub within : ℕ → FlowProgram → List ℕ → State → Outcome
within zero program input s = Ends Spent s
within (suc n) program input s = then_on (step program input s) (within n program input)

-- A run of at most n steps. Where the package objects and the main procedure have too many words,
-- it ends at the identifier of the main procedure before the first step.
abbrev pub run_of : FlowProgram → ℕ → List ℕ → ℕ → Outcome
run_of program main input n =
    if nat_le (frame_words program (frame_at_start main [] ∷ frame_at_start 0 [] ∷ [])) stack_words
    then within n program input (state_at_start program)
    else Ends (Raised StorageError (sub_of program main).pos) (state_at_start program)

-- ---- what a run gives

pub record Run : Type 0 where
  pub output : List ℕ
  pub leaks : List Leak
  pub ending : Ending
  pub steps : ℕ
  pub made : ℕ
  pub freed : ℕ
  pub leaked : ℕ
  pub peaks : List Peak

abbrev pub run_with : Ending → State → Run
run_with e s = record {
  output = s.output;
  leaks = s.leaks;
  ending = e;
  steps = s.steps;
  made = length s.memory.cells;
  freed = length (filter (λ (c : HeapCell). c.freed) s.memory.cells);
  leaked = length s.leaks;
  peaks = s.memory.peaks;
}

abbrev pub ended : Outcome → Run
ended (Goes s) = run_with Spent s
ended (Ends e s) = run_with e s

abbrev pub main_of : Option ℕ → ℕ
main_of None = 0
main_of (Some n) = n

-- What a program with a main procedure does with this input in at most so many steps.
unfoldable pub run : FlowProgram → List ℕ → ℕ → Run
run program input n = ended (run_of program (main_of program.main) input n)

-- The moments of a run: where it is after so many steps, or where it ended before.
unfoldable pub moment : FlowProgram → List ℕ → ℕ → State
moment program input n = state_of (run_of program (main_of program.main) input n)
