-- The machine on a memory that keeps no marks: null stands in each place that was moved.
--
-- A heap that uses cells again can't know what is gone. So no step may look at a word that is gone:
-- then the run is the same with null in its place.
use Rattle.std.specs.Prelude.{◌≡◌, ℕ, zero, suc, List, [], ◌∷◌, map, nat_le, if◌then◌else◌}
use Rattle.machine.specs.flow_paths.Laid.{FlowProgram}
use Rattle.machine.specs.Memory.{Slot, Variable, HeapCell, Memory, no_slot}
use Rattle.machine.specs.Evaluate.{StorageError}
use Rattle.machine.specs.States.{State, Raised, Spent, Outcome, Goes, Ends, sub_of, frame_words, stack_words, frame_at_start}
use Rattle.machine.specs.Run.{step, state_at_start, then_on, Run, ended, main_of, run}

-- Null stands in a place that is gone, and no mark.
abbrev pub cleared_slot : Slot → Slot
cleared_slot x = if x.gone then no_slot else x

abbrev pub cleared : Memory → Memory
cleared m = record m {
  variables = map (λ (v : Variable). record v { slots = map cleared_slot v.slots }) m.variables;
  cells = map (λ (c : HeapCell). record c { slots = map cleared_slot c.slots }) m.cells;
}

abbrev pub cleared_state : State → State
cleared_state s = record s { memory = cleared s.memory }

abbrev pub cleared_outcome : Outcome → Outcome
cleared_outcome (Goes s) = Goes (cleared_state s)
cleared_outcome (Ends e s) = Ends e (cleared_state s)

-- A step, after which null stands where it moved.
abbrev pub null_step : FlowProgram → List ℕ → State → Outcome
null_step program input s = cleared_outcome (step program input s)

unfoldable pub null_within : ℕ → FlowProgram → List ℕ → State → Outcome
null_within zero program input s = Ends Spent s
null_within (suc n) program input s = then_on (null_step program input s) (null_within n program input)

abbrev pub null_run_of : FlowProgram → ℕ → List ℕ → ℕ → Outcome
null_run_of program main input n =
    if nat_le (frame_words program (frame_at_start main [] ∷ frame_at_start 0 [] ∷ [])) stack_words
    then null_within n program input (state_at_start program)
    else Ends (Raised StorageError (sub_of program main).pos) (state_at_start program)

unfoldable pub null_run : FlowProgram → List ℕ → ℕ → Run
null_run program input n = ended (null_run_of program (main_of program.main) input n)

-- ---- the law

-- With each budget the run gives the same: output, leaks, ending and counts.
abbrev pub RunsWithNull : FlowProgram → List ℕ → Type 0
RunsWithNull program input = (n : ℕ) → null_run program input n ≡ run program input n
