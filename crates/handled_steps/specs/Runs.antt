-- Runs from their start over a heap that uses its slots again, and what they give.
use Rattle.std.specs.Prelude.{◌≡◌, ℕ, ◌+◌, Bool, true, false, List, [], ◌∷◌, ◌++◌, length, nat_le, Option, Some, None}
use Rattle.handled_runs.specs.spark_base.declared.position.Pos.{Pos}
use Rattle.handled_runs.specs.type_definitions.Types.{Table}
use Rattle.handled_runs.specs.run_values.declared.value.Kind.{Kind}
use Rattle.handled_runs.specs.machine.Evaluate.{StorageError, Trap}
use Rattle.handled_runs.specs.machine.States.{Ending, Raised, Spent, Trapped, stack_words}
use Rattle.handled_runs.specs.slot_heap.Heaps.{no_heap}
use Rattle.handled_runs.specs.run_codes.Points.{Frame, Ran, sub_at}
use Rattle.handled_runs.specs.run_codes.Programs.{Program}
use Rattle.handled_runs.specs.Slots.{Slots}
use Rattle.handled_steps.specs.States.{State, Outcome, Goes, Ends, Wants, Fails, with_frame, frame_of}
use Rattle.handled_steps.specs.Steps.{Within}
use Rattle.handled_steps.specs.Alike.{frame_kinds}

abbrev pub no_memory : Slots
no_memory = record { stack = []; base = 0; heap = no_heap; numbers = λ h. 0; live = 0; made = 0; freed = 0; peaks = []; sizes = []; waits = []; rest = []; moves = [] }

abbrev pub state_of : Slots → List Frame → State
state_of s frames = record { memory = s; frames = frames; at = 0; output = []; leaks = []; steps = 0 }

abbrev pub main_begun : Table → Program → Slots → Frame → Option ℕ → State
main_begun table program s f None = state_of s (f ∷ [])
main_begun table program s f (Some main) =
    state_of (with_frame table (sub_at program main) s) (frame_of s (sub_at program main) [] ∷ f ∷ [])

-- The package objects are declared first; without a point for them, the main procedure begins at once.
abbrev pub declared_first : Table → Program → Slots → Frame → Bool → State
declared_first table program s f true = state_of s (f ∷ [])
declared_first table program s f false = main_begun table program s f program.main

abbrev pub state_at_start : Table → Program → Bool → State
state_at_start table program declares =
    declared_first table program (with_frame table (sub_at program 0) no_memory) (frame_of no_memory (sub_at program 0) []) declares

-- Where the frames of both have room.
abbrev pub RunsWithin : Bool → Table → Program → Bool → Pos → List ℕ → ℕ → Outcome → Type 0
RunsWithin true table program declares at input n r = Within n table program input (state_at_start table program declares) r
RunsWithin false table program declares at input n r = r ≡ Ends (Raised StorageError at) (state_at_start table program declares)

-- A run of at most n steps.
abbrev pub RunOf : Table → Program → Bool → Pos → ℕ → List ℕ → ℕ → Outcome → Type 0
RunOf table program declares at main input n r =
    RunsWithin (nat_le ((sub_at program main).words + (sub_at program 0).words) stack_words) table program declares at input n r

-- What a run gives, but for the greatest counts of cells.
abbrev pub ran_with : Ending → State → Ran
ran_with e s = record {
  output = s.output;
  leaks = s.leaks;
  ending = e;
  steps = s.steps;
  made = s.memory.made;
  freed = s.memory.freed;
  leaked = length s.leaks;
}

-- Where memory isn't wanted.
abbrev pub given : Outcome → Option Ran
given (Goes s) = Some (ran_with Spent s)
given (Ends e s) = Some (ran_with e s)
given Wants = None
given Fails = None

-- No freed cell is touched, and none is freed again.
abbrev pub NeverTraps : Ending → Type 0
NeverTraps e = (x : Trap) (p : Pos) → e ≡ Trapped x p → ⊥

-- ---- the kinds of the stack at the start

abbrev pub main_kinds : Table → Program → List Kind → Option ℕ → List Kind
main_kinds table program ks None = ks
main_kinds table program ks (Some main) = ks ++ frame_kinds table (sub_at program main)

abbrev pub first_kinds : Table → Program → Bool → List Kind
first_kinds table program true = frame_kinds table (sub_at program 0)
first_kinds table program false = main_kinds table program (frame_kinds table (sub_at program 0)) program.main
