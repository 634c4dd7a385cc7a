-- The state of a run between two steps (docs/RUN.md, "States").
use Rattle.std.specs.Prelude.{ℕ, Bool, List, [], map, sum, get_or, ℤ, None}
use Rattle.flow_paths.specs.spark_base.declared.position.Pos.{Pos}
use Rattle.flow_paths.specs.Laid.{FlowSub, FlowProgram}
use Rattle.machine.specs.Words.{Word}
use Rattle.machine.specs.Memory.{Memory, Place}
use Rattle.machine.specs.Evaluate.{Exception, Trap}

-- A `for` loop that has started: its bounds, and whether its first iteration is still to come.
pub record Loop : Type 0 where
  pub parameter : ℕ
  pub low : ℤ
  pub high : ℤ
  pub first : Bool

-- Where a formal is copied back to when its call ends.
pub record Return : Type 0 where
  pub formal : ℕ
  pub to : Place

-- A value that waits, and its type.
pub record Waiting : Type 0 where
  pub of : ℕ
  pub words : List Word

-- A frame: its subprogram and its next point; the values that wait, the latest first; the loops
-- that have started, the latest first; and what is copied back.
pub record Frame : Type 0 where
  pub sub : ℕ
  pub next : ℕ
  pub waits : List Waiting
  pub loops : List Loop
  pub returns : List Return

-- A leak check that failed.
pub record Leak : Type 0 where
  pub number : ℕ
  pub pos : Pos

-- The innermost frame stands first, and that of the package objects last. Output and failed leak
-- checks stand in the order in which they came. Of the leak checks of the last step, as its point
-- lists them, `checks` has what failed of each.
pub record State : Type 0 where
  pub frames : List Frame
  pub memory : Memory
  pub at : ℕ
  pub output : List ℕ
  pub leaks : List Leak
  pub checks : List (List Leak)
  pub steps : ℕ

pub data Ending : Type 0 where
  Normal : Ending
  Raised : Exception → Pos → Ending
  Spent : Ending
  Trapped : Trap → Pos → Ending

-- What a step leads to.
pub data Outcome : Type 0 where
  Goes : State → Outcome
  Ends : Ending → State → Outcome

abbrev pub state_of : Outcome → State
state_of (Goes s) = s
state_of (Ends e s) = s

-- ---- frames

abbrev pub no_sub : FlowSub
no_sub = record { pos = record { file = 0; line = 1; column = 1 }; words = 0; formals = []; result = None; points = []; facts = [] }

abbrev pub sub_of : FlowProgram → ℕ → FlowSub
sub_of program n = get_or program.subs n no_sub

abbrev pub frame_words : FlowProgram → List Frame → ℕ
frame_words program frames = sum (map (λ (f : Frame). (sub_of program f.sub).words) frames)

-- The most words of all frames.
abbrev pub stack_words : ℕ
stack_words = 4194304

abbrev pub frame_at_start : ℕ → List Return → Frame
frame_at_start sub returns = record { sub = sub; next = 0; waits = []; loops = []; returns = returns }
