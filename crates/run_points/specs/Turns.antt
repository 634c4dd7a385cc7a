-- What stands while a step is made on both sides.
use Rattle.std.specs.Prelude.{◌≡◌, ◌<◌, ℕ, ◌+◌, true, false, ◌==◌, List, [], ◌∷◌, ◌++◌, map, reverse, length, take, drop, get_or, slice_get, nat_lt, Some}
use Rattle.spark_base.specs.Lists.{Has}
use Rattle.type_definitions.specs.Entries.{boolean}
use Rattle.flow_paths.specs.Scopes.{taken}
use Rattle.flow_paths.specs.Instructions.{Instruction}
use Rattle.flow_paths.specs.Points.{FlowPoint}
use Rattle.flow_paths.specs.Laid.{FlowProgram, flow_typing}
use Rattle.machine.specs.Typed.{Position, sorts}
use Rattle.machine.specs.Memory.{Memory}
use Rattle.machine.specs.States.{Waiting, Leak, stack_words, sub_of}
use Rattle.machine.specs.States as machine
use Rattle.machine.specs.Step as machine_step
use Rattle.machine.specs.Run.{no_point}
use Rattle.run_codes.specs.Codes.{Does, Finish, Point}
use Rattle.run_codes.specs.Flat.{Flat}
use Rattle.run_codes.specs.Programs.{Program, Around, does, point, sub_rows}
use Rattle.run_codes.specs.Points.{Frame, State, Turn, start, are_taken, done}
use Rattle.run_codes.specs.Related.{types, IsTable, Seen, Related}
use Rattle.run_fills.specs.Filled.{HasParts}
use Rattle.run_points.specs.Outcomes.{IsAlike}
use Rattle.run_points.specs.States.{StateStands, first_point, site_of, Laid, LoopAt, Runs, FrameStands, FramesStand, MemoryStands, AreUndeclared}

-- A step on both sides: what they share, what the machine has, and what the executor has.
pub record Turns : Type 0 where
  pub program : FlowProgram
  pub lowered : Program
  pub input : List ℕ
  pub point : FlowPoint
  pub takes : List ℕ
  pub at : ℕ
  pub output : List ℕ
  pub leaks : List Leak
  pub steps : ℕ
  pub memory : Memory
  pub checks : List (List Leak)
  pub frame : machine.Frame
  pub outer : List machine.Frame
  pub flat : Flat
  pub flat_frame : Frame
  pub flat_outer : List Frame

abbrev pub state : Turns → machine.State
state b = record {
  frames = b.frame ∷ b.outer;
  memory = b.memory;
  at = b.at;
  output = b.output;
  leaks = b.leaks;
  checks = b.checks;
  steps = b.steps;
}

abbrev pub turn : Turns → machine_step.Turn
turn b = record { program = b.program; input = b.input; point = b.point; state = state b; frame = b.frame; outer = b.outer }

abbrev pub flat_state : Turns → State
flat_state b = record {
  memory = b.flat;
  frames = b.flat_frame ∷ b.flat_outer;
  at = b.at;
  output = b.output;
  leaks = b.leaks;
  steps = b.steps;
}

abbrev pub flat_turn : Turns → Does → Turn
flat_turn b d = record {
  table = (flow_typing b.program).table;
  program = b.lowered;
  input = b.input;
  point = record { takes = b.takes; does = d; pos = b.point.pos };
  state = flat_state b;
  frame = b.flat_frame;
  outer = b.flat_outer;
}

-- What the point is lowered by.
abbrev pub around : Turns → Around
around b = record {
  site = site_of b.program b.frame.sub b.takes;
  result = (sub_of b.program b.frame.sub).result;
  first = first_point b.program.subs b.frame.sub;
  count = length (sub_of b.program b.frame.sub).points;
  is_first = b.frame.sub == 0;
}

-- What its evaluations go by.
abbrev pub seen : Turns → Seen
seen b = record {
  site = site_of b.program b.frame.sub b.takes;
  frame = length b.outer;
  memory = b.memory;
  waits = map (λ (v : Waiting). v.words) (reverse (take (length b.takes) b.frame.waits));
  flat = start (flat_turn b Finish);
}

pub record TurnStands (b : Turns) (laid : Laid) : Type 0 where
  pub laws : IsTable (flow_typing b.program).table
  pub parts : HasParts (flow_typing b.program).table
  pub truth : sorts (flow_typing b.program).table boolean ≡ Position ∷ []
  pub memory : MemoryStands b.program laid (length (b.frame ∷ b.outer)) b.memory b.flat
  pub frame : FrameStands b.program laid (types b.memory) b.flat.stack (length b.outer) b.frame b.flat_frame
  pub runs : Runs b.program b.frame
  pub outer : FramesStand b.program laid (types b.memory) b.flat.stack b.outer b.flat_outer
  pub many : taken b.point.instr ≡ length b.takes
  pub taken : are_taken (flat_turn b Finish) ≡ true

-- A memory after the step stands as well: cells were made after those that there were, and words of loops
-- in other frames are as before.
pub record IsKept (b : Turns) (laid : Laid) (m : Memory) (f : Flat) : Type 0 where
  pub related : Related (flow_typing b.program) laid.objects m f
  pub more : List ℕ
  pub made : types m ≡ types b.memory ++ more
  pub long : length f.stack ≡ length b.flat.stack
  pub undeclared : AreUndeclared (flow_typing b.program) (length (b.frame ∷ b.outer)) m
  pub loops : (c : LoopAt) → Has laid.loops c → (c.frame == length b.outer) ≡ false → take 3 (drop c.at f.stack) ≡ take 3 (drop c.at b.flat.stack)

-- ---- what is lowered

-- What a subprogram is lowered by, but for what a point takes.
abbrev pub around_sub : FlowProgram → ℕ → Around
around_sub program n = record {
  site = site_of program n [];
  result = (sub_of program n).result;
  first = first_point program.subs n;
  count = length (sub_of program n).points;
  is_first = n == 0;
}

-- The points of subprograms that may run are lowered one after the other, and the subprograms with them.
pub record IsLowered (program : FlowProgram) (p : Program) : Type 0 where
  pub points : (n k : ℕ) → k < length (sub_of program n).points → nat_lt stack_words (sub_of program n).words ≡ false
      → (q : Point) × (slice_get p.points (first_point program.subs n + k) ≡ Some q) × (point (around_sub program n) (get_or (sub_of program n).points k no_point) ≡ Some q)
  pub subs : p.subs ≡ sub_rows (flow_typing program) 0 program.subs
  pub main : p.main ≡ program.main

-- What is known of the types of a program.
pub record HasTypes (program : FlowProgram) : Type 0 where
  pub laws : IsTable (flow_typing program).table
  pub parts : HasParts (flow_typing program).table
  pub truth : sorts (flow_typing program).table boolean ≡ Position ∷ []

-- An instruction does on both sides the same.
abbrev pub DoesAlike : Turns → Instruction → Type 0
DoesAlike b i = (d : Does) → does (around b) b.point i ≡ Some d → IsAlike (StateStands b.program) (machine_step.turn (turn b) i) (done (flat_turn b d) d)
