-- States of runs over a heap that uses its slots again, and what points change in them.
use Rattle.std.specs.Prelude.{ℕ, suc, ◌+◌, ◌-◌, Bool, ◌==◌, List, [], ◌∷◌, ◌++◌, map, flat_map, reverse, take, drop, length, Option, Some, None, ℤ}
use Rattle.std.specs.Cmp.Lexicographic.{pointwise}
use Rattle.handled_runs.specs.type_definitions.Types.{Table}
use Rattle.handled_runs.specs.machine.States.{Leak, Ending, Raised, Trapped}
use Rattle.handled_runs.specs.run_codes.Codes.{Point, Sub}
use Rattle.handled_runs.specs.run_codes.Flat.{Got, Given, Stops, Broken, Stop, Raises, Traps, Memory}
use Rattle.handled_runs.specs.run_codes.Points.{Held, Return, Frame, template, sub_at}
use Rattle.handled_runs.specs.run_codes.Programs.{Program}
use Rattle.handled_runs.specs.Slots.{Slots}
use Rattle.handled_runs.specs.Changes.{with_stack}
use Rattle.handled_runs.specs.Values as values

-- Words of frames name cells by their handles.
pub record State : Type 0 where
  pub memory : Slots
  pub frames : List Frame
  pub at : ℕ
  pub output : List ℕ
  pub leaks : List Leak
  pub steps : ℕ

-- What a step leads to: it may also want memory, and it fails where what it asks for isn't there.
pub data Outcome : Type 0 where
  Goes : State → Outcome
  Ends : Ending → State → Outcome
  Wants : Outcome
  Fails : Outcome

-- A step: the types and the program with its input, the point, and the state before it, whose innermost
-- frame is apart.
pub record Turn : Type 0 where
  pub table : Table
  pub program : Program
  pub input : List ℕ
  pub point : Point
  pub state : State
  pub frame : Frame
  pub outer : List Frame

abbrev pub taken : Turn → List Held
taken t = reverse (take (length t.point.takes) t.frame.waits)

abbrev pub waiting : Turn → List Held
waiting t = drop (length t.point.takes) t.frame.waits

-- The values that wait are of the types that the point takes.
abbrev pub are_taken : Turn → Bool
are_taken t = pointwise (λ a b. a == b) t.point.takes (map (λ (h : Held). h.of) (taken t))

abbrev pub start : Turn → Slots
start t = record t.state.memory {
  base = t.frame.base;
  waits = flat_map (λ (h : Held). h.words) (taken t);
  rest = drop t.state.at t.input;
  moves = [];
}

-- ---- how steps end

abbrev pub counted : State → State
counted s = record s { steps = suc s.steps }

-- The heap has the cells that it had before the step, and the slots that were made since. The cells that
-- the step made count as freed.
abbrev pub given_up : Slots → Slots → Slots
given_up before s = record before {
  heap = record { cells = before.heap.cells; slots = s.heap.slots };
  made = s.made;
  freed = before.freed + (s.made - before.made);
  peaks = s.peaks;
  sizes = before.sizes ++ drop (length before.sizes) s.sizes;
}

abbrev pub ended : Turn → Ending → Slots → Outcome
ended t e s = Ends e (counted (record t.state { memory = given_up t.state.memory s }))

abbrev pub halted : Turn → Stop → Slots → Outcome
halted t (Raises e) s = ended t (Raised e t.point.pos) s
halted t (Traps trap) s = ended t (Trapped trap t.point.pos) s
halted t Memory s = Wants

abbrev pub on_got : {A : Type 0} → Turn → Slots → Got A → (A → Outcome) → Outcome
on_got t s (Given a) f = f a
on_got t s (Stops x) f = halted t x s
on_got t s Broken f = Fails

-- After a value.
abbrev pub on_made : Turn → values.Outcome → (List ℤ → Slots → Outcome) → Outcome
on_made t (values.Gives zs s) f = f zs s
on_made t (values.Ends x s) f = halted t x s
on_made t values.Fails f = Fails

-- ---- frames

abbrev pub with_frame : Table → Sub → Slots → Slots
with_frame table sub s = with_stack s (s.stack ++ template table sub)

abbrev pub frame_of : Slots → Sub → List Return → Frame
frame_of s sub returns = record { base = length s.stack; next = sub.first; words = sub.words; waits = []; returns = returns }

-- Where no point follows the last package object, the main procedure begins.
abbrev pub begun : Turn → Frame → Slots → Option ℕ → State
begun t f s None = record t.state { memory = s; frames = f ∷ [] }
begun t f s (Some main) = record t.state {
  memory = with_frame t.table (sub_at t.program main) s;
  frames = frame_of s (sub_at t.program main) [] ∷ f ∷ [];
}

-- Where a point follows in no frame, the one that called goes on.
abbrev pub left : Turn → Frame → Slots → List Frame → State
left t f s [] = begun t f s t.program.main
left t f s (g ∷ outer) = record t.state { memory = s; frames = f ∷ g ∷ outer }

abbrev pub led : Turn → Frame → Slots → Option ℕ → State
led t f s (Some n) = record t.state { memory = s; frames = record f { next = n } ∷ t.outer }
led t f s None = left t f s t.outer

-- The state after the step, with these values waiting.
abbrev pub after : Turn → List Held → Slots → Option ℕ → State
after t waits s n = counted (led t (record t.frame { waits = waits }) s n)

abbrev pub goes : Turn → Slots → Option ℕ → Outcome
goes t s n = Goes (after t (waiting t) s n)

abbrev pub leaking : List Leak → State → State
leaking leaks s = record s { leaks = s.leaks ++ leaks }

abbrev pub leaking_goes : Turn → List Leak → Slots → Option ℕ → Outcome
leaking_goes t leaks s n = Goes (leaking leaks (after t (waiting t) s n))
