-- What one step does, one case for each instruction (docs/RUN.md, "Steps").
use Rattle.std.specs.Prelude.{ℕ, zero, suc, Bool, true, false, not, ◌&&◌, ◌||◌, ◌==◌, List, [], ◌∷◌, ◌++◌, map, flat_map, reverse, take, drop, length, get_or, nat_le, nat_lt, Option, Some, None, ℤ, pos, negsuc, ◌+ℤ◌, unsigned_abs, int_le, int_lt, if◌then◌else◌}
use Rattle.std.specs.List.{position_or_len}
use Rattle.flow_paths.specs.spark_base.declared.position.Pos.{Pos}
use Rattle.flow_paths.specs.type_definitions.Types.{full}
use Rattle.flow_paths.specs.typed_tree.declared.node.ShortCircuit.{ShortCircuit}
use Rattle.flow_paths.specs.typed_tree.Trees.{TypedTree, TypedCode, Interval, Others, More}
use Rattle.flow_paths.specs.Instructions.{Instruction, Skip, Declare, Assign, Call, Output, Input, Release, Test, Choose, Start, Next, Evaluate, LeaveLoop, Hold, EndScope, Finish, Fall}
use Rattle.flow_paths.specs.Objects.{Typing, object_at, sub_at, is_anonymous, designated, passings}
use Rattle.flow_paths.specs.Names.{Written, written, first}
use Rattle.flow_paths.specs.type_definitions.Entries.{integer, boolean}
use Rattle.flow_paths.specs.Scopes.{taken}
use Rattle.flow_paths.specs.Points.{FlowPoint}
use Rattle.flow_paths.specs.Laid.{FlowProgram, flow_typing}
use Rattle.run_values.specs.declared.items.Item.{Item}
use Rattle.run_values.specs.declared.items.Item.TheVariants as item
use Rattle.run_values.specs.Items.{next_item}
use Rattle.machine.specs.Words.{Word, Int, Enumerated, Null, Cell, fits_type}
use Rattle.machine.specs.Memory.{Memory, Place, Base, OfVariable, OfCell, cell, words_of, moved_out, stored, declared, undeclared, without_frame, freed, given_up}
use Rattle.machine.specs.Evaluate.{Exception, ConstraintError, ProgramError, StorageError, DataError, EndError, Trap, Touched, Twice, Now, Evaluated, Done, Raises, Traps, followed_by, Here, cell_place, variable_place, value, viewed, initial, place_of, text_of, checked, is_true, decides, value_of}
use Rattle.machine.specs.Calls.{checks_at, written_pos, Passed, all_passed, out_checks, with_formals, returns_of}
use Rattle.machine.specs.States.{Waiting, Loop, Return, Frame, Leak, State, Normal, Raised, Trapped, Outcome, Goes, Ends, sub_of, frame_words, stack_words, frame_at_start}

-- A step: the program with its input, the point, and the state before it, whose innermost frame is
-- apart.
pub record Turn : Type 0 where
  pub program : FlowProgram
  pub input : List ℕ
  pub point : FlowPoint
  pub state : State
  pub frame : Frame
  pub outer : List Frame

abbrev pub typing : Turn → Typing
typing t = flow_typing t.program

abbrev pub here : Turn → Here
here t = record { typing = typing t; frame = length t.outer; rest = drop t.state.at t.input }

-- The values that the instruction takes, the first one first; the others wait on.
abbrev pub start : Turn → Now
start t = record {
  memory = t.state.memory;
  waits = map (λ (v : Waiting). v.words) (reverse (take (taken t.point.instr) t.frame.waits));
}

abbrev pub waiting : Turn → List Waiting
waiting t = drop (taken t.point.instr) t.frame.waits

-- ---- how steps end

-- No leak check of the step has been made yet.
abbrev pub counted : State → State
counted s = record s { steps = suc s.steps; checks = [] }

-- A step that raises is counted, and leaves the state before it; one that traps does so too.
abbrev pub raised : Turn → Exception → Memory → Outcome
raised t e m =
    Ends (Raised e t.point.pos) (counted (record t.state { memory = given_up t.state.memory m }))

abbrev pub trapped : Turn → Trap → Memory → Outcome
trapped t trap m =
    Ends (Trapped trap t.point.pos) (counted (record t.state { memory = given_up t.state.memory m }))

-- What the evaluation of a point leads to.
abbrev pub evaluated : {A : Type 0} → Turn → Evaluated A → (A → Memory → Outcome) → Outcome
evaluated t (Done a now) f = f a now.memory
evaluated t (Raises e now) f = raised t e now.memory
evaluated t (Traps trap now) f = trapped t trap now.memory

abbrev pub main_frame : FlowProgram → List Frame
main_frame program = main_of program.main
  where
    main_of : Option ℕ → List Frame
    main_of None = []
    main_of (Some n) = frame_at_start n [] ∷ []

-- Where a point of the package objects has no successor, they are declared, and the main procedure
-- begins. In other frames, points of typed programs have the successors that they lead to.
abbrev pub begun : FlowProgram → Frame → List Frame → List Frame
begun program f [] = main_frame program ++ f ∷ []
begun program f (g ∷ outer) = f ∷ g ∷ outer

abbrev pub led : Turn → Frame → Option ℕ → List Frame
led t f (Some n) = record f { next = n } ∷ t.outer
led t f None = begun t.program f t.outer

abbrev pub successor : Turn → ℕ → Option ℕ
successor t k = nth k t.point.next
  where
    nth : ℕ → List ℕ → Option ℕ
    nth k [] = None
    nth zero (n ∷ rest) = Some n
    nth (suc k) (n ∷ rest) = nth k rest

-- The state after the step, at the k-th successor, with these values waiting.
abbrev pub behind : Turn → List Waiting → Memory → ℕ → State
behind t waits m k =
    counted (record t.state { frames = led t (record t.frame { waits = waits }) (successor t k); memory = m })

abbrev pub goes : Turn → Memory → ℕ → Outcome
goes t m k = Goes (behind t (waiting t) m k)

-- ---- declarations and assignments

-- A value that a place of a type takes. A place of an anonymous access type takes a copy.
abbrev pub taken_by : Turn → ℕ → TypedTree → Now → Evaluated (List Word)
taken_by t of e now =
    if is_anonymous (full (typing t).table of) then viewed (here t) e now
    else followed_by (value (here t) e now) (checked (here t) of)

abbrev pub first_value : Turn → ℕ → TypedTree → Now → Evaluated (List Word)
first_value t of (More e rest) now = taken_by t of e now
first_value t of e now = initial (here t) of e now

abbrev pub declare : Turn → ℕ → TypedTree → Outcome
declare t x v =
    evaluated t (first_value t (object_at (typing t) x).of v (start t))
    (λ ws m. goes t (declared (length t.outer) x ws m) 0)

-- A value and a place.
pub record Stored : Type 0 where
  pub words : List Word
  pub place : Place

abbrev pub type_named : TypedTree → ℕ
type_named e = type_in (written e)
  where
    type_in : Option Written → ℕ
    type_in None = integer
    type_in (Some m) = m.of

-- The leak checks of a step, each with what failed of it.
abbrev pub leaking : List (List Leak) → State → State
leaking checks s = record s { leaks = s.leaks ++ flat_map (λ leaks. leaks) checks; checks = checks }

abbrev pub leaking_goes : List (List Leak) → Outcome → Outcome
leaking_goes checks (Goes s) = Goes (leaking checks s)
leaking_goes checks (Ends e s) = Ends e (leaking checks s)

abbrev pub target_pos : Turn → TypedTree → Pos
target_pos t target = written_pos t.point.pos (written target)

-- The source is evaluated, then the place of the target is found; then come the leak checks.
abbrev pub assign : Turn → TypedTree → TypedTree → Outcome
assign t target e =
    evaluated t (followed_by (taken_by t (type_named target) e (start t))
    (λ ws now. followed_by (place_of (here t) target now) (λ k now. Done (record { words = ws; place = k }) now)))
    (λ (s : Stored) m. leaking_goes (checks_at (typing t) (target_pos t target) m s.place)
    (goes t (stored (typing t) s.place s.words m) 0))

-- ---- calls

abbrev pub call : Turn → ℕ → TypedTree → Outcome
call t sub actuals =
    let formals : List ℕ = (sub_of t.program sub).formals in
    evaluated t (all_passed (here t) (passings (typing t) (sub_at (typing t) sub)) formals actuals (start t))
    (λ passed m. entered t sub formals actuals passed m)
  where
    -- the stack is tested, then come the leak checks, then the formals are declared
    entered : Turn → ℕ → List ℕ → TypedTree → List Passed → Memory → Outcome
    entered t sub formals actuals passed m =
        let frames : List Frame = frame_at_start sub (returns_of formals passed) ∷ (behind t (waiting t) m 0).frames in
        if nat_le (frame_words t.program frames) stack_words
        then leaking_goes (out_checks (typing t) t.point.pos m passed actuals)
        (Goes (record (behind t (waiting t) m 0) {
          frames = frames;
          memory = with_formals (typing t) (suc (length t.outer)) formals passed m;
        }))
        else raised t StorageError m

-- The formals are copied back in order, and what they hold is moved there.
abbrev pub copied_back : Turn → List Return → Now → Evaluated Memory
copied_back t [] now = Done now.memory now
copied_back t (r ∷ rest) now =
    let h : Here = here t in
    let formal : Place = variable_place h r.formal in
    followed_by (reached r.to now) (λ k now. followed_by (checked h k.of (words_of h.typing now.memory formal) now)
    (λ ws now. copied_back t rest (record now { memory = stored h.typing k ws (moved_out h.typing formal now.memory) })))
  where
    -- a place in a freed cell isn't there any more
    in_base : Base → Place → Now → Evaluated Place
    in_base (OfCell n) k now = if (cell now.memory n).freed then Traps Touched now else Done k now
    in_base (OfVariable frame x) k now = Done k now

    reached : Place → Now → Evaluated Place
    reached k now = in_base k.base k now

-- The end of a call; that of the main procedure with which the run began ends the run.
abbrev pub finish : Turn → Outcome
finish t = evaluated t (copied_back t t.frame.returns (start t)) (λ m now. left t.outer m)
  where
    left : List Frame → Memory → Outcome
    left (outer ∷ []) m = Ends Normal (counted (record t.state { frames = outer ∷ []; memory = without_frame (length t.outer) m }))
    left outer m = Goes (counted (record t.state { frames = outer; memory = without_frame (length t.outer) m }))

-- The result waits in the frame of the caller.
abbrev pub hold : Turn → TypedTree → Outcome
hold t v = held_by v (sub_of t.program t.frame.sub).result
  where
    given_to : Waiting → List Frame → List Frame
    given_to v [] = []
    given_to v (f ∷ rest) = record f { waits = v ∷ f.waits } ∷ rest

    held_by : TypedTree → Option ℕ → Outcome
    held_by (More e rest) (Some of) =
        evaluated t (taken_by t of e (start t))
        (λ ws m. Goes (record (behind t (waiting t) m 0) {
          frames = record t.frame { waits = waiting t; next = get_or t.point.next 0 0 } ∷ given_to (record { of = of; words = ws }) t.outer;
        }))
    held_by _ _ = goes t t.state.memory 0

-- ---- input and output

abbrev pub output : Turn → TypedTree → Bool → Outcome
output t text line =
    evaluated t (text_of (here t) (first text) (start t))
    (λ bytes m. Goes (record (behind t (waiting t) m 0) {
      output = t.state.output ++ bytes ++ (if line then 10 ∷ [] else []);
    }))

abbrev pub input : Turn → TypedTree → Outcome
input t target =
    evaluated t (place_of (here t) target (start t)) (λ k m. got t k (next_item t.input t.state.at) m)
  where
    got : Turn → Place → Item → Memory → Outcome
    got t k item.Missing m = raised t EndError m
    got t k item.Bad m = raised t DataError m
    got t k (item.Number v end) m =
        if fits_type (typing t).table k.of (Int v ∷ [])
        then Goes (record (behind t (waiting t) (stored (typing t) k (Int v ∷ []) m) 0) { at = end })
        else raised t ConstraintError m

-- ---- release and the ends of scopes

-- Nothing is done to null. A cell is freed after its leak checks, and its name becomes null.
abbrev pub release : Turn → TypedTree → Outcome
release t e = evaluated t (place_of (here t) e (start t)) (λ k m. released t k (words_of (typing t) m k) m)
  where
    released : Turn → Place → List Word → Memory → Outcome
    released t k (Cell n ∷ []) m =
        if (cell m n).freed then trapped t Twice m
        else leaking_goes
        (checks_at (typing t) (written_pos t.point.pos (written e)) m (cell_place (designated (typing t).table k.of) n))
        (goes t (stored (typing t) k (Null ∷ []) (freed n m)) 0)
    released t k _ m = goes t m 0

abbrev pub end_scope : Turn → ℕ → Outcome
end_scope t x =
    let m : Memory = t.state.memory in
    leaking_goes (checks_at (typing t) t.point.pos m (variable_place (here t) x))
    (goes t (undeclared (length t.outer) x m) 0)

-- ---- choices

-- A condition, and the successors where it holds and where it doesn't.
abbrev pub test : Turn → TypedTree → ℕ → ℕ → Outcome
test t e holds fails = evaluated t (value (here t) e (start t)) (λ ws m. goes t m (if is_true ws then holds else fails))

abbrev pub leave_loop : Turn → TypedTree → Outcome
leave_loop t (More e rest) = test t e 0 1
leave_loop t _ = goes t t.state.memory 0

-- The first alternative that has the value.
abbrev pub is_chosen : ℤ → TypedCode → Bool
is_chosen v (Interval low high) = int_le low v && int_le v high
is_chosen v Others = true
is_chosen v _ = false

unfoldable pub any_chosen : ℤ → TypedCode → Bool
any_chosen v (More c rest) = is_chosen v c || any_chosen v rest
any_chosen v _ = false

abbrev pub choice : List TypedCode → List Word → ℕ
choice choices (w ∷ []) = position_or_len (any_chosen (value_of w)) choices
choice choices _ = length choices

-- Constraint_Error is raised where none has it (Ada 2012, 5.4(13)).
abbrev pub chosen : Turn → ℕ → ℕ → Memory → Outcome
chosen t count k m = if nat_lt k count then goes t m k else raised t ConstraintError m

abbrev pub choose : Turn → TypedTree → List TypedCode → Outcome
choose t e choices =
    evaluated t (value (here t) e (start t)) (λ ws m. chosen t (length choices) (choice choices ws) m)

-- An operand of a short circuit. Its value waits: the left one as one more, the right one in place
-- of it.
abbrev pub truth_waiting : List Word → Waiting
truth_waiting ws = record { of = boolean; words = ws }

abbrev pub operand : Turn → TypedTree → Option ShortCircuit → Outcome
operand t e (Some op) =
    evaluated t (value (here t) e (start t))
    (λ ws m. Goes (behind t (truth_waiting ws ∷ waiting t) m (if decides op ws then 1 else 0)))
operand t e None =
    evaluated t (value (here t) e (start t)) (λ ws m. Goes (behind t (truth_waiting ws ∷ drop 1 (waiting t)) m 0))

-- ---- `for` loops

-- The bounds.
pub record Bounds : Type 0 where
  pub low : List Word
  pub high : List Word

abbrev pub bounds : Turn → TypedTree → TypedTree → Now → Evaluated Bounds
bounds t low high now =
    followed_by (value (here t) low now)
    (λ a now. followed_by (value (here t) high now) (λ b now. Done (record { low = a; high = b }) now))

abbrev pub number : List Word → ℤ
number (w ∷ []) = value_of w
number _ = pos 0

-- A parameter of an enumeration has positions for values.
abbrev pub parameter_words : List Word → ℤ → List Word
parameter_words (Enumerated n ∷ []) v = Enumerated (unsigned_abs v) ∷ []
parameter_words _ v = Int v ∷ []

abbrev pub without_loop : ℕ → List Loop → List Loop
without_loop x [] = []
without_loop x (l ∷ rest) = if l.parameter == x then rest else l ∷ without_loop x rest

-- A loop that starts takes the place of one with its parameter.
abbrev pub with_loop : Loop → State → State
with_loop l s = record s { frames = on_first s.frames }
  where
    on_first : List Frame → List Frame
    on_first [] = []
    on_first (f ∷ rest) = record f { loops = l ∷ without_loop l.parameter f.loops } ∷ rest

-- Where there is an iteration, both bounds are of the parameter's subtype.
abbrev pub start_loop : Turn → ℕ → TypedTree → TypedTree → Outcome
start_loop t x low high = evaluated t (bounds t low high (start t)) (λ b m. started t x b m)
  where
    started : Turn → ℕ → Bounds → Memory → Outcome
    started t x b m =
        let of : ℕ = (object_at (typing t) x).of in
        if int_le (number b.low) (number b.high)
        && not (fits_type (typing t).table of b.low && fits_type (typing t).table of b.high)
        then raised t ConstraintError m
        else Goes (with_loop (record { parameter = x; low = number b.low; high = number b.high; first = true })
        (behind t (waiting t) (declared (length t.outer) x b.low m) 0))

abbrev pub no_loop : Loop
no_loop = record { parameter = 0; low = pos 1; high = pos 0; first = true }

abbrev pub loop_of : ℕ → List Loop → Loop
loop_of x [] = no_loop
loop_of x (l ∷ rest) = if l.parameter == x then l else loop_of x rest

abbrev pub turned : ℕ → List Loop → List Loop
turned x [] = []
turned x (l ∷ rest) = if l.parameter == x then record l { first = false } ∷ rest else l ∷ turned x rest

-- The first iteration has a bound, and each further one the next value, up to the other bound.
abbrev pub next_value : Bool → Loop → ℤ → Option ℤ
next_value reversed l v =
    if l.first then (if int_le l.low l.high then Some (if reversed then l.high else l.low) else None)
    else (if reversed then (if int_lt l.low v then Some (v +ℤ negsuc 0) else None)
    else (if int_lt v l.high then Some (v +ℤ pos 1) else None))

abbrev pub with_turn : Turn → List Loop → Memory → ℕ → Outcome
with_turn t loops m k = Goes (counted (record t.state {
  frames = led t (record t.frame { loops = loops }) (successor t k);
  memory = m;
}))

abbrev pub turned_to : Turn → ℕ → Place → List Word → Option ℤ → Outcome
turned_to t x k ws (Some v) = with_turn t (turned x t.frame.loops) (stored (typing t) k (parameter_words ws v) t.state.memory) 0
turned_to t x k ws None = with_turn t (without_loop x t.frame.loops) (undeclared (length t.outer) x t.state.memory) 1

abbrev pub next_turn : Turn → ℕ → Bool → Outcome
next_turn t x reversed =
    let k : Place = variable_place (here t) x in
    let ws : List Word = words_of (typing t) t.state.memory k in
    turned_to t x k ws (next_value reversed (loop_of x t.frame.loops) (number ws))

-- ---- all instructions

abbrev pub turn : Turn → Instruction → Outcome
turn t Skip = goes t t.state.memory 0
turn t (Declare x v) = declare t x v
turn t (Assign target e) = assign t target e
turn t (Call sub actuals result) = call t sub actuals
turn t (Output text line) = output t text line
turn t (Input target) = input t target
turn t (Release e) = release t e
turn t (Test e) = test t e 0 1
turn t (Choose e choices) = choose t e choices
turn t (Start x reversed low high) = start_loop t x low high
turn t (Next x reversed low high) = next_turn t x reversed
turn t (Evaluate temporary e left) = operand t e left
turn t (LeaveLoop e) = leave_loop t e
turn t (Hold v) = hold t v
turn t (EndScope x) = end_scope t x
turn t Finish = finish t
turn t Fall = raised t ProgramError t.state.memory
