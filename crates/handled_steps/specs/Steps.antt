-- What points do over a heap that uses its slots again, and runs.
--
-- Which handle a new cell gets and whether there is memory for it, the heap decides. So this says of each outcome
-- whether it may come.
use Rattle.std.specs.Prelude.{◌≡◌, ℕ, zero, suc, ◌+◌, Bool, true, false, not, ◌&&◌, List, [], ◌∷◌, ◌++◌, map, take, drop, length, get_or, slice_get, nat_le, Option, Some, None, ℤ, pos, unsigned_abs, int_le, if◌then◌else◌}
use Rattle.std.specs.Char.{to_ascii_uppercase}
use Rattle.handled_runs.specs.spark_base.declared.position.Pos.{Pos}
use Rattle.handled_runs.specs.type_definitions.Types.{Table, shape_of}
use Rattle.handled_runs.specs.run_values.declared.value.Kind.{Kind}
use Rattle.handled_runs.specs.run_values.declared.value.Kind.TheVariants as sort
use Rattle.handled_runs.specs.run_values.declared.items.Item.{Item}
use Rattle.handled_runs.specs.run_values.declared.items.Item.TheVariants as item
use Rattle.handled_runs.specs.run_values.Images.{image}
use Rattle.handled_runs.specs.run_values.Items.{next_item}
use Rattle.handled_runs.specs.machine.Words.{access_offsets}
use Rattle.handled_runs.specs.machine.Evaluate.{ProgramError, StorageError, DataError, EndError, literals}
use Rattle.handled_runs.specs.machine.States.{Leak, Normal, Spent, stack_words}
use Rattle.handled_runs.specs.run_codes.Codes.{Code, Place, Fill, Actual, ByValue, From, To, Piece, Bytes, NumberImage, LiteralImage, Choice, Does, Go, Put, Store, Assign, Call, Output, Input, Release, Test, Choose, Start, Next, EvaluateLeft, EvaluateRight, Hold, EndPointer, EndScope, Finish, Fall, Point, Sub}
use Rattle.handled_runs.specs.run_codes.Flat.{Got, Given, Stops, Broken, Stop, Raises, and_then, found, kinds, constraint, is_zero, is_between, default_words, Spot, InStack}
use Rattle.handled_runs.specs.run_codes.Points.{Return, Frame, Passed, Value, FromSpot, ToSpot, fits, returns_of, frames_words, chosen, truth_held, next_value, given_to, sub_at}
use Rattle.handled_runs.specs.run_codes.Programs.{Program}
use Rattle.handled_runs.specs.Slots.{Slots, word, spot, held}
use Rattle.handled_runs.specs.Changes.{with_stack, stored, moving, settled}
use Rattle.handled_runs.specs.Values as values
use Rattle.handled_runs.specs.Values.{Fills}
use Rattle.handled_runs.specs.Leaks.{leak, leaks_at}
use Rattle.handled_runs.specs.Assigned.{Left, assigned}
use Rattle.handled_runs.specs.Released.{released}
use Rattle.handled_steps.specs.States.{State, Outcome, Goes, Ends, Wants, Fails, Turn, waiting, are_taken, start, counted, halted, on_got, on_made, with_frame, frame_of, after, goes, leaking, leaking_goes}

-- ---- stores

abbrev pub in_stack : Slots → ℕ → Spot
in_stack s at = InStack (s.base + at)

abbrev pub put_words : Slots → ℕ → List ℤ → Got Slots
put_words s at zs = stored s (in_stack s at) [] zs

-- A value is evaluated first.
abbrev pub After : Turn → Fill → (List ℤ → Slots → Outcome) → Outcome → Type 0
After t v f r = (g : values.Outcome) × Fills t.table v (start t) g × (r ≡ on_made t g f)

-- No more is checked: what was moved is gone.
abbrev pub on_settled : Turn → Slots → (Slots → Outcome) → Outcome
on_settled t s f = on_got t s (settled s) f

abbrev pub left_goes : Turn → Option ℕ → Left Slots → Outcome
left_goes t n l = leaking_goes t l.leaks l.memory n

abbrev pub put : Turn → ℕ → Option ℕ → List ℤ → Slots → Outcome
put t at n zs s = on_settled t s (λ s. on_got t s (put_words s at zs) (λ s. goes t s n))

abbrev pub store : Turn → Place → Kind → Option ℕ → List ℤ → Slots → Outcome
store t p k n zs s = on_got t s (spot s p) (λ q. on_settled t s (λ s. on_got t s (stored s q (k ∷ []) zs) (λ s. goes t s n)))

abbrev pub assign : Turn → Place → ℕ → Option Pos → Option ℕ → List ℤ → Slots → Outcome
assign t p of checks n zs s = on_got t s (assigned t.table p of checks zs s) (left_goes t n)

-- ---- calls

-- What is known of the actuals, or why it isn't, and the memory then.
pub data Passing : Type 0 where
  Passes : List Passed → Slots → Passing
  Stopping : Stop → Slots → Passing
  Failing : Passing

abbrev pub on_read : {A : Type 0} → Slots → Got A → (A → Passing) → Passing
on_read s (Given a) f = f a
on_read s (Stops x) f = Stopping x s
on_read s Broken f = Failing

abbrev pub passed_value : values.Outcome → Passing
passed_value (values.Gives zs s) = Passes (Value zs ∷ []) s
passed_value (values.Ends x s) = Stopping x s
passed_value values.Fails = Failing

abbrev pub from_spot : Table → ℕ → ℕ → Slots → Spot → Passing
from_spot table of formal s q =
    on_read s (held s q (kinds table of)) (λ zs. if fits table formal zs then Passes (FromSpot q of ∷ []) s else Stopping constraint s)

-- One actual.
abbrev pub PassesOne : Table → Actual → Slots → Passing → Type 0
PassesOne table (ByValue v) s r = (g : values.Outcome) × Fills table v s g × (r ≡ passed_value g)
PassesOne table (From p of formal) s r = r ≡ on_read s (spot s p) (from_spot table of formal s)
PassesOne table (To p of at) s r = r ≡ on_read s (spot s p) (λ q. Passes (ToSpot q of at ∷ []) s)

abbrev pub with_first : List Passed → Passing → Passing
with_first first (Passes rest s) = Passes (first ++ rest) s
with_first first (Stopping x s) = Stopping x s
with_first first Failing = Failing

-- The next ones follow where the first one is passed.
abbrev pub Following : Passing → (Slots → Passing → Type 0) → Passing → Type 0
Following (Passes first s) P r = (g : Passing) × P s g × (r ≡ with_first first g)
Following (Stopping x s) P r = r ≡ Stopping x s
Following Failing P r = r ≡ Failing

abbrev pub PassesAll : Table → List Actual → Slots → Passing → Type 0
PassesAll table [] s r = r ≡ Passes [] s
PassesAll table (a ∷ rest) s r = (g : Passing) × PassesOne table a s g × Following g (PassesAll table rest) r

-- The leak checks of the `out` actuals.
abbrev pub out_leaks : Table → Slots → List Passed → Got (List Leak)
out_leaks table s [] = Given []
out_leaks table s (ToSpot q of p ∷ rest) =
    and_then (leaks_at table s q of p) (λ leaks. and_then (out_leaks table s rest) (λ more. Given (leaks ++ more)))
out_leaks table s (_ ∷ rest) = out_leaks table s rest

abbrev pub with_formal : Table → ℕ → ℕ → Passed → Slots → Got Slots
with_formal table at formal (Value zs) s = stored s (InStack at) (kinds table formal) zs
with_formal table at formal (FromSpot q of) s =
    and_then (held s q (kinds table of)) (λ zs. stored (moving s q (kinds table of) (access_offsets table of)) (InStack at) (kinds table formal) zs)
with_formal table at formal (ToSpot q of p) s = Given (moving s q (kinds table of) (access_offsets table of))

abbrev pub with_formals : Table → ℕ → List ℕ → List Passed → Slots → Got Slots
with_formals table at (f ∷ formals) (a ∷ passed) s =
    and_then (with_formal table at f a s) (with_formals table (at + length (kinds table f)) formals passed)
with_formals table at _ _ s = Given s

abbrev pub begins : Turn → Sub → List Passed → Slots → Option ℕ → List Leak → Slots → State
begins t sub passed s n leaks f =
    let a : State = leaking leaks (after t (waiting t) f n) in
    record a { frames = frame_of s sub (returns_of t.table 0 sub.formals passed) ∷ a.frames }

-- The formals have their values, and then what was moved is gone.
abbrev pub begun_with : Turn → Sub → List Passed → Slots → Option ℕ → List Leak → Slots → Outcome
begun_with t sub passed s n leaks f = on_settled t f (λ f. Goes (begins t sub passed s n leaks f))

-- The stack is tested, then come the leak checks, of what is left after the moves so far; then the formals have their
-- values.
abbrev pub entered : Turn → Sub → Option ℕ → List Passed → Slots → Outcome
entered t sub n passed s =
    if nat_le (frames_words (frame_of s sub [] ∷ t.frame ∷ t.outer)) stack_words
    then on_settled t s (λ k. on_got t s (out_leaks t.table k passed)
    (λ leaks. on_got t s (with_formals t.table (length s.stack) sub.formals passed (with_frame t.table sub s)) (begun_with t sub passed s n leaks)))
    else halted t (Raises StorageError) s

abbrev pub on_passed : Turn → Passing → (List Passed → Slots → Outcome) → Outcome
on_passed t (Passes passed s) f = f passed s
on_passed t (Stopping x s) f = halted t x s
on_passed t Failing f = Fails

abbrev pub CallsSub : Turn → ℕ → List Actual → Option ℕ → Outcome → Type 0
CallsSub t sub actuals n r =
    (g : Passing) × PassesAll t.table actuals (start t) g × (r ≡ on_passed t g (entered t (sub_at t.program sub) n))

-- The formals are copied back in order. Their words are given back with the frame.
abbrev pub copied_back : Turn → List Return → Slots → (Slots → Outcome) → Outcome
copied_back t [] s f = f s
copied_back t (r ∷ rest) s f =
    on_got t s (held s (in_stack s r.at) (kinds t.table r.from))
    (λ zs. if fits t.table r.of zs then on_got t s (stored s r.to (kinds t.table r.of) zs) (λ n. copied_back t rest n f) else halted t constraint s)

abbrev pub returned : Turn → List Frame → Slots → Outcome
returned t (outer ∷ []) s = Ends Normal (counted (record t.state { memory = s; frames = outer ∷ [] }))
returned t outer s = Goes (counted (record t.state { memory = s; frames = outer }))

-- The frame is given back. The end of the main procedure ends the run.
abbrev pub finish : Turn → Outcome
finish t = copied_back t t.frame.returns (start t) (λ f. returned t t.outer (with_stack f (take t.frame.base f.stack)))

-- The result waits in the frame of the caller.
abbrev pub holding : Turn → ℕ → ℕ → List ℤ → Slots → Outcome
holding t of n zs s = on_settled t s (λ s. Goes (counted (record t.state {
  memory = s;
  frames = record t.frame { waits = waiting t; next = n } ∷ given_to (record { of = of; words = zs }) t.outer;
})))

abbrev pub Holds : Turn → Fill → ℕ → Option ℕ → Outcome → Type 0
Holds t v of None r = r ≡ Fails
Holds t v of (Some n) r = After t v (holding t of n) r

-- ---- input and output

abbrev pub piece_bytes : Table → Slots → Piece → Got (List ℕ)
piece_bytes table s (Bytes bytes) = Given bytes
piece_bytes table s (NumberImage c) = and_then (word s c) (λ w. Given (image w))
piece_bytes table s (LiteralImage c of) =
    and_then (word s c) (λ w. Given (map to_ascii_uppercase (get_or (literals (shape_of table of)) (unsigned_abs w) [])))

abbrev pub text : Table → Slots → List Piece → Got (List ℕ)
text table s [] = Given []
text table s (p ∷ rest) = and_then (piece_bytes table s p) (λ bytes. and_then (text table s rest) (λ more. Given (bytes ++ more)))

abbrev pub writing : List ℕ → State → State
writing bytes s = record s { output = s.output ++ bytes }

abbrev pub output : Turn → List Piece → Bool → Option ℕ → Outcome
output t pieces line n =
    on_got t (start t) (text t.table (start t) pieces)
    (λ bytes. Goes (writing (bytes ++ (if line then 10 ∷ [] else [])) (after t (waiting t) (start t) n)))

abbrev pub reading : ℕ → State → State
reading end s = record s { at = end }

abbrev pub read : Turn → ℤ → ℤ → Option ℕ → Spot → Item → Outcome
read t low high n q item.Missing = halted t (Raises EndError) (start t)
read t low high n q item.Bad = halted t (Raises DataError) (start t)
read t low high n q (item.Number v end) =
    if is_between low high v
    then on_got t (start t) (stored (start t) q (sort.Int ∷ []) (v ∷ [])) (λ m. Goes (reading end (after t (waiting t) m n)))
    else halted t constraint (start t)

abbrev pub input : Turn → Place → ℤ → ℤ → Option ℕ → Outcome
input t p low high n = on_got t (start t) (spot (start t) p) (λ q. read t low high n q (next_item t.input t.state.at))

-- ---- release and the ends of scopes

abbrev pub release : Turn → Place → ℕ → Pos → Option ℕ → Outcome
release t p of at n = on_got t (start t) (released t.table p of at (start t)) (left_goes t n)

abbrev pub end_pointer : Turn → ℕ → Option ℕ → Outcome
end_pointer t at n =
    on_got t (start t) (found (slice_get (start t).stack (t.frame.base + at)))
    (λ w. on_got t (start t) (put_words (start t) at (pos 0 ∷ [])) (λ m. leaking_goes t (leak (start t).numbers t.point.pos w) m n))

abbrev pub end_scope : Turn → ℕ → ℕ → Option ℕ → Outcome
end_scope t at of n =
    on_got t (start t) (leaks_at t.table (start t) (in_stack (start t) at) of t.point.pos)
    (λ leaks. on_got t (start t) (put_words (start t) at (default_words t.table of)) (λ m. leaking_goes t leaks m n))

-- ---- choices

abbrev pub test : Turn → Code → Option ℕ → Option ℕ → Outcome
test t c holds fails = on_got t (start t) (word (start t) c) (λ w. goes t (start t) (if is_zero w then fails else holds))

abbrev pub choice : Turn → Option ℕ → Outcome
choice t None = halted t constraint (start t)
choice t (Some n) = goes t (start t) (Some n)

abbrev pub choose : Turn → Code → List Choice → Outcome
choose t c choices = on_got t (start t) (word (start t) c) (λ w. choice t (chosen w choices))

abbrev pub evaluate_left : Turn → Code → Bool → Option ℕ → Option ℕ → Outcome
evaluate_left t c or_else n decided =
    on_got t (start t) (word (start t) c)
    (λ w. Goes (after t (truth_held w ∷ waiting t) (start t) (if is_zero w then (if or_else then n else decided) else (if or_else then decided else n))))

abbrev pub evaluate_right : Turn → Code → Option ℕ → Outcome
evaluate_right t c n =
    on_got t (start t) (word (start t) c) (λ w. Goes (after t (truth_held w ∷ drop 1 (waiting t)) (start t) n))

-- ---- `for` loops

-- The parameter, and the words of its loop.
abbrev pub looped : Turn → ℕ → ℕ → ℤ → List ℤ → Option ℕ → Outcome
looped t at counter v loop n = on_got t (start t) (and_then (put_words (start t) at (v ∷ [])) (λ m. put_words m counter loop)) (λ m. goes t m n)

abbrev pub loop_started : Turn → ℕ → ℕ → ℤ → ℤ → Option ℕ → ℤ → ℤ → Outcome
loop_started t at counter first last n a b =
    if int_le a b && not (is_between first last a && is_between first last b) then halted t constraint (start t)
    else looped t at counter a (a ∷ b ∷ pos 1 ∷ []) n

abbrev pub start_loop : Turn → ℕ → ℕ → Code → Code → ℤ → ℤ → Option ℕ → Outcome
start_loop t at counter low high first last n =
    on_got t (start t) (word (start t) low) (λ a. on_got t (start t) (word (start t) high) (λ b. loop_started t at counter first last n a b))

abbrev pub stack_word : Turn → ℕ → Got ℤ
stack_word t o = found (slice_get (start t).stack (t.frame.base + o))

abbrev pub turning : Turn → ℕ → ℕ → ℤ → Option ℕ → Option ℕ → ℤ → ℤ → Option ℤ → Outcome
turning t at counter default turn leave low high (Some v) = looped t at counter v (low ∷ high ∷ pos 0 ∷ []) turn
turning t at counter default turn leave low high None = looped t at counter default (pos 1 ∷ pos 0 ∷ pos 1 ∷ []) leave

abbrev pub next_turn : Turn → ℕ → ℕ → Bool → ℤ → Option ℕ → Option ℕ → Outcome
next_turn t at counter reversed default turn leave =
    on_got t (start t) (stack_word t at) (λ v. on_got t (start t) (stack_word t counter)
    (λ low. on_got t (start t) (stack_word t (counter + 1)) (λ high. on_got t (start t) (stack_word t (counter + 2))
    (λ first. turning t at counter default turn leave low high (next_value reversed low high first v)))))

-- ---- all points

abbrev pub Done : Turn → Does → Outcome → Type 0
Done t (Go n) r = r ≡ goes t (start t) n
Done t (Put at v n) r = After t v (put t at n) r
Done t (Store p v k n) r = After t v (store t p k n) r
Done t (Assign p v of checks n) r = After t v (assign t p of checks n) r
Done t (Call sub actuals n) r = CallsSub t sub actuals n r
Done t (Output pieces line n) r = r ≡ output t pieces line n
Done t (Input p low high n) r = r ≡ input t p low high n
Done t (Release p of at n) r = r ≡ release t p of at n
Done t (Test c holds fails) r = r ≡ test t c holds fails
Done t (Choose c choices) r = r ≡ choose t c choices
Done t (Start at counter low high first last n) r = r ≡ start_loop t at counter low high first last n
Done t (Next at counter reversed default turn leave) r = r ≡ next_turn t at counter reversed default turn leave
Done t (EvaluateLeft c or_else n decided) r = r ≡ evaluate_left t c or_else n decided
Done t (EvaluateRight c n) r = r ≡ evaluate_right t c n
Done t (Hold v of n) r = Holds t v of n r
Done t (EndPointer at n) r = r ≡ end_pointer t at n
Done t (EndScope at of n) r = r ≡ end_scope t at of n
Done t Finish r = r ≡ finish t
Done t Fall r = r ≡ halted t (Raises ProgramError) (start t)

-- The values that the point takes are there, of its types.
abbrev pub Turned : Bool → Turn → Outcome → Type 0
Turned true t r = Done t t.point.does r
Turned false t r = r ≡ Wants

abbrev pub turn_of : Table → Program → List ℕ → State → Frame → List Frame → Point → Turn
turn_of table program input s f outer p = record { table = table; program = program; input = input; point = p; state = s; frame = f; outer = outer }

abbrev pub SteppedAt : Table → Program → List ℕ → State → Frame → List Frame → Option Point → Outcome → Type 0
SteppedAt table program input s f outer None r = r ≡ Fails
SteppedAt table program input s f outer (Some p) r =
    Turned (are_taken (turn_of table program input s f outer p)) (turn_of table program input s f outer p) r

abbrev pub Stepped : Table → Program → List ℕ → State → List Frame → Outcome → Type 0
Stepped table program input s [] r = r ≡ Ends Spent s
Stepped table program input s (f ∷ outer) r = SteppedAt table program input s f outer (slice_get program.points f.next) r

-- ---- runs

-- What a step leads to, and what comes then.
abbrev pub Then : (State → Outcome → Type 0) → Outcome → Outcome → Type 0
Then P (Goes s) r = P s r
Then P (Ends e s) r = r ≡ Ends e s
Then P Wants r = r ≡ Wants
Then P Fails r = r ≡ Fails

-- A run of at most n steps.
unfoldable pub Within : ℕ → Table → Program → List ℕ → State → Outcome → Type 0
Within zero table program input s r = r ≡ Ends Spent s
Within (suc n) table program input s r =
    (g : Outcome) × Stepped table program input s s.frames g × Then (Within n table program input) g r
