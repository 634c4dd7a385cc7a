-- What the points of a lowered program do, and its runs.
use Rattle.std.specs.Prelude.{ℕ, zero, suc, ◌+◌, ◌-◌, Bool, true, not, ◌&&◌, ◌==◌, List, [], ◌∷◌, ◌++◌, map, flat_map, reverse, take, drop, length, sum, get_or, slice_get, nat_le, nat_lt, Option, Some, None, option_and_then, ℤ, pos, negsuc, ◌+ℤ◌, unsigned_abs, int_le, int_lt, if◌then◌else◌}
use Rattle.std.specs.Char.{to_ascii_uppercase}
use Rattle.std.specs.Cmp.Lexicographic.{pointwise}
use Rattle.machine.specs.spark_base.declared.position.Pos.{Pos}
use Rattle.machine.specs.type_definitions.declared.judgement.View.{View}
use Rattle.machine.specs.type_definitions.declared.judgement.View.TheVariants as view
use Rattle.machine.specs.type_definitions.Types.{Table, full, shape_of}
use Rattle.machine.specs.type_definitions.Entries.{boolean}
use Rattle.kept_cells.specs.run_values.declared.value.Kind.{Kind}
use Rattle.kept_cells.specs.run_values.declared.value.Kind.TheVariants as sort
use Rattle.kept_cells.specs.run_values.declared.items.Item.{Item}
use Rattle.kept_cells.specs.run_values.declared.items.Item.TheVariants as item
use Rattle.kept_cells.specs.run_values.Images.{image}
use Rattle.kept_cells.specs.run_values.Items.{next_item}
use Rattle.kept_cells.specs.Cells.{Cell}
use Rattle.machine.specs.Words.{access_offsets}
use Rattle.machine.specs.Evaluate.{ProgramError, StorageError, DataError, EndError, Twice, literals}
use Rattle.machine.specs.States.{Leak, Ending, Normal, Raised, Spent, Trapped, stack_words}
use Rattle.machine.specs.flow_paths.Laid.{FlowProgram}
use Rattle.machine.specs.States as machine
use Rattle.machine.specs.Run.{Run, main_of}
use Rattle.run_codes.specs.Codes.{Code, Place, Fill, Actual, ByValue, From, To, Piece, Bytes, NumberImage, LiteralImage, Choice, Does, Go, Put, Store, Assign, Call, Output, Input, Release, Test, Choose, Start, Next, EvaluateLeft, EvaluateRight, Hold, EndPointer, EndScope, Finish, Fall, Point, Room, Object, Counter, Sub}
use Rattle.run_codes.specs.Flat.{Flat, Stop, Raises, Traps, Memory, Got, Given, Stops, Broken, and_then, found, kinds, most_cells, constraint, touched, is_zero, is_between, word, Spot, InStack, InCell, spot, words_at, held, stored, moved_out, Made, Done, Halted, Failed, made_then, reads, without_cell, default_words, filled}
use Rattle.run_codes.specs.Programs.{Program, lowered_program}

-- ---- states

-- A value that waits, and its type.
pub record Held : Type 0 where
  pub of : ℕ
  pub words : List ℤ

-- Where a formal of a type is copied back to when its call ends: its offset, and a spot of a type.
pub record Return : Type 0 where
  pub at : ℕ
  pub from : ℕ
  pub to : Spot
  pub of : ℕ

-- A frame: where its words begin, its next point, the words of its subprogram, the values that wait, the
-- latest first, and what is copied back.
pub record Frame : Type 0 where
  pub base : ℕ
  pub next : ℕ
  pub words : ℕ
  pub waits : List Held
  pub returns : List Return

-- The innermost frame stands first. What its point is evaluated by is put into the memory at each step.
pub record State : Type 0 where
  pub memory : Flat
  pub frames : List Frame
  pub at : ℕ
  pub output : List ℕ
  pub leaks : List Leak
  pub steps : ℕ

-- What a step leads to: it may also want memory, and it fails where what it asks for isn't there.
pub data Outcome : Type 0 where
  Goes : State → Outcome
  Ends : Ending → State → Outcome
  Wants : Outcome
  Fails : Outcome

-- A step: the types and the program with its input, the point, and the state before it, whose innermost
-- frame is apart.
pub record Turn : Type 0 where
  pub table : Table
  pub program : Program
  pub input : List ℕ
  pub point : Point
  pub state : State
  pub frame : Frame
  pub outer : List Frame

abbrev pub taken : Turn → List Held
taken t = reverse (take (length t.point.takes) t.frame.waits)

abbrev pub waiting : Turn → List Held
waiting t = drop (length t.point.takes) t.frame.waits

-- The values that wait are of the types that the point takes.
abbrev pub are_taken : Turn → Bool
are_taken t = pointwise (λ a b. a == b) t.point.takes (map (λ (h : Held). h.of) (taken t))

abbrev pub start : Turn → Flat
start t = record t.state.memory {
  base = t.frame.base;
  waits = flat_map (λ (h : Held). h.words) (taken t);
  rest = drop t.state.at t.input;
}

-- ---- how steps end

abbrev pub counted : State → State
counted s = record s { steps = suc s.steps }

abbrev pub as_freed : Cell → Cell
as_freed c = record c { freed = true }

-- The memory before the step, with the cells that it made, which count as freed.
abbrev pub given_up : Flat → Flat → Flat
given_up before m = record before {
  cells = before.cells ++ map as_freed (drop (length before.cells) m.cells);
  freed = before.freed + (length m.cells - length before.cells);
}

abbrev pub ended : Turn → Ending → Flat → Outcome
ended t e m = Ends e (counted (record t.state { memory = given_up t.state.memory m }))

abbrev pub halted : Turn → Stop → Flat → Outcome
halted t (Raises e) m = ended t (Raised e t.point.pos) m
halted t (Traps trap) m = ended t (Trapped trap t.point.pos) m
halted t Memory m = Wants

abbrev pub on_made : {A : Type 0} → Turn → Made A → (A → Flat → Outcome) → Outcome
on_made t (Done a m) f = f a m
on_made t (Halted s m) f = halted t s m
on_made t Failed f = Fails

abbrev pub on_got : {A : Type 0} → Turn → Flat → Got A → (A → Outcome) → Outcome
on_got t m (Given a) f = f a
on_got t m (Stops s) f = halted t s m
on_got t m Broken f = Fails

-- ---- frames

abbrev pub room_words : Table → Room → List ℤ
room_words table (Object of) = default_words table of
room_words table Counter = pos 1 ∷ pos 0 ∷ pos 1 ∷ []

-- The words of a frame without a value.
abbrev pub template : Table → Sub → List ℤ
template table sub = flat_map (room_words table) sub.rooms

abbrev pub with_frame : Table → Sub → Flat → Flat
with_frame table sub m = record m { stack = m.stack ++ template table sub }

abbrev pub frame_of : Flat → Sub → List Return → Frame
frame_of m sub returns = record { base = length m.stack; next = sub.first; words = sub.words; waits = []; returns = returns }

abbrev pub frames_words : List Frame → ℕ
frames_words frames = sum (map (λ (f : Frame). f.words) frames)

abbrev pub no_sub : Sub
no_sub = record { first = 0; words = 0; rooms = []; formals = [] }

abbrev pub sub_at : Program → ℕ → Sub
sub_at program n = get_or program.subs n no_sub

-- Where no point follows the last package object, the main procedure begins.
abbrev pub begun : Turn → Frame → Flat → Option ℕ → State
begun t f m None = record t.state { memory = m; frames = f ∷ [] }
begun t f m (Some main) = record t.state {
  memory = with_frame t.table (sub_at t.program main) m;
  frames = frame_of m (sub_at t.program main) [] ∷ f ∷ [];
}

abbrev pub led : Turn → Frame → Flat → Option ℕ → State
led t f m (Some n) = record t.state { memory = m; frames = record f { next = n } ∷ t.outer }
led t f m None = by t.outer
  where
    by : List Frame → State
    by [] = begun t f m t.program.main
    by (g ∷ outer) = record t.state { memory = m; frames = f ∷ g ∷ outer }

-- The state after the step, with these values waiting.
abbrev pub after : Turn → List Held → Flat → Option ℕ → State
after t waits m n = counted (led t (record t.frame { waits = waits }) m n)

abbrev pub goes : Turn → Flat → Option ℕ → Outcome
goes t m n = Goes (after t (waiting t) m n)

-- ---- leak checks

abbrev pub leak : Pos → ℤ → List Leak
leak p (pos (suc n)) = record { number = suc n; pos = p } ∷ []
leak p _ = []

abbrev pub leaks_in : Pos → List ℤ → List ℕ → List Leak
leaks_in p zs offsets = flat_map (λ o. leak p (get_or zs o (pos 0))) offsets

-- The checks of a spot with words of a type.
abbrev pub leaks_at : Table → Flat → Spot → ℕ → Pos → Got (List Leak)
leaks_at table m s of p = and_then (words_at m s (kinds table of)) (λ zs. Given (leaks_in p zs (access_offsets table of)))

abbrev pub checked_at : Table → Flat → Spot → ℕ → Option Pos → Got (List Leak)
checked_at table m s of None = Given []
checked_at table m s of (Some p) = leaks_at table m s of p

abbrev pub leaking : List Leak → State → State
leaking leaks s = record s { leaks = s.leaks ++ leaks }

abbrev pub leaking_goes : Turn → List Leak → Flat → Option ℕ → Outcome
leaking_goes t leaks m n = Goes (leaking leaks (after t (waiting t) m n))

-- ---- stores

abbrev pub in_stack : Flat → ℕ → Spot
in_stack m at = InStack (m.base + at)

abbrev pub put_words : Flat → ℕ → List ℤ → Got Flat
put_words m at zs = stored m (in_stack m at) [] zs

abbrev pub put : Turn → ℕ → Fill → Option ℕ → Outcome
put t at v n = on_made t (filled t.table v (start t)) (λ zs m. on_got t m (put_words m at zs) (λ m. goes t m n))

abbrev pub store : Turn → Place → Fill → Kind → Option ℕ → Outcome
store t p v k n =
    on_made t (filled t.table v (start t)) (λ zs m. on_got t m (spot m p) (λ s. on_got t m (stored m s (k ∷ []) zs) (λ m. goes t m n)))

-- The value is evaluated, then the place is found; then come the leak checks, and the store.
abbrev pub assign : Turn → Place → Fill → ℕ → Option Pos → Option ℕ → Outcome
assign t p v of checks n =
    on_made t (filled t.table v (start t)) (λ zs m. on_got t m (spot m p)
    (λ s. on_got t m (checked_at t.table m s of checks)
    (λ leaks. on_got t m (stored m s (kinds t.table of) zs) (λ m. leaking_goes t leaks m n))))

-- ---- calls

abbrev pub within_bounds : View → List ℤ → Bool
within_bounds (view.Whole low high) (w ∷ []) = is_between low high w
within_bounds (view.Listed low high) (w ∷ []) = is_between (pos low) (pos high) w
within_bounds _ zs = true

abbrev pub fits : Table → ℕ → List ℤ → Bool
fits table of zs = within_bounds (full table of) zs

-- What is known of an actual before the call: its value, or its spot with its type.
pub data Passed : Type 0 where
  Value : List ℤ → Passed
  FromSpot : Spot → ℕ → Passed
  ToSpot : Spot → ℕ → Pos → Passed

abbrev pub passed : Table → Actual → Flat → Made Passed
passed table (ByValue v) m = made_then (filled table v m) (λ zs. Done (Value zs))
passed table (From p of formal) m =
    reads m (spot m p) (λ s. reads m (held m s (kinds table of))
    (λ zs. if fits table formal zs then Done (FromSpot s of) m else Halted constraint m))
passed table (To p of at) m = reads m (spot m p) (λ s. Done (ToSpot s of at) m)

abbrev pub all_passed : Table → List Actual → Flat → Made (List Passed)
all_passed table [] m = Done [] m
all_passed table (a ∷ rest) m =
    made_then (passed table a m) (λ p n. made_then (all_passed table rest n) (λ more. Done (p ∷ more)))

-- The leak checks of the `out` actuals.
abbrev pub out_leaks : Table → Flat → List Passed → Got (List Leak)
out_leaks table m [] = Given []
out_leaks table m (ToSpot s of p ∷ rest) =
    and_then (leaks_at table m s of p) (λ leaks. and_then (out_leaks table m rest) (λ more. Given (leaks ++ more)))
out_leaks table m (_ ∷ rest) = out_leaks table m rest

-- A formal at an index of the stack gets its value; what it has is taken from an `in out` actual, and
-- taken away from an `out` one.
abbrev pub with_formal : Table → ℕ → ℕ → Passed → Flat → Got Flat
with_formal table at formal (Value zs) m = stored m (InStack at) (kinds table formal) zs
with_formal table at formal (FromSpot s of) m =
    and_then (held m s (kinds table of)) (λ zs. and_then (moved_out m s (kinds table of) (access_offsets table of))
    (λ n. stored n (InStack at) (kinds table formal) zs))
with_formal table at formal (ToSpot s of p) m = moved_out m s (kinds table of) (access_offsets table of)

abbrev pub with_formals : Table → ℕ → List ℕ → List Passed → Flat → Got Flat
with_formals table at (f ∷ formals) (a ∷ passed) m =
    and_then (with_formal table at f a m) (with_formals table (at + length (kinds table f)) formals passed)
with_formals table at _ _ m = Given m

abbrev pub return_of : ℕ → ℕ → Passed → List Return
return_of at formal (Value zs) = []
return_of at formal (FromSpot s of) = record { at = at; from = formal; to = s; of = of } ∷ []
return_of at formal (ToSpot s of p) = record { at = at; from = formal; to = s; of = of } ∷ []

abbrev pub returns_of : Table → ℕ → List ℕ → List Passed → List Return
returns_of table at (f ∷ formals) (a ∷ passed) =
    return_of at f a ++ returns_of table (at + length (kinds table f)) formals passed
returns_of table at _ _ = []

-- The stack is tested, then come the leak checks, then the formals have their values.
abbrev pub entered : Turn → Sub → List Passed → Flat → Option ℕ → Outcome
entered t sub passed m n =
    if nat_le (frames_words (frame_of m sub [] ∷ t.frame ∷ t.outer)) stack_words
    then on_got t m (out_leaks t.table m passed)
    (λ leaks. on_got t m (with_formals t.table (length m.stack) sub.formals passed (with_frame t.table sub m)) (λ f. Goes (begins leaks f)))
    else halted t (Raises StorageError) m
  where
    begins : List Leak → Flat → State
    begins leaks f =
        let s : State = leaking leaks (after t (waiting t) f n) in
        record s { frames = frame_of m sub (returns_of t.table 0 sub.formals passed) ∷ s.frames }

abbrev pub call : Turn → ℕ → List Actual → Option ℕ → Outcome
call t sub actuals n =
    on_made t (all_passed t.table actuals (start t)) (λ passed m. entered t (sub_at t.program sub) passed m n)

-- What was in a cell that is freed by now isn't there.
abbrev pub reached : Flat → Spot → Got Spot
reached m (InStack n) = Given (InStack n)
reached m (InCell n o) = touched (slice_get m.cells n) (λ c. Given (InCell n o))

-- The formals are copied back in order, and what they hold is moved there.
abbrev pub copied_back : Table → List Return → Flat → Made Flat
copied_back table [] m = Done m m
copied_back table (r ∷ rest) m =
    reads m (reached m r.to) (λ s. reads m (held m (in_stack m r.at) (kinds table r.from))
    (λ zs. if fits table r.of zs
    then reads m (and_then (moved_out m (in_stack m r.at) (kinds table r.from) (access_offsets table r.from)) (λ n. stored n s (kinds table r.of) zs))
    (copied_back table rest)
    else Halted constraint m))

-- The frame is given back. The end of the main procedure ends the run.
abbrev pub finish : Turn → Outcome
finish t = on_made t (copied_back t.table t.frame.returns (start t)) (λ f m. left t.outer (record f { stack = take t.frame.base f.stack }))
  where
    left : List Frame → Flat → Outcome
    left (outer ∷ []) m = Ends Normal (counted (record t.state { memory = m; frames = outer ∷ [] }))
    left outer m = Goes (counted (record t.state { memory = m; frames = outer }))

abbrev pub given_to : Held → List Frame → List Frame
given_to v [] = []
given_to v (f ∷ rest) = record f { waits = v ∷ f.waits } ∷ rest

-- The result waits in the frame of the caller.
abbrev pub hold : Turn → Fill → ℕ → Option ℕ → Outcome
hold t v of None = Fails
hold t v of (Some n) =
    on_made t (filled t.table v (start t))
    (λ zs m. Goes (counted (record t.state {
      memory = m;
      frames = record t.frame { waits = waiting t; next = n } ∷ given_to (record { of = of; words = zs }) t.outer;
    })))

-- ---- input and output

abbrev pub piece_bytes : Table → Flat → Piece → Got (List ℕ)
piece_bytes table m (Bytes bytes) = Given bytes
piece_bytes table m (NumberImage c) = and_then (word m c) (λ w. Given (image w))
piece_bytes table m (LiteralImage c of) =
    and_then (word m c) (λ w. Given (map to_ascii_uppercase (get_or (literals (shape_of table of)) (unsigned_abs w) [])))

abbrev pub text : Table → Flat → List Piece → Got (List ℕ)
text table m [] = Given []
text table m (p ∷ rest) = and_then (piece_bytes table m p) (λ bytes. and_then (text table m rest) (λ more. Given (bytes ++ more)))

abbrev pub output : Turn → List Piece → Bool → Option ℕ → Outcome
output t pieces line n =
    on_got t (start t) (text t.table (start t) pieces)
    (λ bytes. Goes (writing (bytes ++ (if line then 10 ∷ [] else [])) (after t (waiting t) (start t) n)))
  where
    writing : List ℕ → State → State
    writing bytes s = record s { output = s.output ++ bytes }

abbrev pub input : Turn → Place → ℤ → ℤ → Option ℕ → Outcome
input t p low high n = on_got t (start t) (spot (start t) p) (λ s. by s (next_item t.input t.state.at))
  where
    reading : ℕ → State → State
    reading end s = record s { at = end }

    by : Spot → Item → Outcome
    by s item.Missing = halted t (Raises EndError) (start t)
    by s item.Bad = halted t (Raises DataError) (start t)
    by s (item.Number v end) =
        if is_between low high v
        then on_got t (start t) (stored (start t) s (sort.Int ∷ []) (v ∷ [])) (λ m. Goes (reading end (after t (waiting t) m n)))
        else halted t constraint (start t)

-- ---- release and the ends of scopes

-- Nothing is done to null. A cell is freed after its leak checks, and its name becomes null.
abbrev pub release : Turn → Place → ℕ → Pos → Option ℕ → Outcome
release t p of at n =
    on_got t (start t) (spot (start t) p) (λ s. on_got t (start t) (words_at (start t) s (sort.Access ∷ [])) (λ zs. by s zs))
  where
    freeing : Spot → ℕ → Cell → Outcome
    freeing s k c =
        if c.freed then halted t (Traps Twice) (start t)
        else on_got t (start t) (leaks_at t.table (start t) (InCell k 0) of at)
        (λ leaks. on_got t (start t) (stored (start t) s (sort.Access ∷ []) (pos 0 ∷ []))
        (λ m. leaking_goes t leaks (without_cell m k (length c.words)) n))

    of_cell : Spot → ℕ → Option Cell → Outcome
    of_cell s k None = Fails
    of_cell s k (Some c) = if nat_lt k most_cells then freeing s k c else Fails

    released : Spot → ℕ → Outcome
    released s zero = goes t (start t) n
    released s (suc k) = of_cell s k (slice_get (start t).cells k)

    by : Spot → List ℤ → Outcome
    by s (w ∷ []) = released s (unsigned_abs w)
    by s _ = Fails

abbrev pub end_pointer : Turn → ℕ → Option ℕ → Outcome
end_pointer t at n =
    on_got t (start t) (found (slice_get (start t).stack (t.frame.base + at)))
    (λ w. on_got t (start t) (put_words (start t) at (pos 0 ∷ [])) (λ m. leaking_goes t (leak t.point.pos w) m n))

abbrev pub end_scope : Turn → ℕ → ℕ → Option ℕ → Outcome
end_scope t at of n =
    on_got t (start t) (leaks_at t.table (start t) (in_stack (start t) at) of t.point.pos)
    (λ leaks. on_got t (start t) (put_words (start t) at (default_words t.table of)) (λ m. leaking_goes t leaks m n))

-- ---- choices

abbrev pub test : Turn → Code → Option ℕ → Option ℕ → Outcome
test t c holds fails = on_got t (start t) (word (start t) c) (λ w. goes t (start t) (if is_zero w then fails else holds))

-- The first one that has the value.
abbrev pub chosen : ℤ → List Choice → Option ℕ
chosen w [] = None
chosen w (c ∷ rest) = if is_between c.low c.high w then Some c.next else chosen w rest

abbrev pub choose : Turn → Code → List Choice → Outcome
choose t c choices = on_got t (start t) (word (start t) c) (λ w. by (chosen w choices))
  where
    by : Option ℕ → Outcome
    by None = halted t constraint (start t)
    by (Some n) = goes t (start t) (Some n)

abbrev pub truth_held : ℤ → Held
truth_held w = record { of = boolean; words = w ∷ [] }

abbrev pub evaluate_left : Turn → Code → Bool → Option ℕ → Option ℕ → Outcome
evaluate_left t c or_else n decided =
    on_got t (start t) (word (start t) c)
    (λ w. Goes (after t (truth_held w ∷ waiting t) (start t) (if is_zero w then (if or_else then n else decided) else (if or_else then decided else n))))

abbrev pub evaluate_right : Turn → Code → Option ℕ → Outcome
evaluate_right t c n =
    on_got t (start t) (word (start t) c) (λ w. Goes (after t (truth_held w ∷ drop 1 (waiting t)) (start t) n))

-- ---- `for` loops

abbrev pub start_loop : Turn → ℕ → ℕ → Code → Code → ℤ → ℤ → Option ℕ → Outcome
start_loop t at counter low high first last n =
    on_got t (start t) (word (start t) low) (λ a. on_got t (start t) (word (start t) high) (λ b. by a b))
  where
    by : ℤ → ℤ → Outcome
    by a b =
        if int_le a b && not (is_between first last a && is_between first last b) then halted t constraint (start t)
        else on_got t (start t) (and_then (put_words (start t) at (a ∷ [])) (λ m. put_words m counter (a ∷ b ∷ pos 1 ∷ []))) (λ m. goes t m n)

-- The next value of a parameter, from the bounds and whether the first turn is to come.
abbrev pub next_value : Bool → ℤ → ℤ → ℤ → ℤ → Option ℤ
next_value reversed low high first v =
    if not (is_zero first) then (if int_le low high then Some (if reversed then high else low) else None)
    else (if reversed then (if int_lt low v then Some (v +ℤ negsuc 0) else None)
    else (if int_lt v high then Some (v +ℤ pos 1) else None))

abbrev pub next_turn : Turn → ℕ → ℕ → Bool → ℤ → Option ℕ → Option ℕ → Outcome
next_turn t at counter reversed default turn leave =
    let word_at : ℕ → Got ℤ = λ o. found (slice_get (start t).stack (t.frame.base + o)) in
    on_got t (start t) (word_at at) (λ v. on_got t (start t) (word_at counter)
    (λ low. on_got t (start t) (word_at (counter + 1)) (λ high. on_got t (start t) (word_at (counter + 2))
    (λ first. by low high (next_value reversed low high first v)))))
  where
    with_words : ℤ → List ℤ → Option ℕ → Outcome
    with_words v loop n = on_got t (start t) (and_then (put_words (start t) at (v ∷ [])) (λ m. put_words m counter loop)) (λ m. goes t m n)

    by : ℤ → ℤ → Option ℤ → Outcome
    by low high (Some v) = with_words v (low ∷ high ∷ pos 0 ∷ []) turn
    by low high None = with_words default (pos 1 ∷ pos 0 ∷ pos 1 ∷ []) leave

-- ---- all points

abbrev pub done : Turn → Does → Outcome
done t (Go n) = goes t (start t) n
done t (Put at v n) = put t at v n
done t (Store p v k n) = store t p v k n
done t (Assign p v of checks n) = assign t p v of checks n
done t (Call sub actuals n) = call t sub actuals n
done t (Output pieces line n) = output t pieces line n
done t (Input p low high n) = input t p low high n
done t (Release p of at n) = release t p of at n
done t (Test c holds fails) = test t c holds fails
done t (Choose c choices) = choose t c choices
done t (Start at counter low high first last n) = start_loop t at counter low high first last n
done t (Next at counter reversed default turn leave) = next_turn t at counter reversed default turn leave
done t (EvaluateLeft c or_else n decided) = evaluate_left t c or_else n decided
done t (EvaluateRight c n) = evaluate_right t c n
done t (Hold v of n) = hold t v of n
done t (EndPointer at n) = end_pointer t at n
done t (EndScope at of n) = end_scope t at of n
done t Finish = finish t
done t Fall = halted t (Raises ProgramError) (start t)

-- The values that the point takes are there, of its types.
abbrev pub turned : Turn → Outcome
turned t = if are_taken t then done t t.point.does else Wants

abbrev pub stepped : Table → Program → List ℕ → State → List Frame → Outcome
stepped table program input s [] = Ends Spent s
stepped table program input s (f ∷ outer) = by (slice_get program.points f.next)
  where
    by : Option Point → Outcome
    by None = Fails
    by (Some p) = turned (record { table = table; program = program; input = input; point = p; state = s; frame = f; outer = outer })

abbrev pub step : Table → Program → List ℕ → State → Outcome
step table program input s = stepped table program input s s.frames

-- ---- runs

abbrev pub no_memory : Flat
no_memory = record { stack = []; base = 0; cells = []; freed = 0; live = 0; waits = []; rest = [] }

-- The package objects are declared first; without a point for them, the main procedure begins at once.
abbrev pub state_at_start : Table → Program → Bool → State
state_at_start table program declares =
    let first : Sub = sub_at program 0 in
    let m : Flat = with_frame table first no_memory in
    let f : Frame = frame_of no_memory first [] in
    if declares then state m (f ∷ []) else by m f program.main
  where
    state : Flat → List Frame → State
    state m frames = record { memory = m; frames = frames; at = 0; output = []; leaks = []; steps = 0 }

    by : Flat → Frame → Option ℕ → State
    by m f None = state m (f ∷ [])
    by m f (Some main) = state (with_frame table (sub_at program main) m) (frame_of m (sub_at program main) [] ∷ f ∷ [])

abbrev pub then_on : Outcome → (State → Outcome) → Outcome
then_on (Goes s) on = on s
then_on (Ends e s) on = Ends e s
then_on Wants on = Wants
then_on Fails on = Fails

unfoldable pub within : ℕ → Table → Program → List ℕ → State → Outcome
within zero table program input s = Ends Spent s
within (suc n) table program input s = then_on (step table program input s) (within n table program input)

-- A run of at most n steps. `declares` says whether a package object is declared; the position is that of
-- the main procedure.
abbrev pub run_of : Table → Program → Bool → Pos → ℕ → List ℕ → ℕ → Outcome
run_of table program declares at main input n =
    if nat_le ((sub_at program main).words + (sub_at program 0).words) stack_words
    then within n table program input (state_at_start table program declares)
    else Ends (Raised StorageError at) (state_at_start table program declares)

-- What a run gives, but for the greatest counts of cells.
pub record Ran : Type 0 where
  pub output : List ℕ
  pub leaks : List Leak
  pub ending : Ending
  pub steps : ℕ
  pub made : ℕ
  pub freed : ℕ
  pub leaked : ℕ

abbrev pub ran_of : Run → Ran
ran_of r = record {
  output = r.output;
  leaks = r.leaks;
  ending = r.ending;
  steps = r.steps;
  made = r.made;
  freed = r.freed;
  leaked = r.leaked;
}

abbrev pub run_with : Ending → State → Ran
run_with e s = record {
  output = s.output;
  leaks = s.leaks;
  ending = e;
  steps = s.steps;
  made = length s.memory.cells;
  freed = s.memory.freed;
  leaked = length s.leaks;
}

-- Where memory isn't wanted.
abbrev pub run_given : Outcome → Option Ran
run_given (Goes s) = Some (run_with Spent s)
run_given (Ends e s) = Some (run_with e s)
run_given Wants = None
run_given Fails = None

abbrev pub is_declaring : FlowProgram → Bool
is_declaring program = nat_lt 0 (length (machine.sub_of program 0).points)

-- The run of a program as it is lowered.
unfoldable pub lowered_run : FlowProgram → List ℕ → ℕ → Option Ran
lowered_run program input n = option_and_then by (lowered_program program)
  where
    by : Program → Option Ran
    by p =
        let main : ℕ = main_of program.main in
        run_given (run_of program.table p (is_declaring program) (machine.sub_of program main).pos main input n)
