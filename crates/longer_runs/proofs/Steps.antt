-- A step keeps what was written and which leak checks failed.
use Rattle.std.proofs.Common.{◌≡◌, ℕ, Bool, true, false, not, ◌&&◌, List, [], ◌∷◌, ◌++◌, flat_map, length, refl, sym, ap, ◌∙◌, append_assoc, append-nil, Option, Some, None, ℤ, nat_le, nat_lt, int_le, if◌then◌else◌}
use Rattle.std.specs.Prelude.{get_or, suc}
use Rattle.flow_paths.specs.Instructions.{Instruction, Skip, Declare, Assign, Call, Output, Input, Release, Test, Choose, Start, Next, Evaluate, LeaveLoop, Hold, EndScope, Finish, Fall}
use Rattle.flow_paths.specs.Points.{FlowPoint}
use Rattle.flow_paths.specs.Laid.{FlowProgram}
use Rattle.flow_paths.specs.Objects.{object_at, sub_at, designated, passings}
use Rattle.flow_paths.specs.Names.{first, written}
use Rattle.typed_tree.specs.declared.node.ShortCircuit.{ShortCircuit}
use Rattle.typed_tree.specs.Trees.{TypedTree, TypedCode, More}
use Rattle.run_values.specs.declared.items.Item.{Item}
use Rattle.run_values.specs.declared.items.Item.TheVariants as item
use Rattle.run_values.specs.Items.{next_item}
use Rattle.machine.specs.Words.{Word, Int, Null, Cell, fits_type}
use Rattle.machine.specs.Memory.{Memory, Place, cell, words_of, stored, freed, without_frame, declared, undeclared}
use Rattle.machine.specs.Evaluate.{Evaluated, Done, Raises, Traps, StorageError, EndError, DataError, ConstraintError, Twice, ProgramError, variable_place, cell_place, value, place_of, text_of, is_true}
use Rattle.machine.specs.Calls.{Passed, all_passed, with_formals, checks_at, written_pos, out_checks, returns_of}
use Rattle.machine.specs.States.{Waiting, Frame, Leak, State, Normal, Outcome, Goes, Ends, state_of, sub_of, frame_words, stack_words, frame_at_start}
use Rattle.machine.specs.Step.{Turn, typing, here, start, target_pos, waiting, raised, trapped, evaluated, counted, behind, goes, declare, first_value, assign, Stored, taken_by, leaking_goes, call, copied_back, finish, hold, output, input, release, end_scope, test, leave_loop, choice, choose, operand, Bounds, bounds, number, with_loop, start_loop, loop_of, turned_to, next_value, next_turn, turn}
use Rattle.machine.specs.Run.{stepped, step, no_point}
use Rattle.longer_runs.specs.Later.{BeginsWith, IsLater}

-- ---- lists and states

pub whole : {A : Type 0} (xs : List A) → BeginsWith xs xs
whole xs = ([], sym (append-nil xs))

added : {A : Type 0} (xs ys zs : List A) → BeginsWith ys xs → BeginsWith (ys ++ zs) xs
added xs ys zs (back, is) = (back ++ zs, ap (λ l. l ++ zs) is ∙ append_assoc xs back zs)

pub begins_on : {A : Type 0} (xs ys zs : List A) → BeginsWith ys xs → BeginsWith zs ys → BeginsWith zs xs
begins_on xs ys zs (front, is) (back, more) = (front ++ back, more ∙ ap (λ l. l ++ back) is ∙ append_assoc xs front back)

pub same_later : (s : State) → IsLater s s
same_later s = record { output = whole s.output; leaks = whole s.leaks }

pub later_on : (s t u : State) → IsLater s t → IsLater t u → IsLater s u
later_on s t u is more = record {
  output = begins_on s.output t.output u.output is.output more.output;
  leaks = begins_on s.leaks t.leaks u.leaks is.leaks more.leaks;
}

-- ---- what steps come to

record Leads (t : Turn) (out : Outcome) : Type 0 where
  later : IsLater t.state (state_of out)

-- Nothing is added.
stays : (t : Turn) (out : Outcome) → (state_of out).output ≡ t.state.output → (state_of out).leaks ≡ t.state.leaks → Leads t out
stays t out output leaks = record {
  later = record {
    output = ([], output ∙ sym (append-nil t.state.output));
    leaks = ([], leaks ∙ sym (append-nil t.state.leaks));
  };
}

evaluated_leads : {A : Type 0} (t : Turn) (e : Evaluated A) (f : A → Memory → Outcome)
    → ((a : A) (m : Memory) → Leads t (f a m)) → Leads t (evaluated t e f)
evaluated_leads t (Done a now) f leads = leads a now.memory
evaluated_leads t (Raises e now) f leads = stays t (raised t e now.memory) refl refl
evaluated_leads t (Traps trap now) f leads = stays t (trapped t trap now.memory) refl refl

leaking_leads : (t : Turn) (checks : List (List Leak)) (out : Outcome) → Leads t out → Leads t (leaking_goes checks out)
leaking_leads t checks (Goes s) is =
    record { later = record { output = is.later.output; leaks = added t.state.leaks s.leaks (flat_map (λ leaks. leaks) checks) is.later.leaks } }
leaking_leads t checks (Ends e s) is =
    record { later = record { output = is.later.output; leaks = added t.state.leaks s.leaks (flat_map (λ leaks. leaks) checks) is.later.leaks } }

if_leads : (t : Turn) (c : Bool) (a b : Outcome) → Leads t a → Leads t b → Leads t (if c then a else b)
if_leads t true a b one other = one
if_leads t false a b one other = other

goes_leads : (t : Turn) (m : Memory) (k : ℕ) → Leads t (goes t m k)
goes_leads t m k = stays t (goes t m k) refl refl

-- ---- instructions

declare_leads : (t : Turn) (x : ℕ) (v : TypedTree) → Leads t (declare t x v)
declare_leads t x v = evaluated_leads t (first_value t (object_at (typing t) x).of v (start t)) _ (λ ws m. goes_leads t (declared (length t.outer) x ws m) 0)

assign_leads : (t : Turn) (target e : TypedTree) → Leads t (assign t target e)
assign_leads t target e =
    evaluated_leads t _ _
    (λ (s : Stored) m. leaking_leads t (checks_at (typing t) (target_pos t target) m s.place) _ (goes_leads t (stored (typing t) s.place s.words m) 0))

call_leads : (t : Turn) (sub : ℕ) (actuals : TypedTree) → Leads t (call t sub actuals)
call_leads t sub actuals =
    evaluated_leads t (all_passed (here t) (passings (typing t) (sub_at (typing t) sub)) (sub_of t.program sub).formals actuals (start t)) _
    (λ passed m.
    if_leads t (nat_le (frame_words t.program (frames passed m)) stack_words)
    (leaking_goes (out_checks (typing t) t.point.pos m passed actuals) (Goes (begun passed m))) (raised t StorageError m)
    (leaking_leads t (out_checks (typing t) t.point.pos m passed actuals) (Goes (begun passed m)) (stays t (Goes (begun passed m)) refl refl))
    (stays t (raised t StorageError m) refl refl))
  where
    frames : List Passed → Memory → List Frame
    frames passed m = frame_at_start sub (returns_of (sub_of t.program sub).formals passed) ∷ (behind t (waiting t) m 0).frames

    begun : List Passed → Memory → State
    begun passed m = record (behind t (waiting t) m 0) {
      frames = frames passed m;
      memory = with_formals (typing t) (suc (length t.outer)) (sub_of t.program sub).formals passed m;
    }

finish_leads : (t : Turn) → Leads t (finish t)
finish_leads t = evaluated_leads t (copied_back t t.frame.returns (start t)) _ (λ m now. by t.outer m)
  where
    left : List Frame → Memory → Outcome
    left (outer ∷ []) m = Ends Normal (counted (record t.state { frames = outer ∷ []; memory = without_frame (length t.outer) m }))
    left outer m = Goes (counted (record t.state { frames = outer; memory = without_frame (length t.outer) m }))

    by : (outer : List Frame) (m : Memory) → Leads t (left outer m)
    by [] m = stays t (left [] m) refl refl
    by (g ∷ []) m = stays t (left (g ∷ []) m) refl refl
    by (g ∷ h ∷ outer) m = stays t (left (g ∷ h ∷ outer) m) refl refl

hold_leads : (t : Turn) (v : TypedTree) → Leads t (hold t v)
hold_leads t v = by v (sub_of t.program t.frame.sub).result
  where
    given_to : Waiting → List Frame → List Frame
    given_to v [] = []
    given_to v (f ∷ rest) = record f { waits = v ∷ f.waits } ∷ rest

    holding : ℕ → List Word → Memory → Outcome
    holding of ws m = Goes (record (behind t (waiting t) m 0) {
      frames = record t.frame { waits = waiting t; next = get_or t.point.next 0 0 } ∷ given_to (record { of = of; words = ws }) t.outer;
    })

    held_by : TypedTree → Option ℕ → Outcome
    held_by (More e rest) (Some of) = evaluated t (taken_by t of e (start t)) (holding of)
    held_by _ _ = goes t t.state.memory 0

    by : (v : TypedTree) (of : Option ℕ) → Leads t (held_by v of)
    by (More e rest) (Some of) = evaluated_leads t (taken_by t of e (start t)) (holding of) (λ ws m. stays t (holding of ws m) refl refl)
    by _ _ = goes_leads t t.state.memory 0

output_leads : (t : Turn) (text : TypedTree) (line : Bool) → Leads t (output t text line)
output_leads t text line =
    evaluated_leads t (text_of (here t) (first text) (start t)) _ (λ bytes m. record {
      later = record {
        output = (bytes ++ (if line then 10 ∷ [] else []), append_assoc t.state.output bytes (if line then 10 ∷ [] else []));
        leaks = whole t.state.leaks;
      };
    })

input_leads : (t : Turn) (target : TypedTree) → Leads t (input t target)
input_leads t target = evaluated_leads t (place_of (here t) target (start t)) _ (λ k m. by t k (next_item t.input t.state.at) m)
  where
    reads : Turn → Place → ℤ → ℕ → Memory → Outcome
    reads t k v end m = Goes (record (behind t (waiting t) (stored (typing t) k (Int v ∷ []) m) 0) { at = end })

    got : Turn → Place → Item → Memory → Outcome
    got t k item.Missing m = raised t EndError m
    got t k item.Bad m = raised t DataError m
    got t k (item.Number v end) m =
        if fits_type (typing t).table k.of (Int v ∷ []) then reads t k v end m else raised t ConstraintError m

    by : (t : Turn) (k : Place) (i : Item) (m : Memory) → Leads t (got t k i m)
    by t k item.Missing m = stays t (raised t EndError m) refl refl
    by t k item.Bad m = stays t (raised t DataError m) refl refl
    by t k (item.Number v end) m =
        if_leads t (fits_type (typing t).table k.of (Int v ∷ [])) (reads t k v end m) (raised t ConstraintError m)
        (stays t (reads t k v end m) refl refl) (stays t (raised t ConstraintError m) refl refl)

release_leads : (t : Turn) (e : TypedTree) → Leads t (release t e)
release_leads t e = evaluated_leads t (place_of (here t) e (start t)) _ (λ k m. by t k (words_of (typing t) m k) m)
  where
    checks : Turn → Place → ℕ → Memory → List (List Leak)
    checks t k n m = checks_at (typing t) (written_pos t.point.pos (written e)) m (cell_place (designated (typing t).table k.of) n)

    frees : Turn → Place → ℕ → Memory → Outcome
    frees t k n m = goes t (stored (typing t) k (Null ∷ []) (freed n m)) 0

    released : Turn → Place → List Word → Memory → Outcome
    released t k (Cell n ∷ []) m = if (cell m n).freed then trapped t Twice m else leaking_goes (checks t k n m) (frees t k n m)
    released t k _ m = goes t m 0

    by : (t : Turn) (k : Place) (ws : List Word) (m : Memory) → Leads t (released t k ws m)
    by t k (Cell n ∷ []) m =
        if_leads t (cell m n).freed (trapped t Twice m) (leaking_goes (checks t k n m) (frees t k n m))
        (stays t (trapped t Twice m) refl refl)
        (leaking_leads t (checks t k n m) (frees t k n m) (goes_leads t (stored (typing t) k (Null ∷ []) (freed n m)) 0))
    by t k _ m = goes_leads t m 0

end_scope_leads : (t : Turn) (x : ℕ) → Leads t (end_scope t x)
end_scope_leads t x =
    leaking_leads t (checks_at (typing t) t.point.pos t.state.memory (variable_place (here t) x)) _
    (goes_leads t (undeclared (length t.outer) x t.state.memory) 0)

test_leads : (t : Turn) (e : TypedTree) (holds fails : ℕ) → Leads t (test t e holds fails)
test_leads t e holds fails = evaluated_leads t (value (here t) e (start t)) _ (λ ws m. goes_leads t m (if is_true ws then holds else fails))

leave_leads : (t : Turn) (v : TypedTree) → Leads t (leave_loop t v)
leave_leads t (More e rest) = test_leads t e 0 1
leave_leads t _ = goes_leads t t.state.memory 0

choose_leads : (t : Turn) (e : TypedTree) (choices : List TypedCode) → Leads t (choose t e choices)
choose_leads t e choices =
    evaluated_leads t (value (here t) e (start t)) _
    (λ ws m. if_leads t (nat_lt (choice choices ws) (length choices)) _ _ (goes_leads t m (choice choices ws)) (stays t (raised t ConstraintError m) refl refl))

operand_leads : (t : Turn) (e : TypedTree) (op : Option ShortCircuit) → Leads t (operand t e op)
operand_leads t e (Some op) = evaluated_leads t (value (here t) e (start t)) _ (λ ws m. stays t _ refl refl)
operand_leads t e None = evaluated_leads t (value (here t) e (start t)) _ (λ ws m. stays t _ refl refl)

start_leads : (t : Turn) (x : ℕ) (low high : TypedTree) → Leads t (start_loop t x low high)
start_leads t x low high =
    evaluated_leads t (bounds t low high (start t)) _
    (λ b m. if_leads t (is_beyond b) (raised t ConstraintError m) (Goes (looping b m)) (stays t (raised t ConstraintError m) refl refl) (stays t (Goes (looping b m)) refl refl))
  where
    is_beyond : Bounds → Bool
    is_beyond b =
        let of : ℕ = (object_at (typing t) x).of in
        int_le (number b.low) (number b.high) && not (fits_type (typing t).table of b.low && fits_type (typing t).table of b.high)

    looping : Bounds → Memory → State
    looping b m =
        with_loop (record { parameter = x; low = number b.low; high = number b.high; first = true })
        (behind t (waiting t) (declared (length t.outer) x b.low m) 0)

next_leads : (t : Turn) (x : ℕ) (reversed : Bool) → Leads t (next_turn t x reversed)
next_leads t x reversed =
    let k : Place = variable_place (here t) x in
    let ws : List Word = words_of (typing t) t.state.memory k in
    by k ws (next_value reversed (loop_of x t.frame.loops) (number ws))
  where
    by : (k : Place) (ws : List Word) (v : Option ℤ) → Leads t (turned_to t x k ws v)
    by k ws (Some v) = stays t (turned_to t x k ws (Some v)) refl refl
    by k ws None = stays t (turned_to t x k ws None) refl refl

turn_leads : (t : Turn) (i : Instruction) → Leads t (turn t i)
turn_leads t Skip = goes_leads t t.state.memory 0
turn_leads t (Declare x v) = declare_leads t x v
turn_leads t (Assign target e) = assign_leads t target e
turn_leads t (Call sub actuals result) = call_leads t sub actuals
turn_leads t (Output text line) = output_leads t text line
turn_leads t (Input target) = input_leads t target
turn_leads t (Release e) = release_leads t e
turn_leads t (Test e) = test_leads t e 0 1
turn_leads t (Choose e choices) = choose_leads t e choices
turn_leads t (Start x reversed low high) = start_leads t x low high
turn_leads t (Next x reversed low high) = next_leads t x reversed
turn_leads t (Evaluate temporary e left) = operand_leads t e left
turn_leads t (LeaveLoop e) = leave_leads t e
turn_leads t (Hold v) = hold_leads t v
turn_leads t (EndScope x) = end_scope_leads t x
turn_leads t Finish = finish_leads t
turn_leads t Fall = stays t (raised t ProgramError t.state.memory) refl refl

-- ---- the step

stepped_later : (program : FlowProgram) (input : List ℕ) (s : State) (frames : List Frame) → IsLater s (state_of (stepped program input s frames))
stepped_later program input s [] = same_later s
stepped_later program input s (f ∷ outer) =
    let p : FlowPoint = get_or (sub_of program f.sub).points f.next no_point in
    let t : Turn = record { program = program; input = input; point = p; state = s; frame = f; outer = outer } in
    (turn_leads t p.instr).later

pub step_later : (program : FlowProgram) (input : List ℕ) (s : State) → IsLater s (state_of (step program input s))
step_later program input s = stepped_later program input s s.frames
