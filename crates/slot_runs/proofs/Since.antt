-- Steps don't look at the output and the leaks before them, nor at what the last step left in the memory of
-- how its point was evaluated.
use Rattle.std.proofs.Common.{◌≡◌, ℕ, ◌+◌, Bool, true, false, not, ◌&&◌, List, [], ◌∷◌, ◌++◌, length, take, drop, refl, sym, ap, subst, ◌∙◌, append_assoc, Option, Some, None, ℤ, pos, int_le, nat_le, if◌then◌else◌}
use Rattle.std.specs.Prelude.{slice_get}
use Rattle.spark_base.specs.declared.position.Pos.{Pos}
use Rattle.type_definitions.specs.Types.{Table}
use Rattle.run_values.specs.declared.value.Kind.{Kind}
use Rattle.run_values.specs.declared.value.Kind.TheVariants as sort
use Rattle.run_values.specs.declared.items.Item.{Item}
use Rattle.run_values.specs.declared.items.Item.TheVariants as item
use Rattle.run_values.specs.Items.{next_item}
use Rattle.machine.specs.Evaluate.{ProgramError, StorageError, DataError, EndError}
use Rattle.machine.specs.States.{Leak, stack_words}
use Rattle.run_codes.specs.Codes.{Code, Place, Fill, Actual, Piece, Choice, Does, Go, Put, Store, Assign, Call, Output, Input, Release, Test, Choose, Start, Next, EvaluateLeft, EvaluateRight, Hold, EndPointer, EndScope, Finish, Fall, Point, Sub}
use Rattle.run_codes.specs.Flat.{Stop, Raises, Traps, Memory, Got, Given, Stops, Broken, and_then, found, kinds, constraint, is_zero, is_between, default_words, Spot}
use Rattle.run_codes.specs.Programs.{Program}
use Rattle.run_codes.specs.Points.{Held, Return, Frame, Passed, fits, returns_of, frames_words, chosen, truth_held, next_value, sub_at}
use Rattle.handled_runs.specs.Slots.{Move, Slots, word, spot, held}
use Rattle.handled_runs.specs.Changes.{with_stack, stored, settled}
use Rattle.handled_runs.specs.Values as values
use Rattle.handled_runs.specs.Values.{Fills}
use Rattle.handled_runs.specs.Leaks.{leak, leaks_at}
use Rattle.handled_runs.specs.Assigned.{Left, assigned}
use Rattle.handled_runs.specs.Released.{released}
use Rattle.handled_steps.specs.States.{State, Outcome, Goes, Wants, Fails, Turn, waiting, are_taken, start, halted, on_got, on_made, with_frame, frame_of, after, leaking, leaking_goes}
use Rattle.handled_steps.specs.Steps.{put_words, in_stack, After, on_settled, left_goes, put, store, assign, Passing, Passes, Stopping, Failing, out_leaks, with_formals, entered, on_passed, CallsSub, copied_back, returned, finish, holding, Holds, text, writing, output, reading, read, input, release, end_pointer, end_scope, test, choice, choose, evaluate_left, evaluate_right, looped, start_loop, stack_word, turning, next_turn, Done, Turned, turn_of, SteppedAt, Stepped}
use Rattle.slot_runs.specs.Pasts.{Past, plain_memory, plain, since, mapped}
use Rattle.slot_runs.specs.Pasts as pasts
use Rattle.slot_runs.specs.Turns.{Setting, OneStep}

-- What a step left in the memory.
record Rest : Type 0 where
  base : ℕ
  waits : List ℤ
  rest : List ℕ
  moves : List Move

-- A state as it is with what was there before, and with what the last step left.
abbrev shaded : Past → Rest → State → State
shaded p l s = record s {
  memory = record s.memory { base = l.base; waits = l.waits; rest = l.rest; moves = l.moves };
  output = p.output ++ s.output;
  leaks = p.leaks ++ s.leaks;
  steps = p.steps;
}

abbrev with_past : Past → Rest → Turn → Turn
with_past p l t = record t { state = shaded p l t.state }

-- Both outcomes are the same, but for that.
abbrev pub Alike : Past → Outcome → Outcome → Type 0
Alike p a b = mapped plain a ≡ mapped (since (pasts.stepped p)) b

-- What may come of the one may come of the other one, but for that.
abbrev pub Also : Past → (one other : Outcome → Type 0) → Type 0
Also p One Other = (r : Outcome) → Other r → (q : Outcome) × One q × Alike p q r

-- Where only one outcome may come.
just : (p : Past) (a b : Outcome) → Alike p a b → Also p (λ r. r ≡ a) (λ r. r ≡ b)
just p a b same r is = (a, refl, same ∙ ap (mapped (since (pasts.stepped p))) (sym is))

-- ---- ends

halted_alike : (p : Past) (l : Rest) (t : Turn) (s : Stop) (m : Slots) → Alike p (halted (with_past p l t) s m) (halted t s m)
halted_alike p l t (Raises e) m = refl
halted_alike p l t (Traps trap) m = refl
halted_alike p l t Memory m = refl

got_alike : {A : Type 0} (p : Past) (l : Rest) (t : Turn) (m : Slots) (g : Got A) (f h : A → Outcome)
    → ((a : A) → Alike p (f a) (h a)) → Alike p (on_got (with_past p l t) m g f) (on_got t m g h)
got_alike p l t m (Given a) f h same = same a
got_alike p l t m (Stops s) f h same = halted_alike p l t s m
got_alike p l t m Broken f h same = refl

made_alike : (p : Past) (l : Rest) (t : Turn) (g : values.Outcome) (f h : List ℤ → Slots → Outcome)
    → ((zs : List ℤ) (m : Slots) → Alike p (f zs m) (h zs m)) → Alike p (on_made (with_past p l t) g f) (on_made t g h)
made_alike p l t (values.Gives zs m) f h same = same zs m
made_alike p l t (values.Ends s m) f h same = halted_alike p l t s m
made_alike p l t values.Fails f h same = refl

passed_alike : (p : Past) (l : Rest) (t : Turn) (g : Passing) (f h : List Passed → Slots → Outcome)
    → ((passed : List Passed) (m : Slots) → Alike p (f passed m) (h passed m)) → Alike p (on_passed (with_past p l t) g f) (on_passed t g h)
passed_alike p l t (Passes passed m) f h same = same passed m
passed_alike p l t (Stopping s m) f h same = halted_alike p l t s m
passed_alike p l t Failing f h same = refl

if_alike : (p : Past) (c : Bool) (a b d e : Outcome) → Alike p a d → Alike p b e → Alike p (if c then a else b) (if c then d else e)
if_alike p true a b d e one other = one
if_alike p false a b d e one other = other

-- ---- what goes on

abbrev SameAfter : Past → State → State → Type 0
SameAfter p a b = plain a ≡ since (pasts.stepped p) b

after_same : (p : Past) (l : Rest) (t : Turn) (waits : List Held) (m : Slots) (n : Option ℕ) → SameAfter p (after (with_past p l t) waits m n) (after t waits m n)
after_same p l t waits m (Some n) = refl
after_same p l t waits m None = by t.outer t.program.main
  where
    by : (outer : List Frame) (main : Option ℕ)
        → SameAfter p (after (with_past p l (record t { outer = outer; program = record t.program { main = main } })) waits m None) (after (record t { outer = outer; program = record t.program { main = main } }) waits m None)
    by [] None = refl
    by [] (Some main) = refl
    by (g ∷ outer) main = refl

goes_alike : (p : Past) (l : Rest) (t : Turn) (waits : List Held) (m : Slots) (n : Option ℕ) → Alike p (Goes (after (with_past p l t) waits m n)) (Goes (after t waits m n))
goes_alike p l t waits m n = ap Goes (after_same p l t waits m n)

leaking_same : (p : Past) (leaks : List Leak) (a b : State) → SameAfter p a b → SameAfter p (leaking leaks a) (leaking leaks b)
leaking_same p leaks a b same =
    ap (leaking leaks) same ∙ ap (λ all. record (since (pasts.stepped p) b) { leaks = all }) (append_assoc p.leaks b.leaks leaks)

leaking_alike : (p : Past) (l : Rest) (t : Turn) (leaks : List Leak) (m : Slots) (n : Option ℕ)
    → Alike p (leaking_goes (with_past p l t) leaks m n) (leaking_goes t leaks m n)
leaking_alike p l t leaks m n =
    ap Goes (leaking_same p leaks (after (with_past p l t) (waiting t) m n) (after t (waiting t) m n) (after_same p l t (waiting t) m n))

-- ---- stores

-- A value is evaluated first, over the same memory.
after_alike : (p : Past) (l : Rest) (t : Turn) (v : Fill) (f h : List ℤ → Slots → Outcome)
    → ((zs : List ℤ) (m : Slots) → Alike p (f zs m) (h zs m)) → Also p (After (with_past p l t) v f) (After t v h)
after_alike p l t v f h same r (g, fills, is) =
    (on_made (with_past p l t) g f, (g, fills, refl), made_alike p l t g f h same ∙ ap (mapped (since (pasts.stepped p))) (sym is))

settled_alike : (p : Past) (l : Rest) (t : Turn) (m : Slots) (f h : Slots → Outcome)
    → ((k : Slots) → Alike p (f k) (h k)) → Alike p (on_settled (with_past p l t) m f) (on_settled t m h)
settled_alike p l t m f h same = got_alike p l t m (settled m) f h same

put_alike : (p : Past) (l : Rest) (t : Turn) (at : ℕ) (n : Option ℕ) (zs : List ℤ) (m : Slots) → Alike p (put (with_past p l t) at n zs m) (put t at n zs m)
put_alike p l t at n zs m =
    settled_alike p l t m _ _ (λ s. got_alike p l t s (put_words s at zs) _ _ (λ k. goes_alike p l t (waiting t) k n))

store_alike : (p : Past) (l : Rest) (t : Turn) (q : Place) (k : Kind) (n : Option ℕ) (zs : List ℤ) (m : Slots)
    → Alike p (store (with_past p l t) q k n zs m) (store t q k n zs m)
store_alike p l t q k n zs m =
    got_alike p l t m (spot m q) _ _
    (λ at. settled_alike p l t m _ _ (λ s. got_alike p l t s (stored s at (k ∷ []) zs) _ _ (λ f. goes_alike p l t (waiting t) f n)))

left_goes_alike : (p : Past) (l : Rest) (t : Turn) (n : Option ℕ) (x : Left Slots) → Alike p (left_goes (with_past p l t) n x) (left_goes t n x)
left_goes_alike p l t n x = leaking_alike p l t x.leaks x.memory n

assign_alike : (p : Past) (l : Rest) (t : Turn) (q : Place) (of : ℕ) (checks : Option Pos) (n : Option ℕ) (zs : List ℤ) (m : Slots)
    → Alike p (assign (with_past p l t) q of checks n zs m) (assign t q of checks n zs m)
assign_alike p l t q of checks n zs m =
    got_alike p l t m (assigned t.table q of checks zs m) _ _ (λ x. left_goes_alike p l t n x)

-- ---- calls

entered_alike : (p : Past) (l : Rest) (t : Turn) (sub : Sub) (n : Option ℕ) (passed : List Passed) (m : Slots)
    → Alike p (entered (with_past p l t) sub n passed m) (entered t sub n passed m)
entered_alike p l t sub n passed m =
    if_alike p (nat_le (frames_words (frame_of m sub [] ∷ t.frame ∷ t.outer)) stack_words) _ _ _ _
    (settled_alike p l t m _ _
    (λ k. got_alike p l t m (out_leaks t.table k passed) _ _
    (λ leaks. got_alike p l t m (with_formals t.table (length m.stack) sub.formals passed (with_frame t.table sub m)) _ _
    (λ f. settled_alike p l t f _ _ (λ f. begins_alike leaks f)))))
    (halted_alike p l t (Raises StorageError) m)
  where
    within : State → State
    within s = record s { frames = frame_of m sub (returns_of t.table 0 sub.formals passed) ∷ s.frames }

    begins_alike : (leaks : List Leak) (f : Slots)
        → Alike p (Goes (within (leaking leaks (after (with_past p l t) (waiting t) f n)))) (Goes (within (leaking leaks (after t (waiting t) f n))))
    begins_alike leaks f =
        ap (λ s. Goes (within s)) (leaking_same p leaks (after (with_past p l t) (waiting t) f n) (after t (waiting t) f n) (after_same p l t (waiting t) f n))

call_alike : (p : Past) (l : Rest) (t : Turn) (sub : ℕ) (actuals : List Actual) (n : Option ℕ) → Also p (CallsSub (with_past p l t) sub actuals n) (CallsSub t sub actuals n)
call_alike p l t sub actuals n r (g, passes, is) = (
  on_passed (with_past p l t) g (entered (with_past p l t) (sub_at t.program sub) n),
  (g, passes, refl),
  passed_alike p l t g _ _ (λ passed m. entered_alike p l t (sub_at t.program sub) n passed m) ∙ ap (mapped (since (pasts.stepped p))) (sym is),
)

returned_alike : (p : Past) (l : Rest) (t : Turn) (outer : List Frame) (m : Slots) → Alike p (returned (with_past p l t) outer m) (returned t outer m)
returned_alike p l t [] m = refl
returned_alike p l t (g ∷ []) m = refl
returned_alike p l t (g ∷ h ∷ outer) m = refl

backs_alike : (p : Past) (l : Rest) (t : Turn) (f h : Slots → Outcome) → ((m : Slots) → Alike p (f m) (h m)) → (returns : List Return) (m : Slots)
    → Alike p (copied_back (with_past p l t) returns m f) (copied_back t returns m h)
backs_alike p l t f h same [] m = same m
backs_alike p l t f h same (r ∷ rest) m =
    got_alike p l t m (held m (in_stack m r.at) (kinds t.table r.from)) _ _
    (λ zs. if_alike p (fits t.table r.of zs) _ _ _ _
    (got_alike p l t m (stored m r.to (kinds t.table r.of) zs) _ _ (λ n. backs_alike p l t f h same rest n))
    (halted_alike p l t constraint m))

finish_alike : (p : Past) (l : Rest) (t : Turn) → Alike p (finish (with_past p l t)) (finish t)
finish_alike p l t =
    backs_alike p l t _ _ (λ m. returned_alike p l t t.outer (with_stack m (take t.frame.base m.stack))) t.frame.returns (start t)

holding_alike : (p : Past) (l : Rest) (t : Turn) (of n : ℕ) (zs : List ℤ) (m : Slots) → Alike p (holding (with_past p l t) of n zs m) (holding t of n zs m)
holding_alike p l t of n zs m = settled_alike p l t m _ _ (λ s. refl)

hold_alike : (p : Past) (l : Rest) (t : Turn) (v : Fill) (of : ℕ) (n : Option ℕ) → Also p (Holds (with_past p l t) v of n) (Holds t v of n)
hold_alike p l t v of None = just p Fails Fails refl
hold_alike p l t v of (Some n) = after_alike p l t v _ _ (λ zs m. holding_alike p l t of n zs m)

-- ---- input and output

output_alike : (p : Past) (l : Rest) (t : Turn) (pieces : List Piece) (line : Bool) (n : Option ℕ)
    → Alike p (output (with_past p l t) pieces line n) (output t pieces line n)
output_alike p l t pieces line n =
    got_alike p l t (start t) (text t.table (start t) pieces) _ _ (λ bytes. by (bytes ++ (if line then 10 ∷ [] else [])))
  where
    by : (bytes : List ℕ) → Alike p (Goes (writing bytes (after (with_past p l t) (waiting t) (start t) n))) (Goes (writing bytes (after t (waiting t) (start t) n)))
    by bytes =
        ap (λ s. Goes (writing bytes s)) (after_same p l t (waiting t) (start t) n)
        ∙ ap (λ all. Goes (record (since (pasts.stepped p) (after t (waiting t) (start t) n)) { output = all })) (append_assoc p.output (after t (waiting t) (start t) n).output bytes)

read_alike : (p : Past) (l : Rest) (t : Turn) (low high : ℤ) (n : Option ℕ) (q : Spot) (i : Item) → Alike p (read (with_past p l t) low high n q i) (read t low high n q i)
read_alike p l t low high n q item.Missing = halted_alike p l t (Raises EndError) (start t)
read_alike p l t low high n q item.Bad = halted_alike p l t (Raises DataError) (start t)
read_alike p l t low high n q (item.Number v end) =
    if_alike p (is_between low high v) _ _ _ _
    (got_alike p l t (start t) (stored (start t) q (sort.Int ∷ []) (v ∷ [])) _ _ (λ m. ap (λ s. Goes (reading end s)) (after_same p l t (waiting t) m n)))
    (halted_alike p l t constraint (start t))

input_alike : (p : Past) (l : Rest) (t : Turn) (q : Place) (low high : ℤ) (n : Option ℕ) → Alike p (input (with_past p l t) q low high n) (input t q low high n)
input_alike p l t q low high n =
    got_alike p l t (start t) (spot (start t) q) _ _ (λ s. read_alike p l t low high n s (next_item t.input t.state.at))

-- ---- release and the ends of scopes

release_alike : (p : Past) (l : Rest) (t : Turn) (q : Place) (of : ℕ) (at : Pos) (n : Option ℕ) → Alike p (release (with_past p l t) q of at n) (release t q of at n)
release_alike p l t q of at n =
    got_alike p l t (start t) (released t.table q of at (start t)) _ _ (λ x. left_goes_alike p l t n x)

end_pointer_alike : (p : Past) (l : Rest) (t : Turn) (at : ℕ) (n : Option ℕ) → Alike p (end_pointer (with_past p l t) at n) (end_pointer t at n)
end_pointer_alike p l t at n =
    got_alike p l t (start t) (found (slice_get (start t).stack (t.frame.base + at))) _ _
    (λ w. got_alike p l t (start t) (put_words (start t) at (pos 0 ∷ [])) _ _ (λ m. leaking_alike p l t (leak (start t).numbers t.point.pos w) m n))

end_scope_alike : (p : Past) (l : Rest) (t : Turn) (at of : ℕ) (n : Option ℕ) → Alike p (end_scope (with_past p l t) at of n) (end_scope t at of n)
end_scope_alike p l t at of n =
    got_alike p l t (start t) (leaks_at t.table (start t) (in_stack (start t) at) of t.point.pos) _ _
    (λ leaks. got_alike p l t (start t) (put_words (start t) at (default_words t.table of)) _ _ (λ m. leaking_alike p l t leaks m n))

-- ---- choices

test_alike : (p : Past) (l : Rest) (t : Turn) (c : Code) (holds fails : Option ℕ) → Alike p (test (with_past p l t) c holds fails) (test t c holds fails)
test_alike p l t c holds fails =
    got_alike p l t (start t) (word (start t) c) _ _ (λ w. goes_alike p l t (waiting t) (start t) (if is_zero w then fails else holds))

choice_alike : (p : Past) (l : Rest) (t : Turn) (n : Option ℕ) → Alike p (choice (with_past p l t) n) (choice t n)
choice_alike p l t None = halted_alike p l t constraint (start t)
choice_alike p l t (Some n) = goes_alike p l t (waiting t) (start t) (Some n)

choose_alike : (p : Past) (l : Rest) (t : Turn) (c : Code) (choices : List Choice) → Alike p (choose (with_past p l t) c choices) (choose t c choices)
choose_alike p l t c choices = got_alike p l t (start t) (word (start t) c) _ _ (λ w. choice_alike p l t (chosen w choices))

left_alike : (p : Past) (l : Rest) (t : Turn) (c : Code) (or_else : Bool) (n decided : Option ℕ)
    → Alike p (evaluate_left (with_past p l t) c or_else n decided) (evaluate_left t c or_else n decided)
left_alike p l t c or_else n decided =
    got_alike p l t (start t) (word (start t) c) _ _
    (λ w. goes_alike p l t (truth_held w ∷ waiting t) (start t) (if is_zero w then (if or_else then n else decided) else (if or_else then decided else n)))

right_alike : (p : Past) (l : Rest) (t : Turn) (c : Code) (n : Option ℕ) → Alike p (evaluate_right (with_past p l t) c n) (evaluate_right t c n)
right_alike p l t c n =
    got_alike p l t (start t) (word (start t) c) _ _ (λ w. goes_alike p l t (truth_held w ∷ drop 1 (waiting t)) (start t) n)

-- ---- `for` loops

looped_alike : (p : Past) (l : Rest) (t : Turn) (at counter : ℕ) (v : ℤ) (loop : List ℤ) (n : Option ℕ)
    → Alike p (looped (with_past p l t) at counter v loop n) (looped t at counter v loop n)
looped_alike p l t at counter v loop n =
    got_alike p l t (start t) (and_then (put_words (start t) at (v ∷ [])) (λ m. put_words m counter loop)) _ _ (λ m. goes_alike p l t (waiting t) m n)

start_alike : (p : Past) (l : Rest) (t : Turn) (at counter : ℕ) (low high : Code) (first last : ℤ) (n : Option ℕ)
    → Alike p (start_loop (with_past p l t) at counter low high first last n) (start_loop t at counter low high first last n)
start_alike p l t at counter low high first last n =
    got_alike p l t (start t) (word (start t) low) _ _ (λ a. got_alike p l t (start t) (word (start t) high) _ _
    (λ b. if_alike p (int_le a b && not (is_between first last a && is_between first last b)) _ _ _ _ (halted_alike p l t constraint (start t))
    (looped_alike p l t at counter a (a ∷ b ∷ pos 1 ∷ []) n)))

turning_alike : (p : Past) (l : Rest) (t : Turn) (at counter : ℕ) (default : ℤ) (turn leave : Option ℕ) (low high : ℤ) (v : Option ℤ)
    → Alike p (turning (with_past p l t) at counter default turn leave low high v) (turning t at counter default turn leave low high v)
turning_alike p l t at counter default turn leave low high (Some v) = looped_alike p l t at counter v (low ∷ high ∷ pos 0 ∷ []) turn
turning_alike p l t at counter default turn leave low high None = looped_alike p l t at counter default (pos 1 ∷ pos 0 ∷ pos 1 ∷ []) leave

turn_alike : (p : Past) (l : Rest) (t : Turn) (at counter : ℕ) (reversed : Bool) (default : ℤ) (turn leave : Option ℕ)
    → Alike p (next_turn (with_past p l t) at counter reversed default turn leave) (next_turn t at counter reversed default turn leave)
turn_alike p l t at counter reversed default turn leave =
    got_alike p l t (start t) (stack_word t at) _ _ (λ v. got_alike p l t (start t) (stack_word t counter) _ _
    (λ low. got_alike p l t (start t) (stack_word t (counter + 1)) _ _ (λ high. got_alike p l t (start t) (stack_word t (counter + 2)) _ _
    (λ first. turning_alike p l t at counter default turn leave low high (next_value reversed low high first v)))))

-- ---- all points

done_also : (p : Past) (l : Rest) (t : Turn) (d : Does) → Also p (Done (with_past p l t) d) (Done t d)
done_also p l t (Go n) = just p _ _ (goes_alike p l t (waiting t) (start t) n)
done_also p l t (Put at v n) = after_alike p l t v _ _ (λ zs m. put_alike p l t at n zs m)
done_also p l t (Store q v k n) = after_alike p l t v _ _ (λ zs m. store_alike p l t q k n zs m)
done_also p l t (Assign q v of checks n) = after_alike p l t v _ _ (λ zs m. assign_alike p l t q of checks n zs m)
done_also p l t (Call sub actuals n) = call_alike p l t sub actuals n
done_also p l t (Output pieces line n) = just p _ _ (output_alike p l t pieces line n)
done_also p l t (Input q low high n) = just p _ _ (input_alike p l t q low high n)
done_also p l t (Release q of at n) = just p _ _ (release_alike p l t q of at n)
done_also p l t (Test c holds fails) = just p _ _ (test_alike p l t c holds fails)
done_also p l t (Choose c choices) = just p _ _ (choose_alike p l t c choices)
done_also p l t (Start at counter low high first last n) = just p _ _ (start_alike p l t at counter low high first last n)
done_also p l t (Next at counter reversed default turn leave) = just p _ _ (turn_alike p l t at counter reversed default turn leave)
done_also p l t (EvaluateLeft c or_else n decided) = just p _ _ (left_alike p l t c or_else n decided)
done_also p l t (EvaluateRight c n) = just p _ _ (right_alike p l t c n)
done_also p l t (Hold v of n) = hold_alike p l t v of n
done_also p l t (EndPointer at n) = just p _ _ (end_pointer_alike p l t at n)
done_also p l t (EndScope at of n) = just p _ _ (end_scope_alike p l t at of n)
done_also p l t Finish = just p _ _ (finish_alike p l t)
done_also p l t Fall = just p _ _ (halted_alike p l t (Raises ProgramError) (start t))

turned_also : (p : Past) (l : Rest) (c : Bool) (t : Turn) → Also p (Turned c (with_past p l t)) (Turned c t)
turned_also p l true t = done_also p l t t.point.does
turned_also p l false t = just p Wants Wants refl

stepped_also : (p : Past) (l : Rest) (table : Table) (program : Program) (input : List ℕ) (s : State) (f : Frame) (outer : List Frame) (q : Option Point)
    → Also p (SteppedAt table program input (shaded p l s) f outer q) (SteppedAt table program input s f outer q)
stepped_also p l table program input s f outer None = just p Fails Fails refl
stepped_also p l table program input s f outer (Some q) =
    turned_also p l (are_taken (turn_of table program input s f outer q)) (turn_of table program input s f outer q)

-- A state that is another one with what was there before goes on as that one does.
pub step_since : (p : Past) (c : Setting) (s g : State) (f : Frame) (outer : List Frame)
    → g.frames ≡ f ∷ outer → plain s ≡ since p g → Also p (OneStep c s) (OneStep c g)
step_since p c s g f outer frames same =
    let l : Rest = record { base = s.memory.base; waits = s.memory.waits; rest = s.memory.rest; moves = s.memory.moves } in
    let back : State → State = λ x. record x { memory = record x.memory { base = l.base; waits = l.waits; rest = l.rest; moves = l.moves } } in
    let is : s ≡ shaded p l g = ap back same in
    subst (λ x. Also p (Stepped c.table c.program c.input x x.frames) (OneStep c g)) (sym is)
    (subst (λ fs. Also p (Stepped c.table c.program c.input (shaded p l g) fs) (Stepped c.table c.program c.input g fs)) (sym frames)
    (stepped_also p l c.table c.program c.input g f outer (slice_get c.program.points f.next)))
