-- Where frames begin after a step over numbers, and whose they are.
use Rattle.std.proofs.Common.{◌≡◌, refl, sym, ap, ◌∙◌, subst, ℕ, zero, suc, ◌+◌, arith, Bool, true, false, not, ◌&&◌, nat_le, nat_lt, unsigned_abs, List, [], ◌∷◌, ◌++◌, length-append, take, drop, length, slice_get, Option, Some, None, ℤ, pos, if◌then◌else◌}
use Rattle.std.specs.Prelude.{int_le}
use Rattle.machine.specs.spark_base.declared.position.Pos.{Pos}
use Rattle.machine.specs.type_definitions.Types.{Table}
use Rattle.kept_cells.specs.run_values.declared.value.Kind.{Kind}
use Rattle.kept_cells.specs.run_values.declared.value.Kind.TheVariants as sort
use Rattle.kept_cells.specs.run_values.declared.items.Item.{Item}
use Rattle.kept_cells.specs.run_values.declared.items.Item.TheVariants as item
use Rattle.kept_cells.specs.run_values.Items.{next_item}
use Rattle.kept_cells.specs.Cells.{Cell}
use Rattle.machine.specs.Evaluate.{ProgramError, StorageError, DataError, EndError, Twice}
use Rattle.machine.specs.States.{Normal, Leak, stack_words}
use Rattle.run_codes.specs.Codes.{Code, Place, Fill, Actual, Sub, Point, Does, Go, Put, Store, Assign, Call, Output, Input, Release, Test, Choose, Start, Next, EvaluateLeft, EvaluateRight, Hold, EndPointer, EndScope, Finish, Fall}
use Rattle.run_codes.specs.Flat.{Flat, Got, Given, Stops, Broken, Stop, Raises, Traps, Memory, Made, Done, Halted, Failed, Spot, InCell, and_then, found, word, spot, stored, filled, kinds, constraint, default_words, is_between, most_cells, words_at, without_cell}
use Rattle.run_codes.specs.Points.{Held, Frame, Passed, State, Outcome, Goes, Ends, Fails, on_got, on_made, halted, start, waiting, after, goes, led, begun, leaking, leaking_goes, with_frame, frame_of, template, frames_words, sub_at, returns_of, out_leaks, with_formals, all_passed, copied_back, text, truth_held, next_value, given_to, put_words, in_stack, checked_at, leaks_at, leak, chosen}
use Rattle.run_codes.specs.Points as points
use Rattle.run_codes.specs.Programs.{Program}
use Rattle.handled_runs.proofs.Filled.{numbers_long}
use Rattle.handled_steps.specs.Alike.{frame_kinds, begun_kinds, left_kinds, led_kinds, got_kinds, stack_word, turn_next, tested, decided_by, kinds_after}
use Rattle.handled_steps.specs.Looks.{IsGoing, turn_of}
use Rattle.handled_steps.proofs.Tables.{template_numbers}
use Rattle.handled_steps.proofs.Passing.{all_passed_long}
use Rattle.handled_kinds.specs.Stacks.{stack_kinds, AreBased, begun_subs, left_subs, led_subs, got_subs, subs_after}
use Rattle.recycled_runs.proofs.Plain.{IsPlain}
use Rattle.std.proofs.lemmas.Bool.{false≢true}
use Rattle.recycled_runs.proofs.Parted.{is_going}

-- ---- steps that go on

module _ (t : points.Turn) where
  halts : (x : Stop) (m : Flat) (next : State) → halted t x m ≡ Goes next → ⊥
  halts (Raises e) m next e' = false≢true (ap is_going e')
  halts (Traps e) m next e' = false≢true (ap is_going e')
  halts Memory m next e' = false≢true (ap is_going e')

  got_goes : {A : Type 0} (m : Flat) (x : Got A) (F : A → Outcome) (next : State) → on_got t m x F ≡ Goes next → (a : A) × (x ≡ Given a) × (F a ≡ Goes next)
  got_goes m (Given a) F next e = (a, refl, e)
  got_goes m (Stops x) F next e = absurd (halts x m next e)
  got_goes m Broken F next e = absurd (false≢true (ap is_going e))

  made_goes : {A : Type 0} (x : Made A) (F : A → Flat → Outcome) (next : State) → on_made t x F ≡ Goes next → (a : A) × (m : Flat) × (x ≡ Done a m) × (F a m ≡ Goes next)
  made_goes (Done a m) F next e = (a, m, refl, e)
  made_goes (Halted x m) F next e = absurd (halts x m next e)
  made_goes Failed F next e = absurd (false≢true (ap is_going e))

goes_same : (s next : State) → Goes s ≡ Goes next → s ≡ next
goes_same s next e = cc

-- ---- one frame

pub frame_long : (table : Table) (sub : Sub) → length (template table sub) ≡ length (frame_kinds table sub)
frame_long table sub = sym (numbers_long (frame_kinds table sub) (template table sub) (template_numbers table sub))

module _ (table : Table) (p : Program) (input : List ℕ) (point : Point) (a : State) (f : Frame) where
  abbrev turn_with : List Frame → points.Turn
  turn_with fs = turn_of table p input a f fs point

  abbrev all : List ℕ → List Kind
  all ns = stack_kinds table p ns

  -- the main procedure begins after those that there are
  begun_based : (fs : List Frame) (ns : List ℕ) (g : Frame) (m : Flat) (main : Option ℕ) → AreBased table p ns (g ∷ [])
      → length (begun_kinds (turn_with fs) (all ns) main) ≡ length (begun (turn_with fs) g m main).memory.stack → AreBased table p (begun_subs ns main) (begun (turn_with fs) g m main).frames
  begun_based fs ns g m None based known = based
  begun_based fs ns g m (Some main) based known =
      let body : Sub = sub_at p main in
      let first = length-append (all ns) (frame_kinds table body) in
      let second = length-append m.stack (template table body) in
      let same = frame_long table body in
      (omega (arith, known, first, second, same), based)

  left_based : (fs : List Frame) (ns : List ℕ) (g : Frame) (m : Flat) → AreBased table p ns (g ∷ fs)
      → length (left_kinds (turn_with fs) (all ns) fs) ≡ length (led (turn_with fs) g m None).memory.stack → AreBased table p (left_subs (turn_with fs) ns fs) (led (turn_with fs) g m None).frames
  left_based [] ns g m based known = begun_based [] ns g m p.main based known
  left_based (h ∷ fs) ns g m based known = based

module _ (table : Table) (p : Program) (input : List ℕ) (point : Point) (a : State) (f : Frame) (fs : List Frame) (sub : ℕ) (rest : List ℕ) (based : AreBased table p (sub ∷ rest) (f ∷ fs)) where
  abbrev t : points.Turn
  t = turn_of table p input a f fs point

  abbrev ns : List ℕ
  ns = sub ∷ rest

  abbrev kinds_now : List Kind
  kinds_now = stack_kinds table p ns

  after_based : (ws : List Held) (m : Flat) (n : Option ℕ) → length (led_kinds t kinds_now n) ≡ length (after t ws m n).memory.stack → AreBased table p (led_subs t ns n) (after t ws m n).frames
  after_based ws m (Some n) known = based
  after_based ws m None known = left_based table p input point a f fs ns (record f { waits = ws }) m based known

  -- the same frames and memory
  as_after : (ws : List Held) (m : Flat) (n : Option ℕ) (s next : State) → s ≡ next → s.frames ≡ (after t ws m n).frames → s.memory ≡ (after t ws m n).memory
      → length (led_kinds t kinds_now n) ≡ length next.memory.stack → AreBased table p (led_subs t ns n) next.frames
  as_after ws m n s next same frames memory known =
      subst (AreBased table p (led_subs t ns n)) (sym frames ∙ ap (λ (x : State). x.frames) same)
      (after_based ws m n (known ∙ (ap (λ (x : State). length x.memory.stack) (sym same) ∙ ap (λ (x : Flat). length x.stack) memory)))

  went : (m : Flat) (n : Option ℕ) (next : State) → goes t m n ≡ Goes next → length (led_kinds t kinds_now n) ≡ length next.memory.stack → AreBased table p (led_subs t ns n) next.frames
  went m n next e known = as_after (waiting t) m n (after t (waiting t) m n) next (goes_same (after t (waiting t) m n) next e) refl refl known

  leaked : (leaks : List Leak) (m : Flat) (n : Option ℕ) (next : State) → leaking_goes t leaks m n ≡ Goes next → length (led_kinds t kinds_now n) ≡ length next.memory.stack → AreBased table p (led_subs t ns n) next.frames
  leaked leaks m n next e known = as_after (waiting t) m n (leaking leaks (after t (waiting t) m n)) next (goes_same (leaking leaks (after t (waiting t) m n)) next e) refl refl known

  abbrev Fits : Does → State → Type 0
  Fits d next = length (kinds_after t kinds_now d) ≡ length next.memory.stack → AreBased table p (subs_after t ns d) next.frames

  -- what follows is told by what is read
  told : (g : Got (Option ℕ)) (n : Option ℕ) (next : State) → g ≡ Given n → (length (led_kinds t kinds_now n) ≡ length next.memory.stack → AreBased table p (led_subs t ns n) next.frames)
      → length (got_kinds t kinds_now g) ≡ length next.memory.stack → AreBased table p (got_subs t ns g) next.frames
  told g n next is on = subst (λ x. length (got_kinds t kinds_now x) ≡ length next.memory.stack → AreBased table p (got_subs t ns x) next.frames) (sym is) on

  abbrev m : Flat
  m = start t

  looped : (at counter : ℕ) (v : ℤ) (loop : List ℤ) (n : Option ℕ) (next : State) → on_got t m (and_then (put_words m at (v ∷ [])) (λ k. put_words k counter loop)) (λ k. goes t k n) ≡ Goes next
      → length (led_kinds t kinds_now n) ≡ length next.memory.stack → AreBased table p (led_subs t ns n) next.frames
  looped at counter v loop n next e = let k = got_goes t m (and_then (put_words m at (v ∷ [])) (λ k. put_words k counter loop)) (λ k. goes t k n) next e in went k.0 n next k.2

  -- ---- points that are neither a call nor its end

  put_fits : (at : ℕ) (v : Fill) (n : Option ℕ) (next : State) → points.done t (Put at v n) ≡ Goes next → Fits (Put at v n) next
  put_fits at v n next e =
      let k = made_goes t (filled t.table v m) (λ zs m. on_got t m (put_words m at zs) (λ m. goes t m n)) next e in
      let g = got_goes t k.1 (put_words k.1 at k.0) (λ m. goes t m n) next k.3 in
      went g.0 n next g.2

  store_fits : (p : Place) (v : Fill) (k : Kind) (n : Option ℕ) (next : State) → points.done t (Store p v k n) ≡ Goes next → Fits (Store p v k n) next
  store_fits p v sort n next e =
      let k = made_goes t (filled t.table v m) (λ zs m. on_got t m (spot m p) (λ s. on_got t m (stored m s (sort ∷ []) zs) (λ m. goes t m n))) next e in
      let s = got_goes t k.1 (spot k.1 p) (λ s. on_got t k.1 (stored k.1 s (sort ∷ []) k.0) (λ m. goes t m n)) next k.3 in
      let g = got_goes t k.1 (stored k.1 s.0 (sort ∷ []) k.0) (λ m. goes t m n) next s.2 in
      went g.0 n next g.2

  assign_fits : (p : Place) (v : Fill) (of : ℕ) (checks : Option Pos) (n : Option ℕ) (next : State) → points.done t (Assign p v of checks n) ≡ Goes next → Fits (Assign p v of checks n) next
  assign_fits p v of checks n next e =
      let k = made_goes t (filled t.table v m)
      (λ zs m. on_got t m (spot m p) (λ s. on_got t m (checked_at t.table m s of checks) (λ leaks. on_got t m (stored m s (kinds t.table of) zs) (λ m. leaking_goes t leaks m n)))) next e in
      let s = got_goes t k.1 (spot k.1 p) (λ s. on_got t k.1 (checked_at t.table k.1 s of checks) (λ leaks. on_got t k.1 (stored k.1 s (kinds t.table of) k.0) (λ m. leaking_goes t leaks m n))) next k.3 in
      let l = got_goes t k.1 (checked_at t.table k.1 s.0 of checks) (λ leaks. on_got t k.1 (stored k.1 s.0 (kinds t.table of) k.0) (λ m. leaking_goes t leaks m n)) next s.2 in
      let g = got_goes t k.1 (stored k.1 s.0 (kinds t.table of) k.0) (λ m. leaking_goes t l.0 m n) next l.2 in
      leaked l.0 g.0 n next g.2

  abbrev writing : List ℕ → State → State
  writing bytes s = record s { output = s.output ++ bytes }

  output_fits : (pieces : _) (line : Bool) (n : Option ℕ) (next : State) → points.done t (Output pieces line n) ≡ Goes next → Fits (Output pieces line n) next
  output_fits pieces line n next e =
      let k = got_goes t m (text t.table m pieces) (λ bytes. Goes (writing (bytes ++ (if line then 10 ∷ [] else [])) (after t (waiting t) m n))) next e in
      as_after (waiting t) m n (writing (k.0 ++ (if line then 10 ∷ [] else [])) (after t (waiting t) m n)) next (goes_same (writing (k.0 ++ (if line then 10 ∷ [] else [])) (after t (waiting t) m n)) next k.2) refl refl

  abbrev reading : ℕ → State → State
  reading end s = record s { at = end }

  abbrev read_by : ℤ → ℤ → Option ℕ → Spot → Item → Outcome
  read_by low high n s item.Missing = halted t (Raises EndError) m
  read_by low high n s item.Bad = halted t (Raises DataError) m
  read_by low high n s (item.Number v end) =
      if is_between low high v then on_got t m (stored m s (sort.Int ∷ []) (v ∷ [])) (λ m. Goes (reading end (after t (waiting t) m n))) else halted t constraint m

  read_fits : (low high : ℤ) (n : Option ℕ) (s : Spot) (i : Item) (next : State) → read_by low high n s i ≡ Goes next
      → length (led_kinds t kinds_now n) ≡ length next.memory.stack → AreBased table p (led_subs t ns n) next.frames
  read_fits low high n s item.Missing next e = absurd (halts t (Raises EndError) m next e)
  read_fits low high n s item.Bad next e = absurd (halts t (Raises DataError) m next e)
  read_fits low high n s (item.Number v end) next e = by (is_between low high v) e
    where
      by : (b : Bool) → (if b then on_got t m (stored m s (sort.Int ∷ []) (v ∷ [])) (λ m. Goes (reading end (after t (waiting t) m n))) else halted t constraint m) ≡ Goes next
          → length (led_kinds t kinds_now n) ≡ length next.memory.stack → AreBased table p (led_subs t ns n) next.frames
      by true e =
          let g = got_goes t m (stored m s (sort.Int ∷ []) (v ∷ [])) (λ m. Goes (reading end (after t (waiting t) m n))) next e in
          as_after (waiting t) g.0 n (reading end (after t (waiting t) g.0 n)) next (goes_same (reading end (after t (waiting t) g.0 n)) next g.2) refl refl
      by false e = absurd (halts t constraint m next e)

  input_fits : (q : Place) (low high : ℤ) (n : Option ℕ) (next : State) → points.done t (Input q low high n) ≡ Goes next → Fits (Input q low high n) next
  input_fits q low high n next e =
      let s = got_goes t m (spot m q) (λ s. read_by low high n s (next_item t.input t.state.at)) next e in
      read_fits low high n s.0 (next_item t.input t.state.at) next s.2

  test_fits : (c : Code) (holds fails : Option ℕ) (next : State) → points.done t (Test c holds fails) ≡ Goes next → Fits (Test c holds fails) next
  test_fits c holds fails next e =
      let k = got_goes t m (word m c) (λ w. goes t m (tested holds fails w)) next e in
      told (and_then (word m c) (λ w. Given (tested holds fails w))) (tested holds fails k.0) next (ap (λ g. and_then g (λ w. Given (tested holds fails w))) k.1) (went m (tested holds fails k.0) next k.2)

  abbrev choose_by : Option ℕ → Outcome
  choose_by None = halted t constraint m
  choose_by (Some n) = goes t m (Some n)

  choose_fits : (c : Code) (choices : _) (next : State) → points.done t (Choose c choices) ≡ Goes next → Fits (Choose c choices) next
  choose_fits c choices next e = let k = got_goes t m (word m c) (λ w. choose_by (chosen w choices)) next e in by (chosen k.0 choices) k.2
    where
      by : (x : Option ℕ) → choose_by x ≡ Goes next → Fits (Choose c choices) next
      by None e = absurd (halts t constraint m next e)
      by (Some n) e = went m (Some n) next e

  abbrev start_by : ℕ → ℕ → ℤ → ℤ → Option ℕ → ℤ → ℤ → Outcome
  start_by at counter first last n a b =
      if int_le a b && not (is_between first last a && is_between first last b) then halted t constraint m
      else on_got t m (and_then (put_words m at (a ∷ [])) (λ m. put_words m counter (a ∷ b ∷ pos 1 ∷ []))) (λ m. goes t m n)

  start_fits : (at counter : ℕ) (low high : Code) (first last : ℤ) (n : Option ℕ) (next : State) → points.done t (Start at counter low high first last n) ≡ Goes next
      → Fits (Start at counter low high first last n) next
  start_fits at counter low high first last n next e =
      let a = got_goes t m (word m low) (λ a. on_got t m (word m high) (λ b. start_by at counter first last n a b)) next e in
      let b = got_goes t m (word m high) (λ b. start_by at counter first last n a.0 b) next a.2 in
      by a.0 b.0 (int_le a.0 b.0 && not (is_between first last a.0 && is_between first last b.0)) b.2
    where
      by : (a b : ℤ) (x : Bool) → (if x then halted t constraint m else on_got t m (and_then (put_words m at (a ∷ [])) (λ m. put_words m counter (a ∷ b ∷ pos 1 ∷ []))) (λ m. goes t m n)) ≡ Goes next
          → Fits (Start at counter low high first last n) next
      by a b true e = absurd (halts t constraint m next e)
      by a b false e = looped at counter a (a ∷ b ∷ pos 1 ∷ []) n next e

  abbrev turn_by : ℕ → ℕ → ℤ → Option ℕ → Option ℕ → ℤ → ℤ → Option ℤ → Outcome
  turn_by at counter default turn leave low high (Some v) = on_got t m (and_then (put_words m at (v ∷ [])) (λ m. put_words m counter (low ∷ high ∷ pos 0 ∷ []))) (λ m. goes t m turn)
  turn_by at counter default turn leave low high None = on_got t m (and_then (put_words m at (default ∷ [])) (λ m. put_words m counter (pos 1 ∷ pos 0 ∷ pos 1 ∷ []))) (λ m. goes t m leave)

  turn_fits : (at counter : ℕ) (default : ℤ) (turn leave : Option ℕ) (low high : ℤ) (x : Option ℤ) (next : State) → turn_by at counter default turn leave low high x ≡ Goes next
      → length (led_kinds t kinds_now (turn_next turn leave x)) ≡ length next.memory.stack → AreBased table p (led_subs t ns (turn_next turn leave x)) next.frames
  turn_fits at counter default turn leave low high (Some v) next e = looped at counter v (low ∷ high ∷ pos 0 ∷ []) turn next e
  turn_fits at counter default turn leave low high None next e = looped at counter default (pos 1 ∷ pos 0 ∷ pos 1 ∷ []) leave next e

  next_fits : (at counter : ℕ) (reversed : Bool) (default : ℤ) (turn leave : Option ℕ) (next : State) → points.done t (Next at counter reversed default turn leave) ≡ Goes next
      → Fits (Next at counter reversed default turn leave) next
  next_fits at counter reversed default turn leave next e =
      let read : ℤ → ℤ → ℤ → ℤ → Outcome = λ v low high first. turn_by at counter default turn leave low high (next_value reversed low high first v) in
      let v = got_goes t m (stack_word t at) (λ v. on_got t m (stack_word t counter) (λ low. on_got t m (stack_word t (counter + 1)) (λ high. on_got t m (stack_word t (counter + 2)) (λ first. read v low high first)))) next e in
      let low = got_goes t m (stack_word t counter) (λ low. on_got t m (stack_word t (counter + 1)) (λ high. on_got t m (stack_word t (counter + 2)) (λ first. read v.0 low high first))) next v.2 in
      let high = got_goes t m (stack_word t (counter + 1)) (λ high. on_got t m (stack_word t (counter + 2)) (λ first. read v.0 low.0 high first)) next low.2 in
      let first = got_goes t m (stack_word t (counter + 2)) (λ first. read v.0 low.0 high.0 first) next high.2 in
      let value : Option ℤ = next_value reversed low.0 high.0 first.0 v.0 in
      let all : Got ℤ → Got ℤ → Got ℤ → Got ℤ → Got (Option ℕ) = λ a b c d. and_then a (λ v. and_then b (λ low. and_then c (λ high. and_then d (λ first. Given (turn_next turn leave (next_value reversed low high first v)))))) in
      told (all (stack_word t at) (stack_word t counter) (stack_word t (counter + 1)) (stack_word t (counter + 2))) (turn_next turn leave value) next
      (ap (λ a. all a (stack_word t counter) (stack_word t (counter + 1)) (stack_word t (counter + 2))) v.1 ∙ (ap (λ b. all (Given v.0) b (stack_word t (counter + 1)) (stack_word t (counter + 2))) low.1
      ∙ (ap (λ c. all (Given v.0) (Given low.0) c (stack_word t (counter + 2))) high.1 ∙ ap (λ d. all (Given v.0) (Given low.0) (Given high.0) d) first.1)))
      (turn_fits at counter default turn leave low.0 high.0 value next first.2)

  left_fits : (c : Code) (or_else : Bool) (n decided : Option ℕ) (next : State) → points.done t (EvaluateLeft c or_else n decided) ≡ Goes next → Fits (EvaluateLeft c or_else n decided) next
  left_fits c or_else n decided next e =
      let k = got_goes t m (word m c) (λ w. Goes (after t (truth_held w ∷ waiting t) m (decided_by or_else n decided w))) next e in
      let on : Option ℕ = decided_by or_else n decided k.0 in
      let s : State = after t (truth_held k.0 ∷ waiting t) m on in
      told (and_then (word m c) (λ w. Given (decided_by or_else n decided w))) on next (ap (λ g. and_then g (λ w. Given (decided_by or_else n decided w))) k.1)
      (as_after (truth_held k.0 ∷ waiting t) m on s next (goes_same s next k.2) refl refl)

  right_fits : (c : Code) (n : Option ℕ) (next : State) → points.done t (EvaluateRight c n) ≡ Goes next → Fits (EvaluateRight c n) next
  right_fits c n next e =
      let k = got_goes t m (word m c) (λ w. Goes (after t (truth_held w ∷ drop 1 (waiting t)) m n)) next e in
      let s : State = after t (truth_held k.0 ∷ drop 1 (waiting t)) m n in
      as_after (truth_held k.0 ∷ drop 1 (waiting t)) m n s next (goes_same s next k.2) refl refl

  pointer_fits : (at : ℕ) (n : Option ℕ) (next : State) → points.done t (EndPointer at n) ≡ Goes next → Fits (EndPointer at n) next
  pointer_fits at n next e =
      let w = got_goes t m (found (slice_get m.stack (f.base + at))) (λ w. on_got t m (put_words m at (pos 0 ∷ [])) (λ k. leaking_goes t (leak t.point.pos w) k n)) next e in
      let g = got_goes t m (put_words m at (pos 0 ∷ [])) (λ k. leaking_goes t (leak t.point.pos w.0) k n) next w.2 in
      leaked (leak t.point.pos w.0) g.0 n next g.2

  scope_fits : (at of : ℕ) (n : Option ℕ) (next : State) → points.done t (EndScope at of n) ≡ Goes next → Fits (EndScope at of n) next
  scope_fits at of n next e =
      let l = got_goes t m (leaks_at t.table m (in_stack m at) of t.point.pos) (λ leaks. on_got t m (put_words m at (default_words t.table of)) (λ k. leaking_goes t leaks k n)) next e in
      let g = got_goes t m (put_words m at (default_words t.table of)) (λ k. leaking_goes t l.0 k n) next l.2 in
      leaked l.0 g.0 n next g.2

  abbrev freeing : ℕ → Pos → Option ℕ → Spot → ℕ → Cell → Outcome
  freeing of at n s k c =
      if c.freed then halted t (Traps Twice) m
      else on_got t m (leaks_at t.table m (InCell k 0) of at)
      (λ leaks. on_got t m (stored m s (sort.Access ∷ []) (pos 0 ∷ [])) (λ m. leaking_goes t leaks (without_cell m k (length c.words)) n))

  abbrev of_cell : ℕ → Pos → Option ℕ → Spot → ℕ → Option Cell → Outcome
  of_cell of at n s k None = points.Fails
  of_cell of at n s k (Some c) = if nat_lt k most_cells then freeing of at n s k c else points.Fails

  abbrev released : ℕ → Pos → Option ℕ → Spot → ℕ → Outcome
  released of at n s zero = goes t m n
  released of at n s (suc k) = of_cell of at n s k (slice_get m.cells k)

  abbrev released_by : ℕ → Pos → Option ℕ → Spot → List ℤ → Outcome
  released_by of at n s (w ∷ []) = released of at n s (unsigned_abs w)
  released_by of at n s _ = points.Fails

  abbrev Goes_on : Option ℕ → State → Type 0
  Goes_on n next = length (led_kinds t kinds_now n) ≡ length next.memory.stack → AreBased table p (led_subs t ns n) next.frames

  freeing_fits : (of : ℕ) (at : Pos) (n : Option ℕ) (s : Spot) (k : ℕ) (c : Cell) (next : State) → freeing of at n s k c ≡ Goes next → Goes_on n next
  freeing_fits of at n s k c next e = by c.freed e
    where
      by : (b : Bool) → (if b then halted t (Traps Twice) m
          else on_got t m (leaks_at t.table m (InCell k 0) of at) (λ leaks. on_got t m (stored m s (sort.Access ∷ []) (pos 0 ∷ [])) (λ m. leaking_goes t leaks (without_cell m k (length c.words)) n))) ≡ Goes next → Goes_on n next
      by true e = absurd (halts t (Traps Twice) m next e)
      by false e =
          let l = got_goes t m (leaks_at t.table m (InCell k 0) of at) (λ leaks. on_got t m (stored m s (sort.Access ∷ []) (pos 0 ∷ [])) (λ m. leaking_goes t leaks (without_cell m k (length c.words)) n)) next e in
          let g = got_goes t m (stored m s (sort.Access ∷ []) (pos 0 ∷ [])) (λ m. leaking_goes t l.0 (without_cell m k (length c.words)) n) next l.2 in
          leaked l.0 (without_cell g.0 k (length c.words)) n next g.2

  of_cell_fits : (of : ℕ) (at : Pos) (n : Option ℕ) (s : Spot) (k : ℕ) (c : Option Cell) (next : State) → of_cell of at n s k c ≡ Goes next → Goes_on n next
  of_cell_fits of at n s k None next e = absurd (false≢true (ap is_going e))
  of_cell_fits of at n s k (Some c) next e = by (nat_lt k most_cells) e
    where
      by : (b : Bool) → (if b then freeing of at n s k c else points.Fails) ≡ Goes next → Goes_on n next
      by true e = freeing_fits of at n s k c next e
      by false e = absurd (false≢true (ap is_going e))

  released_fits : (of : ℕ) (at : Pos) (n : Option ℕ) (s : Spot) (k : ℕ) (next : State) → released of at n s k ≡ Goes next → Goes_on n next
  released_fits of at n s zero next e = went m n next e
  released_fits of at n s (suc k) next e = of_cell_fits of at n s k (slice_get m.cells k) next e

  released_by_fits : (of : ℕ) (at : Pos) (n : Option ℕ) (s : Spot) (zs : List ℤ) (next : State) → released_by of at n s zs ≡ Goes next → Goes_on n next
  released_by_fits of at n s [] next e = absurd (false≢true (ap is_going e))
  released_by_fits of at n s (w ∷ []) next e = released_fits of at n s (unsigned_abs w) next e
  released_by_fits of at n s (w ∷ v ∷ ws) next e = absurd (false≢true (ap is_going e))

  release_fits : (q : Place) (of : ℕ) (at : Pos) (n : Option ℕ) (next : State) → points.done t (Release q of at n) ≡ Goes next → Fits (Release q of at n) next
  release_fits q of at n next e =
      let s = got_goes t m (spot m q) (λ s. on_got t m (words_at m s (sort.Access ∷ [])) (λ zs. released_by of at n s zs)) next e in
      let zs = got_goes t m (words_at m s.0 (sort.Access ∷ [])) (λ zs. released_by of at n s.0 zs) next s.2 in
      released_by_fits of at n s.0 zs.0 next zs.2

  given_based : (v : Held) (ks : List ℕ) (gs : List Frame) → AreBased table p ks gs → AreBased table p ks (given_to v gs)
  given_based v [] [] based = tt
  given_based v [] (g ∷ gs) based = absurd based
  given_based v (k ∷ ks) [] based = absurd based
  given_based v (k ∷ ks) (g ∷ gs) based = based

  hold_fits : (v : Fill) (of : ℕ) (n : Option ℕ) (next : State) → points.done t (Hold v of n) ≡ Goes next → Fits (Hold v of n) next
  hold_fits v of None next e known = absurd (false≢true (ap is_going e))
  hold_fits v of (Some n) next e known =
      let k = made_goes t (filled t.table v m) (λ zs m. Goes (holds zs m)) next e in
      subst (λ (x : State). AreBased table p ns x.frames) (goes_same (holds k.0 k.1) next k.3) (based.0, given_based (record { of = of; words = k.0 }) rest fs based.1)
    where
      holds : List ℤ → Flat → State
      holds zs m = points.counted (record t.state { memory = m; frames = record t.frame { waits = waiting t; next = n } ∷ given_to (record { of = of; words = zs }) t.outer })

  pub plain_based : (d : Does) → IsPlain d → (next : State) → points.done t d ≡ Goes next → Fits d next
  plain_based (Go n) plain next e = went m n next e
  plain_based (Put at v n) plain next e = put_fits at v n next e
  plain_based (Store q v k n) plain next e = store_fits q v k n next e
  plain_based (Assign q v of checks n) plain next e = assign_fits q v of checks n next e
  plain_based (Call callee actuals n) plain next e = absurd plain
  plain_based (Output pieces line n) plain next e = output_fits pieces line n next e
  plain_based (Input q low high n) plain next e = input_fits q low high n next e
  plain_based (Release q of at n) plain next e = release_fits q of at n next e
  plain_based (Test c holds fails) plain next e = test_fits c holds fails next e
  plain_based (Choose c choices) plain next e = choose_fits c choices next e
  plain_based (Start at counter low high first last n) plain next e = start_fits at counter low high first last n next e
  plain_based (Next at counter reversed default turn leave) plain next e = next_fits at counter reversed default turn leave next e
  plain_based (EvaluateLeft c or_else n decided) plain next e = left_fits c or_else n decided next e
  plain_based (EvaluateRight c n) plain next e = right_fits c n next e
  plain_based (Hold v of n) plain next e = hold_fits v of n next e
  plain_based (EndPointer at n) plain next e = pointer_fits at n next e
  plain_based (EndScope at of n) plain next e = scope_fits at of n next e
  plain_based Finish plain next e = absurd plain
  plain_based Fall plain next e = absurd (halts t (Raises ProgramError) m next e)

  -- ---- calls and their ends

  pub finish_based : (next : State) → points.done t Finish ≡ Goes next → Fits Finish next
  finish_based next e known =
      let k = made_goes t (copied_back t.table f.returns m) (λ g m. left_by fs (record g { stack = take f.base g.stack })) next e in
      by fs based.1 (record k.0 { stack = take f.base k.0.stack }) k.3
    where
      left_by : List Frame → Flat → Outcome
      left_by (outer ∷ []) m = points.Ends Normal (points.counted (record a { memory = m; frames = outer ∷ [] }))
      left_by outer m = Goes (points.counted (record a { memory = m; frames = outer }))

      by : (gs : List Frame) → AreBased table p rest gs → (k : Flat) → left_by gs k ≡ Goes next → AreBased table p rest next.frames
      by [] based k e = subst (λ (x : State). AreBased table p rest x.frames) (goes_same (points.counted (record a { memory = k; frames = [] })) next e) based
      by (g ∷ []) based k e = absurd (false≢true (ap is_going e))
      by (g ∷ h ∷ gs) based k e = subst (λ (x : State). AreBased table p rest x.frames) (goes_same (points.counted (record a { memory = k; frames = g ∷ h ∷ gs })) next e) based

  -- the callee's frame begins where the stack ends as the point begins
  pub call_based : (callee : ℕ) (actuals : List Actual) (n : Option ℕ) → IsGoing n → length kinds_now ≡ length a.memory.stack
      → (next : State) → points.done t (Call callee actuals n) ≡ Goes next → Fits (Call callee actuals n) next
  call_based callee actuals None going before next e known = absurd going
  call_based callee actuals (Some n) going before next e known =
      let k = made_goes t (all_passed t.table actuals m) (λ ps m. entered_by ps m) next e in
      by k.0 k.1 (sym (all_passed_long table actuals m k.0 k.1 k.2)) (nat_le (frames_words (frame_of k.1 body [] ∷ f ∷ fs)) stack_words) k.3
    where
      body : Sub
      body = sub_at p callee

      begins : List Passed → Flat → List Leak → Flat → State
      begins ps m leaks g = let s : State = leaking leaks (after t (waiting t) g (Some n)) in record s { frames = frame_of m body (returns_of t.table 0 body.formals ps) ∷ s.frames }

      rest_of : List Passed → Flat → Outcome
      rest_of ps m = on_got t m (out_leaks t.table m ps) (λ leaks. on_got t m (with_formals t.table (length m.stack) body.formals ps (with_frame t.table body m)) (λ g. Goes (begins ps m leaks g)))

      entered_by : List Passed → Flat → Outcome
      entered_by ps m = if nat_le (frames_words (frame_of m body [] ∷ f ∷ fs)) stack_words then rest_of ps m else halted t (Raises StorageError) m

      by : (ps : List Passed) (k : Flat) → length a.memory.stack ≡ length k.stack → (b : Bool) → (if b then rest_of ps k else halted t (Raises StorageError) k) ≡ Goes next
          → AreBased table p (callee ∷ ns) next.frames
      by ps k long true e =
          let l = got_goes t k (out_leaks t.table k ps) (λ leaks. on_got t k (with_formals t.table (length k.stack) body.formals ps (with_frame t.table body k)) (λ g. Goes (begins ps k leaks g))) next e in
          let g = got_goes t k (with_formals t.table (length k.stack) body.formals ps (with_frame t.table body k)) (λ g. Goes (begins ps k l.0 g)) next l.2 in
          subst (λ (x : State). AreBased table p (callee ∷ ns) x.frames) (goes_same (begins ps k l.0 g.0) next g.2) (sym (before ∙ long), based)
      by ps k long false e = absurd (halts t (Raises StorageError) k next e)
