-- A step that ends a run leaves the cells of the heap as they were.
use Rattle.std.proofs.Common.{◌≡◌, refl, sym, subst, ℕ, ◌+◌, Bool, true, false, not, ◌&&◌, nat_le, List, [], ◌∷◌, ◌++◌, take, drop, length, slice_get, Option, Some, None, ℤ, pos, if◌then◌else◌}
use Rattle.std.specs.Prelude.{int_le}
use Rattle.machine.specs.type_definitions.Types.{Table}
use Rattle.kept_cells.specs.run_values.declared.value.Kind.{Kind}
use Rattle.kept_cells.specs.run_values.declared.value.Kind.TheVariants as sort
use Rattle.kept_cells.specs.run_values.declared.items.Item.{Item}
use Rattle.kept_cells.specs.run_values.declared.items.Item.TheVariants as item
use Rattle.kept_cells.specs.run_values.Items.{next_item}
use Rattle.machine.specs.Evaluate.{StorageError}
use Rattle.machine.specs.States.{Leak, stack_words}
use Rattle.numbered_cells.specs.slot_heap.Heaps.{Cell}
use Rattle.run_codes.specs.Codes.{Fill, Place, Does, Go, Put, Store, Assign, Call, Output, Input, Release, Test, Choose, Start, Next, EvaluateLeft, EvaluateRight, Hold, EndPointer, EndScope, Finish, Fall, Point, Sub}
use Rattle.run_codes.specs.Flat.{Got, Given, Stops, Broken, Stop, Raises, Traps, Memory, and_then, found, kinds, constraint, default_words, is_between, is_zero, Spot}
use Rattle.run_codes.specs.Points.{Return, Frame, Passed, fits, frames_words, sub_at, chosen, truth_held, given_to, next_value}
use Rattle.run_codes.specs.Programs.{Program}
use Rattle.handled_runs.specs.Slots.{Slots, word, spot, held}
use Rattle.handled_runs.specs.Changes.{with_stack, stored, settled}
use Rattle.handled_runs.specs.Values as values
use Rattle.handled_runs.specs.Leaks.{leak, leaks_at}
use Rattle.handled_runs.specs.Assigned.{Left, assigned}
use Rattle.handled_runs.specs.Released.{released}
use Rattle.handled_steps.specs.States.{State, Outcome, Goes, Ends, Wants, Fails, Turn, waiting, are_taken, start, counted, halted, on_got, on_made, with_frame, frame_of, after, goes, leaking_goes}
use Rattle.handled_steps.specs.Steps.{on_settled, put_words, in_stack, After, put, store, assign, left_goes, Passing, Passes, Stopping, Failing, out_leaks, with_formals, begins, begun_with, entered, on_passed, copied_back, returned, holding, Holds, text, writing, reading, read, choice, looped, loop_started, stack_word, turning, Done, Turned, turn_of, SteppedAt, Stepped}

-- The frame over that of the package objects copies nothing back.
abbrev pub CopiesNone : List Frame → Type 0
CopiesNone (f ∷ g ∷ []) = f.returns ≡ []
CopiesNone _ = Unit {0}

abbrev pub Leaves : List Cell → Outcome → Type 0
Leaves before (Goes s) = Unit {0}
Leaves before (Ends e s) = s.memory.heap.cells ≡ before
Leaves before Wants = Unit {0}
Leaves before Fails = Unit {0}

module _ (t : Turn) where
  abbrev Leave : Outcome → Type 0
  Leave r = Leaves t.state.memory.heap.cells r

  halted_leaves : (x : Stop) (s : Slots) → Leave (halted t x s)
  halted_leaves (Raises e) s = refl
  halted_leaves (Traps e) s = refl
  halted_leaves Memory s = tt

  got_leaves : {A : Type 0} (s : Slots) (g : Got A) (f : A → Outcome) → ((a : A) → Leave (f a)) → Leave (on_got t s g f)
  got_leaves s (Given a) f on = on a
  got_leaves s (Stops x) f on = halted_leaves x s
  got_leaves s Broken f on = tt

  made_leaves : (g : values.Outcome) (f : List ℤ → Slots → Outcome) → ((zs : List ℤ) (s : Slots) → Leave (f zs s)) → Leave (on_made t g f)
  made_leaves (values.Gives zs s) f on = on zs s
  made_leaves (values.Ends x s) f on = halted_leaves x s
  made_leaves values.Fails f on = tt

  after_leaves : (v : Fill) (f : List ℤ → Slots → Outcome) (r : Outcome) → After t v f r → ((zs : List ℤ) (s : Slots) → Leave (f zs s)) → Leave r
  after_leaves v f r (g, fills, so) on = subst Leave (sym so) (made_leaves g f on)

  -- ---- stores

  put_leaves : (at : ℕ) (n : Option ℕ) (zs : List ℤ) (s : Slots) → Leave (put t at n zs s)
  put_leaves at n zs s = got_leaves s (settled s) (λ j. on_got t j (put_words j at zs) (λ k. goes t k n)) (λ j. got_leaves j (put_words j at zs) (λ k. goes t k n) (λ k. tt))

  store_leaves : (p : Place) (k : Kind) (n : Option ℕ) (zs : List ℤ) (s : Slots) → Leave (store t p k n zs s)
  store_leaves p k n zs s =
      got_leaves s (spot s p) (λ q. on_settled t s (λ j. on_got t j (stored j q (k ∷ []) zs) (λ l. goes t l n)))
      (λ q. got_leaves s (settled s) (λ j. on_got t j (stored j q (k ∷ []) zs) (λ l. goes t l n)) (λ j. got_leaves j (stored j q (k ∷ []) zs) (λ l. goes t l n) (λ l. tt)))

  left_leaves : (n : Option ℕ) (s : Slots) (g : Got (Left Slots)) → Leave (on_got t s g (left_goes t n))
  left_leaves n s g = got_leaves s g (left_goes t n) (λ l. tt)

  looped_leaves : (at counter : ℕ) (v : ℤ) (loop : List ℤ) (n : Option ℕ) → Leave (looped t at counter v loop n)
  looped_leaves at counter v loop n = got_leaves (start t) (and_then (put_words (start t) at (v ∷ [])) (λ m. put_words m counter loop)) (λ m. goes t m n) (λ m. tt)

  started_leaves : (at counter : ℕ) (first last a b : ℤ) (n : Option ℕ) → Leave (loop_started t at counter first last n a b)
  started_leaves at counter first last a b n = by (int_le a b && not (is_between first last a && is_between first last b))
    where
      by : (c : Bool) → Leave (if c then halted t constraint (start t) else looped t at counter a (a ∷ b ∷ pos 1 ∷ []) n)
      by true = refl
      by false = looped_leaves at counter a (a ∷ b ∷ pos 1 ∷ []) n

  turning_leaves : (at counter : ℕ) (default low high : ℤ) (turn leave : Option ℕ) (x : Option ℤ) → Leave (turning t at counter default turn leave low high x)
  turning_leaves at counter default low high turn leave (Some v) = looped_leaves at counter v (low ∷ high ∷ pos 0 ∷ []) turn
  turning_leaves at counter default low high turn leave None = looped_leaves at counter default (pos 1 ∷ pos 0 ∷ pos 1 ∷ []) leave

  read_leaves : (low high : ℤ) (n : Option ℕ) (q : Spot) (i : Item) → Leave (read t low high n q i)
  read_leaves low high n q item.Missing = refl
  read_leaves low high n q item.Bad = refl
  read_leaves low high n q (item.Number v end) = by (is_between low high v)
    where
      by : (c : Bool) → Leave (if c then on_got t (start t) (stored (start t) q (sort.Int ∷ []) (v ∷ [])) (λ m. Goes (reading end (after t (waiting t) m n))) else halted t constraint (start t))
      by true = got_leaves (start t) (stored (start t) q (sort.Int ∷ []) (v ∷ [])) (λ m. Goes (reading end (after t (waiting t) m n))) (λ m. tt)
      by false = refl

  choice_leaves : (n : Option ℕ) → Leave (choice t n)
  choice_leaves None = refl
  choice_leaves (Some n) = tt

  hold_leaves : (v : Fill) (of : ℕ) (n : Option ℕ) (r : Outcome) → Holds t v of n r → Leave r
  hold_leaves v of None r so = subst Leave (sym so) tt
  hold_leaves v of (Some n) r so = after_leaves v (holding t of n) r so
      (λ zs i. got_leaves i (settled i)
      (λ s. Goes (counted (record t.state { memory = s; frames = record t.frame { waits = waiting t; next = n } ∷ given_to (record { of = of; words = zs }) t.outer }))) (λ j. tt))

  -- ---- calls and their ends

  entered_leaves : (sub : Sub) (n : Option ℕ) (passed : List Passed) (s : Slots) → Leave (entered t sub n passed s)
  entered_leaves sub n passed s = by (nat_le (frames_words (frame_of s sub [] ∷ t.frame ∷ t.outer)) stack_words)
    where
      formals : (leaks : List Leak) → Leave (on_got t s (with_formals t.table (length s.stack) sub.formals passed (with_frame t.table sub s)) (begun_with t sub passed s n leaks))
      formals leaks =
          got_leaves s (with_formals t.table (length s.stack) sub.formals passed (with_frame t.table sub s)) (begun_with t sub passed s n leaks)
          (λ f. got_leaves f (settled f) (λ f. Goes (begins t sub passed s n leaks f)) (λ k. tt))

      by : (b : Bool)
          → Leave (if b
          then on_settled t s (λ k. on_got t s (out_leaks t.table k passed)
          (λ leaks. on_got t s (with_formals t.table (length s.stack) sub.formals passed (with_frame t.table sub s)) (begun_with t sub passed s n leaks)))
          else halted t (Raises StorageError) s)
      by true =
          got_leaves s (settled s)
          (λ k. on_got t s (out_leaks t.table k passed) (λ leaks. on_got t s (with_formals t.table (length s.stack) sub.formals passed (with_frame t.table sub s)) (begun_with t sub passed s n leaks)))
          (λ k. got_leaves s (out_leaks t.table k passed) (λ leaks. on_got t s (with_formals t.table (length s.stack) sub.formals passed (with_frame t.table sub s)) (begun_with t sub passed s n leaks)) formals)
      by false = refl

  passed_leaves : (sub : Sub) (n : Option ℕ) (g : Passing) → Leave (on_passed t g (entered t sub n))
  passed_leaves sub n (Passes passed s) = entered_leaves sub n passed s
  passed_leaves sub n (Stopping x s) = halted_leaves x s
  passed_leaves sub n Failing = tt

  copied_leaves : (rs : List Return) (s : Slots) (f : Slots → Outcome) → ((k : Slots) → Leave (f k)) → Leave (copied_back t rs s f)
  copied_leaves [] s f on = on s
  copied_leaves (r ∷ rs) s f on =
      got_leaves s (held s (in_stack s r.at) (kinds t.table r.from))
      (λ zs. if fits t.table r.of zs then on_got t s (stored s r.to (kinds t.table r.of) zs) (λ n. copied_back t rs n f) else halted t constraint s)
      (λ zs. by zs (fits t.table r.of zs) (λ n. copied_leaves rs n f on))
    where
      by : (zs : List ℤ) (b : Bool) → ((n : Slots) → Leave (copied_back t rs n f))
          → Leave (if b then on_got t s (stored s r.to (kinds t.table r.of) zs) (λ n. copied_back t rs n f) else halted t constraint s)
      by zs true next = got_leaves s (stored s r.to (kinds t.table r.of) zs) (λ n. copied_back t rs n f) next
      by zs false next = refl

  abbrev given_back : List Frame → Slots → Outcome
  given_back outer f = returned t outer (with_stack f (take t.frame.base f.stack))

  finish_leaves : (outer : List Frame) → CopiesNone (t.frame ∷ outer) → Leave (copied_back t t.frame.returns (start t) (given_back outer))
  finish_leaves [] none = copied_leaves t.frame.returns (start t) (given_back []) (λ k. tt)
  finish_leaves (f ∷ []) none = subst (λ (rs : List Return). Leave (copied_back t rs (start t) (given_back (f ∷ [])))) (sym none) refl
  finish_leaves (f ∷ g ∷ rest) none = copied_leaves t.frame.returns (start t) (given_back (f ∷ g ∷ rest)) (λ k. tt)

  -- ---- all points

  word_leaves : {A : Type 0} (g : Got A) (f : A → Outcome) → ((a : A) → Leave (f a)) → Leave (on_got t (start t) g f)
  word_leaves g f on = got_leaves (start t) g f on

  put_leaking : (at : ℕ) (zs : List ℤ) (leaks : List Leak) (n : Option ℕ) → Leave (on_got t (start t) (put_words (start t) at zs) (λ m. leaking_goes t leaks m n))
  put_leaking at zs leaks n = word_leaves (put_words (start t) at zs) (λ m. leaking_goes t leaks m n) (λ k. tt)

  done_leaves : CopiesNone (t.frame ∷ t.outer) → (d : Does) (r : Outcome) → Done t d r → Leave r
  done_leaves none (Go n) r so = subst Leave (sym so) tt
  done_leaves none (Put at v n) r so = after_leaves v (put t at n) r so (put_leaves at n)
  done_leaves none (Store p v k n) r so = after_leaves v (store t p k n) r so (store_leaves p k n)
  done_leaves none (Assign p v of checks n) r so = after_leaves v (assign t p of checks n) r so (λ zs i. left_leaves n i (assigned t.table p of checks zs i))
  done_leaves none (Call sub actuals n) r (g, passes, so) = subst Leave (sym so) (passed_leaves (sub_at t.program sub) n g)
  done_leaves none (Output pieces line n) r so =
      subst Leave (sym so)
      (word_leaves (text t.table (start t) pieces) (λ bytes. Goes (writing (bytes ++ (if line then 10 ∷ [] else [])) (after t (waiting t) (start t) n))) (λ bytes. tt))
  done_leaves none (Input p low high n) r so =
      subst Leave (sym so) (word_leaves (spot (start t) p) (λ q. read t low high n q (next_item t.input t.state.at)) (λ q. read_leaves low high n q (next_item t.input t.state.at)))
  done_leaves none (Release p of at n) r so = subst Leave (sym so) (left_leaves n (start t) (released t.table p of at (start t)))
  done_leaves none (Test c holds fails) r so = subst Leave (sym so) (word_leaves (word (start t) c) (λ w. goes t (start t) (if is_zero w then fails else holds)) (λ w. tt))
  done_leaves none (Choose c choices) r so = subst Leave (sym so) (word_leaves (word (start t) c) (λ w. choice t (chosen w choices)) (λ w. choice_leaves (chosen w choices)))
  done_leaves none (Start at counter low high first last n) r so =
      subst Leave (sym so)
      (word_leaves (word (start t) low) (λ a. on_got t (start t) (word (start t) high) (λ b. loop_started t at counter first last n a b))
      (λ a. word_leaves (word (start t) high) (λ b. loop_started t at counter first last n a b) (λ b. started_leaves at counter first last a b n)))
  done_leaves none (Next at counter reversed default turn leave) r so =
      subst Leave (sym so)
      (word_leaves (stack_word t at)
      (λ v. on_got t (start t) (stack_word t counter) (λ low. on_got t (start t) (stack_word t (counter + 1))
      (λ high. on_got t (start t) (stack_word t (counter + 2)) (λ first. turning t at counter default turn leave low high (next_value reversed low high first v)))))
      (λ v. word_leaves (stack_word t counter)
      (λ low. on_got t (start t) (stack_word t (counter + 1))
      (λ high. on_got t (start t) (stack_word t (counter + 2)) (λ first. turning t at counter default turn leave low high (next_value reversed low high first v))))
      (λ low. word_leaves (stack_word t (counter + 1))
      (λ high. on_got t (start t) (stack_word t (counter + 2)) (λ first. turning t at counter default turn leave low high (next_value reversed low high first v)))
      (λ high. word_leaves (stack_word t (counter + 2)) (λ first. turning t at counter default turn leave low high (next_value reversed low high first v))
      (λ first. turning_leaves at counter default low high turn leave (next_value reversed low high first v))))))
  done_leaves none (EvaluateLeft c or_else n decided) r so =
      subst Leave (sym so)
      (word_leaves (word (start t) c) (λ w. Goes (after t (truth_held w ∷ waiting t) (start t) (if is_zero w then (if or_else then n else decided) else (if or_else then decided else n)))) (λ w. tt))
  done_leaves none (EvaluateRight c n) r so =
      subst Leave (sym so) (word_leaves (word (start t) c) (λ w. Goes (after t (truth_held w ∷ drop 1 (waiting t)) (start t) n)) (λ w. tt))
  done_leaves none (Hold v of n) r so = hold_leaves v of n r so
  done_leaves none (EndPointer at n) r so =
      subst Leave (sym so)
      (word_leaves (found (slice_get (start t).stack (t.frame.base + at))) (λ w. on_got t (start t) (put_words (start t) at (pos 0 ∷ [])) (λ m. leaking_goes t (leak (start t).numbers t.point.pos w) m n))
      (λ w. put_leaking at (pos 0 ∷ []) (leak (start t).numbers t.point.pos w) n))
  done_leaves none (EndScope at of n) r so =
      subst Leave (sym so)
      (word_leaves (leaks_at t.table (start t) (in_stack (start t) at) of t.point.pos) (λ leaks. on_got t (start t) (put_words (start t) at (default_words t.table of)) (λ m. leaking_goes t leaks m n))
      (λ leaks. put_leaking at (default_words t.table of) leaks n))
  done_leaves none Finish r so = subst Leave (sym so) (finish_leaves t.outer none)
  done_leaves none Fall r so = subst Leave (sym so) refl

  turned_leaves : CopiesNone (t.frame ∷ t.outer) → (b : Bool) (r : Outcome) → Turned b t r → Leave r
  turned_leaves none true r so = done_leaves none t.point.does r so
  turned_leaves none false r so = subst Leave (sym so) tt

-- ---- steps

module _ (table : Table) (program : Program) (input : List ℕ) (s : State) where
  abbrev before : List Cell
  before = s.memory.heap.cells

  point_leaves : (f : Frame) (outer : List Frame) → CopiesNone (f ∷ outer) → (x : Option Point) (r : Outcome) → SteppedAt table program input s f outer x r → Leaves before r
  point_leaves f outer none None r so = subst (Leaves before) (sym so) tt
  point_leaves f outer none (Some p) r so =
      turned_leaves (turn_of table program input s f outer p) none (are_taken (turn_of table program input s f outer p)) r so

  -- The law.
  pub step_leaves : (frames : List Frame) → CopiesNone frames → (r : Outcome) → Stepped table program input s frames r → Leaves before r
  step_leaves [] none r so = subst (Leaves before) (sym so) refl
  step_leaves (f ∷ outer) none r so = point_leaves f outer none (slice_get program.points f.next) r so
