-- The greatest counts of live cells after a step of the machine.
use Rattle.std.proofs.Common.{◌≡◌, refl, sym, ap, ◌∙◌, subst, ℕ, zero, suc, ◌+◌, ◌≤◌, ◌==◌, arith, Bool, true, false, not, ◌&&◌, List, [], ◌∷◌, ◌++◌, map, drop, take, length, length-append, get_or, nat_le, nat_lt, Option, Some, None, ℤ, if◌then◌else◌}
use Rattle.std.specs.Prelude.{int_le}
use Rattle.std.proofs.Math.Seq.{drop-length}
use Rattle.std.proofs.lemmas.List.{length-map}
use Rattle.machine.specs.type_definitions.Types.{Table, full}
use Rattle.machine.specs.typed_tree.Trees.{TypedTree, Text, Image, Parens, Binary, More}
use Rattle.machine.specs.flow_paths.Instructions.{Instruction, Skip, Declare, Assign, Call, Output, Input, Release, Test, Choose, Start, Next, Evaluate, LeaveLoop, Hold, EndScope, Finish, Fall}
use Rattle.machine.specs.flow_paths.Objects.{object_at, sub_at, designated, passings, is_anonymous}
use Rattle.machine.specs.flow_paths.Names.{written, first}
use Rattle.kept_cells.specs.run_values.declared.items.Item.{Item}
use Rattle.kept_cells.specs.run_values.declared.items.Item.TheVariants as item
use Rattle.kept_cells.specs.run_values.Items.{next_item}
use Rattle.machine.specs.Words.{Word, Int, Null, Cell, fits_type}
use Rattle.machine.specs.Typed.{sorts}
use Rattle.machine.specs.Memory.{Memory, HeapCell, Place, Base, OfVariable, OfCell, cell, cell_words, words_of, stored, moved_out, declared, undeclared, without_frame, freed, at_number, as_freed, slots_at, fresh, given_up}
use Rattle.machine.specs.Evaluate.{ConstraintError, StorageError, DataError, EndError, ProgramError, Twice, Touched, Now, Evaluated, Done, Raises, Traps, Exception, Trap, AsValue, AsView, followed_by, value, viewed, evaluate, checked, place_of, text_of, image_of, cell_place, variable_place, is_true, decides}
use Rattle.machine.specs.Calls.{Passed, checks_at, written_pos, out_checks, with_formal, with_formals, returns_of, all_passed}
use Rattle.machine.specs.Calls as calls
use Rattle.machine.specs.States.{Waiting, Frame, Leak, Return, Outcome, Goes, Ends, frame_words, stack_words, frame_at_start}
use Rattle.machine.specs.States as machine
use Rattle.machine.specs.Step.{Turn, typing, here, start, waiting, raised, trapped, counted, evaluated, behind, goes, Stored, first_value, taken_by, type_named, leaking_goes, target_pos, copied_back, bounds, Bounds, number, choice, chosen, truth_waiting, with_loop, loop_of, turned_to, next_value, test, turn}
use Rattle.numbered_cells.specs.Peaks.{peak_of}
use Rattle.numbered_cells.specs.slot_heap.Heaps.{slot_count}
use Rattle.run_points.proofs.Flags.{Anywhere}
use Rattle.run_points.proofs.Keeping.{Keeps, KeepsPlace, keeps_on, place_on, evaluate_keeps, checked_keeps, place_keeps, initial_keeps}
use Rattle.run_points.proofs.Actuals.{all_keep}
use Rattle.handled_steps.specs.Rises.{top}
use Rattle.recycled_runs.proofs.Tops.{marks, typed_mark, typed_marks, count, AreTyped, Rises, Risen, EndsRisen, same_risen, given_up_risen, keeps_risen, moved_marks, moved_peaks, stored_peaks, typed_put, top_same}

-- ---- cells that are freed

less_one : (b : Bool) (a c : ℕ) → a ≤ c → a ≤ (if b then suc c else c)
less_one true a c less = omega (arith, less)
less_one false a c less = less

fewer_number : (table : Table) (n k : ℕ) (cells : List HeapCell) → count n (typed_marks table (at_number k as_freed cells)) ≤ count n (typed_marks table cells)
fewer_number table n k [] = omega arith
fewer_number table n zero (c ∷ cells) = less_one (not c.freed && (length (sorts table c.of) == n)) (count n (typed_marks table cells)) (count n (typed_marks table cells)) (omega arith)
fewer_number table n (suc k) (c ∷ cells) = let rest = fewer_number table n k cells in by (not c.freed && (length (sorts table c.of) == n)) rest
  where
    by : (b : Bool) → count n (typed_marks table (at_number k as_freed cells)) ≤ count n (typed_marks table cells)
        → (if b then suc (count n (typed_marks table (at_number k as_freed cells))) else count n (typed_marks table (at_number k as_freed cells))) ≤ (if b then suc (count n (typed_marks table cells)) else count n (typed_marks table cells))
    by true less = omega (arith, less)
    by false less = less

fewer : (table : Table) (n k : ℕ) (m : Memory) → count n (typed_marks table (freed k m).cells) ≤ count n (typed_marks table m.cells)
fewer table n zero m = omega arith
fewer table n (suc k) m = fewer_number table n k m.cells

long_marks : (table : Table) (cells : List HeapCell) → length (typed_marks table cells) ≡ length cells
long_marks table cells = length-map cells (typed_mark table)

past_all : (cells : List HeapCell) (n : ℕ) → n ≡ length cells → drop n (map cell_words cells) ≡ []
past_all cells n is = ap (λ k. drop k (map cell_words cells)) (is ∙ sym (length-map cells cell_words)) ∙ drop-length (map cell_words cells)

-- ---- a point

module _ (t : Turn) (under : (n : ℕ) → count n (marks t.state.memory.cells) ≤ peak_of n t.state.memory.peaks) (typed : AreTyped (typing t).table t.state.memory) where
  abbrev before : Memory
  before = t.state.memory

  abbrev table : Table
  table = (typing t).table

  abbrev IsRisen : Memory → Type 0
  IsRisen = Risen before

  -- Where cells have as many words as their types after the step; or at the end of the run.
  abbrev pub Tops : Outcome → Type 0
  Tops (Goes s) = AreTyped table s.memory → Rises before s.memory
  Tops (Ends e s) = EndsRisen before s.memory

  on_nothing : (l : List (ℕ × Bool)) → l ≡ l ++ []
  on_nothing [] = refl
  on_nothing (x ∷ l) = ap (λ rest. x ∷ rest) (on_nothing l)

  first_risen : IsRisen before
  first_risen = record {
    more = [];
    marks_are = on_nothing (marks before.cells);
    rises = λ n. top_same (peak_of n before.peaks) (count n (marks before.cells)) (under n);
  }

  -- ---- evaluations

  abbrev Keeping : {A : Type 0} → Evaluated A → Type 0
  Keeping ev = Keeps IsRisen ev

  evaluate_risen : (u : _) (e : TypedTree) (n : Now) → IsRisen n.memory → Keeping (evaluate (here t) u e n)
  evaluate_risen u e n is = evaluate_keeps (here t) Anywhere IsRisen (keeps_risen before (here t)) u e n is

  value_risen : (e : TypedTree) (n : Now) → IsRisen n.memory → Keeping (value (here t) e n)
  value_risen e n is = evaluate_risen AsValue e n is

  place_risen : {B : Type 0} (e : TypedTree) (n : Now) (f : Place → Now → Evaluated B) → IsRisen n.memory → ((k : Place) (n : Now) → IsRisen n.memory → Keeping (f k n)) → Keeping (followed_by (place_of (here t) e n) f)
  place_risen e n f is on = place_on Anywhere IsRisen (place_of (here t) e n) f (place_keeps (here t) Anywhere IsRisen (keeps_risen before (here t)) e n is) (λ k n low is. on k n is)

  taken_risen : (of : ℕ) (e : TypedTree) (n : Now) → IsRisen n.memory → Keeping (taken_by t of e n)
  taken_risen of e n is = by (is_anonymous (full table of))
    where
      by : (b : Bool) → Keeping (if b then viewed (here t) e n else followed_by (value (here t) e n) (checked (here t) of))
      by true = evaluate_risen AsView e n is
      by false = keeps_on IsRisen (value (here t) e n) (checked (here t) of) (value_risen e n is) (λ ws n is. checked_keeps (here t) IsRisen of ws n is)

  first_value_risen : (of : ℕ) (v : TypedTree) (n : Now) → IsRisen n.memory → Keeping (first_value t of v n)
  first_value_risen of (More e rest) n is = taken_risen of e n is
  first_value_risen of v n is = initial_keeps (here t) Anywhere IsRisen (keeps_risen before (here t)) of v n is

  text_risen : (e : TypedTree) (n : Now) → IsRisen n.memory → Keeping (text_of (here t) e n)
  unfolding text_of
  text_risen (Text w) n is = is
  text_risen (Image u e) n is = keeps_on IsRisen (value (here t) e n) (λ ws n. Done (image_of table u ws) n) (value_risen e n is) (λ ws n is. is)
  text_risen (Parens e) n is = text_risen e n is
  text_risen (Binary op a b) n is =
      keeps_on IsRisen (text_of (here t) a n) (λ left n. followed_by (text_of (here t) b n) (λ right n. Done (left ++ right) n)) (text_risen a n is)
      (λ left n is. keeps_on IsRisen (text_of (here t) b n) (λ right n. Done (left ++ right) n) (text_risen b n is) (λ right n is. is))
  text_risen _ n is = is

  bounds_risen : (low high : TypedTree) (n : Now) → IsRisen n.memory → Keeping (bounds t low high n)
  bounds_risen low high n is =
      keeps_on IsRisen (value (here t) low n) (λ a n. followed_by (value (here t) high n) (λ b n. Done (record { low = a; high = b }) n)) (value_risen low n is)
      (λ a n is. keeps_on IsRisen (value (here t) high n) (λ b n. Done (record { low = a; high = b }) n) (value_risen high n is) (λ b n is. is))

  -- ---- what comes then

  raised_tops : (e : Exception) (m : Memory) → IsRisen m → Tops (raised t e m)
  raised_tops e m is = given_up_risen before m is

  trapped_tops : (e : Trap) (m : Memory) → IsRisen m → Tops (trapped t e m)
  trapped_tops e m is = given_up_risen before m is

  goes_tops : (m : Memory) (k : ℕ) → IsRisen m → Tops (goes t m k)
  goes_tops m k is = λ same. is.rises

  -- what is known of the value that was evaluated
  evaluated_by : {A : Type 0} (x : Evaluated A) (f : A → Memory → Outcome) → Keeping x → ((a : A) (n : Now) → x ≡ Done a n → IsRisen n.memory → Tops (f a n.memory)) → Tops (evaluated t x f)
  evaluated_by (Done a n) f is on = on a n refl is
  evaluated_by (Raises e n) f is on = raised_tops e n.memory is
  evaluated_by (Traps e n) f is on = trapped_tops e n.memory is

  evaluated_tops : {A : Type 0} (x : Evaluated A) (f : A → Memory → Outcome) → Keeping x → ((a : A) (m : Memory) → IsRisen m → Tops (f a m)) → Tops (evaluated t x f)
  evaluated_tops x f is on = evaluated_by x f is (λ a n e is. on a n.memory is)

  leaking_tops : (checks : List (List Leak)) (o : Outcome) → Tops o → Tops (leaking_goes checks o)
  leaking_tops checks (Goes s) is = is
  leaking_tops checks (Ends e s) is = is

  -- A memory with the cells of another one, but for what stands in them: typed counts are the same.
  rises_typed : (m n : Memory) → AreTyped table m → typed_marks table n.cells ≡ typed_marks table m.cells → n.peaks ≡ m.peaks → IsRisen m → AreTyped table n → Rises before n
  rises_typed m n at same peaks is after k =
      ap (peak_of k) peaks ∙ (is.rises k ∙ ap (λ l. top (peak_of k before.peaks) (count k l)) (at ∙ (sym same ∙ sym after)))

  stored_typed : (p : Place) (ws : List Word) (m : Memory) → typed_marks table (stored (typing t) p ws m).cells ≡ typed_marks table m.cells
  stored_typed p ws m = typed_put table p.base (take p.at (slots_at (typing t) m p.base) ++ fresh ws ++ drop (p.at + length (fresh ws)) (slots_at (typing t) m p.base)) m

  stored_rises : (p : Place) (ws : List Word) (m : Memory) → AreTyped table m → IsRisen m → AreTyped table (stored (typing t) p ws m) → Rises before (stored (typing t) p ws m)
  stored_rises p ws m at is = rises_typed m (stored (typing t) p ws m) at (stored_typed p ws m) (stored_peaks (typing t) p ws m) is

  -- ---- points that are neither a call nor its end

  abbrev read_by : Place → Item → Memory → Outcome
  read_by k item.Missing m = raised t EndError m
  read_by k item.Bad m = raised t DataError m
  read_by k (item.Number v end) m =
      if fits_type (typing t).table k.of (Int v ∷ []) then Goes (record (behind t (waiting t) (stored (typing t) k (Int v ∷ []) m) 0) { at = end }) else raised t ConstraintError m

  read_tops : (k : Place) (i : Item) (m : Memory) → AreTyped table m → IsRisen m → Tops (read_by k i m)
  read_tops k item.Missing m at is = raised_tops EndError m is
  read_tops k item.Bad m at is = raised_tops DataError m is
  read_tops k (item.Number v end) m at is = by (fits_type (typing t).table k.of (Int v ∷ []))
    where
      by : (b : Bool) → Tops (if b then Goes (record (behind t (waiting t) (stored (typing t) k (Int v ∷ []) m) 0) { at = end }) else raised t ConstraintError m)
      by true = stored_rises k (Int v ∷ []) m at is
      by false = raised_tops ConstraintError m is

  abbrev machine_trapped : Memory → Outcome
  machine_trapped m = trapped t Twice m

  abbrev freed_by : TypedTree → Place → List Word → Memory → Outcome
  freed_by e k (Cell n ∷ []) m =
      if (cell m n).freed then machine_trapped m
      else leaking_goes (checks_at (typing t) (written_pos t.point.pos (written e)) m (cell_place (designated (typing t).table k.of) n)) (goes t (stored (typing t) k (Null ∷ []) (freed n m)) 0)
  freed_by e k _ m = goes t m 0

  -- The cell is one of those that were there.
  freed_rises : (k : Place) (n : ℕ) → AreTyped table (stored (typing t) k (Null ∷ []) (freed n before)) → Rises before (stored (typing t) k (Null ∷ []) (freed n before))
  freed_rises k n after i =
      ap (peak_of i) (stored_peaks (typing t) k (Null ∷ []) (freed n before))
      ∙ top_same (peak_of i before.peaks) (count i (marks (stored (typing t) k (Null ∷ []) (freed n before)).cells))
      (let most = subst (λ l. count i l ≤ peak_of i before.peaks) typed (under i) in
      let less = fewer table i n before in
      subst (λ l. count i l ≤ peak_of i before.peaks) (sym (after ∙ stored_typed k (Null ∷ []) (freed n before))) (omega (arith, most, less)))

  freed_tops : (e : TypedTree) (k : Place) (ws : List Word) → Tops (freed_by e k ws before)
  freed_tops e k (Cell n ∷ []) = by (cell before n).freed
    where
      by : (b : Bool) → Tops (if b then machine_trapped before
          else leaking_goes (checks_at (typing t) (written_pos t.point.pos (written e)) before (cell_place (designated (typing t).table k.of) n)) (goes t (stored (typing t) k (Null ∷ []) (freed n before)) 0))
      by true = trapped_tops Twice before first_risen
      by false =
          leaking_tops (checks_at (typing t) (written_pos t.point.pos (written e)) before (cell_place (designated (typing t).table k.of) n)) (goes t (stored (typing t) k (Null ∷ []) (freed n before)) 0)
          (freed_rises k n)
  freed_tops e k _ = goes_tops before 0 first_risen

  abbrev started_by : ℕ → Bounds → Memory → Outcome
  started_by x b m =
      if int_le (number b.low) (number b.high) && not (fits_type (typing t).table (object_at (typing t) x).of b.low && fits_type (typing t).table (object_at (typing t) x).of b.high)
      then raised t ConstraintError m
      else Goes (with_loop (record { parameter = x; low = number b.low; high = number b.high; first = true }) (behind t (waiting t) (declared (length t.outer) x b.low m) 0))

  started_tops : (x : ℕ) (b : Bounds) (m : Memory) → IsRisen m → Tops (started_by x b m)
  started_tops x b m is = by (int_le (number b.low) (number b.high) && not (fits_type (typing t).table (object_at (typing t) x).of b.low && fits_type (typing t).table (object_at (typing t) x).of b.high))
    where
      by : (c : Bool) → Tops (if c then raised t ConstraintError m
          else Goes (with_loop (record { parameter = x; low = number b.low; high = number b.high; first = true }) (behind t (waiting t) (declared (length t.outer) x b.low m) 0)))
      by true = raised_tops ConstraintError m is
      by false = λ same. is.rises

  chosen_tops : (count k : ℕ) (m : Memory) → IsRisen m → Tops (chosen t count k m)
  chosen_tops count k m is = by (nat_lt k count)
    where
      by : (b : Bool) → Tops (if b then goes t m k else raised t ConstraintError m)
      by true = goes_tops m k is
      by false = raised_tops ConstraintError m is

  tested_tops : (e : TypedTree) (holds fails : ℕ) → Tops (test t e holds fails)
  tested_tops e holds fails =
      evaluated_tops (value (here t) e (start t)) (λ ws m. goes t m (if is_true ws then holds else fails)) (value_risen e (start t) first_risen) (λ ws m is. goes_tops m (if is_true ws then holds else fails) is)

  turned_tops : (x : ℕ) (k : Place) (ws : List Word) (v : Option ℤ) → Tops (turned_to t x k ws v)
  turned_tops x k ws (Some v) = stored_rises k _ before typed first_risen
  turned_tops x k ws None = λ same. first_risen.rises

  abbrev given_by : Waiting → List Frame → List Frame
  given_by v [] = []
  given_by v (f ∷ rest) = record f { waits = v ∷ f.waits } ∷ rest

  abbrev held_by : TypedTree → Option ℕ → Outcome
  held_by (More e rest) (Some of) =
      evaluated t (taken_by t of e (start t))
      (λ ws m. Goes (record (behind t (waiting t) m 0) {
        frames = record t.frame { waits = waiting t; next = get_or t.point.next 0 0 } ∷ given_by (record { of = of; words = ws }) t.outer;
      }))
  held_by _ _ = goes t t.state.memory 0

  held_tops : (v : TypedTree) (r : Option ℕ) → Tops (held_by v r)
  held_tops (More e rest) (Some of) =
      evaluated_tops (taken_by t of e (start t))
      (λ ws m. Goes (record (behind t (waiting t) m 0) {
        frames = record t.frame { waits = waiting t; next = get_or t.point.next 0 0 } ∷ given_by (record { of = of; words = ws }) t.outer;
      }))
      (taken_risen of e (start t) first_risen) (λ ws m is same. is.rises)
  held_tops (More e rest) None = goes_tops t.state.memory 0 first_risen
  held_tops _ r = goes_tops t.state.memory 0 first_risen

  -- ---- assignments

  abbrev stored_from : TypedTree → TypedTree → Evaluated Stored
  stored_from target e = followed_by (taken_by t (type_named target) e (start t)) (λ ws n. followed_by (place_of (here t) target n) (λ k n. Done (record { words = ws; place = k }) n))

  stored_risen : (target e : TypedTree) → Keeping (stored_from target e)
  stored_risen target e =
      keeps_on IsRisen (taken_by t (type_named target) e (start t)) (λ ws n. followed_by (place_of (here t) target n) (λ k n. Done (record { words = ws; place = k }) n)) (taken_risen (type_named target) e (start t) first_risen)
      (λ ws n is. place_risen target n (λ k n. Done (record { words = ws; place = k }) n) is (λ k n is. is))

  -- ---- calls and their ends

  formal_marks : (x : ℕ) (a : Passed) (m : Memory) → (marks (with_formal (typing t) (suc (length t.outer)) x a m).cells ≡ marks m.cells) × ((with_formal (typing t) (suc (length t.outer)) x a m).peaks ≡ m.peaks)
  formal_marks x (calls.Value ws) m = (refl, refl)
  formal_marks x (calls.From k) m = (moved_marks (typing t) k m, moved_peaks (typing t) k m)
  formal_marks x (calls.To k) m = (moved_marks (typing t) k m, moved_peaks (typing t) k m)

  formals_risen : (formals : List ℕ) (passed : List Passed) (m : Memory) → IsRisen m → IsRisen (with_formals (typing t) (suc (length t.outer)) formals passed m)
  formals_risen (x ∷ formals) (a ∷ passed) m is =
      let same = formal_marks x a m in formals_risen formals passed (with_formal (typing t) (suc (length t.outer)) x a m) (same_risen before m (with_formal (typing t) (suc (length t.outer)) x a m) same.0 same.1 is)
  formals_risen [] passed m is = is
  formals_risen (x ∷ formals) [] m is = is

  call_tops : (sub : ℕ) (actuals : TypedTree) (result : Option ℕ) → Tops (turn t (Call sub actuals result))
  call_tops sub actuals result =
      evaluated_tops (all_passed (here t) (passings (typing t) (sub_at (typing t) sub)) formals actuals (start t)) (λ passed m. entered (nat_le (frame_words t.program (frames passed m)) stack_words) passed m)
      (all_keep (here t) Anywhere IsRisen (keeps_risen before (here t)) (passings (typing t) (sub_at (typing t) sub)) formals actuals (start t) first_risen)
      (λ passed m is. on (nat_le (frame_words t.program (frames passed m)) stack_words) passed m is)
    where
      formals : List ℕ
      formals = (machine.sub_of t.program sub).formals

      frames : List Passed → Memory → List Frame
      frames passed m = frame_at_start sub (returns_of formals passed) ∷ (behind t (waiting t) m 0).frames

      entered : Bool → List Passed → Memory → Outcome
      entered b passed m =
          if b then leaking_goes (out_checks (typing t) t.point.pos m passed actuals)
          (Goes (record (behind t (waiting t) m 0) { frames = frames passed m; memory = with_formals (typing t) (suc (length t.outer)) formals passed m }))
          else raised t StorageError m

      on : (b : Bool) (passed : List Passed) (m : Memory) → IsRisen m → Tops (entered b passed m)
      on true passed m is = λ same. (formals_risen formals passed m is).rises
      on false passed m is = raised_tops StorageError m is

  -- what a frame gives back makes no cell
  abbrev IsBack : Memory → Type 0
  IsBack m = (typed_marks table m.cells ≡ typed_marks table before.cells) × (m.peaks ≡ before.peaks)

  moved_typed : (p : Place) (m : Memory) → typed_marks table (moved_out (typing t) p m).cells ≡ typed_marks table m.cells
  moved_typed p m = typed_put table p.base _ m

  back_stored : (p q : Place) (ws : List Word) (m : Memory) → IsBack m → IsBack (stored (typing t) p ws (moved_out (typing t) q m))
  back_stored p q ws m is = (
    stored_typed p ws (moved_out (typing t) q m) ∙ (moved_typed q m ∙ is.0),
    stored_peaks (typing t) p ws (moved_out (typing t) q m) ∙ (moved_peaks (typing t) q m ∙ is.1),
  )

  abbrev reached_in : Base → Place → Now → Evaluated Place
  reached_in (OfCell n) k now = if (cell now.memory n).freed then Traps Touched now else Done k now
  reached_in (OfVariable frame x) k now = Done k now

  reached_back : (b : Base) (k : Place) (now : Now) → IsBack now.memory → Keeps IsBack (reached_in b k now)
  reached_back (OfVariable frame x) k now is = is
  reached_back (OfCell n) k now is = by (cell now.memory n).freed
    where
      by : (b : Bool) → Keeps IsBack (if b then Traps Touched now else Done k now)
      by true = is
      by false = is

  -- with the memory that it gives
  abbrev GivesBack : Evaluated Memory → Type 0
  GivesBack (Done m n) = IsBack m
  GivesBack (Raises e n) = IsBack n.memory
  GivesBack (Traps e n) = IsBack n.memory

  back_on : {A : Type 0} (x : Evaluated A) (f : A → Now → Evaluated Memory) → Keeps IsBack x → ((a : A) (n : Now) → IsBack n.memory → GivesBack (f a n)) → GivesBack (followed_by x f)
  back_on (Done a n) f is on = on a n is
  back_on (Raises e n) f is on = is
  back_on (Traps e n) f is on = is

  copied_risen : (rs : List Return) (now : Now) → IsBack now.memory → GivesBack (copied_back t rs now)
  copied_risen [] now is = is
  copied_risen (r ∷ rest) now is =
      back_on (reached_in r.to.base r.to now)
      (λ k now. followed_by (checked (here t) k.of (words_of (typing t) now.memory (variable_place (here t) r.formal)) now)
      (λ ws now. copied_back t rest (record now { memory = stored (typing t) k ws (moved_out (typing t) (variable_place (here t) r.formal) now.memory) })))
      (reached_back r.to.base r.to now is)
      (λ k now is. back_on (checked (here t) k.of (words_of (typing t) now.memory (variable_place (here t) r.formal)) now)
      (λ ws now. copied_back t rest (record now { memory = stored (typing t) k ws (moved_out (typing t) (variable_place (here t) r.formal) now.memory) }))
      (checked_keeps (here t) IsBack k.of (words_of (typing t) now.memory (variable_place (here t) r.formal)) now is)
      (λ ws now is. copied_risen rest (record now { memory = stored (typing t) k ws (moved_out (typing t) (variable_place (here t) r.formal) now.memory) }) (back_stored k (variable_place (here t) r.formal) ws now.memory is)))

  same_number : (m : Memory) → IsBack m → length before.cells ≡ length m.cells
  same_number m is = sym (long_marks table before.cells) ∙ (ap (λ (l : List (ℕ × Bool)). length l) (sym is.0) ∙ long_marks table m.cells)

  no_more : (m : Memory) (cells : List HeapCell) → m.peaks ≡ before.peaks → (n : ℕ) → drop (length before.cells) (map cell_words cells) ≡ []
      → peak_of n m.peaks ≡ top (peak_of n before.peaks) (count n (marks before.cells) + slot_count n (drop (length before.cells) (map cell_words cells)))
  no_more m cells peaks n none =
      ap (peak_of n) peaks
      ∙ (top_same (peak_of n before.peaks) (count n (marks before.cells)) (under n)
      ∙ ap (top (peak_of n before.peaks)) (nothing (count n (marks before.cells)) ∙ ap (λ l. count n (marks before.cells) + slot_count n l) (sym none)))
    where
      nothing : (a : ℕ) → a ≡ a + 0
      nothing a = omega arith

  back_given_up : (m : Memory) → IsBack m → EndsRisen before (given_up before m)
  back_given_up m is n = no_more m (given_up before m).cells is.1 n (past_all (given_up before m).cells (length before.cells) (none_made (same_number m is)))
    where
      long : length (map as_freed (drop (length before.cells) m.cells)) ≡ length (drop (length before.cells) m.cells)
      long = length-map (drop (length before.cells) m.cells) as_freed

      none_made : length before.cells ≡ length m.cells → length before.cells ≡ length (given_up before m).cells
      none_made same =
          let all = length-append before.cells (map as_freed (drop (length before.cells) m.cells)) in
          let none : length (drop (length before.cells) m.cells) ≡ 0 = ap (λ k. length (drop k m.cells)) same ∙ ap (λ (l : List HeapCell). length l) (drop-length m.cells) in
          omega (arith, all, none, long)

  back_rises : (m n : Memory) → n.cells ≡ m.cells → n.peaks ≡ m.peaks → IsBack m → AreTyped table n → Rises before n
  back_rises m n cells peaks is after k =
      ap (peak_of k) (peaks ∙ is.1)
      ∙ (top_same (peak_of k before.peaks) (count k (marks before.cells)) (under k)
      ∙ ap (λ l. top (peak_of k before.peaks) (count k l)) (typed ∙ (sym is.0 ∙ (ap (typed_marks table) (sym cells) ∙ sym after))))

  abbrev left_by : List Frame → Memory → Outcome
  left_by (outer ∷ []) m = Ends machine.Normal (counted (record t.state { frames = outer ∷ []; memory = without_frame (length t.outer) m }))
  left_by outer m = Goes (counted (record t.state { frames = outer; memory = without_frame (length t.outer) m }))

  left_tops : (outer : List Frame) (m : Memory) → IsBack m → Tops (left_by outer m)
  left_tops [] m is = back_rises m (without_frame (length t.outer) m) refl refl is
  left_tops (f ∷ []) m is = λ n. no_more m m.cells is.1 n (past_all m.cells (length before.cells) (same_number m is))
  left_tops (f ∷ g ∷ rest) m is = back_rises m (without_frame (length t.outer) m) refl refl is

  finish_tops : Tops (turn t Finish)
  finish_tops = by (copied_back t t.frame.returns (start t)) (copied_risen t.frame.returns (start t) (refl, refl))
    where
      by : (x : Evaluated Memory) → GivesBack x → Tops (evaluated t x (λ m n. left_by t.outer m))
      by (Done m n) is = left_tops t.outer m is
      by (Raises e n) is = back_given_up n.memory is
      by (Traps e n) is = back_given_up n.memory is

  -- ---- all points

  -- What is known of places that are stored at: cells are of their types before the store; or nothing was made.
  abbrev pub StoresAt : Instruction → Type 0
  StoresAt (Assign target e) = (s : Stored) (n : Now) → stored_from target e ≡ Done s n → AreTyped table n.memory
  StoresAt (Input target) = (k : Place) (n : Now) → place_of (here t) target (start t) ≡ Done k n → n.memory ≡ before
  StoresAt (Release e) = (k : Place) (n : Now) → place_of (here t) e (start t) ≡ Done k n → n.memory ≡ before
  StoresAt i = Unit {0}

  place_keeping : (e : TypedTree) → Keeping (place_of (here t) e (start t))
  place_keeping e = by (place_of (here t) e (start t)) (place_keeps (here t) Anywhere IsRisen (keeps_risen before (here t)) e (start t) first_risen)
    where
      by : (x : Evaluated Place) → KeepsPlace Anywhere IsRisen x → Keeping x
      by (Done k n) is = is.1
      by (Raises e n) is = is
      by (Traps e n) is = is

  pub turn_tops : (i : Instruction) → StoresAt i → Tops (turn t i)
  turn_tops Skip at = goes_tops t.state.memory 0 first_risen
  turn_tops (Declare x v) at =
      evaluated_tops (first_value t (object_at (typing t) x).of v (start t)) (λ ws m. goes t (declared (length t.outer) x ws m) 0) (first_value_risen (object_at (typing t) x).of v (start t) first_risen)
      (λ ws m is same. is.rises)
  turn_tops (Assign target e) at =
      evaluated_by (stored_from target e) (λ (s : Stored) m. leaking_goes (checks_at (typing t) (target_pos t target) m s.place) (goes t (stored (typing t) s.place s.words m) 0)) (stored_risen target e)
      (λ s n is risen. leaking_tops (checks_at (typing t) (target_pos t target) n.memory s.place) (goes t (stored (typing t) s.place s.words n.memory) 0) (stored_rises s.place s.words n.memory (at s n is) risen))
  turn_tops (Call sub actuals result) at = call_tops sub actuals result
  turn_tops (Output text line) at =
      evaluated_tops (text_of (here t) (first text) (start t)) (λ bytes m. Goes (record (behind t (waiting t) m 0) { output = t.state.output ++ bytes ++ (if line then 10 ∷ [] else []) })) (text_risen (first text) (start t) first_risen)
      (λ bytes m is same. is.rises)
  turn_tops (Input target) at =
      evaluated_by (place_of (here t) target (start t)) (λ k m. read_by k (next_item t.input t.state.at) m) (place_keeping target)
      (λ k n is risen. read_tops k (next_item t.input t.state.at) n.memory (subst (AreTyped table) (sym (at k n is)) typed) risen)
  turn_tops (Release e) at =
      evaluated_by (place_of (here t) e (start t)) (λ k m. freed_by e k (words_of (typing t) m k) m) (place_keeping e)
      (λ k n is risen. subst (λ m. Tops (freed_by e k (words_of (typing t) m k) m)) (sym (at k n is)) (freed_tops e k (words_of (typing t) before k)))
  turn_tops (Test e) at = tested_tops e 0 1
  turn_tops (Choose e choices) at =
      evaluated_tops (value (here t) e (start t)) (λ ws m. chosen t (length choices) (choice choices ws) m) (value_risen e (start t) first_risen) (λ ws m is. chosen_tops (length choices) (choice choices ws) m is)
  turn_tops (Start x reversed low high) at = evaluated_tops (bounds t low high (start t)) (λ b m. started_by x b m) (bounds_risen low high (start t) first_risen) (λ b m is. started_tops x b m is)
  turn_tops (Next x reversed low high) at =
      let k : Place = variable_place (here t) x in
      let ws : List Word = words_of (typing t) t.state.memory k in
      turned_tops x k ws (next_value reversed (loop_of x t.frame.loops) (number ws))
  turn_tops (Evaluate u e (Some op)) at =
      evaluated_tops (value (here t) e (start t)) (λ ws m. Goes (behind t (truth_waiting ws ∷ waiting t) m (if decides op ws then 1 else 0))) (value_risen e (start t) first_risen)
      (λ ws m is same. is.rises)
  turn_tops (Evaluate u e None) at =
      evaluated_tops (value (here t) e (start t)) (λ ws m. Goes (behind t (truth_waiting ws ∷ drop 1 (waiting t)) m 0)) (value_risen e (start t) first_risen) (λ ws m is same. is.rises)
  turn_tops (LeaveLoop (More e rest)) at = tested_tops e 0 1
  turn_tops (LeaveLoop e) at = goes_tops t.state.memory 0 first_risen
  turn_tops (Hold v) at = held_tops v (machine.sub_of t.program t.frame.sub).result
  turn_tops (EndScope x) at =
      leaking_tops (checks_at (typing t) t.point.pos t.state.memory (variable_place (here t) x)) (goes t (undeclared (length t.outer) x t.state.memory) 0) (λ same. first_risen.rises)
  turn_tops Finish at = finish_tops
  turn_tops Fall at = raised_tops ProgramError t.state.memory first_risen
