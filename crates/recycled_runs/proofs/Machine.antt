-- The subprograms of the machine's frames after a step.
use Rattle.std.proofs.Common.{◌≡◌, refl, sym, ap, subst, inl, inr, ◌⊎◌, ℕ, suc, Bool, true, false, not, ◌&&◌, List, [], ◌∷◌, ◌++◌, map, drop, length, get_or, nat_le, nat_lt, Option, Some, None, ℤ, if◌then◌else◌}
use Rattle.std.specs.Prelude.{int_le}
use Rattle.machine.specs.typed_tree.Trees.{TypedTree, More}
use Rattle.machine.specs.flow_paths.Instructions.{Instruction, Skip, Declare, Assign, Call, Output, Input, Release, Test, Choose, Start, Next, Evaluate, LeaveLoop, Hold, EndScope, Finish, Fall}
use Rattle.machine.specs.flow_paths.Objects.{object_at, designated}
use Rattle.machine.specs.flow_paths.Names.{written, first}
use Rattle.machine.specs.flow_paths.Laid.{FlowProgram}
use Rattle.kept_cells.specs.run_values.declared.items.Item.{Item}
use Rattle.kept_cells.specs.run_values.declared.items.Item.TheVariants as item
use Rattle.kept_cells.specs.run_values.Items.{next_item}
use Rattle.machine.specs.Words.{Word, Int, Null, Cell, fits_type}
use Rattle.machine.specs.Memory.{Memory, Place, cell, words_of, stored, declared, undeclared, without_frame, freed}
use Rattle.machine.specs.Evaluate.{ConstraintError, StorageError, DataError, EndError, Twice, Evaluated, Done, Raises, Traps, value, place_of, text_of, cell_place, variable_place, is_true, decides}
use Rattle.machine.specs.Calls.{Passed, checks_at, written_pos, out_checks, with_formals, returns_of}
use Rattle.machine.specs.States.{Waiting, Loop, Frame, Leak, State, Outcome, Goes, Ends, frame_words, stack_words, frame_at_start}
use Rattle.machine.specs.States as machine
use Rattle.machine.specs.Step.{Turn, typing, here, start, waiting, raised, trapped, counted, evaluated, begun, led, successor, behind, goes, Stored, first_value, taken_by, leaking_goes, target_pos, copied_back, bounds, Bounds, number, choice, chosen, truth_waiting, with_loop, without_loop, loop_of, turned, turned_to, next_value, test, turn}
use Rattle.handled_kinds.specs.Stacks.{subs_of}
use Rattle.recycled_runs.proofs.Plain.{IsAlone}

abbrev pub all_subs : List Frame → List ℕ
all_subs fs = map (λ (f : Frame). f.sub) fs

-- The same frames, or the main procedure has begun.
abbrev pub AreSame : FlowProgram → List ℕ → List ℕ → Type 0
AreSame program ns ks = (ks ≡ ns) ⊎ ((m : ℕ) × (program.main ≡ Some m) × (ks ≡ m ∷ ns))

abbrev pub StaysIn : FlowProgram → List ℕ → Outcome → Type 0
StaysIn program ns (Goes s) = AreSame program ns (subs_of s)
StaysIn program ns (Ends e s) = Unit {0}

abbrev pub CallsIn : FlowProgram → ℕ → List ℕ → Outcome → Type 0
CallsIn program sub ns (Goes s) = (rest : List ℕ) × (subs_of s ≡ sub ∷ rest) × AreSame program ns rest
CallsIn program sub ns (Ends e s) = Unit {0}

abbrev pub LeavesTo : List ℕ → Outcome → Type 0
LeavesTo ns (Goes s) = subs_of s ≡ ns
LeavesTo ns (Ends e s) = Unit {0}

-- ---- the frames that there are then

abbrev mains : Option ℕ → List Frame
mains None = []
mains (Some n) = frame_at_start n [] ∷ []

begun_same : (program : FlowProgram) (f : Frame) (outer : List Frame) → AreSame program (f.sub ∷ all_subs outer) (all_subs (begun program f outer))
begun_same program f [] = by program.main refl
  where
    by : (x : Option ℕ) → program.main ≡ x → AreSame program (f.sub ∷ []) (all_subs (mains x ++ f ∷ []))
    by None is = inl refl
    by (Some n) is = inr (n, is, refl)
begun_same program f (g ∷ outer) = inl refl

module _ (t : Turn) where
  abbrev now : List ℕ
  now = t.frame.sub ∷ all_subs t.outer

  abbrev Stays : Outcome → Type 0
  Stays = StaysIn t.program now

  -- of the frame that runs, but for what isn't its subprogram
  led_same : (f : Frame) → f.sub ≡ t.frame.sub → (n : Option ℕ) → AreSame t.program now (all_subs (led t f n))
  led_same f same (Some n) = inl (ap (λ k. k ∷ all_subs t.outer) same)
  led_same f same None = subst (λ k. AreSame t.program (k ∷ all_subs t.outer) (all_subs (begun t.program f t.outer))) same (begun_same t.program f t.outer)

  behind_same : (waits : List Waiting) (m : Memory) (k : ℕ) → AreSame t.program now (subs_of (behind t waits m k))
  behind_same waits m k = led_same (record t.frame { waits = waits }) refl (successor t k)

  goes_stays : (m : Memory) (k : ℕ) → Stays (goes t m k)
  goes_stays m k = behind_same (waiting t) m k

  evaluated_in : {A : Type 0} (P : Outcome → Type 0) → ((e : _) (s : State) → P (Ends e s)) → (x : Evaluated A) (f : A → Memory → Outcome) → ((a : A) (m : Memory) → P (f a m)) → P (evaluated t x f)
  evaluated_in P ends (Done a n) f on = on a n.memory
  evaluated_in P ends (Raises e n) f on = ends _ _
  evaluated_in P ends (Traps e n) f on = ends _ _

  evaluated_stays : {A : Type 0} (x : Evaluated A) (f : A → Memory → Outcome) → ((a : A) (m : Memory) → Stays (f a m)) → Stays (evaluated t x f)
  evaluated_stays = evaluated_in Stays (λ e s. tt)

  leaking_stays : (checks : List (List Leak)) (o : Outcome) → Stays o → Stays (leaking_goes checks o)
  leaking_stays checks (Goes s) is = is
  leaking_stays checks (Ends e s) is = is

  -- ---- points that are neither a call nor its end

  abbrev read_by : Place → Item → Memory → Outcome
  read_by k item.Missing m = raised t EndError m
  read_by k item.Bad m = raised t DataError m
  read_by k (item.Number v end) m =
      if fits_type (typing t).table k.of (Int v ∷ []) then Goes (record (behind t (waiting t) (stored (typing t) k (Int v ∷ []) m) 0) { at = end }) else raised t ConstraintError m

  read_stays : (k : Place) (i : Item) (m : Memory) → Stays (read_by k i m)
  read_stays k item.Missing m = tt
  read_stays k item.Bad m = tt
  read_stays k (item.Number v end) m = by (fits_type (typing t).table k.of (Int v ∷ []))
    where
      by : (b : Bool) → Stays (if b then Goes (record (behind t (waiting t) (stored (typing t) k (Int v ∷ []) m) 0) { at = end }) else raised t ConstraintError m)
      by true = behind_same (waiting t) (stored (typing t) k (Int v ∷ []) m) 0
      by false = tt

  abbrev machine_trapped : Memory → Outcome
  machine_trapped m = trapped t Twice m

  abbrev freed_by : TypedTree → Place → List Word → Memory → Outcome
  freed_by e k (Cell n ∷ []) m =
      if (cell m n).freed then machine_trapped m
      else leaking_goes (checks_at (typing t) (written_pos t.point.pos (written e)) m (cell_place (designated (typing t).table k.of) n)) (goes t (stored (typing t) k (Null ∷ []) (freed n m)) 0)
  freed_by e k _ m = goes t m 0

  freed_stays : (e : TypedTree) (k : Place) (ws : List Word) (m : Memory) → Stays (freed_by e k ws m)
  freed_stays e k (Cell n ∷ []) m = by (cell m n).freed
    where
      by : (b : Bool) → Stays (if b then machine_trapped m
          else leaking_goes (checks_at (typing t) (written_pos t.point.pos (written e)) m (cell_place (designated (typing t).table k.of) n)) (goes t (stored (typing t) k (Null ∷ []) (freed n m)) 0))
      by true = tt
      by false =
          leaking_stays (checks_at (typing t) (written_pos t.point.pos (written e)) m (cell_place (designated (typing t).table k.of) n)) (goes t (stored (typing t) k (Null ∷ []) (freed n m)) 0)
          (goes_stays (stored (typing t) k (Null ∷ []) (freed n m)) 0)
  freed_stays e k _ m = goes_stays m 0

  abbrev on_first : Loop → List Frame → List Frame
  on_first l [] = []
  on_first l (f ∷ rest) = record f { loops = l ∷ without_loop l.parameter f.loops } ∷ rest

  first_same : (l : Loop) (fs : List Frame) → all_subs (on_first l fs) ≡ all_subs fs
  first_same l [] = refl
  first_same l (f ∷ rest) = refl

  loop_same : (l : Loop) (s : State) → AreSame t.program now (subs_of s) → AreSame t.program now (subs_of (with_loop l s))
  loop_same l s is = subst (AreSame t.program now) (sym (first_same l s.frames)) is

  abbrev started_by : ℕ → Bounds → Memory → Outcome
  started_by x b m =
      if int_le (number b.low) (number b.high) && not (fits_type (typing t).table (object_at (typing t) x).of b.low && fits_type (typing t).table (object_at (typing t) x).of b.high)
      then raised t ConstraintError m
      else Goes (with_loop (record { parameter = x; low = number b.low; high = number b.high; first = true }) (behind t (waiting t) (declared (length t.outer) x b.low m) 0))

  started_stays : (x : ℕ) (b : Bounds) (m : Memory) → Stays (started_by x b m)
  started_stays x b m = by (int_le (number b.low) (number b.high) && not (fits_type (typing t).table (object_at (typing t) x).of b.low && fits_type (typing t).table (object_at (typing t) x).of b.high))
    where
      l : Loop
      l = record { parameter = x; low = number b.low; high = number b.high; first = true }

      by : (c : Bool) → Stays (if c then raised t ConstraintError m else Goes (with_loop l (behind t (waiting t) (declared (length t.outer) x b.low m) 0)))
      by true = tt
      by false = loop_same l (behind t (waiting t) (declared (length t.outer) x b.low m) 0) (behind_same (waiting t) (declared (length t.outer) x b.low m) 0)

  chosen_stays : (count k : ℕ) (m : Memory) → Stays (chosen t count k m)
  chosen_stays count k m = by (nat_lt k count)
    where
      by : (b : Bool) → Stays (if b then goes t m k else raised t ConstraintError m)
      by true = goes_stays m k
      by false = tt

  tested_stays : (e : TypedTree) (holds fails : ℕ) → Stays (test t e holds fails)
  tested_stays e holds fails = evaluated_stays (value (here t) e (start t)) (λ ws m. goes t m (if is_true ws then holds else fails)) (λ ws m. goes_stays m (if is_true ws then holds else fails))

  turned_stays : (x : ℕ) (k : Place) (ws : List Word) (v : Option ℤ) → Stays (turned_to t x k ws v)
  turned_stays x k ws (Some v) = led_same (record t.frame { loops = turned x t.frame.loops }) refl (successor t 0)
  turned_stays x k ws None = led_same (record t.frame { loops = without_loop x t.frame.loops }) refl (successor t 1)

  abbrev given_by : Waiting → List Frame → List Frame
  given_by v [] = []
  given_by v (f ∷ rest) = record f { waits = v ∷ f.waits } ∷ rest

  given_same : (v : Waiting) (fs : List Frame) → all_subs (given_by v fs) ≡ all_subs fs
  given_same v [] = refl
  given_same v (f ∷ rest) = refl

  abbrev held_by : TypedTree → Option ℕ → Outcome
  held_by (More e rest) (Some of) =
      evaluated t (taken_by t of e (start t))
      (λ ws m. Goes (record (behind t (waiting t) m 0) {
        frames = record t.frame { waits = waiting t; next = get_or t.point.next 0 0 } ∷ given_by (record { of = of; words = ws }) t.outer;
      }))
  held_by _ _ = goes t t.state.memory 0

  held_stays : (v : TypedTree) (r : Option ℕ) → Stays (held_by v r)
  held_stays (More e rest) (Some of) =
      evaluated_stays (taken_by t of e (start t))
      (λ ws m. Goes (record (behind t (waiting t) m 0) {
        frames = record t.frame { waits = waiting t; next = get_or t.point.next 0 0 } ∷ given_by (record { of = of; words = ws }) t.outer;
      }))
      (λ ws m. inl (ap (λ ks. t.frame.sub ∷ ks) (given_same (record { of = of; words = ws }) t.outer)))
  held_stays (More e rest) None = goes_stays t.state.memory 0
  held_stays _ r = goes_stays t.state.memory 0

  pub alone_stays : (i : Instruction) → IsAlone i → Stays (turn t i)
  alone_stays Skip alone = goes_stays t.state.memory 0
  alone_stays (Declare x v) alone =
      evaluated_stays (first_value t (object_at (typing t) x).of v (start t)) (λ ws m. goes t (declared (length t.outer) x ws m) 0) (λ ws m. goes_stays (declared (length t.outer) x ws m) 0)
  alone_stays (Assign target e) alone =
      evaluated_stays _ (λ (s : Stored) m. leaking_goes (checks_at (typing t) (target_pos t target) m s.place) (goes t (stored (typing t) s.place s.words m) 0))
      (λ s m. leaking_stays (checks_at (typing t) (target_pos t target) m s.place) (goes t (stored (typing t) s.place s.words m) 0) (goes_stays (stored (typing t) s.place s.words m) 0))
  alone_stays (Call sub actuals result) alone = absurd alone
  alone_stays (Output text line) alone =
      evaluated_stays (text_of (here t) (first text) (start t)) (λ bytes m. Goes (record (behind t (waiting t) m 0) { output = t.state.output ++ bytes ++ (if line then 10 ∷ [] else []) }))
      (λ bytes m. behind_same (waiting t) m 0)
  alone_stays (Input target) alone = evaluated_stays (place_of (here t) target (start t)) (λ k m. read_by k (next_item t.input t.state.at) m) (λ k m. read_stays k (next_item t.input t.state.at) m)
  alone_stays (Release e) alone = evaluated_stays (place_of (here t) e (start t)) (λ k m. freed_by e k (words_of (typing t) m k) m) (λ k m. freed_stays e k (words_of (typing t) m k) m)
  alone_stays (Test e) alone = tested_stays e 0 1
  alone_stays (Choose e choices) alone =
      evaluated_stays (value (here t) e (start t)) (λ ws m. chosen t (length choices) (choice choices ws) m) (λ ws m. chosen_stays (length choices) (choice choices ws) m)
  alone_stays (Start x reversed low high) alone = evaluated_stays (bounds t low high (start t)) (λ b m. started_by x b m) (λ b m. started_stays x b m)
  alone_stays (Next x reversed low high) alone =
      let k : Place = variable_place (here t) x in
      let ws : List Word = words_of (typing t) t.state.memory k in
      turned_stays x k ws (next_value reversed (loop_of x t.frame.loops) (number ws))
  alone_stays (Evaluate u e (Some op)) alone =
      evaluated_stays (value (here t) e (start t)) (λ ws m. Goes (behind t (truth_waiting ws ∷ waiting t) m (if decides op ws then 1 else 0)))
      (λ ws m. behind_same (truth_waiting ws ∷ waiting t) m (if decides op ws then 1 else 0))
  alone_stays (Evaluate u e None) alone =
      evaluated_stays (value (here t) e (start t)) (λ ws m. Goes (behind t (truth_waiting ws ∷ drop 1 (waiting t)) m 0)) (λ ws m. behind_same (truth_waiting ws ∷ drop 1 (waiting t)) m 0)
  alone_stays (LeaveLoop (More e rest)) alone = tested_stays e 0 1
  alone_stays (LeaveLoop e) alone = goes_stays t.state.memory 0
  alone_stays (Hold v) alone = held_stays v (machine.sub_of t.program t.frame.sub).result
  alone_stays (EndScope x) alone =
      leaking_stays (checks_at (typing t) t.point.pos t.state.memory (variable_place (here t) x)) (goes t (undeclared (length t.outer) x t.state.memory) 0) (goes_stays (undeclared (length t.outer) x t.state.memory) 0)
  alone_stays Finish alone = absurd alone
  alone_stays Fall alone = tt

  -- ---- calls and their ends

  pub call_stays : (sub : ℕ) (actuals : TypedTree) (result : Option ℕ) → CallsIn t.program sub now (turn t (Call sub actuals result))
  call_stays sub actuals result =
      evaluated_in (CallsIn t.program sub now) (λ e s. tt) _ _ (λ passed m. by passed m)
    where
      formals : List ℕ
      formals = (machine.sub_of t.program sub).formals

      frames : List Passed → Memory → List Frame
      frames passed m = frame_at_start sub (returns_of formals passed) ∷ (behind t (waiting t) m 0).frames

      entered : Bool → List Passed → Memory → Outcome
      entered b passed m =
          if b then leaking_goes (out_checks (typing t) t.point.pos m passed actuals)
          (Goes (record (behind t (waiting t) m 0) { frames = frames passed m; memory = with_formals (typing t) (suc (length t.outer)) formals passed m }))
          else raised t StorageError m

      on : (b : Bool) (passed : List Passed) (m : Memory) → CallsIn t.program sub now (entered b passed m)
      on true passed m = (subs_of (behind t (waiting t) m 0), refl, behind_same (waiting t) m 0)
      on false passed m = tt

      by : (passed : List Passed) (m : Memory) → CallsIn t.program sub now (entered (nat_le (frame_words t.program (frames passed m)) stack_words) passed m)
      by passed m = on (nat_le (frame_words t.program (frames passed m)) stack_words) passed m

  abbrev left_by : List Frame → Memory → Outcome
  left_by (outer ∷ []) m = Ends machine.Normal (counted (record t.state { frames = outer ∷ []; memory = without_frame (length t.outer) m }))
  left_by outer m = Goes (counted (record t.state { frames = outer; memory = without_frame (length t.outer) m }))

  pub finish_leaves : LeavesTo (all_subs t.outer) (turn t Finish)
  finish_leaves = evaluated_in (LeavesTo (all_subs t.outer)) (λ e s. tt) (copied_back t t.frame.returns (start t)) (λ m n. left_by t.outer m) (λ m n. by t.outer m)
    where
      by : (outer : List Frame) (m : Memory) → LeavesTo (all_subs outer) (left_by outer m)
      by [] m = refl
      by (f ∷ []) m = tt
      by (f ∷ g ∷ rest) m = refl
