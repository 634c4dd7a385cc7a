-- A step that ends a run leaves each cell of the machine that isn't freed as it was.
use Rattle.std.proofs.Common.{◌≡◌, refl, sym, ap, subst, ℕ, suc, Bool, true, false, not, ◌&&◌, List, [], ◌∷◌, ◌++◌, map, drop, length, get_or, nat_le, nat_lt, Option, Some, None, ℤ, if◌then◌else◌}
use Rattle.std.specs.Prelude.{int_le}
use Rattle.machine.specs.typed_tree.Trees.{TypedTree, More}
use Rattle.machine.specs.flow_paths.Instructions.{Instruction, Skip, Declare, Assign, Call, Output, Input, Release, Test, Choose, Start, Next, Evaluate, LeaveLoop, Hold, EndScope, Finish, Fall}
use Rattle.machine.specs.flow_paths.Objects.{object_at, designated, passings, sub_at}
use Rattle.machine.specs.flow_paths.Names.{written, first}
use Rattle.machine.specs.flow_paths.Laid.{FlowProgram}
use Rattle.machine.specs.flow_paths.Points.{FlowPoint}
use Rattle.kept_cells.specs.run_values.declared.items.Item.{Item}
use Rattle.kept_cells.specs.run_values.declared.items.Item.TheVariants as item
use Rattle.kept_cells.specs.run_values.Items.{next_item}
use Rattle.machine.specs.Words.{Word, Int, Null, Cell, fits_type}
use Rattle.machine.specs.Memory.{Memory, Place, HeapCell, cell, words_of, stored, declared, without_frame, freed, as_freed}
use Rattle.machine.specs.Evaluate.{Exception, ConstraintError, ProgramError, StorageError, DataError, EndError, Twice, Evaluated, Done, Raises, Traps, followed_by, value, place_of, text_of, cell_place, variable_place, is_true, decides}
use Rattle.machine.specs.Calls.{Passed, checks_at, written_pos, all_passed, out_checks, with_formals, returns_of}
use Rattle.machine.specs.States.{Waiting, Loop, Return, Frame, State, Normal, Outcome, Goes, Ends, frame_words, stack_words, frame_at_start}
use Rattle.machine.specs.States as machine
use Rattle.machine.specs.Step.{Turn, typing, here, start, waiting, raised, trapped, counted, evaluated, behind, goes, Stored, first_value, type_named, target_pos, leaking_goes, taken_by, copied_back, truth_waiting, bounds, Bounds, number, choice, chosen, loop_of, with_loop, next_value, turned_to, test, turn}
use Rattle.machine.specs.Run.{no_point, step, stepped}

-- Other cells were made since, and are freed.
abbrev pub AreLeft : List HeapCell → List HeapCell → Type 0
AreLeft before cells = (more : List HeapCell) × (cells ≡ before ++ map as_freed more)

pub none_more : (cells : List HeapCell) → AreLeft cells cells
none_more cells = ([], same cells)
  where
    same : (cells : List HeapCell) → cells ≡ cells ++ []
    same [] = refl
    same (c ∷ cells) = ap (λ rest. c ∷ rest) (same cells)

-- The frame over that of the package objects copies nothing back.
abbrev pub CopiesNone : List Frame → Type 0
CopiesNone (f ∷ g ∷ []) = f.returns ≡ []
CopiesNone _ = Unit {0}

module _ (t : Turn) where
  abbrev pub Leaves : Outcome → Type 0
  Leaves (Goes s) = Unit {0}
  Leaves (Ends e s) = AreLeft t.state.memory.cells s.memory.cells

  evaluated_leaves : {A : Type 0} (x : Evaluated A) (f : A → Memory → Outcome) → ((a : A) (m : Memory) → Leaves (f a m)) → Leaves (evaluated t x f)
  evaluated_leaves (Done a n) f on = on a n.memory
  evaluated_leaves (Raises e n) f on = (drop (length t.state.memory.cells) n.memory.cells, refl)
  evaluated_leaves (Traps e n) f on = (drop (length t.state.memory.cells) n.memory.cells, refl)

  raised_leaves : (e : Exception) (m : Memory) → Leaves (raised t e m)
  raised_leaves e m = (drop (length t.state.memory.cells) m.cells, refl)

  -- ---- points that may raise after an evaluation

  abbrev read_by : Place → Item → Memory → Outcome
  read_by k item.Missing m = raised t EndError m
  read_by k item.Bad m = raised t DataError m
  read_by k (item.Number v end) m =
      if fits_type (typing t).table k.of (Int v ∷ []) then Goes (record (behind t (waiting t) (stored (typing t) k (Int v ∷ []) m) 0) { at = end }) else raised t ConstraintError m

  read_leaves : (k : Place) (i : Item) (m : Memory) → Leaves (read_by k i m)
  read_leaves k item.Missing m = raised_leaves EndError m
  read_leaves k item.Bad m = raised_leaves DataError m
  read_leaves k (item.Number v end) m = by (fits_type (typing t).table k.of (Int v ∷ []))
    where
      by : (b : Bool) → Leaves (if b then Goes (record (behind t (waiting t) (stored (typing t) k (Int v ∷ []) m) 0) { at = end }) else raised t ConstraintError m)
      by true = tt
      by false = raised_leaves ConstraintError m

  abbrev machine_trapped : Memory → Outcome
  machine_trapped m = trapped t Twice m

  abbrev freed_by : TypedTree → Place → List Word → Memory → Outcome
  freed_by e k (Cell n ∷ []) m =
      if (cell m n).freed then machine_trapped m
      else leaking_goes (checks_at (typing t) (written_pos t.point.pos (written e)) m (cell_place (designated (typing t).table k.of) n)) (goes t (stored (typing t) k (Null ∷ []) (freed n m)) 0)
  freed_by e k _ m = goes t m 0

  freed_leaves : (e : TypedTree) (k : Place) (ws : List Word) (m : Memory) → Leaves (freed_by e k ws m)
  freed_leaves e k (Cell n ∷ []) m = by (cell m n).freed
    where
      by : (b : Bool) → Leaves (if b then machine_trapped m
          else leaking_goes (checks_at (typing t) (written_pos t.point.pos (written e)) m (cell_place (designated (typing t).table k.of) n)) (goes t (stored (typing t) k (Null ∷ []) (freed n m)) 0))
      by true = (drop (length t.state.memory.cells) m.cells, refl)
      by false = tt
  freed_leaves e k _ m = tt

  abbrev started_by : ℕ → Bounds → Memory → Outcome
  started_by x b m =
      if int_le (number b.low) (number b.high) && not (fits_type (typing t).table (object_at (typing t) x).of b.low && fits_type (typing t).table (object_at (typing t) x).of b.high)
      then raised t ConstraintError m
      else Goes (with_loop (record { parameter = x; low = number b.low; high = number b.high; first = true }) (behind t (waiting t) (declared (length t.outer) x b.low m) 0))

  started_leaves : (x : ℕ) (b : Bounds) (m : Memory) → Leaves (started_by x b m)
  started_leaves x b m = by (int_le (number b.low) (number b.high) && not (fits_type (typing t).table (object_at (typing t) x).of b.low && fits_type (typing t).table (object_at (typing t) x).of b.high))
    where
      l : Loop
      l = record { parameter = x; low = number b.low; high = number b.high; first = true }

      by : (c : Bool) → Leaves (if c then raised t ConstraintError m else Goes (with_loop l (behind t (waiting t) (declared (length t.outer) x b.low m) 0)))
      by true = raised_leaves ConstraintError m
      by false = tt

  chosen_leaves : (count k : ℕ) (m : Memory) → Leaves (chosen t count k m)
  chosen_leaves count k m = by (nat_lt k count)
    where
      by : (b : Bool) → Leaves (if b then goes t m k else raised t ConstraintError m)
      by true = tt
      by false = raised_leaves ConstraintError m

  tested_leaves : (e : TypedTree) (holds fails : ℕ) → Leaves (test t e holds fails)
  tested_leaves e holds fails = evaluated_leaves (value (here t) e (start t)) (λ ws m. goes t m (if is_true ws then holds else fails)) (λ ws m. tt)

  turned_leaves : (x : ℕ) (k : Place) (ws : List Word) (v : Option ℤ) → Leaves (turned_to t x k ws v)
  turned_leaves x k ws (Some v) = tt
  turned_leaves x k ws None = tt

  abbrev given_by : Waiting → List Frame → List Frame
  given_by v [] = []
  given_by v (f ∷ rest) = record f { waits = v ∷ f.waits } ∷ rest

  abbrev held_by : TypedTree → Option ℕ → Outcome
  held_by (More e rest) (Some of) =
      evaluated t (taken_by t of e (start t))
      (λ ws m. Goes (record (behind t (waiting t) m 0) {
        frames = record t.frame { waits = waiting t; next = get_or t.point.next 0 0 } ∷ given_by (record { of = of; words = ws }) t.outer;
      }))
  held_by _ _ = goes t t.state.memory 0

  held_leaves : (v : TypedTree) (r : Option ℕ) → Leaves (held_by v r)
  held_leaves (More e rest) (Some of) =
      evaluated_leaves (taken_by t of e (start t))
      (λ ws m. Goes (record (behind t (waiting t) m 0) {
        frames = record t.frame { waits = waiting t; next = get_or t.point.next 0 0 } ∷ given_by (record { of = of; words = ws }) t.outer;
      }))
      (λ ws m. tt)
  held_leaves (More e rest) None = tt
  held_leaves _ r = tt

  -- ---- calls and their ends

  call_leaves : (sub : ℕ) (actuals : TypedTree) (result : Option ℕ) → Leaves (turn t (Call sub actuals result))
  call_leaves sub actuals result =
      evaluated_leaves (all_passed (here t) (passings (typing t) (sub_at (typing t) sub)) formals actuals (start t)) (λ passed m. entered (nat_le (frame_words t.program (frames passed m)) stack_words) passed m)
      (λ passed m. on (nat_le (frame_words t.program (frames passed m)) stack_words) passed m)
    where
      formals : List ℕ
      formals = (machine.sub_of t.program sub).formals

      frames : List Passed → Memory → List Frame
      frames passed m = frame_at_start sub (returns_of formals passed) ∷ (behind t (waiting t) m 0).frames

      entered : Bool → List Passed → Memory → Outcome
      entered b passed m =
          if b then leaking_goes (out_checks (typing t) t.point.pos m passed actuals)
          (Goes (record (behind t (waiting t) m 0) { frames = frames passed m; memory = with_formals (typing t) (suc (length t.outer)) formals passed m }))
          else raised t StorageError m

      on : (b : Bool) (passed : List Passed) (m : Memory) → Leaves (entered b passed m)
      on true passed m = tt
      on false passed m = raised_leaves StorageError m

  abbrev left_by : List Frame → Memory → Outcome
  left_by (outer ∷ []) m = Ends Normal (counted (record t.state { frames = outer ∷ []; memory = without_frame (length t.outer) m }))
  left_by outer m = Goes (counted (record t.state { frames = outer; memory = without_frame (length t.outer) m }))

  finish_leaves : CopiesNone (t.frame ∷ t.outer) → Leaves (turn t Finish)
  finish_leaves none = by t.outer none
    where
      back : List Frame → Evaluated Memory → Outcome
      back outer x = evaluated t x (λ m now. left_by outer m)

      by : (outer : List Frame) → CopiesNone (t.frame ∷ outer) → Leaves (back outer (copied_back t t.frame.returns (start t)))
      by [] none = evaluated_leaves (copied_back t t.frame.returns (start t)) (λ m now. left_by [] m) (λ m now. tt)
      by (f ∷ []) none = subst (λ (rs : List Return). Leaves (back (f ∷ []) (copied_back t rs (start t)))) (sym none) (none_more t.state.memory.cells)
      by (f ∷ g ∷ rest) none = evaluated_leaves (copied_back t t.frame.returns (start t)) (λ m now. left_by (f ∷ g ∷ rest) m) (λ m now. tt)

  -- ---- all points

  turn_leaves : (i : Instruction) → CopiesNone (t.frame ∷ t.outer) → Leaves (turn t i)
  turn_leaves Skip none = tt
  turn_leaves (Declare x v) none = evaluated_leaves (first_value t (object_at (typing t) x).of v (start t)) (λ ws m. goes t (declared (length t.outer) x ws m) 0) (λ ws m. tt)
  turn_leaves (Assign target e) none =
      evaluated_leaves (followed_by (taken_by t (type_named target) e (start t)) (λ ws n. followed_by (place_of (here t) target n) (λ k n. Done (record { words = ws; place = k }) n)))
      (λ (s : Stored) m. leaking_goes (checks_at (typing t) (target_pos t target) m s.place) (goes t (stored (typing t) s.place s.words m) 0)) (λ s m. tt)
  turn_leaves (Call sub actuals result) none = call_leaves sub actuals result
  turn_leaves (Output text line) none =
      evaluated_leaves (text_of (here t) (first text) (start t)) (λ bytes m. Goes (record (behind t (waiting t) m 0) { output = t.state.output ++ bytes ++ (if line then 10 ∷ [] else []) })) (λ bytes m. tt)
  turn_leaves (Input target) none = evaluated_leaves (place_of (here t) target (start t)) (λ k m. read_by k (next_item t.input t.state.at) m) (λ k m. read_leaves k (next_item t.input t.state.at) m)
  turn_leaves (Release e) none = evaluated_leaves (place_of (here t) e (start t)) (λ k m. freed_by e k (words_of (typing t) m k) m) (λ k m. freed_leaves e k (words_of (typing t) m k) m)
  turn_leaves (Test e) none = tested_leaves e 0 1
  turn_leaves (Choose e choices) none =
      evaluated_leaves (value (here t) e (start t)) (λ ws m. chosen t (length choices) (choice choices ws) m) (λ ws m. chosen_leaves (length choices) (choice choices ws) m)
  turn_leaves (Start x reversed low high) none = evaluated_leaves (bounds t low high (start t)) (λ b m. started_by x b m) (λ b m. started_leaves x b m)
  turn_leaves (Next x reversed low high) none =
      let k : Place = variable_place (here t) x in
      let ws : List Word = words_of (typing t) t.state.memory k in
      turned_leaves x k ws (next_value reversed (loop_of x t.frame.loops) (number ws))
  turn_leaves (Evaluate u e (Some op)) none =
      evaluated_leaves (value (here t) e (start t)) (λ ws m. Goes (behind t (truth_waiting ws ∷ waiting t) m (if decides op ws then 1 else 0))) (λ ws m. tt)
  turn_leaves (Evaluate u e None) none =
      evaluated_leaves (value (here t) e (start t)) (λ ws m. Goes (behind t (truth_waiting ws ∷ drop 1 (waiting t)) m 0)) (λ ws m. tt)
  turn_leaves (LeaveLoop (More e rest)) none = tested_leaves e 0 1
  turn_leaves (LeaveLoop e) none = tt
  turn_leaves (Hold v) none = held_leaves v (machine.sub_of t.program t.frame.sub).result
  turn_leaves (EndScope x) none = tt
  turn_leaves Finish none = finish_leaves none
  turn_leaves Fall none = raised_leaves ProgramError t.state.memory

-- ---- steps

abbrev pub StepLeaves : State → Outcome → Type 0
StepLeaves before (Goes s) = Unit {0}
StepLeaves before (Ends e s) = AreLeft before.memory.cells s.memory.cells

module _ (program : FlowProgram) (input : List ℕ) (s : State) where
  abbrev turn_of : Frame → List Frame → FlowPoint → Turn
  turn_of f outer p = record { program = program; input = input; point = p; state = s; frame = f; outer = outer }

  of_turn : (f : Frame) (outer : List Frame) (p : FlowPoint) (o : Outcome) → Leaves (turn_of f outer p) o → StepLeaves s o
  of_turn f outer p (Goes x) is = tt
  of_turn f outer p (Ends e x) is = is

  frames_leave : (fs : List Frame) → CopiesNone fs → StepLeaves s (stepped program input s fs)
  frames_leave [] none = none_more s.memory.cells
  frames_leave (f ∷ outer) none =
      let p : FlowPoint = get_or (machine.sub_of program f.sub).points f.next no_point in
      of_turn f outer p (turn (turn_of f outer p) p.instr) (turn_leaves (turn_of f outer p) p.instr none)

  -- The law.
  pub step_leaves : CopiesNone s.frames → StepLeaves s (step program input s)
  step_leaves none = frames_leave s.frames none
