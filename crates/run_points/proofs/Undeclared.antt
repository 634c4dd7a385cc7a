-- An evaluation of the machine leaves objects of frames that aren't there without a value.
use Rattle.std.proofs.Common.{ℕ, zero, suc, ◌+◌, ◌<◌, true, false, Bool, List, [], ◌∷◌, ◌++◌, length, take, drop, arith, Option, Some, None, nat_le, ℤ, int_le, if◌then◌else◌}
use Rattle.std.specs.Prelude.{not, ◌&&◌, ◌-ℤ◌, unsigned_abs}
use Rattle.typed_tree.specs.declared.node.ShortCircuit.{ShortCircuit}
use Rattle.resolved_tree.specs.declared.operator.Operator.{Operator}
use Rattle.resolved_tree.specs.declared.operator.UnaryOperator.{UnaryOperator}
use Rattle.type_definitions.specs.declared.table.Static.{Static}
use Rattle.type_definitions.specs.Types.{shape_of, is_owning}
use Rattle.type_definitions.specs.Entries.{integer, boolean}
use Rattle.type_definitions.specs.Statics.{operate, one}
use Rattle.typed_tree.specs.Trees.{TypedTree, Number, Literal, Name, Component as IntoComponent, Designated, Element, Call, EndOfFile, Parens, Unary, Binary, Short, IsNull, Aggregate, Alike, New, More}
use Rattle.typed_tree.specs.Trees as typed
use Rattle.flow_paths.specs.Objects.{Typing, is_package_object, designated}
use Rattle.flow_paths.specs.Names.{has_call}
use Rattle.machine.specs.Words.{Word, Int, Cell, access_offsets, element_type, element_count, repeated, fits_type}
use Rattle.machine.specs.Memory.{Memory, Slot, Place, Base, OfVariable, OfCell, cell, slots_at, slots_of, words_of, gone_at, put, moved_out, with_new_cell, live_words}
use Rattle.machine.specs.Evaluate.{Here, Now, Evaluated, Done, Raises, Traps, ConstraintError, StorageError, Touched, followed_by, Step, ToComponent, ToElement, ToDesignated, variable_place, cell_place, designated_place, stepped, walked, checked, Use, AsValue, AsView, held_or_taken, truth, is_null, is_whole, value_of, waited, given, operated, operated_alone, decides, indexed, allocated, heap_words, part_type, evaluate, steps_of, parts_of, initial}
use Rattle.run_points.specs.States.{IsLow, AreUndeclared}
use Rattle.run_points.proofs.Stacks.{undeclared_on}

-- Frames from a number on aren't there in what it ends with.
abbrev pub Keeps : {A : Type 0} → Typing → ℕ → Evaluated A → Type 0
Keeps s n (Done a now) = AreUndeclared s n now.memory
Keeps s n (Raises e now) = AreUndeclared s n now.memory
Keeps s n (Traps t now) = AreUndeclared s n now.memory

abbrev pub LowPlace : Typing → ℕ → Evaluated Place → Type 0
LowPlace s n (Done p now) = IsLow n p.base × AreUndeclared s n now.memory
LowPlace s n (Raises e now) = AreUndeclared s n now.memory
LowPlace s n (Traps t now) = AreUndeclared s n now.memory

pub keeps_on : {A B : Type 0} (s : Typing) (n : ℕ) (ev : Evaluated A) (f : A → Now → Evaluated B) → Keeps s n ev
    → ((a : A) (now : Now) → AreUndeclared s n now.memory → Keeps s n (f a now)) → Keeps s n (followed_by ev f)
keeps_on s n (Done a now) f is on = on a now is
keeps_on s n (Raises e now) f is on = is
keeps_on s n (Traps t now) f is on = is

low_on : {B : Type 0} (s : Typing) (n : ℕ) (ev : Evaluated Place) (f : Place → Now → Evaluated B) → LowPlace s n ev
    → ((p : Place) (now : Now) → IsLow n p.base → AreUndeclared s n now.memory → Keeps s n (f p now)) → Keeps s n (followed_by ev f)
low_on s n (Done p now) f is on = on p now is.0 is.1
low_on s n (Raises e now) f is on = is
low_on s n (Traps t now) f is on = is

-- ---- places

designated_low : (s : Typing) (n t : ℕ) (ws : List Word) (now : Now) → AreUndeclared s n now.memory → LowPlace s n (designated_place t ws now)
designated_low s n t (Cell k ∷ []) now is = by (cell now.memory k).freed
  where
    by : (b : Bool) → LowPlace s n (if b then Traps Touched now else Done (cell_place t k) now)
    by true = is
    by false = (tt, is)
designated_low s n t _ now is = is

step_low : (s : Typing) (n : ℕ) (step : Step) (p : Place) (now : Now) → IsLow n p.base → AreUndeclared s n now.memory → LowPlace s n (stepped s step p now)
step_low s n (ToComponent i) p now low is = (low, is)
step_low s n (ToElement i) p now low is = (low, is)
step_low s n ToDesignated p now low is = designated_low s n (designated s.table p.of) (words_of s now.memory p) now is

walk_low : (s : Typing) (n : ℕ) (way : List Step) (p : Place) (now : Now) → IsLow n p.base → AreUndeclared s n now.memory → LowPlace s n (walked s way p now)
walk_low s n [] p now low is = (low, is)
walk_low s n (step ∷ way) p now low is = by (stepped s step p now) (step_low s n step p now low is) (λ q later low is. walk_low s n way q later low is)
  where
    by : (ev : Evaluated Place) → LowPlace s n ev → ((q : Place) (later : Now) → IsLow n q.base → AreUndeclared s n later.memory → LowPlace s n (walked s way q later))
        → LowPlace s n (followed_by ev (walked s way))
    by (Done q later) is on = on q later is.0 is.1
    by (Raises e later) is on = is
    by (Traps t later) is on = is

variable_low : (h : Here) (n x : ℕ) → h.frame < n → IsLow n (variable_place h x).base
variable_low h n x low = by (is_package_object h.typing x)
  where
    first : (a n : ℕ) → a < n → 0 < n
    first a n low = omega (arith, low)

    by : (b : Bool) → (if b then 0 else h.frame) < n
    by true = first h.frame n low
    by false = low

pub put_low : (s : Typing) (n : ℕ) (b : Base) (slots : List Slot) (m : Memory) → IsLow n b → AreUndeclared s n m → AreUndeclared s n (put b slots m)
put_low s n (OfVariable frame x) slots m low is = undeclared_on s n frame x slots m low is
put_low s n (OfCell zero) slots m low is = is
put_low s n (OfCell (suc k)) slots m low is = is

moved_low : (s : Typing) (n : ℕ) (p : Place) (m : Memory) → IsLow n p.base → AreUndeclared s n m → AreUndeclared s n (moved_out s p m)
moved_low s n p m low is =
    put_low s n p.base (take p.at (slots_at s m p.base) ++ slots ++ drop (p.at + length slots) (slots_at s m p.base)) m low is
  where
    slots : List Slot
    slots = gone_at (access_offsets s.table p.of) (slots_of s m p)

taken_low : (h : Here) (n : ℕ) (u : Use) (p : Place) (now : Now) → IsLow n p.base → AreUndeclared h.typing n now.memory → Keeps h.typing n (held_or_taken h u p now)
taken_low h n AsView p now low is = is
taken_low h n AsValue p now low is = by (is_owning h.typing.table p.of)
  where
    by : (b : Bool) → Keeps h.typing n (Done (words_of h.typing now.memory p) (if b then record now { memory = moved_out h.typing p now.memory } else now))
    by true = moved_low h.typing n p now.memory low is
    by false = is

-- ---- operators

given_low : (s : Typing) (n : ℕ) (o : Option Static) (now : Now) → AreUndeclared s n now.memory → Keeps s n (given o now)
given_low s n None now is = is
given_low s n (Some v) now is = is

operated_low : (s : Typing) (n : ℕ) (op : Operator) (a b : List Word) (now : Now) → AreUndeclared s n now.memory → Keeps s n (operated op a b now)
operated_low s n op (a ∷ []) (b ∷ []) now is = given_low s n (operate (is_whole a) (not (is_whole a)) op boolean (value_of a) (value_of b)) now is
operated_low s n op _ _ now is = is

alone_low : (s : Typing) (n : ℕ) (op : UnaryOperator) (a : List Word) (now : Now) → AreUndeclared s n now.memory → Keeps s n (operated_alone op a now)
alone_low s n op (a ∷ []) now is = given_low s n (one op (record { base = if is_whole a then integer else boolean; value = value_of a; sound = true })) now is
alone_low s n op _ now is = is

pub checked_low : (h : Here) (n t : ℕ) (ws : List Word) (now : Now) → AreUndeclared h.typing n now.memory → Keeps h.typing n (checked h t ws now)
checked_low h n t ws now is = by (fits_type h.typing.table t ws)
  where
    by : (b : Bool) → Keeps h.typing n (if b then Done ws now else Raises ConstraintError now)
    by true = is
    by false = is

indexed_low : (s : Typing) (n : ℕ) (low high : ℤ) (ws : List Word) (now : Now) → AreUndeclared s n now.memory → Keeps s n (indexed low high ws now)
indexed_low s n low high (Int v ∷ []) now is = by (int_le low v && int_le v high)
  where
    by : (b : Bool) → Keeps s n (if b then Done (unsigned_abs (v -ℤ low)) now else Raises ConstraintError now)
    by true = is
    by false = is
indexed_low s n low high _ now is = is

allocated_low : (s : Typing) (n t : ℕ) (ws : List Word) (now : Now) → AreUndeclared s n now.memory → Keeps s n (allocated t ws now)
allocated_low s n t ws now is = by (nat_le (live_words now.memory + length ws) heap_words)
  where
    by : (b : Bool)
        → Keeps s n (if b then Done (Cell (suc (length now.memory.cells)) ∷ []) (record now { memory = with_new_cell t ws now.memory }) else Raises StorageError now)
    by true = is
    by false = is

-- With a call on the right the value waits.
short_low : (h : Here) (n : ℕ) (calls : Bool) (ev : Evaluated (List Word)) (op : ShortCircuit) (ev' : Now → Evaluated (List Word)) (now : Now) → AreUndeclared h.typing n now.memory
    → Keeps h.typing n ev → ((later : Now) → AreUndeclared h.typing n later.memory → Keeps h.typing n (ev' later))
    → Keeps h.typing n (if calls then waited now else followed_by ev (λ left later. if decides op left then Done left later else ev' later))
short_low h n true ev op ev' now is left right = is
short_low h n false ev op ev' now is left right = keeps_on h.typing n ev (λ left later. if decides op left then Done left later else ev' later) left (λ ws later is. by (decides op ws) ws later is)
  where
    by : (b : Bool) (ws : List Word) (later : Now) → AreUndeclared h.typing n later.memory → Keeps h.typing n (if b then Done ws later else ev' later)
    by true ws later is = is
    by false ws later is = right later is

-- ---- expressions

mutual
  unfolding evaluate steps_of parts_of initial

  pub evaluate_low : (h : Here) (n : ℕ) → h.frame < n → (u : Use) (e : TypedTree) (now : Now) → AreUndeclared h.typing n now.memory → Keeps h.typing n (evaluate h u e now)
  evaluate_low h n low u (Number v) now is = is
  evaluate_low h n low u (Literal k) now is = is
  evaluate_low h n low u typed.Null now is = is
  evaluate_low h n low u (Name p x steps t) now is =
      keeps_on h.typing n (steps_of h steps now) (λ way now. followed_by (walked h.typing way (variable_place h x) now) (held_or_taken h u)) (steps_low h n low steps now is)
      (λ way now is. low_on h.typing n (walked h.typing way (variable_place h x) now) (held_or_taken h u) (walk_low h.typing n way (variable_place h x) now (variable_low h n x low) is)
      (λ p now low is. taken_low h n u p now low is))
  evaluate_low h n low u (Call p sub actuals) now is = is
  evaluate_low h n low u EndOfFile now is = is
  evaluate_low h n low u (Parens e) now is = evaluate_low h n low AsValue e now is
  evaluate_low h n low u (Unary op e) now is =
      keeps_on h.typing n (evaluate h AsValue e now) (operated_alone op) (evaluate_low h n low AsValue e now is) (λ ws now is. alone_low h.typing n op ws now is)
  evaluate_low h n low u (Binary op a b) now is =
      keeps_on h.typing n (evaluate h AsValue a now) (λ left now. followed_by (evaluate h AsValue b now) (operated op left)) (evaluate_low h n low AsValue a now is)
      (λ left now is. keeps_on h.typing n (evaluate h AsValue b now) (operated op left) (evaluate_low h n low AsValue b now is) (λ ws now is. operated_low h.typing n op left ws now is))
  evaluate_low h n low u (Short op p a q b) now is =
      short_low h n (has_call b) (evaluate h AsValue a now) op (evaluate h AsValue b) now is (evaluate_low h n low AsValue a now is) (λ now is. evaluate_low h n low AsValue b now is)
  evaluate_low h n low u (IsNull equal e) now is =
      keeps_on h.typing n (evaluate h AsView e now) (λ ws now. Done (truth (if is_null ws then equal else not equal)) now) (evaluate_low h n low AsView e now is) (λ ws now is. is)
  evaluate_low h n low u (Aggregate t es) now is = parts_low h n low t 0 es now is
  evaluate_low h n low u (Alike t e) now is =
      keeps_on h.typing n (evaluate h AsValue e now) (λ ws now. followed_by (checked h (element_type h.typing.table t) ws now) (λ ws now. Done (repeated (element_count h.typing.table t) ws) now))
      (evaluate_low h n low AsValue e now is)
      (λ ws now is. keeps_on h.typing n (checked h (element_type h.typing.table t) ws now) (λ ws now. Done (repeated (element_count h.typing.table t) ws) now)
      (checked_low h n (element_type h.typing.table t) ws now is) (λ ws now is. is))
  evaluate_low h n low u (New t v) now is =
      keeps_on h.typing n (initial h t v now) (allocated t) (initial_low h n low t v now is) (λ ws now is. allocated_low h.typing n t ws now is)
  evaluate_low h n low u _ now is = is

  pub steps_low : (h : Here) (n : ℕ) → h.frame < n → (e : TypedTree) (now : Now) → AreUndeclared h.typing n now.memory → Keeps h.typing n (steps_of h e now)
  steps_low h n low (IntoComponent i rest) now is =
      keeps_on h.typing n (steps_of h rest now) (λ way now. Done (ToComponent i ∷ way) now) (steps_low h n low rest now is) (λ way now is. is)
  steps_low h n low (Designated rest) now is =
      keeps_on h.typing n (steps_of h rest now) (λ way now. Done (ToDesignated ∷ way) now) (steps_low h n low rest now is) (λ way now is. is)
  steps_low h n low (Element index from to rest) now is =
      keeps_on h.typing n (evaluate h AsValue index now)
      (λ ws now. followed_by (indexed from to ws now) (λ k now. followed_by (steps_of h rest now) (λ way now. Done (ToElement k ∷ way) now))) (evaluate_low h n low AsValue index now is)
      (λ ws now is. keeps_on h.typing n (indexed from to ws now) (λ k now. followed_by (steps_of h rest now) (λ way now. Done (ToElement k ∷ way) now)) (indexed_low h.typing n from to ws now is)
      (λ k now is. keeps_on h.typing n (steps_of h rest now) (λ way now. Done (ToElement k ∷ way) now) (steps_low h n low rest now is) (λ way now is. is)))
  steps_low h n low _ now is = is

  pub parts_low : (h : Here) (n : ℕ) → h.frame < n → (t i : ℕ) (e : TypedTree) (now : Now) → AreUndeclared h.typing n now.memory → Keeps h.typing n (parts_of h t i e now)
  parts_low h n low t i (More e rest) now is =
      keeps_on h.typing n (evaluate h AsValue e now)
      (λ ws now. followed_by (checked h (part_type (shape_of h.typing.table t) i) ws now) (λ ws now. followed_by (parts_of h t (suc i) rest now) (λ more now. Done (ws ++ more) now)))
      (evaluate_low h n low AsValue e now is)
      (λ ws now is. keeps_on h.typing n (checked h (part_type (shape_of h.typing.table t) i) ws now) (λ ws now. followed_by (parts_of h t (suc i) rest now) (λ more now. Done (ws ++ more) now))
      (checked_low h n (part_type (shape_of h.typing.table t) i) ws now is)
      (λ ws now is. keeps_on h.typing n (parts_of h t (suc i) rest now) (λ more now. Done (ws ++ more) now) (parts_low h n low t (suc i) rest now is) (λ more now is. is)))
  parts_low h n low t i _ now is = is

  pub initial_low : (h : Here) (n : ℕ) → h.frame < n → (t : ℕ) (e : TypedTree) (now : Now) → AreUndeclared h.typing n now.memory → Keeps h.typing n (initial h t e now)
  initial_low h n low t (More e rest) now is =
      keeps_on h.typing n (evaluate h AsValue e now) (checked h t) (evaluate_low h n low AsValue e now is) (λ ws now is. checked_low h n t ws now is)
  initial_low h n low t _ now is = is
