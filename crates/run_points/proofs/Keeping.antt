-- What moves and new cells keep, all evaluations of the machine keep.
use Rattle.std.proofs.Common.{ℕ, suc, ◌+◌, true, false, Bool, List, [], ◌∷◌, ◌++◌, length, Option, Some, None, nat_le, ℤ, int_le, if◌then◌else◌}
use Rattle.std.specs.Prelude.{not, ◌&&◌, ◌-ℤ◌, unsigned_abs}
use Rattle.typed_tree.specs.declared.node.ShortCircuit.{ShortCircuit}
use Rattle.resolved_tree.specs.declared.operator.Operator.{Operator}
use Rattle.resolved_tree.specs.declared.operator.UnaryOperator.{UnaryOperator}
use Rattle.type_definitions.specs.declared.table.Static.{Static}
use Rattle.type_definitions.specs.Types.{shape_of, is_owning}
use Rattle.type_definitions.specs.Entries.{boolean}
use Rattle.type_definitions.specs.Statics.{operate, one}
use Rattle.type_definitions.specs.Entries.{integer}
use Rattle.typed_tree.specs.Trees.{TypedTree, Number, Literal, Name, Component as IntoComponent, Designated, Element, Call, EndOfFile, Parens, Unary, Binary, Short, IsNull, Aggregate, Alike, New, More}
use Rattle.typed_tree.specs.Trees as typed
use Rattle.flow_paths.specs.Objects.{designated}
use Rattle.flow_paths.specs.Names.{has_call}
use Rattle.machine.specs.Words.{Word, Int, Cell, element_type, element_count, repeated, fits_type}
use Rattle.machine.specs.Memory.{Memory, Place, Base, OfCell, cell, words_of, moved_out, with_new_cell, live_words}
use Rattle.machine.specs.Evaluate.{Here, Now, Evaluated, Done, Raises, Traps, ConstraintError, StorageError, Touched, followed_by, Step, ToComponent, ToElement, ToDesignated, variable_place, cell_place, designated_place, stepped, walked, checked, Use, AsValue, AsView, held_or_taken, truth, is_null, is_whole, value_of, waited, given, operated, operated_alone, decides, indexed, allocated, heap_words, part_type, evaluate, steps_of, parts_of, initial, place_of}

-- Moves out of some places and new cells keep this.
pub record IsKeeping (h : Here) (L : Base → Type 0) (Q : Memory → Type 0) : Type 0 where
  pub variables : (x : ℕ) → L (variable_place h x).base
  pub cells : (n : ℕ) → L (OfCell n)
  pub moves : (p : Place) (m : Memory) → L p.base → Q m → Q (moved_out h.typing p m)
  pub news : (t : ℕ) (ws : List Word) (m : Memory) → Q m → Q (with_new_cell t ws m)

-- It holds of the memory with which an evaluation ends.
abbrev pub Keeps : {A : Type 0} → (Memory → Type 0) → Evaluated A → Type 0
Keeps Q (Done a now) = Q now.memory
Keeps Q (Raises e now) = Q now.memory
Keeps Q (Traps t now) = Q now.memory

abbrev pub KeepsPlace : (Base → Type 0) → (Memory → Type 0) → Evaluated Place → Type 0
KeepsPlace L Q (Done p now) = L p.base × Q now.memory
KeepsPlace L Q (Raises e now) = Q now.memory
KeepsPlace L Q (Traps t now) = Q now.memory

pub keeps_on : {A B : Type 0} (Q : Memory → Type 0) (ev : Evaluated A) (f : A → Now → Evaluated B) → Keeps Q ev → ((a : A) (now : Now) → Q now.memory → Keeps Q (f a now))
    → Keeps Q (followed_by ev f)
keeps_on Q (Done a now) f is on = on a now is
keeps_on Q (Raises e now) f is on = is
keeps_on Q (Traps t now) f is on = is

pub place_on : {B : Type 0} (L : Base → Type 0) (Q : Memory → Type 0) (ev : Evaluated Place) (f : Place → Now → Evaluated B) → KeepsPlace L Q ev
    → ((p : Place) (now : Now) → L p.base → Q now.memory → Keeps Q (f p now)) → Keeps Q (followed_by ev f)
place_on L Q (Done p now) f is on = on p now is.0 is.1
place_on L Q (Raises e now) f is on = is
place_on L Q (Traps t now) f is on = is

then_place : {A : Type 0} (L : Base → Type 0) (Q : Memory → Type 0) (ev : Evaluated A) (f : A → Now → Evaluated Place) → Keeps Q ev
    → ((a : A) (now : Now) → Q now.memory → KeepsPlace L Q (f a now)) → KeepsPlace L Q (followed_by ev f)
then_place L Q (Done a now) f is on = on a now is
then_place L Q (Raises e now) f is on = is
then_place L Q (Traps t now) f is on = is

-- ---- places

designated_keeps : (h : Here) (L : Base → Type 0) (Q : Memory → Type 0) → IsKeeping h L Q → (t : ℕ) (ws : List Word) (now : Now) → Q now.memory → KeepsPlace L Q (designated_place t ws now)
designated_keeps h L Q keeps t (Cell k ∷ []) now is = by (cell now.memory k).freed
  where
    by : (b : Bool) → KeepsPlace L Q (if b then Traps Touched now else Done (cell_place t k) now)
    by true = is
    by false = (keeps.cells k, is)
designated_keeps h L Q keeps t _ now is = is

step_keeps : (h : Here) (L : Base → Type 0) (Q : Memory → Type 0) → IsKeeping h L Q → (step : Step) (p : Place) (now : Now) → L p.base → Q now.memory
    → KeepsPlace L Q (stepped h.typing step p now)
step_keeps h L Q keeps (ToComponent i) p now low is = (low, is)
step_keeps h L Q keeps (ToElement i) p now low is = (low, is)
step_keeps h L Q keeps ToDesignated p now low is = designated_keeps h L Q keeps (designated h.typing.table p.of) (words_of h.typing now.memory p) now is

walk_keeps : (h : Here) (L : Base → Type 0) (Q : Memory → Type 0) → IsKeeping h L Q → (way : List Step) (p : Place) (now : Now) → L p.base → Q now.memory
    → KeepsPlace L Q (walked h.typing way p now)
walk_keeps h L Q keeps [] p now low is = (low, is)
walk_keeps h L Q keeps (step ∷ way) p now low is = by (stepped h.typing step p now) (step_keeps h L Q keeps step p now low is) (λ q later low is. walk_keeps h L Q keeps way q later low is)
  where
    by : (ev : Evaluated Place) → KeepsPlace L Q ev → ((q : Place) (later : Now) → L q.base → Q later.memory → KeepsPlace L Q (walked h.typing way q later))
        → KeepsPlace L Q (followed_by ev (walked h.typing way))
    by (Done q later) is on = on q later is.0 is.1
    by (Raises e later) is on = is
    by (Traps t later) is on = is

taken_keeps : (h : Here) (L : Base → Type 0) (Q : Memory → Type 0) → IsKeeping h L Q → (u : Use) (p : Place) (now : Now) → L p.base → Q now.memory → Keeps Q (held_or_taken h u p now)
taken_keeps h L Q keeps AsView p now low is = is
taken_keeps h L Q keeps AsValue p now low is = by (is_owning h.typing.table p.of)
  where
    by : (b : Bool) → Keeps Q (Done (words_of h.typing now.memory p) (if b then record now { memory = moved_out h.typing p now.memory } else now))
    by true = keeps.moves p now.memory low is
    by false = is

-- ---- operators

given_keeps : (Q : Memory → Type 0) (o : Option Static) (now : Now) → Q now.memory → Keeps Q (given o now)
given_keeps Q None now is = is
given_keeps Q (Some v) now is = is

operated_keeps : (Q : Memory → Type 0) (op : Operator) (a b : List Word) (now : Now) → Q now.memory → Keeps Q (operated op a b now)
operated_keeps Q op (a ∷ []) (b ∷ []) now is = given_keeps Q (operate (is_whole a) (not (is_whole a)) op boolean (value_of a) (value_of b)) now is
operated_keeps Q op _ _ now is = is

alone_keeps : (Q : Memory → Type 0) (op : UnaryOperator) (a : List Word) (now : Now) → Q now.memory → Keeps Q (operated_alone op a now)
alone_keeps Q op (a ∷ []) now is = given_keeps Q (one op (record { base = if is_whole a then integer else boolean; value = value_of a; sound = true })) now is
alone_keeps Q op _ now is = is

pub checked_keeps : (h : Here) (Q : Memory → Type 0) (t : ℕ) (ws : List Word) (now : Now) → Q now.memory → Keeps Q (checked h t ws now)
checked_keeps h Q t ws now is = by (fits_type h.typing.table t ws)
  where
    by : (b : Bool) → Keeps Q (if b then Done ws now else Raises ConstraintError now)
    by true = is
    by false = is

indexed_keeps : (Q : Memory → Type 0) (low high : ℤ) (ws : List Word) (now : Now) → Q now.memory → Keeps Q (indexed low high ws now)
indexed_keeps Q low high (Int v ∷ []) now is = by (int_le low v && int_le v high)
  where
    by : (b : Bool) → Keeps Q (if b then Done (unsigned_abs (v -ℤ low)) now else Raises ConstraintError now)
    by true = is
    by false = is
indexed_keeps Q low high _ now is = is

allocated_keeps : (h : Here) (L : Base → Type 0) (Q : Memory → Type 0) → IsKeeping h L Q → (t : ℕ) (ws : List Word) (now : Now) → Q now.memory → Keeps Q (allocated t ws now)
allocated_keeps h L Q keeps t ws now is = by (nat_le (live_words now.memory + length ws) heap_words)
  where
    by : (b : Bool)
        → Keeps Q (if b then Done (Cell (suc (length now.memory.cells)) ∷ []) (record now { memory = with_new_cell t ws now.memory }) else Raises StorageError now)
    by true = keeps.news t ws now.memory is
    by false = is

-- With a call on the right the value waits.
short_keeps : (Q : Memory → Type 0) (calls : Bool) (ev : Evaluated (List Word)) (op : ShortCircuit) (right : Now → Evaluated (List Word)) (now : Now) → Q now.memory
    → Keeps Q ev → ((later : Now) → Q later.memory → Keeps Q (right later))
    → Keeps Q (if calls then waited now else followed_by ev (λ left later. if decides op left then Done left later else right later))
short_keeps Q true ev op right now is first on = is
short_keeps Q false ev op right now is first on = keeps_on Q ev (λ left later. if decides op left then Done left later else right later) first (λ ws later is. by (decides op ws) ws later is)
  where
    by : (b : Bool) (ws : List Word) (later : Now) → Q later.memory → Keeps Q (if b then Done ws later else right later)
    by true ws later is = is
    by false ws later is = on later is

-- ---- expressions

mutual
  unfolding evaluate steps_of parts_of initial

  pub evaluate_keeps : (h : Here) (L : Base → Type 0) (Q : Memory → Type 0) → IsKeeping h L Q → (u : Use) (e : TypedTree) (now : Now) → Q now.memory → Keeps Q (evaluate h u e now)
  evaluate_keeps h L Q keeps u (Number v) now is = is
  evaluate_keeps h L Q keeps u (Literal k) now is = is
  evaluate_keeps h L Q keeps u typed.Null now is = is
  evaluate_keeps h L Q keeps u (Name p x steps t) now is =
      keeps_on Q (steps_of h steps now) (λ way now. followed_by (walked h.typing way (variable_place h x) now) (held_or_taken h u)) (steps_keep h L Q keeps steps now is)
      (λ way now is. place_on L Q (walked h.typing way (variable_place h x) now) (held_or_taken h u) (walk_keeps h L Q keeps way (variable_place h x) now (keeps.variables x) is)
      (λ p now low is. taken_keeps h L Q keeps u p now low is))
  evaluate_keeps h L Q keeps u (Call p sub actuals) now is = is
  evaluate_keeps h L Q keeps u EndOfFile now is = is
  evaluate_keeps h L Q keeps u (Parens e) now is = evaluate_keeps h L Q keeps AsValue e now is
  evaluate_keeps h L Q keeps u (Unary op e) now is =
      keeps_on Q (evaluate h AsValue e now) (operated_alone op) (evaluate_keeps h L Q keeps AsValue e now is) (λ ws now is. alone_keeps Q op ws now is)
  evaluate_keeps h L Q keeps u (Binary op a b) now is =
      keeps_on Q (evaluate h AsValue a now) (λ left now. followed_by (evaluate h AsValue b now) (operated op left)) (evaluate_keeps h L Q keeps AsValue a now is)
      (λ left now is. keeps_on Q (evaluate h AsValue b now) (operated op left) (evaluate_keeps h L Q keeps AsValue b now is) (λ ws now is. operated_keeps Q op left ws now is))
  evaluate_keeps h L Q keeps u (Short op p a q b) now is =
      short_keeps Q (has_call b) (evaluate h AsValue a now) op (evaluate h AsValue b) now is (evaluate_keeps h L Q keeps AsValue a now is) (λ now is. evaluate_keeps h L Q keeps AsValue b now is)
  evaluate_keeps h L Q keeps u (IsNull equal e) now is =
      keeps_on Q (evaluate h AsView e now) (λ ws now. Done (truth (if is_null ws then equal else not equal)) now) (evaluate_keeps h L Q keeps AsView e now is) (λ ws now is. is)
  evaluate_keeps h L Q keeps u (Aggregate t es) now is = parts_keep h L Q keeps t 0 es now is
  evaluate_keeps h L Q keeps u (Alike t e) now is =
      keeps_on Q (evaluate h AsValue e now) (λ ws now. followed_by (checked h (element_type h.typing.table t) ws now) (λ ws now. Done (repeated (element_count h.typing.table t) ws) now))
      (evaluate_keeps h L Q keeps AsValue e now is)
      (λ ws now is. keeps_on Q (checked h (element_type h.typing.table t) ws now) (λ ws now. Done (repeated (element_count h.typing.table t) ws) now)
      (checked_keeps h Q (element_type h.typing.table t) ws now is) (λ ws now is. is))
  evaluate_keeps h L Q keeps u (New t v) now is =
      keeps_on Q (initial h t v now) (allocated t) (initial_keeps h L Q keeps t v now is) (λ ws now is. allocated_keeps h L Q keeps t ws now is)
  evaluate_keeps h L Q keeps u _ now is = is

  pub steps_keep : (h : Here) (L : Base → Type 0) (Q : Memory → Type 0) → IsKeeping h L Q → (e : TypedTree) (now : Now) → Q now.memory → Keeps Q (steps_of h e now)
  steps_keep h L Q keeps (IntoComponent i rest) now is =
      keeps_on Q (steps_of h rest now) (λ way now. Done (ToComponent i ∷ way) now) (steps_keep h L Q keeps rest now is) (λ way now is. is)
  steps_keep h L Q keeps (Designated rest) now is =
      keeps_on Q (steps_of h rest now) (λ way now. Done (ToDesignated ∷ way) now) (steps_keep h L Q keeps rest now is) (λ way now is. is)
  steps_keep h L Q keeps (Element index from to rest) now is =
      keeps_on Q (evaluate h AsValue index now)
      (λ ws now. followed_by (indexed from to ws now) (λ k now. followed_by (steps_of h rest now) (λ way now. Done (ToElement k ∷ way) now))) (evaluate_keeps h L Q keeps AsValue index now is)
      (λ ws now is. keeps_on Q (indexed from to ws now) (λ k now. followed_by (steps_of h rest now) (λ way now. Done (ToElement k ∷ way) now)) (indexed_keeps Q from to ws now is)
      (λ k now is. keeps_on Q (steps_of h rest now) (λ way now. Done (ToElement k ∷ way) now) (steps_keep h L Q keeps rest now is) (λ way now is. is)))
  steps_keep h L Q keeps _ now is = is

  pub parts_keep : (h : Here) (L : Base → Type 0) (Q : Memory → Type 0) → IsKeeping h L Q → (t i : ℕ) (e : TypedTree) (now : Now) → Q now.memory → Keeps Q (parts_of h t i e now)
  parts_keep h L Q keeps t i (More e rest) now is =
      keeps_on Q (evaluate h AsValue e now)
      (λ ws now. followed_by (checked h (part_type (shape_of h.typing.table t) i) ws now) (λ ws now. followed_by (parts_of h t (suc i) rest now) (λ more now. Done (ws ++ more) now)))
      (evaluate_keeps h L Q keeps AsValue e now is)
      (λ ws now is. keeps_on Q (checked h (part_type (shape_of h.typing.table t) i) ws now) (λ ws now. followed_by (parts_of h t (suc i) rest now) (λ more now. Done (ws ++ more) now))
      (checked_keeps h Q (part_type (shape_of h.typing.table t) i) ws now is)
      (λ ws now is. keeps_on Q (parts_of h t (suc i) rest now) (λ more now. Done (ws ++ more) now) (parts_keep h L Q keeps t (suc i) rest now is) (λ more now is. is)))
  parts_keep h L Q keeps t i _ now is = is

  pub initial_keeps : (h : Here) (L : Base → Type 0) (Q : Memory → Type 0) → IsKeeping h L Q → (t : ℕ) (e : TypedTree) (now : Now) → Q now.memory → Keeps Q (initial h t e now)
  initial_keeps h L Q keeps t (More e rest) now is =
      keeps_on Q (evaluate h AsValue e now) (checked h t) (evaluate_keeps h L Q keeps AsValue e now is) (λ ws now is. checked_keeps h Q t ws now is)
  initial_keeps h L Q keeps t _ now is = is

-- The place of a name.
pub place_keeps : (h : Here) (L : Base → Type 0) (Q : Memory → Type 0) → IsKeeping h L Q → (e : TypedTree) (now : Now) → Q now.memory → KeepsPlace L Q (place_of h e now)
place_keeps h L Q keeps (Name p x steps t) now is =
    then_place L Q (steps_of h steps now) (λ way now. walked h.typing way (variable_place h x) now) (steps_keep h L Q keeps steps now is)
    (λ way now is. walk_keeps h L Q keeps way (variable_place h x) now (keeps.variables x) is)
place_keeps h L Q keeps _ now is = is
