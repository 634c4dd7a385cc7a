-- What expressions give, and where names lead (docs/RUN.md, "Expressions"; Ada 2012, 4).
--
-- Evaluation goes from left to right. It may make cells, take what names of owning types hold, and
-- take the values that wait; it may raise an exception, or touch a freed cell.
use Rattle.std.specs.Prelude.{ℕ, suc, ◌+◌, ◌*◌, Bool, true, false, not, ◌&&◌, List, [], ◌∷◌, ◌++◌, map, length, drop, get_or, nat_eq, nat_le, Option, Some, None, ℤ, pos, ◌-ℤ◌, int_le, unsigned_abs, if◌then◌else◌}
use Rattle.std.specs.Char.{to_ascii_uppercase}
use Rattle.flow_paths.specs.resolved_tree.declared.operator.Operator.{Operator}
use Rattle.flow_paths.specs.resolved_tree.declared.operator.UnaryOperator.{UnaryOperator}
use Rattle.flow_paths.specs.type_definitions.declared.table.Shape.{Shape}
use Rattle.flow_paths.specs.type_definitions.declared.table.Shape.TheVariants as shape
use Rattle.flow_paths.specs.type_definitions.declared.table.Static.{Static}
use Rattle.flow_paths.specs.type_definitions.Types.{Table, base, shape_of, words, is_owning}
use Rattle.flow_paths.specs.type_definitions.Entries.{integer, boolean}
use Rattle.flow_paths.specs.type_definitions.Statics.{operate, one}
use Rattle.flow_paths.specs.typed_tree.declared.node.ShortCircuit.{ShortCircuit}
use Rattle.flow_paths.specs.typed_tree.declared.node.ShortCircuit.TheVariants as short
use Rattle.flow_paths.specs.typed_tree.Trees.{TypedTree, Number, Literal, Text, Name, Component as IntoComponent, Designated, Element, Call, EndOfFile, Parens, Image, Unary, Binary, Short, IsNull, Aggregate, Alike, New, NoMore, More}
use Rattle.flow_paths.specs.typed_tree.Trees as typed
use Rattle.flow_paths.specs.Objects.{Typing, object_at, is_package_object, designated}
use Rattle.flow_paths.specs.Names.{has_call}
use Rattle.run_values.specs.Images.{image}
use Rattle.run_values.specs.Items.{at_end}
use Rattle.machine.specs.Words.{Word, Int, Enumerated, Null, Cell, default, repeated, component_type, words_before, element_type, element_count, fits_type}
use Rattle.machine.specs.Memory.{Memory, Place, OfVariable, OfCell, cell, words_of, moved_out, with_new_cell, live_words}

-- ---- what an evaluation ends with

pub data Exception : Type 0 where
  ConstraintError : Exception
  ProgramError : Exception
  StorageError : Exception
  DataError : Exception
  EndError : Exception

-- A freed cell was touched, or freed again.
pub data Trap : Type 0 where
  Touched : Trap
  Twice : Trap

-- While a point is evaluated: the memory, and the values that wait for it, the first one first.
pub record Now : Type 0 where
  pub memory : Memory
  pub waits : List (List Word)

pub data Evaluated (A : Type 0) : Type 0 where
  Done : A → Now → Evaluated A
  Raises : Exception → Now → Evaluated A
  Traps : Trap → Now → Evaluated A

abbrev pub followed_by : {A B : Type 0} → Evaluated A → (A → Now → Evaluated B) → Evaluated B
followed_by (Done a now) f = f a now
followed_by (Raises e now) f = Raises e now
followed_by (Traps t now) f = Traps t now

-- What an evaluation goes by: the program, the frame that runs, and the rest of the input.
pub record Here : Type 0 where
  pub typing : Typing
  pub frame : ℕ
  pub rest : List ℕ

-- ---- names

-- A step of a name whose index is evaluated: to a component, to the element with so many before it,
-- to what is designated.
pub data Step : Type 0 where
  ToComponent : ℕ → Step
  ToElement : ℕ → Step
  ToDesignated : Step

-- The variable of an object: package objects have the first frame.
abbrev pub variable_place : Here → ℕ → Place
variable_place h x = record {
  base = OfVariable (if is_package_object h.typing x then 0 else h.frame) x;
  at = 0;
  of = (object_at h.typing x).of;
}

abbrev pub component_place : Table → ℕ → Place → Place
component_place table i p = record {
  base = p.base;
  at = p.at + words_before table p.of i;
  of = component_type table p.of i;
}

abbrev pub element_place : Table → ℕ → Place → Place
element_place table n p = record {
  base = p.base;
  at = p.at + n * words table (element_type table p.of);
  of = element_type table p.of;
}

abbrev pub cell_place : ℕ → ℕ → Place
cell_place t n = record { base = OfCell n; at = 0; of = t }

-- The place that an access value designates.
abbrev pub designated_place : ℕ → List Word → Now → Evaluated Place
designated_place t (Cell n ∷ []) now = if (cell now.memory n).freed then Traps Touched now else Done (cell_place t n) now
designated_place t _ now = Raises ConstraintError now

abbrev pub stepped : Typing → Step → Place → Now → Evaluated Place
stepped s (ToComponent i) p now = Done (component_place s.table i p) now
stepped s (ToElement n) p now = Done (element_place s.table n p) now
stepped s ToDesignated p now = designated_place (designated s.table p.of) (words_of s now.memory p) now

abbrev pub walked : Typing → List Step → Place → Now → Evaluated Place
walked s [] p now = Done p now
walked s (step ∷ rest) p now = followed_by (stepped s step p now) (walked s rest)

-- ---- values

abbrev pub truth : Bool → List Word
truth b = Enumerated (if b then 1 else 0) ∷ []

abbrev pub is_true : List Word → Bool
is_true (Enumerated n ∷ []) = not (nat_eq n 0)
is_true _ = false

abbrev pub is_null : List Word → Bool
is_null (Null ∷ []) = true
is_null _ = false

-- A value that is taken by a place of a type.
abbrev pub checked : Here → ℕ → List Word → Now → Evaluated (List Word)
checked h t ws now = if fits_type h.typing.table t ws then Done ws now else Raises ConstraintError now

-- What a place holds: as it stands, or taken away where its type is owning.
abbrev pub held : Here → Place → Now → Evaluated (List Word)
held h p now = Done (words_of h.typing now.memory p) now

abbrev pub taken : Here → Place → Now → Evaluated (List Word)
taken h p now =
    Done (words_of h.typing now.memory p)
    (if is_owning h.typing.table p.of then record now { memory = moved_out h.typing p now.memory } else now)

-- How a name is used: its value is, or what it holds is looked at where it stands.
pub data Use : Type 0 where
  AsValue : Use
  AsView : Use

abbrev pub held_or_taken : Here → Use → Place → Now → Evaluated (List Word)
held_or_taken h AsValue p now = taken h p now
held_or_taken h AsView p now = held h p now

-- The value that waits.
abbrev pub waited : Now → Evaluated (List Word)
waited now = Done (get_or now.waits 0 []) (record now { waits = drop 1 now.waits })

-- ---- operators

abbrev pub value_of : Word → ℤ
value_of (Int v) = v
value_of (Enumerated n) = pos n
value_of _ = pos 0

abbrev pub is_whole : Word → Bool
is_whole (Int v) = true
is_whole _ = false

abbrev pub word_of : Static → Word
word_of v = if nat_eq v.base integer then Int v.value else Enumerated (unsigned_abs v.value)

abbrev pub given : Option Static → Now → Evaluated (List Word)
given None now = Raises ConstraintError now
given (Some v) now = Done (word_of v ∷ []) now

-- As for static expressions: an operator has no value where it raises.
abbrev pub operated : Operator → List Word → List Word → Now → Evaluated (List Word)
operated op (a ∷ []) (b ∷ []) now =
    given (operate (is_whole a) (not (is_whole a)) op boolean (value_of a) (value_of b)) now
operated op _ _ now = Raises ConstraintError now

abbrev pub operated_alone : UnaryOperator → List Word → Now → Evaluated (List Word)
operated_alone op (a ∷ []) now =
    given (one op (record { base = if is_whole a then integer else boolean; value = value_of a; sound = true })) now
operated_alone op _ now = Raises ConstraintError now

-- Whether the left operand of a short circuit decides.
abbrev pub decides : ShortCircuit → List Word → Bool
decides short.AndThen a = not (is_true a)
decides short.OrElse a = is_true a

-- The index of an array with these bounds: how many elements stand before.
abbrev pub indexed : ℤ → ℤ → List Word → Now → Evaluated ℕ
indexed low high (Int v ∷ []) now =
    if int_le low v && int_le v high then Done (unsigned_abs (v -ℤ low)) now else Raises ConstraintError now
indexed low high _ now = Raises ConstraintError now

-- ---- cells

-- Words of all cells that are there and not freed.
abbrev pub heap_words : ℕ
heap_words = 16777216

abbrev pub allocated : ℕ → List Word → Now → Evaluated (List Word)
allocated t ws now =
    if nat_le (live_words now.memory + length ws) heap_words
    then Done (Cell (suc (length now.memory.cells)) ∷ []) (record now { memory = with_new_cell t ws now.memory })
    else Raises StorageError now

-- ---- expressions

abbrev pub part_type : Shape → ℕ → ℕ
part_type (shape.Fields components) i = (get_or components i (record { name = []; of = integer })).of
part_type (shape.Elements low high element) i = element
part_type _ i = integer

unfoldable mutual
  pub evaluate : Here → Use → TypedTree → Now → Evaluated (List Word)
  evaluate h u (Number v) now = Done (Int v ∷ []) now
  evaluate h u (Literal n) now = Done (Enumerated n ∷ []) now
  evaluate h u typed.Null now = Done (Null ∷ []) now
  evaluate h u (Name p x steps t) now =
      followed_by (steps_of h steps now) (λ way now. followed_by (walked h.typing way (variable_place h x) now) (held_or_taken h u))
  evaluate h u (Call p sub actuals) now = waited now
  evaluate h u EndOfFile now = Done (truth (at_end h.rest)) now
  evaluate h u (Parens e) now = evaluate h AsValue e now
  evaluate h u (Unary op e) now = followed_by (evaluate h AsValue e now) (operated_alone op)
  evaluate h u (Binary op a b) now =
      followed_by (evaluate h AsValue a now) (λ left now. followed_by (evaluate h AsValue b now) (operated op left))
  -- with a call on the right, both operands were evaluated before
  evaluate h u (Short op p a q b) now =
      if has_call b then waited now
      else followed_by (evaluate h AsValue a now) (λ left now. if decides op left then Done left now else evaluate h AsValue b now)
  evaluate h u (IsNull equal e) now =
      followed_by (evaluate h AsView e now) (λ ws now. Done (truth (if is_null ws then equal else not equal)) now)
  evaluate h u (Aggregate t es) now = parts_of h t 0 es now
  evaluate h u (Alike t e) now =
      followed_by (evaluate h AsValue e now) (λ ws now. followed_by (checked h (element_type h.typing.table t) ws now)
      (λ ws now. Done (repeated (element_count h.typing.table t) ws) now))
  evaluate h u (New t v) now = followed_by (initial h t v now) (allocated t)
  evaluate h u _ now = Done [] now

  -- The steps of a name, with their indexes evaluated.
  pub steps_of : Here → TypedTree → Now → Evaluated (List Step)
  steps_of h (IntoComponent i rest) now = followed_by (steps_of h rest now) (λ way now. Done (ToComponent i ∷ way) now)
  steps_of h (Designated rest) now = followed_by (steps_of h rest now) (λ way now. Done (ToDesignated ∷ way) now)
  steps_of h (Element index low high rest) now =
      followed_by (evaluate h AsValue index now) (λ ws now. followed_by (indexed low high ws now)
      (λ n now. followed_by (steps_of h rest now) (λ way now. Done (ToElement n ∷ way) now)))
  steps_of h _ now = Done [] now

  -- The components of a record or the elements of an array, from the i-th on.
  pub parts_of : Here → ℕ → ℕ → TypedTree → Now → Evaluated (List Word)
  parts_of h t i (More e rest) now =
      followed_by (evaluate h AsValue e now) (λ ws now. followed_by (checked h (part_type (shape_of h.typing.table t) i) ws now)
      (λ ws now. followed_by (parts_of h t (suc i) rest now) (λ more now. Done (ws ++ more) now)))
  parts_of h t i _ now = Done [] now

  -- An initial value, or what an object without one has.
  pub initial : Here → ℕ → TypedTree → Now → Evaluated (List Word)
  initial h t (More e rest) now = followed_by (evaluate h AsValue e now) (checked h t)
  initial h t _ now = Done (default h.typing.table t) now

-- The value of a source that is neither read nor moved: of a borrow, of an observation, or of an
-- actual that is looked at through its formal.
abbrev pub viewed : Here → TypedTree → Now → Evaluated (List Word)
viewed h e now = evaluate h AsView e now

abbrev pub value : Here → TypedTree → Now → Evaluated (List Word)
value h e now = evaluate h AsValue e now

-- The place of a name.
abbrev pub place_of : Here → TypedTree → Now → Evaluated Place
place_of h (Name p x steps t) now =
    followed_by (steps_of h steps now) (λ way now. walked h.typing way (variable_place h x) now)
place_of h _ now = Raises ProgramError now

-- ---- strings

abbrev pub literals : Shape → List (List ℕ)
literals (shape.Listed names low high) = names
literals _ = []

-- The image of a value of a type: a literal in upper case, which its base lists.
abbrev pub image_of : Table → ℕ → List Word → List ℕ
image_of table t (Int v ∷ []) = image v
image_of table t (Enumerated n ∷ []) = map to_ascii_uppercase (get_or (literals (shape_of table (base table t))) n [])
image_of table t _ = []

unfoldable pub text_of : Here → TypedTree → Now → Evaluated (List ℕ)
text_of h (Text t) now = Done t now
text_of h (Image t e) now = followed_by (value h e now) (λ ws now. Done (image_of h.typing.table t ws) now)
text_of h (Parens e) now = text_of h e now
text_of h (Binary op a b) now =
    followed_by (text_of h a now) (λ left now. followed_by (text_of h b now) (λ right now. Done (left ++ right) now))
text_of h _ now = Done [] now
