-- What is run: expressions, values and points, with offsets, kinds and bounds in place.
use Rattle.std.specs.Prelude.{ℕ, Bool, List, Option, ℤ}
use Rattle.machine.specs.spark_base.declared.position.Pos.{Pos}
use Rattle.machine.specs.resolved_tree.declared.operator.Operator.{Operator}
use Rattle.machine.specs.resolved_tree.declared.operator.UnaryOperator.{UnaryOperator}
use Rattle.machine.specs.typed_tree.declared.node.ShortCircuit.{ShortCircuit}
use Rattle.kept_cells.specs.run_values.declared.value.Kind.{Kind}

-- ---- words

-- Expressions of one word, which is neither moved nor made, and offsets that indexes give.
pub data Code : Type 0 where
  -- a value of Integer, the position of a literal, or null
  Number : ℤ → Code
  -- the word at an offset in the frame, and among the package objects; a second offset is evaluated
  Local : ℕ → Code → Code
  Global : ℕ → Code → Code
  -- the word of a kind at two such offsets in the cell that an access value designates
  Via : Code → ℕ → Code → Kind → Code
  -- an index within bounds, as the offset of an element of so many words
  Scaled : Code → ℤ → ℤ → ℕ → Code
  Plus : Code → Code → Code
  Unary : UnaryOperator → Code → Code
  Binary : Operator → Code → Code → Code
  Short : ShortCircuit → Code → Code → Code
  -- an access value compared with `null`: whether by `=`
  IsNull : Bool → Code → Code
  -- the word at an offset among those of the values that the point takes
  Waiting : ℕ → Code
  EndOfFile : Code
  Nothing : Code

-- ---- places

-- Words of a type, at an offset and at one that is evaluated: in the frame, among the package objects, or
-- in the cell that an access value designates.
pub data Place : Type 0 where
  InFrame : ℕ → Code → Place
  InPackages : ℕ → Code → Place
  Behind : Code → ℕ → Code → Place

-- ---- values

-- Values of all types, which may move and make.
pub data Fill : Type 0 where
  -- a scalar value within bounds
  Checked : Code → ℤ → ℤ → Fill
  -- an access value that is looked at
  Pointer : Code → Fill
  -- one that is moved
  MovedPointer : Place → Fill
  -- what a place of a type has, as it stands; and moved, with its access parts
  Copied : Place → ℕ → Fill
  Moved : Place → ℕ → Fill
  -- so many words, from an offset on, among those of the values that the point takes
  Waited : ℕ → ℕ → Fill
  -- a cell of a type with this value
  New : Fill → ℕ → Fill
  -- what an object of a type has without a value
  Default : ℕ → Fill
  -- so many times a value
  Repeated : Fill → ℕ → Fill
  Both : Fill → Fill → Fill
  Empty : Fill

-- ---- parts of points

-- How an actual is passed: its value is; or its place, which has a value of the formal's type as well; or
-- its place, whose leak checks have a position.
pub data Actual : Type 0 where
  ByValue : Fill → Actual
  From : Place → ℕ → ℕ → Actual
  To : Place → ℕ → Pos → Actual

-- A piece of a string: bytes, or the image of a value of Integer, or of one of an enumeration.
pub data Piece : Type 0 where
  Bytes : List ℕ → Piece
  NumberImage : Code → Piece
  LiteralImage : Code → ℕ → Piece

-- The point that a value within bounds leads to.
pub record Choice : Type 0 where
  pub low : ℤ
  pub high : ℤ
  pub next : ℕ

-- ---- points

-- What a point does, and the points that it leads to. After the last package object there is none.
pub data Does : Type 0 where
  Go : Option ℕ → Does
  -- one word goes to an offset in the frame, or to a place of a kind
  Put : ℕ → Fill → Option ℕ → Does
  Store : Place → Fill → Kind → Option ℕ → Does
  -- a value of a type goes to a place, whose leak checks have a position
  Assign : Place → Fill → ℕ → Option Pos → Option ℕ → Does
  Call : ℕ → List Actual → Option ℕ → Does
  -- whether the line ends
  Output : List Piece → Bool → Option ℕ → Does
  -- the bounds of the target
  Input : Place → ℤ → ℤ → Option ℕ → Does
  -- what is designated has this type
  Release : Place → ℕ → Pos → Option ℕ → Does
  -- where the condition holds, and where it doesn't
  Test : Code → Option ℕ → Option ℕ → Does
  Choose : Code → List Choice → Does
  -- the offsets of the parameter and of its loop; the bounds; those of the parameter's type
  Start : ℕ → ℕ → Code → Code → ℤ → ℤ → Option ℕ → Does
  -- the same offsets; whether the order is reversed; the word of a parameter without a value; and where
  -- there is a turn, and where there is none
  Next : ℕ → ℕ → Bool → ℤ → Option ℕ → Option ℕ → Does
  -- the left operand of a short circuit: whether it is `or else`; where the other one is evaluated, and
  -- where it decides. Then the right one.
  EvaluateLeft : Code → Bool → Option ℕ → Option ℕ → Does
  EvaluateRight : Code → Option ℕ → Does
  -- the result of a type
  Hold : Fill → ℕ → Option ℕ → Does
  -- the scope of an object ends: one of a named access type, or one of another type
  EndPointer : ℕ → Option ℕ → Does
  EndScope : ℕ → ℕ → Option ℕ → Does
  Finish : Does
  Fall : Does

-- A point, and the types of the values that it takes, the first one first.
pub record Point : Type 0 where
  pub takes : List ℕ
  pub does : Does
  pub pos : Pos

-- ---- subprograms

-- What lies at an offset of a frame: an object of a type, or a `for` loop.
pub data Room : Type 0 where
  Object : ℕ → Room
  Counter : Room

-- A subprogram: its first point, its words, what its frame has, and the types of its formals, which stand
-- first there.
pub record Sub : Type 0 where
  pub first : ℕ
  pub words : ℕ
  pub rooms : List Room
  pub formals : List ℕ
