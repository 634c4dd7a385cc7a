-- Typed programs (docs/LANGUAGE.md, "Typed programs"). Types have the numbers of their
-- declarations; objects and subprograms have numbers of their own, in the order of the text.
use Rattle.std.specs.Prelude.{ℕ, Bool, List, [], ◌∷◌, ℤ}
use Rattle.type_definitions.specs.spark_base.declared.position.Pos.{Pos}
use Rattle.type_definitions.specs.resolved_tree.declared.operator.Operator.{Operator}
use Rattle.type_definitions.specs.resolved_tree.declared.operator.UnaryOperator.{UnaryOperator}
use Rattle.typed_tree.specs.declared.node.ShortCircuit.{ShortCircuit}

-- Expressions, the steps of names, and lists of these.
pub data TypedTree : Type 0 where
  -- a value of Integer; one of an enumeration, by its position
  Number : ℤ → TypedTree
  Literal : ℕ → TypedTree
  Null : TypedTree
  -- the characters of a string
  Text : List ℕ → TypedTree
  -- a name: the position of its first token, its object, the steps from there, and its type
  Name : Pos → ℕ → TypedTree → ℕ → TypedTree
  -- steps, each with those after it: to a component, to what is designated, to the element with an
  -- index in an array with these bounds
  Component : ℕ → TypedTree → TypedTree
  Designated : TypedTree → TypedTree
  Element : TypedTree → ℤ → ℤ → TypedTree → TypedTree
  -- a call: the position of its first token, the subprogram, and the actuals in the order of the
  -- formals
  Call : Pos → ℕ → TypedTree → TypedTree
  EndOfFile : TypedTree
  -- an expression in parentheses, which is no name
  Parens : TypedTree → TypedTree
  Image : ℕ → TypedTree → TypedTree
  Unary : UnaryOperator → TypedTree → TypedTree
  Binary : Operator → TypedTree → TypedTree → TypedTree
  -- a short circuit: each operand with the position of its first token
  Short : ShortCircuit → Pos → TypedTree → Pos → TypedTree → TypedTree
  -- a name compared with `null`: whether by `=`
  IsNull : Bool → TypedTree → TypedTree
  -- an aggregate of a type: its components or elements in order; an array with one value for all
  Aggregate : ℕ → TypedTree → TypedTree
  Alike : ℕ → TypedTree → TypedTree
  -- an allocator: the type that it makes, and a list of no value or one
  New : ℕ → TypedTree → TypedTree
  NoMore : TypedTree
  More : TypedTree → TypedTree → TypedTree

-- Statements, among them the declarations of objects, their parts, and lists of these.
pub data TypedCode : Type 0 where
  -- the position of the identifier, the object, and a list of no value or one
  Declare : Pos → ℕ → TypedTree → TypedCode
  Assign : Pos → TypedTree → TypedTree → TypedCode
  Skip : Pos → TypedCode
  Call : Pos → ℕ → TypedTree → TypedCode
  -- a list of no string expression or one, and whether a line ends
  Output : Pos → TypedTree → Bool → TypedCode
  Input : Pos → TypedTree → TypedCode
  Release : Pos → TypedTree → TypedCode
  -- the branches, and the statements after `else`
  If : TypedCode → TypedCode → TypedCode
  Branch : Pos → TypedTree → TypedCode → TypedCode
  Case : Pos → TypedTree → TypedCode → TypedCode
  -- choices: the values from a low one to a high one
  Interval : ℤ → ℤ → TypedCode
  Others : TypedCode
  When : TypedCode → TypedCode → TypedCode
  Loop : TypedCode → TypedCode
  While : Pos → TypedTree → TypedCode → TypedCode
  -- the parameter, whether the order is reversed, and the bounds
  For : Pos → ℕ → Bool → TypedTree → TypedTree → TypedCode → TypedCode
  -- lists of no condition or value, or one
  Exit : Pos → TypedTree → TypedCode
  Return : Pos → TypedTree → TypedCode
  -- the scope, the declarations and statements, and the position of `end`
  Block : ℕ → TypedCode → Pos → TypedCode
  NoMore : TypedCode
  More : TypedCode → TypedCode → TypedCode

-- A list as one tree.
abbrev pub typed_list : List TypedTree → TypedTree
typed_list [] = NoMore
typed_list (a ∷ rest) = More a (typed_list rest)

abbrev pub typed_code_list : List TypedCode → TypedCode
typed_code_list [] = NoMore
typed_code_list (a ∷ rest) = More a (typed_code_list rest)
