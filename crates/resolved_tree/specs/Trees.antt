-- A program whose declarations are found (docs/LANGUAGE.md, "Names" and "Types"). Each declaration
-- has its number, in the order of the text, and an identifier that uses a declaration stands as
-- that number. The levels of the grammar are gone: an operator has its operands.
use Rattle.std.specs.Prelude.{ℕ, Bool, Option, List, [], ◌∷◌}
use Rattle.spark_base.specs.declared.position.Pos.{Pos}
use Rattle.place_names.specs.declared.act.Mode.{Mode}
use Rattle.resolved_tree.specs.declared.operator.Operator.{Operator}
use Rattle.resolved_tree.specs.declared.operator.UnaryOperator.{UnaryOperator}
use Rattle.resolved_tree.specs.declared.operator.Attribute.{Attribute}
use Rattle.resolved_tree.specs.declared.node.Mark.{Mark}

-- Expressions, what follows names, arguments, and lists of these. The position of an
-- expression is that of its first token.
pub data Tree : Type 0 where
  Number : Pos → ℕ → Tree
  -- a string, with its quotes
  Text : Pos → List ℕ → Tree
  Null : Pos → Tree
  -- a name: the declaration that its identifier denotes, or the last one of the identifiers after
  -- packages, and the list of what follows that
  Named : Pos → ℕ → Tree → Tree
  Parens : Pos → Tree → Tree
  Unary : Pos → UnaryOperator → Tree → Tree
  Binary : Pos → Operator → Tree → Tree → Tree
  -- a list of arguments
  Aggregate : Pos → Tree → Tree
  Others : Pos → Tree → Tree
  -- an allocator: its mark, and a list of no argument or one, which is its value
  New : Pos → Mark → Tree → Tree
  -- what follows a name
  Selected : List ℕ → Tree
  All : Tree
  Applied : Tree → Tree
  Attr : Attribute → Tree
  -- the first of a list of arguments: the identifier before its `=>`, its expression, and the others
  Argument : Option (List ℕ) → Tree → Tree → Tree
  NoMore : Tree
  More : Tree → Tree → Tree

-- Declarations and statements, their parts, and lists of these.
pub data Code : Type 0 where
  -- an identifier that is declared: the number of the declaration that it makes or completes, and
  -- its text
  Declared : Pos → ℕ → List ℕ → Code
  -- mark | "access" ["constant"] mark
  Plain : Mark → Code
  Anonymous : Pos → Bool → Mark → Code
  -- ranges
  Bounds : Tree → Tree → Code
  Marked : Mark → Code
  Constrained : Mark → Tree → Tree → Code
  RangeOf : Tree → Code
  -- definitions of types
  Enumeration : Code → Code
  Record : Code → Code
  Components : Code → Mark → Code
  Array : Code → Mark → Code
  Access : Mark → Code
  -- declarations; a type with the position of its `;`
  Incomplete : Code → Code
  Private : Code → Code
  TypeDecl : Code → Code → Pos → Code
  Subtype : Code → Mark → Code
  ConstrainedSubtype : Code → Mark → Tree → Tree → Code
  -- objects: their identifiers, `constant`, what they are of, and a list of no value or one
  Objects : Code → Bool → Code → Tree → Code
  Numbers : Code → Tree → Code
  Instance : Code → Mark → Tree → Code
  -- subprograms: formals, the front, a declaration, a body with the position of its `end`
  Formals : Code → Mode → Code → Code
  Front : Code → Code → Code → Code
  SubDecl : Code → Code
  SubBody : Code → Code → Code → Pos → Code
  -- packages: the visible and the private part; a body
  Package : Code → Code → Code → Code
  PackageBody : Code → Code → Code
  -- statements
  Skip : Pos → Code
  Assign : Tree → Tree → Code
  Call : Tree → Code
  Exit : Pos → Tree → Code
  Return : Pos → Tree → Code
  -- the branches, and the statements after `else`
  If : Pos → Code → Code → Code
  Branch : Pos → Tree → Code → Code
  Case : Pos → Tree → Code → Code
  Value : Tree → Code
  Interval : Tree → Tree → Code
  OthersChoice : Pos → Code
  When : Code → Code → Code
  Loop : Pos → Code → Code
  While : Pos → Tree → Code → Code
  For : Pos → Code → Bool → Code → Code → Code
  -- the items, the statements, and the position of `end`
  Block : Pos → Code → Code → Pos → Code
  NoMore : Code
  More : Code → Code → Code

-- A program: how many declarations it has, the predefined ones included, and its units in the
-- order of the files and their text.
pub record Program : Type 0 where
  pub count : ℕ
  pub units : List Code

abbrev pub nowhere : Pos
nowhere = record { file = 0; line = 0; column = 0 }

-- The position of the first token of an expression.
abbrev pub position : Tree → Pos
position (Number p n) = p
position (Text p t) = p
position (Null p) = p
position (Named p d rest) = p
position (Parens p e) = p
position (Unary p op e) = p
position (Binary p op a b) = p
position (Aggregate p args) = p
position (Others p e) = p
position (New p m v) = p
position _ = nowhere

-- A list as one tree.
abbrev pub list_of : List Tree → Tree
list_of [] = NoMore
list_of (a ∷ rest) = More a (list_of rest)

abbrev pub code_list : List Code → Code
code_list [] = NoMore
code_list (a ∷ rest) = More a (code_list rest)

-- The items of a list of code.
abbrev pub code_items : Code → List Code
code_items (More a rest) = a ∷ code_items rest
code_items _ = []
