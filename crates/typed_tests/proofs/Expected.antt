-- The typed programs of the sources in data/, each under the name of its file.
use Rattle.std.proofs.Common.{ℕ, List, [], ◌∷◌, true, false}
use Rattle.std.specs.Prelude.{Option, Some, None, codes, pos, negsuc}
use Prim.Native.String.{String}
use Rattle.spark_base.specs.declared.position.Pos.{Pos}
use Rattle.place_names.specs.declared.act.Mode.{Mode}
use Rattle.place_names.specs.declared.act.Mode.TheVariants as mode
use Rattle.resolved_tree.specs.declared.operator.Operator.TheVariants as operator
use Rattle.resolved_tree.specs.declared.operator.UnaryOperator.TheVariants as unary
use Rattle.typed_tree.specs.declared.node.ShortCircuit.TheVariants as short
use Rattle.typed_tree.specs.declared.object.Object.{Object}
use Rattle.typed_tree.specs.declared.object.ObjectKind.{ObjectKind}
use Rattle.typed_tree.specs.declared.object.ObjectKind.TheVariants as kind
use Rattle.typed_tree.specs.Trees.{TypedTree, TypedCode, Number, Literal, Null, Text, Name, Component, Designated, Element, Call, EndOfFile, Parens, Image, Unary, Binary, Short, IsNull, Aggregate, Alike, New, NoMore, More, Declare, Assign, Skip, Output, Input, Release, If, Branch, Case, Interval, Others, When, Loop, While, For, Exit, Return, Block}
use Rattle.typed_tree.specs.Programs.{TypedSub, TypedProgram}
use Rattle.typed_tests.proofs.ResolvedTrees.{at, at1, at2}

-- ---- words

-- the numbers of predefined types
abbrev integer : ℕ
integer = 0

abbrev boolean : ℕ
boolean = 3

abbrev object_as : ObjectKind → Mode → Option (List ℕ) → String → ℕ → ℕ → Object
object_as k m home name of scope =
    record { name = codes name; «package» = home; of = of; kind = k; mode = m; scope = scope }

-- each with its identifier, its type and its scope
abbrev variable : String → ℕ → ℕ → Object
variable = object_as kind.Variable mode.In None

abbrev constant : String → ℕ → ℕ → Object
constant = object_as kind.Constant mode.In None

abbrev parameter : String → ℕ → ℕ → Object
parameter = object_as kind.Parameter mode.In None

abbrev formal : Mode → String → ℕ → ℕ → Object
formal m = object_as kind.Formal m None

-- package objects, in the package P: each with its identifier and its type
abbrev package_variable : String → ℕ → Object
package_variable name of = object_as kind.Variable mode.In (Some (codes "P")) name of 0

abbrev package_constant : String → ℕ → Object
package_constant name of = object_as kind.Constant mode.In (Some (codes "P")) name of 0

abbrev text_io : Object
text_io = object_as kind.TextIo mode.In (Some (codes "Ada")) "Text_IO" integer 0

abbrev all_of : List TypedCode → TypedCode
all_of [] = NoMore
all_of (c ∷ rest) = More c (all_of rest)

abbrev list : List TypedTree → TypedTree
list [] = NoMore
list (t ∷ rest) = More t (list rest)

abbrev one : TypedTree → TypedTree
one t = More t NoMore

abbrev sub : Pos → Pos → List ℕ → Option ℕ → List TypedCode → TypedSub
sub p end formals result body = record { pos = p; end = end; formals = formals; result = result; body = all_of body }

-- subprogram 0
abbrev elaboration : List TypedCode → TypedSub
elaboration body = sub (at 1 1) (at 1 1) [] None body

abbrev program : List Object → List ℕ → List TypedSub → Option ℕ → TypedProgram
program objects scopes subs main = record { objects = text_io ∷ objects; scopes = scopes; subs = subs; main = main }

-- an object by itself
abbrev whole : Pos → ℕ → ℕ → TypedTree
whole p object of = Name p object NoMore of

-- ---- programs

-- the type Int_Ptr is 16
abbrev pub nine_lines : TypedProgram
nine_lines =
    program (variable "X" 16 1 ∷ variable "Y" 16 1 ∷ variable "N" integer 1 ∷ []) (0 ∷ 0 ∷ [])
    (elaboration []
    ∷ sub (at 2 11) (at 9 1) [] None (
    Declare (at 5 1) 1 NoMore ∷ Declare (at 5 4) 2 NoMore ∷ Declare (at 6 1) 3 NoMore
    ∷ Assign (at 8 1) (whole (at 8 1) 1 16) (New integer (one (Number (pos 7))))
    ∷ Assign (at 8 23) (whole (at 8 23) 2 16) (whole (at 8 28) 1 16)
    ∷ Assign (at 8 31) (whole (at 8 31) 3 integer) (Name (at 8 36) 1 (Designated NoMore) integer)
    ∷ Release (at 8 43) (whole (at 8 49) 2 16) ∷ [])
    ∷ []) (Some 1)

-- Row is 16, Cell 17 and List 18
abbrev pub dereferences : TypedProgram
dereferences =
    program (variable "L" 18 1 ∷ variable "I" integer 1 ∷ []) (0 ∷ 0 ∷ [])
    (elaboration []
    ∷ sub (at 1 11) (at 10 1) [] None (
    Declare (at 6 1) 1 NoMore ∷ Declare (at 7 1) 2 NoMore
    ∷ Assign (at 9 1) (whole (at 9 1) 2 integer) (Binary operator.Add
    -- an implicit dereference stands before a selector and before an index
    (Name (at 9 6) 1 (Designated (Component 2 (Designated (Component 1 (Element
    (Name (at 9 24) 1 (Designated (Component 1 (Element (whole (at 9 33) 2 integer) (pos 1) (pos 3) NoMore))) integer)
    (pos 1) (pos 3) NoMore))))) integer)
    (Name (at 9 39) 1 (Designated (Component 2 (Designated (Component 2 (Designated (Component 0 NoMore)))))) integer)) ∷ [])
    ∷ []) (Some 1)

-- Ptr is 16
abbrev pub calls : TypedProgram
calls =
    program (formal mode.InOut "Target" 16 1 ∷ formal mode.In "Value" integer 1 ∷ formal mode.In "Twice" integer 1
    ∷ formal mode.In "X" integer 2 ∷ variable "A" 16 3 ∷ [])
    (0 ∷ 0 ∷ 0 ∷ 0 ∷ [])
    (elaboration []
    ∷ sub (at 7 11) (at 9 1) (1 ∷ 2 ∷ 3 ∷ []) None (
    Assign (at 8 1) (Name (at 8 1) 1 (Designated NoMore) integer) (Binary operator.Add
    (Call (at 8 15) 2 (one (whole (at 8 21) 2 integer))) (whole (at 8 30) 3 integer)) ∷ [])
    ∷ sub (at 10 10) (at 10 67) (4 ∷ []) (Some integer) (
    Return (at 10 53) (one (Binary operator.Divide (whole (at 10 60) 4 integer) (Number (pos 2)))) ∷ [])
    ∷ sub (at 13 11) (at 17 1) [] None (
    Declare (at 14 1) 5 NoMore
    -- in the order of the formals
    ∷ Call (at 16 1) 1 (list (whole (at 16 38) 5 16
    ∷ Call (at 16 50) 2 (one (Call (at 16 61) 2 (one (Number (pos 3)))))
    ∷ Call (at 16 18) 2 (one (Number (pos 1))) ∷ [])) ∷ [])
    ∷ []) (Some 3)

-- Row is 16 and Pair 17
abbrev pub aggregates : TypedProgram
aggregates =
    program (variable "P" 17 1 ∷ constant "Q" 17 1 ∷ []) (0 ∷ 0 ∷ [])
    (elaboration []
    ∷ sub (at 1 11) (at 8 1) [] None (
    Declare (at 4 1) 1 (one (Aggregate 17 (list (Number (pos 1) ∷ Number (pos 2) ∷ Alike 16 (Number (pos 4)) ∷ []))))
    ∷ Declare (at 5 1) 2 (one (Aggregate 17 (list (Number (pos 3) ∷ Number (negsuc 2147483647)
    ∷ Aggregate 16 (list (Number (pos 5) ∷ Number (pos 6) ∷ [])) ∷ []))))
    ∷ Assign (at 7 1) (whole (at 7 1) 1 17) (Aggregate 17 (list (
    Name (at 7 16) 2 (Component 1 NoMore) integer ∷ Number (pos 2) ∷ Name (at 7 35) 2 (Component 2 NoMore) 16 ∷ []))) ∷ [])
    ∷ []) (Some 1)

-- Color is 16, Warm 21 and Small 22
abbrev pub choices : TypedProgram
choices =
    program (variable "C" 16 1 ∷ variable "N" integer 1 ∷ parameter "S" 22 2 ∷ parameter "W" 21 3 ∷ parameter "I" 22 4
    ∷ parameter "J" integer 5 ∷ [])
    (0 ∷ 0 ∷ 1 ∷ 1 ∷ 1 ∷ 1 ∷ [])
    (elaboration []
    ∷ sub (at 1 11) (at 14 1) [] None (
    Declare (at 5 1) 1 (one (Literal 2)) ∷ Declare (at 6 1) 2 (one (Number (pos 0)))
    ∷ For (at 8 1) 3 true (Number (pos 1)) (Number (pos 9)) (all_of (
    Assign (at 8 29) (whole (at 8 29) 2 integer)
    (Binary operator.Add (whole (at 8 34) 2 integer) (whole (at 8 38) 3 22)) ∷ []))
    ∷ For (at 9 1) 4 false (Literal 0) (Literal 1) (all_of (
    Assign (at 9 20) (whole (at 9 20) 1 16) (whole (at 9 25) 4 21) ∷ []))
    ∷ For (at 10 1) 5 false (Number (pos 2)) (whole (at 10 27) 2 integer) (all_of (Skip (at 10 34) ∷ []))
    ∷ For (at 11 1) 6 false (Number (pos 1)) (whole (at 11 15) 2 integer) (all_of (Skip (at 11 22) ∷ []))
    ∷ Case (at 12 1) (whole (at 12 6) 1 16) (all_of (
    When (all_of (Interval (pos 0) (pos 1) ∷ [])) (all_of (Assign (at 12 32) (whole (at 12 32) 2 integer) (Number (pos 1)) ∷ []))
    ∷ When (all_of (Interval (pos 3) (pos 3) ∷ [])) (all_of (Skip (at 12 54) ∷ []))
    ∷ When (all_of (Others ∷ [])) (all_of (Assign (at 12 75) (whole (at 12 75) 2 integer) (Number (pos 2)) ∷ [])) ∷ []))
    ∷ Case (at 13 1) (whole (at 13 6) 2 integer) (all_of (
    When (all_of (Interval (negsuc 0) (negsuc 0) ∷ Interval (pos 3) (pos 5) ∷ [])) (all_of (Skip (at 13 35) ∷ []))
    ∷ When (all_of (Others ∷ [])) (all_of (Skip (at 13 56) ∷ [])) ∷ [])) ∷ [])
    ∷ []) (Some 1)

abbrev pub blocks : TypedProgram
blocks =
    program (variable "N" integer 1 ∷ variable "A" integer 2 ∷ parameter "I" integer 4 ∷ variable "B" integer 5
    ∷ variable "C" integer 5 ∷ [])
    -- around Main, the first block, the one in it, the loop, the block in that, and the last block
    (0 ∷ 0 ∷ 1 ∷ 2 ∷ 2 ∷ 4 ∷ 1 ∷ [])
    (elaboration []
    ∷ sub (at 1 11) (at 15 1) [] None (
    Declare (at 2 1) 1 NoMore
    ∷ Block 2 (all_of (
    Declare (at 5 1) 2 (one (whole (at 5 16) 1 integer))
    ∷ Block 3 (all_of (Skip (at 7 7) ∷ [])) (at 7 13)
    ∷ For (at 8 1) 3 false (Number (pos 1)) (Number (pos 2)) (all_of (Block 5 (all_of (
    -- each has an evaluation of the value of its own
    Declare (at 8 30) 4 (one (whole (at 8 48) 3 integer)) ∷ Declare (at 8 33) 5 (one (whole (at 8 48) 3 integer))
    ∷ Assign (at 8 57) (whole (at 8 57) 2 integer)
    (Binary operator.Add (whole (at 8 62) 4 integer) (whole (at 8 66) 5 integer)) ∷ [])) (at 8 69) ∷ []))
    ∷ [])) (at 9 1)
    ∷ While (at 10 1) (Binary operator.Greater (whole (at 10 7) 1 integer) (Number (pos 0))) (all_of (
    -- the first token of the right operand is a parenthesis
    Exit (at 11 1) (one (Short short.AndThen
    (at 11 11) (Binary operator.Equal (whole (at 11 11) 1 integer) (Number (pos 5)))
    (at 11 26) (Binary operator.NotEqual (Parens (whole (at 11 27) 1 integer)) (Number (pos 4)))))
    ∷ If (all_of (
    Branch (at 12 1) (Binary operator.Less (whole (at 12 4) 1 integer) (Number (pos 3))) (all_of (Return (at 12 15) NoMore ∷ []))
    ∷ Branch (at 12 23) (Binary operator.GreaterEqual (whole (at 12 29) 1 integer) (Number (pos 7)))
    (all_of (Skip (at 12 41) ∷ [])) ∷ []))
    (all_of (Exit (at 12 52) NoMore ∷ [])) ∷ []))
    ∷ Loop (all_of (Block 6 (all_of (Exit (at 14 12) NoMore ∷ [])) (at 14 18) ∷ [])) ∷ [])
    ∷ []) (Some 1)

-- T is 16; the body calls its package p
abbrev pub package_objects : TypedProgram
package_objects =
    program (package_variable "A" integer ∷ package_variable "B" integer ∷ package_constant "K" integer
    ∷ package_variable "X" 16 ∷ package_constant "Y" boolean ∷ package_constant "M" integer ∷ variable "N" integer 1
    ∷ package_variable "Z" 16 ∷ [])
    (0 ∷ 0 ∷ 0 ∷ [])
    (elaboration (
    Declare (at 3 1) 1 (one (Binary operator.Add (Number (pos 1)) (Number (pos 2))))
    ∷ Declare (at 3 4) 2 (one (Binary operator.Add (Number (pos 1)) (Number (pos 2))))
    ∷ Declare (at 4 1) 3 (one (whole (at 4 25) 1 integer))
    ∷ Declare (at 8 1) 4 (one (New integer NoMore))
    ∷ Declare (at 11 1) 5 (one (Short short.OrElse
    (at 11 25) (Binary operator.Equal (whole (at 11 25) 1 integer) (Number (pos 3)))
    (at 11 39) (Binary operator.NotEqual (whole (at 11 39) 1 integer) (whole (at 11 44) 2 integer))))
    ∷ Declare (at 12 1) 6 (one (Number (pos 3)))
    ∷ Declare (at 18 1) 8 NoMore ∷ [])
    ∷ sub (at 13 11) (at 17 1) [] None (
    Declare (at 14 1) 7 (one (whole (at 14 16) 6 integer))
    ∷ Assign (at 16 1) (Name (at 16 1) 4 (Designated NoMore) integer) (whole (at 16 10) 7 integer)
    ∷ Assign (at 16 13) (whole (at 16 13) 2 integer) (Number (negsuc 2147483647)) ∷ [])
    ∷ sub (at 21 11) (at 24 1) [] None (Call (at 23 1) 1 NoMore ∷ [])
    ∷ []) (Some 2)

-- Cell is 16 and List 17; the result of Last is of the type 18, and each anonymous access object
-- has the type of its own declaration
abbrev pub views : TypedProgram
views =
    program (formal mode.In "L" 20 1 ∷ variable "B" 21 1 ∷ variable "X" 17 2 ∷ variable "B" 24 3 ∷ variable "C" 25 3 ∷ [])
    (0 ∷ 0 ∷ 0 ∷ 2 ∷ [])
    (elaboration []
    ∷ sub (at 7 10) (at 10 11) (1 ∷ []) (Some 18) (
    Declare (at 8 1) 2 (one (whole (at 8 20) 1 20))
    ∷ While (at 9 1) (IsNull false (Name (at 9 7) 2 (Designated (Component 1 NoMore)) 17)) (all_of (
    Assign (at 9 27) (whole (at 9 27) 2 21) (Name (at 9 32) 2 (Designated (Component 1 NoMore)) 17) ∷ []))
    ∷ Return (at 10 1) (one (whole (at 10 8) 2 21)) ∷ [])
    ∷ sub (at 13 11) (at 21 1) [] None (
    Declare (at 14 1) 3 (one (New 16 (one (Aggregate 16 (list (
    Number (pos 1) ∷ New 16 (one (Aggregate 16 (list (Number (pos 2) ∷ Null ∷ [])))) ∷ []))))))
    ∷ Block 3 (all_of (
    Declare (at 17 1) 4 (one (Call (at 17 20) 1 (one (whole (at 17 26) 3 17))))
    ∷ Declare (at 18 1) 5 (one (Name (at 18 29) 3 (Designated (Component 1 NoMore)) 17))
    ∷ Assign (at 19 7) (Name (at 19 7) 4 (Designated (Component 0 NoMore)) integer) (Number (pos 9))
    ∷ Assign (at 19 21) (whole (at 19 21) 5 25) (Name (at 19 26) 5 (Designated (Component 1 NoMore)) 17)
    ∷ [])) (at 19 34)
    ∷ Output (at 20 1) (one (Binary operator.Concatenate
    (Image integer (Name (at 20 26) 3 (Designated (Component 1 (Designated (Component 0 NoMore)))) integer))
    (Text (codes " \"a\"")))) true ∷ [])
    ∷ []) (Some 2)

-- Row is 16
abbrev pub input_and_output : TypedProgram
input_and_output =
    program (variable "V" 16 1 ∷ variable "N" integer 1 ∷ parameter "I" integer 2 ∷ parameter "I" integer 3 ∷ [])
    (0 ∷ 0 ∷ 1 ∷ 1 ∷ [])
    (elaboration []
    ∷ sub (at 3 11) (at 10 1) [] None (
    Declare (at 5 1) 1 NoMore ∷ Declare (at 5 10) 2 NoMore
    ∷ While (at 7 1) (Unary unary.Not EndOfFile) (all_of (
    Input (at 7 28) (Name (at 7 33) 1 (Element (whole (at 7 36) 2 integer) (pos 0) (pos 1) NoMore) integer) ∷ []))
    ∷ For (at 8 1) 3 false (Number (pos 0)) (Number (pos 1)) (all_of (
    Output (at 8 23) (one (Image boolean (Literal 1))) false ∷ []))
    ∷ For (at 9 1) 4 true (Number (pos 0)) (Number (pos 1)) (all_of (Output (at 9 33) NoMore true ∷ [])) ∷ [])
    ∷ []) (Some 1)

abbrev pub no_main : TypedProgram
no_main = program (package_variable "X" integer ∷ []) (0 ∷ []) (elaboration (Declare (at 2 1) 1 NoMore ∷ []) ∷ []) None

-- Color is 16, Warm 20, Row 21, Row_Ptr 22, Pair 23 and Table 24
abbrev pub parts : TypedProgram
parts =
    program (variable "T" 24 1 ∷ variable "C" 16 1 ∷ variable "R" 22 1 ∷ variable "F" boolean 1 ∷ variable "N" integer 1 ∷ [])
    (0 ∷ 0 ∷ [])
    (elaboration []
    ∷ sub (at 1 11) (at 18 1) [] None (
    Declare (at 8 1) 1 NoMore
    ∷ Declare (at 9 1) 2 (one (Literal 1))
    ∷ Declare (at 10 1) 3 (one (New 21 (one (Alike 21 (Number (pos 0))))))
    ∷ Declare (at 11 1) 4 (one (Binary operator.Xor (IsNull false (whole (at 11 24) 3 22))
    (Unary unary.Not (Parens (Binary operator.Equal (whole (at 11 35) 2 16) (Literal 2))))))
    ∷ Declare (at 12 1) 5 (one (Binary operator.Modulo (Unary unary.Abs (Parens (Unary unary.Minus (Number (pos 3))))) (Number (pos 2))))
    ∷ Assign (at 14 1)
    (Name (at 14 1) 1 (Element (whole (at 14 4) 5 integer) (pos 1) (pos 2) (Component 0 (Element
    (Name (at 14 14) 1 (Element (Number (pos 2)) (pos 1) (pos 2) (Component 1 (Designated
    (Element (Number (pos 0)) (pos 0) (pos 1) NoMore)))) integer)
    (pos 0) (pos 1) NoMore))) integer)
    (Name (at 14 33) 3 (Designated (Element (Binary operator.Subtract (Number (pos 2)) (Number (pos 1))) (pos 0) (pos 1) NoMore)) integer)
    ∷ Assign (at 15 1) (Name (at 15 1) 1 (Element (Number (pos 1)) (pos 1) (pos 2) NoMore) 23)
    (Aggregate 23 (list (Name (at 15 34) 3 (Designated NoMore) 21 ∷ Null ∷ [])))
    ∷ Assign (at 16 1) (whole (at 16 1) 1 24) (Aggregate 24 (list (
    Aggregate 23 (list (Aggregate 21 (list (Number (pos 1) ∷ Number (pos 2) ∷ [])) ∷ Null ∷ []))
    ∷ Aggregate 23 (list (Name (at 16 41) 3 (Designated NoMore) 21 ∷ Null ∷ [])) ∷ [])))
    ∷ Assign (at 17 1) (Name (at 17 1) 3 (Designated (Element (Number (pos 2)) (pos 0) (pos 1) NoMore)) integer) (Number (pos 0)) ∷ [])
    ∷ []) (Some 1)

-- Stack is 16 and Cell 22; the main procedure stands before the body of the package
abbrev pub three_files : TypedProgram
three_files =
    program (object_as kind.Variable mode.In (Some (codes "Stacks")) "Top" integer 0 ∷ variable "S" 16 1
    ∷ formal mode.InOut "S" 16 3 ∷ formal mode.In "V" integer 3 ∷ [])
    (0 ∷ 0 ∷ 0 ∷ 0 ∷ [])
    (elaboration (Declare (at 3 1) 1 NoMore ∷ [])
    ∷ sub (at1 2 11) (at1 7 1) [] None (
    Declare (at1 3 1) 2 NoMore
    ∷ Call (at1 5 1) 3 (list (whole (at1 5 38) 2 16 ∷ Call (at1 5 19) 2 NoMore ∷ []))
    ∷ Assign (at1 6 1) (whole (at1 6 1) 1 integer) (Call (at1 6 15) 2 NoMore) ∷ [])
    ∷ sub (at2 2 10) (at2 2 52) [] (Some integer) (Return (at2 2 40) (one (whole (at2 2 47) 1 integer)) ∷ [])
    ∷ sub (at2 3 11) (at2 6 1) (3 ∷ 4 ∷ []) None (
    Assign (at2 4 1) (whole (at2 4 1) 3 16) (New 22 (one (Aggregate 22 (list (
    whole (at2 4 16) 4 integer ∷ whole (at2 4 19) 3 16 ∷ [])))))
    ∷ Assign (at2 5 1) (Name (at2 5 1) 3 (Designated (Component 0 NoMore)) integer)
    (Name (at2 5 8) 3 (Designated (Component 1 (Designated (Component 0 NoMore)))) integer) ∷ [])
    ∷ []) (Some 1)
