-- What typed programs the sources mean.
--
-- tools/tree_terms.py makes this of the sources that data/cases.txt has under its name.
use Rattle.std.proofs.Common.{refl, [], ◌∷◌}
use Rattle.std.specs.Prelude.{false, true}
use Rattle.resolved_tree.specs.declared.operator.Attribute.TheVariants as attribute
use Rattle.place_names.specs.declared.act.Mode.TheVariants as mode
use Rattle.resolved_tree.specs.declared.operator.Operator.TheVariants as operator
use Rattle.resolved_tree.specs.declared.operator.UnaryOperator.TheVariants as unary
use Rattle.resolved_tree.specs.Trees.{Access, Aggregate, All, Anonymous, Applied, Array, Assign, Attr, Binary, Block, Bounds, Branch, Call, Case, Components, Constrained, ConstrainedSubtype, Enumeration, Exit, For, Formals, Front, If, Incomplete, Instance, Interval, Loop, Marked, More, Named, New, NoMore, Null, Number, Numbers, Objects, Others, OthersChoice, Package, PackageBody, Parens, Plain, Private, RangeOf, Record, Return, Skip, SubBody, SubDecl, TypeDecl, Unary, Value, When, While}
use Rattle.typed_tests.proofs.ResolvedTrees.{actual, at, at1, at2, declared, given, mark, program, selected, string}
use Rattle.typed_tests.proofs.TypedRules.{IsTypedAs, typing}
use Rattle.typed_tests.proofs.Expected as expected

nine_lines : IsTypedAs (program 21 (SubBody (Front (declared (at 2 11) 15 "Main") NoMore NoMore) (More (TypeDecl
    (declared (at 3 6) 16 "Int_Ptr") (Access (mark (at 3 24) 0)) (at 3 31)) (More (Instance (declared (at 4 11) 17
    "Free") (mark (at 4 23) 14) (actual (Named (at 4 51) 0 NoMore) (actual (Named (at 4 60) 16 NoMore) NoMore))) (More
    (Objects (More (declared (at 5 1) 18 "X") (More (declared (at 5 4) 19 "Y") NoMore)) false (Plain (mark (at 5 8) 16))
    NoMore) (More (Objects (More (declared (at 6 1) 20 "N") NoMore) false (Plain (mark (at 6 5) 0)) NoMore) NoMore))))
    (More (Assign (Named (at 8 1) 18 NoMore) (New (at 8 6) (mark (at 8 10) 0) (actual (Number (at 8 19) 7) NoMore)))
    (More (Assign (Named (at 8 23) 19 NoMore) (Named (at 8 28) 18 NoMore)) (More (Assign (Named (at 8 31) 20 NoMore)
    (Named (at 8 36) 18 (More All NoMore))) (More (Call (Named (at 8 43) 17 (More (Applied (actual (Named (at 8 49) 19
    NoMore) NoMore)) NoMore))) NoMore)))) (at 9 1) ∷ [])) expected.nine_lines
unfolding typing
nine_lines = (refl, refl)

-- Selectors and indexes of access values, with a name in an index.
dereferences : IsTypedAs (program 21 (SubBody (Front (declared (at 1 11) 15 "Main") NoMore NoMore) (More (TypeDecl
    (declared (at 2 6) 16 "Row") (Array (Bounds (Number (at 2 20) 1) (Number (at 2 25) 3)) (mark (at 2 31) 0)) (at 2
    38)) (More (Incomplete (declared (at 3 6) 17 "Cell")) (More (TypeDecl (declared (at 4 6) 18 "List") (Access (mark
    (at 4 21) 17)) (at 4 25)) (More (TypeDecl (declared (at 5 6) 17 "Cell") (Record (More (Components (More (declared
    (at 5 21) 0 "Value") NoMore) (mark (at 5 29) 0)) (More (Components (More (declared (at 5 38) 0 "Cells") NoMore)
    (mark (at 5 46) 16)) (More (Components (More (declared (at 5 51) 0 "Next") NoMore) (mark (at 5 58) 18)) NoMore))))
    (at 5 74)) (More (Objects (More (declared (at 6 1) 19 "L") NoMore) false (Plain (mark (at 6 5) 18)) NoMore) (More
    (Objects (More (declared (at 7 1) 20 "I") NoMore) false (Plain (mark (at 7 5) 0)) NoMore) NoMore)))))) (More (Assign
    (Named (at 9 1) 20 NoMore) (Binary (at 9 6) operator.Add (Named (at 9 6) 19 (More (selected "Next") (More All (More
    (selected "Cells") (More (Applied (actual (Named (at 9 24) 19 (More (selected "Cells") (More (Applied (actual (Named
    (at 9 33) 20 NoMore) NoMore)) NoMore))) NoMore)) NoMore))))) (Named (at 9 39) 19 (More (selected "Next") (More
    (selected "Next") (More (selected "Value") NoMore)))))) NoMore) (at 10 1) ∷ [])) expected.dereferences
unfolding typing
dereferences = (refl, refl)

-- Actuals by name, functions in expressions, and bodies whose declarations stand apart.
calls : IsTypedAs (program 29 (Package (declared (at 1 9) 15 "P") (More (TypeDecl (declared (at 2 6) 16 "Ptr") (Access
    (mark (at 2 20) 0)) (at 2 27)) (More (SubDecl (Front (declared (at 3 11) 17 "Put_In") (More (Formals (More (declared
    (at 3 19) 18 "Target") NoMore) mode.InOut (Plain (mark (at 3 35) 16))) (More (Formals (More (declared (at 3 40) 19
    "Value") (More (declared (at 3 47) 20 "Twice") NoMore)) mode.In (Plain (mark (at 3 55) 0))) NoMore)) NoMore)) (More
    (SubDecl (Front (declared (at 4 10) 21 "Half") (More (Formals (More (declared (at 4 16) 22 "X") NoMore) mode.In
    (Plain (mark (at 4 20) 0))) NoMore) (More (Plain (mark (at 4 36) 0)) NoMore))) NoMore))) NoMore ∷ PackageBody
    (declared (at 6 14) 15 "P") (More (SubBody (Front (declared (at 7 11) 17 "Put_In") (More (Formals (More (declared
    (at 7 19) 23 "Target") NoMore) mode.InOut (Plain (mark (at 7 35) 16))) (More (Formals (More (declared (at 7 40) 24
    "Value") (More (declared (at 7 47) 25 "Twice") NoMore)) mode.In (Plain (mark (at 7 55) 0))) NoMore)) NoMore) NoMore
    (More (Assign (Named (at 8 1) 23 (More All NoMore)) (Binary (at 8 15) operator.Add (Named (at 8 15) 21 (More
    (Applied (actual (Named (at 8 21) 24 NoMore) NoMore)) NoMore)) (Named (at 8 30) 25 NoMore))) NoMore) (at 9 1)) (More
    (SubBody (Front (declared (at 10 10) 21 "Half") (More (Formals (More (declared (at 10 16) 26 "X") NoMore) mode.In
    (Plain (mark (at 10 20) 0))) NoMore) (More (Plain (mark (at 10 36) 0)) NoMore)) NoMore (More (Return (at 10 53)
    (More (Binary (at 10 60) operator.Divide (Named (at 10 60) 26 NoMore) (Number (at 10 64) 2)) NoMore)) NoMore) (at 10
    67)) NoMore)) ∷ SubBody (Front (declared (at 13 11) 27 "Main") NoMore NoMore) (More (Objects (More (declared (at 14
    1) 28 "A") NoMore) false (Plain (mark (at 14 5) 16)) NoMore) NoMore) (More (Call (Named (at 16 1) 17 (More (Applied
    (given "Twice" (Named (at 16 18) 21 (More (Applied (actual (Number (at 16 24) 1) NoMore)) NoMore)) (given "target"
    (Named (at 16 38) 28 NoMore) (given "Value" (Named (at 16 50) 21 (More (Applied (given "X" (Named (at 16 61) 21
    (More (Applied (actual (Number (at 16 67) 3) NoMore)) NoMore)) NoMore)) NoMore)) NoMore)))) NoMore))) NoMore) (at 17
    1) ∷ [])) expected.calls
unfolding typing
calls = (refl, refl)

-- Components by name, in another order.
aggregates : IsTypedAs (program 20 (SubBody (Front (declared (at 1 11) 15 "Main") NoMore NoMore) (More (TypeDecl
    (declared (at 2 6) 16 "Row") (Array (Bounds (Number (at 2 20) 1) (Number (at 2 25) 2)) (mark (at 2 31) 0)) (at 2
    38)) (More (TypeDecl (declared (at 3 6) 17 "Pair") (Record (More (Components (More (declared (at 3 21) 0 "First")
    (More (declared (at 3 28) 0 "Second") NoMore)) (mark (at 3 37) 0)) (More (Components (More (declared (at 3 46) 0
    "Cells") NoMore) (mark (at 3 54) 16)) NoMore))) (at 3 69)) (More (Objects (More (declared (at 4 1) 18 "P") NoMore)
    false (Plain (mark (at 4 5) 17)) (More (Aggregate (at 4 13) (given "Cells" (Others (at 4 23) (Number (at 4 34) 4))
    (given "Second" (Number (at 4 48) 2) (given "First" (Number (at 4 60) 1) NoMore)))) NoMore)) (More (Objects (More
    (declared (at 5 1) 19 "Q") NoMore) true (Plain (mark (at 5 14) 17)) (More (Aggregate (at 5 22) (actual (Number (at 5
    23) 3) (actual (Unary (at 5 26) unary.Minus (Number (at 5 27) 2147483648)) (actual (Aggregate (at 5 39) (actual
    (Number (at 5 40) 5) (actual (Number (at 5 43) 6) NoMore))) NoMore)))) NoMore)) NoMore)))) (More (Assign (Named (at
    7 1) 18 NoMore) (Aggregate (at 7 6) (given "First" (Named (at 7 16) 19 (More (selected "Second") NoMore)) (given
    "Cells" (Named (at 7 35) 19 (More (selected "Cells") NoMore)) (given "Second" (Named (at 7 54) 18 (More (selected
    "Cells") (More (Attr attribute.Last) NoMore))) NoMore))))) NoMore) (at 8 1) ∷ [])) expected.aggregates
unfolding typing
aggregates = (refl, refl)

-- Ranges of loops and choices of cases.
choices : IsTypedAs (program 29 (SubBody (Front (declared (at 1 11) 15 "Main") NoMore NoMore) (More (TypeDecl (declared
    (at 2 6) 16 "Color") (Enumeration (More (declared (at 2 16) 17 "Red") (More (declared (at 2 21) 18 "Green") (More
    (declared (at 2 28) 19 "Blue") (More (declared (at 2 34) 20 "White") NoMore))))) (at 2 40)) (More
    (ConstrainedSubtype (declared (at 3 9) 21 "Warm") (mark (at 3 17) 16) (Named (at 3 29) 17 NoMore) (Named (at 3 36)
    18 NoMore)) (More (ConstrainedSubtype (declared (at 4 9) 22 "Small") (mark (at 4 18) 0) (Number (at 4 32) 1) (Number
    (at 4 37) 9)) (More (Objects (More (declared (at 5 1) 23 "C") NoMore) false (Plain (mark (at 5 5) 16)) (More (Named
    (at 5 14) 19 NoMore) NoMore)) (More (Objects (More (declared (at 6 1) 24 "N") NoMore) false (Plain (mark (at 6 5)
    0)) (More (Number (at 6 16) 0) NoMore)) NoMore))))) (More (For (at 8 1) (declared (at 8 5) 25 "S") true (Marked
    (mark (at 8 18) 22)) (More (Assign (Named (at 8 29) 24 NoMore) (Binary (at 8 34) operator.Add (Named (at 8 34) 24
    NoMore) (Named (at 8 38) 25 NoMore))) NoMore)) (More (For (at 9 1) (declared (at 9 5) 26 "W") false (Marked (mark
    (at 9 10) 21)) (More (Assign (Named (at 9 20) 23 NoMore) (Named (at 9 25) 26 NoMore)) NoMore)) (More (For (at 10 1)
    (declared (at 10 5) 27 "I") false (Constrained (mark (at 10 10) 22) (Number (at 10 22) 2) (Named (at 10 27) 24
    NoMore)) (More (Skip (at 10 34)) NoMore)) (More (For (at 11 1) (declared (at 11 5) 28 "J") false (Bounds (Number (at
    11 10) 1) (Named (at 11 15) 24 NoMore)) (More (Skip (at 11 22)) NoMore)) (More (Case (at 12 1) (Named (at 12 6) 23
    NoMore) (More (When (More (Interval (Named (at 12 16) 17 NoMore) (Named (at 12 23) 18 NoMore)) NoMore) (More (Assign
    (Named (at 12 32) 24 NoMore) (Number (at 12 37) 1)) NoMore)) (More (When (More (Value (Named (at 12 45) 20 NoMore))
    NoMore) (More (Skip (at 12 54)) NoMore)) (More (When (More (OthersChoice (at 12 65)) NoMore) (More (Assign (Named
    (at 12 75) 24 NoMore) (Number (at 12 80) 2)) NoMore)) NoMore)))) (More (Case (at 13 1) (Named (at 13 6) 24 NoMore)
    (More (When (More (Value (Unary (at 13 16) unary.Minus (Number (at 13 17) 1))) (More (Interval (Binary (at 13 21)
    operator.Add (Number (at 13 21) 2) (Number (at 13 25) 1)) (Number (at 13 30) 5)) NoMore)) (More (Skip (at 13 35))
    NoMore)) (More (When (More (OthersChoice (at 13 46)) NoMore) (More (Skip (at 13 56)) NoMore)) NoMore))) NoMore))))))
    (at 14 1) ∷ [])) expected.choices
unfolding typing
choices = (refl, refl)

-- Scopes within scopes, and a list of identifiers.
blocks : IsTypedAs (program 21 (SubBody (Front (declared (at 1 11) 15 "Main") NoMore NoMore) (More (Objects (More
    (declared (at 2 1) 16 "N") NoMore) false (Plain (mark (at 2 5) 0)) NoMore) NoMore) (More (Block (at 4 1) (More
    (Objects (More (declared (at 5 1) 17 "A") NoMore) false (Plain (mark (at 5 5) 0)) (More (Named (at 5 16) 16 NoMore)
    NoMore)) NoMore) (More (Block (at 7 1) NoMore (More (Skip (at 7 7)) NoMore) (at 7 13)) (More (For (at 8 1) (declared
    (at 8 5) 18 "I") false (Bounds (Number (at 8 10) 1) (Number (at 8 15) 2)) (More (Block (at 8 22) (More (Objects
    (More (declared (at 8 30) 19 "B") (More (declared (at 8 33) 20 "C") NoMore)) false (Plain (mark (at 8 37) 0)) (More
    (Named (at 8 48) 18 NoMore) NoMore)) NoMore) (More (Assign (Named (at 8 57) 17 NoMore) (Binary (at 8 62)
    operator.Add (Named (at 8 62) 19 NoMore) (Named (at 8 66) 20 NoMore))) NoMore) (at 8 69)) NoMore)) NoMore)) (at 9
    1)) (More (While (at 10 1) (Binary (at 10 7) operator.Greater (Named (at 10 7) 16 NoMore) (Number (at 10 11) 0))
    (More (Exit (at 11 1) (More (Binary (at 11 11) operator.AndThen (Binary (at 11 11) operator.Equal (Named (at 11 11)
    16 NoMore) (Number (at 11 15) 5)) (Binary (at 11 26) operator.NotEqual (Parens (at 11 26) (Named (at 11 27) 16
    NoMore)) (Number (at 11 33) 4))) NoMore)) (More (If (at 12 1) (More (Branch (at 12 1) (Binary (at 12 4)
    operator.Less (Named (at 12 4) 16 NoMore) (Number (at 12 8) 3)) (More (Return (at 12 15) NoMore) NoMore)) (More
    (Branch (at 12 23) (Binary (at 12 29) operator.GreaterEqual (Named (at 12 29) 16 NoMore) (Number (at 12 34) 7))
    (More (Skip (at 12 41)) NoMore)) NoMore)) (More (Exit (at 12 52) NoMore) NoMore)) NoMore))) (More (Loop (at 14 1)
    (More (Block (at 14 6) NoMore (More (Exit (at 14 12) NoMore) NoMore) (at 14 18)) NoMore)) NoMore))) (at 15 1) ∷ []))
    expected.blocks
unfolding typing
blocks = (refl, refl)

-- Objects of a package, of its private part and its body.
package_objects : IsTypedAs (program 27 (Package (declared (at 1 9) 15 "P") (More (Private (declared (at 2 6) 16 "T"))
    (More (Objects (More (declared (at 3 1) 17 "A") (More (declared (at 3 4) 18 "B") NoMore)) false (Plain (mark (at 3
    8) 0)) (More (Binary (at 3 19) operator.Add (Number (at 3 19) 1) (Number (at 3 23) 2)) NoMore)) (More (Objects (More
    (declared (at 4 1) 19 "K") NoMore) true (Plain (mark (at 4 14) 0)) (More (Named (at 4 25) 17 NoMore) NoMore)) (More
    (SubDecl (Front (declared (at 5 11) 20 "Q") NoMore NoMore)) NoMore)))) (More (TypeDecl (declared (at 7 6) 16 "T")
    (Access (mark (at 7 18) 0)) (at 7 25)) (More (Objects (More (declared (at 8 1) 21 "X") NoMore) false (Plain (mark
    (at 8 5) 16)) (More (New (at 8 10) (mark (at 8 14) 0) NoMore) NoMore)) NoMore)) ∷ PackageBody (declared (at 10 14)
    15 "p") (More (Objects (More (declared (at 11 1) 22 "Y") NoMore) true (Plain (mark (at 11 14) 3)) (More (Binary (at
    11 25) operator.OrElse (Binary (at 11 25) operator.Equal (Named (at 11 25) 17 NoMore) (Number (at 11 29) 3)) (Binary
    (at 11 39) operator.NotEqual (Named (at 11 39) 17 NoMore) (Named (at 11 44) 18 NoMore))) NoMore)) (More (Numbers
    (More (declared (at 12 1) 23 "M") NoMore) (Number (at 12 17) 3)) (More (SubBody (Front (declared (at 13 11) 20 "Q")
    NoMore NoMore) (More (Objects (More (declared (at 14 1) 24 "N") NoMore) false (Plain (mark (at 14 5) 0)) (More
    (Named (at 14 16) 23 NoMore) NoMore)) NoMore) (More (Assign (Named (at 16 1) 21 (More All NoMore)) (Named (at 16 10)
    24 NoMore)) (More (Assign (Named (at 16 13) 18 NoMore) (Named (at 16 18) 0 (More (Attr attribute.First) NoMore)))
    NoMore)) (at 17 1)) (More (Objects (More (declared (at 18 1) 25 "Z") NoMore) false (Plain (mark (at 18 5) 16))
    NoMore) NoMore)))) ∷ SubBody (Front (declared (at 21 11) 26 "Main") NoMore NoMore) NoMore (More (Call (Named (at 23
    1) 20 NoMore)) NoMore) (at 24 1) ∷ [])) expected.package_objects
unfolding typing
package_objects = (refl, refl)

-- A borrower, an observer and a traversal function.
views : IsTypedAs (program 26 (Package (declared (at 1 9) 15 "P") (More (Incomplete (declared (at 2 6) 16 "Cell")) (More
    (TypeDecl (declared (at 2 17) 17 "List") (Access (mark (at 2 32) 16)) (at 2 36)) (More (TypeDecl (declared (at 3 6)
    16 "Cell") (Record (More (Components (More (declared (at 3 21) 0 "Value") NoMore) (mark (at 3 29) 0)) (More
    (Components (More (declared (at 3 38) 0 "Next") NoMore) (mark (at 3 45) 17)) NoMore))) (at 3 61)) (More (SubDecl
    (Front (declared (at 4 10) 18 "Last") (More (Formals (More (declared (at 4 16) 19 "L") NoMore) mode.In (Anonymous
    (at 4 20) false (mark (at 4 27) 16))) NoMore) (More (Anonymous (at 4 40) false (mark (at 4 47) 16)) NoMore)))
    NoMore)))) NoMore ∷ PackageBody (declared (at 6 14) 15 "P") (More (SubBody (Front (declared (at 7 10) 18 "Last")
    (More (Formals (More (declared (at 7 16) 20 "L") NoMore) mode.In (Anonymous (at 7 20) false (mark (at 7 27) 16)))
    NoMore) (More (Anonymous (at 7 40) false (mark (at 7 47) 16)) NoMore)) (More (Objects (More (declared (at 8 1) 21
    "B") NoMore) false (Anonymous (at 8 5) false (mark (at 8 12) 16)) (More (Named (at 8 20) 20 NoMore) NoMore)) NoMore)
    (More (While (at 9 1) (Binary (at 9 7) operator.NotEqual (Named (at 9 7) 21 (More (selected "Next") NoMore)) (Null
    (at 9 17))) (More (Assign (Named (at 9 27) 21 NoMore) (Named (at 9 32) 21 (More (selected "Next") NoMore))) NoMore))
    (More (Return (at 10 1) (More (Named (at 10 8) 21 NoMore) NoMore)) NoMore)) (at 10 11)) NoMore) ∷ SubBody (Front
    (declared (at 13 11) 22 "Main") NoMore NoMore) (More (Objects (More (declared (at 14 1) 23 "X") NoMore) false (Plain
    (mark (at 14 5) 17)) (More (New (at 14 13) (mark (at 14 17) 16) (actual (Aggregate (at 14 22) (actual (Number (at 14
    23) 1) (actual (New (at 14 26) (mark (at 14 30) 16) (actual (Aggregate (at 14 35) (actual (Number (at 14 36) 2)
    (actual (Null (at 14 39)) NoMore))) NoMore)) NoMore))) NoMore)) NoMore)) NoMore) (More (Block (at 16 1) (More
    (Objects (More (declared (at 17 1) 24 "B") NoMore) false (Anonymous (at 17 5) false (mark (at 17 12) 16)) (More
    (Named (at 17 20) 18 (More (Applied (actual (Named (at 17 26) 23 NoMore) NoMore)) NoMore)) NoMore)) (More (Objects
    (More (declared (at 18 1) 25 "C") NoMore) false (Anonymous (at 18 5) true (mark (at 18 21) 16)) (More (Named (at 18
    29) 23 (More (selected "Next") NoMore)) NoMore)) NoMore)) (More (Assign (Named (at 19 7) 24 (More (selected "Value")
    NoMore)) (Number (at 19 18) 9)) (More (Assign (Named (at 19 21) 25 NoMore) (Named (at 19 26) 25 (More (selected
    "Next") NoMore))) NoMore)) (at 19 34)) (More (Call (Named (at 20 1) 9 (More (Applied (actual (Binary (at 20 11)
    operator.Concatenate (Named (at 20 11) 0 (More (Attr attribute.Image) (More (Applied (actual (Named (at 20 26) 23
    (More (selected "Next") (More (selected "Value") NoMore))) NoMore)) NoMore))) (string (at 20 42) "\" \"\"a\"\"\""))
    NoMore)) NoMore))) NoMore)) (at 21 1) ∷ [])) expected.views
unfolding typing
views = (refl, refl)

-- Parts of parts, values of attributes, and `null` on the left.
parts : IsTypedAs (program 30 (SubBody (Front (declared (at 1 11) 15 "Main") NoMore NoMore) (More (TypeDecl (declared
    (at 2 6) 16 "Color") (Enumeration (More (declared (at 2 16) 17 "Red") (More (declared (at 2 21) 18 "Green") (More
    (declared (at 2 28) 19 "Blue") NoMore)))) (at 2 33)) (More (ConstrainedSubtype (declared (at 3 9) 20 "Warm") (mark
    (at 3 17) 16) (Named (at 3 29) 18 NoMore) (Named (at 3 38) 19 NoMore)) (More (TypeDecl (declared (at 4 6) 21 "Row")
    (Array (Bounds (Number (at 4 20) 0) (Number (at 4 25) 1)) (mark (at 4 31) 0)) (at 4 38)) (More (TypeDecl (declared
    (at 5 6) 22 "Row_Ptr") (Access (mark (at 5 24) 21)) (at 5 27)) (More (TypeDecl (declared (at 6 6) 23 "Pair") (Record
    (More (Components (More (declared (at 6 21) 0 "Cells") NoMore) (mark (at 6 29) 21)) (More (Components (More
    (declared (at 6 34) 0 "Link") NoMore) (mark (at 6 41) 22)) NoMore))) (at 6 60)) (More (TypeDecl (declared (at 7 6)
    24 "Table") (Array (Bounds (Number (at 7 22) 1) (Number (at 7 27) 2)) (mark (at 7 33) 23)) (at 7 37)) (More (Objects
    (More (declared (at 8 1) 25 "T") NoMore) false (Plain (mark (at 8 5) 24)) NoMore) (More (Objects (More (declared (at
    9 1) 26 "C") NoMore) false (Plain (mark (at 9 5) 16)) (More (Named (at 9 14) 20 (More (Attr attribute.First)
    NoMore)) NoMore)) (More (Objects (More (declared (at 10 1) 27 "R") NoMore) false (Plain (mark (at 10 5) 22)) (More
    (New (at 10 16) (mark (at 10 20) 21) (actual (Others (at 10 24) (Number (at 10 35) 0)) NoMore)) NoMore)) (More
    (Objects (More (declared (at 11 1) 28 "F") NoMore) false (Plain (mark (at 11 5) 3)) (More (Binary (at 11 16)
    operator.Xor (Binary (at 11 16) operator.NotEqual (Null (at 11 16)) (Named (at 11 24) 27 NoMore)) (Unary (at 11 30)
    unary.Not (Parens (at 11 34) (Binary (at 11 35) operator.Equal (Named (at 11 35) 26 NoMore) (Named (at 11 39) 16
    (More (Attr attribute.Last) NoMore)))))) NoMore)) (More (Objects (More (declared (at 12 1) 29 "N") NoMore) false
    (Plain (mark (at 12 5) 0)) (More (Binary (at 12 16) operator.Modulo (Unary (at 12 16) unary.Abs (Parens (at 12 20)
    (Unary (at 12 21) unary.Minus (Number (at 12 22) 3)))) (Number (at 12 29) 2)) NoMore)) NoMore))))))))))) (More
    (Assign (Named (at 14 1) 25 (More (Applied (actual (Named (at 14 4) 29 NoMore) NoMore)) (More (selected "Cells")
    (More (Applied (actual (Named (at 14 14) 25 (More (Applied (actual (Number (at 14 17) 2) NoMore)) (More (selected
    "Link") (More (Applied (actual (Number (at 14 26) 0) NoMore)) NoMore)))) NoMore)) NoMore)))) (Named (at 14 33) 27
    (More (Applied (actual (Binary (at 14 36) operator.Subtract (Named (at 14 36) 21 (More (Attr attribute.Length)
    NoMore)) (Number (at 14 49) 1)) NoMore)) NoMore))) (More (Assign (Named (at 15 1) 25 (More (Applied (actual (Number
    (at 15 4) 1) NoMore)) NoMore)) (Aggregate (at 15 10) (given "Link" (Null (at 15 19)) (given "Cells" (Named (at 15
    34) 27 (More All NoMore)) NoMore)))) (More (Assign (Named (at 16 1) 25 NoMore) (Aggregate (at 16 6) (actual
    (Aggregate (at 16 7) (given "Cells" (Aggregate (at 16 17) (actual (Number (at 16 18) 1) (actual (Number (at 16 21)
    2) NoMore))) (given "Link" (Null (at 16 33)) NoMore))) (actual (Aggregate (at 16 40) (actual (Named (at 16 41) 27
    (More All NoMore)) (actual (Null (at 16 48)) NoMore))) NoMore)))) (More (Assign (Named (at 17 1) 27 (More All (More
    (Applied (actual (Named (at 17 8) 24 (More (Attr attribute.Last) NoMore)) NoMore)) NoMore))) (Named (at 17 23) 25
    (More (Applied (actual (Number (at 17 26) 1) NoMore)) (More (selected "Cells") (More (Attr attribute.First)
    NoMore))))) NoMore)))) (at 18 1) ∷ [])) expected.parts
unfolding typing
parts = (refl, refl)

-- A main procedure between a package and its body, in three files.
three_files : IsTypedAs (program 27 (Package (declared (at 1 9) 15 "Stacks") (More (Private (declared (at 2 6) 16
    "Stack")) (More (Objects (More (declared (at 3 1) 17 "Top") NoMore) false (Plain (mark (at 3 7) 0)) NoMore) (More
    (SubDecl (Front (declared (at 4 10) 18 "Depth") NoMore (More (Plain (mark (at 4 23) 0)) NoMore))) (More (SubDecl
    (Front (declared (at 5 11) 19 "Push") (More (Formals (More (declared (at 5 17) 20 "S") NoMore) mode.InOut (Plain
    (mark (at 5 28) 16))) (More (Formals (More (declared (at 5 35) 21 "V") NoMore) mode.In (Plain (mark (at 5 39) 0)))
    NoMore)) NoMore)) NoMore)))) (More (Incomplete (declared (at 7 6) 22 "Cell")) (More (TypeDecl (declared (at 8 6) 16
    "Stack") (Access (mark (at 8 22) 22)) (at 8 26)) (More (TypeDecl (declared (at 9 6) 22 "Cell") (Record (More
    (Components (More (declared (at 9 21) 0 "V") NoMore) (mark (at 9 25) 0)) (More (Components (More (declared (at 9 34)
    0 "S") NoMore) (mark (at 9 38) 16)) NoMore))) (at 9 55)) NoMore))) ∷ SubBody (Front (declared (at1 2 11) 23 "Main")
    NoMore NoMore) (More (Objects (More (declared (at1 3 1) 24 "S") NoMore) false (Plain (mark (at1 3 5) 16)) NoMore)
    NoMore) (More (Call (Named (at1 5 1) 19 (More (Applied (given "V" (Named (at1 5 19) 18 NoMore) (given "S" (Named
    (at1 5 38) 24 NoMore) NoMore))) NoMore))) (More (Assign (Named (at1 6 1) 17 NoMore) (Named (at1 6 15) 18 NoMore))
    NoMore)) (at1 7 1) ∷ PackageBody (declared (at2 1 14) 15 "Stacks") (More (SubBody (Front (declared (at2 2 10) 18
    "Depth") NoMore (More (Plain (mark (at2 2 23) 0)) NoMore)) NoMore (More (Return (at2 2 40) (More (Named (at2 2 47)
    17 NoMore) NoMore)) NoMore) (at2 2 52)) (More (SubBody (Front (declared (at2 3 11) 19 "Push") (More (Formals (More
    (declared (at2 3 17) 25 "S") NoMore) mode.InOut (Plain (mark (at2 3 28) 16))) (More (Formals (More (declared (at2 3
    35) 26 "V") NoMore) mode.In (Plain (mark (at2 3 39) 0))) NoMore)) NoMore) NoMore (More (Assign (Named (at2 4 1) 25
    NoMore) (New (at2 4 6) (mark (at2 4 10) 22) (actual (Aggregate (at2 4 15) (actual (Named (at2 4 16) 26 NoMore)
    (actual (Named (at2 4 19) 25 NoMore) NoMore))) NoMore))) (More (Assign (Named (at2 5 1) 25 (More (selected "V")
    NoMore)) (Named (at2 5 8) 25 (More (selected "S") (More (selected "V") NoMore)))) NoMore)) (at2 6 1)) NoMore)) ∷
    [])) expected.three_files
unfolding typing
three_files = (refl, refl)

input_and_output : IsTypedAs (program 21 (SubBody (Front (declared (at 3 11) 15 "Main") NoMore NoMore) (More (TypeDecl
    (declared (at 4 6) 16 "Row") (Array (Constrained (mark (at 4 20) 1) (Number (at 4 34) 0) (Number (at 4 39) 1)) (mark
    (at 4 45) 0)) (at 4 52)) (More (Objects (More (declared (at 5 1) 17 "V") NoMore) false (Plain (mark (at 5 5) 16))
    NoMore) (More (Objects (More (declared (at 5 10) 18 "N") NoMore) false (Plain (mark (at 5 14) 0)) NoMore) NoMore)))
    (More (While (at 7 1) (Unary (at 7 7) unary.Not (Named (at 7 11) 11 NoMore)) (More (Call (Named (at 7 28) 13 (More
    (Applied (actual (Named (at 7 33) 17 (More (Applied (actual (Named (at 7 36) 18 NoMore) NoMore)) NoMore)) NoMore))
    NoMore))) NoMore)) (More (For (at 8 1) (declared (at 8 5) 19 "I") false (RangeOf (Named (at 8 10) 17 NoMore)) (More
    (Call (Named (at 8 23) 8 (More (Applied (actual (Named (at 8 28) 3 (More (Attr attribute.Image) (More (Applied
    (actual (Named (at 8 43) 5 NoMore) NoMore)) NoMore))) NoMore)) NoMore))) NoMore)) (More (For (at 9 1) (declared (at
    9 5) 20 "I") true (RangeOf (Named (at 9 18) 16 NoMore)) (More (Call (Named (at 9 33) 10 NoMore)) NoMore)) NoMore)))
    (at 10 1) ∷ [])) expected.input_and_output
unfolding typing
input_and_output = (refl, refl)

no_main : IsTypedAs (program 17 (Package (declared (at 1 9) 15 "P") (More (Objects (More (declared (at 2 1) 16 "X")
    NoMore) false (Plain (mark (at 2 5) 0)) NoMore) NoMore) NoMore ∷ [])) expected.no_main
unfolding typing
no_main = (refl, refl)
