-- The resolved trees of the sources in data/.
--
-- tools/flow_sources.py makes this.
use Rattle.std.specs.Prelude.{[], ◌∷◌}
use Rattle.std.specs.Prelude.{false, true}
use Rattle.resolved_tree.specs.declared.operator.Attribute.TheVariants as attribute
use Rattle.place_names.specs.declared.act.Mode.TheVariants as mode
use Rattle.resolved_tree.specs.declared.operator.Operator.TheVariants as operator
use Rattle.resolved_tree.specs.declared.operator.UnaryOperator.TheVariants as unary
use Rattle.resolved_tree.specs.Trees.{Program, Access, Aggregate, Anonymous, Applied, Array, Assign, Attr, Binary, Block, Bounds, Branch, Call, Case, Components, Constrained, ConstrainedSubtype, Enumeration, Exit, For, Formals, Front, If, Incomplete, Instance, Interval, More, Named, New, NoMore, Null, Number, Objects, Others, OthersChoice, Package, PackageBody, Parens, Plain, Record, Return, SubBody, SubDecl, TypeDecl, Unary, Value, When, While}
use Rattle.flow_tests.proofs.ResolvedTrees.{actual, at, declared, mark, program, selected, string}

abbrev pub copying_back : Program
copying_back = program 42 (Package (declared (at 1 9) 15 "P") (More (Incomplete (declared (at 2 9) 16 "Cell")) (More
    (TypeDecl (declared (at 3 9) 17 "List") (Access (mark (at 3 24) 16)) (at 3 28)) (More (TypeDecl (declared (at 4 9)
    16 "Cell") (Record (More (Components (More (declared (at 5 7) 0 "Value") NoMore) (mark (at 5 15) 0)) (More
    (Components (More (declared (at 6 7) 0 "Next") NoMore) (mark (at 6 14) 17)) NoMore))) (at 7 14)) (More
    (ConstrainedSubtype (declared (at 8 12) 18 "Small") (mark (at 8 21) 0) (Number (at 8 35) 0) (Number (at 8 40) 9))
    (More (SubDecl (Front (declared (at 9 14) 19 "Grow") (More (Formals (More (declared (at 9 20) 20 "L") NoMore)
    mode.InOut (Plain (mark (at 9 31) 17))) (More (Formals (More (declared (at 9 37) 21 "Added") NoMore) mode.Out (Plain
    (mark (at 9 49) 18))) NoMore)) NoMore)) (More (SubDecl (Front (declared (at 10 14) 22 "Make") (More (Formals (More
    (declared (at 10 20) 23 "N") NoMore) mode.In (Plain (mark (at 10 24) 0))) (More (Formals (More (declared (at 10 33)
    24 "L") (More (declared (at 10 36) 25 "M") NoMore)) mode.Out (Plain (mark (at 10 44) 17))) NoMore)) NoMore)) (More
    (SubDecl (Front (declared (at 11 14) 26 "Swap") (More (Formals (More (declared (at 11 20) 27 "A") (More (declared
    (at 11 23) 28 "B") NoMore)) mode.InOut (Plain (mark (at 11 34) 17))) NoMore) NoMore)) NoMore))))))) NoMore ∷
    PackageBody (declared (at 13 14) 15 "P") (More (SubBody (Front (declared (at 14 14) 19 "Grow") (More (Formals (More
    (declared (at 14 20) 29 "L") NoMore) mode.InOut (Plain (mark (at 14 31) 17))) (More (Formals (More (declared (at 14
    37) 30 "Added") NoMore) mode.Out (Plain (mark (at 14 49) 18))) NoMore)) NoMore) NoMore (More (Assign (Named (at 16
    7) 30 NoMore) (Number (at 16 16) 7)) (More (If (at 17 7) (More (Branch (at 17 7) (Binary (at 17 10) operator.Equal
    (Named (at 17 10) 29 NoMore) (Null (at 17 14))) (More (Assign (Named (at 18 10) 29 NoMore) (New (at 18 15) (mark (at
    18 19) 16) (actual (Aggregate (at 18 24) (actual (Named (at 18 25) 30 NoMore) (actual (Null (at 18 32)) NoMore)))
    NoMore))) NoMore)) NoMore) (More (Call (Named (at 20 10) 19 (More (Applied (actual (Named (at 20 16) 29 (More
    (selected "Next") NoMore)) (actual (Named (at 20 24) 30 NoMore) NoMore))) NoMore))) (More (Assign (Named (at 21 10)
    29 (More (selected "Value") NoMore)) (Binary (at 21 21) operator.Add (Named (at 21 21) 29 (More (selected "Value")
    NoMore)) (Named (at 21 31) 30 NoMore))) NoMore))) NoMore)) (at 23 4)) (More (SubBody (Front (declared (at 24 14) 22
    "Make") (More (Formals (More (declared (at 24 20) 31 "N") NoMore) mode.In (Plain (mark (at 24 24) 0))) (More
    (Formals (More (declared (at 24 33) 32 "L") (More (declared (at 24 36) 33 "M") NoMore)) mode.Out (Plain (mark (at 24
    44) 17))) NoMore)) NoMore) NoMore (More (Assign (Named (at 26 7) 32 NoMore) (New (at 26 12) (mark (at 26 16) 16)
    (actual (Aggregate (at 26 21) (actual (Named (at 26 22) 31 NoMore) (actual (New (at 26 25) (mark (at 26 29) 16)
    (actual (Aggregate (at 26 34) (actual (Binary (at 26 35) operator.Add (Named (at 26 35) 31 NoMore) (Number (at 26
    39) 1)) (actual (Null (at 26 42)) NoMore))) NoMore)) NoMore))) NoMore))) NoMore) (at 27 4)) (More (SubBody (Front
    (declared (at 28 14) 26 "Swap") (More (Formals (More (declared (at 28 20) 34 "A") (More (declared (at 28 23) 35 "B")
    NoMore)) mode.InOut (Plain (mark (at 28 34) 17))) NoMore) NoMore) (More (Objects (More (declared (at 29 7) 36 "T")
    NoMore) false (Plain (mark (at 29 11) 17)) (More (Named (at 29 19) 34 NoMore) NoMore)) NoMore) (More (Assign (Named
    (at 31 7) 34 NoMore) (Named (at 31 12) 35 NoMore)) (More (Assign (Named (at 32 7) 35 NoMore) (Named (at 32 12) 36
    NoMore)) NoMore)) (at 33 4)) NoMore))) ∷ SubBody (Front (declared (at 37 11) 37 "Main") NoMore NoMore) (More
    (TypeDecl (declared (at 38 9) 38 "Counts") (Array (Bounds (Number (at 38 26) 1) (Number (at 38 31) 2)) (mark (at 38
    37) 0)) (at 38 44)) (More (Objects (More (declared (at 39 4) 39 "X") (More (declared (at 39 7) 40 "Y") NoMore))
    false (Plain (mark (at 39 11) 17)) NoMore) (More (Objects (More (declared (at 40 4) 41 "C") NoMore) false (Plain
    (mark (at 40 8) 38)) (More (Aggregate (at 40 18) (actual (Number (at 40 19) 1) (actual (Number (at 40 22) 2)
    NoMore))) NoMore)) NoMore))) (More (Call (Named (at 42 4) 19 (More (Applied (actual (Named (at 42 10) 39 NoMore)
    (actual (Named (at 42 13) 41 (More (Applied (actual (Number (at 42 16) 2) NoMore)) NoMore)) NoMore))) NoMore)))
    (More (Call (Named (at 43 4) 19 (More (Applied (actual (Named (at 43 10) 39 NoMore) (actual (Named (at 43 13) 41
    (More (Applied (actual (Named (at 43 16) 41 (More (Applied (actual (Number (at 43 19) 1) NoMore)) NoMore)) NoMore))
    NoMore)) NoMore))) NoMore))) (More (Call (Named (at 44 4) 22 (More (Applied (actual (Named (at 44 10) 41 (More
    (Applied (actual (Number (at 44 13) 1) NoMore)) NoMore)) (actual (Named (at 44 17) 40 NoMore) (actual (Named (at 44
    20) 39 (More (selected "Next") NoMore)) NoMore)))) NoMore))) (More (Call (Named (at 45 4) 26 (More (Applied (actual
    (Named (at 45 10) 39 (More (selected "Next") NoMore)) (actual (Named (at 45 18) 40 (More (selected "Next") NoMore))
    NoMore))) NoMore))) (More (Call (Named (at 46 4) 9 (More (Applied (actual (Binary (at 46 14) operator.Concatenate
    (Binary (at 46 14) operator.Concatenate (Named (at 46 14) 0 (More (Attr attribute.Image) (More (Applied (actual
    (Named (at 46 29) 39 (More (selected "Value") NoMore)) NoMore)) NoMore))) (Named (at 46 40) 0 (More (Attr
    attribute.Image) (More (Applied (actual (Named (at 46 55) 39 (More (selected "Next") (More (selected "Value")
    NoMore))) NoMore)) NoMore)))) (Named (at 46 71) 0 (More (Attr attribute.Image) (More (Applied (actual (Binary (at 46
    86) operator.Add (Named (at 46 86) 41 (More (Applied (actual (Number (at 46 89) 1) NoMore)) NoMore)) (Named (at 46
    94) 41 (More (Applied (actual (Number (at 46 97) 2) NoMore)) NoMore))) NoMore)) NoMore)))) NoMore)) NoMore))) (More
    (Assign (Named (at 47 4) 41 (More (Applied (actual (Number (at 47 7) 1) NoMore)) NoMore)) (Number (at 47 13) 3))
    (More (Call (Named (at 48 4) 22 (More (Applied (actual (Number (at 48 10) 2) (actual (Named (at 48 13) 39 NoMore)
    (actual (Named (at 48 16) 40 NoMore) NoMore)))) NoMore))) (More (Call (Named (at 49 4) 19 (More (Applied (actual
    (Named (at 49 10) 39 (More (selected "Next") NoMore)) (actual (Named (at 49 18) 41 (More (Applied (actual (Named (at
    49 21) 41 (More (Applied (actual (Number (at 49 24) 1) NoMore)) NoMore)) NoMore)) NoMore)) NoMore))) NoMore)))
    NoMore)))))))) (at 50 1) ∷ [])

abbrev pub deep_indexes : Program
deep_indexes = program 25 (SubBody (Front (declared (at 3 11) 15 "Main") NoMore NoMore) (More (TypeDecl (declared (at 4
    9) 16 "Line") (Array (Bounds (Number (at 4 24) 0) (Number (at 4 29) 2)) (mark (at 4 35) 0)) (at 4 42)) (More
    (TypeDecl (declared (at 5 9) 17 "Grid") (Array (Bounds (Number (at 5 24) 1) (Number (at 5 29) 2)) (mark (at 5 35)
    16)) (at 5 39)) (More (TypeDecl (declared (at 6 9) 18 "Box") (Record (More (Components (More (declared (at 7 7) 0
    "Size") NoMore) (mark (at 7 14) 0)) (More (Components (More (declared (at 8 7) 0 "Cells") NoMore) (mark (at 8 15)
    17)) NoMore))) (at 9 14)) (More (TypeDecl (declared (at 10 9) 19 "Box_Ptr") (Access (mark (at 10 27) 18)) (at 10
    30)) (More (Instance (declared (at 11 14) 20 "Free") (mark (at 11 26) 14) (actual (Named (at 11 54) 18 NoMore)
    (actual (Named (at 11 59) 19 NoMore) NoMore))) (More (TypeDecl (declared (at 12 9) 21 "Row") (Array (Bounds (Number
    (at 12 23) 1) (Number (at 12 28) 2)) (mark (at 12 34) 19)) (at 12 41)) (More (Objects (More (declared (at 13 4) 22
    "R") NoMore) false (Plain (mark (at 13 8) 21)) NoMore) (More (Objects (More (declared (at 14 4) 23 "S") NoMore)
    false (Plain (mark (at 14 8) 17)) NoMore) (More (Objects (More (declared (at 15 4) 24 "I") NoMore) false (Plain
    (mark (at 15 8) 0)) (More (Number (at 15 19) 1) NoMore)) NoMore))))))))) (More (Assign (Named (at 17 4) 22 (More
    (Applied (actual (Number (at 17 7) 1) NoMore)) NoMore)) (New (at 17 13) (mark (at 17 17) 18) (actual (Aggregate (at
    17 21) (actual (Number (at 17 22) 5) (actual (Aggregate (at 17 25) (actual (Aggregate (at 17 26) (actual (Number (at
    17 27) 1) (actual (Number (at 17 30) 2) (actual (Number (at 17 33) 3) NoMore)))) (actual (Others (at 17 37) (Number
    (at 17 48) 4)) NoMore))) NoMore))) NoMore))) (More (Assign (Named (at 18 4) 22 (More (Applied (actual (Number (at 18
    7) 2) NoMore)) NoMore)) (New (at 18 13) (mark (at 18 17) 18) NoMore)) (More (Assign (Named (at 19 4) 23 NoMore)
    (Named (at 19 9) 22 (More (Applied (actual (Number (at 19 12) 1) NoMore)) (More (selected "Cells") NoMore)))) (More
    (Assign (Named (at 20 4) 23 (More (Applied (actual (Named (at 20 7) 24 NoMore) NoMore)) NoMore)) (Named (at 20 13)
    23 (More (Applied (actual (Binary (at 20 16) operator.Add (Named (at 20 16) 24 NoMore) (Number (at 20 20) 1))
    NoMore)) NoMore))) (More (Assign (Named (at 21 4) 22 (More (Applied (actual (Binary (at 21 7) operator.Add (Named
    (at 21 7) 24 NoMore) (Number (at 21 11) 1)) NoMore)) (More (selected "Cells") NoMore))) (Named (at 21 23) 23
    NoMore)) (More (Assign (Named (at 22 4) 22 (More (Applied (actual (Binary (at 22 7) operator.Add (Named (at 22 7) 22
    (More (Applied (actual (Number (at 22 10) 1) NoMore)) (More (selected "Cells") (More (Applied (actual (Number (at 22
    20) 1) NoMore)) (More (Applied (actual (Number (at 22 24) 0) NoMore)) NoMore))))) (Number (at 22 29) 1)) NoMore))
    (More (selected "Cells") (More (Applied (actual (Number (at 22 39) 2) NoMore)) (More (Applied (actual (Binary (at 22
    43) operator.Subtract (Named (at 22 43) 22 (More (Applied (actual (Number (at 22 46) 1) NoMore)) (More (selected
    "Cells") (More (Applied (actual (Named (at 22 56) 24 NoMore) NoMore)) (More (Applied (actual (Named (at 22 60) 24
    NoMore) NoMore)) NoMore))))) (Number (at 22 65) 2)) NoMore)) NoMore))))) (Binary (at 22 71) operator.Add (Named (at
    22 71) 22 (More (Applied (actual (Number (at 22 74) 1) NoMore)) (More (selected "Size") NoMore))) (Named (at 22 84)
    22 (More (Applied (actual (Number (at 22 87) 2) NoMore)) (More (selected "Cells") (More (Applied (actual (Number (at
    22 97) 1) NoMore)) (More (Applied (actual (Number (at 22 101) 2) NoMore)) NoMore))))))) (More (Call (Named (at 23 4)
    9 (More (Applied (actual (Binary (at 23 14) operator.Concatenate (Named (at 23 14) 0 (More (Attr attribute.Image)
    (More (Applied (actual (Named (at 23 29) 22 (More (Applied (actual (Number (at 23 32) 2) NoMore)) (More (selected
    "Cells") (More (Applied (actual (Number (at 23 42) 2) NoMore)) (More (Applied (actual (Number (at 23 46) 0) NoMore))
    NoMore))))) NoMore)) NoMore))) (Named (at 23 52) 0 (More (Attr attribute.Image) (More (Applied (actual (Named (at 23
    67) 22 (More (Applied (actual (Number (at 23 70) 2) NoMore)) (More (selected "Cells") (More (Applied (actual (Number
    (at 23 80) 1) NoMore)) (More (Applied (actual (Number (at 23 84) 1) NoMore)) NoMore))))) NoMore)) NoMore))))
    NoMore)) NoMore))) (More (Call (Named (at 24 4) 20 (More (Applied (actual (Named (at 24 10) 22 (More (Applied
    (actual (Number (at 24 13) 2) NoMore)) NoMore)) NoMore)) NoMore))) (More (Assign (Named (at 25 4) 22 (More (Applied
    (actual (Number (at 25 7) 1) NoMore)) (More (selected "Cells") (More (Applied (actual (Binary (at 25 17)
    operator.Subtract (Named (at 25 17) 22 (More (Applied (actual (Number (at 25 20) 1) NoMore)) (More (selected
    "Cells") (More (Applied (actual (Number (at 25 30) 2) NoMore)) (More (Applied (actual (Number (at 25 34) 1) NoMore))
    NoMore))))) (Number (at 25 39) 1)) NoMore)) NoMore)))) (Named (at 25 45) 23 (More (Applied (actual (Number (at 25
    48) 1) NoMore)) NoMore))) (More (Call (Named (at 26 4) 20 (More (Applied (actual (Named (at 26 10) 22 (More (Applied
    (actual (Number (at 26 13) 1) NoMore)) NoMore)) NoMore)) NoMore))) NoMore)))))))))) (at 27 1) ∷ [])

abbrev pub loops_and_choices : Program
loops_and_choices = program 28 (SubBody (Front (declared (at 2 11) 15 "Main") NoMore NoMore) (More (TypeDecl (declared
    (at 3 9) 16 "Color") (Enumeration (More (declared (at 3 19) 17 "Red") (More (declared (at 3 24) 18 "Green") (More
    (declared (at 3 31) 19 "Blue") NoMore)))) (at 3 36)) (More (ConstrainedSubtype (declared (at 4 12) 20 "Digit") (mark
    (at 4 21) 0) (Number (at 4 35) 1) (Number (at 4 40) 9)) (More (Objects (More (declared (at 5 4) 21 "N") NoMore)
    false (Plain (mark (at 5 8) 0)) (More (Number (at 5 19) 4) NoMore)) (More (Objects (More (declared (at 6 4) 22 "K")
    NoMore) false (Plain (mark (at 6 8) 16)) (More (Named (at 6 17) 18 NoMore) NoMore)) NoMore)))) (More (For (at 8 4)
    (declared (at 8 8) 23 "I") true (Bounds (Number (at 8 21) 2) (Named (at 8 26) 21 NoMore)) (More (Assign (Named (at 9
    7) 21 NoMore) (Binary (at 9 12) operator.Add (Named (at 9 12) 21 NoMore) (Named (at 9 16) 23 NoMore))) (More (For
    (at 10 7) (declared (at 10 11) 24 "J") false (Bounds (Named (at 10 16) 23 NoMore) (Number (at 10 21) 3)) (More (Exit
    (at 11 10) (More (Binary (at 11 20) operator.Equal (Named (at 11 20) 24 NoMore) (Binary (at 11 24) operator.Add
    (Named (at 11 24) 23 NoMore) (Number (at 11 28) 1))) NoMore)) (More (Case (at 12 10) (Binary (at 12 15)
    operator.Subtract (Named (at 12 15) 24 NoMore) (Named (at 12 19) 23 NoMore)) (More (When (More (Interval (Unary (at
    13 18) unary.Minus (Number (at 13 19) 3)) (Unary (at 13 24) unary.Minus (Number (at 13 25) 1))) (More (Value (Number
    (at 13 29) 1)) NoMore)) (More (Call (Named (at 13 34) 8 (More (Applied (actual (string (at 13 39) "\"a\"") NoMore))
    NoMore))) NoMore)) (More (When (More (Value (Number (at 14 18) 0)) NoMore) (More (Call (Named (at 14 23) 8 (More
    (Applied (actual (Named (at 14 28) 0 (More (Attr attribute.Image) (More (Applied (actual (Named (at 14 43) 24
    NoMore) NoMore)) NoMore))) NoMore)) NoMore))) NoMore)) (More (When (More (OthersChoice (at 15 18)) NoMore) (More
    (Call (Named (at 15 28) 8 (More (Applied (actual (string (at 15 33) "\"b\"") NoMore)) NoMore))) NoMore)) NoMore))))
    NoMore))) NoMore))) (More (For (at 19 4) (declared (at 19 8) 25 "I") false (Bounds (Number (at 19 13) 5) (Number (at
    19 18) 4)) (More (Assign (Named (at 20 7) 21 NoMore) (Number (at 20 12) 0)) NoMore)) (More (While (at 22 4) (Binary
    (at 22 10) operator.Greater (Named (at 22 10) 21 NoMore) (Number (at 22 14) 10)) (More (Assign (Named (at 23 7) 21
    NoMore) (Binary (at 23 12) operator.Subtract (Named (at 23 12) 21 NoMore) (Number (at 23 16) 1))) (More (Assign
    (Named (at 24 7) 22 NoMore) (Named (at 24 12) 19 NoMore)) NoMore))) (More (For (at 26 4) (declared (at 26 8) 26 "C")
    true (Bounds (Named (at 26 21) 17 NoMore) (Named (at 26 28) 22 NoMore)) (More (Call (Named (at 27 7) 8 (More
    (Applied (actual (Named (at 27 12) 16 (More (Attr attribute.Image) (More (Applied (actual (Named (at 27 25) 26
    NoMore) NoMore)) NoMore))) NoMore)) NoMore))) NoMore)) (More (Call (Named (at 29 4) 10 NoMore)) (More (For (at 30 4)
    (declared (at 30 8) 27 "D") false (Constrained (mark (at 30 13) 20) (Number (at 30 25) 3) (Named (at 30 30) 21
    NoMore)) (More (Call (Named (at 31 7) 8 (More (Applied (actual (Named (at 31 12) 0 (More (Attr attribute.Image)
    (More (Applied (actual (Binary (at 31 27) operator.Multiply (Named (at 31 27) 27 NoMore) (Number (at 31 31) 2))
    NoMore)) NoMore))) NoMore)) NoMore))) NoMore)) NoMore)))))) (at 33 1) ∷ [])

abbrev pub package_state : Program
package_state = program 29 (Package (declared (at 1 9) 15 "P") (More (TypeDecl (declared (at 2 9) 16 "Pair") (Record
    (More (Components (More (declared (at 2 24) 0 "A") (More (declared (at 2 27) 0 "B") NoMore)) (mark (at 2 31) 0))
    NoMore)) (at 2 50)) (More (TypeDecl (declared (at 3 9) 17 "Pairs") (Array (Bounds (Number (at 3 25) 1) (Number (at 3
    30) 2)) (mark (at 3 36) 16)) (at 3 40)) (More (Objects (More (declared (at 4 4) 18 "Count") NoMore) false (Plain
    (mark (at 4 12) 0)) (More (Number (at 4 23) 3) NoMore)) (More (Objects (More (declared (at 5 4) 19 "Both") NoMore)
    false (Plain (mark (at 5 11) 17)) (More (Others (at 5 20) (Aggregate (at 5 31) (actual (Named (at 5 32) 18 NoMore)
    (actual (Number (at 5 39) 4) NoMore)))) NoMore)) (More (Objects (More (declared (at 6 4) 20 "Top") NoMore) false
    (Plain (mark (at 6 10) 16)) (More (Named (at 6 18) 19 (More (Applied (actual (Number (at 6 24) 2) NoMore)) NoMore))
    NoMore)) (More (SubDecl (Front (declared (at 7 14) 21 "Bump") (More (Formals (More (declared (at 7 20) 22 "By")
    NoMore) mode.In (Plain (mark (at 7 25) 0))) (More (Formals (More (declared (at 7 34) 23 "Last") NoMore) mode.InOut
    (Plain (mark (at 7 48) 16))) NoMore)) NoMore)) NoMore)))))) NoMore ∷ PackageBody (declared (at 9 14) 15 "P") (More
    (SubBody (Front (declared (at 10 14) 21 "Bump") (More (Formals (More (declared (at 10 20) 24 "By") NoMore) mode.In
    (Plain (mark (at 10 25) 0))) (More (Formals (More (declared (at 10 34) 25 "Last") NoMore) mode.InOut (Plain (mark
    (at 10 48) 16))) NoMore)) NoMore) (More (Objects (More (declared (at 11 7) 26 "Old") NoMore) false (Plain (mark (at
    11 13) 16)) (More (Named (at 11 21) 25 NoMore) NoMore)) NoMore) (More (Assign (Named (at 13 7) 18 NoMore) (Binary
    (at 13 16) operator.Add (Named (at 13 16) 18 NoMore) (Named (at 13 24) 24 NoMore))) (More (Assign (Named (at 14 7)
    25 (More (selected "B") NoMore)) (Named (at 14 17) 18 NoMore)) (More (Assign (Named (at 15 7) 19 (More (Applied
    (actual (Number (at 15 13) 1) NoMore)) NoMore)) (Named (at 15 19) 26 NoMore)) NoMore))) (at 16 4)) NoMore) ∷ SubBody
    (Front (declared (at 20 11) 27 "Main") NoMore NoMore) (More (Objects (More (declared (at 21 4) 28 "X") NoMore) false
    (Plain (mark (at 21 8) 16)) NoMore) NoMore) (More (Call (Named (at 23 4) 21 (More (Applied (actual (Number (at 23
    10) 2) (actual (Named (at 23 13) 28 NoMore) NoMore))) NoMore))) (More (Call (Named (at 24 4) 21 (More (Applied
    (actual (Named (at 24 10) 28 (More (selected "B") NoMore)) (actual (Named (at 24 15) 19 (More (Applied (actual
    (Number (at 24 23) 2) NoMore)) NoMore)) NoMore))) NoMore))) (More (Call (Named (at 25 4) 9 (More (Applied (actual
    (Binary (at 25 14) operator.Concatenate (Binary (at 25 14) operator.Concatenate (Binary (at 25 14)
    operator.Concatenate (Named (at 25 14) 0 (More (Attr attribute.Image) (More (Applied (actual (Named (at 25 29) 18
    NoMore) NoMore)) NoMore))) (Named (at 25 38) 0 (More (Attr attribute.Image) (More (Applied (actual (Named (at 25 53)
    19 (More (Applied (actual (Number (at 25 59) 1) NoMore)) (More (selected "A") NoMore))) NoMore)) NoMore)))) (Named
    (at 25 67) 0 (More (Attr attribute.Image) (More (Applied (actual (Named (at 25 82) 19 (More (Applied (actual (Number
    (at 25 88) 2) NoMore)) (More (selected "B") NoMore))) NoMore)) NoMore)))) (Named (at 25 96) 0 (More (Attr
    attribute.Image) (More (Applied (actual (Named (at 25 111) 20 (More (selected "A") NoMore)) NoMore)) NoMore))))
    NoMore)) NoMore))) NoMore))) (at 26 1) ∷ [])

abbrev pub touched : Program
touched = program 23 (SubBody (Front (declared (at 3 11) 15 "Main") NoMore NoMore) (More (Incomplete (declared (at 4 9)
    16 "Cell")) (More (TypeDecl (declared (at 5 9) 17 "List") (Access (mark (at 5 24) 16)) (at 5 28)) (More (TypeDecl
    (declared (at 6 9) 16 "Cell") (Record (More (Components (More (declared (at 7 7) 0 "Value") NoMore) (mark (at 7 15)
    0)) (More (Components (More (declared (at 8 7) 0 "Next") NoMore) (mark (at 8 14) 17)) NoMore))) (at 9 14)) (More
    (Instance (declared (at 10 14) 18 "Free") (mark (at 10 26) 14) (actual (Named (at 10 54) 16 NoMore) (actual (Named
    (at 10 60) 17 NoMore) NoMore))) (More (Objects (More (declared (at 11 4) 19 "X") (More (declared (at 11 7) 20 "Y")
    (More (declared (at 11 10) 21 "Z") NoMore))) false (Plain (mark (at 11 14) 17)) NoMore) (More (Objects (More
    (declared (at 12 4) 22 "N") NoMore) false (Plain (mark (at 12 8) 0)) (More (Number (at 12 19) 0) NoMore))
    NoMore)))))) (More (Assign (Named (at 14 4) 19 NoMore) (New (at 14 9) (mark (at 14 13) 16) (actual (Aggregate (at 14
    18) (actual (Number (at 14 19) 1) (actual (New (at 14 22) (mark (at 14 26) 16) (actual (Aggregate (at 14 31) (actual
    (Number (at 14 32) 2) (actual (Null (at 14 35)) NoMore))) NoMore)) NoMore))) NoMore))) (More (Assign (Named (at 15
    4) 20 NoMore) (Named (at 15 9) 19 (More (selected "Next") NoMore))) (More (Assign (Named (at 16 4) 21 NoMore) (Named
    (at 16 9) 19 (More (selected "Next") NoMore))) (More (Call (Named (at 17 4) 9 (More (Applied (actual (Named (at 17
    14) 0 (More (Attr attribute.Image) (More (Applied (actual (Named (at 17 29) 21 (More (selected "Value") NoMore))
    NoMore)) NoMore))) NoMore)) NoMore))) (More (Call (Named (at 18 4) 18 (More (Applied (actual (Named (at 18 10) 20
    NoMore) NoMore)) NoMore))) (More (Assign (Named (at 19 4) 22 NoMore) (Named (at 19 9) 19 (More (selected "Value")
    NoMore))) (More (Assign (Named (at 20 4) 22 NoMore) (Named (at 20 9) 21 (More (selected "Value") NoMore)))
    NoMore))))))) (at 21 1) ∷ [])

abbrev pub twice : Program
twice = program 21 (SubBody (Front (declared (at 2 11) 15 "Main") NoMore NoMore) (More (Incomplete (declared (at 3 9) 16
    "Cell")) (More (TypeDecl (declared (at 4 9) 17 "List") (Access (mark (at 4 24) 16)) (at 4 28)) (More (TypeDecl
    (declared (at 5 9) 16 "Cell") (Record (More (Components (More (declared (at 6 7) 0 "Value") NoMore) (mark (at 6 15)
    0)) (More (Components (More (declared (at 7 7) 0 "Next") NoMore) (mark (at 7 14) 17)) NoMore))) (at 8 14)) (More
    (Instance (declared (at 9 14) 18 "Free") (mark (at 9 26) 14) (actual (Named (at 9 54) 16 NoMore) (actual (Named (at
    9 60) 17 NoMore) NoMore))) (More (Objects (More (declared (at 10 4) 19 "X") (More (declared (at 10 7) 20 "Y")
    NoMore)) false (Plain (mark (at 10 11) 17)) NoMore) NoMore))))) (More (Assign (Named (at 12 4) 19 NoMore) (New (at
    12 9) (mark (at 12 13) 16) (actual (Aggregate (at 12 18) (actual (Number (at 12 19) 1) (actual (New (at 12 22) (mark
    (at 12 26) 16) (actual (Aggregate (at 12 31) (actual (Number (at 12 32) 2) (actual (Null (at 12 35)) NoMore)))
    NoMore)) NoMore))) NoMore))) (More (Assign (Named (at 13 4) 20 NoMore) (Named (at 13 9) 19 NoMore)) (More (Assign
    (Named (at 14 4) 19 NoMore) (Named (at 14 9) 20 NoMore)) (More (Call (Named (at 15 4) 18 (More (Applied (actual
    (Named (at 15 10) 19 NoMore) NoMore)) NoMore))) (More (Call (Named (at 16 4) 18 (More (Applied (actual (Named (at 16
    10) 20 NoMore) NoMore)) NoMore))) NoMore))))) (at 17 1) ∷ [])

abbrev pub waiting_values : Program
waiting_values = program 38 (Package (declared (at 1 9) 15 "P") (More (Incomplete (declared (at 2 9) 16 "Cell")) (More
    (TypeDecl (declared (at 3 9) 17 "List") (Access (mark (at 3 24) 16)) (at 3 28)) (More (TypeDecl (declared (at 4 9)
    16 "Cell") (Record (More (Components (More (declared (at 5 7) 0 "Value") NoMore) (mark (at 5 15) 0)) (More
    (Components (More (declared (at 6 7) 0 "Next") NoMore) (mark (at 6 14) 17)) NoMore))) (at 7 14)) (More (TypeDecl
    (declared (at 8 9) 18 "Pair") (Record (More (Components (More (declared (at 8 24) 0 "A") (More (declared (at 8 27) 0
    "B") NoMore)) (mark (at 8 31) 0)) NoMore)) (at 8 50)) (More (TypeDecl (declared (at 9 9) 19 "Counts") (Array (Bounds
    (Number (at 9 26) 1) (Number (at 9 31) 3)) (mark (at 9 37) 0)) (at 9 44)) (More (SubDecl (Front (declared (at 10 13)
    20 "One") (More (Formals (More (declared (at 10 18) 21 "N") NoMore) mode.In (Plain (mark (at 10 22) 0))) NoMore)
    (More (Plain (mark (at 10 38) 0)) NoMore))) (More (SubDecl (Front (declared (at 11 13) 22 "Two") (More (Formals
    (More (declared (at 11 18) 23 "N") NoMore) mode.In (Plain (mark (at 11 22) 0))) NoMore) (More (Plain (mark (at 11
    38) 18)) NoMore))) (More (SubDecl (Front (declared (at 12 13) 24 "Made") (More (Formals (More (declared (at 12 19)
    25 "N") NoMore) mode.In (Plain (mark (at 12 23) 0))) NoMore) (More (Plain (mark (at 12 39) 17)) NoMore))) (More
    (SubDecl (Front (declared (at 13 13) 26 "Rest") (More (Formals (More (declared (at 13 19) 27 "L") NoMore) mode.In
    (Anonymous (at 13 23) false (mark (at 13 30) 16))) NoMore) (More (Anonymous (at 13 43) false (mark (at 13 50) 16))
    NoMore))) NoMore))))))))) NoMore ∷ PackageBody (declared (at 15 14) 15 "P") (More (SubBody (Front (declared (at 16
    13) 20 "One") (More (Formals (More (declared (at 16 18) 28 "N") NoMore) mode.In (Plain (mark (at 16 22) 0))) NoMore)
    (More (Plain (mark (at 16 38) 0)) NoMore)) NoMore (More (Return (at 18 7) (More (Binary (at 18 14) operator.Add
    (Named (at 18 14) 28 NoMore) (Number (at 18 18) 1)) NoMore)) NoMore) (at 19 4)) (More (SubBody (Front (declared (at
    20 13) 22 "Two") (More (Formals (More (declared (at 20 18) 29 "N") NoMore) mode.In (Plain (mark (at 20 22) 0)))
    NoMore) (More (Plain (mark (at 20 38) 18)) NoMore)) NoMore (More (Return (at 22 7) (More (Aggregate (at 22 14)
    (actual (Named (at 22 15) 20 (More (Applied (actual (Named (at 22 20) 29 NoMore) NoMore)) NoMore)) (actual (Named
    (at 22 24) 29 NoMore) NoMore))) NoMore)) NoMore) (at 23 4)) (More (SubBody (Front (declared (at 24 13) 24 "Made")
    (More (Formals (More (declared (at 24 19) 30 "N") NoMore) mode.In (Plain (mark (at 24 23) 0))) NoMore) (More (Plain
    (mark (at 24 39) 17)) NoMore)) NoMore (More (If (at 26 7) (More (Branch (at 26 7) (Binary (at 26 10) operator.Equal
    (Named (at 26 10) 30 NoMore) (Number (at 26 14) 0)) (More (Return (at 27 10) (More (Null (at 27 17)) NoMore))
    NoMore)) NoMore) NoMore) (More (Return (at 29 7) (More (New (at 29 14) (mark (at 29 18) 16) (actual (Aggregate (at
    29 23) (actual (Named (at 29 24) 20 (More (Applied (actual (Named (at 29 29) 30 NoMore) NoMore)) NoMore)) (actual
    (Named (at 29 33) 24 (More (Applied (actual (Binary (at 29 39) operator.Subtract (Named (at 29 39) 30 NoMore)
    (Number (at 29 43) 1)) NoMore)) NoMore)) NoMore))) NoMore)) NoMore)) NoMore)) (at 30 4)) (More (SubBody (Front
    (declared (at 31 13) 26 "Rest") (More (Formals (More (declared (at 31 19) 31 "L") NoMore) mode.In (Anonymous (at 31
    23) false (mark (at 31 30) 16))) NoMore) (More (Anonymous (at 31 43) false (mark (at 31 50) 16)) NoMore)) NoMore
    (More (Return (at 33 7) (More (Named (at 33 14) 31 (More (selected "Next") NoMore)) NoMore)) NoMore) (at 34 4))
    NoMore)))) ∷ SubBody (Front (declared (at 38 11) 32 "Main") NoMore NoMore) (More (Objects (More (declared (at 39 4)
    33 "X") NoMore) false (Plain (mark (at 39 8) 18)) (More (Named (at 39 16) 22 (More (Applied (actual (Named (at 39
    21) 20 (More (Applied (actual (Number (at 39 26) 3) NoMore)) NoMore)) NoMore)) NoMore)) NoMore)) (More (Objects
    (More (declared (at 40 4) 34 "C") NoMore) false (Plain (mark (at 40 8) 19)) (More (Aggregate (at 40 18) (actual
    (Named (at 40 19) 20 (More (Applied (actual (Number (at 40 24) 1) NoMore)) NoMore)) (actual (Number (at 40 28) 5)
    (actual (Named (at 40 31) 20 (More (Applied (actual (Named (at 40 36) 33 (More (selected "B") NoMore)) NoMore))
    NoMore)) NoMore)))) NoMore)) (More (Objects (More (declared (at 41 4) 35 "L") NoMore) false (Plain (mark (at 41 8)
    17)) (More (Named (at 41 16) 24 (More (Applied (actual (Number (at 41 22) 2) NoMore)) NoMore)) NoMore)) NoMore)))
    (More (Assign (Named (at 43 4) 34 (More (Applied (actual (Named (at 43 7) 20 (More (Applied (actual (Number (at 43
    12) 0) NoMore)) NoMore)) NoMore)) NoMore)) (Binary (at 43 19) operator.Multiply (Named (at 43 19) 20 (More (Applied
    (actual (Named (at 43 24) 34 (More (Applied (actual (Named (at 43 27) 20 (More (Applied (actual (Number (at 43 32)
    1) NoMore)) NoMore)) NoMore)) NoMore)) NoMore)) NoMore)) (Number (at 43 39) 2))) (More (Call (Named (at 44 4) 9
    (More (Applied (actual (Binary (at 44 14) operator.Concatenate (Named (at 44 14) 0 (More (Attr attribute.Image)
    (More (Applied (actual (Binary (at 44 29) operator.Subtract (Named (at 44 29) 20 (More (Applied (actual (Named (at
    44 34) 34 (More (Applied (actual (Number (at 44 37) 1) NoMore)) NoMore)) NoMore)) NoMore)) (Named (at 44 43) 20
    (More (Applied (actual (Named (at 44 48) 20 (More (Applied (actual (Number (at 44 53) 2) NoMore)) NoMore)) NoMore))
    NoMore))) NoMore)) NoMore))) (Named (at 44 60) 0 (More (Attr attribute.Image) (More (Applied (actual (Named (at 44
    75) 33 (More (selected "A") NoMore)) NoMore)) NoMore)))) NoMore)) NoMore))) (More (Block (at 45 4) (More (Objects
    (More (declared (at 46 7) 36 "B") NoMore) false (Anonymous (at 46 11) false (mark (at 46 18) 16)) (More (Named (at
    46 26) 26 (More (Applied (actual (Named (at 46 32) 35 NoMore) NoMore)) NoMore)) NoMore)) NoMore) (More (Assign
    (Named (at 48 7) 36 (More (selected "Value") NoMore)) (Named (at 48 18) 20 (More (Applied (actual (Named (at 48 23)
    36 (More (selected "Value") NoMore)) NoMore)) NoMore))) (More (Call (Named (at 49 7) 9 (More (Applied (actual (Named
    (at 49 17) 0 (More (Attr attribute.Image) (More (Applied (actual (Named (at 49 32) 36 (More (selected "Value")
    NoMore)) NoMore)) NoMore))) NoMore)) NoMore))) NoMore)) (at 50 4)) (More (Assign (Named (at 51 4) 35 (More (selected
    "Next") NoMore)) (Named (at 51 14) 24 (More (Applied (actual (Named (at 51 20) 20 (More (Applied (actual (Number (at
    51 25) 0) NoMore)) NoMore)) NoMore)) NoMore))) (More (For (at 52 4) (declared (at 52 8) 37 "I") false (Bounds (Named
    (at 52 13) 20 (More (Applied (actual (Number (at 52 18) 0) NoMore)) NoMore)) (Named (at 52 24) 20 (More (Applied
    (actual (Number (at 52 29) 1) NoMore)) NoMore))) (More (If (at 53 7) (More (Branch (at 53 7) (Binary (at 53 10)
    operator.OrElse (Binary (at 53 10) operator.Equal (Named (at 53 10) 20 (More (Applied (actual (Named (at 53 15) 37
    NoMore) NoMore)) NoMore)) (Number (at 53 20) 2)) (Binary (at 53 30) operator.Equal (Binary (at 53 30)
    operator.Divide (Named (at 53 30) 20 (More (Applied (actual (Named (at 53 35) 37 NoMore) NoMore)) NoMore)) (Parens
    (at 53 40) (Binary (at 53 41) operator.Subtract (Named (at 53 41) 37 NoMore) (Number (at 53 45) 2)))) (Named (at 53
    50) 20 (More (Applied (actual (Number (at 53 55) 1) NoMore)) NoMore)))) (More (Call (Named (at 54 10) 8 (More
    (Applied (actual (Named (at 54 15) 0 (More (Attr attribute.Image) (More (Applied (actual (Named (at 54 30) 37
    NoMore) NoMore)) NoMore))) NoMore)) NoMore))) NoMore)) NoMore) NoMore) NoMore)) NoMore))))) (at 57 1) ∷ [])
