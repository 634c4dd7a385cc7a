-- The resolved trees of the sources in data/.
--
-- tools/flow_sources.py makes this.
use Rattle.std.specs.Prelude.{[], ◌∷◌}
use Rattle.std.specs.Prelude.{false, true}
use Rattle.resolved_tree.specs.declared.operator.Attribute.TheVariants as attribute
use Rattle.place_names.specs.declared.act.Mode.TheVariants as mode
use Rattle.resolved_tree.specs.declared.operator.Operator.TheVariants as operator
use Rattle.resolved_tree.specs.declared.operator.UnaryOperator.TheVariants as unary
use Rattle.resolved_tree.specs.Trees.{Program, Access, Aggregate, All, Applied, Array, Assign, Attr, Binary, Bounds, Branch, Call, Case, Components, ConstrainedSubtype, Enumeration, Exit, For, Formals, Front, If, Incomplete, Instance, Loop, Marked, More, Named, New, NoMore, Null, Number, Objects, Others, OthersChoice, Package, PackageBody, Parens, Plain, RangeOf, Record, Return, Skip, SubBody, SubDecl, TypeDecl, Unary, Value, When}
use Rattle.flow_tests.proofs.ResolvedTrees.{actual, at, declared, mark, program, selected, string}

abbrev pub given_up : Program
given_up = program 20 (SubBody (Front (declared (at 1 11) 15 "Main") NoMore NoMore) (More (Incomplete (declared (at 2 9)
    16 "Cell")) (More (TypeDecl (declared (at 3 9) 17 "List") (Access (mark (at 3 24) 16)) (at 3 28)) (More (TypeDecl
    (declared (at 4 9) 16 "Cell") (Record (More (Components (More (declared (at 5 7) 0 "Next") NoMore) (mark (at 5 14)
    17)) (More (Components (More (declared (at 6 7) 0 "Value") NoMore) (mark (at 6 15) 2)) NoMore))) (at 7 14)) (More
    (Objects (More (declared (at 8 4) 18 "X") NoMore) false (Plain (mark (at 8 8) 17)) (More (New (at 8 16) (mark (at 8
    20) 16) (actual (Aggregate (at 8 25) (actual (Null (at 8 26)) (actual (Number (at 8 32) 1) NoMore))) NoMore))
    NoMore)) (More (Objects (More (declared (at 9 4) 19 "N") NoMore) false (Plain (mark (at 9 8) 0)) (More (Number (at 9
    19) 0) NoMore)) NoMore))))) (More (Assign (Named (at 11 4) 18 NoMore) (New (at 11 9) (mark (at 11 13) 16) (actual
    (Aggregate (at 11 18) (actual (New (at 11 19) (mark (at 11 23) 16) (actual (Aggregate (at 11 28) (actual (Null (at
    11 29)) (actual (Number (at 11 35) 3) NoMore))) NoMore)) (actual (Named (at 11 39) 19 NoMore) NoMore))) NoMore)))
    NoMore) (at 12 1) ∷ [])

abbrev pub images : Program
images = program 28 (SubBody (Front (declared (at 2 11) 15 "Main") NoMore NoMore) (More (TypeDecl (declared (at 3 9) 16
    "Color") (Enumeration (More (declared (at 3 19) 17 "Red") (More (declared (at 3 24) 18 "Green") (More (declared (at
    3 31) 19 "Blue") NoMore)))) (at 3 36)) (More (ConstrainedSubtype (declared (at 4 12) 20 "Warm") (mark (at 4 20) 16)
    (Named (at 4 32) 17 NoMore) (Named (at 4 39) 18 NoMore)) (More (TypeDecl (declared (at 5 9) 21 "Row") (Array (Bounds
    (Unary (at 5 23) unary.Minus (Number (at 5 24) 1)) (Number (at 5 29) 1)) (mark (at 5 35) 0)) (at 5 42)) (More
    (Objects (More (declared (at 6 4) 22 "C") NoMore) false (Plain (mark (at 6 8) 16)) (More (Named (at 6 17) 19 NoMore)
    NoMore)) (More (Objects (More (declared (at 7 4) 23 "W") NoMore) false (Plain (mark (at 7 8) 20)) (More (Named (at 7
    16) 20 (More (Attr attribute.First) NoMore)) NoMore)) (More (Objects (More (declared (at 8 4) 24 "R") NoMore) false
    (Plain (mark (at 8 8) 21)) (More (Others (at 8 15) (Unary (at 8 26) unary.Minus (Number (at 8 27) 7))) NoMore))
    (More (Objects (More (declared (at 9 4) 25 "B") NoMore) false (Plain (mark (at 9 8) 3)) (More (Named (at 9 19) 5
    NoMore) NoMore)) NoMore))))))) (More (For (at 11 4) (declared (at 11 8) 26 "I") true (RangeOf (Named (at 11 21) 21
    NoMore)) (More (Assign (Named (at 12 7) 24 (More (Applied (actual (Named (at 12 10) 26 NoMore) NoMore)) NoMore))
    (Binary (at 12 16) operator.Add (Binary (at 12 16) operator.Remainder (Named (at 12 16) 24 (More (Applied (actual
    (Named (at 12 19) 26 NoMore) NoMore)) NoMore)) (Number (at 12 26) 4)) (Named (at 12 30) 26 NoMore))) (More (Call
    (Named (at 13 7) 8 (More (Applied (actual (Named (at 13 12) 0 (More (Attr attribute.Image) (More (Applied (actual
    (Named (at 13 27) 24 (More (Applied (actual (Named (at 13 30) 26 NoMore) NoMore)) NoMore)) NoMore)) NoMore)))
    NoMore)) NoMore))) NoMore))) (More (Call (Named (at 15 4) 10 NoMore)) (More (For (at 16 4) (declared (at 16 8) 27
    "K") false (Marked (mark (at 16 13) 16)) (More (Case (at 17 7) (Named (at 17 12) 27 NoMore) (More (When (More (Value
    (Named (at 18 15) 17 NoMore)) (More (Value (Named (at 18 21) 19 NoMore)) NoMore)) (More (Call (Named (at 18 29) 8
    (More (Applied (actual (Named (at 18 34) 16 (More (Attr attribute.Image) (More (Applied (actual (Named (at 18 47) 27
    NoMore) NoMore)) NoMore))) NoMore)) NoMore))) NoMore)) (More (When (More (OthersChoice (at 19 15)) NoMore) (More
    (Call (Named (at 19 25) 8 (More (Applied (actual (Binary (at 19 30) operator.Concatenate (Binary (at 19 30)
    operator.Concatenate (string (at 19 30) "\"\"\"\"") (Named (at 19 37) 3 (More (Attr attribute.Image) (More (Applied
    (actual (Binary (at 19 52) operator.AndThen (Binary (at 19 52) operator.Greater (Named (at 19 52) 27 NoMore) (Named
    (at 19 56) 23 NoMore)) (Named (at 19 67) 25 NoMore)) NoMore)) NoMore)))) (string (at 19 72) "\"\"\"\"")) NoMore))
    NoMore))) NoMore)) NoMore))) NoMore)) (More (Call (Named (at 22 4) 10 NoMore)) (More (Assign (Named (at 23 4) 25
    NoMore) (Binary (at 23 9) operator.OrElse (Unary (at 23 9) unary.Not (Named (at 23 13) 25 NoMore)) (Binary (at 23
    23) operator.Equal (Binary (at 23 23) operator.Divide (Named (at 23 23) 24 (More (Applied (actual (Number (at 23 26)
    0) NoMore)) NoMore)) (Number (at 23 31) 0)) (Number (at 23 35) 1)))) (More (Assign (Named (at 24 4) 23 NoMore)
    (Named (at 24 9) 22 NoMore)) NoMore)))))) (at 25 1) ∷ [])

abbrev pub inner_leak : Program
inner_leak = program 22 (SubBody (Front (declared (at 4 11) 15 "Main") NoMore NoMore) (More (Incomplete (declared (at 5
    9) 16 "Cell")) (More (TypeDecl (declared (at 6 9) 17 "List") (Access (mark (at 6 24) 16)) (at 6 28)) (More (TypeDecl
    (declared (at 7 9) 16 "Cell") (Record (More (Components (More (declared (at 8 7) 0 "Value") NoMore) (mark (at 8 15)
    0)) (More (Components (More (declared (at 9 7) 0 "Next") NoMore) (mark (at 9 14) 17)) NoMore))) (at 10 14)) (More
    (TypeDecl (declared (at 11 9) 18 "Int_Ptr") (Access (mark (at 11 27) 0)) (at 11 34)) (More (Instance (declared (at
    12 14) 19 "Free") (mark (at 12 26) 14) (actual (Named (at 12 54) 16 NoMore) (actual (Named (at 12 60) 17 NoMore)
    NoMore))) (More (Instance (declared (at 13 14) 20 "Drop") (mark (at 13 26) 14) (actual (Named (at 13 54) 0 NoMore)
    (actual (Named (at 13 63) 18 NoMore) NoMore))) (More (Objects (More (declared (at 14 1) 21 "X") NoMore) false (Plain
    (mark (at 14 5) 17)) (More (New (at 14 13) (mark (at 14 17) 16) (actual (Aggregate (at 14 22) (actual (Number (at 14
    23) 1) (actual (New (at 14 26) (mark (at 14 30) 16) (actual (Aggregate (at 14 35) (actual (Number (at 14 36) 2)
    (actual (Null (at 14 39)) NoMore))) NoMore)) NoMore))) NoMore)) NoMore)) NoMore))))))) (More (Call (Named (at 16 1)
    19 (More (Applied (actual (Named (at 16 7) 21 NoMore) NoMore)) NoMore))) (More (Call (Named (at 16 11) 19 (More
    (Applied (actual (Named (at 16 17) 21 NoMore) NoMore)) NoMore))) NoMore)) (at 17 1) ∷ [])

abbrev pub next_lost : Program
next_lost = program 22 (SubBody (Front (declared (at 4 11) 15 "Main") NoMore NoMore) (More (Incomplete (declared (at 5
    9) 16 "Cell")) (More (TypeDecl (declared (at 6 9) 17 "List") (Access (mark (at 6 24) 16)) (at 6 28)) (More (TypeDecl
    (declared (at 7 9) 16 "Cell") (Record (More (Components (More (declared (at 8 7) 0 "Value") NoMore) (mark (at 8 15)
    0)) (More (Components (More (declared (at 9 7) 0 "Next") NoMore) (mark (at 9 14) 17)) NoMore))) (at 10 14)) (More
    (TypeDecl (declared (at 11 9) 18 "Int_Ptr") (Access (mark (at 11 27) 0)) (at 11 34)) (More (Instance (declared (at
    12 14) 19 "Free") (mark (at 12 26) 14) (actual (Named (at 12 54) 16 NoMore) (actual (Named (at 12 60) 17 NoMore)
    NoMore))) (More (Instance (declared (at 13 14) 20 "Drop") (mark (at 13 26) 14) (actual (Named (at 13 54) 0 NoMore)
    (actual (Named (at 13 63) 18 NoMore) NoMore))) (More (Objects (More (declared (at 14 1) 21 "X") NoMore) false (Plain
    (mark (at 14 5) 17)) (More (New (at 14 13) (mark (at 14 17) 16) (actual (Aggregate (at 14 22) (actual (Number (at 14
    23) 1) (actual (Null (at 14 26)) NoMore))) NoMore)) NoMore)) NoMore))))))) (More (Assign (Named (at 16 1) 21 NoMore)
    (Named (at 16 6) 21 (More (selected "Next") NoMore))) NoMore) (at 17 1) ∷ [])

abbrev pub no_return : Program
no_return = program 21 (Package (declared (at 1 9) 15 "P") (More (SubDecl (Front (declared (at 2 13) 16 "F") (More
    (Formals (More (declared (at 2 16) 17 "N") NoMore) mode.In (Plain (mark (at 2 20) 0))) NoMore) (More (Plain (mark
    (at 2 36) 0)) NoMore))) NoMore) NoMore ∷ PackageBody (declared (at 4 14) 15 "P") (More (SubBody (Front (declared (at
    5 13) 16 "F") (More (Formals (More (declared (at 5 16) 18 "N") NoMore) mode.In (Plain (mark (at 5 20) 0))) NoMore)
    (More (Plain (mark (at 5 36) 0)) NoMore)) NoMore (More (If (at 7 7) (More (Branch (at 7 7) (Binary (at 7 10)
    operator.Greater (Named (at 7 10) 18 NoMore) (Number (at 7 14) 0)) (More (Return (at 8 10) (More (Named (at 8 17) 18
    NoMore) NoMore)) NoMore)) NoMore) NoMore) NoMore) (at 10 4)) NoMore) ∷ SubBody (Front (declared (at 13 11) 19
    "Main") NoMore NoMore) (More (Objects (More (declared (at 14 4) 20 "N") NoMore) false (Plain (mark (at 14 8) 0))
    (More (Named (at 14 19) 16 (More (Applied (actual (Number (at 14 22) 1) NoMore)) NoMore)) NoMore)) NoMore) (More
    (Assign (Named (at 16 4) 20 NoMore) (Named (at 16 9) 16 (More (Applied (actual (Number (at 16 12) 0) NoMore))
    NoMore))) NoMore) (at 17 1) ∷ [])

abbrev pub null_read : Program
null_read = program 23 (SubBody (Front (declared (at 4 11) 15 "Main") NoMore NoMore) (More (Incomplete (declared (at 5
    9) 16 "Cell")) (More (TypeDecl (declared (at 6 9) 17 "List") (Access (mark (at 6 24) 16)) (at 6 28)) (More (TypeDecl
    (declared (at 7 9) 16 "Cell") (Record (More (Components (More (declared (at 8 7) 0 "Value") NoMore) (mark (at 8 15)
    0)) (More (Components (More (declared (at 9 7) 0 "Next") NoMore) (mark (at 9 14) 17)) NoMore))) (at 10 14)) (More
    (TypeDecl (declared (at 11 9) 18 "Int_Ptr") (Access (mark (at 11 27) 0)) (at 11 34)) (More (Instance (declared (at
    12 14) 19 "Free") (mark (at 12 26) 14) (actual (Named (at 12 54) 16 NoMore) (actual (Named (at 12 60) 17 NoMore)
    NoMore))) (More (Instance (declared (at 13 14) 20 "Drop") (mark (at 13 26) 14) (actual (Named (at 13 54) 0 NoMore)
    (actual (Named (at 13 63) 18 NoMore) NoMore))) (More (Objects (More (declared (at 14 1) 21 "X") NoMore) false (Plain
    (mark (at 14 5) 18)) NoMore) (More (Objects (More (declared (at 14 14) 22 "N") NoMore) false (Plain (mark (at 14 18)
    0)) (More (Number (at 14 29) 2147483647) NoMore)) NoMore)))))))) (More (Call (Named (at 16 1) 9 (More (Applied
    (actual (string (at 16 11) "\"a\"") NoMore)) NoMore))) (More (Assign (Named (at 16 17) 22 NoMore) (Binary (at 16 22)
    operator.Add (Named (at 16 22) 22 NoMore) (Number (at 16 26) 0))) (More (Call (Named (at 16 29) 8 (More (Applied
    (actual (Named (at 16 34) 0 (More (Attr attribute.Image) (More (Applied (actual (Named (at 16 49) 21 (More All
    NoMore)) NoMore)) NoMore))) NoMore)) NoMore))) NoMore))) (at 17 1) ∷ [])

abbrev pub one_null : Program
one_null = program 16 (SubBody (Front (declared (at 1 11) 15 "Main") NoMore NoMore) NoMore (More (Skip (at 1 25))
    NoMore) (at 1 31) ∷ [])

abbrev pub one_slot : Program
one_slot = program 26 (SubBody (Front (declared (at 4 11) 15 "Main") NoMore NoMore) (More (Incomplete (declared (at 5 9)
    16 "Cell")) (More (TypeDecl (declared (at 6 9) 17 "List") (Access (mark (at 6 24) 16)) (at 6 28)) (More (TypeDecl
    (declared (at 7 9) 16 "Cell") (Record (More (Components (More (declared (at 8 7) 0 "Value") NoMore) (mark (at 8 15)
    0)) (More (Components (More (declared (at 9 7) 0 "Next") NoMore) (mark (at 9 14) 17)) NoMore))) (at 10 14)) (More
    (TypeDecl (declared (at 11 9) 18 "Int_Ptr") (Access (mark (at 11 27) 0)) (at 11 34)) (More (Instance (declared (at
    12 14) 19 "Free") (mark (at 12 26) 14) (actual (Named (at 12 54) 16 NoMore) (actual (Named (at 12 60) 17 NoMore)
    NoMore))) (More (Instance (declared (at 13 14) 20 "Drop") (mark (at 13 26) 14) (actual (Named (at 13 54) 0 NoMore)
    (actual (Named (at 13 63) 18 NoMore) NoMore))) (More (TypeDecl (declared (at 14 6) 21 "Pair") (Record (More
    (Components (More (declared (at 14 21) 0 "A") (More (declared (at 14 24) 0 "B") NoMore)) (mark (at 14 28) 0))
    NoMore)) (at 14 47)) (More (TypeDecl (declared (at 14 54) 22 "Pair_Ptr") (Access (mark (at 14 73) 21)) (at 14 77))
    (More (Instance (declared (at 15 11) 23 "Gone") (mark (at 15 23) 14) (actual (Named (at 15 51) 21 NoMore) (actual
    (Named (at 15 57) 22 NoMore) NoMore))) (More (Objects (More (declared (at 16 1) 24 "X") NoMore) false (Plain (mark
    (at 16 5) 17)) (More (New (at 16 13) (mark (at 16 17) 16) (actual (Aggregate (at 16 22) (actual (Number (at 16 23)
    5) (actual (Null (at 16 26)) NoMore))) NoMore)) NoMore)) (More (Objects (More (declared (at 16 33) 25 "Y") NoMore)
    false (Plain (mark (at 16 37) 22)) NoMore) NoMore))))))))))) (More (Call (Named (at 18 1) 19 (More (Applied (actual
    (Named (at 18 7) 24 NoMore) NoMore)) NoMore))) (More (Assign (Named (at 18 11) 25 NoMore) (New (at 18 16) (mark (at
    18 20) 21) NoMore)) (More (Call (Named (at 18 26) 8 (More (Applied (actual (Named (at 18 31) 0 (More (Attr
    attribute.Image) (More (Applied (actual (Named (at 18 46) 25 (More (selected "A") NoMore)) NoMore)) NoMore)))
    NoMore)) NoMore))) (More (Call (Named (at 18 53) 23 (More (Applied (actual (Named (at 18 59) 25 NoMore) NoMore))
    NoMore))) NoMore)))) (at 19 1) ∷ [])

abbrev pub overflow : Program
overflow = program 23 (SubBody (Front (declared (at 4 11) 15 "Main") NoMore NoMore) (More (Incomplete (declared (at 5 9)
    16 "Cell")) (More (TypeDecl (declared (at 6 9) 17 "List") (Access (mark (at 6 24) 16)) (at 6 28)) (More (TypeDecl
    (declared (at 7 9) 16 "Cell") (Record (More (Components (More (declared (at 8 7) 0 "Value") NoMore) (mark (at 8 15)
    0)) (More (Components (More (declared (at 9 7) 0 "Next") NoMore) (mark (at 9 14) 17)) NoMore))) (at 10 14)) (More
    (TypeDecl (declared (at 11 9) 18 "Int_Ptr") (Access (mark (at 11 27) 0)) (at 11 34)) (More (Instance (declared (at
    12 14) 19 "Free") (mark (at 12 26) 14) (actual (Named (at 12 54) 16 NoMore) (actual (Named (at 12 60) 17 NoMore)
    NoMore))) (More (Instance (declared (at 13 14) 20 "Drop") (mark (at 13 26) 14) (actual (Named (at 13 54) 0 NoMore)
    (actual (Named (at 13 63) 18 NoMore) NoMore))) (More (Objects (More (declared (at 14 1) 21 "X") NoMore) false (Plain
    (mark (at 14 5) 18)) NoMore) (More (Objects (More (declared (at 14 14) 22 "N") NoMore) false (Plain (mark (at 14 18)
    0)) (More (Number (at 14 29) 2147483647) NoMore)) NoMore)))))))) (More (Call (Named (at 16 1) 9 (More (Applied
    (actual (string (at 16 11) "\"a\"") NoMore)) NoMore))) (More (Assign (Named (at 16 17) 22 NoMore) (Binary (at 16 22)
    operator.Add (Named (at 16 22) 22 NoMore) (Number (at 16 26) 1))) (More (Call (Named (at 16 29) 8 (More (Applied
    (actual (Named (at 16 34) 0 (More (Attr attribute.Image) (More (Applied (actual (Named (at 16 49) 21 (More All
    NoMore)) NoMore)) NoMore))) NoMore)) NoMore))) NoMore))) (at 17 1) ∷ [])

abbrev pub passing : Program
passing = program 44 (Package (declared (at 1 9) 15 "P") (More (TypeDecl (declared (at 2 9) 16 "Pair") (Record (More
    (Components (More (declared (at 2 24) 0 "A") (More (declared (at 2 27) 0 "B") NoMore)) (mark (at 2 31) 0)) NoMore))
    (at 2 50)) (More (ConstrainedSubtype (declared (at 3 12) 17 "Digit") (mark (at 3 21) 0) (Number (at 3 35) 0) (Number
    (at 3 40) 9)) (More (SubDecl (Front (declared (at 4 14) 18 "Swap") (More (Formals (More (declared (at 4 20) 19 "A")
    (More (declared (at 4 23) 20 "B") NoMore)) mode.InOut (Plain (mark (at 4 34) 0))) NoMore) NoMore)) (More (SubDecl
    (Front (declared (at 5 14) 21 "Split") (More (Formals (More (declared (at 5 21) 22 "N") NoMore) mode.In (Plain (mark
    (at 5 25) 0))) (More (Formals (More (declared (at 5 34) 23 "High") (More (declared (at 5 40) 24 "Low") NoMore))
    mode.Out (Plain (mark (at 5 50) 17))) NoMore)) NoMore)) (More (SubDecl (Front (declared (at 6 13) 25 "Sum") (More
    (Formals (More (declared (at 6 18) 26 "X") NoMore) mode.In (Plain (mark (at 6 22) 16))) NoMore) (More (Plain (mark
    (at 6 35) 0)) NoMore))) (More (SubDecl (Front (declared (at 7 13) 27 "Power") (More (Formals (More (declared (at 7
    20) 28 "N") (More (declared (at 7 23) 29 "K") NoMore)) mode.In (Plain (mark (at 7 27) 0))) NoMore) (More (Plain
    (mark (at 7 43) 0)) NoMore))) NoMore)))))) NoMore ∷ PackageBody (declared (at 9 14) 15 "P") (More (SubBody (Front
    (declared (at 10 14) 18 "Swap") (More (Formals (More (declared (at 10 20) 30 "A") (More (declared (at 10 23) 31 "B")
    NoMore)) mode.InOut (Plain (mark (at 10 34) 0))) NoMore) NoMore) (More (Objects (More (declared (at 11 7) 32 "T")
    NoMore) false (Plain (mark (at 11 11) 0)) (More (Named (at 11 22) 30 NoMore) NoMore)) NoMore) (More (Assign (Named
    (at 13 7) 30 NoMore) (Named (at 13 12) 31 NoMore)) (More (Assign (Named (at 14 7) 31 NoMore) (Named (at 14 12) 32
    NoMore)) NoMore)) (at 15 4)) (More (SubBody (Front (declared (at 16 14) 21 "Split") (More (Formals (More (declared
    (at 16 21) 33 "N") NoMore) mode.In (Plain (mark (at 16 25) 0))) (More (Formals (More (declared (at 16 34) 34 "High")
    (More (declared (at 16 40) 35 "Low") NoMore)) mode.Out (Plain (mark (at 16 50) 17))) NoMore)) NoMore) NoMore (More
    (Assign (Named (at 18 7) 34 NoMore) (Binary (at 18 15) operator.Divide (Named (at 18 15) 33 NoMore) (Number (at 18
    19) 10))) (More (Assign (Named (at 19 7) 35 NoMore) (Binary (at 19 14) operator.Modulo (Named (at 19 14) 33 NoMore)
    (Number (at 19 20) 10))) NoMore)) (at 20 4)) (More (SubBody (Front (declared (at 21 13) 25 "Sum") (More (Formals
    (More (declared (at 21 18) 36 "X") NoMore) mode.In (Plain (mark (at 21 22) 16))) NoMore) (More (Plain (mark (at 21
    35) 0)) NoMore)) NoMore (More (Return (at 23 7) (More (Binary (at 23 14) operator.Add (Named (at 23 14) 36 (More
    (selected "A") NoMore)) (Named (at 23 20) 36 (More (selected "B") NoMore))) NoMore)) NoMore) (at 24 4)) (More
    (SubBody (Front (declared (at 25 13) 27 "Power") (More (Formals (More (declared (at 25 20) 37 "N") (More (declared
    (at 25 23) 38 "K") NoMore)) mode.In (Plain (mark (at 25 27) 0))) NoMore) (More (Plain (mark (at 25 43) 0)) NoMore))
    NoMore (More (If (at 27 7) (More (Branch (at 27 7) (Binary (at 27 10) operator.Equal (Named (at 27 10) 38 NoMore)
    (Number (at 27 14) 0)) (More (Return (at 28 10) (More (Number (at 28 17) 1) NoMore)) NoMore)) NoMore) NoMore) (More
    (Return (at 30 7) (More (Binary (at 30 14) operator.Multiply (Named (at 30 14) 37 NoMore) (Named (at 30 18) 27 (More
    (Applied (actual (Named (at 30 25) 37 NoMore) (actual (Binary (at 30 28) operator.Subtract (Named (at 30 28) 38
    NoMore) (Number (at 30 32) 1)) NoMore))) NoMore))) NoMore)) NoMore)) (at 31 4)) NoMore)))) ∷ SubBody (Front
    (declared (at 35 11) 39 "Main") NoMore NoMore) (More (Objects (More (declared (at 36 4) 40 "X") NoMore) false (Plain
    (mark (at 36 8) 16)) (More (Aggregate (at 36 16) (actual (Number (at 36 17) 1) (actual (Number (at 36 20) 2)
    NoMore))) NoMore)) (More (Objects (More (declared (at 37 4) 41 "Y") NoMore) false (Plain (mark (at 37 8) 16))
    NoMore) (More (Objects (More (declared (at 38 4) 42 "H") (More (declared (at 38 7) 43 "L") NoMore)) false (Plain
    (mark (at 38 11) 0)) (More (Number (at 38 22) 0) NoMore)) NoMore))) (More (Call (Named (at 40 4) 18 (More (Applied
    (actual (Named (at 40 10) 40 (More (selected "A") NoMore)) (actual (Named (at 40 15) 40 (More (selected "B")
    NoMore)) NoMore))) NoMore))) (More (Assign (Named (at 41 4) 41 NoMore) (Named (at 41 9) 40 NoMore)) (More (Assign
    (Named (at 42 4) 40 (More (selected "A") NoMore)) (Number (at 42 11) 7)) (More (Call (Named (at 43 4) 21 (More
    (Applied (actual (Number (at 43 11) 42) (actual (Named (at 43 15) 42 NoMore) (actual (Named (at 43 18) 43 NoMore)
    NoMore)))) NoMore))) (More (Call (Named (at 44 4) 9 (More (Applied (actual (Binary (at 44 14) operator.Concatenate
    (Binary (at 44 14) operator.Concatenate (Named (at 44 14) 0 (More (Attr attribute.Image) (More (Applied (actual
    (Named (at 44 29) 41 (More (selected "A") NoMore)) NoMore)) NoMore))) (Named (at 44 36) 0 (More (Attr
    attribute.Image) (More (Applied (actual (Named (at 44 51) 41 (More (selected "B") NoMore)) NoMore)) NoMore))))
    (Named (at 44 58) 0 (More (Attr attribute.Image) (More (Applied (actual (Named (at 44 73) 25 (More (Applied (actual
    (Named (at 44 78) 40 NoMore) NoMore)) NoMore)) NoMore)) NoMore)))) NoMore)) NoMore))) (More (Call (Named (at 45 4) 9
    (More (Applied (actual (Binary (at 45 14) operator.Concatenate (Binary (at 45 14) operator.Concatenate (Named (at 45
    14) 0 (More (Attr attribute.Image) (More (Applied (actual (Binary (at 45 29) operator.Subtract (Named (at 45 29) 42
    NoMore) (Named (at 45 33) 43 NoMore)) NoMore)) NoMore))) (string (at 45 38) "\",\"")) (Named (at 45 44) 0 (More
    (Attr attribute.Image) (More (Applied (actual (Named (at 45 59) 27 (More (Applied (actual (Number (at 45 66) 2)
    (actual (Named (at 45 69) 25 (More (Applied (actual (Named (at 45 74) 41 NoMore) NoMore)) NoMore)) NoMore)))
    NoMore)) NoMore)) NoMore)))) NoMore)) NoMore))) (More (Call (Named (at 46 4) 21 (More (Applied (actual (Number (at
    46 11) 123) (actual (Named (at 46 16) 42 NoMore) (actual (Named (at 46 19) 43 NoMore) NoMore)))) NoMore)))
    NoMore))))))) (at 47 1) ∷ [])

abbrev pub self_move : Program
self_move = program 22 (SubBody (Front (declared (at 4 11) 15 "Main") NoMore NoMore) (More (Incomplete (declared (at 5
    9) 16 "Cell")) (More (TypeDecl (declared (at 6 9) 17 "List") (Access (mark (at 6 24) 16)) (at 6 28)) (More (TypeDecl
    (declared (at 7 9) 16 "Cell") (Record (More (Components (More (declared (at 8 7) 0 "Value") NoMore) (mark (at 8 15)
    0)) (More (Components (More (declared (at 9 7) 0 "Next") NoMore) (mark (at 9 14) 17)) NoMore))) (at 10 14)) (More
    (TypeDecl (declared (at 11 9) 18 "Int_Ptr") (Access (mark (at 11 27) 0)) (at 11 34)) (More (Instance (declared (at
    12 14) 19 "Free") (mark (at 12 26) 14) (actual (Named (at 12 54) 16 NoMore) (actual (Named (at 12 60) 17 NoMore)
    NoMore))) (More (Instance (declared (at 13 14) 20 "Drop") (mark (at 13 26) 14) (actual (Named (at 13 54) 0 NoMore)
    (actual (Named (at 13 63) 18 NoMore) NoMore))) (More (Objects (More (declared (at 14 1) 21 "X") NoMore) false (Plain
    (mark (at 14 5) 17)) (More (New (at 14 13) (mark (at 14 17) 16) (actual (Aggregate (at 14 22) (actual (Number (at 14
    23) 1) (actual (Null (at 14 26)) NoMore))) NoMore)) NoMore)) NoMore))))))) (More (Assign (Named (at 16 1) 21 NoMore)
    (Named (at 16 6) 21 NoMore)) NoMore) (at 17 1) ∷ [])

abbrev pub short_circuits : Program
short_circuits = program 20 (Package (declared (at 1 9) 15 "P") (More (SubDecl (Front (declared (at 2 13) 16 "Says")
    (More (Formals (More (declared (at 2 19) 17 "N") NoMore) mode.In (Plain (mark (at 2 23) 0))) NoMore) (More (Plain
    (mark (at 2 39) 3)) NoMore))) NoMore) NoMore ∷ PackageBody (declared (at 4 14) 15 "P") (More (SubBody (Front
    (declared (at 5 13) 16 "Says") (More (Formals (More (declared (at 5 19) 18 "N") NoMore) mode.In (Plain (mark (at 5
    23) 0))) NoMore) (More (Plain (mark (at 5 39) 3)) NoMore)) NoMore (More (Return (at 7 7) (More (Binary (at 7 14)
    operator.Greater (Named (at 7 14) 18 NoMore) (Number (at 7 18) 2)) NoMore)) NoMore) (at 8 4)) NoMore) ∷ SubBody
    (Front (declared (at 12 11) 19 "Main") NoMore NoMore) NoMore (More (If (at 14 4) (More (Branch (at 14 4) (Binary (at
    14 7) operator.AndThen (Named (at 14 7) 16 (More (Applied (actual (Number (at 14 13) 1) NoMore)) NoMore)) (Named (at
    14 25) 16 (More (Applied (actual (Number (at 14 31) 9) NoMore)) NoMore))) (More (Call (Named (at 15 7) 9 (More
    (Applied (actual (string (at 15 17) "\"no\"") NoMore)) NoMore))) NoMore)) NoMore) NoMore) (More (If (at 17 4) (More
    (Branch (at 17 4) (Binary (at 17 7) operator.AndThen (Named (at 17 7) 16 (More (Applied (actual (Number (at 17 13)
    3) NoMore)) NoMore)) (Parens (at 17 25) (Binary (at 17 26) operator.OrElse (Named (at 17 26) 16 (More (Applied
    (actual (Number (at 17 32) 2) NoMore)) NoMore)) (Named (at 17 43) 16 (More (Applied (actual (Number (at 17 49) 4)
    NoMore)) NoMore))))) (More (Call (Named (at 18 7) 9 (More (Applied (actual (string (at 18 17) "\"yes\"") NoMore))
    NoMore))) NoMore)) NoMore) NoMore) (More (Loop (at 20 4) (More (Exit (at 21 7) (More (Binary (at 21 17) operator.Or
    (Named (at 21 17) 16 (More (Applied (actual (Number (at 21 23) 1) NoMore)) NoMore)) (Named (at 21 29) 16 (More
    (Applied (actual (Number (at 21 35) 5) NoMore)) NoMore))) NoMore)) NoMore)) NoMore))) (at 23 1) ∷ [])

abbrev pub two_items : Program
two_items = program 22 (SubBody (Front (declared (at 4 11) 15 "Main") NoMore NoMore) (More (Incomplete (declared (at 5
    9) 16 "Cell")) (More (TypeDecl (declared (at 6 9) 17 "List") (Access (mark (at 6 24) 16)) (at 6 28)) (More (TypeDecl
    (declared (at 7 9) 16 "Cell") (Record (More (Components (More (declared (at 8 7) 0 "Value") NoMore) (mark (at 8 15)
    0)) (More (Components (More (declared (at 9 7) 0 "Next") NoMore) (mark (at 9 14) 17)) NoMore))) (at 10 14)) (More
    (TypeDecl (declared (at 11 9) 18 "Int_Ptr") (Access (mark (at 11 27) 0)) (at 11 34)) (More (Instance (declared (at
    12 14) 19 "Free") (mark (at 12 26) 14) (actual (Named (at 12 54) 16 NoMore) (actual (Named (at 12 60) 17 NoMore)
    NoMore))) (More (Instance (declared (at 13 14) 20 "Drop") (mark (at 13 26) 14) (actual (Named (at 13 54) 0 NoMore)
    (actual (Named (at 13 63) 18 NoMore) NoMore))) (More (Objects (More (declared (at 14 1) 21 "V") NoMore) false (Plain
    (mark (at 14 5) 0)) NoMore) NoMore))))))) (More (Call (Named (at 16 1) 13 (More (Applied (actual (Named (at 16 6) 21
    NoMore) NoMore)) NoMore))) (More (Call (Named (at 16 10) 13 (More (Applied (actual (Named (at 16 15) 21 NoMore)
    NoMore)) NoMore))) NoMore)) (at 17 1) ∷ [])

abbrev pub two_slots : Program
two_slots = program 23 (SubBody (Front (declared (at 4 11) 15 "Main") NoMore NoMore) (More (Incomplete (declared (at 5
    9) 16 "Cell")) (More (TypeDecl (declared (at 6 9) 17 "List") (Access (mark (at 6 24) 16)) (at 6 28)) (More (TypeDecl
    (declared (at 7 9) 16 "Cell") (Record (More (Components (More (declared (at 8 7) 0 "Value") NoMore) (mark (at 8 15)
    0)) (More (Components (More (declared (at 9 7) 0 "Next") NoMore) (mark (at 9 14) 17)) NoMore))) (at 10 14)) (More
    (TypeDecl (declared (at 11 9) 18 "Int_Ptr") (Access (mark (at 11 27) 0)) (at 11 34)) (More (Instance (declared (at
    12 14) 19 "Free") (mark (at 12 26) 14) (actual (Named (at 12 54) 16 NoMore) (actual (Named (at 12 60) 17 NoMore)
    NoMore))) (More (Instance (declared (at 13 14) 20 "Drop") (mark (at 13 26) 14) (actual (Named (at 13 54) 0 NoMore)
    (actual (Named (at 13 63) 18 NoMore) NoMore))) (More (Objects (More (declared (at 14 1) 21 "X") NoMore) false (Plain
    (mark (at 14 5) 17)) (More (New (at 14 13) (mark (at 14 17) 16) (actual (Aggregate (at 14 22) (actual (Number (at 14
    23) 5) (actual (Null (at 14 26)) NoMore))) NoMore)) NoMore)) (More (Objects (More (declared (at 14 33) 22 "I")
    NoMore) false (Plain (mark (at 14 37) 18)) NoMore) NoMore)))))))) (More (Call (Named (at 16 1) 19 (More (Applied
    (actual (Named (at 16 7) 21 NoMore) NoMore)) NoMore))) (More (Assign (Named (at 16 11) 22 NoMore) (New (at 16 16)
    (mark (at 16 20) 0) (actual (Number (at 16 29) 3) NoMore))) (More (Call (Named (at 16 33) 20 (More (Applied (actual
    (Named (at 16 39) 22 NoMore) NoMore)) NoMore))) (More (Assign (Named (at 16 43) 21 NoMore) (New (at 16 48) (mark (at
    16 52) 16) (actual (Aggregate (at 16 57) (actual (Number (at 16 58) 6) (actual (Null (at 16 61)) NoMore))) NoMore)))
    (More (Call (Named (at 17 1) 9 (More (Applied (actual (Named (at 17 11) 0 (More (Attr attribute.Image) (More
    (Applied (actual (Named (at 17 26) 21 (More (selected "Value") NoMore)) NoMore)) NoMore))) NoMore)) NoMore))) (More
    (Call (Named (at 17 37) 19 (More (Applied (actual (Named (at 17 43) 21 NoMore) NoMore)) NoMore))) NoMore)))))) (at
    18 1) ∷ [])
