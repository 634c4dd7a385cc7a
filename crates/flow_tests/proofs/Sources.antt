-- The resolved trees of the sources in data/.
--
-- tools/flow_sources.py makes this.
use Rattle.std.specs.Prelude.{[], ◌∷◌}
use Rattle.std.specs.Prelude.{false, true}
use Rattle.resolved_tree.specs.declared.operator.Attribute.TheVariants as attribute
use Rattle.place_names.specs.declared.act.Mode.TheVariants as mode
use Rattle.resolved_tree.specs.declared.operator.Operator.TheVariants as operator
use Rattle.resolved_tree.specs.declared.operator.UnaryOperator.TheVariants as unary
use Rattle.resolved_tree.specs.Trees.{Program, Access, Aggregate, All, Anonymous, Applied, Array, Assign, Attr, Binary, Block, Bounds, Branch, Call, Case, Components, Exit, For, Formals, Front, If, Incomplete, Instance, Interval, Loop, More, Named, New, NoMore, Null, Number, Objects, OthersChoice, Package, PackageBody, Parens, Plain, Record, Return, Skip, SubBody, SubDecl, TypeDecl, Unary, Value, When, While}
use Rattle.flow_tests.proofs.ResolvedTrees.{actual, at, declared, mark, program, selected}

abbrev pub aliases : Program
aliases = program 30 (Package (declared (at 1 9) 15 "P") (More (Incomplete (declared (at 2 6) 16 "Cell")) (More
    (TypeDecl (declared (at 2 17) 17 "List") (Access (mark (at 2 32) 16)) (at 2 36)) (More (TypeDecl (declared (at 3 6)
    16 "Cell") (Record (More (Components (More (declared (at 3 21) 0 "Value") NoMore) (mark (at 3 29) 0)) (More
    (Components (More (declared (at 3 38) 0 "Next") NoMore) (mark (at 3 45) 17)) NoMore))) (at 3 61)) (More (SubDecl
    (Front (declared (at 4 11) 18 "Two") (More (Formals (More (declared (at 4 16) 19 "A") (More (declared (at 4 19) 20
    "B") NoMore)) mode.InOut (Plain (mark (at 4 30) 17))) NoMore) NoMore)) (More (SubDecl (Front (declared (at 5 11) 21
    "One") (More (Formals (More (declared (at 5 16) 22 "A") NoMore) mode.InOut (Plain (mark (at 5 27) 17))) (More
    (Formals (More (declared (at 5 33) 23 "N") NoMore) mode.In (Plain (mark (at 5 37) 0))) NoMore)) NoMore)) NoMore)))))
    NoMore ∷ PackageBody (declared (at 7 14) 15 "P") (More (SubBody (Front (declared (at 8 11) 18 "Two") (More (Formals
    (More (declared (at 8 16) 24 "A") (More (declared (at 8 19) 25 "B") NoMore)) mode.InOut (Plain (mark (at 8 30) 17)))
    NoMore) NoMore) NoMore (More (Skip (at 8 45)) NoMore) (at 8 51)) (More (SubBody (Front (declared (at 9 11) 21 "One")
    (More (Formals (More (declared (at 9 16) 26 "A") NoMore) mode.InOut (Plain (mark (at 9 27) 17))) (More (Formals
    (More (declared (at 9 33) 27 "N") NoMore) mode.In (Plain (mark (at 9 37) 0))) NoMore)) NoMore) NoMore (More (Skip
    (at 9 55)) NoMore) (at 9 61)) NoMore)) ∷ SubBody (Front (declared (at 12 11) 28 "Main") NoMore NoMore) (More
    (Objects (More (declared (at 12 19) 29 "X") NoMore) false (Plain (mark (at 12 23) 17)) NoMore) NoMore) (More (Call
    (Named (at 13 1) 18 (More (Applied (actual (Named (at 13 6) 29 NoMore) (actual (Named (at 13 9) 29 (More (selected
    "Next") NoMore)) NoMore))) NoMore))) (More (Call (Named (at 13 18) 21 (More (Applied (actual (Named (at 13 23) 29
    NoMore) (actual (Named (at 13 26) 29 (More (selected "Value") NoMore)) NoMore))) NoMore))) NoMore)) (at 14 1) ∷ [])

abbrev pub arrays : Program
arrays = program 25 (SubBody (Front (declared (at 4 11) 15 "Main") NoMore NoMore) (More (Incomplete (declared (at 5 9)
    16 "Cell")) (More (TypeDecl (declared (at 6 9) 17 "List") (Access (mark (at 6 24) 16)) (at 6 28)) (More (TypeDecl
    (declared (at 7 9) 16 "Cell") (Record (More (Components (More (declared (at 8 7) 0 "Value") NoMore) (mark (at 8 15)
    0)) (More (Components (More (declared (at 9 7) 0 "Next") NoMore) (mark (at 9 14) 17)) NoMore))) (at 10 14)) (More
    (TypeDecl (declared (at 11 9) 18 "Int_Ptr") (Access (mark (at 11 27) 0)) (at 11 34)) (More (Instance (declared (at
    12 14) 19 "Free") (mark (at 12 26) 14) (actual (Named (at 12 54) 16 NoMore) (actual (Named (at 12 60) 17 NoMore)
    NoMore))) (More (Instance (declared (at 13 14) 20 "Drop") (mark (at 13 26) 14) (actual (Named (at 13 54) 0 NoMore)
    (actual (Named (at 13 63) 18 NoMore) NoMore))) (More (TypeDecl (declared (at 14 6) 21 "Row") (Array (Bounds (Number
    (at 14 20) 1) (Number (at 14 25) 3)) (mark (at 14 31) 17)) (at 14 35)) (More (Objects (More (declared (at 14 37) 22
    "R") (More (declared (at 14 40) 23 "S") NoMore)) false (Plain (mark (at 14 44) 21)) NoMore) (More (Objects (More
    (declared (at 14 49) 24 "I") NoMore) false (Plain (mark (at 14 53) 0)) NoMore) NoMore))))))))) (More (Assign (Named
    (at 16 1) 22 (More (Applied (actual (Binary (at 16 4) operator.Add (Named (at 16 4) 24 NoMore) (Number (at 16 8) 1))
    NoMore)) NoMore)) (Named (at 16 14) 23 (More (Applied (actual (Named (at 16 17) 24 NoMore) NoMore)) NoMore))) (More
    (Assign (Named (at 16 21) 23 NoMore) (Named (at 16 26) 22 NoMore)) (More (Call (Named (at 16 29) 19 (More (Applied
    (actual (Named (at 16 35) 22 (More (Applied (actual (Named (at 16 38) 24 NoMore) NoMore)) NoMore)) NoMore))
    NoMore))) (More (If (at 16 43) (More (Branch (at 16 43) (Binary (at 16 46) operator.Equal (Named (at 16 46) 23 (More
    (Applied (actual (Named (at 16 49) 24 NoMore) NoMore)) NoMore)) (Null (at 16 54))) (More (Assign (Named (at 16 64)
    24 NoMore) (Named (at 16 69) 22 (More (Applied (actual (Number (at 16 72) 2) NoMore)) (More (selected "Value")
    NoMore)))) NoMore)) NoMore) NoMore) NoMore)))) (at 17 1) ∷ [])

abbrev pub borrower : Program
borrower = program 23 (SubBody (Front (declared (at 4 11) 15 "Main") NoMore NoMore) (More (Incomplete (declared (at 5 9)
    16 "Cell")) (More (TypeDecl (declared (at 6 9) 17 "List") (Access (mark (at 6 24) 16)) (at 6 28)) (More (TypeDecl
    (declared (at 7 9) 16 "Cell") (Record (More (Components (More (declared (at 8 7) 0 "Value") NoMore) (mark (at 8 15)
    0)) (More (Components (More (declared (at 9 7) 0 "Next") NoMore) (mark (at 9 14) 17)) NoMore))) (at 10 14)) (More
    (TypeDecl (declared (at 11 9) 18 "Int_Ptr") (Access (mark (at 11 27) 0)) (at 11 34)) (More (Instance (declared (at
    12 14) 19 "Free") (mark (at 12 26) 14) (actual (Named (at 12 54) 16 NoMore) (actual (Named (at 12 60) 17 NoMore)
    NoMore))) (More (Instance (declared (at 13 14) 20 "Drop") (mark (at 13 26) 14) (actual (Named (at 13 54) 0 NoMore)
    (actual (Named (at 13 63) 18 NoMore) NoMore))) (More (Objects (More (declared (at 14 1) 21 "L") NoMore) false (Plain
    (mark (at 14 5) 17)) (More (New (at 14 13) (mark (at 14 17) 16) (actual (Aggregate (at 14 22) (actual (Number (at 14
    23) 1) (actual (Null (at 14 26)) NoMore))) NoMore)) NoMore)) NoMore))))))) (More (Block (at 16 1) (More (Objects
    (More (declared (at 16 9) 22 "B") NoMore) false (Anonymous (at 16 13) false (mark (at 16 20) 16)) (More (Named (at
    16 28) 21 NoMore) NoMore)) NoMore) (More (While (at 17 1) (Binary (at 17 7) operator.NotEqual (Named (at 17 7) 22
    NoMore) (Null (at 17 12))) (More (Assign (Named (at 17 22) 22 (More (selected "Value") NoMore)) (Named (at 17 33) 21
    (More (selected "Value") NoMore))) (More (Assign (Named (at 17 42) 22 NoMore) (Named (at 17 47) 22 (More (selected
    "Next") NoMore))) NoMore))) NoMore) (at 17 65)) (More (Assign (Named (at 18 1) 21 (More (selected "Value") NoMore))
    (Number (at 18 12) 2)) NoMore)) (at 19 1) ∷ [])

abbrev pub calls : Program
calls = program 29 (Package (declared (at 1 9) 15 "P") (More (TypeDecl (declared (at 2 6) 16 "Ptr") (Access (mark (at 2
    20) 0)) (at 2 27)) (More (TypeDecl (declared (at 3 6) 17 "Pair") (Record (More (Components (More (declared (at 3 21)
    0 "A") (More (declared (at 3 24) 0 "B") NoMore)) (mark (at 3 28) 16)) (More (Components (More (declared (at 3 33) 0
    "N") NoMore) (mark (at 3 37) 0)) NoMore))) (at 3 56)) (More (Objects (More (declared (at 4 1) 18 "G") (More
    (declared (at 4 4) 19 "H") NoMore)) false (Plain (mark (at 4 8) 16)) (More (New (at 4 15) (mark (at 4 19) 0) (actual
    (Number (at 4 28) 1) NoMore)) NoMore)) (More (SubDecl (Front (declared (at 5 11) 20 "Make") (More (Formals (More
    (declared (at 5 17) 21 "X") NoMore) mode.Out (Plain (mark (at 5 25) 17))) (More (Formals (More (declared (at 5 31)
    22 "Y") NoMore) mode.In (Plain (mark (at 5 38) 16))) (More (Formals (More (declared (at 5 43) 23 "N") NoMore)
    mode.In (Plain (mark (at 5 47) 0))) NoMore))) NoMore)) NoMore)))) NoMore ∷ PackageBody (declared (at 7 14) 15 "P")
    (More (SubBody (Front (declared (at 8 11) 20 "Make") (More (Formals (More (declared (at 8 17) 24 "X") NoMore)
    mode.Out (Plain (mark (at 8 25) 17))) (More (Formals (More (declared (at 8 31) 25 "Y") NoMore) mode.In (Plain (mark
    (at 8 38) 16))) (More (Formals (More (declared (at 8 43) 26 "N") NoMore) mode.In (Plain (mark (at 8 47) 0)))
    NoMore))) NoMore) NoMore (More (Assign (Named (at 9 1) 18 NoMore) (Named (at 9 6) 19 NoMore)) NoMore) (at 10 1))
    NoMore) ∷ SubBody (Front (declared (at 13 11) 27 "Main") NoMore NoMore) (More (Objects (More (declared (at 13 19) 28
    "R") NoMore) false (Plain (mark (at 13 23) 17)) NoMore) NoMore) (More (Call (Named (at 14 1) 20 (More (Applied
    (actual (Named (at 14 7) 28 NoMore) (actual (Named (at 14 10) 18 NoMore) (actual (Named (at 14 13) 28 (More
    (selected "N") NoMore)) NoMore)))) NoMore))) NoMore) (at 15 1) ∷ [])

abbrev pub deep_name : Program
deep_name = program 23 (SubBody (Front (declared (at 4 11) 15 "Main") NoMore NoMore) (More (Incomplete (declared (at 5
    9) 16 "Cell")) (More (TypeDecl (declared (at 6 9) 17 "List") (Access (mark (at 6 24) 16)) (at 6 28)) (More (TypeDecl
    (declared (at 7 9) 16 "Cell") (Record (More (Components (More (declared (at 8 7) 0 "Value") NoMore) (mark (at 8 15)
    0)) (More (Components (More (declared (at 9 7) 0 "Next") NoMore) (mark (at 9 14) 17)) NoMore))) (at 10 14)) (More
    (TypeDecl (declared (at 11 9) 18 "Int_Ptr") (Access (mark (at 11 27) 0)) (at 11 34)) (More (Instance (declared (at
    12 14) 19 "Free") (mark (at 12 26) 14) (actual (Named (at 12 54) 16 NoMore) (actual (Named (at 12 60) 17 NoMore)
    NoMore))) (More (Instance (declared (at 13 14) 20 "Drop") (mark (at 13 26) 14) (actual (Named (at 13 54) 0 NoMore)
    (actual (Named (at 13 63) 18 NoMore) NoMore))) (More (Objects (More (declared (at 14 1) 21 "L") (More (declared (at
    14 4) 22 "X") NoMore)) false (Plain (mark (at 14 8) 17)) NoMore) NoMore))))))) (More (Assign (Named (at 16 1) 21
    NoMore) (Named (at 16 6) 22 (More (selected "Next") (More (selected "Next") (More (selected "Next") (More (selected
    "Next") (More (selected "Next") (More (selected "Next") (More (selected "Next") (More (selected "Next") (More
    (selected "Next") NoMore))))))))))) NoMore) (at 17 1) ∷ [])

abbrev pub excused : Program
excused = program 23 (SubBody (Front (declared (at 4 11) 15 "Main") NoMore NoMore) (More (Incomplete (declared (at 5 9)
    16 "Cell")) (More (TypeDecl (declared (at 6 9) 17 "List") (Access (mark (at 6 24) 16)) (at 6 28)) (More (TypeDecl
    (declared (at 7 9) 16 "Cell") (Record (More (Components (More (declared (at 8 7) 0 "Value") NoMore) (mark (at 8 15)
    0)) (More (Components (More (declared (at 9 7) 0 "Next") NoMore) (mark (at 9 14) 17)) NoMore))) (at 10 14)) (More
    (TypeDecl (declared (at 11 9) 18 "Int_Ptr") (Access (mark (at 11 27) 0)) (at 11 34)) (More (Instance (declared (at
    12 14) 19 "Free") (mark (at 12 26) 14) (actual (Named (at 12 54) 16 NoMore) (actual (Named (at 12 60) 17 NoMore)
    NoMore))) (More (Instance (declared (at 13 14) 20 "Drop") (mark (at 13 26) 14) (actual (Named (at 13 54) 0 NoMore)
    (actual (Named (at 13 63) 18 NoMore) NoMore))) (More (Objects (More (declared (at 14 1) 21 "X") (More (declared (at
    14 4) 22 "Y") NoMore)) false (Plain (mark (at 14 8) 17)) NoMore) NoMore))))))) (More (Assign (Named (at 16 1) 22
    NoMore) (Named (at 16 6) 21 NoMore)) (More (Assign (Named (at 16 9) 21 NoMore) (Null (at 16 14))) NoMore)) (at 17 1)
    ∷ [])

abbrev pub exit_of_block : Program
exit_of_block = program 24 (SubBody (Front (declared (at 4 11) 15 "Main") NoMore NoMore) (More (Incomplete (declared (at
    5 9) 16 "Cell")) (More (TypeDecl (declared (at 6 9) 17 "List") (Access (mark (at 6 24) 16)) (at 6 28)) (More
    (TypeDecl (declared (at 7 9) 16 "Cell") (Record (More (Components (More (declared (at 8 7) 0 "Value") NoMore) (mark
    (at 8 15) 0)) (More (Components (More (declared (at 9 7) 0 "Next") NoMore) (mark (at 9 14) 17)) NoMore))) (at 10
    14)) (More (TypeDecl (declared (at 11 9) 18 "Int_Ptr") (Access (mark (at 11 27) 0)) (at 11 34)) (More (Instance
    (declared (at 12 14) 19 "Free") (mark (at 12 26) 14) (actual (Named (at 12 54) 16 NoMore) (actual (Named (at 12 60)
    17 NoMore) NoMore))) (More (Instance (declared (at 13 14) 20 "Drop") (mark (at 13 26) 14) (actual (Named (at 13 54)
    0 NoMore) (actual (Named (at 13 63) 18 NoMore) NoMore))) (More (Objects (More (declared (at 14 1) 21 "X") NoMore)
    false (Plain (mark (at 14 5) 17)) NoMore) NoMore))))))) (More (Loop (at 16 1) (More (Block (at 16 6) (More (Objects
    (More (declared (at 16 14) 22 "B") NoMore) false (Anonymous (at 16 18) false (mark (at 16 25) 16)) (More (Named (at
    16 33) 21 NoMore) NoMore)) (More (Objects (More (declared (at 16 36) 23 "Y") NoMore) false (Plain (mark (at 16 40)
    17)) (More (New (at 16 48) (mark (at 16 52) 16) (actual (Aggregate (at 16 57) (actual (Number (at 16 58) 1) (actual
    (Null (at 16 61)) NoMore))) NoMore)) NoMore)) NoMore)) (More (Exit (at 16 74) NoMore) NoMore) (at 16 80)) NoMore))
    (More (Assign (Named (at 17 1) 21 NoMore) (Null (at 17 6))) NoMore)) (at 18 1) ∷ [])

abbrev pub five_steps : Program
five_steps = program 22 (SubBody (Front (declared (at 4 11) 15 "Main") NoMore NoMore) (More (Incomplete (declared (at 5
    9) 16 "Cell")) (More (TypeDecl (declared (at 6 9) 17 "List") (Access (mark (at 6 24) 16)) (at 6 28)) (More (TypeDecl
    (declared (at 7 9) 16 "Cell") (Record (More (Components (More (declared (at 8 7) 0 "Value") NoMore) (mark (at 8 15)
    0)) (More (Components (More (declared (at 9 7) 0 "Next") NoMore) (mark (at 9 14) 17)) NoMore))) (at 10 14)) (More
    (TypeDecl (declared (at 11 9) 18 "Int_Ptr") (Access (mark (at 11 27) 0)) (at 11 34)) (More (Instance (declared (at
    12 14) 19 "Free") (mark (at 12 26) 14) (actual (Named (at 12 54) 16 NoMore) (actual (Named (at 12 60) 17 NoMore)
    NoMore))) (More (Instance (declared (at 13 14) 20 "Drop") (mark (at 13 26) 14) (actual (Named (at 13 54) 0 NoMore)
    (actual (Named (at 13 63) 18 NoMore) NoMore))) (More (Objects (More (declared (at 14 1) 21 "X") NoMore) false (Plain
    (mark (at 14 5) 18)) (More (New (at 14 16) (mark (at 14 20) 0) (actual (Number (at 14 29) 7) NoMore)) NoMore))
    NoMore))))))) (More (Call (Named (at 16 1) 9 (More (Applied (actual (Named (at 16 11) 0 (More (Attr attribute.Image)
    (More (Applied (actual (Named (at 16 26) 21 (More All NoMore)) NoMore)) NoMore))) NoMore)) NoMore))) (More (Call
    (Named (at 17 1) 20 (More (Applied (actual (Named (at 17 7) 21 NoMore) NoMore)) NoMore))) NoMore)) (at 18 1) ∷ [])

abbrev pub for_case : Program
for_case = program 23 (SubBody (Front (declared (at 4 11) 15 "Main") NoMore NoMore) (More (Incomplete (declared (at 5 9)
    16 "Cell")) (More (TypeDecl (declared (at 6 9) 17 "List") (Access (mark (at 6 24) 16)) (at 6 28)) (More (TypeDecl
    (declared (at 7 9) 16 "Cell") (Record (More (Components (More (declared (at 8 7) 0 "Value") NoMore) (mark (at 8 15)
    0)) (More (Components (More (declared (at 9 7) 0 "Next") NoMore) (mark (at 9 14) 17)) NoMore))) (at 10 14)) (More
    (TypeDecl (declared (at 11 9) 18 "Int_Ptr") (Access (mark (at 11 27) 0)) (at 11 34)) (More (Instance (declared (at
    12 14) 19 "Free") (mark (at 12 26) 14) (actual (Named (at 12 54) 16 NoMore) (actual (Named (at 12 60) 17 NoMore)
    NoMore))) (More (Instance (declared (at 13 14) 20 "Drop") (mark (at 13 26) 14) (actual (Named (at 13 54) 0 NoMore)
    (actual (Named (at 13 63) 18 NoMore) NoMore))) (More (Objects (More (declared (at 14 1) 21 "S") NoMore) false (Plain
    (mark (at 14 5) 0)) NoMore) NoMore))))))) (More (For (at 16 1) (declared (at 16 5) 22 "I") false (Bounds (Number (at
    16 10) 1) (Binary (at 16 15) operator.Add (Named (at 16 15) 21 NoMore) (Number (at 16 19) 2))) (More (Case (at 17 1)
    (Named (at 17 6) 22 NoMore) (More (When (More (Value (Number (at 18 6) 1)) (More (Interval (Number (at 18 10) 3)
    (Number (at 18 15) 4)) NoMore)) (More (Assign (Named (at 18 20) 21 NoMore) (Binary (at 18 25) operator.Add (Named
    (at 18 25) 21 NoMore) (Named (at 18 29) 22 NoMore))) NoMore)) (More (When (More (OthersChoice (at 19 6)) NoMore)
    (More (Skip (at 19 16)) NoMore)) NoMore))) NoMore)) NoMore) (at 22 1) ∷ [])

abbrev pub leak_checks : Program
leak_checks = program 22 (SubBody (Front (declared (at 4 11) 15 "Main") NoMore NoMore) (More (Incomplete (declared (at 5
    9) 16 "Cell")) (More (TypeDecl (declared (at 6 9) 17 "List") (Access (mark (at 6 24) 16)) (at 6 28)) (More (TypeDecl
    (declared (at 7 9) 16 "Cell") (Record (More (Components (More (declared (at 8 7) 0 "Value") NoMore) (mark (at 8 15)
    0)) (More (Components (More (declared (at 9 7) 0 "Next") NoMore) (mark (at 9 14) 17)) NoMore))) (at 10 14)) (More
    (TypeDecl (declared (at 11 9) 18 "Int_Ptr") (Access (mark (at 11 27) 0)) (at 11 34)) (More (Instance (declared (at
    12 14) 19 "Free") (mark (at 12 26) 14) (actual (Named (at 12 54) 16 NoMore) (actual (Named (at 12 60) 17 NoMore)
    NoMore))) (More (Instance (declared (at 13 14) 20 "Drop") (mark (at 13 26) 14) (actual (Named (at 13 54) 0 NoMore)
    (actual (Named (at 13 63) 18 NoMore) NoMore))) (More (Objects (More (declared (at 14 1) 21 "X") NoMore) false (Plain
    (mark (at 14 5) 17)) (More (New (at 14 13) (mark (at 14 17) 16) (actual (Aggregate (at 14 22) (actual (Number (at 14
    23) 1) (actual (New (at 14 26) (mark (at 14 30) 16) (actual (Aggregate (at 14 35) (actual (Number (at 14 36) 2)
    (actual (Null (at 14 39)) NoMore))) NoMore)) NoMore))) NoMore)) NoMore)) NoMore))))))) (More (Assign (Named (at 16
    1) 21 NoMore) (Named (at 16 6) 21 (More (selected "Next") NoMore))) (More (Call (Named (at 16 14) 19 (More (Applied
    (actual (Named (at 16 20) 21 NoMore) NoMore)) NoMore))) (More (Assign (Named (at 16 24) 21 (More (selected "Next")
    NoMore)) (Null (at 16 34))) NoMore))) (at 17 1) ∷ [])

abbrev pub made_three : Program
made_three = program 34 (Package (declared (at 2 9) 15 "Work") (More (Incomplete (declared (at 3 6) 16 "Cell")) (More
    (TypeDecl (declared (at 3 17) 17 "List") (Access (mark (at 3 32) 16)) (at 3 36)) (More (TypeDecl (declared (at 4 6)
    16 "Cell") (Record (More (Components (More (declared (at 4 21) 0 "Value") NoMore) (mark (at 4 29) 0)) (More
    (Components (More (declared (at 4 38) 0 "Next") NoMore) (mark (at 4 45) 17)) NoMore))) (at 4 61)) (More (Instance
    (declared (at 5 11) 18 "Free") (mark (at 5 23) 14) (actual (Named (at 5 51) 16 NoMore) (actual (Named (at 5 57) 17
    NoMore) NoMore))) (More (SubDecl (Front (declared (at 6 11) 19 "P1") (More (Formals (More (declared (at 6 15) 20
    "L") NoMore) mode.InOut (Plain (mark (at 6 26) 17))) NoMore) NoMore)) (More (SubDecl (Front (declared (at 7 11) 21
    "P2") (More (Formals (More (declared (at 7 15) 22 "L") NoMore) mode.InOut (Plain (mark (at 7 26) 17))) NoMore)
    NoMore)) (More (SubDecl (Front (declared (at 8 11) 23 "P3") (More (Formals (More (declared (at 8 15) 24 "L") NoMore)
    mode.InOut (Plain (mark (at 8 26) 17))) NoMore) NoMore)) NoMore))))))) NoMore ∷ PackageBody (declared (at 10 14) 15
    "Work") (More (SubBody (Front (declared (at 11 11) 19 "P1") (More (Formals (More (declared (at 11 15) 25 "L")
    NoMore) mode.InOut (Plain (mark (at 11 26) 17))) NoMore) NoMore) NoMore (More (Assign (Named (at 11 41) 25 NoMore)
    (New (at 11 46) (mark (at 11 50) 16) (actual (Aggregate (at 11 55) (actual (Number (at 11 56) 1) (actual (Named (at
    11 59) 25 NoMore) NoMore))) NoMore))) NoMore) (at 11 63)) (More (SubBody (Front (declared (at 12 11) 21 "P2") (More
    (Formals (More (declared (at 12 15) 26 "L") NoMore) mode.InOut (Plain (mark (at 12 26) 17))) NoMore) NoMore) (More
    (Objects (More (declared (at 12 35) 27 "B") NoMore) false (Anonymous (at 12 39) false (mark (at 12 46) 16)) (More
    (Named (at 12 54) 26 NoMore) NoMore)) NoMore) (More (Assign (Named (at 12 63) 27 (More (selected "Value") NoMore))
    (Binary (at 12 74) operator.Add (Named (at 12 74) 27 (More (selected "Value") NoMore)) (Number (at 12 84) 2)))
    NoMore) (at 12 87)) (More (SubBody (Front (declared (at 13 11) 23 "P3") (More (Formals (More (declared (at 13 15) 28
    "L") NoMore) mode.InOut (Plain (mark (at 13 26) 17))) NoMore) NoMore) (More (Objects (More (declared (at 13 35) 29
    "S") NoMore) false (Plain (mark (at 13 39) 0)) NoMore) NoMore) (More (Block (at 13 54) (More (Objects (More
    (declared (at 13 62) 30 "C") NoMore) false (Anonymous (at 13 66) true (mark (at 13 82) 16)) (More (Named (at 13 90)
    28 NoMore) NoMore)) NoMore) (More (While (at 13 99) (Binary (at 13 105) operator.NotEqual (Named (at 13 105) 30
    NoMore) (Null (at 13 110))) (More (Assign (Named (at 13 120) 29 NoMore) (Binary (at 13 125) operator.Modulo (Parens
    (at 13 125) (Binary (at 13 126) operator.Add (Named (at 13 126) 29 NoMore) (Named (at 13 130) 30 (More (selected
    "Value") NoMore)))) (Number (at 13 143) 1000))) (More (Assign (Named (at 13 149) 30 NoMore) (Named (at 13 154) 30
    (More (selected "Next") NoMore))) NoMore))) NoMore) (at 13 172)) (More (Assign (Named (at 13 177) 28 (More (selected
    "Value") NoMore)) (Named (at 13 188) 29 NoMore)) NoMore)) (at 13 191)) NoMore))) ∷ SubBody (Front (declared (at 16
    11) 31 "Main") NoMore NoMore) (More (Objects (More (declared (at 16 19) 32 "L") NoMore) false (Plain (mark (at 16
    23) 17)) NoMore) NoMore) (More (Call (Named (at 18 1) 19 (More (Applied (actual (Named (at 18 5) 32 NoMore) NoMore))
    NoMore))) (More (Call (Named (at 19 1) 21 (More (Applied (actual (Named (at 19 5) 32 NoMore) NoMore)) NoMore)))
    (More (Call (Named (at 20 1) 23 (More (Applied (actual (Named (at 20 5) 32 NoMore) NoMore)) NoMore))) (More (Call
    (Named (at 21 1) 9 (More (Applied (actual (Named (at 21 11) 0 (More (Attr attribute.Image) (More (Applied (actual
    (Named (at 21 26) 32 (More (selected "Value") NoMore)) NoMore)) NoMore))) NoMore)) NoMore))) (More (Block (at 22 1)
    (More (Objects (More (declared (at 22 9) 33 "Old") NoMore) false (Plain (mark (at 22 15) 17)) NoMore) NoMore) (More
    (While (at 22 27) (Binary (at 22 33) operator.NotEqual (Named (at 22 33) 32 NoMore) (Null (at 22 38))) (More (Assign
    (Named (at 22 48) 33 NoMore) (Named (at 22 55) 32 NoMore)) (More (Assign (Named (at 22 58) 32 NoMore) (Named (at 22
    63) 33 (More (selected "Next") NoMore))) (More (Call (Named (at 22 73) 18 (More (Applied (actual (Named (at 22 79)
    33 NoMore) NoMore)) NoMore))) NoMore)))) NoMore) (at 22 95)) NoMore))))) (at 23 1) ∷ [])

abbrev pub move_in_loop : Program
move_in_loop = program 23 (SubBody (Front (declared (at 4 11) 15 "Main") NoMore NoMore) (More (Incomplete (declared (at
    5 9) 16 "Cell")) (More (TypeDecl (declared (at 6 9) 17 "List") (Access (mark (at 6 24) 16)) (at 6 28)) (More
    (TypeDecl (declared (at 7 9) 16 "Cell") (Record (More (Components (More (declared (at 8 7) 0 "Value") NoMore) (mark
    (at 8 15) 0)) (More (Components (More (declared (at 9 7) 0 "Next") NoMore) (mark (at 9 14) 17)) NoMore))) (at 10
    14)) (More (TypeDecl (declared (at 11 9) 18 "Int_Ptr") (Access (mark (at 11 27) 0)) (at 11 34)) (More (Instance
    (declared (at 12 14) 19 "Free") (mark (at 12 26) 14) (actual (Named (at 12 54) 16 NoMore) (actual (Named (at 12 60)
    17 NoMore) NoMore))) (More (Instance (declared (at 13 14) 20 "Drop") (mark (at 13 26) 14) (actual (Named (at 13 54)
    0 NoMore) (actual (Named (at 13 63) 18 NoMore) NoMore))) (More (Objects (More (declared (at 14 1) 21 "X") (More
    (declared (at 14 4) 22 "Y") NoMore)) false (Plain (mark (at 14 8) 18)) NoMore) NoMore))))))) (More (While (at 16 1)
    (Unary (at 16 7) unary.Not (Named (at 16 11) 11 NoMore)) (More (Assign (Named (at 16 28) 22 NoMore) (Named (at 16
    33) 21 NoMore)) NoMore)) NoMore) (at 17 1) ∷ [])

abbrev pub nine_lines : Program
nine_lines = program 21 (SubBody (Front (declared (at 2 11) 15 "Main") NoMore NoMore) (More (TypeDecl (declared (at 3 6)
    16 "Int_Ptr") (Access (mark (at 3 24) 0)) (at 3 31)) (More (Instance (declared (at 4 11) 17 "Free") (mark (at 4 23)
    14) (actual (Named (at 4 51) 0 NoMore) (actual (Named (at 4 60) 16 NoMore) NoMore))) (More (Objects (More (declared
    (at 5 1) 18 "X") (More (declared (at 5 4) 19 "Y") NoMore)) false (Plain (mark (at 5 8) 16)) NoMore) (More (Objects
    (More (declared (at 6 1) 20 "N") NoMore) false (Plain (mark (at 6 5) 0)) NoMore) NoMore)))) (More (Assign (Named (at
    8 1) 18 NoMore) (New (at 8 6) (mark (at 8 10) 0) (actual (Number (at 8 19) 7) NoMore))) (More (Assign (Named (at 8
    23) 19 NoMore) (Named (at 8 28) 18 NoMore)) (More (Assign (Named (at 8 31) 20 NoMore) (Named (at 8 36) 18 (More All
    NoMore))) (More (Call (Named (at 8 43) 17 (More (Applied (actual (Named (at 8 49) 19 NoMore) NoMore)) NoMore)))
    NoMore)))) (at 9 1) ∷ [])

abbrev pub not_too_deep : Program
not_too_deep = program 23 (SubBody (Front (declared (at 4 11) 15 "Main") NoMore NoMore) (More (Incomplete (declared (at
    5 9) 16 "Cell")) (More (TypeDecl (declared (at 6 9) 17 "List") (Access (mark (at 6 24) 16)) (at 6 28)) (More
    (TypeDecl (declared (at 7 9) 16 "Cell") (Record (More (Components (More (declared (at 8 7) 0 "Value") NoMore) (mark
    (at 8 15) 0)) (More (Components (More (declared (at 9 7) 0 "Next") NoMore) (mark (at 9 14) 17)) NoMore))) (at 10
    14)) (More (TypeDecl (declared (at 11 9) 18 "Int_Ptr") (Access (mark (at 11 27) 0)) (at 11 34)) (More (Instance
    (declared (at 12 14) 19 "Free") (mark (at 12 26) 14) (actual (Named (at 12 54) 16 NoMore) (actual (Named (at 12 60)
    17 NoMore) NoMore))) (More (Instance (declared (at 13 14) 20 "Drop") (mark (at 13 26) 14) (actual (Named (at 13 54)
    0 NoMore) (actual (Named (at 13 63) 18 NoMore) NoMore))) (More (Objects (More (declared (at 14 1) 21 "L") (More
    (declared (at 14 4) 22 "X") NoMore)) false (Plain (mark (at 14 8) 17)) NoMore) NoMore))))))) (More (Assign (Named
    (at 16 1) 21 NoMore) (Named (at 16 6) 22 (More (selected "Next") (More (selected "Next") (More (selected "Next")
    (More (selected "Next") (More (selected "Next") (More (selected "Next") (More (selected "Next") (More (selected
    "Next") NoMore)))))))))) NoMore) (at 17 1) ∷ [])

abbrev pub one_branch : Program
one_branch = program 23 (SubBody (Front (declared (at 4 11) 15 "Main") NoMore NoMore) (More (Incomplete (declared (at 5
    9) 16 "Cell")) (More (TypeDecl (declared (at 6 9) 17 "List") (Access (mark (at 6 24) 16)) (at 6 28)) (More (TypeDecl
    (declared (at 7 9) 16 "Cell") (Record (More (Components (More (declared (at 8 7) 0 "Value") NoMore) (mark (at 8 15)
    0)) (More (Components (More (declared (at 9 7) 0 "Next") NoMore) (mark (at 9 14) 17)) NoMore))) (at 10 14)) (More
    (TypeDecl (declared (at 11 9) 18 "Int_Ptr") (Access (mark (at 11 27) 0)) (at 11 34)) (More (Instance (declared (at
    12 14) 19 "Free") (mark (at 12 26) 14) (actual (Named (at 12 54) 16 NoMore) (actual (Named (at 12 60) 17 NoMore)
    NoMore))) (More (Instance (declared (at 13 14) 20 "Drop") (mark (at 13 26) 14) (actual (Named (at 13 54) 0 NoMore)
    (actual (Named (at 13 63) 18 NoMore) NoMore))) (More (Objects (More (declared (at 14 1) 21 "X") (More (declared (at
    14 4) 22 "Y") NoMore)) false (Plain (mark (at 14 8) 18)) NoMore) NoMore))))))) (More (If (at 16 1) (More (Branch (at
    16 1) (Named (at 16 4) 11 NoMore) (More (Assign (Named (at 16 21) 22 NoMore) (Named (at 16 26) 21 NoMore)) NoMore))
    NoMore) (More (Call (Named (at 16 34) 8 (More (Applied (actual (Named (at 16 39) 0 (More (Attr attribute.Image)
    (More (Applied (actual (Named (at 16 54) 21 (More All NoMore)) NoMore)) NoMore))) NoMore)) NoMore))) NoMore)) (More
    (Call (Named (at 17 1) 8 (More (Applied (actual (Named (at 17 6) 0 (More (Attr attribute.Image) (More (Applied
    (actual (Named (at 17 21) 21 (More All NoMore)) NoMore)) NoMore))) NoMore)) NoMore))) NoMore)) (at 18 1) ∷ [])

abbrev pub other_root : Program
other_root = program 22 (Package (declared (at 1 9) 15 "P") (More (Incomplete (declared (at 2 6) 16 "Cell")) (More
    (TypeDecl (declared (at 2 17) 17 "List") (Access (mark (at 2 32) 16)) (at 2 36)) (More (TypeDecl (declared (at 3 6)
    16 "Cell") (Record (More (Components (More (declared (at 3 21) 0 "Value") NoMore) (mark (at 3 29) 0)) (More
    (Components (More (declared (at 3 38) 0 "Next") NoMore) (mark (at 3 45) 17)) NoMore))) (at 3 61)) (More (Objects
    (More (declared (at 4 1) 18 "G") NoMore) false (Plain (mark (at 4 5) 17)) NoMore) (More (SubDecl (Front (declared
    (at 5 10) 19 "Other") (More (Formals (More (declared (at 5 17) 20 "L") NoMore) mode.In (Anonymous (at 5 21) true
    (mark (at 5 37) 16))) NoMore) (More (Anonymous (at 5 50) true (mark (at 5 66) 16)) NoMore))) NoMore))))) NoMore ∷
    PackageBody (declared (at 7 14) 15 "P") (More (SubBody (Front (declared (at 8 10) 19 "Other") (More (Formals (More
    (declared (at 8 17) 21 "L") NoMore) mode.In (Anonymous (at 8 21) true (mark (at 8 37) 16))) NoMore) (More (Anonymous
    (at 8 50) true (mark (at 8 66) 16)) NoMore)) NoMore (More (Return (at 9 1) (More (Named (at 9 8) 18 NoMore) NoMore))
    NoMore) (at 9 11)) NoMore) ∷ [])

abbrev pub reborrow_past_hole : Program
reborrow_past_hole = program 26 (SubBody (Front (declared (at 4 11) 15 "Main") NoMore NoMore) (More (Incomplete
    (declared (at 5 9) 16 "Cell")) (More (TypeDecl (declared (at 6 9) 17 "List") (Access (mark (at 6 24) 16)) (at 6 28))
    (More (TypeDecl (declared (at 7 9) 16 "Cell") (Record (More (Components (More (declared (at 8 7) 0 "Value") NoMore)
    (mark (at 8 15) 0)) (More (Components (More (declared (at 9 7) 0 "Next") NoMore) (mark (at 9 14) 17)) NoMore))) (at
    10 14)) (More (TypeDecl (declared (at 11 9) 18 "Int_Ptr") (Access (mark (at 11 27) 0)) (at 11 34)) (More (Instance
    (declared (at 12 14) 19 "Free") (mark (at 12 26) 14) (actual (Named (at 12 54) 16 NoMore) (actual (Named (at 12 60)
    17 NoMore) NoMore))) (More (Instance (declared (at 13 14) 20 "Drop") (mark (at 13 26) 14) (actual (Named (at 13 54)
    0 NoMore) (actual (Named (at 13 63) 18 NoMore) NoMore))) (More (Incomplete (declared (at 14 6) 21 "Node")) (More
    (TypeDecl (declared (at 14 17) 22 "Tree") (Access (mark (at 14 32) 21)) (at 14 36)) (More (TypeDecl (declared (at 14
    43) 21 "Node") (Record (More (Components (More (declared (at 14 58) 0 "Left") (More (declared (at 14 64) 0 "Right")
    NoMore)) (mark (at 14 72) 22)) NoMore)) (at 14 88)) (More (Objects (More (declared (at 15 1) 23 "T") (More (declared
    (at 15 4) 24 "U") NoMore)) false (Plain (mark (at 15 8) 22)) NoMore) NoMore)))))))))) (More (Block (at 17 1) (More
    (Objects (More (declared (at 17 9) 25 "B") NoMore) false (Anonymous (at 17 13) false (mark (at 17 20) 21)) (More
    (Named (at 17 28) 23 NoMore) NoMore)) NoMore) (More (Assign (Named (at 18 1) 24 NoMore) (Named (at 18 6) 25 (More
    (selected "Left") NoMore))) (More (Assign (Named (at 18 14) 25 NoMore) (Named (at 18 19) 25 (More (selected "Right")
    NoMore))) NoMore)) (at 18 28)) NoMore) (at 19 1) ∷ [])

abbrev pub recursion : Program
recursion = program 23 (Package (declared (at 1 9) 15 "P") (More (TypeDecl (declared (at 2 6) 16 "Ptr") (Access (mark
    (at 2 20) 0)) (at 2 27)) (More (Objects (More (declared (at 2 29) 17 "G") NoMore) false (Plain (mark (at 2 33) 16))
    NoMore) (More (SubDecl (Front (declared (at 3 11) 18 "W") (More (Formals (More (declared (at 3 14) 19 "N") NoMore)
    mode.In (Plain (mark (at 3 18) 0))) NoMore) NoMore)) NoMore))) NoMore ∷ PackageBody (declared (at 5 14) 15 "P")
    (More (SubBody (Front (declared (at 6 11) 18 "W") (More (Formals (More (declared (at 6 14) 20 "N") NoMore) mode.In
    (Plain (mark (at 6 18) 0))) NoMore) NoMore) NoMore (More (If (at 7 1) (More (Branch (at 7 1) (Binary (at 7 4)
    operator.Greater (Named (at 7 4) 20 NoMore) (Number (at 7 8) 0)) (More (Call (Named (at 7 15) 18 (More (Applied
    (actual (Binary (at 7 18) operator.Subtract (Named (at 7 18) 20 NoMore) (Number (at 7 22) 1)) NoMore)) NoMore)))
    NoMore)) NoMore) (More (Assign (Named (at 7 31) 17 NoMore) (New (at 7 36) (mark (at 7 40) 0) (actual (Named (at 7
    49) 20 NoMore) NoMore))) NoMore)) NoMore) (at 8 1)) NoMore) ∷ SubBody (Front (declared (at 11 11) 21 "Main") NoMore
    NoMore) (More (Objects (More (declared (at 11 19) 22 "C") NoMore) false (Anonymous (at 11 23) true (mark (at 11 39)
    0)) (More (Named (at 11 50) 17 NoMore) NoMore)) NoMore) (More (Call (Named (at 12 1) 18 (More (Applied (actual
    (Number (at 12 4) 3) NoMore)) NoMore))) NoMore) (at 13 1) ∷ [])

abbrev pub short_call : Program
short_call = program 22 (Package (declared (at 1 9) 15 "P") (More (SubDecl (Front (declared (at 2 10) 16 "F") (More
    (Formals (More (declared (at 2 13) 17 "N") NoMore) mode.In (Plain (mark (at 2 17) 0))) NoMore) (More (Plain (mark
    (at 2 33) 0)) NoMore))) NoMore) NoMore ∷ PackageBody (declared (at 4 14) 15 "P") (More (SubBody (Front (declared (at
    5 10) 16 "F") (More (Formals (More (declared (at 5 13) 18 "N") NoMore) mode.In (Plain (mark (at 5 17) 0))) NoMore)
    (More (Plain (mark (at 5 33) 0)) NoMore)) NoMore (More (Return (at 5 50) (More (Named (at 5 57) 18 NoMore) NoMore))
    NoMore) (at 5 60)) NoMore) ∷ SubBody (Front (declared (at 8 11) 19 "Main") NoMore NoMore) (More (Objects (More
    (declared (at 9 1) 20 "B") NoMore) false (Plain (mark (at 9 5) 3)) NoMore) (More (Objects (More (declared (at 9 14)
    21 "N") NoMore) false (Plain (mark (at 9 18) 0)) NoMore) NoMore)) (More (Assign (Named (at 11 1) 20 NoMore) (Binary
    (at 11 6) operator.AndThen (Binary (at 11 6) operator.Greater (Named (at 11 6) 21 NoMore) (Number (at 11 10) 0))
    (Binary (at 11 21) operator.Greater (Named (at 11 21) 16 (More (Applied (actual (Binary (at 11 24) operator.Add
    (Named (at 11 24) 21 NoMore) (Named (at 11 28) 16 (More (Applied (actual (Number (at 11 31) 1) NoMore)) NoMore)))
    NoMore)) NoMore)) (Number (at 11 37) 2)))) (More (While (at 12 1) (Binary (at 12 7) operator.OrElse (Named (at 12 7)
    20 NoMore) (Binary (at 12 17) operator.Equal (Named (at 12 17) 16 (More (Applied (actual (Number (at 12 20) 2)
    NoMore)) NoMore)) (Number (at 12 25) 3))) (More (Assign (Named (at 12 32) 20 NoMore) (Named (at 12 37) 4 NoMore))
    NoMore)) NoMore)) (at 13 1) ∷ [])

abbrev pub traversal : Program
traversal = program 25 (Package (declared (at 1 9) 15 "P") (More (Incomplete (declared (at 2 6) 16 "Cell")) (More
    (TypeDecl (declared (at 2 17) 17 "List") (Access (mark (at 2 32) 16)) (at 2 36)) (More (TypeDecl (declared (at 3 6)
    16 "Cell") (Record (More (Components (More (declared (at 3 21) 0 "Value") NoMore) (mark (at 3 29) 0)) (More
    (Components (More (declared (at 3 38) 0 "Next") NoMore) (mark (at 3 45) 17)) NoMore))) (at 3 61)) (More (SubDecl
    (Front (declared (at 4 10) 18 "Last") (More (Formals (More (declared (at 4 16) 19 "L") NoMore) mode.In (Anonymous
    (at 4 20) false (mark (at 4 27) 16))) NoMore) (More (Anonymous (at 4 40) false (mark (at 4 47) 16)) NoMore)))
    NoMore)))) NoMore ∷ PackageBody (declared (at 6 14) 15 "P") (More (SubBody (Front (declared (at 7 10) 18 "Last")
    (More (Formals (More (declared (at 7 16) 20 "L") NoMore) mode.In (Anonymous (at 7 20) false (mark (at 7 27) 16)))
    NoMore) (More (Anonymous (at 7 40) false (mark (at 7 47) 16)) NoMore)) (More (Objects (More (declared (at 8 1) 21
    "B") NoMore) false (Anonymous (at 8 5) false (mark (at 8 12) 16)) (More (Named (at 8 20) 20 NoMore) NoMore)) NoMore)
    (More (While (at 9 1) (Binary (at 9 7) operator.NotEqual (Named (at 9 7) 21 (More (selected "Next") NoMore)) (Null
    (at 9 17))) (More (Assign (Named (at 9 27) 21 NoMore) (Named (at 9 32) 21 (More (selected "Next") NoMore))) NoMore))
    (More (Return (at 9 50) (More (Named (at 9 57) 21 NoMore) NoMore)) NoMore)) (at 9 60)) NoMore) ∷ SubBody (Front
    (declared (at 12 11) 22 "Main") NoMore NoMore) (More (Objects (More (declared (at 12 19) 23 "X") NoMore) false
    (Plain (mark (at 12 23) 17)) (More (New (at 12 31) (mark (at 12 35) 16) (actual (Aggregate (at 12 40) (actual
    (Number (at 12 41) 1) (actual (New (at 12 44) (mark (at 12 48) 16) (actual (Aggregate (at 12 53) (actual (Number (at
    12 54) 2) (actual (Null (at 12 57)) NoMore))) NoMore)) NoMore))) NoMore)) NoMore)) NoMore) (More (Block (at 13 1)
    (More (Objects (More (declared (at 13 9) 24 "B") NoMore) false (Anonymous (at 13 13) false (mark (at 13 20) 16))
    (More (Named (at 13 28) 18 (More (Applied (actual (Named (at 13 34) 23 NoMore) NoMore)) NoMore)) NoMore)) NoMore)
    (More (Assign (Named (at 13 44) 24 (More (selected "Value") NoMore)) (Number (at 13 55) 9)) NoMore) (at 13 58))
    (More (Call (Named (at 14 1) 9 (More (Applied (actual (Named (at 14 11) 0 (More (Attr attribute.Image) (More
    (Applied (actual (Named (at 14 26) 23 (More (selected "Next") (More (selected "Value") NoMore))) NoMore)) NoMore)))
    NoMore)) NoMore))) NoMore)) (at 15 1) ∷ [])

abbrev pub two_blocks : Program
two_blocks = program 27 (SubBody (Front (declared (at 4 11) 15 "Main") NoMore NoMore) (More (Incomplete (declared (at 5
    9) 16 "Cell")) (More (TypeDecl (declared (at 6 9) 17 "List") (Access (mark (at 6 24) 16)) (at 6 28)) (More (TypeDecl
    (declared (at 7 9) 16 "Cell") (Record (More (Components (More (declared (at 8 7) 0 "Value") NoMore) (mark (at 8 15)
    0)) (More (Components (More (declared (at 9 7) 0 "Next") NoMore) (mark (at 9 14) 17)) NoMore))) (at 10 14)) (More
    (TypeDecl (declared (at 11 9) 18 "Int_Ptr") (Access (mark (at 11 27) 0)) (at 11 34)) (More (Instance (declared (at
    12 14) 19 "Free") (mark (at 12 26) 14) (actual (Named (at 12 54) 16 NoMore) (actual (Named (at 12 60) 17 NoMore)
    NoMore))) (More (Instance (declared (at 13 14) 20 "Drop") (mark (at 13 26) 14) (actual (Named (at 13 54) 0 NoMore)
    (actual (Named (at 13 63) 18 NoMore) NoMore))) (More (Objects (More (declared (at 14 1) 21 "X") NoMore) false (Plain
    (mark (at 14 5) 17)) NoMore) (More (Objects (More (declared (at 15 1) 22 "N") NoMore) false (Plain (mark (at 15 5)
    0)) NoMore) NoMore)))))))) (More (Block (at 17 1) (More (Objects (More (declared (at 17 9) 23 "Y") NoMore) false
    (Plain (mark (at 17 13) 17)) NoMore) (More (Objects (More (declared (at 17 19) 24 "M") NoMore) false (Plain (mark
    (at 17 23) 0)) NoMore) NoMore)) (More (Block (at 18 1) NoMore (More (Block (at 19 1) (More (Objects (More (declared
    (at 19 9) 25 "Z") NoMore) false (Plain (mark (at 19 13) 17)) NoMore) (More (Objects (More (declared (at 19 19) 26
    "K") NoMore) false (Plain (mark (at 19 23) 0)) NoMore) NoMore)) (More (If (at 20 1) (More (Branch (at 20 1) (Binary
    (at 20 4) operator.Equal (Named (at 20 4) 22 NoMore) (Named (at 20 8) 24 NoMore)) (More (Return (at 20 15) NoMore)
    NoMore)) NoMore) NoMore) (More (Assign (Named (at 21 1) 26 NoMore) (Number (at 21 6) 1)) NoMore)) (at 22 1)) NoMore)
    (at 22 6)) NoMore) (at 22 11)) NoMore) (at 23 1) ∷ [])

abbrev pub two_exits : Program
two_exits = program 23 (SubBody (Front (declared (at 4 11) 15 "Main") NoMore NoMore) (More (Incomplete (declared (at 5
    9) 16 "Cell")) (More (TypeDecl (declared (at 6 9) 17 "List") (Access (mark (at 6 24) 16)) (at 6 28)) (More (TypeDecl
    (declared (at 7 9) 16 "Cell") (Record (More (Components (More (declared (at 8 7) 0 "Value") NoMore) (mark (at 8 15)
    0)) (More (Components (More (declared (at 9 7) 0 "Next") NoMore) (mark (at 9 14) 17)) NoMore))) (at 10 14)) (More
    (TypeDecl (declared (at 11 9) 18 "Int_Ptr") (Access (mark (at 11 27) 0)) (at 11 34)) (More (Instance (declared (at
    12 14) 19 "Free") (mark (at 12 26) 14) (actual (Named (at 12 54) 16 NoMore) (actual (Named (at 12 60) 17 NoMore)
    NoMore))) (More (Instance (declared (at 13 14) 20 "Drop") (mark (at 13 26) 14) (actual (Named (at 13 54) 0 NoMore)
    (actual (Named (at 13 63) 18 NoMore) NoMore))) (More (Objects (More (declared (at 14 1) 21 "L") NoMore) false (Plain
    (mark (at 14 5) 17)) (More (New (at 14 13) (mark (at 14 17) 16) (actual (Aggregate (at 14 22) (actual (Number (at 14
    23) 1) (actual (Null (at 14 26)) NoMore))) NoMore)) NoMore)) NoMore))))))) (More (Loop (at 16 1) (More (Block (at 16
    6) (More (Objects (More (declared (at 16 14) 22 "B") NoMore) false (Anonymous (at 16 18) false (mark (at 16 25) 16))
    (More (Named (at 16 33) 21 NoMore) NoMore)) NoMore) (More (Exit (at 16 42) (More (Binary (at 16 52) operator.Equal
    (Named (at 16 52) 22 NoMore) (Null (at 16 56))) NoMore)) (More (Assign (Named (at 16 62) 21 (More (selected "Value")
    NoMore)) (Number (at 16 73) 2)) (More (Exit (at 16 76) NoMore) NoMore))) (at 16 82)) NoMore)) (More (Assign (Named
    (at 17 1) 21 (More (selected "Value") NoMore)) (Number (at 17 12) 3)) NoMore)) (at 18 1) ∷ [])

abbrev pub views : Program
views = program 25 (SubBody (Front (declared (at 4 11) 15 "Main") NoMore NoMore) (More (Incomplete (declared (at 5 9) 16
    "Cell")) (More (TypeDecl (declared (at 6 9) 17 "List") (Access (mark (at 6 24) 16)) (at 6 28)) (More (TypeDecl
    (declared (at 7 9) 16 "Cell") (Record (More (Components (More (declared (at 8 7) 0 "Value") NoMore) (mark (at 8 15)
    0)) (More (Components (More (declared (at 9 7) 0 "Next") NoMore) (mark (at 9 14) 17)) NoMore))) (at 10 14)) (More
    (TypeDecl (declared (at 11 9) 18 "Int_Ptr") (Access (mark (at 11 27) 0)) (at 11 34)) (More (Instance (declared (at
    12 14) 19 "Free") (mark (at 12 26) 14) (actual (Named (at 12 54) 16 NoMore) (actual (Named (at 12 60) 17 NoMore)
    NoMore))) (More (Instance (declared (at 13 14) 20 "Drop") (mark (at 13 26) 14) (actual (Named (at 13 54) 0 NoMore)
    (actual (Named (at 13 63) 18 NoMore) NoMore))) (More (Objects (More (declared (at 14 1) 21 "L") (More (declared (at
    14 4) 22 "M") NoMore)) false (Plain (mark (at 14 8) 17)) NoMore) NoMore))))))) (More (Block (at 16 1) (More (Objects
    (More (declared (at 16 9) 23 "C") NoMore) false (Anonymous (at 16 13) true (mark (at 16 29) 16)) (More (Named (at 16
    37) 21 NoMore) NoMore)) NoMore) (More (Assign (Named (at 17 1) 23 (More (selected "Value") NoMore)) (Number (at 17
    12) 1)) (More (Block (at 18 1) (More (Objects (More (declared (at 18 9) 24 "B") NoMore) false (Anonymous (at 18 13)
    false (mark (at 18 20) 16)) (More (Named (at 18 28) 22 NoMore) NoMore)) NoMore) (More (Assign (Named (at 18 37) 23
    NoMore) (Named (at 18 42) 24 (More (selected "Next") NoMore))) NoMore) (at 18 50)) NoMore)) (at 19 1)) NoMore) (at
    20 1) ∷ [])
