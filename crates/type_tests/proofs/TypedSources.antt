-- Near neighbours, which break no rule of typing.
--
-- tools/tree_terms.py makes this of the sources that data/cases.txt has under its name.
use Rattle.std.proofs.Common.{refl, [], ◌∷◌}
use Rattle.std.specs.Prelude.{false, true}
use Rattle.resolved_tree.specs.declared.operator.Attribute.TheVariants as attribute
use Rattle.place_names.specs.declared.act.Mode.TheVariants as mode
use Rattle.resolved_tree.specs.declared.operator.Operator.TheVariants as operator
use Rattle.resolved_tree.specs.declared.operator.UnaryOperator.TheVariants as unary
use Rattle.resolved_tree.specs.Trees.{Access, Aggregate, Anonymous, Applied, Array, Assign, Attr, Binary, Block, Bounds, Call, Case, Components, ConstrainedSubtype, Enumeration, For, Formals, Front, Incomplete, Interval, Marked, More, Named, New, NoMore, Null, Number, Numbers, Objects, Others, OthersChoice, Package, PackageBody, Parens, Plain, Private, Record, Return, Skip, SubBody, SubDecl, TypeDecl, Unary, Value, When}
use Rattle.type_tests.proofs.ResolvedTrees.{actual, at, declared, mark, program}
use Rattle.type_tests.proofs.TypeRules.{IsTyped, typing}

typed_1 : IsTyped (program 17 (SubBody (Front (declared (at 1 11) 15 "Main") NoMore NoMore) (More (Objects (More
    (declared (at 1 19) 16 "X") NoMore) false (Plain (mark (at 1 23) 0)) NoMore) NoMore) (More (Assign (Named (at 1 38)
    16 NoMore) (Number (at 1 43) 1000)) (More (Assign (Named (at 1 50) 16 NoMore) (Number (at 1 55) 1)) (More (Assign
    (Named (at 1 82) 16 NoMore) (Unary (at 1 87) unary.Minus (Number (at 1 88) 2147483648))) NoMore))) (at 1 100) ∷ []))
unfolding typing
typed_1 = refl

typed_2 : IsTyped (program 16 (SubBody (Front (declared (at 1 11) 15 "Main") NoMore NoMore) NoMore (More (Skip (at 1
    28)) NoMore) (at 2 4) ∷ []))
unfolding typing
typed_2 = refl

typed_3 : IsTyped (program 18 (SubBody (Front (declared (at 1 11) 15 "Main") NoMore NoMore) (More (Objects (More
    (declared (at 1 19) 16 "X") NoMore) false (Plain (mark (at 1 23) 0)) NoMore) NoMore) (More (Block (at 1 38) (More
    (Objects (More (declared (at 1 46) 17 "X") NoMore) false (Plain (mark (at 1 50) 0)) (More (Named (at 1 61) 16
    NoMore) NoMore)) NoMore) (More (Assign (Named (at 1 70) 17 NoMore) (Number (at 1 75) 1)) NoMore) (at 1 78)) NoMore)
    (at 1 83) ∷ []))
unfolding typing
typed_3 = refl

typed_4 : IsTyped (program 16 (SubBody (Front (declared (at 1 29) 15 "Main") NoMore NoMore) NoMore (More (Call (Named
    (at 1 43) 10 NoMore)) NoMore) (at 1 65) ∷ []))
unfolding typing
typed_4 = refl

typed_5 : IsTyped (program 18 (Package (declared (at 1 9) 15 "P") (More (Objects (More (declared (at 1 14) 16 "X")
    NoMore) false (Plain (mark (at 1 18) 0)) NoMore) NoMore) NoMore ∷ SubBody (Front (declared (at 1 52) 17 "Main")
    NoMore NoMore) NoMore (More (Assign (Named (at 1 66) 16 NoMore) (Number (at 1 73) 1)) NoMore) (at 1 76) ∷ []))
unfolding typing
typed_5 = refl

typed_6 : IsTyped (program 18 (Package (declared (at 1 9) 15 "P") (More (SubDecl (Front (declared (at 1 24) 16 "Q")
    NoMore NoMore)) NoMore) (More (Objects (More (declared (at 1 35) 17 "X") NoMore) false (Plain (mark (at 1 39) 0))
    NoMore) NoMore) ∷ PackageBody (declared (at 1 68) 15 "P") (More (SubBody (Front (declared (at 1 83) 16 "Q") NoMore
    NoMore) NoMore (More (Assign (Named (at 1 94) 17 NoMore) (Number (at 1 101) 1)) (More (Assign (Named (at 1 104) 17
    NoMore) (Number (at 1 109) 2)) NoMore)) (at 1 112)) NoMore) ∷ []))
unfolding typing
typed_6 = refl

typed_7 : IsTyped (program 16 (SubBody (Front (declared (at 1 11) 15 "Main") NoMore NoMore) NoMore (More (Skip (at 1
    43)) NoMore) (at 1 49) ∷ []))
unfolding typing
typed_7 = refl

typed_8 : IsTyped (program 19 (SubBody (Front (declared (at 1 11) 15 "Main") NoMore NoMore) (More (TypeDecl (declared
    (at 1 24) 16 "Ptr") (Access (mark (at 1 38) 0)) (at 1 45)) (More (Objects (More (declared (at 1 47) 17 "X") NoMore)
    false (Plain (mark (at 1 51) 3)) NoMore) (More (Objects (More (declared (at 1 60) 18 "A") NoMore) false (Plain (mark
    (at 1 64) 16)) NoMore) NoMore))) (More (Assign (Named (at 1 75) 17 NoMore) (Binary (at 1 80) operator.NotEqual
    (Named (at 1 80) 18 NoMore) (Null (at 1 85)))) (More (Assign (Named (at 1 91) 17 NoMore) (Binary (at 1 96)
    operator.Equal (Null (at 1 96)) (Named (at 1 103) 18 NoMore))) NoMore)) (at 1 106) ∷ []))
unfolding typing
typed_8 = refl

typed_9 : IsTyped (program 20 (SubBody (Front (declared (at 1 11) 15 "Main") NoMore NoMore) (More (TypeDecl (declared
    (at 1 24) 16 "E") (Enumeration (More (declared (at 1 30) 17 "A") (More (declared (at 1 33) 18 "B") NoMore))) (at 1
    35)) (More (Objects (More (declared (at 1 37) 19 "X") NoMore) false (Plain (mark (at 1 41) 3)) NoMore) NoMore))
    (More (Assign (Named (at 1 56) 19 NoMore) (Binary (at 1 61) operator.Less (Named (at 1 61) 17 NoMore) (Named (at 1
    65) 18 NoMore))) (More (Assign (Named (at 1 68) 19 NoMore) (Binary (at 1 73) operator.Greater (Named (at 1 73) 5
    NoMore) (Named (at 1 80) 4 NoMore))) (More (Assign (Named (at 1 87) 19 NoMore) (Binary (at 1 92) operator.Xor
    (Parens (at 1 92) (Binary (at 1 93) operator.Equal (Named (at 1 93) 17 NoMore) (Named (at 1 97) 18 NoMore))) (Parens
    (at 1 104) (Binary (at 1 105) operator.GreaterEqual (Number (at 1 105) 1) (Number (at 1 110) 2))))) NoMore))) (at 1
    114) ∷ []))
unfolding typing
typed_9 = refl

typed_10 : IsTyped (program 22 (SubBody (Front (declared (at 1 11) 15 "Main") NoMore NoMore) (More (TypeDecl (declared
    (at 1 24) 16 "E") (Enumeration (More (declared (at 1 30) 17 "A") (More (declared (at 1 33) 18 "B") NoMore))) (at 1
    35)) (More (Objects (More (declared (at 1 37) 19 "X") NoMore) false (Plain (mark (at 1 41) 16)) NoMore) NoMore))
    (More (For (at 1 50) (declared (at 1 54) 20 "I") false (Bounds (Named (at 1 59) 17 NoMore) (Named (at 1 64) 18
    NoMore)) (More (Assign (Named (at 1 71) 19 NoMore) (Named (at 1 76) 20 NoMore)) NoMore)) (More (For (at 1 89)
    (declared (at 1 93) 21 "I") false (Marked (mark (at 1 98) 16)) (More (Assign (Named (at 1 105) 19 NoMore) (Named (at
    1 110) 21 NoMore)) NoMore)) NoMore)) (at 1 123) ∷ []))
unfolding typing
typed_10 = refl

typed_11 : IsTyped (program 18 (Package (declared (at 1 9) 15 "P") (More (Private (declared (at 1 19) 16 "T")) NoMore)
    (More (Incomplete (declared (at 1 46) 17 "Q")) (More (TypeDecl (declared (at 1 54) 16 "T") (Access (mark (at 1 66)
    17)) (at 1 67)) (More (TypeDecl (declared (at 1 74) 17 "Q") (Record (More (Components (More (declared (at 1 86) 0
    "A") NoMore) (mark (at 1 90) 16)) NoMore)) (at 1 103)) NoMore))) ∷ []))
unfolding typing
typed_11 = refl

typed_12 : IsTyped (program 17 (SubBody (Front (declared (at 1 11) 15 "Main") NoMore NoMore) (More (Objects (More
    (declared (at 1 19) 16 "X") NoMore) false (Plain (mark (at 1 23) 0)) NoMore) NoMore) (More (Case (at 1 38) (Named
    (at 1 43) 16 NoMore) (More (When (More (Interval (Number (at 1 53) 3) (Number (at 1 58) 1)) (More (Value (Number (at
    1 62) 2)) NoMore)) (More (Skip (at 1 67)) NoMore)) (More (When (More (OthersChoice (at 1 78)) NoMore) (More (Skip
    (at 1 88)) NoMore)) NoMore))) NoMore) (at 1 104) ∷ []))
unfolding typing
typed_12 = refl

typed_13 : IsTyped (program 18 (SubBody (Front (declared (at 1 11) 15 "Main") NoMore NoMore) (More (ConstrainedSubtype
    (declared (at 1 27) 16 "S") (mark (at 1 32) 0) (Number (at 1 46) 1) (Number (at 1 51) 2)) (More (Objects (More
    (declared (at 1 54) 17 "X") NoMore) false (Plain (mark (at 1 58) 16)) NoMore) NoMore)) (More (Case (at 1 67) (Named
    (at 1 72) 17 NoMore) (More (When (More (Interval (Number (at 1 82) 1) (Number (at 1 87) 2)) NoMore) (More (Skip (at
    1 92)) NoMore)) (More (When (More (Value (Number (at 1 103) 7)) NoMore) (More (Skip (at 1 108)) NoMore)) NoMore)))
    NoMore) (at 1 124) ∷ []))
unfolding typing
typed_13 = refl

typed_14 : IsTyped (program 16 (SubBody (Front (declared (at 1 11) 15 "Main") NoMore NoMore) NoMore (More (Case (at 1
    26) (Named (at 1 31) 5 NoMore) (More (When (More (Value (Named (at 1 44) 5 NoMore)) NoMore) (More (Skip (at 1 52))
    NoMore)) (More (When (More (Value (Named (at 1 63) 4 NoMore)) NoMore) (More (Skip (at 1 72)) NoMore)) NoMore)))
    NoMore) (at 1 88) ∷ []))
unfolding typing
typed_14 = refl

typed_15 : IsTyped (program 18 (SubBody (Front (declared (at 1 11) 15 "Main") NoMore NoMore) (More (TypeDecl (declared
    (at 1 24) 16 "A") (Array (Bounds (Number (at 1 36) 1) (Number (at 1 41) 2)) (mark (at 1 47) 0)) (at 1 54)) (More
    (Objects (More (declared (at 1 56) 17 "X") NoMore) false (Plain (mark (at 1 60) 16)) NoMore) NoMore)) (More (Assign
    (Named (at 1 69) 17 NoMore) (Aggregate (at 1 74) (actual (Number (at 1 75) 1) (actual (Number (at 1 78) 2)
    NoMore)))) (More (Assign (Named (at 1 82) 17 NoMore) (Others (at 1 87) (Number (at 1 98) 1))) NoMore)) (at 1 102) ∷
    []))
unfolding typing
typed_15 = refl

typed_16 : IsTyped (program 20 (SubBody (Front (declared (at 1 11) 15 "Main") NoMore NoMore) (More (TypeDecl (declared
    (at 1 24) 16 "Ptr") (Access (mark (at 1 38) 0)) (at 1 45)) (More (TypeDecl (declared (at 1 52) 17 "Q") (Access (mark
    (at 1 64) 16)) (at 1 67)) (More (Objects (More (declared (at 1 69) 18 "X") NoMore) false (Plain (mark (at 1 73) 17))
    NoMore) (More (Objects (More (declared (at 1 76) 19 "Y") NoMore) false (Plain (mark (at 1 80) 16)) NoMore)
    NoMore)))) (More (Assign (Named (at 1 91) 18 NoMore) (New (at 1 96) (mark (at 1 100) 16) (actual (Named (at 1 105)
    19 NoMore) NoMore))) NoMore) (at 1 109) ∷ []))
unfolding typing
typed_16 = refl

typed_17 : IsTyped (program 21 (Package (declared (at 1 9) 15 "P") (More (TypeDecl (declared (at 1 19) 16 "Ptr") (Access
    (mark (at 1 33) 0)) (at 1 40)) (More (SubDecl (Front (declared (at 1 52) 17 "Q") (More (Formals (More (declared (at
    1 55) 18 "X") NoMore) mode.In (Plain (mark (at 1 59) 16))) NoMore) NoMore)) NoMore)) NoMore ∷ PackageBody (declared
    (at 1 85) 15 "P") (More (SubBody (Front (declared (at 1 100) 17 "Q") (More (Formals (More (declared (at 1 103) 19
    "X") NoMore) mode.In (Plain (mark (at 1 107) 16))) NoMore) NoMore) NoMore (More (Skip (at 1 121)) NoMore) (at 1
    127)) NoMore) ∷ SubBody (Front (declared (at 1 166) 20 "Main") NoMore NoMore) NoMore (More (Call (Named (at 1 180)
    17 (More (Applied (actual (Null (at 1 183)) NoMore)) NoMore))) NoMore) (at 1 190) ∷ []))
unfolding typing
typed_17 = refl

typed_18 : IsTyped (program 20 (SubBody (Front (declared (at 1 11) 15 "Main") NoMore NoMore) (More (TypeDecl (declared
    (at 1 24) 16 "Ptr") (Access (mark (at 1 38) 0)) (at 1 45)) (More (Objects (More (declared (at 1 47) 17 "Y") NoMore)
    false (Plain (mark (at 1 51) 16)) NoMore) (More (Objects (More (declared (at 1 56) 18 "X") NoMore) false (Anonymous
    (at 1 60) true (mark (at 1 76) 0)) (More (Named (at 1 87) 17 NoMore) NoMore)) (More (Objects (More (declared (at 1
    90) 19 "Z") NoMore) false (Anonymous (at 1 94) true (mark (at 1 110) 0)) (More (Named (at 1 121) 18 NoMore) NoMore))
    NoMore)))) (More (Skip (at 1 130)) NoMore) (at 1 136) ∷ []))
unfolding typing
typed_18 = refl

typed_19 : IsTyped (program 19 (Package (declared (at 1 9) 15 "P") (More (SubDecl (Front (declared (at 1 23) 16 "F")
    (More (Formals (More (declared (at 1 26) 17 "X") NoMore) mode.In (Anonymous (at 1 30) false (mark (at 1 37) 0)))
    NoMore) (More (Anonymous (at 1 53) false (mark (at 1 60) 0)) NoMore))) NoMore) NoMore ∷ PackageBody (declared (at 1
    89) 15 "P") (More (SubBody (Front (declared (at 1 103) 16 "F") (More (Formals (More (declared (at 1 106) 18 "X")
    NoMore) mode.In (Anonymous (at 1 110) false (mark (at 1 117) 0))) NoMore) (More (Anonymous (at 1 133) false (mark
    (at 1 140) 0)) NoMore)) NoMore (More (Return (at 1 157) (More (Named (at 1 164) 18 NoMore) NoMore)) NoMore) (at 1
    167)) NoMore) ∷ []))
unfolding typing
typed_19 = refl

typed_20 : IsTyped (program 18 (SubBody (Front (declared (at 1 11) 15 "Main") NoMore NoMore) (More (Numbers (More
    (declared (at 1 19) 16 "N") NoMore) (Number (at 1 35) 3)) (More (ConstrainedSubtype (declared (at 1 46) 17 "S")
    (mark (at 1 51) 0) (Number (at 1 65) 1) (Named (at 1 70) 16 NoMore)) NoMore)) (More (Skip (at 1 79)) NoMore) (at 1
    85) ∷ []))
unfolding typing
typed_20 = refl

typed_21 : IsTyped (program 17 (SubBody (Front (declared (at 1 11) 15 "Main") NoMore NoMore) (More (Numbers (More
    (declared (at 1 19) 16 "N") NoMore) (Binary (at 1 35) operator.Add (Unary (at 1 35) unary.Minus (Number (at 1 36)
    2147483648)) (Number (at 1 49) 1))) NoMore) (More (Skip (at 1 58)) NoMore) (at 1 64) ∷ []))
unfolding typing
typed_21 = refl

typed_22 : IsTyped (program 17 (SubBody (Front (declared (at 1 11) 15 "Main") NoMore NoMore) (More (ConstrainedSubtype
    (declared (at 1 27) 16 "S") (mark (at 1 32) 1) (Number (at 1 46) 3) (Unary (at 1 51) unary.Minus (Number (at 1 52)
    1))) NoMore) (More (Skip (at 1 61)) NoMore) (at 1 67) ∷ []))
unfolding typing
typed_22 = refl

typed_23 : IsTyped (program 17 (SubBody (Front (declared (at 1 11) 15 "Main") NoMore NoMore) (More (TypeDecl (declared
    (at 1 24) 16 "A") (Array (Bounds (Named (at 1 36) 2 (More (Attr attribute.First) NoMore)) (Number (at 1 54) 3))
    (mark (at 1 60) 0)) (at 1 67)) NoMore) (More (Skip (at 1 75)) NoMore) (at 1 81) ∷ []))
unfolding typing
typed_23 = refl
