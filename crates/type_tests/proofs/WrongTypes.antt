-- An expression, a name or a mark isn't what its place demands: K1.
--
-- tools/tree_terms.py makes this of the sources that data/cases.txt has under its name.
use Rattle.std.proofs.Common.{refl, [], ◌∷◌}
use Rattle.std.specs.Prelude.{false}
use Rattle.resolved_tree.specs.declared.operator.Attribute.TheVariants as attribute
use Rattle.place_names.specs.declared.act.Mode.TheVariants as mode
use Rattle.resolved_tree.specs.declared.operator.Operator.TheVariants as operator
use Rattle.resolved_tree.specs.declared.operator.UnaryOperator.TheVariants as unary
use Rattle.resolved_tree.specs.Trees.{Access, All, Anonymous, Applied, Array, Assign, Attr, Binary, Bounds, Call, Case, Components, Formals, Front, Incomplete, More, Named, New, NoMore, Null, Number, Objects, OthersChoice, Package, PackageBody, Plain, Private, Record, Return, Skip, SubBody, SubDecl, TypeDecl, Unary, When}
use Rattle.type_tests.proofs.ResolvedTrees.{actual, at, declared, mark, program, selected, string}
use Rattle.type_tests.proofs.TypeRules.{BreaksSentence, typing}

wrong_type_1 : BreaksSentence 1 (at 1 43) (program 17 (SubBody (Front (declared (at 1 11) 15 "Main") NoMore NoMore)
    (More (Objects (More (declared (at 1 19) 16 "X") NoMore) false (Plain (mark (at 1 23) 0)) NoMore) NoMore) (More
    (Assign (Named (at 1 38) 16 NoMore) (Named (at 1 43) 5 NoMore)) NoMore) (at 1 49) ∷ []))
unfolding typing
wrong_type_1 = refl

wrong_type_2 : BreaksSentence 1 (at 1 47) (program 17 (SubBody (Front (declared (at 1 11) 15 "Main") NoMore NoMore)
    (More (Objects (More (declared (at 1 19) 16 "X") NoMore) false (Plain (mark (at 1 23) 0)) NoMore) NoMore) (More
    (Assign (Named (at 1 38) 16 NoMore) (Binary (at 1 43) operator.Add (Number (at 1 43) 1) (Named (at 1 47) 5 NoMore)))
    NoMore) (at 1 53) ∷ []))
unfolding typing
wrong_type_2 = refl

wrong_type_3 : BreaksSentence 1 (at 1 47) (program 17 (SubBody (Front (declared (at 1 11) 15 "Main") NoMore NoMore)
    (More (Objects (More (declared (at 1 19) 16 "X") NoMore) false (Plain (mark (at 1 23) 3)) NoMore) NoMore) (More
    (Assign (Named (at 1 38) 16 NoMore) (Unary (at 1 43) unary.Not (Number (at 1 47) 1))) NoMore) (at 1 50) ∷ []))
unfolding typing
wrong_type_3 = refl

wrong_type_4 : BreaksSentence 1 (at 1 31) (program 16 (SubBody (Front (declared (at 1 11) 15 "Main") NoMore NoMore)
    NoMore (More (Case (at 1 26) (Null (at 1 31)) (More (When (More (OthersChoice (at 1 44)) NoMore) (More (Skip (at 1
    54)) NoMore)) NoMore)) NoMore) (at 1 70) ∷ []))
unfolding typing
wrong_type_4 = refl

wrong_type_5 : BreaksSentence 1 (at 1 36) (program 18 (SubBody (Front (declared (at 1 11) 15 "Main") NoMore NoMore)
    (More (Objects (More (declared (at 1 19) 16 "V") NoMore) false (Plain (mark (at 1 23) 0)) NoMore) (More (Objects
    (More (declared (at 1 32) 17 "X") NoMore) false (Plain (mark (at 1 36) 16)) NoMore) NoMore)) (More (Skip (at 1 45))
    NoMore) (at 1 51) ∷ []))
unfolding typing
wrong_type_5 = refl

wrong_type_6 : BreaksSentence 1 (at 1 43) (program 17 (SubBody (Front (declared (at 1 11) 15 "Main") NoMore NoMore)
    (More (Objects (More (declared (at 1 19) 16 "X") NoMore) false (Plain (mark (at 1 23) 0)) NoMore) NoMore) (More
    (Assign (Named (at 1 38) 16 NoMore) (Named (at 1 43) 0 NoMore)) NoMore) (at 1 52) ∷ []))
unfolding typing
wrong_type_6 = refl

wrong_type_7 : BreaksSentence 1 (at 1 95) (program 20 (SubBody (Front (declared (at 1 11) 15 "Main") NoMore NoMore)
    (More (TypeDecl (declared (at 1 24) 16 "R") (Record (More (Components (More (declared (at 1 36) 0 "A") NoMore) (mark
    (at 1 40) 0)) NoMore)) (at 1 59)) (More (Objects (More (declared (at 1 61) 17 "X") (More (declared (at 1 64) 18 "Y")
    NoMore)) false (Plain (mark (at 1 68) 16)) NoMore) (More (Objects (More (declared (at 1 71) 19 "B") NoMore) false
    (Plain (mark (at 1 75) 3)) NoMore) NoMore))) (More (Assign (Named (at 1 90) 19 NoMore) (Binary (at 1 95)
    operator.Equal (Named (at 1 95) 17 NoMore) (Named (at 1 99) 18 NoMore))) NoMore) (at 1 102) ∷ []))
unfolding typing
wrong_type_7 = refl

wrong_type_8 : BreaksSentence 1 (at 1 38) (program 17 (SubBody (Front (declared (at 1 11) 15 "Main") NoMore NoMore)
    (More (Objects (More (declared (at 1 19) 16 "X") NoMore) false (Plain (mark (at 1 23) 0)) NoMore) NoMore) (More
    (Assign (Named (at 1 38) 16 (More All NoMore)) (Number (at 1 47) 1)) NoMore) (at 1 50) ∷ []))
unfolding typing
wrong_type_8 = refl

wrong_type_9 : BreaksSentence 1 (at 1 67) (program 18 (SubBody (Front (declared (at 1 11) 15 "Main") NoMore NoMore)
    (More (TypeDecl (declared (at 1 24) 16 "Ptr") (Access (mark (at 1 38) 0)) (at 1 45)) (More (Objects (More (declared
    (at 1 47) 17 "X") NoMore) false (Plain (mark (at 1 51) 16)) NoMore) NoMore)) (More (Assign (Named (at 1 62) 17
    NoMore) (Number (at 1 67) 1)) NoMore) (at 1 70) ∷ []))
unfolding typing
wrong_type_9 = refl

wrong_type_10 : BreaksSentence 1 (at 1 67) (program 18 (SubBody (Front (declared (at 1 11) 15 "Main") NoMore NoMore)
    (More (TypeDecl (declared (at 1 24) 16 "Ptr") (Access (mark (at 1 38) 0)) (at 1 45)) (More (Objects (More (declared
    (at 1 47) 17 "X") NoMore) false (Plain (mark (at 1 51) 16)) NoMore) NoMore)) (More (Assign (Named (at 1 62) 17
    NoMore) (New (at 1 67) (mark (at 1 71) 1) NoMore)) NoMore) (at 1 80) ∷ []))
unfolding typing
wrong_type_10 = refl

wrong_type_11 : BreaksSentence 1 (at 1 100) (program 20 (SubBody (Front (declared (at 1 11) 15 "Main") NoMore NoMore)
    (More (TypeDecl (declared (at 1 24) 16 "Ptr") (Access (mark (at 1 38) 0)) (at 1 45)) (More (TypeDecl (declared (at 1
    52) 17 "Q") (Access (mark (at 1 64) 0)) (at 1 71)) (More (Objects (More (declared (at 1 73) 18 "X") NoMore) false
    (Plain (mark (at 1 77) 16)) NoMore) (More (Objects (More (declared (at 1 82) 19 "Y") NoMore) false (Plain (mark (at
    1 86) 17)) NoMore) NoMore)))) (More (Assign (Named (at 1 95) 18 NoMore) (Named (at 1 100) 19 NoMore)) NoMore) (at 1
    103) ∷ []))
unfolding typing
wrong_type_11 = refl

wrong_type_12 : BreaksSentence 1 (at 1 43) (program 17 (SubBody (Front (declared (at 1 11) 15 "Main") NoMore NoMore)
    (More (Objects (More (declared (at 1 19) 16 "X") NoMore) false (Plain (mark (at 1 23) 0)) NoMore) NoMore) (More
    (Assign (Named (at 1 38) 16 NoMore) (Named (at 1 43) 0 (More (Attr attribute.Other) NoMore))) NoMore) (at 1 57) ∷
    []))
unfolding typing
wrong_type_12 = refl

wrong_type_13 : BreaksSentence 1 (at 1 43) (program 17 (SubBody (Front (declared (at 1 11) 15 "Main") NoMore NoMore)
    (More (Objects (More (declared (at 1 19) 16 "X") NoMore) false (Plain (mark (at 1 23) 0)) NoMore) NoMore) (More
    (Assign (Named (at 1 38) 16 NoMore) (Named (at 1 43) 0 (More (Attr attribute.Length) NoMore))) NoMore) (at 1 59) ∷
    []))
unfolding typing
wrong_type_13 = refl

wrong_type_14 : BreaksSentence 1 (at 1 150) (program 16 (SubBody (Front (declared (at 1 130) 15 "Main") NoMore NoMore)
    NoMore (More (Call (Named (at 1 145) 8 (More (Applied (actual (Number (at 1 150) 1) NoMore)) NoMore))) NoMore) (at 1
    154) ∷ []))
unfolding typing
wrong_type_14 = refl

wrong_type_15 : BreaksSentence 1 (at 1 162) (program 17 (SubBody (Front (declared (at 1 130) 15 "Main") NoMore NoMore)
    (More (Objects (More (declared (at 1 138) 16 "X") NoMore) false (Plain (mark (at 1 142) 0)) NoMore) NoMore) (More
    (Assign (Named (at 1 157) 16 NoMore) (string (at 1 162) "\"a\"")) NoMore) (at 1 167) ∷ []))
unfolding typing
wrong_type_15 = refl

wrong_type_16 : BreaksSentence 1 (at 1 162) (program 17 (SubBody (Front (declared (at 1 130) 15 "Main") NoMore NoMore)
    (More (Objects (More (declared (at 1 138) 16 "X") NoMore) false (Plain (mark (at 1 142) 0)) NoMore) NoMore) (More
    (Assign (Named (at 1 157) 16 NoMore) (Named (at 1 162) 0 (More (Attr attribute.Image) (More (Applied (actual (Number
    (at 1 177) 1) NoMore)) NoMore)))) NoMore) (at 1 181) ∷ []))
unfolding typing
wrong_type_16 = refl

wrong_type_17 : BreaksSentence 1 (at 1 177) (program 17 (SubBody (Front (declared (at 1 130) 15 "Main") NoMore NoMore)
    (More (Objects (More (declared (at 1 138) 16 "X") NoMore) false (Plain (mark (at 1 142) 0)) NoMore) NoMore) (More
    (Call (Named (at 1 157) 8 (More (Applied (actual (Named (at 1 162) 0 (More (Attr attribute.Image) (More (Applied
    (actual (Named (at 1 177) 5 NoMore) NoMore)) NoMore))) NoMore)) NoMore))) NoMore) (at 1 185) ∷ []))
unfolding typing
wrong_type_17 = refl

wrong_type_18 : BreaksSentence 1 (at 1 41) (program 17 (SubBody (Front (declared (at 1 11) 15 "Main") NoMore NoMore)
    (More (TypeDecl (declared (at 1 24) 16 "A") (Array (Bounds (Number (at 1 36) 1) (Named (at 1 41) 5 NoMore)) (mark
    (at 1 50) 0)) (at 1 57)) NoMore) (More (Skip (at 1 65)) NoMore) (at 1 71) ∷ []))
unfolding typing
wrong_type_18 = refl

wrong_type_19 : BreaksSentence 1 (at 1 31) (program 18 (SubBody (Front (declared (at 1 11) 15 "Main") NoMore NoMore)
    (More (Incomplete (declared (at 1 24) 16 "T")) (More (Objects (More (declared (at 1 27) 17 "X") NoMore) false (Plain
    (mark (at 1 31) 16)) NoMore) (More (TypeDecl (declared (at 1 39) 16 "T") (Record (More (Components (More (declared
    (at 1 51) 0 "A") NoMore) (mark (at 1 55) 0)) NoMore)) (at 1 74)) NoMore))) (More (Skip (at 1 82)) NoMore) (at 1 88)
    ∷ []))
unfolding typing
wrong_type_19 = refl

wrong_type_20 : BreaksSentence 1 (at 1 46) (program 17 (Package (declared (at 1 9) 15 "P") (More (Private (declared (at
    1 19) 16 "T")) NoMore) (More (TypeDecl (declared (at 1 46) 16 "T") (Record (More (Components (More (declared (at 1
    58) 0 "A") NoMore) (mark (at 1 62) 16)) NoMore)) (at 1 75)) NoMore) ∷ []))
unfolding typing
wrong_type_20 = refl

wrong_type_21 : BreaksSentence 1 (at 1 131) (program 19 (Package (declared (at 1 9) 15 "P") (More (Private (declared (at
    1 19) 16 "T")) NoMore) (More (TypeDecl (declared (at 1 46) 16 "T") (Record (More (Components (More (declared (at 1
    58) 0 "A") NoMore) (mark (at 1 62) 0)) NoMore)) (at 1 81)) NoMore) ∷ SubBody (Front (declared (at 1 108) 17 "Main")
    NoMore NoMore) (More (Objects (More (declared (at 1 116) 18 "X") NoMore) false (Plain (mark (at 1 120) 16)) NoMore)
    NoMore) (More (Assign (Named (at 1 131) 18 (More (selected "A") NoMore)) (Number (at 1 138) 1)) NoMore) (at 1 141) ∷
    []))
unfolding typing
wrong_type_21 = refl

wrong_type_22 : BreaksSentence 1 (at 1 133) (program 20 (Package (declared (at 1 9) 15 "P") (More (Private (declared (at
    1 19) 16 "T")) NoMore) (More (TypeDecl (declared (at 1 46) 16 "T") (Access (mark (at 1 58) 0)) (at 1 65)) NoMore) ∷
    SubBody (Front (declared (at 1 92) 17 "Main") NoMore NoMore) (More (Objects (More (declared (at 1 100) 18 "X")
    NoMore) false (Plain (mark (at 1 104) 16)) NoMore) (More (Objects (More (declared (at 1 109) 19 "B") NoMore) false
    (Plain (mark (at 1 113) 3)) NoMore) NoMore)) (More (Assign (Named (at 1 128) 19 NoMore) (Binary (at 1 133)
    operator.Equal (Named (at 1 133) 18 NoMore) (Null (at 1 137)))) NoMore) (at 1 143) ∷ []))
unfolding typing
wrong_type_22 = refl

wrong_type_23 : BreaksSentence 1 (at 1 212) (program 20 (Package (declared (at 1 9) 15 "P") (More (TypeDecl (declared
    (at 1 19) 16 "Ptr") (Access (mark (at 1 33) 0)) (at 1 40)) (More (SubDecl (Front (declared (at 1 51) 17 "F") NoMore
    (More (Plain (mark (at 1 60) 16)) NoMore))) NoMore)) NoMore ∷ PackageBody (declared (at 1 85) 15 "P") (More (SubBody
    (Front (declared (at 1 99) 17 "F") NoMore (More (Plain (mark (at 1 108) 16)) NoMore)) NoMore (More (Return (at 1
    121) (More (New (at 1 128) (mark (at 1 132) 0) NoMore) NoMore)) NoMore) (at 1 141)) NoMore) ∷ SubBody (Front
    (declared (at 1 180) 18 "Main") NoMore NoMore) (More (Objects (More (declared (at 1 188) 19 "B") NoMore) false
    (Plain (mark (at 1 192) 3)) NoMore) NoMore) (More (Assign (Named (at 1 207) 19 NoMore) (Binary (at 1 212)
    operator.Equal (Named (at 1 212) 17 NoMore) (Null (at 1 216)))) NoMore) (at 1 222) ∷ []))
unfolding typing
wrong_type_23 = refl

wrong_type_24 : BreaksSentence 1 (at 1 101) (program 20 (SubBody (Front (declared (at 1 11) 15 "Main") NoMore NoMore)
    (More (TypeDecl (declared (at 1 24) 16 "Ptr") (Access (mark (at 1 38) 0)) (at 1 45)) (More (Objects (More (declared
    (at 1 47) 17 "Y") NoMore) false (Plain (mark (at 1 51) 16)) NoMore) (More (Objects (More (declared (at 1 56) 18 "X")
    NoMore) false (Anonymous (at 1 60) false (mark (at 1 67) 0)) (More (Named (at 1 78) 17 NoMore) NoMore)) (More
    (Objects (More (declared (at 1 81) 19 "Z") NoMore) false (Plain (mark (at 1 85) 16)) NoMore) NoMore)))) (More
    (Assign (Named (at 1 96) 19 NoMore) (Named (at 1 101) 18 NoMore)) NoMore) (at 1 104) ∷ []))
unfolding typing
wrong_type_24 = refl

wrong_type_25 : BreaksSentence 1 (at 1 275) (program 23 (Package (declared (at 1 9) 15 "P") (More (TypeDecl (declared
    (at 1 19) 16 "Ptr") (Access (mark (at 1 33) 0)) (at 1 40)) (More (SubDecl (Front (declared (at 1 51) 17 "F") (More
    (Formals (More (declared (at 1 54) 18 "X") NoMore) mode.In (Anonymous (at 1 58) false (mark (at 1 65) 0))) NoMore)
    (More (Anonymous (at 1 81) false (mark (at 1 88) 0)) NoMore))) NoMore)) NoMore ∷ PackageBody (declared (at 1 117) 15
    "P") (More (SubBody (Front (declared (at 1 131) 17 "F") (More (Formals (More (declared (at 1 134) 19 "X") NoMore)
    mode.In (Anonymous (at 1 138) false (mark (at 1 145) 0))) NoMore) (More (Anonymous (at 1 161) false (mark (at 1 168)
    0)) NoMore)) NoMore (More (Return (at 1 185) (More (Named (at 1 192) 19 NoMore) NoMore)) NoMore) (at 1 195)) NoMore)
    ∷ SubBody (Front (declared (at 1 234) 20 "Main") NoMore NoMore) (More (Objects (More (declared (at 1 242) 21 "Y")
    NoMore) false (Plain (mark (at 1 246) 16)) NoMore) (More (Objects (More (declared (at 1 251) 22 "B") NoMore) false
    (Plain (mark (at 1 255) 3)) NoMore) NoMore)) (More (Assign (Named (at 1 270) 22 NoMore) (Binary (at 1 275)
    operator.Equal (Named (at 1 275) 17 (More (Applied (actual (Named (at 1 278) 21 NoMore) NoMore)) NoMore)) (Null (at
    1 283)))) NoMore) (at 1 289) ∷ []))
unfolding typing
wrong_type_25 = refl
