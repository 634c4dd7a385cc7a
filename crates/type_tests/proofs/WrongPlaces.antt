-- No variable, another profile, or wrong choices and components: K2 to K4.
--
-- tools/tree_terms.py makes this of the sources that data/cases.txt has under its name.
use Rattle.std.proofs.Common.{refl, [], ◌∷◌}
use Rattle.std.specs.Prelude.{false, true}
use Rattle.place_names.specs.declared.act.Mode.TheVariants as mode
use Rattle.resolved_tree.specs.declared.operator.Operator.TheVariants as operator
use Rattle.resolved_tree.specs.Trees.{Access, Aggregate, Applied, Array, Assign, Binary, Bounds, Call, Case, Components, ConstrainedSubtype, For, Formals, Front, Instance, More, Named, NoMore, Number, Objects, OthersChoice, Package, PackageBody, Parens, Plain, Record, Return, Skip, SubBody, SubDecl, TypeDecl, Value, When}
use Rattle.type_tests.proofs.ResolvedTrees.{actual, at, declared, given, mark, program, string}
use Rattle.type_tests.proofs.TypeRules.{BreaksSentence, typing}

-- What is changed is a constant or a parameter of a loop.
no_variable_1 : BreaksSentence 2 (at 1 52) (program 17 (SubBody (Front (declared (at 1 11) 15 "Main") NoMore NoMore)
    (More (Objects (More (declared (at 1 19) 16 "X") NoMore) true (Plain (mark (at 1 32) 0)) (More (Number (at 1 43) 1)
    NoMore)) NoMore) (More (Assign (Named (at 1 52) 16 NoMore) (Number (at 1 57) 1)) NoMore) (at 1 60) ∷ []))
unfolding typing
no_variable_1 = refl

no_variable_2 : BreaksSentence 2 (at 1 47) (program 17 (SubBody (Front (declared (at 1 11) 15 "Main") NoMore NoMore)
    NoMore (More (For (at 1 26) (declared (at 1 30) 16 "I") false (Bounds (Number (at 1 35) 1) (Number (at 1 40) 2))
    (More (Assign (Named (at 1 47) 16 NoMore) (Number (at 1 52) 1)) NoMore)) NoMore) (at 1 65) ∷ []))
unfolding typing
no_variable_2 = refl

no_variable_3 : BreaksSentence 2 (at 1 26) (program 16 (SubBody (Front (declared (at 1 11) 15 "Main") NoMore NoMore)
    NoMore (More (Assign (Named (at 1 26) 5 NoMore) (Named (at 1 34) 4 NoMore)) NoMore) (at 1 41) ∷ []))
unfolding typing
no_variable_3 = refl

no_variable_4 : BreaksSentence 2 (at 1 162) (program 17 (SubBody (Front (declared (at 1 130) 15 "Main") NoMore NoMore)
    (More (Objects (More (declared (at 1 138) 16 "X") NoMore) false (Plain (mark (at 1 142) 0)) NoMore) NoMore) (More
    (Call (Named (at 1 157) 13 (More (Applied (actual (Number (at 1 162) 1) NoMore)) NoMore))) NoMore) (at 1 166) ∷ []))
unfolding typing
no_variable_4 = refl

no_variable_5 : BreaksSentence 2 (at 1 162) (program 17 (SubBody (Front (declared (at 1 130) 15 "Main") NoMore NoMore)
    (More (Objects (More (declared (at 1 138) 16 "X") NoMore) false (Plain (mark (at 1 142) 0)) NoMore) NoMore) (More
    (Call (Named (at 1 157) 13 (More (Applied (actual (Binary (at 1 162) operator.Add (Named (at 1 162) 16 NoMore)
    (Number (at 1 166) 1)) NoMore)) NoMore))) NoMore) (at 1 170) ∷ []))
unfolding typing
no_variable_5 = refl

-- Calls, instances, bodies, results and exits.
wrong_profile_1 : BreaksSentence 3 (at 1 38) (program 17 (SubBody (Front (declared (at 1 11) 15 "Main") NoMore NoMore)
    (More (Objects (More (declared (at 1 19) 16 "X") NoMore) false (Plain (mark (at 1 23) 0)) NoMore) NoMore) (More
    (Call (Named (at 1 38) 16 NoMore)) NoMore) (at 1 41) ∷ []))
unfolding typing
wrong_profile_1 = refl

wrong_profile_2 : BreaksSentence 3 (at 1 26) (program 16 (SubBody (Front (declared (at 1 11) 15 "Main") NoMore NoMore)
    NoMore (More (Call (Named (at 1 26) 0 NoMore)) NoMore) (at 1 35) ∷ []))
unfolding typing
wrong_profile_2 = refl

wrong_profile_3 : BreaksSentence 3 (at 1 145) (program 16 (SubBody (Front (declared (at 1 130) 15 "Main") NoMore NoMore)
    NoMore (More (Call (Named (at 1 145) 8 (More (Applied (actual (Number (at 1 150) 1) (actual (Number (at 1 153) 2)
    NoMore))) NoMore))) NoMore) (at 1 157) ∷ []))
unfolding typing
wrong_profile_3 = refl

wrong_profile_4 : BreaksSentence 3 (at 1 145) (program 16 (SubBody (Front (declared (at 1 130) 15 "Main") NoMore NoMore)
    NoMore (More (Call (Named (at 1 145) 10 (More (Applied (actual (Number (at 1 155) 1) NoMore)) NoMore))) NoMore) (at
    1 159) ∷ []))
unfolding typing
wrong_profile_4 = refl

wrong_profile_5 : BreaksSentence 3 (at 1 145) (program 16 (SubBody (Front (declared (at 1 130) 15 "Main") NoMore NoMore)
    NoMore (More (Call (Named (at 1 145) 8 (More (Applied (given "Item" (string (at 1 158) "\"a\"") NoMore)) NoMore)))
    NoMore) (at 1 164) ∷ []))
unfolding typing
wrong_profile_5 = refl

wrong_profile_6 : BreaksSentence 3 (at 1 145) (program 16 (SubBody (Front (declared (at 1 130) 15 "Main") NoMore NoMore)
    NoMore (More (Call (Named (at 1 145) 11 NoMore)) NoMore) (at 1 158) ∷ []))
unfolding typing
wrong_profile_6 = refl

wrong_profile_7 : BreaksSentence 3 (at 1 176) (program 18 (SubBody (Front (declared (at 1 130) 15 "Main") NoMore NoMore)
    (More (TypeDecl (declared (at 1 143) 16 "Ptr") (Access (mark (at 1 157) 0)) (at 1 164)) (More (Instance (declared
    (at 1 176) 17 "Free") (mark (at 1 188) 14) (actual (Named (at 1 216) 3 NoMore) (actual (Named (at 1 225) 16 NoMore)
    NoMore))) NoMore)) (More (Skip (at 1 237)) NoMore) (at 1 243) ∷ []))
unfolding typing
wrong_profile_7 = refl

wrong_profile_8 : BreaksSentence 3 (at 1 188) (program 18 (SubBody (Front (declared (at 1 130) 15 "Main") NoMore NoMore)
    (More (TypeDecl (declared (at 1 143) 16 "Ptr") (Access (mark (at 1 157) 0)) (at 1 164)) (More (Instance (declared
    (at 1 176) 17 "Free") (mark (at 1 188) 7) (actual (Named (at 1 201) 0 NoMore) (actual (Named (at 1 210) 16 NoMore)
    NoMore))) NoMore)) (More (Skip (at 1 222)) NoMore) (at 1 228) ∷ []))
unfolding typing
wrong_profile_8 = refl

wrong_profile_9 : BreaksSentence 3 (at 1 166) (program 22 (Package (declared (at 1 9) 15 "P") (More (SubDecl (Front
    (declared (at 1 24) 16 "Q") (More (Formals (More (declared (at 1 27) 17 "A") (More (declared (at 1 30) 18 "B")
    NoMore)) mode.In (Plain (mark (at 1 34) 0))) NoMore) NoMore)) NoMore) NoMore ∷ PackageBody (declared (at 1 64) 15
    "P") (More (SubBody (Front (declared (at 1 79) 16 "Q") (More (Formals (More (declared (at 1 82) 19 "A") (More
    (declared (at 1 85) 20 "B") NoMore)) mode.In (Plain (mark (at 1 89) 0))) NoMore) NoMore) NoMore (More (Skip (at 1
    107)) NoMore) (at 1 113)) NoMore) ∷ SubBody (Front (declared (at 1 152) 21 "Main") NoMore NoMore) NoMore (More (Call
    (Named (at 1 166) 16 (More (Applied (actual (Number (at 1 169) 1) NoMore)) NoMore))) NoMore) (at 1 173) ∷ []))
unfolding typing
wrong_profile_9 = refl

wrong_profile_10 : BreaksSentence 3 (at 1 166) (program 22 (Package (declared (at 1 9) 15 "P") (More (SubDecl (Front
    (declared (at 1 24) 16 "Q") (More (Formals (More (declared (at 1 27) 17 "A") (More (declared (at 1 30) 18 "B")
    NoMore)) mode.In (Plain (mark (at 1 34) 0))) NoMore) NoMore)) NoMore) NoMore ∷ PackageBody (declared (at 1 64) 15
    "P") (More (SubBody (Front (declared (at 1 79) 16 "Q") (More (Formals (More (declared (at 1 82) 19 "A") (More
    (declared (at 1 85) 20 "B") NoMore)) mode.In (Plain (mark (at 1 89) 0))) NoMore) NoMore) NoMore (More (Skip (at 1
    107)) NoMore) (at 1 113)) NoMore) ∷ SubBody (Front (declared (at 1 152) 21 "Main") NoMore NoMore) NoMore (More (Call
    (Named (at 1 166) 16 (More (Applied (actual (Number (at 1 169) 1) (given "B" (Number (at 1 177) 2) NoMore)))
    NoMore))) NoMore) (at 1 181) ∷ []))
unfolding typing
wrong_profile_10 = refl

wrong_profile_11 : BreaksSentence 3 (at 1 76) (program 19 (Package (declared (at 1 9) 15 "P") (More (SubDecl (Front
    (declared (at 1 24) 16 "Q") (More (Formals (More (declared (at 1 27) 17 "A") NoMore) mode.In (Plain (mark (at 1 31)
    0))) NoMore) NoMore)) NoMore) NoMore ∷ PackageBody (declared (at 1 61) 15 "P") (More (SubBody (Front (declared (at 1
    76) 16 "Q") (More (Formals (More (declared (at 1 79) 18 "B") NoMore) mode.In (Plain (mark (at 1 83) 0))) NoMore)
    NoMore) NoMore (More (Skip (at 1 101)) NoMore) (at 1 107)) NoMore) ∷ []))
unfolding typing
wrong_profile_11 = refl

wrong_profile_12 : BreaksSentence 3 (at 1 26) (program 19 (Package (declared (at 1 9) 15 "P") (More (SubDecl (Front
    (declared (at 1 23) 16 "F") (More (Formals (More (declared (at 1 26) 17 "A") NoMore) mode.InOut (Plain (mark (at 1
    37) 0))) NoMore) (More (Plain (mark (at 1 53) 0)) NoMore))) NoMore) NoMore ∷ PackageBody (declared (at 1 82) 15 "P")
    (More (SubBody (Front (declared (at 1 96) 16 "F") (More (Formals (More (declared (at 1 99) 18 "A") NoMore)
    mode.InOut (Plain (mark (at 1 110) 0))) NoMore) (More (Plain (mark (at 1 126) 0)) NoMore)) NoMore (More (Return (at
    1 143) (More (Number (at 1 150) 1) NoMore)) NoMore) (at 1 153)) NoMore) ∷ []))
unfolding typing
wrong_profile_12 = refl

wrong_profile_13 : BreaksSentence 3 (at 1 101) (program 17 (Package (declared (at 1 9) 15 "P") (More (SubDecl (Front
    (declared (at 1 23) 16 "F") NoMore (More (Plain (mark (at 1 32) 0)) NoMore))) NoMore) NoMore ∷ PackageBody (declared
    (at 1 61) 15 "P") (More (SubBody (Front (declared (at 1 75) 16 "F") NoMore (More (Plain (mark (at 1 84) 0)) NoMore))
    NoMore (More (Return (at 1 101) NoMore) NoMore) (at 1 109)) NoMore) ∷ []))
unfolding typing
wrong_profile_13 = refl

wrong_profile_14 : BreaksSentence 3 (at 1 11) (program 17 (SubBody (Front (declared (at 1 11) 15 "Main") (More (Formals
    (More (declared (at 1 17) 16 "X") NoMore) mode.In (Plain (mark (at 1 21) 0))) NoMore) NoMore) NoMore (More (Skip (at
    1 39)) NoMore) (at 1 45) ∷ []))
unfolding typing
wrong_profile_14 = refl

-- Choices of a case, components and elements of an aggregate.
wrong_choice_1 : BreaksSentence 4 (at 1 57) (program 17 (SubBody (Front (declared (at 1 11) 15 "Main") NoMore NoMore)
    (More (Objects (More (declared (at 1 19) 16 "X") NoMore) false (Plain (mark (at 1 23) 0)) NoMore) NoMore) (More
    (Case (at 1 38) (Named (at 1 43) 16 NoMore) (More (When (More (Value (Number (at 1 53) 1)) (More (OthersChoice (at 1
    57)) NoMore)) (More (Skip (at 1 67)) NoMore)) NoMore)) NoMore) (at 1 83) ∷ []))
unfolding typing
wrong_choice_1 = refl

wrong_choice_2 : BreaksSentence 4 (at 1 53) (program 17 (SubBody (Front (declared (at 1 11) 15 "Main") NoMore NoMore)
    (More (Objects (More (declared (at 1 19) 16 "X") NoMore) false (Plain (mark (at 1 23) 0)) NoMore) NoMore) (More
    (Case (at 1 38) (Named (at 1 43) 16 NoMore) (More (When (More (Value (Named (at 1 53) 16 NoMore)) NoMore) (More
    (Skip (at 1 58)) NoMore)) (More (When (More (OthersChoice (at 1 69)) NoMore) (More (Skip (at 1 79)) NoMore))
    NoMore))) NoMore) (at 1 95) ∷ []))
unfolding typing
wrong_choice_2 = refl

wrong_choice_3 : BreaksSentence 4 (at 1 67) (program 18 (SubBody (Front (declared (at 1 11) 15 "Main") NoMore NoMore)
    (More (ConstrainedSubtype (declared (at 1 27) 16 "S") (mark (at 1 32) 0) (Number (at 1 46) 1) (Number (at 1 51) 2))
    (More (Objects (More (declared (at 1 54) 17 "X") NoMore) false (Plain (mark (at 1 58) 16)) NoMore) NoMore)) (More
    (Case (at 1 67) (Binary (at 1 72) operator.Add (Named (at 1 72) 17 NoMore) (Number (at 1 76) 0)) (More (When (More
    (Value (Number (at 1 86) 1)) NoMore) (More (Skip (at 1 91)) NoMore)) (More (When (More (Value (Number (at 1 102) 2))
    NoMore) (More (Skip (at 1 107)) NoMore)) NoMore))) NoMore) (at 1 123) ∷ []))
unfolding typing
wrong_choice_3 = refl

wrong_choice_4 : BreaksSentence 4 (at 1 67) (program 18 (SubBody (Front (declared (at 1 11) 15 "Main") NoMore NoMore)
    (More (ConstrainedSubtype (declared (at 1 27) 16 "S") (mark (at 1 32) 0) (Number (at 1 46) 1) (Number (at 1 51) 2))
    (More (Objects (More (declared (at 1 54) 17 "X") NoMore) false (Plain (mark (at 1 58) 16)) NoMore) NoMore)) (More
    (Case (at 1 67) (Parens (at 1 72) (Named (at 1 73) 17 NoMore)) (More (When (More (Value (Number (at 1 84) 1))
    NoMore) (More (Skip (at 1 89)) NoMore)) (More (When (More (Value (Number (at 1 100) 2)) NoMore) (More (Skip (at 1
    105)) NoMore)) NoMore))) NoMore) (at 1 121) ∷ []))
unfolding typing
wrong_choice_4 = refl

wrong_choice_5 : BreaksSentence 4 (at 1 82) (program 18 (SubBody (Front (declared (at 1 11) 15 "Main") NoMore NoMore)
    (More (TypeDecl (declared (at 1 24) 16 "R") (Record (More (Components (More (declared (at 1 36) 0 "A") (More
    (declared (at 1 39) 0 "B") NoMore)) (mark (at 1 43) 0)) NoMore)) (at 1 62)) (More (Objects (More (declared (at 1 64)
    17 "X") NoMore) false (Plain (mark (at 1 68) 16)) NoMore) NoMore)) (More (Assign (Named (at 1 77) 17 NoMore)
    (Aggregate (at 1 82) (actual (Number (at 1 83) 1) (actual (Number (at 1 86) 2) (actual (Number (at 1 89) 3)
    NoMore))))) NoMore) (at 1 93) ∷ []))
unfolding typing
wrong_choice_5 = refl

wrong_choice_6 : BreaksSentence 4 (at 1 82) (program 18 (SubBody (Front (declared (at 1 11) 15 "Main") NoMore NoMore)
    (More (TypeDecl (declared (at 1 24) 16 "R") (Record (More (Components (More (declared (at 1 36) 0 "A") (More
    (declared (at 1 39) 0 "B") NoMore)) (mark (at 1 43) 0)) NoMore)) (at 1 62)) (More (Objects (More (declared (at 1 64)
    17 "X") NoMore) false (Plain (mark (at 1 68) 16)) NoMore) NoMore)) (More (Assign (Named (at 1 77) 17 NoMore)
    (Aggregate (at 1 82) (given "A" (Number (at 1 88) 1) NoMore))) NoMore) (at 1 92) ∷ []))
unfolding typing
wrong_choice_6 = refl

wrong_choice_7 : BreaksSentence 4 (at 1 74) (program 18 (SubBody (Front (declared (at 1 11) 15 "Main") NoMore NoMore)
    (More (TypeDecl (declared (at 1 24) 16 "A") (Array (Bounds (Number (at 1 36) 1) (Number (at 1 41) 2)) (mark (at 1
    47) 0)) (at 1 54)) (More (Objects (More (declared (at 1 56) 17 "X") NoMore) false (Plain (mark (at 1 60) 16))
    NoMore) NoMore)) (More (Assign (Named (at 1 69) 17 NoMore) (Aggregate (at 1 74) (actual (Number (at 1 75) 1) (actual
    (Number (at 1 78) 2) (actual (Number (at 1 81) 3) NoMore))))) NoMore) (at 1 85) ∷ []))
unfolding typing
wrong_choice_7 = refl
