-- Owning expressions and anonymous access types out of place: K5 and K6.
--
-- tools/tree_terms.py makes this of the sources that data/cases.txt has under its name.
use Rattle.std.proofs.Common.{refl, [], ◌∷◌}
use Rattle.std.specs.Prelude.{false}
use Rattle.place_names.specs.declared.act.Mode.TheVariants as mode
use Rattle.resolved_tree.specs.Trees.{Access, Anonymous, Applied, Assign, Call, Formals, Front, More, Named, New, NoMore, Null, Number, Objects, Package, PackageBody, Parens, Plain, Return, Skip, SubBody, SubDecl, TypeDecl}
use Rattle.type_tests.proofs.ResolvedTrees.{actual, at, declared, mark, program}
use Rattle.type_tests.proofs.TypeRules.{BreaksSentence, typing}

-- An owning expression stands where none may.
owning_place_1 : BreaksSentence 5 (at 1 70) (program 19 (SubBody (Front (declared (at 1 11) 15 "Main") NoMore NoMore)
    (More (TypeDecl (declared (at 1 24) 16 "Ptr") (Access (mark (at 1 38) 0)) (at 1 45)) (More (Objects (More (declared
    (at 1 47) 17 "X") (More (declared (at 1 50) 18 "Y") NoMore)) false (Plain (mark (at 1 54) 16)) NoMore) NoMore))
    (More (Assign (Named (at 1 65) 17 NoMore) (Parens (at 1 70) (Named (at 1 71) 18 NoMore))) NoMore) (at 1 75) ∷ []))
unfolding typing
owning_place_1 = refl

owning_place_2 : BreaksSentence 5 (at 1 67) (program 18 (SubBody (Front (declared (at 1 11) 15 "Main") NoMore NoMore)
    (More (TypeDecl (declared (at 1 24) 16 "Ptr") (Access (mark (at 1 38) 0)) (at 1 45)) (More (Objects (More (declared
    (at 1 47) 17 "X") NoMore) false (Plain (mark (at 1 51) 16)) NoMore) NoMore)) (More (Assign (Named (at 1 62) 17
    NoMore) (Parens (at 1 67) (Null (at 1 68)))) NoMore) (at 1 75) ∷ []))
unfolding typing
owning_place_2 = refl

owning_place_3 : BreaksSentence 5 (at 1 183) (program 21 (Package (declared (at 1 9) 15 "P") (More (TypeDecl (declared
    (at 1 19) 16 "Ptr") (Access (mark (at 1 33) 0)) (at 1 40)) (More (SubDecl (Front (declared (at 1 52) 17 "Q") (More
    (Formals (More (declared (at 1 55) 18 "X") NoMore) mode.In (Plain (mark (at 1 59) 16))) NoMore) NoMore)) NoMore))
    NoMore ∷ PackageBody (declared (at 1 85) 15 "P") (More (SubBody (Front (declared (at 1 100) 17 "Q") (More (Formals
    (More (declared (at 1 103) 19 "X") NoMore) mode.In (Plain (mark (at 1 107) 16))) NoMore) NoMore) NoMore (More (Skip
    (at 1 121)) NoMore) (at 1 127)) NoMore) ∷ SubBody (Front (declared (at 1 166) 20 "Main") NoMore NoMore) NoMore (More
    (Call (Named (at 1 180) 17 (More (Applied (actual (New (at 1 183) (mark (at 1 187) 0) NoMore) NoMore)) NoMore)))
    NoMore) (at 1 197) ∷ []))
unfolding typing
owning_place_3 = refl

-- Objects, formals and results of an anonymous access type.
anonymous_access_1 : BreaksSentence 6 (at 1 56) (program 20 (SubBody (Front (declared (at 1 11) 15 "Main") NoMore
    NoMore) (More (TypeDecl (declared (at 1 24) 16 "Ptr") (Access (mark (at 1 38) 0)) (at 1 45)) (More (Objects (More
    (declared (at 1 47) 17 "Y") NoMore) false (Plain (mark (at 1 51) 16)) NoMore) (More (Objects (More (declared (at 1
    56) 18 "X") (More (declared (at 1 59) 19 "Z") NoMore)) false (Anonymous (at 1 63) false (mark (at 1 70) 0)) (More
    (Named (at 1 81) 17 NoMore) NoMore)) NoMore))) (More (Skip (at 1 90)) NoMore) (at 1 96) ∷ []))
unfolding typing
anonymous_access_1 = refl

anonymous_access_2 : BreaksSentence 6 (at 1 51) (program 19 (Package (declared (at 1 9) 15 "P") (More (TypeDecl
    (declared (at 1 19) 16 "Ptr") (Access (mark (at 1 33) 0)) (at 1 40)) (More (Objects (More (declared (at 1 42) 17
    "Y") NoMore) false (Plain (mark (at 1 46) 16)) NoMore) (More (Objects (More (declared (at 1 51) 18 "X") NoMore)
    false (Anonymous (at 1 55) false (mark (at 1 62) 0)) (More (Named (at 1 73) 17 NoMore) NoMore)) NoMore))) NoMore ∷
    []))
unfolding typing
anonymous_access_2 = refl

anonymous_access_3 : BreaksSentence 6 (at 1 69) (program 18 (SubBody (Front (declared (at 1 11) 15 "Main") NoMore
    NoMore) (More (TypeDecl (declared (at 1 24) 16 "Ptr") (Access (mark (at 1 38) 0)) (at 1 45)) (More (Objects (More
    (declared (at 1 47) 17 "X") NoMore) false (Anonymous (at 1 51) false (mark (at 1 58) 0)) (More (Null (at 1 69))
    NoMore)) NoMore)) (More (Skip (at 1 81)) NoMore) (at 1 87) ∷ []))
unfolding typing
anonymous_access_3 = refl

anonymous_access_4 : BreaksSentence 6 (at 1 27) (program 19 (Package (declared (at 1 9) 15 "P") (More (SubDecl (Front
    (declared (at 1 24) 16 "Q") (More (Formals (More (declared (at 1 27) 17 "X") NoMore) mode.In (Anonymous (at 1 31)
    false (mark (at 1 38) 0))) NoMore) NoMore)) NoMore) NoMore ∷ PackageBody (declared (at 1 68) 15 "P") (More (SubBody
    (Front (declared (at 1 83) 16 "Q") (More (Formals (More (declared (at 1 86) 18 "X") NoMore) mode.In (Anonymous (at 1
    90) false (mark (at 1 97) 0))) NoMore) NoMore) NoMore (More (Skip (at 1 115)) NoMore) (at 1 121)) NoMore) ∷ []))
unfolding typing
anonymous_access_4 = refl

anonymous_access_5 : BreaksSentence 6 (at 1 26) (program 19 (Package (declared (at 1 9) 15 "P") (More (SubDecl (Front
    (declared (at 1 23) 16 "F") (More (Formals (More (declared (at 1 26) 17 "X") NoMore) mode.In (Anonymous (at 1 30)
    false (mark (at 1 37) 0))) NoMore) (More (Plain (mark (at 1 53) 0)) NoMore))) NoMore) NoMore ∷ PackageBody (declared
    (at 1 82) 15 "P") (More (SubBody (Front (declared (at 1 96) 16 "F") (More (Formals (More (declared (at 1 99) 18 "X")
    NoMore) mode.In (Anonymous (at 1 103) false (mark (at 1 110) 0))) NoMore) (More (Plain (mark (at 1 126) 0)) NoMore))
    NoMore (More (Return (at 1 143) (More (Number (at 1 150) 1) NoMore)) NoMore) (at 1 153)) NoMore) ∷ []))
unfolding typing
anonymous_access_5 = refl

anonymous_access_6 : BreaksSentence 6 (at 1 23) (program 17 (Package (declared (at 1 9) 15 "P") (More (SubDecl (Front
    (declared (at 1 23) 16 "F") NoMore (More (Anonymous (at 1 32) false (mark (at 1 39) 0)) NoMore))) NoMore) NoMore ∷
    PackageBody (declared (at 1 68) 15 "P") (More (SubBody (Front (declared (at 1 82) 16 "F") NoMore (More (Anonymous
    (at 1 91) false (mark (at 1 98) 0)) NoMore)) NoMore (More (Return (at 1 115) (More (Null (at 1 122)) NoMore))
    NoMore) (at 1 128)) NoMore) ∷ []))
unfolding typing
anonymous_access_6 = refl

anonymous_access_7 : BreaksSentence 6 (at 1 164) (program 19 (Package (declared (at 1 9) 15 "P") (More (SubDecl (Front
    (declared (at 1 23) 16 "F") (More (Formals (More (declared (at 1 26) 17 "X") NoMore) mode.In (Anonymous (at 1 30)
    false (mark (at 1 37) 0))) NoMore) (More (Anonymous (at 1 53) false (mark (at 1 60) 0)) NoMore))) NoMore) NoMore ∷
    PackageBody (declared (at 1 89) 15 "P") (More (SubBody (Front (declared (at 1 103) 16 "F") (More (Formals (More
    (declared (at 1 106) 18 "X") NoMore) mode.In (Anonymous (at 1 110) false (mark (at 1 117) 0))) NoMore) (More
    (Anonymous (at 1 133) false (mark (at 1 140) 0)) NoMore)) NoMore (More (Return (at 1 157) (More (New (at 1 164)
    (mark (at 1 168) 0) NoMore) NoMore)) NoMore) (at 1 177)) NoMore) ∷ []))
unfolding typing
anonymous_access_7 = refl
