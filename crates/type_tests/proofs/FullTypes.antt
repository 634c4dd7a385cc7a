-- A type counts as its full type also before that.
--
-- tools/tree_terms.py makes this of the sources that data/cases.txt has under its name.
use Rattle.std.proofs.Common.{refl, [], ◌∷◌}
use Rattle.std.specs.Prelude.{false, true}
use Rattle.resolved_tree.specs.declared.operator.Attribute.TheVariants as attribute
use Rattle.place_names.specs.declared.act.Mode.TheVariants as mode
use Rattle.resolved_tree.specs.declared.operator.Operator.TheVariants as operator
use Rattle.resolved_tree.specs.Trees.{Access, Assign, Attr, Binary, Bounds, Case, Components, ConstrainedSubtype, Enumeration, For, Formals, Front, Incomplete, More, Named, NoMore, Number, Objects, Package, PackageBody, Plain, Private, Record, Skip, SubBody, SubDecl, TypeDecl, Value, When}
use Rattle.type_tests.proofs.ResolvedTrees.{at, declared, mark, program, selected}
use Rattle.type_tests.proofs.TypeRules.{BreaksSentence, IsTyped, typing}

-- The parameter of a `for` loop.
full_type_1 : BreaksSentence 1 (at 1 165) (program 22 (Package (declared (at 1 9) 15 "P") NoMore NoMore ∷ PackageBody
    (declared (at 1 34) 15 "P") (More (Incomplete (declared (at 1 44) 16 "Inner")) (More (TypeDecl (declared (at 1 56)
    17 "Link") (Access (mark (at 1 71) 16)) (at 1 76)) (More (SubBody (Front (declared (at 1 88) 18 "R") (More (Formals
    (More (declared (at 1 91) 19 "L") NoMore) mode.In (Plain (mark (at 1 98) 17))) NoMore) NoMore) (More (Objects (More
    (declared (at 1 107) 20 "Y") NoMore) false (Plain (mark (at 1 111) 0)) (More (Number (at 1 122) 0) NoMore)) NoMore)
    (More (For (at 1 131) (declared (at 1 135) 21 "I") false (Bounds (Named (at 1 140) 19 (More (selected "E") NoMore))
    (Named (at 1 147) 19 (More (selected "F") NoMore))) (More (Assign (Named (at 1 156) 20 NoMore) (Binary (at 1 161)
    operator.Add (Named (at 1 161) 20 NoMore) (Named (at 1 165) 21 NoMore))) NoMore)) NoMore) (at 1 178)) (More
    (TypeDecl (declared (at 1 190) 16 "Inner") (Record (More (Components (More (declared (at 1 206) 0 "E") (More
    (declared (at 1 209) 0 "F") NoMore)) (mark (at 1 213) 3)) NoMore)) (at 1 232)) NoMore)))) ∷ []))
unfolding typing
full_type_1 = refl

full_type_2 : IsTyped (program 22 (Package (declared (at 1 9) 15 "P") NoMore NoMore ∷ PackageBody (declared (at 1 34) 15
    "P") (More (Incomplete (declared (at 1 44) 16 "Inner")) (More (TypeDecl (declared (at 1 56) 17 "Link") (Access (mark
    (at 1 71) 16)) (at 1 76)) (More (SubBody (Front (declared (at 1 88) 18 "R") (More (Formals (More (declared (at 1 91)
    19 "L") NoMore) mode.In (Plain (mark (at 1 98) 17))) NoMore) NoMore) (More (Objects (More (declared (at 1 107) 20
    "Y") NoMore) false (Plain (mark (at 1 111) 3)) (More (Named (at 1 122) 5 NoMore) NoMore)) NoMore) (More (For (at 1
    134) (declared (at 1 138) 21 "I") false (Bounds (Named (at 1 143) 19 (More (selected "E") NoMore)) (Named (at 1 150)
    19 (More (selected "F") NoMore))) (More (Assign (Named (at 1 159) 20 NoMore) (Binary (at 1 164) operator.And (Named
    (at 1 164) 20 NoMore) (Named (at 1 170) 21 NoMore))) NoMore)) NoMore) (at 1 183)) (More (TypeDecl (declared (at 1
    195) 16 "Inner") (Record (More (Components (More (declared (at 1 211) 0 "E") (More (declared (at 1 214) 0 "F")
    NoMore)) (mark (at 1 218) 3)) NoMore)) (at 1 237)) NoMore)))) ∷ []))
unfolding typing
full_type_2 = refl

-- Bounds of subtypes, and static constants.
full_type_3 : IsTyped (program 21 (Package (declared (at 1 9) 15 "P") (More (Private (declared (at 1 19) 16 "T"))
    NoMore) (More (ConstrainedSubtype (declared (at 1 49) 17 "S") (mark (at 1 54) 16) (Named (at 1 62) 16 (More (Attr
    attribute.First) NoMore)) (Named (at 1 73) 16 (More (Attr attribute.Last) NoMore))) (More (TypeDecl (declared (at 1
    86) 16 "T") (Enumeration (More (declared (at 1 92) 18 "A") (More (declared (at 1 95) 19 "B") NoMore))) (at 1 97))
    (More (Objects (More (declared (at 1 99) 20 "X") NoMore) false (Plain (mark (at 1 103) 17)) (More (Named (at 1 108)
    18 NoMore) NoMore)) NoMore))) ∷ []))
unfolding typing
full_type_3 = refl

full_type_4 : BreaksSentence 7 (at 1 103) (program 21 (Package (declared (at 1 9) 15 "P") (More (Private (declared (at 1
    19) 16 "T")) NoMore) (More (ConstrainedSubtype (declared (at 1 49) 17 "S") (mark (at 1 54) 16) (Named (at 1 62) 16
    (More (Attr attribute.First) NoMore)) (Named (at 1 73) 16 (More (Attr attribute.First) NoMore))) (More
    (ConstrainedSubtype (declared (at 1 90) 18 "U") (mark (at 1 95) 17) (Named (at 1 103) 16 (More (Attr attribute.Last)
    NoMore)) (Named (at 1 113) 16 (More (Attr attribute.Last) NoMore))) (More (TypeDecl (declared (at 1 126) 16 "T")
    (Enumeration (More (declared (at 1 132) 19 "A") (More (declared (at 1 135) 20 "B") NoMore))) (at 1 137)) NoMore))) ∷
    []))
unfolding typing
full_type_4 = refl

full_type_5 : BreaksSentence 4 (at 1 170) (program 22 (Package (declared (at 1 9) 15 "P") (More (Private (declared (at 1
    19) 16 "T")) (More (SubDecl (Front (declared (at 1 43) 17 "Q") NoMore NoMore)) NoMore)) (More (ConstrainedSubtype
    (declared (at 1 62) 18 "S") (mark (at 1 67) 16) (Named (at 1 75) 16 (More (Attr attribute.First) NoMore)) (Named (at
    1 86) 16 (More (Attr attribute.Last) NoMore))) (More (TypeDecl (declared (at 1 99) 16 "T") (Enumeration (More
    (declared (at 1 105) 19 "A") (More (declared (at 1 108) 20 "B") NoMore))) (at 1 110)) NoMore)) ∷ PackageBody
    (declared (at 1 132) 15 "P") (More (SubBody (Front (declared (at 1 147) 17 "Q") NoMore NoMore) (More (Objects (More
    (declared (at 1 152) 21 "Y") NoMore) false (Plain (mark (at 1 156) 18)) (More (Named (at 1 161) 19 NoMore) NoMore))
    NoMore) (More (Case (at 1 170) (Named (at 1 175) 21 NoMore) (More (When (More (Value (Named (at 1 185) 19 NoMore))
    NoMore) (More (Skip (at 1 190)) NoMore)) NoMore)) NoMore) (at 1 206)) NoMore) ∷ []))
unfolding typing
full_type_5 = refl

full_type_6 : IsTyped (program 22 (Package (declared (at 1 9) 15 "P") (More (Private (declared (at 1 19) 16 "T")) (More
    (SubDecl (Front (declared (at 1 43) 17 "Q") NoMore NoMore)) NoMore)) (More (ConstrainedSubtype (declared (at 1 62)
    18 "S") (mark (at 1 67) 16) (Named (at 1 75) 16 (More (Attr attribute.First) NoMore)) (Named (at 1 86) 16 (More
    (Attr attribute.First) NoMore))) (More (TypeDecl (declared (at 1 100) 16 "T") (Enumeration (More (declared (at 1
    106) 19 "A") (More (declared (at 1 109) 20 "B") NoMore))) (at 1 111)) NoMore)) ∷ PackageBody (declared (at 1 133) 15
    "P") (More (SubBody (Front (declared (at 1 148) 17 "Q") NoMore NoMore) (More (Objects (More (declared (at 1 153) 21
    "Y") NoMore) false (Plain (mark (at 1 157) 18)) (More (Named (at 1 162) 19 NoMore) NoMore)) NoMore) (More (Case (at
    1 171) (Named (at 1 176) 21 NoMore) (More (When (More (Value (Named (at 1 186) 19 NoMore)) NoMore) (More (Skip (at 1
    191)) NoMore)) NoMore)) NoMore) (at 1 207)) NoMore) ∷ []))
unfolding typing
full_type_6 = refl

full_type_7 : IsTyped (program 21 (Package (declared (at 1 9) 15 "P") (More (Private (declared (at 1 19) 16 "T"))
    NoMore) (More (Objects (More (declared (at 1 41) 17 "C") NoMore) true (Plain (mark (at 1 54) 16)) (More (Named (at 1
    59) 16 (More (Attr attribute.Last) NoMore)) NoMore)) (More (ConstrainedSubtype (declared (at 1 75) 18 "S") (mark (at
    1 80) 16) (Named (at 1 88) 17 NoMore) (Named (at 1 93) 17 NoMore)) (More (TypeDecl (declared (at 1 101) 16 "T")
    (Enumeration (More (declared (at 1 107) 19 "A") (More (declared (at 1 110) 20 "B") NoMore))) (at 1 112)) NoMore))) ∷
    []))
unfolding typing
full_type_7 = refl

full_type_8 : IsTyped (program 21 (Package (declared (at 1 9) 15 "P") (More (Private (declared (at 1 19) 16 "T"))
    NoMore) (More (Objects (More (declared (at 1 41) 17 "C") NoMore) true (Plain (mark (at 1 54) 3)) (More (Binary (at 1
    65) operator.Equal (Named (at 1 65) 16 (More (Attr attribute.First) NoMore)) (Named (at 1 75) 16 (More (Attr
    attribute.Last) NoMore))) NoMore)) (More (ConstrainedSubtype (declared (at 1 91) 18 "S") (mark (at 1 96) 3) (Named
    (at 1 110) 17 NoMore) (Named (at 1 115) 17 NoMore)) (More (TypeDecl (declared (at 1 123) 16 "T") (Enumeration (More
    (declared (at 1 129) 19 "A") (More (declared (at 1 132) 20 "B") NoMore))) (at 1 134)) NoMore))) ∷ []))
unfolding typing
full_type_8 = refl

full_type_9 : BreaksSentence 4 (at 1 188) (program 23 (Package (declared (at 1 9) 15 "P") (More (Private (declared (at 1
    19) 16 "T")) (More (SubDecl (Front (declared (at 1 43) 17 "Q") (More (Formals (More (declared (at 1 46) 18 "B")
    NoMore) mode.In (Plain (mark (at 1 50) 3))) NoMore) NoMore)) NoMore)) (More (Objects (More (declared (at 1 68) 19
    "C") NoMore) true (Plain (mark (at 1 81) 3)) (More (Binary (at 1 92) operator.Equal (Named (at 1 92) 16 (More (Attr
    attribute.First) NoMore)) (Named (at 1 102) 16 (More (Attr attribute.Last) NoMore))) NoMore)) (More (TypeDecl
    (declared (at 1 115) 16 "T") (Enumeration (More (declared (at 1 121) 20 "A") (More (declared (at 1 124) 21 "B")
    NoMore))) (at 1 126)) NoMore)) ∷ PackageBody (declared (at 1 148) 15 "P") (More (SubBody (Front (declared (at 1 163)
    17 "Q") (More (Formals (More (declared (at 1 166) 22 "B") NoMore) mode.In (Plain (mark (at 1 170) 3))) NoMore)
    NoMore) NoMore (More (Case (at 1 188) (Named (at 1 193) 22 NoMore) (More (When (More (Value (Named (at 1 203) 19
    NoMore)) NoMore) (More (Skip (at 1 208)) NoMore)) (More (When (More (Value (Named (at 1 219) 4 NoMore)) NoMore)
    (More (Skip (at 1 228)) NoMore)) NoMore))) NoMore) (at 1 244)) NoMore) ∷ []))
unfolding typing
full_type_9 = refl

full_type_10 : BreaksSentence 1 (at 1 46) (program 20 (Package (declared (at 1 9) 15 "P") (More (Private (declared (at 1
    19) 16 "T")) (More (ConstrainedSubtype (declared (at 1 41) 17 "S") (mark (at 1 46) 16) (Named (at 1 54) 16 (More
    (Attr attribute.First) NoMore)) (Named (at 1 65) 16 (More (Attr attribute.Last) NoMore))) NoMore)) (More (TypeDecl
    (declared (at 1 86) 16 "T") (Enumeration (More (declared (at 1 92) 18 "A") (More (declared (at 1 95) 19 "B")
    NoMore))) (at 1 97)) NoMore) ∷ []))
unfolding typing
full_type_10 = refl
