-- What follows from a fault isn't told before it.
--
-- tools/tree_terms.py makes this of the sources that data/cases.txt has under its name.
use Rattle.std.proofs.Common.{refl, [], ◌∷◌}
use Rattle.std.specs.Prelude.{false}
use Rattle.resolved_tree.specs.declared.operator.Attribute.TheVariants as attribute
use Rattle.place_names.specs.declared.act.Mode.TheVariants as mode
use Rattle.resolved_tree.specs.declared.operator.Operator.TheVariants as operator
use Rattle.resolved_tree.specs.Trees.{Access, Aggregate, All, Anonymous, Applied, Array, Assign, Attr, Binary, Bounds, Branch, Case, Components, ConstrainedSubtype, For, Formals, Front, If, Incomplete, Instance, Marked, More, Named, New, NoMore, Null, Number, Objects, Others, Package, PackageBody, Plain, Private, RangeOf, Record, Skip, SubBody, Subtype, TypeDecl, Value, When}
use Rattle.type_tests.proofs.ResolvedTrees.{actual, at, declared, given, mark, program, selected}
use Rattle.type_tests.proofs.TypeRules.{BreaksSentence, typing}

-- A component, an element or what is designated has a mark that denotes no type: that is told
-- first.
unknown_type_1 : BreaksSentence 1 (at 1 178) (program 22 (Package (declared (at 1 9) 15 "P") NoMore NoMore ∷ PackageBody
    (declared (at 1 34) 15 "P") (More (Incomplete (declared (at 1 44) 16 "Inner")) (More (TypeDecl (declared (at 1 56)
    17 "Link") (Access (mark (at 1 71) 16)) (at 1 76)) (More (Objects (More (declared (at 1 78) 18 "N") NoMore) false
    (Plain (mark (at 1 82) 0)) NoMore) (More (SubBody (Front (declared (at 1 101) 19 "R") (More (Formals (More (declared
    (at 1 104) 20 "L") NoMore) mode.In (Plain (mark (at 1 108) 17))) NoMore) NoMore) (More (Objects (More (declared (at
    1 117) 21 "B") NoMore) false (Plain (mark (at 1 121) 3)) NoMore) NoMore) (More (Assign (Named (at 1 136) 21 NoMore)
    (Named (at 1 141) 20 (More (selected "E") NoMore))) NoMore) (at 1 146)) (More (TypeDecl (declared (at 1 158) 16
    "Inner") (Record (More (Components (More (declared (at 1 174) 0 "E") NoMore) (mark (at 1 178) 18)) NoMore)) (at 1
    191)) NoMore))))) ∷ []))
unfolding typing
unknown_type_1 = refl

unknown_type_2 : BreaksSentence 1 (at 1 189) (program 21 (Package (declared (at 1 9) 15 "P") NoMore NoMore ∷ PackageBody
    (declared (at 1 34) 15 "P") (More (Incomplete (declared (at 1 44) 16 "Inner")) (More (TypeDecl (declared (at 1 56)
    17 "Link") (Access (mark (at 1 71) 16)) (at 1 76)) (More (Objects (More (declared (at 1 78) 18 "N") NoMore) false
    (Plain (mark (at 1 82) 0)) NoMore) (More (SubBody (Front (declared (at 1 101) 19 "R") (More (Formals (More (declared
    (at 1 104) 20 "L") NoMore) mode.In (Plain (mark (at 1 108) 17))) NoMore) NoMore) NoMore (More (If (at 1 124) (More
    (Branch (at 1 124) (Binary (at 1 127) operator.Equal (Named (at 1 127) 20 (More (selected "E") NoMore)) (Named (at 1
    133) 5 NoMore)) (More (Skip (at 1 143)) NoMore)) NoMore) NoMore) NoMore) (at 1 157)) (More (TypeDecl (declared (at 1
    169) 16 "Inner") (Record (More (Components (More (declared (at 1 185) 0 "E") NoMore) (mark (at 1 189) 18)) NoMore))
    (at 1 202)) NoMore))))) ∷ []))
unfolding typing
unknown_type_2 = refl

unknown_type_3 : BreaksSentence 1 (at 1 189) (program 21 (Package (declared (at 1 9) 15 "P") NoMore NoMore ∷ PackageBody
    (declared (at 1 34) 15 "P") (More (Incomplete (declared (at 1 44) 16 "Inner")) (More (TypeDecl (declared (at 1 56)
    17 "Link") (Access (mark (at 1 71) 16)) (at 1 76)) (More (Objects (More (declared (at 1 78) 18 "N") NoMore) false
    (Plain (mark (at 1 82) 0)) NoMore) (More (SubBody (Front (declared (at 1 101) 19 "R") (More (Formals (More (declared
    (at 1 104) 20 "L") NoMore) mode.In (Plain (mark (at 1 108) 17))) NoMore) NoMore) NoMore (More (If (at 1 124) (More
    (Branch (at 1 124) (Binary (at 1 127) operator.Equal (Named (at 1 127) 20 (More (selected "E") NoMore)) (Null (at 1
    133))) (More (Skip (at 1 143)) NoMore)) NoMore) NoMore) NoMore) (at 1 157)) (More (TypeDecl (declared (at 1 169) 16
    "Inner") (Record (More (Components (More (declared (at 1 185) 0 "E") NoMore) (mark (at 1 189) 18)) NoMore)) (at 1
    202)) NoMore))))) ∷ []))
unfolding typing
unknown_type_3 = refl

unknown_type_4 : BreaksSentence 1 (at 1 169) (program 21 (Package (declared (at 1 9) 15 "P") NoMore NoMore ∷ PackageBody
    (declared (at 1 34) 15 "P") (More (Incomplete (declared (at 1 44) 16 "Inner")) (More (TypeDecl (declared (at 1 56)
    17 "Link") (Access (mark (at 1 71) 16)) (at 1 76)) (More (Objects (More (declared (at 1 78) 18 "N") NoMore) false
    (Plain (mark (at 1 82) 0)) NoMore) (More (SubBody (Front (declared (at 1 101) 19 "R") (More (Formals (More (declared
    (at 1 104) 20 "L") NoMore) mode.In (Plain (mark (at 1 108) 17))) NoMore) NoMore) NoMore (More (Assign (Named (at 1
    124) 20 (More (selected "E") NoMore)) (Named (at 1 131) 5 NoMore)) NoMore) (at 1 137)) (More (TypeDecl (declared (at
    1 149) 16 "Inner") (Record (More (Components (More (declared (at 1 165) 0 "E") NoMore) (mark (at 1 169) 18))
    NoMore)) (at 1 182)) NoMore))))) ∷ []))
unfolding typing
unknown_type_4 = refl

unknown_type_5 : BreaksSentence 1 (at 1 188) (program 22 (Package (declared (at 1 9) 15 "P") NoMore NoMore ∷ PackageBody
    (declared (at 1 34) 15 "P") (More (Incomplete (declared (at 1 44) 16 "Inner")) (More (TypeDecl (declared (at 1 56)
    17 "Link") (Access (mark (at 1 71) 16)) (at 1 76)) (More (Objects (More (declared (at 1 78) 18 "N") NoMore) false
    (Plain (mark (at 1 82) 0)) NoMore) (More (SubBody (Front (declared (at 1 101) 19 "R") (More (Formals (More (declared
    (at 1 104) 20 "L") NoMore) mode.In (Plain (mark (at 1 108) 17))) NoMore) NoMore) (More (Objects (More (declared (at
    1 117) 21 "B") NoMore) false (Plain (mark (at 1 121) 3)) NoMore) NoMore) (More (Assign (Named (at 1 136) 21 NoMore)
    (Named (at 1 141) 20 (More (selected "E") (More (selected "V") (More All (More (Applied (actual (Number (at 1 152)
    1) NoMore)) NoMore)))))) NoMore) (at 1 156)) (More (TypeDecl (declared (at 1 168) 16 "Inner") (Record (More
    (Components (More (declared (at 1 184) 0 "E") NoMore) (mark (at 1 188) 18)) NoMore)) (at 1 201)) NoMore))))) ∷ []))
unfolding typing
unknown_type_5 = refl

unknown_type_6 : BreaksSentence 1 (at 1 197) (program 21 (Package (declared (at 1 9) 15 "P") NoMore NoMore ∷ PackageBody
    (declared (at 1 34) 15 "P") (More (Incomplete (declared (at 1 44) 16 "Inner")) (More (TypeDecl (declared (at 1 56)
    17 "Link") (Access (mark (at 1 71) 16)) (at 1 76)) (More (Objects (More (declared (at 1 78) 18 "N") NoMore) false
    (Plain (mark (at 1 82) 0)) NoMore) (More (SubBody (Front (declared (at 1 101) 19 "R") (More (Formals (More (declared
    (at 1 104) 20 "L") NoMore) mode.In (Plain (mark (at 1 108) 17))) NoMore) NoMore) NoMore (More (Case (at 1 124)
    (Named (at 1 129) 20 (More (selected "E") NoMore)) (More (When (More (Value (Named (at 1 141) 5 NoMore)) NoMore)
    (More (Skip (at 1 149)) NoMore)) NoMore)) NoMore) (at 1 165)) (More (TypeDecl (declared (at 1 177) 16 "Inner")
    (Record (More (Components (More (declared (at 1 193) 0 "E") NoMore) (mark (at 1 197) 18)) NoMore)) (at 1 210))
    NoMore))))) ∷ []))
unfolding typing
unknown_type_6 = refl

unknown_type_7 : BreaksSentence 1 (at 1 212) (program 23 (Package (declared (at 1 9) 15 "P") NoMore NoMore ∷ PackageBody
    (declared (at 1 34) 15 "P") (More (Incomplete (declared (at 1 44) 16 "Inner")) (More (TypeDecl (declared (at 1 56)
    17 "Link") (Access (mark (at 1 71) 16)) (at 1 76)) (More (Objects (More (declared (at 1 78) 18 "N") NoMore) false
    (Plain (mark (at 1 82) 0)) NoMore) (More (SubBody (Front (declared (at 1 101) 19 "R") (More (Formals (More (declared
    (at 1 104) 20 "L") NoMore) mode.In (Plain (mark (at 1 108) 17))) NoMore) NoMore) (More (Objects (More (declared (at
    1 117) 21 "B") NoMore) false (Plain (mark (at 1 121) 3)) NoMore) NoMore) (More (For (at 1 136) (declared (at 1 140)
    22 "I") false (Bounds (Named (at 1 145) 20 (More (selected "E") NoMore)) (Named (at 1 152) 5 NoMore)) (More (Assign
    (Named (at 1 162) 21 NoMore) (Named (at 1 167) 22 NoMore)) NoMore)) NoMore) (at 1 180)) (More (TypeDecl (declared
    (at 1 192) 16 "Inner") (Record (More (Components (More (declared (at 1 208) 0 "E") NoMore) (mark (at 1 212) 18))
    NoMore)) (at 1 225)) NoMore))))) ∷ []))
unfolding typing
unknown_type_7 = refl

unknown_type_8 : BreaksSentence 1 (at 1 196) (program 22 (Package (declared (at 1 9) 15 "P") NoMore NoMore ∷ PackageBody
    (declared (at 1 34) 15 "P") (More (Incomplete (declared (at 1 44) 16 "Inner")) (More (TypeDecl (declared (at 1 56)
    17 "Link") (Access (mark (at 1 71) 16)) (at 1 76)) (More (Objects (More (declared (at 1 78) 18 "N") NoMore) false
    (Plain (mark (at 1 82) 0)) NoMore) (More (SubBody (Front (declared (at 1 101) 19 "R") (More (Formals (More (declared
    (at 1 104) 20 "L") NoMore) mode.In (Plain (mark (at 1 108) 17))) NoMore) NoMore) NoMore (More (For (at 1 124)
    (declared (at 1 128) 21 "I") false (RangeOf (Named (at 1 133) 20 (More (selected "E") NoMore))) (More (Skip (at 1
    148)) NoMore)) NoMore) (at 1 164)) (More (TypeDecl (declared (at 1 176) 16 "Inner") (Record (More (Components (More
    (declared (at 1 192) 0 "E") NoMore) (mark (at 1 196) 18)) NoMore)) (at 1 209)) NoMore))))) ∷ []))
unfolding typing
unknown_type_8 = refl

unknown_type_9 : BreaksSentence 1 (at 1 184) (program 22 (Package (declared (at 1 9) 15 "P") NoMore NoMore ∷ PackageBody
    (declared (at 1 34) 15 "P") (More (Incomplete (declared (at 1 44) 16 "Inner")) (More (TypeDecl (declared (at 1 56)
    17 "Link") (Access (mark (at 1 71) 16)) (at 1 76)) (More (Objects (More (declared (at 1 78) 18 "N") NoMore) false
    (Plain (mark (at 1 82) 0)) NoMore) (More (SubBody (Front (declared (at 1 101) 19 "R") (More (Formals (More (declared
    (at 1 104) 20 "L") NoMore) mode.In (Plain (mark (at 1 108) 17))) NoMore) NoMore) (More (Objects (More (declared (at
    1 117) 21 "B") NoMore) false (Plain (mark (at 1 121) 3)) NoMore) NoMore) (More (Assign (Named (at 1 136) 21 NoMore)
    (Named (at 1 141) 20 (More (selected "E") (More (Attr attribute.First) NoMore)))) NoMore) (at 1 152)) (More
    (TypeDecl (declared (at 1 164) 16 "Inner") (Record (More (Components (More (declared (at 1 180) 0 "E") NoMore) (mark
    (at 1 184) 18)) NoMore)) (at 1 197)) NoMore))))) ∷ []))
unfolding typing
unknown_type_9 = refl

unknown_type_10 : BreaksSentence 1 (at 1 186) (program 22 (Package (declared (at 1 9) 15 "P") NoMore NoMore ∷
    PackageBody (declared (at 1 34) 15 "P") (More (Incomplete (declared (at 1 44) 16 "Inner")) (More (TypeDecl (declared
    (at 1 56) 17 "Link") (Access (mark (at 1 71) 16)) (at 1 76)) (More (Objects (More (declared (at 1 78) 18 "N")
    NoMore) false (Plain (mark (at 1 82) 0)) NoMore) (More (SubBody (Front (declared (at 1 101) 19 "R") (More (Formals
    (More (declared (at 1 104) 20 "L") NoMore) mode.In (Plain (mark (at 1 108) 17))) NoMore) NoMore) (More (Objects
    (More (declared (at 1 117) 21 "O") NoMore) false (Anonymous (at 1 121) false (mark (at 1 128) 16)) (More (Named (at
    1 137) 20 (More (selected "E") NoMore)) NoMore)) NoMore) (More (Skip (at 1 148)) NoMore) (at 1 154)) (More (TypeDecl
    (declared (at 1 166) 16 "Inner") (Record (More (Components (More (declared (at 1 182) 0 "E") NoMore) (mark (at 1
    186) 18)) NoMore)) (at 1 199)) NoMore))))) ∷ []))
unfolding typing
unknown_type_10 = refl

unknown_type_11 : BreaksSentence 1 (at 1 187) (program 22 (Package (declared (at 1 9) 15 "P") NoMore NoMore ∷
    PackageBody (declared (at 1 34) 15 "P") (More (Incomplete (declared (at 1 44) 16 "Inner")) (More (TypeDecl (declared
    (at 1 56) 17 "Link") (Access (mark (at 1 71) 16)) (at 1 76)) (More (Objects (More (declared (at 1 78) 18 "N")
    NoMore) false (Plain (mark (at 1 82) 0)) NoMore) (More (SubBody (Front (declared (at 1 101) 19 "R") (More (Formals
    (More (declared (at 1 104) 20 "L") NoMore) mode.In (Plain (mark (at 1 108) 17))) NoMore) NoMore) (More (Objects
    (More (declared (at 1 117) 21 "B") NoMore) false (Plain (mark (at 1 121) 3)) NoMore) NoMore) (More (Assign (Named
    (at 1 136) 21 NoMore) (Named (at 1 141) 20 (More (Applied (actual (Number (at 1 144) 1) NoMore)) NoMore))) NoMore)
    (at 1 148)) (More (TypeDecl (declared (at 1 160) 16 "Inner") (Array (Bounds (Number (at 1 176) 1) (Number (at 1 181)
    2)) (mark (at 1 187) 18)) (at 1 188)) NoMore))))) ∷ []))
unfolding typing
unknown_type_11 = refl

unknown_type_12 : BreaksSentence 1 (at 1 102) (program 20 (Package (declared (at 1 9) 15 "P") (More (Private (declared
    (at 1 19) 16 "T")) NoMore) (More (Objects (More (declared (at 1 41) 17 "N") NoMore) false (Plain (mark (at 1 45) 0))
    NoMore) (More (Objects (More (declared (at 1 54) 18 "X") NoMore) false (Plain (mark (at 1 58) 16)) NoMore) (More
    (Objects (More (declared (at 1 61) 19 "B") NoMore) false (Plain (mark (at 1 65) 3)) (More (Named (at 1 76) 18 (More
    (selected "V") NoMore)) NoMore)) (More (TypeDecl (declared (at 1 86) 16 "T") (Record (More (Components (More
    (declared (at 1 98) 0 "V") NoMore) (mark (at 1 102) 17)) NoMore)) (at 1 115)) NoMore)))) ∷ []))
unfolding typing
unknown_type_12 = refl

unknown_type_13 : BreaksSentence 1 (at 1 111) (program 20 (Package (declared (at 1 9) 15 "P") (More (Private (declared
    (at 1 19) 16 "T")) NoMore) (More (Objects (More (declared (at 1 41) 17 "N") NoMore) false (Plain (mark (at 1 45) 0))
    NoMore) (More (Objects (More (declared (at 1 54) 18 "X") NoMore) false (Plain (mark (at 1 58) 16)) NoMore) (More
    (Objects (More (declared (at 1 61) 19 "B") NoMore) false (Plain (mark (at 1 65) 3)) (More (Named (at 1 76) 18 (More
    (Applied (actual (Number (at 1 79) 1) NoMore)) NoMore)) NoMore)) (More (TypeDecl (declared (at 1 88) 16 "T") (Array
    (Bounds (Number (at 1 100) 1) (Number (at 1 105) 2)) (mark (at 1 111) 17)) (at 1 112)) NoMore)))) ∷ []))
unfolding typing
unknown_type_13 = refl

unknown_type_14 : BreaksSentence 1 (at 1 180) (program 22 (Package (declared (at 1 9) 15 "P") NoMore NoMore ∷
    PackageBody (declared (at 1 34) 15 "P") (More (Incomplete (declared (at 1 44) 16 "Inner")) (More (TypeDecl (declared
    (at 1 56) 17 "Link") (Access (mark (at 1 71) 16)) (at 1 76)) (More (Objects (More (declared (at 1 78) 18 "N")
    NoMore) false (Plain (mark (at 1 82) 0)) NoMore) (More (SubBody (Front (declared (at 1 101) 19 "R") (More (Formals
    (More (declared (at 1 104) 20 "L") NoMore) mode.In (Plain (mark (at 1 108) 17))) NoMore) NoMore) (More (Objects
    (More (declared (at 1 117) 21 "B") NoMore) false (Plain (mark (at 1 121) 3)) NoMore) NoMore) (More (Assign (Named
    (at 1 136) 21 NoMore) (Named (at 1 141) 20 (More All (More All NoMore)))) NoMore) (at 1 152)) (More (TypeDecl
    (declared (at 1 164) 16 "Inner") (Access (mark (at 1 180) 18)) (at 1 181)) NoMore))))) ∷ []))
unfolding typing
unknown_type_14 = refl

unknown_type_15 : BreaksSentence 1 (at 1 178) (program 22 (Package (declared (at 1 9) 15 "P") NoMore NoMore ∷
    PackageBody (declared (at 1 34) 15 "P") (More (Incomplete (declared (at 1 44) 16 "Inner")) (More (TypeDecl (declared
    (at 1 56) 17 "Link") (Access (mark (at 1 71) 16)) (at 1 76)) (More (Objects (More (declared (at 1 78) 18 "N")
    NoMore) false (Plain (mark (at 1 82) 0)) NoMore) (More (SubBody (Front (declared (at 1 101) 19 "R") (More (Formals
    (More (declared (at 1 104) 20 "L") NoMore) mode.In (Plain (mark (at 1 108) 17))) NoMore) NoMore) (More (Objects
    (More (declared (at 1 117) 21 "B") NoMore) false (Plain (mark (at 1 121) 3)) NoMore) NoMore) (More (Assign (Named
    (at 1 136) 21 NoMore) (Named (at 1 141) 20 (More All (More (selected "V") NoMore)))) NoMore) (at 1 150)) (More
    (TypeDecl (declared (at 1 162) 16 "Inner") (Access (mark (at 1 178) 18)) (at 1 179)) NoMore))))) ∷ []))
unfolding typing
unknown_type_15 = refl

unknown_type_16 : BreaksSentence 1 (at 1 93) (program 19 (Package (declared (at 1 9) 15 "P") (More (Private (declared
    (at 1 19) 16 "T")) NoMore) (More (Objects (More (declared (at 1 41) 17 "N") NoMore) false (Plain (mark (at 1 45) 0))
    NoMore) (More (Objects (More (declared (at 1 54) 18 "X") NoMore) false (Plain (mark (at 1 58) 16)) (More (New (at 1
    63) (mark (at 1 67) 0) NoMore) NoMore)) (More (TypeDecl (declared (at 1 81) 16 "T") (Access (mark (at 1 93) 17)) (at
    1 94)) NoMore))) ∷ []))
unfolding typing
unknown_type_16 = refl

unknown_type_17 : BreaksSentence 1 (at 1 97) (program 19 (Package (declared (at 1 9) 15 "P") (More (Private (declared
    (at 1 19) 16 "T")) NoMore) (More (Objects (More (declared (at 1 41) 17 "N") NoMore) false (Plain (mark (at 1 45) 0))
    NoMore) (More (Objects (More (declared (at 1 54) 18 "X") NoMore) false (Plain (mark (at 1 58) 16)) (More (Aggregate
    (at 1 63) (given "V" (Named (at 1 69) 5 NoMore) NoMore)) NoMore)) (More (TypeDecl (declared (at 1 81) 16 "T")
    (Record (More (Components (More (declared (at 1 93) 0 "V") NoMore) (mark (at 1 97) 17)) NoMore)) (at 1 110))
    NoMore))) ∷ []))
unfolding typing
unknown_type_17 = refl

unknown_type_18 : BreaksSentence 1 (at 1 112) (program 19 (Package (declared (at 1 9) 15 "P") (More (Private (declared
    (at 1 19) 16 "T")) NoMore) (More (Objects (More (declared (at 1 41) 17 "N") NoMore) false (Plain (mark (at 1 45) 0))
    NoMore) (More (Objects (More (declared (at 1 54) 18 "X") NoMore) false (Plain (mark (at 1 58) 16)) (More (Aggregate
    (at 1 63) (given "V" (Aggregate (at 1 69) (given "W" (Aggregate (at 1 75) (actual (Named (at 1 76) 5 NoMore) (actual
    (Null (at 1 82)) NoMore))) NoMore)) NoMore)) NoMore)) (More (TypeDecl (declared (at 1 96) 16 "T") (Record (More
    (Components (More (declared (at 1 108) 0 "V") NoMore) (mark (at 1 112) 17)) NoMore)) (at 1 125)) NoMore))) ∷ []))
unfolding typing
unknown_type_18 = refl

unknown_type_19 : BreaksSentence 1 (at 1 109) (program 19 (Package (declared (at 1 9) 15 "P") (More (Private (declared
    (at 1 19) 16 "T")) NoMore) (More (Objects (More (declared (at 1 41) 17 "N") NoMore) false (Plain (mark (at 1 45) 0))
    NoMore) (More (Objects (More (declared (at 1 54) 18 "X") NoMore) false (Plain (mark (at 1 58) 16)) (More (Aggregate
    (at 1 63) (given "V" (Others (at 1 69) (Named (at 1 80) 5 NoMore)) NoMore)) NoMore)) (More (TypeDecl (declared (at 1
    93) 16 "T") (Record (More (Components (More (declared (at 1 105) 0 "V") NoMore) (mark (at 1 109) 17)) NoMore)) (at 1
    122)) NoMore))) ∷ []))
unfolding typing
unknown_type_19 = refl

unknown_type_20 : BreaksSentence 1 (at 1 109) (program 19 (Package (declared (at 1 9) 15 "P") (More (Private (declared
    (at 1 19) 16 "T")) NoMore) (More (Objects (More (declared (at 1 41) 17 "N") NoMore) false (Plain (mark (at 1 45) 0))
    NoMore) (More (Objects (More (declared (at 1 54) 18 "X") NoMore) false (Plain (mark (at 1 58) 16)) (More (Others (at
    1 63) (Named (at 1 74) 5 NoMore)) NoMore)) (More (TypeDecl (declared (at 1 86) 16 "T") (Array (Bounds (Number (at 1
    98) 1) (Number (at 1 103) 2)) (mark (at 1 109) 17)) (at 1 110)) NoMore))) ∷ []))
unfolding typing
unknown_type_20 = refl

unknown_type_21 : BreaksSentence 1 (at 1 167) (program 19 (Package (declared (at 1 42) 15 "P") (More (Private (declared
    (at 1 52) 16 "T")) NoMore) (More (Objects (More (declared (at 1 74) 17 "N") NoMore) false (Plain (mark (at 1 78) 0))
    NoMore) (More (Instance (declared (at 1 97) 18 "Free") (mark (at 1 109) 14) (actual (Named (at 1 137) 3 NoMore)
    (actual (Named (at 1 146) 16 NoMore) NoMore))) (More (TypeDecl (declared (at 1 155) 16 "T") (Access (mark (at 1 167)
    17)) (at 1 168)) NoMore))) ∷ []))
unfolding typing
unknown_type_21 = refl

-- So is the mark of a subtype.
unknown_type_22 : BreaksSentence 1 (at 1 166) (program 23 (Package (declared (at 1 9) 15 "P") NoMore NoMore ∷
    PackageBody (declared (at 1 34) 15 "P") (More (Incomplete (declared (at 1 44) 16 "Inner")) (More (TypeDecl (declared
    (at 1 56) 17 "Link") (Access (mark (at 1 71) 16)) (at 1 76)) (More (Objects (More (declared (at 1 78) 18 "N")
    NoMore) false (Plain (mark (at 1 82) 0)) NoMore) (More (SubBody (Front (declared (at 1 101) 19 "R") (More (Formals
    (More (declared (at 1 104) 20 "L") NoMore) mode.In (Plain (mark (at 1 108) 17))) NoMore) NoMore) (More (Objects
    (More (declared (at 1 117) 21 "B") NoMore) false (Plain (mark (at 1 121) 3)) NoMore) NoMore) (More (Assign (Named
    (at 1 136) 21 NoMore) (Named (at 1 141) 20 (More (selected "E") NoMore))) NoMore) (at 1 146)) (More (Subtype
    (declared (at 1 161) 22 "S") (mark (at 1 166) 18)) (More (TypeDecl (declared (at 1 174) 16 "Inner") (Record (More
    (Components (More (declared (at 1 190) 0 "E") NoMore) (mark (at 1 194) 22)) NoMore)) (at 1 207)) NoMore)))))) ∷ []))
unfolding typing
unknown_type_22 = refl

unknown_type_23 : BreaksSentence 1 (at 1 166) (program 23 (Package (declared (at 1 9) 15 "P") NoMore NoMore ∷
    PackageBody (declared (at 1 34) 15 "P") (More (Incomplete (declared (at 1 44) 16 "Inner")) (More (TypeDecl (declared
    (at 1 56) 17 "Link") (Access (mark (at 1 71) 16)) (at 1 76)) (More (Objects (More (declared (at 1 78) 18 "N")
    NoMore) false (Plain (mark (at 1 82) 0)) NoMore) (More (SubBody (Front (declared (at 1 101) 19 "R") (More (Formals
    (More (declared (at 1 104) 20 "L") NoMore) mode.In (Plain (mark (at 1 108) 17))) NoMore) NoMore) (More (Objects
    (More (declared (at 1 117) 21 "B") NoMore) false (Plain (mark (at 1 121) 3)) NoMore) NoMore) (More (Assign (Named
    (at 1 136) 21 NoMore) (Named (at 1 141) 20 (More (selected "E") NoMore))) NoMore) (at 1 146)) (More
    (ConstrainedSubtype (declared (at 1 161) 22 "S") (mark (at 1 166) 18) (Number (at 1 174) 1) (Number (at 1 179) 2))
    (More (TypeDecl (declared (at 1 187) 16 "Inner") (Record (More (Components (More (declared (at 1 203) 0 "E") NoMore)
    (mark (at 1 207) 22)) NoMore)) (at 1 220)) NoMore)))))) ∷ []))
unfolding typing
unknown_type_23 = refl

-- What doesn't follow from it is told where it stands.
known_type_1 : BreaksSentence 1 (at 1 141) (program 22 (Package (declared (at 1 9) 15 "P") NoMore NoMore ∷ PackageBody
    (declared (at 1 34) 15 "P") (More (Incomplete (declared (at 1 44) 16 "Inner")) (More (TypeDecl (declared (at 1 56)
    17 "Link") (Access (mark (at 1 71) 16)) (at 1 76)) (More (Objects (More (declared (at 1 78) 18 "N") NoMore) false
    (Plain (mark (at 1 82) 0)) NoMore) (More (SubBody (Front (declared (at 1 101) 19 "R") (More (Formals (More (declared
    (at 1 104) 20 "L") NoMore) mode.In (Plain (mark (at 1 108) 17))) NoMore) NoMore) (More (Objects (More (declared (at
    1 117) 21 "B") NoMore) false (Plain (mark (at 1 121) 3)) NoMore) NoMore) (More (Assign (Named (at 1 136) 21 NoMore)
    (Named (at 1 141) 20 (More (selected "F") NoMore))) NoMore) (at 1 146)) (More (TypeDecl (declared (at 1 158) 16
    "Inner") (Record (More (Components (More (declared (at 1 174) 0 "E") NoMore) (mark (at 1 178) 18)) (More (Components
    (More (declared (at 1 181) 0 "F") NoMore) (mark (at 1 185) 0)) NoMore))) (at 1 204)) NoMore))))) ∷ []))
unfolding typing
known_type_1 = refl

known_type_2 : BreaksSentence 1 (at 1 146) (program 22 (Package (declared (at 1 9) 15 "P") NoMore NoMore ∷ PackageBody
    (declared (at 1 34) 15 "P") (More (Incomplete (declared (at 1 44) 16 "Inner")) (More (TypeDecl (declared (at 1 56)
    17 "Link") (Access (mark (at 1 71) 16)) (at 1 76)) (More (Objects (More (declared (at 1 78) 18 "N") NoMore) false
    (Plain (mark (at 1 82) 0)) NoMore) (More (SubBody (Front (declared (at 1 101) 19 "R") (More (Formals (More (declared
    (at 1 104) 20 "L") NoMore) mode.In (Plain (mark (at 1 108) 17))) NoMore) NoMore) (More (Objects (More (declared (at
    1 117) 21 "B") NoMore) false (Plain (mark (at 1 121) 3)) NoMore) NoMore) (More (Assign (Named (at 1 136) 21 NoMore)
    (Named (at 1 141) 20 (More (selected "E") (More (Applied (actual (Named (at 1 146) 5 NoMore) NoMore)) NoMore))))
    NoMore) (at 1 153)) (More (TypeDecl (declared (at 1 165) 16 "Inner") (Record (More (Components (More (declared (at 1
    181) 0 "E") NoMore) (mark (at 1 185) 18)) NoMore)) (at 1 198)) NoMore))))) ∷ []))
unfolding typing
known_type_2 = refl

known_type_3 : BreaksSentence 1 (at 1 64) (program 19 (Package (declared (at 1 9) 15 "P") (More (Private (declared (at 1
    19) 16 "T")) NoMore) (More (Objects (More (declared (at 1 41) 17 "N") NoMore) false (Plain (mark (at 1 45) 0))
    NoMore) (More (Objects (More (declared (at 1 54) 18 "X") NoMore) false (Plain (mark (at 1 58) 16)) (More (Aggregate
    (at 1 63) (actual (Named (at 1 64) 5 NoMore) (actual (Number (at 1 70) 1) (actual (Number (at 1 73) 2) NoMore))))
    NoMore)) (More (TypeDecl (declared (at 1 82) 16 "T") (Array (Bounds (Number (at 1 94) 1) (Named (at 1 99) 17
    NoMore)) (mark (at 1 105) 0)) (at 1 112)) NoMore))) ∷ []))
unfolding typing
known_type_3 = refl

known_type_4 : BreaksSentence 1 (at 1 79) (program 19 (Package (declared (at 1 9) 15 "P") (More (Private (declared (at 1
    19) 16 "T")) NoMore) (More (Objects (More (declared (at 1 41) 17 "N") NoMore) false (Plain (mark (at 1 45) 0))
    NoMore) (More (Objects (More (declared (at 1 54) 18 "X") NoMore) false (Plain (mark (at 1 58) 16)) (More (Aggregate
    (at 1 63) (given "V" (Aggregate (at 1 69) (given "W" (Binary (at 1 75) operator.Add (Number (at 1 75) 1) (Named (at
    1 79) 5 NoMore)) NoMore)) NoMore)) NoMore)) (More (TypeDecl (declared (at 1 92) 16 "T") (Record (More (Components
    (More (declared (at 1 104) 0 "V") NoMore) (mark (at 1 108) 17)) NoMore)) (at 1 121)) NoMore))) ∷ []))
unfolding typing
known_type_4 = refl

-- An array whose bounds aren't known has no count of elements.
unknown_count_1 : BreaksSentence 7 (at 1 96) (program 19 (Package (declared (at 1 9) 15 "P") (More (Private (declared
    (at 1 19) 16 "T")) NoMore) (More (Objects (More (declared (at 1 41) 17 "N") NoMore) false (Plain (mark (at 1 45) 0))
    NoMore) (More (Objects (More (declared (at 1 54) 18 "X") NoMore) false (Plain (mark (at 1 58) 16)) (More (Aggregate
    (at 1 63) (actual (Number (at 1 64) 1) (actual (Number (at 1 67) 2) (actual (Number (at 1 70) 3) NoMore)))) NoMore))
    (More (TypeDecl (declared (at 1 79) 16 "T") (Array (Bounds (Number (at 1 91) 1) (Named (at 1 96) 17 NoMore)) (mark
    (at 1 102) 0)) (at 1 109)) NoMore))) ∷ []))
unfolding typing
unknown_count_1 = refl

unknown_count_2 : BreaksSentence 1 (at 1 96) (program 19 (Package (declared (at 1 9) 15 "P") (More (Private (declared
    (at 1 19) 16 "T")) NoMore) (More (Objects (More (declared (at 1 41) 17 "N") NoMore) false (Plain (mark (at 1 45) 0))
    NoMore) (More (Objects (More (declared (at 1 54) 18 "X") NoMore) false (Plain (mark (at 1 58) 16)) (More (Aggregate
    (at 1 63) (actual (Number (at 1 64) 1) (actual (Number (at 1 67) 2) (actual (Number (at 1 70) 3) NoMore)))) NoMore))
    (More (TypeDecl (declared (at 1 79) 16 "T") (Array (Bounds (Number (at 1 91) 1) (Named (at 1 96) 5 NoMore)) (mark
    (at 1 105) 0)) (at 1 112)) NoMore))) ∷ []))
unfolding typing
unknown_count_2 = refl

unknown_count_3 : BreaksSentence 1 (at 1 91) (program 19 (Package (declared (at 1 9) 15 "P") (More (Private (declared
    (at 1 19) 16 "T")) NoMore) (More (Objects (More (declared (at 1 41) 17 "N") NoMore) false (Plain (mark (at 1 45) 0))
    NoMore) (More (Objects (More (declared (at 1 54) 18 "X") NoMore) false (Plain (mark (at 1 58) 16)) (More (Aggregate
    (at 1 63) (actual (Number (at 1 64) 1) (actual (Number (at 1 67) 2) (actual (Number (at 1 70) 3) NoMore)))) NoMore))
    (More (TypeDecl (declared (at 1 79) 16 "T") (Array (Marked (mark (at 1 91) 17)) (mark (at 1 97) 0)) (at 1 104))
    NoMore))) ∷ []))
unfolding typing
unknown_count_3 = refl

unknown_count_4 : BreaksSentence 1 (at 1 91) (program 19 (Package (declared (at 1 9) 15 "P") (More (Private (declared
    (at 1 19) 16 "T")) NoMore) (More (Objects (More (declared (at 1 41) 17 "N") NoMore) false (Plain (mark (at 1 45) 0))
    NoMore) (More (Objects (More (declared (at 1 54) 18 "X") NoMore) false (Plain (mark (at 1 58) 16)) (More (Aggregate
    (at 1 63) (actual (Number (at 1 64) 1) (actual (Number (at 1 67) 2) (actual (Number (at 1 70) 3) NoMore)))) NoMore))
    (More (TypeDecl (declared (at 1 79) 16 "T") (Array (Marked (mark (at 1 91) 3)) (mark (at 1 103) 0)) (at 1 110))
    NoMore))) ∷ []))
unfolding typing
unknown_count_4 = refl

unknown_count_5 : BreaksSentence 7 (at 1 106) (program 20 (Package (declared (at 1 9) 15 "P") (More (Private (declared
    (at 1 19) 16 "T")) NoMore) (More (Objects (More (declared (at 1 41) 17 "N") NoMore) false (Plain (mark (at 1 45) 0))
    NoMore) (More (Objects (More (declared (at 1 54) 18 "X") NoMore) false (Plain (mark (at 1 58) 16)) (More (Aggregate
    (at 1 63) (actual (Number (at 1 64) 1) (actual (Number (at 1 67) 2) (actual (Number (at 1 70) 3) NoMore)))) NoMore))
    (More (ConstrainedSubtype (declared (at 1 82) 19 "S") (mark (at 1 87) 0) (Number (at 1 101) 1) (Named (at 1 106) 17
    NoMore)) (More (TypeDecl (declared (at 1 114) 16 "T") (Array (Marked (mark (at 1 126) 19)) (mark (at 1 132) 0)) (at
    1 139)) NoMore)))) ∷ []))
unfolding typing
unknown_count_5 = refl

unknown_count_6 : BreaksSentence 4 (at 1 63) (program 19 (Package (declared (at 1 9) 15 "P") (More (Private (declared
    (at 1 19) 16 "T")) NoMore) (More (Objects (More (declared (at 1 41) 17 "N") NoMore) false (Plain (mark (at 1 45) 0))
    NoMore) (More (Objects (More (declared (at 1 54) 18 "X") NoMore) false (Plain (mark (at 1 58) 16)) (More (Aggregate
    (at 1 63) (actual (Number (at 1 64) 1) (actual (Number (at 1 67) 2) (actual (Number (at 1 70) 3) NoMore)))) NoMore))
    (More (TypeDecl (declared (at 1 79) 16 "T") (Array (Bounds (Number (at 1 91) 1) (Number (at 1 96) 2)) (mark (at 1
    102) 17)) (at 1 103)) NoMore))) ∷ []))
unfolding typing
unknown_count_6 = refl
