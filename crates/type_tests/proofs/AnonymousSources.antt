-- Sources of anonymous access types: at one token the lower of K1, K5 and K6.
--
-- tools/tree_terms.py makes this of the sources that data/cases.txt has under its name.
use Rattle.std.proofs.Common.{refl, [], ◌∷◌}
use Rattle.std.specs.Prelude.{false, true}
use Rattle.place_names.specs.declared.act.Mode.TheVariants as mode
use Rattle.resolved_tree.specs.Trees.{Access, Anonymous, Assign, Components, Formals, Front, More, Named, New, NoMore, Null, Objects, Package, PackageBody, Parens, Plain, Record, Return, Skip, SubBody, SubDecl, TypeDecl}
use Rattle.type_tests.proofs.ResolvedTrees.{at, declared, mark, program}
use Rattle.type_tests.proofs.TypeRules.{BreaksSentence, typing}

-- The source of an object or result of an anonymous access type has another type.
source_type_1 : BreaksSentence 1 (at 1 342) (program 25 (Package (declared (at 1 9) 15 "P") (More (TypeDecl (declared
    (at 1 19) 16 "Cell") (Record (More (Components (More (declared (at 1 34) 0 "V") NoMore) (mark (at 1 38) 0)) NoMore))
    (at 1 57)) (More (TypeDecl (declared (at 1 64) 17 "List") (Access (mark (at 1 79) 16)) (at 1 83)) (More (TypeDecl
    (declared (at 1 90) 18 "Ptr") (Access (mark (at 1 104) 0)) (at 1 111)) (More (SubDecl (Front (declared (at 1 122) 19
    "G") NoMore (More (Plain (mark (at 1 131) 17)) NoMore))) (More (SubDecl (Front (declared (at 1 146) 20 "H") NoMore
    (More (Plain (mark (at 1 155) 18)) NoMore))) NoMore))))) NoMore ∷ PackageBody (declared (at 1 180) 15 "P") (More
    (SubBody (Front (declared (at 1 194) 19 "G") NoMore (More (Plain (mark (at 1 203) 17)) NoMore)) NoMore (More (Return
    (at 1 217) (More (Null (at 1 224)) NoMore)) NoMore) (at 1 230)) (More (SubBody (Front (declared (at 1 246) 20 "H")
    NoMore (More (Plain (mark (at 1 255) 18)) NoMore)) NoMore (More (Return (at 1 268) (More (Null (at 1 275)) NoMore))
    NoMore) (at 1 281)) (More (SubBody (Front (declared (at 1 298) 21 "Q") (More (Formals (More (declared (at 1 301) 22
    "X") NoMore) mode.In (Plain (mark (at 1 305) 17))) (More (Formals (More (declared (at 1 311) 23 "Y") NoMore) mode.In
    (Plain (mark (at 1 315) 18))) NoMore)) NoMore) (More (Objects (More (declared (at 1 323) 24 "B") NoMore) false
    (Anonymous (at 1 327) false (mark (at 1 334) 16)) (More (Named (at 1 342) 20 NoMore) NoMore)) NoMore) (More (Skip
    (at 1 351)) NoMore) (at 1 357)) NoMore))) ∷ []))
unfolding typing
source_type_1 = refl

source_type_2 : BreaksSentence 1 (at 1 351) (program 25 (Package (declared (at 1 9) 15 "P") (More (TypeDecl (declared
    (at 1 19) 16 "Cell") (Record (More (Components (More (declared (at 1 34) 0 "V") NoMore) (mark (at 1 38) 0)) NoMore))
    (at 1 57)) (More (TypeDecl (declared (at 1 64) 17 "List") (Access (mark (at 1 79) 16)) (at 1 83)) (More (TypeDecl
    (declared (at 1 90) 18 "Ptr") (Access (mark (at 1 104) 0)) (at 1 111)) (More (SubDecl (Front (declared (at 1 122) 19
    "G") NoMore (More (Plain (mark (at 1 131) 17)) NoMore))) (More (SubDecl (Front (declared (at 1 146) 20 "H") NoMore
    (More (Plain (mark (at 1 155) 18)) NoMore))) NoMore))))) NoMore ∷ PackageBody (declared (at 1 180) 15 "P") (More
    (SubBody (Front (declared (at 1 194) 19 "G") NoMore (More (Plain (mark (at 1 203) 17)) NoMore)) NoMore (More (Return
    (at 1 217) (More (Null (at 1 224)) NoMore)) NoMore) (at 1 230)) (More (SubBody (Front (declared (at 1 246) 20 "H")
    NoMore (More (Plain (mark (at 1 255) 18)) NoMore)) NoMore (More (Return (at 1 268) (More (Null (at 1 275)) NoMore))
    NoMore) (at 1 281)) (More (SubBody (Front (declared (at 1 298) 21 "Q") (More (Formals (More (declared (at 1 301) 22
    "X") NoMore) mode.In (Plain (mark (at 1 305) 17))) (More (Formals (More (declared (at 1 311) 23 "Y") NoMore) mode.In
    (Plain (mark (at 1 315) 18))) NoMore)) NoMore) (More (Objects (More (declared (at 1 323) 24 "B") NoMore) false
    (Anonymous (at 1 327) true (mark (at 1 343) 16)) (More (Parens (at 1 351) (Named (at 1 352) 23 NoMore)) NoMore))
    NoMore) (More (Skip (at 1 362)) NoMore) (at 1 368)) NoMore))) ∷ []))
unfolding typing
source_type_2 = refl

source_type_3 : BreaksSentence 1 (at 1 351) (program 25 (Package (declared (at 1 9) 15 "P") (More (TypeDecl (declared
    (at 1 19) 16 "Cell") (Record (More (Components (More (declared (at 1 34) 0 "V") NoMore) (mark (at 1 38) 0)) NoMore))
    (at 1 57)) (More (TypeDecl (declared (at 1 64) 17 "List") (Access (mark (at 1 79) 16)) (at 1 83)) (More (TypeDecl
    (declared (at 1 90) 18 "Ptr") (Access (mark (at 1 104) 0)) (at 1 111)) (More (SubDecl (Front (declared (at 1 122) 19
    "G") NoMore (More (Plain (mark (at 1 131) 17)) NoMore))) (More (SubDecl (Front (declared (at 1 146) 20 "H") NoMore
    (More (Plain (mark (at 1 155) 18)) NoMore))) NoMore))))) NoMore ∷ PackageBody (declared (at 1 180) 15 "P") (More
    (SubBody (Front (declared (at 1 194) 19 "G") NoMore (More (Plain (mark (at 1 203) 17)) NoMore)) NoMore (More (Return
    (at 1 217) (More (Null (at 1 224)) NoMore)) NoMore) (at 1 230)) (More (SubBody (Front (declared (at 1 246) 20 "H")
    NoMore (More (Plain (mark (at 1 255) 18)) NoMore)) NoMore (More (Return (at 1 268) (More (Null (at 1 275)) NoMore))
    NoMore) (at 1 281)) (More (SubBody (Front (declared (at 1 298) 21 "Q") (More (Formals (More (declared (at 1 301) 22
    "X") NoMore) mode.In (Plain (mark (at 1 305) 17))) (More (Formals (More (declared (at 1 311) 23 "Y") NoMore) mode.In
    (Plain (mark (at 1 315) 18))) NoMore)) NoMore) (More (Objects (More (declared (at 1 323) 24 "B") NoMore) false
    (Anonymous (at 1 327) true (mark (at 1 343) 16)) (More (Parens (at 1 351) (Named (at 1 352) 20 NoMore)) NoMore))
    NoMore) (More (Skip (at 1 362)) NoMore) (at 1 368)) NoMore))) ∷ []))
unfolding typing
source_type_3 = refl

source_type_4 : BreaksSentence 1 (at 1 423) (program 26 (Package (declared (at 1 9) 15 "P") (More (TypeDecl (declared
    (at 1 19) 16 "Cell") (Record (More (Components (More (declared (at 1 34) 0 "V") NoMore) (mark (at 1 38) 0)) NoMore))
    (at 1 57)) (More (TypeDecl (declared (at 1 64) 17 "List") (Access (mark (at 1 79) 16)) (at 1 83)) (More (TypeDecl
    (declared (at 1 90) 18 "Ptr") (Access (mark (at 1 104) 0)) (at 1 111)) (More (SubDecl (Front (declared (at 1 122) 19
    "G") NoMore (More (Plain (mark (at 1 131) 17)) NoMore))) (More (SubDecl (Front (declared (at 1 146) 20 "H") NoMore
    (More (Plain (mark (at 1 155) 18)) NoMore))) (More (SubDecl (Front (declared (at 1 169) 21 "R") (More (Formals (More
    (declared (at 1 172) 22 "X") NoMore) mode.In (Plain (mark (at 1 176) 17))) (More (Formals (More (declared (at 1 182)
    23 "Y") NoMore) mode.In (Plain (mark (at 1 186) 18))) NoMore)) (More (Anonymous (at 1 198) true (mark (at 1 214)
    16)) NoMore))) NoMore)))))) NoMore ∷ PackageBody (declared (at 1 240) 15 "P") (More (SubBody (Front (declared (at 1
    254) 19 "G") NoMore (More (Plain (mark (at 1 263) 17)) NoMore)) NoMore (More (Return (at 1 277) (More (Null (at 1
    284)) NoMore)) NoMore) (at 1 290)) (More (SubBody (Front (declared (at 1 306) 20 "H") NoMore (More (Plain (mark (at
    1 315) 18)) NoMore)) NoMore (More (Return (at 1 328) (More (Null (at 1 335)) NoMore)) NoMore) (at 1 341)) (More
    (SubBody (Front (declared (at 1 357) 21 "R") (More (Formals (More (declared (at 1 360) 24 "X") NoMore) mode.In
    (Plain (mark (at 1 364) 17))) (More (Formals (More (declared (at 1 370) 25 "Y") NoMore) mode.In (Plain (mark (at 1
    374) 18))) NoMore)) (More (Anonymous (at 1 386) true (mark (at 1 402) 16)) NoMore)) NoMore (More (Return (at 1 416)
    (More (Named (at 1 423) 20 NoMore) NoMore)) NoMore) (at 1 426)) NoMore))) ∷ []))
unfolding typing
source_type_4 = refl

source_type_5 : BreaksSentence 1 (at 1 423) (program 26 (Package (declared (at 1 9) 15 "P") (More (TypeDecl (declared
    (at 1 19) 16 "Cell") (Record (More (Components (More (declared (at 1 34) 0 "V") NoMore) (mark (at 1 38) 0)) NoMore))
    (at 1 57)) (More (TypeDecl (declared (at 1 64) 17 "List") (Access (mark (at 1 79) 16)) (at 1 83)) (More (TypeDecl
    (declared (at 1 90) 18 "Ptr") (Access (mark (at 1 104) 0)) (at 1 111)) (More (SubDecl (Front (declared (at 1 122) 19
    "G") NoMore (More (Plain (mark (at 1 131) 17)) NoMore))) (More (SubDecl (Front (declared (at 1 146) 20 "H") NoMore
    (More (Plain (mark (at 1 155) 18)) NoMore))) (More (SubDecl (Front (declared (at 1 169) 21 "R") (More (Formals (More
    (declared (at 1 172) 22 "X") NoMore) mode.In (Plain (mark (at 1 176) 17))) (More (Formals (More (declared (at 1 182)
    23 "Y") NoMore) mode.In (Plain (mark (at 1 186) 18))) NoMore)) (More (Anonymous (at 1 198) true (mark (at 1 214)
    16)) NoMore))) NoMore)))))) NoMore ∷ PackageBody (declared (at 1 240) 15 "P") (More (SubBody (Front (declared (at 1
    254) 19 "G") NoMore (More (Plain (mark (at 1 263) 17)) NoMore)) NoMore (More (Return (at 1 277) (More (Null (at 1
    284)) NoMore)) NoMore) (at 1 290)) (More (SubBody (Front (declared (at 1 306) 20 "H") NoMore (More (Plain (mark (at
    1 315) 18)) NoMore)) NoMore (More (Return (at 1 328) (More (Null (at 1 335)) NoMore)) NoMore) (at 1 341)) (More
    (SubBody (Front (declared (at 1 357) 21 "R") (More (Formals (More (declared (at 1 360) 24 "X") NoMore) mode.In
    (Plain (mark (at 1 364) 17))) (More (Formals (More (declared (at 1 370) 25 "Y") NoMore) mode.In (Plain (mark (at 1
    374) 18))) NoMore)) (More (Anonymous (at 1 386) true (mark (at 1 402) 16)) NoMore)) NoMore (More (Return (at 1 416)
    (More (Parens (at 1 423) (Named (at 1 424) 20 NoMore)) NoMore)) NoMore) (at 1 428)) NoMore))) ∷ []))
unfolding typing
source_type_5 = refl

source_type_6 : BreaksSentence 1 (at 1 365) (program 25 (Package (declared (at 1 9) 15 "P") (More (TypeDecl (declared
    (at 1 19) 16 "Cell") (Record (More (Components (More (declared (at 1 34) 0 "V") NoMore) (mark (at 1 38) 0)) NoMore))
    (at 1 57)) (More (TypeDecl (declared (at 1 64) 17 "List") (Access (mark (at 1 79) 16)) (at 1 83)) (More (TypeDecl
    (declared (at 1 90) 18 "Ptr") (Access (mark (at 1 104) 0)) (at 1 111)) (More (SubDecl (Front (declared (at 1 122) 19
    "G") NoMore (More (Plain (mark (at 1 131) 17)) NoMore))) (More (SubDecl (Front (declared (at 1 146) 20 "H") NoMore
    (More (Plain (mark (at 1 155) 18)) NoMore))) NoMore))))) NoMore ∷ PackageBody (declared (at 1 180) 15 "P") (More
    (SubBody (Front (declared (at 1 194) 19 "G") NoMore (More (Plain (mark (at 1 203) 17)) NoMore)) NoMore (More (Return
    (at 1 217) (More (Null (at 1 224)) NoMore)) NoMore) (at 1 230)) (More (SubBody (Front (declared (at 1 246) 20 "H")
    NoMore (More (Plain (mark (at 1 255) 18)) NoMore)) NoMore (More (Return (at 1 268) (More (Null (at 1 275)) NoMore))
    NoMore) (at 1 281)) (More (SubBody (Front (declared (at 1 298) 21 "Q") (More (Formals (More (declared (at 1 301) 22
    "X") NoMore) mode.In (Plain (mark (at 1 305) 17))) (More (Formals (More (declared (at 1 311) 23 "Y") NoMore) mode.In
    (Plain (mark (at 1 315) 18))) NoMore)) NoMore) (More (Objects (More (declared (at 1 323) 24 "B") NoMore) false
    (Anonymous (at 1 327) true (mark (at 1 343) 16)) (More (Named (at 1 351) 22 NoMore) NoMore)) NoMore) (More (Assign
    (Named (at 1 360) 24 NoMore) (Named (at 1 365) 20 NoMore)) NoMore) (at 1 368)) NoMore))) ∷ []))
unfolding typing
source_type_6 = refl

source_type_7 : BreaksSentence 1 (at 1 365) (program 25 (Package (declared (at 1 9) 15 "P") (More (TypeDecl (declared
    (at 1 19) 16 "Cell") (Record (More (Components (More (declared (at 1 34) 0 "V") NoMore) (mark (at 1 38) 0)) NoMore))
    (at 1 57)) (More (TypeDecl (declared (at 1 64) 17 "List") (Access (mark (at 1 79) 16)) (at 1 83)) (More (TypeDecl
    (declared (at 1 90) 18 "Ptr") (Access (mark (at 1 104) 0)) (at 1 111)) (More (SubDecl (Front (declared (at 1 122) 19
    "G") NoMore (More (Plain (mark (at 1 131) 17)) NoMore))) (More (SubDecl (Front (declared (at 1 146) 20 "H") NoMore
    (More (Plain (mark (at 1 155) 18)) NoMore))) NoMore))))) NoMore ∷ PackageBody (declared (at 1 180) 15 "P") (More
    (SubBody (Front (declared (at 1 194) 19 "G") NoMore (More (Plain (mark (at 1 203) 17)) NoMore)) NoMore (More (Return
    (at 1 217) (More (Null (at 1 224)) NoMore)) NoMore) (at 1 230)) (More (SubBody (Front (declared (at 1 246) 20 "H")
    NoMore (More (Plain (mark (at 1 255) 18)) NoMore)) NoMore (More (Return (at 1 268) (More (Null (at 1 275)) NoMore))
    NoMore) (at 1 281)) (More (SubBody (Front (declared (at 1 298) 21 "Q") (More (Formals (More (declared (at 1 301) 22
    "X") NoMore) mode.In (Plain (mark (at 1 305) 17))) (More (Formals (More (declared (at 1 311) 23 "Y") NoMore) mode.In
    (Plain (mark (at 1 315) 18))) NoMore)) NoMore) (More (Objects (More (declared (at 1 323) 24 "B") NoMore) false
    (Anonymous (at 1 327) true (mark (at 1 343) 16)) (More (Named (at 1 351) 22 NoMore) NoMore)) NoMore) (More (Assign
    (Named (at 1 360) 24 NoMore) (Parens (at 1 365) (New (at 1 366) (mark (at 1 370) 0) NoMore))) NoMore) (at 1 380))
    NoMore))) ∷ []))
unfolding typing
source_type_7 = refl

-- It is of an owning type, in parentheses.
source_owner_1 : BreaksSentence 5 (at 1 351) (program 25 (Package (declared (at 1 9) 15 "P") (More (TypeDecl (declared
    (at 1 19) 16 "Cell") (Record (More (Components (More (declared (at 1 34) 0 "V") NoMore) (mark (at 1 38) 0)) NoMore))
    (at 1 57)) (More (TypeDecl (declared (at 1 64) 17 "List") (Access (mark (at 1 79) 16)) (at 1 83)) (More (TypeDecl
    (declared (at 1 90) 18 "Ptr") (Access (mark (at 1 104) 0)) (at 1 111)) (More (SubDecl (Front (declared (at 1 122) 19
    "G") NoMore (More (Plain (mark (at 1 131) 17)) NoMore))) (More (SubDecl (Front (declared (at 1 146) 20 "H") NoMore
    (More (Plain (mark (at 1 155) 18)) NoMore))) NoMore))))) NoMore ∷ PackageBody (declared (at 1 180) 15 "P") (More
    (SubBody (Front (declared (at 1 194) 19 "G") NoMore (More (Plain (mark (at 1 203) 17)) NoMore)) NoMore (More (Return
    (at 1 217) (More (Null (at 1 224)) NoMore)) NoMore) (at 1 230)) (More (SubBody (Front (declared (at 1 246) 20 "H")
    NoMore (More (Plain (mark (at 1 255) 18)) NoMore)) NoMore (More (Return (at 1 268) (More (Null (at 1 275)) NoMore))
    NoMore) (at 1 281)) (More (SubBody (Front (declared (at 1 298) 21 "Q") (More (Formals (More (declared (at 1 301) 22
    "X") NoMore) mode.In (Plain (mark (at 1 305) 17))) (More (Formals (More (declared (at 1 311) 23 "Y") NoMore) mode.In
    (Plain (mark (at 1 315) 18))) NoMore)) NoMore) (More (Objects (More (declared (at 1 323) 24 "B") NoMore) false
    (Anonymous (at 1 327) true (mark (at 1 343) 16)) (More (Parens (at 1 351) (Named (at 1 352) 22 NoMore)) NoMore))
    NoMore) (More (Skip (at 1 362)) NoMore) (at 1 368)) NoMore))) ∷ []))
unfolding typing
source_owner_1 = refl

source_owner_2 : BreaksSentence 5 (at 1 423) (program 26 (Package (declared (at 1 9) 15 "P") (More (TypeDecl (declared
    (at 1 19) 16 "Cell") (Record (More (Components (More (declared (at 1 34) 0 "V") NoMore) (mark (at 1 38) 0)) NoMore))
    (at 1 57)) (More (TypeDecl (declared (at 1 64) 17 "List") (Access (mark (at 1 79) 16)) (at 1 83)) (More (TypeDecl
    (declared (at 1 90) 18 "Ptr") (Access (mark (at 1 104) 0)) (at 1 111)) (More (SubDecl (Front (declared (at 1 122) 19
    "G") NoMore (More (Plain (mark (at 1 131) 17)) NoMore))) (More (SubDecl (Front (declared (at 1 146) 20 "H") NoMore
    (More (Plain (mark (at 1 155) 18)) NoMore))) (More (SubDecl (Front (declared (at 1 169) 21 "R") (More (Formals (More
    (declared (at 1 172) 22 "X") NoMore) mode.In (Plain (mark (at 1 176) 17))) (More (Formals (More (declared (at 1 182)
    23 "Y") NoMore) mode.In (Plain (mark (at 1 186) 18))) NoMore)) (More (Anonymous (at 1 198) true (mark (at 1 214)
    16)) NoMore))) NoMore)))))) NoMore ∷ PackageBody (declared (at 1 240) 15 "P") (More (SubBody (Front (declared (at 1
    254) 19 "G") NoMore (More (Plain (mark (at 1 263) 17)) NoMore)) NoMore (More (Return (at 1 277) (More (Null (at 1
    284)) NoMore)) NoMore) (at 1 290)) (More (SubBody (Front (declared (at 1 306) 20 "H") NoMore (More (Plain (mark (at
    1 315) 18)) NoMore)) NoMore (More (Return (at 1 328) (More (Null (at 1 335)) NoMore)) NoMore) (at 1 341)) (More
    (SubBody (Front (declared (at 1 357) 21 "R") (More (Formals (More (declared (at 1 360) 24 "X") NoMore) mode.In
    (Plain (mark (at 1 364) 17))) (More (Formals (More (declared (at 1 370) 25 "Y") NoMore) mode.In (Plain (mark (at 1
    374) 18))) NoMore)) (More (Anonymous (at 1 386) true (mark (at 1 402) 16)) NoMore)) NoMore (More (Return (at 1 416)
    (More (Parens (at 1 423) (Named (at 1 424) 19 NoMore)) NoMore)) NoMore) (at 1 428)) NoMore))) ∷ []))
unfolding typing
source_owner_2 = refl

-- It is of the right type, but no name, or a call that gives a named type.
source_form_1 : BreaksSentence 6 (at 1 342) (program 25 (Package (declared (at 1 9) 15 "P") (More (TypeDecl (declared
    (at 1 19) 16 "Cell") (Record (More (Components (More (declared (at 1 34) 0 "V") NoMore) (mark (at 1 38) 0)) NoMore))
    (at 1 57)) (More (TypeDecl (declared (at 1 64) 17 "List") (Access (mark (at 1 79) 16)) (at 1 83)) (More (TypeDecl
    (declared (at 1 90) 18 "Ptr") (Access (mark (at 1 104) 0)) (at 1 111)) (More (SubDecl (Front (declared (at 1 122) 19
    "G") NoMore (More (Plain (mark (at 1 131) 17)) NoMore))) (More (SubDecl (Front (declared (at 1 146) 20 "H") NoMore
    (More (Plain (mark (at 1 155) 18)) NoMore))) NoMore))))) NoMore ∷ PackageBody (declared (at 1 180) 15 "P") (More
    (SubBody (Front (declared (at 1 194) 19 "G") NoMore (More (Plain (mark (at 1 203) 17)) NoMore)) NoMore (More (Return
    (at 1 217) (More (Null (at 1 224)) NoMore)) NoMore) (at 1 230)) (More (SubBody (Front (declared (at 1 246) 20 "H")
    NoMore (More (Plain (mark (at 1 255) 18)) NoMore)) NoMore (More (Return (at 1 268) (More (Null (at 1 275)) NoMore))
    NoMore) (at 1 281)) (More (SubBody (Front (declared (at 1 298) 21 "Q") (More (Formals (More (declared (at 1 301) 22
    "X") NoMore) mode.In (Plain (mark (at 1 305) 17))) (More (Formals (More (declared (at 1 311) 23 "Y") NoMore) mode.In
    (Plain (mark (at 1 315) 18))) NoMore)) NoMore) (More (Objects (More (declared (at 1 323) 24 "B") NoMore) false
    (Anonymous (at 1 327) false (mark (at 1 334) 16)) (More (Named (at 1 342) 19 NoMore) NoMore)) NoMore) (More (Skip
    (at 1 351)) NoMore) (at 1 357)) NoMore))) ∷ []))
unfolding typing
source_form_1 = refl

source_form_2 : BreaksSentence 6 (at 1 423) (program 26 (Package (declared (at 1 9) 15 "P") (More (TypeDecl (declared
    (at 1 19) 16 "Cell") (Record (More (Components (More (declared (at 1 34) 0 "V") NoMore) (mark (at 1 38) 0)) NoMore))
    (at 1 57)) (More (TypeDecl (declared (at 1 64) 17 "List") (Access (mark (at 1 79) 16)) (at 1 83)) (More (TypeDecl
    (declared (at 1 90) 18 "Ptr") (Access (mark (at 1 104) 0)) (at 1 111)) (More (SubDecl (Front (declared (at 1 122) 19
    "G") NoMore (More (Plain (mark (at 1 131) 17)) NoMore))) (More (SubDecl (Front (declared (at 1 146) 20 "H") NoMore
    (More (Plain (mark (at 1 155) 18)) NoMore))) (More (SubDecl (Front (declared (at 1 169) 21 "R") (More (Formals (More
    (declared (at 1 172) 22 "X") NoMore) mode.In (Plain (mark (at 1 176) 17))) (More (Formals (More (declared (at 1 182)
    23 "Y") NoMore) mode.In (Plain (mark (at 1 186) 18))) NoMore)) (More (Anonymous (at 1 198) true (mark (at 1 214)
    16)) NoMore))) NoMore)))))) NoMore ∷ PackageBody (declared (at 1 240) 15 "P") (More (SubBody (Front (declared (at 1
    254) 19 "G") NoMore (More (Plain (mark (at 1 263) 17)) NoMore)) NoMore (More (Return (at 1 277) (More (Null (at 1
    284)) NoMore)) NoMore) (at 1 290)) (More (SubBody (Front (declared (at 1 306) 20 "H") NoMore (More (Plain (mark (at
    1 315) 18)) NoMore)) NoMore (More (Return (at 1 328) (More (Null (at 1 335)) NoMore)) NoMore) (at 1 341)) (More
    (SubBody (Front (declared (at 1 357) 21 "R") (More (Formals (More (declared (at 1 360) 24 "X") NoMore) mode.In
    (Plain (mark (at 1 364) 17))) (More (Formals (More (declared (at 1 370) 25 "Y") NoMore) mode.In (Plain (mark (at 1
    374) 18))) NoMore)) (More (Anonymous (at 1 386) true (mark (at 1 402) 16)) NoMore)) NoMore (More (Return (at 1 416)
    (More (Parens (at 1 423) (Null (at 1 424))) NoMore)) NoMore) (at 1 431)) NoMore))) ∷ []))
unfolding typing
source_form_2 = refl

source_form_3 : BreaksSentence 6 (at 1 365) (program 25 (Package (declared (at 1 9) 15 "P") (More (TypeDecl (declared
    (at 1 19) 16 "Cell") (Record (More (Components (More (declared (at 1 34) 0 "V") NoMore) (mark (at 1 38) 0)) NoMore))
    (at 1 57)) (More (TypeDecl (declared (at 1 64) 17 "List") (Access (mark (at 1 79) 16)) (at 1 83)) (More (TypeDecl
    (declared (at 1 90) 18 "Ptr") (Access (mark (at 1 104) 0)) (at 1 111)) (More (SubDecl (Front (declared (at 1 122) 19
    "G") NoMore (More (Plain (mark (at 1 131) 17)) NoMore))) (More (SubDecl (Front (declared (at 1 146) 20 "H") NoMore
    (More (Plain (mark (at 1 155) 18)) NoMore))) NoMore))))) NoMore ∷ PackageBody (declared (at 1 180) 15 "P") (More
    (SubBody (Front (declared (at 1 194) 19 "G") NoMore (More (Plain (mark (at 1 203) 17)) NoMore)) NoMore (More (Return
    (at 1 217) (More (Null (at 1 224)) NoMore)) NoMore) (at 1 230)) (More (SubBody (Front (declared (at 1 246) 20 "H")
    NoMore (More (Plain (mark (at 1 255) 18)) NoMore)) NoMore (More (Return (at 1 268) (More (Null (at 1 275)) NoMore))
    NoMore) (at 1 281)) (More (SubBody (Front (declared (at 1 298) 21 "Q") (More (Formals (More (declared (at 1 301) 22
    "X") NoMore) mode.In (Plain (mark (at 1 305) 17))) (More (Formals (More (declared (at 1 311) 23 "Y") NoMore) mode.In
    (Plain (mark (at 1 315) 18))) NoMore)) NoMore) (More (Objects (More (declared (at 1 323) 24 "B") NoMore) false
    (Anonymous (at 1 327) true (mark (at 1 343) 16)) (More (Named (at 1 351) 22 NoMore) NoMore)) NoMore) (More (Assign
    (Named (at 1 360) 24 NoMore) (New (at 1 365) (mark (at 1 369) 16) NoMore)) NoMore) (at 1 375)) NoMore))) ∷ []))
unfolding typing
source_form_3 = refl
