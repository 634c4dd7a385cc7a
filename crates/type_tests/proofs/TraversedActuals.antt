-- Traversed actuals, and sources that break no rule: at one token the lower of K1, K5 and K6.
--
-- tools/tree_terms.py makes this of the sources that data/cases.txt has under its name.
use Rattle.std.proofs.Common.{refl, [], ◌∷◌}
use Rattle.std.specs.Prelude.{false, true}
use Rattle.place_names.specs.declared.act.Mode.TheVariants as mode
use Rattle.resolved_tree.specs.Trees.{Access, Aggregate, Anonymous, Applied, Assign, Block, Components, Formals, Front, More, Named, New, NoMore, Null, Number, Objects, Others, Package, PackageBody, Parens, Plain, Record, Return, Skip, SubBody, SubDecl, TypeDecl}
use Rattle.type_tests.proofs.ResolvedTrees.{actual, at, declared, given, mark, program}
use Rattle.type_tests.proofs.TypeRules.{BreaksSentence, IsTyped, typing}

-- A traversed actual is of another type.
traversed_type_1 : BreaksSentence 1 (at 1 558) (program 29 (Package (declared (at 1 9) 15 "P") (More (TypeDecl (declared
    (at 1 19) 16 "Cell") (Record (More (Components (More (declared (at 1 34) 0 "V") NoMore) (mark (at 1 38) 0)) NoMore))
    (at 1 57)) (More (TypeDecl (declared (at 1 64) 17 "List") (Access (mark (at 1 79) 16)) (at 1 83)) (More (TypeDecl
    (declared (at 1 90) 18 "Ptr") (Access (mark (at 1 104) 0)) (at 1 111)) (More (SubDecl (Front (declared (at 1 122) 19
    "G") NoMore (More (Plain (mark (at 1 131) 17)) NoMore))) (More (SubDecl (Front (declared (at 1 146) 20 "H") NoMore
    (More (Plain (mark (at 1 155) 18)) NoMore))) (More (SubDecl (Front (declared (at 1 169) 21 "F") (More (Formals (More
    (declared (at 1 172) 22 "L") NoMore) mode.In (Anonymous (at 1 176) true (mark (at 1 192) 16))) NoMore) (More
    (Anonymous (at 1 205) true (mark (at 1 221) 16)) NoMore))) NoMore)))))) NoMore ∷ PackageBody (declared (at 1 247) 15
    "P") (More (SubBody (Front (declared (at 1 261) 19 "G") NoMore (More (Plain (mark (at 1 270) 17)) NoMore)) NoMore
    (More (Return (at 1 284) (More (Null (at 1 291)) NoMore)) NoMore) (at 1 297)) (More (SubBody (Front (declared (at 1
    313) 20 "H") NoMore (More (Plain (mark (at 1 322) 18)) NoMore)) NoMore (More (Return (at 1 335) (More (Null (at 1
    342)) NoMore)) NoMore) (at 1 348)) (More (SubBody (Front (declared (at 1 364) 21 "F") (More (Formals (More (declared
    (at 1 367) 23 "L") NoMore) mode.In (Anonymous (at 1 371) true (mark (at 1 387) 16))) NoMore) (More (Anonymous (at 1
    400) true (mark (at 1 416) 16)) NoMore)) NoMore (More (Return (at 1 430) (More (Named (at 1 437) 23 NoMore) NoMore))
    NoMore) (at 1 440)) (More (SubBody (Front (declared (at 1 457) 24 "Q") (More (Formals (More (declared (at 1 460) 25
    "X") NoMore) mode.In (Plain (mark (at 1 464) 17))) (More (Formals (More (declared (at 1 470) 26 "Y") NoMore) mode.In
    (Plain (mark (at 1 474) 18))) NoMore)) NoMore) (More (Objects (More (declared (at 1 482) 27 "D") NoMore) false
    (Anonymous (at 1 486) true (mark (at 1 502) 16)) (More (Named (at 1 510) 25 NoMore) NoMore)) NoMore) (More (Block
    (at 1 519) (More (Objects (More (declared (at 1 527) 28 "B") NoMore) false (Anonymous (at 1 531) true (mark (at 1
    547) 16)) (More (Named (at 1 555) 21 (More (Applied (actual (New (at 1 558) (mark (at 1 562) 0) NoMore) NoMore))
    NoMore)) NoMore)) NoMore) (More (Skip (at 1 578)) NoMore) (at 1 584)) NoMore) (at 1 589)) NoMore)))) ∷ []))
unfolding typing
traversed_type_1 = refl

traversed_type_2 : BreaksSentence 1 (at 1 558) (program 29 (Package (declared (at 1 9) 15 "P") (More (TypeDecl (declared
    (at 1 19) 16 "Cell") (Record (More (Components (More (declared (at 1 34) 0 "V") NoMore) (mark (at 1 38) 0)) NoMore))
    (at 1 57)) (More (TypeDecl (declared (at 1 64) 17 "List") (Access (mark (at 1 79) 16)) (at 1 83)) (More (TypeDecl
    (declared (at 1 90) 18 "Ptr") (Access (mark (at 1 104) 0)) (at 1 111)) (More (SubDecl (Front (declared (at 1 122) 19
    "G") NoMore (More (Plain (mark (at 1 131) 17)) NoMore))) (More (SubDecl (Front (declared (at 1 146) 20 "H") NoMore
    (More (Plain (mark (at 1 155) 18)) NoMore))) (More (SubDecl (Front (declared (at 1 169) 21 "F") (More (Formals (More
    (declared (at 1 172) 22 "L") NoMore) mode.In (Anonymous (at 1 176) true (mark (at 1 192) 16))) NoMore) (More
    (Anonymous (at 1 205) true (mark (at 1 221) 16)) NoMore))) NoMore)))))) NoMore ∷ PackageBody (declared (at 1 247) 15
    "P") (More (SubBody (Front (declared (at 1 261) 19 "G") NoMore (More (Plain (mark (at 1 270) 17)) NoMore)) NoMore
    (More (Return (at 1 284) (More (Null (at 1 291)) NoMore)) NoMore) (at 1 297)) (More (SubBody (Front (declared (at 1
    313) 20 "H") NoMore (More (Plain (mark (at 1 322) 18)) NoMore)) NoMore (More (Return (at 1 335) (More (Null (at 1
    342)) NoMore)) NoMore) (at 1 348)) (More (SubBody (Front (declared (at 1 364) 21 "F") (More (Formals (More (declared
    (at 1 367) 23 "L") NoMore) mode.In (Anonymous (at 1 371) true (mark (at 1 387) 16))) NoMore) (More (Anonymous (at 1
    400) true (mark (at 1 416) 16)) NoMore)) NoMore (More (Return (at 1 430) (More (Named (at 1 437) 23 NoMore) NoMore))
    NoMore) (at 1 440)) (More (SubBody (Front (declared (at 1 457) 24 "Q") (More (Formals (More (declared (at 1 460) 25
    "X") NoMore) mode.In (Plain (mark (at 1 464) 17))) (More (Formals (More (declared (at 1 470) 26 "Y") NoMore) mode.In
    (Plain (mark (at 1 474) 18))) NoMore)) NoMore) (More (Objects (More (declared (at 1 482) 27 "D") NoMore) false
    (Anonymous (at 1 486) true (mark (at 1 502) 16)) (More (Named (at 1 510) 25 NoMore) NoMore)) NoMore) (More (Block
    (at 1 519) (More (Objects (More (declared (at 1 527) 28 "B") NoMore) false (Anonymous (at 1 531) true (mark (at 1
    547) 16)) (More (Named (at 1 555) 21 (More (Applied (actual (Parens (at 1 558) (New (at 1 559) (mark (at 1 563) 0)
    NoMore)) NoMore)) NoMore)) NoMore)) NoMore) (More (Skip (at 1 580)) NoMore) (at 1 586)) NoMore) (at 1 591))
    NoMore)))) ∷ []))
unfolding typing
traversed_type_2 = refl

traversed_type_3 : BreaksSentence 1 (at 1 558) (program 29 (Package (declared (at 1 9) 15 "P") (More (TypeDecl (declared
    (at 1 19) 16 "Cell") (Record (More (Components (More (declared (at 1 34) 0 "V") NoMore) (mark (at 1 38) 0)) NoMore))
    (at 1 57)) (More (TypeDecl (declared (at 1 64) 17 "List") (Access (mark (at 1 79) 16)) (at 1 83)) (More (TypeDecl
    (declared (at 1 90) 18 "Ptr") (Access (mark (at 1 104) 0)) (at 1 111)) (More (SubDecl (Front (declared (at 1 122) 19
    "G") NoMore (More (Plain (mark (at 1 131) 17)) NoMore))) (More (SubDecl (Front (declared (at 1 146) 20 "H") NoMore
    (More (Plain (mark (at 1 155) 18)) NoMore))) (More (SubDecl (Front (declared (at 1 169) 21 "F") (More (Formals (More
    (declared (at 1 172) 22 "L") NoMore) mode.In (Anonymous (at 1 176) true (mark (at 1 192) 16))) NoMore) (More
    (Anonymous (at 1 205) true (mark (at 1 221) 16)) NoMore))) NoMore)))))) NoMore ∷ PackageBody (declared (at 1 247) 15
    "P") (More (SubBody (Front (declared (at 1 261) 19 "G") NoMore (More (Plain (mark (at 1 270) 17)) NoMore)) NoMore
    (More (Return (at 1 284) (More (Null (at 1 291)) NoMore)) NoMore) (at 1 297)) (More (SubBody (Front (declared (at 1
    313) 20 "H") NoMore (More (Plain (mark (at 1 322) 18)) NoMore)) NoMore (More (Return (at 1 335) (More (Null (at 1
    342)) NoMore)) NoMore) (at 1 348)) (More (SubBody (Front (declared (at 1 364) 21 "F") (More (Formals (More (declared
    (at 1 367) 23 "L") NoMore) mode.In (Anonymous (at 1 371) true (mark (at 1 387) 16))) NoMore) (More (Anonymous (at 1
    400) true (mark (at 1 416) 16)) NoMore)) NoMore (More (Return (at 1 430) (More (Named (at 1 437) 23 NoMore) NoMore))
    NoMore) (at 1 440)) (More (SubBody (Front (declared (at 1 457) 24 "Q") (More (Formals (More (declared (at 1 460) 25
    "X") NoMore) mode.In (Plain (mark (at 1 464) 17))) (More (Formals (More (declared (at 1 470) 26 "Y") NoMore) mode.In
    (Plain (mark (at 1 474) 18))) NoMore)) NoMore) (More (Objects (More (declared (at 1 482) 27 "D") NoMore) false
    (Anonymous (at 1 486) true (mark (at 1 502) 16)) (More (Named (at 1 510) 25 NoMore) NoMore)) NoMore) (More (Block
    (at 1 519) (More (Objects (More (declared (at 1 527) 28 "B") NoMore) false (Anonymous (at 1 531) true (mark (at 1
    547) 16)) (More (Named (at 1 555) 21 (More (Applied (actual (Aggregate (at 1 558) (given "V" (Number (at 1 564) 1)
    NoMore)) NoMore)) NoMore)) NoMore)) NoMore) (More (Skip (at 1 575)) NoMore) (at 1 581)) NoMore) (at 1 586))
    NoMore)))) ∷ []))
unfolding typing
traversed_type_3 = refl

traversed_type_4 : BreaksSentence 1 (at 1 558) (program 29 (Package (declared (at 1 9) 15 "P") (More (TypeDecl (declared
    (at 1 19) 16 "Cell") (Record (More (Components (More (declared (at 1 34) 0 "V") NoMore) (mark (at 1 38) 0)) NoMore))
    (at 1 57)) (More (TypeDecl (declared (at 1 64) 17 "List") (Access (mark (at 1 79) 16)) (at 1 83)) (More (TypeDecl
    (declared (at 1 90) 18 "Ptr") (Access (mark (at 1 104) 0)) (at 1 111)) (More (SubDecl (Front (declared (at 1 122) 19
    "G") NoMore (More (Plain (mark (at 1 131) 17)) NoMore))) (More (SubDecl (Front (declared (at 1 146) 20 "H") NoMore
    (More (Plain (mark (at 1 155) 18)) NoMore))) (More (SubDecl (Front (declared (at 1 169) 21 "F") (More (Formals (More
    (declared (at 1 172) 22 "L") NoMore) mode.In (Anonymous (at 1 176) true (mark (at 1 192) 16))) NoMore) (More
    (Anonymous (at 1 205) true (mark (at 1 221) 16)) NoMore))) NoMore)))))) NoMore ∷ PackageBody (declared (at 1 247) 15
    "P") (More (SubBody (Front (declared (at 1 261) 19 "G") NoMore (More (Plain (mark (at 1 270) 17)) NoMore)) NoMore
    (More (Return (at 1 284) (More (Null (at 1 291)) NoMore)) NoMore) (at 1 297)) (More (SubBody (Front (declared (at 1
    313) 20 "H") NoMore (More (Plain (mark (at 1 322) 18)) NoMore)) NoMore (More (Return (at 1 335) (More (Null (at 1
    342)) NoMore)) NoMore) (at 1 348)) (More (SubBody (Front (declared (at 1 364) 21 "F") (More (Formals (More (declared
    (at 1 367) 23 "L") NoMore) mode.In (Anonymous (at 1 371) true (mark (at 1 387) 16))) NoMore) (More (Anonymous (at 1
    400) true (mark (at 1 416) 16)) NoMore)) NoMore (More (Return (at 1 430) (More (Named (at 1 437) 23 NoMore) NoMore))
    NoMore) (at 1 440)) (More (SubBody (Front (declared (at 1 457) 24 "Q") (More (Formals (More (declared (at 1 460) 25
    "X") NoMore) mode.In (Plain (mark (at 1 464) 17))) (More (Formals (More (declared (at 1 470) 26 "Y") NoMore) mode.In
    (Plain (mark (at 1 474) 18))) NoMore)) NoMore) (More (Objects (More (declared (at 1 482) 27 "D") NoMore) false
    (Anonymous (at 1 486) true (mark (at 1 502) 16)) (More (Named (at 1 510) 25 NoMore) NoMore)) NoMore) (More (Block
    (at 1 519) (More (Objects (More (declared (at 1 527) 28 "B") NoMore) false (Anonymous (at 1 531) true (mark (at 1
    547) 16)) (More (Named (at 1 555) 21 (More (Applied (actual (Others (at 1 558) (Null (at 1 569))) NoMore)) NoMore))
    NoMore)) NoMore) (More (Skip (at 1 583)) NoMore) (at 1 589)) NoMore) (at 1 594)) NoMore)))) ∷ []))
unfolding typing
traversed_type_4 = refl

traversed_type_5 : BreaksSentence 1 (at 1 685) (program 32 (Package (declared (at 1 9) 15 "P") (More (TypeDecl (declared
    (at 1 19) 16 "Cell") (Record (More (Components (More (declared (at 1 34) 0 "V") NoMore) (mark (at 1 38) 0)) NoMore))
    (at 1 57)) (More (TypeDecl (declared (at 1 64) 17 "List") (Access (mark (at 1 79) 16)) (at 1 83)) (More (TypeDecl
    (declared (at 1 90) 18 "Ptr") (Access (mark (at 1 104) 0)) (at 1 111)) (More (SubDecl (Front (declared (at 1 122) 19
    "G") NoMore (More (Plain (mark (at 1 131) 17)) NoMore))) (More (SubDecl (Front (declared (at 1 146) 20 "H") NoMore
    (More (Plain (mark (at 1 155) 18)) NoMore))) (More (SubDecl (Front (declared (at 1 169) 21 "T") (More (Formals (More
    (declared (at 1 172) 22 "L") NoMore) mode.In (Anonymous (at 1 176) true (mark (at 1 192) 16))) NoMore) (More
    (Anonymous (at 1 205) true (mark (at 1 221) 16)) NoMore))) (More (SubDecl (Front (declared (at 1 236) 23 "F") (More
    (Formals (More (declared (at 1 239) 24 "L") NoMore) mode.In (Plain (mark (at 1 243) 17))) NoMore) (More (Anonymous
    (at 1 256) true (mark (at 1 272) 16)) NoMore))) NoMore))))))) NoMore ∷ PackageBody (declared (at 1 298) 15 "P")
    (More (SubBody (Front (declared (at 1 312) 19 "G") NoMore (More (Plain (mark (at 1 321) 17)) NoMore)) NoMore (More
    (Return (at 1 335) (More (Null (at 1 342)) NoMore)) NoMore) (at 1 348)) (More (SubBody (Front (declared (at 1 364)
    20 "H") NoMore (More (Plain (mark (at 1 373) 18)) NoMore)) NoMore (More (Return (at 1 386) (More (Null (at 1 393))
    NoMore)) NoMore) (at 1 399)) (More (SubBody (Front (declared (at 1 415) 21 "T") (More (Formals (More (declared (at 1
    418) 25 "L") NoMore) mode.In (Anonymous (at 1 422) true (mark (at 1 438) 16))) NoMore) (More (Anonymous (at 1 451)
    true (mark (at 1 467) 16)) NoMore)) NoMore (More (Return (at 1 481) (More (Named (at 1 488) 25 NoMore) NoMore))
    NoMore) (at 1 491)) (More (SubBody (Front (declared (at 1 507) 23 "F") (More (Formals (More (declared (at 1 510) 26
    "L") NoMore) mode.In (Plain (mark (at 1 514) 17))) NoMore) (More (Anonymous (at 1 527) true (mark (at 1 543) 16))
    NoMore)) NoMore (More (Return (at 1 557) (More (Named (at 1 564) 26 NoMore) NoMore)) NoMore) (at 1 567)) (More
    (SubBody (Front (declared (at 1 584) 27 "Q") (More (Formals (More (declared (at 1 587) 28 "X") NoMore) mode.In
    (Plain (mark (at 1 591) 17))) (More (Formals (More (declared (at 1 597) 29 "Y") NoMore) mode.In (Plain (mark (at 1
    601) 18))) NoMore)) NoMore) (More (Objects (More (declared (at 1 609) 30 "D") NoMore) false (Anonymous (at 1 613)
    true (mark (at 1 629) 16)) (More (Named (at 1 637) 28 NoMore) NoMore)) NoMore) (More (Block (at 1 646) (More
    (Objects (More (declared (at 1 654) 31 "B") NoMore) false (Anonymous (at 1 658) true (mark (at 1 674) 16)) (More
    (Named (at 1 682) 23 (More (Applied (actual (Named (at 1 685) 21 (More (Applied (actual (Named (at 1 688) 28 NoMore)
    NoMore)) NoMore)) NoMore)) NoMore)) NoMore)) NoMore) (More (Skip (at 1 699)) NoMore) (at 1 705)) NoMore) (at 1 710))
    NoMore))))) ∷ []))
unfolding typing
traversed_type_5 = refl

traversed_type_6 : BreaksSentence 1 (at 1 526) (program 29 (Package (declared (at 1 9) 15 "P") (More (TypeDecl (declared
    (at 1 19) 16 "Cell") (Record (More (Components (More (declared (at 1 34) 0 "V") NoMore) (mark (at 1 38) 0)) NoMore))
    (at 1 57)) (More (TypeDecl (declared (at 1 64) 17 "List") (Access (mark (at 1 79) 16)) (at 1 83)) (More (TypeDecl
    (declared (at 1 90) 18 "Ptr") (Access (mark (at 1 104) 0)) (at 1 111)) (More (SubDecl (Front (declared (at 1 122) 19
    "G") NoMore (More (Plain (mark (at 1 131) 17)) NoMore))) (More (SubDecl (Front (declared (at 1 146) 20 "H") NoMore
    (More (Plain (mark (at 1 155) 18)) NoMore))) (More (SubDecl (Front (declared (at 1 169) 21 "F") (More (Formals (More
    (declared (at 1 172) 22 "L") NoMore) mode.In (Plain (mark (at 1 176) 17))) NoMore) (More (Anonymous (at 1 189) true
    (mark (at 1 205) 16)) NoMore))) NoMore)))))) NoMore ∷ PackageBody (declared (at 1 231) 15 "P") (More (SubBody (Front
    (declared (at 1 245) 19 "G") NoMore (More (Plain (mark (at 1 254) 17)) NoMore)) NoMore (More (Return (at 1 268)
    (More (Null (at 1 275)) NoMore)) NoMore) (at 1 281)) (More (SubBody (Front (declared (at 1 297) 20 "H") NoMore (More
    (Plain (mark (at 1 306) 18)) NoMore)) NoMore (More (Return (at 1 319) (More (Null (at 1 326)) NoMore)) NoMore) (at 1
    332)) (More (SubBody (Front (declared (at 1 348) 21 "F") (More (Formals (More (declared (at 1 351) 23 "L") NoMore)
    mode.In (Plain (mark (at 1 355) 17))) NoMore) (More (Anonymous (at 1 368) true (mark (at 1 384) 16)) NoMore)) NoMore
    (More (Return (at 1 398) (More (Named (at 1 405) 23 NoMore) NoMore)) NoMore) (at 1 408)) (More (SubBody (Front
    (declared (at 1 425) 24 "Q") (More (Formals (More (declared (at 1 428) 25 "X") NoMore) mode.In (Plain (mark (at 1
    432) 17))) (More (Formals (More (declared (at 1 438) 26 "Y") NoMore) mode.In (Plain (mark (at 1 442) 18))) NoMore))
    NoMore) (More (Objects (More (declared (at 1 450) 27 "D") NoMore) false (Anonymous (at 1 454) true (mark (at 1 470)
    16)) (More (Named (at 1 478) 25 NoMore) NoMore)) NoMore) (More (Block (at 1 487) (More (Objects (More (declared (at
    1 495) 28 "B") NoMore) false (Anonymous (at 1 499) true (mark (at 1 515) 16)) (More (Named (at 1 523) 21 (More
    (Applied (actual (Named (at 1 526) 20 NoMore) NoMore)) NoMore)) NoMore)) NoMore) (More (Skip (at 1 536)) NoMore) (at
    1 542)) NoMore) (at 1 547)) NoMore)))) ∷ []))
unfolding typing
traversed_type_6 = refl

traversed_type_7 : BreaksSentence 1 (at 1 526) (program 29 (Package (declared (at 1 9) 15 "P") (More (TypeDecl (declared
    (at 1 19) 16 "Cell") (Record (More (Components (More (declared (at 1 34) 0 "V") NoMore) (mark (at 1 38) 0)) NoMore))
    (at 1 57)) (More (TypeDecl (declared (at 1 64) 17 "List") (Access (mark (at 1 79) 16)) (at 1 83)) (More (TypeDecl
    (declared (at 1 90) 18 "Ptr") (Access (mark (at 1 104) 0)) (at 1 111)) (More (SubDecl (Front (declared (at 1 122) 19
    "G") NoMore (More (Plain (mark (at 1 131) 17)) NoMore))) (More (SubDecl (Front (declared (at 1 146) 20 "H") NoMore
    (More (Plain (mark (at 1 155) 18)) NoMore))) (More (SubDecl (Front (declared (at 1 169) 21 "F") (More (Formals (More
    (declared (at 1 172) 22 "L") NoMore) mode.In (Plain (mark (at 1 176) 17))) NoMore) (More (Anonymous (at 1 189) true
    (mark (at 1 205) 16)) NoMore))) NoMore)))))) NoMore ∷ PackageBody (declared (at 1 231) 15 "P") (More (SubBody (Front
    (declared (at 1 245) 19 "G") NoMore (More (Plain (mark (at 1 254) 17)) NoMore)) NoMore (More (Return (at 1 268)
    (More (Null (at 1 275)) NoMore)) NoMore) (at 1 281)) (More (SubBody (Front (declared (at 1 297) 20 "H") NoMore (More
    (Plain (mark (at 1 306) 18)) NoMore)) NoMore (More (Return (at 1 319) (More (Null (at 1 326)) NoMore)) NoMore) (at 1
    332)) (More (SubBody (Front (declared (at 1 348) 21 "F") (More (Formals (More (declared (at 1 351) 23 "L") NoMore)
    mode.In (Plain (mark (at 1 355) 17))) NoMore) (More (Anonymous (at 1 368) true (mark (at 1 384) 16)) NoMore)) NoMore
    (More (Return (at 1 398) (More (Named (at 1 405) 23 NoMore) NoMore)) NoMore) (at 1 408)) (More (SubBody (Front
    (declared (at 1 425) 24 "Q") (More (Formals (More (declared (at 1 428) 25 "X") NoMore) mode.In (Plain (mark (at 1
    432) 17))) (More (Formals (More (declared (at 1 438) 26 "Y") NoMore) mode.In (Plain (mark (at 1 442) 18))) NoMore))
    NoMore) (More (Objects (More (declared (at 1 450) 27 "D") NoMore) false (Anonymous (at 1 454) true (mark (at 1 470)
    16)) (More (Named (at 1 478) 25 NoMore) NoMore)) NoMore) (More (Block (at 1 487) (More (Objects (More (declared (at
    1 495) 28 "B") NoMore) false (Anonymous (at 1 499) true (mark (at 1 515) 16)) (More (Named (at 1 523) 21 (More
    (Applied (actual (Named (at 1 526) 27 NoMore) NoMore)) NoMore)) NoMore)) NoMore) (More (Skip (at 1 536)) NoMore) (at
    1 542)) NoMore) (at 1 547)) NoMore)))) ∷ []))
unfolding typing
traversed_type_7 = refl

-- It is a call of an owning type, or stands in parentheses and is of one.
traversed_owner_1 : BreaksSentence 5 (at 1 558) (program 29 (Package (declared (at 1 9) 15 "P") (More (TypeDecl
    (declared (at 1 19) 16 "Cell") (Record (More (Components (More (declared (at 1 34) 0 "V") NoMore) (mark (at 1 38)
    0)) NoMore)) (at 1 57)) (More (TypeDecl (declared (at 1 64) 17 "List") (Access (mark (at 1 79) 16)) (at 1 83)) (More
    (TypeDecl (declared (at 1 90) 18 "Ptr") (Access (mark (at 1 104) 0)) (at 1 111)) (More (SubDecl (Front (declared (at
    1 122) 19 "G") NoMore (More (Plain (mark (at 1 131) 17)) NoMore))) (More (SubDecl (Front (declared (at 1 146) 20
    "H") NoMore (More (Plain (mark (at 1 155) 18)) NoMore))) (More (SubDecl (Front (declared (at 1 169) 21 "F") (More
    (Formals (More (declared (at 1 172) 22 "L") NoMore) mode.In (Anonymous (at 1 176) true (mark (at 1 192) 16)))
    NoMore) (More (Anonymous (at 1 205) true (mark (at 1 221) 16)) NoMore))) NoMore)))))) NoMore ∷ PackageBody (declared
    (at 1 247) 15 "P") (More (SubBody (Front (declared (at 1 261) 19 "G") NoMore (More (Plain (mark (at 1 270) 17))
    NoMore)) NoMore (More (Return (at 1 284) (More (Null (at 1 291)) NoMore)) NoMore) (at 1 297)) (More (SubBody (Front
    (declared (at 1 313) 20 "H") NoMore (More (Plain (mark (at 1 322) 18)) NoMore)) NoMore (More (Return (at 1 335)
    (More (Null (at 1 342)) NoMore)) NoMore) (at 1 348)) (More (SubBody (Front (declared (at 1 364) 21 "F") (More
    (Formals (More (declared (at 1 367) 23 "L") NoMore) mode.In (Anonymous (at 1 371) true (mark (at 1 387) 16)))
    NoMore) (More (Anonymous (at 1 400) true (mark (at 1 416) 16)) NoMore)) NoMore (More (Return (at 1 430) (More (Named
    (at 1 437) 23 NoMore) NoMore)) NoMore) (at 1 440)) (More (SubBody (Front (declared (at 1 457) 24 "Q") (More (Formals
    (More (declared (at 1 460) 25 "X") NoMore) mode.In (Plain (mark (at 1 464) 17))) (More (Formals (More (declared (at
    1 470) 26 "Y") NoMore) mode.In (Plain (mark (at 1 474) 18))) NoMore)) NoMore) (More (Objects (More (declared (at 1
    482) 27 "D") NoMore) false (Anonymous (at 1 486) true (mark (at 1 502) 16)) (More (Named (at 1 510) 25 NoMore)
    NoMore)) NoMore) (More (Block (at 1 519) (More (Objects (More (declared (at 1 527) 28 "B") NoMore) false (Anonymous
    (at 1 531) true (mark (at 1 547) 16)) (More (Named (at 1 555) 21 (More (Applied (actual (Named (at 1 558) 19 NoMore)
    NoMore)) NoMore)) NoMore)) NoMore) (More (Skip (at 1 568)) NoMore) (at 1 574)) NoMore) (at 1 579)) NoMore)))) ∷ []))
unfolding typing
traversed_owner_1 = refl

traversed_owner_2 : BreaksSentence 5 (at 1 558) (program 29 (Package (declared (at 1 9) 15 "P") (More (TypeDecl
    (declared (at 1 19) 16 "Cell") (Record (More (Components (More (declared (at 1 34) 0 "V") NoMore) (mark (at 1 38)
    0)) NoMore)) (at 1 57)) (More (TypeDecl (declared (at 1 64) 17 "List") (Access (mark (at 1 79) 16)) (at 1 83)) (More
    (TypeDecl (declared (at 1 90) 18 "Ptr") (Access (mark (at 1 104) 0)) (at 1 111)) (More (SubDecl (Front (declared (at
    1 122) 19 "G") NoMore (More (Plain (mark (at 1 131) 17)) NoMore))) (More (SubDecl (Front (declared (at 1 146) 20
    "H") NoMore (More (Plain (mark (at 1 155) 18)) NoMore))) (More (SubDecl (Front (declared (at 1 169) 21 "F") (More
    (Formals (More (declared (at 1 172) 22 "L") NoMore) mode.In (Anonymous (at 1 176) true (mark (at 1 192) 16)))
    NoMore) (More (Anonymous (at 1 205) true (mark (at 1 221) 16)) NoMore))) NoMore)))))) NoMore ∷ PackageBody (declared
    (at 1 247) 15 "P") (More (SubBody (Front (declared (at 1 261) 19 "G") NoMore (More (Plain (mark (at 1 270) 17))
    NoMore)) NoMore (More (Return (at 1 284) (More (Null (at 1 291)) NoMore)) NoMore) (at 1 297)) (More (SubBody (Front
    (declared (at 1 313) 20 "H") NoMore (More (Plain (mark (at 1 322) 18)) NoMore)) NoMore (More (Return (at 1 335)
    (More (Null (at 1 342)) NoMore)) NoMore) (at 1 348)) (More (SubBody (Front (declared (at 1 364) 21 "F") (More
    (Formals (More (declared (at 1 367) 23 "L") NoMore) mode.In (Anonymous (at 1 371) true (mark (at 1 387) 16)))
    NoMore) (More (Anonymous (at 1 400) true (mark (at 1 416) 16)) NoMore)) NoMore (More (Return (at 1 430) (More (Named
    (at 1 437) 23 NoMore) NoMore)) NoMore) (at 1 440)) (More (SubBody (Front (declared (at 1 457) 24 "Q") (More (Formals
    (More (declared (at 1 460) 25 "X") NoMore) mode.In (Plain (mark (at 1 464) 17))) (More (Formals (More (declared (at
    1 470) 26 "Y") NoMore) mode.In (Plain (mark (at 1 474) 18))) NoMore)) NoMore) (More (Objects (More (declared (at 1
    482) 27 "D") NoMore) false (Anonymous (at 1 486) true (mark (at 1 502) 16)) (More (Named (at 1 510) 25 NoMore)
    NoMore)) NoMore) (More (Block (at 1 519) (More (Objects (More (declared (at 1 527) 28 "B") NoMore) false (Anonymous
    (at 1 531) true (mark (at 1 547) 16)) (More (Named (at 1 555) 21 (More (Applied (actual (Named (at 1 558) 20 NoMore)
    NoMore)) NoMore)) NoMore)) NoMore) (More (Skip (at 1 568)) NoMore) (at 1 574)) NoMore) (at 1 579)) NoMore)))) ∷ []))
unfolding typing
traversed_owner_2 = refl

traversed_owner_3 : BreaksSentence 5 (at 1 558) (program 29 (Package (declared (at 1 9) 15 "P") (More (TypeDecl
    (declared (at 1 19) 16 "Cell") (Record (More (Components (More (declared (at 1 34) 0 "V") NoMore) (mark (at 1 38)
    0)) NoMore)) (at 1 57)) (More (TypeDecl (declared (at 1 64) 17 "List") (Access (mark (at 1 79) 16)) (at 1 83)) (More
    (TypeDecl (declared (at 1 90) 18 "Ptr") (Access (mark (at 1 104) 0)) (at 1 111)) (More (SubDecl (Front (declared (at
    1 122) 19 "G") NoMore (More (Plain (mark (at 1 131) 17)) NoMore))) (More (SubDecl (Front (declared (at 1 146) 20
    "H") NoMore (More (Plain (mark (at 1 155) 18)) NoMore))) (More (SubDecl (Front (declared (at 1 169) 21 "F") (More
    (Formals (More (declared (at 1 172) 22 "L") NoMore) mode.In (Anonymous (at 1 176) true (mark (at 1 192) 16)))
    NoMore) (More (Anonymous (at 1 205) true (mark (at 1 221) 16)) NoMore))) NoMore)))))) NoMore ∷ PackageBody (declared
    (at 1 247) 15 "P") (More (SubBody (Front (declared (at 1 261) 19 "G") NoMore (More (Plain (mark (at 1 270) 17))
    NoMore)) NoMore (More (Return (at 1 284) (More (Null (at 1 291)) NoMore)) NoMore) (at 1 297)) (More (SubBody (Front
    (declared (at 1 313) 20 "H") NoMore (More (Plain (mark (at 1 322) 18)) NoMore)) NoMore (More (Return (at 1 335)
    (More (Null (at 1 342)) NoMore)) NoMore) (at 1 348)) (More (SubBody (Front (declared (at 1 364) 21 "F") (More
    (Formals (More (declared (at 1 367) 23 "L") NoMore) mode.In (Anonymous (at 1 371) true (mark (at 1 387) 16)))
    NoMore) (More (Anonymous (at 1 400) true (mark (at 1 416) 16)) NoMore)) NoMore (More (Return (at 1 430) (More (Named
    (at 1 437) 23 NoMore) NoMore)) NoMore) (at 1 440)) (More (SubBody (Front (declared (at 1 457) 24 "Q") (More (Formals
    (More (declared (at 1 460) 25 "X") NoMore) mode.In (Plain (mark (at 1 464) 17))) (More (Formals (More (declared (at
    1 470) 26 "Y") NoMore) mode.In (Plain (mark (at 1 474) 18))) NoMore)) NoMore) (More (Objects (More (declared (at 1
    482) 27 "D") NoMore) false (Anonymous (at 1 486) true (mark (at 1 502) 16)) (More (Named (at 1 510) 25 NoMore)
    NoMore)) NoMore) (More (Block (at 1 519) (More (Objects (More (declared (at 1 527) 28 "B") NoMore) false (Anonymous
    (at 1 531) true (mark (at 1 547) 16)) (More (Named (at 1 555) 21 (More (Applied (actual (Parens (at 1 558) (Named
    (at 1 559) 25 NoMore)) NoMore)) NoMore)) NoMore)) NoMore) (More (Skip (at 1 570)) NoMore) (at 1 576)) NoMore) (at 1
    581)) NoMore)))) ∷ []))
unfolding typing
traversed_owner_3 = refl

traversed_owner_4 : BreaksSentence 5 (at 1 558) (program 29 (Package (declared (at 1 9) 15 "P") (More (TypeDecl
    (declared (at 1 19) 16 "Cell") (Record (More (Components (More (declared (at 1 34) 0 "V") NoMore) (mark (at 1 38)
    0)) NoMore)) (at 1 57)) (More (TypeDecl (declared (at 1 64) 17 "List") (Access (mark (at 1 79) 16)) (at 1 83)) (More
    (TypeDecl (declared (at 1 90) 18 "Ptr") (Access (mark (at 1 104) 0)) (at 1 111)) (More (SubDecl (Front (declared (at
    1 122) 19 "G") NoMore (More (Plain (mark (at 1 131) 17)) NoMore))) (More (SubDecl (Front (declared (at 1 146) 20
    "H") NoMore (More (Plain (mark (at 1 155) 18)) NoMore))) (More (SubDecl (Front (declared (at 1 169) 21 "F") (More
    (Formals (More (declared (at 1 172) 22 "L") NoMore) mode.In (Anonymous (at 1 176) true (mark (at 1 192) 16)))
    NoMore) (More (Anonymous (at 1 205) true (mark (at 1 221) 16)) NoMore))) NoMore)))))) NoMore ∷ PackageBody (declared
    (at 1 247) 15 "P") (More (SubBody (Front (declared (at 1 261) 19 "G") NoMore (More (Plain (mark (at 1 270) 17))
    NoMore)) NoMore (More (Return (at 1 284) (More (Null (at 1 291)) NoMore)) NoMore) (at 1 297)) (More (SubBody (Front
    (declared (at 1 313) 20 "H") NoMore (More (Plain (mark (at 1 322) 18)) NoMore)) NoMore (More (Return (at 1 335)
    (More (Null (at 1 342)) NoMore)) NoMore) (at 1 348)) (More (SubBody (Front (declared (at 1 364) 21 "F") (More
    (Formals (More (declared (at 1 367) 23 "L") NoMore) mode.In (Anonymous (at 1 371) true (mark (at 1 387) 16)))
    NoMore) (More (Anonymous (at 1 400) true (mark (at 1 416) 16)) NoMore)) NoMore (More (Return (at 1 430) (More (Named
    (at 1 437) 23 NoMore) NoMore)) NoMore) (at 1 440)) (More (SubBody (Front (declared (at 1 457) 24 "Q") (More (Formals
    (More (declared (at 1 460) 25 "X") NoMore) mode.In (Plain (mark (at 1 464) 17))) (More (Formals (More (declared (at
    1 470) 26 "Y") NoMore) mode.In (Plain (mark (at 1 474) 18))) NoMore)) NoMore) (More (Objects (More (declared (at 1
    482) 27 "D") NoMore) false (Anonymous (at 1 486) true (mark (at 1 502) 16)) (More (Named (at 1 510) 25 NoMore)
    NoMore)) NoMore) (More (Block (at 1 519) (More (Objects (More (declared (at 1 527) 28 "B") NoMore) false (Anonymous
    (at 1 531) true (mark (at 1 547) 16)) (More (Named (at 1 555) 21 (More (Applied (actual (Parens (at 1 558) (Parens
    (at 1 559) (Named (at 1 560) 26 NoMore))) NoMore)) NoMore)) NoMore)) NoMore) (More (Skip (at 1 572)) NoMore) (at 1
    578)) NoMore) (at 1 583)) NoMore)))) ∷ []))
unfolding typing
traversed_owner_4 = refl

traversed_owner_5 : BreaksSentence 5 (at 1 526) (program 29 (Package (declared (at 1 9) 15 "P") (More (TypeDecl
    (declared (at 1 19) 16 "Cell") (Record (More (Components (More (declared (at 1 34) 0 "V") NoMore) (mark (at 1 38)
    0)) NoMore)) (at 1 57)) (More (TypeDecl (declared (at 1 64) 17 "List") (Access (mark (at 1 79) 16)) (at 1 83)) (More
    (TypeDecl (declared (at 1 90) 18 "Ptr") (Access (mark (at 1 104) 0)) (at 1 111)) (More (SubDecl (Front (declared (at
    1 122) 19 "G") NoMore (More (Plain (mark (at 1 131) 17)) NoMore))) (More (SubDecl (Front (declared (at 1 146) 20
    "H") NoMore (More (Plain (mark (at 1 155) 18)) NoMore))) (More (SubDecl (Front (declared (at 1 169) 21 "F") (More
    (Formals (More (declared (at 1 172) 22 "L") NoMore) mode.In (Plain (mark (at 1 176) 17))) NoMore) (More (Anonymous
    (at 1 189) true (mark (at 1 205) 16)) NoMore))) NoMore)))))) NoMore ∷ PackageBody (declared (at 1 231) 15 "P") (More
    (SubBody (Front (declared (at 1 245) 19 "G") NoMore (More (Plain (mark (at 1 254) 17)) NoMore)) NoMore (More (Return
    (at 1 268) (More (Null (at 1 275)) NoMore)) NoMore) (at 1 281)) (More (SubBody (Front (declared (at 1 297) 20 "H")
    NoMore (More (Plain (mark (at 1 306) 18)) NoMore)) NoMore (More (Return (at 1 319) (More (Null (at 1 326)) NoMore))
    NoMore) (at 1 332)) (More (SubBody (Front (declared (at 1 348) 21 "F") (More (Formals (More (declared (at 1 351) 23
    "L") NoMore) mode.In (Plain (mark (at 1 355) 17))) NoMore) (More (Anonymous (at 1 368) true (mark (at 1 384) 16))
    NoMore)) NoMore (More (Return (at 1 398) (More (Named (at 1 405) 23 NoMore) NoMore)) NoMore) (at 1 408)) (More
    (SubBody (Front (declared (at 1 425) 24 "Q") (More (Formals (More (declared (at 1 428) 25 "X") NoMore) mode.In
    (Plain (mark (at 1 432) 17))) (More (Formals (More (declared (at 1 438) 26 "Y") NoMore) mode.In (Plain (mark (at 1
    442) 18))) NoMore)) NoMore) (More (Objects (More (declared (at 1 450) 27 "D") NoMore) false (Anonymous (at 1 454)
    true (mark (at 1 470) 16)) (More (Named (at 1 478) 25 NoMore) NoMore)) NoMore) (More (Block (at 1 487) (More
    (Objects (More (declared (at 1 495) 28 "B") NoMore) false (Anonymous (at 1 499) true (mark (at 1 515) 16)) (More
    (Named (at 1 523) 21 (More (Applied (actual (Named (at 1 526) 19 NoMore) NoMore)) NoMore)) NoMore)) NoMore) (More
    (Skip (at 1 536)) NoMore) (at 1 542)) NoMore) (at 1 547)) NoMore)))) ∷ []))
unfolding typing
traversed_owner_5 = refl

traversed_owner_6 : BreaksSentence 5 (at 1 526) (program 29 (Package (declared (at 1 9) 15 "P") (More (TypeDecl
    (declared (at 1 19) 16 "Cell") (Record (More (Components (More (declared (at 1 34) 0 "V") NoMore) (mark (at 1 38)
    0)) NoMore)) (at 1 57)) (More (TypeDecl (declared (at 1 64) 17 "List") (Access (mark (at 1 79) 16)) (at 1 83)) (More
    (TypeDecl (declared (at 1 90) 18 "Ptr") (Access (mark (at 1 104) 0)) (at 1 111)) (More (SubDecl (Front (declared (at
    1 122) 19 "G") NoMore (More (Plain (mark (at 1 131) 17)) NoMore))) (More (SubDecl (Front (declared (at 1 146) 20
    "H") NoMore (More (Plain (mark (at 1 155) 18)) NoMore))) (More (SubDecl (Front (declared (at 1 169) 21 "F") (More
    (Formals (More (declared (at 1 172) 22 "L") NoMore) mode.In (Plain (mark (at 1 176) 17))) NoMore) (More (Anonymous
    (at 1 189) true (mark (at 1 205) 16)) NoMore))) NoMore)))))) NoMore ∷ PackageBody (declared (at 1 231) 15 "P") (More
    (SubBody (Front (declared (at 1 245) 19 "G") NoMore (More (Plain (mark (at 1 254) 17)) NoMore)) NoMore (More (Return
    (at 1 268) (More (Null (at 1 275)) NoMore)) NoMore) (at 1 281)) (More (SubBody (Front (declared (at 1 297) 20 "H")
    NoMore (More (Plain (mark (at 1 306) 18)) NoMore)) NoMore (More (Return (at 1 319) (More (Null (at 1 326)) NoMore))
    NoMore) (at 1 332)) (More (SubBody (Front (declared (at 1 348) 21 "F") (More (Formals (More (declared (at 1 351) 23
    "L") NoMore) mode.In (Plain (mark (at 1 355) 17))) NoMore) (More (Anonymous (at 1 368) true (mark (at 1 384) 16))
    NoMore)) NoMore (More (Return (at 1 398) (More (Named (at 1 405) 23 NoMore) NoMore)) NoMore) (at 1 408)) (More
    (SubBody (Front (declared (at 1 425) 24 "Q") (More (Formals (More (declared (at 1 428) 25 "X") NoMore) mode.In
    (Plain (mark (at 1 432) 17))) (More (Formals (More (declared (at 1 438) 26 "Y") NoMore) mode.In (Plain (mark (at 1
    442) 18))) NoMore)) NoMore) (More (Objects (More (declared (at 1 450) 27 "D") NoMore) false (Anonymous (at 1 454)
    true (mark (at 1 470) 16)) (More (Named (at 1 478) 25 NoMore) NoMore)) NoMore) (More (Block (at 1 487) (More
    (Objects (More (declared (at 1 495) 28 "B") NoMore) false (Anonymous (at 1 499) true (mark (at 1 515) 16)) (More
    (Named (at 1 523) 21 (More (Applied (actual (Parens (at 1 526) (Null (at 1 527))) NoMore)) NoMore)) NoMore)) NoMore)
    (More (Skip (at 1 541)) NoMore) (at 1 547)) NoMore) (at 1 552)) NoMore)))) ∷ []))
unfolding typing
traversed_owner_6 = refl

-- It is of no owning type, but no name, or a name with another designated type.
traversed_form_1 : BreaksSentence 6 (at 1 558) (program 29 (Package (declared (at 1 9) 15 "P") (More (TypeDecl (declared
    (at 1 19) 16 "Cell") (Record (More (Components (More (declared (at 1 34) 0 "V") NoMore) (mark (at 1 38) 0)) NoMore))
    (at 1 57)) (More (TypeDecl (declared (at 1 64) 17 "List") (Access (mark (at 1 79) 16)) (at 1 83)) (More (TypeDecl
    (declared (at 1 90) 18 "Ptr") (Access (mark (at 1 104) 0)) (at 1 111)) (More (SubDecl (Front (declared (at 1 122) 19
    "G") NoMore (More (Plain (mark (at 1 131) 17)) NoMore))) (More (SubDecl (Front (declared (at 1 146) 20 "H") NoMore
    (More (Plain (mark (at 1 155) 18)) NoMore))) (More (SubDecl (Front (declared (at 1 169) 21 "F") (More (Formals (More
    (declared (at 1 172) 22 "L") NoMore) mode.In (Anonymous (at 1 176) true (mark (at 1 192) 16))) NoMore) (More
    (Anonymous (at 1 205) true (mark (at 1 221) 16)) NoMore))) NoMore)))))) NoMore ∷ PackageBody (declared (at 1 247) 15
    "P") (More (SubBody (Front (declared (at 1 261) 19 "G") NoMore (More (Plain (mark (at 1 270) 17)) NoMore)) NoMore
    (More (Return (at 1 284) (More (Null (at 1 291)) NoMore)) NoMore) (at 1 297)) (More (SubBody (Front (declared (at 1
    313) 20 "H") NoMore (More (Plain (mark (at 1 322) 18)) NoMore)) NoMore (More (Return (at 1 335) (More (Null (at 1
    342)) NoMore)) NoMore) (at 1 348)) (More (SubBody (Front (declared (at 1 364) 21 "F") (More (Formals (More (declared
    (at 1 367) 23 "L") NoMore) mode.In (Anonymous (at 1 371) true (mark (at 1 387) 16))) NoMore) (More (Anonymous (at 1
    400) true (mark (at 1 416) 16)) NoMore)) NoMore (More (Return (at 1 430) (More (Named (at 1 437) 23 NoMore) NoMore))
    NoMore) (at 1 440)) (More (SubBody (Front (declared (at 1 457) 24 "Q") (More (Formals (More (declared (at 1 460) 25
    "X") NoMore) mode.In (Plain (mark (at 1 464) 17))) (More (Formals (More (declared (at 1 470) 26 "Y") NoMore) mode.In
    (Plain (mark (at 1 474) 18))) NoMore)) NoMore) (More (Objects (More (declared (at 1 482) 27 "D") NoMore) false
    (Anonymous (at 1 486) true (mark (at 1 502) 16)) (More (Named (at 1 510) 25 NoMore) NoMore)) NoMore) (More (Block
    (at 1 519) (More (Objects (More (declared (at 1 527) 28 "B") NoMore) false (Anonymous (at 1 531) true (mark (at 1
    547) 16)) (More (Named (at 1 555) 21 (More (Applied (actual (Null (at 1 558)) NoMore)) NoMore)) NoMore)) NoMore)
    (More (Skip (at 1 571)) NoMore) (at 1 577)) NoMore) (at 1 582)) NoMore)))) ∷ []))
unfolding typing
traversed_form_1 = refl

traversed_form_2 : BreaksSentence 6 (at 1 558) (program 29 (Package (declared (at 1 9) 15 "P") (More (TypeDecl (declared
    (at 1 19) 16 "Cell") (Record (More (Components (More (declared (at 1 34) 0 "V") NoMore) (mark (at 1 38) 0)) NoMore))
    (at 1 57)) (More (TypeDecl (declared (at 1 64) 17 "List") (Access (mark (at 1 79) 16)) (at 1 83)) (More (TypeDecl
    (declared (at 1 90) 18 "Ptr") (Access (mark (at 1 104) 0)) (at 1 111)) (More (SubDecl (Front (declared (at 1 122) 19
    "G") NoMore (More (Plain (mark (at 1 131) 17)) NoMore))) (More (SubDecl (Front (declared (at 1 146) 20 "H") NoMore
    (More (Plain (mark (at 1 155) 18)) NoMore))) (More (SubDecl (Front (declared (at 1 169) 21 "F") (More (Formals (More
    (declared (at 1 172) 22 "L") NoMore) mode.In (Anonymous (at 1 176) true (mark (at 1 192) 16))) NoMore) (More
    (Anonymous (at 1 205) true (mark (at 1 221) 16)) NoMore))) NoMore)))))) NoMore ∷ PackageBody (declared (at 1 247) 15
    "P") (More (SubBody (Front (declared (at 1 261) 19 "G") NoMore (More (Plain (mark (at 1 270) 17)) NoMore)) NoMore
    (More (Return (at 1 284) (More (Null (at 1 291)) NoMore)) NoMore) (at 1 297)) (More (SubBody (Front (declared (at 1
    313) 20 "H") NoMore (More (Plain (mark (at 1 322) 18)) NoMore)) NoMore (More (Return (at 1 335) (More (Null (at 1
    342)) NoMore)) NoMore) (at 1 348)) (More (SubBody (Front (declared (at 1 364) 21 "F") (More (Formals (More (declared
    (at 1 367) 23 "L") NoMore) mode.In (Anonymous (at 1 371) true (mark (at 1 387) 16))) NoMore) (More (Anonymous (at 1
    400) true (mark (at 1 416) 16)) NoMore)) NoMore (More (Return (at 1 430) (More (Named (at 1 437) 23 NoMore) NoMore))
    NoMore) (at 1 440)) (More (SubBody (Front (declared (at 1 457) 24 "Q") (More (Formals (More (declared (at 1 460) 25
    "X") NoMore) mode.In (Plain (mark (at 1 464) 17))) (More (Formals (More (declared (at 1 470) 26 "Y") NoMore) mode.In
    (Plain (mark (at 1 474) 18))) NoMore)) NoMore) (More (Objects (More (declared (at 1 482) 27 "D") NoMore) false
    (Anonymous (at 1 486) true (mark (at 1 502) 16)) (More (Named (at 1 510) 25 NoMore) NoMore)) NoMore) (More (Block
    (at 1 519) (More (Objects (More (declared (at 1 527) 28 "B") NoMore) false (Anonymous (at 1 531) true (mark (at 1
    547) 16)) (More (Named (at 1 555) 21 (More (Applied (actual (Parens (at 1 558) (New (at 1 559) (mark (at 1 563) 16)
    NoMore)) NoMore)) NoMore)) NoMore)) NoMore) (More (Skip (at 1 577)) NoMore) (at 1 583)) NoMore) (at 1 588))
    NoMore)))) ∷ []))
unfolding typing
traversed_form_2 = refl

traversed_form_3 : BreaksSentence 6 (at 1 558) (program 29 (Package (declared (at 1 9) 15 "P") (More (TypeDecl (declared
    (at 1 19) 16 "Cell") (Record (More (Components (More (declared (at 1 34) 0 "V") NoMore) (mark (at 1 38) 0)) NoMore))
    (at 1 57)) (More (TypeDecl (declared (at 1 64) 17 "List") (Access (mark (at 1 79) 16)) (at 1 83)) (More (TypeDecl
    (declared (at 1 90) 18 "Ptr") (Access (mark (at 1 104) 0)) (at 1 111)) (More (SubDecl (Front (declared (at 1 122) 19
    "G") NoMore (More (Plain (mark (at 1 131) 17)) NoMore))) (More (SubDecl (Front (declared (at 1 146) 20 "H") NoMore
    (More (Plain (mark (at 1 155) 18)) NoMore))) (More (SubDecl (Front (declared (at 1 169) 21 "F") (More (Formals (More
    (declared (at 1 172) 22 "L") NoMore) mode.In (Anonymous (at 1 176) true (mark (at 1 192) 16))) NoMore) (More
    (Anonymous (at 1 205) true (mark (at 1 221) 16)) NoMore))) NoMore)))))) NoMore ∷ PackageBody (declared (at 1 247) 15
    "P") (More (SubBody (Front (declared (at 1 261) 19 "G") NoMore (More (Plain (mark (at 1 270) 17)) NoMore)) NoMore
    (More (Return (at 1 284) (More (Null (at 1 291)) NoMore)) NoMore) (at 1 297)) (More (SubBody (Front (declared (at 1
    313) 20 "H") NoMore (More (Plain (mark (at 1 322) 18)) NoMore)) NoMore (More (Return (at 1 335) (More (Null (at 1
    342)) NoMore)) NoMore) (at 1 348)) (More (SubBody (Front (declared (at 1 364) 21 "F") (More (Formals (More (declared
    (at 1 367) 23 "L") NoMore) mode.In (Anonymous (at 1 371) true (mark (at 1 387) 16))) NoMore) (More (Anonymous (at 1
    400) true (mark (at 1 416) 16)) NoMore)) NoMore (More (Return (at 1 430) (More (Named (at 1 437) 23 NoMore) NoMore))
    NoMore) (at 1 440)) (More (SubBody (Front (declared (at 1 457) 24 "Q") (More (Formals (More (declared (at 1 460) 25
    "X") NoMore) mode.In (Plain (mark (at 1 464) 17))) (More (Formals (More (declared (at 1 470) 26 "Y") NoMore) mode.In
    (Plain (mark (at 1 474) 18))) NoMore)) NoMore) (More (Objects (More (declared (at 1 482) 27 "D") NoMore) false
    (Anonymous (at 1 486) true (mark (at 1 502) 16)) (More (Named (at 1 510) 25 NoMore) NoMore)) NoMore) (More (Block
    (at 1 519) (More (Objects (More (declared (at 1 527) 28 "B") NoMore) false (Anonymous (at 1 531) true (mark (at 1
    547) 16)) (More (Named (at 1 555) 21 (More (Applied (actual (Parens (at 1 558) (Named (at 1 559) 27 NoMore))
    NoMore)) NoMore)) NoMore)) NoMore) (More (Skip (at 1 570)) NoMore) (at 1 576)) NoMore) (at 1 581)) NoMore)))) ∷ []))
unfolding typing
traversed_form_3 = refl

traversed_form_4 : BreaksSentence 6 (at 1 717) (program 32 (Package (declared (at 1 9) 15 "P") (More (TypeDecl (declared
    (at 1 19) 16 "Cell") (Record (More (Components (More (declared (at 1 34) 0 "V") NoMore) (mark (at 1 38) 0)) NoMore))
    (at 1 57)) (More (TypeDecl (declared (at 1 64) 17 "List") (Access (mark (at 1 79) 16)) (at 1 83)) (More (TypeDecl
    (declared (at 1 90) 18 "Ptr") (Access (mark (at 1 104) 0)) (at 1 111)) (More (SubDecl (Front (declared (at 1 122) 19
    "G") NoMore (More (Plain (mark (at 1 131) 17)) NoMore))) (More (SubDecl (Front (declared (at 1 146) 20 "H") NoMore
    (More (Plain (mark (at 1 155) 18)) NoMore))) (More (SubDecl (Front (declared (at 1 169) 21 "T") (More (Formals (More
    (declared (at 1 172) 22 "L") NoMore) mode.In (Anonymous (at 1 176) true (mark (at 1 192) 16))) NoMore) (More
    (Anonymous (at 1 205) true (mark (at 1 221) 16)) NoMore))) (More (SubDecl (Front (declared (at 1 236) 23 "F") (More
    (Formals (More (declared (at 1 239) 24 "L") NoMore) mode.In (Anonymous (at 1 243) true (mark (at 1 259) 16)))
    NoMore) (More (Anonymous (at 1 272) true (mark (at 1 288) 16)) NoMore))) NoMore))))))) NoMore ∷ PackageBody
    (declared (at 1 314) 15 "P") (More (SubBody (Front (declared (at 1 328) 19 "G") NoMore (More (Plain (mark (at 1 337)
    17)) NoMore)) NoMore (More (Return (at 1 351) (More (Null (at 1 358)) NoMore)) NoMore) (at 1 364)) (More (SubBody
    (Front (declared (at 1 380) 20 "H") NoMore (More (Plain (mark (at 1 389) 18)) NoMore)) NoMore (More (Return (at 1
    402) (More (Null (at 1 409)) NoMore)) NoMore) (at 1 415)) (More (SubBody (Front (declared (at 1 431) 21 "T") (More
    (Formals (More (declared (at 1 434) 25 "L") NoMore) mode.In (Anonymous (at 1 438) true (mark (at 1 454) 16)))
    NoMore) (More (Anonymous (at 1 467) true (mark (at 1 483) 16)) NoMore)) NoMore (More (Return (at 1 497) (More (Named
    (at 1 504) 25 NoMore) NoMore)) NoMore) (at 1 507)) (More (SubBody (Front (declared (at 1 523) 23 "F") (More (Formals
    (More (declared (at 1 526) 26 "L") NoMore) mode.In (Anonymous (at 1 530) true (mark (at 1 546) 16))) NoMore) (More
    (Anonymous (at 1 559) true (mark (at 1 575) 16)) NoMore)) NoMore (More (Return (at 1 589) (More (Named (at 1 596) 26
    NoMore) NoMore)) NoMore) (at 1 599)) (More (SubBody (Front (declared (at 1 616) 27 "Q") (More (Formals (More
    (declared (at 1 619) 28 "X") NoMore) mode.In (Plain (mark (at 1 623) 17))) (More (Formals (More (declared (at 1 629)
    29 "Y") NoMore) mode.In (Plain (mark (at 1 633) 18))) NoMore)) NoMore) (More (Objects (More (declared (at 1 641) 30
    "D") NoMore) false (Anonymous (at 1 645) true (mark (at 1 661) 16)) (More (Named (at 1 669) 28 NoMore) NoMore))
    NoMore) (More (Block (at 1 678) (More (Objects (More (declared (at 1 686) 31 "B") NoMore) false (Anonymous (at 1
    690) true (mark (at 1 706) 16)) (More (Named (at 1 714) 23 (More (Applied (actual (Named (at 1 717) 21 (More
    (Applied (actual (Named (at 1 720) 28 NoMore) NoMore)) NoMore)) NoMore)) NoMore)) NoMore)) NoMore) (More (Skip (at 1
    731)) NoMore) (at 1 737)) NoMore) (at 1 742)) NoMore))))) ∷ []))
unfolding typing
traversed_form_4 = refl

traversed_form_5 : BreaksSentence 6 (at 1 558) (program 29 (Package (declared (at 1 9) 15 "P") (More (TypeDecl (declared
    (at 1 19) 16 "Cell") (Record (More (Components (More (declared (at 1 34) 0 "V") NoMore) (mark (at 1 38) 0)) NoMore))
    (at 1 57)) (More (TypeDecl (declared (at 1 64) 17 "List") (Access (mark (at 1 79) 16)) (at 1 83)) (More (TypeDecl
    (declared (at 1 90) 18 "Ptr") (Access (mark (at 1 104) 0)) (at 1 111)) (More (SubDecl (Front (declared (at 1 122) 19
    "G") NoMore (More (Plain (mark (at 1 131) 17)) NoMore))) (More (SubDecl (Front (declared (at 1 146) 20 "H") NoMore
    (More (Plain (mark (at 1 155) 18)) NoMore))) (More (SubDecl (Front (declared (at 1 169) 21 "F") (More (Formals (More
    (declared (at 1 172) 22 "L") NoMore) mode.In (Anonymous (at 1 176) true (mark (at 1 192) 16))) NoMore) (More
    (Anonymous (at 1 205) true (mark (at 1 221) 16)) NoMore))) NoMore)))))) NoMore ∷ PackageBody (declared (at 1 247) 15
    "P") (More (SubBody (Front (declared (at 1 261) 19 "G") NoMore (More (Plain (mark (at 1 270) 17)) NoMore)) NoMore
    (More (Return (at 1 284) (More (Null (at 1 291)) NoMore)) NoMore) (at 1 297)) (More (SubBody (Front (declared (at 1
    313) 20 "H") NoMore (More (Plain (mark (at 1 322) 18)) NoMore)) NoMore (More (Return (at 1 335) (More (Null (at 1
    342)) NoMore)) NoMore) (at 1 348)) (More (SubBody (Front (declared (at 1 364) 21 "F") (More (Formals (More (declared
    (at 1 367) 23 "L") NoMore) mode.In (Anonymous (at 1 371) true (mark (at 1 387) 16))) NoMore) (More (Anonymous (at 1
    400) true (mark (at 1 416) 16)) NoMore)) NoMore (More (Return (at 1 430) (More (Named (at 1 437) 23 NoMore) NoMore))
    NoMore) (at 1 440)) (More (SubBody (Front (declared (at 1 457) 24 "Q") (More (Formals (More (declared (at 1 460) 25
    "X") NoMore) mode.In (Plain (mark (at 1 464) 17))) (More (Formals (More (declared (at 1 470) 26 "Y") NoMore) mode.In
    (Plain (mark (at 1 474) 18))) NoMore)) NoMore) (More (Objects (More (declared (at 1 482) 27 "D") NoMore) false
    (Anonymous (at 1 486) true (mark (at 1 502) 16)) (More (Named (at 1 510) 25 NoMore) NoMore)) NoMore) (More (Block
    (at 1 519) (More (Objects (More (declared (at 1 527) 28 "B") NoMore) false (Anonymous (at 1 531) true (mark (at 1
    547) 16)) (More (Named (at 1 555) 21 (More (Applied (actual (Named (at 1 558) 26 NoMore) NoMore)) NoMore)) NoMore))
    NoMore) (More (Skip (at 1 568)) NoMore) (at 1 574)) NoMore) (at 1 579)) NoMore)))) ∷ []))
unfolding typing
traversed_form_5 = refl

traversed_form_6 : BreaksSentence 6 (at 1 526) (program 29 (Package (declared (at 1 9) 15 "P") (More (TypeDecl (declared
    (at 1 19) 16 "Cell") (Record (More (Components (More (declared (at 1 34) 0 "V") NoMore) (mark (at 1 38) 0)) NoMore))
    (at 1 57)) (More (TypeDecl (declared (at 1 64) 17 "List") (Access (mark (at 1 79) 16)) (at 1 83)) (More (TypeDecl
    (declared (at 1 90) 18 "Ptr") (Access (mark (at 1 104) 0)) (at 1 111)) (More (SubDecl (Front (declared (at 1 122) 19
    "G") NoMore (More (Plain (mark (at 1 131) 17)) NoMore))) (More (SubDecl (Front (declared (at 1 146) 20 "H") NoMore
    (More (Plain (mark (at 1 155) 18)) NoMore))) (More (SubDecl (Front (declared (at 1 169) 21 "F") (More (Formals (More
    (declared (at 1 172) 22 "L") NoMore) mode.In (Plain (mark (at 1 176) 17))) NoMore) (More (Anonymous (at 1 189) true
    (mark (at 1 205) 16)) NoMore))) NoMore)))))) NoMore ∷ PackageBody (declared (at 1 231) 15 "P") (More (SubBody (Front
    (declared (at 1 245) 19 "G") NoMore (More (Plain (mark (at 1 254) 17)) NoMore)) NoMore (More (Return (at 1 268)
    (More (Null (at 1 275)) NoMore)) NoMore) (at 1 281)) (More (SubBody (Front (declared (at 1 297) 20 "H") NoMore (More
    (Plain (mark (at 1 306) 18)) NoMore)) NoMore (More (Return (at 1 319) (More (Null (at 1 326)) NoMore)) NoMore) (at 1
    332)) (More (SubBody (Front (declared (at 1 348) 21 "F") (More (Formals (More (declared (at 1 351) 23 "L") NoMore)
    mode.In (Plain (mark (at 1 355) 17))) NoMore) (More (Anonymous (at 1 368) true (mark (at 1 384) 16)) NoMore)) NoMore
    (More (Return (at 1 398) (More (Named (at 1 405) 23 NoMore) NoMore)) NoMore) (at 1 408)) (More (SubBody (Front
    (declared (at 1 425) 24 "Q") (More (Formals (More (declared (at 1 428) 25 "X") NoMore) mode.In (Plain (mark (at 1
    432) 17))) (More (Formals (More (declared (at 1 438) 26 "Y") NoMore) mode.In (Plain (mark (at 1 442) 18))) NoMore))
    NoMore) (More (Objects (More (declared (at 1 450) 27 "D") NoMore) false (Anonymous (at 1 454) true (mark (at 1 470)
    16)) (More (Named (at 1 478) 25 NoMore) NoMore)) NoMore) (More (Block (at 1 487) (More (Objects (More (declared (at
    1 495) 28 "B") NoMore) false (Anonymous (at 1 499) true (mark (at 1 515) 16)) (More (Named (at 1 523) 21 (More
    (Applied (actual (Null (at 1 526)) NoMore)) NoMore)) NoMore)) NoMore) (More (Skip (at 1 539)) NoMore) (at 1 545))
    NoMore) (at 1 550)) NoMore)))) ∷ []))
unfolding typing
traversed_form_6 = refl

-- Near neighbours, which break no rule of typing.
anonymous_source_1 : IsTyped (program 25 (Package (declared (at 1 9) 15 "P") (More (TypeDecl (declared (at 1 19) 16
    "Cell") (Record (More (Components (More (declared (at 1 34) 0 "V") NoMore) (mark (at 1 38) 0)) NoMore)) (at 1 57))
    (More (TypeDecl (declared (at 1 64) 17 "List") (Access (mark (at 1 79) 16)) (at 1 83)) (More (TypeDecl (declared (at
    1 90) 18 "Ptr") (Access (mark (at 1 104) 0)) (at 1 111)) (More (SubDecl (Front (declared (at 1 122) 19 "G") NoMore
    (More (Plain (mark (at 1 131) 17)) NoMore))) (More (SubDecl (Front (declared (at 1 146) 20 "H") NoMore (More (Plain
    (mark (at 1 155) 18)) NoMore))) NoMore))))) NoMore ∷ PackageBody (declared (at 1 180) 15 "P") (More (SubBody (Front
    (declared (at 1 194) 19 "G") NoMore (More (Plain (mark (at 1 203) 17)) NoMore)) NoMore (More (Return (at 1 217)
    (More (Null (at 1 224)) NoMore)) NoMore) (at 1 230)) (More (SubBody (Front (declared (at 1 246) 20 "H") NoMore (More
    (Plain (mark (at 1 255) 18)) NoMore)) NoMore (More (Return (at 1 268) (More (Null (at 1 275)) NoMore)) NoMore) (at 1
    281)) (More (SubBody (Front (declared (at 1 298) 21 "Q") (More (Formals (More (declared (at 1 301) 22 "X") NoMore)
    mode.In (Plain (mark (at 1 305) 17))) (More (Formals (More (declared (at 1 311) 23 "Y") NoMore) mode.In (Plain (mark
    (at 1 315) 18))) NoMore)) NoMore) (More (Objects (More (declared (at 1 323) 24 "B") NoMore) false (Anonymous (at 1
    327) false (mark (at 1 334) 16)) (More (Named (at 1 342) 22 NoMore) NoMore)) NoMore) (More (Skip (at 1 351)) NoMore)
    (at 1 357)) NoMore))) ∷ []))
unfolding typing
anonymous_source_1 = refl

anonymous_source_2 : IsTyped (program 29 (Package (declared (at 1 9) 15 "P") (More (TypeDecl (declared (at 1 19) 16
    "Cell") (Record (More (Components (More (declared (at 1 34) 0 "V") NoMore) (mark (at 1 38) 0)) NoMore)) (at 1 57))
    (More (TypeDecl (declared (at 1 64) 17 "List") (Access (mark (at 1 79) 16)) (at 1 83)) (More (TypeDecl (declared (at
    1 90) 18 "Ptr") (Access (mark (at 1 104) 0)) (at 1 111)) (More (SubDecl (Front (declared (at 1 122) 19 "G") NoMore
    (More (Plain (mark (at 1 131) 17)) NoMore))) (More (SubDecl (Front (declared (at 1 146) 20 "H") NoMore (More (Plain
    (mark (at 1 155) 18)) NoMore))) (More (SubDecl (Front (declared (at 1 169) 21 "T") (More (Formals (More (declared
    (at 1 172) 22 "L") NoMore) mode.In (Anonymous (at 1 176) true (mark (at 1 192) 16))) NoMore) (More (Anonymous (at 1
    205) true (mark (at 1 221) 16)) NoMore))) (More (SubDecl (Front (declared (at 1 236) 23 "R") (More (Formals (More
    (declared (at 1 239) 24 "X") NoMore) mode.In (Plain (mark (at 1 243) 17))) (More (Formals (More (declared (at 1 249)
    25 "Y") NoMore) mode.In (Plain (mark (at 1 253) 18))) NoMore)) (More (Anonymous (at 1 265) true (mark (at 1 281)
    16)) NoMore))) NoMore))))))) NoMore ∷ PackageBody (declared (at 1 307) 15 "P") (More (SubBody (Front (declared (at 1
    321) 19 "G") NoMore (More (Plain (mark (at 1 330) 17)) NoMore)) NoMore (More (Return (at 1 344) (More (Null (at 1
    351)) NoMore)) NoMore) (at 1 357)) (More (SubBody (Front (declared (at 1 373) 20 "H") NoMore (More (Plain (mark (at
    1 382) 18)) NoMore)) NoMore (More (Return (at 1 395) (More (Null (at 1 402)) NoMore)) NoMore) (at 1 408)) (More
    (SubBody (Front (declared (at 1 424) 21 "T") (More (Formals (More (declared (at 1 427) 26 "L") NoMore) mode.In
    (Anonymous (at 1 431) true (mark (at 1 447) 16))) NoMore) (More (Anonymous (at 1 460) true (mark (at 1 476) 16))
    NoMore)) NoMore (More (Return (at 1 490) (More (Named (at 1 497) 26 NoMore) NoMore)) NoMore) (at 1 500)) (More
    (SubBody (Front (declared (at 1 516) 23 "R") (More (Formals (More (declared (at 1 519) 27 "X") NoMore) mode.In
    (Plain (mark (at 1 523) 17))) (More (Formals (More (declared (at 1 529) 28 "Y") NoMore) mode.In (Plain (mark (at 1
    533) 18))) NoMore)) (More (Anonymous (at 1 545) true (mark (at 1 561) 16)) NoMore)) NoMore (More (Return (at 1 575)
    (More (Named (at 1 582) 21 (More (Applied (actual (Named (at 1 585) 27 NoMore) NoMore)) NoMore)) NoMore)) NoMore)
    (at 1 589)) NoMore)))) ∷ []))
unfolding typing
anonymous_source_2 = refl

anonymous_source_3 : IsTyped (program 26 (Package (declared (at 1 9) 15 "P") (More (TypeDecl (declared (at 1 19) 16
    "Cell") (Record (More (Components (More (declared (at 1 34) 0 "V") NoMore) (mark (at 1 38) 0)) NoMore)) (at 1 57))
    (More (TypeDecl (declared (at 1 64) 17 "List") (Access (mark (at 1 79) 16)) (at 1 83)) (More (TypeDecl (declared (at
    1 90) 18 "Ptr") (Access (mark (at 1 104) 0)) (at 1 111)) (More (SubDecl (Front (declared (at 1 122) 19 "G") NoMore
    (More (Plain (mark (at 1 131) 17)) NoMore))) (More (SubDecl (Front (declared (at 1 146) 20 "H") NoMore (More (Plain
    (mark (at 1 155) 18)) NoMore))) (More (SubDecl (Front (declared (at 1 169) 21 "R") (More (Formals (More (declared
    (at 1 172) 22 "X") NoMore) mode.In (Plain (mark (at 1 176) 17))) (More (Formals (More (declared (at 1 182) 23 "Y")
    NoMore) mode.In (Plain (mark (at 1 186) 18))) NoMore)) (More (Anonymous (at 1 198) true (mark (at 1 214) 16))
    NoMore))) NoMore)))))) NoMore ∷ PackageBody (declared (at 1 240) 15 "P") (More (SubBody (Front (declared (at 1 254)
    19 "G") NoMore (More (Plain (mark (at 1 263) 17)) NoMore)) NoMore (More (Return (at 1 277) (More (Null (at 1 284))
    NoMore)) NoMore) (at 1 290)) (More (SubBody (Front (declared (at 1 306) 20 "H") NoMore (More (Plain (mark (at 1 315)
    18)) NoMore)) NoMore (More (Return (at 1 328) (More (Null (at 1 335)) NoMore)) NoMore) (at 1 341)) (More (SubBody
    (Front (declared (at 1 357) 21 "R") (More (Formals (More (declared (at 1 360) 24 "X") NoMore) mode.In (Plain (mark
    (at 1 364) 17))) (More (Formals (More (declared (at 1 370) 25 "Y") NoMore) mode.In (Plain (mark (at 1 374) 18)))
    NoMore)) (More (Anonymous (at 1 386) true (mark (at 1 402) 16)) NoMore)) NoMore (More (Return (at 1 416) (More (Null
    (at 1 423)) NoMore)) NoMore) (at 1 429)) NoMore))) ∷ []))
unfolding typing
anonymous_source_3 = refl

anonymous_source_4 : IsTyped (program 28 (Package (declared (at 1 9) 15 "P") (More (TypeDecl (declared (at 1 19) 16
    "Cell") (Record (More (Components (More (declared (at 1 34) 0 "V") NoMore) (mark (at 1 38) 0)) NoMore)) (at 1 57))
    (More (TypeDecl (declared (at 1 64) 17 "List") (Access (mark (at 1 79) 16)) (at 1 83)) (More (TypeDecl (declared (at
    1 90) 18 "Ptr") (Access (mark (at 1 104) 0)) (at 1 111)) (More (SubDecl (Front (declared (at 1 122) 19 "G") NoMore
    (More (Plain (mark (at 1 131) 17)) NoMore))) (More (SubDecl (Front (declared (at 1 146) 20 "H") NoMore (More (Plain
    (mark (at 1 155) 18)) NoMore))) (More (SubDecl (Front (declared (at 1 169) 21 "T") (More (Formals (More (declared
    (at 1 172) 22 "L") NoMore) mode.In (Anonymous (at 1 176) true (mark (at 1 192) 16))) NoMore) (More (Anonymous (at 1
    205) true (mark (at 1 221) 16)) NoMore))) NoMore)))))) NoMore ∷ PackageBody (declared (at 1 247) 15 "P") (More
    (SubBody (Front (declared (at 1 261) 19 "G") NoMore (More (Plain (mark (at 1 270) 17)) NoMore)) NoMore (More (Return
    (at 1 284) (More (Null (at 1 291)) NoMore)) NoMore) (at 1 297)) (More (SubBody (Front (declared (at 1 313) 20 "H")
    NoMore (More (Plain (mark (at 1 322) 18)) NoMore)) NoMore (More (Return (at 1 335) (More (Null (at 1 342)) NoMore))
    NoMore) (at 1 348)) (More (SubBody (Front (declared (at 1 364) 21 "T") (More (Formals (More (declared (at 1 367) 23
    "L") NoMore) mode.In (Anonymous (at 1 371) true (mark (at 1 387) 16))) NoMore) (More (Anonymous (at 1 400) true
    (mark (at 1 416) 16)) NoMore)) NoMore (More (Return (at 1 430) (More (Named (at 1 437) 23 NoMore) NoMore)) NoMore)
    (at 1 440)) (More (SubBody (Front (declared (at 1 457) 24 "Q") (More (Formals (More (declared (at 1 460) 25 "X")
    NoMore) mode.In (Plain (mark (at 1 464) 17))) (More (Formals (More (declared (at 1 470) 26 "Y") NoMore) mode.In
    (Plain (mark (at 1 474) 18))) NoMore)) NoMore) (More (Objects (More (declared (at 1 482) 27 "B") NoMore) false
    (Anonymous (at 1 486) true (mark (at 1 502) 16)) (More (Named (at 1 510) 25 NoMore) NoMore)) NoMore) (More (Assign
    (Named (at 1 519) 27 NoMore) (Named (at 1 524) 21 (More (Applied (actual (Named (at 1 527) 27 NoMore) NoMore))
    NoMore))) NoMore) (at 1 531)) NoMore)))) ∷ []))
unfolding typing
anonymous_source_4 = refl

anonymous_source_5 : IsTyped (program 29 (Package (declared (at 1 9) 15 "P") (More (TypeDecl (declared (at 1 19) 16
    "Cell") (Record (More (Components (More (declared (at 1 34) 0 "V") NoMore) (mark (at 1 38) 0)) NoMore)) (at 1 57))
    (More (TypeDecl (declared (at 1 64) 17 "List") (Access (mark (at 1 79) 16)) (at 1 83)) (More (TypeDecl (declared (at
    1 90) 18 "Ptr") (Access (mark (at 1 104) 0)) (at 1 111)) (More (SubDecl (Front (declared (at 1 122) 19 "G") NoMore
    (More (Plain (mark (at 1 131) 17)) NoMore))) (More (SubDecl (Front (declared (at 1 146) 20 "H") NoMore (More (Plain
    (mark (at 1 155) 18)) NoMore))) (More (SubDecl (Front (declared (at 1 169) 21 "F") (More (Formals (More (declared
    (at 1 172) 22 "L") NoMore) mode.In (Anonymous (at 1 176) true (mark (at 1 192) 16))) NoMore) (More (Anonymous (at 1
    205) true (mark (at 1 221) 16)) NoMore))) NoMore)))))) NoMore ∷ PackageBody (declared (at 1 247) 15 "P") (More
    (SubBody (Front (declared (at 1 261) 19 "G") NoMore (More (Plain (mark (at 1 270) 17)) NoMore)) NoMore (More (Return
    (at 1 284) (More (Null (at 1 291)) NoMore)) NoMore) (at 1 297)) (More (SubBody (Front (declared (at 1 313) 20 "H")
    NoMore (More (Plain (mark (at 1 322) 18)) NoMore)) NoMore (More (Return (at 1 335) (More (Null (at 1 342)) NoMore))
    NoMore) (at 1 348)) (More (SubBody (Front (declared (at 1 364) 21 "F") (More (Formals (More (declared (at 1 367) 23
    "L") NoMore) mode.In (Anonymous (at 1 371) true (mark (at 1 387) 16))) NoMore) (More (Anonymous (at 1 400) true
    (mark (at 1 416) 16)) NoMore)) NoMore (More (Return (at 1 430) (More (Named (at 1 437) 23 NoMore) NoMore)) NoMore)
    (at 1 440)) (More (SubBody (Front (declared (at 1 457) 24 "Q") (More (Formals (More (declared (at 1 460) 25 "X")
    NoMore) mode.In (Plain (mark (at 1 464) 17))) (More (Formals (More (declared (at 1 470) 26 "Y") NoMore) mode.In
    (Plain (mark (at 1 474) 18))) NoMore)) NoMore) (More (Objects (More (declared (at 1 482) 27 "D") NoMore) false
    (Anonymous (at 1 486) true (mark (at 1 502) 16)) (More (Named (at 1 510) 25 NoMore) NoMore)) NoMore) (More (Block
    (at 1 519) (More (Objects (More (declared (at 1 527) 28 "B") NoMore) false (Anonymous (at 1 531) true (mark (at 1
    547) 16)) (More (Named (at 1 555) 21 (More (Applied (actual (Named (at 1 558) 25 NoMore) NoMore)) NoMore)) NoMore))
    NoMore) (More (Skip (at 1 568)) NoMore) (at 1 574)) NoMore) (at 1 579)) NoMore)))) ∷ []))
unfolding typing
anonymous_source_5 = refl

anonymous_source_6 : IsTyped (program 29 (Package (declared (at 1 9) 15 "P") (More (TypeDecl (declared (at 1 19) 16
    "Cell") (Record (More (Components (More (declared (at 1 34) 0 "V") NoMore) (mark (at 1 38) 0)) NoMore)) (at 1 57))
    (More (TypeDecl (declared (at 1 64) 17 "List") (Access (mark (at 1 79) 16)) (at 1 83)) (More (TypeDecl (declared (at
    1 90) 18 "Ptr") (Access (mark (at 1 104) 0)) (at 1 111)) (More (SubDecl (Front (declared (at 1 122) 19 "G") NoMore
    (More (Plain (mark (at 1 131) 17)) NoMore))) (More (SubDecl (Front (declared (at 1 146) 20 "H") NoMore (More (Plain
    (mark (at 1 155) 18)) NoMore))) (More (SubDecl (Front (declared (at 1 169) 21 "F") (More (Formals (More (declared
    (at 1 172) 22 "L") NoMore) mode.In (Anonymous (at 1 176) true (mark (at 1 192) 16))) NoMore) (More (Anonymous (at 1
    205) true (mark (at 1 221) 16)) NoMore))) NoMore)))))) NoMore ∷ PackageBody (declared (at 1 247) 15 "P") (More
    (SubBody (Front (declared (at 1 261) 19 "G") NoMore (More (Plain (mark (at 1 270) 17)) NoMore)) NoMore (More (Return
    (at 1 284) (More (Null (at 1 291)) NoMore)) NoMore) (at 1 297)) (More (SubBody (Front (declared (at 1 313) 20 "H")
    NoMore (More (Plain (mark (at 1 322) 18)) NoMore)) NoMore (More (Return (at 1 335) (More (Null (at 1 342)) NoMore))
    NoMore) (at 1 348)) (More (SubBody (Front (declared (at 1 364) 21 "F") (More (Formals (More (declared (at 1 367) 23
    "L") NoMore) mode.In (Anonymous (at 1 371) true (mark (at 1 387) 16))) NoMore) (More (Anonymous (at 1 400) true
    (mark (at 1 416) 16)) NoMore)) NoMore (More (Return (at 1 430) (More (Named (at 1 437) 23 NoMore) NoMore)) NoMore)
    (at 1 440)) (More (SubBody (Front (declared (at 1 457) 24 "Q") (More (Formals (More (declared (at 1 460) 25 "X")
    NoMore) mode.In (Plain (mark (at 1 464) 17))) (More (Formals (More (declared (at 1 470) 26 "Y") NoMore) mode.In
    (Plain (mark (at 1 474) 18))) NoMore)) NoMore) (More (Objects (More (declared (at 1 482) 27 "D") NoMore) false
    (Anonymous (at 1 486) true (mark (at 1 502) 16)) (More (Named (at 1 510) 25 NoMore) NoMore)) NoMore) (More (Block
    (at 1 519) (More (Objects (More (declared (at 1 527) 28 "B") NoMore) false (Anonymous (at 1 531) true (mark (at 1
    547) 16)) (More (Named (at 1 555) 21 (More (Applied (actual (Named (at 1 558) 27 NoMore) NoMore)) NoMore)) NoMore))
    NoMore) (More (Skip (at 1 568)) NoMore) (at 1 574)) NoMore) (at 1 579)) NoMore)))) ∷ []))
unfolding typing
anonymous_source_6 = refl

anonymous_source_7 : IsTyped (program 29 (Package (declared (at 1 9) 15 "P") (More (TypeDecl (declared (at 1 19) 16
    "Cell") (Record (More (Components (More (declared (at 1 34) 0 "V") NoMore) (mark (at 1 38) 0)) NoMore)) (at 1 57))
    (More (TypeDecl (declared (at 1 64) 17 "List") (Access (mark (at 1 79) 16)) (at 1 83)) (More (TypeDecl (declared (at
    1 90) 18 "Ptr") (Access (mark (at 1 104) 0)) (at 1 111)) (More (SubDecl (Front (declared (at 1 122) 19 "G") NoMore
    (More (Plain (mark (at 1 131) 17)) NoMore))) (More (SubDecl (Front (declared (at 1 146) 20 "H") NoMore (More (Plain
    (mark (at 1 155) 18)) NoMore))) (More (SubDecl (Front (declared (at 1 169) 21 "F") (More (Formals (More (declared
    (at 1 172) 22 "L") NoMore) mode.In (Plain (mark (at 1 176) 17))) NoMore) (More (Anonymous (at 1 189) true (mark (at
    1 205) 16)) NoMore))) NoMore)))))) NoMore ∷ PackageBody (declared (at 1 231) 15 "P") (More (SubBody (Front (declared
    (at 1 245) 19 "G") NoMore (More (Plain (mark (at 1 254) 17)) NoMore)) NoMore (More (Return (at 1 268) (More (Null
    (at 1 275)) NoMore)) NoMore) (at 1 281)) (More (SubBody (Front (declared (at 1 297) 20 "H") NoMore (More (Plain
    (mark (at 1 306) 18)) NoMore)) NoMore (More (Return (at 1 319) (More (Null (at 1 326)) NoMore)) NoMore) (at 1 332))
    (More (SubBody (Front (declared (at 1 348) 21 "F") (More (Formals (More (declared (at 1 351) 23 "L") NoMore) mode.In
    (Plain (mark (at 1 355) 17))) NoMore) (More (Anonymous (at 1 368) true (mark (at 1 384) 16)) NoMore)) NoMore (More
    (Return (at 1 398) (More (Named (at 1 405) 23 NoMore) NoMore)) NoMore) (at 1 408)) (More (SubBody (Front (declared
    (at 1 425) 24 "Q") (More (Formals (More (declared (at 1 428) 25 "X") NoMore) mode.In (Plain (mark (at 1 432) 17)))
    (More (Formals (More (declared (at 1 438) 26 "Y") NoMore) mode.In (Plain (mark (at 1 442) 18))) NoMore)) NoMore)
    (More (Objects (More (declared (at 1 450) 27 "D") NoMore) false (Anonymous (at 1 454) true (mark (at 1 470) 16))
    (More (Named (at 1 478) 25 NoMore) NoMore)) NoMore) (More (Block (at 1 487) (More (Objects (More (declared (at 1
    495) 28 "B") NoMore) false (Anonymous (at 1 499) true (mark (at 1 515) 16)) (More (Named (at 1 523) 21 (More
    (Applied (actual (Named (at 1 526) 25 NoMore) NoMore)) NoMore)) NoMore)) NoMore) (More (Skip (at 1 536)) NoMore) (at
    1 542)) NoMore) (at 1 547)) NoMore)))) ∷ []))
unfolding typing
anonymous_source_7 = refl
