-- Types that are too large, with too many access parts, or without elements: Y1 to Y3.
--
-- tools/tree_terms.py makes this of the sources that data/cases.txt has under its name.
use Rattle.std.proofs.Common.{refl, [], ◌∷◌}
use Rattle.std.specs.Prelude.{false}
use Rattle.resolved_tree.specs.Trees.{Access, Array, Bounds, Components, Front, More, Named, NoMore, Number, Objects, Package, Plain, Record, Skip, SubBody, TypeDecl}
use Rattle.type_tests.proofs.ResolvedTrees.{at, declared, mark, program}
use Rattle.type_tests.proofs.TypeRules.{HasSize, typing}

-- Too many words.
too_large_1 : HasSize 1 (at 1 19) (program 17 (Package (declared (at 1 9) 15 "P") (More (TypeDecl (declared (at 1 19) 16
    "A") (Array (Bounds (Number (at 1 31) 1) (Number (at 1 36) 65537)) (mark (at 1 46) 0)) (at 1 53)) NoMore) NoMore ∷
    []))
unfolding typing
too_large_1 = refl

too_large_2 : HasSize 1 (at 1 24) (program 17 (SubBody (Front (declared (at 1 11) 15 "Main") NoMore NoMore) (More
    (TypeDecl (declared (at 1 24) 16 "A") (Array (Bounds (Number (at 1 36) 1) (Number (at 1 41) 65537)) (mark (at 1 51)
    0)) (at 1 58)) NoMore) (More (Skip (at 1 66)) NoMore) (at 1 72) ∷ []))
unfolding typing
too_large_2 = refl

-- Too many access parts, or too deep ones.
too_many_parts_1 : HasSize 2 (at 1 85) (program 19 (SubBody (Front (declared (at 1 11) 15 "Main") NoMore NoMore) (More
    (TypeDecl (declared (at 1 24) 16 "Ptr") (Access (mark (at 1 38) 0)) (at 1 45)) (More (TypeDecl (declared (at 1 52)
    17 "R") (Array (Bounds (Number (at 1 64) 1) (Number (at 1 69) 4)) (mark (at 1 75) 16)) (at 1 78)) (More (TypeDecl
    (declared (at 1 85) 18 "S") (Record (More (Components (More (declared (at 1 97) 0 "F0") (More (declared (at 1 101) 0
    "F1") (More (declared (at 1 105) 0 "F2") (More (declared (at 1 109) 0 "F3") (More (declared (at 1 113) 0 "F4") (More
    (declared (at 1 117) 0 "F5") (More (declared (at 1 121) 0 "F6") (More (declared (at 1 125) 0 "F7") (More (declared
    (at 1 129) 0 "F8") (More (declared (at 1 133) 0 "F9") (More (declared (at 1 137) 0 "F10") (More (declared (at 1 142)
    0 "F11") (More (declared (at 1 147) 0 "F12") (More (declared (at 1 152) 0 "F13") (More (declared (at 1 157) 0 "F14")
    (More (declared (at 1 162) 0 "F15") (More (declared (at 1 167) 0 "F16") (More (declared (at 1 172) 0 "F17") (More
    (declared (at 1 177) 0 "F18") (More (declared (at 1 182) 0 "F19") (More (declared (at 1 187) 0 "F20") (More
    (declared (at 1 192) 0 "F21") (More (declared (at 1 197) 0 "F22") (More (declared (at 1 202) 0 "F23") (More
    (declared (at 1 207) 0 "F24") (More (declared (at 1 212) 0 "F25") (More (declared (at 1 217) 0 "F26") (More
    (declared (at 1 222) 0 "F27") (More (declared (at 1 227) 0 "F28") (More (declared (at 1 232) 0 "F29") (More
    (declared (at 1 237) 0 "F30") (More (declared (at 1 242) 0 "F31") (More (declared (at 1 247) 0 "F32") (More
    (declared (at 1 252) 0 "F33") (More (declared (at 1 257) 0 "F34") (More (declared (at 1 262) 0 "F35") (More
    (declared (at 1 267) 0 "F36") (More (declared (at 1 272) 0 "F37") (More (declared (at 1 277) 0 "F38") (More
    (declared (at 1 282) 0 "F39") (More (declared (at 1 287) 0 "F40") (More (declared (at 1 292) 0 "F41") (More
    (declared (at 1 297) 0 "F42") (More (declared (at 1 302) 0 "F43") (More (declared (at 1 307) 0 "F44") (More
    (declared (at 1 312) 0 "F45") (More (declared (at 1 317) 0 "F46") (More (declared (at 1 322) 0 "F47") (More
    (declared (at 1 327) 0 "F48") (More (declared (at 1 332) 0 "F49") (More (declared (at 1 337) 0 "F50") (More
    (declared (at 1 342) 0 "F51") (More (declared (at 1 347) 0 "F52") (More (declared (at 1 352) 0 "F53") (More
    (declared (at 1 357) 0 "F54") (More (declared (at 1 362) 0 "F55") (More (declared (at 1 367) 0 "F56") (More
    (declared (at 1 372) 0 "F57") (More (declared (at 1 377) 0 "F58") (More (declared (at 1 382) 0 "F59") (More
    (declared (at 1 387) 0 "F60") (More (declared (at 1 392) 0 "F61") (More (declared (at 1 397) 0 "F62") (More
    (declared (at 1 402) 0 "F63") (More (declared (at 1 407) 0 "F64")
    NoMore))))))))))))))))))))))))))))))))))))))))))))))))))))))))))))))))) (mark (at 1 413) 17)) NoMore)) (at 1 426))
    NoMore))) (More (Skip (at 1 434)) NoMore) (at 1 440) ∷ []))
unfolding typing
too_many_parts_1 = refl

too_many_parts_2 : HasSize 2 (at 1 672) (program 34 (SubBody (Front (declared (at 1 11) 15 "Main") NoMore NoMore) (More
    (TypeDecl (declared (at 1 24) 16 "Ptr") (Access (mark (at 1 38) 0)) (at 1 45)) (More (TypeDecl (declared (at 1 52)
    17 "T0") (Record (More (Components (More (declared (at 1 65) 0 "F") NoMore) (mark (at 1 69) 16)) NoMore)) (at 1 84))
    (More (TypeDecl (declared (at 1 91) 18 "T1") (Record (More (Components (More (declared (at 1 104) 0 "F") NoMore)
    (mark (at 1 108) 17)) NoMore)) (at 1 122)) (More (TypeDecl (declared (at 1 129) 19 "T2") (Record (More (Components
    (More (declared (at 1 142) 0 "F") NoMore) (mark (at 1 146) 18)) NoMore)) (at 1 160)) (More (TypeDecl (declared (at 1
    167) 20 "T3") (Record (More (Components (More (declared (at 1 180) 0 "F") NoMore) (mark (at 1 184) 19)) NoMore)) (at
    1 198)) (More (TypeDecl (declared (at 1 205) 21 "T4") (Record (More (Components (More (declared (at 1 218) 0 "F")
    NoMore) (mark (at 1 222) 20)) NoMore)) (at 1 236)) (More (TypeDecl (declared (at 1 243) 22 "T5") (Record (More
    (Components (More (declared (at 1 256) 0 "F") NoMore) (mark (at 1 260) 21)) NoMore)) (at 1 274)) (More (TypeDecl
    (declared (at 1 281) 23 "T6") (Record (More (Components (More (declared (at 1 294) 0 "F") NoMore) (mark (at 1 298)
    22)) NoMore)) (at 1 312)) (More (TypeDecl (declared (at 1 319) 24 "T7") (Record (More (Components (More (declared
    (at 1 332) 0 "F") NoMore) (mark (at 1 336) 23)) NoMore)) (at 1 350)) (More (TypeDecl (declared (at 1 357) 25 "T8")
    (Record (More (Components (More (declared (at 1 370) 0 "F") NoMore) (mark (at 1 374) 24)) NoMore)) (at 1 388)) (More
    (TypeDecl (declared (at 1 395) 26 "T9") (Record (More (Components (More (declared (at 1 408) 0 "F") NoMore) (mark
    (at 1 412) 25)) NoMore)) (at 1 426)) (More (TypeDecl (declared (at 1 433) 27 "T10") (Record (More (Components (More
    (declared (at 1 447) 0 "F") NoMore) (mark (at 1 451) 26)) NoMore)) (at 1 465)) (More (TypeDecl (declared (at 1 472)
    28 "T11") (Record (More (Components (More (declared (at 1 486) 0 "F") NoMore) (mark (at 1 490) 27)) NoMore)) (at 1
    505)) (More (TypeDecl (declared (at 1 512) 29 "T12") (Record (More (Components (More (declared (at 1 526) 0 "F")
    NoMore) (mark (at 1 530) 28)) NoMore)) (at 1 545)) (More (TypeDecl (declared (at 1 552) 30 "T13") (Record (More
    (Components (More (declared (at 1 566) 0 "F") NoMore) (mark (at 1 570) 29)) NoMore)) (at 1 585)) (More (TypeDecl
    (declared (at 1 592) 31 "T14") (Record (More (Components (More (declared (at 1 606) 0 "F") NoMore) (mark (at 1 610)
    30)) NoMore)) (at 1 625)) (More (TypeDecl (declared (at 1 632) 32 "T15") (Record (More (Components (More (declared
    (at 1 646) 0 "F") NoMore) (mark (at 1 650) 31)) NoMore)) (at 1 665)) (More (TypeDecl (declared (at 1 672) 33 "T16")
    (Record (More (Components (More (declared (at 1 686) 0 "F") NoMore) (mark (at 1 690) 32)) NoMore)) (at 1 705))
    NoMore)))))))))))))))))) (More (Skip (at 1 713)) NoMore) (at 1 719) ∷ []))
unfolding typing
too_many_parts_2 = refl

-- An array without elements.
no_elements_1 : HasSize 3 (at 1 19) (program 17 (Package (declared (at 1 9) 15 "P") (More (TypeDecl (declared (at 1 19)
    16 "A") (Array (Bounds (Number (at 1 31) 2) (Number (at 1 36) 1)) (mark (at 1 42) 0)) (at 1 49)) NoMore) NoMore ∷
    []))
unfolding typing
no_elements_1 = refl

no_elements_2 : HasSize 3 (at 1 24) (program 17 (SubBody (Front (declared (at 1 11) 15 "Main") NoMore NoMore) (More
    (TypeDecl (declared (at 1 24) 16 "A") (Array (Bounds (Number (at 1 36) 2) (Number (at 1 41) 1)) (mark (at 1 47) 0))
    (at 1 54)) NoMore) (More (Skip (at 1 62)) NoMore) (at 1 68) ∷ []))
unfolding typing
no_elements_2 = refl

no_elements_3 : HasSize 3 (at 1 24) (program 18 (SubBody (Front (declared (at 1 11) 15 "Main") NoMore NoMore) (More
    (TypeDecl (declared (at 1 24) 16 "A") (Array (Bounds (Number (at 1 36) 2) (Number (at 1 41) 1)) (mark (at 1 47) 0))
    (at 1 54)) (More (Objects (More (declared (at 1 56) 17 "X") NoMore) false (Plain (mark (at 1 60) 0)) (More (Named
    (at 1 71) 5 NoMore) NoMore)) NoMore)) (More (Skip (at 1 83)) NoMore) (at 1 89) ∷ []))
unfolding typing
no_elements_3 = refl
