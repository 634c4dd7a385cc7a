-- The resolved trees of the sources in data/.
--
-- tools/flow_sources.py makes this.
use Rattle.std.specs.Prelude.{[], ◌∷◌}
use Rattle.std.specs.Prelude.{false}
use Rattle.resolved_tree.specs.Trees.{Program, Access, Aggregate, Applied, Array, Assign, Bounds, Branch, Components, Front, If, Incomplete, Instance, Loop, More, Named, New, NoMore, Null, Number, Objects, Plain, Record, Skip, SubBody, TypeDecl}
use Rattle.flow_tests.proofs.ResolvedTrees.{actual, at, declared, mark, program, selected}

abbrev pub branch : Program
branch = program 23 (SubBody (Front (declared (at 4 11) 15 "Main") NoMore NoMore) (More (Incomplete (declared (at 5 9)
    16 "Cell")) (More (TypeDecl (declared (at 6 9) 17 "List") (Access (mark (at 6 24) 16)) (at 6 28)) (More (TypeDecl
    (declared (at 7 9) 16 "Cell") (Record (More (Components (More (declared (at 8 7) 0 "Value") NoMore) (mark (at 8 15)
    0)) (More (Components (More (declared (at 9 7) 0 "Next") NoMore) (mark (at 9 14) 17)) NoMore))) (at 10 14)) (More
    (TypeDecl (declared (at 11 9) 18 "Int_Ptr") (Access (mark (at 11 27) 0)) (at 11 34)) (More (Instance (declared (at
    12 14) 19 "Free") (mark (at 12 26) 14) (actual (Named (at 12 54) 16 NoMore) (actual (Named (at 12 60) 17 NoMore)
    NoMore))) (More (Instance (declared (at 13 14) 20 "Drop") (mark (at 13 26) 14) (actual (Named (at 13 54) 0 NoMore)
    (actual (Named (at 13 63) 18 NoMore) NoMore))) (More (Objects (More (declared (at 14 1) 21 "X") (More (declared (at
    14 4) 22 "Y") NoMore)) false (Plain (mark (at 14 8) 17)) NoMore) NoMore))))))) (More (If (at 16 1) (More (Branch (at
    16 1) (Named (at 16 4) 11 NoMore) (More (Assign (Named (at 16 21) 22 NoMore) (Named (at 16 26) 21 NoMore)) NoMore))
    NoMore) NoMore) (More (Assign (Named (at 16 37) 21 NoMore) (Null (at 16 42))) NoMore)) (at 17 1) ∷ [])

abbrev pub element : Program
element = program 24 (SubBody (Front (declared (at 4 11) 15 "Main") NoMore NoMore) (More (Incomplete (declared (at 5 9)
    16 "Cell")) (More (TypeDecl (declared (at 6 9) 17 "List") (Access (mark (at 6 24) 16)) (at 6 28)) (More (TypeDecl
    (declared (at 7 9) 16 "Cell") (Record (More (Components (More (declared (at 8 7) 0 "Value") NoMore) (mark (at 8 15)
    0)) (More (Components (More (declared (at 9 7) 0 "Next") NoMore) (mark (at 9 14) 17)) NoMore))) (at 10 14)) (More
    (TypeDecl (declared (at 11 9) 18 "Int_Ptr") (Access (mark (at 11 27) 0)) (at 11 34)) (More (Instance (declared (at
    12 14) 19 "Free") (mark (at 12 26) 14) (actual (Named (at 12 54) 16 NoMore) (actual (Named (at 12 60) 17 NoMore)
    NoMore))) (More (Instance (declared (at 13 14) 20 "Drop") (mark (at 13 26) 14) (actual (Named (at 13 54) 0 NoMore)
    (actual (Named (at 13 63) 18 NoMore) NoMore))) (More (TypeDecl (declared (at 14 6) 21 "Row") (Array (Bounds (Number
    (at 14 20) 1) (Number (at 14 25) 2)) (mark (at 14 31) 17)) (at 14 35)) (More (Objects (More (declared (at 14 37) 22
    "R") NoMore) false (Plain (mark (at 14 41) 21)) NoMore) (More (Objects (More (declared (at 14 46) 23 "X") NoMore)
    false (Plain (mark (at 14 50) 17)) NoMore) NoMore))))))))) (More (Assign (Named (at 16 1) 23 NoMore) (Named (at 16
    6) 22 (More (Applied (actual (Number (at 16 9) 1) NoMore)) NoMore))) (More (Assign (Named (at 16 13) 22 (More
    (Applied (actual (Number (at 16 16) 1) NoMore)) NoMore)) (Null (at 16 22))) NoMore)) (at 17 1) ∷ [])

abbrev pub lost : Program
lost = program 22 (SubBody (Front (declared (at 4 11) 15 "Main") NoMore NoMore) (More (Incomplete (declared (at 5 9) 16
    "Cell")) (More (TypeDecl (declared (at 6 9) 17 "List") (Access (mark (at 6 24) 16)) (at 6 28)) (More (TypeDecl
    (declared (at 7 9) 16 "Cell") (Record (More (Components (More (declared (at 8 7) 0 "Value") NoMore) (mark (at 8 15)
    0)) (More (Components (More (declared (at 9 7) 0 "Next") NoMore) (mark (at 9 14) 17)) NoMore))) (at 10 14)) (More
    (TypeDecl (declared (at 11 9) 18 "Int_Ptr") (Access (mark (at 11 27) 0)) (at 11 34)) (More (Instance (declared (at
    12 14) 19 "Free") (mark (at 12 26) 14) (actual (Named (at 12 54) 16 NoMore) (actual (Named (at 12 60) 17 NoMore)
    NoMore))) (More (Instance (declared (at 13 14) 20 "Drop") (mark (at 13 26) 14) (actual (Named (at 13 54) 0 NoMore)
    (actual (Named (at 13 63) 18 NoMore) NoMore))) (More (Objects (More (declared (at 14 1) 21 "X") NoMore) false (Plain
    (mark (at 14 5) 17)) (More (New (at 14 13) (mark (at 14 17) 16) (actual (Aggregate (at 14 22) (actual (Number (at 14
    23) 1) (actual (Null (at 14 26)) NoMore))) NoMore)) NoMore)) NoMore))))))) (More (Assign (Named (at 16 1) 21 NoMore)
    (Named (at 16 6) 21 (More (selected "Next") NoMore))) NoMore) (at 17 1) ∷ [])

abbrev pub unreached : Program
unreached = program 23 (SubBody (Front (declared (at 4 11) 15 "Main") NoMore NoMore) (More (Incomplete (declared (at 5
    9) 16 "Cell")) (More (TypeDecl (declared (at 6 9) 17 "List") (Access (mark (at 6 24) 16)) (at 6 28)) (More (TypeDecl
    (declared (at 7 9) 16 "Cell") (Record (More (Components (More (declared (at 8 7) 0 "Value") NoMore) (mark (at 8 15)
    0)) (More (Components (More (declared (at 9 7) 0 "Next") NoMore) (mark (at 9 14) 17)) NoMore))) (at 10 14)) (More
    (TypeDecl (declared (at 11 9) 18 "Int_Ptr") (Access (mark (at 11 27) 0)) (at 11 34)) (More (Instance (declared (at
    12 14) 19 "Free") (mark (at 12 26) 14) (actual (Named (at 12 54) 16 NoMore) (actual (Named (at 12 60) 17 NoMore)
    NoMore))) (More (Instance (declared (at 13 14) 20 "Drop") (mark (at 13 26) 14) (actual (Named (at 13 54) 0 NoMore)
    (actual (Named (at 13 63) 18 NoMore) NoMore))) (More (Objects (More (declared (at 14 1) 21 "X") (More (declared (at
    14 4) 22 "Y") NoMore)) false (Plain (mark (at 14 8) 17)) NoMore) NoMore))))))) (More (Assign (Named (at 16 1) 22
    NoMore) (Named (at 16 6) 21 NoMore)) (More (Loop (at 16 9) (More (Skip (at 16 14)) NoMore)) (More (Assign (Named (at
    16 30) 21 NoMore) (Null (at 16 35))) NoMore))) (at 17 1) ∷ [])
