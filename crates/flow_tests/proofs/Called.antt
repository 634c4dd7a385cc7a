-- Points of calls: of functions in expressions, of procedures, and of traversal functions.
use Rattle.std.proofs.Common.{◌≡◌, refl, [], ◌∷◌}
use Rattle.std.specs.Prelude.{true, false}
use Rattle.place_names.specs.declared.selector.Sel.TheVariants.{Field, Deref}
use Rattle.place_names.specs.declared.act.Mode.TheVariants.{In, Out}
use Rattle.place_names.specs.declared.act.Act.TheVariants.{Read, Look, Write, Move, Borrow, Reborrow, Give, Actual, EndScope, Return}
use Rattle.place_names.specs.Names.{object}
use Rattle.flow_tests.proofs.ResolvedTrees.{at}
use Rattle.flow_tests.proofs.Sources.{short_call, calls, traversal}
use Rattle.flow_tests.proofs.Flow.{rows, laying, row, part, does, DeclarePoint, AssignPoint, CallPoint, OutputPoint, TestPoint, EvaluatePoint, HoldPoint, EndPoint, FinishPoint, FallPoint}

-- The formal N is 1; B is 2 and N is 3. An `and then` with a call on the right goes past it from
-- the evaluation of its left operand; the iterations of the `while` begin with that of its
-- condition.
short_rows : rows short_call ≡ []
    ∷ (row HoldPoint (at 5 50) (does 5 57 (Read (object 1)) ∷ []) (1 ∷ [])
    ∷ row FinishPoint (at 5 50) (does 5 50 (Return []) ∷ []) []
    ∷ row FallPoint (at 5 60) [] [] ∷ [])
    ∷ (row DeclarePoint (at 9 1) [] (1 ∷ [])
    ∷ row DeclarePoint (at 9 14) [] (2 ∷ [])
    ∷ row EvaluatePoint (at 11 6) (does 11 6 (Read (object 3)) ∷ []) (3 ∷ 6 ∷ [])
    ∷ row CallPoint (at 11 28) [] (4 ∷ [])
    ∷ row CallPoint (at 11 21) (does 11 24 (Read (object 3)) ∷ []) (5 ∷ [])
    ∷ row EvaluatePoint (at 11 21) [] (6 ∷ [])
    ∷ row AssignPoint (at 11 1) (does 11 1 (Write (object 2)) ∷ []) (7 ∷ [])
    ∷ row EvaluatePoint (at 12 7) (does 12 7 (Read (object 2)) ∷ []) (8 ∷ 10 ∷ [])
    ∷ row CallPoint (at 12 17) [] (9 ∷ [])
    ∷ row EvaluatePoint (at 12 17) [] (10 ∷ [])
    ∷ row TestPoint (at 12 1) [] (11 ∷ 12 ∷ [])
    ∷ row AssignPoint (at 12 32) (does 12 32 (Write (object 2)) ∷ []) (7 ∷ [])
    ∷ row FinishPoint (at 13 1) (does 13 1 (Return []) ∷ []) [] ∷ [])
    ∷ []
unfolding laying
short_rows = refl

-- G is 1 and H is 2; the formals X, Y and N are 3, 4 and 5; R is 6. Nothing follows the last
-- package object. Make returns with a fact rooted in H.
calls_rows : rows calls ≡ (row DeclarePoint (at 4 1) [] (1 ∷ []) ∷ row DeclarePoint (at 4 4) [] [] ∷ [])
    ∷ (row AssignPoint (at 9 1) (does 9 6 (Move (object 2) ([] ∷ [])) ∷ does 9 1 (Write (object 1)) ∷ []) (1 ∷ [])
    ∷ row FinishPoint (at 10 1) (does 10 1 (Return (2 ∷ [])) ∷ []) [] ∷ [])
    ∷ (row DeclarePoint (at 13 19) [] (1 ∷ [])
    ∷ row CallPoint (at 14 1)
    (does 14 13 (Read (part 6 (Field 2 ∷ []))) ∷ does 14 7 (Actual (object 6) Out true false)
    ∷ does 14 10 (Actual (object 1) In true true) ∷ []) (2 ∷ [])
    ∷ row EndPoint (at 15 1) (does 15 1 (EndScope 6 false) ∷ []) (3 ∷ [])
    ∷ row FinishPoint (at 15 1) (does 15 1 (Return []) ∷ []) [] ∷ [])
    ∷ []
unfolding laying
calls_rows = refl

-- The formal L is 1 and the borrower B is 2; X is 3 and the borrower B is 4. A traversal call that
-- is the source of a borrow stands for the name of its traversed actual.
traversal_rows : rows traversal ≡ []
    ∷ (row DeclarePoint (at 8 1) (does 8 20 (Borrow 2 (object 1)) ∷ []) (1 ∷ [])
    ∷ row TestPoint (at 9 1) (does 9 7 (Look (part 2 (Deref ∷ Field 1 ∷ []))) ∷ []) (2 ∷ 3 ∷ [])
    ∷ row AssignPoint (at 9 27) (does 9 27 (Reborrow 2 (part 2 (Deref ∷ Field 1 ∷ []))) ∷ []) (1 ∷ [])
    ∷ row HoldPoint (at 9 50) (does 9 57 (Give (object 2) true) ∷ []) (4 ∷ [])
    ∷ row EndPoint (at 9 50) (does 9 50 (EndScope 2 true) ∷ []) (5 ∷ [])
    ∷ row FinishPoint (at 9 50) (does 9 50 (Return (1 ∷ [])) ∷ []) []
    ∷ row FallPoint (at 9 60) [] [] ∷ [])
    ∷ (row DeclarePoint (at 12 19) [] (1 ∷ [])
    ∷ row CallPoint (at 13 28) [] (2 ∷ [])
    ∷ row DeclarePoint (at 13 9) (does 13 34 (Borrow 4 (object 3)) ∷ []) (3 ∷ [])
    ∷ row AssignPoint (at 13 44) (does 13 44 (Write (part 4 (Deref ∷ Field 0 ∷ []))) ∷ []) (4 ∷ [])
    ∷ row EndPoint (at 13 58) (does 13 58 (EndScope 4 true) ∷ []) (5 ∷ [])
    ∷ row OutputPoint (at 14 1) (does 14 26 (Read (part 3 (Deref ∷ Field 1 ∷ Deref ∷ Field 0 ∷ []))) ∷ []) (6 ∷ [])
    ∷ row EndPoint (at 15 1) (does 15 1 (EndScope 3 false) ∷ []) (7 ∷ [])
    ∷ row FinishPoint (at 15 1) (does 15 1 (Return []) ∷ []) [] ∷ [])
    ∷ []
unfolding laying
traversal_rows = refl
