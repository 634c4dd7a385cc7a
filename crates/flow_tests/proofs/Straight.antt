-- Points of straight lines, blocks, loops and branches, and of what leaves them.
use Rattle.std.proofs.Common.{◌≡◌, refl, [], ◌∷◌}
use Rattle.std.specs.Prelude.{true, false}
use Rattle.place_names.specs.declared.selector.Sel.TheVariants.{Field, Deref}
use Rattle.place_names.specs.declared.act.Act.TheVariants.{Read, Look, Write, Move, Borrow, Free, EndScope, Return}
use Rattle.place_names.specs.Names.{object}
use Rattle.flow_tests.proofs.ResolvedTrees.{at}
use Rattle.flow_tests.proofs.Sources.{nine_lines, five_steps, exit_of_block, two_exits, for_case, two_blocks}
use Rattle.flow_tests.proofs.Flow.{rows, laying, row, part, does, SkipPoint, DeclarePoint, AssignPoint, OutputPoint, ReleasePoint, TestPoint, ChoosePoint, StartPoint, NextPoint, LeavePoint, HoldPoint, EndPoint, FinishPoint}

-- Objects have the numbers of their declarations, and 0 is Ada.Text_IO. Each list of points is that
-- of a subprogram; the first is that of the package objects, of which there are none here.

-- X is 1, Y is 2, N is 3.
nine_rows : rows nine_lines ≡ []
    ∷ (row DeclarePoint (at 5 1) [] (1 ∷ [])
    ∷ row DeclarePoint (at 5 4) [] (2 ∷ [])
    ∷ row DeclarePoint (at 6 1) [] (3 ∷ [])
    ∷ row AssignPoint (at 8 1) (does 8 1 (Write (object 1)) ∷ []) (4 ∷ [])
    ∷ row AssignPoint (at 8 23) (does 8 28 (Move (object 1) ([] ∷ [])) ∷ does 8 23 (Write (object 2)) ∷ []) (5 ∷ [])
    ∷ row AssignPoint (at 8 31) (does 8 36 (Read (part 1 (Deref ∷ []))) ∷ does 8 31 (Write (object 3)) ∷ []) (6 ∷ [])
    ∷ row ReleasePoint (at 8 43) (does 8 49 (Free (object 2)) ∷ []) (7 ∷ [])
    ∷ row EndPoint (at 9 1) (does 9 1 (EndScope 2 false) ∷ []) (8 ∷ [])
    ∷ row EndPoint (at 9 1) (does 9 1 (EndScope 1 false) ∷ []) (9 ∷ [])
    ∷ row FinishPoint (at 9 1) (does 9 1 (Return []) ∷ []) [] ∷ [])
    ∷ []
unfolding laying
nine_rows = refl

-- Five steps.
five_rows : rows five_steps ≡ []
    ∷ (row DeclarePoint (at 14 1) [] (1 ∷ [])
    ∷ row OutputPoint (at 16 1) (does 16 26 (Read (part 1 (Deref ∷ []))) ∷ []) (2 ∷ [])
    ∷ row ReleasePoint (at 17 1) (does 17 7 (Free (object 1)) ∷ []) (3 ∷ [])
    ∷ row EndPoint (at 18 1) (does 18 1 (EndScope 1 false) ∷ []) (4 ∷ [])
    ∷ row FinishPoint (at 18 1) (does 18 1 (Return []) ∷ []) [] ∷ [])
    ∷ []
unfolding laying
five_rows = refl

-- X is 1, the borrower B is 2, Y is 3. The exit ends the scopes of Y and B at its own position, and
-- the block at its `end`, from where the loop goes on with its first point.
exit_rows : rows exit_of_block ≡ []
    ∷ (row DeclarePoint (at 14 1) [] (1 ∷ [])
    ∷ row DeclarePoint (at 16 14) (does 16 33 (Borrow 2 (object 1)) ∷ []) (2 ∷ [])
    ∷ row DeclarePoint (at 16 36) [] (3 ∷ [])
    ∷ row LeavePoint (at 16 74) [] (4 ∷ [])
    ∷ row EndPoint (at 16 74) (does 16 74 (EndScope 3 false) ∷ []) (5 ∷ [])
    ∷ row EndPoint (at 16 74) (does 16 74 (EndScope 2 true) ∷ []) (8 ∷ [])
    ∷ row EndPoint (at 16 80) (does 16 80 (EndScope 3 false) ∷ []) (7 ∷ [])
    ∷ row EndPoint (at 16 80) (does 16 80 (EndScope 2 true) ∷ []) (1 ∷ [])
    ∷ row AssignPoint (at 17 1) (does 17 1 (Write (object 1)) ∷ []) (9 ∷ [])
    ∷ row EndPoint (at 18 1) (does 18 1 (EndScope 1 false) ∷ []) (10 ∷ [])
    ∷ row FinishPoint (at 18 1) (does 18 1 (Return []) ∷ []) [] ∷ [])
    ∷ []
unfolding laying
exit_rows = refl

-- L is 1, the borrower B is 2. Each of the two exits ends the scope of B.
two_exits_rows : rows two_exits ≡ []
    ∷ (row DeclarePoint (at 14 1) [] (1 ∷ [])
    ∷ row DeclarePoint (at 16 14) (does 16 33 (Borrow 2 (object 1)) ∷ []) (2 ∷ [])
    ∷ row LeavePoint (at 16 42) (does 16 52 (Look (object 2)) ∷ []) (3 ∷ 4 ∷ [])
    ∷ row EndPoint (at 16 42) (does 16 42 (EndScope 2 true) ∷ []) (8 ∷ [])
    ∷ row AssignPoint (at 16 62) (does 16 62 (Write (part 1 (Deref ∷ Field 0 ∷ []))) ∷ []) (5 ∷ [])
    ∷ row LeavePoint (at 16 76) [] (6 ∷ [])
    ∷ row EndPoint (at 16 76) (does 16 76 (EndScope 2 true) ∷ []) (8 ∷ [])
    ∷ row EndPoint (at 16 82) (does 16 82 (EndScope 2 true) ∷ []) (1 ∷ [])
    ∷ row AssignPoint (at 17 1) (does 17 1 (Write (part 1 (Deref ∷ Field 0 ∷ []))) ∷ []) (9 ∷ [])
    ∷ row EndPoint (at 18 1) (does 18 1 (EndScope 1 false) ∷ []) (10 ∷ [])
    ∷ row FinishPoint (at 18 1) (does 18 1 (Return []) ∷ []) [] ∷ [])
    ∷ []
unfolding laying
two_exits_rows = refl

-- S is 1, the parameter I is 2. The bounds are evaluated at Start alone.
for_rows : rows for_case ≡ []
    ∷ (row DeclarePoint (at 14 1) [] (1 ∷ [])
    ∷ row StartPoint (at 16 1) (does 16 15 (Read (object 1)) ∷ []) (2 ∷ [])
    ∷ row NextPoint (at 16 1) [] (3 ∷ 6 ∷ [])
    ∷ row ChoosePoint (at 17 1) (does 17 6 (Read (object 2)) ∷ []) (4 ∷ 5 ∷ [])
    ∷ row AssignPoint (at 18 20) (does 18 25 (Read (object 1)) ∷ does 18 29 (Read (object 2)) ∷ does 18 20 (Write (object 1)) ∷ []) (2 ∷ [])
    ∷ row SkipPoint (at 19 16) [] (2 ∷ [])
    ∷ row FinishPoint (at 22 1) (does 22 1 (Return []) ∷ []) [] ∷ [])
    ∷ []
unfolding laying
for_rows = refl

-- X is 1, N is 2; Y is 3, M is 4; Z is 5, K is 6. The return ends all scopes, the inner ones first,
-- and has a Finish of its own.
two_blocks_rows : rows two_blocks ≡ []
    ∷ (row DeclarePoint (at 14 1) [] (1 ∷ [])
    ∷ row DeclarePoint (at 15 1) [] (2 ∷ [])
    ∷ row DeclarePoint (at 17 9) [] (3 ∷ [])
    ∷ row DeclarePoint (at 17 19) [] (4 ∷ [])
    ∷ row DeclarePoint (at 19 9) [] (5 ∷ [])
    ∷ row DeclarePoint (at 19 19) [] (6 ∷ [])
    ∷ row TestPoint (at 20 1) (does 20 4 (Read (object 2)) ∷ does 20 8 (Read (object 4)) ∷ []) (7 ∷ 12 ∷ [])
    ∷ row HoldPoint (at 20 15) [] (8 ∷ [])
    ∷ row EndPoint (at 20 15) (does 20 15 (EndScope 5 false) ∷ []) (9 ∷ [])
    ∷ row EndPoint (at 20 15) (does 20 15 (EndScope 3 false) ∷ []) (10 ∷ [])
    ∷ row EndPoint (at 20 15) (does 20 15 (EndScope 1 false) ∷ []) (11 ∷ [])
    ∷ row FinishPoint (at 20 15) (does 20 15 (Return []) ∷ []) []
    ∷ row AssignPoint (at 21 1) (does 21 1 (Write (object 6)) ∷ []) (13 ∷ [])
    ∷ row EndPoint (at 22 1) (does 22 1 (EndScope 5 false) ∷ []) (14 ∷ [])
    ∷ row EndPoint (at 22 11) (does 22 11 (EndScope 3 false) ∷ []) (15 ∷ [])
    ∷ row EndPoint (at 23 1) (does 23 1 (EndScope 1 false) ∷ []) (16 ∷ [])
    ∷ row FinishPoint (at 23 1) (does 23 1 (Return []) ∷ []) [] ∷ [])
    ∷ []
unfolding laying
two_blocks_rows = refl
