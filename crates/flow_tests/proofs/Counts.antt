-- Leak checks, facts, words and steps.
use Rattle.std.proofs.Common.{◌≡◌, refl, [], ◌∷◌, map}
use Rattle.std.specs.Prelude.{length, false}
use Rattle.place_names.specs.declared.selector.Sel.TheVariants.{Field, Elem, Deref}
use Rattle.place_names.specs.declared.rule.Loan.TheVariants.{Borrowed}
use Rattle.place_names.specs.declared.fact.Fact.TheVariants.{Moved, Lent}
use Rattle.place_names.specs.declared.act.Act.TheVariants.{Read, Look, Write, Move, Free, EndScope, Return}
use Rattle.place_names.specs.Names.{object}
use Rattle.flow_paths.specs.Laid.{FlowSub}
use Rattle.flow_tests.proofs.ResolvedTrees.{at}
use Rattle.flow_tests.proofs.Sources.{nine_lines, short_call, calls, traversal, made_three, leak_checks, arrays}
use Rattle.flow_tests.proofs.Flow.{flow, rows, leaks, spot, steps, laying, row, part, does, DeclarePoint, AssignPoint, ReleasePoint, TestPoint, EndPoint, FinishPoint}

-- ---- leak checks: at targets, what a freed name designates, ends of scopes, and `out` actuals

-- X is 1.
leak_spots : leaks leak_checks ≡ [] ∷ (spot 16 1 (object 1) 1 ∷ spot 16 20 (part 1 (Deref ∷ Field 1 ∷ [])) 0
    ∷ spot 16 24 (part 1 (Deref ∷ Field 1 ∷ [])) 0 ∷ spot 17 1 (object 1) 0 ∷ []) ∷ []
unfolding laying
leak_spots = refl

-- R is 6: those of the `out` actual come before the first Actual act, which stands after a read.
call_spots : leaks calls ≡ [] ∷ (spot 9 1 (object 1) 1 ∷ [])
    ∷ (spot 14 7 (part 6 (Field 0 ∷ [])) 1 ∷ spot 14 7 (part 6 (Field 1 ∷ [])) 1
    ∷ spot 15 1 (part 6 (Field 0 ∷ [])) 0 ∷ spot 15 1 (part 6 (Field 1 ∷ [])) 0 ∷ []) ∷ []
unfolding laying
call_spots = refl

-- R is 1, S is 2, I is 3. Indexes are evaluated before the name; those of a target after the
-- source.
array_rows : rows arrays ≡ []
    ∷ (row DeclarePoint (at 14 37) [] (1 ∷ [])
    ∷ row DeclarePoint (at 14 40) [] (2 ∷ [])
    ∷ row DeclarePoint (at 14 49) [] (3 ∷ [])
    ∷ row AssignPoint (at 16 1)
    (does 16 17 (Read (object 3)) ∷ does 16 14 (Move (part 2 (Elem ∷ [])) ([] ∷ []))
    ∷ does 16 4 (Read (object 3)) ∷ does 16 1 (Write (part 1 (Elem ∷ []))) ∷ []) (4 ∷ [])
    ∷ row AssignPoint (at 16 21) (does 16 26 (Move (object 1) ((Elem ∷ []) ∷ [])) ∷ does 16 21 (Write (object 2)) ∷ []) (5 ∷ [])
    ∷ row ReleasePoint (at 16 29) (does 16 38 (Read (object 3)) ∷ does 16 35 (Free (part 1 (Elem ∷ []))) ∷ []) (6 ∷ [])
    ∷ row TestPoint (at 16 43) (does 16 49 (Read (object 3)) ∷ does 16 46 (Look (part 2 (Elem ∷ []))) ∷ []) (7 ∷ 8 ∷ [])
    ∷ row AssignPoint (at 16 64) (does 16 69 (Read (part 1 (Elem ∷ Deref ∷ Field 0 ∷ []))) ∷ does 16 64 (Write (object 3)) ∷ []) (8 ∷ [])
    ∷ row EndPoint (at 17 1) (does 17 1 (EndScope 2 false) ∷ []) (9 ∷ [])
    ∷ row EndPoint (at 17 1) (does 17 1 (EndScope 1 false) ∷ []) (10 ∷ [])
    ∷ row FinishPoint (at 17 1) (does 17 1 (Return []) ∷ []) [] ∷ [])
    ∷ []
unfolding laying
array_rows = refl

array_spots : leaks arrays ≡ [] ∷ (spot 16 1 (part 1 (Elem ∷ [])) 3 ∷ spot 16 21 (part 2 (Elem ∷ [])) 1
    ∷ spot 16 35 (part 1 (Elem ∷ Deref ∷ Field 1 ∷ [])) 1
    ∷ spot 17 1 (part 2 (Elem ∷ [])) 0 ∷ spot 17 1 (part 1 (Elem ∷ [])) 0 ∷ []) ∷ []
unfolding laying
array_spots = refl

-- ---- facts, in the order of the first act that adds them

nine_facts : map (λ (sub : FlowSub). sub.facts) (flow nine_lines).subs ≡ [] ∷ (Moved (object 1) ∷ []) ∷ []
unfolding laying
nine_facts = refl

array_facts : map (λ (sub : FlowSub). sub.facts) (flow arrays).subs
    ≡ [] ∷ (Moved (part 2 (Elem ∷ [])) ∷ Moved (part 1 (Elem ∷ [])) ∷ []) ∷ []
unfolding laying
array_facts = refl

traversal_facts : map (λ (sub : FlowSub). sub.facts) (flow traversal).subs
    ≡ [] ∷ (Lent Borrowed 2 (object 1) ∷ []) ∷ (Lent Borrowed 4 (object 3) ∷ []) ∷ []
unfolding laying
traversal_facts = refl

-- ---- words of frames, and objects with temporaries after them

short_words : map (λ (sub : FlowSub). sub.words) (flow short_call).subs ≡ 1 ∷ 2 ∷ 8 ∷ []
unfolding laying
short_words = refl

short_objects : length (flow short_call).objects ≡ 9
unfolding laying
short_objects = refl

calls_words : map (λ (sub : FlowSub). sub.words) (flow calls).subs ≡ 3 ∷ 6 ∷ 4 ∷ []
unfolding laying
calls_words = refl

traversal_words : map (λ (sub : FlowSub). sub.words) (flow traversal).subs ≡ 1 ∷ 3 ∷ 4 ∷ []
unfolding laying
traversal_words = refl

-- ---- steps

-- P1, P2, P3 and the main procedure of the made program. Each loop has one iteration.
made_points : map (λ (sub : FlowSub). length sub.points) (flow made_three).subs ≡ 0 ∷ 2 ∷ 4 ∷ 8 ∷ 13 ∷ []
unfolding laying
made_points = refl

made_steps : map (λ (sub : FlowSub). steps 100 sub.points (0 ∷ 1 ∷ []) 0) (flow made_three).subs ≡ 1 ∷ 2 ∷ 4 ∷ 9 ∷ 14 ∷ []
unfolding laying
made_steps = refl
