-- Runs of small sources.
use Rattle.std.proofs.Common.{◌≡◌, refl, [], ◌∷◌}
use Rattle.std.specs.Prelude.{codes}
use Rattle.flow_tests.proofs.Sources.{five_steps, made_three, exit_of_block, traversal}
use Rattle.flow_tests.proofs.ResolvedTrees.{at}
use Rattle.flow_tests.proofs.Flow.{flow}
use Rattle.machine.specs.Evaluate.{ConstraintError, ProgramError, DataError, EndError}
use Rattle.machine.specs.States.{Normal, Raised, Spent}
use Rattle.machine.specs.Run.{run}
use Rattle.machine_tests.proofs.Running.{running, no_cells, size, ran, leak, lines}
use Rattle.machine_tests.proofs.Sources.{given_up, images, inner_leak, next_lost, no_return, null_read, one_null, one_slot, overflow, passing, self_move, short_circuits, two_items, two_slots}

-- ---- steps and budgets

-- Declare, Output, Release, the end of the scope of X, and Finish.
five : run (flow five_steps) [] 100
    ≡ ran (lines (codes " 7" ∷ [])) [] Normal 5 (record { made = 1; freed = 1; leaked = 0; peaks = size 1 1 ∷ [] })
unfolding running
five = refl

-- Three procedures over lists: one adds a cell, one borrows it, one observes it and takes sums.
three : run (flow made_three) [] 100
    ≡ ran (lines (codes " 3" ∷ [])) [] Normal 29 (record { made = 1; freed = 1; leaked = 0; peaks = size 2 1 ∷ [] })
unfolding running
three = refl

-- A budget that ends before the program does is spent.
no_step : run (flow one_null) [] 0 ≡ ran [] [] Spent 0 no_cells
unfolding running
no_step = refl

one_step : run (flow one_null) [] 1 ≡ ran [] [] Spent 1 no_cells
unfolding running
one_step = refl

both_steps : run (flow one_null) [] 2 ≡ ran [] [] Normal 2 no_cells
unfolding running
both_steps = refl

-- ---- cells

-- The inner cell is made first.
inner_first : run (flow inner_leak) [] 100
    ≡ ran [] (leak 1 (at 16 7) ∷ []) Normal 5 (record { made = 2; freed = 1; leaked = 1; peaks = size 2 2 ∷ [] })
unfolding running
inner_first = refl

-- What is assigned is evaluated before the target is checked.
target_checked : run (flow next_lost) [] 100
    ≡ ran [] (leak 1 (at 16 1) ∷ []) Normal 4 (record { made = 1; freed = 0; leaked = 1; peaks = size 2 1 ∷ [] })
unfolding running
target_checked = refl

-- An object that is moved to itself isn't leaked there, but at the end of its scope.
kept : run (flow self_move) [] 100
    ≡ ran [] (leak 1 (at 17 1) ∷ []) Normal 4 (record { made = 1; freed = 0; leaked = 1; peaks = size 2 1 ∷ [] })
unfolding running
kept = refl

-- An exit ends the scopes that it leaves.
left_block : run (flow exit_of_block) [] 100
    ≡ ran [] (leak 1 (at 16 74) ∷ []) Normal 9 (record { made = 1; freed = 0; leaked = 1; peaks = size 2 1 ∷ [] })
unfolding running
left_block = refl

-- What counts for a size is how many of its cells are there at once.
at_once : run (flow one_slot) [] 100
    ≡ ran (codes " 0") [] Normal 9 (record { made = 2; freed = 2; leaked = 0; peaks = size 2 1 ∷ [] })
unfolding running
at_once = refl

two_sizes : run (flow two_slots) [] 100
    ≡ ran (lines (codes " 6" ∷ [])) [] Normal 11 (record { made = 3; freed = 3; leaked = 0; peaks = size 2 1 ∷ size 1 1 ∷ [] })
unfolding running
two_sizes = refl

-- ---- exceptions

-- A step that raises is counted, and the cells that it made count as freed.
raising : run (flow given_up) [] 100
    ≡ ran [] [] (Raised ConstraintError (at 11 4)) 3 (record { made = 2; freed = 1; leaked = 0; peaks = size 2 2 ∷ [] })
unfolding running
raising = refl

null_designates_nothing : run (flow null_read) [] 100
    ≡ ran (lines (codes "a" ∷ [])) [] (Raised ConstraintError (at 16 29)) 5 no_cells
unfolding running
null_designates_nothing = refl

outside_integer : run (flow overflow) [] 100
    ≡ ran (lines (codes "a" ∷ [])) [] (Raised ConstraintError (at 16 17)) 4 no_cells
unfolding running
outside_integer = refl

function_ends : run (flow no_return) [] 100 ≡ ran [] [] (Raised ProgramError (at 10 4)) 8 no_cells
unfolding running
function_ends = refl

-- The input is `12 x`.
no_number : run (flow two_items) (codes "12 x") 100 ≡ ran [] [] (Raised DataError (at 16 10)) 3 no_cells
unfolding running
no_number = refl

no_item : run (flow two_items) (codes "12") 100 ≡ ran [] [] (Raised EndError (at 16 10)) 3 no_cells
unfolding running
no_item = refl

-- ---- expressions and calls

-- Formals are copied in and back; records are copied; a function calls itself; a subtype refuses
-- 12.
passed : run (flow passing) [] 100
    ≡ ran (lines (codes " 2 1 8" ∷ codes " 2, 8" ∷ [])) [] (Raised ConstraintError (at 18 7)) 41 no_cells
unfolding running
passed = refl

imaged : run (flow images) [] 100
    ≡ ran (lines (codes "-2-3-4" ∷ codes "RED\"TRUE\"BLUE" ∷ [])) [] (Raised ConstraintError (at 23 4)) 29 no_cells
unfolding running
imaged = refl

-- A right operand with a call is evaluated where the left one doesn't decide.
short : run (flow short_circuits) [] 100 ≡ ran (lines (codes "yes" ∷ [])) [] Normal 28 no_cells
unfolding running
short = refl

-- The result of a traversal function borrows the last cell.
traversed : run (flow traversal) [] 100
    ≡ ran (lines (codes " 9" ∷ [])) (leak 2 (at 15 1) ∷ []) Normal 15 (record { made = 2; freed = 0; leaked = 1; peaks = size 2 2 ∷ [] })
unfolding running
traversed = refl
