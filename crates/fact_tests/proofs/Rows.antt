-- Small paths, worked by hand from docs/RULES.md: what holds after their acts, and what both crates
-- of rules find at one more act.
use Rattle.std.proofs.Common.{◌≡◌, refl, ℕ, List, [], ◌∷◌, ◌++◌, true, false}
use Rattle.place_names.specs.declared.selector.Sel.{Sel}
use Rattle.place_names.specs.declared.selector.Sel.TheVariants.{Field, Elem, Deref}
use Rattle.place_names.specs.declared.act.Mode.TheVariants.{In, Out, InOut}
use Rattle.place_names.specs.declared.rule.Loan.TheVariants as loan
use Rattle.place_names.specs.declared.rule.State.TheVariants as state
use Rattle.place_names.specs.declared.rule.Rule.TheVariants.{O1, O3, O4, O5, O6, O7, O8, O9, O10, O11, O14}
use Rattle.place_names.specs.Names.{Name, object}
use Rattle.place_names.specs.declared.act.Act.{Act}
use Rattle.place_names.specs.declared.act.Act.TheVariants.{Read, Look, Write, Move, Borrow, Observe, Reborrow, EndScope, Return, Actual, Global, Free, Give}
use Rattle.place_names.specs.declared.fact.Fact.{Fact}
use Rattle.place_names.specs.declared.fact.Fact.TheVariants.{Moved, Lent}
use Rattle.place_names.specs.Rules.{Forbidden}
use Rattle.state_trees.specs.FactStates.{FactState, none_hold, state_behind, joined, may_hold, always_hold, any_overlapping}
use Rattle.move_rules.specs.MoveRules.{moves_found}
use Rattle.borrow_observe.specs.LoanRules.{loans_found}

-- X, X.all, X.all.Value, X.all.Next and X (?), where X is object 1, and the same of object 2
abbrev x : Name
x = object 1

abbrev x_all : Name
x_all = record { root = 1; sels = Deref ∷ [] }

abbrev x_value : Name
x_value = record { root = 1; sels = Deref ∷ Field 0 ∷ [] }

abbrev x_next : Name
x_next = record { root = 1; sels = Deref ∷ Field 1 ∷ [] }

abbrev x_elem : Name
x_elem = record { root = 1; sels = Elem ∷ [] }

abbrev y : Name
y = object 2

abbrev y_value : Name
y_value = record { root = 2; sels = Deref ∷ Field 0 ∷ [] }

abbrev y_next : Name
y_next = record { root = 2; sels = Deref ∷ Field 1 ∷ [] }

-- the components of X itself
abbrev x_first : Name
x_first = record { root = 1; sels = Field 0 ∷ [] }

abbrev x_second : Name
x_second = record { root = 1; sels = Field 1 ∷ [] }

-- a move of an access object
abbrev moves : Name → Act
moves m = Move m ([] ∷ [])

-- What holds of some facts after some acts.
abbrev along : FactState → List Act → FactState
along s [] = s
along s (a ∷ acts) = along (state_behind a s) acts

abbrev behind : List Fact → List Act → FactState
behind facts acts = along (none_hold facts) acts

-- After these acts exactly these of the facts hold, and at one more act this is found.
abbrev Finds : List Fact → List Act → List Fact → Act → List Forbidden → Type 0
Finds facts acts held next found =
    (may_hold (behind facts acts) ≡ held)
    × (always_hold (behind facts acts) ≡ held)
    × (moves_found next (behind facts acts) ++ loans_found next (behind facts acts) ≡ found)

-- ---- moves

-- Y := X; then X.all, and a free of another object
read_behind_move : Finds (Moved x ∷ []) (moves x ∷ Write y ∷ []) (Moved x ∷ []) (Read x_all)
    (record { rule = O1; name = x_all; word = state.Moved } ∷ [])
read_behind_move = (refl, refl, refl)

free_of_other : Finds (Moved x ∷ []) (moves x ∷ Write y ∷ []) (Moved x ∷ []) (Free y) []
free_of_other = (refl, refl, refl)

-- X.Next := X, and X := X
write_below_moved : Finds (Moved x ∷ []) (moves x ∷ []) (Moved x ∷ []) (Write x_next)
    (record { rule = O3; name = x_next; word = state.Moved } ∷ [])
write_below_moved = (refl, refl, refl)

write_of_moved : Finds (Moved x ∷ []) (moves x ∷ []) (Moved x ∷ []) (Write x) []
write_of_moved = (refl, refl, refl)

move_behind_write : Finds (Moved x ∷ []) (moves x ∷ Write x ∷ []) [] (moves x) []
move_behind_write = (refl, refl, refl)

-- a move in a loop, the second time
move_twice : Finds (Moved x ∷ []) (moves x ∷ []) (Moved x ∷ []) (moves x)
    (record { rule = O4; name = x; word = state.Moved } ∷ [])
move_twice = (refl, refl, refl)

-- a free makes the name null
free_twice : Finds (Moved x ∷ []) (moves x ∷ Free x ∷ []) [] (Free x) []
free_twice = (refl, refl, refl)

free_of_moved : Finds (Moved x ∷ []) (moves x ∷ []) (Moved x ∷ []) (Free x)
    (record { rule = O14; name = x; word = state.Moved } ∷ [])
free_of_moved = (refl, refl, refl)

-- the move of a record marks its access parts alone
record_move : Finds (Moved x_second ∷ Moved x ∷ Moved x_first ∷ []) (Move x ((Field 1 ∷ []) ∷ []) ∷ []) (Moved x_second ∷ []) (Read x_first) []
record_move = (refl, refl, refl)

-- an assignment to some element doesn't bring back the moved one
write_at_elem : Finds (Moved x_elem ∷ []) (moves x_elem ∷ Write x_elem ∷ []) (Moved x_elem ∷ []) (Read x_elem)
    (record { rule = O1; name = x_elem; word = state.Moved } ∷ [])
write_at_elem = (refl, refl, refl)

-- the scope of a moved object ends
moved_scope_ends : Finds (Moved x ∷ []) (moves x ∷ EndScope 1 false ∷ []) [] (Look x) []
moved_scope_ends = (refl, refl, refl)

-- ---- borrowers

-- reads, writes and comparisons of X while 2 borrows it, and what the borrower's end gives back
read_of_borrowed : Finds (Lent loan.Borrowed 2 x ∷ []) (Borrow 2 x ∷ []) (Lent loan.Borrowed 2 x ∷ []) (Read x_value)
    (record { rule = O1; name = x_value; word = state.Borrowed } ∷ [])
read_of_borrowed = (refl, refl, refl)

write_of_borrowed : Finds (Lent loan.Borrowed 2 x ∷ []) (Borrow 2 x ∷ []) (Lent loan.Borrowed 2 x ∷ []) (Write x_value)
    (record { rule = O3; name = x_value; word = state.Borrowed } ∷ [])
write_of_borrowed = (refl, refl, refl)

look_above_borrowed : Finds (Lent loan.Borrowed 2 x_value ∷ []) (Borrow 2 x_value ∷ []) (Lent loan.Borrowed 2 x_value ∷ []) (Look x) []
look_above_borrowed = (refl, refl, refl)

borrow_ends : Finds (Lent loan.Borrowed 2 x ∷ []) (Borrow 2 x ∷ EndScope 2 true ∷ []) [] (Write x_value) []
borrow_ends = (refl, refl, refl)

-- a reborrow past a hole, and the end of that borrower
reborrow_past_hole : Finds (Lent loan.Borrowed 2 x ∷ Moved y_value ∷ []) (Borrow 2 x ∷ moves y_value ∷ [])
    (Lent loan.Borrowed 2 x ∷ Moved y_value ∷ []) (Reborrow 2 y_next)
    (record { rule = O7; name = y; word = state.Moved } ∷ [])
reborrow_past_hole = (refl, refl, refl)

borrower_with_hole : Finds (Lent loan.Borrowed 2 x ∷ Moved y_value ∷ []) (Borrow 2 x ∷ moves y_value ∷ [])
    (Lent loan.Borrowed 2 x ∷ Moved y_value ∷ []) (EndScope 2 true)
    (record { rule = O8; name = y_value; word = state.Moved } ∷ [])
borrower_with_hole = (refl, refl, refl)

-- ---- observers

-- an observer of what another observer sees takes no loan
observer_of_observer : Finds (Lent loan.Observed 2 x ∷ Lent loan.Observed 3 y_value ∷ []) (Observe 2 x false ∷ Observe 3 y_value true ∷ [])
    (Lent loan.Observed 2 x ∷ []) (Observe 4 x false) []
observer_of_observer = (refl, refl, refl)

-- ---- several facts at one act

-- X.all.Value is lent to object 2, X.all.Next was moved, X is observed by object 3
abbrev three_facts : List Fact
three_facts = Lent loan.Borrowed 2 x_value ∷ Moved x_next ∷ Lent loan.Observed 3 x ∷ []

abbrev three_acts : List Act
three_acts = Borrow 2 x_value ∷ moves x_next ∷ Observe 3 x false ∷ []

-- three kinds of facts, in the order of the facts, each word once
move_of_three : Finds three_facts three_acts three_facts (moves x)
    (record { rule = O4; name = x; word = state.Borrowed } ∷ record { rule = O4; name = x; word = state.Moved } ∷ record { rule = O4; name = x; word = state.Observed } ∷ [])
move_of_three = (refl, refl, refl)

observer_of_three : Finds three_facts three_acts three_facts (Observe 4 x false)
    (record { rule = O6; name = x; word = state.Borrowed } ∷ record { rule = O6; name = x; word = state.Moved } ∷ [])
observer_of_three = (refl, refl, refl)

-- two moved parts are one report of the read, and two of the return
abbrev two_facts : List Fact
two_facts = Moved x_value ∷ Moved x_next ∷ []

read_of_two : Finds two_facts (moves x_value ∷ moves x_next ∷ []) two_facts (Read x)
    (record { rule = O1; name = x; word = state.Moved } ∷ [])
read_of_two = (refl, refl, refl)

return_of_two : Finds two_facts (moves x_value ∷ moves x_next ∷ []) two_facts (Return (3 ∷ 1 ∷ []))
    (record { rule = O9; name = x_value; word = state.Moved } ∷ record { rule = O9; name = x_next; word = state.Moved } ∷ [])
return_of_two = (refl, refl, refl)

-- ---- calls

-- actuals by mode: `in` and a named access type in a procedure call, `in`, `in out`, `in out` of a
-- type that isn't owning, `out`
access_actual : Finds (Lent loan.Observed 2 x ∷ []) (Observe 2 x false ∷ []) (Lent loan.Observed 2 x ∷ []) (Actual x In true true)
    (record { rule = O10; name = x; word = state.Observed } ∷ [])
access_actual = (refl, refl, refl)

in_actual : Finds (Lent loan.Observed 2 x ∷ []) (Observe 2 x false ∷ []) (Lent loan.Observed 2 x ∷ []) (Actual x In true false) []
in_actual = (refl, refl, refl)

in_out_actual : Finds (Moved x ∷ []) (moves x ∷ []) (Moved x ∷ []) (Actual x InOut true false)
    (record { rule = O10; name = x; word = state.Moved } ∷ [])
in_out_actual = (refl, refl, refl)

scalar_actual : Finds (Lent loan.Observed 2 x ∷ []) (Observe 2 x false ∷ []) (Lent loan.Observed 2 x ∷ []) (Actual x_value InOut false false)
    (record { rule = O10; name = x_value; word = state.Observed } ∷ [])
scalar_actual = (refl, refl, refl)

out_actual : Finds (Moved x ∷ []) (moves x ∷ []) (Moved x ∷ []) (Actual x Out true false) []
out_actual = (refl, refl, refl)

read_behind_out : Finds (Moved x ∷ []) (moves x ∷ Actual x Out true false ∷ []) [] (Read x_all) []
read_behind_out = (refl, refl, refl)

-- a package object that the callee reads or writes
callee_reads : Finds (Lent loan.Observed 2 x_value ∷ []) (Observe 2 x_value false ∷ []) (Lent loan.Observed 2 x_value ∷ []) (Global 1 false) []
callee_reads = (refl, refl, refl)

callee_writes : Finds (Lent loan.Observed 2 x_value ∷ []) (Observe 2 x_value false ∷ []) (Lent loan.Observed 2 x_value ∷ []) (Global 1 true)
    (record { rule = O11; name = x; word = state.Observed } ∷ [])
callee_writes = (refl, refl, refl)

-- what a traversal function gives
borrower_given : Finds (Lent loan.Observed 2 x ∷ []) (Observe 2 x false ∷ []) (Lent loan.Observed 2 x ∷ []) (Give x_next true)
    (record { rule = O5; name = x_next; word = state.Observed } ∷ [])
borrower_given = (refl, refl, refl)

observer_given : Finds (Lent loan.Observed 2 x ∷ []) (Observe 2 x false ∷ []) (Lent loan.Observed 2 x ∷ []) (Give x_next false) []
observer_given = (refl, refl, refl)

-- ---- where paths meet

abbrev met_facts : List Fact
met_facts = Moved x ∷ Lent loan.Borrowed 2 x ∷ []

abbrev met : List Act → List Act → FactState
met left right = joined (behind met_facts left) (behind met_facts right)

-- What may hold and what always holds where two branches meet.
abbrev Meet : List Act → List Act → List Fact → List Fact → Type 0
Meet left right may always = (may_hold (met left right) ≡ may) × (always_hold (met left right) ≡ always)

empty_branches : Meet [] [] [] []
empty_branches = (refl, refl)

first_moves : Meet (moves x ∷ []) (Read x_all ∷ []) (Moved x ∷ []) []
first_moves = (refl, refl)

second_moves : Meet (Read x_all ∷ []) (moves x ∷ []) (Moved x ∷ []) []
second_moves = (refl, refl)

both_move : Meet (moves x ∷ []) (moves x ∷ []) (Moved x ∷ []) (Moved x ∷ [])
both_move = (refl, refl)

one_borrows : Meet (moves x ∷ []) (Borrow 2 x ∷ []) met_facts []
one_borrows = (refl, refl)

one_borrow_ends : Meet (Borrow 2 x ∷ []) (Borrow 2 x ∷ EndScope 2 true ∷ []) (Lent loan.Borrowed 2 x ∷ []) []
one_borrow_ends = (refl, refl)

-- the second branch brings nothing that the first one hadn't
nothing_more : (met [] [] ≡ behind met_facts []) × (met (moves x ∷ []) (moves x ∷ []) ≡ behind met_facts (moves x ∷ []))
nothing_more = (refl, refl)

-- after a join, an act changes what holds on each path
write_behind_join : may_hold (along (met [] (moves x ∷ [])) (Write x ∷ [])) ≡ []
write_behind_join = refl

move_behind_join : always_hold (along (met [] (moves x ∷ [])) (moves x ∷ [])) ≡ Moved x ∷ []
move_behind_join = refl

-- what overlaps X.all and Y while 2 borrows X
overlapping : (any_overlapping (behind met_facts (Borrow 2 x ∷ [])) x_all state.Borrowed ≡ true)
    × (any_overlapping (behind met_facts (Borrow 2 x ∷ [])) x_all state.Moved ≡ false)
    × (any_overlapping (behind met_facts (Borrow 2 x ∷ [])) y state.Borrowed ≡ false)
overlapping = (refl, refl, refl)
