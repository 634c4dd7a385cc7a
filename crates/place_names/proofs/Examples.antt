-- Small paths, worked by hand from the rules: what each act leaves and what it is forbidden by.
use Rattle.std.proofs.Common.{◌≡◌, refl, ℕ, List, [], ◌∷◌, true, false, Some, None, inl}
use Rattle.std.specs.Prelude.{codes}
use Rattle.std.specs.declared.cmp.Ordering.TheVariants.{Less}
use Rattle.spark_base.specs.declared.position.Pos.{Pos}
use Rattle.place_names.specs.declared.selector.Sel.TheVariants.{Field, Elem, Deref}
use Rattle.place_names.specs.declared.act.Mode.TheVariants.{In, Out, InOut}
use Rattle.place_names.specs.declared.rule.Loan.TheVariants as loan
use Rattle.place_names.specs.declared.rule.State.TheVariants as state
use Rattle.place_names.specs.declared.rule.Rule.TheVariants.{O1, O2, O3, O4, O7, O8, O9, O10, O11, O14}
use Rattle.place_names.specs.Names.{Name, object}
use Rattle.place_names.specs.declared.act.Act.{Act}
use Rattle.place_names.specs.declared.act.Act.TheVariants.{Read, Look, Write, Move, Borrow, Observe, Reborrow, EndScope, Return, Actual, Global, Free}
use Rattle.place_names.specs.declared.act.Placed.{Placed}
use Rattle.place_names.specs.declared.fact.Fact.TheVariants.{Moved, Lent}
use Rattle.place_names.specs.Facts.{facts_after}
use Rattle.place_names.specs.Rules.{forbids}
use Rattle.place_names.specs.Reports.{Report, Gives, report_cmp}
use Rattle.place_names.specs.Printed.{printed}

-- X, X.all, X.all.Next, where Next is the component with number 1, and X (?)
abbrev x : Name
x = object 1

abbrev x_all : Name
x_all = record { root = 1; sels = Deref ∷ [] }

abbrev x_next : Name
x_next = record { root = 1; sels = Deref ∷ Field 1 ∷ [] }

abbrev x_elem : Name
x_elem = record { root = 1; sels = Elem ∷ [] }

-- a move of an access object itself
abbrev move_x : Act
move_x = Move x ([] ∷ [])

-- after a move of X, X.all may not be read
move_adds : facts_after (move_x ∷ []) ≡ Moved x ∷ []
move_adds = refl

read_after_move : forbids (Read x_all) (Moved x) ≡ Some (record { rule = O1; name = x_all; word = state.Moved })
read_after_move = refl

-- a write of X gives it a value again
write_after_move : facts_after (move_x ∷ Write x ∷ []) ≡ []
write_after_move = refl

write_of_moved : forbids (Write x) (Moved x) ≡ None
write_of_moved = refl

-- a write of X.all after a move of X is forbidden, and the fact stays
write_below_moved : forbids (Write x_all) (Moved x) ≡ Some (record { rule = O3; name = x_all; word = state.Moved })
write_below_moved = refl

write_below_stays : facts_after (move_x ∷ Write x_all ∷ []) ≡ Moved x ∷ []
write_below_stays = refl

-- X.Next := X breaks the rule of writes, after the move of its own source
write_into_moved : forbids (Write x_next) (Moved x) ≡ Some (record { rule = O3; name = x_next; word = state.Moved })
write_into_moved = refl

-- a free of a moved X is forbidden, and clears it all the same; a free alone has nothing to do
free_after_move : forbids (Free x) (Moved x) ≡ Some (record { rule = O14; name = x; word = state.Moved })
free_after_move = refl

free_removes : facts_after (move_x ∷ Free x ∷ []) ≡ []
free_removes = refl

free_alone : facts_after (Free x ∷ []) ≡ []
free_alone = refl

-- a free of X with a hole in what it designates is allowed
free_of_hole : forbids (Free x) (Moved x_next) ≡ None
free_of_hole = refl

-- a second move of X
move_twice : forbids move_x (Moved x) ≡ Some (record { rule = O4; name = x; word = state.Moved })
move_twice = refl

-- object 5 borrows X: X.all.Value may not be read, until the scope of 5 ends
borrow_adds : facts_after (Borrow 5 x ∷ []) ≡ Lent loan.Borrowed 5 x ∷ []
borrow_adds = refl

read_of_borrowed : forbids (Read (record { root = 1; sels = Deref ∷ Field 0 ∷ [] })) (Lent loan.Borrowed 5 x)
    ≡ Some (record { rule = O1; name = record { root = 1; sels = Deref ∷ Field 0 ∷ [] }; word = state.Borrowed })
read_of_borrowed = refl

borrow_ends : facts_after (Borrow 5 x ∷ EndScope 5 true ∷ []) ≡ []
borrow_ends = refl

other_scope_ends : facts_after (Borrow 5 x ∷ EndScope 4 true ∷ []) ≡ Lent loan.Borrowed 5 x ∷ []
other_scope_ends = refl

-- a write at some element gives no value back
write_at_elem : facts_after (Move x_elem ([] ∷ []) ∷ Write x_elem ∷ []) ≡ Moved x_elem ∷ []
write_at_elem = refl

-- the end of borrower 5 names what was moved out of it; the end of another object is free
borrower_with_hole : forbids (EndScope 5 true) (Moved (record { root = 5; sels = Deref ∷ Field 0 ∷ [] }))
    ≡ Some (record { rule = O8; name = record { root = 5; sels = Deref ∷ Field 0 ∷ [] }; word = state.Moved })
borrower_with_hole = refl

object_with_hole : forbids (EndScope 5 false) (Moved (record { root = 5; sels = Deref ∷ Field 0 ∷ [] })) ≡ None
object_with_hole = refl

-- X = null with X.all moved is allowed, X.all = null with X moved is not
look_above_moved : forbids (Look x) (Moved x_all) ≡ None
look_above_moved = refl

look_below_moved : forbids (Look x_all) (Moved x) ≡ Some (record { rule = O2; name = x_all; word = state.Moved })
look_below_moved = refl

look_of_observed : forbids (Look x) (Lent loan.Observed 5 x) ≡ None
look_of_observed = refl

-- a reborrow past a hole
reborrow_past_hole : forbids (Reborrow 5 (record { root = 5; sels = Deref ∷ Field 1 ∷ [] })) (Moved (record { root = 5; sels = Deref ∷ Field 0 ∷ [] }))
    ≡ Some (record { rule = O7; name = object 5; word = state.Moved })
reborrow_past_hole = refl

-- an observer of an observer takes no loan, and an observed place may be observed but not written
observe_adds : facts_after (Observe 6 x false ∷ Observe 7 (record { root = 6; sels = Deref ∷ Field 1 ∷ [] }) true ∷ []) ≡ Lent loan.Observed 6 x ∷ []
observe_adds = refl

observe_twice : forbids (Observe 7 x false) (Lent loan.Observed 6 x) ≡ None
observe_twice = refl

write_of_observed : forbids (Write x) (Lent loan.Observed 6 x) ≡ Some (record { rule = O3; name = x; word = state.Observed })
write_of_observed = refl

-- a package object that is observed may be read by a callee, not written
callee_reads : forbids (Global 1 false) (Lent loan.Observed 6 x) ≡ None
callee_reads = refl

callee_writes : forbids (Global 1 true) (Lent loan.Observed 6 x) ≡ Some (record { rule = O11; name = x; word = state.Observed })
callee_writes = refl

-- the end of a call names the moved formal, and no local object
formal_moved : forbids (Return (1 ∷ 2 ∷ [])) (Moved x_next) ≡ Some (record { rule = O9; name = x_next; word = state.Moved })
formal_moved = refl

local_moved : forbids (Return (2 ∷ 3 ∷ [])) (Moved x_next) ≡ None
local_moved = refl

-- an observed X as an actual: mode in of an access type in a procedure call borrows, any other
-- owning in observes, in out moves, out writes and then clears
access_actual : forbids (Actual x In true true) (Lent loan.Observed 6 x) ≡ Some (record { rule = O10; name = x; word = state.Observed })
access_actual = refl

owning_actual : forbids (Actual x In true false) (Lent loan.Observed 6 x) ≡ None
owning_actual = refl

in_out_actual : forbids (Actual x_all InOut true false) (Moved x_next) ≡ Some (record { rule = O10; name = x_all; word = state.Moved })
in_out_actual = refl

scalar_actual : forbids (Actual (record { root = 1; sels = Deref ∷ Field 0 ∷ [] }) InOut false false) (Moved x)
    ≡ Some (record { rule = O10; name = record { root = 1; sels = Deref ∷ Field 0 ∷ [] }; word = state.Moved })
scalar_actual = refl

out_actual : forbids (Actual x Out true false) (Moved x) ≡ None
out_actual = refl

out_clears : facts_after (move_x ∷ Actual x Out true false ∷ []) ≡ []
out_clears = refl

-- the text of X (?).all.Next
text_of_name : printed (λ r. codes "X") (λ before i. codes "Next") (record { root = 1; sels = Elem ∷ Deref ∷ Field 1 ∷ [] }) ≡ codes "X(?).all.Next"
text_of_name = refl

-- The reports of one path: X is moved at line 8, column 28, and X.all is read at column 36 of that
-- line.
abbrev moved_at : Pos
moved_at = record { file = 0; line = 8; column = 28 }

abbrev read_at : Pos
read_at = record { file = 0; line = 8; column = 36 }

abbrev path : List Placed
path = record { pos = moved_at; act = move_x } ∷ record { pos = read_at; act = Read x_all } ∷ []

abbrev read_report : Report
read_report = record { pos = read_at; rule = O1; name = x_all; word = Some state.Moved }

path_gives : Gives path read_report
path_gives = record {
  before = record { pos = moved_at; act = move_x } ∷ [];
  placed = record { pos = read_at; act = Read x_all };
  after = [];
  split = refl;
  fact = Moved x;
  holds = inl refl;
  found = record { rule = O1; name = x_all; word = state.Moved };
  forbidden = refl;
  reported = refl;
}

-- O2 stands before O10, and a text before a longer one; at equal reports the root that is declared
-- later stands first
abbrev same_text : Name → List ℕ
same_text m = codes "X"

rules_in_order : report_cmp same_text (record read_report { rule = O2 }) (record read_report { rule = O10 }) ≡ Less
rules_in_order = refl

later_line : report_cmp same_text (record read_report { rule = O9 }) (record { pos = record { file = 0; line = 9; column = 1 }; rule = O1; name = x; word = None }) ≡ Less
later_line = refl

longer_text : report_cmp (λ m. printed (λ r. codes "X") (λ before i. codes "Next") m) (record read_report { name = x }) read_report ≡ Less
longer_text = refl

later_root : report_cmp same_text (record read_report { name = object 2 }) (record read_report { name = object 1 }) ≡ Less
later_root = refl

-- last of all the selectors decide
fewer_selectors : report_cmp same_text (record read_report { name = x }) read_report ≡ Less
fewer_selectors = refl

component_first : report_cmp same_text (record read_report { name = record { root = 1; sels = Field 7 ∷ [] } }) read_report ≡ Less
component_first = refl
