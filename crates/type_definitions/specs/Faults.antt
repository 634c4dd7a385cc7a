-- Faults: a position and the number of the sentence that is broken there.
use Rattle.std.specs.Prelude.{ℕ, Bool, true, false, not, ◌&&◌, ◌||◌, nat_lt, nat_eq, List, [], ◌∷◌, Option, Some, None, if◌then◌else◌}
use Rattle.resolved_tree.specs.spark_base.declared.position.Pos.{Pos}
use Rattle.type_definitions.specs.declared.judgement.Fault.{Fault}

-- One position is before another, in the order of files, lines and columns.
abbrev pub is_before : Pos → Pos → Bool
is_before p q =
    nat_lt p.file q.file
    || (nat_eq p.file q.file && (nat_lt p.line q.line || (nat_eq p.line q.line && nat_lt p.column q.column)))

-- One fault goes before another: by its position, and at one position by its number.
abbrev pub precedes : Fault → Fault → Bool
precedes f g = is_before f.pos g.pos || (not (is_before g.pos f.pos) && nat_lt f.code g.code)

-- The first of the faults and of the one that is found already, where there is one.
abbrev pub noted : Option Fault → List Fault → Option Fault
noted found [] = found
noted None (f ∷ rest) = noted (Some f) rest
noted (Some g) (f ∷ rest) = noted (Some (if precedes f g then f else g)) rest

abbrev pub first : List Fault → Option Fault
first faults = noted None faults

-- A sentence with this number is broken at this position unless this holds.
abbrev pub demand : ℕ → Pos → Bool → List Fault
demand code pos true = []
demand code pos false = record { pos = pos; code = code } ∷ []

abbrev pub K1 : Pos → List Fault
K1 pos = demand 1 pos false

abbrev pub K2 : Pos → List Fault
K2 pos = demand 2 pos false

abbrev pub K3 : Pos → List Fault
K3 pos = demand 3 pos false

abbrev pub K6 : Pos → List Fault
K6 pos = demand 6 pos false

abbrev pub K7 : Pos → List Fault
K7 pos = demand 7 pos false
