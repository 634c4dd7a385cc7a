-- Temporaries in the scopes of points: those that an instruction takes are the last ones in scope.
-- `held` says which objects are temporaries.
use Rattle.std.specs.Prelude.{◌≡◌, ℕ, Bool, true, false, List, [], ◌∷◌, filter, take, drop, length, Some, None}
use Rattle.machine.specs.spark_base.Lists.{Has}
use Rattle.machine.specs.flow_paths.Instructions.{Instruction, Declare, Start, Call, Evaluate, Hold, EndScope}
use Rattle.machine.specs.flow_paths.Points.{NamedPoint}
use Rattle.machine.specs.flow_paths.Scopes.{taken}
use Rattle.settled_types.specs.OrderLaws.ScopeLaws.Code.{are_seen}
use Rattle.settled_types.specs.OrderLaws.ScopeLaws.Order.{named_in}

abbrev pub temporaries_in : (ℕ → Bool) → List ℕ → ℕ
temporaries_in held scope = length (filter held scope)

-- What an instruction does with temporaries, after those that it takes: it declares and ends none, and fills its own;
-- a right operand finds that of the left one; at a return no other one is full.
abbrev pub Fills : (ℕ → Bool) → Instruction → List ℕ → Type 0
Fills held (Declare x v) scope = held x ≡ false
Fills held (Start x reversed low high) scope = held x ≡ false
Fills held (EndScope x) scope = held x ≡ false
Fills held (Call sub actuals (Some t)) scope = held t ≡ true
Fills held (Evaluate t e (Some op)) scope = held t ≡ true
Fills held (Evaluate t e None) scope = (x : ℕ) × (rest : List ℕ) × (scope ≡ x ∷ rest) × (held x ≡ true)
Fills held (Hold v) scope = temporaries_in held scope ≡ 0
Fills held i scope = Unit {0}

abbrev pub IsSupplied : (ℕ → Bool) → NamedPoint → Type 0
IsSupplied held p = (temporaries_in held (take (taken p.instr) p.scope) ≡ taken p.instr) × Fills held p.instr (drop (taken p.instr) p.scope)

-- What a point fills is a temporary.
abbrev pub FillsOne : (ℕ → Bool) → Instruction → Type 0
FillsOne held (Call sub actuals (Some t)) = held t ≡ true
FillsOne held (Evaluate t e (Some op)) = held t ≡ true
FillsOne held i = Unit {0}

abbrev pub IsFilling : (ℕ → Bool) → NamedPoint → Type 0
IsFilling held p = FillsOne held p.instr

-- None of some objects is a temporary.
abbrev pub AreNone : (ℕ → Bool) → List ℕ → Type 0
AreNone held xs = (x : ℕ) → Has xs x → held x ≡ false

-- No temporary is in scope at the first point.
abbrev pub StartsWithNone : (ℕ → Bool) → List NamedPoint → Type 0
StartsWithNone held [] = Unit {0}
StartsWithNone held (p ∷ rest) = temporaries_in held p.scope ≡ 0

-- What an instruction names is in scope beside the temporaries that it takes, or as asked: of a package.
abbrev pub IsLeft : (ℕ → Bool) → NamedPoint → Type 0
IsLeft outer p = are_seen outer (drop (taken p.instr) p.scope) (named_in p.instr) ≡ true

-- It is in scope and kept, as what isn't temporary, or as asked.
abbrev pub IsKept : (outer keep : ℕ → Bool) → NamedPoint → Type 0
IsKept outer keep p = are_seen outer (filter keep p.scope) (named_in p.instr) ≡ true
