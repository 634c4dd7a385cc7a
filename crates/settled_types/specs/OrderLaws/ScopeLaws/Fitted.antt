-- The types of the values that wait, and of the temporaries in which they do. `of` says of which type the result of a
-- function is, and `truth` is that of truth values.
use Rattle.std.specs.Prelude.{◌≡◌, ℕ, List, [], ◌∷◌, ◌++◌, take, drop, Some, None, if◌then◌else◌}
use Rattle.machine.specs.typed_tree.Trees.{TypedTree, Name, Component, Designated, Element, Image, Parens, Unary, Binary, Short, IsNull, Aggregate, Alike, New}
use Rattle.machine.specs.typed_tree.Trees as typed
use Rattle.machine.specs.flow_paths.Instructions.{Instruction, Declare, Assign, Call, Output, Input, Release, Test, Choose, Start, Evaluate, LeaveLoop, Hold}
use Rattle.machine.specs.flow_paths.Names.{has_call}
use Rattle.machine.specs.flow_paths.Points.{NamedPoint}
use Rattle.machine.specs.flow_paths.Scopes.{taken}
use Rattle.settled_types.specs.OrderLaws.ScopeLaws.Alone.{InstructionFits}

-- Of those that an expression takes, the last one first.
unfoldable pub types : (of : ℕ → ℕ) (truth : ℕ) → TypedTree → List ℕ
types of truth (typed.Call p sub actuals) = of sub ∷ []
types of truth (Name p x steps t) = types of truth steps
types of truth (Component i rest) = types of truth rest
types of truth (Designated rest) = types of truth rest
types of truth (Element index low high rest) = types of truth rest ++ types of truth index
types of truth (Image t e) = types of truth e
types of truth (Parens e) = types of truth e
types of truth (Unary op e) = types of truth e
types of truth (Binary op a b) = types of truth b ++ types of truth a
types of truth (Short op p a q b) = if has_call b then truth ∷ [] else types of truth b ++ types of truth a
types of truth (IsNull equal e) = types of truth e
types of truth (Aggregate t parts) = types of truth parts
types of truth (Alike t e) = types of truth e
types of truth (New t v) = types of truth v
types of truth (typed.More e rest) = types of truth rest ++ types of truth e
types of truth e = []

-- Of those that an instruction takes.
abbrev pub types_at : (of : ℕ → ℕ) (truth : ℕ) → Instruction → List ℕ
types_at of truth (Declare x v) = types of truth v
types_at of truth (Assign target e) = types of truth target ++ types of truth e
types_at of truth (Call sub actuals result) = types of truth actuals
types_at of truth (Output text line) = types of truth text
types_at of truth (Input target) = types of truth target
types_at of truth (Release m) = types of truth m
types_at of truth (Test e) = types of truth e
types_at of truth (Choose e choices) = types of truth e
types_at of truth (Start x reversed low high) = types of truth high ++ types of truth low
types_at of truth (Evaluate t e left) = types of truth e
types_at of truth (LeaveLoop e) = types of truth e
types_at of truth (Hold v) = types of truth v
types_at of truth i = []

-- One temporary for each type, which it fits.
abbrev pub Pairs : (fit : ℕ → ℕ → Type 0) → List ℕ → List ℕ → Type 0
Pairs fit [] [] = Unit {0}
Pairs fit (t ∷ ts) (x ∷ xs) = fit t x × Pairs fit ts xs
Pairs fit _ _ = ⊥

-- What a point fills fits its type.
abbrev pub FillsFit : (fit : ℕ → ℕ → Type 0) (of : ℕ → ℕ) (truth : ℕ) → Instruction → Type 0
FillsFit fit of truth (Call sub actuals (Some t)) = fit (of sub) t
FillsFit fit of truth (Evaluate t e (Some op)) = fit truth t
FillsFit fit of truth i = Unit {0}

-- A right operand finds the temporary of the left one.
abbrev pub RightFits : (fit : ℕ → ℕ → Type 0) (truth : ℕ) → Instruction → List ℕ → Type 0
RightFits fit truth (Evaluate t e None) left = (x : ℕ) × (rest : List ℕ) × (left ≡ x ∷ rest) × fit truth x
RightFits fit truth i left = Unit {0}

-- A point takes temporaries that fit, and its instruction is as asked.
abbrev pub IsFitted : (fit : ℕ → ℕ → Type 0) (of : ℕ → ℕ) (truth : ℕ) (ask passed alone single : ℕ → Type 0) → NamedPoint → Type 0
IsFitted fit of truth ask passed alone single p =
    InstructionFits ask passed alone single p.instr × Pairs fit (types_at of truth p.instr) (take (taken p.instr) p.scope)
    × RightFits fit truth p.instr (drop (taken p.instr) p.scope)
