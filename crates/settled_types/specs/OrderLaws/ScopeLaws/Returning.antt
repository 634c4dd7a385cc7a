-- What follows a return: the ends of scopes and the end of the call, and nothing else leads there.
use Rattle.std.specs.Prelude.{◌≡◌, ◌⊎◌, ℕ, ◌≤◌, Bool, true, false, List, [], ◌∷◌}
use Rattle.machine.specs.spark_base.Lists.{Has}
use Rattle.machine.specs.flow_paths.Instructions.{Instruction, Hold, EndScope, Finish}
use Rattle.machine.specs.flow_paths.Points.{PointName, row_at, NamedPoint}

abbrev pub is_return : Instruction → Bool
is_return (Hold v) = true
is_return _ = false

abbrev pub is_finish : Instruction → Bool
is_finish Finish = true
is_finish _ = false

-- The end of a scope, or of the call.
abbrev pub IsClosing : Instruction → Type 0
IsClosing i = ((x : ℕ) × (i ≡ EndScope x)) ⊎ (i ≡ Finish)

-- Some points begin with the first one of a construct.
abbrev pub StartsAtZero : List NamedPoint → Type 0
StartsAtZero [] = Unit {0}
StartsAtZero (p ∷ rest) = p.name.row ≡ 0

-- The first point of a construct is a return, or is none.
abbrev pub HasFirst : List NamedPoint → Bool → PointName → Type 0
HasFirst points returns n = (q : NamedPoint) × Has points q × (q.name ≡ row_at n.place 0) × (is_return q.instr ≡ returns)

-- The name of a point after a return, and that of another one.
abbrev pub IsReturned : List NamedPoint → PointName → Type 0
IsReturned points n = (1 ≤ n.row) × HasFirst points true n

abbrev pub IsOpen : List NamedPoint → PointName → Type 0
IsOpen points n = (n.row ≡ 0) ⊎ HasFirst points false n

abbrev pub All : (PointName → Type 0) → List PointName → Type 0
All P names = (n : PointName) → Has names n → P n

-- A return leads to what follows it, that leads on so, and everything else leads to other points.
pub data Stands (points : List NamedPoint) (p : NamedPoint) : Type 0 where
  returns : is_return p.instr ≡ true → p.name.row ≡ 0 → All (IsReturned points) p.next → Stands points p
  closes : IsClosing p.instr → IsReturned points p.name → All (IsReturned points) p.next → Stands points p
  goes : is_return p.instr ≡ false → is_finish p.instr ≡ false → IsOpen points p.name → All (IsOpen points) p.next → Stands points p
