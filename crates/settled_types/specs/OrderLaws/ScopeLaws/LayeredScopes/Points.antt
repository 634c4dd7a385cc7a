-- What holds of the points of layered code.
use Rattle.std.specs.Prelude.{◌≡◌, ℕ, Bool, true, List, [], ◌∷◌, drop}
use Rattle.machine.specs.spark_base.Lists.{Has}
use Rattle.machine.specs.typed_tree.Trees.{TypedTree}
use Rattle.machine.specs.flow_paths.Instructions.{Instruction, Declare, Assign, EndScope}
use Rattle.machine.specs.flow_paths.Objects.{Typing, is_observer}
use Rattle.machine.specs.flow_paths.Points.{PointName, NamedPoint}
use Rattle.machine.specs.flow_paths.Scopes.{taken}
use Rattle.machine.specs.flow_paths.Views.{scope_of}

-- What is in scope where an object is declared, but for the temporaries that its value is taken from,
-- is older; so is what else is in scope where its scope ends. Declarations and assignments fit.
pub record IsAbove (older : ℕ → ℕ → Bool) (fits : Instruction → Bool) (p : NamedPoint) : Type 0 where
  pub declares : (x : ℕ) (v : TypedTree) → p.instr ≡ Declare x v → (y : ℕ) → Has (drop (taken p.instr) p.scope) y → older x y ≡ true
  pub ends : (x : ℕ) → p.instr ≡ EndScope x → (y : ℕ) → Has (drop 1 p.scope) y → older x y ≡ true
  pub declared : (x : ℕ) (v : TypedTree) → p.instr ≡ Declare x v → fits p.instr ≡ true
  pub assigned : (target e : TypedTree) → p.instr ≡ Assign target e → fits p.instr ≡ true

-- What follows begins with the end of an object of this scope, and these names are those of that
-- point alone.
abbrev pub GoesOn : Typing → ℕ → List PointName → List NamedPoint → Type 0
GoesOn s n next [] = ⊥
GoesOn s n next (q ∷ rest) = (z : ℕ) × (q.instr ≡ EndScope z) × (scope_of s z ≡ n) × (next ≡ q.name ∷ [])

-- Where the scope of an object ends and an observer of that scope is left, the end of another object
-- of the scope follows.
abbrev pub IsFading : Typing → NamedPoint → List NamedPoint → Type 0
IsFading s p rest =
    (z y : ℕ) → p.instr ≡ EndScope z → Has (drop 1 p.scope) y → is_observer s y ≡ true → scope_of s y ≡ scope_of s z → GoesOn s (scope_of s z) p.next rest

abbrev pub AreFading : Typing → List NamedPoint → Type 0
AreFading s [] = Unit {0}
AreFading s (p ∷ rest) = IsFading s p rest × AreFading s rest
