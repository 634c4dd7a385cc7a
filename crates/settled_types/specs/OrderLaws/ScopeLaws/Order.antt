-- What holds of the points of a subprogram.
use Rattle.std.specs.Prelude.{◌≡◌, ℕ, Bool, true, List, [], ◌++◌, length}
use Rattle.machine.specs.typed_tree.Trees.{TypedTree}
use Rattle.machine.specs.flow_paths.Instructions.{Instruction, Declare, Assign, Call, Output, Input, Release, Test, Choose, Start, Evaluate, LeaveLoop, Hold, EndScope, Finish}
use Rattle.machine.specs.flow_paths.Points.{NamedPoint}
use Rattle.machine.specs.flow_paths.Scopes.{is_ready}
use Rattle.machine.specs.Typed.{successors}
use Rattle.settled_types.specs.OrderLaws.ScopeLaws.Code.{roots, are_seen}

-- A point has as many successors as its instruction leads to.
abbrev pub IsCounted : NamedPoint → Type 0
IsCounted p = length p.next ≡ successors p.instr

-- An object that is declared isn't in scope, and one whose scope ends is the last one, and is as told;
-- where a procedure ends, its formals alone are in scope.
pub record IsOrdered (is : ℕ → Type 0) (formals : List ℕ) (p : NamedPoint) : Type 0 where
  pub ready : is_ready p p.instr ≡ true
  pub declares : (x : ℕ) (v : TypedTree) → p.instr ≡ Declare x v → is x
  pub ends : (x : ℕ) → p.instr ≡ EndScope x → is x
  pub finishes : p.instr ≡ Finish → p.scope ≡ formals

-- The objects that the names in an instruction are rooted in.
abbrev pub named_in : Instruction → List ℕ
named_in (Declare x v) = roots v
named_in (Assign target e) = roots e ++ roots target
named_in (Call sub actuals result) = roots actuals
named_in (Output text line) = roots text
named_in (Input target) = roots target
named_in (Release m) = roots m
named_in (Test e) = roots e
named_in (Choose e choices) = roots e
named_in (Start x reversed low high) = roots low ++ roots high
named_in (Evaluate t e left) = roots e
named_in (LeaveLoop e) = roots e
named_in (Hold v) = roots v
named_in _ = []

-- They are in scope there, or as asked: of a package.
abbrev pub IsSeen : (ℕ → Bool) → NamedPoint → Type 0
IsSeen outer p = are_seen outer p.scope (named_in p.instr) ≡ true
