-- What the step of a point does (docs/FLOW.md, "Points"), with the names and expressions that it
-- uses as typed trees.
use Rattle.std.specs.Prelude.{ℕ, Bool, List, map, Option}
use Rattle.typed_tree.specs.declared.node.ShortCircuit.{ShortCircuit}
use Rattle.typed_tree.specs.Trees.{TypedTree, TypedCode}
use Rattle.flow_paths.specs.declared.instr.Instr.{Instr}
use Rattle.flow_paths.specs.declared.instr.Instr.TheVariants as instr

pub data Instruction : Type 0 where
  Skip : Instruction
  -- the object, and a list of no initial value or one
  Declare : ℕ → TypedTree → Instruction
  -- the target and the source
  Assign : TypedTree → TypedTree → Instruction
  -- the subprogram, the actuals in the order of the formals, and the temporary of a result
  Call : ℕ → TypedTree → Option ℕ → Instruction
  -- a list of no string expression or one, and whether a line ends
  Output : TypedTree → Bool → Instruction
  Input : TypedTree → Instruction
  Release : TypedTree → Instruction
  Test : TypedTree → Instruction
  -- the expression, and the list of choices of each alternative
  Choose : TypedTree → List TypedCode → Instruction
  -- the parameter, whether the order is reversed, and the bounds, which Start evaluates
  Start : ℕ → Bool → TypedTree → TypedTree → Instruction
  Next : ℕ → Bool → TypedTree → TypedTree → Instruction
  -- the temporary and the operand; of a left operand, which short circuit it belongs to
  Evaluate : ℕ → TypedTree → Option ShortCircuit → Instruction
  -- a list of no condition or one; of no value or one
  LeaveLoop : TypedTree → Instruction
  Hold : TypedTree → Instruction
  EndScope : ℕ → Instruction
  Finish : Instruction
  Fall : Instruction

-- The instruction that one with numbers of nodes stands for.
abbrev pub instruction_of : (ℕ → TypedTree) → (ℕ → TypedCode) → Instr → Instruction
instruction_of tree code instr.Skip = Skip
instruction_of tree code (instr.Declare x v) = Declare x (tree v)
instruction_of tree code (instr.Assign target source) = Assign (tree target) (tree source)
instruction_of tree code (instr.Call sub actuals result) = Call sub (tree actuals) result
instruction_of tree code (instr.Output text line) = Output (tree text) line
instruction_of tree code (instr.Input target) = Input (tree target)
instruction_of tree code (instr.Release m) = Release (tree m)
instruction_of tree code (instr.Test e) = Test (tree e)
instruction_of tree code (instr.Choose e choices) = Choose (tree e) (map code choices)
instruction_of tree code (instr.Start x reversed low high) = Start x reversed (tree low) (tree high)
instruction_of tree code (instr.Next x reversed low high) = Next x reversed (tree low) (tree high)
instruction_of tree code (instr.Evaluate t e left) = Evaluate t (tree e) left
instruction_of tree code (instr.LeaveLoop e) = LeaveLoop (tree e)
instruction_of tree code (instr.Hold v) = Hold (tree v)
instruction_of tree code (instr.EndScope x) = EndScope x
instruction_of tree code instr.Finish = Finish
instruction_of tree code instr.Fall = Fall
