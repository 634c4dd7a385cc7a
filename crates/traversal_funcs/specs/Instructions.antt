-- What the rules ask of the instruction of a point.
use Rattle.std.specs.Prelude.{ℕ, Option, Some, None}
use Rattle.typed_tree.specs.Trees.{TypedTree}
use Rattle.typed_tree.specs.Nodes.{TypedNodes, typed_at, typed_code_at}
use Rattle.flow_paths.specs.declared.instr.Instr.{Instr}
use Rattle.flow_paths.specs.Instructions.{Instruction, Call, instruction_of}
use Rattle.flow_paths.specs.Names.{Written, written, first}

-- The instruction that code has, over the trees in rows.
abbrev pub instruction : TypedNodes → Instr → Instruction
instruction rows i = instruction_of (typed_at rows) (typed_code_at rows) i

-- The procedure that is called.
abbrev pub procedure_of : Instruction → Option ℕ
procedure_of (Call sub actuals None) = Some sub
procedure_of _ = None

-- The name that begins a list.
abbrev pub first_written : TypedTree → Option Written
first_written list = written (first list)
