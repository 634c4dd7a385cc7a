-- What acts and leak checks are given for.
use Rattle.std.specs.Prelude.{ℕ, List, Option}
use Rattle.typed_tree.specs.Nodes.{typed_at, typed_code_at}
use Rattle.flow_paths.specs.declared.instr.Instr.{Instr}
use Rattle.flow_paths.specs.Instructions.{Instruction, instruction_of}
use Rattle.flow_paths.specs.Objects.{Typing}
use Rattle.flow_paths.specs.Acts.{Frame}
use Rattle.program_typing.specs.Typings.{typing}
use Rattle.flow_acts.specs.declared.writer.ActWriter.{ActWriter}

abbrev pub site : ActWriter → Typing
site w = typing w.typing

-- What the acts of a subprogram go by.
abbrev pub frame : ActWriter → Option ℕ → List ℕ → Frame
frame w result roots = record { typing = site w; result = result; roots = roots }

abbrev pub instruction : ActWriter → Instr → Instruction
instruction w i = instruction_of (typed_at w.rows.now) (typed_code_at w.rows.now) i
