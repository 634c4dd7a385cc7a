-- Typed code of which each instruction is as soundness needs it.
use Rattle.std.specs.Prelude.{◌≡◌, ℕ, Bool, true, false, Option, None}
use Rattle.machine.specs.spark_base.Lists.{Has}
use Rattle.machine.specs.typed_tree.declared.node.ShortCircuit.{ShortCircuit}
use Rattle.machine.specs.typed_tree.Trees.{TypedTree, TypedCode, Declare, Assign, Output, Input, Release, If, Branch, Case, When, Loop, While, For, Exit, Return, Block, More}
use Rattle.machine.specs.typed_tree.Trees as typed
use Rattle.machine.specs.flow_paths.Instructions.{Instruction, Evaluate}
use Rattle.machine.specs.flow_paths.Instructions as instruction
use Rattle.machine.specs.flow_paths.Objects.{Typing}
use Rattle.machine.specs.flow_paths.Points.{NamedPoint, FlowPoint}
use Rattle.machine.specs.flow_paths.Layout.{choices_of}
use Rattle.machine.specs.flow_paths.Laid.{FlowSub, FlowProgram, flow_typing}
use Rattle.soundness.specs.TypedLaws.Needed.{Stays, IsFine}

-- The statements of a subprogram with this result.
unfoldable pub IsFineCode : Typing → Option ℕ → TypedCode → Type 0
IsFineCode s result (Declare p x v) = IsFine s result (instruction.Declare x v)
IsFineCode s result (Assign p target e) = IsFine s result (instruction.Assign target e)
IsFineCode s result (typed.Call p sub actuals) = IsFine s result (instruction.Call sub actuals None)
IsFineCode s result (Output p text line) = IsFine s result (instruction.Output text line)
IsFineCode s result (Input p target) = IsFine s result (instruction.Input target)
IsFineCode s result (Release p e) = IsFine s result (instruction.Release e)
IsFineCode s result (If branches otherwise) = IsFineCode s result branches × IsFineCode s result otherwise
IsFineCode s result (Branch p e stmts) = IsFine s result (instruction.Test e) × IsFineCode s result stmts
IsFineCode s result (Case p e whens) = IsFine s result (instruction.Choose e (choices_of whens)) × IsFineCode s result whens
IsFineCode s result (When choices stmts) = IsFineCode s result stmts
IsFineCode s result (Loop stmts) = IsFineCode s result stmts
IsFineCode s result (While p e stmts) = IsFine s result (instruction.Test e) × IsFineCode s result stmts
IsFineCode s result (For p x reversed low high stmts) =
    IsFine s result (instruction.Start x reversed low high) × IsFine s result (instruction.Next x reversed low high) × IsFineCode s result stmts
IsFineCode s result (Exit p e) = IsFine s result (instruction.LeaveLoop e)
IsFineCode s result (Return p v) = IsFine s result (instruction.Hold v)
IsFineCode s result (Block n stmts end) = IsFineCode s result stmts
IsFineCode s result (More a rest) = IsFineCode s result a × IsFineCode s result rest
IsFineCode s result code = Unit {0}

-- No operand of a short circuit by itself: one is evaluated so where it waits beside a call.
abbrev pub is_whole : Instruction → Bool
is_whole (Evaluate t e left) = false
is_whole i = true

abbrev pub IsFinePoint : Typing → Option ℕ → NamedPoint → Type 0
IsFinePoint s result p = is_whole p.instr ≡ true → IsFine s result p.instr

-- The operands that are evaluated by themselves have names that stay within what they name.
abbrev pub AreEvaluated : FlowProgram → Type 0
AreEvaluated program =
    (sub : FlowSub) → Has program.subs sub → (p : FlowPoint) → Has sub.points p → (t : ℕ) (e : TypedTree) (left : Option ShortCircuit)
    → p.instr ≡ Evaluate t e left → Stays (flow_typing program) e

-- There is none where nothing is called.
abbrev pub AreUndivided : FlowProgram → Type 0
AreUndivided program = (sub : FlowSub) → Has program.subs sub → (p : FlowPoint) → Has sub.points p → is_whole p.instr ≡ true
