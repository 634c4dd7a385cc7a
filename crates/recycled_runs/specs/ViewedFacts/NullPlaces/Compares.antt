-- What is compared with null is an access value. (Typing asks for it; soundness needn't know it.)
use Rattle.std.specs.Prelude.{◌≡◌, ℕ, Bool}
use Rattle.machine.specs.spark_base.Lists.{Has}
use Rattle.machine.specs.type_definitions.declared.table.Shape.TheVariants as shape
use Rattle.machine.specs.type_definitions.Types.{shape_of}
use Rattle.machine.specs.typed_tree.Trees.{TypedTree, Name, Component as IntoComponent, Designated, Element, Parens, Image, Unary, Binary, Short, IsNull, Aggregate, Alike, New, More}
use Rattle.machine.specs.flow_paths.Instructions.{Instruction, Declare, Assign, Output, Input, Release, Test, Choose, Start, Evaluate, LeaveLoop, Hold}
use Rattle.machine.specs.flow_paths.Instructions as instruction
use Rattle.machine.specs.flow_paths.Objects.{Typing}
use Rattle.machine.specs.flow_paths.Points.{FlowPoint}
use Rattle.machine.specs.flow_paths.Laid.{FlowSub, FlowProgram, flow_typing}

-- A call in an expression has its actuals at a point of its own.
unfoldable pub Compares : Typing → TypedTree → Type 0
Compares s (IsNull equal (Name p x steps t)) =
    (d : ℕ) × (constant : Bool) × (named : Bool) × (shape_of s.table t ≡ shape.Access d constant named) × Compares s steps
Compares s (IsNull equal e) = Unit {0}
Compares s (Name p x steps t) = Compares s steps
Compares s (IntoComponent i rest) = Compares s rest
Compares s (Designated rest) = Compares s rest
Compares s (Element index low high rest) = Compares s index × Compares s rest
Compares s (Parens e) = Compares s e
Compares s (Image t e) = Compares s e
Compares s (Unary op e) = Compares s e
Compares s (Binary op a b) = Compares s a × Compares s b
Compares s (Short op p a q b) = Compares s a × Compares s b
Compares s (Aggregate t es) = Compares s es
Compares s (Alike t e) = Compares s e
Compares s (New t v) = Compares s v
Compares s (More e rest) = Compares s e × Compares s rest
Compares s e = Unit {0}

-- The expressions of an instruction.
abbrev pub ComparesIn : Typing → Instruction → Type 0
ComparesIn s (Declare x v) = Compares s v
ComparesIn s (Assign target e) = Compares s target × Compares s e
ComparesIn s (instruction.Call sub actuals result) = Compares s actuals
ComparesIn s (Output text line) = Compares s text
ComparesIn s (Input target) = Compares s target
ComparesIn s (Release e) = Compares s e
ComparesIn s (Test e) = Compares s e
ComparesIn s (Choose e choices) = Compares s e
ComparesIn s (Start x reversed low high) = Compares s low × Compares s high
ComparesIn s (Evaluate temporary e left) = Compares s e
ComparesIn s (LeaveLoop e) = Compares s e
ComparesIn s (Hold v) = Compares s v
ComparesIn s _ = Unit {0}

abbrev pub AreCompared : FlowProgram → Type 0
AreCompared program = (sub : FlowSub) → Has program.subs sub → (p : FlowPoint) → Has sub.points p → ComparesIn (flow_typing program) p.instr
