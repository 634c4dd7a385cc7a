-- What is asked of the calls of a program.
use Rattle.std.specs.Prelude.{◌≡◌, ◌<◌, ℕ, length, get_or, Option}
use Rattle.machine.specs.typed_tree.Trees.{TypedTree}
use Rattle.machine.specs.flow_paths.Instructions.{Call}
use Rattle.machine.specs.flow_paths.Laid.{FlowProgram}
use Rattle.machine.specs.States.{sub_of}
use Rattle.machine.specs.Run.{no_point}

-- What is called has a body in the text.
abbrev pub CallsStand : FlowProgram → Type 0
CallsStand program =
    (n k sub : ℕ) (e : TypedTree) (result : Option ℕ) → k < length (sub_of program n).points → (get_or (sub_of program n).points k no_point).instr ≡ Call sub e result
    → (0 < sub) × (sub < length program.subs)
