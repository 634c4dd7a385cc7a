-- Whether an instruction declares an object, which one, and with what.
use Rattle.std.specs.Prelude.{ℕ, Bool, true, false}
use Rattle.machine.specs.typed_tree.Trees.{TypedTree}
use Rattle.machine.specs.flow_paths.Instructions.{Instruction, Declare}

abbrev pub is_declare : Instruction → Bool
is_declare (Declare x v) = true
is_declare i = false

abbrev pub declared_object : ℕ → Instruction → ℕ
declared_object d (Declare x v) = x
declared_object d i = d

abbrev pub declared_value : TypedTree → Instruction → TypedTree
declared_value d (Declare x v) = v
declared_value d i = d
