-- Types of values that are taken, by parts of trees.
use Rattle.std.specs.Prelude.{ℕ, ◌<◌, List, [], ◌∷◌, ◌++◌}
use Rattle.typed_tree.specs.Trees.{TypedTree}
use Rattle.typed_tree.specs.Nodes.{typed_at}
use Rattle.flow_paths.specs.Objects.{Typing}
use Rattle.program_typing.specs.Typings.{typing}
use Rattle.run_codes.specs.Programs.{taken_types}
use Rattle.program_lowering.specs.declared.trees.Trees.{Trees}
use Rattle.program_lowering.specs.declared.taken.Turn.{Turn}
use Rattle.program_lowering.specs.declared.taken.Turn.TheVariants as turn

-- What is known of the parts of the program, and the tree with a number.
abbrev pub known : Trees → Typing
known t = typing t.typing

abbrev pub tree : Trees → ℕ → TypedTree
tree t n = typed_at t.rows.now n

abbrev pub turn_types : Trees → Turn → List ℕ
turn_types t turn.Ends = []
turn_types t (turn.Takes of) = of ∷ []
turn_types t (turn.Goes rest) = taken_types (known t) (tree t rest)
turn_types t (turn.Both head rest) = taken_types (known t) (tree t head) ++ taken_types (known t) (tree t rest)

-- The parts have lower numbers than n.
abbrev pub IsTurnBelow : ℕ → Turn → Type 0
IsTurnBelow n (turn.Goes rest) = rest < n
IsTurnBelow n (turn.Both head rest) = (head < n) × (rest < n)
IsTurnBelow n _ = Unit {0}
