-- Operands that were added.
use Rattle.std.specs.Prelude.{◌≡◌, ℕ}
use Rattle.resolved_tree.specs.Trees.{Tree, position}
use Rattle.type_definitions.specs.Expressions.{is_null}
use Rattle.typed_tree.specs.Nodes.{TypedNodes, Holds}
use Rattle.typed_tree.specs.Expressions.{Site, typed_expression}
use Rattle.typed_expressions.specs.declared.operands.Operand.{Operand}

-- An operand is the typed expression of a tree.
pub record IsOperand (s : Site) (want : ℕ) (e : Tree) (to : TypedNodes) (o : Operand) : Type 0 where
  pub is_null : o.is_null ≡ is_null e
  pub pos : o.pos ≡ position e
  pub tree : Holds to o.number (typed_expression s want e)
