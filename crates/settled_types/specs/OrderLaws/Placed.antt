-- Typed code in which declarations stand before statements, in blocks and bodies alone, and branches and
-- alternatives where they may: what `is_settled` of flow_paths asks of where code stands.
use Rattle.std.specs.Prelude.{ℕ, Bool, true, false, ◌&&◌, ◌||◌, List, [], ◌∷◌, ◌++◌}
use Rattle.machine.specs.typed_tree.Trees.{TypedCode}
use Rattle.machine.specs.typed_tree.Trees as typed
use Rattle.machine.specs.flow_paths.Scopes.{is_declaration, is_undeclaring}

unfoldable mutual
  pub is_placed : TypedCode → Bool
  is_placed (typed.More a rest) = is_placed a && (is_placed rest && (is_declaration a || is_undeclaring rest))
  is_placed (typed.If branches otherwise) = are_placed_branches branches && (is_placed otherwise && is_undeclaring otherwise)
  is_placed (typed.Case p e whens) = are_placed_alternatives whens
  is_placed (typed.Loop stmts) = is_placed stmts && is_undeclaring stmts
  is_placed (typed.While p e stmts) = is_placed stmts && is_undeclaring stmts
  is_placed (typed.For p x reversed low high stmts) = is_placed stmts && is_undeclaring stmts
  is_placed (typed.Block n stmts end) = is_placed stmts
  is_placed (typed.Branch p e stmts) = false
  is_placed (typed.When choices stmts) = false
  is_placed _ = true

  pub are_placed_branches : TypedCode → Bool
  are_placed_branches (typed.More a rest) = is_placed_branch a && are_placed_branches rest
  are_placed_branches typed.NoMore = true
  are_placed_branches _ = false

  pub is_placed_branch : TypedCode → Bool
  is_placed_branch (typed.Branch p e stmts) = is_placed stmts && is_undeclaring stmts
  is_placed_branch _ = false

  pub are_placed_alternatives : TypedCode → Bool
  are_placed_alternatives (typed.More a rest) = is_placed_alternative a && are_placed_alternatives rest
  are_placed_alternatives typed.NoMore = true
  are_placed_alternatives _ = false

  pub is_placed_alternative : TypedCode → Bool
  is_placed_alternative (typed.When choices stmts) = is_placed stmts && is_undeclaring stmts
  is_placed_alternative _ = false

-- The parameters of its `for` loops.
unfoldable pub parameters : TypedCode → List ℕ
parameters (typed.If branches otherwise) = parameters branches ++ parameters otherwise
parameters (typed.Branch p e stmts) = parameters stmts
parameters (typed.Case p e whens) = parameters whens
parameters (typed.When choices stmts) = parameters stmts
parameters (typed.Loop stmts) = parameters stmts
parameters (typed.While p e stmts) = parameters stmts
parameters (typed.For p x reversed low high stmts) = x ∷ parameters stmts
parameters (typed.Block n stmts end) = parameters stmts
parameters (typed.More a rest) = parameters a ++ parameters rest
parameters _ = []
