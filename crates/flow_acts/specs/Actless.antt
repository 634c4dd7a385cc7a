-- Which trees have no acts.
use Rattle.std.specs.Prelude.{◌≡◌, ℕ, Bool, true, false, ◌&&◌, List, [], get_or}
use Rattle.typed_tree.specs.declared.node.TypedNode.{TypedNode}
use Rattle.typed_tree.specs.declared.node.TypedNode.TheVariants as node
use Rattle.typed_tree.specs.Nodes.{TypedNodes, typed_at}
use Rattle.flow_paths.specs.Objects.{Typing}
use Rattle.flow_paths.specs.Acts.{acts_in}

-- A tree whose number is marked has no acts.
abbrev pub AreActless : TypedNodes → List Bool → Type 0
AreActless rows marks = (i : ℕ) → get_or marks i false ≡ true → (s : Typing) → acts_in s (typed_at rows i) ≡ []

-- A node that is no name has none where its parts have none. Those of a call stand at its own
-- point.
abbrev pub node_is_actless : (ℕ → Bool) → TypedNode → Bool
node_is_actless actless (node.Name p d a t) = false
node_is_actless actless (node.IsNull equal a) = false
node_is_actless actless (node.Component k a) = actless a
node_is_actless actless (node.Designated a) = actless a
node_is_actless actless (node.Element a low high b) = actless a && actless b
node_is_actless actless (node.Image t a) = actless a
node_is_actless actless (node.Parens a) = actless a
node_is_actless actless (node.Unary op a) = actless a
node_is_actless actless (node.Binary op a b) = actless a && actless b
node_is_actless actless (node.Short op p a q b) = actless a && actless b
node_is_actless actless (node.Aggregate t a) = actless a
node_is_actless actless (node.Alike t a) = actless a
node_is_actless actless (node.New t a) = actless a
node_is_actless actless (node.More a b) = actless a && actless b
node_is_actless actless _ = true
