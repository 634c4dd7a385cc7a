-- Which trees have a call.
use Rattle.std.specs.Prelude.{◌≡◌, ℕ, Bool, true, false, ◌||◌, List, get_or}
use Rattle.typed_tree.specs.declared.node.TypedNode.{TypedNode}
use Rattle.typed_tree.specs.declared.node.TypedNode.TheVariants as node
use Rattle.typed_tree.specs.Nodes.{TypedNodes, typed_at}
use Rattle.flow_paths.specs.Names.{has_call}

-- By its number it is told of each tree whether it has a call.
abbrev pub AreCalls : TypedNodes → List Bool → Type 0
AreCalls rows marks = (i : ℕ) → get_or marks i false ≡ has_call (typed_at rows i)

-- What a node has, from what its parts have.
abbrev pub node_calls : (ℕ → Bool) → TypedNode → Bool
node_calls calls (node.Call p s a) = true
node_calls calls (node.Name p d a t) = calls a
node_calls calls (node.Component k a) = calls a
node_calls calls (node.Designated a) = calls a
node_calls calls (node.Element a low high b) = calls a || calls b
node_calls calls (node.Image t a) = calls a
node_calls calls (node.Parens a) = calls a
node_calls calls (node.Unary op a) = calls a
node_calls calls (node.Binary op a b) = calls a || calls b
node_calls calls (node.Short op p a q b) = calls a || calls b
node_calls calls (node.IsNull equal a) = calls a
node_calls calls (node.Aggregate t a) = calls a
node_calls calls (node.Alike t a) = calls a
node_calls calls (node.New t a) = calls a
node_calls calls (node.More a b) = calls a || calls b
node_calls calls _ = false
