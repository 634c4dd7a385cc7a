use Rattle.std.proofs.Common.{◌≡◌, ◌<◌, ℕ, false, get_or, length}
use Rattle.flow_paths.specs.Effects.{asks_for_end}
use Rattle.typed_tree.specs.Nodes.{typed_at}
use Rattle.call_effects.proofs.uses.asked.Given as goal

abbrev pub invariant-nodes : goal.invariant-nodes
invariant-nodes l =
    (length l.asked.items ≡ l.i) × ((k : ℕ) → k < l.i → get_or l.asked.items k false ≡ asks_for_end (typed_at l.rows k))
