use Rattle.std.proofs.Common.{◌≡◌, ◌<◌, ◌≤◌, ◌+◌, ℕ, List, length}
use Rattle.resolved_tree.specs.Nodes.{tree_at}
use Rattle.type_definitions.specs.Expressions.{given_names}
use Rattle.expression_types.specs.Occurrences.{both_lists, occurrence, occurs}
use Rattle.expression_types.proofs.reader.Reader.given_index.Given as goal

abbrev pub invariant-arguments : goal.invariant-arguments
invariant-arguments l =
    (l.i < length l.self.rows.now.0) × (l.n + l.i ≤ l.list)
    × ((w : List ℕ) → both_lists (occurs l.made w) (occurrence l.n (given_names (tree_at l.self.rows.now l.i)) w)
    ≡ occurrence 0 (given_names (tree_at l.self.rows.now l.list)) w)

abbrev pub decreases-arguments : goal.decreases-arguments
decreases-arguments l = l.i
