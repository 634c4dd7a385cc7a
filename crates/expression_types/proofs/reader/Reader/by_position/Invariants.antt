use Rattle.std.proofs.Common.{◌≡◌, ◌<◌, length}
use Rattle.resolved_tree.specs.Nodes.{tree_at}
use Rattle.type_definitions.specs.Expressions.{given_names, all_by_position}
use Rattle.expression_types.proofs.reader.Reader.by_position.Given as goal

abbrev pub invariant-arguments : goal.invariant-arguments
invariant-arguments l =
    (l.i < length l.self.rows.now.0)
    × (all_by_position (given_names (tree_at l.self.rows.now l.i)) ≡ all_by_position (given_names (tree_at l.self.rows.now l.list)))

abbrev pub decreases-arguments : goal.decreases-arguments
decreases-arguments l = l.i
