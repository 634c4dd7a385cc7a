use Rattle.std.proofs.Common.{◌≡◌, ◌<◌, length, nat_eq}
use Rattle.resolved_tree.specs.Nodes.{tree_at}
use Rattle.type_definitions.specs.Expressions.{given_names}
use Rattle.expression_types.proofs.reader.Reader.has_length.Given as goal

abbrev pub invariant-arguments : goal.invariant-arguments
invariant-arguments l =
    (l.i < length l.self.rows.now.0)
    × (nat_eq (length (given_names (tree_at l.self.rows.now l.i))) l.left ≡ nat_eq (length (given_names (tree_at l.self.rows.now l.list))) l.count)

abbrev pub decreases-arguments : goal.decreases-arguments
decreases-arguments l = l.i
