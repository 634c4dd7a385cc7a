use Rattle.std.proofs.Common.{◌≡◌, ◌<◌, ◌+◌, length, if◌then◌else◌}
use Rattle.resolved_tree.specs.Nodes.{tree_at}
use Rattle.type_definitions.specs.Expressions.{given_names, count_of}
use Rattle.expression_types.proofs.reader.Reader.is_once.Given as goal

abbrev pub invariant-arguments : goal.invariant-arguments
invariant-arguments l =
    (l.i < length l.self.rows.now.0)
    × (count_of l.word (given_names (tree_at l.self.rows.now l.i)) + (if l.once then 1 else 0) ≡ count_of l.word (given_names (tree_at l.self.rows.now l.list)))

abbrev pub decreases-arguments : goal.decreases-arguments
decreases-arguments l = l.i
