use Rattle.std.proofs.Common.{◌≡◌, ◌<◌, length}
use Rattle.resolved_tree.specs.Nodes.{tree_at}
use Rattle.type_definitions.specs.Names.{along}
use Rattle.expression_types.specs.Here.{here}
use Rattle.expression_types.proofs.reader.Reader.along.Given as goal

abbrev pub invariant-suffixes : goal.invariant-suffixes
invariant-suffixes l =
    (l.i < length l.self.rows.now.0)
    × (along (here l.self) l.t (tree_at l.self.rows.now l.i) ≡ along (here l.self) l.initial.t (tree_at l.self.rows.now l.initial.i))

abbrev pub decreases-suffixes : goal.decreases-suffixes
decreases-suffixes l = l.i
