use Rattle.std.proofs.Common.{◌≡◌, ◌<◌, ◌≤◌, ◌++◌, length, map}
use Rattle.std.specs.List.{All}
use Rattle.resolved_tree.specs.Nodes.{tree_at}
use Rattle.expression_types.specs.Here.{here}
use Rattle.typed_expressions.specs.Stations.{stations, station_at}
use Rattle.typed_expressions.proofs.writer.Writer.stations.Given as goal

abbrev pub invariant-suffixes : goal.invariant-suffixes
invariant-suffixes l =
    (l.i < length l.self.reader.rows.now.0) × (l.i ≤ l.rest) × All (λ f. f.suffix < l.rest) l.found.items
    × (map (station_at l.self.reader.rows.now) l.found.items ++ stations (here l.self.reader) l.of (tree_at l.self.reader.rows.now l.i)
    ≡ stations (here l.self.reader) l.t (tree_at l.self.reader.rows.now l.rest))

abbrev pub decreases-suffixes : goal.decreases-suffixes
decreases-suffixes l = l.i
