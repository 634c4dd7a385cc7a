use Rattle.std.proofs.Common.{◌≡◌, ◌<◌, ◌≤◌, ◌+◌, ◌*◌, ◌++◌, drop, length, map}
use Rattle.std.specs.List.{All}
use Rattle.resolved_tree.specs.Nodes.{tree_at}
use Rattle.typed_tree.specs.Nodes.{typed_at, Grew, Holds}
use Rattle.typed_tree.specs.Expressions.{typed_values}
use Rattle.typed_expressions.specs.Sites.{site}
use Rattle.typed_expressions.specs.Stations.{steps_of, station_at}
use Rattle.typed_expressions.proofs.writer.Writer.+expression.Given as goal

abbrev pub decreases-expression : goal.decreases-expression
decreases-expression l = 3 * l.e

abbrev pub decreases-operand : goal.decreases-operand
decreases-operand l = 3 * l.e + 1

abbrev pub decreases-name : goal.decreases-name
decreases-name l = 3 * l.rest + 2

abbrev pub decreases-steps : goal.decreases-steps
decreases-steps l = 3 * l.rest

abbrev pub decreases-step : goal.decreases-step
decreases-step l = 3 * l.suffix

abbrev pub decreases-first : goal.decreases-first
decreases-first l = 3 * l.args

abbrev pub decreases-values : goal.decreases-values
decreases-values l = 3 * l.args

abbrev pub decreases-arguments : goal.decreases-arguments
decreases-arguments l = 3 * l.args + 1

abbrev pub decreases-allocated : goal.decreases-allocated
decreases-allocated l = 3 * l.args + 1

abbrev pub decreases-actuals : goal.decreases-actuals
decreases-actuals l = 3 * l.rest

abbrev pub decreases-imaged : goal.decreases-imaged
decreases-imaged l = 3 * l.rest

abbrev pub invariant-steps-turns : goal.invariant-steps-turns
invariant-steps-turns l =
    (l.left ≤ length l.found.items) × Grew l.initial.to l.to
    × Holds l.to l.made (steps_of (site l.self) (map (station_at l.self.reader.rows.now) (drop l.left l.found.items)))

abbrev pub decreases-steps-turns : goal.decreases-steps-turns
decreases-steps-turns l = l.left

abbrev pub invariant-values-arguments : goal.invariant-values-arguments
invariant-values-arguments l =
    (l.i < length l.self.reader.rows.now.0) × (l.n + l.i ≤ l.args) × Grew l.initial.to l.to
    × All (λ k. k < length l.to.0) l.made.items
    × (map (typed_at l.to) l.made.items ++ typed_values (site l.self) l.role l.n (tree_at l.self.reader.rows.now l.i)
    ≡ typed_values (site l.self) l.role 0 (tree_at l.self.reader.rows.now l.args))

abbrev pub decreases-values-arguments : goal.decreases-values-arguments
decreases-values-arguments l = l.i
