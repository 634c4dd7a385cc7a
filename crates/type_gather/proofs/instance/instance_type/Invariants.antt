use Rattle.std.proofs.Common.{◌≡◌, ◌<◌, ◌≤◌, ◌+◌, length}
use Rattle.resolved_tree.specs.Nodes.{tree_at}
use Rattle.type_definitions.specs.Gathered.{instance_actual}
use Rattle.type_gather.proofs.instance.instance_type.Given as goal

abbrev pub invariant-actuals : goal.invariant-actuals
invariant-actuals l =
    (l.i < length l.rows.0)
    × (l.index + l.i ≤ l.args)
    × (instance_actual l.index (tree_at l.rows l.i) ≡ instance_actual 0 (tree_at l.rows l.args))

abbrev pub decreases-actuals : goal.decreases-actuals
decreases-actuals l = l.i
