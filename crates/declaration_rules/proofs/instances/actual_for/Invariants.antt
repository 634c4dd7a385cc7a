use Rattle.std.proofs.Common.{◌≡◌, ◌<◌, ◌≤◌, ◌+◌, length}
use Rattle.resolved_tree.specs.Nodes.{tree_at}
use Rattle.declaration_rules.specs.Actuals.{actual_for}
use Rattle.declaration_rules.proofs.instances.actual_for.Given as goal

abbrev pub invariant-actuals : goal.invariant-actuals
invariant-actuals l =
    (l.i < length l.reader.rows.now.0) × (l.number + l.i ≤ l.args)
    × (actual_for l.position l.text l.number (tree_at l.reader.rows.now l.i) ≡ actual_for l.position l.text 0 (tree_at l.reader.rows.now l.args))

abbrev pub decreases-actuals : goal.decreases-actuals
decreases-actuals l = l.i
