use Rattle.std.proofs.Common.{◌≡◌, ◌<◌, length}
use Rattle.resolved_tree.specs.Nodes.{tree_at}
use Rattle.type_definitions.specs.Declarations.{all_types}
use Rattle.expression_types.specs.Here.{here}
use Rattle.declaration_rules.proofs.instances.all_types.Given as goal

abbrev pub invariant-actuals : goal.invariant-actuals
invariant-actuals l =
    (l.i < length l.reader.rows.now.0)
    × (all_types (here l.reader).known (tree_at l.reader.rows.now l.i) ≡ all_types (here l.reader).known (tree_at l.reader.rows.now l.args))

abbrev pub decreases-actuals : goal.decreases-actuals
decreases-actuals l = l.i
