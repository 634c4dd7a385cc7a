use Rattle.std.proofs.Common.{◌≡◌, ◌++◌, map, drop}
use Rattle.typed_tree.specs.Nodes.{typed_at}
use Rattle.flow_paths.specs.Aliases.{passed}
use Rattle.alias_rules.specs.Told.{passed_of}
use Rattle.alias_rules.specs.Steps.{AreShallow}
use Rattle.alias_rules.proofs.actuals.named_actuals.Given as goal

abbrev pub invariant-formals : goal.invariant-formals
invariant-formals l =
    (map passed_of l.names.items ++ passed (drop l.formal-index l.formals) (typed_at l.rows l.at)
    ≡ passed l.formals (typed_at l.rows l.initial.at))
    × AreShallow (passed (drop l.formal-index l.formals) (typed_at l.rows l.at))
