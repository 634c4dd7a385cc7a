use Rattle.std.proofs.Common.{◌≡◌, ◌≤◌, ◌+◌, length}
use Rattle.place_names.specs.Names.{extend}
use Rattle.typed_tree.specs.Nodes.{typed_at}
use Rattle.flow_paths.specs.Names.{name_of, selectors}
use Rattle.alias_rules.proofs.places.place.Given as goal

abbrev pub invariant-steps : goal.invariant-steps
invariant-steps l =
    (extend l.name (selectors (typed_at l.rows l.at)) ≡ name_of l.object (typed_at l.rows l.initial.at))
    × (length l.name.sels + length (selectors (typed_at l.rows l.at)) ≤ 16)

abbrev pub decreases-steps : goal.decreases-steps
decreases-steps l = l.at
