use Rattle.std.proofs.Common.{◌≡◌, ◌<◌, ◌≤◌, ◌+◌, ◌*◌, ◌++◌, length}
use Rattle.typed_tree.specs.Nodes.{typed_code_at}
use Rattle.flow_paths.specs.Layout.{declared}
use Rattle.bare_points.proofs.own_objects.+walk.Given as goal

abbrev pub decreases-within : goal.decreases-within
decreases-within l = 2 * l.code + 1

abbrev pub decreases-one : goal.decreases-one
decreases-one l = 2 * l.code

abbrev pub invariant-within-parts : goal.invariant-within-parts
invariant-within-parts l =
    (l.i < length l.rows.1)
    × (l.i ≤ l.code)
    × (l.found.items ++ declared (typed_code_at l.rows l.i) ≡ l.initial.found.items ++ declared (typed_code_at l.rows l.code))

abbrev pub decreases-within-parts : goal.decreases-within-parts
decreases-within-parts l = l.i
