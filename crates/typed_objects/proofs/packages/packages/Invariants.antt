use Rattle.std.proofs.Common.{◌<◌, ◌≤◌, ℕ, drop, length, map, get_or}
use Rattle.resolved_tree.specs.Nodes.{code_at}
use Rattle.typed_objects.specs.Walks.{package_number, IsPackaged}
use Rattle.typed_objects.proofs.packages.packages.Given as goal

abbrev pub invariant-units : goal.invariant-units
invariant-units l =
    (l.left ≤ length l.units)
    × ((k d : ℕ) → k < length l.units → package_number (code_at l.rows (get_or l.units k d)) < length l.table.items)
    × IsPackaged l.rows (map (code_at l.rows) (drop l.left l.units)) l.table.items

abbrev pub decreases-units : goal.decreases-units
decreases-units l = l.left
