use Rattle.std.proofs.Common.{◌≤◌, length, drop, map}
use Rattle.resolved_tree.specs.Trees.{list_of}
use Rattle.resolved_tree.specs.Nodes.{tree_at, Grew, Holds}
use Rattle.resolved_tree.proofs.rows.Rows.list.Given as goal

abbrev pub invariant-parts : goal.invariant-parts
invariant-parts l =
    (l.left ≤ length l.parts) × Grew l.fn.self l.self
    × Holds l.self l.made (list_of (map (tree_at l.fn.self) (drop l.left l.parts)))

abbrev pub decreases-parts : goal.decreases-parts
decreases-parts l = l.left
