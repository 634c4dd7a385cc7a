use Rattle.std.proofs.Common.{◌≤◌, length, drop, map}
use Rattle.typed_tree.specs.Trees.{typed_list}
use Rattle.typed_tree.specs.Nodes.{typed_at, Grew, Holds}
use Rattle.typed_tree.proofs.rows.TypedRows.list.Given as goal

abbrev pub invariant-parts : goal.invariant-parts
invariant-parts l =
    (l.left ≤ length l.parts) × Grew l.fn.self l.self
    × Holds l.self l.made (typed_list (map (typed_at l.fn.self) (drop l.left l.parts)))

abbrev pub decreases-parts : goal.decreases-parts
decreases-parts l = l.left
