use Rattle.std.proofs.Common.{◌≤◌, length, drop, map}
use Rattle.typed_tree.specs.Trees.{typed_code_list}
use Rattle.typed_tree.specs.Nodes.{typed_code_at, Grew, HoldsCode}
use Rattle.typed_tree.proofs.rows.TypedRows.code_list.Given as goal

abbrev pub invariant-parts : goal.invariant-parts
invariant-parts l =
    (l.left ≤ length l.parts) × Grew l.fn.self l.self
    × HoldsCode l.self l.made (typed_code_list (map (typed_code_at l.fn.self) (drop l.left l.parts)))

abbrev pub decreases-parts : goal.decreases-parts
decreases-parts l = l.left
