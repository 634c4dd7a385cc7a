use Rattle.std.proofs.Common.{◌≤◌, length, drop, map}
use Rattle.resolved_tree.specs.Trees.{code_list}
use Rattle.resolved_tree.specs.Nodes.{code_at, Grew, HoldsCode}
use Rattle.resolved_tree.proofs.rows.Rows.code_list.Given as goal

abbrev pub invariant-parts : goal.invariant-parts
invariant-parts l =
    (l.left ≤ length l.parts) × Grew l.fn.self l.self
    × HoldsCode l.self l.made (code_list (map (code_at l.fn.self) (drop l.left l.parts)))

abbrev pub decreases-parts : goal.decreases-parts
decreases-parts l = l.left
