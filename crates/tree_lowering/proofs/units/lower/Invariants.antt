use Rattle.std.proofs.Common.{map, take}
use Rattle.resolved_tree.specs.Nodes.{Grew, HoldsAllCode}
use Rattle.tree_lowering.specs.Lowered.{lowered_files}
use Rattle.tree_lowering.proofs.units.lower.Given as goal

abbrev pub invariant-files : goal.invariant-files
invariant-files l =
    Grew l.initial.rows l.rows
    × HoldsAllCode l.rows l.units.items (lowered_files l.numbers (map (λ trees. trees.units) (take l.trees-index l.files)))
