use Rattle.std.proofs.Common.{◌++◌, List, map, take}
use Rattle.resolved_tree.specs.Trees.{Code}
use Rattle.resolved_tree.specs.Nodes.{Grew, HoldsAllCode}
use Rattle.tree_lowering.specs.Lowered.{lowered_unit}
use Rattle.tree_lowering.proofs.units.file.Given as goal

abbrev pub invariant-turns : goal.invariant-turns
invariant-turns l =
    Grew l.initial.rows l.rows
    × ((codes : List Code) → HoldsAllCode l.initial.rows l.initial.units.items codes
    → HoldsAllCode l.rows l.units.items (codes ++ map (lowered_unit l.numbers) (take l.tree-index l.trees)))
