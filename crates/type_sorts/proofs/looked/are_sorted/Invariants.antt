use Rattle.type_sorts.specs.Sorted.{LooksAt}
use Rattle.type_sorts.proofs.looked.are_sorted.Given as goal

abbrev pub invariant-types : goal.invariant-types
invariant-types l = LooksAt l.table l.looked.done.items l.looked.depth
