use Rattle.std.proofs.Common.{length}
use Rattle.type_sorts.specs.Sorted.{LooksAt}
use Rattle.type_sorts.proofs.looked.Looked.close.Given as goal

abbrev pub invariant-types : goal.invariant-types
invariant-types l = LooksAt l.table l.self.done.items l.self.depth

abbrev pub decreases-types : goal.decreases-types
decreases-types l = length l.visits.stack.items
