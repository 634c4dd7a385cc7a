use Rattle.type_sorts.specs.Sorted.{LooksAt}
use Rattle.type_sorts.proofs.looked.Looked.visit.Given as goal

abbrev pub invariant-opened : goal.invariant-opened
invariant-opened l = LooksAt l.table l.self.done.items l.self.depth
