use Rattle.std.proofs.Common.{length}
use Rattle.type_sizes.specs.Sizes.{IsSized}
use Rattle.type_sizes.proofs.sizes.Sizes.close.Given as goal

abbrev pub invariant-types : goal.invariant-types
invariant-types l = IsSized l.table l.self

abbrev pub decreases-types : goal.decreases-types
decreases-types l = length l.visits.stack.items
