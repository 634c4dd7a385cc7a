use Rattle.type_sizes.specs.Sizes.{IsSized}
use Rattle.type_sizes.proofs.sizes.made_in_order.Given as goal

abbrev pub invariant-types : goal.invariant-types
invariant-types l = IsSized l.table l.sizes
