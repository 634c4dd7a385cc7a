use Rattle.type_sizes.specs.Sizes.{IsSized}
use Rattle.type_sizes.proofs.sizes.Sizes.visit.Given as goal

abbrev pub invariant-opened : goal.invariant-opened
invariant-opened l = IsSized l.table l.self
