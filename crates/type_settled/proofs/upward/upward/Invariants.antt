use Rattle.type_settled.specs.Rings.{HaveRoots}
use Rattle.type_settled.proofs.upward.upward.Given as goal

abbrev pub invariant-steps : goal.invariant-steps
invariant-steps l = HaveRoots l.table l.roots l.made.items
