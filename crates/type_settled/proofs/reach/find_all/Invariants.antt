use Rattle.type_settled.specs.Measures.{marked}
use Rattle.type_settled.specs.Reach.{IsFound}
use Rattle.type_settled.proofs.reach.find_all.Given as goal

abbrev pub invariant-steps : goal.invariant-steps
invariant-steps l = IsFound l.parents (marked l.marks) l.table l.found
