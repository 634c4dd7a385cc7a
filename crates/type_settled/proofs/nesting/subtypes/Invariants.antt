use Rattle.std.proofs.Common.{◌≡◌, map, nat_eq, take}
use Rattle.type_settled.proofs.nesting.subtypes.Given as goal

abbrev pub invariant-types : goal.invariant-types
invariant-types l = l.marks.items ≡ map (λ i. nat_eq i.base l.t) (take l.info-index l.table)
