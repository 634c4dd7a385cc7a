use Rattle.std.proofs.Common.{◌≡◌, map, nat_lt, take}
use Rattle.type_settled.proofs.owners.have_parts.Given as goal

abbrev pub invariant-types : goal.invariant-types
invariant-types l = l.marks.items ≡ map (λ m. nat_lt 0 m.parts) (take l.measure-index l.values)
