use Rattle.std.proofs.Common.{◌≡◌, map, take}
use Rattle.type_settled.specs.Owners.{is_named}
use Rattle.type_settled.proofs.owners.named_accesses.Given as goal

abbrev pub invariant-types : goal.invariant-types
invariant-types l = l.marks.items ≡ map (λ i. is_named i.shape) (take l.info-index l.table)
