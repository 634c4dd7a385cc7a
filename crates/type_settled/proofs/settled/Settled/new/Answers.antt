use Rattle.std.proofs.Common.{subst}
use Rattle.expression_types.specs.FormalNames.{FindAllFormals}
use Rattle.type_settled.specs.Holding.{AreLone}
use Rattle.type_settled.specs.Owners.{AreOwners}
use Rattle.type_settled.specs.Rings.{AreInRings}
use Rattle.type_settled.proofs.settled.Settled.new.Goals as goal

pub invariant_of-result-clause-formals_found : goal.invariant_of-result-clause-formals_found
invariant_of-result-clause-formals_found c =
    subst (FindAllFormals c.formal_indexes-formals.result.items) c.as_slice-6.ensures c.formal_indexes-formals.ensures

pub invariant_of-result-clause-right : goal.invariant_of-result-clause-right
invariant_of-result-clause-right c =
    subst (λ table. AreOwners table c.in_ok-owners.owners.items) c.as_slice.ensures c.in_ok-owners.ensures

pub invariant_of-result-clause-apart : goal.invariant_of-result-clause-apart
invariant_of-result-clause-apart c =
    subst (λ table. AreLone table c.in_ok-lone.lone.items) c.as_slice-3.ensures c.in_ok-lone.ensures

pub invariant_of-result-clause-together : goal.invariant_of-result-clause-together
invariant_of-result-clause-together c =
    subst (λ table. AreInRings table c.in_ok-in_rings.in_rings.items) c.as_slice-4.ensures c.in_ok-in_rings.ensures
