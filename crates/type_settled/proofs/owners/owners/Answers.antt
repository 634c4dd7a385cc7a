use Rattle.std.proofs.Common.{ap, map, nat_lt, ◌∙◌}
use Rattle.type_settled.proofs.Owned.{measured_owners, reached_owners}
use Rattle.type_settled.proofs.owners.owners.Goals as goal

pub returns-in-Some : goal.returns-in-Some
returns-in-Some c =
    let found = rw c.in-Some.is at c.in_ok-made.ensures in
    reached_owners c.args.table.now c.deref.result.now c.in-Some.made.items (c.deref.ensures.value ∙ c.in_ok-marks.ensures) found

pub returns : goal.returns
returns c =
    measured_owners c.args.table.now c.in_ok-values.values.items c.in_ok-have_parts.field-0.items c.in_ok-values.ensures
    (c.in_ok-have_parts.ensures ∙ ap (λ vs. map (λ m. nat_lt 0 m.parts) vs) c.deref-2.ensures.value)
