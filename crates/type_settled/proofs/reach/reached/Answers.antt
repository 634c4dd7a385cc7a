use Rattle.std.proofs.Common.{subst}
use Rattle.type_settled.specs.Reach.{IsClosed}
use Rattle.type_settled.proofs.reach.reached.Goals as goal
use Rattle.type_settled.proofs.Reached.{all_found}

pub returns-then-is_closed : goal.returns-then-is_closed
returns-then-is_closed c =
    all_found c.args.parents c.args.marks.now c.args.table.now c.in_ok-found.found c.in_ok-found.ensures
    (subst (λ made. IsClosed c.args.parents c.args.marks.now c.args.table.now made) c.deref.ensures.value
    (c.is_closed.ensures c.if-is_closed.true))
