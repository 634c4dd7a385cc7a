use Rattle.std.proofs.lemmas.Result.{err_from_is_err_and}
use Rattle.slot_places.proofs.Assigning.{settle_known, after_settled, check_known, store_known_as, checked_leaving_as, settled_leaving, check_stops}
use Rattle.slot_places.proofs.assigns.store_checked.Goals as goal

pub settle-requires : goal.settle-requires
settle-requires g c = settle_known _ _ _ _ _ _ _ c.requires

pub check-requires : goal.check-requires
check-requires g c = rw c.same.ensures (check_known _ _ _ _ _ _ _ (after_settled _ _ _ _ _ _ _ _ c.requires c.settle.ensures.settled))

pub returns-in_err-check-clause-stored : goal.returns-in_err-check-clause-stored
returns-in_err-check-clause-stored g c =
    let p = err_from_is_err_and c.from_residual.result c.from_residual.ensures.1 in
    rw (p.1, p.2) (check_stops _ _ _ _ _ _ _ _ _ _ _ c.settle.ensures.settled (rw c.same.ensures at c.in_err-check.ensures.leaks))

pub store-requires-clause-whole : goal.store-requires-clause-whole
store-requires-clause-whole g c = store_known_as _ _ _ _ _ _ _ _ (after_settled _ _ _ _ _ _ _ _ c.requires c.settle.ensures.settled) c.in_ok-check.ensures.hand

pub returns-clause-stored : goal.returns-clause-stored
returns-clause-stored g c =
    settled_leaving _ _ _ _ _ _ _ _ _ _ _ _ c.settle.ensures.settled
    (checked_leaving_as _ _ _ _ _ _ _ _ _ _ _ _ (rw c.same.ensures at c.in_ok-check.ensures.leaks) c.store.ensures.stored c.store.ensures.memory c.in_ok-check.ensures.hand)
