use Rattle.std.proofs.lemmas.Result.{err_from_is_err_and}
use Rattle.slot_places.proofs.Assigning.{place_reads, place_stops, place_known, place_leaving}
use Rattle.slot_places.proofs.assigns.any_place.Goals as goal

pub spot-requires-clause-whole : goal.spot-requires-clause-whole
spot-requires-clause-whole g c = place_reads _ _ _ _ _ _ _ c.requires.whole

pub returns-in_err-found-clause-stored : goal.returns-in_err-found-clause-stored
returns-in_err-found-clause-stored g c =
    let p = err_from_is_err_and c.from_residual.result c.from_residual.ensures.1 in
    rw (p.1, p.2) (place_stops _ _ _ _ _ _ _ _ _ c.in_err-found.ensures)

pub store_checked-requires : goal.store_checked-requires
store_checked-requires g c = place_known _ _ _ _ _ _ _ _ c.requires.whole c.in_ok-found.ensures

pub returns-clause-stored : goal.returns-clause-stored
returns-clause-stored g c = place_leaving _ _ _ _ _ _ _ _ _ _ _ _ c.in_ok-found.ensures c.store_checked.ensures.stored
