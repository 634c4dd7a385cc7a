use Rattle.std.proofs.lemmas.Result.{err_from_is_err_and}
use Rattle.slot_places.proofs.Ends.{scope_room, scope_checks, scope_put, scope_stops, scope_leaves}
use Rattle.slot_places.proofs.scopes.end_scope.Goals as goal

pub check-requires-clause-room : goal.check-requires-clause-room
check-requires-clause-room g c = scope_room _ _ _ _ _ _ c.requires

pub check-requires-clause-whole : goal.check-requires-clause-whole
check-requires-clause-whole g c = scope_checks _ _ _ _ _ _ c.requires

pub returns-in_err-check-clause-ended : goal.returns-in_err-check-clause-ended
returns-in_err-check-clause-ended g c =
    let p = err_from_is_err_and c.from_residual.result c.from_residual.ensures.1 in
    rw (p.1, p.2) (scope_stops _ _ _ _ _ _ _ _ _ c.in_err-check.ensures)

pub put_default-requires-clause-room : goal.put_default-requires-clause-room
put_default-requires-clause-room g c = scope_room _ _ _ _ _ _ c.requires

pub put_default-requires-clause-whole : goal.put_default-requires-clause-whole
put_default-requires-clause-whole g c = scope_put _ _ _ _ _ _ c.requires

pub returns-clause-ended : goal.returns-clause-ended
returns-clause-ended g c = scope_leaves _ _ _ _ _ _ _ _ _ _ c.in_ok-check.ensures c.put_default.ensures.put c.put_default.ensures.memory
