use Rattle.std.proofs.lemmas.Result.{err_from_is_err_and}
use Rattle.slot_places.proofs.Frees.{cell_checks, cell_stops, cell_put, cell_free, cell_leaves}
use Rattle.slot_places.proofs.releases.release_cell.Goals as goal

pub push_leaks-requires : goal.push_leaks-requires
push_leaks-requires g c = cell_checks _ _ _ _ _ _ _ c.requires

pub returns-in_err-push_leaks-clause-released : goal.returns-in_err-push_leaks-clause-released
returns-in_err-push_leaks-clause-released g c =
    let p = err_from_is_err_and c.from_residual.result c.from_residual.ensures.1 in
    rw (p.1, p.2) (cell_stops _ _ _ _ _ _ _ _ _ _ c.in_err-push_leaks.ensures.leaks)

pub put_at-requires : goal.put_at-requires
put_at-requires g c = cell_put _ _ _ _ _ _ _ c.requires

pub free-requires : goal.free-requires
free-requires g c = cell_free _ _ _ _ _ _ _ _ c.requires c.put_at.ensures.stored

pub returns-clause-released : goal.returns-clause-released
returns-clause-released g c = cell_leaves _ _ _ _ _ _ _ _ _ _ _ _ c.in_ok-push_leaks.ensures.leaks c.put_at.ensures.stored c.free.ensures.freed
