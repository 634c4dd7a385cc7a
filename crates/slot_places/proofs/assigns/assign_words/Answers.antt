use Rattle.std.proofs.lemmas.Result.{err_from_is_err_and}
use Rattle.slot_places.proofs.Assigning.{assign_fillable, assign_known, assign_stops, assign_leaves}
use Rattle.slot_places.proofs.assigns.assign_words.Goals as goal

pub fill-requires-clause-whole : goal.fill-requires-clause-whole
fill-requires-clause-whole g c = assign_fillable _ _ _ _ _ _ _ c.requires.whole

pub returns-in_err-fill-clause-assigned : goal.returns-in_err-fill-clause-assigned
returns-in_err-fill-clause-assigned g c =
    let p = err_from_is_err_and c.from_residual.result c.from_residual.ensures.1 in
    rw (p.1, p.2) (assign_stops _ _ _ _ _ _ _ _ _ _ _ _ c.in_err-fill.ensures.made)

pub place_words-requires-clause-whole : goal.place_words-requires-clause-whole
place_words-requires-clause-whole g c = assign_known _ _ _ _ _ _ _ _ _ _ _ c.clear.ensures c.requires.whole c.in_ok-fill.ensures.made

pub returns-clause-assigned : goal.returns-clause-assigned
returns-clause-assigned g c = assign_leaves _ _ _ _ _ _ _ _ _ _ _ _ _ _ _ c.clear.ensures c.in_ok-fill.ensures.made c.place_words.ensures.stored
