use Rattle.std.proofs.Common.{◌≡◌, rules}
use Rattle.std.proofs.lemmas.Int.{to_z-of_z}
use Rattle.std.proofs.lemmas.Result.{err_from_is_err_and}
use mir.Syntax.{w64}
use mir.Val.{SFits}
use Rattle.code_rows.specs.Rows.{code_at, place_of}
use Rattle.slot_places.proofs.Moved.{from_reads, from_stops, from_word, to_room, take_known, taken_known, moved_leaves}
use Rattle.slot_places.proofs.pointers.assign_moved.Goals as goal

pub spot-requires-clause-whole : goal.spot-requires-clause-whole
spot-requires-clause-whole g c = from_reads _ _ _ _ _ _ _ c.requires.whole

pub returns-in_err-found-clause-assigned : goal.returns-in_err-found-clause-assigned
returns-in_err-found-clause-assigned g c =
    let p = err_from_is_err_and c.from_residual.result c.from_residual.ensures.1 in
    rw (p.1, p.2) (from_stops _ _ _ _ _ _ _ _ _ c.in_err-found.ensures)

pub word_at-word-requires : goal.word_at-word-requires
word_at-word-requires g c = rw c.same.ensures (from_word _ _ _ _ _ _ _ _ c.requires.whole c.in_ok-found.ensures)

pub local_spot-to-requires : goal.local_spot-to-requires
local_spot-to-requires g c =
    to_room _ _ _ _ _ _ _ _ _ c.requires.settled c.in_ok-found.ensures (rw c.same.ensures at c.word_at-word.ensures) c.requires.whole

pub take_out-requires-clause-whole : goal.take_out-requires-clause-whole
take_out-requires-clause-whole g c =
    take_known _ _ _ _ _ _ _ _ _ c.requires.settled c.in_ok-found.ensures (rw c.same.ensures at c.word_at-word.ensures) _ c.local_spot-to.ensures c.requires.whole

pub put_checked-requires-clause-whole : goal.put_checked-requires-clause-whole
put_checked-requires-clause-whole g c =
    let fits : SFits w64 c.word_at-word.result = search rules in
    rw (to_z-of_z w64 c.word_at-word.result fits)
    (taken_known _ _ _ _ _ _ _ _ _ c.requires.settled c.in_ok-found.ensures (rw c.same.ensures at c.word_at-word.ensures) _ c.local_spot-to.ensures _ c.requires.whole c.take_out.ensures.settled)

pub returns-clause-assigned : goal.returns-clause-assigned
returns-clause-assigned g c =
    let fits : SFits w64 c.word_at-word.result = search rules in
    moved_leaves _ _ _ _ _ _ _ _ _ c.requires.settled c.in_ok-found.ensures (rw c.same.ensures at c.word_at-word.ensures) _ c.local_spot-to.ensures _ _ _ _ _ c.take_out.ensures.settled
    (rw (to_z-of_z w64 c.word_at-word.result fits) at c.put_checked.ensures.stored)
