use Rattle.std.proofs.Common.{rules}
use Rattle.std.proofs.lemmas.Int.{to_z-of_z}
use Rattle.std.proofs.lemmas.Result.{err_from_is_err_and}
use mir.Syntax.{w64}
use mir.Val.{SFits}
use Rattle.slot_places.proofs.Frees.{place_reads, place_stops, word_there, word_known, word_leaves}
use Rattle.slot_places.proofs.releases.release.Goals as goal

pub spot-requires-clause-whole : goal.spot-requires-clause-whole
spot-requires-clause-whole g c = place_reads _ _ _ _ _ _ c.requires.whole

pub returns-in_err-found-clause-released : goal.returns-in_err-found-clause-released
returns-in_err-found-clause-released g c =
    let p = err_from_is_err_and c.from_residual.result c.from_residual.ensures.1 in
    rw (p.1, p.2) (place_stops _ _ _ _ _ _ _ _ c.in_err-found.ensures)

pub word_at-word-requires : goal.word_at-word-requires
word_at-word-requires g c = rw c.same.ensures (word_there _ _ _ _ _ _ _ c.requires.whole c.in_ok-found.ensures)

pub release_word-requires : goal.release_word-requires
release_word-requires g c =
    let fits : SFits w64 c.word_at-word.result = search rules in
    rw (to_z-of_z w64 c.word_at-word.result fits) (word_known _ _ _ _ _ _ _ _ c.requires.whole c.in_ok-found.ensures (rw c.same.ensures at c.word_at-word.ensures))

pub returns-clause-released : goal.returns-clause-released
returns-clause-released g c =
    let fits : SFits w64 c.word_at-word.result = search rules in
    word_leaves _ _ _ _ _ _ _ _ _ _ _ _ c.in_ok-found.ensures (rw c.same.ensures at c.word_at-word.ensures)
    (rw (to_z-of_z w64 c.word_at-word.result fits) at c.release_word.ensures.released)
