use Rattle.std.proofs.lemmas.Int.{to_z-of_z}
use Rattle.std.proofs.lemmas.Result.{err_from_is_err_and}
use mir.Syntax.{w64}
use Rattle.slot_places.proofs.Assigning.{check_known}
use Rattle.slot_places.proofs.Moved.{put_known, put_halts, put_leaves}
use Rattle.slot_places.proofs.pointers.put_checked.Goals as goal

pub check_pointer-requires-clause-whole : goal.check_pointer-requires-clause-whole
check_pointer-requires-clause-whole g c = rw c.same.ensures (check_known _ _ _ _ _ _ _ c.requires.whole)

pub returns-in_err-check_pointer-clause-stored : goal.returns-in_err-check_pointer-clause-stored
returns-in_err-check_pointer-clause-stored g c =
    let p = err_from_is_err_and c.from_residual.result c.from_residual.ensures.1 in
    rw (p.1, p.2) (put_halts _ _ _ _ _ _ _ _ _ _ (rw c.same.ensures at c.in_err-check_pointer.ensures))

pub put_at-requires : goal.put_at-requires
put_at-requires g c = rw (to_z-of_z w64 c.args.word c.ranges.word) (put_known _ _ _ _ _ _ _ c.requires.pointer c.requires.whole)

pub returns-clause-stored : goal.returns-clause-stored
returns-clause-stored g c =
    let stored = rw (to_z-of_z w64 c.args.word c.ranges.word) at c.put_at.ensures.stored in
    put_leaves _ _ _ _ _ _ _ _ _ _ _ c.requires.pointer (rw c.same.ensures at c.in_ok-check_pointer.ensures) stored
