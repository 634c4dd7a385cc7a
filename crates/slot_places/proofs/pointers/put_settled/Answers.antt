use Rattle.std.proofs.lemmas.Int.{to_z-of_z}
use mir.Syntax.{w64}
use Rattle.slot_places.proofs.Framed.{frame_there, frame_settles, frame_checks, frame_leaves}
use Rattle.slot_places.proofs.pointers.put_settled.Goals as goal

pub local_spot-there-requires : goal.local_spot-there-requires
local_spot-there-requires g c = frame_there _ _ _ _ _ _ _ c.requires.whole

pub settle-requires : goal.settle-requires
settle-requires g c = frame_settles _ _ _ _ _ _ _ _ c.local_spot-there.ensures c.requires.whole

pub put_checked-requires-clause-whole : goal.put_checked-requires-clause-whole
put_checked-requires-clause-whole g c =
    rw (to_z-of_z w64 c.args.word c.ranges.word) (frame_checks _ _ _ _ _ _ _ _ c.local_spot-there.ensures _ c.requires.whole c.settle.ensures.settled)

pub returns-clause-stored : goal.returns-clause-stored
returns-clause-stored g c =
    let stored = rw (to_z-of_z w64 c.args.word c.ranges.word) at c.put_checked.ensures.stored in
    frame_leaves _ _ _ _ _ _ _ _ c.local_spot-there.ensures _ _ _ _ _ c.settle.ensures.settled stored
