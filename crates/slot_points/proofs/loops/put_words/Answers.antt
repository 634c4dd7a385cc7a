use Rattle.slot_points.proofs.Looping.{put_room, put_known, put_changes}
use Rattle.slot_points.proofs.loops.put_words.Goals as goal

pub local_spot-spot-requires : goal.local_spot-spot-requires
local_spot-spot-requires g c = put_room _ _ _ _ c.requires

pub store_words-requires : goal.store_words-requires
store_words-requires g c = put_known _ _ _ _ _ c.local_spot-spot.ensures c.requires

pub returns-clause-put : goal.returns-clause-put
returns-clause-put g c = put_changes _ _ _ _ _ _ c.local_spot-spot.ensures c.store_words.ensures.stored
