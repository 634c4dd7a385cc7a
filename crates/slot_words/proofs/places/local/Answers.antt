use Rattle.std.proofs.Common.{pos}
use Rattle.slot_words.proofs.Leaves.{number_gives}
use Rattle.slot_words.proofs.Spots.{frame_room, frame_gives}
use Rattle.slot_words.proofs.places.local.Goals as goal

pub local_spot-requires : goal.local_spot-requires
local_spot-requires g c = frame_room _ _ _ _ (pos 0) c.requires (number_gives _ _ (pos 0))

pub returns : goal.returns
returns g c = frame_gives _ _ _ _ (pos 0) _ (number_gives _ _ (pos 0)) c.local_spot.ensures
