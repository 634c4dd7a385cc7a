use Rattle.std.proofs.Common.{pos}
use Rattle.slot_words.proofs.Leaves.{number_gives}
use Rattle.slot_words.proofs.Spots.{package_room, package_gives}
use Rattle.slot_words.proofs.places.global.Goals as goal

pub global_spot-requires : goal.global_spot-requires
global_spot-requires g c = package_room _ _ _ _ (pos 0) c.requires (number_gives _ _ (pos 0))

pub returns : goal.returns
returns g c = package_gives _ _ _ _ (pos 0) _ (number_gives _ _ (pos 0)) c.global_spot.ensures
