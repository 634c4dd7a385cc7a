use Rattle.std.proofs.Common.{rules, ◌+◌, ◌≤◌, length, unsigned_abs}
use Rattle.slot_words.proofs.Spots.{package_room}
use Rattle.slot_words.proofs.places.global_at.Goals as goal

pub global_spot-requires : goal.global_spot-requires
global_spot-requires g c =
    let h : c.args.at + unsigned_abs c.in_ok-index.index ≤ length c.args.memory.now.stack = package_room _ _ _ _ _ c.requires.whole c.in_ok-index.ensures in
    search rules
