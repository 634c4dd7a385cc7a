use Rattle.std.proofs.Common.{rules, ◌+◌, ◌≤◌, length, unsigned_abs}
use Rattle.slot_words.proofs.Spots.{frame_room}
use Rattle.slot_words.proofs.places.local_at.Goals as goal

pub local_spot-requires : goal.local_spot-requires
local_spot-requires g c =
    let h : c.args.memory.now.base + c.args.at + unsigned_abs c.in_ok-index.index ≤ length c.args.memory.now.stack = frame_room _ _ _ _ _ c.requires.whole c.in_ok-index.ensures in
    search rules
