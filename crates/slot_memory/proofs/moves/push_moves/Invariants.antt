use Rattle.std.proofs.Common.{◌≡◌, ◌++◌, map, drop}
use Rattle.slot_memory.specs.Memory.{beyond}
use Rattle.slot_memory.specs.Moves.{moved_spots}
use Rattle.slot_memory.specs.Spots.{spot_of}
use Rattle.slot_memory.proofs.moves.push_moves.Given as goal

abbrev pub invariant-offsets : goal.invariant-offsets
invariant-offsets l =
    moved_spots l.moves.items ++ map (beyond (spot_of l.spot)) (drop l.i l.offsets)
    ≡ moved_spots l.initial.moves.items ++ map (beyond (spot_of l.spot)) l.offsets
