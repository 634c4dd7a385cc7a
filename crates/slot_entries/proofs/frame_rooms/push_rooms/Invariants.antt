use Rattle.std.proofs.Common.{◌≡◌, ◌++◌, map, take}
use Rattle.std.specs.Prelude.{flat_map}
use Rattle.code_rows.specs.Points.{room_of}
use Rattle.run_codes.specs.Points.{room_words}
use Rattle.slot_entries.proofs.frame_rooms.push_rooms.Given as goal

abbrev pub invariant-rooms : goal.invariant-rooms
invariant-rooms g l =
    (l.memory ≡ record l.initial.memory { stack = l.initial.memory.stack ++ flat_map (room_words l.table) (map room_of (take l.i l.rooms)) })
    × (l.hand ≡ l.initial.hand)
