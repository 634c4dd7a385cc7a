use Rattle.std.proofs.Common.{◌≡◌, ◌++◌, take}
use Rattle.std.specs.Prelude.{flat_map}
use Rattle.code_rows.specs.Points.{type_of}
use Rattle.slot_entries.proofs.frame_rooms.push_types.Given as goal

abbrev pub invariant-rooms : goal.invariant-rooms
invariant-rooms l = l.types.items ≡ l.initial.types.items ++ flat_map type_of (take l.i l.rooms)
