use Rattle.std.proofs.Common.{◌≡◌, ◌++◌, map, take}
use Rattle.std.specs.Char.{to_ascii_uppercase}
use Rattle.slot_points.proofs.texts.push_upper.Given as goal

abbrev pub invariant-bytes : goal.invariant-bytes
invariant-bytes l = l.out.items ≡ l.initial.out.items ++ map to_ascii_uppercase (take l.byte-index l.bytes)
