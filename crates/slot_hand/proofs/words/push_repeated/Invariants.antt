use Rattle.std.proofs.Common.{◌≡◌, ◌-◌, ◌++◌}
use Rattle.run_codes.specs.Flat.{repeated}
use Rattle.slot_hand.proofs.words.push_repeated.Given as goal

abbrev pub invariant-times : goal.invariant-times
invariant-times l = l.words.items ++ repeated (l.count - l._time) l.block ≡ l.initial.words.items ++ repeated l.count l.block
