use Rattle.std.proofs.Common.{◌≡◌, ◌++◌, map, take}
use Rattle.numbered_points.specs.Programs.{waiting_object}
use Rattle.lay_out.proofs.lay.with_temporaries.Given as goal

abbrev pub invariant-types : goal.invariant-types
invariant-types l = l.all ≡ l.fn.objects ++ map waiting_object (take l.of-index l.types)
