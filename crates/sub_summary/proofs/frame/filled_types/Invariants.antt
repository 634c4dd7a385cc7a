use Rattle.std.proofs.Common.{◌≡◌, take}
use Rattle.program_typing.specs.Typings.{typing}
use Rattle.sub_summary.specs.Gathered.{filled_of}
use Rattle.sub_summary.proofs.frame.filled_types.Given as goal

abbrev pub invariant-points : goal.invariant-points
invariant-points l = l.types.items ≡ filled_of (typing l.program) (take l.point-index l.points)
