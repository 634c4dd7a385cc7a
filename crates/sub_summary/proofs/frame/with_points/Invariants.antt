use Rattle.std.proofs.Common.{◌≡◌, ◌+◌, take, map, sum}
use Rattle.type_definitions.specs.Types.{words}
use Rattle.flow_paths.specs.Laid.{object_words}
use Rattle.program_typing.specs.Typings.{typing}
use Rattle.sub_summary.specs.Gathered.{declared_of}
use Rattle.sub_summary.proofs.frame.with_points.Given as goal

abbrev pub invariant-points : goal.invariant-points
invariant-points l = l.made ≡ l.total + sum (map (object_words (typing l.program)) (declared_of (take l.point-index l.points)))
