use Rattle.std.proofs.Common.{◌≡◌, ◌+◌, take, map, sum}
use Rattle.type_definitions.specs.Types.{words}
use Rattle.flow_paths.specs.Laid.{object_words}
use Rattle.program_typing.specs.Typings.{typing}
use Rattle.sub_summary.specs.Gathered.{declared_of}
use Rattle.sub_summary.proofs.frame.with_objects.Given as goal

abbrev pub invariant-objects : goal.invariant-objects
invariant-objects l = l.made ≡ l.total + sum (map (object_words (typing l.program)) (take l.x-index l.objects))
