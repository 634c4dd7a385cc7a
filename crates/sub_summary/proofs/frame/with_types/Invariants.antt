use Rattle.std.proofs.Common.{◌≡◌, ◌+◌, take, map, sum}
use Rattle.type_definitions.specs.Types.{words}
use Rattle.flow_paths.specs.Laid.{object_words}
use Rattle.program_typing.specs.Typings.{typing}
use Rattle.sub_summary.specs.Gathered.{declared_of}
use Rattle.sub_summary.proofs.frame.with_types.Given as goal

abbrev pub invariant-types : goal.invariant-types
invariant-types l = l.made ≡ l.total + sum (map (words (typing l.program).table) (take l.of-index l.types))
