-- How an actual is passed, as the definitions have it.
use Rattle.flow_paths.specs.Objects as objects
use Rattle.program_typing.specs.declared.passing.Passing.{Passing}
use Rattle.program_typing.specs.declared.passing.Passing.TheVariants as passing

abbrev pub passing_of : Passing → objects.Passing
passing_of passing.ByValue = objects.ByValue
passing_of passing.Traversed = objects.Traversed
passing_of (passing.Place mode owning access) = objects.Place mode owning access
