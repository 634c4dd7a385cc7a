-- The acts of one actual after another.
use Rattle.std.specs.Prelude.{List, map}
use Rattle.place_names.specs.declared.act.Placed.{Placed}
use Rattle.typed_tree.specs.Trees.{TypedTree}
use Rattle.flow_paths.specs.Objects as objects
use Rattle.flow_paths.specs.Objects.{Typing}
use Rattle.flow_paths.specs.Acts.{acts_in, index_acts}
use Rattle.program_typing.specs.declared.passing.Passing.{Passing}
use Rattle.program_typing.specs.Passings.{passing_of}

-- How some actuals are passed.
abbrev pub ways_of : List Passing → List objects.Passing
ways_of ways = map passing_of ways

-- An actual that is passed by value gives its acts, each other one those of its indexes.
abbrev pub value_acts : Typing → objects.Passing → TypedTree → List Placed
value_acts s objects.ByValue e = acts_in s e
value_acts s objects.Traversed e = index_acts s e
value_acts s (objects.Place m owning access) e = index_acts s e
