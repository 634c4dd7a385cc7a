-- What may be an actual of an instance.
use Rattle.std.specs.Prelude.{Bool, true, Some, None}
use Rattle.type_definitions.specs.Entries.{same_word}
use Rattle.type_definitions.specs.Expressions.{Given}
use Rattle.type_definitions.specs.Statements.{name_x}

abbrev pub may_be_x : Given → Bool
may_be_x None = true
may_be_x (Some w) = same_word name_x w
