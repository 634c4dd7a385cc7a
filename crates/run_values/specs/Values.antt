-- The sorts of values.
use Rattle.run_values.specs.declared.value.Value.{Value}
use Rattle.run_values.specs.declared.value.Value.TheVariants as value
use Rattle.run_values.specs.declared.value.Kind.{Kind}
use Rattle.run_values.specs.declared.value.Kind.TheVariants as sort

-- `null` is an access value, as one that designates a cell is.
abbrev pub kind : Value → Kind
kind (value.Int v) = sort.Int
kind (value.Enum n) = sort.Enum
kind value.Null = sort.Access
kind (value.Cell h) = sort.Access
