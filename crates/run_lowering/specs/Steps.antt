-- The element that an index leads to.
use Rattle.std.specs.Prelude.{Option, option_and_then, ℤ}
use Rattle.type_definitions.specs.Types.{Table}
use Rattle.run_codes.specs.Lowered.{Placed, Lowered, element_of, whole_code}

-- The element of an array with these bounds, by what its index is lowered to.
unfoldable pub indexed : Table → Placed → ℤ → ℤ → Option Lowered → Option Placed
indexed table p low high o = option_and_then (λ i. element_of table i low high p) (option_and_then whole_code o)
