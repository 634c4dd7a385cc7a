-- Types that are defined as named access types.
use Rattle.std.specs.Prelude.{ℕ, Bool, false, slice_get}
use Rattle.type_definitions.specs.declared.table.Shape.{Shape}
use Rattle.type_definitions.specs.declared.table.Shape.TheVariants as shape
use Rattle.type_definitions.specs.Types.{Table, shape_found}

abbrev pub is_named : Shape → Bool
is_named (shape.Access designated constant named) = named
is_named _ = false

abbrev pub is_pointer : Table → ℕ → Bool
is_pointer table t = is_named (shape_found (slice_get table t))
