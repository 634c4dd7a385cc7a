-- What is known of the bounds of types: they are values of Integer, and which type is meant is known.
use Rattle.std.specs.Prelude.{◌≡◌, ℕ, ℤ, true, false}
use Rattle.machine.specs.type_definitions.declared.table.Shape.TheVariants as shape
use Rattle.machine.specs.type_definitions.Types.{Table, shape_of, is_untyped}
use Rattle.soundness.specs.run_values.Arithmetic.{is_integer}

pub record HaveBounds (table : Table) : Type 0 where
  pub whole : (t : ℕ) (low high : ℤ) → shape_of table t ≡ shape.Whole low high → (is_integer low ≡ true) × (is_integer high ≡ true)
  pub elements : (t of : ℕ) (low high : ℤ) → shape_of table t ≡ shape.Elements low high of → (is_integer low ≡ true) × (is_integer high ≡ true)
  pub certain : (t : ℕ) → is_untyped table t ≡ false
