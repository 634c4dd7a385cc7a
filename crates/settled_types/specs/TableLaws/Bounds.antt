-- What is asked of the bounds of scalar types.
use Rattle.std.specs.Prelude.{◌≡◌, ℕ, IsTrue, slice_get, ℤ, pos}
use Rattle.kept_cells.specs.run_values.Arithmetic.{is_integer}
use Rattle.machine.specs.type_definitions.declared.table.Shape.TheVariants as shape
use Rattle.machine.specs.type_definitions.Types.{Table, shape_found}

-- Low bounds are values of Integer, and positions are in the range of these.
pub record HasBounds (table : Table) : Type 0 where
  pub whole : (t : ℕ) (low high : ℤ) → shape_found (slice_get table t) ≡ shape.Whole low high → IsTrue (is_integer low)
  pub listed : (t low high : ℕ) → (literals : _) → shape_found (slice_get table t) ≡ shape.Listed literals low high → IsTrue (is_integer (pos low))
