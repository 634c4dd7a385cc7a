-- Types that are measured one after the other, each after its parts.
use Rattle.std.specs.Prelude.{◌≡◌, ◌≤◌, ℕ, Bool, true, ◌&&◌, List, [], ◌∷◌, length, get_or, IsTrue, Option, Some, None}
use Rattle.type_definitions.specs.declared.table.Component.{Component}
use Rattle.type_definitions.specs.declared.table.Shape.{Shape}
use Rattle.type_definitions.specs.declared.table.Shape.TheVariants as shape
use Rattle.type_definitions.specs.declared.table.Info.{Info}
use Rattle.type_definitions.specs.Types.{Table}
use Rattle.type_settled.specs.declared.order.Order.{Order}
use Rattle.type_settled.specs.Measures.{nothing, measured}

-- ---- the parts of a type are measured

abbrev pub all_ready : (ℕ → Bool) → List Component → Bool
all_ready done [] = true
all_ready done (c ∷ rest) = done c.of && all_ready done rest

abbrev pub shape_ready : (ℕ → Bool) → Shape → Bool
shape_ready done (shape.Fields components) = all_ready done components
shape_ready done (shape.Elements low high element) = done element
shape_ready done (shape.Same of) = done of
shape_ready done _ = true

abbrev pub parent_ready : (ℕ → Bool) → Option ℕ → Bool
parent_ready done None = true
parent_ready done (Some t) = done t

abbrev pub is_ready : (ℕ → Bool) → Info → Bool
is_ready done i = shape_ready done i.shape && parent_ready done i.parent

-- Beyond the table there is nothing to measure.
abbrev pub is_done : List Bool → ℕ → Bool
is_done done t = get_or done t true

-- ---- all that are measured

-- The measure of a type that is done is right at the depth so far, and at any greater one.
pub record IsOrdered (is : ℕ → Bool) (table : Table) (order : Order) : Type 0 where
  pub values_length : length order.values.items ≡ length table
  pub done_length : length order.done.items ≡ length table
  pub within : order.depth ≤ length table
  pub right : (t n : ℕ) → order.depth ≤ n → IsTrue (is_done order.done.items t)
      → get_or order.values.items t nothing ≡ measured is n table t
