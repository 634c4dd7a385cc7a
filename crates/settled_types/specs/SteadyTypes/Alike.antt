-- Tables that say the same of types, but for the bounds in their definitions.
use Rattle.std.specs.Prelude.{◌≡◌, ℕ, pos, Option, Some, None, slice_get}
use Rattle.machine.specs.type_definitions.declared.table.Info.{Info}
use Rattle.machine.specs.type_definitions.declared.table.Shape.{Shape}
use Rattle.machine.specs.type_definitions.declared.table.Shape.TheVariants as shape
use Rattle.machine.specs.type_definitions.Types.{Table}

-- A definition without its bounds, and without literals.
abbrev pub outline : Shape → Shape
outline (shape.Whole low high) = shape.Whole (pos 0) (pos 0)
outline (shape.Listed literals low high) = shape.Whole (pos 0) (pos 0)
outline (shape.Elements low high of) = shape.Elements (pos 0) (pos 0) of
outline (shape.Access designated constant named) = shape.Access designated constant named
outline (shape.Fields components) = shape.Fields components
outline (shape.Same of) = shape.Same of

-- What is looked at in a row: the definition, the type that it is based on, and the package of a private type.
abbrev pub Outline : Type 0
Outline = Shape × ℕ × Option ℕ

abbrev pub outlined : Option Info → Option Outline
outlined None = None
outlined (Some i) = Some (outline i.shape, i.base, i.seen_in)

abbrev pub AreAlike : Table → Table → Type 0
AreAlike table other = (t : ℕ) → outlined (slice_get table t) ≡ outlined (slice_get other t)
