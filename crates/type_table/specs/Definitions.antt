-- The definitions of the types of a table (docs/LANGUAGE.md, "Types"; Ada 2012, 3.2.2).
use Rattle.std.specs.Prelude.{◌≡◌, ℕ, []}
use Rattle.type_definitions.specs.declared.table.Shape.{Shape}
use Rattle.type_definitions.specs.declared.table.Shape.TheVariants as shape
use Rattle.type_definitions.specs.Types.{Table, shape_of}

-- A subtype without a constraint has no definition of its own.
abbrev pub IsSame : Shape → Type 0
IsSame s = (of : ℕ) × (s ≡ shape.Same of)

-- What leads to no definition is as a record without components, as its full view is.
abbrev pub no_definition : Shape
no_definition = shape.Fields []

abbrev pub settled : Shape → Shape
settled (shape.Same of) = no_definition
settled s = s

-- The definition of a type: of a subtype without a constraint, that of what it is a subtype of.
abbrev pub definition : Table → ℕ → Shape
definition table t = settled (shape_of table t)
