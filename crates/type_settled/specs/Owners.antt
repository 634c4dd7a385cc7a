-- The types that have a named access type in them.
use Rattle.std.specs.Prelude.{◌≡◌, ℕ, Bool, false, ◌||◌, List}
use Rattle.type_definitions.specs.declared.table.Shape.{Shape}
use Rattle.type_definitions.specs.declared.table.Shape.TheVariants as shape
use Rattle.type_definitions.specs.Types.{Table, info, is_owning}
use Rattle.type_settled.specs.Measures.{marked}

abbrev pub is_named : Shape → Bool
is_named (shape.Access designated constant named) = named
is_named _ = false

-- A type is owning where it is a named access type or one of these.
abbrev pub AreOwners : Table → List Bool → Type 0
AreOwners table made = (t : ℕ) → is_owning table t ≡ is_named (info table t).shape || marked made t
