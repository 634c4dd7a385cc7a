-- A table of three types, each with one word.
use Rattle.std.specs.Prelude.{false, true, [], ◌∷◌, None, pos}
use Rattle.type_definitions.specs.declared.table.Shape.{Shape}
use Rattle.type_definitions.specs.declared.table.Shape.TheVariants as shape
use Rattle.type_definitions.specs.declared.table.Info.{Info}
use Rattle.type_definitions.specs.Types.{Table}
use Rattle.type_table.specs.declared.table.TypeSize.{TypeSize}

abbrev pub one_word : TypeSize
one_word = record { words = 1; owning = false; parts = [] }

abbrev pub info_of : Shape → Info
info_of s = record { shape = s; base = 0; parent = None; seen_in = None; completed = None; bounded = true }

abbrev pub three_types : Table
three_types = info_of (shape.Whole (pos 1) (pos 9)) ∷ info_of (shape.Same 0) ∷ info_of (shape.Same 1) ∷ []
