-- The type that a declaration makes.
use Rattle.std.specs.Prelude.{Bool}
use Rattle.resolved_tree.specs.Trees.{Code}
use Rattle.type_definitions.specs.declared.table.Made.{Made}
use Rattle.type_definitions.specs.Gathered.{declared_number, declared_pos}

abbrev pub made_by : Code → Bool → Bool → Made
made_by d full sound = record { number = declared_number d; pos = declared_pos d; full = full; sound = sound }
