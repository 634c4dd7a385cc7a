-- How the names of a program are printed (docs/RULES.md, "Names of places").
use Rattle.std.specs.Prelude.{ℕ, List}
use Rattle.typed_tree.specs.place_names.Names.{Name}
use Rattle.typed_tree.specs.type_definitions.Types.{Table}
use Rattle.typed_tree.specs.declared.object.Object.{Object}
use Rattle.typed_tree.specs.Printed.{printed}

abbrev pub printed_name : Table → List Object → Name → List ℕ
printed_name table objects m = printed table objects m
