use Rattle.std.proofs.Common.{◌≡◌, ◌++◌, replicate}
use Rattle.type_definitions.specs.Types.{no_type}
use Rattle.type_definitions.specs.Whole.{predefined_types}
use Rattle.type_gather.proofs.predefined.at_first.Given as goal

abbrev pub invariant-types : goal.invariant-types
invariant-types l = l.table ≡ predefined_types l.asked ++ replicate l._type no_type
