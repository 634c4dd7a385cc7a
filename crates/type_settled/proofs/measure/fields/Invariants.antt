use Rattle.std.proofs.Common.{◌≡◌, drop}
use Rattle.type_settled.specs.Measures.{nothing, part_in, fields_of}
use Rattle.type_settled.proofs.measure.fields.Given as goal

abbrev pub invariant-components : goal.invariant-components
invariant-components l =
    fields_of (part_in l.unsound l.values) l.all (drop l.component-index l.components)
    ≡ fields_of (part_in l.unsound l.values) nothing l.components
