use Rattle.std.proofs.Common.{◌≡◌, ◌++◌, drop}
use Rattle.type_definitions.specs.Types.{numbered}
use Rattle.type_sizes.specs.Sizes.{parts_in}
use Rattle.type_sizes.proofs.shapes.fields_parts.Given as goal

abbrev pub invariant-components : goal.invariant-components
invariant-components l =
    l.made.items ++ numbered l.i (parts_in l.sizes) (drop l.i l.components) ≡ numbered 0 (parts_in l.sizes) l.components
