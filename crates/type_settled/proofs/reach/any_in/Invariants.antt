use Rattle.std.proofs.Common.{◌≡◌, drop}
use Rattle.type_definitions.specs.Declarations.{any_of}
use Rattle.type_settled.specs.Reach.{is_in}
use Rattle.type_settled.proofs.reach.any_in.Given as goal

abbrev pub invariant-components : goal.invariant-components
invariant-components l =
    any_of (is_in l.marks l.made) (drop l.component-index l.components) ≡ any_of (is_in l.marks l.made) l.components
