use Rattle.std.proofs.Common.{◌≡◌, drop}
use Rattle.std.specs.Prelude.{flat_map}
use Rattle.type_definitions.specs.Faults.{noted}
use Rattle.type_definitions.specs.Whole.{made_faults}
use Rattle.type_settled.proofs.limits.sizes.Given as goal

abbrev pub invariant-made : goal.invariant-made
invariant-made l =
    noted l.found (flat_map (made_faults l.settled.known.table l.made) (drop l.m-index l.made))
    ≡ noted l.initial.found (flat_map (made_faults l.settled.known.table l.made) l.made)
