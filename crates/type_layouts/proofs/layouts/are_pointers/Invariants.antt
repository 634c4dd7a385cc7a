use Rattle.std.proofs.Common.{◌≡◌, drop}
use Rattle.run_codes.specs.Flat as flat
use Rattle.type_layouts.proofs.layouts.are_pointers.Given as goal

abbrev pub invariant-offsets : goal.invariant-offsets
invariant-offsets l = flat.are_pointers l.kinds (drop l.offset-index l.offsets) ≡ flat.are_pointers l.kinds l.offsets
