use Rattle.std.proofs.Common.{◌≡◌, replicate}
use Rattle.type_table.specs.Sizes.{no_size}
use Rattle.type_sizes.proofs.sizes.nothing.Given as goal

abbrev pub invariant-types : goal.invariant-types
invariant-types l = l.made.items ≡ replicate l._type no_size
