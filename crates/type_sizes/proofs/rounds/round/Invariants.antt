use Rattle.std.proofs.Common.{◌≡◌, map, take}
use Rattle.type_sizes.specs.Sizes.{shape_size}
use Rattle.type_sizes.proofs.rounds.round.Given as goal

abbrev pub invariant-types : goal.invariant-types
invariant-types l = l.made.items ≡ map (λ i. shape_size l.sizes i.shape) (take l.info-index l.table)
