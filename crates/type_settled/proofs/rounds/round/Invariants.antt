use Rattle.std.proofs.Common.{◌≡◌, map, take}
use Rattle.type_settled.specs.Measures.{part_in, info_measure}
use Rattle.type_settled.proofs.rounds.round.Given as goal

abbrev pub invariant-types : goal.invariant-types
invariant-types l = l.made.items ≡ map (info_measure (part_in l.unsound l.values)) (take l.info-index l.table)
