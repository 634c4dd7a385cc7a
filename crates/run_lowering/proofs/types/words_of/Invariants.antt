use Rattle.std.proofs.Common.{◌≡◌, map, sum, take}
use Rattle.type_definitions.specs.Types.{words}
use Rattle.run_lowering.proofs.types.words_of.Given as goal

abbrev pub invariant-components : goal.invariant-components
invariant-components l = l.words ≡ sum (map (λ c. words l.table c.of) (take l.i l.components))
