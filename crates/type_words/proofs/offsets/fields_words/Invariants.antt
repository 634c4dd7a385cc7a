use Rattle.std.proofs.Common.{◌≡◌, ◌+◌, drop, map, sum}
use Rattle.type_definitions.specs.Types.{words}
use Rattle.type_words.proofs.offsets.fields_words.Given as goal

abbrev pub invariant-components : goal.invariant-components
invariant-components l =
    l.all + sum (map (λ c. words l.table c.of) (drop l.component-index l.components)) ≡ sum (map (λ c. words l.table c.of) l.components)
