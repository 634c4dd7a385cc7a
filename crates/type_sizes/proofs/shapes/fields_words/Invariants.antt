use Rattle.std.proofs.Common.{◌≡◌, ◌+◌, drop, map, sum}
use Rattle.type_sizes.specs.Sizes.{words_in}
use Rattle.type_sizes.proofs.shapes.fields_words.Given as goal

abbrev pub invariant-components : goal.invariant-components
invariant-components l =
    l.all + sum (map (λ c. words_in l.sizes c.of) (drop l.component-index l.components))
    ≡ sum (map (λ c. words_in l.sizes c.of) l.components)
