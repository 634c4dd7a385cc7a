use Rattle.std.proofs.Common.{◌≡◌, ◌++◌, drop, map}
use Rattle.expression_types.specs.Occurrences.{occurs}
use Rattle.typed_expressions.specs.Arguments.{number_at}
use Rattle.typed_expressions.proofs.writer.Writer.named_components.Given as goal

abbrev pub invariant-components : goal.invariant-components
invariant-components l =
    l.made.items ++ map (λ w. number_at l.other l.numbers (occurs l.index w)) (map (λ k. k.name) (drop l.component-index l.components))
    ≡ map (λ w. number_at l.other l.numbers (occurs l.index w)) (map (λ k. k.name) l.components)
