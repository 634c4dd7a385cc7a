use Rattle.std.proofs.Common.{◌≡◌, drop, map}
use Rattle.expression_types.specs.Occurrences.{each_single}
use Rattle.expression_types.proofs.arguments.each_component.Given as goal

abbrev pub invariant-components : goal.invariant-components
invariant-components l =
    each_single l.index (map (λ k. k.name) (drop l.component-index l.components)) ≡ each_single l.index (map (λ k. k.name) l.components)
