use Rattle.type_settled.specs.Rings.{LooksAt}
use Rattle.type_settled.proofs.downward.find_components.Given as goal

abbrev pub invariant-components : goal.invariant-components
invariant-components l = LooksAt l.table l.roots l.whole l.search.made.items
