use Rattle.std.proofs.Common.{◌≡◌, ◌++◌, map, take}
use Rattle.type_ranks.specs.Ranks.{component_parts}
use Rattle.type_ranks.specs.Stages.{fresh}
use Rattle.type_ranks.proofs.visits.put_components.Given as goal

abbrev pub invariant-components : goal.invariant-components
invariant-components l = l.stack.items ≡ l.initial.stack.items ++ map fresh (component_parts (take l.component-index l.components))
