use Rattle.std.proofs.Common.{◌≡◌, ◌+◌, drop}
use Rattle.expression_types.specs.ComponentNames.{component_number}
use Rattle.expression_types.proofs.views.component_number.Given as goal

abbrev pub invariant-search : goal.invariant-search
invariant-search l =
    l.number + component_number l.word (drop l.number l.components) ≡ component_number l.word l.components
