use Rattle.std.proofs.Common.{◌-◌, length}
use Rattle.expression_types.specs.FormalNames.{FindAllFormals}
use Rattle.expression_types.proofs.formal_index.formal_indexes.Given as goal

abbrev pub invariant-declarations : goal.invariant-declarations
invariant-declarations l = FindAllFormals l.made.items l.entries

abbrev pub decreases-declarations : goal.decreases-declarations
decreases-declarations l = length l.entries - l.f
