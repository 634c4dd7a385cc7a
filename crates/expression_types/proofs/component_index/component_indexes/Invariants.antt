use Rattle.std.proofs.Common.{◌-◌, length}
use Rattle.expression_types.specs.ComponentNames.{FindAllComponents}
use Rattle.expression_types.proofs.component_index.component_indexes.Given as goal

abbrev pub invariant-types : goal.invariant-types
invariant-types l = FindAllComponents l.made.items l.table

abbrev pub decreases-types : goal.decreases-types
decreases-types l = length l.table - l.t
