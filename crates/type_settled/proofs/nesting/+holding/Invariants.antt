use Rattle.std.proofs.Common.{◌≡◌, ◌+◌, ◌*◌, drop}
use Rattle.type_definitions.specs.Declarations.{any_of}
use Rattle.type_settled.specs.Holding.{has}
use Rattle.type_settled.proofs.nesting.+holding.Given as goal

abbrev pub decreases-holds_within : goal.decreases-holds_within
decreases-holds_within l = 4 * l.depth

abbrev pub decreases-any_holds : goal.decreases-any_holds
decreases-any_holds l = 4 * l.depth + 1

abbrev pub decreases-parent_holds : goal.decreases-parent_holds
decreases-parent_holds l = 4 * l.depth + 1

abbrev pub decreases-shape_holds : goal.decreases-shape_holds
decreases-shape_holds l = 4 * l.depth + 2

abbrev pub decreases-holds_below : goal.decreases-holds_below
decreases-holds_below l = 4 * l.depth + 3

abbrev pub invariant-any_holds-components : goal.invariant-any_holds-components
invariant-any_holds-components l =
    any_of (has l.table l.part l.depth) (drop l.component-index l.components)
    ≡ any_of (has l.table l.part l.depth) l.components
