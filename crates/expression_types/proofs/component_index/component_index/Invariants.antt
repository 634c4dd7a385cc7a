use Rattle.std.proofs.Common.{◌≡◌, ◌≤◌, ◌-◌, ℕ, List, drop, length}
use Rattle.expression_types.specs.Occurrences.{both_lists, component_names, occurrence, occurs}
use Rattle.expression_types.proofs.component_index.component_index.Given as goal

abbrev pub invariant-components : goal.invariant-components
invariant-components l =
    (l.i ≤ length l.components)
    × ((w : List ℕ) → both_lists (occurs l.made w) (occurrence l.i (component_names (drop l.i l.components)) w) ≡ occurrence 0 (component_names l.components) w)

abbrev pub decreases-components : goal.decreases-components
decreases-components l = length l.components - l.i
