use Rattle.std.proofs.Common.{◌≡◌, ◌≤◌, ◌-◌, ℕ, List, drop, length}
use Rattle.expression_types.specs.Occurrences.{both_lists, formal_names, occurrence, occurs}
use Rattle.expression_types.proofs.formal_index.formal_index.Given as goal

abbrev pub invariant-formals : goal.invariant-formals
invariant-formals l =
    (l.i ≤ length l.formals)
    × ((w : List ℕ) → both_lists (occurs l.made w) (occurrence l.i (formal_names (drop l.i l.formals)) w) ≡ occurrence 0 (formal_names l.formals) w)

abbrev pub decreases-formals : goal.decreases-formals
decreases-formals l = length l.formals - l.i
