use Rattle.std.proofs.Common.{◌≡◌, ◌||◌}
use Rattle.state_trees.proofs.Passes.{passed}
use Rattle.state_trees.proofs.marks.raise_each.Given as goal

abbrev pub invariant-marks : goal.invariant-marks
invariant-marks l = l.mine ≡ passed (λ o m. m || o) l.i l.other l.initial.mine
