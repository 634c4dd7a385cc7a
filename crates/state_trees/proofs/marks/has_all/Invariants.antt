use Rattle.std.proofs.Common.{◌≡◌, ◌||◌, not, take, zip}
use Rattle.std.specs.List.{list_all}
use Rattle.state_trees.proofs.marks.has_all.Given as goal

abbrev pub invariant-marks : goal.invariant-marks
invariant-marks l = l.all ≡ list_all (λ p. p.0 || not p.1) (take l.i (zip l.mine l.other))
