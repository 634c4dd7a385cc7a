use Rattle.std.proofs.Common.{◌≡◌, drop}
use Rattle.point_states.specs.Carries.{state_along, acts_of}
use Rattle.leak_checks.proofs.excuse.apply_all.Given as goal

abbrev pub invariant-acts : goal.invariant-acts
invariant-acts l = state_along (acts_of (drop l.placed-index l.acts)) l.tree ≡ state_along (acts_of l.acts) l.initial.tree
