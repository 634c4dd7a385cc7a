use Rattle.std.proofs.Common.{◌≡◌, ◌++◌, take}
use Rattle.traversal_funcs.specs.Lendings.{lendings_at}
use Rattle.traversal_funcs.proofs.lending.add_all.Given as goal

abbrev pub invariant-acts : goal.invariant-acts
invariant-acts l = l.to.items ≡ l.initial.to.items ++ lendings_at (take l.placed-index l.acts)
