use Rattle.std.proofs.Common.{◌≡◌, ◌∷◌, take}
use Rattle.type_sizes.proofs.tails.with_front.Given as goal

abbrev pub invariant-steps : goal.invariant-steps
invariant-steps l = l.made ≡ l.fn.sel ∷ take l.step-index l.step-items
