use Rattle.std.proofs.Common.{◌≡◌, ◌∷◌, ◌++◌, map, take}
use Rattle.type_sizes.proofs.tails.add_fronts.Given as goal

abbrev pub invariant-tails : goal.invariant-tails
invariant-tails l = l.made.items ≡ l.initial.made.items ++ map (λ q. l.sel ∷ q) (take l.tail-index l.tails)
