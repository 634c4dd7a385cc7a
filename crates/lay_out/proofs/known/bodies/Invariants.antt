use Rattle.std.proofs.Common.{◌≡◌, map, take}
use Rattle.lay_out.proofs.known.bodies.Given as goal

abbrev pub invariant-subs : goal.invariant-subs
invariant-subs l = l.made.items ≡ map (λ b. b.body) (take l.sub-index l.subs)
