use Rattle.std.proofs.Common.{subst}
use Rattle.name_events.specs.KnownBehind.{end_in}
use Rattle.name_resolve.specs.Stands.{Stands}
use Rattle.name_resolve.proofs.knowledge.Knowledge.end_outer.Goals as goal

pub returns : goal.returns
returns c now s = subst (λ r. Stands c.end_in.new.self (end_in r now)) (c.outer-region.ensures _ _ _ _ s.regions) (c.in_ok-end_in.ensures now s)
