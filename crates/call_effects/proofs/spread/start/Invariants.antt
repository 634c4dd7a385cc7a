use Rattle.call_effects.specs.Spreads.{Spreading}
use Rattle.call_effects.proofs.Spreading.{Starting}
use Rattle.call_effects.proofs.spread.start.Given as goal

abbrev pub invariant-users : goal.invariant-users
invariant-users l =
    Spreading l.g l.initial.lists.items l.lists.items l.work.items × Starting l.g l.p-index l.users l.lists.items l.work.items
