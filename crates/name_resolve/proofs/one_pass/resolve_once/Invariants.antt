use Rattle.std.proofs.Common.{◌≡◌, true, take, drop}
use Rattle.name_events.specs.Known.{Known}
use Rattle.name_events.specs.KnownBehind.{known_behind_all}
use Rattle.name_resolve.specs.Awaited.{are_completed}
use Rattle.name_resolve.specs.Stands.{Stands}
use Rattle.name_resolve.proofs.Occurrences.{Goes}
use Rattle.name_resolve.proofs.one_pass.resolve_once.Given as goal

abbrev pub invariant-turns : goal.invariant-turns
invariant-turns l =
    ((now : Known) → Stands l.initial.known now → Stands l.known (known_behind_all now (take l.event-index l.events)))
    × Goes (λ behind. are_completed l.awaited.items behind ≡ true) l.initial.known l.known l.events (drop l.event-index l.events) l.found
