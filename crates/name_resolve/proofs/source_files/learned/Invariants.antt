use Rattle.std.proofs.Common.{take}
use Rattle.name_events.specs.Known.{Known}
use Rattle.name_events.specs.KnownBehind.{known_behind_all}
use Rattle.name_resolve.specs.Stands.{Stands}
use Rattle.name_resolve.proofs.source_files.learned.Given as goal

abbrev pub invariant-turns : goal.invariant-turns
invariant-turns l = (now : Known) → Stands l.initial.known now → Stands l.known (known_behind_all now (take l.event-index l.events))
