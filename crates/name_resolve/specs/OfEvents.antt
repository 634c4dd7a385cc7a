-- What the definitions say of files, of the events of the files.
use Rattle.std.specs.Prelude.{ℕ, List, Option, map}
use Rattle.std.specs.List.{flat_map}
use Rattle.name_events.specs.declared.event.Event.{Event}
use Rattle.name_events.specs.declared.declaration.DeclInfo.{DeclInfo}
use Rattle.name_events.specs.declared.declaration.Identified.{Identified}
use Rattle.name_events.specs.Known.{Known}
use Rattle.name_events.specs.KnownBehind.{known_at_first, known_behind_all}
use Rattle.name_events.specs.Denotes.{info_of, mentioned_from}
use Rattle.name_events.specs.Identified.{identified_from}
use Rattle.name_events.specs.Faults.{Fault, first_fault}

abbrev pub known_of_events : List Event → Known
known_of_events events = known_behind_all known_at_first events

abbrev pub fault_of_events : List Event → Option Fault
fault_of_events events = first_fault (known_of_events events) known_at_first events

abbrev pub infos_of_events : List Event → List DeclInfo
infos_of_events events = map info_of (known_of_events events).declared

abbrev pub numbers_of_events : List Event → List ℕ
numbers_of_events events = flat_map (λ numbers. numbers) (mentioned_from (known_of_events events) known_at_first events)

abbrev pub identified_of_events : List Event → List Identified
identified_of_events events = identified_from (known_of_events events) known_at_first events
