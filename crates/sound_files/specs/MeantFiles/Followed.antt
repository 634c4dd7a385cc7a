-- Identifiers that are declared have the numbers of their declarations by position, and those that are used have
-- the number of a declaration that stands before.
use Rattle.std.specs.Prelude.{◌≡◌, ◌<◌, List, [], ◌∷◌, length}
use Rattle.name_events.specs.declared.event.Event.{Event}
use Rattle.name_events.specs.declared.event.Event.TheVariants as e
use Rattle.name_events.specs.declared.declaration.Identified.{Identified}
use Rattle.name_events.specs.Known.{Known}
use Rattle.name_events.specs.KnownBehind.{known_behind}
use Rattle.name_events.specs.Identified.{number_declared}
use Rattle.settled_types.specs.OrderlyFiles.Numbered.{number_of_pos}
use Rattle.sound_files.specs.SeenFiles.Uses.{name_number}

abbrev pub IsFollowed : List Identified → Known → Event → Type 0
IsFollowed numbers now (e.Declares new id) = number_of_pos numbers id.pos ≡ number_declared now new id.name
IsFollowed numbers now (e.Mentions c name) = name_number numbers name < length now.declared
IsFollowed numbers now event = Unit {0}

-- So it is in all of these events.
abbrev pub AreFollowed : List Identified → Known → List Event → Type 0
AreFollowed numbers now [] = Unit {0}
AreFollowed numbers now (event ∷ rest) = IsFollowed numbers now event × AreFollowed numbers (known_behind now event) rest
