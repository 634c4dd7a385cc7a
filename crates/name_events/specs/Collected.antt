-- What is added to the events that are collected.
use Rattle.std.specs.Prelude.{◌≡◌, true, false, List, [], ◌∷◌, ◌++◌, Result, Ok, Err}
use Rattle.name_events.specs.declared.event.Event.{Event}
use Rattle.name_events.specs.declared.event_list.EventList.{EventList}

-- Where memory isn't out after a call, it wasn't before, and the call added these events.
abbrev pub Adds : EventList → EventList → List Event → Type 0
Adds before behind new = behind.failed ≡ false → (before.failed ≡ false) × (behind.events ≡ before.events ++ new)

-- The same in the midst of a loop: what was added, and what is left to add, are all these events.
abbrev pub Adding : EventList → EventList → List Event → List Event → Type 0
Adding before now left all = now.failed ≡ false → (before.failed ≡ false) × (now.events ++ left ≡ before.events ++ all)

-- One event is added, where memory gave it.
abbrev pub AddsMade : {E : Type 0} → Result Event E → EventList → EventList → Type 0
AddsMade (Ok event) before behind = Adds before behind (event ∷ [])
AddsMade (Err fault) before behind = behind.failed ≡ true
