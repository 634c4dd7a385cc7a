-- The events of files are followed: what `seen_files` tells of them says so.
use Rattle.std.proofs.Common.{◌≡◌, ◌<◌, List, [], ◌∷◌, refl, arith, length, None}
use Rattle.std.proofs.lemmas.Option.{slice_get_within}
use Rattle.name_events.specs.declared.event.Event.{Event}
use Rattle.name_events.specs.declared.event.Event.TheVariants as e
use Rattle.name_events.specs.Outline.{source_events}
use Rattle.name_events.specs.Known.{Known}
use Rattle.name_events.specs.KnownBehind.{known_behind, known_at_first}
use Rattle.name_events.specs.Denotes.{Files, known_of}
use Rattle.name_events.specs.Identified.{identified}
use Rattle.name_events.specs.Faults.{name_fault}
use Rattle.expression_lowering.specs.LoweredExpressions.{Numbers}
use Rattle.settled_types.specs.FilePositions.Order.{Ascends, event_positions}
use Rattle.sound_files.specs.SeenFiles.Reached.{AreTold}
use Rattle.sound_files.proofs.SeenFiles.Held.{IsHeld, held_behind}
use Rattle.sound_files.proofs.SeenFiles.Told.{told_from}
use Rattle.sound_files.proofs.SeenFiles.Files.{first_held}
use Rattle.sound_files.specs.MeantFiles.Followed.{AreFollowed}

module _ (numbers : Numbers) (whole : Known) where
  followed_all : (events : List Event) (now : Known) → IsHeld now → AreTold numbers whole now events → AreFollowed numbers now events
  followed_all [] now held told = tt
  followed_all (e.Declares new id ∷ rest) now held told =
      (told.0.0, followed_all rest (known_behind now (e.Declares new id)) (held_behind now (e.Declares new id) held) told.1)
  followed_all (e.Mentions c name ∷ rest) now held told =
      let x = told.0.0 in
      let number = told.0.3 in
      let low : x.1.number < length now.declared = slice_get_within now.declared x.1.number x (held.ended x told.0.1) in
      (omega (arith, number, low), followed_all rest (known_behind now (e.Mentions c name)) (held_behind now (e.Mentions c name) held) told.1)
  followed_all (event ∷ rest) now held told = (tt, followed_all rest (known_behind now event) (held_behind now event held) told.1)

-- So it is in files without a fault of names whose positions ascend.
pub files_followed : (files : Files) → Ascends (event_positions (source_events files)) → name_fault files ≡ None
    → AreFollowed (identified files) known_at_first (source_events files)
unfolding known_of identified name_fault
files_followed files up none =
    followed_all (identified files) (known_of files) (source_events files) known_at_first first_held
    (told_from (known_of files) (identified files) (source_events files) known_at_first [] first_held refl refl (λ x has p is. absurd has) up none)
