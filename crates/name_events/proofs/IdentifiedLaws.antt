-- The numbers of the identifiers in names that are used are those that `denotes` has.
use Rattle.std.proofs.Common.{◌≡◌, refl, ap, sym, ◌∙◌, true, if◌then◌else◌, List, [], ◌∷◌, ◌++◌, map}
use Rattle.std.specs.List.{flat_map}
use Rattle.std.proofs.lemmas.List.{append-nil, map-append}
use Rattle.std.proofs.lemmas.List.Concat.{flat_map-append}
use Rattle.name_events.specs.declared.event.Event.{Event}
use Rattle.name_events.specs.declared.event.Event.TheVariants as e
use Rattle.name_events.specs.declared.event.FoldedIdentifier.{FoldedIdentifier}
use Rattle.name_events.specs.declared.declaration.Meaning.{Meaning}
use Rattle.name_events.specs.declared.declaration.Meaning.TheVariants.{Denotes, Breaks}
use Rattle.name_events.specs.Outline.{source_events}
use Rattle.name_events.specs.Known.{Known}
use Rattle.name_events.specs.KnownBehind.{known_behind, known_at_first}
use Rattle.name_events.specs.Denotes.{Files, denotes, known_of, mentioned, mentioned_at, mentioned_from, number_denoted, occurrences}
use Rattle.name_events.specs.Identified.{identified_use, identified_at, identified_from}
use Rattle.name_events.specs.Laws.{identified_uses, identified_where, is_mention}

numbers_used : (occurring : List (FoldedIdentifier × Meaning))
    → map (λ item. item.number) (flat_map identified_use occurring) ≡ flat_map number_denoted occurring
numbers_used [] = refl
numbers_used ((id, Denotes d) ∷ rest) = ap (λ ns. d.number ∷ ns) (numbers_used rest)
numbers_used ((id, Breaks rule) ∷ rest) = numbers_used rest

numbers_at : (whole now : Known) (event : Event)
    → map (λ item. item.number) (if is_mention event then identified_at whole now event else [])
    ≡ flat_map (λ ns. ns) (mentioned_at whole now event)
unfolding identified_at mentioned_at
numbers_at whole now (e.UnitBegins body_of) = refl
numbers_at whole now (e.UnitHasWith name) = refl
numbers_at whole now (e.Mentions c name) =
    numbers_used (occurrences whole now name) ∙ sym (append-nil (flat_map number_denoted (occurrences whole now name)))
numbers_at whole now e.UseClauseEnds = refl
numbers_at whole now (e.Declares declared_as id) = refl
numbers_at whole now e.DeclarationsEnd = refl
numbers_at whole now e.OuterDeclarationsEnd = refl
numbers_at whole now e.RegionOpens = refl
numbers_at whole now (e.PackageBodyOpens id) = refl
numbers_at whole now e.PrivatePartBegins = refl
numbers_at whole now e.RegionCloses = refl
numbers_at whole now e.RecordBegins = refl
numbers_at whole now (e.DeclaresComponent id) = refl
numbers_at whole now (e.EndsWithName id expected) = refl

numbers_from : (whole now : Known) (events : List Event)
    → map (λ item. item.number) (identified_where is_mention whole now events)
    ≡ flat_map (λ ns. ns) (mentioned_from whole now events)
unfolding identified_where mentioned_from
numbers_from whole now [] = refl
numbers_from whole now (event ∷ rest) =
    map-append (λ item. item.number) (if is_mention event then identified_at whole now event else [])
    (identified_where is_mention whole (known_behind now event) rest)
    ∙ (λ j. numbers_at whole now event j ++ numbers_from whole (known_behind now event) rest j)
    ∙ sym (flat_map-append (λ ns. ns) (mentioned_at whole now event) (mentioned_from whole (known_behind now event) rest))

pub uses_denote : (files : Files) → map (λ item. item.number) (identified_uses files) ≡ denotes files
unfolding identified_uses denotes mentioned
uses_denote files = numbers_from (known_of files) known_at_first (source_events files)

-- The identifiers of all events are all identifiers.
pub all_identified : (whole now : Known) (events : List Event)
    → identified_where (λ event. true) whole now events ≡ identified_from whole now events
unfolding identified_where identified_from
all_identified whole now [] = refl
all_identified whole now (event ∷ rest) =
    ap (λ items. identified_at whole now event ++ items) (all_identified whole (known_behind now event) rest)
