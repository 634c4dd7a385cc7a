-- Which declaration each identifier has that uses, makes or completes one, by the position of the
-- identifier (docs/LANGUAGE.md, "Names"; Ada 2012, 3.11.1, 7.2, 8.2 to 8.4).
--
-- `now` is what is known before the identifier, and `whole` what is known after the whole text.
use Rattle.std.specs.Prelude.{ℕ, Bool, ◌&&◌, if◌then◌else◌, nat_eq, List, [], ◌∷◌, ◌++◌, length, Option, None, Some}
use Rattle.std.specs.List.{flat_map}
use Rattle.spark_base.specs.declared.position.Pos.{Pos}
use Rattle.name_events.specs.declared.event.FoldedIdentifier.{FoldedIdentifier}
use Rattle.name_events.specs.declared.event.Event.{Event}
use Rattle.name_events.specs.declared.event.Event.TheVariants as e
use Rattle.name_events.specs.declared.declaration.DeclarationForm.{DeclarationForm}
use Rattle.name_events.specs.declared.declaration.Declaration.{Declaration}
use Rattle.name_events.specs.declared.declaration.Meaning.{Meaning}
use Rattle.name_events.specs.declared.declaration.Meaning.TheVariants.{Denotes, Breaks}
use Rattle.name_events.specs.declared.declaration.Identified.{Identified}
use Rattle.name_events.specs.Outline.{source_events}
use Rattle.name_events.specs.Declarations.{Name}
use Rattle.name_events.specs.Known.{Known, source_package}
use Rattle.name_events.specs.Completions.{completed_by}
use Rattle.name_events.specs.KnownBehind.{known_behind, known_at_first}
use Rattle.name_events.specs.Denotes.{occurrences, Files, known_of}

-- ---- an identifier that declares

-- That of the declaration which it completes; else it makes the next one.
abbrev pub completed_or_next : Known → Option Declaration → ℕ
completed_or_next now None = length now.declared
completed_or_next now (Some completed) = completed.number

-- The number of the declaration that an identifier declares here.
abbrev pub number_declared : Known → DeclarationForm → Name → ℕ
number_declared now declared_as w = completed_or_next now (completed_by now declared_as w)

-- ---- an event

abbrev pub identified_as : FoldedIdentifier → ℕ → Identified
identified_as id number = record { pos = id.pos; number = number }

-- An occurrence has the declaration that it denotes.
abbrev pub identified_use : FoldedIdentifier × Meaning → List Identified
identified_use (id, Denotes d) = identified_as id d.number ∷ []
identified_use (id, Breaks rule) = []

-- The identifier of a package body has the package whose region goes on.
abbrev pub identified_body : FoldedIdentifier → Option Declaration → List Identified
identified_body id None = []
identified_body id (Some d) = identified_as id d.number ∷ []

unfoldable pub identified_at : Known → Known → Event → List Identified
identified_at whole now (e.Mentions c name) = flat_map identified_use (occurrences whole now name)
identified_at whole now (e.Declares declared_as id) = identified_as id (number_declared now declared_as id.name) ∷ []
identified_at whole now (e.PackageBodyOpens id) = identified_body id (source_package now.ended id.name)
identified_at whole now _ = []

-- ---- a text

unfoldable pub identified_from : Known → Known → List Event → List Identified
identified_from whole now [] = []
identified_from whole now (event ∷ rest) = identified_at whole now event ++ identified_from whole (known_behind now event) rest

-- The identifiers of these files, in the order of the text.
unfoldable pub identified : Files → List Identified
identified files = identified_from (known_of files) known_at_first (source_events files)

-- ---- by position

abbrev pub same_position : Pos → Pos → Bool
same_position a b = nat_eq a.file b.file && (nat_eq a.line b.line && nat_eq a.column b.column)

-- The number of the first one with that position.
abbrev pub number_at : List Identified → Pos → Option ℕ
number_at [] pos = None
number_at (item ∷ rest) pos = if same_position item.pos pos then Some item.number else number_at rest pos
