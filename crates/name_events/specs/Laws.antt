-- What the definitions of visibility and of the first fault amount to, in the words of the rules
-- (docs/LANGUAGE.md, "Names").
--
-- The definitions before go from one event to the next. The laws here speak of the lists as they
-- stand, and `proofs/VisibilityLaws.antt`, `proofs/FaultLaws.antt` and `proofs/IdentifiedLaws.antt`
-- prove them.
use Rattle.std.specs.Prelude.{◌≡◌, ℕ, Bool, true, false, if◌then◌else◌, List, [], ◌∷◌, ◌++◌, None, Some, slice_get}
use Rattle.std.specs.List.{AllByRecursion}
use mathlib.Core.Logic.{◌⊎◌}
use Rattle.spark_base.specs.Lists.{Has}
use Rattle.name_events.specs.declared.event.Event.{Event}
use Rattle.name_events.specs.declared.event.Event.TheVariants as e
use Rattle.name_events.specs.declared.declaration.RegionPart.TheVariants as part
use Rattle.name_events.specs.declared.declaration.Declaration.{Declaration}
use Rattle.name_events.specs.declared.declaration.OpenRegion.{OpenRegion}
use Rattle.name_events.specs.declared.declaration.Identified.{Identified}
use Rattle.name_events.specs.Outline.{source_events}
use Rattle.name_events.specs.Declarations.{Name, Entry}
use Rattle.name_events.specs.Known.{Known}
use Rattle.name_events.specs.KnownBehind.{known_behind, known_behind_all, known_at_first}
use Rattle.name_events.specs.Denotes.{Files, known_of}
use Rattle.name_events.specs.Identified.{identified_at}
use Rattle.name_events.specs.Faults.{Fault, fault}

-- ---- visibility

-- It is a declaration of that name in that region.
abbrev pub IsOf : ℕ → Name → Entry → Type 0
IsOf region w entry = (entry.1.region ≡ region) × (entry.0 ≡ w)

-- None of these is a declaration of that name in that region.
abbrev pub IsNowhereIn : List Entry → ℕ → Name → Type 0
IsNowhereIn entries region w = AllByRecursion (λ entry. IsOf region w entry → ⊥) entries

-- It is a declaration of that name in that region, and no later one is.
pub record IsLastIn (entries : List Entry) (region : ℕ) (w : Name) (d : Declaration) : Type 0 where
  pub earlier : List Entry
  pub name : Name
  pub later : List Entry
  pub stands : entries ≡ earlier ++ (name, d) ∷ later
  pub is_of : IsOf region w (name, d)
  pub last : IsNowhereIn later region w

-- It has ended before and stands in an enclosing region; none of its name that has ended stands
-- later there, or further in.
pub record IsInnermost (now : Known) (w : Name) (d : Declaration) : Type 0 where
  pub further_in : List OpenRegion
  pub encloses : OpenRegion
  pub further_out : List OpenRegion
  pub around : now.open_regions ≡ further_in ++ encloses ∷ further_out
  pub last : IsLastIn now.ended encloses.region w d
  pub none_further_in : AllByRecursion (λ inner. IsNowhereIn now.ended inner.region w) further_in

-- No declaration of that name that has ended stands in an enclosing region.
abbrev pub IsInNoRegion : Known → Name → Type 0
IsInNoRegion now w = AllByRecursion (λ inner. IsNowhereIn now.ended inner.region w) now.open_regions

-- The package has a `use` in an enclosing region or in the context.
abbrev pub IsInUse : Known → ℕ → Type 0
IsInUse now n = (inner : OpenRegion) × Has now.open_regions inner × Has now.uses (inner.region, n)

-- It has ended before and stands in the visible part of a package in use; none of its name that has
-- ended stands later there.
pub record IsMember (now : Known) (w : Name) (d : Declaration) : Type 0 where
  pub number : ℕ
  pub in_use : IsInUse now number
  pub holder : Entry
  pub holds : slice_get now.declared number ≡ Some holder
  pub last : IsLastIn now.ended holder.1.own_region w d
  pub visible : d.part ≡ part.Visible

-- No enclosing region has the name, and all packages in use that have it in their visible part have
-- this declaration.
pub record IsByUse (now : Known) (w : Name) (d : Declaration) : Type 0 where
  pub in_no_region : IsInNoRegion now w
  pub member : IsMember now w d
  pub only : (other : Declaration) → IsMember now w other → other.number ≡ d.number

-- It has ended before and is the last of its name in the package. It stands in the visible part, or
-- this is within the body of the package.
pub record IsSelected (now : Known) (holder : Declaration) (w : Name) (d : Declaration) : Type 0 where
  pub last : IsLastIn now.ended holder.own_region w d
  pub reached : (d.part ≡ part.Visible) ⊎ ((now.in_own_body ≡ true) × (now.own_package ≡ Some holder.number))

-- ---- the first fault

-- The event breaks a rule, and none before it does.
pub record IsFirstFault (whole now : Known) (events : List Event) (found : Fault) : Type 0 where
  pub before : List Event
  pub event : Event
  pub behind : List Event
  pub splits : events ≡ before ++ event ∷ behind
  pub breaks : fault whole (known_behind_all now before) event ≡ Some found
  pub none_before : (front : List Event) (earlier : Event) (rest : List Event) → before ≡ front ++ earlier ∷ rest
      → fault whole (known_behind_all now front) earlier ≡ None

-- No event breaks a rule.
abbrev pub BreaksNothing : Known → Known → List Event → Type 0
BreaksNothing whole now events = (front : List Event) (event : Event) (rest : List Event) → events ≡ front ++ event ∷ rest
    → fault whole (known_behind_all now front) event ≡ None

-- ---- identifiers

abbrev pub is_mention : Event → Bool
is_mention (e.Mentions c name) = true
is_mention _ = false

-- The identifiers of those events that pass a test. Those of all events are `identified_from`.
unfoldable pub identified_where : (Event → Bool) → Known → Known → List Event → List Identified
identified_where test whole now [] = []
identified_where test whole now (event ∷ rest) =
    (if test event then identified_at whole now event else []) ++ identified_where test whole (known_behind now event) rest

-- The identifiers in the names that these files use. Their numbers are `denotes`.
unfoldable pub identified_uses : Files → List Identified
identified_uses files = identified_where is_mention (known_of files) known_at_first (source_events files)
