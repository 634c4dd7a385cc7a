-- What the packages in use have of a name: nothing, one declaration, or several.
use Rattle.std.specs.Prelude.{◌≡◌, ℕ, Bool, true, false, if◌then◌else◌, nat_eq, fold, List, Option, None, Some}
use Rattle.name_events.specs.declared.declaration.Declaration.{Declaration}
use Rattle.name_events.specs.Declarations.{has_number}
use Rattle.name_resolve.specs.declared.sighting.Sighting.{Sighting}
use Rattle.name_resolve.specs.declared.sighting.Sighting.TheVariants.{Nothing, One, Several}
use Rattle.name_resolve.specs.declared.used.Holder.{Holder}
use Rattle.name_resolve.specs.declared.used.Holder.TheVariants as holder

-- What is found with one more declaration.
abbrev pub sighted : Sighting → Declaration → Sighting
sighted Nothing d = One d
sighted (One first) d = if nat_eq d.number first.number then One first else Several
sighted Several d = Several

abbrev pub sighted_all : Sighting → List Declaration → Sighting
sighted_all so_far ds = fold sighted so_far ds

abbrev pub the_one : Sighting → Option Declaration
the_one Nothing = None
the_one (One d) = Some d
the_one Several = None

abbrev pub is_any : Sighting → Bool
is_any Nothing = false
is_any _ = true

-- None of these regions is in use, only one is, or nothing is said.
abbrev pub OnlyUsed : (ℕ → Bool) → List ℕ → Holder → Type 0
OnlyUsed used regions holder.Nowhere = (region : ℕ) → has_number region regions ≡ true → used region ≡ false
OnlyUsed used regions (holder.Only one) =
    (used one ≡ true) × ((region : ℕ) → has_number region regions ≡ true → used region ≡ true → region ≡ one)
OnlyUsed used regions holder.Several = Unit {0}
