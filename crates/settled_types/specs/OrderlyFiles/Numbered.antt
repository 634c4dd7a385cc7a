-- Identifiers that are declared have the numbers of their declarations by position.
use Rattle.std.specs.Prelude.{◌≡◌, ◌<◌, ℕ, Bool, true, false, not, ◌&&◌, List, [], ◌∷◌, unwrap_or}
use Rattle.machine.specs.spark_base.declared.position.Pos.{Pos}
use Rattle.name_events.specs.declared.event.Event.{Event}
use Rattle.name_events.specs.declared.event.Event.TheVariants as e
use Rattle.name_events.specs.declared.declaration.DeclarationForm.TheVariants as form
use Rattle.name_events.specs.declared.declaration.Identified.{Identified}
use Rattle.name_events.specs.Declarations.{is_type_form}
use Rattle.name_events.specs.Known.{Known}
use Rattle.name_events.specs.KnownBehind.{known_behind}
use Rattle.name_events.specs.Identified.{number_at, number_declared}
use Rattle.settled_types.specs.Orderly.{Past, IsNew}

abbrev pub number_of_pos : List Identified → Pos → ℕ
number_of_pos numbers pos = unwrap_or (number_at numbers pos) 0

abbrev pub IsNumbered : ℕ → List Identified → Known → Event → Type 0
IsNumbered count numbers now (e.Declares new id) =
    (number_of_pos numbers id.pos ≡ number_declared now new id.name) × (number_declared now new id.name < count)
IsNumbered count numbers now _ = Unit {0}

-- So do those of all events.
abbrev pub AreNumbered : ℕ → List Identified → Known → List Event → Type 0
AreNumbered count numbers now [] = Unit {0}
AreNumbered count numbers now (event ∷ rest) = IsNumbered count numbers now event × AreNumbered count numbers (known_behind now event) rest

-- Events that declare no type and no package.
abbrev pub is_quiet : Event → Bool
is_quiet (e.Declares form.Package id) = false
is_quiet (e.Declares new id) = not (is_type_form new)
is_quiet _ = true

abbrev pub all_quiet : List Event → Bool
all_quiet [] = true
all_quiet (event ∷ rest) = is_quiet event && all_quiet rest

-- Events that open and close no region.
abbrev pub is_flat : Event → Bool
is_flat (e.UnitBegins body_of) = false
is_flat e.RegionOpens = false
is_flat (e.PackageBodyOpens id) = false
is_flat e.PrivatePartBegins = false
is_flat e.RegionCloses = false
is_flat _ = true

abbrev pub all_flat : List Event → Bool
all_flat [] = true
all_flat (event ∷ rest) = is_flat event && all_flat rest

-- What these events declare has new numbers.
abbrev pub IsNewAt : ℕ → List Identified → Past → Event → Type 0
IsNewAt count numbers past (e.Declares new id) = IsNew count (number_of_pos numbers id.pos) past
IsNewAt count numbers past _ = Unit {0}

abbrev pub AreNewAt : ℕ → List Identified → Past → List Event → Type 0
AreNewAt count numbers past [] = Unit {0}
AreNewAt count numbers past (event ∷ rest) = IsNewAt count numbers past event × AreNewAt count numbers past rest

-- Events that do neither: names that are used, and declarations of something else than types and packages.
abbrev pub are_mild : List Event → Bool
are_mild [] = true
are_mild (event ∷ rest) = (is_quiet event && is_flat event) && are_mild rest
