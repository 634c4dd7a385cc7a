-- Which declarations a name may reach, and what is told of the names of a text.
use Rattle.std.specs.Prelude.{◌≡◌, ◌⊎◌, ◌<◌, ◌≤◌, ℕ, Bool, true, false, List, [], ◌∷◌, slice_get, unwrap_or, Some}
use Rattle.machine.specs.spark_base.Lists.{Has}
use Rattle.name_events.specs.declared.event.Event.{Event}
use Rattle.name_events.specs.declared.event.Event.TheVariants as e
use Rattle.name_events.specs.declared.declaration.DeclarationForm.{DeclarationForm}
use Rattle.name_events.specs.declared.declaration.DeclarationForm.TheVariants as form
use Rattle.name_events.specs.declared.declaration.OpenRegion.{OpenRegion}
use Rattle.name_events.specs.Declarations.{Entry, is_package}
use Rattle.name_events.specs.Known.{Known, here}
use Rattle.name_events.specs.KnownBehind.{known_behind}
use Rattle.name_events.specs.Identified.{number_at, number_declared}
use Rattle.expression_lowering.specs.LoweredExpressions.{Numbers}
use Rattle.sound_files.specs.SeenFiles.Uses.{name_number}

-- ---- objects

abbrev pub is_object_form : DeclarationForm → Bool
is_object_form form.Object = true
is_object_form form.Formal = true
is_object_form form.LoopParameter = true
is_object_form _ = false

abbrev pub is_object : Entry → Bool
is_object x = is_object_form x.1.form

-- A declaration of an object has this number.
abbrev pub IsObjectIn : Known → ℕ → Type 0
IsObjectIn whole n = (x : Entry) × (slice_get whole.declared n ≡ Some x) × (is_object x ≡ true)

-- ---- regions

abbrev pub IsOpen : Known → ℕ → Type 0
IsOpen now r = (o : OpenRegion) × Has now.open_regions o × (o.region ≡ r)

abbrev pub IsPackageRegion : Known → ℕ → Type 0
IsPackageRegion now r = (h : Entry) × Has now.ended h × (is_package h.1 ≡ true) × (h.1.own_region ≡ r)

-- A name may denote what stands in this region: it is that of library units, an enclosing one, or a package's.
abbrev pub IsReached : Known → ℕ → Type 0
IsReached now r = (r ≡ 0) ⊎ (IsOpen now r ⊎ IsPackageRegion now r)

-- ---- what is told of events

-- A name denotes a declaration that ended before, in a region that it reaches. An identifier that is declared has
-- the number of its declaration.
abbrev pub IsTold : Numbers → Known → Known → Event → Type 0
IsTold numbers whole now (e.Mentions c name) =
    (x : Entry) × Has now.ended x × IsReached now x.1.region × (name_number numbers name ≡ x.1.number)
    × (slice_get whole.declared x.1.number ≡ Some x)
IsTold numbers whole now (e.Declares new id) =
    (unwrap_or (number_at numbers id.pos) 0 ≡ number_declared now new id.name)
    × (is_object_form new ≡ true → IsObjectIn whole (unwrap_or (number_at numbers id.pos) 0))
IsTold numbers whole now event = Unit {0}

abbrev pub AreTold : Numbers → Known → Known → List Event → Type 0
AreTold numbers whole now [] = Unit {0}
AreTold numbers whole now (event ∷ rest) = IsTold numbers whole now event × AreTold numbers whole (known_behind now event) rest

-- ---- what is known at a place in the text

-- What a name may denote of objects is in scope; those that are declared and haven't ended wait here.
pub record IsAt (now : Known) (scope waiting : List ℕ) : Type 0 where
  pub some : 0 < now.region_count
  pub around : (o : OpenRegion) → Has now.open_regions o → o.region < now.region_count
  pub packages : (h : Entry) → Has now.ended h → is_package h.1 ≡ true → h.1.own_region < now.region_count
  pub low : (x : Entry) → Has now.ended x → is_object x ≡ true → x.1.region < now.region_count
  pub seen : (x : Entry) → Has now.ended x → is_object x ≡ true → IsReached now x.1.region → Has scope x.1.number
  pub waits : (x : Entry) → Has now.pending x → is_object x ≡ true → Has waiting x.1.number × (x.1.region ≡ here now)
  pub still : (x : Entry) → Has now.pending x → is_package x.1 ≡ true → ⊥

-- From one place to a later one with the same regions around it: objects have ended here, or in new regions, and
-- no package has.
pub record IsSince (now after : Known) : Type 0 where
  pub ended : (x : Entry) → Has after.ended x → is_object x ≡ true
      → Has now.ended x ⊎ ((now.region_count ≤ x.1.region) ⊎ (x.1.region ≡ here now))
  pub packages : (h : Entry) → Has after.ended h → is_package h.1 ≡ true → Has now.ended h
  pub count : now.region_count ≤ after.region_count
  pub around : after.open_regions ≡ now.open_regions
