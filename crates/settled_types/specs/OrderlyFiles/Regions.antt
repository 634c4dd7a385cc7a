-- What is always known of the declarations and the regions of a text, whatever rules of names it breaks.
use Rattle.std.specs.Prelude.{◌≡◌, ◌⊎◌, ◌<◌, ◌≤◌, ℕ, true, false, length, slice_get, Some}
use Rattle.machine.specs.spark_base.Lists.{Has}
use Rattle.name_events.specs.declared.declaration.DeclarationForm.TheVariants as form
use Rattle.name_events.specs.declared.declaration.RegionPart.TheVariants as part
use Rattle.name_events.specs.declared.declaration.OpenRegion.{OpenRegion}
use Rattle.name_events.specs.Declarations.{Entry, has_number, is_package, is_type_form}
use Rattle.name_events.specs.Known.{Known}
use Rattle.name_events.specs.Completions.{awaits}
use Rattle.settled_types.specs.Orderly.{Past}

-- The number of a declaration is its index. Declarations, open regions and packages have regions that
-- have begun.
pub record AreRegions (now : Known) : Type 0 where
  pub numbers : (i : ℕ) (e : Entry) → slice_get now.declared i ≡ Some e → e.1.number ≡ i
  pub many : 15 ≤ length now.declared
  -- none of the predefined declarations is completed
  pub late : (i : ℕ) (e : Entry) → slice_get now.declared i ≡ Some e → awaits e.1.form ≡ true → 15 ≤ i
  pub some : 0 < now.region_count
  pub regions : (i : ℕ) (e : Entry) → slice_get now.declared i ≡ Some e → e.1.region < now.region_count
  pub around : (r : OpenRegion) → Has now.open_regions r → r.region < now.region_count
  pub pending : (e : Entry) → Has now.pending e → is_package e.1 ≡ true → e.1.own_region < now.region_count
  pub ended : (e : Entry) → Has now.ended e → is_package e.1 ≡ true → e.1.own_region < now.region_count

-- A declaration of a type, by its number.
abbrev pub IsTypeAt : Known → ℕ → Type 0
IsTypeAt now d = (15 ≤ d) × ((e : Entry) × (slice_get now.declared d ≡ Some e) × (is_type_form e.1.form ≡ true))

-- The types in the past are declarations of types. Each incomplete type that isn't completed stands
-- there.
pub record AreTypes (now : Known) (past : Past) : Type 0 where
  pub awaited : (d : ℕ) → Has past.awaited d → IsTypeAt now d
  pub defined : (d : ℕ) → Has past.defined d → (d ≡ 4) ⊎ IsTypeAt now d
  pub incomplete : (d : ℕ) (e : Entry) → slice_get now.declared d ≡ Some e → e.1.form ≡ form.IncompleteType
      → has_number d now.completed ≡ false → Has past.incomplete d

-- So does each private type of the visible part of a region that isn't completed.
abbrev pub HasPrivates : Known → Past → ℕ → Type 0
HasPrivates now past region =
    (d : ℕ) (e : Entry) → slice_get now.declared d ≡ Some e → e.1.form ≡ form.PrivateType → e.1.region ≡ region → e.1.part ≡ part.Visible
    → has_number d now.completed ≡ false → Has past.private d

-- What an event does that declares no type: it completes none either.
pub record IsQuiet (now after : Known) : Type 0 where
  pub kept : (i : ℕ) (e : Entry) → slice_get now.declared i ≡ Some e → slice_get after.declared i ≡ Some e
  pub new : (i : ℕ) (e : Entry) → slice_get after.declared i ≡ Some e → (slice_get now.declared i ≡ Some e) ⊎ (is_type_form e.1.form ≡ false)
  pub completed : (d : ℕ) → has_number d after.completed ≡ false → has_number d now.completed ≡ false
