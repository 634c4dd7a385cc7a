-- What is known of profiles, and of the rows of numbers without a name.
use Rattle.std.specs.Prelude.{◌≡◌, ◌⊎◌, ℕ, Bool, true, false, [], Option, slice_get}
use Rattle.machine.specs.resolved_tree.declared.node.Mark.{Mark}
use Rattle.machine.specs.resolved_tree.Trees.{Code}
use Rattle.machine.specs.type_definitions.declared.table.Info.{Info}
use Rattle.machine.specs.type_definitions.declared.table.Shape.TheVariants as shape
use Rattle.machine.specs.type_definitions.declared.table.Entry.{Entry}
use Rattle.machine.specs.type_definitions.declared.table.Entry.TheVariants as entry
use Rattle.machine.specs.type_definitions.declared.table.Known.{Known}
use Rattle.machine.specs.type_definitions.declared.table.Profile.{Profile}
use Rattle.machine.specs.type_definitions.Types.{base_found, shape_found}
use Rattle.machine.specs.type_definitions.Entries.{entry_of, is_type, marked}
use Rattle.machine.specs.type_definitions.Gathered.{front_number, profile}

-- A profile is that of a front with this number, by what was known where the front stands. Marks denoted types with
-- names there.
pub record IsProfile (named : ℕ → Type 0) (front : Code → Type 0) (d : ℕ) (q : Profile) : Type 0 where
  pub known : Known
  pub code : Code
  pub told : front code
  pub number : front_number code ≡ d
  pub marks : (m : Mark) → named (marked known m)
  pub same : q ≡ profile known code

abbrev pub IsProfileEntry : (ℕ → Type 0) → (Code → Type 0) → ℕ → Entry → Type 0
IsProfileEntry named front d (entry.Subprogram q) = IsProfile named front d q
IsProfileEntry named front d e = Unit {0}

-- The row of a number without a name: there is no type, or it is an anonymous access type, based on itself.
abbrev pub IsUnnamed : ℕ → Option Info → Type 0
IsUnnamed t o =
    (shape_found o ≡ shape.Fields [])
    ⊎ ((base_found o ≡ t) × (to : ℕ) × (constant : Bool) × (shape_found o ≡ shape.Access to constant false))

-- Types have names; profiles are those of fronts; and all other rows are as those of numbers without a name.
pub record AreShown (named : ℕ → Type 0) (front : Code → Type 0) (known : Known) : Type 0 where
  pub types : (d : ℕ) → is_type (entry_of known d) ≡ true → named d
  pub profiles : (d : ℕ) → IsProfileEntry named front d (entry_of known d)
  pub rows : (t : ℕ) → (named t → ⊥) → IsUnnamed t (slice_get known.table t)
