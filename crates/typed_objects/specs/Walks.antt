-- What the walk through code that declares objects knows and adds.
use Rattle.std.specs.Prelude.{◌≡◌, ◌<◌, ℕ, List, [], ◌++◌, map, length, get_or, Option, Some, None}
use Rattle.resolved_tree.specs.Trees.{Code, Package}
use Rattle.resolved_tree.specs.Nodes.{Rows, code_at}
use Rattle.type_definitions.specs.Gathered.{declared_number, declared_text}
use Rattle.typed_tree.specs.Programs.{DeclaredObject, Home, objects_in, package_text}
use Rattle.typed_objects.specs.declared.declared_objects.DeclaredObjects.{DeclaredObjects}
use Rattle.typed_objects.specs.declared.walk.Walk.{Walk}

-- ---- packages

-- The identifier of a package, whose specification declares it there.
abbrev pub name_text : Rows → Option ℕ → List ℕ
name_text rows None = []
name_text rows (Some name) = declared_text (code_at rows name)

-- The number of the package that a unit specifies: 0 of another unit, whose number isn't asked for.
abbrev pub package_number : Code → ℕ
package_number (Package d visible hidden) = declared_number d
package_number _ = 0

-- The table has for each package the identifier in its specification.
pub record IsPackaged (rows : Rows) (units : List Code) (table : List (Option ℕ)) : Type 0 where
  pub there : (d name : ℕ) → get_or table d None ≡ Some name → name < length rows.1
  pub text : (d : ℕ) → name_text rows (get_or table d None) ≡ package_text units d

-- ---- the walk

abbrev pub units_of : Walk → List Code
units_of w = map (code_at w.rows.now) w.units.now

abbrev pub home_of : Walk → Option (List ℕ) → Home
home_of w identifier = record { known = w.known.now; identifier = identifier }

abbrev pub declared_in : Walk → Option (List ℕ) → ℕ → ℕ → ℕ → List DeclaredObject
declared_in w identifier a n code = objects_in (units_of w) (home_of w identifier) a n (code_at w.rows.now code)

abbrev pub IsReady : Walk → Type 0
IsReady w = IsPackaged w.rows.now (units_of w) w.packages.now

-- These objects were added.
abbrev pub Adds : DeclaredObjects → List DeclaredObject → DeclaredObjects → Type 0
Adds old added new =
    (new.objects ≡ old.objects ++ map (λ o. o.object) added)
    × (new.numbers ≡ old.numbers ++ map (λ o. o.number) added)
