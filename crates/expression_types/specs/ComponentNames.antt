-- What indexes of the names of components find.
use Rattle.std.specs.Prelude.{◌≡◌, ◌≢◌, ℕ, List, slice_get, Option, Some}
use Rattle.std.specs.List.{position_or_len}
use Rattle.type_definitions.specs.declared.table.Component.{Component}
use Rattle.type_definitions.specs.Types.{Table, components_of, shape_found}
use Rattle.type_definitions.specs.Entries.{same_word}
use Rattle.expression_types.specs.Occurrences.{Entries, Indexes, component_names}

-- The number of the first component with an identifier, or how many there are.
abbrev pub component_number : List ℕ → List Component → ℕ
component_number w components = position_or_len (λ k. same_word w k.name) components

-- The components in the definition of a type.
abbrev pub own_components : Table → ℕ → List Component
own_components table t = components_of (shape_found (slice_get table t))

-- Each index is that of the components of its type.
abbrev pub FindAllComponents : List (Option Entries) → Table → Type 0
FindAllComponents indexes table =
    (t : ℕ) (index : Entries) → slice_get indexes t ≡ Some (Some index) → Indexes index (component_names (own_components table t))

-- Two tables whose types have the same components, but for one type.
abbrev pub SameBut : ℕ → Table → Table → Type 0
SameBut t before after = (n : ℕ) → (n ≢ t) → own_components before n ≡ own_components after n
