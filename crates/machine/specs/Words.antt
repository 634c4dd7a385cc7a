-- The words of a run: what stands in one, how the words of a type lie, and which values a type has
-- (docs/RUN.md, "Words").
use Rattle.std.specs.Prelude.{ℕ, zero, suc, ◌+◌, Bool, true, ◌&&◌, List, [], ◌∷◌, ◌++◌, map, flat_map, take, get_or, sum, nat_eq, nat_le, ℤ, pos, int_le, if◌then◌else◌}
use Rattle.flow_paths.specs.place_names.declared.selector.Sel.{Sel}
use Rattle.flow_paths.specs.place_names.declared.selector.Sel.TheVariants as sel
use Rattle.flow_paths.specs.type_definitions.declared.table.Component.{Component}
use Rattle.flow_paths.specs.type_definitions.declared.table.Shape.{Shape}
use Rattle.flow_paths.specs.type_definitions.declared.table.Shape.TheVariants as shape
use Rattle.flow_paths.specs.type_definitions.declared.judgement.View.{View}
use Rattle.flow_paths.specs.type_definitions.declared.judgement.View.TheVariants as view
use Rattle.flow_paths.specs.type_definitions.Types.{Table, shape_found, shape_of, full, fields, span, words, parts}
use Rattle.std.specs.Prelude.{slice_get, length}
use Rattle.flow_paths.specs.type_definitions.Entries.{integer}

-- What stands in a word: a value of Integer, one of an enumeration by its position, or an access
-- value, which is null or the number of a cell.
pub data Word : Type 0 where
  Int : ℤ → Word
  Enumerated : ℕ → Word
  Null : Word
  Cell : ℕ → Word

-- ---- objects without a value

abbrev pub repeated : ℕ → List Word → List Word
repeated zero ws = []
repeated (suc n) ws = ws ++ repeated n ws

-- The words of an object without a value, from those of the types that its type is made of: null of
-- an access type, the first value of a scalar subtype, 0 of Integer itself.
abbrev pub default_of : (ℕ → List Word) → ℕ → Shape → List Word
default_of defaults t (shape.Whole low high) = Int (if nat_eq t integer then pos 0 else low) ∷ []
default_of defaults t (shape.Listed literals low high) = Enumerated low ∷ []
default_of defaults t (shape.Access designated constant named) = Null ∷ []
default_of defaults t (shape.Fields components) = flat_map (λ (c : Component). defaults c.of) components
default_of defaults t (shape.Elements low high element) = repeated (span low high) (defaults element)
default_of defaults t (shape.Same of) = defaults of

unfoldable pub default_within : ℕ → Table → ℕ → List Word
default_within zero table t = []
default_within (suc n) table t = default_of (default_within n table) t (shape_found (slice_get table t))

unfoldable pub default : Table → ℕ → List Word
default table t = default_within (length table) table t

-- ---- parts

abbrev pub no_component : Component
no_component = record { name = []; of = integer }

abbrev pub component_type : Table → ℕ → ℕ → ℕ
component_type table t i = (get_or (fields table t) i no_component).of

-- The words that stand before a component.
abbrev pub words_before : Table → ℕ → ℕ → ℕ
words_before table t i = sum (map (λ (c : Component). words table c.of) (take i (fields table t)))

-- The type of the elements of an array, and how many it has.
abbrev pub element_of : Shape → ℕ
element_of (shape.Elements low high element) = element
element_of _ = integer

abbrev pub count_of : Shape → ℕ
count_of (shape.Elements low high element) = span low high
count_of _ = 0

abbrev pub element_type : Table → ℕ → ℕ
element_type table t = element_of (shape_of table t)

abbrev pub element_count : Table → ℕ → ℕ
element_count table t = count_of (shape_of table t)

-- The same offsets in each of so many elements, which have so many words and begin at `at`.
abbrev pub in_each : ℕ → ℕ → ℕ → List ℕ → List ℕ
in_each zero size at offsets = []
in_each (suc n) size at offsets = map (λ o. at + o) offsets ++ in_each n size (at + size) offsets

-- At which words of a type a part of it stands, in the order of the indexes.
unfoldable pub offsets : Table → ℕ → List Sel → List ℕ
offsets table t [] = 0 ∷ []
offsets table t (sel.Field i ∷ part) =
    map (λ o. words_before table t i + o) (offsets table (component_type table t i) part)
offsets table t (sel.Elem ∷ part) =
    in_each (element_count table t) (words table (element_type table t)) 0 (offsets table (element_type table t) part)
offsets table t (sel.Deref ∷ part) = []

-- Those of all access parts of a type, part by part.
abbrev pub access_offsets : Table → ℕ → List ℕ
access_offsets table t = flat_map (offsets table t) (parts table t)

-- ---- values of a subtype

abbrev pub within_view : View → Word → Bool
within_view (view.Whole low high) (Int v) = int_le low v && int_le v high
within_view (view.Listed low high) (Enumerated v) = nat_le low v && nat_le v high
within_view _ w = true

-- The words are a value of the type: one of a scalar subtype lies within its bounds.
abbrev pub are_within : View → List Word → Bool
are_within v (w ∷ []) = within_view v w
are_within v _ = true

abbrev pub fits_type : Table → ℕ → List Word → Bool
fits_type table t ws = are_within (full table t) ws
