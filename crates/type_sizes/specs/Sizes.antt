-- What types are made of, by those that they are made of.
use Rattle.std.specs.Prelude.{◌≡◌, ◌≤◌, ℕ, not, List, length, get_or, IsTrue}
use Rattle.place_names.specs.declared.selector.Sel.{Sel}
use Rattle.type_definitions.specs.declared.table.Shape.{Shape}
use Rattle.type_definitions.specs.Types.{Table, is_nil, words_of, words_within, parts_of, parts_within}
use Rattle.type_definitions.specs.Whole.{all_short}
use Rattle.type_table.specs.declared.table.TypeSize.{TypeSize}
use Rattle.type_table.specs.Sizes.{no_size}
use Rattle.type_settled.specs.Orders.{is_done}
use Rattle.type_sizes.specs.declared.sizes.Sizes.{Sizes}

-- A type is owning where it has an access part.
abbrev pub size_with : ℕ → List (List Sel) → TypeSize
size_with words parts = record { words = words; owning = not (is_nil parts); parts = parts }

-- The size of a type, at a depth of at most n.
abbrev pub sized : ℕ → Table → ℕ → TypeSize
sized n table t = size_with (words_within n table t) (parts_within n table t)

abbrev pub words_in : List TypeSize → ℕ → ℕ
words_in sizes t = (get_or sizes t no_size).words

abbrev pub parts_in : List TypeSize → ℕ → List (List Sel)
parts_in sizes t = (get_or sizes t no_size).parts

-- The size of a definition, where those of its parts are these.
abbrev pub shape_size : List TypeSize → Shape → TypeSize
shape_size sizes s = size_with (words_of (words_in sizes) s) (parts_of (parts_in sizes) s)

-- It is within the limits.
pub record IsSmall (sizes : List TypeSize) (s : Shape) : Type 0 where
  pub few_words : words_of (words_in sizes) s ≤ 65536
  pub short_parts : IsTrue (all_short (parts_of (parts_in sizes) s))

-- The size of a type that is done is right at the depth so far, and at any greater one.
pub record IsSized (table : Table) (sizes : Sizes) : Type 0 where
  pub values_length : length sizes.values.items ≡ length table
  pub done_length : length sizes.done.items ≡ length table
  pub within : sizes.depth ≤ length table
  pub right : (t n : ℕ) → sizes.depth ≤ n → IsTrue (is_done sizes.done.items t)
      → get_or sizes.values.items t no_size ≡ sized n table t
