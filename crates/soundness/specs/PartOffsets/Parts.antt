-- Parts of a type along steps, and where they stand among its words.
use Rattle.std.specs.Prelude.{◌≡◌, ℕ, ◌+◌, ◌*◌, Bool, true, false, ◌&&◌, List, [], ◌∷◌, ◌++◌, length, nat_lt}
use Rattle.machine.specs.place_names.declared.selector.Sel.{Sel}
use Rattle.machine.specs.type_definitions.declared.table.Shape.{Shape}
use Rattle.machine.specs.type_definitions.declared.table.Shape.TheVariants as shape
use Rattle.machine.specs.type_definitions.Types.{Table, shape_of, fields, words, words_of, parts, parts_of}
use Rattle.soundness.specs.OwnedWays.Ways.{Step, Component, Element, sel_of}
use Rattle.machine.specs.Words.{words_before, component_type, element_type, element_count}

-- The last step stands first.
abbrev pub type_in : Table → ℕ → List Step → ℕ
type_in table t [] = t
type_in table t (Component i ∷ p) = component_type table (type_in table t p) i
type_in table t (Element n ∷ p) = element_type table (type_in table t p)

abbrev pub offset_in : Table → ℕ → List Step → ℕ
offset_in table t [] = 0
offset_in table t (Component i ∷ p) = offset_in table t p + words_before table (type_in table t p) i
offset_in table t (Element n ∷ p) = offset_in table t p + n * words table (element_type table (type_in table t p))

-- There is such a part.
abbrev pub has_part : Table → ℕ → List Step → Bool
has_part table t [] = true
has_part table t (Component i ∷ p) = has_part table t p && nat_lt i (length (fields table (type_in table t p)))
has_part table t (Element n ∷ p) = has_part table t p && nat_lt n (element_count table (type_in table t p))

-- A word of such a type owns what it holds the number of. (Types of access to constants will not.)
abbrev pub owns_one : Shape → Bool
owns_one (shape.Access designated constant named) = named
owns_one _ = false

abbrev pub is_leaf : Table → ℕ → List Step → Bool
is_leaf table t p = has_part table t p && owns_one (shape_of table (type_in table t p))

-- The selectors of some steps, the first one first.
abbrev pub sels_along : List Step → List Sel
sels_along [] = []
sels_along (i ∷ p) = sels_along p ++ sel_of i ∷ []

-- The words and the parts of a type are made of those of the types in it, and no type stands for
-- one that stands for another one.
pub record IsSettled (table : Table) : Type 0 where
  pub word_law : (t : ℕ) → words table t ≡ words_of (words table) (shape_of table t)
  pub part_law : (t : ℕ) → parts table t ≡ parts_of (parts table) (shape_of table t)
  pub plain : (t of : ℕ) → shape_of table t ≡ shape.Same of → ⊥
