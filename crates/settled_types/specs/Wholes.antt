-- What it is that the words, the parts and the owning of each type are those of its whole definition.
use Rattle.std.specs.Prelude.{◌≡◌, ℕ, slice_get}
use Rattle.machine.specs.type_definitions.declared.table.Shape.{Shape}
use Rattle.machine.specs.type_definitions.declared.table.Shape.TheVariants as shape
use Rattle.machine.specs.type_definitions.Types.{Table, shape_found, shape_of, words, words_of, parts, parts_of, is_owning, owns_of}
use Rattle.type_settled.specs.Rings.{Inside}

-- The definition that stands in the table: that of a subtype without a constraint says what it is the same as.
abbrev pub written : Table → ℕ → Shape
written table t = shape_found (slice_get table t)

-- No type has itself in it, and what a subtype is the same as is no such subtype.
pub record AreFinite (table : Table) : Type 0 where
  pub lone : (t : ℕ) → Inside table t t → ⊥
  pub short : (t of on : ℕ) → written table t ≡ shape.Same of → written table of ≡ shape.Same on → ⊥

-- The three laws of `IsSettled`, and `OwnsByShape`.
pub record AreWhole (table : Table) : Type 0 where
  pub word_law : (t : ℕ) → words table t ≡ words_of (words table) (shape_of table t)
  pub part_law : (t : ℕ) → parts table t ≡ parts_of (parts table) (shape_of table t)
  pub own_law : (t : ℕ) → is_owning table t ≡ owns_of (is_owning table) (shape_of table t)
  pub plain : (t of : ℕ) → shape_of table t ≡ shape.Same of → ⊥
