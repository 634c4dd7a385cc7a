-- Which types a type has in itself.
use Rattle.std.specs.Prelude.{◌≡◌, ℕ, Bool, true, false, ◌||◌, List, get_or, nat_eq, slice_get}
use Rattle.type_definitions.specs.Types.{Table, base, info, shape_found}
use Rattle.type_definitions.specs.Declarations.{holds_itself, holds_parent, holds_shape, some_within}

-- A type is this one, or has it in itself at a depth of at most n.
abbrev pub has : Table → ℕ → ℕ → ℕ → Bool
has table part n t = some_within n (λ t. nat_eq (base table t) part) table t

-- What a type is made of, or a subtype of, has it.
abbrev pub has_below : Table → ℕ → ℕ → ℕ → Bool
has_below table part n t =
    holds_shape (has table part n) (shape_found (slice_get table t)) || holds_parent (has table part n) (info table t).parent

-- These don't have themselves in them; of the first type that isn't said.
abbrev pub AreLone : Table → List Bool → Type 0
AreLone table marks = (d : ℕ) → (d ≡ 0 → ⊥) → get_or marks d false ≡ true → holds_itself table d ≡ false
