-- The sorts of the words of types, by their definitions.
use Rattle.std.specs.Prelude.{◌≡◌, ◌≤◌, ℕ, Bool, List, length, slice_get, IsTrue}
use Rattle.type_definitions.specs.Types.{Table, shape_found}
use Rattle.type_settled.specs.Orders.{is_done}
use Rattle.machine.specs.Typed.{sorts, sorts_of, sorts_within}

-- The words of each type have the sorts that its definition tells, by those of the types in it.
abbrev pub AreSorted : Table → Type 0
AreSorted table = (t : ℕ) → sorts table t ≡ sorts_of (sorts table) (shape_found (slice_get table t))

-- Those of a type that is done are right at the depth so far, and at any greater one.
pub record LooksAt (table : Table) (done : List Bool) (depth : ℕ) : Type 0 where
  pub done_length : length done ≡ length table
  pub within : depth ≤ length table
  pub right : (t n k : ℕ) → depth ≤ n → depth ≤ k → IsTrue (is_done done t)
      → sorts_within n table t ≡ sorts_of (sorts_within k table) (shape_found (slice_get table t))
