-- The types that have a marked type in them.
use Rattle.std.specs.Prelude.{◌≡◌, ◌<◌, ◌≤◌, ◌+◌, ℕ, zero, suc, Bool, false, ◌||◌, ◌&&◌, List, length, IsTrue}
use Rattle.type_definitions.specs.declared.table.Info.{Info}
use Rattle.type_definitions.specs.Types.{Table, info}
use Rattle.type_definitions.specs.Declarations.{holds_shape, holds_parent}
use Rattle.type_settled.specs.declared.reach.Found.{Found}
use Rattle.type_settled.specs.Measures.{marked}

-- A type that this one is made of is as asked, or, where that counts, the type in its mark.
abbrev pub holds : Bool → (ℕ → Bool) → Info → Bool
holds parents has i = holds_shape has i.shape || (parents && holds_parent has i.parent)

-- Some type in a type, at a depth of at most n, is as asked.
unfoldable pub has_some : Bool → ℕ → (ℕ → Bool) → Table → ℕ → Bool
has_some parents zero is table t = false
has_some parents (suc n) is table t = holds parents (λ u. is u || has_some parents n is table u) (info table t)

abbrev pub is_in : List Bool → List Bool → ℕ → Bool
is_in marks made t = marked marks t || marked made t

-- A type that is found has a marked one in it, at most as deep as the depth so far.
pub record IsFound (parents : Bool) (is : ℕ → Bool) (table : Table) (found : Found) : Type 0 where
  pub made_length : length found.made.items ≡ length table
  pub within : found.depth < length table
  pub right : (t n : ℕ) → found.depth ≤ n → IsTrue (marked found.made.items t) → IsTrue (has_some parents n is table t)

-- What isn't found is made of nothing that is marked or found.
abbrev pub IsClosed : Bool → List Bool → Table → List Bool → Type 0
IsClosed parents marks table made = (t : ℕ) → marked made t ≡ false → holds parents (is_in marks made) (info table t) ≡ false

-- These are the types that have a marked one in them. No marked type is deeper than this.
abbrev pub AreFound : Bool → (ℕ → Bool) → Table → List Bool → Type 0
AreFound parents is table made = (t n : ℕ) → length table ≤ n + 1 → marked made t ≡ has_some parents n is table t
