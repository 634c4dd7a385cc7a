-- How types are based on others, at a place of the text.
use Rattle.std.specs.Prelude.{◌≡◌, ◌⊎◌, ◌<◌, ◌≤◌, ℕ, List, slice_get}
use Rattle.machine.specs.spark_base.Lists.{Has}
use Rattle.machine.specs.type_definitions.declared.table.Shape.{Shape}
use Rattle.machine.specs.type_definitions.Types.{Table, base, meant_type, shape_of}
use Rattle.settled_types.specs.Wholes.{written}
use Rattle.settled_types.specs.GatheredLaws.DefinitionKinds.{kind}

-- A predefined type, one that is completed later, or a defined one.
abbrev pub IsOne : List ℕ → List ℕ → ℕ → Type 0
IsOne awaited defined t = (t < 5) ⊎ (Has awaited t ⊎ Has defined t)

-- A type has the definition of the one that it is based on, or both are scalar of one kind.
abbrev pub Agrees : Table → ℕ → Type 0
Agrees table t =
    (meant_type table t ≡ base table t)
    ⊎ ((kind (shape_of table t) ≡ kind (written table (base table t))) × (kind (shape_of table t) < 2))

-- Each type with a name is based on one that is based on itself, and such a one is as `rule` has it. What isn't
-- declared so far, and is no anonymous access type (`views`), has the row of the table before the turn. That types
-- agree with those that they are based on holds where `Final` does.
pub record AreBased (rule : ℕ → Shape → Type 0) (Final : Type 0) (views : ℕ → Type 0) (start : Table) (awaited defined : List ℕ) (table : Table) : Type 0 where
  pub based : (t : ℕ) → IsOne awaited defined t → IsOne awaited defined (base table t)
  pub bases : (t : ℕ) → IsOne awaited defined t → base table (base table t) ≡ base table t
  pub meant : (t : ℕ) → IsOne awaited defined t → IsOne awaited defined (meant_type table t)
  pub own : (t : ℕ) → IsOne awaited defined t → 5 ≤ t → base table t ≡ t → rule t (written table t)
  pub waits : (t : ℕ) → Has awaited t → (base table t ≡ t) × (5 ≤ t)
  pub fresh : (t : ℕ) → 5 ≤ t → (IsOne awaited defined t → ⊥) → (views t → ⊥) → slice_get table t ≡ slice_get start t
  pub agrees : Final → (t : ℕ) → IsOne awaited defined t → Agrees table t
