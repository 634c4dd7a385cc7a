-- Types that are made of types that were defined before them, or of private types that don't have
-- themselves in them.
use Rattle.std.specs.Prelude.{◌≡◌, ◌⊎◌, ◌<◌, ◌≤◌, ℕ, true, false, List, [], ◌∷◌, length, is_some, slice_get}
use Rattle.machine.specs.spark_base.declared.position.Pos.{Pos}
use Rattle.machine.specs.spark_base.Lists.{Has}
use Rattle.machine.specs.resolved_tree.declared.node.Mark.{Mark}
use Rattle.machine.specs.resolved_tree.Trees.{Code, More, Record, Components, Array, TypeDecl, Subtype, ConstrainedSubtype, SubBody, Package, PackageBody, If, Branch, Case, When, Loop, While, For, Block}
use Rattle.machine.specs.type_definitions.declared.table.Shape.TheVariants as shape
use Rattle.machine.specs.type_definitions.declared.table.Known.{Known}
use Rattle.machine.specs.type_definitions.Types.{Table, info, base}
use Rattle.machine.specs.type_definitions.Entries.{entry_of, is_type, marked, is_complete}
use Rattle.machine.specs.type_definitions.Gathered.{declared_number}
use Rattle.machine.specs.type_definitions.Declarations.{holds_itself}
use Rattle.machine.specs.type_definitions.Whole.{predefined_types}
use Rattle.type_settled.specs.Rings.{IsPart}
use Rattle.settled_types.specs.Wholes.{written}
use Rattle.settled_types.specs.Orderly.{Past}

-- ---- what typing says of the code

-- In the end this is a private type that doesn't have itself in it.
abbrev pub IsOpen : Table → ℕ → Type 0
IsOpen final d = (is_some (info final d).seen_in ≡ true) × (holds_itself final d ≡ false)

-- The mark stands after the end of the type that it denotes, where that was declared incomplete.
abbrev pub IsAfterEnd : Known → Mark → Type 0
IsAfterEnd final m = is_complete final (marked final m) m.pos ≡ true

abbrev pub IsGroupAfter : Known → Code → Type 0
IsGroupAfter final (Components names m) = IsAfterEnd final m
IsGroupAfter final _ = Unit {0}

abbrev pub AreGroupsAfter : Known → Code → Type 0
AreGroupsAfter final (More group rest) = IsGroupAfter final group × AreGroupsAfter final rest
AreGroupsAfter final _ = Unit {0}

abbrev pub ArePartsAfter : Known → Code → Type 0
ArePartsAfter final (Record components) = AreGroupsAfter final components
ArePartsAfter final (Array range m) = IsAfterEnd final m
ArePartsAfter final _ = Unit {0}

-- The full types of private types don't have themselves in them, and types are made of complete ones.
unfoldable pub Opens : Known → Code → Type 0
Opens final (TypeDecl d def end) =
    (is_some (info final.table (declared_number d)).seen_in ≡ true → holds_itself final.table (declared_number d) ≡ false)
    × ArePartsAfter final def
Opens final (Subtype d m) = IsAfterEnd final m
Opens final (ConstrainedSubtype d m low high) = IsAfterEnd final m
Opens final (SubBody front items stmts end) = Opens final items × Opens final stmts
Opens final (Package d visible hidden) = Opens final visible × Opens final hidden
Opens final (PackageBody d parts) = Opens final parts
Opens final (If p branches otherwise) = Opens final branches × Opens final otherwise
Opens final (Branch p e stmts) = Opens final stmts
Opens final (Case p e whens) = Opens final whens
Opens final (When choices stmts) = Opens final stmts
Opens final (Loop p stmts) = Opens final stmts
Opens final (While p e stmts) = Opens final stmts
Opens final (For p d reversed range stmts) = Opens final stmts
Opens final (Block p items stmts end) = Opens final items × Opens final stmts
Opens final (More a rest) = Opens final a × Opens final rest
Opens final _ = Unit {0}

abbrev pub AllOpen : Known → List Code → Type 0
AllOpen final [] = Unit {0}
AllOpen final (u ∷ rest) = Opens final u × AllOpen final rest

-- ---- what is known in a turn over the text

-- A type that was declared before, or a predefined one.
abbrev pub IsType : Past → ℕ → Type 0
IsType past v = (v < 5) ⊎ (Has past.awaited v ⊎ Has past.defined v)

-- A type that is defined once and for all.
abbrev pub IsFixed : Past → ℕ → Type 0
IsFixed past t = Has past.defined t × (Has past.private t → ⊥) × (Has past.incomplete t → ⊥)

-- A type stays one.
abbrev pub Keeps : Known → Known → Type 0
Keeps known after = (v : ℕ) → is_type (entry_of known v) ≡ true → is_type (entry_of after v) ≡ true

-- So it does up to the end of the turn, and the types that are fixed already keep their definitions.
pub record LeadsTo (final : Known) (past : Past) (known : Known) : Type 0 where
  pub keeps : Keeps known final
  pub fixed : (t : ℕ) → IsFixed past t → slice_get final.table t ≡ slice_get known.table t

-- `start` is the table before the turn. A type that isn't defined so far is made of nothing that it
-- wasn't made of there, and none that is completed later is the same as another type.
pub record AreRows (count : ℕ) (start : Table) (past : Past) (known : Known) : Type 0 where
  pub long : count ≤ length known.table
  pub predefined : (t : ℕ) → t < 5 → slice_get known.table t ≡ slice_get (predefined_types false) t
  pub types : (v : ℕ) → is_type (entry_of known v) ≡ true → IsType past v
  pub based : (t : ℕ) → is_some (info known.table t).seen_in ≡ true → base known.table t ≡ t
  pub rest : (t v : ℕ) → (Has past.defined t → ⊥) → IsPart known.table v t → IsPart start v t
  pub plain : (t of : ℕ) → (Has past.defined t → ⊥) → written known.table t ≡ shape.Same of → written start t ≡ shape.Same of
  pub awaited : (d of : ℕ) → Has past.awaited d → written known.table d ≡ shape.Same of → ⊥
  pub private : (t : ℕ) → Has past.private t → Has past.awaited t × (is_some (info known.table t).seen_in ≡ true)
  pub incomplete : (t : ℕ) → Has past.incomplete t → Has past.awaited t × (is_some (info known.table t).completed ≡ true)

-- One of these marks stands after the end of this type. (Predefined types have no end.)
abbrev pub IsClosed : Known → List Pos → ℕ → Type 0
IsClosed final marks v = (v < 5) ⊎ ((p : Pos) × Has marks p × (is_complete final v p ≡ true))

-- What the types are made of that are defined so far. `stamp` says when each type was defined last, `now`
-- is later than all of these.
pub record AreStamped (final : Known) (past : Past) (known : Known) : Type 0 where
  pub stamp : ℕ → ℕ
  pub now : ℕ
  pub old : (t : ℕ) → stamp t < now
  pub parts : (t v : ℕ) → Has past.defined t → IsPart known.table v t → IsType past v
  pub early : (t v : ℕ) → Has past.defined t → IsPart known.table v t → (stamp v < stamp t) ⊎ IsOpen final.table v
  pub closed : (t v : ℕ) → Has past.defined t → IsPart known.table v t → IsClosed final past.marks v
  pub short : (t of on : ℕ) → Has past.defined t → written known.table t ≡ shape.Same of → written known.table of ≡ shape.Same on → ⊥
