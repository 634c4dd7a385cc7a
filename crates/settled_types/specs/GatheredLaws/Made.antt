-- Numbers that stand for types, and what is known that speaks of these alone.
use Rattle.std.specs.Prelude.{◌≡◌, ◌⊎◌, ◌<◌, ℕ, true, false, List, [], ◌∷◌, ◌++◌, flat_map, map, slice_get, Some}
use Rattle.std.specs.List.{AllByRecursion}
use Rattle.machine.specs.spark_base.Lists.{Has}
use Rattle.machine.specs.resolved_tree.Trees.{More, Code, Anonymous, Incomplete, Private, TypeDecl, Subtype, ConstrainedSubtype, Objects, Formals, Front, SubDecl, SubBody, Package, PackageBody, If, Branch, Case, When, Loop, While, For, Block, code_items}
use Rattle.machine.specs.type_definitions.declared.table.Component.{Component}
use Rattle.machine.specs.type_definitions.declared.table.Shape.{Shape}
use Rattle.machine.specs.type_definitions.declared.table.Shape.TheVariants as shape
use Rattle.machine.specs.type_definitions.declared.table.FormalInfo.{FormalInfo}
use Rattle.machine.specs.type_definitions.declared.table.Entry.{Entry}
use Rattle.machine.specs.type_definitions.declared.table.Entry.TheVariants as entry
use Rattle.machine.specs.type_definitions.declared.table.Known.{Known}
use Rattle.machine.specs.type_definitions.Types.{info, base}
use Rattle.machine.specs.type_definitions.Entries.{entry_of}
use Rattle.machine.specs.type_definitions.Gathered.{declared_number}
use Rattle.machine.specs.type_definitions.Whole.{predefined_types}

-- ---- the numbers of types in a text

-- An anonymous type has the number of its object, or of its function.
abbrev pub indicated_numbers : Code → List ℕ → List ℕ
indicated_numbers (Anonymous p constant m) numbers = numbers
indicated_numbers i numbers = []

abbrev pub all_numbers : Code → List ℕ
all_numbers ids = map declared_number (code_items ids)

abbrev pub group_numbers : Code → List ℕ
group_numbers (Formals ids m of) = indicated_numbers of (all_numbers ids)
group_numbers group = []

abbrev pub result_numbers : ℕ → Code → List ℕ
result_numbers d (More i rest) = indicated_numbers i (d ∷ [])
result_numbers d result = []

abbrev pub front_numbers : Code → List ℕ
front_numbers (Front d formals result) = result_numbers (declared_number d) result ++ flat_map group_numbers (code_items formals)
front_numbers front = []

-- The numbers of the types that code declares.
unfoldable pub type_numbers : Code → List ℕ
type_numbers (Incomplete d) = declared_number d ∷ []
type_numbers (Private d) = declared_number d ∷ []
type_numbers (TypeDecl d def end) = declared_number d ∷ []
type_numbers (Subtype d m) = declared_number d ∷ []
type_numbers (ConstrainedSubtype d m low high) = declared_number d ∷ []
type_numbers (Objects ids constant i v) = indicated_numbers i (all_numbers ids)
type_numbers (SubDecl front) = front_numbers front
type_numbers (SubBody front items stmts end) = front_numbers front ++ (type_numbers items ++ type_numbers stmts)
type_numbers (Package d visible hidden) = type_numbers visible ++ type_numbers hidden
type_numbers (PackageBody d parts) = type_numbers parts
type_numbers (If p branches otherwise) = type_numbers branches ++ type_numbers otherwise
type_numbers (Branch p e stmts) = type_numbers stmts
type_numbers (Case p e whens) = type_numbers whens
type_numbers (When choices stmts) = type_numbers stmts
type_numbers (Loop p stmts) = type_numbers stmts
type_numbers (While p e stmts) = type_numbers stmts
type_numbers (For p d reversed range stmts) = type_numbers stmts
type_numbers (Block p items stmts end) = type_numbers items ++ type_numbers stmts
type_numbers (More a rest) = type_numbers a ++ type_numbers rest
type_numbers code = []

-- Those, the predefined ones, and the one that stands where a mark denotes no type.
abbrev pub IsMade : List Code → ℕ → Type 0
IsMade units t = (t < 5) ⊎ Has (flat_map type_numbers units) t

-- ---- what is known

abbrev pub IsMadeOf : (ℕ → Type 0) → Shape → Type 0
IsMadeOf is (shape.Fields cs) = AllByRecursion (λ (c : Component). is c.of) cs
IsMadeOf is (shape.Elements low high of) = is of
IsMadeOf is (shape.Access d constant named) = is d
IsMadeOf is (shape.Same of) = is of
IsMadeOf is s = Unit {0}

abbrev pub SpeaksOf : (ℕ → Type 0) → ℕ → Entry → Type 0
SpeaksOf is d entry.Type = is d
SpeaksOf is d (entry.Object o) = is o.of
SpeaksOf is d (entry.Literal t n) = is t
SpeaksOf is d (entry.Subprogram p) = ((t : ℕ) → p.result ≡ Some t → is t) × AllByRecursion (λ (f : FormalInfo). is f.of) p.formals
SpeaksOf is d e = Unit {0}

-- Types are made of types and based on types, and their bounds are known; none is based on one that
-- isn't known; the predefined ones are there; and entries speak of types.
pub record AreTypes (is : ℕ → Type 0) (known : Known) : Type 0 where
  pub parts : (t : ℕ) → IsMadeOf is (info known.table t).shape
  pub bases : (t : ℕ) → is (base known.table t)
  pub certain : (t : ℕ) → base known.table t ≡ 4 → ⊥
  pub bounded : (t : ℕ) → (info known.table t).bounded ≡ true
  pub predefined : (t : ℕ) → t < 5 → slice_get known.table t ≡ slice_get (predefined_types false) t
  pub entries : (d : ℕ) → SpeaksOf is d (entry_of known d)
