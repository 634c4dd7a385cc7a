-- What typing gives: an expression has the type that its place takes, and its names stay within
-- what they name. What soundness needs (`Gives`) and what the executor needs (sorts) both follow
-- from it.
use Rattle.machine.specs.type_definitions.declared.table.Component.{Component}
use Rattle.machine.specs.type_definitions.Expressions.{by_name, no_component}
use Rattle.std.specs.Prelude.{List, ◌≡◌, ◌⊎◌, ◌<◌, ℕ, suc, Bool, true, false, ◌||◌, length, get_or, ℤ, Some, if◌then◌else◌}
use Rattle.machine.specs.resolved_tree.declared.operator.Operator.{Operator}
use Rattle.machine.specs.resolved_tree.declared.operator.Operator.TheVariants as operator
use Rattle.machine.specs.type_definitions.Types.{meant_type}
use Rattle.machine.specs.resolved_tree.Trees.{Tree, Number, Text, Null, Named, Parens, Unary, Binary, Aggregate, Others, New, Selected, All, Applied, Attr, Argument, NoMore, More}
use Rattle.machine.specs.type_definitions.declared.table.Entry.TheVariants as entry
use Rattle.machine.specs.type_definitions.declared.table.ObjectInfo.{ObjectInfo}
use Rattle.machine.specs.type_definitions.declared.table.Shape.{Shape}
use Rattle.machine.specs.type_definitions.declared.table.Shape.TheVariants as shape
use Rattle.machine.specs.type_definitions.declared.table.Known.{Known}
use Rattle.machine.specs.type_definitions.Types.{Table, shape_of, fields, base, full, is_owning, is_scalar, is_untyped, is_bounded, owns_of, words, words_of}
use Rattle.machine.specs.type_definitions.Entries.{entry_of, integer, boolean, same_word}
use Rattle.machine.specs.type_definitions.Expressions.{is_arithmetic, is_logical, operand_type, unary_type, profile_of}
use Rattle.machine.specs.typed_tree.Trees.{TypedTree}
use Rattle.machine.specs.typed_tree.Trees as typed
use Rattle.machine.specs.typed_tree.Expressions.{Site, object_number, sub_number}
use Rattle.machine.specs.flow_paths.Objects.{Typing, object_at, sub_at}
use Rattle.run_values.specs.Arithmetic.{is_integer}
use Rattle.machine.specs.Words.{component_type}
use Rattle.machine.specs.Evaluate.{part_type}
use Rattle.machine.specs.Typed.{tree_count, field_count, is_record, is_array, same_kind}

-- ---- types

abbrev pub counts : Shape → Bool
counts (shape.Whole low high) = true
counts _ = false

abbrev pub lists : Shape → Bool
lists (shape.Listed literals low high) = true
lists _ = false

-- One type, or two scalar types of one sort.
abbrev pub Agree : Table → ℕ → ℕ → Type 0
Agree table t u = (meant_type table t ≡ meant_type table u) ⊎ (same_kind (shape_of table t) (shape_of table u) ≡ true)

-- ---- expressions

-- No short circuit, and no join of strings.
abbrev pub is_plain : Operator → Bool
is_plain operator.AndThen = false
is_plain operator.OrElse = false
is_plain operator.Concatenate = false
is_plain op = true

-- Where both operands are of a type of the operator's own.
abbrev pub Takes : Bool → ℕ → ℕ → Type 0
Takes true own t = t ≡ own
Takes false own t = Unit {0}

abbrev pub operator_type : Operator → ℕ
operator_type op = if is_arithmetic op then integer else boolean

unfoldable mutual
  -- An expression has the type that is wanted.
  pub Has : Typing → ℕ → TypedTree → Type 0
  Has s want (typed.Number v) = (counts (shape_of s.table want) ≡ true) × (is_integer v ≡ true)
  Has s want (typed.Literal n) = lists (shape_of s.table want) ≡ true
  Has s want typed.EndOfFile = lists (shape_of s.table want) ≡ true
  Has s want typed.Null = (d : ℕ) × (constant : Bool) × (named : Bool) × (shape_of s.table want ≡ shape.Access d constant named)
  Has s want (typed.Name p x steps t) = Leads s (object_at s x).of steps t × Agree s.table t want
  Has s want (typed.Call p sub actuals) = (t : ℕ) × ((sub_at s sub).result ≡ Some t) × Agree s.table t want
  -- nothing that owns stands in parentheses
  Has s want (typed.Parens e) = (is_owning s.table want ≡ false) × Has s want e
  Has s want (typed.Unary op e) = Agree s.table (unary_type op) want × Has s (unary_type op) e
  Has s want (typed.Binary op a b) =
      (is_plain op ≡ true) × Agree s.table (operator_type op) want
      × (t : ℕ) × Takes (is_arithmetic op || is_logical op) (operand_type op) t × (is_scalar (full s.table t) ≡ true) × Has s t a × Has s t b
  Has s want (typed.Short op p a q b) = Agree s.table boolean want × Has s boolean a × Has s boolean b
  Has s want (typed.IsNull equal e) = Agree s.table boolean want × Pointed s e
  Has s want (typed.Aggregate t es) =
      Agree s.table t want × (tree_count es ≡ field_count (shape_of s.table t)) × HasParts s t 0 es × (is_record (shape_of s.table t) || is_array (shape_of s.table t) ≡ true)
  -- of what stands for each element nothing owns but null
  Has s want (typed.Alike t e) =
      Agree s.table t want × (low : ℤ) × (high : ℤ) × (of : ℕ) × (shape_of s.table t ≡ shape.Elements low high of)
      × ((is_owning s.table of ≡ false) ⊎ (e ≡ typed.Null)) × Has s of e
  Has s want (typed.New t v) =
      (d : ℕ) × (constant : Bool) × (named : Bool) × (shape_of s.table want ≡ shape.Access d constant named) × Agree s.table d t × HasFirst s t v
  Has s want e = ⊥

  -- a name of an access value
  pub Pointed : Typing → TypedTree → Type 0
  Pointed s (typed.Name p x steps t) =
      Leads s (object_at s x).of steps t × (d : ℕ) × (constant : Bool) × (named : Bool) × (shape_of s.table t ≡ shape.Access d constant named)
  Pointed s e = ⊥

  pub HasParts : Typing → ℕ → ℕ → TypedTree → Type 0
  HasParts s t i (typed.More e rest) = Has s (part_type (shape_of s.table t) i) e × HasParts s t (suc i) rest
  HasParts s t i typed.NoMore = Unit {0}
  HasParts s t i e = ⊥

  pub HasFirst : Typing → ℕ → TypedTree → Type 0
  HasFirst s t (typed.More e rest) = (rest ≡ typed.NoMore) × Has s t e
  HasFirst s t typed.NoMore = Unit {0}
  HasFirst s t e = ⊥

  -- The steps of a name lead from one type to another one.
  pub Leads : Typing → ℕ → TypedTree → ℕ → Type 0
  Leads s t (typed.Component i rest) u = (i < length (fields s.table t)) × Leads s (component_type s.table t i) rest u
  Leads s t (typed.Element index low high rest) u =
      (e : ℕ) × (shape_of s.table t ≡ shape.Elements low high e) × Has s integer index × Leads s e rest u
  Leads s t (typed.Designated rest) u =
      (d : ℕ) × (constant : Bool) × (named : Bool) × (shape_of s.table t ≡ shape.Access d constant named) × Leads s d rest u
  Leads s t typed.NoMore u = t ≡ u
  Leads s t e u = ⊥

-- ---- what is needed of tables and trees

-- What is known of the types of an accepted program. `made` says of which numbers stand for types.
pub record Laws (known : Known) (made : ℕ → Type 0) : Type 0 where
  pub same : (t u : ℕ) → made t → made u → base known.table t ≡ base known.table u → Agree known.table t u
  pub owns : (t : ℕ) → is_owning known.table t ≡ owns_of (is_owning known.table) (shape_of known.table t)
  pub word_law : (t : ℕ) → words known.table t ≡ words_of (words known.table) (shape_of known.table t)
  pub based : (t : ℕ) → made t → made (base known.table t)
  pub base_of : (t : ℕ) → made t → base known.table (base known.table t) ≡ base known.table t
  pub whole : counts (shape_of known.table integer) ≡ true
  pub listed : lists (shape_of known.table boolean) ≡ true
  pub integers : made integer
  pub booleans : made boolean
  -- a definition is none by the name of another type
  pub plain : (t of : ℕ) → shape_of known.table t ≡ shape.Same of → ⊥
  -- a type whose definition is a range of Integer is based on it, and no other is
  pub numeric : (t : ℕ) → made t → counts (shape_of known.table t) ≡ true → base known.table t ≡ integer
  pub component : (t i : ℕ) → made t → made (component_type known.table t i)
  pub element : (t of : ℕ) (low high : ℤ) → made t → shape_of known.table t ≡ shape.Elements low high of → made of
  pub target : (t d : ℕ) (constant named : Bool) → made t → shape_of known.table t ≡ shape.Access d constant named → made d
  pub object : (d : ℕ) (o : ObjectInfo) → entry_of known d ≡ entry.Object o → made o.of
  pub literal : (d t n : ℕ) → entry_of known d ≡ entry.Literal t n → made t × (lists (shape_of known.table t) ≡ true)
  pub typed : (d : ℕ) → entry_of known d ≡ entry.Type → made d
  -- an instance of Unchecked_Deallocation is of a named access type
  pub freed : (d t : ℕ) → entry_of known d ≡ entry.Instance t → made t × (to : ℕ) × (shape_of known.table t ≡ shape.Access to false true)
  -- which type is meant is known, and so are the bounds of an array
  pub certain : (t : ℕ) → made t → is_untyped known.table t ≡ false
  pub bounded : (t : ℕ) → made t → is_bounded known.table t ≡ true
  pub result : (d t : ℕ) → (profile_of (entry_of known d)).result ≡ Some t → made t
  -- no two components of a record have one name, in any case of letters
  pub names : (t k : ℕ) (v : List ℕ) → k < length (fields known.table t) → same_word (get_or (fields known.table t) k no_component).name v ≡ true
      → by_name (λ (c : Component). c.name) no_component v (fields known.table t) ≡ get_or (fields known.table t) k no_component

-- An identifier in code denotes an object or a function of the program.
abbrev pub Denotes : Site → Typing → ℕ → Type 0
Denotes s y d =
    ((o : ObjectInfo) → entry_of s.context.known d ≡ entry.Object o → (object_at y (object_number s d)).of ≡ o.of)
    × ((t : ℕ) → (profile_of (entry_of s.context.known d)).result ≡ Some t → (sub_at y (sub_number s d)).result ≡ Some t)

abbrev pub IsOptional : Tree → Type 0
IsOptional (Argument w e NoMore) = Unit {0}
IsOptional NoMore = Unit {0}
IsOptional _ = ⊥

-- Trees of the grammar.
unfoldable mutual
  pub IsMeant : Site → Typing → Tree → Type 0
  IsMeant s y (Number p n) = Unit {0}
  IsMeant s y (Text p t) = Unit {0}
  IsMeant s y (Null p) = Unit {0}
  IsMeant s y (Named p d rest) = Denotes s y d × AreSuffixes s y rest
  IsMeant s y (Parens p e) = IsMeant s y e
  IsMeant s y (Unary p op e) = IsMeant s y e
  IsMeant s y (Binary p op a b) = IsMeant s y a × IsMeant s y b
  IsMeant s y (Aggregate p args) = AreArguments s y args
  IsMeant s y (Others p e) = IsMeant s y e
  IsMeant s y (New p m v) = IsOptional v × AreArguments s y v
  IsMeant s y _ = ⊥

  pub AreSuffixes : Site → Typing → Tree → Type 0
  AreSuffixes s y (More a rest) = IsSuffix s y a × AreSuffixes s y rest
  AreSuffixes s y NoMore = Unit {0}
  AreSuffixes s y _ = ⊥

  pub IsSuffix : Site → Typing → Tree → Type 0
  IsSuffix s y (Selected w) = Unit {0}
  IsSuffix s y All = Unit {0}
  IsSuffix s y (Applied args) = AreArguments s y args
  IsSuffix s y (Attr a) = Unit {0}
  IsSuffix s y _ = ⊥

  pub AreArguments : Site → Typing → Tree → Type 0
  AreArguments s y (Argument w e rest) = IsMeant s y e × AreArguments s y rest
  AreArguments s y NoMore = Unit {0}
  AreArguments s y _ = ⊥
