-- Names in expressions, and which calls an expression has (docs/RULES.md, "Names of places";
-- docs/FLOW.md, "Points").
use Rattle.std.specs.Prelude.{ℕ, ◌+◌, Bool, true, false, ◌||◌, List, [], ◌∷◌, Option, Some, None, if◌then◌else◌}
use Rattle.typed_tree.specs.spark_base.declared.position.Pos.{Pos}
use Rattle.typed_tree.specs.place_names.declared.selector.Sel.{Sel}
use Rattle.typed_tree.specs.place_names.declared.selector.Sel.TheVariants as sel
use Rattle.typed_tree.specs.place_names.Names.{Name as PlaceName}
use Rattle.typed_tree.specs.Trees.{TypedTree, Name, Component, Designated, Element, Call, Image, Parens, Unary, Binary, Short, IsNull, Aggregate, Alike, New, NoMore, More}

-- ---- names

-- The selectors that the steps of a name are. Some element is taken by each index.
unfoldable pub selectors : TypedTree → List Sel
selectors (Component i rest) = sel.Field i ∷ selectors rest
selectors (Designated rest) = sel.Deref ∷ selectors rest
selectors (Element index low high rest) = sel.Elem ∷ selectors rest
selectors _ = []

abbrev pub name_of : ℕ → TypedTree → PlaceName
name_of x steps = record { root = x; sels = selectors steps }

-- A name that stands in the text: the position of its first token, and its type.
pub record Written : Type 0 where
  pub pos : Pos
  pub name : PlaceName
  pub of : ℕ

abbrev pub written : TypedTree → Option Written
written (Name p x steps t) = Some (record { pos = p; name = name_of x steps; of = t })
written _ = None

-- An expression that stands alone in a list.
abbrev pub first : TypedTree → TypedTree
first (More e rest) = e
first _ = NoMore

abbrev pub is_empty : TypedTree → Bool
is_empty (More e rest) = false
is_empty _ = true

-- The source of a borrow or an observation. A traversal call stands for the name of its traversed
-- actual, which is the first.
abbrev pub source : TypedTree → Option Written
source (Call p sub actuals) = written (first actuals)
source e = written e

-- The object that a name names as a whole.
abbrev pub whole_object : ℕ → TypedTree → Option ℕ
whole_object x NoMore = Some x
whole_object x _ = None

abbrev pub whole : TypedTree → Option ℕ
whole (Name p x steps t) = whole_object x steps
whole _ = None

-- ---- calls

-- An expression has a call of a function of the program.
unfoldable pub has_call : TypedTree → Bool
has_call (Call p sub actuals) = true
has_call (Name p x steps t) = has_call steps
has_call (Component i rest) = has_call rest
has_call (Designated rest) = has_call rest
has_call (Element index low high rest) = has_call index || has_call rest
has_call (Image t e) = has_call e
has_call (Parens e) = has_call e
has_call (Unary op e) = has_call e
has_call (Binary op a b) = has_call a || has_call b
has_call (Short op p a q b) = has_call a || has_call b
has_call (IsNull equal e) = has_call e
has_call (Aggregate t parts) = has_call parts
has_call (Alike t e) = has_call e
has_call (New t v) = has_call v
has_call (More e rest) = has_call e || has_call rest
has_call _ = false

-- How many values of an expression wait when it is evaluated: those of calls, and of short circuits
-- with a call on the right.
unfoldable pub waiting : TypedTree → ℕ
waiting (Call p sub actuals) = 1
waiting (Name p x steps t) = waiting steps
waiting (Component i rest) = waiting rest
waiting (Designated rest) = waiting rest
waiting (Element index low high rest) = waiting index + waiting rest
waiting (Image t e) = waiting e
waiting (Parens e) = waiting e
waiting (Unary op e) = waiting e
waiting (Binary op a b) = waiting a + waiting b
waiting (Short op p a q b) = if has_call b then 1 else waiting a + waiting b
waiting (IsNull equal e) = waiting e
waiting (Aggregate t parts) = waiting parts
waiting (Alike t e) = waiting e
waiting (New t v) = waiting v
waiting (More e rest) = waiting e + waiting rest
waiting _ = 0
