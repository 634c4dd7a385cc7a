-- The typed trees and the typed code that nodes in rows stand for.
use Rattle.std.specs.Prelude.{◌≡◌, ◌<◌, ◌≤◌, ℕ, Bool, true, ◌&&◌, List, [], map, length, nat_lt, get_or}
use Rattle.std.specs.List.{All as Each}
use Rattle.type_definitions.specs.resolved_tree.Nodes.{grown, are_below}
use Rattle.typed_tree.specs.declared.node.TypedNode.{TypedNode}
use Rattle.typed_tree.specs.declared.node.TypedNode.TheVariants as node
use Rattle.typed_tree.specs.declared.code_node.TypedCodeNode.{TypedCodeNode}
use Rattle.typed_tree.specs.declared.code_node.TypedCodeNode.TheVariants as code_node
use Rattle.typed_tree.specs.Trees.{TypedTree, Number, Literal, Null, Text, Name, Component, Designated, Element, Call, EndOfFile, Parens, Image, Unary, Binary, Short, IsNull, Aggregate, Alike, New, NoMore, More, TypedCode, Declare, Assign, Skip, Output, Input, Release, If, Branch, Case, Interval, Others, When, Loop, While, For, Exit, Return, Block}

-- The rows: nodes of expressions, and nodes of code.
abbrev pub TypedNodes : Type 0
TypedNodes = List TypedNode × List TypedCodeNode

-- ---- expressions

-- The parts of a node have lower numbers than n.
abbrev pub is_below : ℕ → TypedNode → Bool
is_below n (node.Name p d a t) = nat_lt a n
is_below n (node.Component k a) = nat_lt a n
is_below n (node.Designated a) = nat_lt a n
is_below n (node.Element a low high b) = nat_lt a n && nat_lt b n
is_below n (node.Call p s a) = nat_lt a n
is_below n (node.Parens a) = nat_lt a n
is_below n (node.Image t a) = nat_lt a n
is_below n (node.Unary op a) = nat_lt a n
is_below n (node.Binary op a b) = nat_lt a n && nat_lt b n
is_below n (node.Short op p a q b) = nat_lt a n && nat_lt b n
is_below n (node.IsNull equal a) = nat_lt a n
is_below n (node.Aggregate t a) = nat_lt a n
is_below n (node.Alike t a) = nat_lt a n
is_below n (node.New t a) = nat_lt a n
is_below n (node.More a b) = nat_lt a n && nat_lt b n
is_below n _ = true

-- The tree that a node makes of others.
abbrev pub typed_of : (ℕ → TypedTree) → TypedNode → TypedTree
typed_of tree (node.Number v) = Number v
typed_of tree (node.Literal v) = Literal v
typed_of tree node.Null = Null
typed_of tree (node.Text v) = Text v
typed_of tree (node.Name p d a t) = Name p d (tree a) t
typed_of tree (node.Component k a) = Component k (tree a)
typed_of tree (node.Designated a) = Designated (tree a)
typed_of tree (node.Element a low high b) = Element (tree a) low high (tree b)
typed_of tree (node.Call p s a) = Call p s (tree a)
typed_of tree node.EndOfFile = EndOfFile
typed_of tree (node.Parens a) = Parens (tree a)
typed_of tree (node.Image t a) = Image t (tree a)
typed_of tree (node.Unary op a) = Unary op (tree a)
typed_of tree (node.Binary op a b) = Binary op (tree a) (tree b)
typed_of tree (node.Short op p a q b) = Short op p (tree a) q (tree b)
typed_of tree (node.IsNull equal a) = IsNull equal (tree a)
typed_of tree (node.Aggregate t a) = Aggregate t (tree a)
typed_of tree (node.Alike t a) = Alike t (tree a)
typed_of tree (node.New t a) = New t (tree a)
typed_of tree node.NoMore = NoMore
typed_of tree (node.More a b) = More (tree a) (tree b)

-- ---- code

-- The parts of a node of code: expressions have lower numbers than m, code has lower ones than n.
abbrev pub is_code_below : ℕ → ℕ → TypedCodeNode → Bool
is_code_below m n (code_node.Declare p d a) = nat_lt a m
is_code_below m n (code_node.Assign p a b) = nat_lt a m && nat_lt b m
is_code_below m n (code_node.Call p s a) = nat_lt a m
is_code_below m n (code_node.Output p a line) = nat_lt a m
is_code_below m n (code_node.Input p a) = nat_lt a m
is_code_below m n (code_node.Release p a) = nat_lt a m
is_code_below m n (code_node.If a b) = nat_lt a n && nat_lt b n
is_code_below m n (code_node.Branch p a b) = nat_lt a m && nat_lt b n
is_code_below m n (code_node.Case p a b) = nat_lt a m && nat_lt b n
is_code_below m n (code_node.When a b) = nat_lt a n && nat_lt b n
is_code_below m n (code_node.Loop a) = nat_lt a n
is_code_below m n (code_node.While p a b) = nat_lt a m && nat_lt b n
is_code_below m n (code_node.For p d r a b c) = nat_lt a m && (nat_lt b m && nat_lt c n)
is_code_below m n (code_node.Exit p a) = nat_lt a m
is_code_below m n (code_node.Return p a) = nat_lt a m
is_code_below m n (code_node.Block s a q) = nat_lt a n
is_code_below m n (code_node.More a b) = nat_lt a n && nat_lt b n
is_code_below m n _ = true

-- The code that a node makes of expressions and of other code.
abbrev pub typed_code_of : (ℕ → TypedTree) → (ℕ → TypedCode) → TypedCodeNode → TypedCode
typed_code_of tree code (code_node.Declare p d a) = Declare p d (tree a)
typed_code_of tree code (code_node.Assign p a b) = Assign p (tree a) (tree b)
typed_code_of tree code (code_node.Skip p) = Skip p
typed_code_of tree code (code_node.Call p s a) = Call p s (tree a)
typed_code_of tree code (code_node.Output p a line) = Output p (tree a) line
typed_code_of tree code (code_node.Input p a) = Input p (tree a)
typed_code_of tree code (code_node.Release p a) = Release p (tree a)
typed_code_of tree code (code_node.If a b) = If (code a) (code b)
typed_code_of tree code (code_node.Branch p a b) = Branch p (tree a) (code b)
typed_code_of tree code (code_node.Case p a b) = Case p (tree a) (code b)
typed_code_of tree code (code_node.Interval low high) = Interval low high
typed_code_of tree code code_node.Others = Others
typed_code_of tree code (code_node.When a b) = When (code a) (code b)
typed_code_of tree code (code_node.Loop a) = Loop (code a)
typed_code_of tree code (code_node.While p a b) = While p (tree a) (code b)
typed_code_of tree code (code_node.For p d r a b c) = For p d r (tree a) (tree b) (code c)
typed_code_of tree code (code_node.Exit p a) = Exit p (tree a)
typed_code_of tree code (code_node.Return p a) = Return p (tree a)
typed_code_of tree code (code_node.Block s a q) = Block s (code a) q
typed_code_of tree code code_node.NoMore = NoMore
typed_code_of tree code (code_node.More a b) = More (code a) (code b)

-- ---- both

-- The tree with the number i.
unfoldable pub typed_at : TypedNodes → ℕ → TypedTree
typed_at rows i = get_or (grown typed_of NoMore [] rows.0) i NoMore

-- The code with the number i.
unfoldable pub typed_code_at : TypedNodes → ℕ → TypedCode
typed_code_at rows i = get_or (grown (typed_code_of (typed_at rows)) NoMore [] rows.1) i NoMore

-- The parts of each node stand before it.
abbrev pub in_order : TypedNodes → Bool
in_order rows = are_below is_below 0 rows.0 && are_below (is_code_below (length rows.0)) 0 rows.1

-- Nodes were added after others, whose trees and code are still there.
pub record Grew (old new : TypedNodes) : Type 0 where
  pub more_trees : length old.0 ≤ length new.0
  pub same_trees : (i : ℕ) → i < length old.0 → typed_at new i ≡ typed_at old i
  pub more_code : length old.1 ≤ length new.1
  pub same_code : (i : ℕ) → i < length old.1 → typed_code_at new i ≡ typed_code_at old i

-- The tree, or the code, with the number n is there.
abbrev pub Holds : TypedNodes → ℕ → TypedTree → Type 0
Holds rows n t = (n < length rows.0) × (typed_at rows n ≡ t)

abbrev pub HoldsCode : TypedNodes → ℕ → TypedCode → Type 0
HoldsCode rows n c = (n < length rows.1) × (typed_code_at rows n ≡ c)

-- The trees, or the code, with these numbers are there, and are these.
abbrev pub HoldsAll : TypedNodes → List ℕ → List TypedTree → Type 0
HoldsAll rows parts trees = Each (λ i. i < length rows.0) parts × (map (typed_at rows) parts ≡ trees)

abbrev pub HoldsAllCode : TypedNodes → List ℕ → List TypedCode → Type 0
HoldsAllCode rows parts codes = Each (λ i. i < length rows.1) parts × (map (typed_code_at rows) parts ≡ codes)
