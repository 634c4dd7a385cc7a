-- The trees and the code that nodes in rows stand for.
use Rattle.std.specs.Prelude.{◌≡◌, ◌<◌, ◌≤◌, ℕ, ◌+◌, Bool, true, ◌&&◌, List, [], ◌∷◌, ◌++◌, map, length, nat_lt, get_or}
use Rattle.std.specs.List.{All as Each}
use Rattle.resolved_tree.specs.declared.node.Node.{Node}
use Rattle.resolved_tree.specs.declared.node.Node.TheVariants as node
use Rattle.resolved_tree.specs.declared.code_node.CodeNode.{CodeNode}
use Rattle.resolved_tree.specs.declared.code_node.CodeNode.TheVariants as code_node
use Rattle.resolved_tree.specs.Trees.{Tree, Number, Text, Null, Named, Parens, Unary, Binary, Aggregate, Others, New, Selected, All, Applied, Attr, Argument, NoMore, More, Code, Declared, Plain, Anonymous, Bounds, Marked, Constrained, RangeOf, Enumeration, Record, Components, Array, Access, Incomplete, Private, TypeDecl, Subtype, ConstrainedSubtype, Objects, Numbers, Instance, Formals, Front, SubDecl, SubBody, Package, PackageBody, Skip, Assign, Call, Exit, Return, If, Branch, Case, Value, Interval, OthersChoice, When, Loop, While, For, Block}

-- The rows: nodes of expressions, and nodes of code.
abbrev pub Rows : Type 0
Rows = List Node × List CodeNode

-- ---- rows of any nodes

-- The values of nodes, after other values: each is made of those before it.
abbrev pub grown : {N T : Type 0} → ((ℕ → T) → N → T) → T → List T → List N → List T
grown make none made [] = made
grown make none made (n ∷ rest) = grown make none (made ++ make (λ i. get_or made i none) n ∷ []) rest

-- The parts of each node stand before it.
abbrev pub are_below : {N : Type 0} → (ℕ → N → Bool) → ℕ → List N → Bool
are_below below n [] = true
are_below below n (node ∷ rest) = below n node && are_below below (n + 1) rest

-- ---- expressions

-- The parts of a node have lower numbers than n.
abbrev pub is_below : ℕ → Node → Bool
is_below n (node.Named p d a) = nat_lt a n
is_below n (node.Parens p a) = nat_lt a n
is_below n (node.Unary p op a) = nat_lt a n
is_below n (node.Binary p op a b) = nat_lt a n && nat_lt b n
is_below n (node.Aggregate p a) = nat_lt a n
is_below n (node.Others p a) = nat_lt a n
is_below n (node.New p m a) = nat_lt a n
is_below n (node.Applied a) = nat_lt a n
is_below n (node.Argument w a b) = nat_lt a n && nat_lt b n
is_below n (node.More a b) = nat_lt a n && nat_lt b n
is_below n _ = true

-- The tree that a node makes of others.
abbrev pub tree_of : (ℕ → Tree) → Node → Tree
tree_of tree (node.Number p v) = Number p v
tree_of tree (node.Text p v) = Text p v
tree_of tree (node.Null p) = Null p
tree_of tree (node.Named p d a) = Named p d (tree a)
tree_of tree (node.Parens p a) = Parens p (tree a)
tree_of tree (node.Unary p op a) = Unary p op (tree a)
tree_of tree (node.Binary p op a b) = Binary p op (tree a) (tree b)
tree_of tree (node.Aggregate p a) = Aggregate p (tree a)
tree_of tree (node.Others p a) = Others p (tree a)
tree_of tree (node.New p m a) = New p m (tree a)
tree_of tree (node.Selected w) = Selected w
tree_of tree node.All = All
tree_of tree (node.Applied a) = Applied (tree a)
tree_of tree (node.Attr a) = Attr a
tree_of tree (node.Argument w a b) = Argument w (tree a) (tree b)
tree_of tree node.NoMore = NoMore
tree_of tree (node.More a b) = More (tree a) (tree b)

-- ---- code

-- The parts of a node of code: expressions have lower numbers than m, code has lower ones than n.
abbrev pub is_code_below : ℕ → ℕ → CodeNode → Bool
is_code_below m n (code_node.Bounds a b) = nat_lt a m && nat_lt b m
is_code_below m n (code_node.Constrained k a b) = nat_lt a m && nat_lt b m
is_code_below m n (code_node.RangeOf a) = nat_lt a m
is_code_below m n (code_node.Enumeration a) = nat_lt a n
is_code_below m n (code_node.Record a) = nat_lt a n
is_code_below m n (code_node.Components a k) = nat_lt a n
is_code_below m n (code_node.Array a k) = nat_lt a n
is_code_below m n (code_node.Incomplete a) = nat_lt a n
is_code_below m n (code_node.Private a) = nat_lt a n
is_code_below m n (code_node.TypeDecl a b p) = nat_lt a n && nat_lt b n
is_code_below m n (code_node.Subtype a k) = nat_lt a n
is_code_below m n (code_node.ConstrainedSubtype a k b c) = nat_lt a n && (nat_lt b m && nat_lt c m)
is_code_below m n (code_node.Objects a k b c) = nat_lt a n && (nat_lt b n && nat_lt c m)
is_code_below m n (code_node.Numbers a b) = nat_lt a n && nat_lt b m
is_code_below m n (code_node.Instance a k b) = nat_lt a n && nat_lt b m
is_code_below m n (code_node.Formals a k b) = nat_lt a n && nat_lt b n
is_code_below m n (code_node.Front a b c) = nat_lt a n && (nat_lt b n && nat_lt c n)
is_code_below m n (code_node.SubDecl a) = nat_lt a n
is_code_below m n (code_node.SubBody a b c p) = nat_lt a n && (nat_lt b n && nat_lt c n)
is_code_below m n (code_node.Package a b c) = nat_lt a n && (nat_lt b n && nat_lt c n)
is_code_below m n (code_node.PackageBody a b) = nat_lt a n && nat_lt b n
is_code_below m n (code_node.Assign a b) = nat_lt a m && nat_lt b m
is_code_below m n (code_node.Call a) = nat_lt a m
is_code_below m n (code_node.Exit p a) = nat_lt a m
is_code_below m n (code_node.Return p a) = nat_lt a m
is_code_below m n (code_node.If p a b) = nat_lt a n && nat_lt b n
is_code_below m n (code_node.Branch p a b) = nat_lt a m && nat_lt b n
is_code_below m n (code_node.Case p a b) = nat_lt a m && nat_lt b n
is_code_below m n (code_node.Value a) = nat_lt a m
is_code_below m n (code_node.Interval a b) = nat_lt a m && nat_lt b m
is_code_below m n (code_node.When a b) = nat_lt a n && nat_lt b n
is_code_below m n (code_node.Loop p a) = nat_lt a n
is_code_below m n (code_node.While p a b) = nat_lt a m && nat_lt b n
is_code_below m n (code_node.For p a k b c) = nat_lt a n && (nat_lt b n && nat_lt c n)
is_code_below m n (code_node.Block p a b q) = nat_lt a n && nat_lt b n
is_code_below m n (code_node.More a b) = nat_lt a n && nat_lt b n
is_code_below m n _ = true

-- The code that a node makes of expressions and of other code.
abbrev pub code_of : (ℕ → Tree) → (ℕ → Code) → CodeNode → Code
code_of tree code (code_node.Declared p d w) = Declared p d w
code_of tree code (code_node.Plain m) = Plain m
code_of tree code (code_node.Anonymous p k m) = Anonymous p k m
code_of tree code (code_node.Bounds a b) = Bounds (tree a) (tree b)
code_of tree code (code_node.Marked m) = Marked m
code_of tree code (code_node.Constrained m a b) = Constrained m (tree a) (tree b)
code_of tree code (code_node.RangeOf a) = RangeOf (tree a)
code_of tree code (code_node.Enumeration a) = Enumeration (code a)
code_of tree code (code_node.Record a) = Record (code a)
code_of tree code (code_node.Components a m) = Components (code a) m
code_of tree code (code_node.Array a m) = Array (code a) m
code_of tree code (code_node.Access m) = Access m
code_of tree code (code_node.Incomplete a) = Incomplete (code a)
code_of tree code (code_node.Private a) = Private (code a)
code_of tree code (code_node.TypeDecl a b p) = TypeDecl (code a) (code b) p
code_of tree code (code_node.Subtype a m) = Subtype (code a) m
code_of tree code (code_node.ConstrainedSubtype a m b c) = ConstrainedSubtype (code a) m (tree b) (tree c)
code_of tree code (code_node.Objects a k b c) = Objects (code a) k (code b) (tree c)
code_of tree code (code_node.Numbers a b) = Numbers (code a) (tree b)
code_of tree code (code_node.Instance a m b) = Instance (code a) m (tree b)
code_of tree code (code_node.Formals a k b) = Formals (code a) k (code b)
code_of tree code (code_node.Front a b c) = Front (code a) (code b) (code c)
code_of tree code (code_node.SubDecl a) = SubDecl (code a)
code_of tree code (code_node.SubBody a b c p) = SubBody (code a) (code b) (code c) p
code_of tree code (code_node.Package a b c) = Package (code a) (code b) (code c)
code_of tree code (code_node.PackageBody a b) = PackageBody (code a) (code b)
code_of tree code (code_node.Skip p) = Skip p
code_of tree code (code_node.Assign a b) = Assign (tree a) (tree b)
code_of tree code (code_node.Call a) = Call (tree a)
code_of tree code (code_node.Exit p a) = Exit p (tree a)
code_of tree code (code_node.Return p a) = Return p (tree a)
code_of tree code (code_node.If p a b) = If p (code a) (code b)
code_of tree code (code_node.Branch p a b) = Branch p (tree a) (code b)
code_of tree code (code_node.Case p a b) = Case p (tree a) (code b)
code_of tree code (code_node.Value a) = Value (tree a)
code_of tree code (code_node.Interval a b) = Interval (tree a) (tree b)
code_of tree code (code_node.OthersChoice p) = OthersChoice p
code_of tree code (code_node.When a b) = When (code a) (code b)
code_of tree code (code_node.Loop p a) = Loop p (code a)
code_of tree code (code_node.While p a b) = While p (tree a) (code b)
code_of tree code (code_node.For p a k b c) = For p (code a) k (code b) (code c)
code_of tree code (code_node.Block p a b q) = Block p (code a) (code b) q
code_of tree code code_node.NoMore = NoMore
code_of tree code (code_node.More a b) = More (code a) (code b)

-- ---- both

-- The tree with the number i.
unfoldable pub tree_at : Rows → ℕ → Tree
tree_at rows i = get_or (grown tree_of NoMore [] rows.0) i NoMore

-- The code with the number i.
unfoldable pub code_at : Rows → ℕ → Code
code_at rows i = get_or (grown (code_of (tree_at rows)) NoMore [] rows.1) i NoMore

-- The parts of each node stand before it.
abbrev pub in_order : Rows → Bool
in_order rows = are_below is_below 0 rows.0 && are_below (is_code_below (length rows.0)) 0 rows.1

-- Nodes were added after others, whose trees and code are still there.
pub record Grew (old new : Rows) : Type 0 where
  pub more_trees : length old.0 ≤ length new.0
  pub same_trees : (i : ℕ) → i < length old.0 → tree_at new i ≡ tree_at old i
  pub more_code : length old.1 ≤ length new.1
  pub same_code : (i : ℕ) → i < length old.1 → code_at new i ≡ code_at old i

-- The tree, or the code, with the number n is there.
abbrev pub Holds : Rows → ℕ → Tree → Type 0
Holds rows n t = (n < length rows.0) × (tree_at rows n ≡ t)

abbrev pub HoldsCode : Rows → ℕ → Code → Type 0
HoldsCode rows n c = (n < length rows.1) × (code_at rows n ≡ c)

-- The trees, or the code, with these numbers are there, and are these.
abbrev pub HoldsAll : Rows → List ℕ → List Tree → Type 0
HoldsAll rows parts trees = Each (λ i. i < length rows.0) parts × (map (tree_at rows) parts ≡ trees)

abbrev pub HoldsAllCode : Rows → List ℕ → List Code → Type 0
HoldsAllCode rows parts codes = Each (λ i. i < length rows.1) parts × (map (code_at rows) parts ≡ codes)
