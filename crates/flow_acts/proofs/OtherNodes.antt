-- Nodes of other kinds.
use Rattle.std.proofs.Common.{◌≡◌, ℕ, Bool, [], refl, None}
use Rattle.typed_tree.specs.declared.node.TypedNode.{TypedNode}
use Rattle.typed_tree.specs.declared.node.TypedNode.TheVariants as node
use Rattle.typed_tree.specs.Trees.{TypedTree, IsNull, NoMore}
use Rattle.typed_tree.specs.Nodes.{typed_of}
use Rattle.flow_paths.specs.Objects.{Typing}
use Rattle.flow_paths.specs.Names.{written, first, source, whole}
use Rattle.flow_paths.specs.Acts.{acts_in, index_acts}

-- Only a name is compared with `null`.
pub looked_other : (s : Typing) (tree : ℕ → TypedTree) (n : TypedNode) → ((p d a t : _) → n ≡ node.Name p d a t → ⊥)
    → (equal : Bool) → acts_in s (IsNull equal (typed_of tree n)) ≡ []
unfolding acts_in
looked_other s tree (node.Number v) none equal = refl
looked_other s tree (node.Literal v) none equal = refl
looked_other s tree node.Null none equal = refl
looked_other s tree (node.Text v) none equal = refl
looked_other s tree (node.Name p d a t) none equal = absurd (none p d a t refl)
looked_other s tree (node.Component i a) none equal = refl
looked_other s tree (node.Designated a) none equal = refl
looked_other s tree (node.Element a low high b) none equal = refl
looked_other s tree (node.Call p f a) none equal = refl
looked_other s tree node.EndOfFile none equal = refl
looked_other s tree (node.Parens a) none equal = refl
looked_other s tree (node.Image t a) none equal = refl
looked_other s tree (node.Unary op a) none equal = refl
looked_other s tree (node.Binary op a b) none equal = refl
looked_other s tree (node.Short op p a q b) none equal = refl
looked_other s tree (node.IsNull by a) none equal = refl
looked_other s tree (node.Aggregate t a) none equal = refl
looked_other s tree (node.Alike t a) none equal = refl
looked_other s tree (node.New t a) none equal = refl
looked_other s tree node.NoMore none equal = refl
looked_other s tree (node.More a b) none equal = refl

-- Only a name is written.
pub written_other : (tree : ℕ → TypedTree) (n : TypedNode) → ((p d a t : _) → n ≡ node.Name p d a t → ⊥)
    → written (typed_of tree n) ≡ None
written_other tree (node.Number v) none = refl
written_other tree (node.Literal v) none = refl
written_other tree node.Null none = refl
written_other tree (node.Text v) none = refl
written_other tree (node.Name p d a t) none = absurd (none p d a t refl)
written_other tree (node.Component i a) none = refl
written_other tree (node.Designated a) none = refl
written_other tree (node.Element a low high b) none = refl
written_other tree (node.Call p f a) none = refl
written_other tree node.EndOfFile none = refl
written_other tree (node.Parens a) none = refl
written_other tree (node.Image t a) none = refl
written_other tree (node.Unary op a) none = refl
written_other tree (node.Binary op a b) none = refl
written_other tree (node.Short op p a q b) none = refl
written_other tree (node.IsNull by a) none = refl
written_other tree (node.Aggregate t a) none = refl
written_other tree (node.Alike t a) none = refl
written_other tree (node.New t a) none = refl
written_other tree node.NoMore none = refl
written_other tree (node.More a b) none = refl

pub index_other : (s : Typing) (tree : ℕ → TypedTree) (n : TypedNode) → ((p d a t : _) → n ≡ node.Name p d a t → ⊥)
    → index_acts s (typed_of tree n) ≡ []
index_other s tree (node.Number v) none = refl
index_other s tree (node.Literal v) none = refl
index_other s tree node.Null none = refl
index_other s tree (node.Text v) none = refl
index_other s tree (node.Name p d a t) none = absurd (none p d a t refl)
index_other s tree (node.Component i a) none = refl
index_other s tree (node.Designated a) none = refl
index_other s tree (node.Element a low high b) none = refl
index_other s tree (node.Call p f a) none = refl
index_other s tree node.EndOfFile none = refl
index_other s tree (node.Parens a) none = refl
index_other s tree (node.Image t a) none = refl
index_other s tree (node.Unary op a) none = refl
index_other s tree (node.Binary op a b) none = refl
index_other s tree (node.Short op p a q b) none = refl
index_other s tree (node.IsNull by a) none = refl
index_other s tree (node.Aggregate t a) none = refl
index_other s tree (node.Alike t a) none = refl
index_other s tree (node.New t a) none = refl
index_other s tree node.NoMore none = refl
index_other s tree (node.More a b) none = refl

pub whole_other : (tree : ℕ → TypedTree) (n : TypedNode) → ((p d a t : _) → n ≡ node.Name p d a t → ⊥)
    → whole (typed_of tree n) ≡ None
whole_other tree (node.Number v) none = refl
whole_other tree (node.Literal v) none = refl
whole_other tree node.Null none = refl
whole_other tree (node.Text v) none = refl
whole_other tree (node.Name p d a t) none = absurd (none p d a t refl)
whole_other tree (node.Component i a) none = refl
whole_other tree (node.Designated a) none = refl
whole_other tree (node.Element a low high b) none = refl
whole_other tree (node.Call p f a) none = refl
whole_other tree node.EndOfFile none = refl
whole_other tree (node.Parens a) none = refl
whole_other tree (node.Image t a) none = refl
whole_other tree (node.Unary op a) none = refl
whole_other tree (node.Binary op a b) none = refl
whole_other tree (node.Short op p a q b) none = refl
whole_other tree (node.IsNull by a) none = refl
whole_other tree (node.Aggregate t a) none = refl
whole_other tree (node.Alike t a) none = refl
whole_other tree (node.New t a) none = refl
whole_other tree node.NoMore none = refl
whole_other tree (node.More a b) none = refl

-- Only a list that isn't empty has a first one.
pub first_other : (tree : ℕ → TypedTree) (n : TypedNode) → ((a b : _) → n ≡ node.More a b → ⊥)
    → first (typed_of tree n) ≡ NoMore
first_other tree (node.Number v) none = refl
first_other tree (node.Literal v) none = refl
first_other tree node.Null none = refl
first_other tree (node.Text v) none = refl
first_other tree (node.Name p d a t) none = refl
first_other tree (node.Component i a) none = refl
first_other tree (node.Designated a) none = refl
first_other tree (node.Element a low high b) none = refl
first_other tree (node.Call p f a) none = refl
first_other tree node.EndOfFile none = refl
first_other tree (node.Parens a) none = refl
first_other tree (node.Image t a) none = refl
first_other tree (node.Unary op a) none = refl
first_other tree (node.Binary op a b) none = refl
first_other tree (node.Short op p a q b) none = refl
first_other tree (node.IsNull by a) none = refl
first_other tree (node.Aggregate t a) none = refl
first_other tree (node.Alike t a) none = refl
first_other tree (node.New t a) none = refl
first_other tree node.NoMore none = refl
first_other tree (node.More a b) none = absurd (none a b refl)

-- Only a call stands for its first actual.
pub source_other : (tree : ℕ → TypedTree) (n : TypedNode) → ((p f a : _) → n ≡ node.Call p f a → ⊥)
    → source (typed_of tree n) ≡ written (typed_of tree n)
source_other tree (node.Number v) none = refl
source_other tree (node.Literal v) none = refl
source_other tree node.Null none = refl
source_other tree (node.Text v) none = refl
source_other tree (node.Name p d a t) none = refl
source_other tree (node.Component i a) none = refl
source_other tree (node.Designated a) none = refl
source_other tree (node.Element a low high b) none = refl
source_other tree (node.Call p f a) none = absurd (none p f a refl)
source_other tree node.EndOfFile none = refl
source_other tree (node.Parens a) none = refl
source_other tree (node.Image t a) none = refl
source_other tree (node.Unary op a) none = refl
source_other tree (node.Binary op a b) none = refl
source_other tree (node.Short op p a q b) none = refl
source_other tree (node.IsNull by a) none = refl
source_other tree (node.Aggregate t a) none = refl
source_other tree (node.Alike t a) none = refl
source_other tree (node.New t a) none = refl
source_other tree node.NoMore none = refl
source_other tree (node.More a b) none = refl
