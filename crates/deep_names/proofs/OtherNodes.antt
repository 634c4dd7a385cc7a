-- Nodes of other kinds.
use Rattle.std.proofs.Common.{◌≡◌, ℕ, List, [], ◌∷◌, refl, None}
use Rattle.typed_tree.specs.declared.node.TypedNode.{TypedNode}
use Rattle.typed_tree.specs.declared.node.TypedNode.TheVariants as node
use Rattle.typed_tree.specs.Trees.{TypedTree, NoMore}
use Rattle.typed_tree.specs.Nodes.{typed_of}
use Rattle.flow_paths.specs.Objects.{Typing, Passing}
use Rattle.flow_paths.specs.Names.{written, first, source, whole, whole_object}
use Rattle.deep_names.specs.Trees.{depths_in, actuals_deep}

-- Only a name is written.
pub written_other : (tree : ℕ → TypedTree) (n : TypedNode) → ((p d a t : _) → n ≡ node.Name p d a t → ⊥) → written (typed_of tree n) ≡ None
written_other tree (node.Number v) none = refl
written_other tree (node.Literal v) none = refl
written_other tree node.Null none = refl
written_other tree (node.Text v) none = refl
written_other tree (node.Name p d a t) none = absurd (none p d a t refl)
written_other tree (node.Component i a) none = refl
written_other tree (node.Designated a) none = refl
written_other tree (node.Element a low high b) none = refl
written_other tree (node.Call p f a) none = refl
written_other tree node.EndOfFile none = refl
written_other tree (node.Parens a) none = refl
written_other tree (node.Image t a) none = refl
written_other tree (node.Unary op a) none = refl
written_other tree (node.Binary op a b) none = refl
written_other tree (node.Short op p a q b) none = refl
written_other tree (node.IsNull by a) none = refl
written_other tree (node.Aggregate t a) none = refl
written_other tree (node.Alike t a) none = refl
written_other tree (node.New t a) none = refl
written_other tree node.NoMore none = refl
written_other tree (node.More a b) none = refl

pub whole_other : (tree : ℕ → TypedTree) (n : TypedNode) → ((p d a t : _) → n ≡ node.Name p d a t → ⊥) → whole (typed_of tree n) ≡ None
whole_other tree (node.Number v) none = refl
whole_other tree (node.Literal v) none = refl
whole_other tree node.Null none = refl
whole_other tree (node.Text v) none = refl
whole_other tree (node.Name p d a t) none = absurd (none p d a t refl)
whole_other tree (node.Component i a) none = refl
whole_other tree (node.Designated a) none = refl
whole_other tree (node.Element a low high b) none = refl
whole_other tree (node.Call p f a) none = refl
whole_other tree node.EndOfFile none = refl
whole_other tree (node.Parens a) none = refl
whole_other tree (node.Image t a) none = refl
whole_other tree (node.Unary op a) none = refl
whole_other tree (node.Binary op a b) none = refl
whole_other tree (node.Short op p a q b) none = refl
whole_other tree (node.IsNull by a) none = refl
whole_other tree (node.Aggregate t a) none = refl
whole_other tree (node.Alike t a) none = refl
whole_other tree (node.New t a) none = refl
whole_other tree node.NoMore none = refl
whole_other tree (node.More a b) none = refl

pub object_other : (x : ℕ) (tree : ℕ → TypedTree) (n : TypedNode) → (n ≡ node.NoMore → ⊥) → whole_object x (typed_of tree n) ≡ None
object_other x tree (node.Number v) none = refl
object_other x tree (node.Literal v) none = refl
object_other x tree node.Null none = refl
object_other x tree (node.Text v) none = refl
object_other x tree (node.Name p d a t) none = refl
object_other x tree (node.Component i a) none = refl
object_other x tree (node.Designated a) none = refl
object_other x tree (node.Element a low high b) none = refl
object_other x tree (node.Call p f a) none = refl
object_other x tree node.EndOfFile none = refl
object_other x tree (node.Parens a) none = refl
object_other x tree (node.Image t a) none = refl
object_other x tree (node.Unary op a) none = refl
object_other x tree (node.Binary op a b) none = refl
object_other x tree (node.Short op p a q b) none = refl
object_other x tree (node.IsNull by a) none = refl
object_other x tree (node.Aggregate t a) none = refl
object_other x tree (node.Alike t a) none = refl
object_other x tree (node.New t a) none = refl
object_other x tree node.NoMore none = absurd (none refl)
object_other x tree (node.More a b) none = refl

-- Only a name has indexes.
pub indexes_other : (s : Typing) (tree : ℕ → TypedTree) (n : TypedNode) → ((p d a t : _) → n ≡ node.Name p d a t → ⊥) → (depths_in s (typed_of tree n)).indexes ≡ (depths_in s (typed_of tree n)).before
unfolding depths_in
indexes_other s tree (node.Number v) none = refl
indexes_other s tree (node.Literal v) none = refl
indexes_other s tree node.Null none = refl
indexes_other s tree (node.Text v) none = refl
indexes_other s tree (node.Name p d a t) none = absurd (none p d a t refl)
indexes_other s tree (node.Component i a) none = refl
indexes_other s tree (node.Designated a) none = refl
indexes_other s tree (node.Element a low high b) none = refl
indexes_other s tree (node.Call p f a) none = refl
indexes_other s tree node.EndOfFile none = refl
indexes_other s tree (node.Parens a) none = refl
indexes_other s tree (node.Image t a) none = refl
indexes_other s tree (node.Unary op a) none = refl
indexes_other s tree (node.Binary op a b) none = refl
indexes_other s tree (node.Short op p a q b) none = refl
indexes_other s tree (node.IsNull by a) none = refl
indexes_other s tree (node.Aggregate t a) none = refl
indexes_other s tree (node.Alike t a) none = refl
indexes_other s tree (node.New t a) none = refl
indexes_other s tree node.NoMore none = refl
indexes_other s tree (node.More a b) none = refl

-- Only a list that isn't empty has a first one.
pub first_other : (tree : ℕ → TypedTree) (n : TypedNode) → ((a b : _) → n ≡ node.More a b → ⊥) → first (typed_of tree n) ≡ NoMore
first_other tree (node.Number v) none = refl
first_other tree (node.Literal v) none = refl
first_other tree node.Null none = refl
first_other tree (node.Text v) none = refl
first_other tree (node.Name p d a t) none = refl
first_other tree (node.Component i a) none = refl
first_other tree (node.Designated a) none = refl
first_other tree (node.Element a low high b) none = refl
first_other tree (node.Call p f a) none = refl
first_other tree node.EndOfFile none = refl
first_other tree (node.Parens a) none = refl
first_other tree (node.Image t a) none = refl
first_other tree (node.Unary op a) none = refl
first_other tree (node.Binary op a b) none = refl
first_other tree (node.Short op p a q b) none = refl
first_other tree (node.IsNull by a) none = refl
first_other tree (node.Aggregate t a) none = refl
first_other tree (node.Alike t a) none = refl
first_other tree (node.New t a) none = refl
first_other tree node.NoMore none = refl
first_other tree (node.More a b) none = absurd (none a b refl)

-- Only a call stands for its first actual.
pub source_other : (tree : ℕ → TypedTree) (n : TypedNode) → ((p f a : _) → n ≡ node.Call p f a → ⊥) → source (typed_of tree n) ≡ written (typed_of tree n)
source_other tree (node.Number v) none = refl
source_other tree (node.Literal v) none = refl
source_other tree node.Null none = refl
source_other tree (node.Text v) none = refl
source_other tree (node.Name p d a t) none = refl
source_other tree (node.Component i a) none = refl
source_other tree (node.Designated a) none = refl
source_other tree (node.Element a low high b) none = refl
source_other tree (node.Call p f a) none = absurd (none p f a refl)
source_other tree node.EndOfFile none = refl
source_other tree (node.Parens a) none = refl
source_other tree (node.Image t a) none = refl
source_other tree (node.Unary op a) none = refl
source_other tree (node.Binary op a b) none = refl
source_other tree (node.Short op p a q b) none = refl
source_other tree (node.IsNull by a) none = refl
source_other tree (node.Aggregate t a) none = refl
source_other tree (node.Alike t a) none = refl
source_other tree (node.New t a) none = refl
source_other tree node.NoMore none = refl
source_other tree (node.More a b) none = refl

-- Only that has an actual.
no_actual : (s : Typing) (way : Passing) (ways : List Passing) (tree : ℕ → TypedTree) (n : TypedNode) → ((a b : _) → n ≡ node.More a b → ⊥) → actuals_deep s (way ∷ ways) (typed_of tree n) ≡ None
unfolding actuals_deep
no_actual s way ways tree (node.Number v) none = refl
no_actual s way ways tree (node.Literal v) none = refl
no_actual s way ways tree node.Null none = refl
no_actual s way ways tree (node.Text v) none = refl
no_actual s way ways tree (node.Name p d a t) none = refl
no_actual s way ways tree (node.Component i a) none = refl
no_actual s way ways tree (node.Designated a) none = refl
no_actual s way ways tree (node.Element a low high b) none = refl
no_actual s way ways tree (node.Call p f a) none = refl
no_actual s way ways tree node.EndOfFile none = refl
no_actual s way ways tree (node.Parens a) none = refl
no_actual s way ways tree (node.Image t a) none = refl
no_actual s way ways tree (node.Unary op a) none = refl
no_actual s way ways tree (node.Binary op a b) none = refl
no_actual s way ways tree (node.Short op p a q b) none = refl
no_actual s way ways tree (node.IsNull by a) none = refl
no_actual s way ways tree (node.Aggregate t a) none = refl
no_actual s way ways tree (node.Alike t a) none = refl
no_actual s way ways tree (node.New t a) none = refl
no_actual s way ways tree node.NoMore none = refl
no_actual s way ways tree (node.More a b) none = absurd (none a b refl)

pub actuals_other : (s : Typing) (ways : List Passing) (tree : ℕ → TypedTree) (n : TypedNode) → ((a b : _) → n ≡ node.More a b → ⊥)
    → actuals_deep s ways (typed_of tree n) ≡ None
unfolding actuals_deep
actuals_other s [] tree n none = refl
actuals_other s (way ∷ ways) tree n none = no_actual s way ways tree n none
