-- The acts of one actual after another.
use Rattle.std.proofs.Common.{◌≡◌, ℕ, List, [], ◌∷◌, ◌++◌, refl, sym, ap, ◌∙◌, append-nil}
use Rattle.place_names.specs.declared.act.Placed.{Placed}
use Rattle.typed_tree.specs.declared.node.TypedNode.{TypedNode}
use Rattle.typed_tree.specs.declared.node.TypedNode.TheVariants as node
use Rattle.typed_tree.specs.Trees.{TypedTree, More}
use Rattle.typed_tree.specs.Nodes.{typed_of}
use Rattle.flow_paths.specs.Objects.{Typing, Passing, ByValue, Traversed, Place}
use Rattle.flow_paths.specs.Acts.{actual_acts, actual_act, actual_values}
use Rattle.flow_acts.specs.Ways.{value_acts}

pub values_more : (s : Typing) (way : Passing) (ways : List Passing) (e rest : TypedTree)
    → actual_values s (way ∷ ways) (More e rest) ≡ value_acts s way e ++ actual_values s ways rest
values_more s ByValue ways e rest = refl
values_more s Traversed ways e rest = refl
values_more s (Place m owning access) ways e rest = refl

pub values_none : (s : Typing) (ways : List Passing) (tree : ℕ → TypedTree) (n : TypedNode) → ((a b : ℕ) → n ≡ node.More a b → ⊥)
    → actual_values s ways (typed_of tree n) ≡ []
values_none s [] tree n none = refl
values_none s (way ∷ ways) tree n none = by_way way n none
  where
    by_way : (way : Passing) (n : TypedNode) → ((a b : ℕ) → n ≡ node.More a b → ⊥) → actual_values s (way ∷ ways) (typed_of tree n) ≡ []
    by_way ByValue (node.Number v) none = refl
    by_way ByValue (node.Literal v) none = refl
    by_way ByValue node.Null none = refl
    by_way ByValue (node.Text v) none = refl
    by_way ByValue (node.Name p d a t) none = refl
    by_way ByValue (node.Component i a) none = refl
    by_way ByValue (node.Designated a) none = refl
    by_way ByValue (node.Element a low high b) none = refl
    by_way ByValue (node.Call p f a) none = refl
    by_way ByValue node.EndOfFile none = refl
    by_way ByValue (node.Parens a) none = refl
    by_way ByValue (node.Image t a) none = refl
    by_way ByValue (node.Unary op a) none = refl
    by_way ByValue (node.Binary op a b) none = refl
    by_way ByValue (node.Short op p a q b) none = refl
    by_way ByValue (node.IsNull by a) none = refl
    by_way ByValue (node.Aggregate t a) none = refl
    by_way ByValue (node.Alike t a) none = refl
    by_way ByValue (node.New t a) none = refl
    by_way ByValue node.NoMore none = refl
    by_way ByValue (node.More a b) none = absurd (none a b refl)
    by_way Traversed (node.Number v) none = refl
    by_way Traversed (node.Literal v) none = refl
    by_way Traversed node.Null none = refl
    by_way Traversed (node.Text v) none = refl
    by_way Traversed (node.Name p d a t) none = refl
    by_way Traversed (node.Component i a) none = refl
    by_way Traversed (node.Designated a) none = refl
    by_way Traversed (node.Element a low high b) none = refl
    by_way Traversed (node.Call p f a) none = refl
    by_way Traversed node.EndOfFile none = refl
    by_way Traversed (node.Parens a) none = refl
    by_way Traversed (node.Image t a) none = refl
    by_way Traversed (node.Unary op a) none = refl
    by_way Traversed (node.Binary op a b) none = refl
    by_way Traversed (node.Short op p a q b) none = refl
    by_way Traversed (node.IsNull by a) none = refl
    by_way Traversed (node.Aggregate t a) none = refl
    by_way Traversed (node.Alike t a) none = refl
    by_way Traversed (node.New t a) none = refl
    by_way Traversed node.NoMore none = refl
    by_way Traversed (node.More a b) none = absurd (none a b refl)
    by_way (Place m owning access) (node.Number v) none = refl
    by_way (Place m owning access) (node.Literal v) none = refl
    by_way (Place m owning access) node.Null none = refl
    by_way (Place m owning access) (node.Text v) none = refl
    by_way (Place m owning access) (node.Name p d a t) none = refl
    by_way (Place m owning access) (node.Component i a) none = refl
    by_way (Place m owning access) (node.Designated a) none = refl
    by_way (Place m owning access) (node.Element a low high b) none = refl
    by_way (Place m owning access) (node.Call p f a) none = refl
    by_way (Place m owning access) node.EndOfFile none = refl
    by_way (Place m owning access) (node.Parens a) none = refl
    by_way (Place m owning access) (node.Image t a) none = refl
    by_way (Place m owning access) (node.Unary op a) none = refl
    by_way (Place m owning access) (node.Binary op a b) none = refl
    by_way (Place m owning access) (node.Short op p a q b) none = refl
    by_way (Place m owning access) (node.IsNull by a) none = refl
    by_way (Place m owning access) (node.Aggregate t a) none = refl
    by_way (Place m owning access) (node.Alike t a) none = refl
    by_way (Place m owning access) (node.New t a) none = refl
    by_way (Place m owning access) node.NoMore none = refl
    by_way (Place m owning access) (node.More a b) none = absurd (none a b refl)

pub acts_more : (way : Passing) (ways : List Passing) (e rest : TypedTree)
    → actual_acts (way ∷ ways) (More e rest) ≡ actual_act way e ++ actual_acts ways rest
acts_more way ways e rest = refl

pub acts_none : (ways : List Passing) (tree : ℕ → TypedTree) (n : TypedNode) → ((a b : ℕ) → n ≡ node.More a b → ⊥)
    → actual_acts ways (typed_of tree n) ≡ []
acts_none [] tree n none = refl
acts_none (way ∷ ways) tree (node.Number v) none = refl
acts_none (way ∷ ways) tree (node.Literal v) none = refl
acts_none (way ∷ ways) tree node.Null none = refl
acts_none (way ∷ ways) tree (node.Text v) none = refl
acts_none (way ∷ ways) tree (node.Name p d a t) none = refl
acts_none (way ∷ ways) tree (node.Component i a) none = refl
acts_none (way ∷ ways) tree (node.Designated a) none = refl
acts_none (way ∷ ways) tree (node.Element a low high b) none = refl
acts_none (way ∷ ways) tree (node.Call p f a) none = refl
acts_none (way ∷ ways) tree node.EndOfFile none = refl
acts_none (way ∷ ways) tree (node.Parens a) none = refl
acts_none (way ∷ ways) tree (node.Image t a) none = refl
acts_none (way ∷ ways) tree (node.Unary op a) none = refl
acts_none (way ∷ ways) tree (node.Binary op a b) none = refl
acts_none (way ∷ ways) tree (node.Short op p a q b) none = refl
acts_none (way ∷ ways) tree (node.IsNull by a) none = refl
acts_none (way ∷ ways) tree (node.Aggregate t a) none = refl
acts_none (way ∷ ways) tree (node.Alike t a) none = refl
acts_none (way ∷ ways) tree (node.New t a) none = refl
acts_none (way ∷ ways) tree node.NoMore none = refl
acts_none (way ∷ ways) tree (node.More a b) none = absurd (none a b refl)

-- Where no acts are left, those that are made are all.
pub none_left : (made rest all : List Placed) → rest ≡ [] → made ++ rest ≡ all → made ≡ all
none_left made rest all e is = sym (append-nil made) ∙ ap (λ xs. made ++ xs) (sym e) ∙ is
