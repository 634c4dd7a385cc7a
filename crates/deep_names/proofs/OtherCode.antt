-- Nodes of code of other kinds.
use Rattle.std.proofs.Common.{◌≡◌, ℕ, refl, Option, None}
use Rattle.typed_tree.specs.declared.code_node.TypedCodeNode.{TypedCodeNode}
use Rattle.typed_tree.specs.declared.code_node.TypedCodeNode.TheVariants as node
use Rattle.typed_tree.specs.Trees.{TypedTree, TypedCode}
use Rattle.typed_tree.specs.Nodes.{typed_code_of}
use Rattle.flow_paths.specs.Objects.{Typing}
use Rattle.deep_names.specs.Statements.{branches_deep, branch_deep, whens_deep, when_deep}

-- Only a list has branches or alternatives.
pub branches_other : (s : Typing) (r : Option ℕ) (tree : ℕ → TypedTree) (code : ℕ → TypedCode) (n : TypedCodeNode)
    → ((a b : _) → n ≡ node.More a b → ⊥) → branches_deep s r (typed_code_of tree code n) ≡ None
unfolding branches_deep
branches_other s r tree code (node.Declare p d a) none = refl
branches_other s r tree code (node.Assign p a b) none = refl
branches_other s r tree code (node.Skip p) none = refl
branches_other s r tree code (node.Call p d a) none = refl
branches_other s r tree code (node.Output p a line) none = refl
branches_other s r tree code (node.Input p a) none = refl
branches_other s r tree code (node.Release p a) none = refl
branches_other s r tree code (node.If a b) none = refl
branches_other s r tree code (node.Branch p a b) none = refl
branches_other s r tree code (node.Case p a b) none = refl
branches_other s r tree code (node.Interval low high) none = refl
branches_other s r tree code node.Others none = refl
branches_other s r tree code (node.When a b) none = refl
branches_other s r tree code (node.Loop a) none = refl
branches_other s r tree code (node.While p a b) none = refl
branches_other s r tree code (node.For p d o a b c) none = refl
branches_other s r tree code (node.Exit p a) none = refl
branches_other s r tree code (node.Return p a) none = refl
branches_other s r tree code (node.Block x a q) none = refl
branches_other s r tree code node.NoMore none = refl
branches_other s r tree code (node.More a b) none = absurd (none a b refl)

pub whens_other : (s : Typing) (r : Option ℕ) (tree : ℕ → TypedTree) (code : ℕ → TypedCode) (n : TypedCodeNode)
    → ((a b : _) → n ≡ node.More a b → ⊥) → whens_deep s r (typed_code_of tree code n) ≡ None
unfolding whens_deep
whens_other s r tree code (node.Declare p d a) none = refl
whens_other s r tree code (node.Assign p a b) none = refl
whens_other s r tree code (node.Skip p) none = refl
whens_other s r tree code (node.Call p d a) none = refl
whens_other s r tree code (node.Output p a line) none = refl
whens_other s r tree code (node.Input p a) none = refl
whens_other s r tree code (node.Release p a) none = refl
whens_other s r tree code (node.If a b) none = refl
whens_other s r tree code (node.Branch p a b) none = refl
whens_other s r tree code (node.Case p a b) none = refl
whens_other s r tree code (node.Interval low high) none = refl
whens_other s r tree code node.Others none = refl
whens_other s r tree code (node.When a b) none = refl
whens_other s r tree code (node.Loop a) none = refl
whens_other s r tree code (node.While p a b) none = refl
whens_other s r tree code (node.For p d o a b c) none = refl
whens_other s r tree code (node.Exit p a) none = refl
whens_other s r tree code (node.Return p a) none = refl
whens_other s r tree code (node.Block x a q) none = refl
whens_other s r tree code node.NoMore none = refl
whens_other s r tree code (node.More a b) none = absurd (none a b refl)

pub branch_other : (s : Typing) (r : Option ℕ) (tree : ℕ → TypedTree) (code : ℕ → TypedCode) (n : TypedCodeNode)
    → ((p a b : _) → n ≡ node.Branch p a b → ⊥) → branch_deep s r (typed_code_of tree code n) ≡ None
unfolding branch_deep
branch_other s r tree code (node.Declare p d a) none = refl
branch_other s r tree code (node.Assign p a b) none = refl
branch_other s r tree code (node.Skip p) none = refl
branch_other s r tree code (node.Call p d a) none = refl
branch_other s r tree code (node.Output p a line) none = refl
branch_other s r tree code (node.Input p a) none = refl
branch_other s r tree code (node.Release p a) none = refl
branch_other s r tree code (node.If a b) none = refl
branch_other s r tree code (node.Branch p a b) none = absurd (none p a b refl)
branch_other s r tree code (node.Case p a b) none = refl
branch_other s r tree code (node.Interval low high) none = refl
branch_other s r tree code node.Others none = refl
branch_other s r tree code (node.When a b) none = refl
branch_other s r tree code (node.Loop a) none = refl
branch_other s r tree code (node.While p a b) none = refl
branch_other s r tree code (node.For p d o a b c) none = refl
branch_other s r tree code (node.Exit p a) none = refl
branch_other s r tree code (node.Return p a) none = refl
branch_other s r tree code (node.Block x a q) none = refl
branch_other s r tree code node.NoMore none = refl
branch_other s r tree code (node.More a b) none = refl

pub when_other : (s : Typing) (r : Option ℕ) (tree : ℕ → TypedTree) (code : ℕ → TypedCode) (n : TypedCodeNode)
    → ((a b : _) → n ≡ node.When a b → ⊥) → when_deep s r (typed_code_of tree code n) ≡ None
unfolding when_deep
when_other s r tree code (node.Declare p d a) none = refl
when_other s r tree code (node.Assign p a b) none = refl
when_other s r tree code (node.Skip p) none = refl
when_other s r tree code (node.Call p d a) none = refl
when_other s r tree code (node.Output p a line) none = refl
when_other s r tree code (node.Input p a) none = refl
when_other s r tree code (node.Release p a) none = refl
when_other s r tree code (node.If a b) none = refl
when_other s r tree code (node.Branch p a b) none = refl
when_other s r tree code (node.Case p a b) none = refl
when_other s r tree code (node.Interval low high) none = refl
when_other s r tree code node.Others none = refl
when_other s r tree code (node.When a b) none = absurd (none a b refl)
when_other s r tree code (node.Loop a) none = refl
when_other s r tree code (node.While p a b) none = refl
when_other s r tree code (node.For p d o a b c) none = refl
when_other s r tree code (node.Exit p a) none = refl
when_other s r tree code (node.Return p a) none = refl
when_other s r tree code (node.Block x a q) none = refl
when_other s r tree code node.NoMore none = refl
when_other s r tree code (node.More a b) none = refl
