-- What marks say of calls.
use Rattle.std.proofs.Common.{◌≡◌, ◌<◌, ◌≤◌, ℕ, suc, Bool, true, false, ◌&&◌, ◌||◌, List, [], ◌∷◌, ◌++◌, length, get_or, IsTrue, refl, sym, ap, ◌∙◌, arith, ltb-true, nat_lt}
use Rattle.std.proofs.lemmas.List.{get_or_append_left}
use Rattle.std.proofs.Math.Seq.{get_or-append_seam}
use Rattle.typed_tree.specs.declared.node.TypedNode.{TypedNode}
use Rattle.typed_tree.specs.declared.node.TypedNode.TheVariants as node
use Rattle.typed_tree.specs.Trees.{TypedTree, NoMore}
use Rattle.typed_tree.specs.Nodes.{TypedNodes, is_below, typed_of, typed_at}
use Rattle.flow_paths.specs.Names.{has_call}
use Rattle.flow_acts.specs.Calls.{node_calls, AreCalls}
use Rattle.flow_acts.proofs.Reading.{past, typed_past}

-- The first so many marks are right.
abbrev pub IsMarked : TypedNodes → List Bool → ℕ → Type 0
IsMarked rows marks n = (i : ℕ) → i < n → get_or marks i false ≡ has_call (typed_at rows i)

pub first_below : (k i j : ℕ) → IsTrue (nat_lt i k && nat_lt j k) → i < k
first_below k i j e = grind arith

pub second_below : (k i j : ℕ) → IsTrue (nat_lt i k && nat_lt j k) → j < k
second_below k i j e = grind arith

two : (a b c d : Bool) → a ≡ c → b ≡ d → (a || b) ≡ (c || d)
two a b c d e f = ap (λ x. x || b) e ∙ ap (λ x. c || x) f

-- A node has a call where its parts say so.
pub node_has_call : (tree : ℕ → TypedTree) (calls : ℕ → Bool) (k : ℕ) (n : TypedNode)
    → ((i : ℕ) → i < k → calls i ≡ has_call (tree i)) → IsTrue (is_below k n)
    → node_calls calls n ≡ has_call (typed_of tree n)
unfolding has_call
node_has_call tree calls k (node.Number v) same below = refl
node_has_call tree calls k (node.Literal v) same below = refl
node_has_call tree calls k node.Null same below = refl
node_has_call tree calls k (node.Text v) same below = refl
node_has_call tree calls k (node.Name p d a t) same below = same a (ltb-true _ _ below)
node_has_call tree calls k (node.Component i a) same below = same a (ltb-true _ _ below)
node_has_call tree calls k (node.Designated a) same below = same a (ltb-true _ _ below)
node_has_call tree calls k (node.Element a low high b) same below =
    two _ _ _ _ (same a (first_below k a b below)) (same b (second_below k a b below))
node_has_call tree calls k (node.Call p s a) same below = refl
node_has_call tree calls k node.EndOfFile same below = refl
node_has_call tree calls k (node.Parens a) same below = same a (ltb-true _ _ below)
node_has_call tree calls k (node.Image t a) same below = same a (ltb-true _ _ below)
node_has_call tree calls k (node.Unary op a) same below = same a (ltb-true _ _ below)
node_has_call tree calls k (node.Binary op a b) same below =
    two _ _ _ _ (same a (first_below k a b below)) (same b (second_below k a b below))
node_has_call tree calls k (node.Short op p a q b) same below =
    two _ _ _ _ (same a (first_below k a b below)) (same b (second_below k a b below))
node_has_call tree calls k (node.IsNull equal a) same below = same a (ltb-true _ _ below)
node_has_call tree calls k (node.Aggregate t a) same below = same a (ltb-true _ _ below)
node_has_call tree calls k (node.Alike t a) same below = same a (ltb-true _ _ below)
node_has_call tree calls k (node.New t a) same below = same a (ltb-true _ _ below)
node_has_call tree calls k node.NoMore same below = refl
node_has_call tree calls k (node.More a b) same below =
    two _ _ _ _ (same a (first_below k a b below)) (same b (second_below k a b below))

-- One more mark.
pub marks_on : (rows : TypedNodes) (marks : List Bool) (n : ℕ) (mark : Bool) → length marks ≡ n → IsMarked rows marks n
    → mark ≡ has_call (typed_at rows n) → IsMarked rows (marks ++ mark ∷ []) (suc n)
marks_on rows marks n mark long all is i less = at_one (nat_lt i n) refl
  where
    at_one : (b : Bool) → nat_lt i n ≡ b → get_or (marks ++ mark ∷ []) i false ≡ has_call (typed_at rows i)
    at_one true e =
        let within : i < length marks = grind (arith, e, long) in
        get_or_append_left marks (mark ∷ []) false i within ∙ all i (ltb-true _ _ e)
    at_one false e =
        let last : i ≡ length marks = grind (arith, e, long, less) in
        let at : i ≡ n = last ∙ long in
        rw at (rw (sym long) (get_or-append_seam marks mark [] false) ∙ is)

-- Marks of all trees are the marks of all numbers.
pub marks_all : (rows : TypedNodes) (marks : List Bool) (n : ℕ) → length marks ≡ n → length rows.0 ≤ n → IsMarked rows marks n
    → AreCalls rows marks
unfolding has_call
marks_all rows marks n long le all i = at_one (nat_lt i n) refl
  where
    at_one : (b : Bool) → nat_lt i n ≡ b → get_or marks i false ≡ has_call (typed_at rows i)
    at_one true e = all i (ltb-true _ _ e)
    at_one false e =
        let none : typed_at rows i ≡ NoMore = typed_past rows i (grind (arith, e, le)) in
        past marks i false (grind (arith, e, long)) ∙ sym (ap has_call none)
