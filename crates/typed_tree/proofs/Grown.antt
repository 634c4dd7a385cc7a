-- What nodes add to those before them.
use Rattle.std.proofs.Common.{◌≡◌, ℕ, zero, suc, ◌+◌, ◌<◌, ◌≤◌, Bool, true, ◌&&◌, List, [], ◌∷◌, ◌++◌, length, refl, sym, ap, ◌∙◌, arith, IsTrue, get_or}
use Rattle.std.proofs.lemmas.Grind.{common_steps}
use Rattle.std.proofs.lemmas.List.{get_or_append_left}
use Rattle.std.proofs.Math.Seq.{get_or-append_seam}
use Rattle.type_definitions.specs.resolved_tree.Nodes.{grown, are_below}
use Rattle.typed_tree.specs.declared.node.TypedNode.{TypedNode}
use Rattle.typed_tree.specs.declared.node.TypedNode.TheVariants as node
use Rattle.typed_tree.specs.declared.code_node.TypedCodeNode.{TypedCodeNode}
use Rattle.typed_tree.specs.declared.code_node.TypedCodeNode.TheVariants as code_node
use Rattle.typed_tree.specs.Trees.{TypedTree, TypedCode, NoMore}
use Rattle.typed_tree.specs.Nodes.{TypedNodes, is_below, is_code_below, typed_of, typed_code_of, typed_at, typed_code_at, in_order, Grew, Holds, HoldsCode}

and_both : (a b : Bool) → IsTrue a → IsTrue b → IsTrue (a && b)
and_both a b p q = grind arith

and_first : (a b : Bool) → IsTrue (a && b) → IsTrue a
and_first a b p = grind arith

and_second : (a b : Bool) → IsTrue (a && b) → IsTrue b
and_second a b p = grind arith

end_at : {T : Type 0} (made : List T) (t none : T) (i : ℕ) → i ≡ length made → get_or (made ++ t ∷ []) i none ≡ t
end_at made t none i e = rw e (get_or-append_seam made t [] none)

-- ---- rows of any nodes

module _ {N T : Type 0} (make : (ℕ → T) → N → T) (none : T) where
  -- A node at the end makes one more, of those before it.
  grown_end : (made : List T) (nodes : List N) (n : N)
      → grown make none made (nodes ++ n ∷ [])
      ≡ grown make none made nodes ++ make (λ i. get_or (grown make none made nodes) i none) n ∷ []
  grown_end made [] n = refl
  grown_end made (m ∷ rest) n = grown_end (made ++ make (λ i. get_or made i none) m ∷ []) rest n

  length_grown : (made : List T) (nodes : List N) → length (grown make none made nodes) ≡ length made + length nodes
  length_grown made [] = omega arith
  length_grown made (m ∷ rest) =
      grind (arith, common_steps, length_grown (made ++ make (λ i. get_or made i none) m ∷ []) rest)

  -- Those that are there stay.
  grown_keeps : (made : List T) (nodes : List N) (i : ℕ) → i < length made
      → get_or (grown make none made nodes) i none ≡ get_or made i none
  grown_keeps made [] i lt = refl
  grown_keeps made (m ∷ rest) i lt =
      let more : List T = make (λ i. get_or made i none) m ∷ [] in
      let longer : i < length (made ++ more) = grind (arith, common_steps) in
      grown_keeps (made ++ more) rest i longer ∙ get_or_append_left made more none i lt

  grown_old : (nodes : List N) (n : N) (i : ℕ) → i < length nodes
      → get_or (grown make none [] (nodes ++ n ∷ [])) i none ≡ get_or (grown make none [] nodes) i none
  grown_old nodes n i lt =
      let all : List T = grown make none [] nodes in
      let within : i < length all = grind (arith, length_grown [] nodes) in
      ap (λ made. get_or made i none) (grown_end [] nodes n)
      ∙ get_or_append_left all (make (λ i. get_or all i none) n ∷ []) none i within

  grown_last : (nodes : List N) (n : N)
      → get_or (grown make none [] (nodes ++ n ∷ [])) (length nodes) none
      ≡ make (λ i. get_or (grown make none [] nodes) i none) n
  grown_last nodes n =
      let all : List T = grown make none [] nodes in
      ap (λ made. get_or made (length nodes) none) (grown_end [] nodes n)
      ∙ end_at all (make (λ i. get_or all i none) n) none (length nodes) (grind (arith, length_grown [] nodes))

module _ {N : Type 0} (below : ℕ → N → Bool) where
  below_end_at : (k j : ℕ) (nodes : List N) (n : N) → j ≡ k + length nodes → IsTrue (are_below below k nodes)
      → IsTrue (below j n) → IsTrue (are_below below k (nodes ++ n ∷ []))
  below_end_at k j [] n e all is =
      let s : k ≡ j = omega (arith, e) in
      and_both (below k n) true (rw s is) refl
  below_end_at k j (m ∷ rest) n e all is =
      let s : j ≡ (k + 1) + length rest = grind (arith, common_steps, e) in
      and_both (below k m) (are_below below (k + 1) (rest ++ n ∷ [])) (and_first (below k m) (are_below below (k + 1) rest) all)
      (below_end_at (k + 1) j rest n s (and_second (below k m) (are_below below (k + 1) rest) all) is)

  below_end : (nodes : List N) (n : N) → IsTrue (are_below below 0 nodes) → IsTrue (below (length nodes) n)
      → IsTrue (are_below below 0 (nodes ++ n ∷ []))
  below_end nodes n all is = below_end_at 0 (length nodes) nodes n (omega arith) all is

  below_at : (nodes : List N) (k i j : ℕ) (d : N) → i < length nodes → j ≡ k + i → IsTrue (are_below below k nodes)
      → IsTrue (below j (get_or nodes i d))
  below_at [] k i j d lt e all = absurd (omega (arith, lt))
  below_at (m ∷ rest) k zero j d lt e all =
      let s : j ≡ k = omega (arith, e) in rw s (and_first (below k m) (are_below below (k + 1) rest) all)
  below_at (m ∷ rest) k (suc i) j d lt e all =
      below_at rest (k + 1) i j d (grind (arith, common_steps, lt)) (omega (arith, e)) (and_second (below k m) (are_below below (k + 1) rest) all)

below_more : {N : Type 0} (below wider : ℕ → N → Bool) → ((k : ℕ) (n : N) → IsTrue (below k n) → IsTrue (wider k n))
    → (k : ℕ) (nodes : List N) → IsTrue (are_below below k nodes) → IsTrue (are_below wider k nodes)
below_more below wider more k [] all = all
below_more below wider more k (m ∷ rest) all =
    and_both (wider k m) (are_below wider (k + 1) rest) (more k m (and_first (below k m) (are_below below (k + 1) rest) all))
    (below_more below wider more (k + 1) rest (and_second (below k m) (are_below below (k + 1) rest) all))

-- What nodes make is the same by another maker that makes the same of each node.
grown_same : {N T : Type 0} (make other : (ℕ → T) → N → T) (none : T) (below : ℕ → N → Bool)
    → ((f : ℕ → T) (k : ℕ) (n : N) → IsTrue (below k n) → make f n ≡ other f n)
    → (made : List T) (k : ℕ) (nodes : List N) → IsTrue (are_below below k nodes)
    → grown make none made nodes ≡ grown other none made nodes
grown_same make other none below same made k [] all = refl
grown_same make other none below same made k (m ∷ rest) all =
    grown_same make other none below same (made ++ make (λ i. get_or made i none) m ∷ []) (k + 1) rest
    (and_second (below k m) (are_below below (k + 1) rest) all)
    ∙ ap (λ t. grown other none (made ++ t ∷ []) rest)
    (same (λ i. get_or made i none) k m (and_first (below k m) (are_below below (k + 1) rest) all))

-- Each is made of those with lower numbers.
module _ {N T : Type 0} (make : (ℕ → T) → N → T) (none : T) (below : ℕ → N → Bool)
    (same : (f g : ℕ → T) (k : ℕ) (n : N) → ((i : ℕ) → i < k → f i ≡ g i) → IsTrue (below k n) → make f n ≡ make g n) where
  grown_at : (nodes : List N) (made : List T) (k i j : ℕ) (d : N) → k ≡ length made → i < length nodes → j ≡ k + i
      → IsTrue (are_below below k nodes)
      → get_or (grown make none made nodes) j none
      ≡ make (λ i. get_or (grown make none made nodes) i none) (get_or nodes i d)
  grown_at [] made k i j d ek lt e all = absurd (omega (arith, lt))
  grown_at (m ∷ rest) made k zero j d ek lt e all =
      let one : T = make (λ i. get_or made i none) m in
      let more : List T = one ∷ [] in
      let last : j ≡ length made = omega (arith, e, ek) in
      let within : j < length (made ++ more) = grind (arith, common_steps, last) in
      let keeps : (i : ℕ) → i < k → get_or made i none ≡ get_or (grown make none (made ++ more) rest) i none =
      λ i lt. let lt : i < length made = omega (arith, ek, lt) in
      sym (grown_keeps make none (made ++ more) rest i (grind (arith, common_steps, lt))
      ∙ get_or_append_left made more none i lt) in
      grown_keeps make none (made ++ more) rest j within ∙ end_at made one none j last
      ∙ same (λ i. get_or made i none) (λ i. get_or (grown make none (made ++ more) rest) i none) k m keeps
      (and_first (below k m) (are_below below (k + 1) rest) all)
  grown_at (m ∷ rest) made k (suc i) j d ek lt e all =
      let more : List T = make (λ i. get_or made i none) m ∷ [] in
      grown_at rest (made ++ more) (k + 1) i j d (grind (arith, common_steps, ek)) (grind (arith, common_steps, lt))
      (omega (arith, e)) (and_second (below k m) (are_below below (k + 1) rest) all)

-- ---- what a node makes of the same parts

tree_same : (f g : ℕ → TypedTree) (k : ℕ) (n : TypedNode) → ((i : ℕ) → i < k → f i ≡ g i) → IsTrue (is_below k n)
    → typed_of f n ≡ typed_of g n
tree_same f g k (node.Number v) e is = refl
tree_same f g k (node.Literal v) e is = refl
tree_same f g k node.Null e is = refl
tree_same f g k (node.Text v) e is = refl
tree_same f g k (node.Name p d a t) e is = grind (arith, e a)
tree_same f g k (node.Component v a) e is = grind (arith, e a)
tree_same f g k (node.Designated a) e is = grind (arith, e a)
tree_same f g k (node.Element a low high b) e is = grind (arith, e a, e b)
tree_same f g k (node.Call p s a) e is = grind (arith, e a)
tree_same f g k node.EndOfFile e is = refl
tree_same f g k (node.Parens a) e is = grind (arith, e a)
tree_same f g k (node.Image t a) e is = grind (arith, e a)
tree_same f g k (node.Unary op a) e is = grind (arith, e a)
tree_same f g k (node.Binary op a b) e is = grind (arith, e a, e b)
tree_same f g k (node.Short op p a q b) e is = grind (arith, e a, e b)
tree_same f g k (node.IsNull equal a) e is = grind (arith, e a)
tree_same f g k (node.Aggregate t a) e is = grind (arith, e a)
tree_same f g k (node.Alike t a) e is = grind (arith, e a)
tree_same f g k (node.New t a) e is = grind (arith, e a)
tree_same f g k node.NoMore e is = refl
tree_same f g k (node.More a b) e is = grind (arith, e a, e b)

code_same : (f g : ℕ → TypedTree) (h k : ℕ → TypedCode) (m n : ℕ) (c : TypedCodeNode) → ((i : ℕ) → i < m → f i ≡ g i)
    → ((i : ℕ) → i < n → h i ≡ k i) → IsTrue (is_code_below m n c) → typed_code_of f h c ≡ typed_code_of g k c
code_same f g h k m n (code_node.Declare p o a) e d is = grind (arith, e a)
code_same f g h k m n (code_node.Assign p a b) e d is = grind (arith, e a, e b)
code_same f g h k m n (code_node.Skip p) e d is = refl
code_same f g h k m n (code_node.Call p s a) e d is = grind (arith, e a)
code_same f g h k m n (code_node.Output p a line) e d is = grind (arith, e a)
code_same f g h k m n (code_node.Input p a) e d is = grind (arith, e a)
code_same f g h k m n (code_node.Release p a) e d is = grind (arith, e a)
code_same f g h k m n (code_node.If a b) e d is = grind (arith, d a, d b)
code_same f g h k m n (code_node.Branch p a b) e d is = grind (arith, e a, d b)
code_same f g h k m n (code_node.Case p a b) e d is = grind (arith, e a, d b)
code_same f g h k m n (code_node.Interval low high) e d is = refl
code_same f g h k m n code_node.Others e d is = refl
code_same f g h k m n (code_node.When a b) e d is = grind (arith, d a, d b)
code_same f g h k m n (code_node.Loop a) e d is = grind (arith, d a)
code_same f g h k m n (code_node.While p a b) e d is = grind (arith, e a, d b)
code_same f g h k m n (code_node.For p o r a b c) e d is = grind (arith, e a, e b, d c)
code_same f g h k m n (code_node.Exit p a) e d is = grind (arith, e a)
code_same f g h k m n (code_node.Return p a) e d is = grind (arith, e a)
code_same f g h k m n (code_node.Block s a q) e d is = grind (arith, d a)
code_same f g h k m n code_node.NoMore e d is = refl
code_same f g h k m n (code_node.More a b) e d is = grind (arith, d a, d b)

code_more : (m more n : ℕ) (c : TypedCodeNode) → m ≤ more → IsTrue (is_code_below m n c) → IsTrue (is_code_below more n c)
code_more m more n (code_node.Declare p o a) le is = grind arith
code_more m more n (code_node.Assign p a b) le is = grind arith
code_more m more n (code_node.Skip p) le is = is
code_more m more n (code_node.Call p s a) le is = grind arith
code_more m more n (code_node.Output p a line) le is = grind arith
code_more m more n (code_node.Input p a) le is = grind arith
code_more m more n (code_node.Release p a) le is = grind arith
code_more m more n (code_node.If a b) le is = is
code_more m more n (code_node.Branch p a b) le is = grind arith
code_more m more n (code_node.Case p a b) le is = grind arith
code_more m more n (code_node.Interval low high) le is = is
code_more m more n code_node.Others le is = is
code_more m more n (code_node.When a b) le is = is
code_more m more n (code_node.Loop a) le is = is
code_more m more n (code_node.While p a b) le is = grind arith
code_more m more n (code_node.For p o r a b c) le is = grind arith
code_more m more n (code_node.Exit p a) le is = grind arith
code_more m more n (code_node.Return p a) le is = grind arith
code_more m more n (code_node.Block s a q) le is = is
code_more m more n code_node.NoMore le is = is
code_more m more n (code_node.More a b) le is = is

-- ---- the rows

trees_kept : (nodes : List TypedNode) (codes : List TypedCodeNode) (n : TypedNode) (i : ℕ) → i < length nodes
    → typed_at (nodes ++ n ∷ [], codes) i ≡ typed_at (nodes, codes) i
unfolding typed_at
trees_kept nodes codes n i lt = grown_old typed_of NoMore nodes n i lt

pub order_tree : (nodes : List TypedNode) (codes : List TypedCodeNode) (n : TypedNode) → IsTrue (in_order (nodes, codes))
    → IsTrue (is_below (length nodes) n) → IsTrue (in_order (nodes ++ n ∷ [], codes))
order_tree nodes codes n all is =
    let before : IsTrue (are_below is_below 0 nodes) =
    and_first (are_below is_below 0 nodes) (are_below (is_code_below (length nodes)) 0 codes) all in
    let behind : IsTrue (are_below (is_code_below (length nodes)) 0 codes) =
    and_second (are_below is_below 0 nodes) (are_below (is_code_below (length nodes)) 0 codes) all in
    let longer : length nodes ≤ length (nodes ++ n ∷ []) = grind (arith, common_steps) in
    and_both (are_below is_below 0 (nodes ++ n ∷ [])) (are_below (is_code_below (length (nodes ++ n ∷ []))) 0 codes)
    (below_end is_below nodes n before is)
    (below_more (is_code_below (length nodes)) (is_code_below (length (nodes ++ n ∷ [])))
    (λ k c below. code_more (length nodes) (length (nodes ++ n ∷ [])) k c longer below) 0 codes behind)

pub order_code : (nodes : List TypedNode) (codes : List TypedCodeNode) (c : TypedCodeNode) → IsTrue (in_order (nodes, codes))
    → IsTrue (is_code_below (length nodes) (length codes) c) → IsTrue (in_order (nodes, codes ++ c ∷ []))
order_code nodes codes c all is =
    and_both (are_below is_below 0 nodes) (are_below (is_code_below (length nodes)) 0 (codes ++ c ∷ []))
    (and_first (are_below is_below 0 nodes) (are_below (is_code_below (length nodes)) 0 codes) all)
    (below_end (is_code_below (length nodes)) codes c
    (and_second (are_below is_below 0 nodes) (are_below (is_code_below (length nodes)) 0 codes) all) is)

-- Another tree keeps the code, whose parts are below it.
pub grew_tree : (nodes : List TypedNode) (codes : List TypedCodeNode) (n : TypedNode) → IsTrue (in_order (nodes, codes))
    → Grew (nodes, codes) (nodes ++ n ∷ [], codes)
unfolding typed_code_at
grew_tree nodes codes n all =
    let old : ℕ → TypedTree = typed_at (nodes, codes) in
    let new : ℕ → TypedTree = typed_at (nodes ++ n ∷ [], codes) in
    record {
      more_trees = grind (arith, common_steps);
      same_trees = λ i lt. trees_kept nodes codes n i lt;
      more_code = omega arith;
      same_code = λ i lt. ap (λ made. get_or made i NoMore)
          (grown_same (typed_code_of new) (typed_code_of old) NoMore (is_code_below (length nodes))
          (λ f k c is. code_same new old f f (length nodes) k c (λ i lt. trees_kept nodes codes n i lt) (λ i lt. refl) is)
          [] 0 codes (and_second (are_below is_below 0 nodes) (are_below (is_code_below (length nodes)) 0 codes) all));
    }

pub grew_code : (nodes : List TypedNode) (codes : List TypedCodeNode) (c : TypedCodeNode) → Grew (nodes, codes) (nodes, codes ++ c ∷ [])
unfolding typed_at typed_code_at
grew_code nodes codes c = record {
  more_trees = omega arith;
  same_trees = λ i lt. refl;
  more_code = grind (arith, common_steps);
  same_code = λ i lt. grown_old (typed_code_of (typed_at (nodes, codes))) NoMore codes c i lt;
}

pub end_tree : (nodes : List TypedNode) (codes : List TypedCodeNode) (n : TypedNode)
    → Holds (nodes ++ n ∷ [], codes) (length nodes) (typed_of (typed_at (nodes, codes)) n)
unfolding typed_at
end_tree nodes codes n = (grind (arith, common_steps), grown_last typed_of NoMore nodes n)

pub end_code : (nodes : List TypedNode) (codes : List TypedCodeNode) (c : TypedCodeNode)
    → HoldsCode (nodes, codes ++ c ∷ []) (length codes) (typed_code_of (typed_at (nodes, codes)) (typed_code_at (nodes, codes)) c)
unfolding typed_at typed_code_at
end_code nodes codes c = (grind (arith, common_steps), grown_last (typed_code_of (typed_at (nodes, codes))) NoMore codes c)

pub node_tree : (nodes : List TypedNode) (codes : List TypedCodeNode) (i : ℕ) (d n : TypedNode) → n ≡ get_or nodes i d → i < length nodes
    → IsTrue (in_order (nodes, codes)) → typed_at (nodes, codes) i ≡ typed_of (typed_at (nodes, codes)) n
unfolding typed_at
node_tree nodes codes i d n is lt all =
    rw is (grown_at typed_of NoMore is_below tree_same nodes [] 0 i i d refl lt (omega arith)
    (and_first (are_below is_below 0 nodes) (are_below (is_code_below (length nodes)) 0 codes) all))

pub node_below : (nodes : List TypedNode) (codes : List TypedCodeNode) (i : ℕ) (d n : TypedNode) → n ≡ get_or nodes i d → i < length nodes
    → IsTrue (in_order (nodes, codes)) → IsTrue (is_below i n)
node_below nodes codes i d n is lt all =
    rw is (below_at is_below nodes 0 i i d lt (omega arith)
    (and_first (are_below is_below 0 nodes) (are_below (is_code_below (length nodes)) 0 codes) all))

pub code_tree : (nodes : List TypedNode) (codes : List TypedCodeNode) (i : ℕ) (d c : TypedCodeNode) → c ≡ get_or codes i d → i < length codes
    → IsTrue (in_order (nodes, codes)) → typed_code_at (nodes, codes) i ≡ typed_code_of (typed_at (nodes, codes)) (typed_code_at (nodes, codes)) c
unfolding typed_code_at
code_tree nodes codes i d c is lt all =
    let tree : ℕ → TypedTree = typed_at (nodes, codes) in
    rw is (grown_at (typed_code_of tree) NoMore (is_code_below (length nodes))
    (λ h k n c same below. code_same tree tree h k (length nodes) n c (λ i lt. refl) same below)
    codes [] 0 i i d refl lt (omega arith)
    (and_second (are_below is_below 0 nodes) (are_below (is_code_below (length nodes)) 0 codes) all))

pub code_below : (nodes : List TypedNode) (codes : List TypedCodeNode) (i : ℕ) (d c : TypedCodeNode) → c ≡ get_or codes i d → i < length codes
    → IsTrue (in_order (nodes, codes)) → IsTrue (is_code_below (length nodes) i c)
code_below nodes codes i d c is lt all =
    rw is (below_at (is_code_below (length nodes)) codes 0 i i d lt (omega arith)
    (and_second (are_below is_below 0 nodes) (are_below (is_code_below (length nodes)) 0 codes) all))

-- ---- for those who make trees

pub grew_none : (rows : TypedNodes) → Grew rows rows
grew_none rows = record {
  more_trees = omega arith;
  same_trees = λ i lt. refl;
  more_code = omega arith;
  same_code = λ i lt. refl;
}

pub grew_on : (a b c : TypedNodes) → Grew a b → Grew b c → Grew a c
grew_on a b c f g = record {
  more_trees = omega (arith, f.more_trees, g.more_trees);
  same_trees = λ i lt. g.same_trees i (omega (arith, lt, f.more_trees)) ∙ f.same_trees i lt;
  more_code = omega (arith, f.more_code, g.more_code);
  same_code = λ i lt. g.same_code i (omega (arith, lt, f.more_code)) ∙ f.same_code i lt;
}

pub kept : (a b : TypedNodes) (i : ℕ) → Grew a b → i < length a.0 → typed_at b i ≡ typed_at a i
kept a b i g lt = g.same_trees i lt

pub kept_code : (a b : TypedNodes) (i : ℕ) → Grew a b → i < length a.1 → typed_code_at b i ≡ typed_code_at a i
kept_code a b i g lt = g.same_code i lt
