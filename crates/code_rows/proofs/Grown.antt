-- What nodes after others add.
use Rattle.std.proofs.Common.{◌≡◌, ℕ, zero, suc, ◌+◌, ◌<◌, ◌≤◌, Bool, true, ◌&&◌, List, [], ◌∷◌, ◌++◌, length, refl, sym, ap, ◌∙◌, arith, IsTrue, get_or}
use Rattle.std.proofs.lemmas.Grind.{common_steps}
use Rattle.std.proofs.lemmas.List.{get_or_append_left}
use Rattle.std.proofs.Math.Seq.{get_or-append_seam}
use Rattle.resolved_tree.specs.Nodes.{grown, are_below}
use Rattle.code_rows.specs.declared.node.Node.{Node}
use Rattle.code_rows.specs.declared.node.Node.TheVariants as node
use Rattle.run_codes.specs.Codes.{Code, Nothing}
use Rattle.code_rows.specs.Rows.{is_below, code_of, code_at, Grew, Holds}

pub and_both : (a b : Bool) → IsTrue a → IsTrue b → IsTrue (a && b)
and_both a b p q = grind arith

pub and_first : (a b : Bool) → IsTrue (a && b) → IsTrue a
and_first a b p = grind arith

pub and_second : (a b : Bool) → IsTrue (a && b) → IsTrue b
and_second a b p = grind arith

pub end_at : {T : Type 0} (made : List T) (t none : T) (i : ℕ) → i ≡ length made → get_or (made ++ t ∷ []) i none ≡ t
end_at made t none i e = rw e (get_or-append_seam made t [] none)

-- ---- rows of any nodes

module _ {N T : Type 0} (make : (ℕ → T) → N → T) (none : T) where
  -- A node at the end makes one more, of those before it.
  grown_end : (made : List T) (nodes : List N) (n : N)
      → grown make none made (nodes ++ n ∷ [])
      ≡ grown make none made nodes ++ make (λ i. get_or (grown make none made nodes) i none) n ∷ []
  grown_end made [] n = refl
  grown_end made (m ∷ rest) n = grown_end (made ++ make (λ i. get_or made i none) m ∷ []) rest n

  length_grown : (made : List T) (nodes : List N) → length (grown make none made nodes) ≡ length made + length nodes
  length_grown made [] = omega arith
  length_grown made (m ∷ rest) =
      grind (arith, common_steps, length_grown (made ++ make (λ i. get_or made i none) m ∷ []) rest)

  -- Those that are there stay.
  grown_keeps : (made : List T) (nodes : List N) (i : ℕ) → i < length made
      → get_or (grown make none made nodes) i none ≡ get_or made i none
  grown_keeps made [] i lt = refl
  grown_keeps made (m ∷ rest) i lt =
      let more : List T = make (λ i. get_or made i none) m ∷ [] in
      let longer : i < length (made ++ more) = grind (arith, common_steps) in
      grown_keeps (made ++ more) rest i longer ∙ get_or_append_left made more none i lt

  pub grown_old : (nodes : List N) (n : N) (i : ℕ) → i < length nodes
      → get_or (grown make none [] (nodes ++ n ∷ [])) i none ≡ get_or (grown make none [] nodes) i none
  grown_old nodes n i lt =
      let all : List T = grown make none [] nodes in
      let within : i < length all = grind (arith, length_grown [] nodes) in
      ap (λ made. get_or made i none) (grown_end [] nodes n)
      ∙ get_or_append_left all (make (λ i. get_or all i none) n ∷ []) none i within

  pub grown_last : (nodes : List N) (n : N)
      → get_or (grown make none [] (nodes ++ n ∷ [])) (length nodes) none
      ≡ make (λ i. get_or (grown make none [] nodes) i none) n
  grown_last nodes n =
      let all : List T = grown make none [] nodes in
      ap (λ made. get_or made (length nodes) none) (grown_end [] nodes n)
      ∙ end_at all (make (λ i. get_or all i none) n) none (length nodes) (grind (arith, length_grown [] nodes))

module _ {N : Type 0} (below : ℕ → N → Bool) where
  below_end_at : (k j : ℕ) (nodes : List N) (n : N) → j ≡ k + length nodes → IsTrue (are_below below k nodes)
      → IsTrue (below j n) → IsTrue (are_below below k (nodes ++ n ∷ []))
  below_end_at k j [] n e all is =
      let s : k ≡ j = omega (arith, e) in
      and_both (below k n) true (rw s is) refl
  below_end_at k j (m ∷ rest) n e all is =
      let s : j ≡ (k + 1) + length rest = grind (arith, common_steps, e) in
      and_both (below k m) (are_below below (k + 1) (rest ++ n ∷ [])) (and_first (below k m) (are_below below (k + 1) rest) all)
      (below_end_at (k + 1) j rest n s (and_second (below k m) (are_below below (k + 1) rest) all) is)

  pub below_end : (nodes : List N) (n : N) → IsTrue (are_below below 0 nodes) → IsTrue (below (length nodes) n)
      → IsTrue (are_below below 0 (nodes ++ n ∷ []))
  below_end nodes n all is = below_end_at 0 (length nodes) nodes n (omega arith) all is

  pub below_at : (nodes : List N) (k i j : ℕ) (d : N) → i < length nodes → j ≡ k + i → IsTrue (are_below below k nodes)
      → IsTrue (below j (get_or nodes i d))
  below_at [] k i j d lt e all = absurd (omega (arith, lt))
  below_at (m ∷ rest) k zero j d lt e all =
      let s : j ≡ k = omega (arith, e) in rw s (and_first (below k m) (are_below below (k + 1) rest) all)
  below_at (m ∷ rest) k (suc i) j d lt e all =
      below_at rest (k + 1) i j d (grind (arith, common_steps, lt)) (omega (arith, e)) (and_second (below k m) (are_below below (k + 1) rest) all)

pub below_more : {N : Type 0} (below wider : ℕ → N → Bool) → ((k : ℕ) (n : N) → IsTrue (below k n) → IsTrue (wider k n))
    → (k : ℕ) (nodes : List N) → IsTrue (are_below below k nodes) → IsTrue (are_below wider k nodes)
below_more below wider more k [] all = all
below_more below wider more k (m ∷ rest) all =
    and_both (wider k m) (are_below wider (k + 1) rest) (more k m (and_first (below k m) (are_below below (k + 1) rest) all))
    (below_more below wider more (k + 1) rest (and_second (below k m) (are_below below (k + 1) rest) all))

-- What nodes make is the same by another maker that makes the same of each node.
pub grown_same : {N T : Type 0} (make other : (ℕ → T) → N → T) (none : T) (below : ℕ → N → Bool)
    → ((f : ℕ → T) (k : ℕ) (n : N) → IsTrue (below k n) → make f n ≡ other f n)
    → (made : List T) (k : ℕ) (nodes : List N) → IsTrue (are_below below k nodes)
    → grown make none made nodes ≡ grown other none made nodes
grown_same make other none below same made k [] all = refl
grown_same make other none below same made k (m ∷ rest) all =
    grown_same make other none below same (made ++ make (λ i. get_or made i none) m ∷ []) (k + 1) rest
    (and_second (below k m) (are_below below (k + 1) rest) all)
    ∙ ap (λ t. grown other none (made ++ t ∷ []) rest)
    (same (λ i. get_or made i none) k m (and_first (below k m) (are_below below (k + 1) rest) all))

-- Each is made of those with lower numbers.
module _ {N T : Type 0} (make : (ℕ → T) → N → T) (none : T) (below : ℕ → N → Bool)
    (same : (f g : ℕ → T) (k : ℕ) (n : N) → ((i : ℕ) → i < k → f i ≡ g i) → IsTrue (below k n) → make f n ≡ make g n) where
  pub grown_at : (nodes : List N) (made : List T) (k i j : ℕ) (d : N) → k ≡ length made → i < length nodes → j ≡ k + i
      → IsTrue (are_below below k nodes)
      → get_or (grown make none made nodes) j none
      ≡ make (λ i. get_or (grown make none made nodes) i none) (get_or nodes i d)
  grown_at [] made k i j d ek lt e all = absurd (omega (arith, lt))
  grown_at (m ∷ rest) made k zero j d ek lt e all =
      let one : T = make (λ i. get_or made i none) m in
      let more : List T = one ∷ [] in
      let last : j ≡ length made = omega (arith, e, ek) in
      let within : j < length (made ++ more) = grind (arith, common_steps, last) in
      let keeps : (i : ℕ) → i < k → get_or made i none ≡ get_or (grown make none (made ++ more) rest) i none =
      λ i lt. let lt : i < length made = omega (arith, ek, lt) in
      sym (grown_keeps make none (made ++ more) rest i (grind (arith, common_steps, lt))
      ∙ get_or_append_left made more none i lt) in
      grown_keeps make none (made ++ more) rest j within ∙ end_at made one none j last
      ∙ same (λ i. get_or made i none) (λ i. get_or (grown make none (made ++ more) rest) i none) k m keeps
      (and_first (below k m) (are_below below (k + 1) rest) all)
  grown_at (m ∷ rest) made k (suc i) j d ek lt e all =
      let more : List T = make (λ i. get_or made i none) m ∷ [] in
      grown_at rest (made ++ more) (k + 1) i j d (grind (arith, common_steps, ek)) (grind (arith, common_steps, lt))
      (omega (arith, e)) (and_second (below k m) (are_below below (k + 1) rest) all)

code_same : (f g : ℕ → Code) (k : ℕ) (n : Node) → ((i : ℕ) → i < k → f i ≡ g i) → IsTrue (is_below k n) → code_of f n ≡ code_of g n
code_same f g k (node.Number v) e is = refl
code_same f g k (node.Local at) e is = refl
code_same f g k (node.LocalAt at i) e is = grind (arith, e i)
code_same f g k (node.Global at) e is = refl
code_same f g k (node.GlobalAt at i) e is = grind (arith, e i)
code_same f g k (node.Via a o kind) e is = grind (arith, e a)
code_same f g k (node.ViaLocal at o kind) e is = refl
code_same f g k (node.ViaAt a o i kind) e is = grind (arith, e a, e i)
code_same f g k (node.Scaled i low high size) e is = grind (arith, e i)
code_same f g k (node.Plus a b) e is = grind (arith, e a, e b)
code_same f g k (node.Unary op a) e is = grind (arith, e a)
code_same f g k (node.Binary op a b) e is = grind (arith, e a, e b)
code_same f g k (node.WithNumber op a v) e is = grind (arith, e a)
code_same f g k (node.Short op a b) e is = grind (arith, e a, e b)
code_same f g k (node.IsNull equal a) e is = grind (arith, e a)
code_same f g k (node.Waiting at) e is = refl
code_same f g k node.EndOfFile e is = refl

pub node_code : (nodes : List Node) (i : ℕ) (d n : Node) → n ≡ get_or nodes i d → i < length nodes
    → IsTrue (are_below is_below 0 nodes) → code_at nodes i ≡ code_of (code_at nodes) n
unfolding code_at
node_code nodes i d n is lt all = rw is (grown_at code_of Nothing is_below code_same nodes [] 0 i i d refl lt (omega arith) all)

pub node_below : (nodes : List Node) (i : ℕ) (d n : Node) → n ≡ get_or nodes i d → i < length nodes
    → IsTrue (are_below is_below 0 nodes) → IsTrue (is_below i n)
node_below nodes i d n is lt all = rw is (below_at is_below nodes 0 i i d lt (omega arith) all)

pub order_node : (nodes : List Node) (n : Node) → IsTrue (are_below is_below 0 nodes) → IsTrue (is_below (length nodes) n)
    → IsTrue (are_below is_below 0 (nodes ++ n ∷ []))
order_node nodes n all is = below_end is_below nodes n all is

pub grew_node : (nodes : List Node) (n : Node) → Grew nodes (nodes ++ n ∷ [])
unfolding code_at
grew_node nodes n = record {
  more = grind (arith, common_steps);
  same = grown_old code_of Nothing nodes n;
}

pub last_node : (nodes : List Node) (n : Node) → Holds (nodes ++ n ∷ []) (length nodes) (code_of (code_at nodes) n)
unfolding code_at
last_node nodes n = (grind (arith, common_steps), grown_last code_of Nothing nodes n)

pub grew_none : (nodes : List Node) → Grew nodes nodes
grew_none nodes = record { more = omega arith; same = λ i lt. refl }

pub grew_on : (a b c : List Node) → Grew a b → Grew b c → Grew a c
grew_on a b c p q = record {
  more = omega (arith, p.more, q.more);
  same = λ i lt. q.same i (omega (arith, lt, p.more)) ∙ p.same i lt;
}

pub kept : (a b : List Node) (i : ℕ) → Grew a b → i < length a → code_at b i ≡ code_at a i
kept a b i p lt = p.same i lt

pub kept_there : (a b : List Node) (i : ℕ) → Grew a b → i < length a → i < length b
kept_there a b i p lt = omega (arith, lt, p.more)
