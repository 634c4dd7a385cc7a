-- Whether a node asks for the end of the file is known from its parts.
use Rattle.std.proofs.Common.{◌≡◌, refl, sym, ap, ◌∙◌, ℕ, ◌<◌, ◌≤◌, ◌+◌, Bool, true, false, ◌&&◌, ◌||◌, nat_lt, ltb-true, List, [], ◌∷◌, ◌++◌, length, get_or, IsTrue, inl, inr, arith}
use Rattle.std.proofs.Math.ListN.{get_or-eq_default}
use Rattle.std.proofs.Math.Seq.{get_or-append_seam}
use Rattle.std.proofs.lemmas.Grind.{common_steps}
use Rattle.std.proofs.lemmas.Bool.{cases_lt}
use Rattle.std.proofs.lemmas.List.{get_or_append_left}
use Rattle.place_names.proofs.Names.{both_parts}
use Rattle.resolved_tree.specs.Nodes.{grown}
use Rattle.typed_tree.specs.declared.node.TypedNode.{TypedNode}
use Rattle.typed_tree.specs.declared.node.TypedNode.TheVariants as node
use Rattle.typed_tree.specs.Trees.{TypedTree, NoMore}
use Rattle.typed_tree.specs.Nodes.{TypedNodes, is_below, typed_of, typed_at}
use Rattle.flow_paths.specs.Effects.{asks_for_end}
use Rattle.call_effects.specs.Uses.{node_asks, AreAsked}

-- What is known of the trees below n.
abbrev pub Known : ℕ → (ℕ → Bool) → (ℕ → TypedTree) → Type 0
Known n asked tree = (i : ℕ) → i < n → asked i ≡ asks_for_end (tree i)

one : (n : ℕ) (asked : ℕ → Bool) (tree : ℕ → TypedTree) → Known n asked tree → (a : ℕ) → nat_lt a n ≡ true → asked a ≡ asks_for_end (tree a)
one n asked tree known a e = known a (ltb-true a n e)

two : (n : ℕ) (asked : ℕ → Bool) (tree : ℕ → TypedTree) → Known n asked tree → (a b : ℕ) → (nat_lt a n && nat_lt b n) ≡ true → (asked a || asked b) ≡ (asks_for_end (tree a) || asks_for_end (tree b))
two n asked tree known a b e =
    let both = both_parts (nat_lt a n) (nat_lt b n) e in
    ap (λ x. x || asked b) (one n asked tree known a both.0) ∙ ap (λ x. asks_for_end (tree a) || x) (one n asked tree known b both.1)

pub node_asked : (n : ℕ) (asked : ℕ → Bool) (tree : ℕ → TypedTree) → Known n asked tree
    → (x : TypedNode) → is_below n x ≡ true → node_asks asked x ≡ asks_for_end (typed_of tree x)
unfolding asks_for_end
node_asked n asked tree known (node.Number v) e = refl
node_asked n asked tree known (node.Literal v) e = refl
node_asked n asked tree known node.Null e = refl
node_asked n asked tree known (node.Text v) e = refl
node_asked n asked tree known (node.Name p d a t) e = one n asked tree known a e
node_asked n asked tree known (node.Component k a) e = one n asked tree known a e
node_asked n asked tree known (node.Designated a) e = one n asked tree known a e
node_asked n asked tree known (node.Element a low high b) e = two n asked tree known a b e
node_asked n asked tree known (node.Call p s a) e = one n asked tree known a e
node_asked n asked tree known node.EndOfFile e = refl
node_asked n asked tree known (node.Parens a) e = one n asked tree known a e
node_asked n asked tree known (node.Image t a) e = one n asked tree known a e
node_asked n asked tree known (node.Unary op a) e = one n asked tree known a e
node_asked n asked tree known (node.Binary op a b) e = two n asked tree known a b e
node_asked n asked tree known (node.Short op p a q b) e = two n asked tree known a b e
node_asked n asked tree known (node.IsNull equal a) e = one n asked tree known a e
node_asked n asked tree known (node.Aggregate t a) e = one n asked tree known a e
node_asked n asked tree known (node.Alike t a) e = one n asked tree known a e
node_asked n asked tree known (node.New t a) e = one n asked tree known a e
node_asked n asked tree known node.NoMore e = refl
node_asked n asked tree known (node.More a b) e = two n asked tree known a b e

length_grown : {N T : Type 0} (make : (ℕ → T) → N → T) (none : T) (made : List T) (nodes : List N)
    → length (grown make none made nodes) ≡ length made + length nodes
length_grown make none made [] = omega arith
length_grown make none made (m ∷ rest) =
    grind (arith, common_steps, length_grown make none (made ++ make (λ i. get_or made i none) m ∷ []) rest)

-- past the end there is nothing that asks
pub past_asks : (rows : TypedNodes) (i : ℕ) → length rows.0 ≤ i → asks_for_end (typed_at rows i) ≡ false
unfolding typed_at asks_for_end
past_asks rows i h =
    let size = length_grown typed_of NoMore [] rows.0 in
    ap asks_for_end (get_or-eq_default (grown typed_of NoMore [] rows.0) NoMore (omega (arith, size)))

pub asked_all : (rows : TypedNodes) (asked : List Bool) → length asked ≡ length rows.0
    → ((k : ℕ) → k < length rows.0 → get_or asked k false ≡ asks_for_end (typed_at rows k)) → AreAsked rows asked
asked_all rows asked size known i = elim (cases_lt i (length rows.0)) [
  | inl lt ↦ known i lt
  | inr le ↦ get_or-eq_default asked false (omega (arith, size)) ∙ sym (past_asks rows i le)
]

-- a node more
pub asked_more : (rows : TypedNodes) (asked : List Bool) (i : ℕ) (asks : Bool) → length asked ≡ i
    → ((k : ℕ) → k < i → get_or asked k false ≡ asks_for_end (typed_at rows k))
    → asks ≡ asks_for_end (typed_at rows i)
    → (k : ℕ) → k < i + 1 → get_or (asked ++ asks ∷ []) k false ≡ asks_for_end (typed_at rows k)
asked_more rows asked i asks size known same k h = elim (cases_lt k i) [
  | inl lt ↦ get_or_append_left asked (asks ∷ []) false k (omega (arith, size, lt)) ∙ known k lt
  | inr le ↦ (
      let is : k ≡ length asked = omega (arith, size, le, h) in
      let here : i ≡ k = omega (arith, le, h) in
      ap (λ x. get_or (asked ++ asks ∷ []) x false) is ∙ get_or-append_seam asked asks [] false ∙ same
      ∙ ap (λ x. asks_for_end (typed_at rows x)) here)
]

pub asked_node : (rows : TypedNodes) (asked : List Bool) (i : ℕ) (x : TypedNode) (asks : Bool)
    → ((k : ℕ) → k < i → get_or asked k false ≡ asks_for_end (typed_at rows k))
    → IsTrue (is_below i x) → typed_at rows i ≡ typed_of (typed_at rows) x → asks ≡ node_asks (λ k. get_or asked k false) x
    → asks ≡ asks_for_end (typed_at rows i)
asked_node rows asked i x asks known below is e =
    e ∙ node_asked i (λ k. get_or asked k false) (typed_at rows) known x below ∙ ap asks_for_end (sym is)
