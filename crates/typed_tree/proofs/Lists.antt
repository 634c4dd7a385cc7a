-- Lists of trees and of code that are there.
use Rattle.std.proofs.Common.{◌≡◌, ℕ, suc, ◌+◌, ◌<◌, List, [], ◌∷◌, ◌++◌, drop, map, length, refl, ap, ◌∙◌, arith, get_or}
use Rattle.std.specs.List.{All}
use Rattle.std.proofs.Math.Seq.{drop-cons}
use Rattle.std.proofs.lemmas.List.Elements.{All-head, All-tail, All-push, All-weaker}
use Rattle.typed_tree.specs.Trees.{TypedTree, TypedCode, More, typed_list, typed_code_list}
use Rattle.typed_tree.specs.Nodes.{TypedNodes, typed_at, typed_code_at, Grew, Holds, HoldsCode, HoldsAll, HoldsAllCode}

-- One more in front of a list.
pub list_step : (tree : ℕ → TypedTree) (parts : List ℕ) (i j d : ℕ) → i < length parts → j ≡ i + 1
    → typed_list (map tree (drop i parts)) ≡ More (tree (get_or parts i d)) (typed_list (map tree (drop j parts)))
list_step tree parts i j d lt e =
    let e : j ≡ suc i = omega (arith, e) in
    rw (drop-cons parts i d lt) (rw e refl)

pub code_list_step : (code : ℕ → TypedCode) (parts : List ℕ) (i j d : ℕ) → i < length parts → j ≡ i + 1
    → typed_code_list (map code (drop i parts)) ≡ More (code (get_or parts i d)) (typed_code_list (map code (drop j parts)))
code_list_step code parts i j d lt e =
    let e : j ≡ suc i = omega (arith, e) in
    rw (drop-cons parts i d lt) (rw e refl)

map_same : {T : Type 0} (f g : ℕ → T) (n : ℕ) (parts : List ℕ) → ((i : ℕ) → i < n → f i ≡ g i) → All (λ i. i < n) parts
    → map f parts ≡ map g parts
map_same f g n [] same all = refl
map_same f g n (p ∷ rest) same all =
    ap (λ t. t ∷ map f rest) (same p (All-head (λ i. i < n) p rest all))
    ∙ ap (λ ts. g p ∷ ts) (map_same f g n rest same (All-tail (λ i. i < n) p rest all))

map_end : {T : Type 0} (f : ℕ → T) (parts : List ℕ) (n : ℕ) → map f (parts ++ n ∷ []) ≡ map f parts ++ f n ∷ []
map_end f [] n = refl
map_end f (p ∷ rest) n = ap (λ ts. f p ∷ ts) (map_end f rest n)

-- ---- numbers of trees

pub holds_none : (rows : TypedNodes) → HoldsAll rows [] []
holds_none rows = (λ k d lt. absurd (omega (arith, lt)), refl)

pub holds_more : (rows : TypedNodes) (parts : List ℕ) (n : ℕ) (trees : List TypedTree) (t : TypedTree) → HoldsAll rows parts trees → Holds rows n t
    → HoldsAll rows (parts ++ n ∷ []) (trees ++ t ∷ [])
holds_more rows parts n trees t all one = (
  All-push (λ i. i < length rows.0) parts n all.0 one.0,
  map_end (typed_at rows) parts n ∙ ap (λ ts. ts ++ typed_at rows n ∷ []) all.1 ∙ ap (λ u. trees ++ u ∷ []) one.1,
)

pub holds_on : (a b : TypedNodes) (parts : List ℕ) (trees : List TypedTree) → Grew a b → HoldsAll a parts trees → HoldsAll b parts trees
holds_on a b parts trees g all = (
  All-weaker (λ i. i < length a.0) (λ i. i < length b.0) (λ i lt. omega (arith, lt, g.more_trees)) parts all.0,
  map_same (typed_at b) (typed_at a) (length a.0) parts g.same_trees all.0 ∙ all.1,
)

-- One more of a list, as it is made.
pub holds_step : (before now : TypedNodes) (parts more : List ℕ) (n : ℕ) (trees all : List TypedTree) (t : TypedTree) → Grew before now
    → HoldsAll before parts trees → Holds now n t → more ≡ parts ++ n ∷ [] → all ≡ trees ++ t ∷ [] → HoldsAll now more all
holds_step before now parts more n trees all t g old one is are =
    rw is (rw are (holds_more now parts n trees t (holds_on before now parts trees g old) one))

-- ---- numbers of code

pub holds_no_code : (rows : TypedNodes) → HoldsAllCode rows [] []
holds_no_code rows = (λ k d lt. absurd (omega (arith, lt)), refl)

pub holds_more_code : (rows : TypedNodes) (parts : List ℕ) (n : ℕ) (codes : List TypedCode) (c : TypedCode) → HoldsAllCode rows parts codes
    → HoldsCode rows n c → HoldsAllCode rows (parts ++ n ∷ []) (codes ++ c ∷ [])
holds_more_code rows parts n codes c all one = (
  All-push (λ i. i < length rows.1) parts n all.0 one.0,
  map_end (typed_code_at rows) parts n ∙ ap (λ cs. cs ++ typed_code_at rows n ∷ []) all.1 ∙ ap (λ d. codes ++ d ∷ []) one.1,
)

pub holds_code_on : (a b : TypedNodes) (parts : List ℕ) (codes : List TypedCode) → Grew a b → HoldsAllCode a parts codes → HoldsAllCode b parts codes
holds_code_on a b parts codes g all = (
  All-weaker (λ i. i < length a.1) (λ i. i < length b.1) (λ i lt. omega (arith, lt, g.more_code)) parts all.0,
  map_same (typed_code_at b) (typed_code_at a) (length a.1) parts g.same_code all.0 ∙ all.1,
)

pub holds_code_step : (before now : TypedNodes) (parts more : List ℕ) (n : ℕ) (codes all : List TypedCode) (c : TypedCode) → Grew before now
    → HoldsAllCode before parts codes → HoldsCode now n c → more ≡ parts ++ n ∷ [] → all ≡ codes ++ c ∷ []
    → HoldsAllCode now more all
holds_code_step before now parts more n codes all c g old one is are =
    rw is (rw are (holds_more_code now parts n codes c (holds_code_on before now parts codes g old) one))
