-- What values after others add.
use Rattle.std.proofs.Common.{◌≡◌, ℕ, ◌+◌, ◌<◌, ◌≤◌, Bool, true, ◌&&◌, List, [], ◌∷◌, ◌++◌, length, refl, sym, ap, ◌∙◌, arith, IsTrue, get_or, nat_lt}
use Rattle.std.proofs.lemmas.Grind.{common_steps}
use Rattle.resolved_tree.specs.Nodes.{grown, are_below}
use Rattle.run_codes.specs.Codes.{Code, Empty}
use Rattle.run_codes.specs.Codes as codes
use Rattle.code_rows.specs.declared.node.Node.{Node}
use Rattle.code_rows.specs.declared.place.Place.{Place}
use Rattle.code_rows.specs.declared.place.Place.TheVariants as place
use Rattle.code_rows.specs.declared.fill.Fill.{Fill}
use Rattle.code_rows.specs.declared.fill.Fill.TheVariants as fill
use Rattle.code_rows.specs.Rows.{code_at, is_place_below, place_of, Grew}
use Rattle.code_rows.specs.Values.{is_fill_below, is_within, fill_of, fill_at, are_in_order, are_within, AllGrew, HoldsFill}
use Rattle.code_rows.proofs.Grown.{grown_old, grown_last, grown_at, grown_same, below_end, below_at, below_more, grew_none, grew_on}

-- Values are made of the expressions and of the values with lower numbers.
pub place_same : (f g : ℕ → Code) (m : ℕ) (p : Place) → ((i : ℕ) → i < m → f i ≡ g i) → IsTrue (is_place_below m p) → place_of f p ≡ place_of g p
place_same f g m (place.Local at) e is = refl
place_same f g m (place.LocalAt at i) e is = grind (arith, e i)
place_same f g m (place.Global at) e is = refl
place_same f g m (place.GlobalAt at i) e is = grind (arith, e i)
place_same f g m (place.Behind p at) e is = grind (arith, e p)
place_same f g m (place.BehindAt p at i) e is = grind (arith, e p, e i)

parts_same : (code : ℕ → Code) (f g : ℕ → codes.Fill) (k : ℕ) (n : Fill) → ((i : ℕ) → i < k → f i ≡ g i) → IsTrue (is_fill_below k n)
    → fill_of code f n ≡ fill_of code g n
parts_same code f g k fill.Nothing e is = refl
parts_same code f g k (fill.Checked v low high) e is = refl
parts_same code f g k (fill.Pointer v) e is = refl
parts_same code f g k (fill.MovedPointer p) e is = refl
parts_same code f g k (fill.Copied p of) e is = refl
parts_same code f g k (fill.Moved p of) e is = refl
parts_same code f g k (fill.Waited at words) e is = refl
parts_same code f g k (fill.New v of) e is = grind (arith, e v)
parts_same code f g k (fill.Default of) e is = refl
parts_same code f g k (fill.Repeated v count) e is = grind (arith, e v)
parts_same code f g k (fill.Both a b) e is = grind (arith, e a, e b)

codes_same : (f g : ℕ → Code) (value : ℕ → codes.Fill) (m : ℕ) (n : Fill) → ((i : ℕ) → i < m → f i ≡ g i) → IsTrue (is_within m n)
    → fill_of f value n ≡ fill_of g value n
codes_same f g value m fill.Nothing e is = refl
codes_same f g value m (fill.Checked v low high) e is = grind (arith, e v)
codes_same f g value m (fill.Pointer v) e is = grind (arith, e v)
codes_same f g value m (fill.MovedPointer p) e is = ap (λ q. codes.MovedPointer q) (place_same f g m p e is)
codes_same f g value m (fill.Copied p of) e is = ap (λ q. codes.Copied q of) (place_same f g m p e is)
codes_same f g value m (fill.Moved p of) e is = ap (λ q. codes.Moved q of) (place_same f g m p e is)
codes_same f g value m (fill.Waited at words) e is = refl
codes_same f g value m (fill.New v of) e is = refl
codes_same f g value m (fill.Default of) e is = refl
codes_same f g value m (fill.Repeated v count) e is = refl
codes_same f g value m (fill.Both a b) e is = refl

-- ---- a value more

pub order_fill : (fills : List Fill) (n : Fill) → IsTrue (are_in_order fills) → IsTrue (is_fill_below (length fills) n)
    → IsTrue (are_in_order (fills ++ n ∷ []))
order_fill fills n all is = below_end is_fill_below fills n all is

pub within_fill : (nodes : List Node) (fills : List Fill) (n : Fill) → IsTrue (are_within nodes fills) → IsTrue (is_within (length nodes) n)
    → IsTrue (are_within nodes (fills ++ n ∷ []))
within_fill nodes fills n all is = below_end (λ k. is_within (length nodes)) fills n all is

pub grew_fill : (nodes : List Node) (fills : List Fill) (n : Fill) → AllGrew nodes fills nodes (fills ++ n ∷ [])
unfolding fill_at
grew_fill nodes fills n = record {
  nodes_grew = grew_none nodes;
  more = grind (arith, common_steps);
  same = grown_old (fill_of (code_at nodes)) Empty fills n;
}

pub last_fill : (nodes : List Node) (fills : List Fill) (n : Fill)
    → HoldsFill nodes (fills ++ n ∷ []) (length fills) (fill_of (code_at nodes) (fill_at nodes fills) n)
unfolding fill_at
last_fill nodes fills n = (grind (arith, common_steps), grown_last (fill_of (code_at nodes)) Empty fills n)

pub fills_none : (nodes : List Node) (fills : List Fill) → AllGrew nodes fills nodes fills
fills_none nodes fills = record { nodes_grew = grew_none nodes; more = omega arith; same = λ i lt. refl }

pub fills_on : (a : List Node) (f : List Fill) (b : List Node) (g : List Fill) (c : List Node) (h : List Fill)
    → AllGrew a f b g → AllGrew b g c h → AllGrew a f c h
fills_on a f b g c h p q = record {
  nodes_grew = grew_on a b c p.nodes_grew q.nodes_grew;
  more = omega (arith, p.more, q.more);
  same = λ i lt. q.same i (omega (arith, lt, p.more)) ∙ p.same i lt;
}

-- ---- nodes more

pub place_more : (n m : ℕ) (p : Place) → n ≤ m → IsTrue (is_place_below n p) → IsTrue (is_place_below m p)
place_more n m (place.Local at) more is = refl
place_more n m (place.LocalAt at i) more is = grind arith
place_more n m (place.Global at) more is = refl
place_more n m (place.GlobalAt at i) more is = grind arith
place_more n m (place.Behind p at) more is = grind arith
place_more n m (place.BehindAt p at i) more is = grind arith

within_more : (n m k : ℕ) (f : Fill) → n ≤ m → IsTrue (is_within n f) → IsTrue (is_within m f)
within_more n m k fill.Nothing more is = refl
within_more n m k (fill.Checked v low high) more is = grind arith
within_more n m k (fill.Pointer v) more is = grind arith
within_more n m k (fill.MovedPointer p) more is = place_more n m p more is
within_more n m k (fill.Copied p of) more is = place_more n m p more is
within_more n m k (fill.Moved p of) more is = place_more n m p more is
within_more n m k (fill.Waited at words) more is = refl
within_more n m k (fill.New v of) more is = refl
within_more n m k (fill.Default of) more is = refl
within_more n m k (fill.Repeated v count) more is = refl
within_more n m k (fill.Both a b) more is = refl

pub within_grew : (a b : List Node) (fills : List Fill) → Grew a b → IsTrue (are_within a fills) → IsTrue (are_within b fills)
within_grew a b fills g all =
    below_more (λ k. is_within (length a)) (λ k. is_within (length b)) (λ k n is. within_more (length a) (length b) k n g.more is) 0 fills all

pub nodes_grew : (a b : List Node) (fills : List Fill) → Grew a b → IsTrue (are_within a fills) → AllGrew a fills b fills
unfolding fill_at
nodes_grew a b fills g all = record {
  nodes_grew = g;
  more = omega arith;
  same = λ i lt. ap (λ made. get_or made i Empty)
      (grown_same (fill_of (code_at b)) (fill_of (code_at a)) Empty (λ k. is_within (length a))
      (λ value k n is. codes_same (code_at b) (code_at a) value (length a) n g.same is) [] 0 fills all);
}

-- ---- the value with a number

pub fill_value : (nodes : List Node) (fills : List Fill) (i : ℕ) (d n : Fill) → n ≡ get_or fills i d → i < length fills
    → IsTrue (are_in_order fills) → fill_at nodes fills i ≡ fill_of (code_at nodes) (fill_at nodes fills) n
unfolding fill_at
fill_value nodes fills i d n is lt all =
    rw is (grown_at (fill_of (code_at nodes)) Empty is_fill_below (parts_same (code_at nodes)) fills [] 0 i i d refl lt (omega arith) all)

pub fill_below : (fills : List Fill) (i : ℕ) (d n : Fill) → n ≡ get_or fills i d → i < length fills
    → IsTrue (are_in_order fills) → IsTrue (is_fill_below i n)
fill_below fills i d n is lt all = rw is (below_at is_fill_below fills 0 i i d lt (omega arith) all)

pub fill_within : (nodes : List Node) (fills : List Fill) (i : ℕ) (d n : Fill) → n ≡ get_or fills i d → i < length fills
    → IsTrue (are_within nodes fills) → IsTrue (is_within (length nodes) n)
fill_within nodes fills i d n is lt all = rw is (below_at (λ k. is_within (length nodes)) fills 0 i i d lt (omega arith) all)
