-- One step along a list.
use Rattle.std.proofs.Common.{◌≡◌, ℕ, ◌+◌, ◌-◌, ◌*◌, ◌<◌, ◌≤◌, Bool, ◌&&◌, nat_lt, List, ◌++◌, length, sym, ap, ◌∙◌, arith, IsTrue, OnOk, Ok, Err, Result, append_assoc, length-append}
use Rattle.std.specs.declared.alloc.AllocError.{AllocError}
use Rattle.spark_base.specs.declared.position.Pos.{Pos}
use Rattle.typed_tree.specs.declared.code_node.TypedCodeNode.{TypedCodeNode}
use Rattle.typed_tree.specs.declared.code_node.TypedCodeNode.TheVariants as code_node
use Rattle.typed_tree.specs.Trees.{TypedTree, TypedCode, Case, If, More}
use Rattle.typed_tree.specs.Nodes.{is_code_below}
use Rattle.numbered_points.specs.Extents.{Extent, Ways, both, ending_with, prep_size, size, using}
use Rattle.numbered_points.specs.Prepared.{next_of}
use Rattle.numbered_points.specs.Statements.{around_block}
use Rattle.bare_points.specs.Bare.{Bare, Laying}
use Rattle.bare_points.specs.Spans.{branch_span, branches_span, code_span, when_span, whens_span}
use Rattle.bare_points.specs.BareLaid.{bare_branch, bare_branches, bare_laid, bare_when, bare_whens, whens_start}

-- The rest of a list stands before it.
pub more_below : (m i : ℕ) (node : TypedCodeNode) (first rest : ℕ) → node ≡ code_node.More first rest → IsTrue (is_code_below m i node) → rest < i
more_below m i node first rest is below =
    let both : IsTrue (nat_lt first i && nat_lt rest i) = rw is at below in
    grind (arith, both)

pub size_both : (a b : Extent) (w : Ways) → size (both a b) w ≡ size a w + size b w
size_both a b w = omega arith

-- The first alternative, and those after it.
pub starts_room : (ends : ℕ → Bool) (c a rest : TypedCode) (w : Ways) (n m : ℕ) → c ≡ More a rest → m ≡ size (when_span ends a) w
    → n + size (whens_span ends c) w ≤ 16384 → n + m + size (whens_span ends rest) w ≤ 16384
unfolding whens_span
starts_room ends c a rest w n m is m_is room =
    let all : size (whens_span ends c) w ≡ size (when_span ends a) w + size (whens_span ends rest) w =
    ap (λ x. size (whens_span ends x) w) is ∙ size_both (when_span ends a) (whens_span ends rest) w in
    omega (arith, m_is, room, all)

pub starts_step : (ends : ℕ → Bool) (c a rest : TypedCode) (w : Ways) (k found more all : List ℕ) (n m : ℕ) → c ≡ More a rest
    → m ≡ size (when_span ends a) w → more ≡ found ++ next_of m n k → found ++ whens_start ends c n w k ≡ all
    → more ++ whens_start ends rest (n + m) w k ≡ all
starts_step ends c a rest w k found more all n m is m_is now before =
    rw now (rw m_is (append_assoc found (next_of (size (when_span ends a) w) n k) (whens_start ends rest (n + size (when_span ends a) w) w k)
    ∙ ap (λ x. found ++ whens_start ends x n w k) (sym is) ∙ before))

-- ---- statements

pub laid_sizes : (ends : ℕ → Bool) (c a rest : TypedCode) (w : Ways) (n now t f total last : ℕ) → c ≡ More a rest
    → now ≡ n + size (code_span ends a) w → f ≡ (code_span ends a).filled → n + size (code_span ends c) w ≡ total
    → t + (code_span ends c).filled ≡ last
    → (now + size (code_span ends rest) w ≡ total) × (t + f + (code_span ends rest).filled ≡ last)
unfolding code_span
laid_sizes ends c a rest w n now t f total last is count fills before held =
    let all : size (code_span ends c) w ≡ size (code_span ends a) w + size (code_span ends rest) w =
    ap (λ x. size (code_span ends x) w) is ∙ size_both (code_span ends a) (code_span ends rest) w in
    let filled : (code_span ends c).filled ≡ (code_span ends a).filled + (code_span ends rest).filled =
    ap (λ x. (code_span ends x).filled) is in
    (omega (arith, count, before, all), omega (arith, fills, held, filled))

pub laid_step : (g : Laying) (c a rest : TypedCode) (w : Ways) (k next : List ℕ) (made more all : List Bare) (n now t f here there len : ℕ)
    → c ≡ More a rest → now ≡ n + size (code_span g.ends a) w → f ≡ (code_span g.ends a).filled → here ≡ size (code_span g.ends a) w
    → there ≡ size (code_span g.ends rest) w → len ≡ n → next ≡ next_of there (len + here) k → more ≡ made ++ bare_laid g a n t w next
    → made ++ bare_laid g c n t w k ≡ all → more ++ bare_laid g rest now (t + f) w k ≡ all
unfolding bare_laid
laid_step g c a rest w k next made more all n now t f here there len is count fills here_is there_is len_is next_is done before =
    rw done (rw next_is (rw len_is (rw here_is (rw there_is (rw count (rw fills
    (append_assoc made (bare_laid g a n t w (next_of (size (code_span g.ends rest) w) (n + size (code_span g.ends a) w) k))
    (bare_laid g rest (n + size (code_span g.ends a) w) (t + (code_span g.ends a).filled) w k)
    ∙ ap (λ x. made ++ bare_laid g x n t w k) (sym is) ∙ before)))))))

-- ---- branches

pub branches_sizes : (ends : ℕ → Bool) (c a rest : TypedCode) (w : Ways) (n now t f left here total last : ℕ) → c ≡ More a rest
    → left ≡ size (branches_span ends c) w → here ≡ size (branch_span ends a) w
    → now ≡ n + size (branch_span ends a) w → f ≡ (branch_span ends a).filled → n + left ≡ total
    → t + (branches_span ends c).filled ≡ last
    → (left - here ≡ size (branches_span ends rest) w) × (now + (left - here) ≡ total) × (t + f + (branches_span ends rest).filled ≡ last)
unfolding branches_span
branches_sizes ends c a rest w n now t f left here total last is left_is here_is count fills before held =
    let all : size (branches_span ends c) w ≡ size (branch_span ends a) w + size (branches_span ends rest) w =
    ap (λ x. size (branches_span ends x) w) is ∙ size_both (branch_span ends a) (branches_span ends rest) w in
    let filled : (branches_span ends c).filled ≡ (branch_span ends a).filled + (branches_span ends rest).filled =
    ap (λ x. (branches_span ends x).filled) is in
    let behind : left - here ≡ size (branches_span ends rest) w = omega (arith, left_is, here_is, all) in
    (behind, omega (arith, count, before, all, behind, left_is), omega (arith, fills, held, filled))

pub branches_step : (g : Laying) (c a rest : TypedCode) (w : Ways) (k o next : List ℕ) (made more all : List Bare) (n now t f here there len : ℕ)
    → c ≡ More a rest → now ≡ n + size (branch_span g.ends a) w → f ≡ (branch_span g.ends a).filled → here ≡ size (branch_span g.ends a) w
    → there ≡ size (branches_span g.ends rest) w → len ≡ n → next ≡ next_of there (len + here) o → more ≡ made ++ bare_branch g a n t w k next
    → made ++ bare_branches g c n t w k o ≡ all → more ++ bare_branches g rest now (t + f) w k o ≡ all
unfolding bare_branches
branches_step g c a rest w k o next made more all n now t f here there len is count fills here_is there_is len_is next_is done before =
    rw done (rw next_is (rw len_is (rw here_is (rw there_is (rw count (rw fills
    (append_assoc made (bare_branch g a n t w k (next_of (size (branches_span g.ends rest) w) (n + size (branch_span g.ends a) w) o))
    (bare_branches g rest (n + size (branch_span g.ends a) w) (t + (branch_span g.ends a).filled) w k o)
    ∙ ap (λ x. made ++ bare_branches g x n t w k o) (sym is) ∙ before)))))))

-- ---- alternatives

pub whens_sizes : (ends : ℕ → Bool) (c a rest : TypedCode) (w : Ways) (n now t f total last : ℕ) → c ≡ More a rest
    → now ≡ n + size (when_span ends a) w → f ≡ (when_span ends a).filled → n + size (whens_span ends c) w ≡ total
    → t + (whens_span ends c).filled ≡ last
    → (now + size (whens_span ends rest) w ≡ total) × (t + f + (whens_span ends rest).filled ≡ last)
unfolding whens_span
whens_sizes ends c a rest w n now t f total last is count fills before held =
    let all : size (whens_span ends c) w ≡ size (when_span ends a) w + size (whens_span ends rest) w =
    ap (λ x. size (whens_span ends x) w) is ∙ size_both (when_span ends a) (whens_span ends rest) w in
    let filled : (whens_span ends c).filled ≡ (when_span ends a).filled + (whens_span ends rest).filled =
    ap (λ x. (whens_span ends x).filled) is in
    (omega (arith, count, before, all), omega (arith, fills, held, filled))

pub whens_step : (g : Laying) (c a rest : TypedCode) (w : Ways) (k : List ℕ) (made more all : List Bare) (n now t f : ℕ)
    → c ≡ More a rest → now ≡ n + size (when_span g.ends a) w → f ≡ (when_span g.ends a).filled
    → more ≡ made ++ bare_when g a n t w k
    → made ++ bare_whens g c n t w k ≡ all → more ++ bare_whens g rest now (t + f) w k ≡ all
unfolding bare_whens
whens_step g c a rest w k made more all n now t f is count fills done before =
    rw done (rw count (rw fills
    (append_assoc made (bare_when g a n t w k)
    (bare_whens g rest (n + size (when_span g.ends a) w) (t + (when_span g.ends a).filled) w k)
    ∙ ap (λ x. made ++ bare_whens g x n t w k) (sym is) ∙ before)))

-- ---- blocks

-- The objects of a block end after it, and where an exit or a return leaves it.
pub block_size : (a b : Extent) (xs ys : List ℕ) (w v : Ways) → b ≡ a → ys ≡ xs → v ≡ around_block ys w
    → size b v + length ys ≡ size (ending_with (length xs) a) w
block_size a b xs ys w v b_is ys_is v_is =
    let loop : length (xs ++ w.in_loop) ≡ length xs + length w.in_loop = length-append xs w.in_loop in
    let all : length (xs ++ w.in_all) ≡ length xs + length w.in_all = length-append xs w.in_all in
    let whole : size a (around_block xs w) + length xs ≡ size (ending_with (length xs) a) w =
    (λ i. a.own + a.exits * loop i + a.returns * all i + length xs) ∙ omega arith in
    rw v_is (rw ys_is (rw b_is whole))

pub block_count : (r : Result Unit AllocError) (last middle n s l total : ℕ) → middle ≡ n + s → s + l ≡ total → OnOk r (last ≡ middle + l)
    → OnOk r (last ≡ n + total)
block_count (Ok done) last middle n s l total inner whole count = omega (arith, inner, whole, count)
block_count (Err e) last middle n s l total inner whole count = tt

-- ---- lists and branches

pub more_count : (r : Result Unit AllocError) (ends : ℕ → Bool) (c a rest : TypedCode) (w : Ways) (last n : ℕ) → c ≡ More a rest
    → OnOk r (last ≡ n + (size (code_span ends a) w + size (code_span ends rest) w)) → OnOk r (last ≡ n + size (code_span ends c) w)
unfolding code_span
more_count (Ok done) ends c a rest w last n is count =
    count ∙ ap (λ m. n + m) (sym (ap (λ x. size (code_span ends x) w) is ∙ size_both (code_span ends a) (code_span ends rest) w))
more_count (Err e) ends c a rest w last n is count = tt

pub if_count : (r : Result Unit AllocError) (ends : ℕ → Bool) (c a rest : TypedCode) (w : Ways) (last n : ℕ) → c ≡ If a rest
    → OnOk r (last ≡ n + (size (branches_span ends a) w + size (code_span ends rest) w)) → OnOk r (last ≡ n + size (code_span ends c) w)
unfolding code_span
if_count (Ok done) ends c a rest w last n is count =
    count ∙ ap (λ m. n + m) (sym (ap (λ x. size (code_span ends x) w) is ∙ size_both (branches_span ends a) (code_span ends rest) w))
if_count (Err e) ends c a rest w last n is count = tt

pub case_count : (r : Result Unit AllocError) (ends : ℕ → Bool) (c : TypedCode) (p : Pos) (e : TypedTree) (whens : TypedCode) (w : Ways) (last n : ℕ)
    → c ≡ Case p e whens → OnOk r (last ≡ n + (prep_size e + 1 + size (whens_span ends whens) w)) → OnOk r (last ≡ n + size (code_span ends c) w)
unfolding code_span
case_count (Ok done) ends c p e whens w last n is count =
    let whole : size (code_span ends c) w ≡ prep_size e + 1 + size (whens_span ends whens) w =
    ap (λ x. size (code_span ends x) w) is ∙ size_both (using e 1) (whens_span ends whens) w ∙ omega arith in
    count ∙ ap (λ m. n + m) (sym whole)
case_count (Err fault) ends c p e whens w last n is count = tt

pub more_room : (ends : ℕ → Bool) (c a rest : TypedCode) (w : Ways) (n t : ℕ) → c ≡ More a rest → n + size (code_span ends c) w ≤ 16384
    → t + (code_span ends c).filled ≤ 4294967295
    → (n + (size (code_span ends a) w + size (code_span ends rest) w) ≤ 16384)
    × (t + ((code_span ends a).filled + (code_span ends rest).filled) ≤ 4294967295)
unfolding code_span
more_room ends c a rest w n t is room held =
    let whole : size (code_span ends c) w ≡ size (code_span ends a) w + size (code_span ends rest) w =
    ap (λ x. size (code_span ends x) w) is ∙ size_both (code_span ends a) (code_span ends rest) w in
    let filled : (code_span ends c).filled ≡ (code_span ends a).filled + (code_span ends rest).filled =
    ap (λ x. (code_span ends x).filled) is in
    (omega (arith, room, whole), omega (arith, held, filled))

pub if_room : (ends : ℕ → Bool) (c a rest : TypedCode) (w : Ways) (n t : ℕ) → c ≡ If a rest → n + size (code_span ends c) w ≤ 16384
    → t + (code_span ends c).filled ≤ 4294967295
    → (n + (size (branches_span ends a) w + size (code_span ends rest) w) ≤ 16384)
    × (t + ((branches_span ends a).filled + (code_span ends rest).filled) ≤ 4294967295)
unfolding code_span
if_room ends c a rest w n t is room held =
    let whole : size (code_span ends c) w ≡ size (branches_span ends a) w + size (code_span ends rest) w =
    ap (λ x. size (code_span ends x) w) is ∙ size_both (branches_span ends a) (code_span ends rest) w in
    let filled : (code_span ends c).filled ≡ (branches_span ends a).filled + (code_span ends rest).filled =
    ap (λ x. (code_span ends x).filled) is in
    (omega (arith, room, whole), omega (arith, held, filled))
