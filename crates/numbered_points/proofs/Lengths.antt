-- As many points are made as there are: those of expressions, of uses, and of the ends of scopes.
use Rattle.std.proofs.Common.{◌≡◌, ℕ, suc, ◌+◌, ◌*◌, Bool, true, false, List, [], ◌∷◌, ◌++◌, length, refl, ap, ◌∙◌, arith, length-append, Some, None}
use Rattle.std.specs.Prelude.{if◌then◌else◌}
use Rattle.spark_base.specs.declared.position.Pos.{Pos}
use Rattle.typed_tree.specs.Trees.{TypedTree, Name, Component, Designated, Element, Call, Image, Parens, Unary, Binary, Short, IsNull, Aggregate, Alike, New, More}
use Rattle.flow_paths.specs.Instructions.{Instruction, Evaluate, EndScope, Finish}
use Rattle.flow_paths.specs.Instructions as instruction
use Rattle.flow_paths.specs.Names.{has_call}
use Rattle.flow_paths.specs.Points.{FlowPoint}
use Rattle.numbered_points.specs.Extents.{prep_size, filled_in, Extent, extent, using, both}
use Rattle.numbered_points.specs.Prepared.{Maker, temporary, make, next_of, prepared}
use Rattle.numbered_points.specs.Statements.{ended, closed, used, used_both}
use Rattle.numbered_points.proofs.Extents.{total, total_both, plain_total}

pub two_lengths : (ps qs : List FlowPoint) (m n : ℕ) → length ps ≡ m → length qs ≡ n → length (ps ++ qs) ≡ m + n
two_lengths ps qs m n a b = length-append ps qs ∙ (λ i. a i + b i)

pub one_more : (ps : List FlowPoint) (m : ℕ) (p : FlowPoint) → length ps ≡ m → length (ps ++ p ∷ []) ≡ m + 1
one_more ps m p a = two_lengths ps (p ∷ []) m 1 a refl

short_length : (ps qs : List FlowPoint) (m n : ℕ) (p q : FlowPoint) → length ps ≡ m → length qs ≡ n
    → length (ps ++ (p ∷ (qs ++ q ∷ []))) ≡ m + 1 + (n + 1)
short_length ps qs m n p q a b =
    let inner : length (qs ++ q ∷ []) ≡ n + 1 = one_more qs n q b in
    let whole : length (ps ++ (p ∷ (qs ++ q ∷ []))) ≡ m + suc (n + 1) = two_lengths ps (p ∷ (qs ++ q ∷ [])) m (suc (n + 1)) a (ap suc inner) in
    whole ∙ (let e : m + suc (n + 1) ≡ m + 1 + (n + 1) = omega arith in e)

if_length : (b : Bool) (ps qs : List FlowPoint) (m n : ℕ) → length ps ≡ m → length qs ≡ n → length (if b then ps else qs) ≡ (if b then m else n)
if_length true ps qs m n x y = x
if_length false ps qs m n x y = y

pub prepared_length : (g : Maker) (e : TypedTree) (n t : ℕ) (k : List ℕ) → length (prepared g e n t k) ≡ prep_size e
unfolding prepared prep_size filled_in
prepared_length g (Call p sub actuals) n t k =
    one_more (prepared g actuals n t ((n + prep_size actuals) ∷ [])) (prep_size actuals)
    (make g p (instruction.Call sub actuals (Some (temporary g (t + filled_in actuals)))) k)
    (prepared_length g actuals n t ((n + prep_size actuals) ∷ []))
prepared_length g (Short op p a q b) n t k =
    let middle : ℕ = n + prep_size a in
    let here : ℕ = t + filled_in a in
    let right : List FlowPoint = prepared g b (middle + 1) (here + 1) ((middle + 1 + prep_size b) ∷ []) in
    let first : FlowPoint = make g p (Evaluate (temporary g here) a (Some op)) ((middle + 1) ∷ k) in
    let last : FlowPoint = make g q (Evaluate (temporary g here) b None) k in
    let one : List FlowPoint = prepared g a n t (middle ∷ []) in
    let two : List FlowPoint = prepared g a n t (next_of (prep_size b) middle k) in
    let three : List FlowPoint = prepared g b middle here k in
    if_length (has_call b) (one ++ (first ∷ (right ++ last ∷ []))) (two ++ three) (prep_size a + 1 + (prep_size b + 1)) (prep_size a + prep_size b)
    (short_length one right (prep_size a) (prep_size b) first last (prepared_length g a n t (middle ∷ []))
    (prepared_length g b (middle + 1) (here + 1) ((middle + 1 + prep_size b) ∷ [])))
    (two_lengths two three (prep_size a) (prep_size b) (prepared_length g a n t (next_of (prep_size b) middle k)) (prepared_length g b middle here k))
prepared_length g (Binary op a b) n t k =
    two_lengths (prepared g a n t (next_of (prep_size b) (n + prep_size a) k)) (prepared g b (n + prep_size a) (t + filled_in a) k) (prep_size a) (prep_size b)
    (prepared_length g a n t (next_of (prep_size b) (n + prep_size a) k)) (prepared_length g b (n + prep_size a) (t + filled_in a) k)
prepared_length g (More a b) n t k =
    two_lengths (prepared g a n t (next_of (prep_size b) (n + prep_size a) k)) (prepared g b (n + prep_size a) (t + filled_in a) k) (prep_size a) (prep_size b)
    (prepared_length g a n t (next_of (prep_size b) (n + prep_size a) k)) (prepared_length g b (n + prep_size a) (t + filled_in a) k)
prepared_length g (Element a low high b) n t k =
    two_lengths (prepared g a n t (next_of (prep_size b) (n + prep_size a) k)) (prepared g b (n + prep_size a) (t + filled_in a) k) (prep_size a) (prep_size b)
    (prepared_length g a n t (next_of (prep_size b) (n + prep_size a) k)) (prepared_length g b (n + prep_size a) (t + filled_in a) k)
prepared_length g (Name p x e u) n t k = prepared_length g e n t k
prepared_length g (Component i e) n t k = prepared_length g e n t k
prepared_length g (Designated e) n t k = prepared_length g e n t k
prepared_length g (Image u e) n t k = prepared_length g e n t k
prepared_length g (Parens e) n t k = prepared_length g e n t k
prepared_length g (Unary op e) n t k = prepared_length g e n t k
prepared_length g (IsNull equal e) n t k = prepared_length g e n t k
prepared_length g (Aggregate u e) n t k = prepared_length g e n t k
prepared_length g (Alike u e) n t k = prepared_length g e n t k
prepared_length g (New u e) n t k = prepared_length g e n t k
prepared_length g _ n t k = refl

-- ---- uses

pub used_length : (g : Maker) (p : Pos) (e : TypedTree) (i : Instruction) (n t : ℕ) (next : List ℕ) → length (used g p e i n t next) ≡ prep_size e + 1
used_length g p e i n t next =
    one_more (prepared g e n t ((n + prep_size e) ∷ [])) (prep_size e) (make g p i next) (prepared_length g e n t ((n + prep_size e) ∷ []))

pub used_both_length : (g : Maker) (p : Pos) (a b : TypedTree) (i : Instruction) (n t : ℕ) (next : List ℕ)
    → length (used_both g p a b i n t next) ≡ prep_size a + prep_size b + 1
used_both_length g p a b i n t next =
    let first : List FlowPoint = prepared g a n t ((n + prep_size a) ∷ []) in
    let second : List FlowPoint = prepared g b (n + prep_size a) (t + filled_in a) ((n + prep_size a + prep_size b) ∷ []) in
    one_more (first ++ second) (prep_size a + prep_size b) (make g p i next)
    (two_lengths first second (prep_size a) (prep_size b) (prepared_length g a n t ((n + prep_size a) ∷ []))
    (prepared_length g b (n + prep_size a) (t + filled_in a) ((n + prep_size a + prep_size b) ∷ [])))

-- ---- ends of scopes

pub ended_length : (g : Maker) (p : Pos) (xs : List ℕ) (n : ℕ) (k : List ℕ) → length (ended g p xs n k) ≡ length xs
ended_length g p [] n k = refl
ended_length g p (x ∷ xs) n k = ap suc (ended_length g p xs (n + 1) k)

pub closed_length : (g : Maker) (p : Pos) (xs : List ℕ) (n : ℕ) → length (closed g p xs n) ≡ length xs + 1
closed_length g p xs n =
    one_more (ended g p xs n ((n + length xs) ∷ [])) (length xs) (make g p Finish []) (ended_length g p xs n ((n + length xs) ∷ []))

-- ---- as extents

pub lengths_join : (ps qs : List FlowPoint) (a b : Extent) (i j : ℕ) → length ps ≡ total a i j → length qs ≡ total b i j
    → length (ps ++ qs) ≡ total (both a b) i j
lengths_join ps qs a b i j x y = two_lengths ps qs (total a i j) (total b i j) x y ∙ total_both a b i j

pub used_total : (g : Maker) (p : Pos) (e : TypedTree) (i : Instruction) (n t : ℕ) (next : List ℕ) (m l : ℕ)
    → length (used g p e i n t next) ≡ total (using e 1) m l
used_total g p e i n t next m l = used_length g p e i n t next ∙ plain_total (prep_size e + 1) m l

both_sum : (a b m l : ℕ) → a + b + 1 ≡ a + 0 + (b + 1) + 0 * m + 0 * l
both_sum a b m l = omega arith

pub used_both_total : (g : Maker) (p : Pos) (a b : TypedTree) (i : Instruction) (n t : ℕ) (next : List ℕ) (m l : ℕ)
    → length (used_both g p a b i n t next) ≡ total (both (using a 0) (using b 1)) m l
used_both_total g p a b i n t next m l = used_both_length g p a b i n t next ∙ both_sum (prep_size a) (prep_size b) m l

exit_sum : (m l : ℕ) → m ≡ 0 + 1 * m + 0 * l
exit_sum m l = omega arith

pub ended_total : (g : Maker) (p : Pos) (xs : List ℕ) (n : ℕ) (k : List ℕ) (l : ℕ) → length (ended g p xs n k) ≡ total (extent 0 1 0 0) (length xs) l
ended_total g p xs n k l = ended_length g p xs n k ∙ exit_sum (length xs) l

return_sum : (m l : ℕ) → l + 1 ≡ 1 + 0 * m + 1 * l
return_sum m l = omega arith

pub closed_total : (g : Maker) (p : Pos) (xs : List ℕ) (n m : ℕ) → length (closed g p xs n) ≡ total (extent 1 0 1 0) m (length xs)
closed_total g p xs n m = closed_length g p xs n ∙ return_sum m (length xs)
