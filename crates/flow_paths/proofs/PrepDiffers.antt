-- The names of the points before a use differ.
use Rattle.std.proofs.Common.{◌≡◌, ℕ, ◌+◌, ◌*◌, ◌≤◌, List, [], ◌∷◌, ◌++◌, arith}
use Rattle.std.specs.Prelude.{Bool, true, false, Some, None, if◌then◌else◌}
use Rattle.typed_tree.specs.spark_base.declared.position.Pos.{Pos}
use Rattle.typed_tree.specs.Trees.{TypedTree, Name, Component, Designated, Element, Call, Image, Parens, Unary, Binary, Short, IsNull, Aggregate, Alike, New, More}
use Rattle.flow_paths.specs.Instructions.{Instruction, Evaluate}
use Rattle.flow_paths.specs.Instructions as instruction
use Rattle.flow_paths.specs.Names.{has_call}
use Rattle.flow_paths.specs.Points.{Place, PointName, row_at, NamedPoint, point, entry}
use Rattle.flow_paths.specs.Prep.{Setting, with_held, prep}
use Rattle.flow_paths.proofs.Slots.{Fits, Sits, Any, From, fits_none, fits_part, fits_row, fits_both, sits, two_parts, row_from, part_then_rows}

pub if_sits : (at : Place) (b : Bool) (xs ys : List NamedPoint) → Sits at xs → Sits at ys → Sits at (if b then xs else ys)
if_sits at true xs ys h g = h
if_sits at false xs ys h g = g

-- One part, and one point after it.
pub part_and_row : (at : Place) (p : Pos) (i : Instruction) (scope : List ℕ) (next : List PointName) (ps : List NamedPoint)
    → Sits (0 ∷ at) ps → Sits at (ps ++ point (row_at at 0) p i scope next ∷ [])
part_and_row at p i scope next ps h =
    part_then_rows at ps (point (row_at at 0) p i scope next ∷ []) h
    (row_from at 0 (point (row_at at 0) p i scope next) [] (fits_row at 0 p i scope next) (fits_none at (From 1)))

pub one_part : (at : Place) (ps : List NamedPoint) → Sits (0 ∷ at) ps → Sits at ps
one_part at ps h = sits at (λ k. k ≡ 2 * 0) ps (fits_part at 0 ps h)

pub differ_01 : ◌≡◌ {A = ℕ} 0 1 → ⊥
differ_01 e = grind (arith, e)

-- A part, a point, another part, a point.
pub four_parts : (at : Place) (p q : Pos) (i j : Instruction) (scope inner : List ℕ) (next behind : List PointName) (ps qs : List NamedPoint)
    → Sits (0 ∷ at) ps → Sits (1 ∷ at) qs
    → Sits at (ps ++ (point (row_at at 0) p i scope next ∷ (qs ++ point (row_at at 1) q j inner behind ∷ [])))
four_parts at p q i j scope inner next behind ps qs h g =
    let second : Fits at (λ k. 2 ≤ k) (qs ++ point (row_at at 1) q j inner behind ∷ []) =
    fits_both at (λ k. k ≡ 2 * 1) (λ k. k ≡ 2 * 1 + 1) (λ k. 2 ≤ k) (λ k a b. grind (arith, a, b)) (λ k a. grind (arith, a)) (λ k b. grind (arith, b))
    qs (point (row_at at 1) q j inner behind ∷ []) (fits_part at 1 qs g) (fits_row at 1 q j inner behind) in
    let rows : Fits at (From 0) (point (row_at at 0) p i scope next ∷ (qs ++ point (row_at at 1) q j inner behind ∷ [])) =
    fits_both at (λ k. k ≡ 2 * 0 + 1) (λ k. 2 ≤ k) (From 0) (λ k a b. grind (arith, a, b)) (λ k a. grind (arith, a)) (λ k b. grind (arith, b))
    (point (row_at at 0) p i scope next ∷ []) (qs ++ point (row_at at 1) q j inner behind ∷ []) (fits_row at 0 p i scope next) second in
    part_then_rows at ps (point (row_at at 0) p i scope next ∷ (qs ++ point (row_at at 1) q j inner behind ∷ [])) h rows

pub prep_sits : (s : Setting) (e : TypedTree) (at : Place) (scope : List ℕ) (k : List PointName) → Sits at (prep s e at scope k)
unfolding prep
prep_sits s (Call p sub actuals) at scope k =
    part_and_row at p (instruction.Call sub actuals (Some (s.temporary at))) (with_held s actuals (0 ∷ at) scope) k
    (prep s actuals (0 ∷ at) scope (row_at at 0 ∷ [])) (prep_sits s actuals (0 ∷ at) scope (row_at at 0 ∷ []))
prep_sits s (Short op p a q b) at scope k =
    let right : List NamedPoint = prep s b (1 ∷ at) (s.temporary at ∷ scope) (row_at at 1 ∷ []) in
    let behind : List NamedPoint = prep s b (1 ∷ at) (with_held s a (0 ∷ at) scope) k in
    if_sits at (has_call b) _ _
    (four_parts at p q (Evaluate (s.temporary at) a (Some op)) (Evaluate (s.temporary at) b None)
    (with_held s a (0 ∷ at) scope) (with_held s b (1 ∷ at) (s.temporary at ∷ scope)) (entry right (row_at at 1 ∷ []) ++ k) k
    (prep s a (0 ∷ at) scope (row_at at 0 ∷ [])) right
    (prep_sits s a (0 ∷ at) scope (row_at at 0 ∷ [])) (prep_sits s b (1 ∷ at) (s.temporary at ∷ scope) (row_at at 1 ∷ [])))
    (two_parts at 0 1 differ_01 (prep s a (0 ∷ at) scope (entry behind k)) behind (prep_sits s a (0 ∷ at) scope (entry behind k))
    (prep_sits s b (1 ∷ at) (with_held s a (0 ∷ at) scope) k))
prep_sits s (Binary op a b) at scope k =
    let behind : List NamedPoint = prep s b (1 ∷ at) (with_held s a (0 ∷ at) scope) k in
    two_parts at 0 1 differ_01 (prep s a (0 ∷ at) scope (entry behind k)) behind (prep_sits s a (0 ∷ at) scope (entry behind k))
    (prep_sits s b (1 ∷ at) (with_held s a (0 ∷ at) scope) k)
prep_sits s (More a b) at scope k =
    let behind : List NamedPoint = prep s b (1 ∷ at) (with_held s a (0 ∷ at) scope) k in
    two_parts at 0 1 differ_01 (prep s a (0 ∷ at) scope (entry behind k)) behind (prep_sits s a (0 ∷ at) scope (entry behind k))
    (prep_sits s b (1 ∷ at) (with_held s a (0 ∷ at) scope) k)
prep_sits s (Element a low high b) at scope k =
    let behind : List NamedPoint = prep s b (1 ∷ at) (with_held s a (0 ∷ at) scope) k in
    two_parts at 0 1 differ_01 (prep s a (0 ∷ at) scope (entry behind k)) behind (prep_sits s a (0 ∷ at) scope (entry behind k))
    (prep_sits s b (1 ∷ at) (with_held s a (0 ∷ at) scope) k)
prep_sits s (Name p x e t) at scope k = one_part at (prep s e (0 ∷ at) scope k) (prep_sits s e (0 ∷ at) scope k)
prep_sits s (Component i e) at scope k = one_part at (prep s e (0 ∷ at) scope k) (prep_sits s e (0 ∷ at) scope k)
prep_sits s (Designated e) at scope k = one_part at (prep s e (0 ∷ at) scope k) (prep_sits s e (0 ∷ at) scope k)
prep_sits s (Image t e) at scope k = one_part at (prep s e (0 ∷ at) scope k) (prep_sits s e (0 ∷ at) scope k)
prep_sits s (Parens e) at scope k = one_part at (prep s e (0 ∷ at) scope k) (prep_sits s e (0 ∷ at) scope k)
prep_sits s (Unary op e) at scope k = one_part at (prep s e (0 ∷ at) scope k) (prep_sits s e (0 ∷ at) scope k)
prep_sits s (IsNull equal e) at scope k = one_part at (prep s e (0 ∷ at) scope k) (prep_sits s e (0 ∷ at) scope k)
prep_sits s (Aggregate t e) at scope k = one_part at (prep s e (0 ∷ at) scope k) (prep_sits s e (0 ∷ at) scope k)
prep_sits s (Alike t e) at scope k = one_part at (prep s e (0 ∷ at) scope k) (prep_sits s e (0 ∷ at) scope k)
prep_sits s (New t e) at scope k = one_part at (prep s e (0 ∷ at) scope k) (prep_sits s e (0 ∷ at) scope k)
prep_sits s _ at scope k = fits_none at Any
