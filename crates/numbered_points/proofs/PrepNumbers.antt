-- The points before a use, by numbers.
use Rattle.std.proofs.Common.{◌≡◌, ℕ, ◌+◌, List, [], ◌∷◌, ◌++◌, refl, ap, ◌∙◌, Some, None}
use Rattle.std.proofs.lemmas.List.{map-append}
use Rattle.typed_tree.specs.declared.node.ShortCircuit.{ShortCircuit}
use Rattle.spark_base.specs.declared.position.Pos.{Pos}
use Rattle.typed_tree.specs.Trees.{TypedTree, Name, Component, Designated, Element, Call, Image, Parens, Unary, Binary, Short, IsNull, Aggregate, Alike, New, More}
use Rattle.flow_paths.specs.Instructions.{Instruction, Evaluate}
use Rattle.flow_paths.specs.Instructions as instruction
use Rattle.flow_paths.specs.Names.{has_call}
use Rattle.flow_paths.specs.Points.{Place, PointName, row_at, NamedPoint, point, entry, FlowPoint}
use Rattle.flow_paths.specs.Prep.{with_held, prep}
use Rattle.flow_paths.specs.Laid.{Temporary}
use Rattle.numbered_points.specs.Extents.{prep_size, filled_in}
use Rattle.numbered_points.specs.Prepared.{temporary, make, next_of, prepared}
use Rattle.numbered_points.proofs.Fillings.{Measured}
use Rattle.numbered_points.proofs.PrepMeasured.{prep_temporaries, prep_measured}
use Rattle.numbered_points.proofs.Stands.{Plan, setting_of, numbers_of, made, Stands, behind, front, chain, chain_on, entry_here, made_if}

-- A point that evaluates a left operand, the points before the right one, and a point that
-- evaluates that.
short_made : (l : Plan) (at : Place) (p q : Pos) (op : ShortCircuit) (a b : TypedTree) (scope inner : List ℕ) (k : List PointName)
    (qs : List NamedPoint) (n t m u : ℕ) (us : List Temporary) (ys : List FlowPoint)
    → Measured l.maker.frame.typing qs m u us
    → Stands l n t (point (row_at at 0) p (Evaluate (l.temporary at) a (Some op)) scope (entry qs (row_at at 1 ∷ []) ++ k)
    ∷ (qs ++ point (row_at at 1) q (Evaluate (l.temporary at) b None) inner k ∷ []))
    → (Stands l (n + 1) (t + 1) qs → l.number (row_at at 1) ≡ n + 1 + m → made l qs ≡ ys)
    → made l (point (row_at at 0) p (Evaluate (l.temporary at) a (Some op)) scope (entry qs (row_at at 1 ∷ []) ++ k)
    ∷ (qs ++ point (row_at at 1) q (Evaluate (l.temporary at) b None) inner k ∷ []))
    ≡ make l.maker p (Evaluate (temporary l.maker t) a (Some op)) ((n + 1) ∷ numbers_of l k)
    ∷ (ys ++ make l.maker q (Evaluate (temporary l.maker t) b None) (numbers_of l k) ∷ [])
short_made l at p q op a b scope inner k qs n t m u us ys h s first =
    let last : List NamedPoint = point (row_at at 1) q (Evaluate (l.temporary at) b None) inner k ∷ [] in
    let end : Stands l (n + 1 + m) (t + 1 + u) last = behind l (n + 1) (t + 1) m u qs last us h s.2 in
    let starts : Stands l (n + 1) (t + 1) qs = front l (n + 1) (t + 1) qs last s.2 in
    let next : numbers_of l (entry qs (row_at at 1 ∷ []) ++ k) ≡ (n + 1) ∷ numbers_of l k =
    map-append l.number (entry qs (row_at at 1 ∷ [])) k
    ∙ ap (λ ks. ks ++ numbers_of l k) (entry_here l (n + 1) (t + 1) m u qs us (row_at at 1) h starts end.0) in
    let rest : made l (qs ++ last) ≡ ys ++ make l.maker q (Evaluate (temporary l.maker t) b None) (numbers_of l k) ∷ [] =
    chain l qs last (n + 1) (t + 1) m u us ys (make l.maker q (Evaluate (temporary l.maker t) b None) (numbers_of l k) ∷ []) h s.2
    (λ x y. first x y.0) (λ y. ap (λ i. make l.maker q (Evaluate i b None) (numbers_of l k) ∷ []) s.1) in
    λ i. make l.maker p (Evaluate (s.1 i) a (Some op)) (next i) ∷ rest i

pub prep_made : (l : Plan) (e : TypedTree) (at : Place) (scope : List ℕ) (k : List PointName) (n t : ℕ)
    → Stands l n t (prep (setting_of l) e at scope k) → made l (prep (setting_of l) e at scope k) ≡ prepared l.maker e n t (numbers_of l k)
unfolding prep prep_size filled_in prepared
prep_made l (Call p sub actuals) at scope k n t s =
    let row : NamedPoint =
    point (row_at at 0) p (instruction.Call sub actuals (Some (l.temporary at))) (with_held (setting_of l) actuals (0 ∷ at) scope) k in
    chain l (prep (setting_of l) actuals (0 ∷ at) scope (row_at at 0 ∷ [])) (row ∷ []) n t (prep_size actuals) (filled_in actuals)
    (prep_temporaries l.maker.frame.typing actuals (0 ∷ at)) (prepared l.maker actuals n t ((n + prep_size actuals) ∷ []))
    (make l.maker p (instruction.Call sub actuals (Some (temporary l.maker (t + filled_in actuals)))) (numbers_of l k) ∷ [])
    (prep_measured (setting_of l) actuals (0 ∷ at) scope (row_at at 0 ∷ [])) s
    (λ a b. prep_made l actuals (0 ∷ at) scope (row_at at 0 ∷ []) n t a ∙ ap (λ i. prepared l.maker actuals n t (i ∷ [])) b.0)
    (λ b. ap (λ i. make l.maker p (instruction.Call sub actuals (Some i)) (numbers_of l k) ∷ []) b.1)
prep_made l (Short op p a q b) at scope k n t s =
    let right : List NamedPoint = prep (setting_of l) b (1 ∷ at) (l.temporary at ∷ scope) (row_at at 1 ∷ []) in
    let other : List NamedPoint = prep (setting_of l) b (1 ∷ at) (with_held (setting_of l) a (0 ∷ at) scope) k in
    let left : List NamedPoint = prep (setting_of l) a (0 ∷ at) scope (row_at at 0 ∷ []) in
    let first : NamedPoint =
    point (row_at at 0) p (Evaluate (l.temporary at) a (Some op)) (with_held (setting_of l) a (0 ∷ at) scope) (entry right (row_at at 1 ∷ []) ++ k) in
    let last : NamedPoint =
    point (row_at at 1) q (Evaluate (l.temporary at) b None) (with_held (setting_of l) b (1 ∷ at) (l.temporary at ∷ scope)) k in
    let middle : ℕ = n + prep_size a in
    let here : ℕ = t + filled_in a in
    let tail : List FlowPoint =
    make l.maker p (Evaluate (temporary l.maker here) a (Some op)) ((middle + 1) ∷ numbers_of l k)
    ∷ (prepared l.maker b (middle + 1) (here + 1) ((middle + 1 + prep_size b) ∷ []) ++ make l.maker q (Evaluate (temporary l.maker here) b None) (numbers_of l k) ∷ []) in
    made_if l (has_call b) n t (left ++ (first ∷ (right ++ last ∷ []))) (prep (setting_of l) a (0 ∷ at) scope (entry other k) ++ other)
    (prepared l.maker a n t (middle ∷ []) ++ tail)
    (prepared l.maker a n t (next_of (prep_size b) middle (numbers_of l k)) ++ prepared l.maker b middle here (numbers_of l k)) s
    (λ x. chain l left (first ∷ (right ++ last ∷ [])) n t (prep_size a) (filled_in a)
    (prep_temporaries l.maker.frame.typing a (0 ∷ at)) (prepared l.maker a n t (middle ∷ [])) tail
    (prep_measured (setting_of l) a (0 ∷ at) scope (row_at at 0 ∷ [])) x
    (λ y z. prep_made l a (0 ∷ at) scope (row_at at 0 ∷ []) n t y ∙ ap (λ i. prepared l.maker a n t (i ∷ [])) z.0)
    (λ z. short_made l at p q op a b (with_held (setting_of l) a (0 ∷ at) scope)
    (with_held (setting_of l) b (1 ∷ at) (l.temporary at ∷ scope)) k right middle here (prep_size b) (filled_in b)
    (prep_temporaries l.maker.frame.typing b (1 ∷ at))
    (prepared l.maker b (middle + 1) (here + 1) ((middle + 1 + prep_size b) ∷ []))
    (prep_measured (setting_of l) b (1 ∷ at) (l.temporary at ∷ scope) (row_at at 1 ∷ [])) z
    (λ y is. prep_made l b (1 ∷ at) (l.temporary at ∷ scope) (row_at at 1 ∷ []) (middle + 1) (here + 1) y
    ∙ ap (λ i. prepared l.maker b (middle + 1) (here + 1) (i ∷ [])) is)))
    (λ x. chain_on l (prep (setting_of l) a (0 ∷ at) scope (entry other k)) other n t (prep_size a) (filled_in a) (prep_size b) (filled_in b)
    (prep_temporaries l.maker.frame.typing a (0 ∷ at)) (prep_temporaries l.maker.frame.typing b (1 ∷ at)) k
    (λ ks. prepared l.maker a n t ks) (prepared l.maker b (n + prep_size a) (t + filled_in a) (numbers_of l k))
    (prep_measured (setting_of l) a (0 ∷ at) scope (entry other k)) (prep_measured (setting_of l) b (1 ∷ at) (with_held (setting_of l) a (0 ∷ at) scope) k) x
    (λ y. prep_made l a (0 ∷ at) scope (entry other k) n t y)
    (λ z. prep_made l b (1 ∷ at) (with_held (setting_of l) a (0 ∷ at) scope) k (n + prep_size a) (t + filled_in a) z))
prep_made l (Binary op a b) at scope k n t s =
    let other : List NamedPoint = prep (setting_of l) b (1 ∷ at) (with_held (setting_of l) a (0 ∷ at) scope) k in
    chain_on l (prep (setting_of l) a (0 ∷ at) scope (entry other k)) other n t (prep_size a) (filled_in a) (prep_size b) (filled_in b)
    (prep_temporaries l.maker.frame.typing a (0 ∷ at)) (prep_temporaries l.maker.frame.typing b (1 ∷ at)) k
    (λ ks. prepared l.maker a n t ks) (prepared l.maker b (n + prep_size a) (t + filled_in a) (numbers_of l k))
    (prep_measured (setting_of l) a (0 ∷ at) scope (entry other k)) (prep_measured (setting_of l) b (1 ∷ at) (with_held (setting_of l) a (0 ∷ at) scope) k) s
    (λ y. prep_made l a (0 ∷ at) scope (entry other k) n t y)
    (λ z. prep_made l b (1 ∷ at) (with_held (setting_of l) a (0 ∷ at) scope) k (n + prep_size a) (t + filled_in a) z)
prep_made l (More a b) at scope k n t s =
    let other : List NamedPoint = prep (setting_of l) b (1 ∷ at) (with_held (setting_of l) a (0 ∷ at) scope) k in
    chain_on l (prep (setting_of l) a (0 ∷ at) scope (entry other k)) other n t (prep_size a) (filled_in a) (prep_size b) (filled_in b)
    (prep_temporaries l.maker.frame.typing a (0 ∷ at)) (prep_temporaries l.maker.frame.typing b (1 ∷ at)) k
    (λ ks. prepared l.maker a n t ks) (prepared l.maker b (n + prep_size a) (t + filled_in a) (numbers_of l k))
    (prep_measured (setting_of l) a (0 ∷ at) scope (entry other k)) (prep_measured (setting_of l) b (1 ∷ at) (with_held (setting_of l) a (0 ∷ at) scope) k) s
    (λ y. prep_made l a (0 ∷ at) scope (entry other k) n t y)
    (λ z. prep_made l b (1 ∷ at) (with_held (setting_of l) a (0 ∷ at) scope) k (n + prep_size a) (t + filled_in a) z)
prep_made l (Element a low high b) at scope k n t s =
    let other : List NamedPoint = prep (setting_of l) b (1 ∷ at) (with_held (setting_of l) a (0 ∷ at) scope) k in
    chain_on l (prep (setting_of l) a (0 ∷ at) scope (entry other k)) other n t (prep_size a) (filled_in a) (prep_size b) (filled_in b)
    (prep_temporaries l.maker.frame.typing a (0 ∷ at)) (prep_temporaries l.maker.frame.typing b (1 ∷ at)) k
    (λ ks. prepared l.maker a n t ks) (prepared l.maker b (n + prep_size a) (t + filled_in a) (numbers_of l k))
    (prep_measured (setting_of l) a (0 ∷ at) scope (entry other k)) (prep_measured (setting_of l) b (1 ∷ at) (with_held (setting_of l) a (0 ∷ at) scope) k) s
    (λ y. prep_made l a (0 ∷ at) scope (entry other k) n t y)
    (λ z. prep_made l b (1 ∷ at) (with_held (setting_of l) a (0 ∷ at) scope) k (n + prep_size a) (t + filled_in a) z)
prep_made l (Name p x e t0) at scope k n t s = prep_made l e (0 ∷ at) scope k n t s
prep_made l (Component i e) at scope k n t s = prep_made l e (0 ∷ at) scope k n t s
prep_made l (Designated e) at scope k n t s = prep_made l e (0 ∷ at) scope k n t s
prep_made l (Image t0 e) at scope k n t s = prep_made l e (0 ∷ at) scope k n t s
prep_made l (Parens e) at scope k n t s = prep_made l e (0 ∷ at) scope k n t s
prep_made l (Unary op e) at scope k n t s = prep_made l e (0 ∷ at) scope k n t s
prep_made l (IsNull equal e) at scope k n t s = prep_made l e (0 ∷ at) scope k n t s
prep_made l (Aggregate t0 e) at scope k n t s = prep_made l e (0 ∷ at) scope k n t s
prep_made l (Alike t0 e) at scope k n t s = prep_made l e (0 ∷ at) scope k n t s
prep_made l (New t0 e) at scope k n t s = prep_made l e (0 ∷ at) scope k n t s
prep_made l _ at scope k n t s = refl
