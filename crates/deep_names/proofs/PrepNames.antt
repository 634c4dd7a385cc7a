-- The points that come before the use of a tree have what is found before it.
use Rattle.std.proofs.Common.{◌≡◌, ℕ, ◌+◌, Bool, true, false, List, [], ◌∷◌, ◌++◌, refl, ap, ◌∙◌, Option, Some, None}
use Rattle.std.specs.Prelude.{if◌then◌else◌}
use Rattle.spark_base.specs.declared.position.Pos.{Pos}
use Rattle.typed_tree.specs.declared.node.ShortCircuit.{ShortCircuit}
use Rattle.typed_tree.specs.Trees.{TypedTree, Number, Literal, Null, Text, Name, Component, Designated, Element, Call, EndOfFile, Image, Parens, Unary, Binary, Short, IsNull, Aggregate, Alike, New, NoMore, More}
use Rattle.flow_paths.specs.Instructions.{Instruction, Evaluate}
use Rattle.flow_paths.specs.Instructions as instruction
use Rattle.flow_paths.specs.Objects.{sub_at, Passing, passings}
use Rattle.flow_paths.specs.Names.{has_call}
use Rattle.flow_paths.specs.Acts.{acts_in}
use Rattle.flow_paths.specs.Points.{FlowPoint}
use Rattle.numbered_points.specs.Extents.{prep_size, filled_in}
use Rattle.numbered_points.specs.Prepared.{Maker, make, temporary, next_of, prepared}
use Rattle.deep_names.specs.Found.{earlier_of}
use Rattle.deep_names.specs.Trees.{depths_in, call_deep}
use Rattle.deep_names.proofs.Earlier.{earlier_none}
use Rattle.deep_names.proofs.Acts.{acts_deep, points_deep, points_append, behind_found, instruction_deep}
use Rattle.deep_names.proofs.TreeNames.{tree_facts, actuals_named}

abbrev Before : Maker → TypedTree → Type 0
Before g e = (n t : ℕ) (k : List ℕ) → points_deep (prepared g e n t k) ≡ (depths_in g.frame.typing e).before

-- Two parts, one after the other.
pair_before : (g : Maker) (xs ys : List FlowPoint) (a b : Option Pos) → points_deep xs ≡ a → points_deep ys ≡ b
    → points_deep (xs ++ ys) ≡ earlier_of a b
pair_before g xs ys a b is by = points_append xs ys ∙ (λ j. earlier_of (is j) (by j))

-- The call of a subprogram, after its actuals.
pub call_found : (g : Maker) (p : Pos) (sub : ℕ) (actuals : TypedTree) (result : Option ℕ) (xs : List FlowPoint) (next : List ℕ)
    → points_deep xs ≡ (depths_in g.frame.typing actuals).before
    → points_deep (xs ++ make g p (instruction.Call sub actuals result) next ∷ []) ≡ call_deep g.frame.typing sub actuals
call_found g p sub actuals result xs next is =
    let i : Instruction = instruction.Call sub actuals result in
    let ways : List Passing = passings g.frame.typing (sub_at g.frame.typing sub) in
    behind_found xs g p i next
    ∙ ap (λ x. earlier_of x (instruction_deep g.frame p i)) is
    ∙ actuals_named g.frame.typing i ways actuals _

-- A point that evaluates an expression, after those before it.
pub value_found : (g : Maker) (p : Pos) (e : TypedTree) (i : Instruction) (xs : List FlowPoint) (next : List ℕ)
    → points_deep xs ≡ (depths_in g.frame.typing e).before → instruction_deep g.frame p i ≡ acts_deep i (acts_in g.frame.typing e)
    → points_deep (xs ++ make g p i next ∷ []) ≡ (depths_in g.frame.typing e).all
value_found g p e i xs next is acts =
    behind_found xs g p i next ∙ (λ j. earlier_of (is j) (acts j)) ∙ (tree_facts g.frame.typing e).all i

-- A short circuit, with a call on the right or without.
evaluated : (g : Maker) (p q : Pos) (a b : TypedTree) (i h : Instruction) (xs ys : List FlowPoint) (k l : List ℕ)
    → points_deep (xs ++ make g p i k ∷ []) ≡ (depths_in g.frame.typing a).all
    → points_deep (ys ++ make g q h l ∷ []) ≡ (depths_in g.frame.typing b).all
    → points_deep (xs ++ (make g p i k ∷ (ys ++ make g q h l ∷ []))) ≡ earlier_of (depths_in g.frame.typing a).all (depths_in g.frame.typing b).all
evaluated g p q a b i h xs ys k l is by =
    ap points_deep (regroup xs (make g p i k) (ys ++ make g q h l ∷ []))
    ∙ pair_before g (xs ++ make g p i k ∷ []) (ys ++ make g q h l ∷ []) _ _ is by
  where
    regroup : (xs : List FlowPoint) (x : FlowPoint) (ys : List FlowPoint) → xs ++ (x ∷ ys) ≡ (xs ++ x ∷ []) ++ ys
    regroup [] x ys = refl
    regroup (y ∷ xs) x ys = ap (λ (r : List FlowPoint). y ∷ r) (regroup xs x ys)

short_before : (c d : Bool) → c ≡ d → (xs ys : List FlowPoint) (a b : Option Pos) → points_deep xs ≡ a → points_deep ys ≡ b
    → points_deep (if c then xs else ys) ≡ (if d then a else b)
short_before c d same xs ys a b is by = (λ j. points_deep (if same j then xs else ys)) ∙ at d
  where
    at : (d : Bool) → points_deep (if d then xs else ys) ≡ (if d then a else b)
    at true = is
    at false = by

value_acts : (g : Maker) (p : Pos) (t : ℕ) (e : TypedTree) (left : Option ShortCircuit)
    → instruction_deep g.frame p (Evaluate t e left) ≡ acts_deep (Evaluate t e left) (acts_in g.frame.typing e)
value_acts g p t e left = earlier_none (acts_deep (Evaluate t e left) (acts_in g.frame.typing e))

pub prepared_found : (g : Maker) (e : TypedTree) → Before g e
unfolding depths_in prepared
prepared_found g (Call p sub actuals) n t k =
    call_found g p sub actuals (Some (temporary g (t + filled_in actuals))) (prepared g actuals n t ((n + prep_size actuals) ∷ [])) k
    (prepared_found g actuals n t ((n + prep_size actuals) ∷ []))
prepared_found g (Short op p a q b) n t k =
    let middle : ℕ = n + prep_size a in
    let here : ℕ = t + filled_in a in
    let left : Instruction = Evaluate (temporary g here) a (Some op) in
    let right : Instruction = Evaluate (temporary g here) b None in
    short_before (has_call b) (depths_in g.frame.typing b).calls (tree_facts g.frame.typing b).calls
    (prepared g a n t (middle ∷ [])
    ++ (make g p left ((middle + 1) ∷ k)
    ∷ (prepared g b (middle + 1) (here + 1) ((middle + 1 + prep_size b) ∷ [])
    ++ make g q right k ∷ [])))
    (prepared g a n t (next_of (prep_size b) (n + prep_size a) k)
    ++ prepared g b (n + prep_size a) (t + filled_in a) k)
    _ _
    (evaluated g p q a b left right (prepared g a n t (middle ∷ [])) (prepared g b (middle + 1) (here + 1) ((middle + 1 + prep_size b) ∷ []))
    ((middle + 1) ∷ k) k
    (value_found g p a left (prepared g a n t (middle ∷ [])) ((middle + 1) ∷ k) (prepared_found g a n t (middle ∷ [])) (value_acts g p (temporary g here) a (Some op)))
    (value_found g q b right (prepared g b (middle + 1) (here + 1) ((middle + 1 + prep_size b) ∷ [])) k
    (prepared_found g b (middle + 1) (here + 1) ((middle + 1 + prep_size b) ∷ [])) (value_acts g q (temporary g here) b None)))
    (pair_before g (prepared g a n t (next_of (prep_size b) (n + prep_size a) k)) (prepared g b (n + prep_size a) (t + filled_in a) k) _ _
    (prepared_found g a n t (next_of (prep_size b) (n + prep_size a) k)) (prepared_found g b (n + prep_size a) (t + filled_in a) k))
prepared_found g (Binary op a b) n t k =
    pair_before g (prepared g a n t (next_of (prep_size b) (n + prep_size a) k)) (prepared g b (n + prep_size a) (t + filled_in a) k) _ _
    (prepared_found g a n t (next_of (prep_size b) (n + prep_size a) k)) (prepared_found g b (n + prep_size a) (t + filled_in a) k)
prepared_found g (More a b) n t k =
    pair_before g (prepared g a n t (next_of (prep_size b) (n + prep_size a) k)) (prepared g b (n + prep_size a) (t + filled_in a) k) _ _
    (prepared_found g a n t (next_of (prep_size b) (n + prep_size a) k)) (prepared_found g b (n + prep_size a) (t + filled_in a) k)
prepared_found g (Element a low high b) n t k =
    pair_before g (prepared g a n t (next_of (prep_size b) (n + prep_size a) k)) (prepared g b (n + prep_size a) (t + filled_in a) k) _ _
    (prepared_found g a n t (next_of (prep_size b) (n + prep_size a) k)) (prepared_found g b (n + prep_size a) (t + filled_in a) k)
prepared_found g (Name p x e of) n t k = prepared_found g e n t k
prepared_found g (Component c e) n t k = prepared_found g e n t k
prepared_found g (Designated e) n t k = prepared_found g e n t k
prepared_found g (Image of e) n t k = prepared_found g e n t k
prepared_found g (Parens e) n t k = prepared_found g e n t k
prepared_found g (Unary op e) n t k = prepared_found g e n t k
prepared_found g (IsNull equal e) n t k = prepared_found g e n t k
prepared_found g (Aggregate of e) n t k = prepared_found g e n t k
prepared_found g (Alike of e) n t k = prepared_found g e n t k
prepared_found g (New of e) n t k = prepared_found g e n t k
prepared_found g (Number v) n t k = refl
prepared_found g (Literal v) n t k = refl
prepared_found g Null n t k = refl
prepared_found g (Text v) n t k = refl
prepared_found g EndOfFile n t k = refl
prepared_found g NoMore n t k = refl
