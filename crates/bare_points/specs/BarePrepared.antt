-- The points that come before a point which uses an expression, without acts and leak checks
-- (`numbered_points/specs/Prepared.antt`).
use Rattle.std.specs.Prelude.{ℕ, ◌+◌, List, [], ◌∷◌, ◌++◌, Some, None, if◌then◌else◌}
use Rattle.spark_base.specs.declared.position.Pos.{Pos}
use Rattle.typed_tree.specs.declared.node.ShortCircuit.{ShortCircuit}
use Rattle.typed_tree.specs.Trees.{TypedTree, Name, Component, Designated, Element, Call, Image, Parens, Unary, Binary, Short, IsNull, Aggregate, Alike, New, More}
use Rattle.flow_paths.specs.Instructions.{Evaluate}
use Rattle.flow_paths.specs.Instructions as instruction
use Rattle.flow_paths.specs.Names.{has_call}
use Rattle.numbered_points.specs.Extents.{prep_size, filled_in}
use Rattle.numbered_points.specs.Prepared.{next_of}
use Rattle.bare_points.specs.Bare.{Bare, bare, Laying, temporary_of}

unfoldable pub bare_prepared : Laying → TypedTree → ℕ → ℕ → List ℕ → List Bare
-- a call: those of the actuals in order of the formals, and the call itself
bare_prepared g (Call p sub actuals) n t k =
    bare_prepared g actuals n t ((n + prep_size actuals) ∷ [])
    ++ bare p (instruction.Call sub actuals (Some (temporary_of g (t + filled_in actuals)))) k ∷ []
-- a short circuit with a call on the right: those of the left operand; a point that evaluates it;
-- those of the right operand; a point that evaluates that. The left operand leads on to the right
-- one, or past it
bare_prepared g (Short op p a q b) n t k =
    if has_call b then
    (let middle : ℕ = n + prep_size a in
    let here : ℕ = t + filled_in a in
    bare_prepared g a n t (middle ∷ [])
    ++ (bare p (Evaluate (temporary_of g here) a (Some op)) ((middle + 1) ∷ k)
    ∷ (bare_prepared g b (middle + 1) (here + 1) ((middle + 1 + prep_size b) ∷ [])
    ++ bare q (Evaluate (temporary_of g here) b None) k ∷ [])))
    else
    bare_prepared g a n t (next_of (prep_size b) (n + prep_size a) k)
    ++ bare_prepared g b (n + prep_size a) (t + filled_in a) k
-- else those of the operands, in the order in which they are evaluated
bare_prepared g (Binary op a b) n t k =
    bare_prepared g a n t (next_of (prep_size b) (n + prep_size a) k) ++ bare_prepared g b (n + prep_size a) (t + filled_in a) k
bare_prepared g (More a b) n t k =
    bare_prepared g a n t (next_of (prep_size b) (n + prep_size a) k) ++ bare_prepared g b (n + prep_size a) (t + filled_in a) k
bare_prepared g (Element a low high b) n t k =
    bare_prepared g a n t (next_of (prep_size b) (n + prep_size a) k) ++ bare_prepared g b (n + prep_size a) (t + filled_in a) k
bare_prepared g (Name p x e t0) n t k = bare_prepared g e n t k
bare_prepared g (Component i e) n t k = bare_prepared g e n t k
bare_prepared g (Designated e) n t k = bare_prepared g e n t k
bare_prepared g (Image t0 e) n t k = bare_prepared g e n t k
bare_prepared g (Parens e) n t k = bare_prepared g e n t k
bare_prepared g (Unary op e) n t k = bare_prepared g e n t k
bare_prepared g (IsNull equal e) n t k = bare_prepared g e n t k
bare_prepared g (Aggregate t0 e) n t k = bare_prepared g e n t k
bare_prepared g (Alike t0 e) n t k = bare_prepared g e n t k
bare_prepared g (New t0 e) n t k = bare_prepared g e n t k
bare_prepared g _ n t k = []

-- One expression and another after it.
abbrev pub prepared_both : Laying → TypedTree → TypedTree → ℕ → ℕ → List ℕ → List Bare
prepared_both g a b n t k =
    bare_prepared g a n t (next_of (prep_size b) (n + prep_size a) k) ++ bare_prepared g b (n + prep_size a) (t + filled_in a) k

-- A short circuit with a call on the right.
abbrev pub evaluated_short : Laying → ShortCircuit → Pos → TypedTree → Pos → TypedTree → ℕ → ℕ → List ℕ → List Bare
evaluated_short g op p a q b n t k =
    let middle : ℕ = n + prep_size a in
    let here : ℕ = t + filled_in a in
    bare_prepared g a n t (middle ∷ [])
    ++ (bare p (Evaluate (temporary_of g here) a (Some op)) ((middle + 1) ∷ k)
    ∷ (bare_prepared g b (middle + 1) (here + 1) ((middle + 1 + prep_size b) ∷ [])
    ++ bare q (Evaluate (temporary_of g here) b None) k ∷ []))
