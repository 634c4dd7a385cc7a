-- The points that come before a point which uses an expression, by numbers (docs/FLOW.md,
-- "Points").
--
-- The first of them has the number n, the next temporary has the number t, and k is what follows.
use Rattle.std.specs.Prelude.{ℕ, zero, suc, ◌+◌, Bool, List, [], ◌∷◌, ◌++◌, Some, None, if◌then◌else◌}
use Rattle.spark_base.specs.declared.position.Pos.{Pos}
use Rattle.typed_tree.specs.Trees.{TypedTree, Name, Component, Designated, Element, Call, Image, Parens, Unary, Binary, Short, IsNull, Aggregate, Alike, New, More}
use Rattle.flow_paths.specs.Instructions.{Instruction, Evaluate}
use Rattle.flow_paths.specs.Instructions as instruction
use Rattle.flow_paths.specs.Names.{has_call}
use Rattle.flow_paths.specs.Acts.{Frame, acts_of, leaks_of}
use Rattle.flow_paths.specs.Points.{FlowPoint}
use Rattle.numbered_points.specs.Extents.{prep_size, filled_in}

-- What points are made by, and whether temporaries have numbers.
pub record Maker : Type 0 where
  pub frame : Frame
  pub counted : Bool

abbrev pub temporary : Maker → ℕ → ℕ
temporary g t = if g.counted then t else 0

-- A point with its acts and leak checks.
abbrev pub make : Maker → Pos → Instruction → List ℕ → FlowPoint
make g p i next = record { pos = p; acts = acts_of g.frame p i; leaks = leaks_of g.frame p i; instr = i; next = next }

-- Where m points begin whose first one would have the number n, or what follows where there are
-- none.
abbrev pub next_of : ℕ → ℕ → List ℕ → List ℕ
next_of zero n k = k
next_of (suc m) n k = n ∷ []

unfoldable pub prepared : Maker → TypedTree → ℕ → ℕ → List ℕ → List FlowPoint
-- a call: those of the actuals in order of the formals, and the call itself
prepared g (Call p sub actuals) n t k =
    prepared g actuals n t ((n + prep_size actuals) ∷ [])
    ++ make g p (instruction.Call sub actuals (Some (temporary g (t + filled_in actuals)))) k ∷ []
-- a short circuit with a call on the right: those of the left operand; a point that evaluates it;
-- those of the right operand; a point that evaluates that. The left operand leads on to the right
-- one, or past it
prepared g (Short op p a q b) n t k =
    if has_call b then
    (let middle : ℕ = n + prep_size a in
    let here : ℕ = t + filled_in a in
    prepared g a n t (middle ∷ [])
    ++ (make g p (Evaluate (temporary g here) a (Some op)) ((middle + 1) ∷ k)
    ∷ (prepared g b (middle + 1) (here + 1) ((middle + 1 + prep_size b) ∷ [])
    ++ make g q (Evaluate (temporary g here) b None) k ∷ [])))
    else
    prepared g a n t (next_of (prep_size b) (n + prep_size a) k)
    ++ prepared g b (n + prep_size a) (t + filled_in a) k
-- else those of the operands, in the order in which they are evaluated
prepared g (Binary op a b) n t k =
    prepared g a n t (next_of (prep_size b) (n + prep_size a) k) ++ prepared g b (n + prep_size a) (t + filled_in a) k
prepared g (More a b) n t k =
    prepared g a n t (next_of (prep_size b) (n + prep_size a) k) ++ prepared g b (n + prep_size a) (t + filled_in a) k
prepared g (Element a low high b) n t k =
    prepared g a n t (next_of (prep_size b) (n + prep_size a) k) ++ prepared g b (n + prep_size a) (t + filled_in a) k
prepared g (Name p x e t0) n t k = prepared g e n t k
prepared g (Component i e) n t k = prepared g e n t k
prepared g (Designated e) n t k = prepared g e n t k
prepared g (Image t0 e) n t k = prepared g e n t k
prepared g (Parens e) n t k = prepared g e n t k
prepared g (Unary op e) n t k = prepared g e n t k
prepared g (IsNull equal e) n t k = prepared g e n t k
prepared g (Aggregate t0 e) n t k = prepared g e n t k
prepared g (Alike t0 e) n t k = prepared g e n t k
prepared g (New t0 e) n t k = prepared g e n t k
prepared g _ n t k = []
