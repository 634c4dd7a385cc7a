-- The points that come before a point which uses an expression (docs/FLOW.md, "Points").
--
-- An expression without calls of functions of the program has none. `scope` is what is in scope
-- before them, and k is what follows.
use Rattle.std.specs.Prelude.{ℕ, List, [], ◌∷◌, ◌++◌, Some, None, if◌then◌else◌}
use Rattle.typed_tree.specs.Trees.{TypedTree, Name, Component, Designated, Element, Call, Image, Parens, Unary, Binary, Short, IsNull, Aggregate, Alike, New, More}
use Rattle.flow_paths.specs.Instructions.{Evaluate}
use Rattle.flow_paths.specs.Instructions as instruction
use Rattle.flow_paths.specs.Objects.{Typing}
use Rattle.flow_paths.specs.Names.{has_call}
use Rattle.flow_paths.specs.Points.{Place, PointName, row_at, NamedPoint, point, entry}

-- What points are laid out by: the program, and the numbers of the temporaries, of which each is
-- named by the place of the call or the short circuit whose value waits there.
pub record Setting : Type 0 where
  pub typing : Typing
  pub temporary : Place → ℕ

-- The temporaries that hold what an expression has to wait for, the last one first.
unfoldable pub held : Setting → TypedTree → Place → List ℕ
held s (Call p sub actuals) at = s.temporary at ∷ []
held s (Short op p a q b) at =
    if has_call b then s.temporary at ∷ [] else held s b (1 ∷ at) ++ held s a (0 ∷ at)
held s (Name p x steps t) at = held s steps (0 ∷ at)
held s (Component i rest) at = held s rest (0 ∷ at)
held s (Designated rest) at = held s rest (0 ∷ at)
held s (Element index low high rest) at = held s rest (1 ∷ at) ++ held s index (0 ∷ at)
held s (Image t e) at = held s e (0 ∷ at)
held s (Parens e) at = held s e (0 ∷ at)
held s (Unary op e) at = held s e (0 ∷ at)
held s (Binary op a b) at = held s b (1 ∷ at) ++ held s a (0 ∷ at)
held s (IsNull equal e) at = held s e (0 ∷ at)
held s (Aggregate t parts) at = held s parts (0 ∷ at)
held s (Alike t e) at = held s e (0 ∷ at)
held s (New t v) at = held s v (0 ∷ at)
held s (More e rest) at = held s rest (1 ∷ at) ++ held s e (0 ∷ at)
held s _ at = []

abbrev pub with_held : Setting → TypedTree → Place → List ℕ → List ℕ
with_held s e at scope = held s e at ++ scope

unfoldable pub prep : Setting → TypedTree → Place → List ℕ → List PointName → List NamedPoint
-- a call: those of the actuals in order of the formals, and the call itself
prep s (Call p sub actuals) at scope k =
    prep s actuals (0 ∷ at) scope (row_at at 0 ∷ [])
    ++ point (row_at at 0) p (instruction.Call sub actuals (Some (s.temporary at))) (with_held s actuals (0 ∷ at) scope) k ∷ []
-- a short circuit with a call on the right: those of the left operand; a point that evaluates it;
-- those of the right operand; a point that evaluates that. The left operand leads on to the right
-- one, or past it
prep s (Short op p a q b) at scope k =
    if has_call b then
    (let right : List NamedPoint = prep s b (1 ∷ at) (s.temporary at ∷ scope) (row_at at 1 ∷ []) in
    prep s a (0 ∷ at) scope (row_at at 0 ∷ [])
    ++ (point (row_at at 0) p (Evaluate (s.temporary at) a (Some op)) (with_held s a (0 ∷ at) scope)
    (entry right (row_at at 1 ∷ []) ++ k)
    ∷ (right
    ++ point (row_at at 1) q (Evaluate (s.temporary at) b None) (with_held s b (1 ∷ at) (s.temporary at ∷ scope)) k ∷ [])))
    else
    (let behind : List NamedPoint = prep s b (1 ∷ at) (with_held s a (0 ∷ at) scope) k in
    prep s a (0 ∷ at) scope (entry behind k) ++ behind)
-- else those of the operands, in the order in which they are evaluated
prep s (Binary op a b) at scope k =
    let behind : List NamedPoint = prep s b (1 ∷ at) (with_held s a (0 ∷ at) scope) k in
    prep s a (0 ∷ at) scope (entry behind k) ++ behind
prep s (More e rest) at scope k =
    let behind : List NamedPoint = prep s rest (1 ∷ at) (with_held s e (0 ∷ at) scope) k in
    prep s e (0 ∷ at) scope (entry behind k) ++ behind
prep s (Element index low high rest) at scope k =
    let behind : List NamedPoint = prep s rest (1 ∷ at) (with_held s index (0 ∷ at) scope) k in
    prep s index (0 ∷ at) scope (entry behind k) ++ behind
prep s (Name p x steps t) at scope k = prep s steps (0 ∷ at) scope k
prep s (Component i rest) at scope k = prep s rest (0 ∷ at) scope k
prep s (Designated rest) at scope k = prep s rest (0 ∷ at) scope k
prep s (Image t e) at scope k = prep s e (0 ∷ at) scope k
prep s (Parens e) at scope k = prep s e (0 ∷ at) scope k
prep s (Unary op e) at scope k = prep s e (0 ∷ at) scope k
prep s (IsNull equal e) at scope k = prep s e (0 ∷ at) scope k
prep s (Aggregate t parts) at scope k = prep s parts (0 ∷ at) scope k
prep s (Alike t e) at scope k = prep s e (0 ∷ at) scope k
prep s (New t v) at scope k = prep s v (0 ∷ at) scope k
prep s _ at scope k = []
