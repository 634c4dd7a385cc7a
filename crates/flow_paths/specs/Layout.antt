-- The points of statements, one case for each row of the table of points (docs/FLOW.md, "Points").
--
-- k is what follows a construct. Points stand in the order of the text: those of a construct itself
-- before those of the statements in it, and those that end it after them.
use Rattle.std.specs.Prelude.{ℕ, suc, ◌==◌, List, [], ◌∷◌, ◌++◌, filter, flat_map, reverse, drop, length, None, if◌then◌else◌}
use Rattle.typed_tree.specs.spark_base.declared.position.Pos.{Pos}
use Rattle.typed_tree.specs.Trees.{TypedTree, TypedCode, Declare, Assign, Skip, Output, Input, Release, If, Branch, Case, When, Loop, While, For, Exit, Return, Block, More}
use Rattle.typed_tree.specs.Trees as typed
use Rattle.flow_paths.specs.Instructions.{Instruction}
use Rattle.flow_paths.specs.Instructions as instruction
use Rattle.flow_paths.specs.Objects.{has_scope_end}
use Rattle.flow_paths.specs.Names.{is_empty}
use Rattle.flow_paths.specs.Points.{Place, PointName, row_at, NamedPoint, point, entry}
use Rattle.flow_paths.specs.Prep.{Setting, with_held, prep}

-- What stands around a statement: what follows the innermost loop; the objects whose scopes end
-- where an exit leaves it, and where a return leaves all, the last one first; what is in scope; and
-- the formals.
pub record Around : Type 0 where
  pub leave : List PointName
  pub in_loop : List ℕ
  pub in_all : List ℕ
  pub scope : List ℕ
  pub formals : List ℕ

abbrev pub within_loop : List PointName → Around → Around
within_loop k w = record w { leave = k; in_loop = [] }

abbrev pub within_block : List ℕ → Around → Around
within_block ending w = record w { in_loop = ending ++ w.in_loop; in_all = ending ++ w.in_all }

-- The objects that code declares itself, in order: not in inner blocks.
unfoldable pub declared : TypedCode → List ℕ
declared (Declare p x v) = x ∷ []
declared (More a rest) = declared a ++ declared rest
declared _ = []

abbrev pub with_scope : List ℕ → Around → Around
with_scope xs w = record w { scope = reverse xs ++ w.scope }

-- Those whose scopes end at points, the last one first.
abbrev pub ending : Setting → TypedCode → List ℕ
ending s stmts = filter (has_scope_end s.typing) (reverse (declared stmts))

-- ---- ends

-- What is in scope from an object on.
abbrev pub from : ℕ → List ℕ → List ℕ
from x [] = []
from x (y ∷ rest) = if y == x then y ∷ rest else from x rest

-- The ends of scopes: one point for each object, with the numbers from `row` on.
abbrev pub ends : Place → ℕ → Pos → List ℕ → List ℕ → List PointName → List NamedPoint
ends at row p [] scope k = []
ends at row p (x ∷ rest) scope k =
    let behind : List NamedPoint = ends at (suc row) p rest (drop 1 (from x scope)) k in
    point (row_at at row) p (instruction.EndScope x) (from x scope) (entry behind k) ∷ behind

-- The ends of all scopes, and the end of the call.
abbrev pub closing : Place → ℕ → Pos → Around → List NamedPoint
closing at row p w =
    let finish : PointName = row_at at (suc (length w.in_all)) in
    ends at row p w.in_all w.scope (finish ∷ []) ++ point finish p instruction.Finish w.formals [] ∷ []

-- ---- points that use an expression

-- The Prep of an expression, which is the first part of its construct, and the point itself.
abbrev pub uses : Setting → Place → Pos → TypedTree → Instruction → Around → List PointName → List NamedPoint
uses s at p e i w next =
    prep s e (0 ∷ at) w.scope (row_at at 0 ∷ [])
    ++ point (row_at at 0) p i (with_held s e (0 ∷ at) w.scope) next ∷ []

-- The Prep of two expressions, the first and the second part of a construct, and the point itself:
-- the first part is evaluated first, or the second one.
abbrev pub uses_both : Setting → Place → Pos → TypedTree → TypedTree → Instruction → Around → List PointName → List NamedPoint
uses_both s at p a b i w next =
    let behind : List NamedPoint = prep s b (1 ∷ at) (with_held s a (0 ∷ at) w.scope) (row_at at 0 ∷ []) in
    prep s a (0 ∷ at) w.scope (entry behind (row_at at 0 ∷ [])) ++ behind
    ++ point (row_at at 0) p i (with_held s b (1 ∷ at) (with_held s a (0 ∷ at) w.scope)) next ∷ []

abbrev pub uses_second_first : Setting → Place → Pos → TypedTree → TypedTree → Instruction → Around → List PointName → List NamedPoint
uses_second_first s at p a b i w next =
    let behind : List NamedPoint = prep s a (0 ∷ at) (with_held s b (1 ∷ at) w.scope) (row_at at 0 ∷ []) in
    prep s b (1 ∷ at) w.scope (entry behind (row_at at 0 ∷ [])) ++ behind
    ++ point (row_at at 0) p i (with_held s a (0 ∷ at) (with_held s b (1 ∷ at) w.scope)) next ∷ []

-- A point that goes on where there is no condition, or where one doesn't hold.
abbrev pub unless_empty : TypedTree → List PointName → List PointName
unless_empty e k = if is_empty e then [] else k

abbrev pub choices_in : TypedCode → List TypedCode
choices_in (When choices stmts) = choices ∷ []
choices_in _ = []

unfoldable pub choices_of : TypedCode → List TypedCode
choices_of (More a rest) = choices_in a ++ choices_of rest
choices_of _ = []

-- ---- statements

unfoldable mutual
  -- a statement, and a list of statements, of which each leads to the next one and the last one to
  -- k
  pub laid : Setting → TypedCode → Place → Around → List PointName → List NamedPoint
  laid s (More a rest) at w k =
      let behind : List NamedPoint = laid s rest (1 ∷ at) (with_scope (declared a) w) k in
      laid s a (0 ∷ at) w (entry behind k) ++ behind
  -- the declaration of an object: Prep(value); Declare
  laid s (Declare p x v) at w k = uses s at p v (instruction.Declare x v) w k
  -- an assignment: Prep(source); Prep(target); Assign
  laid s (Assign p target e) at w k = uses_second_first s at p target e (instruction.Assign target e) w k
  -- null: Skip
  laid s (Skip p) at w k = point (row_at at 0) p instruction.Skip w.scope k ∷ []
  -- the call of a procedure: Prep(actuals); Call
  laid s (typed.Call p sub actuals) at w k = uses s at p actuals (instruction.Call sub actuals None) w k
  -- Put, Put_Line, New_Line: Prep; Output
  laid s (Output p text line) at w k = uses s at p text (instruction.Output text line) w k
  -- Get: Prep; Input
  laid s (Input p target) at w k = uses s at p target (instruction.Input target) w k
  -- an instance of Unchecked_Deallocation: Prep; Release
  laid s (Release p m) at w k = uses s at p m (instruction.Release m) w k
  -- if: its branches in order, and then the statements of `else`
  laid s (If branches otherwise) at w k =
      let behind : List NamedPoint = laid s otherwise (1 ∷ at) w k in
      laid_branches s branches (0 ∷ at) w k (entry behind k) ++ behind
  -- case: Prep; Choose, with a successor for each alternative
  laid s (Case p e whens) at w k =
      let behind : List (List NamedPoint) = laid_whens s whens (1 ∷ at) w k in
      uses s at p e (instruction.Choose e (choices_of whens)) w (flat_map (λ ps. entry ps k) behind) ++ flat_map (λ ps. ps) behind
  -- a plain loop has none of its own. Its statements lead back to their own first point, whose name
  -- is the same wherever they lead
  laid s (Loop stmts) at w k =
      laid s stmts (0 ∷ at) (within_loop k w) (entry (laid s stmts (0 ∷ at) (within_loop k w) k) k)
  -- while, each iteration and the last test: Prep; Test
  laid s (While p e stmts) at w k =
      let turn : List PointName = entry (prep s e (0 ∷ at) w.scope (row_at at 0 ∷ [])) (row_at at 0 ∷ []) in
      let inner : List NamedPoint = laid s stmts (1 ∷ at) (within_loop k w) turn in
      uses s at p e (instruction.Test e) w (entry inner turn ++ k) ++ inner
  -- for: Prep; Start; then for each iteration and the last test Next. The parameter is in scope
  -- after Start
  laid s (For p x reversed low high stmts) at w k =
      let next : PointName = row_at at 1 in
      let inner : List NamedPoint = laid s stmts (2 ∷ at) (with_scope (x ∷ []) (within_loop k w)) (next ∷ []) in
      uses_both s at p low high (instruction.Start x reversed low high) w (next ∷ [])
      ++ point next p (instruction.Next x reversed low high) (x ∷ w.scope) (entry inner (next ∷ []) ++ k) ∷ inner
  -- exit: Prep; LeaveLoop; where it leaves, the ends of each scope between it and the loop, inner
  -- first
  laid s (Exit p e) at w k =
      let out : List NamedPoint = ends at 1 p w.in_loop w.scope w.leave in
      uses s at p e (instruction.LeaveLoop e) w (entry out w.leave ++ unless_empty e k) ++ out
  -- return: Prep; Hold; the ends of all scopes, inner first; Finish
  laid s (Return p v) at w k =
      let out : List NamedPoint = closing at 1 p w in uses s at p v (instruction.Hold v) w (entry out []) ++ out
  -- the end of a block: the ends of its scope
  laid s (Block n stmts end) at w k =
      let out : List NamedPoint = ends at 0 end (ending s stmts) (reverse (declared stmts) ++ w.scope) k in
      laid s stmts (0 ∷ at) (within_block (ending s stmts) w) (entry out k) ++ out
  laid s _ at w k = []

  -- the branches of an `if`; a condition that doesn't hold leads to the next branch, and the last
  -- one to what follows `else`
  pub laid_branches : Setting → TypedCode → Place → Around → List PointName → List PointName → List NamedPoint
  laid_branches s (More a rest) at w k otherwise =
      let behind : List NamedPoint = laid_branches s rest (1 ∷ at) w k otherwise in
      laid_branch s a (0 ∷ at) w k (entry behind otherwise) ++ behind
  laid_branches s _ at w k otherwise = []

  -- each condition reached: Prep; Test
  pub laid_branch : Setting → TypedCode → Place → Around → List PointName → List PointName → List NamedPoint
  laid_branch s (Branch p e stmts) at w k otherwise =
      let inner : List NamedPoint = laid s stmts (1 ∷ at) w k in
      uses s at p e (instruction.Test e) w (entry inner k ++ otherwise) ++ inner
  laid_branch s _ at w k otherwise = []

  -- the alternatives of a `case`, each for itself
  pub laid_whens : Setting → TypedCode → Place → Around → List PointName → List (List NamedPoint)
  laid_whens s (More a rest) at w k = laid_when s a (0 ∷ at) w k ∷ laid_whens s rest (1 ∷ at) w k
  laid_whens s _ at w k = []

  pub laid_when : Setting → TypedCode → Place → Around → List PointName → List NamedPoint
  laid_when s (When choices stmts) at w k = laid s stmts (1 ∷ at) w k
  laid_when s _ at w k = []
