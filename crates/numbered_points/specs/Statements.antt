-- The points of statements by numbers, one case for each row of the table of points (docs/FLOW.md,
-- "Points").
--
-- The first point has the number n, the next temporary has the number t, and k is what follows.
-- Points stand in the order of their numbers.
use Rattle.std.specs.Prelude.{ℕ, ◌+◌, List, [], ◌∷◌, ◌++◌, length, None, if◌then◌else◌}
use Rattle.spark_base.specs.declared.position.Pos.{Pos}
use Rattle.typed_tree.specs.Trees.{TypedTree, TypedCode, Declare, Assign, Skip, Output, Input, Release, If, Branch, Case, When, Loop, While, For, Exit, Return, Block, More}
use Rattle.typed_tree.specs.Trees as typed
use Rattle.flow_paths.specs.Instructions.{Instruction}
use Rattle.flow_paths.specs.Instructions as instruction
use Rattle.flow_paths.specs.Objects.{Typing}
use Rattle.flow_paths.specs.Names.{is_empty}
use Rattle.flow_paths.specs.Points.{FlowPoint}
use Rattle.flow_paths.specs.Layout.{choices_of}
use Rattle.numbered_points.specs.Extents.{prep_size, filled_in, Ways, size, ended_in, code_extent, branches_extent, branch_extent, when_extent}
use Rattle.numbered_points.specs.Prepared.{Maker, make, next_of, prepared}

abbrev pub around_loop : List ℕ → Ways → Ways
around_loop k w = record w { leave = k; in_loop = [] }

abbrev pub around_block : List ℕ → Ways → Ways
around_block xs w = record w { in_loop = xs ++ w.in_loop; in_all = xs ++ w.in_all }

-- ---- ends

-- The ends of scopes: one point for each object.
abbrev pub ended : Maker → Pos → List ℕ → ℕ → List ℕ → List FlowPoint
ended g p [] n k = []
ended g p (x ∷ rest) n k = make g p (instruction.EndScope x) (next_of (length rest) (n + 1) k) ∷ ended g p rest (n + 1) k

-- The ends of all scopes, and the end of the call.
abbrev pub closed : Maker → Pos → List ℕ → ℕ → List FlowPoint
closed g p xs n = ended g p xs n ((n + length xs) ∷ []) ++ make g p instruction.Finish [] ∷ []

-- ---- points that use an expression

abbrev pub used : Maker → Pos → TypedTree → Instruction → ℕ → ℕ → List ℕ → List FlowPoint
used g p e i n t next = prepared g e n t ((n + prep_size e) ∷ []) ++ make g p i next ∷ []

-- Two expressions, the first one evaluated first.
abbrev pub used_both : Maker → Pos → TypedTree → TypedTree → Instruction → ℕ → ℕ → List ℕ → List FlowPoint
used_both g p a b i n t next =
    prepared g a n t ((n + prep_size a) ∷ [])
    ++ prepared g b (n + prep_size a) (t + filled_in a) ((n + prep_size a + prep_size b) ∷ [])
    ++ make g p i next ∷ []

-- A point that goes on where there is no condition, or where one doesn't hold.
abbrev pub unless_empty : TypedTree → List ℕ → List ℕ
unless_empty e k = if is_empty e then [] else k

-- Where the alternatives of a `case` begin.
abbrev pub whens_begin : Typing → TypedCode → ℕ → Ways → List ℕ → List ℕ
whens_begin s (More a rest) n w k =
    next_of (size (when_extent s a) w) n k ++ whens_begin s rest (n + size (when_extent s a) w) w k
whens_begin s _ n w k = []

-- ---- statements

unfoldable mutual
  -- a statement, and a list of statements, of which each leads to the next one and the last one to
  -- k
  pub laid_numbers : Maker → TypedCode → ℕ → ℕ → Ways → List ℕ → List FlowPoint
  laid_numbers g (More a rest) n t w k =
      let behind : ℕ = n + size (code_extent g.frame.typing a) w in
      laid_numbers g a n t w (next_of (size (code_extent g.frame.typing rest) w) behind k)
      ++ laid_numbers g rest behind (t + (code_extent g.frame.typing a).filled) w k
  -- the declaration of an object: Prep(value); Declare
  laid_numbers g (Declare p x v) n t w k = used g p v (instruction.Declare x v) n t k
  -- an assignment: Prep(source); Prep(target); Assign
  laid_numbers g (Assign p target e) n t w k = used_both g p e target (instruction.Assign target e) n t k
  -- null: Skip
  laid_numbers g (Skip p) n t w k = make g p instruction.Skip k ∷ []
  -- the call of a procedure: Prep(actuals); Call
  laid_numbers g (typed.Call p sub actuals) n t w k = used g p actuals (instruction.Call sub actuals None) n t k
  -- Put, Put_Line, New_Line: Prep; Output
  laid_numbers g (Output p text line) n t w k = used g p text (instruction.Output text line) n t k
  -- Get: Prep; Input
  laid_numbers g (Input p target) n t w k = used g p target (instruction.Input target) n t k
  -- an instance of Unchecked_Deallocation: Prep; Release
  laid_numbers g (Release p m) n t w k = used g p m (instruction.Release m) n t k
  -- if: its branches in order, and then the statements of `else`
  laid_numbers g (If branches otherwise) n t w k =
      let behind : ℕ = n + size (branches_extent g.frame.typing branches) w in
      branches_numbers g branches n t w k (next_of (size (code_extent g.frame.typing otherwise) w) behind k)
      ++ laid_numbers g otherwise behind (t + (branches_extent g.frame.typing branches).filled) w k
  -- case: Prep; Choose, with a successor for each alternative
  laid_numbers g (Case p e whens) n t w k =
      let behind : ℕ = n + prep_size e + 1 in
      used g p e (instruction.Choose e (choices_of whens)) n t (whens_begin g.frame.typing whens behind w k)
      ++ whens_numbers g whens behind (t + filled_in e) w k
  -- a plain loop has none of its own. Its statements lead back to their own first point
  laid_numbers g (Loop stmts) n t w k =
      laid_numbers g stmts n t (around_loop k w) (next_of (size (code_extent g.frame.typing stmts) (around_loop k w)) n k)
  -- while, each iteration and the last test: Prep; Test
  laid_numbers g (While p e stmts) n t w k =
      let inner : ℕ = n + prep_size e + 1 in
      used g p e (instruction.Test e) n t (next_of (size (code_extent g.frame.typing stmts) (around_loop k w)) inner (n ∷ []) ++ k)
      ++ laid_numbers g stmts inner (t + filled_in e) (around_loop k w) (n ∷ [])
  -- for: Prep; Start; then for each iteration and the last test Next
  laid_numbers g (For p x reversed low high stmts) n t w k =
      let next : ℕ = n + prep_size low + prep_size high + 1 in
      used_both g p low high (instruction.Start x reversed low high) n t (next ∷ [])
      ++ make g p (instruction.Next x reversed low high)
      (next_of (size (code_extent g.frame.typing stmts) (around_loop k w)) (next + 1) (next ∷ []) ++ k)
      ∷ laid_numbers g stmts (next + 1) (t + filled_in low + filled_in high) (around_loop k w) (next ∷ [])
  -- exit: Prep; LeaveLoop; where it leaves, the ends of each scope between it and the loop, inner
  -- first
  laid_numbers g (Exit p e) n t w k =
      let out : ℕ = n + prep_size e + 1 in
      used g p e (instruction.LeaveLoop e) n t (next_of (length w.in_loop) out w.leave ++ unless_empty e k)
      ++ ended g p w.in_loop out w.leave
  -- return: Prep; Hold; the ends of all scopes, inner first; Finish
  laid_numbers g (Return p v) n t w k =
      let out : ℕ = n + prep_size v + 1 in used g p v (instruction.Hold v) n t (out ∷ []) ++ closed g p w.in_all out
  -- the end of a block: the ends of its scope
  laid_numbers g (Block b stmts end) n t w k =
      let xs : List ℕ = ended_in g.frame.typing stmts in
      let out : ℕ = n + size (code_extent g.frame.typing stmts) (around_block xs w) in
      laid_numbers g stmts n t (around_block xs w) (next_of (length xs) out k) ++ ended g end xs out k
  laid_numbers g _ n t w k = []

  -- the branches of an `if`; a condition that doesn't hold leads to the next branch, and the last
  -- one to what follows `else`
  pub branches_numbers : Maker → TypedCode → ℕ → ℕ → Ways → List ℕ → List ℕ → List FlowPoint
  branches_numbers g (More a rest) n t w k otherwise =
      let behind : ℕ = n + size (branch_extent g.frame.typing a) w in
      branch_numbers g a n t w k (next_of (size (branches_extent g.frame.typing rest) w) behind otherwise)
      ++ branches_numbers g rest behind (t + (branch_extent g.frame.typing a).filled) w k otherwise
  branches_numbers g _ n t w k otherwise = []

  -- each condition reached: Prep; Test
  pub branch_numbers : Maker → TypedCode → ℕ → ℕ → Ways → List ℕ → List ℕ → List FlowPoint
  branch_numbers g (Branch p e stmts) n t w k otherwise =
      let inner : ℕ = n + prep_size e + 1 in
      used g p e (instruction.Test e) n t (next_of (size (code_extent g.frame.typing stmts) w) inner k ++ otherwise)
      ++ laid_numbers g stmts inner (t + filled_in e) w k
  branch_numbers g _ n t w k otherwise = []

  -- the alternatives of a `case`
  pub whens_numbers : Maker → TypedCode → ℕ → ℕ → Ways → List ℕ → List FlowPoint
  whens_numbers g (More a rest) n t w k =
      when_numbers g a n t w k
      ++ whens_numbers g rest (n + size (when_extent g.frame.typing a) w) (t + (when_extent g.frame.typing a).filled) w k
  whens_numbers g _ n t w k = []

  pub when_numbers : Maker → TypedCode → ℕ → ℕ → Ways → List ℕ → List FlowPoint
  when_numbers g (When choices stmts) n t w k = laid_numbers g stmts n t w k
  when_numbers g _ n t w k = []
