-- The points of statements, without acts and leak checks (`numbered_points/specs/Statements.antt`).
use Rattle.std.specs.Prelude.{ℕ, ◌+◌, Bool, List, [], ◌∷◌, ◌++◌, length, None}
use Rattle.spark_base.specs.declared.position.Pos.{Pos}
use Rattle.typed_tree.specs.Trees.{TypedTree, TypedCode, Declare, Assign, Skip, Output, Input, Release, If, Branch, Case, When, Loop, While, For, Exit, Return, Block, More}
use Rattle.typed_tree.specs.Trees as typed
use Rattle.flow_paths.specs.Instructions.{Instruction}
use Rattle.flow_paths.specs.Instructions as instruction
use Rattle.flow_paths.specs.Layout.{choices_of}
use Rattle.numbered_points.specs.Extents.{prep_size, filled_in, Ways, size}
use Rattle.numbered_points.specs.Prepared.{next_of}
use Rattle.numbered_points.specs.Statements.{around_loop, around_block, unless_empty}
use Rattle.bare_points.specs.Bare.{Bare, bare, Laying}
use Rattle.bare_points.specs.Spans.{owned, code_span, branches_span, branch_span, when_span}
use Rattle.bare_points.specs.BarePrepared.{bare_prepared}

-- ---- ends

-- The ends of scopes: one point for each object.
abbrev pub bare_ended : Pos → List ℕ → ℕ → List ℕ → List Bare
bare_ended p [] n k = []
bare_ended p (x ∷ rest) n k = bare p (instruction.EndScope x) (next_of (length rest) (n + 1) k) ∷ bare_ended p rest (n + 1) k

-- The ends of all scopes, and the end of the call.
abbrev pub bare_closed : Pos → List ℕ → ℕ → List Bare
bare_closed p xs n = bare_ended p xs n ((n + length xs) ∷ []) ++ bare p instruction.Finish [] ∷ []

-- ---- points that use an expression

abbrev pub bare_used : Laying → Pos → TypedTree → Instruction → ℕ → ℕ → List ℕ → List Bare
bare_used g p e i n t next = bare_prepared g e n t ((n + prep_size e) ∷ []) ++ bare p i next ∷ []

-- Two expressions, the first one evaluated first.
abbrev pub bare_used_both : Laying → Pos → TypedTree → TypedTree → Instruction → ℕ → ℕ → List ℕ → List Bare
bare_used_both g p a b i n t next =
    bare_prepared g a n t ((n + prep_size a) ∷ [])
    ++ bare_prepared g b (n + prep_size a) (t + filled_in a) ((n + prep_size a + prep_size b) ∷ [])
    ++ bare p i next ∷ []

-- Where the alternatives of a `case` begin.
abbrev pub whens_start : (ℕ → Bool) → TypedCode → ℕ → Ways → List ℕ → List ℕ
whens_start ends (More a rest) n w k =
    next_of (size (when_span ends a) w) n k ++ whens_start ends rest (n + size (when_span ends a) w) w k
whens_start ends _ n w k = []

-- ---- statements

unfoldable mutual
  -- a statement, and a list of statements, of which each leads to the next one and the last one to
  -- k
  pub bare_laid : Laying → TypedCode → ℕ → ℕ → Ways → List ℕ → List Bare
  bare_laid g (More a rest) n t w k =
      let behind : ℕ = n + size (code_span g.ends a) w in
      bare_laid g a n t w (next_of (size (code_span g.ends rest) w) behind k)
      ++ bare_laid g rest behind (t + (code_span g.ends a).filled) w k
  -- the declaration of an object: Prep(value); Declare
  bare_laid g (Declare p x v) n t w k = bare_used g p v (instruction.Declare x v) n t k
  -- an assignment: Prep(source); Prep(target); Assign
  bare_laid g (Assign p target e) n t w k = bare_used_both g p e target (instruction.Assign target e) n t k
  -- null: Skip
  bare_laid g (Skip p) n t w k = bare p instruction.Skip k ∷ []
  -- the call of a procedure: Prep(actuals); Call
  bare_laid g (typed.Call p sub actuals) n t w k = bare_used g p actuals (instruction.Call sub actuals None) n t k
  -- Put, Put_Line, New_Line: Prep; Output
  bare_laid g (Output p text line) n t w k = bare_used g p text (instruction.Output text line) n t k
  -- Get: Prep; Input
  bare_laid g (Input p target) n t w k = bare_used g p target (instruction.Input target) n t k
  -- an instance of Unchecked_Deallocation: Prep; Release
  bare_laid g (Release p m) n t w k = bare_used g p m (instruction.Release m) n t k
  -- if: its branches in order, and then the statements of `else`
  bare_laid g (If branches otherwise) n t w k =
      let behind : ℕ = n + size (branches_span g.ends branches) w in
      bare_branches g branches n t w k (next_of (size (code_span g.ends otherwise) w) behind k)
      ++ bare_laid g otherwise behind (t + (branches_span g.ends branches).filled) w k
  -- case: Prep; Choose, with a successor for each alternative
  bare_laid g (Case p e whens) n t w k =
      let behind : ℕ = n + prep_size e + 1 in
      bare_used g p e (instruction.Choose e (choices_of whens)) n t (whens_start g.ends whens behind w k)
      ++ bare_whens g whens behind (t + filled_in e) w k
  -- a plain loop has none of its own. Its statements lead back to their own first point
  bare_laid g (Loop stmts) n t w k =
      bare_laid g stmts n t (around_loop k w) (next_of (size (code_span g.ends stmts) (around_loop k w)) n k)
  -- while, each iteration and the last test: Prep; Test
  bare_laid g (While p e stmts) n t w k =
      let inner : ℕ = n + prep_size e + 1 in
      bare_used g p e (instruction.Test e) n t (next_of (size (code_span g.ends stmts) (around_loop k w)) inner (n ∷ []) ++ k)
      ++ bare_laid g stmts inner (t + filled_in e) (around_loop k w) (n ∷ [])
  -- for: Prep; Start; then for each iteration and the last test Next
  bare_laid g (For p x reversed low high stmts) n t w k =
      let next : ℕ = n + prep_size low + prep_size high + 1 in
      bare_used_both g p low high (instruction.Start x reversed low high) n t (next ∷ [])
      ++ bare p (instruction.Next x reversed low high)
      (next_of (size (code_span g.ends stmts) (around_loop k w)) (next + 1) (next ∷ []) ++ k)
      ∷ bare_laid g stmts (next + 1) (t + filled_in low + filled_in high) (around_loop k w) (next ∷ [])
  -- exit: Prep; LeaveLoop; where it leaves, the ends of each scope between it and the loop, inner
  -- first
  bare_laid g (Exit p e) n t w k =
      let out : ℕ = n + prep_size e + 1 in
      bare_used g p e (instruction.LeaveLoop e) n t (next_of (length w.in_loop) out w.leave ++ unless_empty e k)
      ++ bare_ended p w.in_loop out w.leave
  -- return: Prep; Hold; the ends of all scopes, inner first; Finish
  bare_laid g (Return p v) n t w k =
      let out : ℕ = n + prep_size v + 1 in bare_used g p v (instruction.Hold v) n t (out ∷ []) ++ bare_closed p w.in_all out
  -- the end of a block: the ends of its scope
  bare_laid g (Block b stmts end) n t w k =
      let xs : List ℕ = owned g.ends stmts in
      let out : ℕ = n + size (code_span g.ends stmts) (around_block xs w) in
      bare_laid g stmts n t (around_block xs w) (next_of (length xs) out k) ++ bare_ended end xs out k
  bare_laid g _ n t w k = []

  -- the branches of an `if`; a condition that doesn't hold leads to the next branch, and the last
  -- one to what follows `else`
  pub bare_branches : Laying → TypedCode → ℕ → ℕ → Ways → List ℕ → List ℕ → List Bare
  bare_branches g (More a rest) n t w k otherwise =
      let behind : ℕ = n + size (branch_span g.ends a) w in
      bare_branch g a n t w k (next_of (size (branches_span g.ends rest) w) behind otherwise)
      ++ bare_branches g rest behind (t + (branch_span g.ends a).filled) w k otherwise
  bare_branches g _ n t w k otherwise = []

  -- each condition reached: Prep; Test
  pub bare_branch : Laying → TypedCode → ℕ → ℕ → Ways → List ℕ → List ℕ → List Bare
  bare_branch g (Branch p e stmts) n t w k otherwise =
      let inner : ℕ = n + prep_size e + 1 in
      bare_used g p e (instruction.Test e) n t (next_of (size (code_span g.ends stmts) w) inner k ++ otherwise)
      ++ bare_laid g stmts inner (t + filled_in e) w k
  bare_branch g _ n t w k otherwise = []

  -- the alternatives of a `case`
  pub bare_whens : Laying → TypedCode → ℕ → ℕ → Ways → List ℕ → List Bare
  bare_whens g (More a rest) n t w k =
      bare_when g a n t w k
      ++ bare_whens g rest (n + size (when_span g.ends a) w) (t + (when_span g.ends a).filled) w k
  bare_whens g _ n t w k = []

  pub bare_when : Laying → TypedCode → ℕ → ℕ → Ways → List ℕ → List Bare
  bare_when g (When choices stmts) n t w k = bare_laid g stmts n t w k
  bare_when g _ n t w k = []

-- The iterations of a `for` loop: a point that takes the next value, and those of the statements.
abbrev pub bare_turns : Laying → Pos → Instruction → TypedCode → ℕ → ℕ → Ways → List ℕ → List Bare
bare_turns g p i stmts n t w k =
    bare p i (next_of (size (code_span g.ends stmts) (around_loop k w)) (n + 1) (n ∷ []) ++ k)
    ∷ bare_laid g stmts (n + 1) t (around_loop k w) (n ∷ [])
