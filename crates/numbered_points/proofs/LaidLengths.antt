-- As many points are made of statements as their extents say.
use Rattle.std.proofs.Common.{◌≡◌, ℕ, ◌+◌, List, [], ◌∷◌, ◌++◌, length, ◌∙◌, length-append, None}
use Rattle.typed_tree.specs.Trees.{TypedTree, TypedCode, Declare, Assign, Skip, Output, Input, Release, If, Branch, Case, When, Loop, While, For, Exit, Return, Block, More}
use Rattle.typed_tree.specs.Trees as typed
use Rattle.flow_paths.specs.Instructions.{Instruction}
use Rattle.flow_paths.specs.Instructions as instruction
use Rattle.flow_paths.specs.Objects.{Typing}
use Rattle.flow_paths.specs.Points.{FlowPoint}
use Rattle.flow_paths.specs.Layout.{choices_of}
use Rattle.numbered_points.specs.Extents.{prep_size, filled_in, Extent, Ways, extent, nothing, using, both, in_turns, ending_with, size, ended_in, code_extent, branches_extent, branch_extent, whens_extent, when_extent}
use Rattle.numbered_points.specs.Prepared.{Maker, make, next_of}
use Rattle.numbered_points.specs.Statements.{around_loop, around_block, ended, closed, used, used_both, unless_empty, whens_begin, laid_numbers, branches_numbers, branch_numbers, whens_numbers, when_numbers}
use Rattle.numbered_points.proofs.Extents.{total, plain_total, turns_total, block_sums}
use Rattle.numbered_points.proofs.Lengths.{two_lengths, lengths_join, used_total, used_both_total, ended_length, ended_total, closed_total}

turns_length : (ps : List FlowPoint) (a : Extent) (i j : ℕ) → length ps ≡ total a 0 j → length ps ≡ total (in_turns a) i j
turns_length ps a i j is = is ∙ turns_total a.own a.exits a.returns i j

block_length : (ps qs : List FlowPoint) (a : Extent) (w : Ways) (xs : List ℕ)
    → length ps ≡ total a (length (xs ++ w.in_loop)) (length (xs ++ w.in_all)) → length qs ≡ length xs
    → length (ps ++ qs) ≡ total (ending_with (length xs) a) (length w.in_loop) (length w.in_all)
block_length ps qs a w xs x y =
    two_lengths ps qs (total a (length (xs ++ w.in_loop)) (length (xs ++ w.in_all))) (length xs) x y
    ∙ (λ k. total a (length-append xs w.in_loop k) (length-append xs w.in_all k) + length xs)
    ∙ block_sums a.own a.exits a.returns (length xs) (length w.in_loop) (length w.in_all)

for_length : (ps qs : List FlowPoint) (q : FlowPoint) (a b : Extent) (i j : ℕ) → length ps ≡ total a i j → length qs ≡ total b i j
    → length (ps ++ q ∷ qs) ≡ total (both a (both (extent 1 0 0 0) b)) i j
for_length ps qs q a b i j x y =
    lengths_join ps (q ∷ qs) a (both (extent 1 0 0 0) b) i j x
    (lengths_join (q ∷ []) qs (extent 1 0 0 0) b i j (plain_total 1 i j) y)

-- Points of which the extent is told.
abbrev pub Reaches : List FlowPoint → Extent → Ways → Type 0
Reaches ps a w = length ps ≡ total a (length w.in_loop) (length w.in_all)

none_reach : (w : Ways) → Reaches [] nothing w
none_reach w = plain_total 0 (length w.in_loop) (length w.in_all)

mutual
  unfolding laid_numbers code_extent

  pub laid_length : (g : Maker) (c : TypedCode) (n t : ℕ) (w : Ways) (k : List ℕ) → Reaches (laid_numbers g c n t w k) (code_extent g.frame.typing c) w
  laid_length g (More a rest) n t w k =
      let s : Typing = g.frame.typing in
      let behind : ℕ = n + size (code_extent s a) w in
      lengths_join (laid_numbers g a n t w (next_of (size (code_extent s rest) w) behind k)) (laid_numbers g rest behind (t + (code_extent s a).filled) w k)
      (code_extent s a) (code_extent s rest) (length w.in_loop) (length w.in_all)
      (laid_length g a n t w (next_of (size (code_extent s rest) w) behind k)) (laid_length g rest behind (t + (code_extent s a).filled) w k)
  laid_length g (Declare p x v) n t w k = used_total g p v (instruction.Declare x v) n t k (length w.in_loop) (length w.in_all)
  laid_length g (Assign p target e) n t w k = used_both_total g p e target (instruction.Assign target e) n t k (length w.in_loop) (length w.in_all)
  laid_length g (Skip p) n t w k = plain_total 1 (length w.in_loop) (length w.in_all)
  laid_length g (typed.Call p sub actuals) n t w k =
      used_total g p actuals (instruction.Call sub actuals None) n t k (length w.in_loop) (length w.in_all)
  laid_length g (Output p text line) n t w k = used_total g p text (instruction.Output text line) n t k (length w.in_loop) (length w.in_all)
  laid_length g (Input p target) n t w k = used_total g p target (instruction.Input target) n t k (length w.in_loop) (length w.in_all)
  laid_length g (Release p m) n t w k = used_total g p m (instruction.Release m) n t k (length w.in_loop) (length w.in_all)
  laid_length g (If branches otherwise) n t w k =
      let s : Typing = g.frame.typing in
      let behind : ℕ = n + size (branches_extent s branches) w in
      let next : List ℕ = next_of (size (code_extent s otherwise) w) behind k in
      lengths_join (branches_numbers g branches n t w k next) (laid_numbers g otherwise behind (t + (branches_extent s branches).filled) w k)
      (branches_extent s branches) (code_extent s otherwise) (length w.in_loop) (length w.in_all)
      (branches_length g branches n t w k next) (laid_length g otherwise behind (t + (branches_extent s branches).filled) w k)
  laid_length g (Case p e whens) n t w k =
      let behind : ℕ = n + prep_size e + 1 in
      let begin : List ℕ = whens_begin g.frame.typing whens behind w k in
      lengths_join (used g p e (instruction.Choose e (choices_of whens)) n t begin) (whens_numbers g whens behind (t + filled_in e) w k)
      (using e 1) (whens_extent g.frame.typing whens) (length w.in_loop) (length w.in_all)
      (used_total g p e (instruction.Choose e (choices_of whens)) n t begin (length w.in_loop) (length w.in_all))
      (whens_length g whens behind (t + filled_in e) w k)
  laid_length g (Loop stmts) n t w k =
      let x : Extent = code_extent g.frame.typing stmts in
      let next : List ℕ = next_of (size x (around_loop k w)) n k in
      turns_length (laid_numbers g stmts n t (around_loop k w) next) x (length w.in_loop) (length w.in_all) (laid_length g stmts n t (around_loop k w) next)
  laid_length g (While p e stmts) n t w k =
      let x : Extent = code_extent g.frame.typing stmts in
      let inner : ℕ = n + prep_size e + 1 in
      let next : List ℕ = next_of (size x (around_loop k w)) inner (n ∷ []) ++ k in
      let points : List FlowPoint = laid_numbers g stmts inner (t + filled_in e) (around_loop k w) (n ∷ []) in
      lengths_join (used g p e (instruction.Test e) n t next) points (using e 1) (in_turns x) (length w.in_loop) (length w.in_all)
      (used_total g p e (instruction.Test e) n t next (length w.in_loop) (length w.in_all))
      (turns_length points x (length w.in_loop) (length w.in_all) (laid_length g stmts inner (t + filled_in e) (around_loop k w) (n ∷ [])))
  laid_length g (For p x reversed low high stmts) n t w k =
      let y : Extent = code_extent g.frame.typing stmts in
      let next : ℕ = n + prep_size low + prep_size high + 1 in
      let u : ℕ = t + filled_in low + filled_in high in
      let points : List FlowPoint = laid_numbers g stmts (next + 1) u (around_loop k w) (next ∷ []) in
      for_length (used_both g p low high (instruction.Start x reversed low high) n t (next ∷ [])) points
      (make g p (instruction.Next x reversed low high) (next_of (size y (around_loop k w)) (next + 1) (next ∷ []) ++ k))
      (both (using low 0) (using high 1)) (in_turns y) (length w.in_loop) (length w.in_all)
      (used_both_total g p low high (instruction.Start x reversed low high) n t (next ∷ []) (length w.in_loop) (length w.in_all))
      (turns_length points y (length w.in_loop) (length w.in_all) (laid_length g stmts (next + 1) u (around_loop k w) (next ∷ [])))
  laid_length g (Exit p e) n t w k =
      let out : ℕ = n + prep_size e + 1 in
      let next : List ℕ = next_of (length w.in_loop) out w.leave ++ unless_empty e k in
      lengths_join (used g p e (instruction.LeaveLoop e) n t next) (ended g p w.in_loop out w.leave) (using e 1) (extent 0 1 0 0)
      (length w.in_loop) (length w.in_all) (used_total g p e (instruction.LeaveLoop e) n t next (length w.in_loop) (length w.in_all))
      (ended_total g p w.in_loop out w.leave (length w.in_all))
  laid_length g (Return p v) n t w k =
      let out : ℕ = n + prep_size v + 1 in
      lengths_join (used g p v (instruction.Hold v) n t (out ∷ [])) (closed g p w.in_all out) (using v 1) (extent 1 0 1 0)
      (length w.in_loop) (length w.in_all) (used_total g p v (instruction.Hold v) n t (out ∷ []) (length w.in_loop) (length w.in_all))
      (closed_total g p w.in_all out (length w.in_loop))
  laid_length g (Block b stmts end) n t w k =
      let x : Extent = code_extent g.frame.typing stmts in
      let xs : List ℕ = ended_in g.frame.typing stmts in
      let out : ℕ = n + size x (around_block xs w) in
      block_length (laid_numbers g stmts n t (around_block xs w) (next_of (length xs) out k)) (ended g end xs out k) x w xs
      (laid_length g stmts n t (around_block xs w) (next_of (length xs) out k)) (ended_length g end xs out k)
  laid_length g _ n t w k = none_reach w

  pub branches_length : (g : Maker) (c : TypedCode) (n t : ℕ) (w : Ways) (k otherwise : List ℕ)
      → Reaches (branches_numbers g c n t w k otherwise) (branches_extent g.frame.typing c) w
  branches_length g (More a rest) n t w k otherwise =
      let s : Typing = g.frame.typing in
      let behind : ℕ = n + size (branch_extent s a) w in
      let next : List ℕ = next_of (size (branches_extent s rest) w) behind otherwise in
      lengths_join (branch_numbers g a n t w k next) (branches_numbers g rest behind (t + (branch_extent s a).filled) w k otherwise)
      (branch_extent s a) (branches_extent s rest) (length w.in_loop) (length w.in_all)
      (branch_length g a n t w k next) (branches_length g rest behind (t + (branch_extent s a).filled) w k otherwise)
  branches_length g _ n t w k otherwise = none_reach w

  pub branch_length : (g : Maker) (c : TypedCode) (n t : ℕ) (w : Ways) (k otherwise : List ℕ)
      → Reaches (branch_numbers g c n t w k otherwise) (branch_extent g.frame.typing c) w
  branch_length g (Branch p e stmts) n t w k otherwise =
      let x : Extent = code_extent g.frame.typing stmts in
      let inner : ℕ = n + prep_size e + 1 in
      let next : List ℕ = next_of (size x w) inner k ++ otherwise in
      lengths_join (used g p e (instruction.Test e) n t next) (laid_numbers g stmts inner (t + filled_in e) w k) (using e 1) x
      (length w.in_loop) (length w.in_all) (used_total g p e (instruction.Test e) n t next (length w.in_loop) (length w.in_all))
      (laid_length g stmts inner (t + filled_in e) w k)
  branch_length g _ n t w k otherwise = none_reach w

  pub whens_length : (g : Maker) (c : TypedCode) (n t : ℕ) (w : Ways) (k : List ℕ)
      → Reaches (whens_numbers g c n t w k) (whens_extent g.frame.typing c) w
  whens_length g (More a rest) n t w k =
      let x : Extent = when_extent g.frame.typing a in
      lengths_join (when_numbers g a n t w k) (whens_numbers g rest (n + size x w) (t + x.filled) w k) x (whens_extent g.frame.typing rest)
      (length w.in_loop) (length w.in_all) (when_length g a n t w k) (whens_length g rest (n + size x w) (t + x.filled) w k)
  whens_length g _ n t w k = none_reach w

  pub when_length : (g : Maker) (c : TypedCode) (n t : ℕ) (w : Ways) (k : List ℕ)
      → Reaches (when_numbers g c n t w k) (when_extent g.frame.typing c) w
  when_length g (When choices stmts) n t w k = laid_length g stmts n t w k
  when_length g _ n t w k = none_reach w
