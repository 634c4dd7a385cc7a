-- The points of statements lead on among themselves, to what follows, or to what follows the loop.
use Rattle.std.proofs.Common.{◌≡◌, refl, sym, subst, ℕ, suc, List, [], ◌∷◌, ◌++◌, None}
use Rattle.std.specs.Prelude.{flat_map, reverse, drop, length}
use Rattle.spark_base.specs.declared.position.Pos.{Pos}
use Rattle.typed_tree.specs.Trees.{TypedTree, TypedCode, Declare, Assign, Skip, Output, Input, Release, If, Branch, Case, When, Loop, While, For, Exit, Return, Block, More}
use Rattle.typed_tree.specs.Trees as typed
use Rattle.flow_paths.specs.Instructions.{Instruction}
use Rattle.flow_paths.specs.Instructions as instruction
use Rattle.flow_paths.specs.Names.{is_empty}
use Rattle.flow_paths.specs.Points.{Place, PointName, row_at, NamedPoint, point, entry}
use Rattle.flow_paths.specs.Prep.{Setting, with_held, prep}
use Rattle.flow_paths.specs.Layout.{Around, within_loop, within_block, declared, with_scope, ending, from, ends, closing, uses, uses_both, uses_second_first, unless_empty, choices_of, laid, laid_branches, laid_branch, laid_whens, laid_when}
use Rattle.flow_paths.proofs.Entries.{entry_same, same_entry}
use Rattle.laid_program.proofs.Named.{AreIn, AreNamed, Lead, in_append, entry_in, two_lead, row_lead, turn_lead, unless_in, each_entry_in}
use Rattle.laid_program.proofs.PrepLeads.{prep_lead}

pub ends_lead : (names : List PointName) (at : Place) (row : ℕ) (p : Pos) (xs scope : List ℕ) (k : List PointName) → AreIn names k
    → AreNamed names (ends at row p xs scope k) → Lead names (ends at row p xs scope k)
ends_lead names at row p [] scope k kk named = tt
ends_lead names at row p (x ∷ xs) scope k kk named =
    let behind : List NamedPoint = ends at (suc row) p xs (drop 1 (from x scope)) k in
    (entry_in names behind k named.1 kk, ends_lead names at (suc row) p xs (drop 1 (from x scope)) k kk named.1)

closing_lead : (names : List PointName) (at : Place) (row : ℕ) (p : Pos) (w : Around) → AreNamed names (closing at row p w)
    → Lead names (closing at row p w)
closing_lead names at row p w =
    let finish : PointName = row_at at (suc (length w.in_all)) in
    row_lead names (ends at row p w.in_all w.scope (finish ∷ [])) (point finish p instruction.Finish w.formals [])
    (λ own. ends_lead names at row p w.in_all w.scope (finish ∷ []) own) tt

uses_lead : (names : List PointName) (s : Setting) (at : Place) (p : Pos) (e : TypedTree) (i : Instruction) (w : Around) (next : List PointName)
    → AreIn names next → AreNamed names (uses s at p e i w next) → Lead names (uses s at p e i w next)
uses_lead names s at p e i w next nn =
    row_lead names (prep s e (0 ∷ at) w.scope (row_at at 0 ∷ [])) (point (row_at at 0) p i (with_held s e (0 ∷ at) w.scope) next)
    (λ own. prep_lead names s e (0 ∷ at) w.scope (row_at at 0 ∷ []) own) nn

-- one expression before the other, and a point after both
pair_lead : (names : List PointName) (s : Setting) (at first second : Place) (a b : TypedTree) (scope inner : List ℕ) (q : NamedPoint)
    → q.name ≡ row_at at 0 → AreIn names q.next
    → AreNamed names ((prep s a first scope (entry (prep s b second inner (row_at at 0 ∷ [])) (row_at at 0 ∷ [])) ++ prep s b second inner (row_at at 0 ∷ [])) ++ q ∷ [])
    → Lead names ((prep s a first scope (entry (prep s b second inner (row_at at 0 ∷ [])) (row_at at 0 ∷ [])) ++ prep s b second inner (row_at at 0 ∷ [])) ++ q ∷ [])
pair_lead names s at first second a b scope inner q is nn =
    let own : List PointName = row_at at 0 ∷ [] in
    let behind : List NamedPoint = prep s b second inner own in
    row_lead names (prep s a first scope (entry behind own) ++ behind) q
    (λ last.
    let here : AreIn names own = subst (λ n. AreIn names (n ∷ [])) is last in
    two_lead names (prep s a first scope (entry behind own)) behind
    (λ back. prep_lead names s a first scope (entry behind own) (entry_in names behind own back here))
    (prep_lead names s b second inner own here)) nn

uses_both_lead : (names : List PointName) (s : Setting) (at : Place) (p : Pos) (a b : TypedTree) (i : Instruction) (w : Around) (next : List PointName)
    → AreIn names next → AreNamed names (uses_both s at p a b i w next) → Lead names (uses_both s at p a b i w next)
uses_both_lead names s at p a b i w next nn =
    pair_lead names s at (0 ∷ at) (1 ∷ at) a b w.scope (with_held s a (0 ∷ at) w.scope)
    (point (row_at at 0) p i (with_held s b (1 ∷ at) (with_held s a (0 ∷ at) w.scope)) next) refl nn

uses_second_first_lead : (names : List PointName) (s : Setting) (at : Place) (p : Pos) (a b : TypedTree) (i : Instruction) (w : Around)
    (next : List PointName) → AreIn names next → AreNamed names (uses_second_first s at p a b i w next)
    → Lead names (uses_second_first s at p a b i w next)
uses_second_first_lead names s at p a b i w next nn =
    pair_lead names s at (1 ∷ at) (0 ∷ at) b a w.scope (with_held s b (1 ∷ at) w.scope)
    (point (row_at at 0) p i (with_held s a (0 ∷ at) (with_held s b (1 ∷ at) w.scope)) next) refl nn

mutual
  unfolding laid

  pub laid_lead : (names : List PointName) (s : Setting) (c : TypedCode) (at : Place) (w : Around) (k : List PointName) → AreIn names k
      → AreIn names w.leave → AreNamed names (laid s c at w k) → Lead names (laid s c at w k)
  laid_lead names s (More a rest) at w k kk ll =
      let behind : List NamedPoint = laid s rest (1 ∷ at) (with_scope (declared a) w) k in
      two_lead names (laid s a (0 ∷ at) w (entry behind k)) behind
      (λ back. laid_lead names s a (0 ∷ at) w (entry behind k) (entry_in names behind k back kk) ll)
      (laid_lead names s rest (1 ∷ at) (with_scope (declared a) w) k kk ll)
  laid_lead names s (Declare p x v) at w k kk ll = uses_lead names s at p v (instruction.Declare x v) w k kk
  laid_lead names s (Assign p target e) at w k kk ll = uses_second_first_lead names s at p target e (instruction.Assign target e) w k kk
  laid_lead names s (Skip p) at w k kk ll = λ named. (kk, tt)
  laid_lead names s (typed.Call p sub actuals) at w k kk ll = uses_lead names s at p actuals (instruction.Call sub actuals None) w k kk
  laid_lead names s (Output p text line) at w k kk ll = uses_lead names s at p text (instruction.Output text line) w k kk
  laid_lead names s (Input p target) at w k kk ll = uses_lead names s at p target (instruction.Input target) w k kk
  laid_lead names s (Release p m) at w k kk ll = uses_lead names s at p m (instruction.Release m) w k kk
  laid_lead names s (If branches otherwise) at w k kk ll =
      let behind : List NamedPoint = laid s otherwise (1 ∷ at) w k in
      two_lead names (laid_branches s branches (0 ∷ at) w k (entry behind k)) behind
      (λ back. branches_lead names s branches (0 ∷ at) w k (entry behind k) kk ll (entry_in names behind k back kk))
      (laid_lead names s otherwise (1 ∷ at) w k kk ll)
  laid_lead names s (Case p e whens) at w k kk ll =
      let behind : List (List NamedPoint) = laid_whens s whens (1 ∷ at) w k in
      let next : List PointName = flat_map (λ ps. entry ps k) behind in
      two_lead names (uses s at p e (instruction.Choose e (choices_of whens)) w next) (flat_map (λ ps. ps) behind)
      (λ back. uses_lead names s at p e (instruction.Choose e (choices_of whens)) w next (each_entry_in names behind k kk back))
      (whens_lead names s whens (1 ∷ at) w k kk ll)
  laid_lead names s (Loop stmts) at w k kk ll =
      let inner : List NamedPoint = laid s stmts (0 ∷ at) (within_loop k w) k in
      let body : List NamedPoint = laid s stmts (0 ∷ at) (within_loop k w) (entry inner k) in
      λ named.
      laid_lead names s stmts (0 ∷ at) (within_loop k w) (entry inner k)
      (subst (AreIn names) (sym (entry_same inner body (same_entry s stmts (0 ∷ at) (within_loop k w) k k k (entry inner k)) k)) (entry_in names body k named kk))
      kk named
  laid_lead names s (While p e stmts) at w k kk ll =
      let ps : List NamedPoint = prep s e (0 ∷ at) w.scope (row_at at 0 ∷ []) in
      let turn : List PointName = entry ps (row_at at 0 ∷ []) in
      let inner : List NamedPoint = laid s stmts (1 ∷ at) (within_loop k w) turn in
      turn_lead names ps (point (row_at at 0) p (instruction.Test e) (with_held s e (0 ∷ at) w.scope) (entry inner turn ++ k)) inner k
      (λ own. prep_lead names s e (0 ∷ at) w.scope (row_at at 0 ∷ []) own)
      (λ back. laid_lead names s stmts (1 ∷ at) (within_loop k w) turn back kk) refl kk
  laid_lead names s (For p x reversed low high stmts) at w k kk ll =
      let next : PointName = row_at at 1 in
      let inner : List NamedPoint = laid s stmts (2 ∷ at) (with_scope (x ∷ []) (within_loop k w)) (next ∷ []) in
      let test : NamedPoint = point next p (instruction.Next x reversed low high) (x ∷ w.scope) (entry inner (next ∷ []) ++ k) in
      two_lead names (uses_both s at p low high (instruction.Start x reversed low high) w (next ∷ [])) (test ∷ inner)
      (λ back. uses_both_lead names s at p low high (instruction.Start x reversed low high) w (next ∷ []) (back.0, tt))
      (λ back. (
        in_append names (entry inner (next ∷ [])) k (entry_in names inner (next ∷ []) back.1 (back.0, tt)) kk,
        laid_lead names s stmts (2 ∷ at) (with_scope (x ∷ []) (within_loop k w)) (next ∷ []) (back.0, tt) kk back.1,
      ))
  laid_lead names s (Exit p e) at w k kk ll =
      let out : List NamedPoint = ends at 1 p w.in_loop w.scope w.leave in
      let next : List PointName = entry out w.leave ++ unless_empty e k in
      two_lead names (uses s at p e (instruction.LeaveLoop e) w next) out
      (λ back.
      uses_lead names s at p e (instruction.LeaveLoop e) w next
      (in_append names (entry out w.leave) (unless_empty e k) (entry_in names out w.leave back ll) (unless_in names (is_empty e) k kk)))
      (ends_lead names at 1 p w.in_loop w.scope w.leave ll)
  laid_lead names s (Return p v) at w k kk ll =
      let out : List NamedPoint = closing at 1 p w in
      two_lead names (uses s at p v (instruction.Hold v) w (entry out [])) out
      (λ back. uses_lead names s at p v (instruction.Hold v) w (entry out []) (entry_in names out [] back tt))
      (closing_lead names at 1 p w)
  laid_lead names s (Block n stmts end) at w k kk ll =
      let out : List NamedPoint = ends at 0 end (ending s stmts) (reverse (declared stmts) ++ w.scope) k in
      two_lead names (laid s stmts (0 ∷ at) (within_block (ending s stmts) w) (entry out k)) out
      (λ back. laid_lead names s stmts (0 ∷ at) (within_block (ending s stmts) w) (entry out k) (entry_in names out k back kk) ll)
      (ends_lead names at 0 end (ending s stmts) (reverse (declared stmts) ++ w.scope) k kk)
  laid_lead names s _ at w k kk ll = λ named. tt

  branches_lead : (names : List PointName) (s : Setting) (c : TypedCode) (at : Place) (w : Around) (k otherwise : List PointName) → AreIn names k
      → AreIn names w.leave → AreIn names otherwise → AreNamed names (laid_branches s c at w k otherwise)
      → Lead names (laid_branches s c at w k otherwise)
  branches_lead names s (More a rest) at w k otherwise kk ll oo =
      let behind : List NamedPoint = laid_branches s rest (1 ∷ at) w k otherwise in
      two_lead names (laid_branch s a (0 ∷ at) w k (entry behind otherwise)) behind
      (λ back. branch_lead names s a (0 ∷ at) w k (entry behind otherwise) kk ll (entry_in names behind otherwise back oo))
      (branches_lead names s rest (1 ∷ at) w k otherwise kk ll oo)
  branches_lead names s _ at w k otherwise kk ll oo = λ named. tt

  branch_lead : (names : List PointName) (s : Setting) (c : TypedCode) (at : Place) (w : Around) (k otherwise : List PointName) → AreIn names k
      → AreIn names w.leave → AreIn names otherwise → AreNamed names (laid_branch s c at w k otherwise)
      → Lead names (laid_branch s c at w k otherwise)
  branch_lead names s (Branch p e stmts) at w k otherwise kk ll oo =
      let inner : List NamedPoint = laid s stmts (1 ∷ at) w k in
      let next : List PointName = entry inner k ++ otherwise in
      two_lead names (uses s at p e (instruction.Test e) w next) inner
      (λ back. uses_lead names s at p e (instruction.Test e) w next (in_append names (entry inner k) otherwise (entry_in names inner k back kk) oo))
      (laid_lead names s stmts (1 ∷ at) w k kk ll)
  branch_lead names s _ at w k otherwise kk ll oo = λ named. tt

  whens_lead : (names : List PointName) (s : Setting) (c : TypedCode) (at : Place) (w : Around) (k : List PointName) → AreIn names k
      → AreIn names w.leave → AreNamed names (flat_map (λ ps. ps) (laid_whens s c at w k)) → Lead names (flat_map (λ ps. ps) (laid_whens s c at w k))
  whens_lead names s (More a rest) at w k kk ll =
      two_lead names (laid_when s a (0 ∷ at) w k) (flat_map (λ ps. ps) (laid_whens s rest (1 ∷ at) w k))
      (λ back. when_lead names s a (0 ∷ at) w k kk ll) (whens_lead names s rest (1 ∷ at) w k kk ll)
  whens_lead names s _ at w k kk ll = λ named. tt

  when_lead : (names : List PointName) (s : Setting) (c : TypedCode) (at : Place) (w : Around) (k : List PointName) → AreIn names k
      → AreIn names w.leave → AreNamed names (laid_when s c at w k) → Lead names (laid_when s c at w k)
  when_lead names s (When choices stmts) at w k kk ll = laid_lead names s stmts (1 ∷ at) w k kk ll
  when_lead names s _ at w k kk ll = λ named. tt
