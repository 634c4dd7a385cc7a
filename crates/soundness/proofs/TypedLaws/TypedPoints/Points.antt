-- The points of code whose instructions are as soundness needs them are so.
use Rattle.std.proofs.Common.{ℕ, suc, Bool, true, false, List, [], ◌∷◌, ◌++◌, length, if◌then◌else◌}
use Rattle.std.specs.Prelude.{Option, Some, None, flat_map, drop, reverse, is_some}
use Rattle.std.specs.List.{AllByRecursion}
use Rattle.std.proofs.lemmas.Bool.{false≢true}
use Rattle.machine.specs.spark_base.declared.position.Pos.{Pos}
use Rattle.machine.specs.typed_tree.Trees.{TypedTree, Name, Component, Designated, Element, Image, Parens, Unary, Binary, Short, IsNull, Aggregate, Alike, New, TypedCode, Declare, Assign, Skip, Output, Input, Release, If, Branch, Case, When, Loop, While, For, Exit, Return, Block}
use Rattle.machine.specs.typed_tree.Trees as typed
use Rattle.machine.specs.typed_tree.Programs.{TypedSub}
use Rattle.machine.specs.flow_paths.Instructions.{Instruction, Finish}
use Rattle.machine.specs.flow_paths.Instructions as instruction
use Rattle.machine.specs.flow_paths.Objects.{Typing}
use Rattle.machine.specs.flow_paths.Names.{has_call}
use Rattle.machine.specs.flow_paths.Points.{Place, PointName, row_at, NamedPoint, point, entry}
use Rattle.machine.specs.flow_paths.Prep.{Setting, with_held, prep}
use Rattle.machine.specs.flow_paths.Layout.{Around, within_loop, within_block, with_scope, declared, from, ending, ends, closing, uses, uses_both, unless_empty, choices_of, laid, laid_branches, laid_branch, laid_whens, laid_when}
use Rattle.machine.specs.flow_paths.Laid.{around_body, scope_at_end, procedure_end, function_end, body_points, sub_points, elaboration_points}
use Rattle.soundness.specs.TypedLaws.Needed.{IsFine}
use Rattle.soundness.specs.TypedLaws.TypedPoints.Code.{IsFineCode, IsFinePoint}

module _ (s : Typing) (result : Option ℕ) where
  abbrev pub Fine : List NamedPoint → Type 0
  Fine ps = AllByRecursion (IsFinePoint s result) ps

  both : (ps qs : List NamedPoint) → Fine ps → Fine qs → Fine (ps ++ qs)
  both [] qs h g = g
  both (p ∷ ps) qs h g = (h.0, both ps qs h.1 g)

  one_more : (ps : List NamedPoint) (p : NamedPoint) → Fine ps → IsFine s result p.instr → Fine (ps ++ p ∷ [])
  one_more ps p h i = both ps (p ∷ []) h (λ e. i, tt)

  either : (b : Bool) (ps qs : List NamedPoint) → Fine ps → Fine qs → Fine (if b then ps else qs)
  either true ps qs h g = h
  either false ps qs h g = g

  -- ---- before a use

  prep_fine : (g : Setting) (e : TypedTree) (at : Place) (scope : List ℕ) (k : List PointName) → Fine (prep g e at scope k)
  unfolding prep
  prep_fine g (typed.Call p sub actuals) at scope k =
      one_more (prep g actuals (0 ∷ at) scope (row_at at 0 ∷ []))
      (point (row_at at 0) p (instruction.Call sub actuals (Some (g.temporary at))) (with_held g actuals (0 ∷ at) scope) k) (prep_fine g actuals (0 ∷ at) scope (row_at at 0 ∷ [])) tt
  prep_fine g (Short op p a q b) at scope k =
      let right : List NamedPoint = prep g b (1 ∷ at) (g.temporary at ∷ scope) (row_at at 1 ∷ []) in
      let behind : List NamedPoint = prep g b (1 ∷ at) (with_held g a (0 ∷ at) scope) k in
      either (has_call b) _ _
      (both (prep g a (0 ∷ at) scope (row_at at 0 ∷ [])) _ (prep_fine g a (0 ∷ at) scope (row_at at 0 ∷ [])) (
        λ e. absurd (false≢true e),
        both right _ (prep_fine g b (1 ∷ at) (g.temporary at ∷ scope) (row_at at 1 ∷ [])) (λ e. absurd (false≢true e), tt),
      ))
      (both (prep g a (0 ∷ at) scope (entry behind k)) behind (prep_fine g a (0 ∷ at) scope (entry behind k))
      (prep_fine g b (1 ∷ at) (with_held g a (0 ∷ at) scope) k))
  prep_fine g (Binary op a b) at scope k =
      let behind : List NamedPoint = prep g b (1 ∷ at) (with_held g a (0 ∷ at) scope) k in
      both (prep g a (0 ∷ at) scope (entry behind k)) behind (prep_fine g a (0 ∷ at) scope (entry behind k)) (prep_fine g b (1 ∷ at) (with_held g a (0 ∷ at) scope) k)
  prep_fine g (typed.More a b) at scope k =
      let behind : List NamedPoint = prep g b (1 ∷ at) (with_held g a (0 ∷ at) scope) k in
      both (prep g a (0 ∷ at) scope (entry behind k)) behind (prep_fine g a (0 ∷ at) scope (entry behind k)) (prep_fine g b (1 ∷ at) (with_held g a (0 ∷ at) scope) k)
  prep_fine g (Element a low high b) at scope k =
      let behind : List NamedPoint = prep g b (1 ∷ at) (with_held g a (0 ∷ at) scope) k in
      both (prep g a (0 ∷ at) scope (entry behind k)) behind (prep_fine g a (0 ∷ at) scope (entry behind k)) (prep_fine g b (1 ∷ at) (with_held g a (0 ∷ at) scope) k)
  prep_fine g (Name p x e t) at scope k = prep_fine g e (0 ∷ at) scope k
  prep_fine g (Component i e) at scope k = prep_fine g e (0 ∷ at) scope k
  prep_fine g (Designated e) at scope k = prep_fine g e (0 ∷ at) scope k
  prep_fine g (Image t e) at scope k = prep_fine g e (0 ∷ at) scope k
  prep_fine g (Parens e) at scope k = prep_fine g e (0 ∷ at) scope k
  prep_fine g (Unary op e) at scope k = prep_fine g e (0 ∷ at) scope k
  prep_fine g (IsNull equal e) at scope k = prep_fine g e (0 ∷ at) scope k
  prep_fine g (Aggregate t e) at scope k = prep_fine g e (0 ∷ at) scope k
  prep_fine g (Alike t e) at scope k = prep_fine g e (0 ∷ at) scope k
  prep_fine g (New t e) at scope k = prep_fine g e (0 ∷ at) scope k
  prep_fine g _ at scope k = tt

  uses_fine : (g : Setting) (at : Place) (p : Pos) (e : TypedTree) (i : Instruction) (w : Around) (next : List PointName) → IsFine s result i → Fine (uses g at p e i w next)
  uses_fine g at p e i w next fine =
      one_more (prep g e (0 ∷ at) w.scope (row_at at 0 ∷ [])) (point (row_at at 0) p i (with_held g e (0 ∷ at) w.scope) next)
      (prep_fine g e (0 ∷ at) w.scope (row_at at 0 ∷ [])) fine

  -- Two expressions at some places, the first one first.
  pair_fine : (g : Setting) (x y : Place) (a b : TypedTree) (scope inner : List ℕ) (k l : List PointName) (q : NamedPoint) → IsFine s result q.instr
      → Fine ((prep g a x scope k ++ prep g b y inner l) ++ q ∷ [])
  pair_fine g x y a b scope inner k l q fine =
      one_more (prep g a x scope k ++ prep g b y inner l) q
      (both (prep g a x scope k) (prep g b y inner l) (prep_fine g a x scope k) (prep_fine g b y inner l)) fine

  ends_fine : (at : Place) (row : ℕ) (p : Pos) (xs scope : List ℕ) (k : List PointName) → Fine (ends at row p xs scope k)
  ends_fine at row p [] scope k = tt
  ends_fine at row p (x ∷ xs) scope k = (λ e. tt, ends_fine at (suc row) p xs (drop 1 (from x scope)) k)

  -- ---- statements

  mutual
    unfolding laid laid_branches laid_branch laid_whens laid_when IsFineCode

    pub laid_fine : (g : Setting) (c : TypedCode) (at : Place) (w : Around) (k : List PointName) → IsFineCode s result c → Fine (laid g c at w k)
    laid_fine g (typed.More a rest) at w k fine =
        let behind : List NamedPoint = laid g rest (1 ∷ at) (with_scope (declared a) w) k in
        both (laid g a (0 ∷ at) w (entry behind k)) behind (laid_fine g a (0 ∷ at) w (entry behind k) fine.0) (laid_fine g rest (1 ∷ at) (with_scope (declared a) w) k fine.1)
    laid_fine g (Declare p x v) at w k fine = uses_fine g at p v (instruction.Declare x v) w k fine
    laid_fine g (Assign p target e) at w k fine =
        pair_fine g (1 ∷ at) (0 ∷ at) e target w.scope (with_held g e (1 ∷ at) w.scope) _ (row_at at 0 ∷ [])
        (point (row_at at 0) p (instruction.Assign target e) (with_held g target (0 ∷ at) (with_held g e (1 ∷ at) w.scope)) k) fine
    laid_fine g (Skip p) at w k fine = (λ e. tt, tt)
    laid_fine g (typed.Call p sub actuals) at w k fine = uses_fine g at p actuals (instruction.Call sub actuals None) w k fine
    laid_fine g (Output p text line) at w k fine = uses_fine g at p text (instruction.Output text line) w k fine
    laid_fine g (Input p target) at w k fine = uses_fine g at p target (instruction.Input target) w k fine
    laid_fine g (Release p m) at w k fine = uses_fine g at p m (instruction.Release m) w k fine
    laid_fine g (If branches otherwise) at w k fine =
        let behind : List NamedPoint = laid g otherwise (1 ∷ at) w k in
        both (laid_branches g branches (0 ∷ at) w k (entry behind k)) behind (branches_fine g branches (0 ∷ at) w k (entry behind k) fine.0) (laid_fine g otherwise (1 ∷ at) w k fine.1)
    laid_fine g (Case p e whens) at w k fine =
        let behind : List (List NamedPoint) = laid_whens g whens (1 ∷ at) w k in
        both (uses g at p e (instruction.Choose e (choices_of whens)) w (flat_map (λ ps. entry ps k) behind)) (flat_map (λ ps. ps) behind)
        (uses_fine g at p e (instruction.Choose e (choices_of whens)) w (flat_map (λ ps. entry ps k) behind) fine.0) (whens_fine g whens (1 ∷ at) w k fine.1)
    laid_fine g (Loop stmts) at w k fine =
        laid_fine g stmts (0 ∷ at) (within_loop k w) (entry (laid g stmts (0 ∷ at) (within_loop k w) k) k) fine
    laid_fine g (While p e stmts) at w k fine =
        let turn : List PointName = entry (prep g e (0 ∷ at) w.scope (row_at at 0 ∷ [])) (row_at at 0 ∷ []) in
        let inner : List NamedPoint = laid g stmts (1 ∷ at) (within_loop k w) turn in
        both (uses g at p e (instruction.Test e) w (entry inner turn ++ k)) inner (uses_fine g at p e (instruction.Test e) w (entry inner turn ++ k) fine.0)
        (laid_fine g stmts (1 ∷ at) (within_loop k w) turn fine.1)
    laid_fine g (For p x reversed low high stmts) at w k fine =
        let next : List PointName = row_at at 1 ∷ [] in
        both (uses_both g at p low high (instruction.Start x reversed low high) w next) _
        (pair_fine g (0 ∷ at) (1 ∷ at) low high w.scope (with_held g low (0 ∷ at) w.scope) _ (row_at at 0 ∷ [])
        (point (row_at at 0) p (instruction.Start x reversed low high) (with_held g high (1 ∷ at) (with_held g low (0 ∷ at) w.scope)) next) fine.0)
        (λ e. fine.1, laid_fine g stmts (2 ∷ at) (with_scope (x ∷ []) (within_loop k w)) next fine.2)
    laid_fine g (Exit p e) at w k fine =
        let out : List NamedPoint = ends at 1 p w.in_loop w.scope w.leave in
        both (uses g at p e (instruction.LeaveLoop e) w (entry out w.leave ++ unless_empty e k)) out
        (uses_fine g at p e (instruction.LeaveLoop e) w (entry out w.leave ++ unless_empty e k) fine) (ends_fine at 1 p w.in_loop w.scope w.leave)
    laid_fine g (Return p v) at w k fine =
        let finish : PointName = row_at at (suc (length w.in_all)) in
        both (uses g at p v (instruction.Hold v) w (entry (closing at 1 p w) [])) (closing at 1 p w)
        (uses_fine g at p v (instruction.Hold v) w (entry (closing at 1 p w) []) fine)
        (one_more (ends at 1 p w.in_all w.scope (finish ∷ [])) (point finish p Finish w.formals []) (ends_fine at 1 p w.in_all w.scope (finish ∷ [])) tt)
    laid_fine g (Block n stmts end) at w k fine =
        let out : List NamedPoint = ends at 0 end (ending g stmts) (reverse (declared stmts) ++ w.scope) k in
        both (laid g stmts (0 ∷ at) (within_block (ending g stmts) w) (entry out k)) out
        (laid_fine g stmts (0 ∷ at) (within_block (ending g stmts) w) (entry out k) fine)
        (ends_fine at 0 end (ending g stmts) (reverse (declared stmts) ++ w.scope) k)
    laid_fine g _ at w k fine = tt

    branches_fine : (g : Setting) (c : TypedCode) (at : Place) (w : Around) (k otherwise : List PointName) → IsFineCode s result c → Fine (laid_branches g c at w k otherwise)
    branches_fine g (typed.More a rest) at w k otherwise fine =
        let behind : List NamedPoint = laid_branches g rest (1 ∷ at) w k otherwise in
        both (laid_branch g a (0 ∷ at) w k (entry behind otherwise)) behind
        (branch_fine g a (0 ∷ at) w k (entry behind otherwise) fine.0) (branches_fine g rest (1 ∷ at) w k otherwise fine.1)
    branches_fine g _ at w k otherwise fine = tt

    branch_fine : (g : Setting) (c : TypedCode) (at : Place) (w : Around) (k otherwise : List PointName) → IsFineCode s result c → Fine (laid_branch g c at w k otherwise)
    branch_fine g (Branch p e stmts) at w k otherwise fine =
        let inner : List NamedPoint = laid g stmts (1 ∷ at) w k in
        both (uses g at p e (instruction.Test e) w (entry inner k ++ otherwise)) inner
        (uses_fine g at p e (instruction.Test e) w (entry inner k ++ otherwise) fine.0) (laid_fine g stmts (1 ∷ at) w k fine.1)
    branch_fine g _ at w k otherwise fine = tt

    whens_fine : (g : Setting) (c : TypedCode) (at : Place) (w : Around) (k : List PointName) → IsFineCode s result c → Fine (flat_map (λ ps. ps) (laid_whens g c at w k))
    whens_fine g (typed.More a rest) at w k fine =
        both (laid_when g a (0 ∷ at) w k) (flat_map (λ ps. ps) (laid_whens g rest (1 ∷ at) w k)) (when_fine g a (0 ∷ at) w k fine.0) (whens_fine g rest (1 ∷ at) w k fine.1)
    whens_fine g _ at w k fine = tt

    when_fine : (g : Setting) (c : TypedCode) (at : Place) (w : Around) (k : List PointName) → IsFineCode s result c → Fine (laid_when g c at w k)
    when_fine g (When choices stmts) at w k fine = laid_fine g stmts (1 ∷ at) w k fine
    when_fine g _ at w k fine = tt

  -- ---- subprograms

  end_fine : (g : Setting) (sub : TypedSub) (b : Bool) → Fine (if b then function_end sub else procedure_end g sub)
  end_fine g sub true = (λ e. tt, tt)
  end_fine g sub false =
      let finish : PointName = row_at [] (length (ending g sub.body)) in
      one_more (ends [] 0 sub.end (ending g sub.body) (scope_at_end sub) (finish ∷ [])) (point finish sub.end Finish (reverse sub.formals) [])
      (ends_fine [] 0 sub.end (ending g sub.body) (scope_at_end sub) (finish ∷ [])) tt

  body_fine : (g : Setting) (sub : TypedSub) (end : List NamedPoint) → IsFineCode s result sub.body → Fine end → Fine (body_points g sub end)
  body_fine g sub end fine last =
      both (laid g sub.body (0 ∷ []) (around_body g sub) (entry end [])) end (laid_fine g sub.body (0 ∷ []) (around_body g sub) (entry end []) fine) last

  pub sub_fine : (g : Setting) (sub : TypedSub) → IsFineCode s result sub.body → Fine (sub_points g sub)
  sub_fine g sub fine = body_fine g sub (if is_some sub.result then function_end sub else procedure_end g sub) fine (end_fine g sub (is_some sub.result))

  pub elaboration_fine : (g : Setting) (sub : TypedSub) → IsFineCode s result sub.body → Fine (elaboration_points g sub)
  elaboration_fine g sub fine = body_fine g sub [] fine tt
