-- The points of code whose expressions have the types of their places.
use Rattle.std.proofs.Common.{ℕ, suc, Bool, true, false, List, [], ◌∷◌, ◌++◌, length, if◌then◌else◌}
use Rattle.std.specs.Prelude.{Option, Some, None, flat_map, drop, reverse, is_some}
use Rattle.std.specs.List.{AllByRecursion}
use Rattle.machine.specs.spark_base.declared.position.Pos.{Pos}
use Rattle.machine.specs.typed_tree.Trees.{TypedTree, Name, Component, Designated, Element, Image, Parens, Unary, Binary, Short, IsNull, Aggregate, Alike, New, TypedCode, Declare, Assign, Skip, Output, Input, Release, If, Branch, Case, When, Loop, While, For, Exit, Return, Block}
use Rattle.machine.specs.typed_tree.Trees as typed
use Rattle.machine.specs.typed_tree.Programs.{TypedSub}
use Rattle.machine.specs.flow_paths.Instructions.{Instruction, Evaluate, Finish}
use Rattle.machine.specs.flow_paths.Instructions as instruction
use Rattle.machine.specs.flow_paths.Objects.{Typing, object_at}
use Rattle.machine.specs.flow_paths.Names.{has_call}
use Rattle.machine.specs.flow_paths.Points.{Place, PointName, row_at, NamedPoint, point, entry}
use Rattle.machine.specs.flow_paths.Prep.{Setting, with_held, prep}
use Rattle.machine.specs.flow_paths.Layout.{Around, within_loop, within_block, with_scope, declared, from, ending, ends, closing, uses, uses_both, unless_empty, choices_of, laid, laid_branches, laid_branch, laid_whens, laid_when}
use Rattle.machine.specs.flow_paths.Laid.{around_body, scope_at_end, procedure_end, function_end, body_points, sub_points, elaboration_points}
use Rattle.sound_files.specs.TypedFiles.TypedRuns.Code.{Within, WithinSource, FirstWithin, AssignedWithin, ReturnedWithin, IsTypedUse, IsTypedCode}

module _ (s : Typing) (result : Option ℕ) where
  abbrev pub IsTypedPoint : NamedPoint → Type 0
  IsTypedPoint p = IsTypedUse s result p.instr

  abbrev pub Typed : List NamedPoint → Type 0
  Typed ps = AllByRecursion IsTypedPoint ps

  both : (ps qs : List NamedPoint) → Typed ps → Typed qs → Typed (ps ++ qs)
  both [] qs h g = g
  both (p ∷ ps) qs h g = (h.0, both ps qs h.1 g)

  one_more : (ps : List NamedPoint) (p : NamedPoint) → Typed ps → IsTypedPoint p → Typed (ps ++ p ∷ [])
  one_more ps p h i = both ps (p ∷ []) h (i, tt)

  either : (b : Bool) (ps qs : List NamedPoint) → Typed ps → Typed qs → Typed (if b then ps else qs)
  either true ps qs h g = h
  either false ps qs h g = g

  -- ---- before a use

  prep_typed : (g : Setting) (e : TypedTree) (at : Place) (scope : List ℕ) (k : List PointName) → Within s e → Typed (prep g e at scope k)
  unfolding prep Within
  prep_typed g (typed.Call p sub actuals) at scope k h =
      one_more (prep g actuals (0 ∷ at) scope (row_at at 0 ∷ []))
      (point (row_at at 0) p (instruction.Call sub actuals (Some (g.temporary at))) (with_held g actuals (0 ∷ at) scope) k) (prep_typed g actuals (0 ∷ at) scope (row_at at 0 ∷ []) h.3) (h.0, (h.1, h.3))
  prep_typed g (Short op p a q b) at scope k h =
      let right : List NamedPoint = prep g b (1 ∷ at) (g.temporary at ∷ scope) (row_at at 1 ∷ []) in
      let after : List NamedPoint = prep g b (1 ∷ at) (with_held g a (0 ∷ at) scope) k in
      either (has_call b) _ _
      (both (prep g a (0 ∷ at) scope (row_at at 0 ∷ [])) _ (prep_typed g a (0 ∷ at) scope (row_at at 0 ∷ []) h.2) (
        (h.0, tt),
        one_more right (point (row_at at 1) q (Evaluate (g.temporary at) b None) (with_held g b (1 ∷ at) (g.temporary at ∷ scope)) k)
            (prep_typed g b (1 ∷ at) (g.temporary at ∷ scope) (row_at at 1 ∷ []) h.3) (h.1, tt),
      ))
      (both (prep g a (0 ∷ at) scope (entry after k)) after (prep_typed g a (0 ∷ at) scope (entry after k) h.2)
      (prep_typed g b (1 ∷ at) (with_held g a (0 ∷ at) scope) k h.3))
  prep_typed g (Binary op a b) at scope k h =
      let after : List NamedPoint = prep g b (1 ∷ at) (with_held g a (0 ∷ at) scope) k in
      both (prep g a (0 ∷ at) scope (entry after k)) after (prep_typed g a (0 ∷ at) scope (entry after k) h.0) (prep_typed g b (1 ∷ at) (with_held g a (0 ∷ at) scope) k h.1)
  prep_typed g (typed.More a b) at scope k h =
      let after : List NamedPoint = prep g b (1 ∷ at) (with_held g a (0 ∷ at) scope) k in
      both (prep g a (0 ∷ at) scope (entry after k)) after (prep_typed g a (0 ∷ at) scope (entry after k) h.0) (prep_typed g b (1 ∷ at) (with_held g a (0 ∷ at) scope) k h.1)
  prep_typed g (Element a low high b) at scope k h =
      let after : List NamedPoint = prep g b (1 ∷ at) (with_held g a (0 ∷ at) scope) k in
      both (prep g a (0 ∷ at) scope (entry after k)) after (prep_typed g a (0 ∷ at) scope (entry after k) h.0) (prep_typed g b (1 ∷ at) (with_held g a (0 ∷ at) scope) k h.1)
  prep_typed g (Name p x e t) at scope k h = prep_typed g e (0 ∷ at) scope k h
  prep_typed g (Component i e) at scope k h = prep_typed g e (0 ∷ at) scope k h
  prep_typed g (Designated e) at scope k h = prep_typed g e (0 ∷ at) scope k h
  prep_typed g (Image t e) at scope k h = prep_typed g e (0 ∷ at) scope k h
  prep_typed g (Parens e) at scope k h = prep_typed g e (0 ∷ at) scope k h
  prep_typed g (Unary op e) at scope k h = prep_typed g e (0 ∷ at) scope k h
  prep_typed g (IsNull equal e) at scope k h = prep_typed g e (0 ∷ at) scope k h
  prep_typed g (Aggregate t e) at scope k h = prep_typed g e (0 ∷ at) scope k h
  prep_typed g (Alike t e) at scope k h = prep_typed g e (0 ∷ at) scope k h
  prep_typed g (New t e) at scope k h = prep_typed g e (0 ∷ at) scope k h
  prep_typed g _ at scope k h = tt

  source_typed : (g : Setting) (want : ℕ) (e : TypedTree) (at : Place) (scope : List ℕ) (k : List PointName) → WithinSource s want e → Typed (prep g e at scope k)
  unfolding prep
  source_typed g want (typed.Call p sub actuals) at scope k h =
      one_more (prep g actuals (0 ∷ at) scope (row_at at 0 ∷ []))
      (point (row_at at 0) p (instruction.Call sub actuals (Some (g.temporary at))) (with_held g actuals (0 ∷ at) scope) k) (prep_typed g actuals (0 ∷ at) scope (row_at at 0 ∷ []) h.3) (h.0, (h.1, h.3))
  source_typed g want e at scope k h = prep_typed g e at scope k h

  first_typed : (g : Setting) (want : ℕ) (v : TypedTree) (at : Place) (scope : List ℕ) (k : List PointName) → FirstWithin s want v → Typed (prep g v at scope k)
  unfolding prep
  first_typed g want (typed.More a b) at scope k h =
      let after : List NamedPoint = prep g b (1 ∷ at) (with_held g a (0 ∷ at) scope) k in
      both (prep g a (0 ∷ at) scope (entry after k)) after (source_typed g want a (0 ∷ at) scope (entry after k) h.0) (prep_typed g b (1 ∷ at) (with_held g a (0 ∷ at) scope) k h.1)
  first_typed g want v at scope k h = prep_typed g v at scope k h

  returned_typed : (g : Setting) (r : Option ℕ) (v : TypedTree) (at : Place) (scope : List ℕ) (k : List PointName) → ReturnedWithin s r v → Typed (prep g v at scope k)
  returned_typed g None v at scope k h = prep_typed g v at scope k h
  returned_typed g (Some t) v at scope k h = first_typed g t v at scope k h.0

  assigned_typed : (g : Setting) (target e : TypedTree) (at : Place) (scope : List ℕ) (k : List PointName) → AssignedWithin s target e → Typed (prep g e at scope k)
  assigned_typed g (Name p x path u) e at scope k h = source_typed g u e at scope k h
  assigned_typed g target e at scope k h = prep_typed g e at scope k h

  used_typed : (g : Setting) (at : Place) (p : Pos) (e : TypedTree) (i : Instruction) (w : Around) (next : List PointName) → IsTypedUse s result i
      → Typed (prep g e (0 ∷ at) w.scope (row_at at 0 ∷ [])) → Typed (uses g at p e i w next)
  used_typed g at p e i w next step before =
      one_more (prep g e (0 ∷ at) w.scope (row_at at 0 ∷ [])) (point (row_at at 0) p i (with_held g e (0 ∷ at) w.scope) next) before step

  uses_typed : (g : Setting) (at : Place) (p : Pos) (e : TypedTree) (i : Instruction) (w : Around) (next : List PointName) → IsTypedUse s result i → Within s e → Typed (uses g at p e i w next)
  uses_typed g at p e i w next step within = used_typed g at p e i w next step (prep_typed g e (0 ∷ at) w.scope (row_at at 0 ∷ []) within)

  -- Two expressions at some places, the first one first.
  pair_typed : (g : Setting) (x y : Place) (a b : TypedTree) (scope inner : List ℕ) (k l : List PointName) (q : NamedPoint) → IsTypedUse s result q.instr
      → Typed (prep g a x scope k) → Within s b → Typed ((prep g a x scope k ++ prep g b y inner l) ++ q ∷ [])
  pair_typed g x y a b scope inner k l q h first last =
      one_more (prep g a x scope k ++ prep g b y inner l) q (both (prep g a x scope k) (prep g b y inner l) first (prep_typed g b y inner l last)) h

  ends_typed : (at : Place) (row : ℕ) (p : Pos) (xs scope : List ℕ) (k : List PointName) → Typed (ends at row p xs scope k)
  ends_typed at row p [] scope k = tt
  ends_typed at row p (x ∷ xs) scope k = ((tt, tt), ends_typed at (suc row) p xs (drop 1 (from x scope)) k)

  -- ---- statements

  mutual
    unfolding laid laid_branches laid_branch laid_whens laid_when IsTypedCode

    pub laid_typed : (g : Setting) (c : TypedCode) (at : Place) (w : Around) (k : List PointName) → IsTypedCode s result c → Typed (laid g c at w k)
    laid_typed g (typed.More a rest) at w k h =
        let after : List NamedPoint = laid g rest (1 ∷ at) (with_scope (declared a) w) k in
        both (laid g a (0 ∷ at) w (entry after k)) after (laid_typed g a (0 ∷ at) w (entry after k) h.0) (laid_typed g rest (1 ∷ at) (with_scope (declared a) w) k h.1)
    laid_typed g (Declare p x v) at w k h =
        used_typed g at p v (instruction.Declare x v) w k h (first_typed g (object_at s x).of v (0 ∷ at) w.scope (row_at at 0 ∷ []) h.1)
    laid_typed g (Assign p target e) at w k h =
        pair_typed g (1 ∷ at) (0 ∷ at) e target w.scope (with_held g e (1 ∷ at) w.scope) _ (row_at at 0 ∷ [])
        (point (row_at at 0) p (instruction.Assign target e) (with_held g target (0 ∷ at) (with_held g e (1 ∷ at) w.scope)) k) h (assigned_typed g target e (1 ∷ at) w.scope _ h.1.0) h.1.1
    laid_typed g (Skip p) at w k h = ((tt, tt), tt)
    laid_typed g (typed.Call p sub actuals) at w k h = uses_typed g at p actuals (instruction.Call sub actuals None) w k h h.1.1
    laid_typed g (Output p text line) at w k h = uses_typed g at p text (instruction.Output text line) w k h h.1
    laid_typed g (Input p target) at w k h = uses_typed g at p target (instruction.Input target) w k h h.1
    laid_typed g (Release p m) at w k h = uses_typed g at p m (instruction.Release m) w k h h.1
    laid_typed g (If branches otherwise) at w k h =
        let after : List NamedPoint = laid g otherwise (1 ∷ at) w k in
        both (laid_branches g branches (0 ∷ at) w k (entry after k)) after (branches_typed g branches (0 ∷ at) w k (entry after k) h.0) (laid_typed g otherwise (1 ∷ at) w k h.1)
    laid_typed g (Case p e whens) at w k h =
        let after : List (List NamedPoint) = laid_whens g whens (1 ∷ at) w k in
        both (uses g at p e (instruction.Choose e (choices_of whens)) w (flat_map (λ ps. entry ps k) after)) (flat_map (λ ps. ps) after)
        (uses_typed g at p e (instruction.Choose e (choices_of whens)) w (flat_map (λ ps. entry ps k) after) h.0 h.0.1) (whens_typed g whens (1 ∷ at) w k h.1)
    laid_typed g (Loop stmts) at w k h =
        laid_typed g stmts (0 ∷ at) (within_loop k w) (entry (laid g stmts (0 ∷ at) (within_loop k w) k) k) h
    laid_typed g (While p e stmts) at w k h =
        let turn : List PointName = entry (prep g e (0 ∷ at) w.scope (row_at at 0 ∷ [])) (row_at at 0 ∷ []) in
        let inner : List NamedPoint = laid g stmts (1 ∷ at) (within_loop k w) turn in
        both (uses g at p e (instruction.Test e) w (entry inner turn ++ k)) inner (uses_typed g at p e (instruction.Test e) w (entry inner turn ++ k) h.0 h.0.1)
        (laid_typed g stmts (1 ∷ at) (within_loop k w) turn h.1)
    laid_typed g (For p x reversed low high stmts) at w k h =
        let next : List PointName = row_at at 1 ∷ [] in
        both (uses_both g at p low high (instruction.Start x reversed low high) w next) _
        (pair_typed g (0 ∷ at) (1 ∷ at) low high w.scope (with_held g low (0 ∷ at) w.scope) _ (row_at at 0 ∷ [])
        (point (row_at at 0) p (instruction.Start x reversed low high) (with_held g high (1 ∷ at) (with_held g low (0 ∷ at) w.scope)) next) h.0 (prep_typed g low (0 ∷ at) w.scope _ h.0.1.0) h.0.1.1)
        ((h.1, tt), laid_typed g stmts (2 ∷ at) (with_scope (x ∷ []) (within_loop k w)) next h.2)
    laid_typed g (Exit p e) at w k h =
        let out : List NamedPoint = ends at 1 p w.in_loop w.scope w.leave in
        both (uses g at p e (instruction.LeaveLoop e) w (entry out w.leave ++ unless_empty e k)) out
        (uses_typed g at p e (instruction.LeaveLoop e) w (entry out w.leave ++ unless_empty e k) h h.1) (ends_typed at 1 p w.in_loop w.scope w.leave)
    laid_typed g (Return p v) at w k h =
        let finish : PointName = row_at at (suc (length w.in_all)) in
        both (uses g at p v (instruction.Hold v) w (entry (closing at 1 p w) [])) (closing at 1 p w)
        (used_typed g at p v (instruction.Hold v) w (entry (closing at 1 p w) []) h (returned_typed g result v (0 ∷ at) w.scope (row_at at 0 ∷ []) h.1))
        (one_more (ends at 1 p w.in_all w.scope (finish ∷ [])) (point finish p Finish w.formals []) (ends_typed at 1 p w.in_all w.scope (finish ∷ [])) (tt, tt))
    laid_typed g (Block n stmts end) at w k h =
        let out : List NamedPoint = ends at 0 end (ending g stmts) (reverse (declared stmts) ++ w.scope) k in
        both (laid g stmts (0 ∷ at) (within_block (ending g stmts) w) (entry out k)) out
        (laid_typed g stmts (0 ∷ at) (within_block (ending g stmts) w) (entry out k) h)
        (ends_typed at 0 end (ending g stmts) (reverse (declared stmts) ++ w.scope) k)
    laid_typed g _ at w k h = tt

    branches_typed : (g : Setting) (c : TypedCode) (at : Place) (w : Around) (k otherwise : List PointName) → IsTypedCode s result c → Typed (laid_branches g c at w k otherwise)
    branches_typed g (typed.More a rest) at w k otherwise h =
        let after : List NamedPoint = laid_branches g rest (1 ∷ at) w k otherwise in
        both (laid_branch g a (0 ∷ at) w k (entry after otherwise)) after
        (branch_typed g a (0 ∷ at) w k (entry after otherwise) h.0) (branches_typed g rest (1 ∷ at) w k otherwise h.1)
    branches_typed g _ at w k otherwise h = tt

    branch_typed : (g : Setting) (c : TypedCode) (at : Place) (w : Around) (k otherwise : List PointName) → IsTypedCode s result c → Typed (laid_branch g c at w k otherwise)
    branch_typed g (Branch p e stmts) at w k otherwise h =
        let inner : List NamedPoint = laid g stmts (1 ∷ at) w k in
        both (uses g at p e (instruction.Test e) w (entry inner k ++ otherwise)) inner
        (uses_typed g at p e (instruction.Test e) w (entry inner k ++ otherwise) h.0 h.0.1) (laid_typed g stmts (1 ∷ at) w k h.1)
    branch_typed g _ at w k otherwise h = tt

    whens_typed : (g : Setting) (c : TypedCode) (at : Place) (w : Around) (k : List PointName) → IsTypedCode s result c → Typed (flat_map (λ ps. ps) (laid_whens g c at w k))
    whens_typed g (typed.More a rest) at w k h =
        both (laid_when g a (0 ∷ at) w k) (flat_map (λ ps. ps) (laid_whens g rest (1 ∷ at) w k)) (when_typed g a (0 ∷ at) w k h.0) (whens_typed g rest (1 ∷ at) w k h.1)
    whens_typed g _ at w k h = tt

    when_typed : (g : Setting) (c : TypedCode) (at : Place) (w : Around) (k : List PointName) → IsTypedCode s result c → Typed (laid_when g c at w k)
    when_typed g (When choices stmts) at w k h = laid_typed g stmts (1 ∷ at) w k h
    when_typed g _ at w k h = tt

  -- ---- subprograms

  end_typed : (g : Setting) (sub : TypedSub) (b : Bool) → Typed (if b then function_end sub else procedure_end g sub)
  end_typed g sub true = ((tt, tt), tt)
  end_typed g sub false =
      let finish : PointName = row_at [] (length (ending g sub.body)) in
      one_more (ends [] 0 sub.end (ending g sub.body) (scope_at_end sub) (finish ∷ [])) (point finish sub.end Finish (reverse sub.formals) [])
      (ends_typed [] 0 sub.end (ending g sub.body) (scope_at_end sub) (finish ∷ [])) (tt, tt)

  body_typed : (g : Setting) (sub : TypedSub) (end : List NamedPoint) → IsTypedCode s result sub.body → Typed end → Typed (body_points g sub end)
  body_typed g sub end h last =
      both (laid g sub.body (0 ∷ []) (around_body g sub) (entry end [])) end (laid_typed g sub.body (0 ∷ []) (around_body g sub) (entry end []) h) last

  pub sub_typed : (g : Setting) (sub : TypedSub) → IsTypedCode s result sub.body → Typed (sub_points g sub)
  sub_typed g sub h = body_typed g sub (if is_some sub.result then function_end sub else procedure_end g sub) h (end_typed g sub (is_some sub.result))

  pub elaboration_typed : (g : Setting) (sub : TypedSub) → IsTypedCode s result sub.body → Typed (elaboration_points g sub)
  elaboration_typed g sub h = body_typed g sub [] h tt
