-- How many points statements have, and which temporaries they fill.
use Rattle.std.proofs.Common.{◌≡◌, ℕ, List, [], ◌∷◌, ◌++◌, length, refl, None}
use Rattle.std.specs.Prelude.{flat_map, reverse}
use Rattle.spark_base.specs.declared.position.Pos.{Pos}
use Rattle.typed_tree.specs.Trees.{TypedTree, TypedCode, Declare, Assign, Skip, Output, Input, Release, If, Branch, Case, When, Loop, While, For, Exit, Return, Block, More}
use Rattle.typed_tree.specs.Trees as typed
use Rattle.flow_paths.specs.Instructions.{Instruction}
use Rattle.flow_paths.specs.Instructions as instruction
use Rattle.flow_paths.specs.Objects.{Typing}
use Rattle.flow_paths.specs.Points.{Place, PointName, row_at, NamedPoint, point, entry}
use Rattle.flow_paths.specs.Prep.{Setting, with_held, prep}
use Rattle.flow_paths.specs.Layout.{Around, within_loop, within_block, with_scope, declared, ending, ends, closing, uses, uses_both, unless_empty, choices_of, laid, laid_branches, laid_branch, laid_whens, laid_when}
use Rattle.flow_paths.specs.Laid.{Temporary}
use Rattle.numbered_points.specs.Extents.{Extent, extent, using, both, in_turns, nothing, code_extent, branches_extent, branch_extent, whens_extent, when_extent}
use Rattle.numbered_points.proofs.Fillings.{fills, measured_none}
use Rattle.numbered_points.proofs.PrepMeasured.{prep_temporaries}
use Rattle.numbered_points.proofs.Extents.{Extends, join, plain, turns, block}
use Rattle.numbered_points.proofs.UsesMeasured.{ends_measured, both_used_extends, uses_extends, exit_extends, return_extends, row_extends}

-- The temporaries that the points of statements fill, in their order.
unfoldable mutual
  pub code_temporaries : Typing → TypedCode → Place → List Temporary
  code_temporaries s (More a rest) at = code_temporaries s a (0 ∷ at) ++ code_temporaries s rest (1 ∷ at)
  code_temporaries s (Declare p x v) at = prep_temporaries s v (0 ∷ at)
  code_temporaries s (Assign p target e) at = prep_temporaries s e (1 ∷ at) ++ prep_temporaries s target (0 ∷ at)
  code_temporaries s (Skip p) at = []
  code_temporaries s (typed.Call p sub actuals) at = prep_temporaries s actuals (0 ∷ at)
  code_temporaries s (Output p text line) at = prep_temporaries s text (0 ∷ at)
  code_temporaries s (Input p target) at = prep_temporaries s target (0 ∷ at)
  code_temporaries s (Release p m) at = prep_temporaries s m (0 ∷ at)
  code_temporaries s (If branches otherwise) at = branches_temporaries s branches (0 ∷ at) ++ code_temporaries s otherwise (1 ∷ at)
  code_temporaries s (Case p e whens) at = prep_temporaries s e (0 ∷ at) ++ whens_temporaries s whens (1 ∷ at)
  code_temporaries s (Loop stmts) at = code_temporaries s stmts (0 ∷ at)
  code_temporaries s (While p e stmts) at = prep_temporaries s e (0 ∷ at) ++ code_temporaries s stmts (1 ∷ at)
  code_temporaries s (For p x reversed low high stmts) at =
      prep_temporaries s low (0 ∷ at) ++ prep_temporaries s high (1 ∷ at) ++ code_temporaries s stmts (2 ∷ at)
  code_temporaries s (Exit p e) at = prep_temporaries s e (0 ∷ at) ++ []
  code_temporaries s (Return p v) at = prep_temporaries s v (0 ∷ at) ++ []
  code_temporaries s (Block n stmts end) at = code_temporaries s stmts (0 ∷ at) ++ []
  code_temporaries s _ at = []

  pub branches_temporaries : Typing → TypedCode → Place → List Temporary
  branches_temporaries s (More a rest) at = branch_temporaries s a (0 ∷ at) ++ branches_temporaries s rest (1 ∷ at)
  branches_temporaries s _ at = []

  pub branch_temporaries : Typing → TypedCode → Place → List Temporary
  branch_temporaries s (Branch p e stmts) at = prep_temporaries s e (0 ∷ at) ++ code_temporaries s stmts (1 ∷ at)
  branch_temporaries s _ at = []

  pub whens_temporaries : Typing → TypedCode → Place → List Temporary
  whens_temporaries s (More a rest) at = when_temporaries s a (0 ∷ at) ++ whens_temporaries s rest (1 ∷ at)
  whens_temporaries s _ at = []

  pub when_temporaries : Typing → TypedCode → Place → List Temporary
  when_temporaries s (When choices stmts) at = code_temporaries s stmts (1 ∷ at)
  when_temporaries s _ at = []

-- Points with an extent among what stands around.
abbrev pub Spans : Typing → List NamedPoint → Extent → Around → List Temporary → Type 0
Spans s ps a w ts = Extends s ps a (length w.in_loop) (length w.in_all) ts

no_span : (s : Typing) (w : Around) → Spans s [] nothing w []
no_span s w = plain s [] 0 0 (length w.in_loop) (length w.in_all) [] (measured_none s)

-- What uses an expression, and points after it.
uses_and : (s : Setting) (at : Place) (p : Pos) (e : TypedTree) (i : Instruction) (w : Around) (next : List PointName) (qs : List NamedPoint)
    (a : Extent) (us : List Temporary) → fills s.typing i ≡ None → Spans s.typing qs a w us
    → Spans s.typing (uses s at p e i w next ++ qs) (both (using e 1) a) w (prep_temporaries s.typing e (0 ∷ at) ++ us)
uses_and s at p e i w next qs a us is h =
    join s.typing (uses s at p e i w next) qs (using e 1) a (length w.in_loop) (length w.in_all) (prep_temporaries s.typing e (0 ∷ at)) us
    (uses_extends s at p e i w next (length w.in_loop) (length w.in_all) is) h

mutual
  unfolding laid code_extent code_temporaries

  pub laid_measured : (s : Setting) (c : TypedCode) (at : Place) (w : Around) (k : List PointName)
      → Spans s.typing (laid s c at w k) (code_extent s.typing c) w (code_temporaries s.typing c at)
  laid_measured s (More a rest) at w k =
      let behind : List NamedPoint = laid s rest (1 ∷ at) (with_scope (declared a) w) k in
      join s.typing (laid s a (0 ∷ at) w (entry behind k)) behind (code_extent s.typing a) (code_extent s.typing rest) (length w.in_loop) (length w.in_all)
      (code_temporaries s.typing a (0 ∷ at)) (code_temporaries s.typing rest (1 ∷ at))
      (laid_measured s a (0 ∷ at) w (entry behind k)) (laid_measured s rest (1 ∷ at) (with_scope (declared a) w) k)
  laid_measured s (Declare p x v) at w k = uses_extends s at p v (instruction.Declare x v) w k (length w.in_loop) (length w.in_all) refl
  laid_measured s (Assign p target e) at w k =
      both_used_extends s e (1 ∷ at) w.scope target (0 ∷ at) (with_held s e (1 ∷ at) w.scope) (row_at at 0) p (instruction.Assign target e)
      (with_held s target (0 ∷ at) (with_held s e (1 ∷ at) w.scope)) k (length w.in_loop) (length w.in_all) refl
  laid_measured s (Skip p) at w k = row_extends s.typing (row_at at 0) p instruction.Skip w.scope k (length w.in_loop) (length w.in_all) refl
  laid_measured s (typed.Call p sub actuals) at w k =
      uses_extends s at p actuals (instruction.Call sub actuals None) w k (length w.in_loop) (length w.in_all) refl
  laid_measured s (Output p text line) at w k = uses_extends s at p text (instruction.Output text line) w k (length w.in_loop) (length w.in_all) refl
  laid_measured s (Input p target) at w k = uses_extends s at p target (instruction.Input target) w k (length w.in_loop) (length w.in_all) refl
  laid_measured s (Release p m) at w k = uses_extends s at p m (instruction.Release m) w k (length w.in_loop) (length w.in_all) refl
  laid_measured s (If branches otherwise) at w k =
      let behind : List NamedPoint = laid s otherwise (1 ∷ at) w k in
      join s.typing (laid_branches s branches (0 ∷ at) w k (entry behind k)) behind (branches_extent s.typing branches) (code_extent s.typing otherwise)
      (length w.in_loop) (length w.in_all) (branches_temporaries s.typing branches (0 ∷ at)) (code_temporaries s.typing otherwise (1 ∷ at))
      (branches_measured s branches (0 ∷ at) w k (entry behind k)) (laid_measured s otherwise (1 ∷ at) w k)
  laid_measured s (Case p e whens) at w k =
      uses_and s at p e (instruction.Choose e (choices_of whens)) w (flat_map (λ ps. entry ps k) (laid_whens s whens (1 ∷ at) w k))
      (flat_map (λ ps. ps) (laid_whens s whens (1 ∷ at) w k)) (whens_extent s.typing whens) (whens_temporaries s.typing whens (1 ∷ at)) refl
      (whens_measured s whens (1 ∷ at) w k)
  laid_measured s (Loop stmts) at w k =
      let turn : List PointName = entry (laid s stmts (0 ∷ at) (within_loop k w) k) k in
      turns s.typing (laid s stmts (0 ∷ at) (within_loop k w) turn) (code_extent s.typing stmts) (length w.in_loop) (length w.in_all)
      (code_temporaries s.typing stmts (0 ∷ at)) (laid_measured s stmts (0 ∷ at) (within_loop k w) turn)
  laid_measured s (While p e stmts) at w k =
      let turn : List PointName = entry (prep s e (0 ∷ at) w.scope (row_at at 0 ∷ [])) (row_at at 0 ∷ []) in
      let inner : List NamedPoint = laid s stmts (1 ∷ at) (within_loop k w) turn in
      uses_and s at p e (instruction.Test e) w (entry inner turn ++ k) inner (in_turns (code_extent s.typing stmts)) (code_temporaries s.typing stmts (1 ∷ at)) refl
      (turns s.typing inner (code_extent s.typing stmts) (length w.in_loop) (length w.in_all) (code_temporaries s.typing stmts (1 ∷ at))
      (laid_measured s stmts (1 ∷ at) (within_loop k w) turn))
  laid_measured s (For p x reversed low high stmts) at w k =
      let next : PointName = row_at at 1 in
      let inner : List NamedPoint = laid s stmts (2 ∷ at) (with_scope (x ∷ []) (within_loop k w)) (next ∷ []) in
      let i : ℕ = length w.in_loop in
      let j : ℕ = length w.in_all in
      let row : List NamedPoint = point next p (instruction.Next x reversed low high) (x ∷ w.scope) (entry inner (next ∷ []) ++ k) ∷ [] in
      join s.typing (uses_both s at p low high (instruction.Start x reversed low high) w (next ∷ [])) (row ++ inner)
      (both (using low 0) (using high 1)) (both (extent 1 0 0 0) (in_turns (code_extent s.typing stmts))) i j
      (prep_temporaries s.typing low (0 ∷ at) ++ prep_temporaries s.typing high (1 ∷ at)) (code_temporaries s.typing stmts (2 ∷ at))
      (both_used_extends s low (0 ∷ at) w.scope high (1 ∷ at) (with_held s low (0 ∷ at) w.scope) (row_at at 0) p (instruction.Start x reversed low high)
      (with_held s high (1 ∷ at) (with_held s low (0 ∷ at) w.scope)) (next ∷ []) i j refl)
      (join s.typing row inner (extent 1 0 0 0) (in_turns (code_extent s.typing stmts)) i j [] (code_temporaries s.typing stmts (2 ∷ at))
      (row_extends s.typing next p (instruction.Next x reversed low high) (x ∷ w.scope) (entry inner (next ∷ []) ++ k) i j refl)
      (turns s.typing inner (code_extent s.typing stmts) i j (code_temporaries s.typing stmts (2 ∷ at))
      (laid_measured s stmts (2 ∷ at) (with_scope (x ∷ []) (within_loop k w)) (next ∷ []))))
  laid_measured s (Exit p e) at w k =
      let out : List NamedPoint = ends at 1 p w.in_loop w.scope w.leave in
      uses_and s at p e (instruction.LeaveLoop e) w (entry out w.leave ++ unless_empty e k) out (extent 0 1 0 0) [] refl
      (exit_extends s.typing at 1 p w.in_loop w.scope w.leave (length w.in_all))
  laid_measured s (Return p v) at w k =
      uses_and s at p v (instruction.Hold v) w (entry (closing at 1 p w) []) (closing at 1 p w) (extent 1 0 1 0) [] refl
      (return_extends s.typing at 1 p w (length w.in_loop))
  laid_measured s (Block n stmts end) at w k =
      let out : List NamedPoint = ends at 0 end (ending s stmts) (reverse (declared stmts) ++ w.scope) k in
      block s.typing (laid s stmts (0 ∷ at) (within_block (ending s stmts) w) (entry out k)) out (code_extent s.typing stmts) w (ending s stmts)
      (code_temporaries s.typing stmts (0 ∷ at)) (laid_measured s stmts (0 ∷ at) (within_block (ending s stmts) w) (entry out k))
      (ends_measured s.typing at 0 end (ending s stmts) (reverse (declared stmts) ++ w.scope) k)
  laid_measured s _ at w k = no_span s.typing w

  pub branches_measured : (s : Setting) (c : TypedCode) (at : Place) (w : Around) (k otherwise : List PointName)
      → Spans s.typing (laid_branches s c at w k otherwise) (branches_extent s.typing c) w (branches_temporaries s.typing c at)
  branches_measured s (More a rest) at w k otherwise =
      let behind : List NamedPoint = laid_branches s rest (1 ∷ at) w k otherwise in
      join s.typing (laid_branch s a (0 ∷ at) w k (entry behind otherwise)) behind (branch_extent s.typing a) (branches_extent s.typing rest)
      (length w.in_loop) (length w.in_all) (branch_temporaries s.typing a (0 ∷ at)) (branches_temporaries s.typing rest (1 ∷ at))
      (branch_measured s a (0 ∷ at) w k (entry behind otherwise)) (branches_measured s rest (1 ∷ at) w k otherwise)
  branches_measured s _ at w k otherwise = no_span s.typing w

  pub branch_measured : (s : Setting) (c : TypedCode) (at : Place) (w : Around) (k otherwise : List PointName)
      → Spans s.typing (laid_branch s c at w k otherwise) (branch_extent s.typing c) w (branch_temporaries s.typing c at)
  branch_measured s (Branch p e stmts) at w k otherwise =
      let inner : List NamedPoint = laid s stmts (1 ∷ at) w k in
      uses_and s at p e (instruction.Test e) w (entry inner k ++ otherwise) inner (code_extent s.typing stmts) (code_temporaries s.typing stmts (1 ∷ at)) refl
      (laid_measured s stmts (1 ∷ at) w k)
  branch_measured s _ at w k otherwise = no_span s.typing w

  pub whens_measured : (s : Setting) (c : TypedCode) (at : Place) (w : Around) (k : List PointName)
      → Spans s.typing (flat_map (λ ps. ps) (laid_whens s c at w k)) (whens_extent s.typing c) w (whens_temporaries s.typing c at)
  whens_measured s (More a rest) at w k =
      join s.typing (laid_when s a (0 ∷ at) w k) (flat_map (λ ps. ps) (laid_whens s rest (1 ∷ at) w k)) (when_extent s.typing a) (whens_extent s.typing rest)
      (length w.in_loop) (length w.in_all) (when_temporaries s.typing a (0 ∷ at)) (whens_temporaries s.typing rest (1 ∷ at))
      (when_measured s a (0 ∷ at) w k) (whens_measured s rest (1 ∷ at) w k)
  whens_measured s _ at w k = no_span s.typing w

  pub when_measured : (s : Setting) (c : TypedCode) (at : Place) (w : Around) (k : List PointName)
      → Spans s.typing (laid_when s c at w k) (when_extent s.typing c) w (when_temporaries s.typing c at)
  when_measured s (When choices stmts) at w k = laid_measured s stmts (1 ∷ at) w k
  when_measured s _ at w k = no_span s.typing w
