-- The names of all points of a subprogram differ.
use Rattle.std.proofs.Common.{◌≡◌, ◌⊎◌, ℕ, suc, ◌+◌, ◌*◌, ◌≤◌, List, [], ◌∷◌, ◌++◌, length, arith, inl, inr}
use Rattle.std.specs.Prelude.{Bool, true, false, None, flat_map, is_some, reverse, drop, if◌then◌else◌}
use Rattle.typed_tree.specs.spark_base.declared.position.Pos.{Pos}
use Rattle.typed_tree.specs.Trees.{TypedTree, TypedCode, Declare, Assign, Skip, Output, Input, Release, If, Branch, Case, When, Loop, While, For, Exit, Return, Block, More}
use Rattle.typed_tree.specs.Trees as typed
use Rattle.typed_tree.specs.Programs.{TypedSub}
use Rattle.flow_paths.specs.Instructions.{Instruction, Finish}
use Rattle.flow_paths.specs.Instructions as instruction
use Rattle.flow_paths.specs.Points.{Place, PointName, row_at, NamedPoint, point, entry}
use Rattle.flow_paths.specs.Prep.{Setting, with_held, prep}
use Rattle.flow_paths.specs.Layout.{Around, within_loop, within_block, with_scope, from, declared, ending, ends, closing, uses, uses_both, uses_second_first, unless_empty, choices_of, laid, laid_branches, laid_branch, laid_whens, laid_when}
use Rattle.flow_paths.specs.Scopes.{Differ}
use Rattle.flow_paths.specs.Laid.{around_body, scope_at_end, procedure_end, function_end, body_points, sub_points, elaboration_points}
use Rattle.flow_paths.proofs.Slots.{Fits, Sits, Any, From, fits_none, fits_more, fits_part, fits_row, fits_both, sits, two_parts, row_from, part_then_rows}
use Rattle.flow_paths.proofs.PrepDiffers.{one_part, differ_01, prep_sits}

-- ---- points that use an expression

abbrev UpTo : ℕ → ℕ → Type 0
UpTo n k = k ≤ n

uses_fits : (s : Setting) (at : Place) (p : Pos) (e : TypedTree) (i : Instruction) (w : Around) (next : List PointName)
    → Fits at (UpTo 1) (uses s at p e i w next)
uses_fits s at p e i w next =
    fits_both at (λ k. k ≡ 2 * 0) (λ k. k ≡ 2 * 0 + 1) (UpTo 1) (λ k a b. grind (arith, a, b)) (λ k a. grind (arith, a)) (λ k b. grind (arith, b))
    (prep s e (0 ∷ at) w.scope (row_at at 0 ∷ [])) (point (row_at at 0) p i (with_held s e (0 ∷ at) w.scope) next ∷ [])
    (fits_part at 0 (prep s e (0 ∷ at) w.scope (row_at at 0 ∷ [])) (prep_sits s e (0 ∷ at) w.scope (row_at at 0 ∷ [])))
    (fits_row at 0 p i (with_held s e (0 ∷ at) w.scope) next)

uses_sits : (s : Setting) (at : Place) (p : Pos) (e : TypedTree) (i : Instruction) (w : Around) (next : List PointName)
    → Sits at (uses s at p e i w next)
uses_sits s at p e i w next = sits at (UpTo 1) (uses s at p e i w next) (uses_fits s at p e i w next)

-- Two expressions, in either order, and the point.
both_and_row : (at : Place) (i j : ℕ) → (i ≡ j → ⊥) → i ≤ 1 → j ≤ 1 → (p : Pos) (what : Instruction) (scope : List ℕ) (next : List PointName)
    → (ps qs : List NamedPoint) → Sits (i ∷ at) ps → Sits (j ∷ at) qs → Fits at (UpTo 2) (ps ++ qs ++ point (row_at at 0) p what scope next ∷ [])
both_and_row at i j other small low p what scope next ps qs h g =
    let parts : Fits at (λ k. (k ≡ 2 * i) ⊎ (k ≡ 2 * j)) (ps ++ qs) =
    fits_both at (λ k. k ≡ 2 * i) (λ k. k ≡ 2 * j) (λ k. (k ≡ 2 * i) ⊎ (k ≡ 2 * j)) (λ k a b. other (grind (arith, a, b))) (λ k a. inl a) (λ k b. inr b)
    ps qs (fits_part at i ps h) (fits_part at j qs g) in
    fits_both at (λ k. (k ≡ 2 * i) ⊎ (k ≡ 2 * j)) (λ k. k ≡ 2 * 0 + 1) (UpTo 2)
    (λ k a b. elim a [ inl x ↦ grind (arith, x, b) | inr x ↦ grind (arith, x, b) ])
    (λ k a. elim a [ inl x ↦ grind (arith, x, small) | inr x ↦ grind (arith, x, low) ])
    (λ k b. grind (arith, b))
    (ps ++ qs) (point (row_at at 0) p what scope next ∷ []) parts (fits_row at 0 p what scope next)

differ_10 : ◌≡◌ {A = ℕ} 1 0 → ⊥
differ_10 e = grind (arith, e)

both_fits : (s : Setting) (at : Place) (p : Pos) (a b : TypedTree) (i : Instruction) (w : Around) (next : List PointName)
    → Fits at (UpTo 2) (uses_both s at p a b i w next)
both_fits s at p a b i w next =
    let behind : List NamedPoint = prep s b (1 ∷ at) (with_held s a (0 ∷ at) w.scope) (row_at at 0 ∷ []) in
    both_and_row at 0 1 differ_01 (omega arith) (omega arith) p i (with_held s b (1 ∷ at) (with_held s a (0 ∷ at) w.scope)) next
    (prep s a (0 ∷ at) w.scope (entry behind (row_at at 0 ∷ []))) behind
    (prep_sits s a (0 ∷ at) w.scope (entry behind (row_at at 0 ∷ []))) (prep_sits s b (1 ∷ at) (with_held s a (0 ∷ at) w.scope) (row_at at 0 ∷ []))

second_first_sits : (s : Setting) (at : Place) (p : Pos) (a b : TypedTree) (i : Instruction) (w : Around) (next : List PointName)
    → Sits at (uses_second_first s at p a b i w next)
second_first_sits s at p a b i w next =
    let behind : List NamedPoint = prep s a (0 ∷ at) (with_held s b (1 ∷ at) w.scope) (row_at at 0 ∷ []) in
    sits at (UpTo 2) (uses_second_first s at p a b i w next)
    (both_and_row at 1 0 differ_10 (omega arith) (omega arith) p i (with_held s a (0 ∷ at) (with_held s b (1 ∷ at) w.scope)) next
    (prep s b (1 ∷ at) w.scope (entry behind (row_at at 0 ∷ []))) behind
    (prep_sits s b (1 ∷ at) w.scope (entry behind (row_at at 0 ∷ []))) (prep_sits s a (0 ∷ at) (with_held s b (1 ∷ at) w.scope) (row_at at 0 ∷ [])))

-- What uses an expression, and the second part after it.
uses_then_part : (s : Setting) (at : Place) (p : Pos) (e : TypedTree) (i : Instruction) (w : Around) (next : List PointName) (qs : List NamedPoint)
    → Sits (1 ∷ at) qs → Sits at (uses s at p e i w next ++ qs)
uses_then_part s at p e i w next qs g =
    fits_both at (UpTo 1) (λ k. k ≡ 2 * 1) Any (λ k a b. grind (arith, a, b)) (λ k a. tt) (λ k b. tt)
    (uses s at p e i w next) qs (uses_fits s at p e i w next) (fits_part at 1 qs g)

-- ---- ends

abbrev Rows : ℕ → ℕ → ℕ → Type 0
Rows r n k = (2 * r + 1 ≤ k) × (k ≤ 2 * (r + n))

ends_fit : (at : Place) (r : ℕ) (p : Pos) (xs : List ℕ) (scope : List ℕ) (k : List PointName) → Fits at (Rows r (length xs)) (ends at r p xs scope k)
ends_fit at r p [] scope k = fits_none at (Rows r 0)
ends_fit at r p (x ∷ xs) scope k =
    let behind : List NamedPoint = ends at (suc r) p xs (drop 1 (from x scope)) k in
    fits_both at (λ k. k ≡ 2 * r + 1) (Rows (suc r) (length xs)) (Rows r (length (x ∷ xs)))
    (λ k a b. grind (arith, a, b.0)) (λ k a. (grind (arith, a), grind (arith, a))) (λ k b. (grind (arith, b.0), grind (arith, b.1)))
    (point (row_at at r) p (instruction.EndScope x) _ (entry behind k) ∷ []) behind
    (fits_row at r p (instruction.EndScope x) _ (entry behind k)) (ends_fit at (suc r) p xs (drop 1 (from x scope)) k)

-- The ends of scopes and a last point.
ends_and_last : (at : Place) (r n : ℕ) (p q : Pos) (xs : List ℕ) (scope formals : List ℕ) (k : List PointName) (i : Instruction) (next : List PointName)
    → n ≡ r + length xs → Fits at (From r) (ends at r p xs scope k ++ point (row_at at n) q i formals next ∷ [])
ends_and_last at r n p q xs scope formals k i next is =
    fits_both at (Rows r (length xs)) (λ k. k ≡ 2 * n + 1) (From r)
    (λ k a b. grind (arith, a.1, b, is)) (λ k a. a.0) (λ k b. grind (arith, b, is))
    (ends at r p xs scope k) (point (row_at at n) q i formals next ∷ []) (ends_fit at r p xs scope k) (fits_row at n q i formals next)

closing_fits : (at : Place) (p : Pos) (w : Around) → Fits at (From 1) (closing at 1 p w)
closing_fits at p w =
    ends_and_last at 1 (suc (length w.in_all)) p p w.in_all w.scope w.formals _ Finish [] (omega arith)

uses_then_rows : (s : Setting) (at : Place) (p : Pos) (e : TypedTree) (i : Instruction) (w : Around) (next : List PointName) (qs : List NamedPoint)
    → Fits at (From 1) qs → Sits at (uses s at p e i w next ++ qs)
uses_then_rows s at p e i w next qs g =
    fits_both at (UpTo 1) (From 1) Any (λ k a b. grind (arith, a, b)) (λ k a. tt) (λ k b. tt)
    (uses s at p e i w next) qs (uses_fits s at p e i w next) g

-- ---- statements

-- Start, Next and the statements of a loop.
for_sits : (s : Setting) (at : Place) (p : Pos) (a b : TypedTree) (i j : Instruction) (w : Around) (first next : List PointName)
    (scope : List ℕ) (inner : List NamedPoint) → Sits (2 ∷ at) inner
    → Sits at (uses_both s at p a b i w first ++ point (row_at at 1) p j scope next ∷ inner)
for_sits s at p a b i j w first next scope inner h =
    fits_both at (UpTo 2) (λ k. 3 ≤ k) Any (λ k x y. grind (arith, x, y)) (λ k x. tt) (λ k x. tt)
    (uses_both s at p a b i w first) (point (row_at at 1) p j scope next ∷ inner) (both_fits s at p a b i w first)
    (fits_both at (λ k. k ≡ 2 * 1 + 1) (λ k. k ≡ 2 * 2) (λ k. 3 ≤ k) (λ k x y. grind (arith, x, y)) (λ k x. grind (arith, x)) (λ k x. grind (arith, x))
    (point (row_at at 1) p j scope next ∷ []) inner (fits_row at 1 p j scope next) (fits_part at 2 inner h))

second_part : (at : Place) (ps : List NamedPoint) → Sits (1 ∷ at) ps → Sits at ps
second_part at ps h = sits at (λ k. k ≡ 2 * 1) ps (fits_part at 1 ps h)

mutual
  unfolding laid

  laid_sits : (s : Setting) (c : TypedCode) (at : Place) (w : Around) (k : List PointName) → Sits at (laid s c at w k)
  laid_sits s (More a rest) at w k =
      let behind : List NamedPoint = laid s rest (1 ∷ at) (with_scope (declared a) w) k in
      two_parts at 0 1 differ_01 (laid s a (0 ∷ at) w (entry behind k)) behind
      (laid_sits s a (0 ∷ at) w (entry behind k)) (laid_sits s rest (1 ∷ at) (with_scope (declared a) w) k)
  laid_sits s (Declare p x v) at w k = uses_sits s at p v (instruction.Declare x v) w k
  laid_sits s (Assign p target e) at w k = second_first_sits s at p target e (instruction.Assign target e) w k
  laid_sits s (Skip p) at w k = sits at (λ k. k ≡ 2 * 0 + 1) _ (fits_row at 0 p instruction.Skip w.scope k)
  laid_sits s (typed.Call p sub actuals) at w k = uses_sits s at p actuals (instruction.Call sub actuals None) w k
  laid_sits s (Output p text line) at w k = uses_sits s at p text (instruction.Output text line) w k
  laid_sits s (Input p target) at w k = uses_sits s at p target (instruction.Input target) w k
  laid_sits s (Release p m) at w k = uses_sits s at p m (instruction.Release m) w k
  laid_sits s (If branches otherwise) at w k =
      let behind : List NamedPoint = laid s otherwise (1 ∷ at) w k in
      two_parts at 0 1 differ_01 (laid_branches s branches (0 ∷ at) w k (entry behind k)) behind
      (branches_sit s branches (0 ∷ at) w k (entry behind k)) (laid_sits s otherwise (1 ∷ at) w k)
  laid_sits s (Case p e whens) at w k =
      uses_then_part s at p e (instruction.Choose e (choices_of whens)) w (flat_map (λ ps. entry ps k) (laid_whens s whens (1 ∷ at) w k))
      (flat_map (λ ps. ps) (laid_whens s whens (1 ∷ at) w k)) (whens_sit s whens (1 ∷ at) w k)
  laid_sits s (Loop stmts) at w k =
      one_part at _ (laid_sits s stmts (0 ∷ at) (within_loop k w) (entry (laid s stmts (0 ∷ at) (within_loop k w) k) k))
  laid_sits s (While p e stmts) at w k =
      let turn : List PointName = entry (prep s e (0 ∷ at) w.scope (row_at at 0 ∷ [])) (row_at at 0 ∷ []) in
      uses_then_part s at p e (instruction.Test e) w (entry (laid s stmts (1 ∷ at) (within_loop k w) turn) turn ++ k)
      (laid s stmts (1 ∷ at) (within_loop k w) turn) (laid_sits s stmts (1 ∷ at) (within_loop k w) turn)
  laid_sits s (For p x reversed low high stmts) at w k =
      let inner : List NamedPoint = laid s stmts (2 ∷ at) (with_scope (x ∷ []) (within_loop k w)) (row_at at 1 ∷ []) in
      for_sits s at p low high (instruction.Start x reversed low high) (instruction.Next x reversed low high) w (row_at at 1 ∷ [])
      (entry inner (row_at at 1 ∷ []) ++ k) (x ∷ w.scope) inner (laid_sits s stmts (2 ∷ at) (with_scope (x ∷ []) (within_loop k w)) (row_at at 1 ∷ []))
  laid_sits s (Exit p e) at w k =
      let out : List NamedPoint = ends at 1 p w.in_loop w.scope w.leave in
      uses_then_rows s at p e (instruction.LeaveLoop e) w (entry out w.leave ++ unless_empty e k) out
      (fits_more at (Rows 1 (length w.in_loop)) (From 1) (λ k a. a.0) out (ends_fit at 1 p w.in_loop w.scope w.leave))
  laid_sits s (Return p v) at w k =
      uses_then_rows s at p v (instruction.Hold v) w (entry (closing at 1 p w) []) (closing at 1 p w) (closing_fits at p w)
  laid_sits s (Block n stmts end) at w k =
      let out : List NamedPoint = ends at 0 end (ending s stmts) (reverse (declared stmts) ++ w.scope) k in
      part_then_rows at (laid s stmts (0 ∷ at) (within_block (ending s stmts) w) (entry out k)) out
      (laid_sits s stmts (0 ∷ at) (within_block (ending s stmts) w) (entry out k))
      (fits_more at (Rows 0 (length (ending s stmts))) (From 0) (λ k a. a.0) out
      (ends_fit at 0 end (ending s stmts) (reverse (declared stmts) ++ w.scope) k))
  laid_sits s _ at w k = fits_none at Any

  branches_sit : (s : Setting) (c : TypedCode) (at : Place) (w : Around) (k otherwise : List PointName) → Sits at (laid_branches s c at w k otherwise)
  branches_sit s (More a rest) at w k otherwise =
      let behind : List NamedPoint = laid_branches s rest (1 ∷ at) w k otherwise in
      two_parts at 0 1 differ_01 (laid_branch s a (0 ∷ at) w k (entry behind otherwise)) behind
      (branch_sits s a (0 ∷ at) w k (entry behind otherwise)) (branches_sit s rest (1 ∷ at) w k otherwise)
  branches_sit s _ at w k otherwise = fits_none at Any

  branch_sits : (s : Setting) (c : TypedCode) (at : Place) (w : Around) (k otherwise : List PointName) → Sits at (laid_branch s c at w k otherwise)
  branch_sits s (Branch p e stmts) at w k otherwise =
      uses_then_part s at p e (instruction.Test e) w (entry (laid s stmts (1 ∷ at) w k) k ++ otherwise)
      (laid s stmts (1 ∷ at) w k) (laid_sits s stmts (1 ∷ at) w k)
  branch_sits s _ at w k otherwise = fits_none at Any

  whens_sit : (s : Setting) (c : TypedCode) (at : Place) (w : Around) (k : List PointName) → Sits at (flat_map (λ ps. ps) (laid_whens s c at w k))
  whens_sit s (More a rest) at w k =
      two_parts at 0 1 differ_01 (laid_when s a (0 ∷ at) w k) (flat_map (λ ps. ps) (laid_whens s rest (1 ∷ at) w k))
      (when_sits s a (0 ∷ at) w k) (whens_sit s rest (1 ∷ at) w k)
  whens_sit s _ at w k = fits_none at Any

  when_sits : (s : Setting) (c : TypedCode) (at : Place) (w : Around) (k : List PointName) → Sits at (laid_when s c at w k)
  when_sits s (When choices stmts) at w k = second_part at (laid s stmts (1 ∷ at) w k) (laid_sits s stmts (1 ∷ at) w k)
  when_sits s _ at w k = fits_none at Any

-- ---- subprograms

body_differs : (s : Setting) (sub : TypedSub) (end : List NamedPoint) → Fits [] (From 0) end → Differ (body_points s sub end)
body_differs s sub end h =
    (part_then_rows [] (laid s sub.body (0 ∷ []) (around_body s sub) (entry end [])) end
    (laid_sits s sub.body (0 ∷ []) (around_body s sub) (entry end [])) h).differ

procedure_end_fits : (s : Setting) (sub : TypedSub) → Fits [] (From 0) (procedure_end s sub)
procedure_end_fits s sub =
    ends_and_last [] 0 (length (ending s sub.body)) sub.end sub.end (ending s sub.body) (scope_at_end sub) (reverse sub.formals) _ Finish []
    (omega arith)

function_end_fits : (sub : TypedSub) → Fits [] (From 0) (function_end sub)
function_end_fits sub =
    row_from [] 0 (point (row_at [] 0) sub.end instruction.Fall (scope_at_end sub) []) []
    (fits_row [] 0 sub.end instruction.Fall (scope_at_end sub) []) (fits_none [] (From 1))

end_differs : (s : Setting) (sub : TypedSub) (b : Bool) → Differ (body_points s sub (if b then function_end sub else procedure_end s sub))
end_differs s sub true = body_differs s sub (function_end sub) (function_end_fits sub)
end_differs s sub false = body_differs s sub (procedure_end s sub) (procedure_end_fits s sub)

-- No two points of a subprogram have one name, and no two of the package objects.
pub points_differ : (s : Setting) (sub : TypedSub) → Differ (sub_points s sub)
points_differ s sub = end_differs s sub (is_some sub.result)

pub package_points_differ : (s : Setting) (sub : TypedSub) → Differ (elaboration_points s sub)
package_points_differ s sub = body_differs s sub [] (fits_none [] (From 0))
