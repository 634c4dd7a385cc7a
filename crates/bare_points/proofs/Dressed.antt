-- Points are bare points with the acts and leak checks that their positions and instructions give.
use Rattle.std.proofs.Common.{◌≡◌, ℕ, ◌+◌, List, [], ◌∷◌, ◌++◌, length, map, refl, sym, ap, ◌∙◌}
use Rattle.std.specs.Prelude.{Bool, true, false, Some, is_some, if◌then◌else◌}
use Rattle.std.proofs.lemmas.List.{map-append}
use Rattle.spark_base.specs.declared.position.Pos.{Pos}
use Rattle.typed_tree.specs.Programs.{TypedSub}
use Rattle.typed_tree.specs.Trees.{TypedTree, TypedCode, Name, Component, Designated, Element, Image, Parens, Unary, Binary, Short, IsNull, Aggregate, Alike, New, Declare, Assign, Skip, Output, Input, Release, If, Branch, Case, When, Loop, While, For, Exit, Return, Block}
use Rattle.typed_tree.specs.Trees as typed
use Rattle.flow_paths.specs.Instructions.{Instruction}
use Rattle.flow_paths.specs.Instructions as instruction
use Rattle.flow_paths.specs.Objects.{Typing, has_scope_end}
use Rattle.flow_paths.specs.Names.{has_call}
use Rattle.flow_paths.specs.Points.{FlowPoint}
use Rattle.flow_paths.specs.Layout.{choices_of}
use Rattle.numbered_points.specs.Extents.{Ways, prep_size, filled_in, using, both, in_turns, ending_with, extent, size, ended_in, code_extent, branches_extent, branch_extent, whens_extent, when_extent}
use Rattle.numbered_points.specs.Prepared.{Maker, temporary, make, next_of, prepared}
use Rattle.numbered_points.specs.Statements.{around_loop, around_block, ended, closed, used, used_both, whens_begin, laid_numbers, branches_numbers, branch_numbers, whens_numbers, when_numbers}
use Rattle.numbered_points.specs.Programs.{body_ways, body_numbers, end_numbers, sub_numbers, package_numbers}
use Rattle.bare_points.specs.Bare.{Bare, strip, dress, laying_of}
use Rattle.bare_points.specs.declared.own_objects.Ends.{Ends}
use Rattle.bare_points.specs.Spans.{ends_of, code_span, branches_span, branch_span, whens_span, when_span}
use Rattle.bare_points.specs.BarePrepared.{bare_prepared}
use Rattle.bare_points.specs.BareLaid.{bare_ended, bare_closed, bare_used, bare_used_both, whens_start, bare_laid, bare_branches, bare_branch, bare_whens, bare_when}
use Rattle.bare_points.specs.BareSubs.{bare_sub, bare_package}

-- ---- sizes

mutual
  unfolding code_span code_extent

  pub span_same : (s : Typing) (c : TypedCode) → code_span (has_scope_end s) c ≡ code_extent s c
  span_same s (typed.More a rest) = λ i. both (span_same s a i) (span_same s rest i)
  span_same s (Declare p x v) = refl
  span_same s (Assign p target e) = refl
  span_same s (Skip p) = refl
  span_same s (typed.Call p sub actuals) = refl
  span_same s (Output p text line) = refl
  span_same s (Input p target) = refl
  span_same s (Release p m) = refl
  span_same s (If branches otherwise) = λ i. both (branches_same s branches i) (span_same s otherwise i)
  span_same s (Case p e whens) = λ i. both (using e 1) (whens_same s whens i)
  span_same s (Loop stmts) = ap in_turns (span_same s stmts)
  span_same s (While p e stmts) = λ i. both (using e 1) (in_turns (span_same s stmts i))
  span_same s (For p x reversed low high stmts) =
      λ i. both (both (using low 0) (using high 1)) (both (extent 1 0 0 0) (in_turns (span_same s stmts i)))
  span_same s (Exit p e) = refl
  span_same s (Return p v) = refl
  span_same s (Block n stmts end) = ap (ending_with (length (ended_in s stmts))) (span_same s stmts)
  span_same s _ = refl

  pub branches_same : (s : Typing) (c : TypedCode) → branches_span (has_scope_end s) c ≡ branches_extent s c
  branches_same s (typed.More a rest) = λ i. both (branch_same s a i) (branches_same s rest i)
  branches_same s _ = refl

  pub branch_same : (s : Typing) (c : TypedCode) → branch_span (has_scope_end s) c ≡ branch_extent s c
  branch_same s (Branch p e stmts) = λ i. both (using e 1) (span_same s stmts i)
  branch_same s _ = refl

  pub whens_same : (s : Typing) (c : TypedCode) → whens_span (has_scope_end s) c ≡ whens_extent s c
  whens_same s (typed.More a rest) = λ i. both (when_same s a i) (whens_same s rest i)
  whens_same s _ = refl

  pub when_same : (s : Typing) (c : TypedCode) → when_span (has_scope_end s) c ≡ when_extent s c
  when_same s (When choices stmts) = span_same s stmts
  when_same s _ = refl

-- ---- lists of points

both_dressed : (g : Maker) (xs ys : List Bare) (us vs : List FlowPoint) → map (dress g) xs ≡ us → map (dress g) ys ≡ vs
    → map (dress g) (xs ++ ys) ≡ us ++ vs
both_dressed g xs ys us vs first second = map-append (dress g) xs ys ∙ (λ i. first i ++ second i)

either_dressed : (g : Maker) (b : Bool) (xs ys : List Bare) (us vs : List FlowPoint) → map (dress g) xs ≡ us → map (dress g) ys ≡ vs
    → map (dress g) (if b then xs else ys) ≡ (if b then us else vs)
either_dressed g true xs ys us vs first second = first
either_dressed g false xs ys us vs first second = second

-- ---- expressions

pub prepared_dressed : (g : Maker) (e : TypedTree) (n t : ℕ) (k : List ℕ)
    → map (dress g) (bare_prepared (laying_of g) e n t k) ≡ prepared g e n t k
unfolding bare_prepared prepared
prepared_dressed g (typed.Call p sub actuals) n t k = both_dressed g _ _ _ _ (prepared_dressed g actuals _ _ _) refl
prepared_dressed g (Short op p a q b) n t k =
    either_dressed g (has_call b) _ _ _ _
    (both_dressed g _ _ _ _ (prepared_dressed g a _ _ _)
    (ap (λ ys. make g p (instruction.Evaluate (temporary g (t + filled_in a)) a (Some op)) ((n + prep_size a + 1) ∷ k) ∷ ys)
    (both_dressed g _ _ _ _ (prepared_dressed g b (n + prep_size a + 1) (t + filled_in a + 1) ((n + prep_size a + 1 + prep_size b) ∷ [])) refl)))
    (both_dressed g _ _ _ _ (prepared_dressed g a _ _ _) (prepared_dressed g b _ _ _))
prepared_dressed g (Binary op a b) n t k = both_dressed g _ _ _ _ (prepared_dressed g a _ _ _) (prepared_dressed g b _ _ _)
prepared_dressed g (typed.More a b) n t k = both_dressed g _ _ _ _ (prepared_dressed g a _ _ _) (prepared_dressed g b _ _ _)
prepared_dressed g (Element a low high b) n t k = both_dressed g _ _ _ _ (prepared_dressed g a _ _ _) (prepared_dressed g b _ _ _)
prepared_dressed g (Name p x e t0) n t k = prepared_dressed g e n t k
prepared_dressed g (Component i e) n t k = prepared_dressed g e n t k
prepared_dressed g (Designated e) n t k = prepared_dressed g e n t k
prepared_dressed g (Image t0 e) n t k = prepared_dressed g e n t k
prepared_dressed g (Parens e) n t k = prepared_dressed g e n t k
prepared_dressed g (Unary op e) n t k = prepared_dressed g e n t k
prepared_dressed g (IsNull equal e) n t k = prepared_dressed g e n t k
prepared_dressed g (Aggregate t0 e) n t k = prepared_dressed g e n t k
prepared_dressed g (Alike t0 e) n t k = prepared_dressed g e n t k
prepared_dressed g (New t0 e) n t k = prepared_dressed g e n t k
prepared_dressed g _ n t k = refl

pub used_dressed : (g : Maker) (p : Pos) (e : TypedTree) (i : Instruction) (n t : ℕ) (next : List ℕ)
    → map (dress g) (bare_used (laying_of g) p e i n t next) ≡ used g p e i n t next
used_dressed g p e i n t next = both_dressed g _ _ _ _ (prepared_dressed g e n t _) refl

pub used_both_dressed : (g : Maker) (p : Pos) (a b : TypedTree) (i : Instruction) (n t : ℕ) (next : List ℕ)
    → map (dress g) (bare_used_both (laying_of g) p a b i n t next) ≡ used_both g p a b i n t next
used_both_dressed g p a b i n t next =
    both_dressed g _ _ _ _ (both_dressed g _ _ _ _ (prepared_dressed g a n t _) (prepared_dressed g b _ _ _)) refl

-- ---- ends

pub ended_dressed : (g : Maker) (p : Pos) (xs : List ℕ) (n : ℕ) (k : List ℕ) → map (dress g) (bare_ended p xs n k) ≡ ended g p xs n k
ended_dressed g p [] n k = refl
ended_dressed g p (x ∷ rest) n k =
    ap (λ ys. make g p (instruction.EndScope x) (next_of (length rest) (n + 1) k) ∷ ys) (ended_dressed g p rest (n + 1) k)

pub closed_dressed : (g : Maker) (p : Pos) (xs : List ℕ) (n : ℕ) → map (dress g) (bare_closed p xs n) ≡ closed g p xs n
closed_dressed g p xs n = both_dressed g _ _ _ _ (ended_dressed g p xs n _) refl

-- ---- statements

pub starts_same : (s : Typing) (c : TypedCode) (n : ℕ) (w : Ways) (k : List ℕ)
    → whens_start (has_scope_end s) c n w k ≡ whens_begin s c n w k
starts_same s (typed.More a rest) n w k =
    (λ i. next_of (size (when_same s a i) w) n k ++ whens_start (has_scope_end s) rest (n + size (when_same s a i) w) w k)
    ∙ ap (λ ys. next_of (size (when_extent s a) w) n k ++ ys) (starts_same s rest (n + size (when_extent s a) w) w k)
starts_same s _ n w k = refl

mutual
  unfolding bare_laid laid_numbers

  pub laid_dressed : (g : Maker) (c : TypedCode) (n t : ℕ) (w : Ways) (k : List ℕ)
      → map (dress g) (bare_laid (laying_of g) c n t w k) ≡ laid_numbers g c n t w k
  laid_dressed g (typed.More a rest) n t w k =
      let s = g.frame.typing in
      both_dressed g _ _ _ _ (laid_dressed g a _ _ _ _) (laid_dressed g rest _ _ _ _)
      ∙ (λ i. laid_numbers g a n t w (next_of (size (span_same s rest i) w) (n + size (span_same s a i) w) k)
      ++ laid_numbers g rest (n + size (span_same s a i) w) (t + (span_same s a i).filled) w k)
  laid_dressed g (Declare p x v) n t w k = used_dressed g p v (instruction.Declare x v) n t k
  laid_dressed g (Assign p target e) n t w k = used_both_dressed g p e target (instruction.Assign target e) n t k
  laid_dressed g (Skip p) n t w k = refl
  laid_dressed g (typed.Call p sub actuals) n t w k = used_dressed g p actuals _ n t k
  laid_dressed g (Output p text line) n t w k = used_dressed g p text (instruction.Output text line) n t k
  laid_dressed g (Input p target) n t w k = used_dressed g p target (instruction.Input target) n t k
  laid_dressed g (Release p m) n t w k = used_dressed g p m (instruction.Release m) n t k
  laid_dressed g (If branches otherwise) n t w k =
      let s = g.frame.typing in
      both_dressed g _ _ _ _ (branches_dressed g branches _ _ _ _ _) (laid_dressed g otherwise _ _ _ _)
      ∙ (λ i. branches_numbers g branches n t w k (next_of (size (span_same s otherwise i) w) (n + size (branches_same s branches i) w) k)
      ++ laid_numbers g otherwise (n + size (branches_same s branches i) w) (t + (branches_same s branches i).filled) w k)
  laid_dressed g (Case p e whens) n t w k =
      both_dressed g _ _ _ _ (used_dressed g p e _ n t _) (whens_dressed g whens _ _ _ _)
      ∙ (λ i. used g p e (instruction.Choose e (choices_of whens)) n t (starts_same g.frame.typing whens (n + prep_size e + 1) w k i)
      ++ whens_numbers g whens (n + prep_size e + 1) (t + filled_in e) w k)
  laid_dressed g (Loop stmts) n t w k =
      laid_dressed g stmts n t (around_loop k w) _
      ∙ (λ i. laid_numbers g stmts n t (around_loop k w) (next_of (size (span_same g.frame.typing stmts i) (around_loop k w)) n k))
  laid_dressed g (While p e stmts) n t w k =
      both_dressed g _ _ _ _ (used_dressed g p e _ n t _) (laid_dressed g stmts _ _ _ _)
      ∙ (λ i. used g p e (instruction.Test e) n t
      (next_of (size (span_same g.frame.typing stmts i) (around_loop k w)) (n + prep_size e + 1) (n ∷ []) ++ k)
      ++ laid_numbers g stmts (n + prep_size e + 1) (t + filled_in e) (around_loop k w) (n ∷ []))
  laid_dressed g (For p x reversed low high stmts) n t w k =
      let next : ℕ = n + prep_size low + prep_size high + 1 in
      both_dressed g _ _ _ _ (used_both_dressed g p low high _ n t _)
      ((λ i. make g p (instruction.Next x reversed low high)
      (next_of (size (span_same g.frame.typing stmts i) (around_loop k w)) (next + 1) (next ∷ []) ++ k)
      ∷ laid_dressed g stmts (next + 1) (t + filled_in low + filled_in high) (around_loop k w) (next ∷ []) i))
  laid_dressed g (Exit p e) n t w k = both_dressed g _ _ _ _ (used_dressed g p e _ n t _) (ended_dressed g p w.in_loop _ _)
  laid_dressed g (Return p v) n t w k = both_dressed g _ _ _ _ (used_dressed g p v _ n t _) (closed_dressed g p w.in_all _)
  laid_dressed g (Block b stmts end) n t w k =
      let s = g.frame.typing in
      let xs : List ℕ = ended_in s stmts in
      both_dressed g _ _ _ _ (laid_dressed g stmts n t (around_block xs w) _) (ended_dressed g end xs _ k)
      ∙ (λ i. laid_numbers g stmts n t (around_block xs w) (next_of (length xs) (n + size (span_same s stmts i) (around_block xs w)) k)
      ++ ended g end xs (n + size (span_same s stmts i) (around_block xs w)) k)
  laid_dressed g _ n t w k = refl

  pub branches_dressed : (g : Maker) (c : TypedCode) (n t : ℕ) (w : Ways) (k o : List ℕ)
      → map (dress g) (bare_branches (laying_of g) c n t w k o) ≡ branches_numbers g c n t w k o
  branches_dressed g (typed.More a rest) n t w k o =
      let s = g.frame.typing in
      both_dressed g _ _ _ _ (branch_dressed g a _ _ _ _ _) (branches_dressed g rest _ _ _ _ _)
      ∙ (λ i. branch_numbers g a n t w k (next_of (size (branches_same s rest i) w) (n + size (branch_same s a i) w) o)
      ++ branches_numbers g rest (n + size (branch_same s a i) w) (t + (branch_same s a i).filled) w k o)
  branches_dressed g _ n t w k o = refl

  pub branch_dressed : (g : Maker) (c : TypedCode) (n t : ℕ) (w : Ways) (k o : List ℕ)
      → map (dress g) (bare_branch (laying_of g) c n t w k o) ≡ branch_numbers g c n t w k o
  branch_dressed g (Branch p e stmts) n t w k o =
      both_dressed g _ _ _ _ (used_dressed g p e _ n t _) (laid_dressed g stmts _ _ _ _)
      ∙ (λ i. used g p e (instruction.Test e) n t (next_of (size (span_same g.frame.typing stmts i) w) (n + prep_size e + 1) k ++ o)
      ++ laid_numbers g stmts (n + prep_size e + 1) (t + filled_in e) w k)
  branch_dressed g _ n t w k o = refl

  pub whens_dressed : (g : Maker) (c : TypedCode) (n t : ℕ) (w : Ways) (k : List ℕ)
      → map (dress g) (bare_whens (laying_of g) c n t w k) ≡ whens_numbers g c n t w k
  whens_dressed g (typed.More a rest) n t w k =
      let s = g.frame.typing in
      both_dressed g _ _ _ _ (when_dressed g a _ _ _ _) (whens_dressed g rest _ _ _ _)
      ∙ (λ i. when_numbers g a n t w k ++ whens_numbers g rest (n + size (when_same s a i) w) (t + (when_same s a i).filled) w k)
  whens_dressed g _ n t w k = refl

  pub when_dressed : (g : Maker) (c : TypedCode) (n t : ℕ) (w : Ways) (k : List ℕ)
      → map (dress g) (bare_when (laying_of g) c n t w k) ≡ when_numbers g c n t w k
  when_dressed g (When choices stmts) n t w k = laid_dressed g stmts n t w k
  when_dressed g _ n t w k = refl

-- ---- subprograms

pub sub_dressed : (g : Maker) (sub : TypedSub) (t : ℕ)
    → map (dress g) (bare_sub (laying_of g) sub.body sub.end (is_some sub.result) t) ≡ sub_numbers g sub t
sub_dressed g sub t =
    let s = g.frame.typing in
    let w : Ways = body_ways s sub in
    both_dressed g _ _ _ _ (laid_dressed g sub.body 0 t w _)
    (either_dressed g (is_some sub.result) _ _ _ _ refl (closed_dressed g sub.end (ended_in s sub.body) _))
    ∙ (λ i. body_numbers g sub t (size (span_same s sub.body i) w ∷ []) ++ end_numbers g sub (size (span_same s sub.body i) w))

pub package_dressed : (g : Maker) (sub : TypedSub) → map (dress g) (bare_package (laying_of g) sub.body) ≡ package_numbers g sub
package_dressed g sub = laid_dressed g sub.body 0 0 (body_ways g.frame.typing sub) []

-- ---- what is left of points

pub strip_dress : (g : Maker) (xs : List Bare) → map strip (map (dress g) xs) ≡ xs
strip_dress g [] = refl
strip_dress g (x ∷ xs) = ap (λ ys. x ∷ ys) (strip_dress g xs)

-- What is left of the points of statements.
pub stripped : (g : Maker) (c : TypedCode) (n t : ℕ) (w : Ways) (k : List ℕ)
    → map strip (laid_numbers g c n t w k) ≡ bare_laid (laying_of g) c n t w k
stripped g c n t w k = ap (map strip) (sym (laid_dressed g c n t w k)) ∙ strip_dress g (bare_laid (laying_of g) c n t w k)

-- What is left of the points of a subprogram.
pub sub_stripped : (g : Maker) (sub : TypedSub) (t : ℕ)
    → map strip (sub_numbers g sub t) ≡ bare_sub (laying_of g) sub.body sub.end (is_some sub.result) t
sub_stripped g sub t = ap (map strip) (sym (sub_dressed g sub t)) ∙ strip_dress g _

pub package_stripped : (g : Maker) (sub : TypedSub) → map strip (package_numbers g sub) ≡ bare_package (laying_of g) sub.body
package_stripped g sub = ap (map strip) (sym (package_dressed g sub)) ∙ strip_dress g _

-- Each point is made of what is left of it.
pub redressed : (g : Maker) (sub : TypedSub) (t : ℕ) → map (dress g) (map strip (sub_numbers g sub t)) ≡ sub_numbers g sub t
redressed g sub t = ap (map (dress g)) (sub_stripped g sub t) ∙ sub_dressed g sub t

-- ---- objects by a list

-- A test by a list that tells of each object whether its scope ends at a point.
pub laying_same : (g : Maker) (ends : Ends) → ((x : ℕ) → ends_of ends x ≡ has_scope_end g.frame.typing x)
    → record { ends = ends_of ends; counted = g.counted } ≡ laying_of g
laying_same g ends tells = λ i. record { ends = λ x. tells x i; counted = g.counted }

-- The points of a subprogram are the bare ones that such a list gives, with acts and leak checks.
pub sub_laid : (g : Maker) (sub : TypedSub) (t : ℕ) (ends : Ends) → ((x : ℕ) → ends_of ends x ≡ has_scope_end g.frame.typing x)
    → map (dress g) (bare_sub (record { ends = ends_of ends; counted = g.counted }) sub.body sub.end (is_some sub.result) t) ≡ sub_numbers g sub t
sub_laid g sub t ends tells =
    ap (λ l. map (dress g) (bare_sub l sub.body sub.end (is_some sub.result) t)) (laying_same g ends tells) ∙ sub_dressed g sub t

pub package_laid : (g : Maker) (sub : TypedSub) (ends : Ends) → ((x : ℕ) → ends_of ends x ≡ has_scope_end g.frame.typing x)
    → map (dress g) (bare_package (record { ends = ends_of ends; counted = g.counted }) sub.body) ≡ package_numbers g sub
package_laid g sub ends tells =
    ap (λ l. map (dress g) (bare_package l sub.body)) (laying_same g ends tells) ∙ package_dressed g sub
