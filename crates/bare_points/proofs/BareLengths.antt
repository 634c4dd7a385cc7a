-- How many bare points there are.
use Rattle.std.proofs.Common.{◌≡◌, ◌<◌, ◌≤◌, ℕ, ◌+◌, List, [], ◌∷◌, ◌++◌, length, refl, sym, ap, ◌∙◌, arith, length-append}
use Rattle.std.specs.Prelude.{Bool, true, false, not, nat_lt, if◌then◌else◌}
use Rattle.spark_base.specs.declared.position.Pos.{Pos}
use Rattle.typed_tree.specs.Trees.{TypedTree, TypedCode, Name, Component, Designated, Element, Image, Parens, Unary, Binary, Short, IsNull, Aggregate, Alike, New, Declare, Assign, Skip, Output, Input, Release, If, Branch, Case, When, Loop, While, For, Exit, Return, Block}
use Rattle.typed_tree.specs.Trees as typed
use Rattle.flow_paths.specs.Instructions.{Instruction}
use Rattle.flow_paths.specs.Instructions as instruction
use Rattle.flow_paths.specs.Names.{has_call}
use Rattle.numbered_points.specs.Extents.{Extent, Ways, extent, filled_in, nothing, prep_size, size}
use Rattle.numbered_points.specs.Prepared.{next_of}
use Rattle.numbered_points.specs.Statements.{around_loop, around_block}
use Rattle.bare_points.specs.Bare.{Bare, Laying, bare}
use Rattle.bare_points.specs.Spans.{owned, code_span, branches_span, branch_span, whens_span, when_span}
use Rattle.bare_points.specs.BarePrepared.{bare_prepared}
use Rattle.bare_points.specs.BareLaid.{bare_ended, bare_closed, bare_used, bare_used_both, bare_laid, bare_branches, bare_branch, bare_whens, bare_when}
use Rattle.bare_points.specs.BareSubs.{around_body, bare_body_size, bare_sub, bare_package, end_size}
use Rattle.bare_points.proofs.Steps.{size_both, block_size}

sum_length : (xs ys : List Bare) (a b : ℕ) → length xs ≡ a → length ys ≡ b → length (xs ++ ys) ≡ a + b
sum_length xs ys a b first second = length-append xs ys ∙ (λ i. first i + second i)

either_length : (b : Bool) (xs ys : List Bare) (m n : ℕ) → length xs ≡ m → length ys ≡ n
    → length (if b then xs else ys) ≡ (if b then m else n)
either_length true xs ys m n first second = first
either_length false xs ys m n first second = second

next_length : (x : Bare) (xs : List Bare) (n : ℕ) → length xs ≡ n → length (x ∷ xs) ≡ n + 1
next_length x xs n e = omega (arith, e)

short_length : (x y : Bare) (xs ys : List Bare) (m n : ℕ) → length xs ≡ m → length ys ≡ n
    → length (xs ++ (x ∷ (ys ++ y ∷ []))) ≡ m + 1 + (n + 1)
short_length x y xs ys m n first second =
    sum_length xs (x ∷ (ys ++ y ∷ [])) m (n + 1 + 1) first
    (next_length x (ys ++ y ∷ []) (n + 1) (sum_length ys (y ∷ []) n 1 second refl)) ∙ omega arith

empty_size : (w : Ways) → 0 ≡ size nothing w
empty_size w = omega arith

one_size : (w : Ways) → 1 ≡ size (extent 1 0 0 0) w
one_size w = omega arith

-- ---- expressions

pub prepared_length : (g : Laying) (e : TypedTree) (n t : ℕ) (k : List ℕ) → length (bare_prepared g e n t k) ≡ prep_size e
unfolding bare_prepared prep_size
prepared_length g (typed.Call p sub actuals) n t k = sum_length _ (_ ∷ []) _ _ (prepared_length g actuals _ _ _) refl
prepared_length g (Short op p a q b) n t k =
    either_length (has_call b) _ _ _ _
    (short_length _ _ _ _ _ _ (prepared_length g a _ _ _) (prepared_length g b _ _ _))
    (sum_length _ _ _ _ (prepared_length g a _ _ _) (prepared_length g b _ _ _))
prepared_length g (Binary op a b) n t k = sum_length _ _ _ _ (prepared_length g a _ _ _) (prepared_length g b _ _ _)
prepared_length g (typed.More a b) n t k = sum_length _ _ _ _ (prepared_length g a _ _ _) (prepared_length g b _ _ _)
prepared_length g (Element a low high b) n t k = sum_length _ _ _ _ (prepared_length g a _ _ _) (prepared_length g b _ _ _)
prepared_length g (Name p x e t0) n t k = prepared_length g e n t k
prepared_length g (Component i e) n t k = prepared_length g e n t k
prepared_length g (Designated e) n t k = prepared_length g e n t k
prepared_length g (Image t0 e) n t k = prepared_length g e n t k
prepared_length g (Parens e) n t k = prepared_length g e n t k
prepared_length g (Unary op e) n t k = prepared_length g e n t k
prepared_length g (IsNull equal e) n t k = prepared_length g e n t k
prepared_length g (Aggregate t0 e) n t k = prepared_length g e n t k
prepared_length g (Alike t0 e) n t k = prepared_length g e n t k
prepared_length g (New t0 e) n t k = prepared_length g e n t k
prepared_length g _ n t k = refl

used_length : (g : Laying) (p : Pos) (e : TypedTree) (i : Instruction) (n t : ℕ) (next : List ℕ)
    → length (bare_used g p e i n t next) ≡ prep_size e + 1
used_length g p e i n t next = sum_length _ (_ ∷ []) _ _ (prepared_length g e n t _) refl

used_both_length : (g : Laying) (p : Pos) (a b : TypedTree) (i : Instruction) (n t : ℕ) (next : List ℕ)
    → length (bare_used_both g p a b i n t next) ≡ prep_size a + prep_size b + 1
used_both_length g p a b i n t next =
    sum_length _ (_ ∷ []) _ _ (sum_length _ _ _ _ (prepared_length g a n t _) (prepared_length g b _ _ _)) refl

-- ---- ends

pub ended_length : (p : Pos) (xs : List ℕ) (n : ℕ) (k : List ℕ) → length (bare_ended p xs n k) ≡ length xs
ended_length p [] n k = refl
ended_length p (x ∷ rest) n k =
    let behind = ended_length p rest (n + 1) k in omega (arith, behind)

pub closed_length : (p : Pos) (xs : List ℕ) (n : ℕ) → length (bare_closed p xs n) ≡ length xs + 1
closed_length p xs n = sum_length _ (_ ∷ []) _ _ (ended_length p xs n _) refl

-- ---- statements

mutual
  unfolding bare_laid code_span

  pub laid_length : (g : Laying) (c : TypedCode) (n t : ℕ) (w : Ways) (k : List ℕ)
      → length (bare_laid g c n t w k) ≡ size (code_span g.ends c) w
  laid_length g (typed.More a rest) n t w k =
      sum_length _ _ _ _ (laid_length g a _ _ _ _) (laid_length g rest _ _ _ _)
      ∙ sym (size_both (code_span g.ends a) (code_span g.ends rest) w)
  laid_length g (Declare p x v) n t w k = used_length g p v _ n t k ∙ omega arith
  laid_length g (Assign p target e) n t w k = used_both_length g p e target _ n t k ∙ omega arith
  laid_length g (Skip p) n t w k = one_size w
  laid_length g (typed.Call p sub actuals) n t w k = used_length g p actuals _ n t k ∙ omega arith
  laid_length g (Output p text line) n t w k = used_length g p text _ n t k ∙ omega arith
  laid_length g (Input p target) n t w k = used_length g p target _ n t k ∙ omega arith
  laid_length g (Release p m) n t w k = used_length g p m _ n t k ∙ omega arith
  laid_length g (If branches otherwise) n t w k =
      sum_length _ _ _ _ (branches_length g branches _ _ _ _ _) (laid_length g otherwise _ _ _ _)
      ∙ sym (size_both (branches_span g.ends branches) (code_span g.ends otherwise) w)
  laid_length g (Case p e whens) n t w k =
      sum_length _ _ _ _ (used_length g p e _ n t _) (whens_length g whens _ _ _ _) ∙ omega arith
  laid_length g (Loop stmts) n t w k = laid_length g stmts n t (around_loop k w) _ ∙ omega arith
  laid_length g (While p e stmts) n t w k =
      sum_length _ _ _ _ (used_length g p e _ n t _) (laid_length g stmts _ _ (around_loop k w) _) ∙ omega arith
  laid_length g (For p x reversed low high stmts) n t w k =
      let next : ℕ = n + prep_size low + prep_size high + 1 in
      let turn : Bare = bare p (instruction.Next x reversed low high)
      (next_of (size (code_span g.ends stmts) (around_loop k w)) (next + 1) (next ∷ []) ++ k) in
      sum_length _ _ _ _ (used_both_length g p low high _ n t _)
      (next_length turn _ _ (laid_length g stmts (next + 1) (t + filled_in low + filled_in high) (around_loop k w) (next ∷ [])))
      ∙ omega arith
  laid_length g (Exit p e) n t w k =
      sum_length _ _ _ _ (used_length g p e _ n t _) (ended_length p w.in_loop _ _) ∙ omega arith
  laid_length g (Return p v) n t w k =
      sum_length _ _ _ _ (used_length g p v _ n t _) (closed_length p w.in_all _) ∙ omega arith
  laid_length g (Block b stmts end) n t w k =
      let xs : List ℕ = owned g.ends stmts in
      let inner : Extent = code_span g.ends stmts in
      sum_length _ _ _ _ (laid_length g stmts n t (around_block xs w) _) (ended_length end xs _ k)
      ∙ block_size inner inner xs xs w (around_block xs w) refl refl refl
  laid_length g _ n t w k = empty_size w

  pub branches_length : (g : Laying) (c : TypedCode) (n t : ℕ) (w : Ways) (k o : List ℕ)
      → length (bare_branches g c n t w k o) ≡ size (branches_span g.ends c) w
  branches_length g (typed.More a rest) n t w k o =
      sum_length _ _ _ _ (branch_length g a _ _ _ _ _) (branches_length g rest _ _ _ _ _)
      ∙ sym (size_both (branch_span g.ends a) (branches_span g.ends rest) w)
  branches_length g _ n t w k o = empty_size w

  pub branch_length : (g : Laying) (c : TypedCode) (n t : ℕ) (w : Ways) (k o : List ℕ)
      → length (bare_branch g c n t w k o) ≡ size (branch_span g.ends c) w
  branch_length g (Branch p e stmts) n t w k o =
      sum_length _ _ _ _ (used_length g p e _ n t _) (laid_length g stmts _ _ _ _) ∙ omega arith
  branch_length g _ n t w k o = empty_size w

  pub whens_length : (g : Laying) (c : TypedCode) (n t : ℕ) (w : Ways) (k : List ℕ)
      → length (bare_whens g c n t w k) ≡ size (whens_span g.ends c) w
  whens_length g (typed.More a rest) n t w k =
      sum_length _ _ _ _ (when_length g a _ _ _ _) (whens_length g rest _ _ _ _)
      ∙ sym (size_both (when_span g.ends a) (whens_span g.ends rest) w)
  whens_length g _ n t w k = empty_size w

  pub when_length : (g : Laying) (c : TypedCode) (n t : ℕ) (w : Ways) (k : List ℕ)
      → length (bare_when g c n t w k) ≡ size (when_span g.ends c) w
  when_length g (When choices stmts) n t w k = laid_length g stmts n t w k
  when_length g _ n t w k = empty_size w

-- ---- subprograms

pub sub_length : (g : Laying) (body : TypedCode) (end : Pos) (function : Bool) (t : ℕ)
    → length (bare_sub g body end function t) ≡ bare_body_size g body + end_size function (length (owned g.ends body))
sub_length g body end function t =
    sum_length _ _ _ _ (laid_length g body 0 t (around_body g body) _)
    (either_length function (_ ∷ []) _ _ _ refl (closed_length end (owned g.ends body) _))

pub package_length : (g : Laying) (body : TypedCode) → length (bare_package g body) ≡ bare_body_size g body
package_length g body = laid_length g body 0 0 (around_body g body) []

-- ---- more than there may be

many : (n : ℕ) → 16384 < n → false ≡ not (nat_lt 16384 n)
many n h = grind (arith, h)

few : (n : ℕ) → n ≤ 16384 → true ≡ not (nat_lt 16384 n)
few n h = grind (arith, h)

sub_count : (g : Laying) (body : TypedCode) (end : Pos) (function : Bool) (t : ℕ) (own : List ℕ) (span : Extent) (ways : Ways) (s m total : ℕ)
    → own ≡ owned g.ends body → ways ≡ record { leave = []; in_loop = []; in_all = own } → span ≡ code_span g.ends body → s ≡ size span ways
    → m ≡ end_size function (length own) → total ≡ s + m → length (bare_sub g body end function t) ≡ total
sub_count g body end function t own span ways s m total own_is ways_is span_is s_is m_is total_is =
    rw total_is (rw m_is (rw s_is (rw span_is (rw ways_is (rw own_is (sub_length g body end function t))))))

pub sub_many : (g : Laying) (body : TypedCode) (end : Pos) (function : Bool) (t : ℕ) (own : List ℕ) (span : Extent) (ways : Ways) (s m total : ℕ)
    → own ≡ owned g.ends body → ways ≡ record { leave = []; in_loop = []; in_all = own } → span ≡ code_span g.ends body → s ≡ size span ways
    → m ≡ end_size function (length own) → total ≡ s + m → 16384 < total
    → false ≡ not (nat_lt 16384 (length (bare_sub g body end function t)))
sub_many g body end function t own span ways s m total own_is ways_is span_is s_is m_is total_is over =
    many total over
    ∙ ap (λ n. not (nat_lt 16384 n)) (sym (sub_count g body end function t own span ways s m total own_is ways_is span_is s_is m_is total_is))

pub sub_few : (g : Laying) (body : TypedCode) (end : Pos) (function : Bool) (t : ℕ) (own : List ℕ) (span : Extent) (ways : Ways) (s m total : ℕ)
    → own ≡ owned g.ends body → ways ≡ record { leave = []; in_loop = []; in_all = own } → span ≡ code_span g.ends body → s ≡ size span ways
    → m ≡ end_size function (length own) → total ≡ s + m → total ≤ 16384
    → true ≡ not (nat_lt 16384 (length (bare_sub g body end function t)))
sub_few g body end function t own span ways s m total own_is ways_is span_is s_is m_is total_is within =
    few total within
    ∙ ap (λ n. not (nat_lt 16384 n)) (sym (sub_count g body end function t own span ways s m total own_is ways_is span_is s_is m_is total_is))

package_count : (g : Laying) (body : TypedCode) (own : List ℕ) (span : Extent) (ways : Ways) (s : ℕ)
    → own ≡ owned g.ends body → ways ≡ record { leave = []; in_loop = []; in_all = own } → span ≡ code_span g.ends body → s ≡ size span ways
    → length (bare_package g body) ≡ s
package_count g body own span ways s own_is ways_is span_is s_is =
    rw s_is (rw span_is (rw ways_is (rw own_is (package_length g body))))

pub package_many : (g : Laying) (body : TypedCode) (own : List ℕ) (span : Extent) (ways : Ways) (s : ℕ)
    → own ≡ owned g.ends body → ways ≡ record { leave = []; in_loop = []; in_all = own } → span ≡ code_span g.ends body → s ≡ size span ways
    → 16384 < s → false ≡ not (nat_lt 16384 (length (bare_package g body)))
package_many g body own span ways s own_is ways_is span_is s_is over =
    many s over ∙ ap (λ n. not (nat_lt 16384 n)) (sym (package_count g body own span ways s own_is ways_is span_is s_is))

pub package_few : (g : Laying) (body : TypedCode) (own : List ℕ) (span : Extent) (ways : Ways) (s : ℕ)
    → own ≡ owned g.ends body → ways ≡ record { leave = []; in_loop = []; in_all = own } → span ≡ code_span g.ends body → s ≡ size span ways
    → s ≤ 16384 → true ≡ not (nat_lt 16384 (length (bare_package g body)))
package_few g body own span ways s own_is ways_is span_is s_is within =
    few s within ∙ ap (λ n. not (nat_lt 16384 n)) (sym (package_count g body own span ways s own_is ways_is span_is s_is))
