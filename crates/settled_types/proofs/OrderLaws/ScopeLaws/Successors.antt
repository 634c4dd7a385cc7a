-- Each point has as many successors as its instruction leads to.
use Rattle.std.proofs.Common.{◌≡◌, refl, sym, ◌∙◌, subst, ℕ, suc, Bool, true, false, List, [], ◌∷◌, ◌++◌, length, if◌then◌else◌, ap, append-nil, length-append, ◌+◌, one-add}
use Rattle.std.specs.Prelude.{None, flat_map, drop, reverse, is_some}
use Rattle.std.specs.List.{AllByRecursion}
use Rattle.std.proofs.lemmas.Bool.{false≢true}
use Rattle.machine.specs.spark_base.declared.position.Pos.{Pos}
use Rattle.machine.specs.typed_tree.Trees.{TypedTree, Name, Component, Designated, Element, Image, Parens, Unary, Binary, Short, IsNull, Aggregate, Alike, New, TypedCode, Declare, Assign, Skip, Output, Input, Release, If, Branch, Case, When, Loop, While, For, Exit, Return, Block}
use Rattle.machine.specs.typed_tree.Trees as typed
use Rattle.machine.specs.typed_tree.Programs.{TypedSub}
use Rattle.machine.specs.flow_paths.Instructions.{Instruction, Finish}
use Rattle.machine.specs.flow_paths.Instructions as instruction
use Rattle.machine.specs.flow_paths.Names.{has_call}
use Rattle.machine.specs.flow_paths.Points.{Place, PointName, row_at, NamedPoint, point, entry}
use Rattle.machine.specs.flow_paths.Prep.{Setting, with_held, prep}
use Rattle.machine.specs.flow_paths.Layout.{Around, within_loop, within_block, with_scope, declared, from, ending, ends, closing, uses, uses_both, unless_empty, choices_of, laid, laid_branches, laid_branch, laid_whens, laid_when}
use Rattle.machine.specs.flow_paths.Laid.{around_body, scope_at_end, procedure_end, function_end, body_points, sub_points}
use Rattle.flow_paths.proofs.Entries.{entry_append}
use Rattle.machine.specs.Typed.{successors}
use Rattle.settled_types.proofs.TypedCases.{on_tree, plain_prep}
use Rattle.settled_types.specs.OrderLaws.ScopeLaws.Code.{is_formed, are_alternatives, is_formed_alternative}
use Rattle.settled_types.specs.OrderLaws.ScopeLaws.Order.{IsCounted}
use Rattle.settled_types.proofs.OrderLaws.ScopeLaws.Lists.{and_first, and_second, all_both, all_one, all_if}

-- ---- one successor

abbrev One : List PointName → Type 0
One k = length k ≡ 1

abbrev Counted : List NamedPoint → Type 0
Counted ps = AllByRecursion IsCounted ps

entry_one : (ps : List NamedPoint) (k : List PointName) → One k → One (entry ps k)
entry_one [] k one = one
entry_one (p ∷ ps) k one = refl

two : (a b : List PointName) → One a → One b → length (a ++ b) ≡ 2
two a b x y = length-append a b ∙ ap (λ n. n + length b) x ∙ ap (λ n. 1 + n) y

both : (ps qs : List NamedPoint) → Counted ps → Counted qs → Counted (ps ++ qs)
both ps qs h g = all_both IsCounted ps qs h g

one_more : (ps : List NamedPoint) (p : NamedPoint) → Counted ps → IsCounted p → Counted (ps ++ p ∷ [])
one_more ps p h g = all_one IsCounted ps p h g

-- ---- before a use

pub prep_counted : (s : Setting) (e : TypedTree) (at : Place) (scope : List ℕ) (k : List PointName) → One k → Counted (prep s e at scope k)
unfolding prep
prep_counted s = on_tree {Of = λ e. (at : Place) → (scope : List ℕ) → (k : List PointName) → One k → Counted (prep s e at scope k)} (record {
  call = λ p sub actuals by_actuals at scope k one.
      one_more (prep s actuals (0 ∷ at) scope (row_at at 0 ∷ [])) _ (by_actuals (0 ∷ at) scope (row_at at 0 ∷ []) refl) one;
  short = λ op p a q b by_a by_b at scope k one.
      let right : List NamedPoint = prep s b (1 ∷ at) (s.temporary at ∷ scope) (row_at at 1 ∷ []) in
      let behind : List NamedPoint = prep s b (1 ∷ at) (with_held s a (0 ∷ at) scope) k in
      all_if IsCounted (has_call b) _ _
      (both (prep s a (0 ∷ at) scope (row_at at 0 ∷ [])) _ (by_a (0 ∷ at) scope (row_at at 0 ∷ []) refl) (
        two (entry right (row_at at 1 ∷ [])) k (entry_one right (row_at at 1 ∷ []) refl) one,
        one_more right _ (by_b (1 ∷ at) (s.temporary at ∷ scope) (row_at at 1 ∷ []) refl) one,
      ))
      (both (prep s a (0 ∷ at) scope (entry behind k)) behind (by_a (0 ∷ at) scope (entry behind k) (entry_one behind k one))
      (by_b (1 ∷ at) (with_held s a (0 ∷ at) scope) k one));
  binary = λ op a b by_a by_b at scope k one.
      let behind : List NamedPoint = prep s b (1 ∷ at) (with_held s a (0 ∷ at) scope) k in
      both (prep s a (0 ∷ at) scope (entry behind k)) behind (by_a (0 ∷ at) scope (entry behind k) (entry_one behind k one))
      (by_b (1 ∷ at) (with_held s a (0 ∷ at) scope) k one);
  list = λ a b by_a by_b at scope k one.
      let behind : List NamedPoint = prep s b (1 ∷ at) (with_held s a (0 ∷ at) scope) k in
      both (prep s a (0 ∷ at) scope (entry behind k)) behind (by_a (0 ∷ at) scope (entry behind k) (entry_one behind k one))
      (by_b (1 ∷ at) (with_held s a (0 ∷ at) scope) k one);
  element = λ a low high b by_a by_b at scope k one.
      let behind : List NamedPoint = prep s b (1 ∷ at) (with_held s a (0 ∷ at) scope) k in
      both (prep s a (0 ∷ at) scope (entry behind k)) behind (by_a (0 ∷ at) scope (entry behind k) (entry_one behind k one))
      (by_b (1 ∷ at) (with_held s a (0 ∷ at) scope) k one);
  name = λ p x e t by_e at scope k one.
      by_e (0 ∷ at) scope k one;
  component = λ i e by_e at scope k one.
      by_e (0 ∷ at) scope k one;
  designated = λ e by_e at scope k one.
      by_e (0 ∷ at) scope k one;
  image = λ t e by_e at scope k one.
      by_e (0 ∷ at) scope k one;
  parens = λ e by_e at scope k one.
      by_e (0 ∷ at) scope k one;
  unary = λ op e by_e at scope k one.
      by_e (0 ∷ at) scope k one;
  is_null = λ equal e by_e at scope k one.
      by_e (0 ∷ at) scope k one;
  aggregate = λ t e by_e at scope k one.
      by_e (0 ∷ at) scope k one;
  alike = λ t e by_e at scope k one.
      by_e (0 ∷ at) scope k one;
  allocator = λ t e by_e at scope k one.
      by_e (0 ∷ at) scope k one;
  others = λ e plain at scope k one. rw (plain_prep s e at scope k plain) (tt);
})

uses_counted : (s : Setting) (at : Place) (p : Pos) (e : TypedTree) (i : Instruction) (w : Around) (next : List PointName)
    → length next ≡ successors i → Counted (uses s at p e i w next)
uses_counted s at p e i w next count =
    one_more (prep s e (0 ∷ at) w.scope (row_at at 0 ∷ [])) (point (row_at at 0) p i (with_held s e (0 ∷ at) w.scope) next)
    (prep_counted s e (0 ∷ at) w.scope (row_at at 0 ∷ []) refl) count

-- Two expressions at some places, the first one first.
pair_counted : (s : Setting) (at x y : Place) (a b : TypedTree) (scope inner : List ℕ) (q : NamedPoint) → IsCounted q
    → Counted ((prep s a x scope (entry (prep s b y inner (row_at at 0 ∷ [])) (row_at at 0 ∷ [])) ++ prep s b y inner (row_at at 0 ∷ [])) ++ q ∷ [])
pair_counted s at x y a b scope inner q count =
    let own : List PointName = row_at at 0 ∷ [] in
    let behind : List NamedPoint = prep s b y inner own in
    one_more (prep s a x scope (entry behind own) ++ behind) q
    (both (prep s a x scope (entry behind own)) behind (prep_counted s a x scope (entry behind own) (entry_one behind own refl))
    (prep_counted s b y inner own refl)) count

-- ---- ends

ends_counted : (at : Place) (row : ℕ) (p : Pos) (xs scope : List ℕ) (k : List PointName) → One k → Counted (ends at row p xs scope k)
ends_counted at row p [] scope k one = tt
ends_counted at row p (x ∷ xs) scope k one =
    let behind : List NamedPoint = ends at (suc row) p xs (drop 1 (from x scope)) k in
    (entry_one behind k one, ends_counted at (suc row) p xs (drop 1 (from x scope)) k one)

-- The ends of scopes, and Finish.
last_counted : (at : Place) (row : ℕ) (p q : Pos) (xs scope formals : List ℕ) (finish : PointName)
    → Counted (ends at row p xs scope (finish ∷ []) ++ point finish q Finish formals [] ∷ [])
last_counted at row p q xs scope formals finish =
    one_more (ends at row p xs scope (finish ∷ [])) (point finish q Finish formals []) (ends_counted at row p xs scope (finish ∷ []) refl) refl

closing_one : (ps : List NamedPoint) (q : NamedPoint) → One (entry (ps ++ q ∷ []) [])
closing_one ps q = subst One (sym (entry_append ps (q ∷ []) [])) (entry_one ps (q.name ∷ []) refl)

-- ---- statements

alone : (out : List PointName) → One out → One (out ++ [])
alone out x = subst One (sym (append-nil out)) x

leave_count : (e : TypedTree) (out k : List PointName) → One out → One k → length (out ++ unless_empty e k) ≡ successors (instruction.LeaveLoop e)
leave_count (typed.More e rest) out k x y = two out k x y
leave_count typed.NoMore out k x y = alone out x
leave_count (typed.Number v) out k x y = alone out x
leave_count (typed.Literal v) out k x y = alone out x
leave_count typed.Null out k x y = alone out x
leave_count (typed.Text v) out k x y = alone out x
leave_count (Name p z steps t) out k x y = alone out x
leave_count (Component i rest) out k x y = alone out x
leave_count (Designated rest) out k x y = alone out x
leave_count (Element i low high rest) out k x y = alone out x
leave_count (typed.Call p sub actuals) out k x y = alone out x
leave_count typed.EndOfFile out k x y = alone out x
leave_count (Parens e) out k x y = alone out x
leave_count (Image t e) out k x y = alone out x
leave_count (Unary op e) out k x y = alone out x
leave_count (Binary op a b) out k x y = alone out x
leave_count (Short op p a q b) out k x y = alone out x
leave_count (IsNull equal e) out k x y = alone out x
leave_count (Aggregate t es) out k x y = alone out x
leave_count (Alike t e) out k x y = alone out x
leave_count (New t e) out k x y = alone out x

one_before : (a b : List PointName) (n : ℕ) → One a → length b ≡ n → length (a ++ b) ≡ suc n
one_before a b n x y = length-append a b ∙ ap (λ m. m + length b) x ∙ ap (λ m. 1 + m) y ∙ one-add n

choices_more : (a rest : TypedCode) (looped : Bool) → is_formed_alternative looped a ≡ true → length (choices_of (typed.More a rest)) ≡ suc (length (choices_of rest))
unfolding choices_of is_formed_alternative
choices_more (When choices stmts) rest looped h = refl
choices_more _ rest looped h = absurd (false≢true h)

-- Each alternative of a `case` is a successor.
whens_count : (s : Setting) (c : TypedCode) (at : Place) (w : Around) (k : List PointName) (looped : Bool) → are_alternatives looped c ≡ true → One k
    → length (flat_map (λ ps. entry ps k) (laid_whens s c at w k)) ≡ length (choices_of c)
unfolding laid_whens are_alternatives choices_of
whens_count s (typed.More a rest) at w k looped h one =
    let first : is_formed_alternative looped a ≡ true = and_first (is_formed_alternative looped a) _ h in
    let ps : List NamedPoint = laid_when s a (0 ∷ at) w k in
    let qs : List (List NamedPoint) = laid_whens s rest (1 ∷ at) w k in
    one_before (entry ps k) (flat_map (λ ps. entry ps k) qs) (length (choices_of rest)) (entry_one ps k one)
    (whens_count s rest (1 ∷ at) w k looped (and_second (is_formed_alternative looped a) _ h) one)
    ∙ sym (choices_more a rest looped first)
whens_count s _ at w k looped h one = refl

-- Within a loop there is one point that an exit leads to.
abbrev Leaves : Bool → Around → Type 0
Leaves looped w = looped ≡ true → One w.leave

mutual
  unfolding laid is_formed are_alternatives is_formed_alternative

  pub laid_counted : (s : Setting) (c : TypedCode) (at : Place) (w : Around) (k : List PointName) (looped : Bool) → is_formed looped c ≡ true → Leaves looped w → One k
      → Counted (laid s c at w k)
  laid_counted s (typed.More a rest) at w k looped h leaves one =
      let behind : List NamedPoint = laid s rest (1 ∷ at) (with_scope (declared a) w) k in
      both (laid s a (0 ∷ at) w (entry behind k)) behind
      (laid_counted s a (0 ∷ at) w (entry behind k) looped (and_first (is_formed looped a) _ h) leaves (entry_one behind k one))
      (laid_counted s rest (1 ∷ at) (with_scope (declared a) w) k looped (and_second (is_formed looped a) _ h) leaves one)
  laid_counted s (Declare p x v) at w k looped h leaves one = uses_counted s at p v (instruction.Declare x v) w k one
  laid_counted s (Assign p target e) at w k looped h leaves one =
      pair_counted s at (1 ∷ at) (0 ∷ at) e target w.scope (with_held s e (1 ∷ at) w.scope)
      (point (row_at at 0) p (instruction.Assign target e) (with_held s target (0 ∷ at) (with_held s e (1 ∷ at) w.scope)) k) one
  laid_counted s (Skip p) at w k looped h leaves one = (one, tt)
  laid_counted s (typed.Call p sub actuals) at w k looped h leaves one = uses_counted s at p actuals (instruction.Call sub actuals None) w k one
  laid_counted s (Output p text line) at w k looped h leaves one = uses_counted s at p text (instruction.Output text line) w k one
  laid_counted s (Input p target) at w k looped h leaves one = uses_counted s at p target (instruction.Input target) w k one
  laid_counted s (Release p m) at w k looped h leaves one = uses_counted s at p m (instruction.Release m) w k one
  laid_counted s (If branches otherwise) at w k looped h leaves one =
      let behind : List NamedPoint = laid s otherwise (1 ∷ at) w k in
      both (laid_branches s branches (0 ∷ at) w k (entry behind k)) behind
      (branches_counted s branches (0 ∷ at) w k (entry behind k) looped (and_first (is_formed looped branches) _ h) leaves one (entry_one behind k one))
      (laid_counted s otherwise (1 ∷ at) w k looped (and_second (is_formed looped branches) _ h) leaves one)
  laid_counted s (Case p e whens) at w k looped h leaves one =
      let behind : List (List NamedPoint) = laid_whens s whens (1 ∷ at) w k in
      both (uses s at p e (instruction.Choose e (choices_of whens)) w (flat_map (λ ps. entry ps k) behind)) (flat_map (λ ps. ps) behind)
      (uses_counted s at p e (instruction.Choose e (choices_of whens)) w (flat_map (λ ps. entry ps k) behind) (whens_count s whens (1 ∷ at) w k looped h one))
      (whens_counted s whens (1 ∷ at) w k looped h leaves one)
  laid_counted s (Loop stmts) at w k looped h leaves one =
      let inner : List NamedPoint = laid s stmts (0 ∷ at) (within_loop k w) k in
      laid_counted s stmts (0 ∷ at) (within_loop k w) (entry inner k) true h (λ any. one) (entry_one inner k one)
  laid_counted s (While p e stmts) at w k looped h leaves one =
      let before : List NamedPoint = prep s e (0 ∷ at) w.scope (row_at at 0 ∷ []) in
      let turn : List PointName = entry before (row_at at 0 ∷ []) in
      let inner : List NamedPoint = laid s stmts (1 ∷ at) (within_loop k w) turn in
      let again : One turn = entry_one before (row_at at 0 ∷ []) refl in
      both (uses s at p e (instruction.Test e) w (entry inner turn ++ k)) inner
      (uses_counted s at p e (instruction.Test e) w (entry inner turn ++ k) (two (entry inner turn) k (entry_one inner turn again) one))
      (laid_counted s stmts (1 ∷ at) (within_loop k w) turn true h (λ any. one) again)
  laid_counted s (For p x reversed low high stmts) at w k looped h leaves one =
      let next : List PointName = row_at at 1 ∷ [] in
      let inner : List NamedPoint = laid s stmts (2 ∷ at) (with_scope (x ∷ []) (within_loop k w)) next in
      both (uses_both s at p low high (instruction.Start x reversed low high) w next) _
      (pair_counted s at (0 ∷ at) (1 ∷ at) low high w.scope (with_held s low (0 ∷ at) w.scope)
      (point (row_at at 0) p (instruction.Start x reversed low high) (with_held s high (1 ∷ at) (with_held s low (0 ∷ at) w.scope)) next) refl) (
        two (entry inner next) k (entry_one inner next refl) one,
        laid_counted s stmts (2 ∷ at) (with_scope (x ∷ []) (within_loop k w)) next true h (λ any. one) refl,
      )
  laid_counted s (Exit p e) at w k looped h leaves one =
      let out : List NamedPoint = ends at 1 p w.in_loop w.scope w.leave in
      both (uses s at p e (instruction.LeaveLoop e) w (entry out w.leave ++ unless_empty e k)) out
      (uses_counted s at p e (instruction.LeaveLoop e) w (entry out w.leave ++ unless_empty e k)
      (leave_count e (entry out w.leave) k (entry_one out w.leave (leaves h)) one))
      (ends_counted at 1 p w.in_loop w.scope w.leave (leaves h))
  laid_counted s (Return p v) at w k looped h leaves one =
      let finish : PointName = row_at at (suc (length w.in_all)) in
      both (uses s at p v (instruction.Hold v) w (entry (closing at 1 p w) [])) (closing at 1 p w)
      (uses_counted s at p v (instruction.Hold v) w (entry (closing at 1 p w) [])
      (closing_one (ends at 1 p w.in_all w.scope (finish ∷ [])) (point finish p Finish w.formals [])))
      (last_counted at 1 p p w.in_all w.scope w.formals finish)
  laid_counted s (Block n stmts end) at w k looped h leaves one =
      let out : List NamedPoint = ends at 0 end (ending s stmts) (reverse (declared stmts) ++ w.scope) k in
      both (laid s stmts (0 ∷ at) (within_block (ending s stmts) w) (entry out k)) out
      (laid_counted s stmts (0 ∷ at) (within_block (ending s stmts) w) (entry out k) looped h leaves (entry_one out k one))
      (ends_counted at 0 end (ending s stmts) (reverse (declared stmts) ++ w.scope) k one)
  laid_counted s _ at w k looped h leaves one = tt

  branches_counted : (s : Setting) (c : TypedCode) (at : Place) (w : Around) (k otherwise : List PointName) (looped : Bool) → is_formed looped c ≡ true → Leaves looped w
      → One k → One otherwise → Counted (laid_branches s c at w k otherwise)
  branches_counted s (typed.More a rest) at w k otherwise looped h leaves one other =
      let behind : List NamedPoint = laid_branches s rest (1 ∷ at) w k otherwise in
      both (laid_branch s a (0 ∷ at) w k (entry behind otherwise)) behind
      (branch_counted s a (0 ∷ at) w k (entry behind otherwise) looped (and_first (is_formed looped a) _ h) leaves one (entry_one behind otherwise other))
      (branches_counted s rest (1 ∷ at) w k otherwise looped (and_second (is_formed looped a) _ h) leaves one other)
  branches_counted s _ at w k otherwise looped h leaves one other = tt

  branch_counted : (s : Setting) (c : TypedCode) (at : Place) (w : Around) (k otherwise : List PointName) (looped : Bool) → is_formed looped c ≡ true → Leaves looped w
      → One k → One otherwise → Counted (laid_branch s c at w k otherwise)
  branch_counted s (Branch p e stmts) at w k otherwise looped h leaves one other =
      let inner : List NamedPoint = laid s stmts (1 ∷ at) w k in
      both (uses s at p e (instruction.Test e) w (entry inner k ++ otherwise)) inner
      (uses_counted s at p e (instruction.Test e) w (entry inner k ++ otherwise) (two (entry inner k) otherwise (entry_one inner k one) other))
      (laid_counted s stmts (1 ∷ at) w k looped h leaves one)
  branch_counted s _ at w k otherwise looped h leaves one other = tt

  whens_counted : (s : Setting) (c : TypedCode) (at : Place) (w : Around) (k : List PointName) (looped : Bool) → are_alternatives looped c ≡ true → Leaves looped w → One k
      → Counted (flat_map (λ ps. ps) (laid_whens s c at w k))
  whens_counted s (typed.More a rest) at w k looped h leaves one =
      both (laid_when s a (0 ∷ at) w k) (flat_map (λ ps. ps) (laid_whens s rest (1 ∷ at) w k))
      (when_counted s a (0 ∷ at) w k looped (and_first (is_formed_alternative looped a) _ h) leaves one)
      (whens_counted s rest (1 ∷ at) w k looped (and_second (is_formed_alternative looped a) _ h) leaves one)
  whens_counted s _ at w k looped h leaves one = tt

  when_counted : (s : Setting) (c : TypedCode) (at : Place) (w : Around) (k : List PointName) (looped : Bool) → is_formed_alternative looped c ≡ true → Leaves looped w → One k
      → Counted (laid_when s c at w k)
  when_counted s (When choices stmts) at w k looped h leaves one = laid_counted s stmts (1 ∷ at) w k looped h leaves one
  when_counted s _ at w k looped h leaves one = tt

-- ---- subprograms

-- The end of a body has a point.
abbrev Ends : List NamedPoint → Type 0
Ends ps = Counted ps × One (entry ps [])

body_counted : (s : Setting) (sub : TypedSub) (end : List NamedPoint) → is_formed false sub.body ≡ true → Ends end → Counted (body_points s sub end)
body_counted s sub end h last =
    both (laid s sub.body (0 ∷ []) (around_body s sub) (entry end [])) end
    (laid_counted s sub.body (0 ∷ []) (around_body s sub) (entry end []) false h (λ e. absurd (false≢true e)) last.1) last.0

end_counted : (s : Setting) (sub : TypedSub) (b : Bool) → Ends (if b then function_end sub else procedure_end s sub)
end_counted s sub true = ((refl, tt), refl)
end_counted s sub false =
    let finish : PointName = row_at [] (length (ending s sub.body)) in (
      last_counted [] 0 sub.end sub.end (ending s sub.body) (scope_at_end sub) (reverse sub.formals) finish,
      closing_one (ends [] 0 sub.end (ending s sub.body) (scope_at_end sub) (finish ∷ [])) (point finish sub.end Finish (reverse sub.formals) []),
    )

pub sub_counted : (s : Setting) (sub : TypedSub) → is_formed false sub.body ≡ true → Counted (sub_points s sub)
sub_counted s sub h =
    body_counted s sub (if is_some sub.result then function_end sub else procedure_end s sub) h (end_counted s sub (is_some sub.result))

-- and there is a first point
pub has_first : (s : Setting) (sub : TypedSub) → (p : NamedPoint) × (ps : List NamedPoint) × (sub_points s sub ≡ p ∷ ps)
has_first s sub = found (laid s sub.body (0 ∷ []) (around_body s sub) _) _ (end_counted s sub (is_some sub.result)).1
  where
    found : (ps qs : List NamedPoint) → One (entry qs []) → (p : NamedPoint) × (rest : List NamedPoint) × (ps ++ qs ≡ p ∷ rest)
    found [] [] one = absurd (never one)
      where
        never : ◌≡◌ {A = ℕ} 0 1 → ⊥
        never e = cc
    found [] (q ∷ qs) one = (q, qs, refl)
    found (p ∷ ps) qs one = (p, ps ++ qs, refl)
