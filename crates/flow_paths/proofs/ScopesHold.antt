-- At each successor of a point that is in scope which is in scope after the point.
use Rattle.std.proofs.Common.{◌≡◌, ◌⊎◌, ℕ, zero, suc, ◌+◌, List, [], ◌∷◌, ◌++◌, length, map, refl, sym, ap, ◌∙◌, subst, arith, inl, inr}
use Rattle.std.specs.Prelude.{Bool, true, false, not, ◌&&◌, ◌||◌, Option, Some, None, flat_map, drop, reverse, is_some, if◌then◌else◌}
use Rattle.std.proofs.lemmas.Grind.{common_steps}
use Rattle.typed_tree.specs.spark_base.Lists.{Has}
use Rattle.typed_tree.proofs.spark_base.Lists.{Has-append_left, Has-append_right, Has-append_cases}
use Rattle.typed_tree.specs.spark_base.declared.position.Pos.{Pos}
use Rattle.typed_tree.specs.Trees.{TypedTree, TypedCode, Declare, Assign, Skip, Output, Input, Release, If, Branch, Case, When, Loop, While, For, Exit, Return, Block, More}
use Rattle.typed_tree.specs.Trees as typed
use Rattle.flow_paths.specs.Instructions.{Instruction, Finish}
use Rattle.flow_paths.specs.Instructions as instruction
use Rattle.flow_paths.specs.Objects.{Typing}
use Rattle.flow_paths.specs.Names.{is_empty}
use Rattle.flow_paths.specs.Points.{Place, PointName, row_at, NamedPoint, point, entry}
use Rattle.flow_paths.specs.Prep.{Setting, with_held, prep}
use Rattle.flow_paths.specs.Layout.{Around, within_loop, within_block, with_scope, declared, ending, ends, closing, uses, uses_both, unless_empty, choices_of, laid, laid_branches, laid_branch, laid_whens, laid_when}
use Rattle.flow_paths.specs.Laid.{around_body, scope_at_end, procedure_end, function_end, body_points, sub_points, elaboration_points}
use Rattle.typed_tree.specs.Programs.{TypedSub}
use Rattle.flow_paths.specs.Scopes.{Leads, Arrives, ScopesHold, leaves_silently, is_declaration, is_undeclaring, is_settled}
use Rattle.flow_paths.proofs.ScopesFlow.{leads_same, leads_on, Starts, starts_to, starts_both, prep_starts, Into, Own, Goes, Slack, into_slack, into_both, into_one, into_entry, into_is, own_left, own_right, goes_both, goes_more, goes_one, goes_none}
use Rattle.flow_paths.proofs.Unwinding.{Unwinds, Loose, unwinds_silent, ends_enter, ends_go}
use Rattle.flow_paths.proofs.StatementScopes.{and_first, and_second, after, after_undeclaring, after_more, uses_go, uses_start, both_go, ended, ended_alone, leads_loose, laid_starts, branches_start, branch_starts}
use Rattle.flow_paths.proofs.Entries.{entry_append, entry_same, same_entry}

-- ---- what stands around a statement

unwinds_more : (s : Typing) (F G : List ℕ → Type 0) → ((e : List ℕ) → F e → G e) → (xs scope : List ℕ) → Unwinds s F xs scope → Unwinds s G xs scope
unwinds_more s F G f [] scope h = f scope h
unwinds_more s F G f (x ∷ xs) scope h = (h.0, h.1, h.2, h.3, unwinds_more s F G f xs h.0 h.4)

-- An exit ends scopes up to what follows the loop, a return up to the formals.
abbrev pub Stands : Typing → (PointName → List ℕ → Type 0) → Around → List ℕ → Type 0
Stands s T w scope = Unwinds s (Into T w.leave) w.in_loop scope × Unwinds s (λ e. Leads s e w.formals) w.in_all scope

into_loose : (s : Typing) (T : PointName → List ℕ → Type 0) → Slack s T → (k : List PointName) → Loose s (Into T k)
into_loose s T slack k a b h go = into_slack s T slack k a b h go

-- ---- the ends of scopes and a last point

module _ (s : Typing) (T : PointName → List ℕ → Type 0) (slack : Slack s T) (at : Place) (r : ℕ) (p q : Pos) (xs scope formals : List ℕ)
    (last : PointName) (i : Instruction)
    (own : Own T (ends at r p xs scope (last ∷ []) ++ point last q i formals [] ∷ []))
    (ways : Unwinds s (λ e. Leads s e formals) xs scope) where
  reaches_last : T last formals
  reaches_last =
      own (point last q i formals []) (Has-append_right (ends at r p xs scope (last ∷ [])) (point last q i formals [] ∷ []) (point last q i formals []) (inl refl))

  to_last : Unwinds s (Into T (last ∷ [])) xs scope
  to_last =
      unwinds_more s (λ e. Leads s e formals) (Into T (last ∷ [])) (λ e leads. into_one s T slack last e (slack last e formals leads reaches_last)) xs scope ways

  own_ends : Own T (ends at r p xs scope (last ∷ []))
  own_ends = own_left s T slack (ends at r p xs scope (last ∷ [])) (point last q i formals [] ∷ []) own

  last_enter : Into T (entry (ends at r p xs scope (last ∷ []) ++ point last q i formals [] ∷ []) []) scope
  last_enter =
      subst (λ ks. Into T ks scope) (sym (entry_append (ends at r p xs scope (last ∷ [])) (point last q i formals [] ∷ []) []))
      (ends_enter s T slack at r p xs scope (last ∷ []) own_ends to_last)

  last_go : Goes T (ends at r p xs scope (last ∷ []) ++ point last q i formals [] ∷ [])
  last_go =
      goes_both s T slack (ends at r p xs scope (last ∷ [])) (point last q i formals [] ∷ []) (ends_go s T slack at r p xs scope (last ∷ []) own_ends to_last)
      (goes_one s T slack (point last q i formals []) (λ n none. elim none [ ]))

or_second : (a b : Bool) → (a || b) ≡ true → a ≡ false → b ≡ true
or_second a b h none = grind (arith, h, none)

unless_into : (T : PointName → List ℕ → Type 0) (b : Bool) (k : List PointName) (scope : List ℕ) → Into T k scope → Into T (if b then [] else k) scope
unless_into T true k scope go n none = elim none [ ]
unless_into T false k scope go n has = go n has

mutual
  unfolding laid is_settled is_undeclaring declared

  laid_go : (s : Setting) (T : PointName → List ℕ → Type 0) (slack : Slack s.typing T) (c : TypedCode) (at : Place) (w : Around) (k : List PointName)
      → is_settled s.typing c ≡ true → (is_declaration c ≡ false → Stands s.typing T w (after c w.scope))
      → Own T (laid s c at w k) → Into T k (after c w.scope) → Goes T (laid s c at w k)
  laid_go s T slack (More a rest) at w k h st own go =
      let first : is_settled s.typing a ≡ true = and_first (is_settled s.typing a) _ h in
      let more : (is_settled s.typing rest && (is_declaration a || is_undeclaring rest)) ≡ true = and_second (is_settled s.typing a) _ h in
      let second : is_settled s.typing rest ≡ true = and_first (is_settled s.typing rest) _ more in
      let v : Around = with_scope (declared a) w in
      let behind : List NamedPoint = laid s rest (1 ∷ at) v k in
      let ps : List NamedPoint = laid s a (0 ∷ at) w (entry behind k) in
      let is : after (More a rest) w.scope ≡ after rest (after a w.scope) = after_more a rest w.scope in
      let stands : Stands s.typing T w (after rest (after a w.scope)) = subst (λ sc. Stands s.typing T w sc) is (st refl) in
      let on : Into T k (after rest (after a w.scope)) = into_is s.typing T slack k _ _ (sym is) go in
      let own_behind : Own T behind = own_right s.typing T slack ps behind own in
      let start : Starts s.typing behind (after a w.scope) (after rest (after a w.scope)) = laid_starts s rest (1 ∷ at) v k second in
      let stands_a : is_declaration a ≡ false → Stands s.typing T w (after a w.scope) =
      (λ none. subst (λ sc. Stands s.typing T w sc)
      (after_undeclaring rest (after a w.scope) (or_second (is_declaration a) (is_undeclaring rest) (and_second (is_settled s.typing rest) _ more) none)) stands) in
      goes_both s.typing T slack ps behind
      (laid_go s T slack a (0 ∷ at) w (entry behind k) first stands_a (own_left s.typing T slack ps behind own)
      (into_entry s.typing T slack behind k (after a w.scope) (after rest (after a w.scope)) own_behind start on))
      (laid_go s T slack rest (1 ∷ at) v k second (λ none. stands) own_behind on)
  laid_go s T slack (Declare p x v) at w k h st own go = uses_go s T slack at p v (instruction.Declare x v) w k refl own go
  laid_go s T slack (Assign p target e) at w k h st own go =
      both_go s T slack e target (1 ∷ at) (0 ∷ at) (row_at at 0) w.scope p (instruction.Assign target e) k refl own go
  laid_go s T slack (Skip p) at w k h st own go = goes_one s.typing T slack (point (row_at at 0) p instruction.Skip w.scope k) go
  laid_go s T slack (typed.Call p sub actuals) at w k h st own go = uses_go s T slack at p actuals (instruction.Call sub actuals None) w k refl own go
  laid_go s T slack (Output p text line) at w k h st own go = uses_go s T slack at p text (instruction.Output text line) w k refl own go
  laid_go s T slack (Input p target) at w k h st own go = uses_go s T slack at p target (instruction.Input target) w k refl own go
  laid_go s T slack (Release p m) at w k h st own go = uses_go s T slack at p m (instruction.Release m) w k refl own go
  laid_go s T slack (If branches otherwise) at w k h st own go =
      let first : is_settled s.typing branches ≡ true = and_first (is_settled s.typing branches) _ h in
      let more : (is_settled s.typing otherwise && is_undeclaring otherwise) ≡ true = and_second (is_settled s.typing branches) _ h in
      let none : after otherwise w.scope ≡ w.scope = after_undeclaring otherwise w.scope (and_second (is_settled s.typing otherwise) _ more) in
      let settled : is_settled s.typing otherwise ≡ true = and_first (is_settled s.typing otherwise) _ more in
      let behind : List NamedPoint = laid s otherwise (1 ∷ at) w k in
      let ps : List NamedPoint = laid_branches s branches (0 ∷ at) w k (entry behind k) in
      let own_behind : Own T behind = own_right s.typing T slack ps behind own in
      let on : Into T k (after otherwise w.scope) = into_is s.typing T slack k _ _ none go in
      goes_both s.typing T slack ps behind
      (branches_go s T slack branches (0 ∷ at) w k (entry behind k) first (st refl) (own_left s.typing T slack ps behind own) go
      (into_entry s.typing T slack behind k w.scope (after otherwise w.scope) own_behind (laid_starts s otherwise (1 ∷ at) w k settled) on))
      (laid_go s T slack otherwise (1 ∷ at) w k settled (λ any. subst (λ sc. Stands s.typing T w sc) (sym none) (st refl)) own_behind on)
  laid_go s T slack (Case p e whens) at w k h st own go =
      let lists : List (List NamedPoint) = laid_whens s whens (1 ∷ at) w k in
      let qs : List NamedPoint = flat_map (λ ps. ps) lists in
      let ps : List NamedPoint = uses s at p e (instruction.Choose e (choices_of whens)) w (flat_map (λ ps. entry ps k) lists) in
      let own_qs : Own T qs = own_right s.typing T slack ps qs own in
      goes_both s.typing T slack ps qs
      (uses_go s T slack at p e (instruction.Choose e (choices_of whens)) w (flat_map (λ ps. entry ps k) lists) refl (own_left s.typing T slack ps qs own)
      (whens_enter s T slack whens (1 ∷ at) w k h own_qs go))
      (whens_go s T slack whens (1 ∷ at) w k h (st refl) own_qs go)
  laid_go s T slack (Loop stmts) at w k h st own go =
      let settled : is_settled s.typing stmts ≡ true = and_first (is_settled s.typing stmts) _ h in
      let none : after stmts w.scope ≡ w.scope = after_undeclaring stmts w.scope (and_second (is_settled s.typing stmts) _ h) in
      let v : Around = within_loop k w in
      let again : List PointName = entry (laid s stmts (0 ∷ at) v k) k in
      let inner : List NamedPoint = laid s stmts (0 ∷ at) v again in
      let same : again ≡ entry inner k = entry_same (laid s stmts (0 ∷ at) v k) inner (same_entry s stmts (0 ∷ at) v k k k again) k in
      let back : Into T again w.scope =
      subst (λ ks. Into T ks w.scope) (sym same)
      (into_entry s.typing T slack inner k w.scope (after stmts w.scope) own (laid_starts s stmts (0 ∷ at) v again settled) (into_is s.typing T slack k _ _ none go)) in
      laid_go s T slack stmts (0 ∷ at) v again settled (λ any. subst (λ sc. Stands s.typing T v sc) (sym none) (go, (st refl).1)) own (into_is s.typing T slack again _ _ none back)
  laid_go s T slack (While p e stmts) at w k h st own go =
      let settled : is_settled s.typing stmts ≡ true = and_first (is_settled s.typing stmts) _ h in
      let none : after stmts w.scope ≡ w.scope = after_undeclaring stmts w.scope (and_second (is_settled s.typing stmts) _ h) in
      let v : Around = within_loop k w in
      let before : List NamedPoint = prep s e (0 ∷ at) w.scope (row_at at 0 ∷ []) in
      let turn : List PointName = entry before (row_at at 0 ∷ []) in
      let inner : List NamedPoint = laid s stmts (1 ∷ at) v turn in
      let test : NamedPoint = point (row_at at 0) p (instruction.Test e) (with_held s e (0 ∷ at) w.scope) (entry inner turn ++ k) in
      let own_uses : Own T (before ++ test ∷ []) = own_left s.typing T slack (before ++ test ∷ []) inner own in
      let own_inner : Own T inner = own_right s.typing T slack (before ++ test ∷ []) inner own in
      let back : Into T turn w.scope =
      into_entry s.typing T slack before (row_at at 0 ∷ []) w.scope (with_held s e (0 ∷ at) w.scope) (own_left s.typing T slack before (test ∷ []) own_uses)
      (prep_starts s e (0 ∷ at) w.scope (row_at at 0 ∷ []))
      (into_one s.typing T slack (row_at at 0) (with_held s e (0 ∷ at) w.scope) (own_uses test (Has-append_right before (test ∷ []) test (inl refl)))) in
      let on : Into T turn (after stmts w.scope) = into_is s.typing T slack turn _ _ none back in
      goes_both s.typing T slack (before ++ test ∷ []) inner
      (uses_go s T slack at p e (instruction.Test e) w (entry inner turn ++ k) refl own_uses
      (into_both s.typing T slack (entry inner turn) k w.scope
      (into_entry s.typing T slack inner turn w.scope (after stmts w.scope) own_inner (laid_starts s stmts (1 ∷ at) v turn settled) on) go))
      (laid_go s T slack stmts (1 ∷ at) v turn settled (λ any. subst (λ sc. Stands s.typing T v sc) (sym none) (go, (st refl).1)) own_inner on)
  laid_go s T slack (For p x reversed low high stmts) at w k h st own go =
      let silent : leaves_silently s.typing x ≡ true = and_first (leaves_silently s.typing x) _ h in
      let more : (is_settled s.typing stmts && is_undeclaring stmts) ≡ true = and_second (leaves_silently s.typing x) _ h in
      let settled : is_settled s.typing stmts ≡ true = and_first (is_settled s.typing stmts) _ more in
      let none : after stmts (x ∷ w.scope) ≡ x ∷ w.scope = after_undeclaring stmts (x ∷ w.scope) (and_second (is_settled s.typing stmts) _ more) in
      let v : Around = with_scope (x ∷ []) (within_loop k w) in
      let next : PointName = row_at at 1 in
      let inner : List NamedPoint = laid s stmts (2 ∷ at) v (next ∷ []) in
      let turn : NamedPoint = point next p (instruction.Next x reversed low high) (x ∷ w.scope) (entry inner (next ∷ []) ++ k) in
      let ps : List NamedPoint = uses_both s at p low high (instruction.Start x reversed low high) w (next ∷ []) in
      let own_rest : Own T (turn ∷ inner) = own_right s.typing T slack ps (turn ∷ inner) own in
      let own_inner : Own T inner = (λ q has. own_rest q (inr has)) in
      let back : Into T (next ∷ []) (x ∷ w.scope) = into_one s.typing T slack next (x ∷ w.scope) (own_rest turn (inl refl)) in
      let on : Into T (next ∷ []) (after stmts (x ∷ w.scope)) = into_is s.typing T slack (next ∷ []) _ _ none back in
      let out : Into T k (x ∷ w.scope) = into_slack s.typing T slack k (x ∷ w.scope) w.scope (x ∷ [], (silent, tt), refl) go in
      let stands : Stands s.typing T v (x ∷ w.scope) =
      (out, unwinds_silent s.typing (λ e. Leads s.typing e w.formals) (leads_loose s.typing w.formals) x w.in_all w.scope silent (st refl).1) in
      goes_both s.typing T slack ps (turn ∷ inner)
      (both_go s T slack low high (0 ∷ at) (1 ∷ at) (row_at at 0) w.scope p (instruction.Start x reversed low high) (next ∷ []) refl
      (own_left s.typing T slack ps (turn ∷ inner) own) back)
      (goes_more s.typing T slack turn inner
      (into_both s.typing T slack (entry inner (next ∷ [])) k (x ∷ w.scope)
      (into_entry s.typing T slack inner (next ∷ []) (x ∷ w.scope) (after stmts (x ∷ w.scope)) own_inner (laid_starts s stmts (2 ∷ at) v (next ∷ []) settled) on) out)
      (laid_go s T slack stmts (2 ∷ at) v (next ∷ []) settled (λ any. subst (λ sc. Stands s.typing T v sc) (sym none) stands) own_inner on))
  laid_go s T slack (Exit p e) at w k h st own go =
      let out : List NamedPoint = ends at 1 p w.in_loop w.scope w.leave in
      let ps : List NamedPoint = uses s at p e (instruction.LeaveLoop e) w (entry out w.leave ++ unless_empty e k) in
      let own_out : Own T out = own_right s.typing T slack ps out own in
      goes_both s.typing T slack ps out
      (uses_go s T slack at p e (instruction.LeaveLoop e) w (entry out w.leave ++ unless_empty e k) refl (own_left s.typing T slack ps out own)
      (into_both s.typing T slack (entry out w.leave) (unless_empty e k) w.scope
      (ends_enter s.typing T slack at 1 p w.in_loop w.scope w.leave own_out (st refl).0) (unless_into T (is_empty e) k w.scope go)))
      (ends_go s.typing T slack at 1 p w.in_loop w.scope w.leave own_out (st refl).0)
  laid_go s T slack (Return p v) at w k h st own go =
      let out : List NamedPoint = closing at 1 p w in
      let ps : List NamedPoint = uses s at p v (instruction.Hold v) w (entry out []) in
      let own_out : Own T out = own_right s.typing T slack ps out own in
      goes_both s.typing T slack ps out
      (uses_go s T slack at p v (instruction.Hold v) w (entry out []) refl (own_left s.typing T slack ps out own)
      (last_enter s.typing T slack at 1 p p w.in_all w.scope w.formals (row_at at (suc (length w.in_all))) Finish own_out (st refl).1))
      (last_go s.typing T slack at 1 p p w.in_all w.scope w.formals (row_at at (suc (length w.in_all))) Finish own_out (st refl).1)
  laid_go s T slack (Block n stmts end) at w k h st own go =
      let v : Around = within_block (ending s stmts) w in
      let out : List NamedPoint = ends at 0 end (ending s stmts) (after stmts w.scope) k in
      let ps : List NamedPoint = laid s stmts (0 ∷ at) v (entry out k) in
      let own_out : Own T out = own_right s.typing T slack ps out own in
      let ways : Unwinds s.typing (Into T k) (ending s stmts) (after stmts w.scope) =
      ended_alone s (Into T k) (into_loose s.typing T slack k) stmts w.scope h go in
      let stands : Stands s.typing T v (after stmts w.scope) = (
        ended s (Into T w.leave) (into_loose s.typing T slack w.leave) stmts w.in_loop w.scope h (st refl).0,
        ended s (λ e. Leads s.typing e w.formals) (leads_loose s.typing w.formals) stmts w.in_all w.scope h (st refl).1,
      ) in
      goes_both s.typing T slack ps out
      (laid_go s T slack stmts (0 ∷ at) v (entry out k) h (λ any. stands) (own_left s.typing T slack ps out own)
      (ends_enter s.typing T slack at 0 end (ending s stmts) (after stmts w.scope) k own_out ways))
      (ends_go s.typing T slack at 0 end (ending s stmts) (after stmts w.scope) k own_out ways)
  laid_go s T slack _ at w k h st own go = goes_none s.typing T slack

  branches_go : (s : Setting) (T : PointName → List ℕ → Type 0) (slack : Slack s.typing T) (c : TypedCode) (at : Place) (w : Around) (k otherwise : List PointName)
      → is_settled s.typing c ≡ true → Stands s.typing T w w.scope → Own T (laid_branches s c at w k otherwise) → Into T k w.scope → Into T otherwise w.scope
      → Goes T (laid_branches s c at w k otherwise)
  branches_go s T slack (More a rest) at w k otherwise h st own go other =
      let behind : List NamedPoint = laid_branches s rest (1 ∷ at) w k otherwise in
      let ps : List NamedPoint = laid_branch s a (0 ∷ at) w k (entry behind otherwise) in
      let own_behind : Own T behind = own_right s.typing T slack ps behind own in
      goes_both s.typing T slack ps behind
      (branch_go s T slack a (0 ∷ at) w k (entry behind otherwise) (and_first (is_settled s.typing a) _ h) st (own_left s.typing T slack ps behind own) go
      (into_entry s.typing T slack behind otherwise w.scope w.scope own_behind (branches_start s rest (1 ∷ at) w k otherwise) other))
      (branches_go s T slack rest (1 ∷ at) w k otherwise (and_first (is_settled s.typing rest) _ (and_second (is_settled s.typing a) _ h)) st own_behind go other)
  branches_go s T slack _ at w k otherwise h st own go other = goes_none s.typing T slack

  branch_go : (s : Setting) (T : PointName → List ℕ → Type 0) (slack : Slack s.typing T) (c : TypedCode) (at : Place) (w : Around) (k otherwise : List PointName)
      → is_settled s.typing c ≡ true → Stands s.typing T w w.scope → Own T (laid_branch s c at w k otherwise) → Into T k w.scope → Into T otherwise w.scope
      → Goes T (laid_branch s c at w k otherwise)
  branch_go s T slack (Branch p e stmts) at w k otherwise h st own go other =
      let settled : is_settled s.typing stmts ≡ true = and_first (is_settled s.typing stmts) _ h in
      let none : after stmts w.scope ≡ w.scope = after_undeclaring stmts w.scope (and_second (is_settled s.typing stmts) _ h) in
      let inner : List NamedPoint = laid s stmts (1 ∷ at) w k in
      let ps : List NamedPoint = uses s at p e (instruction.Test e) w (entry inner k ++ otherwise) in
      let own_inner : Own T inner = own_right s.typing T slack ps inner own in
      let on : Into T k (after stmts w.scope) = into_is s.typing T slack k _ _ none go in
      goes_both s.typing T slack ps inner
      (uses_go s T slack at p e (instruction.Test e) w (entry inner k ++ otherwise) refl (own_left s.typing T slack ps inner own)
      (into_both s.typing T slack (entry inner k) otherwise w.scope
      (into_entry s.typing T slack inner k w.scope (after stmts w.scope) own_inner (laid_starts s stmts (1 ∷ at) w k settled) on) other))
      (laid_go s T slack stmts (1 ∷ at) w k settled (λ any. subst (λ sc. Stands s.typing T w sc) (sym none) st) own_inner on)
  branch_go s T slack _ at w k otherwise h st own go other = goes_none s.typing T slack

  whens_go : (s : Setting) (T : PointName → List ℕ → Type 0) (slack : Slack s.typing T) (c : TypedCode) (at : Place) (w : Around) (k : List PointName)
      → is_settled s.typing c ≡ true → Stands s.typing T w w.scope → Own T (flat_map (λ ps. ps) (laid_whens s c at w k)) → Into T k w.scope
      → Goes T (flat_map (λ ps. ps) (laid_whens s c at w k))
  whens_go s T slack (More a rest) at w k h st own go =
      let ps : List NamedPoint = laid_when s a (0 ∷ at) w k in
      let qs : List NamedPoint = flat_map (λ ps. ps) (laid_whens s rest (1 ∷ at) w k) in
      goes_both s.typing T slack ps qs
      (when_go s T slack a (0 ∷ at) w k (and_first (is_settled s.typing a) _ h) st (own_left s.typing T slack ps qs own) go)
      (whens_go s T slack rest (1 ∷ at) w k (and_first (is_settled s.typing rest) _ (and_second (is_settled s.typing a) _ h)) st (own_right s.typing T slack ps qs own) go)
  whens_go s T slack _ at w k h st own go = goes_none s.typing T slack

  when_go : (s : Setting) (T : PointName → List ℕ → Type 0) (slack : Slack s.typing T) (c : TypedCode) (at : Place) (w : Around) (k : List PointName)
      → is_settled s.typing c ≡ true → Stands s.typing T w w.scope → Own T (laid_when s c at w k) → Into T k w.scope → Goes T (laid_when s c at w k)
  when_go s T slack (When choices stmts) at w k h st own go =
      let none : after stmts w.scope ≡ w.scope = after_undeclaring stmts w.scope (and_second (is_settled s.typing stmts) _ h) in
      laid_go s T slack stmts (1 ∷ at) w k (and_first (is_settled s.typing stmts) _ h) (λ any. subst (λ sc. Stands s.typing T w sc) (sym none) st) own
      (into_is s.typing T slack k _ _ none go)
  when_go s T slack _ at w k h st own go = goes_none s.typing T slack

  whens_enter : (s : Setting) (T : PointName → List ℕ → Type 0) (slack : Slack s.typing T) (c : TypedCode) (at : Place) (w : Around) (k : List PointName)
      → is_settled s.typing c ≡ true → Own T (flat_map (λ ps. ps) (laid_whens s c at w k)) → Into T k w.scope
      → Into T (flat_map (λ ps. entry ps k) (laid_whens s c at w k)) w.scope
  whens_enter s T slack (More a rest) at w k h own go =
      let ps : List NamedPoint = laid_when s a (0 ∷ at) w k in
      let qs : List NamedPoint = flat_map (λ ps. ps) (laid_whens s rest (1 ∷ at) w k) in
      into_both s.typing T slack (entry ps k) (flat_map (λ ps. entry ps k) (laid_whens s rest (1 ∷ at) w k)) w.scope
      (when_enter s T slack a (0 ∷ at) w k (and_first (is_settled s.typing a) _ h) (own_left s.typing T slack ps qs own) go)
      (whens_enter s T slack rest (1 ∷ at) w k (and_first (is_settled s.typing rest) _ (and_second (is_settled s.typing a) _ h)) (own_right s.typing T slack ps qs own) go)
  whens_enter s T slack _ at w k h own go = (λ n none. elim none [ ])

  when_enter : (s : Setting) (T : PointName → List ℕ → Type 0) (slack : Slack s.typing T) (c : TypedCode) (at : Place) (w : Around) (k : List PointName)
      → is_settled s.typing c ≡ true → Own T (laid_when s c at w k) → Into T k w.scope → Into T (entry (laid_when s c at w k) k) w.scope
  when_enter s T slack (When choices stmts) at w k h own go =
      let none : after stmts w.scope ≡ w.scope = after_undeclaring stmts w.scope (and_second (is_settled s.typing stmts) _ h) in
      into_entry s.typing T slack (laid s stmts (1 ∷ at) w k) k w.scope (after stmts w.scope) own
      (laid_starts s stmts (1 ∷ at) w k (and_first (is_settled s.typing stmts) _ h)) (into_is s.typing T slack k _ _ none go)
  when_enter s T slack _ at w k h own go = go

-- ---- subprograms

arrives_slack : (s : Typing) (points : List NamedPoint) → Slack s (Arrives s points)
arrives_slack s points n a b leads there = (there.0, there.1, there.2, leads_on s a b (there.0).scope leads there.3)

arrives_own : (s : Typing) (points : List NamedPoint) → Own (Arrives s points) points
arrives_own s points q has = (q, has, refl, leads_same s q.scope)

-- The body of a subprogram with some end.
body_holds : (s : Setting) (sub : TypedSub) (end : List NamedPoint) → is_settled s.typing sub.body ≡ true
    → ((T : PointName → List ℕ → Type 0) → Slack s.typing T → Own T end → Into T (entry end []) (scope_at_end sub) × Goes T end)
    → ScopesHold s.typing (body_points s sub end)
body_holds s sub end h ends =
    let points : List NamedPoint = body_points s sub end in
    let slack : Slack s.typing (Arrives s.typing points) = arrives_slack s.typing points in
    let w : Around = around_body s sub in
    let ps : List NamedPoint = laid s sub.body (0 ∷ []) w (entry end []) in
    let own : Own (Arrives s.typing points) points = arrives_own s.typing points in
    let own_end : Own (Arrives s.typing points) end = own_right s.typing (Arrives s.typing points) slack ps end own in
    let last : Into (Arrives s.typing points) (entry end []) (scope_at_end sub) × Goes (Arrives s.typing points) end =
    ends (Arrives s.typing points) slack own_end in
    let ways : Unwinds s.typing (λ e. Leads s.typing e w.formals) w.in_all (scope_at_end sub) =
    ended_alone s (λ e. Leads s.typing e w.formals) (leads_loose s.typing w.formals) sub.body w.scope h (leads_same s.typing w.scope) in
    goes_both s.typing (Arrives s.typing points) slack ps end
    (laid_go s (Arrives s.typing points) slack sub.body (0 ∷ []) w (entry end []) h (λ any. ((λ n none. elim none [ ]), ways))
    (own_left s.typing (Arrives s.typing points) slack ps end own) last.0)
    last.1

procedure_holds : (s : Setting) (sub : TypedSub) → is_settled s.typing sub.body ≡ true → ScopesHold s.typing (body_points s sub (procedure_end s sub))
procedure_holds s sub h =
    let finish : PointName = row_at [] (length (ending s sub.body)) in
    let ways : Unwinds s.typing (λ e. Leads s.typing e (reverse sub.formals)) (ending s sub.body) (scope_at_end sub) =
    ended_alone s (λ e. Leads s.typing e (reverse sub.formals)) (leads_loose s.typing (reverse sub.formals)) sub.body (reverse sub.formals) h
    (leads_same s.typing (reverse sub.formals)) in
    body_holds s sub (procedure_end s sub) h
    (λ T slack own. (
      last_enter s.typing T slack [] 0 sub.end sub.end (ending s sub.body) (scope_at_end sub) (reverse sub.formals) finish Finish own ways,
      last_go s.typing T slack [] 0 sub.end sub.end (ending s sub.body) (scope_at_end sub) (reverse sub.formals) finish Finish own ways,
    ))

function_holds : (s : Setting) (sub : TypedSub) → is_settled s.typing sub.body ≡ true → ScopesHold s.typing (body_points s sub (function_end sub))
function_holds s sub h =
    let fall : NamedPoint = point (row_at [] 0) sub.end instruction.Fall (scope_at_end sub) [] in
    body_holds s sub (function_end sub) h
    (λ T slack own. (
      into_one s.typing T slack (row_at [] 0) (scope_at_end sub) (own fall (inl refl)),
      goes_one s.typing T slack fall (λ n none. elim none [ ]),
    ))

either_holds : (s : Setting) (sub : TypedSub) (b : Bool) → is_settled s.typing sub.body ≡ true
    → ScopesHold s.typing (body_points s sub (if b then function_end sub else procedure_end s sub))
either_holds s sub true h = function_holds s sub h
either_holds s sub false h = procedure_holds s sub h

-- In each subprogram, what is in scope goes on from point to point, and each successor is a point.
pub scopes_hold : (s : Setting) (sub : TypedSub) → is_settled s.typing sub.body ≡ true → ScopesHold s.typing (sub_points s sub)
scopes_hold s sub h = either_holds s sub (is_some sub.result) h

pub package_scopes_hold : (s : Setting) (sub : TypedSub) → is_settled s.typing sub.body ≡ true → ScopesHold s.typing (elaboration_points s sub)
package_scopes_hold s sub h = body_holds s sub [] h (λ T slack own. ((λ n none. elim none [ ]), goes_none s.typing T slack))
