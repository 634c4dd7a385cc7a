-- Formals of procedures in the layout: they are in scope at the first point, and differ; and what is
-- passed is named at the point of the call.
use Rattle.std.proofs.Common.{◌≡◌, refl, sym, ap, subst, inl, inr, ℕ, Bool, true, false, ◌==◌, ◌||◌, eq-eqb, List, [], ◌∷◌, ◌++◌, length, reverse, is_some, if◌then◌else◌}
use Rattle.std.specs.List.{filter}
use Rattle.std.proofs.lemmas.List.{reverse-append}
use Rattle.machine.specs.spark_base.Lists.{Has}
use Rattle.soundness.proofs.Lists.{Has-append_left, Has-append_right, Has-append_cases}
use Rattle.machine.specs.typed_tree.Trees.{TypedTree, TypedCode, Name, Declare, More}
use Rattle.machine.specs.typed_tree.Trees as typed
use Rattle.machine.specs.typed_tree.Programs.{TypedSub}
use Rattle.machine.specs.flow_paths.Instructions.{Finish, Fall}
use Rattle.machine.specs.flow_paths.Objects.{has_scope_end}
use Rattle.machine.specs.flow_paths.Points.{Place, PointName, row_at, NamedPoint, point, entry}
use Rattle.machine.specs.flow_paths.Prep.{Setting}
use Rattle.machine.specs.flow_paths.Layout.{Around, declared, ends, laid}
use Rattle.machine.specs.flow_paths.Laid.{around_body, sub_points}
use Rattle.machine.specs.flow_paths.Scopes.{Leads, is_settled, is_within}
use Rattle.flow_paths.proofs.ScopesFlow.{leads_same, Starts}
use Rattle.flow_paths.proofs.StatementScopes.{laid_starts, after}
use Rattle.soundness.specs.Ready.{root_of}
use Rattle.settled_types.specs.OrderLaws.ScopeLaws.Code.{Once, roots}
use Rattle.viewed_steps.specs.Ready.{roots_passed, AreDifferent}

left_empty : (ps qs : List NamedPoint) → ps ++ qs ≡ [] → ps ≡ []
left_empty [] qs e = refl
left_empty (p ∷ ps) qs e = cc

right_empty : (ps qs : List NamedPoint) → ps ++ qs ≡ [] → qs ≡ []
right_empty [] qs e = e
right_empty (p ∷ ps) qs e = cc

no_row : (ps : List NamedPoint) (q : NamedPoint) (qs : List NamedPoint) → ps ++ q ∷ qs ≡ [] → ⊥
no_row [] q qs e = cc
no_row (p ∷ ps) q qs e = cc

-- what has no points declares nothing
none_declared : (s : Setting) (c : TypedCode) (at : Place) (w : Around) (k : List PointName) → laid s c at w k ≡ [] → declared c ≡ []
unfolding laid declared
none_declared s (More a rest) at w k e =
    (λ j. none_declared s a (0 ∷ at) w _ (left_empty _ _ e) j ++ none_declared s rest (1 ∷ at) _ k (right_empty _ _ e) j)
none_declared s (Declare p x v) at w k e = absurd (no_row _ _ [] e)
none_declared s c at w k e = refl

module _ (s : Setting) (sub : TypedSub) where
  -- the end of a body that declares these
  abbrev end_of : List ℕ → List NamedPoint
  end_of ds =
      if is_some sub.result then point (row_at [] 0) sub.end Fall (reverse ds ++ reverse sub.formals) [] ∷ []
      else (ends [] 0 sub.end (filter (has_scope_end s.typing) (reverse ds)) (reverse ds ++ reverse sub.formals)
      (row_at [] (length (filter (has_scope_end s.typing) (reverse ds))) ∷ [])
      ++ point (row_at [] (length (filter (has_scope_end s.typing) (reverse ds)))) sub.end Finish (reverse sub.formals) [] ∷ [])

  same_first : (q p : NamedPoint) (qs rest : List NamedPoint) → q ∷ qs ≡ p ∷ rest → q.scope ≡ p.scope
  same_first q p qs rest e = ap (λ (z : NamedPoint). z.scope) (let is : q ≡ p = cc in is)

  empty_end : (p : NamedPoint) (rest : List NamedPoint) → end_of [] ≡ p ∷ rest → Leads s.typing (reverse sub.formals) p.scope
  empty_end p rest e = by_result (is_some sub.result) e
    where
      by_result : (b : Bool) → (if b then point (row_at [] 0) sub.end Fall (reverse sub.formals) [] ∷ [] else point (row_at [] 0) sub.end Finish (reverse sub.formals) [] ∷ []) ≡ p ∷ rest
          → Leads s.typing (reverse sub.formals) p.scope
      by_result true is = subst (Leads s.typing (reverse sub.formals)) (same_first _ p [] rest is) (leads_same s.typing (reverse sub.formals))
      by_result false is = subst (Leads s.typing (reverse sub.formals)) (same_first _ p [] rest is) (leads_same s.typing (reverse sub.formals))

  -- what is in scope at the first point
  pub first_scope : is_settled s.typing sub.body ≡ true → (p : NamedPoint) (rest : List NamedPoint) → sub_points s sub ≡ p ∷ rest
      → Leads s.typing (reverse sub.formals) p.scope
  first_scope settled p rest is =
      by_points (laid s sub.body (0 ∷ []) (around_body s sub) (entry (end_of (declared sub.body)) [])) refl
      (laid_starts s sub.body (0 ∷ []) (around_body s sub) (entry (end_of (declared sub.body)) []) settled) is
    where
      by_points : (ps : List NamedPoint) → laid s sub.body (0 ∷ []) (around_body s sub) (entry (end_of (declared sub.body)) []) ≡ ps
          → Starts s.typing ps (reverse sub.formals) (after sub.body (reverse sub.formals)) → ps ++ end_of (declared sub.body) ≡ p ∷ rest
          → Leads s.typing (reverse sub.formals) p.scope
      by_points [] none starts first =
          empty_end p rest (subst (λ ds. end_of ds ≡ p ∷ rest)
          (none_declared s sub.body (0 ∷ []) (around_body s sub) (entry (end_of (declared sub.body)) []) none) first)
      by_points (q ∷ qs) some starts first = subst (Leads s.typing (reverse sub.formals)) (same_first q p (qs ++ end_of (declared sub.body)) rest first) starts

-- ---- lists

pub has_within : (x : ℕ) (scope : List ℕ) → Has scope x → is_within x scope ≡ true
has_within x [] has = absurd has
has_within x (y ∷ scope) (inl same) = ap (λ b. b || is_within x scope) (eq-eqb x y (sym same))
has_within x (y ∷ scope) (inr has) = later (x == y) (is_within x scope) (has_within x scope has)
  where
    later : (a b : Bool) → b ≡ true → a || b ≡ true
    later true b e = refl
    later false b e = e

pub has_reversed : (xs : List ℕ) (x : ℕ) → Has xs x → Has (reverse xs) x
has_reversed [] x has = has
has_reversed (y ∷ xs) x (inl same) = subst (λ z. Has z x) (sym (reverse-append (y ∷ []) xs)) (Has-append_right (reverse xs) (y ∷ []) x (inl same))
has_reversed (y ∷ xs) x (inr has) = subst (λ z. Has z x) (sym (reverse-append (y ∷ []) xs)) (Has-append_left (reverse xs) (y ∷ []) x (has_reversed xs x has))

pub once_different : (xs : List ℕ) → Once xs → AreDifferent xs
once_different [] once = tt
once_different (x ∷ xs) once = ((λ y has same. once.0 (subst (λ z. Has xs z) same has)), once_different xs once.1)

-- ---- what is passed

root_named : (e : TypedTree) (y : ℕ) → Has (root_of e) y → Has (roots e) y
unfolding roots
root_named (Name p x steps t) y (inl same) = inl same
root_named (Name p x steps t) y (inr never) = absurd never
root_named e y has = absurd has

pub passed_named : (actuals : TypedTree) (y : ℕ) → Has (roots_passed actuals) y → Has (roots actuals) y
unfolding roots_passed roots
passed_named (typed.More e rest) y has = elim (Has-append_cases (root_of e) (roots_passed rest) y has) [
  | inl here ↦ Has-append_left (roots e) (roots rest) y (root_named e y here)
  | inr later ↦ Has-append_right (roots e) (roots rest) y (passed_named rest y later)
]
passed_named actuals y has = absurd has
