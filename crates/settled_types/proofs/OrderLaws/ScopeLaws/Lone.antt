-- Where what some functions give stands alone, all that is in scope at a point is good, but for the temporary that the point
-- takes so.
use Rattle.std.proofs.Common.{◌≡◌, refl, sym, ap, ◌∙◌, subst, ◌⊎◌, inl, inr, ℕ, suc, Bool, true, false, ◌==◌, List, [], ◌∷◌, ◌++◌, drop, Some, None, if◌then◌else◌}
use Rattle.std.specs.Prelude.{flat_map, is_some, reverse}
use Rattle.machine.specs.spark_base.declared.position.Pos.{Pos}
use Rattle.machine.specs.spark_base.Lists.{Has}
use Rattle.spark_base.proofs.Lists.{Has-append_left, Has-append_right, Has-append_cases}
use Rattle.machine.specs.typed_tree.Trees.{TypedTree, Name, Component, Designated, Element, Image, Parens, Unary, Binary, Short, IsNull, Aggregate, Alike, New, NoMore, TypedCode, Declare, Assign, Output, Input, Release}
use Rattle.machine.specs.typed_tree.Trees as typed
use Rattle.machine.specs.typed_tree.declared.node.ShortCircuit.{ShortCircuit}
use Rattle.machine.specs.typed_tree.Programs.{TypedSub}
use Rattle.machine.specs.flow_paths.Instructions.{Instruction}
use Rattle.machine.specs.flow_paths.Instructions as instruction
use Rattle.machine.specs.flow_paths.Names.{has_call}
use Rattle.machine.specs.flow_paths.Points.{Place, PointName, row_at, NamedPoint, point, entry}
use Rattle.machine.specs.flow_paths.Prep.{Setting, held, with_held, prep}
use Rattle.machine.specs.flow_paths.Layout.{Around, within_loop, within_block, with_scope, declared, from, ending, ends, uses, uses_both, uses_second_first, laid, laid_branches, laid_branch, laid_whens, laid_when}
use Rattle.machine.specs.flow_paths.Laid.{declared_within, around_body, scope_at_end, function_end, procedure_end, sub_points, elaboration_points}
use Rattle.settled_types.proofs.TypedCases.{Laws, branch_none, branches_none, laid_none, on_code, when_none, whens_none}
use Rattle.settled_types.specs.OrderLaws.ScopeLaws.Code.{objects_of}
use Rattle.settled_types.specs.OrderLaws.ScopeLaws.Alone.{CallsFit, CallsOnly, PassedFit, SourceFits, ValueFits, StoredFits, CodeFits, BranchesFit, BranchFits, AlternativesFit, AlternativeFits}
use Rattle.settled_types.proofs.OrderLaws.ScopeLaws.Alone.{calls_from}
use Rattle.settled_types.proofs.OrderLaws.ScopeLaws.Lists.{has_reverse}
use Rattle.settled_types.proofs.OrderLaws.ScopeLaws.Given.{Takes, none_held, none_before}

abbrev pub AllGood : (ℕ → Type 0) → List ℕ → Type 0
AllGood good xs = (x : ℕ) → Has xs x → good x

drop_none : (xs : List ℕ) → drop 0 xs ≡ xs
drop_none [] = refl
drop_none (x ∷ xs) = refl

-- What is in scope at a point is good; or it is but for the last one, which the point takes alone.
abbrev pub IsLone : (single good : ℕ → Type 0) → NamedPoint → Type 0
IsLone single good p =
    AllGood good p.scope
    ⊎ ((t : ℕ) × (rest : List ℕ) × (p.scope ≡ t ∷ rest) × AllGood good rest × (q : Pos) × (n : ℕ) × (a : TypedTree) × Takes p.instr (typed.Call q n a)
    × single n)

module _ (s : Setting) (whole : List NamedPoint) (ask passed alone single good : ℕ → Type 0) (weaker : (n : ℕ) → ask n → alone n) (wider : (n : ℕ) → passed n → alone n)
    (fills : (r : NamedPoint) → Has whole r → (n : ℕ) (a : TypedTree) (t : ℕ) → r.instr ≡ instruction.Call n a (Some t) → alone n → good t)
    (truths : (r : NamedPoint) → Has whole r → (t : ℕ) (e : TypedTree) (op : ShortCircuit) → r.instr ≡ instruction.Evaluate t e (Some op) → good t) where
  only_more : (e : TypedTree) → CallsOnly ask passed e → CallsFit alone alone alone e
  only_more e fits = calls_from ask passed alone alone weaker wider ask alone weaker e fits

  passed_more : (e : TypedTree) → PassedFit ask passed e → CallsFit alone alone alone e
  passed_more e fits = calls_from ask passed alone alone weaker wider passed alone wider e fits

  source_more : (e : TypedTree) → SourceFits ask passed alone e → CallsFit alone alone alone e
  source_more e fits = calls_from ask passed alone alone weaker wider alone alone (λ n one. one) e fits

  abbrev Within : List NamedPoint → Type 0
  Within ps = (r : NamedPoint) → Has ps r → Has whole r

  first_of : (ps qs : List NamedPoint) → Within (ps ++ qs) → Within ps
  first_of ps qs within r has = within r (Has-append_left ps qs r has)

  second_of : (ps qs : List NamedPoint) → Within (ps ++ qs) → Within qs
  second_of ps qs within r has = within r (Has-append_right ps qs r has)

  good_both : (xs ys : List ℕ) → AllGood good xs → AllGood good ys → AllGood good (xs ++ ys)
  good_both xs ys h g x has = elim (Has-append_cases xs ys x has) [ inl l ↦ h x l | inr r ↦ g x r ]

  abbrev AreGood : List NamedPoint → Type 0
  AreGood ps = (p : NamedPoint) → Has ps p → AllGood good p.scope

  points_both : (ps qs : List NamedPoint) → AreGood ps → AreGood qs → AreGood (ps ++ qs)
  points_both ps qs h g p has = elim (Has-append_cases ps qs p has) [ inl l ↦ h p l | inr r ↦ g p r ]

  points_one : (p : NamedPoint) → AllGood good p.scope → AreGood (p ∷ [])
  points_one p h q (inl same) = subst (λ (z : NamedPoint). AllGood good z.scope) same h
  points_one p h q (inr never) = absurd never

  -- what an expression holds is good, if its calls are as asked
  held_good : (e : TypedTree) (at : Place) (scope : List ℕ) (k : List PointName) → CallsFit alone alone alone e → Within (prep s e at scope k) → AllGood good (held s e at)
  unfolding held prep CallsFit
  held_good (typed.Call p sub actuals) at scope k (asked, inner) within =
      λ x has. elim has [
        | inl same ↦ subst good same (fills _ (within _ (Has-append_right (prep s actuals (0 ∷ at) scope (row_at at 0 ∷ [])) (_ ∷ []) _ (inl refl))) sub actuals (s.temporary at) refl asked)
        | inr never ↦ absurd never
      ]
  held_good (Short op p a q b) at scope k (first, second) within =
      by (has_call b) within (λ within_false. (
      let behind : List NamedPoint = prep s b (1 ∷ at) (with_held s a (0 ∷ at) scope) k in
      let before : List NamedPoint = prep s a (0 ∷ at) scope (entry behind k) in
      good_both (held s b (1 ∷ at)) (held s a (0 ∷ at)) (held_good b (1 ∷ at) (with_held s a (0 ∷ at) scope) k second (second_of before behind within_false))
      (held_good a (0 ∷ at) scope (entry behind k) first (first_of before behind within_false))))
    where
      by : (c : Bool)
          → Within (if c then prep s a (0 ∷ at) scope (row_at at 0 ∷ [])
          ++ (point (row_at at 0) p (instruction.Evaluate (s.temporary at) a (Some op)) (with_held s a (0 ∷ at) scope) (entry (prep s b (1 ∷ at) (s.temporary at ∷ scope) (row_at at 1 ∷ [])) (row_at at 1 ∷ []) ++ k)
          ∷ (prep s b (1 ∷ at) (s.temporary at ∷ scope) (row_at at 1 ∷ [])
          ++ point (row_at at 1) q (instruction.Evaluate (s.temporary at) b None) (with_held s b (1 ∷ at) (s.temporary at ∷ scope)) k ∷ []))
          else prep s a (0 ∷ at) scope (entry (prep s b (1 ∷ at) (with_held s a (0 ∷ at) scope) k) k) ++ prep s b (1 ∷ at) (with_held s a (0 ∷ at) scope) k)
          → (Within (prep s a (0 ∷ at) scope (entry (prep s b (1 ∷ at) (with_held s a (0 ∷ at) scope) k) k) ++ prep s b (1 ∷ at) (with_held s a (0 ∷ at) scope) k)
          → AllGood good (held s b (1 ∷ at) ++ held s a (0 ∷ at)))
          → AllGood good (if c then s.temporary at ∷ [] else held s b (1 ∷ at) ++ held s a (0 ∷ at))
      by true within_true more = λ x has. elim has [
        | inl same ↦ subst good same (truths _ (within_true _ (Has-append_right (prep s a (0 ∷ at) scope (row_at at 0 ∷ [])) _ _ (inl refl))) (s.temporary at) a op refl)
        | inr never ↦ absurd never
      ]
      by false within_false more = more within_false
  held_good (Binary op a b) at scope k (first, second) within =
      let behind : List NamedPoint = prep s b (1 ∷ at) (with_held s a (0 ∷ at) scope) k in
      let before : List NamedPoint = prep s a (0 ∷ at) scope (entry behind k) in
      good_both (held s b (1 ∷ at)) (held s a (0 ∷ at)) (held_good b (1 ∷ at) (with_held s a (0 ∷ at) scope) k second (second_of before behind within))
      (held_good a (0 ∷ at) scope (entry behind k) first (first_of before behind within))
  held_good (typed.More a b) at scope k (first, second) within =
      let behind : List NamedPoint = prep s b (1 ∷ at) (with_held s a (0 ∷ at) scope) k in
      let before : List NamedPoint = prep s a (0 ∷ at) scope (entry behind k) in
      good_both (held s b (1 ∷ at)) (held s a (0 ∷ at)) (held_good b (1 ∷ at) (with_held s a (0 ∷ at) scope) k second (second_of before behind within))
      (held_good a (0 ∷ at) scope (entry behind k) first (first_of before behind within))
  held_good (Element a low high b) at scope k (first, second) within =
      let behind : List NamedPoint = prep s b (1 ∷ at) (with_held s a (0 ∷ at) scope) k in
      let before : List NamedPoint = prep s a (0 ∷ at) scope (entry behind k) in
      good_both (held s b (1 ∷ at)) (held s a (0 ∷ at)) (held_good b (1 ∷ at) (with_held s a (0 ∷ at) scope) k second (second_of before behind within))
      (held_good a (0 ∷ at) scope (entry behind k) first (first_of before behind within))
  held_good (Name p x e t) at scope k only within = held_good e (0 ∷ at) scope k only within
  held_good (Component i e) at scope k only within = held_good e (0 ∷ at) scope k only within
  held_good (Designated e) at scope k only within = held_good e (0 ∷ at) scope k only within
  held_good (Image t e) at scope k only within = held_good e (0 ∷ at) scope k only within
  held_good (Parens e) at scope k only within = held_good e (0 ∷ at) scope k only within
  held_good (Unary op e) at scope k only within = held_good e (0 ∷ at) scope k only within
  held_good (IsNull equal e) at scope k only within = held_good e (0 ∷ at) scope k only within
  held_good (Aggregate t e) at scope k only within = held_good e (0 ∷ at) scope k only within
  held_good (Alike t e) at scope k only within = held_good e (0 ∷ at) scope k only within
  held_good (New t e) at scope k only within = held_good e (0 ∷ at) scope k only within
  held_good _ at scope k only within = λ x has. absurd has

  evaluated_good : (e : TypedTree) (at : Place) (scope : List ℕ) (k : List PointName) → CallsFit alone alone alone e → Within (prep s e at scope k) → AllGood good scope
      → AllGood good (with_held s e at scope)
  evaluated_good e at scope k only within fine = good_both (held s e at) scope (held_good e at scope k only within) fine

  -- and so are the scopes of the points before
  prep_good : (e : TypedTree) (at : Place) (scope : List ℕ) (k : List PointName) → CallsFit alone alone alone e → Within (prep s e at scope k) → AllGood good scope
      → AreGood (prep s e at scope k)
  unfolding prep CallsFit
  prep_good (typed.Call p sub actuals) at scope k (asked, inner) within fine =
      let before : List NamedPoint = prep s actuals (0 ∷ at) scope (row_at at 0 ∷ []) in
      points_both before _ (prep_good actuals (0 ∷ at) scope (row_at at 0 ∷ []) inner (first_of before _ within) fine)
      (points_one _ (evaluated_good actuals (0 ∷ at) scope (row_at at 0 ∷ []) inner (first_of before _ within) fine))
  prep_good (Short op p a q b) at scope k (first, second) within fine =
      by _ _ (has_call b) within
      (λ within_true. (
      let before : List NamedPoint = prep s a (0 ∷ at) scope (row_at at 0 ∷ []) in
      let inner : List ℕ = s.temporary at ∷ scope in
      let right : List NamedPoint = prep s b (1 ∷ at) inner (row_at at 1 ∷ []) in
      let middle : NamedPoint = point (row_at at 0) p (instruction.Evaluate (s.temporary at) a (Some op)) (with_held s a (0 ∷ at) scope) (entry right (row_at at 1 ∷ []) ++ k) in
      let last : NamedPoint = point (row_at at 1) q (instruction.Evaluate (s.temporary at) b None) (with_held s b (1 ∷ at) inner) k in
      let behind = second_of before (middle ∷ (right ++ last ∷ [])) within_true in
      let right_within : Within right = (λ r has. behind r (inr (Has-append_left right (last ∷ []) r has))) in
      let fine_inner : AllGood good inner = (λ x has. elim has [
        | inl same ↦ subst good same (truths middle (behind middle (inl refl)) (s.temporary at) a op refl)
        | inr more ↦ fine x more
      ]) in
      points_both before (middle ∷ (right ++ last ∷ [])) (prep_good a (0 ∷ at) scope (row_at at 0 ∷ []) first (first_of before (middle ∷ (right ++ last ∷ [])) within_true) fine)
      (points_both (middle ∷ []) (right ++ last ∷ [])
      (points_one middle (evaluated_good a (0 ∷ at) scope (row_at at 0 ∷ []) first (first_of before (middle ∷ (right ++ last ∷ [])) within_true) fine))
      (points_both right (last ∷ []) (prep_good b (1 ∷ at) inner (row_at at 1 ∷ []) second right_within fine_inner)
      (points_one last (evaluated_good b (1 ∷ at) inner (row_at at 1 ∷ []) second right_within fine_inner))))))
      (λ within_false. (
      let inner : List ℕ = with_held s a (0 ∷ at) scope in
      let behind : List NamedPoint = prep s b (1 ∷ at) inner k in
      let before : List NamedPoint = prep s a (0 ∷ at) scope (entry behind k) in
      points_both before behind (prep_good a (0 ∷ at) scope (entry behind k) first (first_of before behind within_false) fine)
      (prep_good b (1 ∷ at) inner k second (second_of before behind within_false)
      (evaluated_good a (0 ∷ at) scope (entry behind k) first (first_of before behind within_false) fine))))
    where
      by : (ps qs : List NamedPoint) (c : Bool) → Within (if c then ps else qs) → (Within ps → AreGood ps) → (Within qs → AreGood qs) → AreGood (if c then ps else qs)
      by ps qs true within h g = h within
      by ps qs false within h g = g within
  prep_good (Binary op a b) at scope k (first, second) within fine =
      let inner : List ℕ = with_held s a (0 ∷ at) scope in
      let behind : List NamedPoint = prep s b (1 ∷ at) inner k in
      let before : List NamedPoint = prep s a (0 ∷ at) scope (entry behind k) in
      points_both before behind (prep_good a (0 ∷ at) scope (entry behind k) first (first_of before behind within) fine)
      (prep_good b (1 ∷ at) inner k second (second_of before behind within)
      (evaluated_good a (0 ∷ at) scope (entry behind k) first (first_of before behind within) fine))
  prep_good (typed.More a b) at scope k (first, second) within fine =
      let inner : List ℕ = with_held s a (0 ∷ at) scope in
      let behind : List NamedPoint = prep s b (1 ∷ at) inner k in
      let before : List NamedPoint = prep s a (0 ∷ at) scope (entry behind k) in
      points_both before behind (prep_good a (0 ∷ at) scope (entry behind k) first (first_of before behind within) fine)
      (prep_good b (1 ∷ at) inner k second (second_of before behind within)
      (evaluated_good a (0 ∷ at) scope (entry behind k) first (first_of before behind within) fine))
  prep_good (Element a low high b) at scope k (first, second) within fine =
      let inner : List ℕ = with_held s a (0 ∷ at) scope in
      let behind : List NamedPoint = prep s b (1 ∷ at) inner k in
      let before : List NamedPoint = prep s a (0 ∷ at) scope (entry behind k) in
      points_both before behind (prep_good a (0 ∷ at) scope (entry behind k) first (first_of before behind within) fine)
      (prep_good b (1 ∷ at) inner k second (second_of before behind within)
      (evaluated_good a (0 ∷ at) scope (entry behind k) first (first_of before behind within) fine))
  prep_good (Name p x e t) at scope k only within fine = prep_good e (0 ∷ at) scope k only within fine
  prep_good (Component i e) at scope k only within fine = prep_good e (0 ∷ at) scope k only within fine
  prep_good (Designated e) at scope k only within fine = prep_good e (0 ∷ at) scope k only within fine
  prep_good (Image t e) at scope k only within fine = prep_good e (0 ∷ at) scope k only within fine
  prep_good (Parens e) at scope k only within fine = prep_good e (0 ∷ at) scope k only within fine
  prep_good (Unary op e) at scope k only within fine = prep_good e (0 ∷ at) scope k only within fine
  prep_good (IsNull equal e) at scope k only within fine = prep_good e (0 ∷ at) scope k only within fine
  prep_good (Aggregate t e) at scope k only within fine = prep_good e (0 ∷ at) scope k only within fine
  prep_good (Alike t e) at scope k only within fine = prep_good e (0 ∷ at) scope k only within fine
  prep_good (New t e) at scope k only within fine = prep_good e (0 ∷ at) scope k only within fine
  prep_good _ at scope k only within fine = λ p has. absurd has

  -- ---- the points of statements

  abbrev AreFine : List NamedPoint → Type 0
  AreFine ps = (p : NamedPoint) → Has ps p → IsLone single good p

  fine_both : (ps qs : List NamedPoint) → AreFine ps → AreFine qs → AreFine (ps ++ qs)
  fine_both ps qs h g p has = elim (Has-append_cases ps qs p has) [ inl l ↦ h p l | inr r ↦ g p r ]

  fine_one : (p : NamedPoint) → IsLone single good p → AreFine (p ∷ [])
  fine_one p h q (inl same) = subst (IsLone single good) same h
  fine_one p h q (inr never) = absurd never

  as_fine : (ps : List NamedPoint) → AreGood ps → AreFine ps
  as_fine ps h p has = inl (h p has)

  from_good : (x : ℕ) (scope : List ℕ) → AllGood good scope → AllGood good (from x scope)
  from_good x [] fine = λ y has. absurd has
  from_good x (z ∷ scope) fine = by (z == x) (from_good x scope (λ y has. fine y (inr has)))
    where
      by : (b : Bool) → AllGood good (from x scope) → AllGood good (if b then z ∷ scope else from x scope)
      by true more = fine
      by false more = more

  drop_good : (scope : List ℕ) → AllGood good scope → AllGood good (drop 1 scope)
  drop_good [] fine = fine
  drop_good (x ∷ scope) fine = subst (AllGood good) (sym (drop_none scope)) (λ y has. fine y (inr has))

  ends_good : (at : Place) (row : ℕ) (p : Pos) (xs scope : List ℕ) (k : List PointName) → AllGood good scope → AreGood (ends at row p xs scope k)
  ends_good at row p [] scope k fine q has = absurd has
  ends_good at row p (x ∷ xs) scope k fine q has = elim has [
    | inl same ↦ subst (λ (z : NamedPoint). AllGood good z.scope) same (from_good x scope fine)
    | inr more ↦ ends_good at (suc row) p xs (drop 1 (from x scope)) k (drop_good (from x scope) (from_good x scope fine)) q more
  ]

  uses_good : (at : Place) (p : Pos) (e : TypedTree) (i : Instruction) (w : Around) (next : List PointName) → CallsFit alone alone alone e → Within (uses s at p e i w next)
      → AllGood good w.scope → AreFine (uses s at p e i w next)
  uses_good at p e i w next only within fine =
      let before : List NamedPoint = prep s e (0 ∷ at) w.scope (row_at at 0 ∷ []) in
      as_fine (uses s at p e i w next) (points_both before _ (prep_good e (0 ∷ at) w.scope (row_at at 0 ∷ []) only (first_of before _ within) fine)
      (points_one _ (evaluated_good e (0 ∷ at) w.scope (row_at at 0 ∷ []) only (first_of before _ within) fine)))

  -- the value of a declaration or of a return
  value_fine : (at : Place) (p : Pos) (v : TypedTree) (i : Instruction) (w : Around) (next : List PointName) → ((e : TypedTree) → v ≡ typed.More e NoMore → Takes i e)
      → ValueFits ask passed alone single v → Within (uses s at p v i w next) → AllGood good w.scope → AreFine (uses s at p v i w next)
  unfolding held prep
  value_fine at p v i w next takes (inl only) within fine = uses_good at p v i w next (source_more v only) within fine
  value_fine at p v i w next takes (inr (q, n, a, is, may, only)) within fine =
      let before : List NamedPoint = prep s v (0 ∷ at) w.scope (row_at at 0 ∷ []) in
      fine_both before _ (as_fine before (alone_before (first_of before _ within)))
      (fine_one _ (inr (
        s.temporary (0 ∷ 0 ∷ at),
        w.scope,
        ap (λ z. with_held s z (0 ∷ at) w.scope) is,
        fine,
        q,
        n,
        a,
        takes (typed.Call q n a) is,
        may,
      )))
    where
      alone_before : Within (prep s v (0 ∷ at) w.scope (row_at at 0 ∷ [])) → AreGood (prep s v (0 ∷ at) w.scope (row_at at 0 ∷ []))
      alone_before inside =
          subst (λ z. Within (prep s z (0 ∷ at) w.scope (row_at at 0 ∷ [])) → AreGood (prep s z (0 ∷ at) w.scope (row_at at 0 ∷ []))) (sym is)
          (λ inside_call. (
          let actuals : List NamedPoint = prep s a (0 ∷ 0 ∷ 0 ∷ at) w.scope (row_at (0 ∷ 0 ∷ at) 0 ∷ []) in
          let inside_actuals : Within actuals = (λ r has. inside_call r (Has-append_left _ _ r (Has-append_left actuals _ r has))) in
          points_both _ _ (points_both actuals _ (prep_good a (0 ∷ 0 ∷ 0 ∷ at) w.scope (row_at (0 ∷ 0 ∷ at) 0 ∷ []) (passed_more a only) inside_actuals fine)
          (points_one _ (evaluated_good a (0 ∷ 0 ∷ 0 ∷ at) w.scope (row_at (0 ∷ 0 ∷ at) 0 ∷ []) (passed_more a only) inside_actuals fine))) (λ r has. absurd has))) inside

  -- an assignment
  assign_fine : (at : Place) (p : Pos) (target e : TypedTree) (w : Around) (next : List PointName) → CallsOnly ask passed target → StoredFits ask passed alone single target e
      → Within (uses_second_first s at p target e (instruction.Assign target e) w next) → AllGood good w.scope
      → AreFine (uses_second_first s at p target e (instruction.Assign target e) w next)
  unfolding held prep
  assign_fine at p target e w next only (inl source) within fine =
      let plain : CallsFit alone alone alone e = source_more e source in
      let inner : List ℕ = with_held s e (1 ∷ at) w.scope in
      let behind : List NamedPoint = prep s target (0 ∷ at) inner (row_at at 0 ∷ []) in
      let before : List NamedPoint = prep s e (1 ∷ at) w.scope (entry behind (row_at at 0 ∷ [])) in
      let first = first_of before behind (first_of (before ++ behind) _ within) in
      let second = second_of before behind (first_of (before ++ behind) _ within) in
      let fine_inner = evaluated_good e (1 ∷ at) w.scope (entry behind (row_at at 0 ∷ [])) plain first fine in
      as_fine _ (points_both (before ++ behind) _
      (points_both before behind (prep_good e (1 ∷ at) w.scope (entry behind (row_at at 0 ∷ [])) plain first fine)
      (prep_good target (0 ∷ at) inner (row_at at 0 ∷ []) (only_more target only) second fine_inner))
      (points_one _ (evaluated_good target (0 ∷ at) inner (row_at at 0 ∷ []) (only_more target only) second fine_inner)))
  assign_fine at p target e w next only (inr (q, n, a, is, may, plain, r, x, path, u, target_is, none)) within fine =
      let inner : List ℕ = with_held s e (1 ∷ at) w.scope in
      let behind : List NamedPoint = prep s target (0 ∷ at) inner (row_at at 0 ∷ []) in
      let before : List NamedPoint = prep s e (1 ∷ at) w.scope (entry behind (row_at at 0 ∷ [])) in
      fine_both (before ++ behind) _
      (fine_both before behind
      (as_fine before (call_before (entry behind (row_at at 0 ∷ [])) (first_of before behind (first_of (before ++ behind) _ within))))
      (subst (λ z. AreFine (prep s z (0 ∷ at) inner (row_at at 0 ∷ []))) (sym target_is) (subst AreFine (sym (none_before s path (0 ∷ 0 ∷ at) inner (row_at at 0 ∷ []) none)) (λ y has. absurd has))))
      (fine_one _ (inr (
        s.temporary (1 ∷ at),
        w.scope,
        scope_is inner (ap (λ z. with_held s z (1 ∷ at) w.scope) is),
        fine,
        q,
        n,
        a,
        inr (inl (r, x, path, u, (λ j. instruction.Assign (target_is j) (is j)), none)),
        may,
      )))
    where
      scope_is : (inner : List ℕ) → inner ≡ s.temporary (1 ∷ at) ∷ w.scope → with_held s target (0 ∷ at) inner ≡ s.temporary (1 ∷ at) ∷ w.scope
      scope_is inner same =
          ap (λ z. held s z (0 ∷ at) ++ inner) target_is ∙ ap (λ z. z ++ inner) (none_held s path (0 ∷ 0 ∷ at) none) ∙ same

      call_before : (k : List PointName) → Within (prep s e (1 ∷ at) w.scope k) → AreGood (prep s e (1 ∷ at) w.scope k)
      call_before k inside =
          subst (λ z. Within (prep s z (1 ∷ at) w.scope k) → AreGood (prep s z (1 ∷ at) w.scope k)) (sym is)
          (λ inside_call. (
          let actuals : List NamedPoint = prep s a (0 ∷ 1 ∷ at) w.scope (row_at (1 ∷ at) 0 ∷ []) in
          let inside_actuals : Within actuals = first_of actuals _ inside_call in
          points_both actuals _ (prep_good a (0 ∷ 1 ∷ at) w.scope (row_at (1 ∷ at) 0 ∷ []) (passed_more a plain) inside_actuals fine)
          (points_one _ (evaluated_good a (0 ∷ 1 ∷ at) w.scope (row_at (1 ∷ at) 0 ∷ []) (passed_more a plain) inside_actuals fine)))) inside

  -- ---- all points

  declared_good : (c : TypedCode) → AllGood good (declared_within c) → AllGood good (declared c)
  unfolding declared declared_within
  declared_good (Declare p x v) fine = fine
  declared_good (typed.More a rest) fine =
      good_both (declared a) (declared rest) (declared_good a (λ x has. fine x (Has-append_left (declared_within a) (declared_within rest) x has)))
      (declared_good rest (λ x has. fine x (Has-append_right (declared_within a) (declared_within rest) x has)))
  declared_good c fine = λ x has. absurd has

  reversed_good : (xs : List ℕ) → AllGood good xs → AllGood good (reverse xs)
  reversed_good xs fine x has = fine x (has_reverse xs x has)

  abbrev IsGoodAround : Around → Type 0
  IsGoodAround w = AllGood good w.scope × AllGood good w.formals

  hold_takes : (v e : TypedTree) → v ≡ typed.More e NoMore → Takes (instruction.Hold v) e
  hold_takes v e is = inr (inr (ap instruction.Hold is))

  declare_takes : (x : ℕ) (v e : TypedTree) → v ≡ typed.More e NoMore → Takes (instruction.Declare x v) e
  declare_takes x v e is = inl (x, ap (instruction.Declare x) is)

  laid_fine_cases : Laws (λ c. (at : Place) → (w : Around) → (k : List PointName) → CodeFits ask passed alone single c → AllGood good (declared_within c) → Within (laid s c at w k) → IsGoodAround w → AreFine (laid s c at w k))
      (λ c. (at : Place) → (w : Around) → (k : List PointName) → (m : List PointName) → BranchesFit ask passed alone single c → AllGood good (declared_within c) → Within (laid_branches s c at w k m) → IsGoodAround w → AreFine (laid_branches s c at w k m))
      (λ c. (at : Place) → (w : Around) → (k : List PointName) → (m : List PointName) → BranchFits ask passed alone single c → AllGood good (declared_within c) → Within (laid_branch s c at w k m) → IsGoodAround w → AreFine (laid_branch s c at w k m))
      (λ c. (at : Place) → (w : Around) → (k : List PointName) → AlternativesFit ask passed alone single c → AllGood good (declared_within c) → Within (flat_map (λ ps. ps) (laid_whens s c at w k)) → IsGoodAround w → AreFine (flat_map (λ ps. ps) (laid_whens s c at w k)))
      (λ c. (at : Place) → (w : Around) → (k : List PointName) → AlternativeFits ask passed alone single c → AllGood good (declared_within c) → Within (laid_when s c at w k) → IsGoodAround w → AreFine (laid_when s c at w k))
  unfolding laid laid_branches laid_branch laid_whens laid_when CodeFits BranchesFit BranchFits AlternativesFit AlternativeFits declared_within
  laid_fine_cases = record {
    list = λ a rest by_a by_rest at w k (first, second) objects within fine.
        let inner : Around = with_scope (declared a) w in
        let behind : List NamedPoint = laid s rest (1 ∷ at) inner k in
        let before : List NamedPoint = laid s a (0 ∷ at) w (entry behind k) in
        let own : AllGood good (declared_within a) = (λ x has. objects x (Has-append_left (declared_within a) (declared_within rest) x has)) in
        fine_both before behind (by_a (0 ∷ at) w (entry behind k) first own (first_of before behind within) fine)
        (by_rest (1 ∷ at) inner k second (λ x has. objects x (Has-append_right (declared_within a) (declared_within rest) x has)) (second_of before behind within)
        (good_both (reverse (declared a)) w.scope (reversed_good (declared a) (declared_good a own)) fine.0, fine.1));
    declare = λ p x v at w k fits objects within fine.
        value_fine at p v (instruction.Declare x v) w k (declare_takes x v) fits within fine.0;
    assign = λ p target e at w k (only, source) objects within fine.
        assign_fine at p target e w k only source within fine.0;
    skip = λ p at w k fits objects within fine.
        fine_one _ (inl fine.0);
    call = λ p sub actuals at w k fits objects within fine.
        uses_good at p actuals (instruction.Call sub actuals None) w k (passed_more actuals fits) within fine.0;
    output = λ p text line at w k fits objects within fine.
        uses_good at p text (instruction.Output text line) w k (only_more text fits) within fine.0;
    input = λ p target at w k fits objects within fine.
        uses_good at p target (instruction.Input target) w k (only_more target fits) within fine.0;
    release = λ p m at w k fits objects within fine.
        uses_good at p m (instruction.Release m) w k (only_more m fits) within fine.0;
    choice = λ branches otherwise by_branches by_otherwise at w k (first, second) objects within fine.
        let behind : List NamedPoint = laid s otherwise (1 ∷ at) w k in
        let before : List NamedPoint = laid_branches s branches (0 ∷ at) w k (entry behind k) in
        fine_both before behind
        (by_branches (0 ∷ at) w k (entry behind k) first (λ x has. objects x (Has-append_left (declared_within branches) (declared_within otherwise) x has)) (first_of before behind within) fine)
        (by_otherwise (1 ∷ at) w k second (λ x has. objects x (Has-append_right (declared_within branches) (declared_within otherwise) x has)) (second_of before behind within) fine);
    cases = λ p e whens by_whens at w k (first, second) objects within fine.
        fine_both (uses s at p e _ w _) _ (uses_good at p e _ w _ (only_more e first) (first_of (uses s at p e _ w _) _ within) fine.0)
        (by_whens (1 ∷ at) w k second objects (second_of (uses s at p e _ w _) _ within) fine);
    loop = λ stmts by_stmts at w k fits objects within fine.
        by_stmts (0 ∷ at) (within_loop k w) _ fits objects within fine;
    while = λ p e stmts by_stmts at w k (first, second) objects within fine.
        fine_both (uses s at p e (instruction.Test e) w _) _ (uses_good at p e (instruction.Test e) w _ (only_more e first) (first_of (uses s at p e (instruction.Test e) w _) _ within) fine.0)
        (by_stmts (1 ∷ at) (within_loop k w) _ second objects (second_of (uses s at p e (instruction.Test e) w _) _ within) fine);
    for = λ p x reversed low high stmts by_stmts at w k (first, second, inside) objects within fine.
        let inner : Around = with_scope (x ∷ []) (within_loop k w) in
        let body : List NamedPoint = laid s stmts (2 ∷ at) inner (row_at at 1 ∷ []) in
        let middle : List ℕ = with_held s low (0 ∷ at) w.scope in
        let behind : List NamedPoint = prep s high (1 ∷ at) middle (row_at at 0 ∷ []) in
        let before : List NamedPoint = prep s low (0 ∷ at) w.scope (entry behind (row_at at 0 ∷ [])) in
        let start : List NamedPoint = uses_both s at p low high (instruction.Start x reversed low high) w (row_at at 1 ∷ []) in
        let next : NamedPoint = point (row_at at 1) p (instruction.Next x reversed low high) (x ∷ w.scope) (entry body (row_at at 1 ∷ []) ++ k) in
        let starts = first_of start (next ∷ body) within in
        let low_there = first_of before behind (first_of (before ++ behind) _ starts) in
        let high_there = second_of before behind (first_of (before ++ behind) _ starts) in
        let low_only = only_more low first in
        let high_only = only_more high second in
        let fine_middle = evaluated_good low (0 ∷ at) w.scope (entry behind (row_at at 0 ∷ [])) low_only low_there fine.0 in
        let fine_next : AllGood good (x ∷ w.scope) = (λ y has. elim has [ inl same ↦ objects y (inl same) | inr more ↦ fine.0 y more ]) in
        fine_both start (next ∷ body)
        (as_fine start (points_both (before ++ behind) _
        (points_both before behind (prep_good low (0 ∷ at) w.scope (entry behind (row_at at 0 ∷ [])) low_only low_there fine.0) (prep_good high (1 ∷ at) middle (row_at at 0 ∷ []) high_only high_there fine_middle))
        (points_one _ (evaluated_good high (1 ∷ at) middle (row_at at 0 ∷ []) high_only high_there fine_middle))))
        (fine_both (next ∷ []) body (fine_one next (inl fine_next))
        (by_stmts (2 ∷ at) inner (row_at at 1 ∷ []) inside (λ y has. objects y (inr has)) (λ r has. second_of start (next ∷ body) within r (inr has)) (fine_next, fine.1)));
    exit = λ p e at w k fits objects within fine.
        fine_both (uses s at p e (instruction.LeaveLoop e) w _) _ (uses_good at p e (instruction.LeaveLoop e) w _ (only_more e fits) (first_of (uses s at p e (instruction.LeaveLoop e) w _) _ within) fine.0)
        (as_fine _ (ends_good at 1 p w.in_loop w.scope w.leave fine.0));
    return = λ p v at w k fits objects within fine.
        fine_both (uses s at p v (instruction.Hold v) w _) _ (value_fine at p v (instruction.Hold v) w _ (hold_takes v) fits (first_of (uses s at p v (instruction.Hold v) w _) _ within) fine.0)
        (fine_both (ends at 1 p w.in_all w.scope _) _ (as_fine _ (ends_good at 1 p w.in_all w.scope _ fine.0)) (fine_one _ (inl fine.1)));
    block = λ n stmts end by_stmts at w k fits objects within fine.
        fine_both (laid s stmts (0 ∷ at) (within_block (ending s stmts) w) _) _
        (by_stmts (0 ∷ at) (within_block (ending s stmts) w) _ fits objects (first_of (laid s stmts (0 ∷ at) (within_block (ending s stmts) w) _) _ within) fine)
        (as_fine _ (ends_good at 0 end (ending s stmts) (reverse (declared stmts) ++ w.scope) k
        (good_both (reverse (declared stmts)) w.scope (reversed_good (declared stmts) (declared_good stmts objects)) fine.0)));
    others = λ c other at w k fits objects within fine. rw (laid_none s c at w k other) (λ p has. absurd has);
    branches = λ a rest by_a by_rest at w k m (first, second) objects within fine.
        fine_both (laid_branch s a (0 ∷ at) w k _) _
        (by_a (0 ∷ at) w k _ first (λ x has. objects x (Has-append_left (declared_within a) (declared_within rest) x has)) (first_of (laid_branch s a (0 ∷ at) w k _) _ within) fine)
        (by_rest (1 ∷ at) w k m second (λ x has. objects x (Has-append_right (declared_within a) (declared_within rest) x has)) (second_of (laid_branch s a (0 ∷ at) w k _) _ within) fine);
    no_branches = λ c other at w k m fits objects within fine. rw (branches_none s c at w k m other) (λ p has. absurd has);
    branch = λ p e stmts by_stmts at w k m (first, second) objects within fine.
        fine_both (uses s at p e (instruction.Test e) w _) _ (uses_good at p e (instruction.Test e) w _ (only_more e first) (first_of (uses s at p e (instruction.Test e) w _) _ within) fine.0)
        (by_stmts (1 ∷ at) w k second objects (second_of (uses s at p e (instruction.Test e) w _) _ within) fine);
    no_branch = λ c other at w k m fits objects within fine. rw (branch_none s c at w k m other) (λ p has. absurd has);
    alternatives = λ a rest by_a by_rest at w k (first, second) objects within fine.
        fine_both (laid_when s a (0 ∷ at) w k) _
        (by_a (0 ∷ at) w k first (λ x has. objects x (Has-append_left (declared_within a) (declared_within rest) x has)) (first_of (laid_when s a (0 ∷ at) w k) _ within) fine)
        (by_rest (1 ∷ at) w k second (λ x has. objects x (Has-append_right (declared_within a) (declared_within rest) x has)) (second_of (laid_when s a (0 ∷ at) w k) _ within) fine);
    no_alternatives = λ c other at w k fits objects within fine. rw (whens_none s c at w k other) (λ p has. absurd has);
    alternative = λ choices stmts by_stmts at w k fits objects within fine.
        by_stmts (1 ∷ at) w k fits objects within fine;
    no_alternative = λ c other at w k fits objects within fine. rw (when_none s c at w k other) (λ p has. absurd has);
  }

  laid_fine : (c : TypedCode) (at : Place) (w : Around) (k : List PointName) → CodeFits ask passed alone single c → AllGood good (declared_within c) → Within (laid s c at w k)
      → IsGoodAround w → AreFine (laid s c at w k)
  laid_fine = on_code laid_fine_cases

  end_scope_good : (sub : TypedSub) → AllGood good (objects_of sub) → AllGood good (scope_at_end sub)
  end_scope_good sub objects =
      good_both (reverse (declared sub.body)) (reverse sub.formals)
      (reversed_good (declared sub.body) (declared_good sub.body (λ x has. objects x (Has-append_right sub.formals (declared_within sub.body) x has))))
      (reversed_good sub.formals (λ x has. objects x (Has-append_left sub.formals (declared_within sub.body) x has)))

  end_fine : (sub : TypedSub) (b : Bool) → AllGood good (objects_of sub) → AreFine (if b then function_end sub else procedure_end s sub)
  end_fine sub true objects = fine_one _ (inl (end_scope_good sub objects))
  end_fine sub false objects =
      fine_both (ends [] 0 sub.end (ending s sub.body) (scope_at_end sub) _) _ (as_fine _ (ends_good [] 0 sub.end (ending s sub.body) (scope_at_end sub) _ (end_scope_good sub objects)))
      (fine_one _ (inl (reversed_good sub.formals (λ x has. objects x (Has-append_left sub.formals (declared_within sub.body) x has)))))

-- So it is at each point of a subprogram.
pub sub_lone : (s : Setting) (sub : TypedSub) (ask passed alone single good : ℕ → Type 0) → ((n : ℕ) → ask n → alone n) → ((n : ℕ) → passed n → alone n)
    → ((r : NamedPoint) → Has (sub_points s sub) r → (n : ℕ) (a : TypedTree) (t : ℕ) → r.instr ≡ instruction.Call n a (Some t) → alone n → good t)
    → ((r : NamedPoint) → Has (sub_points s sub) r → (t : ℕ) (e : TypedTree) (op : ShortCircuit) → r.instr ≡ instruction.Evaluate t e (Some op) → good t)
    → CodeFits ask passed alone single sub.body → AllGood good (objects_of sub) → (p : NamedPoint) → Has (sub_points s sub) p → IsLone single good p
sub_lone s sub ask passed alone single good weaker wider fills truths fits objects =
    fine_both s (sub_points s sub) ask passed alone single good weaker wider fills truths (laid s sub.body (0 ∷ []) (around_body s sub) _) _
    (laid_fine s (sub_points s sub) ask passed alone single good weaker wider fills truths sub.body (0 ∷ []) (around_body s sub) _ fits
    (λ x has. objects x (Has-append_right sub.formals (declared_within sub.body) x has))
    (λ r has. Has-append_left (laid s sub.body (0 ∷ []) (around_body s sub) _) _ r has) (formals_good, formals_good))
    (end_fine s (sub_points s sub) ask passed alone single good weaker wider fills truths sub (is_some sub.result) objects)
  where
    formals_good : AllGood good (reverse sub.formals)
    formals_good = reversed_good s (sub_points s sub) ask passed alone single good weaker wider fills truths sub.formals (λ x has. objects x (Has-append_left sub.formals (declared_within sub.body) x has))

-- Where package objects are elaborated, all that is in scope is good, or is taken alone.
pub package_lone : (s : Setting) (sub : TypedSub) (ask passed alone single good : ℕ → Type 0) → ((n : ℕ) → ask n → alone n) → ((n : ℕ) → passed n → alone n)
    → ((r : NamedPoint) → Has (elaboration_points s sub) r → (n : ℕ) (a : TypedTree) (t : ℕ) → r.instr ≡ instruction.Call n a (Some t) → alone n → good t)
    → ((r : NamedPoint) → Has (elaboration_points s sub) r → (t : ℕ) (e : TypedTree) (op : ShortCircuit) → r.instr ≡ instruction.Evaluate t e (Some op) → good t)
    → CodeFits ask passed alone single sub.body → AllGood good (objects_of sub) → (p : NamedPoint) → Has (elaboration_points s sub) p → IsLone single good p
package_lone s sub ask passed alone single good weaker wider fills truths fits objects =
    fine_both s (elaboration_points s sub) ask passed alone single good weaker wider fills truths (laid s sub.body (0 ∷ []) (around_body s sub) []) []
    (laid_fine s (elaboration_points s sub) ask passed alone single good weaker wider fills truths sub.body (0 ∷ []) (around_body s sub) [] fits
    (λ x has. objects x (Has-append_right sub.formals (declared_within sub.body) x has))
    (λ r has. Has-append_left (laid s sub.body (0 ∷ []) (around_body s sub) []) [] r has) (formals_good, formals_good)) (λ p never. absurd never)
  where
    formals_good : AllGood good (reverse sub.formals)
    formals_good = reversed_good s (elaboration_points s sub) ask passed alone single good weaker wider fills truths sub.formals (λ x has. objects x (Has-append_left sub.formals (declared_within sub.body) x has))
