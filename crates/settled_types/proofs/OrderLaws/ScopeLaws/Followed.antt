-- Where what a function gives that isn't asked of all temporaries is taken alone, the call leads to the point that takes it.
use Rattle.std.proofs.Common.{◌≡◌, refl, sym, ap, ◌∙◌, subst, ◌⊎◌, inl, inr, ℕ, suc, Bool, true, false, List, [], ◌∷◌, ◌++◌, drop, Some, None, if◌then◌else◌}
use Rattle.std.specs.Prelude.{flat_map, is_some}
use Rattle.std.proofs.lemmas.Bool.{false≢true}
use Rattle.machine.specs.spark_base.declared.position.Pos.{Pos}
use Rattle.machine.specs.spark_base.Lists.{Has}
use Rattle.spark_base.proofs.Lists.{Has-append_left, Has-append_right, Has-append_cases}
use Rattle.machine.specs.typed_tree.Trees.{TypedTree, Name, Component, Designated, Element, Image, Parens, Unary, Binary, Short, IsNull, Aggregate, Alike, New, NoMore, TypedCode, Declare, Assign, Output, Input, Release}
use Rattle.machine.specs.typed_tree.Trees as typed
use Rattle.machine.specs.typed_tree.Programs.{TypedSub}
use Rattle.machine.specs.flow_paths.Instructions.{Instruction}
use Rattle.machine.specs.flow_paths.Instructions as instruction
use Rattle.machine.specs.flow_paths.Names.{has_call}
use Rattle.machine.specs.flow_paths.Points.{Place, PointName, row_at, NamedPoint, point, entry}
use Rattle.machine.specs.flow_paths.Prep.{Setting, with_held, prep}
use Rattle.machine.specs.flow_paths.Layout.{Around, within_loop, within_block, from, ending, ends, uses, uses_both, uses_second_first, laid, laid_branches, laid_branch, laid_whens, laid_when}
use Rattle.machine.specs.flow_paths.Laid.{around_body, scope_at_end, function_end, procedure_end, sub_points}
use Rattle.settled_types.proofs.TypedCases.{Laws, branch_none, branches_none, laid_none, on_code, when_none, whens_none}
use Rattle.settled_types.specs.OrderLaws.ScopeLaws.Alone.{CallsFit, CallsOnly, PassedFit, SourceFits, ValueFits, StoredFits, CodeFits, BranchesFit, BranchFits, AlternativesFit, AlternativeFits}
use Rattle.settled_types.proofs.OrderLaws.ScopeLaws.Given.{Takes, none_before}

-- The one successor of a point takes what a function gives.
abbrev pub IsFollowed : List NamedPoint → NamedPoint → ℕ → TypedTree → Type 0
IsFollowed whole p n a = (q : NamedPoint) × Has whole q × (p.next ≡ q.name ∷ []) × (r : Pos) × Takes q.instr (typed.Call r n a)

-- Each function that points call is as asked; or what it gives is taken next.
abbrev pub AreFollowed : (ℕ → Type 0) → List NamedPoint → Type 0
AreFollowed alone ps =
    (p : NamedPoint) → Has ps p → (n : ℕ) (a : TypedTree) (t : ℕ) → p.instr ≡ instruction.Call n a (Some t) → alone n ⊎ IsFollowed ps p n a

abbrev fills : Instruction → Bool
fills (instruction.Call n a (Some t)) = true
fills i = false

abbrev sub_in : Instruction → ℕ
sub_in (instruction.Call n a t) = n
sub_in i = 0

abbrev actuals_in : Instruction → TypedTree
actuals_in (instruction.Call n a t) = a
actuals_in i = NoMore

module _ (s : Setting) (ask passed alone single : ℕ → Type 0) (weaker : (n : ℕ) → ask n → alone n) (wider : (n : ℕ) → passed n → alone n) where
  -- all of them are as asked
  abbrev AreAsked : List NamedPoint → Type 0
  AreAsked ps = (p : NamedPoint) → Has ps p → (n : ℕ) (a : TypedTree) (t : ℕ) → p.instr ≡ instruction.Call n a (Some t) → alone n

  abbrev CallsNone : Instruction → Type 0
  CallsNone i = (n : ℕ) (a : TypedTree) (t : ℕ) → i ≡ instruction.Call n a (Some t) → ⊥

  asked_both : (ps qs : List NamedPoint) → AreAsked ps → AreAsked qs → AreAsked (ps ++ qs)
  asked_both ps qs h g p has = elim (Has-append_cases ps qs p has) [ inl l ↦ h p l | inr r ↦ g p r ]

  asked_one : (p : NamedPoint) → CallsNone p.instr → AreAsked (p ∷ [])
  asked_one p none q (inl same) n a t is = absurd (none n a t (ap (λ (z : NamedPoint). z.instr) same ∙ is))
  asked_one p none q (inr never) n a t is = absurd never

  asked_call : (p : NamedPoint) (n : ℕ) (a : TypedTree) (t : ℕ) → p.instr ≡ instruction.Call n a (Some t) → alone n → AreAsked (p ∷ [])
  asked_call p n a t is asked q (inl same) k b u other =
      subst alone (ap sub_in (sym is ∙ ap (λ (z : NamedPoint). z.instr) same ∙ other)) asked
  asked_call p n a t is asked q (inr never) k b u other = absurd never

  asked_if : (c : Bool) (ps qs : List NamedPoint) → AreAsked ps → AreAsked qs → AreAsked (if c then ps else qs)
  asked_if true ps qs h g = h
  asked_if false ps qs h g = g

  -- calls of a kind that may give values
  kind_asked : (kind : ℕ → Type 0) → ((n : ℕ) → kind n → alone n) → (e : TypedTree) (at : Place) (scope : List ℕ) (k : List PointName) → CallsFit ask passed kind e
      → AreAsked (prep s e at scope k)
  unfolding prep CallsFit
  kind_asked kind into (typed.Call p sub actuals) at scope k (asked, inner) =
      asked_both (prep s actuals (0 ∷ at) scope (row_at at 0 ∷ [])) _ (kind_asked passed wider actuals (0 ∷ at) scope (row_at at 0 ∷ []) inner)
      (asked_call _ sub actuals (s.temporary at) refl (into sub asked))
  kind_asked kind into (Short op p a q b) at scope k (first, second) =
      asked_if (has_call b) _ _
      (asked_both (prep s a (0 ∷ at) scope (row_at at 0 ∷ [])) _ (kind_asked ask weaker a (0 ∷ at) scope (row_at at 0 ∷ []) first)
      (asked_both (_ ∷ []) _ (asked_one _ (λ n a t e. false≢true (ap fills e)))
      (asked_both (prep s b (1 ∷ at) (s.temporary at ∷ scope) (row_at at 1 ∷ [])) _ (kind_asked ask weaker b (1 ∷ at) (s.temporary at ∷ scope) (row_at at 1 ∷ []) second)
      (asked_one _ (λ n a t e. false≢true (ap fills e))))))
      (asked_both (prep s a (0 ∷ at) scope _) _ (kind_asked ask weaker a (0 ∷ at) scope _ first) (kind_asked ask weaker b (1 ∷ at) _ k second))
  kind_asked kind into (Binary op a b) at scope k (first, second) =
      asked_both (prep s a (0 ∷ at) scope _) _ (kind_asked ask weaker a (0 ∷ at) scope _ first) (kind_asked ask weaker b (1 ∷ at) _ k second)
  kind_asked kind into (typed.More a b) at scope k (first, second) =
      asked_both (prep s a (0 ∷ at) scope _) _ (kind_asked kind into a (0 ∷ at) scope _ first) (kind_asked kind into b (1 ∷ at) _ k second)
  kind_asked kind into (Element a low high b) at scope k (first, second) =
      asked_both (prep s a (0 ∷ at) scope _) _ (kind_asked ask weaker a (0 ∷ at) scope _ first) (kind_asked ask weaker b (1 ∷ at) _ k second)
  kind_asked kind into (Name p x e t) at scope k fits = kind_asked ask weaker e (0 ∷ at) scope k fits
  kind_asked kind into (Component i e) at scope k fits = kind_asked ask weaker e (0 ∷ at) scope k fits
  kind_asked kind into (Designated e) at scope k fits = kind_asked ask weaker e (0 ∷ at) scope k fits
  kind_asked kind into (Image t e) at scope k fits = kind_asked ask weaker e (0 ∷ at) scope k fits
  kind_asked kind into (Unary op e) at scope k fits = kind_asked ask weaker e (0 ∷ at) scope k fits
  kind_asked kind into (IsNull equal e) at scope k fits = kind_asked ask weaker e (0 ∷ at) scope k fits
  kind_asked kind into (Parens e) at scope k fits = kind_asked kind into e (0 ∷ at) scope k fits
  kind_asked kind into (Aggregate t e) at scope k fits = kind_asked kind into e (0 ∷ at) scope k fits
  kind_asked kind into (Alike t e) at scope k fits = kind_asked kind into e (0 ∷ at) scope k fits
  kind_asked kind into (New t e) at scope k fits = kind_asked kind into e (0 ∷ at) scope k fits
  kind_asked kind into _ at scope k fits = λ p has n a t is. absurd has

  prep_asked : (e : TypedTree) (at : Place) (scope : List ℕ) (k : List PointName) → CallsOnly ask passed e → AreAsked (prep s e at scope k)
  prep_asked e at scope k fits = kind_asked ask weaker e at scope k fits

  passed_asked : (e : TypedTree) (at : Place) (scope : List ℕ) (k : List PointName) → PassedFit ask passed e → AreAsked (prep s e at scope k)
  passed_asked e at scope k fits = kind_asked passed wider e at scope k fits

  source_asked : (e : TypedTree) (at : Place) (scope : List ℕ) (k : List PointName) → SourceFits ask passed alone e → AreAsked (prep s e at scope k)
  source_asked e at scope k fits = kind_asked alone (λ n one. one) e at scope k fits

  -- ---- points that follow each other

  abbrev Follow : List NamedPoint → Type 0
  Follow ps = AreFollowed alone ps

  all_asked : (ps : List NamedPoint) → AreAsked ps → Follow ps
  all_asked ps asked p has n a t is = inl (asked p has n a t is)

  follow_both : (ps qs : List NamedPoint) → Follow ps → Follow qs → Follow (ps ++ qs)
  follow_both ps qs h g p has n a t is = elim (Has-append_cases ps qs p has) [
    | inl l ↦ elim (h p l n a t is) [
      | inl asked ↦ inl asked
      | inr (q, there, next, r, takes) ↦ inr (q, Has-append_left ps qs q there, next, r, takes)
    ]
    | inr r ↦ elim (g p r n a t is) [
      | inl asked ↦ inl asked
      | inr (q, there, next, r, takes) ↦ inr (q, Has-append_right ps qs q there, next, r, takes)
    ]
  ]

  -- a call and what takes its value
  follow_call : (ps qs : List NamedPoint) (c u : NamedPoint) (q : Pos) (n : ℕ) (a : TypedTree) (t : ℕ) → AreAsked ps → AreAsked qs → c.instr ≡ instruction.Call n a (Some t)
      → c.next ≡ u.name ∷ [] → Takes u.instr (typed.Call q n a) → CallsNone u.instr → Follow ((ps ++ c ∷ []) ++ (qs ++ u ∷ []))
  follow_call ps qs c u q n a t before between is next takes none p has k b o other = elim (Has-append_cases (ps ++ c ∷ []) (qs ++ u ∷ []) p has) [
    | inr later ↦ inl (asked_both qs (u ∷ []) between (asked_one u none) p later k b o other)
    | inl first ↦ elim (Has-append_cases ps (c ∷ []) p first) [
      | inl l ↦ inl (before p l k b o other)
      | inr (inr never) ↦ absurd never
      | inr (inl same) ↦ (
          let both : instruction.Call n a (Some t) ≡ instruction.Call k b (Some o) = sym is ∙ ap (λ (z : NamedPoint). z.instr) same ∙ other in
          let sub : n ≡ k = ap sub_in both in
          let actuals : a ≡ b = ap actuals_in both in
          inr (
            u,
            Has-append_right (ps ++ c ∷ []) (qs ++ u ∷ []) u (Has-append_right qs (u ∷ []) u (inl refl)),
            ap (λ (z : NamedPoint). z.next) (sym same) ∙ next,
            q,
            subst (λ z. Takes u.instr (typed.Call q z b)) sub (subst (λ z. Takes u.instr (typed.Call q n z)) actuals takes),
          ))
    ]
  ]

  uses_asked : (at : Place) (p : Pos) (e : TypedTree) (i : Instruction) (w : Around) (next : List PointName) → CallsOnly ask passed e → CallsNone i → AreAsked (uses s at p e i w next)
  uses_asked at p e i w next only none =
      asked_both (prep s e (0 ∷ at) w.scope (row_at at 0 ∷ [])) _ (prep_asked e (0 ∷ at) w.scope (row_at at 0 ∷ []) only) (asked_one _ none)

  uses_source : (at : Place) (p : Pos) (e : TypedTree) (i : Instruction) (w : Around) (next : List PointName) → SourceFits ask passed alone e → CallsNone i → AreAsked (uses s at p e i w next)
  uses_source at p e i w next source none =
      asked_both (prep s e (0 ∷ at) w.scope (row_at at 0 ∷ [])) _ (source_asked e (0 ∷ at) w.scope (row_at at 0 ∷ []) source) (asked_one _ none)

  no_more : (ps : List NamedPoint) → ps ++ [] ≡ ps
  no_more [] = refl
  no_more (p ∷ ps) = ap (λ z. p ∷ z) (no_more ps)

  -- a value that is declared with or returned
  value_follows : (at : Place) (p : Pos) (v : TypedTree) (i : Instruction) (w : Around) (next : List PointName) → ((e : TypedTree) → v ≡ typed.More e NoMore → Takes i e)
      → CallsNone i → ValueFits ask passed alone single v → Follow (uses s at p v i w next)
  unfolding prep
  value_follows at p v i w next takes none (inl only) = all_asked (uses s at p v i w next) (uses_source at p v i w next only none)
  value_follows at p v i w next takes none (inr (q, n, a, is, may, only)) =
      let actuals : List NamedPoint = prep s a (0 ∷ 0 ∷ 0 ∷ at) w.scope (row_at (0 ∷ 0 ∷ at) 0 ∷ []) in
      let call : NamedPoint = point (row_at (0 ∷ 0 ∷ at) 0) q (instruction.Call n a (Some (s.temporary (0 ∷ 0 ∷ at)))) (with_held s a (0 ∷ 0 ∷ 0 ∷ at) w.scope) (row_at at 0 ∷ []) in
      let user : NamedPoint = point (row_at at 0) p i (with_held s v (0 ∷ at) w.scope) next in
      let before : prep s v (0 ∷ at) w.scope (row_at at 0 ∷ []) ≡ actuals ++ call ∷ [] =
      ap (λ z. prep s z (0 ∷ at) w.scope (row_at at 0 ∷ [])) is ∙ no_more (actuals ++ call ∷ []) in
      subst (λ z. Follow (z ++ user ∷ [])) (sym before)
      (follow_call actuals [] call user q n a (s.temporary (0 ∷ 0 ∷ at)) (passed_asked a (0 ∷ 0 ∷ 0 ∷ at) w.scope (row_at (0 ∷ 0 ∷ at) 0 ∷ []) only) (λ r never. absurd never)
      refl refl (takes (typed.Call q n a) is) none)

  -- an assignment
  assign_follows : (at : Place) (p : Pos) (target e : TypedTree) (w : Around) (next : List PointName) → CallsOnly ask passed target → StoredFits ask passed alone single target e
      → Follow (uses_second_first s at p target e (instruction.Assign target e) w next)
  unfolding prep
  assign_follows at p target e w next only (inl plain) =
      all_asked (uses_second_first s at p target e (instruction.Assign target e) w next)
      (asked_both (prep s e (1 ∷ at) w.scope _ ++ prep s target (0 ∷ at) _ (row_at at 0 ∷ [])) _
      (asked_both (prep s e (1 ∷ at) w.scope _) (prep s target (0 ∷ at) _ (row_at at 0 ∷ [])) (source_asked e (1 ∷ at) w.scope _ plain)
      (prep_asked target (0 ∷ at) _ (row_at at 0 ∷ []) only))
      (asked_one _ (λ n a t e. false≢true (ap fills e))))
  assign_follows at p target e w next only (inr (q, n, a, is, may, plain, r, x, path, u, target_is, none)) =
      let actuals : List NamedPoint = prep s a (0 ∷ 1 ∷ at) w.scope (row_at (1 ∷ at) 0 ∷ []) in
      let inner : List ℕ = with_held s e (1 ∷ at) w.scope in
      let behind : List NamedPoint = prep s target (0 ∷ at) inner (row_at at 0 ∷ []) in
      let nothing : behind ≡ [] = ap (λ z. prep s z (0 ∷ at) inner (row_at at 0 ∷ [])) target_is ∙ none_before s path (0 ∷ 0 ∷ at) inner (row_at at 0 ∷ []) none in
      let call : NamedPoint = point (row_at (1 ∷ at) 0) q (instruction.Call n a (Some (s.temporary (1 ∷ at)))) (with_held s a (0 ∷ 1 ∷ at) w.scope) (row_at at 0 ∷ []) in
      let user : NamedPoint = point (row_at at 0) p (instruction.Assign target e) (with_held s target (0 ∷ at) inner) next in
      let before : (k : List PointName) → k ≡ row_at at 0 ∷ [] → prep s e (1 ∷ at) w.scope k ≡ actuals ++ call ∷ [] =
      (λ k same. ap (λ z. prep s z (1 ∷ at) w.scope k) is ∙ ap (prep s (typed.Call q n a) (1 ∷ at) w.scope) same) in
      subst (λ z. Follow ((z ++ behind) ++ user ∷ [])) (sym (before (entry behind (row_at at 0 ∷ [])) (ap (λ z. entry z (row_at at 0 ∷ [])) nothing)))
      (subst (λ z. Follow (((actuals ++ call ∷ []) ++ z) ++ user ∷ [])) (sym nothing)
      (subst (λ z. Follow (z ++ user ∷ [])) (sym (no_more (actuals ++ call ∷ [])))
      (follow_call actuals [] call user q n a (s.temporary (1 ∷ at)) (passed_asked a (0 ∷ 1 ∷ at) w.scope (row_at (1 ∷ at) 0 ∷ []) plain) (λ r never. absurd never) refl refl
      (inr (inl (r, x, path, u, (λ j. instruction.Assign (target_is j) (is j)), none))) (λ n a t e. false≢true (ap fills e)))))

  -- ---- all points

  ends_asked : (at : Place) (row : ℕ) (p : Pos) (xs scope : List ℕ) (k : List PointName) → AreAsked (ends at row p xs scope k)
  ends_asked at row p [] scope k = λ q never. absurd never
  ends_asked at row p (x ∷ xs) scope k =
      asked_both (_ ∷ []) (ends at (suc row) p xs (drop 1 (from x scope)) k) (asked_one _ (λ n a t e. false≢true (ap fills e))) (ends_asked at (suc row) p xs (drop 1 (from x scope)) k)

  hold_takes : (v e : TypedTree) → v ≡ typed.More e NoMore → Takes (instruction.Hold v) e
  hold_takes v e is = inr (inr (ap instruction.Hold is))

  declare_takes : (x : ℕ) (v e : TypedTree) → v ≡ typed.More e NoMore → Takes (instruction.Declare x v) e
  declare_takes x v e is = inl (x, ap (instruction.Declare x) is)

  only_uses : (at : Place) (p : Pos) (e : TypedTree) (i : Instruction) (w : Around) (next : List PointName) → CallsOnly ask passed e → CallsNone i → Follow (uses s at p e i w next)
  only_uses at p e i w next only none = all_asked (uses s at p e i w next) (uses_asked at p e i w next only none)

  only_one : (p : NamedPoint) → CallsNone p.instr → Follow (p ∷ [])
  only_one p none = all_asked (p ∷ []) (asked_one p none)

  laid_follows_cases : Laws (λ c. (at : Place) → (w : Around) → (k : List PointName) → CodeFits ask passed alone single c → Follow (laid s c at w k))
      (λ c. (at : Place) → (w : Around) → (k : List PointName) → (m : List PointName) → BranchesFit ask passed alone single c → Follow (laid_branches s c at w k m))
      (λ c. (at : Place) → (w : Around) → (k : List PointName) → (m : List PointName) → BranchFits ask passed alone single c → Follow (laid_branch s c at w k m))
      (λ c. (at : Place) → (w : Around) → (k : List PointName) → AlternativesFit ask passed alone single c → Follow (flat_map (λ ps. ps) (laid_whens s c at w k)))
      (λ c. (at : Place) → (w : Around) → (k : List PointName) → AlternativeFits ask passed alone single c → Follow (laid_when s c at w k))
  unfolding laid laid_branches laid_branch laid_whens laid_when CodeFits BranchesFit BranchFits AlternativesFit AlternativeFits
  laid_follows_cases = record {
    list = λ a rest by_a by_rest at w k (first, second).
        follow_both (laid s a (0 ∷ at) w _) (laid s rest (1 ∷ at) _ k) (by_a (0 ∷ at) w _ first) (by_rest (1 ∷ at) _ k second);
    declare = λ p x v at w k fits.
        value_follows at p v (instruction.Declare x v) w k (declare_takes x v) (λ n a t e. false≢true (ap fills e)) fits;
    assign = λ p target e at w k (only, source).
        assign_follows at p target e w k only source;
    skip = λ p at w k fits.
        only_one _ (λ n a t e. false≢true (ap fills e));
    call = λ p sub actuals at w k fits.
        all_asked (uses s at p actuals (instruction.Call sub actuals None) w k)
        (asked_both (prep s actuals (0 ∷ at) w.scope (row_at at 0 ∷ [])) _ (passed_asked actuals (0 ∷ at) w.scope (row_at at 0 ∷ []) fits) (asked_one _ (λ n a t e. false≢true (ap fills e))));
    output = λ p text line at w k fits.
        only_uses at p text (instruction.Output text line) w k fits (λ n a t e. false≢true (ap fills e));
    input = λ p target at w k fits.
        only_uses at p target (instruction.Input target) w k fits (λ n a t e. false≢true (ap fills e));
    release = λ p m at w k fits.
        only_uses at p m (instruction.Release m) w k fits (λ n a t e. false≢true (ap fills e));
    choice = λ branches otherwise by_branches by_otherwise at w k (first, second).
        follow_both (laid_branches s branches (0 ∷ at) w k _) (laid s otherwise (1 ∷ at) w k) (by_branches (0 ∷ at) w k _ first) (by_otherwise (1 ∷ at) w k second);
    cases = λ p e whens by_whens at w k (first, second).
        follow_both (uses s at p e _ w _) _ (only_uses at p e _ w _ first (λ n a t e. false≢true (ap fills e))) (by_whens (1 ∷ at) w k second);
    loop = λ stmts by_stmts at w k fits.
        by_stmts (0 ∷ at) (within_loop k w) _ fits;
    while = λ p e stmts by_stmts at w k (first, second).
        follow_both (uses s at p e (instruction.Test e) w _) _ (only_uses at p e (instruction.Test e) w _ first (λ n a t e. false≢true (ap fills e)))
        (by_stmts (1 ∷ at) (within_loop k w) _ second);
    for = λ p x reversed low high stmts by_stmts at w k (first, second, inside).
        follow_both (uses_both s at p low high (instruction.Start x reversed low high) w (row_at at 1 ∷ [])) _
        (all_asked (uses_both s at p low high (instruction.Start x reversed low high) w (row_at at 1 ∷ []))
        (asked_both (prep s low (0 ∷ at) w.scope _ ++ prep s high (1 ∷ at) _ (row_at at 0 ∷ [])) _
        (asked_both (prep s low (0 ∷ at) w.scope _) (prep s high (1 ∷ at) _ (row_at at 0 ∷ [])) (prep_asked low (0 ∷ at) w.scope _ first)
        (prep_asked high (1 ∷ at) _ (row_at at 0 ∷ []) second)) (asked_one _ (λ n a t e. false≢true (ap fills e)))))
        (follow_both (_ ∷ []) (laid s stmts (2 ∷ at) _ (row_at at 1 ∷ [])) (only_one _ (λ n a t e. false≢true (ap fills e))) (by_stmts (2 ∷ at) _ (row_at at 1 ∷ []) inside));
    exit = λ p e at w k fits.
        follow_both (uses s at p e (instruction.LeaveLoop e) w _) _ (only_uses at p e (instruction.LeaveLoop e) w _ fits (λ n a t e. false≢true (ap fills e)))
        (all_asked _ (ends_asked at 1 p w.in_loop w.scope w.leave));
    return = λ p v at w k fits.
        follow_both (uses s at p v (instruction.Hold v) w _) _ (value_follows at p v (instruction.Hold v) w _ (hold_takes v) (λ n a t e. false≢true (ap fills e)) fits)
        (follow_both (ends at 1 p w.in_all w.scope _) _ (all_asked _ (ends_asked at 1 p w.in_all w.scope _)) (only_one _ (λ n a t e. false≢true (ap fills e))));
    block = λ n stmts end by_stmts at w k fits.
        follow_both (laid s stmts (0 ∷ at) (within_block (ending s stmts) w) _) _ (by_stmts (0 ∷ at) (within_block (ending s stmts) w) _ fits)
        (all_asked _ (ends_asked at 0 end (ending s stmts) _ k));
    others = λ c other at w k fits. rw (laid_none s c at w k other) (λ p has. absurd has);
    branches = λ a rest by_a by_rest at w k m (first, second).
        follow_both (laid_branch s a (0 ∷ at) w k _) (laid_branches s rest (1 ∷ at) w k m) (by_a (0 ∷ at) w k _ first) (by_rest (1 ∷ at) w k m second);
    no_branches = λ c other at w k m fits. rw (branches_none s c at w k m other) (λ p has. absurd has);
    branch = λ p e stmts by_stmts at w k m (first, second).
        follow_both (uses s at p e (instruction.Test e) w _) _ (only_uses at p e (instruction.Test e) w _ first (λ n a t e. false≢true (ap fills e))) (by_stmts (1 ∷ at) w k second);
    no_branch = λ c other at w k m fits. rw (branch_none s c at w k m other) (λ p has. absurd has);
    alternatives = λ a rest by_a by_rest at w k (first, second).
        follow_both (laid_when s a (0 ∷ at) w k) _ (by_a (0 ∷ at) w k first) (by_rest (1 ∷ at) w k second);
    no_alternatives = λ c other at w k fits. rw (whens_none s c at w k other) (λ p has. absurd has);
    alternative = λ choices stmts by_stmts at w k fits.
        by_stmts (1 ∷ at) w k fits;
    no_alternative = λ c other at w k fits. rw (when_none s c at w k other) (λ p has. absurd has);
  }

  laid_follows : (c : TypedCode) (at : Place) (w : Around) (k : List PointName) → CodeFits ask passed alone single c → Follow (laid s c at w k)
  laid_follows = on_code laid_follows_cases

  end_follows : (sub : TypedSub) (b : Bool) → Follow (if b then function_end sub else procedure_end s sub)
  end_follows sub true = only_one _ (λ n a t e. false≢true (ap fills e))
  end_follows sub false =
      follow_both (ends [] 0 sub.end (ending s sub.body) (scope_at_end sub) _) _ (all_asked _ (ends_asked [] 0 sub.end (ending s sub.body) (scope_at_end sub) _))
      (only_one _ (λ n a t e. false≢true (ap fills e)))

-- So it is at each point of a subprogram.
pub sub_followed : (s : Setting) (sub : TypedSub) (ask passed alone single : ℕ → Type 0) → ((n : ℕ) → ask n → alone n) → ((n : ℕ) → passed n → alone n) → CodeFits ask passed alone single sub.body
    → AreFollowed alone (sub_points s sub)
sub_followed s sub ask passed alone single weaker wider fits =
    follow_both s ask passed alone single weaker wider (laid s sub.body (0 ∷ []) (around_body s sub) _) _
    (laid_follows s ask passed alone single weaker wider sub.body (0 ∷ []) (around_body s sub) _ fits) (end_follows s ask passed alone single weaker wider sub (is_some sub.result))
