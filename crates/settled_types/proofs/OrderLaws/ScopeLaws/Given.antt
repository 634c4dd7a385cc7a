-- A point that takes what a function gave, alone: the last temporary in scope is that of the call, which another point of
-- the subprogram fills.
use Rattle.std.proofs.Common.{◌≡◌, refl, sym, ap, ◌∙◌, subst, ◌⊎◌, inl, inr, ℕ, suc, Bool, true, false, ◌||◌, List, [], ◌∷◌, ◌++◌, drop, Some, None, if◌then◌else◌}
use Rattle.std.specs.Prelude.{flat_map, is_some}
use Rattle.std.proofs.lemmas.Bool.{false≢true, true≢false}
use Rattle.machine.specs.spark_base.declared.position.Pos.{Pos}
use Rattle.machine.specs.spark_base.Lists.{Has}
use Rattle.spark_base.proofs.Lists.{Has-append_left, Has-append_right, Has-append_cases}
use Rattle.machine.specs.typed_tree.Trees.{TypedTree, Name, NoMore, TypedCode, Declare, Assign, Skip, Output, Input, Release}
use Rattle.machine.specs.typed_tree.Trees as typed
use Rattle.machine.specs.typed_tree.Programs.{TypedSub}
use Rattle.machine.specs.flow_paths.Instructions.{Instruction}
use Rattle.machine.specs.flow_paths.Instructions as instruction
use Rattle.machine.specs.flow_paths.Names.{has_call}
use Rattle.machine.specs.flow_paths.Points.{Place, PointName, row_at, NamedPoint, point, entry}
use Rattle.machine.specs.flow_paths.Prep.{Setting, held, with_held, prep}
use Rattle.machine.specs.flow_paths.Layout.{Around, within_loop, within_block, with_scope, declared, from, ending, ends, uses, uses_both, uses_second_first, laid, laid_branches, laid_branch, laid_whens, laid_when, choices_of}
use Rattle.machine.specs.flow_paths.Laid.{around_body, scope_at_end, procedure_end, function_end, sub_points}
use Rattle.settled_types.proofs.TypedCases.{Laws, branch_none, branches_none, laid_none, on_code, on_tree, plain_held, plain_prep, when_none, whens_none}
use Rattle.settled_types.specs.OrderLaws.ScopeLaws.Returning.{is_return}

-- An object is declared with this alone, or it is assigned or returned.
abbrev pub Takes : Instruction → TypedTree → Type 0
Takes i call =
    ((x : ℕ) × (i ≡ instruction.Declare x (typed.More call NoMore)))
    ⊎ (((p : Pos) × (x : ℕ) × (path : TypedTree) × (u : ℕ) × (i ≡ instruction.Assign (Name p x path u) call) × (has_call path ≡ false))
    ⊎ (i ≡ instruction.Hold (typed.More call NoMore)))

-- The temporary of the call is the last one in scope, and one of these points fills it.
abbrev pub IsGiven : List NamedPoint → NamedPoint → Type 0
IsGiven whole p =
    (q : Pos) (n : ℕ) (a : TypedTree) → Takes p.instr (typed.Call q n a)
    → (t : ℕ) × (rest : List ℕ) × (p.scope ≡ t ∷ rest) × (r : NamedPoint) × Has whole r × (r.instr ≡ instruction.Call n a (Some t))

abbrev AreGiven : List NamedPoint → List NamedPoint → Type 0
AreGiven whole ps = (p : NamedPoint) → Has ps p → IsGiven whole p

-- Points that take nothing so.
abbrev AreOthers : List NamedPoint → Type 0
AreOthers ps = (p : NamedPoint) → Has ps p → (e : TypedTree) → Takes p.instr e → ⊥

neither : (a b : Bool) → a || b ≡ false → (a ≡ false) × (b ≡ false)
neither true b e = absurd (true≢false e)
neither false b e = (refl, e)

-- an expression without calls holds nothing
pub none_held : (s : Setting) (e : TypedTree) (at : Place) → has_call e ≡ false → held s e at ≡ []
unfolding held has_call
none_held s = on_tree {Of = λ e. (at : Place) → has_call e ≡ false → held s e at ≡ []} (record {
  call = λ p sub actuals _ at none.
      absurd (true≢false none);
  short = λ op p a q b on_a by_b at none.
      let two = neither (has_call a) (has_call b) none in
      ap (λ z. if z then s.temporary at ∷ [] else held s b (1 ∷ at) ++ held s a (0 ∷ at)) two.1
      ∙ (λ j. by_b (1 ∷ at) two.1 j ++ on_a (0 ∷ at) two.0 j);
  name = λ p x steps t by_steps at none.
      by_steps (0 ∷ at) none;
  component = λ i rest on_rest at none.
      on_rest (0 ∷ at) none;
  designated = λ rest on_rest at none.
      on_rest (0 ∷ at) none;
  element = λ index low high rest by_index on_rest at none.
      (let two = neither (has_call index) (has_call rest) none in (λ j. on_rest (1 ∷ at) two.1 j ++ by_index (0 ∷ at) two.0 j));
  image = λ t e by_e at none.
      by_e (0 ∷ at) none;
  parens = λ e by_e at none.
      by_e (0 ∷ at) none;
  unary = λ op e by_e at none.
      by_e (0 ∷ at) none;
  binary = λ op a b on_a by_b at none.
      (let two = neither (has_call a) (has_call b) none in (λ j. by_b (1 ∷ at) two.1 j ++ on_a (0 ∷ at) two.0 j));
  is_null = λ equal e by_e at none.
      by_e (0 ∷ at) none;
  aggregate = λ t parts by_parts at none.
      by_parts (0 ∷ at) none;
  alike = λ t e by_e at none.
      by_e (0 ∷ at) none;
  allocator = λ t v by_v at none.
      by_v (0 ∷ at) none;
  list = λ e rest by_e on_rest at none.
      (let two = neither (has_call e) (has_call rest) none in (λ j. on_rest (1 ∷ at) two.1 j ++ by_e (0 ∷ at) two.0 j));
  others = λ e plain at none. rw (plain_held s e at plain) (refl);
})

second_none : (c : Bool) (ps qs : List NamedPoint) → c ≡ false → qs ≡ [] → (if c then ps else qs) ≡ []
second_none true ps qs is none = absurd (true≢false is)
second_none false ps qs is none = none

-- nor has it points of its own
pub none_before : (s : Setting) (e : TypedTree) (at : Place) (scope : List ℕ) (k : List PointName) → has_call e ≡ false → prep s e at scope k ≡ []
unfolding prep has_call
none_before s = on_tree {Of = λ e. (at : Place) → (scope : List ℕ) → (k : List PointName) → has_call e ≡ false → prep s e at scope k ≡ []} (record {
  call = λ p sub actuals _ at scope k none.
      absurd (true≢false none);
  short = λ op p a q b on_a by_b at scope k none.
      let two = neither (has_call a) (has_call b) none in
      second_none (has_call b) _ _ two.1
      (λ j. on_a (0 ∷ at) scope (entry (prep s b (1 ∷ at) (with_held s a (0 ∷ at) scope) k) k) two.0 j ++ by_b (1 ∷ at) (with_held s a (0 ∷ at) scope) k two.1 j);
  name = λ p x e t by_e at scope k none.
      by_e (0 ∷ at) scope k none;
  component = λ i e by_e at scope k none.
      by_e (0 ∷ at) scope k none;
  designated = λ e by_e at scope k none.
      by_e (0 ∷ at) scope k none;
  element = λ a low high b on_a by_b at scope k none.
      (let two = neither (has_call a) (has_call b) none in
      (λ j. on_a (0 ∷ at) scope (entry (prep s b (1 ∷ at) (with_held s a (0 ∷ at) scope) k) k) two.0 j ++ by_b (1 ∷ at) (with_held s a (0 ∷ at) scope) k two.1 j));
  image = λ t e by_e at scope k none.
      by_e (0 ∷ at) scope k none;
  parens = λ e by_e at scope k none.
      by_e (0 ∷ at) scope k none;
  unary = λ op e by_e at scope k none.
      by_e (0 ∷ at) scope k none;
  binary = λ op a b on_a by_b at scope k none.
      (let two = neither (has_call a) (has_call b) none in
      (λ j. on_a (0 ∷ at) scope (entry (prep s b (1 ∷ at) (with_held s a (0 ∷ at) scope) k) k) two.0 j ++ by_b (1 ∷ at) (with_held s a (0 ∷ at) scope) k two.1 j));
  is_null = λ equal e by_e at scope k none.
      by_e (0 ∷ at) scope k none;
  aggregate = λ t e by_e at scope k none.
      by_e (0 ∷ at) scope k none;
  alike = λ t e by_e at scope k none.
      by_e (0 ∷ at) scope k none;
  allocator = λ t e by_e at scope k none.
      by_e (0 ∷ at) scope k none;
  list = λ a b on_a by_b at scope k none.
      (let two = neither (has_call a) (has_call b) none in
      (λ j. on_a (0 ∷ at) scope (entry (prep s b (1 ∷ at) (with_held s a (0 ∷ at) scope) k) k) two.0 j ++ by_b (1 ∷ at) (with_held s a (0 ∷ at) scope) k two.1 j));
  others = λ e plain at scope k none. rw (plain_prep s e at scope k plain) (refl);
})

-- ---- what an instruction takes

abbrev assigns : Instruction → Bool
assigns (instruction.Assign target e) = true
assigns i = false

abbrev takes : Instruction → Bool
takes (instruction.Declare x v) = true
takes (instruction.Assign target e) = true
takes (instruction.Hold v) = true
takes i = false

abbrev value_in : Instruction → TypedTree
value_in (instruction.Declare x v) = v
value_in (instruction.Hold v) = v
value_in i = NoMore

abbrev target_in : Instruction → TypedTree
target_in (instruction.Assign target e) = target
target_in i = NoMore

abbrev source_in : Instruction → TypedTree
source_in (instruction.Assign target e) = e
source_in i = NoMore

no_take : (i : Instruction) → takes i ≡ false → (e : TypedTree) → Takes i e → ⊥
no_take i none e (inl (x, is)) = true≢false (sym (ap takes is) ∙ none)
no_take i none e (inr (inl (p, x, path, u, is, calls))) = true≢false (sym (ap takes is) ∙ none)
no_take i none e (inr (inr is)) = true≢false (sym (ap takes is) ∙ none)

value_declared : (x : ℕ) (v e : TypedTree) → Takes (instruction.Declare x v) e → v ≡ typed.More e NoMore
value_declared x v e (inl (y, is)) = ap value_in is
value_declared x v e (inr (inl (p, y, path, u, is, calls))) = absurd (false≢true (ap assigns is))
value_declared x v e (inr (inr is)) = absurd (false≢true (ap is_return is))

value_returned : (v e : TypedTree) → Takes (instruction.Hold v) e → v ≡ typed.More e NoMore
value_returned v e (inl (y, is)) = absurd (true≢false (ap is_return is))
value_returned v e (inr (inl (p, y, path, u, is, calls))) = absurd (true≢false (ap is_return is))
value_returned v e (inr (inr is)) = ap value_in is

module _ (s : Setting) where
  -- ---- points that take nothing so

  others_both : (ps qs : List NamedPoint) → AreOthers ps → AreOthers qs → AreOthers (ps ++ qs)
  others_both ps qs h g p has = elim (Has-append_cases ps qs p has) [ inl l ↦ h p l | inr r ↦ g p r ]

  others_one : (p : NamedPoint) → ((e : TypedTree) → Takes p.instr e → ⊥) → AreOthers (p ∷ [])
  others_one p h q (inl same) e by = h e (subst (λ (z : NamedPoint). Takes z.instr e) (sym same) by)
  others_one p h q (inr never) e by = absurd never

  others_if : (b : Bool) (ps qs : List NamedPoint) → AreOthers ps → AreOthers qs → AreOthers (if b then ps else qs)
  others_if true ps qs h g = h
  others_if false ps qs h g = g

  prep_others : (e : TypedTree) (at : Place) (scope : List ℕ) (k : List PointName) → AreOthers (prep s e at scope k)
  unfolding prep
  prep_others = on_tree {Of = λ e. (at : Place) → (scope : List ℕ) → (k : List PointName) → AreOthers (prep s e at scope k)} (record {
    call = λ p sub actuals by_actuals at scope k.
        others_both (prep s actuals (0 ∷ at) scope (row_at at 0 ∷ [])) _ (by_actuals (0 ∷ at) scope (row_at at 0 ∷ []))
        (others_one _ (no_take (instruction.Call sub actuals (Some (s.temporary at))) refl));
    short = λ op p a q b on_a by_b at scope k.
        let right : List NamedPoint = prep s b (1 ∷ at) (s.temporary at ∷ scope) (row_at at 1 ∷ []) in
        others_if (has_call b) _ _
        (others_both (prep s a (0 ∷ at) scope (row_at at 0 ∷ [])) _ (on_a (0 ∷ at) scope (row_at at 0 ∷ []))
        (λ r has e by. elim has [
          | inl same ↦ no_take (instruction.Evaluate (s.temporary at) a (Some op)) refl e (subst (λ (z : NamedPoint). Takes z.instr e) (sym same) by)
          | inr more ↦ others_both right _ (by_b (1 ∷ at) (s.temporary at ∷ scope) (row_at at 1 ∷ [])) (others_one _ (no_take (instruction.Evaluate (s.temporary at) b None) refl)) r more e by
        ]))
        (others_both (prep s a (0 ∷ at) scope _) _ (on_a (0 ∷ at) scope _) (by_b (1 ∷ at) _ k));
    binary = λ op a b on_a by_b at scope k.
        others_both (prep s a (0 ∷ at) scope _) _ (on_a (0 ∷ at) scope _) (by_b (1 ∷ at) _ k);
    list = λ a b on_a by_b at scope k.
        others_both (prep s a (0 ∷ at) scope _) _ (on_a (0 ∷ at) scope _) (by_b (1 ∷ at) _ k);
    element = λ a low high b on_a by_b at scope k.
        others_both (prep s a (0 ∷ at) scope _) _ (on_a (0 ∷ at) scope _) (by_b (1 ∷ at) _ k);
    name = λ p x e u by_e at scope k.
        by_e (0 ∷ at) scope k;
    component = λ i e by_e at scope k.
        by_e (0 ∷ at) scope k;
    designated = λ e by_e at scope k.
        by_e (0 ∷ at) scope k;
    image = λ u e by_e at scope k.
        by_e (0 ∷ at) scope k;
    parens = λ e by_e at scope k.
        by_e (0 ∷ at) scope k;
    unary = λ op e by_e at scope k.
        by_e (0 ∷ at) scope k;
    is_null = λ equal e by_e at scope k.
        by_e (0 ∷ at) scope k;
    aggregate = λ t e by_e at scope k.
        by_e (0 ∷ at) scope k;
    alike = λ t e by_e at scope k.
        by_e (0 ∷ at) scope k;
    allocator = λ t e by_e at scope k.
        by_e (0 ∷ at) scope k;
    others = λ e plain at scope k. rw (plain_prep s e at scope k plain) (λ p has e by. absurd has);
  })

  ends_others : (at : Place) (row : ℕ) (p : Pos) (xs scope : List ℕ) (k : List PointName) → AreOthers (ends at row p xs scope k)
  ends_others at row p [] scope k = λ q has e by. absurd has
  ends_others at row p (x ∷ xs) scope k = λ q has e by. elim has [
    | inl same ↦ no_take (instruction.EndScope x) refl e (subst (λ (z : NamedPoint). Takes z.instr e) (sym same) by)
    | inr more ↦ ends_others at (suc row) p xs (drop 1 (from x scope)) k q more e by
  ]

  -- ---- the points of a subprogram

  module _ (whole : List NamedPoint) where
    abbrev Within : List NamedPoint → Type 0
    Within ps = (r : NamedPoint) → Has ps r → Has whole r

    first_of : (ps qs : List NamedPoint) → Within (ps ++ qs) → Within ps
    first_of ps qs within r has = within r (Has-append_left ps qs r has)

    second_of : (ps qs : List NamedPoint) → Within (ps ++ qs) → Within qs
    second_of ps qs within r has = within r (Has-append_right ps qs r has)

    others_given : (ps : List NamedPoint) → AreOthers ps → AreGiven whole ps
    others_given ps h p has q n a by = absurd (h p has (typed.Call q n a) by)

    given_both : (ps qs : List NamedPoint) → AreGiven whole ps → AreGiven whole qs → AreGiven whole (ps ++ qs)
    given_both ps qs h g p has = elim (Has-append_cases ps qs p has) [ inl l ↦ h p l | inr r ↦ g p r ]

    given_one : (p : NamedPoint) → IsGiven whole p → AreGiven whole (p ∷ [])
    given_one p h q (inl same) = subst (IsGiven whole) same h
    given_one p h q (inr never) = absurd never

    -- what fills the temporary of a call
    abbrev Filled : ℕ → TypedTree → ℕ → List NamedPoint → Type 0
    Filled n a t ps = (r : NamedPoint) × Has ps r × (r.instr ≡ instruction.Call n a (Some t))

    call_filled : (q : Pos) (n : ℕ) (a : TypedTree) (at : Place) (scope : List ℕ) (k : List PointName) → Filled n a (s.temporary at) (prep s (typed.Call q n a) at scope k)
    unfolding prep
    call_filled q n a at scope k =
        (_, Has-append_right (prep s a (0 ∷ at) scope (row_at at 0 ∷ [])) (_ ∷ []) _ (inl refl), refl)

    alone_filled : (q : Pos) (n : ℕ) (a : TypedTree) (at : Place) (scope : List ℕ) (k : List PointName)
        → Filled n a (s.temporary (0 ∷ at)) (prep s (typed.More (typed.Call q n a) NoMore) at scope k)
    unfolding prep
    alone_filled q n a at scope k =
        let found = call_filled q n a (0 ∷ at) scope (entry (prep s NoMore (1 ∷ at) (with_held s (typed.Call q n a) (0 ∷ at) scope) k) k) in
        (found.0, Has-append_left (prep s (typed.Call q n a) (0 ∷ at) scope _) _ found.0 found.1, found.2)

    alone_held : (q : Pos) (n : ℕ) (a : TypedTree) (at : Place) (scope : List ℕ) → with_held s (typed.More (typed.Call q n a) NoMore) at scope ≡ s.temporary (0 ∷ at) ∷ scope
    unfolding held
    alone_held q n a at scope = refl

    -- the value of a declaration or a return
    value_given : (i : Instruction) (v : TypedTree) → ((e : TypedTree) → Takes i e → v ≡ typed.More e NoMore) → (name : PointName) (p : Pos) (at : Place) (scope : List ℕ)
        (k next : List PointName) → Within (prep s v at scope k) → IsGiven whole (point name p i (with_held s v at scope) next)
    value_given i v only name p at scope k next within q n a by =
        let is : v ≡ typed.More (typed.Call q n a) NoMore = only (typed.Call q n a) by in
        let found = alone_filled q n a at scope k in (
          s.temporary (0 ∷ at),
          scope,
          ap (λ z. with_held s z at scope) is ∙ alone_held q n a at scope,
          found.0,
          within found.0 (subst (λ z. Has (prep s z at scope k) found.0) (sym is) found.1),
          found.2,
        )

    uses_given : (at : Place) (p : Pos) (v : TypedTree) (i : Instruction) (w : Around) (next : List PointName) → ((e : TypedTree) → Takes i e → v ≡ typed.More e NoMore)
        → Within (uses s at p v i w next) → AreGiven whole (uses s at p v i w next)
    uses_given at p v i w next only within =
        given_both (prep s v (0 ∷ at) w.scope (row_at at 0 ∷ [])) _ (others_given _ (prep_others v (0 ∷ at) w.scope (row_at at 0 ∷ [])))
        (given_one _ (value_given i v only (row_at at 0) p (0 ∷ at) w.scope (row_at at 0 ∷ []) next (first_of (prep s v (0 ∷ at) w.scope (row_at at 0 ∷ [])) _ within)))

    uses_others : (at : Place) (p : Pos) (v : TypedTree) (i : Instruction) (w : Around) (next : List PointName) → ((e : TypedTree) → Takes i e → ⊥)
        → AreGiven whole (uses s at p v i w next)
    uses_others at p v i w next none =
        others_given (uses s at p v i w next)
        (others_both (prep s v (0 ∷ at) w.scope (row_at at 0 ∷ [])) _ (prep_others v (0 ∷ at) w.scope (row_at at 0 ∷ [])) (others_one _ none))

    assign_given : (at : Place) (p : Pos) (target e : TypedTree) (w : Around) (next : List PointName)
        → Within (uses_second_first s at p target e (instruction.Assign target e) w next) → AreGiven whole (uses_second_first s at p target e (instruction.Assign target e) w next)
    unfolding held
    assign_given at p target e w next within =
        let behind : List NamedPoint = prep s target (0 ∷ at) (with_held s e (1 ∷ at) w.scope) (row_at at 0 ∷ []) in
        let before : List NamedPoint = prep s e (1 ∷ at) w.scope (entry behind (row_at at 0 ∷ [])) in
        given_both (before ++ behind) _
        (others_given _ (others_both before behind (prep_others e (1 ∷ at) w.scope (entry behind (row_at at 0 ∷ [])))
        (prep_others target (0 ∷ at) (with_held s e (1 ∷ at) w.scope) (row_at at 0 ∷ []))))
        (given_one _ (λ q n a by. elim by [
          | inl (x, is) ↦ absurd (true≢false (ap assigns is))
          | inr (inr is) ↦ absurd (true≢false (ap assigns is))
          | inr (inl (r, x, path, u, is, calls)) ↦ (
              let source_is : e ≡ typed.Call q n a = ap source_in is in
              let target_is : target ≡ Name r x path u = ap target_in is in
              let found = call_filled q n a (1 ∷ at) w.scope (entry behind (row_at at 0 ∷ [])) in (
                s.temporary (1 ∷ at),
                w.scope,
                ap (λ z. held s z (0 ∷ at) ++ with_held s e (1 ∷ at) w.scope) target_is ∙ ap (λ z. z ++ with_held s e (1 ∷ at) w.scope) (none_held s path (0 ∷ 0 ∷ at) calls)
                    ∙ ap (λ z. with_held s z (1 ∷ at) w.scope) source_is,
                found.0,
                first_of before behind (first_of (before ++ behind) _ within) found.0
                    (subst (λ z. Has (prep s z (1 ∷ at) w.scope (entry behind (row_at at 0 ∷ []))) found.0) (sym source_is) found.1),
                found.2,
              ))
        ]))

    one_other : (p : NamedPoint) → ((e : TypedTree) → Takes p.instr e → ⊥) → AreGiven whole (p ∷ [])
    one_other p none = given_one p (λ q n a by. absurd (none (typed.Call q n a) by))

    abbrev next_point : ℕ → Pos → Bool → TypedTree → TypedTree → TypedCode → Place → Around → List PointName → NamedPoint
    next_point x p reversed low high stmts at w k =
        point (row_at at 1) p (instruction.Next x reversed low high) (x ∷ w.scope)
        (entry (laid s stmts (2 ∷ at) (with_scope (x ∷ []) (within_loop k w)) (row_at at 1 ∷ [])) (row_at at 1 ∷ []) ++ k)

    laid_given_cases : Laws (λ c. (at : Place) → (w : Around) → (k : List PointName) → Within (laid s c at w k) → AreGiven whole (laid s c at w k))
        (λ c. (at : Place) → (w : Around) → (k : List PointName) → (m : List PointName) → Within (laid_branches s c at w k m) → AreGiven whole (laid_branches s c at w k m))
        (λ c. (at : Place) → (w : Around) → (k : List PointName) → (m : List PointName) → Within (laid_branch s c at w k m) → AreGiven whole (laid_branch s c at w k m))
        (λ c. (at : Place) → (w : Around) → (k : List PointName) → Within (flat_map (λ ps. ps) (laid_whens s c at w k)) → AreGiven whole (flat_map (λ ps. ps) (laid_whens s c at w k)))
        (λ c. (at : Place) → (w : Around) → (k : List PointName) → Within (laid_when s c at w k) → AreGiven whole (laid_when s c at w k))
    unfolding laid laid_branches laid_branch laid_whens laid_when
    laid_given_cases = record {
      list = λ a rest by_a by_rest at w k within.
          given_both (laid s a (0 ∷ at) w _) _ (by_a (0 ∷ at) w _ (first_of (laid s a (0 ∷ at) w _) _ within))
          (by_rest (1 ∷ at) (with_scope (declared a) w) k (second_of (laid s a (0 ∷ at) w _) _ within));
      declare = λ p x v at w k within.
          uses_given at p v (instruction.Declare x v) w k (value_declared x v) within;
      assign = λ p target e at w k within.
          assign_given at p target e w k within;
      skip = λ p at w k within.
          one_other (point (row_at at 0) p instruction.Skip w.scope k) (no_take instruction.Skip refl);
      call = λ p sub actuals at w k within.
          uses_others at p actuals (instruction.Call sub actuals None) w k (no_take (instruction.Call sub actuals None) refl);
      output = λ p text line at w k within.
          uses_others at p text (instruction.Output text line) w k (no_take (instruction.Output text line) refl);
      input = λ p target at w k within.
          uses_others at p target (instruction.Input target) w k (no_take (instruction.Input target) refl);
      release = λ p m at w k within.
          uses_others at p m (instruction.Release m) w k (no_take (instruction.Release m) refl);
      choice = λ branches otherwise by_branches by_otherwise at w k within.
          given_both (laid_branches s branches (0 ∷ at) w k _) _ (by_branches (0 ∷ at) w k _ (first_of (laid_branches s branches (0 ∷ at) w k _) _ within))
          (by_otherwise (1 ∷ at) w k (second_of (laid_branches s branches (0 ∷ at) w k _) _ within));
      cases = λ p e whens by_whens at w k within.
          given_both (uses s at p e _ w _) _ (uses_others at p e _ w _ (no_take (instruction.Choose e (choices_of whens)) refl))
          (by_whens (1 ∷ at) w k (second_of (uses s at p e _ w _) _ within));
      loop = λ stmts by_stmts at w k within.
          by_stmts (0 ∷ at) (within_loop k w) _ within;
      while = λ p e stmts by_stmts at w k within.
          given_both (uses s at p e (instruction.Test e) w _) _ (uses_others at p e (instruction.Test e) w _ (no_take (instruction.Test e) refl))
          (by_stmts (1 ∷ at) (within_loop k w) _ (second_of (uses s at p e (instruction.Test e) w _) _ within));
      for = λ p x reversed low high stmts by_stmts at w k within.
          given_both (uses_both s at p low high (instruction.Start x reversed low high) w (row_at at 1 ∷ [])) _
          (others_given _ (others_both (prep s low (0 ∷ at) w.scope _ ++ prep s high (1 ∷ at) (with_held s low (0 ∷ at) w.scope) (row_at at 0 ∷ [])) _
          (others_both (prep s low (0 ∷ at) w.scope _) _ (prep_others low (0 ∷ at) w.scope _) (prep_others high (1 ∷ at) (with_held s low (0 ∷ at) w.scope) (row_at at 0 ∷ [])))
          (others_one _ (no_take (instruction.Start x reversed low high) refl))))
          (given_both (next_point x p reversed low high stmts at w k ∷ []) (laid s stmts (2 ∷ at) (with_scope (x ∷ []) (within_loop k w)) (row_at at 1 ∷ []))
          (one_other (next_point x p reversed low high stmts at w k) (no_take (instruction.Next x reversed low high) refl))
          (by_stmts (2 ∷ at) (with_scope (x ∷ []) (within_loop k w)) (row_at at 1 ∷ [])
          (λ r has. second_of (uses_both s at p low high (instruction.Start x reversed low high) w (row_at at 1 ∷ [])) _ within r (inr has))));
      exit = λ p e at w k within.
          given_both (uses s at p e (instruction.LeaveLoop e) w _) _ (uses_others at p e (instruction.LeaveLoop e) w _ (no_take (instruction.LeaveLoop e) refl))
          (others_given _ (ends_others at 1 p w.in_loop w.scope w.leave));
      return = λ p v at w k within.
          given_both (uses s at p v (instruction.Hold v) w _) _ (uses_given at p v (instruction.Hold v) w _ (value_returned v) (first_of (uses s at p v (instruction.Hold v) w _) _ within))
          (others_given _ (others_both (ends at 1 p w.in_all w.scope _) _ (ends_others at 1 p w.in_all w.scope _)
          (others_one _ (no_take instruction.Finish refl))));
      block = λ n stmts end by_stmts at w k within.
          given_both (laid s stmts (0 ∷ at) (within_block (ending s stmts) w) _) _
          (by_stmts (0 ∷ at) (within_block (ending s stmts) w) _ (first_of (laid s stmts (0 ∷ at) (within_block (ending s stmts) w) _) _ within))
          (others_given _ (ends_others at 0 end (ending s stmts) _ k));
      others = λ c other at w k within. rw (laid_none s c at w k other) (λ p has. absurd has);
      branches = λ a rest by_a by_rest at w k m within.
          given_both (laid_branch s a (0 ∷ at) w k _) _ (by_a (0 ∷ at) w k _ (first_of (laid_branch s a (0 ∷ at) w k _) _ within))
          (by_rest (1 ∷ at) w k m (second_of (laid_branch s a (0 ∷ at) w k _) _ within));
      no_branches = λ c other at w k m within. rw (branches_none s c at w k m other) (λ p has. absurd has);
      branch = λ p e stmts by_stmts at w k m within.
          given_both (uses s at p e (instruction.Test e) w _) _ (uses_others at p e (instruction.Test e) w _ (no_take (instruction.Test e) refl))
          (by_stmts (1 ∷ at) w k (second_of (uses s at p e (instruction.Test e) w _) _ within));
      no_branch = λ c other at w k m within. rw (branch_none s c at w k m other) (λ p has. absurd has);
      alternatives = λ a rest by_a by_rest at w k within.
          given_both (laid_when s a (0 ∷ at) w k) _ (by_a (0 ∷ at) w k (first_of (laid_when s a (0 ∷ at) w k) _ within))
          (by_rest (1 ∷ at) w k (second_of (laid_when s a (0 ∷ at) w k) _ within));
      no_alternatives = λ c other at w k within. rw (whens_none s c at w k other) (λ p has. absurd has);
      alternative = λ choices stmts by_stmts at w k within.
          by_stmts (1 ∷ at) w k within;
      no_alternative = λ c other at w k within. rw (when_none s c at w k other) (λ p has. absurd has);
    }

    laid_given : (c : TypedCode) (at : Place) (w : Around) (k : List PointName) → Within (laid s c at w k) → AreGiven whole (laid s c at w k)
    laid_given = on_code laid_given_cases

    end_given : (sub : TypedSub) (b : Bool) → AreGiven whole (if b then function_end sub else procedure_end s sub)
    end_given sub true = one_other _ (no_take instruction.Fall refl)
    end_given sub false =
        others_given _ (others_both (ends [] 0 sub.end (ending s sub.body) (scope_at_end sub) _) _ (ends_others [] 0 sub.end (ending s sub.body) (scope_at_end sub) _)
        (others_one _ (no_take instruction.Finish refl)))

-- Of each point of a subprogram.
pub sub_given : (s : Setting) (sub : TypedSub) (p : NamedPoint) → Has (sub_points s sub) p → IsGiven (sub_points s sub) p
sub_given s sub =
    given_both s (sub_points s sub) (laid s sub.body (0 ∷ []) (around_body s sub) _) _
    (laid_given s (sub_points s sub) sub.body (0 ∷ []) (around_body s sub) _ (λ r has. Has-append_left (laid s sub.body (0 ∷ []) (around_body s sub) _) _ r has))
    (end_given s (sub_points s sub) sub (is_some sub.result))
