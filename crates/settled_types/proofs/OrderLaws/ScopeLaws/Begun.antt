-- What a point of a subprogram declares, or ends the scope of, is an object that the subprogram declares.
use Rattle.std.proofs.Common.{refl, inl, inr, ℕ, suc, Bool, true, false, List, [], ◌∷◌, ◌++◌, None, if◌then◌else◌}
use Rattle.std.specs.Prelude.{flat_map, is_some, reverse}
use Rattle.std.specs.List.{AllByRecursion}
use Rattle.machine.specs.spark_base.declared.position.Pos.{Pos}
use Rattle.machine.specs.spark_base.Lists.{Has}
use Rattle.spark_base.proofs.Lists.{Has-append_left, Has-append_right, Has-append_cases, Has-filter}
use Rattle.machine.specs.typed_tree.Trees.{TypedTree, TypedCode, Declare, Output, Input, Release}
use Rattle.machine.specs.typed_tree.Trees as typed
use Rattle.machine.specs.typed_tree.Programs.{TypedSub}
use Rattle.machine.specs.flow_paths.Instructions.{Instruction}
use Rattle.machine.specs.flow_paths.Instructions as instruction
use Rattle.machine.specs.flow_paths.Names.{has_call}
use Rattle.machine.specs.flow_paths.Objects.{has_scope_end}
use Rattle.machine.specs.flow_paths.Points.{Place, PointName, row_at, NamedPoint}
use Rattle.machine.specs.flow_paths.Prep.{Setting, with_held, prep}
use Rattle.machine.specs.flow_paths.Layout.{Around, within_loop, within_block, with_scope, declared, ending, ends, uses, uses_both, laid, laid_branches, laid_branch, laid_whens, laid_when}
use Rattle.machine.specs.flow_paths.Laid.{declared_within, around_body, scope_at_end, function_end, procedure_end, sub_points, elaboration_points}
use Rattle.settled_types.proofs.TypedCases.{Laws, branch_none, branches_none, laid_none, on_code, on_tree, plain_prep, when_none, whens_none}
use Rattle.settled_types.proofs.OrderLaws.ScopeLaws.Lists.{all_both, all_one, all_if, all_has, has_reverse}

abbrev pub Begins : (ℕ → Type 0) → Instruction → Type 0
Begins P (instruction.Declare x v) = P x
Begins P (instruction.EndScope x) = P x
Begins P i = Unit {0}

abbrev IsBegun : (ℕ → Type 0) → NamedPoint → Type 0
IsBegun P p = Begins P p.instr

module _ (s : Setting) (P : ℕ → Type 0) where
  abbrev Begun : List NamedPoint → Type 0
  Begun ps = AllByRecursion (IsBegun P) ps

  abbrev AllOf : List ℕ → Type 0
  AllOf xs = (x : ℕ) → Has xs x → P x

  both : (ps qs : List NamedPoint) → Begun ps → Begun qs → Begun (ps ++ qs)
  both ps qs h g = all_both (IsBegun P) ps qs h g

  one_more : (ps : List NamedPoint) (p : NamedPoint) → Begun ps → IsBegun P p → Begun (ps ++ p ∷ [])
  one_more ps p h g = all_one (IsBegun P) ps p h g

  two : (x y : Place) (a b : TypedTree) (scope inner : List ℕ) (k l : List PointName)
      → ((scope : List ℕ) (k : List PointName) → Begun (prep s a x scope k)) → ((scope : List ℕ) (k : List PointName) → Begun (prep s b y scope k))
      → Begun (prep s a x scope k ++ prep s b y inner l)
  two x y a b scope inner k l first second = both (prep s a x scope k) (prep s b y inner l) (first scope k) (second inner l)

  prep_begun : (e : TypedTree) (at : Place) (scope : List ℕ) (k : List PointName) → Begun (prep s e at scope k)
  unfolding prep
  prep_begun = on_tree {Of = λ e. (at : Place) → (scope : List ℕ) → (k : List PointName) → Begun (prep s e at scope k)} (record {
    call = λ p sub actuals by_actuals at scope k.
        one_more (prep s actuals (0 ∷ at) scope (row_at at 0 ∷ [])) _ (by_actuals (0 ∷ at) scope (row_at at 0 ∷ [])) tt;
    short = λ op p a q b on_a by_b at scope k.
        let right : List NamedPoint = prep s b (1 ∷ at) (s.temporary at ∷ scope) (row_at at 1 ∷ []) in
        all_if (IsBegun P) (has_call b) _ _
        (both (prep s a (0 ∷ at) scope (row_at at 0 ∷ [])) _ (on_a (0 ∷ at) scope (row_at at 0 ∷ []))
        (tt, one_more right _ (by_b (1 ∷ at) (s.temporary at ∷ scope) (row_at at 1 ∷ [])) tt))
        (two (0 ∷ at) (1 ∷ at) a b scope _ _ k (on_a (0 ∷ at)) (by_b (1 ∷ at)));
    binary = λ op a b on_a by_b at scope k.
        two (0 ∷ at) (1 ∷ at) a b scope _ _ k (on_a (0 ∷ at)) (by_b (1 ∷ at));
    list = λ a b on_a by_b at scope k.
        two (0 ∷ at) (1 ∷ at) a b scope _ _ k (on_a (0 ∷ at)) (by_b (1 ∷ at));
    element = λ a low high b on_a by_b at scope k.
        two (0 ∷ at) (1 ∷ at) a b scope _ _ k (on_a (0 ∷ at)) (by_b (1 ∷ at));
    name = λ p x e u by_e at scope k.
        by_e (0 ∷ at) scope k;
    component = λ i e by_e at scope k.
        by_e (0 ∷ at) scope k;
    designated = λ e by_e at scope k.
        by_e (0 ∷ at) scope k;
    image = λ u e by_e at scope k.
        by_e (0 ∷ at) scope k;
    parens = λ e by_e at scope k.
        by_e (0 ∷ at) scope k;
    unary = λ op e by_e at scope k.
        by_e (0 ∷ at) scope k;
    is_null = λ equal e by_e at scope k.
        by_e (0 ∷ at) scope k;
    aggregate = λ u e by_e at scope k.
        by_e (0 ∷ at) scope k;
    alike = λ u e by_e at scope k.
        by_e (0 ∷ at) scope k;
    allocator = λ u e by_e at scope k.
        by_e (0 ∷ at) scope k;
    others = λ e plain at scope k. rw (plain_prep s e at scope k plain) (tt);
  })

  uses_begun : (at : Place) (p : Pos) (e : TypedTree) (i : Instruction) (w : Around) (next : List PointName) → Begins P i → Begun (uses s at p e i w next)
  uses_begun at p e i w next h = one_more (prep s e (0 ∷ at) w.scope (row_at at 0 ∷ [])) _ (prep_begun e (0 ∷ at) w.scope (row_at at 0 ∷ [])) h

  ends_begun : (at : Place) (row : ℕ) (p : Pos) (xs scope : List ℕ) (k : List PointName) → AllOf xs → Begun (ends at row p xs scope k)
  ends_begun at row p [] scope k all = tt
  ends_begun at row p (x ∷ xs) scope k all = (all x (inl refl), ends_begun at (suc row) p xs _ k (λ y has. all y (inr has)))

  all_of_both : (xs ys : List ℕ) → AllOf xs → AllOf ys → AllOf (xs ++ ys)
  all_of_both xs ys h g x has = elim (Has-append_cases xs ys x has) [ inl l ↦ h x l | inr r ↦ g x r ]

  declared_all : (c : TypedCode) → AllOf (declared_within c) → AllOf (declared c)
  unfolding declared declared_within
  declared_all (Declare p x v) all = all
  declared_all (typed.More a rest) all =
      all_of_both (declared a) (declared rest) (declared_all a (λ x has. all x (Has-append_left (declared_within a) (declared_within rest) x has)))
      (declared_all rest (λ x has. all x (Has-append_right (declared_within a) (declared_within rest) x has)))
  declared_all c all = λ x has. absurd has

  ending_all : (c : TypedCode) → AllOf (declared_within c) → AllOf (ending s c)
  ending_all c all x has = declared_all c all x (has_reverse (declared c) x (Has-filter (has_scope_end s.typing) (reverse (declared c)) x has).0)

  abbrev IsFine : Around → Type 0
  IsFine w = AllOf w.in_loop × AllOf w.in_all

  laid_begun_cases : Laws (λ c. (at : Place) → (w : Around) → (k : List PointName) → AllOf (declared_within c) → IsFine w → Begun (laid s c at w k))
      (λ c. (at : Place) → (w : Around) → (k : List PointName) → (m : List PointName) → AllOf (declared_within c) → IsFine w → Begun (laid_branches s c at w k m))
      (λ c. (at : Place) → (w : Around) → (k : List PointName) → (m : List PointName) → AllOf (declared_within c) → IsFine w → Begun (laid_branch s c at w k m))
      (λ c. (at : Place) → (w : Around) → (k : List PointName) → AllOf (declared_within c) → IsFine w → Begun (flat_map (λ ps. ps) (laid_whens s c at w k)))
      (λ c. (at : Place) → (w : Around) → (k : List PointName) → AllOf (declared_within c) → IsFine w → Begun (laid_when s c at w k))
  unfolding laid laid_branches laid_branch laid_whens laid_when declared_within
  laid_begun_cases = record {
    list = λ a rest by_a by_rest at w k all fine.
        both (laid s a (0 ∷ at) w _) _ (by_a (0 ∷ at) w _ (λ x has. all x (Has-append_left (declared_within a) (declared_within rest) x has)) fine)
        (by_rest (1 ∷ at) (with_scope (declared a) w) k (λ x has. all x (Has-append_right (declared_within a) (declared_within rest) x has)) fine);
    declare = λ p x v at w k all fine.
        uses_begun at p v (instruction.Declare x v) w k (all x (inl refl));
    assign = λ p target e at w k all fine.
        one_more (prep s e (1 ∷ at) w.scope _ ++ prep s target (0 ∷ at) (with_held s e (1 ∷ at) w.scope) _) _
        (both (prep s e (1 ∷ at) w.scope _) _ (prep_begun e (1 ∷ at) w.scope _) (prep_begun target (0 ∷ at) (with_held s e (1 ∷ at) w.scope) _)) tt;
    skip = λ p at w k all fine.
        (tt, tt);
    call = λ p sub actuals at w k all fine.
        uses_begun at p actuals (instruction.Call sub actuals None) w k tt;
    output = λ p text line at w k all fine.
        uses_begun at p text (instruction.Output text line) w k tt;
    input = λ p target at w k all fine.
        uses_begun at p target (instruction.Input target) w k tt;
    release = λ p m at w k all fine.
        uses_begun at p m (instruction.Release m) w k tt;
    choice = λ branches otherwise by_branches by_otherwise at w k all fine.
        both (laid_branches s branches (0 ∷ at) w k _) _
        (by_branches (0 ∷ at) w k _ (λ x has. all x (Has-append_left (declared_within branches) (declared_within otherwise) x has)) fine)
        (by_otherwise (1 ∷ at) w k (λ x has. all x (Has-append_right (declared_within branches) (declared_within otherwise) x has)) fine);
    cases = λ p e whens by_whens at w k all fine.
        both (uses s at p e _ w _) _ (uses_begun at p e _ w _ tt) (by_whens (1 ∷ at) w k all fine);
    loop = λ stmts by_stmts at w k all fine.
        by_stmts (0 ∷ at) (within_loop k w) _ all ((λ x has. absurd has), fine.1);
    while = λ p e stmts by_stmts at w k all fine.
        both (uses s at p e (instruction.Test e) w _) _ (uses_begun at p e (instruction.Test e) w _ tt) (by_stmts (1 ∷ at) (within_loop k w) _ all ((λ x has. absurd has), fine.1));
    for = λ p x reversed low high stmts by_stmts at w k all fine.
        both (uses_both s at p low high (instruction.Start x reversed low high) w _) _
        (one_more (prep s low (0 ∷ at) w.scope _ ++ prep s high (1 ∷ at) (with_held s low (0 ∷ at) w.scope) _) _
        (both (prep s low (0 ∷ at) w.scope _) _ (prep_begun low (0 ∷ at) w.scope _) (prep_begun high (1 ∷ at) (with_held s low (0 ∷ at) w.scope) _)) tt)
        (tt, by_stmts (2 ∷ at) (with_scope (x ∷ []) (within_loop k w)) _ (λ y has. all y (inr has)) ((λ y has. absurd has), fine.1));
    exit = λ p e at w k all fine.
        both (uses s at p e (instruction.LeaveLoop e) w _) _ (uses_begun at p e (instruction.LeaveLoop e) w _ tt) (ends_begun at 1 p w.in_loop w.scope w.leave fine.0);
    return = λ p v at w k all fine.
        both (uses s at p v (instruction.Hold v) w _) _ (uses_begun at p v (instruction.Hold v) w _ tt)
        (one_more (ends at 1 p w.in_all w.scope _) _ (ends_begun at 1 p w.in_all w.scope _ fine.1) tt);
    block = λ n stmts end by_stmts at w k all fine.
        both (laid s stmts (0 ∷ at) (within_block (ending s stmts) w) _) _
        (by_stmts (0 ∷ at) (within_block (ending s stmts) w) _ all
        (all_of_both (ending s stmts) w.in_loop (ending_all stmts all) fine.0, all_of_both (ending s stmts) w.in_all (ending_all stmts all) fine.1))
        (ends_begun at 0 end (ending s stmts) (reverse (declared stmts) ++ w.scope) k (ending_all stmts all));
    others = λ c other at w k all fine. rw (laid_none s c at w k other) (tt);
    branches = λ a rest by_a by_rest at w k m all fine.
        both (laid_branch s a (0 ∷ at) w k _) _ (by_a (0 ∷ at) w k _ (λ x has. all x (Has-append_left (declared_within a) (declared_within rest) x has)) fine)
        (by_rest (1 ∷ at) w k m (λ x has. all x (Has-append_right (declared_within a) (declared_within rest) x has)) fine);
    no_branches = λ c other at w k m all fine. rw (branches_none s c at w k m other) (tt);
    branch = λ p e stmts by_stmts at w k m all fine.
        both (uses s at p e (instruction.Test e) w _) _ (uses_begun at p e (instruction.Test e) w _ tt) (by_stmts (1 ∷ at) w k all fine);
    no_branch = λ c other at w k m all fine. rw (branch_none s c at w k m other) (tt);
    alternatives = λ a rest by_a by_rest at w k all fine.
        both (laid_when s a (0 ∷ at) w k) _ (by_a (0 ∷ at) w k (λ x has. all x (Has-append_left (declared_within a) (declared_within rest) x has)) fine)
        (by_rest (1 ∷ at) w k (λ x has. all x (Has-append_right (declared_within a) (declared_within rest) x has)) fine);
    no_alternatives = λ c other at w k all fine. rw (whens_none s c at w k other) (tt);
    alternative = λ choices stmts by_stmts at w k all fine.
        by_stmts (1 ∷ at) w k all fine;
    no_alternative = λ c other at w k all fine. rw (when_none s c at w k other) (tt);
  }

  laid_begun : (c : TypedCode) (at : Place) (w : Around) (k : List PointName) → AllOf (declared_within c) → IsFine w → Begun (laid s c at w k)
  laid_begun = on_code laid_begun_cases

  end_begun : (sub : TypedSub) (b : Bool) → AllOf (declared_within sub.body) → Begun (if b then function_end sub else procedure_end s sub)
  end_begun sub true all = (tt, tt)
  end_begun sub false all =
      one_more (ends [] 0 sub.end (ending s sub.body) (scope_at_end sub) _) _ (ends_begun [] 0 sub.end (ending s sub.body) (scope_at_end sub) _ (ending_all sub.body all)) tt

-- So it is of each point of a subprogram, and of the package objects.
pub sub_begun : (s : Setting) (P : ℕ → Type 0) (sub : TypedSub) → ((x : ℕ) → Has (declared_within sub.body) x → P x) → (p : NamedPoint) → Has (sub_points s sub) p
    → Begins P p.instr
sub_begun s P sub all p has =
    all_has (IsBegun P) (sub_points s sub) p
    (both s P (laid s sub.body (0 ∷ []) (around_body s sub) _) _
    (laid_begun s P sub.body (0 ∷ []) (around_body s sub) _ all ((λ x none. absurd none), ending_all s P sub.body all))
    (end_begun s P sub (is_some sub.result) all)) has

pub package_begun : (s : Setting) (P : ℕ → Type 0) (sub : TypedSub) → ((x : ℕ) → Has (declared_within sub.body) x → P x) → (p : NamedPoint)
    → Has (elaboration_points s sub) p → Begins P p.instr
package_begun s P sub all p has =
    all_has (IsBegun P) (elaboration_points s sub) p
    (both s P (laid s sub.body (0 ∷ []) (around_body s sub) _) []
    (laid_begun s P sub.body (0 ∷ []) (around_body s sub) _ all ((λ x none. absurd none), ending_all s P sub.body all)) tt) has
