-- In a function each point stands before a return, is one, or follows one.
use Rattle.std.proofs.Common.{◌≡◌, refl, sym, subst, inl, inr, ℕ, suc, ◌≤◌, Bool, true, false, List, [], ◌∷◌, ◌++◌, length, reverse, arith, if◌then◌else◌}
use Rattle.std.specs.Prelude.{Some, None, flat_map, drop, is_some}
use Rattle.std.specs.List.{AllByRecursion}
use Rattle.machine.specs.spark_base.declared.position.Pos.{Pos}
use Rattle.machine.specs.spark_base.Lists.{Has}
use Rattle.spark_base.proofs.Lists.{Has-append_left, Has-append_right, Has-append_cases}
use Rattle.machine.specs.typed_tree.Trees.{TypedTree, TypedCode, Declare, Assign, Skip, Output, Input, Release, If, Branch, Case, When, Loop, While, For, Exit, Return, Block}
use Rattle.machine.specs.typed_tree.Trees as typed
use Rattle.machine.specs.typed_tree.Programs.{TypedSub}
use Rattle.machine.specs.flow_paths.Instructions.{Instruction, Evaluate, Finish}
use Rattle.machine.specs.flow_paths.Instructions as instruction
use Rattle.machine.specs.flow_paths.Names.{has_call, is_empty}
use Rattle.machine.specs.flow_paths.Points.{Place, PointName, row_at, NamedPoint, point, entry}
use Rattle.machine.specs.flow_paths.Prep.{Setting, with_held, prep}
use Rattle.machine.specs.flow_paths.Layout.{Around, within_loop, within_block, with_scope, declared, from, ending, ends, closing, uses, unless_empty, choices_of, laid, laid_branches, laid_branch, laid_whens, laid_when}
use Rattle.machine.specs.flow_paths.Laid.{around_body, function_end, procedure_end, body_points, sub_points}
use Rattle.settled_types.proofs.TypedCases.{Laws, branch_none, branches_none, laid_none, on_code, on_tree, plain_prep, when_none, whens_none}
use Rattle.settled_types.specs.OrderLaws.ScopeLaws.Returning.{is_return, is_finish, IsReturned, IsOpen, All, Stands, StartsAtZero, returns, closes, goes}
use Rattle.settled_types.proofs.OrderLaws.ScopeLaws.Lists.{all_both}

all_names : (P : PointName → Type 0) (ns ms : List PointName) → All P ns → All P ms → All P (ns ++ ms)
all_names P ns ms h g n has = elim (Has-append_cases ns ms n has) [ inl here ↦ h n here | inr more ↦ g n more ]

one_name : (P : PointName → Type 0) (m : PointName) → P m → All P (m ∷ [])
one_name P m h n (inl same) = subst P same h
one_name P m h n (inr never) = absurd never

no_name : (P : PointName → Type 0) → All P []
no_name P n has = absurd has

-- ---- first points

abbrev Zero : List NamedPoint → Type 0
Zero ps = StartsAtZero ps

zero_both : (ps qs : List NamedPoint) → Zero ps → Zero qs → Zero (ps ++ qs)
zero_both [] qs h g = g
zero_both (p ∷ ps) qs h g = h

zero_either : (b : Bool) (ps qs : List NamedPoint) → Zero ps → Zero qs → Zero (if b then ps else qs)
zero_either true ps qs h g = h
zero_either false ps qs h g = g

module _ (s : Setting) where
  prep_zero : (e : TypedTree) (at : Place) (scope : List ℕ) (k : List PointName) → Zero (prep s e at scope k)
  unfolding prep
  prep_zero = on_tree {Of = λ e. (at : Place) → (scope : List ℕ) → (k : List PointName) → Zero (prep s e at scope k)} (record {
    call = λ p sub actuals by_actuals at scope k.
        zero_both (prep s actuals (0 ∷ at) scope (row_at at 0 ∷ [])) _ (by_actuals (0 ∷ at) scope (row_at at 0 ∷ [])) refl;
    short = λ op p a q b on_a by_b at scope k.
        zero_either (has_call b) _ _ (zero_both (prep s a (0 ∷ at) scope (row_at at 0 ∷ [])) _ (on_a (0 ∷ at) scope (row_at at 0 ∷ [])) refl)
        (zero_both (prep s a (0 ∷ at) scope _) _ (on_a (0 ∷ at) scope _) (by_b (1 ∷ at) (with_held s a (0 ∷ at) scope) k));
    binary = λ op a b on_a by_b at scope k.
        zero_both (prep s a (0 ∷ at) scope _) _ (on_a (0 ∷ at) scope _) (by_b (1 ∷ at) (with_held s a (0 ∷ at) scope) k);
    list = λ a b on_a by_b at scope k.
        zero_both (prep s a (0 ∷ at) scope _) _ (on_a (0 ∷ at) scope _) (by_b (1 ∷ at) (with_held s a (0 ∷ at) scope) k);
    element = λ a low high b on_a by_b at scope k.
        zero_both (prep s a (0 ∷ at) scope _) _ (on_a (0 ∷ at) scope _) (by_b (1 ∷ at) (with_held s a (0 ∷ at) scope) k);
    name = λ p x e t by_e at scope k.
        by_e (0 ∷ at) scope k;
    component = λ i e by_e at scope k.
        by_e (0 ∷ at) scope k;
    designated = λ e by_e at scope k.
        by_e (0 ∷ at) scope k;
    image = λ t e by_e at scope k.
        by_e (0 ∷ at) scope k;
    parens = λ e by_e at scope k.
        by_e (0 ∷ at) scope k;
    unary = λ op e by_e at scope k.
        by_e (0 ∷ at) scope k;
    is_null = λ equal e by_e at scope k.
        by_e (0 ∷ at) scope k;
    aggregate = λ t e by_e at scope k.
        by_e (0 ∷ at) scope k;
    alike = λ t e by_e at scope k.
        by_e (0 ∷ at) scope k;
    allocator = λ t e by_e at scope k.
        by_e (0 ∷ at) scope k;
    others = λ e plain at scope k. rw (plain_prep s e at scope k plain) (tt);
  })

  uses_zero : (at : Place) (p : Pos) (e : TypedTree) (i : Instruction) (w : Around) (next : List PointName) → Zero (uses s at p e i w next)
  uses_zero at p e i w next = zero_both (prep s e (0 ∷ at) w.scope (row_at at 0 ∷ [])) _ (prep_zero e (0 ∷ at) w.scope (row_at at 0 ∷ [])) refl

  two_zero : (x y : Place) (a b : TypedTree) (scope inner : List ℕ) (k l : List PointName) (q : NamedPoint) → q.name.row ≡ 0 → Zero ((prep s a x scope k ++ prep s b y inner l) ++ q ∷ [])
  two_zero x y a b scope inner k l q is =
      zero_both (prep s a x scope k ++ prep s b y inner l) (q ∷ []) (zero_both (prep s a x scope k) (prep s b y inner l) (prep_zero a x scope k) (prep_zero b y inner l)) is

  -- a use has a first point
  more_zero : (at : Place) (p : Pos) (e : TypedTree) (i : Instruction) (w : Around) (next : List PointName) (qs : List NamedPoint) → Zero (uses s at p e i w next ++ qs)
  more_zero at p e i w next qs = by (prep s e (0 ∷ at) w.scope (row_at at 0 ∷ [])) (prep_zero e (0 ∷ at) w.scope (row_at at 0 ∷ []))
    where
      by : (ps : List NamedPoint) → Zero ps → Zero ((ps ++ point (row_at at 0) p i (with_held s e (0 ∷ at) w.scope) next ∷ []) ++ qs)
      by [] h = refl
      by (q ∷ ps) h = h

  pair_zero : (ps rs : List NamedPoint) (q : NamedPoint) (qs : List NamedPoint) → Zero ((ps ++ rs) ++ q ∷ []) → Zero (((ps ++ rs) ++ q ∷ []) ++ qs)
  pair_zero [] [] q qs h = h
  pair_zero [] (r ∷ rs) q qs h = h
  pair_zero (p ∷ ps) rs q qs h = h

  ends_zero : (at : Place) (p : Pos) (xs scope : List ℕ) (k : List PointName) → Zero (ends at 0 p xs scope k)
  ends_zero at p [] scope k = tt
  ends_zero at p (x ∷ xs) scope k = refl

  mutual
    unfolding laid laid_branches laid_branch laid_whens laid_when

    laid_zero : (c : TypedCode) (at : Place) (w : Around) (k : List PointName) → Zero (laid s c at w k)
    laid_zero (typed.More a rest) at w k = zero_both (laid s a (0 ∷ at) w _) _ (laid_zero a (0 ∷ at) w _) (laid_zero rest (1 ∷ at) (with_scope (declared a) w) k)
    laid_zero (Declare p x v) at w k = uses_zero at p v (instruction.Declare x v) w k
    laid_zero (Assign p target e) at w k = two_zero (1 ∷ at) (0 ∷ at) e target w.scope _ _ (row_at at 0 ∷ []) _ refl
    laid_zero (Skip p) at w k = refl
    laid_zero (typed.Call p sub actuals) at w k = uses_zero at p actuals (instruction.Call sub actuals None) w k
    laid_zero (Output p text line) at w k = uses_zero at p text (instruction.Output text line) w k
    laid_zero (Input p target) at w k = uses_zero at p target (instruction.Input target) w k
    laid_zero (Release p m) at w k = uses_zero at p m (instruction.Release m) w k
    laid_zero (If branches otherwise) at w k = zero_both (laid_branches s branches (0 ∷ at) w k _) _ (branches_zero branches (0 ∷ at) w k _) (laid_zero otherwise (1 ∷ at) w k)
    laid_zero (Case p e whens) at w k = more_zero at p e (instruction.Choose e (choices_of whens)) w _ _
    laid_zero (Loop stmts) at w k = laid_zero stmts (0 ∷ at) (within_loop k w) _
    laid_zero (While p e stmts) at w k = more_zero at p e (instruction.Test e) w _ _
    laid_zero (For p x reversed low high stmts) at w k =
        pair_zero (prep s low (0 ∷ at) w.scope _) (prep s high (1 ∷ at) (with_held s low (0 ∷ at) w.scope) (row_at at 0 ∷ [])) _ _ (two_zero (0 ∷ at) (1 ∷ at) low high w.scope _ _ (row_at at 0 ∷ []) _ refl)
    laid_zero (Exit p e) at w k = more_zero at p e (instruction.LeaveLoop e) w _ _
    laid_zero (Return p v) at w k = more_zero at p v (instruction.Hold v) w _ _
    laid_zero (Block n stmts end) at w k =
        zero_both (laid s stmts (0 ∷ at) (within_block (ending s stmts) w) _) _ (laid_zero stmts (0 ∷ at) (within_block (ending s stmts) w) _)
        (ends_zero at end (ending s stmts) (reverse (declared stmts) ++ w.scope) k)
    laid_zero _ at w k = tt

    branches_zero : (c : TypedCode) (at : Place) (w : Around) (k otherwise : List PointName) → Zero (laid_branches s c at w k otherwise)
    branches_zero (typed.More a rest) at w k otherwise = zero_both (laid_branch s a (0 ∷ at) w k _) _ (branch_zero a (0 ∷ at) w k _) (branches_zero rest (1 ∷ at) w k otherwise)
    branches_zero _ at w k otherwise = tt

    branch_zero : (c : TypedCode) (at : Place) (w : Around) (k otherwise : List PointName) → Zero (laid_branch s c at w k otherwise)
    branch_zero (Branch p e stmts) at w k otherwise = more_zero at p e (instruction.Test e) w _ _
    branch_zero _ at w k otherwise = tt

  whens_zero : (c : TypedCode) (at : Place) (w : Around) (k : List PointName) → AllByRecursion Zero (laid_whens s c at w k)
  unfolding laid_whens laid_when
  whens_zero (typed.More (When choices stmts) rest) at w k = (laid_zero stmts (1 ∷ (0 ∷ at)) w k, whens_zero rest (1 ∷ at) w k)
  whens_zero (typed.More _ rest) at w k = (tt, whens_zero rest (1 ∷ at) w k)
  whens_zero _ at w k = tt

-- ---- points among all of a subprogram

module _ (W : List NamedPoint) where
  abbrev In : List NamedPoint → Type 0
  In ps = (q : NamedPoint) → Has ps q → Has W q

  in_left : (ps qs : List NamedPoint) → In (ps ++ qs) → In ps
  in_left ps qs h q has = h q (Has-append_left ps qs q has)

  in_right : (ps qs : List NamedPoint) → In (ps ++ qs) → In qs
  in_right ps qs h q has = h q (Has-append_right ps qs q has)

  in_middle : (ps : List NamedPoint) (q : NamedPoint) (qs : List NamedPoint) → In (ps ++ q ∷ qs) → Has W q
  in_middle ps q qs h = h q (Has-append_right ps (q ∷ qs) q (inl refl))

  abbrev Standing : List NamedPoint → Type 0
  Standing ps = AllByRecursion (Stands W) ps

  both : (ps qs : List NamedPoint) → Standing ps → Standing qs → Standing (ps ++ qs)
  both ps qs h g = all_both (Stands W) ps qs h g

  open_zero : (at : Place) → IsOpen W (row_at at 0)
  open_zero at = inl refl

  -- where some points begin
  entry_open : (ps : List NamedPoint) (k : List PointName) → Zero ps → All (IsOpen W) k → All (IsOpen W) (entry ps k)
  entry_open [] k first free = free
  entry_open (p ∷ ps) k first free = one_name (IsOpen W) p.name (inl first)

  plain : (p : NamedPoint) → is_return p.instr ≡ false → is_finish p.instr ≡ false → p.name.row ≡ 0 → All (IsOpen W) p.next → Stands W p
  plain p none no_end row free = goes none no_end (inl row) free

  module _ (s : Setting) where
    either : (b : Bool) (ps qs : List NamedPoint) → (In ps → Standing ps) → (In qs → Standing qs) → In (if b then ps else qs) → Standing (if b then ps else qs)
    either true ps qs h g within = h within
    either false ps qs h g within = g within

    pair_stands : (a b : TypedTree) (x y : Place) (scope inner : List ℕ) (k : List PointName)
        → In (prep s a x scope (entry (prep s b y inner k) k) ++ prep s b y inner k) → All (IsOpen W) k
        → ((l : List PointName) → In (prep s a x scope l) → All (IsOpen W) l → Standing (prep s a x scope l))
        → ((l : List PointName) → In (prep s b y inner l) → All (IsOpen W) l → Standing (prep s b y inner l))
        → Standing (prep s a x scope (entry (prep s b y inner k) k) ++ prep s b y inner k)
    pair_stands a b x y scope inner k within free first second =
        let behind : List NamedPoint = prep s b y inner k in
        let ps : List NamedPoint = prep s a x scope (entry behind k) in
        both ps behind (first (entry behind k) (in_left ps behind within) (entry_open behind k (prep_zero s b y inner k) free)) (second k (in_right ps behind within) free)

    prep_stands : (e : TypedTree) (at : Place) (scope : List ℕ) (k : List PointName) → In (prep s e at scope k) → All (IsOpen W) k → Standing (prep s e at scope k)
    unfolding prep
    prep_stands = on_tree {Of = λ e. (at : Place) → (scope : List ℕ) → (k : List PointName) → In (prep s e at scope k) → All (IsOpen W) k → Standing (prep s e at scope k)} (record {
      call = λ p sub actuals by_actuals at scope k within free.
          both (prep s actuals (0 ∷ at) scope (row_at at 0 ∷ [])) _
          (by_actuals (0 ∷ at) scope (row_at at 0 ∷ []) (in_left (prep s actuals (0 ∷ at) scope (row_at at 0 ∷ [])) _ within) (one_name (IsOpen W) (row_at at 0) (inl refl)))
          (goes refl refl (inl refl) free, tt);
      short = λ op p a q b on_a by_b at scope k within free.
          either (has_call b) _ _
          (λ inside.
          let before : List NamedPoint = prep s a (0 ∷ at) scope (row_at at 0 ∷ []) in
          let middle : List NamedPoint = prep s b (1 ∷ at) (s.temporary at ∷ scope) (row_at at 1 ∷ []) in
          let m : NamedPoint = point (row_at at 0) p (Evaluate (s.temporary at) a (Some op)) (with_held s a (0 ∷ at) scope) (entry middle (row_at at 1 ∷ []) ++ k) in
          let n : NamedPoint = point (row_at at 1) q (Evaluate (s.temporary at) b None) (with_held s b (1 ∷ at) (s.temporary at ∷ scope)) k in
          let second : IsOpen W (row_at at 1) = inr (m, in_middle before m (middle ++ n ∷ []) inside, refl, refl) in
          both before (m ∷ (middle ++ n ∷ []))
          (on_a (0 ∷ at) scope (row_at at 0 ∷ []) (in_left before (m ∷ (middle ++ n ∷ [])) inside) (one_name (IsOpen W) (row_at at 0) (inl refl))) (
            goes refl refl (inl refl)
                (all_names (IsOpen W) (entry middle (row_at at 1 ∷ [])) k
                (entry_open middle (row_at at 1 ∷ []) (prep_zero s b (1 ∷ at) (s.temporary at ∷ scope) (row_at at 1 ∷ [])) (one_name (IsOpen W) (row_at at 1) second)) free),
            both middle (n ∷ [])
                (by_b (1 ∷ at) (s.temporary at ∷ scope) (row_at at 1 ∷ []) (λ r has. in_right before (m ∷ (middle ++ n ∷ [])) inside r (inr (Has-append_left middle (n ∷ []) r has)))
                (one_name (IsOpen W) (row_at at 1) second))
                (goes refl refl second free, tt),
          ))
          (λ inside. pair_stands a b (0 ∷ at) (1 ∷ at) scope (with_held s a (0 ∷ at) scope) k inside free (on_a (0 ∷ at) scope) (by_b (1 ∷ at) (with_held s a (0 ∷ at) scope)))
          within;
      binary = λ op a b on_a by_b at scope k within free.
          pair_stands a b (0 ∷ at) (1 ∷ at) scope (with_held s a (0 ∷ at) scope) k within free (on_a (0 ∷ at) scope) (by_b (1 ∷ at) (with_held s a (0 ∷ at) scope));
      list = λ a b on_a by_b at scope k within free.
          pair_stands a b (0 ∷ at) (1 ∷ at) scope (with_held s a (0 ∷ at) scope) k within free (on_a (0 ∷ at) scope) (by_b (1 ∷ at) (with_held s a (0 ∷ at) scope));
      element = λ a low high b on_a by_b at scope k within free.
          pair_stands a b (0 ∷ at) (1 ∷ at) scope (with_held s a (0 ∷ at) scope) k within free (on_a (0 ∷ at) scope) (by_b (1 ∷ at) (with_held s a (0 ∷ at) scope));
      name = λ p x e t by_e at scope k within free.
          by_e (0 ∷ at) scope k within free;
      component = λ i e by_e at scope k within free.
          by_e (0 ∷ at) scope k within free;
      designated = λ e by_e at scope k within free.
          by_e (0 ∷ at) scope k within free;
      image = λ t e by_e at scope k within free.
          by_e (0 ∷ at) scope k within free;
      parens = λ e by_e at scope k within free.
          by_e (0 ∷ at) scope k within free;
      unary = λ op e by_e at scope k within free.
          by_e (0 ∷ at) scope k within free;
      is_null = λ equal e by_e at scope k within free.
          by_e (0 ∷ at) scope k within free;
      aggregate = λ t e by_e at scope k within free.
          by_e (0 ∷ at) scope k within free;
      alike = λ t e by_e at scope k within free.
          by_e (0 ∷ at) scope k within free;
      allocator = λ t e by_e at scope k within free.
          by_e (0 ∷ at) scope k within free;
      others = λ e plain at scope k within free. rw (plain_prep s e at scope k plain) (tt);
    })

    uses_stands : (at : Place) (p : Pos) (e : TypedTree) (i : Instruction) (w : Around) (next : List PointName) → is_return i ≡ false → is_finish i ≡ false → All (IsOpen W) next
        → In (uses s at p e i w next) → Standing (uses s at p e i w next)
    uses_stands at p e i w next none no_end free within =
        let before : List NamedPoint = prep s e (0 ∷ at) w.scope (row_at at 0 ∷ []) in
        both before _ (prep_stands e (0 ∷ at) w.scope (row_at at 0 ∷ []) (in_left before _ within) (one_name (IsOpen W) (row_at at 0) (inl refl)))
        (goes none no_end (inl refl) free, tt)

    two_stand : (x y : Place) (a b : TypedTree) (scope inner : List ℕ) (l : PointName) (q : NamedPoint) → l.row ≡ 0 → is_return q.instr ≡ false → is_finish q.instr ≡ false → q.name.row ≡ 0
        → All (IsOpen W) q.next → In ((prep s a x scope (entry (prep s b y inner (l ∷ [])) (l ∷ [])) ++ prep s b y inner (l ∷ [])) ++ q ∷ [])
        → Standing ((prep s a x scope (entry (prep s b y inner (l ∷ [])) (l ∷ [])) ++ prep s b y inner (l ∷ [])) ++ q ∷ [])
    two_stand x y a b scope inner l q first none no_end row free within =
        let ps : List NamedPoint = prep s a x scope (entry (prep s b y inner (l ∷ [])) (l ∷ [])) ++ prep s b y inner (l ∷ []) in
        both ps (q ∷ [])
        (pair_stands a b x y scope inner (l ∷ []) (in_left ps (q ∷ []) within) (one_name (IsOpen W) l (inl first)) (prep_stands a x scope) (prep_stands b y inner))
        (goes none no_end (inl row) free, tt)

    -- ---- the ends of scopes

    -- Those of an exit or of a block.
    ends_open : (at : Place) (q : NamedPoint) → Has W q → q.name ≡ row_at at 0 → is_return q.instr ≡ false → (row : ℕ) → IsOpen W (row_at at row)
    ends_open at q has is none row = inr (q, has, is, none)

    names_open : (at : Place) → ((row : ℕ) → IsOpen W (row_at at row)) → (row : ℕ) (p : Pos) (xs scope : List ℕ) (k : List PointName) → All (IsOpen W) k
        → All (IsOpen W) (entry (ends at row p xs scope k) k)
    names_open at free row p [] scope k on = on
    names_open at free row p (x ∷ xs) scope k on = one_name (IsOpen W) (row_at at row) (free row)

    ends_stand : (at : Place) → ((row : ℕ) → IsOpen W (row_at at row)) → (row : ℕ) (p : Pos) (xs scope : List ℕ) (k : List PointName) → All (IsOpen W) k → Standing (ends at row p xs scope k)
    ends_stand at free row p [] scope k on = tt
    ends_stand at free row p (x ∷ xs) scope k on = (
      goes refl refl (free row) (names_open at free (suc row) p xs (drop 1 (from x scope)) k on),
      ends_stand at free (suc row) p xs (drop 1 (from x scope)) k on,
    )

    -- Those of a block begin at its own first point.
    block_stands : (at : Place) (p : Pos) (xs scope : List ℕ) (k : List PointName) → In (ends at 0 p xs scope k) → All (IsOpen W) k → Standing (ends at 0 p xs scope k)
    block_stands at p [] scope k within on = tt
    block_stands at p (x ∷ xs) scope k within on =
        let q : NamedPoint = point (row_at at 0) p (instruction.EndScope x) (from x scope) (entry (ends at 1 p xs (drop 1 (from x scope)) k) k) in
        ends_stand at (ends_open at q (within q (inl refl)) refl refl) 0 p (x ∷ xs) scope k on

    -- Those of a return, and the end of the call.
    closing_entry : (at : Place) → ((row : ℕ) → 1 ≤ row → IsReturned W (row_at at row)) → (row : ℕ) → 1 ≤ row → (p : Pos) (xs scope formals : List ℕ) (finish : ℕ) → 1 ≤ finish
        → All (IsReturned W) (entry (ends at row p xs scope (row_at at finish ∷ []) ++ point (row_at at finish) p Finish formals [] ∷ []) [])
    closing_entry at is row low p [] scope formals finish more = one_name (IsReturned W) (row_at at finish) (is finish more)
    closing_entry at is row low p (x ∷ xs) scope formals finish more = one_name (IsReturned W) (row_at at row) (is row low)

    names_returned : (at : Place) → ((row : ℕ) → 1 ≤ row → IsReturned W (row_at at row)) → (row : ℕ) → 1 ≤ row → (p : Pos) (xs scope : List ℕ) (finish : ℕ) → 1 ≤ finish
        → All (IsReturned W) (entry (ends at row p xs scope (row_at at finish ∷ [])) (row_at at finish ∷ []))
    names_returned at is row low p [] scope finish more = one_name (IsReturned W) (row_at at finish) (is finish more)
    names_returned at is row low p (x ∷ xs) scope finish more = one_name (IsReturned W) (row_at at row) (is row low)

    closing_stands : (at : Place) → ((row : ℕ) → 1 ≤ row → IsReturned W (row_at at row)) → (row : ℕ) → 1 ≤ row → (p : Pos) (xs scope formals : List ℕ) (finish : ℕ) → 1 ≤ finish
        → Standing (ends at row p xs scope (row_at at finish ∷ []) ++ point (row_at at finish) p Finish formals [] ∷ [])
    closing_stands at is row low p [] scope formals finish more = (closes (inr refl) (is finish more) (no_name (IsReturned W)), tt)
    closing_stands at is row low p (x ∷ xs) scope formals finish more = (
      closes (inl (x, refl)) (is row low) (names_returned at is (suc row) (omega arith) p xs (drop 1 (from x scope)) finish more),
      closing_stands at is (suc row) (omega arith) p xs (drop 1 (from x scope)) formals finish more,
    )

    -- ---- statements

    unless_open : (b : Bool) (k : List PointName) → All (IsOpen W) k → All (IsOpen W) (if b then [] else k)
    unless_open true k on = no_name (IsOpen W)
    unless_open false k on = on

    lists_open : (pss : List (List NamedPoint)) (k : List PointName) → AllByRecursion Zero pss → All (IsOpen W) k → All (IsOpen W) (flat_map (λ ps. entry ps k) pss)
    lists_open [] k first on = no_name (IsOpen W)
    lists_open (ps ∷ pss) k first on = all_names (IsOpen W) (entry ps k) (flat_map (λ qs. entry qs k) pss) (entry_open ps k first.0 on) (lists_open pss k first.1 on)

    laid_stands_cases : Laws (λ c. (at : Place) → (w : Around) → (k : List PointName) → All (IsOpen W) w.leave → All (IsOpen W) k → In (laid s c at w k) → Standing (laid s c at w k))
        (λ c. (at : Place) → (w : Around) → (k : List PointName) → (otherwise : List PointName) → All (IsOpen W) w.leave → All (IsOpen W) k → All (IsOpen W) otherwise → In (laid_branches s c at w k otherwise) → Standing (laid_branches s c at w k otherwise))
        (λ c. (at : Place) → (w : Around) → (k : List PointName) → (otherwise : List PointName) → All (IsOpen W) w.leave → All (IsOpen W) k → All (IsOpen W) otherwise → In (laid_branch s c at w k otherwise) → Standing (laid_branch s c at w k otherwise))
        (λ c. (at : Place) → (w : Around) → (k : List PointName) → All (IsOpen W) w.leave → All (IsOpen W) k → In (flat_map (λ ps. ps) (laid_whens s c at w k)) → Standing (flat_map (λ ps. ps) (laid_whens s c at w k)))
        (λ c. (at : Place) → (w : Around) → (k : List PointName) → All (IsOpen W) w.leave → All (IsOpen W) k → In (laid_when s c at w k) → Standing (laid_when s c at w k))
    unfolding laid laid_branches laid_branch laid_whens laid_when
    laid_stands_cases = record {
      list = λ a rest by_a by_rest at w k out on within.
          let behind : List NamedPoint = laid s rest (1 ∷ at) (with_scope (declared a) w) k in
          let ps : List NamedPoint = laid s a (0 ∷ at) w (entry behind k) in
          both ps behind
          (by_a (0 ∷ at) w (entry behind k) out (entry_open behind k (laid_zero s rest (1 ∷ at) (with_scope (declared a) w) k) on) (in_left ps behind within))
          (by_rest (1 ∷ at) (with_scope (declared a) w) k out on (in_right ps behind within));
      declare = λ p x v at w k out on within.
          uses_stands at p v (instruction.Declare x v) w k refl refl on within;
      assign = λ p target e at w k out on within.
          two_stand (1 ∷ at) (0 ∷ at) e target w.scope (with_held s e (1 ∷ at) w.scope) (row_at at 0)
          (point (row_at at 0) p (instruction.Assign target e) (with_held s target (0 ∷ at) (with_held s e (1 ∷ at) w.scope)) k) refl refl refl refl on within;
      skip = λ p at w k out on within.
          (goes refl refl (inl refl) on, tt);
      call = λ p sub actuals at w k out on within.
          uses_stands at p actuals (instruction.Call sub actuals None) w k refl refl on within;
      output = λ p text line at w k out on within.
          uses_stands at p text (instruction.Output text line) w k refl refl on within;
      input = λ p target at w k out on within.
          uses_stands at p target (instruction.Input target) w k refl refl on within;
      release = λ p m at w k out on within.
          uses_stands at p m (instruction.Release m) w k refl refl on within;
      choice = λ branches otherwise by_branches by_otherwise at w k out on within.
          let behind : List NamedPoint = laid s otherwise (1 ∷ at) w k in
          let ps : List NamedPoint = laid_branches s branches (0 ∷ at) w k (entry behind k) in
          both ps behind
          (by_branches (0 ∷ at) w k (entry behind k) out on (entry_open behind k (laid_zero s otherwise (1 ∷ at) w k) on) (in_left ps behind within))
          (by_otherwise (1 ∷ at) w k out on (in_right ps behind within));
      cases = λ p e whens by_whens at w k out on within.
          let lists : List (List NamedPoint) = laid_whens s whens (1 ∷ at) w k in
          let ps : List NamedPoint = uses s at p e (instruction.Choose e (choices_of whens)) w (flat_map (λ qs. entry qs k) lists) in
          both ps (flat_map (λ qs. qs) lists)
          (uses_stands at p e (instruction.Choose e (choices_of whens)) w (flat_map (λ qs. entry qs k) lists) refl refl (lists_open lists k (whens_zero s whens (1 ∷ at) w k) on)
          (in_left ps (flat_map (λ qs. qs) lists) within))
          (by_whens (1 ∷ at) w k out on (in_right ps (flat_map (λ qs. qs) lists) within));
      loop = λ stmts by_stmts at w k out on within.
          by_stmts (0 ∷ at) (within_loop k w) (entry (laid s stmts (0 ∷ at) (within_loop k w) k) k) on
          (entry_open (laid s stmts (0 ∷ at) (within_loop k w) k) k (laid_zero s stmts (0 ∷ at) (within_loop k w) k) on) within;
      while = λ p e stmts by_stmts at w k out on within.
          let turn : List PointName = entry (prep s e (0 ∷ at) w.scope (row_at at 0 ∷ [])) (row_at at 0 ∷ []) in
          let inner : List NamedPoint = laid s stmts (1 ∷ at) (within_loop k w) turn in
          let ps : List NamedPoint = uses s at p e (instruction.Test e) w (entry inner turn ++ k) in
          let again : All (IsOpen W) turn
          = entry_open (prep s e (0 ∷ at) w.scope (row_at at 0 ∷ [])) (row_at at 0 ∷ []) (prep_zero s e (0 ∷ at) w.scope (row_at at 0 ∷ [])) (one_name (IsOpen W) (row_at at 0) (inl refl)) in
          both ps inner
          (uses_stands at p e (instruction.Test e) w (entry inner turn ++ k) refl refl
          (all_names (IsOpen W) (entry inner turn) k (entry_open inner turn (laid_zero s stmts (1 ∷ at) (within_loop k w) turn) again) on) (in_left ps inner within))
          (by_stmts (1 ∷ at) (within_loop k w) turn on again (in_right ps inner within));
      for = λ p x reversed low high stmts by_stmts at w k out on within.
          let next : List PointName = row_at at 1 ∷ [] in
          let v : Around = with_scope (x ∷ []) (within_loop k w) in
          let inner : List NamedPoint = laid s stmts (2 ∷ at) v next in
          let start : NamedPoint = point (row_at at 0) p (instruction.Start x reversed low high) (with_held s high (1 ∷ at) (with_held s low (0 ∷ at) w.scope)) next in
          let turn : NamedPoint = point (row_at at 1) p (instruction.Next x reversed low high) (x ∷ w.scope) (entry inner next ++ k) in
          let before : List NamedPoint
          = prep s low (0 ∷ at) w.scope (entry (prep s high (1 ∷ at) (with_held s low (0 ∷ at) w.scope) (row_at at 0 ∷ [])) (row_at at 0 ∷ [])) ++ prep s high (1 ∷ at) (with_held s low (0 ∷ at) w.scope) (row_at at 0 ∷ []) in
          let ps : List NamedPoint = before ++ start ∷ [] in
          let second : IsOpen W (row_at at 1) = inr (start, in_middle before start [] (in_left ps (turn ∷ inner) within), refl, refl) in
          let again : All (IsOpen W) next = one_name (IsOpen W) (row_at at 1) second in
          both ps (turn ∷ inner)
          (two_stand (0 ∷ at) (1 ∷ at) low high w.scope (with_held s low (0 ∷ at) w.scope) (row_at at 0) start refl refl refl refl again (in_left ps (turn ∷ inner) within)) (
            goes refl refl second (all_names (IsOpen W) (entry inner next) k (entry_open inner next (laid_zero s stmts (2 ∷ at) v next) again) on),
            by_stmts (2 ∷ at) v next on again (λ q has. in_right ps (turn ∷ inner) within q (inr has)),
          );
      exit = λ p e at w k out on within.
          let behind : List NamedPoint = ends at 1 p w.in_loop w.scope w.leave in
          let next : List PointName = entry behind w.leave ++ unless_empty e k in
          let before : List NamedPoint = prep s e (0 ∷ at) w.scope (row_at at 0 ∷ []) in
          let leaving : NamedPoint = point (row_at at 0) p (instruction.LeaveLoop e) (with_held s e (0 ∷ at) w.scope) next in
          let ps : List NamedPoint = before ++ leaving ∷ [] in
          let free = ends_open at leaving (in_middle before leaving [] (in_left ps behind within)) refl refl in
          both ps behind
          (uses_stands at p e (instruction.LeaveLoop e) w next refl refl
          (all_names (IsOpen W) (entry behind w.leave) (unless_empty e k) (names_open at free 1 p w.in_loop w.scope w.leave out) (unless_open (is_empty e) k on)) (in_left ps behind within))
          (ends_stand at free 1 p w.in_loop w.scope w.leave out);
      return = λ p v at w k out on within.
          let behind : List NamedPoint = closing at 1 p w in
          let before : List NamedPoint = prep s v (0 ∷ at) w.scope (row_at at 0 ∷ []) in
          let hold : NamedPoint = point (row_at at 0) p (instruction.Hold v) (with_held s v (0 ∷ at) w.scope) (entry behind []) in
          let ps : List NamedPoint = before ++ hold ∷ [] in
          let there : Has W hold = in_middle before hold [] (in_left ps behind within) in
          let after : (row : ℕ) → 1 ≤ row → IsReturned W (row_at at row) = λ row low. (low, (hold, there, refl, refl)) in
          let finish : ℕ = suc (length w.in_all) in
          both ps behind
          (both before (hold ∷ []) (prep_stands v (0 ∷ at) w.scope (row_at at 0 ∷ []) (in_left before (hold ∷ []) (in_left ps behind within)) (one_name (IsOpen W) (row_at at 0) (inl refl)))
          (returns refl refl (closing_entry at after 1 (omega arith) p w.in_all w.scope w.formals finish (omega arith)), tt))
          (closing_stands at after 1 (omega arith) p w.in_all w.scope w.formals finish (omega arith));
      block = λ n stmts end by_stmts at w k out on within.
          let behind : List NamedPoint = ends at 0 end (ending s stmts) (reverse (declared stmts) ++ w.scope) k in
          let ps : List NamedPoint = laid s stmts (0 ∷ at) (within_block (ending s stmts) w) (entry behind k) in
          both ps behind
          (by_stmts (0 ∷ at) (within_block (ending s stmts) w) (entry behind k) out (entry_open behind k (ends_zero s at end (ending s stmts) (reverse (declared stmts) ++ w.scope) k) on) (in_left ps behind within))
          (block_stands at end (ending s stmts) (reverse (declared stmts) ++ w.scope) k (in_right ps behind within) on);
      others = λ c other at w k out on within. rw (laid_none s c at w k other) (tt);
      branches = λ a rest by_a by_rest at w k otherwise out on other within.
          let behind : List NamedPoint = laid_branches s rest (1 ∷ at) w k otherwise in
          let ps : List NamedPoint = laid_branch s a (0 ∷ at) w k (entry behind otherwise) in
          both ps behind
          (by_a (0 ∷ at) w k (entry behind otherwise) out on (entry_open behind otherwise (branches_zero s rest (1 ∷ at) w k otherwise) other) (in_left ps behind within))
          (by_rest (1 ∷ at) w k otherwise out on other (in_right ps behind within));
      no_branches = λ c apart at w k otherwise out on other within. rw (branches_none s c at w k otherwise apart) (tt);
      branch = λ p e stmts by_stmts at w k otherwise out on other within.
          let inner : List NamedPoint = laid s stmts (1 ∷ at) w k in
          let ps : List NamedPoint = uses s at p e (instruction.Test e) w (entry inner k ++ otherwise) in
          both ps inner
          (uses_stands at p e (instruction.Test e) w (entry inner k ++ otherwise) refl refl
          (all_names (IsOpen W) (entry inner k) otherwise (entry_open inner k (laid_zero s stmts (1 ∷ at) w k) on) other) (in_left ps inner within))
          (by_stmts (1 ∷ at) w k out on (in_right ps inner within));
      no_branch = λ c apart at w k otherwise out on other within. rw (branch_none s c at w k otherwise apart) (tt);
      alternatives = λ a rest by_a by_rest at w k out on within.
          let ps : List NamedPoint = laid_when s a (0 ∷ at) w k in
          let behind : List NamedPoint = flat_map (λ qs. qs) (laid_whens s rest (1 ∷ at) w k) in
          both ps behind (by_a (0 ∷ at) w k out on (in_left ps behind within)) (by_rest (1 ∷ at) w k out on (in_right ps behind within));
      no_alternatives = λ c other at w k out on within. rw (whens_none s c at w k other) (tt);
      alternative = λ choices stmts by_stmts at w k out on within.
          by_stmts (1 ∷ at) w k out on within;
      no_alternative = λ c other at w k out on within. rw (when_none s c at w k other) (tt);
    }

    laid_stands : (c : TypedCode) (at : Place) (w : Around) (k : List PointName) → All (IsOpen W) w.leave → All (IsOpen W) k → In (laid s c at w k) → Standing (laid s c at w k)
    laid_stands = on_code laid_stands_cases

-- ---- functions

function_end_stands : (s : Setting) (sub : TypedSub) → AllByRecursion (Stands (body_points s sub (function_end sub))) (body_points s sub (function_end sub))
function_end_stands s sub =
    let end : List NamedPoint = function_end sub in
    let first : List NamedPoint = laid s sub.body (0 ∷ []) (around_body s sub) (entry end []) in
    let W : List NamedPoint = first ++ end in
    both W first end
    (laid_stands W s sub.body (0 ∷ []) (around_body s sub) (entry end []) (no_name (IsOpen W)) (one_name (IsOpen W) (row_at [] 0) (inl refl)) (λ q has. Has-append_left first end q has))
    (goes refl refl (inl refl) (no_name (IsOpen W)), tt)

pub function_stands : (s : Setting) (sub : TypedSub) → is_some sub.result ≡ true → AllByRecursion (Stands (sub_points s sub)) (sub_points s sub)
function_stands s sub function =
    subst (λ b. AllByRecursion (Stands (body_points s sub (if b then function_end sub else procedure_end s sub))) (body_points s sub (if b then function_end sub else procedure_end s sub)))
    (sym function) (function_end_stands s sub)

function_end_zero : (s : Setting) (sub : TypedSub) → Zero (body_points s sub (function_end sub))
function_end_zero s sub =
    let end : List NamedPoint = function_end sub in
    zero_both (laid s sub.body (0 ∷ []) (around_body s sub) (entry end [])) end (laid_zero s sub.body (0 ∷ []) (around_body s sub) (entry end [])) refl

-- A function begins with the first point of a construct.
pub function_zero : (s : Setting) (sub : TypedSub) → is_some sub.result ≡ true → StartsAtZero (sub_points s sub)
function_zero s sub function = subst (λ b. Zero (body_points s sub (if b then function_end sub else procedure_end s sub))) (sym function) (function_end_zero s sub)
