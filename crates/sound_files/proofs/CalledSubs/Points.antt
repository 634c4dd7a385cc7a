-- Each call at a point stands in the code that is laid out.
use Rattle.std.proofs.Common.{ℕ, suc, Bool, true, false, List, [], ◌∷◌, ◌++◌, if◌then◌else◌}
use Rattle.std.specs.Prelude.{None, flat_map, drop, reverse}
use Rattle.std.specs.List.{AllByRecursion}
use Rattle.machine.specs.spark_base.declared.position.Pos.{Pos}
use Rattle.machine.specs.typed_tree.Trees.{TypedTree, Name, Component, Designated, Element, Image, Parens, Unary, Binary, Short, IsNull, Aggregate, Alike, New, TypedCode, Declare, Assign, Output, Input, Release}
use Rattle.machine.specs.typed_tree.Trees as typed
use Rattle.machine.specs.flow_paths.Instructions.{Instruction}
use Rattle.machine.specs.flow_paths.Instructions as instruction
use Rattle.machine.specs.flow_paths.Names.{has_call}
use Rattle.machine.specs.flow_paths.Points.{Place, PointName, row_at, NamedPoint, point, entry}
use Rattle.machine.specs.flow_paths.Prep.{Setting, with_held, prep}
use Rattle.machine.specs.flow_paths.Layout.{Around, within_loop, within_block, with_scope, declared, from, ending, ends, closing, uses, uses_both, uses_second_first, laid, laid_branches, laid_branch, laid_whens, laid_when}
use Rattle.settled_types.proofs.TypedCases.{Laws, branch_none, branches_none, laid_none, on_code, when_none, whens_none}
use Rattle.settled_types.proofs.OrderLaws.ScopeLaws.Lists.{all_both, all_one}
use Rattle.sound_files.specs.CalledSubs.Called.{Calls, CodeCalls, PointCalls}

module _ (asked : ℕ → TypedTree → Type 0) where
  abbrev pub IsAsked : NamedPoint → Type 0
  IsAsked p = PointCalls asked p.instr

  abbrev pub Asked : List NamedPoint → Type 0
  Asked ps = AllByRecursion IsAsked ps

  both : (ps qs : List NamedPoint) → Asked ps → Asked qs → Asked (ps ++ qs)
  both ps qs h g = all_both IsAsked ps qs h g

  one_more : (ps : List NamedPoint) (q : NamedPoint) → Asked ps → IsAsked q → Asked (ps ++ q ∷ [])
  one_more ps q h g = all_one IsAsked ps q h g

  either : (b : Bool) (ps qs : List NamedPoint) → Asked ps → Asked qs → Asked (if b then ps else qs)
  either true ps qs h g = h
  either false ps qs h g = g

  module _ (s : Setting) where
    prep_asked : (e : TypedTree) (at : Place) (scope : List ℕ) (k : List PointName) → Calls asked e → Asked (prep s e at scope k)
    unfolding prep Calls
    prep_asked (typed.Call p sub actuals) at scope k calls =
        one_more (prep s actuals (0 ∷ at) scope (row_at at 0 ∷ [])) _ (prep_asked actuals (0 ∷ at) scope (row_at at 0 ∷ []) calls.1) calls.0
    prep_asked (Short op p a q b) at scope k calls =
        let right : List NamedPoint = prep s b (1 ∷ at) (s.temporary at ∷ scope) (row_at at 1 ∷ []) in
        let behind : List NamedPoint = prep s b (1 ∷ at) (with_held s a (0 ∷ at) scope) k in
        either (has_call b) _ _
        (both (prep s a (0 ∷ at) scope (row_at at 0 ∷ [])) _ (prep_asked a (0 ∷ at) scope (row_at at 0 ∷ []) calls.0)
        (tt, one_more right _ (prep_asked b (1 ∷ at) (s.temporary at ∷ scope) (row_at at 1 ∷ []) calls.1) tt))
        (both (prep s a (0 ∷ at) scope (entry behind k)) behind (prep_asked a (0 ∷ at) scope (entry behind k) calls.0)
        (prep_asked b (1 ∷ at) (with_held s a (0 ∷ at) scope) k calls.1))
    prep_asked (Binary op a b) at scope k calls =
        let behind : List NamedPoint = prep s b (1 ∷ at) (with_held s a (0 ∷ at) scope) k in
        both (prep s a (0 ∷ at) scope (entry behind k)) behind (prep_asked a (0 ∷ at) scope (entry behind k) calls.0)
        (prep_asked b (1 ∷ at) (with_held s a (0 ∷ at) scope) k calls.1)
    prep_asked (typed.More a b) at scope k calls =
        let behind : List NamedPoint = prep s b (1 ∷ at) (with_held s a (0 ∷ at) scope) k in
        both (prep s a (0 ∷ at) scope (entry behind k)) behind (prep_asked a (0 ∷ at) scope (entry behind k) calls.0)
        (prep_asked b (1 ∷ at) (with_held s a (0 ∷ at) scope) k calls.1)
    prep_asked (Element a low high b) at scope k calls =
        let behind : List NamedPoint = prep s b (1 ∷ at) (with_held s a (0 ∷ at) scope) k in
        both (prep s a (0 ∷ at) scope (entry behind k)) behind (prep_asked a (0 ∷ at) scope (entry behind k) calls.0)
        (prep_asked b (1 ∷ at) (with_held s a (0 ∷ at) scope) k calls.1)
    prep_asked (Name p x e t) at scope k calls = prep_asked e (0 ∷ at) scope k calls
    prep_asked (Component i e) at scope k calls = prep_asked e (0 ∷ at) scope k calls
    prep_asked (Designated e) at scope k calls = prep_asked e (0 ∷ at) scope k calls
    prep_asked (Image t e) at scope k calls = prep_asked e (0 ∷ at) scope k calls
    prep_asked (Parens e) at scope k calls = prep_asked e (0 ∷ at) scope k calls
    prep_asked (Unary op e) at scope k calls = prep_asked e (0 ∷ at) scope k calls
    prep_asked (IsNull equal e) at scope k calls = prep_asked e (0 ∷ at) scope k calls
    prep_asked (Aggregate t e) at scope k calls = prep_asked e (0 ∷ at) scope k calls
    prep_asked (Alike t e) at scope k calls = prep_asked e (0 ∷ at) scope k calls
    prep_asked (New t e) at scope k calls = prep_asked e (0 ∷ at) scope k calls
    prep_asked _ at scope k calls = tt

    pub ends_asked : (at : Place) (row : ℕ) (p : Pos) (xs scope : List ℕ) (k : List PointName) → Asked (ends at row p xs scope k)
    ends_asked at row p [] scope k = tt
    ends_asked at row p (x ∷ rest) scope k = (tt, ends_asked at (suc row) p rest (drop 1 (from x scope)) k)

    closing_asked : (at : Place) (row : ℕ) (p : Pos) (w : Around) → Asked (closing at row p w)
    closing_asked at row p w = one_more (ends at row p w.in_all w.scope _) _ (ends_asked at row p w.in_all w.scope _) tt

    used : (at : Place) (p : Pos) (e : TypedTree) (i : Instruction) (w : Around) (next : List PointName) → Calls asked e → PointCalls asked i → Asked (uses s at p e i w next)
    used at p e i w next calls here =
        one_more (prep s e (0 ∷ at) w.scope (row_at at 0 ∷ [])) _ (prep_asked e (0 ∷ at) w.scope (row_at at 0 ∷ []) calls) here

    -- the points of two expressions, and one more
    two : (a b : TypedTree) (x y : Place) (scope inner : List ℕ) (k l : List PointName) (q : NamedPoint) → Calls asked a → Calls asked b → IsAsked q
        → Asked ((prep s a x scope k ++ prep s b y inner l) ++ q ∷ [])
    two a b x y scope inner k l q first second here =
        one_more (prep s a x scope k ++ prep s b y inner l) q (both (prep s a x scope k) (prep s b y inner l) (prep_asked a x scope k first) (prep_asked b y inner l second)) here

    used_both : (at : Place) (p : Pos) (a b : TypedTree) (i : Instruction) (w : Around) (next : List PointName) → Calls asked a → Calls asked b → PointCalls asked i
        → Asked (uses_both s at p a b i w next)
    used_both at p a b i w next first second here =
        let inner : List ℕ = with_held s a (0 ∷ at) w.scope in
        let behind : List NamedPoint = prep s b (1 ∷ at) inner (row_at at 0 ∷ []) in
        two a b (0 ∷ at) (1 ∷ at) w.scope inner (entry behind (row_at at 0 ∷ [])) (row_at at 0 ∷ []) (point (row_at at 0) p i (with_held s b (1 ∷ at) inner) next)
        first second here

    used_second : (at : Place) (p : Pos) (a b : TypedTree) (i : Instruction) (w : Around) (next : List PointName) → Calls asked a → Calls asked b → PointCalls asked i
        → Asked (uses_second_first s at p a b i w next)
    used_second at p a b i w next first second here =
        let inner : List ℕ = with_held s b (1 ∷ at) w.scope in
        let behind : List NamedPoint = prep s a (0 ∷ at) inner (row_at at 0 ∷ []) in
        two b a (1 ∷ at) (0 ∷ at) w.scope inner (entry behind (row_at at 0 ∷ [])) (row_at at 0 ∷ []) (point (row_at at 0) p i (with_held s a (0 ∷ at) inner) next)
        second first here

    joined : (pss : List (List NamedPoint)) → AllByRecursion Asked pss → Asked (flat_map (λ ps. ps) pss)
    joined [] all = tt
    joined (ps ∷ pss) all = both ps (flat_map (λ ps. ps) pss) all.0 (joined pss all.1)

    laid_asked_cases : Laws (λ c. (at : Place) → (w : Around) → (k : List PointName) → CodeCalls asked c → Asked (laid s c at w k))
        (λ c. (at : Place) → (w : Around) → (k : List PointName) → (otherwise : List PointName) → CodeCalls asked c → Asked (laid_branches s c at w k otherwise))
        (λ c. (at : Place) → (w : Around) → (k : List PointName) → (otherwise : List PointName) → CodeCalls asked c → Asked (laid_branch s c at w k otherwise))
        (λ c. (at : Place) → (w : Around) → (k : List PointName) → CodeCalls asked c → AllByRecursion Asked (laid_whens s c at w k))
        (λ c. (at : Place) → (w : Around) → (k : List PointName) → CodeCalls asked c → Asked (laid_when s c at w k))
    unfolding laid laid_branches laid_branch laid_whens laid_when CodeCalls
    laid_asked_cases = record {
      list = λ a rest by_a by_rest at w k calls.
          let behind : List NamedPoint = laid s rest (1 ∷ at) (with_scope (declared a) w) k in
          both (laid s a (0 ∷ at) w (entry behind k)) behind (by_a (0 ∷ at) w (entry behind k) calls.0)
          (by_rest (1 ∷ at) (with_scope (declared a) w) k calls.1);
      declare = λ p x v at w k calls.
          used at p v (instruction.Declare x v) w k calls tt;
      assign = λ p target e at w k calls.
          used_second at p target e (instruction.Assign target e) w k calls.0 calls.1 tt;
      skip = λ p at w k calls.
          (tt, tt);
      call = λ p sub actuals at w k calls.
          used at p actuals (instruction.Call sub actuals None) w k calls.1 calls.0;
      output = λ p text line at w k calls.
          used at p text (instruction.Output text line) w k calls tt;
      input = λ p target at w k calls.
          used at p target (instruction.Input target) w k calls tt;
      release = λ p m at w k calls.
          used at p m (instruction.Release m) w k calls tt;
      choice = λ branches otherwise by_branches by_otherwise at w k calls.
          let behind : List NamedPoint = laid s otherwise (1 ∷ at) w k in
          both (laid_branches s branches (0 ∷ at) w k (entry behind k)) behind (by_branches (0 ∷ at) w k (entry behind k) calls.0)
          (by_otherwise (1 ∷ at) w k calls.1);
      cases = λ p e whens by_whens at w k calls.
          let behind : List (List NamedPoint) = laid_whens s whens (1 ∷ at) w k in
          both _ (flat_map (λ ps. ps) behind) (used at p e _ w (flat_map (λ ps. entry ps k) behind) calls.0 tt)
          (joined behind (by_whens (1 ∷ at) w k calls.1));
      loop = λ stmts by_stmts at w k calls.
          by_stmts (0 ∷ at) (within_loop k w) (entry (laid s stmts (0 ∷ at) (within_loop k w) k) k) calls;
      while = λ p e stmts by_stmts at w k calls.
          let turn : List PointName = entry (prep s e (0 ∷ at) w.scope (row_at at 0 ∷ [])) (row_at at 0 ∷ []) in
          let inner : List NamedPoint = laid s stmts (1 ∷ at) (within_loop k w) turn in
          both _ inner (used at p e (instruction.Test e) w (entry inner turn ++ k) calls.0 tt)
          (by_stmts (1 ∷ at) (within_loop k w) turn calls.1);
      for = λ p x reversed low high stmts by_stmts at w k calls.
          both (uses_both s at p low high (instruction.Start x reversed low high) w (row_at at 1 ∷ [])) _
          (used_both at p low high (instruction.Start x reversed low high) w (row_at at 1 ∷ []) calls.0 calls.1.0 tt)
          (tt, by_stmts (2 ∷ at) (with_scope (x ∷ []) (within_loop k w)) (row_at at 1 ∷ []) calls.1.1);
      exit = λ p e at w k calls.
          both _ (ends at 1 p w.in_loop w.scope w.leave) (used at p e (instruction.LeaveLoop e) w _ calls tt) (ends_asked at 1 p w.in_loop w.scope w.leave);
      return = λ p v at w k calls.
          both _ (closing at 1 p w) (used at p v (instruction.Hold v) w _ calls tt) (closing_asked at 1 p w);
      block = λ n stmts end by_stmts at w k calls.
          let out : List NamedPoint = ends at 0 end (ending s stmts) (reverse (declared stmts) ++ w.scope) k in
          both (laid s stmts (0 ∷ at) (within_block (ending s stmts) w) (entry out k)) out
          (by_stmts (0 ∷ at) (within_block (ending s stmts) w) (entry out k) calls) (ends_asked at 0 end (ending s stmts) _ k);
      others = λ c other at w k calls. rw (laid_none s c at w k other) (tt);
      branches = λ a rest by_a by_rest at w k otherwise calls.
          let behind : List NamedPoint = laid_branches s rest (1 ∷ at) w k otherwise in
          both (laid_branch s a (0 ∷ at) w k (entry behind otherwise)) behind (by_a (0 ∷ at) w k (entry behind otherwise) calls.0)
          (by_rest (1 ∷ at) w k otherwise calls.1);
      no_branches = λ c other at w k otherwise calls. rw (branches_none s c at w k otherwise other) (tt);
      branch = λ p e stmts by_stmts at w k otherwise calls.
          let inner : List NamedPoint = laid s stmts (1 ∷ at) w k in
          both _ inner (used at p e (instruction.Test e) w (entry inner k ++ otherwise) calls.0 tt) (by_stmts (1 ∷ at) w k calls.1);
      no_branch = λ c other at w k otherwise calls. rw (branch_none s c at w k otherwise other) (tt);
      alternatives = λ a rest by_a by_rest at w k calls.
          (by_a (0 ∷ at) w k calls.0, by_rest (1 ∷ at) w k calls.1);
      no_alternatives = λ c other at w k calls. rw (whens_none s c at w k other) (tt);
      alternative = λ choices stmts by_stmts at w k calls.
          by_stmts (1 ∷ at) w k calls;
      no_alternative = λ c other at w k calls. rw (when_none s c at w k other) (tt);
    }

    pub laid_asked : (c : TypedCode) (at : Place) (w : Around) (k : List PointName) → CodeCalls asked c → Asked (laid s c at w k)
    laid_asked = on_code laid_asked_cases
