-- What holds of each use of an expression in code holds of each point that the code is laid out in.
use Rattle.std.proofs.Common.{refl, inl, inr, ℕ, suc, Bool, List, [], ◌∷◌, ◌++◌, if◌then◌else◌}
use Rattle.std.specs.Prelude.{None, Some, flat_map, drop, reverse, is_some, filter}
use Rattle.std.specs.List.{AllByRecursion}
use Rattle.machine.specs.spark_base.Lists.{Has}
use Rattle.machine.specs.spark_base.declared.position.Pos.{Pos}
use Rattle.machine.specs.typed_tree.Trees.{TypedTree, Name, Component, Designated, Element, Image, Parens, Unary, Binary, Short, IsNull, Aggregate, Alike, New, TypedCode, Declare, Assign, Skip, Output, Input, Release, If, Branch, Case, When, Loop, While, For, Exit, Return, Block}
use Rattle.machine.specs.typed_tree.Trees as typed
use Rattle.machine.specs.typed_tree.Programs.{TypedSub}
use Rattle.machine.specs.flow_paths.Instructions.{Instruction, Evaluate}
use Rattle.machine.specs.flow_paths.Instructions as instruction
use Rattle.machine.specs.flow_paths.Names.{has_call}
use Rattle.machine.specs.flow_paths.Objects.{has_scope_end}
use Rattle.machine.specs.flow_paths.Points.{Place, PointName, row_at, NamedPoint, point, entry}
use Rattle.machine.specs.flow_paths.Prep.{Setting, with_held, prep}
use Rattle.machine.specs.flow_paths.Layout.{Around, within_loop, within_block, with_scope, declared, from, ending, ends, closing, uses, uses_both, uses_second_first, choices_of, laid, laid_branches, laid_branch, laid_whens, laid_when}
use Rattle.machine.specs.flow_paths.Laid.{around_body, body_points, sub_points, procedure_end, function_end, elaboration_points}
use Rattle.settled_types.proofs.TypedCases.{Laws, branch_none, branches_none, laid_none, on_code, when_none, whens_none}
use Rattle.settled_types.proofs.OrderLaws.ScopeLaws.Lists.{all_both, all_one, all_has, all_if, has_reverse}

-- What steps are asked. `closes` says of which objects the scopes may end.
pub record Asks (asked : Instruction → Type 0) (closes : ℕ → Type 0) : Type 0 where
  pub skip : asked instruction.Skip
  pub finish : asked instruction.Finish
  pub fall : asked instruction.Fall
  pub ends : (x : ℕ) → closes x → asked (instruction.EndScope x)

-- The calls and the operands of short circuits within an expression.
unfoldable pub Parts : (Instruction → Type 0) → TypedTree → Type 0
Parts asked (typed.Call p sub actuals) = ((t : ℕ) → asked (instruction.Call sub actuals (Some t))) × Parts asked actuals
Parts asked (Short op p a q b) =
    ((t : ℕ) → asked (Evaluate t a (Some op))) × ((t : ℕ) → asked (Evaluate t b None)) × Parts asked a × Parts asked b
Parts asked (Name p x steps t) = Parts asked steps
Parts asked (Component i rest) = Parts asked rest
Parts asked (Designated rest) = Parts asked rest
Parts asked (Element index low high rest) = Parts asked index × Parts asked rest
Parts asked (Image t e) = Parts asked e
Parts asked (Parens e) = Parts asked e
Parts asked (Unary op e) = Parts asked e
Parts asked (Binary op a b) = Parts asked a × Parts asked b
Parts asked (IsNull equal e) = Parts asked e
Parts asked (Aggregate t parts) = Parts asked parts
Parts asked (Alike t e) = Parts asked e
Parts asked (New t v) = Parts asked v
Parts asked (typed.More e rest) = Parts asked e × Parts asked rest
Parts asked e = Unit {0}

-- The uses of expressions in code, and the objects whose scopes end with it.
unfoldable mutual
  pub Uses : (Instruction → Type 0) → (ℕ → Type 0) → TypedCode → Type 0
  Uses asked closes (Declare p x v) = asked (instruction.Declare x v) × Parts asked v
  Uses asked closes (Assign p target e) = asked (instruction.Assign target e) × Parts asked target × Parts asked e
  Uses asked closes (typed.Call p sub actuals) = asked (instruction.Call sub actuals None) × Parts asked actuals
  Uses asked closes (Output p text line) = asked (instruction.Output text line) × Parts asked text
  Uses asked closes (Input p target) = asked (instruction.Input target) × Parts asked target
  Uses asked closes (Release p m) = asked (instruction.Release m) × Parts asked m
  Uses asked closes (If branches otherwise) = EachUse asked closes branches × Uses asked closes otherwise
  Uses asked closes (Branch p e stmts) = asked (instruction.Test e) × Parts asked e × Uses asked closes stmts
  Uses asked closes (Case p e whens) = asked (instruction.Choose e (choices_of whens)) × Parts asked e × EachUse asked closes whens
  Uses asked closes (When choices stmts) = Uses asked closes stmts
  Uses asked closes (Loop stmts) = Uses asked closes stmts
  Uses asked closes (While p e stmts) = asked (instruction.Test e) × Parts asked e × Uses asked closes stmts
  Uses asked closes (For p x reversed low high stmts) =
      asked (instruction.Start x reversed low high) × asked (instruction.Next x reversed low high) × Parts asked low × Parts asked high × Uses asked closes stmts
  Uses asked closes (Exit p e) = asked (instruction.LeaveLoop e) × Parts asked e
  Uses asked closes (Return p v) = asked (instruction.Hold v) × Parts asked v
  Uses asked closes (Block n stmts end) = AllByRecursion closes (declared stmts) × Uses asked closes stmts
  Uses asked closes (typed.More a rest) = Uses asked closes a × Uses asked closes rest
  Uses asked closes c = Unit {0}

  -- Branches and alternatives.
  pub EachUse : (Instruction → Type 0) → (ℕ → Type 0) → TypedCode → Type 0
  EachUse asked closes (typed.More a rest) = Uses asked closes a × EachUse asked closes rest
  EachUse asked closes c = Unit {0}

-- ---- lists

pub all_of : {A : Type 0} (P : A → Type 0) (xs : List A) → ((x : A) → Has xs x → P x) → AllByRecursion P xs
all_of P [] each = tt
all_of P (x ∷ xs) each = (each x (inl refl), all_of P xs (λ y has. each y (inr has)))

filtered : (P : ℕ → Type 0) (f : ℕ → Bool) (xs : List ℕ) → AllByRecursion P xs → AllByRecursion P (filter f xs)
filtered P f [] all = tt
filtered P f (x ∷ xs) all = all_if P (f x) (x ∷ filter f xs) (filter f xs) (all.0, filtered P f xs all.1) (filtered P f xs all.1)

reversed_all : (P : ℕ → Type 0) (xs : List ℕ) → AllByRecursion P xs → AllByRecursion P (reverse xs)
reversed_all P xs all = all_of P (reverse xs) (λ x has. all_has P xs x all (has_reverse xs x has))

module _ (asked : Instruction → Type 0) (closes : ℕ → Type 0) (asks : Asks asked closes) where
  abbrev pub IsAsked : NamedPoint → Type 0
  IsAsked p = asked p.instr

  abbrev pub Asked : List NamedPoint → Type 0
  Asked ps = AllByRecursion IsAsked ps

  both : (ps qs : List NamedPoint) → Asked ps → Asked qs → Asked (ps ++ qs)
  both ps qs h g = all_both IsAsked ps qs h g

  one_more : (ps : List NamedPoint) (q : NamedPoint) → Asked ps → IsAsked q → Asked (ps ++ q ∷ [])
  one_more ps q h g = all_one IsAsked ps q h g

  module _ (s : Setting) where
    prep_asked : (e : TypedTree) (at : Place) (scope : List ℕ) (k : List PointName) → Parts asked e → Asked (prep s e at scope k)
    unfolding prep Parts
    prep_asked (typed.Call p sub actuals) at scope k parts =
        one_more (prep s actuals (0 ∷ at) scope (row_at at 0 ∷ [])) _ (prep_asked actuals (0 ∷ at) scope (row_at at 0 ∷ []) parts.1) (parts.0 (s.temporary at))
    prep_asked (Short op p a q b) at scope k parts =
        let right : List NamedPoint = prep s b (1 ∷ at) (s.temporary at ∷ scope) (row_at at 1 ∷ []) in
        let behind : List NamedPoint = prep s b (1 ∷ at) (with_held s a (0 ∷ at) scope) k in
        all_if IsAsked (has_call b) _ _
        (both (prep s a (0 ∷ at) scope (row_at at 0 ∷ [])) _ (prep_asked a (0 ∷ at) scope (row_at at 0 ∷ []) parts.2)
        (parts.0 (s.temporary at), one_more right _ (prep_asked b (1 ∷ at) (s.temporary at ∷ scope) (row_at at 1 ∷ []) parts.3) (parts.1 (s.temporary at))))
        (both (prep s a (0 ∷ at) scope (entry behind k)) behind (prep_asked a (0 ∷ at) scope (entry behind k) parts.2)
        (prep_asked b (1 ∷ at) (with_held s a (0 ∷ at) scope) k parts.3))
    prep_asked (Binary op a b) at scope k parts =
        let behind : List NamedPoint = prep s b (1 ∷ at) (with_held s a (0 ∷ at) scope) k in
        both (prep s a (0 ∷ at) scope (entry behind k)) behind (prep_asked a (0 ∷ at) scope (entry behind k) parts.0)
        (prep_asked b (1 ∷ at) (with_held s a (0 ∷ at) scope) k parts.1)
    prep_asked (typed.More a b) at scope k parts =
        let behind : List NamedPoint = prep s b (1 ∷ at) (with_held s a (0 ∷ at) scope) k in
        both (prep s a (0 ∷ at) scope (entry behind k)) behind (prep_asked a (0 ∷ at) scope (entry behind k) parts.0)
        (prep_asked b (1 ∷ at) (with_held s a (0 ∷ at) scope) k parts.1)
    prep_asked (Element a low high b) at scope k parts =
        let behind : List NamedPoint = prep s b (1 ∷ at) (with_held s a (0 ∷ at) scope) k in
        both (prep s a (0 ∷ at) scope (entry behind k)) behind (prep_asked a (0 ∷ at) scope (entry behind k) parts.0)
        (prep_asked b (1 ∷ at) (with_held s a (0 ∷ at) scope) k parts.1)
    prep_asked (Name p x e t) at scope k parts = prep_asked e (0 ∷ at) scope k parts
    prep_asked (Component i e) at scope k parts = prep_asked e (0 ∷ at) scope k parts
    prep_asked (Designated e) at scope k parts = prep_asked e (0 ∷ at) scope k parts
    prep_asked (Image t e) at scope k parts = prep_asked e (0 ∷ at) scope k parts
    prep_asked (Parens e) at scope k parts = prep_asked e (0 ∷ at) scope k parts
    prep_asked (Unary op e) at scope k parts = prep_asked e (0 ∷ at) scope k parts
    prep_asked (IsNull equal e) at scope k parts = prep_asked e (0 ∷ at) scope k parts
    prep_asked (Aggregate t e) at scope k parts = prep_asked e (0 ∷ at) scope k parts
    prep_asked (Alike t e) at scope k parts = prep_asked e (0 ∷ at) scope k parts
    prep_asked (New t e) at scope k parts = prep_asked e (0 ∷ at) scope k parts
    prep_asked _ at scope k parts = tt

    ends_asked : (at : Place) (row : ℕ) (p : Pos) (xs scope : List ℕ) (k : List PointName) → AllByRecursion closes xs → Asked (ends at row p xs scope k)
    ends_asked at row p [] scope k all = tt
    ends_asked at row p (x ∷ rest) scope k all = (asks.ends x all.0, ends_asked at (suc row) p rest (drop 1 (from x scope)) k all.1)

    closing_asked : (at : Place) (row : ℕ) (p : Pos) (w : Around) → AllByRecursion closes w.in_all → Asked (closing at row p w)
    closing_asked at row p w all = one_more (ends at row p w.in_all w.scope _) _ (ends_asked at row p w.in_all w.scope _ all) asks.finish

    used : (at : Place) (p : Pos) (e : TypedTree) (i : Instruction) (w : Around) (next : List PointName) → Parts asked e → asked i → Asked (uses s at p e i w next)
    used at p e i w next parts here =
        one_more (prep s e (0 ∷ at) w.scope (row_at at 0 ∷ [])) _ (prep_asked e (0 ∷ at) w.scope (row_at at 0 ∷ []) parts) here

    -- the points of two expressions, and one more
    two : (a b : TypedTree) (x y : Place) (scope inner : List ℕ) (k l : List PointName) (q : NamedPoint) → Parts asked a → Parts asked b → IsAsked q
        → Asked ((prep s a x scope k ++ prep s b y inner l) ++ q ∷ [])
    two a b x y scope inner k l q first second here =
        one_more (prep s a x scope k ++ prep s b y inner l) q (both (prep s a x scope k) (prep s b y inner l) (prep_asked a x scope k first) (prep_asked b y inner l second)) here

    used_both : (at : Place) (p : Pos) (a b : TypedTree) (i : Instruction) (w : Around) (next : List PointName) → Parts asked a → Parts asked b → asked i
        → Asked (uses_both s at p a b i w next)
    used_both at p a b i w next first second here =
        let inner : List ℕ = with_held s a (0 ∷ at) w.scope in
        let behind : List NamedPoint = prep s b (1 ∷ at) inner (row_at at 0 ∷ []) in
        two a b (0 ∷ at) (1 ∷ at) w.scope inner (entry behind (row_at at 0 ∷ [])) (row_at at 0 ∷ []) (point (row_at at 0) p i (with_held s b (1 ∷ at) inner) next)
        first second here

    used_second : (at : Place) (p : Pos) (a b : TypedTree) (i : Instruction) (w : Around) (next : List PointName) → Parts asked a → Parts asked b → asked i
        → Asked (uses_second_first s at p a b i w next)
    used_second at p a b i w next first second here =
        let inner : List ℕ = with_held s b (1 ∷ at) w.scope in
        let behind : List NamedPoint = prep s a (0 ∷ at) inner (row_at at 0 ∷ []) in
        two b a (1 ∷ at) (0 ∷ at) w.scope inner (entry behind (row_at at 0 ∷ [])) (row_at at 0 ∷ []) (point (row_at at 0) p i (with_held s a (0 ∷ at) inner) next)
        second first here

    joined : (pss : List (List NamedPoint)) → AllByRecursion Asked pss → Asked (flat_map (λ ps. ps) pss)
    joined [] all = tt
    joined (ps ∷ pss) all = both ps (flat_map (λ ps. ps) pss) all.0 (joined pss all.1)

    -- the scopes that end where an exit or a return leaves
    abbrev Closes : Around → Type 0
    Closes w = AllByRecursion closes w.in_loop × AllByRecursion closes w.in_all

    ending_closes : (c : TypedCode) → AllByRecursion closes (declared c) → AllByRecursion closes (ending s c)
    ending_closes c all = filtered closes (has_scope_end s.typing) (reverse (declared c)) (reversed_all closes (declared c) all)

    block_closes : (c : TypedCode) (w : Around) → AllByRecursion closes (declared c) → Closes w → Closes (within_block (ending s c) w)
    block_closes c w all around =
        let ends = ending_closes c all in
        (all_both closes (ending s c) w.in_loop ends around.0, all_both closes (ending s c) w.in_all ends around.1)

    laid_asked_cases : Laws (λ c. (at : Place) → (w : Around) → (k : List PointName) → Closes w → Uses asked closes c → Asked (laid s c at w k))
        (λ c. (at : Place) → (w : Around) → (k : List PointName) → (otherwise : List PointName) → Closes w → EachUse asked closes c → Asked (laid_branches s c at w k otherwise))
        (λ c. (at : Place) → (w : Around) → (k : List PointName) → (otherwise : List PointName) → Closes w → Uses asked closes c → Asked (laid_branch s c at w k otherwise))
        (λ c. (at : Place) → (w : Around) → (k : List PointName) → Closes w → EachUse asked closes c → AllByRecursion Asked (laid_whens s c at w k))
        (λ c. (at : Place) → (w : Around) → (k : List PointName) → Closes w → Uses asked closes c → Asked (laid_when s c at w k))
    unfolding laid laid_branches laid_branch laid_whens laid_when Uses EachUse
    laid_asked_cases = record {
      list = λ a rest by_a by_rest at w k around uses.
          let behind : List NamedPoint = laid s rest (1 ∷ at) (with_scope (declared a) w) k in
          both (laid s a (0 ∷ at) w (entry behind k)) behind (by_a (0 ∷ at) w (entry behind k) around uses.0)
          (by_rest (1 ∷ at) (with_scope (declared a) w) k around uses.1);
      declare = λ p x v at w k around uses.
          used at p v (instruction.Declare x v) w k uses.1 uses.0;
      assign = λ p target e at w k around uses.
          used_second at p target e (instruction.Assign target e) w k uses.1 uses.2 uses.0;
      skip = λ p at w k around uses.
          (asks.skip, tt);
      call = λ p sub actuals at w k around uses.
          used at p actuals (instruction.Call sub actuals None) w k uses.1 uses.0;
      output = λ p text line at w k around uses.
          used at p text (instruction.Output text line) w k uses.1 uses.0;
      input = λ p target at w k around uses.
          used at p target (instruction.Input target) w k uses.1 uses.0;
      release = λ p m at w k around uses.
          used at p m (instruction.Release m) w k uses.1 uses.0;
      choice = λ branches otherwise by_branches by_otherwise at w k around uses.
          let behind : List NamedPoint = laid s otherwise (1 ∷ at) w k in
          both (laid_branches s branches (0 ∷ at) w k (entry behind k)) behind (by_branches (0 ∷ at) w k (entry behind k) around uses.0)
          (by_otherwise (1 ∷ at) w k around uses.1);
      cases = λ p e whens by_whens at w k around uses.
          let behind : List (List NamedPoint) = laid_whens s whens (1 ∷ at) w k in
          both _ (flat_map (λ ps. ps) behind) (used at p e (instruction.Choose e (choices_of whens)) w (flat_map (λ ps. entry ps k) behind) uses.1 uses.0)
          (joined behind (by_whens (1 ∷ at) w k around uses.2));
      loop = λ stmts by_stmts at w k around uses.
          by_stmts (0 ∷ at) (within_loop k w) (entry (laid s stmts (0 ∷ at) (within_loop k w) k) k) (tt, around.1) uses;
      while = λ p e stmts by_stmts at w k around uses.
          let turn : List PointName = entry (prep s e (0 ∷ at) w.scope (row_at at 0 ∷ [])) (row_at at 0 ∷ []) in
          let inner : List NamedPoint = laid s stmts (1 ∷ at) (within_loop k w) turn in
          both _ inner (used at p e (instruction.Test e) w (entry inner turn ++ k) uses.1 uses.0)
          (by_stmts (1 ∷ at) (within_loop k w) turn (tt, around.1) uses.2);
      for = λ p x reversed low high stmts by_stmts at w k around uses.
          both (uses_both s at p low high (instruction.Start x reversed low high) w (row_at at 1 ∷ [])) _
          (used_both at p low high (instruction.Start x reversed low high) w (row_at at 1 ∷ []) uses.2 uses.3 uses.0)
          (uses.1, by_stmts (2 ∷ at) (with_scope (x ∷ []) (within_loop k w)) (row_at at 1 ∷ []) (tt, around.1) uses.4);
      exit = λ p e at w k around uses.
          both _ (ends at 1 p w.in_loop w.scope w.leave) (used at p e (instruction.LeaveLoop e) w _ uses.1 uses.0) (ends_asked at 1 p w.in_loop w.scope w.leave around.0);
      return = λ p v at w k around uses.
          both _ (closing at 1 p w) (used at p v (instruction.Hold v) w _ uses.1 uses.0) (closing_asked at 1 p w around.1);
      block = λ n stmts end by_stmts at w k around uses.
          let out : List NamedPoint = ends at 0 end (ending s stmts) (reverse (declared stmts) ++ w.scope) k in
          both (laid s stmts (0 ∷ at) (within_block (ending s stmts) w) (entry out k)) out
          (by_stmts (0 ∷ at) (within_block (ending s stmts) w) (entry out k) (block_closes stmts w uses.0 around) uses.1)
          (ends_asked at 0 end (ending s stmts) _ k (ending_closes stmts uses.0));
      others = λ c other at w k around uses. rw (laid_none s c at w k other) (tt);
      branches = λ a rest by_a by_rest at w k otherwise around uses.
          let behind : List NamedPoint = laid_branches s rest (1 ∷ at) w k otherwise in
          both (laid_branch s a (0 ∷ at) w k (entry behind otherwise)) behind (by_a (0 ∷ at) w k (entry behind otherwise) around uses.0)
          (by_rest (1 ∷ at) w k otherwise around uses.1);
      no_branches = λ c other at w k otherwise around uses. rw (branches_none s c at w k otherwise other) (tt);
      branch = λ p e stmts by_stmts at w k otherwise around uses.
          let inner : List NamedPoint = laid s stmts (1 ∷ at) w k in
          both _ inner (used at p e (instruction.Test e) w (entry inner k ++ otherwise) uses.1 uses.0) (by_stmts (1 ∷ at) w k around uses.2);
      no_branch = λ c other at w k otherwise around uses. rw (branch_none s c at w k otherwise other) (tt);
      alternatives = λ a rest by_a by_rest at w k around uses.
          (by_a (0 ∷ at) w k around uses.0, by_rest (1 ∷ at) w k around uses.1);
      no_alternatives = λ c other at w k around uses. rw (whens_none s c at w k other) (tt);
      alternative = λ choices stmts by_stmts at w k around uses.
          by_stmts (1 ∷ at) w k around uses;
      no_alternative = λ c other at w k around uses. rw (when_none s c at w k other) (tt);
    }

    pub laid_asked : (c : TypedCode) (at : Place) (w : Around) (k : List PointName) → Closes w → Uses asked closes c → Asked (laid s c at w k)
    laid_asked = on_code laid_asked_cases

    -- ---- subprograms

    body_asked : (sub : TypedSub) (end : List NamedPoint) → AllByRecursion closes (declared sub.body) → Uses asked closes sub.body → Asked end → Asked (body_points s sub end)
    body_asked sub end all uses last =
        both (laid s sub.body (0 ∷ []) (around_body s sub) (entry end [])) end
        (laid_asked sub.body (0 ∷ []) (around_body s sub) (entry end []) (tt, ending_closes sub.body all) uses) last

    procedure_asked : (sub : TypedSub) → AllByRecursion closes (declared sub.body) → Asked (procedure_end s sub)
    procedure_asked sub all = one_more _ _ (ends_asked [] 0 sub.end (ending s sub.body) _ _ (ending_closes sub.body all)) asks.finish

    -- The points of a subprogram.
    pub sub_asked : (sub : TypedSub) → AllByRecursion closes (declared sub.body) → Uses asked closes sub.body → Asked (sub_points s sub)
    sub_asked sub all uses =
        body_asked sub (if is_some sub.result then function_end sub else procedure_end s sub) all uses
        (all_if IsAsked (is_some sub.result) (function_end sub) (procedure_end s sub) (asks.fall, tt) (procedure_asked sub all))

    -- Those of the package objects.
    pub package_asked : (sub : TypedSub) → AllByRecursion closes (declared sub.body) → Uses asked closes sub.body → Asked (elaboration_points s sub)
    package_asked sub all uses = body_asked sub [] all uses tt
