-- What is in scope at the points of a subprogram is one of its formals, what its code declares, or a
-- temporary.
use Rattle.std.proofs.Common.{refl, subst, inl, inr, ℕ, zero, suc, Bool, true, false, ◌==◌, List, [], ◌∷◌, ◌++◌, length, if◌then◌else◌}
use Rattle.std.specs.Prelude.{None, flat_map, drop, reverse, is_some}
use Rattle.std.specs.List.{AllByRecursion}
use Rattle.machine.specs.spark_base.Lists.{Has}
use Rattle.spark_base.proofs.Lists.{Has-append_left, Has-append_right, Has-append_cases}
use Rattle.machine.specs.spark_base.declared.position.Pos.{Pos}
use Rattle.machine.specs.typed_tree.Trees.{TypedTree, TypedCode}
use Rattle.machine.specs.typed_tree.Programs.{TypedSub}
use Rattle.machine.specs.flow_paths.Instructions.{Instruction, Finish}
use Rattle.machine.specs.flow_paths.Instructions as instruction
use Rattle.machine.specs.flow_paths.Names.{has_call}
use Rattle.machine.specs.flow_paths.Points.{Place, PointName, row_at, NamedPoint, point, entry}
use Rattle.machine.specs.flow_paths.Prep.{Setting, held, with_held, prep}
use Rattle.machine.specs.flow_paths.Layout.{Around, within_loop, within_block, with_scope, declared, from, ending, ends, closing, choices_of, laid, laid_branches, laid_branch, laid_whens, laid_when}
use Rattle.machine.specs.flow_paths.Laid.{around_body, scope_at_end, procedure_end, function_end, sub_points, declared_within}
use Rattle.settled_types.proofs.TypedCases.{Laws, branch_none, branches_none, laid_none, on_code, on_tree, plain_prep, when_none, whens_none}
use Rattle.settled_types.specs.OrderLaws.ScopeLaws.Code.{objects_of}
use Rattle.settled_types.proofs.OrderLaws.ScopeLaws.Lists.{all_both, all_one, all_if, has_reverse}
use Rattle.settled_types.proofs.OrderLaws.ScopeLaws.Ordered.{declared_within_has, held_temporary}

module _ (s : Setting) (P : ℕ → Type 0) (temporary : (at : Place) → P (s.temporary at)) where
  abbrev Each : List ℕ → Type 0
  Each xs = (x : ℕ) → Has xs x → P x

  abbrev IsWithin : NamedPoint → Type 0
  IsWithin p = Each p.scope

  abbrev Within : List NamedPoint → Type 0
  Within ps = AllByRecursion IsWithin ps

  both : (ps qs : List NamedPoint) → Within ps → Within qs → Within (ps ++ qs)
  both ps qs h g = all_both IsWithin ps qs h g

  one_more : (ps : List NamedPoint) (p : NamedPoint) → Within ps → Each p.scope → Within (ps ++ p ∷ [])
  one_more ps p h g = all_one IsWithin ps p h g

  -- ---- lists of objects

  each_both : (xs ys : List ℕ) → Each xs → Each ys → Each (xs ++ ys)
  each_both xs ys h g x has = elim (Has-append_cases xs ys x has) [ inl a ↦ h x a | inr b ↦ g x b ]

  each_back : (xs : List ℕ) → Each xs → Each (reverse xs)
  each_back xs h x has = h x (has_reverse xs x has)

  each_drop : (n : ℕ) (xs : List ℕ) → Each xs → Each (drop n xs)
  each_drop zero xs h = h
  each_drop (suc n) [] h = h
  each_drop (suc n) (x ∷ xs) h = each_drop n xs (λ y has. h y (inr has))

  each_if : (b : Bool) (xs ys : List ℕ) → Each xs → Each ys → Each (if b then xs else ys)
  each_if true xs ys h g = h
  each_if false xs ys h g = g

  each_from : (x : ℕ) (xs : List ℕ) → Each xs → Each (from x xs)
  each_from x [] h = h
  each_from x (y ∷ xs) h = each_if (y == x) (y ∷ xs) (from x xs) h (each_from x xs (λ z has. h z (inr has)))

  each_held : (e : TypedTree) (at : Place) (scope : List ℕ) → Each scope → Each (with_held s e at scope)
  each_held e at scope h =
      each_both (held s e at) scope (λ x has. (let t = held_temporary s e at x has in subst P t.1 (temporary t.0))) h

  each_more : (at : Place) (scope : List ℕ) → Each scope → Each (s.temporary at ∷ scope)
  each_more at scope h x (inl e) = subst P e (temporary at)
  each_more at scope h x (inr has) = h x has

  -- ---- before a use

  two_within : (x y : Place) (a b : TypedTree) (scope : List ℕ) (k : List PointName)
      → ((scope : List ℕ) (k : List PointName) → Each scope → Within (prep s a x scope k))
      → ((scope : List ℕ) (k : List PointName) → Each scope → Within (prep s b y scope k)) → Each scope
      → Within (prep s a x scope (entry (prep s b y (with_held s a x scope) k) k) ++ prep s b y (with_held s a x scope) k)
  two_within x y a b scope k first second h =
      both (prep s a x scope (entry (prep s b y (with_held s a x scope) k) k)) (prep s b y (with_held s a x scope) k)
      (first scope (entry (prep s b y (with_held s a x scope) k) k) h) (second (with_held s a x scope) k (each_held a x scope h))

  prep_within : (e : TypedTree) (at : Place) (scope : List ℕ) (k : List PointName) → Each scope → Within (prep s e at scope k)
  unfolding prep
  prep_within = on_tree {Of = λ e. (at : Place) → (scope : List ℕ) → (k : List PointName) → Each scope → Within (prep s e at scope k)} (record {
    call = λ p sub actuals by_actuals at scope k h.
        one_more (prep s actuals (0 ∷ at) scope (row_at at 0 ∷ [])) _ (by_actuals (0 ∷ at) scope (row_at at 0 ∷ []) h) (each_held actuals (0 ∷ at) scope h);
    short = λ op p a q b on_a by_b at scope k h.
        let right : List NamedPoint = prep s b (1 ∷ at) (s.temporary at ∷ scope) (row_at at 1 ∷ []) in
        all_if IsWithin (has_call b) _ _
        (both (prep s a (0 ∷ at) scope (row_at at 0 ∷ [])) _ (on_a (0 ∷ at) scope (row_at at 0 ∷ []) h) (
          each_held a (0 ∷ at) scope h,
          one_more right _ (by_b (1 ∷ at) (s.temporary at ∷ scope) (row_at at 1 ∷ []) (each_more at scope h))
              (each_held b (1 ∷ at) (s.temporary at ∷ scope) (each_more at scope h)),
        ))
        (two_within (0 ∷ at) (1 ∷ at) a b scope k (on_a (0 ∷ at)) (by_b (1 ∷ at)) h);
    binary = λ op a b on_a by_b at scope k h.
        two_within (0 ∷ at) (1 ∷ at) a b scope k (on_a (0 ∷ at)) (by_b (1 ∷ at)) h;
    list = λ a b on_a by_b at scope k h.
        two_within (0 ∷ at) (1 ∷ at) a b scope k (on_a (0 ∷ at)) (by_b (1 ∷ at)) h;
    element = λ a low high b on_a by_b at scope k h.
        two_within (0 ∷ at) (1 ∷ at) a b scope k (on_a (0 ∷ at)) (by_b (1 ∷ at)) h;
    name = λ p x e t by_e at scope k h.
        by_e (0 ∷ at) scope k h;
    component = λ i e by_e at scope k h.
        by_e (0 ∷ at) scope k h;
    designated = λ e by_e at scope k h.
        by_e (0 ∷ at) scope k h;
    image = λ t e by_e at scope k h.
        by_e (0 ∷ at) scope k h;
    parens = λ e by_e at scope k h.
        by_e (0 ∷ at) scope k h;
    unary = λ op e by_e at scope k h.
        by_e (0 ∷ at) scope k h;
    is_null = λ equal e by_e at scope k h.
        by_e (0 ∷ at) scope k h;
    aggregate = λ t e by_e at scope k h.
        by_e (0 ∷ at) scope k h;
    alike = λ t e by_e at scope k h.
        by_e (0 ∷ at) scope k h;
    allocator = λ t e by_e at scope k h.
        by_e (0 ∷ at) scope k h;
    others = λ e plain at scope k h. rw (plain_prep s e at scope k plain) (tt);
  })

  used : (at : Place) (p : Pos) (e : TypedTree) (i : Instruction) (scope : List ℕ) (next : List PointName) → Each scope
      → Within (prep s e (0 ∷ at) scope (row_at at 0 ∷ []) ++ point (row_at at 0) p i (with_held s e (0 ∷ at) scope) next ∷ [])
  used at p e i scope next h =
      one_more (prep s e (0 ∷ at) scope (row_at at 0 ∷ [])) (point (row_at at 0) p i (with_held s e (0 ∷ at) scope) next)
      (prep_within e (0 ∷ at) scope (row_at at 0 ∷ []) h) (each_held e (0 ∷ at) scope h)

  paired : (at x y : Place) (p : Pos) (a b : TypedTree) (i : Instruction) (scope : List ℕ) (next : List PointName) → Each scope
      → Within ((prep s a x scope (entry (prep s b y (with_held s a x scope) (row_at at 0 ∷ [])) (row_at at 0 ∷ []))
      ++ prep s b y (with_held s a x scope) (row_at at 0 ∷ [])) ++ point (row_at at 0) p i (with_held s b y (with_held s a x scope)) next ∷ [])
  paired at x y p a b i scope next h =
      let own : List PointName = row_at at 0 ∷ [] in
      let inner : List ℕ = with_held s a x scope in
      let behind : List NamedPoint = prep s b y inner own in
      one_more (prep s a x scope (entry behind own) ++ behind) (point (row_at at 0) p i (with_held s b y inner) next)
      (two_within x y a b scope own (prep_within a x) (prep_within b y) h) (each_held b y inner (each_held a x scope h))

  -- ---- ends

  ends_within : (at : Place) (row : ℕ) (p : Pos) (xs scope : List ℕ) (k : List PointName) → Each scope → Within (ends at row p xs scope k)
  ends_within at row p [] scope k h = tt
  ends_within at row p (x ∷ xs) scope k h =
      (each_from x scope h, ends_within at (suc row) p xs (drop 1 (from x scope)) k (each_drop 1 (from x scope) (each_from x scope h)))

  last_within : (at : Place) (row : ℕ) (p q : Pos) (xs scope formals : List ℕ) (finish : PointName) → Each scope → Each formals
      → Within (ends at row p xs scope (finish ∷ []) ++ point finish q Finish formals [] ∷ [])
  last_within at row p q xs scope formals finish h g =
      one_more (ends at row p xs scope (finish ∷ [])) (point finish q Finish formals []) (ends_within at row p xs scope (finish ∷ []) h) g

  -- ---- statements

  declared_each : (c : TypedCode) → Each (declared_within c) → Each (declared c)
  declared_each c h x has = h x (declared_within_has c x has)

  -- the scope after a part that declares some objects
  behind_each : (c : TypedCode) (scope : List ℕ) → Each (declared_within c) → Each scope → Each (reverse (declared c) ++ scope)
  behind_each c scope own h = each_both (reverse (declared c)) scope (each_back (declared c) (declared_each c own)) h

  left_each : (xs ys : List ℕ) → Each (xs ++ ys) → Each xs
  left_each xs ys h x has = h x (Has-append_left xs ys x has)

  right_each : (xs ys : List ℕ) → Each (xs ++ ys) → Each ys
  right_each xs ys h x has = h x (Has-append_right xs ys x has)

  with_parameter : (x : ℕ) (scope : List ℕ) → P x → Each scope → Each (x ∷ scope)
  with_parameter x scope p h y (inl e) = subst P e p
  with_parameter x scope p h y (inr has) = h y has

  laid_within_cases : Laws (λ c. (at : Place) → (w : Around) → (k : List PointName) → Each (declared_within c) → Each w.scope → Each w.formals → Within (laid s c at w k))
      (λ c. (at : Place) → (w : Around) → (k : List PointName) → (otherwise : List PointName) → Each (declared_within c) → Each w.scope → Each w.formals → Within (laid_branches s c at w k otherwise))
      (λ c. (at : Place) → (w : Around) → (k : List PointName) → (otherwise : List PointName) → Each (declared_within c) → Each w.scope → Each w.formals → Within (laid_branch s c at w k otherwise))
      (λ c. (at : Place) → (w : Around) → (k : List PointName) → Each (declared_within c) → Each w.scope → Each w.formals → Within (flat_map (λ ps. ps) (laid_whens s c at w k)))
      (λ c. (at : Place) → (w : Around) → (k : List PointName) → Each (declared_within c) → Each w.scope → Each w.formals → Within (laid_when s c at w k))
  unfolding laid declared_within
  laid_within_cases = record {
    list = λ a rest by_a by_rest at w k own h f.
        let v : Around = with_scope (declared a) w in
        let behind : List NamedPoint = laid s rest (1 ∷ at) v k in
        both (laid s a (0 ∷ at) w (entry behind k)) behind
        (by_a (0 ∷ at) w (entry behind k) (left_each (declared_within a) (declared_within rest) own) h f)
        (by_rest (1 ∷ at) v k (right_each (declared_within a) (declared_within rest) own)
        (behind_each a w.scope (left_each (declared_within a) (declared_within rest) own) h) f);
    declare = λ p x v at w k own h f.
        used at p v (instruction.Declare x v) w.scope k h;
    assign = λ p target e at w k own h f.
        paired at (1 ∷ at) (0 ∷ at) p e target (instruction.Assign target e) w.scope k h;
    skip = λ p at w k own h f.
        (h, tt);
    call = λ p sub actuals at w k own h f.
        used at p actuals (instruction.Call sub actuals None) w.scope k h;
    output = λ p text line at w k own h f.
        used at p text (instruction.Output text line) w.scope k h;
    input = λ p target at w k own h f.
        used at p target (instruction.Input target) w.scope k h;
    release = λ p m at w k own h f.
        used at p m (instruction.Release m) w.scope k h;
    choice = λ branches otherwise by_branches by_otherwise at w k own h f.
        let behind : List NamedPoint = laid s otherwise (1 ∷ at) w k in
        both (laid_branches s branches (0 ∷ at) w k (entry behind k)) behind
        (by_branches (0 ∷ at) w k (entry behind k) (left_each (declared_within branches) (declared_within otherwise) own) h f)
        (by_otherwise (1 ∷ at) w k (right_each (declared_within branches) (declared_within otherwise) own) h f);
    cases = λ p e whens by_whens at w k own h f.
        both _ (flat_map (λ ps. ps) (laid_whens s whens (1 ∷ at) w k)) (used at p e (instruction.Choose e (choices_of whens)) w.scope _ h)
        (by_whens (1 ∷ at) w k own h f);
    loop = λ stmts by_stmts at w k own h f.
        by_stmts (0 ∷ at) (within_loop k w) _ own h f;
    while = λ p e stmts by_stmts at w k own h f.
        let turn : List PointName = entry (prep s e (0 ∷ at) w.scope (row_at at 0 ∷ [])) (row_at at 0 ∷ []) in
        both _ (laid s stmts (1 ∷ at) (within_loop k w) turn) (used at p e (instruction.Test e) w.scope _ h)
        (by_stmts (1 ∷ at) (within_loop k w) turn own h f);
    for = λ p x reversed low high stmts by_stmts at w k own h f.
        let v : Around = with_scope (x ∷ []) (within_loop k w) in
        let next : List PointName = row_at at 1 ∷ [] in
        let inner : List NamedPoint = laid s stmts (2 ∷ at) v next in
        both _ (point (row_at at 1) p (instruction.Next x reversed low high) (x ∷ w.scope) (entry inner next ++ k) ∷ inner)
        (paired at (0 ∷ at) (1 ∷ at) p low high (instruction.Start x reversed low high) w.scope next h)
        (with_parameter x w.scope (own x (inl refl)) h, by_stmts (2 ∷ at) v next (λ y has. own y (inr has)) (with_parameter x w.scope (own x (inl refl)) h) f);
    exit = λ p e at w k own h f.
        both _ (ends at 1 p w.in_loop w.scope w.leave) (used at p e (instruction.LeaveLoop e) w.scope _ h) (ends_within at 1 p w.in_loop w.scope w.leave h);
    return = λ p v at w k own h f.
        both _ (closing at 1 p w) (used at p v (instruction.Hold v) w.scope _ h)
        (last_within at 1 p p w.in_all w.scope w.formals (row_at at (suc (length w.in_all))) h f);
    block = λ n stmts end by_stmts at w k own h f.
        let out : List NamedPoint = ends at 0 end (ending s stmts) (reverse (declared stmts) ++ w.scope) k in
        both (laid s stmts (0 ∷ at) (within_block (ending s stmts) w) (entry out k)) out
        (by_stmts (0 ∷ at) (within_block (ending s stmts) w) (entry out k) own h f)
        (ends_within at 0 end (ending s stmts) (reverse (declared stmts) ++ w.scope) k (behind_each stmts w.scope own h));
    others = λ c other at w k own h f. rw (laid_none s c at w k other) (tt);
    branches = λ a rest by_a by_rest at w k otherwise own h f.
        let behind : List NamedPoint = laid_branches s rest (1 ∷ at) w k otherwise in
        both (laid_branch s a (0 ∷ at) w k (entry behind otherwise)) behind
        (by_a (0 ∷ at) w k (entry behind otherwise) (left_each (declared_within a) (declared_within rest) own) h f)
        (by_rest (1 ∷ at) w k otherwise (right_each (declared_within a) (declared_within rest) own) h f);
    no_branches = λ c other at w k otherwise own h f. rw (branches_none s c at w k otherwise other) (tt);
    branch = λ p e stmts by_stmts at w k otherwise own h f.
        both _ (laid s stmts (1 ∷ at) w k) (used at p e (instruction.Test e) w.scope _ h) (by_stmts (1 ∷ at) w k own h f);
    no_branch = λ c other at w k otherwise own h f. rw (branch_none s c at w k otherwise other) (tt);
    alternatives = λ a rest by_a by_rest at w k own h f.
        both (laid_when s a (0 ∷ at) w k) (flat_map (λ ps. ps) (laid_whens s rest (1 ∷ at) w k))
        (by_a (0 ∷ at) w k (left_each (declared_within a) (declared_within rest) own) h f)
        (by_rest (1 ∷ at) w k (right_each (declared_within a) (declared_within rest) own) h f);
    no_alternatives = λ c other at w k own h f. rw (whens_none s c at w k other) (tt);
    alternative = λ choices stmts by_stmts at w k own h f.
        by_stmts (1 ∷ at) w k own h f;
    no_alternative = λ c other at w k own h f. rw (when_none s c at w k other) (tt);
  }

  laid_within : (c : TypedCode) (at : Place) (w : Around) (k : List PointName) → Each (declared_within c) → Each w.scope → Each w.formals → Within (laid s c at w k)
  laid_within = on_code laid_within_cases

  -- ---- subprograms

  end_within : (sub : TypedSub) (b : Bool) → Each (objects_of sub) → Within (if b then function_end sub else procedure_end s sub)
  end_within sub b own = by_end b
    where
      formals_each : Each (reverse sub.formals)
      formals_each = each_back sub.formals (left_each sub.formals (declared_within sub.body) own)

      all_each : Each (scope_at_end sub)
      all_each = behind_each sub.body (reverse sub.formals) (right_each sub.formals (declared_within sub.body) own) formals_each

      by_end : (b : Bool) → Within (if b then function_end sub else procedure_end s sub)
      by_end true = (all_each, tt)
      by_end false =
          last_within [] 0 sub.end sub.end (ending s sub.body) (scope_at_end sub) (reverse sub.formals) (row_at [] (length (ending s sub.body))) all_each formals_each

  pub sub_within : (sub : TypedSub) → Each (objects_of sub) → Within (sub_points s sub)
  sub_within sub own =
      let last : List NamedPoint = if is_some sub.result then function_end sub else procedure_end s sub in
      both (laid s sub.body (0 ∷ []) (around_body s sub) (entry last [])) last
      (laid_within sub.body (0 ∷ []) (around_body s sub) (entry last []) (right_each sub.formals (declared_within sub.body) own)
      (each_back sub.formals (left_each sub.formals (declared_within sub.body) own)) (each_back sub.formals (left_each sub.formals (declared_within sub.body) own)))
      (end_within sub (is_some sub.result) own)
