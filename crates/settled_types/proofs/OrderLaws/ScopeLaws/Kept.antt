-- What an instruction names is in scope at its point and kept, or as asked, if the objects of the subprogram are kept.
use Rattle.std.proofs.Common.{◌≡◌, refl, sym, ap, subst, inl, inr, ℕ, suc, Bool, true, false, ◌&&◌, ◌||◌, List, [], ◌∷◌, ◌++◌, length, if◌then◌else◌}
use Rattle.std.specs.Prelude.{None, filter, flat_map, drop, reverse, is_some}
use Rattle.std.specs.List.{AllByRecursion}
use Rattle.std.proofs.lemmas.Bool.{false≢true}
use Rattle.machine.specs.spark_base.declared.position.Pos.{Pos}
use Rattle.machine.specs.spark_base.Lists.{Has}
use Rattle.spark_base.proofs.Lists.{Has-append_left, Has-append_right, Has-append_cases}
use Rattle.machine.specs.typed_tree.Trees.{TypedTree, TypedCode}
use Rattle.machine.specs.typed_tree.Programs.{TypedSub}
use Rattle.machine.specs.flow_paths.Instructions.{Instruction, Finish}
use Rattle.machine.specs.flow_paths.Instructions as instruction
use Rattle.machine.specs.flow_paths.Names.{has_call}
use Rattle.machine.specs.flow_paths.Points.{Place, PointName, row_at, NamedPoint, point, entry}
use Rattle.machine.specs.flow_paths.Prep.{Setting, held, with_held, prep}
use Rattle.machine.specs.flow_paths.Layout.{Around, within_loop, within_block, with_scope, declared, from, ending, ends, closing, choices_of, laid, laid_branches, laid_branch, laid_whens, laid_when}
use Rattle.machine.specs.flow_paths.Laid.{declared_within, around_body, scope_at_end, procedure_end, function_end, sub_points}
use Rattle.machine.specs.flow_paths.Scopes.{is_within}
use Rattle.settled_types.proofs.TypedCases.{Laws, branch_none, branches_none, laid_none, on_code, on_tree, plain_prep, when_none, whens_none}
use Rattle.settled_types.specs.OrderLaws.ScopeLaws.Code.{objects_of, roots, are_seen, is_seen, is_each_seen, body_seen}
use Rattle.settled_types.specs.OrderLaws.ScopeLaws.Order.{named_in}
use Rattle.settled_types.specs.OrderLaws.ScopeLaws.Supplied.{IsKept}
use Rattle.settled_types.proofs.OrderLaws.ScopeLaws.Left.{seen_both, seen_more}
use Rattle.settled_types.proofs.OrderLaws.ScopeLaws.Lists.{and_first, and_second, both_true, all_both, all_one, all_if, has_reverse}
use Rattle.settled_types.proofs.OrderLaws.ScopeLaws.Ordered.{declared_within_has}

module _ (outer keep : ℕ → Bool) where
  -- ---- lists of objects

  seen_left : (scope xs ys : List ℕ) → are_seen outer scope (xs ++ ys) ≡ true → are_seen outer scope xs ≡ true
  seen_left scope [] ys h = refl
  seen_left scope (x ∷ xs) ys h =
      both_true (is_within x scope || outer x) (are_seen outer scope xs) (and_first (is_within x scope || outer x) (are_seen outer scope (xs ++ ys)) h)
      (seen_left scope xs ys (and_second (is_within x scope || outer x) (are_seen outer scope (xs ++ ys)) h))

  seen_right : (scope xs ys : List ℕ) → are_seen outer scope (xs ++ ys) ≡ true → are_seen outer scope ys ≡ true
  seen_right scope [] ys h = h
  seen_right scope (x ∷ xs) ys h = seen_right scope xs ys (and_second (is_within x scope || outer x) (are_seen outer scope (xs ++ ys)) h)

  abbrev AreKept : List ℕ → Type 0
  AreKept xs = (x : ℕ) → Has xs x → keep x ≡ true

  kept_same : (xs : List ℕ) → AreKept xs → filter keep xs ≡ xs
  kept_same [] all = refl
  kept_same (x ∷ xs) all = by (keep x) (all x (inl refl)) (kept_same xs (λ y has. all y (inr has)))
    where
      by : (b : Bool) → b ≡ true → filter keep xs ≡ xs → (if b then x ∷ filter keep xs else filter keep xs) ≡ x ∷ xs
      by true is more = ap (λ ys. x ∷ ys) more
      by false is more = absurd (false≢true is)

  kept_both : (xs ys : List ℕ) → AreKept xs → AreKept ys → AreKept (xs ++ ys)
  kept_both xs ys h g x has = elim (Has-append_cases xs ys x has) [ inl here ↦ h x here | inr more ↦ g x more ]

  kept_left : (xs ys : List ℕ) → AreKept (xs ++ ys) → AreKept xs
  kept_left xs ys h x has = h x (Has-append_left xs ys x has)

  kept_right : (xs ys : List ℕ) → AreKept (xs ++ ys) → AreKept ys
  kept_right xs ys h x has = h x (Has-append_right xs ys x has)

  kept_reverse : (xs : List ℕ) → AreKept xs → AreKept (reverse xs)
  kept_reverse xs h x has = h x (has_reverse xs x has)

  -- what is seen in scope and kept
  abbrev AreSeen : List ℕ → List ℕ → Type 0
  AreSeen scope xs = are_seen outer (filter keep scope) xs ≡ true

  filter_both : (xs ys : List ℕ) → filter keep (xs ++ ys) ≡ filter keep xs ++ filter keep ys
  filter_both [] ys = refl
  filter_both (x ∷ xs) ys = by (keep x) (filter_both xs ys)
    where
      by : (b : Bool) → filter keep (xs ++ ys) ≡ filter keep xs ++ filter keep ys
          → (if b then x ∷ filter keep (xs ++ ys) else filter keep (xs ++ ys)) ≡ (if b then x ∷ filter keep xs else filter keep xs) ++ filter keep ys
      by true is = ap (λ zs. x ∷ zs) is
      by false is = is

  more_kept : (front scope xs : List ℕ) → AreSeen scope xs → AreSeen (front ++ scope) xs
  more_kept front scope xs h = subst (λ zs. are_seen outer zs xs ≡ true) (sym (filter_both front scope)) (seen_more outer (filter keep front) (filter keep scope) xs h)

  kept_there : (scope xs : List ℕ) → AreKept scope → are_seen outer scope xs ≡ true → AreSeen scope xs
  kept_there scope xs kept h = subst (λ zs. are_seen outer zs xs ≡ true) (sym (kept_same scope kept)) h

  abbrev Seen : List NamedPoint → Type 0
  Seen ps = AllByRecursion (IsKept outer keep) ps

  both : (ps qs : List NamedPoint) → Seen ps → Seen qs → Seen (ps ++ qs)
  both ps qs h g = all_both (IsKept outer keep) ps qs h g

  one_more : (ps : List NamedPoint) (p : NamedPoint) → Seen ps → IsKept outer keep p → Seen (ps ++ p ∷ [])
  one_more ps p h g = all_one (IsKept outer keep) ps p h g

  module _ (s : Setting) where
    -- ---- before a use

    two_seen : (x y : Place) (a b : TypedTree) (scope : List ℕ) (k : List PointName)
        → ((scope : List ℕ) (k : List PointName) → AreSeen scope (roots a) → Seen (prep s a x scope k))
        → ((scope : List ℕ) (k : List PointName) → AreSeen scope (roots b) → Seen (prep s b y scope k))
        → AreSeen scope (roots a) → AreSeen scope (roots b)
        → Seen (prep s a x scope (entry (prep s b y (with_held s a x scope) k) k) ++ prep s b y (with_held s a x scope) k)
    two_seen x y a b scope k first second h g =
        both (prep s a x scope (entry (prep s b y (with_held s a x scope) k) k)) (prep s b y (with_held s a x scope) k)
        (first scope (entry (prep s b y (with_held s a x scope) k) k) h) (second (with_held s a x scope) k (more_kept (held s a x) scope (roots b) g))

    prep_seen : (e : TypedTree) (at : Place) (scope : List ℕ) (k : List PointName) → AreSeen scope (roots e) → Seen (prep s e at scope k)
    unfolding prep roots
    prep_seen = on_tree {Of = λ e. (at : Place) → (scope : List ℕ) → (k : List PointName) → AreSeen scope (roots e) → Seen (prep s e at scope k)} (record {
      call = λ p sub actuals by_actuals at scope k h.
          one_more (prep s actuals (0 ∷ at) scope (row_at at 0 ∷ [])) _ (by_actuals (0 ∷ at) scope (row_at at 0 ∷ []) h)
          (more_kept (held s actuals (0 ∷ at)) scope (roots actuals) h);
      short = λ op p a q b on_a by_b at scope k h.
          let right : List NamedPoint = prep s b (1 ∷ at) (s.temporary at ∷ scope) (row_at at 1 ∷ []) in
          let left_seen : AreSeen scope (roots a) = seen_left (filter keep scope) (roots a) (roots b) h in
          let right_seen : AreSeen scope (roots b) = seen_right (filter keep scope) (roots a) (roots b) h in
          let inner_seen : AreSeen (s.temporary at ∷ scope) (roots b) = more_kept (s.temporary at ∷ []) scope (roots b) right_seen in
          all_if (IsKept outer keep) (has_call b) _ _
          (both (prep s a (0 ∷ at) scope (row_at at 0 ∷ [])) _ (on_a (0 ∷ at) scope (row_at at 0 ∷ []) left_seen) (
            more_kept (held s a (0 ∷ at)) scope (roots a) left_seen,
            one_more right _ (by_b (1 ∷ at) (s.temporary at ∷ scope) (row_at at 1 ∷ []) inner_seen)
                (more_kept (held s b (1 ∷ at)) (s.temporary at ∷ scope) (roots b) inner_seen),
          ))
          (two_seen (0 ∷ at) (1 ∷ at) a b scope k (on_a (0 ∷ at)) (by_b (1 ∷ at)) left_seen right_seen);
      binary = λ op a b on_a by_b at scope k h.
          two_seen (0 ∷ at) (1 ∷ at) a b scope k (on_a (0 ∷ at)) (by_b (1 ∷ at)) (seen_left (filter keep scope) (roots a) (roots b) h)
          (seen_right (filter keep scope) (roots a) (roots b) h);
      list = λ a b on_a by_b at scope k h.
          two_seen (0 ∷ at) (1 ∷ at) a b scope k (on_a (0 ∷ at)) (by_b (1 ∷ at)) (seen_left (filter keep scope) (roots a) (roots b) h)
          (seen_right (filter keep scope) (roots a) (roots b) h);
      element = λ a low high b on_a by_b at scope k h.
          two_seen (0 ∷ at) (1 ∷ at) a b scope k (on_a (0 ∷ at)) (by_b (1 ∷ at)) (seen_left (filter keep scope) (roots a) (roots b) h)
          (seen_right (filter keep scope) (roots a) (roots b) h);
      name = λ p x e t by_e at scope k h.
          by_e (0 ∷ at) scope k (and_second (is_within x (filter keep scope) || outer x) (are_seen outer (filter keep scope) (roots e)) h);
      component = λ i e by_e at scope k h.
          by_e (0 ∷ at) scope k h;
      designated = λ e by_e at scope k h.
          by_e (0 ∷ at) scope k h;
      image = λ t e by_e at scope k h.
          by_e (0 ∷ at) scope k h;
      parens = λ e by_e at scope k h.
          by_e (0 ∷ at) scope k h;
      unary = λ op e by_e at scope k h.
          by_e (0 ∷ at) scope k h;
      is_null = λ equal e by_e at scope k h.
          by_e (0 ∷ at) scope k h;
      aggregate = λ t e by_e at scope k h.
          by_e (0 ∷ at) scope k h;
      alike = λ t e by_e at scope k h.
          by_e (0 ∷ at) scope k h;
      allocator = λ t e by_e at scope k h.
          by_e (0 ∷ at) scope k h;
      others = λ e plain at scope k h. rw (plain_prep s e at scope k plain) (tt);
    })

    used : (at : Place) (p : Pos) (e : TypedTree) (i : Instruction) (scope : List ℕ) (next : List PointName) → named_in i ≡ roots e → AreKept scope
        → are_seen outer scope (roots e) ≡ true
        → Seen (prep s e (0 ∷ at) scope (row_at at 0 ∷ []) ++ point (row_at at 0) p i (with_held s e (0 ∷ at) scope) next ∷ [])
    used at p e i scope next is kept seen =
        let h : AreSeen scope (roots e) = kept_there scope (roots e) kept seen in
        one_more (prep s e (0 ∷ at) scope (row_at at 0 ∷ [])) (point (row_at at 0) p i (with_held s e (0 ∷ at) scope) next)
        (prep_seen e (0 ∷ at) scope (row_at at 0 ∷ []) h)
        (subst (λ xs. AreSeen (with_held s e (0 ∷ at) scope) xs) (sym is) (more_kept (held s e (0 ∷ at)) scope (roots e) h))

    paired : (at x y : Place) (p : Pos) (a b : TypedTree) (i : Instruction) (scope : List ℕ) (next : List PointName) → named_in i ≡ roots a ++ roots b → AreKept scope
        → are_seen outer scope (roots a) ≡ true → are_seen outer scope (roots b) ≡ true
        → Seen ((prep s a x scope (entry (prep s b y (with_held s a x scope) (row_at at 0 ∷ [])) (row_at at 0 ∷ []))
        ++ prep s b y (with_held s a x scope) (row_at at 0 ∷ [])) ++ point (row_at at 0) p i (with_held s b y (with_held s a x scope)) next ∷ [])
    paired at x y p a b i scope next is kept first second =
        let h : AreSeen scope (roots a) = kept_there scope (roots a) kept first in
        let g : AreSeen scope (roots b) = kept_there scope (roots b) kept second in
        let own : List PointName = row_at at 0 ∷ [] in
        let inner : List ℕ = with_held s a x scope in
        let behind : List NamedPoint = prep s b y inner own in
        one_more (prep s a x scope (entry behind own) ++ behind) (point (row_at at 0) p i (with_held s b y inner) next)
        (two_seen x y a b scope own (prep_seen a x) (prep_seen b y) h g)
        (subst (λ xs. AreSeen (with_held s b y inner) xs) (sym is)
        (more_kept (held s b y) inner (roots a ++ roots b) (more_kept (held s a x) scope (roots a ++ roots b)
        (seen_both outer (filter keep scope) (roots a) (roots b) h g))))

    -- ---- ends

    ends_seen : (at : Place) (row : ℕ) (p : Pos) (xs scope : List ℕ) (k : List PointName) → Seen (ends at row p xs scope k)
    ends_seen at row p [] scope k = tt
    ends_seen at row p (x ∷ xs) scope k = (refl, ends_seen at (suc row) p xs (drop 1 (from x scope)) k)

    last_seen : (at : Place) (row : ℕ) (p q : Pos) (xs scope formals : List ℕ) (finish : PointName)
        → Seen (ends at row p xs scope (finish ∷ []) ++ point finish q Finish formals [] ∷ [])
    last_seen at row p q xs scope formals finish =
        one_more (ends at row p xs scope (finish ∷ [])) (point finish q Finish formals []) (ends_seen at row p xs scope (finish ∷ [])) refl

    -- ---- statements

    declared_kept : (c : TypedCode) → AreKept (declared_within c) → AreKept (declared c)
    declared_kept c all x has = all x (declared_within_has c x has)

    laid_seen_cases : Laws (λ c. (at : Place) → (w : Around) → (k : List PointName) → AreKept w.scope → AreKept (declared_within c) → is_seen outer w.scope c ≡ true → Seen (laid s c at w k))
        (λ c. (at : Place) → (w : Around) → (k : List PointName) → (otherwise : List PointName) → AreKept w.scope → AreKept (declared_within c) → is_each_seen outer w.scope c ≡ true → Seen (laid_branches s c at w k otherwise))
        (λ c. (at : Place) → (w : Around) → (k : List PointName) → (otherwise : List PointName) → AreKept w.scope → AreKept (declared_within c) → is_seen outer w.scope c ≡ true → Seen (laid_branch s c at w k otherwise))
        (λ c. (at : Place) → (w : Around) → (k : List PointName) → AreKept w.scope → AreKept (declared_within c) → is_each_seen outer w.scope c ≡ true → Seen (flat_map (λ ps. ps) (laid_whens s c at w k)))
        (λ c. (at : Place) → (w : Around) → (k : List PointName) → AreKept w.scope → AreKept (declared_within c) → is_seen outer w.scope c ≡ true → Seen (laid_when s c at w k))
    unfolding laid is_seen is_each_seen declared_within
    laid_seen_cases = record {
      list = λ a rest by_a by_rest at w k kept all h.
          let v : Around = with_scope (declared a) w in
          let behind : List NamedPoint = laid s rest (1 ∷ at) v k in
          both (laid s a (0 ∷ at) w (entry behind k)) behind
          (by_a (0 ∷ at) w (entry behind k) kept (kept_left (declared_within a) (declared_within rest) all) (and_first (is_seen outer w.scope a) (is_seen outer v.scope rest) h))
          (by_rest (1 ∷ at) v k (kept_both (reverse (declared a)) w.scope (kept_reverse (declared a) (declared_kept a (kept_left (declared_within a) (declared_within rest) all))) kept)
          (kept_right (declared_within a) (declared_within rest) all) (and_second (is_seen outer w.scope a) (is_seen outer v.scope rest) h));
      declare = λ p x v at w k kept all h.
          used at p v (instruction.Declare x v) w.scope k refl kept h;
      assign = λ p target e at w k kept all h.
          paired at (1 ∷ at) (0 ∷ at) p e target (instruction.Assign target e) w.scope k refl kept
          (and_first (are_seen outer w.scope (roots e)) (are_seen outer w.scope (roots target)) h)
          (and_second (are_seen outer w.scope (roots e)) (are_seen outer w.scope (roots target)) h);
      skip = λ p at w k kept all h.
          (refl, tt);
      call = λ p sub actuals at w k kept all h.
          used at p actuals (instruction.Call sub actuals None) w.scope k refl kept h;
      output = λ p text line at w k kept all h.
          used at p text (instruction.Output text line) w.scope k refl kept h;
      input = λ p target at w k kept all h.
          used at p target (instruction.Input target) w.scope k refl kept h;
      release = λ p m at w k kept all h.
          used at p m (instruction.Release m) w.scope k refl kept h;
      choice = λ branches otherwise by_branches by_otherwise at w k kept all h.
          let behind : List NamedPoint = laid s otherwise (1 ∷ at) w k in
          both (laid_branches s branches (0 ∷ at) w k (entry behind k)) behind
          (by_branches (0 ∷ at) w k (entry behind k) kept (kept_left (declared_within branches) (declared_within otherwise) all) (and_first (is_each_seen outer w.scope branches) (is_seen outer w.scope otherwise) h))
          (by_otherwise (1 ∷ at) w k kept (kept_right (declared_within branches) (declared_within otherwise) all) (and_second (is_each_seen outer w.scope branches) (is_seen outer w.scope otherwise) h));
      cases = λ p e whens by_whens at w k kept all h.
          both _ (flat_map (λ ps. ps) (laid_whens s whens (1 ∷ at) w k))
          (used at p e (instruction.Choose e (choices_of whens)) w.scope _ refl kept (and_first (are_seen outer w.scope (roots e)) (is_each_seen outer w.scope whens) h))
          (by_whens (1 ∷ at) w k kept all (and_second (are_seen outer w.scope (roots e)) (is_each_seen outer w.scope whens) h));
      loop = λ stmts by_stmts at w k kept all h.
          by_stmts (0 ∷ at) (within_loop k w) _ kept all h;
      while = λ p e stmts by_stmts at w k kept all h.
          let turn : List PointName = entry (prep s e (0 ∷ at) w.scope (row_at at 0 ∷ [])) (row_at at 0 ∷ []) in
          both _ (laid s stmts (1 ∷ at) (within_loop k w) turn)
          (used at p e (instruction.Test e) w.scope _ refl kept (and_first (are_seen outer w.scope (roots e)) (is_seen outer w.scope stmts) h))
          (by_stmts (1 ∷ at) (within_loop k w) turn kept all (and_second (are_seen outer w.scope (roots e)) (is_seen outer w.scope stmts) h));
      for = λ p x reversed low high stmts by_stmts at w k kept all h.
          let v : Around = with_scope (x ∷ []) (within_loop k w) in
          let next : List PointName = row_at at 1 ∷ [] in
          let inner : List NamedPoint = laid s stmts (2 ∷ at) v next in
          let bounds : (are_seen outer w.scope (roots low) && are_seen outer w.scope (roots high)) ≡ true =
          and_first (are_seen outer w.scope (roots low) && are_seen outer w.scope (roots high)) (is_seen outer (x ∷ w.scope) stmts) h in
          both _ (point (row_at at 1) p (instruction.Next x reversed low high) (x ∷ w.scope) (entry inner next ++ k) ∷ inner)
          (paired at (0 ∷ at) (1 ∷ at) p low high (instruction.Start x reversed low high) w.scope next refl kept
          (and_first (are_seen outer w.scope (roots low)) (are_seen outer w.scope (roots high)) bounds)
          (and_second (are_seen outer w.scope (roots low)) (are_seen outer w.scope (roots high)) bounds)) (
            refl,
            by_stmts (2 ∷ at) v next (kept_both (x ∷ []) w.scope (λ y has. elim has [ inl same ↦ all y (inl same) | inr never ↦ absurd never ]) kept) (λ y has. all y (inr has))
                (and_second (are_seen outer w.scope (roots low) && are_seen outer w.scope (roots high)) (is_seen outer (x ∷ w.scope) stmts) h),
          );
      exit = λ p e at w k kept all h.
          both _ (ends at 1 p w.in_loop w.scope w.leave) (used at p e (instruction.LeaveLoop e) w.scope _ refl kept h) (ends_seen at 1 p w.in_loop w.scope w.leave);
      return = λ p v at w k kept all h.
          both _ (closing at 1 p w) (used at p v (instruction.Hold v) w.scope _ refl kept h)
          (last_seen at 1 p p w.in_all w.scope w.formals (row_at at (suc (length w.in_all))));
      block = λ n stmts end by_stmts at w k kept all h.
          let out : List NamedPoint = ends at 0 end (ending s stmts) (reverse (declared stmts) ++ w.scope) k in
          both (laid s stmts (0 ∷ at) (within_block (ending s stmts) w) (entry out k)) out
          (by_stmts (0 ∷ at) (within_block (ending s stmts) w) (entry out k) kept all h)
          (ends_seen at 0 end (ending s stmts) (reverse (declared stmts) ++ w.scope) k);
      others = λ c other at w k kept all h. rw (laid_none s c at w k other) (tt);
      branches = λ a rest by_a by_rest at w k otherwise kept all h.
          let behind : List NamedPoint = laid_branches s rest (1 ∷ at) w k otherwise in
          both (laid_branch s a (0 ∷ at) w k (entry behind otherwise)) behind
          (by_a (0 ∷ at) w k (entry behind otherwise) kept (kept_left (declared_within a) (declared_within rest) all) (and_first (is_seen outer w.scope a) (is_each_seen outer w.scope rest) h))
          (by_rest (1 ∷ at) w k otherwise kept (kept_right (declared_within a) (declared_within rest) all) (and_second (is_seen outer w.scope a) (is_each_seen outer w.scope rest) h));
      no_branches = λ c other at w k otherwise kept all h. rw (branches_none s c at w k otherwise other) (tt);
      branch = λ p e stmts by_stmts at w k otherwise kept all h.
          both _ (laid s stmts (1 ∷ at) w k)
          (used at p e (instruction.Test e) w.scope _ refl kept (and_first (are_seen outer w.scope (roots e)) (is_seen outer w.scope stmts) h))
          (by_stmts (1 ∷ at) w k kept all (and_second (are_seen outer w.scope (roots e)) (is_seen outer w.scope stmts) h));
      no_branch = λ c other at w k otherwise kept all h. rw (branch_none s c at w k otherwise other) (tt);
      alternatives = λ a rest by_a by_rest at w k kept all h.
          both (laid_when s a (0 ∷ at) w k) (flat_map (λ ps. ps) (laid_whens s rest (1 ∷ at) w k))
          (by_a (0 ∷ at) w k kept (kept_left (declared_within a) (declared_within rest) all) (and_first (is_seen outer w.scope a) (is_each_seen outer w.scope rest) h))
          (by_rest (1 ∷ at) w k kept (kept_right (declared_within a) (declared_within rest) all) (and_second (is_seen outer w.scope a) (is_each_seen outer w.scope rest) h));
      no_alternatives = λ c other at w k kept all h. rw (whens_none s c at w k other) (tt);
      alternative = λ choices stmts by_stmts at w k kept all h.
          by_stmts (1 ∷ at) w k kept all h;
      no_alternative = λ c other at w k kept all h. rw (when_none s c at w k other) (tt);
    }

    laid_seen : (c : TypedCode) (at : Place) (w : Around) (k : List PointName) → AreKept w.scope → AreKept (declared_within c) → is_seen outer w.scope c ≡ true → Seen (laid s c at w k)
    laid_seen = on_code laid_seen_cases

    -- ---- subprograms

    end_seen : (sub : TypedSub) (b : Bool) → Seen (if b then function_end sub else procedure_end s sub)
    end_seen sub true = (refl, tt)
    end_seen sub false =
        last_seen [] 0 sub.end sub.end (ending s sub.body) (scope_at_end sub) (reverse sub.formals) (row_at [] (length (ending s sub.body)))

    pub sub_kept : (sub : TypedSub) → AreKept (objects_of sub) → body_seen outer sub ≡ true → Seen (sub_points s sub)
    sub_kept sub all h =
        both (laid s sub.body (0 ∷ []) (around_body s sub) _) _
        (laid_seen sub.body (0 ∷ []) (around_body s sub) _ (kept_reverse sub.formals (kept_left sub.formals (declared_within sub.body) all))
        (kept_right sub.formals (declared_within sub.body) all) h)
        (end_seen sub (is_some sub.result))
