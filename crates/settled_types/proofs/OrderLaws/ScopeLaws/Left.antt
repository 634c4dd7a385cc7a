-- What an instruction names is in scope at its point beside the temporaries that it takes, or as asked.
use Rattle.std.proofs.Common.{◌≡◌, refl, sym, ◌∙◌, subst, ℕ, suc, ◌+◌, Bool, true, false, ◌&&◌, ◌||◌, ◌==◌, List, [], ◌∷◌, ◌++◌, length, length-append, append_assoc, arith, if◌then◌else◌}
use Rattle.std.specs.Prelude.{None, flat_map, drop, reverse, is_some}
use Rattle.std.specs.List.{AllByRecursion}
use Rattle.std.proofs.lemmas.List.Folds.{list_any-append}
use Rattle.machine.specs.spark_base.declared.position.Pos.{Pos}
use Rattle.machine.specs.typed_tree.Trees.{TypedTree, TypedCode}
use Rattle.machine.specs.typed_tree.Programs.{TypedSub}
use Rattle.machine.specs.flow_paths.Instructions.{Instruction, Finish}
use Rattle.machine.specs.flow_paths.Instructions as instruction
use Rattle.machine.specs.flow_paths.Names.{has_call, waiting}
use Rattle.machine.specs.flow_paths.Points.{Place, PointName, row_at, NamedPoint, point, entry}
use Rattle.machine.specs.flow_paths.Prep.{Setting, held, with_held, prep}
use Rattle.machine.specs.flow_paths.Layout.{Around, within_loop, within_block, with_scope, declared, from, ending, ends, closing, choices_of, laid, laid_branches, laid_branch, laid_whens, laid_when}
use Rattle.machine.specs.flow_paths.Laid.{around_body, scope_at_end, procedure_end, function_end, body_points, sub_points, elaboration_points}
use Rattle.machine.specs.flow_paths.Scopes.{is_within, taken}
use Rattle.flow_paths.proofs.Held.{held_count}
use Rattle.settled_types.proofs.TypedCases.{Laws, branch_none, branches_none, laid_none, on_code, on_tree, plain_prep, when_none, whens_none}
use Rattle.settled_types.specs.OrderLaws.ScopeLaws.Code.{roots, are_seen, is_seen, is_each_seen, body_seen}
use Rattle.settled_types.specs.OrderLaws.ScopeLaws.Order.{named_in}
use Rattle.settled_types.specs.OrderLaws.ScopeLaws.Supplied.{IsLeft}
use Rattle.settled_types.proofs.OrderLaws.ScopeLaws.Lists.{and_first, and_second, both_true, all_both, all_one, all_if}

drop_all : (xs ys : List ℕ) → drop (length xs) (xs ++ ys) ≡ ys
drop_all [] ys = refl
drop_all (x ∷ xs) ys = drop_all xs ys

module _ (outer : ℕ → Bool) where
  -- ---- lists of objects

  seen_left : (scope xs ys : List ℕ) → are_seen outer scope (xs ++ ys) ≡ true → are_seen outer scope xs ≡ true
  seen_left scope [] ys h = refl
  seen_left scope (x ∷ xs) ys h =
      both_true (is_within x scope || outer x) (are_seen outer scope xs) (and_first (is_within x scope || outer x) (are_seen outer scope (xs ++ ys)) h)
      (seen_left scope xs ys (and_second (is_within x scope || outer x) (are_seen outer scope (xs ++ ys)) h))

  seen_right : (scope xs ys : List ℕ) → are_seen outer scope (xs ++ ys) ≡ true → are_seen outer scope ys ≡ true
  seen_right scope [] ys h = h
  seen_right scope (x ∷ xs) ys h = seen_right scope xs ys (and_second (is_within x scope || outer x) (are_seen outer scope (xs ++ ys)) h)

  pub seen_both : (scope xs ys : List ℕ) → are_seen outer scope xs ≡ true → are_seen outer scope ys ≡ true → are_seen outer scope (xs ++ ys) ≡ true
  seen_both scope [] ys h g = g
  seen_both scope (x ∷ xs) ys h g =
      both_true (is_within x scope || outer x) (are_seen outer scope (xs ++ ys)) (and_first (is_within x scope || outer x) (are_seen outer scope xs) h)
      (seen_both scope xs ys (and_second (is_within x scope || outer x) (are_seen outer scope xs) h) g)

  or_more : (a b c d : Bool) → d ≡ a || b → b || c ≡ true → d || c ≡ true
  or_more a b c d e h = grind (arith, e, h)

  -- with more in scope
  pub seen_more : (front scope xs : List ℕ) → are_seen outer scope xs ≡ true → are_seen outer (front ++ scope) xs ≡ true
  seen_more front scope [] h = refl
  seen_more front scope (x ∷ xs) h =
      both_true (is_within x (front ++ scope) || outer x) (are_seen outer (front ++ scope) xs)
      (or_more (is_within x front) (is_within x scope) (outer x) (is_within x (front ++ scope)) (list_any-append (λ y. x == y) front scope)
      (and_first (is_within x scope || outer x) (are_seen outer scope xs) h))
      (seen_more front scope xs (and_second (is_within x scope || outer x) (are_seen outer scope xs) h))

  abbrev Seen : List NamedPoint → Type 0
  Seen ps = AllByRecursion (IsLeft outer) ps

  both : (ps qs : List NamedPoint) → Seen ps → Seen qs → Seen (ps ++ qs)
  both ps qs h g = all_both (IsLeft outer) ps qs h g

  one_more : (ps : List NamedPoint) (p : NamedPoint) → Seen ps → IsLeft outer p → Seen (ps ++ p ∷ [])
  one_more ps p h g = all_one (IsLeft outer) ps p h g

  module _ (s : Setting) where
    left_is : (ys scope xs : List ℕ) (n : ℕ) → length ys ≡ n → are_seen outer scope xs ≡ true → are_seen outer (drop n (ys ++ scope)) xs ≡ true
    left_is ys scope xs n long h = subst (λ zs. are_seen outer zs xs ≡ true) (sym (subst (λ k. drop k (ys ++ scope) ≡ scope) long (drop_all ys scope))) h

    held_left : (e : TypedTree) (at : Place) (scope xs : List ℕ) (n : ℕ) → n ≡ waiting e → are_seen outer scope xs ≡ true → are_seen outer (drop n (with_held s e at scope)) xs ≡ true
    held_left e at scope xs n takes h = left_is (held s e at) scope xs n (held_count s e at ∙ sym takes) h

    held_more : (e : TypedTree) (at : Place) (scope xs : List ℕ) → are_seen outer scope xs ≡ true → are_seen outer (with_held s e at scope) xs ≡ true
    held_more e at scope xs h = seen_more (held s e at) scope xs h

    -- ---- before a use

    two_seen : (x y : Place) (a b : TypedTree) (scope : List ℕ) (k : List PointName)
        → ((scope : List ℕ) (k : List PointName) → are_seen outer scope (roots a) ≡ true → Seen (prep s a x scope k))
        → ((scope : List ℕ) (k : List PointName) → are_seen outer scope (roots b) ≡ true → Seen (prep s b y scope k))
        → are_seen outer scope (roots a) ≡ true → are_seen outer scope (roots b) ≡ true
        → Seen (prep s a x scope (entry (prep s b y (with_held s a x scope) k) k) ++ prep s b y (with_held s a x scope) k)
    two_seen x y a b scope k first second h g =
        both (prep s a x scope (entry (prep s b y (with_held s a x scope) k) k)) (prep s b y (with_held s a x scope) k)
        (first scope (entry (prep s b y (with_held s a x scope) k) k) h) (second (with_held s a x scope) k (held_more a x scope (roots b) g))

    prep_seen : (e : TypedTree) (at : Place) (scope : List ℕ) (k : List PointName) → are_seen outer scope (roots e) ≡ true → Seen (prep s e at scope k)
    unfolding prep roots
    prep_seen = on_tree {Of = λ e. (at : Place) → (scope : List ℕ) → (k : List PointName) → are_seen outer scope (roots e) ≡ true → Seen (prep s e at scope k)} (record {
      call = λ p sub actuals by_actuals at scope k h.
          one_more (prep s actuals (0 ∷ at) scope (row_at at 0 ∷ [])) _ (by_actuals (0 ∷ at) scope (row_at at 0 ∷ []) h)
          (held_left actuals (0 ∷ at) scope (roots actuals) (waiting actuals) refl h);
      short = λ op p a q b on_a by_b at scope k h.
          let right : List NamedPoint = prep s b (1 ∷ at) (s.temporary at ∷ scope) (row_at at 1 ∷ []) in
          let left_seen : are_seen outer scope (roots a) ≡ true = seen_left scope (roots a) (roots b) h in
          let right_seen : are_seen outer scope (roots b) ≡ true = seen_right scope (roots a) (roots b) h in
          let inner_seen : are_seen outer (s.temporary at ∷ scope) (roots b) ≡ true = seen_more (s.temporary at ∷ []) scope (roots b) right_seen in
          all_if (IsLeft outer) (has_call b) _ _
          (both (prep s a (0 ∷ at) scope (row_at at 0 ∷ [])) _ (on_a (0 ∷ at) scope (row_at at 0 ∷ []) left_seen) (
            held_left a (0 ∷ at) scope (roots a) (waiting a) refl left_seen,
            one_more right _ (by_b (1 ∷ at) (s.temporary at ∷ scope) (row_at at 1 ∷ []) inner_seen)
                (held_left b (1 ∷ at) (s.temporary at ∷ scope) (roots b) (waiting b) refl inner_seen),
          ))
          (two_seen (0 ∷ at) (1 ∷ at) a b scope k (on_a (0 ∷ at)) (by_b (1 ∷ at)) left_seen right_seen);
      binary = λ op a b on_a by_b at scope k h.
          two_seen (0 ∷ at) (1 ∷ at) a b scope k (on_a (0 ∷ at)) (by_b (1 ∷ at)) (seen_left scope (roots a) (roots b) h)
          (seen_right scope (roots a) (roots b) h);
      list = λ a b on_a by_b at scope k h.
          two_seen (0 ∷ at) (1 ∷ at) a b scope k (on_a (0 ∷ at)) (by_b (1 ∷ at)) (seen_left scope (roots a) (roots b) h)
          (seen_right scope (roots a) (roots b) h);
      element = λ a low high b on_a by_b at scope k h.
          two_seen (0 ∷ at) (1 ∷ at) a b scope k (on_a (0 ∷ at)) (by_b (1 ∷ at)) (seen_left scope (roots a) (roots b) h)
          (seen_right scope (roots a) (roots b) h);
      name = λ p x e t by_e at scope k h.
          by_e (0 ∷ at) scope k (and_second (is_within x scope || outer x) (are_seen outer scope (roots e)) h);
      component = λ i e by_e at scope k h.
          by_e (0 ∷ at) scope k h;
      designated = λ e by_e at scope k h.
          by_e (0 ∷ at) scope k h;
      image = λ t e by_e at scope k h.
          by_e (0 ∷ at) scope k h;
      parens = λ e by_e at scope k h.
          by_e (0 ∷ at) scope k h;
      unary = λ op e by_e at scope k h.
          by_e (0 ∷ at) scope k h;
      is_null = λ equal e by_e at scope k h.
          by_e (0 ∷ at) scope k h;
      aggregate = λ t e by_e at scope k h.
          by_e (0 ∷ at) scope k h;
      alike = λ t e by_e at scope k h.
          by_e (0 ∷ at) scope k h;
      allocator = λ t e by_e at scope k h.
          by_e (0 ∷ at) scope k h;
      others = λ e plain at scope k h. rw (plain_prep s e at scope k plain) (tt);
    })

    used : (at : Place) (p : Pos) (e : TypedTree) (i : Instruction) (scope : List ℕ) (next : List PointName) → named_in i ≡ roots e → taken i ≡ waiting e
        → are_seen outer scope (roots e) ≡ true
        → Seen (prep s e (0 ∷ at) scope (row_at at 0 ∷ []) ++ point (row_at at 0) p i (with_held s e (0 ∷ at) scope) next ∷ [])
    used at p e i scope next is takes h =
        one_more (prep s e (0 ∷ at) scope (row_at at 0 ∷ [])) (point (row_at at 0) p i (with_held s e (0 ∷ at) scope) next)
        (prep_seen e (0 ∷ at) scope (row_at at 0 ∷ []) h)
        (subst (λ xs. are_seen outer (drop (taken i) (with_held s e (0 ∷ at) scope)) xs ≡ true) (sym is) (held_left e (0 ∷ at) scope (roots e) (taken i) takes h))

    paired : (at x y : Place) (p : Pos) (a b : TypedTree) (i : Instruction) (scope : List ℕ) (next : List PointName) → named_in i ≡ roots a ++ roots b → taken i ≡ waiting a + waiting b
        → are_seen outer scope (roots a) ≡ true → are_seen outer scope (roots b) ≡ true
        → Seen ((prep s a x scope (entry (prep s b y (with_held s a x scope) (row_at at 0 ∷ [])) (row_at at 0 ∷ []))
        ++ prep s b y (with_held s a x scope) (row_at at 0 ∷ [])) ++ point (row_at at 0) p i (with_held s b y (with_held s a x scope)) next ∷ [])
    paired at x y p a b i scope next is takes h g =
        let own : List PointName = row_at at 0 ∷ [] in
        let inner : List ℕ = with_held s a x scope in
        let behind : List NamedPoint = prep s b y inner own in
        one_more (prep s a x scope (entry behind own) ++ behind) (point (row_at at 0) p i (with_held s b y inner) next)
        (two_seen x y a b scope own (prep_seen a x) (prep_seen b y) h g)
        (subst (λ xs. are_seen outer (drop (taken i) (with_held s b y inner)) xs ≡ true) (sym is)
        (subst (λ zs. are_seen outer (drop (taken i) zs) (roots a ++ roots b) ≡ true) (append_assoc (held s b y) (held s a x) scope)
        (left_is (held s b y ++ held s a x) scope (roots a ++ roots b) (taken i)
        (let one = held_count s a x in let two = held_count s b y in let long = length-append (held s b y) (held s a x) in omega (arith, one, two, long, takes))
        (seen_both scope (roots a) (roots b) h g))))

    -- ---- ends

    ends_seen : (at : Place) (row : ℕ) (p : Pos) (xs scope : List ℕ) (k : List PointName) → Seen (ends at row p xs scope k)
    ends_seen at row p [] scope k = tt
    ends_seen at row p (x ∷ xs) scope k = (refl, ends_seen at (suc row) p xs (drop 1 (from x scope)) k)

    last_seen : (at : Place) (row : ℕ) (p q : Pos) (xs scope formals : List ℕ) (finish : PointName)
        → Seen (ends at row p xs scope (finish ∷ []) ++ point finish q Finish formals [] ∷ [])
    last_seen at row p q xs scope formals finish =
        one_more (ends at row p xs scope (finish ∷ [])) (point finish q Finish formals []) (ends_seen at row p xs scope (finish ∷ [])) refl

    -- ---- statements

    laid_seen_cases : Laws (λ c. (at : Place) → (w : Around) → (k : List PointName) → is_seen outer w.scope c ≡ true → Seen (laid s c at w k))
        (λ c. (at : Place) → (w : Around) → (k : List PointName) → (otherwise : List PointName) → is_each_seen outer w.scope c ≡ true → Seen (laid_branches s c at w k otherwise))
        (λ c. (at : Place) → (w : Around) → (k : List PointName) → (otherwise : List PointName) → is_seen outer w.scope c ≡ true → Seen (laid_branch s c at w k otherwise))
        (λ c. (at : Place) → (w : Around) → (k : List PointName) → is_each_seen outer w.scope c ≡ true → Seen (flat_map (λ ps. ps) (laid_whens s c at w k)))
        (λ c. (at : Place) → (w : Around) → (k : List PointName) → is_seen outer w.scope c ≡ true → Seen (laid_when s c at w k))
    unfolding laid is_seen is_each_seen
    laid_seen_cases = record {
      list = λ a rest by_a by_rest at w k h.
          let v : Around = with_scope (declared a) w in
          let behind : List NamedPoint = laid s rest (1 ∷ at) v k in
          both (laid s a (0 ∷ at) w (entry behind k)) behind
          (by_a (0 ∷ at) w (entry behind k) (and_first (is_seen outer w.scope a) (is_seen outer v.scope rest) h))
          (by_rest (1 ∷ at) v k (and_second (is_seen outer w.scope a) (is_seen outer v.scope rest) h));
      declare = λ p x v at w k h.
          used at p v (instruction.Declare x v) w.scope k refl refl h;
      assign = λ p target e at w k h.
          paired at (1 ∷ at) (0 ∷ at) p e target (instruction.Assign target e) w.scope k refl refl
          (and_first (are_seen outer w.scope (roots e)) (are_seen outer w.scope (roots target)) h)
          (and_second (are_seen outer w.scope (roots e)) (are_seen outer w.scope (roots target)) h);
      skip = λ p at w k h.
          (refl, tt);
      call = λ p sub actuals at w k h.
          used at p actuals (instruction.Call sub actuals None) w.scope k refl refl h;
      output = λ p text line at w k h.
          used at p text (instruction.Output text line) w.scope k refl refl h;
      input = λ p target at w k h.
          used at p target (instruction.Input target) w.scope k refl refl h;
      release = λ p m at w k h.
          used at p m (instruction.Release m) w.scope k refl refl h;
      choice = λ branches otherwise by_branches by_otherwise at w k h.
          let behind : List NamedPoint = laid s otherwise (1 ∷ at) w k in
          both (laid_branches s branches (0 ∷ at) w k (entry behind k)) behind
          (by_branches (0 ∷ at) w k (entry behind k) (and_first (is_each_seen outer w.scope branches) (is_seen outer w.scope otherwise) h))
          (by_otherwise (1 ∷ at) w k (and_second (is_each_seen outer w.scope branches) (is_seen outer w.scope otherwise) h));
      cases = λ p e whens by_whens at w k h.
          both _ (flat_map (λ ps. ps) (laid_whens s whens (1 ∷ at) w k))
          (used at p e (instruction.Choose e (choices_of whens)) w.scope _ refl refl (and_first (are_seen outer w.scope (roots e)) (is_each_seen outer w.scope whens) h))
          (by_whens (1 ∷ at) w k (and_second (are_seen outer w.scope (roots e)) (is_each_seen outer w.scope whens) h));
      loop = λ stmts by_stmts at w k h.
          by_stmts (0 ∷ at) (within_loop k w) _ h;
      while = λ p e stmts by_stmts at w k h.
          let turn : List PointName = entry (prep s e (0 ∷ at) w.scope (row_at at 0 ∷ [])) (row_at at 0 ∷ []) in
          both _ (laid s stmts (1 ∷ at) (within_loop k w) turn)
          (used at p e (instruction.Test e) w.scope _ refl refl (and_first (are_seen outer w.scope (roots e)) (is_seen outer w.scope stmts) h))
          (by_stmts (1 ∷ at) (within_loop k w) turn (and_second (are_seen outer w.scope (roots e)) (is_seen outer w.scope stmts) h));
      for = λ p x reversed low high stmts by_stmts at w k h.
          let v : Around = with_scope (x ∷ []) (within_loop k w) in
          let next : List PointName = row_at at 1 ∷ [] in
          let inner : List NamedPoint = laid s stmts (2 ∷ at) v next in
          let bounds : (are_seen outer w.scope (roots low) && are_seen outer w.scope (roots high)) ≡ true =
          and_first (are_seen outer w.scope (roots low) && are_seen outer w.scope (roots high)) (is_seen outer (x ∷ w.scope) stmts) h in
          both _ (point (row_at at 1) p (instruction.Next x reversed low high) (x ∷ w.scope) (entry inner next ++ k) ∷ inner)
          (paired at (0 ∷ at) (1 ∷ at) p low high (instruction.Start x reversed low high) w.scope next refl refl
          (and_first (are_seen outer w.scope (roots low)) (are_seen outer w.scope (roots high)) bounds)
          (and_second (are_seen outer w.scope (roots low)) (are_seen outer w.scope (roots high)) bounds)) (
            refl,
            by_stmts (2 ∷ at) v next
                (and_second (are_seen outer w.scope (roots low) && are_seen outer w.scope (roots high)) (is_seen outer (x ∷ w.scope) stmts) h),
          );
      exit = λ p e at w k h.
          both _ (ends at 1 p w.in_loop w.scope w.leave) (used at p e (instruction.LeaveLoop e) w.scope _ refl refl h) (ends_seen at 1 p w.in_loop w.scope w.leave);
      return = λ p v at w k h.
          both _ (closing at 1 p w) (used at p v (instruction.Hold v) w.scope _ refl refl h)
          (last_seen at 1 p p w.in_all w.scope w.formals (row_at at (suc (length w.in_all))));
      block = λ n stmts end by_stmts at w k h.
          let out : List NamedPoint = ends at 0 end (ending s stmts) (reverse (declared stmts) ++ w.scope) k in
          both (laid s stmts (0 ∷ at) (within_block (ending s stmts) w) (entry out k)) out
          (by_stmts (0 ∷ at) (within_block (ending s stmts) w) (entry out k) h)
          (ends_seen at 0 end (ending s stmts) (reverse (declared stmts) ++ w.scope) k);
      others = λ c other at w k h. rw (laid_none s c at w k other) (tt);
      branches = λ a rest by_a by_rest at w k otherwise h.
          let behind : List NamedPoint = laid_branches s rest (1 ∷ at) w k otherwise in
          both (laid_branch s a (0 ∷ at) w k (entry behind otherwise)) behind
          (by_a (0 ∷ at) w k (entry behind otherwise) (and_first (is_seen outer w.scope a) (is_each_seen outer w.scope rest) h))
          (by_rest (1 ∷ at) w k otherwise (and_second (is_seen outer w.scope a) (is_each_seen outer w.scope rest) h));
      no_branches = λ c other at w k otherwise h. rw (branches_none s c at w k otherwise other) (tt);
      branch = λ p e stmts by_stmts at w k otherwise h.
          both _ (laid s stmts (1 ∷ at) w k)
          (used at p e (instruction.Test e) w.scope _ refl refl (and_first (are_seen outer w.scope (roots e)) (is_seen outer w.scope stmts) h))
          (by_stmts (1 ∷ at) w k (and_second (are_seen outer w.scope (roots e)) (is_seen outer w.scope stmts) h));
      no_branch = λ c other at w k otherwise h. rw (branch_none s c at w k otherwise other) (tt);
      alternatives = λ a rest by_a by_rest at w k h.
          both (laid_when s a (0 ∷ at) w k) (flat_map (λ ps. ps) (laid_whens s rest (1 ∷ at) w k))
          (by_a (0 ∷ at) w k (and_first (is_seen outer w.scope a) (is_each_seen outer w.scope rest) h))
          (by_rest (1 ∷ at) w k (and_second (is_seen outer w.scope a) (is_each_seen outer w.scope rest) h));
      no_alternatives = λ c other at w k h. rw (whens_none s c at w k other) (tt);
      alternative = λ choices stmts by_stmts at w k h.
          by_stmts (1 ∷ at) w k h;
      no_alternative = λ c other at w k h. rw (when_none s c at w k other) (tt);
    }

    laid_seen : (c : TypedCode) (at : Place) (w : Around) (k : List PointName) → is_seen outer w.scope c ≡ true → Seen (laid s c at w k)
    laid_seen = on_code laid_seen_cases

    -- ---- subprograms

    body_points_seen : (sub : TypedSub) (end : List NamedPoint) → body_seen outer sub ≡ true → Seen end → Seen (body_points s sub end)
    body_points_seen sub end h last =
        both (laid s sub.body (0 ∷ []) (around_body s sub) (entry end [])) end (laid_seen sub.body (0 ∷ []) (around_body s sub) (entry end []) h) last

    end_seen : (sub : TypedSub) (b : Bool) → Seen (if b then function_end sub else procedure_end s sub)
    end_seen sub true = (refl, tt)
    end_seen sub false =
        last_seen [] 0 sub.end sub.end (ending s sub.body) (scope_at_end sub) (reverse sub.formals) (row_at [] (length (ending s sub.body)))

    pub sub_left : (sub : TypedSub) → body_seen outer sub ≡ true → Seen (sub_points s sub)
    sub_left sub h = body_points_seen sub (if is_some sub.result then function_end sub else procedure_end s sub) h (end_seen sub (is_some sub.result))

    pub package_left : (sub : TypedSub) → body_seen outer sub ≡ true → Seen (elaboration_points s sub)
    package_left sub h = body_points_seen sub [] h tt
