-- At each point of a subprogram the temporaries that its instruction takes are the last ones in scope, if what points
-- fill are temporaries and no declared object is one.
use Rattle.std.proofs.Common.{◌≡◌, refl, sym, ap, ◌∙◌, subst, inl, inr, ℕ, suc, ◌+◌, Bool, true, false, List, [], ◌∷◌, ◌++◌, ◌==◌, length, reverse, arith, if◌then◌else◌, length-append, append_assoc}
use Rattle.std.specs.Prelude.{Some, None, filter, flat_map, take, drop, is_some}
use Rattle.std.specs.List.{AllByRecursion}
use Rattle.std.proofs.lemmas.Bool.{false≢true, true≢false}
use Rattle.machine.specs.spark_base.declared.position.Pos.{Pos}
use Rattle.spark_base.proofs.Lists.{Has-append_left, Has-append_right, Has-append_cases, Has-filter}
use Rattle.machine.specs.typed_tree.Trees.{TypedTree, TypedCode}
use Rattle.machine.specs.typed_tree.Programs.{TypedSub}
use Rattle.machine.specs.flow_paths.Instructions.{Instruction, Evaluate, Finish}
use Rattle.machine.specs.flow_paths.Instructions as instruction
use Rattle.machine.specs.flow_paths.Names.{has_call, waiting}
use Rattle.machine.specs.flow_paths.Points.{Place, PointName, row_at, NamedPoint, point, entry}
use Rattle.machine.specs.flow_paths.Prep.{Setting, held, with_held, prep}
use Rattle.machine.specs.flow_paths.Layout.{Around, within_loop, within_block, with_scope, declared, from, ending, ends, closing, uses, unless_empty, choices_of, laid, laid_branches, laid_branch, laid_whens, laid_when}
use Rattle.machine.specs.flow_paths.Laid.{around_body, scope_at_end, procedure_end, function_end, body_points, sub_points, elaboration_points, declared_within}
use Rattle.machine.specs.flow_paths.Scopes.{taken}
use Rattle.flow_paths.proofs.Held.{held_count}
use Rattle.settled_types.proofs.TypedCases.{Laws, branch_none, branches_none, laid_none, on_code, on_tree, plain_held, plain_prep, when_none, whens_none}
use Rattle.settled_types.specs.OrderLaws.ScopeLaws.Code.{objects_of}
use Rattle.settled_types.specs.OrderLaws.ScopeLaws.Supplied.{temporaries_in, Fills, IsSupplied, IsFilling, AreNone, StartsWithNone}
use Rattle.settled_types.proofs.OrderLaws.ScopeLaws.Lists.{all_both, all_one, has_reverse}
use Rattle.settled_types.proofs.OrderLaws.ScopeLaws.Ordered.{declared_within_has}

all_left : {A : Type 0} (P : A → Type 0) (xs ys : List A) → AllByRecursion P (xs ++ ys) → AllByRecursion P xs
all_left P [] ys h = tt
all_left P (x ∷ xs) ys h = (h.0, all_left P xs ys h.1)

all_right : {A : Type 0} (P : A → Type 0) (xs ys : List A) → AllByRecursion P (xs ++ ys) → AllByRecursion P ys
all_right P [] ys h = h
all_right P (x ∷ xs) ys h = all_right P xs ys h.1

take_all : (xs ys : List ℕ) → take (length xs) (xs ++ ys) ≡ xs
take_all [] ys = refl
take_all (x ∷ xs) ys = ap (λ zs. x ∷ zs) (take_all xs ys)

drop_all : (xs ys : List ℕ) → drop (length xs) (xs ++ ys) ≡ ys
drop_all [] ys = refl
drop_all (x ∷ xs) ys = drop_all xs ys

module _ (test : ℕ → Bool) where
  -- ---- lists of temporaries

  abbrev AreAll : List ℕ → Type 0
  AreAll xs = AllByRecursion (λ x. test x ≡ true) xs

  count_all : (xs : List ℕ) → AreAll xs → temporaries_in test xs ≡ length xs
  count_all [] all = refl
  count_all (x ∷ xs) all = by (test x) all.0 (count_all xs all.1)
    where
      by : (b : Bool) → b ≡ true → temporaries_in test xs ≡ length xs → length (if b then x ∷ filter test xs else filter test xs) ≡ suc (length xs)
      by true is more = ap suc more
      by false is more = absurd (false≢true is)

  pub count_none : (xs : List ℕ) → AreNone test xs → temporaries_in test xs ≡ 0
  count_none [] none = refl
  count_none (x ∷ xs) none = by (test x) (none x (inl refl)) (count_none xs (λ y has. none y (inr has)))
    where
      by : (b : Bool) → b ≡ false → temporaries_in test xs ≡ 0 → length (if b then x ∷ filter test xs else filter test xs) ≡ 0
      by true is more = absurd (true≢false is)
      by false is more = more

  none_both : (xs ys : List ℕ) → AreNone test xs → AreNone test ys → AreNone test (xs ++ ys)
  none_both xs ys h g x has = elim (Has-append_cases xs ys x has) [ inl here ↦ h x here | inr more ↦ g x more ]

  none_left : (xs ys : List ℕ) → AreNone test (xs ++ ys) → AreNone test xs
  none_left xs ys h x has = h x (Has-append_left xs ys x has)

  none_right : (xs ys : List ℕ) → AreNone test (xs ++ ys) → AreNone test ys
  none_right xs ys h x has = h x (Has-append_right xs ys x has)

  none_reverse : (xs : List ℕ) → AreNone test xs → AreNone test (reverse xs)
  none_reverse xs h x has = h x (has_reverse xs x has)

  -- ---- points

  abbrev pub Supplied : List NamedPoint → Type 0
  Supplied ps = AllByRecursion (IsSupplied test) ps

  abbrev Filling : List NamedPoint → Type 0
  Filling ps = AllByRecursion (IsFilling test) ps

  both : (ps qs : List NamedPoint) → Supplied ps → Supplied qs → Supplied (ps ++ qs)
  both ps qs h g = all_both (IsSupplied test) ps qs h g

  one_more : (ps : List NamedPoint) (p : NamedPoint) → Supplied ps → IsSupplied test p → Supplied (ps ++ p ∷ [])
  one_more ps p h g = all_one (IsSupplied test) ps p h g

  left : (ps qs : List NamedPoint) → Filling (ps ++ qs) → Filling ps
  left ps qs h = all_left (IsFilling test) ps qs h

  right : (ps qs : List NamedPoint) → Filling (ps ++ qs) → Filling qs
  right ps qs h = all_right (IsFilling test) ps qs h

  last : (ps : List NamedPoint) (q : NamedPoint) (qs : List NamedPoint) → Filling (ps ++ q ∷ qs) → IsFilling test q
  last ps q qs h = (right ps (q ∷ qs) h).0

  -- A point whose instruction takes the temporaries at the front of its scope.
  supplied : (p : NamedPoint) (xs scope : List ℕ) → AreAll xs → length xs ≡ taken p.instr → p.scope ≡ xs ++ scope → Fills test p.instr scope → IsSupplied test p
  supplied p xs scope all long is fills =
      let front : take (taken p.instr) p.scope ≡ xs = subst (λ n. take n p.scope ≡ xs) long (ap (λ zs. take (length xs) zs) is ∙ take_all xs scope) in
      let back : drop (taken p.instr) p.scope ≡ scope = subst (λ n. drop n p.scope ≡ scope) long (ap (λ zs. drop (length xs) zs) is ∙ drop_all xs scope) in
      (ap (λ zs. temporaries_in test zs) front ∙ (count_all xs all ∙ long), subst (Fills test p.instr) (sym back) fills)

  module _ (s : Setting) where
    -- ---- before a use

    all_held : (xs ys : List ℕ) → AreAll xs → AreAll ys → AreAll (ys ++ xs)
    all_held xs ys h g = all_both (λ x. test x ≡ true) ys xs g h

    either_all : (b : Bool) (ps qs : List NamedPoint) (xs ys : List ℕ) → (Filling ps → AreAll xs) → (Filling qs → AreAll ys) → Filling (if b then ps else qs) → AreAll (if b then xs else ys)
    either_all true ps qs xs ys h g fill = h fill
    either_all false ps qs xs ys h g fill = g fill

    -- What an expression waits for is held by temporaries.
    held_all : (e : TypedTree) (at : Place) (scope : List ℕ) (k : List PointName) → Filling (prep s e at scope k) → AreAll (held s e at)
    unfolding prep held
    held_all = on_tree {Of = λ e. (at : Place) → (scope : List ℕ) → (k : List PointName) → Filling (prep s e at scope k) → AreAll (held s e at)} (record {
      call = λ p sub actuals _ at scope k fill.
          (last (prep s actuals (0 ∷ at) scope (row_at at 0 ∷ [])) _ [] fill, tt);
      short = λ op p a q b on_a by_b at scope k fill.
          let behind : List NamedPoint = prep s b (1 ∷ at) (with_held s a (0 ∷ at) scope) k in
          either_all (has_call b) _ (prep s a (0 ∷ at) scope (entry behind k) ++ behind) (s.temporary at ∷ []) (held s b (1 ∷ at) ++ held s a (0 ∷ at))
          (λ f. (last (prep s a (0 ∷ at) scope (row_at at 0 ∷ [])) _ _ f, tt))
          (λ f. all_held (held s a (0 ∷ at)) (held s b (1 ∷ at)) (on_a (0 ∷ at) scope (entry behind k) (left (prep s a (0 ∷ at) scope (entry behind k)) behind f))
          (by_b (1 ∷ at) (with_held s a (0 ∷ at) scope) k (right (prep s a (0 ∷ at) scope (entry behind k)) behind f)))
          fill;
      binary = λ op a b on_a by_b at scope k fill.
          let behind : List NamedPoint = prep s b (1 ∷ at) (with_held s a (0 ∷ at) scope) k in
          all_held (held s a (0 ∷ at)) (held s b (1 ∷ at)) (on_a (0 ∷ at) scope (entry behind k) (left (prep s a (0 ∷ at) scope (entry behind k)) behind fill))
          (by_b (1 ∷ at) (with_held s a (0 ∷ at) scope) k (right (prep s a (0 ∷ at) scope (entry behind k)) behind fill));
      list = λ a b on_a by_b at scope k fill.
          let behind : List NamedPoint = prep s b (1 ∷ at) (with_held s a (0 ∷ at) scope) k in
          all_held (held s a (0 ∷ at)) (held s b (1 ∷ at)) (on_a (0 ∷ at) scope (entry behind k) (left (prep s a (0 ∷ at) scope (entry behind k)) behind fill))
          (by_b (1 ∷ at) (with_held s a (0 ∷ at) scope) k (right (prep s a (0 ∷ at) scope (entry behind k)) behind fill));
      element = λ a low high b on_a by_b at scope k fill.
          let behind : List NamedPoint = prep s b (1 ∷ at) (with_held s a (0 ∷ at) scope) k in
          all_held (held s a (0 ∷ at)) (held s b (1 ∷ at)) (on_a (0 ∷ at) scope (entry behind k) (left (prep s a (0 ∷ at) scope (entry behind k)) behind fill))
          (by_b (1 ∷ at) (with_held s a (0 ∷ at) scope) k (right (prep s a (0 ∷ at) scope (entry behind k)) behind fill));
      name = λ p x e t by_e at scope k fill.
          by_e (0 ∷ at) scope k fill;
      component = λ i e by_e at scope k fill.
          by_e (0 ∷ at) scope k fill;
      designated = λ e by_e at scope k fill.
          by_e (0 ∷ at) scope k fill;
      image = λ t e by_e at scope k fill.
          by_e (0 ∷ at) scope k fill;
      parens = λ e by_e at scope k fill.
          by_e (0 ∷ at) scope k fill;
      unary = λ op e by_e at scope k fill.
          by_e (0 ∷ at) scope k fill;
      is_null = λ equal e by_e at scope k fill.
          by_e (0 ∷ at) scope k fill;
      aggregate = λ t e by_e at scope k fill.
          by_e (0 ∷ at) scope k fill;
      alike = λ t e by_e at scope k fill.
          by_e (0 ∷ at) scope k fill;
      allocator = λ t e by_e at scope k fill.
          by_e (0 ∷ at) scope k fill;
      others = λ e plain at scope k fill. rw (plain_held s e at plain) (tt);
    })

    pair_supplied : (a b : TypedTree) (x y : Place) (scope inner : List ℕ) (k l : List PointName) → (Filling (prep s a x scope k) → Supplied (prep s a x scope k))
        → (Filling (prep s b y inner l) → Supplied (prep s b y inner l)) → Filling (prep s a x scope k ++ prep s b y inner l) → Supplied (prep s a x scope k ++ prep s b y inner l)
    pair_supplied a b x y scope inner k l first second fill =
        both (prep s a x scope k) (prep s b y inner l) (first (left (prep s a x scope k) (prep s b y inner l) fill)) (second (right (prep s a x scope k) (prep s b y inner l) fill))

    either_supplied : (b : Bool) (ps qs : List NamedPoint) → (Filling ps → Supplied ps) → (Filling qs → Supplied qs) → Filling (if b then ps else qs) → Supplied (if b then ps else qs)
    either_supplied true ps qs h g fill = h fill
    either_supplied false ps qs h g fill = g fill

    prep_supplied : (e : TypedTree) (at : Place) (scope : List ℕ) (k : List PointName) → Filling (prep s e at scope k) → Supplied (prep s e at scope k)
    unfolding prep
    prep_supplied = on_tree {Of = λ e. (at : Place) → (scope : List ℕ) → (k : List PointName) → Filling (prep s e at scope k) → Supplied (prep s e at scope k)} (record {
      call = λ p sub actuals by_actuals at scope k fill.
          let before : List NamedPoint = prep s actuals (0 ∷ at) scope (row_at at 0 ∷ []) in
          let q : NamedPoint = point (row_at at 0) p (instruction.Call sub actuals (Some (s.temporary at))) (with_held s actuals (0 ∷ at) scope) k in
          let inner : Filling before = left before (q ∷ []) fill in
          one_more before q (by_actuals (0 ∷ at) scope (row_at at 0 ∷ []) inner)
          (supplied q (held s actuals (0 ∷ at)) scope (held_all actuals (0 ∷ at) scope (row_at at 0 ∷ []) inner) (held_count s actuals (0 ∷ at)) refl (last before q [] fill));
      short = λ op p a q b on_a by_b at scope k fill.
          let behind : List NamedPoint = prep s b (1 ∷ at) (with_held s a (0 ∷ at) scope) k in
          either_supplied (has_call b) _ (prep s a (0 ∷ at) scope (entry behind k) ++ behind)
          (λ f.
          let before : List NamedPoint = prep s a (0 ∷ at) scope (row_at at 0 ∷ []) in
          let middle : List NamedPoint = prep s b (1 ∷ at) (s.temporary at ∷ scope) (row_at at 1 ∷ []) in
          let m : NamedPoint = point (row_at at 0) p (Evaluate (s.temporary at) a (Some op)) (with_held s a (0 ∷ at) scope) (entry middle (row_at at 1 ∷ []) ++ k) in
          let n : NamedPoint = point (row_at at 1) q (Evaluate (s.temporary at) b None) (with_held s b (1 ∷ at) (s.temporary at ∷ scope)) k in
          let first : Filling before = left before (m ∷ (middle ++ n ∷ [])) f in
          let full : IsFilling test m = last before m (middle ++ n ∷ []) f in
          let second : Filling middle = left middle (n ∷ []) (right before (m ∷ (middle ++ n ∷ [])) f).1 in
          both before (m ∷ (middle ++ n ∷ [])) (on_a (0 ∷ at) scope (row_at at 0 ∷ []) first) (
            supplied m (held s a (0 ∷ at)) scope (held_all a (0 ∷ at) scope (row_at at 0 ∷ []) first) (held_count s a (0 ∷ at)) refl full,
            one_more middle n (by_b (1 ∷ at) (s.temporary at ∷ scope) (row_at at 1 ∷ []) second)
                (supplied n (held s b (1 ∷ at)) (s.temporary at ∷ scope) (held_all b (1 ∷ at) (s.temporary at ∷ scope) (row_at at 1 ∷ []) second) (held_count s b (1 ∷ at)) refl
                (s.temporary at, scope, refl, full)),
          ))
          (pair_supplied a b (0 ∷ at) (1 ∷ at) scope (with_held s a (0 ∷ at) scope) (entry behind k) k (on_a (0 ∷ at) scope (entry behind k))
          (by_b (1 ∷ at) (with_held s a (0 ∷ at) scope) k))
          fill;
      binary = λ op a b on_a by_b at scope k fill.
          pair_supplied a b (0 ∷ at) (1 ∷ at) scope (with_held s a (0 ∷ at) scope) _ k (on_a (0 ∷ at) scope _) (by_b (1 ∷ at) (with_held s a (0 ∷ at) scope) k) fill;
      list = λ a b on_a by_b at scope k fill.
          pair_supplied a b (0 ∷ at) (1 ∷ at) scope (with_held s a (0 ∷ at) scope) _ k (on_a (0 ∷ at) scope _) (by_b (1 ∷ at) (with_held s a (0 ∷ at) scope) k) fill;
      element = λ a low high b on_a by_b at scope k fill.
          pair_supplied a b (0 ∷ at) (1 ∷ at) scope (with_held s a (0 ∷ at) scope) _ k (on_a (0 ∷ at) scope _) (by_b (1 ∷ at) (with_held s a (0 ∷ at) scope) k) fill;
      name = λ p x e t by_e at scope k fill.
          by_e (0 ∷ at) scope k fill;
      component = λ i e by_e at scope k fill.
          by_e (0 ∷ at) scope k fill;
      designated = λ e by_e at scope k fill.
          by_e (0 ∷ at) scope k fill;
      image = λ t e by_e at scope k fill.
          by_e (0 ∷ at) scope k fill;
      parens = λ e by_e at scope k fill.
          by_e (0 ∷ at) scope k fill;
      unary = λ op e by_e at scope k fill.
          by_e (0 ∷ at) scope k fill;
      is_null = λ equal e by_e at scope k fill.
          by_e (0 ∷ at) scope k fill;
      aggregate = λ t e by_e at scope k fill.
          by_e (0 ∷ at) scope k fill;
      alike = λ t e by_e at scope k fill.
          by_e (0 ∷ at) scope k fill;
      allocator = λ t e by_e at scope k fill.
          by_e (0 ∷ at) scope k fill;
      others = λ e plain at scope k fill. rw (plain_prep s e at scope k plain) (tt);
    })

    uses_supplied : (at : Place) (p : Pos) (e : TypedTree) (i : Instruction) (w : Around) (next : List PointName) → taken i ≡ waiting e → Fills test i w.scope
        → Filling (uses s at p e i w next) → Supplied (uses s at p e i w next)
    uses_supplied at p e i w next takes fills fill =
        let before : List NamedPoint = prep s e (0 ∷ at) w.scope (row_at at 0 ∷ []) in
        let q : NamedPoint = point (row_at at 0) p i (with_held s e (0 ∷ at) w.scope) next in
        let inner : Filling before = left before (q ∷ []) fill in
        one_more before q (prep_supplied e (0 ∷ at) w.scope (row_at at 0 ∷ []) inner)
        (supplied q (held s e (0 ∷ at)) w.scope (held_all e (0 ∷ at) w.scope (row_at at 0 ∷ []) inner) (held_count s e (0 ∷ at) ∙ sym takes) refl fills)

    -- Two expressions at some places, the first one first, and a point that uses both.
    two_supplied : (x y : Place) (a b : TypedTree) (scope : List ℕ) (k l : List PointName) (q : NamedPoint)
        → q.scope ≡ with_held s b y (with_held s a x scope) → waiting a + waiting b ≡ taken q.instr → Fills test q.instr scope
        → Filling ((prep s a x scope k ++ prep s b y (with_held s a x scope) l) ++ q ∷ []) → Supplied ((prep s a x scope k ++ prep s b y (with_held s a x scope) l) ++ q ∷ [])
    two_supplied x y a b scope k l q is takes fills fill =
        let first : List NamedPoint = prep s a x scope k in
        let second : List NamedPoint = prep s b y (with_held s a x scope) l in
        let inner : Filling (first ++ second) = left (first ++ second) (q ∷ []) fill in
        let one = held_count s a x in
        let two = held_count s b y in
        let long = length-append (held s b y) (held s a x) in
        one_more (first ++ second) q
        (pair_supplied a b x y scope (with_held s a x scope) k l (prep_supplied a x scope k) (prep_supplied b y (with_held s a x scope) l) inner)
        (supplied q (held s b y ++ held s a x) scope
        (all_held (held s a x) (held s b y) (held_all a x scope k (left first second inner)) (held_all b y (with_held s a x scope) l (right first second inner)))
        (omega (arith, one, two, long, takes)) (is ∙ sym (append_assoc (held s b y) (held s a x) scope)) fills)

    ends_supplied : (at : Place) (row : ℕ) (p : Pos) (xs scope : List ℕ) (k : List PointName) → AreNone test xs → Supplied (ends at row p xs scope k)
    ends_supplied at row p [] scope k none = tt
    ends_supplied at row p (x ∷ xs) scope k none =
        ((refl, none x (inl refl)), ends_supplied at (suc row) p xs (drop 1 (from x scope)) k (λ y has. none y (inr has)))

    -- ---- statements

    ending_none : (stmts : TypedCode) → AreNone test (declared_within stmts) → AreNone test (ending s stmts)
    ending_none stmts none x has =
        none x (declared_within_has stmts x (has_reverse (declared stmts) x (Has-filter _ (reverse (declared stmts)) x has).0))

    declared_none : (c : TypedCode) → AreNone test (declared_within c) → AreNone test (declared c)
    declared_none c none x has = none x (declared_within_has c x has)

    -- No object around is a temporary.
    record IsAround (w : Around) : Type 0 where
      scope : AreNone test w.scope
      in_loop : AreNone test w.in_loop
      in_all : AreNone test w.in_all

    in_loops : (k : List PointName) (w : Around) → IsAround w → IsAround (within_loop k w)
    in_loops k w none = record { scope = none.scope; in_loop = λ x has. absurd has; in_all = none.in_all }

    in_blocks : (xs : List ℕ) (w : Around) → AreNone test xs → IsAround w → IsAround (within_block xs w)
    in_blocks xs w new none = record {
      scope = none.scope;
      in_loop = none_both xs w.in_loop new none.in_loop;
      in_all = none_both xs w.in_all new none.in_all;
    }

    in_scopes : (xs : List ℕ) (w : Around) → AreNone test xs → IsAround w → IsAround (with_scope xs w)
    in_scopes xs w new none = record {
      scope = none_both (reverse xs) w.scope (none_reverse xs new) none.scope;
      in_loop = none.in_loop;
      in_all = none.in_all;
    }

    joined : (ps qs : List NamedPoint) → (Filling ps → Supplied ps) → (Filling qs → Supplied qs) → Filling (ps ++ qs) → Supplied (ps ++ qs)
    joined ps qs h g fill = both ps qs (h (left ps qs fill)) (g (right ps qs fill))

    swap : (a b : ℕ) → a + b ≡ b + a
    swap a b = omega arith

    laid_supplied_cases : Laws (λ c. (at : Place) → (w : Around) → (k : List PointName) → IsAround w → AreNone test (declared_within c) → Filling (laid s c at w k) → Supplied (laid s c at w k))
        (λ c. (at : Place) → (w : Around) → (k : List PointName) → (otherwise : List PointName) → IsAround w → AreNone test (declared_within c) → Filling (laid_branches s c at w k otherwise) → Supplied (laid_branches s c at w k otherwise))
        (λ c. (at : Place) → (w : Around) → (k : List PointName) → (otherwise : List PointName) → IsAround w → AreNone test (declared_within c) → Filling (laid_branch s c at w k otherwise) → Supplied (laid_branch s c at w k otherwise))
        (λ c. (at : Place) → (w : Around) → (k : List PointName) → IsAround w → AreNone test (declared_within c) → Filling (flat_map (λ ps. ps) (laid_whens s c at w k)) → Supplied (flat_map (λ ps. ps) (laid_whens s c at w k)))
        (λ c. (at : Place) → (w : Around) → (k : List PointName) → IsAround w → AreNone test (declared_within c) → Filling (laid_when s c at w k) → Supplied (laid_when s c at w k))
    unfolding laid laid_branches laid_branch laid_whens laid_when declared_within
    laid_supplied_cases = record {
      list = λ a rest by_a by_rest at w k around none.
          let first = none_left (declared_within a) (declared_within rest) none in
          let behind : List NamedPoint = laid s rest (1 ∷ at) (with_scope (declared a) w) k in
          joined (laid s a (0 ∷ at) w (entry behind k)) behind (by_a (0 ∷ at) w (entry behind k) around first)
          (by_rest (1 ∷ at) (with_scope (declared a) w) k (in_scopes (declared a) w (declared_none a first) around)
          (none_right (declared_within a) (declared_within rest) none));
      declare = λ p x v at w k around none.
          uses_supplied at p v (instruction.Declare x v) w k refl (none x (inl refl));
      assign = λ p target e at w k around none.
          two_supplied (1 ∷ at) (0 ∷ at) e target w.scope _ (row_at at 0 ∷ [])
          (point (row_at at 0) p (instruction.Assign target e) (with_held s target (0 ∷ at) (with_held s e (1 ∷ at) w.scope)) k) refl refl tt;
      skip = λ p at w k around none.
          λ fill. ((refl, tt), tt);
      call = λ p sub actuals at w k around none.
          uses_supplied at p actuals (instruction.Call sub actuals None) w k refl tt;
      output = λ p text line at w k around none.
          uses_supplied at p text (instruction.Output text line) w k refl tt;
      input = λ p target at w k around none.
          uses_supplied at p target (instruction.Input target) w k refl tt;
      release = λ p m at w k around none.
          uses_supplied at p m (instruction.Release m) w k refl tt;
      choice = λ branches otherwise by_branches by_otherwise at w k around none.
          let behind : List NamedPoint = laid s otherwise (1 ∷ at) w k in
          joined (laid_branches s branches (0 ∷ at) w k (entry behind k)) behind
          (by_branches (0 ∷ at) w k (entry behind k) around (none_left (declared_within branches) (declared_within otherwise) none))
          (by_otherwise (1 ∷ at) w k around (none_right (declared_within branches) (declared_within otherwise) none));
      cases = λ p e whens by_whens at w k around none.
          let behind : List (List NamedPoint) = laid_whens s whens (1 ∷ at) w k in
          joined (uses s at p e (instruction.Choose e (choices_of whens)) w (flat_map (λ ps. entry ps k) behind)) (flat_map (λ ps. ps) behind)
          (uses_supplied at p e (instruction.Choose e (choices_of whens)) w (flat_map (λ ps. entry ps k) behind) refl tt) (by_whens (1 ∷ at) w k around none);
      loop = λ stmts by_stmts at w k around none.
          by_stmts (0 ∷ at) (within_loop k w) (entry (laid s stmts (0 ∷ at) (within_loop k w) k) k) (in_loops k w around) none;
      while = λ p e stmts by_stmts at w k around none.
          let turn : List PointName = entry (prep s e (0 ∷ at) w.scope (row_at at 0 ∷ [])) (row_at at 0 ∷ []) in
          let inner : List NamedPoint = laid s stmts (1 ∷ at) (within_loop k w) turn in
          joined (uses s at p e (instruction.Test e) w (entry inner turn ++ k)) inner (uses_supplied at p e (instruction.Test e) w (entry inner turn ++ k) refl tt)
          (by_stmts (1 ∷ at) (within_loop k w) turn (in_loops k w around) none);
      for = λ p x reversed low high stmts by_stmts at w k around none.
          let next : List PointName = row_at at 1 ∷ [] in
          let new : AreNone test (x ∷ []) = λ y has. elim has [ inl same ↦ none y (inl same) | inr never ↦ absurd never ] in
          joined _ _
          (two_supplied (0 ∷ at) (1 ∷ at) low high w.scope _ (row_at at 0 ∷ [])
          (point (row_at at 0) p (instruction.Start x reversed low high) (with_held s high (1 ∷ at) (with_held s low (0 ∷ at) w.scope)) next) refl refl (none x (inl refl)))
          (λ fill. (
            (refl, tt),
            by_stmts (2 ∷ at) (with_scope (x ∷ []) (within_loop k w)) next (in_scopes (x ∷ []) (within_loop k w) new (in_loops k w around)) (λ y has. none y (inr has)) fill.1,
          ));
      exit = λ p e at w k around none.
          let out : List NamedPoint = ends at 1 p w.in_loop w.scope w.leave in
          joined (uses s at p e (instruction.LeaveLoop e) w (entry out w.leave ++ unless_empty e k)) out
          (uses_supplied at p e (instruction.LeaveLoop e) w (entry out w.leave ++ unless_empty e k) refl tt) (λ fill. ends_supplied at 1 p w.in_loop w.scope w.leave around.in_loop);
      return = λ p v at w k around none.
          let finish : PointName = row_at at (suc (length w.in_all)) in
          joined (uses s at p v (instruction.Hold v) w (entry (closing at 1 p w) [])) (closing at 1 p w)
          (uses_supplied at p v (instruction.Hold v) w (entry (closing at 1 p w) []) refl (count_none w.scope around.scope))
          (λ fill.
          one_more (ends at 1 p w.in_all w.scope (finish ∷ [])) (point finish p Finish w.formals []) (ends_supplied at 1 p w.in_all w.scope (finish ∷ []) around.in_all) (refl, tt));
      block = λ n stmts end by_stmts at w k around none.
          let out : List NamedPoint = ends at 0 end (ending s stmts) (reverse (declared stmts) ++ w.scope) k in
          joined (laid s stmts (0 ∷ at) (within_block (ending s stmts) w) (entry out k)) out
          (by_stmts (0 ∷ at) (within_block (ending s stmts) w) (entry out k) (in_blocks (ending s stmts) w (ending_none stmts none) around) none)
          (λ fill. ends_supplied at 0 end (ending s stmts) (reverse (declared stmts) ++ w.scope) k (ending_none stmts none));
      others = λ c other at w k around none. rw (laid_none s c at w k other) (λ fill. tt);
      branches = λ a rest by_a by_rest at w k otherwise around none.
          let behind : List NamedPoint = laid_branches s rest (1 ∷ at) w k otherwise in
          joined (laid_branch s a (0 ∷ at) w k (entry behind otherwise)) behind
          (by_a (0 ∷ at) w k (entry behind otherwise) around (none_left (declared_within a) (declared_within rest) none))
          (by_rest (1 ∷ at) w k otherwise around (none_right (declared_within a) (declared_within rest) none));
      no_branches = λ c other at w k otherwise around none. rw (branches_none s c at w k otherwise other) (λ fill. tt);
      branch = λ p e stmts by_stmts at w k otherwise around none.
          let inner : List NamedPoint = laid s stmts (1 ∷ at) w k in
          joined (uses s at p e (instruction.Test e) w (entry inner k ++ otherwise)) inner
          (uses_supplied at p e (instruction.Test e) w (entry inner k ++ otherwise) refl tt) (by_stmts (1 ∷ at) w k around none);
      no_branch = λ c other at w k otherwise around none. rw (branch_none s c at w k otherwise other) (λ fill. tt);
      alternatives = λ a rest by_a by_rest at w k around none.
          joined (laid_when s a (0 ∷ at) w k) (flat_map (λ ps. ps) (laid_whens s rest (1 ∷ at) w k))
          (by_a (0 ∷ at) w k around (none_left (declared_within a) (declared_within rest) none))
          (by_rest (1 ∷ at) w k around (none_right (declared_within a) (declared_within rest) none));
      no_alternatives = λ c other at w k around none. rw (whens_none s c at w k other) (λ fill. tt);
      alternative = λ choices stmts by_stmts at w k around none.
          by_stmts (1 ∷ at) w k around none;
      no_alternative = λ c other at w k around none. rw (when_none s c at w k other) (λ fill. tt);
    }

    laid_supplied : (c : TypedCode) (at : Place) (w : Around) (k : List PointName) → IsAround w → AreNone test (declared_within c) → Filling (laid s c at w k) → Supplied (laid s c at w k)
    laid_supplied = on_code laid_supplied_cases

    -- ---- the first point

    abbrev Starts : List NamedPoint → Type 0
    Starts ps = StartsWithNone test ps

    starts_both : (ps qs : List NamedPoint) → Starts ps → (ps ≡ [] → Starts qs) → Starts (ps ++ qs)
    starts_both [] qs h g = g refl
    starts_both (p ∷ ps) qs h g = h

    left_empty : (ps qs : List NamedPoint) → ps ++ qs ≡ [] → ps ≡ []
    left_empty [] qs e = refl
    left_empty (p ∷ ps) qs e = cc

    right_empty : (ps qs : List NamedPoint) → ps ++ qs ≡ [] → qs ≡ []
    right_empty [] qs e = e
    right_empty (p ∷ ps) qs e = cc

    no_row : (ps : List NamedPoint) (q : NamedPoint) (qs : List NamedPoint) → ps ++ q ∷ qs ≡ [] → ⊥
    no_row [] q qs e = cc
    no_row (p ∷ ps) q qs e = cc

    none_held : (xs ys : List ℕ) → xs ≡ [] → ys ≡ [] → ys ++ xs ≡ []
    none_held xs ys a b = ap (λ zs. zs ++ xs) b ∙ a

    either_held : (b : Bool) (ps qs : List NamedPoint) (xs ys : List ℕ) → (ps ≡ [] → xs ≡ []) → (qs ≡ [] → ys ≡ []) → (if b then ps else qs) ≡ [] → (if b then xs else ys) ≡ []
    either_held true ps qs xs ys h g e = h e
    either_held false ps qs xs ys h g e = g e

    -- Where no point comes before a use, nothing waits for it.
    held_none : (e : TypedTree) (at : Place) (scope : List ℕ) (k : List PointName) → prep s e at scope k ≡ [] → held s e at ≡ []
    unfolding prep held
    held_none = on_tree {Of = λ e. (at : Place) → (scope : List ℕ) → (k : List PointName) → prep s e at scope k ≡ [] → held s e at ≡ []} (record {
      call = λ p sub actuals _ at scope k e.
          absurd (no_row (prep s actuals (0 ∷ at) scope (row_at at 0 ∷ [])) _ [] e);
      short = λ op p a q b on_a by_b at scope k e.
          let behind : List NamedPoint = prep s b (1 ∷ at) (with_held s a (0 ∷ at) scope) k in
          either_held (has_call b) _ (prep s a (0 ∷ at) scope (entry behind k) ++ behind) (s.temporary at ∷ []) (held s b (1 ∷ at) ++ held s a (0 ∷ at))
          (λ f. absurd (no_row (prep s a (0 ∷ at) scope (row_at at 0 ∷ [])) _ _ f))
          (λ f. none_held (held s a (0 ∷ at)) (held s b (1 ∷ at)) (on_a (0 ∷ at) scope (entry behind k) (left_empty (prep s a (0 ∷ at) scope (entry behind k)) behind f))
          (by_b (1 ∷ at) (with_held s a (0 ∷ at) scope) k (right_empty (prep s a (0 ∷ at) scope (entry behind k)) behind f)))
          e;
      binary = λ op a b on_a by_b at scope k e.
          let behind : List NamedPoint = prep s b (1 ∷ at) (with_held s a (0 ∷ at) scope) k in
          none_held (held s a (0 ∷ at)) (held s b (1 ∷ at)) (on_a (0 ∷ at) scope (entry behind k) (left_empty (prep s a (0 ∷ at) scope (entry behind k)) behind e))
          (by_b (1 ∷ at) (with_held s a (0 ∷ at) scope) k (right_empty (prep s a (0 ∷ at) scope (entry behind k)) behind e));
      list = λ a b on_a by_b at scope k e.
          let behind : List NamedPoint = prep s b (1 ∷ at) (with_held s a (0 ∷ at) scope) k in
          none_held (held s a (0 ∷ at)) (held s b (1 ∷ at)) (on_a (0 ∷ at) scope (entry behind k) (left_empty (prep s a (0 ∷ at) scope (entry behind k)) behind e))
          (by_b (1 ∷ at) (with_held s a (0 ∷ at) scope) k (right_empty (prep s a (0 ∷ at) scope (entry behind k)) behind e));
      element = λ a low high b on_a by_b at scope k e.
          let behind : List NamedPoint = prep s b (1 ∷ at) (with_held s a (0 ∷ at) scope) k in
          none_held (held s a (0 ∷ at)) (held s b (1 ∷ at)) (on_a (0 ∷ at) scope (entry behind k) (left_empty (prep s a (0 ∷ at) scope (entry behind k)) behind e))
          (by_b (1 ∷ at) (with_held s a (0 ∷ at) scope) k (right_empty (prep s a (0 ∷ at) scope (entry behind k)) behind e));
      name = λ p x e t by_e at scope k none.
          by_e (0 ∷ at) scope k none;
      component = λ i e by_e at scope k none.
          by_e (0 ∷ at) scope k none;
      designated = λ e by_e at scope k none.
          by_e (0 ∷ at) scope k none;
      image = λ t e by_e at scope k none.
          by_e (0 ∷ at) scope k none;
      parens = λ e by_e at scope k none.
          by_e (0 ∷ at) scope k none;
      unary = λ op e by_e at scope k none.
          by_e (0 ∷ at) scope k none;
      is_null = λ equal e by_e at scope k none.
          by_e (0 ∷ at) scope k none;
      aggregate = λ t e by_e at scope k none.
          by_e (0 ∷ at) scope k none;
      alike = λ t e by_e at scope k none.
          by_e (0 ∷ at) scope k none;
      allocator = λ t e by_e at scope k none.
          by_e (0 ∷ at) scope k none;
      others = λ e plain at scope k none. rw (plain_held s e at plain) (refl);
    })

    -- So what stands before those of the second part is as before those of the first one.
    scope_same : (e : TypedTree) (at : Place) (scope : List ℕ) (k : List PointName) → AreNone test scope → prep s e at scope k ≡ [] → AreNone test (with_held s e at scope)
    scope_same e at scope k none empty = subst (λ xs. AreNone test (xs ++ scope)) (sym (held_none e at scope k empty)) none

    starts_either : (b : Bool) (ps qs : List NamedPoint) → Starts ps → Starts qs → Starts (if b then ps else qs)
    starts_either true ps qs h g = h
    starts_either false ps qs h g = g

    prep_starts : (e : TypedTree) (at : Place) (scope : List ℕ) (k : List PointName) → AreNone test scope → Starts (prep s e at scope k)
    unfolding prep
    prep_starts = on_tree {Of = λ e. (at : Place) → (scope : List ℕ) → (k : List PointName) → AreNone test scope → Starts (prep s e at scope k)} (record {
      call = λ p sub actuals by_actuals at scope k none.
          starts_both (prep s actuals (0 ∷ at) scope (row_at at 0 ∷ [])) _ (by_actuals (0 ∷ at) scope (row_at at 0 ∷ []) none)
          (λ e. count_none (with_held s actuals (0 ∷ at) scope) (scope_same actuals (0 ∷ at) scope (row_at at 0 ∷ []) none e));
      short = λ op p a q b on_a by_b at scope k none.
          let behind : List NamedPoint = prep s b (1 ∷ at) (with_held s a (0 ∷ at) scope) k in
          starts_either (has_call b) _ (prep s a (0 ∷ at) scope (entry behind k) ++ behind)
          (starts_both (prep s a (0 ∷ at) scope (row_at at 0 ∷ [])) _ (on_a (0 ∷ at) scope (row_at at 0 ∷ []) none)
          (λ e. count_none (with_held s a (0 ∷ at) scope) (scope_same a (0 ∷ at) scope (row_at at 0 ∷ []) none e)))
          (starts_both (prep s a (0 ∷ at) scope (entry behind k)) behind (on_a (0 ∷ at) scope (entry behind k) none)
          (λ e. by_b (1 ∷ at) (with_held s a (0 ∷ at) scope) k (scope_same a (0 ∷ at) scope (entry behind k) none e)));
      binary = λ op a b on_a by_b at scope k none.
          let behind : List NamedPoint = prep s b (1 ∷ at) (with_held s a (0 ∷ at) scope) k in
          starts_both (prep s a (0 ∷ at) scope (entry behind k)) behind (on_a (0 ∷ at) scope (entry behind k) none)
          (λ e. by_b (1 ∷ at) (with_held s a (0 ∷ at) scope) k (scope_same a (0 ∷ at) scope (entry behind k) none e));
      list = λ a b on_a by_b at scope k none.
          let behind : List NamedPoint = prep s b (1 ∷ at) (with_held s a (0 ∷ at) scope) k in
          starts_both (prep s a (0 ∷ at) scope (entry behind k)) behind (on_a (0 ∷ at) scope (entry behind k) none)
          (λ e. by_b (1 ∷ at) (with_held s a (0 ∷ at) scope) k (scope_same a (0 ∷ at) scope (entry behind k) none e));
      element = λ a low high b on_a by_b at scope k none.
          let behind : List NamedPoint = prep s b (1 ∷ at) (with_held s a (0 ∷ at) scope) k in
          starts_both (prep s a (0 ∷ at) scope (entry behind k)) behind (on_a (0 ∷ at) scope (entry behind k) none)
          (λ e. by_b (1 ∷ at) (with_held s a (0 ∷ at) scope) k (scope_same a (0 ∷ at) scope (entry behind k) none e));
      name = λ p x e t by_e at scope k none.
          by_e (0 ∷ at) scope k none;
      component = λ i e by_e at scope k none.
          by_e (0 ∷ at) scope k none;
      designated = λ e by_e at scope k none.
          by_e (0 ∷ at) scope k none;
      image = λ t e by_e at scope k none.
          by_e (0 ∷ at) scope k none;
      parens = λ e by_e at scope k none.
          by_e (0 ∷ at) scope k none;
      unary = λ op e by_e at scope k none.
          by_e (0 ∷ at) scope k none;
      is_null = λ equal e by_e at scope k none.
          by_e (0 ∷ at) scope k none;
      aggregate = λ t e by_e at scope k none.
          by_e (0 ∷ at) scope k none;
      alike = λ t e by_e at scope k none.
          by_e (0 ∷ at) scope k none;
      allocator = λ t e by_e at scope k none.
          by_e (0 ∷ at) scope k none;
      others = λ e plain at scope k none. rw (plain_prep s e at scope k plain) (tt);
    })

    uses_starts : (at : Place) (p : Pos) (e : TypedTree) (i : Instruction) (w : Around) (next : List PointName) → AreNone test w.scope → Starts (uses s at p e i w next)
    uses_starts at p e i w next none =
        starts_both (prep s e (0 ∷ at) w.scope (row_at at 0 ∷ [])) _ (prep_starts e (0 ∷ at) w.scope (row_at at 0 ∷ []) none)
        (λ empty. count_none (with_held s e (0 ∷ at) w.scope) (scope_same e (0 ∷ at) w.scope (row_at at 0 ∷ []) none empty))

    two_starts : (x y : Place) (a b : TypedTree) (scope : List ℕ) (k l : List PointName) (q : NamedPoint) → q.scope ≡ with_held s b y (with_held s a x scope) → AreNone test scope
        → Starts ((prep s a x scope k ++ prep s b y (with_held s a x scope) l) ++ q ∷ [])
    two_starts x y a b scope k l q is none =
        let first : List NamedPoint = prep s a x scope k in
        let second : List NamedPoint = prep s b y (with_held s a x scope) l in
        starts_both (first ++ second) (q ∷ [])
        (starts_both first second (prep_starts a x scope k none) (λ e. prep_starts b y (with_held s a x scope) l (scope_same a x scope k none e)))
        (λ e. ap (λ xs. temporaries_in test xs) is
        ∙ count_none (with_held s b y (with_held s a x scope))
        (scope_same b y (with_held s a x scope) l (scope_same a x scope k none (left_empty first second e)) (right_empty first second e)))

    -- Each statement starts so, whatever stands before it.
    starts_then : (ps qs : List NamedPoint) → Starts ps → Starts qs → Starts (ps ++ qs)
    starts_then ps qs h g = starts_both ps qs h (λ e. g)

    from_none : (x : ℕ) (scope : List ℕ) → AreNone test scope → AreNone test (from x scope)
    from_none x [] none = none
    from_none x (y ∷ rest) none = by (y == x) (from_none x rest (λ z has. none z (inr has)))
      where
        by : (b : Bool) → AreNone test (from x rest) → AreNone test (if b then y ∷ rest else from x rest)
        by true more = none
        by false more = more

    ends_start : (at : Place) (row : ℕ) (p : Pos) (xs scope : List ℕ) (k : List PointName) → AreNone test scope → Starts (ends at row p xs scope k)
    ends_start at row p [] scope k none = tt
    ends_start at row p (x ∷ xs) scope k none = count_none (from x scope) (from_none x scope none)

    laid_starts_cases : Laws (λ c. (at : Place) → (w : Around) → (k : List PointName) → IsAround w → AreNone test (declared_within c) → Starts (laid s c at w k))
        (λ c. (at : Place) → (w : Around) → (k : List PointName) → (otherwise : List PointName) → IsAround w → AreNone test (declared_within c) → Starts (laid_branches s c at w k otherwise))
        (λ c. (at : Place) → (w : Around) → (k : List PointName) → (otherwise : List PointName) → IsAround w → AreNone test (declared_within c) → Starts (laid_branch s c at w k otherwise))
        (λ c. (at : Place) → (w : Around) → (k : List PointName) → IsAround w → AreNone test (declared_within c) → Starts (flat_map (λ ps. ps) (laid_whens s c at w k)))
        (λ c. (at : Place) → (w : Around) → (k : List PointName) → IsAround w → AreNone test (declared_within c) → Starts (laid_when s c at w k))
    unfolding laid laid_branches laid_branch laid_whens laid_when declared_within
    laid_starts_cases = record {
      list = λ a rest by_a by_rest at w k around none.
          let first = none_left (declared_within a) (declared_within rest) none in
          let behind : List NamedPoint = laid s rest (1 ∷ at) (with_scope (declared a) w) k in
          starts_then (laid s a (0 ∷ at) w (entry behind k)) behind (by_a (0 ∷ at) w (entry behind k) around first)
          (by_rest (1 ∷ at) (with_scope (declared a) w) k (in_scopes (declared a) w (declared_none a first) around) (none_right (declared_within a) (declared_within rest) none));
      declare = λ p x v at w k around none.
          uses_starts at p v (instruction.Declare x v) w k around.scope;
      assign = λ p target e at w k around none.
          two_starts (1 ∷ at) (0 ∷ at) e target w.scope _ (row_at at 0 ∷ [])
          (point (row_at at 0) p (instruction.Assign target e) (with_held s target (0 ∷ at) (with_held s e (1 ∷ at) w.scope)) k) refl around.scope;
      skip = λ p at w k around none.
          count_none w.scope around.scope;
      call = λ p sub actuals at w k around none.
          uses_starts at p actuals (instruction.Call sub actuals None) w k around.scope;
      output = λ p text line at w k around none.
          uses_starts at p text (instruction.Output text line) w k around.scope;
      input = λ p target at w k around none.
          uses_starts at p target (instruction.Input target) w k around.scope;
      release = λ p m at w k around none.
          uses_starts at p m (instruction.Release m) w k around.scope;
      choice = λ branches otherwise by_branches by_otherwise at w k around none.
          let behind : List NamedPoint = laid s otherwise (1 ∷ at) w k in
          starts_then (laid_branches s branches (0 ∷ at) w k (entry behind k)) behind
          (by_branches (0 ∷ at) w k (entry behind k) around (none_left (declared_within branches) (declared_within otherwise) none))
          (by_otherwise (1 ∷ at) w k around (none_right (declared_within branches) (declared_within otherwise) none));
      cases = λ p e whens by_whens at w k around none.
          let behind : List (List NamedPoint) = laid_whens s whens (1 ∷ at) w k in
          starts_then (uses s at p e (instruction.Choose e (choices_of whens)) w (flat_map (λ ps. entry ps k) behind)) (flat_map (λ ps. ps) behind)
          (uses_starts at p e (instruction.Choose e (choices_of whens)) w (flat_map (λ ps. entry ps k) behind) around.scope) (by_whens (1 ∷ at) w k around none);
      loop = λ stmts by_stmts at w k around none.
          by_stmts (0 ∷ at) (within_loop k w) (entry (laid s stmts (0 ∷ at) (within_loop k w) k) k) (in_loops k w around) none;
      while = λ p e stmts by_stmts at w k around none.
          let turn : List PointName = entry (prep s e (0 ∷ at) w.scope (row_at at 0 ∷ [])) (row_at at 0 ∷ []) in
          let inner : List NamedPoint = laid s stmts (1 ∷ at) (within_loop k w) turn in
          starts_then (uses s at p e (instruction.Test e) w (entry inner turn ++ k)) inner (uses_starts at p e (instruction.Test e) w (entry inner turn ++ k) around.scope)
          (by_stmts (1 ∷ at) (within_loop k w) turn (in_loops k w around) none);
      for = λ p x reversed low high stmts _ at w k around none.
          let next : List PointName = row_at at 1 ∷ [] in
          starts_then _ _
          (two_starts (0 ∷ at) (1 ∷ at) low high w.scope _ (row_at at 0 ∷ [])
          (point (row_at at 0) p (instruction.Start x reversed low high) (with_held s high (1 ∷ at) (with_held s low (0 ∷ at) w.scope)) next) refl around.scope)
          (count_none (x ∷ w.scope) (none_both (x ∷ []) w.scope (λ y has. elim has [ inl same ↦ none y (inl same) | inr never ↦ absurd never ]) around.scope));
      exit = λ p e at w k around none.
          let out : List NamedPoint = ends at 1 p w.in_loop w.scope w.leave in
          starts_then (uses s at p e (instruction.LeaveLoop e) w (entry out w.leave ++ unless_empty e k)) out
          (uses_starts at p e (instruction.LeaveLoop e) w (entry out w.leave ++ unless_empty e k) around.scope) (ends_start at 1 p w.in_loop w.scope w.leave around.scope);
      return = λ p v at w k around none.
          starts_both (uses s at p v (instruction.Hold v) w (entry (closing at 1 p w) [])) (closing at 1 p w)
          (uses_starts at p v (instruction.Hold v) w (entry (closing at 1 p w) []) around.scope)
          (λ e. absurd (no_row (prep s v (0 ∷ at) w.scope (row_at at 0 ∷ [])) _ [] e));
      block = λ n stmts end by_stmts at w k around none.
          let out : List NamedPoint = ends at 0 end (ending s stmts) (reverse (declared stmts) ++ w.scope) k in
          starts_then (laid s stmts (0 ∷ at) (within_block (ending s stmts) w) (entry out k)) out
          (by_stmts (0 ∷ at) (within_block (ending s stmts) w) (entry out k) (in_blocks (ending s stmts) w (ending_none stmts none) around) none)
          (ends_start at 0 end (ending s stmts) (reverse (declared stmts) ++ w.scope) k
          (none_both (reverse (declared stmts)) w.scope (none_reverse (declared stmts) (declared_none stmts none)) around.scope));
      others = λ c other at w k around none. rw (laid_none s c at w k other) (tt);
      branches = λ a rest by_a by_rest at w k otherwise around none.
          let behind : List NamedPoint = laid_branches s rest (1 ∷ at) w k otherwise in
          starts_then (laid_branch s a (0 ∷ at) w k (entry behind otherwise)) behind
          (by_a (0 ∷ at) w k (entry behind otherwise) around (none_left (declared_within a) (declared_within rest) none))
          (by_rest (1 ∷ at) w k otherwise around (none_right (declared_within a) (declared_within rest) none));
      no_branches = λ c other at w k otherwise around none. rw (branches_none s c at w k otherwise other) (tt);
      branch = λ p e stmts by_stmts at w k otherwise around none.
          let inner : List NamedPoint = laid s stmts (1 ∷ at) w k in
          starts_then (uses s at p e (instruction.Test e) w (entry inner k ++ otherwise)) inner
          (uses_starts at p e (instruction.Test e) w (entry inner k ++ otherwise) around.scope) (by_stmts (1 ∷ at) w k around none);
      no_branch = λ c other at w k otherwise around none. rw (branch_none s c at w k otherwise other) (tt);
      alternatives = λ a rest by_a by_rest at w k around none.
          starts_then (laid_when s a (0 ∷ at) w k) (flat_map (λ ps. ps) (laid_whens s rest (1 ∷ at) w k))
          (by_a (0 ∷ at) w k around (none_left (declared_within a) (declared_within rest) none))
          (by_rest (1 ∷ at) w k around (none_right (declared_within a) (declared_within rest) none));
      no_alternatives = λ c other at w k around none. rw (whens_none s c at w k other) (tt);
      alternative = λ choices stmts by_stmts at w k around none.
          by_stmts (1 ∷ at) w k around none;
      no_alternative = λ c other at w k around none. rw (when_none s c at w k other) (tt);
    }

    laid_starts : (c : TypedCode) (at : Place) (w : Around) (k : List PointName) → IsAround w → AreNone test (declared_within c) → Starts (laid s c at w k)
    laid_starts = on_code laid_starts_cases

    -- ---- subprograms

    module _ (sub : TypedSub) (none : AreNone test (objects_of sub)) where
      body_none : AreNone test (declared_within sub.body)
      body_none = none_right sub.formals (declared_within sub.body) none

      formals_none : AreNone test (reverse sub.formals)
      formals_none = none_reverse sub.formals (none_left sub.formals (declared_within sub.body) none)

      around : IsAround (around_body s sub)
      around = record { scope = formals_none; in_loop = λ x has. absurd has; in_all = ending_none sub.body body_none }

      body_supplied : (end : List NamedPoint) → (Filling end → Supplied end) → Filling (body_points s sub end) → Supplied (body_points s sub end)
      body_supplied end ended =
          joined (laid s sub.body (0 ∷ []) (around_body s sub) (entry end [])) end (laid_supplied sub.body (0 ∷ []) (around_body s sub) (entry end []) around body_none) ended

      end_supplied : (b : Bool) → Supplied (if b then function_end sub else procedure_end s sub)
      end_supplied true = ((refl, tt), tt)
      end_supplied false =
          let finish : PointName = row_at [] (length (ending s sub.body)) in
          one_more (ends [] 0 sub.end (ending s sub.body) (scope_at_end sub) (finish ∷ [])) (point finish sub.end Finish (reverse sub.formals) [])
          (ends_supplied [] 0 sub.end (ending s sub.body) (scope_at_end sub) (finish ∷ []) (ending_none sub.body body_none)) (refl, tt)

      pub sub_supplied : Filling (sub_points s sub) → Supplied (sub_points s sub)
      sub_supplied = body_supplied (if is_some sub.result then function_end sub else procedure_end s sub) (λ fill. end_supplied (is_some sub.result))

      pub elaboration_supplied : Filling (elaboration_points s sub) → Supplied (elaboration_points s sub)
      elaboration_supplied = body_supplied [] (λ fill. tt)

      scope_none : AreNone test (scope_at_end sub)
      scope_none = none_both (reverse (declared sub.body)) (reverse sub.formals) (none_reverse (declared sub.body) (declared_none sub.body body_none)) formals_none

      end_starts : (b : Bool) → Starts (if b then function_end sub else procedure_end s sub)
      end_starts true = count_none (scope_at_end sub) scope_none
      end_starts false =
          let finish : PointName = row_at [] (length (ending s sub.body)) in
          starts_then (ends [] 0 sub.end (ending s sub.body) (scope_at_end sub) (finish ∷ [])) (point finish sub.end Finish (reverse sub.formals) [] ∷ [])
          (ends_start [] 0 sub.end (ending s sub.body) (scope_at_end sub) (finish ∷ []) scope_none) (count_none (reverse sub.formals) formals_none)

      pub sub_starts : Starts (sub_points s sub)
      sub_starts =
          let end : List NamedPoint = if is_some sub.result then function_end sub else procedure_end s sub in
          starts_then (laid s sub.body (0 ∷ []) (around_body s sub) (entry end [])) end (laid_starts sub.body (0 ∷ []) (around_body s sub) (entry end []) around body_none)
          (end_starts (is_some sub.result))

      pub elaboration_starts : Starts (elaboration_points s sub)
      elaboration_starts =
          starts_then (laid s sub.body (0 ∷ []) (around_body s sub) (entry [] [])) [] (laid_starts sub.body (0 ∷ []) (around_body s sub) (entry [] []) around body_none) tt
