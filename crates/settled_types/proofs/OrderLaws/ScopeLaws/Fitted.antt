-- At each point of a subprogram the temporaries that its instruction takes fit the types of what waits in them, if what points
-- fill fits; and its instruction is as the code is asked to be.
use Rattle.std.proofs.Common.{◌≡◌, refl, sym, ap, ◌∙◌, subst, ◌⊎◌, inl, inr, ℕ, suc, ◌+◌, Bool, true, false, List, [], ◌∷◌, ◌++◌, length, reverse, arith, if◌then◌else◌, length-append, append_assoc}
use Rattle.std.specs.Prelude.{Some, None, flat_map, take, drop, is_some}
use Rattle.std.specs.List.{AllByRecursion}
use Rattle.machine.specs.spark_base.declared.position.Pos.{Pos}
use Rattle.machine.specs.typed_tree.Trees.{TypedTree, Name, Component, Designated, Element, Image, Parens, Unary, Binary, Short, IsNull, Aggregate, Alike, New, TypedCode, Declare, Assign, Output, Input, Release}
use Rattle.machine.specs.typed_tree.Trees as typed
use Rattle.machine.specs.typed_tree.Programs.{TypedSub}
use Rattle.machine.specs.flow_paths.Instructions.{Instruction, Evaluate, Finish}
use Rattle.machine.specs.flow_paths.Instructions as instruction
use Rattle.machine.specs.flow_paths.Names.{has_call, waiting}
use Rattle.machine.specs.flow_paths.Points.{Place, PointName, row_at, NamedPoint, point, entry}
use Rattle.machine.specs.flow_paths.Prep.{Setting, held, with_held, prep}
use Rattle.machine.specs.flow_paths.Layout.{Around, within_loop, within_block, with_scope, declared, from, ending, ends, closing, uses, unless_empty, choices_of, laid, laid_branches, laid_branch, laid_whens, laid_when}
use Rattle.machine.specs.flow_paths.Laid.{around_body, scope_at_end, procedure_end, function_end, sub_points}
use Rattle.machine.specs.flow_paths.Scopes.{taken}
use Rattle.flow_paths.proofs.Held.{held_count}
use Rattle.settled_types.proofs.TypedCases.{Laws, branch_none, branches_none, laid_none, on_code, when_none, whens_none}
use Rattle.settled_types.specs.OrderLaws.ScopeLaws.Alone.{CallsFit, CallsOnly, PassedFit, SourceFits, ValueFits, StoredFits, CodeFits, BranchesFit, BranchFits, AlternativesFit, AlternativeFits, InstructionFits}
use Rattle.settled_types.specs.OrderLaws.ScopeLaws.Fitted.{types, types_at, Pairs, FillsFit, RightFits, IsFitted}
use Rattle.settled_types.proofs.OrderLaws.ScopeLaws.Alone.{calls_as}
use Rattle.settled_types.proofs.OrderLaws.ScopeLaws.Lists.{all_both, all_one}

all_left : {A : Type 0} (P : A → Type 0) (xs ys : List A) → AllByRecursion P (xs ++ ys) → AllByRecursion P xs
all_left P [] ys h = tt
all_left P (x ∷ xs) ys h = (h.0, all_left P xs ys h.1)

all_right : {A : Type 0} (P : A → Type 0) (xs ys : List A) → AllByRecursion P (xs ++ ys) → AllByRecursion P ys
all_right P [] ys h = h
all_right P (x ∷ xs) ys h = all_right P xs ys h.1

take_all : (xs ys : List ℕ) → take (length xs) (xs ++ ys) ≡ xs
take_all [] ys = refl
take_all (x ∷ xs) ys = ap (λ zs. x ∷ zs) (take_all xs ys)

drop_all : (xs ys : List ℕ) → drop (length xs) (xs ++ ys) ≡ ys
drop_all [] ys = refl
drop_all (x ∷ xs) ys = drop_all xs ys

pub pairs_both : (fit : ℕ → ℕ → Type 0) (ts us xs ys : List ℕ) → Pairs fit ts xs → Pairs fit us ys → Pairs fit (ts ++ us) (xs ++ ys)
pairs_both fit [] us [] ys h g = g
pairs_both fit [] us (x ∷ xs) ys h g = absurd h
pairs_both fit (t ∷ ts) us [] ys h g = absurd h
pairs_both fit (t ∷ ts) us (x ∷ xs) ys h g = (h.0, pairs_both fit ts us xs ys h.1 g)

module _ (fit : ℕ → ℕ → Type 0) (of : ℕ → ℕ) (truth : ℕ) (ask passed alone single : ℕ → Type 0) (weaker : (n : ℕ) → ask n → alone n) (wider : (n : ℕ) → passed n → alone n)
    (s : Setting) where
  abbrev Good : NamedPoint → Type 0
  Good p = IsFitted fit of truth ask passed alone single p

  abbrev Fitted : List NamedPoint → Type 0
  Fitted ps = AllByRecursion Good ps

  abbrev Filling : List NamedPoint → Type 0
  Filling ps = AllByRecursion (λ (p : NamedPoint). FillsFit fit of truth p.instr) ps

  abbrev Held : TypedTree → List ℕ → Type 0
  Held e xs = Pairs fit (types of truth e) xs

  abbrev May : ℕ → Type 0
  May n = alone n ⊎ single n

  source_may : (e : TypedTree) → SourceFits ask passed alone e → SourceFits ask passed May e
  source_may e asked = calls_as ask passed alone May (λ n one. inl one) e asked

  passed_may : (e : TypedTree) → PassedFit ask passed e → SourceFits ask passed May e
  passed_may e asked = calls_as ask passed passed May (λ n one. inl (wider n one)) e asked

  value_may : (v : TypedTree) → ValueFits ask passed alone single v → SourceFits ask passed May v
  unfolding CallsFit
  value_may v (inl source) = source_may v source
  value_may v (inr (q, n, a, is, one, calls)) = subst (SourceFits ask passed May) (sym is) ((inr one, calls), tt)

  stored_may : (target e : TypedTree) → StoredFits ask passed alone single target e → SourceFits ask passed May e
  unfolding CallsFit
  stored_may target e (inl source) = source_may e source
  stored_may target e (inr (q, n, a, is, one, calls, r, x, path, u, target_is, none)) = subst (SourceFits ask passed May) (sym is) (inr one, calls)

  both : (ps qs : List NamedPoint) → Fitted ps → Fitted qs → Fitted (ps ++ qs)
  both ps qs h g = all_both Good ps qs h g

  one_more : (ps : List NamedPoint) (p : NamedPoint) → Fitted ps → Good p → Fitted (ps ++ p ∷ [])
  one_more ps p h g = all_one Good ps p h g

  left : (ps qs : List NamedPoint) → Filling (ps ++ qs) → Filling ps
  left ps qs h = all_left (λ (p : NamedPoint). FillsFit fit of truth p.instr) ps qs h

  right : (ps qs : List NamedPoint) → Filling (ps ++ qs) → Filling qs
  right ps qs h = all_right (λ (p : NamedPoint). FillsFit fit of truth p.instr) ps qs h

  last : (ps : List NamedPoint) (q : NamedPoint) (qs : List NamedPoint) → Filling (ps ++ q ∷ qs) → FillsFit fit of truth q.instr
  last ps q qs h = (right ps (q ∷ qs) h).0

  -- a point whose instruction takes the temporaries at the front of its scope
  fitted : (p : NamedPoint) (xs scope : List ℕ) → Pairs fit (types_at of truth p.instr) xs → length xs ≡ taken p.instr → p.scope ≡ xs ++ scope
      → InstructionFits ask passed alone single p.instr → RightFits fit truth p.instr scope → Good p
  fitted p xs scope pairs long is asked right_one =
      let front : take (taken p.instr) p.scope ≡ xs = subst (λ n. take n p.scope ≡ xs) long (ap (λ zs. take (length xs) zs) is ∙ take_all xs scope) in
      let back : drop (taken p.instr) p.scope ≡ scope = subst (λ n. drop n p.scope ≡ scope) long (ap (λ zs. drop (length xs) zs) is ∙ drop_all xs scope) in
      (asked, subst (Pairs fit (types_at of truth p.instr)) (sym front) pairs, subst (RightFits fit truth p.instr) (sym back) right_one)

  -- ---- before a use

  either_held : (c : Bool) (ps qs : List NamedPoint) (ts us xs ys : List ℕ) → (Filling ps → Pairs fit ts xs) → (Filling qs → Pairs fit us ys) → Filling (if c then ps else qs)
      → Pairs fit (if c then ts else us) (if c then xs else ys)
  either_held true ps qs ts us xs ys h g fill = h fill
  either_held false ps qs ts us xs ys h g fill = g fill

  two_held : (a b : TypedTree) (x y : Place) → Held a (held s a x) → Held b (held s b y)
      → Pairs fit (types of truth b ++ types of truth a) (held s b y ++ held s a x)
  two_held a b x y h g = pairs_both fit (types of truth b) (types of truth a) (held s b y) (held s a x) g h

  held_fit : (e : TypedTree) (at : Place) (scope : List ℕ) (k : List PointName) → Filling (prep s e at scope k) → Held e (held s e at)
  unfolding prep held types
  held_fit (typed.Call p sub actuals) at scope k fill = (last (prep s actuals (0 ∷ at) scope (row_at at 0 ∷ [])) _ [] fill, tt)
  held_fit (Short op p a q b) at scope k fill =
      let behind : List NamedPoint = prep s b (1 ∷ at) (with_held s a (0 ∷ at) scope) k in
      either_held (has_call b) _ (prep s a (0 ∷ at) scope (entry behind k) ++ behind) (truth ∷ []) (types of truth b ++ types of truth a) (s.temporary at ∷ [])
      (held s b (1 ∷ at) ++ held s a (0 ∷ at))
      (λ f. (last (prep s a (0 ∷ at) scope (row_at at 0 ∷ [])) _ _ f, tt))
      (λ f. two_held a b (0 ∷ at) (1 ∷ at) (held_fit a (0 ∷ at) scope (entry behind k) (left (prep s a (0 ∷ at) scope (entry behind k)) behind f))
      (held_fit b (1 ∷ at) (with_held s a (0 ∷ at) scope) k (right (prep s a (0 ∷ at) scope (entry behind k)) behind f)))
      fill
  held_fit (Binary op a b) at scope k fill =
      let behind : List NamedPoint = prep s b (1 ∷ at) (with_held s a (0 ∷ at) scope) k in
      two_held a b (0 ∷ at) (1 ∷ at) (held_fit a (0 ∷ at) scope (entry behind k) (left (prep s a (0 ∷ at) scope (entry behind k)) behind fill))
      (held_fit b (1 ∷ at) (with_held s a (0 ∷ at) scope) k (right (prep s a (0 ∷ at) scope (entry behind k)) behind fill))
  held_fit (typed.More a b) at scope k fill =
      let behind : List NamedPoint = prep s b (1 ∷ at) (with_held s a (0 ∷ at) scope) k in
      two_held a b (0 ∷ at) (1 ∷ at) (held_fit a (0 ∷ at) scope (entry behind k) (left (prep s a (0 ∷ at) scope (entry behind k)) behind fill))
      (held_fit b (1 ∷ at) (with_held s a (0 ∷ at) scope) k (right (prep s a (0 ∷ at) scope (entry behind k)) behind fill))
  held_fit (Element a low high b) at scope k fill =
      let behind : List NamedPoint = prep s b (1 ∷ at) (with_held s a (0 ∷ at) scope) k in
      two_held a b (0 ∷ at) (1 ∷ at) (held_fit a (0 ∷ at) scope (entry behind k) (left (prep s a (0 ∷ at) scope (entry behind k)) behind fill))
      (held_fit b (1 ∷ at) (with_held s a (0 ∷ at) scope) k (right (prep s a (0 ∷ at) scope (entry behind k)) behind fill))
  held_fit (Name p x e t) at scope k fill = held_fit e (0 ∷ at) scope k fill
  held_fit (Component i e) at scope k fill = held_fit e (0 ∷ at) scope k fill
  held_fit (Designated e) at scope k fill = held_fit e (0 ∷ at) scope k fill
  held_fit (Image t e) at scope k fill = held_fit e (0 ∷ at) scope k fill
  held_fit (Parens e) at scope k fill = held_fit e (0 ∷ at) scope k fill
  held_fit (Unary op e) at scope k fill = held_fit e (0 ∷ at) scope k fill
  held_fit (IsNull equal e) at scope k fill = held_fit e (0 ∷ at) scope k fill
  held_fit (Aggregate t e) at scope k fill = held_fit e (0 ∷ at) scope k fill
  held_fit (Alike t e) at scope k fill = held_fit e (0 ∷ at) scope k fill
  held_fit (New t e) at scope k fill = held_fit e (0 ∷ at) scope k fill
  held_fit _ at scope k fill = tt

  pair_fit : (a b : TypedTree) (x y : Place) (scope inner : List ℕ) (k l : List PointName) → (Filling (prep s a x scope k) → Fitted (prep s a x scope k))
      → (Filling (prep s b y inner l) → Fitted (prep s b y inner l)) → Filling (prep s a x scope k ++ prep s b y inner l) → Fitted (prep s a x scope k ++ prep s b y inner l)
  pair_fit a b x y scope inner k l first second fill =
      both (prep s a x scope k) (prep s b y inner l) (first (left (prep s a x scope k) (prep s b y inner l) fill)) (second (right (prep s a x scope k) (prep s b y inner l) fill))

  either_fit : (c : Bool) (ps qs : List NamedPoint) → (Filling ps → Fitted ps) → (Filling qs → Fitted qs) → Filling (if c then ps else qs) → Fitted (if c then ps else qs)
  either_fit true ps qs h g fill = h fill
  either_fit false ps qs h g fill = g fill

  -- the points of a call
  call_fit : (p : Pos) (sub : ℕ) (actuals : TypedTree) (at : Place) (scope : List ℕ) (k : List PointName) → May sub → PassedFit ask passed actuals
      → (Filling (prep s actuals (0 ∷ at) scope (row_at at 0 ∷ [])) → Fitted (prep s actuals (0 ∷ at) scope (row_at at 0 ∷ [])))
      → Filling (prep s (typed.Call p sub actuals) at scope k) → Fitted (prep s (typed.Call p sub actuals) at scope k)
  unfolding prep
  call_fit p sub actuals at scope k may asked inner fill =
      let before : List NamedPoint = prep s actuals (0 ∷ at) scope (row_at at 0 ∷ []) in
      let q : NamedPoint = point (row_at at 0) p (instruction.Call sub actuals (Some (s.temporary at))) (with_held s actuals (0 ∷ at) scope) k in
      let filling : Filling before = left before (q ∷ []) fill in
      one_more before q (inner filling)
      (fitted q (held s actuals (0 ∷ at)) scope (held_fit actuals (0 ∷ at) scope (row_at at 0 ∷ []) filling) (held_count s actuals (0 ∷ at)) refl (may, asked) tt)

  -- Calls in all of an expression may give values.
  prep_kind : (kind : ℕ → Type 0) → ((n : ℕ) → kind n → May n) → (e : TypedTree) (at : Place) (scope : List ℕ) (k : List PointName) → CallsFit ask passed kind e
      → Filling (prep s e at scope k) → Fitted (prep s e at scope k)
  unfolding prep CallsFit
  prep_kind kind into (typed.Call p sub actuals) at scope k (asked, inner) fill =
      call_fit p sub actuals at scope k (into sub asked) inner (prep_kind passed (λ n one. inl (wider n one)) actuals (0 ∷ at) scope (row_at at 0 ∷ []) inner) fill
  prep_kind kind into (Short op p a q b) at scope k (first_asked, second_asked) fill =
      let asks : (n : ℕ) → ask n → May n = (λ n one. inl (weaker n one)) in
      let behind : List NamedPoint = prep s b (1 ∷ at) (with_held s a (0 ∷ at) scope) k in
      either_fit (has_call b) _ (prep s a (0 ∷ at) scope (entry behind k) ++ behind)
      (λ f.
      let before : List NamedPoint = prep s a (0 ∷ at) scope (row_at at 0 ∷ []) in
      let middle : List NamedPoint = prep s b (1 ∷ at) (s.temporary at ∷ scope) (row_at at 1 ∷ []) in
      let m : NamedPoint = point (row_at at 0) p (Evaluate (s.temporary at) a (Some op)) (with_held s a (0 ∷ at) scope) (entry middle (row_at at 1 ∷ []) ++ k) in
      let n : NamedPoint = point (row_at at 1) q (Evaluate (s.temporary at) b None) (with_held s b (1 ∷ at) (s.temporary at ∷ scope)) k in
      let first : Filling before = left before (m ∷ (middle ++ n ∷ [])) f in
      let second : Filling middle = left middle (n ∷ []) (right before (m ∷ (middle ++ n ∷ [])) f).1 in
      both before (m ∷ (middle ++ n ∷ [])) (prep_kind ask asks a (0 ∷ at) scope (row_at at 0 ∷ []) first_asked first) (
        fitted m (held s a (0 ∷ at)) scope (held_fit a (0 ∷ at) scope (row_at at 0 ∷ []) first) (held_count s a (0 ∷ at)) refl first_asked tt,
        one_more middle n (prep_kind ask asks b (1 ∷ at) (s.temporary at ∷ scope) (row_at at 1 ∷ []) second_asked second)
            (fitted n (held s b (1 ∷ at)) (s.temporary at ∷ scope) (held_fit b (1 ∷ at) (s.temporary at ∷ scope) (row_at at 1 ∷ []) second) (held_count s b (1 ∷ at)) refl
            second_asked (s.temporary at, scope, refl, last before m (middle ++ n ∷ []) f)),
      ))
      (pair_fit a b (0 ∷ at) (1 ∷ at) scope (with_held s a (0 ∷ at) scope) (entry behind k) k (prep_kind ask asks a (0 ∷ at) scope (entry behind k) first_asked)
      (prep_kind ask asks b (1 ∷ at) (with_held s a (0 ∷ at) scope) k second_asked))
      fill
  prep_kind kind into (Binary op a b) at scope k (first, second) fill =
      pair_fit a b (0 ∷ at) (1 ∷ at) scope (with_held s a (0 ∷ at) scope) _ k (prep_kind ask (λ n one. inl (weaker n one)) a (0 ∷ at) scope _ first)
      (prep_kind ask (λ n one. inl (weaker n one)) b (1 ∷ at) (with_held s a (0 ∷ at) scope) k second) fill
  prep_kind kind into (typed.More a b) at scope k (first, second) fill =
      pair_fit a b (0 ∷ at) (1 ∷ at) scope (with_held s a (0 ∷ at) scope) _ k (prep_kind kind into a (0 ∷ at) scope _ first) (prep_kind kind into b (1 ∷ at) (with_held s a (0 ∷ at) scope) k second) fill
  prep_kind kind into (Element a low high b) at scope k (first, second) fill =
      pair_fit a b (0 ∷ at) (1 ∷ at) scope (with_held s a (0 ∷ at) scope) _ k (prep_kind ask (λ n one. inl (weaker n one)) a (0 ∷ at) scope _ first)
      (prep_kind ask (λ n one. inl (weaker n one)) b (1 ∷ at) (with_held s a (0 ∷ at) scope) k second) fill
  prep_kind kind into (Name p x e t) at scope k asked fill = prep_kind ask (λ n one. inl (weaker n one)) e (0 ∷ at) scope k asked fill
  prep_kind kind into (Component i e) at scope k asked fill = prep_kind ask (λ n one. inl (weaker n one)) e (0 ∷ at) scope k asked fill
  prep_kind kind into (Designated e) at scope k asked fill = prep_kind ask (λ n one. inl (weaker n one)) e (0 ∷ at) scope k asked fill
  prep_kind kind into (Image t e) at scope k asked fill = prep_kind ask (λ n one. inl (weaker n one)) e (0 ∷ at) scope k asked fill
  prep_kind kind into (Unary op e) at scope k asked fill = prep_kind ask (λ n one. inl (weaker n one)) e (0 ∷ at) scope k asked fill
  prep_kind kind into (IsNull equal e) at scope k asked fill = prep_kind ask (λ n one. inl (weaker n one)) e (0 ∷ at) scope k asked fill
  prep_kind kind into (Parens e) at scope k asked fill = prep_kind kind into e (0 ∷ at) scope k asked fill
  prep_kind kind into (Aggregate t e) at scope k asked fill = prep_kind kind into e (0 ∷ at) scope k asked fill
  prep_kind kind into (Alike t e) at scope k asked fill = prep_kind kind into e (0 ∷ at) scope k asked fill
  prep_kind kind into (New t e) at scope k asked fill = prep_kind kind into e (0 ∷ at) scope k asked fill
  prep_kind kind into _ at scope k asked fill = tt

  prep_fit : (e : TypedTree) (at : Place) (scope : List ℕ) (k : List PointName) → CallsOnly ask passed e → Filling (prep s e at scope k) → Fitted (prep s e at scope k)
  prep_fit e at scope k asked fill = prep_kind ask (λ n one. inl (weaker n one)) e at scope k asked fill

  source_fit : (e : TypedTree) (at : Place) (scope : List ℕ) (k : List PointName) → SourceFits ask passed May e → Filling (prep s e at scope k) → Fitted (prep s e at scope k)
  source_fit e at scope k asked fill = prep_kind May (λ n one. one) e at scope k asked fill

  uses_fit : (at : Place) (p : Pos) (e : TypedTree) (i : Instruction) (w : Around) (next : List PointName) → types_at of truth i ≡ types of truth e → taken i ≡ waiting e
      → InstructionFits ask passed alone single i → RightFits fit truth i w.scope → (Filling (prep s e (0 ∷ at) w.scope (row_at at 0 ∷ [])) → Fitted (prep s e (0 ∷ at) w.scope (row_at at 0 ∷ [])))
      → Filling (uses s at p e i w next) → Fitted (uses s at p e i w next)
  uses_fit at p e i w next same takes asked right_one before_fit fill =
      let before : List NamedPoint = prep s e (0 ∷ at) w.scope (row_at at 0 ∷ []) in
      let q : NamedPoint = point (row_at at 0) p i (with_held s e (0 ∷ at) w.scope) next in
      let inner : Filling before = left before (q ∷ []) fill in
      one_more before q (before_fit inner)
      (fitted q (held s e (0 ∷ at)) w.scope (subst (λ ts. Pairs fit ts (held s e (0 ∷ at))) (sym same) (held_fit e (0 ∷ at) w.scope (row_at at 0 ∷ []) inner))
      (held_count s e (0 ∷ at) ∙ sym takes) refl asked right_one)

  used : (at : Place) (p : Pos) (e : TypedTree) (i : Instruction) (w : Around) (next : List PointName) → types_at of truth i ≡ types of truth e → taken i ≡ waiting e
      → InstructionFits ask passed alone single i → RightFits fit truth i w.scope → CallsOnly ask passed e → Filling (uses s at p e i w next) → Fitted (uses s at p e i w next)
  used at p e i w next same takes asked right_one calls = uses_fit at p e i w next same takes asked right_one (prep_fit e (0 ∷ at) w.scope (row_at at 0 ∷ []) calls)

  stored : (at : Place) (p : Pos) (e : TypedTree) (i : Instruction) (w : Around) (next : List PointName) → types_at of truth i ≡ types of truth e → taken i ≡ waiting e
      → InstructionFits ask passed alone single i → RightFits fit truth i w.scope → SourceFits ask passed May e → Filling (uses s at p e i w next) → Fitted (uses s at p e i w next)
  stored at p e i w next same takes asked right_one source = uses_fit at p e i w next same takes asked right_one (source_fit e (0 ∷ at) w.scope (row_at at 0 ∷ []) source)

  -- two expressions at some places, the first one first, and a point that uses both
  two_fit : (x y : Place) (a b : TypedTree) (scope : List ℕ) (k l : List PointName) (q : NamedPoint)
      → q.scope ≡ with_held s b y (with_held s a x scope) → waiting a + waiting b ≡ taken q.instr → types_at of truth q.instr ≡ types of truth b ++ types of truth a
      → InstructionFits ask passed alone single q.instr → RightFits fit truth q.instr scope → (Filling (prep s a x scope k) → Fitted (prep s a x scope k))
      → (Filling (prep s b y (with_held s a x scope) l) → Fitted (prep s b y (with_held s a x scope) l))
      → Filling ((prep s a x scope k ++ prep s b y (with_held s a x scope) l) ++ q ∷ []) → Fitted ((prep s a x scope k ++ prep s b y (with_held s a x scope) l) ++ q ∷ [])
  two_fit x y a b scope k l q is takes same asked right_one first_fit second_fit fill =
      let first : List NamedPoint = prep s a x scope k in
      let second : List NamedPoint = prep s b y (with_held s a x scope) l in
      let inner : Filling (first ++ second) = left (first ++ second) (q ∷ []) fill in
      let one = held_count s a x in
      let two = held_count s b y in
      let long = length-append (held s b y) (held s a x) in
      one_more (first ++ second) q (pair_fit a b x y scope (with_held s a x scope) k l first_fit second_fit inner)
      (fitted q (held s b y ++ held s a x) scope
      (subst (λ ts. Pairs fit ts (held s b y ++ held s a x)) (sym same)
      (two_held a b x y (held_fit a x scope k (left first second inner)) (held_fit b y (with_held s a x scope) l (right first second inner))))
      (omega (arith, one, two, long, takes)) (is ∙ sym (append_assoc (held s b y) (held s a x) scope)) asked right_one)

  none_taken : (ys : List ℕ) → Pairs fit [] (take 0 ys)
  none_taken [] = tt
  none_taken (y ∷ ys) = tt

  ends_fit : (at : Place) (row : ℕ) (p : Pos) (xs scope : List ℕ) (k : List PointName) → Fitted (ends at row p xs scope k)
  ends_fit at row p [] scope k = tt
  ends_fit at row p (x ∷ xs) scope k = ((tt, none_taken (from x scope), tt), ends_fit at (suc row) p xs (drop 1 (from x scope)) k)

  last_fit : (at : Place) (row : ℕ) (p q : Pos) (xs scope formals : List ℕ) (finish : PointName)
      → Fitted (ends at row p xs scope (finish ∷ []) ++ point finish q Finish formals [] ∷ [])
  last_fit at row p q xs scope formals finish =
      one_more (ends at row p xs scope (finish ∷ [])) (point finish q Finish formals []) (ends_fit at row p xs scope (finish ∷ [])) (tt, none_taken formals, tt)

  -- ---- statements

  joined : (ps qs : List NamedPoint) → (Filling ps → Fitted ps) → (Filling qs → Fitted qs) → Filling (ps ++ qs) → Fitted (ps ++ qs)
  joined ps qs h g fill = both ps qs (h (left ps qs fill)) (g (right ps qs fill))

  swap : (a b : ℕ) → a + b ≡ b + a
  swap a b = omega arith

  laid_fit_cases : Laws (λ c. (at : Place) → (w : Around) → (k : List PointName) → CodeFits ask passed alone single c → Filling (laid s c at w k) → Fitted (laid s c at w k))
      (λ c. (at : Place) → (w : Around) → (k : List PointName) → (otherwise : List PointName) → BranchesFit ask passed alone single c → Filling (laid_branches s c at w k otherwise) → Fitted (laid_branches s c at w k otherwise))
      (λ c. (at : Place) → (w : Around) → (k : List PointName) → (otherwise : List PointName) → BranchFits ask passed alone single c → Filling (laid_branch s c at w k otherwise) → Fitted (laid_branch s c at w k otherwise))
      (λ c. (at : Place) → (w : Around) → (k : List PointName) → AlternativesFit ask passed alone single c → Filling (flat_map (λ ps. ps) (laid_whens s c at w k)) → Fitted (flat_map (λ ps. ps) (laid_whens s c at w k)))
      (λ c. (at : Place) → (w : Around) → (k : List PointName) → AlternativeFits ask passed alone single c → Filling (laid_when s c at w k) → Fitted (laid_when s c at w k))
  unfolding laid laid_branches laid_branch laid_whens laid_when CodeFits BranchesFit BranchFits AlternativesFit AlternativeFits
  laid_fit_cases = record {
    list = λ a rest by_a by_rest at w k (first, second).
        let behind : List NamedPoint = laid s rest (1 ∷ at) (with_scope (declared a) w) k in
        joined (laid s a (0 ∷ at) w (entry behind k)) behind (by_a (0 ∷ at) w (entry behind k) first) (by_rest (1 ∷ at) (with_scope (declared a) w) k second);
    declare = λ p x v at w k fits.
        stored at p v (instruction.Declare x v) w k refl refl fits tt (value_may v fits);
    assign = λ p target e at w k (target_fits, source).
        two_fit (1 ∷ at) (0 ∷ at) e target w.scope _ (row_at at 0 ∷ [])
        (point (row_at at 0) p (instruction.Assign target e) (with_held s target (0 ∷ at) (with_held s e (1 ∷ at) w.scope)) k) refl refl refl (target_fits, source) tt
        (source_fit e (1 ∷ at) w.scope _ (stored_may target e source)) (prep_fit target (0 ∷ at) (with_held s e (1 ∷ at) w.scope) (row_at at 0 ∷ []) target_fits);
    skip = λ p at w k fits.
        λ fill. ((tt, none_taken w.scope, tt), tt);
    call = λ p sub actuals at w k fits.
        stored at p actuals (instruction.Call sub actuals None) w k refl refl fits tt (passed_may actuals fits);
    output = λ p text line at w k fits.
        used at p text (instruction.Output text line) w k refl refl fits tt fits;
    input = λ p target at w k fits.
        used at p target (instruction.Input target) w k refl refl fits tt fits;
    release = λ p m at w k fits.
        used at p m (instruction.Release m) w k refl refl fits tt fits;
    choice = λ branches otherwise by_branches by_otherwise at w k (first, second).
        let behind : List NamedPoint = laid s otherwise (1 ∷ at) w k in
        joined (laid_branches s branches (0 ∷ at) w k (entry behind k)) behind (by_branches (0 ∷ at) w k (entry behind k) first) (by_otherwise (1 ∷ at) w k second);
    cases = λ p e whens by_whens at w k (first, second).
        let behind : List (List NamedPoint) = laid_whens s whens (1 ∷ at) w k in
        joined (uses s at p e (instruction.Choose e (choices_of whens)) w (flat_map (λ ps. entry ps k) behind)) (flat_map (λ ps. ps) behind)
        (used at p e (instruction.Choose e (choices_of whens)) w (flat_map (λ ps. entry ps k) behind) refl refl first tt first) (by_whens (1 ∷ at) w k second);
    loop = λ stmts by_stmts at w k fits.
        by_stmts (0 ∷ at) (within_loop k w) (entry (laid s stmts (0 ∷ at) (within_loop k w) k) k) fits;
    while = λ p e stmts by_stmts at w k (first, second).
        let turn : List PointName = entry (prep s e (0 ∷ at) w.scope (row_at at 0 ∷ [])) (row_at at 0 ∷ []) in
        let inner : List NamedPoint = laid s stmts (1 ∷ at) (within_loop k w) turn in
        joined (uses s at p e (instruction.Test e) w (entry inner turn ++ k)) inner (used at p e (instruction.Test e) w (entry inner turn ++ k) refl refl first tt first)
        (by_stmts (1 ∷ at) (within_loop k w) turn second);
    for = λ p x reversed low high stmts by_stmts at w k (first, second, third).
        let next : List PointName = row_at at 1 ∷ [] in
        joined _ _
        (two_fit (0 ∷ at) (1 ∷ at) low high w.scope _ (row_at at 0 ∷ [])
        (point (row_at at 0) p (instruction.Start x reversed low high) (with_held s high (1 ∷ at) (with_held s low (0 ∷ at) w.scope)) next) refl refl refl (first, second) tt
        (prep_fit low (0 ∷ at) w.scope _ first) (prep_fit high (1 ∷ at) (with_held s low (0 ∷ at) w.scope) (row_at at 0 ∷ []) second))
        (λ fill. ((tt, none_taken (x ∷ w.scope), tt), by_stmts (2 ∷ at) (with_scope (x ∷ []) (within_loop k w)) next third fill.1));
    exit = λ p e at w k fits.
        let out : List NamedPoint = ends at 1 p w.in_loop w.scope w.leave in
        joined (uses s at p e (instruction.LeaveLoop e) w (entry out w.leave ++ unless_empty e k)) out
        (used at p e (instruction.LeaveLoop e) w (entry out w.leave ++ unless_empty e k) refl refl fits tt fits) (λ fill. ends_fit at 1 p w.in_loop w.scope w.leave);
    return = λ p v at w k fits.
        let finish : PointName = row_at at (suc (length w.in_all)) in
        joined (uses s at p v (instruction.Hold v) w (entry (closing at 1 p w) [])) (closing at 1 p w)
        (stored at p v (instruction.Hold v) w (entry (closing at 1 p w) []) refl refl fits tt (value_may v fits)) (λ fill. last_fit at 1 p p w.in_all w.scope w.formals finish);
    block = λ n stmts end by_stmts at w k fits.
        let out : List NamedPoint = ends at 0 end (ending s stmts) (reverse (declared stmts) ++ w.scope) k in
        joined (laid s stmts (0 ∷ at) (within_block (ending s stmts) w) (entry out k)) out
        (by_stmts (0 ∷ at) (within_block (ending s stmts) w) (entry out k) fits) (λ fill. ends_fit at 0 end (ending s stmts) (reverse (declared stmts) ++ w.scope) k);
    others = λ c other at w k fits. rw (laid_none s c at w k other) (λ fill. tt);
    branches = λ a rest by_a by_rest at w k otherwise (first, second).
        let behind : List NamedPoint = laid_branches s rest (1 ∷ at) w k otherwise in
        joined (laid_branch s a (0 ∷ at) w k (entry behind otherwise)) behind (by_a (0 ∷ at) w k (entry behind otherwise) first)
        (by_rest (1 ∷ at) w k otherwise second);
    no_branches = λ c other at w k otherwise fits. rw (branches_none s c at w k otherwise other) (λ fill. tt);
    branch = λ p e stmts by_stmts at w k otherwise (first, second).
        let inner : List NamedPoint = laid s stmts (1 ∷ at) w k in
        joined (uses s at p e (instruction.Test e) w (entry inner k ++ otherwise)) inner
        (used at p e (instruction.Test e) w (entry inner k ++ otherwise) refl refl first tt first) (by_stmts (1 ∷ at) w k second);
    no_branch = λ c other at w k otherwise fits. rw (branch_none s c at w k otherwise other) (λ fill. tt);
    alternatives = λ a rest by_a by_rest at w k (first, second).
        joined (laid_when s a (0 ∷ at) w k) (flat_map (λ ps. ps) (laid_whens s rest (1 ∷ at) w k)) (by_a (0 ∷ at) w k first) (by_rest (1 ∷ at) w k second);
    no_alternatives = λ c other at w k fits. rw (whens_none s c at w k other) (λ fill. tt);
    alternative = λ choices stmts by_stmts at w k fits.
        by_stmts (1 ∷ at) w k fits;
    no_alternative = λ c other at w k fits. rw (when_none s c at w k other) (λ fill. tt);
  }

  laid_fit : (c : TypedCode) (at : Place) (w : Around) (k : List PointName) → CodeFits ask passed alone single c → Filling (laid s c at w k) → Fitted (laid s c at w k)
  laid_fit = on_code laid_fit_cases

  end_fit : (sub : TypedSub) (c : Bool) → Fitted (if c then function_end sub else procedure_end s sub)
  end_fit sub true = ((tt, none_taken (scope_at_end sub), tt), tt)
  end_fit sub false = last_fit [] 0 sub.end sub.end (ending s sub.body) (scope_at_end sub) (reverse sub.formals) (row_at [] (length (ending s sub.body)))

  pub sub_fit : (sub : TypedSub) → CodeFits ask passed alone single sub.body → Filling (sub_points s sub) → Fitted (sub_points s sub)
  sub_fit sub fits =
      joined (laid s sub.body (0 ∷ []) (around_body s sub) _) _ (laid_fit sub.body (0 ∷ []) (around_body s sub) _ fits) (λ fill. end_fit sub (is_some sub.result))
