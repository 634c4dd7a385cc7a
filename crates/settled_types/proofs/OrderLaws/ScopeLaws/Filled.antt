-- What the points of a subprogram fill are the temporaries of its program.
use Rattle.std.proofs.Common.{◌≡◌, refl, sym, ap, ◌∙◌, subst, inl, inr, ℕ, zero, suc, ◌+◌, ◌<◌, ◌≤◌, Bool, true, false, not, ◌&&◌, ◌==◌, cond, List, [], ◌∷◌, ◌++◌, map, length, get_or, arith, if◌then◌else◌, append_assoc, length-append, eq-eqb}
use Rattle.std.specs.Prelude.{Some, None, flat_map, drop, is_some}
use Rattle.std.specs.List.{AllByRecursion, position_or_len}
use Rattle.std.proofs.lemmas.Bool.{true≢false}
use Rattle.machine.specs.spark_base.declared.position.Pos.{Pos}
use Rattle.machine.specs.spark_base.Lists.{Has}
use Rattle.spark_base.proofs.Lists.{Has-append_left, Has-append_right}
use Rattle.machine.specs.typed_tree.declared.object.Object.{Object}
use Rattle.machine.specs.typed_tree.Trees.{TypedTree, TypedCode}
use Rattle.machine.specs.typed_tree.Programs.{TypedSub, text_io}
use Rattle.machine.specs.flow_paths.Instructions.{Instruction, Call, Evaluate}
use Rattle.machine.specs.flow_paths.Instructions as instruction
use Rattle.machine.specs.flow_paths.Objects.{Typing}
use Rattle.machine.specs.flow_paths.Names.{has_call}
use Rattle.machine.specs.flow_paths.Points.{Place, PointName, row_at, same_place, NamedPoint}
use Rattle.machine.specs.flow_paths.Prep.{Setting, prep}
use Rattle.machine.specs.flow_paths.Layout.{Around, within_loop, within_block, with_scope, declared, from, ending, ends, uses, choices_of, laid, laid_branches, laid_branch, laid_whens, laid_when}
use Rattle.machine.specs.flow_paths.Laid.{Temporary, temporary_object, filled, temporaries, numbers_from, unnumbered, around_body, scope_at_end, procedure_end, function_end, sub_points, sub_temporaries, NamedSub, named_sub, named_subs}
use Rattle.machine.specs.flow_paths.Scopes.{is_temporary}
use Rattle.settled_types.proofs.TypedCases.{Laws, branch_none, branches_none, laid_none, on_code, on_tree, plain_prep, when_none, whens_none}
use Rattle.settled_types.specs.OrderLaws.ScopeLaws.Supplied.{FillsOne, IsFilling}
use Rattle.settled_types.proofs.OrderLaws.ScopeLaws.Lists.{all_both}

-- A point fills the temporary of its place, and is in row 0 then.
abbrev pub Owned : Setting → PointName → Instruction → Type 0
Owned z at (Call sub actuals (Some t)) = (t ≡ z.temporary at.place) × (at.row ≡ 0)
Owned z at (Evaluate t e (Some op)) = (t ≡ z.temporary at.place) × (at.row ≡ 0)
Owned z at i = Unit {0}

abbrev pub IsOwn : Setting → NamedPoint → Type 0
IsOwn z p = Owned z p.name p.instr

-- ---- points that are laid out by two settings

module _ (t : Typing) (z u : Setting) where
  temporaries_both : (ps qs : List NamedPoint) → temporaries t (ps ++ qs) ≡ temporaries t ps ++ temporaries t qs
  temporaries_both [] qs = refl
  temporaries_both (p ∷ ps) qs =
      ap (λ xs. filled t p.name.place p.instr ++ xs) (temporaries_both ps qs) ∙ sym (append_assoc (filled t p.name.place p.instr) (temporaries t ps) (temporaries t qs))

  -- They fill temporaries of the same places, and those of the first one their own.
  pub record Walk (ps qs : List NamedPoint) : Type 0 where
    pub same : temporaries t ps ≡ temporaries t qs
    pub own : AllByRecursion (IsOwn z) ps

  joined : (ps qs rs vs : List NamedPoint) → Walk ps rs → Walk qs vs → Walk (ps ++ qs) (rs ++ vs)
  joined ps qs rs vs h g = record {
    same = temporaries_both ps qs ∙ (ap (λ xs. xs ++ temporaries t qs) h.same ∙ ap (λ xs. temporaries t rs ++ xs) g.same) ∙ sym (temporaries_both rs vs);
    own = all_both (IsOwn z) ps qs h.own g.own;
  }

  nothing : Walk [] []
  nothing = record { same = refl; own = tt }

  following : (p q : NamedPoint) (ps qs : List NamedPoint) → filled t p.name.place p.instr ≡ filled t q.name.place q.instr → IsOwn z p → Walk ps qs → Walk (p ∷ ps) (q ∷ qs)
  following p q ps qs same own h =
      record { same = ap (λ xs. xs ++ temporaries t ps) same ∙ ap (λ xs. filled t q.name.place q.instr ++ xs) h.same; own = (own, h.own) }

  one : (p q : NamedPoint) → filled t p.name.place p.instr ≡ filled t q.name.place q.instr → IsOwn z p → Walk (p ∷ []) (q ∷ [])
  one p q same own = following p q [] [] same own nothing

  either : (b : Bool) (ps qs rs vs : List NamedPoint) → Walk ps rs → Walk qs vs → Walk (if b then ps else qs) (if b then rs else vs)
  either true ps qs rs vs h g = h
  either false ps qs rs vs h g = g

  prep_walk : (e : TypedTree) (at : Place) (scope scope' : List ℕ) (k k' : List PointName) → Walk (prep z e at scope k) (prep u e at scope' k')
  unfolding prep
  prep_walk = on_tree {Of = λ e. (at : Place) → (scope : List ℕ) → (scope' : List ℕ) → (k : List PointName) → (k' : List PointName) → Walk (prep z e at scope k) (prep u e at scope' k')} (record {
    call = λ p sub actuals by_actuals at scope scope' k k'.
        joined (prep z actuals (0 ∷ at) scope (row_at at 0 ∷ [])) _ (prep u actuals (0 ∷ at) scope' (row_at at 0 ∷ [])) _
        (by_actuals (0 ∷ at) scope scope' (row_at at 0 ∷ []) (row_at at 0 ∷ [])) (one _ _ refl (refl, refl));
    short = λ op p a q b on_a by_b at scope scope' k k'.
        either (has_call b) _ _ _ _
        (joined (prep z a (0 ∷ at) scope (row_at at 0 ∷ [])) _ (prep u a (0 ∷ at) scope' (row_at at 0 ∷ [])) _
        (on_a (0 ∷ at) scope scope' (row_at at 0 ∷ []) (row_at at 0 ∷ []))
        (following _ _ _ _ refl (refl, refl)
        (joined (prep z b (1 ∷ at) (z.temporary at ∷ scope) (row_at at 1 ∷ [])) _ (prep u b (1 ∷ at) (u.temporary at ∷ scope') (row_at at 1 ∷ [])) _
        (by_b (1 ∷ at) (z.temporary at ∷ scope) (u.temporary at ∷ scope') (row_at at 1 ∷ []) (row_at at 1 ∷ [])) (one _ _ refl tt))))
        (joined (prep z a (0 ∷ at) scope _) _ (prep u a (0 ∷ at) scope' _) _ (on_a (0 ∷ at) scope scope' _ _) (by_b (1 ∷ at) _ _ k k'));
    binary = λ op a b on_a by_b at scope scope' k k'.
        joined (prep z a (0 ∷ at) scope _) _ (prep u a (0 ∷ at) scope' _) _ (on_a (0 ∷ at) scope scope' _ _) (by_b (1 ∷ at) _ _ k k');
    list = λ a b on_a by_b at scope scope' k k'.
        joined (prep z a (0 ∷ at) scope _) _ (prep u a (0 ∷ at) scope' _) _ (on_a (0 ∷ at) scope scope' _ _) (by_b (1 ∷ at) _ _ k k');
    element = λ a low high b on_a by_b at scope scope' k k'.
        joined (prep z a (0 ∷ at) scope _) _ (prep u a (0 ∷ at) scope' _) _ (on_a (0 ∷ at) scope scope' _ _) (by_b (1 ∷ at) _ _ k k');
    name = λ p x e t by_e at scope scope' k k'.
        by_e (0 ∷ at) scope scope' k k';
    component = λ i e by_e at scope scope' k k'.
        by_e (0 ∷ at) scope scope' k k';
    designated = λ e by_e at scope scope' k k'.
        by_e (0 ∷ at) scope scope' k k';
    image = λ t e by_e at scope scope' k k'.
        by_e (0 ∷ at) scope scope' k k';
    parens = λ e by_e at scope scope' k k'.
        by_e (0 ∷ at) scope scope' k k';
    unary = λ op e by_e at scope scope' k k'.
        by_e (0 ∷ at) scope scope' k k';
    is_null = λ equal e by_e at scope scope' k k'.
        by_e (0 ∷ at) scope scope' k k';
    aggregate = λ t e by_e at scope scope' k k'.
        by_e (0 ∷ at) scope scope' k k';
    alike = λ t e by_e at scope scope' k k'.
        by_e (0 ∷ at) scope scope' k k';
    allocator = λ t e by_e at scope scope' k k'.
        by_e (0 ∷ at) scope scope' k k';
    others = λ e plain at scope scope' k k'. rw (plain_prep z e at scope k plain) rw (plain_prep u e at scope' k' plain) (nothing);
  })

  uses_walk : (at : Place) (p : Pos) (e : TypedTree) (i : Instruction) (w v : Around) (next next' : List PointName) → Owned z (row_at at 0) i → Walk (uses z at p e i w next) (uses u at p e i v next')
  uses_walk at p e i w v next next' own =
      joined (prep z e (0 ∷ at) w.scope (row_at at 0 ∷ [])) _ (prep u e (0 ∷ at) v.scope (row_at at 0 ∷ [])) _
      (prep_walk e (0 ∷ at) w.scope v.scope (row_at at 0 ∷ []) (row_at at 0 ∷ [])) (one _ _ refl own)

  two_walk : (x y : Place) (a b : TypedTree) (scope scope' inner inner' : List ℕ) (k k' l l' : List PointName) (q r : NamedPoint)
      → filled t q.name.place q.instr ≡ filled t r.name.place r.instr → IsOwn z q
      → Walk ((prep z a x scope k ++ prep z b y inner l) ++ q ∷ []) ((prep u a x scope' k' ++ prep u b y inner' l') ++ r ∷ [])
  two_walk x y a b scope scope' inner inner' k k' l l' q r same own =
      joined (prep z a x scope k ++ prep z b y inner l) (q ∷ []) (prep u a x scope' k' ++ prep u b y inner' l') (r ∷ [])
      (joined (prep z a x scope k) (prep z b y inner l) (prep u a x scope' k') (prep u b y inner' l') (prep_walk a x scope scope' k k') (prep_walk b y inner inner' l l'))
      (one q r same own)

  ends_none : (at : Place) (row : ℕ) (p : Pos) (xs scope : List ℕ) (k : List PointName) → temporaries t (ends at row p xs scope k) ≡ []
  ends_none at row p [] scope k = refl
  ends_none at row p (x ∷ xs) scope k = ends_none at (suc row) p xs (drop 1 (from x scope)) k

  ends_own : (at : Place) (row : ℕ) (p : Pos) (xs scope : List ℕ) (k : List PointName) → AllByRecursion (IsOwn z) (ends at row p xs scope k)
  ends_own at row p [] scope k = tt
  ends_own at row p (x ∷ xs) scope k = (tt, ends_own at (suc row) p xs (drop 1 (from x scope)) k)

  ends_walk : (at : Place) (row : ℕ) (p : Pos) (xs ys scope scope' : List ℕ) (k k' : List PointName) → Walk (ends at row p xs scope k) (ends at row p ys scope' k')
  ends_walk at row p xs ys scope scope' k k' =
      record { same = ends_none at row p xs scope k ∙ sym (ends_none at row p ys scope' k'); own = ends_own at row p xs scope k }

  laid_walk_cases : Laws (λ c. (at : Place) → (w : Around) → (v : Around) → (k : List PointName) → (l : List PointName) → Walk (laid z c at w k) (laid u c at v l))
      (λ c. (at : Place) → (w : Around) → (v : Around) → (k : List PointName) → (l : List PointName) → (m : List PointName) → (n : List PointName) → Walk (laid_branches z c at w k m) (laid_branches u c at v l n))
      (λ c. (at : Place) → (w : Around) → (v : Around) → (k : List PointName) → (l : List PointName) → (m : List PointName) → (n : List PointName) → Walk (laid_branch z c at w k m) (laid_branch u c at v l n))
      (λ c. (at : Place) → (w : Around) → (v : Around) → (k : List PointName) → (l : List PointName) → Walk (flat_map (λ ps. ps) (laid_whens z c at w k)) (flat_map (λ ps. ps) (laid_whens u c at v l)))
      (λ c. (at : Place) → (w : Around) → (v : Around) → (k : List PointName) → (l : List PointName) → Walk (laid_when z c at w k) (laid_when u c at v l))
  unfolding laid laid_branches laid_branch laid_whens laid_when
  laid_walk_cases = record {
    list = λ a rest by_a by_rest at w v k l.
        joined (laid z a (0 ∷ at) w _) _ (laid u a (0 ∷ at) v _) _ (by_a (0 ∷ at) w v _ _) (by_rest (1 ∷ at) (with_scope (declared a) w) (with_scope (declared a) v) k l);
    declare = λ p x e at w v k l.
        uses_walk at p e (instruction.Declare x e) w v k l tt;
    assign = λ p target e at w v k l.
        two_walk (1 ∷ at) (0 ∷ at) e target w.scope v.scope _ _ _ _ (row_at at 0 ∷ []) (row_at at 0 ∷ []) _ _ refl tt;
    skip = λ p at w v k l.
        one _ _ refl tt;
    call = λ p sub actuals at w v k l.
        uses_walk at p actuals (instruction.Call sub actuals None) w v k l tt;
    output = λ p text line at w v k l.
        uses_walk at p text (instruction.Output text line) w v k l tt;
    input = λ p target at w v k l.
        uses_walk at p target (instruction.Input target) w v k l tt;
    release = λ p m at w v k l.
        uses_walk at p m (instruction.Release m) w v k l tt;
    choice = λ branches otherwise by_branches by_otherwise at w v k l.
        joined (laid_branches z branches (0 ∷ at) w k _) _ (laid_branches u branches (0 ∷ at) v l _) _ (by_branches (0 ∷ at) w v k l _ _) (by_otherwise (1 ∷ at) w v k l);
    cases = λ p e whens by_whens at w v k l.
        joined (uses z at p e (instruction.Choose e (choices_of whens)) w _) _ (uses u at p e (instruction.Choose e (choices_of whens)) v _) _
        (uses_walk at p e (instruction.Choose e (choices_of whens)) w v _ _ tt) (by_whens (1 ∷ at) w v k l);
    loop = λ stmts by_stmts at w v k l.
        by_stmts (0 ∷ at) (within_loop k w) (within_loop l v) _ _;
    while = λ p e stmts by_stmts at w v k l.
        joined (uses z at p e (instruction.Test e) w _) _ (uses u at p e (instruction.Test e) v _) _
        (uses_walk at p e (instruction.Test e) w v _ _ tt) (by_stmts (1 ∷ at) (within_loop k w) (within_loop l v) _ _);
    for = λ p x reversed low high stmts by_stmts at w v k l.
        joined _ _ _ _
        (two_walk (0 ∷ at) (1 ∷ at) low high w.scope v.scope _ _ _ _ (row_at at 0 ∷ []) (row_at at 0 ∷ []) _ _ refl tt)
        (following _ _ _ _ refl tt (by_stmts (2 ∷ at) (with_scope (x ∷ []) (within_loop k w)) (with_scope (x ∷ []) (within_loop l v)) (row_at at 1 ∷ []) (row_at at 1 ∷ [])));
    exit = λ p e at w v k l.
        joined (uses z at p e (instruction.LeaveLoop e) w _) _ (uses u at p e (instruction.LeaveLoop e) v _) _
        (uses_walk at p e (instruction.LeaveLoop e) w v _ _ tt) (ends_walk at 1 p w.in_loop v.in_loop w.scope v.scope w.leave v.leave);
    return = λ p e at w v k l.
        joined (uses z at p e (instruction.Hold e) w _) _ (uses u at p e (instruction.Hold e) v _) _ (uses_walk at p e (instruction.Hold e) w v _ _ tt)
        (joined (ends at 1 p w.in_all w.scope _) _ (ends at 1 p v.in_all v.scope _) _ (ends_walk at 1 p w.in_all v.in_all w.scope v.scope _ _) (one _ _ refl tt));
    block = λ n stmts end by_stmts at w v k l.
        joined (laid z stmts (0 ∷ at) (within_block (ending z stmts) w) _) _ (laid u stmts (0 ∷ at) (within_block (ending u stmts) v) _) _
        (by_stmts (0 ∷ at) (within_block (ending z stmts) w) (within_block (ending u stmts) v) _ _) (ends_walk at 0 end (ending z stmts) (ending u stmts) _ _ k l);
    others = λ c other at w v k l. rw (laid_none z c at w k other) rw (laid_none u c at v l other) (nothing);
    branches = λ a rest by_a by_rest at w v k l m n.
        joined (laid_branch z a (0 ∷ at) w k _) _ (laid_branch u a (0 ∷ at) v l _) _ (by_a (0 ∷ at) w v k l _ _) (by_rest (1 ∷ at) w v k l m n);
    no_branches = λ c other at w v k l m n. rw (branches_none z c at w k m other) rw (branches_none u c at v l n other) (nothing);
    branch = λ p e stmts by_stmts at w v k l m n.
        joined (uses z at p e (instruction.Test e) w _) _ (uses u at p e (instruction.Test e) v _) _ (uses_walk at p e (instruction.Test e) w v _ _ tt) (by_stmts (1 ∷ at) w v k l);
    no_branch = λ c other at w v k l m n. rw (branch_none z c at w k m other) rw (branch_none u c at v l n other) (nothing);
    alternatives = λ a rest by_a by_rest at w v k l.
        joined (laid_when z a (0 ∷ at) w k) _ (laid_when u a (0 ∷ at) v l) _ (by_a (0 ∷ at) w v k l) (by_rest (1 ∷ at) w v k l);
    no_alternatives = λ c other at w v k l. rw (whens_none z c at w k other) rw (whens_none u c at v l other) (nothing);
    alternative = λ choices stmts by_stmts at w v k l.
        by_stmts (1 ∷ at) w v k l;
    no_alternative = λ c other at w v k l. rw (when_none z c at w k other) rw (when_none u c at v l other) (nothing);
  }

  laid_walk : (c : TypedCode) (at : Place) (w v : Around) (k l : List PointName) → Walk (laid z c at w k) (laid u c at v l)
  laid_walk = on_code laid_walk_cases

  end_walk : (sub : TypedSub) (b : Bool) → Walk (if b then function_end sub else procedure_end z sub) (if b then function_end sub else procedure_end u sub)
  end_walk sub true = one _ _ refl tt
  end_walk sub false =
      joined (ends [] 0 sub.end (ending z sub.body) (scope_at_end sub) _) _ (ends [] 0 sub.end (ending u sub.body) (scope_at_end sub) _) _
      (ends_walk [] 0 sub.end (ending z sub.body) (ending u sub.body) (scope_at_end sub) (scope_at_end sub) _ _) (one _ _ refl tt)

  pub sub_walk : (sub : TypedSub) → Walk (sub_points z sub) (sub_points u sub)
  sub_walk sub =
      joined (laid z sub.body (0 ∷ []) (around_body z sub) _) _ (laid u sub.body (0 ∷ []) (around_body u sub) _) _
      (laid_walk sub.body (0 ∷ []) (around_body z sub) (around_body u sub) _ _) (end_walk sub (is_some sub.result))

-- ---- numbers

same_self : (at : Place) → same_place at at ≡ true
same_self [] = refl
same_self (n ∷ at) = both (n == n) (same_place at at) (eq-eqb n n refl) (same_self at)
  where
    both : (a b : Bool) → a ≡ true → b ≡ true → a && b ≡ true
    both true b h g = g
    both false b h g = h

pub placed : (all : List Temporary) (r : Temporary) → Has all r → position_or_len (λ (t : Temporary). same_place r.place t.place) all < length all
placed [] r has = absurd has
placed (t ∷ all) r has = by (same_place r.place t.place) refl (λ more. placed all r more)
  where
    rest : ℕ
    rest = position_or_len (λ (t : Temporary). same_place r.place t.place) all

    by : (b : Bool) → same_place r.place t.place ≡ b → (Has all r → rest < length all) → cond (not b) (1 + rest) 0 < length (t ∷ all)
    by true is on = omega arith
    by false is on = elim has [
      | inl same ↦
          absurd (let f : same_place r.place r.place ≡ false = subst (λ (x : Temporary). same_place r.place x.place ≡ false) same is in let g = same_self r.place in
          true≢false (sym g ∙ f))
      | inr more ↦ (let less = on more in omega (arith, less))
    ]

module _ (t : Typing) (test : ℕ → Bool) (n : ℕ) (all : List Temporary) (held : (x : ℕ) → n ≤ x → x < n + length all → test x ≡ true) where
  abbrev z : Setting
  z = record { typing = t; temporary = numbers_from n all }

  abbrev AllIn : List Temporary → Type 0
  AllIn ts = (r : Temporary) → Has ts r → Has all r

  one_filled : (x : ℕ) (r : Temporary) → x ≡ numbers_from n all r.place → Has all r → test x ≡ true
  one_filled x r is has = (let less = placed all r has in held x (omega (arith, is)) (omega (arith, is, less)))

  point_filled : (at : PointName) (i : Instruction) → Owned z at i → AllIn (filled t at.place i) → FillsOne test i
  point_filled at (Call sub actuals (Some x)) own within = one_filled x (record { place = at.place; of = _ }) own.0 (within _ (inl refl))
  point_filled at (Call sub actuals None) own within = tt
  point_filled at (Evaluate x e (Some op)) own within = one_filled x (record { place = at.place; of = _ }) own.0 (within _ (inl refl))
  point_filled at (Evaluate x e None) own within = tt
  point_filled at i own within = tt

  points_filled : (ps : List NamedPoint) → AllByRecursion (IsOwn z) ps → AllIn (temporaries t ps) → AllByRecursion (IsFilling test) ps
  points_filled [] own within = tt
  points_filled (p ∷ ps) own within = (
    point_filled p.name p.instr own.0 (λ r has. within r (Has-append_left (filled t p.name.place p.instr) (temporaries t ps) r has)),
    points_filled ps own.1 (λ r has. within r (Has-append_right (filled t p.name.place p.instr) (temporaries t ps) r has)),
  )

sub_filled : (s : Typing) (test : ℕ → Bool) (n : ℕ) (sub : TypedSub) → ((x : ℕ) → n ≤ x → x < n + length (sub_temporaries s sub) → test x ≡ true)
    → AllByRecursion (IsFilling test) (named_sub s n (sub_temporaries s sub) sub).points
sub_filled s test n sub held =
    let all : List Temporary = sub_temporaries s sub in
    let z : Setting = record { typing = s; temporary = numbers_from n all } in
    let w = sub_walk s z (unnumbered s) sub in
    points_filled s test n all held (sub_points z sub) w.own (λ r has. subst (λ ts. Has ts r) w.same has)

-- ---- all subprograms

abbrev pub temporaries_of : List NamedSub → List Temporary
temporaries_of subs = flat_map (λ (m : NamedSub). m.temporaries) subs

pub named_filled : (s : Typing) (test : ℕ → Bool) (n : ℕ) (subs : List TypedSub)
    → ((x : ℕ) → n ≤ x → x < n + length (temporaries_of (named_subs s n subs)) → test x ≡ true)
    → (named : NamedSub) → Has (named_subs s n subs) named → AllByRecursion (IsFilling test) named.points
named_filled s test n [] held named has = absurd has
named_filled s test n (sub ∷ rest) held named has =
    let all : List Temporary = sub_temporaries s sub in
    let more : List Temporary = temporaries_of (named_subs s (n + length all) rest) in
    let long = length-append all more in
    elim has [
      | inl is ↦ subst (λ (m : NamedSub). AllByRecursion (IsFilling test) m.points) is (sub_filled s test n sub (λ x low high. held x low (omega (arith, high, long))))
      | inr later ↦ named_filled s test (n + length all) rest (λ x low high. held x (omega (arith, low)) (omega (arith, high, long))) named later
    ]

-- Objects after those of the typed program are temporaries.
pub temporary_there : (os : List Object) (ts : List Temporary) (x : ℕ) → length os ≤ x → x < length os + length ts
    → is_temporary (get_or (os ++ map temporary_object ts) x text_io).kind ≡ true
temporary_there [] [] x low high = absurd (omega (arith, high))
temporary_there [] (t ∷ ts) zero low high = refl
temporary_there [] (t ∷ ts) (suc x) low high = temporary_there [] ts x (omega arith) (omega (arith, high))
temporary_there (o ∷ os) ts zero low high = absurd (omega (arith, low))
temporary_there (o ∷ os) ts (suc x) low high = temporary_there os ts x (omega (arith, low)) (omega (arith, high))

pub object_before : (os more : List Object) (x : ℕ) (fallback : Object) → x < length os → get_or (os ++ more) x fallback ≡ get_or os x fallback
object_before [] more x fallback less = absurd (omega (arith, less))
object_before (o ∷ os) more zero fallback less = refl
object_before (o ∷ os) more (suc x) fallback less = object_before os more x fallback (omega (arith, less))
