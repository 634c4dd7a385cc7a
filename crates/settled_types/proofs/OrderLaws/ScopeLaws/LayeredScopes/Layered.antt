-- At each point of layered code what is in scope is older than what is declared there, or than the
-- object whose scope ends; and the ends of the objects of a scope follow one another.
use Rattle.std.proofs.Common.{◌≡◌, refl, sym, ap, ◌∙◌, subst, ℕ, suc, Bool, true, false, not, ◌&&◌, ◌||◌, ◌==◌, eq-eqb, List, [], ◌∷◌, ◌++◌, length, arith, if◌then◌else◌, append-nil}
use Rattle.std.specs.Prelude.{flat_map, drop, reverse, is_some}
use Rattle.std.specs.List.{AllByRecursion, list_all}
use Rattle.machine.specs.spark_base.Lists.{Has}
use Rattle.machine.specs.spark_base.declared.position.Pos.{Pos}
use Rattle.machine.specs.typed_tree.Trees.{TypedTree, TypedCode}
use Rattle.machine.specs.typed_tree.Programs.{TypedSub}
use Rattle.machine.specs.flow_paths.Instructions.{Instruction, Finish}
use Rattle.machine.specs.flow_paths.Instructions as instruction
use Rattle.machine.specs.flow_paths.Objects.{is_observer, has_scope_end}
use Rattle.machine.specs.flow_paths.Names.{has_call}
use Rattle.machine.specs.flow_paths.Points.{Place, PointName, row_at, NamedPoint, point, entry}
use Rattle.machine.specs.flow_paths.Prep.{Setting, with_held, prep}
use Rattle.machine.specs.flow_paths.Layout.{Around, within_loop, within_block, with_scope, declared, from, ending, ends, closing, uses_both, laid, laid_branches, laid_branch, laid_whens, laid_when}
use Rattle.machine.specs.flow_paths.Laid.{around_body, scope_at_end, procedure_end, function_end, sub_points}
use Rattle.machine.specs.flow_paths.Scopes.{leaves_silently, is_declaration, is_undeclaring, is_settled}
use Rattle.machine.specs.flow_paths.Views.{scope_of}
use Rattle.flow_paths.proofs.ScopesFlow.{drop_held}
use Rattle.flow_paths.proofs.StatementScopes.{after, after_undeclaring, after_more}
use Rattle.settled_types.proofs.TypedCases.{Laws, branch_none, branches_none, laid_none, on_code, on_tree, plain_prep, when_none, whens_none}
use Rattle.settled_types.proofs.OrderLaws.ScopeLaws.Lists.{and_first, and_second, all_both, has_reverse}
use Rattle.settled_types.specs.OrderLaws.ScopeLaws.LayeredScopes.Layered.{are_of_scope, are_apart, is_layered, is_each_layered, is_region, is_body_layered}
use Rattle.settled_types.specs.OrderLaws.ScopeLaws.LayeredScopes.Points.{IsAbove, GoesOn, AreFading}
use Rattle.settled_types.proofs.OrderLaws.ScopeLaws.LayeredScopes.Closing.{all_test, Heads, Closes, closes_silent, closes_block, sorted}

or_second : (a b : Bool) → (a || b) ≡ true → a ≡ false → b ≡ true
or_second a b h none = grind (arith, h, none)

not_both : (a b : Bool) → not (a && b) ≡ true → a ≡ true → b ≡ true → ⊥
not_both a b h e f = (let both : true ≡ false = sym h ∙ ap not (ap (λ z. z && b) e ∙ f) in cc)

-- Instructions that declare no object, assign nothing and end no scope.
abbrev is_quiet : Instruction → Bool
is_quiet (instruction.Declare x v) = false
is_quiet (instruction.Assign target e) = false
is_quiet (instruction.EndScope x) = false
is_quiet _ = true

module _ (s : Setting) (older : ℕ → ℕ → Bool) (fits : Instruction → Bool) where
  abbrev Above : NamedPoint → Type 0
  Above p = IsAbove older fits p

  abbrev pub Good : List NamedPoint → Type 0
  Good ps = AllByRecursion Above ps × AreFading s.typing ps

  goes_more : (n : ℕ) (next : List PointName) (ps qs : List NamedPoint) → GoesOn s.typing n next ps → GoesOn s.typing n next (ps ++ qs)
  goes_more n next [] qs h = absurd h
  goes_more n next (p ∷ ps) qs h = h

  fading_both : (ps qs : List NamedPoint) → AreFading s.typing ps → AreFading s.typing qs → AreFading s.typing (ps ++ qs)
  fading_both [] qs h g = g
  fading_both (p ∷ ps) qs h g =
      ((λ z y e has is same. goes_more (scope_of s.typing z) p.next ps qs (h.0 z y e has is same)), fading_both ps qs h.1 g)

  both : (ps qs : List NamedPoint) → Good ps → Good qs → Good (ps ++ qs)
  both ps qs h g = (all_both Above ps qs h.0 g.0, fading_both ps qs h.1 g.1)

  one_more : (ps : List NamedPoint) (p : NamedPoint) → Good ps → Good (p ∷ []) → Good (ps ++ p ∷ [])
  one_more ps p h g = both ps (p ∷ []) h g

  if_good : (b : Bool) (ps qs : List NamedPoint) → Good ps → Good qs → Good (if b then ps else qs)
  if_good true ps qs h g = h
  if_good false ps qs h g = g

  none : Good []
  none = (tt, tt)

  -- ---- one point

  other_than : (i j : Instruction) → is_quiet i ≡ true → is_quiet j ≡ false → i ≡ j → ⊥
  other_than i j h g e = let both : true ≡ false = sym h ∙ ap is_quiet e ∙ g in cc

  above_quiet : (p : NamedPoint) → is_quiet p.instr ≡ true → Above p
  above_quiet p h = record {
    declares = λ x v e. absurd (other_than p.instr (instruction.Declare x v) h refl e);
    ends = λ x e. absurd (other_than p.instr (instruction.EndScope x) h refl e);
    declared = λ x v e. absurd (other_than p.instr (instruction.Declare x v) h refl e);
    assigned = λ target v e. absurd (other_than p.instr (instruction.Assign target v) h refl e);
  }

  more : (p : NamedPoint) (ps : List NamedPoint) → is_quiet p.instr ≡ true → Good ps → Good (p ∷ ps)
  more p ps h g = (
    (above_quiet p h, g.0),
    ((λ z y e. absurd (other_than p.instr (instruction.EndScope z) h refl e)), g.1),
  )

  quiet : (p : NamedPoint) → is_quiet p.instr ≡ true → Good (p ∷ [])
  quiet p h = more p [] h none

  declares_there : (name : PointName) (p : Pos) (x : ℕ) (v : TypedTree) (at : Place) (scope : List ℕ) (next : List PointName)
      → list_all (older x) scope && fits (instruction.Declare x v) ≡ true → Good (point name p (instruction.Declare x v) (with_held s v at scope) next ∷ [])
  declares_there name p x v at scope next h = (
    (
      record {
        declares = λ z w e y has.
            (let same : x ≡ z = cc in subst (λ u. older u y ≡ true) same
            (all_test (older x) scope y (and_first (list_all (older x) scope) _ h) (subst (λ sc. Has sc y) (drop_held s v at scope) has)));
        ends = λ z e. absurd (let no_end : ⊥ = cc in no_end);
        declared = λ z w e. and_second (list_all (older x) scope) _ h;
        assigned = λ target w e. absurd (let no_end : ⊥ = cc in no_end);
      },
      tt,
    ),
    ((λ z y e. absurd (let no_end : ⊥ = cc in no_end)), tt),
  )

  assigns_there : (name : PointName) (p : Pos) (target e : TypedTree) (scope : List ℕ) (next : List PointName) → fits (instruction.Assign target e) ≡ true
      → Good (point name p (instruction.Assign target e) scope next ∷ [])
  assigns_there name p target e scope next h = (
    (
      record {
        declares = λ z w same. absurd (let no_end : ⊥ = cc in no_end);
        ends = λ z same. absurd (let no_end : ⊥ = cc in no_end);
        declared = λ z w same. absurd (let no_end : ⊥ = cc in no_end);
        assigned = λ other w same. h;
      },
      tt,
    ),
    ((λ z y same. absurd (let no_end : ⊥ = cc in no_end)), tt),
  )

  -- ---- before a use

  two : (x y : Place) (a b : TypedTree) (scope inner : List ℕ) (k l : List PointName)
      → ((scope : List ℕ) (k : List PointName) → Good (prep s a x scope k)) → ((scope : List ℕ) (k : List PointName) → Good (prep s b y scope k))
      → Good (prep s a x scope k ++ prep s b y inner l)
  two x y a b scope inner k l first second = both (prep s a x scope k) (prep s b y inner l) (first scope k) (second inner l)

  prep_good : (e : TypedTree) (at : Place) (scope : List ℕ) (k : List PointName) → Good (prep s e at scope k)
  unfolding prep
  prep_good = on_tree {Of = λ e. (at : Place) → (scope : List ℕ) → (k : List PointName) → Good (prep s e at scope k)} (record {
    call = λ p sub actuals by_actuals at scope k.
        one_more (prep s actuals (0 ∷ at) scope (row_at at 0 ∷ [])) _ (by_actuals (0 ∷ at) scope (row_at at 0 ∷ [])) (quiet _ refl);
    short = λ op p a q b on_a by_b at scope k.
        let right : List NamedPoint = prep s b (1 ∷ at) (s.temporary at ∷ scope) (row_at at 1 ∷ []) in
        if_good (has_call b) _ _
        (both (prep s a (0 ∷ at) scope (row_at at 0 ∷ [])) _ (on_a (0 ∷ at) scope (row_at at 0 ∷ []))
        (more _ _ refl (one_more right _ (by_b (1 ∷ at) (s.temporary at ∷ scope) (row_at at 1 ∷ [])) (quiet _ refl))))
        (two (0 ∷ at) (1 ∷ at) a b scope _ _ k (on_a (0 ∷ at)) (by_b (1 ∷ at)));
    binary = λ op a b on_a by_b at scope k.
        two (0 ∷ at) (1 ∷ at) a b scope _ _ k (on_a (0 ∷ at)) (by_b (1 ∷ at));
    list = λ a b on_a by_b at scope k.
        two (0 ∷ at) (1 ∷ at) a b scope _ _ k (on_a (0 ∷ at)) (by_b (1 ∷ at));
    element = λ a low high b on_a by_b at scope k.
        two (0 ∷ at) (1 ∷ at) a b scope _ _ k (on_a (0 ∷ at)) (by_b (1 ∷ at));
    name = λ p x e t by_e at scope k.
        by_e (0 ∷ at) scope k;
    component = λ i e by_e at scope k.
        by_e (0 ∷ at) scope k;
    designated = λ e by_e at scope k.
        by_e (0 ∷ at) scope k;
    image = λ t e by_e at scope k.
        by_e (0 ∷ at) scope k;
    parens = λ e by_e at scope k.
        by_e (0 ∷ at) scope k;
    unary = λ op e by_e at scope k.
        by_e (0 ∷ at) scope k;
    is_null = λ equal e by_e at scope k.
        by_e (0 ∷ at) scope k;
    aggregate = λ t e by_e at scope k.
        by_e (0 ∷ at) scope k;
    alike = λ t e by_e at scope k.
        by_e (0 ∷ at) scope k;
    allocator = λ t e by_e at scope k.
        by_e (0 ∷ at) scope k;
    others = λ e plain at scope k. rw (plain_prep s e at scope k plain) (none);
  })

  used : (at : Place) (e : TypedTree) (scope : List ℕ) (q : NamedPoint) → Good (q ∷ []) → Good (prep s e (0 ∷ at) scope (row_at at 0 ∷ []) ++ q ∷ [])
  used at e scope q h = one_more (prep s e (0 ∷ at) scope (row_at at 0 ∷ [])) q (prep_good e (0 ∷ at) scope (row_at at 0 ∷ [])) h

  paired : (at x y : Place) (a b : TypedTree) (scope inner : List ℕ) (q : NamedPoint) → Good (q ∷ [])
      → Good ((prep s a x scope (entry (prep s b y inner (row_at at 0 ∷ [])) (row_at at 0 ∷ [])) ++ prep s b y inner (row_at at 0 ∷ [])) ++ q ∷ [])
  paired at x y a b scope inner q h = one_more _ q (two x y a b scope inner _ _ (prep_good a x) (prep_good b y)) h

  -- ---- ends

  heads_on : (at : Place) (row : ℕ) (p : Pos) (n : ℕ) (xs scope : List ℕ) (k : List PointName) → Heads s.typing older fits xs n
      → GoesOn s.typing n (entry (ends at row p xs scope k) k) (ends at row p xs scope k)
  heads_on at row p n [] scope k h = absurd h
  heads_on at row p n (x ∷ xs) scope k h = (x, refl, h, refl)

  left_is : (x : ℕ) (scope rest : List ℕ) → from x scope ≡ x ∷ rest → drop 1 (from x scope) ≡ rest
  left_is x scope rest is = ap (λ sc. drop 1 sc) is

  ends_good : (at : Place) (row : ℕ) (p : Pos) (xs scope : List ℕ) (k : List PointName) → Closes s.typing older fits xs scope → Good (ends at row p xs scope k)
  ends_good at row p [] scope k h = none
  ends_good at row p (x ∷ xs) scope k h =
      let left : List ℕ = drop 1 (from x scope) in
      let same : left ≡ h.0 = left_is x scope h.0 h.2 in
      let behind = ends_good at (suc row) p xs left k (subst (Closes s.typing older fits xs) (sym same) h.5) in (
        (
          record {
            declares = λ z v e. absurd (let no_end : ⊥ = cc in no_end);
            declared = λ z v e. absurd (let no_end : ⊥ = cc in no_end);
            assigned = λ target v e. absurd (let no_end : ⊥ = cc in no_end);
            ends = λ z e y has. (let one : x ≡ z = cc in subst (λ u. older u y ≡ true) one (h.3 y (subst (λ sc. Has sc y) same has)));
          },
          behind.0,
        ),
        (
          λ z y e has is alike.
              let one : x ≡ z = cc in
              subst (λ u. GoesOn s.typing (scope_of s.typing u) (entry (ends at (suc row) p xs left k) k) (ends at (suc row) p xs left k)) one
              (heads_on at (suc row) p (scope_of s.typing x) xs left k
              (h.4 y (subst (λ sc. Has sc y) same has) is (alike ∙ ap (scope_of s.typing) (sym one)))),
          behind.1,
        ),
      )

  last_good : (at : Place) (row : ℕ) (p q : Pos) (xs scope formals : List ℕ) (finish : PointName) → Closes s.typing older fits xs scope
      → Good (ends at row p xs scope (finish ∷ []) ++ point finish q Finish formals [] ∷ [])
  last_good at row p q xs scope formals finish h =
      one_more (ends at row p xs scope (finish ∷ [])) (point finish q Finish formals []) (ends_good at row p xs scope (finish ∷ []) h) (quiet _ refl)

  -- ---- statements

  -- The scopes that an exit and a return end.
  abbrev Stands : Around → List ℕ → Type 0
  Stands w scope = Closes s.typing older fits w.in_loop scope × Closes s.typing older fits w.in_all scope

  abbrev Layered : List ℕ → TypedCode → Type 0
  Layered scope c = is_layered s.typing older fits scope c ≡ true

  no_more : (xs : List ℕ) → xs ++ [] ≡ xs
  no_more xs = append-nil xs

  not_and : (a b : Bool) → not a && b ≡ true → a ≡ false
  not_and true b e = sym e
  not_and false b e = refl

  -- What a block or a body declares ends before what is around it.
  region_closes : (n : ℕ) (stmts : TypedCode) (xs scope : List ℕ) → is_region s.typing older fits n scope stmts ≡ true → Closes s.typing older fits xs scope
      → Closes s.typing older fits (ending s stmts ++ xs) (after stmts scope)
  region_closes n stmts xs scope h closes =
      let more : are_apart s.typing n scope && is_layered s.typing older fits scope stmts ≡ true = and_second (are_of_scope s.typing n (declared stmts)) _ h in
      closes_block s.typing older fits n (reverse (declared stmts)) xs scope (sorted s.typing older fits stmts scope (and_second (are_apart s.typing n scope) _ more))
      (λ x has. eqb x n (all_test (λ y. scope_of s.typing y == n) (declared stmts) x (and_first (are_of_scope s.typing n (declared stmts)) _ h)
      (has_reverse (declared stmts) x has)))
      (λ y has is same. not_both (is_observer s.typing y) (scope_of s.typing y == n)
      (all_test (λ z. not (is_observer s.typing z && (scope_of s.typing z == n))) scope y (and_first (are_apart s.typing n scope) _ more) has)
      is (eq-eqb (scope_of s.typing y) n same))
      closes
    where
      eqb : (x n : ℕ) → (scope_of s.typing x == n) ≡ true → scope_of s.typing x ≡ n
      eqb x n e = grind (arith, e)

  region_layered : (n : ℕ) (stmts : TypedCode) (scope : List ℕ) → is_region s.typing older fits n scope stmts ≡ true → Layered scope stmts
  region_layered n stmts scope h = and_second (are_apart s.typing n scope) _ (and_second (are_of_scope s.typing n (declared stmts)) _ h)

  laid_good_cases : Laws (λ c. (at : Place) → (w : Around) → (k : List PointName) → is_settled s.typing c ≡ true → Layered w.scope c → (is_declaration c ≡ false → Stands w (after c w.scope)) → Good (laid s c at w k))
      (λ c. (at : Place) → (w : Around) → (k : List PointName) → (otherwise : List PointName) → is_settled s.typing c ≡ true → is_each_layered s.typing older fits w.scope c ≡ true → Stands w w.scope → Good (laid_branches s c at w k otherwise))
      (λ c. (at : Place) → (w : Around) → (k : List PointName) → (otherwise : List PointName) → is_settled s.typing c ≡ true → Layered w.scope c → Stands w w.scope → Good (laid_branch s c at w k otherwise))
      (λ c. (at : Place) → (w : Around) → (k : List PointName) → is_settled s.typing c ≡ true → is_each_layered s.typing older fits w.scope c ≡ true → Stands w w.scope → Good (flat_map (λ ps. ps) (laid_whens s c at w k)))
      (λ c. (at : Place) → (w : Around) → (k : List PointName) → is_settled s.typing c ≡ true → Layered w.scope c → Stands w w.scope → Good (laid_when s c at w k))
  unfolding laid is_layered is_settled is_undeclaring declared
  laid_good_cases = record {
    list = λ a rest by_a by_rest at w k h f st.
        let first : is_settled s.typing a ≡ true = and_first (is_settled s.typing a) _ h in
        let more : (is_settled s.typing rest && (is_declaration a || is_undeclaring rest)) ≡ true = and_second (is_settled s.typing a) _ h in
        let second : is_settled s.typing rest ≡ true = and_first (is_settled s.typing rest) _ more in
        let behind : List NamedPoint = laid s rest (1 ∷ at) (with_scope (declared a) w) k in
        let stands : Stands w (after rest (after a w.scope)) = subst (λ sc. Stands w sc) (after_more a rest w.scope) (st refl) in
        let stands_a : is_declaration a ≡ false → Stands w (after a w.scope) =
        (λ none. subst (λ sc. Stands w sc)
        (after_undeclaring rest (after a w.scope) (or_second (is_declaration a) (is_undeclaring rest) (and_second (is_settled s.typing rest) _ more) none)) stands) in
        both (laid s a (0 ∷ at) w (entry behind k)) behind
        (by_a (0 ∷ at) w (entry behind k) first (and_first (is_layered s.typing older fits w.scope a) _ f) stands_a)
        (by_rest (1 ∷ at) (with_scope (declared a) w) k second (and_second (is_layered s.typing older fits w.scope a) _ f) (λ none. stands));
    declare = λ p x v at w k h f st.
        used at v w.scope _ (declares_there (row_at at 0) p x v (0 ∷ at) w.scope k f);
    assign = λ p target e at w k h f st.
        paired at (1 ∷ at) (0 ∷ at) e target w.scope (with_held s e (1 ∷ at) w.scope) _ (assigns_there (row_at at 0) p target e _ k f);
    skip = λ p at w k h f st.
        quiet _ refl;
    call = λ p sub actuals at w k h f st.
        used at actuals w.scope _ (quiet _ refl);
    output = λ p text line at w k h f st.
        used at text w.scope _ (quiet _ refl);
    input = λ p target at w k h f st.
        used at target w.scope _ (quiet _ refl);
    release = λ p m at w k h f st.
        used at m w.scope _ (quiet _ refl);
    choice = λ branches otherwise by_branches by_otherwise at w k h f st.
        let first : is_settled s.typing branches ≡ true = and_first (is_settled s.typing branches) _ h in
        let more : (is_settled s.typing otherwise && is_undeclaring otherwise) ≡ true = and_second (is_settled s.typing branches) _ h in
        let none : after otherwise w.scope ≡ w.scope = after_undeclaring otherwise w.scope (and_second (is_settled s.typing otherwise) _ more) in
        let behind : List NamedPoint = laid s otherwise (1 ∷ at) w k in
        both (laid_branches s branches (0 ∷ at) w k (entry behind k)) behind
        (by_branches (0 ∷ at) w k (entry behind k) first (and_first (is_each_layered s.typing older fits w.scope branches) _ f) (st refl))
        (by_otherwise (1 ∷ at) w k (and_first (is_settled s.typing otherwise) _ more) (and_second (is_each_layered s.typing older fits w.scope branches) _ f)
        (λ any. subst (λ sc. Stands w sc) (sym none) (st refl)));
    cases = λ p e whens by_whens at w k h f st.
        both _ (flat_map (λ ps. ps) (laid_whens s whens (1 ∷ at) w k)) (used at e w.scope _ (quiet _ refl)) (by_whens (1 ∷ at) w k h f (st refl));
    loop = λ stmts by_stmts at w k h f st.
        let none : after stmts w.scope ≡ w.scope = after_undeclaring stmts w.scope (and_second (is_settled s.typing stmts) _ h) in
        by_stmts (0 ∷ at) (within_loop k w) _ (and_first (is_settled s.typing stmts) _ h) f
        (λ any. subst (λ sc. Stands (within_loop k w) sc) (sym none) (tt, (st refl).1));
    while = λ p e stmts by_stmts at w k h f st.
        let none : after stmts w.scope ≡ w.scope = after_undeclaring stmts w.scope (and_second (is_settled s.typing stmts) _ h) in
        let turn : List PointName = entry (prep s e (0 ∷ at) w.scope (row_at at 0 ∷ [])) (row_at at 0 ∷ []) in
        both _ (laid s stmts (1 ∷ at) (within_loop k w) turn) (used at e w.scope _ (quiet _ refl))
        (by_stmts (1 ∷ at) (within_loop k w) turn (and_first (is_settled s.typing stmts) _ h) f
        (λ any. subst (λ sc. Stands (within_loop k w) sc) (sym none) (tt, (st refl).1)));
    for = λ p x reversed low high stmts by_stmts at w k h f st.
        let silent : leaves_silently s.typing x ≡ true = and_first (leaves_silently s.typing x) _ h in
        let more : (is_settled s.typing stmts && is_undeclaring stmts) ≡ true = and_second (leaves_silently s.typing x) _ h in
        let none : after stmts (x ∷ w.scope) ≡ x ∷ w.scope = after_undeclaring stmts (x ∷ w.scope) (and_second (is_settled s.typing stmts) _ more) in
        let v : Around = with_scope (x ∷ []) (within_loop k w) in
        let next : PointName = row_at at 1 in
        let around : Stands v (x ∷ w.scope) =
        (tt, closes_silent s.typing older fits x w.in_all w.scope (not_and (has_scope_end s.typing x) _ silent) (st refl).1) in
        both (uses_both s at p low high (instruction.Start x reversed low high) w (next ∷ [])) _
        (paired at (0 ∷ at) (1 ∷ at) low high w.scope (with_held s low (0 ∷ at) w.scope) _ (quiet _ refl))
        (both (_ ∷ []) _ (quiet _ refl)
        (by_stmts (2 ∷ at) v (next ∷ []) (and_first (is_settled s.typing stmts) _ more) (and_second (list_all (older x) w.scope) _ f)
        (λ any. subst (λ sc. Stands v sc) (sym none) around)));
    exit = λ p e at w k h f st.
        both _ (ends at 1 p w.in_loop w.scope w.leave) (used at e w.scope _ (quiet _ refl)) (ends_good at 1 p w.in_loop w.scope w.leave (st refl).0);
    return = λ p v at w k h f st.
        both _ (closing at 1 p w) (used at v w.scope _ (quiet _ refl))
        (last_good at 1 p p w.in_all w.scope w.formals (row_at at (suc (length w.in_all))) (st refl).1);
    block = λ n stmts end by_stmts at w k h f st.
        let v : Around = within_block (ending s stmts) w in
        let out : List NamedPoint = ends at 0 end (ending s stmts) (reverse (declared stmts) ++ w.scope) k in
        let own : Closes s.typing older fits (ending s stmts ++ []) (after stmts w.scope) = region_closes n stmts [] w.scope f tt in
        both (laid s stmts (0 ∷ at) v (entry out k)) out
        (by_stmts (0 ∷ at) v (entry out k) h (region_layered n stmts w.scope f)
        (λ any. (region_closes n stmts w.in_loop w.scope f (st refl).0, region_closes n stmts w.in_all w.scope f (st refl).1)))
        (ends_good at 0 end (ending s stmts) (after stmts w.scope) k
        (subst (λ xs. Closes s.typing older fits xs (after stmts w.scope)) (no_more (ending s stmts)) own));
    others = λ c other at w k h f st. rw (laid_none s c at w k other) (none);
    branches = λ a rest by_a by_rest at w k otherwise h f st.
        let behind : List NamedPoint = laid_branches s rest (1 ∷ at) w k otherwise in
        both (laid_branch s a (0 ∷ at) w k (entry behind otherwise)) behind
        (by_a (0 ∷ at) w k (entry behind otherwise) (and_first (is_settled s.typing a) _ h) (and_first (is_layered s.typing older fits w.scope a) _ f) st)
        (by_rest (1 ∷ at) w k otherwise (and_first (is_settled s.typing rest) _ (and_second (is_settled s.typing a) _ h))
        (and_second (is_layered s.typing older fits w.scope a) _ f) st);
    no_branches = λ c other at w k otherwise h f st. rw (branches_none s c at w k otherwise other) (none);
    branch = λ p e stmts by_stmts at w k otherwise h f st.
        let none : after stmts w.scope ≡ w.scope = after_undeclaring stmts w.scope (and_second (is_settled s.typing stmts) _ h) in
        both _ (laid s stmts (1 ∷ at) w k) (used at e w.scope _ (quiet _ refl))
        (by_stmts (1 ∷ at) w k (and_first (is_settled s.typing stmts) _ h) f (λ any. subst (λ sc. Stands w sc) (sym none) st));
    no_branch = λ c other at w k otherwise h f st. rw (branch_none s c at w k otherwise other) (none);
    alternatives = λ a rest by_a by_rest at w k h f st.
        both (laid_when s a (0 ∷ at) w k) (flat_map (λ ps. ps) (laid_whens s rest (1 ∷ at) w k))
        (by_a (0 ∷ at) w k (and_first (is_settled s.typing a) _ h) (and_first (is_layered s.typing older fits w.scope a) _ f) st)
        (by_rest (1 ∷ at) w k (and_first (is_settled s.typing rest) _ (and_second (is_settled s.typing a) _ h))
        (and_second (is_layered s.typing older fits w.scope a) _ f) st);
    no_alternatives = λ c other at w k h f st. rw (whens_none s c at w k other) (none);
    alternative = λ choices stmts by_stmts at w k h f st.
        let none : after stmts w.scope ≡ w.scope = after_undeclaring stmts w.scope (and_second (is_settled s.typing stmts) _ h) in
        by_stmts (1 ∷ at) w k (and_first (is_settled s.typing stmts) _ h) f (λ any. subst (λ sc. Stands w sc) (sym none) st);
    no_alternative = λ c other at w k h f st. rw (when_none s c at w k other) (none);
  }

  laid_good : (c : TypedCode) (at : Place) (w : Around) (k : List PointName) → is_settled s.typing c ≡ true → Layered w.scope c
      → (is_declaration c ≡ false → Stands w (after c w.scope)) → Good (laid s c at w k)
  laid_good = on_code laid_good_cases

  -- ---- subprograms

  end_good : (sub : TypedSub) (b : Bool) → Closes s.typing older fits (ending s sub.body) (scope_at_end sub)
      → Good (if b then function_end sub else procedure_end s sub)
  end_good sub true closes = quiet _ refl
  end_good sub false closes =
      last_good [] 0 sub.end sub.end (ending s sub.body) (scope_at_end sub) (reverse sub.formals) (row_at [] (length (ending s sub.body))) closes

  pub sub_good : (n : ℕ) (sub : TypedSub) → is_settled s.typing sub.body ≡ true → is_body_layered s.typing older fits n sub ≡ true → Good (sub_points s sub)
  sub_good n sub h f =
      let end : List NamedPoint = if is_some sub.result then function_end sub else procedure_end s sub in
      let closes : Closes s.typing older fits (ending s sub.body) (scope_at_end sub) =
      subst (λ xs. Closes s.typing older fits xs (scope_at_end sub)) (no_more (ending s sub.body)) (region_closes n sub.body [] (reverse sub.formals) f tt) in
      both (laid s sub.body (0 ∷ []) (around_body s sub) (entry end [])) end
      (laid_good sub.body (0 ∷ []) (around_body s sub) (entry end []) h (region_layered n sub.body (reverse sub.formals) f) (λ any. (tt, closes)))
      (end_good sub (is_some sub.result) closes)
