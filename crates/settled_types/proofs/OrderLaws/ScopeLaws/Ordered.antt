-- An object isn't in scope where it is declared, and is the last one where its scope ends.
use Rattle.std.proofs.Common.{◌≡◌, refl, sym, ap, ◌∙◌, subst, inl, inr, ℕ, suc, Bool, true, false, ◌&&◌, ◌||◌, eq-eqb, List, [], ◌∷◌, ◌++◌, length, arith, if◌then◌else◌}
use Rattle.std.specs.Prelude.{flat_map, drop, reverse, is_some}
use Rattle.std.specs.List.{AllByRecursion}
use Rattle.std.proofs.lemmas.Bool.{false≢true, true≢false}
use Rattle.machine.specs.spark_base.Lists.{Has}
use Rattle.spark_base.proofs.Lists.{Has-append_left, Has-append_right, Has-append_cases, Has-filter}
use Rattle.machine.specs.spark_base.declared.position.Pos.{Pos}
use Rattle.machine.specs.typed_tree.Trees.{TypedTree, Name, Component, Designated, Element, Image, Parens, Unary, Binary, Short, IsNull, Aggregate, Alike, New, TypedCode, Declare, Assign, Skip, Output, Input, Release}
use Rattle.machine.specs.typed_tree.Trees as typed
use Rattle.machine.specs.typed_tree.Programs.{TypedSub}
use Rattle.machine.specs.flow_paths.Instructions.{Instruction, Finish, Evaluate}
use Rattle.machine.specs.flow_paths.Instructions as instruction
use Rattle.machine.specs.flow_paths.Objects.{has_scope_end}
use Rattle.machine.specs.flow_paths.Names.{has_call}
use Rattle.machine.specs.flow_paths.Points.{Place, PointName, row_at, NamedPoint, point, entry}
use Rattle.machine.specs.flow_paths.Prep.{Setting, held, with_held, prep}
use Rattle.machine.specs.flow_paths.Layout.{Around, within_loop, within_block, with_scope, declared, from, ending, ends, closing, uses_both, laid, laid_branches, laid_branch, laid_whens, laid_when}
use Rattle.machine.specs.flow_paths.Laid.{around_body, scope_at_end, procedure_end, function_end, body_points, sub_points, elaboration_points, declared_within}
use Rattle.machine.specs.flow_paths.Scopes.{is_ready, is_last, leaves_silently, is_declaration, is_undeclaring, is_settled}
use Rattle.flow_paths.proofs.Unwinding.{Unwinds, Loose, unwinds_silent}
use Rattle.flow_paths.proofs.StatementScopes.{after, after_undeclaring, after_more, ended}
use Rattle.settled_types.proofs.TypedCases.{Laws, branch_none, branches_none, laid_none, on_code, on_tree, plain_prep, when_none, whens_none}
use Rattle.settled_types.specs.OrderLaws.ScopeLaws.Code.{Once, objects_of}
use Rattle.settled_types.specs.OrderLaws.ScopeLaws.Order.{IsOrdered}
use Rattle.settled_types.proofs.OrderLaws.ScopeLaws.Lists.{and_first, and_second, all_both, all_one, all_if, outside, has_reverse, once_left, once_right, once_apart}
use Rattle.settled_types.specs.OrderLaws.ScopeLaws.Returning.{is_finish}

-- ---- what is declared

pub declared_within_has : (c : TypedCode) (x : ℕ) → Has (declared c) x → Has (declared_within c) x
unfolding declared declared_within
declared_within_has (Declare p y v) x has = has
declared_within_has (typed.More a rest) x has = elim (Has-append_cases (declared a) (declared rest) x has) [
  | inl here ↦ Has-append_left (declared_within a) (declared_within rest) x (declared_within_has a x here)
  | inr later ↦ Has-append_right (declared_within a) (declared_within rest) x (declared_within_has rest x later)
]
declared_within_has _ x has = absurd has

-- What is held is a temporary.
abbrev pub IsTemporary : Setting → ℕ → Type 0
IsTemporary s x = (at : Place) × (s.temporary at ≡ x)

held_both : (s : Setting) (xs ys : List ℕ) (x : ℕ) → (Has xs x → IsTemporary s x) → (Has ys x → IsTemporary s x) → Has (xs ++ ys) x → IsTemporary s x
held_both s xs ys x h g has = elim (Has-append_cases xs ys x has) [ inl a ↦ h a | inr b ↦ g b ]

held_one : (s : Setting) (at : Place) (x : ℕ) → Has (s.temporary at ∷ []) x → IsTemporary s x
held_one s at x has = elim has [ inl e ↦ (at, e) | inr none ↦ absurd none ]

held_if : (s : Setting) (b : Bool) (xs ys : List ℕ) (x : ℕ) → (Has xs x → IsTemporary s x) → (Has ys x → IsTemporary s x) → Has (if b then xs else ys) x → IsTemporary s x
held_if s true xs ys x h g has = h has
held_if s false xs ys x h g has = g has

pub held_temporary : (s : Setting) (e : TypedTree) (at : Place) (x : ℕ) → Has (held s e at) x → IsTemporary s x
unfolding held
held_temporary s (typed.Call p sub actuals) at x has = held_one s at x has
held_temporary s (Short op p a q b) at x has =
    held_if s (has_call b) (s.temporary at ∷ []) (held s b (1 ∷ at) ++ held s a (0 ∷ at)) x (held_one s at x)
    (held_both s (held s b (1 ∷ at)) (held s a (0 ∷ at)) x (held_temporary s b (1 ∷ at) x) (held_temporary s a (0 ∷ at) x)) has
held_temporary s (Name p y e t) at x has = held_temporary s e (0 ∷ at) x has
held_temporary s (Component i e) at x has = held_temporary s e (0 ∷ at) x has
held_temporary s (Designated e) at x has = held_temporary s e (0 ∷ at) x has
held_temporary s (Element a low high b) at x has =
    held_both s (held s b (1 ∷ at)) (held s a (0 ∷ at)) x (held_temporary s b (1 ∷ at) x) (held_temporary s a (0 ∷ at) x) has
held_temporary s (Image t e) at x has = held_temporary s e (0 ∷ at) x has
held_temporary s (Parens e) at x has = held_temporary s e (0 ∷ at) x has
held_temporary s (Unary op e) at x has = held_temporary s e (0 ∷ at) x has
held_temporary s (Binary op a b) at x has =
    held_both s (held s b (1 ∷ at)) (held s a (0 ∷ at)) x (held_temporary s b (1 ∷ at) x) (held_temporary s a (0 ∷ at) x) has
held_temporary s (IsNull equal e) at x has = held_temporary s e (0 ∷ at) x has
held_temporary s (Aggregate t e) at x has = held_temporary s e (0 ∷ at) x has
held_temporary s (Alike t e) at x has = held_temporary s e (0 ∷ at) x has
held_temporary s (New t e) at x has = held_temporary s e (0 ∷ at) x has
held_temporary s (typed.More a b) at x has =
    held_both s (held s b (1 ∷ at)) (held s a (0 ∷ at)) x (held_temporary s b (1 ∷ at) x) (held_temporary s a (0 ∷ at) x) has
held_temporary s _ at x has = absurd has

or_second : (a b : Bool) → (a || b) ≡ true → a ≡ false → b ≡ true
or_second a b h none = grind (arith, h, none)

abbrev declares_one : Instruction → Bool
declares_one (instruction.Declare x v) = true
declares_one i = false

abbrev ends_one : Instruction → Bool
ends_one (instruction.EndScope x) = true
ends_one i = false

abbrev object_in : Instruction → ℕ
object_in (instruction.Declare x v) = x
object_in (instruction.EndScope x) = x
object_in i = 0

-- Instructions that neither declare an object nor end its scope, nor the call.
abbrev is_quiet : Instruction → Bool
is_quiet (instruction.Declare x v) = false
is_quiet (instruction.Start x reversed low high) = false
is_quiet (instruction.Next x reversed low high) = false
is_quiet (instruction.EndScope x) = false
is_quiet Finish = false
is_quiet _ = true

abbrev Any : List ℕ → Type 0
Any scope = Unit {0}

-- ---- points

module _ (s : Setting) (is : ℕ → Type 0) (apart : (x : ℕ) → is x → IsTemporary s x → ⊥) where
  abbrev Ordered : List ℕ → List NamedPoint → Type 0
  Ordered formals ps = AllByRecursion (IsOrdered is formals) ps

  -- Objects that aren't in scope, each with a number of its own.
  abbrev Fresh : List ℕ → List ℕ → Type 0
  Fresh xs scope = Once xs × ((x : ℕ) → Has xs x → is x × (Has scope x → ⊥))

  abbrev Each : List ℕ → Type 0
  Each xs = (x : ℕ) → Has xs x → is x

  fresh_left : (xs ys scope : List ℕ) → Fresh (xs ++ ys) scope → Fresh xs scope
  fresh_left xs ys scope f = (once_left xs ys f.0, λ x has. f.1 x (Has-append_left xs ys x has))

  fresh_right : (xs ys scope : List ℕ) → Fresh (xs ++ ys) scope → Fresh ys scope
  fresh_right xs ys scope f = (once_right xs ys f.0, λ x has. f.1 x (Has-append_right xs ys x has))

  -- after a part that declares some of them
  fresh_behind : (xs ys ds scope : List ℕ) → ((x : ℕ) → Has ds x → Has xs x) → Fresh (xs ++ ys) scope → Fresh ys (reverse ds ++ scope)
  fresh_behind xs ys ds scope part f = (once_right xs ys f.0, each)
    where
      old_or_new : (x : ℕ) → Has ys x → Has (reverse ds ++ scope) x → ⊥
      old_or_new x has there = elim (Has-append_cases (reverse ds) scope x there) [
        | inl now ↦ once_apart xs ys x f.0 (part x (has_reverse ds x now)) has
        | inr old ↦ (f.1 x (Has-append_right xs ys x has)).1 old
      ]

      each : (x : ℕ) → Has ys x → is x × (Has (reverse ds ++ scope) x → ⊥)
      each x has = ((f.1 x (Has-append_right xs ys x has)).0, old_or_new x has)

  fresh_inner : (y : ℕ) (ys scope : List ℕ) → Fresh (y ∷ ys) scope → Fresh ys (y ∷ scope)
  fresh_inner y ys scope f = (f.0.1, each)
    where
      old_or_new : (x : ℕ) → Has ys x → Has (y ∷ scope) x → ⊥
      old_or_new x has (inl e) = f.0.0 (subst (Has ys) (sym e) has)
      old_or_new x has (inr old) = (f.1 x (inr has)).1 old

      each : (x : ℕ) → Has ys x → is x × (Has (y ∷ scope) x → ⊥)
      each x has = ((f.1 x (inr has)).0, old_or_new x has)

  -- temporaries are no such objects
  new_there : (e : TypedTree) (at : Place) (x : ℕ) (scope : List ℕ) → is x → (Has scope x → ⊥) → Has (with_held s e at scope) x → ⊥
  new_there e at x scope what none has = elim (Has-append_cases (held s e at) scope x has) [
    | inl waits ↦ apart x what (held_temporary s e at x waits)
    | inr there ↦ none there
  ]

  -- ---- one point

  quiet_ready : (p : NamedPoint) (i : Instruction) → is_quiet i ≡ true → is_ready p i ≡ true
  quiet_ready p (instruction.Declare x v) h = absurd (false≢true h)
  quiet_ready p (instruction.Start x reversed low high) h = absurd (false≢true h)
  quiet_ready p (instruction.Next x reversed low high) h = absurd (false≢true h)
  quiet_ready p (instruction.EndScope x) h = absurd (false≢true h)
  quiet_ready p instruction.Skip h = refl
  quiet_ready p (instruction.Assign target e) h = refl
  quiet_ready p (instruction.Call sub actuals result) h = refl
  quiet_ready p (instruction.Output text line) h = refl
  quiet_ready p (instruction.Input target) h = refl
  quiet_ready p (instruction.Release e) h = refl
  quiet_ready p (instruction.Test e) h = refl
  quiet_ready p (instruction.Choose e choices) h = refl
  quiet_ready p (Evaluate t e left) h = refl
  quiet_ready p (instruction.LeaveLoop e) h = refl
  quiet_ready p (instruction.Hold v) h = refl
  quiet_ready p Finish h = refl
  quiet_ready p instruction.Fall h = refl

  other_than : (i j : Instruction) → is_quiet i ≡ true → is_quiet j ≡ false → i ≡ j → ⊥
  other_than i j h g e = true≢false (sym h ∙ ap is_quiet e ∙ g)

  quiet : (formals : List ℕ) (p : NamedPoint) → is_quiet p.instr ≡ true → IsOrdered is formals p
  quiet formals p h = record {
    ready = quiet_ready p p.instr h;
    declares = λ x v e. absurd (other_than p.instr (instruction.Declare x v) h refl e);
    ends = λ x e. absurd (other_than p.instr (instruction.EndScope x) h refl e);
    finishes = λ e. absurd (other_than p.instr Finish h refl e);
  }

  declares_there : (formals : List ℕ) (name : PointName) (p : Pos) (x : ℕ) (v : TypedTree) (scope : List ℕ) (next : List PointName) → is x
      → (Has scope x → ⊥) → IsOrdered is formals (point name p (instruction.Declare x v) scope next)
  declares_there formals name p x v scope next what none = record {
    ready = outside x scope none;
    declares = λ y w e. subst is (ap object_in e) what;
    ends = λ y e. absurd (false≢true (ap ends_one e));
    finishes = λ e. absurd (false≢true (ap is_finish e));
  }

  starts_there : (formals : List ℕ) (name : PointName) (p : Pos) (x : ℕ) (reversed : Bool) (low high : TypedTree) (scope : List ℕ) (next : List PointName)
      → (Has scope x → ⊥) → IsOrdered is formals (point name p (instruction.Start x reversed low high) scope next)
  starts_there formals name p x reversed low high scope next none = record {
    ready = outside x scope none;
    declares = λ y w e. absurd (false≢true (ap declares_one e));
    ends = λ y e. absurd (false≢true (ap ends_one e));
    finishes = λ e. absurd (false≢true (ap is_finish e));
  }

  next_there : (formals : List ℕ) (name : PointName) (p : Pos) (x : ℕ) (reversed : Bool) (low high : TypedTree) (scope : List ℕ) (next : List PointName)
      → IsOrdered is formals (point name p (instruction.Next x reversed low high) (x ∷ scope) next)
  next_there formals name p x reversed low high scope next = record {
    ready = eq-eqb x x refl;
    declares = λ y w e. absurd (false≢true (ap declares_one e));
    ends = λ y e. absurd (false≢true (ap ends_one e));
    finishes = λ e. absurd (false≢true (ap is_finish e));
  }

  ends_there : (formals : List ℕ) (name : PointName) (p : Pos) (x : ℕ) (scope rest : List ℕ) (next : List PointName) → is x → scope ≡ x ∷ rest
      → IsOrdered is formals (point name p (instruction.EndScope x) scope next)
  ends_there formals name p x scope rest next what last = record {
    ready = ap (is_last x) last ∙ eq-eqb x x refl;
    declares = λ y w e. absurd (false≢true (ap declares_one e));
    ends = λ y e. subst is (ap object_in e) what;
    finishes = λ e. absurd (false≢true (ap is_finish e));
  }

  finishes_there : (formals : List ℕ) (name : PointName) (p : Pos) → IsOrdered is formals (point name p Finish formals [])
  finishes_there formals name p = record {
    ready = refl;
    declares = λ y w e. absurd (false≢true (ap declares_one e));
    ends = λ y e. absurd (false≢true (ap ends_one e));
    finishes = λ e. refl;
  }

  -- ---- before a use

  both : (formals : List ℕ) (ps qs : List NamedPoint) → Ordered formals ps → Ordered formals qs → Ordered formals (ps ++ qs)
  both formals ps qs h g = all_both (IsOrdered is formals) ps qs h g

  one_more : (formals : List ℕ) (ps : List NamedPoint) (p : NamedPoint) → Ordered formals ps → IsOrdered is formals p → Ordered formals (ps ++ p ∷ [])
  one_more formals ps p h g = all_one (IsOrdered is formals) ps p h g

  prep_ordered : (formals : List ℕ) (e : TypedTree) (at : Place) (scope : List ℕ) (k : List PointName) → Ordered formals (prep s e at scope k)
  unfolding prep
  prep_ordered formals = on_tree {Of = λ e. (at : Place) → (scope : List ℕ) → (k : List PointName) → Ordered formals (prep s e at scope k)} (record {
    call = λ p sub actuals by_actuals at scope k.
        one_more formals (prep s actuals (0 ∷ at) scope (row_at at 0 ∷ [])) _ (by_actuals (0 ∷ at) scope (row_at at 0 ∷ [])) (quiet formals _ refl);
    short = λ op p a q b on_a by_b at scope k.
        let right : List NamedPoint = prep s b (1 ∷ at) (s.temporary at ∷ scope) (row_at at 1 ∷ []) in
        let behind : List NamedPoint = prep s b (1 ∷ at) (with_held s a (0 ∷ at) scope) k in
        all_if (IsOrdered is formals) (has_call b) _ _
        (both formals (prep s a (0 ∷ at) scope (row_at at 0 ∷ [])) _ (on_a (0 ∷ at) scope (row_at at 0 ∷ []))
        (quiet formals _ refl, one_more formals right _ (by_b (1 ∷ at) (s.temporary at ∷ scope) (row_at at 1 ∷ [])) (quiet formals _ refl)))
        (both formals (prep s a (0 ∷ at) scope (entry behind k)) behind (on_a (0 ∷ at) scope (entry behind k))
        (by_b (1 ∷ at) (with_held s a (0 ∷ at) scope) k));
    binary = λ op a b on_a by_b at scope k.
        let behind : List NamedPoint = prep s b (1 ∷ at) (with_held s a (0 ∷ at) scope) k in
        both formals (prep s a (0 ∷ at) scope (entry behind k)) behind (on_a (0 ∷ at) scope (entry behind k))
        (by_b (1 ∷ at) (with_held s a (0 ∷ at) scope) k);
    list = λ a b on_a by_b at scope k.
        let behind : List NamedPoint = prep s b (1 ∷ at) (with_held s a (0 ∷ at) scope) k in
        both formals (prep s a (0 ∷ at) scope (entry behind k)) behind (on_a (0 ∷ at) scope (entry behind k))
        (by_b (1 ∷ at) (with_held s a (0 ∷ at) scope) k);
    element = λ a low high b on_a by_b at scope k.
        let behind : List NamedPoint = prep s b (1 ∷ at) (with_held s a (0 ∷ at) scope) k in
        both formals (prep s a (0 ∷ at) scope (entry behind k)) behind (on_a (0 ∷ at) scope (entry behind k))
        (by_b (1 ∷ at) (with_held s a (0 ∷ at) scope) k);
    name = λ p x e t by_e at scope k.
        by_e (0 ∷ at) scope k;
    component = λ i e by_e at scope k.
        by_e (0 ∷ at) scope k;
    designated = λ e by_e at scope k.
        by_e (0 ∷ at) scope k;
    image = λ t e by_e at scope k.
        by_e (0 ∷ at) scope k;
    parens = λ e by_e at scope k.
        by_e (0 ∷ at) scope k;
    unary = λ op e by_e at scope k.
        by_e (0 ∷ at) scope k;
    is_null = λ equal e by_e at scope k.
        by_e (0 ∷ at) scope k;
    aggregate = λ t e by_e at scope k.
        by_e (0 ∷ at) scope k;
    alike = λ t e by_e at scope k.
        by_e (0 ∷ at) scope k;
    allocator = λ t e by_e at scope k.
        by_e (0 ∷ at) scope k;
    others = λ e plain at scope k. rw (plain_prep s e at scope k plain) (tt);
  })

  -- what is ordered by itself, after its Prep
  used : (formals : List ℕ) (at : Place) (e : TypedTree) (scope : List ℕ) (q : NamedPoint) → IsOrdered is formals q
      → Ordered formals (prep s e (0 ∷ at) scope (row_at at 0 ∷ []) ++ q ∷ [])
  used formals at e scope q h = one_more formals (prep s e (0 ∷ at) scope (row_at at 0 ∷ [])) q (prep_ordered formals e (0 ∷ at) scope (row_at at 0 ∷ [])) h

  paired : (formals : List ℕ) (at x y : Place) (a b : TypedTree) (scope inner : List ℕ) (q : NamedPoint) → IsOrdered is formals q
      → Ordered formals ((prep s a x scope (entry (prep s b y inner (row_at at 0 ∷ [])) (row_at at 0 ∷ [])) ++ prep s b y inner (row_at at 0 ∷ [])) ++ q ∷ [])
  paired formals at x y a b scope inner q h =
      let own : List PointName = row_at at 0 ∷ [] in
      let behind : List NamedPoint = prep s b y inner own in
      one_more formals (prep s a x scope (entry behind own) ++ behind) q
      (both formals (prep s a x scope (entry behind own)) behind (prep_ordered formals a x scope (entry behind own)) (prep_ordered formals b y inner own)) h

  -- ---- ends

  ends_ordered : (formals : List ℕ) (at : Place) (row : ℕ) (p : Pos) (xs scope : List ℕ) (k : List PointName) → Each xs → Unwinds s.typing Any xs scope
      → Ordered formals (ends at row p xs scope k)
  ends_ordered formals at row p [] scope k each ways = tt
  ends_ordered formals at row p (x ∷ xs) scope k each ways =
      let left : List ℕ = drop 1 (from x scope) in
      let same : left ≡ ways.0 = ap (λ sc. drop 1 sc) ways.3 in (
        ends_there formals (row_at at row) p x (from x scope) ways.0 (entry (ends at (suc row) p xs left k) k) (each x (inl refl)) ways.3,
        ends_ordered formals at (suc row) p xs left k (λ y has. each y (inr has)) (subst (λ sc. Unwinds s.typing Any xs sc) (sym same) ways.4),
      )

  last_ordered : (at : Place) (row : ℕ) (p q : Pos) (xs scope formals : List ℕ) (finish : PointName) → Each xs → Unwinds s.typing Any xs scope
      → Ordered formals (ends at row p xs scope (finish ∷ []) ++ point finish q Finish formals [] ∷ [])
  last_ordered at row p q xs scope formals finish each ways =
      one_more formals (ends at row p xs scope (finish ∷ [])) (point finish q Finish formals []) (ends_ordered formals at row p xs scope (finish ∷ []) each ways)
      (finishes_there formals finish q)

  -- ---- statements

  -- The scopes that an exit and a return end.
  abbrev Stands : Around → List ℕ → Type 0
  Stands w scope = (Unwinds s.typing Any w.in_loop scope × Unwinds s.typing Any w.in_all scope) × (Each w.in_loop × Each w.in_all)

  loose : Loose s.typing Any
  loose a b h g = tt

  each_both : (xs ys : List ℕ) → Each xs → Each ys → Each (xs ++ ys)
  each_both xs ys h g x has = elim (Has-append_cases xs ys x has) [ inl a ↦ h x a | inr b ↦ g x b ]

  ending_each : (stmts : TypedCode) → Each (declared_within stmts) → Each (ending s stmts)
  ending_each stmts each x has =
      each x (declared_within_has stmts x (has_reverse (declared stmts) x (Has-filter (has_scope_end s.typing) (reverse (declared stmts)) x has).0))

  stands_block : (stmts : TypedCode) (w : Around) → is_settled s.typing stmts ≡ true → Each (declared_within stmts) → Stands w w.scope
      → Stands (within_block (ending s stmts) w) (after stmts w.scope)
  stands_block stmts w h each st =
      let own : Each (ending s stmts) = ending_each stmts each in (
        (ended s Any loose stmts w.in_loop w.scope h st.0.0, ended s Any loose stmts w.in_all w.scope h st.0.1),
        (each_both (ending s stmts) w.in_loop own st.1.0, each_both (ending s stmts) w.in_all own st.1.1),
      )

  -- within a loop: an exit ends nothing of what is around it
  inside : (k : List PointName) (w : Around) (scope : List ℕ) → Stands w scope → Stands (within_loop k w) scope
  inside k w scope st = ((tt, st.0.1), ((λ x none. absurd none), st.1.1))

  no_more : (xs : List ℕ) → xs ++ [] ≡ xs
  no_more [] = refl
  no_more (x ∷ xs) = ap (λ ys. x ∷ ys) (no_more xs)

  laid_ordered_cases : Laws (λ c. (at : Place) → (w : Around) → (k : List PointName) → is_settled s.typing c ≡ true → (is_declaration c ≡ false → Stands w (after c w.scope)) → Fresh (declared_within c) w.scope → Ordered w.formals (laid s c at w k))
      (λ c. (at : Place) → (w : Around) → (k : List PointName) → (otherwise : List PointName) → is_settled s.typing c ≡ true → Stands w w.scope → Fresh (declared_within c) w.scope → Ordered w.formals (laid_branches s c at w k otherwise))
      (λ c. (at : Place) → (w : Around) → (k : List PointName) → (otherwise : List PointName) → is_settled s.typing c ≡ true → Stands w w.scope → Fresh (declared_within c) w.scope → Ordered w.formals (laid_branch s c at w k otherwise))
      (λ c. (at : Place) → (w : Around) → (k : List PointName) → is_settled s.typing c ≡ true → Stands w w.scope → Fresh (declared_within c) w.scope → Ordered w.formals (flat_map (λ ps. ps) (laid_whens s c at w k)))
      (λ c. (at : Place) → (w : Around) → (k : List PointName) → is_settled s.typing c ≡ true → Stands w w.scope → Fresh (declared_within c) w.scope → Ordered w.formals (laid_when s c at w k))
  unfolding laid is_settled is_undeclaring declared declared_within
  laid_ordered_cases = record {
    list = λ a rest by_a by_rest at w k h st f.
        let first : is_settled s.typing a ≡ true = and_first (is_settled s.typing a) _ h in
        let more : (is_settled s.typing rest && (is_declaration a || is_undeclaring rest)) ≡ true = and_second (is_settled s.typing a) _ h in
        let second : is_settled s.typing rest ≡ true = and_first (is_settled s.typing rest) _ more in
        let behind : List NamedPoint = laid s rest (1 ∷ at) (with_scope (declared a) w) k in
        let stands : Stands w (after rest (after a w.scope)) = subst (λ sc. Stands w sc) (after_more a rest w.scope) (st refl) in
        let stands_a : is_declaration a ≡ false → Stands w (after a w.scope) =
        (λ none. subst (λ sc. Stands w sc)
        (after_undeclaring rest (after a w.scope) (or_second (is_declaration a) (is_undeclaring rest) (and_second (is_settled s.typing rest) _ more) none)) stands) in
        both w.formals (laid s a (0 ∷ at) w (entry behind k)) behind
        (by_a (0 ∷ at) w (entry behind k) first stands_a (fresh_left (declared_within a) (declared_within rest) w.scope f))
        (by_rest (1 ∷ at) (with_scope (declared a) w) k second (λ none. stands)
        (fresh_behind (declared_within a) (declared_within rest) (declared a) w.scope (declared_within_has a) f));
    declare = λ p x v at w k h st f.
        used w.formals at v w.scope _
        (declares_there w.formals (row_at at 0) p x v (with_held s v (0 ∷ at) w.scope) k (f.1 x (inl refl)).0
        (new_there v (0 ∷ at) x w.scope (f.1 x (inl refl)).0 (f.1 x (inl refl)).1));
    assign = λ p target e at w k h st f.
        paired w.formals at (1 ∷ at) (0 ∷ at) e target w.scope (with_held s e (1 ∷ at) w.scope) _ (quiet w.formals _ refl);
    skip = λ p at w k h st f.
        (quiet w.formals _ refl, tt);
    call = λ p sub actuals at w k h st f.
        used w.formals at actuals w.scope _ (quiet w.formals _ refl);
    output = λ p text line at w k h st f.
        used w.formals at text w.scope _ (quiet w.formals _ refl);
    input = λ p target at w k h st f.
        used w.formals at target w.scope _ (quiet w.formals _ refl);
    release = λ p m at w k h st f.
        used w.formals at m w.scope _ (quiet w.formals _ refl);
    choice = λ branches otherwise by_branches by_otherwise at w k h st f.
        let first : is_settled s.typing branches ≡ true = and_first (is_settled s.typing branches) _ h in
        let more : (is_settled s.typing otherwise && is_undeclaring otherwise) ≡ true = and_second (is_settled s.typing branches) _ h in
        let none : after otherwise w.scope ≡ w.scope = after_undeclaring otherwise w.scope (and_second (is_settled s.typing otherwise) _ more) in
        let behind : List NamedPoint = laid s otherwise (1 ∷ at) w k in
        both w.formals (laid_branches s branches (0 ∷ at) w k (entry behind k)) behind
        (by_branches (0 ∷ at) w k (entry behind k) first (st refl) (fresh_left (declared_within branches) (declared_within otherwise) w.scope f))
        (by_otherwise (1 ∷ at) w k (and_first (is_settled s.typing otherwise) _ more) (λ any. subst (λ sc. Stands w sc) (sym none) (st refl))
        (fresh_right (declared_within branches) (declared_within otherwise) w.scope f));
    cases = λ p e whens by_whens at w k h st f.
        both w.formals _ (flat_map (λ ps. ps) (laid_whens s whens (1 ∷ at) w k)) (used w.formals at e w.scope _ (quiet w.formals _ refl))
        (by_whens (1 ∷ at) w k h (st refl) f);
    loop = λ stmts by_stmts at w k h st f.
        let none : after stmts w.scope ≡ w.scope = after_undeclaring stmts w.scope (and_second (is_settled s.typing stmts) _ h) in
        by_stmts (0 ∷ at) (within_loop k w) _ (and_first (is_settled s.typing stmts) _ h)
        (λ any. subst (λ sc. Stands (within_loop k w) sc) (sym none) (inside k w w.scope (st refl))) f;
    while = λ p e stmts by_stmts at w k h st f.
        let none : after stmts w.scope ≡ w.scope = after_undeclaring stmts w.scope (and_second (is_settled s.typing stmts) _ h) in
        let turn : List PointName = entry (prep s e (0 ∷ at) w.scope (row_at at 0 ∷ [])) (row_at at 0 ∷ []) in
        both w.formals _ (laid s stmts (1 ∷ at) (within_loop k w) turn) (used w.formals at e w.scope _ (quiet w.formals _ refl))
        (by_stmts (1 ∷ at) (within_loop k w) turn (and_first (is_settled s.typing stmts) _ h)
        (λ any. subst (λ sc. Stands (within_loop k w) sc) (sym none) (inside k w w.scope (st refl))) f);
    for = λ p x reversed low high stmts by_stmts at w k h st f.
        let silent : leaves_silently s.typing x ≡ true = and_first (leaves_silently s.typing x) _ h in
        let more : (is_settled s.typing stmts && is_undeclaring stmts) ≡ true = and_second (leaves_silently s.typing x) _ h in
        let none : after stmts (x ∷ w.scope) ≡ x ∷ w.scope = after_undeclaring stmts (x ∷ w.scope) (and_second (is_settled s.typing stmts) _ more) in
        let v : Around = with_scope (x ∷ []) (within_loop k w) in
        let next : PointName = row_at at 1 in
        let what : is x × (Has w.scope x → ⊥) = f.1 x (inl refl) in
        let around : Stands v (x ∷ w.scope) =
        ((tt, unwinds_silent s.typing Any loose x w.in_all w.scope silent (st refl).0.1), ((λ y none. absurd none), (st refl).1.1)) in
        both w.formals (uses_both s at p low high (instruction.Start x reversed low high) w (next ∷ [])) _
        (paired w.formals at (0 ∷ at) (1 ∷ at) low high w.scope (with_held s low (0 ∷ at) w.scope) _
        (starts_there w.formals (row_at at 0) p x reversed low high (with_held s high (1 ∷ at) (with_held s low (0 ∷ at) w.scope)) (next ∷ [])
        (new_there high (1 ∷ at) x (with_held s low (0 ∷ at) w.scope) what.0 (new_there low (0 ∷ at) x w.scope what.0 what.1)))) (
          next_there w.formals next p x reversed low high w.scope _,
          by_stmts (2 ∷ at) v (next ∷ []) (and_first (is_settled s.typing stmts) _ more) (λ any. subst (λ sc. Stands v sc) (sym none) around)
              (fresh_inner x (declared_within stmts) w.scope f),
        );
    exit = λ p e at w k h st f.
        let out : List NamedPoint = ends at 1 p w.in_loop w.scope w.leave in
        both w.formals _ out (used w.formals at e w.scope _ (quiet w.formals _ refl))
        (ends_ordered w.formals at 1 p w.in_loop w.scope w.leave (st refl).1.0 (st refl).0.0);
    return = λ p v at w k h st f.
        both w.formals _ (closing at 1 p w) (used w.formals at v w.scope _ (quiet w.formals _ refl))
        (last_ordered at 1 p p w.in_all w.scope w.formals (row_at at (suc (length w.in_all))) (st refl).1.1 (st refl).0.1);
    block = λ n stmts end by_stmts at w k h st f.
        let v : Around = within_block (ending s stmts) w in
        let each : Each (declared_within stmts) = (λ x has. (f.1 x has).0) in
        let out : List NamedPoint = ends at 0 end (ending s stmts) (reverse (declared stmts) ++ w.scope) k in
        let own : Unwinds s.typing Any (ending s stmts ++ []) (after stmts w.scope) = ended s Any loose stmts [] w.scope h tt in
        both w.formals (laid s stmts (0 ∷ at) v (entry out k)) out
        (by_stmts (0 ∷ at) v (entry out k) h (λ any. stands_block stmts w h each (st refl)) f)
        (ends_ordered w.formals at 0 end (ending s stmts) (after stmts w.scope) k (ending_each stmts each)
        (subst (λ xs. Unwinds s.typing Any xs (after stmts w.scope)) (no_more (ending s stmts)) own));
    others = λ c other at w k h st f. rw (laid_none s c at w k other) (tt);
    branches = λ a rest by_a by_rest at w k otherwise h st f.
        let behind : List NamedPoint = laid_branches s rest (1 ∷ at) w k otherwise in
        both w.formals (laid_branch s a (0 ∷ at) w k (entry behind otherwise)) behind
        (by_a (0 ∷ at) w k (entry behind otherwise) (and_first (is_settled s.typing a) _ h) st
        (fresh_left (declared_within a) (declared_within rest) w.scope f))
        (by_rest (1 ∷ at) w k otherwise (and_first (is_settled s.typing rest) _ (and_second (is_settled s.typing a) _ h)) st
        (fresh_right (declared_within a) (declared_within rest) w.scope f));
    no_branches = λ c other at w k otherwise h st f. rw (branches_none s c at w k otherwise other) (tt);
    branch = λ p e stmts by_stmts at w k otherwise h st f.
        let none : after stmts w.scope ≡ w.scope = after_undeclaring stmts w.scope (and_second (is_settled s.typing stmts) _ h) in
        both w.formals _ (laid s stmts (1 ∷ at) w k) (used w.formals at e w.scope _ (quiet w.formals _ refl))
        (by_stmts (1 ∷ at) w k (and_first (is_settled s.typing stmts) _ h) (λ any. subst (λ sc. Stands w sc) (sym none) st) f);
    no_branch = λ c other at w k otherwise h st f. rw (branch_none s c at w k otherwise other) (tt);
    alternatives = λ a rest by_a by_rest at w k h st f.
        both w.formals (laid_when s a (0 ∷ at) w k) (flat_map (λ ps. ps) (laid_whens s rest (1 ∷ at) w k))
        (by_a (0 ∷ at) w k (and_first (is_settled s.typing a) _ h) st (fresh_left (declared_within a) (declared_within rest) w.scope f))
        (by_rest (1 ∷ at) w k (and_first (is_settled s.typing rest) _ (and_second (is_settled s.typing a) _ h)) st
        (fresh_right (declared_within a) (declared_within rest) w.scope f));
    no_alternatives = λ c other at w k h st f. rw (whens_none s c at w k other) (tt);
    alternative = λ choices stmts by_stmts at w k h st f.
        let none : after stmts w.scope ≡ w.scope = after_undeclaring stmts w.scope (and_second (is_settled s.typing stmts) _ h) in
        by_stmts (1 ∷ at) w k (and_first (is_settled s.typing stmts) _ h) (λ any. subst (λ sc. Stands w sc) (sym none) st) f;
    no_alternative = λ c other at w k h st f. rw (when_none s c at w k other) (tt);
  }

  laid_ordered : (c : TypedCode) (at : Place) (w : Around) (k : List PointName) → is_settled s.typing c ≡ true
      → (is_declaration c ≡ false → Stands w (after c w.scope)) → Fresh (declared_within c) w.scope → Ordered w.formals (laid s c at w k)
  laid_ordered = on_code laid_ordered_cases

  -- ---- subprograms

  -- Each object of the subprogram has a number of its own, and is as told.
  abbrev pub IsApart : TypedSub → Type 0
  IsApart sub = Once (objects_of sub) × Each (objects_of sub)

  body_ordered : (sub : TypedSub) (end : List NamedPoint) → is_settled s.typing sub.body ≡ true → IsApart sub
      → (Each (ending s sub.body) → Unwinds s.typing Any (ending s sub.body) (scope_at_end sub) → Ordered (reverse sub.formals) end)
      → Ordered (reverse sub.formals) (body_points s sub end)
  body_ordered sub end h own last =
      let w : Around = around_body s sub in
      let each : Each (declared_within sub.body) = (λ x has. own.1 x (Has-append_right sub.formals (declared_within sub.body) x has)) in
      let ways : Unwinds s.typing Any (ending s sub.body) (scope_at_end sub) =
      subst (λ xs. Unwinds s.typing Any xs (scope_at_end sub)) (no_more (ending s sub.body)) (ended s Any loose sub.body [] (reverse sub.formals) h tt) in
      let f : Fresh (declared_within sub.body) (reverse sub.formals) = (
        once_right sub.formals (declared_within sub.body) own.0,
        (λ x has. (each x has, (λ there. once_apart sub.formals (declared_within sub.body) x own.0 (has_reverse sub.formals x there) has))),
      ) in
      both (reverse sub.formals) (laid s sub.body (0 ∷ []) w (entry end [])) end
      (laid_ordered sub.body (0 ∷ []) w (entry end []) h
      (λ any. ((tt, ways), ((λ x none. absurd none), ending_each sub.body each))) f)
      (last (ending_each sub.body each) ways)

  end_ordered : (sub : TypedSub) (b : Bool) → Each (ending s sub.body) → Unwinds s.typing Any (ending s sub.body) (scope_at_end sub)
      → Ordered (reverse sub.formals) (if b then function_end sub else procedure_end s sub)
  end_ordered sub true each ways = (quiet (reverse sub.formals) _ refl, tt)
  end_ordered sub false each ways =
      last_ordered [] 0 sub.end sub.end (ending s sub.body) (scope_at_end sub) (reverse sub.formals) (row_at [] (length (ending s sub.body))) each ways

  pub sub_ordered : (sub : TypedSub) → is_settled s.typing sub.body ≡ true → IsApart sub → Ordered (reverse sub.formals) (sub_points s sub)
  sub_ordered sub h own =
      body_ordered sub (if is_some sub.result then function_end sub else procedure_end s sub) h own (end_ordered sub (is_some sub.result))

  pub package_ordered : (sub : TypedSub) → is_settled s.typing sub.body ≡ true → IsApart sub → Ordered (reverse sub.formals) (elaboration_points s sub)
  package_ordered sub h own = body_ordered sub [] h own (λ each ways. tt)
