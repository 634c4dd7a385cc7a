-- What package objects are declared with names no view, at the points either; and what it names is by the text what it is in
-- the layout.
use Rattle.std.proofs.Common.{◌≡◌, refl, subst, ◌⊎◌, inl, inr, ℕ, Bool, true, false, not, ◌&&◌, ◌||◌, List, [], ◌∷◌, ◌++◌, ap, ◌∙◌}
use Rattle.std.specs.Prelude.{reverse}
use Rattle.std.specs.List.{AllByRecursion}
use Rattle.std.proofs.lemmas.Bool.{false≢true}
use Rattle.machine.specs.spark_base.Lists.{Has}
use Rattle.soundness.proofs.Lists.{Has-append_left, Has-append_right, Has-append_cases}
use Rattle.machine.specs.type_definitions.Types.{is_owning}
use Rattle.machine.specs.typed_tree.Trees.{TypedTree, Name, Component, Designated, Element, Image, Parens, Unary, Binary, Short, IsNull, Aggregate, Alike, New, TypedCode}
use Rattle.machine.specs.typed_tree.Trees as typed
use Rattle.machine.specs.typed_tree.Programs.{TypedSub}
use Rattle.machine.specs.flow_paths.Instructions.{Declare}
use Rattle.machine.specs.flow_paths.Objects.{Typing, object_at, is_anonymous, view_of}
use Rattle.machine.specs.flow_paths.Names.{has_call}
use Rattle.machine.specs.flow_paths.Points.{Place, PointName, row_at, NamedPoint, point, entry}
use Rattle.machine.specs.flow_paths.Prep.{Setting, with_held, prep}
use Rattle.machine.specs.flow_paths.Layout.{Around, with_scope, declared, laid}
use Rattle.machine.specs.flow_paths.Laid.{declared_within, around_body, elaboration_points}
use Rattle.machine.specs.flow_paths.Scopes.{is_within}
use Rattle.settled_types.specs.OrderLaws.ScopeLaws.Code.{roots, are_seen, is_seen}
use Rattle.settled_types.proofs.OrderLaws.ScopeLaws.Lists.{and_first, and_second, all_both, all_one, all_if, all_has, has_reverse, within_has}
use Rattle.settled_types.specs.OrderLaws.ReadyLaws.InOrder.{declares_only, own_nothing, names_no_owner}
use Rattle.accepted_runs.specs.ViewedFiles.ViewLaws.InOrder.{no_views, names_no_view}
use Rattle.accepted_runs.proofs.ViewedFiles.ViewLaws.Constructors.{is_declare, declared_object, declared_value}

-- What is declared at a point is no view, and is declared with a value that names none.
abbrev pub IsPlain : Typing → NamedPoint → Type 0
IsPlain t p = (x : ℕ) (v : TypedTree) → p.instr ≡ Declare x v → not (is_anonymous (view_of t x)) && no_views t (roots v) ≡ true

module _ (t : Typing) (s : Setting) where
  abbrev Plain : List NamedPoint → Type 0
  Plain ps = AllByRecursion (IsPlain t) ps

  both : (ps qs : List NamedPoint) → Plain ps → Plain qs → Plain (ps ++ qs)
  both ps qs h g = all_both (IsPlain t) ps qs h g

  one_more : (ps : List NamedPoint) (p : NamedPoint) → Plain ps → IsPlain t p → Plain (ps ++ p ∷ [])
  one_more ps p h g = all_one (IsPlain t) ps p h g

  two : (x y : Place) (a b : TypedTree) (scope inner : List ℕ) (k l : List PointName)
      → ((scope : List ℕ) (k : List PointName) → Plain (prep s a x scope k)) → ((scope : List ℕ) (k : List PointName) → Plain (prep s b y scope k))
      → Plain (prep s a x scope k ++ prep s b y inner l)
  two x y a b scope inner k l first second = both (prep s a x scope k) (prep s b y inner l) (first scope k) (second inner l)

  prep_plain : (e : TypedTree) (at : Place) (scope : List ℕ) (k : List PointName) → Plain (prep s e at scope k)
  unfolding prep
  prep_plain (typed.Call p sub actuals) at scope k =
      one_more (prep s actuals (0 ∷ at) scope (row_at at 0 ∷ [])) _ (prep_plain actuals (0 ∷ at) scope (row_at at 0 ∷ []))
      (λ x v e. absurd (false≢true (ap is_declare e)))
  prep_plain (Short op p a q b) at scope k =
      let right : List NamedPoint = prep s b (1 ∷ at) (s.temporary at ∷ scope) (row_at at 1 ∷ []) in
      all_if (IsPlain t) (has_call b) _ _
      (both (prep s a (0 ∷ at) scope (row_at at 0 ∷ [])) _ (prep_plain a (0 ∷ at) scope (row_at at 0 ∷ [])) (
        λ x v e. absurd (false≢true (ap is_declare e)),
        one_more right _ (prep_plain b (1 ∷ at) (s.temporary at ∷ scope) (row_at at 1 ∷ [])) (λ x v e. absurd (false≢true (ap is_declare e))),
      ))
      (two (0 ∷ at) (1 ∷ at) a b scope _ _ k (prep_plain a (0 ∷ at)) (prep_plain b (1 ∷ at)))
  prep_plain (Binary op a b) at scope k = two (0 ∷ at) (1 ∷ at) a b scope _ _ k (prep_plain a (0 ∷ at)) (prep_plain b (1 ∷ at))
  prep_plain (typed.More a b) at scope k = two (0 ∷ at) (1 ∷ at) a b scope _ _ k (prep_plain a (0 ∷ at)) (prep_plain b (1 ∷ at))
  prep_plain (Element a low high b) at scope k = two (0 ∷ at) (1 ∷ at) a b scope _ _ k (prep_plain a (0 ∷ at)) (prep_plain b (1 ∷ at))
  prep_plain (Name p x e u) at scope k = prep_plain e (0 ∷ at) scope k
  prep_plain (Component i e) at scope k = prep_plain e (0 ∷ at) scope k
  prep_plain (Designated e) at scope k = prep_plain e (0 ∷ at) scope k
  prep_plain (Image u e) at scope k = prep_plain e (0 ∷ at) scope k
  prep_plain (Parens e) at scope k = prep_plain e (0 ∷ at) scope k
  prep_plain (Unary op e) at scope k = prep_plain e (0 ∷ at) scope k
  prep_plain (IsNull equal e) at scope k = prep_plain e (0 ∷ at) scope k
  prep_plain (Aggregate u e) at scope k = prep_plain e (0 ∷ at) scope k
  prep_plain (Alike u e) at scope k = prep_plain e (0 ∷ at) scope k
  prep_plain (New u e) at scope k = prep_plain e (0 ∷ at) scope k
  prep_plain _ at scope k = tt

  laid_plain : (c : TypedCode) (at : Place) (w : Around) (k : List PointName) → declares_only c ≡ true → names_no_view t c ≡ true → Plain (laid s c at w k)
  unfolding laid declares_only names_no_view
  laid_plain (typed.More a rest) at w k only none =
      let behind : List NamedPoint = laid s rest (1 ∷ at) (with_scope (declared a) w) k in
      both (laid s a (0 ∷ at) w (entry behind k)) behind
      (laid_plain a (0 ∷ at) w (entry behind k) (and_first (declares_only a) (declares_only rest) only) (and_first (names_no_view t a) (names_no_view t rest) none))
      (laid_plain rest (1 ∷ at) (with_scope (declared a) w) k (and_second (declares_only a) (declares_only rest) only)
      (and_second (names_no_view t a) (names_no_view t rest) none))
  laid_plain (typed.Declare p x v) at w k only none =
      one_more (prep s v (0 ∷ at) w.scope (row_at at 0 ∷ [])) (point (row_at at 0) p (Declare x v) (with_held s v (0 ∷ at) w.scope) k)
      (prep_plain v (0 ∷ at) w.scope (row_at at 0 ∷ []))
      (λ y u e.
      (let object : x ≡ y = ap (declared_object x) e in
      let value : v ≡ u = ap (declared_value v) e in
      subst (λ z. not (is_anonymous (view_of t z)) && no_views t (roots u) ≡ true) object
      (subst (λ z. not (is_anonymous (view_of t x)) && no_views t (roots z) ≡ true) value none)))
  laid_plain typed.NoMore at w k only none = tt
  laid_plain _ at w k only none = absurd (false≢true only)

  pub package_plain : (sub : TypedSub) → declares_only sub.body ≡ true → names_no_view t sub.body ≡ true → (p : NamedPoint) → Has (elaboration_points s sub) p
      → IsPlain t p
  package_plain sub only none p has =
      all_has (IsPlain t) (elaboration_points s sub) p
      (both (laid s sub.body (0 ∷ []) (around_body s sub) []) [] (laid_plain sub.body (0 ∷ []) (around_body s sub) [] only none) tt) has

refused : (b : Bool) → b ≡ true → not b ≡ true → ⊥
refused true e h = absurd (false≢true h)
refused false e h = absurd (false≢true e)

-- a view isn't among them
pub no_view : (t : Typing) (xs : List ℕ) (x : ℕ) → no_views t xs ≡ true → Has xs x → is_anonymous (view_of t x) ≡ true → ⊥
no_view t [] x none has anonymous = has
no_view t (y ∷ xs) x none (inl e) anonymous =
    refused (is_anonymous (view_of t y)) (ap (λ z. is_anonymous (view_of t z)) e ∙ anonymous) (and_first (not (is_anonymous (view_of t y))) (no_views t xs) none)
no_view t (y ∷ xs) x none (inr has) anonymous = no_view t xs x (and_second (not (is_anonymous (view_of t y))) (no_views t xs) none) has anonymous

-- ---- what is named in them

either : (a b : Bool) → a || b ≡ true → (a ≡ true) ⊎ (b ≡ true)
either true b e = inl refl
either false b e = inr e

both_true : (a b : Bool) → a ≡ true → b ≡ true → a && b ≡ true
both_true true b e f = f
both_true false b e f = e

declared_there : (c : TypedCode) (x : ℕ) → Has (declared c) x → Has (declared_within c) x
unfolding declared declared_within
declared_there (typed.Declare p y v) x has = has
declared_there (typed.More a rest) x has = elim (Has-append_cases (declared a) (declared rest) x has) [
  | inl here ↦ Has-append_left (declared_within a) (declared_within rest) x (declared_there a x here)
  | inr more ↦ Has-append_right (declared_within a) (declared_within rest) x (declared_there rest x more)
]
declared_there c x has = absurd has

-- Where two typings agree on what code declares, and on what is outside of it, it names no owner in the one if it names none
-- in the other.
module _ (t u : Typing) (same_table : t.table ≡ u.table) (outer : ℕ → Bool) (shared : (x : ℕ) → outer x ≡ true → object_at t x ≡ object_at u x) where
  abbrev AreSame : List ℕ → Type 0
  AreSame xs = (x : ℕ) → Has xs x → object_at t x ≡ object_at u x

  none_same : (scope xs : List ℕ) → AreSame scope → are_seen outer scope xs ≡ true → own_nothing u xs ≡ true → own_nothing t xs ≡ true
  none_same scope [] same seen none = refl
  none_same scope (x ∷ xs) same seen none =
      both_true (not (is_owning t.table (object_at t x).of)) (own_nothing t xs)
      ((λ j. not (is_owning (same_table j) (is (either (is_within x scope) (outer x) (and_first (is_within x scope || outer x) (are_seen outer scope xs) seen)) j).of))
      ∙ and_first (not (is_owning u.table (object_at u x).of)) (own_nothing u xs) none)
      (none_same scope xs same (and_second (is_within x scope || outer x) (are_seen outer scope xs) seen)
      (and_second (not (is_owning u.table (object_at u x).of)) (own_nothing u xs) none))
    where
      is : (is_within x scope ≡ true) ⊎ (outer x ≡ true) → object_at t x ≡ object_at u x
      is (inl within) = same x (within_has x scope within)
      is (inr out) = shared x out

  pub owners_same : (c : TypedCode) (scope : List ℕ) → declares_only c ≡ true → is_seen outer scope c ≡ true → AreSame scope → AreSame (declared_within c)
      → names_no_owner u c ≡ true → names_no_owner t c ≡ true
  unfolding declares_only is_seen names_no_owner declared declared_within
  owners_same (typed.Declare p x v) scope only seen same own none = none_same scope (roots v) same seen none
  owners_same (typed.More a rest) scope only seen same own none =
      both_true (names_no_owner t a) (names_no_owner t rest)
      (owners_same a scope (and_first (declares_only a) (declares_only rest) only) (and_first (is_seen outer scope a) (is_seen outer (reverse (declared a) ++ scope) rest) seen) same
      (λ x has. own x (Has-append_left (declared_within a) (declared_within rest) x has)) (and_first (names_no_owner u a) (names_no_owner u rest) none))
      (owners_same rest (reverse (declared a) ++ scope) (and_second (declares_only a) (declares_only rest) only)
      (and_second (is_seen outer scope a) (is_seen outer (reverse (declared a) ++ scope) rest) seen)
      (λ x has. elim (Has-append_cases (reverse (declared a)) scope x has) [
        | inl now ↦ own x (Has-append_left (declared_within a) (declared_within rest) x (declared_there a x (has_reverse (declared a) x now)))
        | inr before ↦ same x before
      ]) (λ x has. own x (Has-append_right (declared_within a) (declared_within rest) x has)) (and_second (names_no_owner u a) (names_no_owner u rest) none))
  owners_same typed.NoMore scope only seen same own none = refl
  owners_same _ scope only seen same own none = absurd (false≢true only)
