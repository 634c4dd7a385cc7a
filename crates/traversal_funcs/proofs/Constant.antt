-- Constant views, what may borrow from them, and what a traversal function may give.
use Rattle.std.proofs.Common.{◌≡◌, ◌⊎◌, refl, sym, ap, ◌∙◌, subst, inl, inr, true≢false, eqb-true, eq-eqb, ℕ, Bool, true, false, not, ◌&&◌, ◌||◌, ◌==◌, List, [], ◌∷◌, ◌++◌, Option, Some, None, if◌then◌else◌}
use Rattle.std.specs.Bool.{Decides}
use Rattle.place_names.specs.declared.selector.Sel.{Sel}
use Rattle.place_names.specs.declared.selector.Sel.TheVariants as sel
use Rattle.place_names.specs.Names.{Name, extend}
use Rattle.place_names.specs.declared.act.Act.{Act}
use Rattle.place_names.specs.declared.act.Act.TheVariants as act
use Rattle.place_names.proofs.Names.{both_parts, both_true}
use Rattle.type_definitions.specs.Types.{is_nil}
use Rattle.typed_tree.specs.Nodes.{TypedNodes}
use Rattle.flow_paths.specs.declared.point.LaidSub.{LaidSub}
use Rattle.flow_paths.specs.Objects.{Typing, object_at, view_of, is_borrower, is_observer, is_formal, is_named_access}
use Rattle.flow_paths.specs.Acts.{gives_variable}
use Rattle.flow_paths.specs.Laid.{FlowSub}
use Rattle.flow_paths.specs.Stands.{flow_sub_of}
use Rattle.flow_paths.specs.Views.{Roots, IsOnlyRoot, sub_acts, is_in_mode, is_function, has_selector, is_outer, ConstantView, of_observer, of_formal, in_function, of_borrower, MayBorrow, directly, through, traversed_formal}
use Rattle.traversal_funcs.specs.declared.questions.Question.{Question}
use Rattle.traversal_funcs.specs.declared.questions.Question.TheVariants as question
use Rattle.traversal_funcs.specs.declared.roots.Rooted.{Rooted}
use Rattle.traversal_funcs.specs.declared.views.Traversed.{Traversed}
use Rattle.traversal_funcs.specs.declared.views.Views.{Views}
use Rattle.traversal_funcs.specs.Lendings.{lendings_of}
use Rattle.traversal_funcs.specs.Questions.{HasRoot}
use Rattle.traversal_funcs.specs.Searches.{has_root, IsRooted}
use Rattle.traversal_funcs.specs.Sights.{site, is_only, is_constant, borrows_through, may_borrow, only_of, is_given}
use Rattle.traversal_funcs.specs.Exact.{IsTraversed, AreViews}
use Rattle.traversal_funcs.proofs.Bools.{or_cases, or_true, not_both}
use Rattle.traversal_funcs.proofs.Rooted.{bare, acts_on, reached_root, has_root_reached}

-- ---- what is known of a subprogram, in the words of the definitions

abbrev pub Tells : Rooted → Typing → List Act → Question → Type 0
Tells t s acts q = (x : ℕ) → Decides (has_root t x) (HasRoot s acts q x)

abbrev pub TraversedTells : Option Traversed → Typing → List Act → Option ℕ → Type 0
TraversedTells None s acts formal = formal ≡ None
TraversedTells (Some t) s acts formal =
    (formal ≡ Some t.formal) × Tells t.own s acts (question.Is t.formal) × Tells t.other s acts (question.IsOther t.formal)

pub record Right (v : Views) (s : Typing) (sub : FlowSub) : Type 0 where
  pub typed : site v ≡ bare s
  pub function : v.function ≡ is_function sub
  pub variable : v.variable ≡ gives_variable s sub.result
  pub outer : Tells v.outer s (sub_acts sub) question.IsOuter
  pub traversed : TraversedTells v.traversed s (sub_acts sub) (traversed_formal s sub)

rooted_tells : (t : Rooted) (s : Typing) (q : Question) (rows : TypedNodes) (sub : LaidSub) → IsRooted t (bare s) q (lendings_of sub.points)
    → Tells t s (acts_on rows sub.points) q
rooted_tells t s q rows sub is x = (
  λ e. reached_root s q rows sub.points x tt ((is x).0 e),
  λ h. (is x).1 (has_root_reached s q rows sub.points x h),
)

variable_same : (s : Typing) (given : Option ℕ) → gives_variable (bare s) given ≡ gives_variable s given
variable_same s None = refl
variable_same s (Some t) = refl

traversed_tells : (t : Option Traversed) (s : Typing) (rows : TypedNodes) (sub : LaidSub) (formal : Option ℕ)
    → IsTraversed t (bare s) (lendings_of sub.points) formal → TraversedTells t s (acts_on rows sub.points) formal
traversed_tells None s rows sub formal is = is
traversed_tells (Some t) s rows sub formal is = (
  is.0,
  rooted_tells t.own s (question.Is t.formal) rows sub is.1,
  rooted_tells t.other s (question.IsOther t.formal) rows sub is.2,
)

pub views_right : (v : Views) (s : Typing) (scopes : List ℕ) (rows : TypedNodes) (sub : LaidSub) → AreViews v (bare s) scopes rows sub
    → Right v s (flow_sub_of rows sub)
views_right v s scopes rows sub a = record {
  typed = a.known;
  function = a.function;
  variable = a.variable ∙ variable_same s sub.result;
  outer = rooted_tells v.outer s question.IsOuter rows sub a.outer;
  traversed = traversed_tells v.traversed s rows sub (traversed_formal s (flow_sub_of rows sub)) a.traversed;
}

-- ---- constant views

-- the four kinds of constant views
abbrev constant_test : Bool → Bool → Bool → Bool → Bool → Bool → Bool → Bool → Bool → Bool
constant_test observer selected function outer borrower rooted formal within named =
    (observer && selected)
    || (if function then (outer || ((borrower && selected) && rooted)) else (formal && (within && not (named && selected))))

abbrev Kinds : Bool → Bool → Bool → Bool → Bool → Bool → Bool → Bool → Bool → Type 0
Kinds observer selected function outer borrower rooted formal within named =
    ((observer && selected) ≡ true)
    ⊎ (((function && outer) ≡ true)
    ⊎ ((((function && (borrower && selected)) ≡ true) × (rooted ≡ true))
    ⊎ ((not function && (formal && (within && (not named || not selected)))) ≡ true)))

kinds_of : (observer selected function outer borrower rooted formal within named : Bool)
    → constant_test observer selected function outer borrower rooted formal within named ≡ true
    → Kinds observer selected function outer borrower rooted formal within named
kinds_of observer selected true outer borrower rooted formal within named e = elim (or_cases (observer && selected) _ e) [
  | inl e ↦ inl e
  | inr e ↦ elim (or_cases outer ((borrower && selected) && rooted) e) [
    | inl e ↦ inr (inl e)
    | inr e ↦ inr (inr (inl (both_parts (borrower && selected) rooted e)))
  ]
]
kinds_of observer selected false outer borrower rooted formal within named e = elim (or_cases (observer && selected) _ e) [
  | inl e ↦ inl e
  | inr e ↦ inr (inr (inr (sym (ap (λ b. formal && (within && b)) (not_both named selected)) ∙ e)))
]

of_kinds : (observer selected function outer borrower rooted formal within named : Bool)
    → Kinds observer selected function outer borrower rooted formal within named
    → constant_test observer selected function outer borrower rooted formal within named ≡ true
of_kinds observer selected true outer borrower rooted formal within named k = elim k [
  | inl e ↦ or_true (observer && selected) _ (inl e)
  | inr k ↦ elim k [
    | inl e ↦ or_true (observer && selected) _ (inr (or_true outer ((borrower && selected) && rooted) (inl e)))
    | inr k ↦ elim k [
      | inl e ↦ or_true (observer && selected) _ (inr (or_true outer ((borrower && selected) && rooted) (inr (both_true (borrower && selected) rooted e.0 e.1))))
      | inr e ↦ absurd (true≢false (sym e))
    ]
  ]
]
of_kinds observer selected false outer borrower rooted formal within named k = elim k [
  | inl e ↦ or_true (observer && selected) _ (inl e)
  | inr k ↦ elim k [
    | inl e ↦ absurd (true≢false (sym e))
    | inr k ↦ elim k [
      | inl e ↦ absurd (true≢false (sym e.0))
      | inr e ↦ or_true (observer && selected) _ (inr (ap (λ b. formal && (within && b)) (not_both named selected) ∙ e))
    ]
  ]
]

abbrev constant_of : Typing → Bool → Bool → ℕ → Bool → Bool
constant_of s function rooted x selected =
    constant_test (is_observer s x) selected function (is_outer s x) (is_borrower s x) rooted (is_formal s x)
    (is_in_mode (object_at s x).mode) (is_named_access (view_of s x))

constant_is : (v : Views) (s : Typing) (sub : FlowSub) → Right v s sub → (x : ℕ) (selected : Bool)
    → is_constant v x selected ≡ constant_of s (is_function sub) (has_root v.outer x) x selected
constant_is v s sub r x selected =
    ap (λ t. constant_of t v.function (has_root v.outer x) x selected) r.typed
    ∙ ap (λ f. constant_of s f (has_root v.outer x) x selected) r.function

pub constant_sound : (v : Views) (s : Typing) (sub : FlowSub) → Right v s sub → (m : Name) (selected : Bool) → has_selector m ≡ selected
    → is_constant v m.root selected ≡ true → ConstantView s sub m
constant_sound v s sub r m selected is e =
    elim (kinds_of (is_observer s m.root) (has_selector m) (is_function sub) (is_outer s m.root) (is_borrower s m.root) (has_root v.outer m.root)
    (is_formal s m.root) (is_in_mode (object_at s m.root).mode) (is_named_access (view_of s m.root))
    (sym (constant_is v s sub r m.root (has_selector m)) ∙ ap (is_constant v m.root) is ∙ e)) [
      | inl e ↦ of_observer e
      | inr k ↦ elim k [
        | inl e ↦ in_function e
        | inr k ↦ elim k [
          | inl e ↦ (let h = (r.outer m.root).0 e.1 in of_borrower h.root e.0 h.is h.asked)
          | inr e ↦ of_formal e
        ]
      ]
    ]

pub constant_complete : (v : Views) (s : Typing) (sub : FlowSub) → Right v s sub → (m : Name) (selected : Bool) → has_selector m ≡ selected
    → ConstantView s sub m → is_constant v m.root selected ≡ true
constant_complete v s sub r m selected is c =
    sym (ap (is_constant v m.root) is) ∙ constant_is v s sub r m.root (has_selector m)
    ∙ of_kinds (is_observer s m.root) (has_selector m) (is_function sub) (is_outer s m.root) (is_borrower s m.root) (has_root v.outer m.root)
    (is_formal s m.root) (is_in_mode (object_at s m.root).mode) (is_named_access (view_of s m.root)) (by c)
  where
    by : ConstantView s sub m → Kinds (is_observer s m.root) (has_selector m) (is_function sub) (is_outer s m.root) (is_borrower s m.root)
        (has_root v.outer m.root) (is_formal s m.root) (is_in_mode (object_at s m.root).mode) (is_named_access (view_of s m.root))
    by (of_observer e) = inl e
    by (in_function e) = inr (inl e)
    by (of_borrower x e is out) = inr (inr (inl (e, (r.outer m.root).1 (record { root = x; is = is; asked = out }))))
    by (of_formal e) = inr (inr (inr e))

-- what a name designates has a selector
pub designated_selected : (m : Name) → has_selector (extend m (sel.Deref ∷ [])) ≡ true
designated_selected m = by m.sels
  where
    by : (sels : List Sel) → not (is_nil (sels ++ sel.Deref ∷ [])) ≡ true
    by [] = refl
    by (s ∷ sels) = refl

-- ---- the one root

only_sound : (t : Traversed) (s : Typing) (acts : List Act) → Tells t.own s acts (question.Is t.formal) → Tells t.other s acts (question.IsOther t.formal)
    → (x : ℕ) → is_only t x ≡ true → IsOnlyRoot s acts x t.formal
only_sound t s acts own other x e = (subst (Roots s acts x) (eqb-true h.root t.formal h.asked) h.is, λ r is. by r is (r == t.formal) refl)
  where
    parts : (has_root t.own x ≡ true) × (not (has_root t.other x) ≡ true)
    parts = both_parts (has_root t.own x) (not (has_root t.other x)) e

    h : HasRoot s acts (question.Is t.formal) x
    h = (own x).0 parts.0

    by : (r : ℕ) → Roots s acts x r → (b : Bool) → (r == t.formal) ≡ b → r ≡ t.formal
    by r is true same = eqb-true r t.formal same
    by r is false same =
        absurd (true≢false (sym parts.1 ∙ ap not ((other x).1 (record { root = r; is = is; asked = ap not same }))))

only_complete : (t : Traversed) (s : Typing) (acts : List Act) → Tells t.own s acts (question.Is t.formal) → Tells t.other s acts (question.IsOther t.formal)
    → (x : ℕ) → IsOnlyRoot s acts x t.formal → is_only t x ≡ true
only_complete t s acts own other x o =
    both_true (has_root t.own x) (not (has_root t.other x))
    ((own x).1 (record { root = t.formal; is = o.0; asked = eq-eqb t.formal t.formal refl })) (by (has_root t.other x) refl)
  where
    by : (b : Bool) → has_root t.other x ≡ b → not (has_root t.other x) ≡ true
    by false e = ap not e
    by true e =
        let h = (other x).0 e in
        absurd (true≢false (sym h.asked ∙ ap not (eq-eqb h.root t.formal (o.1 h.root h.is))))

same_some : (a b : ℕ) → Some a ≡ Some b → a ≡ b
same_some a b e = cc

-- what a traversal function gives is rooted in its traversed formal alone
pub given_sound : (v : Views) (s : Typing) (sub : FlowSub) → Right v s sub → (x : ℕ) → is_given v x ≡ true
    → (f : ℕ) × (traversed_formal s sub ≡ Some f) × IsOnlyRoot s (sub_acts sub) x f
given_sound v s sub r x e = by v.traversed r.traversed e
  where
    by : (t : Option Traversed) → TraversedTells t s (sub_acts sub) (traversed_formal s sub) → only_of t x ≡ true
        → (f : ℕ) × (traversed_formal s sub ≡ Some f) × IsOnlyRoot s (sub_acts sub) x f
    by None is e = absurd (true≢false (sym e))
    by (Some t) is e = (t.formal, is.0, only_sound t s (sub_acts sub) is.1 is.2 x e)

pub given_complete : (v : Views) (s : Typing) (sub : FlowSub) → Right v s sub → (x f : ℕ) → traversed_formal s sub ≡ Some f
    → IsOnlyRoot s (sub_acts sub) x f → is_given v x ≡ true
given_complete v s sub r x f formal o = by v.traversed r.traversed
  where
    by : (t : Option Traversed) → TraversedTells t s (sub_acts sub) (traversed_formal s sub) → only_of t x ≡ true
    by None is = (let none = sym is ∙ formal in cc)
    by (Some t) is =
        only_complete t s (sub_acts sub) is.1 is.2 x (subst (IsOnlyRoot s (sub_acts sub) x) (sym (same_some t.formal f (sym is.0 ∙ formal))) o)

-- ---- what may borrow

pub may_sound : (v : Views) (s : Typing) (sub : FlowSub) → Right v s sub → (h : ℕ) (m : Name) → may_borrow v m.root ≡ true
    → MayBorrow s sub (act.Borrow h m)
may_sound v s sub r h m e = by v.traversed r.traversed parts.1
  where
    parts : (v.variable ≡ true) × (borrows_through (is_borrower (site v) m.root) v.traversed m.root ≡ true)
    parts = both_parts v.variable (borrows_through (is_borrower (site v) m.root) v.traversed m.root) e

    gives : gives_variable s sub.result ≡ true
    gives = sym r.variable ∙ parts.0

    by : (t : Option Traversed) → TraversedTells t s (sub_acts sub) (traversed_formal s sub)
        → borrows_through (is_borrower (site v) m.root) t m.root ≡ true → MayBorrow s sub (act.Borrow h m)
    by None is e = absurd (true≢false (sym e))
    by (Some t) is e = elim (or_cases (m.root == t.formal) (is_borrower (site v) m.root && is_only t m.root) e) [
      | inl e ↦ directly h t.formal m gives is.0 (eqb-true m.root t.formal e)
      | inr e ↦
          let both = both_parts (is_borrower (site v) m.root) (is_only t m.root) e in
          through h t.formal m gives is.0 (sym (ap (λ y. is_borrower y m.root) r.typed) ∙ both.0)
          (only_sound t s (sub_acts sub) is.1 is.2 m.root both.1)
    ]

borrows_from : (v : Views) (s : Typing) (sub : FlowSub) → Right v s sub → (x f : ℕ) → traversed_formal s sub ≡ Some f
    → (x ≡ f) ⊎ ((is_borrower s x ≡ true) × IsOnlyRoot s (sub_acts sub) x f) → borrows_through (is_borrower (site v) x) v.traversed x ≡ true
borrows_from v s sub r x f formal how = by v.traversed r.traversed
  where
    by : (t : Option Traversed) → TraversedTells t s (sub_acts sub) (traversed_formal s sub)
        → borrows_through (is_borrower (site v) x) t x ≡ true
    by None is = (let none = sym is ∙ formal in cc)
    by (Some t) is =
        let same = same_some t.formal f (sym is.0 ∙ formal) in
        or_true (x == t.formal) (is_borrower (site v) x && is_only t x) (elim how [
          | inl e ↦ inl (eq-eqb x t.formal (e ∙ sym same))
          | inr o ↦ inr (both_true (is_borrower (site v) x) (is_only t x) (ap (λ y. is_borrower y x) r.typed ∙ o.0)
              (only_complete t s (sub_acts sub) is.1 is.2 x (subst (IsOnlyRoot s (sub_acts sub) x) (sym same) o.1)))
        ])

pub may_complete : (v : Views) (s : Typing) (sub : FlowSub) → Right v s sub → (h : ℕ) (m : Name) → MayBorrow s sub (act.Borrow h m)
    → may_borrow v m.root ≡ true
may_complete v s sub r h' m' (directly h f m gives formal is) =
    both_true v.variable (borrows_through (is_borrower (site v) m.root) v.traversed m.root) (r.variable ∙ gives)
    (borrows_from v s sub r m.root f formal (inl is))
may_complete v s sub r h' m' (through h f m gives formal borrower only) =
    both_true v.variable (borrows_through (is_borrower (site v) m.root) v.traversed m.root) (r.variable ∙ gives)
    (borrows_from v s sub r m.root f formal (inr (borrower, only)))
