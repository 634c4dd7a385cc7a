-- What acts change or lend at a point is named there; a formal of mode `in` is one of the subprogram itself, which it may
-- change through.
use Rattle.std.specs.Prelude.{IsTrue}
use Rattle.std.specs.List.{list_any}
use Rattle.std.proofs.Common.{◌≡◌, refl, sym, ap, ◌∙◌, subst, ◌⊎◌, inl, inr, ℕ, Bool, true, false, not, ◌&&◌, ◌||◌, ◌==◌, eq-eqb, List, [], ◌∷◌, ◌++◌, Option, Some, None, is_some}
use Rattle.std.proofs.lemmas.Bool.{false≢true, true≢false}
use Rattle.machine.specs.spark_base.Lists.{Has}
use Rattle.soundness.proofs.Lists.{Has-map}
use Rattle.machine.specs.place_names.declared.act.Act.{Act}
use Rattle.machine.specs.place_names.declared.act.Act.TheVariants as act
use Rattle.machine.specs.place_names.declared.act.Placed.{Placed}
use Rattle.machine.specs.place_names.declared.rule.Rule.TheVariants as rule
use Rattle.machine.specs.place_names.declared.selector.Sel.{Sel}
use Rattle.machine.specs.place_names.declared.selector.Sel.TheVariants as sel
use Rattle.machine.specs.place_names.Names.{Name as PlaceName, extend}
use Rattle.machine.specs.type_definitions.Types.{Table, is_nil, is_owning}
use Rattle.machine.specs.typed_tree.Programs.{TypedProgram}
use Rattle.machine.specs.flow_paths.declared.report.Effects.{Effects}
use Rattle.machine.specs.flow_paths.Objects.{Typing, object_at, is_borrower, is_formal, is_named_access, is_observer, is_anonymous, is_package_object, has_scope_end, view_of}
use Rattle.machine.specs.flow_paths.Acts.{acts_of, gives_variable}
use Rattle.machine.specs.flow_paths.Points.{NamedPoint, FlowPoint}
use Rattle.machine.specs.flow_paths.Laid.{FlowSub, FlowProgram, NamedSub, signature, kept_roots, sub_facts, flow_sub, typing_of, flow_typing, flow_program, flow_named}
use Rattle.machine.specs.flow_paths.Reports.{on_views}
use Rattle.machine.specs.flow_paths.Views.{changes, lends, ConstantView, holds_loans, of_formal, in_function, changed, lent, MayBorrow, directly, through, is_function, is_in_mode, has_selector, text_report}
use Rattle.machine.specs.Owners.{is_in, is_in_formal}
use Rattle.soundness.specs.Seen.{is_view_formal}
use Rattle.soundness.proofs.Points.{flow_at}
use Rattle.soundness.specs.TypedLaws.Needed.{IsFine}
use Rattle.soundness.specs.ViewedSoundness.Holds.{is_given, is_of_procedure, is_exclusive}
use Rattle.settled_types.specs.OrderLaws.ScopeLaws.Order.{named_in}
use Rattle.accepted_runs.specs.ViewedFiles.ViewLaws.Program.{IsViewProgram}
use Rattle.accepted_runs.proofs.ViewedFiles.ViewLaws.Calls.{point_good}
use Rattle.accepted_runs.proofs.ViewedFiles.ViewLaws.Reports.{unchanged}
use Rattle.accepted_runs.proofs.ViewedFiles.ViewLaws.Scoped as scoped
use Rattle.accepted_runs.proofs.ViewedFiles.ViewLaws.Valued as valued
use Rattle.accepted_runs.proofs.ViewedFiles.ViewLaws.Own as own_formals

-- ---- tests

pub bool_cases : (b : Bool) → (b ≡ true) ⊎ (b ≡ false)
bool_cases true = inl refl
bool_cases false = inr refl

pub nil_is : (xs : List Sel) → is_nil xs ≡ true → xs ≡ []
nil_is [] e = refl
nil_is (x ∷ xs) e = absurd (false≢true e)

pub both_first : (a b : Bool) → a && b ≡ true → a ≡ true
both_first true b e = refl
both_first false b e = e

pub both_second : (a b : Bool) → a && b ≡ true → b ≡ true
both_second true b e = e
both_second false b e = absurd (false≢true e)

either_one : (a b : Bool) → a || b ≡ true → (a ≡ true) ⊎ (b ≡ true)
either_one true b e = inl refl
either_one false b e = inr e

-- what sees by itself, and is no observer, is such a formal
pub seen_one : (observes given exclusive : Bool) → observes ≡ false → observes || (given && not exclusive) ≡ true → (given ≡ true) × (exclusive ≡ false)
seen_one true given exclusive none is = absurd (true≢false none)
seen_one false true false none is = (refl, refl)
seen_one false true true none is = absurd (false≢true is)
seen_one false false exclusive none is = absurd (false≢true is)

pub any_there : {A : Type 0} (test : A → Bool) (xs : List A) (x : A) → Has xs x → test x ≡ true → list_any test xs ≡ true
any_there test [] x has is = absurd has
any_there test (y ∷ xs) x (inl same) is = ap (λ b. b || list_any test xs) (ap test same ∙ is)
any_there test (y ∷ xs) x (inr has) is = or_right (test y) (list_any test xs) (any_there test xs x has is)
  where
    or_right : (a b : Bool) → b ≡ true → a || b ≡ true
    or_right true b e = refl
    or_right false b e = e

pub or_first : (a b : Bool) → a || b ≡ false → a ≡ false
or_first true b e = e
or_first false b e = refl

pub or_second : (a b : Bool) → a || b ≡ false → b ≡ false
or_second true b e = absurd (true≢false e)
or_second false b e = e

pub no_truth : {A : Type 0} → IsTrue false → A
no_truth h = (let no : false ≡ true = h in absurd (false≢true no))

pub outer : (a b c : Bool) → IsTrue (a && b) → IsTrue (a && (b || c))
outer true true c h = h
outer true false c h = no_truth h
outer false b c h = no_truth h

pub flipped : (b : Bool) → not b ≡ true → b ≡ false
flipped true e = sym e
flipped false e = refl

pub by_true : (b : Bool) → (b ≡ true → ⊥) → b ≡ false
by_true true none = absurd (none refl)
by_true false none = refl

pub both : (a b : Bool) → a ≡ true → b ≡ true → a && b ≡ true
both a b e f = ap (λ z. z && b) e ∙ f

pub some_more : (xs : List Sel) (x : Sel) → not (is_nil (xs ++ x ∷ [])) ≡ true
some_more [] x = refl
some_more (y ∷ xs) x = refl

-- a formal of mode `in` that is changed, or through which something is borrowed, in no function
pub may_change : (formal inn access whole function : Bool) → formal ≡ true → inn ≡ true
    → (IsTrue (not function && (formal && (inn && (not access || not whole)))) → ⊥) → (IsTrue (function && formal) → ⊥)
    → (function ≡ false) × (access ≡ true) × (whole ≡ true)
may_change true true true true false is also none never = (refl, refl, refl)
may_change true true true false false is also none never = absurd (none refl)
may_change true true false whole false is also none never = absurd (none refl)
may_change true true access whole true is also none never = absurd (never refl)
may_change true false access whole function is also none never = absurd (false≢true also)
may_change false inn access whole function is also none never = absurd (false≢true is)

-- what a function lends that borrows from its first formal
may_give : (s : Typing) (sub : FlowSub) (a : Act) → MayBorrow s sub a → is_function sub ≡ true
may_give s sub _ (directly h f m gives traversed root) = gives_some sub.result gives
  where
    gives_some : (r : Option ℕ) → IsTrue (gives_variable s r) → is_some r ≡ true
    gives_some None never = no_truth never
    gives_some (Some t) gives = refl
may_give s sub _ (through h f m gives traversed borrows only) = gives_some sub.result gives
  where
    gives_some : (r : Option ℕ) → IsTrue (gives_variable s r) → is_some r ≡ true
    gives_some None never = no_truth never
    gives_some (Some t) gives = refl

-- ---- programs

module _ (table : Table) (typed : TypedProgram) (effects : Effects) (given : IsViewProgram table typed effects) where
  abbrev program : FlowProgram
  program = flow_program table typed

  abbrev s : Typing
  s = flow_typing program

  abbrev own : Typing
  own = typing_of table typed

  pub given_formal : (x : ℕ) → is_given s x ≡ true → is_in_formal s x ≡ true
  given_formal x is = elim (either_one (is_view_formal s x) (is_in_formal s x && is_anonymous (view_of s x)) is) [
    | inl shown ↦ both_first (is_in_formal s x) (is_owning s.table (object_at s x).of) shown
    | inr view ↦ both_first (is_in_formal s x) (is_anonymous (view_of s x)) view
  ]

  given_lasts : (x : ℕ) → is_given s x ≡ true → has_scope_end s x ≡ true
  given_lasts x is = elim (either_one (is_view_formal s x) (is_in_formal s x && is_anonymous (view_of s x)) is) [
    | inl shown ↦ ap (λ b. b || is_anonymous (view_of s x)) (both_second (is_in_formal s x) (is_owning s.table (object_at s x).of) shown)
    | inr view ↦ by (is_owning s.table (object_at s x).of) (both_second (is_in_formal s x) (is_anonymous (view_of s x)) view)
  ]
    where
      by : (b : Bool) → is_anonymous (view_of s x) ≡ true → b || is_anonymous (view_of s x) ≡ true
      by true e = refl
      by false e = e

  -- ---- a point

  module _ (named : NamedSub) (has : Has (flow_named table typed) named) (p : NamedPoint) (there : Has named.points p) where
    abbrev sub : FlowSub
    sub = flow_sub own named

    abbrev at : FlowPoint
    at = flow_at own named p

    in_program : Has program.subs sub
    in_program = scoped.in_program table typed effects given named has

    in_sub : Has sub.points at
    in_sub = Has-map (λ (q : NamedPoint). flow_at own named q) named.points p there

    abbrev kept : List ℕ
    kept = kept_roots own 0 own.objects (sub_facts own named.sub named.points)

    abbrev acts_here : Typing → List Placed
    acts_here z = acts_of (record { typing = z; result = named.sub.result; roots = kept }) p.pos p.instr

    fine_there : IsFine s named.sub.result p.instr
    fine_there = scoped.fine_there table typed effects given named has p there

    pub act_there : (a : Placed) → Has (acts_here s) a → Has at.acts a
    act_there a h = subst (λ ps. Has ps a) (scoped.acts_same table typed effects given named has p there named.sub.result kept) h

    -- what is changed is named, and no borrower or observer if it is changed as a whole
    pub changed_named : (a : Placed) → Has at.acts a → (m : PlaceName) → changes a.act ≡ Some m → Has (named_in p.instr) m.root × (m.sels ≡ [] → holds_loans s m.root ≡ false)
    changed_named a h m e =
        (point_good program given.owns given.parts_named p.instr (given.stored sub in_program at in_sub) named.sub.result kept p.pos fine_there
        (scoped.plainly table typed effects given sub in_program at in_sub) (scoped.source_there table typed effects given named has p there) a
        (subst (λ ps. Has ps a) (sym (scoped.acts_same table typed effects given named has p there named.sub.result kept)) h)).1 m e

    pub lent_named : (a : Placed) → Has at.acts a → (m : PlaceName) → lends a.act ≡ Some m → Has (named_in p.instr) m.root
    lent_named a h m e =
        (point_good program given.owns given.parts_named p.instr (given.stored sub in_program at in_sub) named.sub.result kept p.pos fine_there
        (scoped.plainly table typed effects given sub in_program at in_sub) (scoped.source_there table typed effects given named has p there) a
        (subst (λ ps. Has ps a) (sym (scoped.acts_same table typed effects given named has p there named.sub.result kept)) h)).2 m e

    pub changed_plain : (a : Placed) → Has at.acts a → (m : PlaceName) → changes a.act ≡ Some m → is_observer s m.root ≡ false
    changed_plain a h m e = elim (bool_cases (is_nil m.sels)) [
      | inl empty ↦ or_second (is_borrower s m.root) (is_observer s m.root) ((changed_named a h m e).1 (nil_is m.sels empty))
      | inr some ↦ unchanged program effects given.accepted.no_reports sub in_program at in_sub a h m e (ap not some)
    ]

    -- a formal of the program that a procedure names, of a named access type, is changed through
    pub own_exclusive : (x : ℕ) → Has (named_in p.instr) x → is_given s x ≡ true → is_function sub ≡ false → is_named_access (view_of s x) ≡ true → is_exclusive s x ≡ true
    own_exclusive x names is procedure access = elim (valued.where_is table typed effects given named has) [
      | inl e ↦ absurd (scoped.names_none table typed effects given named e p there x names (given_lasts x is))
      | inr inside ↦ (
          let body = valued.body table typed effects given named has inside in
          let formal : Has named.sub.formals x = own_formals.formals_own table typed effects given named has inside p there x names
          (both_first (is_formal s x) (is_in (object_at s x).mode) (given_formal x is)) in
          let mine : Has own.subs (signature named.sub) =
          subst (λ (z : NamedSub). Has own.subs (signature z.sub)) body.4
          (Has-map signature typed.subs body.0 (scoped.in_subs table typed effects given body.0 body.1)) in
          let lends : is_of_procedure x (signature named.sub) ≡ true =
          ap (λ b. not b && list_any (λ y. y == x) named.sub.formals) procedure
          ∙ any_there (λ y. y == x) named.sub.formals x formal (eq-eqb x x refl) in
          let any : list_any (is_of_procedure x) s.subs ≡ true =
          ap (list_any (is_of_procedure x)) (scoped.alike table typed effects given).subs ∙ any_there (is_of_procedure x) own.subs (signature named.sub) mine lends in
          ap (λ b. b && list_any (is_of_procedure x) s.subs) access ∙ any)
    ]

    -- a formal of mode `in` that is changed is changed through
    pub changed_formal : (a : Placed) → Has at.acts a → (m : PlaceName) → changes a.act ≡ Some m → is_given s m.root ≡ true
        → (is_function sub ≡ false) × (is_named_access (view_of s m.root) ≡ true) × (has_selector m ≡ true)
    changed_formal a h m e is =
        let formal = given_formal m.root is in
        may_change (is_formal s m.root) (is_in_mode (object_at s m.root).mode) (is_named_access (view_of s m.root)) (has_selector m) (is_function sub)
        (both_first (is_formal s m.root) (is_in (object_at s m.root).mode) formal)
        (both_second (is_formal s m.root) (is_in (object_at s m.root).mode) formal) (λ view. no_view (of_formal view))
        (λ view. no_view (in_function (outer (is_function sub) (is_formal s m.root) (is_package_object s m.root) view)))
      where
        no_view : ConstantView s sub m → ⊥
        no_view view = given.accepted.no_reports.complete (text_report a.pos rule.V1 m) (on_views sub in_program (changed at a m (in_sub, h) e view))

    -- where a formal is borrowed from that nothing is changed through, a function does it
    pub borrow_function : (a : Placed) → Has at.acts a → (x : ℕ) (m : PlaceName) → a.act ≡ act.Borrow x m → is_given s m.root ≡ true → is_exclusive s m.root ≡ false → is_function sub ≡ true
    borrow_function a h x m is is_one seen = by (is_function sub) refl
      where
        by : (b : Bool) → is_function sub ≡ b → b ≡ true
        by true function = refl
        by false procedure = absurd (refused (may_change (is_formal s m.root) (is_in_mode (object_at s m.root).mode) (is_named_access (view_of s m.root))
            (has_selector (extend m (sel.Deref ∷ []))) (is_function sub) (both_first (is_formal s m.root) (is_in (object_at s m.root).mode) (given_formal m.root is_one))
            (both_second (is_formal s m.root) (is_in (object_at s m.root).mode) (given_formal m.root is_one)) (λ view. no_view (of_formal view))
            (λ view. no_view (in_function (outer (is_function sub) (is_formal s m.root) (is_package_object s m.root) view)))))
          where
            no_view : ConstantView s sub (extend m (sel.Deref ∷ [])) → ⊥
            no_view view =
                given.accepted.no_reports.complete (text_report a.pos rule.V1 m)
                (on_views sub in_program (lent at a m (in_sub, h) (ap lends is) view (λ may. (let no : true ≡ false = sym (may_give s sub a.act may) ∙ procedure in absurd (true≢false no)))))

            refused : (is_function sub ≡ false) × (is_named_access (view_of s m.root) ≡ true) × (has_selector (extend m (sel.Deref ∷ [])) ≡ true) → ⊥
            refused found = (let no : false ≡ true = sym seen ∙ own_exclusive m.root (lent_named a h m (ap lends is)) is_one found.0 found.1 in absurd (false≢true no))
