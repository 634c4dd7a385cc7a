-- What is changed or lent may be: it isn't named through what only sees.
use Rattle.std.proofs.Common.{◌≡◌, refl, sym, ap, ◌∙◌, subst, inl, inr, ℕ, Bool, true, false, not, ◌&&◌, ◌||◌, ◌<◌, arith, List, [], ◌∷◌, map, length, Option, Some, is_some}
use Rattle.std.proofs.lemmas.Bool.{false≢true, true≢false}
use Rattle.machine.specs.spark_base.declared.position.Pos.{Pos}
use Rattle.machine.specs.spark_base.Lists.{Has}
use Rattle.soundness.proofs.Lists.{Has-append_left, Has-append_right, Has-map, Has-map_from}
use Rattle.machine.specs.place_names.declared.act.Act.{Act}
use Rattle.machine.specs.place_names.declared.act.Act.TheVariants as act
use Rattle.machine.specs.place_names.declared.act.Mode.{Mode}
use Rattle.machine.specs.place_names.declared.act.Mode.TheVariants as mode
use Rattle.machine.specs.place_names.declared.act.Placed.{Placed}
use Rattle.machine.specs.place_names.declared.rule.Rule.TheVariants as rule
use Rattle.machine.specs.place_names.declared.selector.Sel.TheVariants as sel
use Rattle.machine.specs.place_names.Names.{Name as PlaceName, extend}
use Rattle.machine.specs.type_definitions.declared.table.Shape.{Shape}
use Rattle.machine.specs.type_definitions.declared.table.Shape.TheVariants as shape
use Rattle.machine.specs.type_definitions.Types.{Table, shape_of, is_nil, is_owning}
use Rattle.machine.specs.type_definitions.Types as types
use Rattle.machine.specs.typed_tree.Trees.{TypedTree, Name, Component, Designated, Element, NoMore, More}
use Rattle.machine.specs.typed_tree.Programs.{TypedProgram}
use Rattle.machine.specs.flow_paths.declared.report.Effects.{Effects}
use Rattle.machine.specs.flow_paths.Instructions.{Call, Input}
use Rattle.machine.specs.flow_paths.Objects.{Typing, Signature, passing_by, passings, object_at, sub_at, is_borrower, is_formal, is_named_access, is_observer, is_anonymous, is_package_object, has_scope_end, view_of}
use Rattle.machine.specs.flow_paths.Names.{selectors, name_of}
use Rattle.machine.specs.flow_paths.Acts.{placed, acts_in, acts_of, actual_values, actual_act, actual_acts}
use Rattle.machine.specs.flow_paths.Points.{NamedPoint, FlowPoint}
use Rattle.machine.specs.flow_paths.Laid.{FlowSub, FlowProgram, NamedSub, kept_roots, sub_facts, flow_sub, typing_of, flow_typing, flow_program, flow_named}
use Rattle.machine.specs.flow_paths.Reports.{on_views}
use Rattle.machine.specs.flow_paths.Views.{changes, lends, ConstantView, holds_loans, of_observer, of_formal, in_function, of_borrower, changed, lent, MayBorrow, directly, through, is_function, is_in_mode, has_selector, text_report}
use Rattle.machine.specs.States.{sub_of}
use Rattle.machine.specs.Owners.{is_in, is_in_formal}
use Rattle.soundness.specs.Ready.{root_of}
use Rattle.viewed_steps.specs.Ready.{IsOwnPlace, IsActualTo, AreActualsTo, AreUnobserved}
use Rattle.viewed_steps.proofs.Called.{way_to, passes_to}
use Rattle.soundness.specs.Seen.{is_view_formal}
use Rattle.soundness.proofs.Points.{flow_at}
use Rattle.soundness.proofs.Typings.{package_same}
use Rattle.soundness.specs.TypedLaws.Needed.{Leads, IsPlace}
use Rattle.soundness.specs.Sound.{goes_through_none}
use Rattle.soundness.specs.ViewedSoundness.Holds.{is_given, is_exclusive, sees_only, is_fixed, KeepsObserved, AllKeep}
use Rattle.viewed_steps.specs.Seeing.{sees_in}
use Rattle.viewed_steps.proofs.Sees.{kind_seen}
use Rattle.settled_types.specs.OrderLaws.ScopeLaws.Order.{named_in}
use Rattle.accepted_runs.specs.ViewedFiles.ViewLaws.Program.{IsPassedTo, ArePassedTo, IsViewProgram}
use Rattle.accepted_runs.proofs.ViewedFiles.ViewLaws.Calls.{IsPlainCall, IsThroughCall}
use Rattle.viewed_steps.proofs.Followed.{is_traversing}
use Rattle.soundness.proofs.Passing.{signature_is}
use Rattle.accepted_runs.proofs.ViewedFiles.ViewLaws.Scoped as scoped
use Rattle.accepted_runs.proofs.ViewedFiles.ViewLaws.Valued as valued
use Rattle.accepted_runs.proofs.ViewedFiles.ViewLaws.Own as own_formals
use Rattle.accepted_runs.proofs.ViewedFiles.ViewLaws.Changed as acted
use Rattle.accepted_runs.proofs.ViewedFiles.ViewLaws.Changed.{both_first, both_second, seen_one, or_first, nil_is, flipped, some_more, both, by_true, outer, may_change}
use Rattle.accepted_runs.proofs.ViewedFiles.ViewLaws.Sees.{borrower_anonymous}
use Rattle.accepted_runs.proofs.ViewedFiles.ViewLaws.Back.{goes_back}

-- ---- tests

or_left : (a b : Bool) → a ≡ true → a || b ≡ true
or_left a b e = ap (λ z. z || b) e

or_right : (a b : Bool) → b ≡ true → a || b ≡ true
or_right true b e = refl
or_right false b e = e

fixed_none : (sees given whole : Bool) → sees ≡ false → (given ≡ true → whole ≡ false) → sees || (given && whole) ≡ false
fixed_none true given whole none other = none
fixed_none false false whole none other = refl
fixed_none false true whole none other = other refl

no_borrow : (s : Typing) (sub : FlowSub) (a : Act) (k : PlaceName) (how : Mode) (owning access : Bool) → MayBorrow s sub a → a ≡ act.Actual k how owning access → ⊥
no_borrow s sub _ k how owning access (directly h f m gives traversed root) is = cc
no_borrow s sub _ k how owning access (through h f m gives traversed borrows only) is = cc

all_keep : (fixed : PlaceName → Bool) (acts : List Placed) → ((a : Placed) → Has acts a → (m : PlaceName) → changes a.act ≡ Some m → fixed m ≡ false)
    → ((a : Placed) → Has acts a → (k m : PlaceName) (how : Mode) (owning access : Bool) → a.act ≡ act.Actual k how owning access → lends a.act ≡ Some m
    → fixed (extend m (sel.Deref ∷ [])) ≡ false)
    → AllKeep fixed (map (λ (a : Placed). a.act) acts)
all_keep fixed [] h g = tt
all_keep fixed (a ∷ acts) h g =
    (one a.act (λ m e. h a (inl refl) m e) (λ k m how owning access e f. g a (inl refl) k m how owning access e f), all_keep fixed acts (λ b has. h b (inr has)) (λ b has. g b (inr has)))
  where
    one : (a : Act) → ((m : PlaceName) → changes a ≡ Some m → fixed m ≡ false)
        → ((k m : PlaceName) (how : Mode) (owning access : Bool) → a ≡ act.Actual k how owning access → lends a ≡ Some m → fixed (extend m (sel.Deref ∷ [])) ≡ false)
        → KeepsObserved fixed a
    one (act.Move m parts) h g = h m refl
    one (act.Write m) h g = h m refl
    one (act.Free m) h g = h m refl
    one (act.Actual m mode.In owning true) h g = g m m mode.In owning true refl refl
    one (act.Actual m mode.In owning false) h g = tt
    one (act.Actual m mode.Out owning access) h g = tt
    one (act.Actual m mode.InOut owning access) h g = tt
    one _ h g = tt

-- ---- programs

unnamed_access : (v : Shape) → is_named_access (types.view_of v) ≡ true → (d : ℕ) × (k : Bool) × (n : Bool) × (v ≡ shape.Access d k n)
unnamed_access (shape.Access d k n) is = (d, k, n, refl)
unnamed_access v is = absurd (false≢true is)

module _ (table : Table) (typed : TypedProgram) (effects : Effects) (given : IsViewProgram table typed effects) where
  abbrev program : FlowProgram
  program = flow_program table typed

  abbrev s : Typing
  s = flow_typing program

  abbrev own : Typing
  own = typing_of table typed

  abbrev sees : ℕ → Bool
  sees = sees_in program

  -- ---- a point

  module _ (named : NamedSub) (has : Has (flow_named table typed) named) (p : NamedPoint) (there : Has named.points p) where
    abbrev sub : FlowSub
    sub = flow_sub own named

    abbrev at : FlowPoint
    at = flow_at own named p

    in_program : Has program.subs sub
    in_program = scoped.in_program table typed effects given named has

    in_sub : Has sub.points at
    in_sub = Has-map (λ (q : NamedPoint). flow_at own named q) named.points p there

    abbrev kept : List ℕ
    kept = kept_roots own 0 own.objects (sub_facts own named.sub named.points)

    abbrev acts_here : Typing → List Placed
    acts_here z = acts_of (record { typing = z; result = named.sub.result; roots = kept }) p.pos p.instr

    act_there : (a : Placed) → Has (acts_here s) a → Has at.acts a
    act_there = acted.act_there table typed effects given named has p there

    -- A formal that may be changed through doesn't see.
    plain_formal : (m : PlaceName) → Has (named_in p.instr) m.root → is_observer s m.root ≡ false
        → (is_given s m.root ≡ true → (is_function sub ≡ false) × (is_named_access (view_of s m.root) ≡ true)) → sees_only s m.root ≡ false
    plain_formal m names none changes_it = by (sees_only s m.root) refl
      where
        by : (b : Bool) → sees_only s m.root ≡ b → b ≡ false
        by false e = refl
        by true only =
            (let one = seen_one (is_observer s m.root) (is_given s m.root) (is_exclusive s m.root) none only in
            let found = changes_it one.0 in
            let no : false ≡ true = sym one.1 ∙ acted.own_exclusive table typed effects given named has p there m.root names one.0 found.0 found.1 in absurd (false≢true no))

    -- A borrower that sees goes back to a formal, so a name through it is a constant view.
    constant_borrower : (m : PlaceName) → Has (named_in p.instr) m.root → is_borrower s m.root ≡ true → sees m.root ≡ true → has_selector m ≡ true → ConstantView s sub m
    constant_borrower m names borrower seen some = elim (valued.where_is table typed effects given named has) [
      | inl e ↦ absurd (scoped.names_none table typed effects given named e p there m.root names (lasts m.root (borrower_anonymous s m.root borrower)))
      | inr inside ↦ elim (own_formals.objects_own table typed effects given named has inside p there m.root names) [
        | inl outer ↦ absurd (
            let no : false ≡ true =
            sym (scoped.local table typed effects given m.root (borrower_anonymous s m.root borrower)) ∙ package_same s own (scoped.alike table typed effects given) m.root ∙ outer in cc)
        | inr object ↦ (
            let back = goes_back table typed effects given m.root seen borrower named inside object in
            of_borrower back.1 (both (is_function sub) (is_borrower s m.root && has_selector m) back.0 (both (is_borrower s m.root) (has_selector m) borrower some)) back.2
            (or_left (is_formal s back.1) (is_package_object s back.1) back.3))
      ]
    ]
      where
        lasts : (x : ℕ) → is_anonymous (view_of s x) ≡ true → has_scope_end s x ≡ true
        lasts x anonymous = or_right (is_owning s.table (object_at s x).of) (is_anonymous (view_of s x)) anonymous

    -- What only sees does so by itself, or is a borrower.
    unseen : (m : PlaceName) → sees_only s m.root ≡ false → (is_borrower s m.root ≡ true → sees m.root ≡ true → ⊥) → sees m.root ≡ false
    unseen m plain none = by (sees m.root) refl
      where
        by : (b : Bool) → sees m.root ≡ b → b ≡ false
        by false e = refl
        by true is = absurd (elim (kind_seen program m.root is) [
          | inl only ↦ (let no : false ≡ true = sym plain ∙ only in absurd (false≢true no))
          | inr borrower ↦ none borrower is
        ])

    -- So what is changed isn't fixed.
    pub unfixed : (a : Placed) → Has at.acts a → (m : PlaceName) → changes a.act ≡ Some m → is_fixed s sees m ≡ false
    unfixed a h m e =
        fixed_none (sees m.root) (is_given s m.root) (is_nil m.sels)
        (unseen m (plain_formal m names.0 (acted.changed_plain table typed effects given named has p there a h m e) (λ is. (let found = formal is in (found.0, found.1))))
        (λ borrower is. no_view (constant_borrower m names.0 borrower is (some borrower))))
        (λ is. flipped (is_nil m.sels) (formal is).2)
      where
        names : Has (named_in p.instr) m.root × (m.sels ≡ [] → holds_loans s m.root ≡ false)
        names = acted.changed_named table typed effects given named has p there a h m e

        formal : is_given s m.root ≡ true → (is_function sub ≡ false) × (is_named_access (view_of s m.root) ≡ true) × (has_selector m ≡ true)
        formal = acted.changed_formal table typed effects given named has p there a h m e

        no_view : ConstantView s sub m → ⊥
        no_view view = given.accepted.no_reports.complete (text_report a.pos rule.V1 m) (on_views sub in_program (changed at a m (in_sub, h) e view))

        some : is_borrower s m.root ≡ true → has_selector m ≡ true
        some borrower = by (is_nil m.sels) refl
          where
            by : (b : Bool) → is_nil m.sels ≡ b → not b ≡ true
            by false e = refl
            by true empty = (let no : true ≡ false = sym borrower ∙ or_first (is_borrower s m.root) (is_observer s m.root) (names.1 (nil_is m.sels empty)) in absurd (true≢false no))

    -- nor is what a call of a procedure lends
    pub unlent : (a : Placed) → Has at.acts a → (k m : PlaceName) (how : Mode) (owning access : Bool) → a.act ≡ act.Actual k how owning access → lends a.act ≡ Some m
        → is_fixed s sees (extend m (sel.Deref ∷ [])) ≡ false
    unlent a h k m how owning access is e =
        fixed_none (sees m.root) (is_given s m.root) (is_nil (extend m (sel.Deref ∷ [])).sels)
        (unseen m (plain_formal m names unseen_there (λ is. (let found = lends_it is in (found.0, found.1))))
        (λ borrower seen. no_view (constant_borrower (extend m (sel.Deref ∷ [])) names borrower seen some)))
        (λ is. flipped (is_nil (extend m (sel.Deref ∷ [])).sels) (lends_it is).2)
      where
        names : Has (named_in p.instr) m.root
        names = acted.lent_named table typed effects given named has p there a h m e

        no_view : ConstantView s sub (extend m (sel.Deref ∷ [])) → ⊥
        no_view view =
            given.accepted.no_reports.complete (text_report a.pos rule.V1 m)
            (on_views sub in_program (lent at a m (in_sub, h) e view (λ may. no_borrow s sub a.act k how owning access may is)))

        some : has_selector (extend m (sel.Deref ∷ [])) ≡ true
        some = some_more m.sels sel.Deref

        unseen_there : is_observer s m.root ≡ false
        unseen_there = by_true (is_observer s m.root) (λ sight. no_view (of_observer (both (is_observer s m.root) (has_selector (extend m (sel.Deref ∷ []))) sight some)))

        lends_it : is_given s m.root ≡ true → (is_function sub ≡ false) × (is_named_access (view_of s m.root) ≡ true) × (has_selector (extend m (sel.Deref ∷ [])) ≡ true)
        lends_it is_one =
            let formal = acted.given_formal table typed effects given m.root is_one in
            may_change (is_formal s m.root) (is_in_mode (object_at s m.root).mode) (is_named_access (view_of s m.root)) (has_selector (extend m (sel.Deref ∷ []))) (is_function sub)
            (both_first (is_formal s m.root) (is_in (object_at s m.root).mode) formal)
            (both_second (is_formal s m.root) (is_in (object_at s m.root).mode) formal) (λ view. no_view (of_formal view))
            (λ view. no_view (in_function (outer (is_function sub) (is_formal s m.root) (is_package_object s m.root) view)))

    pub read_plain : (q : Pos) (x w : ℕ) (path : TypedTree) → p.instr ≡ Input (Name q x path w) → sees x ≡ false
    read_plain q x w path is =
        let a : Placed = placed q (act.Actual (name_of x path) mode.Out false false) in
        let h : Has (acts_here s) a =
        subst (λ i. Has (acts_of (record { typing = s; result = named.sub.result; roots = kept }) p.pos i) a) (sym is)
        (Has-append_right (acts_in s path) (a ∷ []) a (inl refl)) in
        or_first (sees x) (is_given s x && is_nil (name_of x path).sels) (unfixed a (act_there a h) (name_of x path) refl)

    -- ---- what is copied back to

    changed_open : (a : Placed) → Has at.acts a → (m : PlaceName) → changes a.act ≡ Some m → sees m.root ≡ false
    changed_open a h m e = or_first (sees m.root) (is_given s m.root && is_nil m.sels) (unfixed a h m e)

    one_open : (m : Mode) (owning access : Bool) → is_in m ≡ false → (e : TypedTree) → ((a : Placed) → Has (actual_act (passing_by m owning access) e) a → Has at.acts a)
        → (y : ℕ) → Has (root_of e) y → sees y ≡ false
    one_open mode.In owning access back e acts y root = absurd (true≢false back)
    one_open mode.Out owning access back (Name q z steps t) acts y (inl same) =
        subst (λ k. sees k ≡ false) same
        (changed_open (placed q (act.Actual (name_of z steps) mode.Out owning access)) (acts _ (inl refl)) (name_of z steps) refl)
    one_open mode.Out owning access back (Name q z steps t) acts y (inr none) = absurd none
    one_open mode.Out owning access back e acts y root = absurd root
    one_open mode.InOut owning access back (Name q z steps t) acts y (inl same) =
        subst (λ k. sees k ≡ false) same
        (changed_open (placed q (act.Actual (name_of z steps) mode.InOut owning access)) (acts _ (inl refl)) (name_of z steps) refl)
    one_open mode.InOut owning access back (Name q z steps t) acts y (inr none) = absurd none
    one_open mode.InOut owning access back e acts y root = absurd root

    all_open : (procedure : Bool) (formals : List ℕ) (actuals : TypedTree)
        → ((a : Placed) → Has (actual_acts (map (way_to s given.owns procedure) formals) actuals) a → Has at.acts a) → AreUnobserved s sees formals actuals
    all_open procedure (x ∷ formals) (More e rest) acts = (
      λ back. one_open (object_at s x).mode (is_owning s.table (object_at s x).of) (procedure && is_named_access (view_of s x)) back e
          (λ a h. acts a (Has-append_left (actual_act (way_to s given.owns procedure x) e) (actual_acts (map (way_to s given.owns procedure) formals) rest) a h)),
      all_open procedure formals rest
          (λ a h. acts a (Has-append_right (actual_act (way_to s given.owns procedure x) e) (actual_acts (map (way_to s given.owns procedure) formals) rest) a h)),
    )
    all_open procedure [] actuals acts = tt
    all_open procedure (x ∷ formals) actuals acts = tt

    call_acts : (n : ℕ) (actuals : TypedTree) (result : Option ℕ) → p.instr ≡ Call n actuals result → IsPlainCall program n → (a : Placed)
        → Has (actual_acts (map (way_to s given.owns (not (is_some (sub_of program n).result))) (sub_of program n).formals) actuals) a → Has at.acts a
    call_acts n actuals result is plain a h =
        act_there a (subst (λ i. Has (acts_of (record { typing = s; result = named.sub.result; roots = kept }) p.pos i) a) (sym is)
        (Has-append_right (actual_values s (passings s (sub_at s n)) actuals) (actual_acts (passings s (sub_at s n)) actuals) a
        (subst (λ ways. Has (actual_acts ways actuals) a) (sym (passes_to program n plain.0)) h)))

    -- the formals of a traversal function are of mode `in`
    through_modes : (n : ℕ) (actuals : TypedTree) → IsThroughCall program n actuals → (x : ℕ) → Has (sub_of program n).formals x → (object_at s x).mode ≡ mode.In
    through_modes n actuals goes x has =
        let ways = is_traversing program n goes.f goes.traversed in
        given.modes n ways.of (ap (λ (z : Signature). z.result) (signature_is program n) ∙ ways.result) x
        (subst (λ (z : Signature). Has z.formals x) (sym (signature_is program n)) has)

    none_open : (formals : List ℕ) (actuals : TypedTree) → ((x : ℕ) → Has formals x → (object_at s x).mode ≡ mode.In) → AreUnobserved s sees formals actuals
    none_open (x ∷ formals) (More e rest) modes =
        ((λ back. (let no : true ≡ false = sym (ap is_in (modes x (inl refl))) ∙ back in absurd (true≢false no))), none_open formals rest (λ y has. modes y (inr has)))
    none_open [] actuals modes = tt
    none_open (x ∷ formals) actuals modes = tt

    none_back : (formals : List ℕ) (actuals : TypedTree) → ((x : ℕ) → Has formals x → (object_at s x).mode ≡ mode.In) → ArePassedTo s formals actuals → AreActualsTo s formals actuals
    none_back (x ∷ formals) (More e rest) modes passed =
        (subst (λ how. IsActualTo s x how e) (sym (modes x (inl refl))) (subst (λ how. IsPassedTo s x how e) (modes x (inl refl)) passed.0), none_back formals rest (λ y has. modes y (inr has)) passed.1)
    none_back [] actuals modes passed = passed
    none_back (x ∷ formals) actuals modes passed = passed

    -- It isn't rooted in what only sees.
    pub unobserved : (n : ℕ) (actuals : TypedTree) (result : Option ℕ) → p.instr ≡ Call n actuals result → AreUnobserved s sees (sub_of program n).formals actuals
    unobserved n actuals result is = elim (scoped.plainly table typed effects given sub in_program at in_sub n actuals result is).passes [
      | inl plain ↦ all_open (not (is_some (sub_of program n).result)) (sub_of program n).formals actuals (λ a h. call_acts n actuals result is plain a h)
      | inr goes ↦ none_open (sub_of program n).formals actuals (through_modes n actuals goes)
    ]

    -- Nor, where it goes through no access value, in a formal of mode `in`.
    no_part : (z : ℕ) (steps : TypedTree) (t : ℕ) → Leads s (object_at s z).of steps t → (d : ℕ) (k n : Bool) → shape_of s.table (object_at s z).of ≡ shape.Access d k n
        → goes_through_none steps ≡ true → has_selector (name_of z steps) ≡ true → ⊥
    unfolding Leads goes_through_none selectors
    no_part z (Component i rest) t leads d k n is none some =
        (let less : i < 0 = subst (λ cs. i < length cs) (ap types.components_of is) leads.0 in omega (arith, less))
    no_part z (Element index low high rest) t leads d k n is none some = (let both : shape.Elements low high leads.0 ≡ shape.Access d k n = sym leads.1 ∙ is in cc)
    no_part z (Designated rest) t leads d k n is none some = false≢true none
    no_part z NoMore t leads d k n is none some = cc
    no_part z steps t leads d k n is none some = absurd leads

    root_own : (z : ℕ) (steps : TypedTree) (u : ℕ) → Leads s (object_at s z).of steps u → goes_through_none steps ≡ true → (y : ℕ) → Has (z ∷ []) y
        → (a : Placed) → Has at.acts a → changes a.act ≡ Some (name_of z steps) → is_view_formal s y ≡ false
    root_own z steps u leads none y (inr never) a h e = absurd never
    root_own z steps u leads none y (inl same) a h e =
        subst (λ k. is_view_formal s k ≡ false) same (by_true (is_view_formal s z) (λ view.
        (let found = acted.changed_formal table typed effects given named has p there a h (name_of z steps) e (ap (λ b. b || (is_in_formal s z && is_anonymous (view_of s z))) view) in
        let access = unnamed_access (shape_of s.table (object_at s z).of) found.1 in
        no_part z steps u leads access.0 access.1 access.2 access.3 none found.2)))

    own_root : (m : Mode) (owning access : Bool) → is_in m ≡ false → (e : TypedTree) (t : ℕ) → IsPlace s e t → goes_through_none e ≡ true
        → ((a : Placed) → Has (actual_act (passing_by m owning access) e) a → Has at.acts a) → IsOwnPlace s e
    unfolding goes_through_none
    own_root mode.In owning access back e t place none acts y root = cc
    own_root mode.Out owning access back (Name q z steps u) t place none acts y root =
        root_own z steps u place.0 none y root (placed q (act.Actual (name_of z steps) mode.Out owning access)) (acts _ (inl refl)) refl
    own_root mode.Out owning access back e t place none acts y root = absurd place
    own_root mode.InOut owning access back (Name q z steps u) t place none acts y root =
        root_own z steps u place.0 none y root (placed q (act.Actual (name_of z steps) mode.InOut owning access)) (acts _ (inl refl)) refl
    own_root mode.InOut owning access back e t place none acts y root = absurd place

    one_owned : (x : ℕ) (m : Mode) (e : TypedTree) (owning access : Bool) → IsPassedTo s x m e → ((a : Placed) → Has (actual_act (passing_by m owning access) e) a → Has at.acts a)
        → IsActualTo s x m e
    one_owned x mode.In e owning access passed acts = passed
    one_owned x mode.Out e owning access (t, place, fits) acts = (t, place, fits, inr (λ none. own_root mode.Out owning access refl e t place none acts))
    one_owned x mode.InOut e owning access (t, place, fits) acts = (t, place, fits, inr (λ none. own_root mode.InOut owning access refl e t place none acts))

    each_owned : (procedure : Bool) (formals : List ℕ) (actuals : TypedTree) → ArePassedTo s formals actuals
        → ((a : Placed) → Has (actual_acts (map (way_to s given.owns procedure) formals) actuals) a → Has at.acts a) → AreActualsTo s formals actuals
    each_owned procedure (x ∷ formals) (More e rest) passed acts = (
      one_owned x (object_at s x).mode e (is_owning s.table (object_at s x).of) (procedure && is_named_access (view_of s x)) passed.0
          (λ a h. acts a (Has-append_left (actual_act (way_to s given.owns procedure x) e) (actual_acts (map (way_to s given.owns procedure) formals) rest) a h)),
      each_owned procedure formals rest passed.1
          (λ a h. acts a (Has-append_right (actual_act (way_to s given.owns procedure x) e) (actual_acts (map (way_to s given.owns procedure) formals) rest) a h)),
    )
    each_owned procedure [] actuals passed acts = passed
    each_owned procedure (x ∷ formals) actuals passed acts = passed

    owned : (n : ℕ) (actuals : TypedTree) (result : Option ℕ) → p.instr ≡ Call n actuals result → ArePassedTo s (sub_of program n).formals actuals
        → AreActualsTo s (sub_of program n).formals actuals
    owned n actuals result is passed = elim (scoped.plainly table typed effects given sub in_program at in_sub n actuals result is).passes [
      | inl plain ↦ each_owned (not (is_some (sub_of program n).result)) (sub_of program n).formals actuals passed (λ a h. call_acts n actuals result is plain a h)
      | inr goes ↦ none_back (sub_of program n).formals actuals (through_modes n actuals goes) passed
    ]

  -- Nothing is moved, written or freed through an observer, or through a formal that owns nothing and isn't changed through.
  pub all_kept : (sub : FlowSub) → Has program.subs sub → (p : FlowPoint) → Has sub.points p → AllKeep (is_fixed s sees) (map (λ (a : Placed). a.act) p.acts)
  unfolding flow_program
  all_kept sub has p there =
      let named = Has-map_from (flow_sub own) (flow_named table typed) sub has in
      let q = Has-map_from (λ (z : NamedPoint). flow_at own named.0 z) (named.0).points p (subst (λ (z : FlowSub). Has z.points p) (sym named.2) there) in
      subst (λ (z : FlowPoint). AllKeep (is_fixed s sees) (map (λ (a : Placed). a.act) z.acts)) q.2
      (all_keep (is_fixed s sees) (flow_at own named.0 q.0).acts (λ a h m e. unfixed named.0 named.1 q.0 q.1 a h m e)
      (λ a h k m how owning access is e. unlent named.0 named.1 q.0 q.1 a h k m how owning access is e))

  -- What is copied back to is in an object that is no formal of mode `in`.
  pub actuals_owned : (sub : FlowSub) → Has program.subs sub → (p : FlowPoint) → Has sub.points p → (n : ℕ) (actuals : TypedTree) (result : Option ℕ)
      → p.instr ≡ Call n actuals result → ((x : ℕ) → Has (sub_of program n).formals x → is_formal s x ≡ true) → AreActualsTo s (sub_of program n).formals actuals
  unfolding flow_program
  actuals_owned sub has p there n actuals result is known =
      let named = Has-map_from (flow_sub own) (flow_named table typed) sub has in
      let q = Has-map_from (λ (z : NamedPoint). flow_at own named.0 z) (named.0).points p (subst (λ (z : FlowSub). Has z.points p) (sym named.2) there) in
      owned named.0 named.1 q.0 q.1 n actuals result (ap (λ (z : FlowPoint). z.instr) q.2 ∙ is) (given.passes sub has p there n actuals result is known)
