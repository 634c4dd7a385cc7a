-- What is declared, or assigned as a whole, and is of an anonymous access type is a variable: formals aren't declared, and no
-- formal of mode `in` is assigned in a program without reports.
use Rattle.std.specs.Prelude.{IsTrue}
use Rattle.std.proofs.Common.{◌≡◌, refl, sym, ap, ◌∙◌, subst, ◌⊎◌, inl, inr, ℕ, ◌<◌, Bool, true, false, not, ◌&&◌, ◌||◌, nat_lt, List, [], ◌∷◌, map, length, filter}
use Rattle.std.proofs.lemmas.Bool.{ltb-true, lt-ltb, false≢true, true≢false}
use Rattle.machine.specs.spark_base.Lists.{Has}
use Rattle.soundness.proofs.Lists.{Has-append_right, Has-map_from, Has-filter}
use Rattle.machine.specs.spark_base.declared.position.Pos.{Pos}
use Rattle.machine.specs.place_names.declared.act.Act.TheVariants as act
use Rattle.machine.specs.place_names.declared.act.Placed.{Placed}
use Rattle.machine.specs.place_names.declared.rule.Rule.TheVariants as rule
use Rattle.machine.specs.place_names.Names.{Name as PlaceName}
use Rattle.machine.specs.type_definitions.Types.{Table, full}
use Rattle.machine.specs.typed_tree.declared.object.ObjectKind.{ObjectKind}
use Rattle.machine.specs.typed_tree.declared.object.ObjectKind.TheVariants as object_kind
use Rattle.machine.specs.typed_tree.Trees.{TypedTree, Name, NoMore}
use Rattle.machine.specs.typed_tree.declared.object.Object.{Object}
use Rattle.machine.specs.typed_tree.Programs.{TypedSub, TypedProgram, text_io}
use Rattle.machine.specs.flow_paths.declared.report.Effects.{Effects}
use Rattle.machine.specs.flow_paths.Instructions.{Declare, Assign}
use Rattle.machine.specs.flow_paths.Objects.{Typing, object_at, is_variable, is_formal, is_formal_kind, is_borrower, is_observer, is_borrowing, is_observing, is_named_access, is_anonymous, is_package_object, view_of}
use Rattle.machine.specs.flow_paths.Names.{name_of, selectors}
use Rattle.machine.specs.flow_paths.Acts.{placed, acts_of, before_write, whole_acts}
use Rattle.machine.specs.flow_paths.Points.{NamedPoint, FlowPoint}
use Rattle.machine.specs.flow_paths.Laid.{FlowSub, FlowProgram, NamedSub, all_named, sub_points, temporary_object, declared_within, unnumbered, kept_roots, sub_facts, flow_sub, typing_of, flow_typing, flow_program, flow_named}
use Rattle.machine.specs.flow_paths.Reports.{on_views}
use Rattle.machine.specs.flow_paths.Views.{ConstantView, of_formal, in_function, changed, is_function, is_in_mode, has_selector, text_report}
use Rattle.machine.specs.Owners.{is_in, is_in_formal}
use Rattle.soundness.specs.Sound.{Accepted}
use Rattle.soundness.proofs.Points.{flow_at}
use Rattle.soundness.proofs.Typings.{Agree, flow_agrees, formal_same}
use Rattle.settled_types.proofs.OrderLaws.ScopeLaws.Begun.{Begins, sub_begun, package_begun}
use Rattle.settled_types.specs.OrderLaws.ScopeLaws.Code.{roots}
use Rattle.settled_types.specs.OrderLaws.ScopeLaws.Order.{named_in}
use Rattle.settled_types.specs.OrderLaws.ScopeLaws.Supplied.{IsKept}
use Rattle.settled_types.proofs.OrderLaws.ScopeLaws.Kept.{sub_kept}
use Rattle.settled_types.proofs.OrderLaws.ScopeLaws.Filled.{temporaries_of, object_before}
use Rattle.settled_types.proofs.OrderLaws.ScopeLaws.Lists.{all_has, within_has}
use Rattle.settled_types.specs.OrderLaws.ReadyLaws.InOrder.{IsInOrder, AreStill, own_nothing}
use Rattle.settled_types.proofs.OrderLaws.ReadyLaws.Elaborated.{package_declares}
use Rattle.settled_types.proofs.OrderLaws.ReadyLaws.Ready.{seen_has}
use Rattle.settled_types.proofs.OrderLaws.ReadyLaws.Subs.{setting_from, named_cases}
use Rattle.viewed_steps.specs.Sound.{IsStoredAt}
use Rattle.soundness.proofs.Parted.{by_either}

true_is : {A : Type 0} → true ≡ false → A
true_is e = absurd (true≢false e)

both_first : (a b : Bool) → a && b ≡ true → a ≡ true
both_first true b e = refl
both_first false b e = e

both_second : (a b : Bool) → a && b ≡ true → b ≡ true
both_second true b e = e
both_second false b e = absurd (false≢true e)

no_variable : (k : ObjectKind) → is_formal_kind k ≡ true → is_variable k ≡ false
no_variable object_kind.Formal e = refl
no_variable k e = absurd (false≢true e)

-- A formal of mode `in` of an anonymous access type isn't changed as a whole.
changed_here : (function formal inn access whole : Bool) → formal ≡ true → inn ≡ true → access ≡ false
    → (IsTrue (not function && (formal && (inn && (not access || not whole)))) → ⊥) → (IsTrue (function && formal) → ⊥) → ⊥
changed_here true true true false whole is also none procedure function = function refl
changed_here false true true false whole is also none procedure function = procedure refl
changed_here function formal inn true whole is also none procedure never = absurd (true≢false none)
changed_here function true false false whole is also none procedure never = absurd (false≢true also)
changed_here function false inn false whole is also none procedure never = absurd (false≢true is)

outer : (a b c : Bool) → IsTrue (a && b) → IsTrue (a && (b || c))
outer true true c h = h
outer true false c h = (let no : false ≡ true = h in absurd (false≢true no))
outer false b c h = h

module _ (table : Table) (typed : TypedProgram) (effects : Effects) (accepted : Accepted table typed effects) (order : IsInOrder table typed)
    (declared : (sub : TypedSub) → Has typed.subs sub → (x : ℕ) → Has (declared_within sub.body) x → is_formal (typing_of table typed) x ≡ false)
    (plain : (x : ℕ) → is_anonymous (view_of (flow_typing (flow_program table typed)) x) ≡ true → is_named_access (view_of (flow_typing (flow_program table typed)) x) ≡ false)
    (local : (x : ℕ) → is_anonymous (view_of (typing_of table typed) x) ≡ true
    → (is_variable (object_at (typing_of table typed) x).kind ≡ true) ⊎ (is_in_formal (typing_of table typed) x ≡ true))
    (still : AreStill table typed order.first) where
  abbrev program : FlowProgram
  program = flow_program table typed

  abbrev s : Typing
  s = flow_typing program

  abbrev own : Typing
  own = typing_of table typed

  alike : Agree s own
  alike = flow_agrees table typed

  -- an object of the text
  abbrev IsOfText : ℕ → Type 0
  IsOfText x = object_at s x ≡ object_at own x

  of_text : (x : ℕ) → x < length typed.objects → IsOfText x
  unfolding flow_program
  of_text x less = object_before typed.objects (map temporary_object (temporaries_of (flow_named table typed))) x text_io less

  of_package : (x : ℕ) → is_package_object own x ≡ true → IsOfText x
  of_package x shared = elim (alike.object x) [
    | inl same ↦ same
    | inr others ↦ absurd (true_is (sym shared ∙ others.1.2))
  ]

  abbrev IsNone : ℕ → Type 0
  IsNone x = (is_formal s x ≡ false) × IsOfText x

  none_there : (sub : TypedSub) → Has typed.subs sub → (x : ℕ) → Has (declared_within sub.body) x → IsNone x
  none_there sub among x within =
      (formal_same s own alike x ∙ declared sub among x within, of_text x ((order.bodies sub among).numbered x (Has-append_right sub.formals (declared_within sub.body) x within)).1)

  -- ---- what points declare

  begun_named : (named : NamedSub) → Has (flow_named table typed) named → (p : NamedPoint) → Has named.points p → Begins IsNone p.instr
  begun_named named has p there = elim (named_cases own order.first order.rest named (subst (λ subs. Has (all_named own subs) named) order.subs has)) [
    | inl e ↦ package_begun (unnumbered own) IsNone order.first (none_there order.first (subst (λ subs. Has subs order.first) (sym order.subs) (inl refl)))
        p (subst (λ (z : NamedSub). Has z.points p) (sym e) there)
    | inr body ↦
        sub_begun (setting_from own body.2 body.0) IsNone body.0 (none_there body.0 (subst (λ subs. Has subs body.0) (sym order.subs) (inr body.1)))
        p (subst (λ (z : NamedSub). Has z.points p) (sym body.4) there)
  ]

  -- what they assign as a whole is of the text
  assigned_text : (named : NamedSub) → Has (flow_named table typed) named → (p : NamedPoint) → Has named.points p → (q : Pos) (x u : ℕ) (e : TypedTree)
      → p.instr ≡ Assign (Name q x NoMore u) e → IsOfText x
  unfolding roots
  assigned_text named has p there q x u e is = elim (named_cases own order.first order.rest named (subst (λ subs. Has (all_named own subs) named) order.subs has)) [
    | inl same ↦ (
        let here = subst (λ (z : NamedSub). Has z.points p) (sym same) there in
        no_assign (package_declares own (unnumbered own) order.first order.declares order.unmoved p here (still p here)))
    | inr body ↦ (
        let among : Has typed.subs body.0 = subst (λ subs. Has subs body.0) (sym order.subs) (inr body.1) in
        let kept = all_has (IsKept (is_package_object own) below) (sub_points (setting_from own body.2 body.0) body.0) p
        (sub_kept (is_package_object own) below (setting_from own body.2 body.0) body.0
        (λ z object. lt-ltb z (length typed.objects) ((order.bodies body.0 among).numbered z object).1) (order.local body.0 body.1).seen)
        (subst (λ (z : NamedSub). Has z.points p) (sym body.4) there) in
        elim (seen_has (is_package_object own) (filter below p.scope) (named_in p.instr) x kept
        (subst (λ i. Has (named_in i) x) (sym is) (Has-append_right (roots e) (x ∷ []) x (inl refl)))) [
          | inl outer ↦ of_package x outer
          | inr within ↦ of_text x (ltb-true x (length typed.objects) (Has-filter below p.scope x (within_has x (filter below p.scope) within)).1)
        ])
  ]
    where
      below : ℕ → Bool
      below z = nat_lt z (length typed.objects)

      no_assign : ((y : ℕ) × (v : TypedTree) × (p.instr ≡ Declare y v) × (own_nothing own (roots v) ≡ true)) → IsOfText x
      no_assign found = (let no : Declare found.0 found.1 ≡ Assign (Name q x NoMore u) e = sym found.2 ∙ is in cc)

  -- ---- what points assign

  module _ (named : NamedSub) (has : Has (flow_named table typed) named) (p : NamedPoint) (there : Has named.points p) (in_program : Has program.subs (flow_sub own named))
      (in_sub : Has (flow_sub own named).points (flow_at own named p)) where
    abbrev sub : FlowSub
    sub = flow_sub own named

    unwritten : (q : Pos) (x u : ℕ) (e : TypedTree) → p.instr ≡ Assign (Name q x NoMore u) e → is_in_formal s x ≡ true → is_anonymous (view_of s x) ≡ true → ⊥
    unfolding selectors
    unwritten q x u e is formal view =
        changed_here (is_function sub) (is_formal s x) (is_in_mode (object_at s x).mode) (is_named_access (view_of s x)) (has_selector m)
        (both_first (is_formal s x) (is_in (object_at s x).mode) formal) (both_second (is_formal s x) (is_in (object_at s x).mode) formal) (plain x view)
        (λ h. no_view (of_formal h)) (λ h. no_view (in_function (outer (is_function sub) (is_formal s x) (is_package_object s x) h)))
      where
        m : PlaceName
        m = name_of x NoMore

        a : Placed
        a = placed q (act.Write m)

        kept : List ℕ
        kept = kept_roots own 0 own.objects (sub_facts own named.sub named.points)

        none_variable : is_variable (object_at own x).kind ≡ false
        none_variable = no_variable (object_at own x).kind (sym (formal_same s own alike x) ∙ both_first (is_formal s x) (is_in (object_at s x).mode) formal)

        written_there : (b o : Bool) → is_borrower own x ≡ b → is_observer own x ≡ o → b ≡ false → o ≡ false → Has (whole_acts own p.pos x (Name q x NoMore u) e) a
        written_there false false borrows observes none also =
            rw borrows (rw observes (Has-append_right (before_write own (Name q x NoMore u) e) _ a (inl refl)))
        written_there true o borrows observes none also = absurd (true≢false none)
        written_there b true borrows observes none also = absurd (true≢false also)

        there_acts : Has (acts_of (record { typing = own; result = named.sub.result; roots = kept }) p.pos (Assign (Name q x NoMore u) e)) a
        there_acts =
            written_there (is_borrower own x) (is_observer own x) refl refl (ap (λ b. b && is_borrowing (view_of own x)) none_variable)
            (ap (λ b. b && is_observing (view_of own x)) none_variable)

        in_point : Has (flow_at own named p).acts a
        in_point = subst (λ i. Has (acts_of (record { typing = own; result = named.sub.result; roots = kept }) p.pos i) a) (sym is) there_acts

        no_view : ConstantView s sub m → ⊥
        no_view view = accepted.no_reports.complete (text_report q rule.V1 m) (on_views sub in_program (changed (flow_at own named p) a m (in_sub, in_point) refl view))

  -- ---- the law

  pub are_stored : (sub : FlowSub) → Has program.subs sub → (p : FlowPoint) → Has sub.points p → (x : ℕ) → IsStoredAt p.instr x → is_anonymous (view_of s x) ≡ true
      → is_variable (object_at s x).kind ≡ true
  unfolding flow_program
  are_stored sub has p there x stored view =
      let named = Has-map_from (flow_sub own) (flow_named table typed) sub has in
      let q = Has-map_from (λ (z : NamedPoint). flow_at own named.0 z) (named.0).points p (subst (λ (z : FlowSub). Has z.points p) (sym named.2) there) in
      let same : (q.0).instr ≡ p.instr = ap (λ (z : FlowPoint). z.instr) q.2 in
      let here : (is_formal s x ≡ false) × IsOfText x ⊎ ((q : Pos) × (u : ℕ) × (e : TypedTree) × (p.instr ≡ Assign (Name q x NoMore u) e) × IsOfText x) = by_either stored
      (λ (v, is). (inl (subst (Begins IsNone) (same ∙ is) (begun_named named.0 named.1 q.0 q.1))))
      (λ (at, u, e, is). (inr (at, u, e, is, assigned_text named.0 named.1 q.0 q.1 at x u e (same ∙ is)))) in
      by_either here
      (λ (none, text). (by_either (variable_or x text view) (λ variable. (variable)) (λ formal. (true_is (sym (both_first (is_formal s x) (is_in (object_at s x).mode) formal) ∙ none)))))
      (λ (at, u, e, is, text). (by_either (variable_or x text view)
      (λ variable. (variable))
      (λ formal. (absurd (unwritten named.0 named.1 q.0 q.1 (subst (Has program.subs) (sym named.2) has)
      (subst (λ (z : FlowPoint). Has (flow_sub own named.0).points z) (sym q.2) (subst (λ (z : FlowSub). Has z.points p) (sym named.2) there)) at x u e (same ∙ is) formal view)))))
    where
      variable_or : (x : ℕ) → IsOfText x → is_anonymous (view_of s x) ≡ true → (is_variable (object_at s x).kind ≡ true) ⊎ (is_in_formal s x ≡ true)
      variable_or x text view = by_either (local x (sym (λ j. is_anonymous (full (alike.table j) (text j).of)) ∙ view))
          (λ variable. (inl (ap (λ (o : Object). is_variable o.kind) text ∙ variable)))
          (λ formal. (inr (ap (λ (o : Object). is_formal_kind o.kind && is_in o.mode) text ∙ formal)))
