-- What a call shows of package objects to formals that own nothing: what is called doesn't disturb it, nothing
-- that is known as moved or borrowed meets what is observed, and it is named by the frame that calls.
use Rattle.std.proofs.Common.{◌≡◌, refl, sym, ap, ◌∙◌, subst, ◌⊎◌, inl, inr, ℕ, suc, ◌<◌, true, false, List, [], ◌∷◌, ◌++◌, length, arith, Option, Some, None, Bool}
use Rattle.machine.specs.spark_base.Lists.{Has}
use Rattle.machine.specs.place_names.declared.act.Act.TheVariants as act
use Rattle.machine.specs.place_names.declared.fact.Fact.{Fact}
use Rattle.machine.specs.place_names.declared.fact.Fact.TheVariants.{Moved, Lent}
use Rattle.machine.specs.place_names.declared.rule.Loan.{Loan}
use Rattle.machine.specs.place_names.declared.rule.Loan.TheVariants.{Observed}
use Rattle.machine.specs.place_names.Names.{Name as PlaceName, overlaps, object}
use Rattle.machine.specs.place_names.declared.act.Mode.TheVariants as mode
use Rattle.machine.specs.type_definitions.Types.{Table}
use Rattle.machine.specs.typed_tree.Trees.{TypedTree, More}
use Rattle.machine.specs.typed_tree.Programs.{TypedProgram}
use Rattle.machine.specs.flow_paths.declared.report.Effects.{Effects}
use Rattle.machine.specs.flow_paths.Instructions.{Call}
use Rattle.machine.specs.flow_paths.Objects.{Typing, object_at, is_package_object, view_of}
use Rattle.machine.specs.flow_paths.Aliases as alias
use Rattle.machine.specs.flow_paths.Laid.{FlowProgram, flow_sub, typing_of, flow_typing, flow_program}
use Rattle.machine.specs.States.{Frame, sub_of}
use Rattle.machine.specs.Step.{Turn}
use Rattle.machine.specs.Calls.{Passed}
use Rattle.machine.specs.place_names.declared.act.Mode.TheVariants as mode
use Rattle.soundness.specs.OwnedWays.Ways.{Step, Way}
use Rattle.soundness.specs.OwnedWays.Ways as ways
use Rattle.soundness.specs.Seen.{is_view_formal, seen, home}
use Rattle.soundness.proofs.OwnedWays.Named.{longer}
use Rattle.soundness.proofs.OwnedWays.Dropped.{named_base}
use Rattle.soundness.proofs.Contents.{bool_cases}
use Rattle.soundness.specs.Sound.{Stage, facts_of, Uses, view_of as view_here}
use Rattle.soundness.proofs.Around.{package_named}
use Rattle.soundness.specs.OwnedLoans.Views.{expand, IsThrough, IsShared, on, Lifted, InPart}
use Rattle.soundness.proofs.OwnedLoans.Ways.{under_on, lifted_way, stands_alone, on_named, on_under, in_part_way}
use Rattle.soundness.proofs.ViewedSoundness.ViewKinds.{open_bundle, bundle_view, true_false}
use Rattle.soundness.specs.ViewedSoundness.Holds.{Seeing, is_view, is_given, is_exclusive, is_bundle, GoesBy}
use Rattle.viewed_steps.specs.Sound.{ViewStage, Disturbs, passed_roots, LentBy, known_at}
use Rattle.viewed_steps.specs.Ready.{IsReady, IsCalled}
use Rattle.viewed_steps.proofs.Lent.{loans_stay}
use Rattle.viewed_steps.proofs.Waiting.{StandsBetween, handed, root_under}
use Rattle.machine.specs.flow_paths.Effects.{written_by}
use Rattle.viewed_steps.proofs.Standing as standing
use Rattle.viewed_steps.proofs.Packages as packages
use Rattle.viewed_steps.proofs.Innermost as innermost
use Rattle.viewed_steps.proofs.Views.{AreAccess, many_bundle}
use Rattle.viewed_steps.proofs.Seeing.{AreClear}
use Rattle.viewed_steps.proofs.Lending.{named_has}
use Rattle.viewed_steps.proofs.Exclusive.{IsLentAs}
use Rattle.viewed_steps.proofs.Sees.{sees_seeing}
use Rattle.viewed_steps.proofs.CallActs as acting
use Rattle.viewed_steps.proofs.Withheld.{kept_fact, kept_root}
use Rattle.std.specs.Prelude.{flat_map, is_some}
use Rattle.std.proofs.Common.{not, ◌&&◌, eq-eqb, if◌then◌else◌}
use Rattle.std.proofs.lemmas.Bool.{false≢true}
use Rattle.soundness.proofs.Lists.{Has-append_left, Has-append_cases, Has-append_right}
use Rattle.machine.specs.place_names.declared.rule.Loan.TheVariants.{Borrowed}
use Rattle.machine.specs.place_names.Facts.{place}
use Rattle.soundness.proofs.PlaceNames.{overlaps-sym}
use Rattle.machine.specs.type_definitions.declared.judgement.View.{View as TypeView}
use Rattle.machine.specs.type_definitions.declared.judgement.View.TheVariants as view
use Rattle.machine.specs.typed_tree.Trees.{Name}
use Rattle.machine.specs.flow_paths.Objects.{sub_at, Signature, is_named_access, is_variable_access}
use Rattle.machine.specs.flow_paths.Names.{written}
use Rattle.machine.specs.flow_paths.Views.{is_in_mode}
use Rattle.machine.specs.flow_paths.Effects.{act_writes, act_reads}
use Rattle.soundness.proofs.Passing.{signature_is}
use Rattle.soundness.specs.OwnedLoans.Views.{AreClear as FactsAreClear}
use Rattle.soundness.proofs.OwnedLoans.Allowed.{Cleared}
use Rattle.viewed_steps.specs.Sound.{lent_to, shown_one, shown_by, shown_at, loan_by}
use Rattle.viewed_steps.proofs.Seeing.{IsClear}
use Rattle.viewed_steps.proofs.Showing.{IsShownOf, all_are, all_shown}
use Rattle.viewed_steps.proofs.Globals.{changed_unused, shown_unwritten}
use Rattle.viewed_steps.proofs.Written.{function_writes}
use Rattle.viewed_steps.proofs.First.{way_named}
use Rattle.viewed_steps.proofs.Calling as calling
use Rattle.viewed_steps.proofs.Roots.{view_goes}
use Rattle.viewed_steps.specs.Seeing.{sees_in}
use Rattle.viewed_steps.proofs.Constructors.{is_borrowed_loan}
use Rattle.viewed_steps.proofs.InnerFrame.{InnerFrame}
use Rattle.soundness.proofs.Parted.{by_either}

-- ---- what is known of an actual that is shown

pub clear_named : (s : Typing) (sees : ℕ → Bool) (facts : List Fact) (formals : List ℕ) (actuals : TypedTree) → AreClear s sees facts formals actuals
    → (b : alias.Passed) → Has (alias.passed formals actuals) b → is_given s b.formal ≡ true → sees b.actual.name.root ≡ false
    → (w : Way) → ways.name_of w ≡ b.actual.name → Cleared facts w
clear_named s sees facts (x ∷ formals) (More e rest) clear b has given plain w named = elim (Has-append_cases (alias.passed_as x (written e)) (alias.passed formals rest) b has) [
  | inr later ↦ clear_named s sees facts formals rest clear.1 b later given plain w named
  | inl here ↦ first e here clear.0
]
  where
    first : (e : TypedTree) → Has (alias.passed_as x (written e)) b → (is_given s x ≡ true → IsClear s sees facts e) → Cleared facts w
    first (Name q y steps u) (inl same) clears =
        clears (ap (λ (z : alias.Passed). is_given s z.formal) same ∙ given) w (named ∙ ap (λ (z : alias.Passed). z.actual.name) (sym same))
        (ap (λ (z : alias.Passed). sees z.actual.name.root) same ∙ plain)
    first (Name q y steps u) (inr none) clears = absurd none
    first e has clears = absurd has
clear_named s sees facts [] actuals clear b has given plain w named = absurd has
clear_named s sees facts (x ∷ formals) _ clear b has given plain w named = absurd has

by_test : (b : Bool) → (if b then Borrowed else Observed) ≡ Borrowed → b ≡ true
by_test true is = refl
by_test false is = cc

same_loan : (l k : Loan) (h b : ℕ) (n m : PlaceName) → Lent l h n ≡ Lent k b m → (l ≡ k) × (n ≡ m)
same_loan l k h b n m e = (cc, cc)

module _ (table : Table) (typed : TypedProgram) (effects : Effects) (input : List ℕ) (ready : IsReady table typed effects) where
  abbrev sees : ℕ → Bool
  sees = sees_in (flow_program table typed)

  abbrev seeing : Seeing (flow_typing (flow_program table typed)) sees
  seeing = sees_seeing (flow_program table typed)

  abbrev program : FlowProgram
  program = flow_program table typed

  abbrev s : Typing
  s = flow_typing program

  abbrev own : Typing
  own = typing_of table typed

  abbrev in_formals : AreAccess s
  in_formals = standing.in_formals table typed effects input ready

  abbrev local : (x : ℕ) → is_view s x ≡ true → is_package_object s x ≡ false
  local = standing.local table typed effects input ready

  abbrev unmoved_stage : (e : Stage) → e.frame.sub ≡ 0 → (name : PlaceName) → Has (facts_of program effects e) (Moved name) → ⊥
  unmoved_stage = packages.unmoved_stage table typed effects input ready

  module _ (inner : InnerFrame table typed effects) where
    abbrev outer : List Frame
    outer = inner.below.stage.frame ∷ inner.rest

    abbrev older : List ViewStage
    older = inner.below ∷ inner.more_frames

    abbrev depth : ℕ
    depth = suc (length inner.rest)

    abbrev between : (g : ViewStage) → Has (inner.below ∷ inner.more_frames) g → StandsBetween table typed effects unmoved_stage local inner.state (suc (length inner.rest)) (inner.below ∷ inner.more_frames) g
    between = innermost.between table typed effects input ready inner

    abbrev main_turn : Turn
    main_turn = standing.t table typed effects input ready inner.state inner.top older outer inner.named inner.p inner.frames inner.of_sub inner.at_point

    abbrev own_facts : List Fact
    own_facts = standing.facts table typed effects input ready inner.state inner.top older outer inner.named inner.p inner.frames inner.of_sub inner.at_point inner.path

    abbrev handed_on : List Fact
    handed_on = handed table typed effects unmoved_stage local inner.state (suc (length inner.rest)) (inner.below ∷ inner.more_frames) between

    abbrev facts_now : List Fact
    facts_now = own_facts ++ handed_on

    module _ (n : ℕ) (actuals : TypedTree) (result : Option ℕ) (e : inner.p.instr ≡ Call n actuals result) where
      abbrev called : IsCalled table typed n actuals result
      called = calling.called table typed effects input ready inner n actuals result e

      abbrev formals : List ℕ
      formals = (sub_of program n).formals

      abbrev passed_all : List alias.Passed
      passed_all = alias.passed formals actuals

      abbrev procedure : Bool
      procedure = calling.procedure table typed effects input ready inner n actuals result e

      abbrev facts_called : List Fact
      facts_called = calling.facts_called table typed effects input ready inner n actuals result e

      there_formals : (x : ℕ) → Has formals x → Has (sub_at s n).formals x
      there_formals x has = subst (λ z. Has z x) (sym (ap (λ (z : Signature). z.formals) (signature_is program n))) has

      result_there : (o : Option ℕ) → (sub_of program n).result ≡ o → (sub_at s n).result ≡ o
      result_there o is = ap (λ (z : Signature). z.result) (signature_is program n) ∙ is

      -- what the call shows
      pub shown_is : (returns : List Way) → shown_at program (calling.waits_with table typed effects input ready inner n actuals result e returns)
          ≡ flat_map (shown_one s) passed_all
      shown_is returns = ap (shown_by program) (innermost.instr_there table typed effects input ready inner ∙ e)

      pub shown_of : (f : Fact) → Has (flat_map (shown_one s) passed_all) f → IsShownOf s passed_all f
      shown_of f has = all_are s passed_all f has

      -- by whether a function is called
      by_answer : (sub_of program n).result ≡ None ⊎ ((t : ℕ) × ((sub_of program n).result ≡ Some t))
      by_answer = by_result (sub_of program n).result refl
        where
          by_result : (o : Option ℕ) → (sub_of program n).result ≡ o → (o ≡ None) ⊎ ((t : ℕ) × (o ≡ Some t))
          by_result None is = inl refl
          by_result (Some t) is = inr (t, refl)

      -- what a formal is lent that sees only is observed
      lent_seen : (x : ℕ) → is_exclusive s x ≡ false → lent_to s x ≡ Observed
      lent_seen x none = ap (λ z. if z then Borrowed else Observed) none

      lent_exclusive : (x : ℕ) → lent_to s x ≡ Borrowed → is_exclusive s x ≡ true
      lent_exclusive x is = by_test (is_exclusive s x) is

      -- a formal of a function only sees
      function_sees : (t : ℕ) → (sub_of program n).result ≡ Some t → (b : alias.Passed) → Has passed_all b → is_given s b.formal ≡ true → is_exclusive s b.formal ≡ false
      function_sees t is b has given =
          let x_has = named_has formals actuals b has in
          ready.class.functions n t (result_there (Some t) is) b.formal (there_formals b.formal x_has) (called.formals b.formal x_has) given

      formal_named : (b : alias.Passed) → Has passed_all b → is_view_formal s b.formal ≡ true → is_bundle s b.formal ≡ false → (sub_of program n).result ≡ None
          → is_named_access (view_of s b.formal) ≡ true
      formal_named b has formal bare is =
          let x_has = named_has formals actuals b has in
          ready.class.procedures n (result_there None is) b.formal (there_formals b.formal x_has) (called.formals b.formal x_has) formal ((in_formals b.formal formal).0 bare)

      -- what changes what it sees has no parts that see
      exclusive_bare : (x : ℕ) → is_exclusive s x ≡ true → is_bundle s x ≡ false
      exclusive_bare x exclusive = by_kind (is_bundle s x) refl
        where
          by_kind : (b : Bool) → is_bundle s x ≡ b → b ≡ false
          by_kind false is = refl
          by_kind true is = absurd (true_false (is_exclusive s x) exclusive (open_bundle s x is))

      -- what is called doesn't disturb it
      pub shown_spared : (b : alias.Passed) → Has passed_all b → is_given s b.formal ≡ true → is_package_object s b.actual.name.root ≡ true
          → Disturbs effects (lent_to s b.formal) n b.actual.name.root → ⊥
      shown_spared b has given shared disturbs = elim (acting.shown_there table typed effects input ready inner n actuals result e b has given) [
        | inl plain ↦ elim by_answer [
          | inl is ↦ elim (bool_cases (is_bundle s b.formal)) [
            | inr bare ↦ changed_unused program effects ready.accepted.no_reports (flow_sub own inner.named)
                (standing.in_program table typed effects input ready inner.state inner.top older outer inner.named inner.p inner.frames inner.of_sub inner.at_point) main_turn.point
                (standing.in_sub table typed effects input ready inner.state inner.top older outer inner.named inner.p inner.frames inner.of_sub inner.at_point) n actuals result e called.answers is b has
                (not_immutable plain.formal bare is) shared (disturbs_uses (lent_to s b.formal) disturbs)
            | inl bundle ↦ shown_unwritten program effects ready.accepted.no_reports (flow_sub own inner.named)
                (standing.in_program table typed effects input ready inner.state inner.top older outer inner.named inner.p inner.frames inner.of_sub inner.at_point) main_turn.point
                (standing.in_sub table typed effects input ready inner.state inner.top older outer inner.named inner.p inner.frames inner.of_sub inner.at_point) n actuals result e called.answers is b has
                (many_bundle s sees in_formals b.formal bundle) shared
                (subst (λ l. Disturbs effects l n b.actual.name.root) (lent_seen b.formal (open_bundle s b.formal bundle)) disturbs)
          ]
          | inr (t, is) ↦ unwritten t is
        ]
        | inr (f, traversed, first_is, name_is) ↦
            unwritten (acting.traversing table typed effects input ready inner n actuals result e f traversed).of
            (acting.traversing table typed effects input ready inner n actuals result e f traversed).result
      ]
        where
          variable_named : (w : TypeView) → is_named_access w ≡ true → is_variable_access w ≡ true
          variable_named (view.Access d c n) is = second n (not c) is
            where
              second : (a b : Bool) → a && b ≡ true → b ≡ true
              second true b e = e
              second false b e = absurd (false≢true e)
          variable_named w is = absurd (false≢true is)

          mutable : (a b : Bool) → b ≡ true → not (a && not b) ≡ true
          mutable true b is = (λ j. not (not (is j)))
          mutable false b is = refl

          not_immutable : is_view_formal s b.formal ≡ true → is_bundle s b.formal ≡ false → (sub_of program n).result ≡ None → not (alias.is_immutable s b.formal) ≡ true
          not_immutable formal bare is =
              mutable (is_in_mode (object_at s b.formal).mode) (is_variable_access (view_of s b.formal)) (variable_named (view_of s b.formal) (formal_named b has formal bare is))

          disturbs_uses : (l : Loan) → Disturbs effects l n b.actual.name.root → Uses effects n b.actual.name.root
          disturbs_uses Borrowed uses = uses
          disturbs_uses Observed writes = inr writes

          -- a function writes no package object
          unwritten : (t : ℕ) → (sub_of program n).result ≡ Some t → ⊥
          unwritten t is =
              function_writes table typed effects ready.accepted.no_reports ready.accepted.effects_are called.text_io
              (innermost.borrower_local table typed effects input ready inner)
              (λ sub in_program q in_sub k more answer call_is. (let other_call = ready.called sub in_program q in_sub k more answer call_is in
              ((other_call.runs).named, (other_call.runs).stands, other_call.answers, other_call.local)))
              n (called.runs).named (called.runs).stands (ap is_some is) called.local b.actual.name.root shared
              (subst (λ l. Disturbs effects l n b.actual.name.root) (lent_seen b.formal (function_sees t is b has given)) disturbs)

      -- the frame names it, and changes it where it is lent to be changed
      pub shown_used : (b : alias.Passed) → Has passed_all b → is_given s b.formal ≡ true → is_package_object s b.actual.name.root ≡ true
          → Uses effects inner.top.frame.sub b.actual.name.root × (lent_to s b.formal ≡ Borrowed → Has (written_by effects inner.top.frame.sub) b.actual.name.root)
      shown_used b has given shared = by_either (acting.shown_there table typed effects input ready inner n actuals result e b has given)
          (λ plain. (by_call plain))
          (λ (f, traversed, first_is, name_is). (
          let root : b.actual.name.root ≡ ((acting.made table typed effects input ready inner n actuals result e f traversed).call).root = ap (λ (m : PlaceName). m.root) name_is in
          let shared_there = ap (is_package_object s) (sym root) ∙ shared in (
            subst (Uses effects inner.top.frame.sub) (sym root) (acting.uses_first table typed effects input ready inner n actuals result e f traversed shared_there),
            λ borrowed. absurd (true_false (is_exclusive s b.formal) (lent_exclusive b.formal borrowed)
                (function_sees (acting.traversing table typed effects input ready inner n actuals result e f traversed).of
                (acting.traversing table typed effects input ready inner n actuals result e f traversed).result
                b has given)),
          )))
        where
          writes_then : (m : PlaceName) (access : Bool) → access ≡ true → act_writes m.root (act.Actual m mode.In true access) ≡ true
          writes_then m access is = (λ j. eq-eqb m.root m.root refl j && is j)

          writes_or_reads : (m : PlaceName) (access : Bool) → (act_writes m.root (act.Actual m mode.In true access) ≡ true) ⊎ (act_reads m.root (act.Actual m mode.In true access) ≡ true)
          writes_or_reads m true = inl (λ j. eq-eqb m.root m.root refl j && true)
          writes_or_reads m false = inr (λ j. eq-eqb m.root m.root refl j && true)

          by_call : acting.IsPlainlyShown table typed effects input ready inner n actuals result e b
              → Uses effects inner.top.frame.sub b.actual.name.root × (lent_to s b.formal ≡ Borrowed → Has (written_by effects inner.top.frame.sub) b.actual.name.root)
          by_call plain =
              let in_point = subst (λ z. Has z plain.placed) (standing.acts_agree table typed effects input ready inner.state inner.top older outer inner.named inner.p inner.frames inner.of_sub inner.at_point) plain.there in
              let in_sub = standing.in_sub table typed effects input ready inner.state inner.top older outer inner.named inner.p inner.frames inner.of_sub inner.at_point in (
                innermost.act_uses table typed effects input ready inner
                    b.actual.name.root shared main_turn.point in_sub plain.placed in_point
                    (subst (λ z. (act_writes b.actual.name.root z ≡ true) ⊎ (act_reads b.actual.name.root z ≡ true)) (sym plain.is)
                    (writes_or_reads b.actual.name (procedure && is_named_access (view_of s b.formal)))),
                λ borrowed. by_either by_answer
                    (λ is. (innermost.act_writes_it table typed effects input ready inner
                    b.actual.name.root shared main_turn.point in_sub plain.placed in_point
                    (subst (λ z. act_writes b.actual.name.root z ≡ true) (sym plain.is)
                    (writes_then b.actual.name (procedure && is_named_access (view_of s b.formal)) (λ j. not (is_some (is j)) && formal_named b has plain.formal (exclusive_bare b.formal (lent_exclusive b.formal borrowed)) is j)))))
                    (λ (t, is). (absurd (true_false (is_exclusive s b.formal) (lent_exclusive b.formal borrowed) (function_sees t is b has given)))),
              )

      -- nothing that the frame knows as moved or borrowed overlaps what is observed
      module _ (clear : AreClear s sees facts_now formals actuals) where
        clears : (b : alias.Passed) → Has passed_all b → is_given s b.formal ≡ true → is_package_object s b.actual.name.root ≡ true
            → (w : Way) → ways.name_of w ≡ b.actual.name → Cleared facts_now w
        clears b has given shared w named_so =
            clear_named s sees facts_now formals actuals clear b has given
            (innermost.package_owns table typed effects input ready inner b.actual.name.root shared) w named_so

        less_now : (f : Fact) → Has facts_called f → Has facts_now f
        less_now f has =
            Has-append_left own_facts handed_on f (acting.adds_none table typed effects input ready inner n actuals result e f has)

        pub shown_apart : FactsAreClear sees facts_called → (f : Fact) (h : ℕ) (name : PlaceName) → Has (facts_called ++ flat_map (shown_one s) passed_all) f
            → loan_by f ≡ Borrowed → Has (facts_called ++ flat_map (shown_one s) passed_all) (Lent Observed h name) → overlaps (place f) name ≡ true → ⊥
        shown_apart own_clear f h name has borrowed seen over =
            elim (Has-append_cases facts_called (flat_map (shown_one s) passed_all) f has) [
              | inl fact ↦ elim (Has-append_cases facts_called (flat_map (shown_one s) passed_all) (Lent Observed h name) seen) [
                | inl also ↦ both_facts f borrowed fact also over
                | inr shown ↦ (
                    let b = shown_of (Lent Observed h name) shown in
                    let is = same_loan Observed (lent_to s (b.passed).formal) h (b.passed).formal name (b.passed).actual.name b.is in
                    let u = way_named (b.passed).actual.name in
                    cleared_off f borrowed (less_now f fact) u.0 (clears b.passed b.has b.formal b.shared u.0 u.1)
                    (subst (λ (z : PlaceName). overlaps (place f) z ≡ true) (is.1 ∙ sym u.1) over))
              ]
              | inr shown ↦ (
                  let b = shown_of f shown in
                  let exclusive : is_exclusive s (b.passed).formal ≡ true = lent_exclusive (b.passed).formal (sym (ap loan_by b.is) ∙ borrowed) in
                  let given : is_given s (b.passed).formal ≡ true = b.formal in
                  let x_has = named_has formals actuals b.passed b.has in
                  elim (acting.by_callee table typed effects input ready inner n actuals result e) [
                    | inl modes ↦ by_lent b exclusive (modes.2 (b.passed).formal x_has given (seeing.changes (b.passed).formal given exclusive) (b.passed).actual b.has)
                        (Has-append_cases facts_called (flat_map (shown_one s) passed_all) (Lent Observed h name) seen)
                    | inr lent ↦ by_lent b exclusive (lent (b.passed).formal x_has given (exclusive_bare (b.passed).formal exclusive) (b.passed).actual b.has)
                        (Has-append_cases facts_called (flat_map (shown_one s) passed_all) (Lent Observed h name) seen)
                  ])
            ]
          where
            observed_borrowed : Observed ≡ Borrowed → ⊥
            observed_borrowed is = absurd (false≢true (ap is_borrowed_loan is))

            -- what is lent to be changed meets nothing that is observed
            by_lent : (b : IsShownOf s passed_all f) → is_exclusive s (b.passed).formal ≡ true → IsLentAs s sees facts_now passed_all (b.passed).formal (b.passed).actual
                → Has facts_called (Lent Observed h name) ⊎ Has (flat_map (shown_one s) passed_all) (Lent Observed h name) → ⊥
            by_lent b exclusive lent (inl fact) =
                lent.clear (Lent Observed h name) (less_now (Lent Observed h name) fact)
                (overlaps-sym name (b.passed).actual.name ∙ subst (λ (z : PlaceName). overlaps z name ≡ true) (ap place b.is) over)
            by_lent b exclusive lent (inr also) =
                let c = shown_of (Lent Observed h name) also in
                let is = same_loan Observed (lent_to s (c.passed).formal) h (c.passed).formal name (c.passed).actual.name c.is in
                lent.apart c.passed c.has
                (λ same. observed_borrowed (is.0 ∙ ap (λ z. if z then Borrowed else Observed) (ap (is_exclusive s) (sym same) ∙ exclusive)))
                (inr c.formal)
                (subst (λ (z : PlaceName). overlaps (b.passed).actual.name z ≡ true) is.1 (subst (λ (z : PlaceName). overlaps z name ≡ true) (ap place b.is) over))

            both_facts : (f : Fact) → loan_by f ≡ Borrowed → Has facts_called f → Has facts_called (Lent Observed h name) → overlaps (place f) name ≡ true → ⊥
            both_facts (Moved m) is fact also met = own_clear.moved Observed h m name fact also met
            both_facts (Lent l b m) is fact also met = own_clear.seen b h m name (subst (λ z. Has facts_called (Lent z b m)) is fact) also met

            cleared_off : (f : Fact) → loan_by f ≡ Borrowed → Has facts_now f → (u : Way) → Cleared facts_now u → overlaps (place f) (ways.name_of u) ≡ true → ⊥
            cleared_off (Moved m) is there u (unborrowed, unmoved) met = unmoved m there met
            cleared_off (Lent l b m) is there u (unborrowed, unmoved) met = unborrowed b m (subst (λ z. Has facts_now (Lent z b m)) is there) met

      -- ---- what a formal sees that begins at a package object

      module _ (passed : List Passed) (given : calling.Given table typed effects input ready inner n actuals result e passed) where
        abbrev waits_there : ViewStage
        waits_there = calling.waits_there table typed effects input ready inner n actuals result e passed given

        abbrev LentAround : Loan → PlaceName → Type 0
        LentAround l m = LentBy program effects (waits_there ∷ older) l m

        abbrev next : ℕ
        next = suc (suc (length inner.rest))

        some_depth : 0 < waits_there.stage.depth
        some_depth = omega (arith, inner.deep)

        -- what the frame knows it keeps, or the object as a whole
        known_lent : (f : Fact) (k w : Way) → Has (known_at program effects waits_there.stage) f → place f ≡ ways.name_of k → ways.Named (home s depth) k → ways.Under k w
            → is_package_object s (ways.number_of w) ≡ true → IsThrough (home s next) LentAround (loan_by f) w ⊎ IsThrough (home s next) LentAround Borrowed w
        known_lent f k w known is at_home under shared =
            let root : is_package_object s (ways.number_of k) ≡ true = ap (is_package_object s) (sym (longer k w under).root) ∙ shared in
            elim (kept_fact program effects waits_there f known) [
              | inl keeps ↦ inl (k, package_named s depth next k root at_home, under, (waits_there, inl refl, some_depth, f, keeps, root, refl, is))
              | inr passed_root ↦ inr (
                  let r : ℕ = ways.number_of k in
                  let whole : Way = ways.Object (ways.OfVariable (home s depth r) r) in
                  let base : ways.base_of w ≡ ways.OfRoot (ways.OfVariable (home s depth r) r) = (longer k w under).base ∙ named_base (home s depth) k at_home in (
                    whole,
                    package_named s depth next whole root refl,
                    root_under (home s depth r) r w base,
                    (
                      waits_there,
                      inl refl,
                      some_depth,
                      Moved (object r),
                      kept_root program effects waits_there r (subst (λ (z : PlaceName). Has (passed_roots effects waits_there) z.root) is passed_root),
                      root,
                      refl,
                      refl,
                    ),
                  ))
            ]

        older_lent : (l : Loan) (w : Way) → IsThrough (home s depth) (LentBy program effects older) l w → IsThrough (home s next) LentAround l w
        older_lent l w these = let (k, at_home, under, lent) = these in (
          k,
          package_named s depth next k lent.5 at_home,
          under,
          (lent.0, inr lent.1, lent.2, lent.3, lent.4, lent.5, lent.6, lent.7),
        )

        -- what a formal is lent that changes what it sees is borrowed
        lent_changed : (x : ℕ) → is_given s x ≡ true → sees x ≡ false → lent_to s x ≡ Borrowed
        lent_changed x given changes = ap (λ z. if z then Borrowed else Observed) (seeing.lends x given changes)

        -- `there` is what the actual's name designates, or what a part of its place does
        pub shared_at : (b : alias.Passed) → Has passed_all b → is_given s b.formal ≡ true → (from : Way) → ways.Named (home s depth) from → b.actual.name ≡ ways.name_of from
            → (there : Way) → ways.Under from there → GoesBy s inner.views (ways.number_of from) there
            → (sees b.formal ≡ false → sees (ways.number_of from) ≡ false)
            → (w : Way) → w ≡ expand inner.views there → ways.Named (home s depth) w → is_package_object s (ways.number_of w) ≡ true
            → IsShared (home s next) LentAround (sees b.formal) w
        shared_at b has is_given_formal from at_home named_so there begins_there goes plain w leads w_home shared = by_either (bool_cases (is_view s (ways.number_of from)))
            (λ view. (by_either (bool_cases (is_bundle s (ways.number_of from))) (λ bundle. (by_part bundle (goes.1 bundle))) (λ bare. (by_view (goes.0 bare view)))))
            (λ owner. (by_owner (no_way owner) (no_parts owner)))
          where
            root_there : ways.number_of there ≡ ways.number_of from
            root_there = (longer from there begins_there).root

            no_way : is_view s (ways.number_of from) ≡ false → inner.views.way (ways.number_of from) ≡ None
            no_way owner = by_way (inner.views.way (ways.number_of from)) refl
              where
                by_way : (o : Option Way) → inner.views.way (ways.number_of from) ≡ o → inner.views.way (ways.number_of from) ≡ None
                by_way None is = is
                by_way (Some k) is = absurd (true_false (is_view s (ways.number_of from)) (inner.holds.only (ways.number_of from) k is) owner)

            no_parts : is_view s (ways.number_of from) ≡ false → (part_path : List Step) → inner.views.part_way (ways.number_of from) part_path ≡ None
            no_parts owner part_path = by_way (inner.views.part_way (ways.number_of from) part_path) refl
              where
                by_way : (o : Option Way) → inner.views.part_way (ways.number_of from) part_path ≡ o → inner.views.part_way (ways.number_of from) part_path ≡ None
                by_way None is = is
                by_way (Some k) is = absurd (true_false (is_view s (ways.number_of from)) (bundle_view s (ways.number_of from) (inner.holds.parts.only (ways.number_of from) part_path k is)) owner)

            by_owner : inner.views.way (ways.number_of from) ≡ None → ((part_path : List Step) → inner.views.part_way (ways.number_of from) part_path ≡ None) → IsShared (home s next) LentAround (sees b.formal) w
            by_owner none bare =
                let itself : w ≡ there = leads ∙ stands_alone inner.views there (ap inner.views.way root_there ∙ none) (λ part_path. ap (λ z. inner.views.part_way z part_path) root_there ∙ bare part_path) in
                let root : is_package_object s b.actual.name.root ≡ true = ap (λ (z : PlaceName). is_package_object s z.root) named_so ∙ ap (is_package_object s) (sym root_there) ∙ ap (λ z. is_package_object s (ways.number_of z)) (sym itself) ∙ shared in
                let f : Fact = Lent (lent_to s b.formal) b.formal b.actual.name in
                let shown : Has (shown_at program waits_there.stage) f =
                subst (λ z. Has z f) (sym (shown_is waits_there.stage.returns)) (all_shown s passed_all b has is_given_formal root) in
                by_either (known_lent f from w (Has-append_right (facts_of program effects waits_there.stage) (shown_at program waits_there.stage) f shown) named_so at_home
                (subst (ways.Under from) (sym itself) begins_there) shared)
                (λ through. (lent_to s b.formal, through, λ changes. lent_changed b.formal is_given_formal changes))
                (λ through. (Borrowed, through, λ changes. refl))

            further : (loan : Loan) (k : Way) → ways.Under k w → IsThrough (home s next) LentAround loan k → IsThrough (home s next) LentAround loan w
            further loan k under (q, q_home, above_k, lent) = (q, q_home, under_on q k w above_k under, lent)

            by_part : is_bundle s (ways.number_of from) ≡ true → (l : InPart inner.views there) → IsShared (home s next) LentAround (sees b.formal) w
            by_part bundle l =
                let on_way : w ≡ on l.way l.rest = leads ∙ in_part_way inner.views there l in
                let l_home : ways.Named (home s depth) l.way = on_named (home s depth) l.way l.rest (subst (ways.Named (home s depth)) on_way w_home) in
                let (loan, through, changed) = inner.placed_before.1.1.1 l.object l.steps l.way l.has l_home in (
                  loan,
                  further loan l.way (subst (ways.Under l.way) (sym on_way) (on_under l.way l.rest)) (older_lent loan l.way through),
                  λ changes. absurd (true_false (sees (ways.number_of from)) (inner.holds.parts.looks (ways.number_of from) bundle) (plain changes)),
                )

            by_view : (l : Lifted inner.views there) × (l.object ≡ ways.number_of from) → IsShared (home s next) LentAround (sees b.formal) w
            by_view (l, object_is) =
                let on_way : w ≡ on l.way l.rest = leads ∙ lifted_way inner.views there l in
                let l_home : ways.Named (home s depth) l.way = on_named (home s depth) l.way l.rest (subst (ways.Named (home s depth)) on_way w_home) in
                let under : ways.Under l.way w = subst (ways.Under l.way) (sym on_way) (on_under l.way l.rest) in
                let (loan, goes, changed) = view_goes (home s depth) sees inner.views (view_here s inner.state) (facts_of program effects inner.top) inner.viewed_before.views
                (LentBy program effects older) inner.placed_before.1.1 l.object l.way l.has l_home in
                let changes_so : sees b.formal ≡ false → loan ≡ Borrowed = λ changes. changed (ap sees object_is ∙ plain changes) in
                by_either goes
                (λ (holder, k, fact, k_home, k_under). (
                let called_fact : Has facts_called (Lent loan holder (ways.name_of k)) =
                loans_stay s (acting.values table typed effects input ready inner n actuals result e ++ acting.copies table typed effects input ready inner n actuals result e) (acting.spare_call table typed effects input ready inner n actuals result e)
                own_facts loan holder (ways.name_of k)
                (subst (λ fs. Has fs (Lent loan holder (ways.name_of k))) (standing.facts_are table typed effects input ready inner.state inner.top older outer inner.named inner.p inner.frames inner.of_sub inner.at_point inner.path) fact) in
                by_either (known_lent (Lent loan holder (ways.name_of k)) k w
                (Has-append_left (facts_of program effects waits_there.stage) (shown_at program waits_there.stage) (Lent loan holder (ways.name_of k))
                (subst (λ fs. Has fs (Lent loan holder (ways.name_of k))) (sym (calling.facts_there table typed effects input ready inner n actuals result e)) called_fact))
                refl k_home (under_on k l.way w k_under under) shared) (λ through. (loan, through, changes_so)) (λ through. (Borrowed, through, λ changes. refl))))
                (λ through. (loan, further loan l.way under (older_lent loan l.way through), changes_so))
