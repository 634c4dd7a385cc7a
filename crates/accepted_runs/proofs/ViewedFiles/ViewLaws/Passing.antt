-- Of a program whose subprograms are in order: formals differ, belong to no package, and are in scope at
-- first; what is passed is in scope; and where a subprogram ends, formals of its own alone are.
use Rattle.std.proofs.Common.{◌≡◌, refl, sym, ap, ◌∙◌, subst, inl, inr, ℕ, suc, true, ◌||◌, List, ◌∷◌, drop, Option, is_some}
use Rattle.std.specs.Prelude.{reverse}
use Rattle.std.proofs.lemmas.Bool.{true≢false}
use Rattle.machine.specs.spark_base.Lists.{Has}
use Rattle.soundness.proofs.Lists.{Has-append_left, Has-append_right}
use Rattle.machine.specs.type_definitions.Types.{Table, full, is_owning}
use Rattle.machine.specs.typed_tree.Trees.{TypedTree}
use Rattle.machine.specs.typed_tree.Programs.{TypedSub, TypedProgram}
use Rattle.machine.specs.flow_paths.declared.report.Effects.{Effects}
use Rattle.machine.specs.flow_paths.Instructions.{Instruction, Declare, Call, Finish}
use Rattle.machine.specs.flow_paths.Objects.{Typing, is_formal, is_anonymous, is_package_object, has_scope_end}
use Rattle.machine.specs.flow_paths.Points.{FlowPoint}
use Rattle.machine.specs.flow_paths.Laid.{FlowSub, FlowProgram, NamedSub, all_named, named_sub, sub_temporaries, declared_within, typing_of, flow_typing, flow_program, flow_named}
use Rattle.machine.specs.flow_paths.Scopes.{taken, is_within}
use Rattle.machine.specs.States.{sub_of}
use Rattle.soundness.specs.Typed.{OwnsByShape}
use Rattle.soundness.specs.Sound.{Accepted, IsNamedSub, IsRunnable}
use Rattle.soundness.proofs.Points.{sub_there}
use Rattle.soundness.proofs.Typings.{Agree, flow_agrees, package_same, formal_object}
use Rattle.settled_types.specs.OrderLaws.ScopeLaws.Code.{objects_of}
use Rattle.settled_types.specs.OrderLaws.ScopeLaws.Order.{named_in}
use Rattle.settled_types.proofs.OrderLaws.ScopeLaws.Lists.{has_reverse, within_has, once_left}
use Rattle.settled_types.specs.OrderLaws.ReadyLaws.InOrder.{IsSub, IsInOrder, AreAnswered, AreStill}
use Rattle.settled_types.specs.OrderLaws.ReadyLaws.InOrder as in_order
use Rattle.settled_types.proofs.OrderLaws.ReadyLaws.Subs.{setting_from, body_at, one_named}
use Rattle.settled_types.proofs.OrderLaws.ReadyLaws.Ready as ordered
use Rattle.settled_types.proofs.OrderLaws.ReadyLaws.Ready.{seen_has}
use Rattle.viewed_steps.specs.Ready.{is_shown_type, AreDifferent, ArePassed, AreActualsTo, IsCalled, AreCalled}
use Rattle.viewed_steps.proofs.Placed.{within_on}
use Rattle.accepted_runs.proofs.ViewedFiles.ViewLaws.Formals.{first_scope, has_within, has_reversed, once_different, passed_named}
use Rattle.accepted_runs.proofs.ViewedFiles.ViewLaws.Constructors.{is_declare}

-- ---- the program

sub_in : (subs : List TypedSub) (k : ℕ) (sub : TypedSub) → IsSub subs k sub → Has subs sub
sub_in subs k sub (front, rest, is, long) = subst (λ z. Has z sub) (sym is) (Has-append_right front (sub ∷ rest) sub (inl refl))

module _ (table : Table) (typed : TypedProgram) (effects : Effects) (accepted : Accepted table typed effects)
    (owns : OwnsByShape (flow_program table typed).table) (order : IsInOrder table typed)
    (answered : AreAnswered table typed order.rest) (passed : in_order.ArePassed (flow_program table typed)) (still : AreStill table typed order.first) where
  abbrev program : FlowProgram
  program = flow_program table typed

  abbrev s : Typing
  s = flow_typing program

  abbrev own : Typing
  own = typing_of table typed

  alike : Agree s own
  alike = flow_agrees table typed

  -- ---- what is passed

  pub are_passed : ArePassed table typed
  are_passed = record {
    finishes = λ named has p there is x within. elim (ordered.cases table typed effects accepted owns order answered passed still named has) [
      | inl e ↦ (
          let declared = ordered.declares table typed effects accepted owns order answered passed still named e p there
          (ordered.still_there table typed effects accepted owns order answered passed still named e p there) in
          absurd (no_finish p.instr declared.0 declared.1 declared.2 is))
      | inr b ↦ (
          let scope : p.scope ≡ reverse (b.0).formals = (ordered.body_is_ordered table typed effects accepted owns order answered passed still named b p there).finishes is in
          subst (λ (z : NamedSub). Has z.sub.formals x) b.4
          (has_reverse (b.0).formals x (within_has x (reverse (b.0).formals) (subst (λ z. is_within x z ≡ true) scope within))))
    ];
    passed = λ named has p there n actuals result is x names. elim (ordered.cases table typed effects accepted owns order answered passed still named has) [
      | inl e ↦ (
          let declared = ordered.declares table typed effects accepted owns order answered passed still named e p there
          (ordered.still_there table typed effects accepted owns order answered passed still named e p there) in
          absurd (no_call p.instr declared.0 declared.1 n actuals result declared.2 is))
      | inr b ↦ elim (seen_has (is_package_object own) (drop (taken p.instr) p.scope) (named_in p.instr) x
          (ordered.body_is_left table typed effects accepted owns order answered passed still named b p there)
          (subst (λ i. Has (named_in i) x) (sym is) (passed_named actuals x names))) [
            | inl outer ↦ inl (package_same s own alike x ∙ outer)
            | inr within ↦ inr within
          ]
    ];
  }
    where
      no_finish : (i : Instruction) (x : ℕ) (v : TypedTree) → i ≡ Declare x v → i ≡ Finish → ⊥
      no_finish i x v e f = (let both : Declare x v ≡ Finish = sym e ∙ f in true≢false (ap is_declare both))

      no_call : (i : Instruction) (x : ℕ) (v : TypedTree) (n : ℕ) (actuals : TypedTree) (result : Option ℕ) → i ≡ Declare x v → i ≡ Call n actuals result → ⊥
      no_call i x v n actuals result e f = (let both : Declare x v ≡ Call n actuals result = sym e ∙ f in true≢false (ap is_declare both))

  -- ---- what is called

  module _ (k : ℕ) (callee : TypedSub) (is_sub : IsSub order.rest k callee) where
    in_rest : Has order.rest callee
    in_rest = sub_in order.rest k callee is_sub

    abbrev laid_out : (m : ℕ) × IsNamedSub (all_named own (order.first ∷ order.rest)) (suc k) (named_sub own m (sub_temporaries own callee) callee)
    laid_out = body_at own order.first order.rest k callee is_sub

    abbrev callee_named : NamedSub
    callee_named = named_sub own laid_out.0 (sub_temporaries own callee) callee

    stands : IsNamedSub (flow_named table typed) (suc k) callee_named
    stands = subst (λ subs. IsNamedSub (all_named own subs) (suc k) callee_named) (sym order.subs) laid_out.1

    formals_are : (sub_of program (suc k)).formals ≡ callee.formals
    formals_are = ap (λ (z : FlowSub). z.formals) (sub_there table typed (suc k) callee_named stands)

    -- its formals are in scope at first
    begins_there : (runs : IsRunnable table typed (suc k)) → (x : ℕ) → Has callee.formals x
        → has_scope_end (setting_from own laid_out.0 callee).typing x ≡ true → is_within x runs.point.scope ≡ true
    begins_there runs x has ends =
        let same : runs.named ≡ callee_named = one_named (flow_named table typed) (suc k) runs.named callee_named runs.stands stands in
        within_on (setting_from own laid_out.0 callee).typing (reverse callee.formals) runs.point.scope x
        (first_scope (setting_from own laid_out.0 callee) callee (order.bodies callee (ordered.in_subs table typed effects accepted owns order answered passed still callee in_rest)).settled
        runs.point runs.points (sym (ap (λ (z : NamedSub). z.points) same) ∙ runs.begins)) ends
        (has_within x (reverse callee.formals) (has_reversed callee.formals x has))

  -- the formals of what is called differ
  pub differ_there : (sub : FlowSub) → Has program.subs sub → (p : FlowPoint) → Has sub.points p → (n : ℕ) (actuals : TypedTree) (result : Option ℕ)
      → p.instr ≡ Call n actuals result → AreDifferent (sub_of program n).formals
  differ_there sub has p there n actuals result is =
      let found = answered sub has p there n actuals result is in
      subst (λ m. AreDifferent (sub_of program m).formals) (sym found.2)
      (subst AreDifferent (sym (formals_are found.0 found.1 found.3))
      (once_different (found.1).formals (once_left (found.1).formals (declared_within (found.1).body)
      (order.bodies found.1 (ordered.in_subs table typed effects accepted owns order answered passed still found.1 (in_rest found.0 found.1 found.3))).once)))

  module _ (passed_to : (sub : FlowSub) → Has (flow_program table typed).subs sub → (p : FlowPoint) → Has sub.points p → (n : ℕ) (actuals : TypedTree) (result : Option ℕ)
      → p.instr ≡ Call n actuals result → ((x : ℕ) → Has (sub_of (flow_program table typed) n).formals x → is_formal s x ≡ true)
      → AreActualsTo s (sub_of (flow_program table typed) n).formals actuals) where
    -- what is called is one of the bodies
    by_number : (n k : ℕ) (callee : TypedSub) (actuals : TypedTree) (result : Option ℕ) → n ≡ suc k → IsSub order.rest k callee
        → AreActualsTo s (sub_of program n).formals actuals → (IsRunnable table typed n × (is_some (sub_of program n).result ≡ is_some result))
        → ((x : ℕ) → Has (sub_of program n).formals x → is_formal s x ≡ true) → IsCalled table typed n actuals result
    by_number n k callee actuals result same is_sub stay runs known =
        subst (λ m. AreActualsTo s (sub_of program m).formals actuals → (IsRunnable table typed m × (is_some (sub_of program m).result ≡ is_some result))
        → ((x : ℕ) → Has (sub_of program m).formals x → is_formal s x ≡ true) → IsCalled table typed m actuals result) (sym same)
        called_there stay runs known
      where
        formal : (x : ℕ) → Has (sub_of program (suc k)).formals x → Has callee.formals x
        formal x has = subst (λ z. Has z x) (formals_are k callee is_sub) has

        in_own : (x : ℕ) → Has callee.formals x → Has (objects_of callee) x
        in_own x has = Has-append_left callee.formals (declared_within callee.body) x has

        called_there : AreActualsTo s (sub_of program (suc k)).formals actuals → (IsRunnable table typed (suc k) × (is_some (sub_of program (suc k)).result ≡ is_some result))
            → ((x : ℕ) → Has (sub_of program (suc k)).formals x → is_formal s x ≡ true) → IsCalled table typed (suc k) actuals result
        called_there stay runs known = record {
          runs = runs.0;
          answers = runs.1;
          formals = known;
          differ = subst AreDifferent (sym (formals_are k callee is_sub))
              (once_different callee.formals (once_left callee.formals (declared_within callee.body)
              (order.bodies callee (ordered.in_subs table typed effects accepted owns order answered passed still callee (in_rest k callee is_sub))).once));
          local = λ x has. package_same s own alike x ∙ (order.local callee (in_rest k callee is_sub)).own x (in_own x (formal x has));
          begins = λ x has owns. begins_there k callee is_sub runs.0 x (formal x has) (ends_there x (known x has) owns);
          actuals_stay = stay;
          text_io = ordered.text_io_there table typed effects accepted owns order answered passed still;
        }
          where
            ends_there : (x : ℕ) → is_formal s x ≡ true → is_shown_type s x ≡ true → has_scope_end (setting_from own (laid_out k callee is_sub).0 callee).typing x ≡ true
            ends_there x is_one shown =
                sym (λ j. is_owning (alike.table j) (formal_object s own alike x is_one j).of || is_anonymous (full (alike.table j) (formal_object s own alike x is_one j).of)) ∙ shown

    pub called_to : AreCalled table typed
    called_to sub has p there n actuals result is =
        let found = answered sub has p there n actuals result is in
        let known = ordered.formals_known table typed effects accepted owns order answered passed still sub has p there n actuals result is in
        by_number n found.0 found.1 actuals result found.2 found.3 (passed_to sub has p there n actuals result is known)
        (ordered.runs_there table typed effects accepted owns order answered passed still sub has p there n actuals result is) known
