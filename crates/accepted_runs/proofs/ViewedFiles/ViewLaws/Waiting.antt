-- What is in scope at the points of a program in order: where package objects are declared, no temporary; else temporaries of
-- no anonymous access type, beside what a function gives that the point takes alone.
use Rattle.std.proofs.Common.{◌≡◌, refl, sym, ap, ◌∙◌, subst, ◌⊎◌, inl, inr, ℕ, true, false, List, ◌∷◌, Some}
use Rattle.std.proofs.lemmas.Bool.{true≢false}
use Rattle.machine.specs.spark_base.declared.position.Pos.{Pos}
use Rattle.machine.specs.spark_base.Lists.{Has}
use Rattle.machine.specs.type_definitions.Types.{Table, full}
use Rattle.machine.specs.typed_tree.Trees.{TypedTree, Name, NoMore}
use Rattle.machine.specs.typed_tree.Trees as typed_tree
use Rattle.machine.specs.typed_tree.declared.node.ShortCircuit.{ShortCircuit}
use Rattle.machine.specs.typed_tree.Programs.{TypedProgram}
use Rattle.machine.specs.flow_paths.declared.report.Effects.{Effects}
use Rattle.machine.specs.flow_paths.Instructions.{Declare, Assign, Evaluate, Hold}
use Rattle.machine.specs.flow_paths.Names.{has_call}
use Rattle.machine.specs.flow_paths.Objects.{Typing, is_anonymous, is_package_object, view_of}
use Rattle.machine.specs.flow_paths.Points.{NamedPoint}
use Rattle.machine.specs.flow_paths.Laid.{FlowProgram, NamedSub, elaboration_points, unnumbered, typing_of, flow_typing, flow_program, flow_named}
use Rattle.soundness.specs.Sound.{is_temporary_object}
use Rattle.soundness.proofs.Typings.{Agree, flow_agrees}
use Rattle.settled_types.specs.OrderLaws.ScopeLaws.Order.{named_in, IsSeen}
use Rattle.settled_types.proofs.OrderLaws.ScopeLaws.Alone.{code_all}
use Rattle.settled_types.proofs.OrderLaws.ScopeLaws.Given.{Takes}
use Rattle.settled_types.proofs.OrderLaws.ScopeLaws.Lists.{all_has, within_has}
use Rattle.settled_types.proofs.OrderLaws.ScopeLaws.Lone.{IsLone, sub_lone, package_lone}
use Rattle.settled_types.proofs.OrderLaws.ScopeLaws.Seen.{package_seen}
use Rattle.settled_types.proofs.OrderLaws.ReadyLaws.Subs.{setting_from, IsOfBody}
use Rattle.settled_types.proofs.OrderLaws.ReadyLaws.Ready as ordered
use Rattle.settled_types.proofs.OrderLaws.ReadyLaws.Ready.{seen_has}
use Rattle.viewed_steps.specs.Awaited.{TakesAlone}
use Rattle.viewed_steps.specs.Ready.{AreNamedIn, AreValued}
use Rattle.accepted_runs.specs.ViewedFiles.ViewLaws.Program.{IsViewProgram}
use Rattle.accepted_runs.proofs.ViewedFiles.ViewLaws.Acts.{no_anonymous}
use Rattle.accepted_runs.proofs.ViewedFiles.ViewLaws.Valued as valued
use Rattle.accepted_runs.proofs.ViewedFiles.ViewLaws.Constructors.{is_declare, declared_value}
use Rattle.soundness.proofs.Parted.{by_either}

next_same : (t x : ℕ) (rest others : List ℕ) → t ∷ rest ≡ x ∷ others → rest ≡ others
next_same t x rest others same = cc

module _ (table : Table) (typed : TypedProgram) (effects : Effects) (given : IsViewProgram table typed effects) where
  abbrev program : FlowProgram
  program = flow_program table typed

  abbrev s : Typing
  s = flow_typing program

  abbrev own : Typing
  own = typing_of table typed

  alike : Agree s own
  alike = flow_agrees table typed

  -- ---- the package objects

  module _ (named : NamedSub) (e : ordered.Elaborates table typed effects given.accepted given.owns given.order given.answered given.passed given.still named) where
    -- none is declared with what a call gives alone
    pub takes_none : (p : NamedPoint) → Has named.points p → (q : Pos) (n : ℕ) (a : TypedTree) → Takes p.instr (typed_tree.Call q n a) → ⊥
    unfolding has_call
    takes_none p there q n a takes =
        let declared = valued.declared table typed effects given named e p there in
        by_call declared.0 declared.1 takes declared.3 declared.2
      where
        by_call : (x : ℕ) (v : TypedTree) → Takes p.instr (typed_tree.Call q n a) → has_call v ≡ false → p.instr ≡ Declare x v → ⊥
        by_call x v (inl (y, is)) none declares = (
            let both : Declare x v ≡ Declare y (typed_tree.More (typed_tree.Call q n a) NoMore) = sym declares ∙ is in
            let value : v ≡ typed_tree.More (typed_tree.Call q n a) NoMore = ap (declared_value v) both in
            let no : true ≡ false = sym (ap has_call value) ∙ none in absurd (true≢false no))
        by_call x v (inr (inl (k, y, path, u, is, nothing))) none declares = (let both : Declare x v ≡ Assign (Name k y path u) (typed_tree.Call q n a) = sym declares ∙ is in true≢false (ap is_declare both))
        by_call x v (inr (inr is)) none declares = (let both : Declare x v ≡ Hold (typed_tree.More (typed_tree.Call q n a) NoMore) = sym declares ∙ is in true≢false (ap is_declare both))

    abbrev first_points : List NamedPoint
    first_points = elaboration_points (unnumbered own) given.order.first

    in_points : (r : NamedPoint) → Has first_points r → Has named.points r
    in_points r there = subst (λ (z : NamedSub). Has z.points r) e there

    no_evaluate : (r : NamedPoint) → Has named.points r → (t : ℕ) (v : TypedTree) (op : ShortCircuit) → r.instr ≡ Evaluate t v (Some op) → ⊥
    no_evaluate r there t v op is =
        let declared = valued.declared table typed effects given named e r there in
        (let both : Declare declared.0 declared.1 ≡ Evaluate t v (Some op) = sym declared.2 ∙ is in true≢false (ap is_declare both))

    abbrev Any : ℕ → Type 0
    Any n = Unit {0}

    abbrev Lasts : ℕ → Type 0
    Lasts x = is_temporary_object s x ≡ false

    lone_there : (p : NamedPoint) → Has named.points p → IsLone Any Lasts p
    lone_there p there =
        package_lone (unnumbered own) given.order.first Any Any Any Any Lasts (λ n any. any) (λ n any. any)
        (λ r at n a t is any. absurd (valued.no_call table typed effects given named e r (in_points r at) n a (Some t) is))
        (λ r at t v op is. absurd (no_evaluate r (in_points r at) t v op is)) (code_all Any Any Any Any (λ n any. any) (λ n any. any) (λ n. tt) given.order.first.body)
        (λ x object. valued.text_object table typed effects given x
        ((given.order.bodies given.order.first (subst (λ subs. Has subs given.order.first) (sym given.order.subs) (inl refl))).numbered x object).1)
        p (subst (λ (z : NamedSub). Has z.points p) (sym e) there)

    scope_lasts : (p : NamedPoint) → Has named.points p → (x : ℕ) → Has p.scope x → is_temporary_object s x ≡ false
    scope_lasts p there x has = by_either (lone_there p there) (λ good. (good x has)) (λ (t, rest, is, others, q, n, a, takes, single). (absurd (takes_none p there q n a takes)))

    -- What is named is no temporary.
    pub package_lasts : (p : NamedPoint) → Has named.points p → (x : ℕ) → Has (named_in p.instr) x → is_temporary_object s x ≡ false
    package_lasts p there x names =
        elim (seen_has (is_package_object own) p.scope (named_in p.instr) x
        (all_has (IsSeen (is_package_object own)) first_points p (package_seen (is_package_object own) (unnumbered own) given.order.first given.views.seen)
        (subst (λ (z : NamedSub). Has z.points p) (sym e) there)) names) [
          | inl outer ↦ valued.shared_object table typed effects given x outer
          | inr within ↦ scope_lasts p there x (within_has x p.scope within)
        ]

    package_named : (p : NamedPoint) → Has named.points p → AreNamedIn s p.scope
    package_named p there x has temporary = (let no : true ≡ false = sym temporary ∙ scope_lasts p there x has in absurd (true≢false no))

  -- ---- a body

  module _ (named : NamedSub) (has : Has (flow_named table typed) named) (inside : Has (valued.bodies table typed effects given) named) where
    abbrev body : IsOfBody own given.order.rest named
    body = valued.body table typed effects given named has inside

    abbrev IsPlain : ℕ → Type 0
    IsPlain x = is_temporary_object s x ≡ true → is_anonymous (view_of s x) ≡ false

    body_lone : (p : NamedPoint) → Has named.points p → IsLone (valued.Single table typed effects given) IsPlain p
    body_lone p there =
        sub_lone (setting_from own body.2 body.0) body.0 (valued.Asked table typed effects given) (valued.Passed table typed effects given) (valued.May table typed effects given) (valued.Single table typed effects given) IsPlain
        (valued.weaker table typed effects given) (valued.wider table typed effects given)
        (λ r at n a t is may temporary.
        (let found = valued.call_type table typed effects given named has inside r (valued.in_points table typed effects given named has inside r at) n a t is in
        (λ j. is_anonymous (full (alike.table j) (found.2 j))) ∙ may found.0 found.1))
        (λ r at t e op is temporary.
        no_anonymous (view_of s t) (valued.truth_type table typed effects given named has inside r (valued.in_points table typed effects given named has inside r at) t e op is))
        (given.results body.0 body.1)
        (λ x object temporary.
        (let no : true ≡ false = sym temporary ∙ valued.text_object table typed effects given x
        ((given.order.bodies body.0 (ordered.in_subs table typed effects given.accepted given.owns given.order given.answered given.passed given.still body.0 body.1)).numbered x object).1 in absurd (true≢false no)))
        p (valued.in_laid table typed effects given named has inside p there)

    body_named : (p : NamedPoint) → Has named.points p → AreNamedIn s p.scope ⊎ ((alone : TakesAlone s p) × AreNamedIn s alone.1)
    body_named p there = by_either (body_lone p there)
        (λ good. (inl good))
        (λ (t, rest, is, others, q, n, a, takes, single). (
        let lone = valued.lone_taken table typed effects given named has inside p there q n a takes single in
        inr (lone.0, subst (AreNamedIn s) (next_same t (lone.0).0 rest (lone.0).1 (sym is ∙ lone.1)) others)))

  seen_there : (named : NamedSub) → Has (flow_named table typed) named → (p : NamedPoint) → Has named.points p
      → AreNamedIn s p.scope ⊎ ((alone : TakesAlone s p) × AreNamedIn s alone.1)
  seen_there named has p there = elim (valued.where_is table typed effects given named has) [
    | inl e ↦ inl (package_named named e p there)
    | inr inside ↦ body_named named has inside p there
  ]

  -- ---- all of it

  pub are_valued : AreValued table typed
  are_valued = record {
    lasting = valued.stored_unheld table typed effects given;
    passed = valued.passed_unheld table typed effects given;
    takes = valued.takes_there table typed effects given;
    seen = seen_there;
    fills = valued.fills_there table typed effects given;
  }
