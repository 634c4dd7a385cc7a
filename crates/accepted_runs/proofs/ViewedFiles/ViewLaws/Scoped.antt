-- Of an accepted program with borrowers and observers whose subprograms are in order: that no fact speaks of an
-- object that is declared, beside what `ready_laws` says of any program in order.
use Rattle.std.proofs.Common.{◌≡◌, refl, sym, ap, ◌∙◌, subst, ◌⊎◌, inl, inr, ℕ, suc, Bool, true, false, not, ◌&&◌, ◌||◌, List, [], ◌∷◌, map, get_or, nat_lt, Option, None, Some}
use Rattle.std.specs.Prelude.{reverse, is_some}
use Rattle.std.specs.List.{AllByRecursion}
use Rattle.std.proofs.lemmas.Bool.{false≢true, true≢false}
use Rattle.machine.specs.spark_base.declared.position.Pos.{Pos}
use Rattle.machine.specs.spark_base.Lists.{Has}
use Rattle.soundness.proofs.Lists.{Has-map, Has-map_from, Has-append_left, Has-append_right}
use Rattle.machine.specs.place_names.declared.act.Mode.TheVariants as mode
use Rattle.machine.specs.Owners.{is_in, is_in_formal}
use Rattle.machine.specs.place_names.declared.act.Act.{Act}
use Rattle.machine.specs.place_names.declared.act.Act.TheVariants as act
use Rattle.machine.specs.place_names.declared.act.Placed.{Placed}
use Rattle.machine.specs.place_names.declared.rule.Rule.TheVariants as rule
use Rattle.machine.specs.place_names.declared.fact.Fact.TheVariants.{Moved}
use Rattle.machine.specs.place_names.Facts.{adds}
use Rattle.machine.specs.place_names.Names.{Name as PlaceName}
use Rattle.machine.specs.type_definitions.declared.table.Shape.TheVariants as shape
use Rattle.machine.specs.type_definitions.Types.{Table, full, shape_of, is_owning, is_scalar, owns_of, view_of as view_of_shape}
use Rattle.machine.specs.typed_tree.Trees.{TypedTree, Name, NoMore, More}
use Rattle.machine.specs.typed_tree.Trees as typed_tree
use Rattle.machine.specs.typed_tree.declared.object.Object.{Object}
use Rattle.machine.specs.typed_tree.declared.object.ObjectKind.{ObjectKind}
use Rattle.machine.specs.typed_tree.declared.object.ObjectKind.TheVariants as object_kind
use Rattle.machine.specs.typed_tree.Programs.{TypedSub, TypedProgram, text_io}
use Rattle.machine.specs.flow_paths.declared.report.Effects.{Effects}
use Rattle.machine.specs.flow_paths.Instructions.{Instruction, Declare, Assign, Call}
use Rattle.machine.specs.flow_paths.Names.{has_call, first, whole_object}
use Rattle.machine.specs.flow_paths.Objects.{Typing, Signature, object_at, sub_at, is_variable, is_anonymous, is_observer, is_formal, is_formal_kind, is_package_object, traverses, has_scope_end, view_of}
use Rattle.machine.specs.flow_paths.Acts.{acts_of}
use Rattle.machine.specs.flow_paths.Points.{NamedPoint, FlowPoint}
use Rattle.machine.specs.flow_paths.Laid.{FlowSub, FlowProgram, NamedSub, temporary_object, declared_within, unnumbered, elaborated, kept_roots, sub_facts, flow_sub, typing_of, flow_typing, flow_program, flow_named}
use Rattle.machine.specs.flow_paths.Paths.{ControlPath, facts_before}
use Rattle.machine.specs.flow_paths.Reports.{on_views}
use Rattle.machine.specs.flow_paths.Views.{text_report, elsewhere, traversed_of, traversed_formal, sub_acts, IsOnlyRoot}
use Rattle.machine.specs.Run.{no_point}
use Rattle.machine.specs.flow_paths.Effects.{path_points}
use Rattle.machine.specs.flow_paths.Scopes.{is_ready, is_temporary}
use Rattle.machine.specs.States.{sub_of}
use Rattle.soundness.specs.Sound.{IsNamedSub, IsProcedure, calls_procedures, is_temporary_object}
use Rattle.soundness.specs.Ready.{AreScoped, AreNew, AreElaborated, AreReturning, IsSupplied}
use Rattle.soundness.proofs.Points.{IsLaid, flow_at}
use Rattle.soundness.proofs.Typings.{Agree, flow_agrees, instruction_same, package_same}
use Rattle.soundness.proofs.Contents.{bool_cases}
use Rattle.soundness.proofs.Passing.{signature_there, signature_is as signature_of}
use Rattle.settled_types.specs.OrderLaws.ScopeLaws.Alone.{GivesScalar, GivesOwnless, GivesNamed, GivesSeen}
use Rattle.settled_types.proofs.OrderLaws.ScopeLaws.Followed.{IsFollowed, sub_followed}
use Rattle.settled_types.proofs.OrderLaws.ScopeLaws.Given.{Takes, sub_given}
use Rattle.settled_types.specs.OrderLaws.ScopeLaws.Code.{roots, objects_of}
use Rattle.settled_types.specs.OrderLaws.ScopeLaws.Order.{named_in, IsSeen}
use Rattle.settled_types.specs.OrderLaws.ScopeLaws.Supplied.{IsLeft}
use Rattle.settled_types.proofs.OrderLaws.ScopeLaws.Lists.{and_second, all_has, has_reverse}
use Rattle.settled_types.proofs.OrderLaws.ScopeLaws.Filled.{temporaries_of, object_before}
use Rattle.settled_types.specs.OrderLaws.ScopeLaws.LayeredScopes.Layered.{is_older}
use Rattle.settled_types.specs.OrderLaws.ScopeLaws.LayeredScopes.Points.{IsAbove, AreFading}
use Rattle.settled_types.proofs.OrderLaws.ScopeLaws.LayeredScopes.Layered.{sub_good}
use Rattle.settled_types.specs.OrderLaws.ReadyLaws.InOrder.{names_no_owner}
use Rattle.settled_types.proofs.OrderLaws.ReadyLaws.Elaborated.{Declares, package_declares, owns_none}
use Rattle.settled_types.proofs.OrderLaws.ReadyLaws.Subs.{setting_from, IsOfBody}
use Rattle.settled_types.proofs.OrderLaws.ReadyLaws.Ready as ordered
use Rattle.settled_types.proofs.OrderLaws.ReadyLaws.Ready.{seen_has}
use Rattle.soundness.specs.TypedLaws.Needed.{IsFine}
use Rattle.viewed_steps.specs.Awaited.{is_held}
use Rattle.soundness.specs.ViewedSoundness.Holds.{IsAccess, is_given}
use Rattle.soundness.proofs.ViewedSoundness.ViewKinds.{true_false}
use Rattle.viewed_steps.specs.Ready.{AreDifferent, IsAccessAs, IsSeen as IsSeenBy}
use Rattle.viewed_steps.specs.Sound.{IsStoredAt}
use Rattle.viewed_steps.proofs.Followed.{is_traversing}
use Rattle.viewed_steps.proofs.Views.{given_type}
use Rattle.accepted_runs.specs.ViewedFiles.ViewLaws.InOrder.{no_views, is_rooted_in, IsTraversed, NamesSource, fits}
use Rattle.accepted_runs.specs.ViewedFiles.ViewLaws.Program.{IsPassedTo, ArePassedTo, IsViewProgram}
use Rattle.accepted_runs.proofs.ViewedFiles.ViewLaws.Passing as passing
use Rattle.accepted_runs.proofs.ViewedFiles.ViewLaws.Same as same
use Rattle.accepted_runs.proofs.ViewedFiles.ViewLaws.Valued as valued
use Rattle.accepted_runs.proofs.ViewedFiles.ViewLaws.Waiting as waiting
use Rattle.accepted_runs.proofs.ViewedFiles.ViewLaws.Acts.{access_lasts}
use Rattle.accepted_runs.proofs.ViewedFiles.ViewLaws.Calls.{AreViewCalls, IsPlainCall, IsThroughCall, point_good}
use Rattle.accepted_runs.proofs.ViewedFiles.ViewLaws.Packages.{IsPlain, package_plain, no_view, owners_same}
use Rattle.accepted_runs.proofs.ViewedFiles.ViewLaws.Facts.{new_there}

either : (a b : Bool) → a || b ≡ true → (a ≡ true) ⊎ (b ≡ true)
either true b e = inl refl
either false b e = inr e

not_both : (a b : Bool) → a ≡ true → not a && b ≡ true → ⊥
not_both true b is e = absurd (false≢true e)
not_both false b is e = absurd (false≢true is)

-- a view that is declared or assigned with no name gets what a traversal function gives
source_gives : (a b c : Bool) → a ≡ true → not a || (b && c) ≡ true → b ≡ true
source_gives true true c is e = refl
source_gives true false c is e = e
source_gives false b c is e = absurd (false≢true is)

silent_end : has_call NoMore ≡ false
unfolding has_call
silent_end = refl

whole_end : (y x : ℕ) (steps : TypedTree) → whole_object y steps ≡ Some x → (steps ≡ NoMore) × (y ≡ x)
whole_end y x NoMore is = (refl, cc)
whole_end y x steps is = absurd (false≢true (ap is_some is))

stored_gives : (a f b : Bool) → a ≡ true → f ≡ false → ((not a || f) || false) || b ≡ true → b ≡ true
stored_gives true false b is none e = e
stored_gives true true b is none e = absurd (true≢false none)
stored_gives false f b is none e = absurd (false≢true is)

by_kind_variable_lasts : (k : ObjectKind) → is_variable k ≡ true → is_temporary k ≡ false
by_kind_variable_lasts object_kind.Variable is = refl
by_kind_variable_lasts k is = absurd (false≢true is)

some_same : (a b : ℕ) → Some a ≡ Some b → a ≡ b
some_same a b is = cc

not_scalar : (d : ℕ) (c n : Bool) → is_scalar (view_of_shape (shape.Access d c n)) ≡ true → ⊥
not_scalar d c n is = false≢true is

module _ (table : Table) (typed : TypedProgram) (effects : Effects) (given : IsViewProgram table typed effects) where
  abbrev pub program : FlowProgram
  program = flow_program table typed

  abbrev pub s : Typing
  s = flow_typing program

  abbrev pub own : Typing
  own = typing_of table typed

  -- ---- what holds of any program in order

  pub alike : Agree s own
  alike = flow_agrees table typed

  pub laid : (named : NamedSub) → Has (flow_named table typed) named → IsLaid s named
  laid = ordered.laid table typed effects given.accepted given.owns given.order given.answered given.passed given.still

  pub in_program : (named : NamedSub) → Has (flow_named table typed) named → Has program.subs (flow_sub own named)
  in_program = ordered.in_program table typed effects given.accepted given.owns given.order given.answered given.passed given.still

  pub ready_there : (named : NamedSub) → Has (flow_named table typed) named → (p : NamedPoint) → Has named.points p → is_ready p p.instr ≡ true
  ready_there = ordered.ready_there table typed effects given.accepted given.owns given.order given.answered given.passed given.still

  pub in_subs : (sub : TypedSub) → Has given.order.rest sub → Has typed.subs sub
  in_subs = ordered.in_subs table typed effects given.accepted given.owns given.order given.answered given.passed given.still

  -- the package objects, or a body
  abbrev pub Elaborates : NamedSub → Type 0
  Elaborates named = elaborated own given.order.first ≡ named

  abbrev pub OfBody : NamedSub → Type 0
  OfBody named = IsOfBody own given.order.rest named

  pub cases : (named : NamedSub) → Has (flow_named table typed) named → Elaborates named ⊎ OfBody named
  cases = ordered.cases table typed effects given.accepted given.owns given.order given.answered given.passed given.still

  pub declares : (named : NamedSub) → Elaborates named → (p : NamedPoint) → Has named.points p → Declares own p
  declares = ordered.declares table typed effects given.accepted given.owns given.order given.answered given.passed given.still

  pub still_there : (named : NamedSub) → Elaborates named → (p : NamedPoint) → Has named.points p → calls_procedures p.instr ≡ true
  still_there = ordered.still_there table typed effects given.accepted given.owns given.order given.answered given.passed given.still

  pub body_is_left : (named : NamedSub) → OfBody named → (p : NamedPoint) → Has named.points p → IsLeft (is_package_object own) p
  body_is_left = ordered.body_is_left table typed effects given.accepted given.owns given.order given.answered given.passed given.still

  pub body_is_seen : (named : NamedSub) → OfBody named → (p : NamedPoint) → Has named.points p → IsSeen (is_package_object own) p
  body_is_seen = ordered.body_is_seen table typed effects given.accepted given.owns given.order given.answered given.passed given.still

  pub are_scoped : AreScoped table typed
  are_scoped = ordered.are_scoped table typed effects given.accepted given.owns given.order given.answered given.passed given.still

  pub are_returning : AreReturning program effects
  are_returning = ordered.are_returning table typed effects given.accepted given.owns given.order given.answered given.passed given.still

  pub has_main : IsProcedure table typed (suc given.order.number)
  has_main = ordered.has_main table typed effects given.accepted given.owns given.order given.answered given.passed given.still

  pub main_is : program.main ≡ Some (suc given.order.number)
  main_is = ordered.main_is table typed effects given.accepted given.owns given.order given.answered given.passed given.still

  abbrev pub packages : NamedSub
  packages = elaborated own given.order.first

  pub packages_stand : IsNamedSub (flow_named table typed) 0 packages
  packages_stand = ordered.packages_stand table typed effects given.accepted given.owns given.order given.answered given.passed given.still

  pub packages_in : Has (flow_named table typed) packages
  packages_in = ordered.packages_in table typed effects given.accepted given.owns given.order given.answered given.passed given.still

  -- a point of the package objects, by name
  pub package_point : (p : FlowPoint) → Has (sub_of program 0).points p → (q : NamedPoint) × Has packages.points q × (flow_at own packages q ≡ p)
  package_point = ordered.package_point table typed effects given.accepted given.owns given.order given.answered given.passed given.still

  -- ---- objects

  pub anonymous_same : (x : ℕ) → is_temporary_object s x ≡ false → is_anonymous (view_of s x) ≡ is_anonymous (view_of own x)
  anonymous_same = same.anonymous_same table typed

  -- views are variables and formals of subprograms, or temporaries
  pub text_view : (x : ℕ) → is_anonymous (view_of s x) ≡ true → is_temporary_object s x ≡ false
      → ((is_variable (object_at s x).kind ≡ true) ⊎ (is_in_formal s x ≡ true)) × (is_package_object s x ≡ false)
  text_view x anonymous lasts =
      let is : object_at s x ≡ object_at own x = same.as_text table typed x lasts in
      let text = given.views.local x (sym (anonymous_same x lasts) ∙ anonymous) in (
        elim text.0 [
          | inl variable ↦ inl (ap (λ (o : Object). is_variable o.kind) is ∙ variable)
          | inr formal ↦ inr (ap (λ (o : Object). is_formal_kind o.kind && is_in o.mode) is ∙ formal)
        ],
        package_same s own alike x ∙ text.1,
      )

  pub local : (x : ℕ) → is_anonymous (view_of s x) ≡ true → is_package_object s x ≡ false
  local x anonymous = elim (alike.object x) [
    | inl same_object ↦ package_same s own alike x ∙ (given.views.local x (sym (λ j. is_anonymous (full (alike.table j) (same_object j).of)) ∙ anonymous)).1
    | inr others ↦ others.0.2
  ]

  -- a variable is no temporary
  pub variable_lasts : (x : ℕ) → is_variable (object_at s x).kind ≡ true → is_temporary_object s x ≡ false
  variable_lasts x variable = by_kind_variable_lasts (object_at s x).kind variable

  -- ---- calls

  abbrev signature_is : (n : ℕ) → sub_at s n ≡ record { formals = (sub_of program n).formals; result = (sub_of program n).result }
  signature_is = signature_of program

  pub result_same : (n : ℕ) → (sub_at s n).result ≡ (sub_of program n).result
  result_same n = ap (λ (z : Signature). z.result) (signature_is n)

  formals_same : (n : ℕ) → (sub_at s n).formals ≡ (sub_of program n).formals
  formals_same n = ap (λ (z : Signature). z.formals) (signature_is n)

  -- the first formal of a traversal function
  pub first_there : (n : ℕ) → traverses s.table (sub_of program n).result ≡ true
      → (f : ℕ) × (rest : List ℕ) × ((sub_of program n).formals ≡ f ∷ rest) × (is_given s f ≡ true) × (traversed_formal s (sub_of program n) ≡ Some f)
      × IsAccess s f
  first_there n gives =
      let found = given.first n (ap (traverses s.table) (result_same n) ∙ gives) in
      let formals_are : (sub_of program n).formals ≡ found.0 ∷ found.1 = sym (formals_same n) ∙ found.2 in
      (found.0, found.1, formals_are, found.3, (λ j. traversed_of (gives j) (formals_are j)), found.4)

  -- a formal of an anonymous access type is one
  pub firsts_there : (n x : ℕ) → Has (sub_of program n).formals x → is_anonymous (view_of s x) ≡ true → traversed_formal s (sub_of program n) ≡ Some x
  firsts_there n x has anonymous =
      (λ j. traversed_of (traverses s.table (sym (result_same n) j)) (sym (formals_same n) j)) ∙ given.firsts n x (subst (λ z. Has z x) (sym (formals_same n)) has) anonymous

  access_type_lasts : (u d : ℕ) (c n : Bool) → shape_of s.table u ≡ shape.Access d c n → is_owning s.table u || is_anonymous (full s.table u) ≡ true
  access_type_lasts u d c n is =
      ap (λ b. b || is_anonymous (full s.table u)) (given.owns u) ∙ ap (λ z. owns_of (is_owning s.table) z || is_anonymous (view_of_shape z)) is
      ∙ access_lasts (is_owning s.table) d c n

  seen_lasts : (f u : ℕ) → IsAccess s f → IsAccessAs s u (object_at s f).of → is_owning s.table u || is_anonymous (full s.table u) ≡ true
  seen_lasts f u (d, c, n, is) (inl (inl alike_type)) = access_type_lasts u d c n (alike_type ∙ is)
  seen_lasts f u (d, c, n, is) (inl (inr scalars)) = absurd (not_scalar d c n (sym (ap (λ z. is_scalar (view_of_shape z)) is) ∙ scalars.1))
  seen_lasts f u access (inr (d, c, n, k, e, o, of, is, designates)) = access_type_lasts u d c n of

  module _ (sub : FlowSub) (has : Has program.subs sub) (p : FlowPoint) (there : Has sub.points p) (n : ℕ) (actuals : TypedTree) (result : Option ℕ) (is : p.instr ≡ Call n actuals result) where
    known_formals : (x : ℕ) → Has (sub_of program n).formals x → is_formal s x ≡ true
    known_formals = ordered.formals_known table typed effects given.accepted given.owns given.order given.answered given.passed given.still sub has p there n actuals result is

    passed_there : ArePassedTo s (sub_of program n).formals actuals
    passed_there = given.passes sub has p there n actuals result is known_formals

    differ_there : AreDifferent (sub_of program n).formals
    differ_there = passing.differ_there table typed effects given.accepted given.owns given.order given.answered given.passed given.still sub has p there n actuals result is

    plain_call : traverses s.table (sub_of program n).result ≡ false → IsPlainCall program n
    plain_call none = (none, λ x formal. by_kind x formal (is_anonymous (view_of s x)) refl)
      where
        by_kind : (x : ℕ) → Has (sub_of program n).formals x → (b : Bool) → is_anonymous (view_of s x) ≡ b → b ≡ false
        by_kind x formal false e = refl
        by_kind x formal true e =
            let never : None ≡ Some x = sym (ap (λ b. traversed_of b (sub_of program n).formals) none) ∙ firsts_there n x formal e in absurd (false≢true (ap is_some never))

    pub through_call : traverses s.table (sub_of program n).result ≡ true → IsThroughCall program n actuals
    through_call gives =
        let first = first_there n gives in
        let f : ℕ = first.0 in
        let named = given.traverse sub has p there n actuals result is gives in
        let ways = is_traversing program n f first.4 in
        let differ : AreDifferent (f ∷ ways.rest) = subst AreDifferent ways.formals differ_there in
        let passed : ArePassedTo s (f ∷ ways.rest) (More (Name named.0 named.1 named.2 named.3) named.4) =
        subst (λ z. ArePassedTo s z (More (Name named.0 named.1 named.2 named.3) named.4)) ways.formals (subst (ArePassedTo s (sub_of program n).formals) named.5 passed_there) in
        let in_mode : (object_at s f).mode ≡ mode.In =
        given.modes n ways.of (result_same n ∙ ways.result) f (subst (λ z. Has z f) (sym (formals_same n ∙ ways.formals)) (inl refl)) in
        let seen : IsSeenBy s f (Name named.0 named.1 named.2 named.3) = (subst (λ z. IsPassedTo s f z (Name named.0 named.1 named.2 named.3)) in_mode passed.0).1 (given_type s f first.3) in
        let access = first.5 in record {
          f = f;
          traversed = first.4;
          unseen = λ x others. by_kind x (is_anonymous (view_of s x)) refl (λ anonymous. differ.0 x others
              (sym (some_same f x (sym first.4 ∙ firsts_there n x (subst (λ z. Has z x) (sym ways.formals) (inr others)) anonymous))));
          q = named.0;
          y = named.1;
          path = named.2;
          u = named.3;
          more = named.4;
          actuals_are = named.5;
          leads = seen.0;
          lasts = seen_lasts f named.3 access seen.1;
        }
      where
        by_kind : (x : ℕ) (b : Bool) → is_anonymous (view_of s x) ≡ b → (is_anonymous (view_of s x) ≡ true → ⊥) → is_anonymous (view_of s x) ≡ false
        by_kind x false e none = e
        by_kind x true e none = absurd (none e)

  pub plainly : AreViewCalls program given.owns
  plainly sub has p there n actuals result is = record {
    known = known_formals sub has p there n actuals result is;
    kinds = λ x formal. given.formals x (known_formals sub has p there n actuals result is x formal);
    actuals_stay = passed_there sub has p there n actuals result is;
    passes = elim (bool_cases (traverses s.table (sub_of program n).result)) [
      | inl gives ↦ inr (through_call sub has p there n actuals result is gives)
      | inr none ↦ inl (plain_call sub has p there n actuals result is none)
    ];
  }

  -- ---- traversal functions

  -- what one gives is named by its first formal, or nothing refutes that (V3)
  pub given_through : (sub : FlowSub) → Has program.subs sub → (p : FlowPoint) → Has sub.points p
      → (m : PlaceName) (b : Bool) → Has (map (λ (a : Placed). a.act) p.acts) (act.Give m b)
      → ((f : ℕ) → traversed_formal s sub ≡ Some f → IsOnlyRoot s (sub_acts sub) m.root f → ⊥) → ⊥
  given_through sub has p there m b gives none =
      let at = Has-map_from (λ (a : Placed). a.act) p.acts (act.Give m b) gives in
      let a : Placed = at.0 in
      given.accepted.no_reports.complete (text_report a.pos rule.V3 m)
      (on_views sub has (elsewhere p a.pos m b (there, subst (Has p.acts) (placed_at a (act.Give m b) at.2) at.1) none))
    where
      placed_at : (a : Placed) (b : Act) → a.act ≡ b → a ≡ record { pos = a.pos; act = b }
      placed_at a b is = (λ i. record { pos = a.pos; act = is i })

  -- the call of one leads to the point that takes its result
  pub followed_there : (named : NamedSub) → Has (flow_named table typed) named → (p : NamedPoint) → Has named.points p → (n : ℕ) (actuals : TypedTree) (t : ℕ)
      → p.instr ≡ Call n actuals (Some t) → traverses s.table (sub_of program n).result ≡ true → IsFollowed named.points p n actuals
  followed_there named has p there n actuals t is gives = elim (valued.where_is table typed effects given named has) [
    | inl e ↦ absurd (valued.no_call table typed effects given named e p there n actuals (Some t) is)
    | inr inside ↦ (
        let body = valued.body table typed effects given named has inside in
        elim (sub_followed (setting_from own body.2 body.0) body.0 (GivesScalar own) (GivesOwnless own) (GivesNamed own) (GivesSeen own) (valued.weaker table typed effects given) (valued.wider table typed effects given)
        (given.results body.0 body.1)
        p (subst (λ (z : NamedSub). Has z.points p) (sym body.4) there) n actuals t is) [
          | inl plain ↦ absurd (not_plain plain)
          | inr follows ↦ subst (λ (z : NamedSub). IsFollowed z.points p n actuals) body.4 follows
        ])
  ]
    where
      not_plain : GivesNamed own n → ⊥
      not_plain plain = by_result (sub_of program n).result refl gives
        where
          by_result : (r : Option ℕ) → (sub_of program n).result ≡ r → traverses s.table r ≡ true → ⊥
          by_result None answer seen = false≢true seen
          by_result (Some of) answer seen =
              true_false (is_anonymous (full s.table of)) seen
              (ap (λ (rows : Table). is_anonymous (full rows of)) alike.table ∙ plain of (sym (valued.result_same table typed effects given n) ∙ answer))

  -- ---- the text

  pub plain_there : (named : NamedSub) → Elaborates named → (p : NamedPoint) → Has named.points p → IsPlain own p
  plain_there named e p there =
      package_plain own (unnumbered own) given.order.first given.order.declares given.views.values p (subst (λ (z : NamedSub). Has z.points p) (sym e) there)

  abbrev pub Above : NamedPoint → Type 0
  Above p = IsAbove (is_older own typed.scopes) (fits own) p

  pub body_good : (named : NamedSub) → OfBody named → AllByRecursion Above named.points × AreFading own named.points
  body_good named body =
      let text : TypedSub = body.0 in
      let layered = given.views.layered text body.1 in
      subst (λ (z : NamedSub). AllByRecursion Above z.points × AreFading own z.points) body.4
      (sub_good (setting_from own body.2 text) (is_older own typed.scopes) (fits own) layered.0 text (given.order.bodies text (in_subs text body.1)).settled layered.1)

  -- ---- a point

  module _ (named : NamedSub) (has : Has (flow_named table typed) named) (p : NamedPoint) (there : Has named.points p) where
    pub in_sub : Has (flow_sub own named).points (flow_at own named p)
    in_sub = Has-map (λ (q : NamedPoint). flow_at own named q) named.points p there

    pub fine_there : IsFine s named.sub.result p.instr
    fine_there = given.accepted.fine (flow_sub own named) (in_program named has) (flow_at own named p) in_sub

    -- what a call gives that a point takes was called with a name
    traversed_there : (q : Pos) (n : ℕ) (a : TypedTree) → Takes p.instr (typed_tree.Call q n a) → traverses s.table (sub_at s n).result ≡ true → IsTraversed s (typed_tree.Call q n a)
    traversed_there q n a takes gives = elim (valued.where_is table typed effects given named has) [
      | inl e ↦ absurd (waiting.takes_none table typed effects given named e p there q n a takes)
      | inr inside ↦ (
          let body = valued.body table typed effects given named has inside in
          let found = sub_given (setting_from own body.2 body.0) body.0 p (subst (λ (z : NamedSub). Has z.points p) (sym body.4) there) q n a takes in
          let r : NamedPoint = found.3 in
          let at = subst (λ (z : NamedSub). Has z.points r) body.4 found.4 in
          let through = through_call (flow_sub own named) (in_program named has) (flow_at own named r) (Has-map (λ (z : NamedPoint). flow_at own named z) named.points r at) n a (Some found.0) found.5
          (ap (traverses s.table) (sym (result_same n)) ∙ gives) in record {
            pos = q;
            sub = n;
            name_pos = through.q;
            root = through.y;
            path = through.path;
            of = through.u;
            others = through.more;
            is = ap (typed_tree.Call q n) through.actuals_are;
            gives = gives;
            leads = through.leads;
            lasts = through.lasts;
          })
    ]

    -- No view has what a function gives as its source, but where it is called with a name.
    pub source_there : NamesSource s p.instr
    source_there = elim (valued.where_is table typed effects given named has) [
      | inl e ↦ (
          let declared = declares named e p there (still_there named e p there) in
          subst (NamesSource s) (sym declared.2) (plain_source declared.0 declared.1 declared.2 (plain_there named e p there declared.0 declared.1 declared.2)))
      | inr inside ↦ body_source p.instr refl
          (all_has Above named.points p (body_good named (valued.body table typed effects given named has inside)).0 there)
    ]
      where
        variable : (x : ℕ) → IsStoredAt p.instr x → is_anonymous (view_of s x) ≡ true → is_variable (object_at s x).kind ≡ true
        variable = given.stored (flow_sub own named) (in_program named has) (flow_at own named p) in_sub

        stored_lasts : (x : ℕ) → IsStoredAt p.instr x → is_anonymous (view_of s x) ≡ true → is_temporary_object s x ≡ false
        stored_lasts x stored anonymous = variable_lasts x (variable x stored anonymous)

        plain_source : (x : ℕ) (v : TypedTree) → p.instr ≡ Declare x v → not (is_anonymous (view_of own x)) && no_views own (roots v) ≡ true → NamesSource s (Declare x v)
        plain_source x v is plain anonymous =
            absurd (not_both (is_anonymous (view_of own x)) (no_views own (roots v)) (sym (anonymous_same x (stored_lasts x (inl (v, is)) anonymous)) ∙ anonymous) plain)

        in_layout : (n : ℕ) → traverses own.table (sub_at own n).result ≡ true → traverses s.table (sub_at s n).result ≡ true
        in_layout n gives = (λ j. traverses (alike.table j) (get_or (alike.subs j) n (record { formals = []; result = None })).result) ∙ gives

        body_source : (i : Instruction) → p.instr ≡ i → Above p → NamesSource s i
        body_source (Declare x (typed_tree.More (typed_tree.Call q n a) rest)) is above = λ anonymous.
            let none : rest ≡ NoMore = (subst (IsFine s named.sub.result) is fine_there).0 in
            let fit = sym (ap (fits own) is) ∙ above.declared x (typed_tree.More (typed_tree.Call q n a) rest) is in
            inr (traversed_there q n a (inl (x, is ∙ ap (λ z. Declare x (typed_tree.More (typed_tree.Call q n a) z)) none))
            (in_layout n (source_gives (is_anonymous (view_of own x)) (traverses own.table (sub_at own n).result) (is_rooted_in (λ y. is_observer own x || nat_lt y x) (first a))
            (sym (anonymous_same x (stored_lasts x (inl (typed_tree.More (typed_tree.Call q n a) rest, is)) anonymous)) ∙ anonymous) fit)))
        body_source (Declare x (typed_tree.More e rest)) is above = λ anonymous. inl refl
        body_source (Declare x v) is above = λ anonymous. inl refl
        body_source (Assign (Name k y steps u) (typed_tree.Call q n a)) is above = λ x whole_is anonymous.
            let end = whole_end y x steps whole_is in
            let view : is_anonymous (view_of s y) ≡ true = ap (λ z. is_anonymous (view_of s z)) end.1 ∙ anonymous in
            let here : p.instr ≡ Assign (Name k y NoMore u) (typed_tree.Call q n a) = is ∙ ap (λ z. Assign (Name k y z u) (typed_tree.Call q n a)) end.0 in
            let fit = sym (ap (fits own) here) ∙ above.assigned (Name k y NoMore u) (typed_tree.Call q n a) here in
            inr (traversed_there q n a (inr (inl (k, y, NoMore, u, here, silent_end)))
            (in_layout n (stored_gives (is_anonymous (view_of own y)) (is_formal own y) (traverses own.table (sub_at own n).result)
            (sym (anonymous_same y (variable_lasts y (variable y (inr (k, u, typed_tree.Call q n a, here)) view))) ∙ view)
            (valued.variable_plain table typed effects given y (variable y (inr (k, u, typed_tree.Call q n a, here)) view)) fit)))
        body_source (Assign target (typed_tree.Call q n a)) is above = λ x whole_is anonymous. (let never : None ≡ Some x = whole_is in absurd (false≢true (ap is_some never)))
        body_source (Assign target e) is above = λ x whole_is anonymous. inl refl
        body_source i is above = tt

    -- formals of what is called are known as such
    formals_there : (n : ℕ) (actuals : TypedTree) (t : Option ℕ) → p.instr ≡ Call n actuals t → (x : ℕ) → Has (sub_at s n).formals x → is_formal s x ≡ true
    formals_there n actuals t e x formal =
        (plainly (flow_sub own named) (in_program named has) (flow_at own named p) in_sub n actuals t e).known x
        (subst (λ fs. Has fs x) (ap (λ (z : Signature). z.formals) (signature_there program.subs n)) formal)

    -- its acts are the same by the text and as the program is laid out
    pub acts_same : (result : Option ℕ) (kept : List ℕ)
        → acts_of (record { typing = s; result = result; roots = kept }) p.pos p.instr ≡ acts_of (record { typing = own; result = result; roots = kept }) p.pos p.instr
    acts_same result kept = instruction_same s own alike result kept p.pos p.instr formals_there

  sources_there : (sub : FlowSub) → Has program.subs sub → (p : FlowPoint) → Has sub.points p → NamesSource s p.instr
  unfolding flow_program
  sources_there sub has p there =
      let named = Has-map_from (flow_sub own) (flow_named table typed) sub has in
      let q = Has-map_from (λ (z : NamedPoint). flow_at own named.0 z) (named.0).points p (subst (λ (z : FlowSub). Has z.points p) (sym named.2) there) in
      subst (λ (z : FlowPoint). NamesSource s z.instr) q.2 (source_there named.0 named.1 q.0 q.1)

  -- ---- facts

  abbrev IsNewIn : FlowSub → Type 0
  IsNewIn sub =
      (before : List ℕ) (last : ℕ) → ControlPath (path_points program effects sub) before last
      → (x : ℕ) (v : TypedTree) → (get_or sub.points last no_point).instr ≡ Declare x v → (name : PlaceName) → name.root ≡ x
      → (Has (facts_before (path_points program effects sub) before) (Moved name) → ⊥)
      × (Has (facts_before (path_points program effects sub) (last ∷ before)) (Moved name) → ⊥)

  -- what they are declared with names nothing that owns, in the layout either
  text_owners : names_no_owner s given.order.first.body ≡ true
  unfolding flow_program
  text_owners =
      owners_same s own alike.table (is_package_object own) shared given.order.first.body (reverse given.order.first.formals) given.order.declares given.views.seen
      (λ x has. text x (Has-append_left given.order.first.formals (declared_within given.order.first.body) x (has_reverse given.order.first.formals x has)))
      (λ x has. text x (Has-append_right given.order.first.formals (declared_within given.order.first.body) x has)) given.order.unmoved
    where
      shared : (x : ℕ) → is_package_object own x ≡ true → object_at s x ≡ object_at own x
      shared x is = elim (alike.object x) [
        | inl same ↦ same
        | inr others ↦ absurd (let no : false ≡ true = sym others.1.2 ∙ is in false≢true no)
      ]

      text : (x : ℕ) → Has (objects_of given.order.first) x → object_at s x ≡ object_at own x
      text x has =
          object_before typed.objects (map temporary_object (temporaries_of (flow_named table typed))) x text_io
          ((given.order.bodies given.order.first (subst (λ subs. Has subs given.order.first) (sym given.order.subs) (inl refl))).numbered x has).1

  -- the initial values of package objects name nothing that owns, and no view
  pub names_none : (named : NamedSub) → Elaborates named → (p : NamedPoint) → Has named.points p → (x : ℕ) → Has (named_in p.instr) x → has_scope_end s x ≡ true → ⊥
  names_none named e p there x names lasts =
      let declared = package_declares s (unnumbered own) given.order.first given.order.declares text_owners p (subst (λ (z : NamedSub). Has z.points p) (sym e) there)
      (still_there named e p there) in
      let value : Has (roots declared.1) x = subst (λ i. Has (named_in i) x) declared.2 names in
      elim (either (is_owning s.table (object_at s x).of) (is_anonymous (view_of s x)) lasts) [
        | inl owning ↦ owns_none s (roots declared.1) x declared.3 value owning
        | inr anonymous ↦ no_view own (roots declared.1) x
            (and_second (not (is_anonymous (view_of own declared.0))) _ (plain_there named e p there declared.0 declared.1 declared.2)) value
            (sym (anonymous_same x (waiting.package_lasts table typed effects given named e p there x names)) ∙ anonymous)
      ]

  -- what is named is no temporary whose scope has an end
  pub named_unheld : (named : NamedSub) → Has (flow_named table typed) named → (p : NamedPoint) → Has named.points p → (x : ℕ) → Has (named_in p.instr) x → is_held s x ≡ false
  named_unheld named has p there x names = elim (valued.where_is table typed effects given named has) [
    | inl e ↦ by (is_temporary_object s x) (has_scope_end s x) refl (names_none named e p there x names)
    | inr inside ↦ valued.body_unheld table typed effects given named has inside p there x names
  ]
    where
      by : (a b : Bool) → has_scope_end s x ≡ b → (has_scope_end s x ≡ true → ⊥) → a && b ≡ false
      by true true is none = absurd (none is)
      by true false is none = refl
      by false b is none = refl

  pub supplied_there : (named : NamedSub) → Has (flow_named table typed) named → (p : NamedPoint) → Has named.points p → IsSupplied s p
  supplied_there = ordered.supplied_there table typed effects given.accepted given.owns given.order given.answered given.passed given.still

  new_in : (named : NamedSub) → Has (flow_named table typed) named → IsNewIn (flow_sub own named)
  new_in named has = elim (cases named has) [
    | inl e ↦ new_there table typed effects given.owns given.parts_named given.accepted.fine given.accepted.effects_are given.stored
        sources_there plainly named has (laid named has) (λ p there. (supplied_there named has p there).0)
        (ordered.IsNumbered table typed effects given.accepted given.owns given.order given.answered given.passed given.still) (λ x. ⊥) (reverse given.order.first.formals)
        (λ x what out. out) (ordered.package_is_ordered table typed effects given.accepted given.owns given.order given.answered given.passed given.still named e)
        (λ p there x names lasts. absurd (names_none named e p there x names lasts)) (named_unheld named has)
    | inr b ↦ new_there table typed effects given.owns given.parts_named given.accepted.fine given.accepted.effects_are given.stored
        sources_there plainly named has (laid named has) (λ p there. (supplied_there named has p there).0)
        (ordered.IsOwn table typed effects given.accepted given.owns given.order given.answered given.passed given.still) (λ x. is_package_object own x ≡ true)
        (reverse (b.0).formals) (λ x what out. (let both : false ≡ true = sym what.1 ∙ out in absurd (false≢true both)))
        (ordered.body_is_ordered table typed effects given.accepted given.owns given.order given.answered given.passed given.still named b)
        (λ p there x names lasts. seen_has (is_package_object own) p.scope (named_in p.instr) x (body_is_seen named b p there) names) (named_unheld named has)
  ]

  pub are_new : AreNew program effects
  unfolding flow_program
  are_new sub has =
      let named = Has-map_from (flow_sub own) (flow_named table typed) sub has in subst IsNewIn named.2 (new_in named.0 named.1)

  pub are_elaborated : AreElaborated program
  are_elaborated = record {
    declared = ordered.declared_there table typed effects given.accepted given.owns given.order given.answered given.passed given.still;
    unmoved = unmoved_there;
  }
    where
      unmoved_there : (p : FlowPoint) → Has (sub_of program 0).points p → (a : Placed) → Has p.acts a → (name : PlaceName) → Has (adds a.act) (Moved name) → ⊥
      unmoved_there p has a acts name moved =
          let q = package_point p has in
          let kept : List ℕ = kept_roots own 0 own.objects (sub_facts own given.order.first packages.points) in
          let found = (point_good program given.owns given.parts_named (q.0).instr (given.stored (flow_sub own packages) (in_program packages packages_in) (flow_at own packages q.0) (in_sub packages packages_in q.0 q.1))
          given.order.first.result kept (q.0).pos (fine_there packages packages_in q.0 q.1)
          (plainly (flow_sub own packages) (in_program packages packages_in) (flow_at own packages q.0) (in_sub packages packages_in q.0 q.1))
          (source_there packages packages_in q.0 q.1) a
          (subst (λ z. Has z a) (sym (acts_same packages packages_in q.0 q.1 given.order.first.result kept))
          (subst (λ (z : FlowPoint). Has z.acts a) (sym q.2) acts))).0 (Moved name) moved in
          names_none packages refl q.0 q.1 name.root found.0 found.1
