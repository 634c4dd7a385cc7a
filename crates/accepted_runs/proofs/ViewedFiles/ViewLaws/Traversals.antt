-- What is asked of traversal functions: the point that a call of one leads to takes the result.
use Rattle.std.proofs.Common.{◌≡◌, refl, sym, ap, ◌∙◌, subst, ◌⊎◌, inl, inr, ℕ, Bool, true, false, [], ◌∷◌, map, Option, Some, None, is_some}
use Rattle.std.proofs.lemmas.Bool.{false≢true, true≢false}
use Rattle.machine.specs.spark_base.Lists.{Has}
use Rattle.machine.specs.spark_base.declared.position.Pos.{Pos}
use Rattle.soundness.proofs.Lists.{Has-append_right}
use Rattle.machine.specs.place_names.declared.act.Act.TheVariants as act
use Rattle.machine.specs.type_definitions.Types.{Table}
use Rattle.machine.specs.typed_tree.Trees.{TypedTree, Name, Call as CallIn, NoMore, More}
use Rattle.machine.specs.typed_tree.Programs.{TypedProgram}
use Rattle.machine.specs.flow_paths.declared.report.Effects.{Effects}
use Rattle.machine.specs.flow_paths.Acts.{placed}
use Rattle.machine.specs.flow_paths.Instructions.{Declare, Assign, Call}
use Rattle.machine.specs.flow_paths.Laid.{FlowSub, FlowProgram, NamedSub, number_in, flow_sub, typing_of, flow_typing, flow_program, flow_named}
use Rattle.machine.specs.flow_paths.Names.{name_of}
use Rattle.machine.specs.flow_paths.Objects.{Typing, object_at, sub_at, is_anonymous, is_borrower, is_observer, is_formal, traverses, view_of}
use Rattle.machine.specs.flow_paths.Points.{NamedPoint, FlowPoint}
use Rattle.machine.specs.flow_paths.Views.{traversed_of, traversed_formal, given}
use Rattle.machine.specs.Owners.{is_in}
use Rattle.machine.specs.States.{sub_of}
use Rattle.soundness.specs.Sound.{IsNamedSub, IsAtPoint}
use Rattle.soundness.proofs.Points.{flow_at, one_point}
use Rattle.settled_types.proofs.OrderLaws.ScopeLaws.Followed.{IsFollowed}
use Rattle.settled_types.proofs.OrderLaws.ScopeLaws.Given.{Takes}
use Rattle.settled_types.proofs.OrderLaws.ScopeLaws.Lists.{and_first}
use Rattle.settled_types.proofs.OrderLaws.ReadyLaws.Ready as ordered
use Rattle.soundness.specs.ViewedSoundness.Holds.{is_given, IsAccess}
use Rattle.viewed_steps.specs.Traversals.{TraversalCall, call_in, IsSeer, IsViewTaker}
use Rattle.viewed_steps.specs.Ready.{AreTraversing, IsTraversalCall}
use Rattle.viewed_steps.proofs.Views.{given_formal}
use Rattle.accepted_runs.specs.ViewedFiles.ViewLaws.Program.{TakesView, IsViewProgram}
use Rattle.accepted_runs.proofs.ViewedFiles.ViewLaws.Reports.{reborrowed_own}
use Rattle.accepted_runs.proofs.ViewedFiles.ViewLaws.Scoped as scoped
use Rattle.accepted_runs.proofs.ViewedFiles.ViewLaws.Valued as valued
use Rattle.accepted_runs.proofs.ViewedFiles.ViewLaws.Points as points
use Rattle.accepted_runs.proofs.ViewedFiles.ViewLaws.Points.{number_there, reborrow_called}

some_same : (a b : ℕ) → Some a ≡ Some b → a ≡ b
some_same a b is = cc

module _ (table : Table) (typed : TypedProgram) (effects : Effects) (known : IsViewProgram table typed effects) where
  abbrev program : FlowProgram
  program = flow_program table typed

  abbrev s : Typing
  s = flow_typing program

  abbrev own : Typing
  own = typing_of table typed

  -- ---- a point that takes what a call gives

  module _ (named : NamedSub) (has : Has (flow_named table typed) named) (q : NamedPoint) (there : Has named.points q) (n : ℕ) (c : TraversalCall)
      (gives : traverses s.table (sub_at s n).result ≡ true) where
    abbrev sub : FlowSub
    sub = flow_sub own named

    abbrev at : FlowPoint
    at = flow_at own named q

    in_program : Has program.subs sub
    in_program = scoped.in_program table typed effects known named has

    in_sub : Has sub.points at
    in_sub = scoped.in_sub table typed effects known named has q there

    takes_it : TakesView s named.sub.result q.instr
    takes_it = known.take sub in_program at in_sub

    stored : (x : ℕ) → is_anonymous (view_of s x) ≡ true → ((v : TypedTree) × (q.instr ≡ Declare x v)) ⊎ ((r : Pos) × (u : ℕ) × (e : TypedTree) × (q.instr ≡ Assign (Name r x NoMore u) e))
        → IsSeer s x
    stored x anonymous is = (known.stored sub in_program at in_sub x is anonymous, anonymous)

    -- a borrower is assigned what goes through itself
    assigned_root : scoped.OfBody table typed effects known named → (r : Pos) (x u : ℕ) → q.instr ≡ Assign (Name r x NoMore u) (call_in n c) → is_borrower s x ≡ true → c.root ≡ x
    assigned_root body r x u is borrows =
        reborrowed_own program effects known.accepted.no_reports sub in_program at in_sub r x (name_of c.root c.path)
        (points.act_has table typed effects known named has body q there (Assign (Name r x NoMore u) (call_in n c)) is (placed r (act.Reborrow x (name_of c.root c.path)))
        (reborrow_called s q.pos r x u c.pos n c.name_pos c.root c.path c.of c.others borrows))

    borrower_there : (x : ℕ) → IsSeer s x → is_observer s x ≡ false → is_borrower s x ≡ true
    borrower_there x seer none = points.borrows table typed effects known x seer.0 seer.1 none

    -- it takes the result
    taken_by : scoped.OfBody table typed effects known named → Takes q.instr (call_in n c) → IsViewTaker s n c named.sub.result q.instr
    taken_by body (inl (x, is)) =
        let take = subst (TakesView s named.sub.result) is takes_it gives in
        inl (x, is, stored x take.0 (inl (More (call_in n c) NoMore, is)))
    taken_by body (inr (inl (r, x, path, u, is, none))) =
        let take = subst (TakesView s named.sub.result) is takes_it gives in
        let whole_is : q.instr ≡ Assign (Name take.0 take.1 NoMore take.2) (call_in n c) = is ∙ ap (λ z. Assign z (call_in n c)) take.3 in
        let seer : IsSeer s take.1 = stored take.1 take.4 (inr (take.0, take.2, call_in n c, whole_is)) in
        inr (inl (take.0, take.1, take.2, whole_is, seer, λ no_observer. assigned_root body take.0 take.1 take.2 whole_is (borrower_there take.1 seer no_observer)))
    taken_by body (inr (inr is)) =
        let take = subst (TakesView s named.sub.result) is takes_it gives in
        inr (inr (is, take))

  -- ---- all of them

  followed_call : (named : NamedSub) (has : Has (flow_named table typed) named) (p : NamedPoint) (there : Has named.points p) (n : ℕ) (actuals : TypedTree) (result : Option ℕ)
      → p.instr ≡ Call n actuals result → (f : ℕ) → traversed_formal s (sub_of program n) ≡ Some f → IsTraversalCall s named (map (number_in named.points) p.next) n actuals
  followed_call named has p there n actuals result is f traversed = elim (valued.where_is table typed effects known named has) [
    | inl e ↦ absurd (valued.no_call table typed effects known named e p there n actuals result is)
    | inr inside ↦ by_result (valued.body table typed effects known named has inside) result is
  ]
    where
      gives_so : (b : Bool) → traverses s.table (sub_of program n).result ≡ b → b ≡ true
      gives_so true same = refl
      gives_so false same = (let never : None ≡ Some f = sym (ap (λ b. traversed_of b (sub_of program n).formals) same) ∙ traversed in absurd (false≢true (ap is_some never)))

      gives : traverses s.table (sub_of program n).result ≡ true
      gives = gives_so (traverses s.table (sub_of program n).result) refl

      gives_at : traverses s.table (sub_at s n).result ≡ true
      gives_at = ap (traverses s.table) (scoped.result_same table typed effects known n) ∙ gives

      gives_some : (r : Option ℕ) → traverses s.table r ≡ true → is_some r ≡ true
      gives_some None seen = absurd (false≢true seen)
      gives_some (Some of) seen = refl

      by_result : scoped.OfBody table typed effects known named → (r : Option ℕ) → p.instr ≡ Call n actuals r → IsTraversalCall s named (map (number_in named.points) p.next) n actuals
      by_result body None call = absurd (
          let answer = (ordered.runs_there table typed effects known.accepted known.owns known.order known.answered known.passed known.still (flow_sub own named)
          (scoped.in_program table typed effects known named has) (flow_at own named p) (scoped.in_sub table typed effects known named has p there) n actuals None call).1 in
          let never : true ≡ false = sym (gives_some (sub_of program n).result gives) ∙ answer in absurd (true≢false never))
      by_result body (Some t) call =
          let through = scoped.through_call table typed effects known (flow_sub own named) (scoped.in_program table typed effects known named has) (flow_at own named p)
          (scoped.in_sub table typed effects known named has p there) n actuals (Some t) call gives in
          let follows = scoped.followed_there table typed effects known named has p there n actuals t call gives in
          let taker : NamedPoint = follows.0 in
          let c : TraversalCall = record { pos = follows.3; name_pos = through.q; root = through.y; path = through.path; of = through.u; others = through.more } in
          let takes : Takes taker.instr (call_in n c) = subst (λ z. Takes taker.instr (CallIn follows.3 n z)) through.actuals_are follows.4 in
          record {
            call = c;
            actuals_are = through.actuals_are;
            taker = λ k next q at_q. subst (λ (z : NamedPoint). IsViewTaker s n c named.sub.result z.instr) (same_point follows k next q at_q)
                (taken_by named has taker follows.1 n c gives_at body takes);
          }
        where
          single : (k m : ℕ) → Has (k ∷ []) m → k ≡ m
          single k m (inl same) = same
          single k m (inr never) = absurd never

          same_point : (follows : IsFollowed named.points p n actuals) (k : ℕ) → Has (map (number_in named.points) p.next) k → (q : NamedPoint) → IsAtPoint named.points k q → follows.0 ≡ q
          same_point follows k next q at_q =
              let number : number_in named.points (follows.0).name ≡ k = single (number_in named.points (follows.0).name) k (subst (λ z. Has (map (number_in named.points) z) k) follows.2 next) in
              one_point named.points k follows.0 q
              (subst (λ z. IsAtPoint named.points z follows.0) number (number_there named.points follows.0 (scoped.laid table typed effects known named has).0 follows.1)) at_q

  pub are_traversing : AreTraversing table typed effects
  are_traversing = record {
    firsts = λ n entered x has anonymous. scoped.firsts_there table typed effects known n x has anonymous;
    first = λ n f entered traversed. first_given n f traversed;
    formal = λ n entered gives. (let found = scoped.first_there table typed effects known n gives in (found.0, found.4));
    given = scoped.given_through table typed effects known;
    returned = λ n entered named of_named p there e last is of result view.
        known.returned (flow_sub own named) (scoped.in_program table typed effects known named (named_has n named of_named)) (flow_at own named p)
        (scoped.in_sub table typed effects known named (named_has n named of_named) p there) e last is of result view;
    followed = followed_call;
    ending = ordered.are_closed table typed effects known.accepted known.owns known.order known.answered known.passed known.still;
  }
    where
      named_has : (n : ℕ) (named : NamedSub) → IsNamedSub (flow_named table typed) n named → Has (flow_named table typed) named
      named_has n named (front, rest, is, long) = subst (λ z. Has z named) (sym is) (Has-append_right front (named ∷ rest) named (inl refl))

      first_given : (n f : ℕ) → traversed_formal s (sub_of program n) ≡ Some f → (is_formal s f ≡ true) × (is_given s f ≡ true) × IsAccess s f
      first_given n f traversed =
          let found = scoped.first_there table typed effects known n (traverses_so (traverses s.table (sub_of program n).result) refl) in
          let same_first : found.0 ≡ f = some_same found.0 f (sym found.4 ∙ traversed) in
          let is_one : is_given s f ≡ true = subst (λ z. is_given s z ≡ true) same_first found.3 in
          (and_first (is_formal s f) (is_in (object_at s f).mode) (given_formal s f is_one), is_one, subst (IsAccess s) same_first found.5)
        where
          traverses_so : (b : Bool) → traverses s.table (sub_of program n).result ≡ b → b ≡ true
          traverses_so true is = refl
          traverses_so false is = (let never : None ≡ Some f = sym (ap (λ b. traversed_of b (sub_of program n).formals) is) ∙ traversed in absurd (false≢true (ap is_some never)))
