-- An accepted program with borrowers and observers whose subprograms and views are in order is ready, as
-- soundness with views asks.
use Rattle.std.proofs.Common.{◌≡◌, refl, sym, ap, ◌∙◌, ◌⊎◌, inl, inr, ℕ, suc, true, false, List, map}
use Rattle.std.proofs.lemmas.Bool.{true≢false}
use Rattle.machine.specs.spark_base.Lists.{Has}
use Rattle.machine.specs.type_definitions.Types.{Table}
use Rattle.machine.specs.typed_tree.Trees.{TypedTree, Name, NoMore, More}
use Rattle.machine.specs.typed_tree.Programs.{TypedProgram}
use Rattle.machine.specs.flow_paths.declared.report.Effects.{Effects}
use Rattle.machine.specs.flow_paths.Instructions.{Instruction, Declare, Assign, EndScope}
use Rattle.machine.specs.flow_paths.Objects.{Typing, object_at, is_variable, is_anonymous, view_of}
use Rattle.machine.specs.flow_paths.Points.{NamedPoint, FlowPoint}
use Rattle.machine.specs.flow_paths.Laid.{FlowProgram, NamedSub, number_in, flow_typing, flow_program, flow_named}
use Rattle.machine.specs.States.{sub_of}
use Rattle.soundness.specs.Sound.{IsAtPoint, RunIsSound}
use Rattle.viewed_steps.specs.Sound.{IsViewClass}
use Rattle.viewed_steps.specs.Ready.{IsSource, AreOrderly, ViewsAreOrderly, IsReady}
use Rattle.viewed_steps.proofs.Main.{ready_sound}
use Rattle.viewed_steps.specs.Sound.{IsStoredAt}
use Rattle.soundness.proofs.Points.{flow_at}
use Rattle.machine.specs.flow_paths.Laid.{flow_sub, typing_of}
use Rattle.accepted_runs.specs.ViewedFiles.ViewLaws.Program.{IsViewProgram}
use Rattle.accepted_runs.proofs.ViewedFiles.ViewLaws.Enclosing.{itself, transitive}
use Rattle.accepted_runs.proofs.ViewedFiles.ViewLaws.Passing as passing
use Rattle.accepted_runs.proofs.ViewedFiles.ViewLaws.Scoped as scoped
use Rattle.accepted_runs.proofs.ViewedFiles.ViewLaws.Traversals as traversals
use Rattle.accepted_runs.proofs.ViewedFiles.ViewLaws.Waiting as waiting
use Rattle.accepted_runs.proofs.ViewedFiles.ViewLaws.Points as points
use Rattle.accepted_runs.proofs.ViewedFiles.ViewLaws.Sees as sights
use Rattle.accepted_runs.proofs.ViewedFiles.ViewLaws.Fixed as fixed
use Rattle.accepted_runs.proofs.ViewedFiles.ViewLaws.Constructors.{is_declare, declared_object}

no_assign : (i : Instruction) (x : ℕ) (v target e : TypedTree) → i ≡ Declare x v → i ≡ Assign target e → ⊥
no_assign i x v target e is other = (let both : Declare x v ≡ Assign target e = sym is ∙ other in true≢false (ap is_declare both))

no_end : (i : Instruction) (x : ℕ) (v : TypedTree) (y : ℕ) → i ≡ Declare x v → i ≡ EndScope y → ⊥
no_end i x v y is other = (let both : Declare x v ≡ EndScope y = sym is ∙ other in true≢false (ap is_declare both))

same_object : (i : Instruction) (x y : ℕ) (v e : TypedTree) → i ≡ Declare x v → i ≡ Declare y e → x ≡ y
same_object i x y v e is other = (let both : Declare x v ≡ Declare y e = sym is ∙ other in ap (declared_object x) both)

module _ (table : Table) (typed : TypedProgram) (effects : Effects) (given : IsViewProgram table typed effects) where
  abbrev program : FlowProgram
  program = flow_program table typed

  abbrev s : Typing
  s = flow_typing program

  abbrev Follows : NamedSub → NamedPoint → NamedPoint → Type 0
  Follows named p q = (n : ℕ) × Has (map (number_in named.points) p.next) n × IsAtPoint named.points n q

  -- what is declared, assigned or ends and is of an anonymous access type is a variable
  variables_there : (named : NamedSub) → Has (flow_named table typed) named → (p : NamedPoint) → Has named.points p → (x : ℕ) → IsStoredAt p.instr x ⊎ (p.instr ≡ EndScope x)
      → is_anonymous (view_of s x) ≡ true → is_variable (object_at s x).kind ≡ true
  variables_there named has p there x (inl stored) anonymous =
      given.stored (flow_sub (typing_of table typed) named) (scoped.in_program table typed effects given named has) (flow_at (typing_of table typed) named p)
      (scoped.in_sub table typed effects given named has p there) x stored anonymous
  variables_there named has p there x (inr ends) anonymous = points.ends_variable table typed effects given named has p there x ends anonymous

  -- a point that declares a package object
  package_orderly : (named : NamedSub) → Has (flow_named table typed) named → scoped.Elaborates table typed effects given named → (p : NamedPoint)
      → Has named.points p → AreOrderly program p (Follows named p)
  package_orderly named has e p there =
      let found = points.package_there table typed effects given named has e p there in
      record {
        variables = variables_there named has p there;
        begun = points.begins_plain table typed effects given named has p there;
        over = points.ends_plain table typed effects given named has p there;
        declared = λ x v is anonymous.
            (let both : true ≡ false = sym anonymous ∙ ap (λ z. is_anonymous (view_of s z)) (sym (same_object p.instr found.0 x found.1 v found.2 is)) ∙ found.3 in absurd (true≢false both));
        assigned = λ q x w v is anonymous. absurd (no_assign p.instr found.0 found.1 (Name q x NoMore w) v found.2 is);
        read = fixed.read_plain table typed effects given named has p there;
        copied = fixed.unobserved table typed effects given named has p there;
        ended = λ y x is within other. absurd (no_end p.instr found.0 found.1 y found.2 is);
        followed = λ y x is q follows within sight alike. absurd (no_end p.instr found.0 found.1 y found.2 is);
      }

  -- a borrower sees just if what it is declared from does, which is no observer
  declared_there : (named : NamedSub) → Has (flow_named table typed) named → scoped.OfBody table typed effects given named → (p : NamedPoint)
      → Has named.points p → (x : ℕ) (e : TypedTree) → p.instr ≡ Declare x e → is_anonymous (view_of s x) ≡ true → IsSource program p.scope x e
  declared_there named has body p there x e is anonymous =
      let d = points.declared_there table typed effects given named has body p there x e is anonymous in
      let whole : p.instr ≡ Declare x (More d.4 NoMore) = is ∙ ap (Declare x) d.5 in (
        d.0,
        d.1,
        d.2,
        d.3,
        d.4,
        d.5,
        d.6,
        d.7,
        λ none. (
            let borrows = points.borrows table typed effects given x (variables_there named has p there x (inl (inl (e, is))) anonymous) anonymous none in (
              sights.source_plain table typed effects given named has p there body x d.4 whole borrows d.0 d.1 d.2 d.3 d.6,
              sights.sees_alike table typed effects given named has p there x d.4 whole borrows d.0 d.1 d.2 d.3 d.6,
              d.8 none,
            )),
      )

  body_orderly : (named : NamedSub) → (has : Has (flow_named table typed) named) → scoped.OfBody table typed effects given named → (p : NamedPoint)
      → Has named.points p → AreOrderly program p (Follows named p)
  body_orderly named has body p there = record {
    declared = declared_there named has body p there;
    variables = variables_there named has p there;
    begun = points.begins_plain table typed effects given named has p there;
    over = points.ends_plain table typed effects given named has p there;
    assigned = points.assigned_there table typed effects given named has body p there;
    read = fixed.read_plain table typed effects given named has p there;
    copied = fixed.unobserved table typed effects given named has p there;
    ended = points.ended_there table typed effects given named has body p there;
    followed = λ y x is q follows. points.followed_there table typed effects given named has body p there y x is q follows.0 follows.1 follows.2;
  }

  point_orderly : (named : NamedSub) → Has (flow_named table typed) named → (p : NamedPoint) → Has named.points p → AreOrderly program p (Follows named p)
  point_orderly named has p there = elim (scoped.cases table typed effects given named has) [
    | inl e ↦ package_orderly named has e p there
    | inr body ↦ body_orderly named has body p there
  ]

  -- no package object is a view
  packages_plain : (p : FlowPoint) → Has (sub_of program 0).points p → (x : ℕ) (e : TypedTree) → p.instr ≡ Declare x e → is_anonymous (view_of s x) ≡ false
  packages_plain p has x e is =
      let named : NamedSub = scoped.packages table typed effects given in
      let q = scoped.package_point table typed effects given p has in
      let found = points.package_there table typed effects given named (scoped.packages_in table typed effects given) refl q.0 q.1 in
      let here : (q.0).instr ≡ Declare x e = ap (λ (z : FlowPoint). z.instr) q.2 ∙ is in
      ap (λ z. is_anonymous (view_of s z)) (sym (same_object (q.0).instr found.0 x found.1 e found.2 here)) ∙ found.3

  pub views_orderly : ViewsAreOrderly table typed
  unfolding flow_program
  views_orderly = record {
    local = scoped.local table typed effects given;
    passed = points.shown_apart table typed effects given;
    packages = packages_plain;
    transitive = transitive typed.scopes given.views.inner;
    itself = itself typed.scopes;
    points = point_orderly;
    kept = fixed.all_kept table typed effects given;
  }

  class : IsViewClass program
  class = record {
    parts_named = given.parts_named;
    formals = given.formals;
    functions = given.functions;
    modes = given.modes;
    procedures = given.procedures;
  }

  pub views_ready : IsReady table typed effects
  views_ready = record {
    accepted = given.accepted;
    owns = given.owns;
    class = class;
    scoped = scoped.are_scoped table typed effects given;
    passing = passing.are_passed table typed effects given.accepted given.owns given.order given.answered given.passed given.still;
    new = scoped.are_new table typed effects given;
    elaborated = scoped.are_elaborated table typed effects given;
    orderly = views_orderly;
    called = passing.called_to table typed effects given.accepted given.owns given.order given.answered given.passed given.still (fixed.actuals_owned table typed effects given);
    returning = scoped.are_returning table typed effects given;
    valued = waiting.are_valued table typed effects given;
    traversing = traversals.are_traversing table typed effects given;
    packages = scoped.packages table typed effects given;
    stands = scoped.packages_stand table typed effects given;
    main = suc given.order.number;
    is_main = scoped.main_is table typed effects given;
    main_there = scoped.has_main table typed effects given;
    main_plain = given.main_plain;
  }

  -- So each moment of its run is well owned, and none is a trap.
  pub views_sound : (input : List ℕ) → RunIsSound table typed input
  views_sound input = ready_sound table typed effects input views_ready
