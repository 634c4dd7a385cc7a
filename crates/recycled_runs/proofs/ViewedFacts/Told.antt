-- Where a step of an instruction goes on that is no call and isn't the end of a scope, facts of all frames are exact,
-- with the views then.
use Rattle.soundness.specs.ViewedSoundness.Holds.{is_view, is_fixed, AllKeep, IsNamed, Seeing}
use Rattle.std.proofs.Common.{◌≡◌, refl, sym, ap, ◌∙◌, subst, inl, inr, ℕ, suc, true, false, List, [], ◌∷◌, ◌++◌, map, length, Some, None, take, Bool}
use Rattle.std.proofs.lemmas.Bool.{false≢true}
use Rattle.machine.specs.spark_base.Lists.{Has}
use Rattle.machine.specs.spark_base.declared.position.Pos.{Pos}
use Rattle.machine.specs.place_names.declared.act.Act.{Act}
use Rattle.machine.specs.place_names.declared.act.Act.TheVariants as act
use Rattle.machine.specs.place_names.declared.act.Placed.{Placed}
use Rattle.machine.specs.place_names.declared.fact.Fact.{Fact}
use Rattle.machine.specs.place_names.declared.fact.Fact.TheVariants.{Moved}
use Rattle.machine.specs.place_names.Names.{Name as PlaceName}
use Rattle.machine.specs.type_definitions.Types.{Table, full}
use Rattle.machine.specs.typed_tree.Trees.{TypedTree, Name, NoMore, More, Call as CallIn}
use Rattle.machine.specs.typed_tree.Programs.{TypedProgram}
use Rattle.machine.specs.flow_paths.declared.report.Effects.{Effects}
use Rattle.machine.specs.flow_paths.declared.point.LeakSpot.{LeakSpot}
use Rattle.machine.specs.flow_paths.Instructions.{Instruction, Declare, Assign, Hold, EndScope, Finish}
use Rattle.machine.specs.flow_paths.Objects.{Typing, object_at, is_anonymous, is_package_object, is_observer, view_of, is_variable, is_borrowing, is_observing, is_borrower}
use Rattle.machine.specs.flow_paths.Names.{waiting as waits_in, name_of, selectors}
use Rattle.machine.specs.flow_paths.Laid.{FlowProgram, number_in, flow_sub, typing_of, flow_typing, flow_program}
use Rattle.machine.specs.flow_paths.Paths.{PathPoint, facts_before}
use Rattle.machine.specs.flow_paths.Effects.{path_points}
use Rattle.machine.specs.flow_paths.LeakPlan.{IsExcused}
use Rattle.machine.specs.flow_paths.Scopes.{taken}
use Rattle.machine.specs.Memory.{Memory, stored}
use Rattle.machine.specs.Words as machine
use Rattle.machine.specs.States.{Frame, State, Outcome, Goes, Ends}
use Rattle.machine.specs.Step.{Turn, start}
use Rattle.machine.specs.Run.{step}
use Rattle.soundness.specs.OwnedWays.Ways.{Step, name_of as way_name, Way, Told, after, AllowsAll, Allows}
use Rattle.soundness.specs.Seen.{home, seen, IsNear, is_view_formal}
use Rattle.soundness.specs.Sound.{Stage, facts_of, IsNoCall, IsAtPoint, view_of as view_here}
use Rattle.soundness.specs.TypedLaws.Needed.{IsFine, Leads, Source}
use Rattle.soundness.proofs.Contents.{bool_cases}
use Rattle.soundness.proofs.Taking.{Takes, takes_as, nothing_more}
use Rattle.soundness.proofs.Eased.{eased}
use Rattle.soundness.proofs.Inherited.{after_splits}
use Rattle.soundness.proofs.Around.{IsFar}
use Rattle.soundness.specs.OwnedLoans.Views.{Around, Views, Viewed}
use Rattle.soundness.proofs.ViewedSoundness.ViewKinds.{true_false, free_formal, plain_named}
use Rattle.soundness.proofs.ViewedSoundness.Outcomes.{IsGood, assigned_acts}
use Rattle.viewed_steps.specs.Sound.{ViewStage, GoneElsewhere, IsStoredAt, AreTurned}
use Rattle.viewed_steps.specs.Awaited.{AreScalar, temporaries_of, TakesScalars}
use Rattle.viewed_steps.specs.Ready.{AreOrderly, IsReady}
use Rattle.viewed_steps.proofs.Waiting.{StandsBetween, beside_them, handed}
use Rattle.viewed_steps.proofs.Standing as standing
use Rattle.viewed_steps.proofs.Packages as packages
use Rattle.viewed_steps.proofs.Innermost as innermost
use Rattle.recycled_runs.specs.ViewedFacts.Exact.{IsDefiniteOf, IsExact}
use Rattle.recycled_runs.proofs.ViewedFacts.Instructions.{ExactOn, turned_exact}
use Rattle.recycled_runs.proofs.ViewedFacts.Viewing.{reborrow_unmoved}
use Rattle.viewed_steps.proofs.Views.{anonymous_view, view_cases}
use Rattle.recycled_runs.proofs.ViewedFacts.Frames.{elsewhere as moved_elsewhere, IsDefiniteHere}
use Rattle.recycled_runs.proofs.ViewedFacts.Here as here
use Rattle.recycled_runs.proofs.ViewedFacts.Stepping as stepping
use Rattle.viewed_steps.proofs.Views.{AreAccess}
use Rattle.recycled_runs.proofs.ViewedFacts.Steps.{IsAway}
use Rattle.machine.specs.flow_paths.Acts.{before_write}
use Rattle.soundness.proofs.Scalars.{acts_append, acts}
use Rattle.soundness.proofs.ViewedSoundness.Evaluated.{keep_both}
use Rattle.recycled_runs.proofs.ViewedFacts.Given.{call_tree, given_unmoved, reborrowed_acts}
use Rattle.viewed_steps.proofs.Ended.{view_kinds}
use Rattle.viewed_steps.specs.Seeing.{sees_in}
use Rattle.viewed_steps.proofs.Sees.{sees_seeing}
use Rattle.recycled_runs.proofs.ViewedFacts.Constructors.{is_declare_instruction, is_goes_outcome, is_hold_instruction}
use Rattle.viewed_steps.proofs.InnerFrame.{InnerFrame}
use Rattle.recycled_runs.proofs.Parted.{goes_states}
use Rattle.soundness.proofs.Parted.{by_either}

assigned_same : {a b c d : TypedTree} → Assign a b ≡ Assign c d → b ≡ d
assigned_same e = cc

target_same : {q r : Pos} {x y u w : ℕ} {path_of steps_there a b : TypedTree} → Assign (Name q x path_of u) a ≡ Assign (Name r y steps_there w) b → u ≡ w
target_same e = cc

by_source : (e : TypedTree) (k : Pos) (n : ℕ) (actuals : TypedTree) (r : Pos) (y : ℕ) (steps_there : TypedTree) (w : ℕ) → e ≡ CallIn k n actuals → e ≡ Name r y steps_there w → ⊥
by_source e k n actuals r y steps_there w is same = cc

module _ (table : Table) (typed : TypedProgram) (effects : Effects) (input : List ℕ) (ready : IsReady table typed effects) where
  abbrev sees : ℕ → Bool
  sees = sees_in (flow_program table typed)

  abbrev seeing : Seeing (flow_typing (flow_program table typed)) sees
  seeing = sees_seeing (flow_program table typed)

  abbrev program : FlowProgram
  program = flow_program table typed

  abbrev s : Typing
  s = flow_typing program

  abbrev own : Typing
  own = typing_of table typed

  abbrev in_formals : AreAccess s
  in_formals = standing.in_formals table typed effects input ready

  abbrev local : (x : ℕ) → is_view s x ≡ true → is_package_object s x ≡ false
  local = standing.local table typed effects input ready

  abbrev unmoved_stage : (e : Stage) → e.frame.sub ≡ 0 → (name : PlaceName) → Has (facts_of program effects e) (Moved name) → ⊥
  unmoved_stage = packages.unmoved_stage table typed effects input ready

  -- a point of a procedure, in a state that is sound and whose facts are exact
  module _ (inner : InnerFrame table typed effects) (exact_before : Told (seen s inner.state.memory [] []) (IsDefiniteOf program effects (record { stage = inner.top; views = inner.views; cells = [] } ∷ (inner.below ∷ inner.more_frames)))) where
    abbrev outer : List Frame
    outer = inner.below.stage.frame ∷ inner.rest

    abbrev older : List ViewStage
    older = inner.below ∷ inner.more_frames

    abbrev depth : ℕ
    depth = suc (length inner.rest)

    abbrev between : (g : ViewStage) → Has (inner.below ∷ inner.more_frames) g → StandsBetween table typed effects unmoved_stage local inner.state (suc (length inner.rest)) (inner.below ∷ inner.more_frames) g
    between = innermost.between table typed effects input ready inner

    abbrev other : Around (home s (suc (length inner.rest)))
    other = beside_them table typed effects unmoved_stage local inner.state (suc (length inner.rest)) (inner.below ∷ inner.more_frames) between

    abbrev alone : (w : Way) → IsNear (suc (length inner.rest)) w → IsFar (suc (length inner.rest)) (GoneElsewhere program effects (inner.below ∷ inner.more_frames)) w → ⊥
    alone = innermost.alone table typed effects input ready inner

    abbrev elsewhere : Way → Type 0
    elsewhere = moved_elsewhere table typed effects unmoved_stage local inner.state (suc (length inner.rest)) (inner.below ∷ inner.more_frames) between inner.views (innermost.own_views table typed effects input ready inner)

    abbrev away : (w : Way) → elsewhere w → IsAway s (suc (length inner.rest)) other w
    away = here.away table typed effects input ready inner exact_before

    abbrev at : Turn
    at = standing.t table typed effects input ready inner.state inner.top older outer inner.named inner.p inner.frames inner.of_sub inner.at_point

    abbrev points : List PathPoint
    points = path_points program effects (flow_sub own inner.named)

    abbrev own_facts : List Fact
    own_facts = standing.facts table typed effects input ready inner.state inner.top older outer inner.named inner.p inner.frames inner.of_sub inner.at_point inner.path

    abbrev around : List Fact
    around = handed table typed effects unmoved_stage local inner.state depth older between

    abbrev facts_now : List Fact
    facts_now = own_facts ++ around

    abbrev own_views : (x : ℕ) (w : Way) → inner.views.way x ≡ Some w → is_package_object s x ≡ false
    own_views = innermost.own_views table typed effects input ready inner

    abbrev viewed : Viewed (home s depth) sees other inner.views (view_here s inner.state) facts_now
    viewed = here.viewed table typed effects input ready inner exact_before

    abbrev home_frame : (x : ℕ) → is_package_object s x ≡ false → home s depth x ≡ depth
    home_frame = innermost.home_frame table typed effects input ready inner

    abbrev orderly : AreOrderly program inner.p (λ q. (n : ℕ) × Has (map (number_in inner.named.points) inner.p.next) n × IsAtPoint inner.named.points n q)
    orderly = innermost.orderly table typed effects input ready inner

    abbrev none_taken : ℕ → ℕ → Type 0
    none_taken a b = ⊥

    abbrev exact : IsExact s (home s depth) inner.views elsewhere inner.state.memory facts_now
    exact = here.exact table typed effects input ready inner exact_before

    abbrev Excused : LeakSpot → Type 0
    Excused = IsExcused points inner.top.frame.next

    abbrev placed_by : Instruction → List Placed
    placed_by i = standing.acts_by table typed effects input ready inner.state inner.top older outer inner.named inner.p inner.frames inner.of_sub inner.at_point s i

    abbrev acts_by : Instruction → List Act
    acts_by i = standing.acts_here table typed effects input ready inner.state inner.top older outer inner.named inner.p inner.frames inner.of_sub inner.at_point i

    abbrev given_words : List (List machine.Word)
    given_words = (start at).waits

    abbrev Plain : Type 0
    Plain = AreScalar s (temporaries_of s (take (taken inner.p.instr) inner.p.scope))

    abbrev Plainly : Type 0
    Plainly = Plain × TakesScalars s inner.p.instr

    abbrev takes_of : Plain → (i : Instruction) → inner.p.instr ≡ i → Takes (taken i) given_words []
    takes_of = innermost.takes_of table typed effects input ready inner

    abbrev easy : Turn
    easy = eased at

    abbrev fine_here : IsFine s inner.named.sub.result inner.p.instr
    fine_here = here.fine_here table typed effects input ready inner exact_before

    abbrev all_told : (next : Memory) (later : Views) → ((x : ℕ) (w : Way) → later.way x ≡ Some w → is_view s x ≡ true) → IsNoCall inner.p.instr
        → IsExact s (home s depth) later elsewhere next (after (acts_by inner.p.instr) facts_now)
        → Told (seen s next [] []) (IsDefiniteHere table typed effects unmoved_stage local depth later (facts_before points (inner.top.frame.next ∷ inner.top.before)) older)
    all_told = here.all_told table typed effects input ready inner exact_before

    -- ---- an instruction that isn't the end of a scope

    module _ (going : (x : ℕ) → inner.p.instr ≡ EndScope x → ⊥) (no_calls : IsNoCall inner.p.instr) where
      abbrev ExactAt : List Fact → List LeakSpot → Outcome → Type 0
      ExactAt facts spots outcome = ExactOn easy sees seeing ready.accepted.settled ready.owns other alone in_formals inner.views ready.class.parts_named none_taken refl refl elsewhere away Excused facts spots outcome

      abbrev good : Plainly → IsGood easy sees seeing ready.accepted.settled ready.owns other alone inner.views ready.class.parts_named none_taken refl refl inner.views facts_now easy.state
      good = stepping.good table typed effects input ready inner exact_before going no_calls

      abbrev allowed_there : (inner.p.instr ≡ Finish → ⊥) → AllowsAll facts_now (acts_by inner.p.instr)
      allowed_there = stepping.allowed_there table typed effects input ready inner exact_before going no_calls

      abbrev main_exact : (inner.p.instr ≡ Finish → ⊥) → ExactAt (after (acts_by inner.p.instr) facts_now) at.point.leaks (step program input inner.state)
      main_exact = stepping.main_exact table typed effects input ready inner exact_before going no_calls

      -- ---- facts of all frames

      -- what a view gets from a name isn't what a function gave
      plain_there : (q : Pos) (x u : ℕ) (e : TypedTree) (k : Pos) (z : ℕ) (path_of : TypedTree) (o : ℕ) → e ≡ Name k z path_of o → inner.p.instr ≡ Assign (Name q x NoMore u) e
          → is_anonymous (full s.table u) ≡ true → Plainly
      plain_there q x u e k z path_of o named_so is view =
          elim (innermost.taken_there table typed effects input ready inner no_calls) [
            | inl plain ↦ plain
            | inr (inr together) ↦ absurd (elim together.1 [
              | inl (y, other_instr, owner) ↦ (let never : Assign (Name q x NoMore u) e ≡ Declare y (More together.0 NoMore) = sym is ∙ other_instr in absurd (false≢true (ap is_declare_instruction never)))
              | inr (inl (r, y, steps_there, w, same, place, scalar)) ↦ (
                  let there : Assign (Name q x NoMore u) e ≡ Assign (Name r y steps_there w) together.0 = sym is ∙ same in
                  true_false (is_anonymous (full s.table u)) view (ap (λ z. is_anonymous (full s.table z)) (target_same there) ∙ place))
              | inr (inr (other_instr, plain_result)) ↦ (let never : Assign (Name q x NoMore u) e ≡ Hold (More together.0 NoMore) = sym is ∙ other_instr in absurd (false≢true (ap is_hold_instruction never)))
            ])
            | inr (inl taken_alone) ↦ absurd (elim taken_alone.8 [
              | inl (y, other_instr) ↦ (let never : Assign (Name q x NoMore u) e ≡ Declare y (More (CallIn taken_alone.3 taken_alone.4 taken_alone.5) NoMore) = sym is ∙ other_instr in absurd (false≢true (ap is_declare_instruction never)))
              | inr (inl (r, y, steps_there, w, same, calls)) ↦ (
                  let there : Assign (Name q x NoMore u) e ≡ Assign (Name r y steps_there w) (CallIn taken_alone.3 taken_alone.4 taken_alone.5) = sym is ∙ same in
                  by_source e taken_alone.3 taken_alone.4 taken_alone.5 k z path_of o (assigned_same there) named_so)
              | inr (inr other_instr) ↦ (let never : Assign (Name q x NoMore u) e ≡ Hold (More (CallIn taken_alone.3 taken_alone.4 taken_alone.5) NoMore) = sym is ∙ other_instr in absurd (false≢true (ap is_hold_instruction never)))
            ])
          ]

      -- no moved name is rooted in a view that is declared or assigned
      assigned_unmoved : (q : Pos) (x u : ℕ) (e : TypedTree) → inner.p.instr ≡ Assign (Name q x NoMore u) e → (inner.p.instr ≡ Finish → ⊥)
          → is_anonymous (view_of s x) ≡ true → is_observer s x ≡ false
          → (n : PlaceName) → Has (after (acts_by inner.p.instr) facts_now) (Moved n) → n.root ≡ x → ⊥
      unfolding Leads waits_in
      assigned_unmoved q x u e is end view borrows n has root = by_fine (subst (IsFine s inner.named.sub.result) is fine_here)
        where
          by_fine : IsFine s None (Assign (Name q x NoMore u) e) → ⊥
          by_fine (v, (leads, type), source) =
              let found = orderly.assigned q x u e is view in
              by_either found.4
              (λ named_so. (from_name (plain_there q x u e found.0 found.1 found.2 found.3 named_so is (ap (λ z. is_anonymous (full s.table z)) (sym leads) ∙ view)) found.0 found.1 found.3 found.2 named_so (found.6 borrows)
              (subst (λ z. Source s z e) (sym (leads ∙ type)) source) leads))
              (λ (r, k, more, call_is, gives). (from_call found.0 found.1 found.3 found.2 r k more call_is leads))
            where
              from_call : (a : Pos) (y w : ℕ) (path_of : TypedTree) (r : Pos) (k : ℕ) (more : TypedTree) → e ≡ call_tree r k a y path_of w more → (object_at s x).of ≡ u → ⊥
              from_call a y w path_of r k more here_is of =
                  let call_there : TypedTree = call_tree r k a y path_of w more in
                  let instr_is : inner.p.instr ≡ Assign (Name q x NoMore (object_at s x).of) call_there =
                  is ∙ (λ j. Assign (Name q x NoMore (sym of j)) (here_is j)) in
                  let one : is_borrower s x ≡ true =
                  view_kinds (is_variable (object_at s x).kind) (is_borrowing (view_of s x)) (is_observing (view_of s x)) view (orderly.variables x (inl (inr (q, u, e, is))) view) borrows in
                  let same = reborrowed_acts s inner.p.pos q r a k x y w (object_at s x).of path_of more one in
                  let mine : Allows facts_now (act.Reborrow x (name_of y path_of)) =
                  (subst (λ z. AllowsAll facts_now (acts z)) same (subst (λ i. AllowsAll facts_now (acts_by i)) instr_is (allowed_there end))).0 in
                  given_unmoved (home s depth) sees other inner.views (view_here s inner.state) facts_now viewed x (name_of y path_of) mine n
                  (subst (λ z. Has (after (acts z) facts_now) (Moved n)) same (subst (λ i. Has (after (acts_by i) facts_now) (Moved n)) instr_is has)) root

              from_name : Plainly → (r : Pos) (y w : ℕ) (path_of : TypedTree) → e ≡ Name r y path_of w → y ≡ x → Source s (object_at s x).of e → (object_at s x).of ≡ u → ⊥
              from_name plain r y w path_of here_is itself source_there of =
                  let instr_is : inner.p.instr ≡ Assign (Name q x NoMore (object_at s x).of) (Name r y path_of w) =
                  is ∙ (λ j. Assign (Name q x NoMore (sym of j)) (here_is j)) in
                  let takes : Takes (waits_in path_of) given_words [] =
                  takes_as (taken (Assign (Name q x NoMore (object_at s x).of) (Name r y path_of w))) (waits_in path_of) given_words [] (nothing_more (waits_in path_of))
                  (takes_of plain.0 (Assign (Name q x NoMore (object_at s x).of) (Name r y path_of w)) instr_is) in
                  reborrow_unmoved easy sees seeing ready.accepted.settled ready.owns other alone in_formals inner.views ready.class.parts_named none_taken refl refl elsewhere away Excused given_words inner.p.pos q r x y w path_of view (orderly.variables x (inl (inr (q, u, e, is))) view) (home_frame x (local x (anonymous_view s x view)))
                  (subst (Source s (object_at s x).of) here_is source_there) takes borrows itself facts_now (good plain)
                  (subst (λ i. AllowsAll facts_now (acts_by i)) instr_is (allowed_there end)) n (subst (λ i. Has (after (acts_by i) facts_now) (Moved n)) instr_is has) root

      -- a formal that owns nothing isn't assigned itself
      formal_kept : (q : Pos) (x u : ℕ) (e : TypedTree) → inner.p.instr ≡ Assign (Name q x NoMore u) e → (inner.p.instr ≡ Finish → ⊥) → is_view_formal s x ≡ true → ⊥
      unfolding Leads selectors
      formal_kept q x u e is end formal = by_fine (subst (IsFine s inner.named.sub.result) is fine_here)
        where
          owner : is_anonymous (view_of s x) ≡ false
          owner = by_either (bool_cases (is_anonymous (view_of s x))) (λ anonymous. (absurd ((in_formals x formal).1 anonymous))) (λ none. (none))

          target : TypedTree
          target = Name q x NoMore u

          by_fine : IsFine s None (Assign (Name q x NoMore u) e) → ⊥
          by_fine (v, (leads, type), source) =
              let named_type : IsNamed s.table u = plain_named s.table u (ap (λ z. is_anonymous (full s.table z)) (sym leads) ∙ owner) in
              let keep : AllKeep (is_fixed s sees) (acts_by (Assign target e)) =
              subst (λ i. AllKeep (is_fixed s sees) (acts_by i)) is (standing.keeps_there table typed effects input ready inner.state inner.top older outer inner.named inner.p inner.frames inner.of_sub inner.at_point) in
              let stores = subst (λ z. AllKeep (is_fixed s sees) (acts z)) (assigned_acts s inner.p.pos x u target NoMore e named_type leads) keep in
              let last = keep_both (is_fixed s sees) (acts (before_write s target e)) (act.Write (name_of x NoMore) ∷ [])
              (subst (AllKeep (is_fixed s sees)) (acts_append (before_write s target e) (record { pos = q; act = act.Write (name_of x NoMore) } ∷ [])) stores) in
              free_formal s sees (name_of x NoMore) (last.1).0 formal refl

      stored_unmoved : (inner.p.instr ≡ Finish → ⊥) → ((n : PlaceName) → Has (after (acts_by inner.p.instr) own_facts) (Moved n) → sees n.root ≡ false)
          → (x : ℕ) → is_view s x ≡ true → IsStoredAt inner.p.instr x → (n : PlaceName) → Has (after (acts_by inner.p.instr) facts_now) (Moved n) → n.root ≡ x → ⊥
      stored_unmoved end clear x view stored n has root =
          elim (after_splits (acts_by inner.p.instr) facts_now own_facts around (innermost.from_both table typed effects input ready inner) (Moved n) has) [
            | inr there ↦ innermost.not_handed table typed effects input ready inner n there
            | inl mine ↦ elim stored [
              | inl (v, e) ↦ packages.new_after table typed effects input ready inner.state inner.top older outer inner.named inner.p inner.frames inner.of_sub inner.at_point inner.path x v e no_calls n mine root
              | inr (q, u, e, is) ↦ elim (view_cases s x view) [
                | inr formal ↦ formal_kept q x u e is end formal
                | inl anonymous ↦ elim (bool_cases (is_observer s x)) [
                  | inl sight ↦ true_false (sees x) (seeing.observers x sight) (ap sees (sym root) ∙ clear n mine)
                  | inr borrows ↦ assigned_unmoved q x u e is end anonymous borrows n has root
                ]
              ]
            ]
          ]

      -- They are exact after the step, too, with the views then.
      pub told_next : (inner.p.instr ≡ Finish → ⊥) → (next : State) → step program input inner.state ≡ Goes next → (later : Views)
          → ((x : ℕ) (w : Way) → later.way x ≡ Some w → is_view s x ≡ true) → ((x : ℕ) (part_path : List Step) (w : Way) → later.part_way x part_path ≡ Some w → sees x ≡ true)
          → ((n : PlaceName) → Has (facts_before points (inner.top.frame.next ∷ inner.top.before)) (Moved n) → sees n.root ≡ false) → AreTurned inner.p.instr inner.views later
          → Told (seen s next.memory [] []) (IsDefiniteHere table typed effects unmoved_stage local depth later (facts_before points (inner.top.frame.next ∷ inner.top.before)) older)
      told_next end next is later only parts clear turned =
          all_told next.memory later only no_calls
          (turned_exact easy sees seeing ready.accepted.settled ready.owns other alone in_formals inner.views ready.class.parts_named none_taken refl refl elsewhere away Excused next.memory later (after (acts_by inner.p.instr) facts_now) inner.holds.only
          (λ x q w has. inner.holds.parts.looks x (inner.holds.parts.only x q w has)) parts
          (λ u moved. plain_after (way_name u) moved.1)
          (λ x w has. elim (turned x w has) [
            | inl old ↦ inl old
            | inr stored ↦ inr (λ n moved root.
                stored_unmoved end (λ m has_it. clear m (subst (λ z. Has z (Moved m)) (sym (standing.facts_on table typed effects input ready inner.state inner.top older outer inner.named inner.p inner.frames inner.of_sub inner.at_point inner.path no_calls)) has_it)) x (only x w has) stored n moved root)
          ])
          (goes_exact (step program input inner.state) is (main_exact end)))
        where
          plain_after : (n : PlaceName) → Has (after (acts_by inner.p.instr) facts_now) (Moved n) → sees n.root ≡ false
          plain_after n has =
              elim (after_splits (acts_by inner.p.instr) facts_now own_facts around (innermost.from_both table typed effects input ready inner) (Moved n) has) [
                | inr there ↦ absurd (innermost.not_handed table typed effects input ready inner n there)
                | inl mine ↦ clear n (subst (λ z. Has z (Moved n)) (sym (standing.facts_on table typed effects input ready inner.state inner.top older outer inner.named inner.p inner.frames inner.of_sub inner.at_point inner.path no_calls)) mine)
              ]

          goes_exact : (outcome : Outcome) → outcome ≡ Goes next → ExactAt (after (acts_by inner.p.instr) facts_now) at.point.leaks outcome
              → IsExact s (home s depth) inner.views elsewhere next.memory (after (acts_by inner.p.instr) facts_now)
          goes_exact (Goes after_step) same_step on = (
              let state_same : after_step ≡ next = goes_states same_step in
              subst (λ (z : State). IsExact s (home s depth) inner.views elsewhere z.memory (after (acts_by inner.p.instr) facts_now)) state_same on.0)
          goes_exact (Ends how after_step) same_step on = absurd (false≢true (ap is_goes_outcome same_step))
