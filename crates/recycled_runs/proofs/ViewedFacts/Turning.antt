-- A declaration, an assignment or a return, once the value that it takes is out of the frame.
use Rattle.std.proofs.Common.{◌≡◌, refl, sym, ap, ◌∙◌, subst, ℕ, suc, true, false, List, [], ◌∷◌, ◌++◌, length, append-nil, Some, if◌then◌else◌, Bool}
use Rattle.recycled_runs.proofs.ViewedFacts.Evaluated.{ExactTo}
use Rattle.soundness.proofs.Lasting.{keeps}
use Rattle.soundness.proofs.Numbers.{index_law}
use Rattle.machine.specs.spark_base.Lists.{Has}
use Rattle.machine.specs.place_names.declared.act.Act.{Act}
use Rattle.machine.specs.place_names.declared.act.Act.TheVariants as act
use Rattle.machine.specs.place_names.declared.fact.Fact.{Fact}
use Rattle.machine.specs.place_names.declared.fact.Fact.TheVariants.{Moved}
use Rattle.machine.specs.place_names.Names.{Name as PlaceName}
use Rattle.machine.specs.type_definitions.Types.{Table}
use Rattle.machine.specs.typed_tree.Trees.{TypedTree, NoMore, More}
use Rattle.machine.specs.typed_tree.Programs.{TypedProgram}
use Rattle.machine.specs.flow_paths.declared.report.Effects.{Effects}
use Rattle.machine.specs.flow_paths.declared.point.LeakSpot.{LeakSpot}
use Rattle.machine.specs.flow_paths.Instructions.{Instruction, Hold, EndScope}
use Rattle.machine.specs.flow_paths.Objects.{Typing, object_at, is_package_object}
use Rattle.machine.specs.flow_paths.Acts as flow
use Rattle.machine.specs.flow_paths.Acts.{acts_in, leaks_of}
use Rattle.machine.specs.flow_paths.Laid.{FlowSub, FlowProgram, flow_sub, typing_of, flow_typing, flow_program}
use Rattle.machine.specs.flow_paths.Paths.{PathPoint}
use Rattle.machine.specs.flow_paths.Effects.{path_points}
use Rattle.machine.specs.flow_paths.LeakPlan.{IsExcused}
use Rattle.machine.specs.Memory.{Memory, declared, stored}
use Rattle.machine.specs.Calls.{checks_at}
use Rattle.machine.specs.Evaluate.{Evaluated, Done, Raises, Traps, followed_by, place_of}
use Rattle.machine.specs.States.{Frame, Outcome, Goes, sub_of}
use Rattle.machine.specs.Step.{Turn, turn, start}
use Rattle.machine.specs.Step as steps
use Rattle.soundness.specs.OwnedWays.Ways.{Way, Told, after, AllowsAll}
use Rattle.soundness.specs.Seen.{home, seen, IsNear}
use Rattle.soundness.specs.Sound.{Stage, facts_of, IsNoCall}
use Rattle.soundness.proofs.Scalars.{acts}
use Rattle.soundness.proofs.Eased.{eased}
use Rattle.soundness.proofs.Operands.{handed_over, hold_is}
use Rattle.soundness.proofs.Around.{IsFar}
use Rattle.soundness.specs.OwnedLoans.Views.{Around}
use Rattle.soundness.specs.ViewedSoundness.Holds.{is_fixed, is_view, IsNamed, AllKeep, Seeing}
use Rattle.soundness.proofs.ViewedSoundness.ViewKinds.{plain_named}
use Rattle.soundness.proofs.ViewedSoundness.Outcomes.{named_plain}
use Rattle.viewed_steps.specs.Sound.{ViewStage, GoneElsewhere}
use Rattle.viewed_steps.specs.Ready.{IsReady}
use Rattle.viewed_steps.proofs.Waiting.{StandsBetween, beside_them, handed}
use Rattle.viewed_steps.proofs.Standing as standing
use Rattle.viewed_steps.proofs.Packages as packages
use Rattle.viewed_steps.proofs.Innermost as innermost
use Rattle.viewed_steps.proofs.Giving as giving
use Rattle.recycled_runs.proofs.ViewedFacts.Evaluated.{quiet_on}
use Rattle.machine.specs.Words as machine
use Rattle.soundness.specs.TypedLaws.Needed.{Source}
use Rattle.machine.specs.type_definitions.Types.{full}
use Rattle.machine.specs.flow_paths.Objects.{is_anonymous}
use Rattle.soundness.proofs.ExactFacts.Checks.{none_made}
use Rattle.recycled_runs.specs.ViewedFacts.Exact.{IsDefiniteOf, IsExact}
use Rattle.recycled_runs.proofs.ViewedFacts.Instructions.{ExactOn, waits_exact}
use Rattle.recycled_runs.proofs.ViewedFacts.Frames.{elsewhere as moved_elsewhere}
use Rattle.recycled_runs.proofs.ViewedFacts.Here as here
use Rattle.viewed_steps.proofs.Views.{AreAccess}
use Rattle.recycled_runs.proofs.ViewedFacts.Steps.{IsAway}
use Rattle.viewed_steps.specs.Seeing.{sees_in}
use Rattle.viewed_steps.proofs.Sees.{sees_seeing}
use Rattle.viewed_steps.proofs.InnerFrame.{InnerFrame}

module _ (table : Table) (typed : TypedProgram) (effects : Effects) (input : List ℕ) (ready : IsReady table typed effects) where
  abbrev sees : ℕ → Bool
  sees = sees_in (flow_program table typed)

  abbrev seeing : Seeing (flow_typing (flow_program table typed)) sees
  seeing = sees_seeing (flow_program table typed)

  abbrev program : FlowProgram
  program = flow_program table typed

  abbrev s : Typing
  s = flow_typing program

  abbrev own : Typing
  own = typing_of table typed

  abbrev in_formals : AreAccess s
  in_formals = standing.in_formals table typed effects input ready

  abbrev local : (x : ℕ) → is_view s x ≡ true → is_package_object s x ≡ false
  local = standing.local table typed effects input ready

  abbrev unmoved_stage : (e : Stage) → e.frame.sub ≡ 0 → (name : PlaceName) → Has (facts_of program effects e) (Moved name) → ⊥
  unmoved_stage = packages.unmoved_stage table typed effects input ready

  -- a point of a procedure, in a state that is sound and whose facts are exact
  module _ (inner : InnerFrame table typed effects) (exact_before : Told (seen s inner.state.memory [] []) (IsDefiniteOf program effects (record { stage = inner.top; views = inner.views; cells = [] } ∷ (inner.below ∷ inner.more_frames)))) where
    abbrev outer : List Frame
    outer = inner.below.stage.frame ∷ inner.rest

    abbrev older : List ViewStage
    older = inner.below ∷ inner.more_frames

    abbrev depth : ℕ
    depth = suc (length inner.rest)

    abbrev between : (g : ViewStage) → Has (inner.below ∷ inner.more_frames) g → StandsBetween table typed effects unmoved_stage local inner.state (suc (length inner.rest)) (inner.below ∷ inner.more_frames) g
    between = innermost.between table typed effects input ready inner

    abbrev other : Around (home s (suc (length inner.rest)))
    other = beside_them table typed effects unmoved_stage local inner.state (suc (length inner.rest)) (inner.below ∷ inner.more_frames) between

    abbrev alone : (w : Way) → IsNear (suc (length inner.rest)) w → IsFar (suc (length inner.rest)) (GoneElsewhere program effects (inner.below ∷ inner.more_frames)) w → ⊥
    alone = innermost.alone table typed effects input ready inner

    abbrev elsewhere : Way → Type 0
    elsewhere = moved_elsewhere table typed effects unmoved_stage local inner.state (suc (length inner.rest)) (inner.below ∷ inner.more_frames) between inner.views (innermost.own_views table typed effects input ready inner)

    abbrev away : (w : Way) → elsewhere w → IsAway s (suc (length inner.rest)) other w
    away = here.away table typed effects input ready inner exact_before

    abbrev at : Turn
    at = standing.t table typed effects input ready inner.state inner.top older outer inner.named inner.p inner.frames inner.of_sub inner.at_point

    abbrev points : List PathPoint
    points = path_points program effects (flow_sub own inner.named)

    abbrev own_facts : List Fact
    own_facts = standing.facts table typed effects input ready inner.state inner.top older outer inner.named inner.p inner.frames inner.of_sub inner.at_point inner.path

    abbrev around : List Fact
    around = handed table typed effects unmoved_stage local inner.state depth older between

    abbrev facts_now : List Fact
    facts_now = own_facts ++ around

    abbrev none_taken : ℕ → ℕ → Type 0
    none_taken a b = ⊥

    abbrev exact : IsExact s (home s depth) inner.views elsewhere inner.state.memory facts_now
    exact = here.exact table typed effects input ready inner exact_before

    abbrev Excused : LeakSpot → Type 0
    Excused = IsExcused points inner.top.frame.next

    abbrev frame_by : Typing → flow.Frame
    frame_by z = record { typing = z; result = inner.named.sub.result; roots = standing.roots table typed effects input ready inner.state inner.top older outer inner.named inner.p inner.frames inner.of_sub inner.at_point }

    abbrev spots_by : Instruction → List LeakSpot
    spots_by i = leaks_of (frame_by s) inner.p.pos i

    abbrev acts_by : Instruction → List Act
    acts_by i = standing.acts_here table typed effects input ready inner.state inner.top older outer inner.named inner.p inner.frames inner.of_sub inner.at_point i

    abbrev easy : Turn
    easy = eased at

    -- ---- an instruction that isn't the end of a scope

    module _ (going : (x : ℕ) → inner.p.instr ≡ EndScope x → ⊥) (no_calls : IsNoCall inner.p.instr) where
      abbrev pub ExactAt : List Fact → List LeakSpot → Outcome → Type 0
      ExactAt facts spots outcome = ExactOn easy sees seeing ready.accepted.settled ready.owns other alone in_formals inner.views ready.class.parts_named none_taken refl refl elsewhere away Excused facts spots outcome

      abbrev Exacts : Instruction → Type 0
      Exacts i = ExactAt (after (acts_by i) facts_now) (spots_by i) (turn at i)

      -- With these values out of the frame, the step makes the same of memory.
      pub eased_on : (facts : List Fact) (spots : List LeakSpot) {A : Type 0} (y : Evaluated A) (f g : A → Memory → Outcome)
          → ((a : A) (m : Memory) → ExactAt facts spots (f a m) → ExactAt facts spots (g a m))
          → ExactAt facts spots (steps.evaluated easy y f) → ExactAt facts spots (steps.evaluated at y g)
      eased_on facts spots (Done a n) f g same on = same a n.memory on
      eased_on facts spots (Raises e n) f g same on = none_made Excused spots
      eased_on facts spots (Traps e n) f g same on = none_made Excused spots

      -- a declaration, at these turns
      pub declared_main : (facts : List Fact) (x : ℕ) (w : TypedTree)
          → ExactAt facts [] (steps.evaluated easy (steps.first_value at (object_at s x).of w (start at)) (λ vs m. steps.goes easy (declared depth x vs m) 0))
          → ExactAt facts [] (steps.evaluated at (steps.first_value at (object_at s x).of w (start at)) (λ vs m. steps.goes at (declared depth x vs m) 0))
      declared_main facts x w on =
          eased_on facts [] (steps.first_value at (object_at s x).of w (start at))
          (λ vs m. steps.goes easy (declared depth x vs m) 0) (λ vs m. steps.goes at (declared depth x vs m) 0) (λ vs m there. there) on

      pub assigned_main : (facts : List Fact) (spots : List LeakSpot) (target : TypedTree) (of : ℕ) (e : TypedTree)
          → ExactAt facts spots (steps.evaluated easy (followed_by (steps.taken_by at of e (start at))
          (λ ws now. followed_by (place_of (steps.here at) target now) (λ k now. Done (record { words = ws; place = k }) now)))
          (λ (st : steps.Stored) m. steps.leaking_goes (checks_at s (steps.target_pos at target) m st.place) (steps.goes easy (stored s st.place st.words m) 0)))
          → ExactAt facts spots (steps.evaluated at (followed_by (steps.taken_by at of e (start at))
          (λ ws now. followed_by (place_of (steps.here at) target now) (λ k now. Done (record { words = ws; place = k }) now)))
          (λ (st : steps.Stored) m. steps.leaking_goes (checks_at s (steps.target_pos at target) m st.place) (steps.goes at (stored s st.place st.words m) 0)))
      assigned_main facts spots target of e on =
          eased_on facts spots _
          (λ (st : steps.Stored) m. steps.leaking_goes (checks_at s (steps.target_pos at target) m st.place) (steps.goes easy (stored s st.place st.words m) 0))
          (λ (st : steps.Stored) m. steps.leaking_goes (checks_at s (steps.target_pos at target) m st.place) (steps.goes at (stored s st.place st.words m) 0))
          (λ st m there. there) on

      -- a return with a value
      pub holds_value : (e : TypedTree) (of : ℕ) → inner.p.instr ≡ Hold (More e NoMore) → inner.named.sub.result ≡ Some of → is_anonymous (full s.table of) ≡ false
          → (IsNamed s.table of → AllowsAll facts_now (acts (acts_in s e)) → AllKeep (is_fixed s sees) (acts (acts_in s e))
          → ExactTo (steps.here at) sees seeing ready.accepted.settled inner.state.leaks [] other alone (keeps s ready.accepted.settled ready.owns) index_law ready.owns inner.views
          ready.class.parts_named elsewhere away (after (acts (acts_in s e)) facts_now) (steps.taken_by at of e (start at)))
          → AllowsAll facts_now (acts_by (Hold (More e NoMore))) → AllKeep (is_fixed s sees) (acts_by (Hold (More e NoMore))) → Exacts (Hold (More e NoMore))
      unfolding acts_in
      holds_value e of is result owner value_exact allowed_there keep =
          let type_there : IsNamed s.table of = plain_named s.table of owner in
          let same : acts_by (Hold (More e NoMore)) ≡ acts (acts_in s e) =
          ap (λ r. acts (flow.returned_acts s r (More e NoMore))) result
          ∙ ap (λ b. acts (if b then flow.source_acts s e (λ m. act.Give m (flow.gives_variable s (Some of))) else acts_in s e ++ []))
          (named_plain s.table of type_there)
          ∙ ap acts (append-nil (acts_in s e)) in
          let sub_result : (sub_of program inner.top.frame.sub).result ≡ Some of =
          ap (λ (z : FlowSub). z.result) (standing.sub_is table typed effects input ready inner.state inner.top older outer inner.named inner.p inner.frames inner.of_sub inner.at_point) ∙ result in
          subst (λ z. ExactAt (after z facts_now) [] (turn at (Hold (More e NoMore)))) (sym same)
          (subst (ExactAt (after (acts (acts_in s e)) facts_now) []) (sym (hold_is program input at.point inner.state inner.top.frame inner.below.stage.frame inner.rest e NoMore of sub_result))
          (eased_on (after (acts (acts_in s e)) facts_now) [] (steps.taken_by at of e (start at))
          (λ ws m. Goes (handed_over program input at.point inner.state inner.top.frame inner.below.stage.frame inner.rest of ws m))
          (λ ws m. Goes (handed_over program input at.point inner.state inner.top.frame inner.below.stage.frame inner.rest of ws m)) (λ ws m on. on)
          (waits_exact easy sees seeing ready.accepted.settled ready.owns other alone in_formals inner.views ready.class.parts_named none_taken refl refl elsewhere away Excused
          (after (acts (acts_in s e)) facts_now) (steps.taken_by at of e (start at))
          (value_exact type_there (subst (AllowsAll facts_now) same allowed_there) (subst (AllKeep (is_fixed s sees)) same keep))
          (λ ws m. Goes (handed_over program input at.point inner.state inner.top.frame inner.below.stage.frame inner.rest of ws m)) (λ ws m still. (still, tt)))))

      -- a return of a view
      pub returns_view : (e : TypedTree) (of : ℕ) → inner.p.instr ≡ Hold (More e NoMore) → inner.named.sub.result ≡ Some of → Source s of e → is_anonymous (full s.table of) ≡ true
          → Exacts (Hold (More e NoMore))
      returns_view e of is result source view =
          let quiet = giving.returns_quietly table typed effects input ready inner e NoMore is of result source refl view in
          let same : after (acts_by (Hold (More e NoMore))) facts_now ≡ facts_now = ap (λ i. after (acts_by i) facts_now) (sym is) ∙ quiet.1 in
          let sub_result : (sub_of program inner.top.frame.sub).result ≡ Some of =
          ap (λ (z : FlowSub). z.result) (standing.sub_is table typed effects input ready inner.state inner.top older outer inner.named inner.p inner.frames inner.of_sub inner.at_point) ∙ result in
          subst (λ z. ExactAt z [] (turn at (Hold (More e NoMore)))) (sym same)
          (subst (ExactAt facts_now []) (sym (hold_is program input at.point inner.state inner.top.frame inner.below.stage.frame inner.rest e NoMore of sub_result))
          (eased_on facts_now [] (steps.taken_by at of e (start at))
          (λ ws m. Goes (handed_over program input at.point inner.state inner.top.frame inner.below.stage.frame inner.rest of ws m))
          (λ ws m. Goes (handed_over program input at.point inner.state inner.top.frame inner.below.stage.frame inner.rest of ws m)) (λ ws m on. on)
          (waits_exact easy sees seeing ready.accepted.settled ready.owns other alone in_formals inner.views ready.class.parts_named none_taken refl refl elsewhere away Excused facts_now (steps.taken_by at of e (start at))
          (quiet_on (steps.here at) sees seeing ready.accepted.settled inner.state.leaks [] other alone (keeps s ready.accepted.settled ready.owns) index_law ready.owns inner.views ready.class.parts_named elsewhere away [] inner.state.memory (λ ws. (z : machine.Word) × (ws ≡ z ∷ []) × giving.IsGivenBack table typed effects input ready inner e NoMore is of result source refl view z) facts_now facts_now
          (steps.taken_by at of e (start at)) quiet.2 refl exact)
          (λ ws m. Goes (handed_over program input at.point inner.state inner.top.frame inner.below.stage.frame inner.rest of ws m)) (λ ws m still. (still, tt)))))
