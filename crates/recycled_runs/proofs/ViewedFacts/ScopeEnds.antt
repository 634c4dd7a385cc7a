-- At the end of a scope, facts of all frames stay exact, and no leak check fails that is excused.
use Rattle.soundness.specs.ViewedSoundness.Holds.{is_view, Seeing}
use Rattle.std.proofs.Common.{◌≡◌, refl, sym, ◌∙◌, subst, ℕ, suc, true, false, List, [], ◌∷◌, ◌++◌, length, Some, take, Bool, ap}
use Rattle.std.proofs.lemmas.Bool.{false≢true}
use Rattle.machine.specs.spark_base.Lists.{Has}
use Rattle.machine.specs.spark_base.declared.position.Pos.{Pos}
use Rattle.machine.specs.place_names.declared.selector.Sel.{Sel}
use Rattle.machine.specs.place_names.declared.act.Act.{Act}
use Rattle.machine.specs.place_names.declared.act.Placed.{Placed}
use Rattle.machine.specs.place_names.declared.fact.Fact.{Fact}
use Rattle.machine.specs.place_names.declared.fact.Fact.TheVariants.{Moved}
use Rattle.machine.specs.place_names.Names.{Name as PlaceName, object}
use Rattle.machine.specs.type_definitions.Types.{Table, parts}
use Rattle.machine.specs.typed_tree.Programs.{TypedProgram}
use Rattle.machine.specs.flow_paths.declared.report.Effects.{Effects}
use Rattle.machine.specs.flow_paths.declared.point.LeakSpot.{LeakSpot}
use Rattle.machine.specs.flow_paths.Instructions.{Instruction, Call, EndScope}
use Rattle.machine.specs.flow_paths.Objects.{Typing, object_at, is_package_object, is_borrower}
use Rattle.machine.specs.flow_paths.Acts as flow
use Rattle.machine.specs.flow_paths.Acts.{leaks_of}
use Rattle.machine.specs.flow_paths.Laid.{FlowProgram, flow_sub, typing_of, flow_typing, flow_program}
use Rattle.machine.specs.flow_paths.Paths.{PathPoint, facts_before}
use Rattle.machine.specs.flow_paths.Effects.{path_points}
use Rattle.machine.specs.flow_paths.LeakPlan.{IsExcused}
use Rattle.machine.specs.flow_paths.Scopes.{taken}
use Rattle.machine.specs.Memory.{Memory, undeclared}
use Rattle.machine.specs.States.{Frame, State, Outcome, Goes, Ends}
use Rattle.machine.specs.Step.{Turn, turn}
use Rattle.machine.specs.Owners.{waiting_in}
use Rattle.machine.specs.Run.{step}
use Rattle.soundness.specs.OwnedWays.Ways.{Step, Way, Told, after}
use Rattle.soundness.specs.Seen.{home, seen, IsNear}
use Rattle.soundness.specs.Typed.{Kept}
use Rattle.soundness.specs.Sound.{Stage, facts_of, IsNoCall, view_of as view_here}
use Rattle.soundness.proofs.Scalars.{acts}
use Rattle.soundness.proofs.Eased.{eased}
use Rattle.soundness.proofs.Around.{IsFar}
use Rattle.soundness.specs.OwnedLoans.Views.{Around, Views, Viewed}
use Rattle.viewed_steps.specs.Sound.{ViewStage, GoneElsewhere, AreLeft}
use Rattle.viewed_steps.specs.Awaited.{AreScalar, temporaries_of, TakesScalars, StoresNone}
use Rattle.viewed_steps.specs.Ready.{IsReady}
use Rattle.viewed_steps.proofs.Waiting.{StandsBetween, beside_them, handed}
use Rattle.viewed_steps.proofs.Standing as standing
use Rattle.viewed_steps.proofs.Packages as packages
use Rattle.viewed_steps.proofs.Innermost as innermost
use Rattle.soundness.specs.ExactFacts.Exact.{NoneFails, Knows, checks_of}
use Rattle.recycled_runs.specs.ViewedFacts.Exact.{IsDefiniteOf, IsExact}
use Rattle.recycled_runs.proofs.ViewedFacts.Instructions.{end_scope_checked, end_scope_exact}
use Rattle.recycled_runs.proofs.ViewedFacts.Frames.{elsewhere as moved_elsewhere, IsDefiniteHere}
use Rattle.recycled_runs.proofs.ViewedFacts.Here as here
use Rattle.viewed_steps.proofs.Views.{AreAccess}
use Rattle.recycled_runs.proofs.ViewedFacts.Steps.{IsAway}
use Rattle.viewed_steps.specs.Seeing.{sees_in}
use Rattle.viewed_steps.proofs.Sees.{sees_seeing}
use Rattle.recycled_runs.proofs.ViewedFacts.Constructors.{is_call_instruction}
use Rattle.viewed_steps.proofs.InnerFrame.{InnerFrame}

module _ (table : Table) (typed : TypedProgram) (effects : Effects) (input : List ℕ) (ready : IsReady table typed effects) where
  abbrev sees : ℕ → Bool
  sees = sees_in (flow_program table typed)

  abbrev seeing : Seeing (flow_typing (flow_program table typed)) sees
  seeing = sees_seeing (flow_program table typed)

  abbrev program : FlowProgram
  program = flow_program table typed

  abbrev s : Typing
  s = flow_typing program

  abbrev own : Typing
  own = typing_of table typed

  abbrev in_formals : AreAccess s
  in_formals = standing.in_formals table typed effects input ready

  abbrev local : (x : ℕ) → is_view s x ≡ true → is_package_object s x ≡ false
  local = standing.local table typed effects input ready

  abbrev unmoved_stage : (e : Stage) → e.frame.sub ≡ 0 → (name : PlaceName) → Has (facts_of program effects e) (Moved name) → ⊥
  unmoved_stage = packages.unmoved_stage table typed effects input ready

  -- a point of a procedure, in a state that is sound and whose facts are exact
  module _ (inner : InnerFrame table typed effects) (exact_before : Told (seen s inner.state.memory [] []) (IsDefiniteOf program effects (record { stage = inner.top; views = inner.views; cells = [] } ∷ (inner.below ∷ inner.more_frames)))) where
    abbrev outer : List Frame
    outer = inner.below.stage.frame ∷ inner.rest

    abbrev older : List ViewStage
    older = inner.below ∷ inner.more_frames

    abbrev depth : ℕ
    depth = suc (length inner.rest)

    abbrev between : (g : ViewStage) → Has (inner.below ∷ inner.more_frames) g → StandsBetween table typed effects unmoved_stage local inner.state (suc (length inner.rest)) (inner.below ∷ inner.more_frames) g
    between = innermost.between table typed effects input ready inner

    abbrev other : Around (home s (suc (length inner.rest)))
    other = beside_them table typed effects unmoved_stage local inner.state (suc (length inner.rest)) (inner.below ∷ inner.more_frames) between

    abbrev alone : (w : Way) → IsNear (suc (length inner.rest)) w → IsFar (suc (length inner.rest)) (GoneElsewhere program effects (inner.below ∷ inner.more_frames)) w → ⊥
    alone = innermost.alone table typed effects input ready inner

    abbrev elsewhere : Way → Type 0
    elsewhere = moved_elsewhere table typed effects unmoved_stage local inner.state (suc (length inner.rest)) (inner.below ∷ inner.more_frames) between inner.views (innermost.own_views table typed effects input ready inner)

    abbrev away : (w : Way) → elsewhere w → IsAway s (suc (length inner.rest)) other w
    away = here.away table typed effects input ready inner exact_before

    abbrev at : Turn
    at = standing.t table typed effects input ready inner.state inner.top older outer inner.named inner.p inner.frames inner.of_sub inner.at_point

    abbrev points : List PathPoint
    points = path_points program effects (flow_sub own inner.named)

    abbrev own_facts : List Fact
    own_facts = standing.facts table typed effects input ready inner.state inner.top older outer inner.named inner.p inner.frames inner.of_sub inner.at_point inner.path

    abbrev around : List Fact
    around = handed table typed effects unmoved_stage local inner.state depth older between

    abbrev facts_now : List Fact
    facts_now = own_facts ++ around

    abbrev own_views : (x : ℕ) (w : Way) → inner.views.way x ≡ Some w → is_package_object s x ≡ false
    own_views = innermost.own_views table typed effects input ready inner

    abbrev home_frame : (x : ℕ) → is_package_object s x ≡ false → home s depth x ≡ depth
    home_frame = innermost.home_frame table typed effects input ready inner

    abbrev none_taken : ℕ → ℕ → Type 0
    none_taken a b = ⊥

    abbrev exact : IsExact s (home s depth) inner.views elsewhere inner.state.memory facts_now
    exact = here.exact table typed effects input ready inner exact_before

    abbrev Excused : LeakSpot → Type 0
    Excused = IsExcused points inner.top.frame.next

    abbrev frame_by : Typing → flow.Frame
    frame_by z = record { typing = z; result = inner.named.sub.result; roots = standing.roots table typed effects input ready inner.state inner.top older outer inner.named inner.p inner.frames inner.of_sub inner.at_point }

    abbrev placed_by : Instruction → List Placed
    placed_by i = standing.acts_by table typed effects input ready inner.state inner.top older outer inner.named inner.p inner.frames inner.of_sub inner.at_point s i

    abbrev spots_by : Instruction → List LeakSpot
    spots_by i = leaks_of (frame_by s) inner.p.pos i

    abbrev acts_by : Instruction → List Act
    acts_by i = standing.acts_here table typed effects input ready inner.state inner.top older outer inner.named inner.p inner.frames inner.of_sub inner.at_point i

    abbrev Plain : Type 0
    Plain = AreScalar s (temporaries_of s (take (taken inner.p.instr) inner.p.scope))

    abbrev Plainly : Type 0
    Plainly = Plain × TakesScalars s inner.p.instr

    abbrev easy : Turn
    easy = eased at

    abbrev viewed_easy : Plain → Viewed (home s depth) sees other inner.views (view_here s easy.state) facts_now × Kept s inner.state.memory (waiting_in easy.state)
    viewed_easy = innermost.viewed_easy table typed effects input ready inner

    abbrev knows : (i : Instruction) → inner.p.instr ≡ i → (front others : List Placed) → placed_by i ≡ front ++ others → (pos : Pos) (name : PlaceName) (qs : List (List Sel))
        → Knows Excused pos name (length front) (after (acts front) facts_now) qs
    knows = here.knows table typed effects input ready inner exact_before

    abbrev leaks_there : IsNoCall inner.p.instr → leaks_of (frame_by s) inner.p.pos inner.p.instr ≡ leaks_of (frame_by own) inner.p.pos inner.p.instr
    leaks_there = here.leaks_there table typed effects input ready inner exact_before

    abbrev all_told : (next : Memory) (later : Views) → ((x : ℕ) (w : Way) → later.way x ≡ Some w → is_view s x ≡ true) → IsNoCall inner.p.instr
        → IsExact s (home s depth) later elsewhere next (after (acts_by inner.p.instr) facts_now)
        → Told (seen s next [] []) (IsDefiniteHere table typed effects unmoved_stage local depth later (facts_before points (inner.top.frame.next ∷ inner.top.before)) older)
    all_told = here.all_told table typed effects input ready inner exact_before

    -- ---- the end of a scope

    module _ (y : ℕ) (is : inner.p.instr ≡ EndScope y) where
      no_call_there : IsNoCall inner.p.instr
      no_call_there n actuals result same = (let never : EndScope y ≡ Call n actuals result = sym is ∙ same in absurd (false≢true (ap is_call_instruction never)))

      plain_end : Plainly
      plain_end = innermost.plain_here table typed effects input ready inner no_call_there (subst StoresNone (sym is) tt)

      not_shared : is_package_object s y ≡ false
      not_shared = ready.scoped.ends inner.named (innermost.named_there table typed effects input ready inner) inner.p (innermost.point_there_now table typed effects input ready inner) y is

      scope_checks : NoneFails Excused (spots_by (EndScope y)) (checks_of (turn at (EndScope y)))
      scope_checks =
          end_scope_checked easy sees seeing ready.accepted.settled ready.owns other alone in_formals inner.views ready.class.parts_named none_taken refl refl elsewhere away Excused y facts_now (viewed_easy plain_end.0).0 exact inner.p.pos 0
          (knows (EndScope y) is [] (placed_by (EndScope y)) refl inner.p.pos (object y) (parts s.table (object_at s y).of))

      pub ended_checks_hold : NoneFails Excused at.point.leaks (checks_of (step program input inner.state))
      ended_checks_hold =
          subst (λ z. NoneFails Excused z (checks_of (step program input inner.state))) (leaks_there no_call_there)
          (subst (λ o. NoneFails Excused (spots_by inner.p.instr) (checks_of o)) (sym (standing.step_is table typed effects input ready inner.state inner.top older outer inner.named inner.p inner.frames inner.of_sub inner.at_point))
          (subst (λ i. NoneFails Excused (spots_by i) (checks_of (turn at i))) (sym is) scope_checks))

      abbrev IsLeft : Outcome → Type 0
      IsLeft (Goes next) = next.memory ≡ undeclared depth y inner.state.memory
      IsLeft (Ends how next) = Unit {0}

      pub told_left : (next : State) → step program input inner.state ≡ Goes next → (later : Views)
          → ((x : ℕ) (w : Way) → later.way x ≡ Some w → is_view s x ≡ true) → ((x : ℕ) (part_path : List Step) (w : Way) → later.part_way x part_path ≡ Some w → sees x ≡ true) → AreLeft (home s depth) y inner.views later
          → Told (seen s next.memory [] []) (IsDefiniteHere table typed effects unmoved_stage local depth later (facts_before points (inner.top.frame.next ∷ inner.top.before)) older)
      told_left next goes later only parts left =
          all_told next.memory later only no_call_there
          (subst (λ z. IsExact s (home s depth) later elsewhere z (after (acts_by inner.p.instr) facts_now)) (sym memory_is)
          (subst (λ i. IsExact s (home s depth) later elsewhere (undeclared depth y inner.state.memory) (after (acts_by i) facts_now)) (sym is)
          (end_scope_exact easy sees seeing ready.accepted.settled ready.owns other alone in_formals inner.views ready.class.parts_named none_taken refl refl elsewhere away Excused later y (is_borrower s y) ((here.orderly table typed effects input ready inner exact_before).over y is) (home_frame y not_shared) facts_now (viewed_easy plain_end.0).0 (innermost.not_lent table typed effects input ready inner y not_shared) inner.holds.only parts left exact)))
        where
          left_there : IsLeft (step program input inner.state)
          left_there = subst IsLeft (sym (standing.step_is table typed effects input ready inner.state inner.top older outer inner.named inner.p inner.frames inner.of_sub inner.at_point)) (subst (λ i. IsLeft (turn at i)) (sym is) refl)

          memory_is : next.memory ≡ undeclared depth y inner.state.memory
          memory_is = subst IsLeft goes left_there
