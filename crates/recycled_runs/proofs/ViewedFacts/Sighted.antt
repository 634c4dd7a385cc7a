-- Facts without an element stay exact where a view takes what a function gave that goes through a name.
use Rattle.std.proofs.Common.{◌≡◌, refl, sym, subst, ℕ, suc, true, false, List, [], ◌∷◌, ◌++◌, length, Bool}
use Rattle.machine.specs.spark_base.Lists.{Has}
use Rattle.machine.specs.spark_base.declared.position.Pos.{Pos}
use Rattle.machine.specs.place_names.declared.act.Act.{Act}
use Rattle.machine.specs.place_names.declared.fact.Fact.{Fact}
use Rattle.machine.specs.place_names.declared.fact.Fact.TheVariants.{Moved}
use Rattle.machine.specs.place_names.Names.{Name as PlaceName}
use Rattle.machine.specs.type_definitions.Types.{Table}
use Rattle.machine.specs.typed_tree.Trees.{TypedTree, Name, NoMore, More}
use Rattle.machine.specs.typed_tree.Programs.{TypedProgram}
use Rattle.machine.specs.flow_paths.declared.report.Effects.{Effects}
use Rattle.machine.specs.flow_paths.declared.point.LeakSpot.{LeakSpot}
use Rattle.machine.specs.flow_paths.Instructions.{Instruction, Declare, Assign, EndScope}
use Rattle.machine.specs.flow_paths.Objects.{Typing, object_at, is_anonymous, is_package_object, view_of, is_variable}
use Rattle.machine.specs.flow_paths.Laid.{FlowProgram, flow_sub, typing_of, flow_typing, flow_program}
use Rattle.machine.specs.flow_paths.Paths.{PathPoint}
use Rattle.machine.specs.flow_paths.Effects.{path_points}
use Rattle.machine.specs.flow_paths.LeakPlan.{IsExcused}
use Rattle.machine.specs.Memory.{declared, stored}
use Rattle.machine.specs.Words as machine
use Rattle.machine.specs.Calls.{checks_at}
use Rattle.machine.specs.Evaluate.{Now, Done, followed_by, place_of}
use Rattle.machine.specs.States.{Frame, Outcome}
use Rattle.machine.specs.Step.{Turn, start}
use Rattle.machine.specs.Step as steps
use Rattle.soundness.specs.OwnedWays.Ways.{Way, Told, after}
use Rattle.soundness.specs.Seen.{home, seen, IsNear}
use Rattle.soundness.specs.Sound.{Stage, facts_of, IsNoCall, view_of as view_here}
use Rattle.soundness.proofs.Eased.{eased}
use Rattle.soundness.proofs.Around.{IsFar}
use Rattle.soundness.specs.OwnedLoans.Views.{Around}
use Rattle.soundness.specs.ViewedSoundness.Holds.{is_view, Seeing}
use Rattle.soundness.proofs.ViewedSoundness.Outcomes.{IsGood}
use Rattle.viewed_steps.specs.Sound.{ViewStage, GoneElsewhere, IsStoredAt}
use Rattle.viewed_steps.specs.Awaited.{TakesAlone}
use Rattle.viewed_steps.specs.Ready.{IsReady}
use Rattle.viewed_steps.proofs.Waiting.{StandsBetween, beside_them, handed}
use Rattle.viewed_steps.proofs.Standing as standing
use Rattle.viewed_steps.proofs.Packages as packages
use Rattle.viewed_steps.proofs.Innermost as innermost
use Rattle.viewed_steps.proofs.Taking as taking
use Rattle.viewed_steps.proofs.Alone as alone_value
use Rattle.recycled_runs.specs.ViewedFacts.Exact.{IsDefiniteOf, IsExact}
use Rattle.recycled_runs.proofs.ViewedFacts.Instructions.{ExactOn}
use Rattle.recycled_runs.proofs.ViewedFacts.Frames.{elsewhere as moved_elsewhere}
use Rattle.recycled_runs.proofs.ViewedFacts.Here as here
use Rattle.viewed_steps.proofs.Views.{AreAccess}
use Rattle.recycled_runs.proofs.ViewedFacts.Steps.{IsAway}
use Rattle.recycled_runs.proofs.ViewedFacts.Given.{call_tree, given_declared, given_put}
use Rattle.viewed_steps.specs.Traversals.{AreGiven, GivesView}
use Rattle.soundness.proofs.ViewedSoundness.Lends.{Sees}
use Rattle.viewed_steps.specs.Seeing.{sees_in}
use Rattle.viewed_steps.proofs.Sees.{sees_seeing}
use Rattle.viewed_steps.proofs.InnerFrame.{InnerFrame}

module _ (table : Table) (typed : TypedProgram) (effects : Effects) (input : List ℕ) (ready : IsReady table typed effects) where
  abbrev sees : ℕ → Bool
  sees = sees_in (flow_program table typed)

  abbrev seeing : Seeing (flow_typing (flow_program table typed)) sees
  seeing = sees_seeing (flow_program table typed)

  abbrev program : FlowProgram
  program = flow_program table typed

  abbrev s : Typing
  s = flow_typing program

  abbrev own : Typing
  own = typing_of table typed

  abbrev in_formals : AreAccess s
  in_formals = standing.in_formals table typed effects input ready

  abbrev local : (x : ℕ) → is_view s x ≡ true → is_package_object s x ≡ false
  local = standing.local table typed effects input ready

  abbrev unmoved_stage : (e : Stage) → e.frame.sub ≡ 0 → (name : PlaceName) → Has (facts_of program effects e) (Moved name) → ⊥
  unmoved_stage = packages.unmoved_stage table typed effects input ready

  -- a point of a procedure, in a state that is sound and whose facts are exact
  module _ (inner : InnerFrame table typed effects) (exact_before : Told (seen s inner.state.memory [] []) (IsDefiniteOf program effects (record { stage = inner.top; views = inner.views; cells = [] } ∷ (inner.below ∷ inner.more_frames)))) where
    abbrev outer : List Frame
    outer = inner.below.stage.frame ∷ inner.rest

    abbrev older : List ViewStage
    older = inner.below ∷ inner.more_frames

    abbrev depth : ℕ
    depth = suc (length inner.rest)

    abbrev between : (g : ViewStage) → Has (inner.below ∷ inner.more_frames) g → StandsBetween table typed effects unmoved_stage local inner.state (suc (length inner.rest)) (inner.below ∷ inner.more_frames) g
    between = innermost.between table typed effects input ready inner

    abbrev other : Around (home s (suc (length inner.rest)))
    other = beside_them table typed effects unmoved_stage local inner.state (suc (length inner.rest)) (inner.below ∷ inner.more_frames) between

    abbrev alone : (w : Way) → IsNear (suc (length inner.rest)) w → IsFar (suc (length inner.rest)) (GoneElsewhere program effects (inner.below ∷ inner.more_frames)) w → ⊥
    alone = innermost.alone table typed effects input ready inner

    abbrev elsewhere : Way → Type 0
    elsewhere = moved_elsewhere table typed effects unmoved_stage local inner.state (suc (length inner.rest)) (inner.below ∷ inner.more_frames) between inner.views (innermost.own_views table typed effects input ready inner)

    abbrev away : (w : Way) → elsewhere w → IsAway s (suc (length inner.rest)) other w
    away = here.away table typed effects input ready inner exact_before

    abbrev at : Turn
    at = standing.t table typed effects input ready inner.state inner.top older outer inner.named inner.p inner.frames inner.of_sub inner.at_point

    abbrev points : List PathPoint
    points = path_points program effects (flow_sub own inner.named)

    abbrev own_facts : List Fact
    own_facts = standing.facts table typed effects input ready inner.state inner.top older outer inner.named inner.p inner.frames inner.of_sub inner.at_point inner.path

    abbrev around : List Fact
    around = handed table typed effects unmoved_stage local inner.state depth older between

    abbrev facts_now : List Fact
    facts_now = own_facts ++ around

    abbrev home_frame : (x : ℕ) → is_package_object s x ≡ false → home s depth x ≡ depth
    home_frame = innermost.home_frame table typed effects input ready inner

    abbrev none_taken : ℕ → ℕ → Type 0
    none_taken a b = ⊥

    abbrev exact : IsExact s (home s depth) inner.views elsewhere inner.state.memory facts_now
    exact = here.exact table typed effects input ready inner exact_before

    abbrev Excused : LeakSpot → Type 0
    Excused = IsExcused points inner.top.frame.next

    abbrev acts_by : Instruction → List Act
    acts_by i = standing.acts_here table typed effects input ready inner.state inner.top older outer inner.named inner.p inner.frames inner.of_sub inner.at_point i

    abbrev given_words : List (List machine.Word)
    given_words = (start at).waits

    abbrev easy : Turn
    easy = eased at

    -- ---- what is taken, by a view

    module _ (going : (x : ℕ) → inner.p.instr ≡ EndScope x → ⊥) (no_calls : IsNoCall inner.p.instr) (taken_alone : TakesAlone s inner.p) where
      abbrev ExactAt : List Fact → List LeakSpot → Outcome → Type 0
      ExactAt facts spots outcome = ExactOn easy sees seeing ready.accepted.settled ready.owns other alone in_formals inner.views ready.class.parts_named none_taken refl refl elsewhere away Excused facts spots outcome

      abbrev call : TypedTree
      call = alone_value.call table typed effects input ready inner going taken_alone

      given_here : AreGiven s (view_here s inner.state) depth inner.p.instr inner.views inner.top.frame.waits
      given_here = subst (λ d. AreGiven s (view_here s inner.state) d inner.p.instr inner.views inner.top.frame.waits) inner.deep ((inner.above.1).0.0 inner.named inner.of_sub inner.p inner.at_point)

      -- the call goes through a name, and its value is that of a view
      module _ (x n : ℕ) (q r : Pos) (path_of : TypedTree) (u : ℕ) (others : TypedTree) (y : ℕ) (call_is : call ≡ call_tree r n q y path_of u others)
          (gives : GivesView s n (object_at s x).of) (view : is_anonymous (view_of s x) ≡ true) (variable : is_variable (object_at s x).kind ≡ true) (stored_there : IsStoredAt inner.p.instr x) where
        abbrev word_now : machine.Word
        word_now = taking.word_there table typed effects input ready inner going no_calls taken_alone given_here (object_at s x).of n q r path_of u others y call_is gives

        words_now : given_words ≡ (word_now ∷ []) ∷ []
        words_now = taking.words_there table typed effects input ready inner going no_calls taken_alone given_here (object_at s x).of n q r path_of u others y call_is gives

        good_now : IsGood easy sees seeing ready.accepted.settled ready.owns other alone inner.views ready.class.parts_named none_taken refl refl inner.views facts_now easy.state
        good_now =
            let good_there = taking.good_there table typed effects input ready inner going no_calls taken_alone given_here (object_at s x).of n q r path_of u others y call_is gives in
            record { viewed = good_there.viewed; kept = good_there.kept; holds = good_there.holds }

        looks_now : Sees easy sees seeing ready.accepted.settled ready.owns other alone inner.views ready.class.parts_named none_taken refl refl x gives.d
        looks_now = record {
          k = gives.k;
          e = gives.e;
          o = gives.o;
          view = gives.want;
          fits = gives.fits;
          anonymous = view;
          mine = home_frame x (ready.orderly.local x view);
        }

        abbrev tree_now : TypedTree
        tree_now = call_tree r n q y path_of u others

        pub declared_so : ExactAt (after (acts_by (Declare x (More call NoMore))) facts_now) []
            (steps.evaluated easy (steps.taken_by at (object_at s x).of call (start at)) (λ vs m. steps.goes easy (declared depth x vs m) 0))
        declared_so =
            subst (λ c. ExactAt (after (acts_by (Declare x (More c NoMore))) facts_now) []
            (steps.evaluated easy (steps.taken_by at (object_at s x).of c (start at)) (λ vs m. steps.goes easy (declared depth x vs m) 0))) (sym call_is)
            (subst (λ ws. ExactAt (after (acts_by (Declare x (More tree_now NoMore))) facts_now) []
            (steps.evaluated easy (steps.taken_by at (object_at s x).of tree_now (record { memory = inner.state.memory; waits = ws })) (λ vs m. steps.goes easy (declared depth x vs m) 0))) (sym words_now)
            (given_declared easy sees seeing ready.accepted.settled ready.owns other alone in_formals inner.views ready.class.parts_named none_taken refl refl elsewhere away Excused r n q y path_of u others x gives.d word_now facts_now looks_now good_now exact variable))

        abbrev pub Puts_now : Pos → TypedTree → Now → Outcome
        Puts_now k c before =
            steps.evaluated easy (followed_by (steps.taken_by at (object_at s x).of c before)
            (λ ws now. followed_by (place_of (steps.here at) (Name k x NoMore (object_at s x).of) now) (λ b now. Done (record { words = ws; place = b }) now)))
            (λ (st : steps.Stored) m. steps.leaking_goes (checks_at s (steps.target_pos at (Name k x NoMore (object_at s x).of)) m st.place) (steps.goes easy (stored s st.place st.words m) 0))

        pub put_so : (k : Pos) → ExactAt (after (acts_by (Assign (Name k x NoMore (object_at s x).of) call)) facts_now) [] (Puts_now k call (start at))
        put_so k =
            subst (λ c. ExactAt (after (acts_by (Assign (Name k x NoMore (object_at s x).of) c)) facts_now) [] (Puts_now k c (start at))) (sym call_is)
            (subst (λ ws. ExactAt (after (acts_by (Assign (Name k x NoMore (object_at s x).of) tree_now)) facts_now) [] (Puts_now k tree_now (record { memory = inner.state.memory; waits = ws }))) (sym words_now)
            (given_put easy sees seeing ready.accepted.settled ready.owns other alone in_formals inner.views ready.class.parts_named none_taken refl refl elsewhere away Excused r n q y path_of u others x gives.d word_now facts_now looks_now good_now exact variable inner.p.pos (steps.target_pos at (Name k x NoMore (object_at s x).of)) k))
