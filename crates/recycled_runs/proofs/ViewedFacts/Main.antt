-- In each sound state of a program that is ready whose facts are exact, no leak check of the step fails that is excused.
use Rattle.std.specs.Prelude.{is_some}
use Rattle.std.proofs.Common.{Some, ◌+◌, not, ◌≡◌, refl, sym, ap, ◌∙◌, subst, ◌⊎◌, inl, inr, ℕ, suc, Bool, true, false, nat_le, List, [], ◌∷◌, ◌++◌, map, length, get_or, Option, None}
use Rattle.machine.specs.spark_base.Lists.{Has}
use Rattle.soundness.proofs.Lists.{Has-append_left, Has-map_from}
use Rattle.machine.specs.spark_base.declared.position.Pos.{Pos}
use Rattle.machine.specs.place_names.declared.selector.Sel.{Sel}
use Rattle.machine.specs.place_names.declared.act.Placed.{Placed}
use Rattle.machine.specs.place_names.declared.fact.Fact.{Fact}
use Rattle.machine.specs.place_names.declared.fact.Fact.TheVariants.{Moved}
use Rattle.machine.specs.place_names.Facts.{adds}
use Rattle.machine.specs.place_names.Names.{Name as PlaceName, extend, has_elem}
use Rattle.machine.specs.type_definitions.Types.{Table}
use Rattle.machine.specs.typed_tree.Trees.{TypedTree}
use Rattle.machine.specs.typed_tree.Programs.{TypedProgram}
use Rattle.machine.specs.flow_paths.declared.report.Effects.{Effects}
use Rattle.machine.specs.flow_paths.Instructions.{Instruction, Declare, Call, EndScope, Finish}
use Rattle.machine.specs.flow_paths.declared.point.LeakSpot.{LeakSpot}
use Rattle.machine.specs.flow_paths.Objects.{Typing, Signature, Passing, sub_at, passing, passings, traverses, Traversed}
use Rattle.machine.specs.flow_paths.Acts.{spot, actual_values, actual_acts, call_spots, leaks_of}
use Rattle.machine.specs.flow_paths.Points.{NamedPoint, FlowPoint}
use Rattle.machine.specs.flow_paths.Laid.{FlowSub, FlowProgram, NamedSub, flow_sub, kept_roots, sub_facts, typing_of, flow_typing, flow_program, flow_named}
use Rattle.machine.specs.flow_paths.Paths.{ControlPath}
use Rattle.machine.specs.flow_paths.Effects.{path_points}
use Rattle.machine.specs.flow_paths.LeakPlan.{IsExcused}
use Rattle.machine.specs.Memory.{Memory}
use Rattle.machine.specs.Evaluate.{Now, Evaluated, Done, Raises, Traps}
use Rattle.machine.specs.Calls.{Passed, all_passed}
use Rattle.machine.specs.States.{Frame, State, Outcome, stack_words, sub_of}
use Rattle.machine.specs.Step.{Turn, turn, start}
use Rattle.machine.specs.Step as steps
use Rattle.machine.specs.Owners.{waiting_in}
use Rattle.machine.specs.Run.{no_point, step}
use Rattle.soundness.specs.OwnedWays.Ways.{Way, View, Told}
use Rattle.soundness.specs.Seen.{home, seen}
use Rattle.soundness.specs.Typed.{Kept}
use Rattle.soundness.specs.Sound.{Stage, facts_of, AreStages, InScope, IsNamedSub, IsAtPoint, view_of as view_here}
use Rattle.soundness.proofs.Points.{flow_at, sub_there, point_there, point_in}
use Rattle.soundness.proofs.Successors.{call_or, finish_or}
use Rattle.soundness.proofs.Scalars.{acts}
use Rattle.soundness.proofs.Stays.{Quiet}
use Rattle.soundness.proofs.Typings.{Agree}
use Rattle.soundness.proofs.Passing.{Enters, frames_with, signature_is}
use Rattle.soundness.specs.OwnedLoans.Views.{Around, known_gone, Views, ViewedAlone}
use Rattle.viewed_steps.specs.Sound.{IsBeyond, HoldsAt, ArePlaced, NoneAbove, ViewStage, stages_of, GoneElsewhere, IsRunning, HasTraversals}
use Rattle.viewed_steps.specs.Awaited.{AreAwaited, lasting_of}
use Rattle.viewed_steps.specs.Ready.{IsCalled, IsReady}
use Rattle.viewed_steps.proofs.Called.{call_adds_none, passes_to}
use Rattle.viewed_steps.proofs.LaidOut.{AreLaidOut}
use Rattle.viewed_steps.proofs.Passed.{after_less}
use Rattle.viewed_steps.proofs.Standing as standing
use Rattle.viewed_steps.proofs.Calling as calling
use Rattle.viewed_steps.proofs.Innermost as innermost
use Rattle.viewed_steps.proofs.CallActs as acting
use Rattle.viewed_steps.proofs.Followed as followed
use Rattle.viewed_steps.proofs.Followed.{IsTraversing}
use Rattle.viewed_steps.specs.Ready.{IsTraversalCall}
use Rattle.machine.specs.flow_paths.Views.{traversed_formal}
use Rattle.soundness.specs.ExactFacts.Exact.{NoneFails, checks_of}
use Rattle.soundness.specs.ExactFacts.Exact.{IsOfVariable}
use Rattle.soundness.proofs.ExactFacts.Checks.{none_made}
use Rattle.recycled_runs.proofs.ViewedFacts.Outs.{outs_hold, ins_none}
use Rattle.recycled_runs.proofs.ViewedFacts.Steps.{of_others, definite_variable}
use Rattle.recycled_runs.proofs.ViewedFacts.Here as here
use Rattle.soundness.proofs.ExactFacts.Spots.{values_same, call_same, ways_same}
use Rattle.recycled_runs.specs.ViewedFacts.Exact.{IsDefinite, IsDefiniteOf, ExcusedHold}
use Rattle.recycled_runs.proofs.ViewedFacts.Stepping.{checks_hold}
use Rattle.recycled_runs.proofs.ViewedFacts.ScopeEnds.{ended_checks_hold}
use Rattle.viewed_steps.specs.Seeing.{sees_in}
use Rattle.viewed_steps.proofs.InnerFrame.{InnerFrame}
use Rattle.soundness.proofs.Parted.{by_either}

pub end_or : (i : Instruction) → ((x : ℕ) × (i ≡ EndScope x)) ⊎ ((x : ℕ) → i ≡ EndScope x → ⊥)
end_or (EndScope x) = inl (x, refl)
end_or i = inr (λ x e. cc)

module _ (table : Table) (typed : TypedProgram) (effects : Effects) (input : List ℕ) (ready : IsReady table typed effects) where
  abbrev sees : ℕ → Bool
  sees = sees_in (flow_program table typed)

  abbrev program : FlowProgram
  program = flow_program table typed

  abbrev s : Typing
  s = flow_typing program

  abbrev own : Typing
  own = typing_of table typed

  abbrev Holds : Stage → State → Type 0
  Holds top state =
      NoneFails (IsExcused (path_points program effects (sub_of program top.frame.sub)) top.frame.next)
      (get_or (sub_of program top.frame.sub).points top.frame.next no_point).leaks (checks_of (step program input state))

  module _ (state : State) (top : Stage) (named : NamedSub) (p : NamedPoint) (of_sub : IsNamedSub (flow_named table typed) top.frame.sub named)
      (at_point : IsAtPoint named.points top.frame.next p) where
    abbrev HoldsBy : Instruction → Type 0
    HoldsBy i =
        NoneFails (IsExcused (path_points program effects (flow_sub own named)) top.frame.next)
        (leaks_of (record { typing = own; result = named.sub.result; roots = kept_roots own 0 own.objects (sub_facts own named.sub named.points) }) p.pos i)
        (checks_of (step program input state))

    -- by the subprogram and the point of the layout
    laid_holds : HoldsBy p.instr → Holds top state
    laid_holds holds =
        subst (λ (z : FlowSub). NoneFails (IsExcused (path_points program effects z) top.frame.next) (get_or z.points top.frame.next no_point).leaks (checks_of (step program input state)))
        (sym (sub_there table typed top.frame.sub named of_sub))
        (subst (λ (q : FlowPoint). NoneFails (IsExcused (path_points program effects (flow_sub own named)) top.frame.next) q.leaks (checks_of (step program input state)))
        (sym (point_there own named top.frame.next p at_point)) holds)

    -- where an object is declared there is none, nor at the end of a call
    declare_holds : (x : ℕ) (v : TypedTree) → p.instr ≡ Declare x v → Holds top state
    declare_holds x v is = laid_holds (subst HoldsBy (sym is) tt)

    finish_holds : p.instr ≡ Finish → Holds top state
    finish_holds is = laid_holds (subst HoldsBy (sym is) tt)

  package_holds : (state : State) (top : Stage) (named : NamedSub) (p : NamedPoint) → top.frame.sub ≡ 0
      → IsNamedSub (flow_named table typed) top.frame.sub named → IsAtPoint named.points top.frame.next p → Holds top state
  package_holds state top named p first of_sub at_point =
      let here : FlowPoint = flow_at own named p in
      let in_first : Has (sub_of program 0).points here =
      subst (λ (z : FlowSub). Has z.points here) (sym (sub_there table typed top.frame.sub named of_sub) ∙ ap (sub_of program) first)
      (point_in own named top.frame.next p at_point) in
      let declares = ready.elaborated.declared here in_first in
      declare_holds state top named p of_sub at_point declares.0 declares.1 declares.2

  module _ (inner : InnerFrame table typed effects) (exact_before : Told (seen s inner.state.memory [] []) (IsDefiniteOf program effects (record { stage = inner.top; views = inner.views; cells = [] } ∷ (inner.below ∷ inner.more_frames)))) where
    abbrev outer : List Frame
    outer = inner.below.stage.frame ∷ inner.rest

    abbrev older : List ViewStage
    older = inner.below ∷ inner.more_frames

    -- ---- a call

    module _ (n : ℕ) (actuals : TypedTree) (result : Option ℕ) (e : inner.p.instr ≡ Call n actuals result) where
      abbrev at : Turn
      at = standing.t table typed effects input ready inner.state inner.top older outer inner.named inner.p inner.frames inner.of_sub inner.at_point

      abbrev depth : ℕ
      depth = suc (length inner.rest)

      abbrev called : IsCalled table typed n actuals result
      called = calling.called table typed effects input ready inner n actuals result e

      abbrev formals : List ℕ
      formals = (sub_of program n).formals

      abbrev procedure : Bool
      procedure = not (is_some (sub_of program n).result)

      abbrev ways_there : List Passing
      ways_there = map (passing s procedure) formals

      abbrev values : List Placed
      values = actual_values s ways_there actuals

      abbrev copies : List Placed
      copies = actual_acts ways_there actuals

      abbrev Excused : LeakSpot → Type 0
      Excused = IsExcused (path_points program effects (flow_sub own inner.named)) inner.top.frame.next

      abbrev spots : List LeakSpot
      spots = call_spots s ways_there actuals (length values)

      abbrev facts_here : List Fact
      facts_here = here.facts_now table typed effects input ready inner exact_before

      abbrev elsewhere_here : Way → Type 0
      elsewhere_here = here.elsewhere table typed effects input ready inner exact_before

      abbrev other : Around (home s (suc (length inner.rest)))
      other = here.other table typed effects input ready inner exact_before

      variables_here : (w : Way) → IsDefinite (home s (suc (length inner.rest))) inner.views elsewhere_here facts_here w → IsOfVariable w
      variables_here =
          definite_variable (home s depth) sees other inner.views elsewhere_here (λ w gone. of_others s depth other w (here.away table typed effects input ready inner exact_before w gone))
          (view_here s inner.state) facts_here (here.viewed table typed effects input ready inner exact_before)

      abbrev view_there : View
      view_there = calling.view_now table typed effects input ready inner n actuals result e

      abbrev Given_there : List Passed → Type 0
      Given_there = calling.Given table typed effects input ready inner n actuals result e

      agree : Agree s own
      agree = standing.agree table typed effects input ready

      -- where no traversal function is called
      module _ (none : traverses s.table (sub_of program n).result ≡ false) where
        ways_are : passings s (sub_at s n) ≡ ways_there
        ways_are = passes_to program n none

        own_ways : passings own (sub_at own n) ≡ ways_there
        own_ways =
            sym (ways_same s own agree n (λ x formal. called.formals x (subst (λ (z : Signature). Has z.formals x) (signature_is program n) formal)))
            ∙ ways_are

        -- the spots are those by the typing that the machine has
        spots_are : call_spots own (passings own (sub_at own n)) actuals (length (actual_values own (passings own (sub_at own n)) actuals)) ≡ spots
        spots_are =
            ap (λ z. call_spots own z actuals (length (actual_values own z actuals))) own_ways
            ∙ ap (λ z. call_spots own ways_there actuals (length z)) (sym (values_same s own agree inner.p.pos ways_there actuals))
            ∙ sym (call_same s own agree ways_there actuals (length values))

        acts_are : standing.acts_by table typed effects input ready inner.state inner.top older outer inner.named inner.p inner.frames inner.of_sub inner.at_point s (Call n actuals result) ≡ values ++ copies
        acts_are = ap (λ z. actual_values s z actuals ++ actual_acts z actuals) ways_are

        -- what an excused one knows before the call
        knows_there : (front others : List Placed) → values ++ copies ≡ front ++ others → (name : PlaceName) (q' : Pos) (q : List Sel) → Excused (spot q' name (length front) q)
            → (has_elem (name.sels ++ q) ≡ false) × Has facts_here (Moved (extend name q))
        knows_there front others is name q' q excused =
            let known = here.knows table typed effects input ready inner exact_before
            (Call n actuals result) e front others (acts_are ∙ is) q' name (q ∷ []) q (inl refl) excused in (
              known.0,
              after_less (acts front)
                  (λ a there. (let from = Has-map_from (λ (z : Placed). z.act) front a there in
                  λ f new. call_adds_none s ready.owns procedure ready.class.parts_named formals actuals
                  (acting.unseen_plain table typed effects input ready inner n actuals result e none) called.actuals_stay from.0
                  (subst (λ z. Has z from.0) (sym is) (Has-append_left front others from.0 from.1)) f (subst (λ z. Has (adds z) f) (sym from.2) new)))
                  facts_here (Moved (extend name q)) known.1,
            )

        -- where the actuals are evaluated, the checks of the outs are made in the memory before the call
        entered_holds : (f : List Passed → Memory → Outcome) → Enters at ready.accepted.settled n actuals f → (passed : List Passed) → AreLaidOut s sees inner.state.memory depth inner.views view_there formals actuals passed
            → NoneFails Excused spots (checks_of (f passed inner.state.memory))
        entered_holds f enters passed laid = by_room (nat_le (frames_with at ready.accepted.settled n actuals passed inner.state.memory) stack_words) refl
          where
            by_room : (b : Bool) → nat_le (frames_with at ready.accepted.settled n actuals passed inner.state.memory) stack_words ≡ b → NoneFails Excused spots (checks_of (f passed inner.state.memory))
            by_room false full = subst (λ z. NoneFails Excused spots (checks_of z)) (sym (enters.full passed inner.state.memory full)) (none_made Excused spots)
            by_room true fits =
                subst (λ z. NoneFails Excused spots (checks_of z)) (sym (enters.fits passed inner.state.memory fits))
                (outs_hold s sees ready.accepted.settled depth inner.views elsewhere_here inner.state.memory (waiting_in (here.easy table typed effects input ready inner exact_before).state) inner.state.leaks facts_here variables_here (here.exact table typed effects input ready inner exact_before) (innermost.ownless_easy table typed effects input ready inner
                (calling.plain_there table typed effects input ready inner n actuals result e).0).1 (inner.holds.only, inner.holds.parts.only) Excused inner.p.pos procedure
                (values ++ copies) knows_there formals actuals passed laid called.actuals_stay values refl)

        evaluated_holds : (f : List Passed → Memory → Outcome) → Enters at ready.accepted.settled n actuals f → (y : Evaluated (List Passed))
            → Quiet (calling.then_now table typed effects input ready inner n actuals result e) Given_there y → NoneFails Excused spots (checks_of (steps.evaluated at y f))
        evaluated_holds f enters (Done passed now) (same, given) =
            subst (λ (z : Now). NoneFails Excused spots (checks_of (f passed z.memory))) (sym same) (entered_holds f enters passed (calling.given_laid table typed effects input ready inner n actuals result e passed given))
        evaluated_holds f enters (Raises how now) same = none_made Excused spots
        evaluated_holds f enters (Traps how now) never = absurd never

        plain_holds : Holds inner.top inner.state
        plain_holds =
            laid_holds inner.state inner.top inner.named inner.p inner.of_sub inner.at_point (subst (HoldsBy inner.state inner.top inner.named inner.p inner.of_sub inner.at_point) (sym e)
            (subst (λ z. NoneFails Excused z (checks_of (step program input inner.state))) (sym spots_are)
            (subst (λ z. NoneFails Excused spots (checks_of z)) (sym (standing.step_is table typed effects input ready inner.state inner.top older outer inner.named inner.p inner.frames inner.of_sub inner.at_point ∙ ap (turn at) e))
            (called_holds (record { fits = λ passed m fits. rw fits refl; full = λ passed m full. rw full refl })))))
          where
            -- as the machine calls
            called_holds : {f : List Passed → Memory → Outcome} → Enters at ready.accepted.settled n actuals f
                → NoneFails Excused spots (checks_of (steps.evaluated at (all_passed (steps.here at) (passings s (sub_at s n)) formals actuals (start at)) f))
            called_holds {f} enters =
                evaluated_holds f enters (all_passed (steps.here at) (passings s (sub_at s n)) formals actuals (start at)) (calling.passed_quiet table typed effects input ready inner n actuals result e)

      -- where one is, nothing is passed for a formal of mode `out`
      traversal_holds : (f : ℕ) → traversed_formal s (sub_of program n) ≡ Some f → Holds inner.top inner.state
      traversal_holds f traversed =
          laid_holds inner.state inner.top inner.named inner.p inner.of_sub inner.at_point (subst (HoldsBy inner.state inner.top inner.named inner.p inner.of_sub inner.at_point) (sym e)
          (subst (λ z. NoneFails Excused z (checks_of (step program input inner.state))) (sym none_there) tt))
        where
          made : IsTraversing program n f
          made = acting.traversing table typed effects input ready inner n actuals result e f traversed

          made_call : IsTraversalCall s inner.named (flow_at own inner.named inner.p).next n actuals
          made_call = acting.made table typed effects input ready inner n actuals result e f traversed

          all_ways : passings own (sub_at own n) ≡ Traversed ∷ map (passing s false) made.rest
          all_ways =
              sym (ways_same s own agree n (λ x formal. called.formals x (subst (λ (z : Signature). Has z.formals x) (signature_is program n) formal)))
              ∙ made.ways

          counted : ℕ
          counted = length (actual_values own (passings own (sub_at own n)) actuals)

          none_there : call_spots own (passings own (sub_at own n)) actuals counted ≡ []
          none_there =
              ap (λ z. call_spots own z actuals counted) all_ways ∙ ap (λ z. call_spots own (Traversed ∷ map (passing s false) made.rest) z counted) made_call.actuals_are
              ∙ ins_none s own false made.rest ((made_call.call).others) (counted + 0)
              (followed.modes table typed effects input ready inner.state inner.top older outer inner.named inner.p inner.frames inner.of_sub inner.at_point inner.path n actuals result e f traversed)

      call_holds : Holds inner.top inner.state
      call_holds = by_either (acting.traverses_or table typed effects input ready inner n actuals result e) (λ none. (plain_holds none)) (λ (f, traversed). (traversal_holds f traversed))

    main_holds : Holds inner.top inner.state
    main_holds = by_either (finish_or inner.p.instr)
        (λ finishes. (finish_holds inner.state inner.top inner.named inner.p inner.of_sub inner.at_point finishes))
        (λ end. (by_either (end_or inner.p.instr)
        (λ (y, is). (laid_holds inner.state inner.top inner.named inner.p inner.of_sub inner.at_point (ended_checks_hold table typed effects input ready inner exact_before y is)))
        (λ going. (by_either (call_or inner.p.instr)
        (λ (n, actuals, result, e). (call_holds n actuals result e))
        (λ calls. (laid_holds inner.state inner.top inner.named inner.p inner.of_sub inner.at_point (checks_hold table typed effects input ready inner exact_before going calls end)))))))

  by_stages : (state : State) (top : Stage) (views : Views) (older : List ViewStage) (fs : List Frame) → state.frames ≡ fs → AreStages (top ∷ stages_of older) fs
      → IsRunning table typed effects state (record { stage = top; views = views; cells = [] }) older → AreAwaited table typed None (top ∷ stages_of older)
      → ControlPath (path_points program effects (sub_of program top.frame.sub)) top.before top.frame.next
      → ViewedAlone (home s top.depth) sees (known_gone (home s top.depth) (GoneElsewhere program effects older)) views (view_here s state) (facts_of program effects top)
      → Kept s state.memory (waiting_in state)
      → (named : NamedSub) → IsNamedSub (flow_named table typed) top.frame.sub named → (p : NamedPoint) → IsAtPoint named.points top.frame.next p
      → InScope s state.memory top.depth (lasting_of s p.scope) → HoldsAt s sees top.depth views state.memory p → ArePlaced program top.depth (facts_of program effects top) views p.scope × IsBeyond program effects top.depth views older
      → NoneAbove s top.depth state.memory × HasTraversals table typed (view_here s state) (record { stage = top; views = views; cells = [] } ∷ older)
      → Told (seen s state.memory [] []) (IsDefiniteOf program effects (record { stage = top; views = views; cells = [] } ∷ older))
      → Holds top state
  by_stages state top views [] fs is stages running awaiting path well kept named of_sub p at_point scope holds there above exact =
      package_holds state top named p running.0 of_sub at_point
  by_stages state top views (below ∷ more) (f ∷ (g ∷ rest)) is (frame, deep, (around_frame, deeper, others)) running awaiting path well kept named of_sub p at_point scope holds there above exact =
      main_holds (record {
        state = state;
        top = top;
        below = below;
        more_frames = more;
        rest = rest;
        named = named;
        p = p;
        frames = is ∙ (λ j. sym frame j ∷ (sym around_frame j ∷ rest));
        deep = deep;
        stages = (refl, deeper, others);
        running = running;
        awaiting = awaiting;
        of_sub = of_sub;
        at_point = at_point;
        path = path;
        views = views;
        viewed_before = subst (λ d. ViewedAlone (home s d) sees (known_gone (home s d) (GoneElsewhere program effects (below ∷ more))) views (view_here s state) (facts_of program effects top)) deep well;
        kept = kept;
        scope = subst (λ d. InScope s state.memory d (lasting_of s p.scope)) deep scope;
        holds = subst (λ d. HoldsAt s sees d views state.memory p) deep holds;
        placed_before = subst (λ d. ArePlaced program d (facts_of program effects top) views p.scope × IsBeyond program effects d views (below ∷ more)) deep there;
        above = (subst (λ d. NoneAbove s d state.memory) deep above.0, above.1);
      }) exact
  by_stages state top views (below ∷ more) [] is stages running awaiting path well kept named of_sub p at_point scope holds there above exact = absurd stages
  by_stages state top views (below ∷ more) (f ∷ []) is stages running awaiting path well kept named of_sub p at_point scope holds there above exact = absurd stages.2

  pub excused_hold : ExcusedHold table typed effects input
  excused_hold state sound exact =
      by_stages state sound.top sound.views sound.older state.frames refl sound.stages sound.running sound.awaited sound.path sound.viewed sound.kept sound.named sound.of_sub
      sound.point sound.at_point sound.scope sound.holds (sound.placed, sound.past) (sound.none_above, sound.traversals) exact
